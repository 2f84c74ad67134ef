use Rattle.std.proofs.Common.{List, length, ◌<◌, ap, arith, refl, subst, sym}
use Rattle.std.specs.List.{All}
use Rattle.tfpg_base.specs.Trace.{IsRisingByNode}
use Rattle.tfpg_base.specs.declared.activation.Activation.{Activation}
use Rattle.tfpg_base.specs.declared.limits.TheConstants.{MAX_MEMBERS, MAX_NODE_NUMBERS}
use Rattle.tfpg_graph.specs.Graph.{failures, sizes_of}
use Rattle.tfpg_evidence.specs.RoundOf.{IsStatusOf}
use Rattle.tfpg_embed.proofs.lemmas.Masks.{all_below, few_active}
use Rattle.tfpg_embed.proofs.ranking.numbers_of.Goals as goal

pub overflow_cast-result : goal.overflow_cast-result
overflow_cast-result c =
    let nodes = length c.args.graph.now.nodes in
    let within = subst (IsStatusOf (sizes_of c.args.graph.now)) c.in-Ranked.is c.requires.of_graph.status in
    let few = few_active c.as_slice.result.now nodes (subst IsRisingByNode (sym c.as_slice.ensures.value) c.as_slice.ensures.rising)
    (subst (λ (trace : List Activation). All (λ activation. activation.node < nodes) trace) (sym c.as_slice.ensures.value) within) in
    record { fits = omega (arith, few, c.is_always_valid.ensures.few) }

pub failures_word-requires : goal.failures_word-requires
failures_word-requires c = all_below (length (failures c.args.graph.now)) MAX_MEMBERS c.args.finding.now.set c.is_always_valid.ensures.valid.so_far.few_failures c.requires.of_graph.set

pub doubts_words-requires : goal.doubts_words-requires
doubts_words-requires c = all_below (length c.args.graph.now.nodes) MAX_NODE_NUMBERS c.args.finding.now.doubts c.is_always_valid.ensures.few c.requires.of_graph.doubts

pub returns : goal.returns
returns c = record {
  failures = c.failures_word.ensures;
  doubts = c.doubts_words.ensures;
  hypothesis = refl;
  trace = c.in-Ranked.trace;
  status = c.in-Ranked.is;
  active = ap length c.as_slice.ensures.value;
}
