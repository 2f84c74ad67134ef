-- Lines spell at most one map.
use Rattle.std.proofs.Common.{◌≡◌, ℕ, List, ◌∷◌, map, sym, ap, ◌∙◌}
use Rattle.std.proofs.lemmas.List.Elements.{All-weaker}
use Rattle.std.proofs.lemmas.Option.{same_Some}
use Rattle.tfpg_base.specs.Hypothesis.{Hypothesis}
use Rattle.tfpg_base.specs.declared.activation.Activation.{Activation}
use Rattle.tfpg_base.specs.Trace.{time_of}
use Rattle.tfpg_base.specs.Words.{words_of}
use Rattle.tfpg_base.proofs.lemmas.SameTraces.{same_trace}
use Rattle.tfpg_graph.specs.Graph.{Tfpg}
use Rattle.tfpg_graph.specs.Valid.{IsValid}
use Rattle.tfpg_report.specs.inside.LineNames.{activation_line}
use Rattle.tfpg_report.proofs.lemmas.ActivationLines.{IsInRange, one_trace}
use Rattle.tfpg_report.proofs.lemmas.SetWords.{one_hypothesis}
use Rattle.tfpg_map.specs.Spelling.{IsActivationOf, SpellsMap, set_line}
use Rattle.tfpg_map.specs.inside.Lines.{word_after_set}
use Rattle.tfpg_map.proofs.lemmas.LineWords.{is_in_range, set_line-read}

-- Lines spell at most one map.
pub one_map : (graph : Tfpg) (lines : List (List ℕ)) (hypothesis other : Hypothesis) (trace more : List Activation) → IsValid graph → SpellsMap graph lines hypothesis trace → SpellsMap graph lines other more
    → (hypothesis ≡ other) × (trace ≡ more)
one_map graph lines hypothesis other trace more valid spells too =
    let all : set_line graph hypothesis ∷ map (activation_line graph) spells.listed ≡ set_line graph other ∷ map (activation_line graph) too.listed = sym spells.spelled ∙ too.spelled in
    let head : set_line graph hypothesis ≡ set_line graph other = cc in
    let tail : map (activation_line graph) spells.listed ≡ map (activation_line graph) too.listed = cc in
    let word = same_Some _ _ (sym (set_line-read graph valid hypothesis spells.of_graph) ∙ ap (λ (line : List ℕ). word_after_set (words_of line)) head ∙ set_line-read graph valid other too.of_graph) in
    let listed : spells.listed ≡ too.listed =
    one_trace graph valid spells.listed too.listed (All-weaker (IsActivationOf graph) (IsInRange graph valid) (is_in_range graph valid) spells.listed spells.of_nodes)
    (All-weaker (IsActivationOf graph) (IsInRange graph valid) (is_in_range graph valid) too.listed too.of_nodes) tail in (
      one_hypothesis graph valid hypothesis other spells.of_graph too.of_graph word,
      same_trace trace more spells.rising too.rising (λ node. spells.same_times node ∙ ap (λ (listed : List Activation). time_of listed node) listed ∙ sym (too.same_times node)),
    )
