use Rattle.std.proofs.Common.{rules, ◌≡◌, ◌+◌, [], ◌∷◌, min, length, refl, arith, ◌∙◌, ap, add-one}
use Rattle.std.proofs.lemmas.List.{length-append}
use Rattle.tfpg_base.specs.Hypothesis.{Hypothesis, believing}
use Rattle.tfpg_hyp.specs.inside.Choices.{chosen, chosen_below}
use Rattle.tfpg_hyp.proofs.lemmas.Larger.{listed-next, listed-first}
use Rattle.tfpg_hyp.proofs.lemmas.Listed.{listed-least}
use Rattle.tfpg_hyp.proofs.listing.list_hypotheses.Goals as goal

pub loop-size-init : goal.loop-size-init
loop-size-init c =
    let items : c.push.new.self.items ≡ believing [] ∷ [] = search rules in
    record { listed = items ∙ listed-first c.args.monitors.now c.args.doubt c.args.count c.requires.monitors.rising; first_is = refl }

pub loop-size-preserved : goal.loop-size-preserved
loop-size-preserved c = record {
  listed = listed-next c.args.monitors.now c.args.doubt c.args.count c.loop-size._size c.loop-size.first c.requires.monitors.rising c.loop-size.list.items c.append_next_size.new.list.items
      c.loop-size.invariant.listed c.loop-size.invariant.first_is c.in_ok-append_next_size.ensures;
  first_is = cc (c.len-next.ensures, ap length c.loop-size.invariant.listed);
}

pub append_next_size-requires-clause-first : goal.append_next_size-requires-clause-first
append_next_size-requires-clause-first c =
    let before = chosen_below c.args.monitors.now c.args.doubt c.args.count c.loop-size._size in
    let last = chosen c.args.monitors.now c.args.doubt c.args.count c.loop-size._size 0 in
    omega (
      arith,
      c.loop-size.invariant.first_is,
      ap length (c.loop-size.invariant.listed ∙ ap (chosen_below c.args.monitors.now c.args.doubt c.args.count) (add-one c.loop-size._size)),
      length-append before last,
    )

pub returns : goal.returns
returns c =
    let last : c.loop-size._size ≡ min c.args.k (c.args.count + c.args.doubt) = omega (arith, c.loop-size-test.false, c.loop-size.auto._size-end, c.min-sizes.ensures) in
    c.loop-size.invariant.listed ∙ ap (λ n. chosen_below c.args.monitors.now c.args.doubt c.args.count (n + 1)) last ∙ listed-least c.args.monitors.now c.args.doubt c.args.count c.args.k
