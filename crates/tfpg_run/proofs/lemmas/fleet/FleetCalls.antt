-- The counted calls of the answers, with one answer more.
use Rattle.std.proofs.Common.{◌≡◌, ℕ, ◌+◌, ◌<◌, ◌==◌, Bool, true, false, List, [], ◌∷◌, ◌++◌, length, set, None, Some, refl, sym, ap, subst, subst₂, ◌∙◌, arith, replicate, get_or}
use Rattle.std.specs.Prelude.{All, slice_get, sum_by}
use Rattle.std.specs.Bool.{then_some}
use Rattle.std.proofs.lemmas.Bool.{eqb-true, eq-eqb, false≢true}
use Rattle.std.proofs.lemmas.List.{length-replicate, length-set}
use Rattle.std.proofs.lemmas.List.Elements.{All-replicate}
use Rattle.std.proofs.lemmas.List.Sums.{sum_by-set}
use Rattle.std.proofs.lemmas.Option.{same_Some, slice_get-get_or}
use Rattle.tfpg_base.proofs.lemmas.lists.Elements.{All-at}
use Rattle.tfpg_base.proofs.lemmas.lists.Valued.{filter_map-push_none, filter_map-push_some}
use Rattle.tfpg_base.proofs.lemmas.lists.Written.{slice_get-set_other, slice_get-set_same}
use Rattle.tfpg_check.specs.Report.{progress_of}
use Rattle.tfpg_diagnose.specs.Work.{AreBlocksWithin}
use Rattle.tfpg_diagnose.specs.inside.LineBlocks.{IsBlockWithin}
use Rattle.tfpg_diagnose.proofs.lemmas.NextBlocks.{blocks_within-none, blocks_within-push}
use Rattle.tfpg_fleet.specs.Belonging.{belongs, lines_for, vehicle_line}
use Rattle.tfpg_fleet.proofs.lemmas.LinesFor.{lines-other, lines-own, lines-stray}
use Rattle.tfpg_report.specs.Blocks.{Block}
use Rattle.tfpg_run.specs.fleet.Answers.{Answer, OwnBlock, StrayLine, block_for, blocks_for}
use Rattle.tfpg_run.specs.fleet.FleetOutput.{FleetProblem}
use Rattle.tfpg_run.specs.fleet.FleetWork.{AreAnswersWithin}

-- without an answer there is no call
pub answers_within-none : (fleet : FleetProblem) (count : ℕ) → AreAnswersWithin fleet [] [] count count
answers_within-none fleet count =
    let none = replicate (length fleet.names) 0 in
    record {
      calls = none;
      one_each = length-replicate (length fleet.names) 0;
      each = λ number own at.
          let is : own ≡ 0 = All-at (λ (n : ℕ). n ≡ 0) none number own (All-replicate (λ (n : ℕ). n ≡ 0) (length fleet.names) 0 refl) at in
          subst (AreBlocksWithin fleet.graph [] [] 0) (sym is) (blocks_within-none fleet.graph 0);
      within = omega arith;
    }

module _ (fleet : FleetProblem) (lines : List (List ℕ)) (answers : List Answer) (text : List ℕ) where
  -- nor is there one for a stray line
  pub answers_within-stray : (start middle finish : ℕ) → belongs fleet.names text ≡ None → finish ≡ middle → AreAnswersWithin fleet lines answers start middle
      → AreAnswersWithin fleet (lines ++ text ∷ []) (answers ++ StrayLine ∷ []) start finish
  answers_within-stray start middle finish none same is = record {
    calls = is.calls;
    one_each = is.one_each;
    each = λ number own at. subst₂ (λ (ls : List (List ℕ)) (bs : List Block). AreBlocksWithin fleet.graph ls bs 0 own)
        (sym (lines-stray fleet.names text none lines number)) (sym (filter_map-push_none (block_for number) answers StrayLine refl)) (is.each number own at);
    within = omega (arith, same, is.within);
  }

  -- a line of a vehicle takes those of its own block
  module _ (number : ℕ) (own : List ℕ) (block : Block) (for_it : belongs fleet.names text ≡ Some (vehicle_line number own)) (inside : number < length fleet.names)
      (one_each : length (blocks_for number answers) ≡ length (lines_for fleet.names number lines)) where
    abbrev more : List Answer
    more = answers ++ OwnBlock number block ∷ []

    its_blocks : (other : ℕ) → (number == other) ≡ true → blocks_for other more ≡ blocks_for other answers ++ block ∷ []
    its_blocks other same = filter_map-push_some (block_for other) answers (OwnBlock number block) block (ap (λ (b : Bool). then_some b block) same)

    other_blocks : (other : ℕ) → (number == other) ≡ false → blocks_for other more ≡ blocks_for other answers
    other_blocks other apart = filter_map-push_none (block_for other) answers (OwnBlock number block) (ap (λ (b : Bool). then_some b block) apart)

    module _ (start middle finish : ℕ) (is : AreAnswersWithin fleet lines answers start middle)
        (within : IsBlockWithin fleet.graph (progress_of fleet.graph (lines_for fleet.names number lines) (blocks_for number answers)) own block middle finish) where
      -- what the vehicle had taken, and has
      abbrev was : ℕ
      was = get_or is.calls number 0

      abbrev has : ℕ
      has = was + within.0

      there : slice_get is.calls number ≡ Some was
      there = slice_get-get_or is.calls number 0 (omega (arith, inside, is.one_each))

      each_now : (other count : ℕ) → slice_get (set is.calls number has) other ≡ Some count → (same : Bool) → (number == other) ≡ same
          → AreBlocksWithin fleet.graph (lines_for fleet.names other (lines ++ text ∷ [])) (blocks_for other more) 0 count
      each_now other count at true same =
          let here : number ≡ other = eqb-true number other same in
          let count_is : has ≡ count = same_Some has count
          (sym (slice_get-set_same is.calls number has (omega (arith, inside, is.one_each))) ∙ ap (slice_get (set is.calls number has)) here ∙ at) in
          subst (AreBlocksWithin fleet.graph (lines_for fleet.names other (lines ++ text ∷ [])) (blocks_for other more) 0) count_is
          (subst₂ (λ (ls : List (List ℕ)) (bs : List Block). AreBlocksWithin fleet.graph ls bs 0 has) (sym (lines-own fleet.names text number own for_it lines other same)) (sym (its_blocks other same))
          (subst (λ (n : ℕ). AreBlocksWithin fleet.graph (lines_for fleet.names n lines ++ own ∷ []) (blocks_for n answers ++ block ∷ []) 0 has) here
          (blocks_within-push fleet.graph (lines_for fleet.names number lines) (blocks_for number answers) own block 0 was has one_each (is.each number was there)
          (within.0, within.1, omega arith))))
      each_now other count at false apart =
          let differ : other ≡ number → ⊥ = λ e. false≢true (sym apart ∙ eq-eqb number other (sym e)) in
          subst₂ (λ (ls : List (List ℕ)) (bs : List Block). AreBlocksWithin fleet.graph ls bs 0 count) (sym (lines-other fleet.names text number own for_it lines other apart)) (sym (other_blocks other apart))
          (is.each other count (sym (slice_get-set_other is.calls number other has differ) ∙ at))

      pub answers_within-own : AreAnswersWithin fleet (lines ++ text ∷ []) more start finish
      answers_within-own = record {
        calls = set is.calls number has;
        one_each = length-set is.calls number has ∙ is.one_each;
        each = λ other count at. each_now other count at (number == other) refl;
        within = omega (arith, is.within, within.2, sum_by-set (λ (n : ℕ). n) is.calls number has 0 (omega (arith, inside, is.one_each)));
      }
