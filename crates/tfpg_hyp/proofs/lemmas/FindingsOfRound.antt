-- The findings of a round by their numbers, and what the round has on each.
use Rattle.std.proofs.Common.{◌≡◌, ℕ, List, [], ◌∷◌, ◌++◌, map, Some, ap, ◌∙◌}
use Rattle.std.specs.Prelude.{slice_get, option_map, unwrap_or}
use Rattle.std.proofs.lemmas.List.{append-nil}
use Rattle.std.proofs.lemmas.Grind.{flat_map-append}
use Rattle.tfpg_base.specs.declared.terms.Terms.{Terms}
use Rattle.tfpg_base.proofs.lemmas.lists.Elements.{slice_get-same_length}
use Rattle.tfpg_base.specs.Hypothesis.{Hypothesis}
use Rattle.tfpg_graph.specs.Graph.{Tfpg}
use Rattle.tfpg_log.specs.Log.{Logbook}
use Rattle.tfpg_evidence.specs.declared.finding.Finding.{Finding}
use Rattle.tfpg_evidence.specs.declared.round.Round.{Round}
use Rattle.tfpg_evidence.specs.declared.step.Step.{Step}
use Rattle.tfpg_clause.specs.Trees.{Judged}
use Rattle.tfpg_hyp.specs.Rounds.{IsRound, IsFinding, steps_in, steps_so_far}

-- the round has this finding at this number
abbrev pub HasFindingAt : Round → ℕ → Finding → Type 0
HasFindingAt round number finding = slice_get round.findings number ≡ Some finding

-- each finding is on a hypothesis of the table
pub evidence : {graph : Tfpg} {terms : Terms} {line : ℕ} {rounds : List Round} {log : Logbook} {round : Round} (is_round : IsRound graph terms rounds log line round) (number : ℕ) (finding : Finding)
    → HasFindingAt round number finding
    → (hypothesis : Hypothesis) × (slice_get is_round.hypotheses number ≡ Some hypothesis) × IsFinding (record { graph = graph; log = log; terms = terms }) (rounds ++ round ∷ []) round.findings number hypothesis finding
evidence is_round number finding at =
    let own = slice_get-same_length is_round.hypotheses _ number finding is_round.complete at in
    (own.0, own.1, is_round.findings number own.0 finding own.1 at)

-- the steps of all rounds end with those of the last round, judged by the log of so many events that the round has as its number
pub steps_so_far-push : (number : ℕ) (rounds : List Round) (round : Round) (seen : ℕ) (finding : Finding) → round.number ≡ seen → HasFindingAt round number finding
    → steps_so_far number (rounds ++ round ∷ []) ≡ steps_so_far number rounds ++ map (λ (step : Step). record { seen = seen; step = step }) finding.steps
steps_so_far-push number rounds round seen finding numbered at =
    flat_map-append (steps_in number) rounds (round ∷ [])
    ∙ ap (λ (last : List Judged). steps_so_far number rounds ++ last)
    (append-nil (steps_in number round)
    ∙ (λ i. map (λ (step : Step). record { seen = numbered i; step = step }) (unwrap_or (option_map (λ (f : Finding). f.steps) (at i)) [])))
