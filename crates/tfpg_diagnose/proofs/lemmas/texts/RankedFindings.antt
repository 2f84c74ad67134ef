-- What a round says of the hypothesis that it ranks at a place.
use Rattle.std.proofs.Common.{◌≡◌, ℕ, ◌<◌, ◌↔◌, List, length, Option, Some, None, IsTrue, IfSome, slice_get, get_or, ltb, true, refl, sym, subst, ◌∙◌}
use Rattle.std.specs.Prelude.{IsSome}
use Rattle.std.specs.Borrow.{Bor}
use Rattle.std.specs.Option.{option_copied}
use Rattle.std.proofs.lemmas.Bool.{ltb-true}
use Rattle.std.proofs.lemmas.Option.{slice_get_read, slice_get_within}
use Rattle.tfpg_base.proofs.lemmas.lists.Elements.{All-at}
use Rattle.tfpg_graph.specs.Graph.{Sizes}
use Rattle.tfpg_evidence.specs.declared.finding.Finding.{Finding}
use Rattle.tfpg_evidence.specs.declared.round.Round.{Round}
use Rattle.tfpg_evidence.specs.RoundOf.{IsFindingOf, IsRankedIn, IsRoundOf, finding_numbered, is_ranked}
use Rattle.tfpg_evidence.proofs.lemmas.FindingsByNumber.{finding_numbered-all}

-- a reference is there if what it points to is
some_copied : (found : Option (Bor Finding)) (finding : Finding) → option_copied found ≡ Some finding → IsSome found
some_copied None finding is = cc
some_copied (Some lent) finding is = refl

-- what holds of what it points to
copied_holds : (P : Finding → Type 0) (found : Option (Bor Finding)) (finding : Finding) → option_copied found ≡ Some finding → P finding → IfSome found (λ lent. P lent.now)
copied_holds P None finding is holds = tt
copied_holds P (Some lent) finding is holds = let same : finding ≡ lent.now = cc in subst P same holds

-- the number that a list has at a place
pub number_at : (lent order : List ℕ) (rank number : ℕ) → lent ≡ order → true ≡ ltb rank (length lent) → number ≡ get_or lent rank number → slice_get order rank ≡ Some number
number_at lent order rank number same within is =
    subst (λ (numbers : List ℕ). slice_get numbers rank ≡ Some number) same (slice_get_read lent (length lent) rank number refl (ltb-true rank (length lent) (sym within)) is)

module _ (sizes : Sizes) (round : Round) (is : IsRoundOf sizes round) (rank number : ℕ) (at : slice_get round.order rank ≡ Some number) (found : Option (Bor Finding))
    (says : option_copied found ≡ finding_numbered round.findings number) where
  -- the ranked finding of this number
  there : IsRankedIn round.findings number
  there = All-at (IsRankedIn round.findings) round.order rank number is.order at

  pub rank_found : IsSome found ↔ (rank < length round.order)
  rank_found = (λ some. slice_get_within round.order rank number at, λ below. some_copied found there.0 (says ∙ there.1))

  pub found_is_ranked : IfSome found (λ finding. IsTrue (is_ranked finding.now.status))
  found_is_ranked = copied_holds (λ (finding : Finding). IsTrue (is_ranked finding.status)) found there.0 (says ∙ there.1) there.2

  pub found_is_of_graph : IfSome found (λ finding. IsFindingOf sizes finding.now)
  found_is_of_graph = copied_holds (IsFindingOf sizes) found there.0 (says ∙ there.1) (finding_numbered-all (IsFindingOf sizes) round.findings number there.0 is.findings there.1)
