-- The finding of a number, and how a binary search finds it.
use Rattle.std.proofs.Common.{◌≡◌, ℕ, ◌<◌, eqb, List, length, get_or, All, Some, None, Ok, Err, slice_get, sym, ap, ◌∙◌, arith, ⊎_elim}
use Rattle.std.specs.List.{AllPairs}
use Rattle.std.specs.List.Sorted.{IsBinarySearchResult}
use Rattle.std.specs.Ordering.{nat_cmp}
use Rattle.std.proofs.lemmas.Cmp.{ranked}
use Rattle.std.proofs.lemmas.Bool.{eq-eqb, ne_eqb, cases_lt}
use Rattle.std.proofs.lemmas.List.Elements.{All-contains}
use Rattle.std.proofs.lemmas.Option.{slice_get-get_or}
use Rattle.tfpg_base.proofs.lemmas.lists.Elements.{AllPairs-at}
use Rattle.tfpg_base.proofs.lemmas.lists.FirstFound.{find_first, find-All_fail, find-passes}
use Rattle.tfpg_base.proofs.lemmas.lists.Ordered.{comparisons_rise}
use Rattle.tfpg_evidence.specs.declared.finding.Finding.{Finding}
use Rattle.tfpg_evidence.specs.RoundOf.{finding_numbered}

-- each number is below all later ones
abbrev pub RiseByNumber : List Finding → Type 0
RiseByNumber findings = AllPairs (λ earlier later. earlier.number < later.number) findings

-- a finding with a number that no earlier one has is the finding of that number
pub finding_numbered-first : (findings : List Finding) (number index : ℕ) (found : Finding) → slice_get findings index ≡ Some found → found.number ≡ number
    → ((earlier : ℕ) (finding : Finding) → earlier < index → slice_get findings earlier ≡ Some finding → finding.number ≡ number → ⊥)
    → finding_numbered findings number ≡ Some found
finding_numbered-first findings number index found at is never =
    find_first (λ (f : Finding). eqb f.number number) findings index found at (eq-eqb found.number number is)
    (λ earlier finding before there. ne_eqb finding.number number (never earlier finding before there))

-- where numbers rise, a finding is the first of its number
pub finding_numbered-at : (findings : List Finding) (number index : ℕ) (found : Finding) → RiseByNumber findings → index < length findings
    → get_or findings index found ≡ found → found.number ≡ number → finding_numbered findings number ≡ Some found
finding_numbered-at findings number index found rising within at is =
    let there : slice_get findings index ≡ Some found = slice_get-get_or findings index found within ∙ ap Some at in
    finding_numbered-first findings number index found there is
    (λ earlier finding before at_earlier same.
    let less : finding.number < found.number = AllPairs-at (λ (a b : Finding). a.number < b.number) findings earlier index finding found rising at_earlier there before in omega arith)

-- what a binary search by number found is the finding of the number
pub finding_numbered-found : (findings : List Finding) (number index : ℕ) (found : Finding) → RiseByNumber findings → index < length findings
    → IsBinarySearchResult (λ f. nat_cmp f.number number) findings (Ok index) → get_or findings index found ≡ found → finding_numbered findings number ≡ Some found
finding_numbered-found findings number index found rising within equal at =
    let is : (get_or findings index found).number ≡ number = ranked _ number _ (sym (equal found)) in
    finding_numbered-at findings number index found rising within at (ap (λ (f : Finding). f.number) (sym at) ∙ is)

-- where it found nothing, no finding has the number
pub finding_numbered-not_found : (findings : List Finding) (number index : ℕ) → RiseByNumber findings
    → IsBinarySearchResult (λ f. nat_cmp f.number number) findings (Err index) → finding_numbered findings number ≡ None
finding_numbered-not_found findings number index rising parted =
    let halves = parted (comparisons_rise (λ (f : Finding). f.number) findings number rising) in
    find-All_fail (λ (f : Finding). eqb f.number number) findings
    (λ k d within. ne_eqb (get_or findings k d).number number (λ e. ⊎_elim
    (λ before. let lesser : (get_or findings k d).number < number = ranked _ number _ (sym (halves.0 k d (omega arith) before)) in omega arith)
    (λ after. let greater : number < (get_or findings k d).number = ranked _ number _ (sym (halves.1 k d after within)) in omega arith)
    (cases_lt k index)))

-- what holds of each finding holds of that of a number
pub finding_numbered-all : (P : Finding → Type 0) (findings : List Finding) (number : ℕ) (found : Finding) → All P findings → finding_numbered findings number ≡ Some found → P found
finding_numbered-all P findings number found each is =
    All-contains P findings found each (find-passes (λ (f : Finding). eqb f.number number) findings found is).0
