-- The finding of a number is one of the round's.
use Rattle.std.proofs.Common.{◌≡◌, ℕ, List, All, Option, Some, None, IfSome, sym}
use Rattle.std.specs.Borrow.{Bor}
use Rattle.std.specs.Option.{option_copied}
use Rattle.tfpg_evidence.specs.declared.finding.Finding.{Finding}
use Rattle.tfpg_evidence.specs.RoundOf.{finding_numbered}
use Rattle.tfpg_evidence.proofs.lemmas.FindingsByNumber.{finding_numbered-all}

-- what holds of each finding holds of that of a number
pub found_holds : (P : Finding → Type 0) (findings : List Finding) (number : ℕ) (found : Option (Bor Finding)) → All P findings
    → option_copied found ≡ finding_numbered findings number → IfSome found (λ finding. P finding.now)
found_holds P findings number None each is = tt
found_holds P findings number (Some finding) each is = finding_numbered-all P findings number finding.now each (sym is)
