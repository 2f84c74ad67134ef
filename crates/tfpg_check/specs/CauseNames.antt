-- The names of why a line of a report, of a map or of a script is refused.
use Rattle.std.specs.Prelude.{ℕ, List, codes}
use Rattle.tfpg_check.specs.declared.cause.CheckCause.{CheckCause}
use Rattle.tfpg_check.specs.declared.cause.CheckCause.TheVariants as check

-- the name of why a line of the input or of the script is refused
abbrev pub check_cause_name : CheckCause → List ℕ
check_cause_name check.AfterClosed = codes "AfterClosed"
check_cause_name check.NotReusable = codes "NotReusable"
check_cause_name check.NotAClause = codes "NotAClause"
check_cause_name check.NotAFact = codes "NotAFact"
check_cause_name check.NotOnPath = codes "NotOnPath"
check_cause_name check.Unchained = codes "Unchained"
check_cause_name check.NotNegative = codes "NotNegative"
check_cause_name check.BadReport = codes "BadReport"
check_cause_name check.Surplus = codes "Surplus"
check_cause_name check.WrongRound = codes "WrongRound"
check_cause_name check.WrongHypothesis = codes "WrongHypothesis"
check_cause_name check.WrongRanked = codes "WrongRanked"
check_cause_name check.NotATrace = codes "NotATrace"
check_cause_name check.WrongOpen = codes "WrongOpen"
check_cause_name check.WrongRejected = codes "WrongRejected"
check_cause_name check.WrongStatus = codes "WrongStatus"
check_cause_name check.WrongCounts = codes "WrongCounts"
check_cause_name check.EndsEarly = codes "EndsEarly"
check_cause_name check.BadMap = codes "BadMap"
check_cause_name check.BadScript = codes "BadScript"
