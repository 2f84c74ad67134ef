-- The numbers of causes, as C sees them. `include/tfpg.h` has the same.
use Rattle.std.specs.Prelude.{ℕ}
use Rattle.tfpg_graph.specs.declared.cause.GraphCause.{GraphCause}
use Rattle.tfpg_graph.specs.declared.cause.GraphCause.TheVariants as graph
use Rattle.tfpg_check.specs.declared.cause.CheckCause.{CheckCause}
use Rattle.tfpg_check.specs.declared.cause.CheckCause.TheVariants as check

-- the number of what is wrong with a graph
abbrev pub graph_cause_number : GraphCause → ℕ
graph_cause_number graph.BadHeader = 1
graph_cause_number graph.BadLine = 2
graph_cause_number graph.BadName = 3
graph_cause_number graph.DuplicateName = 4
graph_cause_number graph.UnknownName = 5
graph_cause_number graph.BadNumber = 6
graph_cause_number graph.NumberTooLarge = 7
graph_cause_number graph.MinOverMax = 8
graph_cause_number graph.EdgeIntoFailure = 9
graph_cause_number graph.SelfEdge = 10
graph_cause_number graph.DuplicateEdge = 11
graph_cause_number graph.NoModes = 12
graph_cause_number graph.NoIncoming = 13
graph_cause_number graph.ZeroCycle = 14
graph_cause_number graph.TooManyNodes = 15
graph_cause_number graph.TooManyFailures = 16
graph_cause_number graph.TooManyEdges = 17
graph_cause_number graph.TooManyModes = 18
graph_cause_number graph.TooManyIncoming = 19
graph_cause_number graph.MissingEnd = 20
graph_cause_number graph.AfterEnd = 21

-- the number of why a report is refused
abbrev pub check_cause_number : CheckCause → ℕ
check_cause_number check.AfterClosed = 1
check_cause_number check.NotReusable = 2
check_cause_number check.NotAClause = 3
check_cause_number check.NotAFact = 4
check_cause_number check.NotOnPath = 5
check_cause_number check.Unchained = 6
check_cause_number check.NotNegative = 7
check_cause_number check.BadReport = 8
check_cause_number check.Surplus = 9
check_cause_number check.WrongRound = 10
check_cause_number check.WrongHypothesis = 11
check_cause_number check.WrongRanked = 12
check_cause_number check.NotATrace = 13
check_cause_number check.WrongOpen = 14
check_cause_number check.WrongRejected = 15
check_cause_number check.WrongStatus = 16
check_cause_number check.WrongCounts = 17
check_cause_number check.EndsEarly = 18
check_cause_number check.BadMap = 19
check_cause_number check.BadScript = 20
