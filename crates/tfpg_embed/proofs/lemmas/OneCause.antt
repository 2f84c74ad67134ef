-- That a number says one cause: the cause stands at its number in the list of all.
use Rattle.std.proofs.Common.{◌≡◌, ℕ, ◌-◌, List, [], ◌∷◌, Option, None, Some, slice_get, refl, sym, ap, ◌∙◌}
use Rattle.std.proofs.lemmas.Option.{same_Some}
use Rattle.tfpg_graph.specs.declared.cause.GraphCause.{GraphCause}
use Rattle.tfpg_graph.specs.declared.cause.GraphCause.TheVariants as graph
use Rattle.tfpg_check.specs.declared.cause.CheckCause.{CheckCause}
use Rattle.tfpg_check.specs.declared.cause.CheckCause.TheVariants as check
use Rattle.tfpg_log.specs.declared.refusal.Refusal.TheVariants as refusal
use Rattle.tfpg_log.specs.declared.refused_line.RefusedLine.{RefusedLine}
use Rattle.tfpg_log.specs.declared.refused_line.RefusedLine.TheVariants as line
use Rattle.tfpg_embed.specs.Causes.{check_cause_number, graph_cause_number}
use Rattle.tfpg_embed.specs.Results.{last_time, why_number}

-- the causes in the order of their numbers
abbrev graph_causes : List GraphCause
graph_causes =
    graph.BadHeader ∷ graph.BadLine ∷ graph.BadName ∷ graph.DuplicateName ∷ graph.UnknownName ∷ graph.BadNumber ∷ graph.NumberTooLarge ∷ graph.MinOverMax ∷ graph.EdgeIntoFailure ∷ graph.SelfEdge ∷ graph.DuplicateEdge ∷ graph.NoModes ∷ graph.NoIncoming ∷ graph.ZeroCycle ∷ graph.TooManyNodes ∷ graph.TooManyFailures ∷ graph.TooManyEdges ∷ graph.TooManyModes ∷ graph.TooManyIncoming ∷ graph.MissingEnd ∷ graph.AfterEnd ∷ []

abbrev check_causes : List CheckCause
check_causes =
    check.AfterClosed ∷ check.NotReusable ∷ check.NotAClause ∷ check.NotAFact ∷ check.NotOnPath ∷ check.Unchained ∷ check.NotNegative ∷ check.BadReport ∷ check.Surplus ∷ check.WrongRound ∷ check.WrongHypothesis ∷ check.WrongRanked ∷ check.NotATrace ∷ check.WrongOpen ∷ check.WrongRejected ∷ check.WrongStatus ∷ check.WrongCounts ∷ check.EndsEarly ∷ check.BadMap ∷ check.BadScript ∷ []

graph_cause_at : (cause : GraphCause) → slice_get graph_causes (graph_cause_number cause - 1) ≡ Some cause
graph_cause_at graph.BadHeader = refl
graph_cause_at graph.BadLine = refl
graph_cause_at graph.BadName = refl
graph_cause_at graph.DuplicateName = refl
graph_cause_at graph.UnknownName = refl
graph_cause_at graph.BadNumber = refl
graph_cause_at graph.NumberTooLarge = refl
graph_cause_at graph.MinOverMax = refl
graph_cause_at graph.EdgeIntoFailure = refl
graph_cause_at graph.SelfEdge = refl
graph_cause_at graph.DuplicateEdge = refl
graph_cause_at graph.NoModes = refl
graph_cause_at graph.NoIncoming = refl
graph_cause_at graph.ZeroCycle = refl
graph_cause_at graph.TooManyNodes = refl
graph_cause_at graph.TooManyFailures = refl
graph_cause_at graph.TooManyEdges = refl
graph_cause_at graph.TooManyModes = refl
graph_cause_at graph.TooManyIncoming = refl
graph_cause_at graph.MissingEnd = refl
graph_cause_at graph.AfterEnd = refl

check_cause_at : (cause : CheckCause) → slice_get check_causes (check_cause_number cause - 1) ≡ Some cause
check_cause_at check.AfterClosed = refl
check_cause_at check.NotReusable = refl
check_cause_at check.NotAClause = refl
check_cause_at check.NotAFact = refl
check_cause_at check.NotOnPath = refl
check_cause_at check.Unchained = refl
check_cause_at check.NotNegative = refl
check_cause_at check.BadReport = refl
check_cause_at check.Surplus = refl
check_cause_at check.WrongRound = refl
check_cause_at check.WrongHypothesis = refl
check_cause_at check.WrongRanked = refl
check_cause_at check.NotATrace = refl
check_cause_at check.WrongOpen = refl
check_cause_at check.WrongRejected = refl
check_cause_at check.WrongStatus = refl
check_cause_at check.WrongCounts = refl
check_cause_at check.EndsEarly = refl
check_cause_at check.BadMap = refl
check_cause_at check.BadScript = refl

pub one_graph_cause : (cause other : GraphCause) → graph_cause_number cause ≡ graph_cause_number other → cause ≡ other
one_graph_cause cause other same =
    same_Some cause other (sym (graph_cause_at cause) ∙ ap (λ (number : ℕ). slice_get graph_causes (number - 1)) same ∙ graph_cause_at other)

pub one_check_cause : (cause other : CheckCause) → check_cause_number cause ≡ check_cause_number other → cause ≡ other
one_check_cause cause other same =
    same_Some cause other (sym (check_cause_at cause) ∙ ap (λ (number : ℕ). slice_get check_causes (number - 1)) same ∙ check_cause_at other)

-- what a line may come to, with this time, in the order of the numbers
abbrev refusals : ℕ → List (Option RefusedLine)
refusals time =
    None ∷ Some (line.Offer refusal.BadLine) ∷ Some (line.Offer refusal.BadNumber) ∷ Some (line.Offer refusal.TimeTooLarge) ∷ Some (line.Offer (refusal.TimeBack time)) ∷ Some (line.Offer refusal.UnknownName) ∷ Some (line.Offer refusal.NotMonitored) ∷ Some (line.Offer refusal.NotAMode) ∷ Some (line.Offer refusal.LogFull) ∷ Some (line.Offer refusal.ModesFull) ∷ Some line.TooLong ∷ []

refusal_at : (why : Option RefusedLine) → slice_get (refusals (last_time why)) (why_number why) ≡ Some why
refusal_at None = refl
refusal_at (Some line.TooLong) = refl
refusal_at (Some (line.Offer refusal.BadLine)) = refl
refusal_at (Some (line.Offer refusal.BadNumber)) = refl
refusal_at (Some (line.Offer refusal.TimeTooLarge)) = refl
refusal_at (Some (line.Offer (refusal.TimeBack last))) = refl
refusal_at (Some (line.Offer refusal.UnknownName)) = refl
refusal_at (Some (line.Offer refusal.NotMonitored)) = refl
refusal_at (Some (line.Offer refusal.NotAMode)) = refl
refusal_at (Some (line.Offer refusal.LogFull)) = refl
refusal_at (Some (line.Offer refusal.ModesFull)) = refl

pub one_refusal : (why other : Option RefusedLine) → why_number why ≡ why_number other → last_time why ≡ last_time other → why ≡ other
one_refusal why other same time =
    same_Some why other (sym (refusal_at why) ∙ (λ i. slice_get (refusals (time i)) (same i)) ∙ refusal_at other)
