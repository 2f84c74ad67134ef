-- What the words of a line without a set are read as, by their keyword.
use Rattle.std.specs.Prelude.{ℕ, List, [], ◌∷◌, take, drop, position, ◌==◌, if◌then◌else◌, Bool, true, false, Option, Some, None, option_and_then, option_map, codes, bytes_eq}
use Rattle.tfpg_base.specs.declared.limits.TheConstants.{MAX_BUDGET, MAX_DOUBT, MAX_K, MAX_LINE_NUMBER, MAX_PANEL_NUMBER, MAX_TIME}
use Rattle.tfpg_graph.specs.Graph.{Tfpg}
use Rattle.tfpg_log.specs.declared.refusal.Refusal.{Refusal}
use Rattle.tfpg_log.specs.declared.refusal.Refusal.TheVariants as refusal
use Rattle.tfpg_evidence.specs.declared.clause_name.ClauseName.{ClauseName}
use Rattle.tfpg_evidence.specs.declared.clause_name.ClauseName.TheVariants as clause
use Rattle.tfpg_evidence.specs.declared.reason.Reason.{Reason}
use Rattle.tfpg_evidence.specs.declared.reason.Reason.TheVariants as reason
use Rattle.tfpg_log.specs.declared.refused_line.RefusedLine.{RefusedLine}
use Rattle.tfpg_log.specs.declared.refused_line.RefusedLine.TheVariants as refused
use Rattle.tfpg_report.specs.declared.report_line.ReportLine.{ReportLine}
use Rattle.tfpg_report.specs.declared.report_line.ReportLine.TheVariants as says
use Rattle.tfpg_report.specs.inside.FirstWords.{small, number_first, small_first, node_first, edge_first, after_word, number_after, small_after, if_last, set_last}
use Rattle.tfpg_report.specs.declared.reading.read_findings.RankedNumbers.{RankedNumbers}

-- words, and what was read of the words before them
abbrev pub Rest : Type 0
Rest = ℕ × List (List ℕ)

-- ---- the first line, and the lines of a refused line and a lost panel

-- the first line, by the words after its version
abbrev pub new_head_in : List (List ℕ) → Option ReportLine
new_head_in words =
    option_and_then (λ (k : Rest).
    option_and_then (λ (doubt : Rest).
    option_and_then (λ (budget : Rest).
    if budget.0 == 0 then None else if_last budget.1 (says.Head (record { k = k.0; doubt = doubt.0; budget = budget.0 })))
    (number_after (codes "budget") MAX_BUDGET doubt.1))
    (number_after (codes "doubt") MAX_DOUBT k.1))
    (number_after (codes "k") MAX_K words)

-- its older form
abbrev pub old_head_in : List (List ℕ) → Option ReportLine
old_head_in words =
    option_and_then (λ (k : Rest).
    option_and_then (λ (budget : Rest). if budget.0 == 0 then None else if_last budget.1 (says.OldHead k.0 budget.0))
    (number_after (codes "budget") MAX_BUDGET k.1))
    (number_after (codes "k") MAX_K words)

-- the one or the other, by its version
abbrev pub head_in : List (List ℕ) → Option ReportLine
head_in [] = None
head_in (version ∷ words) =
    if bytes_eq version (codes "2") then new_head_in words else (if bytes_eq version (codes "1") then old_head_in words else None)

-- the refusal that the log names by one word
abbrev pub refusal_named : List ℕ → Option Refusal
refusal_named name =
    if bytes_eq name (codes "BadLine") then Some refusal.BadLine
    else (if bytes_eq name (codes "BadNumber") then Some refusal.BadNumber
    else (if bytes_eq name (codes "TimeTooLarge") then Some refusal.TimeTooLarge
    else (if bytes_eq name (codes "UnknownName") then Some refusal.UnknownName
    else (if bytes_eq name (codes "NotMonitored") then Some refusal.NotMonitored
    else (if bytes_eq name (codes "NotAMode") then Some refusal.NotAMode
    else (if bytes_eq name (codes "LogFull") then Some refusal.LogFull
    else (if bytes_eq name (codes "ModesFull") then Some refusal.ModesFull else None)))))))

-- the cause that one word names
abbrev pub cause_named : List ℕ → Option RefusedLine
cause_named name =
    if bytes_eq name (codes "TooLong") then Some refused.TooLong else option_map refused.Offer (refusal_named name)

-- the cause that has the time of the last event after its name
abbrev pub time_back_in : List (List ℕ) → Option RefusedLine
time_back_in words =
    option_and_then (λ (last : Rest). if_last last.1 (refused.Offer (refusal.TimeBack last.0))) (number_first MAX_TIME words)

-- why a line is refused
abbrev pub cause_in : List (List ℕ) → Option RefusedLine
cause_in [] = None
cause_in (name ∷ words) =
    if bytes_eq name (codes "TimeBack") then time_back_in words
    else option_and_then (λ cause. if_last words cause) (cause_named name)

-- a refused line
abbrev pub refused_in : List (List ℕ) → Option ReportLine
refused_in words =
    option_and_then (λ (line : Rest). option_map (says.Refused line.0) (cause_in line.1)) (number_first MAX_LINE_NUMBER words)

-- whether memory ran out for a panel
abbrev pub loss_in : List (List ℕ) → Option Bool
loss_in [] = None
loss_in (word ∷ words) =
    if bytes_eq word (codes "lost") then if_last words false
    else (if bytes_eq word (codes "memory") then if_last words true else None)

-- a lost panel
abbrev pub panel_in : List (List ℕ) → Option ReportLine
panel_in words =
    option_and_then (λ (panel : Rest). option_map (says.Panel panel.0) (loss_in panel.1)) (number_first MAX_PANEL_NUMBER words)

-- the first line of a round
abbrev pub round_in : List (List ℕ) → Option ReportLine
round_in words =
    option_and_then (λ (number : Rest).
    option_and_then (λ (line : Rest).
    option_and_then (λ (now : Rest). if_last now.1 (says.Round number.0 line.0 now.0))
    (number_first MAX_TIME line.1))
    (number_first MAX_LINE_NUMBER number.1))
    (small_first words)

-- its last line
abbrev pub counts_in : List (List ℕ) → Option ReportLine
counts_in words =
    option_and_then (λ (ranked : Rest).
    option_and_then (λ (covered : Rest).
    option_and_then (λ (rejected : Rest).
    option_and_then (λ (unsettled : Rest).
    if_last unsettled.1 (says.Counts (record { ranked = ranked.0; covered = covered.0; rejected = rejected.0; unsettled = unsettled.0 })))
    (small_after (codes "open") rejected.1))
    (small_after (codes "rejected") covered.1))
    (small_after (codes "covered") ranked.1))
    (small_after (codes "ranked") words)

-- a line that begins or ends a block
abbrev pub block_line_in : List ℕ → List (List ℕ) → Option ReportLine
block_line_in keyword words =
    if bytes_eq keyword (codes "refused") then refused_in words
    else (if bytes_eq keyword (codes "round") then round_in words
    else (if bytes_eq keyword (codes "counts") then counts_in words
    else (if bytes_eq keyword (codes "panel") then panel_in words
    else (if bytes_eq keyword (codes "report") then head_in words else None))))

-- ---- the lines of the steps of a hypothesis

-- the number of a hypothesis
abbrev pub hyp_in : List (List ℕ) → Option ReportLine
hyp_in words = option_and_then (λ (number : Rest). if_last number.1 (says.Hyp number.0)) (small_first words)

-- a cycle
abbrev pub cycle_in : List (List ℕ) → Option ReportLine
cycle_in words = option_and_then (λ (count : Rest). if_last count.1 (says.Cycle count.0)) (small_first words)

-- the number of a span, and a horizon
abbrev pub span_and_horizon : List (List ℕ) → Option (ℕ × ℕ)
span_and_horizon words =
    option_and_then (λ (span : Rest).
    option_and_then (λ (horizon : Rest). if_last horizon.1 (span.0, horizon.0))
    (number_first MAX_TIME span.1))
    (small_first words)

-- a clause of a node
abbrev pub node_clause_in : (ℕ → ℕ → ℕ → ClauseName) → Tfpg → List (List ℕ) → Option ClauseName
node_clause_in named graph words =
    option_and_then (λ (node : Rest). option_map (λ (until : ℕ × ℕ). named node.0 until.0 until.1) (span_and_horizon node.1))
    (node_first graph words)

-- a clause of an edge
abbrev pub edge_clause_in : (ℕ → ℕ → ℕ → ClauseName) → Tfpg → List (List ℕ) → Option ClauseName
edge_clause_in named graph words =
    option_and_then (λ (edge : Rest). option_map (λ (until : ℕ × ℕ). named edge.0 until.0 until.1) (span_and_horizon edge.1))
    (edge_first graph words)

-- the name of a clause
abbrev pub clause_in : Tfpg → List (List ℕ) → Option ClauseName
clause_in graph [] = None
clause_in graph (kind ∷ words) =
    if bytes_eq kind (codes "ormay") then node_clause_in clause.OrMay graph words
    else (if bytes_eq kind (codes "andmay") then edge_clause_in clause.AndMay graph words
    else (if bytes_eq kind (codes "ormust") then edge_clause_in clause.OrMust graph words
    else (if bytes_eq kind (codes "andmust") then node_clause_in clause.AndMust graph words else None)))

-- a split
abbrev pub split_in : Tfpg → List (List ℕ) → Option ReportLine
split_in graph words = option_map says.Split (clause_in graph words)

-- a reason that names a node alone
abbrev pub node_reason_in : (ℕ → Reason) → Tfpg → List (List ℕ) → Option Reason
node_reason_in of_node graph words = option_and_then (λ (node : Rest). if_last node.1 (of_node node.0)) (node_first graph words)

-- a reason that names an event alone
abbrev pub event_reason_in : (ℕ → Reason) → List (List ℕ) → Option Reason
event_reason_in of_event words = option_and_then (λ (event : Rest). if_last event.1 (of_event event.0)) (small_first words)

-- a node that is not reached, with a horizon
abbrev pub unreached_in : Tfpg → List (List ℕ) → Option Reason
unreached_in graph words =
    option_and_then (λ (node : Rest).
    option_and_then (λ (horizon : Rest). if_last horizon.1 (reason.Unreached node.0 horizon.0))
    (number_first MAX_TIME node.1))
    (node_first graph words)

-- an event that says of a node that it was not active
abbrev pub quiet_in : Tfpg → List (List ℕ) → Option Reason
quiet_in graph words =
    option_and_then (λ (event : Rest).
    option_and_then (λ (node : Rest). if_last node.1 (reason.Quiet event.0 node.0))
    (node_first graph event.1))
    (small_first words)

-- a constraint of the alternative that was taken at a split
abbrev pub pick_in : List (List ℕ) → Option Reason
pick_in words =
    option_and_then (λ (split : Rest).
    option_and_then (λ (constraint : Rest). if_last constraint.1 (reason.Pick split.0 constraint.0))
    (small_first split.1))
    (number_first MAX_LINE_NUMBER words)

-- a reason
abbrev pub reason_in : Tfpg → List (List ℕ) → Option Reason
reason_in graph [] = None
reason_in graph (kind ∷ words) =
    if bytes_eq kind (codes "from") then event_reason_in reason.From words
    else (if bytes_eq kind (codes "upto") then event_reason_in reason.Upto words
    else (if bytes_eq kind (codes "pick") then pick_in words
    else (if bytes_eq kind (codes "quiet") then quiet_in graph words
    else (if bytes_eq kind (codes "unreached") then unreached_in graph words
    else (if bytes_eq kind (codes "zero") then node_reason_in reason.Zero graph words
    else (if bytes_eq kind (codes "top") then node_reason_in reason.Top graph words else None))))))

-- a reason, on a line of its own
abbrev pub why_in : Tfpg → List (List ℕ) → Option ReportLine
why_in graph words = option_map says.Why (reason_in graph words)

-- a subtree that is used again
abbrev pub again_in : List (List ℕ) → Option ReportLine
again_in words = if_last words says.Again

-- a line of the steps of a hypothesis, or one that begins or ends a block
abbrev pub step_line_in : Tfpg → List ℕ → List (List ℕ) → Option ReportLine
step_line_in graph keyword words =
    if bytes_eq keyword (codes "why") then why_in graph words
    else (if bytes_eq keyword (codes "cycle") then cycle_in words
    else (if bytes_eq keyword (codes "split") then split_in graph words
    else (if bytes_eq keyword (codes "again") then again_in words
    else (if bytes_eq keyword (codes "hyp") then hyp_in words else block_line_in keyword words))))

-- ---- the lines of what was found

-- an activation
abbrev pub at_in : Tfpg → List (List ℕ) → Option ReportLine
at_in graph words =
    option_and_then (λ (node : Rest).
    option_and_then (λ (time : Rest). if_last time.1 (says.At (record { node = node.0; time = time.0 })))
    (number_first MAX_TIME node.1))
    (node_first graph words)

-- all but the first byte
abbrev pub without_first : List ℕ → Option (List ℕ)
without_first [] = None
without_first (first ∷ others) = Some others

-- the two counts before and after the slash at this index
abbrev pub robust_at : List ℕ → ℕ → Option (ℕ × ℕ)
robust_at word slash =
    option_and_then (λ monitored_word.
    option_and_then (λ alarmed. option_map (λ monitored. (alarmed, monitored)) (small monitored_word))
    (small (take slash word)))
    (without_first (drop slash word))

-- how many of the monitored nodes have an alarm, and how many there are, with a slash between
abbrev pub robust_in : List ℕ → Option (ℕ × ℕ)
robust_in word = option_and_then (robust_at word) (position (λ byte. byte == 47) word)

-- the two counts of the first word, and the words after it
abbrev pub counts_first : List (List ℕ) → Option ((ℕ × ℕ) × List (List ℕ))
counts_first [] = None
counts_first (word ∷ others) = option_map (λ (robust : ℕ × ℕ). (robust, others)) (robust_in word)

-- the two counts after `robust`, and the words after them
abbrev pub robust_first : List (List ℕ) → Option ((ℕ × ℕ) × List (List ℕ))
robust_first words = option_and_then counts_first (after_word (codes "robust") words)

-- the numbers of a ranked hypothesis, and the words after them
abbrev pub ranked_first : List (List ℕ) → Option (RankedNumbers × List (List ℕ))
ranked_first words =
    option_and_then (λ (number : Rest).
    option_and_then (λ (cost : Rest).
    option_map (λ (robust : (ℕ × ℕ) × List (List ℕ)).
    (record { number = number.0; cost = cost.0; alarmed = robust.0.0; monitored = robust.0.1 }, robust.1))
    (robust_first cost.1))
    (small_after (codes "cost") number.1))
    (small_first words)

-- the numbers of a ranked hypothesis, and the text of its set
abbrev pub ranked_in : List (List ℕ) → Option (RankedNumbers × List ℕ)
ranked_in words =
    option_and_then (λ (numbers : RankedNumbers × List (List ℕ)). option_map (λ set. (numbers.0, set)) (set_last numbers.1))
    (ranked_first words)

-- the number of a hypothesis, and the text of its set
abbrev pub numbered_in : List (List ℕ) → Option (ℕ × List ℕ)
numbered_in words = option_and_then (λ (number : Rest). option_map (λ set. (number.0, set)) (set_last number.1)) (small_first words)

-- a line without a set
abbrev pub plain_line_in : Tfpg → List ℕ → List (List ℕ) → Option ReportLine
plain_line_in graph keyword words = if bytes_eq keyword (codes "at") then at_in graph words else step_line_in graph keyword words
