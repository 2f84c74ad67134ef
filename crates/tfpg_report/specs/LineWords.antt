-- The words of the lines of a report.
use Rattle.std.specs.Prelude.{ℕ, List, [], ◌∷◌, ◌++◌, Bool, if◌then◌else◌, option_map, unwrap_or, slice_get, codes, decimal}
use Rattle.tfpg_base.specs.declared.terms.Terms.{Terms}
use Rattle.tfpg_base.specs.Hypothesis.{Hypothesis}
use Rattle.tfpg_graph.specs.Graph.{Tfpg, name_word}
use Rattle.tfpg_log.specs.declared.refusal.Refusal.TheVariants.{BadLine, BadNumber, TimeTooLarge, TimeBack, UnknownName, NotMonitored, NotAMode, LogFull, ModesFull}
use Rattle.tfpg_evidence.specs.declared.clause_name.ClauseName.{ClauseName}
use Rattle.tfpg_evidence.specs.declared.clause_name.ClauseName.TheVariants.{OrMay, AndMay, OrMust, AndMust}
use Rattle.tfpg_evidence.specs.declared.reason.Reason.{Reason}
use Rattle.tfpg_evidence.specs.declared.reason.Reason.TheVariants.{Zero, Top, Unreached, From, Upto, Quiet, Pick}
use Rattle.tfpg_evidence.specs.declared.round.Counts.{Counts}
use Rattle.tfpg_report.specs.SetText.{set_word}
use Rattle.tfpg_log.specs.declared.refused_line.RefusedLine.{RefusedLine}
use Rattle.tfpg_log.specs.declared.refused_line.RefusedLine.TheVariants.{TooLong, Offer}

-- the words of the first line of a report on these terms
abbrev pub head_words : Terms → List (List ℕ)
head_words terms =
    codes "report" ∷ codes "2" ∷ codes "k" ∷ decimal terms.k ∷ codes "doubt" ∷ decimal terms.doubt
    ∷ codes "budget" ∷ decimal terms.budget ∷ []

-- the words of its older form, which has no number of doubts
abbrev pub old_head_words : ℕ → ℕ → List (List ℕ)
old_head_words k budget =
    codes "report" ∷ codes "1" ∷ codes "k" ∷ decimal k ∷ codes "budget" ∷ decimal budget ∷ []

-- the words for why a line is refused
abbrev pub cause_words : RefusedLine → List (List ℕ)
cause_words TooLong = codes "TooLong" ∷ []
cause_words (Offer BadLine) = codes "BadLine" ∷ []
cause_words (Offer BadNumber) = codes "BadNumber" ∷ []
cause_words (Offer TimeTooLarge) = codes "TimeTooLarge" ∷ []
cause_words (Offer (TimeBack last)) = codes "TimeBack" ∷ decimal last ∷ []
cause_words (Offer UnknownName) = codes "UnknownName" ∷ []
cause_words (Offer NotMonitored) = codes "NotMonitored" ∷ []
cause_words (Offer NotAMode) = codes "NotAMode" ∷ []
cause_words (Offer LogFull) = codes "LogFull" ∷ []
cause_words (Offer ModesFull) = codes "ModesFull" ∷ []

-- the words of the line of a refused line
abbrev pub refused_words : ℕ → RefusedLine → List (List ℕ)
refused_words line cause = codes "refused" ∷ decimal line ∷ cause_words cause

-- the names of an edge's source and target
abbrev pub edge_words : Tfpg → ℕ → List (List ℕ)
edge_words graph edge =
    unwrap_or (option_map (λ e. name_word graph e.source ∷ name_word graph e.target ∷ []) (slice_get graph.edges edge)) []

-- the words that name a clause
abbrev pub clause_words : Tfpg → ClauseName → List (List ℕ)
clause_words graph (OrMay node span horizon) =
    codes "ormay" ∷ name_word graph node ∷ decimal span ∷ decimal horizon ∷ []
clause_words graph (AndMay edge span horizon) =
    codes "andmay" ∷ edge_words graph edge ++ decimal span ∷ decimal horizon ∷ []
clause_words graph (OrMust edge span horizon) =
    codes "ormust" ∷ edge_words graph edge ++ decimal span ∷ decimal horizon ∷ []
clause_words graph (AndMust node span horizon) =
    codes "andmust" ∷ name_word graph node ∷ decimal span ∷ decimal horizon ∷ []

-- the words for a reason
abbrev pub reason_words : Tfpg → Reason → List (List ℕ)
reason_words graph (Zero node) = codes "zero" ∷ name_word graph node ∷ []
reason_words graph (Top node) = codes "top" ∷ name_word graph node ∷ []
reason_words graph (Unreached node horizon) = codes "unreached" ∷ name_word graph node ∷ decimal horizon ∷ []
reason_words graph (From event) = codes "from" ∷ decimal event ∷ []
reason_words graph (Upto event) = codes "upto" ∷ decimal event ∷ []
reason_words graph (Quiet event node) = codes "quiet" ∷ decimal event ∷ name_word graph node ∷ []
reason_words graph (Pick split constraint) = codes "pick" ∷ decimal split ∷ decimal constraint ∷ []

-- the number of a hypothesis and the text of its set
abbrev pub numbered_set_words : Tfpg → ℕ → Hypothesis → List (List ℕ)
numbered_set_words graph number hypothesis = decimal number ∷ codes "set" ∷ set_word graph hypothesis ∷ []

-- how many of the monitored nodes have an alarm
abbrev pub robustness_word : ℕ → ℕ → List ℕ
robustness_word alarmed monitored = decimal alarmed ++ codes "/" ++ decimal monitored

-- the words that say how many hypotheses have each status
abbrev pub counts_words : Counts → List (List ℕ)
counts_words counts =
    codes "ranked" ∷ decimal counts.ranked ∷ codes "covered" ∷ decimal counts.covered
    ∷ codes "rejected" ∷ decimal counts.rejected ∷ codes "open" ∷ decimal counts.unsettled ∷ []

-- the words for a panel that was lost, or for which memory ran out
abbrev pub lost_words : ℕ → Bool → List (List ℕ)
lost_words panel memory =
    codes "panel" ∷ decimal panel ∷ (if memory then codes "memory" else codes "lost") ∷ []
