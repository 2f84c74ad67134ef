-- What is written for a round as JSON. The keys of each object rise.
use Rattle.std.specs.Prelude.{ℕ, List, map, filter_map, Option, Some, None, codes}
use Rattle.serde_json.specs.Data.{Data, array, object, no_members, member}
use Rattle.serde_json.specs.View.{items_of}
use Rattle.serde_json.specs.Written.{compact_text}
use Rattle.tfpg_graph.specs.Graph.{Tfpg}
use Rattle.tfpg_evidence.specs.declared.finding.Status.{Status}
use Rattle.tfpg_evidence.specs.declared.finding.Status.TheVariants.{Ranked, Covered, Rejected, Open}
use Rattle.tfpg_evidence.specs.declared.finding.Finding.{Finding}
use Rattle.tfpg_evidence.specs.declared.round.Counts.{Counts}
use Rattle.tfpg_evidence.specs.declared.round.Round.{Round}
use Rattle.tfpg_evidence.specs.Findings.{hypothesis_of, ranked_in_order, open_in, newly_rejected}
use Rattle.tfpg_graph.specs.Members.{member_words}
use Rattle.tfpg_json.specs.GraphData.{whole, texts}

-- how many hypotheses have each status
abbrev pub counts_data : Counts → Data
counts_data counts =
    object (member (codes "covered") (whole counts.covered)
    (member (codes "open") (whole counts.unsettled)
    (member (codes "ranked") (whole counts.ranked)
    (member (codes "rejected") (whole counts.rejected) no_members))))

-- the set of a finding's hypothesis
abbrev pub set_data : Tfpg → Finding → Data
set_data graph finding = texts (member_words graph (hypothesis_of finding))

-- a finding of this status, where that ranks: how many of the monitored nodes have an alarm, the cost and the set
abbrev pub ranked_data : Tfpg → Finding → Status → Option Data
ranked_data graph finding (Ranked trace cost alarmed monitored) =
    Some (object (member (codes "alarmed") (whole alarmed)
    (member (codes "cost") (whole cost)
    (member (codes "monitored") (whole monitored)
    (member (codes "set") (set_data graph finding) no_members)))))
ranked_data graph finding (Covered by) = None
ranked_data graph finding Rejected = None
ranked_data graph finding Open = None

-- the ranked hypotheses of a round, best first
abbrev pub all_ranked_data : Tfpg → Round → Data
all_ranked_data graph round =
    array (items_of (filter_map (λ finding. ranked_data graph finding finding.status) (ranked_in_order round)))

-- the sets of these findings' hypotheses
abbrev pub sets_data : Tfpg → List Finding → Data
sets_data graph findings = array (items_of (map (set_data graph) findings))

-- a round with these counts, open, ranked and rejected hypotheses
abbrev pub round_object : Round → Data → Data → Data → Data → Data
round_object round counts open_sets ranked rejected =
    object (member (codes "counts") counts
    (member (codes "line") (whole round.line)
    (member (codes "now") (whole round.now)
    (member (codes "open") open_sets
    (member (codes "ranked") ranked
    (member (codes "rejected") rejected
    (member (codes "round") (whole round.number) no_members)))))))

-- A round: its counts, line, time and number; the open hypotheses and those that it rejected, each by rising numbers, and the
-- ranked ones, best first.
abbrev pub round_data : Tfpg → Round → Data
round_data graph round =
    round_object round (counts_data round.counts) (sets_data graph (open_in round)) (all_ranked_data graph round)
    (sets_data graph (newly_rejected round))

-- The text that is written for a round, without a line end.
abbrev pub round_json : Tfpg → Round → List ℕ
round_json graph round = compact_text (round_data graph round)
