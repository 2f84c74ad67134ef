-- How the statuses of a round are counted.
use Rattle.std.specs.Prelude.{◌+◌, if◌then◌else◌}
use Rattle.tfpg_evidence.specs.declared.finding.Status.{Status}
use Rattle.tfpg_evidence.specs.declared.round.Counts.{Counts}
use Rattle.tfpg_evidence.specs.RoundOf.{is_ranked, is_covered, is_rejected, is_open}

-- the counts with one more status
abbrev pub counts_with : Counts → Status → Counts
counts_with counts status =
    record {
      ranked = counts.ranked + (if is_ranked status then 1 else 0);
      covered = counts.covered + (if is_covered status then 1 else 0);
      rejected = counts.rejected + (if is_rejected status then 1 else 0);
      unsettled = counts.unsettled + (if is_open status then 1 else 0);
    }
