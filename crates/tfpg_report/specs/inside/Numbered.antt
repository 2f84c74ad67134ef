-- The lines that one number of an order brings.
use Rattle.std.specs.Prelude.{ℕ, List, [], unwrap_or, option_map}
use Rattle.tfpg_graph.specs.Graph.{Tfpg}
use Rattle.tfpg_evidence.specs.declared.finding.Finding.{Finding}
use Rattle.tfpg_evidence.specs.RoundOf.{finding_numbered}
use Rattle.tfpg_report.specs.inside.Texts.{ranked_text}

-- the lines of the hypothesis of a number, where it is ranked
abbrev pub numbered_text : Tfpg → List Finding → ℕ → List ℕ
numbered_text graph findings number =
    unwrap_or (option_map (λ finding. ranked_text graph finding finding.status) (finding_numbered findings number)) []
