-- The bytes of a line that is written as that of an activation.
use Rattle.std.proofs.Common.{◌≡◌, ℕ, ◌≤◌, List, ◌∷◌, ◌++◌, length, Some, codes, sym, ◌∙◌, arith}
use Rattle.tfpg_base.specs.declared.limits.TheConstants.{LONGEST_LINE, MAX_TIME}
use Rattle.tfpg_graph.specs.Graph.{Tfpg, node_named}
use Rattle.tfpg_report.specs.ReportLines.{Says}
use Rattle.tfpg_report.specs.declared.report_line.ReportLine.TheVariants.{At}
use Rattle.tfpg_report.specs.inside.FirstWords.{number_within}
use Rattle.tfpg_report.proofs.lemmas.MemberWords.{word_of_named}
use Rattle.tfpg_report.proofs.lemmas.reading.FirstWords.{number_within-is}

-- The name of a node and a time say its activation.
pub activation_said : (graph : Tfpg) (line name digits : List ℕ) (node time : ℕ) → length line ≤ LONGEST_LINE → line ≡ codes "at " ++ (name ++ 32 ∷ digits)
    → Some node ≡ node_named graph name → Some time ≡ number_within MAX_TIME digits → Says graph (At (record { node = node; time = time })) line
activation_said graph line name digits node time short parts found read =
    let named = word_of_named graph name node (sym found) in
    let number = number_within-is MAX_TIME digits time (omega arith) (sym read) in
    record {
      written = parts ∙ (λ i. codes "at " ++ (named.1 i ++ 32 ∷ number.0 i));
      within = (named.0, number.1);
      short = short;
    }
