-- What a section of a block says of one finding.
use Rattle.std.specs.Prelude.{ℕ, List, [], length, if◌then◌else◌, ◌==◌}
use Rattle.tfpg_graph.specs.Graph.{Tfpg}
use Rattle.tfpg_evidence.specs.declared.finding.Finding.{Finding}
use Rattle.tfpg_evidence.specs.declared.finding.Status.{Status}
use Rattle.tfpg_evidence.specs.declared.finding.Status.TheVariants as status
use Rattle.tfpg_report.specs.declared.sections.Section.{Section}
use Rattle.tfpg_report.specs.declared.sections.Section.TheVariants.{Steps, Open, Rejected}
use Rattle.tfpg_report.specs.inside.Texts.{steps_text, open_text, rejected_text}

-- the line of a finding with this status, where it is open
abbrev pub text_where_open : Tfpg → Finding → Status → List ℕ
text_where_open graph finding (status.Ranked trace cost alarmed monitored) = []
text_where_open graph finding (status.Covered by) = []
text_where_open graph finding status.Rejected = []
text_where_open graph finding status.Open = open_text graph finding

-- the line of a finding with this status, where its round rejected it
abbrev pub text_where_rejected : Tfpg → Finding → Status → List ℕ
text_where_rejected graph finding (status.Ranked trace cost alarmed monitored) = []
text_where_rejected graph finding (status.Covered by) = []
text_where_rejected graph finding status.Rejected =
    if length finding.steps == 0 then [] else rejected_text graph finding
text_where_rejected graph finding status.Open = []

-- the lines of a finding in a section
abbrev pub section_text : Tfpg → Section → Finding → List ℕ
section_text graph Steps finding = steps_text graph finding
section_text graph Open finding = text_where_open graph finding finding.status
section_text graph Rejected finding = text_where_rejected graph finding finding.status
