-- What stays true of a reader of reports.
use Rattle.std.specs.Prelude.{◌≡◌, Option, Some}
use Rattle.tfpg_report.specs.declared.fed.ReadRefusal.{ReadRefusal}
use Rattle.tfpg_report.specs.declared.stand.Stand.{Stand}
use Rattle.tfpg_report.specs.declared.stand.Stand.TheVariants.{Nothing}
use Rattle.tfpg_report.specs.declared.block_reader.draft.RoundDraft.{RoundDraft}
use Rattle.tfpg_report.specs.inside.Fitting.{Fits}

-- The draft of a reader fits its stand. If it refused a line, it stands where nothing was read.
pub record IsReader (refused : Option ReadRefusal) (stand : Stand) (draft : RoundDraft) : Type 0 where
  pub fits : Fits stand draft
  pub refuses : (refusal : ReadRefusal) → refused ≡ Some refusal → stand ≡ Nothing
