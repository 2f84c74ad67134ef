-- A line was read, its block was written, and the desk was told its round.
use Rattle.std.proofs.Common.{◌≡◌, ℕ, ◌≤◌, List, ◌++◌, length, Option, Result, Ok, Err, IfOk, IfErr, sym, ap, subst, ◌∙◌, inl, inr, append_assoc}
use Rattle.tfpg_base.specs.declared.limits.TheConstants.{MAX_PANEL_NUMBER}
use Rattle.tfpg_base.specs.declared.terms.Terms.{Terms}
use Rattle.tfpg_base.specs.Lines.{LinesState}
use Rattle.tfpg_base.specs.Outside.{SourceState, SinkState, Rose}
use Rattle.tfpg_base.proofs.lemmas.ReadingOn.{GaveLine}
use Rattle.tfpg_graph.specs.Graph.{Tfpg}
use Rattle.tfpg_evidence.specs.declared.round.Round.{Round}
use Rattle.tfpg_engine.specs.EngineState.{EngineState}
use Rattle.tfpg_panel.specs.Desk.{DeskState}
use Rattle.tfpg_check.specs.Report.{progress_of}
use Rattle.tfpg_diagnose.specs.declared.report.NextBlock.{NextBlock}
use Rattle.tfpg_streams.specs.declared.fault.StreamFault.{StreamFault}
use Rattle.tfpg_streams.specs.declared.fault.StreamFault.TheVariants.{WriteFault}
use Rattle.tfpg_diagnose.specs.Watched.{Watched, watched}
use Rattle.tfpg_diagnose.specs.Diagnosing.{Diagnoses}
use Rattle.tfpg_diagnose.specs.Work.{AreBlocksWithin}
use Rattle.tfpg_diagnose.specs.inside.LineBlocks.{HasBlock, IsBlockWithin, IsUntold, numbered}
use Rattle.tfpg_diagnose.specs.inside.Telling.{TellsIf, WritesBlock, new_lines, outgoing}
use Rattle.tfpg_diagnose.specs.inside.UnderWay.{IsDiagnosing, ComesTo, ComesToWithin, diagnosis_at}
use Rattle.tfpg_streams.proofs.lemmas.Putting.{Puts-append}
use Rattle.tfpg_diagnose.proofs.lemmas.NextBlocks.{GoesOnByBlocks, gave_block, gave_front, gave_one_more, gave_within}
use Rattle.tfpg_diagnose.proofs.lemmas.ToldBlocks.{DeskLaws, IsToldBlock, cut_block, cut_losses, told_block}

module _ (graph : Tfpg) (terms : Terms) (before now : Watched) (lines : LinesState) (engine : EngineState) (input : SourceState) (reader : LinesState)
    (under : IsDiagnosing graph terms before (diagnosis_at now lines engine)) (gave : GaveLine under.reading now.input input reader)
    (number : ℕ) (bytes : List ℕ) (later : EngineState) (number_is : number ≡ reader.number)
    (has : HasBlock graph terms (progress_of graph under.reading.given under.blocks) (numbered number gave.first) bytes later) (round : Option Round) (untold : IsUntold round has.block engine later)
    (output : SinkState) (desk : DeskState) (few : length now.desk.panels ≤ MAX_PANEL_NUMBER) (laws : DeskLaws) (goes_on : GoesOnByBlocks) where
  -- the text with the lines of the panels that were lost
  abbrev whole : List ℕ
  whole = bytes ++ new_lines now.desk desk

  final : TellsIf round now.desk desk → IsToldBlock graph terms (progress_of graph under.reading.given under.blocks) number gave.first whole later under.blocks before.desk desk has.block
  final tells = told_block graph terms (progress_of graph under.reading.given under.blocks) number gave.first bytes engine later has under.blocks before.desk now.desk desk under.tells under.numbered few laws round untold tells

  -- it was written, and the diagnosis is under way still
  pub wrote : (result : Result NextBlock StreamFault) → WritesBlock bytes round (outgoing now.output now.desk) (outgoing output desk) result
      → IfOk result (ComesTo graph terms before lines.number (diagnosis_at (watched input output desk) reader later))
  wrote (Ok next) (is, tells, puts, no_fault) =
      let told = final tells in
      subst (ComesTo graph terms before lines.number (diagnosis_at (watched input output desk) reader later)) (sym is) (
        gave_block graph terms before now lines engine input reader under gave number whole later output desk number_is told.has goes_on puts no_fault told.tells told.numbers,
        gave_one_more graph terms before now lines engine input reader under gave number whole later output desk number_is told.has,
      )
  wrote (Err fault) writes = tt

  -- so it is within its limits
  pub wrote_within : (start middle finish : ℕ) → AreBlocksWithin graph under.reading.given under.blocks start middle → IsBlockWithin graph (progress_of graph under.reading.given under.blocks) gave.first has.block middle finish
      → (result : Result NextBlock StreamFault) → WritesBlock bytes round (outgoing now.output now.desk) (outgoing output desk) result
      → IfOk result (ComesToWithin graph terms before (diagnosis_at (watched input output desk) reader later) start finish)
  wrote_within start middle finish within own (Ok next) (is, tells, puts, no_fault) =
      let told = final tells in
      subst (ComesToWithin graph terms before (diagnosis_at (watched input output desk) reader later) start finish) (sym is)
      (gave_within graph terms before now lines engine input reader under gave number whole later output desk number_is told.has goes_on puts no_fault told.tells told.numbers
      start middle finish within (told.within middle finish own))
  wrote_within start middle finish within own (Err fault) writes = tt

  -- the output failed
  pub stopped : (result : Result NextBlock StreamFault) → WritesBlock bytes round (outgoing now.output now.desk) (outgoing output desk) result
      → IfErr result (λ fault. Diagnoses graph terms before (watched input output desk) (Err fault))
  stopped (Ok next) writes = tt
  stopped (Err fault) (is, inl (same, cut)) =
      subst (λ (f : StreamFault). Diagnoses graph terms before (watched input output desk) (Err f)) (sym is)
      (subst (λ (d : DeskState). Diagnoses graph terms before (watched input output d) (Err WriteFault)) (sym same)
      (gave_front graph terms before now lines engine input reader under gave number bytes later output now.desk number_is has cut.front cut.rest cut.parts cut.puts cut.rose
      (cut_block graph terms under.blocks round has.block engine later bytes cut.front cut.rest before.desk now.desk untold has.text cut.parts cut.some_left under.tells)))
  stopped (Err fault) (is, inr losses) =
      let told = final losses.tells in
      let cut = losses.cuts in
      subst (λ (f : StreamFault). Diagnoses graph terms before (watched input output desk) (Err f)) (sym is)
      (gave_front graph terms before now lines engine input reader under gave number whole later output desk number_is told.has (bytes ++ cut.front) cut.rest
      (ap (λ (t : List ℕ). bytes ++ t) cut.parts ∙ sym (append_assoc bytes cut.front cut.rest)) (Puts-append now.output losses.mid output bytes cut.front losses.puts cut.puts)
      (subst (λ (count : ℕ). Rose count output.faults) losses.no_fault cut.rose)
      (cut_losses graph terms under.blocks round has.block told.has.block engine later bytes cut.front before.desk now.desk desk untold has.text told.same_rounds told.tells))
