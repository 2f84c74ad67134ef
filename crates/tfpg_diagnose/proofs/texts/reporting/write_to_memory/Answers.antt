use Rattle.std.proofs.Common.{Some, ap, refl, subst, sym}
use Rattle.tfpg_base.specs.Memory.{SteadySourceState}
use Rattle.tfpg_panel.specs.Desk.{seen_by}
use Rattle.tfpg_panel.specs.contracts.memory_panel.MemoryPanelPanel.TheImpl.{ghosts}
use Rattle.tfpg_diagnose.specs.Watched.{watched}
use Rattle.tfpg_diagnose.specs.inside.texts.Faults.{IsWritingFault}
use Rattle.tfpg_diagnose.proofs.lemmas.texts.Reported.{never_rose, wrote_few, wrote_none, wrote_report}
use Rattle.tfpg_diagnose.proofs.texts.reporting.write_to_memory.Goals as goal

pub returns-in-Ok-clause-done : goal.returns-in-Ok-clause-done
returns-in-Ok-clause-done g c =
    let input = c.new-input.result in
    let input' = c.write_report.new.input in
    let output = c.args.out.now in
    let output' = c.write_report.new.out in
    let before = watched (record { left = Some input.left; ended = input.ended; faults = 0 }) (record { holds = Some output.holds; faults = output.faults }) (seen_by ghosts.state c.args.desk.now) in
    let now = watched (record { left = Some input'.left; ended = input'.ended; faults = 0 }) (record { holds = Some output'.holds; faults = output'.faults }) (seen_by ghosts.state c.write_report.new.desk) in
    wrote_report c.args.engine.now.graph c.args.engine.now.terms c.args.log_text.now before now (ap (λ (s : SteadySourceState). Some s.left) c.new-input.ensures)
    (ap Some c.requires.empty) c.requires.no_panel output'.holds refl c.in-Ok.ensures.diagnoses

pub returns-in-Ok-clause-few : goal.returns-in-Ok-clause-few
returns-in-Ok-clause-few g c =
    let input = c.new-input.result in
    let input' = c.write_report.new.input in
    let output = c.args.out.now in
    let output' = c.write_report.new.out in
    let before = watched (record { left = Some input.left; ended = input.ended; faults = 0 }) (record { holds = Some output.holds; faults = output.faults }) (seen_by ghosts.state c.args.desk.now) in
    let now = watched (record { left = Some input'.left; ended = input'.ended; faults = 0 }) (record { holds = Some output'.holds; faults = output'.faults }) (seen_by ghosts.state c.write_report.new.desk) in
    wrote_few c.args.engine.now.graph c.args.engine.now.terms c.args.log_text.now before now (ap (λ (s : SteadySourceState). Some s.left) c.new-input.ensures) c.in-Ok.ensures.diagnoses

pub returns-in-Err-clause-fault : goal.returns-in-Err-clause-fault
returns-in-Err-clause-fault g c =
    let input = c.new-input.result in
    let input' = c.write_report.new.input in
    let output = c.args.out.now in
    let output' = c.write_report.new.out in
    let before = watched (record { left = Some input.left; ended = input.ended; faults = 0 }) (record { holds = Some output.holds; faults = output.faults }) (seen_by ghosts.state c.args.desk.now) in
    let now = watched (record { left = Some input'.left; ended = input'.ended; faults = 0 }) (record { holds = Some output'.holds; faults = output'.faults }) (seen_by ghosts.state c.write_report.new.desk) in
    subst (IsWritingFault c.args.log_text.now) (sym c.fault_in_memory.ensures)
    (wrote_none c.args.engine.now.graph c.args.engine.now.terms c.args.log_text.now before now (ap (λ (s : SteadySourceState). Some s.left) c.new-input.ensures) never_rose c.in-Err.fault c.in-Err.ensures.diagnoses)
