use Rattle.std.proofs.Common.{List, ℕ, subst, ◌∙◌}
use Rattle.tfpg_streams.specs.Writing.{Cuts}
use Rattle.tfpg_streams.proofs.lemmas.Putting.{Puts-same, Writes-failed, Writes-same, Writes-then, cut_first}
use Rattle.tfpg_diagnose.proofs.lemmas.LossLines.{after_first, first_cut}
use Rattle.tfpg_diagnose.specs.inside.Telling.{end_of_loss}
use Rattle.tfpg_diagnose.proofs.telling.write_loss.Goals as goal

pub returns-in_err-write_all : goal.returns-in_err-write_all
returns-in_err-write_all g c = Writes-failed _ (g.K.Sink.state c.args.out.now) (g.K.Sink.state c.write_all.new.out) c.from_residual.result _ c.from_residual.ensures.1 (first_cut c.args.loss.now _ _ c.in_err-write_all.ensures.writes)

pub returns-in_err-write_all-2 : goal.returns-in_err-write_all-2
returns-in_err-write_all-2 g c =
    after_first c.args.loss.now (g.K.Sink.state c.args.out.now) (g.K.Sink.state c.write_all.new.out) (g.K.Sink.state c.write_all-2.new.out) c.from_residual-in_err-write_all-2.result
    c.in_ok-write_all.ensures.put c.in_ok-write_all.ensures.no_fault
    (Writes-failed _ (g.K.Sink.state c.write_all.new.out) (g.K.Sink.state c.write_all-2.new.out) c.from_residual-in_err-write_all-2.result _ c.from_residual-in_err-write_all-2.ensures.1
    (cut_first _ (end_of_loss c.args.loss.now.fault) (g.K.Sink.state c.write_all.new.out) (g.K.Sink.state c.write_all-2.new.out)
    (subst (λ (t : List ℕ). Cuts t (g.K.Sink.state c.write_all.new.out) (g.K.Sink.state c.write_all-2.new.out)) (c.as_bytes.ensures.value ∙ c.format.ensures.text) c.in_err-write_all-2.ensures.writes)))

pub returns : goal.returns
returns g c =
    after_first c.args.loss.now (g.K.Sink.state c.args.out.now) (g.K.Sink.state c.write_all.new.out) (g.K.Sink.state c.write_all-3.new.out) c.write_all-3.result
    c.in_ok-write_all.ensures.put c.in_ok-write_all.ensures.no_fault
    (Writes-then _ (end_of_loss c.args.loss.now.fault) (g.K.Sink.state c.write_all.new.out) (g.K.Sink.state c.write_all-2.new.out) (g.K.Sink.state c.write_all-3.new.out) c.write_all-3.result
    (Puts-same (g.K.Sink.state c.write_all.new.out) (g.K.Sink.state c.write_all-2.new.out) _ _ (c.as_bytes.ensures.value ∙ c.format.ensures.text) c.in_ok-write_all-2.ensures.put) c.in_ok-write_all-2.ensures.no_fault
    (Writes-same _ _ (g.K.Sink.state c.write_all-2.new.out) (g.K.Sink.state c.write_all-3.new.out) c.write_all-3.result c.why_lost.ensures c.write_all-3.ensures.writes))
