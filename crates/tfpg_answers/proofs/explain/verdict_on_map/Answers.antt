use Rattle.std.proofs.Common.{◌≡◌, ap, subst, ◌∙◌}
use Rattle.std.proofs.lemmas.Result.{IfOk-weaker}
use Rattle.tfpg_base.specs.Lines.{lines_of}
use Rattle.tfpg_log.specs.Log.{Logbook, ignoring}
use Rattle.tfpg_log.specs.LogOfLines.{log_of_lines}
use Rattle.tfpg_answers.specs.Verdicts.{HasVerdict, verdict_text}
use Rattle.tfpg_answers.proofs.lemmas.explain.ExplainedMaps.{has_verdict, ignoring_of}
use Rattle.tfpg_answers.proofs.lemmas.explain.NamedNodes.{names_node}
use Rattle.tfpg_answers.proofs.explain.verdict_on_map.Goals as goal

pub verdict_line-requires : goal.verdict_line-requires
verdict_line-requires c =
    let map = c.args.map.now in
    names_node c.args.graph.now c.ignore.new.self map.hypothesis.set map.trace
    (ignoring_of c.args.graph.now c.in_ok-log.log c.ignore.new.self map.hypothesis.doubts c.in_ok-log.ensures.of_graph c.requires.monitors
    (c.ignore.ensures ∙ ap (ignoring c.in_ok-log.log) c.doubts.ensures))
    c.explains-verdict.result (rw c.set.ensures at c.explains-verdict.ensures.verdict)

pub returns : goal.returns
returns c =
    let graph = c.args.graph.now in
    let map = c.args.map.now in
    let verdict = c.explains-verdict.result in
    IfOk-weaker c.verdict_line.result (λ line. line.items ≡ verdict_text graph verdict) (λ line. HasVerdict graph (log_of_lines graph (lines_of c.args.log_text.now)) map line.items)
    (λ line is.
    subst (λ (log : Logbook). HasVerdict graph log map line.items) c.in_ok-log.ensures.log
    (has_verdict graph c.in_ok-log.log map verdict (rw (c.ignore.ensures, c.doubts.ensures, c.set.ensures) at c.explains-verdict.ensures.verdict) line.items is))
    c.verdict_line.ensures
