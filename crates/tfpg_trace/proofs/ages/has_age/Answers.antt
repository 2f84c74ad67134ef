use Rattle.tfpg_trace.proofs.lemmas.AgesByWindow.{no_window, by_both}
use Rattle.tfpg_trace.proofs.ages.has_age.Goals as goal

pub returns-in-None : goal.returns-in-None
returns-in-None c =
    no_window c.args.log.now c.args.trace.now c.args.instant c.args.age c.requires.by_now c.in-Some-span_of.span c.in-Some-span_of.ensures
    c.args.graph.now.edges c.args.edge c.in-None.ensures

pub returns-in-Some-window_of : goal.returns-in-Some-window_of
returns-in-Some-window_of c =
    by_both c.args.log.now c.args.trace.now c.args.instant c.args.age c.requires.by_now c.in-Some-span_of.span c.in-Some-span_of.ensures
    c.args.graph.now.edges c.args.edge c.edge.result c.edge.ensures c.in-Some-window_of.window c.in-Some-window_of.ensures c.in-Some.start c.in-Some.ensures
    c.are_since.result c.are_since.ensures
