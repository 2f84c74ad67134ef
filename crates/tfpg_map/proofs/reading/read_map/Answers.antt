use Rattle.std.proofs.Common.{subst}
use Rattle.tfpg_map.specs.inside.Reading.{ReadsOn, map_reading_at}
use Rattle.tfpg_streams.proofs.lemmas.InputLines.{falls_short}
use Rattle.tfpg_map.proofs.lemmas.NextLines.{few_read, gives_map, gives_none, map_in_graph, map_of_monitors}
use Rattle.tfpg_map.proofs.reading.read_map.Goals as goal

pub loop-lines-smaller : goal.loop-lines-smaller
loop-lines-smaller g c =
    let leads = c.in_ok-read_next_line.ensures.reads_on (g.S.Source.state c.args.input.now) c.loop-lines.invariant in
    let on = subst (ReadsOn c.args.graph.now (g.S.Source.state c.args.input.now) c.loop-lines.lines.number (map_reading_at (g.S.Source.state c.read_next_line.new.input) c.read_next_line.new.lines c.read_next_line.new.reader)) c.in-Read.is leads in
    falls_short _ _ (few_read c.args.graph.now _ _ c.loop-lines.lines c.loop-lines.reader c.loop-lines.invariant) on.1

pub returns-in-Ended-clause-map : goal.returns-in-Ended-clause-map
returns-in-Ended-clause-map g c =
    let leads = c.in_ok-read_next_line.ensures.reads_on (g.S.Source.state c.args.input.now) c.loop-lines.invariant in
    let all = subst (ReadsOn c.args.graph.now (g.S.Source.state c.args.input.now) c.loop-lines.lines.number (map_reading_at (g.S.Source.state c.read_next_line.new.input) c.read_next_line.new.lines c.read_next_line.new.reader)) c.in-Ended.is leads in
    gives_map c.args.graph.now (g.S.Source.state c.args.input.now) (g.S.Source.state c.read_next_line.new.input) c.read_next_line.new.reader all c.map_of.result c.map_of.ensures

pub returns-in-Ended-clause-nodes : goal.returns-in-Ended-clause-nodes
returns-in-Ended-clause-nodes g c =
    let leads = c.in_ok-read_next_line.ensures.reads_on (g.S.Source.state c.args.input.now) c.loop-lines.invariant in
    let all = subst (ReadsOn c.args.graph.now (g.S.Source.state c.args.input.now) c.loop-lines.lines.number (map_reading_at (g.S.Source.state c.read_next_line.new.input) c.read_next_line.new.lines c.read_next_line.new.reader)) c.in-Ended.is leads in
    map_in_graph c.args.graph.now (g.S.Source.state c.args.input.now) (g.S.Source.state c.read_next_line.new.input) c.map_of.result
    (gives_map c.args.graph.now (g.S.Source.state c.args.input.now) (g.S.Source.state c.read_next_line.new.input) c.read_next_line.new.reader all c.map_of.result c.map_of.ensures)

pub returns-in-Ended-clause-monitors : goal.returns-in-Ended-clause-monitors
returns-in-Ended-clause-monitors g c =
    let leads = c.in_ok-read_next_line.ensures.reads_on (g.S.Source.state c.args.input.now) c.loop-lines.invariant in
    let all = subst (ReadsOn c.args.graph.now (g.S.Source.state c.args.input.now) c.loop-lines.lines.number (map_reading_at (g.S.Source.state c.read_next_line.new.input) c.read_next_line.new.lines c.read_next_line.new.reader)) c.in-Ended.is leads in
    map_of_monitors c.args.graph.now (g.S.Source.state c.args.input.now) (g.S.Source.state c.read_next_line.new.input) c.map_of.result
    (gives_map c.args.graph.now (g.S.Source.state c.args.input.now) (g.S.Source.state c.read_next_line.new.input) c.read_next_line.new.reader all c.map_of.result c.map_of.ensures)

pub returns-in-Ended-clause-none : goal.returns-in-Ended-clause-none
returns-in-Ended-clause-none g c =
    let leads = c.in_ok-read_next_line.ensures.reads_on (g.S.Source.state c.args.input.now) c.loop-lines.invariant in
    let all = subst (ReadsOn c.args.graph.now (g.S.Source.state c.args.input.now) c.loop-lines.lines.number (map_reading_at (g.S.Source.state c.read_next_line.new.input) c.read_next_line.new.lines c.read_next_line.new.reader)) c.in-Ended.is leads in
    gives_none c.args.graph.now (g.S.Source.state c.args.input.now) (g.S.Source.state c.read_next_line.new.input) c.read_next_line.new.reader all c.map_of.result c.map_of.ensures
