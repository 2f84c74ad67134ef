use Rattle.std.proofs.Common.{Ok, sym, ap, subst, ◌∙◌, arith}
use Rattle.std.specs.Io.KnownBytes.{Consumes}
use Rattle.std.proofs.KnownBytes.{Consumes-trans}
use Rattle.tfpg.proofs.lemmas.Whole.{more_is_known}
use Rattle.tfpg.proofs.real.file_shelf.read_whole.Goals as goal

pub returns-then-not-branch-clause-front : goal.returns-then-not-branch-clause-front
returns-then-not-branch-clause-front g c = λ long.
    let passed = c.append_to_file.ensures.front (c.in_ok-append_to_file-in-Ok.was ∙ ap Ok c.if-not-branch.true) in
    more_is_known _ _ _ c.loop.into.items _ c.append_to_file.new.file.items c.loop.invariant.given c.in-Ok.ensures.bytes.0 passed.1

pub loop-preserved : goal.loop-preserved
loop-preserved g c =
    let whole = c.append_to_file.ensures.whole (c.in_ok-append_to_file-in-Ok.was ∙ ap Ok c.if-not-branch.false) in
    record {
      small = whole.1;
      room = omega (arith, c.loop.invariant.room, c.append_to_file.ensures.capacity);
      given = subst (Consumes (g.R.Read.remaining c.args.reader.now) (g.R.Read.remaining c.read_uncut.new.reader)) (sym whole.0) (Consumes-trans _ _ _ c.loop.into.items _ c.loop.invariant.given c.in-Ok.ensures.bytes.0);
    }
