use Rattle.std.proofs.lemmas.Bool.Decides.{same_from_decides}
use Rattle.std.specs.Cmp.Lexicographic.{bytes_decides}
use Rattle.tfpg_base.proofs.lemmas.Sets.{bits_say_equal}
use Rattle.tfpg_base.proofs.set.SetPartialEq.eq.Goals as goal

pub returns : goal.returns
returns c =
    let xs = c.args.self.now in
    let ys = c.args.other.now in
    same_from_decides _ _ (bits_say_equal c.self.inside.bits c.other.inside.bits xs ys c.self.view_is c.other.view_is c.self.invariant c.other.invariant) (bytes_decides xs ys)
