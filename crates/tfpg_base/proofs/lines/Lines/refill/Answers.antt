use Rattle.std.proofs.Common.{◌≡◌, ℕ, ◌+◌, ◌≤◌, List, [], ◌∷◌, ◌++◌, length, slice_range, ap, ◌∙◌, refl, arith, Ok, Result}
use Rattle.tfpg_base.specs.declared.outside.Failed.{Failed}
use Rattle.tfpg_base.specs.Lines.{LinesState}
use Rattle.tfpg_base.specs.declared.limits.TheConstants.{MAX_BYTES}
use Rattle.tfpg_base.proofs.lemmas.Taking.{Takes-same}
use Rattle.tfpg_base.proofs.lemmas.lists.Ranges.{slice_range-longer, length-slice_range-written}
use Rattle.tfpg_base.proofs.lemmas.lists.Elements.{one_element}
use Rattle.tfpg_base.proofs.lemmas.lists.Sequences.{only_one}
use Rattle.tfpg_base.proofs.lines.Lines.refill.Goals as goal

pub returns-then-self-gt-MAX_BYTES-clause-refilled : goal.returns-then-self-gt-MAX_BYTES-clause-refilled
returns-then-self-gt-MAX_BYTES-clause-refilled g c =
    let r = c.with_room-self-inside.result in
    let items = c.take_into.new.buffer.items in
    let count = c.in-Ok.count in
    let fits : r.end + count ≤ length items = omega (arith, c.in-Ok.ensures.room, c.with_room-self-inside.ensures.room, c.in-Ok.ensures.within, c.wanted.ensures.within, c.take_into.new.buffer.ok.0) in
    let taken : c.self.inside.taken ≡ c.args.self.now.taken = ap (λ (b : LinesState). b.taken) c.self.view_is in
    let asked : count ≤ c.wanted.result = omega (arith, c.in-Ok.ensures.within) in
    let one : count ≡ 1 = only_one MAX_BYTES c.self.inside.taken c.wanted.result count (omega (arith, taken, c.requires.few)) c.wanted.ensures.few c.wanted.ensures.one asked c.if-self-gt-MAX_BYTES.true in
    let only : (x : ℕ) × (slice_range items r.end (r.end + count) ≡ x ∷ []) = one_element (slice_range items r.end (r.end + count)) (length-slice_range-written items r.end count fits ∙ one) in
    let all : c.self.inside.taken + count ≡ MAX_BYTES + 1 = omega (arith, one, taken, c.requires.few, c.if-self-gt-MAX_BYTES.true) in (
      only.0,
      record {
        takes = Takes-same (g.S.Source.state c.args.source.now) (g.S.Source.state c.take_into.new.source) (slice_range items r.end (r.end + count)) (only.0 ∷ []) only.1 c.in-Ok.ensures.taken;
        count = omega (arith, one, taken);
      },
      all,
      record { number = ap (λ (b : LinesState). b.number) c.self.view_is; text = refl; ended = refl },
    )

pub returns-else-self-gt-MAX_BYTES-clause-refilled : goal.returns-else-self-gt-MAX_BYTES-clause-refilled
returns-else-self-gt-MAX_BYTES-clause-refilled g c =
    let r = c.with_room-self-inside.result in
    let items = c.take_into.new.buffer.items in
    let count = c.in-Ok.count in
    let fits : r.end + count ≤ length items = omega (arith, c.in-Ok.ensures.room, c.with_room-self-inside.ensures.room, c.in-Ok.ensures.within, c.wanted.ensures.within, c.take_into.new.buffer.ok.0) in
    let more : List ℕ = slice_range items r.end (r.end + count) in
    let written : length more ≡ count = length-slice_range-written items r.end count fits in
    record {
      more = more;
      took = record { takes = c.in-Ok.ensures.taken; count = omega (arith, written, ap (λ (b : LinesState). b.taken) c.self.view_is) };
      length = written;
      small = omega (arith, c.in-Ok.ensures.within, c.wanted.ensures.within);
      end = λ e. c.in-Ok.ensures.end (ap (λ n. let taken : Result ℕ Failed = Ok n in taken) e);
      few = c.if-self-gt-MAX_BYTES.false;
      waiting =
          slice_range-longer c.with_room-self-inside.new.buffer.items items r.start r.end count c.with_room-self-inside.ensures.order (omega (arith, fits)) c.in-Ok.ensures.front
          ∙ ap (λ part. part ++ more) (c.with_room-self-inside.ensures.same ∙ ap (λ (b : LinesState). b.waiting) c.self.view_is);
      number = ap (λ (b : LinesState). b.number) c.self.view_is;
      ended = ap (λ (b : LinesState). b.ended) c.self.view_is;
    }
