use Rattle.std.proofs.Common.{rules, ◌≡◌, ℕ, true, false, Some, codes, ap, ◌∙◌}
use Rattle.std.proofs.lemmas.Result.{err_from_is_err_and}
use Rattle.std.specs.Str.{bytes_eq}
use Rattle.std.specs.Option.{option_map}
use Rattle.tfpg_graph.proofs.lemmas.reading.causes.NumberCauses.{delays-no_greatest, delays-range, delays-numbers}
use Rattle.tfpg_graph.proofs.reading.read_numbers.read_delays.Goals as goal

pub returns-in_err-least-clause-delays : goal.returns-in_err-least-clause-delays
returns-in_err-least-clause-delays c =
    let none : bytes_eq c.args.tmax.now (codes "inf") ≡ true = search rules in
    let p = err_from_is_err_and c.from_residual.result c.from_residual.ensures.1 in
    rw (p.1, p.2) (delays-no_greatest c.args.tmin.now c.args.tmax.now c.in_err-least.field-0.0 none c.in_err-least.ensures.number)

pub returns-in_err-least-2-clause-delays : goal.returns-in_err-least-2-clause-delays
returns-in_err-least-2-clause-delays c =
    let some : bytes_eq c.args.tmax.now (codes "inf") ≡ false = search rules in
    let p = err_from_is_err_and c.from_residual-in_err-least-2.result c.from_residual-in_err-least-2.ensures.1 in
    rw (p.1, p.2) (delays-range c.args.tmin.now c.args.tmax.now some ∙ c.in_err-least-2.ensures.range)

pub returns-clause-delays : goal.returns-clause-delays
returns-clause-delays c =
    let some : bytes_eq c.args.tmax.now (codes "inf") ≡ false = search rules in (
      delays-range c.args.tmin.now c.args.tmax.now some ∙ c.in_ok-least-2.ensures.range.0,
      delays-numbers c.args.tmin.now c.args.tmax.now some
          ∙ ap (option_map (λ (range : ℕ × ℕ). (range.0, Some range.1))) c.in_ok-least-2.ensures.range.1,
    )
