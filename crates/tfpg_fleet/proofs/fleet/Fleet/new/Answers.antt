use Rattle.std.proofs.Common.{ℕ, refl, ap, length}
use Rattle.std.proofs.lemmas.Result.{err_from_is_err_and}
use Rattle.tfpg_fleet.proofs.lemmas.Excess.{few_each, not_too_many, too_many}
use Rattle.tfpg_fleet.proofs.lemmas.FleetTells.{represents_new}
use Rattle.tfpg_base.specs.declared.terms.Terms.{Terms}
use Rattle.tfpg_fleet.proofs.fleet.Fleet.new.Goals as goal

-- the terms that the fleet makes of its numbers
abbrev terms_of : ℕ → ℕ → ℕ → Terms
terms_of k doubt budget = record { k = k; doubt = doubt; budget = budget }

pub returns-in-Some-clause-too_many : goal.returns-in-Some-clause-too_many
returns-in-Some-clause-too_many c =
    too_many c.the_table_is_one.ensures.count c.args.graph.now (terms_of c.args.k c.args.doubt c.args.budget) c.count-each.result (c.count-each.ensures (terms_of c.args.k c.args.doubt c.args.budget) refl refl) (length c.as_slice-names.result.now) (length c.args.names.now)
    (ap length c.as_slice-names.ensures) c.in-Some.count c.in-Some.ensures

pub new_vehicles-requires-clause-few : goal.new_vehicles-requires-clause-few
new_vehicles-requires-clause-few c =
    few_each c.the_table_is_one.ensures.count c.args.graph.now (terms_of c.args.k c.args.doubt c.args.budget) c.count-each.result (c.count-each.ensures (terms_of c.args.k c.args.doubt c.args.budget) refl refl) c.in_default.ensures.0

pub returns-in_err-vehicles-clause-too_many : goal.returns-in_err-vehicles-clause-too_many
returns-in_err-vehicles-clause-too_many c =
    let failed = err_from_is_err_and c.from_residual.result c.from_residual.ensures.1 in
    not_too_many c.the_table_is_one.ensures.count c.args.graph.now (terms_of c.args.k c.args.doubt c.args.budget) c.count-each.result (c.count-each.ensures (terms_of c.args.k c.args.doubt c.args.budget) refl refl) (length c.as_slice-names.result.now) (length c.args.names.now)
    (ap length c.as_slice-names.ensures) c.from_residual.result c.in_default.ensures (λ count same. cc)

pub returns-clause-represents : goal.returns-clause-represents
returns-clause-represents c = represents_new c.args.graph.now (terms_of c.args.k c.args.doubt c.args.budget) c.in_ok-vehicles.vehicles.items c.in_ok-vehicles.ensures.new

pub returns-clause-too_many : goal.returns-clause-too_many
returns-clause-too_many c =
    not_too_many c.the_table_is_one.ensures.count c.args.graph.now (terms_of c.args.k c.args.doubt c.args.budget) c.count-each.result (c.count-each.ensures (terms_of c.args.k c.args.doubt c.args.budget) refl refl) (length c.as_slice-names.result.now) (length c.args.names.now)
    (ap length c.as_slice-names.ensures) _ c.in_default.ensures (λ count same. cc)
