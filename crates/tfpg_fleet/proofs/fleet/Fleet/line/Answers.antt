use Rattle.std.proofs.Common.{ℕ, ◌<◌, List, length, map, set, ap, sym, subst, ◌∙◌}
use Rattle.std.specs.Prelude.{Err, Ok}
use Rattle.std.proofs.lemmas.Option.{slice_get_read}
use Rattle.std.proofs.lemmas.Result.{err_from_is_err_and}
use Rattle.tfpg_base.proofs.lemmas.lists.Choices.{ok-err, same_Err, some-not_none}
use Rattle.tfpg_fleet.specs.Belonging.{belongs}
use Rattle.tfpg_fleet.specs.declared.fleet_told.FleetTold.TheVariants.{Of}
use Rattle.tfpg_fleet.specs.FleetState.{FleetState, VehicleState, names_of}
use Rattle.tfpg_fleet.proofs.lemmas.FleetCalls.{fleet_calls}
use Rattle.tfpg_fleet.proofs.lemmas.FleetTells.{Comes, fails, represents_stray, same_answer, tells}
use Rattle.tfpg_fleet.proofs.fleet.Fleet.line.Goals as goal

pub returns-in_default-clause-represents : goal.returns-in_default-clause-represents
returns-in_default-clause-represents g c =
    represents_stray c.args.self.now c.args.text.now
    (ap (λ (f : FleetState). belongs (names_of f) c.args.text.now) (sym c.self.view_is)
    ∙ ap (λ (vs : List VehicleState). belongs (map (λ (v : VehicleState). v.name) vs) c.args.text.now) (sym c.deref.ensures.value) ∙ sym c.in_default.ensures.belongs)

pub returns-in_default-clause-refused : goal.returns-in_default-clause-refused
returns-in_default-clause-refused g c number line refusal is =
    absurd
    (some-not_none _ _ is.is_for
    (ap (λ (f : FleetState). belongs (names_of f) c.args.text.now) (sym c.self.view_is)
    ∙ ap (λ (vs : List VehicleState). belongs (map (λ (v : VehicleState). v.name) vs) c.args.text.now) (sym c.deref.ensures.value) ∙ sym c.in_default.ensures.belongs))

pub returns-in_err-line : goal.returns-in_err-line
returns-in_err-line g c =
    let failed = err_from_is_err_and c.from_residual.result c.from_residual.ensures.1 in
    let there = slice_get_read c.self.inside.vehicles.items (length c.deref.result.now) c.in-Some.vehicle c.index_mut.result.now (ap length c.deref.ensures.value) c.in-Some.ensures.within c.index_mut.ensures.value in
    let own_is = ap (λ (vs : List VehicleState). belongs (map (λ (v : VehicleState). v.name) vs) c.args.text.now) (sym c.deref.ensures.value) ∙ sym c.in-Some.ensures.belongs in
    let come =
    subst (λ (f : FleetState). Comes c.args.text.now f (record { vehicles = set c.self.inside.vehicles.items c.in-Some.vehicle c.take.new.self }) c.from_residual.result c.args.work.now c.take.new.work) c.self.view_is
    (fails c.self.inside.vehicles.items c.args.text.now c.in-Some.own.now c.in-Some.vehicle c.index_mut.result.now c.take.new.self there own_is c.in_err-line.ensures.name c.args.work.now c.take.new.work
    c.from_residual.result failed.0 failed.1 (λ is. c.in_err-line.ensures.ended.0 (ap Err (sym failed.2 ∙ is))) (λ ended. failed.2 ∙ same_Err _ _ (c.in_err-line.ensures.ended.1 ended))
    (λ is. c.in_err-line.ensures.same (ap Err (sym failed.2 ∙ is))) c.in_err-line.ensures.ends (λ line refusal is. ok-err _ _ (sym (c.in_err-line.ensures.refused line refusal is)))) in
    let counted = fleet_calls c.args.self.now c.self.inside.vehicles.items c.in-Some.vehicle c.index_mut.result.now c.take.new.self c.args.work.now c.take.new.work c.self.view_is
    (subst (λ (n : ℕ). c.in-Some.vehicle < n) (ap length c.deref.ensures.value) c.in-Some.ensures.within) c.index_mut.ensures.value c.in_err-line.ensures.counted in
    record { brings = come.brings; stray = come.stray; refused = come.refused; others = come.others; ended = come.ended; work = come.work; counted = counted; names = come.names; represents = come.represents }

pub returns : goal.returns
returns g c =
    let there = slice_get_read c.self.inside.vehicles.items (length c.deref.result.now) c.in-Some.vehicle c.index_mut.result.now (ap length c.deref.ensures.value) c.in-Some.ensures.within c.index_mut.ensures.value in
    let own_is = ap (λ (vs : List VehicleState). belongs (map (λ (v : VehicleState). v.name) vs) c.args.text.now) (sym c.deref.ensures.value) ∙ sym c.in-Some.ensures.belongs in
    let come =
    subst (λ (f : FleetState). Comes c.args.text.now f (record { vehicles = set c.self.inside.vehicles.items c.in-Some.vehicle c.take.new.self }) (Ok (Of c.in-Some.vehicle c.in_ok-line.line c.in_ok-line.told)) c.args.work.now c.take.new.work) c.self.view_is
    (tells c.self.inside.vehicles.items c.args.text.now c.in-Some.own.now c.in-Some.vehicle c.index_mut.result.now c.take.new.self there own_is c.in_ok-line.ensures.name c.args.work.now c.take.new.work
    c.a_log_of_lines_is_of_its_graph.ensures.grows c.in_ok-line.line c.in_ok-line.told c.in_ok-line.ensures.told c.in_ok-line.ensures.work (λ next refusal is. same_answer _ _ _ _ (c.in_ok-line.ensures.refused next refusal is))) in
    let counted = fleet_calls c.args.self.now c.self.inside.vehicles.items c.in-Some.vehicle c.index_mut.result.now c.take.new.self c.args.work.now c.take.new.work c.self.view_is
    (subst (λ (n : ℕ). c.in-Some.vehicle < n) (ap length c.deref.ensures.value) c.in-Some.ensures.within) c.index_mut.ensures.value c.in_ok-line.ensures.counted in
    record { brings = come.brings; stray = come.stray; refused = come.refused; others = come.others; ended = come.ended; work = come.work; counted = counted; names = come.names; represents = come.represents }
