use Rattle.std.proofs.lemmas.Result.{IfOk-weaker}
use Rattle.tfpg_diagnose.proofs.lemmas.texts.Opened.{OpenLaws, opens_or_no_memory, refuses_to_open, session_can_open}
use Rattle.tfpg_embed.proofs.session.calls.boxed_session.Goals as goal

pub returns-clause-completes : goal.returns-clause-completes
returns-clause-completes c can =
    let laws : OpenLaws = record {
      no_fault = c.a_text_has_at_most_one_first_fault.ensures.none;
      one_fault = c.a_text_has_at_most_one_first_fault.ensures.one;
      one_count = c.the_table_is_one.ensures.count;
    } in
    opens_or_no_memory laws c.args.graph.now c.args.terms c.new_session.result c.new_session.ensures.fault can

pub returns-clause-refuses : goal.returns-clause-refuses
returns-clause-refuses c fault real stands =
    let laws : OpenLaws = record {
      no_fault = c.a_text_has_at_most_one_first_fault.ensures.none;
      one_fault = c.a_text_has_at_most_one_first_fault.ensures.one;
      one_count = c.the_table_is_one.ensures.count;
    } in
    refuses_to_open laws c.args.graph.now c.args.terms c.new_session.result
    (IfOk-weaker c.new_session.result _ _ (λ opened is. session_can_open c.args.graph.now c.args.terms opened.value.session is.new) c.new_session.ensures.opened) c.new_session.ensures.fault fault real stands
