use Rattle.tfpg_diagnose.proofs.lemmas.texts.Opened.{OpenLaws}
use Rattle.tfpg_answers.proofs.lemmas.texts.Asking.{asks_or_no_memory, refuses_to_ask}
use Rattle.tfpg_answers.proofs.texts.asking.ask_texts.Goals as goal

pub returns-clause-completes : goal.returns-clause-completes
returns-clause-completes c can =
    let laws : OpenLaws = record {
      no_fault = c.a_text_has_at_most_one_first_fault.ensures.none;
      one_fault = c.a_text_has_at_most_one_first_fault.ensures.one;
      one_count = c.the_table_is_one.ensures.count;
    } in
    asks_or_no_memory c.args.graph_text.now c.args.terms c.args.log_text.now laws c.questions_of_texts.result c.questions_of_texts.ensures.fault can

pub returns-clause-refuses : goal.returns-clause-refuses
returns-clause-refuses c fault real stands =
    let laws : OpenLaws = record {
      no_fault = c.a_text_has_at_most_one_first_fault.ensures.none;
      one_fault = c.a_text_has_at_most_one_first_fault.ensures.one;
      one_count = c.the_table_is_one.ensures.count;
    } in
    refuses_to_ask c.args.graph_text.now c.args.terms c.args.log_text.now laws c.questions_of_texts.result c.questions_of_texts.ensures.can c.questions_of_texts.ensures.fault fault real stands
