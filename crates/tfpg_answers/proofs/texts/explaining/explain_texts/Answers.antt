use Rattle.tfpg_answers.specs.texts.ExplainedTexts.{explained_texts}
use Rattle.tfpg_answers.proofs.lemmas.texts.Explaining.{explains_or_no_memory, refuses_to_explain}
use Rattle.tfpg_answers.proofs.texts.explaining.explain_texts.Goals as goal

pub returns-clause-completes : goal.returns-clause-completes
returns-clause-completes c can =
    explains_or_no_memory (explained_texts c.args.graph_text.now c.args.log_text.now c.args.map_text.now) c.a_text_has_at_most_one_first_fault.ensures.none c.a_text_has_at_most_one_first_fault.ensures.one
    c.verdict_of_texts.result c.verdict_of_texts.ensures.fault can

pub returns-clause-refuses : goal.returns-clause-refuses
returns-clause-refuses c fault real stands =
    refuses_to_explain (explained_texts c.args.graph_text.now c.args.log_text.now c.args.map_text.now) c.a_text_has_at_most_one_first_fault.ensures.none c.a_text_has_at_most_one_first_fault.ensures.one
    c.verdict_of_texts.result c.verdict_of_texts.ensures.can c.verdict_of_texts.ensures.fault fault real stands
