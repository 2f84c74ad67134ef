use Rattle.tfpg_words.proofs.lemmas.NamesTested.{all_formed, not_formed}
use Rattle.tfpg_words.proofs.names.are_names.Goals as goal

pub returns-then-not-have_form : goal.returns-then-not-have_form
returns-then-not-have_form c =
    not_formed c.args.names.now c.are_few.result c.are_few.ensures c.if-not-are_few.false c.have_form.result c.have_form.ensures c.if-not-have_form.true

pub returns : goal.returns
returns c =
    all_formed c.args.names.now c.are_few.result c.are_few.ensures c.if-not-are_few.false c.have_form.result c.have_form.ensures c.if-not-have_form.false
    c.are_distinct.result c.are_distinct.ensures
