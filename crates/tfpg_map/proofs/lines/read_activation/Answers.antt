use Rattle.std.proofs.Common.{ℕ, List, Bor, sym, ap, ◌∙◌}
use Rattle.std.specs.Option.{option_map}
use Rattle.tfpg_map.proofs.lemmas.LineWords.{no_activation-unread, no_activation-read, activation_spelled}
use Rattle.tfpg_map.proofs.lines.read_activation.Goals as goal

pub returns-in_err-name-clause-none : goal.returns-in_err-name-clause-none
returns-in_err-name-clause-none c none =
    no_activation-unread c.args.graph.now c.is_always_valid.ensures.valid c.args.line.now
    (sym c.words_after_at.ensures ∙ ap (option_map (λ (words : Bor (List ℕ) × Bor (List ℕ)). (words.0.now, words.1.now))) c.in_err-name.was)

pub returns-clause-found : goal.returns-clause-found
returns-clause-found c =
    activation_spelled c.args.graph.now c.args.line.now c.in_ok-name.name.now c.in_ok-name.time.now c.activation_of.result
    (sym c.words_after_at.ensures ∙ ap (option_map (λ (words : Bor (List ℕ) × Bor (List ℕ)). (words.0.now, words.1.now))) c.in_ok-name.was) c.activation_of.ensures.found

pub returns-clause-none : goal.returns-clause-none
returns-clause-none c none =
    no_activation-read c.args.graph.now c.is_always_valid.ensures.valid c.args.line.now c.in_ok-name.name.now c.in_ok-name.time.now
    (sym c.words_after_at.ensures ∙ ap (option_map (λ (words : Bor (List ℕ) × Bor (List ℕ)). (words.0.now, words.1.now))) c.in_ok-name.was) (c.activation_of.ensures.none none)
