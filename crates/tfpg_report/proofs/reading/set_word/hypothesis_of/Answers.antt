use Rattle.std.proofs.Common.{rules, ℕ, List, Bor, map, sym, ap, ◌∙◌}
use Rattle.tfpg_report.proofs.lemmas.reading.CutMembers.{doubts_rise, parts_of_members, positions_rise}
use Rattle.tfpg_report.proofs.reading.set_word.hypothesis_of.Goals as goal

pub returns-in_err-set-clause-none : goal.returns-in_err-set-clause-none
returns-in_err-set-clause-none c none hypothesis of e =
    let graph = c.args.graph.now in
    let parts = parts_of_members graph (λ (word : Bor (List ℕ)). word.now) c.args.words.now c.unmarked_count.result c.is_always_valid.ensures.valid c.unmarked_count.ensures.count hypothesis of e in
    c.rising_positions.ensures.none (search rules) hypothesis.set (positions_rise graph hypothesis of) (parts.0 ∙ sym (ap (map (λ (word : Bor (List ℕ)). word.now)) c.split_at.ensures.front))

pub returns-in_err-doubts-clause-none : goal.returns-in_err-doubts-clause-none
returns-in_err-doubts-clause-none c none hypothesis of e =
    let graph = c.args.graph.now in
    let parts = parts_of_members graph (λ (word : Bor (List ℕ)). word.now) c.args.words.now c.unmarked_count.result c.is_always_valid.ensures.valid c.unmarked_count.ensures.count hypothesis of e in
    c.rising_doubts.ensures.none (search rules) hypothesis.doubts (doubts_rise graph hypothesis of) (parts.1 ∙ sym (ap (map (λ (word : Bor (List ℕ)). word.now)) c.split_at.ensures.back))
