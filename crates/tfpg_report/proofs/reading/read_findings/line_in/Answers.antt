use Rattle.std.proofs.Common.{rules, ◌≡◌, false, map, sym, subst, codes, bytes_eq, ◌∷◌, List, ℕ}
use Rattle.tfpg_report.specs.inside.WordsRead.{AreWordsRead}
use Rattle.tfpg_report.proofs.lemmas.reading.LinesSay.{plain_read}
use Rattle.tfpg_report.proofs.reading.read_findings.line_in.Goals as goal

pub returns-else-eq-3 : goal.returns-else-eq-3
returns-else-eq-3 c =
    let words : map (λ word. word.now) c.args.words.now ≡ c.in-Some.keyword.now.now ∷ map (λ word. word.now) c.in-Some.words.now = search rules in
    let ranked : bytes_eq c.in-Some.keyword.now.now (codes "ranked") ≡ false = search rules in
    let unsettled : bytes_eq c.in-Some.keyword.now.now (codes "open") ≡ false = search rules in
    let rejected : bytes_eq c.in-Some.keyword.now.now (codes "rejected") ≡ false = search rules in
    subst (λ (ws : List (List ℕ)). AreWordsRead c.args.graph.now ws c.ok_or.result) (sym words)
    (plain_read c.args.graph.now c.is_always_valid.ensures.valid c.in-Some.keyword.now.now _ (record { not_ranked = ranked; not_open = unsettled; not_rejected = rejected })
    c.plain_line_in.result c.ok_or.result c.plain_line_in.ensures c.ok_or.ensures.value)
