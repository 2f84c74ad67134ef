use Rattle.std.proofs.Common.{List, ℕ, [], map, take, Bor, sym, subst, arith}
use Rattle.std.proofs.lemmas.List.{take_all, map_more, length-map, length-take}
use Rattle.tfpg_diagnose.specs.Diagnosed.{HasDiagnosed}
use Rattle.tfpg_diagnose.proofs.diagnosis.Diagnosis.take_lines.Goals as goal

pub loop-index-preserved : goal.loop-index-preserved
loop-index-preserved g c = λ graph terms has.
    let nothing : Bor (List ℕ) = record { ref_ptr = (0, 0); now = [] } in
    let lines : List (Bor (List ℕ)) = c.args.lines.now in
    let index : ℕ = c.loop-index.index in
    subst (λ (ls : List (List ℕ)). HasDiagnosed graph terms ls c.take.new.self) (sym (map_more (λ (l : Bor (List ℕ)). l.now) lines index nothing c.loop-index-test.true))
    (c.in_ok-take.ensures graph terms (map (λ (l : Bor (List ℕ)). l.now) (take index lines)) (c.loop-index.invariant graph terms has)
    (omega (arith, length-map (take index lines) (λ (l : Bor (List ℕ)). l.now), length-take index lines, c.loop-index-test.true)))

pub returns : goal.returns
returns g c = λ graph terms has.
    subst (λ (lines : List (Bor (List ℕ))). HasDiagnosed graph terms (map (λ (l : Bor (List ℕ)). l.now) lines) c.loop-index.self)
    (take_all c.loop-index.index c.args.lines.now c.loop-index-test.false) (c.loop-index.invariant graph terms has)
