-- A line that is written word by word.
use Rattle.std.proofs.Common.{◌≡◌, ℕ, ◌+◌, ◌<◌, ◌≤◌, eqb, List, [], ◌++◌, length, get_or, map, take, sym, ap, ◌∙◌, append_assoc, arith}
use Rattle.std.specs.List.{join_with_byte}
use Rattle.std.proofs.lemmas.List.{take_all, length-map, get_or-map}
use Rattle.tfpg_base.specs.Words.{line_of}
use Rattle.tfpg_base.specs.TextLine.{separated}
use Rattle.tfpg_base.proofs.lemmas.lists.Joined.{join-take_more}

-- with one word more
pub line_goes_on : {R : Type 0} (now : R → List ℕ) (words : List R) (index : ℕ) (d : R) (old before after : List ℕ) → index < length words
    → before ≡ old ++ join_with_byte 32 (take index (map now words)) → after ≡ before ++ separated 32 (eqb index 0) (now (get_or words index d))
    → after ≡ old ++ join_with_byte 32 (take (index + 1) (map now words))
line_goes_on now words index d old before after lt e h =
    let long : index < length (map now words) = omega (arith, length-map words now) in
    let word : get_or (map now words) index [] ≡ now (get_or words index d) = get_or-map now words index d [] lt in
    let more : join_with_byte 32 (take (index + 1) (map now words)) ≡ join_with_byte 32 (take index (map now words)) ++ separated 32 (eqb index 0) (now (get_or words index d)) =
    join-take_more (map now words) index [] long ∙ ap (λ (w : List ℕ). join_with_byte 32 (take index (map now words)) ++ separated 32 (eqb index 0) w) word in
    h ∙ ap (λ (t : List ℕ). t ++ separated 32 (eqb index 0) (now (get_or words index d))) e
    ∙ append_assoc old (join_with_byte 32 (take index (map now words))) (separated 32 (eqb index 0) (now (get_or words index d)))
    ∙ ap (λ (t : List ℕ). old ++ t) (sym more)

-- a line whose words are all written
pub line_ends : (words : List (List ℕ)) (index : ℕ) (old new : List ℕ) → length words ≤ index → new ≡ old ++ join_with_byte 32 (take index words) → new ≡ old ++ line_of words
line_ends words index old new le e = e ∙ ap (λ (ws : List (List ℕ)). old ++ join_with_byte 32 ws) (take_all index words le)
