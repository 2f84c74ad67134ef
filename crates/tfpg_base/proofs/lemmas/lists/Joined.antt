-- Parts joined one after another, with a separator between each two.
use Rattle.std.proofs.Common.{◌≡◌, ℕ, ◌+◌, ◌<◌, Bool, false, eqb, List, [], ◌∷◌, ◌++◌, length, get_or, take, refl, sym, ap, ◌∙◌, append_assoc, arith, ◌⊎◌, ⊎_elim, inl, inr, suc, ◌*◌, ◌≤◌, All}
use Rattle.std.specs.List.{join_with_byte, onto_first}
use Rattle.std.proofs.lemmas.Bool.Decides.{nat_tests}
use Rattle.std.proofs.lemmas.List.{take_more, length-take, length-append}
use Rattle.tfpg_base.specs.TextLine.{separated}
use Rattle.std.proofs.Math.Nat.{mul-suc}
use Rattle.std.proofs.lemmas.List.Elements.{All-nil, All-cons, All-head, All-tail, All-append}

-- a part after others comes after a separator
pub join-push_later : (c : ℕ) (first : List ℕ) (others : List (List ℕ)) (part : List ℕ)
    → join_with_byte c (first ∷ (others ++ part ∷ [])) ≡ join_with_byte c (first ∷ others) ++ (c ∷ part)
join-push_later c first [] part = refl
join-push_later c first (second ∷ others) part =
    let step : first ++ (c ∷ join_with_byte c (second ∷ (others ++ part ∷ []))) ≡ first ++ (c ∷ (join_with_byte c (second ∷ others) ++ (c ∷ part))) = ap (λ (t : List ℕ). first ++ (c ∷ t)) (join-push_later c second others part) in
    let regroup : (first ++ (c ∷ join_with_byte c (second ∷ others))) ++ (c ∷ part) ≡ first ++ (c ∷ (join_with_byte c (second ∷ others) ++ (c ∷ part))) = append_assoc first (c ∷ join_with_byte c (second ∷ others)) (c ∷ part) in
    step ∙ sym regroup

-- one part more comes after the others, with a separator between
pub join-push : (c : ℕ) (parts : List (List ℕ)) (part : List ℕ) → join_with_byte c (parts ++ part ∷ []) ≡ join_with_byte c parts ++ separated c (eqb (length parts) 0) part
join-push c [] part = refl
join-push c (first ∷ others) part =
    let later : eqb (length (first ∷ others)) 0 ≡ false = grind (arith, nat_tests) in
    join-push_later c first others part ∙ ap (λ (b : Bool). join_with_byte c (first ∷ others) ++ separated c b part) (sym later)

-- the words up to an index and the one there
pub join-take_more : (words : List (List ℕ)) (index : ℕ) (d : List ℕ) → index < length words
    → join_with_byte 32 (take (index + 1) words) ≡ join_with_byte 32 (take index words) ++ separated 32 (eqb index 0) (get_or words index d)
join-take_more words index d lt =
    let more : take (index + 1) words ≡ take index words ++ get_or words index d ∷ [] = take_more words index d lt in
    let long : length (take index words) ≡ index = omega (arith, length-take index words) in
    ap (join_with_byte 32) more ∙ join-push 32 (take index words) (get_or words index d)
    ∙ ap (λ (n : ℕ). join_with_byte 32 (take index words) ++ separated 32 (eqb n 0) (get_or words index d)) long

-- one more part at the end leaves what is put onto the first
pub onto_first-push : {X : Type 0} (x : X) (parts : List (List X)) (last : List X) → 0 < length parts → onto_first x (parts ++ last ∷ []) ≡ onto_first x parts ++ last ∷ []
onto_first-push x [] last some = absurd (omega arith)
onto_first-push x (part ∷ parts) last some = refl

-- parts of which the last is empty, joined: nothing, or bytes that end with the separator
pub join-last_empty : (c : ℕ) (parts : List (List ℕ)) → (join_with_byte c (parts ++ [] ∷ []) ≡ []) ⊎ ((front : List ℕ) × (join_with_byte c (parts ++ [] ∷ []) ≡ front ++ c ∷ []))
join-last_empty c [] = inl refl
join-last_empty c (part ∷ []) = inr (part, refl)
join-last_empty c (part ∷ other ∷ parts) = ⊎_elim
    (λ none. inr (part, ap (λ bytes. part ++ c ∷ bytes) none))
    (λ some. inr (part ++ c ∷ some.0, ap (λ bytes. part ++ c ∷ bytes) some.1 ∙ sym (append_assoc part (c ∷ some.0) (c ∷ []))))
    (join-last_empty c (other ∷ parts))

-- what holds of the separator and of each byte of each part holds of each byte of the parts joined
pub All-join : (P : ℕ → Type 0) (separator : ℕ) (parts : List (List ℕ)) → P separator → All (All P) parts → All P (join_with_byte separator parts)
All-join P separator [] own all = All-nil P
All-join P separator (part ∷ []) own all = All-head (All P) part [] all
All-join P separator (part ∷ next ∷ parts) own all =
    All-append P part (separator ∷ join_with_byte separator (next ∷ parts)) (All-head (All P) part (next ∷ parts) all)
    (All-cons P separator (join_with_byte separator (next ∷ parts)) own
    (All-join P separator (next ∷ parts) own (All-tail (All P) part (next ∷ parts) all)))

one_longer : (limit part others product whole more : ℕ) → part ≤ limit → others ≤ product → whole ≡ part + suc others → more ≡ product + (limit + 1) → whole ≤ more
one_longer limit part others product whole more short few is next = omega (arith, short, few, is, next)

-- parts of at most so many bytes, joined
pub length-join : (separator limit : ℕ) (parts : List (List ℕ)) → All (λ part. length part ≤ limit) parts → length (join_with_byte separator parts) ≤ (limit + 1) * length parts
length-join separator limit [] short = omega arith
length-join separator limit (part ∷ []) short = omega (arith, All-head (λ p. length p ≤ limit) part [] short)
length-join separator limit (part ∷ next ∷ parts) short =
    let after = join_with_byte separator (next ∷ parts) in
    one_longer limit (length part) (length after) ((limit + 1) * length (next ∷ parts)) (length (part ++ separator ∷ after)) ((limit + 1) * length (part ∷ next ∷ parts))
    (All-head (λ p. length p ≤ limit) part (next ∷ parts) short)
    (length-join separator limit (next ∷ parts) (All-tail (λ p. length p ≤ limit) part (next ∷ parts) short))
    (length-append part (separator ∷ after)) (mul-suc (limit + 1) (length (next ∷ parts)))
