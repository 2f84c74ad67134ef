-- The marks of the splits on a path: which of them were cited.
use Rattle.std.proofs.Common.{◌≡◌, ℕ, zero, suc, ◌+◌, ◌-◌, ◌<◌, ◌≤◌, ◌⊎◌, inl, inr, List, [], ◌∷◌, ◌++◌, length, get_or, take, Bool, true, false, Option, Some, refl, sym, ap, ◌∙◌, arith}
use Rattle.std.specs.Prelude.{◌||◌, not, slice_get, slice_set, option_and_then}
use Rattle.std.proofs.lemmas.List.{take_more}
use Rattle.std.proofs.Math.Bool.{or_assoc, or-false, or-true}
use Rattle.std.proofs.lemmas.Bool.Decides.{nat_tests}
use Rattle.std.proofs.lemmas.List.Folds.{list_any-append}
use Rattle.std.proofs.lemmas.List.{length-append}
use Rattle.tfpg_base.proofs.lemmas.lists.Written.{slice_get-push_at}
use Rattle.tfpg_base.specs.Choice.{item_at, last_of}
use Rattle.tfpg_evidence.specs.declared.reason.Reason.{Reason}
use Rattle.tfpg_evidence.specs.declared.reason.Reason.TheVariants.{Zero, Top, Unreached, From, Upto, Quiet, Pick}
use Rattle.tfpg_clause.specs.Paths.{is_pick_of, cites, also_cited, cited_from, cited_by}
use Rattle.tfpg_clause.specs.declared.path.PathSplit.{PathSplit}

-- What two lists of reasons cite one after the other is what both cite.
pub cited_both : (number : ℕ) (one other : List Reason) (path : List PathSplit)
    → cited_from number other (cited_from number one path) ≡ cited_from number (one ++ other) path
cited_both number one other [] = refl
cited_both number one other (split ∷ deeper) =
    let here : (split.cited || cites one number || cites other number) ≡ (split.cited || cites (one ++ other) number) =
    or_assoc split.cited (cites one number) (cites other number)
    ∙ ap (λ (b : Bool). split.cited || b) (sym (list_any-append (is_pick_of number) one other)) in
    (λ i. record split { cited = here i } ∷ cited_both (number + 1) one other deeper i)

-- No reason cites nothing.
pub cited_none : (number : ℕ) (path : List PathSplit) → cited_from number [] path ≡ path
cited_none number [] = refl
cited_none number (split ∷ deeper) = (λ i. record split { cited = or-false split.cited i } ∷ cited_none (number + 1) deeper i)

-- The last split has the last number.
pub cited_push : (number : ℕ) (reasons : List Reason) (path : List PathSplit) (split : PathSplit)
    → cited_from number reasons (path ++ split ∷ [])
    ≡ cited_from number reasons path ++ also_cited (cites reasons (length path + number)) split ∷ []
cited_push number reasons [] split = ap (λ (n : ℕ). also_cited (cites reasons n) split ∷ []) (omega arith)
cited_push number reasons (first ∷ path) split =
    let same : length path + (number + 1) ≡ length (first ∷ path) + number = omega arith in
    ap (λ (ps : List PathSplit). also_cited (cites reasons number) first ∷ ps)
    (cited_push (number + 1) reasons path split
    ∙ ap (λ (n : ℕ). cited_from (number + 1) reasons path ++ also_cited (cites reasons n) split ∷ []) same)

-- What does not look at marks is found as before.
pub found_cited : {X : Type 0} (f : PathSplit → Option X) → ((cited : Bool) (split : PathSplit) → f (also_cited cited split) ≡ f split)
    → (number : ℕ) (reasons : List Reason) (path : List PathSplit) (index : ℕ)
    → option_and_then f (slice_get (cited_from number reasons path) index) ≡ option_and_then f (slice_get path index)
found_cited f same number reasons [] index = refl
found_cited f same number reasons (split ∷ deeper) zero = same (cites reasons number) split
found_cited f same number reasons (split ∷ deeper) (suc index) = found_cited f same (number + 1) reasons deeper index

-- The same of the split of a number.
pub item_cited : {X : Type 0} (f : PathSplit → Option X) → ((cited : Bool) (split : PathSplit) → f (also_cited cited split) ≡ f split)
    → (reasons : List Reason) (path : List PathSplit) (number : ℕ)
    → option_and_then f (item_at (cited_by reasons path) number) ≡ option_and_then f (item_at path number)
item_cited f same reasons path zero = refl
item_cited f same reasons path (suc index) = found_cited f same 1 reasons path index

-- There are as many splits as before.
pub length-cited : (number : ℕ) (reasons : List Reason) (path : List PathSplit) → length (cited_from number reasons path) ≡ length path
length-cited number reasons [] = refl
length-cited number reasons (split ∷ deeper) = ap (λ (n : ℕ). suc n) (length-cited (number + 1) reasons deeper)

-- The last of a path with one more split is that split.
pub last_push : (path : List PathSplit) (split : PathSplit) → last_of (path ++ split ∷ []) ≡ Some split
last_push path split = slice_get-push_at path split (length (path ++ split ∷ []) - 1) (omega (arith, length-append path (split ∷ [])))

-- What is cited is not reusable.
pub not_both : (before now : Bool) → now ≡ true → not (before || now) ≡ true → ⊥
not_both false false cited reusable = cc
not_both false true cited reusable = cc
not_both true now cited reusable = cc

-- ---- one reason

cites_one : (reason : Reason) (number : ℕ) → cites (reason ∷ []) number ≡ is_pick_of number reason
cites_one reason number = or-false (is_pick_of number reason)

cited_head : (number : ℕ) (reason : Reason) (split : PathSplit) → is_pick_of number reason ≡ false
    → also_cited (cites (reason ∷ []) number) split ≡ split
cited_head number reason split not_here =
    ap (λ (b : Bool). also_cited b split) (cites_one reason number ∙ not_here)
    ∙ ap (λ (b : Bool). record split { cited = b }) (or-false split.cited)

-- A reason that is no pick of a split on the path marks none.
pub uncited : (number : ℕ) (reason : Reason) (path : List PathSplit)
    → ((n : ℕ) → number ≤ n → n < number + length path → is_pick_of n reason ≡ false)
    → cited_from number (reason ∷ []) path ≡ path
uncited number reason [] none = refl
uncited number reason (split ∷ deeper) none =
    let head : also_cited (cites (reason ∷ []) number) split ≡ split =
    cited_head number reason split (none number (omega arith) (omega arith)) in
    (λ i. head i ∷ uncited (number + 1) reason deeper (λ n low high. none n (omega arith) (omega arith)) i)

-- What is no pick marks none.
pub no_pick : (reason : Reason) (path : List PathSplit) → ((split constraint : ℕ) → reason ≡ Pick split constraint → ⊥)
    → cited_by (reason ∷ []) path ≡ path
no_pick (Pick split constraint) path other = absurd (other split constraint refl)
no_pick (Zero node) path other = uncited 1 (Zero node) path (λ n low high. refl)
no_pick (Top node) path other = uncited 1 (Top node) path (λ n low high. refl)
no_pick (Unreached node horizon) path other = uncited 1 (Unreached node horizon) path (λ n low high. refl)
no_pick (From event) path other = uncited 1 (From event) path (λ n low high. refl)
no_pick (Upto event) path other = uncited 1 (Upto event) path (λ n low high. refl)
no_pick (Quiet event node) path other = uncited 1 (Quiet event node) path (λ n low high. refl)

-- A pick marks its split, as code writes it,
pub pick_here : (number split constraint : ℕ) (path : List PathSplit) (index : ℕ) (d : PathSplit) → split ≡ number + index
    → index < length path
    → cited_from number (Pick split constraint ∷ []) path ≡ slice_set path index (record (get_or path index d) { cited = true })
pick_here number split constraint [] index d same within = absurd (omega arith)
pick_here number split constraint (first ∷ deeper) zero d same within =
    let here : cites (Pick split constraint ∷ []) number ≡ true = cites_one (Pick split constraint) number ∙ grind (arith, nat_tests) in
    let head : (first.cited || cites (Pick split constraint ∷ []) number) ≡ true =
    ap (λ (b : Bool). first.cited || b) here ∙ or-true first.cited in
    (λ i. record first { cited = head i } ∷ uncited (number + 1) (Pick split constraint) deeper (λ n low high. grind (arith, nat_tests)) i)
pick_here number split constraint (first ∷ deeper) (suc index) d same within =
    let head : also_cited (cites (Pick split constraint ∷ []) number) first ≡ first =
    cited_head number (Pick split constraint) first (grind (arith, nat_tests)) in
    (λ i. head i ∷ pick_here (number + 1) split constraint deeper index d (omega arith) (omega arith) i)

-- where there is one.
pub pick_nowhere : (split constraint : ℕ) (path : List PathSplit) → (split ≡ 0) ⊎ (length path < split)
    → cited_by (Pick split constraint ∷ []) path ≡ path
pick_nowhere split constraint path (inl none) = uncited 1 (Pick split constraint) path (λ n low high. grind (arith, nat_tests))
pick_nowhere split constraint path (inr past) = uncited 1 (Pick split constraint) path (λ n low high. grind (arith, nat_tests))

-- Reasons are cited one by one, as a loop does.
pub cited_more : (reasons : List Reason) (path before after : List PathSplit) (index : ℕ) (d : Reason) → index < length reasons
    → before ≡ cited_by (take index reasons) path
    → after ≡ cited_by (get_or reasons index d ∷ []) before → after ≡ cited_by (take (index + 1) reasons) path
cited_more reasons path before after index d within so_far one =
    one ∙ ap (cited_by (get_or reasons index d ∷ [])) so_far ∙ cited_both 1 (take index reasons) (get_or reasons index d ∷ []) path
    ∙ ap (λ (rs : List Reason). cited_by rs path) (sym (take_more reasons index d within))
