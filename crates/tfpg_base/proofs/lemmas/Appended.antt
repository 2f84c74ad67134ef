-- One call that appends after another.
use Rattle.std.proofs.Common.{◌≡◌, ℕ, List, ◌++◌}
use Rattle.std.specs.Prelude.{Result, Ok, Err, IsErr}
use Rattle.tfpg_base.specs.declared.no_memory.NoMemory.{NoMemory}
use Rattle.tfpg_base.specs.Append.{Appends}
use Rattle.tfpg_base.proofs.lemmas.lists.Appended.{appended_after, kept_after}

-- an error is one where memory ran out
pub Appends-err : (result : Result (Unit {0}) NoMemory) (old new text : List ℕ) → IsErr result → (rest : List ℕ) × (new ≡ old ++ rest) → Appends result old new text
Appends-err (Ok done) old new text e h = absurd cc
Appends-err (Err short) old new text e h = h

-- an error of a call after a text that was appended
pub Appends-err_after : (result : Result (Unit {0}) NoMemory) (old mid new a text : List ℕ) → IsErr result → mid ≡ old ++ a → (rest : List ℕ) × (new ≡ mid ++ rest) → Appends result old new text
Appends-err_after result old mid new a text e h k = Appends-err result old new text e (kept_after old mid new a h k)

-- a last call after a text that was appended, whose result is returned
pub Appends-after : (result : Result (Unit {0}) NoMemory) (old mid new a b : List ℕ) → mid ≡ old ++ a → Appends result mid new b → Appends result old new (a ++ b)
Appends-after (Ok done) old mid new a b e h = appended_after old mid new a b e h
Appends-after (Err short) old mid new a b e h = kept_after old mid new a e h

-- four texts that were appended, and a last call whose result is handed on
pub Appends-after_four : (result : Result (Unit {0}) NoMemory) (old m1 m2 m3 m4 new a b c d e : List ℕ)
    → m1 ≡ old ++ a → m2 ≡ m1 ++ b → m3 ≡ m2 ++ c → m4 ≡ m3 ++ d → Appends result m4 new e → Appends result old new (a ++ b ++ c ++ d ++ e)
Appends-after_four result old m1 m2 m3 m4 new a b c d e h1 h2 h3 h4 h5 =
    Appends-after result old m4 new (a ++ b ++ c ++ d) e
    (appended_after old m3 m4 (a ++ b ++ c) d (appended_after old m2 m3 (a ++ b) c (appended_after old m1 m2 a b h1 h2) h3) h4)
    h5

-- five texts that were appended, and a last call whose result is handed on
pub Appends-after_five : (result : Result (Unit {0}) NoMemory) (old m1 m2 m3 m4 m5 new a b c d e f : List ℕ)
    → m1 ≡ old ++ a → m2 ≡ m1 ++ b → m3 ≡ m2 ++ c → m4 ≡ m3 ++ d → m5 ≡ m4 ++ e → Appends result m5 new f
    → Appends result old new (a ++ b ++ c ++ d ++ e ++ f)
Appends-after_five result old m1 m2 m3 m4 m5 new a b c d e f h1 h2 h3 h4 h5 h6 =
    Appends-after result old m5 new (a ++ b ++ c ++ d ++ e) f
    (appended_after old m4 m5 (a ++ b ++ c ++ d) e
    (appended_after old m3 m4 (a ++ b ++ c) d (appended_after old m2 m3 (a ++ b) c (appended_after old m1 m2 a b h1 h2) h3) h4) h5)
    h6
