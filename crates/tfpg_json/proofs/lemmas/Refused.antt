-- What is read as nothing, or runs out of memory, ends a call that reads it.
use Rattle.std.proofs.Common.{◌≡◌, Option, None, refl, sym, subst, ◌∙◌}
use Rattle.std.specs.Prelude.{Result, Ok, Err, IsErrAnd}
use Rattle.tfpg_graph.specs.declared.cause.GraphCause.TheVariants.{BadLine}
use Rattle.tfpg_graph.specs.declared.cause.GraphRefusal.{GraphRefusal}
use Rattle.tfpg_graph.specs.declared.cause.GraphRefusal.TheVariants.{Fault, NoMemory}
use Rattle.tfpg_json.specs.GraphText.{whole_fault}
use Rattle.tfpg_json.specs.inside.ReadAs.{ReadAs}

-- the refusal of what has not the shape
abbrev pub no_graph : GraphRefusal
no_graph = Fault (whole_fault BadLine)

module _ {V X : Type 0} (meaning : V → X) (wanted : Option X) (result : Result V GraphRefusal) where
  -- where a part is missing, so is the whole
  pub ReadAs-missing : (refusal : GraphRefusal) → IsErrAnd result (λ e. e ≡ refusal) → refusal ≡ no_graph → wanted ≡ None → ReadAs meaning wanted result
  ReadAs-missing refusal is same none = by result is
    where
      by : (r : Result V GraphRefusal) → IsErrAnd r (λ e. e ≡ refusal) → ReadAs meaning wanted r
      by (Ok found) given = absurd given
      by (Err e) given = subst (λ other. ReadAs meaning wanted (Err other)) (sym (given ∙ same)) (none, refl)

  -- what a part ends with, the whole ends with
  pub ReadAs-passed : {W Y : Type 0} (part_meaning : W → Y) (part : Option Y) (refusal : GraphRefusal) → IsErrAnd result (λ e. e ≡ refusal)
      → ReadAs part_meaning part (Err refusal) → (part ≡ None → wanted ≡ None) → ReadAs meaning wanted result
  ReadAs-passed part_meaning part refusal is read missing = by result is
    where
      at : (other : GraphRefusal) → ReadAs part_meaning part (Err other) → ReadAs meaning wanted (Err other)
      at (Fault fault) given = (missing given.0, given.1)
      at NoMemory given = tt

      by : (r : Result V GraphRefusal) → IsErrAnd r (λ e. e ≡ refusal) → ReadAs meaning wanted r
      by (Ok found) given = absurd given
      by (Err e) given = subst (λ other. ReadAs meaning wanted (Err other)) (sym given) (at refusal read)
