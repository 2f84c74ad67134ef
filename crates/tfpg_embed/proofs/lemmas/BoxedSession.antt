-- A box of an open session, and the types that own the same as it does.
use Rattle.std.specs.Prelude.{◌≡◌, Option, Some, None, IsSome}
use Rattle.std.proofs.Common.{refl, lit<}
use Rattle.std.proofs.lemmas.Bool.{false≢true}
use mir.Syntax.{impl, tnil, dnil}
use mathlib.Core.List.{[], ◌∷◌}
use denote.Signature.{Slot, plain}
use lib.Dec.{T}
use mir.Val.{Val, vstruct, of_list, has_ty, WT}
use denote.RawPtr.{Ptr, block_ptr, null_ptr, ptr_val}
use Rattle.core.proofs.alloc.Calls.{Fits, α}
use Rattle.std_alloc.proofs.ResultValues.{and_tt}
use Rattle.std_alloc.proofs.BoxSteps.Form.{Bx, box_ty, box_typed}
use Rattle.std_heap.specs.contracts.Global as Heap
use Rattle.std_heap.specs.contracts.GlobalAllocator.TheImpl.{ghosts, dict}
use Rattle.std_heap.proofs.Global.TheLaws as heap
use Rattle.tfpg_embed.specs.contracts.session.open_session.OpenSession as Opened
use Rattle.tfpg_embed.proofs.session.open_session.OpenSession.TheLaws as opened
use Rattle.tfpg_embed.specs.contracts.session.parts.BoxParts as BoxParts
use Rattle.tfpg_embed.specs.contracts.session.held.Held as Held

abbrev pub E : Bx
E = record { row = Opened.the_row; laws = opened.the_row_laws; al = record { row = Heap.the_row; laws = heap.the_row_laws; g = ghosts; d = dict; drops = impl [] tnil dnil } }

abbrev pub FromParts : Slot 0
FromParts = plain (λ _. BoxParts.the_row Opened.the_row Heap.the_row ghosts)

abbrev pub FromHeld : Slot 0
FromHeld = plain (λ _. Held.the_row)

abbrev pub FromGlobal : Slot 0
FromGlobal = plain (λ _. Heap.the_row)

pub some_value : {X : Type 0} (held : Option X) → IsSome held → (value : X) × (held ≡ Some value)
some_value None some = absurd (false≢true some)
some_value (Some value) some = (value, refl)

-- how the machine stores a pointer and an allocator's handle
abbrev pub pair_of : Ptr → Val → Val
pair_of at handle = vstruct (of_list (ptr_val at ∷ handle ∷ []))

-- these have the type of a box
pub pair_typed : (at : Ptr) (handle : Val) → Fits E.al handle → T (has_ty (box_ty E) (pair_of at handle)) × WT (pair_of at handle)
pair_typed null_ptr handle fits = (and_tt (has_ty (α E.al) handle) fits.0, (record { fits = lit< tt }, (fits.1, tt)))
pair_typed (block_ptr b o) handle fits = box_typed E handle b o fits
