-- What is held may go to another thread, as the session in its box may.
use mir.Raw.{raw}
use base.Shift.{Keyless}
use denote.Memory.{lone}
use denote.RawPtr.{Ptr}
use denote.Struct.Struct.{exits_of}
use denote.Struct.Owning.{shape, fields, to}
use denote.Param.Send.{IsSend, AllSend, owning_send, struct_send, sendable}
use Rattle.std.specs.Prelude.{Option, Some, None}
use Rattle.std.specs.Global.{Global}
use Rattle.std.proofs.Crossing as heap
use Rattle.std_alloc.proofs.SendSync.{quiet, lies}
use Rattle.std_heap.proofs.Global.TheSendSync as handle
use Rattle.tfpg_embed.specs.Holding.{owns_session}
use Rattle.tfpg_embed.specs.contracts.session.open_session.OpenSession as Opened
use Rattle.tfpg_embed.proofs.session.open_session.OpenSession.TheSendSync.{the_send as opened}
use Rattle.tfpg_embed.specs.contracts.session.held.Held.{the_row, the_type}

owned : (alloc : Global) (at : Ptr) (session : Option Opened.the_row.Denot) → Keyless (owns_session alloc at session)
owned alloc at None = tt
owned alloc at (Some session) = (lies Opened.the_row opened at session, heap.frees.frees alloc (raw (lone Opened.the_row.mir)) at)

pub send : IsSend the_row
send =
    let all : AllSend (fields the_type) = (search sendable, (handle.the_field_send, tt)) in
    owning_send the_type all (λ held. owned held.alloc held.at held.session)
    (λ k. quiet (to the_type) (exits_of k (fields the_type)) ((struct_send (shape the_type) all).leaving k))
