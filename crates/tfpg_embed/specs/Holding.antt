-- What a handle holds owns.
use base.Fml.{Fml, ftrue}
use base.Stored.{Coded}
use denote.RawPtr.{Ptr}
use Rattle.std.specs.Prelude.{Option, Some, None}
use Rattle.std.specs.Coded.{coded_option}
use Rattle.std.specs.Box.Ownership.{box_owns}
use Rattle.std.specs.Global.{Global}
use Rattle.std_heap.specs.contracts.GlobalAllocator.TheImpl.{ghosts}
use Rattle.tfpg_embed.specs.contracts.session.open_session.OpenSession.{the_row}

-- what is owned behind the pointer: a box of the session, if there is one, and else nothing
abbrev pub owns_session : Global → Ptr → Option the_row.Denot → Fml
owns_session alloc at None = ftrue
owns_session alloc at (Some session) = box_owns (ghosts.dealloc_token alloc) the_row at session

-- how a proof tells such values apart
abbrev pub coded_session : Coded (Option the_row.Denot)
coded_session = coded_option the_row.coded
