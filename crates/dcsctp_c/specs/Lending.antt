-- A slot whose session is lent.
use base.Fml.{Fml}
use denote.Follow.{follows}
use denote.Ref.{MutBor}
use Rattle.std.specs.Prelude.{Some}
use Rattle.dcsctp_channel_session.specs.contracts.held.Held as content
use Rattle.dcsctp_c.specs.declared.slot.Slot.{Slot}
use Rattle.dcsctp_c.specs.contracts.slot.Slot as slot

-- the slot with this session; its pointer stays
abbrev pub with_value : Slot → content.the_row.Denot → Slot
with_value s held = record { ptr = s.ptr; alloc = s.alloc; value = Some held }

-- Once the loan ends, the slot has the session that was left there.
abbrev pub slot_follows : MutBor Slot → MutBor content.the_row.Denot → Fml
slot_follows s held = follows slot.the_row content.the_row s.ghost_name held.ghost_name (with_value s.now)
