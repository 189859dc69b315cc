-- What a stream is to its end (RFC 8831, section 6), what an OPEN says (RFC 8832, section 5.1), and what
-- an input brings.
use Rattle.std.specs.Prelude.{ℕ, Bool, true, false, Option, Some, None, List}
use Rattle.dcsctp_channel_spec.specs.declared.types.Delivery.{Delivery}
use Rattle.dcsctp_channel_spec.specs.declared.types.ChannelEnd.{ChannelEnd}
use Rattle.dcsctp_channel_spec.specs.declared.types.OwnReset.TheVariants.{NotAsked}
use Rattle.dcsctp_channel_spec.specs.declared.types.StreamUse.{StreamUse}
use Rattle.dcsctp_channel_spec.specs.Contents.{ChannelContent}

-- what an OPEN says; label and protocol in UTF-8
pub record Opening : Type 0 where
  pub label : List ℕ
  pub protocol : List ℕ
  pub delivery : Delivery

-- ---- a stream

pub data StreamSlot : Type 0 where
  free : StreamSlot
  used : StreamUse → StreamSlot

-- the peer doesn't know it yet
abbrev pub opened_use : ℕ → StreamUse
opened_use name =
    record { name = Some name; heard = false; owes_ack = false; closing = false; own = NotAsked; peer_reset = false; awaits_answer = false; refusals = 0 }

-- both ends agreed on it beforehand
abbrev pub agreed_use : ℕ → StreamUse
agreed_use name = record (opened_use name) { heard = true }

-- the peer has opened it
abbrev pub accepted_use : ℕ → Bool → StreamUse
accepted_use name awaits = record (opened_use name) { heard = true; owes_ack = true; awaits_answer = awaits }

-- the peer's use is refused: the stream is in use until both ends have reset it
abbrev pub refused_use : Bool → StreamUse
refused_use awaits =
    record { name = None; heard = true; owes_ack = false; closing = true; own = NotAsked; peer_reset = false; awaits_answer = awaits; refusals = 0 }

abbrev pub name_of_slot : StreamSlot → Option ℕ
name_of_slot free = None
name_of_slot (used stream) = stream.name

-- ---- what is reported to the user, and what is asked of the socket

pub data Report : Type 0 where
  -- the peer knows it
  opened : ℕ → Report
  incoming : ℕ → Opening → Report
  message : ℕ → ChannelContent → Report
  ended : ℕ → ChannelEnd → Report

pub data SlotAsk : Type 0 where
  send_open : Opening → SlotAsk
  send_ack : SlotAsk
  reset_stream : SlotAsk

-- The slot after, what is reported, oldest first, and what the socket must take: if it doesn't, the input doesn't count.
pub record SlotOutcome : Type 0 where
  pub after : StreamSlot
  pub reports : List Report
  pub asks : List SlotAsk

-- ---- inputs

pub data SlotInput : Type 0 where
  -- this end gives the stream to a channel
  opens : ℕ → Opening → SlotInput
  -- the same, where both ends agreed on it beforehand
  agrees : ℕ → SlotInput
  -- an OPEN. Is it accepted? It is where the stream is the peer's to give, both ends have it, and there is room.
  hears_open : Bool → ℕ → Opening → SlotInput
  hears_ack : SlotInput
  -- a message of a user
  hears_message : ChannelContent → SlotInput
  -- any other message: its identifier is unknown, it is too long, or it is a control message that can't be read
  hears_bad_message : SlotInput
  -- there is room for an ACK
  may_acknowledge : SlotInput
  -- the user closes the channel
  is_closed : SlotInput
  -- nothing waits on the stream, and all is acknowledged, or time is up
  all_is_sent : SlotInput
  -- the socket takes no request to reset streams
  cannot_reset : SlotInput
  -- the peer has performed a reset of the own stream
  was_performed : SlotInput
  -- the peer has refused it
  was_refused : SlotInput
  -- the peer has reset its stream
  peer_resets : SlotInput
  -- the association has ended, or was restarted
  association_ends : SlotInput
