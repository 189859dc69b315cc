-- Lives of a stream that the RFCs describe, step by step: what is reported and asked, and what is left.
use Rattle.std.proofs.Common.{◌≡◌, true, false, List, [], ◌∷◌, ◌++◌, Some, refl}
use Rattle.dcsctp_channel_spec.specs.declared.types.ChannelEnd.TheVariants.{Closed, Refused, ResetRefused, Lost}
use Rattle.dcsctp_channel_spec.specs.declared.types.Reliability.TheVariants.{Reliable}
use Rattle.dcsctp_channel_spec.specs.declared.types.Role.TheVariants.{Client, Server}
use Rattle.dcsctp_channel_spec.specs.Contents.{ChannelContent, content_from, content_ppid, payload_of}
use Rattle.dcsctp_channel_spec.specs.Streams.{is_own}
use Rattle.dcsctp_channel_spec.specs.Slots.{Opening, StreamSlot, free, used, refused_use, Report, opened, incoming, message, ended, SlotAsk, send_open, send_ack, reset_stream, SlotOutcome, SlotInput, opens, agrees, hears_open, hears_ack, hears_message, hears_bad_message, may_acknowledge, is_closed, all_is_sent, was_performed, was_refused, peer_resets, association_ends}
use Rattle.dcsctp_channel_spec.specs.Table.{outcome_of}

-- ---- a life

record Life : Type 0 where
  reports : List Report
  asks : List SlotAsk
  left : StreamSlot

abbrev life_from : List SlotInput → StreamSlot → Life
life_from [] slot = record { reports = []; asks = []; left = slot }
life_from (input ∷ inputs) slot = after (outcome_of input slot) (life_from inputs (outcome_of input slot).after)
  where
    after : SlotOutcome → Life → Life
    after outcome rest = record { reports = outcome.reports ++ rest.reports; asks = outcome.asks ++ rest.asks; left = rest.left }

abbrev life_of : List SlotInput → Life
life_of inputs = life_from inputs free

-- ---- what is sent

-- a reliable, ordered channel "ab" of the normal priority
chat : Opening
chat = record { label = 97 ∷ 98 ∷ []; protocol = []; delivery = record { ordered = true; reliability = Reliable; priority = 256 } }

hello : ChannelContent
hello = record { is_text = true; bytes = 104 ∷ 105 ∷ [] }

nothing : ChannelContent
nothing = record { is_text = false; bytes = [] }

-- RFC 8831, sections 6.6 and 8
text_is_51 : content_ppid hello ≡ 51
unfolding hello
text_is_51 = refl

empty_binary_is_57 : content_ppid nothing ≡ 57
unfolding nothing
empty_binary_is_57 = refl

empty_is_one_byte : payload_of nothing ≡ 0 ∷ []
unfolding nothing
empty_is_one_byte = refl

-- the byte of an empty message is ignored
any_byte_is_ignored : content_from 57 (9 ∷ []) ≡ Some nothing
unfolding nothing
any_byte_is_ignored = refl

-- the client's first stream is 0, the server's 1 (RFC 8832, section 6)
client_has_0 : is_own Client 0 ≡ true
client_has_0 = refl

server_has_1 : is_own Server 1 ≡ true
server_has_1 = refl

-- ---- lives

-- This end opens a channel, gets an ACK and a message, and closes it; the peer performs the reset and resets its own.
opener_closes : life_of (opens 7 chat ∷ hears_ack ∷ hears_message hello ∷ is_closed ∷ all_is_sent ∷ was_performed ∷ peer_resets ∷ [])
    ≡ record { reports = opened 7 ∷ message 7 hello ∷ ended 7 Closed ∷ []; asks = send_open chat ∷ reset_stream ∷ []; left = free }
opener_closes = refl

-- The peer opens a channel, which is acknowledged, and closes it: this end resets its own stream, too (RFC 8831, section 6.7).
peer_closes : life_of (hears_open true 7 chat ∷ may_acknowledge ∷ hears_message hello ∷ peer_resets ∷ all_is_sent ∷ was_performed ∷ [])
    ≡ record { reports = incoming 7 chat ∷ message 7 hello ∷ ended 7 Closed ∷ []; asks = send_ack ∷ reset_stream ∷ []; left = free }
peer_closes = refl

-- Both ends close at once. What comes after the own close is dropped.
both_close : life_of (opens 7 chat ∷ hears_ack ∷ is_closed ∷ hears_message hello ∷ all_is_sent ∷ peer_resets ∷ was_performed ∷ [])
    ≡ record { reports = opened 7 ∷ ended 7 Closed ∷ []; asks = send_open chat ∷ reset_stream ∷ []; left = free }
both_close = refl

-- A message in place of the ACK opens the channel, too (RFC 8832, section 6).
message_opens : life_of (opens 7 chat ∷ hears_message hello ∷ [])
    ≡ record { reports = opened 7 ∷ message 7 hello ∷ []; asks = send_open chat ∷ []; left = (outcome_of hears_ack (outcome_of (opens 7 chat) free).after).after }
message_opens = refl

-- The peer resets a channel that it never answered: it is refused.
refused_by_peer : life_of (opens 7 chat ∷ peer_resets ∷ all_is_sent ∷ was_performed ∷ [])
    ≡ record { reports = ended 7 Refused ∷ []; asks = send_open chat ∷ reset_stream ∷ []; left = free }
refused_by_peer = refl

-- An ACK that comes once the user has closed the channel is no refusal.
late_ack : life_of (opens 7 chat ∷ is_closed ∷ hears_ack ∷ all_is_sent ∷ was_performed ∷ peer_resets ∷ [])
    ≡ record { reports = ended 7 Closed ∷ []; asks = send_open chat ∷ reset_stream ∷ []; left = free }
late_ack = refl

-- An OPEN that isn't accepted, and data of no channel: the stream is reset, and nothing is reported.
refused_here : life_of (hears_open false 7 chat ∷ all_is_sent ∷ was_performed ∷ peer_resets ∷ [])
    ≡ record { reports = []; asks = reset_stream ∷ []; left = free }
refused_here = refl

data_without_channel : life_of (hears_message hello ∷ all_is_sent ∷ []) ≡ life_of (hears_open false 7 chat ∷ all_is_sent ∷ [])
data_without_channel = refl

-- A message that can't be read closes the channel; a second OPEN does, too.
bad_message_closes : life_of (opens 7 chat ∷ hears_bad_message ∷ all_is_sent ∷ was_performed ∷ peer_resets ∷ [])
    ≡ record { reports = ended 7 Refused ∷ []; asks = send_open chat ∷ reset_stream ∷ []; left = free }
bad_message_closes = refl

second_open_closes : life_of (hears_open true 7 chat ∷ may_acknowledge ∷ hears_open true 8 chat ∷ all_is_sent ∷ was_performed ∷ peer_resets ∷ [])
    ≡ record { reports = incoming 7 chat ∷ ended 7 Closed ∷ []; asks = send_ack ∷ reset_stream ∷ []; left = free }
second_open_closes = refl

-- The answer to our reset is lost, and the peer gives the stream again, which is refused. No second reset is asked for
-- before the first is answered.
answer_is_awaited : life_of (opens 7 chat ∷ hears_ack ∷ is_closed ∷ all_is_sent ∷ peer_resets ∷ hears_open false 8 chat ∷ all_is_sent ∷ was_performed ∷ all_is_sent ∷ [])
    ≡ record {
      reports = opened 7 ∷ ended 7 Closed ∷ [];
      asks = send_open chat ∷ reset_stream ∷ reset_stream ∷ [];
      left = (outcome_of all_is_sent (used (refused_use false))).after;
    }
answer_is_awaited = refl

-- A peer that refuses three times isn't asked a fourth time, and the stream isn't given again.
abbrev refuses : List SlotInput
refuses = all_is_sent ∷ was_refused ∷ all_is_sent ∷ was_refused ∷ all_is_sent ∷ was_refused ∷ []

third_refusal_ends : (life_of (opens 7 chat ∷ is_closed ∷ refuses ++ all_is_sent ∷ peer_resets ∷ [])).reports ≡ ended 7 ResetRefused ∷ []
third_refusal_ends = refl

fourth_is_not_asked : (life_of (opens 7 chat ∷ is_closed ∷ refuses ++ all_is_sent ∷ peer_resets ∷ [])).asks
    ≡ send_open chat ∷ reset_stream ∷ reset_stream ∷ reset_stream ∷ []
fourth_is_not_asked = refl

-- Both ends agreed on the stream: nothing is sent, and it is open at once.
agreed : life_of (agrees 7 ∷ hears_message hello ∷ association_ends ∷ [])
    ≡ record { reports = opened 7 ∷ message 7 hello ∷ ended 7 Lost ∷ []; asks = []; left = free }
agreed = refl

-- The close is no end yet, nor is the own reset.
not_over_yet : (life_of (opens 7 chat ∷ hears_ack ∷ is_closed ∷ all_is_sent ∷ was_performed ∷ [])).reports ≡ opened 7 ∷ []
not_over_yet = refl

-- A stream that the peer gives again after both resets: the old channel ends, the new one comes.
given_again : (life_of (hears_open true 7 chat ∷ may_acknowledge ∷ is_closed ∷ all_is_sent ∷ peer_resets ∷ hears_open true 8 chat ∷ may_acknowledge ∷ [])).reports
    ≡ incoming 7 chat ∷ ended 7 Closed ∷ incoming 8 chat ∷ []
given_again = refl

-- The answer that is awaited may be a refusal.
refusal_is_an_answer : (life_of (opens 7 chat ∷ is_closed ∷ all_is_sent ∷ peer_resets ∷ hears_open false 8 chat ∷ was_refused ∷ all_is_sent ∷ [])).asks
    ≡ send_open chat ∷ reset_stream ∷ reset_stream ∷ []
refusal_is_an_answer = refl
