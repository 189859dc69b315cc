-- One turn of an endpoint: an input, and its outcome.
use Rattle.std.specs.Prelude.{◌≡◌, ℕ, Bool, true, false, List, [], ◌∷◌, codes, ◌&&◌, if◌then◌else◌}
use Rattle.dcsctp_types.specs.declared.kinds.ErrorKind.TheVariants.{ParseFailed}
use Rattle.dcsctp_types.specs.wire.Content.{data_chunk, i_data_chunk, sack_chunk, forward_tsn_chunk, i_forward_tsn_chunk}
use Rattle.dcsctp_spec.specs.Packet.{Content, init, init_ack, cookie_echo, cookie_ack, re_config, abort, shutdown, shutdown_ack, shutdown_complete, plain, unworked, is_data}
use Rattle.dcsctp_spec.specs.endpoint.Endpoint.{Endpoint, Core, open_in, shutdown_sent, is_cookie_echoed}
use Rattle.dcsctp_spec.specs.endpoint.Outcome.{Outcome, still, count_up, reports}
use Rattle.dcsctp_types.specs.Snapshot.{Snapshot}
use Rattle.dcsctp_spec.specs.endpoint.HandoverOutcomes.{hand_over_outcome}
use Rattle.dcsctp_spec.specs.endpoint.HandshakeOutcomes.{InitTurn, ConnectTurn, InitAckTurn, CookieAckTurn}
use Rattle.dcsctp_spec.specs.endpoint.CookieEchoOutcomes.{CookieEchoTurn}
use Rattle.dcsctp_spec.specs.endpoint.EndOutcomes.{abort_outcome, aborting_outcome}
use Rattle.dcsctp_spec.specs.endpoint.DataOutcomes.{FlushTurn, AcknowledgesPacket, TakeTurn}
use Rattle.dcsctp_spec.specs.endpoint.MessageOutcomes.{Sending, SendTurn}
use Rattle.dcsctp_spec.specs.endpoint.OwnTimers.{OwnTimer, TimerTurn}
use Rattle.dcsctp_spec.specs.endpoint.PlainOutcomes.{PlainTurn}
use Rattle.dcsctp_spec.specs.endpoint.PreparedResets.{OwnResetsTurn}
use Rattle.dcsctp_spec.specs.endpoint.ResetOutcomes.{ResetTurn}
use Rattle.dcsctp_spec.specs.endpoint.RestoreOutcomes.{RestoreTurn}
use Rattle.dcsctp_types.specs.Setting.{Setting}
use Rattle.dcsctp_spec.specs.endpoint.SettingOutcomes.{setting_outcome}
use Rattle.dcsctp_spec.specs.endpoint.HeardShutdown.{ShutdownTurn}
use Rattle.dcsctp_spec.specs.endpoint.ShutdownOutcomes.{step_outcome, shut_down_outcome, shutdown_ack_outcome, shutdown_complete_outcome, t2_again_outcome, shutdown_repeated}
use Rattle.dcsctp_spec.specs.endpoint.TimerOutcomes.{T1AgainTurn, t1_gives_up_outcome}
use Rattle.dcsctp_spec.specs.association.Acts.{Act, connect, t1_expires, shut_down, step_of_shutdown, shutdown_repeats, abort_with, hands_over, flushes, request_again, request_renewed}
use Rattle.dcsctp_spec.specs.association.Controlled.{IsControlledAct}

pub data Input : Type 0 where
  -- a packet is handed in, and counted
  arrival : Input
  -- it can't be read or isn't admitted, for the reason that the text gives
  refusal : List ℕ → Input
  -- The chunks of an admitted packet, these, are about to be handled.
  packet_begins : List Content → Input
  -- a chunk of an admitted packet with this verification tag is handled
  chunk_input : ℕ → Content → Input
  -- No other chunk of the packet is handled, and its rest wasn't dropped.
  packet_ends : Input
  -- what the user or a timer brings
  act_input : Act → Input
  -- The user sets something that isn't reported to the peer.
  user_sets : Setting → Input
  -- The user sends these messages.
  user_sends : List Sending → Input
  -- The user resets the streams of these numbers.
  user_resets : List ℕ → Input
  -- The user takes a message that was received.
  user_takes : Input
  -- A timer of an association expires.
  timer_expires : OwnTimer → Input
  -- The clock is moved to this moment.
  time_passes : ℕ → Input
  -- A closed socket continues from this snapshot.
  restores : Snapshot → Input

-- the text for bytes that are no packet
abbrev pub unreadable_text : List ℕ
unreadable_text = codes "Failed to parse SCTP packet"

abbrev pub arrival_outcome : Endpoint → Outcome
arrival_outcome e = still (record e { has_answered = false; counts = record e.counts { packets_received = count_up e.counts.packets_received } })

abbrev pub refusal_outcome : Endpoint → List ℕ → Outcome
refusal_outcome e text = reports e ParseFailed text

-- Is there data among these?
abbrev pub has_data_chunk : Bool → List Content → Bool
has_data_chunk follows_rfc [] = false
has_data_chunk follows_rfc (plain chunk ∷ contents) = if is_data follows_rfc chunk then true else has_data_chunk follows_rfc contents
has_data_chunk follows_rfc (content ∷ contents) = has_data_chunk follows_rfc contents

-- Data that comes while a SHUTDOWN waits for its answer is answered by another, before the chunks (RFC 9260, section 9.2).
abbrev pub BeginTurn : Endpoint → Core → Bool → Outcome → Type 0
BeginTurn e (open_in shutdown_sent my held) true o = o ≡ shutdown_repeated e held
BeginTurn e core has o = o ≡ still e

-- The end of a packet: what came with it is acknowledged.
abbrev pub EndTurn : Endpoint → Outcome → Type 0
EndTurn e o = AcknowledgesPacket e e.queues.transfer o

-- Is this data, or does it speak of data or of streams?
abbrev pub needs_connection : Content → Bool
needs_connection (re_config parameters) = true
needs_connection (plain (unworked (data_chunk chunk))) = true
needs_connection (plain (unworked (i_data_chunk chunk))) = true
needs_connection (plain (unworked (sack_chunk chunk))) = true
needs_connection (plain (unworked (forward_tsn_chunk tsn streams))) = true
needs_connection (plain (unworked (i_forward_tsn_chunk tsn streams))) = true
needs_connection content = false

-- Does such a chunk come before the COOKIE ACK? By the RFC it is dropped (RFC 9260, section 6): where both sides connect, it may
-- belong to another association, in which the peer sends it again.
abbrev pub comes_early : Endpoint → Content → Bool
comes_early e content = needs_connection content && (e.options.follow_rfc && is_cookie_echoed e.core)

-- What a chunk does that is handled.
abbrev pub HandlesContent : Endpoint → ℕ → Content → Outcome → Type 0
HandlesContent e tag (init theirs) o = InitTurn e theirs o
HandlesContent e tag (init_ack theirs cookie) o = InitAckTurn e theirs cookie o
HandlesContent e tag (cookie_echo cookie) o = CookieEchoTurn e tag cookie o
HandlesContent e tag cookie_ack o = CookieAckTurn e o
HandlesContent e tag (re_config parameters) o = ResetTurn e e.core parameters o
HandlesContent e tag (abort reflected causes) o = o ≡ abort_outcome e causes e.core
HandlesContent e tag (shutdown cumulative_tsn) o = ShutdownTurn e e.core cumulative_tsn o
HandlesContent e tag shutdown_ack o = o ≡ shutdown_ack_outcome e e.core tag
HandlesContent e tag (shutdown_complete reflected) o = o ≡ shutdown_complete_outcome e e.core
HandlesContent e tag (plain chunk) o = PlainTurn e chunk o

-- by whether it comes early
abbrev pub HandlesUnlessEarly : Bool → Endpoint → ℕ → Content → Outcome → Type 0
HandlesUnlessEarly true e tag content o = o ≡ still e
HandlesUnlessEarly false e tag content o = HandlesContent e tag content o

-- What a chunk does.
abbrev pub ContentTurn : Endpoint → ℕ → Content → Outcome → Type 0
ContentTurn e tag content o = HandlesUnlessEarly (comes_early e content) e tag content o

-- What the user and the timers bring.
abbrev pub ActTurn : Endpoint → Act → Outcome → Type 0
ActTurn e connect o = ConnectTurn e o
ActTurn e (t1_expires true) o = T1AgainTurn e o
ActTurn e (t1_expires false) o = o ≡ t1_gives_up_outcome e e.core
ActTurn e shut_down o = o ≡ shut_down_outcome e e.core
ActTurn e step_of_shutdown o = o ≡ step_outcome e e.core
ActTurn e shutdown_repeats o = o ≡ t2_again_outcome e
ActTurn e (abort_with reason) o = o ≡ aborting_outcome e e.core reason
ActTurn e hands_over o = o ≡ hand_over_outcome e e.core
ActTurn e flushes o = FlushTurn e o
ActTurn e (request_again reset) o = IsControlledAct e (request_again reset) o
ActTurn e (request_renewed reset) o = IsControlledAct e (request_renewed reset) o

-- The clock is set to this moment, and nothing else happens.
abbrev pub with_clock : ℕ → Endpoint → Endpoint
with_clock moment e = record e { moment = moment }

abbrev pub Turn : Endpoint → Input → Outcome → Type 0
Turn e arrival o = o ≡ arrival_outcome e
Turn e (refusal text) o = o ≡ refusal_outcome e text
Turn e (packet_begins contents) o = BeginTurn e e.core (has_data_chunk e.options.follow_rfc contents) o
Turn e (chunk_input tag content) o = ContentTurn e tag content o
Turn e packet_ends o = EndTurn e o
Turn e (act_input act) o = ActTurn e act o
Turn e (user_sets setting) o = o ≡ setting_outcome e setting
Turn e (user_sends messages) o = SendTurn e messages o
Turn e (user_resets ids) o = OwnResetsTurn e ids o
Turn e user_takes o = TakeTurn e e.queues.transfer o
Turn e (timer_expires timer) o = TimerTurn e timer o
Turn e (time_passes moment) o = o ≡ still (with_clock moment e)
Turn e (restores state) o = RestoreTurn e e.core state o
