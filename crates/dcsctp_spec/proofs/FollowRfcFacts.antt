-- Outside examples of what `follow_rfc` changes, worked out by hand and computed by the definitions: a
-- wrong rule in specs/ would not check here. Timers have theirs in FollowRfcTimerFacts, shutdown and COOKIE ECHO in
-- ShutdownFacts and CookieEchoFacts.
use Rattle.std.proofs.Common.{◌≡◌, ◌^◌, ◌-◌, ℕ, zero, suc, Bool, true, false, None, Some, List, [], ◌∷◌, refl}
use Rattle.dcsctp_types.specs.declared.association.Pair.{Pair}
use Rattle.dcsctp_types.specs.declared.options.Options.{Options}
use Rattle.dcsctp_types.specs.declared.tracking.AckState.TheVariants.{Idle, Immediate, BecomingDelayed, Delayed}
use Rattle.dcsctp_types.specs.declared.sending.Turn as sending
use Rattle.dcsctp_types.specs.queues.Messages.{MessageContent}
use Rattle.dcsctp_types.specs.queues.SendStreams.{comes_after}
use Rattle.dcsctp_spec.specs.endpoint.Timers.{running_deadline}
use Rattle.dcsctp_spec.specs.queues.Reassembly.{ReassemblyState, bytes_to_watermark}
use Rattle.dcsctp_spec.specs.queues.SendQueue.{SendQueueState, empty_queue}
use Rattle.dcsctp_spec.specs.queues.Sending.{next_turn}
use Rattle.dcsctp_spec.specs.queues.Tracker.{TrackerState, tracker_after_data, most_blocks, duplicates_left}
use Rattle.dcsctp_spec.specs.queues.Transfer.{Transfer, advertised_window}
use Rattle.dcsctp_spec.specs.association.ShutdownChanges.{is_ended_by_abort}
use Rattle.dcsctp_spec.specs.endpoint.DataOutcomes.{counts_as_probe_answer, taken_to}
use Rattle.dcsctp_spec.specs.endpoint.Endpoint.{Endpoint, closed, cookie_wait, errors_begun}
use Rattle.dcsctp_spec.specs.endpoint.EndOutcomes.{closed_after}
use Rattle.dcsctp_spec.specs.endpoint.Outcome.{Outcome, still}
use Rattle.dcsctp_spec.specs.endpoint.TransferMoves.{has_room, dropping}
use Rattle.dcsctp_spec.specs.endpoint.Turn.{user_takes, Turn}

-- ---- what is received

-- TSNs up to 10 and from 12 to 13 were received
abbrev gap_at_11 : Bool → TrackerState → TrackerState
gap_at_11 follows tracker =
    record tracker { cumulative = 10; ranges = record { first = 12; last = 13 } ∷ []; has_seen_data = true; acknowledgement = Idle; follows_rfc = follows }

-- TSN 11 closes the gap.
closed_gap : (tracker : TrackerState) → (tracker_after_data 11 false (gap_at_11 true tracker)).acknowledgement ≡ Immediate
closed_gap tracker = refl

closed_gap_by_port : (tracker : TrackerState) → (tracker_after_data 11 false (gap_at_11 false tracker)).acknowledgement ≡ BecomingDelayed
closed_gap_by_port tracker = refl

-- ---- what a SACK lists

-- A packet of 1,191 bytes has 1,179 after its header. Of these 16 are the SACK's own and 20 stay free, so 285 blocks fit.
full_packet : most_blocks true 1179 ≡ 285
full_packet = refl

-- One block needs 40 bytes.
one_block : most_blocks true 40 ≡ 1
one_block = refl

no_block : most_blocks true 39 ≡ 0
no_block = refl

by_port : most_blocks false 39 ≡ 20
by_port = refl

-- There is room for three entries of four bytes. One is the range from 12 to 13, so two duplicates are left.
two_left : (tracker : TrackerState) → duplicates_left (gap_at_11 true tracker) 48 ≡ 2
two_left tracker = refl

twenty_left : (tracker : TrackerState) → duplicates_left (gap_at_11 true tracker) 1179 ≡ 20
twenty_left tracker = refl

left_by_port : (tracker : TrackerState) → duplicates_left (gap_at_11 false tracker) 48 ≡ 20
left_by_port tracker = refl

-- ---- the receive window

-- a message of so many bytes, of a byte each
abbrev bytes : ℕ → List ℕ
bytes zero = []
bytes (suc more) = 1 ∷ bytes more

abbrev message : ℕ → MessageContent
message count = record { stream = 1; ppid = 53; payload = bytes count }

-- Messages of 5 and 4 bytes are ready, and the window has 10 bytes: nine tenths are held. With one of 3 bytes it isn't.
abbrev holding : List MessageContent → ReassemblyState → ReassemblyState
holding messages queue =
    record queue { max_size = 10; overhead = 256; deferral = None; incoming = record { messages_received = 2; ready = messages; streams = []; unordered = []; last_tsn_number = 1 } }

abbrev full : Bool → Transfer → Transfer
full follows transfer = record transfer { tracker = gap_at_11 follows transfer.tracker; reassembly = holding (message 5 ∷ message 4 ∷ []) transfer.reassembly }

-- TSN 11 fills the gap, TSN 14 doesn't.
room_in_gap : (transfer : Transfer) → has_room 11 (full true transfer) ≡ true
room_in_gap transfer = refl

no_room_behind : (transfer : Transfer) → has_room 14 (full true transfer) ≡ false
no_room_behind transfer = refl

no_room_by_port : (transfer : Transfer) → has_room 11 (full false transfer) ≡ false
no_room_by_port transfer = refl

-- So many bytes are held, where TSN 15 was received, too.
abbrev held_bytes : ℕ → Transfer → Transfer
held_bytes count transfer =
    record (full true transfer) {
      tracker = record (gap_at_11 true transfer.tracker) { ranges = record { first = 12; last = 13 } ∷ record { first = 15; last = 15 } ∷ [] };
      reassembly = holding (message count ∷ []) transfer.reassembly;
    }

-- With the last byte in use there is no room for TSN 14, which fills a gap, but there is for TSN 11, the first that is missing,
no_room_for_later : (transfer : Transfer) → has_room 14 (held_bytes 10 transfer) ≡ false
no_room_for_later transfer = refl

room_for_first : (transfer : Transfer) → has_room 11 (held_bytes 19 transfer) ≡ true
room_for_first transfer = refl

-- until twice the window is held.
no_room_at_all : (transfer : Transfer) → has_room 11 (held_bytes 20 transfer) ≡ false
no_room_at_all transfer = refl

-- What is dropped is answered at once.
answered : (transfer : Transfer) → (dropping true (full true transfer)).tracker.acknowledgement ≡ Immediate
answered transfer = refl

-- Nothing is left for new data, though a byte is left of the window.
nothing_told : (transfer : Transfer) → advertised_window (full true transfer) ≡ 0
nothing_told transfer = refl

one_told_by_port : (transfer : Transfer) → advertised_window (full false transfer) ≡ 1
one_told_by_port transfer = refl

-- A window of 15 bytes has room for new data up to 13.5 of them, so with 13 in use one more is reported.
rounded_up : (queue : ReassemblyState) → bytes_to_watermark (record (holding (message 9 ∷ message 4 ∷ []) queue) { max_size = 15 }) ≡ 1
rounded_up queue = refl

-- ---- a window that opens

-- packets of 32 bytes, and a window of 10
abbrev small : Options → Options
small options = record options { mtu = 32; max_receiver_window_buffer_size = 10; follow_rfc = true }

-- The first message is taken: 5 of 9 bytes are free, which is half of the window.
opens : (options : Options) (transfer : Transfer) → (taken_to (small options) 70 (message 4 ∷ []) (full true transfer)).tracker.acknowledgement ≡ Delayed
opens options transfer = refl

due_at_once : (options : Options) (transfer : Transfer) → running_deadline (taken_to (small options) 70 (message 4 ∷ []) (full true transfer)).tracker.delay.running ≡ Some 70
due_at_once options transfer = refl

-- One of 4 bytes isn't enough.
stays_small : (options : Options) (transfer : Transfer) → (taken_to (small options) 70 (message 5 ∷ []) (full true transfer)).tracker.acknowledgement ≡ Idle
stays_small options transfer = refl

opens_by_port : (options : Options) (transfer : Transfer) → (taken_to (small options) 70 (message 4 ∷ []) (full false transfer)).tracker.acknowledgement ≡ Idle
opens_by_port options transfer = refl

-- ---- a probe of a closed window

answered_probe : (options : Options) → counts_as_probe_answer (small options) 31 ≡ true
answered_probe options = refl

open_window_counts : (options : Options) → counts_as_probe_answer (small options) 32 ≡ false
open_window_counts options = refl

answered_by_port : (options : Options) → counts_as_probe_answer (record (small options) { follow_rfc = false }) 0 ≡ false
answered_by_port options = refl

-- ---- streams of equal priority

-- a stream that had this turn last
abbrev turn : ℕ → ℕ → ℕ → sending.Turn
turn priority last id = record { priority = priority; last_turn = last; stream_id = record { 0 = id } }

-- Stream 1 had the second turn and stream 2 the first, so stream 2 is asked before stream 1.
oldest_first : comes_after (turn 256 2 1) (turn 256 1 2) ≡ true
oldest_first = refl

newest_last : comes_after (turn 256 1 2) (turn 256 2 1) ≡ false
newest_last = refl

-- Stream 3 had none.
unserved_first : comes_after (turn 256 1 2) (turn 256 0 3) ≡ true
unserved_first = refl

-- A greater priority is asked before all.
priority_first : comes_after (turn 256 0 3) (turn 257 9 4) ≡ true
priority_first = refl

priority_stays_first : comes_after (turn 257 9 4) (turn 256 0 3) ≡ false
priority_stays_first = refl

-- As none had a turn, the number counts.
by_number : comes_after (turn 256 0 3) (turn 256 0 2) ≡ true
by_number = refl

abbrev taking_turns : Bool → ℕ → SendQueueState → SendQueueState
taking_turns takes count queue = record queue { takes_turns = takes; turns_taken = count }

takes_fifth : (queue : SendQueueState) → next_turn (taking_turns true 4 queue) ≡ 5
takes_fifth queue = refl

begins_at_0_again : (queue : SendQueueState) → next_turn (taking_turns true (2 ^ 64 - 1) queue) ≡ 0
begins_at_0_again queue = refl

none_by_port : (queue : SendQueueState) → next_turn (taking_turns false 0 queue) ≡ 0
none_by_port queue = refl

by_option : (options : Options) → (empty_queue options).takes_turns ≡ options.follow_rfc
by_option options = refl

-- ---- the count of errors as an association begins

begins_at_0 : (e : Endpoint) → errors_begun (record e { options = record e.options { follow_rfc = true }; error_count = 7 }) ≡ 0
begins_at_0 e = refl

goes_on_by_port : (e : Endpoint) → errors_begun (record e { options = record e.options { follow_rfc = false }; error_count = 7 }) ≡ 7
goes_on_by_port e = refl

-- ---- an ABORT while an INIT ACK is awaited

refused : (options : Options) (my : Pair) → is_ended_by_abort (record options { follow_rfc = true }) (cookie_wait my) ≡ true
refused options my = refl

unheard_by_port : (options : Options) (my : Pair) → is_ended_by_abort (record options { follow_rfc = false }) (cookie_wait my) ≡ false
unheard_by_port options my = refl

nothing_to_end : (options : Options) → is_ended_by_abort options closed ≡ false
nothing_to_end options = refl

-- ---- messages that the association leaves when it ends

-- an association with two messages that are ready, and none that an earlier one left
abbrev ending : Bool → Endpoint → Transfer → Endpoint
ending follows e transfer =
    record e { options = record e.options { follow_rfc = follows }; queues = record e.queues { transfer = Some (full follows transfer) }; left = [] }

both_are_left : (e : Endpoint) (transfer : Transfer) → (closed_after (ending true e transfer)).left ≡ message 5 ∷ message 4 ∷ []
both_are_left e transfer = refl

none_is_left_by_port : (e : Endpoint) (transfer : Transfer) → (closed_after (ending false e transfer)).left ≡ []
none_is_left_by_port e transfer = refl

-- An association that wasn't there leaves those of the one before.
earlier_are_left : (e : Endpoint) → (closed_after (record e { queues = record e.queues { transfer = None }; left = message 5 ∷ [] })).left ≡ message 5 ∷ []
earlier_are_left e = refl

-- The older one is taken first.
left_is_taken : (e : Endpoint) (o : Outcome)
    → Turn (record e { queues = record e.queues { transfer = None }; left = message 5 ∷ message 4 ∷ [] }) user_takes o
    → o ≡ still (record e { queues = record e.queues { transfer = None }; left = message 4 ∷ [] })
left_is_taken e o taken = taken
