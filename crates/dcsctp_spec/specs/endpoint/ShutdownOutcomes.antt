-- How an association is shut down, from either end (RFC 9260, section 9.2).
use Rattle.std.specs.Prelude.{◌==◌, ℕ, Bool, ◌+◌, true, false, not, ◌&&◌, ◌||◌, nat_le, Option, None, Some, []}
use Rattle.std.specs.Option.{option_map}
use Rattle.dcsctp_types.specs.declared.association.Pair.{Pair}
use Rattle.dcsctp_types.specs.declared.association.Held.{Held}
use Rattle.dcsctp_types.specs.declared.kinds.BackoffAlgorithm.TheVariants.{Exponential}
use Rattle.dcsctp_types.specs.declared.options.Options.{Options}
use Rattle.dcsctp_types.specs.Settings.{packet_size_limit}
use Rattle.dcsctp_types.specs.Sizes.{common_header_size, word_size}
use Rattle.dcsctp_spec.specs.endpoint.Event as events
use Rattle.dcsctp_spec.specs.Packet.{shutdown, shutdown_ack, shutdown_complete}
use Rattle.dcsctp_spec.specs.queues.Tracker.{cumulative_tsn}
use Rattle.dcsctp_spec.specs.queues.Transfer.{Transfer}
use Rattle.dcsctp_spec.specs.queues.Items.{unacknowledged_items}
use Rattle.dcsctp_spec.specs.queues.Retransmission.{outstanding_count}
use Rattle.dcsctp_spec.specs.queues.OwnResets.{waits_for_reset}
use Rattle.dcsctp_spec.specs.queues.SendQueue.{has_waiting_message}
use Rattle.dcsctp_spec.specs.endpoint.Endpoint.{Endpoint, Core, closed, cookie_wait, cookie_echoed, open_in, OpenPhase, established, shutdown_pending, shutdown_sent, shutdown_received, shutdown_ack_sent}
use Rattle.dcsctp_spec.specs.endpoint.Timers.{BackoffTerms, TimerSettings, started_timer, continued_timer, longest_wait}
use Rattle.dcsctp_spec.specs.endpoint.Outcome.{Outcome, still, quiet, sends, to_peer}
use Rattle.dcsctp_spec.specs.endpoint.BegunResets.{request_size, rto_of}
use Rattle.dcsctp_spec.specs.endpoint.FlushOutcomes.{allows_packet}
use Rattle.dcsctp_spec.specs.endpoint.EndOutcomes.{ended_outcome, reflected_outcome}

-- ---- T2-shutdown

-- Each wait is twice the last one, and the options say how often a packet is sent again. By the RFC no wait is longer than a
-- retransmission's (RFC 9260, section 6.3.3, E2).
abbrev pub t2_terms : Options → BackoffTerms
t2_terms options =
    record {
      backoff = Exponential;
      max_restarts = options.max_retransmissions;
      max_backoff = longest_wait options;
    }

abbrev pub t2_settings : Options → ℕ → TimerSettings
t2_settings options rto = record { duration = rto; terms = t2_terms options }

-- It starts again, with the present retransmission timeout.
abbrev pub t2_begun : Endpoint → Endpoint
t2_begun e = record e { timers = record e.timers { t2 = started_timer e.moment (t2_settings e.options (rto_of e.queues.transfer)) } }

-- It continues from the present moment.
abbrev pub endpoint_with_t2_continued : Endpoint → Endpoint
endpoint_with_t2_continued e = record e { timers = record e.timers { t2 = option_map (continued_timer e.moment) e.timers.t2 } }

-- ---- what is sent

-- the cumulative TSN of what was received, as its field holds it
abbrev pub received_tsn : Option Transfer → ℕ
received_tsn None = 0
received_tsn (Some transfer) = cumulative_tsn transfer.tracker

-- SHUTDOWN reports this TSN (RFC 9260, section 3.3.8).
abbrev pub sends_shutdown : Endpoint → Held → Outcome
sends_shutdown e held = sends e [] [] (to_peer held (shutdown (received_tsn e.queues.transfer)))

abbrev pub sends_shutdown_ack : Endpoint → Held → Outcome
sends_shutdown_ack e held = sends e [] [] (to_peer held shutdown_ack)

-- ---- a step of it

-- the association in this phase
abbrev pub endpoint_in_phase : Endpoint → OpenPhase → Pair → Held → Endpoint
endpoint_in_phase e phase my held = record e { core = open_in phase my held }

-- A SHUTDOWN waits for its answer, or a SHUTDOWN ACK does.
abbrev pub shutdown_is_sent : Endpoint → Pair → Held → Outcome
shutdown_is_sent e my held = sends_shutdown (t2_begun (endpoint_in_phase e shutdown_sent my held)) held

abbrev pub shutdown_ack_is_sent : Endpoint → Pair → Held → Outcome
shutdown_ack_is_sent e my held = sends_shutdown_ack (t2_begun (endpoint_in_phase e shutdown_ack_sent my held)) held

-- Is nothing that was sent still to be acknowledged? What was abandoned isn't, and what waits to be sent doesn't count.
abbrev pub is_all_acknowledged : Option Transfer → Bool
is_all_acknowledged None = true
is_all_acknowledged (Some transfer) = unacknowledged_items transfer.retransmission.outstanding.items == 0

-- the size of a packet that requests the reset of one stream
abbrev pub least_request_packet : ℕ
least_request_packet = common_header_size + (request_size + word_size)

-- Does a message wait for a reset that can be requested? One with a lifetime doesn't count, since nothing may come once that is over.
abbrev pub awaits_reset : Endpoint → Bool
awaits_reset e = nat_le least_request_packet (packet_size_limit e.options) && waits_for_reset e.queues.queue

-- By the RFC a shutdown waits for what is queued, too (RFC 9260, section 9.2): while packets may be sent, and a message waits that
-- can be, or could be after a reset.
abbrev pub waits_for_queue : Endpoint → Bool
waits_for_queue e =
    e.options.follow_rfc && (allows_packet e.options.max_burst && (has_waiting_message e.moment e.queues.queue || awaits_reset e))

-- Has the peer's cumulative TSN ack passed all that was sent, abandoned or not?
abbrev pub is_all_passed : Option Transfer → Bool
is_all_passed None = true
is_all_passed (Some transfer) = outstanding_count transfer.retransmission == 0

-- By the RFC a shutdown waits for what was abandoned, too: the peer delivers what came after that once it knows (RFC 3758, section
-- 3.5).
abbrev pub waits_for_abandoned : Endpoint → Bool
waits_for_abandoned e = e.options.follow_rfc && not (is_all_passed e.queues.transfer)

-- May a shutdown continue?
abbrev pub may_continue_shutdown : Endpoint → Bool
may_continue_shutdown e = is_all_acknowledged e.queues.transfer && not (waits_for_queue e) && not (waits_for_abandoned e)

abbrev pub step_if_acknowledged : Bool → Endpoint → OpenPhase → Pair → Held → Outcome
step_if_acknowledged true e shutdown_pending my held = shutdown_is_sent e my held
step_if_acknowledged true e shutdown_received my held = shutdown_ack_is_sent e my held
step_if_acknowledged is_acknowledged e phase my held = still e

-- A shutdown under way continues once it may. Its change is `shutdown_step_change`.
abbrev pub step_outcome : Endpoint → Core → Outcome
step_outcome e (open_in phase my held) = step_if_acknowledged (may_continue_shutdown e) e phase my held
step_outcome e core = still e

-- The association enters this phase, and may continue from there.
abbrev pub step_from : Endpoint → OpenPhase → Pair → Held → Outcome
step_from e phase my held = step_if_acknowledged (may_continue_shutdown e) (endpoint_in_phase e phase my held) phase my held

-- ---- the user's call

-- no T1: its COOKIE ACK is awaited no longer
abbrev pub t1_stopped : Endpoint → Endpoint
t1_stopped e = record e { timers = record e.timers { t1 = None } }

-- It is asked for while the COOKIE ACK is awaited. By the RFC nothing but the COOKIE ECHO may be sent until then, so it waits (RFC
-- 9260, section 5.1, C); else the association will never connect.
abbrev pub shut_down_echoed : Bool → Endpoint → Pair → Held → Outcome
shut_down_echoed true e my held = still (record e { shutdown_asked = true })
shut_down_echoed false e my held = step_from (t1_stopped e) shutdown_pending my held

abbrev pub shut_down_open : Endpoint → OpenPhase → Pair → Held → Outcome
shut_down_open e established my held = step_from e shutdown_pending my held
shut_down_open e phase my held = still e

-- The user shuts the association down. One that has no peer yet ends. Its change is `shutdown_call_change`.
abbrev pub shut_down_outcome : Endpoint → Core → Outcome
shut_down_outcome e closed = still e
shut_down_outcome e (cookie_wait my) = ended_outcome (quiet e [] []) events.closed
shut_down_outcome e (cookie_echoed my held cookie) = shut_down_echoed e.options.follow_rfc e my held
shut_down_outcome e (open_in phase my held) = shut_down_open e phase my held

-- ---- chunks

abbrev pub shutdown_outcome_by_phase : Endpoint → OpenPhase → Pair → Held → Outcome
shutdown_outcome_by_phase e established my held = step_from e shutdown_received my held
shutdown_outcome_by_phase e shutdown_pending my held = step_from e shutdown_received my held
shutdown_outcome_by_phase e shutdown_sent my held = shutdown_ack_is_sent e my held
shutdown_outcome_by_phase e shutdown_received my held = still e
shutdown_outcome_by_phase e shutdown_ack_sent my held = shutdown_ack_is_sent e my held

-- A SHUTDOWN is received, from a peer whose COOKIE ACK isn't awaited. Its cumulative TSN ack isn't used here (see HeardShutdown).
-- Its change is `shutdown_change`.
abbrev pub shutdown_outcome : Endpoint → Core → Outcome
shutdown_outcome e (open_in phase my held) = shutdown_outcome_by_phase e phase my held
shutdown_outcome e core = still e

-- A SHUTDOWN ACK that is awaited ends the association, and is answered by SHUTDOWN COMPLETE.
abbrev pub completed_outcome : Endpoint → Held → Outcome
completed_outcome e held = ended_outcome (sends e [] [] (to_peer held (shutdown_complete false))) events.closed

abbrev pub shutdown_ack_outcome_by_phase : Endpoint → OpenPhase → Held → ℕ → Outcome
shutdown_ack_outcome_by_phase e shutdown_sent held header = completed_outcome e held
shutdown_ack_outcome_by_phase e shutdown_ack_sent held header = completed_outcome e held
shutdown_ack_outcome_by_phase e phase held header = reflected_outcome e header

-- A SHUTDOWN ACK is received, in a packet of this tag. Its change is `shutdown_ack_change`.
abbrev pub shutdown_ack_outcome : Endpoint → Core → ℕ → Outcome
shutdown_ack_outcome e (open_in phase my held) header = shutdown_ack_outcome_by_phase e phase held header
shutdown_ack_outcome e core header = reflected_outcome e header

abbrev pub shutdown_complete_outcome_by_phase : Endpoint → OpenPhase → Outcome
shutdown_complete_outcome_by_phase e shutdown_ack_sent = ended_outcome (quiet e [] []) events.closed
shutdown_complete_outcome_by_phase e phase = still e

-- SHUTDOWN COMPLETE counts while a SHUTDOWN ACK waits for it (RFC 9260, section 8.5.1, C). Its change is
-- `shutdown_complete_change`.
abbrev pub shutdown_complete_outcome : Endpoint → Core → Outcome
shutdown_complete_outcome e (open_in phase my held) = shutdown_complete_outcome_by_phase e phase
shutdown_complete_outcome e core = still e

-- ---- T2, and data while a SHUTDOWN waits for its answer

abbrev pub sent_again_by_phase : Endpoint → OpenPhase → Held → Outcome
sent_again_by_phase e shutdown_sent held = sends_shutdown e held
sent_again_by_phase e shutdown_ack_sent held = sends_shutdown_ack e held
sent_again_by_phase e phase held = still e

abbrev pub shutdown_sent_again : Endpoint → Core → Outcome
shutdown_sent_again e (open_in phase my held) = sent_again_by_phase e phase held
shutdown_sent_again e core = still e

-- T2 has expired with a restart left: SHUTDOWN or SHUTDOWN ACK is sent again. Its change is `shutdown_again_change`.
abbrev pub t2_again_outcome : Endpoint → Outcome
t2_again_outcome e = shutdown_sent_again (endpoint_with_t2_continued e) e.core

-- Data comes while a SHUTDOWN waits for its answer: another one is sent, and T2 starts again.
abbrev pub shutdown_repeated : Endpoint → Held → Outcome
shutdown_repeated e held = sends_shutdown (t2_begun e) held
