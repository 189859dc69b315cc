-- Outside examples of how an association is shut down, worked out by hand and computed by the
-- definitions: a wrong rule in specs/ would not check here. Moments and durations are nanoseconds.
use Rattle.std.proofs.Common.{◌≡◌, ◌+◌, ◌^◌, ℕ, zero, suc, true, false, Option, None, Some, List, [], ◌∷◌, refl}
use Rattle.std.specs.Prelude.{pos, map}
use Rattle.dcsctp_types.specs.declared.ends.AbortReason.TheVariants.{TooManyErrors}
use Rattle.dcsctp_types.specs.declared.kinds.BackoffAlgorithm.TheVariants.{Exponential}
use Rattle.dcsctp_types.specs.declared.progress.ItemState.TheVariants.{InFlight, Abandoned}
use Rattle.dcsctp_spec.specs.endpoint.Event.{Event}
use Rattle.dcsctp_spec.specs.endpoint.Event as events
use Rattle.dcsctp_spec.specs.Packet.{Emission, shutdown, shutdown_ack, shutdown_complete}
use Rattle.dcsctp_spec.specs.queues.Items.{Item}
use Rattle.dcsctp_spec.specs.queues.Transfer.{Transfer}
use Rattle.dcsctp_spec.specs.queues.SendQueue.{has_waiting_message}
use Rattle.dcsctp_types.specs.queues.SendStreams.{Waiting, Stream}
use Rattle.dcsctp_types.specs.declared.sending.Pause.TheVariants.{Pausing, HandedOut}
use Rattle.dcsctp_spec.specs.endpoint.Endpoint.{Endpoint, Core, closed, cookie_wait, cookie_echoed, open_in, OpenPhase, established, shutdown_pending, shutdown_sent, shutdown_received, shutdown_ack_sent}
use Rattle.dcsctp_spec.specs.endpoint.Timers.{RunningTimer}
use Rattle.dcsctp_spec.specs.endpoint.Following.{next_chunk, packet_end, dropped_rest}
use Rattle.dcsctp_spec.specs.endpoint.Outcome.{Outcome, still}
use Rattle.dcsctp_spec.specs.endpoint.Turn.{act_input}
use Rattle.dcsctp_spec.specs.endpoint.TimeTurns.{t2_timer, deadline, has_come, expiry_input}
use Rattle.dcsctp_spec.specs.association.Acts.{shutdown_repeats, abort_with}
use Rattle.dcsctp_types.specs.declared.options.Options.{Options}
use Rattle.dcsctp_spec.specs.queues.Retransmission.{RetransmissionState}
use Rattle.dcsctp_spec.specs.endpoint.HeardShutdown.{said_by_shutdown, acknowledges_by_shutdown}
use Rattle.dcsctp_spec.specs.endpoint.ShutdownOutcomes.{may_continue_shutdown, step_outcome, shut_down_outcome, shutdown_outcome, shutdown_ack_outcome, shutdown_complete_outcome, t2_again_outcome, shutdown_repeated}
use Rattle.dcsctp_spec.proofs.HandshakeTurnFacts.{mine, held, queue, packet_of}

-- an item of three bytes in flight
abbrev one_item : Item
one_item =
    record {
      fragment = record { message_id = 1; stream = 4; ssn = 0; mid = 0; fsn = 0; ppid = 53; is_unordered = false; is_beginning = true; is_end = true; payload = 1 ∷ 2 ∷ 3 ∷ []; max_retransmissions = None; expires_at = None; lifecycle = None };
      progress = record { state = InFlight; was_acknowledged = false; times_sent_again = 0; sent_before = None; misses = 0 };
      sent_at = 500_000_000;
      begins_after_reset = false;
    }

-- so many of them
abbrev items_of : ℕ → List Item
items_of zero = []
items_of (suc more) = one_item ∷ items_of more

-- The retransmission timeout is 400 ms, TSN 5 came last, for the second time, and so many items are unacknowledged.
abbrev moved : Transfer → ℕ → Transfer
moved transfer items =
    record transfer {
      retransmission = record transfer.retransmission { outstanding = record transfer.retransmission.outstanding { items = items_of items } };
      timeout = record transfer.timeout { rto = 400_000_000; srtt = 100_000_000 };
      tracker = record transfer.tracker { cumulative = 2 ^ 32 + 5 };
    }

-- a second after the socket was made; two restarts are allowed, and a message waits to be sent
abbrev at : Endpoint → Core → Transfer → ℕ → Endpoint
at e core transfer items =
    record e {
      moment = 1_000_000_000;
      options = record e.options { max_retransmissions = Some 2; follow_rfc = false };
      core = core;
      counts = record e.counts { packets_sent = 4 };
      queues = record { queue = queue; transfer = Some (moved transfer items) };
    }

-- by the RFC's rules, with this `max_burst`
abbrev by_rfc : Endpoint → ℕ → Endpoint
by_rfc e burst = record e { options = record e.options { follow_rfc = true; max_burst = pos burst } }

-- a stream that is to be reset
abbrev pausing : Stream → Stream
pausing stream = record stream { pause = Pausing }

-- one whose reset was requested
abbrev requested : Stream → Stream
requested stream = record stream { pause = HandedOut }

-- a stream whose messages have a lifetime until this moment
abbrev lives_until : ℕ → Waiting → Waiting
lives_until moment message = record message { expires_at = Some moment }

abbrev expired_at_9 : Stream → Stream
expired_at_9 stream = record stream { messages = map (lives_until 9) stream.messages }

-- T2, with its deadline and its wait
abbrev t2 : ℕ → ℕ → ℕ → Option RunningTimer
t2 deadline wait expiries = Some (record { deadline = deadline; wait = wait; expiries = expiries; terms = record { backoff = Exponential; max_restarts = Some 2; max_backoff = None } })

-- One item is outstanding, and was abandoned.
abbrev abandoning : Endpoint → Transfer → Endpoint
abandoning e transfer =
    record (at e (open_in shutdown_pending mine held) transfer 0) {
      queues = record {
        queue = queue;
        transfer = Some (record transfer {
          retransmission = record transfer.retransmission {
            outstanding = record transfer.retransmission.outstanding { items = record one_item { progress = record one_item.progress { state = Abandoned } } ∷ [] };
          };
        });
      };
    }

-- the endpoint in another phase, once it has sent one packet and T2 was started
abbrev waiting : Endpoint → OpenPhase → Endpoint
waiting e phase = record e { core = open_in phase mine held; counts = record e.counts { packets_sent = 5 }; timers = record e.timers { t2 = t2 1_400_000_000 400_000_000 0 } }

-- in the clear, for the peer's tag
abbrev request : Event Emission
request = packet_of false 9 (shutdown 5 ∷ [])

abbrev answer : Event Emission
answer = packet_of false 9 (shutdown_ack ∷ [])

abbrev went : Endpoint → Event Emission → Outcome
went e event = record { words = []; effects = []; after = e; events = event ∷ []; following = next_chunk }

abbrev in_phase : OpenPhase → Core
in_phase phase = open_in phase mine held

-- ---- the user's call

-- Where all is acknowledged SHUTDOWN goes out at once, whatever waits to be sent.
calls_where_acknowledged : (e : Endpoint) (transfer : Transfer) → shut_down_outcome (at e (in_phase established) transfer 0) (in_phase established)
    ≡ went (waiting (at e (in_phase established) transfer 0) shutdown_sent) request
calls_where_acknowledged e transfer = refl

-- While an item isn't, nothing does,
calls_before : (e : Endpoint) (transfer : Transfer) → shut_down_outcome (at e (in_phase established) transfer 1) (in_phase established)
    ≡ still (at e (in_phase shutdown_pending) transfer 1)
calls_before e transfer = refl

no_step_before : (e : Endpoint) (transfer : Transfer) → step_outcome (at e (in_phase shutdown_pending) transfer 1) (in_phase shutdown_pending)
    ≡ still (at e (in_phase shutdown_pending) transfer 1)
no_step_before e transfer = refl

-- until it is.
step_then : (e : Endpoint) (transfer : Transfer) → step_outcome (at e (in_phase shutdown_pending) transfer 0) (in_phase shutdown_pending)
    ≡ went (waiting (at e (in_phase shutdown_pending) transfer 0) shutdown_sent) request
step_then e transfer = refl

answer_then : (e : Endpoint) (transfer : Transfer) → step_outcome (at e (in_phase shutdown_received) transfer 0) (in_phase shutdown_received)
    ≡ went (waiting (at e (in_phase shutdown_received) transfer 0) shutdown_ack_sent) answer
answer_then e transfer = refl

-- By the RFC's rules what waits is sent first,
waits_by_rfc : (e : Endpoint) (transfer : Transfer) → step_outcome (by_rfc (at e (in_phase shutdown_pending) transfer 0) 4) (in_phase shutdown_pending)
    ≡ still (by_rfc (at e (in_phase shutdown_pending) transfer 0) 4)
waits_by_rfc e transfer = refl

-- if packets may be sent.
waits_for_no_packet : (e : Endpoint) (transfer : Transfer) → (step_outcome (by_rfc (at e (in_phase shutdown_pending) transfer 0) 0) (in_phase shutdown_pending)).events
    ≡ request ∷ []
waits_for_no_packet e transfer = refl

-- What was abandoned is waited for, too, until the peer's cumulative TSN ack has passed it.
abandoned_waits : (e : Endpoint) (transfer : Transfer) → may_continue_shutdown (by_rfc (abandoning e transfer) 0) ≡ false
abandoned_waits e transfer = refl

abandoned_by_port : (e : Endpoint) (transfer : Transfer) → may_continue_shutdown (abandoning e transfer) ≡ true
abandoned_by_port e transfer = refl

passed_goes_on : (e : Endpoint) (transfer : Transfer) → may_continue_shutdown (by_rfc (at e (in_phase shutdown_pending) transfer 0) 0) ≡ true
passed_goes_on e transfer = refl

-- with no message under way
abbrev none_under_way : List Stream → List Stream
none_under_way streams = map {A = Stream} {B = Stream} (λ stream. record stream { under_way = None }) streams

-- What waits for a reset is waited for, too,
abbrev awaiting_reset : Endpoint → Transfer → ℕ → ℕ → (Stream → Stream) → Endpoint
awaiting_reset e transfer burst mtu of_stream =
    let by : Endpoint = by_rfc (at e (in_phase shutdown_pending) transfer 0) burst in
    record by { options = record by.options { mtu = mtu }; queues = record by.queues { queue = record queue { streams = map of_stream (none_under_way queue.streams); held = None } } }

reset_waits : (e : Endpoint) (transfer : Transfer) → may_continue_shutdown (awaiting_reset e transfer 4 1191 pausing) ≡ false
reset_waits e transfer = refl

requested_reset_waits : (e : Endpoint) (transfer : Transfer) → may_continue_shutdown (awaiting_reset e transfer 4 1191 requested) ≡ false
requested_reset_waits e transfer = refl

-- but for messages with a lifetime,
lifetime_goes_on : (e : Endpoint) (transfer : Transfer) → may_continue_shutdown (awaiting_reset e transfer 4 1191 (λ stream. pausing (expired_at_9 stream))) ≡ true
lifetime_goes_on e transfer = refl

-- and unless no request can be sent.
no_packet_goes_on : (e : Endpoint) (transfer : Transfer) → may_continue_shutdown (awaiting_reset e transfer 0 1191 pausing) ≡ true
no_packet_goes_on e transfer = refl

request_of_36_waits : (e : Endpoint) (transfer : Transfer) → may_continue_shutdown (awaiting_reset e transfer 4 36 pausing) ≡ false
request_of_36_waits e transfer = refl

request_of_35_goes_on : (e : Endpoint) (transfer : Transfer) → may_continue_shutdown (awaiting_reset e transfer 4 35 pausing) ≡ true
request_of_35_goes_on e transfer = refl

-- By the port's rules nothing that is queued is.
reset_by_port : (e : Endpoint) (transfer : Transfer) → may_continue_shutdown (record (at e (in_phase shutdown_pending) transfer 0) { queues = (awaiting_reset e transfer 4 1191 pausing).queues }) ≡ true
reset_by_port e transfer = refl

-- On a paused stream nothing can be sent, nor can what is past its lifetime.
nothing_waits_by_rfc : has_waiting_message 10 (record queue { streams = map pausing (none_under_way queue.streams); held = None }) ≡ false
nothing_waits_by_rfc = refl

no_live_message : has_waiting_message 10 (record queue { streams = map expired_at_9 (none_under_way queue.streams); held = None }) ≡ false
no_live_message = refl

a_live_message : has_waiting_message 8 (record queue { streams = map expired_at_9 (none_under_way queue.streams); held = None }) ≡ true
a_live_message = refl

-- The rest of a message that was begun is, whatever its age.
a_message_under_way : has_waiting_message 10 (record queue { streams = map expired_at_9 queue.streams }) ≡ true
a_message_under_way = refl

-- Without a peer the association ends.
ends_in_cookie_wait : (e : Endpoint) → (shut_down_outcome e (cookie_wait mine)).events ≡ events.closed ∷ []
ends_in_cookie_wait e = refl

nothing_where_closed : (e : Endpoint) → shut_down_outcome e closed ≡ still e
nothing_where_closed e = refl

-- A COOKIE ACK is awaited no longer.
stops_t1 : (e : Endpoint) (transfer : Transfer) (cookie : List ℕ) → (shut_down_outcome (at e (cookie_echoed mine held cookie) transfer 1) (cookie_echoed mine held cookie)).after.timers.t1 ≡ None
stops_t1 e transfer cookie = refl

-- By the RFC it is awaited, and the shutdown waits.
waits_for_cookie_ack : (e : Endpoint) (transfer : Transfer) (cookie : List ℕ)
    → shut_down_outcome (by_rfc (at e (cookie_echoed mine held cookie) transfer 1) 4) (cookie_echoed mine held cookie)
    ≡ still (record (by_rfc (at e (cookie_echoed mine held cookie) transfer 1) 4) { shutdown_asked = true })
waits_for_cookie_ack e transfer cookie = refl

once_is_enough : (e : Endpoint) → shut_down_outcome e (in_phase shutdown_sent) ≡ still e
once_is_enough e = refl

-- ---- SHUTDOWN

asked_in_established : (e : Endpoint) (transfer : Transfer) → shutdown_outcome (at e (in_phase established) transfer 0) (in_phase established)
    ≡ went (waiting (at e (in_phase established) transfer 0) shutdown_ack_sent) answer
asked_in_established e transfer = refl

asked_before : (e : Endpoint) (transfer : Transfer) → shutdown_outcome (at e (in_phase shutdown_pending) transfer 1) (in_phase shutdown_pending)
    ≡ still (at e (in_phase shutdown_received) transfer 1)
asked_before e transfer = refl

-- Both ends asked.
asked_while_asking : (e : Endpoint) (transfer : Transfer) → shutdown_outcome (at e (in_phase shutdown_sent) transfer 1) (in_phase shutdown_sent)
    ≡ went (waiting (at e (in_phase shutdown_sent) transfer 1) shutdown_ack_sent) answer
asked_while_asking e transfer = refl

asked_twice : (e : Endpoint) → shutdown_outcome e (in_phase shutdown_received) ≡ still e
asked_twice e = refl

answered_again : (e : Endpoint) (transfer : Transfer) → shutdown_outcome (at e (in_phase shutdown_ack_sent) transfer 0) (in_phase shutdown_ack_sent)
    ≡ went (waiting (at e (in_phase shutdown_ack_sent) transfer 0) shutdown_ack_sent) answer
answered_again e transfer = refl

asked_in_cookie_echoed : (e : Endpoint) (cookie : List ℕ) → shutdown_outcome e (cookie_echoed mine held cookie) ≡ still e
asked_in_cookie_echoed e cookie = refl

-- By the RFC its TSN acknowledges, here that of the one item in flight.
abbrev one_out : Transfer → Transfer
one_out transfer =
    record transfer { retransmission = record transfer.retransmission { outstanding = record { first_tsn = 10; is_interleaved = false; items = items_of 1 } } }

heeds_it : (e : Endpoint) (transfer : Transfer) → acknowledges_by_shutdown (by_rfc e 4).options shutdown_pending (one_out transfer) 10 ≡ true
heeds_it e transfer = refl

-- One that was never sent doesn't, nor does any where nothing can be in flight.
never_sent : (e : Endpoint) (transfer : Transfer) → acknowledges_by_shutdown (by_rfc e 4).options shutdown_pending (one_out transfer) 11 ≡ false
never_sent e transfer = refl

nothing_out : (e : Endpoint) (transfer : Transfer) → acknowledges_by_shutdown (by_rfc e 4).options shutdown_sent (one_out transfer) 10 ≡ false
nothing_out e transfer = refl

unheeded_by_port : (options : Options) (transfer : Transfer) → acknowledges_by_shutdown (record options { follow_rfc = false }) shutdown_pending (one_out transfer) 10 ≡ false
unheeded_by_port options transfer = refl

says_so : (state : RetransmissionState) → (said_by_shutdown 10 (record state { peer_window = 3000 })) ≡ record { cumulative_tsn_ack = 10; a_rwnd = 3000; gap_ack_blocks = []; duplicate_tsns = [] }
says_so state = refl

-- ---- SHUTDOWN ACK and SHUTDOWN COMPLETE

-- One that is awaited ends the association; the rest of its packet is dropped.
completes : (e : Endpoint) → let o : Outcome = shutdown_ack_outcome e (in_phase shutdown_sent) 7 in
    (o.events ≡ packet_of false 9 (shutdown_complete false ∷ []) ∷ events.closed ∷ []) × (o.after.core ≡ closed) × (o.following ≡ dropped_rest)
completes e = (refl, refl, refl)

-- By the RFC's rules one answers a packet.
reflects_once : (e : Endpoint) (transfer : Transfer) (burst : ℕ) → (shutdown_ack_outcome (by_rfc (at e (in_phase established) transfer 0) burst) (in_phase established) 7).following ≡ packet_end
reflects_once e transfer burst = refl

reflects_each : (e : Endpoint) (transfer : Transfer) → (shutdown_ack_outcome (at e (in_phase established) transfer 0) (in_phase established) 7).following ≡ next_chunk
reflects_each e transfer = refl

-- One that isn't is reflected under its own tag.
reflects : (e : Endpoint) → (shutdown_ack_outcome e (in_phase shutdown_pending) 7).events ≡ packet_of true 7 (shutdown_complete true ∷ []) ∷ []
reflects e = refl

is_completed : (e : Endpoint) → (shutdown_complete_outcome e (in_phase shutdown_ack_sent)).events ≡ events.closed ∷ []
is_completed e = refl

isnt_completed : (e : Endpoint) → shutdown_complete_outcome e (in_phase shutdown_sent) ≡ still e
isnt_completed e = refl

-- ---- T2

-- Its second wait is twice the first.
waits_twice_as_long : (e : Endpoint) (transfer : Transfer) →
    (t2_again_outcome (record (waiting (at e (in_phase shutdown_sent) transfer 0) shutdown_sent) { moment = 1_400_000_000 })).after.timers.t2 ≡ t2 2_200_000_000 800_000_000 1
waits_twice_as_long e transfer = refl

sends_again : (e : Endpoint) (transfer : Transfer) → (t2_again_outcome (at e (in_phase shutdown_sent) transfer 0)).events ≡ request ∷ []
sends_again e transfer = refl

answers_again : (e : Endpoint) (transfer : Transfer) → (t2_again_outcome (at e (in_phase shutdown_ack_sent) transfer 0)).events ≡ answer ∷ []
answers_again e transfer = refl

-- Data that comes meanwhile starts it again.
data_starts_it : (e : Endpoint) (transfer : Transfer) → shutdown_repeated (at e (in_phase shutdown_sent) transfer 0) held
    ≡ went (waiting (at e (in_phase shutdown_sent) transfer 0) shutdown_sent) request
data_starts_it e transfer = refl

due_at_its_deadline : (e : Endpoint) (transfer : Transfer) → has_come 1_400_000_000 (deadline (waiting (at e (in_phase shutdown_sent) transfer 0) shutdown_sent) t2_timer) ≡ true
due_at_its_deadline e transfer = refl

-- Two restarts, and then the peer is given up.
second_restart : (e : Endpoint) → expiry_input (record e { timers = record e.timers { t2 = t2 9 8 1 } }) t2_timer ≡ act_input shutdown_repeats
second_restart e = refl

no_third_restart : (e : Endpoint) → expiry_input (record e { timers = record e.timers { t2 = t2 9 8 2 } }) t2_timer ≡ act_input (abort_with TooManyErrors)
no_third_restart e = refl
