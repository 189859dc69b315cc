-- What a socket's parts are in the machine, and how a turn moves them.
use Rattle.std.specs.Prelude.{false, ◌≡◌, ℕ, Option, None, Some, List, [], ◌++◌, map, take}
use Rattle.rand_core.specs.Stream.{Stream}
use Rattle.dcsctp_transfer.specs.types.declared.options.Options.{Options}
use Rattle.dcsctp_transfer.specs.types.declared.association.Pair.{Pair}
use Rattle.dcsctp_transfer.specs.types.declared.word.Word.{Word}
use Rattle.dcsctp_transfer.specs.spec.endpoint.Event.{Event}
use Rattle.dcsctp_transfer.specs.types.declared.association.Held.{Held}
use Rattle.dcsctp_transfer.specs.spec.Reconfiguration.{NumberedReset}
use Rattle.dcsctp_transfer.specs.spec.queues.Transfer.{Transfer, new_transfer}
use Rattle.dcsctp_transfer.specs.spec.endpoint.Endpoint.{Endpoint, Core, closed, cookie_wait, cookie_echoed, open_in, OpenPhase, established, shutdown_pending, shutdown_sent, shutdown_received, shutdown_ack_sent, OutstandingRequest, Timers, stopped_timers, heartbeats_begun, fresh_endpoint, own_tag}
use Rattle.dcsctp_transfer.specs.spec.endpoint.RestoreOutcomes.{timers_restored}
use Rattle.dcsctp_transfer.specs.spec.endpoint.EndOutcomes.{closed_after}
use Rattle.dcsctp_transfer.specs.spec.endpoint.Timers.{RunningTimer}
use Rattle.dcsctp_transfer.specs.types.Ids.{stream_numbers}
use Rattle.dcsctp_transfer.specs.types.queues.Messages.{MessageContent, message_content}
use Rattle.dcsctp_transfer.specs.spec.endpoint.Outcome.{Outcome, count_up}
use Rattle.dcsctp_transfer.specs.spec.endpoint.Following.{next_chunk}
use Rattle.dcsctp_transfer.specs.spec.association.HandshakeChanges.{new_held}
use Rattle.dcsctp_transfer.specs.spec.association.Effect.{drawn_pairs}
use Rattle.dcsctp_transfer.specs.spec.endpoint.CallTurns.{Transition, after_all, words_of, effects_of, events_of}
use Rattle.dcsctp_transfer.specs.types.Settings.{ports_of}
use Rattle.dcsctp_transfer.specs.api.Events.{event_content}
use Rattle.dcsctp_transfer.specs.api.Calls.{user_event, DrawsWords}
use Rattle.dcsctp_core.specs.declared.state.State.{State}
use Rattle.dcsctp_core.specs.declared.state.State.TheVariants.{Closed, CookieWait, CookieEchoed, Open}
use Rattle.dcsctp_core.specs.declared.state.OpenPhase as phase_types
use Rattle.dcsctp_core.specs.declared.state.OpenPhase.TheVariants as phases
use Rattle.dcsctp_core.specs.declared.transmission_control_block.Peer.{Peer}
use Rattle.dcsctp_core.specs.declared.transmission_control_block.PerformedReset.{PerformedReset}
use Rattle.dcsctp_core.specs.declared.transmission_control_block.ResetRequest.{ResetRequest}
use Rattle.dcsctp_core.specs.declared.transmission_control_block.TransmissionControlBlock.{TransmissionControlBlock}
use Rattle.dcsctp_core.specs.declared.context.Context.{Context}

-- what turns change: the endpoint, the waiting events, and the generator. Also the words that the present call drew, with the
-- pairs that it made of them.
pub record View (R : Type 0) : Type 0 where
  pub endpoint : Endpoint
  pub events : List (Event (List ℕ))
  pub words : List Word
  pub pairs : List Pair
  pub generator : R

-- the number of our own request to reset streams, and what it wants
abbrev pub request_number : Option ResetRequest → Option ℕ
request_number None = None
request_number (Some request) = Some request.number

abbrev pub request_of : Option ResetRequest → Option OutstandingRequest
request_of None = None
request_of (Some request) = Some (record { last_tsn = request.last_tsn; streams = stream_numbers request.streams.items; is_new = request.is_new; waits_for_retry = request.waits_for_retry })

-- the timer by which it is sent again
abbrev pub timer_of : Option ResetRequest → Option RunningTimer
timer_of None = None
timer_of (Some request) = request.timer.running

-- the peer's request that was performed after it was in progress
abbrev pub performed_reset : Option PerformedReset → Option NumberedReset
performed_reset None = None
performed_reset (Some kept) = Some (record { number = kept.number; reset = record { last_tsn = kept.last_tsn; streams = kept.streams.items; is_new = false } })

-- what an association keeps of its peer
abbrev pub held_of : TransmissionControlBlock → Held
held_of tcb =
    record {
      peer = tcb.peer;
      capabilities = tcb.capabilities;
      own_next = tcb.next_outgoing_reset_req_seq_nbr;
      own_outstanding = request_number tcb.reset_request;
      peer_last = tcb.last_processed_req_seq_nbr;
      peer_result = tcb.last_processed_req_result;
    }

-- the phase of an open association
abbrev pub phase_of_open : phase_types.OpenPhase → OpenPhase
phase_of_open phases.Established = established
phase_of_open phases.ShutdownPending = shutdown_pending
phase_of_open (phases.ShutdownSent sent) = shutdown_sent
phase_of_open phases.ShutdownReceived = shutdown_received
phase_of_open (phases.ShutdownAckSent sent) = shutdown_ack_sent

-- T2 belongs to two of them.
abbrev pub t2_of_phase : phase_types.OpenPhase → Option RunningTimer
t2_of_phase phases.Established = None
t2_of_phase phases.ShutdownPending = None
t2_of_phase (phases.ShutdownSent sent) = sent.t2_shutdown.running
t2_of_phase phases.ShutdownReceived = None
t2_of_phase (phases.ShutdownAckSent sent) = sent.t2_shutdown.running

abbrev pub core_of : State → Core
core_of Closed = closed
core_of (CookieWait wait) = cookie_wait wait.my
core_of (CookieEchoed echoed) = cookie_echoed echoed.tcb.my (held_of echoed.tcb) echoed.cookie.items
core_of (Open opened) = open_in (phase_of_open opened.phase) opened.tcb.my (held_of opened.tcb)

-- the association, once the peer is known
abbrev pub tcb_of : State → Option TransmissionControlBlock
tcb_of Closed = None
tcb_of (CookieWait wait) = None
tcb_of (CookieEchoed echoed) = Some echoed.tcb
tcb_of (Open opened) = Some opened.tcb

-- the state once its COOKIE ACK has come
abbrev pub established_from : State → State
established_from Closed = Closed
established_from (CookieWait wait) = CookieWait wait
established_from (CookieEchoed echoed) = Open (record { phase = phases.Established; tcb = echoed.tcb })
established_from (Open opened) = Open opened

abbrev pub tie_tag_of : Option TransmissionControlBlock → ℕ
tie_tag_of None = 0
tie_tag_of (Some tcb) = tcb.tie_tag

abbrev pub tie_of : State → ℕ
tie_of state = tie_tag_of (tcb_of state)

abbrev pub t1_of : State → Option RunningTimer
t1_of Closed = None
t1_of (CookieWait wait) = wait.t1_init.running
t1_of (CookieEchoed echoed) = echoed.t1_cookie.running
t1_of (Open opened) = None

abbrev pub t2_of : State → Option RunningTimer
t2_of Closed = None
t2_of (CookieWait wait) = None
t2_of (CookieEchoed echoed) = None
t2_of (Open opened) = t2_of_phase opened.phase

-- our outstanding request, and the timer by which it is sent again
abbrev pub own_request : Option TransmissionControlBlock → Option ResetRequest
own_request None = None
own_request (Some tcb) = tcb.reset_request

abbrev pub outstanding_of : State → Option OutstandingRequest
outstanding_of state = request_of (own_request (tcb_of state))

abbrev pub reconfiguration_of : State → Option RunningTimer
reconfiguration_of state = timer_of (own_request (tcb_of state))

-- An association that was just made, with this peer, this tie tag, and this below it.
pub record IsMade (own : Pair) (peer : Peer) (tie : ℕ) (below : Transfer) (tcb : TransmissionControlBlock) : Type 0 where
  pub my : tcb.my ≡ own
  pub held : held_of tcb ≡ new_held own peer.pair peer.capabilities
  pub outstanding : request_of tcb.reset_request ≡ None
  pub reconfiguration : timer_of tcb.reset_request ≡ None
  pub tie_tag : tcb.tie_tag ≡ tie
  pub transfer : tcb.transfer ≡ below

-- The same, with nothing sent and nothing received.
abbrev pub IsNew : Options → Pair → Peer → ℕ → TransmissionControlBlock → Type 0
IsNew options own peer tie tcb =
    IsMade own peer tie (new_transfer options peer.capabilities own.first_tsn peer.pair.first_tsn peer.a_rwnd) tcb

abbrev pub transfer_of_tcb : Option TransmissionControlBlock → Option Transfer
transfer_of_tcb None = None
transfer_of_tcb (Some tcb) = Some tcb.transfer

abbrev pub transfer_of : State → Option Transfer
transfer_of state = transfer_of_tcb (tcb_of state)

-- What isn't kept in the parts is as in a socket that was just made.
abbrev pub endpoint_of : {R : Type 0} → Context R → Endpoint
endpoint_of context =
    record (fresh_endpoint context.options) {
      moment = context.moment;
      core = core_of context.state;
      tie = tie_of context.state;
      outstanding = outstanding_of context.state;
      renewable = performed_reset context.renewable;
      last_tag = context.last_tag;
      secret = context.secret;
      error_count = context.tx_error_counter.count;
      heartbeat_counter = context.heartbeat_counter;
      heartbeat_sent = context.heartbeat_sent;
      has_answered = context.has_answered;
      shutdown_asked = context.shutdown_asked;
      timers = record stopped_timers {
        t1 = t1_of context.state;
        t2 = t2_of context.state;
        reconfiguration = reconfiguration_of context.state;
        heartbeat_interval = context.heartbeat_interval.running;
        heartbeat_timeout = context.heartbeat_timeout.running;
      };
      counts = record { packets_received = context.rx_packets_count; packets_sent = context.tx_packets_count; messages_queued = context.tx_messages_count };
      no_forward_tsn_before = context.no_forward_tsn_before;
      peer_implementation = context.peer_implementation;
      queues = record { queue = context.send_queue; transfer = transfer_of context.state };
      left = map message_content context.left.items;
    }

-- the parts of a socket, seen together
abbrev pub view_of : {R : Type 0} → Context R → View R
view_of context =
    record {
      endpoint = endpoint_of context;
      events = map event_content context.events;
      words = context.words.items;
      pairs = context.pairs.items;
      generator = context.generator;
    }

-- the endpoint with its heartbeat interval restarted
abbrev pub begun_heartbeats : Endpoint → Endpoint
begun_heartbeats e = record e { timers = heartbeats_begun e (own_tag e.core) e.timers }

-- the same of an association that was restored
abbrev pub resumed_heartbeats : Endpoint → Endpoint
resumed_heartbeats e = record e { timers = timers_restored e (own_tag e.core) }

-- the endpoint once one more message was queued
abbrev pub message_counted : Endpoint → Endpoint
message_counted e = record e { counts = record e.counts { messages_queued = count_up e.counts.messages_queued } }

-- the view once its association was dropped and these messages are left; the heartbeat's timers continue
abbrev pub association_dropped : {R : Type 0} → View R → List MessageContent → View R
association_dropped view left =
    let e : Endpoint = view.endpoint in
    let timers : Timers = record stopped_timers { heartbeat_interval = e.timers.heartbeat_interval; heartbeat_timeout = e.timers.heartbeat_timeout } in
    record view { endpoint = record (closed_after e) { timers = timers; left = left } }

-- the parts of a socket that was just made
abbrev pub fresh_view : {R : Type 0} → Options → R → View R
fresh_view options generator = record { endpoint = fresh_endpoint options; events = []; words = []; pairs = []; generator = generator }

-- A turn with this outcome, or several, leads from one view to the other.
pub record Moves {R : Type 0} (stream : R → Stream) (old : View R) (outcome : Outcome) (new : View R) : Type 0 where
  pub endpoint : new.endpoint ≡ outcome.after
  pub events : new.events ≡ old.events ++ map (user_event (ports_of old.endpoint.options)) outcome.events
  pub words : new.words ≡ old.words ++ outcome.words
  pub pairs : new.pairs ≡ old.pairs ++ drawn_pairs outcome.effects
  pub drawn : DrawsWords (stream old.generator) outcome.words (stream new.generator)

-- several turns, one after another
abbrev pub MovesAll : {R : Type 0} → (R → Stream) → View R → List Transition → View R → Type 0
MovesAll stream old turns new =
    Moves stream old (record {
      words = words_of turns;
      effects = effects_of turns;
      after = after_all old.endpoint turns;
      events = events_of turns;
      following = next_chunk;
    }) new

-- the view as a call begins: no word and no pair was drawn in it yet
abbrev pub call_start : {R : Type 0} → View R → View R
call_start view = record view { words = []; pairs = [] }

-- the turns of a whole call
abbrev pub CallMoves : {R : Type 0} → (R → Stream) → View R → List Transition → View R → Type 0
CallMoves stream old turns new = MovesAll stream (call_start old) turns new

-- The turn was cut by an allocation that failed, after it had added that many of its events.
pub record CutsTurn {R : Type 0} (old : View R) (outcome : Outcome) (events : List (Event (List ℕ))) : Type 0 where
  pub count : ℕ
  pub added : events ≡ old.events ++ take count (map (user_event (ports_of old.endpoint.options)) outcome.events)
