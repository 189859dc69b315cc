-- The turn of RE-CONFIG: what the peer asks to be reset, how it is answered, and what it answers (RFC 6525, section 5.2). Which
-- numbers are accepted, and with which answer, is in association/ResetChanges (`reset_chunk_outcome`); the rest is here.
use Rattle.std.specs.Prelude.{◌≡◌, ◌==◌, ◌&&◌, ℕ, nat_eq, length, Bool, true, false, not, Option, None, Some, List, [], ◌∷◌, ◌++◌, codes, if◌then◌else◌}
use Rattle.std.specs.List.{list_any, starts_with}
use Rattle.std.specs.Option.{option_map}
use Rattle.dcsctp_types.specs.wire.declared.reconfiguration.ReconfigurationResponseResult.TheVariants.{InProgress}
use Rattle.dcsctp_types.specs.declared.association.Pair.{Pair}
use Rattle.dcsctp_types.specs.declared.association.Held.{Held}
use Rattle.dcsctp_types.specs.declared.kinds.ErrorKind.TheVariants.{ProtocolViolation}
use Rattle.dcsctp_spec.specs.endpoint.Event.{Event, error, incoming_stream_reset, streams_reset_failed, streams_reset_performed}
use Rattle.dcsctp_spec.specs.Packet.{re_config, Emission}
use Rattle.dcsctp_spec.specs.Reconfiguration.{RequestedReset, renewed_reset, NumberedReset, RequestState, early, due, renewed, ResetParameter, outgoing_reset_request, incoming_reset_request, reconfiguration_response, other_reset_parameter}
use Rattle.dcsctp_spec.specs.queues.Reassembly.{deferring, EndsDeferral}
use Rattle.dcsctp_spec.specs.queues.Tracker.{cumulative_tsn}
use Rattle.dcsctp_spec.specs.queues.OwnResets.{queue_committed, queue_rolled_back}
use Rattle.dcsctp_spec.specs.queues.SendQueue.{SendQueueState}
use Rattle.dcsctp_spec.specs.queues.Transfer.{Transfer}
use Rattle.dcsctp_spec.specs.endpoint.Endpoint.{Endpoint, Core, cookie_echoed, open_in, OutstandingRequest}
use Rattle.dcsctp_spec.specs.endpoint.Timers.{started_timer}
use Rattle.dcsctp_spec.specs.endpoint.Outcome.{Outcome, still, quiet, behind, with_effects_first, to_peer, answers_with}
use Rattle.dcsctp_spec.specs.association.Effect.{Effect, completes, fails, performs, renews}
use Rattle.dcsctp_spec.specs.association.FlushChanges.{next_number}
use Rattle.dcsctp_spec.specs.association.ResetChanges.{HandledParameters, reset_chunk_outcome}
use Rattle.dcsctp_spec.specs.endpoint.FlushOutcomes.{Answer, draft_to, flush_of, FlushAnswers}
use Rattle.dcsctp_spec.specs.queues.Numbers.{is_tsn_beyond}
use Rattle.dcsctp_spec.specs.endpoint.BegunResets.{reconfiguration_settings}

-- ---- when a reset is due

-- what the first Outgoing SSN Reset Request of a chunk wants: no other is handled
abbrev pub first_reset_request : List ResetParameter → Option RequestedReset
first_reset_request [] = None
first_reset_request (outgoing_reset_request number answered reset ∷ parameters) = Some reset
first_reset_request (incoming_reset_request number streams ∷ parameters) = first_reset_request parameters
first_reset_request (reconfiguration_response number result ∷ parameters) = first_reset_request parameters
first_reset_request (other_reset_parameter parameter ∷ parameters) = first_reset_request parameters

-- Was everything received that was sent before the reset was requested? Else it is in progress (RFC 6525, section 5.2.2, E2).
abbrev pub is_request_reached : Option Transfer → Option RequestedReset → Bool
is_request_reached (Some transfer) (Some reset) = not (is_tsn_beyond reset.last_tsn (cumulative_tsn transfer.tracker))
is_request_reached transfer reset = true

-- ---- a request that comes again under the next number

-- the number of that request
abbrev pub first_request_number : List ResetParameter → Option ℕ
first_request_number [] = None
first_request_number (outgoing_reset_request number answered reset ∷ parameters) = Some number
first_request_number (incoming_reset_request number streams ∷ parameters) = first_request_number parameters
first_request_number (reconfiguration_response number result ∷ parameters) = first_request_number parameters
first_request_number (other_reset_parameter parameter ∷ parameters) = first_request_number parameters

-- are they the same numbers, in the same order?
abbrev pub is_same_list : List ℕ → List ℕ → Bool
is_same_list one other = length one == length other && starts_with nat_eq one other

-- do both want the same: up to the same TSN, the same list of streams?
abbrev pub is_same_reset : RequestedReset → RequestedReset → Bool
is_same_reset one other = one.last_tsn == other.last_tsn && is_same_list one.streams other.streams

-- Is this request of the peer the last one of its, once more under the next number? One that says that it is new isn't.
abbrev pub is_renewal : Option NumberedReset → ℕ → Option ℕ → Option RequestedReset → Bool
is_renewal (Some old) last (Some number) (Some reset) = old.number == last && (number == next_number last && (not reset.is_new && is_same_reset old.reset reset))
is_renewal old last number reset = false

-- what a request finds that was reached, if it is renewed, and if it isn't
abbrev pub state_if_renewed : Bool → RequestState
state_if_renewed true = renewed
state_if_renewed false = due

-- Where a request was in progress, the peer sends it again under the next number (RFC 6525, section 5.2.7). A late copy of the old one
-- may be performed before that comes. With the option the new one is known to be the same. It is answered as performed, and isn't
-- reported a second time. On its streams nothing may come between the two, so to reset them once more changes nothing.
abbrev pub request_state : Endpoint → Held → List ResetParameter → RequestState
request_state e held parameters =
    if is_request_reached e.queues.transfer (first_reset_request parameters) then state_if_renewed (e.options.follow_rfc && is_renewal e.renewable held.peer_last (first_request_number parameters) (first_reset_request parameters))
    else early

-- what the parameters of a chunk make of the numbers, and how they are answered
abbrev pub handled_parameters_of : Endpoint → Pair → Held → List ResetParameter → HandledParameters
handled_parameters_of e my held parameters = reset_chunk_outcome my (request_state e held parameters) held parameters

-- ---- the peer's request

-- were streams reset?
abbrev pub has_reset : List Effect → Bool
has_reset [] = false
has_reset (performs peer number ∷ effects) = true
has_reset (renews peer number ∷ effects) = true
has_reset (effect ∷ effects) = has_reset effects

-- What may come again under the next number, once this was performed: it, if it was in progress before, under the last number. It is
-- recorded with the option alone.
abbrev pub renewable_reset : Endpoint → ℕ → Option ℕ → Option RequestedReset → Option NumberedReset
renewable_reset e last (Some number) (Some reset) = if e.options.follow_rfc && number == last then Some (record { number = number; reset = renewed_reset reset }) else None
renewable_reset e last number reset = None

-- the same once the parameters of a chunk were handled
abbrev pub renewable_after : Endpoint → ℕ → List ResetParameter → Bool → Option NumberedReset
renewable_after e last parameters true = renewable_reset e last (first_request_number parameters) (first_reset_request parameters)
renewable_after e last parameters false = e.renewable

-- is the peer's request answered as in progress?
abbrev pub answers_in_progress : List ResetParameter → Bool
answers_in_progress [] = false
answers_in_progress (reconfiguration_response number InProgress ∷ answers) = true
answers_in_progress (answer ∷ answers) = answers_in_progress answers

-- These streams were reset: messages that waited for that may be ready (RFC 6525, section 5.2.2, E4).
pub record ResetsTransferStreams (streams : List ℕ) (old new : Transfer) : Type 0 where
  pub reassembly : EndsDeferral streams old.reassembly new.reassembly
  pub rest : new ≡ record old { reassembly = new.reassembly }

-- What comes on them beyond the peer's last TSN waits from now on (RFC 6525, section 5.2.2, E2).
abbrev pub defers_reset : RequestedReset → Transfer → Transfer
defers_reset reset transfer = record transfer { reassembly = deferring reset.last_tsn reset.streams transfer.reassembly }

-- by the request, and whether it is performed, or in progress
abbrev pub ResetsInQueues : Bool → Bool → Option RequestedReset → Option Transfer → Option Transfer → Type 0
ResetsInQueues true in_progress (Some reset) (Some old) new = (left : Transfer) × (new ≡ Some left) × ResetsTransferStreams reset.streams old left
ResetsInQueues false true (Some reset) (Some old) new = new ≡ Some (defers_reset reset old)
ResetsInQueues is_performed in_progress reset old new = new ≡ old

-- ---- its own request

-- the parameters that are handled: those in front of a second Outgoing SSN Reset Request
abbrev pub handled_part : Bool → List ResetParameter → List ResetParameter
handled_part has_worked [] = []
handled_part true (outgoing_reset_request number answered reset ∷ parameters) = []
handled_part false (outgoing_reset_request number answered reset ∷ parameters) = outgoing_reset_request number answered reset ∷ handled_part true parameters
handled_part has_worked (parameter ∷ parameters) = parameter ∷ handled_part has_worked parameters

-- does it answer that the request of this number is in progress?
abbrev pub is_in_progress : ℕ → ResetParameter → Bool
is_in_progress own (reconfiguration_response number InProgress) = number == own
is_in_progress own parameter = false

-- what becomes of it
pub data OwnAnswer : Type 0 where
  -- It isn't answered, or there is none.
  unanswered : OwnAnswer
  -- It is in progress, and is sent again later.
  retried : OwnAnswer
  -- Its streams were reset.
  was_performed : OwnAnswer
  -- They weren't, and won't be.
  has_failed : OwnAnswer

-- by its number before the chunk and after it, and whether it was answered as in progress, or was performed
abbrev pub own_answer : Option ℕ → Option ℕ → Bool → Bool → OwnAnswer
own_answer None after in_progress is_performed = unanswered
own_answer (Some number) None in_progress true = was_performed
own_answer (Some number) None in_progress false = has_failed
own_answer (Some number) (Some still_out) true is_performed = retried
own_answer (Some number) (Some still_out) false is_performed = unanswered

abbrev pub in_progress_among : Option ℕ → List ResetParameter → Bool
in_progress_among None parameters = false
in_progress_among (Some number) parameters = list_any (is_in_progress number) parameters

-- was it performed?
abbrev pub has_completed : List Effect → Bool
has_completed [] = false
has_completed (completes my number ∷ effects) = true
has_completed (effect ∷ effects) = has_completed effects

abbrev pub answer_to_own : Held → HandledParameters → List ResetParameter → OwnAnswer
answer_to_own held worked parameters =
    own_answer held.own_outstanding worked.held.own_outstanding (in_progress_among held.own_outstanding (handled_part false parameters)) (has_completed worked.effects)

-- the streams that its own request resets
abbrev pub own_streams : Option OutstandingRequest → List ℕ
own_streams None = []
own_streams (Some request) = request.streams

-- it waits to be sent again
abbrev pub waiting : OutstandingRequest → OutstandingRequest
waiting request = record request { waits_for_retry = true }

-- With the option an answer of the peer to its own request shows that it is there, so no error counts (RFC 9260, section 8.1,
-- says so of SACK and HEARTBEAT ACK).
abbrev pub errors_after_answer : Endpoint → ℕ
errors_after_answer e = if e.options.follow_rfc then 0 else e.error_count

-- Its own request has ended, and this waits to be sent.
abbrev pub own_request_ended : SendQueueState → Endpoint → Endpoint
own_request_ended queue e =
    record e {
      outstanding = None;
      timers = record e.timers { reconfiguration = None };
      queues = record e.queues { queue = queue };
      error_count = errors_after_answer e;
    }

-- the endpoint once its own request got this answer
abbrev pub own_moved : OwnAnswer → Endpoint → Endpoint
own_moved unanswered e = e
own_moved retried e =
    record e {
      outstanding = option_map waiting e.outstanding;
      timers = record e.timers { reconfiguration = started_timer e.moment (reconfiguration_settings e.queues.transfer) };
      error_count = errors_after_answer e;
    }
own_moved was_performed e = own_request_ended (queue_committed e.queues.queue) e
own_moved has_failed e = own_request_ended (queue_rolled_back e.queues.queue) e

-- ---- its outcome

-- the events for the user, if the peer resets these streams and its own request resets those
abbrev pub reset_events : List ℕ → List ℕ → List Effect → List (Event Emission)
reset_events theirs own [] = []
reset_events theirs own (performs peer number ∷ effects) = incoming_stream_reset theirs ∷ reset_events theirs own effects
reset_events theirs own (completes my number ∷ effects) = streams_reset_performed own ∷ reset_events theirs own effects
reset_events theirs own (fails number ∷ effects) = streams_reset_failed own ∷ reset_events theirs own effects
reset_events theirs own (effect ∷ effects) = reset_events theirs own effects

abbrev pub their_streams : Option RequestedReset → List ℕ
their_streams None = []
their_streams (Some reset) = reset.streams

abbrev pub reset_events_of : Endpoint → List ResetParameter → List Effect → List (Event Emission)
reset_events_of e parameters effects = reset_events (their_streams (first_reset_request parameters)) (own_streams e.outstanding) effects

-- the association with this known of its peer
abbrev pub core_with : Core → Held → Core
core_with (cookie_echoed my old cookie) held = cookie_echoed my held cookie
core_with (open_in phase my old) held = open_in phase my held
core_with core held = core

-- the endpoint once the parameters were handled, with this below its association
abbrev pub resets_handled : Endpoint → OwnAnswer → Held → Option Transfer → Option NumberedReset → Endpoint
resets_handled e answer held left renewable =
    let moved : Endpoint = own_moved answer e in
    record moved { core = core_with e.core held; renewable = renewable; queues = record moved.queues { transfer = left } }

-- what is renewable then
abbrev pub renewable_left : Endpoint → Held → HandledParameters → List ResetParameter → Option NumberedReset
renewable_left e held worked parameters = renewable_after e held.peer_last parameters (has_reset worked.effects)

-- why a chunk is an error: it has no parameter, or a second Outgoing SSN Reset Request
abbrev pub reset_refusal_text : List ResetParameter → List ℕ
reset_refusal_text [] = codes "RE-CONFIG chunk must have at least one parameter"
reset_refusal_text (parameter ∷ parameters) = codes "RE-CONFIG chunk must not have multiple Outgoing SSN Reset Request parameters"

-- The answers are sent in a packet of one RE-CONFIG, if there are some and they fit. With the option one RE-CONFIG of a packet is
-- answered.
abbrev pub responses_outcome : Endpoint → Held → List ResetParameter → Outcome
responses_outcome e held [] = still e
responses_outcome e held (response ∷ responses) = answers_with e (to_peer held (re_config (response ∷ responses)))

-- After the events come the answers, and then a flush; if the chunk is an error, neither does.
abbrev pub responses_unless_refused : Bool → Endpoint → List (Event Emission) → Held → List ResetParameter → List ResetParameter → List Answer → Outcome
responses_unless_refused true e told held parameters responses answers = quiet e [] (told ++ error ProtocolViolation (reset_refusal_text parameters) ∷ [])
responses_unless_refused false e told held parameters responses answers =
    let sent : Outcome = responses_outcome e held responses in
    behind [] (told ++ sent.events) (flush_of sent.after (draft_to held) answers)

abbrev pub ResponseAnswers : Bool → Endpoint → Held → List ResetParameter → List Answer → Type 0
ResponseAnswers true e held responses answers = answers ≡ []
ResponseAnswers false e held responses answers = FlushAnswers (responses_outcome e held responses).after (draft_to held) answers

-- by what the parameters make of the numbers, and with this below the association
abbrev pub resets_after_handling : Endpoint → Held → HandledParameters → List ResetParameter → Option Transfer → List Answer → Outcome
resets_after_handling e held worked parameters left answers =
    with_effects_first worked.effects (responses_unless_refused worked.is_refused (resets_handled e (answer_to_own held worked parameters) worked.held left (renewable_left e held worked parameters)) (reset_events_of e parameters worked.effects) worked.held parameters worked.answers answers)

-- Its change is `re_config_change`.
pub record HandlesResets (e : Endpoint) (my : Pair) (held : Held) (parameters : List ResetParameter) (o : Outcome) : Type 0 where
  pub left : Option Transfer
  pub below : ResetsInQueues (has_reset (handled_parameters_of e my held parameters).effects) (answers_in_progress (handled_parameters_of e my held parameters).answers)
      (first_reset_request parameters) e.queues.transfer left
  pub answers : List Answer
  pub allowed : ResponseAnswers (handled_parameters_of e my held parameters).is_refused
      (resets_handled e (answer_to_own held (handled_parameters_of e my held parameters) parameters) (handled_parameters_of e my held parameters).held left
      (renewable_left e held (handled_parameters_of e my held parameters) parameters))
      (handled_parameters_of e my held parameters).held
      (handled_parameters_of e my held parameters).answers answers
  pub is : o ≡ resets_after_handling e held (handled_parameters_of e my held parameters) parameters left answers

-- A RE-CONFIG with these parameters is received; without a peer nothing happens.
abbrev pub ResetTurn : Endpoint → Core → List ResetParameter → Outcome → Type 0
ResetTurn e (cookie_echoed my held cookie) parameters o = HandlesResets e my held parameters o
ResetTurn e (open_in phase my held) parameters o = HandlesResets e my held parameters o
ResetTurn e core parameters o = o ≡ still e
