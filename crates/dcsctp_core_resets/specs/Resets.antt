-- What the handler of RE-CONFIG does, as turns of a socket's view (RFC 6525, section 5.2).
use Rattle.std.specs.Prelude.{◌≡◌, ◌==◌, ◌&&◌, ℕ, Bool, true, false, Option, None, Some, Result, List, [], ◌∷◌, ◌++◌, take, if◌then◌else◌}
use Rattle.std.specs.Option.{option_map}
use Rattle.rand_core.specs.Stream.{Stream}
use Rattle.dcsctp_core.specs.wire.declared.reconfiguration.OutgoingSsnResetRequestParameter.{OutgoingSsnResetRequestParameter}
use Rattle.dcsctp_core.specs.wire.declared.reconfiguration.ReconfigurationResponseResult.TheVariants.{SuccessNothingToDo}
use Rattle.dcsctp_core.specs.types.ByResult.{ByResult}
use Rattle.dcsctp_core.specs.types.declared.association.Held.{Held}
use Rattle.dcsctp_core.specs.spec.endpoint.Event.{Event, incoming_stream_reset, streams_reset_failed, streams_reset_performed}
use Rattle.dcsctp_core.specs.api.declared.events.SocketEvent.{SocketEvent}
use Rattle.dcsctp_core.specs.api.Events.{event_content}
use Rattle.dcsctp_core.specs.spec.Reconfiguration.{RequestedReset, NumberedReset, RequestState, early, ResetParameter, streams_of_bytes, previous_number}
use Rattle.dcsctp_core.specs.spec.queues.Transfer.{Transfer}
use Rattle.dcsctp_core.specs.spec.endpoint.Endpoint.{Endpoint, Core, cookie_echoed, open_in, held_by_core}
use Rattle.dcsctp_core.specs.spec.endpoint.Outcome.{Outcome, still}
use Rattle.dcsctp_core.specs.spec.endpoint.FlushOutcomes.{Answer}
use Rattle.dcsctp_core.specs.spec.endpoint.ResetOutcomes.{first_reset_request, first_request_number, is_renewal, state_if_renewed, renewable_reset, is_request_reached, OwnAnswer, unanswered, retried, was_performed, has_failed, own_moved, own_streams, ResetsInQueues, defers_reset, responses_outcome, responses_unless_refused, ResponseAnswers, ResetTurn}
use Rattle.dcsctp_core.specs.declared.state.State.{State}
use Rattle.dcsctp_core.specs.declared.transmission_control_block.TransmissionControlBlock.{TransmissionControlBlock}
use Rattle.dcsctp_core.specs.declared.transmission_control_block.PerformedReset.{PerformedReset}
use Rattle.dcsctp_core.specs.declared.context.Context.{Context}
use Rattle.dcsctp_core.specs.View.{View, core_of, endpoint_of, performed_reset, request_number, own_request, outstanding_of, tcb_of, transfer_of_tcb, transfer_of, view_of}
use Rattle.dcsctp_core.specs.Answering.{Retries}
use Rattle.dcsctp_core.specs.Reconfiguring.{tcb_changed}
use Rattle.dcsctp_core.specs.Handling.{TakesOne}
use Rattle.dcsctp_core_resets.specs.declared.requests.LastRequest.{LastRequest}
use Rattle.dcsctp_core_resets.specs.declared.requests.Treatment.{Treatment}
use Rattle.dcsctp_core_resets.specs.declared.requests.Treatment.TheVariants.{Performed}
use Rattle.dcsctp_core_resets.specs.declared.requests.HandledRequests.{HandledRequests}
use Rattle.dcsctp_core_resets.specs.declared.requests.OwnAnswer.TheVariants as own
use Rattle.dcsctp_core_resets.specs.declared.requests.OwnAnswer as requests
use Rattle.dcsctp_core_resets.specs.Requests.{held_with, held_out, is_performed, is_treatment_deferred, own_kind, reset_parameters, AreResponses, HandlesParameters}

-- A RE-CONFIG with these parameters was received.
abbrev pub ReceivesReConfig : {R : Type 0} → List ResetParameter → View R → Outcome → Type 0
ReceivesReConfig parameters view o = ResetTurn view.endpoint view.endpoint.core parameters o

-- what an Outgoing SSN Reset Request wants
abbrev pub reset_of_request : OutgoingSsnResetRequestParameter → RequestedReset
reset_of_request request =
    record {
      last_tsn = request.sender_last_assigned_tsn;
      streams = streams_of_bytes request.streams.now;
      is_new = request.response_seq_nbr == previous_number request.request_seq_nbr;
    }

-- its number
abbrev pub asked_number : OutgoingSsnResetRequestParameter → ℕ
asked_number request = request.request_seq_nbr

-- ---- the last request

-- that of the peer
abbrev pub last_of : Option TransmissionControlBlock → LastRequest
last_of None = record { number = 0; result = SuccessNothingToDo }
last_of (Some tcb) = record { number = tcb.last_processed_req_seq_nbr; result = tcb.last_processed_req_result }

abbrev pub last_request_of : State → LastRequest
last_request_of state = last_of (tcb_of state)

-- what an Outgoing SSN Reset Request finds, with the option or without, if this may be renewed
abbrev pub state_for : Bool → Option NumberedReset → Option TransmissionControlBlock → Option ℕ → Option RequestedReset → RequestState
state_for follows kept held number reset =
    if is_request_reached (transfer_of_tcb held) reset then state_if_renewed (follows && is_renewal kept (last_of held).number number reset) else early

-- What is made of the parameters of a RE-CONFIG, by the association.
abbrev pub HandlesForConnection : Bool → Option NumberedReset → Option TransmissionControlBlock → List ResetParameter → HandledRequests → Type 0
HandlesForConnection follows kept held parameters worked =
    HandlesParameters (state_for follows kept held (first_request_number parameters) (first_reset_request parameters)) (last_of held) (request_number (own_request held)) parameters worked

-- what may be renewed once a request was treated so, by the last number before
abbrev pub kept_after : Endpoint → ℕ → Option ℕ → Option RequestedReset → Bool → Option NumberedReset
kept_after e last number reset true = renewable_reset e last number reset
kept_after e last number reset false = e.renewable

-- What may be renewed is recorded; or an allocation failed, and nothing has changed.
abbrev pub RecordsRenewable : {R E : Type 0} → ℕ → Option OutgoingSsnResetRequestParameter → Context R → Result (Unit {0}) E → Context R → Type 0
RecordsRenewable last request old result new =
    ByResult (λ done. (kept : Option PerformedReset)
    × (performed_reset kept ≡ renewable_reset (endpoint_of old) last (option_map asked_number request) (option_map reset_of_request request))
    × (view_of new ≡ view_of (record old { renewable = kept })))
    (new ≡ old) result

-- So it is if the request is performed.
abbrev pub KeepsRenewable : {R E : Type 0} → ℕ → Option OutgoingSsnResetRequestParameter → Treatment → Context R → Result (Unit {0}) E → Context R → Type 0
KeepsRenewable last request treatment old result new =
    ByResult (λ done. (kept : Option PerformedReset)
    × (performed_reset kept ≡ kept_after (endpoint_of old) last (option_map asked_number request) (option_map reset_of_request request) (is_performed treatment))
    × (view_of new ≡ view_of (record old { renewable = kept })))
    (new ≡ old) result

abbrev pub core_asked : LastRequest → Core → Core
core_asked last (cookie_echoed my held cookie) = cookie_echoed my (held_with held last) cookie
core_asked last (open_in phase my held) = open_in phase my (held_with held last)
core_asked last core = core

-- the view with another last request of the peer
abbrev pub view_asked : {R : Type 0} → LastRequest → View R → View R
view_asked last view = record view { endpoint = record view.endpoint { core = core_asked last view.endpoint.core } }

-- ---- the streams

-- the view with this below its association, and these events after the others
abbrev pub view_left : {R : Type 0} → View R → Option Transfer → List (Event (List ℕ)) → View R
view_left view left events = record view { endpoint = record view.endpoint { queues = record view.endpoint.queues { transfer = left } }; events = view.events ++ events }

-- What comes on the streams beyond the last TSN waits from now on.
abbrev pub DefersTo : RequestedReset → Transfer → Transfer → Type 0
DefersTo reset old new = new ≡ defers_reset reset old

-- They are to be reset later; or an allocation failed, and nothing has changed.
abbrev pub DefersReset : {R E : Type 0} → RequestedReset → Context R → Result (Unit {0}) E → Context R → Type 0
DefersReset reset old result new =
    ByResult (λ done. (left : Option Transfer) × ResetsInQueues false true (Some reset) (transfer_of old.state) left
    × (view_of new ≡ view_left (view_of old) left []))
    (view_of new ≡ view_of old) result

-- what becomes of them below the association
abbrev pub TreatsInQueues : Treatment → Option RequestedReset → Option Transfer → Option Transfer → Type 0
TreatsInQueues treatment reset old new = ResetsInQueues (is_performed treatment) (is_treatment_deferred treatment) reset old new

abbrev pub incoming_reset_events : Treatment → Option RequestedReset → List (Event (List ℕ))
incoming_reset_events Performed (Some reset) = incoming_stream_reset reset.streams ∷ []
incoming_reset_events treatment reset = []

-- The streams were treated so, and the event was added; or an allocation failed, and no event was added.
abbrev pub TreatsReset : {R E : Type 0} → Treatment → Option RequestedReset → Context R → Result (Unit {0}) E → Context R → Type 0
TreatsReset treatment reset old result new =
    ByResult (λ done. (left : Option Transfer) × TreatsInQueues treatment reset (transfer_of old.state) left
    × (view_of new ≡ view_left (view_of old) left (incoming_reset_events treatment reset)))
    ((view_of new).events ≡ (view_of old).events) result

-- ---- our own request

-- Its number is outstanding no longer, once it has ended.
abbrev pub core_ended : Core → Core
core_ended (cookie_echoed my held cookie) = cookie_echoed my (held_out None held) cookie
core_ended (open_in phase my held) = open_in phase my (held_out None held)
core_ended core = core

abbrev pub core_settled : OwnAnswer → Core → Core
core_settled unanswered core = core
core_settled retried core = core
core_settled was_performed core = core_ended core
core_settled has_failed core = core_ended core

-- the view once it was answered so
abbrev pub view_settled : {R : Type 0} → OwnAnswer → View R → View R
view_settled answer view =
    let moved : Endpoint = own_moved answer view.endpoint in
    record view { endpoint = record moved { core = core_settled answer view.endpoint.core } }

-- By the RFC no error counts once it was answered.
abbrev pub view_without_errors : {R : Type 0} → View R → View R
view_without_errors view = record view { endpoint = record view.endpoint { error_count = if view.endpoint.options.follow_rfc then 0 else view.endpoint.error_count } }

-- the events about it, if it resets these streams
abbrev pub own_reset_events : requests.OwnAnswer → List ℕ → List (Event (List ℕ))
own_reset_events own.Unanswered streams = []
own_reset_events own.InProgress streams = []
own_reset_events own.Performed streams = streams_reset_performed streams ∷ []
own_reset_events own.Failed streams = streams_reset_failed streams ∷ []

abbrev pub events_of_option : Option SocketEvent → List (Event (List ℕ))
events_of_option None = []
events_of_option (Some event) = event_content event ∷ []

-- Our request is in progress, if the peer is known: it waits, and its timer starts again.
abbrev pub RetriesIfConnected : ℕ → Option TransmissionControlBlock → State → State → Type 0
RetriesIfConnected now None old new = new ≡ old
RetriesIfConnected now (Some tcb) old new = (after : TransmissionControlBlock) × Retries now tcb after × (new ≡ tcb_changed (λ _. after) old)

-- It was answered so, if one is outstanding, and this event is to be added.
abbrev pub SettlesRequest : {R : Type 0} → requests.OwnAnswer → Context R → Option SocketEvent → Context R → Type 0
SettlesRequest answer old told new =
    (outstanding_of old.state ≡ None → answer ≡ own.Unanswered)
    → (view_of new ≡ view_settled (own_kind answer) (view_of old)) × (events_of_option told ≡ own_reset_events answer (own_streams (outstanding_of old.state)))

-- The event was added, if there is one; or an allocation failed, and no event was added.
abbrev pub ReportsEvent : {R E : Type 0} → Option SocketEvent → Context R → Result (Unit {0}) E → Context R → Type 0
ReportsEvent event old result new =
    ByResult (λ done. view_of new ≡ record (view_of old) { events = (view_of old).events ++ events_of_option event })
    ((view_of new).events ≡ (view_of old).events) result

-- the events about both, in their order
abbrev pub both_reset_events : Bool → requests.OwnAnswer → Treatment → Option RequestedReset → List ℕ → List (Event (List ℕ))
both_reset_events true answer treatment reset streams = own_reset_events answer streams ++ incoming_reset_events treatment reset
both_reset_events false answer treatment reset streams = incoming_reset_events treatment reset ++ own_reset_events answer streams

abbrev pub handled_reset_events : {R : Type 0} → HandledRequests → Option RequestedReset → Context R → List (Event (List ℕ))
handled_reset_events worked reset old = both_reset_events worked.is_own_first worked.own worked.treatment reset (own_streams (outstanding_of old.state))

-- What was decided of both was done; or an allocation failed, and the first of the events were added.
abbrev pub CarriesOutBoth : {R E : Type 0} → HandledRequests → Option RequestedReset → Context R → Result (Unit {0}) E → Context R → Type 0
CarriesOutBoth worked reset old result new =
    ByResult (λ done. (left : Option Transfer) × TreatsInQueues worked.treatment reset (transfer_of old.state) left
    × (view_of new ≡ view_left (view_settled (own_kind worked.own) (view_of old)) left (handled_reset_events worked reset old)))
    ((count : ℕ) × ((view_of new).events ≡ (view_of old).events ++ take count (handled_reset_events worked reset old))) result

abbrev pub CarriesOut : {R E : Type 0} → HandledRequests → Option RequestedReset → Context R → Result (Unit {0}) E → Context R → Type 0
CarriesOut worked reset old result new = (outstanding_of old.state ≡ None → worked.own ≡ own.Unanswered) → CarriesOutBoth worked reset old result new

-- ---- the answers

-- They are sent to the peer.
abbrev pub responses_to : Endpoint → Option Held → List ResetParameter → Outcome
responses_to e None responses = still e
responses_to e (Some held) responses = responses_outcome e held responses

abbrev pub responses_turn : {R : Type 0} → List ResetParameter → View R → Outcome
responses_turn responses view = responses_to view.endpoint (held_by_core view.endpoint.core) responses

-- The answers are sent, and a flush after them; or an error is reported.
abbrev pub SendsResponses : {R : Type 0} → Held → Bool → List ResetParameter → List ResetParameter → View R → Outcome → Type 0
SendsResponses held refused parameters responses view o =
    (answers : List Answer) × ResponseAnswers refused view.endpoint held responses answers × (o ≡ responses_unless_refused refused view.endpoint [] held parameters responses answers)

-- That is so if the peer is known.
abbrev pub Finishes : {R E : Type 0} → (R → Stream) → List ResetParameter → HandledRequests → Context R → Result (Unit {0}) E → Context R → Type 0
Finishes stream parameters worked old result new =
    AreResponses worked.responses.items → (held : Held) → held_by_core (core_of old.state) ≡ Some held
    → TakesOne stream (SendsResponses held worked.is_refused parameters (reset_parameters worked.responses.items)) old result new
