-- The call of a session that sends several messages, and the status that it reports of each.
use Rattle.std.specs.Prelude.{◌≡◌, ◌⊎◌, ◌++◌, ℤ, Bool, true, false, nat_lt, List, [], ◌∷◌, map, length, drop, Option, None, Some, Result, Ok, Err}
use Rattle.dcsctp_core.specs.types.declared.message.SendOptions.{SendOptions}
use Rattle.dcsctp_core.specs.types.queues.Messages.{MessageContent}
use Rattle.dcsctp_core.specs.spec.endpoint.Endpoint.{Endpoint}
use Rattle.dcsctp_core.specs.types.Schedule.{send_many_call}
use Rattle.dcsctp_core.specs.spec.endpoint.MessageOutcomes.{MessageRefusal, empty_payload, message_too_large, shutting_down, resource_exhaustion, Sending, sending_of, sending_refusal, queue_one}
use Rattle.dcsctp_core.specs.api.declared.errors.SocketFault.{SocketFault}
use Rattle.dcsctp_core.specs.api.Calls.{UserView, UserCalls}
use Rattle.dcsctp_session.specs.declared.many.OutgoingRecord.{OutgoingRecord}
use Rattle.dcsctp_session.specs.declared.options.SendOptionsRecord.{SendOptionsRecord}
use Rattle.dcsctp_session.specs.declared.session.Session.{Session}
use Rattle.dcsctp_session.specs.declared.status.Status.{Status}
use Rattle.dcsctp_session.specs.declared.status.Status.TheVariants as statuses
use Rattle.dcsctp_session.specs.Options.{SaysSendOptions, is_valid_sending}
use Rattle.dcsctp_session.specs.Status.{status_number, fault_status}
use Rattle.dcsctp_session.specs.Views.{view}

-- what a message is that a caller wants to send
abbrev pub outgoing_content : OutgoingRecord → MessageContent
outgoing_content message = record { stream = message.stream_id; ppid = message.ppid; payload = message.payload.now }

-- ---- what is reported

-- the status of a message that is refused for this, or taken
abbrev pub refusal_status : Option MessageRefusal → Status
refusal_status None = statuses.Done
refusal_status (Some empty_payload) = statuses.EmptyPayload
refusal_status (Some (message_too_large bytes limit)) = statuses.MessageTooLarge
refusal_status (Some shutting_down) = statuses.ShuttingDown
refusal_status (Some resource_exhaustion) = statuses.ResourceExhaustion

-- the status of each of these, which are sent one after another
abbrev pub statuses_of : Endpoint → List Sending → List Status
statuses_of e [] = []
statuses_of e (message ∷ messages) = refusal_status (sending_refusal e message) ∷ statuses_of (queue_one e message).after messages

-- the first that isn't `Done`
abbrev pub first_refusal : List Status → Status
first_refusal [] = statuses.Done
first_refusal (statuses.Done ∷ others) = first_refusal others
first_refusal (status ∷ others) = status

abbrev pub many_status : Result (List Status) SocketFault → Status
many_status (Ok each) = first_refusal each
many_status (Err fault) = fault_status fault

-- The front of the caller's results says what became of each message.
abbrev pub results_after : Result (List Status) SocketFault → List ℤ → List ℤ
results_after (Ok each) before = map status_number each ++ drop (length each) before
results_after (Err fault) before = before

-- ---- the call

-- The messages are sent in one turn, and each has a status that says whether it was taken. Or an allocation failed, or the socket
-- had failed before.
abbrev pub ManyCall : List MessageContent → SendOptions → UserView → Result (List Status) SocketFault → UserView → Type 0
ManyCall messages options old outcome new =
    UserCalls (send_many_call messages options) (λ each. each ≡ statuses_of old.endpoint (map (sending_of options) messages)) old outcome new

-- The socket's call takes place, and the status and the results say its outcome.
pub record CallsSendMany (messages : List MessageContent) (options : SendOptions) (old : Session) (before : List ℤ) (status : Status) (after : List ℤ) (new : Session) : Type 0 where
  pub outcome : Result (List Status) SocketFault
  pub call : ManyCall messages options (view old) outcome (view new)
  pub told : status ≡ many_status outcome
  pub results : after ≡ results_after outcome before
  pub taken : new.taken ≡ old.taken
  pub offload : new.checksum_offload ≡ old.checksum_offload

-- Nothing has changed, for this reason, and no result is written.
pub record SendsNothing (why : Status) (old : Session) (before : List ℤ) (status : Status) (after : List ℤ) (new : Session) : Type 0 where
  pub told : status ≡ why
  pub results : after ≡ before
  pub same : new ≡ old

-- The messages are sent, unless there was no memory for their copies.
abbrev pub SendsCopies : List OutgoingRecord → SendOptions → Session → List ℤ → Status → List ℤ → Session → Type 0
SendsCopies messages options old before status after new =
    SendsNothing statuses.OutOfMemory old before status after new ⊎ CallsSendMany (map outgoing_content messages) options old before status after new

-- why none is sent: there are too few results, or the options aren't valid
abbrev pub refusal_of_many : Bool → Bool → Option Status
refusal_of_many true valid = Some statuses.BufferTooSmall
refusal_of_many false false = Some statuses.InvalidSendOptions
refusal_of_many false true = None

-- This happens, unless there is a reason against it.
abbrev pub HappensUnlessRefused : Option Status → Type 0 → Session → List ℤ → Status → List ℤ → Session → Type 0
HappensUnlessRefused (Some why) Happens old before status after new = SendsNothing why old before status after new
HappensUnlessRefused None Happens old before status after new = Happens

abbrev pub SendsManyRecords : List OutgoingRecord → SendOptionsRecord → Session → List ℤ → Status → List ℤ → Session → Type 0
SendsManyRecords messages numbers old before status after new =
    HappensUnlessRefused (refusal_of_many (nat_lt (length before) (length messages)) (is_valid_sending numbers))
    ((options : SendOptions) × SaysSendOptions numbers options × SendsCopies messages options old before status after new)
    old before status after new
