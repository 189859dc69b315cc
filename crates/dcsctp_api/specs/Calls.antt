-- What the calls of a socket do.
use Rattle.std.specs.Prelude.{◌≡◌, ℕ, Bool, true, false, Option, Some, None, Result, Ok, Err, List, [], ◌∷◌, ◌++◌, map}
use Rattle.rand_core.specs.Stream.{Stream, next_u32, next_u64}
use Rattle.dcsctp_spec_lemmas.specs.types.Settings.{Ports, ports_of}
use Rattle.dcsctp_spec_lemmas.specs.types.declared.association.Pair.{Pair}
use Rattle.dcsctp_spec_lemmas.specs.types.declared.word.Word.{Word}
use Rattle.dcsctp_spec_lemmas.specs.types.declared.word.Word.TheVariants.{U32, U64}
use Rattle.dcsctp_spec_lemmas.specs.types.Schedule.{CallContent, connect_call, close_call, shutdown_call}
use Rattle.dcsctp_spec_lemmas.specs.spec.endpoint.Event.{Event, event_map}
use Rattle.dcsctp_spec_lemmas.specs.spec.Packet.{Emission, emission_bytes}
use Rattle.dcsctp_spec_lemmas.specs.spec.endpoint.Endpoint.{Endpoint, Core, closed, cookie_wait, cookie_echoed, open_in, OpenPhase, established, shutdown_pending, shutdown_sent, shutdown_received, shutdown_ack_sent}
use Rattle.dcsctp_spec_lemmas.specs.spec.queues.SendQueue.{queue_stream}
use Rattle.dcsctp_spec_lemmas.specs.types.queues.SendStreams as send_streams
use Rattle.dcsctp_spec_lemmas.specs.types.Setting.{Setting}
use Rattle.dcsctp_spec_lemmas.specs.spec.endpoint.SettingOutcomes.{endpoint_with}
use Rattle.dcsctp_spec_lemmas.specs.spec.endpoint.CallTurns.{Transition, HandleInput, FirstOfCall, after_all, words_of, pairs_of, events_of}
use Rattle.dcsctp_spec_lemmas.specs.spec.endpoint.UserTurns.{UserTurns}
use Rattle.dcsctp_api.specs.declared.errors.SocketFault.{SocketFault}
use Rattle.dcsctp_api.specs.declared.errors.SocketFault.TheVariants.{OutOfMemory, Failed}
use Rattle.dcsctp_api.specs.declared.events.SocketEvent.{SocketEvent}
use Rattle.dcsctp_api.specs.declared.state.SocketState.{SocketState}
use Rattle.dcsctp_api.specs.declared.state.SocketState.TheVariants as states
use Rattle.dcsctp_api.specs.Events.{event_content}
use Rattle.dcsctp_api.specs.Packets.{cleared_event}

-- What a socket is to its user: the endpoint, the events that wait, and what the socket's generator gives next. Also the words
-- that the last call drew, the pairs that it made of them, and whether an allocation failed.
pub record UserView : Type 0 where
  pub endpoint : Endpoint
  pub events : List (Event (List ℕ))
  pub words : List Word
  pub pairs : List Pair
  pub generator : Stream
  pub failed : Bool

-- an event as the user sees it: its packet in bytes
abbrev pub user_event : Ports → Event Emission → Event (List ℕ)
user_event ports event = event_map (emission_bytes ports) event

-- The words are what the generator gives next, and this is left of it.
abbrev pub DrawsWords : Stream → List Word → Stream → Type 0
DrawsWords old [] new = new ≡ old
DrawsWords old (U32 word ∷ words) new = (word ≡ (next_u32 old).0) × DrawsWords (next_u32 old).1 words new
DrawsWords old (U64 word ∷ words) new = (word ≡ (next_u64 old).0) × DrawsWords (next_u64 old).1 words new

-- ---- what a call leaves

-- These turns lead from one view to the other, neither of which has failed.
pub record Follows (old : UserView) (turns : List Transition) (new : UserView) : Type 0 where
  pub runs : old.failed ≡ false
  pub goes_on : new.failed ≡ false
  pub endpoint : new.endpoint ≡ after_all old.endpoint turns
  pub events : new.events ≡ old.events ++ map (user_event (ports_of old.endpoint.options)) (events_of turns)
  pub words : new.words ≡ words_of turns
  pub pairs : new.pairs ≡ pairs_of turns
  pub drawn : DrawsWords old.generator (words_of turns) new.generator

-- The call was made: such is its answer, and such are its turns.
pub record MakesCall {A : Type 0} (IsAnswer : A → Type 0) (AreTurns : List Transition → Type 0) (old : UserView) (answer : A) (new : UserView) : Type 0 where
  pub answers : IsAnswer answer
  pub turns : List Transition
  pub are : AreTurns turns
  pub follows : Follows old turns new

-- Events were added after those that wait: the first part of what these turns add.
pub record AddsFirstEvents (ports : Ports) (turns : List Transition) (old new : List (Event (List ℕ))) : Type 0 where
  pub added : List (Event (List ℕ))
  pub rest : List (Event (List ℕ))
  pub behind : new ≡ old ++ added
  pub front : added ++ rest ≡ map (user_event ports) (events_of turns)

-- An allocation failed, and the socket has failed. Earlier events stay, and the call added only events of such turns.
pub record RanOutOfMemory (AreTurns : List Transition → Type 0) (old new : UserView) : Type 0 where
  pub runs : old.failed ≡ false
  pub fails : new.failed ≡ true
  pub turns : List Transition
  pub are : AreTurns turns
  pub events : AddsFirstEvents (ports_of old.endpoint.options) turns old.events new.events

-- An allocation failed, and the socket has failed. Nothing else has changed but the words that were drawn.
pub record FailsWhole (old new : UserView) : Type 0 where
  pub runs : old.failed ≡ false
  pub only : new ≡ record old { words = new.words; pairs = new.pairs; generator = new.generator; failed = true }

-- The socket had failed, and nothing changes.
pub record StaysFailed (old new : UserView) : Type 0 where
  pub had_failed : old.failed ≡ true
  pub same : new ≡ old

-- ---- a call, by its result

-- It has an answer; or an allocation failed in it; or one had failed before.
abbrev pub ByFault : {A : Type 0} → (A → Type 0) → Type 0 → Type 0 → Result A SocketFault → Type 0
ByFault Answered RunsOut HadFailed (Ok answer) = Answered answer
ByFault Answered RunsOut HadFailed (Err OutOfMemory) = RunsOut
ByFault Answered RunsOut HadFailed (Err Failed) = HadFailed

-- It was made; or an allocation failed in it, and this is left; or the socket had failed, and nothing changes.
abbrev pub Calls : {A : Type 0} → (A → Type 0) → (List Transition → Type 0) → (UserView → UserView → Type 0) → UserView → Result A SocketFault → UserView → Type 0
Calls IsAnswer AreTurns Leaves old result new = ByFault (λ answer. MakesCall IsAnswer AreTurns old answer new) (Leaves old new) (StaysFailed old new) result

-- a call that has nothing to answer
abbrev pub NoAnswer : Unit {0} → Type 0
NoAnswer done = Unit {0}

-- A call of the user. If an allocation fails, the first of its events may have been added.
abbrev pub UserCalls : {A : Type 0} → CallContent → (A → Type 0) → UserView → Result A SocketFault → UserView → Type 0
UserCalls call IsAnswer old result new = Calls IsAnswer (UserTurns old.endpoint call) (RanOutOfMemory (UserTurns old.endpoint call)) old result new

-- A call of the user. If an allocation fails, none of its events was added.
abbrev pub UserCallsWhole : {A : Type 0} → CallContent → (A → Type 0) → UserView → Result A SocketFault → UserView → Type 0
UserCallsWhole call IsAnswer old result new = Calls IsAnswer (UserTurns old.endpoint call) FailsWhole old result new

-- ---- the calls

abbrev pub HandlesInput : UserView → List ℕ → Result (Unit {0}) SocketFault → UserView → Type 0
HandlesInput old packet result new = Calls NoAnswer (HandleInput old.endpoint packet) (RanOutOfMemory (FirstOfCall old.endpoint packet)) old result new

abbrev pub Connects : UserView → Result (Unit {0}) SocketFault → UserView → Type 0
Connects old result new = UserCallsWhole connect_call NoAnswer old result new

abbrev pub ClosesSocket : UserView → Result (Unit {0}) SocketFault → UserView → Type 0
ClosesSocket old result new = UserCalls close_call NoAnswer old result new

abbrev pub ShutsDown : UserView → Result (Unit {0}) SocketFault → UserView → Type 0
ShutsDown old result new = UserCalls shutdown_call NoAnswer old result new

-- does the user's shutdown change anything?
abbrev pub takes_shutdown_by_phase : OpenPhase → Bool
takes_shutdown_by_phase established = true
takes_shutdown_by_phase phase = false

abbrev pub takes_shutdown : Core → Bool
takes_shutdown closed = false
takes_shutdown (cookie_wait my) = true
takes_shutdown (cookie_echoed my held cookie) = true
takes_shutdown (open_in phase my held) = takes_shutdown_by_phase phase

-- what a socket is to its user once this is set; no word is drawn
abbrev pub with_setting : Setting → UserView → UserView
with_setting setting view = record view { endpoint = endpoint_with setting view.endpoint; words = []; pairs = [] }

-- It is set, and nothing else changes.
pub record IsSet (setting : Setting) (old new : UserView) : Type 0 where
  pub runs : old.failed ≡ false
  pub only : new ≡ with_setting setting old

abbrev pub Sets : Setting → UserView → Result (Unit {0}) SocketFault → UserView → Type 0
Sets setting old result new = ByFault (λ done. IsSet setting old new) (FailsWhole old new) (StaysFailed old new) result

-- what waits to be sent on this stream, and how it is set
abbrev pub stream_shown : UserView → ℕ → send_streams.Stream
stream_shown view id = queue_stream view.endpoint.queues.queue id

-- The event that was added first is taken, and nothing else changes.
abbrev pub PollsEvent : UserView → Option SocketEvent → UserView → Type 0
PollsEvent old None new = (old.events ≡ []) × (new ≡ old)
PollsEvent old (Some event) new = (old.events ≡ event_content event ∷ new.events) × (new ≡ record old { events = new.events })

-- The same, but that a packet has 0 in the place of its checksum.
abbrev pub PollsCleared : UserView → Option SocketEvent → UserView → Type 0
PollsCleared old None new = PollsEvent old None new
PollsCleared old (Some event) new =
    (first : Event (List ℕ)) × (old.events ≡ first ∷ new.events) × (event_content event ≡ cleared_event first)
    × (new ≡ record old { events = new.events })

-- is there an association?
abbrev pub is_closed : Core → Bool
is_closed closed = true
is_closed (cookie_wait my) = false
is_closed (cookie_echoed my held cookie) = false
is_closed (open_in phase my held) = false

-- the state that the user sees
abbrev pub open_state : OpenPhase → SocketState
open_state established = states.Connected
open_state shutdown_pending = states.ShuttingDown
open_state shutdown_sent = states.ShuttingDown
open_state shutdown_received = states.ShuttingDown
open_state shutdown_ack_sent = states.ShuttingDown

abbrev pub socket_state_of : Core → SocketState
socket_state_of closed = states.Closed
socket_state_of (cookie_wait my) = states.Connecting
socket_state_of (cookie_echoed my held cookie) = states.Connecting
socket_state_of (open_in phase my held) = open_state phase
