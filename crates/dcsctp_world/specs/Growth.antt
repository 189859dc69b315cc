-- How one side grows in an act.
use Rattle.std.specs.Prelude.{◌≡◌, ℕ, zero, suc, Bool, true, false, Option, None, Some, Result, Ok, List, [], ◌∷◌, ◌++◌, ◌⊎◌, map, length}
use Rattle.rand_core.specs.Stream.{Stream}
use Rattle.dcsctp_core.specs.types.ByResult.{ByResult}
use Rattle.dcsctp_core.specs.types.Schedule.{CallContent, connect_call, close_call, shutdown_call, ActContent, call_step, delivery_step, step_act, advance_call, set_call, send_call, send_many_call, reset_call, take_call, hand_over_call, OutsideContent, input_outside, handover_outside, restore_outside, outside_act}
use Rattle.dcsctp_core.specs.spec.endpoint.Event.{Event, packets_of_events}
use Rattle.dcsctp_core.specs.spec.endpoint.Endpoint.{Endpoint, Core, association_of}
use Rattle.dcsctp_core.specs.spec.Handover.{readiness_of}
use Rattle.dcsctp_core.specs.types.Snapshot.{is_valid_snapshot}
use Rattle.dcsctp_core.specs.types.Settings.{ports_of}
use Rattle.dcsctp_core.specs.spec.endpoint.CallTurns.{Transition, after_all, words_of, events_of, pairs_of}
use Rattle.dcsctp_spec_runs.specs.Sockets.{packet_at_number}
use Rattle.dcsctp_core.specs.api.declared.errors.SocketFault.{SocketFault}
use Rattle.dcsctp_core.specs.api.Calls.{UserView, user_event, DrawsWords, ByFault, Calls}
use Rattle.dcsctp_core.specs.api.Handover.{IsHandoverAnswer, IsRestoreAnswer}
use Rattle.dcsctp_core.specs.api.Messages.{refusal_of_answer, IsBatchAnswer, ready_messages, IsFirstMessage}
use Rattle.dcsctp_core.specs.api.Resets.{reset_refusal_of_answer}
use Rattle.dcsctp_core.specs.types.queues.Messages.{MessageContent}
use Rattle.dcsctp_core.specs.spec.endpoint.MessageOutcomes.{MessageRefusal, message_refusal, sending_of, RefusedMessage, refused_from}
use Rattle.dcsctp_core.specs.spec.endpoint.PreparedResets.{ResetRefusal, reset_refusal}
use Rattle.dcsctp_delivery_sockets.specs.sockets.UserMessages.{messages_of_turns, read_of}
use Rattle.dcsctp_world.specs.declared.act.Reply.{Reply}
use Rattle.dcsctp_world.specs.declared.act.Reply.TheVariants.{NoCall, Done, Sent, SentMany, Reset, Taken, HandedOver, Restored}
use Rattle.dcsctp_socket.specs.SocketView.{user_view_of}
use Rattle.dcsctp_world.specs.Shown.{ShownSide}

-- The new list begins with the old one.
pub record Extends {A : Type 0} (old new : List A) : Type 0 where
  pub added : List A
  pub behind : new ≡ old ++ added

-- The new list is the old one with the first part of these after it.
pub record AppendsFirst {A : Type 0} (all old new : List A) : Type 0 where
  pub added : List A
  pub rest : List A
  pub behind : new ≡ old ++ added
  pub front : all ≡ added ++ rest

-- ---- events and packets that are kept

pub record KeptOutput : Type 0 where
  pub events : List (Event (List ℕ))
  pub packets : List (List ℕ)

-- these events too, with their packets
abbrev pub with_events : List (Event (List ℕ)) → KeptOutput → KeptOutput
with_events added kept = record { events = kept.events ++ added; packets = kept.packets ++ packets_of_events added }

-- The first of these events, and of their packets, were kept. A packet is kept before its event, so it may be there without its
-- event if an allocation failed.
pub record KeepsFront (all : List (Event (List ℕ))) (old new : KeptOutput) : Type 0 where
  pub events : AppendsFirst all old.events new.events
  pub packets : AppendsFirst (packets_of_events all) old.packets new.packets

-- These events were kept, with their packets; or an allocation failed, and they were kept in part.
abbrev pub KeepsEvents : {E : Type 0} → List (Event (List ℕ)) → KeptOutput → Result (Unit {0}) E → KeptOutput → Type 0
KeepsEvents added old result new = ByResult (λ done. new ≡ with_events added old) (KeepsFront added old new) result

-- All events that wait in a socket were taken and kept, and nothing else of it changed. Or an allocation failed, and they were
-- kept in part.
abbrev pub TakesAll : {E : Type 0} → UserView → KeptOutput → Result (Unit {0}) E → UserView → KeptOutput → Type 0
TakesAll old kept_before result new kept_now =
    ByResult (λ done. (new ≡ record old { events = [] }) × (kept_now ≡ with_events old.events kept_before))
    (KeepsFront old.events kept_before kept_now) result

-- ---- a side

-- The events that wait in the socket are taken and kept, with the words and pairs of the last call. All else is unchanged.
pub record CollectsWaiting {R : Type 0} (stream : R → Stream) (old new : ShownSide R) : Type 0 where
  pub socket : user_view_of stream new.socket ≡ record (user_view_of stream old.socket) { events = [] }
  pub options : new.options ≡ old.options
  pub events : new.events ≡ old.events ++ old.socket.view.events
  pub packets : new.packets ≡ old.packets ++ packets_of_events old.socket.view.events
  pub words : new.words ≡ old.words ++ old.socket.view.words
  pub pairs : new.pairs ≡ old.pairs ++ old.socket.view.pairs
  pub sent : new.sent ≡ old.sent
  pub read : new.read ≡ old.read
  pub associations : new.associations ≡ old.associations

-- The first of what waits in the socket, and of the words and pairs of the last call, were kept.
pub record CollectsFront {R : Type 0} (old new : ShownSide R) : Type 0 where
  pub options : new.options ≡ old.options
  pub events : AppendsFirst old.socket.view.events old.events new.events
  pub packets : AppendsFirst (packets_of_events old.socket.view.events) old.packets new.packets
  pub words : AppendsFirst old.socket.view.words old.words new.words
  pub pairs : AppendsFirst old.socket.view.pairs old.pairs new.pairs
  pub sent : new.sent ≡ old.sent
  pub read : new.read ≡ old.read
  pub associations : new.associations ≡ old.associations

-- What waited was collected; or an allocation failed, and it was collected in part.
abbrev pub CollectsAll : {R E : Type 0} → (R → Stream) → ShownSide R → Result (Unit {0}) E → ShownSide R → Type 0
CollectsAll stream old result new = ByResult (λ done. CollectsWaiting stream old new) (CollectsFront old new) result

-- these turns' events as the user of this side sees them
abbrev pub events_for_user : {R : Type 0} → ShownSide R → List Transition → List (Event (List ℕ))
events_for_user side turns = map (user_event (ports_of side.socket.view.endpoint.options)) (events_of turns)

-- a call was made
abbrev pub WasCalled : Reply → Type 0
WasCalled NoCall = ⊥
WasCalled Done = Unit {0}
WasCalled (Sent answer) = Unit {0}
WasCalled (SentMany answer) = Unit {0}
WasCalled (Reset answer) = Unit {0}
WasCalled (Taken message) = Unit {0}
WasCalled (HandedOver answer) = Unit {0}
WasCalled (Restored answer) = Unit {0}

-- Turns of this kind move the socket, and each list grows by what they show; no event waits. The words are what the generator
-- gave. If a call was made, its words and pairs are theirs; if none was, nothing changed.
pub record Grows {R : Type 0} (stream : R → Stream) (Turns : List Transition → Type 0) (answer : Reply) (old new : ShownSide R) : Type 0 where
  pub turns : List Transition
  pub are : Turns turns
  pub endpoint : new.socket.view.endpoint ≡ after_all old.socket.view.endpoint turns
  pub failed : new.socket.failed ≡ old.socket.failed
  pub options : new.options ≡ old.options
  pub waiting : new.socket.view.events ≡ []
  pub events : new.events ≡ old.events ++ events_for_user old turns
  pub packets : new.packets ≡ old.packets ++ packets_of_events (events_for_user old turns)
  pub words : new.words ≡ old.words ++ words_of turns
  pub drawn : DrawsWords (stream old.socket.view.generator) (words_of turns) (stream new.socket.view.generator)
  pub pairs : new.pairs ≡ old.pairs ++ pairs_of turns
  pub sent : new.sent ≡ old.sent ++ messages_of_turns old.socket.view.endpoint turns
  pub read : new.read ≡ old.read ++ read_of old.socket.view.endpoint turns
  pub associations : new.associations ≡ old.associations
  pub last_words : WasCalled answer → new.socket.view.words ≡ words_of turns
  pub last_pairs : WasCalled answer → new.socket.view.pairs ≡ pairs_of turns
  pub idle : answer ≡ NoCall → new ≡ old

-- What a side shows grew by the first part of what these turns bring, and of its association after them. The options that its
-- socket was made with are unchanged.
pub record ShowsFront {R : Type 0} (turns : List Transition) (old new : ShownSide R) : Type 0 where
  pub options : new.options ≡ old.options
  pub events : AppendsFirst (events_for_user old turns) old.events new.events
  pub packets : AppendsFirst (packets_of_events (events_for_user old turns)) old.packets new.packets
  pub words : AppendsFirst (words_of turns) old.words new.words
  pub pairs : AppendsFirst (pairs_of turns) old.pairs new.pairs
  pub sent : AppendsFirst (messages_of_turns old.socket.view.endpoint turns) old.sent new.sent
  pub read : AppendsFirst (read_of old.socket.view.endpoint turns) old.read new.read
  pub associations : AppendsFirst (association_of (after_all old.socket.view.endpoint turns).core ∷ []) old.associations new.associations

-- An allocation failed while what such turns brought was kept, or before.
pub record StopsKeeping {R : Type 0} (Turns : List Transition → Type 0) (old new : ShownSide R) : Type 0 where
  pub turns : List Transition
  pub are : (turns ≡ []) ⊎ Turns turns
  pub shows : ShowsFront turns old new

-- A call of the user was made on a socket, by such turns, and its answer is such a reply. Or an allocation failed in it; or the
-- socket had failed, and nothing has changed.
abbrev pub MakesUserCall : (List Transition → Type 0) → (Reply → Type 0) → UserView → Result Reply SocketFault → UserView → Type 0
MakesUserCall Turns IsIt old result new = Calls (λ reply. IsIt reply × WasCalled reply) Turns (λ before after. before.failed ≡ false) old result new

-- An act was handled at its side, with such a reply. Or an allocation failed, in its socket or in what it shows; or the socket
-- had failed.
abbrev pub HandlesAct : {R : Type 0} → (R → Stream) → (List Transition → Type 0) → (Reply → Type 0) → ShownSide R → Result Reply SocketFault
    → ShownSide R → Type 0
HandlesAct stream Turns IsIt old result new =
    ByFault (λ answer. IsIt answer × Grows stream Turns answer old new) ((old.socket.failed ≡ false) × StopsKeeping Turns old new)
    (old.socket.failed ≡ true) result

-- Each list begins with what it held.
pub record SideExtends {R : Type 0} (old new : ShownSide R) : Type 0 where
  pub events : Extends old.events new.events
  pub packets : Extends old.packets new.packets
  pub words : Extends old.words new.words
  pub pairs : Extends old.pairs new.pairs
  pub sent : Extends old.sent new.sent
  pub read : Extends old.read new.read
  pub associations : Extends old.associations new.associations

-- the side with its association as it is now
abbrev pub with_association : {R : Type 0} → ShownSide R → ShownSide R
with_association side = record side { associations = side.associations ++ association_of side.socket.view.endpoint.core ∷ [] }

-- The association was recorded; or an allocation failed, and nothing has changed.
abbrev pub RecordsAssociation : {R E : Type 0} → ShownSide R → Result (Unit {0}) E → ShownSide R → Type 0
RecordsAssociation old result new = ByResult (λ done. new ≡ with_association old) (new ≡ old) result

-- ---- replies

-- It is what is answered if these bytes are to be handed in.
abbrev pub IsDeliveryReply : Option (List ℕ) → Reply → Type 0
IsDeliveryReply None reply = reply ≡ NoCall
IsDeliveryReply (Some bytes) reply = reply ≡ Done

-- It is what `send` answers if the message is refused so.
abbrev pub IsSent : Option MessageRefusal → Reply → Type 0
IsSent refusal (Sent answer) = refusal_of_answer answer ≡ refusal
IsSent refusal reply = ⊥

-- It is what `send_many` answers if these are refused.
abbrev pub IsSentMany : List RefusedMessage → Reply → Type 0
IsSentMany refused (SentMany answer) = IsBatchAnswer refused answer
IsSentMany refused reply = ⊥

-- It is what `reset_streams` answers if it is refused so.
abbrev pub IsReset : Option ResetRefusal → Reply → Type 0
IsReset refusal (Reset answer) = reset_refusal_of_answer answer ≡ refusal
IsReset refusal reply = ⊥

-- It is what `get_next_message` answers if these are ready.
abbrev pub IsTaken : List MessageContent → Reply → Type 0
IsTaken ready (Taken message) = IsFirstMessage ready message
IsTaken ready reply = ⊥

-- It is what `get_handover_state_and_close` answers.
abbrev pub IsHandedOver : Endpoint → Reply → Type 0
IsHandedOver e (HandedOver answer) = IsHandoverAnswer e answer
IsHandedOver e reply = ⊥

-- It is what a call of this endpoint's user answers.
abbrev pub IsCallReply : Endpoint → CallContent → Reply → Type 0
IsCallReply e connect_call reply = reply ≡ Done
IsCallReply e close_call reply = reply ≡ Done
IsCallReply e shutdown_call reply = reply ≡ Done
IsCallReply e (advance_call moment) reply = reply ≡ Done
IsCallReply e (set_call setting) reply = reply ≡ Done
IsCallReply e (send_call message options) reply = IsSent (message_refusal e message.stream (length message.payload)) reply
IsCallReply e (send_many_call messages options) reply = IsSentMany (refused_from 0 e (map (sending_of options) messages)) reply
IsCallReply e (reset_call ids) reply = IsReset (reset_refusal e) reply
IsCallReply e take_call reply = IsTaken (ready_messages e) reply
IsCallReply e hand_over_call reply = IsHandedOver e reply

-- It is what `restore_from_state` answers if the snapshot is valid. Else no call is made.
abbrev pub IsRestoreReply : Bool → Core → Reply → Type 0
IsRestoreReply true core (Restored answer) = IsRestoreAnswer core answer
IsRestoreReply true core reply = ⊥
IsRestoreReply false core reply = reply ≡ NoCall

-- It is what is answered if a socket of this readiness is handed over, and restored from its snapshot.
abbrev pub IsHandedOn : ℕ → Endpoint → Reply → Type 0
IsHandedOn zero e reply = reply ≡ Restored (Ok tt)
IsHandedOn (suc reasons) e reply = IsHandedOver e reply

-- It is what an act from outside answers.
abbrev pub IsOutsideReply : Endpoint → OutsideContent → Reply → Type 0
IsOutsideReply e (input_outside side bytes) reply = reply ≡ Done
IsOutsideReply e (handover_outside side) reply = IsHandedOn (readiness_of e) e reply
IsOutsideReply e (restore_outside side state) reply = IsRestoreReply (is_valid_snapshot e.options state) e.core reply

-- It is what an act answers from this endpoint, where the other side has emitted these packets.
abbrev pub IsReply : Endpoint → List (List ℕ) → ActContent → Reply → Type 0
IsReply e packets (step_act (call_step side call)) reply = IsCallReply e call reply
IsReply e packets (step_act (delivery_step side number)) reply = IsDeliveryReply (packet_at_number number packets) reply
IsReply e packets (outside_act outside) reply = IsOutsideReply e outside reply
