-- The turn of a call that sends messages, and what taking one does.
use Rattle.std.proofs.Common.{◌≡◌, ℕ, List, [], ◌∷◌, map, take, drop, length, refl, sym, ap, subst, ◌∙◌, Result, Ok, Err}
use Rattle.std.proofs.lemmas.List.{append-nil, take-append-drop}
use Rattle.rand_core.specs.Stream.{Stream}
use Rattle.dcsctp_core.specs.types.declared.message.SendOptions.{SendOptions}
use Rattle.dcsctp_core.specs.types.Settings.{ports_of}
use Rattle.dcsctp_core.specs.spec.endpoint.Event.{Event}
use Rattle.dcsctp_core.specs.spec.Packet.{Emission}
use Rattle.dcsctp_core.specs.types.queues.Messages.{MessageContent}
use Rattle.dcsctp_core.specs.spec.endpoint.Outcome.{Outcome}
use Rattle.dcsctp_core.specs.spec.endpoint.Turn.{user_sends}
use Rattle.dcsctp_core.specs.spec.endpoint.MessageOutcomes.{Sending, message_refusal, sending_of, refused_from}
use Rattle.dcsctp_core.specs.spec.endpoint.CallTurns.{Transition, transition, Turns}
use Rattle.dcsctp_core.specs.spec.endpoint.Endpoint.{Endpoint}
use Rattle.dcsctp_core.specs.types.Schedule.{send_call, send_many_call}
use Rattle.dcsctp_core.specs.api.declared.errors.BatchSendError.{BatchSendError}
use Rattle.dcsctp_core.specs.api.declared.errors.SendError.{SendError}
use Rattle.dcsctp_core.specs.api.Calls.{user_event}
use Rattle.dcsctp_core.specs.api.Messages.{IsBatchAnswer, IsSendAnswer, IsSendManyAnswer}
use Rattle.dcsctp_core.specs.declared.context.Context.{Context}
use Rattle.dcsctp_core.specs.View.{View, view_of, call_start}
use Rattle.dcsctp_core.specs.Handling.{TakesPossibleTurn, CutsSomeTurn}
use Rattle.dcsctp_core.proofs.Moving.{moves_one}
use Rattle.dcsctp_core_messages.specs.Sending.{SendsMessages, SendsOne, SendsAll}
use Rattle.dcsctp_socket_calls.specs.Parts.{MovesByCall, CutsTurns, MakesCallOfUser}

-- the turns of a call that sends these messages
abbrev SendTurns : List Sending → Endpoint → List Transition → Type 0
SendTurns messages e turns = Turns e (user_sends messages ∷ []) turns

-- ---- the one turn of the call

sent_at : {R : Type 0} (stream : R → Stream) (messages : List Sending) (old new : View R) → TakesPossibleTurn stream (SendsMessages messages) (call_start old) new
    → MovesByCall stream (SendTurns messages) old new
sent_at stream messages old new sent =
    let one : Transition = transition (user_sends messages) sent.outcome in
    record { turns = one ∷ []; are = (record { is = refl; comes = sent.turn }, tt); moves = moves_one stream (call_start old) new one sent.moves }

send_moved : {R : Type 0} (stream : R → Stream) (messages : List Sending) (old start new : View R) → start ≡ call_start old → TakesPossibleTurn stream (SendsMessages messages) start new
    → MovesByCall stream (SendTurns messages) old new
send_moved {R = R} stream messages old start new begins sent =
    sent_at stream messages old new (subst (λ (v : View R). TakesPossibleTurn stream (SendsMessages messages) v new) begins sent)

cut_at : {R : Type 0} (messages : List Sending) (old : View R) (events : List (Event (List ℕ))) → CutsSomeTurn (SendsMessages messages) (call_start old) events
    → CutsTurns (SendTurns messages) old events
cut_at messages old events cut =
    let o : Outcome = cut.outcome in
    let all : List (Event (List ℕ)) = map (user_event (ports_of old.endpoint.options)) o.events in
    record {
      turns = transition (user_sends messages) o ∷ [];
      are = (record { is = refl; comes = cut.turn }, tt);
      adds = record {
        added = take cut.cut.count all;
        rest = drop cut.cut.count all;
        behind = cut.cut.added;
        front = take-append-drop cut.cut.count all ∙ ap (λ (es : List (Event Emission)). map (user_event (ports_of old.endpoint.options)) es) (sym (append-nil o.events));
      };
    }

send_was_cut : {R : Type 0} (messages : List Sending) (old start : View R) (events : List (Event (List ℕ))) → start ≡ call_start old → CutsSomeTurn (SendsMessages messages) start events
    → CutsTurns (SendTurns messages) old events
send_was_cut {R = R} messages old start events begins cut = cut_at messages old events (subst (λ (v : View R). CutsSomeTurn (SendsMessages messages) v events) begins cut)

-- ---- the parts of the calls

pub works_send : {R E : Type 0} (stream : R → Stream) (message : MessageContent) (options : SendOptions) (old start new : Context R) (result : Result (Result (Unit {0}) SendError) E)
    → view_of start ≡ call_start (view_of old) → SendsOne stream (sending_of options message) start result new
    → MakesCallOfUser stream (send_call message options) (IsSendAnswer (view_of old).endpoint message) old result new
works_send {R = R} stream message options old start new (Ok answer) begins sent = (
  sent.0 ∙ ap (λ (view : View R). message_refusal view.endpoint message.stream (length message.payload)) begins,
  send_moved stream (sending_of options message ∷ []) (view_of old) (view_of start) (view_of new) begins sent.1,
)
works_send {R = R} stream message options old start new (Err error) begins cut =
    send_was_cut (sending_of options message ∷ []) (view_of old) (view_of start) (view_of new).events begins cut

pub works_send_many : {R E : Type 0} (stream : R → Stream) (messages : List MessageContent) (options : SendOptions) (old start new : Context R) (result : Result (Result (Unit {0}) BatchSendError) E)
    → view_of start ≡ call_start (view_of old) → SendsAll stream (map (sending_of options) messages) start result new
    → MakesCallOfUser stream (send_many_call messages options) (IsSendManyAnswer (view_of old).endpoint messages options) old result new
works_send_many {R = R} stream messages options old start new (Ok answer) begins sent = (
  subst (λ (view : View R). IsBatchAnswer (refused_from 0 view.endpoint (map (sending_of options) messages)) answer) begins sent.0,
  send_moved stream (map (sending_of options) messages) (view_of old) (view_of start) (view_of new) begins sent.1,
)
works_send_many {R = R} stream messages options old start new (Err error) begins cut =
    send_was_cut (map (sending_of options) messages) (view_of old) (view_of start) (view_of new).events begins cut
