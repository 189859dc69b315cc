-- The messages that a call sends and reads are those that its answer says.
use Rattle.std.proofs.Common.{◌≡◌, ◌==◌, ℕ, ◌+◌, ◌<◌, Bool, true, false, Option, None, Some, Result, Ok, Err, List, [], ◌∷◌, ◌++◌, length, map, refl, sym, ap, ◌∙◌, arith}
use Rattle.std.specs.Prelude.{if◌then◌else◌}
use Rattle.std.proofs.lemmas.Bool.Decides.{nat_tests}
use Rattle.std.proofs.lemmas.List.{append-nil}
use Rattle.dcsctp_core.specs.types.declared.ends.AbortReason.TheVariants.{CloseCalled}
use Rattle.dcsctp_core.specs.types.declared.message.Message.{Message}
use Rattle.dcsctp_core.specs.types.declared.message.SendOptions.{SendOptions}
use Rattle.dcsctp_core.specs.spec.endpoint.CallTurns.{Transition, Turns}
use Rattle.dcsctp_core.specs.spec.endpoint.Endpoint.{Endpoint}
use Rattle.dcsctp_core.specs.spec.Handover.{readiness_of}
use Rattle.dcsctp_core.specs.types.Schedule.{CallContent, connect_call, close_call, shutdown_call, advance_call, set_call, send_call, send_many_call, reset_call, take_call, hand_over_call}
use Rattle.dcsctp_core.specs.spec.HandoverInputs.{inputs_of_handover}
use Rattle.dcsctp_core.specs.spec.endpoint.UserTurns.{UserTurns}
use Rattle.dcsctp_core.specs.spec.endpoint.Turn.{Input, act_input, user_sets, user_sends, user_resets, user_takes}
use Rattle.dcsctp_core.specs.spec.association.Acts.{connect, shut_down, abort_with}
use Rattle.dcsctp_core.specs.types.queues.Messages.{MessageContent}
use Rattle.dcsctp_core.specs.spec.endpoint.MessageOutcomes.{MessageRefusal, Sending, sending_of, sending_refusal, queue_one, RefusedMessage, refused_message_at_place, refused_from, message_refusal}
use Rattle.dcsctp_core.specs.api.declared.errors.BatchSendError.{BatchSendError}
use Rattle.dcsctp_core.specs.api.Messages.{IsBatchAnswer, ready_messages, IsFirstMessage}
use Rattle.dcsctp_delivery_sockets.specs.sockets.UserMessages.{accepted_unless_refused, accepted_messages, messages_of_input, messages_of_turns, first_readable, messages_read_of_input, read_of}
use Rattle.dcsctp_world.specs.declared.act.Reply.{Reply}
use Rattle.dcsctp_world.specs.declared.act.Reply.TheVariants.{NoCall, Done, Sent, SentMany, Reset, Taken, HandedOver, Restored}
use Rattle.dcsctp_world.specs.Growth.{IsSent, IsSentMany, IsTaken, IsCallReply}
use Rattle.dcsctp_world.specs.Messages.{refused_of_many, is_place_refused, other_unless_refused, others_from, sent_if, sent_among, messages_of_call, taken_messages, messages_read_of_call}
use Rattle.dcsctp_world.proofs.QuietTurns.{turns_quiet, advance_quiet, handover_quiet}

-- ---- several messages

refused_here : (place : ℕ) (refusal : MessageRefusal) (rest : List RefusedMessage) → is_place_refused place (refused_message_at_place place (Some refusal) ++ rest) ≡ true
refused_here place refusal rest = let same : (place == place) ≡ true = grind (arith, nat_tests) in grind arith

not_refused_there : (before place : ℕ) (refusal : Option MessageRefusal) (rest : List RefusedMessage) → before < place → is_place_refused before rest ≡ false
    → is_place_refused before (refused_message_at_place place refusal ++ rest) ≡ false
not_refused_there before place None rest earlier none = none
not_refused_there before place (Some refusal) rest earlier none = let apart : (place == before) ≡ false = grind (arith, nat_tests) in grind arith

-- those behind a place say nothing of it
not_refused_before : (before place : ℕ) (e : Endpoint) (sendings : List Sending) → before < place → is_place_refused before (refused_from place e sendings) ≡ false
not_refused_before before place e [] earlier = refl
not_refused_before before place e (sending ∷ sendings) earlier =
    not_refused_there before place (sending_refusal e sending) (refused_from (place + 1) (queue_one e sending).after sendings) earlier
    (not_refused_before before (place + 1) (queue_one e sending).after sendings (omega (arith, earlier)))

-- nor does one before it
others_skip : (before place : ℕ) (refusal : Option MessageRefusal) (rest : List RefusedMessage) (messages : List MessageContent) → before < place
    → others_from place (refused_message_at_place before refusal ++ rest) messages ≡ others_from place rest messages
others_skip before place None rest messages earlier = refl
others_skip before place (Some refusal) rest [] earlier = refl
others_skip before place (Some refusal) rest (message ∷ messages) earlier =
    let apart : (before == place) ≡ false = grind (arith, nat_tests) in
    let same : is_place_refused place (refused_message_at_place before (Some refusal) ++ rest) ≡ is_place_refused place rest = grind arith in
    ap (λ (b : Bool). (if b then [] else message ∷ []) ++ others_from (place + 1) (refused_message_at_place before (Some refusal) ++ rest) messages) same
    ∙ ap (λ (l : List MessageContent). other_unless_refused place rest message ++ l) (others_skip before (place + 1) (Some refusal) rest messages (omega (arith, earlier)))

-- the first of them, and the others
accepted_first : (place : ℕ) (refusal : Option MessageRefusal) (rest : List RefusedMessage) (message : MessageContent) (messages others : List MessageContent)
    → is_place_refused place rest ≡ false → others_from (place + 1) rest messages ≡ others
    → others_from place (refused_message_at_place place refusal ++ rest) (message ∷ messages) ≡ accepted_unless_refused refusal message others
accepted_first place None rest message messages others none is =
    ap (λ (b : Bool). (if b then [] else message ∷ []) ++ others_from (place + 1) rest messages) none ∙ ap (λ (l : List MessageContent). message ∷ l) is
accepted_first place (Some refusal) rest message messages others none is =
    ap (λ (b : Bool). (if b then [] else message ∷ []) ++ others_from (place + 1) (refused_message_at_place place (Some refusal) ++ rest) messages) (refused_here place refusal rest)
    ∙ others_skip place (place + 1) (Some refusal) rest messages (omega arith) ∙ is

accepted_are_others : (options : SendOptions) (messages : List MessageContent) (place : ℕ) (e : Endpoint)
    → others_from place (refused_from place e (map (sending_of options) messages)) messages ≡ accepted_messages e (map (sending_of options) messages)
accepted_are_others options [] place e = refl
accepted_are_others options (message ∷ messages) place e =
    let next : Endpoint = (queue_one e (sending_of options message)).after in
    accepted_first place (sending_refusal e (sending_of options message)) (refused_from (place + 1) next (map (sending_of options) messages)) message messages
    (accepted_messages next (map (sending_of options) messages)) (not_refused_before place (place + 1) next (map (sending_of options) messages) (omega arith))
    (accepted_are_others options messages (place + 1) next)

refused_are : (refused : List RefusedMessage) (answer : Result (Unit {0}) BatchSendError) → IsBatchAnswer refused answer → refused ≡ refused_of_many answer
refused_are refused (Ok done) is = is
refused_are refused (Err error) is = sym is.0

-- ---- one turn

sent_alone : (e : Endpoint) (sendings : List Sending) (turns : List Transition) → Turns e (user_sends sendings ∷ []) turns → (messages_of_turns e turns ≡ accepted_messages e sendings) × (read_of e turns ≡ [])
sent_alone e sendings [] taken = absurd taken
sent_alone e sendings (t ∷ []) taken = (
  ap (λ (i : Input). messages_of_input e i ++ []) taken.0.is ∙ append-nil (accepted_messages e sendings),
  ap (λ (i : Input). messages_read_of_input e i ++ []) taken.0.is,
)
sent_alone e sendings (t ∷ next ∷ turns) taken = absurd taken.1

read_alone : (e : Endpoint) (turns : List Transition) → Turns e (user_takes ∷ []) turns → (messages_of_turns e turns ≡ []) × (read_of e turns ≡ first_readable (ready_messages e))
read_alone e [] taken = absurd taken
read_alone e (t ∷ []) taken = (
  ap (λ (i : Input). messages_of_input e i ++ []) taken.0.is,
  ap (λ (i : Input). messages_read_of_input e i ++ []) taken.0.is ∙ append-nil (first_readable (ready_messages e)),
)
read_alone e (t ∷ next ∷ turns) taken = absurd taken.1

-- ---- by what is answered

said_if : (refusal : Option MessageRefusal) (message : MessageContent) (reply : Reply) → IsSent refusal reply → accepted_unless_refused refusal message [] ≡ sent_if message reply
said_if refusal message (Sent (Ok done)) is = ap (λ (r : Option MessageRefusal). accepted_unless_refused r message []) (sym is)
said_if refusal message (Sent (Err error)) is = ap (λ (r : Option MessageRefusal). accepted_unless_refused r message []) (sym is)
said_if refusal message NoCall is = absurd is
said_if refusal message Done is = absurd is
said_if refusal message (SentMany answer) is = absurd is
said_if refusal message (Reset answer) is = absurd is
said_if refusal message (Taken taken) is = absurd is
said_if refusal message (HandedOver answer) is = absurd is
said_if refusal message (Restored answer) is = absurd is

said_among : (e : Endpoint) (options : SendOptions) (messages : List MessageContent) (reply : Reply) → IsSentMany (refused_from 0 e (map (sending_of options) messages)) reply
    → accepted_messages e (map (sending_of options) messages) ≡ sent_among messages reply
said_among e options messages (SentMany answer) is =
    sym (accepted_are_others options messages 0 e)
    ∙ ap (λ (l : List RefusedMessage). others_from 0 l messages) (refused_are (refused_from 0 e (map (sending_of options) messages)) answer is)
said_among e options messages NoCall is = absurd is
said_among e options messages Done is = absurd is
said_among e options messages (Sent answer) is = absurd is
said_among e options messages (Reset answer) is = absurd is
said_among e options messages (Taken taken) is = absurd is
said_among e options messages (HandedOver answer) is = absurd is
said_among e options messages (Restored answer) is = absurd is

said_first : (ready : List MessageContent) (taken : Option Message) → IsFirstMessage ready taken → first_readable ready ≡ taken_messages (Taken taken)
said_first ready None is = ap first_readable is
said_first ready (Some message) is = ap first_readable is.1

said_taken : (ready : List MessageContent) (reply : Reply) → IsTaken ready reply → first_readable ready ≡ taken_messages reply
said_taken ready (Taken taken) is = said_first ready taken is
said_taken ready NoCall is = absurd is
said_taken ready Done is = absurd is
said_taken ready (Sent answer) is = absurd is
said_taken ready (SentMany answer) is = absurd is
said_taken ready (Reset answer) is = absurd is
said_taken ready (HandedOver answer) is = absurd is
said_taken ready (Restored answer) is = absurd is

-- ---- a call

-- What these turns send and read is what the answer of this call says.
pub record AreSaid (e : Endpoint) (call : CallContent) (reply : Reply) (turns : List Transition) : Type 0 where
  pub sent : messages_of_turns e turns ≡ messages_of_call call reply
  pub read : read_of e turns ≡ messages_read_of_call call reply

pub call_says : (e : Endpoint) (call : CallContent) (reply : Reply) (turns : List Transition) → UserTurns e call turns → IsCallReply e call reply → AreSaid e call reply turns
call_says e connect_call reply turns taken is = let h = turns_quiet e (act_input connect ∷ []) turns (tt, tt) taken in record { sent = h.sent; read = h.read }
call_says e close_call reply turns taken is = let h = turns_quiet e (act_input (abort_with CloseCalled) ∷ []) turns (tt, tt) taken in record { sent = h.sent; read = h.read }
call_says e shutdown_call reply turns taken is = let h = turns_quiet e (act_input shut_down ∷ []) turns (tt, tt) taken in record { sent = h.sent; read = h.read }
call_says e (advance_call moment) reply turns taken is = let h = advance_quiet e moment turns taken in record { sent = h.sent; read = h.read }
call_says e (set_call setting) reply turns taken is = let h = turns_quiet e (user_sets setting ∷ []) turns (tt, tt) taken in record { sent = h.sent; read = h.read }
call_says e (send_call message options) reply turns taken is =
    let h = sent_alone e (sending_of options message ∷ []) turns taken in
    record { sent = h.0 ∙ said_if (message_refusal e message.stream (length message.payload)) message reply is; read = h.1 }
call_says e (send_many_call messages options) reply turns taken is =
    let h = sent_alone e (map (sending_of options) messages) turns taken in
    record { sent = h.0 ∙ said_among e options messages reply is; read = h.1 }
call_says e (reset_call ids) reply turns taken is = let h = turns_quiet e (user_resets ids ∷ []) turns (tt, tt) taken in record { sent = h.sent; read = h.read }
call_says e take_call reply turns taken is =
    let h = read_alone e turns taken in
    record { sent = h.0; read = h.1 ∙ said_taken (ready_messages e) reply is }
call_says e hand_over_call reply turns taken is =
    let h = turns_quiet e (inputs_of_handover (readiness_of e)) turns (handover_quiet (readiness_of e)) taken in record { sent = h.sent; read = h.read }
