-- What the user of a socket sends and resets, in one list.
use Rattle.std.proofs.Common.{◌≡◌, ℕ, List, [], ◌∷◌, ◌++◌, map, refl, sym, ap, ◌∙◌, append_assoc}
use Rattle.dcsctp_channel_calls.specs.api.types.queues.Messages.{MessageContent}
use Rattle.dcsctp_channel_calls.specs.api.spec.endpoint.CallTurns.{Transition, after_all}
use Rattle.dcsctp_channel_calls.specs.api.spec.endpoint.Endpoint.{Endpoint}
use Rattle.dcsctp_channel_calls.specs.api.spec.endpoint.MessageOutcomes.{Sending}
use Rattle.dcsctp_channel_calls.specs.api.spec.endpoint.Turn.{Input, arrival, refusal, packet_begins, chunk_input, packet_ends, act_input, user_sets, user_sends, user_resets, user_takes, timer_expires, time_passes, restores}
use Rattle.dcsctp_delivery_sockets.specs.sockets.UserMessages.{accepted_as, sent_as, message_sent, sendings_of_turns}

-- a message that the socket accepted, or a call that resets streams
pub data Deed : Type 0 where
  sends : Sending → Deed
  asks : List ℕ → Deed

abbrev pub deeds_of_input : Endpoint → Input → List Deed
deeds_of_input e (user_sends sendings) = map sends (accepted_as (λ sending. sending) e sendings)
deeds_of_input e (user_resets ids) = asks ids ∷ []
deeds_of_input e input = []

abbrev pub deeds_of_turns : Endpoint → List Transition → List Deed
deeds_of_turns e [] = []
deeds_of_turns e (turn ∷ turns) = deeds_of_input e turn.input ++ deeds_of_turns turn.outcome.after turns

pub deeds-append : (e : Endpoint) (xs ys : List Transition) → deeds_of_turns e (xs ++ ys) ≡ deeds_of_turns e xs ++ deeds_of_turns (after_all e xs) ys
deeds-append e [] ys = refl
deeds-append e (t ∷ xs) ys =
    ap (λ (l : List Deed). deeds_of_input e t.input ++ l) (deeds-append t.outcome.after xs ys)
    ∙ sym (append_assoc (deeds_of_input e t.input) (deeds_of_turns t.outcome.after xs) (deeds_of_turns (after_all t.outcome.after xs) ys))

-- ---- the messages alone

abbrev pub sendings_in : List Deed → List Sending
sendings_in [] = []
sendings_in (sends one ∷ deeds) = one ∷ sendings_in deeds
sendings_in (asks ids ∷ deeds) = sendings_in deeds

abbrev pub messages_in : List Deed → List MessageContent
messages_in [] = []
messages_in (sends one ∷ deeds) = one.message ∷ messages_in deeds
messages_in (asks ids ∷ deeds) = messages_in deeds

pub messages_are_sent : (deeds : List Deed) → messages_in deeds ≡ map message_sent (sendings_in deeds)
messages_are_sent [] = refl
messages_are_sent (sends one ∷ deeds) = ap (λ (l : List MessageContent). one.message ∷ l) (messages_are_sent deeds)
messages_are_sent (asks ids ∷ deeds) = messages_are_sent deeds

pub sendings_in-append : (xs ys : List Deed) → sendings_in (xs ++ ys) ≡ sendings_in xs ++ sendings_in ys
sendings_in-append [] ys = refl
sendings_in-append (sends one ∷ xs) ys = ap (λ (l : List Sending). one ∷ l) (sendings_in-append xs ys)
sendings_in-append (asks ids ∷ xs) ys = sendings_in-append xs ys

all_sent : (sendings : List Sending) → sendings_in (map sends sendings) ≡ sendings
all_sent [] = refl
all_sent (one ∷ sendings) = ap (λ (l : List Sending). one ∷ l) (all_sent sendings)

input_sendings : (e : Endpoint) (input : Input) → sendings_in (deeds_of_input e input) ≡ sent_as (λ sending. sending) e input
input_sendings e arrival = refl
input_sendings e (refusal text) = refl
input_sendings e (packet_begins contents) = refl
input_sendings e (chunk_input tag content) = refl
input_sendings e packet_ends = refl
input_sendings e (act_input act) = refl
input_sendings e (user_sets setting) = refl
input_sendings e (user_sends sendings) = all_sent (accepted_as (λ sending. sending) e sendings)
input_sendings e (user_resets ids) = refl
input_sendings e user_takes = refl
input_sendings e (timer_expires timer) = refl
input_sendings e (time_passes moment) = refl
input_sendings e (restores state) = refl

pub sendings_are : (e : Endpoint) (turns : List Transition) → sendings_in (deeds_of_turns e turns) ≡ sendings_of_turns e turns
sendings_are e [] = refl
sendings_are e (turn ∷ turns) =
    sendings_in-append (deeds_of_input e turn.input) (deeds_of_turns turn.outcome.after turns)
    ∙ ap (λ (l : List Sending). l ++ sendings_in (deeds_of_turns turn.outcome.after turns)) (input_sendings e turn.input)
    ∙ ap (λ (l : List Sending). sent_as (λ sending. sending) e turn.input ++ l) (sendings_are turn.outcome.after turns)
