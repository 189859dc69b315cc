-- What is delivered in order, by the messages alone.
use Rattle.std.proofs.Common.{◌≡◌, ◌<◌, ℕ, zero, suc, Option, Some, None, List, [], ◌∷◌, ◌++◌, map, refl, sym, ap, subst, ◌∙◌}
use Rattle.std.specs.List.{AllByRecursion}
use Rattle.std.specs.Prelude.{false, slice_get}
use Rattle.dcsctp_delivery_sockets.specs.sockets.Ordered.{IsOrderedMessage, RiseOn, IsDeliveredInOrder}
use Rattle.dcsctp_delivery_sockets.specs.sockets.UserMessages.{accepted_unless_refused, accepted_as, sent_as, message_sent, messages_of_turns, sendings_of_turns, WereSent}
use Rattle.dcsctp_channel_calls.specs.api.types.queues.Messages.{MessageContent}
use Rattle.dcsctp_channel_calls.specs.api.spec.endpoint.CallTurns.{Transition}
use Rattle.dcsctp_channel_calls.specs.api.spec.endpoint.Endpoint.{Endpoint}
use Rattle.dcsctp_channel_calls.specs.api.spec.endpoint.MessageOutcomes.{MessageRefusal, Sending, sending_refusal, queue_one}
use Rattle.dcsctp_channel_calls.specs.api.spec.endpoint.Turn.{Input, arrival, refusal, packet_begins, chunk_input, packet_ends, act_input, user_sets, user_sends, user_resets, user_takes, timer_expires, time_passes, restores}
use Rattle.dcsctp_channel_runs.specs.Opened.{EachToLater, IsSaidBefore}
use Rattle.dcsctp_channel_runs.proofs.Picking.{each_other, DeliveredSo}
use Rattle.dcsctp_channel_runs.proofs.Matching.{LeadsOnStream}

-- ---- messages are those of what was sent

map-append : (xs ys : List Sending) → map message_sent (xs ++ ys) ≡ map message_sent xs ++ map message_sent ys
map-append [] ys = refl
map-append (x ∷ xs) ys = ap (λ (l : List MessageContent). x.message ∷ l) (map-append xs ys)

unless_refused : (refused : Option MessageRefusal) (one : Sending) (messages : List MessageContent) (sendings : List Sending) → messages ≡ map message_sent sendings
    → accepted_unless_refused refused one.message messages ≡ map message_sent (accepted_unless_refused refused one sendings)
unless_refused None one messages sendings same = ap (λ (l : List MessageContent). one.message ∷ l) same
unless_refused (Some reason) one messages sendings same = same

accepted_same : (e : Endpoint) (sendings : List Sending) → accepted_as message_sent e sendings ≡ map message_sent (accepted_as (λ sending. sending) e sendings)
accepted_same e [] = refl
accepted_same e (one ∷ sendings) =
    unless_refused (sending_refusal e one) one (accepted_as message_sent (queue_one e one).after sendings) (accepted_as (λ sending. sending) (queue_one e one).after sendings) (accepted_same (queue_one e one).after sendings)

input_same : (e : Endpoint) (input : Input) → sent_as message_sent e input ≡ map message_sent (sent_as (λ sending. sending) e input)
input_same e arrival = refl
input_same e (refusal text) = refl
input_same e (packet_begins contents) = refl
input_same e (chunk_input tag content) = refl
input_same e packet_ends = refl
input_same e (act_input act) = refl
input_same e (user_sets setting) = refl
input_same e (user_sends sendings) = accepted_same e sendings
input_same e (user_resets ids) = refl
input_same e user_takes = refl
input_same e (timer_expires timer) = refl
input_same e (time_passes moment) = refl
input_same e (restores state) = refl

pub messages_are : (e : Endpoint) (turns : List Transition) → messages_of_turns e turns ≡ map message_sent (sendings_of_turns e turns)
messages_are e [] = refl
messages_are e (turn ∷ turns) =
    ap (λ (l : List MessageContent). l ++ messages_of_turns turn.outcome.after turns) (input_same e turn.input)
    ∙ ap (λ (l : List MessageContent). map message_sent (sent_as (λ sending. sending) e turn.input) ++ l) (messages_are turn.outcome.after turns)
    ∙ sym (map-append (sent_as (λ sending. sending) e turn.input) (sendings_of_turns turn.outcome.after turns))

-- ---- ordered messages of a stream rise

-- The one place is before the other where both are of ordered messages of one stream.
abbrev pub IsBeforeOnStream : List Sending → ℕ → ℕ → Type 0
IsBeforeOnStream sent place later = (stream : ℕ) → IsOrderedMessage sent stream place → IsOrderedMessage sent stream later → place < later

pub rise_each : (sent : List Sending) (places : List ℕ) → ((stream : ℕ) → RiseOn sent stream places) → EachToLater (IsBeforeOnStream sent) places
rise_each sent [] rise = tt
rise_each sent (place ∷ places) rise = ((λ later has stream one other. (rise stream).0 later has one other), rise_each sent places (λ stream. (rise stream).1))

abbrev pub delivered_in_order : (sent : List Sending) (messages read : List MessageContent) → messages ≡ map message_sent sent → IsDeliveredInOrder sent read → DeliveredSo (IsBeforeOnStream sent) messages read
delivered_in_order sent messages read same delivered =
    record {
      places = delivered.places;
      were_sent = subst (λ (l : List MessageContent). WereSent l delivered.places read) (sym same) delivered.were_sent;
      stand = rise_each sent delivered.places delivered.in_order;
      apart = each_other delivered.places delivered.once;
    }

-- Each message of the stream is ordered.
abbrev pub AreOrderedOn : ℕ → List Sending → Type 0
AreOrderedOn number sent = AllByRecursion (λ sending. sending.message.stream ≡ number → sending.options.unordered ≡ false) sent

pub all_ordered_on : (number : ℕ) (sent : List Sending) → AllByRecursion (λ sending. sending.options.unordered ≡ false) sent → AreOrderedOn number sent
all_ordered_on number [] all = tt
all_ordered_on number (first ∷ sent) all = ((λ on. all.0), all_ordered_on number sent all.1)

pub ordered_on : (sent : List Sending) (place number : ℕ) (m : MessageContent) → AreOrderedOn number sent → slice_get (map message_sent sent) place ≡ Some m → m.stream ≡ number → IsOrderedMessage sent number place
ordered_on [] place number m all at on = absurd cc
ordered_on (first ∷ sent) zero number m all at on =
    let same : first.message ≡ m = cc in
    let there : first.message.stream ≡ number = ap (λ (c : MessageContent). c.stream) same ∙ on in
    record { sending = first; at = refl; on = there; ordered = all.0 there }
ordered_on (first ∷ sent) (suc place) number m all at on =
    let later = ordered_on sent place number m all.1 at on in record { sending = later.sending; at = later.at; on = later.on; ordered = later.ordered }

pub leads_on_stream : (sent : List Sending) (messages : List MessageContent) (number : ℕ) → messages ≡ map message_sent sent → AreOrderedOn number sent → LeadsOnStream messages number (IsBeforeOnStream sent) IsSaidBefore
leads_on_stream sent messages number same all place other index more m n at there on on_there apart rise stands =
    let here : slice_get (map message_sent sent) place ≡ Some m = subst (λ (l : List MessageContent). slice_get l place ≡ Some m) same at in
    let later : slice_get (map message_sent sent) other ≡ Some n = subst (λ (l : List MessageContent). slice_get l other ≡ Some n) same there in
    rise (stands number (ordered_on sent place number m all here on) (ordered_on sent other number n all later on_there))
