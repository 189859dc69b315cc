-- What an end sends, and which streams it resets, one after another.
use Rattle.std.proofs.Common.{◌≡◌, ℕ, true, false, Some, List, [], ◌∷◌, ◌++◌}
use Rattle.dcsctp_delivery_directions.specs.sending.Places.{HasEntry}
use Rattle.dcsctp_delivery_directions.specs.sending.Queueing.{has_limits}
use Rattle.dcsctp_channel_calls.specs.api.types.declared.message.SendOptions.{SendOptions}
use Rattle.dcsctp_channel_calls.specs.api.spec.endpoint.MessageOutcomes.{Sending}
use Rattle.dcsctp_channel_calls.specs.messages.channel_spec.declared.types.Delivery.{Delivery}
use Rattle.dcsctp_channel_calls.specs.messages.channel_spec.declared.types.Reliability.TheVariants.{Reliable}
use Rattle.dcsctp_channel_calls.specs.Sending.{plainly}
use Rattle.dcsctp_channel_calls.specs.View.{LayerView}
use Rattle.dcsctp_channel_runs.specs.Acts.{OpenedChannel, SaidContent}
use Rattle.dcsctp_channel_runs.proofs.Deeds.{Deed, sends, asks}
use Rattle.dcsctp_channel_runs.proofs.Lasting.{closing_on, delivery_on}
use Rattle.dcsctp_channel_runs.proofs.Said.{IsAck, IsOpen, IsContent, IsNoted, AreSaidAfter, all_both, entry_before, entry_behind}
use Rattle.dcsctp_channel_runs.proofs.Streams.{IsOn, IsOnOrGone, IsToCome, to_come_before, KeepStreams, keep_then}

-- ---- how messages go

-- Messages go in order where the rules say so, and none may be abandoned where they say so.
pub record IsSentAs (how : SendOptions) (rules : Delivery) : Type 0 where
  pub ordered : rules.ordered ≡ true → how.unordered ≡ false
  pub reliable : rules.reliability ≡ Reliable → has_limits how ≡ false

-- The channel has this stream, with the rules of its OPEN.
pub record HasItsRules (layer : LayerView) (channel : OpenedChannel) (number : ℕ) : Type 0 where
  pub on : IsOn layer channel.name number
  pub rules : delivery_on layer number ≡ Some channel.opening.delivery

-- It is sent by the rules of its channel, which is open.
pub record IsSentByRules (one : Sending) (said : SaidContent) : Type 0 where
  pub on : IsOn said.after said.message.name one.message.stream
  pub opened : closing_on said.after one.message.stream ≡ false
  pub delivery : Delivery
  pub rules : delivery_on said.after one.message.stream ≡ Some delivery
  pub sent_as : IsSentAs one.options delivery

-- Each of these streams is closing.
abbrev pub AreClosing : List ℕ → LayerView → Type 0
AreClosing ids layer = (id : ℕ) → HasEntry id ids → closing_on layer id ≡ true

-- ---- what is sent

-- From this layer on each deed is one of these, and leaves a layer. These channels had these streams.
pub data Sent (pairs : List (ℕ × ℕ)) (now : LayerView) : LayerView → List Deed → List OpenedChannel → List SaidContent → Type 0 where
  none_sent : (old : LayerView) → KeepStreams [] old now → Sent pairs now old [] [] []
  an_ack : (old after : LayerView) (one : Sending) (deeds : List Deed) (opens : List OpenedChannel) (says : List SaidContent)
      → KeepStreams [] old after → IsAck one.message → one.options ≡ plainly → Sent pairs now after deeds opens says → Sent pairs now old (sends one ∷ deeds) opens says
  an_open : (old after : LayerView) (one : Sending) (channel : OpenedChannel) (deeds : List Deed) (opens : List OpenedChannel) (says : List SaidContent)
      → KeepStreams [] old after → IsOpen one.message channel → one.options ≡ plainly → IsToCome old channel.name → IsNoted pairs channel.name one.message → AreSaidAfter channel.name one.message.stream says → HasItsRules after channel one.message.stream
      → Sent pairs now after deeds opens says → Sent pairs now old (sends one ∷ deeds) (channel ∷ opens) says
  a_content : (old : LayerView) (one : Sending) (said : SaidContent) (deeds : List Deed) (opens : List OpenedChannel) (says : List SaidContent)
      → KeepStreams [] old said.after → IsContent one.message said.message.content → IsNoted pairs said.message.name one.message → IsSentByRules one said
      → Sent pairs now said.after deeds opens says → Sent pairs now old (sends one ∷ deeds) opens (said ∷ says)
  an_ask : (old after : LayerView) (ids : List ℕ) (deeds : List Deed) (opens : List OpenedChannel) (says : List SaidContent)
      → KeepStreams [] old after → AreClosing ids after → Sent pairs now after deeds opens says → Sent pairs now old (asks ids ∷ deeds) opens says

-- ---- one after another

sent_from : (ps : List (ℕ × ℕ)) (now first old : LayerView) (ds : List Deed) (os : List OpenedChannel) (cs : List SaidContent) → KeepStreams [] first old → Sent ps now old ds os cs → Sent ps now first ds os cs
sent_from ps now first _ _ _ _ before (none_sent old keeps) = none_sent first (keep_then [] [] first old now before keeps)
sent_from ps now first _ _ _ _ before (an_ack old after one deeds opens says keeps is plain rest) =
    an_ack first after one deeds opens says (keep_then [] [] first old after before keeps) is plain rest
sent_from ps now first _ _ _ _ before (an_open old after one channel deeds opens says keeps is plain come noted later rules rest) =
    an_open first after one channel deeds opens says (keep_then [] [] first old after before keeps) is plain (to_come_before [] first old channel.name before come) noted later rules rest
sent_from ps now first _ _ _ _ before (a_content old one said deeds opens says keeps is noted rules rest) =
    a_content first one said deeds opens says (keep_then [] [] first old said.after before keeps) is noted rules rest
sent_from ps now first _ _ _ _ before (an_ask old after ids deeds opens says keeps closing rest) =
    an_ask first after ids deeds opens says (keep_then [] [] first old after before keeps) closing rest

sent_more : (ps qs : List (ℕ × ℕ)) (now old : LayerView) (ds : List Deed) (os : List OpenedChannel) (cs : List SaidContent) → ((pair : ℕ × ℕ) → HasEntry pair ps → HasEntry pair qs)
    → Sent ps now old ds os cs → Sent qs now old ds os cs
sent_more ps qs now _ _ _ _ more (none_sent old keeps) = none_sent old keeps
sent_more ps qs now _ _ _ _ more (an_ack old after one deeds opens says keeps is plain rest) = an_ack old after one deeds opens says keeps is plain (sent_more ps qs now after deeds opens says more rest)
sent_more ps qs now _ _ _ _ more (an_open old after one channel deeds opens says keeps is plain come noted later rules rest) =
    an_open old after one channel deeds opens says keeps is plain come (more (channel.name, one.message.stream) noted) later rules (sent_more ps qs now after deeds opens says more rest)
sent_more ps qs now _ _ _ _ more (a_content old one said deeds opens says keeps is noted rules rest) =
    a_content old one said deeds opens says keeps is (more (said.message.name, one.message.stream) noted) rules (sent_more ps qs now said.after deeds opens says more rest)
sent_more ps qs now _ _ _ _ more (an_ask old after ids deeds opens says keeps closing rest) =
    an_ask old after ids deeds opens says keeps closing (sent_more ps qs now after deeds opens says more rest)

module _ (ps qs : List (ℕ × ℕ)) (more : (pair : ℕ × ℕ) → HasEntry pair ps → HasEntry pair qs) (between now : LayerView) where
  sent_both : (old : LayerView) (xs ys : List Deed) (os us : List OpenedChannel) (cs ds : List SaidContent) → ((name number : ℕ) → HasEntry (name, number) ps → AreSaidAfter name number ds)
      → Sent ps between old xs os cs → Sent qs now between ys us ds → Sent qs now old (xs ++ ys) (os ++ us) (cs ++ ds)
  sent_both _ _ ys _ us _ ds later (none_sent old keeps) second = sent_from qs now old between ys us ds keeps second
  sent_both _ _ ys _ us _ ds later (an_ack old after one deeds opens says keeps is plain first) second =
      an_ack old after one (deeds ++ ys) (opens ++ us) (says ++ ds) keeps is plain (sent_both after deeds ys opens us says ds later first second)
  sent_both _ _ ys _ us _ ds later (an_open old after one channel deeds opens says keeps is plain come noted behind rules first) second =
      an_open old after one channel (deeds ++ ys) (opens ++ us) (says ++ ds) keeps is plain come (more (channel.name, one.message.stream) noted)
      (all_both (λ (said : SaidContent). IsOnOrGone said.after channel.name one.message.stream) says ds behind (later channel.name one.message.stream noted)) rules (sent_both after deeds ys opens us says ds later first second)
  sent_both _ _ ys _ us _ ds later (a_content old one said deeds opens says keeps is noted rules first) second =
      a_content old one said (deeds ++ ys) (opens ++ us) (says ++ ds) keeps is (more (said.message.name, one.message.stream) noted) rules (sent_both said.after deeds ys opens us says ds later first second)
  sent_both _ _ ys _ us _ ds later (an_ask old after ids deeds opens says keeps closing first) second =
      an_ask old after ids (deeds ++ ys) (opens ++ us) (says ++ ds) keeps closing (sent_both after deeds ys opens us says ds later first second)

pub sent_then : (ps qs : List (ℕ × ℕ)) (old between now : LayerView) (xs ys : List Deed) (os us : List OpenedChannel) (cs ds : List SaidContent) → ((name number : ℕ) → HasEntry (name, number) ps → AreSaidAfter name number ds)
    → Sent ps between old xs os cs → Sent qs now between ys us ds → Sent (ps ++ qs) now old (xs ++ ys) (os ++ us) (cs ++ ds)
sent_then ps qs old between now xs ys os us cs ds later first second =
    sent_both ps (ps ++ qs) (λ pair has. entry_before pair ps qs has) between now old xs ys os us cs ds later first
    (sent_more qs (ps ++ qs) now between ys us ds (λ pair has. entry_behind pair ps qs has) second)
