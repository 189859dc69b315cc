-- What an end sent on a channel, after its OPEN, and between resets.
use Rattle.std.proofs.Common.{◌≡◌, ◌⊎◌, ℕ, zero, suc, Some, List, [], refl, sym, ap, subst, ◌∙◌, inl, inr}
use Rattle.std.specs.Prelude.{slice_get}
use Rattle.dcsctp_channel_calls.specs.api.types.queues.Messages.{MessageContent}
use Rattle.dcsctp_channel_calls.specs.api.spec.endpoint.MessageOutcomes.{Sending}
use Rattle.dcsctp_channel_calls.specs.Sending.{plainly}
use Rattle.dcsctp_channel_calls.specs.messages.channel_spec.Contents.{ChannelContent}
use Rattle.dcsctp_channel_calls.specs.View.{LayerView}
use Rattle.dcsctp_channel_runs.specs.Acts.{OpenedChannel, SaidContent}
use Rattle.dcsctp_channel_runs.proofs.Deeds.{Deed, sendings_in, messages_in}
use Rattle.dcsctp_channel_runs.proofs.MessageKinds.{NoOpen, NoContent, user_ppid, sent_opens, sent_contents}
use Rattle.dcsctp_channel_runs.proofs.Picking.{picked_before}
use Rattle.dcsctp_channel_runs.proofs.Said.{IsAck, IsContent, IsNoted}
use Rattle.dcsctp_channel_runs.proofs.SentBy.{HasItsRules, IsSentByRules, Sent, none_sent, an_ack, an_open, a_content, an_ask}
use Rattle.dcsctp_channel_runs.proofs.Streams.{IsToCome, KeepStreams, keep_then, to_come_before}

-- all that was sent leads from the one layer to the other
pub keeps_all : (ps : List (ℕ × ℕ)) (now old : LayerView) (deeds : List Deed) (opens : List OpenedChannel) (says : List SaidContent) → Sent ps now old deeds opens says → KeepStreams [] old now
keeps_all ps now _ _ _ _ (none_sent old keeps) = keeps
keeps_all ps now _ _ _ _ (an_ack old after one deeds opens says keeps is plain rest) = keep_then [] [] old after now keeps (keeps_all ps now after deeds opens says rest)
keeps_all ps now _ _ _ _ (an_open old after one channel deeds opens says keeps is plain come noted later rules rest) = keep_then [] [] old after now keeps (keeps_all ps now after deeds opens says rest)
keeps_all ps now _ _ _ _ (a_content old one said deeds opens says keeps is noted rules rest) = keep_then [] [] old said.after now keeps (keeps_all ps now said.after deeds opens says rest)
keeps_all ps now _ _ _ _ (an_ask old after ids deeds opens says keeps closing rest) = keep_then [] [] old after now keeps (keeps_all ps now after deeds opens says rest)

-- ---- a message of the user

-- The message at this place is of the user, said between these two.
pub record ContentAt (ps : List (ℕ × ℕ)) (now old : LayerView) (deeds : List Deed) (opens : List OpenedChannel) (says : List SaidContent) (sent : Sent ps now old deeds opens says) (place : ℕ) : Type 0 where
  pub sending : Sending
  pub at : slice_get (sendings_in deeds) place ≡ Some sending
  pub said : SaidContent
  pub said_at : slice_get says (picked_before (messages_in deeds) says (sent_contents ps now old deeds opens says sent) place) ≡ Some said
  pub content : IsContent sending.message said.message.content
  pub noted : IsNoted ps said.message.name sending.message
  pub rules : IsSentByRules sending said
  pub before : KeepStreams [] old said.after
  pub behind : KeepStreams [] said.after now

pub content_at : (ps : List (ℕ × ℕ)) (now old : LayerView) (deeds : List Deed) (opens : List OpenedChannel) (says : List SaidContent) (sent : Sent ps now old deeds opens says) (place : ℕ) (m : MessageContent)
    → slice_get (messages_in deeds) place ≡ Some m → (NoContent m → ⊥) → ContentAt ps now old deeds opens says sent place
unfolding picked_before sent_contents
content_at ps now _ _ _ _ (none_sent old keeps) place m at kind = absurd cc
content_at ps now _ _ _ _ (an_ack old after one deeds opens says keeps is plain rest) zero m at kind = let same : one.message ≡ m = cc in absurd (kind (ap (λ (c : MessageContent). c.ppid) (sym same) ∙ is.ppid))
content_at ps now _ _ _ _ (an_ack old after one deeds opens says keeps is plain rest) (suc place) m at kind =
    let found = content_at ps now after deeds opens says rest place m at kind in
    record { sending = found.sending; at = found.at; said = found.said; said_at = found.said_at; content = found.content; noted = found.noted; rules = found.rules; before = keep_then [] [] old after found.said.after keeps found.before; behind = found.behind }
content_at ps now _ _ _ _ (an_open old after one channel deeds opens says keeps is plain come noted later rules rest) zero m at kind =
    let same : one.message ≡ m = cc in absurd (kind (ap (λ (c : MessageContent). c.ppid) (sym same) ∙ is.ppid))
content_at ps now _ _ _ _ (an_open old after one channel deeds opens says keeps is plain come noted later rules rest) (suc place) m at kind =
    let found = content_at ps now after deeds opens says rest place m at kind in
    record { sending = found.sending; at = found.at; said = found.said; said_at = found.said_at; content = found.content; noted = found.noted; rules = found.rules; before = keep_then [] [] old after found.said.after keeps found.before; behind = found.behind }
content_at ps now _ _ _ _ (a_content old one said deeds opens says keeps is noted rules rest) zero m at kind =
    record { sending = one; at = refl; said = said; said_at = refl; content = is; noted = noted; rules = rules; before = keeps; behind = keeps_all ps now said.after deeds opens says rest }
content_at ps now _ _ _ _ (a_content old one said deeds opens says keeps is noted rules rest) (suc place) m at kind =
    let found = content_at ps now said.after deeds opens says rest place m at kind in
    record { sending = found.sending; at = found.at; said = found.said; said_at = found.said_at; content = found.content; noted = found.noted; rules = found.rules; before = keep_then [] [] old said.after found.said.after keeps found.before; behind = found.behind }
content_at ps now _ _ _ _ (an_ask old after ids deeds opens says keeps closing rest) place m at kind =
    let found = content_at ps now after deeds opens says rest place m at kind in
    record { sending = found.sending; at = found.at; said = found.said; said_at = found.said_at; content = found.content; noted = found.noted; rules = found.rules; before = keep_then [] [] old after found.said.after keeps found.before; behind = found.behind }

pub not_control : (m : MessageContent) (content : ChannelContent) → IsContent m content → NoContent m → ⊥
not_control m content is control = user_ppid content.is_text content.bytes (sym is.ppid ∙ control)

-- Any other goes in order, and is never abandoned.
pub control_at : (ps : List (ℕ × ℕ)) (now old : LayerView) (deeds : List Deed) (opens : List OpenedChannel) (says : List SaidContent) → Sent ps now old deeds opens says → (place : ℕ) (one : Sending)
    → slice_get (sendings_in deeds) place ≡ Some one → (one.options ≡ plainly) ⊎ ((NoContent one.message) → ⊥)
control_at ps now _ _ _ _ (none_sent old keeps) place one at = absurd cc
control_at ps now _ _ _ _ (an_ack old after first deeds opens says keeps is plain rest) zero one at = let same : first ≡ one = cc in inl (ap (λ (s : Sending). s.options) (sym same) ∙ plain)
control_at ps now _ _ _ _ (an_ack old after first deeds opens says keeps is plain rest) (suc place) one at = control_at ps now after deeds opens says rest place one at
control_at ps now _ _ _ _ (an_open old after first channel deeds opens says keeps is plain come noted later rules rest) zero one at = let same : first ≡ one = cc in inl (ap (λ (s : Sending). s.options) (sym same) ∙ plain)
control_at ps now _ _ _ _ (an_open old after first channel deeds opens says keeps is plain come noted later rules rest) (suc place) one at = control_at ps now after deeds opens says rest place one at
control_at ps now _ _ _ _ (a_content old first said deeds opens says keeps is noted rules rest) zero one at =
    let same : first ≡ one = cc in inr (λ control. not_control first.message said.message.content is (ap (λ (s : Sending). s.message.ppid) same ∙ control))
control_at ps now _ _ _ _ (a_content old first said deeds opens says keeps is noted rules rest) (suc place) one at = control_at ps now said.after deeds opens says rest place one at
control_at ps now _ _ _ _ (an_ask old after ids deeds opens says keeps closing rest) place one at = control_at ps now after deeds opens says rest place one at

-- ---- an OPEN, and what is said after

-- The OPEN of this channel led to a layer in which it had its stream, and that led on to this one.
pub record OpenedBefore (channel : OpenedChannel) (number : ℕ) (later : LayerView) : Type 0 where
  pub after : LayerView
  pub rules : HasItsRules after channel number
  pub keeps : KeepStreams [] after later

module _ (ps : List (ℕ × ℕ)) (now : LayerView) where
  -- before the OPEN the channel is to come
  pub open_to_come : (old : LayerView) (deeds : List Deed) (opens : List OpenedChannel) (says : List SaidContent) (sent : Sent ps now old deeds opens says) (place : ℕ) (m : MessageContent) → slice_get (messages_in deeds) place ≡ Some m
      → (NoOpen m → ⊥) → (channel : OpenedChannel) → slice_get opens (picked_before (messages_in deeds) opens (sent_opens ps now old deeds opens says sent) place) ≡ Some channel → IsToCome old channel.name
  unfolding picked_before sent_opens
  open_to_come _ _ _ _ (none_sent old keeps) place m at kind channel opened = absurd cc
  open_to_come _ _ _ _ (an_ack old after one deeds opens says keeps is plain rest) zero m at kind channel opened = let same : one.message ≡ m = cc in absurd (kind (inl (subst IsAck same is)))
  open_to_come _ _ _ _ (an_ack old after one deeds opens says keeps is plain rest) (suc place) m at kind channel opened =
      to_come_before [] old after channel.name keeps (open_to_come after deeds opens says rest place m at kind channel opened)
  open_to_come _ _ _ _ (an_open old after one first deeds opens says keeps is plain come noted later rules rest) zero m at kind channel opened =
      let same : first ≡ channel = cc in subst (λ (c : OpenedChannel). IsToCome old c.name) same come
  open_to_come _ _ _ _ (an_open old after one first deeds opens says keeps is plain come noted later rules rest) (suc place) m at kind channel opened =
      to_come_before [] old after channel.name keeps (open_to_come after deeds opens says rest place m at kind channel opened)
  open_to_come _ _ _ _ (a_content old one said deeds opens says keeps is noted rules rest) zero m at kind channel opened =
      let same : one.message ≡ m = cc in absurd (kind (inr (said.message.content, subst (λ (c : MessageContent). IsContent c said.message.content) same is)))
  open_to_come _ _ _ _ (a_content old one said deeds opens says keeps is noted rules rest) (suc place) m at kind channel opened =
      to_come_before [] old said.after channel.name keeps (open_to_come said.after deeds opens says rest place m at kind channel opened)
  open_to_come _ _ _ _ (an_ask old after ids deeds opens says keeps closing rest) place m at kind channel opened =
      to_come_before [] old after channel.name keeps (open_to_come after deeds opens says rest place m at kind channel opened)

  -- its OPEN leads to now
  pub open_at : (old : LayerView) (deeds : List Deed) (opens : List OpenedChannel) (says : List SaidContent) (sent : Sent ps now old deeds opens says) (place : ℕ) (m : MessageContent) → slice_get (messages_in deeds) place ≡ Some m
      → (NoOpen m → ⊥) → (channel : OpenedChannel) → slice_get opens (picked_before (messages_in deeds) opens (sent_opens ps now old deeds opens says sent) place) ≡ Some channel → OpenedBefore channel m.stream now
  unfolding picked_before sent_opens
  open_at _ _ _ _ (none_sent old keeps) place m at kind channel opened = absurd cc
  open_at _ _ _ _ (an_ack old after one deeds opens says keeps is plain rest) zero m at kind channel opened = let same : one.message ≡ m = cc in absurd (kind (inl (subst IsAck same is)))
  open_at _ _ _ _ (an_ack old after one deeds opens says keeps is plain rest) (suc place) m at kind channel opened = open_at after deeds opens says rest place m at kind channel opened
  open_at _ _ _ _ (an_open old after one first deeds opens says keeps is plain come noted later rules rest) zero m at kind channel opened =
      let same : first ≡ channel = cc in
      let message : one.message ≡ m = cc in
      record {
        after = after;
        rules = subst (λ (c : OpenedChannel). HasItsRules after c m.stream) same (subst (λ (c : MessageContent). HasItsRules after first c.stream) message rules);
        keeps = keeps_all ps now after deeds opens says rest;
      }
  open_at _ _ _ _ (an_open old after one first deeds opens says keeps is plain come noted later rules rest) (suc place) m at kind channel opened = open_at after deeds opens says rest place m at kind channel opened
  open_at _ _ _ _ (a_content old one said deeds opens says keeps is noted rules rest) zero m at kind channel opened =
      let same : one.message ≡ m = cc in absurd (kind (inr (said.message.content, subst (λ (c : MessageContent). IsContent c said.message.content) same is)))
  open_at _ _ _ _ (a_content old one said deeds opens says keeps is noted rules rest) (suc place) m at kind channel opened = open_at said.after deeds opens says rest place m at kind channel opened
  open_at _ _ _ _ (an_ask old after ids deeds opens says keeps closing rest) place m at kind channel opened = open_at after deeds opens says rest place m at kind channel opened
