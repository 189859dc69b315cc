-- What is read on a channel was sent since it was opened.
use Rattle.std.proofs.Common.{◌≡◌, ◌<◌, ℕ, zero, suc, Some, List, [], ◌∷◌, map, refl, sym, subst, inl, inr, arith}
use Rattle.std.specs.Prelude.{slice_get}
use Rattle.std.specs.List.{AllByRecursion}
use Rattle.dcsctp_delivery_sockets.specs.sockets.UserMessages.{message_sent}
use Rattle.dcsctp_channel_calls.specs.api.types.queues.Messages.{MessageContent}
use Rattle.dcsctp_channel_calls.specs.api.spec.endpoint.MessageOutcomes.{Sending}
use Rattle.dcsctp_channel_calls.specs.messages.channel_spec.Contents.{ChannelContent, ContentsReadBack}
use Rattle.dcsctp_channel_calls.specs.messages.Laws.{OpensReadBack}
use Rattle.dcsctp_channel_runs.specs.Acts.{OpenedChannel, SaidContent, contents_on}
use Rattle.dcsctp_channel_runs.specs.Opened.{IsSaidBefore, WereHeard}
use Rattle.dcsctp_channel_runs.proofs.Said.{IsAck, IsContent, Rise}
use Rattle.dcsctp_channel_runs.proofs.SentBy.{Sent, none_sent, an_ack, an_open, a_content, an_ask}
use Rattle.dcsctp_channel_calls.specs.View.{LayerView}
use Rattle.dcsctp_channel_runs.proofs.Deeds.{Deed, messages_in}
use Rattle.dcsctp_channel_runs.proofs.Picking.{picked_before, DeliveredSo}
use Rattle.dcsctp_channel_runs.proofs.MessageKinds.{NoOpen, NoContent, SaysContentOn, IsSaidOn, sent_opens, sent_contents, is_content, same_content}
use Rattle.dcsctp_channel_runs.proofs.Openers.{EndSaid, OpenedThere}
use Rattle.dcsctp_channel_runs.proofs.Matching.{heard_at}
use Rattle.dcsctp_channel_runs.proofs.InOrder.{IsBeforeOnStream, AreOrderedOn, ordered_on, leads_on_stream}
use Rattle.dcsctp_channel_runs.proofs.Streams.{IsOn, IsOnOrGone}

pub all_at : {A : Type 0} (P : A → Type 0) (xs : List A) (index : ℕ) (x : A) → AllByRecursion P xs → slice_get xs index ≡ Some x → P x
all_at P [] index x all at = absurd cc
all_at P (first ∷ xs) zero x all at = let same : first ≡ x = cc in subst P same all.0
all_at P (first ∷ xs) (suc index) x all at = all_at P xs index x all.1 at

-- What is sent after the OPEN of a channel is said when the channel has the stream of the OPEN, or is over.
said_since : (ps : List (ℕ × ℕ)) (now old : LayerView) (deeds : List Deed) (opens : List OpenedChannel) (says : List SaidContent) (sends : Sent ps now old deeds opens says) (place later : ℕ) → place < later
    → (m : MessageContent) → slice_get (messages_in deeds) place ≡ Some m → (NoOpen m → ⊥) → (channel : OpenedChannel)
    → slice_get opens (picked_before (messages_in deeds) opens (sent_opens ps now old deeds opens says sends) place) ≡ Some channel
    → (n : MessageContent) → slice_get (messages_in deeds) later ≡ Some n → (NoContent n → ⊥) → (one : SaidContent)
    → slice_get says (picked_before (messages_in deeds) says (sent_contents ps now old deeds opens says sends) later) ≡ Some one
    → IsOnOrGone one.after channel.name m.stream
unfolding picked_before sent_opens sent_contents
said_since ps now _ _ _ _ (none_sent old keeps) place later less m at kind channel opened n there content one said = absurd cc
said_since ps now _ _ _ _ (an_ask old after ids deeds opens says keeps closing rest) place later less m at kind channel opened n there content one said =
    said_since ps now after deeds opens says rest place later less m at kind channel opened n there content one said
said_since ps now _ _ _ _ (an_ack old after x deeds opens says keeps is plain rest) zero later less m at kind channel opened n there content one said =
    let same : x.message ≡ m = cc in absurd (kind (inl (subst IsAck same is)))
said_since ps now _ _ _ _ (an_ack old after x deeds opens says keeps is plain rest) (suc place) zero less m at kind channel opened n there content one said = absurd (omega arith)
said_since ps now _ _ _ _ (an_ack old after x deeds opens says keeps is plain rest) (suc place) (suc later) less m at kind channel opened n there content one said =
    said_since ps now after deeds opens says rest place later (omega arith) m at kind channel opened n there content one said
said_since ps now _ _ _ _ (an_open old after x first deeds opens says keeps is plain come noted behind rules rest) zero zero less m at kind channel opened n there content one said = absurd (omega arith)
said_since ps now _ _ _ _ (an_open old after x first deeds opens says keeps is plain come noted behind rules rest) zero (suc later) less m at kind channel opened n there content one said =
    let same : x.message ≡ m = cc in
    let channel_is : first ≡ channel = cc in
    let found = all_at (λ (said : SaidContent). IsOnOrGone said.after first.name x.message.stream) says (picked_before (messages_in deeds) says (sent_contents ps now after deeds opens says rest) later) one behind said in
    subst (λ (c : OpenedChannel). IsOnOrGone one.after c.name m.stream) channel_is (subst (λ (c : MessageContent). IsOnOrGone one.after first.name c.stream) same found)
said_since ps now _ _ _ _ (an_open old after x first deeds opens says keeps is plain come noted behind rules rest) (suc place) zero less m at kind channel opened n there content one said = absurd (omega arith)
said_since ps now _ _ _ _ (an_open old after x first deeds opens says keeps is plain come noted behind rules rest) (suc place) (suc later) less m at kind channel opened n there content one said =
    said_since ps now after deeds opens says rest place later (omega arith) m at kind channel opened n there content one said
said_since ps now _ _ _ _ (a_content old x first deeds opens says keeps is noted rules rest) zero later less m at kind channel opened n there content one said =
    let same : x.message ≡ m = cc in absurd (kind (inr (first.message.content, subst (λ (c : MessageContent). IsContent c first.message.content) same is)))
said_since ps now _ _ _ _ (a_content old x first deeds opens says keeps is noted rules rest) (suc place) zero less m at kind channel opened n there content one said = absurd (omega arith)
said_since ps now _ _ _ _ (a_content old x first deeds opens says keeps is noted rules rest) (suc place) (suc later) less m at kind channel opened n there content one said =
    said_since ps now first.after deeds opens says rest place later (omega arith) m at kind channel opened n there content one said

-- So is what is read on a channel, where messages of a stream are read in order.
module _ (opens_back : OpensReadBack) (back : ContentsReadBack) (all : List OpenedChannel) (theirs ours : EndSaid) (high : ℕ) (rises : Rise all 0 theirs.opens high) (sendings : List Sending)
    (same : (messages_in theirs.deeds) ≡ map message_sent sendings) (delivered : DeliveredSo (IsBeforeOnStream sendings) (messages_in theirs.deeds) ours.read) (channel : OpenedChannel) (there : ℕ)
    (found : OpenedThere opens_back all theirs ours high rises (IsBeforeOnStream sendings) delivered ours.heard channel there)
    (ordered : AreOrderedOn found.opener.m.stream sendings) (IsFrom : SaidContent → ChannelContent → Type 0)
    (is_from : (index : ℕ) (one : SaidContent) (content : ChannelContent) → slice_get theirs.says index ≡ Some one → one.message.content ≡ content → IsOn one.after one.message.name found.opener.m.stream
    → IsOnOrGone one.after there found.opener.m.stream → IsFrom one content) where
  abbrev number : ℕ
  number = found.opener.m.stream

  in_sendings : (place : ℕ) (m : MessageContent) → slice_get (messages_in theirs.deeds) place ≡ Some m → slice_get (map message_sent sendings) place ≡ Some m
  in_sendings place m at = subst (λ (l : List MessageContent). slice_get l place ≡ Some m) same at

  on_number : (m : MessageContent) (content : ChannelContent) → SaysContentOn ours.pairs channel.name m content → m.stream ≡ number
  on_number m content says = ours.one channel.name m.stream number says.1 found.noted

  is_since : (m : MessageContent) (place index : ℕ) (one : SaidContent) (content : ChannelContent) → IsBeforeOnStream sendings found.place place → slice_get (messages_in theirs.deeds) place ≡ Some m
      → picked_before (messages_in theirs.deeds) theirs.says (sent_contents theirs.pairs theirs.now theirs.start theirs.deeds theirs.opens theirs.says theirs.sends) place ≡ index → slice_get theirs.says index ≡ Some one → IsSaidOn theirs.pairs m one
      → SaysContentOn ours.pairs channel.name m content → IsFrom one content
  is_since m place index one content before at picked said is says =
      let on : m.stream ≡ number = on_number m content says in
      let less : found.place < place =
      before number (ordered_on sendings found.place number found.opener.m ordered (in_sendings found.place found.opener.m found.opener.at) refl) (ordered_on sendings place number m ordered (in_sendings place m at) on) in
      let since : IsOnOrGone one.after found.opener.channel.name number =
      said_since theirs.pairs theirs.now theirs.start theirs.deeds theirs.opens theirs.says theirs.sends found.place place less found.opener.m found.opener.at found.opener.kind found.opener.channel found.opener.there m at
      (is_content m content says.0) one (subst (λ (k : ℕ). slice_get theirs.says k ≡ Some one) (sym picked) said) in
      is_from index one content said (same_content back m one.message.content content is.content says.0) (subst (λ (k : ℕ). IsOn one.after one.message.name k) on is.on)
      (subst (λ (n : ℕ). IsOnOrGone one.after n number) found.opener.is since)

  pub heard_since : WereHeard IsSaidBefore IsFrom theirs.says (contents_on channel.name ours.heard)
  heard_since =
      heard_at theirs.pairs (SaysContentOn ours.pairs channel.name) (λ m content says. says.0) IsFrom (messages_in theirs.deeds) theirs.says (sent_contents theirs.pairs theirs.now theirs.start theirs.deeds theirs.opens theirs.says theirs.sends)
      (IsBeforeOnStream sendings found.place) is_since (IsBeforeOnStream sendings) IsSaidBefore
      (λ place other index more one two apart rise stands.
      leads_on_stream sendings (messages_in theirs.deeds) number same ordered place other index more one.m two.m one.at two.at (on_number one.m one.content one.says) (on_number two.m two.content two.says) apart rise stands)
      found.contents.places (contents_on channel.name ours.heard) found.contents.of found.contents.behind found.contents.stand
