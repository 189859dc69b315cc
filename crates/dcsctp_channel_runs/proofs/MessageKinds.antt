-- The kinds of messages that an end sends and reads.
use Rattle.std.proofs.Common.{◌≡◌, ◌==◌, ◌⊎◌, ℕ, Bool, true, false, Some, None, Ok, List, [], ◌∷◌, refl, sym, ap, subst, ◌∙◌, inl, inr}
use Rattle.std.specs.Prelude.{if◌then◌else◌}
use Rattle.std.proofs.lemmas.Bool.{true≢false, eqb-true}
use Rattle.std.proofs.lemmas.List.{append-nil}
use Rattle.dcsctp_channel_calls.specs.api.types.queues.Messages.{MessageContent}
use Rattle.dcsctp_channel_calls.specs.messages.channel_spec.Contents.{ChannelContent, control_ppid, ppid_for, payload_of, content_from, ContentsReadBack}
use Rattle.dcsctp_channel_calls.specs.messages.Format.{open_message, acknowledgement, ack_bytes, open_bytes, control_of_bytes}
use Rattle.dcsctp_channel_calls.specs.messages.Laws.{OpensReadBack}
use Rattle.dcsctp_channel_runs.specs.Acts.{OpenedChannel, NamedContent, SaidContent, contents_named, contents_on}
use Rattle.dcsctp_channel_runs.proofs.Said.{IsAck, IsOpen, IsContent, IsNoted}
use Rattle.dcsctp_channel_runs.proofs.Heard.{SaysOpen, SaysContent, Heard, none_heard, a_dropped, a_channel, a_message}
use Rattle.dcsctp_channel_calls.specs.api.spec.endpoint.Endpoint.{Endpoint}
use Rattle.dcsctp_channel_calls.specs.View.{LayerView}
use Rattle.dcsctp_channel_runs.proofs.Deeds.{Deed, messages_in}
use Rattle.dcsctp_channel_runs.proofs.SentBy.{Sent, none_sent, an_ack, an_open, a_content, an_ask}
use Rattle.dcsctp_channel_runs.proofs.Picking.{Picks, none_picked, passed, picked, Any}
use Rattle.dcsctp_channel_runs.proofs.Streams.{IsOn}

abbrev pub NoOpen : MessageContent → Type 0
NoOpen m = IsAck m ⊎ ((content : ChannelContent) × IsContent m content)

abbrev pub NoContent : MessageContent → Type 0
NoContent m = m.ppid ≡ control_ppid

-- They are so of a channel that had the stream of the message.
abbrev pub IsOpenOn : List (ℕ × ℕ) → MessageContent → OpenedChannel → Type 0
IsOpenOn pairs m channel = IsOpen m channel × IsNoted pairs channel.name m

abbrev pub SaysOpenOn : List (ℕ × ℕ) → MessageContent → OpenedChannel → Type 0
SaysOpenOn pairs m channel = SaysOpen m channel × IsNoted pairs channel.name m

abbrev pub SaysContentOn : List (ℕ × ℕ) → ℕ → MessageContent → ChannelContent → Type 0
SaysContentOn pairs name m content = SaysContent m content × IsNoted pairs name m

-- It is a message of the user, on a channel that had the stream of the message, also right after.
pub record IsSaidOn (pairs : List (ℕ × ℕ)) (m : MessageContent) (said : SaidContent) : Type 0 where
  pub content : IsContent m said.message.content
  pub noted : IsNoted pairs said.message.name m
  pub on : IsOn said.after said.message.name m.stream

unfoldable pub sent_opens : (ps : List (ℕ × ℕ)) (now old : LayerView) (deeds : List Deed) (opens : List OpenedChannel) (says : List SaidContent) → Sent ps now old deeds opens says → Picks (IsOpenOn ps) NoOpen (messages_in deeds) opens
sent_opens ps now _ _ _ _ (none_sent old keeps) = none_picked
sent_opens ps now _ _ _ _ (an_ack old after one deeds opens says keeps is plain rest) = passed one.message (messages_in deeds) opens (inl is) (sent_opens ps now after deeds opens says rest)
sent_opens ps now _ _ _ _ (an_open old after one channel deeds opens says keeps is plain come noted later rules rest) =
    picked one.message channel (messages_in deeds) opens (is, noted) (sent_opens ps now after deeds opens says rest)
sent_opens ps now _ _ _ _ (a_content old one said deeds opens says keeps is noted rules rest) =
    passed one.message (messages_in deeds) opens (inr (said.message.content, is)) (sent_opens ps now said.after deeds opens says rest)
sent_opens ps now _ _ _ _ (an_ask old after ids deeds opens says keeps closing rest) = sent_opens ps now after deeds opens says rest

unfoldable pub sent_contents : (ps : List (ℕ × ℕ)) (now old : LayerView) (deeds : List Deed) (opens : List OpenedChannel) (says : List SaidContent) → Sent ps now old deeds opens says
    → Picks (IsSaidOn ps) NoContent (messages_in deeds) says
sent_contents ps now _ _ _ _ (none_sent old keeps) = none_picked
sent_contents ps now _ _ _ _ (an_ack old after one deeds opens says keeps is plain rest) = passed one.message (messages_in deeds) says is.ppid (sent_contents ps now after deeds opens says rest)
sent_contents ps now _ _ _ _ (an_open old after one channel deeds opens says keeps is plain come noted later rules rest) =
    passed one.message (messages_in deeds) says is.ppid (sent_contents ps now after deeds opens says rest)
sent_contents ps now _ _ _ _ (a_content old one said deeds opens says keeps is noted rules rest) =
    picked one.message said (messages_in deeds) says (record { content = is; noted = noted; on = rules.on }) (sent_contents ps now said.after deeds opens says rest)
sent_contents ps now _ _ _ _ (an_ask old after ids deeds opens says keeps closing rest) = sent_contents ps now after deeds opens says rest

module _ (ps : List (ℕ × ℕ)) (Passed : Endpoint → Type 0) (now : LayerView) where
  pub heard_channels : (old : LayerView) (read : List MessageContent) (channels : List OpenedChannel) (contents : List NamedContent) → Heard ps Passed now old read channels contents → Picks (SaysOpenOn ps) Any read channels
  heard_channels _ _ _ _ (none_heard old keeps) = none_picked
  heard_channels _ _ _ _ (a_dropped old after m read channels contents keeps why rest) = passed m read channels tt (heard_channels after read channels contents rest)
  heard_channels _ _ _ _ (a_channel old after m channel read channels contents keeps is noted on rest) = picked m channel read channels (is, noted) (heard_channels after read channels contents rest)
  heard_channels _ _ _ _ (a_message old after m named read channels contents keeps is noted others_else open_there rest) = passed m read channels tt (heard_channels after read channels contents rest)

  pub heard_contents : (old : LayerView) (read : List MessageContent) (channels : List OpenedChannel) (contents : List NamedContent) → Heard ps Passed now old read channels contents → Picks SaysContent Any read (contents_named contents)
  heard_contents _ _ _ _ (none_heard old keeps) = none_picked
  heard_contents _ _ _ _ (a_dropped old after m read channels contents keeps why rest) = passed m read (contents_named contents) tt (heard_contents after read channels contents rest)
  heard_contents _ _ _ _ (a_channel old after m channel read channels contents keeps is noted on rest) = passed m read (contents_named contents) tt (heard_contents after read channels contents rest)
  heard_contents _ _ _ _ (a_message old after m named read channels contents keeps is noted others_else open_there rest) =
      picked m named.content read (contents_named contents) is (heard_contents after read channels contents rest)

  pub heard_on_channel : (name : ℕ) (old : LayerView) (read : List MessageContent) (channels : List OpenedChannel) (contents : List NamedContent) → Heard ps Passed now old read channels contents
      → Picks (SaysContentOn ps name) Any read (contents_on name contents)
  heard_on_channel name _ _ _ _ (none_heard old keeps) = none_picked
  heard_on_channel name _ _ _ _ (a_dropped old after m read channels contents keeps why rest) = passed m read (contents_on name contents) tt (heard_on_channel name after read channels contents rest)
  heard_on_channel name _ _ _ _ (a_channel old after m channel read channels contents keeps is noted on rest) = passed m read (contents_on name contents) tt (heard_on_channel name after read channels contents rest)
  heard_on_channel name _ _ _ _ (a_message old after m named read channels contents keeps is noted others_else open_there rest) = by (named.name == name) refl (heard_on_channel name after read channels contents rest)
    where
      by : (b : Bool) → (named.name == name) ≡ b → Picks (SaysContentOn ps name) Any read (contents_on name contents)
          → Picks (SaysContentOn ps name) Any (m ∷ read) (if b then named.content ∷ contents_on name contents else contents_on name contents)
      by true same others = picked m named.content read (contents_on name contents) (is, subst (λ n. IsNoted ps n m) (eqb-true named.name name same) noted) others
      by false apart others = passed m read (contents_on name contents) tt others

-- an ACK isn't read as an OPEN
pub ack_is_read : control_of_bytes ack_bytes ≡ Ok acknowledgement
unfolding control_of_bytes
ack_is_read = refl

pub user_ppid : (is_text : Bool) (bytes : List ℕ) → ppid_for is_text bytes ≡ control_ppid → ⊥
user_ppid true [] is = true≢false (sym (ap (λ n. n == control_ppid) is))
user_ppid false [] is = true≢false (sym (ap (λ n. n == control_ppid) is))
user_ppid true (byte ∷ bytes) is = true≢false (sym (ap (λ n. n == control_ppid) is))
user_ppid false (byte ∷ bytes) is = true≢false (sym (ap (λ n. n == control_ppid) is))

pub is_open : (m : MessageContent) (channel : OpenedChannel) → SaysOpen m channel → NoOpen m → ⊥
is_open m channel says (inl ack) =
    let both : Ok (open_message channel.opening) ≡ Ok acknowledgement = sym says.payload ∙ ap control_of_bytes ack.payload ∙ ack_is_read in absurd cc
is_open m channel says (inr (content, is)) = user_ppid content.is_text content.bytes (sym is.ppid ∙ says.ppid)

pub control_says_nothing : (payload : List ℕ) → content_from control_ppid payload ≡ None
control_says_nothing payload = refl

pub is_content : (m : MessageContent) (content : ChannelContent) → SaysContent m content → NoContent m → ⊥
is_content m content says control =
    let both : Some content ≡ None = sym says ∙ ap (λ n. content_from n m.payload) control ∙ control_says_nothing m.payload in absurd cc

pub same_opening : OpensReadBack → (m : MessageContent) (opened channel : OpenedChannel) → IsOpen m opened → SaysOpen m channel → opened.opening ≡ channel.opening
same_opening back m opened channel is says =
    let read : control_of_bytes (open_bytes opened.opening) ≡ Ok (open_message opened.opening) = ap control_of_bytes (sym (append-nil (open_bytes opened.opening))) ∙ back opened.opening [] is.fits in
    let both : Ok (open_message opened.opening) ≡ Ok (open_message channel.opening) = sym read ∙ ap control_of_bytes (sym is.payload) ∙ says.payload in
    cc

pub same_content : ContentsReadBack → (m : MessageContent) (said content : ChannelContent) → IsContent m said → SaysContent m content → said ≡ content
same_content back m said content is says =
    let both : Some said ≡ Some content = sym (back said) ∙ ap (λ n. content_from n (payload_of said)) (sym is.ppid) ∙ ap (λ p. content_from m.ppid p) (sym is.payload) ∙ says in
    cc
