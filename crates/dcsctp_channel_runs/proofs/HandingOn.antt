-- What is read on the stream of an open channel is reported on it.
use Rattle.std.proofs.Common.{◌≡◌, ◌==◌, ℕ, Bool, true, false, Option, Some, None, List, [], ◌∷◌, refl, sym, ap, subst, ◌∙◌, inl, inr}
use Rattle.std.proofs.lemmas.Bool.{true≢false, eqb-true, eqb-false}
use Rattle.std.specs.Prelude.{if◌then◌else◌}
use Rattle.std.specs.List.{AllByRecursion}
use Rattle.dcsctp_channel_calls.specs.api.types.queues.Messages.{MessageContent}
use Rattle.dcsctp_channel_calls.specs.api.spec.endpoint.Endpoint.{Endpoint}
use Rattle.dcsctp_channel_calls.specs.declared.channel.ChannelState.TheVariants.{Open}
use Rattle.dcsctp_channel_calls.specs.declared.channel.HeldStream.{HeldStream}
use Rattle.dcsctp_channel_calls.specs.messages.channel_spec.Contents.{ChannelContent, control_ppid, content_from}
use Rattle.dcsctp_channel_calls.specs.Queries.{is_waiting, state_without, closing_or_open, state_held, state_on, channel_state}
use Rattle.dcsctp_channel_calls.specs.View.{LayerView, entry_numbered, held_stream_numbered}
use Rattle.dcsctp_channel_runs.specs.Acts.{OpenedChannel, NamedContent, contents_on}
use Rattle.dcsctp_channel_runs.specs.HandedOn.{content_and, contents_read, ReachesChannel}
use Rattle.dcsctp_channel_runs.specs.Prefixes.{knows_stream}
use Rattle.dcsctp_channel_runs.proofs.Heard.{AreNamedElse, Heard, none_heard, a_dropped, a_channel, a_message}
use Rattle.dcsctp_channel_runs.proofs.InPlace.{after_move}
use Rattle.dcsctp_channel_runs.proofs.Kept.{IsDeaf, deaf_over, deaf_gone, deaf_closing, deaf_where_dropped}
use Rattle.dcsctp_channel_runs.proofs.Lasting.{closing_of, closing_on}
use Rattle.dcsctp_channel_runs.proofs.MessageKinds.{NoContent, control_says_nothing}
use Rattle.dcsctp_channel_runs.proofs.Sharing.{same_on_stream}
use Rattle.dcsctp_channel_runs.proofs.Streams.{IsOn, IsOnOrGone, KeepStreams, keep_then, on_not_gone, same_stream}

-- ---- an open channel

-- the stream of an open channel, which isn't closing
pub record HasOpenStream (layer : LayerView) (name : ℕ) : Type 0 where
  pub number : ℕ
  pub on : IsOn layer name number
  pub opened : closing_on layer number ≡ false

open_state : (closing : Bool) → closing_or_open closing ≡ Open → closing ≡ false
open_state true is = absurd cc
open_state false is = refl

open_held : (held : Option HeldStream) → state_held held ≡ Open → closing_of held ≡ false
open_held None is = absurd cc
open_held (Some held) is = open_state held.stream.closing is

none_open : (waiting : Bool) → state_without waiting ≡ Open → ⊥
none_open true is = absurd cc
none_open false is = absurd cc

open_there : (layer : LayerView) (name : ℕ) (stream : Option ℕ) → entry_numbered name layer.names ≡ stream → state_on stream name layer ≡ Open → HasOpenStream layer name
open_there layer name None at is = absurd (none_open (is_waiting name layer.waiting) is)
open_there layer name (Some number) at is = record { number = number; on = at; opened = open_held (held_stream_numbered layer number) is }

pub has_open_stream : (layer : LayerView) (name : ℕ) → channel_state layer name ≡ Open → HasOpenStream layer name
has_open_stream layer name is = open_there layer name (entry_numbered name layer.names) refl is

heard_keeps : (ps : List (ℕ × ℕ)) (P : Endpoint → Type 0) (now old : LayerView) (read : List MessageContent) (channels : List OpenedChannel) (contents : List NamedContent) → Heard ps P now old read channels contents → KeepStreams [] old now
heard_keeps ps P now _ _ _ _ (none_heard old keeps) = keeps
heard_keeps ps P now _ _ _ _ (a_dropped old after m read channels contents keeps why rest) = keep_then [] [] old after now keeps (heard_keeps ps P now after read channels contents rest)
heard_keeps ps P now _ _ _ _ (a_channel old after m channel read channels contents keeps is noted on rest) = keep_then [] [] old after now keeps (heard_keeps ps P now after read channels contents rest)
heard_keeps ps P now _ _ _ _ (a_message old after m named read channels contents keeps is noted others_else open_there rest) = keep_then [] [] old after now keeps (heard_keeps ps P now after read channels contents rest)

-- ---- what is read on its stream

read_else : (m : MessageContent) (read : List MessageContent) (number : ℕ) → content_from m.ppid m.payload ≡ None → contents_read number (m ∷ read) ≡ contents_read number read
read_else m read number none = by (m.stream == number)
  where
    by : (b : Bool) → (if b then content_and (content_from m.ppid m.payload) (contents_read number read) else contents_read number read) ≡ contents_read number read
    by true = ap (λ (o : Option ChannelContent). content_and o (contents_read number read)) none
    by false = refl

read_apart : (m : MessageContent) (read : List MessageContent) (number : ℕ) → (m.stream ≡ number → ⊥) → contents_read number (m ∷ read) ≡ contents_read number read
read_apart m read number apart = by (m.stream == number) refl
  where
    by : (b : Bool) → (m.stream == number) ≡ b → (if b then content_and (content_from m.ppid m.payload) (contents_read number read) else contents_read number read) ≡ contents_read number read
    by true same = absurd (apart (eqb-true m.stream number same))
    by false other = refl

same_number : (n : ℕ) (b : Bool) → (n == n) ≡ b → (n == n) ≡ true
same_number n true is = is
same_number n false is = absurd (eqb-false n n is refl)

read_here : (m : MessageContent) (read : List MessageContent) (content : ChannelContent) → content_from m.ppid m.payload ≡ Some content → contents_read m.stream (m ∷ read) ≡ content ∷ contents_read m.stream read
read_here m read content says =
    ap (λ (b : Bool). if b then content_and (content_from m.ppid m.payload) (contents_read m.stream read) else contents_read m.stream read) (same_number m.stream (m.stream == m.stream) refl)
    ∙ ap (λ (o : Option ChannelContent). content_and o (contents_read m.stream read)) says

-- one that comes is none of a user, or it isn't on the stream
dropped_by : (m : MessageContent) (read : List MessageContent) (number : ℕ) → ((NoContent m → ⊥) → m.stream ≡ number → ⊥) → contents_read number (m ∷ read) ≡ contents_read number read
dropped_by m read number never = by (m.ppid == control_ppid) refl
  where
    by : (b : Bool) → (m.ppid == control_ppid) ≡ b → contents_read number (m ∷ read) ≡ contents_read number read
    by true control = read_else m read number (ap (λ (n : ℕ). content_from n m.payload) (eqb-true m.ppid control_ppid control) ∙ control_says_nothing m.payload)
    by false other = read_apart m read number (never (eqb-false m.ppid control_ppid other))

module _ (ps : List (ℕ × ℕ)) (P : Endpoint → Type 0) (now : LayerView) (name number : ℕ) (still : IsOn now name number) (opened : closing_on now number ≡ false) (lasts : now.over ≡ false) where
  not_deaf : (layer : LayerView) → KeepStreams [] layer now → IsDeaf layer name number → ⊥
  not_deaf layer keeps (deaf_over over) = true≢false (sym (keeps.over over) ∙ lasts)
  not_deaf layer keeps (deaf_gone gone) = on_not_gone now name number still (keeps.gone name gone)
  not_deaf layer keeps (deaf_closing on closing) = true≢false (sym ((keeps.lasts name number on still).closing closing) ∙ opened)

  abbrev KnowAll : List MessageContent → Type 0
  KnowAll read = AllByRecursion (λ (m : MessageContent). (e : Endpoint) → P e → knows_stream e m.stream ≡ true) read

  reports_all : (old : LayerView) (read : List MessageContent) (channels : List OpenedChannel) (contents : List NamedContent) → Heard ps P now old read channels contents → IsOnOrGone old name number → KnowAll read
      → contents_on name contents ≡ contents_read number read
  reports_all _ _ _ _ (none_heard old keeps) there knows = refl
  reports_all _ _ _ _ (a_dropped old after m read channels contents keeps why rest) there knows =
      let onward = after_move keeps name number there in
      reports_all after read channels contents rest onward knows.1
      ∙ sym (dropped_by m read number (λ kind on. not_deaf after (heard_keeps ps P now after read channels contents rest)
      (deaf_where_dropped P m after name number why onward (λ e passed. subst (λ (k : ℕ). knows_stream e k ≡ true) on (knows.0 e passed)) kind on)))
  reports_all _ _ _ _ (a_channel old after m channel read channels contents keeps is noted on rest) there knows =
      reports_all after read channels contents rest (after_move keeps name number there) knows.1 ∙ sym (dropped_by m read number (λ kind stream. kind is.ppid))
  reports_all _ _ _ _ (a_message old after m named read channels contents keeps is noted others_else open_there rest) there knows =
      by (named.name == name) refl (reports_all after read channels contents rest (after_move keeps name number there) knows.1)
    where
      onward : IsOnOrGone after name number
      onward = after_move keeps name number there

      on_after : IsOnOrGone after name number → IsOn after name number
      on_after (inl on) = on
      on_after (inr gone) = absurd (not_deaf after (heard_keeps ps P now after read channels contents rest) (deaf_gone gone))

      by : (b : Bool) → (named.name == name) ≡ b → contents_on name contents ≡ contents_read number read → (if b then named.content ∷ contents_on name contents else contents_on name contents) ≡ contents_read number (m ∷ read)
      by true same others =
          let on : IsOn after name m.stream = subst (λ (n : ℕ). IsOn after n m.stream) (eqb-true named.name name same) open_there.on in
          let stream : m.stream ≡ number = same_stream after name m.stream number on (on_after onward) in
          ap (λ (l : List ChannelContent). named.content ∷ l) others
          ∙ subst (λ (k : ℕ). named.content ∷ contents_read k read ≡ contents_read k (m ∷ read)) stream (sym (read_here m read named.content is))
      by false apart others =
          others ∙ sym (read_apart m read number (λ stream. eqb-false named.name name apart (same_on_stream after keeps.orderly name named.name number (on_after onward) (subst (λ (k : ℕ). IsOn after named.name k) stream open_there.on))))

-- ---- each channel that comes in

abbrev HandedOnAll : LayerView → List MessageContent → List NamedContent → List OpenedChannel → Type 0
HandedOnAll now read contents channels = AllByRecursion (λ (channel : OpenedChannel). channel_state now channel.name ≡ Open → ReachesChannel read channel (contents_on channel.name contents)) channels

longer : (m : MessageContent) (read : List MessageContent) (channel : OpenedChannel) (heard more : List ChannelContent) → more ≡ heard → ReachesChannel read channel heard → ReachesChannel (m ∷ read) channel more
longer m read channel heard more same handed =
    record {
      front = m ∷ handed.front;
      opener = handed.opener;
      rest = handed.rest;
      is = ap (λ (l : List MessageContent). m ∷ l) handed.is;
      ppid = handed.ppid;
      opens = handed.opens;
      whole = same ∙ handed.whole;
    }

all_longer : (now : LayerView) (m : MessageContent) (read : List MessageContent) (contents : List NamedContent) (channels : List OpenedChannel) → HandedOnAll now read contents channels → HandedOnAll now (m ∷ read) contents channels
all_longer now m read contents [] all = tt
all_longer now m read contents (channel ∷ channels) all =
    ((λ is_open. longer m read channel (contents_on channel.name contents) (contents_on channel.name contents) refl (all.0 is_open)), all_longer now m read contents channels all.1)

contents_else : (name : ℕ) (named : NamedContent) (contents : List NamedContent) → (name ≡ named.name → ⊥) → contents_on name (named ∷ contents) ≡ contents_on name contents
contents_else name named contents apart = by (named.name == name) refl
  where
    by : (b : Bool) → (named.name == name) ≡ b → (if b then named.content ∷ contents_on name contents else contents_on name contents) ≡ contents_on name contents
    by true is = absurd (apart (sym (eqb-true named.name name is)))
    by false is = refl

all_else : (now : LayerView) (m : MessageContent) (named : NamedContent) (read : List MessageContent) (contents : List NamedContent) (channels : List OpenedChannel) → AreNamedElse named.name channels → HandedOnAll now read contents channels
    → HandedOnAll now (m ∷ read) (named ∷ contents) channels
all_else now m named read contents [] others all = tt
all_else now m named read contents (channel ∷ channels) others all = (
  (λ is_open. longer m read channel (contents_on channel.name contents) (contents_on channel.name (named ∷ contents)) (contents_else channel.name named contents others.0) (all.0 is_open)),
  all_else now m named read contents channels others.1 all.1,
)

pub hands_on : (ps : List (ℕ × ℕ)) (P : Endpoint → Type 0) (now : LayerView) → now.over ≡ false → (old : LayerView) (read : List MessageContent) (channels : List OpenedChannel) (contents : List NamedContent)
    → Heard ps P now old read channels contents → AllByRecursion (λ (m : MessageContent). (e : Endpoint) → P e → knows_stream e m.stream ≡ true) read → HandedOnAll now read contents channels
hands_on ps P now lasts _ _ _ _ (none_heard old keeps) knows = tt
hands_on ps P now lasts _ _ _ _ (a_dropped old after m read channels contents keeps why rest) knows = all_longer now m read contents channels (hands_on ps P now lasts after read channels contents rest knows.1)
hands_on ps P now lasts _ _ _ _ (a_message old after m named read channels contents keeps is noted others_else open_there rest) knows =
    all_else now m named read contents channels others_else (hands_on ps P now lasts after read channels contents rest knows.1)
hands_on ps P now lasts _ _ _ _ (a_channel old after m channel read channels contents keeps is noted on rest) knows =
    ((λ is_open. first (has_open_stream now channel.name is_open)), all_longer now m read contents channels (hands_on ps P now lasts after read channels contents rest knows.1))
  where
    first : HasOpenStream now channel.name → ReachesChannel (m ∷ read) channel (contents_on channel.name contents)
    first stream =
        let onward = after_move (heard_keeps ps P now after read channels contents rest) channel.name m.stream (inl on) in
        record {
          front = [];
          opener = m;
          rest = read;
          is = refl;
          ppid = is.ppid;
          opens = is.payload;
          whole = open_whole stream onward;
        }
      where
        open_whole : HasOpenStream now channel.name → IsOnOrGone now channel.name m.stream → contents_on channel.name contents ≡ contents_read m.stream read
        open_whole stream (inr gone) = absurd (on_not_gone now channel.name stream.number stream.on gone)
        open_whole stream (inl still) =
            let same : stream.number ≡ m.stream = same_stream now channel.name stream.number m.stream stream.on still in
            reports_all ps P now channel.name m.stream still (subst (λ (k : ℕ). closing_on now k ≡ false) same stream.opened) lasts after read channels contents rest (inl on) knows.1
