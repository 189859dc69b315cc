-- What an end reads, message by message.
use Rattle.std.proofs.Common.{◌≡◌, ℕ, true, false, Some, Ok, List, [], ◌∷◌, ◌++◌, sym, ap, ◌∙◌, append_assoc}
use Rattle.std.specs.List.{AllByRecursion}
use Rattle.dcsctp_delivery_directions.specs.sending.Places.{HasEntry}
use Rattle.dcsctp_channel_calls.specs.api.types.queues.Messages.{MessageContent}
use Rattle.dcsctp_channel_calls.specs.api.spec.endpoint.CallTurns.{Transition, after_all}
use Rattle.dcsctp_channel_calls.specs.api.spec.endpoint.Endpoint.{Endpoint}
use Rattle.dcsctp_channel_calls.specs.messages.channel_spec.Contents.{ChannelContent, control_ppid, content_from}
use Rattle.dcsctp_channel_calls.specs.messages.Format.{open_message, control_of_bytes}
use Rattle.dcsctp_channel_calls.specs.View.{LayerView}
use Rattle.dcsctp_channel_runs.specs.Acts.{OpenedChannel, NamedContent}
use Rattle.dcsctp_channel_runs.specs.Prefixes.{knows_stream}
use Rattle.dcsctp_channel_runs.proofs.Lasting.{closing_on}
use Rattle.dcsctp_channel_runs.proofs.Paths.{after-append}
use Rattle.dcsctp_channel_runs.proofs.Said.{IsNoted, entry_before, entry_behind, all_both}
use Rattle.dcsctp_channel_runs.proofs.Streams.{IsOn, KeepStreams, keep_then}

-- ---- what messages say

-- It says that a channel is opened.
pub record SaysOpen (message : MessageContent) (channel : OpenedChannel) : Type 0 where
  pub ppid : message.ppid ≡ control_ppid
  pub payload : control_of_bytes message.payload ≡ Ok (open_message channel.opening)

abbrev pub SaysContent : MessageContent → ChannelContent → Type 0
SaysContent message content = content_from message.ppid message.payload ≡ Some content

-- None of these channels has this name.
abbrev pub AreNamedElse : ℕ → List OpenedChannel → Type 0
AreNamedElse name channels = AllByRecursion (λ (channel : OpenedChannel). channel.name ≡ name → ⊥) channels

-- ---- what the socket was

-- Some of these turns lead to this endpoint.
pub record IsPassed (from : Endpoint) (turns : List Transition) (e : Endpoint) : Type 0 where
  pub earlier : List Transition
  pub later : List Transition
  pub is : turns ≡ earlier ++ later
  pub at : e ≡ after_all from earlier

pub passed_before : (from : Endpoint) (xs ys : List Transition) (e : Endpoint) → IsPassed from xs e → IsPassed from (xs ++ ys) e
passed_before from xs ys e passed =
    record {
      earlier = passed.earlier;
      later = passed.later ++ ys;
      is = ap (λ (l : List Transition). l ++ ys) passed.is ∙ append_assoc passed.earlier passed.later ys;
      at = passed.at;
    }

pub passed_behind : (from between : Endpoint) (xs ys : List Transition) (e : Endpoint) → between ≡ after_all from xs → IsPassed between ys e → IsPassed from (xs ++ ys) e
passed_behind from between xs ys e there passed =
    record {
      earlier = xs ++ passed.earlier;
      later = passed.later;
      is = ap (λ (l : List Transition). xs ++ l) passed.is ∙ sym (append_assoc xs passed.earlier passed.later);
      at = passed.at ∙ ap (λ (f : Endpoint). after_all f passed.earlier) there ∙ sym (after-append from xs passed.earlier);
    }

-- ---- read

-- Why a message isn't reported: it is of the protocol, or its channel is closing since then at least, or there is no channel any more, or
-- the socket that was passed didn't have its stream.
pub data IsDropped (Passed : Endpoint → Type 0) (message : MessageContent) (after : LayerView) : Type 0 where
  is_control : message.ppid ≡ control_ppid → IsDropped Passed message after
  is_closing : ((name : ℕ) → IsOn after name message.stream → closing_on after message.stream ≡ true) → IsDropped Passed message after
  is_over : after.over ≡ true → IsDropped Passed message after
  is_elsewhere : (e : Endpoint) → Passed e → knows_stream e message.stream ≡ false → IsDropped Passed message after

-- The channel has this stream, and is open.
pub record IsOpenThere (layer : LayerView) (name number : ℕ) : Type 0 where
  pub on : IsOn layer name number
  pub opened : closing_on layer number ≡ false
  pub lasts : layer.over ≡ false

-- From this layer on each message brings one of these, or nothing, and leaves a layer. These channels had these streams. What is read on
-- a channel comes after its OPEN.
pub data Heard (pairs : List (ℕ × ℕ)) (Passed : Endpoint → Type 0) (now : LayerView) : LayerView → List MessageContent → List OpenedChannel → List NamedContent → Type 0 where
  none_heard : (old : LayerView) → KeepStreams [] old now → Heard pairs Passed now old [] [] []
  a_dropped : (old after : LayerView) (message : MessageContent) (read : List MessageContent) (channels : List OpenedChannel) (contents : List NamedContent)
      → KeepStreams [] old after → IsDropped Passed message after → Heard pairs Passed now after read channels contents → Heard pairs Passed now old (message ∷ read) channels contents
  a_channel : (old after : LayerView) (message : MessageContent) (channel : OpenedChannel) (read : List MessageContent) (channels : List OpenedChannel) (contents : List NamedContent)
      → KeepStreams [] old after → SaysOpen message channel → IsNoted pairs channel.name message → IsOn after channel.name message.stream → Heard pairs Passed now after read channels contents
      → Heard pairs Passed now old (message ∷ read) (channel ∷ channels) contents
  a_message : (old after : LayerView) (message : MessageContent) (named : NamedContent) (read : List MessageContent) (channels : List OpenedChannel) (contents : List NamedContent)
      → KeepStreams [] old after → SaysContent message named.content → IsNoted pairs named.name message → AreNamedElse named.name channels → IsOpenThere after named.name message.stream
      → Heard pairs Passed now after read channels contents → Heard pairs Passed now old (message ∷ read) channels (named ∷ contents)

-- ---- one after another

dropped_more : (P Q : Endpoint → Type 0) (message : MessageContent) (after : LayerView) → ((e : Endpoint) → P e → Q e) → IsDropped P message after → IsDropped Q message after
dropped_more P Q message after passed (is_control control) = is_control control
dropped_more P Q message after passed (is_closing closing) = is_closing closing
dropped_more P Q message after passed (is_over over) = is_over over
dropped_more P Q message after passed (is_elsewhere e at none) = is_elsewhere e (passed e at) none

heard_more : (ps qs : List (ℕ × ℕ)) (P Q : Endpoint → Type 0) (now old : LayerView) (xs : List MessageContent) (os : List OpenedChannel) (cs : List NamedContent) → ((pair : ℕ × ℕ) → HasEntry pair ps → HasEntry pair qs)
    → ((e : Endpoint) → P e → Q e) → Heard ps P now old xs os cs → Heard qs Q now old xs os cs
heard_more ps qs P Q now _ _ _ _ more passed (none_heard old keeps) = none_heard old keeps
heard_more ps qs P Q now _ _ _ _ more passed (a_dropped old after message read channels contents keeps why rest) =
    a_dropped old after message read channels contents keeps (dropped_more P Q message after passed why) (heard_more ps qs P Q now after read channels contents more passed rest)
heard_more ps qs P Q now _ _ _ _ more passed (a_channel old after message channel read channels contents keeps is noted on rest) =
    a_channel old after message channel read channels contents keeps is (more (channel.name, message.stream) noted) on (heard_more ps qs P Q now after read channels contents more passed rest)
heard_more ps qs P Q now _ _ _ _ more passed (a_message old after message named read channels contents keeps is noted others_else open_there rest) =
    a_message old after message named read channels contents keeps is (more (named.name, message.stream) noted) others_else open_there (heard_more ps qs P Q now after read channels contents more passed rest)

-- what is heard from a layer on is heard from one before
pub heard_from : (ps : List (ℕ × ℕ)) (P : Endpoint → Type 0) (now first old : LayerView) (xs : List MessageContent) (os : List OpenedChannel) (cs : List NamedContent) → KeepStreams [] first old
    → Heard ps P now old xs os cs → Heard ps P now first xs os cs
heard_from ps P now first _ _ _ _ before (none_heard old keeps) = none_heard first (keep_then [] [] first old now before keeps)
heard_from ps P now first _ _ _ _ before (a_dropped old after message read channels contents keeps why rest) =
    a_dropped first after message read channels contents (keep_then [] [] first old after before keeps) why rest
heard_from ps P now first _ _ _ _ before (a_channel old after message channel read channels contents keeps is noted on rest) =
    a_channel first after message channel read channels contents (keep_then [] [] first old after before keeps) is noted on rest
heard_from ps P now first _ _ _ _ before (a_message old after message named read channels contents keeps is noted others_else open_there rest) =
    a_message first after message named read channels contents (keep_then [] [] first old after before keeps) is noted others_else open_there rest

module _ (ps qs : List (ℕ × ℕ)) (P Q : Endpoint → Type 0) (more : (pair : ℕ × ℕ) → HasEntry pair ps → HasEntry pair qs) (passed : (e : Endpoint) → P e → Q e) (between now : LayerView) where
  heard_both : (old : LayerView) (xs ys : List MessageContent) (os us : List OpenedChannel) (cs ds : List NamedContent) → ((name number : ℕ) → HasEntry (name, number) ps → AreNamedElse name us)
      → Heard ps P between old xs os cs → Heard qs Q now between ys us ds → Heard qs Q now old (xs ++ ys) (os ++ us) (cs ++ ds)
  heard_both _ _ ys _ us _ ds later (none_heard old keeps) second = heard_from qs Q now old between ys us ds keeps second
  heard_both _ _ ys _ us _ ds later (a_dropped old after message read channels contents keeps why first) second =
      a_dropped old after message (read ++ ys) (channels ++ us) (contents ++ ds) keeps (dropped_more P Q message after passed why) (heard_both after read ys channels us contents ds later first second)
  heard_both _ _ ys _ us _ ds later (a_channel old after message channel read channels contents keeps is noted on first) second =
      a_channel old after message channel (read ++ ys) (channels ++ us) (contents ++ ds) keeps is (more (channel.name, message.stream) noted) on (heard_both after read ys channels us contents ds later first second)
  heard_both _ _ ys _ us _ ds later (a_message old after message named read channels contents keeps is noted others_else open_there first) second =
      a_message old after message named (read ++ ys) (channels ++ us) (contents ++ ds) keeps is (more (named.name, message.stream) noted)
      (all_both (λ (channel : OpenedChannel). channel.name ≡ named.name → ⊥) channels us others_else (later named.name message.stream noted)) open_there (heard_both after read ys channels us contents ds later first second)

pub heard_then : (ps qs : List (ℕ × ℕ)) (P Q All : Endpoint → Type 0) (old between now : LayerView) (xs ys : List MessageContent) (os us : List OpenedChannel) (cs ds : List NamedContent)
    → ((e : Endpoint) → P e → All e) → ((e : Endpoint) → Q e → All e) → ((name number : ℕ) → HasEntry (name, number) ps → AreNamedElse name us)
    → Heard ps P between old xs os cs → Heard qs Q now between ys us ds → Heard (ps ++ qs) All now old (xs ++ ys) (os ++ us) (cs ++ ds)
heard_then ps qs P Q All old between now xs ys os us cs ds early late later first second =
    heard_both ps (ps ++ qs) P All (λ pair has. entry_before pair ps qs has) early between now old xs ys os us cs ds later first
    (heard_more qs (ps ++ qs) Q All now between ys us ds (λ pair has. entry_behind pair ps qs has) late second)
