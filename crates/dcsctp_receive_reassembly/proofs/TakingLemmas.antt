-- Data that was taken on a stream of a map, as all that is kept sees it.
use Rattle.std.proofs.Common.{◌≡◌, ◌==◌, ℕ, ◌+◌, ◌-◌, ◌^◌, ◌<◌, Bool, true, false, List, map, arith, refl, sym, ap, subst, ◌∙◌}
use Rattle.std.specs.Prelude.{IsSome}
use Rattle.std.specs.BTreeMap.{BTreeMap, get}
use Rattle.std.specs.Ordering.{nat_cmp}
use Rattle.std.proofs.lemmas.Bool.Decides.{nat_tests}
use Rattle.dcsctp_api.specs.types.declared.arrivals.Taken.{Taken}
use Rattle.dcsctp_api.specs.types.queues.Messages.{MessageContent, message_content}
use Rattle.dcsctp_api.specs.spec.queues.IncomingStreams.{StreamModel, ChunkModel, TakesOnStream, TakesUnordered, TakesAhead, delivered_as, is_number_waiting, kept_stream_used, streams_used, ready_bytes}
use Rattle.dcsctp_api.specs.spec.queues.Runs.{PartModel, RunModel}
use Rattle.dcsctp_api.specs.spec.queues.Incoming.{IncomingModel, SameIncoming, KeepsStreams, TakesStreamData, stream_on, received_more, held_used}
use Rattle.dcsctp_receive_reassembly.specs.declared.counting.Counted.{Counted}
use Rattle.dcsctp_receive_reassembly.specs.declared.incoming.Incoming.{Incoming}
use Rattle.dcsctp_receive_reassembly.specs.declared.stream.Stream.{Stream}
use Rattle.dcsctp_receive_reassembly.specs.Counting.{CountsPart}
use Rattle.dcsctp_receive_reassembly.specs.Held.{capped_u128}
use Rattle.dcsctp_receive_reassembly.specs.Reassembly.{entry_of, incoming_of, Balances}
use Rattle.dcsctp_receive_reassembly.specs.Streams.{stream_model}
use Rattle.dcsctp_receive_reassembly.proofs.CountingLemmas.{counts_written}
use Rattle.dcsctp_receive_reassembly.proofs.StreamSums.{Written}

-- Each stream is unchanged where one is, and all others.
pub keeps_each : (key : ℕ) (old new : List (ℕ × StreamModel)) → stream_on key new ≡ stream_on key old → ((other : ℕ) → (other ≡ key → ⊥) → stream_on other new ≡ stream_on other old) → KeepsStreams old new
keeps_each key old new here others id = go (id == key) refl
  where
    go : (same : Bool) → (id == key) ≡ same → stream_on id new ≡ stream_on id old
    go true is =
        let same : id ≡ key = grind (arith, nat_tests) in
        subst (λ (other : ℕ). stream_on other new ≡ stream_on other old) (sym same) here
    go false is = others id (λ (same : id ≡ key). let test : (id == key) ≡ true = grind (arith, nat_tests) in absurd (cc))

-- A stream was made, and then written.
pub written_once_made : (id : ℕ) (old made new : BTreeMap ℕ Stream) (before after : Stream) → KeepsStreams (map entry_of old.entries) (map entry_of made.entries)
    → ((overhead : ℕ) → streams_used overhead (map entry_of made.entries) ≡ streams_used overhead (map entry_of old.entries))
    → ((other : ℕ) → IsSome (get nat_cmp old other) → IsSome (get nat_cmp made other)) → Written id made new before after → Written id old new before after
written_once_made id old made new before after keeps uses stay written =
    record {
      was = sym (keeps id) ∙ written.was;
      becomes = written.becomes;
      others = λ other apart. written.others other apart ∙ keeps other;
      used = λ overhead. omega (arith, written.used overhead, uses overhead);
      among = λ overhead. omega (arith, written.among overhead, uses overhead);
      made = λ other is. written.made other (stay other is);
    }

-- all that is kept, once data with this number was taken
abbrev taken_up_to : ℕ → Taken → BTreeMap ℕ Stream → List MessageContent → IncomingModel → IncomingModel
taken_up_to tsn_number taken streams ready old =
    record old { messages_received = received_more taken.ready old.messages_received; ready = ready; streams = map entry_of streams.entries; last_tsn_number = tsn_number }

module _ (chunk : ChunkModel) (old : Incoming) (streams : BTreeMap ℕ Stream) (before after : Stream) (written : Written chunk.stream old.streams streams before after) where
  pub taken_on_stream : (tsn_number : ℕ) (taken : Taken) (ready : List MessageContent) (new : IncomingModel)
      → TakesOnStream tsn_number chunk (stream_model before) (map message_content old.ready.items) taken (stream_model after) ready
      → new ≡ taken_up_to tsn_number taken streams ready (incoming_of old) → TakesStreamData tsn_number chunk (incoming_of old) new
  taken_on_stream tsn_number taken ready new takes is =
      let already = map message_content old.ready.items in
      subst (λ (incoming : IncomingModel). TakesStreamData tsn_number chunk (incoming_of old) incoming) (sym is)
      (record {
        taken = taken;
        does = subst (λ (stream : StreamModel). TakesOnStream tsn_number chunk stream already taken (stream_on chunk.stream (map entry_of streams.entries)) ready) (sym written.was)
            (subst (λ (stream : StreamModel). TakesOnStream tsn_number chunk (stream_model before) already taken stream ready) (sym written.becomes) takes);
        others = written.others;
        received = refl;
        unordered = refl;
      })

  pub balanced_on_stream : (overhead size tsn_number : ℕ) (counted : Counted) (ready : List MessageContent) (new : Incoming)
      → CountsPart (size + overhead) (kept_stream_used overhead (stream_model before) + ready_bytes (map message_content old.ready.items)) counted (kept_stream_used overhead (stream_model after) + ready_bytes ready)
      → old.used + (size + overhead) < 2 ^ 128 → incoming_of new ≡ taken_up_to tsn_number counted.taken streams ready (incoming_of old) → new.used ≡ capped_u128 (old.used - counted.freed + counted.added) → Balances overhead old new
  balanced_on_stream overhead size tsn_number counted ready new counts short is used = λ within.
      let all = counts_written _ _ _ _ _ _ _ counted (written.used overhead) counts (written.among overhead) in
      omega (arith, within, all.fits, all.added, all.less, all.freed, short, used, ap (held_used overhead) is)

  -- an allocation failed
  pub same_on_stream : (ready : List MessageContent) → stream_model after ≡ stream_model before → ready ≡ map message_content old.ready.items
      → SameIncoming (incoming_of old) (record (incoming_of old) { ready = ready; streams = map entry_of streams.entries })
  same_on_stream ready same same_ready =
      record {
        ready = same_ready;
        received = refl;
        streams = keeps_each chunk.stream (map entry_of old.streams.entries) (map entry_of streams.entries) (written.becomes ∙ same ∙ sym written.was) written.others;
        unordered = refl;
        last = refl;
      }

  pub balanced_unchanged : (overhead : ℕ) (new : Incoming) → stream_model after ≡ stream_model before → map message_content new.ready.items ≡ map message_content old.ready.items
      → incoming_of new ≡ record (incoming_of old) { ready = map message_content new.ready.items; streams = map entry_of streams.entries } → new.used ≡ old.used → Balances overhead old new
  balanced_unchanged overhead new same ready is used = λ within.
      omega (arith, used, written.used overhead, ap (kept_stream_used overhead) same, ap ready_bytes ready, ap (held_used overhead) is)

-- a part of a message whose number a waiting one has is taken
pub taken_repeated : (part : PartModel) (old : StreamModel) (before : List MessageContent) (taken : Taken) (runs : List RunModel) (after : List MessageContent) → is_number_waiting part.number old.waiting ≡ true
    → TakesUnordered part (delivered_as old.id) old.ordered before taken runs after → TakesAhead part old before taken (record old { ordered = runs }) after
taken_repeated part old before taken runs after waits takes =
    record { repeated = λ _. record { ordered = takes; others = (refl, refl, refl, refl); last = refl }; fresh = λ free. absurd (cc) }
