-- How much of the receive window the streams of a map use once one is made, written or removed.
use Rattle.std.proofs.Common.{◌≡◌, ℕ, ◌+◌, ◌≤◌, Bool, true, false, List, [], ◌∷◌, map, Option, Some, None, arith, refl, sym, ap, subst}
use Rattle.std.specs.Prelude.{unwrap_or, IsSome}
use Rattle.std.specs.Option.{option_map}
use Rattle.std.specs.List.{sum_by}
use Rattle.std.specs.Map.{lookup, values_of, remove_entry, set_value}
use Rattle.std.specs.BTreeMap.{BTreeMap, get, is_at, insert_entry, IsOrdered, UpdatesBy, WritesThrough}
use Rattle.std.specs.Ordering.{nat_cmp}
use Rattle.std.proofs.lemmas.Cmp.{nat_cmp_total}
use Rattle.std.proofs.lemmas.List.Sums.{sum_by-cons}
use Rattle.std.proofs.lemmas.Map.Entries.{sum_by-insert_entry, sum_by-remove_entry, sum_by-set_value}
use Rattle.dcsctp_receive_reassembly.specs.declared.stream.Stream.{Stream}
use Rattle.dcsctp_api.specs.spec.queues.IncomingStreams.{kept_stream_used, streams_used}
use Rattle.dcsctp_api.specs.spec.queues.IncomingStreams.{StreamModel, new_stream}
use Rattle.dcsctp_receive_reassembly.specs.Streams.{stream_model}
use Rattle.dcsctp_receive_reassembly.specs.Reassembly.{entry_of}
use Rattle.dcsctp_api.specs.spec.queues.Incoming.{stream_on}
use Rattle.dcsctp_receive_reassembly.proofs.ReassemblyLemmas.{stream_on-get, stream_on-other, same_key}

module _ (overhead : ℕ) where
  abbrev pub used_of : Stream → ℕ
  used_of stream = kept_stream_used overhead (stream_model stream)

  pub streams_used-values : (entries : List (ℕ × Stream)) → streams_used overhead (map entry_of entries) ≡ sum_by used_of (values_of entries)
  streams_used-values [] = refl
  streams_used-values (entry ∷ entries) =
      omega (arith, streams_used-values entries, sum_by-cons (λ (e : ℕ × StreamModel). kept_stream_used overhead e.1) (entry_of entry) (map entry_of entries), sum_by-cons used_of entry.1 (values_of entries))

  -- a stream on which nothing came in is made
  pub streams_used-made : (id : ℕ) (old new : BTreeMap ℕ Stream) (stream : Stream) → new.entries ≡ insert_entry nat_cmp old.entries id stream → IsOrdered nat_cmp old → get nat_cmp old id ≡ None → stream_model stream ≡ new_stream id → streams_used overhead (map entry_of new.entries) ≡ streams_used overhead (map entry_of old.entries)
  streams_used-made id old new stream entries ordered absent fresh =
      let none : unwrap_or (option_map used_of (lookup (is_at (nat_cmp id)) old.entries)) 0 ≡ 0 = ap (λ o. unwrap_or (option_map used_of o) 0) absent in
      let empty : used_of stream ≡ 0 = ap (kept_stream_used overhead) fresh in
      omega (
        arith,
        none,
        empty,
        ap (λ es. sum_by used_of (values_of es)) entries,
        streams_used-values old.entries,
        streams_used-values new.entries,
        sum_by-insert_entry used_of nat_cmp_total old.entries id stream ordered,
      )

  -- a stream that is there is written
  pub streams_used-written : (id : ℕ) (old new : BTreeMap ℕ Stream) (before after : Stream) → new.entries ≡ set_value (is_at (nat_cmp id)) old.entries after → get nat_cmp old id ≡ Some before → streams_used overhead (map entry_of new.entries) + used_of before ≡ streams_used overhead (map entry_of old.entries) + used_of after
  streams_used-written id old new before after entries found =
      omega (
        arith,
        ap (λ es. sum_by used_of (values_of es)) entries,
        streams_used-values old.entries,
        streams_used-values new.entries,
        sum_by-set_value used_of (is_at (nat_cmp id)) old.entries before after found,
      )

  -- a stream uses no more than all do
  streams_used-among : (id : ℕ) (old : BTreeMap ℕ Stream) (before : Stream) → get nat_cmp old id ≡ Some before → used_of before ≤ streams_used overhead (map entry_of old.entries)
  streams_used-among id old before found =
      omega (
        arith,
        ap (λ (o : Option Stream). unwrap_or (option_map used_of o) 0) found,
        streams_used-values old.entries,
        sum_by-remove_entry used_of (is_at (nat_cmp id)) old.entries,
      )

  stream_or_none : (id : ℕ) (o : Option Stream) (streams : BTreeMap ℕ Stream) → get nat_cmp streams id ≡ o → unwrap_or (option_map used_of o) 0 ≡ kept_stream_used overhead (stream_on id (map entry_of streams.entries))
  stream_or_none id None streams is = ap (kept_stream_used overhead) (sym (stream_on-get id streams None is))
  stream_or_none id (Some stream) streams is = ap (kept_stream_used overhead) (sym (stream_on-get id streams (Some stream) is))

  -- a stream is removed, where it is there
  pub streams_used-removed : (id : ℕ) (old new : BTreeMap ℕ Stream) → new.entries ≡ remove_entry (is_at (nat_cmp id)) old.entries → streams_used overhead (map entry_of new.entries) + kept_stream_used overhead (stream_on id (map entry_of old.entries)) ≡ streams_used overhead (map entry_of old.entries)
  streams_used-removed id old new entries =
      omega (
        arith,
        ap (λ es. sum_by used_of (values_of es)) entries,
        streams_used-values old.entries,
        streams_used-values new.entries,
        stream_or_none id (get nat_cmp old id) old refl,
        sum_by-remove_entry used_of (is_at (nat_cmp id)) old.entries,
      )

-- What is known of a map once the stream at an identifier was written.
pub record Written (id : ℕ) (old new : BTreeMap ℕ Stream) (before after : Stream) : Type 0 where
  pub was : stream_on id (map entry_of old.entries) ≡ stream_model before
  pub becomes : stream_on id (map entry_of new.entries) ≡ stream_model after
  pub others : (other : ℕ) → (other ≡ id → ⊥) → stream_on other (map entry_of new.entries) ≡ stream_on other (map entry_of old.entries)
  pub used : (overhead : ℕ) → streams_used overhead (map entry_of new.entries) + used_of overhead before ≡ streams_used overhead (map entry_of old.entries) + used_of overhead after
  pub among : (overhead : ℕ) → used_of overhead before ≤ streams_used overhead (map entry_of old.entries)
  pub made : (other : ℕ) → IsSome (get nat_cmp old other) → IsSome (get nat_cmp new other)

some_from : {X : Type 0} (o : Option X) (x : X) → o ≡ Some x → IsSome o
some_from None x is = absurd (cc)
some_from (Some y) x is = refl

pub stream_written : (id : ℕ) (old new : BTreeMap ℕ Stream) (before after : Stream) → get nat_cmp old id ≡ Some before → WritesThrough nat_cmp (nat_cmp id) old after new → Written id old new before after
stream_written id old new before after found writes =
    let updates : UpdatesBy nat_cmp (nat_cmp id) old new (Some after) = writes.3 (some_from (get nat_cmp old id) before found) in
    record {
      was = stream_on-get id old (Some before) found;
      becomes = stream_on-get id new (Some after) updates.1;
      others = λ other apart. stream_on-other id other old new after updates apart;
      used = λ overhead. streams_used-written overhead id old new before after writes.0 found;
      among = λ overhead. streams_used-among overhead id old before found;
      made = λ other is. go other (is_at (nat_cmp id) other) refl is;
    }
  where
    go : (other : ℕ) (at : Bool) → is_at (nat_cmp id) other ≡ at → IsSome (get nat_cmp old other) → IsSome (get nat_cmp new other)
    go other true at is =
        let updates : UpdatesBy nat_cmp (nat_cmp id) old new (Some after) = writes.3 (some_from (get nat_cmp old id) before found) in
        subst (λ (key : ℕ). IsSome (get nat_cmp new key)) (same_key id other at) (some_from (get nat_cmp new id) after updates.1)
    go other false elsewhere is =
        let updates : UpdatesBy nat_cmp (nat_cmp id) old new (Some after) = writes.3 (some_from (get nat_cmp old id) before found) in
        subst (λ o. IsSome o) (sym (updates.2 other elsewhere)) is

-- a stream that was there is there once another is made
pub made_kept : (key : ℕ) (old new : BTreeMap ℕ Stream) (stream : Stream) → UpdatesBy nat_cmp (nat_cmp key) old new (Some stream) → (other : ℕ) → IsSome (get nat_cmp old other) → IsSome (get nat_cmp new other)
made_kept key old new stream updates other is = go (is_at (nat_cmp key) other) refl
  where
    go : (at : Bool) → is_at (nat_cmp key) other ≡ at → IsSome (get nat_cmp new other)
    go true at = subst (λ (id : ℕ). IsSome (get nat_cmp new id)) (same_key key other at) (some_from (get nat_cmp new key) stream updates.1)
    go false elsewhere = subst (λ o. IsSome o) (sym (updates.2 other elsewhere)) is
