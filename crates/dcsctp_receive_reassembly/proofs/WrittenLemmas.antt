-- Lemmas on a stream of a map that is skipped on or removed.
use Rattle.std.proofs.Common.{◌≡◌, ◌==◌, ℕ, Bool, true, false, map, None, if◌then◌else◌, arith, refl, sym, ◌∙◌, ap, subst}
use Rattle.std.specs.BTreeMap.{BTreeMap, is_at, UpdatesBy}
use Rattle.std.specs.Ordering.{nat_cmp}
use Rattle.std.proofs.lemmas.Bool.Decides.{nat_tests}
use Rattle.dcsctp_api.specs.types.declared.arrivals.SkippedTo.{SkippedTo}
use Rattle.dcsctp_receive_reassembly.specs.declared.stream.Stream.{Stream}
use Rattle.dcsctp_receive_reassembly.specs.Streams.{stream_model}
use Rattle.dcsctp_api.specs.spec.queues.IncomingStreams.{new_stream, stream_after_skip, skipped_stream}
use Rattle.dcsctp_receive_reassembly.specs.Reassembly.{entry_of}
use Rattle.dcsctp_api.specs.spec.queues.Incoming.{stream_on, skipped_on}
use Rattle.dcsctp_receive_reassembly.proofs.ReassemblyLemmas.{stream_on-get, stream_on-same, same_key}
use Rattle.dcsctp_receive_reassembly.proofs.StreamSums.{Written}

same_from : (m n : ℕ) → (m == n) ≡ true → m ≡ n
same_from m n is = grind (arith, nat_tests)

apart_from : (m n : ℕ) → (m == n) ≡ false → n ≡ m → ⊥
apart_from m n is same = grind (arith, nat_tests)

pub skipped_written : (entry : SkippedTo) (old new : BTreeMap ℕ Stream) (before after : Stream) → Written (skipped_stream entry) old new before after → stream_model after ≡ stream_after_skip entry (stream_model before) → (id : ℕ) → stream_on id (map entry_of new.entries) ≡ skipped_on entry id (stream_on id (map entry_of old.entries))
skipped_written entry old new before after written skips id = go (skipped_stream entry == id) refl
  where
    here : stream_on (skipped_stream entry) (map entry_of new.entries) ≡ stream_after_skip entry (stream_on (skipped_stream entry) (map entry_of old.entries))
    here = written.becomes ∙ skips ∙ ap (λ stream. stream_after_skip entry stream) (sym written.was)

    go : (is_it : Bool) → (skipped_stream entry == id) ≡ is_it → stream_on id (map entry_of new.entries) ≡ (if is_it then stream_after_skip entry (stream_on id (map entry_of old.entries)) else stream_on id (map entry_of old.entries))
    go true is = subst (λ (key : ℕ). stream_on key (map entry_of new.entries) ≡ stream_after_skip entry (stream_on key (map entry_of old.entries))) (same_from (skipped_stream entry) id is) here
    go false is = written.others id (apart_from (skipped_stream entry) id is)

pub removed_stream : (key : ℕ) (old new : BTreeMap ℕ Stream) → UpdatesBy nat_cmp (nat_cmp key) old new None → (id : ℕ) → stream_on id (map entry_of new.entries) ≡ (if key == id then new_stream id else stream_on id (map entry_of old.entries))
removed_stream key old new updates id = go (key == id) refl
  where
    go : (is_it : Bool) → (key == id) ≡ is_it → stream_on id (map entry_of new.entries) ≡ (if is_it then new_stream id else stream_on id (map entry_of old.entries))
    go true is = subst (λ (other : ℕ). stream_on other (map entry_of new.entries) ≡ new_stream other) (same_from key id is) (stream_on-get key new None updates.1)
    go false is = elsewhere (is_at (nat_cmp key) id) refl
      where
        elsewhere : (at : Bool) → is_at (nat_cmp key) id ≡ at → stream_on id (map entry_of new.entries) ≡ stream_on id (map entry_of old.entries)
        elsewhere true at = absurd (apart_from key id is (sym (same_key key id at)))
        elsewhere false at = stream_on-same id old new (updates.2 id at)
