-- Lemmas on streams of a snapshot.
use Rattle.std.proofs.Common.{◌≡◌, ◌==◌, ◌+◌, ◌^◌, ◌≤◌, ℕ, Bool, true, false, List, [], ◌∷◌, ◌++◌, map, Some, if◌then◌else◌, arith, refl, ◌∙◌, ap, subst}
use Rattle.std.specs.List.{sum_by}
use Rattle.std.specs.Map.{values_of}
use Rattle.std.specs.BTreeMap.{BTreeMap, insert_entry, IsOrdered, UpdatesBy}
use Rattle.std.specs.Ordering.{nat_cmp}
use Rattle.std.proofs.lemmas.Bool.Decides.{nat_tests}
use Rattle.std.proofs.lemmas.Cmp.{nat_cmp_total}
use Rattle.std.proofs.lemmas.Map.Entries.{sum_by-insert_entry}
use Rattle.dcsctp_api.specs.types.declared.snapshot.HandoverOrderedStream.{HandoverOrderedStream}
use Rattle.dcsctp_api.specs.spec.queues.Incoming.{stream_on}
use Rattle.dcsctp_api.specs.spec.queues.IncomingStreams.{StreamModel, new_stream, kept_stream_used, streams_used}
use Rattle.dcsctp_api.specs.spec.queues.ReceivedParts.{restored_stream}
use Rattle.dcsctp_receive_reassembly.specs.declared.stream.Stream.{Stream}
use Rattle.dcsctp_receive_reassembly.specs.Handover.{restored_over}
use Rattle.dcsctp_receive_reassembly.specs.Reassembly.{entry_of}
use Rattle.dcsctp_receive_reassembly.specs.Streams.{stream_model}
use Rattle.dcsctp_receive_reassembly.proofs.ReassemblyLemmas.{stream_on-get, stream_on-other}
use Rattle.dcsctp_receive_reassembly.proofs.StreamSums.{used_of, streams_used-values}

same_from : (m n : ℕ) → (m == n) ≡ true → m ≡ n
same_from m n is = grind (arith, nat_tests)

apart_from : (m n : ℕ) → (m == n) ≡ false → n ≡ m → ⊥
apart_from m n is same = grind (arith, nat_tests)

-- a stream of the snapshot is put into the map
pub put_restored : (state : HandoverOrderedStream) (old new : BTreeMap ℕ Stream) (stream : Stream) → UpdatesBy nat_cmp (nat_cmp state.id) old new (Some stream) → stream_model stream ≡ restored_stream state.id (state ∷ []) → (id : ℕ) → stream_on id (map entry_of new.entries) ≡ restored_over (state ∷ []) id (stream_on id (map entry_of old.entries))
put_restored state old new stream updates restored id = go (state.id == id) refl
  where
    go : (is_it : Bool) → (state.id == id) ≡ is_it → stream_on id (map entry_of new.entries) ≡ (if is_it then restored_stream id (state ∷ []) else stream_on id (map entry_of old.entries))
    go true is = subst (λ (other : ℕ). stream_on other (map entry_of new.entries) ≡ restored_stream other (state ∷ [])) (same_from state.id id is) (stream_on-get state.id new (Some stream) updates.1 ∙ restored)
    go false is = stream_on-other state.id id old new stream updates (apart_from state.id id is)

-- it uses nothing of the receive window
restored_empty : (overhead : ℕ) (state : HandoverOrderedStream) → kept_stream_used overhead (restored_stream state.id (state ∷ [])) ≡ 0
restored_empty overhead state = go (state.id == state.id)
  where
    go : (is_it : Bool) → kept_stream_used overhead (if is_it then record (new_stream state.id) { next = 2 ^ 32 + state.next_ssn } else new_stream state.id) ≡ 0
    go true = refl
    go false = refl

pub put_used : (overhead : ℕ) (state : HandoverOrderedStream) (old new : BTreeMap ℕ Stream) (stream : Stream) → new.entries ≡ insert_entry nat_cmp old.entries state.id stream → IsOrdered nat_cmp old → stream_model stream ≡ restored_stream state.id (state ∷ []) → streams_used overhead (map entry_of new.entries) ≤ streams_used overhead (map entry_of old.entries)
put_used overhead state old new stream entries ordered restored =
    let empty : used_of overhead stream ≡ 0 = ap (kept_stream_used overhead) restored ∙ restored_empty overhead state in
    omega (
      arith,
      empty,
      ap (λ es. sum_by (used_of overhead) (values_of es)) entries,
      streams_used-values overhead old.entries,
      streams_used-values overhead new.entries,
      sum_by-insert_entry (used_of overhead) nat_cmp_total old.entries state.id stream ordered,
    )

-- the last of a list is put first
pub restored_last : (states : List HandoverOrderedStream) (last : HandoverOrderedStream) (id : ℕ) (before : StreamModel) → restored_over (states ++ last ∷ []) id before ≡ restored_over states id (restored_over (last ∷ []) id before)
restored_last [] last id before = refl
restored_last (state ∷ states) last id before = ap (λ (rest : StreamModel). if state.id == id then restored_stream id (state ∷ []) else rest) (restored_last states last id before)

-- all of them, where nothing was received
pub restored_all : (states : List HandoverOrderedStream) (id : ℕ) → restored_over states id (new_stream id) ≡ restored_stream id states
restored_all [] id = refl
restored_all (state ∷ states) id = go (state.id == id) (restored_all states id)
  where
    go : (is_it : Bool) → restored_over states id (new_stream id) ≡ restored_stream id states → (if is_it then (if is_it then record (new_stream id) { next = 2 ^ 32 + state.next_ssn } else new_stream id) else restored_over states id (new_stream id)) ≡ (if is_it then record (new_stream id) { next = 2 ^ 32 + state.next_ssn } else restored_stream id states)
    go true rest = refl
    go false rest = rest
