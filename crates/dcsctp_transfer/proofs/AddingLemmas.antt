-- Lemmas on chunks that go into a packet: their sizes, and their room.
use Rattle.std.proofs.Common.{◌≡◌, ◌∙◌, Bool, Some, ℕ, zero, suc, ◌+◌, ◌-◌, ◌%◌, ◌^◌, ◌<◌, ◌≤◌, List, [], ◌∷◌, ◌++◌, length, map, take, drop, get_or, append_assoc, length-append, refl, ap, sym, subst, arith}
use Rattle.std.specs.List.{AllByRecursion, flat_map, slice_get}
use Rattle.std.proofs.lemmas.Option.{slice_get_within}
use Rattle.std.proofs.lemmas.List.{append-nil}
use Rattle.std.proofs.lemmas.Grind.{flat_map-append}
use Rattle.dcsctp_send_retransmission.specs.wire.Content.{DataContent, IDataContent, ChunkContent, data_chunk, i_data_chunk}
use Rattle.dcsctp_send_retransmission.specs.wire.ReadsBack.{IsByte, FitsChunk}
use Rattle.dcsctp_send_retransmission.specs.wire.Spelling.{chunk_bytes, data_fields, i_data_fields}
use Rattle.dcsctp_send_retransmission.specs.wire.declared.chunk.user_data.DataFlags.{DataFlags}
use Rattle.dcsctp_send_retransmission.proofs.wire_lemmas.Lengths.{length-chunk_bytes, length-data_fields, length-i_data_fields}
use Rattle.dcsctp_wire_build.specs.Building.{Building, bytes_remaining}
use Rattle.dcsctp_send_retransmission.specs.spec.Packet.{unworked}
use Rattle.dcsctp_send_retransmission.specs.spec.queues.Chunks.{byte_field, flags_said, data_said, i_data_said, chunk_said, IsChunkOfItem, AreChunksOfTsns}
use Rattle.dcsctp_send_retransmission.specs.spec.queues.Items.{Item, chunk_size}
use Rattle.dcsctp_send_retransmission.specs.spec.queues.Outstanding.{OutstandingState, header_of, header, distance_to}
use Rattle.dcsctp_send_retransmission.specs.spec.queues.Sending.{Fragment}
use Rattle.dcsctp_send_retransmission.specs.Outstanding.{FindsPlaces}
use Rattle.dcsctp_send_retransmission.specs.Sending.{HasFragment, PacksOutstanding, HandsOut, none as none_packed, more as more_packed}
use Rattle.dcsctp_transfer.specs.Adding.{HasChunk, HaveChunks, none, more, HasChunkWithin, AddsChunk, AddsChunkOf, AddsChunks, HasRoomForRest}

-- ---- sizes

-- bytes that fit theirs each
pub all_bytes : (xs : List ℕ) → ((k : ℕ) → get_or xs k 0 < 2 ^ 8) → AllByRecursion IsByte xs
all_bytes [] each = tt
all_bytes (x ∷ xs) each = (each 0, all_bytes xs (λ k. each (suc k)))

pub data_size : (chunk : DataContent) → 16 + length chunk.payload < 2 ^ 16 → length (chunk_bytes (data_chunk chunk)) ≡ chunk_size 16 (length chunk.payload)
data_size chunk short =
    omega (arith, short, length-chunk_bytes (data_chunk chunk), length-data_fields chunk, length-append (data_fields chunk) chunk.payload)

pub i_data_size : (chunk : IDataContent) → 20 + length chunk.payload < 2 ^ 16 → length (chunk_bytes (i_data_chunk chunk)) ≡ chunk_size 20 (length chunk.payload)
i_data_size chunk short =
    omega (arith, short, length-chunk_bytes (i_data_chunk chunk), length-i_data_fields chunk, length-append (i_data_fields chunk) chunk.payload)

-- Each byte is as its field holds it.
bytes_said : (xs : List ℕ) → AllByRecursion IsByte xs → map byte_field xs ≡ xs
bytes_said [] each = refl
bytes_said (x ∷ xs) each =
    let here : byte_field x ≡ x = omega (arith, each.0) in
    rw (here, bytes_said xs each.1) refl

pub data_is : (flags : DataFlags) (tsn stream_id ssn ppid : ℕ) (payload : List ℕ) (part : Fragment) → flags ≡ flags_said part → tsn < 2 ^ 32 → payload ≡ part.payload → AllByRecursion IsByte payload
    → data_chunk (record { flags = flags; tsn = tsn; stream_id = stream_id; ssn = ssn; ppid = ppid; payload = payload })
    ≡ data_chunk (record (data_said tsn part) { stream_id = stream_id; ssn = ssn; ppid = ppid })
data_is flags tsn stream_id ssn ppid payload part flags_are small payload_is bytes =
    let said : tsn % 2 ^ 32 ≡ tsn = omega arith in
    rw (said, flags_are, ← payload_is, bytes_said payload bytes) refl

pub i_data_is : (flags : DataFlags) (tsn stream_id mid ppid_or_fsn : ℕ) (payload : List ℕ) (part : Fragment) → flags ≡ flags_said part → tsn < 2 ^ 32 → payload ≡ part.payload → AllByRecursion IsByte payload
    → i_data_chunk (record { flags = flags; tsn = tsn; stream_id = stream_id; mid = mid; ppid_or_fsn = ppid_or_fsn; payload = payload })
    ≡ i_data_chunk (record (i_data_said tsn part) { stream_id = stream_id; mid = mid; ppid_or_fsn = ppid_or_fsn })
i_data_is flags tsn stream_id mid ppid_or_fsn payload part flags_are small payload_is bytes =
    let said : tsn % 2 ^ 32 ≡ tsn = omega arith in
    rw (said, flags_are, ← payload_is, bytes_said payload bytes) refl

-- ---- the chunk of a TSN

-- The TSN leads to its place.
pub found_at : (outstanding : OutstandingState) (tsn size : ℕ) → FindsPlaces outstanding → (has : HasChunk outstanding tsn size) → distance_to outstanding tsn ≡ has.place
found_at outstanding tsn size places has = ap (distance_to outstanding) has.is ∙ places has.place (slice_get_within outstanding.items has.place has.item has.at)

pub no_chunk : (outstanding : OutstandingState) (tsn size : ℕ) → FindsPlaces outstanding → length outstanding.items ≤ distance_to outstanding tsn → HasChunk outstanding tsn size → ⊥
no_chunk outstanding tsn size places beyond has =
    let place = found_at outstanding tsn size places has in
    let within = slice_get_within outstanding.items has.place has.item has.at in
    omega (arith, place, within, beyond)

-- the fragment that is found there is its item's
is_found : (outstanding : OutstandingState) (tsn size : ℕ) (part : Fragment) → FindsPlaces outstanding → HasFragment (distance_to outstanding tsn) part outstanding.items → (has : HasChunk outstanding tsn size)
    → has.item.fragment ≡ part
is_found outstanding tsn size part places found has =
    let both : Some has.item ≡ Some found.item = sym has.at ∙ (ap (slice_get outstanding.items) (sym (found_at outstanding tsn size places has)) ∙ found.at) in
    let same : has.item ≡ found.item = cc in
    ap (λ (item : Item). item.fragment) same ∙ found.is

pub adds_chunk : (outstanding : OutstandingState) (interleaving : Bool) (tsn : ℕ) (part : Fragment) (chunk : ChunkContent) (old new : Building) → interleaving ≡ outstanding.is_interleaved → FindsPlaces outstanding
    → HasFragment (distance_to outstanding tsn) part outstanding.items → chunk ≡ chunk_said interleaving tsn part → FitsChunk chunk
    → length (chunk_bytes chunk) ≡ chunk_size (header_of interleaving) (length part.payload) → new ≡ record old { body = old.body ++ chunk_bytes chunk } → AddsChunkOf outstanding tsn old new
adds_chunk outstanding interleaving tsn part chunk old new mode places found says fits size_is is size has =
    let same = is_found outstanding tsn size part places found has in
    record {
      chunk = chunk;
      of = record {
        place = has.place;
        item = has.item;
        at = has.at;
        is = has.is;
        says = ap unworked (says ∙ (ap (λ (b : Bool). chunk_said b tsn part) mode ∙ ap (chunk_said outstanding.is_interleaved tsn) (sym same)));
      };
      is = is;
      fits = fits;
      size_is = size_is
          ∙ (ap (λ (b : Bool). chunk_size (header_of b) (length part.payload)) mode
          ∙ (ap (λ (f : Fragment). chunk_size (header outstanding) (length f.payload)) (sym same) ∙ sym has.size_is));
    }

-- ---- the chunks of TSNs

-- one more at the end
have_more : (outstanding : OutstandingState) (tsns : List ℕ) (sizes tsn size : ℕ) → HaveChunks outstanding tsns sizes → HasChunk outstanding tsn size → HaveChunks outstanding (tsns ++ tsn ∷ []) (sizes + size)
have_more outstanding [] zero tsn size none has =
    let same : size + 0 ≡ 0 + size = omega arith in
    subst (λ (n : ℕ). HaveChunks outstanding (tsn ∷ []) n) same (more tsn size [] 0 has none)
have_more outstanding tsns sizes tsn size (more first length_of others rest chunk have) has =
    let same : length_of + (rest + size) ≡ length_of + rest + size = omega arith in
    subst (λ (n : ℕ). HaveChunks outstanding (first ∷ (others ++ tsn ∷ [])) n) same
    (more first length_of (others ++ tsn ∷ []) (rest + size) chunk (have_more outstanding others rest tsn size have has))

-- those that were handed out
pub have_packed : (outstanding : OutstandingState) (tsns : List ℕ) (used : ℕ) → PacksOutstanding outstanding tsns used → HaveChunks outstanding tsns used
have_packed outstanding [] zero none_packed = none
have_packed outstanding tsns used (more_packed others rest place item tsn size packed at is size_is) =
    have_more outstanding others rest tsn size (have_packed outstanding others rest packed) (record { place = place; item = item; at = at; is = is; size_is = size_is })

-- the first of them, and the others
record First (outstanding : OutstandingState) (tsn : ℕ) (tsns : List ℕ) (sizes : ℕ) : Type 0 where
  pub size : ℕ
  pub rest : ℕ
  pub chunk : HasChunk outstanding tsn size
  pub others : HaveChunks outstanding tsns rest
  pub sum : sizes ≡ size + rest

first_of : (outstanding : OutstandingState) (tsn : ℕ) (tsns : List ℕ) (sizes : ℕ) → HaveChunks outstanding (tsn ∷ tsns) sizes → First outstanding tsn tsns sizes
first_of outstanding tsn tsns sizes (more tsn' size tsns' rest chunk others) =
    record { size = size; rest = rest; chunk = chunk; others = others; sum = refl }

-- ---- one by one

drop_at : (xs : List ℕ) (i d : ℕ) → i < length xs → drop i xs ≡ get_or xs i d ∷ drop (suc i) xs
drop_at [] i d within = absurd (omega arith)
drop_at (x ∷ xs) zero d within = refl
drop_at (x ∷ xs) (suc i) d within = drop_at xs i d (omega arith)

pub rest_of_all : (outstanding : OutstandingState) (tsns : List ℕ) (packet : Building) → HandsOut (bytes_remaining packet) outstanding tsns → HasRoomForRest outstanding 0 tsns packet
rest_of_all outstanding tsns packet hands =
    record { sizes = hands.used; chunks = have_packed outstanding tsns hands.used hands.packed; within = hands.fits }

next_of : (outstanding : OutstandingState) (i d : ℕ) (tsns : List ℕ) (packet : Building) → i < length tsns → (rest : HasRoomForRest outstanding i tsns packet) → First outstanding (get_or tsns i d) (drop (suc i) tsns) rest.sizes
next_of outstanding i d tsns packet within rest =
    first_of outstanding (get_or tsns i d) (drop (suc i) tsns) rest.sizes (subst (λ (xs : List ℕ). HaveChunks outstanding xs rest.sizes) (drop_at tsns i d within) rest.chunks)

-- there is room for the next one
pub next_within : (outstanding : OutstandingState) (i d : ℕ) (tsns : List ℕ) (packet : Building) → i < length tsns → HasRoomForRest outstanding i tsns packet → HasChunkWithin (bytes_remaining packet) outstanding (get_or tsns i d)
next_within outstanding i d tsns packet within rest =
    let next = next_of outstanding i d tsns packet within rest in
    record { size = next.size; chunk = next.chunk; within = omega (arith, next.sum, rest.within) }

room_left : (old new : Building) (chunk : ChunkContent) (size rest : ℕ) → new ≡ record old { body = old.body ++ chunk_bytes chunk } → length (chunk_bytes chunk) ≡ size → size + rest ≤ bytes_remaining old → rest ≤ bytes_remaining new
room_left old new chunk size rest is size_is within =
    let left : bytes_remaining new ≡ old.size - 12 - length (old.body ++ chunk_bytes chunk) = ap bytes_remaining is in
    omega (arith, left, length-append old.body (chunk_bytes chunk), size_is, within)

-- what is left once it is added
pub rest_after : (outstanding : OutstandingState) (i d : ℕ) (tsns : List ℕ) (old new : Building) → i < length tsns → HasRoomForRest outstanding i tsns old → AddsChunkOf outstanding (get_or tsns i d) old new → HasRoomForRest outstanding (suc i) tsns new
rest_after outstanding i d tsns old new within rest adds =
    let next = next_of outstanding i d tsns old within rest in
    let one = adds next.size next.chunk in
    record {
      sizes = next.rest;
      chunks = next.others;
      within = room_left old new one.chunk next.size next.rest one.is one.size_is (omega (arith, next.sum, rest.within));
    }

-- ---- what was added

pub adds_none : (outstanding : OutstandingState) (packet : Building) → AddsChunks outstanding [] packet packet
adds_none outstanding packet =
    record { chunks = []; are = tt; is = ap (λ (body : List ℕ). record packet { body = body }) (sym (append-nil packet.body)); fits = tt }

all_with : (P : ChunkContent → Type 0) (chunks : List ChunkContent) (chunk : ChunkContent) → AllByRecursion P chunks → P chunk → AllByRecursion P (chunks ++ chunk ∷ [])
all_with P [] chunk all here = (here, tt)
all_with P (x ∷ xs) chunk all here = (all.0, all_with P xs chunk all.1 here)

are_with : (outstanding : OutstandingState) (tsns : List ℕ) (tsn : ℕ) (chunks : List ChunkContent) (chunk : ChunkContent) → AreChunksOfTsns outstanding tsns (map unworked chunks) → IsChunkOfItem outstanding tsn (unworked chunk)
    → AreChunksOfTsns outstanding (tsns ++ tsn ∷ []) (map unworked (chunks ++ chunk ∷ []))
are_with outstanding [] tsn [] chunk are of = (of, tt)
are_with outstanding [] tsn (first ∷ chunks) chunk are of = absurd are
are_with outstanding (other ∷ tsns) tsn [] chunk are of = absurd are
are_with outstanding (other ∷ tsns) tsn (first ∷ chunks) chunk are of = (are.0, are_with outstanding tsns tsn chunks chunk are.1 of)

bytes_with : (body : List ℕ) (chunks : List ChunkContent) (chunk : ChunkContent) → (body ++ flat_map chunk_bytes chunks) ++ chunk_bytes chunk ≡ body ++ flat_map chunk_bytes (chunks ++ chunk ∷ [])
bytes_with body chunks chunk =
    append_assoc body (flat_map chunk_bytes chunks) (chunk_bytes chunk)
    ∙ ap (λ (bytes : List ℕ). body ++ bytes)
    (ap (λ (bytes : List ℕ). flat_map chunk_bytes chunks ++ bytes) (sym (append-nil (chunk_bytes chunk))) ∙ sym (flat_map-append chunk_bytes chunks (chunk ∷ [])))

adds_one : (outstanding : OutstandingState) (tsns : List ℕ) (tsn : ℕ) (start old new : Building) (size : ℕ) → AddsChunks outstanding tsns start old → AddsChunk outstanding tsn old size new → AddsChunks outstanding (tsns ++ tsn ∷ []) start new
adds_one outstanding tsns tsn start old new size adds one =
    record {
      chunks = adds.chunks ++ one.chunk ∷ [];
      are = are_with outstanding tsns tsn adds.chunks one.chunk adds.are one.of;
      is = one.is
          ∙ (ap (λ (packet : Building). record packet { body = packet.body ++ chunk_bytes one.chunk }) adds.is
          ∙ ap (λ (body : List ℕ). record start { body = body }) (bytes_with start.body adds.chunks one.chunk));
      fits = all_with FitsChunk adds.chunks one.chunk adds.fits one.fits;
    }

take_next : (xs : List ℕ) (i d : ℕ) → i < length xs → take (suc i) xs ≡ take i xs ++ get_or xs i d ∷ []
take_next [] i d within = absurd (omega arith)
take_next (x ∷ xs) zero d within = refl
take_next (x ∷ xs) (suc i) d within = ap (λ (rest : List ℕ). x ∷ rest) (take_next xs i d (omega arith))

-- the next one, after those so far
pub adds_next : (outstanding : OutstandingState) (i d : ℕ) (tsns : List ℕ) (start old new : Building) → i < length tsns → HasRoomForRest outstanding i tsns old → AddsChunks outstanding (take i tsns) start old → AddsChunkOf outstanding (get_or tsns i d) old new
    → AddsChunks outstanding (take (suc i) tsns) start new
adds_next outstanding i d tsns start old new within rest adds added =
    let next = next_of outstanding i d tsns old within rest in
    subst (λ (taken : List ℕ). AddsChunks outstanding taken start new) (sym (take_next tsns i d within))
    (adds_one outstanding (take i tsns) (get_or tsns i d) start old new next.size adds (added next.size next.chunk))
