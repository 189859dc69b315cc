-- The TSNs in a packet have chunks, which fit.
use Rattle.std.proofs.Common.{◌≡◌, ◌∙◌, ℕ, ◌+◌, ◌^◌, ◌<◌, ◌≤◌, Bool, true, false, List, [], ◌∷◌, length, map, length-append, refl, sym, ap, arith}
use Rattle.std.specs.List.{AllByRecursion, flat_map}
use Rattle.std.proofs.lemmas.List.{length-map}
use Rattle.dcsctp_spec.specs.wire.Content.{ChunkContent, DataContent, IDataContent, data_chunk, i_data_chunk}
use Rattle.dcsctp_spec.specs.wire.ReadsBack.{IsByte}
use Rattle.dcsctp_spec.specs.wire.Spelling.{chunk_bytes, data_fields, i_data_fields}
use Rattle.dcsctp_spec.proofs.wire_lemmas.Lengths.{length-chunk_bytes, length-data_fields, length-i_data_fields}
use Rattle.dcsctp_spec.specs.endpoint.Outcome.{contents_len}
use Rattle.dcsctp_spec.specs.Packet.{Plain, Content, unworked, chunk_out}
use Rattle.dcsctp_spec.specs.association.Choices.{plain_contents}
use Rattle.dcsctp_spec.specs.queues.Chunks.{AreChunksOfTsns, byte_field, chunk_said, data_said, i_data_said}
use Rattle.dcsctp_spec.specs.queues.Filling.{Stage}
use Rattle.dcsctp_spec.specs.queues.Items.{chunk_size}
use Rattle.dcsctp_spec.specs.queues.Outstanding.{OutstandingState, header_of}
use Rattle.dcsctp_spec.specs.queues.Sending.{Fragment}
use Rattle.dcsctp_spec.specs.endpoint.FlushOutcomes.{FitsPlain}
use Rattle.dcsctp_spec_lemmas.proofs.PackedLemmas.{IsTsnOf, AreTsnsOf, IsPacked}

-- ---- sizes

data_size : (chunk : DataContent) → 16 + length chunk.payload < 2 ^ 16 → length (chunk_bytes (data_chunk chunk)) ≡ chunk_size 16 (length chunk.payload)
data_size chunk short =
    omega (arith, short, length-chunk_bytes (data_chunk chunk), length-data_fields chunk, length-append (data_fields chunk) chunk.payload)

i_data_size : (chunk : IDataContent) → 20 + length chunk.payload < 2 ^ 16 → length (chunk_bytes (i_data_chunk chunk)) ≡ chunk_size 20 (length chunk.payload)
i_data_size chunk short =
    omega (arith, short, length-chunk_bytes (i_data_chunk chunk), length-i_data_fields chunk, length-append (i_data_fields chunk) chunk.payload)

-- What fits into a packet has a length that fits its field.
short_enough : (header len : ℕ) → chunk_size header len ≤ 65535 → header + len < 2 ^ 16
short_enough header len fits = omega arith

in_bytes : (payload : List ℕ) → AllByRecursion IsByte (map byte_field payload)
in_bytes [] = tt
in_bytes (byte ∷ bytes) = (omega arith, in_bytes bytes)

-- ---- one chunk

said_size : (interleaving : Bool) (tsn : ℕ) (part : Fragment) → chunk_size (header_of interleaving) (length part.payload) ≤ 65535
    → length (chunk_bytes (chunk_said interleaving tsn part)) ≡ chunk_size (header_of interleaving) (length part.payload)
said_size true tsn part fits =
    let same = length-map part.payload byte_field in
    i_data_size (i_data_said tsn part) (let short = short_enough 20 (length part.payload) fits in omega (arith, short, same)) ∙ ap (chunk_size 20) same
said_size false tsn part fits =
    let same = length-map part.payload byte_field in
    data_size (data_said tsn part) (let short = short_enough 16 (length part.payload) fits in omega (arith, short, same)) ∙ ap (chunk_size 16) same

said_fits : (interleaving : Bool) (tsn : ℕ) (part : Fragment) → chunk_size (header_of interleaving) (length part.payload) ≤ 65535 → FitsPlain (unworked (chunk_said interleaving tsn part))
said_fits true tsn part fits =
    record {
      tsn = omega arith;
      stream_id = omega arith;
      mid = omega arith;
      ppid_or_fsn = omega arith;
      len_fits = let short = short_enough 20 (length part.payload) fits in omega (arith, short, length-map part.payload byte_field);
      payload_in_bytes = in_bytes part.payload;
    }
said_fits false tsn part fits =
    record {
      tsn = omega arith;
      stream_id = omega arith;
      ssn = omega arith;
      ppid = omega arith;
      len_fits = let short = short_enough 16 (length part.payload) fits in omega (arith, short, length-map part.payload byte_field);
      payload_in_bytes = in_bytes part.payload;
    }

-- ---- all of them

-- The chunks of these TSNs. If they take up no more than a chunk may, that is how long they are, and they fit their fields.
pub record HaveChunks (outstanding : OutstandingState) (tsns : List ℕ) (used : ℕ) : Type 0 where
  pub chunks : List Plain
  pub are : AreChunksOfTsns outstanding tsns chunks
  pub len : used ≤ 65535 → contents_len (plain_contents chunks) ≡ used
  pub fit : used ≤ 65535 → AllByRecursion FitsPlain chunks

have_one_more : (outstanding : OutstandingState) (tsn size : ℕ) (tsns : List ℕ) (used rest : ℕ) → IsTsnOf outstanding tsn size → used ≡ size + rest → HaveChunks outstanding tsns rest
    → HaveChunks outstanding (tsn ∷ tsns) used
have_one_more outstanding tsn size tsns used rest of sum others =
    let part : Fragment = of.item.fragment in
    let size_is = of.size_is in
    let says : ChunkContent = chunk_said outstanding.is_interleaved tsn part in
    let within : used ≤ 65535 → chunk_size (header_of outstanding.is_interleaved) (length part.payload) ≤ 65535 = λ short. omega (arith, size_is, sum, short) in
    let behind : used ≤ 65535 → rest ≤ 65535 = λ short. omega (arith, sum, short) in
    let both = length-append (chunk_bytes says) (flat_map (λ (content : Content). chunk_bytes (chunk_out content)) (plain_contents others.chunks)) in
    record {
      chunks = unworked says ∷ others.chunks;
      are = (record { place = of.place; item = of.item; at = of.at; is = of.is; says = refl }, others.are);
      len = λ short. omega (arith, both, others.len (behind short), sum, size_is, said_size outstanding.is_interleaved tsn part (within short));
      fit = λ short. (said_fits outstanding.is_interleaved tsn part (within short), others.fit (behind short));
    }

pub have_chunks : (outstanding : OutstandingState) (tsns : List ℕ) (used : ℕ) → AreTsnsOf outstanding tsns used → HaveChunks outstanding tsns used
have_chunks outstanding [] used none_used = record { chunks = []; are = tt; len = λ short. sym none_used; fit = λ short. tt }
have_chunks outstanding (tsn ∷ tsns) used (rest, first, others) = have_one_more outstanding tsn first.size tsns used rest first.of first.sum (have_chunks outstanding tsns rest others)

-- The chunks of a packet take up what its room has lost.
pub record SomeChunks (room : ℕ) (stage : Stage) : Type 0 where
  pub chunks : List Plain
  pub are : AreChunksOfTsns stage.queue.outstanding stage.tsns chunks
  pub len : room ≤ 65535 → contents_len (plain_contents chunks) + stage.room ≡ room
  pub fit : room ≤ 65535 → AllByRecursion FitsPlain chunks

pub some_chunks : (room : ℕ) (stage : Stage) → IsPacked room stage → SomeChunks room stage
some_chunks room stage packed =
    let sum = packed.sum in
    let have = have_chunks stage.queue.outstanding stage.tsns packed.used packed.tsns in
    let within : room ≤ 65535 → packed.used ≤ 65535 = λ small. omega (arith, sum, small) in
    record { chunks = have.chunks; are = have.are; len = λ small. omega (arith, have.len (within small), sum); fit = λ small. have.fit (within small) }
