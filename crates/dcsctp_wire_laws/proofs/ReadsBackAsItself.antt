-- Whatever is read of written chunks is those chunks: what is read has its minima, so they have theirs.
use Rattle.std.proofs.Common.{◌≡◌, ℕ, List, [], ◌∷◌, ◌++◌, Some, refl, ap, subst, ◌∙◌, arith}
use Rattle.std.specs.List.{flat_map, AllByRecursion}
use Rattle.std.proofs.lemmas.Nat.{from_be_bytes-to_be_bytes_2, from_be_bytes-to_be_bytes_4}
use Rattle.dcsctp_wire.specs.Content.{InitContent, ChunkContent, data_chunk, init_chunk, init_ack_chunk, sack_chunk, heartbeat_chunk, heartbeat_ack_chunk, abort_chunk, shutdown_chunk, shutdown_ack_chunk, error_chunk, cookie_echo_chunk, cookie_ack_chunk, shutdown_complete_chunk, i_data_chunk, re_config_chunk, forward_tsn_chunk, i_forward_tsn_chunk, unknown_chunk}
use Rattle.dcsctp_wire.specs.Format.{Frame, leading_frame, HasInitMinima, IsInitValue, form_of, IsReadByHeader, BeginsWithChunk, AreChunks}
use Rattle.dcsctp_wire.specs.Spelling.{init_fields, parameter_chunk_bytes, chunk_bytes}
use Rattle.dcsctp_wire.specs.ReadsBack.{FitsInit, FitsChunk, HasMinima}
use Rattle.dcsctp_wire.proofs.Chunks.{one_chunk}
use Rattle.dcsctp_wire.proofs.Frames.{frame_of_nothing, same_frame}
use Rattle.dcsctp_wire.proofs.Items.{same_item, nothing_begins}
use Rattle.dcsctp_wire_laws.proofs.ReadsBackChunks.{init_value, chunk_value, framed, begins}

-- ---- minima

-- The numbers that are read are those that were written.
init_has_minima : (init read : InitContent) → FitsInit init → IsInitValue read (init_value init) → HasInitMinima init
unfolding init_fields
init_has_minima init read fits is =
    let tag : read.initiate_tag ≡ init.initiate_tag = is.initiate_tag ∙ from_be_bytes-to_be_bytes_4 init.initiate_tag fits.initiate_tag in
    let window : read.a_rwnd ≡ init.a_rwnd = is.a_rwnd ∙ from_be_bytes-to_be_bytes_4 init.a_rwnd fits.a_rwnd in
    let outbound : read.outbound_streams ≡ init.outbound_streams = is.outbound_streams ∙ from_be_bytes-to_be_bytes_2 init.outbound_streams fits.outbound_streams in
    let inbound : read.inbound_streams ≡ init.inbound_streams = is.inbound_streams ∙ from_be_bytes-to_be_bytes_2 init.inbound_streams fits.inbound_streams in
    record {
      tag_is_not_zero = omega (arith, is.minima.tag_is_not_zero);
      window_is_large_enough = omega (arith, is.minima.window_is_large_enough);
      sends_on_a_stream = omega (arith, is.minima.sends_on_a_stream);
      receives_on_a_stream = omega (arith, is.minima.receives_on_a_stream);
    }

-- An INIT is read as an INIT, and an INIT ACK as an INIT ACK.
has_minima : (chunk read : ChunkContent) → FitsChunk chunk → (rest : List ℕ) → IsReadByHeader read (chunk_bytes chunk ++ rest) (chunk_value chunk) → HasMinima chunk
unfolding form_of parameter_chunk_bytes
has_minima (data_chunk chunk) read fits rest is = tt
has_minima (init_chunk init) read fits rest is = init_has_minima init is.0 fits is.2
has_minima (init_ack_chunk init) read fits rest is = init_has_minima init is.0 fits is.2
has_minima (sack_chunk chunk) read fits rest is = tt
has_minima (heartbeat_chunk parameters) read fits rest is = tt
has_minima (heartbeat_ack_chunk parameters) read fits rest is = tt
has_minima (abort_chunk reflected causes) read fits rest is = tt
has_minima (shutdown_chunk cumulative_tsn) read fits rest is = tt
has_minima shutdown_ack_chunk read fits rest is = tt
has_minima (error_chunk causes) read fits rest is = tt
has_minima (cookie_echo_chunk cookie) read fits rest is = tt
has_minima cookie_ack_chunk read fits rest is = tt
has_minima (shutdown_complete_chunk reflected) read fits rest is = tt
has_minima (i_data_chunk chunk) read fits rest is = tt
has_minima (re_config_chunk parameters) read fits rest is = tt
has_minima (forward_tsn_chunk tsn streams) read fits rest is = tt
has_minima (i_forward_tsn_chunk tsn streams) read fits rest is = tt
has_minima (unknown_chunk chunk_type flags value) read fits rest is = tt

-- ---- chunks

-- a chunk takes up bytes
some_bytes : (chunk : ChunkContent) → FitsChunk chunk → (rest : List ℕ) → chunk_bytes chunk ++ rest ≡ [] → ⊥
some_bytes chunk fits rest e =
    frame_of_nothing _ (subst (λ (bytes : List ℕ). leading_frame bytes ≡ Some (record { value = chunk_value chunk; rest = rest })) e (framed chunk fits rest))

first_reads_as_itself : (chunk read : ChunkContent) (after rest : List ℕ) → FitsChunk chunk → BeginsWithChunk read after (chunk_bytes chunk ++ rest) → (read ≡ chunk) × (after ≡ rest)
first_reads_as_itself chunk read after rest fits is =
    let bytes : List ℕ = chunk_bytes chunk ++ rest in
    let frames = same_frame bytes (record { value = is.value; rest = after }) (record { value = chunk_value chunk; rest = rest }) is.framed (framed chunk fits rest) in
    let value : is.value ≡ chunk_value chunk = ap (λ (f : Frame). f.value) frames in
    let minima : HasMinima chunk = has_minima chunk read fits rest (subst (IsReadByHeader read bytes) value is.read) in
    same_item IsReadByHeader one_chunk read chunk after rest bytes is (begins chunk fits minima rest)

pub chunks_read_as_themselves : (chunks read : List ChunkContent) → AllByRecursion FitsChunk chunks → AreChunks read (flat_map chunk_bytes chunks) → read ≡ chunks
chunks_read_as_themselves [] [] fits is = refl
chunks_read_as_themselves [] (r ∷ rs) fits is = absurd (nothing_begins IsReadByHeader r is.0 [] is.1 refl)
chunks_read_as_themselves (chunk ∷ chunks) [] fits is = absurd (some_bytes chunk fits.0 (flat_map chunk_bytes chunks) is)
chunks_read_as_themselves (chunk ∷ chunks) (r ∷ rs) fits is =
    let rest : List ℕ = flat_map chunk_bytes chunks in
    let first = first_reads_as_itself chunk r is.0 rest fits.0 is.1 in
    let behind : rs ≡ chunks = chunks_read_as_themselves chunks rs fits.1 (subst (AreChunks rs) first.1 is.2) in
    cc (first.0, behind)
