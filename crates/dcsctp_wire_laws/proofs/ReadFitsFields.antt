-- Whatever is read as a chunk by its fields alone fits them.
use Rattle.std.proofs.Common.{◌≡◌, ℕ, ◌+◌, ◌*◌, ◌<◌, ◌≤◌, ◌^◌, eqb, ltb, Option, Some, List, length, drop, arith, length-drop}
use Rattle.std.specs.Option.{IfSome}
use Rattle.std.proofs.lemmas.Bool.{ltb-false}
use Rattle.std.proofs.lemmas.List.{length-take-le}
use Rattle.std.proofs.lemmas.Option.{MatchOption-at_some, IfSome_then}
use Rattle.dcsctp_wire.specs.Numbers.{data_type, sack_type, shutdown_type, shutdown_ack_type, cookie_echo_type, cookie_ack_type, shutdown_complete_type, i_data_type, forward_tsn_type, i_forward_tsn_type}
use Rattle.dcsctp_wire.specs.Content.{ChunkContent}
use Rattle.dcsctp_wire.specs.Fields.{u16_at, has_entries, data_of_value, i_data_of_value, sack_of_value, shutdown_of_value, forward_tsn_of_value, i_forward_tsn_of_value, content_of_fields}
use Rattle.dcsctp_wire.specs.Format.{fields, form_of}
use Rattle.dcsctp_wire.specs.ReadsBack.{IsByte, FitsChunk}
use Rattle.dcsctp_wire_laws.proofs.ReadFitsNumbers.{picked, InBytes, behind_in_bytes, u16_fits, u32_fits, front_entries, entries_there}

-- ---- DATA and I-DATA

data_fits : (flags : ℕ) (value : List ℕ) → InBytes value → 4 + length value < 2 ^ 16 → IfSome (data_of_value flags value) FitsChunk
unfolding data_of_value
data_fits flags value is short =
    picked (ltb (length value) 12) _ _ _ (λ _. tt) (λ twelve. record {
      tsn = u32_fits 0 value is;
      stream_id = u16_fits 4 value is;
      ssn = u16_fits 6 value is;
      ppid = u32_fits 8 value is;
      len_fits = omega (arith, ltb-false (length value) 12 twelve, length-drop 12 value);
      payload_in_bytes = behind_in_bytes 12 value is;
    })

i_data_fits : (flags : ℕ) (value : List ℕ) → InBytes value → 4 + length value < 2 ^ 16 → IfSome (i_data_of_value flags value) FitsChunk
unfolding i_data_of_value
i_data_fits flags value is short =
    picked (ltb (length value) 16) _ _ _ (λ _. tt) (λ sixteen. record {
      tsn = u32_fits 0 value is;
      stream_id = u16_fits 4 value is;
      mid = u32_fits 8 value is;
      ppid_or_fsn = u32_fits 12 value is;
      len_fits = omega (arith, ltb-false (length value) 16 sixteen, length-drop 16 value);
      payload_in_bytes = behind_in_bytes 16 value is;
    })

-- ---- SACK

sack_fits : (value : List ℕ) → InBytes value → 4 + length value < 2 ^ 16 → IfSome (sack_of_value value) FitsChunk
unfolding sack_of_value
sack_fits value is short =
    let blocks : ℕ = 4 * u16_at 8 value in
    let duplicates : ℕ = 4 * u16_at 10 value in
    picked (ltb (length value) 12) _ _ _ (λ _. tt) (λ _. picked (ltb (length value) (12 + blocks + duplicates)) _ _ _ (λ _. tt)
    (λ within.
    let long : 12 + blocks + duplicates ≤ length value = ltb-false (length value) (12 + blocks + duplicates) within in
    let front : blocks ≤ length (drop 12 value) = omega (arith, length-drop 12 value) in
    let behind : duplicates ≤ length (drop (12 + blocks) value) = omega (arith, length-drop (12 + blocks) value) in
    record {
      cumulative_tsn_ack = u32_fits 0 value is;
      a_rwnd = u32_fits 4 value is;
      len_fits = omega (arith, length-take-le blocks (drop 12 value) front, length-take-le duplicates (drop (12 + blocks) value) behind);
      blocks = front_entries 4 blocks (drop 12 value) (behind_in_bytes 12 value is) (omega arith) front;
      duplicates = front_entries 4 duplicates (drop (12 + blocks) value) (behind_in_bytes (12 + blocks) value is) (omega arith) behind;
    }))

-- ---- a TSN, and what follows it

shutdown_fits : (value : List ℕ) → InBytes value → IfSome (shutdown_of_value value) FitsChunk
unfolding shutdown_of_value
shutdown_fits value is = picked (ltb (length value) 4) _ _ _ (λ _. tt) (λ _. u32_fits 0 value is)

forward_fits : (value : List ℕ) → InBytes value → 4 + length value < 2 ^ 16 → IfSome (forward_tsn_of_value value) FitsChunk
unfolding forward_tsn_of_value
forward_fits value is short =
    picked (has_entries 4 4 value) _ _ _ (λ has.
    let there = entries_there 4 4 value is has in
    record { tsn_fits = u32_fits 0 value is; len_fits = omega (arith, there.fields_there, length-drop 4 value); streams_fit = there.entries_fit }) (λ _. tt)

i_forward_fits : (value : List ℕ) → InBytes value → 4 + length value < 2 ^ 16 → IfSome (i_forward_tsn_of_value value) FitsChunk
unfolding i_forward_tsn_of_value
i_forward_fits value is short =
    picked (has_entries 4 8 value) _ _ _ (λ has.
    let there = entries_there 4 8 value is has in
    record { tsn_fits = u32_fits 0 value is; len_fits = omega (arith, there.fields_there, length-drop 4 value); streams_fit = there.entries_fit }) (λ _. tt)

-- ---- chunks

-- If that is what is read, it fits.
abbrev FitsIfRead : ℕ → ℕ → List ℕ → ChunkContent → Type 0
FitsIfRead chunk_type flags value chunk = content_of_fields chunk_type flags value ≡ Some chunk → FitsChunk chunk

-- the header and the value of a chunk
pub record HeaderFits (chunk_type flags : ℕ) (value : List ℕ) : Type 0 where
  pub type_fits : IsByte chunk_type
  pub flags_fit : IsByte flags
  pub len_fits : 4 + length value < 2 ^ 16
  pub value_in_bytes : InBytes value

if_read : (chunk_type flags : ℕ) (value : List ℕ) (o : Option ChunkContent) → IfSome o FitsChunk → IfSome o (FitsIfRead chunk_type flags value)
if_read chunk_type flags value o fits = IfSome_then o fits (λ chunk its _. its)

each_fits : (t flags : ℕ) (value : List ℕ) → HeaderFits t flags value → form_of t ≡ fields → IfSome (content_of_fields t flags value) (FitsIfRead t flags value)
unfolding content_of_fields
each_fits t flags value header form =
    let is = header.value_in_bytes in
    let short = header.len_fits in
    picked (eqb t data_type) _ _ _ (λ _. if_read t flags value (data_of_value flags value) (data_fits flags value is short))
    (λ _. picked (eqb t sack_type) _ _ _ (λ _. if_read t flags value (sack_of_value value) (sack_fits value is short))
    (λ _. picked (eqb t shutdown_type) _ _ _ (λ _. if_read t flags value (shutdown_of_value value) (shutdown_fits value is))
    (λ _. picked (eqb t shutdown_ack_type) _ _ _ (λ _ _. tt)
    (λ _. picked (eqb t cookie_echo_type) _ _ _ (λ _ _. record { len_fits = short; cookie_in_bytes = is })
    (λ _. picked (eqb t cookie_ack_type) _ _ _ (λ _ _. tt)
    (λ _. picked (eqb t shutdown_complete_type) _ _ _ (λ _ _. tt)
    (λ _. picked (eqb t i_data_type) _ _ _ (λ _. if_read t flags value (i_data_of_value flags value) (i_data_fits flags value is short))
    (λ _. picked (eqb t forward_tsn_type) _ _ _ (λ _. if_read t flags value (forward_tsn_of_value value) (forward_fits value is short))
    (λ _. picked (eqb t i_forward_tsn_type) _ _ _ (λ _. if_read t flags value (i_forward_tsn_of_value value) (i_forward_fits value is short))
    (λ _ read. record { type_fits = header.type_fits; form = form; read_as_unknown = read; flags_fit = header.flags_fit; len_fits = short; value_in_bytes = is }))))))))))

pub of_fields_fits : (chunk : ChunkContent) (chunk_type flags : ℕ) (value : List ℕ) → HeaderFits chunk_type flags value → form_of chunk_type ≡ fields
    → content_of_fields chunk_type flags value ≡ Some chunk → FitsChunk chunk
of_fields_fits chunk chunk_type flags value header form read =
    MatchOption-at_some (Unit {0}) (FitsIfRead chunk_type flags value) chunk read (each_fits chunk_type flags value header form) read
