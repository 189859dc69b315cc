-- Written values that have fields alone read back: those of chunks, and of requests to reset streams.
use Rattle.std.proofs.Common.{◌≡◌, ℕ, ◌+◌, ◌*◌, ◌-◌, ◌/◌, ◌%◌, ◌<◌, ◌^◌, Bool, true, false, not, eqb, ltb, Some, List, ◌++◌, length, take, drop, refl, sym, ap, ◌∙◌, length-append, arith}
use Rattle.std.specs.Prelude.{◌&&◌}
use Rattle.std.specs.Int.{w16, w32, to_be_bytes}
use Rattle.std.proofs.lemmas.Bool.{eq-eqb, le-ltb}
use Rattle.std.proofs.lemmas.List.{take_at, take_all, drop_at}
use Rattle.std.proofs.lemmas.Nat.{from_be_bytes-to_be_bytes_2, from_be_bytes-to_be_bytes_4}
use Rattle.dcsctp_wire.specs.declared.chunk.user_data.DataFlags.{DataFlags}
use Rattle.dcsctp_wire.specs.Content.{DataContent, IDataContent, SackContent, data_chunk, sack_chunk, shutdown_chunk, i_data_chunk, forward_tsn_chunk, i_forward_tsn_chunk}
use Rattle.dcsctp_wire.specs.Fields.{u16_at, u32_at, has_entries, lowest_bit, flags_of_bits, data_of_value, i_data_of_value, sack_of_value, shutdown_of_value, forward_tsn_of_value, i_forward_tsn_of_value}
use Rattle.dcsctp_wire.specs.Spelling.{t_bit, data_flags, data_fields, i_data_fields, sack_fields}
use Rattle.dcsctp_wire.specs.ReadsBack.{AreWholeEntries, FitsData, FitsIData, FitsSack, FitsForward}

-- ---- entries after fields

pub entries_behind : (fields entry : ℕ) (front entries : List ℕ) → length front ≡ fields → AreWholeEntries entry entries → has_entries fields entry (front ++ entries) ≡ true
entries_behind fields entry front entries long are =
    let enough : ltb (length (front ++ entries)) fields ≡ false = le-ltb (length (front ++ entries)) fields (omega (arith, length-append front entries)) in
    let left : length (front ++ entries) - fields ≡ length entries = omega (arith, length-append front entries) in
    let whole : eqb ((length (front ++ entries) - fields) % entry) 0 ≡ true = eq-eqb _ _ (ap (λ (n : ℕ). n % entry) left ∙ are.whole) in
    ap (λ (b : Bool). not b && eqb ((length (front ++ entries) - fields) % entry) 0) enough ∙ whole

-- ---- flags

same_flags : (a b c d : Bool) → flags_of_bits (data_flags (record { is_end = a; is_beginning = b; is_unordered = c; immediate_ack = d }))
    ≡ record { is_end = a; is_beginning = b; is_unordered = c; immediate_ack = d }
same_flags true true true true = refl
same_flags true true true false = refl
same_flags true true false true = refl
same_flags true true false false = refl
same_flags true false true true = refl
same_flags true false true false = refl
same_flags true false false true = refl
same_flags true false false false = refl
same_flags false true true true = refl
same_flags false true true false = refl
same_flags false true false true = refl
same_flags false true false false = refl
same_flags false false true true = refl
same_flags false false true false = refl
same_flags false false false true = refl
same_flags false false false false = refl

flags_read : (flags : DataFlags) → flags_of_bits (data_flags flags) ≡ flags
flags_read flags = same_flags flags.is_end flags.is_beginning flags.is_unordered flags.immediate_ack

pub bit_read : (bit : Bool) → lowest_bit (t_bit bit) ≡ bit
bit_read true = refl
bit_read false = refl

-- ---- DATA and I-DATA

pub data_reads : (chunk : DataContent) → FitsData chunk → data_of_value (data_flags chunk.flags) (data_fields chunk ++ chunk.payload) ≡ Some (data_chunk chunk)
unfolding data_of_value data_fields
data_reads chunk fits =
    let value : List ℕ = data_fields chunk ++ chunk.payload in
    let enough : ltb (length value) 12 ≡ false = le-ltb (length value) 12 (omega arith) in
    let flags : flags_of_bits (data_flags chunk.flags) ≡ chunk.flags = flags_read chunk.flags in
    let tsn : u32_at 0 value ≡ chunk.tsn = from_be_bytes-to_be_bytes_4 chunk.tsn fits.tsn in
    let stream : u16_at 4 value ≡ chunk.stream_id = from_be_bytes-to_be_bytes_2 chunk.stream_id fits.stream_id in
    let ssn : u16_at 6 value ≡ chunk.ssn = from_be_bytes-to_be_bytes_2 chunk.ssn fits.ssn in
    let ppid : u32_at 8 value ≡ chunk.ppid = from_be_bytes-to_be_bytes_4 chunk.ppid fits.ppid in
    rw enough (λ i. Some (data_chunk (record { flags = flags i; tsn = tsn i; stream_id = stream i; ssn = ssn i; ppid = ppid i; payload = chunk.payload })))

pub i_data_reads : (chunk : IDataContent) → FitsIData chunk → i_data_of_value (data_flags chunk.flags) (i_data_fields chunk ++ chunk.payload) ≡ Some (i_data_chunk chunk)
unfolding i_data_of_value i_data_fields
i_data_reads chunk fits =
    let value : List ℕ = i_data_fields chunk ++ chunk.payload in
    let enough : ltb (length value) 16 ≡ false = le-ltb (length value) 16 (omega arith) in
    let flags : flags_of_bits (data_flags chunk.flags) ≡ chunk.flags = flags_read chunk.flags in
    let tsn : u32_at 0 value ≡ chunk.tsn = from_be_bytes-to_be_bytes_4 chunk.tsn fits.tsn in
    let stream : u16_at 4 value ≡ chunk.stream_id = from_be_bytes-to_be_bytes_2 chunk.stream_id fits.stream_id in
    let mid : u32_at 8 value ≡ chunk.mid = from_be_bytes-to_be_bytes_4 chunk.mid fits.mid in
    let number : u32_at 12 value ≡ chunk.ppid_or_fsn = from_be_bytes-to_be_bytes_4 chunk.ppid_or_fsn fits.ppid_or_fsn in
    rw enough (λ i. Some (i_data_chunk (record { flags = flags i; tsn = tsn i; stream_id = stream i; mid = mid i; ppid_or_fsn = number i; payload = chunk.payload })))

-- ---- SACK

-- a number of entries of four bytes
four_each : (entries : List ℕ) → AreWholeEntries 4 entries → length entries < 2 ^ 16 → 4 * u16_at 0 (to_be_bytes w16 (length entries / 4)) ≡ length entries
four_each entries are short = omega (arith, from_be_bytes-to_be_bytes_2 (length entries / 4) (omega arith), are.whole)

pub sack_reads : (chunk : SackContent) → FitsSack chunk → sack_of_value (sack_fields chunk ++ (chunk.gap_ack_blocks ++ chunk.duplicate_tsns)) ≡ Some (sack_chunk chunk)
unfolding sack_of_value sack_fields
sack_reads chunk fits =
    let blocks : List ℕ = chunk.gap_ack_blocks in
    let duplicates : List ℕ = chunk.duplicate_tsns in
    let value : List ℕ = sack_fields chunk ++ (blocks ++ duplicates) in
    let number : 4 * u16_at 8 value ≡ length blocks = four_each blocks fits.blocks (omega (arith, fits.len_fits)) in
    let more : 4 * u16_at 10 value ≡ length duplicates = four_each duplicates fits.duplicates (omega (arith, fits.len_fits)) in
    let enough : ltb (length value) 12 ≡ false = le-ltb (length value) 12 (omega arith) in
    let within : ltb (length value) (12 + 4 * u16_at 8 value + 4 * u16_at 10 value) ≡ false = le-ltb (length value) _ (omega (arith, number, more, length-append blocks duplicates)) in
    let tsn : u32_at 0 value ≡ chunk.cumulative_tsn_ack = from_be_bytes-to_be_bytes_4 chunk.cumulative_tsn_ack fits.cumulative_tsn_ack in
    let window : u32_at 4 value ≡ chunk.a_rwnd = from_be_bytes-to_be_bytes_4 chunk.a_rwnd fits.a_rwnd in
    let blocks_are : take (4 * u16_at 8 value) (drop 12 value) ≡ blocks = take_at blocks duplicates (4 * u16_at 8 value) (sym number) in
    let behind : drop (12 + 4 * u16_at 8 value) value ≡ duplicates = drop_at (sack_fields chunk ++ blocks) duplicates (12 + 4 * u16_at 8 value) (omega (arith, number)) in
    let duplicates_are : take (4 * u16_at 10 value) (drop (12 + 4 * u16_at 8 value) value) ≡ duplicates =
    ap (take (4 * u16_at 10 value)) behind ∙ take_all (4 * u16_at 10 value) duplicates (omega (arith, more)) in
    rw (enough, within) (λ i. Some (sack_chunk (record { cumulative_tsn_ack = tsn i; a_rwnd = window i; gap_ack_blocks = blocks_are i; duplicate_tsns = duplicates_are i })))

-- ---- a TSN, and what follows it

pub shutdown_reads : (tsn : ℕ) → tsn < 2 ^ 32 → shutdown_of_value (to_be_bytes w32 tsn) ≡ Some (shutdown_chunk tsn)
unfolding shutdown_of_value
shutdown_reads tsn fits = ap (λ (n : ℕ). Some (shutdown_chunk n)) (from_be_bytes-to_be_bytes_4 tsn fits)

pub forward_reads : (tsn : ℕ) (streams : List ℕ) → FitsForward 4 tsn streams → forward_tsn_of_value (to_be_bytes w32 tsn ++ streams) ≡ Some (forward_tsn_chunk tsn streams)
unfolding forward_tsn_of_value
forward_reads tsn streams fits =
    rw (entries_behind 4 4 (to_be_bytes w32 tsn) streams refl fits.streams_fit) (ap (λ (n : ℕ). Some (forward_tsn_chunk n streams)) (from_be_bytes-to_be_bytes_4 tsn fits.tsn_fits))

pub i_forward_reads : (tsn : ℕ) (streams : List ℕ) → FitsForward 8 tsn streams → i_forward_tsn_of_value (to_be_bytes w32 tsn ++ streams) ≡ Some (i_forward_tsn_chunk tsn streams)
unfolding i_forward_tsn_of_value
i_forward_reads tsn streams fits =
    rw (entries_behind 4 8 (to_be_bytes w32 tsn) streams refl fits.streams_fit) (ap (λ (n : ℕ). Some (i_forward_tsn_chunk n streams)) (from_be_bytes-to_be_bytes_4 tsn fits.tsn_fits))
