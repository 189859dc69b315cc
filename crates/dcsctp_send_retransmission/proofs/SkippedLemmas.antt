-- Lemmas on the entries of a FORWARD-TSN in bytes: they read back.
use Rattle.std.proofs.Common.{◌≡◌, ◌∙◌, ℕ, zero, suc, ◌+◌, ◌*◌, Bool, true, false, Result, Ok, Err, IfOk, Vec, Some, List, [], ◌∷◌, ◌++◌, length, take, drop, refl, ap, sym, subst, arith}
use Rattle.std.specs.List.{slice_get, flat_map}
use Rattle.std.specs.Int.{w16, w32, to_be_bytes, from_be_bytes}
use Rattle.std.proofs.Math.Seq.{drop-append-add}
use Rattle.std.proofs.lemmas.Nat.{from_be_bytes-to_be_bytes_2, from_be_bytes-to_be_bytes_4}
use Rattle.dcsctp_api.specs.wire.Fields.{u16_at, u32_at, lowest_bit, numbered_skipped_stream, numbered_skipped_messages}
use Rattle.dcsctp_api.specs.wire.Spelling.{t_bit}
use Rattle.dcsctp_api.specs.wire.declared.chunk.forward_tsn.SkippedStream.{SkippedStream}
use Rattle.dcsctp_api.specs.wire.declared.chunk.forward_tsn.SkippedMessages.{SkippedMessages}
use Rattle.dcsctp_send_retransmission.specs.SkippedBytes.{skipped_stream_bytes, messages_bytes, skipped_bytes, FitsStream, FitsMessages, ReadsAs}
use Rattle.dcsctp_send_retransmission.specs.declared.forward_tsn.Skipped.{Skipped}
use Rattle.dcsctp_send_retransmission.specs.declared.forward_tsn.Skipped.TheVariants.{Streams, Messages}
use Rattle.std.specs.declared.alloc.Global.{Global}

-- ---- one entry

abbrev stream_of : ℕ → ℕ → SkippedStream
stream_of stream number = record { stream_id = stream; ssn = number }

same_stream : (stream number other_stream other_number : ℕ) → stream ≡ other_stream → number ≡ other_number → stream_of stream number ≡ stream_of other_stream other_number
same_stream stream number other_stream other_number streams numbers = ap (λ (x : ℕ). stream_of x number) streams ∙ ap (stream_of other_stream) numbers

abbrev messages_of : ℕ → Bool → ℕ → SkippedMessages
messages_of stream unordered number = record { stream_id = stream; is_unordered = unordered; mid = number }

same_messages : (stream : ℕ) (unordered : Bool) (number other_stream : ℕ) (is_unordered : Bool) (other_number : ℕ) → stream ≡ other_stream → unordered ≡ is_unordered → number ≡ other_number → messages_of stream unordered number ≡ messages_of other_stream is_unordered other_number
same_messages stream unordered number other_stream is_unordered other_number streams flags numbers =
    ap (λ (x : ℕ). messages_of x unordered number) streams ∙ (ap (λ (b : Bool). messages_of other_stream b number) flags ∙ ap (messages_of other_stream is_unordered) numbers)

-- an entry at the front
stream_reads : (entry : SkippedStream) (rest : List ℕ) → FitsStream entry → numbered_skipped_stream 0 (skipped_stream_bytes entry ++ rest) ≡ entry
stream_reads entry rest fits =
    let bytes : List ℕ = skipped_stream_bytes entry ++ rest in
    let stream : u16_at 0 bytes ≡ entry.stream_id = from_be_bytes-to_be_bytes_2 entry.stream_id fits.0 in
    let number : u16_at 2 bytes ≡ entry.ssn = from_be_bytes-to_be_bytes_2 entry.ssn fits.1 in
    same_stream (u16_at 0 bytes) (u16_at 2 bytes) entry.stream_id entry.ssn stream number

flag_reads : (bit : Bool) → lowest_bit (from_be_bytes w16 (to_be_bytes w16 (t_bit bit))) ≡ bit
flag_reads true = refl
flag_reads false = refl

messages_reads : (entry : SkippedMessages) (rest : List ℕ) → FitsMessages entry → numbered_skipped_messages 0 (messages_bytes entry ++ rest) ≡ entry
messages_reads entry rest fits =
    let bytes : List ℕ = messages_bytes entry ++ rest in
    let stream : u16_at 0 bytes ≡ entry.stream_id = from_be_bytes-to_be_bytes_2 entry.stream_id fits.0 in
    let flag : lowest_bit (u16_at 2 bytes) ≡ entry.is_unordered = flag_reads entry.is_unordered in
    let number : u32_at 4 bytes ≡ entry.mid = from_be_bytes-to_be_bytes_4 entry.mid fits.1 in
    same_messages (u16_at 0 bytes) (lowest_bit (u16_at 2 bytes)) (u32_at 4 bytes) entry.stream_id entry.is_unordered entry.mid stream flag number

-- what is after the first entry
behind : (front rest : List ℕ) (a b : ℕ) → a ≡ length front + b → drop a (front ++ rest) ≡ drop b rest
behind front rest a b is = ap (λ (n : ℕ). drop n (front ++ rest)) is ∙ drop-append-add front rest b

u16_behind : (front rest : List ℕ) (a b : ℕ) → a ≡ length front + b → u16_at a (front ++ rest) ≡ u16_at b rest
u16_behind front rest a b is = ap (λ (xs : List ℕ). from_be_bytes w16 (take 2 xs)) (behind front rest a b is)

u32_behind : (front rest : List ℕ) (a b : ℕ) → a ≡ length front + b → u32_at a (front ++ rest) ≡ u32_at b rest
u32_behind front rest a b is = ap (λ (xs : List ℕ). from_be_bytes w32 (take 4 xs)) (behind front rest a b is)

later_stream : (index : ℕ) (front rest : List ℕ) → length front ≡ 4 → numbered_skipped_stream (suc index) (front ++ rest) ≡ numbered_skipped_stream index rest
later_stream index front rest four =
    same_stream _ _ _ _ (u16_behind front rest (4 * suc index) (4 * index) (omega arith)) (u16_behind front rest (4 * suc index + 2) (4 * index + 2) (omega arith))

later_messages : (index : ℕ) (front rest : List ℕ) → length front ≡ 8 → numbered_skipped_messages (suc index) (front ++ rest) ≡ numbered_skipped_messages index rest
later_messages index front rest eight =
    same_messages _ _ _ _ _ _ (u16_behind front rest (8 * suc index) (8 * index) (omega arith)) (ap lowest_bit (u16_behind front rest (8 * suc index + 2) (8 * index + 2) (omega arith)))
    (u32_behind front rest (8 * suc index + 4) (8 * index + 4) (omega arith))

-- ---- all entries

pub streams_read : (streams : List SkippedStream) (index : ℕ) (entry : SkippedStream) → FitsStream entry → slice_get streams index ≡ Some entry → numbered_skipped_stream index (flat_map skipped_stream_bytes streams) ≡ entry
streams_read [] index entry fits at = absurd (cc)
streams_read (x ∷ xs) zero entry fits at =
    let e : x ≡ entry = cc in
    ap (λ (y : SkippedStream). numbered_skipped_stream 0 (skipped_stream_bytes y ++ flat_map skipped_stream_bytes xs)) e ∙ stream_reads entry (flat_map skipped_stream_bytes xs) fits
streams_read (x ∷ xs) (suc index) entry fits at =
    later_stream index (skipped_stream_bytes x) (flat_map skipped_stream_bytes xs) refl ∙ streams_read xs index entry fits at

pub all_messages_read : (messages : List SkippedMessages) (index : ℕ) (entry : SkippedMessages) → FitsMessages entry → slice_get messages index ≡ Some entry → numbered_skipped_messages index (flat_map messages_bytes messages) ≡ entry
all_messages_read [] index entry fits at = absurd (cc)
all_messages_read (x ∷ xs) zero entry fits at =
    let e : x ≡ entry = cc in
    ap (λ (y : SkippedMessages). numbered_skipped_messages 0 (messages_bytes y ++ flat_map messages_bytes xs)) e ∙ messages_reads entry (flat_map messages_bytes xs) fits
all_messages_read (x ∷ xs) (suc index) entry fits at =
    later_messages index (messages_bytes x) (flat_map messages_bytes xs) refl ∙ all_messages_read xs index entry fits at

pub length-streams : (streams : List SkippedStream) → length (flat_map skipped_stream_bytes streams) ≡ 4 * length streams
length-streams [] = refl
length-streams (x ∷ xs) = let rest = length-streams xs in omega arith

pub length-all_messages : (messages : List SkippedMessages) → length (flat_map messages_bytes messages) ≡ 8 * length messages
length-all_messages [] = refl
length-all_messages (x ∷ xs) = let rest = length-all_messages xs in omega arith

spelled_reads : (skipped : Skipped) → ReadsAs skipped (skipped_bytes skipped)
spelled_reads (Streams streams) = (length-streams streams.items, streams_read streams.items)
spelled_reads (Messages messages) = (length-all_messages messages.items, all_messages_read messages.items)

-- what is spelled reads back
pub reads_as : {E : Type 0} (r : Result (Vec ℕ Global) E) (skipped : Skipped) → IfOk r (λ bytes. bytes.items ≡ skipped_bytes skipped) → IfOk r (λ bytes. ReadsAs skipped bytes.items)
reads_as (Ok bytes) skipped is = subst (ReadsAs skipped) (sym is) (spelled_reads skipped)
reads_as (Err error) skipped is = tt
