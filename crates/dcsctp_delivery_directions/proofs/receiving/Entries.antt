-- What a FORWARD-TSN or I-FORWARD-TSN skips, as it is received.
use Rattle.std.proofs.Common.{◌≡◌, ℕ, zero, suc, Bool, true, false, ◌<◌, ◌≤◌, ◌+◌, ◌*◌, ◌/◌, ◌%◌, ◌^◌, List, [], ◌∷◌, ◌++◌, length, take, drop, refl, sym, ◌∙◌, ap, arith, subst}
use Rattle.std.specs.Prelude.{Some}
use Rattle.std.specs.Int.{w16, w32, to_be_bytes, from_be_bytes}
use Rattle.std.specs.List.{AllByRecursion, flat_map}
use Rattle.std.proofs.lemmas.List.{length-append}
use Rattle.std.proofs.lemmas.Nat.{from_be_bytes-to_be_bytes_2}
use Rattle.dcsctp_spec_lemmas.specs.wire.Fields.{numbered_skipped_stream, numbered_skipped_messages, lowest_bit, u16_at, u32_at}
use Rattle.dcsctp_spec_lemmas.specs.wire.Spelling.{t_bit}
use Rattle.dcsctp_spec_lemmas.specs.types.declared.arrivals.SkippedTo.{SkippedTo}
use Rattle.dcsctp_spec_lemmas.specs.spec.queues.Arrivals.{skipped_to, messages_skipped_to, first_skipped, first_messages_skipped, named_skips, skipped_messages}
use Rattle.dcsctp_spec_lemmas.specs.spec.queues.Skipping.{entry_bytes}
use Rattle.dcsctp_delivery_directions.specs.sending.Places.{at_place}
use Rattle.dcsctp_delivery_directions.specs.sending.Log.{Message, Piece, History, IsLogOfPieces, Fits}
use Rattle.dcsctp_delivery_directions.specs.sending.Flushes.{IsEntry, AreForwardEntries, IsForward}
use Rattle.dcsctp_delivery_directions.specs.receiving.Ready.{SkipsEntry, SkipAll}
use Rattle.dcsctp_delivery_directions.proofs.receiving.Arriving.{fits_at}

skips_append : (history : History) (passed : ℕ) (entries others : List SkippedTo) → SkipAll history passed entries → SkipAll history passed others → SkipAll history passed (entries ++ others)
skips_append history passed [] others skips skips' = skips'
skips_append history passed (entry ∷ entries) others skips skips' = (skips.0, skips_append history passed entries others skips.1 skips')

-- ---- FORWARD-TSN

plain_skipped : (history : History) (passed number : ℕ) (piece : Piece) → at_place number history.log ≡ Some (Some piece) → piece.is_interleaved ≡ false → (count : ℕ) (streams : List ℕ) → SkipAll history passed (first_skipped count streams)
plain_skipped history passed number piece at kind zero streams = tt
plain_skipped history passed number piece at kind (suc count) streams =
    skips_append history passed (first_skipped count streams) (skipped_to (numbered_skipped_stream count streams) ∷ []) (plain_skipped history passed number piece at kind count streams) (record { number = number; piece = piece; at = at; kind = kind }, tt)

pub forward_skips : (history : History) (first acknowledged tsn : ℕ) (streams : List ℕ) → (is : IsForward false history first acknowledged tsn streams) → SkipAll history is.passed.passed (named_skips streams)
forward_skips history first acknowledged tsn streams f = go f.entries f.is f.names
  where
    go : (entries : List ((ℕ × Bool) × ℕ)) → streams ≡ flat_map (entry_bytes false) entries → AreForwardEntries false history f.passed.passed entries → SkipAll history f.passed.passed (named_skips streams)
    go [] is names = subst (λ (l : List ℕ). SkipAll history f.passed.passed (named_skips l)) (sym is) tt
    go (entry ∷ entries) is names = plain_skipped history f.passed.passed names.0.number names.0.piece names.0.at names.0.kind (length streams / 4) streams

-- ---- I-FORWARD-TSN

four_read : (n : ℕ) → from_be_bytes w32 (to_be_bytes w32 n) ≡ n % 2 ^ 32
four_read n = omega arith

pub bit_read : (b : Bool) → lowest_bit (from_be_bytes w16 (to_be_bytes w16 (t_bit b))) ≡ b
bit_read true = refl
bit_read false = refl

pub eight_on : (n k j : ℕ) (entry : (ℕ × Bool) × ℕ) (rest : List ℕ) → n ≡ 8 * suc k + j → drop n (entry_bytes true entry ++ rest) ≡ drop (8 * k + j) rest
eight_on n k j entry rest is =
    let same : n ≡ suc (suc (suc (suc (suc (suc (suc (suc (8 * k + j)))))))) = omega arith in
    ap (λ (m : ℕ). drop m (entry_bytes true entry ++ rest)) same

-- an entry is read at its place
entry_read : (history : History) (passed : ℕ) (queued : List Message) → IsLogOfPieces queued history.log → AllByRecursion Fits queued → (entries : List ((ℕ × Bool) × ℕ)) → AreForwardEntries true history passed entries → (k : ℕ) → k < length entries
    → SkipsEntry history passed (messages_skipped_to (numbered_skipped_messages k (flat_map (entry_bytes true) entries)))
entry_read history passed queued cut fit [] names k below = absurd (omega arith)
entry_read history passed queued cut fit (entry ∷ entries) names zero below =
    let e : IsEntry true history passed entry = names.0 in
    let fits = fits_at queued e.piece.place e.piece.message fit (cut.pieces e.number e.piece e.at).at in
    let small : entry.0.0 < 2 ^ 16 = (let of = e.stream in let stream = fits.stream in omega (arith, of, stream)) in
    record {
      number = e.number;
      piece = e.piece;
      at = e.at;
      kind = e.kind;
      stream = from_be_bytes-to_be_bytes_2 entry.0.0 small ∙ e.stream;
      unordered = bit_read entry.0.1 ∙ e.unordered;
      is = four_read entry.1 ∙ e.mid refl;
      within = e.within;
      limited = e.limited;
      before = e.before;
      highest = λ n f at less on kind. e.highest refl n f at less (on ∙ from_be_bytes-to_be_bytes_2 entry.0.0 small ∙ e.stream) (kind ∙ bit_read entry.0.1 ∙ e.unordered);
    }
entry_read history passed queued cut fit (entry ∷ entries) names (suc k) below =
    let rest : List ℕ = flat_map (entry_bytes true) entries in
    subst (λ (l : List ℕ). SkipsEntry history passed (messages_skipped_to (record { stream_id = from_be_bytes w16 (take 2 l); is_unordered = lowest_bit (u16_at (8 * suc k + 2) (entry_bytes true entry ++ rest)); mid = u32_at (8 * suc k + 4) (entry_bytes true entry ++ rest) }))) (sym (eight_on (8 * suc k) k 0 entry rest (omega arith) ∙ ap (λ (m : ℕ). drop m rest) (omega arith)))
    (subst (λ (l : List ℕ). SkipsEntry history passed (messages_skipped_to (record { stream_id = u16_at (8 * k) rest; is_unordered = lowest_bit (from_be_bytes w16 (take 2 l)); mid = u32_at (8 * suc k + 4) (entry_bytes true entry ++ rest) }))) (sym (eight_on (8 * suc k + 2) k 2 entry rest refl))
    (subst (λ (l : List ℕ). SkipsEntry history passed (messages_skipped_to (record { stream_id = u16_at (8 * k) rest; is_unordered = lowest_bit (u16_at (8 * k + 2) rest); mid = from_be_bytes w32 (take 4 l) }))) (sym (eight_on (8 * suc k + 4) k 4 entry rest refl))
    (entry_read history passed queued cut fit entries names.1 k (omega arith))))

pub entries_long : (entries : List ((ℕ × Bool) × ℕ)) → length (flat_map (entry_bytes true) entries) ≡ 8 * length entries
entries_long [] = refl
entries_long (entry ∷ entries) = omega (arith, length-append (entry_bytes true entry) (flat_map (entry_bytes true) entries), entries_long entries)

firsts_read : (history : History) (passed : ℕ) (queued : List Message) → IsLogOfPieces queued history.log → AllByRecursion Fits queued → (entries : List ((ℕ × Bool) × ℕ)) → AreForwardEntries true history passed entries → (count : ℕ) → count ≤ length entries
    → SkipAll history passed (first_messages_skipped count (flat_map (entry_bytes true) entries))
firsts_read history passed queued cut fit entries names zero within = tt
firsts_read history passed queued cut fit entries names (suc count) within =
    skips_append history passed (first_messages_skipped count (flat_map (entry_bytes true) entries)) (messages_skipped_to (numbered_skipped_messages count (flat_map (entry_bytes true) entries)) ∷ [])
    (firsts_read history passed queued cut fit entries names count (omega arith)) (entry_read history passed queued cut fit entries names count (omega arith), tt)

pub messages_skipped : (queued : List Message) (history : History) (first acknowledged tsn : ℕ) (streams : List ℕ) → IsLogOfPieces queued history.log → AllByRecursion Fits queued → (is : IsForward true history first acknowledged tsn streams)
    → SkipAll history is.passed.passed (skipped_messages streams)
messages_skipped queued history first acknowledged tsn streams cut fit f =
    subst (λ (l : List ℕ). SkipAll history f.passed.passed (skipped_messages l)) (sym f.is)
    (firsts_read history f.passed.passed queued cut fit f.entries f.names (length (flat_map (entry_bytes true) f.entries) / 8) (let long = entries_long f.entries in omega (arith, long)))
