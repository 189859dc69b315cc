-- What a FORWARD-TSN names, as it is received: ordered messages, of which all TSNs are passed.
use Rattle.std.proofs.Common.{◌≡◌, ℕ, zero, suc, Bool, false, ◌<◌, ◌≤◌, ◌+◌, ◌*◌, ◌/◌, ◌%◌, ◌^◌, List, [], ◌∷◌, ◌++◌, length, take, drop, refl, sym, ◌∙◌, ap, arith, subst}
use Rattle.std.specs.Int.{w16, to_be_bytes, from_be_bytes}
use Rattle.std.specs.List.{AllByRecursion, flat_map}
use Rattle.std.proofs.lemmas.List.{length-append}
use Rattle.std.proofs.lemmas.Nat.{from_be_bytes-to_be_bytes_2}
use Rattle.dcsctp_spec_lemmas.specs.wire.Fields.{numbered_skipped_stream, u16_at}
use Rattle.dcsctp_spec_lemmas.specs.types.declared.arrivals.SkippedTo.{SkippedTo}
use Rattle.dcsctp_spec_lemmas.specs.spec.queues.Arrivals.{skipped_to, first_skipped, named_skips}
use Rattle.dcsctp_spec_lemmas.specs.spec.queues.Skipping.{entry_bytes}
use Rattle.dcsctp_delivery_directions.specs.sending.Log.{Message, History, IsLogOfPieces, Fits}
use Rattle.dcsctp_delivery_directions.specs.sending.Flushes.{IsEntry, AreForwardEntries, IsForward}
use Rattle.dcsctp_delivery_directions.proofs.receiving.Arriving.{fits_at}
use Rattle.dcsctp_delivery_directions.proofs.order.FewSkipping.{SkipsTurnOf, SkipTurns}

turns_append : (history : History) (passed : ℕ) (entries others : List SkippedTo) → SkipTurns history passed entries → SkipTurns history passed others → SkipTurns history passed (entries ++ others)
turns_append history passed [] others skips skips' = skips'
turns_append history passed (entry ∷ entries) others skips skips' = (skips.0, turns_append history passed entries others skips.1 skips')

two_read : (n : ℕ) → from_be_bytes w16 (to_be_bytes w16 n) ≡ n % 2 ^ 16
two_read n = omega arith

pub four_on : (n k j : ℕ) (entry : (ℕ × Bool) × ℕ) (rest : List ℕ) → n ≡ 4 * suc k + j → drop n (entry_bytes false entry ++ rest) ≡ drop (4 * k + j) rest
four_on n k j entry rest is =
    let same : n ≡ suc (suc (suc (suc (4 * k + j)))) = omega arith in
    ap (λ (m : ℕ). drop m (entry_bytes false entry ++ rest)) same

module _ (history : History) (passed : ℕ) (queued : List Message) (cut : IsLogOfPieces queued history.log) (fit : AllByRecursion Fits queued) (none : history.marks ≡ []) where
  -- an entry is read at its place
  entry_read : (entries : List ((ℕ × Bool) × ℕ)) → AreForwardEntries false history passed entries → (k : ℕ) → k < length entries → SkipsTurnOf history passed (skipped_to (numbered_skipped_stream k (flat_map (entry_bytes false) entries)))
  entry_read [] names k below = absurd (omega arith)
  entry_read (entry ∷ entries) names zero below =
      let e : IsEntry false history passed entry = names.0 in
      let fits = fits_at queued e.piece.place e.piece.message fit (cut.pieces e.number e.piece e.at).at in
      let small : entry.0.0 < 2 ^ 16 = (let of = e.stream in let stream = fits.stream in omega (arith, of, stream)) in
      record {
        number = e.number;
        piece = e.piece;
        at = e.at;
        stream = from_be_bytes-to_be_bytes_2 entry.0.0 small ∙ e.stream;
        ordered = sym e.unordered ∙ e.ordered refl;
        is = two_read entry.1 ∙ ap (λ (n : ℕ). n % 2 ^ 16) (e.ssn refl);
        over = e.over refl none;
      }
  entry_read (entry ∷ entries) names (suc k) below =
      let rest : List ℕ = flat_map (entry_bytes false) entries in
      subst (λ (l : List ℕ). SkipsTurnOf history passed (skipped_to (record { stream_id = from_be_bytes w16 (take 2 l); ssn = u16_at (4 * suc k + 2) (entry_bytes false entry ++ rest) }))) (sym (four_on (4 * suc k) k 0 entry rest (omega arith) ∙ ap (λ (m : ℕ). drop m rest) (omega arith)))
      (subst (λ (l : List ℕ). SkipsTurnOf history passed (skipped_to (record { stream_id = u16_at (4 * k) rest; ssn = from_be_bytes w16 (take 2 l) }))) (sym (four_on (4 * suc k + 2) k 2 entry rest refl))
      (entry_read entries names.1 k (omega arith)))

  firsts_read : (entries : List ((ℕ × Bool) × ℕ)) → AreForwardEntries false history passed entries → (count : ℕ) → count ≤ length entries → SkipTurns history passed (first_skipped count (flat_map (entry_bytes false) entries))
  firsts_read entries names zero within = tt
  firsts_read entries names (suc count) within =
      turns_append history passed (first_skipped count (flat_map (entry_bytes false) entries)) (skipped_to (numbered_skipped_stream count (flat_map (entry_bytes false) entries)) ∷ [])
      (firsts_read entries names count (omega arith)) (entry_read entries names count (omega arith), tt)

pub entries_long : (entries : List ((ℕ × Bool) × ℕ)) → length (flat_map (entry_bytes false) entries) ≡ 4 * length entries
entries_long [] = refl
entries_long (entry ∷ entries) = omega (arith, length-append (entry_bytes false entry) (flat_map (entry_bytes false) entries), entries_long entries)

pub forward_turns : (queued : List Message) (history : History) (first acknowledged tsn : ℕ) (streams : List ℕ) → IsLogOfPieces queued history.log → AllByRecursion Fits queued → history.marks ≡ [] → (is : IsForward false history first acknowledged tsn streams)
    → SkipTurns history is.passed.passed (named_skips streams)
forward_turns queued history first acknowledged tsn streams cut fit none f =
    subst (λ (l : List ℕ). SkipTurns history f.passed.passed (named_skips l)) (sym f.is)
    (firsts_read history f.passed.passed queued cut fit none f.entries f.names (length (flat_map (entry_bytes false) f.entries) / 4) (let long = entries_long f.entries in omega (arith, long)))
