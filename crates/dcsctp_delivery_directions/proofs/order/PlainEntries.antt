-- The entries of a FORWARD-TSN are for streams on which messages may be abandoned.
use Rattle.std.proofs.Common.{◌≡◌, ℕ, zero, suc, Bool, true, false, ◌<◌, ◌≤◌, ◌*◌, ◌/◌, ◌^◌, List, [], ◌∷◌, ◌++◌, length, take, drop, refl, sym, ◌∙◌, ap, arith, subst}
use Rattle.std.specs.Int.{w16, from_be_bytes}
use Rattle.std.specs.List.{AllByRecursion, flat_map}
use Rattle.std.proofs.lemmas.Nat.{from_be_bytes-to_be_bytes_2}
use Rattle.dcsctp_spec_lemmas.specs.wire.Fields.{numbered_skipped_stream}
use Rattle.dcsctp_spec_lemmas.specs.types.declared.arrivals.SkippedTo.{SkippedTo}
use Rattle.dcsctp_spec_lemmas.specs.spec.queues.Arrivals.{skipped_to, first_skipped, named_skips}
use Rattle.dcsctp_spec_lemmas.specs.spec.queues.Skipping.{entry_bytes}
use Rattle.dcsctp_delivery_directions.specs.sending.Log.{Message, Piece, History, IsLogOfPieces, Fits}
use Rattle.std.specs.Prelude.{Some}
use Rattle.dcsctp_delivery_directions.specs.sending.Places.{at_place}
use Rattle.dcsctp_spec_lemmas.specs.spec.queues.IncomingStreams.{skipped_stream}
use Rattle.dcsctp_delivery_directions.specs.sending.Flushes.{IsEntry, AreForwardEntries, IsForward}
use Rattle.dcsctp_delivery_directions.proofs.receiving.Arriving.{fits_at}
use Rattle.dcsctp_delivery_directions.proofs.order.FewEntries.{four_on, entries_long}
use Rattle.dcsctp_delivery_directions.proofs.order.PlainReceived.{SkipOthers}

others_append : (these : ℕ → Bool) (xs ys : List SkippedTo) → SkipOthers these xs → SkipOthers these ys → SkipOthers these (xs ++ ys)
others_append these [] ys are more = more
others_append these (x ∷ xs) ys are more = (are.0, others_append these xs ys are.1 more)

module _ (these : ℕ → Bool) (history : History) (passed : ℕ) (queued : List Message) (cut : IsLogOfPieces queued history.log) (fit : AllByRecursion Fits queued)
    (free : (n : ℕ) (f : Piece) → at_place n history.log ≡ Some (Some f) → these f.message.stream ≡ true → f.message.is_limited ≡ false) where
  its_stream : (is_interleaved : Bool) (entry : (ℕ × Bool) × ℕ) → IsEntry is_interleaved history passed entry → these entry.0.0 ≡ false
  its_stream is_interleaved entry e = go (these entry.0.0) refl
    where
      go : (b : Bool) → these entry.0.0 ≡ b → these entry.0.0 ≡ false
      go false is = is
      go true is = absurd (let clash : true ≡ false = sym e.limited ∙ free e.number e.piece e.at (ap these (sym e.stream) ∙ is) in cc)

  other_read : (entries : List ((ℕ × Bool) × ℕ)) → AreForwardEntries false history passed entries → (k : ℕ) → k < length entries → these (skipped_stream (skipped_to (numbered_skipped_stream k (flat_map (entry_bytes false) entries)))) ≡ false
  other_read [] names k below = absurd (omega arith)
  other_read (entry ∷ entries) names zero below =
      let e : IsEntry false history passed entry = names.0 in
      let fits = fits_at queued e.piece.place e.piece.message fit (cut.pieces e.number e.piece e.at).at in
      let small : entry.0.0 < 2 ^ 16 = (let of = e.stream in let stream = fits.stream in omega (arith, of, stream)) in
      ap these (from_be_bytes-to_be_bytes_2 entry.0.0 small) ∙ its_stream false entry e
  other_read (entry ∷ entries) names (suc k) below =
      let rest : List ℕ = flat_map (entry_bytes false) entries in
      subst (λ (l : List ℕ). these (from_be_bytes w16 (take 2 l)) ≡ false) (sym (four_on (4 * suc k) k 0 entry rest (omega arith) ∙ ap (λ (m : ℕ). drop m rest) (omega arith)))
      (other_read entries names.1 k (omega arith))

  others_read : (entries : List ((ℕ × Bool) × ℕ)) → AreForwardEntries false history passed entries → (count : ℕ) → count ≤ length entries → SkipOthers these (first_skipped count (flat_map (entry_bytes false) entries))
  others_read entries names zero within = tt
  others_read entries names (suc count) within =
      others_append these (first_skipped count (flat_map (entry_bytes false) entries)) (skipped_to (numbered_skipped_stream count (flat_map (entry_bytes false) entries)) ∷ [])
      (others_read entries names count (omega arith)) (other_read entries names count (omega arith), tt)

  pub forward_others : (first acknowledged tsn : ℕ) (streams : List ℕ) (is : IsForward false history first acknowledged tsn streams) → is.passed.passed ≡ passed → SkipOthers these (named_skips streams)
  forward_others first acknowledged tsn streams f same =
      subst (λ (l : List ℕ). SkipOthers these (named_skips l)) (sym f.is)
      (others_read f.entries (subst (λ (k : ℕ). AreForwardEntries false history k f.entries) same f.names) (length (flat_map (entry_bytes false) f.entries) / 4) (let long = entries_long f.entries in omega (arith, long)))
