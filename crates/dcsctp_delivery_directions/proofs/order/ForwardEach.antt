-- Each message that an I-FORWARD-TSN passes is among those that it skips, as it is received.
use Rattle.std.proofs.Common.{◌≡◌, ℕ, zero, suc, Bool, true, ◌<◌, ◌+◌, ◌*◌, ◌/◌, ◌^◌, List, [], ◌∷◌, ◌++◌, length, take, drop, refl, sym, ◌∙◌, ap, arith, subst, inl, inr}
use Rattle.std.specs.Prelude.{◌⊎◌}
use Rattle.std.specs.Int.{w16, from_be_bytes}
use Rattle.std.specs.List.{AllByRecursion, flat_map}
use Rattle.std.proofs.lemmas.Nat.{from_be_bytes-to_be_bytes_2}
use Rattle.std.proofs.lemmas.Bool.Decides.{eqb_tells}
use Rattle.dcsctp_spec_lemmas.specs.wire.Fields.{numbered_skipped_messages, lowest_bit, u16_at}
use Rattle.dcsctp_spec_lemmas.specs.types.declared.arrivals.SkippedTo.{SkippedTo}
use Rattle.dcsctp_spec_lemmas.specs.spec.queues.Arrivals.{messages_skipped_to, first_messages_skipped, skipped_messages}
use Rattle.dcsctp_spec_lemmas.specs.spec.queues.Skipping.{entry_bytes}
use Rattle.dcsctp_delivery_directions.specs.sending.Places.{HasEntry}
use Rattle.dcsctp_delivery_directions.specs.sending.Log.{Message, Piece, History, IsLogOfPieces, Fits}
use Rattle.dcsctp_delivery_directions.specs.sending.Flushes.{IsEntry, AreForwardEntries, IsForward}
use Rattle.dcsctp_delivery_directions.specs.sending.Naming.{IsOfPiece}
use Rattle.dcsctp_delivery_directions.proofs.receiving.Arriving.{fits_at}
use Rattle.dcsctp_delivery_directions.proofs.receiving.Entries.{bit_read, eight_on, entries_long}
use Rattle.dcsctp_delivery_directions.proofs.order.Forwarding.{HasSkip}

-- The entry stands at this place of the bytes.
record StandsAt (entry : (ℕ × Bool) × ℕ) (entries : List ((ℕ × Bool) × ℕ)) : Type 0 where
  place : ℕ
  below : place < length entries
  stream : u16_at (8 * place) (flat_map (entry_bytes true) entries) ≡ entry.0.0
  unordered : lowest_bit (u16_at (8 * place + 2) (flat_map (entry_bytes true) entries)) ≡ entry.0.1

stands : (history : History) (passed : ℕ) (queued : List Message) → IsLogOfPieces queued history.log → AllByRecursion Fits queued → (entries : List ((ℕ × Bool) × ℕ)) → AreForwardEntries true history passed entries → (entry : (ℕ × Bool) × ℕ) → HasEntry entry entries
    → StandsAt entry entries
stands history passed queued cut fit [] names entry has = absurd has
stands history passed queued cut fit (first ∷ entries) names entry has =
    elim has [
      | inl same ↦
          (let e : IsEntry true history passed first = names.0 in
          let fits = fits_at queued e.piece.place e.piece.message fit (cut.pieces e.number e.piece e.at).at in
          let small : first.0.0 < 2 ^ 16 = (let of = e.stream in let stream = fits.stream in omega (arith, of, stream)) in
          record {
            place = 0;
            below = omega arith;
            stream = from_be_bytes-to_be_bytes_2 first.0.0 small ∙ ap (λ (x : (ℕ × Bool) × ℕ). x.0.0) (sym same);
            unordered = bit_read first.0.1 ∙ ap (λ (x : (ℕ × Bool) × ℕ). x.0.1) (sym same);
          })
      | inr t ↦
          (let s = stands history passed queued cut fit entries names.1 entry t in
          let rest : List ℕ = flat_map (entry_bytes true) entries in
          let below = s.below in
          record {
            place = suc s.place;
            below = omega (arith, below);
            stream = ap (λ (l : List ℕ). from_be_bytes w16 (take 2 l)) (eight_on (8 * suc s.place) s.place 0 first (flat_map (entry_bytes true) entries) (omega arith) ∙ ap (λ (m : ℕ). drop m (flat_map (entry_bytes true) entries)) (omega arith)) ∙ s.stream;
            unordered = ap (λ (l : List ℕ). lowest_bit (from_be_bytes w16 (take 2 l))) (eight_on (8 * suc s.place + 2) s.place 2 first (flat_map (entry_bytes true) entries) (omega arith)) ∙ s.unordered;
          })
    ]

has_first : (count place : ℕ) (bytes : List ℕ) → place < count → HasEntry (messages_skipped_to (numbered_skipped_messages place bytes)) (first_messages_skipped count bytes)
has_first zero place bytes below = absurd (omega (arith, below))
has_first (suc count) place bytes below =
    elim (eqb_tells place count) [
      | inl e ↦ entry_right (first_messages_skipped count bytes) (messages_skipped_to (numbered_skipped_messages place bytes)) (messages_skipped_to (numbered_skipped_messages count bytes)) (ap (λ (k : ℕ). messages_skipped_to (numbered_skipped_messages k bytes)) e.1)
      | inr e ↦ (let differs : place ≡ count → ⊥ = e.1 in entry_left (messages_skipped_to (numbered_skipped_messages place bytes)) (first_messages_skipped count bytes) (messages_skipped_to (numbered_skipped_messages count bytes)) (has_first count place bytes (omega (arith, below, differs))))
    ]
  where
    entry_right : (entries : List SkippedTo) (entry last : SkippedTo) → entry ≡ last → HasEntry entry (entries ++ last ∷ [])
    entry_right [] entry last same = inl same
    entry_right (e ∷ entries) entry last same = inr (entry_right entries entry last same)

    entry_left : (entry : SkippedTo) (entries : List SkippedTo) (last : SkippedTo) → HasEntry entry entries → HasEntry entry (entries ++ last ∷ [])
    entry_left entry [] last has = absurd has
    entry_left entry (e ∷ entries) last has = elim has [ inl same ↦ inl same | inr t ↦ inr (entry_left entry entries last t) ]

pub forward_each : (queued : List Message) (history : History) (first acknowledged tsn : ℕ) (streams : List ℕ) → IsLogOfPieces queued history.log → AllByRecursion Fits queued → (is : IsForward true history first acknowledged tsn streams)
    → (n : ℕ) (f : Piece) → IsOfPiece history.log f n → n < is.passed.passed → (n < acknowledged) ⊎ HasSkip f.message.stream f.message.is_unordered (skipped_messages streams)
forward_each queued history first acknowledged tsn streams cut fit is n f of low =
    elim (is.each refl n f of low) [
      | inl e ↦ inl e
      | inr named ↦
          (let s = stands history is.passed.passed queued cut fit is.entries is.names named.entry named.has in
          let bytes : List ℕ = flat_map (entry_bytes true) is.entries in
          let long = entries_long is.entries in
          let below = s.below in
          let has = has_first (length (flat_map (entry_bytes true) is.entries) / 8) s.place (flat_map (entry_bytes true) is.entries) (omega (arith, long, below)) in
          inr
          (subst (λ (l : List ℕ). HasSkip f.message.stream f.message.is_unordered (skipped_messages l)) (sym is.is)
          (subst (λ (k : ℕ). HasSkip k f.message.is_unordered (skipped_messages (flat_map (entry_bytes true) is.entries))) (s.stream ∙ named.stream_is)
          (subst (λ (b : Bool). HasSkip (u16_at (8 * s.place) (flat_map (entry_bytes true) is.entries)) b (skipped_messages (flat_map (entry_bytes true) is.entries))) (s.unordered ∙ named.unordered_is)
          (record { mid = (numbered_skipped_messages s.place (flat_map (entry_bytes true) is.entries)).mid; has = has })))))
    ]
