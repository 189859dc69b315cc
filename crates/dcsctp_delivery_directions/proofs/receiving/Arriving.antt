-- A chunk of data, as it is received.
use Rattle.std.proofs.Common.{◌≡◌, ◌≢◌, ℕ, zero, suc, Bool, true, false, ◌<◌, ◌+◌, ◌%◌, ◌^◌, List, [], ◌∷◌, map, take, drop, refl, sym, ◌∙◌, ap, arith, subst, inl, inr}
use Rattle.std.specs.Prelude.{None, Some, if◌then◌else◌}
use Rattle.std.proofs.lemmas.Bool.{eqb-true}
use Rattle.std.specs.List.{AllByRecursion}
use Rattle.dcsctp_spec_lemmas.specs.wire.Content.{DataContent, IDataContent}
use Rattle.dcsctp_spec_lemmas.specs.spec.queues.Arrivals.{numbering_of, data_arrival, interleaved_numbering, fsn_of, ppid_of, i_data_arrival}
use Rattle.dcsctp_spec_lemmas.specs.spec.queues.Chunks.{byte_field, data_said, ppid_or_fsn, i_data_said}
use Rattle.dcsctp_delivery_directions.specs.sending.Places.{at_place}
use Rattle.dcsctp_delivery_directions.specs.sending.Log.{Message, Piece, Slot, is_beginning, piece_bytes, IsLogOfPieces, Fits}
use Rattle.dcsctp_delivery_directions.specs.sending.Stages.{SaysSlot}
use Rattle.dcsctp_delivery_directions.specs.sending.Flushes.{IsData, IsInterleaved}
use Rattle.dcsctp_delivery_directions.specs.receiving.Ready.{IsNumbered}
use Rattle.dcsctp_delivery_directions.specs.receiving.Received.{Carries}
use Rattle.dcsctp_delivery_directions.proofs.sending.Places.{at_cases}

pub fits_at : (queued : List Message) (place : ℕ) (message : Message) → AllByRecursion Fits queued → at_place place queued ≡ Some message → Fits message
fits_at [] place message fit at = absurd (cc)
fits_at (m ∷ queued) place message fit at =
    elim (at_cases place m message queued at) [
      | inl e ↦ subst (λ (x : Message). Fits x) e.1 fit.0
      | inr old ↦ fits_at queued place message fit.1 old
    ]

Bytes : List ℕ → Type 0
Bytes bytes = AllByRecursion (λ byte. byte < 2 ^ 8) bytes

bytes_take : (k : ℕ) (bytes : List ℕ) → Bytes bytes → Bytes (take k bytes)
unfolding Bytes
bytes_take zero bytes are = tt
bytes_take (suc k) [] are = tt
bytes_take (suc k) (b ∷ bytes) are = (are.0, bytes_take k bytes are.1)

bytes_drop : (k : ℕ) (bytes : List ℕ) → Bytes bytes → Bytes (drop k bytes)
unfolding Bytes
bytes_drop zero bytes are = are
bytes_drop (suc k) [] are = tt
bytes_drop (suc k) (b ∷ bytes) are = bytes_drop k bytes are.1

same_bytes : (bytes : List ℕ) → Bytes bytes → map byte_field bytes ≡ bytes
unfolding Bytes
same_bytes [] are = refl
same_bytes (b ∷ bytes) are =
    let here : b % 2 ^ 8 ≡ b = (let small = are.0 in omega (arith, small)) in
    ap (λ (k : ℕ). k ∷ map byte_field bytes) here ∙ ap (λ (l : List ℕ). b ∷ l) (same_bytes bytes are.1)

numbered_plain : (piece : Piece) (unordered : Bool) (ssn : ℕ) → piece.is_interleaved ≡ false → piece.message.is_unordered ≡ unordered → ssn ≡ piece.ssn % 2 ^ 16 → IsNumbered piece (numbering_of unordered ssn)
numbered_plain piece true ssn kind is same = (kind, is)
numbered_plain piece false ssn kind is same = (kind, is, same)

numbered_interleaved : (piece : Piece) (unordered : Bool) (mid fsn : ℕ) → piece.is_interleaved ≡ true → piece.message.is_unordered ≡ unordered → mid ≡ piece.mid % 2 ^ 32 → fsn ≡ piece.fsn % 2 ^ 32
    → IsNumbered piece (interleaved_numbering unordered mid fsn)
numbered_interleaved piece true mid fsn kind is same same' = (kind, is, same, same')
numbered_interleaved piece false mid fsn kind is same same' = (kind, is, same, same')

-- the number among the fragments, and the protocol, which share one field
fsn_read : (b : Bool) (ppid fsn : ℕ) (piece : Piece) → b ≡ is_beginning piece → fsn ≡ piece.fsn → (piece.start ≡ 0 → piece.fsn ≡ 0) → fsn_of b ((if b then ppid else fsn) % 2 ^ 32) ≡ piece.fsn % 2 ^ 32
fsn_read true ppid fsn piece begins is first = (let none : piece.fsn ≡ 0 = first (eqb-true piece.start 0 (sym begins)) in omega (arith, none))
fsn_read false ppid fsn piece begins is first = ap (λ (k : ℕ). k % 2 ^ 32) is

ppid_read : (b : Bool) (ppid fsn : ℕ) (other : ℕ) → b ≡ true → ppid ≡ other → other < 2 ^ 32 → ppid_of b ((if b then ppid else fsn) % 2 ^ 32) ≡ other
ppid_read true ppid fsn other e is small = omega (arith, is, small)
ppid_read false ppid fsn other e is small = absurd (cc)

pub carries_piece : (queued : List Message) (log : List Slot) (first : ℕ) (chunk : DataContent) → IsLogOfPieces queued log → AllByRecursion Fits queued → (is : IsData log first chunk) → chunk.payload ≢ []
    → Carries log first is.number (data_arrival chunk).tsn (data_arrival chunk).chunk
unfolding Bytes
carries_piece queued log first chunk cut fit is some =
    subst (λ (c : DataContent). Carries log first is.number (data_arrival c).tsn (data_arrival c).chunk) (sym is.is) (go is.says.slot is.says.at is.says.says)
  where
    said : DataContent
    said = data_said ((first + is.number) % 2 ^ 32) is.part

    go : (slot : Slot) → at_place is.number log ≡ Some slot → SaysSlot is.part slot → Carries log first is.number (data_arrival said).tsn (data_arrival said).chunk
    go None at says =
        let none : map byte_field is.part.payload ≡ [] = ap (map byte_field) says in
        absurd (some (ap (λ (c : DataContent). c.payload) is.is ∙ none))
    go (Some piece) at says =
        let of = cut.pieces is.number piece at in
        let fits = fits_at queued piece.place piece.message fit of.at in
        record {
          piece = piece;
          at = at;
          is = omega arith;
          stream = ap (λ (k : ℕ). k % 2 ^ 16) says.stream ∙ (let small = fits.stream in omega (arith, small));
          numbered = numbered_plain piece is.part.is_unordered (is.part.ssn % 2 ^ 16) (is.kind piece at) (sym says.unordered) (ap (λ (k : ℕ). k % 2 ^ 16) says.ssn);
          ppid = λ begins. ap (λ (k : ℕ). k % 2 ^ 32) says.ppid ∙ (let small = fits.ppid in omega (arith, small));
          payload = ap (map byte_field) says.payload ∙ same_bytes (piece_bytes piece) (bytes_take piece.size (drop piece.start piece.message.payload) (bytes_drop piece.start piece.message.payload fits.payload));
          beginning = says.beginning;
          end = says.end;
        }

pub carries_interleaved : (queued : List Message) (log : List Slot) (first : ℕ) (chunk : IDataContent) → IsLogOfPieces queued log → AllByRecursion Fits queued → (is : IsInterleaved log first chunk) → chunk.payload ≢ []
    → Carries log first is.number (i_data_arrival chunk).tsn (i_data_arrival chunk).chunk
unfolding Bytes
carries_interleaved queued log first chunk cut fit is some =
    subst (λ (c : IDataContent). Carries log first is.number (i_data_arrival c).tsn (i_data_arrival c).chunk) (sym is.is) (go is.says.slot is.says.at is.says.says)
  where
    said : IDataContent
    said = i_data_said ((first + is.number) % 2 ^ 32) is.part

    go : (slot : Slot) → at_place is.number log ≡ Some slot → SaysSlot is.part slot → Carries log first is.number (i_data_arrival said).tsn (i_data_arrival said).chunk
    go None at says =
        let none : map byte_field is.part.payload ≡ [] = ap (map byte_field) says in
        absurd (some (ap (λ (c : IDataContent). c.payload) is.is ∙ none))
    go (Some piece) at says =
        let of = cut.pieces is.number piece at in
        let fits = fits_at queued piece.place piece.message fit of.at in
        record {
          piece = piece;
          at = at;
          is = omega arith;
          stream = ap (λ (k : ℕ). k % 2 ^ 16) says.stream ∙ (let small = fits.stream in omega (arith, small));
          numbered = numbered_interleaved piece is.part.is_unordered (is.part.mid % 2 ^ 32) (fsn_of is.part.is_beginning (ppid_or_fsn is.part % 2 ^ 32)) (is.kind piece at) (sym says.unordered) says.mid
              (fsn_read is.part.is_beginning is.part.ppid is.part.fsn piece says.beginning says.fsn of.first);
          ppid = λ begins. ppid_read is.part.is_beginning is.part.ppid is.part.fsn piece.message.ppid (says.beginning ∙ begins) says.ppid fits.ppid;
          payload = ap (map byte_field) says.payload ∙ same_bytes (piece_bytes piece) (bytes_take piece.size (drop piece.start piece.message.payload) (bytes_drop piece.start piece.message.payload fits.payload));
          beginning = says.beginning;
          end = says.end;
        }
