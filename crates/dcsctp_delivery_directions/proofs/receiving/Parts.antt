-- The part out of a chunk that carries its piece.
use Rattle.std.proofs.Common.{◌≡◌, ℕ, ◌%◌, ◌^◌, Bool, true, false, ◌+◌, sym, ap, arith, subst}
use Rattle.dcsctp_spec_lemmas.specs.spec.queues.Numbers.{number_near, fragment_place}
use Rattle.dcsctp_spec_lemmas.specs.spec.queues.IncomingStreams.{ChunkModel, data_part}
use Rattle.dcsctp_delivery_directions.specs.sending.Log.{Piece, History}
use Rattle.dcsctp_delivery_directions.specs.receiving.Rows.{IsPlaceOfPart, IsPiecePlaced, IsPart}
use Rattle.dcsctp_delivery_directions.specs.receiving.Ready.{IsNumberedAs, ReadsMids, ordered_base, unordered_base, BearsPiece}
use Rattle.dcsctp_delivery_directions.proofs.receiving.Reading.{reads_moved, reads_agree}
use Rattle.dcsctp_delivery_directions.specs.sending.Numbers.{IsUnambiguous}

module _ (history : History) (base : ℕ) where
  -- the part out of a chunk, where the first TSN lies at `from`
  abbrev pub part_of : (from : ℕ → ℕ) (Named : Piece → ℕ → Type 0) (tsn_number place number : ℕ) (chunk : ChunkModel) (bears : BearsPiece history base tsn_number chunk) → IsPiecePlaced from bears.offset bears.piece number place → Named bears.piece number
      → IsPart history.log from Named (data_part chunk place number)
  part_of from Named tsn_number place number chunk bears placed named =
      record {
        offset = bears.offset;
        piece = bears.piece;
        at = bears.at;
        place = placed;
        number = named;
        ppid = bears.ppid;
        payload = bears.payload;
        beginning = bears.beginning;
        end = bears.end;
      }

  -- one of an ordered message of DATA
  pub ordered_placed : (tsn_number number : ℕ) (chunk : ChunkModel) (bears : BearsPiece history base tsn_number chunk) → bears.piece.is_interleaved ≡ false
      → IsPiecePlaced (ordered_base base) bears.offset bears.piece number (fragment_place number tsn_number)
  ordered_placed tsn_number number chunk bears kind =
      let is : fragment_place number tsn_number ≡ ordered_base base number + bears.offset = (let of = bears.number in omega (arith, of)) in
      subst (λ (b : Bool). IsPlaceOfPart b (ordered_base base) bears.offset bears.piece.fsn number (fragment_place number tsn_number)) (sym kind) is

  -- one of an unordered message of DATA
  pub unordered_placed : (tsn_number number : ℕ) (chunk : ChunkModel) (bears : BearsPiece history base tsn_number chunk) → bears.piece.is_interleaved ≡ false → IsPiecePlaced (unordered_base base) bears.offset bears.piece number tsn_number
  unordered_placed tsn_number number chunk bears kind = subst (λ (b : Bool). IsPlaceOfPart b (unordered_base base) bears.offset bears.piece.fsn number tsn_number) (sym kind) bears.number

  -- one of I-DATA
  pub apart_placed : (tsn_number number fsn : ℕ) (chunk : ChunkModel) (bears : BearsPiece history base tsn_number chunk) → bears.piece.is_interleaved ≡ true → fsn ≡ bears.piece.fsn % 2 ^ 32
      → IsPiecePlaced (ordered_base base) bears.offset bears.piece number (fragment_place number fsn)
  apart_placed tsn_number number fsn chunk bears kind is =
      subst (λ (b : Bool). IsPlaceOfPart b (ordered_base base) bears.offset bears.piece.fsn number (fragment_place number fsn)) (sym kind) (ap (fragment_place number) is)

module _ (history : History) (base : ℕ) (told : IsUnambiguous history) where
  -- the number of a piece of I-DATA is read right
  pub named_so : (tsn_number mid : ℕ) (is_unordered : Bool) (chunk : ChunkModel) (bears : BearsPiece history base tsn_number chunk) (number : ℕ) → bears.piece.is_interleaved ≡ true → bears.piece.message.is_unordered ≡ is_unordered
      → mid ≡ bears.piece.mid % 2 ^ 32 → ReadsMids history chunk.stream is_unordered number → IsNumberedAs history is_unordered bears.piece (number_near number mid) × ReadsMids history chunk.stream is_unordered (number_near number mid)
  named_so tsn_number mid is_unordered chunk bears number kind unordered is reads = (
    λ i. (
      unordered,
      subst (λ (k : ℕ). number_near number k % 2 ^ 32 ≡ bears.piece.mid % 2 ^ 32) (sym is) (reads_agree history chunk.stream is_unordered bears.offset bears.piece bears.at (sym bears.stream) unordered (bears.current kind) number reads told kind),
      bears.current kind,
    ),
    subst (λ (k : ℕ). ReadsMids history chunk.stream is_unordered (number_near number k)) (sym is) (reads_moved history chunk.stream is_unordered bears.offset bears.piece bears.at (sym bears.stream) unordered (bears.current kind) number reads),
  )
