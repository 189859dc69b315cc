-- Pieces of one message follow one another in the log, and so do runs that do by their places.
use Rattle.std.proofs.Common.{◌≡◌, ◌≢◌, ℕ, zero, suc, Bool, true, false, ◌<◌, ◌+◌, ◌≤◌, ◌%◌, ◌^◌, List, length, sym, ◌∙◌, ap, arith, subst, inl, inr}
use Rattle.std.specs.Prelude.{Some}
use Rattle.std.proofs.lemmas.Bool.Decides.{eqb_tells, leb_tells}
use Rattle.dcsctp_spec_lemmas.specs.spec.queues.Numbers.{fragment_place}
use Rattle.dcsctp_spec_lemmas.specs.spec.queues.Runs.{RunModel}
use Rattle.dcsctp_delivery_directions.specs.sending.Places.{at_place}
use Rattle.dcsctp_delivery_directions.specs.sending.Log.{Message, Piece, Slot, History, HasBefore, IsLogOfPieces}
use Rattle.dcsctp_delivery_directions.specs.sending.Numbers.{AreOfKind, IsUnambiguous, plain, interleaved}
use Rattle.dcsctp_delivery_directions.specs.receiving.Rows.{IsPiecePlaced, IsPlaceOfPart, IsPieceRow}
use Rattle.dcsctp_delivery_directions.proofs.sending.Places.{at_below}

-- All is DATA; or all is I-DATA, and fewer than 2^31 TSNs were assigned.
pub data OneKind (log : List Slot) : Type 0 where
  data_alone : AreOfKind false log → OneKind log
  interleaved_alone : AreOfKind true log → length log < 2 ^ 31 → OneKind log

pub one_kind : (history : History) → IsUnambiguous history → OneKind history.log
one_kind history (plain kinds) = data_alone kinds
one_kind history (interleaved kinds few below apart dense) = interleaved_alone kinds few

-- where a part lies, by whether it is of I-DATA
pub placed_plain : (base : ℕ → ℕ) (offset : ℕ) (piece : Piece) (number place : ℕ) → piece.is_interleaved ≡ false → IsPiecePlaced base offset piece number place → place ≡ base number + offset
placed_plain base offset piece number place kind placed = subst (λ (b : Bool). IsPlaceOfPart b base offset piece.fsn number place) kind placed

pub placed_interleaved : (base : ℕ → ℕ) (offset : ℕ) (piece : Piece) (number place : ℕ) → piece.is_interleaved ≡ true → IsPiecePlaced base offset piece number place → place ≡ fragment_place number (piece.fsn % 2 ^ 32)
placed_interleaved base offset piece number place kind placed = subst (λ (b : Bool). IsPlaceOfPart b base offset piece.fsn number place) kind placed

-- The piece of the one TSN lies behind that of the other in their message: by so many parts, at most one for each TSN.
pub record LiesBehind (m : ℕ) (f : Piece) (n : ℕ) (g : Piece) : Type 0 where
  pub parts : ℕ
  pub some : 0 < parts
  pub few : m + parts ≤ n
  pub fsn : g.fsn % 2 ^ 32 ≡ (f.fsn + parts) % 2 ^ 32
  pub start : f.start + f.size ≤ g.start

-- It is the next one of the message.
pub record ComesAfter (log : List Slot) (m : ℕ) (f : Piece) (n : ℕ) (g : Piece) : Type 0 where
  pub less : m < n
  pub near : g.is_interleaved ≡ false → m + 1 ≡ n
  pub apart : (k : ℕ) (h : Piece) → m < k → k < n → at_place k log ≡ Some (Some h) → h.place ≡ g.place → ⊥
  pub start : f.start + f.size ≡ g.start
  pub place : f.place ≡ g.place
  pub message : f.message ≡ g.message
  pub fsn : (f.fsn + 1) % 2 ^ 32 ≡ g.fsn % 2 ^ 32

module _ (queued : List Message) (log : List Slot) (cut : IsLogOfPieces queued log) where
  -- pieces of one message are of one stream
  one_stream : (m n : ℕ) (f g : Piece) → at_place m log ≡ Some (Some f) → at_place n log ≡ Some (Some g) → g.place ≡ f.place → f.message.stream ≡ g.message.stream
  one_stream m n f g at at' same =
      let both : Some f.message ≡ Some g.message = sym (cut.pieces m f at).at ∙ ap (λ (k : ℕ). at_place k queued) (sym same) ∙ (cut.pieces n g at').at in
      let one : f.message ≡ g.message = cc in
      ap (λ (x : Message). x.stream) one

  -- what the log has before a piece comes right before it
  pub comes_after : (m n : ℕ) (f g : Piece) → at_place m log ≡ Some (Some f) → at_place n log ≡ Some (Some g) → (b : HasBefore log n g) → b.earlier ≡ m → ComesAfter log m f n g
  comes_after m n f g at at' b is =
      let both : Some (Some b.before) ≡ Some (Some f) = sym b.at ∙ ap (λ (k : ℕ). at_place k log) is ∙ at in
      let one : b.before ≡ f = cc in
      record {
        less = (let less = b.is in omega (arith, less, is));
        near = λ kind. (let next = b.near (inl kind) in omega (arith, next, is));
        apart = λ k h above below at'' same. b.apart k h (omega (arith, above, is)) below at'' (one_stream k n h g at'' at' (sym same));
        start = ap (λ (x : Piece). x.start + x.size) (sym one) ∙ b.start;
        place = ap (λ (x : Piece). x.place) (sym one) ∙ b.place;
        message = ap (λ (x : Piece). x.message) (sym one) ∙ b.message;
        fsn = ap (λ (x : Piece). (x.fsn + 1) % 2 ^ 32) (sym one) ∙ b.fsn;
      }

  -- the pieces of a message come in order
  lies_within : (m : ℕ) (f : Piece) → at_place m log ≡ Some (Some f) → (k n : ℕ) (g : Piece) → m < n → n ≤ m + k → at_place n log ≡ Some (Some g) → g.place ≡ f.place → LiesBehind m f n g
  lies_within m f at zero n g above up at' same = absurd (omega (arith, above, up))
  lies_within m f at (suc k) n g above up at' same =
      elim (eqb_tells g.start 0) [
        | inl e ↦ (let up' : f.place < g.place = cut.ascends m n f g above at at' e.1 (one_stream m n f g at at' same) in absurd (omega (arith, up', same)))
        | inr e ↦
            (let ne : g.start ≢ 0 = e.1 in
            let on = one_stream m n f g at at' same in
            let b = cut.rows n g at' (omega (arith, ne)) (inr (record { earlier = m; piece = f; is = above; at = at; on = on })) in
            elim (eqb_tells b.earlier m) [
              | inl here ↦
                  (let after = comes_after m n f g at at' b here.1 in
                  record { parts = 1; some = omega arith; few = omega (arith, above); fsn = sym after.fsn; start = (let start = after.start in omega (arith, start)) })
              | inr there ↦
                  (let differs : b.earlier ≢ m = there.1 in
                  let less = b.is in
                  elim (leb_tells m b.earlier) [
                    | inr l ↦ (let low : b.earlier < m = l.1 in absurd (b.apart m f low above at on))
                    | inl l ↦
                        (let le : m ≤ b.earlier = l.1 in
                        let earlier = lies_within m f at k b.earlier b.before (omega (arith, le, differs)) (omega (arith, less, up)) b.at (b.place ∙ same) in
                        let few = earlier.few in
                        let fsn = earlier.fsn in
                        let start = earlier.start in
                        let next = b.fsn in
                        let next_start = b.start in
                        record {
                          parts = suc earlier.parts;
                          some = omega arith;
                          few = omega (arith, few, less);
                          fsn = omega (arith, fsn, next);
                          start = omega (arith, start, next_start);
                        })
                  ])
            ])
      ]

  pub lies_behind : (m n : ℕ) (f g : Piece) → m < n → at_place m log ≡ Some (Some f) → at_place n log ≡ Some (Some g) → g.place ≡ f.place → LiesBehind m f n g
  lies_behind m n f g above at at' same = lies_within m f at n n g above (omega arith) at' same

  -- without interleaving the next piece has the next TSN
  after_plain : (m n : ℕ) (f g : Piece) → at_place m log ≡ Some (Some f) → at_place n log ≡ Some (Some g) → g.is_interleaved ≡ false → n ≡ m + 1 → 0 < g.start → ComesAfter log m f n g
  after_plain m n f g at at' kind next inside =
      let b = cut.rows n g at' inside (inl (inl kind, omega (arith, next))) in
      let near = b.near (inl kind) in
      comes_after m n f g at at' b (omega (arith, near, next))

  -- with it the next one by its number is the next one
  after_interleaved : length log < 2 ^ 31 → (m n : ℕ) (f g : Piece) → at_place m log ≡ Some (Some f) → at_place n log ≡ Some (Some g) → g.place ≡ f.place → g.fsn % 2 ^ 32 ≡ (f.fsn + 1) % 2 ^ 32 → 0 < g.start → ComesAfter log m f n g
  after_interleaved few m n f g at at' same next inside =
      let below : m < length log = at_below m (Some f) log at in
      let below' : n < length log = at_below n (Some g) log at' in
      elim (leb_tells n m) [
        | inl l ↦
            (let le : n ≤ m = l.1 in
            elim (eqb_tells n m) [
              | inl e ↦
                  (let both : Some (Some g) ≡ Some (Some f) = sym at' ∙ ap (λ (k : ℕ). at_place k log) e.1 ∙ at in
                  let one : g ≡ f = cc in
                  let alike : g.fsn ≡ f.fsn = ap (λ (x : Piece). x.fsn) one in
                  absurd (omega (arith, alike, next)))
              | inr e ↦
                  (let differs : n ≢ m = e.1 in
                  let behind = lies_behind n m g f (omega (arith, le, differs)) at' at (sym same) in
                  let fsn = behind.fsn in
                  let within = behind.few in
                  absurd (omega (arith, fsn, within, next, few, below)))
            ])
        | inr l ↦
            (let less : m < n = l.1 in
            let b = cut.rows n g at' inside (inr (record { earlier = m; piece = f; is = less; at = at; on = one_stream m n f g at at' same })) in
            comes_after m n f g at at' b (closest less b))
      ]
    where
      closest : m < n → (b : HasBefore log n g) → b.earlier ≡ m
      closest less b =
          elim (eqb_tells b.earlier m) [
            | inl e ↦ e.1
            | inr e ↦
                (let differs : b.earlier ≢ m = e.1 in
                let up = b.is in
                let below' : n < length log = at_below n (Some g) log at' in
                elim (leb_tells m b.earlier) [
                  | inr l ↦ (let low : b.earlier < m = l.1 in absurd (b.apart m f low less at (one_stream m n f g at at' same)))
                  | inl l ↦
                      (let le : m ≤ b.earlier = l.1 in
                      let between = lies_behind m b.earlier f b.before (omega (arith, le, differs)) at b.at (b.place ∙ same) in
                      let some = between.some in
                      let within = between.few in
                      let fsn = between.fsn in
                      let then = b.fsn in
                      absurd (omega (arith, some, within, fsn, then, next, few, below', up)))
                ])
          ]

module _ (queued : List Message) (log : List Slot) (cut : IsLogOfPieces queued log) (told : OneKind log) (got : List ℕ) (base : ℕ → ℕ) (Named : Piece → ℕ → Type 0)
    (tells : (m n : ℕ) (f g : Piece) (number : ℕ) → at_place m log ≡ Some (Some f) → at_place n log ≡ Some (Some g) → f.is_interleaved ≡ true → g.is_interleaved ≡ true → Named f number → Named g number → f.place ≡ g.place) where
  numbers_follow : (fsn other length' front back number : ℕ) → front ≡ fragment_place number (fsn % 2 ^ 32) → back ≡ fragment_place number (other % 2 ^ 32) → back ≡ front + length' → other % 2 ^ 32 ≡ fsn % 2 ^ 32 + length'
  numbers_follow fsn other length' front back number is is' follows = omega (arith, is, is', follows)

  -- where runs follow one another, their pieces do
  pub rows_follow : (front back : RunModel) → (f : IsPieceRow log got base Named front) → (b : IsPieceRow log got base Named back) → back.first ≡ front.first + length front.payloads → front.number ≡ back.number → 0 < b.head.start
      → ComesAfter log f.last_offset f.last b.offset b.head
  rows_follow front back f b follows same inside = go told
    where
      go : OneKind log → ComesAfter log f.last_offset f.last b.offset b.head
      go (data_alone kinds) =
          let here = placed_plain base f.offset f.head front.number front.first (kinds f.offset f.head f.at_head) f.first in
          let there = placed_plain base b.offset b.head back.number back.first (kinds b.offset b.head b.at_head) b.first in
          let alike : base front.number ≡ base back.number = ap base same in
          let near = f.near (kinds f.offset f.head f.at_head) in
          after_plain queued log cut f.last_offset b.offset f.last b.head f.at_last b.at_head (kinds b.offset b.head b.at_head) (omega (arith, here, there, alike, follows, near)) inside
      go (interleaved_alone kinds few) =
          let here = placed_interleaved base f.offset f.head front.number front.first (kinds f.offset f.head f.at_head) f.first in
          let there = placed_interleaved base b.offset b.head back.number back.first (kinds b.offset b.head b.at_head) b.first in
          let there' : back.first ≡ fragment_place front.number (b.head.fsn % 2 ^ 32) = there ∙ ap (λ (k : ℕ). fragment_place k (b.head.fsn % 2 ^ 32)) (sym same) in
          let numbers = numbers_follow f.head.fsn b.head.fsn (length front.payloads) front.first back.first front.number here there' follows in
          let place : f.head.place ≡ b.head.place = tells f.offset b.offset f.head b.head front.number f.at_head b.at_head (kinds f.offset f.head f.at_head) (kinds b.offset b.head b.at_head) f.number
          (subst (λ (k : ℕ). Named b.head k) (sym same) b.number) in
          let fsns = f.fsns in
          after_interleaved queued log cut few f.last_offset b.offset f.last b.head f.at_last b.at_head (sym place ∙ sym f.place) (omega (arith, numbers, fsns)) inside
