-- The pieces of one message in the log of a sender, and those of a stream: their numbers ascend.
use Rattle.std.proofs.Common.{◌≡◌, ◌≢◌, ℕ, zero, suc, true, ◌<◌, ◌≤◌, ◌+◌, List, sym, ◌∙◌, ap, arith, inl, inr}
use Rattle.std.specs.Prelude.{Some}
use Rattle.std.proofs.lemmas.Bool.Decides.{eqb_tells, leb_tells}
use Rattle.dcsctp_delivery_directions.specs.sending.Places.{at_place}
use Rattle.dcsctp_delivery_directions.specs.sending.Log.{Message, Piece, Slot, IsLogOfPieces, HasBefore}
use Rattle.dcsctp_delivery_directions.specs.sending.Numbers.{AreOfKind}

module _ (queued : List Message) (log : List Slot) (cut : IsLogOfPieces queued log) where
  -- pieces of one place are of one message
  pub one_message : (m n : ℕ) (f g : Piece) → at_place m log ≡ Some (Some f) → at_place n log ≡ Some (Some g) → f.place ≡ g.place → f.message ≡ g.message
  one_message m n f g at at' same = (let two : Some f.message ≡ Some g.message = sym (cut.pieces m f at).at ∙ ap (λ (k : ℕ). at_place k queued) same ∙ (cut.pieces n g at').at in cc)

  -- two pieces of one TSN
  pub one_piece : (m n : ℕ) (f g : Piece) → at_place m log ≡ Some (Some f) → at_place n log ≡ Some (Some g) → m ≡ n → f ≡ g
  one_piece m n f g at at' same = (let two : Some (Some f) ≡ Some (Some g) = sym at ∙ ap (λ (k : ℕ). at_place k log) same ∙ at' in cc)

  -- a piece that isn't the first of its message comes after another of it, and none of the stream lies between
  inside : (m n : ℕ) (f g : Piece) → m < n → at_place m log ≡ Some (Some f) → at_place n log ≡ Some (Some g) → f.message.stream ≡ g.message.stream → (g.start ≡ 0 → ⊥) → (b : HasBefore log n g) × (m ≤ b.earlier)
  inside m n f g less at at' on some =
      let ne : g.start ≢ 0 = some in
      let b = cut.rows n g at' (omega (arith, ne)) (inr (record { earlier = m; piece = f; is = less; at = at; on = on })) in
      (b, elim (leb_tells m b.earlier) [ inl e ↦ e.1 | inr e ↦ absurd (b.apart m f e.1 less at on) ])

  -- A message that may be abandoned has TSNs in a row.
  in_row : (d m n k : ℕ) (f g h : Piece) → n ≤ m + d → at_place m log ≡ Some (Some f) → at_place n log ≡ Some (Some g) → f.place ≡ g.place → g.message.is_limited ≡ true → m ≤ k → k ≤ n → at_place k log ≡ Some (Some h) → h.place ≡ f.place
  in_row zero m n k f g h near at at' same limited low up there = ap (λ (x : Piece). x.place) (one_piece k m h f there at (omega (arith, near, low, up)))
  in_row (suc d) m n k f g h near at at' same limited low up there =
      elim (eqb_tells k n) [
        | inl e ↦ ap (λ (x : Piece). x.place) (one_piece k n h g there at' e.1) ∙ sym same
        | inr e ↦
            (let differs : k ≢ n = e.1 in
            let less : m < n = omega (arith, differs, low, up) in
            let on : f.message.stream ≡ g.message.stream = ap (λ (x : Message). x.stream) (one_message m n f g at at' same) in
            let (b, from) = inside m n f g less at at' on (λ starts. (let rise = cut.ascends m n f g less at at' starts on in omega (arith, rise, same))) in
            let next = b.near (inr limited) in
            in_row d m b.earlier k f b.before h (omega (arith, next, near)) at b.at (same ∙ sym b.place) (ap (λ (x : Message). x.is_limited) b.message ∙ limited) low (omega (arith, next, up, differs)) there)
      ]

  pub row_between : (m n k : ℕ) (f g h : Piece) → at_place m log ≡ Some (Some f) → at_place n log ≡ Some (Some g) → f.place ≡ g.place → g.message.is_limited ≡ true → m ≤ k → k ≤ n → at_place k log ≡ Some (Some h) → h.place ≡ f.place
  row_between m n k f g h at at' same limited low up there = in_row n m n k f g h (omega arith) at at' same limited low up there

  mid_so : (d m n : ℕ) (f g : Piece) → m ≤ n → n ≤ m + d → at_place m log ≡ Some (Some f) → at_place n log ≡ Some (Some g) → f.place ≡ g.place → f.mid ≡ g.mid
  mid_so zero m n f g low near at at' same = ap (λ (x : Piece). x.mid) (one_piece m n f g at at' (omega (arith, low, near)))
  mid_so (suc d) m n f g low near at at' same =
      elim (eqb_tells m n) [
        | inl e ↦ ap (λ (x : Piece). x.mid) (one_piece m n f g at at' e.1)
        | inr e ↦
            (let differs : m ≢ n = e.1 in
            let less : m < n = omega (arith, differs, low) in
            let on : f.message.stream ≡ g.message.stream = ap (λ (x : Message). x.stream) (one_message m n f g at at' same) in
            let (b, from) = inside m n f g less at at' on (λ starts. (let rise = cut.ascends m n f g less at at' starts on in omega (arith, rise, same))) in
            let before = b.is in
            mid_so d m b.earlier f b.before from (omega (arith, before, near)) at b.at (same ∙ sym b.place) ∙ b.mid)
      ]

  -- They have one number.
  pub one_mid : (m n : ℕ) (f g : Piece) → at_place m log ≡ Some (Some f) → at_place n log ≡ Some (Some g) → f.place ≡ g.place → f.mid ≡ g.mid
  one_mid m n f g at at' same =
      elim (leb_tells m n) [
        | inl e ↦ mid_so n m n f g e.1 (omega arith) at at' same
        | inr e ↦ (let less : n < m = e.1 in sym (mid_so m n m g f (omega (arith, less)) (omega arith) at' at (sym same)))
      ]

  ascend_so : (d m n : ℕ) (f g : Piece) → AreOfKind true log → m ≤ n → n ≤ m + d → at_place m log ≡ Some (Some f) → at_place n log ≡ Some (Some g) → f.message.stream ≡ g.message.stream → f.message.is_unordered ≡ g.message.is_unordered → f.mid ≤ g.mid
  ascend_so zero m n f g kinds low near at at' on kind = (let same = ap (λ (x : Piece). x.mid) (one_piece m n f g at at' (omega (arith, low, near))) in omega (arith, same))
  ascend_so (suc d) m n f g kinds low near at at' on kind =
      elim (eqb_tells m n) [
        | inl e ↦ (let same = ap (λ (x : Piece). x.mid) (one_piece m n f g at at' e.1) in omega (arith, same))
        | inr e ↦
            (let differs : m ≢ n = e.1 in
            let less : m < n = omega (arith, differs, low) in
            elim (eqb_tells g.start 0) [
              | inl starts ↦ (let rise = cut.climbs m n f g less at at' starts.1 (kinds n g at') on kind in omega (arith, rise))
              | inr some ↦
                  (let (b, from) = inside m n f g less at at' on some.1 in
                  let before = b.is in
                  let alike = b.mid in
                  let up = ascend_so d m b.earlier f b.before kinds from (omega (arith, before, near)) at b.at (on ∙ ap (λ (x : Message). x.stream) (sym b.message)) (kind ∙ ap (λ (x : Message). x.is_unordered) (sym b.message)) in
                  omega (arith, up, alike))
            ])
      ]

  -- With interleaving the numbers of a stream ascend, those of ordered messages and those of unordered ones.
  pub mids_ascend : (m n : ℕ) (f g : Piece) → AreOfKind true log → m ≤ n → at_place m log ≡ Some (Some f) → at_place n log ≡ Some (Some g) → f.message.stream ≡ g.message.stream → f.message.is_unordered ≡ g.message.is_unordered → f.mid ≤ g.mid
  mids_ascend m n f g kinds low at at' on kind = ascend_so n m n f g kinds low (omega arith) at at' on kind
