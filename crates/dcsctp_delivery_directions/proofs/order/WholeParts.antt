-- With interleaving not all parts of a message were handled that is neither before the next one of its stream nor waits: it would be
-- whole.
use Rattle.std.proofs.Common.{◌≡◌, ◌≢◌, ℕ, zero, suc, true, false, ◌<◌, ◌≤◌, ◌+◌, ◌-◌, ◌%◌, ◌^◌, List, length, sym, ◌∙◌, ap, arith, subst, inl, inr}
use Rattle.std.specs.Prelude.{◌⊎◌, Some}
use Rattle.std.proofs.lemmas.Bool.Decides.{eqb_tells, leb_tells}
use Rattle.std.proofs.lemmas.Bool.{eqb-true, eq-eqb}
use Rattle.dcsctp_spec_lemmas.specs.spec.queues.Numbers.{fragment_place}
use Rattle.dcsctp_spec_lemmas.specs.spec.queues.Runs.{RunModel}
use Rattle.dcsctp_spec_lemmas.specs.spec.queues.IncomingStreams.{StreamModel, is_number_waiting}
use Rattle.dcsctp_delivery_directions.specs.sending.Places.{HasEntry, at_place}
use Rattle.dcsctp_delivery_directions.specs.sending.Log.{Message, Piece, History, IsLogOfPieces, is_end}
use Rattle.dcsctp_delivery_directions.specs.sending.Numbers.{IsUnambiguous}
use Rattle.dcsctp_delivery_directions.proofs.sending.Places.{at_below}
use Rattle.dcsctp_delivery_directions.specs.receiving.Rows.{AreRows, IsPieceRow}
use Rattle.dcsctp_delivery_directions.specs.receiving.Ready.{IsOn}
use Rattle.dcsctp_delivery_directions.proofs.receiving.Chaining.{placed_interleaved, lies_behind}
use Rattle.dcsctp_delivery_directions.proofs.receiving.Reading.{tells_as}
use Rattle.dcsctp_delivery_directions.specs.order.Runs.{place_after, IsHeldForMessage, SpansMessage}
use Rattle.dcsctp_delivery_directions.specs.order.Parts.{HoldsParts}
use Rattle.dcsctp_delivery_directions.specs.order.Reading.{CountsFromZero, IsSince}
use Rattle.dcsctp_delivery_directions.proofs.order.Held.{one_is_missing}
use Rattle.dcsctp_delivery_directions.proofs.order.HeldParts.{few_of}
use Rattle.dcsctp_delivery_directions.proofs.order.PlainMissing.{row_in}

module _ (queued : List Message) (history : History) (cut : IsLogOfPieces queued history.log) (told : IsUnambiguous history) (id : ℕ) (counts : CountsFromZero history id) (a : ℕ) (h : Piece) (is : IsSince history id a h) (starts : h.start ≡ 0) where
  few : length history.log < 2 ^ 31
  few = few_of history told a h is.at (counts.kinds a h is.at)

  -- two pieces of one TSN
  one_piece : (m n : ℕ) (f g : Piece) → at_place m history.log ≡ Some (Some f) → at_place n history.log ≡ Some (Some g) → m ≡ n → f ≡ g
  one_piece m n f g at at' same = (let two : Some (Some f) ≡ Some (Some g) = sym at ∙ ap (λ (k : ℕ). at_place k history.log) same ∙ at' in cc)

  one_message : (m n : ℕ) (f g : Piece) → at_place m history.log ≡ Some (Some f) → at_place n history.log ≡ Some (Some g) → f.place ≡ g.place → f.message ≡ g.message
  one_message m n f g at at' same = (let two : Some f.message ≡ Some g.message = sym (cut.pieces m f at).at ∙ ap (λ (k : ℕ). at_place k queued) same ∙ (cut.pieces n g at').at in cc)

  -- The piece of the message comes after so many others, each with a TSN of its own.
  record IsOfIt (n : ℕ) (g : Piece) : Type 0 where
    parts : ℕ
    from : a + parts ≤ n
    fsn : g.fsn % 2 ^ 32 ≡ parts
    small : parts < 2 ^ 31

  first_fsn : h.fsn ≡ 0
  first_fsn = (cut.pieces a h is.at).first starts

  of_it : (n : ℕ) (g : Piece) → at_place n history.log ≡ Some (Some g) → g.place ≡ h.place → IsOfIt n g
  of_it n g at same =
      let below = at_below n (Some g) history.log at in
      let all = few in
      let none = first_fsn in
      elim (eqb_tells n a) [
        | inl e ↦ (let fsn = ap (λ (x : Piece). x.fsn) (one_piece n a g h at is.at e.1) in record { parts = 0; from = omega (arith, e.1); fsn = omega (arith, fsn, none); small = omega arith })
        | inr e ↦ elim (leb_tells a n) [
          | inl low ↦
              (let differs : n ≢ a = e.1 in
              let le : a ≤ n = low.1 in
              let behind = lies_behind queued history.log cut a n h g (omega (arith, le, differs)) is.at at same in
              let within = behind.few in
              let fsn = behind.fsn in
              record { parts = behind.parts; from = within; fsn = omega (arith, fsn, none, within, below, all); small = omega (arith, within, below, all) })
          | inr high ↦ absurd
              (let behind = lies_behind queued history.log cut n a g h high.1 at is.at (sym same) in
              let start = behind.start in
              let some = (cut.pieces n g at).some in
              omega (arith, start, some, starts))
        ]
      ]

  -- all its pieces up to this one were sent
  record IsSentNumbered (j : ℕ) : Type 0 where
    offset : ℕ
    piece : Piece
    at : at_place offset history.log ≡ Some (Some piece)
    place : piece.place ≡ h.place
    fsn : piece.fsn % 2 ^ 32 ≡ j

  each : (k n : ℕ) (g : Piece) → n ≤ a + k → (at : at_place n history.log ≡ Some (Some g)) (same : g.place ≡ h.place) (j : ℕ) → j ≤ (of_it n g at same).parts → IsSentNumbered j
  each zero n g up at same j low =
      let o = of_it n g at same in
      let from = o.from in
      let fsn = o.fsn in
      record { offset = n; piece = g; at = at; place = same; fsn = omega (arith, from, up, fsn, low) }
  each (suc k) n g up at same j low =
      let o = of_it n g at same in
      let from = o.from in
      let fsn = o.fsn in
      let small = o.small in
      elim (eqb_tells j o.parts) [
        | inl e ↦ record { offset = n; piece = g; at = at; place = same; fsn = fsn ∙ sym e.1 }
        | inr e ↦
            (let differs : j ≢ o.parts = e.1 in
            let less : a < n = omega (arith, from, low, differs) in
            let on : h.message.stream ≡ g.message.stream = ap (λ (m : Message). m.stream) (one_message a n h g is.at at (sym same)) in
            elim (eqb_tells g.start 0) [
              | inl first ↦ absurd (let up' = cut.ascends a n h g less is.at at first.1 on in omega (arith, up', same))
              | inr ne ↦
                  (let inside : g.start ≢ 0 = ne.1 in
                  let b = cut.rows n g at (omega (arith, inside)) (inr (record { earlier = a; piece = h; is = less; at = is.at; on = on })) in
                  let earlier = of_it b.earlier b.before b.at (b.place ∙ same) in
                  let fsn' = earlier.fsn in
                  let small' = earlier.small in
                  let next = b.fsn in
                  let before = b.is in
                  each k b.earlier b.before (omega (arith, before, up)) b.at (b.place ∙ same) j (omega (arith, fsn, fsn', small, small', next, low, differs)))
            ])
      ]

  -- ---- its parts would all be held

  module _ (ez : ℕ) (z : Piece) (at_end : at_place ez history.log ≡ Some (Some z)) (of : z.place ≡ h.place) (ends : is_end z ≡ true)
      (got : List ℕ) (base : ℕ → ℕ) (stream : StreamModel) (rows : AreRows history.log got base (IsOn history id) stream.ordered) (parts : HoldsParts history got id stream) (number : ℕ) (up : stream.next ≤ number) (unwaited : is_number_waiting number stream.waiting ≡ false)
      (counted : h.mid + 2 ^ 32 ≡ history.floors id false + number) (all : (n : ℕ) (g : Piece) → at_place n history.log ≡ Some (Some g) → g.place ≡ h.place → HasEntry n got) where
    stop : IsOfIt ez z
    stop = of_it ez z at_end of

    named : IsOn history id h number
    named = (is.stream, λ kind. (is.ordered, (let floor = counts.floor in omega (arith, counted, floor)), is.current))

    since : (n : ℕ) (g : Piece) → at_place n history.log ≡ Some (Some g) → g.place ≡ h.place → (IsSince history id n g) × (g.mid ≡ h.mid)
    since n g at same =
        let o = of_it n g at same in
        let message = one_message n a g h at is.at same in
        let stream_is : g.message.stream ≡ id = ap (λ (m : Message). m.stream) message ∙ is.stream in
        let ordered : g.message.is_unordered ≡ false = ap (λ (m : Message). m.is_unordered) message ∙ is.ordered in
        let mid : g.mid ≡ h.mid = mid_of n n g (omega arith) at same in
        (record { at = at; stream = stream_is; ordered = ordered; current = subst (λ (k : ℕ). history.floors g.message.stream g.message.is_unordered ≤ k) (sym mid) (subst (λ (m : Message). history.floors m.stream m.is_unordered ≤ h.mid) (sym message) is.current) }, mid)
      where
        -- it has the number of the first
        mid_of : (k n : ℕ) (g : Piece) → n ≤ a + k → at_place n history.log ≡ Some (Some g) → g.place ≡ h.place → g.mid ≡ h.mid
        mid_of zero n g up at same = (let from = (of_it n g at same).from in ap (λ (x : Piece). x.mid) (one_piece n a g h at is.at (omega (arith, from, up))))
        mid_of (suc k) n g up at same =
            elim (eqb_tells n a) [
              | inl e ↦ ap (λ (x : Piece). x.mid) (one_piece n a g h at is.at e.1)
              | inr e ↦
                  (let differs : n ≢ a = e.1 in
                  let from = (of_it n g at same).from in
                  let less : a < n = omega (arith, from, differs) in
                  let on : h.message.stream ≡ g.message.stream = ap (λ (m : Message). m.stream) (one_message a n h g is.at at (sym same)) in
                  elim (eqb_tells g.start 0) [
                    | inl first ↦ absurd (let up' = cut.ascends a n h g less is.at at first.1 on in omega (arith, up', same))
                    | inr ne ↦
                        (let inside : g.start ≢ 0 = ne.1 in
                        let b = cut.rows n g at (omega (arith, inside)) (inr (record { earlier = a; piece = h; is = less; at = is.at; on = on })) in
                        let before = b.is in
                        sym b.mid ∙ mid_of k b.earlier b.before (omega (arith, before, up)) b.at (b.place ∙ same))
                  ])
            ]

    -- ---- a run of it

    -- It lies where its pieces do.
    record RunOfIt (run : RunModel) : Type 0 where
      row : IsPieceRow history.log got base (IsOn history id) run
      of_head : row.head.place ≡ h.place
      first_is : run.first ≡ fragment_place number (row.head.fsn % 2 ^ 32)
      after_is : place_after run ≡ fragment_place number (row.last.fsn % 2 ^ 32) + 1

    run_of : (run : RunModel) → HasEntry run stream.ordered → run.number ≡ number → RunOfIt run
    run_of run has its =
        let w = row_in history.log got base (IsOn history id) run stream.ordered rows has in
        let kind = counts.kinds w.offset w.head w.at_head in
        let at : run.first ≡ fragment_place number (w.head.fsn % 2 ^ 32) = placed_interleaved base w.offset w.head run.number run.first kind w.first ∙ ap (λ (k : ℕ). fragment_place k (w.head.fsn % 2 ^ 32)) its in
        let one : w.head.place ≡ h.place = tells_as history told false id w.offset a w.head h number w.at_head is.at kind (counts.kinds a h is.at) (subst (λ (k : ℕ). IsOn history id w.head k) its w.number) named in
        let head = of_it w.offset w.head w.at_head one in
        let last = of_it w.last_offset w.last w.at_last (w.place ∙ one) in
        let spread = w.spread in
        let below = at_below w.last_offset (Some w.last) history.log w.at_last in
        let fsns = w.fsns in
        let fsn = head.fsn in
        let fsn' = last.fsn in
        let small = head.small in
        let small' = last.small in
        let all_few = few in
        record { row = w; of_head = one; first_is = at; after_is = omega (arith, at, spread, below, fsns, fsn, fsn', small, small', all_few) }

    -- the piece with no other before it is the first
    first_of : (n : ℕ) (g : Piece) → at_place n history.log ≡ Some (Some g) → g.place ≡ h.place → g.fsn % 2 ^ 32 ≡ 0 → g ≡ h
    first_of n g at same none =
        elim (eqb_tells n a) [
          | inl e ↦ one_piece n a g h at is.at e.1
          | inr e ↦ absurd
              (let differs : n ≢ a = e.1 in
              let from = (of_it n g at same).from in
              let behind = lies_behind queued history.log cut a n h g (omega (arith, from, differs)) is.at at same in
              let some = behind.some in
              let within = behind.few in
              let fsn = behind.fsn in
              let zero_fsn = first_fsn in
              let below = at_below n (Some g) history.log at in
              let all_few = few in
              omega (arith, some, within, fsn, zero_fsn, below, all_few, none))
        ]

    -- one that ends it is the last, and so is one that comes after as many
    last_at : (n : ℕ) (g : Piece) → at_place n history.log ≡ Some (Some g) → g.place ≡ h.place → (is_end g ≡ true) ⊎ (stop.parts ≤ g.fsn % 2 ^ 32) → g ≡ z
    unfolding stop
    last_at n g at same either =
        let text : g.message ≡ z.message = one_message n ez g z at at_end (same ∙ sym of) in
        let sizes : length g.message.payload ≡ length z.message.payload = ap (λ (m : Message). length m.payload) text in
        let z_stop : z.start + z.size ≡ length z.message.payload = eqb-true (z.start + z.size) (length z.message.payload) ends in
        let some = (cut.pieces n g at).some in
        let within = (cut.pieces n g at).within in
        let some' = (cut.pieces ez z at_end).some in
        elim (eqb_tells n ez) [
          | inl e ↦ one_piece n ez g z at at_end e.1
          | inr e ↦
              (let differs : n ≢ ez = e.1 in
              elim (leb_tells n ez) [
                | inr late ↦ absurd
                    (let behind = lies_behind queued history.log cut ez n z g late.1 at_end at (same ∙ sym of) in
                    let start = behind.start in
                    omega (arith, start, z_stop, sizes, some, within))
                | inl early ↦
                    (let le : n ≤ ez = early.1 in
                    let behind = lies_behind queued history.log cut n ez g z (omega (arith, le, differs)) at at_end (of ∙ sym same) in
                    elim either [
                      | inl its ↦ absurd (let g_stop = eqb-true (g.start + g.size) (length g.message.payload) its in let start = behind.start in omega (arith, start, g_stop, sizes, z_stop, some'))
                      | inr high ↦ absurd
                          (let more = behind.some in
                          let up = behind.few in
                          let fsn = behind.fsn in
                          let mine = (of_it n g at same).fsn in
                          let mine' = (of_it n g at same).from in
                          let fsn_z = (of_it ez z at_end of).fsn in
                          let below = at_below ez (Some z) history.log at_end in
                          let all_few = few in
                          omega (arith, more, up, fsn, mine, mine', fsn_z, below, all_few, high))
                    ])
              ])
        ]

    spans : SpansMessage stream.ordered number (fragment_place number 0) (fragment_place number stop.parts)
    unfolding stop
    spans =
        record {
          begins = λ run has its e. (
              let r = run_of run has its in
              let start : r.row.head.start ≡ 0 = eqb-true r.row.head.start 0 (sym r.row.beginning ∙ e) in
              let none = (cut.pieces r.row.offset r.row.head r.row.at_head).first start in
              let at = r.first_is in
              omega (arith, at, none)
              );
          ends = λ run has its e. (
              let r = run_of run has its in
              let one = last_at r.row.last_offset r.row.last r.row.at_last (r.row.place ∙ r.of_head) (inl (sym r.row.end ∙ e)) in
              let fsn = ap (λ (x : Piece). x.fsn % 2 ^ 32) one in
              let fsn_z = (of_it ez z at_end of).fsn in
              let at = r.after_is in
              omega (arith, at, fsn, fsn_z)
              );
          begun = λ run has its low high. (
              let r = run_of run has its in
              let at = r.first_is in
              let one = first_of r.row.offset r.row.head r.row.at_head r.of_head (omega (arith, at, low)) in
              r.row.beginning ∙ eq-eqb r.row.head.start 0 (ap (λ (x : Piece). x.start) one ∙ starts)
              );
          ended = λ run has its low high. (
              let r = run_of run has its in
              let at = r.after_is in
              let one = last_at r.row.last_offset r.row.last r.row.at_last (r.row.place ∙ r.of_head) (inr (omega (arith, at, high))) in
              r.row.end ∙ ap is_end one ∙ ends
              );
        }

    pub not_all_handled : ⊥
    unfolding stop
    not_all_handled =
        one_is_missing stream.ordered number (fragment_place number 0) (fragment_place number stop.parts) parts.apart spans (omega arith)
        (λ place low high. (
        let at : fragment_place number (place - fragment_place number 0) ≡ place = omega (arith, low) in
        let p = each ez ez z (omega arith) at_end of (place - fragment_place number 0) (omega (arith, low, high)) in
        let (s, mid) = since p.offset p.piece p.at p.place in
        elim (parts.held p.offset p.piece s (all p.offset p.piece p.at p.place) number (omega (arith, mid, counted)) up) [
          | inl held ↦ subst (λ (q : ℕ). IsHeldForMessage stream.ordered q number) (ap (λ (k : ℕ). fragment_place number k) p.fsn ∙ at) held
          | inr w ↦ absurd (let clash : true ≡ false = sym w ∙ unwaited in cc)
        ]
        ))
