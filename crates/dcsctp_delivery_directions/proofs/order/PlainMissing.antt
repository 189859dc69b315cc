-- Without interleaving a TSN of the next message is missing, if a later message of its stream was
-- begun: with all of them it would be whole, or was abandoned.
use Rattle.std.proofs.Common.{◌≡◌, ℕ, zero, suc, true, false, ◌<◌, ◌≤◌, ◌+◌, ◌-◌, ◌^◌, List, [], ◌∷◌, length, refl, sym, ◌∙◌, ap, arith, subst, inl, inr}
use Rattle.std.specs.Prelude.{None, Some}
use Rattle.std.proofs.lemmas.Bool.{eqb-true, eq-eqb}
use Rattle.std.proofs.lemmas.Bool.Decides.{eqb_tells, leb_tells}
use Rattle.dcsctp_spec_lemmas.specs.spec.queues.Numbers.{fragment_place}
use Rattle.dcsctp_spec_lemmas.specs.spec.queues.Runs.{RunModel, WholeModel}
use Rattle.dcsctp_spec_lemmas.specs.spec.queues.IncomingStreams.{StreamModel, is_number_waiting}
use Rattle.dcsctp_delivery_directions.specs.sending.Places.{HasEntry, at_place}
use Rattle.dcsctp_delivery_directions.specs.sending.Log.{Message, Piece, Slot, History, IsLogOfPieces, is_beginning, is_end}
use Rattle.dcsctp_delivery_directions.specs.sending.Turns.{turn_of_tsn}
use Rattle.dcsctp_delivery_directions.proofs.sending.Places.{at_some, at_below}
use Rattle.dcsctp_delivery_directions.specs.receiving.Rows.{IsPieceRow, AreRows}
use Rattle.dcsctp_delivery_directions.specs.receiving.Ready.{IsOn, ordered_base}
use Rattle.dcsctp_delivery_directions.proofs.receiving.Chaining.{placed_plain}
use Rattle.dcsctp_delivery_directions.specs.order.Rising.{AscendFrom}
use Rattle.dcsctp_delivery_directions.specs.order.Runs.{place_after, LieApart, IsHeldForMessage, SpansMessage}
use Rattle.dcsctp_delivery_directions.specs.order.Plain.{number_of_tsn, CountsPlain, CarriesOrdered, IsNumberedRun, IsHeldOrWaits}
use Rattle.dcsctp_delivery_directions.proofs.order.Held.{one_is_missing}
use Rattle.dcsctp_delivery_directions.proofs.order.PlainTurns.{turn_inside, IsFirstAt, one_first}
use Rattle.dcsctp_delivery_directions.proofs.order.PlainRows.{ContinuesAt, RowOf, some_turn, row_of, one_beginning}

-- what waits has numbers from this one on
pub none_below : (from number : ℕ) (waiting : List WholeModel) → AscendFrom from waiting → number < from → is_number_waiting number waiting ≡ false
none_below from number [] up less = refl
none_below from number (w ∷ waiting) up less =
    elim (eqb_tells w.number number) [
      | inl e ↦ absurd (let same : w.number ≡ number = e.1 in let low = up.0 in omega (arith, same, low, less))
      | inr e ↦ rw e.0 (none_below (w.number + 1) number waiting up.2 (let low = up.0 in omega (arith, low, less)))
    ]

pub row_in : (log : List Slot) (got : List ℕ) (base : ℕ → ℕ) (Named : Piece → ℕ → Type 0) (run : RunModel) (runs : List RunModel) → AreRows log got base Named runs → HasEntry run runs → IsPieceRow log got base Named run
row_in log got base Named run [] are has = absurd has
row_in log got base Named run (r ∷ runs) are has =
    elim has [
      | inl e ↦ subst (λ (x : RunModel). IsPieceRow log got base Named x) (sym e) are.0
      | inr t ↦ row_in log got base Named run runs are.1 t
    ]

-- The TSN was handled if it carries a piece of the stream. It isn't the end of an ordered message of the stream that is abandoned.
pub record PassedOn (log : List Slot) (got : List ℕ) (id n : ℕ) : Type 0 where
  pub handled : (f : Piece) → at_place n log ≡ Some (Some f) → f.message.stream ≡ id → HasEntry n got
  pub never_shuts : (m : ℕ) (f : Piece) → m + 1 ≡ n → CarriesOrdered log id m f → at_place n log ≡ Some None → ⊥

module _ (queued : List Message) (history : History) (cut : IsLogOfPieces queued history.log) (id : ℕ) (counts : CountsPlain id history) where
  -- pieces of one message say so
  one_text : (m n : ℕ) (f g : Piece) → at_place m history.log ≡ Some (Some f) → at_place n history.log ≡ Some (Some g) → f.place ≡ g.place → f.message ≡ g.message
  one_text m n f g at at' same =
      let both : Some f.message ≡ Some g.message = sym (cut.pieces m f at).at ∙ ap (λ (k : ℕ). at_place k queued) same ∙ (cut.pieces n g at').at in
      cc

  one_piece : (m n : ℕ) (f g : Piece) → at_place m history.log ≡ Some (Some f) → at_place n history.log ≡ Some (Some g) → m ≡ n → f ≡ g
  one_piece m n f g at at' same = (let both : Some (Some f) ≡ Some (Some g) = sym at ∙ ap (λ (k : ℕ). at_place k history.log) same ∙ at' in cc)

  module _ (b : ℕ) (first : IsFirstAt history.log id b) where
    head : Piece
    head = first.piece

    -- The message goes on up to this TSN.
    GoesUpTo : ℕ → Type 0
    GoesUpTo j = (k : ℕ) → b < k → k < j → ContinuesAt history.log first.piece.place k

    -- The last of its pieces ends it.
    record Row (end : ℕ) : Type 0 where
      last : ℕ
      from : b ≤ last
      to : last < end
      goes : GoesUpTo (last + 1)
      ends : (f : Piece) → at_place last history.log ≡ Some (Some f) → is_end f ≡ true

    module _ (end : ℕ) (later : IsFirstAt history.log id end) (all : (i : ℕ) (f : Piece) → b ≤ i → i + 1 < end → CarriesOrdered history.log id i f → (g : Piece) × (at_place (i + 1) history.log ≡ Some (Some g))) where
      -- its pieces are ordered ones of the stream
      own : (i : ℕ) → b ≤ i → GoesUpTo (i + 1) → (f : Piece) × CarriesOrdered history.log id i f
      unfolding GoesUpTo
      own i low goes =
          elim (eqb_tells i b) [
            | inl e ↦ (first.piece, subst (λ (k : ℕ). CarriesOrdered history.log id k first.piece) (sym e.1) first.is)
            | inr e ↦
                (let ne : i ≡ b → ⊥ = e.1 in
                let c = goes i (omega (arith, low, ne)) (omega arith) in
                let text = one_text i b c.piece first.piece c.at first.is.at c.is in
                (c.piece, record { at = c.at; stream = ap (λ (m : Message). m.stream) text ∙ first.is.stream; ordered = ap (λ (m : Message). m.is_unordered) text ∙ first.is.ordered }))
          ]

      continues : (i : ℕ) (g : Piece) → b ≤ i → GoesUpTo (i + 1) → at_place (i + 1) history.log ≡ Some (Some g) → 0 < g.start → ContinuesAt history.log first.piece.place (i + 1)
      unfolding GoesUpTo
      continues i g low goes at inside =
          let kind : g.is_interleaved ≡ false = counts.kinds (i + 1) g at in
          let before = cut.rows (i + 1) g at inside (inl (inl kind, omega arith)) in
          let here : before.earlier ≡ i = (let near = before.near (inl kind) in omega (arith, near)) in
          let place : before.before.place ≡ first.piece.place = elim (eqb_tells i b) [
            | inl e ↦ ap (λ (x : Piece). x.place) (one_piece before.earlier b before.before first.piece before.at first.is.at (here ∙ e.1))
            | inr e ↦
                (let ne : i ≡ b → ⊥ = e.1 in
                let c = goes i (omega (arith, low, ne)) (omega arith) in
                ap (λ (x : Piece). x.place) (one_piece before.earlier i before.before c.piece before.at c.at here) ∙ c.is)
          ] in
          record { piece = g; at = at; inside = inside; is = sym before.place ∙ place }

      find : (d i : ℕ) → b ≤ i → i + 1 + d ≡ end → GoesUpTo (i + 1) → Row end
      unfolding GoesUpTo
      find zero i low is goes =
          let same : i + 1 ≡ end = omega (arith, is) in
          record {
            last = i;
            from = low;
            to = omega (arith, is);
            goes = goes;
            ends = λ f at. counts.closes i f later.piece at (ap (λ (k : ℕ). at_place k history.log) same ∙ later.is.at) later.start;
          }
      find (suc d) i low is goes =
          let (f, of) = own i low goes in
          let (g, at) = all i f low (omega (arith, is)) of in
          elim (eqb_tells g.start 0) [
            | inl e ↦ record { last = i; from = low; to = omega (arith, is); goes = goes; ends = λ f' at'. counts.closes i f' g at' at e.1 }
            | inr e ↦
                (let ne : g.start ≡ 0 → ⊥ = e.1 in
                let c = continues i g low goes at (omega (arith, ne)) in
                find d (i + 1) (omega (arith, low)) (omega (arith, is))
                (λ k from to. elim (eqb_tells k (i + 1)) [
                  | inl t ↦ subst (λ (j : ℕ). ContinuesAt history.log first.piece.place j) (sym t.1) c
                  | inr t ↦ (let apart : k ≡ i + 1 → ⊥ = t.1 in goes k from (omega (arith, to, apart)))
                ]))
          ]

      row : b < end → Row end
      unfolding GoesUpTo
      row less = find (end - (b + 1)) b (omega arith) (omega (arith, less)) (λ k from to. absurd (omega (arith, from, to)))

    -- ---- its parts

    record PartAt (k : ℕ) : Type 0 where
      piece : Piece
      is : CarriesOrdered history.log id k piece
      place : piece.place ≡ first.piece.place
      turn : turn_of_tsn id k history.log ≡ turn_of_tsn id b history.log

    module _ (end : ℕ) (r : Row end) where
      part_at : (d : ℕ) → b + d ≤ r.last → PartAt (b + d)
      unfolding GoesUpTo
      part_at zero up = (let same : b ≡ b + 0 = omega arith in subst PartAt same (record { piece = first.piece; is = first.is; place = refl; turn = refl }))
      part_at (suc d) up =
          let before = part_at d (omega (arith, up)) in
          let here : b + d + 1 ≡ b + suc d = omega arith in
          let c = r.goes (b + d + 1) (omega arith) (omega (arith, up)) in
          let text = one_text (b + d + 1) b c.piece first.piece c.at first.is.at c.is in
          subst PartAt here
          (record {
            piece = c.piece;
            is = record { at = c.at; stream = ap (λ (m : Message). m.stream) text ∙ first.is.stream; ordered = ap (λ (m : Message). m.is_unordered) text ∙ first.is.ordered };
            place = c.is;
            turn = turn_inside id (b + d) c.piece history.log c.at c.inside ∙ before.turn;
          })

      part : (k : ℕ) → b ≤ k → k ≤ r.last → PartAt k
      part k low up = (let same : b + (k - b) ≡ k = omega (arith, low) in subst PartAt same (part_at (k - b) (omega (arith, low, up))))

      -- the last one ends it
      last_part : PartAt r.last
      last_part = part r.last r.from (omega arith)

      ended : is_end last_part.piece ≡ true
      ended = r.ends last_part.piece last_part.is.at

      -- a row that begins with it is of it, and ends with it
      of_first : (k : ℕ) (f : Piece) → (row' : RowOf history.log id f.place k) → row'.from ≡ b → f.place ≡ first.piece.place
      of_first k f row' same = sym row'.is ∙ ap (λ (x : Piece). x.place) (one_piece row'.from b row'.first.piece first.piece row'.first.is.at first.is.at same)

      within : (k : ℕ) (f : Piece) → (row' : RowOf history.log id f.place k) → row'.from ≡ b → k ≤ r.last
      within k f row' same = elim (leb_tells k r.last) [
        | inl e ↦ e.1
        | inr e ↦
            absurd
            (let more : r.last < k = e.1 in
            let low = r.from in
            let c = row'.inside (r.last + 1) (omega (arith, low, same)) (omega (arith, more)) in
            let kind : c.piece.is_interleaved ≡ false = counts.kinds (r.last + 1) c.piece c.at in
            let before = cut.rows (r.last + 1) c.piece c.at c.inside (inl (inl kind, omega arith)) in
            let one : before.before ≡ last_part.piece = one_piece before.earlier r.last before.before last_part.piece before.at last_part.is.at (let near = before.near (inl kind) in omega (arith, near)) in
            let stop : last_part.piece.start + last_part.piece.size ≡ length last_part.piece.message.payload = eqb-true (last_part.piece.start + last_part.piece.size) (length last_part.piece.message.payload) ended in
            let start : last_part.piece.start + last_part.piece.size ≡ c.piece.start = ap (λ (y : Piece). y.start + y.size) (sym one) ∙ before.start in
            let text : last_part.piece.message ≡ c.piece.message = ap (λ (y : Piece). y.message) (sym one) ∙ before.message in
            let sizes : length last_part.piece.message.payload ≡ length c.piece.message.payload = ap (λ (m : Message). length m.payload) text in
            let of = cut.pieces (r.last + 1) c.piece c.at in
            let some = of.some in
            let inside = of.within in
            omega (arith, stop, start, sizes, some, inside))
      ]

      first_at : (k : ℕ) (f : Piece) → (row' : RowOf history.log id f.place k) → turn_of_tsn id k history.log ≡ turn_of_tsn id b history.log → row'.from ≡ b
      first_at k f row' turn = one_first history.log id row'.from b row'.first first (row'.turn ∙ turn)

      -- rows of one message begin at one TSN
      rows_agree : (k m : ℕ) (f g : Piece) (one : RowOf history.log id f.place k) (other : RowOf history.log id g.place m) → g.place ≡ f.place → other.from ≡ one.from
      rows_agree k m f g one other same = one_beginning queued history cut id counts other.from one.from other.first one.first (other.is ∙ same ∙ sym one.is)

      -- ---- a run of it

      module _ (got : List ℕ) (base : ℕ) (stream : StreamModel) (rows : AreRows history.log got (ordered_base base) (IsOn history id) stream.ordered)
          (runs : (run : RunModel) → HasEntry run stream.ordered → IsNumberedRun history.log base id run) (number_is : number_of_tsn id b history.log ≡ stream.next) where
        -- It lies where the row says.
        record RunAt (run : RunModel) : Type 0 where
          offset : ℕ
          its : Piece
          is : CarriesOrdered history.log id offset its
          last_offset : ℕ
          last : Piece
          at_last : at_place last_offset history.log ≡ Some (Some last)
          text : last.message ≡ first.piece.message
          low : b ≤ offset
          up : last_offset ≤ r.last
          turn : turn_of_tsn id offset history.log ≡ turn_of_tsn id b history.log
          begins_at : run.first ≡ fragment_place stream.next base + offset
          ends_at : place_after run ≡ fragment_place stream.next base + last_offset + 1
          beginning : run.has_beginning ≡ is_beginning its
          end' : run.has_end ≡ is_end last
          last_from : b ≤ last_offset

        begins_with : (m k : ℕ) → m ≡ k → k ≡ b → m ≡ b
        begins_with m k same is = same ∙ is

        place_so : (place number offset : ℕ) → place ≡ fragment_place number base + offset → number ≡ stream.next → place ≡ fragment_place stream.next base + offset
        place_so place number offset is named = is ∙ ap (λ (k : ℕ). fragment_place k base + offset) named

        turn_of : (k : ℕ) (f : Piece) → CarriesOrdered history.log id k f → number_of_tsn id k history.log ≡ stream.next → turn_of_tsn id k history.log ≡ turn_of_tsn id b history.log
        turn_of k f is number =
            let some = some_turn queued history cut id counts k f is in
            let some_b = some_turn queued history cut id counts b first.piece first.is in
            omega (arith, number, number_is, some, some_b)

        run_at : (run : RunModel) → HasEntry run stream.ordered → run.number ≡ stream.next → RunAt run
        run_at run has named =
            let w = row_in history.log got (ordered_base base) (IsOn history id) run stream.ordered rows has in
            let n = runs run has in
            let place : run.first ≡ fragment_place run.number base + w.offset = placed_plain (ordered_base base) w.offset w.head run.number run.first (counts.kinds w.offset w.head w.at_head) w.first in
            let same : n.offset ≡ w.offset = (let other = n.first in omega (arith, place, other)) in
            let one : n.piece ≡ w.head = one_piece n.offset w.offset n.piece w.head n.is.at w.at_head same in
            let is : CarriesOrdered history.log id w.offset w.head = record { at = w.at_head; stream = ap (λ (x : Piece). x.message.stream) (sym one) ∙ n.is.stream; ordered = ap (λ (x : Piece). x.message.is_unordered) (sym one) ∙ n.is.ordered } in
            let is_last : CarriesOrdered history.log id w.last_offset w.last = record { at = w.at_last; stream = ap (λ (m : Message). m.stream) w.message ∙ is.stream; ordered = ap (λ (m : Message). m.is_unordered) w.message ∙ is.ordered } in
            let turn : turn_of_tsn id w.offset history.log ≡ turn_of_tsn id b history.log =
            turn_of w.offset w.head is (ap (λ (k : ℕ). number_of_tsn id k history.log) (sym same) ∙ sym n.number ∙ named) in
            let one_row = row_of queued history cut id counts w.offset w.head is in
            let last_row = row_of queued history cut id counts w.last_offset w.last is_last in
            let from : one_row.from ≡ b = first_at w.offset w.head one_row turn in
            let both_rows : last_row.from ≡ one_row.from = rows_agree w.offset w.last_offset w.head w.last one_row last_row w.place in
            let first_place : w.head.place ≡ first.piece.place = of_first w.offset w.head one_row from in
            record {
              offset = w.offset;
              its = w.head;
              is = is;
              last_offset = w.last_offset;
              last = w.last;
              at_last = w.at_last;
              text = w.message ∙ one_text w.offset b w.head first.piece w.at_head first.is.at first_place;
              low = (let up = one_row.up_to in omega (arith, up, from));
              up = within w.last_offset w.last last_row (begins_with last_row.from one_row.from both_rows from);
              turn = turn;
              begins_at = place_so run.first run.number w.offset place named;
              ends_at = (let ends = w.near (counts.kinds w.offset w.head w.at_head) in let at = place_so run.first run.number w.offset place named in omega (arith, ends, at));
              beginning = w.beginning;
              end' = w.end;
              last_from = (let up = last_row.up_to in omega (arith, up, from, both_rows));
            }

        -- one that ends the message ends where that does
        at_end : (run : RunModel) → (x : RunAt run) → is_end x.last ≡ true → x.last_offset ≡ r.last
        unfolding GoesUpTo
        at_end run x e =
            elim (leb_tells r.last x.last_offset) [
              | inl t ↦ (let down : r.last ≤ x.last_offset = t.1 in let up = x.up in omega (arith, down, up))
              | inr t ↦
                  absurd
                  (let less : x.last_offset < r.last = t.1 in
                  let low = x.last_from in
                  let c = r.goes (x.last_offset + 1) (omega (arith, low)) (omega (arith, less)) in
                  let kind : c.piece.is_interleaved ≡ false = counts.kinds (x.last_offset + 1) c.piece c.at in
                  let before = cut.rows (x.last_offset + 1) c.piece c.at c.inside (inl (inl kind, omega arith)) in
                  let one : before.before ≡ x.last = one_piece before.earlier x.last_offset before.before x.last before.at x.at_last (let near = before.near (inl kind) in omega (arith, near)) in
                  let stop : x.last.start + x.last.size ≡ length x.last.message.payload = eqb-true (x.last.start + x.last.size) (length x.last.message.payload) e in
                  let start : x.last.start + x.last.size ≡ c.piece.start = ap (λ (y : Piece). y.start + y.size) (sym one) ∙ before.start in
                  let text : x.last.message ≡ c.piece.message = x.text ∙ sym (one_text (x.last_offset + 1) b c.piece first.piece c.at first.is.at c.is) in
                  let sizes : length x.last.message.payload ≡ length c.piece.message.payload = ap (λ (m : Message). length m.payload) text in
                  let of = cut.pieces (x.last_offset + 1) c.piece c.at in
                  let some = of.some in
                  let inside = of.within in
                  omega (arith, stop, start, sizes, some, inside))
            ]

        spans : SpansMessage stream.ordered stream.next (fragment_place stream.next base + b) (fragment_place stream.next base + r.last)
        spans =
            record {
              begins = λ run has named e. (
                  let x = run_at run has named in
                  let start : x.its.start ≡ 0 = eqb-true x.its.start 0 (sym x.beginning ∙ e) in
                  let same : x.offset ≡ b = one_first history.log id x.offset b (record { piece = x.its; is = x.is; start = start }) first x.turn in
                  x.begins_at ∙ ap (λ (k : ℕ). fragment_place stream.next base + k) same
                  );
              ends = λ run has named e. (
                  let x = run_at run has named in
                  let same = at_end run x (sym x.end' ∙ e) in
                  x.ends_at ∙ ap (λ (k : ℕ). fragment_place stream.next base + k + 1) same
                  );
              begun = λ run has named low up. (
                  let x = run_at run has named in
                  let at = x.begins_at in
                  let from = x.low in
                  let same : x.offset ≡ b = omega (arith, at, from, low) in
                  let one = one_piece x.offset b x.its first.piece x.is.at first.is.at same in
                  x.beginning ∙ eq-eqb x.its.start 0 (ap (λ (y : Piece). y.start) one ∙ first.start)
                  );
              ended = λ run has named low up. (
                  let x = run_at run has named in
                  let at = x.ends_at in
                  let high = x.up in
                  let same : x.last_offset ≡ r.last = omega (arith, at, high, up) in
                  let one = one_piece x.last_offset r.last x.last last_part.piece x.at_last last_part.is.at same in
                  x.end' ∙ ap is_end one ∙ ended
                  );
            }

        -- all parts are held then, and the message would be whole
        not_all : LieApart 0 stream.ordered → AscendFrom (stream.next + 1) stream.waiting
            → ((n : ℕ) (f : Piece) → CarriesOrdered history.log id n f → HasEntry n got → stream.next ≤ number_of_tsn id n history.log → IsHeldOrWaits history.log base id stream n)
            → ((k : ℕ) → b ≤ k → k ≤ r.last → HasEntry k got) → ⊥
        not_all apart waits held all =
            one_is_missing stream.ordered stream.next (fragment_place stream.next base + b) (fragment_place stream.next base + r.last) apart spans (let low = r.from in omega (arith, low))
            (λ place low up. (
            let k : ℕ = place - fragment_place stream.next base in
            let from : b ≤ place - fragment_place stream.next base = omega (arith, low) in
            let to : place - fragment_place stream.next base ≤ r.last = omega (arith, up) in
            let at : fragment_place stream.next base + (place - fragment_place stream.next base) ≡ place = omega (arith, low) in
            let p = part (place - fragment_place stream.next base) from to in
            let number : number_of_tsn id (place - fragment_place stream.next base) history.log ≡ stream.next = ap (λ (t : ℕ). 2 ^ 32 + t - 1) p.turn ∙ number_is in
            elim (held (place - fragment_place stream.next base) p.piece p.is (all (place - fragment_place stream.next base) from to) (omega (arith, number))) [
              | inl h ↦
                  subst (λ (q : ℕ). IsHeldForMessage stream.ordered q stream.next) at
                  (subst (λ (j : ℕ). IsHeldForMessage stream.ordered (fragment_place j base + (place - fragment_place stream.next base)) j) number h)
              | inr w ↦
                  absurd
                  (let here : is_number_waiting stream.next stream.waiting ≡ true = subst (λ (j : ℕ). is_number_waiting j stream.waiting ≡ true) number w in
                  let clash : true ≡ false = sym here ∙ none_below (stream.next + 1) stream.next stream.waiting waits (omega arith) in
                  cc)
            ]
            ))

    -- So not all TSNs up to a later message were handled.
    pub incomplete : (end : ℕ) (later : IsFirstAt history.log id end) (got : List ℕ) (base : ℕ) (stream : StreamModel) → b < end
        → AreRows history.log got (ordered_base base) (IsOn history id) stream.ordered → ((run : RunModel) → HasEntry run stream.ordered → IsNumberedRun history.log base id run)
        → number_of_tsn id b history.log ≡ stream.next → LieApart 0 stream.ordered → AscendFrom (stream.next + 1) stream.waiting
        → ((n : ℕ) (f : Piece) → CarriesOrdered history.log id n f → HasEntry n got → stream.next ≤ number_of_tsn id n history.log → IsHeldOrWaits history.log base id stream n)
        → ((k : ℕ) → b ≤ k → k < end → PassedOn history.log got id k) → ⊥
    incomplete end later got base stream less rows runs number apart waits held all =
        let r = row end later next_piece less in
        not_all end r got base stream rows runs number apart waits held (λ k low up. (
        let p = all k low (let to = r.to in omega (arith, to, up)) in
        let mine = part end r k low up in
        p.handled mine.piece mine.is.at mine.is.stream))
      where
        next_piece : (i : ℕ) (f : Piece) → b ≤ i → i + 1 < end → CarriesOrdered history.log id i f → (g : Piece) × (at_place (i + 1) history.log ≡ Some (Some g))
        next_piece i f low up of =
            let (slot, at) = at_some (i + 1) history.log (let last = at_below end (Some later.piece) history.log later.is.at in omega (arith, last, up)) in
            go slot at
          where
            go : (slot : Slot) → at_place (i + 1) history.log ≡ Some slot → (g : Piece) × (at_place (i + 1) history.log ≡ Some (Some g))
            go None at = absurd ((all (i + 1) (omega (arith, low)) up).never_shuts i f refl of at)
            go (Some g) at = (g, at)

    -- Nor were all of its own, once its last one was sent.
    pub incomplete_last : (n : ℕ) (f : Piece) (row' : RowOf history.log id f.place n) → CarriesOrdered history.log id n f → is_end f ≡ true → row'.from ≡ b → (got : List ℕ) (base : ℕ) (stream : StreamModel)
        → AreRows history.log got (ordered_base base) (IsOn history id) stream.ordered → ((run : RunModel) → HasEntry run stream.ordered → IsNumberedRun history.log base id run)
        → number_of_tsn id b history.log ≡ stream.next → LieApart 0 stream.ordered → AscendFrom (stream.next + 1) stream.waiting
        → ((n : ℕ) (f : Piece) → CarriesOrdered history.log id n f → HasEntry n got → stream.next ≤ number_of_tsn id n history.log → IsHeldOrWaits history.log base id stream n)
        → ((k : ℕ) → b ≤ k → k ≤ n → PassedOn history.log got id k) → ⊥
    unfolding GoesUpTo
    incomplete_last n f row' of e same got base stream rows runs number apart waits held all =
        not_all (n + 1) its_row got base stream rows runs number apart waits held (λ k low up. (
        let mine = part (n + 1) its_row k low up in
        (all k low up).handled mine.piece mine.is.at mine.is.stream))
      where
        place : f.place ≡ first.piece.place
        place = sym row'.is ∙ ap (λ (x : Piece). x.place) (one_piece row'.from b row'.first.piece first.piece row'.first.is.at first.is.at same)

        its_row : Row (n + 1)
        its_row =
            record {
              last = n;
              from = (let up = row'.up_to in omega (arith, up, same));
              to = omega arith;
              goes = λ k low up. (let c = row'.inside k (omega (arith, low, same)) (omega (arith, up)) in record { piece = c.piece; at = c.at; inside = c.inside; is = c.is ∙ place });
              ends = λ g at. ap is_end (one_piece n n g f at of.at refl) ∙ e;
            }
