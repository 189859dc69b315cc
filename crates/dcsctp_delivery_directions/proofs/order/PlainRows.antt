-- Without interleaving the pieces of an ordered message have one number, and no other message has it.
use Rattle.std.proofs.Common.{◌≡◌, ℕ, zero, suc, Bool, true, false, ◌<◌, ◌≤◌, ◌+◌, ◌-◌, List, [], ◌∷◌, ◌++◌, length, refl, sym, ◌∙◌, ap, arith, inl, inr}
use Rattle.std.specs.Prelude.{None, Some, if◌then◌else◌}
use Rattle.std.proofs.lemmas.Bool.Decides.{eqb_tells, leb_tells}
use Rattle.dcsctp_delivery_directions.specs.sending.Places.{at_place}
use Rattle.dcsctp_delivery_directions.specs.sending.Log.{Message, Piece, Slot, History, IsLogOfPieces}
use Rattle.dcsctp_delivery_directions.specs.sending.Turns.{begun_on, turn_of_tsn}
use Rattle.dcsctp_delivery_directions.proofs.sending.Places.{at_below, at_cases, at_stays}
use Rattle.dcsctp_delivery_directions.proofs.sending.Turns.{turn_new, turn_old}
use Rattle.dcsctp_delivery_directions.specs.order.Queue.{FollowsOn}
use Rattle.dcsctp_delivery_directions.specs.order.Order.{IsSentAs}
use Rattle.dcsctp_delivery_directions.specs.order.Plain.{turned_piece, turned_slot, turned_log, with_turns, CountsPlain, CarriesOrdered}
use Rattle.dcsctp_delivery_directions.proofs.order.PlainTurns.{turn_up, turn_inside, turn_none, IsFirstAt, one_first}

-- ---- what the log with numbers has

pub turned_length : (log : List Slot) → length (turned_log log) ≡ length log
turned_length [] = refl
turned_length (slot ∷ log) = ap suc (turned_length log)

at_last : (slot : Slot) (log : List Slot) (n : ℕ) → n ≡ length log → at_place n (slot ∷ log) ≡ Some slot
at_last slot log n is = elim (eqb_tells n (length log)) [ inl e ↦ rw e.0 refl | inr e ↦ absurd (e.1 is) ]

pub turned_at : (n : ℕ) (f : Piece) (log : List Slot) → at_place n log ≡ Some (Some f) → at_place n (turned_log log) ≡ Some (Some (turned_piece f (turn_of_tsn f.message.stream n log)))
turned_at n f [] at = absurd (cc)
turned_at n f (slot ∷ log) at =
    elim (at_cases n slot (Some f) log at) [
      | inl e ↦
          (let here : turn_of_tsn f.message.stream n (slot ∷ log) ≡ begun_on f.message.stream (slot ∷ log) = ap (λ (k : ℕ). turn_of_tsn f.message.stream k (slot ∷ log)) e.0 ∙ turn_new f.message.stream slot log in
          at_last (turned_slot slot log) (turned_log log) n (e.0 ∙ sym (turned_length log)) ∙ ap (λ (s : Slot). Some (turned_slot s log)) e.1
          ∙ ap (λ (k : ℕ). Some (Some (turned_piece f k))) (ap (λ (s : Slot). begun_on f.message.stream (s ∷ log)) (sym e.1) ∙ sym here))
      | inr old ↦
          (let low = at_below n (Some f) log old in
          at_stays n (turned_slot slot log) (Some (turned_piece f (turn_of_tsn f.message.stream n log))) (turned_log log) (turned_at n f log old)
          ∙ ap (λ (k : ℕ). Some (Some (turned_piece f k))) (sym (turn_old f.message.stream n slot log low)))
    ]

pub turned_slots : (more log : List Slot) (n : ℕ) (slot : Slot) → at_place n (turned_log log) ≡ Some slot → at_place n (turned_log (more ++ log)) ≡ Some slot
turned_slots [] log n slot at = at
turned_slots (s ∷ more) log n slot at = at_stays n (turned_slot s (more ++ log)) slot (turned_log (more ++ log)) (turned_slots more log n slot at)

-- a piece of it is one of the log
pub record IsTurnedAt (log : List Slot) (n : ℕ) (g : Piece) : Type 0 where
  pub piece : Piece
  pub at : at_place n log ≡ Some (Some piece)
  pub is : turned_piece piece (turn_of_tsn piece.message.stream n log) ≡ g

pub at_turned : (n : ℕ) (g : Piece) (log : List Slot) → at_place n (turned_log log) ≡ Some (Some g) → IsTurnedAt log n g
at_turned n g [] at = absurd (cc)
at_turned n g (slot ∷ log) at =
    elim (at_cases n (turned_slot slot log) (Some g) (turned_log log) at) [
      | inl e ↦ here slot e.1 (e.0 ∙ turned_length log)
      | inr old ↦
          (let rest = at_turned n g log old in
          let low = at_below n (Some rest.piece) log rest.at in
          record {
            piece = rest.piece;
            at = at_stays n slot (Some rest.piece) log rest.at;
            is = ap (turned_piece rest.piece) (turn_old rest.piece.message.stream n slot log low) ∙ rest.is;
          })
    ]
  where
    here : (slot : Slot) → turned_slot slot log ≡ Some g → n ≡ length log → IsTurnedAt (slot ∷ log) n g
    here None e last = absurd (cc)
    here (Some piece) e last =
        let same : turned_piece piece (begun_on piece.message.stream (Some piece ∷ log)) ≡ g = cc in
        record {
          piece = piece;
          at = at_last (Some piece) log n last;
          is = ap (turned_piece piece) (ap (λ (k : ℕ). turn_of_tsn piece.message.stream k (Some piece ∷ log)) last ∙ turn_new piece.message.stream (Some piece) log) ∙ same;
        }

-- ---- the pieces of a message

-- The TSN carries a later piece of the message of this place.
pub record ContinuesAt (log : List Slot) (place n : ℕ) : Type 0 where
  pub piece : Piece
  pub at : at_place n log ≡ Some (Some piece)
  pub inside : 0 < piece.start
  pub is : piece.place ≡ place

-- The message of a TSN begins at or before that, and each TSN between carries a piece of it.
pub record RowOf (log : List Slot) (id place n : ℕ) : Type 0 where
  pub from : ℕ
  pub first : IsFirstAt log id from
  pub up_to : from ≤ n
  pub is : first.piece.place ≡ place
  pub turn : turn_of_tsn id from log ≡ turn_of_tsn id n log
  pub inside : (k : ℕ) → from < k → k ≤ n → ContinuesAt log place k

module _ (queued : List Message) (history : History) (cut : IsLogOfPieces queued history.log) (id : ℕ) (counts : CountsPlain id history) where
  -- it was counted
  pub some_turn : (n : ℕ) (f : Piece) → CarriesOrdered history.log id n f → 0 < turn_of_tsn id n history.log
  some_turn n f is = (counts.sent n f is).some

  row_alone : (n : ℕ) (f : Piece) → CarriesOrdered history.log id n f → f.start ≡ 0 → RowOf history.log id f.place n
  row_alone n f is start =
      record { from = n; first = record { piece = f; is = is; start = start }; up_to = omega arith; is = refl; turn = refl; inside = λ k low high. absurd (omega (arith, low, high)) }

  pub row_of : (n : ℕ) (f : Piece) → CarriesOrdered history.log id n f → RowOf history.log id f.place n
  row_of zero f is =
      elim (eqb_tells f.start 0) [
        | inl e ↦ row_alone 0 f is e.1
        | inr e ↦
            absurd
            (let ne : f.start ≡ 0 → ⊥ = e.1 in
            let some = some_turn 0 f is in
            let none = turn_none id f history.log is.at (omega (arith, ne)) in
            omega (arith, some, none))
      ]
  row_of (suc n) f is =
      elim (eqb_tells f.start 0) [
        | inl e ↦ row_alone (suc n) f is e.1
        | inr e ↦ later (λ g is'. row_of n g is') (let ne : f.start ≡ 0 → ⊥ = e.1 in omega (arith, ne))
      ]
    where
      later : ((g : Piece) → CarriesOrdered history.log id n g → RowOf history.log id g.place n) → 0 < f.start → RowOf history.log id f.place (suc n)
      later earlier inside =
          let kind : f.is_interleaved ≡ false = counts.kinds (suc n) f is.at in
          let before = cut.rows (suc n) f is.at inside (inl (inl kind, omega arith)) in
          let here : before.earlier ≡ n = (let near = before.near (inl kind) in omega (arith, near)) in
          let at : at_place n history.log ≡ Some (Some before.before) = ap (λ (k : ℕ). at_place k history.log) (sym here) ∙ before.at in
          let rest = earlier before.before (record { at = at; stream = ap (λ (m : Message). m.stream) before.message ∙ is.stream; ordered = ap (λ (m : Message). m.is_unordered) before.message ∙ is.ordered }) in
          let one : n + 1 ≡ suc n = omega arith in
          record {
            from = rest.from;
            first = rest.first;
            up_to = (let low = rest.up_to in omega (arith, low));
            is = rest.is ∙ before.place;
            turn = rest.turn ∙ sym (turn_inside id n f history.log (ap (λ (k : ℕ). at_place k history.log) one ∙ is.at) inside) ∙ ap (λ (k : ℕ). turn_of_tsn id k history.log) one;
            inside = λ k low high. elim (eqb_tells k (suc n)) [
              | inl t ↦ record { piece = f; at = ap (λ (j : ℕ). at_place j history.log) t.1 ∙ is.at; inside = inside; is = refl }
              | inr t ↦
                  (let ne : k ≡ suc n → ⊥ = t.1 in
                  let c = rest.inside k low (omega (arith, high, ne)) in
                  record { piece = c.piece; at = c.at; inside = c.inside; is = c.is ∙ before.place })
            ];
          }

  -- of two messages the one with the higher count was queued later
  pub later_turn : (m n : ℕ) (f g : Piece) → CarriesOrdered history.log id m f → CarriesOrdered history.log id n g → turn_of_tsn id m history.log < turn_of_tsn id n history.log → f.place < g.place
  later_turn m n f g is is' less =
      let row = row_of n g is' in
      let before : m < row.from = elim (leb_tells row.from m) [
        | inr e ↦ e.1
        | inl e ↦ absurd (let up = (turn_up id row.from m history.log e.1 (at_below m (Some f) history.log is.at)).0 in let turn = row.turn in omega (arith, up, turn, less))
      ] in
      let up = cut.ascends m row.from f row.first.piece before is.at row.first.is.at row.first.start (is.stream ∙ sym row.first.is.stream) in
      let same = row.is in
      omega (arith, up, same)

  -- those with one count are one
  pub same_turn : (m n : ℕ) (f g : Piece) → CarriesOrdered history.log id m f → CarriesOrdered history.log id n g → turn_of_tsn id m history.log ≡ turn_of_tsn id n history.log → f.place ≡ g.place
  same_turn m n f g is is' same =
      let one = row_of m f is in
      let two = row_of n g is' in
      let at : one.from ≡ two.from = one_first history.log id one.from two.from one.first two.first (one.turn ∙ same ∙ sym two.turn) in
      let both : Some (Some one.first.piece) ≡ Some (Some two.first.piece) = sym one.first.is.at ∙ ap (λ (k : ℕ). at_place k history.log) at ∙ two.first.is.at in
      let piece : one.first.piece ≡ two.first.piece = cc in
      sym one.is ∙ ap (λ (x : Piece). x.place) piece ∙ two.is

  -- one message begins once
  pub one_beginning : (m n : ℕ) (f : IsFirstAt history.log id m) (g : IsFirstAt history.log id n) → f.piece.place ≡ g.piece.place → m ≡ n
  one_beginning m n f g same = elim (leb_tells m n) [
    | inl e ↦ elim (leb_tells n m) [
      | inl e' ↦ (let a : m ≤ n = e.1 in let b : n ≤ m = e'.1 in omega (arith, a, b))
      | inr e' ↦ absurd (let less : m < n = e'.1 in let up = cut.ascends m n f.piece g.piece less f.is.at g.is.at g.start (f.is.stream ∙ sym g.is.stream) in omega (arith, up, same))
    ]
    | inr e ↦ absurd (let less : n < m = e.1 in let up = cut.ascends n m g.piece f.piece less g.is.at f.is.at f.start (g.is.stream ∙ sym f.is.stream) in omega (arith, up, same))
  ]

  -- ---- as the receiver has it

  pub sent_as : (n : ℕ) (f : Piece) → CarriesOrdered history.log id n f → IsSentAs (with_turns history) id f.place (turn_of_tsn id n history.log - 1)
  sent_as n f is =
      record {
        offset = n;
        piece = turned_piece f (turn_of_tsn f.message.stream n history.log);
        at = turned_at n f history.log is.at;
        is = refl;
        stream = is.stream;
        ordered = is.ordered;
        under = ap (λ (b : Bool). if b then 0 else turn_of_tsn f.message.stream n history.log - 1) is.ordered ∙ ap (λ (k : ℕ). turn_of_tsn k n history.log - 1) is.stream;
      }

  -- A message of this number is one of the log.
  pub record SentFrom (place mid : ℕ) : Type 0 where
    pub offset : ℕ
    pub piece : Piece
    pub is : CarriesOrdered history.log id offset piece
    pub place_is : piece.place ≡ place
    pub turn : turn_of_tsn id offset history.log ≡ mid + 1

  pub sent_from : (place mid : ℕ) → IsSentAs (with_turns history) id place mid → SentFrom place mid
  sent_from place mid sent =
      let t = at_turned sent.offset sent.piece history.log sent.at in
      let on : t.piece.message.stream ≡ id = ap (λ (x : Piece). x.message.stream) t.is ∙ sent.stream in
      let ordered : t.piece.message.is_unordered ≡ false = ap (λ (x : Piece). x.message.is_unordered) t.is ∙ sent.ordered in
      let is : CarriesOrdered history.log id sent.offset t.piece = record { at = t.at; stream = on; ordered = ordered } in
      let number : turn_of_tsn id sent.offset history.log - 1 ≡ mid =
      ap (λ (k : ℕ). turn_of_tsn k sent.offset history.log - 1) (sym on) ∙ ap (λ (b : Bool). if b then 0 else turn_of_tsn t.piece.message.stream sent.offset history.log - 1) (sym ordered)
      ∙ ap (λ (x : Piece). x.mid) t.is ∙ sent.under in
      let some = some_turn sent.offset t.piece is in
      record { offset = sent.offset; piece = t.piece; is = is; place_is = ap (λ (x : Piece). x.place) t.is ∙ sent.is; turn = omega (arith, number, some) }

  pub one_message : (p q m n : ℕ) → IsSentAs (with_turns history) id p m → IsSentAs (with_turns history) id q n → m ≡ n → p ≡ q
  one_message p q m n one two same =
      let a = sent_from p m one in
      let b = sent_from q n two in
      sym a.place_is ∙ same_turn a.offset b.offset a.piece b.piece a.is b.is (a.turn ∙ ap (λ (k : ℕ). k + 1) same ∙ sym b.turn) ∙ b.place_is

  pub turns_follow : FollowsOn id (turned_log history.log)
  turns_follow m n f g at at' of of' kind less = go (at_turned m f history.log at) (at_turned n g history.log at')
    where
      go : IsTurnedAt history.log m f → IsTurnedAt history.log n g → f.place < g.place
      go a b = by_kind a.piece.message.is_unordered refl
        where
          same_kind : a.piece.message.is_unordered ≡ b.piece.message.is_unordered
          same_kind = ap (λ (x : Piece). x.message.is_unordered) a.is ∙ kind ∙ ap (λ (x : Piece). x.message.is_unordered) (sym b.is)

          on_a : a.piece.message.stream ≡ id
          on_a = ap (λ (x : Piece). x.message.stream) a.is ∙ of

          on_b : b.piece.message.stream ≡ id
          on_b = ap (λ (x : Piece). x.message.stream) b.is ∙ of'

          f_mid : f.mid ≡ (if a.piece.message.is_unordered then 0 else turn_of_tsn a.piece.message.stream m history.log - 1)
          f_mid = ap (λ (x : Piece). x.mid) (sym a.is)

          g_mid : g.mid ≡ (if b.piece.message.is_unordered then 0 else turn_of_tsn b.piece.message.stream n history.log - 1)
          g_mid = ap (λ (x : Piece). x.mid) (sym b.is)

          by_kind : (c : Bool) → a.piece.message.is_unordered ≡ c → f.place < g.place
          by_kind true unordered =
              let one : f.mid ≡ 0 = f_mid ∙ ap (λ (c : Bool). if c then 0 else turn_of_tsn a.piece.message.stream m history.log - 1) unordered in
              let two : g.mid ≡ 0 = g_mid ∙ ap (λ (c : Bool). if c then 0 else turn_of_tsn b.piece.message.stream n history.log - 1) (sym same_kind ∙ unordered) in
              absurd (omega (arith, one, two, less))
          by_kind false ordered =
              let one : f.mid ≡ turn_of_tsn id m history.log - 1 =
              f_mid ∙ ap (λ (c : Bool). if c then 0 else turn_of_tsn a.piece.message.stream m history.log - 1) ordered ∙ ap (λ (k : ℕ). turn_of_tsn k m history.log - 1) on_a in
              let two : g.mid ≡ turn_of_tsn id n history.log - 1 =
              g_mid ∙ ap (λ (c : Bool). if c then 0 else turn_of_tsn b.piece.message.stream n history.log - 1) (sym same_kind ∙ ordered) ∙ ap (λ (k : ℕ). turn_of_tsn k n history.log - 1) on_b in
              let up = later_turn m n a.piece b.piece (record { at = a.at; stream = on_a; ordered = ordered }) (record { at = b.at; stream = on_b; ordered = sym same_kind ∙ ordered }) (omega (arith, one, two, less)) in
              let p : a.piece.place ≡ f.place = ap (λ (x : Piece). x.place) a.is in
              let q : b.piece.place ≡ g.place = ap (λ (x : Piece). x.place) b.is in
              omega (arith, up, p, q)
