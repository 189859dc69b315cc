-- How the MIDs are counted as pieces are sent.
use Rattle.std.proofs.Common.{◌≡◌, ◌≢◌, ℕ, Bool, ◌<◌, ◌+◌, ◌≤◌, ◌%◌, ◌^◌, List, ◌∷◌, refl, sym, ◌∙◌, ap, arith, subst, inl, inr, false, length}
use Rattle.std.specs.Prelude.{◌⊎◌, Option, None, Some}
use Rattle.dcsctp_spec.specs.types.declared.sending.UnderWay.{UnderWay}
use Rattle.dcsctp_spec.specs.types.queues.SendStreams.{Waiting, Stream, front_of}
use Rattle.dcsctp_delivery_directions.specs.sending.Places.{at_place}
use Rattle.dcsctp_delivery_directions.specs.sending.Log.{Message, Piece, newest_on, History, with_slot, Slot}
use Rattle.dcsctp_delivery_directions.specs.sending.Numbers.{stream_named, next_mid, IsLastBegun, LastIs, CountsMessages, AreFloorsClose, IsBegunUnder}
use Rattle.dcsctp_delivery_directions.proofs.sending.Places.{decide, at_cases, at_stays, at_new}
use Rattle.dcsctp_delivery_directions.proofs.sending.Newest.{newest_here, newest_else, newest_found, newest_none}
use Rattle.dcsctp_delivery_directions.proofs.sending.Counting.{Other, set_both, set_here, set_elsewhere, is_or_other}
use Rattle.std.proofs.lemmas.Bool.Decides.{leb_tells}

-- The message under way has this number, and is kept by its stream.
abbrev pub GoesOn : List Stream → ℕ → Bool → ℕ → UnderWay → Type 0
GoesOn streams id kind mid v = (v.mid % 2 ^ 32 ≡ mid % 2 ^ 32) × ((w : Waiting) × (front_of (stream_named id streams).messages ≡ Some w) × (w.is_unordered ≡ kind))

last_of : (history : History) (streams : List Stream) (counts : ℕ → Bool → ℕ) (id : ℕ) (kind : Bool) (mid : ℕ) (v : UnderWay) → GoesOn streams id kind mid v → history.floors id kind ≤ mid → mid + 1 ≡ history.floors id kind + counts id kind
    → ((f : Piece) → newest_on id history.log ≡ Some f → f.mid ≡ mid) → IsLastBegun history streams counts id v
last_of history streams counts id kind mid v (is, (w, front, unordered)) low last came =
    record {
      waiting = w;
      front = front;
      mid = mid;
      is = is;
      from = subst (λ (b : Bool). history.floors id b ≤ mid) (sym unordered) low;
      last = subst (λ (b : Bool). mid + 1 ≡ history.floors id b + counts id b) (sym unordered) last;
      came = came;
    }

-- A piece of one stream changes nothing on another.
last_else : (history : History) (old new : List Stream) (counts more : ℕ → Bool → ℕ) (piece : Piece) (other : ℕ) → (piece.message.stream ≡ other → ⊥) → stream_named other new ≡ stream_named other old
    → ((b : Bool) → more other b ≡ counts other b) → LastIs history old counts other (stream_named other old).under_way → LastIs (with_slot (Some piece) history) new more other (stream_named other new).under_way
last_else history old new counts more piece other apart same counted was =
    subst (λ (u : Option UnderWay). LastIs (with_slot (Some piece) history) new more other u) (ap (λ (s : Stream). s.under_way) (sym same)) (go (stream_named other old).under_way was)
  where
    go : (u : Option UnderWay) → LastIs history old counts other u → LastIs (with_slot (Some piece) history) new more other u
    go None last = tt
    go (Some v) last =
        record {
          waiting = last.waiting;
          front = ap (λ (s : Stream). front_of s.messages) same ∙ last.front;
          mid = last.mid;
          is = last.is;
          from = last.from;
          last = last.last ∙ ap (λ (k : ℕ). history.floors other last.waiting.is_unordered + k) (sym (counted last.waiting.is_unordered));
          came = λ f e. last.came f (sym (newest_else other piece history.log apart) ∙ e);
        }

-- a message that was begun was begun still
pub begun_more : (slot : Slot) (log : List Slot) (id mid : ℕ) → IsBegunUnder log id mid → IsBegunUnder (slot ∷ log) id mid
begun_more slot log id mid b =
    record { offset = b.offset; piece = b.piece; at = at_stays b.offset slot (Some b.piece) log b.at; stream = b.stream; ordered = b.ordered; start = b.start; under = b.under }

-- the first one of a message
module _ (history : History) (old new : List Stream) (id : ℕ) (kind : Bool) (piece : Piece) (c : CountsMessages history old) (starts : piece.start ≡ 0)
    (stream_is : piece.message.stream ≡ id) (kind_is : piece.message.is_unordered ≡ kind) (mid_is : piece.mid ≡ history.floors id kind + c.counts id kind)
    (here : next_mid kind (stream_named id new) % 2 ^ 32 ≡ (next_mid kind (stream_named id old) + 1) % 2 ^ 32)
    (elsewhere : (other : ℕ) (b : Bool) → Other id kind other b → next_mid b (stream_named other new) ≡ next_mid b (stream_named other old))
    (others : (other : ℕ) → other ≢ id → stream_named other new ≡ stream_named other old)
    (goes_on : (v : UnderWay) → (stream_named id new).under_way ≡ Some v → GoesOn new id kind piece.mid v) where
  more : ℕ → Bool → ℕ
  more = set_both id kind (c.counts id kind + 1) c.counts

  more_here : more id kind ≡ c.counts id kind + 1
  unfolding more
  more_here = set_here id kind (c.counts id kind + 1) c.counts

  more_else : (other : ℕ) (b : Bool) → Other id kind other b → more other b ≡ c.counts other b
  unfolding more
  more_else other b apart = set_elsewhere id kind (c.counts id kind + 1) c.counts other b apart

  up : (other : ℕ) (b : Bool) → c.counts other b ≤ more other b
  up other b = elim (is_or_other id kind other b) [
    | inl e ↦ rw e.0 (rw e.1 (omega (arith, more_here)))
    | inr apart ↦ omega (arith, more_else other b apart)
  ]

  up_by : (other : ℕ) (b : Bool) → more other b ≤ c.counts other b + 1
  up_by other b = elim (is_or_other id kind other b) [
    | inl e ↦ rw e.0 (rw e.1 (omega (arith, more_here)))
    | inr apart ↦ omega (arith, more_else other b apart)
  ]

  more_next : (other : ℕ) (b : Bool) → next_mid b (stream_named other new) % 2 ^ 32 ≡ (history.floors other b + more other b) % 2 ^ 32
  more_next other b = elim (is_or_other id kind other b) [
    | inl e ↦ rw e.0 (rw e.1 (here ∙ (let next = c.next id kind in omega (arith, more_here, next))))
    | inr apart ↦ ap (λ (k : ℕ). k % 2 ^ 32) (elsewhere other b apart) ∙ c.next other b ∙ ap (λ (k : ℕ). (history.floors other b + k) % 2 ^ 32) (sym (more_else other b apart))
  ]

  piece_floors : history.floors piece.message.stream piece.message.is_unordered ≡ history.floors id kind
  piece_floors = rw stream_is (rw kind_is refl)

  -- another piece of its kind has a number before it
  before_it : (n : ℕ) (f : Piece) → at_place n history.log ≡ Some (Some f) → f.message.stream ≡ piece.message.stream → f.message.is_unordered ≡ piece.message.is_unordered → f.mid < piece.mid
  before_it n f at same same' =
      let below = c.below n f at in
      let all : history.floors f.message.stream f.message.is_unordered + c.counts f.message.stream f.message.is_unordered ≡ history.floors id kind + c.counts id kind =
      ap (λ (k : ℕ). history.floors k f.message.is_unordered + c.counts k f.message.is_unordered) (same ∙ stream_is) ∙ ap (λ (b : Bool). history.floors id b + c.counts id b) (same' ∙ kind_is) in
      omega (arith, below, all, mid_is)

  pub counts_begun : CountsMessages (with_slot (Some piece) history) new
  counts_begun =
      record {
        counts = more;
        few = λ other b. (let few = c.few other b in omega (arith, few, up_by other b));
        next = more_next;
        below = λ n f at. elim (at_cases n (Some piece) (Some f) history.log at) [
          | inl e ↦
              (let same : piece ≡ f = cc in
              let all : more piece.message.stream piece.message.is_unordered ≡ more id kind = ap (λ (k : ℕ). more k piece.message.is_unordered) stream_is ∙ ap (λ (b : Bool). more id b) kind_is in
              subst (λ (g : Piece). g.mid < history.floors g.message.stream g.message.is_unordered + more g.message.stream g.message.is_unordered) same (omega (arith, piece_floors, all, more_here, mid_is)))
          | inr old' ↦ (let below = c.below n f old' in omega (arith, below, up f.message.stream f.message.is_unordered))
        ];
        apart = apart;
        going = λ other. elim (decide other id) [
          | inl is ↦ subst (λ (k : ℕ). LastIs (with_slot (Some piece) history) new more k (stream_named k new).under_way) (sym is) (going (stream_named id new).under_way refl)
          | inr ne ↦ last_else history old new c.counts more piece other (λ on. ne (sym on ∙ stream_is)) (others other ne) (λ b. more_else other b (λ same. absurd (ne same))) (c.going other)
        ];
        dense = dense;
      }
    where
      dense : (other : ℕ) → AreFloorsClose history.floors other → (k : ℕ) → k < more other false → IsBegunUnder (Some piece ∷ history.log) other (history.floors other false + k)
      dense other anew k less = elim (leb_tells (c.counts other false) k) [
        | inr low ↦ begun_more (Some piece) history.log other (history.floors other false + k) (c.dense other anew k low.1)
        | inl high ↦ elim (is_or_other id kind other false) [
          | inr apart ↦ absurd (let from : c.counts other false ≤ k = high.1 in omega (arith, less, from, more_else other false apart))
          | inl e ↦
              (let one : more other false ≡ c.counts other false + 1 = rw e.0 (rw e.1 more_here) in
              let same : history.floors id kind + c.counts id kind ≡ history.floors other false + c.counts other false = rw e.0 (rw e.1 refl) in
              let from : c.counts other false ≤ k = high.1 in
              record {
                offset = length history.log;
                piece = piece;
                at = at_new (Some piece) history.log;
                stream = stream_is ∙ sym e.0;
                ordered = kind_is ∙ sym e.1;
                start = starts;
                under = omega (arith, mid_is, same, one, less, from);
              })
        ]
      ]

      apart : (m n : ℕ) (f g : Piece) → at_place m (Some piece ∷ history.log) ≡ Some (Some f) → at_place n (Some piece ∷ history.log) ≡ Some (Some g) → f.message.stream ≡ g.message.stream
          → f.message.is_unordered ≡ g.message.is_unordered → f.mid ≡ g.mid → f.place ≡ g.place
      apart m n f g at at' same same' mids =
          elim (at_cases m (Some piece) (Some f) history.log at) [
            | inl e ↦
                (let one : piece ≡ f = cc in
                elim (at_cases n (Some piece) (Some g) history.log at') [
                  | inl e' ↦ (let two : piece ≡ g = cc in ap (λ (x : Piece). x.place) (sym one ∙ two))
                  | inr old' ↦
                      (let less = before_it n g old' (sym same ∙ ap (λ (x : Piece). x.message.stream) (sym one)) (sym same' ∙ ap (λ (x : Piece). x.message.is_unordered) (sym one)) in
                      let its : piece.mid ≡ f.mid = ap (λ (x : Piece). x.mid) one in
                      absurd (omega (arith, less, its, mids)))
                ])
            | inr old ↦
                elim (at_cases n (Some piece) (Some g) history.log at') [
                  | inl e' ↦
                      (let two : piece ≡ g = cc in
                      let less = before_it m f old (same ∙ ap (λ (x : Piece). x.message.stream) (sym two)) (same' ∙ ap (λ (x : Piece). x.message.is_unordered) (sym two)) in
                      let its : piece.mid ≡ g.mid = ap (λ (x : Piece). x.mid) two in
                      absurd (omega (arith, less, its, mids)))
                  | inr old' ↦ c.apart m n f g old old' same same' mids
                ]
          ]

      going : (v : Option UnderWay) → (stream_named id new).under_way ≡ v → LastIs (with_slot (Some piece) history) new more id v
      going None is = tt
      going (Some v) is =
          last_of (with_slot (Some piece) history) new more id kind piece.mid v (goes_on v is) (omega (arith, mid_is)) (omega (arith, mid_is, more_here))
          (λ f e. (let both : Some piece ≡ Some f = sym (newest_here id piece history.log stream_is) ∙ e in let one : piece ≡ f = cc in ap (λ (x : Piece). x.mid) (sym one)))

-- one more of the message under way
module _ (history : History) (old new : List Stream) (id : ℕ) (now : UnderWay) (piece : Piece) (c : CountsMessages history old) (latest : IsLastBegun history old c.counts id now)
    (stream_is : piece.message.stream ≡ id) (kind_is : piece.message.is_unordered ≡ latest.waiting.is_unordered) (mid_is : piece.mid ≡ latest.mid)
    (came : (newest_on id history.log ≡ None) ⊎ ((f : Piece) × (newest_on id history.log ≡ Some f) × (f.place ≡ piece.place) × (f.message ≡ piece.message)))
    (mids : (other : ℕ) (b : Bool) → next_mid b (stream_named other new) ≡ next_mid b (stream_named other old))
    (others : (other : ℕ) → other ≢ id → stream_named other new ≡ stream_named other old)
    (goes_on : (v : UnderWay) → (stream_named id new).under_way ≡ Some v → GoesOn new id latest.waiting.is_unordered piece.mid v) where
  its_floors : history.floors piece.message.stream piece.message.is_unordered ≡ history.floors id latest.waiting.is_unordered
  its_floors = rw stream_is (rw kind_is refl)

  its_counts : c.counts piece.message.stream piece.message.is_unordered ≡ c.counts id latest.waiting.is_unordered
  its_counts = rw stream_is (rw kind_is refl)

  -- an earlier piece of its number is of the same message
  of_same : (n : ℕ) (g : Piece) → at_place n history.log ≡ Some (Some g) → g.message.stream ≡ piece.message.stream → g.message.is_unordered ≡ piece.message.is_unordered → g.mid ≡ piece.mid → g.place ≡ piece.place
  of_same n g at same same' numbers =
      elim came [
        | inl none ↦ absurd (newest_none id history.log none n g at (same ∙ stream_is))
        | inr is ↦
            (let (f, newest, place, message) = is in
            let found = newest_found id history.log f newest in
            c.apart n found.number g f at found.at (same ∙ ap (λ (m : Message). m.stream) (sym message)) (same' ∙ ap (λ (m : Message). m.is_unordered) (sym message)) (numbers ∙ mid_is ∙ sym (latest.came f newest)) ∙ place)
      ]

  pub counts_continued : CountsMessages (with_slot (Some piece) history) new
  counts_continued =
      record {
        counts = c.counts;
        few = λ other b. (let few = c.few other b in omega (arith, few));
        next = λ other b. ap (λ (k : ℕ). k % 2 ^ 32) (mids other b) ∙ c.next other b;
        below = λ n f at. elim (at_cases n (Some piece) (Some f) history.log at) [
          | inl e ↦
              (let same : piece ≡ f = cc in
              let last = latest.last in
              subst (λ (g : Piece). g.mid < history.floors g.message.stream g.message.is_unordered + c.counts g.message.stream g.message.is_unordered) same (omega (arith, its_floors, its_counts, mid_is, last)))
          | inr old' ↦ c.below n f old'
        ];
        apart = apart;
        going = λ other. elim (decide other id) [
          | inl is ↦ subst (λ (k : ℕ). LastIs (with_slot (Some piece) history) new c.counts k (stream_named k new).under_way) (sym is) (going (stream_named id new).under_way refl)
          | inr ne ↦ last_else history old new c.counts c.counts piece other (λ on. ne (sym on ∙ stream_is)) (others other ne) (λ b. refl) (c.going other)
        ];
        dense = λ other anew k less. begun_more (Some piece) history.log other (history.floors other false + k) (c.dense other anew k less);
      }
    where
      apart : (m n : ℕ) (f g : Piece) → at_place m (Some piece ∷ history.log) ≡ Some (Some f) → at_place n (Some piece ∷ history.log) ≡ Some (Some g) → f.message.stream ≡ g.message.stream
          → f.message.is_unordered ≡ g.message.is_unordered → f.mid ≡ g.mid → f.place ≡ g.place
      apart m n f g at at' same same' mids =
          elim (at_cases m (Some piece) (Some f) history.log at) [
            | inl e ↦
                (let one : piece ≡ f = cc in
                elim (at_cases n (Some piece) (Some g) history.log at') [
                  | inl e' ↦ (let two : piece ≡ g = cc in ap (λ (x : Piece). x.place) (sym one ∙ two))
                  | inr old' ↦
                      ap (λ (x : Piece). x.place) (sym one)
                      ∙ sym (of_same n g old' (sym same ∙ ap (λ (x : Piece). x.message.stream) (sym one)) (sym same' ∙ ap (λ (x : Piece). x.message.is_unordered) (sym one)) (sym mids ∙ ap (λ (x : Piece). x.mid) (sym one)))
                ])
            | inr old ↦
                elim (at_cases n (Some piece) (Some g) history.log at') [
                  | inl e' ↦
                      (let two : piece ≡ g = cc in
                      of_same m f old (same ∙ ap (λ (x : Piece). x.message.stream) (sym two)) (same' ∙ ap (λ (x : Piece). x.message.is_unordered) (sym two)) (mids ∙ ap (λ (x : Piece). x.mid) (sym two))
                      ∙ ap (λ (x : Piece). x.place) two)
                  | inr old' ↦ c.apart m n f g old old' same same' mids
                ]
          ]

      going : (v : Option UnderWay) → (stream_named id new).under_way ≡ v → LastIs (with_slot (Some piece) history) new c.counts id v
      going None is = tt
      going (Some v) is =
          let low = latest.from in
          let last = latest.last in
          last_of (with_slot (Some piece) history) new c.counts id latest.waiting.is_unordered piece.mid v (goes_on v is) (omega (arith, mid_is, low)) (omega (arith, mid_is, last))
          (λ f e. (let both : Some piece ≡ Some f = sym (newest_here id piece history.log stream_is) ∙ e in let one : piece ≡ f = cc in ap (λ (x : Piece). x.mid) (sym one)))
