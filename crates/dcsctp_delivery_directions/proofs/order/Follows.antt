-- In a log of I-DATA the numbers of a stream's messages follow the order in which they were queued.
use Rattle.std.proofs.Common.{◌≡◌, ℕ, zero, suc, true, false, ◌<◌, ◌≤◌, ◌+◌, List, refl, sym, ◌∙◌, ap, arith, inl, inr}
use Rattle.std.specs.Prelude.{◌⊎◌, Some}
use Rattle.std.proofs.lemmas.Bool.Decides.{eqb_tells, leb_tells}
use Rattle.dcsctp_delivery_directions.specs.sending.Places.{at_place}
use Rattle.dcsctp_delivery_directions.specs.sending.Log.{Message, Piece, Slot, IsLogOfPieces, History}
use Rattle.dcsctp_delivery_directions.specs.sending.Numbers.{AreOfKind, IsUnambiguous, plain, interleaved, AreFloorsAtZero}
use Rattle.dcsctp_delivery_directions.specs.order.Queue.{FollowsQueue}
use Rattle.dcsctp_delivery_directions.specs.order.Reading.{CountsFromZero}

-- The message of the piece begins behind a TSN.
record BeginsBehind (log : List Slot) (m : ℕ) (g : Piece) : Type 0 where
  begin : ℕ
  head : Piece
  at : at_place begin log ≡ Some (Some head)
  behind : m < begin
  starts : head.start ≡ 0
  place : head.place ≡ g.place
  mid : head.mid ≡ g.mid
  message : head.message ≡ g.message

module _ (queued : List Message) (log : List Slot) (cut : IsLogOfPieces queued log) where
  -- a piece of the same stream before it has its number, or its message begins behind that
  begins_within : (m : ℕ) (f : Piece) → at_place m log ≡ Some (Some f) → (k n : ℕ) (g : Piece) → m < n → n ≤ m + k → at_place n log ≡ Some (Some g) → f.message.stream ≡ g.message.stream → (f.mid ≡ g.mid) ⊎ BeginsBehind log m g
  begins_within m f at zero n g above up at' on = absurd (omega (arith, above, up))
  begins_within m f at (suc k) n g above up at' on =
      elim (eqb_tells g.start 0) [
        | inl e ↦ inr (record { begin = n; head = g; at = at'; behind = above; starts = e.1; place = refl; mid = refl; message = refl })
        | inr e ↦
            (let ne : g.start ≡ 0 → ⊥ = e.1 in
            let b = cut.rows n g at' (omega (arith, ne)) (inr (record { earlier = m; piece = f; is = above; at = at; on = on })) in
            elim (eqb_tells b.earlier m) [
              | inl here ↦
                  (let both : Some (Some b.before) ≡ Some (Some f) = sym b.at ∙ ap (λ (i : ℕ). at_place i log) here.1 ∙ at in
                  let one : b.before ≡ f = cc in
                  inl (ap (λ (x : Piece). x.mid) (sym one) ∙ b.mid))
              | inr there ↦
                  (let differs : b.earlier ≡ m → ⊥ = there.1 in
                  elim (leb_tells m b.earlier) [
                    | inr l ↦ absurd (b.apart m f l.1 above at on)
                    | inl l ↦
                        (let le : m ≤ b.earlier = l.1 in
                        let less = b.is in
                        elim (begins_within m f at k b.earlier b.before (omega (arith, le, differs)) (omega (arith, less, up)) b.at (on ∙ ap (λ (x : Message). x.stream) (sym b.message))) [
                          | inl same ↦ inl (same ∙ b.mid)
                          | inr h ↦
                              inr
                              (record { begin = h.begin; head = h.head; at = h.at; behind = h.behind; starts = h.starts; place = h.place ∙ b.place; mid = h.mid ∙ b.mid; message = h.message ∙ b.message })
                        ])
                  ])
            ])
      ]

  begins_behind : (m n : ℕ) (f g : Piece) → m < n → at_place m log ≡ Some (Some f) → at_place n log ≡ Some (Some g) → f.message.stream ≡ g.message.stream → (f.mid ≡ g.mid) ⊎ BeginsBehind log m g
  begins_behind m n f g above at at' on = begins_within m f at n n g above (omega arith) at' on

  -- the message of the higher number begins behind the other one
  module _ (kinds : AreOfKind true log) where
    pub follows_queue : FollowsQueue log
    follows_queue m n f g at at' on kind less =
        elim (eqb_tells m n) [
          | inl e ↦
              (let both : Some (Some f) ≡ Some (Some g) = sym at ∙ ap (λ (k : ℕ). at_place k log) e.1 ∙ at' in
              let one : f ≡ g = cc in
              let alike : f.mid ≡ g.mid = ap (λ (x : Piece). x.mid) one in
              absurd (omega (arith, alike, less)))
          | inr e ↦
              (let differs : m ≡ n → ⊥ = e.1 in
              elim (leb_tells m n) [
                | inl l ↦
                    (let le : m ≤ n = l.1 in
                    elim (begins_behind m n f g (omega (arith, le, differs)) at at' on) [
                      | inl same ↦ absurd (omega (arith, same, less))
                      | inr h ↦
                          (let up = cut.ascends m h.begin f h.head h.behind at h.at h.starts (on ∙ ap (λ (x : Message). x.stream) (sym h.message)) in
                          let place = h.place in
                          omega (arith, up, place))
                    ])
                | inr l ↦
                    elim (begins_behind n m g f l.1 at' at (sym on)) [
                      | inl same ↦ absurd (omega (arith, same, less))
                      | inr h ↦
                          absurd
                          (let higher = cut.climbs n h.begin g h.head h.behind at' h.at h.starts (kinds h.begin h.head h.at) (sym on ∙ ap (λ (x : Message). x.stream) (sym h.message))
                          (sym kind ∙ ap (λ (x : Message). x.is_unordered) (sym h.message)) in
                          let mid = h.mid in
                          omega (arith, higher, mid, less))
                    ]
              ])
        ]

-- So the numbers of each stream count from zero, if its floor is one of those that are read as 0.
pub counts_from_zero : (queued : List Message) (history : History) (id : ℕ) → IsLogOfPieces queued history.log → IsUnambiguous history → AreOfKind true history.log → AreFloorsAtZero history.floors id → CountsFromZero history id
counts_from_zero queued history id cut (interleaved kinds small few apart dense) are starts =
    record {
      kinds = kinds;
      follows = λ m n f g at at' on on'. follows_queue queued history.log cut kinds m n f g at at' (on ∙ sym on');
      apart = apart;
      floor = starts.0;
      few = λ n f at on ordered. (
          let floors : history.floors f.message.stream f.message.is_unordered ≡ history.floors id false =
          ap (λ (k : ℕ). history.floors k f.message.is_unordered) on ∙ ap (history.floors id) ordered in
          let below = few n f at in
          omega (arith, below, floors)
          );
      dense = λ n f at on ordered mid from up. (
          let b = dense id starts.1 n f at on ordered mid from up in (
            b,
            elim (leb_tells b.offset n) [
              | inl low ↦ low.1
              | inr high ↦ absurd
                  (let higher = cut.climbs n b.offset f b.piece high.1 at b.at b.start (kinds b.offset b.piece b.at) (on ∙ sym b.stream) (ordered ∙ sym b.ordered) in
                  let under = b.under in
                  omega (arith, higher, under, up))
            ],
          )
          );
    }
counts_from_zero queued history id cut (plain kinds) are starts =
    record {
      kinds = are;
      follows = λ m n f g at at' on on'. follows_queue queued history.log cut are m n f g at at' (on ∙ sym on');
      apart = λ m n f g at at' on kind same. absurd (let clash : true ≡ false = sym (are m f at) ∙ kinds m f at in cc);
      floor = starts.0;
      few = λ n f at on ordered. absurd (let clash : true ≡ false = sym (are n f at) ∙ kinds n f at in cc);
      dense = λ n f at. absurd (let clash : true ≡ false = sym (are n f at) ∙ kinds n f at in cc);
    }
