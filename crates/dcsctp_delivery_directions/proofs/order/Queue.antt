-- What the send queue hands out is numbered in the order in which it was queued.
use Rattle.std.proofs.Common.{◌≡◌, ℕ, true, ◌<◌, List, ◌∷◌, length, sym, ◌∙◌, ap, arith, inl, inr}
use Rattle.std.specs.Prelude.{Some}
use Rattle.std.proofs.lemmas.Bool.Decides.{eqb_tells}
use Rattle.dcsctp_spec_lemmas.specs.spec.endpoint.Event.{Event}
use Rattle.dcsctp_spec_lemmas.specs.spec.queues.SendQueue.{SendQueueState}
use Rattle.dcsctp_spec_lemmas.specs.spec.queues.Sending.{Fragment, TakesFragment}
use Rattle.dcsctp_delivery_directions.specs.sending.Places.{at_place}
use Rattle.dcsctp_delivery_directions.specs.sending.Log.{Message, Piece, History}
use Rattle.dcsctp_delivery_directions.specs.sending.Pieces.{HandsOutPiece}
use Rattle.dcsctp_delivery_directions.proofs.sending.Places.{at_below, at_cases, at_new}
use Rattle.dcsctp_delivery_directions.proofs.sending.Numbers.{kind_dropped}
use Rattle.dcsctp_delivery_directions.proofs.sending.ProducedNumbers.{produced_kind}
use Rattle.dcsctp_delivery_directions.specs.order.Queue.{FollowsQueue}

-- ---- one more piece

-- it follows on the log, if a message that begins has a number above all earlier ones of its kind on its stream
module _ (queued : List Message) (history : History) (part : Fragment) (new : SendQueueState) (hands : HandsOutPiece queued history part new)
    (above : hands.piece.start ≡ 0 → (n : ℕ) (g : Piece) → at_place n history.log ≡ Some (Some g) → g.message.stream ≡ hands.piece.message.stream → g.message.is_unordered ≡ hands.piece.message.is_unordered → g.mid < hands.piece.mid) where
  -- another message on its stream, of its kind
  earlier_follows : FollowsQueue history.log → (n : ℕ) (g : Piece) → at_place n history.log ≡ Some (Some g) → g.message.stream ≡ hands.piece.message.stream → g.message.is_unordered ≡ hands.piece.message.is_unordered
      → (g.mid < hands.piece.mid → g.place < hands.piece.place) × (hands.piece.mid < g.mid → hands.piece.place < g.place)
  earlier_follows follows n g at on kind =
      elim (eqb_tells hands.piece.start 0) [
        | inl e ↦ (λ less. hands.ascends n g at e.1 on, λ more. absurd (let higher = above e.1 n g at on kind in omega (arith, higher, more)))
        | inr e ↦
            (let inside : 0 < hands.piece.start = (let ne : hands.piece.start ≡ 0 → ⊥ = e.1 in omega (arith, ne)) in
            let b = hands.row inside (inr (record { earlier = n; piece = g; is = at_below n (Some g) history.log at; at = at; on = on })) in
            let on' : g.message.stream ≡ b.before.message.stream = on ∙ ap (λ (m : Message). m.stream) (sym b.message) in
            let kind' : g.message.is_unordered ≡ b.before.message.is_unordered = kind ∙ ap (λ (m : Message). m.is_unordered) (sym b.message) in
            let mid : b.before.mid ≡ hands.piece.mid = b.mid in
            let place : b.before.place ≡ hands.piece.place = b.place in (
              λ less. (let up = follows n b.earlier g b.before at b.at on' kind' (omega (arith, less, mid)) in omega (arith, up, place)),
              λ more. (let up = follows b.earlier n b.before g b.at at (sym on') (sym kind') (omega (arith, more, mid)) in omega (arith, up, place)),
            ))
      ]

  pub follows_more : FollowsQueue history.log → FollowsQueue (Some hands.piece ∷ history.log)
  follows_more follows m n f g at at' on kind less =
      elim (at_cases m (Some hands.piece) (Some f) history.log at) [
        | inl e ↦
            (let one : hands.piece ≡ f = cc in
            elim (at_cases n (Some hands.piece) (Some g) history.log at') [
              | inl e' ↦ (let two : hands.piece ≡ g = cc in let same : f.mid ≡ g.mid = ap (λ (x : Piece). x.mid) (sym one ∙ two) in absurd (omega (arith, same, less)))
              | inr old' ↦
                  (let up = (earlier_follows follows n g old' (sym on ∙ ap (λ (x : Piece). x.message.stream) (sym one)) (sym kind ∙ ap (λ (x : Piece). x.message.is_unordered) (sym one))).1 in
                  let mid : hands.piece.mid ≡ f.mid = ap (λ (x : Piece). x.mid) one in
                  let place : hands.piece.place ≡ f.place = ap (λ (x : Piece). x.place) one in
                  let later = up (omega (arith, mid, less)) in
                  omega (arith, later, place))
            ])
        | inr older ↦
            elim (at_cases n (Some hands.piece) (Some g) history.log at') [
              | inl e' ↦
                  (let two : hands.piece ≡ g = cc in
                  let up = (earlier_follows follows m f older (on ∙ ap (λ (x : Piece). x.message.stream) (sym two)) (kind ∙ ap (λ (x : Piece). x.message.is_unordered) (sym two))).0 in
                  let mid : hands.piece.mid ≡ g.mid = ap (λ (x : Piece). x.mid) two in
                  let place : hands.piece.place ≡ g.place = ap (λ (x : Piece). x.place) two in
                  let later = up (omega (arith, mid, less)) in
                  omega (arith, later, place))
              | inr old' ↦ follows m n f g older old' on kind less
            ]
      ]

-- ---- what the send queue hands out

module _ (queued : List Message) (history : History) (now max : ℕ) (old new : SendQueueState) (told_before told_after : List (Event (List ℕ))) (part : Fragment) (interleaved : old.is_interleaved ≡ true)
    (does : TakesFragment now max old told_before part new told_after) (hands : HandsOutPiece queued history part new) where
  new_kind : new.is_interleaved ≡ true
  new_kind =
      ap (λ (q : SendQueueState). q.is_interleaved) does.left ∙ produced_kind does.place max does.message does.under_way does.queue ∙ kind_dropped now old does.drops.events does.queue does.drops.drops ∙ interleaved

  -- all earlier ones of its kind on its stream have numbers below that of a message that begins
  begins_above : hands.piece.start ≡ 0 → (n : ℕ) (g : Piece) → at_place n history.log ≡ Some (Some g) → g.message.stream ≡ hands.piece.message.stream → g.message.is_unordered ≡ hands.piece.message.is_unordered → g.mid < hands.piece.mid
  begins_above starts n g at on kind = hands.climbs n g at starts (hands.numbers.kinds (length history.log) hands.piece (at_new (Some hands.piece) history.log) ∙ new_kind) on kind

  pub handing_follows : FollowsQueue history.log → FollowsQueue (Some hands.piece ∷ history.log)
  handing_follows = follows_more queued history part new hands begins_above
