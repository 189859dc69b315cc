-- What was read is in order, and without gaps.
use Rattle.std.proofs.Common.{◌≡◌, ℕ, Bool, false, ◌<◌, List, [], ◌∷◌, ◌++◌, sym, subst, arith, inl, inr}
use Rattle.dcsctp_spec_lemmas.specs.types.queues.Messages.{MessageContent}
use Rattle.dcsctp_spec_lemmas.specs.spec.queues.Incoming.{IncomingModel, stream_on}
use Rattle.dcsctp_delivery_directions.specs.sending.Places.{HasEntry}
use Rattle.dcsctp_delivery_directions.specs.sending.Log.{Message, History, sent_messages}
use Rattle.dcsctp_delivery_directions.specs.receiving.Ready.{AreDistinct, WereQueued}
use Rattle.dcsctp_delivery_directions.proofs.receiving.Distinct.{has_left, has_right, has_either}
use Rattle.dcsctp_delivery_directions.specs.order.Queue.{IsOrderedOn, ComeInOrder, LeaveNoGap}
use Rattle.dcsctp_delivery_directions.specs.order.Reading.{CountsFromZero, Watch, uncut, any_asked}
use Rattle.dcsctp_delivery_directions.specs.order.Epochs.{AreSentUnlimited}
use Rattle.dcsctp_delivery_directions.specs.order.Gaps.{SendsInTurn}
use Rattle.dcsctp_delivery_directions.specs.order.Incoming.{IncomingOrdered}
use Rattle.dcsctp_delivery_directions.specs.order.Delivered.{AreDeliveredInOrder, AreDeliveredWithoutGaps}
use Rattle.dcsctp_delivery_directions.proofs.order.Gaps.{filled_no_gap}
use Rattle.dcsctp_delivery_directions.proofs.order.Epochs.{all_filled}
use Rattle.dcsctp_delivery_directions.proofs.order.Incoming.{ordered_was_read}

pub read_is_in_order : (watch : ℕ → Watch) (queued : List Message) (history : History) (quiet : ℕ → Bool) (got : List ℕ) (base : ℕ) (places : List ℕ) (incoming : IncomingModel) (read : List MessageContent)
    → WereQueued queued places read → AreDistinct places → ((id : ℕ) → CountsFromZero history id) → IncomingOrdered watch (sent_messages queued history) quiet got base places incoming → AreDeliveredInOrder queued read
read_is_in_order watch queued history quiet got base places incoming read were once counts o =
    record {
      delivered = record { places = places; were_queued = were; once = once };
      in_order = λ id. ordered_was_read watch queued history quiet got base places incoming id (counts id) o;
    }

module _ (queued : List Message) (id : ℕ) where
  across : (xs ys : List ℕ) (x y : ℕ) → ComeInOrder queued id (xs ++ ys) → HasEntry x xs → HasEntry y ys → IsOrderedOn queued id x → IsOrderedOn queued id y → x < y
  across [] ys x y are has has' on on' = absurd has
  across (z ∷ xs) ys x y are has has' on on' =
      elim has [
        | inl e ↦ first e
        | inr t ↦ across xs ys x y are.1 t has' on on'
      ]
    where
      first : x ≡ z → x < y
      first e = subst (λ (k : ℕ). k < y) (sym e) (are.0 y (has_right y xs ys has') (subst (λ (k : ℕ). IsOrderedOn queued id k) e on) on')

  pub no_gap_front : (xs ys : List ℕ) → ComeInOrder queued id (xs ++ ys) → LeaveNoGap queued id (xs ++ ys) → LeaveNoGap queued id xs
  no_gap_front xs ys are gap earlier later has on on' less =
      elim (has_either earlier xs ys (gap earlier later (has_left later xs ys has) on on' less)) [
        | inl l ↦ l
        | inr r ↦ absurd (let more = across xs ys later earlier are has r on on' in omega (arith, more, less))
      ]

pub read_is_front : (queued : List Message) (history : History) (got : List ℕ) (base : ℕ) (places : List ℕ) (incoming : IncomingModel) (read : List MessageContent)
    → WereQueued queued places read → AreDistinct places → ((id : ℕ) → CountsFromZero history id) → ((id : ℕ) → SendsInTurn queued history id) → ((id : ℕ) → AreSentUnlimited history id 0)
    → IncomingOrdered (uncut false any_asked) (sent_messages queued history) (λ id. false) got base places incoming → AreDeliveredWithoutGaps queued read
read_is_front queued history got base places incoming read were once counts sends unlimited o =
    record {
      ordered = record {
        delivered = record { places = places; were_queued = were; once = once };
        in_order = λ id. ordered_was_read (uncut false any_asked) queued history (λ k. false) got base places incoming id (counts id) o;
      };
      no_gap = λ id. (
          let s = o.order id (counts id) in
          no_gap_front queued id places o.holds.places s.order.in_order
          (filled_no_gap queued history id (places ++ o.holds.places) (o.holds.waits id) (stream_on id incoming.streams) (counts id) (sends id) s.order (all_filled false (any_asked id) queued history id (places ++ o.holds.places) (stream_on id incoming.streams).next (unlimited id) s.by_epoch))
          );
    }
