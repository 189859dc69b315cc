-- A stream that is sent by epochs stays so while nothing is queued, sent or asked for on it.
use Rattle.std.proofs.Common.{◌≡◌, ℕ, Bool, ◌≤◌, List, refl, sym, ◌∙◌, ap, arith, subst}
use Rattle.std.specs.Prelude.{Option, None, Some, is_some}
use Rattle.dcsctp_spec.specs.types.queues.SendStreams.{Waiting, front_of}
use Rattle.dcsctp_spec.specs.queues.OwnResets.{is_open_pause}
use Rattle.dcsctp_spec.specs.queues.SendQueue.{SendQueueState}
use Rattle.dcsctp_delivery_directions.specs.sending.Places.{at_place}
use Rattle.dcsctp_delivery_directions.specs.sending.Log.{Piece, Slot, History}
use Rattle.dcsctp_delivery_directions.specs.sending.Numbers.{stream_named, IsCurrent}
use Rattle.dcsctp_delivery_directions.specs.epochs.Sending.{AllFrom, SendsFrom, EpochBounds, HaltsIfAsked, SendsByEpoch}
use Rattle.dcsctp_delivery_directions.proofs.epochs.Feeding.{unbegun_same}
use Rattle.dcsctp_delivery_directions.proofs.epochs.Named.{IsUnmoved}

-- The same was sent, and no floor was raised.
pub record IsAlike (old new : History) : Type 0 where
  pub log : new.log ≡ old.log
  pub floors : new.floors ≡ old.floors

pub same_history : (history : History) → IsAlike history history
same_history history = record { log = refl; floors = refl }

module _ (old new : History) (alike : IsAlike old new) where
  was_sent : (n : ℕ) (f : Piece) → at_place n new.log ≡ Some (Some f) → at_place n old.log ≡ Some (Some f)
  was_sent n f at = ap (λ (l : List Slot). at_place n l) (sym alike.log) ∙ at

  was_current : (f : Piece) → IsCurrent new f → IsCurrent old f
  was_current f is = subst (λ (floors : ℕ → Bool → ℕ). floors f.message.stream f.message.is_unordered ≤ f.mid) alike.floors is

  module _ (queue later : SendQueueState) (id : ℕ) (unmoves : IsUnmoved (stream_named id queue.streams) (stream_named id later.streams)) where
    from_stays : (place : ℕ) → SendsFrom old queue id place → SendsFrom new later id place
    from_stays place f =
        record {
          sent = λ n g at on is. f.sent n g (was_sent n g at) on (was_current g is);
          waits = subst (λ (l : List Waiting). AllFrom place l) (sym unmoves.messages) f.waits;
        }

    stops_stay : (newest : Option ℕ) → HaltsIfAsked newest old queue id → HaltsIfAsked newest new later id
    stops_stay None stops = tt
    stops_stay (Some place) stops = λ paused. (
        let s = stops (ap is_open_pause (sym unmoves.pause) ∙ paused) in
        record {
          sent = λ n g at on. s.sent n g (was_sent n g at) on;
          going = λ w is front. s.going w (ap is_some (sym unmoves.under_way) ∙ is) (ap front_of (sym unmoves.messages) ∙ front);
          rest = subst (λ (l : List Waiting). AllFrom place l) (sym (unbegun_same (stream_named id queue.streams) (stream_named id later.streams) unmoves.under_way unmoves.messages)) s.rest;
        }
        )

    pub stays_by_epoch : (count more : ℕ) (asked : EpochBounds) → count ≤ more → SendsByEpoch count old queue id asked → SendsByEpoch more new later id asked
    stays_by_epoch count more asked low e =
        record {
          from = from_stays asked.ended e.from;
          stops = stops_stay asked.newest e.stops;
          newest = λ place is. (let its = e.newest place is in (its.0, (let up = its.1 in omega (arith, up, low))));
          ended = (let ended = e.ended in omega (arith, ended, low));
        }
