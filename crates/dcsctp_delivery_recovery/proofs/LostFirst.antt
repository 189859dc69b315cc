-- The first item that a sender has outstanding is lost, if it isn't acknowledged.
use Rattle.std.proofs.Common.{◌≡◌, ◌<◌, ◌≤◌, ◌-◌, ℕ, zero, suc, Bool, true, false, List, [], ◌∷◌, length, inl, inr, refl, sym, ◌∙◌, ap, arith, subst}
use Rattle.std.specs.Prelude.{Some}
use Rattle.std.specs.List.{AllByRecursion, slice_get}
use Rattle.dcsctp_spec_lemmas.specs.types.Settings.{packet_size_limit}
use Rattle.dcsctp_spec_lemmas.specs.types.queues.Progress.{is_unacknowledged}
use Rattle.dcsctp_spec_lemmas.specs.spec.endpoint.Endpoint.{Endpoint}
use Rattle.dcsctp_spec_lemmas.specs.spec.endpoint.Turn.{with_clock}
use Rattle.dcsctp_spec_lemmas.specs.spec.queues.Items.{Item, item_size}
use Rattle.dcsctp_spec_lemmas.specs.spec.queues.Outstanding.{header}
use Rattle.dcsctp_spec_lemmas.specs.spec.queues.Transfer.{Transfer}
use Rattle.dcsctp_theorem_transfer.specs.Deadlines.{IsOpen}
use Rattle.dcsctp_theorem_transfer.specs.Packing.{ItemsFit}
use Rattle.dcsctp_theorem_transfer.specs.Recovering.{IsFirstLost, IsLost, IsLostBehind}
use Rattle.dcsctp_theorem_transfer.specs.Taking.{HasPayload}
use Rattle.dcsctp_delivery_recovery.specs.Flights.{IsSoundItem, IsSoundFlight}
use Rattle.dcsctp_delivery_recovery.specs.Recovered.{AwaitsFirst, LosesAlone, LosesBehind}

-- ---- the first item

all_at : (P : Item → Type 0) (items : List Item) (k : ℕ) (item : Item) → AllByRecursion P items → slice_get items k ≡ Some item → P item
all_at P [] k item h at = absurd (cc)
all_at P (first ∷ items) zero item h at = (let same : first ≡ item = cc in subst P same h.0)
all_at P (first ∷ items) (suc k) item h at = all_at P items k item h.1 at

has_payload : (payload : List ℕ) → 0 < length payload → HasPayload payload
has_payload [] some = absurd (omega (arith, some))
has_payload (byte ∷ bytes) some = tt

module _ (item : Item) (sound : IsSoundItem item) (awaited : is_unacknowledged item.progress.state ≡ true) where
  some_payload : HasPayload item.fragment.payload
  some_payload =
      elim sound.bytes [
        | inl some ↦ has_payload item.fragment.payload some
        | inr abandoned ↦ absurd (let clash : false ≡ true = ap is_unacknowledged (sym abandoned) ∙ awaited in cc)
      ]

  never_acknowledged : item.progress.was_acknowledged ≡ false
  never_acknowledged = go item.progress.was_acknowledged refl
    where
      go : (b : Bool) → item.progress.was_acknowledged ≡ b → b ≡ false
      go false is = refl
      go true is = absurd (let clash : true ≡ false = sym awaited ∙ sound.acknowledged is in cc)

-- ---- the sender

-- What is known of a socket's flight.
pub record FliesWell (e : Endpoint) (transfer : Transfer) : Type 0 where
  pub sound : IsSoundFlight transfer.retransmission.outstanding
  pub fits : ItemsFit (packet_size_limit e.options - 12) transfer.retransmission.outstanding

first_lost : (e : Endpoint) (transfer : Transfer) → FliesWell e transfer → AwaitsFirst e transfer → IsFirstLost e transfer
first_lost e transfer known waits =
    let items : List Item = transfer.retransmission.outstanding.items in
    let one : IsSoundItem waits.first = all_at IsSoundItem items 0 waits.first known.sound.items waits.at in
    record {
      lowest = record {
        item = waits.first;
        at = waits.at;
        awaited = waits.awaited;
        first = λ k item less at. absurd (omega (arith, less));
        fits = all_at (λ (item : Item). item_size (header transfer.retransmission.outstanding) item ≤ packet_size_limit e.options - 12) items 0 waits.first known.fits waits.at;
      };
      anew = never_acknowledged waits.first one waits.awaited;
      payload = some_payload waits.first one waits.awaited;
    }

pub lost_alone : (e : Endpoint) (transfer : Transfer) → IsOpen e.core → FliesWell e transfer → LosesAlone e transfer → IsLost e transfer
lost_alone e transfer opens known loses =
    record {
      alone = record { is_open = opens; has = loses.waits.has; allowed = loses.allowed; settled = loses.settled; resets = loses.waits.resets; lasting = loses.waits.lasting };
      first = first_lost e transfer known loses.waits;
    }

pub lost_behind : (e : Endpoint) (transfer : Transfer) → IsOpen e.core → FliesWell e transfer → LosesBehind e transfer → IsLostBehind e transfer
lost_behind e transfer opens known loses =
    record { is_open = opens; has = loses.waits.has; burst = loses.burst; resets = loses.waits.resets; lasting = loses.waits.lasting; first = first_lost e transfer known loses.waits }

-- ---- at whatever moment

pub flies_later : (moment : ℕ) (e : Endpoint) (transfer : Transfer) → FliesWell e transfer → FliesWell (with_clock moment e) transfer
flies_later moment e transfer known = record { sound = known.sound; fits = known.fits }

waits_later : (moment : ℕ) (e : Endpoint) (transfer : Transfer) → AwaitsFirst e transfer → AwaitsFirst (with_clock moment e) transfer
waits_later moment e transfer waits = record { has = waits.has; first = waits.first; at = waits.at; awaited = waits.awaited; lasting = waits.lasting; resets = waits.resets }

pub alone_later : (moment : ℕ) (e : Endpoint) (transfer : Transfer) → LosesAlone e transfer → LosesAlone (with_clock moment e) transfer
alone_later moment e transfer loses = record { waits = waits_later moment e transfer loses.waits; allowed = loses.allowed; settled = loses.settled }

pub behind_later : (moment : ℕ) (e : Endpoint) (transfer : Transfer) → LosesBehind e transfer → LosesBehind (with_clock moment e) transfer
behind_later moment e transfer loses = record { waits = waits_later moment e transfer loses.waits; burst = loses.burst }
