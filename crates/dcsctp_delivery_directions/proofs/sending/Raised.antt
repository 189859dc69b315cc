-- What is in flight, and the resets that were begun, where floors are raised by a reset that was
-- performed; and where nothing was done yet.
use Rattle.std.proofs.Common.{ℕ, Bool, arith, inl, refl}
use Rattle.std.specs.Prelude.{Option, None, Some, List}
use Rattle.dcsctp_spec.specs.types.queues.SendStreams.{Stream}
use Rattle.dcsctp_spec.specs.queues.Outstanding.{OutstandingState}
use Rattle.dcsctp_spec.specs.queues.Sending.{Fragment}
use Rattle.dcsctp_spec.specs.queues.Transfer.{Transfer}
use Rattle.dcsctp_delivery_directions.specs.sending.Log.{History, new_history}
use Rattle.dcsctp_delivery_directions.specs.sending.Flushes.{InFlight, PendsIfConnected}
use Rattle.dcsctp_delivery_directions.specs.sending.Stages.{IsNamedFragment, Bears, AreMarks}
use Rattle.dcsctp_delivery_directions.proofs.sending.Extended.{as_itself, Extends}

-- ---- other floors

abbrev pub with_floors : (ℕ → Bool → ℕ) → History → History
with_floors floors history = record history { floors = floors }

pub extends_floors : (floors : ℕ → Bool → ℕ) (history : History) → Extends history (with_floors floors history)
extends_floors floors history = record { at = λ n slot at. at; size = omega arith; marks = λ mark has. has; later = λ mark has. inl (as_itself history mark has) }

named_floors : (floors : ℕ → Bool → ℕ) (history : History) (own : ℕ) (part : Fragment) → IsNamedFragment history own part → IsNamedFragment (with_floors floors history) own part
named_floors floors history own part n = record { number = n.number; piece = n.piece; at = n.at; of = n.of; whole = n.whole; stream = n.stream; unordered = n.unordered; mid = n.mid; ssn = n.ssn; up_to = n.up_to; tail = n.tail; limits = n.limits }

pub bears_floors : (floors : ℕ → Bool → ℕ) (history : History) (first acknowledged : ℕ) (outstanding : OutstandingState) → Bears history first acknowledged outstanding → Bears (with_floors floors history) first acknowledged outstanding
bears_floors floors history first acknowledged outstanding b =
    record { tsn = b.tsn; count = b.count; items = b.items; named = λ k item at. named_floors floors history _ item.fragment (b.named k item at); splits = b.splits; abandoned = b.abandoned; whole = b.whole }

pub flight_floors : (floors : ℕ → Bool → ℕ) (history : History) (first acknowledged : ℕ) (transfer : Option Transfer) → InFlight history first acknowledged transfer → InFlight (with_floors floors history) first acknowledged transfer
flight_floors floors history first acknowledged None flight = flight
flight_floors floors history first acknowledged (Some transfer) flight = bears_floors floors history first acknowledged transfer.retransmission.outstanding flight

pub pends_floors : (floors : ℕ → Bool → ℕ) (history : History) (transfer : Option Transfer) → PendsIfConnected history transfer → PendsIfConnected (with_floors floors history) transfer
pends_floors floors history None pends = tt
pends_floors floors history (Some transfer) pends = record { next = pends.next; none = pends.none }

pub marks_floors : (floors : ℕ → Bool → ℕ) (history : History) (first : ℕ) (streams : List Stream) → AreMarks history first streams → AreMarks (with_floors floors history) first streams
marks_floors floors history first streams marks mark has =
    let old = marks mark has in
    record { within = old.within; last = old.last; fields = old.fields; sides = old.sides; going = old.going }

-- ---- no reset was begun yet

pub marks_new : (floors : ℕ → Bool → ℕ) (first : ℕ) (streams : List Stream) → AreMarks (new_history floors) first streams
marks_new floors first streams mark has = absurd has

pub pends_new : (floors : ℕ → Bool → ℕ) (transfer : Option Transfer) → PendsIfConnected (new_history floors) transfer
pends_new floors None = tt
pends_new floors (Some transfer) = record { next = λ mark has is. absurd has; none = λ begun none. refl }
