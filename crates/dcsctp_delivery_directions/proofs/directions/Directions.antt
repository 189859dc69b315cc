-- Runs of a direction.
use Rattle.std.proofs.Common.{◌≡◌, ℕ, zero, suc, Bool, true, false, ◌<◌, ◌^◌, List, [], ◌∷◌, ◌++◌, length, refl, sym, ◌∙◌, ap, arith, subst, inl}
use Rattle.std.specs.Prelude.{Option, None, Some, slice_get}
use Rattle.std.specs.List.{AllByRecursion}
use Rattle.std.proofs.lemmas.List.{append-nil}
use Rattle.dcsctp_spec.specs.types.declared.options.Options.{Options}
use Rattle.dcsctp_spec.specs.Packet.{Emission}
use Rattle.dcsctp_spec.specs.queues.Items.{Item}
use Rattle.dcsctp_spec.specs.types.queues.Messages.{MessageContent}
use Rattle.dcsctp_spec.specs.queues.Reassembly.{ReassemblyState}
use Rattle.dcsctp_spec.specs.queues.Tracker.{TrackerState, new_tracker}
use Rattle.dcsctp_spec.specs.queues.SendQueue.{SendQueueState}
use Rattle.dcsctp_spec.specs.queues.Transfer.{Transfer, EndpointQueues}
use Rattle.dcsctp_delivery_directions.specs.sending.Log.{Fits, Message, Slot, History, new_history}
use Rattle.dcsctp_delivery_directions.specs.sending.Flushes.{PacketsSay, InFlight, PendsIfConnected}
use Rattle.dcsctp_delivery_directions.specs.sending.Numbers.{IsOfKind}
use Rattle.dcsctp_delivery_directions.specs.sending.Queueing.{QueueWaits}
use Rattle.dcsctp_delivery_directions.specs.receiving.Ready.{WereQueued}
use Rattle.dcsctp_delivery_directions.specs.receiving.Received.{HasReceived}
use Rattle.dcsctp_delivery_directions.specs.directions.Directions.{Beginning, Direction, Asking, nothing_asked, tsns_in_flight, assigned_count, NoneInFlight, BeginsDirection, IsAwaited, DirectionRun, begins, goes_on, starts, AreDelivered}
use Rattle.dcsctp_delivery_directions.proofs.sending.KeptQueues.{kept_hold}
use Rattle.dcsctp_delivery_directions.proofs.receiving.Taking.{nothing_received}
use Rattle.dcsctp_delivery_directions.proofs.receiving.Growing.{received_awaited, received_more, were_more}
use Rattle.dcsctp_delivery_directions.proofs.directions.Standing.{Arrived, Stands, counted_flight}
use Rattle.dcsctp_delivery_directions.proofs.directions.Steps.{more_queued, stepped}

-- ---- nothing was sent yet

module _ (first : ℕ) (direction : Direction) (small : first < 2 ^ 32) (zero_gone : direction.acknowledged ≡ 0) (none : NoneInFlight first direction.queues.queue direction.queues.transfer)
    (waits : QueueWaits direction.queued direction.queues.queue) where
  abbrev pub anew : History
  anew = new_history waits.floors

  pub begun_flight : (queue : SendQueueState) (transfer : Option Transfer) → NoneInFlight first queue transfer → InFlight anew first direction.acknowledged transfer
  begun_flight queue None is = omega (arith, zero_gone)
  begun_flight queue (Some transfer) is =
      record {
        tsn = (let tsn = is.0 in omega (arith, tsn, zero_gone, small));
        count = (let few : length transfer.retransmission.outstanding.items ≡ 0 = ap (λ (l : List Item). length l) is.1 in omega (arith, few, zero_gone));
        items = λ k item at. absurd (nothing_at k item (ap (λ (l : List Item). slice_get l k) (sym is.1) ∙ at));
        named = λ k item at. absurd (nothing_at k item (ap (λ (l : List Item). slice_get l k) (sym is.1) ∙ at));
        splits = λ mark has. absurd has;
        abandoned = λ k item at. absurd (nothing_at k item (ap (λ (l : List Item). slice_get l k) (sym is.1) ∙ at));
        whole = λ kind none. record {
          closed = λ k item at. absurd (nothing_at k item (ap (λ (l : List Item). slice_get l k) (sym is.1) ∙ at));
          joined = λ k item next at. absurd (nothing_at k item (ap (λ (l : List Item). slice_get l k) (sym is.1) ∙ at));
          together = λ k item at. absurd (nothing_at k item (ap (λ (l : List Item). slice_get l k) (sym is.1) ∙ at));
          begins = λ k item at. absurd (nothing_at k item (ap (λ (l : List Item). slice_get l k) (sym is.1) ∙ at));
        };
      }
    where
      nothing_at : (k : ℕ) (item : Item) → slice_get [] k ≡ Some item → ⊥
      nothing_at zero item at = absurd (cc)
      nothing_at (suc k) item at = absurd (cc)

  pub begun_pends : (transfer : Option Transfer) → PendsIfConnected anew transfer
  begun_pends None = tt
  begun_pends (Some transfer) = record { next = λ mark has. absurd has; none = λ begun none. refl }

  pub begun_kind : (queue : SendQueueState) (transfer : Option Transfer) → NoneInFlight first queue transfer → IsOfKind queue.is_interleaved transfer
  begun_kind queue None is = tt
  begun_kind queue (Some transfer) is = is.2

  unfoldable pub stands_anew : AllByRecursion Fits direction.queued → direction.sent ≡ [] → direction.asking ≡ nothing_asked → (length anew.log < 2 ^ 31 → Arrived first anew direction) → Stands first direction
  stands_anew fit sent asks arrives =
      let flight = begun_flight direction.queues.queue direction.queues.transfer none in
      record {
        history = anew;
        fit = fit;
        next = waits.holds.next;
        queues = record {
          queue_holds = waits.holds.queue_holds;
          cut = record { pieces = λ n f at. absurd (cc); rows = λ n f some at started. absurd (cc); ascends = λ m n f g less at at'. absurd (cc); climbs = λ m n f g less at at'. absurd (cc); shuts = λ n f at. absurd (cc); ends = λ m n f g less at. absurd (cc) };
          flight = flight;
          pends = begun_pends direction.queues.transfer;
          marks = λ mark has. absurd has;
          numbers = waits.holds.numbers;
          kind = begun_kind direction.queues.queue direction.queues.transfer none;
        };
        packets = subst (λ (l : List Emission). PacketsSay anew first direction.acknowledged l) (sym sent) tt;
        count = counted_flight anew first direction.acknowledged direction.queues.transfer flight;
        asked = ap (λ (a : Asking). a.requests) asks;
        quiet = λ id handed. inl (λ n f at on. absurd (cc));
        arrived = arrives;
      }

pub not_performed : (asking : Asking) → asking ≡ nothing_asked → asking.is_performed ≡ true → ⊥
not_performed asking asks performed = (let clash : false ≡ true = ap (λ (a : Asking). a.is_performed) (sym asks) ∙ performed in absurd (cc))

unfoldable pub begun_stands : (options : Options) (first size : ℕ) (direction : Direction) → first < 2 ^ 32 → BeginsDirection options first size direction → Stands first direction
begun_stands options first size direction small b =
    stands_anew first direction small b.acknowledged b.flight b.queues b.fit b.sent b.asking
    (λ little.
    record {
      places = [];
      were = subst (λ (l : List MessageContent). WereQueued direction.queued [] l) (sym b.read) tt;
      once = tt;
      received = subst (λ (t : TrackerState). HasReceived direction.queued anew first [] t direction.reassembly) (sym b.tracker)
          (subst (λ (r : ReassemblyState). HasReceived direction.queued anew first [] (new_tracker options first) r) (sym b.reassembly) (nothing_received options direction.queued anew first size small (λ n f at is. absurd (cc))));
      cleared = λ is performed. absurd (not_performed direction.asking b.asking performed);
    })
  where
    anew : History
    anew = new_history b.queues.floors

-- ---- the side that sends begins

no_slots : (log : List Slot) → length log ≡ 0 → log ≡ []
no_slots [] none = refl
no_slots (slot ∷ log) none = absurd (omega (arith, none))

module _ (first : ℕ) (old : Direction) (queued : List Message) (below : EndpointQueues) (beginning : Beginning) (s : Stands first old) (awaited : IsAwaited old) where
  pub empty : length s.history.log ≡ 0
  empty = (let idle : tsns_in_flight old.queues.transfer ≡ 0 = ap tsns_in_flight awaited.transfer in let count = s.count in let acknowledged = awaited.acknowledged in omega (arith, idle, count, acknowledged))

  same_queued : queued ++ old.queued ≡ queued
  same_queued = ap (λ (l : List Message). queued ++ l) awaited.queued ∙ append-nil queued

  pub arrived_anew : (floors : ℕ → Bool → ℕ) → Arrived first s.history old → Arrived first (new_history floors) (record old { queued = queued; queues = below; prepared = []; beginning = beginning })
  arrived_anew floors a =
      record {
        places = a.places;
        were = subst (λ (l : List Message). WereQueued l a.places old.read) same_queued (were_more old.queued queued a.places old.read a.were);
        once = a.once;
        received = received_awaited queued s.history floors first a.places old.tracker old.reassembly (no_slots s.history.log empty)
            (subst (λ (l : List Message). HasReceived l s.history first a.places old.tracker old.reassembly) same_queued
            (received_more old.queued queued s.history [] first a.places old.tracker old.reassembly (λ n f at is. absurd (cc)) a.received));
        cleared = λ is performed. absurd (not_performed old.asking awaited.asking performed);
      }

  unfoldable pub started_stands : first < 2 ^ 32 → AllByRecursion Fits queued → QueueWaits queued below.queue → NoneInFlight first below.queue below.transfer → Stands first (record old { queued = queued; queues = below; prepared = []; beginning = beginning })
  started_stands small fit waits none =
      let direction : Direction = record old { queued = queued; queues = below; prepared = []; beginning = beginning } in
      stands_anew first direction small awaited.acknowledged none waits fit awaited.sent awaited.asking (λ little. arrived_anew waits.floors (s.arrived (omega (arith, empty))))

-- ---- a run

pub run_stands : (options : Options) (first size : ℕ) (direction : Direction) → first < 2 ^ 32 → length direction.queued < 2 ^ 64 → DirectionRun options first size direction → Stands first direction
run_stands options first size _ small few (begins direction b) = begun_stands options first size direction small b
run_stands options first size _ small few (goes_on old direction run step) =
    stepped first old small (run_stands options first size old small (omega (arith, few, more_queued old direction step)) run) direction few step
run_stands options first size _ small few (starts old queued below beginning run awaited fit waits none numbered) =
    started_stands first old queued below beginning (run_stands options first size old small (let none_queued : length old.queued ≡ 0 = ap (λ (l : List Message). length l) awaited.queued in omega (arith, none_queued)) run) awaited small fit waits none

-- what is true of it
pub direction_queues : (options : Options) (first size : ℕ) (direction : Direction) → DirectionRun options first size direction → first < 2 ^ 32 → length direction.queued < 2 ^ 64 → QueueWaits direction.queued direction.queues.queue × AllByRecursion Fits direction.queued
direction_queues options first size direction run small few =
    let s = run_stands options first size direction small few run in
    (kept_hold direction.queued s.history direction.queues.queue (record { queue_holds = s.queues.queue_holds; next = s.next; numbers = s.queues.numbers }), s.fit)

pub directions_deliver : (options : Options) (first size : ℕ) (direction : Direction) → DirectionRun options first size direction → first < 2 ^ 32 → assigned_count direction < 2 ^ 31 → length direction.queued < 2 ^ 64 → AreDelivered direction.queued direction.read
directions_deliver options first size direction run small little few =
    let s = run_stands options first size direction small few run in
    let a = s.arrived (omega (arith, s.count, little)) in
    record { places = a.places; were_queued = a.were; once = a.once }
