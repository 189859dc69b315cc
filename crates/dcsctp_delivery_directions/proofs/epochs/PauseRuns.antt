-- With interleaving a user's call to reset a stream is followed by a reset that the receiver performs, before what is sent since is read.
use Rattle.std.proofs.Common.{◌≡◌, ℕ, Bool, true, false, ◌<◌, ◌≤◌, ◌+◌, ◌-◌, ◌%◌, ◌^◌, List, [], ◌∷◌, length, nat_le, refl, sym, ◌∙◌, ap, arith, subst, inl, inr}
use Rattle.std.specs.Prelude.{Option, None, Some}
use Rattle.dcsctp_spec.specs.types.declared.options.Options.{Options}
use Rattle.dcsctp_spec.specs.endpoint.BegunResets.{BegunReset}
use Rattle.dcsctp_delivery_directions.specs.sending.Log.{Message, Piece}
use Rattle.dcsctp_delivery_directions.specs.sending.Losing.{WasSentOf}
use Rattle.dcsctp_delivery_directions.specs.sending.Places.{HasEntry, at_place}
use Rattle.dcsctp_delivery_directions.specs.directions.Directions.{Asking, Beginning, PreparedReset, Direction, assigned_count, BeginsDirection, DirectionRun, begins, goes_on, starts, DirectionStep}
use Rattle.dcsctp_delivery_directions.proofs.directions.Continuing.{begun_history, started_history}
use Rattle.dcsctp_delivery_directions.proofs.directions.Directions.{begun_stands, started_stands}
use Rattle.dcsctp_delivery_directions.proofs.directions.Losing.{same_beginning}
use Rattle.dcsctp_delivery_directions.proofs.directions.Reached.{acknowledgements_are_true}
use Rattle.dcsctp_delivery_directions.proofs.directions.Standing.{Stands}
use Rattle.dcsctp_delivery_directions.proofs.directions.Steps.{stepped, more_queued}
use Rattle.dcsctp_delivery_directions.specs.order.Queue.{Cut, Separates}
use Rattle.dcsctp_delivery_directions.proofs.order.Beginning.{waits_from}
use Rattle.dcsctp_delivery_directions.proofs.order.PlainSteps.{same_kind}
use Rattle.dcsctp_delivery_directions.specs.epochs.Cuts.{cuts_after, cuts_of, known_asks}
use Rattle.dcsctp_delivery_directions.specs.epochs.Directions.{asked_after, asked_of, opened_of}
use Rattle.dcsctp_delivery_directions.specs.epochs.Reports.{WasPrepared, IsReadOn, ArePerformedBetween, AreCutByCalls}
use Rattle.dcsctp_delivery_directions.specs.epochs.Sending.{EpochBounds, is_open, HaltsIfAsked}
use Rattle.dcsctp_delivery_directions.proofs.epochs.CutsAsked.{run_asks, opened_so, cut_as_asked}
use Rattle.dcsctp_delivery_directions.proofs.epochs.Delivering.{DeliversSo, delivers_new}
use Rattle.dcsctp_delivery_directions.proofs.epochs.DeliveringRuns.{delivers_on, delivers_goes, delivered_as_sent, IsDeliveredAsSent}
use Rattle.dcsctp_delivery_directions.proofs.epochs.Pauses.{IsParted, PauseStands, NewestIsReported}
use Rattle.dcsctp_delivery_directions.proofs.epochs.SendingRuns.{GoesByEpoch, goes_stands}
use Rattle.dcsctp_delivery_directions.specs.order.Received.{IsLastAssigned, IsNamedWaiting}
use Rattle.dcsctp_delivery_directions.proofs.epochs.Deferred.{deferral_known}
use Rattle.dcsctp_delivery_directions.proofs.epochs.Window.{window_of}
use Rattle.std.proofs.lemmas.Bool.Decides.{nat_tests}
use Rattle.dcsctp_delivery_directions.proofs.epochs.PauseMoves.{newest_on, pauses_on}

-- ---- a run

record ReportsSo (sized : Bool) (first : ℕ) (direction : Direction) (opened : ℕ → Bool) (asked : ℕ → EpochBounds) (cuts : ℕ → List Cut) : Type 0 where
  d : DeliversSo sized first direction opened asked cuts
  newest : direction.queues.queue.is_interleaved ≡ true → NewestIsReported direction asked cuts
  pauses : direction.queues.queue.is_interleaved ≡ true → direction.beginning.from_zero ≡ true → (id count : ℕ) → WasPrepared direction.prepared id count → direction.beginning.empties id count ≡ true → PauseStands direction d.goes.stands.history.log asked cuts id count

reports_new : (sized : Bool) (first : ℕ) (direction : Direction) (opened : ℕ → Bool) (asked : ℕ → EpochBounds) (cuts : ℕ → List Cut) → DeliversSo sized first direction opened asked cuts → direction.asking.requests ≡ [] → direction.prepared ≡ [] → ReportsSo sized first direction opened asked cuts
reports_new sized first direction opened asked cuts d none none_made =
    record {
      d = d;
      newest = λ interleaved newest earlier is. absurd (let clash : ◌≡◌ {A = List BegunReset} [] (newest ∷ earlier) = sym none ∙ is in cc);
      pauses = λ interleaved from id count was. absurd (subst (λ (l : List PreparedReset). HasEntry was.call l) none_made was.has);
    }

module _ (sized : Bool) (first : ℕ) (old : Direction) (small : first < 2 ^ 32) (opened : ℕ → Bool) (asked : ℕ → EpochBounds) (cuts : ℕ → List Cut) (r : ReportsSo sized first old opened asked cuts) (opens : old.beginning.from_zero ≡ true → (id : ℕ) → opened id ≡ true) where
  reports_on : (direction : Direction) (few : length direction.queued < 2 ^ 64) (step : DirectionStep old direction) (covered : length r.d.goes.stands.history.log < 2 ^ 31 → sized ≡ true → ((first + (2 ^ 32 - 1)) % 2 ^ 32 + old.acknowledged ≤ old.tracker.cumulative) × (old.reassembly.max_size ≤ 2 ^ 63) × IsLastAssigned r.d.goes.stands.history first old.reassembly.deferral × IsNamedWaiting old.reassembly.deferral)
      → ReportsSo sized first direction opened (asked_after old direction step asked) (cuts_after sized old direction step asked cuts)
  reports_on direction few step covered =
      let kind = same_kind old direction step in
      let start = same_beginning old direction step in
      let stands_are : (delivers_on sized first old small opened asked cuts r.d direction few step covered).goes.stands ≡ stepped first old small r.d.goes.stands direction few step =
      ap (λ (g : GoesByEpoch first direction opened (asked_after old direction step asked)). g.stands) (delivers_goes sized first old small opened asked cuts r.d direction few step covered) ∙ goes_stands first old small opened asked r.d.goes direction few step in
      record {
        d = delivers_on sized first old small opened asked cuts r.d direction few step covered;
        newest = λ interleaved. (let was : old.queues.queue.is_interleaved ≡ true = sym kind ∙ interleaved in newest_on sized first old small opened asked cuts r.d (r.newest was) was direction step);
        pauses = λ interleaved from id count made empties. (
            let was : old.queues.queue.is_interleaved ≡ true = sym kind ∙ interleaved in
            let from' : old.beginning.from_zero ≡ true = ap (λ (b : Beginning). b.from_zero) (sym start) ∙ from in
            subst (λ (s : Stands first direction). PauseStands direction s.history.log (asked_after old direction step asked) (cuts_after sized old direction step asked cuts) id count) (sym stands_are)
            (pauses_on sized first old small opened asked cuts r.d (r.newest was) was (opens from') (r.pauses was from') direction few step id count made empties)
            );
      }

run_reports : (options : Options) (first size : ℕ) (direction : Direction) → first < 2 ^ 32 → length direction.queued < 2 ^ 64 → (run : DirectionRun options first size direction)
    → ReportsSo (nat_le size (2 ^ 63)) first direction (opened_of options first size direction run) (asked_of options first size direction run) (cuts_of options first size direction run)
run_reports options first size _ small few (begins direction b) =
    let w = waits_from direction.queued direction.queues.queue b.queues in
    let b' : BeginsDirection options first size direction = record b { queues = w.waits } in
    reports_new (nat_le size (2 ^ 63)) first direction _ _ _
    (delivers_new (nat_le size (2 ^ 63)) first direction (begun_stands options first size direction small b') w.waits.floors (begun_history options first size direction small b') (ap (λ (a : Asking). a.out) b.asking) (ap (λ (a : Asking). a.requests) b.asking)
    (λ from. w.zero (b.begun.zero from)) b.begun.whole) (ap (λ (a : Asking). a.requests) b.asking) b.prepared
run_reports options first size _ small few (goes_on old direction run step) =
    let r = run_reports options first size old small (omega (arith, few, more_queued old direction step)) run in
    reports_on (nat_le size (2 ^ 63)) first old small (opened_of options first size old run) (asked_of options first size old run) (cuts_of options first size old run) r (opened_so options first size old run) direction few step
    (λ little known. (
    let count = r.d.goes.stands.count in
    let limit : size ≤ 2 ^ 63 = grind (arith, nat_tests, known) in
    let window = window_of options first size old run in
    let deferral = deferral_known options first size old run r.d.goes.stands in
    (acknowledgements_are_true options first size old run small (omega (arith, little, count)) (omega (arith, few, more_queued old direction step)), omega (arith, limit, window), deferral.0, deferral.1)
    ))
run_reports options first size _ small few (starts old queued below beginning run awaited fit waits idle begun) =
    let none_queued : length old.queued ≡ 0 = ap (λ (l : List Message). length l) awaited.queued in
    let r = run_reports options first size old small (omega (arith, none_queued)) run in
    let w = waits_from queued below.queue waits in
    let direction : Direction = record old { queued = queued; queues = below; prepared = []; beginning = beginning } in
    reports_new (nat_le size (2 ^ 63)) first direction _ _ _
    (delivers_new (nat_le size (2 ^ 63)) first direction (started_stands first old queued below beginning r.d.goes.stands awaited small fit w.waits idle) w.waits.floors (started_history first old queued below beginning r.d.goes.stands awaited small fit w.waits idle)
    (ap (λ (a : Asking). a.out) awaited.asking) (ap (λ (a : Asking). a.requests) awaited.asking) (λ from. w.zero (begun.zero from)) begun.whole) (ap (λ (a : Asking). a.requests) awaited.asking) refl

-- ---- what is read

module _ (sized : Bool) (first : ℕ) (direction : Direction) (opened : ℕ → Bool) (asked : ℕ → EpochBounds) (cuts : ℕ → List Cut) (r : ReportsSo sized first direction opened asked cuts) (interleaved : direction.queues.queue.is_interleaved ≡ true) (from : direction.beginning.from_zero ≡ true)
    (a : IsDeliveredAsSent sized (known_asks direction.beginning) cuts direction.queued r.d.goes.stands.history.log direction.read) where
  abbrev places : List ℕ
  places = a.delivered.ordered.delivered.places

  -- the stream of what was read
  read_on : (id place : ℕ) → IsReadOn direction.queued id places place → (sent : WasSentOf r.d.goes.stands.history.log place) → sent.piece.message.stream ≡ id
  read_on id place on sent =
      let both : Some sent.piece.message ≡ Some on.on.message = sym (r.d.goes.stands.queues.cut.pieces sent.number sent.piece sent.at).at ∙ ap (λ (k : ℕ). at_place k direction.queued) sent.is ∙ on.on.at in
      let same : sent.piece.message ≡ on.on.message = cc in
      ap (λ (m : Message). m.stream) same ∙ on.on.stream

  read_between : ArePerformedBetween direction places
  read_between id earlier later count made empties one two low high =
      let sent = a.sent earlier one.has in
      let is = sent.is in
      let p = r.pauses interleaved from id count made empties in
      let e : IsParted direction asked cuts id sent.piece.place count = p.each sent.number sent.piece sent.at (read_on id earlier one sent) (omega (arith, is, low)) in
      elim e.so [
        | inl k ↦
            (let cut : Separates direction.queued id k.cut.index k.cut.place places = a.delivered.epochs id k.cut k.cut_has in
            record {
              reset = k.reset;
              has = k.has;
              names = k.names;
              place = e.place;
              asked = e.was_asked;
              from = (let above = e.from in omega (arith, above, is));
              to = e.to;
              separates = subst (λ (n : ℕ). Separates direction.queued id k.reset.index n places) k.place_is (subst (λ (n : ℕ). Separates direction.queued id n k.cut.place places) k.index_is cut);
            })
        | inr k ↦
            absurd
            (let last = a.sent later two.has in
            let below = halted (asked id).newest k.newest (r.d.goes.by_epoch interleaved id).stops k.shut last.number last.piece last.at (read_on id later two last) in
            let is' = last.is in
            let to = e.to in
            omega (arith, below, is', to, high))
      ]
    where
      halted : {place : ℕ} (o : Option ℕ) → o ≡ Some place → HaltsIfAsked o r.d.goes.stands.history direction.queues.queue id → is_open id direction.queues.queue.streams ≡ false → (n : ℕ) (f : Piece) → at_place n r.d.goes.stands.history.log ≡ Some (Some f) → f.message.stream ≡ id → f.place < place
      halted None is' stops shut n f at on = absurd (cc)
      halted {place} (Some other) is' stops shut n f at on = (let below = (stops shut).sent n f at on in let same : other ≡ place = cc in omega (arith, below, same))

pub directions_cut_by_calls : (options : Options) (first size : ℕ) (direction : Direction) → DirectionRun options first size direction → first < 2 ^ 32 → assigned_count direction < 2 ^ 31 → length direction.queued < 2 ^ 64
    → direction.queues.queue.is_interleaved ≡ true → direction.beginning.from_zero ≡ true → AreCutByCalls size direction
unfolding cut_as_asked
directions_cut_by_calls options first size direction run small little few interleaved from =
    let r = run_reports options first size direction small few run in
    let a = delivered_as_sent (nat_le size (2 ^ 63)) first direction (opened_of options first size direction run) (asked_of options first size direction run) (cuts_of options first size direction run) r.d small little interleaved from in
    record {
      cut = cut_as_asked size direction (opened_of options first size direction run) (asked_of options first size direction run) (cuts_of options first size direction run) a.delivered (run_asks options first size direction small few run) interleaved (opened_so options first size direction run from);
      between = read_between (nat_le size (2 ^ 63)) first direction (opened_of options first size direction run) (asked_of options first size direction run) (cuts_of options first size direction run) r interleaved from a;
    }
