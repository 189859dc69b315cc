-- What holds of the epochs of a direction throughout: its sender's, and what its receiver has performed.
use Rattle.std.proofs.Common.{◌≡◌, ℕ, Bool, true, ◌<◌, ◌≤◌, ◌%◌, ◌^◌, List, [], ◌++◌, length, length-append, sym, ◌∙◌, ap, arith, subst, inl, inr, ◌+◌, ◌-◌, ◌⊎◌, refl}
use Rattle.dcsctp_delivery_directions.specs.sending.Log.{Slot, History, new_history}
use Rattle.dcsctp_delivery_directions.specs.sending.Places.{at_place, HasEntry}
use Rattle.dcsctp_delivery_directions.specs.sending.Losing.{AllWaitOn}
use Rattle.dcsctp_delivery_directions.specs.directions.Directions.{Beginning, Direction, DirectionStep}
use Rattle.dcsctp_delivery_directions.proofs.directions.Cleared.{not_new}
use Rattle.dcsctp_delivery_directions.proofs.directions.Continuing.{NamedAreOut, EndsNone, Continues}
use Rattle.dcsctp_delivery_directions.proofs.directions.Losing.{same_beginning}
use Rattle.dcsctp_delivery_directions.proofs.directions.Standing.{Stands}
use Rattle.dcsctp_delivery_directions.specs.order.Queue.{Cut}
use Rattle.dcsctp_delivery_directions.specs.order.Reading.{ComeSince}
use Rattle.dcsctp_delivery_directions.specs.order.Received.{none_quiet}
use Rattle.dcsctp_delivery_directions.proofs.order.Directions.{Unended, step_keeps}
use Rattle.dcsctp_delivery_directions.proofs.order.Quiet.{Arrives, arrives_later}
use Rattle.dcsctp_delivery_directions.proofs.order.Steps.{arrives_on}
use Rattle.dcsctp_delivery_directions.specs.order.Received.{IsLastAssigned, IsNamedWaiting}
use Rattle.dcsctp_delivery_directions.proofs.order.Unsent.{received_none}
use Rattle.dcsctp_delivery_directions.specs.epochs.Sending.{EpochBounds, never_asked, is_open, SendsByEpoch}
use Rattle.dcsctp_delivery_directions.specs.epochs.Cuts.{known_asks, is_cut_whole}
use Rattle.dcsctp_delivery_directions.specs.epochs.Directions.{asked_after}
use Rattle.dcsctp_delivery_directions.proofs.epochs.KeptRuns.{KeepsEpochs, keeps_new, keeps_further, goes_in_turn}
use Rattle.dcsctp_delivery_directions.proofs.epochs.SendingRuns.{GoesByEpoch, begins_by_epoch, begins_known, goes_further, goes_continues}
use Rattle.dcsctp_delivery_directions.proofs.epochs.Behind.{watch_of, AreBehind, asked_keeps, behind_later}
use Rattle.dcsctp_delivery_directions.specs.sending.Numbers.{AreFloorsAtZero}

-- The reset that was asked for at this place has ended, and is a cut.
pub record IsEndedCut (wholes : ℕ → Bool) (cuts : List Cut) (place : ℕ) : Type 0 where
  pub cut : Cut
  pub has : HasEntry cut cuts
  pub place_is : cut.place ≡ place
  pub whole_is : cut.is_whole ≡ wholes place

pub record DeliversSo (sized : Bool) (first : ℕ) (direction : Direction) (opened : ℕ → Bool) (asked : ℕ → EpochBounds) (cuts : ℕ → List Cut) : Type 0 where
  pub goes : GoesByEpoch first direction opened asked
  pub keeps : KeepsEpochs first direction opened asked goes.stands
  pub named : NamedAreOut goes.stands.history direction.asking.out direction.queues.queue.streams
  pub unended : direction.queues.queue.is_interleaved ≡ true → Unended direction.asking
  pub zero : direction.queues.queue.is_interleaved ≡ true → direction.beginning.from_zero ≡ true → (id : ℕ) → AreFloorsAtZero goes.stands.history.floors id
  pub behind : direction.queues.queue.is_interleaved ≡ true → AreBehind direction.queues.queue.streams asked cuts
  pub ended_cut : (id : ℕ) → ((asked id).ended ≡ 0) ⊎ IsEndedCut (is_cut_whole sized direction.beginning id) (cuts id) (asked id).ended
  pub arrives : length goes.stands.history.log < 2 ^ 31 → direction.queues.queue.is_interleaved ≡ true → direction.beginning.from_zero ≡ true
      → Arrives (watch_of sized (known_asks direction.beginning) cuts) first goes.stands.history direction.queued direction.read direction.tracker direction.reassembly direction.queues.queue.streams

-- ---- an association begins

pub delivers_new : (sized : Bool) (first : ℕ) (direction : Direction) (s : Stands first direction) (floors : ℕ → Bool → ℕ) → s.history ≡ new_history floors → direction.asking.out ≡ 0 → direction.asking.requests ≡ []
    → (direction.beginning.from_zero ≡ true → (id : ℕ) → AreFloorsAtZero floors id) → (direction.beginning.has_all ≡ true → (id : ℕ) → AllWaitOn id direction.queued direction.queues.queue.streams) → DeliversSo sized first direction (λ id. is_open id direction.queues.queue.streams) (λ id. never_asked) (λ id. [])
delivers_new sized first direction s floors is none_out none_asked at_zero all =
    record {
      goes = record { stands = s; by_epoch = λ interleaved. begins_by_epoch first direction s floors is; known = λ interleaved. begins_known direction };
      keeps = keeps_new first direction s floors is all;
      named = λ mark earlier has some. absurd (omega (arith, some, none_out));
      unended = λ interleaved unknown. inl none_asked;
      zero = λ interleaved from id. subst (λ (h : History). AreFloorsAtZero h.floors id) (sym is) (at_zero from id);
      behind = λ interleaved id cut has. absurd has;
      ended_cut = λ id. inl refl;
      arrives = λ little interleaved from. (
          let a = s.arrived little in
          record {
            places = a.places;
            were = a.were;
            once = a.once;
            quiet = none_quiet;
            received = received_none direction.queued s.history (ap (λ (h : History). h.log) is) sized (known_asks direction.beginning) first a.places direction.tracker direction.reassembly a.received;
            silent = λ id silent. absurd (cc);
          }
          );
    }

-- ---- a step that ends no reset

module _ (sized : Bool) (first : ℕ) (old : Direction) (small : first < 2 ^ 32) (opened : ℕ → Bool) (asked : ℕ → EpochBounds) (cuts : ℕ → List Cut) (d : DeliversSo sized first old opened asked cuts) where
  abbrev pub stands : Stands first old
  stands = d.goes.stands

  -- what was sent since the last reset of a stream was queued since, still
  pub since_later : (direction : Direction) (after : Stands first direction) (asked' : ℕ → EpochBounds) (cuts' : ℕ → List Cut) (out left : ℕ) (c : Continues stands.history after.history old.queues.queue.streams direction.queues.queue.streams out left)
      → ((id : ℕ) → SendsByEpoch (length direction.queued) after.history direction.queues.queue id (asked' id)) → AreBehind direction.queues.queue.streams asked' cuts'
      → (id : ℕ) → ComeSince stands.history id (cuts' id) → ComeSince after.history id (cuts' id)
  since_later direction after asked' cuts' out left c sends behind id since cut has n f at on current =
      elim (behind id cut has) [
        | inl low ↦ (let from = (sends id).from.sent n f at on current in omega (arith, low, from))
        | inr p ↦
            since cut has n f (not_new c.more stands.history.log direction.queues.queue.streams id n f c.kept p.handed on (ap (λ (l : List Slot). at_place n l) (sym c.log) ∙ at)) on
            (subst (λ (floors : ℕ → Bool → ℕ). floors f.message.stream f.message.is_unordered ≤ f.mid) c.floors current)
      ]

  -- a step in which no reset ends
  unfoldable pub further : (direction : Direction) (few : length direction.queued < 2 ^ 64) (step : DirectionStep old direction) (cuts' : ℕ → List Cut) → ((id : ℕ) (cut : Cut) → HasEntry cut (cuts id) → HasEntry cut (cuts' id)) → EndsNone old direction step
      → (old.queues.queue.is_interleaved ≡ true → AreBehind old.queues.queue.streams asked cuts')
      → (length stands.history.log < 2 ^ 31 → old.queues.queue.is_interleaved ≡ true → old.beginning.from_zero ≡ true
      → Arrives (watch_of sized (known_asks old.beginning) cuts') first stands.history direction.queued direction.read direction.tracker direction.reassembly old.queues.queue.streams)
      → DeliversSo sized first direction opened (asked_after old direction step asked) cuts'
  further direction few step cuts' grows ends behind arrives =
      let g = goes_further first old small opened asked d.goes direction few step in
      let c : Continues stands.history g.stands.history old.queues.queue.streams direction.queues.queue.streams old.asking.out direction.asking.out = goes_continues first old small opened asked d.goes direction few step ends in
      let k = step_keeps old direction step ends in
      let after : direction.queues.queue.is_interleaved ≡ true → AreBehind direction.queues.queue.streams (asked_after old direction step asked) cuts' =
      λ interleaved. behind_later old.queues.queue.streams direction.queues.queue.streams asked (asked_after old direction step asked) cuts' c.stay (asked_keeps old direction step asked ends) (behind (sym k.kind ∙ interleaved)) in
      record {
        goes = g;
        keeps = keeps_further first old small opened asked d.goes d.keeps direction few step;
        named = c.named d.named;
        unended = λ interleaved. k.unended (d.unended (sym k.kind ∙ interleaved));
        zero = λ interleaved from id. subst (λ (floors : ℕ → Bool → ℕ). AreFloorsAtZero floors id) (sym c.floors) (d.zero (sym k.kind ∙ interleaved) (sym k.start ∙ from) id);
        behind = after;
        ended_cut = λ id. subst (λ (b : Beginning). ((asked_after old direction step asked id).ended ≡ 0) ⊎ IsEndedCut (is_cut_whole sized b id) (cuts' id) (asked_after old direction step asked id).ended) (sym (same_beginning old direction step))
            (subst (λ (k : ℕ). (k ≡ 0) ⊎ IsEndedCut (is_cut_whole sized old.beginning id) (cuts' id) k) (sym ((asked_keeps old direction step asked ends).ended id))
            (elim (d.ended_cut id) [ inl none ↦ inl none | inr e ↦ inr (record { cut = e.cut; has = grows id e.cut e.has; place_is = e.place_is; whole_is = e.whole_is }) ]));
        arrives = λ little interleaved from. (
            let sizes : length g.stands.history.log ≡ length (c.more ++ stands.history.log) = ap (λ (l : List Slot). length l) c.log in
            let before : length stands.history.log < 2 ^ 31 = omega (arith, little, sizes, length-append c.more stands.history.log) in
            let was : old.queues.queue.is_interleaved ≡ true = sym k.kind ∙ interleaved in
            subst (λ (b : Beginning). Arrives (watch_of sized (known_asks b) cuts') first g.stands.history direction.queued direction.read direction.tracker direction.reassembly direction.queues.queue.streams) (sym (same_beginning old direction step))
            (arrives_later (watch_of sized (known_asks old.beginning) cuts') first stands.history g.stands.history old.queues.queue.streams direction.queues.queue.streams old.asking.out direction.asking.out c direction.queued [] direction.read direction.tracker direction.reassembly
            (arrives before was (sym k.start ∙ from)) (λ id loud. since_later direction g.stands (asked_after old direction step asked) cuts' old.asking.out direction.asking.out c (g.by_epoch interleaved) (after interleaved) id))
            );
      }

  -- where none is performed either
  unfoldable pub further_same : (direction : Direction) (few : length direction.queued < 2 ^ 64) (step : DirectionStep old direction) → EndsNone old direction step
      → (length stands.history.log < 2 ^ 31 → sized ≡ true → ((first + (2 ^ 32 - 1)) % 2 ^ 32 + old.acknowledged ≤ old.tracker.cumulative) × (old.reassembly.max_size ≤ 2 ^ 63) × IsLastAssigned stands.history first old.reassembly.deferral × IsNamedWaiting old.reassembly.deferral) → DeliversSo sized first direction opened (asked_after old direction step asked) cuts
  further_same direction few step ends covered =
      further direction few step cuts (λ id cut has. has) ends d.behind
      (λ before interleaved from. arrives_on (watch_of sized (known_asks old.beginning) cuts) first old small stands (goes_in_turn first old small opened asked d.goes d.keeps interleaved) before interleaved direction step ends d.named (d.unended interleaved) (λ id known. covered before known) (d.arrives before interleaved from))
