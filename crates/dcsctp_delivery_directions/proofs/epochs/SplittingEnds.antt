-- A reset ends in a run in which requests to reset streams end in turn.
use Rattle.dcsctp_delivery_directions.specs.directions.Directions.{is_in_turn}
use Rattle.std.proofs.Common.{◌≡◌, ℕ, Bool, true, false, ◌<◌, ◌≤◌, ◌^◌, List, length, refl, sym, ◌∙◌, ap, arith, subst, inl, inr}
use Rattle.std.specs.Prelude.{◌⊎◌, Option, None, Some, if◌then◌else◌}
use Rattle.dcsctp_spec.specs.queues.OwnResets.{queue_committed}
use Rattle.dcsctp_delivery_directions.specs.sending.Places.{at_place}
use Rattle.dcsctp_delivery_directions.specs.sending.Log.{Slot, History}
use Rattle.dcsctp_delivery_directions.specs.sending.Numbers.{stream_named, is_handed_out}
use Rattle.dcsctp_delivery_directions.specs.directions.Directions.{Direction, all_ended, assigned_count, commits}
use Rattle.dcsctp_delivery_directions.proofs.receiving.Clearing.{behind}
use Rattle.dcsctp_delivery_directions.proofs.directions.Queued.{commits_by, commits_plain, stepped_commits, stepped_queue}
use Rattle.dcsctp_delivery_directions.proofs.directions.Standing.{Stands}
use Rattle.dcsctp_delivery_directions.proofs.directions.Steps.{stepped}
use Rattle.dcsctp_delivery_directions.specs.epochs.Sending.{EpochBounds, newest_ended, asked_ended}
use Rattle.dcsctp_delivery_directions.specs.epochs.InTurn.{starts_ended}
use Rattle.dcsctp_delivery_directions.proofs.epochs.AskedBounds.{asked_on}
use Rattle.dcsctp_delivery_directions.proofs.epochs.AskedSending.{goes_asked, ended_log}
use Rattle.dcsctp_delivery_directions.proofs.epochs.Behind.{AreBehind, IsPending}
use Rattle.dcsctp_delivery_directions.proofs.epochs.DatedSteps.{ArrivesDated}
use Rattle.dcsctp_delivery_directions.proofs.epochs.Splitting.{SplitsSo, starts_low}

module _ (first : ℕ) (old : Direction) (small : first < 2 ^ 32) (opened : ℕ → Bool) (begun : ℕ → ℕ) (asked : ℕ → EpochBounds) (d : SplitsSo first old opened begun asked) where
  abbrev s : Stands first old
  s = d.goes.stands

  -- what is sent next was queued since
  ended_behind : AreBehind (queue_committed old.queues.queue).streams (asked_ended old.queues.queue.streams asked) d.cuts
  ended_behind id x has = inl (go (is_handed_out (stream_named id old.queues.queue.streams).pause) refl (asked id).newest refl)
    where
      by_newest : (o : Option ℕ) → (asked id).newest ≡ o → (x.place ≤ (asked id).ended) ⊎ IsPending old.queues.queue.streams id (asked id) x → x.place ≤ (newest_ended (record (asked id) { newest = o })).ended
      by_newest None is behind =
          elim behind [
            | inl low ↦ low
            | inr p ↦ absurd (let no : None ≡ Some p.place = sym is ∙ p.newest in cc)
          ]
      by_newest (Some place) is behind =
          elim behind [
            | inl low ↦ (let high = ((d.goes.each id).newest place is).0 in omega (arith, low, high))
            | inr p ↦ (let both : Some place ≡ Some p.place = sym is ∙ p.newest in let same : place ≡ p.place = cc in let below = p.below in omega (arith, below, same))
          ]

      go : (b : Bool) → is_handed_out (stream_named id old.queues.queue.streams).pause ≡ b → (o : Option ℕ) → (asked id).newest ≡ o → x.place ≤ (if b then newest_ended (record (asked id) { newest = o }) else asked id).ended
      go false shut o is = elim (d.behind id x has) [ inl low ↦ low | inr p ↦ absurd (let no : true ≡ false = sym p.handed ∙ shut in cc) ]
      go true handed o is = by_newest o is (d.behind id x has)

  -- Without interleaving it changes nothing of the history.
  ended_same : (b : Bool) (is : old.queues.queue.is_interleaved ≡ b) (go_on : is_in_turn old ≡ true → (old.asking.out ≤ 1) × (old.asking.is_performed ≡ true)) → b ≡ false → (commits_by first old s b is go_on).history ≡ s.history
  unfolding commits_by commits_plain stepped_queue
  ended_same true is go_on plain = absurd (cc)
  ended_same false is go_on plain = refl

  plain_same : (few : length old.queued < 2 ^ 64) (go_on : is_in_turn old ≡ true → (old.asking.out ≤ 1) × (old.asking.is_performed ≡ true)) → old.queues.queue.is_interleaved ≡ false
      → (stepped first old small s _ few (commits go_on)).history ≡ s.history
  unfolding stepped stepped_commits
  plain_same few go_on plain = ended_same old.queues.queue.is_interleaved refl go_on plain

  pub ending : (few : length old.queued < 2 ^ 64) (go_on : is_in_turn old ≡ true → (old.asking.out ≤ 1) × (old.asking.is_performed ≡ true)) → old.asking.is_performed ≡ true
      → SplitsSo first (record old { queues = record old.queues { queue = queue_committed old.queues.queue }; asking = all_ended old.asking }) opened (starts_ended old.queues.queue.streams (assigned_count old) begun) (asked_ended old.queues.queue.streams asked)
  unfolding goes_asked
  ending few go_on performed =
      let same = ended_log first old small s few go_on in
      record {
        goes = goes_asked first old small opened begun asked d.goes _ few (commits go_on);
        named = λ mark earlier is some. absurd (omega (arith, some));
        unended = λ unknown. absurd (let clash : true ≡ false = sym performed ∙ unknown in cc);
        started = starts_low old _ (commits go_on) begun d.started;
        cuts = d.cuts;
        behind = ended_behind;
        each = λ id x has. (
            let k = d.each id x has in
            record {
              place_low = k.place_low;
              index_low = k.index_low;
              bounded = record {
                bound = k.bounded.bound;
                passed = λ little. k.bounded.passed (let size : length (stepped first old small s _ few (commits go_on)).history.log ≡ length s.history.log = ap (λ (l : List Slot). length l) same in omega (arith, little, size));
                since = λ n f at. k.bounded.since n f (ap (λ (l : List Slot). at_place n l) (sym same) ∙ at);
              };
            }
            );
        sorted = d.sorted;
        are = asked_on old _ (commits go_on) asked d.are;
        have = d.have;
        arrives = λ little plain. (
            let size : length (stepped first old small s _ few (commits go_on)).history.log ≡ length s.history.log = ap (λ (l : List Slot). length l) same in
            subst (λ (h : History). ArrivesDated first h d.cuts old.queued old.read old.tracker old.reassembly) (sym (plain_same few go_on plain)) (d.arrives (omega (arith, little, size)) plain)
            );
      }
