-- With interleaving what is read of a stream is separated by its resets, as it was queued.
use Rattle.dcsctp_delivery_directions.specs.directions.Directions.{is_in_turn}
use Rattle.dcsctp_delivery_directions.proofs.directions.InTurn.{turns_of}
use Rattle.std.proofs.Common.{◌≡◌, ℕ, Bool, true, false, ◌<◌, ◌≤◌, ◌%◌, ◌^◌, List, [], ◌∷◌, ◌++◌, length, refl, sym, ◌∙◌, ap, arith, subst, inl, inr, ◌+◌, ◌-◌, nat_le, length-append}
use Rattle.std.specs.Prelude.{◌⊎◌, Option, None, Some, if◌then◌else◌}
use Rattle.dcsctp_spec.specs.types.declared.options.Options.{Options}
use Rattle.dcsctp_spec.specs.queues.Incoming.{stream_on}
use Rattle.dcsctp_spec.specs.types.queues.Messages.{MessageContent}
use Rattle.dcsctp_spec.specs.queues.OwnResets.{queue_committed}
use Rattle.dcsctp_delivery_directions.specs.sending.Log.{Message, Slot, History, sent_messages}
use Rattle.dcsctp_delivery_directions.specs.sending.Numbers.{is_handed_out, stream_named, AreFloorsAtZero}
use Rattle.dcsctp_delivery_directions.specs.sending.Losing.{WasSentOf}
use Rattle.dcsctp_delivery_directions.specs.sending.Queueing.{floors_raised}
use Rattle.dcsctp_delivery_directions.proofs.sending.Chunks.{kinds_of}
use Rattle.dcsctp_delivery_directions.proofs.sending.Counting.{told}
use Rattle.dcsctp_delivery_directions.proofs.sending.Places.{at_below}
use Rattle.dcsctp_delivery_directions.specs.sending.Places.{HasEntry}
use Rattle.dcsctp_delivery_directions.proofs.receiving.Distinct.{has_left, has_right, has_either}
use Rattle.dcsctp_delivery_directions.specs.receiving.Ready.{AreDistinct, WereQueued}
use Rattle.dcsctp_delivery_directions.specs.directions.Directions.{Direction, assigned_count, Asking, all_ended, BeginsDirection, DirectionRun, begins, goes_on, starts, DirectionStep, queues, sets, prepares, commits, rolls_back, flushes, resends, resends_nothing, speaks, asks_again, renews, turns_aside, acknowledges, loses, receives, forwards, receives_interleaved, forwards_interleaved, tracks, defers, performs, performs_earlier, resets, takes}
use Rattle.dcsctp_delivery_directions.proofs.directions.Continuing.{begun_history, started_history}
use Rattle.dcsctp_delivery_directions.proofs.directions.Directions.{begun_stands, started_stands}
use Rattle.dcsctp_delivery_directions.proofs.directions.Reached.{acknowledgements_are_true}
use Rattle.dcsctp_delivery_directions.proofs.directions.Standing.{Stands}
use Rattle.dcsctp_delivery_directions.proofs.directions.Steps.{more_queued}
use Rattle.dcsctp_delivery_directions.specs.order.Incoming.{IncomingOrdered}
use Rattle.dcsctp_delivery_directions.specs.order.Epochs.{SendsEpochsInTurn}
use Rattle.dcsctp_delivery_directions.specs.order.Queue.{IsOrderedOn, ComeInOrder, Cut, AreSeparated, LeaveNoGapBefore}
use Rattle.dcsctp_delivery_directions.specs.order.Reading.{CountsFromZero}
use Rattle.dcsctp_delivery_directions.specs.order.Received.{ReassemblesInOrder, none_handled, some_handled, IsLastAssigned, IsNamedWaiting}
use Rattle.dcsctp_delivery_directions.proofs.order.Beginning.{waits_from}
use Rattle.dcsctp_delivery_directions.proofs.order.Directions.{raised_zero}
use Rattle.dcsctp_delivery_directions.proofs.order.Follows.{counts_from_zero}
use Rattle.dcsctp_delivery_directions.proofs.order.Incoming.{quiet_where, separated_where, no_gap_where, ordered_was_read}
use Rattle.dcsctp_delivery_directions.proofs.order.Quiet.{Arrives}
use Rattle.dcsctp_delivery_directions.proofs.order.Separated.{front_separate, taken_front}
use Rattle.dcsctp_delivery_directions.proofs.order.Steps.{committing_arrives}
use Rattle.dcsctp_delivery_directions.specs.epochs.Sending.{EpochBounds, newest_ended, asked_ended}
use Rattle.dcsctp_delivery_directions.specs.epochs.Directions.{asked_after, asked_of, opened_of}
use Rattle.dcsctp_delivery_directions.specs.epochs.Cuts.{cuts_after, cuts_of, known_asks, AreDeliveredByEpoch, cuts_ended, cut_added, is_cut_whole}
use Rattle.dcsctp_delivery_directions.proofs.epochs.KeptRuns.{keeps_further, goes_in_turn}
use Rattle.dcsctp_delivery_directions.proofs.epochs.SendingRuns.{goes_further, goes_ends}
use Rattle.dcsctp_delivery_directions.proofs.epochs.Behind.{watch_of, IsPending, AreBehind}
use Rattle.dcsctp_delivery_directions.proofs.epochs.Delivering.{DeliversSo, delivers_new, further, further_same, IsEndedCut}
use Rattle.dcsctp_delivery_directions.proofs.epochs.Window.{window_of}
use Rattle.dcsctp_delivery_directions.proofs.epochs.Deferred.{deferral_known}
use Rattle.dcsctp_delivery_directions.proofs.epochs.Performing.{added, added_behind, added_grows, recut, sent_leaves, newest_separates, handed_halts, were_length}
use Rattle.std.proofs.lemmas.Bool.Decides.{nat_tests}
use Rattle.dcsctp_delivery_directions.proofs.directions.Receiving.{known_log, known_kinds}
use Rattle.dcsctp_delivery_directions.proofs.order.EndedRead.{ended_are_read}

-- ---- a reset ends

module _ (sized : Bool) (first : ℕ) (old : Direction) (small : first < 2 ^ 32) (opened : ℕ → Bool) (asked : ℕ → EpochBounds) (cuts : ℕ → List Cut) (d : DeliversSo sized first old opened asked cuts) where
  abbrev stands : Stands first old
  stands = d.goes.stands

  abbrev index : ℕ
  index = length old.read + length old.reassembly.incoming.ready

  abbrev ended_cuts : ℕ → List Cut
  ended_cuts = cuts_ended old.queues.queue.streams index (is_cut_whole sized old.beginning) asked cuts

  ended_behind : old.queues.queue.is_interleaved ≡ true → AreBehind (queue_committed old.queues.queue).streams (asked_ended old.queues.queue.streams asked) ended_cuts
  ended_behind interleaved id cut has =
      inl (go (is_handed_out (stream_named id old.queues.queue.streams).pause) refl (asked id).newest refl has)
    where
      up : (place : ℕ) → (asked id).newest ≡ Some place → (asked id).ended ≤ place
      up place is = ((d.goes.by_epoch interleaved id).newest place is).0

      by_newest : (o : Option ℕ) → (asked id).newest ≡ o → (cut.place ≤ (asked id).ended) ⊎ IsPending old.queues.queue.streams id (asked id) cut → cut.place ≤ (newest_ended (record (asked id) { newest = o })).ended
      by_newest None is behind =
          elim behind [
            | inl low ↦ low
            | inr p ↦ absurd (let no : None ≡ Some p.place = sym is ∙ p.newest in cc)
          ]
      by_newest (Some place) is behind =
          elim behind [
            | inl low ↦ (let high = up place is in omega (arith, low, high))
            | inr p ↦ (let both : Some place ≡ Some p.place = sym is ∙ p.newest in let same : place ≡ p.place = cc in let below = p.below in omega (arith, below, same))
          ]

      go : (b : Bool) → is_handed_out (stream_named id old.queues.queue.streams).pause ≡ b → (o : Option ℕ) → (asked id).newest ≡ o → HasEntry cut (if b then cut_added index (is_cut_whole sized old.beginning id) o (cuts id) else cuts id)
          → cut.place ≤ (if b then newest_ended (record (asked id) { newest = o }) else asked id).ended
      go false shut o is has' = elim (d.behind interleaved id cut has') [ inl low ↦ low | inr p ↦ absurd (let no : true ≡ false = sym p.handed ∙ shut in cc) ]
      go true handed None is has' = by_newest None is (d.behind interleaved id cut has')
      go true handed (Some place) is has' =
          elim has' [
            | inl e ↦ (let same : cut.place ≡ place = ap (λ (c : Cut). c.place) e in omega (arith, same))
            | inr t ↦ by_newest (Some place) is (d.behind interleaved id cut t)
          ]

  -- the reset that has ended last is a cut
  ends_cut : (id : ℕ) → ((asked_ended old.queues.queue.streams asked id).ended ≡ 0) ⊎ IsEndedCut (is_cut_whole sized old.beginning id) (ended_cuts id) (asked_ended old.queues.queue.streams asked id).ended
  ends_cut id = go (is_handed_out (stream_named id old.queues.queue.streams).pause) (asked id).newest
    where
      go : (b : Bool) (o : Option ℕ) → ((if b then newest_ended (record (asked id) { newest = o }) else asked id).ended ≡ 0)
          ⊎ IsEndedCut (is_cut_whole sized old.beginning id) (if b then cut_added index (is_cut_whole sized old.beginning id) o (cuts id) else cuts id) (if b then newest_ended (record (asked id) { newest = o }) else asked id).ended
      go false o = d.ended_cut id
      go true None = d.ended_cut id
      go true (Some place) = inr (record { cut = record { index = index; place = place; is_whole = is_cut_whole sized old.beginning id place }; has = inl refl; place_is = refl; whole_is = refl })

  shut_same : (id : ℕ) → is_handed_out (stream_named id old.queues.queue.streams).pause ≡ false → ended_cuts id ≡ cuts id
  shut_same id shut = ap (λ (b : Bool). if b then cut_added index (is_cut_whole sized old.beginning id) (asked id).newest (cuts id) else cuts id) shut

  module _ (before : length stands.history.log < 2 ^ 31) (interleaved : old.queues.queue.is_interleaved ≡ true) (from : old.beginning.from_zero ≡ true) (one : old.asking.out ≤ 1) (performed : old.asking.is_performed ≡ true) (window : sized ≡ true → old.reassembly.max_size ≤ 2 ^ 63) where
    abbrev arrived : Arrives (watch_of sized (known_asks old.beginning) cuts) first stands.history old.queued old.read old.tracker old.reassembly old.queues.queue.streams
    arrived = d.arrives before interleaved from

    counts_of : (id : ℕ) → CountsFromZero stands.history id
    counts_of id = counts_from_zero old.queued stands.history id stands.queues.cut (known_log first old small stands before) (known_kinds first old small stands interleaved) (d.zero interleaved from id)

    -- it separates what was queued before
    ends_separate : (got : List ℕ) → got ≡ arrived.received.got → (base : ℕ) (o : IncomingOrdered (watch_of sized (known_asks old.beginning) cuts) (sent_messages old.queued stands.history) arrived.quiet got base arrived.places old.reassembly.incoming) (id : ℕ)
        → is_handed_out (stream_named id old.queues.queue.streams).pause ≡ true → AreSeparated sized (known_asks old.beginning id) old.queued id (ended_cuts id) (arrived.places ++ o.holds.places)
    ends_separate got same base o id handed =
        subst (λ (b : Bool). AreSeparated sized (known_asks old.beginning id) old.queued id (if b then cut_added index (is_cut_whole sized old.beginning id) (asked id).newest (cuts id) else cuts id) (arrived.places ++ o.holds.places)) (sym handed) (go (asked id).newest refl)
      where
        was : AreSeparated sized (known_asks old.beginning id) old.queued id (cuts id) (arrived.places ++ o.holds.places)
        was = separated_where (watch_of sized (known_asks old.beginning) cuts id) old.queued stands.history (arrived.quiet id) id (arrived.places ++ o.holds.places) (o.holds.waits id) (stream_on id old.reassembly.incoming.streams) (o.order id (counts_of id))

        go : (newest : Option ℕ) → (asked id).newest ≡ newest → AreSeparated sized (known_asks old.beginning id) old.queued id (cut_added index (is_cut_whole sized old.beginning id) newest (cuts id)) (arrived.places ++ o.holds.places)
        go None is = was
        go (Some place) is =
            newest_separates sized first old opened asked cuts d interleaved id got (arrived.places ++ o.holds.places) place index is (handed_halts sized first old opened asked cuts d interleaved id place handed is)
            (length-append arrived.places o.holds.places
            ∙ (let one = were_length old.queued arrived.places old.read arrived.were in let two = were_length old.queued o.holds.places old.reassembly.incoming.ready o.holds.were_queued in omega (arith, one, two))) o.holds.spent was
            (no_gap_where (watch_of sized (known_asks old.beginning) cuts id) old.queued stands.history (arrived.quiet id) id (arrived.places ++ o.holds.places) (o.holds.waits id) (stream_on id old.reassembly.incoming.streams) stands.queues.cut (counts_of id)
            (goes_in_turn first old small opened asked d.goes d.keeps interleaved id) (o.order id (counts_of id)))
            (λ knows. ended_are_read (watch_of sized (known_asks old.beginning) cuts) first old small stands before interleaved one performed (d.zero interleaved from) (λ id known. window known) arrived got same base o id handed knows)

  ends : (few : length old.queued < 2 ^ 64) (go_on : is_in_turn old ≡ true → (old.asking.out ≤ 1) × (old.asking.is_performed ≡ true)) → (length stands.history.log < 2 ^ 31 → sized ≡ true → old.reassembly.max_size ≤ 2 ^ 63)
      → DeliversSo sized first (record old { queues = record old.queues { queue = queue_committed old.queues.queue }; asking = all_ended old.asking }) opened (asked_ended old.queues.queue.streams asked) ended_cuts
  ends few go_on window =
      record {
        goes = goes_further first old small opened asked d.goes _ few (commits go_on);
        keeps = keeps_further first old small opened asked d.goes d.keeps _ few (commits go_on);
        named = λ mark earlier is some. absurd (omega (arith, some));
        unended = λ interleaved unknown. absurd (let clash : true ≡ false = sym (go_on (turns_of old interleaved)).1 ∙ unknown in cc);
        zero = λ interleaved from id.
            subst (λ (h : History). AreFloorsAtZero h.floors id) (sym (raises interleaved))
            (raised_zero (is_handed_out (stream_named id old.queues.queue.streams).pause) (stands.history.floors id false) (stands.history.floors id true) (length stands.history.log) (d.zero interleaved from id));
        behind = ended_behind;
        ended_cut = ends_cut;
        arrives = λ little interleaved from. (
            let before : length stands.history.log < 2 ^ 31 = subst (λ (h : History). length h.log < 2 ^ 31) (raises interleaved) little in
            subst (λ (h : History). Arrives (watch_of sized (known_asks old.beginning) ended_cuts) first h old.queued old.read old.tracker old.reassembly (queue_committed old.queues.queue).streams) (sym (raises interleaved))
            (committing_arrives (watch_of sized (known_asks old.beginning) cuts) first old small stands (goes_in_turn first old small opened asked d.goes d.keeps interleaved) before interleaved (go_on (turns_of old interleaved)).0 (go_on (turns_of old interleaved)).1 (d.zero interleaved from) (d.arrives before interleaved from) ended_cuts shut_same
            (ends_separate before interleaved from (go_on (turns_of old interleaved)).0 (go_on (turns_of old interleaved)).1 (window before)))
            );
      }
    where
      raises : old.queues.queue.is_interleaved ≡ true → (goes_further first old small opened asked d.goes (record old { queues = record old.queues { queue = queue_committed old.queues.queue }; asking = all_ended old.asking }) few (commits go_on)).stands.history
          ≡ floors_raised old.queues.queue.streams stands.history
      raises interleaved = goes_ends first old small opened asked d.goes few go_on interleaved

  -- ---- each step

  pub delivers_on : (direction : Direction) (few : length direction.queued < 2 ^ 64) (step : DirectionStep old direction) → (length stands.history.log < 2 ^ 31 → sized ≡ true → ((first + (2 ^ 32 - 1)) % 2 ^ 32 + old.acknowledged ≤ old.tracker.cumulative) × (old.reassembly.max_size ≤ 2 ^ 63) × IsLastAssigned stands.history first old.reassembly.deferral × IsNamedWaiting old.reassembly.deferral) → DeliversSo sized first direction opened (asked_after old direction step asked) (cuts_after sized old direction step asked cuts)
  delivers_on _ few (commits go_on) covered = ends few go_on (λ before known. (covered before known).1)
  delivers_on _ few (rolls_back unmixed) covered =
      record {
        goes = goes_further first old small opened asked d.goes _ few (rolls_back unmixed);
        keeps = keeps_further first old small opened asked d.goes d.keeps _ few (rolls_back unmixed);
        named = λ mark earlier is some. absurd (omega (arith, some));
        unended = λ interleaved. absurd (let clash : true ≡ false = sym (turns_of old interleaved) ∙ unmixed in cc);
        zero = λ interleaved. absurd (let clash : true ≡ false = sym (turns_of old interleaved) ∙ unmixed in cc);
        behind = λ interleaved. absurd (let clash : true ≡ false = sym (turns_of old interleaved) ∙ unmixed in cc);
        ended_cut = d.ended_cut;
        arrives = λ little interleaved. absurd (let clash : true ≡ false = sym (turns_of old interleaved) ∙ unmixed in cc);
      }
  delivers_on _ few (performs newest earlier new asks unknown reached own leaves) covered =
      further sized first old small opened asked cuts d _ few (performs newest earlier new asks unknown reached own leaves) (added sized first old small opened asked cuts d newest earlier new asks unknown reached own leaves) (added_grows sized first old small opened asked cuts d newest earlier new asks unknown reached own leaves) tt (added_behind sized first old small opened asked cuts d newest earlier new asks unknown reached own leaves)
      (λ before interleaved from. recut sized first old small opened asked cuts d newest earlier new asks unknown reached own leaves before interleaved from (λ known. (covered before known).1))
  delivers_on _ few (performs_earlier newest earlier new asks unknown reached own leaves) covered =
      further sized first old small opened asked cuts d _ few (performs_earlier newest earlier new asks unknown reached own leaves) (added sized first old small opened asked cuts d newest earlier new asks unknown reached own leaves) (added_grows sized first old small opened asked cuts d newest earlier new asks unknown reached own leaves) tt (added_behind sized first old small opened asked cuts d newest earlier new asks unknown reached own leaves)
      (λ before interleaved from. recut sized first old small opened asked cuts d newest earlier new asks unknown reached own leaves before interleaved from (λ known. (covered before known).1))
  delivers_on _ few (queues now sending fits some) covered = further_same sized first old small opened asked cuts d _ few (queues now sending fits some) tt covered
  delivers_on _ few (sets setting fits) covered = further_same sized first old small opened asked cuts d _ few (sets setting fits) tt covered
  delivers_on _ few (prepares ids fit kept) covered = further_same sized first old small opened asked cuts d _ few (prepares ids fit kept) tt covered
  delivers_on _ few (flushes e draft answers same no_data allowed) covered = further_same sized first old small opened asked cuts d _ few (flushes e draft answers same no_data allowed) tt covered
  delivers_on _ few (resends now room transfer left tsns chunks emission known sends are contents) covered = further_same sized first old small opened asked cuts d _ few (resends now room transfer left tsns chunks emission known sends are contents) tt covered
  delivers_on _ few (resends_nothing now room transfer left tsns known sends) covered = further_same sized first old small opened asked cuts d _ few (resends_nothing now room transfer left tsns known sends) tt covered
  delivers_on _ few (speaks emission no_data) covered = further_same sized first old small opened asked cuts d _ few (speaks emission no_data) tt covered
  delivers_on _ few (asks_again emission begun was contents) covered = further_same sized first old small opened asked cuts d _ few (asks_again emission begun was contents) tt covered
  delivers_on _ few (renews emission newest earlier number asks out contents) covered = further_same sized first old small opened asked cuts d _ few (renews emission newest earlier number asks out contents) tt covered
  delivers_on _ few (turns_aside transfer new known same) covered = further_same sized first old small opened asked cuts d _ few (turns_aside transfer new known same) tt covered
  delivers_on _ few (acknowledges now sack transfer new known valid reached does) covered = further_same sized first old small opened asked cuts d _ few (acknowledges now sack transfer new known valid reached does) tt covered
  delivers_on _ few (loses now transfer known) covered = further_same sized first old small opened asked cuts d _ few (loses now transfer known) tt covered
  delivers_on _ few (receives emission chunk theirs new was holds some same same' does) covered = further_same sized first old small opened asked cuts d _ few (receives emission chunk theirs new was holds some same same' does) tt covered
  delivers_on _ few (forwards emission tsn streams theirs new was holds same same' does) covered = further_same sized first old small opened asked cuts d _ few (forwards emission tsn streams theirs new was holds same same' does) tt covered
  delivers_on _ few (receives_interleaved emission chunk theirs new was holds some same same' does) covered = further_same sized first old small opened asked cuts d _ few (receives_interleaved emission chunk theirs new was holds some same same' does) tt covered
  delivers_on _ few (forwards_interleaved emission tsn streams theirs new was holds same same' does) covered = further_same sized first old small opened asked cuts d _ few (forwards_interleaved emission tsn streams theirs new was holds same same' does) tt covered
  delivers_on _ few (tracks new cumulative ranges) covered = further_same sized first old small opened asked cuts d _ few (tracks new cumulative ranges) tt covered
  delivers_on _ few (defers last_tsn streams some) covered = further_same sized first old small opened asked cuts d _ few (defers last_tsn streams some) tt covered
  delivers_on _ few (resets streams new unmixed some leaves) covered = further_same sized first old small opened asked cuts d _ few (resets streams new unmixed some leaves) tt covered
  delivers_on _ few (takes message messages ready) covered = further_same sized first old small opened asked cuts d _ few (takes message messages ready) tt covered

  -- its history is that of the step
  pub delivers_goes : (direction : Direction) (few : length direction.queued < 2 ^ 64) (step : DirectionStep old direction) → (covered : (length stands.history.log < 2 ^ 31 → sized ≡ true → ((first + (2 ^ 32 - 1)) % 2 ^ 32 + old.acknowledged ≤ old.tracker.cumulative) × (old.reassembly.max_size ≤ 2 ^ 63) × IsLastAssigned stands.history first old.reassembly.deferral × IsNamedWaiting old.reassembly.deferral))
      → (delivers_on direction few step covered).goes ≡ goes_further first old small opened asked d.goes direction few step
  unfolding delivers_on further further_same ends
  delivers_goes _ few (commits go_on) covered = refl
  delivers_goes _ few (rolls_back unmixed) covered = refl
  delivers_goes _ few (performs newest earlier new asks unknown reached own leaves) covered = refl
  delivers_goes _ few (performs_earlier newest earlier new asks unknown reached own leaves) covered = refl
  delivers_goes _ few (queues now sending fits some) covered = refl
  delivers_goes _ few (sets setting fits) covered = refl
  delivers_goes _ few (prepares ids fit kept) covered = refl
  delivers_goes _ few (flushes e draft answers same no_data allowed) covered = refl
  delivers_goes _ few (resends now room transfer left tsns chunks emission known sends are contents) covered = refl
  delivers_goes _ few (resends_nothing now room transfer left tsns known sends) covered = refl
  delivers_goes _ few (speaks emission no_data) covered = refl
  delivers_goes _ few (asks_again emission begun was contents) covered = refl
  delivers_goes _ few (renews emission newest earlier number asks out contents) covered = refl
  delivers_goes _ few (turns_aside transfer new known same) covered = refl
  delivers_goes _ few (acknowledges now sack transfer new known valid reached does) covered = refl
  delivers_goes _ few (loses now transfer known) covered = refl
  delivers_goes _ few (receives emission chunk theirs new was holds some same same' does) covered = refl
  delivers_goes _ few (forwards emission tsn streams theirs new was holds same same' does) covered = refl
  delivers_goes _ few (receives_interleaved emission chunk theirs new was holds some same same' does) covered = refl
  delivers_goes _ few (forwards_interleaved emission tsn streams theirs new was holds same same' does) covered = refl
  delivers_goes _ few (tracks new cumulative ranges) covered = refl
  delivers_goes _ few (defers last_tsn streams some) covered = refl
  delivers_goes _ few (resets streams new unmixed some leaves) covered = refl
  delivers_goes _ few (takes message messages ready) covered = refl

-- ---- a run

pub run_delivers : (options : Options) (first size : ℕ) (direction : Direction) → first < 2 ^ 32 → length direction.queued < 2 ^ 64 → (run : DirectionRun options first size direction)
    → DeliversSo (nat_le size (2 ^ 63)) first direction (opened_of options first size direction run) (asked_of options first size direction run) (cuts_of options first size direction run)
run_delivers options first size _ small few (begins direction b) =
    let w = waits_from direction.queued direction.queues.queue b.queues in
    let b' : BeginsDirection options first size direction = record b { queues = w.waits } in
    delivers_new (nat_le size (2 ^ 63)) first direction (begun_stands options first size direction small b') w.waits.floors (begun_history options first size direction small b') (ap (λ (a : Asking). a.out) b.asking) (ap (λ (a : Asking). a.requests) b.asking)
    (λ from. w.zero (b.begun.zero from)) b.begun.whole
run_delivers options first size _ small few (goes_on old direction run step) =
    delivers_on (nat_le size (2 ^ 63)) first old small (opened_of options first size old run) (asked_of options first size old run) (cuts_of options first size old run) (run_delivers options first size old small (omega (arith, few, more_queued old direction step)) run) direction few step
    (λ little known. (
    let count = (run_delivers options first size old small (omega (arith, few, more_queued old direction step)) run).goes.stands.count in
    let limit : size ≤ 2 ^ 63 = grind (arith, nat_tests, known) in
    let window = window_of options first size old run in
    let deferral = deferral_known options first size old run (run_delivers options first size old small (omega (arith, few, more_queued old direction step)) run).goes.stands in
    (acknowledgements_are_true options first size old run small (omega (arith, little, count)) (omega (arith, few, more_queued old direction step)), omega (arith, limit, window), deferral.0, deferral.1)
    ))
run_delivers options first size _ small few (starts old queued below beginning run awaited fit waits idle begun) =
    let none_queued : length old.queued ≡ 0 = ap (λ (l : List Message). length l) awaited.queued in
    let d = run_delivers options first size old small (omega (arith, none_queued)) run in
    let w = waits_from queued below.queue waits in
    let direction : Direction = record old { queued = queued; queues = below; prepared = []; beginning = beginning } in
    delivers_new (nat_le size (2 ^ 63)) first direction (started_stands first old queued below beginning d.goes.stands awaited small fit w.waits idle) w.waits.floors (started_history first old queued below beginning d.goes.stands awaited small fit w.waits idle)
    (ap (λ (a : Asking). a.out) awaited.asking) (ap (λ (a : Asking). a.requests) awaited.asking) (λ from. w.zero (begun.zero from)) begun.whole

-- What was read is the front of what became ready.
module _ (queued : List Message) (id : ℕ) where
  across : (xs ys : List ℕ) (x y : ℕ) → ComeInOrder queued id (xs ++ ys) → HasEntry x xs → HasEntry y ys → IsOrderedOn queued id x → IsOrderedOn queued id y → x < y
  across [] ys x y are has has' on on' = absurd has
  across (z ∷ xs) ys x y are has has' on on' =
      elim has [
        | inl e ↦ subst (λ (k : ℕ). k < y) (sym e) (are.0 y (has_right y xs ys has') (subst (λ (k : ℕ). IsOrderedOn queued id k) e on) on')
        | inr t ↦ across xs ys x y are.1 t has' on on'
      ]

before_front : (knows : Bool) (asks : ℕ → Bool) (queued : List Message) (id end : ℕ) (xs ys : List ℕ) → ComeInOrder queued id (xs ++ ys) → LeaveNoGapBefore knows asks queued id end (xs ++ ys) → LeaveNoGapBefore knows asks queued id end xs
before_front knows asks queued id end xs ys are gap earlier later has on on' spared less below one free =
    elim (has_either earlier xs ys (gap earlier later (has_left later xs ys has) on on' spared less below one free)) [
      | inl l ↦ l
      | inr r ↦ absurd (let more = across queued id xs ys later earlier are has r on on' in omega (arith, more, less))
    ]

-- What was read was sent, beside that.
pub record IsDeliveredAsSent (sized : Bool) (asks : ℕ → ℕ → Bool) (cuts : ℕ → List Cut) (queued : List Message) (log : List Slot) (read : List MessageContent) : Type 0 where
  pub delivered : AreDeliveredByEpoch sized asks cuts queued read
  pub sent : (place : ℕ) → HasEntry place delivered.ordered.delivered.places → WasSentOf log place

pub delivered_as_sent : (sized : Bool) (first : ℕ) (direction : Direction) (opened : ℕ → Bool) (asked : ℕ → EpochBounds) (cuts : ℕ → List Cut) (d : DeliversSo sized first direction opened asked cuts) → first < 2 ^ 32 → assigned_count direction < 2 ^ 31
    → direction.queues.queue.is_interleaved ≡ true → direction.beginning.from_zero ≡ true → IsDeliveredAsSent sized (known_asks direction.beginning) cuts direction.queued d.goes.stands.history.log direction.read
delivered_as_sent sized first direction opened asked cuts d small little interleaved from =
    let s = d.goes.stands in
    let count = s.count in
    let low : length s.history.log < 2 ^ 31 = omega (arith, count, little) in
    let a = d.arrives low interleaved from in
    let counts = λ (id : ℕ). counts_from_zero direction.queued s.history id s.queues.cut (told s.history direction.queues.queue s.queues.numbers low) (kinds_of s.queues.numbers (sym interleaved)) (d.zero interleaved from id) in
    go s a.quiet a.received.got a.places a.were a.once counts (goes_in_turn first direction small _ _ d.goes d.keeps interleaved) a.received.holds
  where
    read : (s : Stands first direction) (quiet : ℕ → Bool) (got : List ℕ) (base : ℕ) (places : List ℕ) → WereQueued direction.queued places direction.read → AreDistinct places → ((id : ℕ) → CountsFromZero s.history id) → ((id : ℕ) → SendsEpochsInTurn (known_asks direction.beginning id) direction.queued s.history id)
        → IncomingOrdered (watch_of sized (known_asks direction.beginning) cuts) (sent_messages direction.queued s.history) quiet got base places direction.reassembly.incoming → IsDeliveredAsSent sized (known_asks direction.beginning) cuts direction.queued s.history.log direction.read
    read s quiet got base places were once counts turns o =
        record {
          delivered = record {
            ordered = record {
              delivered = record { places = places; were_queued = were; once = once };
              in_order = λ id. ordered_was_read (watch_of sized (known_asks direction.beginning) cuts) direction.queued s.history quiet got base places direction.reassembly.incoming id (counts id) o;
            };
            epochs = λ id cut has. front_separate direction.queued id cut.index cut.place places o.holds.places (separated id cut has).separates;
            no_gaps = λ id cut has. before_front sized (known_asks direction.beginning id) direction.queued id cut.place places o.holds.places (in_order id) (separated id cut has).no_gap;
            before = λ id cut has. (separated id cut has).before;
            complete = λ id cut has whole low place on free below one. taken_front place cut.index places o.holds.places low ((separated id cut has).all whole place on free below one);
            no_gap = λ id. before_front sized (known_asks direction.beginning id) direction.queued id (length direction.queued) places o.holds.places (in_order id)
                (sent_leaves sized (known_asks direction.beginning id) direction.queued s.history id (places ++ o.holds.places) s.queues.cut
                (no_gap_where (watch_of sized (known_asks direction.beginning) cuts id) direction.queued s.history (quiet id) id (places ++ o.holds.places) (o.holds.waits id) (stream_on id direction.reassembly.incoming.streams) s.queues.cut (counts id) (turns id) (o.order id (counts id)))
                (length direction.queued) (λ n f at on. at_below f.place f.message direction.queued (s.queues.cut.pieces n f at).at));
          };
          sent = λ place has. (let is = o.holds.spent place (has_left place places o.holds.places has) in record { number = is.offset; piece = is.head; at = is.at_head; is = is.is });
        }
      where
        in_order : (id : ℕ) → ComeInOrder direction.queued id (places ++ o.holds.places)
        in_order id = (quiet_where (watch_of sized (known_asks direction.beginning) cuts id) direction.queued s.history (quiet id) id (places ++ o.holds.places) (o.holds.waits id) (stream_on id direction.reassembly.incoming.streams) (o.order id (counts id))).in_order

        separated : (id : ℕ) → AreSeparated sized (known_asks direction.beginning id) direction.queued id (cuts id) (places ++ o.holds.places)
        separated id =
            separated_where (watch_of sized (known_asks direction.beginning) cuts id) direction.queued s.history (quiet id) id (places ++ o.holds.places) (o.holds.waits id) (stream_on id direction.reassembly.incoming.streams) (o.order id (counts id))

    go : (s : Stands first direction) (quiet : ℕ → Bool) (got places : List ℕ) → WereQueued direction.queued places direction.read → AreDistinct places → ((id : ℕ) → CountsFromZero s.history id) → ((id : ℕ) → SendsEpochsInTurn (known_asks direction.beginning id) direction.queued s.history id)
        → ReassemblesInOrder (watch_of sized (known_asks direction.beginning) cuts) (sent_messages direction.queued s.history) quiet first got places direction.reassembly.incoming → IsDeliveredAsSent sized (known_asks direction.beginning) cuts direction.queued s.history.log direction.read
    go s quiet got places were once counts turns (none_handled none' last empty') = read s quiet [] 0 places were once counts turns (empty' 0)
    go s quiet got places were once counts turns (some_handled base is holds) = read s quiet got base places were once counts turns holds

pub directions_deliver_by_epoch : (options : Options) (first size : ℕ) (direction : Direction) (run : DirectionRun options first size direction) → first < 2 ^ 32 → assigned_count direction < 2 ^ 31 → length direction.queued < 2 ^ 64
    → direction.queues.queue.is_interleaved ≡ true → direction.beginning.from_zero ≡ true → AreDeliveredByEpoch (nat_le size (2 ^ 63)) (known_asks direction.beginning) (cuts_of options first size direction run) direction.queued direction.read
directions_deliver_by_epoch options first size direction run small little few interleaved from =
    (delivered_as_sent (nat_le size (2 ^ 63)) first direction (opened_of options first size direction run) (asked_of options first size direction run) (cuts_of options first size direction run) (run_delivers options first size direction small few run) small little interleaved from).delivered
