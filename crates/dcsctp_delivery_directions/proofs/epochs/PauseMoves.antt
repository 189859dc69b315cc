-- What each step leaves of the calls by which a user has reset streams, and of what is reported of the newest request.
use Rattle.std.proofs.Common.{◌≡◌, ℕ, Bool, true, false, ◌<◌, ◌+◌, ◌^◌, List, ◌∷◌, length, refl, sym, ◌∙◌, ap, arith, subst, inl, inr}
use Rattle.std.specs.Prelude.{Option, None, Some, if◌then◌else◌}
use Rattle.dcsctp_spec.specs.queues.Incoming.{is_named}
use Rattle.dcsctp_spec.specs.queues.OwnResets.{prepared_all, queue_committed}
use Rattle.dcsctp_spec.specs.queues.Reassembly.{names_stream}
use Rattle.dcsctp_spec.specs.endpoint.BegunResets.{BegunReset}
use Rattle.dcsctp_delivery_directions.specs.sending.Flushes.{begun_reset_of}
use Rattle.dcsctp_delivery_directions.specs.sending.Log.{History}
use Rattle.dcsctp_delivery_directions.specs.sending.Places.{HasEntry}
use Rattle.dcsctp_delivery_directions.specs.directions.Directions.{Asking, asking_with, all_ended, Beginning, PerformedReset, PreparedReset, reset_performed, Direction, DirectionStep, queues, sets, prepares, commits, rolls_back, flushes, resends, resends_nothing, speaks, asks_again, renews, turns_aside, acknowledges, loses, receives, forwards, receives_interleaved, forwards_interleaved, tracks, defers, performs, performs_earlier, resets, takes}
use Rattle.dcsctp_delivery_directions.proofs.directions.InTurn.{turns_of}
use Rattle.dcsctp_delivery_directions.proofs.directions.Continuing.{EndsNone, Continues, step_continues, ended_raises}
use Rattle.dcsctp_delivery_directions.proofs.directions.Losing.{same_beginning}
use Rattle.dcsctp_delivery_directions.proofs.directions.Performing.{newest_of}
use Rattle.dcsctp_delivery_directions.proofs.directions.Queued.{stepped_queue, stepped_prepares}
use Rattle.dcsctp_delivery_directions.proofs.directions.Standing.{Stands}
use Rattle.dcsctp_delivery_directions.proofs.directions.Steps.{stepped, more_queued}
use Rattle.dcsctp_delivery_directions.specs.order.Queue.{Cut}
use Rattle.dcsctp_delivery_directions.specs.epochs.Cuts.{cut_added, cuts_with, cuts_after, cuts_ended, is_cut_whole}
use Rattle.dcsctp_delivery_directions.specs.epochs.Directions.{asked_after}
use Rattle.dcsctp_delivery_directions.specs.epochs.Reports.{WasPrepared}
use Rattle.dcsctp_delivery_directions.specs.epochs.Sending.{EpochBounds, asked_with, asked_ended}
use Rattle.dcsctp_delivery_directions.proofs.epochs.Behind.{asked_keeps}
use Rattle.dcsctp_delivery_directions.proofs.epochs.Delivering.{DeliversSo}
use Rattle.dcsctp_delivery_directions.proofs.epochs.Pauses.{PauseStands, NewestIsReported, MoreReported, reported_later, leaves_shut, pause_later}
use Rattle.dcsctp_delivery_directions.proofs.epochs.PauseSteps.{pause_made, pause_ends, ended_more}
use Rattle.dcsctp_delivery_directions.proofs.epochs.Waits.{stepped_waits}

-- ---- what is performed grows

with_more : (streams : List ℕ) (index : ℕ) (wholes : ℕ → ℕ → Bool) (asked : ℕ → EpochBounds) (cuts : ℕ → List Cut) (id : ℕ) (cut : Cut) → HasEntry cut (cuts id) → HasEntry cut (cuts_with streams index wholes asked cuts id)
with_more streams index wholes asked cuts id cut has = go (names_stream streams id) (asked id).newest
  where
    go : (b : Bool) (o : Option ℕ) → HasEntry cut (if b then cut_added index (wholes id) o (cuts id) else cuts id)
    go true None = has
    go true (Some place) = inr has
    go false o = has

same_reported : (performed : List PerformedReset) (cuts : List Cut) → MoreReported performed performed cuts cuts
same_reported performed cuts = record { performed = λ reset has. has; cuts_more = λ cut has. has }

more_reported : (sized : Bool) (old direction : Direction) (step : DirectionStep old direction) (asked : ℕ → EpochBounds) (cuts : ℕ → List Cut) (id : ℕ) → MoreReported old.performed direction.performed (cuts id) (cuts_after sized old direction step asked cuts id)
more_reported sized old _ (queues now sending fits some) asked cuts id = same_reported old.performed (cuts id)
more_reported sized old _ (sets setting fits) asked cuts id = same_reported old.performed (cuts id)
more_reported sized old _ (prepares ids fit kept) asked cuts id = same_reported old.performed (cuts id)
more_reported sized old _ (commits go_on) asked cuts id =
    record { performed = λ reset has. has; cuts_more = ended_more old.queues.queue.streams (length old.read + length old.reassembly.incoming.ready) (is_cut_whole sized old.beginning) asked cuts id }
more_reported sized old _ (rolls_back unmixed) asked cuts id = same_reported old.performed (cuts id)
more_reported sized old _ (flushes e draft answers same no_data allowed) asked cuts id = same_reported old.performed (cuts id)
more_reported sized old _ (resends now room transfer left tsns chunks emission known sends fill contents) asked cuts id = same_reported old.performed (cuts id)
more_reported sized old _ (resends_nothing now room transfer left tsns known sends) asked cuts id = same_reported old.performed (cuts id)
more_reported sized old _ (speaks emission no_data) asked cuts id = same_reported old.performed (cuts id)
more_reported sized old _ (asks_again emission begun was contents) asked cuts id = same_reported old.performed (cuts id)
more_reported sized old _ (renews emission newest earlier number asks out contents) asked cuts id = same_reported old.performed (cuts id)
more_reported sized old _ (turns_aside transfer new known same) asked cuts id = same_reported old.performed (cuts id)
more_reported sized old _ (acknowledges now sack transfer new known valid reached does) asked cuts id = same_reported old.performed (cuts id)
more_reported sized old _ (loses now transfer known) asked cuts id = same_reported old.performed (cuts id)
more_reported sized old _ (receives emission chunk theirs new was holds some same same' does) asked cuts id = same_reported old.performed (cuts id)
more_reported sized old _ (forwards emission tsn streams theirs new was holds same same' does) asked cuts id = same_reported old.performed (cuts id)
more_reported sized old _ (receives_interleaved emission chunk theirs new was holds some same same' does) asked cuts id = same_reported old.performed (cuts id)
more_reported sized old _ (forwards_interleaved emission tsn streams theirs new was holds same same' does) asked cuts id = same_reported old.performed (cuts id)
more_reported sized old _ (tracks new cumulative ranges) asked cuts id = same_reported old.performed (cuts id)
more_reported sized old _ (defers last_tsn streams some) asked cuts id = same_reported old.performed (cuts id)
more_reported sized old _ (performs newest earlier new asks unknown reached own leaves) asked cuts id =
    record { performed = λ reset has. inr has; cuts_more = with_more newest.reset.streams (length old.read + length new.incoming.ready) (is_cut_whole sized old.beginning) asked cuts id }
more_reported sized old _ (performs_earlier newest earlier new asks unknown reached own leaves) asked cuts id =
    record { performed = λ reset has. inr has; cuts_more = with_more newest.reset.streams (length old.read + length new.incoming.ready) (is_cut_whole sized old.beginning) asked cuts id }
more_reported sized old _ (resets streams new unmixed some leaves) asked cuts id = record { performed = λ reset has. inr has; cuts_more = λ cut has. has }
more_reported sized old _ (takes message messages ready) asked cuts id = same_reported old.performed (cuts id)

begun_none : (begun : Option BegunReset) (asking : Asking) → (asking_with begun asking).is_performed ≡ true → asking_with begun asking ≡ asking
begun_none None asking is = refl
begun_none (Some begun) asking is = absurd (cc)

-- ---- one step

module _ (sized : Bool) (first : ℕ) (old : Direction) (small : first < 2 ^ 32) (opened : ℕ → Bool) (asked : ℕ → EpochBounds) (cuts : ℕ → List Cut) (d : DeliversSo sized first old opened asked cuts) where
  abbrev pub stands : Stands first old
  stands = d.goes.stands

  -- ---- the newest request

  module _ (j : NewestIsReported old asked cuts) where
    newest_kept : (direction : Direction) (step : DirectionStep old direction) → EndsNone old direction step → (direction.asking.is_performed ≡ true → direction.asking ≡ old.asking) → NewestIsReported direction (asked_after old direction step asked) (cuts_after sized old direction step asked cuts)
    newest_kept direction step ends asks newest earlier is performed some id place names newest_is =
        let same = asks performed in
        let was : old.asking.requests ≡ newest ∷ earlier = ap (λ (a : Asking). a.requests) (sym same) ∙ is in
        let some' : 0 < old.asking.out = subst (λ (a : Asking). 0 < a.out) same some in
        let m = newest_of stands.history.marks newest earlier (sym stands.asked ∙ was) in
        let out = d.named m.mark m.earlier m.is some' id (subst (λ (b : BegunReset). names_stream b.reset.streams id ≡ true) (sym m.begins) names) in
        reported_later old.performed direction.performed (cuts id) (cuts_after sized old direction step asked cuts id) id place (more_reported sized old direction step asked cuts id)
        (j newest earlier was (ap (λ (a : Asking). a.is_performed) (sym same) ∙ performed) some' id place names (sym ((asked_keeps old direction step asked ends).newest id out.handed) ∙ newest_is))

    pub newest_on : old.queues.queue.is_interleaved ≡ true → (direction : Direction) (step : DirectionStep old direction) → NewestIsReported direction (asked_after old direction step asked) (cuts_after sized old direction step asked cuts)
    newest_on interleaved _ (commits go_on) = λ newest earlier is performed some. absurd (omega (arith, some))
    newest_on interleaved _ (rolls_back unmixed) = λ newest earlier is performed some. absurd (omega (arith, some))
    newest_on interleaved _ (performs newest earlier new asks unknown reached own leaves) = λ other more is performed some id place names newest_is. (
        let both : newest ∷ earlier ≡ other ∷ more = sym asks ∙ is in
        let same : other ≡ newest = cc in
        let named : names_stream newest.reset.streams id ≡ true = ap (λ (b : BegunReset). names_stream b.reset.streams id) (sym same) ∙ names in
        record {
          reset = reset_performed newest.reset.streams old.read new;
          has = inl refl;
          names = named;
          cut = record { index = length old.read + length new.incoming.ready; place = place; is_whole = is_cut_whole sized old.beginning id place };
          cut_has = rw named (rw newest_is (inl refl));
          place_is = refl;
          index_is = refl;
        })
    newest_on interleaved _ (flushes e draft answers same no_data allowed) = newest_kept _ (flushes e draft answers same no_data allowed) tt (begun_none (begun_reset_of answers) old.asking)
    newest_on interleaved _ (renews emission newest earlier number asks out contents) = newest_kept _ (renews emission newest earlier number asks out contents) tt (λ performed. absurd (let clash : false ≡ true = performed in cc))
    newest_on interleaved _ (queues now sending fits some) = newest_kept _ (queues now sending fits some) tt (λ performed. refl)
    newest_on interleaved _ (sets setting fits) = newest_kept _ (sets setting fits) tt (λ performed. refl)
    newest_on interleaved _ (prepares ids fit kept) = newest_kept _ (prepares ids fit kept) tt (λ performed. refl)
    newest_on interleaved _ (resends now room transfer left tsns chunks emission known sends fill contents) = newest_kept _ (resends now room transfer left tsns chunks emission known sends fill contents) tt (λ performed. refl)
    newest_on interleaved _ (resends_nothing now room transfer left tsns known sends) = newest_kept _ (resends_nothing now room transfer left tsns known sends) tt (λ performed. refl)
    newest_on interleaved _ (speaks emission no_data) = newest_kept _ (speaks emission no_data) tt (λ performed. refl)
    newest_on interleaved _ (asks_again emission begun was contents) = newest_kept _ (asks_again emission begun was contents) tt (λ performed. refl)
    newest_on interleaved _ (turns_aside transfer new known same) = newest_kept _ (turns_aside transfer new known same) tt (λ performed. refl)
    newest_on interleaved _ (acknowledges now sack transfer new known valid reached does) = newest_kept _ (acknowledges now sack transfer new known valid reached does) tt (λ performed. refl)
    newest_on interleaved _ (loses now transfer known) = newest_kept _ (loses now transfer known) tt (λ performed. refl)
    newest_on interleaved _ (receives emission chunk theirs new was holds some same same' does) = newest_kept _ (receives emission chunk theirs new was holds some same same' does) tt (λ performed. refl)
    newest_on interleaved _ (forwards emission tsn streams theirs new was holds same same' does) = newest_kept _ (forwards emission tsn streams theirs new was holds same same' does) tt (λ performed. refl)
    newest_on interleaved _ (receives_interleaved emission chunk theirs new was holds some same same' does) = newest_kept _ (receives_interleaved emission chunk theirs new was holds some same same' does) tt (λ performed. refl)
    newest_on interleaved _ (forwards_interleaved emission tsn streams theirs new was holds same same' does) = newest_kept _ (forwards_interleaved emission tsn streams theirs new was holds same same' does) tt (λ performed. refl)
    newest_on interleaved _ (tracks new cumulative ranges) = newest_kept _ (tracks new cumulative ranges) tt (λ performed. refl)
    newest_on interleaved _ (defers last_tsn streams some) = newest_kept _ (defers last_tsn streams some) tt (λ performed. refl)
    newest_on interleaved _ (performs_earlier newest earlier new asks unknown reached own leaves) = newest_kept _ (performs_earlier newest earlier new asks unknown reached own leaves) tt (λ performed. refl)
    newest_on interleaved _ (resets streams new unmixed some leaves) = newest_kept _ (resets streams new unmixed some leaves) tt (λ performed. refl)
    newest_on interleaved _ (takes message messages ready) = newest_kept _ (takes message messages ready) tt (λ performed. refl)

  -- ---- each call

  abbrev pub PausesStand : Direction → History → (ℕ → EpochBounds) → (ℕ → List Cut) → Type 0
  PausesStand direction history asked' cuts' = (id count : ℕ) → WasPrepared direction.prepared id count → direction.beginning.empties id count ≡ true → PauseStands direction history.log asked' cuts' id count

  module _ (j : NewestIsReported old asked cuts) (interleaved : old.queues.queue.is_interleaved ≡ true) (opens : (id : ℕ) → opened id ≡ true) (p : PausesStand old stands.history asked cuts) where
    plain_pause : (direction : Direction) (few : length direction.queued < 2 ^ 64) (step : DirectionStep old direction) → EndsNone old direction step → (id count : ℕ) → WasPrepared old.prepared id count → direction.beginning.empties id count ≡ true
        → PauseStands direction (stepped first old small stands direction few step).history.log (asked_after old direction step asked) (cuts_after sized old direction step asked cuts) id count
    plain_pause direction few step ends id count was empties =
        let after = stepped first old small stands direction few step in
        let c : Continues stands.history after.history old.queues.queue.streams direction.queues.queue.streams old.asking.out direction.asking.out = step_continues first old small stands direction few step ends in
        let start = same_beginning old direction step in
        let before = p id count was (ap (λ (b : Beginning). b.empties id count) (sym start) ∙ empties) in
        pause_later old direction step stands.history.log after.history.log c.more asked cuts (cuts_after sized old direction step asked cuts) id count c.log (leaves_shut id asked old direction step ends)
        (stepped_waits id count first old small stands before.before before.waits direction few step ends) (more_queued old direction step) start (more_reported sized old direction step asked cuts id) before

    pub pauses_on : (direction : Direction) (few : length direction.queued < 2 ^ 64) (step : DirectionStep old direction)
        → PausesStand direction (stepped first old small stands direction few step).history (asked_after old direction step asked) (cuts_after sized old direction step asked cuts)
    unfolding stepped stepped_queue stepped_prepares
    pauses_on _ few (prepares ids fit kept) id count was empties =
        elim was.has [
          | inl e ↦
              (let same : length old.queued ≡ count = ap (λ (c : PreparedReset). c.count) (sym e) ∙ was.count_is in
              let named : is_named ids id ≡ true = ap (λ (c : PreparedReset). is_named c.ids id) (sym e) ∙ was.named in
              subst (λ (k : ℕ). PauseStands (record old { queues = record old.queues { queue = prepared_all ids old.queues.queue }; prepared = record { ids = ids; count = length old.queued } ∷ old.prepared }) stands.history.log (asked_with ids old.queues.queue.streams (length old.queued) asked) cuts id k) same
              (pause_made id first old stands asked cuts (d.goes.by_epoch interleaved id) (d.goes.known interleaved id (opens id)) d.keeps.were_asked ids kept named (ap (old.beginning.empties id) same ∙ empties)))
          | inr t ↦ plain_pause _ few (prepares ids fit kept) tt id count (record { call = was.call; has = t; named = was.named; count_is = was.count_is }) empties
        ]
    pauses_on _ few (commits go_on) id count was empties =
        subst (λ (h : History). PauseStands (record old { queues = record old.queues { queue = queue_committed old.queues.queue }; asking = all_ended old.asking }) h.log (asked_ended old.queues.queue.streams asked)
        (cuts_ended old.queues.queue.streams (length old.read + length old.reassembly.incoming.ready) (is_cut_whole sized old.beginning) asked cuts) id count) (sym (ended_raises first old small stands few go_on interleaved))
        (pause_ends id first old stands asked cuts (go_on (turns_of old interleaved)).0 (go_on (turns_of old interleaved)).1 j (length old.read + length old.reassembly.incoming.ready) (is_cut_whole sized old.beginning) count (p id count was empties))
    pauses_on _ few (rolls_back unmixed) id count was empties = absurd (let clash : true ≡ false = sym (turns_of old interleaved) ∙ unmixed in cc)
    pauses_on _ few (queues now sending fits some) id count was empties = plain_pause _ few (queues now sending fits some) tt id count was empties
    pauses_on _ few (sets setting fits) id count was empties = plain_pause _ few (sets setting fits) tt id count was empties
    pauses_on _ few (flushes e draft answers same no_data allowed) id count was empties = plain_pause _ few (flushes e draft answers same no_data allowed) tt id count was empties
    pauses_on _ few (resends now room transfer left tsns chunks emission known sends fill contents) id count was empties = plain_pause _ few (resends now room transfer left tsns chunks emission known sends fill contents) tt id count was empties
    pauses_on _ few (resends_nothing now room transfer left tsns known sends) id count was empties = plain_pause _ few (resends_nothing now room transfer left tsns known sends) tt id count was empties
    pauses_on _ few (speaks emission no_data) id count was empties = plain_pause _ few (speaks emission no_data) tt id count was empties
    pauses_on _ few (asks_again emission begun was' contents) id count was empties = plain_pause _ few (asks_again emission begun was' contents) tt id count was empties
    pauses_on _ few (renews emission newest earlier number asks out contents) id count was empties = plain_pause _ few (renews emission newest earlier number asks out contents) tt id count was empties
    pauses_on _ few (turns_aside transfer new known same) id count was empties = plain_pause _ few (turns_aside transfer new known same) tt id count was empties
    pauses_on _ few (acknowledges now sack transfer new known valid reached does) id count was empties = plain_pause _ few (acknowledges now sack transfer new known valid reached does) tt id count was empties
    pauses_on _ few (loses now transfer known) id count was empties = plain_pause _ few (loses now transfer known) tt id count was empties
    pauses_on _ few (receives emission chunk theirs new was' holds some same same' does) id count was empties = plain_pause _ few (receives emission chunk theirs new was' holds some same same' does) tt id count was empties
    pauses_on _ few (forwards emission tsn streams theirs new was' holds same same' does) id count was empties = plain_pause _ few (forwards emission tsn streams theirs new was' holds same same' does) tt id count was empties
    pauses_on _ few (receives_interleaved emission chunk theirs new was' holds some same same' does) id count was empties = plain_pause _ few (receives_interleaved emission chunk theirs new was' holds some same same' does) tt id count was empties
    pauses_on _ few (forwards_interleaved emission tsn streams theirs new was' holds same same' does) id count was empties = plain_pause _ few (forwards_interleaved emission tsn streams theirs new was' holds same same' does) tt id count was empties
    pauses_on _ few (tracks new cumulative ranges) id count was empties = plain_pause _ few (tracks new cumulative ranges) tt id count was empties
    pauses_on _ few (defers last_tsn streams some) id count was empties = plain_pause _ few (defers last_tsn streams some) tt id count was empties
    pauses_on _ few (performs newest earlier new asks unknown reached own leaves) id count was empties = plain_pause _ few (performs newest earlier new asks unknown reached own leaves) tt id count was empties
    pauses_on _ few (performs_earlier newest earlier new asks unknown reached own leaves) id count was empties = plain_pause _ few (performs_earlier newest earlier new asks unknown reached own leaves) tt id count was empties
    pauses_on _ few (resets streams new unmixed some leaves) id count was empties = plain_pause _ few (resets streams new unmixed some leaves) tt id count was empties
    pauses_on _ few (takes message messages ready) id count was empties = plain_pause _ few (takes message messages ready) tt id count was empties
