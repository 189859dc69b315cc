-- The bounds of each epoch are places where its user asked for a reset.
use Rattle.std.proofs.Common.{◌≡◌, ℕ, Bool, true, false, List, [], ◌∷◌, length, refl, sym, ◌∙◌, subst, inl, inr}
use Rattle.std.specs.Prelude.{◌⊎◌, ◌&&◌, Option, None, Some, if◌then◌else◌}
use Rattle.std.specs.List.{AllByRecursion}
use Rattle.std.proofs.lemmas.Bool.Decides.{eqb_tells}
use Rattle.dcsctp_spec.specs.types.queues.SendStreams.{Stream}
use Rattle.dcsctp_spec.specs.queues.Incoming.{is_named}
use Rattle.dcsctp_spec.specs.queues.OwnResets.{is_open_pause}
use Rattle.dcsctp_delivery_directions.specs.sending.Numbers.{is_handed_out, stream_named}
use Rattle.dcsctp_delivery_directions.specs.directions.Directions.{Beginning, MayReset, Direction, DirectionStep, queues, sets, prepares, commits, rolls_back, flushes, resends, resends_nothing, speaks, asks_again, renews, turns_aside, acknowledges, loses, receives, forwards, receives_interleaved, forwards_interleaved, tracks, defers, performs, performs_earlier, resets, takes}
use Rattle.dcsctp_delivery_directions.proofs.directions.Continuing.{EndsNone}
use Rattle.dcsctp_delivery_directions.proofs.directions.Losing.{same_beginning}
use Rattle.dcsctp_delivery_directions.specs.epochs.Sending.{EpochBounds, asked_with, newest_ended, asked_ended}
use Rattle.dcsctp_delivery_directions.specs.epochs.Directions.{asked_after}
use Rattle.dcsctp_delivery_directions.proofs.epochs.Behind.{asked_keeps}

-- The newest request of each stream was one that the user makes.
abbrev pub AreAsked : Beginning → (ℕ → EpochBounds) → Type 0
AreAsked beginning asked = (id place : ℕ) → (asked id).newest ≡ Some place → beginning.asks id place ≡ true

pub may_named : (beginning : Beginning) (count : ℕ) (streams : List Stream) (id : ℕ) (ids : List ℕ) → AllByRecursion (MayReset beginning count streams) ids → is_named ids id ≡ true → beginning.asks id count ≡ true
may_named beginning count streams id [] may named = absurd (cc)
may_named beginning count streams id (other ∷ ids) may named =
    elim (eqb_tells other id) [
      | inl e ↦ subst (λ (k : ℕ). beginning.asks k count ≡ true) e.1 may.0.asked
      | inr e ↦ may_named beginning count streams id ids may.1 (rw e.0 at named)
    ]

first_of : (b c : Bool) → (b && c) ≡ true → b ≡ true
first_of true c is = refl
first_of false c is = absurd (cc)

same_place : {one two : ℕ} → Some one ≡ Some two → one ≡ two
same_place is = cc

prepared_asked : (old : Direction) (ids : List ℕ) (asked : ℕ → EpochBounds) → AllByRecursion (MayReset old.beginning (length old.queued) old.queues.queue.streams) ids → AreAsked old.beginning asked
    → AreAsked old.beginning (asked_with ids old.queues.queue.streams (length old.queued) asked)
prepared_asked old ids asked may are id place = go (is_named ids id && is_open_pause (stream_named id old.queues.queue.streams).pause) refl
  where
    go : (b : Bool) → (is_named ids id && is_open_pause (stream_named id old.queues.queue.streams).pause) ≡ b → (if b then record (asked id) { newest = Some (length old.queued) } else asked id).newest ≡ Some place
        → old.beginning.asks id place ≡ true
    go true both is = subst (λ (k : ℕ). old.beginning.asks id k ≡ true) (same_place is) (may_named old.beginning (length old.queued) old.queues.queue.streams id ids may (first_of (is_named ids id) _ both))
    go false both is = are id place is

ended_asked : (old : Direction) (asked : ℕ → EpochBounds) → AreAsked old.beginning asked → AreAsked old.beginning (asked_ended old.queues.queue.streams asked)
ended_asked old asked are id place = go (is_handed_out (stream_named id old.queues.queue.streams).pause)
  where
    by_newest : (o : Option ℕ) → (asked id).newest ≡ o → (newest_ended (record (asked id) { newest = o })).newest ≡ Some place → old.beginning.asks id place ≡ true
    by_newest None none is = absurd (cc)
    by_newest (Some other) some is = are id place (some ∙ is)

    go : (b : Bool) → (if b then newest_ended (asked id) else asked id).newest ≡ Some place → old.beginning.asks id place ≡ true
    go true is = by_newest (asked id).newest refl is
    go false is = are id place is

pub asked_on : (old direction : Direction) (step : DirectionStep old direction) (asked : ℕ → EpochBounds) → AreAsked old.beginning asked → AreAsked direction.beginning (asked_after old direction step asked)
asked_on old _ (queues now sending fits some) asked are = are
asked_on old _ (sets setting fits) asked are = are
asked_on old _ (prepares ids fit kept) asked are = prepared_asked old ids asked kept are
asked_on old _ (commits go_on) asked are = ended_asked old asked are
asked_on old _ (rolls_back unmixed) asked are = are
asked_on old _ (flushes e draft answers same no_data allowed) asked are = are
asked_on old _ (resends now room transfer left tsns chunks emission known sends fill contents) asked are = are
asked_on old _ (resends_nothing now room transfer left tsns known sends) asked are = are
asked_on old _ (speaks emission no_data) asked are = are
asked_on old _ (asks_again emission begun was contents) asked are = are
asked_on old _ (renews emission newest earlier number asks out contents) asked are = are
asked_on old _ (turns_aside transfer new known same) asked are = are
asked_on old _ (acknowledges now sack transfer new known valid reached does) asked are = are
asked_on old _ (loses now transfer known) asked are = are
asked_on old _ (receives emission chunk theirs new was holds some same same' does) asked are = are
asked_on old _ (forwards emission tsn streams theirs new was holds same same' does) asked are = are
asked_on old _ (receives_interleaved emission chunk theirs new was holds some same same' does) asked are = are
asked_on old _ (forwards_interleaved emission tsn streams theirs new was holds same same' does) asked are = are
asked_on old _ (tracks new cumulative ranges) asked are = are
asked_on old _ (defers last_tsn streams some) asked are = are
asked_on old _ (performs newest earlier new asks unknown reached own leaves) asked are = are
asked_on old _ (performs_earlier newest earlier new asks unknown reached own leaves) asked are = are
asked_on old _ (resets streams new unmixed some leaves) asked are = are
asked_on old _ (takes message messages ready) asked are = are

-- The reset of each stream that has ended last was asked for, if one has.
abbrev pub EndWasAsked : Beginning → EpochBounds → ℕ → Type 0
EndWasAsked beginning asked id = (asked.ended ≡ 0) ⊎ (beginning.asks id asked.ended ≡ true)

abbrev pub EndsWereAsked : Beginning → (ℕ → EpochBounds) → Type 0
EndsWereAsked beginning asked = (id : ℕ) → EndWasAsked beginning (asked id) id

ended_was : (beginning : Beginning) (streams : List Stream) (asked : ℕ → EpochBounds) → AreAsked beginning asked → EndsWereAsked beginning asked → EndsWereAsked beginning (asked_ended streams asked)
ended_was beginning streams asked are were id = go (is_handed_out (stream_named id streams).pause)
  where
    by_newest : (o : Option ℕ) → (asked id).newest ≡ o → EndWasAsked beginning (newest_ended (record (asked id) { newest = o })) id
    by_newest None none = were id
    by_newest (Some place) some = inr (are id place some)

    go : (b : Bool) → EndWasAsked beginning (if b then newest_ended (asked id) else asked id) id
    go true = by_newest (asked id).newest refl
    go false = were id

kept_ends : (old direction : Direction) (step : DirectionStep old direction) (asked : ℕ → EpochBounds) → EndsNone old direction step → EndsWereAsked old.beginning asked → EndsWereAsked direction.beginning (asked_after old direction step asked)
kept_ends old direction step asked ends were id =
    subst (λ (k : ℕ). (k ≡ 0) ⊎ (direction.beginning.asks id k ≡ true)) (sym ((asked_keeps old direction step asked ends).ended id))
    (subst (λ (b : Beginning). EndWasAsked b (asked id) id) (sym (same_beginning old direction step)) (were id))

pub ends_asked_on : (old direction : Direction) (step : DirectionStep old direction) (asked : ℕ → EpochBounds) → AreAsked old.beginning asked → EndsWereAsked old.beginning asked → EndsWereAsked direction.beginning (asked_after old direction step asked)
ends_asked_on old _ (commits go_on) asked are were = ended_was old.beginning old.queues.queue.streams asked are were
ends_asked_on old _ (rolls_back unmixed) asked are were = were
ends_asked_on old _ (queues now sending fits some) asked are were = were
ends_asked_on old _ (sets setting fits) asked are were = were
ends_asked_on old _ (prepares ids fit kept) asked are were = kept_ends old _ (prepares ids fit kept) asked tt were
ends_asked_on old _ (flushes e draft answers same no_data allowed) asked are were = were
ends_asked_on old _ (resends now room transfer left tsns chunks emission known sends fill contents) asked are were = were
ends_asked_on old _ (resends_nothing now room transfer left tsns known sends) asked are were = were
ends_asked_on old _ (speaks emission no_data) asked are were = were
ends_asked_on old _ (asks_again emission begun was contents) asked are were = were
ends_asked_on old _ (renews emission newest earlier number asks out contents) asked are were = were
ends_asked_on old _ (turns_aside transfer new known same) asked are were = were
ends_asked_on old _ (acknowledges now sack transfer new known valid reached does) asked are were = were
ends_asked_on old _ (loses now transfer known) asked are were = were
ends_asked_on old _ (receives emission chunk theirs new was holds some same same' does) asked are were = were
ends_asked_on old _ (forwards emission tsn streams theirs new was holds same same' does) asked are were = were
ends_asked_on old _ (receives_interleaved emission chunk theirs new was holds some same same' does) asked are were = were
ends_asked_on old _ (forwards_interleaved emission tsn streams theirs new was holds same same' does) asked are were = were
ends_asked_on old _ (tracks new cumulative ranges) asked are were = were
ends_asked_on old _ (defers last_tsn streams some) asked are were = were
ends_asked_on old _ (performs newest earlier new asks unknown reached own leaves) asked are were = were
ends_asked_on old _ (performs_earlier newest earlier new asks unknown reached own leaves) asked are were = were
ends_asked_on old _ (resets streams new unmixed some leaves) asked are were = were
ends_asked_on old _ (takes message messages ready) asked are were = were
