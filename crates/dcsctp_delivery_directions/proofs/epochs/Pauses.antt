-- What holds once a user has reset a stream: what was sent before is separated from what is sent since by a reset that the receiver
-- performs, or nothing is sent on the stream yet.
use Rattle.std.proofs.Common.{◌≡◌, ℕ, suc, Bool, true, false, ◌<◌, ◌≤◌, ◌^◌, List, ◌∷◌, ◌++◌, length, refl, sym, ◌∙◌, ap, arith, inl, inr}
use Rattle.std.specs.Prelude.{◌⊎◌, ◌&&◌, Some}
use Rattle.std.specs.List.{AllByRecursion}
use Rattle.std.proofs.lemmas.Bool.Decides.{leb_tells}
use Rattle.dcsctp_spec.specs.types.queues.SendStreams.{Stream}
use Rattle.dcsctp_spec.specs.queues.Incoming.{is_named}
use Rattle.dcsctp_spec.specs.queues.OwnResets.{is_open_pause, prepared_all}
use Rattle.dcsctp_spec.specs.queues.Reassembly.{names_stream}
use Rattle.dcsctp_spec.specs.queues.Transfer.{EndpointQueues}
use Rattle.dcsctp_spec.specs.endpoint.BegunResets.{BegunReset}
use Rattle.dcsctp_spec.specs.endpoint.FlushOutcomes.{first_ask, packets_allowed}
use Rattle.dcsctp_delivery_directions.specs.sending.Log.{Piece, Slot}
use Rattle.dcsctp_delivery_directions.specs.sending.Numbers.{stream_named}
use Rattle.dcsctp_delivery_directions.specs.sending.Places.{HasEntry, at_place}
use Rattle.dcsctp_delivery_directions.proofs.sending.Extended.{at_more}
use Rattle.dcsctp_delivery_directions.proofs.sending.Places.{at_some}
use Rattle.dcsctp_delivery_directions.specs.directions.Directions.{Beginning, PerformedReset, MayReset, Direction, DirectionStep, queues, sets, prepares, commits, rolls_back, flushes, resends, resends_nothing, speaks, asks_again, renews, turns_aside, acknowledges, loses, receives, forwards, receives_interleaved, forwards_interleaved, tracks, defers, performs, performs_earlier, resets, takes}
use Rattle.dcsctp_delivery_directions.proofs.directions.Continuing.{EndsNone}
use Rattle.dcsctp_delivery_directions.specs.order.Queue.{Cut}
use Rattle.dcsctp_delivery_directions.specs.epochs.Directions.{asked_after}
use Rattle.dcsctp_delivery_directions.specs.epochs.Sending.{AllFrom, EpochBounds, is_open}
use Rattle.dcsctp_delivery_directions.proofs.epochs.Preparing.{IsPreparedAs, paused, left, preparing_named}
use Rattle.dcsctp_delivery_directions.proofs.epochs.Queueing.{queueing_open, setting_open}
use Rattle.dcsctp_delivery_directions.proofs.epochs.Shut.{flush_shut}
use Rattle.dcsctp_delivery_directions.proofs.epochs.Waits.{WaitsSince}

-- The reset that was asked for at this place was performed, and is a cut.
pub record IsReported (performed : List PerformedReset) (cuts : List Cut) (id place : ℕ) : Type 0 where
  pub reset : PerformedReset
  pub has : HasEntry reset performed
  pub names : names_stream reset.streams id ≡ true
  pub cut : Cut
  pub cut_has : HasEntry cut cuts
  pub place_is : cut.place ≡ place
  pub index_is : cut.index ≡ reset.index

-- The stream is paused since its newest request, which was made at this place.
pub record IsShutSince (streams : List Stream) (asked : EpochBounds) (id place : ℕ) : Type 0 where
  pub newest : asked.newest ≡ Some place
  pub shut : is_open id streams ≡ false

-- After the earlier message a reset was asked for that was performed, or for which the stream is paused still.
pub record IsParted (direction : Direction) (asked : ℕ → EpochBounds) (cuts : ℕ → List Cut) (id earlier count : ℕ) : Type 0 where
  pub place : ℕ
  pub was_asked : direction.beginning.asks id place ≡ true
  pub from : earlier < place
  pub to : place ≤ count
  pub so : IsReported direction.performed (cuts id) id place ⊎ IsShutSince direction.queues.queue.streams (asked id) id place

-- It is so of all that was sent of what was queued before this. What waits was queued since.
pub record PauseStands (direction : Direction) (log : List Slot) (asked : ℕ → EpochBounds) (cuts : ℕ → List Cut) (id count : ℕ) : Type 0 where
  pub waits : AllFrom count (stream_named id direction.queues.queue.streams).messages
  pub before : count ≤ length direction.queued
  pub each : (n : ℕ) (f : Piece) → at_place n log ≡ Some (Some f) → f.message.stream ≡ id → f.place < count → IsParted direction asked cuts id f.place count

-- While the newest request has no end: if it is known to be performed, that of each stream that it names is reported.
abbrev pub NewestIsReported : Direction → (ℕ → EpochBounds) → (ℕ → List Cut) → Type 0
NewestIsReported direction asked cuts =
    (newest : BegunReset) (earlier : List BegunReset) → direction.asking.requests ≡ newest ∷ earlier → direction.asking.is_performed ≡ true → 0 < direction.asking.out
    → (id place : ℕ) → names_stream newest.reset.streams id ≡ true → (asked id).newest ≡ Some place → IsReported direction.performed (cuts id) id place

-- More may be performed, and more cuts be known.
pub record MoreReported (old new : List PerformedReset) (cuts later : List Cut) : Type 0 where
  pub performed : (reset : PerformedReset) → HasEntry reset old → HasEntry reset new
  pub cuts_more : (cut : Cut) → HasEntry cut cuts → HasEntry cut later

pub reported_later : (old new : List PerformedReset) (cuts later : List Cut) (id place : ℕ) → MoreReported old new cuts later → IsReported old cuts id place → IsReported new later id place
reported_later old new cuts later id place more r =
    record { reset = r.reset; has = more.performed r.reset r.has; names = r.names; cut = r.cut; cut_has = more.cuts_more r.cut r.cut_has; place_is = r.place_is; index_is = r.index_is }

-- ---- a step that ends no reset

-- What it leaves of a stream that is paused.
pub record LeavesShut (id : ℕ) (asked : ℕ → EpochBounds) (old direction : Direction) (step : DirectionStep old direction) : Type 0 where
  pub shuts : is_open id old.queues.queue.streams ≡ false → is_open id direction.queues.queue.streams ≡ false
  pub bounds : is_open id old.queues.queue.streams ≡ false → asked_after old direction step asked id ≡ asked id

and_false : (b : Bool) → (b && false) ≡ false
and_false true = refl
and_false false = refl

prepared_shut : (id : ℕ) (ids : List ℕ) (asked : ℕ → EpochBounds) (old : Direction) (may : AllByRecursion (λ id. id < 2 ^ 16) ids) (kept : AllByRecursion (MayReset old.beginning (length old.queued) old.queues.queue.streams) ids)
    → LeavesShut id asked old _ (prepares ids may kept)
prepared_shut id ids asked old may kept =
    record { shuts = λ shut. go shut (preparing_named ids old.queues.queue id); bounds = λ shut. rw (closed shut) refl }
  where
    closed : is_open id old.queues.queue.streams ≡ false → (is_named ids id && is_open_pause (stream_named id old.queues.queue.streams).pause) ≡ false
    closed shut = ap (λ (b : Bool). is_named ids id && b) shut ∙ and_false (is_named ids id)

    go : is_open id old.queues.queue.streams ≡ false → IsPreparedAs (is_named ids id) (stream_named id old.queues.queue.streams) (stream_named id (prepared_all ids old.queues.queue).streams) → is_open id (prepared_all ids old.queues.queue).streams ≡ false
    go shut (paused is messages way pause) = ap is_open_pause pause
    go shut (left is unmoves) = ap is_open_pause unmoves.pause ∙ shut

pub leaves_shut : (id : ℕ) (asked : ℕ → EpochBounds) (old direction : Direction) (step : DirectionStep old direction) → EndsNone old direction step → LeavesShut id asked old direction step
leaves_shut id asked old _ (queues now sending fits some) ends = record { shuts = λ is. queueing_open now sending old.queues.queue id ∙ is; bounds = λ is. refl }
leaves_shut id asked old _ (sets setting fits) ends = record { shuts = λ is. setting_open setting old.queues.queue id ∙ is; bounds = λ is. refl }
leaves_shut id asked old _ (prepares ids fit kept) ends = prepared_shut id ids asked old fit kept
leaves_shut id asked old _ (commits go_on) ends = absurd ends
leaves_shut id asked old _ (rolls_back unmixed) ends = absurd ends
leaves_shut id asked old _ (flushes e draft answers same no_data allowed) ends =
    record { shuts = λ is. flush_shut id first_ask (packets_allowed e.options.max_burst e.core) e draft answers allowed (ap (λ (b : EndpointQueues). is_open id b.queue.streams) same ∙ is); bounds = λ is. refl }
leaves_shut id asked old _ (resends now room transfer rest tsns chunks emission known sends fill contents) ends = record { shuts = λ is. is; bounds = λ is. refl }
leaves_shut id asked old _ (resends_nothing now room transfer rest tsns known sends) ends = record { shuts = λ is. is; bounds = λ is. refl }
leaves_shut id asked old _ (speaks emission no_data) ends = record { shuts = λ is. is; bounds = λ is. refl }
leaves_shut id asked old _ (asks_again emission begun was contents) ends = record { shuts = λ is. is; bounds = λ is. refl }
leaves_shut id asked old _ (renews emission newest earlier number asks out contents) ends = record { shuts = λ is. is; bounds = λ is. refl }
leaves_shut id asked old _ (turns_aside transfer new known same) ends = record { shuts = λ is. is; bounds = λ is. refl }
leaves_shut id asked old _ (acknowledges now sack transfer new known valid reached does) ends = record { shuts = λ is. is; bounds = λ is. refl }
leaves_shut id asked old _ (loses now transfer known) ends = record { shuts = λ is. is; bounds = λ is. refl }
leaves_shut id asked old _ (receives emission chunk theirs new was holds some same same' does) ends = record { shuts = λ is. is; bounds = λ is. refl }
leaves_shut id asked old _ (forwards emission tsn streams theirs new was holds same same' does) ends = record { shuts = λ is. is; bounds = λ is. refl }
leaves_shut id asked old _ (receives_interleaved emission chunk theirs new was holds some same same' does) ends = record { shuts = λ is. is; bounds = λ is. refl }
leaves_shut id asked old _ (forwards_interleaved emission tsn streams theirs new was holds same same' does) ends = record { shuts = λ is. is; bounds = λ is. refl }
leaves_shut id asked old _ (tracks new cumulative ranges) ends = record { shuts = λ is. is; bounds = λ is. refl }
leaves_shut id asked old _ (defers last_tsn streams some) ends = record { shuts = λ is. is; bounds = λ is. refl }
leaves_shut id asked old _ (performs newest earlier new asks unknown reached own leaves) ends = record { shuts = λ is. is; bounds = λ is. refl }
leaves_shut id asked old _ (performs_earlier newest earlier new asks unknown reached own leaves) ends = record { shuts = λ is. is; bounds = λ is. refl }
leaves_shut id asked old _ (resets streams new unmixed some leaves) ends = record { shuts = λ is. is; bounds = λ is. refl }
leaves_shut id asked old _ (takes message messages ready) ends = record { shuts = λ is. is; bounds = λ is. refl }

-- what was sent before
pub was_sent : (more log later : List Slot) (n : ℕ) (f : Piece) → later ≡ more ++ log → n < length log → at_place n later ≡ Some (Some f) → at_place n log ≡ Some (Some f)
was_sent more log later n f grows low at =
    let (slot, was) = at_some n log low in
    let both : Some slot ≡ Some (Some f) = sym (at_more more log n slot was) ∙ ap (λ (l : List Slot). at_place n l) (sym grows) ∙ at in
    was ∙ both

-- The pause stands after it.
pub pause_later : (old direction : Direction) (step : DirectionStep old direction) (log later more : List Slot) (asked : ℕ → EpochBounds) (cuts cuts' : ℕ → List Cut) (id count : ℕ) → later ≡ more ++ log → LeavesShut id asked old direction step
    → WaitsSince id count log later direction → length old.queued ≤ length direction.queued → direction.beginning ≡ old.beginning → MoreReported old.performed direction.performed (cuts id) (cuts' id)
    → PauseStands old log asked cuts id count → PauseStands direction later (asked_after old direction step asked) cuts' id count
pause_later old direction step log later more asked cuts cuts' id count grows leaves waits up start reported p =
    record {
      waits = waits.waits;
      before = (let before = p.before in omega (arith, before, up));
      each = λ n f at on low. elim (leb_tells (suc n) (length log)) [
        | inr far ↦ absurd (let high = far.1 in let above = waits.sent n f (omega (arith, high)) at on in omega (arith, above, low))
        | inl near ↦ (let less = near.1 in parted f.place (p.each n f (was_sent more log later n f grows (omega (arith, less)) at) on low))
      ];
    }
  where
    parted : (earlier : ℕ) → IsParted old asked cuts id earlier count → IsParted direction (asked_after old direction step asked) cuts' id earlier count
    parted earlier e =
        record {
          place = e.place;
          was_asked = ap (λ (b : Beginning). b.asks id e.place) start ∙ e.was_asked;
          from = e.from;
          to = e.to;
          so = elim e.so [
            | inl r ↦ inl (reported_later old.performed direction.performed (cuts id) (cuts' id) id e.place reported r)
            | inr s ↦ inr (record { newest = ap (λ (b : EpochBounds). b.newest) (leaves.bounds s.shut) ∙ s.newest; shut = leaves.shuts s.shut })
          ];
        }
