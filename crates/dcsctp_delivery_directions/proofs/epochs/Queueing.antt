-- Messages that are queued, and settings, leave a stream that is sent by epochs so.
use Rattle.std.proofs.Common.{◌≡◌, ◌==◌, ℕ, zero, suc, Bool, true, false, ◌≤◌, List, [], ◌∷◌, ◌++◌, drop, refl, sym, ◌∙◌, ap, arith, subst, inl, inr}
use Rattle.std.specs.Prelude.{◌⊎◌, Option, None, Some, is_some, if◌then◌else◌}
use Rattle.dcsctp_spec.specs.types.declared.sending.UnderWay.{UnderWay}
use Rattle.dcsctp_spec.specs.types.Setting.{Setting, stream_priority, stream_low_threshold, longest_message}
use Rattle.dcsctp_spec.specs.types.queues.SendStreams.{Waiting, Stream, front_of, unused_stream, with_message}
use Rattle.dcsctp_spec.specs.queues.OwnResets.{is_open_pause, count_under_way}
use Rattle.dcsctp_spec.specs.queues.SendQueue.{SendQueueState, stream_changed, used_streams, with_threshold, with_priority, queued_message as waiting_as}
use Rattle.dcsctp_spec.specs.endpoint.MessageOutcomes.{Sending, sending_queued}
use Rattle.dcsctp_spec.specs.endpoint.SettingOutcomes.{set_in_queue}
use Rattle.dcsctp_delivery_directions.specs.sending.Log.{History}
use Rattle.dcsctp_delivery_directions.specs.sending.Numbers.{stream_named}
use Rattle.dcsctp_delivery_directions.proofs.sending.StreamsNamed.{found_mapped}
use Rattle.dcsctp_delivery_directions.specs.epochs.Sending.{AllFrom, EpochBounds, is_open, HaltsIfAsked, SendsByEpoch}
use Rattle.dcsctp_delivery_directions.proofs.epochs.Named.{IsUnmoved, unmoved, used_unmoved}
use Rattle.dcsctp_delivery_directions.proofs.epochs.Alike.{same_history, stays_by_epoch}

-- ---- a message is queued

-- One more may wait.
pub record Grows (w : Waiting) (old new : Stream) : Type 0 where
  pub pause : new.pause ≡ old.pause
  pub under_way : new.under_way ≡ old.under_way
  pub messages : (new.messages ≡ old.messages) ⊎ (new.messages ≡ old.messages ++ w ∷ [])

pub from_one_more : (a : ℕ) (l : List Waiting) (w : Waiting) → a ≤ w.message_id → AllFrom a l → AllFrom a (l ++ w ∷ [])
from_one_more a [] w low are = (low, tt)
from_one_more a (v ∷ l) w low are = (are.0, from_one_more a l w low are.1)

rest_one_more : (a c : ℕ) (l : List Waiting) (w : Waiting) → a ≤ w.message_id → AllFrom a (drop c l) → AllFrom a (drop c (l ++ w ∷ []))
rest_one_more a zero l w low are = from_one_more a l w low are
rest_one_more a (suc zero) [] w low are = tt
rest_one_more a (suc (suc c)) [] w low are = tt
rest_one_more a (suc c) (v ∷ l) w low are = rest_one_more a c l w low are

front_stays : (l : List Waiting) (v w : Waiting) → front_of l ≡ Some v → front_of (l ++ w ∷ []) ≡ Some v
front_stays [] v w is = absurd (cc)
front_stays (x ∷ l) v w is = is

pub queueing_grows : (now : ℕ) (sending : Sending) (queue : SendQueueState) (id : ℕ) → Grows (waiting_as now sending.message sending.options queue) (stream_named id queue.streams) (stream_named id (sending_queued now sending queue).streams)
queueing_grows now sending queue id =
    let w : Waiting = waiting_as now sending.message sending.options queue in
    let used = used_unmoved queue sending.message.stream id in
    let grown : Grows w (stream_named id (used_streams queue sending.message.stream)) (stream_named id (sending_queued now sending queue).streams) =
    found_mapped (Grows w) id (unused_stream 0 0 0) (λ s. if s.id == sending.message.stream then with_message w s else s) (λ s. one_id (s.id == sending.message.stream) s) (record { pause = refl; under_way = refl; messages = inl refl })
    (λ s is. one w (s.id == sending.message.stream) s) (used_streams queue sending.message.stream) in
    record {
      pause = grown.pause ∙ used.pause;
      under_way = grown.under_way ∙ used.under_way;
      messages = elim grown.messages [
        | inl e ↦ inl (e ∙ used.messages)
        | inr e ↦ inr (e ∙ ap (λ (l : List Waiting). l ++ w ∷ []) used.messages)
      ];
    }
  where
    one_id : (b : Bool) (s : Stream) → (if b then with_message (waiting_as now sending.message sending.options queue) s else s).id ≡ s.id
    one_id true s = refl
    one_id false s = refl

    one : (w : Waiting) (b : Bool) (s : Stream) → Grows w s (if b then with_message w s else s)
    one w true s = record { pause = refl; under_way = refl; messages = inr refl }
    one w false s = record { pause = refl; under_way = refl; messages = inl refl }

-- The message under way waits on its stream.
abbrev pub HasGoing : SendQueueState → ℕ → Type 0
HasGoing queue id = is_some (stream_named id queue.streams).under_way ≡ true → (w : Waiting) × (front_of (stream_named id queue.streams).messages ≡ Some w)

pub queueing_by_epoch : (now : ℕ) (sending : Sending) (queue : SendQueueState) (history : History) (id : ℕ) (asked : EpochBounds) → HasGoing queue id → SendsByEpoch queue.next_message_id history queue id asked
    → SendsByEpoch (suc queue.next_message_id) history (sending_queued now sending queue) id asked
queueing_by_epoch now sending queue history id asked there e =
    elim grown.messages [
      | inl same ↦
          stays_by_epoch history history (same_history history) queue (sending_queued now sending queue) id (record { messages = same; under_way = grown.under_way; pause = grown.pause }) queue.next_message_id (suc queue.next_message_id) asked (omega arith) e
      | inr more ↦
          record {
            from = record { sent = e.from.sent; waits = subst (λ (l : List Waiting). AllFrom asked.ended l) (sym more) (from_one_more asked.ended (stream_named id queue.streams).messages w e.ended e.from.waits) };
            stops = stops asked.newest (λ place is. (e.newest place is).1) more e.stops;
            newest = λ place is. (let its = e.newest place is in (its.0, (let up = its.1 in omega (arith, up))));
            ended = (let ended = e.ended in omega (arith, ended));
          }
    ]
  where
    w : Waiting
    w = waiting_as now sending.message sending.options queue

    grown : Grows (waiting_as now sending.message sending.options queue) (stream_named id queue.streams) (stream_named id (sending_queued now sending queue).streams)
    grown = queueing_grows now sending queue id

    stops : (newest : Option ℕ) → ((place : ℕ) → newest ≡ Some place → place ≤ queue.next_message_id) → (stream_named id (sending_queued now sending queue).streams).messages ≡ (stream_named id queue.streams).messages ++ waiting_as now sending.message sending.options queue ∷ []
        → HaltsIfAsked newest history queue id → HaltsIfAsked newest history (sending_queued now sending queue) id
    stops None low more s = tt
    stops (Some place) low more s = λ paused. (
        let before = s (ap is_open_pause (sym grown.pause) ∙ paused) in
        record {
          sent = before.sent;
          going = λ v is front. (
              let goes : is_some (stream_named id queue.streams).under_way ≡ true = ap is_some (sym grown.under_way) ∙ is in
              let (x, first) = there goes in
              let both : Some x ≡ Some v = sym (ap front_of more ∙ front_stays (stream_named id queue.streams).messages x (waiting_as now sending.message sending.options queue) first) ∙ front in
              before.going v goes (first ∙ both)
              );
          rest = subst (λ (l : List Waiting). AllFrom place l)
              (sym (ap (λ (u : Option UnderWay). drop (if is_some u then 1 else 0) (stream_named id (sending_queued now sending queue).streams).messages) grown.under_way ∙ ap (λ (l : List Waiting). drop (count_under_way (stream_named id queue.streams)) l) more))
              (rest_one_more place (count_under_way (stream_named id queue.streams)) (stream_named id queue.streams).messages (waiting_as now sending.message sending.options queue) (low place refl) before.rest);
        }
        )

-- ---- a setting

changed_unmoved : (other : ℕ) (f : Stream → Stream) (queue : SendQueueState) (id : ℕ) → ((s : Stream) → (f s).id ≡ s.id) → ((s : Stream) → IsUnmoved s (f s)) → IsUnmoved (stream_named id queue.streams) (stream_named id (stream_changed other f (used_streams queue other)))
changed_unmoved other f queue id ids each =
    let used = used_unmoved queue other id in
    let changed : IsUnmoved (stream_named id (used_streams queue other)) (stream_named id (stream_changed other f (used_streams queue other))) =
    found_mapped IsUnmoved id (unused_stream 0 0 0) (λ s. if s.id == other then f s else s) (λ s. one_id (s.id == other) s) (unmoved (unused_stream 0 0 0)) (λ s is. one (s.id == other) s) (used_streams queue other) in
    record { messages = changed.messages ∙ used.messages; under_way = changed.under_way ∙ used.under_way; pause = changed.pause ∙ used.pause }
  where
    one_id : (b : Bool) (s : Stream) → (if b then f s else s).id ≡ s.id
    one_id true s = ids s
    one_id false s = refl

    one : (b : Bool) (s : Stream) → IsUnmoved s (if b then f s else s)
    one true s = each s
    one false s = unmoved s

pub setting_by_epoch : (setting : Setting) (queue : SendQueueState) (history : History) (id count : ℕ) (asked : EpochBounds) → SendsByEpoch count history queue id asked → SendsByEpoch count history (set_in_queue setting queue) id asked
setting_by_epoch (stream_priority other priority) queue history id count asked e =
    stays_by_epoch history history (same_history history) queue (set_in_queue (stream_priority other priority) queue) id (changed_unmoved other (with_priority priority) queue id (λ s. refl) (λ s. record { messages = refl; under_way = refl; pause = refl })) count count asked
    (omega arith) e
setting_by_epoch (stream_low_threshold other bytes) queue history id count asked e =
    stays_by_epoch history history (same_history history) queue (set_in_queue (stream_low_threshold other bytes) queue) id (changed_unmoved other (with_threshold bytes) queue id (λ s. refl) (λ s. record { messages = refl; under_way = refl; pause = refl })) count count asked
    (omega arith) e
setting_by_epoch (longest_message bytes) queue history id count asked e = e

pub queueing_open : (now : ℕ) (sending : Sending) (queue : SendQueueState) (id : ℕ) → is_open id (sending_queued now sending queue).streams ≡ is_open id queue.streams
queueing_open now sending queue id = ap is_open_pause (queueing_grows now sending queue id).pause

pub setting_open : (setting : Setting) (queue : SendQueueState) (id : ℕ) → is_open id (set_in_queue setting queue).streams ≡ is_open id queue.streams
setting_open (stream_priority other priority) queue id = ap is_open_pause (changed_unmoved other (with_priority priority) queue id (λ s. refl) (λ s. record { messages = refl; under_way = refl; pause = refl })).pause
setting_open (stream_low_threshold other bytes) queue id = ap is_open_pause (changed_unmoved other (with_threshold bytes) queue id (λ s. refl) (λ s. record { messages = refl; under_way = refl; pause = refl })).pause
setting_open (longest_message bytes) queue id = refl
