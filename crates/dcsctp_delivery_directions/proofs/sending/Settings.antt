-- What is set, and resets of our streams, leave what waits.
use Rattle.std.proofs.Common.{◌≡◌, ℕ, Bool, true, false, ◌<◌, ◌≤◌, ◌+◌, ◌*◌, ◌%◌, ◌^◌, List, length, map, refl, sym, ◌∙◌, ap, arith, subst}
use Rattle.std.specs.Prelude.{Option, None, Some, is_some, if◌then◌else◌}
use Rattle.dcsctp_spec.specs.types.queues.SendStreams.{Stream, front_of, unused_stream, committed_stream, rolled_back}
use Rattle.dcsctp_spec.specs.types.declared.ids.StreamId.{StreamId}
use Rattle.dcsctp_spec.specs.types.declared.sending.UnderWay.{UnderWay}
use Rattle.dcsctp_spec.specs.types.declared.sending.Pause.{Pause}
use Rattle.dcsctp_spec.specs.types.declared.sending.Pause.TheVariants.{Open, Pausing, HandedOut}
use Rattle.dcsctp_spec.specs.queues.OwnResets.{queue_committed, queue_rolled_back}
use Rattle.dcsctp_spec.specs.queues.SendQueue.{with_priority, with_threshold, SendQueueState, stream_changed, used_streams}
use Rattle.dcsctp_spec.specs.types.Setting.{Setting, stream_priority, stream_low_threshold, longest_message}
use Rattle.dcsctp_spec.specs.endpoint.SettingOutcomes.{set_in_queue}
use Rattle.dcsctp_delivery_directions.specs.sending.Places.{HasEntry}
use Rattle.dcsctp_delivery_directions.specs.sending.Log.{Message, Slot, Mark, History, Resets}
use Rattle.dcsctp_delivery_directions.specs.sending.Turns.{begun_on}
use Rattle.dcsctp_delivery_directions.specs.sending.Queueing.{SettingFits, floors_raised, QueueHolds}
use Rattle.dcsctp_delivery_directions.specs.sending.Numbers.{stream_named, next_mid, is_handed_out, IsUnderWayKept, LastIs, CountsMessages, CountsTurns, CountsSsns, CountsByKind, HoldsWhole, NumbersMessages, IsBegunUnder}
use Rattle.dcsctp_delivery_directions.proofs.sending.Numbers.{SameMids, KeepsFront, front_kept, numbers_then, numbers_used, numbers_changed, numbers_mapped}
use Rattle.dcsctp_delivery_directions.proofs.sending.Numbered.{numbered_stay, whole_stays, rests_stay}
use Rattle.dcsctp_delivery_directions.proofs.sending.Streams.{alike_hold}
use Rattle.dcsctp_delivery_directions.proofs.sending.StreamsNamed.{found_mapped}
use Rattle.dcsctp_delivery_directions.proofs.sending.NewStreams.{used_hold}
use Rattle.dcsctp_delivery_directions.proofs.sending.KeptQueues.{one_set, mapped_alike}

set_numbered : (history : History) (id : ℕ) (queue : SendQueueState) (f : Stream → Stream) → ((s : Stream) → (f s).id ≡ s.id) → ((s : Stream) → SameMids s (f s)) → ((s : Stream) → (f s).messages ≡ s.messages) → ((s : Stream) → (f s).pause ≡ s.pause) → ((s : Stream) → (f s).under_way ≡ s.under_way) → NumbersMessages history queue
    → NumbersMessages history (record queue { streams = stream_changed id f (used_streams queue id) })
set_numbered history id queue f same mids messages pauses under_ways numbers =
    numbered_stay history queue (record queue { streams = stream_changed id f (used_streams queue id) }) refl refl refl
    (numbers_then queue.streams (used_streams queue id) (stream_changed id f (used_streams queue id)) (numbers_used queue id)
    (numbers_changed id f same mids (λ s here. front_kept s (f s) (under_ways s) (messages s) (λ e. ap is_handed_out (pauses s) ∙ e)) (used_streams queue id))) numbers

pub setting_kind : (setting : Setting) (queue : SendQueueState) → (set_in_queue setting queue).is_interleaved ≡ queue.is_interleaved
setting_kind (stream_priority id priority) queue = refl
setting_kind (stream_low_threshold id bytes) queue = refl
setting_kind (longest_message bytes) queue = refl

pub setting_hold : (queued : List Message) (history : History) (setting : Setting) (queue : SendQueueState) → SettingFits setting → QueueHolds queued history queue → QueueHolds queued history (set_in_queue setting queue)
setting_hold queued history (stream_priority id priority) queue fits queues =
    record {
      queue_holds = alike_hold queued history.log (used_streams queue id) (stream_changed id (with_priority priority) (used_streams queue id)) (one_set (with_priority priority) (λ s. refl) (λ s. refl) (λ s. refl) id (used_streams queue id)) (used_hold queued history.log queue id fits queues.queue_holds);
      next = queues.next;
      numbers = set_numbered history id queue (with_priority priority) (λ s. refl) (λ s. record { ordered = refl; unordered = refl; ssn = refl }) (λ s. refl) (λ s. refl) (λ s. refl) queues.numbers;
    }
setting_hold queued history (stream_low_threshold id bytes) queue fits queues =
    record {
      queue_holds = alike_hold queued history.log (used_streams queue id) (stream_changed id (with_threshold bytes) (used_streams queue id)) (one_set (with_threshold bytes) (λ s. refl) (λ s. refl) (λ s. refl) id (used_streams queue id)) (used_hold queued history.log queue id fits queues.queue_holds);
      next = queues.next;
      numbers = set_numbered history id queue (with_threshold bytes) (λ s. refl) (λ s. record { ordered = refl; unordered = refl; ssn = refl }) (λ s. refl) (λ s. refl) (λ s. refl) queues.numbers;
    }
setting_hold queued history (longest_message bytes) queue fits queues = queues

-- ---- the end of a reset

-- streams that were handed out begin again at 0, and the others stay
module _ (streams : List Stream) (id : ℕ) where
  -- this holds for the stream of this number
  NextWas : Bool → Stream → Stream → Type 0
  NextWas b old new = next_mid b new ≡ (if is_handed_out old.pause then 0 else next_mid b old)

  SameMessages : Stream → Stream → Type 0
  SameMessages old new = new.messages ≡ old.messages

  IsOpen : Stream → Stream → Type 0
  IsOpen old new = is_handed_out new.pause ≡ false

  its_id : (s : Stream) → (committed_stream s).id ≡ s.id
  its_id s = go s.pause refl
    where
      go : (p : Pause) → s.pause ≡ p → (committed_stream s).id ≡ s.id
      go Open is = rw is refl
      go Pausing is = rw is refl
      go HandedOut is = rw is refl

  committed_mid : (b : Bool) → next_mid b (stream_named id (map committed_stream streams)) ≡ (if is_handed_out (stream_named id streams).pause then 0 else next_mid b (stream_named id streams))
  unfolding NextWas
  committed_mid b = found_mapped (NextWas b) id (unused_stream 0 0 0) committed_stream its_id refl (λ s here. go b s s.pause refl) streams
    where
      go : (b : Bool) (s : Stream) (p : Pause) → s.pause ≡ p → next_mid b (committed_stream s) ≡ (if is_handed_out s.pause then 0 else next_mid b s)
      go b s Open is = rw is refl
      go b s Pausing is = rw is refl
      go true s HandedOut is = rw is refl
      go false s HandedOut is = rw is refl

  SsnWas : Stream → Stream → Type 0
  SsnWas old new = new.next_ssn ≡ (if is_handed_out old.pause then 0 else old.next_ssn)

  committed_ssn : (stream_named id (map committed_stream streams)).next_ssn ≡ (if is_handed_out (stream_named id streams).pause then 0 else (stream_named id streams).next_ssn)
  unfolding SsnWas
  committed_ssn = found_mapped SsnWas id (unused_stream 0 0 0) committed_stream its_id refl (λ s here. go s s.pause refl) streams
    where
      go : (s : Stream) (p : Pause) → s.pause ≡ p → (committed_stream s).next_ssn ≡ (if is_handed_out s.pause then 0 else s.next_ssn)
      go s Open is = rw is refl
      go s Pausing is = rw is refl
      go s HandedOut is = rw is refl

  committed_messages : (stream_named id (map committed_stream streams)).messages ≡ (stream_named id streams).messages
  unfolding SameMessages
  committed_messages = found_mapped SameMessages id (unused_stream 0 0 0) committed_stream its_id refl (λ s here. go s s.pause refl) streams
    where
      go : (s : Stream) (p : Pause) → s.pause ≡ p → (committed_stream s).messages ≡ s.messages
      go s Open is = rw is refl
      go s Pausing is = rw is refl
      go s HandedOut is = rw is refl

  SameUnderWay : Stream → Stream → Type 0
  SameUnderWay old new = new.under_way ≡ old.under_way

  committed_under_way : (stream_named id (map committed_stream streams)).under_way ≡ (stream_named id streams).under_way
  unfolding SameUnderWay
  committed_under_way = found_mapped SameUnderWay id (unused_stream 0 0 0) committed_stream its_id refl (λ s here. go s s.pause refl) streams
    where
      go : (s : Stream) (p : Pause) → s.pause ≡ p → (committed_stream s).under_way ≡ s.under_way
      go s Open is = rw is refl
      go s Pausing is = rw is refl
      go s HandedOut is = rw is refl

  committed_open : is_handed_out (stream_named id (map committed_stream streams)).pause ≡ false
  unfolding IsOpen
  committed_open = found_mapped IsOpen id (unused_stream 0 0 0) committed_stream its_id refl (λ s here. go s s.pause refl) streams
    where
      go : (s : Stream) (p : Pause) → s.pause ≡ p → is_handed_out (committed_stream s).pause ≡ false
      go s Open is = rw is refl
      go s Pausing is = rw is refl
      go s HandedOut is = rw is refl

committed_kept : (streams : List Stream) → IsUnderWayKept (map committed_stream streams)
committed_kept streams id some = committed_open streams id

-- each keeps its message under way
committed_fronts : (streams : List Stream) (id : ℕ) → KeepsFront (stream_named id streams) (stream_named id (map committed_stream streams))
committed_fronts streams id =
    record {
      under_way = committed_under_way streams id;
      front = λ some. ap front_of (committed_messages streams id);
      kept = λ some e. committed_open streams id;
    }

-- the messages of a stream that was handed out are counted from its new floor
committed_counts : (history : History) (streams : List Stream) → IsUnderWayKept streams → CountsMessages history streams → CountsMessages (floors_raised streams history) (map committed_stream streams)
committed_counts history streams kept c =
    record {
      counts = λ id b. if handed id then 0 else c.counts id b;
      few = λ id b. few (handed id) (c.counts id b) (length history.log) (c.few id b);
      next = λ id b. ap (λ (k : ℕ). k % 2 ^ 32) (committed_mid streams id b) ∙ next (handed id) (next_mid b (stream_named id streams)) (history.floors id b) (c.counts id b) (length history.log) (c.next id b);
      below = λ n f at. below (handed f.message.stream) f.mid (history.floors f.message.stream f.message.is_unordered) (c.counts f.message.stream f.message.is_unordered) (length history.log)
          (c.below n f at) (c.few f.message.stream f.message.is_unordered);
      apart = c.apart;
      going = λ id. subst (λ (u : Option UnderWay). LastIs (floors_raised streams history) (map committed_stream streams) (λ other b. if handed other then 0 else c.counts other b) id u) (sym (committed_under_way streams id))
          (going id (stream_named id streams).under_way refl (c.going id));
      dense = λ id anew k less. dense id (handed id) refl anew k less;
    }
  where
    handed : ℕ → Bool
    handed id = is_handed_out (stream_named id streams).pause

    dense : (id : ℕ) (h : Bool) → handed id ≡ h → (if h then 2 ^ 32 * (history.floors id true + length history.log + 1) else history.floors id true) < 2 ^ 32 * ((if h then 2 ^ 32 * (history.floors id false + length history.log + 1) else history.floors id false) + 1)
        → (k : ℕ) → k < (if h then 0 else c.counts id false) → IsBegunUnder history.log id ((if h then 2 ^ 32 * (history.floors id false + length history.log + 1) else history.floors id false) + k)
    dense id true is anew k less = absurd (omega (arith, less))
    dense id false is anew k less = c.dense id anew k less

    few : (h : Bool) (count size : ℕ) → count ≤ size + 1 → (if h then 0 else count) ≤ size + 1
    few true count size le = omega arith
    few false count size le = le

    next : (h : Bool) (mid floor count size : ℕ) → mid % 2 ^ 32 ≡ (floor + count) % 2 ^ 32
        → (if h then 0 else mid) % 2 ^ 32 ≡ ((if h then 2 ^ 32 * (floor + size + 1) else floor) + (if h then 0 else count)) % 2 ^ 32
    next true mid floor count size is = omega arith
    next false mid floor count size is = is

    below : (h : Bool) (mid floor count size : ℕ) → mid < floor + count → count ≤ size + 1 → mid < (if h then 2 ^ 32 * (floor + size + 1) else floor) + (if h then 0 else count)
    below true mid floor count size less le = omega arith
    below false mid floor count size less le = less

    going : (id : ℕ) (v : Option UnderWay) → (stream_named id streams).under_way ≡ v → LastIs history streams c.counts id v → LastIs (floors_raised streams history) (map committed_stream streams) (λ other b. if handed other then 0 else c.counts other b) id v
    going id None is last = tt
    going id (Some v) is last =
        let unpaused : handed id ≡ false = kept id (ap is_some is) in
        record {
          waiting = last.waiting;
          front = ap front_of (committed_messages streams id) ∙ last.front;
          mid = last.mid;
          is = last.is;
          from = rw unpaused last.from;
          last = rw unpaused last.last;
          came = last.came;
        }

-- SSNs count as before on a stream that wasn't handed out
pub ssns_committed : (id : ℕ) (log : List Slot) (streams : List Stream) → (is_handed_out (stream_named id streams).pause ≡ true → begun_on id log ≡ 0) → CountsTurns id log streams
    → CountsTurns id log (map committed_stream streams)
ssns_committed id log streams unsent c =
    record {
      next = ap (λ (k : ℕ). k % 2 ^ 16) (committed_ssn streams id) ∙ next (is_handed_out (stream_named id streams).pause) refl;
      sent = c.sent;
      going = λ v is. (let g = c.going v (sym (committed_under_way streams id) ∙ is) in record { waiting = g.waiting; front = ap front_of (committed_messages streams id) ∙ g.front; last = g.last });
    }
  where
    next : (h : Bool) → is_handed_out (stream_named id streams).pause ≡ h → (if h then 0 else (stream_named id streams).next_ssn) % 2 ^ 16 ≡ begun_on id log % 2 ^ 16
    next true is = ap (λ (k : ℕ). k % 2 ^ 16) (sym (unsent is))
    next false is = c.next

-- one that was handed out has a new floor
committed_ssns : (history : History) (streams : List Stream) (held : Option StreamId) → CountsSsns history streams held → CountsSsns (floors_raised streams history) (map committed_stream streams) held
committed_ssns history streams held c =
    record { turns = λ id start. go id (is_handed_out (stream_named id streams).pause) refl start.floor start.none; closes = c.closes; rests = c.rests }
  where
    go : (id : ℕ) (h : Bool) → is_handed_out (stream_named id streams).pause ≡ h → (if h then 2 ^ 32 * (history.floors id false + length history.log + 1) else history.floors id false) ≡ 0 → ((mark : Mark) → HasEntry mark history.marks → Resets mark id → ⊥)
        → CountsTurns id history.log (map committed_stream streams)
    go id true is floor none = absurd (omega (arith, floor))
    go id false is floor none =
        ssns_committed id history.log streams (λ handed. absurd (let clash : true ≡ false = sym handed ∙ is in cc)) (c.turns id (record { floor = floor; none = none }))

pub committing_hold : (queued : List Message) (history : History) (queue : SendQueueState) → QueueHolds queued history queue → QueueHolds queued (floors_raised queue.streams history) (queue_committed queue)
committing_hold queued history queue queues =
    record {
      queue_holds = alike_hold queued history.log queue.streams (map committed_stream queue.streams) (mapped_alike committed_stream (λ s. by_id s s.pause refl) (λ s. by_messages s s.pause refl) (λ s. by_under_way s s.pause refl) queue.streams) queues.queue_holds;
      next = queues.next;
      numbers = record { kinds = queues.numbers.kinds; counts = counted queue.is_interleaved queues.numbers.counts; kept = committed_kept queue.streams; whole = whole; rests = rests_stay history.log queue.streams (map committed_stream queue.streams) (committed_under_way queue.streams) queues.numbers.rests };
    }
  where
    whole : HoldsWhole history.log (queue_committed queue)
    whole = whole_stays history.log queue (queue_committed queue) (record { kind = refl; turns = refl; held = refl }) (committed_fronts queue.streams) queues.numbers.whole

    counted : (b : Bool) → CountsByKind b history queue.streams queue.held → CountsByKind b (floors_raised queue.streams history) (map committed_stream queue.streams) queue.held
    counted false counts = committed_ssns history queue.streams queue.held counts
    counted true counts = committed_counts history queue.streams queues.numbers.kept counts

    by_under_way : (s : Stream) (p : Pause) → s.pause ≡ p → (committed_stream s).under_way ≡ s.under_way
    by_under_way s Open is = rw is refl
    by_under_way s Pausing is = rw is refl
    by_under_way s HandedOut is = rw is refl

    by_id : (s : Stream) (p : Pause) → s.pause ≡ p → (committed_stream s).id ≡ s.id
    by_id s Open is = rw is refl
    by_id s Pausing is = rw is refl
    by_id s HandedOut is = rw is refl

    by_messages : (s : Stream) (p : Pause) → s.pause ≡ p → (committed_stream s).messages ≡ s.messages
    by_messages s Open is = rw is refl
    by_messages s Pausing is = rw is refl
    by_messages s HandedOut is = rw is refl

pub rolling_back_hold : (queued : List Message) (history : History) (queue : SendQueueState) → QueueHolds queued history queue → QueueHolds queued history (queue_rolled_back queue)
rolling_back_hold queued history queue queues =
    record {
      queue_holds = alike_hold queued history.log queue.streams (map rolled_back queue.streams) (mapped_alike rolled_back (λ s. by_id s s.pause refl) (λ s. by_messages s s.pause refl) (λ s. by_under_way s s.pause refl) queue.streams) queues.queue_holds;
      next = queues.next;
      numbers = numbered_stay history queue (queue_rolled_back queue) refl refl refl
          (numbers_mapped rolled_back (λ s. by_id s s.pause refl) (λ s. by_mids s s.pause refl) (λ s. front_kept s (rolled_back s) (by_under_way s s.pause refl) (by_messages s s.pause refl) (λ e. by_open s s.pause refl)) queue.streams) queues.numbers;
    }
  where
    by_under_way : (s : Stream) (p : Pause) → s.pause ≡ p → (rolled_back s).under_way ≡ s.under_way
    by_under_way s Open is = rw is refl
    by_under_way s Pausing is = rw is refl
    by_under_way s HandedOut is = rw is refl

    by_open : (s : Stream) (p : Pause) → s.pause ≡ p → is_handed_out (rolled_back s).pause ≡ false
    by_open s Open is = rw is refl
    by_open s Pausing is = rw is refl
    by_open s HandedOut is = rw is refl

    by_mids : (s : Stream) (p : Pause) → s.pause ≡ p → SameMids s (rolled_back s)
    by_mids s Open is = rw is (record { ordered = refl; unordered = refl; ssn = refl })
    by_mids s Pausing is = rw is (record { ordered = refl; unordered = refl; ssn = refl })
    by_mids s HandedOut is = rw is (record { ordered = refl; unordered = refl; ssn = refl })

    by_id : (s : Stream) (p : Pause) → s.pause ≡ p → (rolled_back s).id ≡ s.id
    by_id s Open is = rw is refl
    by_id s Pausing is = rw is refl
    by_id s HandedOut is = rw is refl

    by_messages : (s : Stream) (p : Pause) → s.pause ≡ p → (rolled_back s).messages ≡ s.messages
    by_messages s Open is = rw is refl
    by_messages s Pausing is = rw is refl
    by_messages s HandedOut is = rw is refl
