-- What waits still does once something is queued or set, and once a reset has ended.
use Rattle.std.proofs.Common.{◌≡◌, ◌==◌, ℕ, zero, suc, Bool, true, false, ◌<◌, List, [], ◌∷◌, ◌++◌, length, map, refl, arith, inl, inr}
use Rattle.std.specs.Prelude.{nat_lt, if◌then◌else◌}
use Rattle.std.proofs.lemmas.Bool.Decides.{eqb_tells}
use Rattle.dcsctp_spec.specs.types.declared.sending.Pause.{Pause}
use Rattle.dcsctp_spec.specs.types.declared.sending.Pause.TheVariants.{Open, Pausing, HandedOut}
use Rattle.dcsctp_spec.specs.types.queues.SendStreams.{Waiting, Stream, stream_at, unused_stream, with_message, committed_stream, rolled_back}
use Rattle.dcsctp_spec.specs.types.Setting.{Setting, stream_priority, stream_low_threshold, longest_message}
use Rattle.dcsctp_spec.specs.queues.OwnResets.{queue_committed, queue_rolled_back}
use Rattle.dcsctp_spec.specs.queues.SendQueue.{SendQueueState, stream_changed, with_stream, is_used, used_streams, with_threshold, with_priority, queued_message as waiting_as}
use Rattle.dcsctp_spec.specs.endpoint.MessageOutcomes.{Sending, sending_queued}
use Rattle.dcsctp_spec.specs.endpoint.SettingOutcomes.{set_in_queue}
use Rattle.dcsctp_delivery_directions.specs.sending.Places.{HasEntry}
use Rattle.dcsctp_delivery_directions.specs.sending.Losing.{StillWaits}

-- ---- streams that change

-- What waits before waits after.
abbrev pub WaitOn : Stream → Stream → Type 0
WaitOn old new = (w : Waiting) → HasEntry w old.messages → HasEntry w new.messages

module _ (f : Stream → Stream) (grows : (s : Stream) → WaitOn s (f s)) where
  mapped_at : (l : List Stream) (q : ℕ) → WaitOn (stream_at l q) (stream_at (map f l) q)
  mapped_at [] zero w has = has
  mapped_at [] (suc q) w has = has
  mapped_at (s ∷ l) zero w has = grows s w has
  mapped_at (s ∷ l) (suc q) w has = mapped_at l q w has

  pub waits_mapped : (l : List Stream) (place : ℕ) → StillWaits l place → StillWaits (map f l) place
  waits_mapped l place waits = record { q = waits.q; waiting = waits.waiting; has = mapped_at l waits.q waits.waiting waits.has; is = waits.is }

waits_changed : (id : ℕ) (f : Stream → Stream) → ((s : Stream) → WaitOn s (f s)) → (l : List Stream) (place : ℕ) → StillWaits l place → StillWaits (stream_changed id f l) place
waits_changed id f grows l place waits = waits_mapped (λ s. if s.id == id then f s else s) (λ s w has. one (s.id == id) s w has) l place waits
  where
    one : (b : Bool) (s : Stream) → WaitOn s (if b then f s else s)
    one true s w has = grows s w has
    one false s w has = has

-- ---- a stream that is used for the first time

with_at : (s : Stream) (l : List Stream) (q : ℕ) (w : Waiting) → HasEntry w (stream_at l q).messages → (k : ℕ) × HasEntry w (stream_at (with_stream s l) k).messages
with_at s [] zero w has = absurd has
with_at s [] (suc q) w has = absurd has
with_at s (first ∷ l) q w has = go (nat_lt first.id s.id) q has (λ r h. with_at s l r w h)
  where
    go : (b : Bool) (q : ℕ) → HasEntry w (stream_at (first ∷ l) q).messages → ((r : ℕ) → HasEntry w (stream_at l r).messages → (k : ℕ) × HasEntry w (stream_at (with_stream s l) k).messages)
        → (k : ℕ) × HasEntry w (stream_at (if b then first ∷ with_stream s l else s ∷ first ∷ l) k).messages
    go true zero has' rest = (0, has')
    go true (suc r) has' rest = (let (k, there) = rest r has' in (suc k, there))
    go false r has' rest = (suc r, has')

waits_used : (queue : SendQueueState) (id place : ℕ) → StillWaits queue.streams place → StillWaits (used_streams queue id) place
waits_used queue id place waits = go (is_used id queue.streams)
  where
    go : (b : Bool) → StillWaits (if b then queue.streams else with_stream (unused_stream id queue.default_priority queue.default_threshold) queue.streams) place
    go true = waits
    go false =
        let (k, has) = with_at (unused_stream id queue.default_priority queue.default_threshold) queue.streams waits.q waits.waiting waits.has in
        record { q = k; waiting = waits.waiting; has = has; is = waits.is }

-- ---- what is queued

-- The stream of this number is among them.
record IsAmong (id : ℕ) (l : List Stream) : Type 0 where
  k : ℕ
  within : k < length l
  is : (stream_at l k).id ≡ id

among_later : (id : ℕ) (s : Stream) (l : List Stream) → IsAmong id l → IsAmong id (s ∷ l)
among_later id s l a = record { k = suc a.k; within = omega (arith, a.within); is = a.is }

among_used : (id : ℕ) (l : List Stream) → is_used id l ≡ true → IsAmong id l
among_used id [] is = absurd (cc)
among_used id (s ∷ l) is =
    elim (eqb_tells s.id id) [
      | inl e ↦ record { k = 0; within = omega arith; is = e.1 }
      | inr e ↦ among_later id s l (among_used id l (rw e.0 at is))
    ]

among_with : (s : Stream) (l : List Stream) → IsAmong s.id (with_stream s l)
among_with s [] = record { k = 0; within = omega arith; is = refl }
among_with s (first ∷ l) = go (nat_lt first.id s.id) (among_with s l)
  where
    go : (b : Bool) → IsAmong s.id (with_stream s l) → IsAmong s.id (if b then first ∷ with_stream s l else s ∷ first ∷ l)
    go true rest = among_later s.id first (with_stream s l) rest
    go false rest = record { k = 0; within = omega arith; is = refl }

among_all : (queue : SendQueueState) (id : ℕ) → IsAmong id (used_streams queue id)
among_all queue id = go (is_used id queue.streams) refl
  where
    go : (b : Bool) → is_used id queue.streams ≡ b → IsAmong id (if b then queue.streams else with_stream (unused_stream id queue.default_priority queue.default_threshold) queue.streams)
    go true is = among_used id queue.streams is
    go false is = among_with (unused_stream id queue.default_priority queue.default_threshold) queue.streams

append_has : (m : Waiting) (messages : List Waiting) → HasEntry m (messages ++ m ∷ [])
append_has m [] = inl refl
append_has m (w ∷ messages) = inr (append_has m messages)

append_keeps : (m : Waiting) (messages : List Waiting) (w : Waiting) → HasEntry w messages → HasEntry w (messages ++ m ∷ [])
append_keeps m [] w has = absurd has
append_keeps m (v ∷ messages) w has = elim has [ inl e ↦ inl e | inr t ↦ inr (append_keeps m messages w t) ]

changed_has : (id : ℕ) (m : Waiting) (l : List Stream) (k : ℕ) → k < length l → (stream_at l k).id ≡ id → HasEntry m (stream_at (stream_changed id (with_message m) l) k).messages
changed_has id m [] k below is = absurd (omega arith)
changed_has id m (s ∷ l) zero below is = elim (eqb_tells s.id id) [ inl e ↦ rw e.0 (append_has m s.messages) | inr e ↦ absurd (e.1 is) ]
changed_has id m (s ∷ l) (suc k) below is = changed_has id m l k (omega (arith, below)) is

-- It waits under the next identifier,
pub queued_waits : (now : ℕ) (sending : Sending) (queue : SendQueueState) → StillWaits (sending_queued now sending queue).streams queue.next_message_id
queued_waits now sending queue =
    let a = among_all queue sending.message.stream in
    let m : Waiting = waiting_as now sending.message sending.options queue in
    record { q = a.k; waiting = m; has = changed_has sending.message.stream m (used_streams queue sending.message.stream) a.k a.within a.is; is = refl }

-- and what waited before still does.
pub queueing_waits : (now : ℕ) (sending : Sending) (queue : SendQueueState) (place : ℕ) → StillWaits queue.streams place → StillWaits (sending_queued now sending queue).streams place
queueing_waits now sending queue place waits =
    let m : Waiting = waiting_as now sending.message sending.options queue in
    waits_changed sending.message.stream (with_message m) (λ s w has. append_keeps m s.messages w has) (used_streams queue sending.message.stream) place (waits_used queue sending.message.stream place waits)

-- ---- settings, and ends of resets

pub setting_waits : (setting : Setting) (queue : SendQueueState) (place : ℕ) → StillWaits queue.streams place → StillWaits (set_in_queue setting queue).streams place
setting_waits (stream_priority id priority) queue place waits = waits_changed id (with_priority priority) (λ s w has. has) (used_streams queue id) place (waits_used queue id place waits)
setting_waits (stream_low_threshold id bytes) queue place waits = waits_changed id (with_threshold bytes) (λ s w has. has) (used_streams queue id) place (waits_used queue id place waits)
setting_waits (longest_message bytes) queue place waits = waits

pub committing_waits : (queue : SendQueueState) (place : ℕ) → StillWaits queue.streams place → StillWaits (queue_committed queue).streams place
committing_waits queue place waits = waits_mapped committed_stream (λ s w has. one s s.pause refl w has) queue.streams place waits
  where
    one : (s : Stream) (p : Pause) → s.pause ≡ p → WaitOn s (committed_stream s)
    one s Open is w has = rw is has
    one s Pausing is w has = rw is has
    one s HandedOut is w has = rw is has

pub rolling_back_waits : (queue : SendQueueState) (place : ℕ) → StillWaits queue.streams place → StillWaits (queue_rolled_back queue).streams place
rolling_back_waits queue place waits = waits_mapped rolled_back (λ s w has. one s s.pause refl w has) queue.streams place waits
  where
    one : (s : Stream) (p : Pause) → s.pause ≡ p → WaitOn s (rolled_back s)
    one s Open is w has = rw is has
    one s Pausing is w has = rw is has
    one s HandedOut is w has = rw is has
