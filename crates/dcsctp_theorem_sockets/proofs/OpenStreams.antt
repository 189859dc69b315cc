-- Streams that aren't to be reset: what a restore makes of the send queue has no others, and giving
-- messages up keeps it so.
use Rattle.std.proofs.Common.{◌≡◌, ◌==◌, inl, inr, ℕ, zero, suc, nat_lt, Bool, true, false, if◌then◌else◌, List, [], ◌∷◌, map, filter, length, ◌-◌, slice_set, refl, sym, subst, ap}
use Rattle.std.specs.List.{AllByRecursion}
use Rattle.dcsctp_spec_lemmas.specs.types.declared.sending.Pause.TheVariants.{Open}
use Rattle.dcsctp_spec_lemmas.specs.types.declared.snapshot.HandoverOutgoingStream.{HandoverOutgoingStream}
use Rattle.dcsctp_spec_lemmas.specs.spec.endpoint.Event.{Event}
use Rattle.dcsctp_spec_lemmas.specs.types.Snapshot.{SendPart}
use Rattle.dcsctp_spec_lemmas.specs.types.SnapshotItems.{QueuedPart}
use Rattle.dcsctp_spec_lemmas.specs.spec.queues.Abandoning.{GivesUpFirst}
use Rattle.dcsctp_spec_lemmas.specs.spec.queues.Filling.{Stage, ClosesMessage, GivesUpItem, StageSteps, none, more}
use Rattle.dcsctp_spec_lemmas.specs.spec.queues.Items.{Item}
use Rattle.dcsctp_spec_lemmas.specs.spec.queues.OwnResets.{is_ready, ready_streams, with_used}
use Rattle.dcsctp_spec_lemmas.specs.spec.queues.QueuedParts.{emptied_stream, queue_emptied, stream_restored, streams_restored, waiting_again, is_part_continued, progress_again, with_rest, with_message_rest, queue_continued, message_restored, messages_restored, queue_restored}
use Rattle.dcsctp_spec_lemmas.specs.spec.queues.SendQueue.{SendQueueState, stream_changed, with_stream, is_used, used_streams}
use Rattle.dcsctp_spec_lemmas.specs.spec.queues.Sending.{without_rest, DiscardsNamed}
use Rattle.dcsctp_spec_lemmas.specs.types.queues.SendStreams.{Waiting, Stream, stream_with_progress, stream_at, unused_stream}

-- it isn't to be reset
abbrev pub IsOpen : Stream → Type 0
IsOpen stream = stream.pause ≡ Open

abbrev pub AreOpen : List Stream → Type 0
AreOpen streams = AllByRecursion IsOpen streams

-- ---- none is ready

none_is_ready : (streams : List Stream) → AreOpen streams → filter is_ready streams ≡ []
none_is_ready [] are = refl
none_is_ready (stream ∷ streams) are = rw are.0 (none_is_ready streams are.1)

pub nothing_ready : (queue : SendQueueState) → AreOpen queue.streams → ready_streams queue ≡ []
nothing_ready queue are = ap (λ (streams : List Stream). map (λ (stream : Stream). stream.id) streams) (none_is_ready queue.streams are)

-- ---- one stream of a list

either : (b : Bool) (stream other : Stream) → IsOpen stream → IsOpen other → IsOpen (if b then stream else other)
either true stream other is was = is
either false stream other is was = was

changed_open : (id : ℕ) (f : Stream → Stream) (streams : List Stream) → ((stream : Stream) → IsOpen stream → IsOpen (f stream)) → AreOpen streams → AreOpen (stream_changed id f streams)
changed_open id f [] keeps are = tt
changed_open id f (stream ∷ streams) keeps are = (either (stream.id == id) (f stream) stream (keeps stream are.0) are.0, changed_open id f streams keeps are.1)

placed_open : (b : Bool) (stream first : Stream) (rest streams : List Stream) → IsOpen stream → IsOpen first → AreOpen rest → AreOpen streams
    → AreOpen (if b then first ∷ rest else stream ∷ first ∷ streams)
placed_open true stream first rest streams is was behind are = (was, behind)
placed_open false stream first rest streams is was behind are = (is, (was, are))

with_stream_open : (stream : Stream) (streams : List Stream) → IsOpen stream → AreOpen streams → AreOpen (with_stream stream streams)
with_stream_open stream [] is are = (is, tt)
with_stream_open stream (first ∷ streams) is are =
    placed_open (nat_lt first.id stream.id) stream first (with_stream stream streams) streams is are.0 (with_stream_open stream streams is are.1) are.1

used_open : (queue : SendQueueState) (id : ℕ) → AreOpen queue.streams → AreOpen (used_streams queue id)
used_open queue id are = by_use (is_used id queue.streams)
  where
    by_use : (b : Bool) → AreOpen (if b then queue.streams else with_stream (unused_stream id queue.default_priority queue.default_threshold) queue.streams)
    by_use true = are
    by_use false = with_stream_open (unused_stream id queue.default_priority queue.default_threshold) queue.streams refl are

at_open : (streams : List Stream) (place : ℕ) → AreOpen streams → IsOpen (stream_at streams place)
at_open [] zero are = refl
at_open [] (suc place) are = refl
at_open (stream ∷ streams) zero are = are.0
at_open (stream ∷ streams) (suc place) are = at_open streams place are.1

set_open : (streams : List Stream) (place : ℕ) (stream : Stream) → IsOpen stream → AreOpen streams → AreOpen (slice_set streams place stream)
set_open [] zero stream is are = tt
set_open [] (suc place) stream is are = tt
set_open (first ∷ streams) zero stream is are = (is, are.1)
set_open (first ∷ streams) (suc place) stream is are = (are.0, set_open streams place stream is are.1)

-- ---- what a restore makes

emptied_open : (streams : List Stream) → AreOpen (map emptied_stream streams)
emptied_open [] = tt
emptied_open (stream ∷ streams) = (refl, emptied_open streams)

streams_open : (named : List HandoverOutgoingStream) (queue : SendQueueState) → AreOpen queue.streams → AreOpen (streams_restored named queue).streams
streams_open [] queue are = are
streams_open (named ∷ rest) queue are =
    streams_open rest (record (with_used named.id queue) { streams = stream_changed named.id (stream_restored named) (used_streams queue named.id) })
    (changed_open named.id (stream_restored named) (used_streams queue named.id) (λ stream is. is) (used_open queue named.id are))

with_rest_open : (now : ℕ) (part : QueuedPart) (rest : ℕ) (queue : SendQueueState) → AreOpen queue.streams → AreOpen (with_message_rest now part rest queue).streams
with_rest_open now part rest queue are =
    changed_open part.stream_id (with_rest (waiting_again now part) rest) (used_streams queue part.stream_id) (λ stream is. is) (used_open queue part.stream_id are)

either_queue : (b : Bool) (queue other : SendQueueState) → AreOpen queue.streams → AreOpen other.streams → AreOpen (if b then queue else other).streams
either_queue true queue other are were = are
either_queue false queue other are were = were

message_open : (now : ℕ) (part : QueuedPart) (queue : SendQueueState) → AreOpen queue.streams → AreOpen (message_restored now part queue).streams
message_open now part queue are =
    let rest = with_message_rest now part (length part.payload - part.remaining_offset) queue in
    either_queue (is_part_continued part queue) (queue_continued part.stream_id (waiting_again now part) (progress_again part) rest) (with_message_rest now part (length part.payload) queue)
    (changed_open part.stream_id (stream_with_progress (progress_again part)) rest.streams (λ stream is. is) (with_rest_open now part _ queue are)) (with_rest_open now part _ queue are)

messages_open : (now : ℕ) (parts : List QueuedPart) (queue : SendQueueState) → AreOpen queue.streams → AreOpen (messages_restored now parts queue).streams
messages_open now [] queue are = are
messages_open now (part ∷ parts) queue are = messages_open now parts (message_restored now part queue) (message_open now part queue are)

-- Each stream of it may send, and none is to be reset.
pub restored_open : (now : ℕ) (tx : SendPart) (queue : SendQueueState) → AreOpen (queue_restored now tx queue).streams
restored_open now tx queue =
    messages_open now tx.queued_messages (streams_restored tx.streams (queue_emptied queue)) (streams_open tx.streams (queue_emptied queue) (emptied_open queue.streams))

-- ---- what is given up

rest_open : (place sent : ℕ) (message : Waiting) (queue : SendQueueState) → AreOpen queue.streams → AreOpen (without_rest place sent message queue).streams
rest_open place sent message queue are =
    let reduced_open = set_open queue.streams place _ (at_open queue.streams place are) are in
    set_open _ place _ (at_open _ place reduced_open) reduced_open

discarded_open : {P : Type 0} (old new : SendQueueState) (stream message_id : ℕ) (before after : List (Event P)) (is_dropped : Bool)
    → DiscardsNamed old stream message_id before is_dropped new after → AreOpen old.streams → AreOpen new.streams
discarded_open old new stream message_id before after true h are =
    subst (λ (queue : SendQueueState). AreOpen queue.streams) (sym h.left) (rest_open h.named.place h.named.under_way.sent h.named.message old are)
discarded_open old new stream message_id before after false h are = subst (λ (queue : SendQueueState). AreOpen queue.streams) (sym h.1) are

-- no stream of what waits is to be reset
abbrev pub IsStageOpen : Stage → Type 0
IsStageOpen stage = AreOpen stage.waiting.streams

closed_open : (now : ℕ) (last : Item) (old new : Stage) (is_end : Bool) → ClosesMessage now last old new is_end → IsStageOpen old → IsStageOpen new
closed_open now last old new true h are = subst IsStageOpen (sym h) are
closed_open now last old new false (inl h) are =
    discarded_open old.waiting new.waiting last.fragment.stream last.fragment.message_id old.told new.told h.1.drops.is_dropped h.1.drops.drops are
closed_open now last old new false (inr h) are = subst IsStageOpen (sym h.1) are

given_up_open : (now place : ℕ) (old new : Stage) → GivesUpItem now place old new → IsStageOpen old → IsStageOpen new
given_up_open now place old new h are =
    subst IsStageOpen (sym h.is) (closed_open now h.last old h.closed h.last.fragment.is_end h.closes are)

pub steps_open : (now : ℕ) (old new : Stage) → StageSteps (GivesUpFirst now) old new → IsStageOpen old → IsStageOpen new
steps_open now old _ none are = are
steps_open now old _ (more between new before step) are = given_up_open now step.place between new step.gives_up (steps_open now old between before are)
