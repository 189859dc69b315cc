-- No stream is to be reset, where the user asks for none: no flush begins a reset then (RFC 6525,
-- section 5.1.2).
use Rattle.std.proofs.Common.{◌≡◌, ◌==◌, ℕ, zero, suc, Bool, true, false, List, [], ◌∷◌, map, filter, take, refl, sym, ◌∙◌, ap, subst}
use Rattle.std.specs.Prelude.{Option, None, Some, nat_lt, slice_set, if◌then◌else◌}
use Rattle.dcsctp_spec.specs.types.declared.association.Held.{Held}
use Rattle.dcsctp_spec.specs.Packet.{Emission}
use Rattle.dcsctp_spec.specs.association.Choices.{plain_contents}
use Rattle.dcsctp_spec.specs.types.Setting.{Setting, stream_priority, stream_low_threshold, longest_message}
use Rattle.dcsctp_spec.specs.types.declared.sending.Pause.TheVariants.{Open}
use Rattle.dcsctp_spec.specs.types.queues.SendStreams.{Stream, stream_at, unused_stream, with_message, committed_stream, rolled_back}
use Rattle.dcsctp_spec.specs.queues.OwnResets.{is_ready, queue_committed, queue_rolled_back}
use Rattle.dcsctp_spec.specs.queues.SendQueue.{SendQueueState, stream_changed, with_stream, is_used, used_streams, with_threshold, with_priority, queued_message as waiting_as}
use Rattle.dcsctp_spec.specs.queues.Transfer.{Transfer, EndpointQueues, is_idle}
use Rattle.dcsctp_spec.specs.endpoint.BegunResets.{BegunReset, begun_if_ready, begun_if_connected, stream_field, streams_within, last_assigned_tsn}
use Rattle.dcsctp_spec.specs.endpoint.Endpoint.{Endpoint}
use Rattle.dcsctp_spec.specs.endpoint.FlushOutcomes.{may_be_asked, Ask, first_ask, later_ask, begun_by_ask, room_of_draft, filling_event, Answer, answer_contents, filled_draft, asked_outcome, next_draft, flush_of, GivesUnlessIdle, IsAnswerOfQueues, IsFlushAnswer, AreFlushAnswers, at_limit, at_empty, after_packet}
use Rattle.dcsctp_spec.specs.endpoint.MessageOutcomes.{Sending, sending_queued}
use Rattle.dcsctp_spec.specs.endpoint.SettingOutcomes.{set_in_queue}
use Rattle.dcsctp_delivery_directions.specs.sending.Flushes.{begun_reset_of}
use Rattle.dcsctp_delivery_directions.specs.sending.Losing.{AreOpen}
use Rattle.dcsctp_delivery_directions.proofs.sending.KeptPauses.{FollowsPauses, before_request, after_request}
use Rattle.dcsctp_delivery_directions.proofs.sending.Packets.{out_below}
use Rattle.dcsctp_delivery_directions.proofs.sending.PausedFlushes.{requesting_none}

-- ---- streams that change

-- Where they were open before, they still are.
abbrev pub OpenStay : List Stream → List Stream → Type 0
OpenStay old new = AreOpen old → AreOpen new

open_set : (place : ℕ) (new : Stream) (streams : List Stream) → new.pause ≡ (stream_at streams place).pause → OpenStay streams (slice_set streams place new)
open_set zero new [] same are = are
open_set (suc place) new [] same are = are
open_set zero new (s ∷ streams) same are = (same ∙ are.0, are.1)
open_set (suc place) new (s ∷ streams) same are = (are.0, open_set place new streams same are.1)

open_follow : FollowsPauses OpenStay
open_follow =
    record {
      same = λ streams are. are;
      both = λ old between new one two are. two (one are);
      set = λ place new streams is same are. open_set place new streams same are;
    }

pub open_mapped : (f : Stream → Stream) → ((s : Stream) → s.pause ≡ Open → (f s).pause ≡ Open) → (streams : List Stream) → OpenStay streams (map f streams)
open_mapped f each [] are = are
open_mapped f each (s ∷ streams) are = (each s are.0, open_mapped f each streams are.1)

open_changed : (id : ℕ) (f : Stream → Stream) → ((s : Stream) → s.pause ≡ Open → (f s).pause ≡ Open) → (streams : List Stream) → OpenStay streams (stream_changed id f streams)
open_changed id f each streams are = open_mapped (λ s. if s.id == id then f s else s) (λ s is. one (s.id == id) s is) streams are
  where
    one : (b : Bool) (s : Stream) → s.pause ≡ Open → (if b then f s else s).pause ≡ Open
    one true s is = each s is
    one false s is = is

open_with : (s : Stream) (streams : List Stream) → s.pause ≡ Open → OpenStay streams (with_stream s streams)
open_with s [] is are = (is, tt)
open_with s (first ∷ streams) is are = go (nat_lt first.id s.id) (open_with s streams is are.1)
  where
    go : (b : Bool) → AreOpen (with_stream s streams) → AreOpen (if b then first ∷ with_stream s streams else s ∷ first ∷ streams)
    go true rest = (are.0, rest)
    go false rest = (is, are)

open_used : (queue : SendQueueState) (id : ℕ) → OpenStay queue.streams (used_streams queue id)
open_used queue id are = go (is_used id queue.streams)
  where
    go : (b : Bool) → AreOpen (if b then queue.streams else with_stream (unused_stream id queue.default_priority queue.default_threshold) queue.streams)
    go true = are
    go false = open_with (unused_stream id queue.default_priority queue.default_threshold) queue.streams refl are

-- ---- messages, settings, and ends of resets

pub queueing_open : (now : ℕ) (sending : Sending) (queue : SendQueueState) → OpenStay queue.streams (sending_queued now sending queue).streams
queueing_open now sending queue are =
    open_changed sending.message.stream (with_message (waiting_as now sending.message sending.options queue)) (λ s is. is) (used_streams queue sending.message.stream) (open_used queue sending.message.stream are)

pub setting_open : (setting : Setting) (queue : SendQueueState) → OpenStay queue.streams (set_in_queue setting queue).streams
setting_open (stream_priority id priority) queue are = open_changed id (with_priority priority) (λ s is. is) (used_streams queue id) (open_used queue id are)
setting_open (stream_low_threshold id bytes) queue are = open_changed id (with_threshold bytes) (λ s is. is) (used_streams queue id) (open_used queue id are)
setting_open (longest_message bytes) queue are = are

pub committing_open : (queue : SendQueueState) → OpenStay queue.streams (queue_committed queue).streams
committing_open queue are = open_mapped committed_stream (λ s is. rw is refl) queue.streams are

pub rolling_back_open : (queue : SendQueueState) → OpenStay queue.streams (queue_rolled_back queue).streams
rolling_back_open queue are = open_mapped rolled_back (λ s is. rw is refl) queue.streams are

-- ---- a flush

-- No stream is ready to be reset,
none_ready : (streams : List Stream) → AreOpen streams → filter is_ready streams ≡ []
none_ready [] are = refl
none_ready (s ∷ streams) are = rw are.0 (none_ready streams are.1)

-- so no reset is begun.
begun_of_none : (follows : Bool) (outstanding : Option ℕ) (number last_tsn : ℕ) → begun_if_ready follows outstanding number last_tsn [] ≡ None
begun_of_none follows None number last_tsn = refl
begun_of_none follows (Some request) number last_tsn = refl

take_none : (count : ℕ) → map stream_field (take count []) ≡ []
take_none zero = refl
take_none (suc count) = refl

begins_none : (follows : Bool) (held : Option Held) (room last_tsn : ℕ) (queue : SendQueueState) → AreOpen queue.streams → begun_if_connected follows held room last_tsn queue ≡ None
begins_none follows None room last_tsn queue are = refl
begins_none follows (Some held) room last_tsn queue are =
    ap (λ (l : List Stream). begun_if_ready follows held.own_outstanding held.own_next last_tsn (map stream_field (take (streams_within room) (map (λ (s : Stream). s.id) l)))) (none_ready queue.streams are)
    ∙ ap (λ (l : List ℕ). begun_if_ready follows held.own_outstanding held.own_next last_tsn l) (take_none (streams_within room)) ∙ begun_of_none follows held.own_outstanding held.own_next last_tsn

asks_none : (ask : Ask) (follows : Bool) (held : Option Held) (room last_tsn : ℕ) (queue : SendQueueState) → AreOpen queue.streams → begun_by_ask ask follows held room last_tsn queue ≡ None
asks_none first_ask follows held room last_tsn queue are = begins_none follows held room last_tsn queue are
asks_none later_ask follows held room last_tsn queue are = refl

-- No stream is to be reset after it, and none is asked for.
record StaysOpen (after : EndpointQueues) (begun : Option BegunReset) : Type 0 where
  unpaused : AreOpen after.queue.streams
  none : begun ≡ None

given_open : (b : Bool) (ask : Ask) (e : Endpoint) (draft : Emission) (transfer : Transfer) (answer : Answer) → GivesUnlessIdle b ask e draft transfer answer → AreOpen e.queues.queue.streams → StaysOpen answer.after.queues answer.begun
given_open true ask e draft transfer answer gives are =
    record { unpaused = subst (λ (a : Answer). AreOpen a.after.queues.queue.streams) (sym gives) are; none = ap (λ (a : Answer). a.begun) gives }
given_open false ask e draft transfer answer gives are =
    let room : ℕ = room_of_draft e (filled_draft draft (plain_contents answer.acknowledgements)) in
    let before : AreOpen gives.gave_up.waiting.streams = before_request OpenStay open_follow ask e draft transfer answer gives are in
    let none : answer.begun ≡ None = gives.begins ∙ asks_none ask e.options.follow_rfc (may_be_asked e.core e.options.follow_rfc) room (last_assigned_tsn gives.gave_up.queue) gives.gave_up.waiting before in
    record {
      unpaused = subst (λ (b : EndpointQueues). AreOpen b.queue.streams) (sym gives.below)
          (after_request OpenStay open_follow ask e draft transfer answer gives
          (subst (λ (q : SendQueueState). AreOpen q.streams) (sym (requesting_none (streams_within room) answer.begun gives.gave_up.waiting none)) before));
      none = none;
    }

answered_open : (ask : Ask) (e : Endpoint) (draft : Emission) (transfer : Option Transfer) (answer : Answer) → IsAnswerOfQueues ask e draft answer transfer → AreOpen e.queues.queue.streams → StaysOpen answer.after.queues answer.begun
answered_open ask e draft None answer answered are =
    record { unpaused = subst (λ (a : Answer). AreOpen a.after.queues.queue.streams) (sym answered) are; none = ap (λ (a : Answer). a.begun) answered }
answered_open ask e draft (Some transfer) answer answered are = given_open (is_idle e.queues.queue transfer) ask e draft transfer answer answered are

asked_open : (ask : Ask) (e : Endpoint) (draft : Emission) (answer : Answer) → IsFlushAnswer ask e draft answer → AreOpen e.queues.queue.streams → StaysOpen (asked_outcome e draft answer).after.queues answer.begun
asked_open ask e draft answer answered are =
    subst (λ (b : EndpointQueues). StaysOpen b answer.begun)
    (sym (out_below answer.after (map filling_event answer.told) draft.with_checksum draft.packet.tag (filled_draft draft (answer_contents answer)).packet.contents))
    (answered_open ask e draft e.queues.transfer answer answered.by_transfer are)

-- A flush leaves them open, and begins no reset.
pub flush_open : (ask : Ask) (n : ℕ) (e : Endpoint) (draft : Emission) (answers : List Answer) → AreFlushAnswers ask n e draft answers → OpenStay e.queues.queue.streams (flush_of e draft answers).after.queues.queue.streams
flush_open _ _ _ _ _ (at_limit ask e draft) are = are
flush_open _ _ _ _ _ (at_empty ask more e draft answer is empty) are = (asked_open ask e draft answer is are).unpaused
flush_open _ _ _ _ _ (after_packet ask more e draft answer answers is some rest) are =
    flush_open later_ask more (asked_outcome e draft answer).after (next_draft e.core draft) answers rest (asked_open ask e draft answer is are).unpaused

pub flush_asks_none : (ask : Ask) (n : ℕ) (e : Endpoint) (draft : Emission) (answers : List Answer) → AreFlushAnswers ask n e draft answers → AreOpen e.queues.queue.streams → begun_reset_of answers ≡ None
flush_asks_none _ _ _ _ _ (at_limit ask e draft) are = refl
flush_asks_none _ _ _ _ _ (at_empty ask more e draft answer is empty) are = (asked_open ask e draft answer is are).none
flush_asks_none _ _ _ _ _ (after_packet ask more e draft answer answers is some rest) are = (asked_open ask e draft answer is are).none
