-- A stream that the user never asks to reset is never paused, whatever becomes of others: no flush
-- hands it out (RFC 6525, section 5.1.2), and what waits on it waits still.
use Rattle.std.proofs.Common.{◌≡◌, ◌==◌, ℕ, zero, suc, Bool, true, false, List, [], ◌∷◌, map, filter, take, refl, sym, ◌∙◌, subst, inl, inr}
use Rattle.std.specs.Prelude.{◌||◌, Option, None, Some, nat_lt, slice_set, if◌then◌else◌}
use Rattle.std.proofs.lemmas.Bool.{eqb-true}
use Rattle.std.proofs.lemmas.Bool.Decides.{eqb_tells}
use Rattle.dcsctp_spec.specs.Packet.{Emission}
use Rattle.dcsctp_spec.specs.association.Choices.{plain_contents}
use Rattle.dcsctp_spec.specs.types.Setting.{Setting, stream_priority, stream_low_threshold, longest_message}
use Rattle.dcsctp_spec.specs.types.declared.sending.Pause.{Pause}
use Rattle.dcsctp_spec.specs.types.declared.sending.Pause.TheVariants.{Open, Pausing, HandedOut}
use Rattle.dcsctp_spec.specs.types.queues.SendStreams.{Waiting, Stream, stream_at, unused_stream, with_message, committed_stream, rolled_back, handed_out}
use Rattle.dcsctp_spec.specs.queues.OwnResets.{is_ready, ready_streams, handing_out, queue_committed, queue_rolled_back, queue_with_prepared, prepared_all, prepared_open, prepared_stream, dropped_size, count_under_way, with_used, is_open_pause}
use Rattle.dcsctp_spec.specs.queues.SendQueue.{SendQueueState, stream_changed, with_stream, is_used, used_streams, with_threshold, with_priority, queue_stream, queued_message as waiting_as}
use Rattle.dcsctp_spec.specs.queues.Transfer.{Transfer, EndpointQueues, is_idle}
use Rattle.dcsctp_spec.specs.queues.Incoming.{is_named}
use Rattle.dcsctp_spec.specs.endpoint.BegunResets.{BegunReset, queue_requesting, streams_within}
use Rattle.dcsctp_spec.specs.endpoint.Endpoint.{Endpoint}
use Rattle.dcsctp_spec.specs.endpoint.FlushOutcomes.{Ask, later_ask, room_of_draft, filling_event, Answer, answer_contents, filled_draft, asked_outcome, next_draft, flush_of, GivesUnlessIdle, IsAnswerOfQueues, IsFlushAnswer, AreFlushAnswers, at_limit, at_empty, after_packet}
use Rattle.dcsctp_spec.specs.endpoint.MessageOutcomes.{Sending, sending_queued}
use Rattle.dcsctp_spec.specs.endpoint.SettingOutcomes.{set_in_queue}
use Rattle.dcsctp_delivery_directions.specs.sending.Places.{HasEntry}
use Rattle.dcsctp_delivery_directions.proofs.sending.KeptPauses.{FollowsPauses, before_request, after_request}
use Rattle.dcsctp_delivery_directions.proofs.sending.Packets.{out_below}
use Rattle.dcsctp_delivery_directions.specs.sending.Losing.{IsOpenOn}

module _ (id : ℕ) where
  -- Where the stream was open before, it still is.
  abbrev pub OpenStays : List Stream → List Stream → Type 0
  OpenStays old new = IsOpenOn id old → IsOpenOn id new

  open_set : (place : ℕ) (new : Stream) (streams : List Stream) → new.id ≡ (stream_at streams place).id → new.pause ≡ (stream_at streams place).pause → OpenStays streams (slice_set streams place new)
  open_set zero new [] is same are = are
  open_set (suc place) new [] is same are = are
  open_set zero new (s ∷ streams) is same are = (λ on. same ∙ are.0 (sym is ∙ on), are.1)
  open_set (suc place) new (s ∷ streams) is same are = (are.0, open_set place new streams is same are.1)

  open_follow : FollowsPauses OpenStays
  open_follow =
      record {
        same = λ streams are. are;
        both = λ old between new one two are. two (one are);
        set = λ place new streams is same are. open_set place new streams is same are;
      }

  open_mapped : (f : Stream → Stream) → ((s : Stream) → (s.id ≡ id → s.pause ≡ Open) → (f s).id ≡ id → (f s).pause ≡ Open) → (streams : List Stream) → OpenStays streams (map f streams)
  open_mapped f each [] are = are
  open_mapped f each (s ∷ streams) are = (each s are.0, open_mapped f each streams are.1)

  open_changed : (other : ℕ) (f : Stream → Stream) → ((s : Stream) → s.id ≡ other → (s.id ≡ id → s.pause ≡ Open) → (f s).id ≡ id → (f s).pause ≡ Open) → (streams : List Stream) → OpenStays streams (stream_changed other f streams)
  open_changed other f each streams are = open_mapped (λ s. if s.id == other then f s else s) (λ s is. one (s.id == other) s refl is) streams are
    where
      one : (b : Bool) (s : Stream) → (s.id == other) ≡ b → (s.id ≡ id → s.pause ≡ Open) → (if b then f s else s).id ≡ id → (if b then f s else s).pause ≡ Open
      one true s e is = each s (eqb-true s.id other e) is
      one false s e is = is

  open_with : (s : Stream) (streams : List Stream) → s.pause ≡ Open → OpenStays streams (with_stream s streams)
  open_with s [] is are = (λ on. is, tt)
  open_with s (first ∷ streams) is are = go (nat_lt first.id s.id) (open_with s streams is are.1)
    where
      go : (b : Bool) → IsOpenOn id (with_stream s streams) → IsOpenOn id (if b then first ∷ with_stream s streams else s ∷ first ∷ streams)
      go true rest = (are.0, rest)
      go false rest = (λ on. is, are)

  open_used : (queue : SendQueueState) (other : ℕ) → OpenStays queue.streams (used_streams queue other)
  open_used queue other are = go (is_used other queue.streams)
    where
      go : (b : Bool) → IsOpenOn id (if b then queue.streams else with_stream (unused_stream other queue.default_priority queue.default_threshold) queue.streams)
      go true = are
      go false = open_with (unused_stream other queue.default_priority queue.default_threshold) queue.streams refl are

  -- ---- messages, settings, ends of resets, and resets of other streams

  pub queueing_open_on : (now : ℕ) (sending : Sending) (queue : SendQueueState) → OpenStays queue.streams (sending_queued now sending queue).streams
  queueing_open_on now sending queue are =
      open_changed sending.message.stream (with_message (waiting_as now sending.message sending.options queue)) (λ s here is. is) (used_streams queue sending.message.stream) (open_used queue sending.message.stream are)

  pub setting_open_on : (setting : Setting) (queue : SendQueueState) → OpenStays queue.streams (set_in_queue setting queue).streams
  setting_open_on (stream_priority other priority) queue are = open_changed other (with_priority priority) (λ s here is. is) (used_streams queue other) (open_used queue other are)
  setting_open_on (stream_low_threshold other bytes) queue are = open_changed other (with_threshold bytes) (λ s here is. is) (used_streams queue other) (open_used queue other are)
  setting_open_on (longest_message bytes) queue are = are

  committed_id : (s : Stream) (p : Pause) → s.pause ≡ p → (committed_stream s).id ≡ s.id
  committed_id s Open is = rw is refl
  committed_id s Pausing is = rw is refl
  committed_id s HandedOut is = rw is refl

  rolled_id : (s : Stream) (p : Pause) → s.pause ≡ p → (rolled_back s).id ≡ s.id
  rolled_id s Open is = rw is refl
  rolled_id s Pausing is = rw is refl
  rolled_id s HandedOut is = rw is refl

  pub committing_open_on : (queue : SendQueueState) → OpenStays queue.streams (queue_committed queue).streams
  committing_open_on queue are = open_mapped committed_stream (λ s is on. (let opened : s.pause ≡ Open = is (sym (committed_id s s.pause refl) ∙ on) in rw opened refl)) queue.streams are

  pub rolling_back_open_on : (queue : SendQueueState) → OpenStays queue.streams (queue_rolled_back queue).streams
  rolling_back_open_on queue are = open_mapped rolled_back (λ s is on. (let opened : s.pause ≡ Open = is (sym (rolled_id s s.pause refl) ∙ on) in rw opened refl)) queue.streams are

  not_first : (a b : Bool) → (a || b) ≡ false → (a ≡ false) × (b ≡ false)
  not_first true b e = absurd (cc)
  not_first false b e = (refl, e)

  other_than : (first : ℕ) (ids : List ℕ) → is_named (first ∷ ids) id ≡ false → (first ≡ id → ⊥) × (is_named ids id ≡ false)
  other_than first ids none =
      let both = not_first (first == id) (is_named ids id) none in
      (elim (eqb_tells first id) [ inl e ↦ λ is. (let clash : true ≡ false = sym e.0 ∙ both.0 in absurd (cc)) | inr e ↦ e.1 ], both.1)

  prepared_open_on : (other : ℕ) (queue : SendQueueState) → (other ≡ id → ⊥) → OpenStays queue.streams (queue_with_prepared other queue).streams
  prepared_open_on other queue ne are = go (is_open_pause (queue_stream start other).pause)
    where
      start : SendQueueState
      start = with_used other queue

      go : (b : Bool) → IsOpenOn id (if b then prepared_open other start else start).streams
      go true =
          open_changed other (prepared_stream (dropped_size other start) (count_under_way (queue_stream start other))) (λ s here is on. absurd (ne (sym here ∙ on))) start.streams (open_used queue other are)
      go false = open_used queue other are

  pub preparing_open_on : (ids : List ℕ) (queue : SendQueueState) → is_named ids id ≡ false → OpenStays queue.streams (prepared_all ids queue).streams
  preparing_open_on [] queue none are = are
  preparing_open_on (other ∷ ids) queue none are =
      let both = other_than other ids none in
      preparing_open_on ids (queue_with_prepared other queue) both.1 (prepared_open_on other queue both.0 are)

  -- ---- a flush

  handing_open : (ids : List ℕ) (streams : List Stream) → is_named ids id ≡ false → OpenStays streams (handing_out ids streams)
  handing_open [] streams none are = are
  handing_open (first ∷ ids) streams none are =
      let both = other_than first ids none in
      handing_open ids (stream_changed first handed_out streams) both.1 (open_changed first handed_out (λ s here is on. absurd (both.0 (sym here ∙ on))) streams are)

  none_taken : (count : ℕ) (ids : List ℕ) → is_named ids id ≡ false → is_named (take count ids) id ≡ false
  none_taken zero ids none = refl
  none_taken (suc count) [] none = refl
  none_taken (suc count) (first ∷ ids) none = (let both = not_first (first == id) (is_named ids id) none in rw both.0 (none_taken count ids both.1))

  -- it isn't ready to be reset
  none_ready : (streams : List Stream) → IsOpenOn id streams → is_named (map (λ stream. stream.id) (filter is_ready streams)) id ≡ false
  none_ready [] are = refl
  none_ready (s ∷ streams) are =
      elim (eqb_tells s.id id) [
        | inl e ↦ rw (are.0 e.1) (none_ready streams are.1)
        | inr e ↦ go (is_ready s) e.0 (none_ready streams are.1)
      ]
    where
      go : (b : Bool) → (s.id == id) ≡ false → is_named (map (λ stream. stream.id) (filter is_ready streams)) id ≡ false
          → is_named (map (λ stream. stream.id) (if b then s ∷ filter is_ready streams else filter is_ready streams)) id ≡ false
      go true other rest = rw other rest
      go false other rest = rest

  requesting_open : (count : ℕ) (begun : Option BegunReset) (queue : SendQueueState) → OpenStays queue.streams (queue_requesting count begun queue).streams
  requesting_open count None queue are = are
  requesting_open count (Some begun) queue are = handing_open (take count (ready_streams queue)) queue.streams (none_taken count (ready_streams queue) (none_ready queue.streams are)) are

  given_open : (b : Bool) (ask : Ask) (e : Endpoint) (draft : Emission) (transfer : Transfer) (answer : Answer) → GivesUnlessIdle b ask e draft transfer answer → OpenStays e.queues.queue.streams answer.after.queues.queue.streams
  given_open true ask e draft transfer answer gives are = subst (λ (a : Answer). IsOpenOn id a.after.queues.queue.streams) (sym gives) are
  given_open false ask e draft transfer answer gives are =
      subst (λ (b : EndpointQueues). IsOpenOn id b.queue.streams) (sym gives.below)
      (after_request OpenStays open_follow ask e draft transfer answer gives
      (requesting_open (streams_within (room_of_draft e (filled_draft draft (plain_contents answer.acknowledgements)))) answer.begun gives.gave_up.waiting (before_request OpenStays open_follow ask e draft transfer answer gives are)))

  answered_open : (ask : Ask) (e : Endpoint) (draft : Emission) (transfer : Option Transfer) (answer : Answer) → IsAnswerOfQueues ask e draft answer transfer → OpenStays e.queues.queue.streams answer.after.queues.queue.streams
  answered_open ask e draft None answer answered are = subst (λ (a : Answer). IsOpenOn id a.after.queues.queue.streams) (sym answered) are
  answered_open ask e draft (Some transfer) answer answered are = given_open (is_idle e.queues.queue transfer) ask e draft transfer answer answered are

  asked_open : (ask : Ask) (e : Endpoint) (draft : Emission) (answer : Answer) → IsFlushAnswer ask e draft answer → OpenStays e.queues.queue.streams (asked_outcome e draft answer).after.queues.queue.streams
  asked_open ask e draft answer answered are =
      subst (λ (b : EndpointQueues). IsOpenOn id b.queue.streams)
      (sym (out_below answer.after (map filling_event answer.told) draft.with_checksum draft.packet.tag (filled_draft draft (answer_contents answer)).packet.contents))
      (answered_open ask e draft e.queues.transfer answer answered.by_transfer are)

  pub flush_open_on : (ask : Ask) (n : ℕ) (e : Endpoint) (draft : Emission) (answers : List Answer) → AreFlushAnswers ask n e draft answers → OpenStays e.queues.queue.streams (flush_of e draft answers).after.queues.queue.streams
  flush_open_on _ _ _ _ _ (at_limit ask e draft) are = are
  flush_open_on _ _ _ _ _ (at_empty ask more e draft answer is empty) are = asked_open ask e draft answer is are
  flush_open_on _ _ _ _ _ (after_packet ask more e draft answer answers is some rest) are =
      flush_open_on later_ask more (asked_outcome e draft answer).after (next_draft e.core draft) answers rest (asked_open ask e draft answer is are)

  -- ---- What waits on the stream waits still where others are prepared to be reset.

  -- The message waits on the stream.
  pub record WaitsOn (streams : List Stream) (w : Waiting) : Type 0 where
    pub q : ℕ
    pub on : (stream_at streams q).id ≡ id
    pub has : HasEntry w (stream_at streams q).messages

  waits_later : (s : Stream) (streams : List Stream) (w : Waiting) → WaitsOn streams w → WaitsOn (s ∷ streams) w
  waits_later s streams w waits = record { q = suc waits.q; on = waits.on; has = waits.has }

  with_waits : (s : Stream) (streams : List Stream) (w : Waiting) → WaitsOn streams w → WaitsOn (with_stream s streams) w
  with_waits s [] w waits = none waits.q waits.has
    where
      none : (q : ℕ) → HasEntry w (stream_at [] q).messages → WaitsOn (with_stream s []) w
      none zero has = absurd has
      none (suc q) has = absurd has
  with_waits s (first ∷ streams) w waits = go (nat_lt first.id s.id) waits.q waits.on waits.has (λ rest. with_waits s streams w rest)
    where
      go : (b : Bool) (q : ℕ) → (stream_at (first ∷ streams) q).id ≡ id → HasEntry w (stream_at (first ∷ streams) q).messages → (WaitsOn streams w → WaitsOn (with_stream s streams) w)
          → WaitsOn (if b then first ∷ with_stream s streams else s ∷ first ∷ streams) w
      go true zero on has rest = record { q = 0; on = on; has = has }
      go true (suc q) on has rest = waits_later first (with_stream s streams) w (rest (record { q = q; on = on; has = has }))
      go false q on has rest = record { q = suc q; on = on; has = has }

  used_waits : (queue : SendQueueState) (other : ℕ) (w : Waiting) → WaitsOn queue.streams w → WaitsOn (used_streams queue other) w
  used_waits queue other w waits = go (is_used other queue.streams)
    where
      go : (b : Bool) → WaitsOn (if b then queue.streams else with_stream (unused_stream other queue.default_priority queue.default_threshold) queue.streams) w
      go true = waits
      go false = with_waits (unused_stream other queue.default_priority queue.default_threshold) queue.streams w waits

  -- a stream of another number changes
  elsewhere_waits : (other : ℕ) (f : Stream → Stream) (streams : List Stream) (w : Waiting) → (other ≡ id → ⊥) → WaitsOn streams w → WaitsOn (stream_changed other f streams) w
  elsewhere_waits other f streams w ne waits = go streams waits.q waits.on waits.has
    where
      go : (streams : List Stream) (q : ℕ) → (stream_at streams q).id ≡ id → HasEntry w (stream_at streams q).messages → WaitsOn (stream_changed other f streams) w
      go [] zero on has = absurd has
      go [] (suc q) on has = absurd has
      go (s ∷ streams) zero on has =
          elim (eqb_tells s.id other) [
            | inl e ↦ absurd (ne (sym e.1 ∙ on))
            | inr e ↦ record { q = 0; on = rw e.0 on; has = rw e.0 has }
          ]
      go (s ∷ streams) (suc q) on has = waits_later (if s.id == other then f s else s) (stream_changed other f streams) w (go streams q on has)

  prepared_waits : (other : ℕ) (queue : SendQueueState) (w : Waiting) → (other ≡ id → ⊥) → WaitsOn queue.streams w → WaitsOn (queue_with_prepared other queue).streams w
  prepared_waits other queue w ne waits = go (is_open_pause (queue_stream start other).pause)
    where
      start : SendQueueState
      start = with_used other queue

      go : (b : Bool) → WaitsOn (if b then prepared_open other start else start).streams w
      go true = elsewhere_waits other (prepared_stream (dropped_size other start) (count_under_way (queue_stream start other))) start.streams w ne (used_waits queue other w waits)
      go false = used_waits queue other w waits

  pub preparing_waits : (ids : List ℕ) (queue : SendQueueState) (w : Waiting) → is_named ids id ≡ false → WaitsOn queue.streams w → WaitsOn (prepared_all ids queue).streams w
  preparing_waits [] queue w none waits = waits
  preparing_waits (other ∷ ids) queue w none waits =
      let both = other_than other ids none in
      preparing_waits ids (queue_with_prepared other queue) w both.1 (prepared_waits other queue w both.0 waits)
