-- What a flush sends on a stream comes from what waits on it, step by step.
use Rattle.std.proofs.Common.{◌≡◌, ◌≢◌, ℕ, Bool, true, false, ◌<◌, ◌≤◌, ◌+◌, ◌-◌, arith, List, [], ◌∷◌, ◌++◌, length, map, take, length-append, refl, sym, ◌∙◌, ap, subst, inl, inr}
use Rattle.std.specs.Prelude.{Option, None, Some, is_some, slice_get, slice_set}
use Rattle.std.proofs.lemmas.List.{get_or-set_same, length-set}
use Rattle.dcsctp_spec.specs.Packet.{Plain, Emission}
use Rattle.dcsctp_spec.specs.association.Choices.{plain_contents}
use Rattle.dcsctp_spec.specs.types.declared.progress.Change.{Change}
use Rattle.dcsctp_spec.specs.types.declared.progress.Change.TheVariants.{SendAgain, Abandon}
use Rattle.dcsctp_spec.specs.types.declared.ids.StreamId.{StreamId}
use Rattle.dcsctp_spec.specs.types.declared.sending.UnderWay.{UnderWay}
use Rattle.dcsctp_spec.specs.types.queues.SendStreams.{Waiting, Stream, without_front, unused_stream, stream_at, front_of}
use Rattle.dcsctp_spec.specs.endpoint.Event.{Event}
use Rattle.dcsctp_spec.specs.endpoint.Endpoint.{Endpoint}
use Rattle.dcsctp_spec.specs.endpoint.BegunResets.{BegunReset, streams_within, request_contents, queue_requesting, retransmission_begun}
use Rattle.dcsctp_spec.specs.endpoint.FlushOutcomes.{Ask, Gives, room_of_draft, stage_of, may_forward, filling_event, Answer, answer_contents, filled_draft, asked_outcome, next_draft, later_ask, flush_of, GivesUpThenForwards, FillsIfAllowed, GivesUnlessIdle, IsAnswerOfQueues, IsFlushAnswer, AreFlushAnswers, at_limit, at_empty, after_packet, forward_made}
use Rattle.dcsctp_spec.specs.queues.Abandoning.{GivesUpFirst, GivesUpAll}
use Rattle.dcsctp_spec.specs.queues.Filling.{Stage, ClosesMessage, DropsRestOfMessage, GivesUpItem, SendsMarked, payload_room, SendsNew, FindsNone, StepAgain, StepNew, StageSteps, none as no_steps, more as more_steps, resent_packet_counted, FillsPacket}
use Rattle.dcsctp_spec.specs.queues.ItemMessages.{EndsDropped}
use Rattle.dcsctp_spec.specs.queues.Items.{Item, changed_between}
use Rattle.dcsctp_spec.specs.queues.Outstanding.{OutstandingState, header, next_tsn}
use Rattle.dcsctp_spec.specs.queues.OwnResets.{ready_streams}
use Rattle.dcsctp_spec.specs.queues.SendQueue.{SendQueueState}
use Rattle.dcsctp_spec.specs.queues.Sending.{Fragment, Drops, none as no_drops_yet, more as drops_one, Chooses, released_queue, without_rest, queue_after_producing, DiscardsNamed, reserve_begun}
use Rattle.dcsctp_spec.specs.queues.Transfer.{Transfer, EndpointQueues, may_give, is_idle}
use Rattle.dcsctp_delivery_directions.proofs.epochs.Moving.{like_handing}
use Rattle.dcsctp_delivery_directions.proofs.epochs.Feeding.{IsOpenOrGoing, turn_runs, KnowsWays, progress_named, released_other, changed_ways, named_there, like_ways, like_feeds, lost_feeds, FeedsQueue, produced_may, produced_fed}
use Rattle.dcsctp_delivery_directions.specs.sending.Numbers.{stream_named}
use Rattle.dcsctp_delivery_directions.proofs.sending.Filling.{counted_outstanding}
use Rattle.dcsctp_delivery_directions.proofs.sending.Losing.{items_in, begun_items}
use Rattle.dcsctp_delivery_directions.proofs.sending.Packets.{out_below}
use Rattle.dcsctp_delivery_directions.proofs.sending.Fragments.{ChangesOne}
use Rattle.dcsctp_delivery_directions.proofs.sending.WhatLeaves.{leaves, drops_front}
use Rattle.dcsctp_delivery_directions.proofs.sending.Numbers.{old_idle}
use Rattle.dcsctp_delivery_directions.proofs.sending.ProducedHeld.{held_on}
use Rattle.dcsctp_delivery_directions.proofs.sending.Streams.{within_streams}
use Rattle.dcsctp_delivery_directions.proofs.sending.Stages.{changed_at, changed_length, at_last}
use Rattle.dcsctp_spec_lemmas.proofs.ChoosingLemmas.{chosen_turn}

-- the pause of a stream whose oldest message is dropped
without_pause : (place sent : ℕ) (message : Waiting) (queue : SendQueueState) → place < length queue.streams → (stream_at (without_rest place sent message queue).streams place).pause ≡ (stream_at queue.streams place).pause
without_pause place sent message queue within =
    let changed : Stream = record (stream_at queue.streams place) { amount = (stream_at queue.streams place).amount - (length message.payload - sent) } in
    let reduced : List Stream = slice_set queue.streams place (record (stream_at queue.streams place) { amount = (stream_at queue.streams place).amount - (length message.payload - sent) }) in
    ap (λ (s : Stream). s.pause) (get_or-set_same reduced place (without_front (stream_at reduced place)) (unused_stream 0 0 0) (omega (arith, within, length-set queue.streams place changed)))
    ∙ ap (λ (s : Stream). s.pause) (get_or-set_same queue.streams place changed (unused_stream 0 0 0) within)

module _ (P W : ℕ → Type 0) (a id from : ℕ) where
  -- From this item on, what carries bytes of the stream is of messages of these places.
  abbrev pub Flies : List Item → Type 0
  Flies items = (k : ℕ) (item : Item) → from ≤ k → slice_get items k ≡ Some item → item.fragment.stream ≡ id → (item.fragment.payload ≡ [] → ⊥) → P item.fragment.message_id

  -- what holds of a queue, and of what is in flight
  pub record FeedsOn (queue : SendQueueState) (items : List Item) : Type 0 where
    pub fed : FeedsQueue P W a id queue
    pub flies : Flies items
    pub count : from ≤ length items

  flies_changed : (change : Change) (start end : ℕ) (items : List Item) → Flies items → Flies (changed_between change start end items)
  flies_changed change start end items flies k item low at on some =
      let was = changed_at change start end k items item at in
      subst (λ (f : Fragment). P f.message_id) was.fragment
      (flies k was.old low was.at (ap (λ (f : Fragment). f.stream) was.fragment ∙ on) (λ none. some (ap (λ (f : Fragment). f.payload) (sym was.fragment) ∙ none)))

  flies_with : (items : List Item) (last : Item) → (last.fragment.stream ≡ id → (last.fragment.payload ≡ [] → ⊥) → P last.fragment.message_id) → Flies items → Flies (items ++ last ∷ [])
  flies_with items last its flies k item low at on some =
      elim (at_last items last k item at) [
        | inl before ↦ flies k item low before on some
        | inr e ↦
            subst (λ (x : Item). P x.fragment.message_id) e.1
            (its (ap (λ (x : Item). x.fragment.stream) e.1 ∙ on) (λ none. some (ap (λ (x : Item). x.fragment.payload) (sym e.1) ∙ none)))
      ]

  changed_on : (queue : SendQueueState) (change : Change) (start end : ℕ) (items : List Item) → FeedsOn queue items → FeedsOn queue (changed_between change start end items)
  changed_on queue change start end items f =
      record { fed = f.fed; flies = flies_changed change start end items f.flies; count = (let count = f.count in let sizes = changed_length change start end items in omega (arith, count, sizes)) }

  -- ---- what leaves the queue

  -- the oldest message of a stream is dropped
  without_fed : (place sent : ℕ) (message : Waiting) (old new : SendQueueState) → place < length old.streams → new.streams ≡ (without_rest place sent message old).streams
      → ((other : ℕ) → new.held ≡ held_on other → (other ≢ (stream_at old.streams place).id) × (old.held ≡ held_on other)) → FeedsQueue P W a id old → FeedsQueue P W a id new
  without_fed place sent message old new within same held f =
      let d = drops_front place sent message old within in
      let one : ChangesOne place old.streams new.streams = subst (λ (l : List Stream). ChangesOne place old.streams l) (sym same) d.one in
      let idle : (stream_at new.streams place).under_way ≡ None = ap (λ (l : List Stream). (stream_at l place).under_way) same ∙ d.progress_is in
      record {
        ways = changed_ways place old new within one (λ u is. absurd (let none : None ≡ Some u = sym idle ∙ is in cc)) (λ other is. (let h = held other is in (λ at. absurd (h.0 at), λ ne. h.1))) f.ways;
        feeds = lost_feeds P W a id place old.streams new.streams one (ap (λ (l : List Stream). (stream_at l place).messages) same ∙ d.messages_are) idle
            (ap (λ (l : List Stream). (stream_at l place).pause) same ∙ without_pause place sent message old within) f.feeds;
      }

  -- what was too old to be started
  dropped : {E : Type 0} (now : ℕ) (old : SendQueueState) (events : List (Event E)) (new : SendQueueState) → Drops now old events new → FeedsQueue P W a id old → FeedsQueue P W a id new
  dropped now old events new no_drops_yet f = f
  dropped now old events new (drops_one events' queue place message drops next front expired) f =
      let earlier = dropped now old events' queue drops f in
      let within : place < length queue.streams = within_streams queue.streams place message front in
      without_fed place 0 message queue (without_rest place 0 message queue) within refl
      (λ other is. (
        (λ at. absurd
            (let idle : (stream_at queue.streams place).under_way ≡ None = old_idle now message (stream_at queue.streams place) expired in
            let some = earlier.ways.held other is in
            let there : stream_named other queue.streams ≡ stream_at queue.streams place = ap (λ (k : ℕ). stream_named k queue.streams) at ∙ named_there place queue earlier.ways within in
            let clash : false ≡ true = sym (ap is_some idle) ∙ ap (λ (s : Stream). is_some s.under_way) (sym there) ∙ some in
            cc)),
        is,
      )) earlier

  -- the stream that is chosen runs
  chosen_runs : (now max : ℕ) (old queue : SendQueueState) (place : ℕ) (message : Waiting) (held : Option StreamId) → old.held ≡ held → Chooses now max old held queue place
      → front_of (stream_at queue.streams place).messages ≡ Some message → place < length queue.streams → KnowsWays queue → IsOpenOrGoing (stream_at queue.streams place)
  chosen_runs now max old queue place message None none chooses front within ways =
      let turn = chosen_turn now max queue place message chooses front in
      turn_runs (stream_at queue.streams place) turn.0 turn.1
  chosen_runs now max old queue place message (Some h) is chooses front within ways =
      let some = ways.held h.0 (ap (λ (q : SendQueueState). q.held) chooses.0 ∙ is) in
      let there : stream_named h.0 queue.streams ≡ stream_at queue.streams place = ap (λ (k : ℕ). stream_named k queue.streams) (sym chooses.1) ∙ named_there place queue ways within in
      record { may = inr (ap (λ (s : Stream). is_some s.under_way) (sym there) ∙ some) }

  -- ---- the steps of a packet

  abbrev pub StageFeeds : Stage → Type 0
  StageFeeds stage = FeedsOn stage.waiting stage.queue.outstanding.items

  same_stage : (old new : Stage) → new ≡ old → StageFeeds old → StageFeeds new
  same_stage old new is f = subst StageFeeds (sym is) f

  marked_feeds : (now : ℕ) (old new : Stage) → StageFeeds old → SendsMarked now old new → StageFeeds new
  marked_feeds now old new f sends =
      subst StageFeeds (sym sends.is) (changed_on old.waiting (SendAgain (next_tsn old.queue.outstanding)) sends.place (sends.place + 1) old.queue.outstanding.items f)

  rest_feeds : (now : ℕ) (last : Item) (old new : Stage) → StageFeeds old → DropsRestOfMessage now last old new → StageFeeds new
  rest_feeds now last old new f rest = subst StageFeeds (sym rest.is) (go rest.drops.is_dropped rest.drops.drops rest.drops.ends)
    where
      go : (is_dropped : Bool) → DiscardsNamed old.waiting last.fragment.stream last.fragment.message_id old.told is_dropped new.waiting new.told → EndsDropped now old.queue.reset_begun last old.queue.outstanding rest.outstanding is_dropped
          → FeedsOn new.waiting rest.outstanding.items
      go false discards ends = subst (λ (q : SendQueueState). FeedsOn q rest.outstanding.items) (sym discards.1) (subst (λ (o : OutstandingState). FeedsOn old.waiting o.items) (sym ends) f)
      go true discards ends =
          let within : discards.named.place < length old.waiting.streams = within_streams old.waiting.streams discards.named.place discards.named.message discards.named.front in
          let left : SendQueueState = released_queue last.fragment.stream (reserve_begun (length discards.named.message.payload) discards.named.under_way) (without_rest discards.named.place discards.named.under_way.sent discards.named.message old.waiting) in
          subst (λ (q : SendQueueState). FeedsOn q rest.outstanding.items) (sym discards.left)
          (subst (λ (o : OutstandingState). FeedsOn left o.items) (sym ends.grows)
          (record {
            fed = without_fed discards.named.place discards.named.under_way.sent discards.named.message old.waiting left within refl
                (λ other is. (
                let still = released_other last.fragment.stream (reserve_begun (length discards.named.message.payload) discards.named.under_way) other (without_rest discards.named.place discards.named.under_way.sent discards.named.message old.waiting) is in
                (λ at. still.1 (at ∙ discards.named.is), still.0)
                )) f.fed;
            flies = flies_with old.queue.outstanding.items ends.item (λ on some. absurd (some (ap (λ (x : Fragment). x.payload) ends.is_end.is))) f.flies;
            count = (let count = f.count in let sizes = length-append old.queue.outstanding.items (ends.item ∷ []) in omega (arith, count, sizes));
          }))

  closes_feeds : (now : ℕ) (last : Item) (old new : Stage) (is_end : Bool) → StageFeeds old → ClosesMessage now last old new is_end → StageFeeds new
  closes_feeds now last old new true f closes = subst StageFeeds (sym closes) f
  closes_feeds now last old new false f closes =
      elim closes [
        | inl e ↦ rest_feeds now last old new f e.1
        | inr e ↦ same_stage old new e.1 f
      ]

  given_up_feeds : (now place : ℕ) (old new : Stage) → StageFeeds old → GivesUpItem now place old new → StageFeeds new
  given_up_feeds now place old new f gives =
      subst StageFeeds (sym gives.is)
      (changed_on gives.closed.waiting Abandon gives.start (gives.last_place + 1) gives.closed.queue.outstanding.items (closes_feeds now gives.last old gives.closed gives.last.fragment.is_end f gives.closes))

  again_feeds : (now : ℕ) (old new : Stage) → StageFeeds old → StepAgain now old new → StageFeeds new
  again_feeds now old new f step =
      elim step [
        | inl e ↦ marked_feeds now old new f e.1
        | inr e ↦ given_up_feeds now e.place old new f e.gives_up
      ]

  module _ (now : ℕ) (old new : Stage) (f : StageFeeds old) (sends : SendsNew now old new) where
    abbrev max : ℕ
    max = payload_room (header old.queue.outstanding) old.room

    within : sends.takes.place < length sends.takes.queue.streams
    within = within_streams sends.takes.queue.streams sends.takes.place sends.takes.message sends.takes.front

    left_fed : FeedsQueue P W a id sends.takes.queue
    left_fed = dropped now old.waiting sends.takes.drops.events sends.takes.queue sends.takes.drops.drops f.fed

    runs : IsOpenOrGoing (stream_at sends.takes.queue.streams sends.takes.place)
    runs = chosen_runs now max old.waiting sends.takes.queue sends.takes.place sends.takes.message old.waiting.held refl sends.takes.chosen sends.takes.front within left_fed.ways

    own : (stream_at sends.takes.queue.streams sends.takes.place).id ≡ sends.takes.under_way.stream_id.0
    own = progress_named sends.takes.message (stream_at sends.takes.queue.streams sends.takes.place) (left_fed.ways.named sends.takes.place) ∙ ap (λ (u : UnderWay). u.stream_id.0) (sym sends.takes.come)

    new_fed : FeedsQueue P W a id new.waiting
    new_fed =
        subst (λ (q : SendQueueState). FeedsQueue P W a id q) (sym sends.takes.left)
        (produced_fed P W a id sends.takes.place max sends.takes.message sends.takes.under_way sends.takes.queue (queue_after_producing sends.takes.place max sends.takes.message sends.takes.under_way sends.takes.queue) within runs left_fed own
        (leaves sends.takes.place max sends.takes.message sends.takes.under_way sends.takes.queue within))

    new_feeds : StageFeeds new
    new_feeds =
        subst (λ (l : List Item). FeedsOn new.waiting l) (sym (ap (λ (s : Stage). s.queue.outstanding.items) sends.is))
        (record {
          fed = new_fed;
          flies = flies_with old.queue.outstanding.items sends.item
              (λ on some. subst P (sym (ap (λ (x : Fragment). x.message_id) sends.takes.is))
              (produced_may P W a id sends.takes.place max sends.takes.message sends.takes.under_way sends.takes.queue sends.takes.queue within runs left_fed own sends.takes.front (sym (ap (λ (x : Fragment). x.stream) sends.takes.is) ∙ on))) f.flies;
          count = (let count = f.count in let sizes = length-append old.queue.outstanding.items (sends.item ∷ []) in omega (arith, count, sizes));
        })

  finds_feeds : (now : ℕ) (old new : Stage) → StageFeeds old → FindsNone now old new → StageFeeds new
  finds_feeds now old new f finds =
      subst (λ (l : List Item). FeedsOn new.waiting l) (sym (ap (λ (s : Stage). s.queue.outstanding.items) finds.is))
      (record { fed = dropped now old.waiting finds.takes.drops.events new.waiting finds.takes.drops.drops f.fed; flies = f.flies; count = f.count })

  anew_feeds : (now : ℕ) (old new : Stage) → StageFeeds old → StepNew now old new → StageFeeds new
  anew_feeds now old new f step = elim step.1 [ inl e ↦ new_feeds now old new f e | inr e ↦ finds_feeds now old new f e ]

  steps_feed : (Step : Stage → Stage → Type 0) → ((old new : Stage) → StageFeeds old → Step old new → StageFeeds new) → (old new : Stage) → StageFeeds old → StageSteps Step old new → StageFeeds new
  steps_feed Step each old new f no_steps = f
  steps_feed Step each old new f (more_steps between _ steps step) = each between new (steps_feed Step each old between f steps) step

  -- ---- a packet

  fills_feeds : (now : ℕ) (old new : Stage) → StageFeeds old → FillsPacket now old new → StageFeeds new
  fills_feeds now old new f fills =
      let again = steps_feed (StepAgain now) (again_feeds now) old fills.fills.resent f fills.fills.again in
      let same : (resent_packet_counted old.room fills.fills.resent).queue.outstanding ≡ fills.fills.resent.queue.outstanding = counted_outstanding (old.room - fills.fills.resent.room) fills.fills.resent.queue in
      let between : StageFeeds (resent_packet_counted old.room fills.fills.resent) = subst (λ (o : OutstandingState). FeedsOn fills.fills.resent.waiting o.items) (sym same) again in
      subst StageFeeds (sym fills.is) (steps_feed (StepNew now) (anew_feeds now) (resent_packet_counted old.room fills.fills.resent) fills.sent between fills.fills.anew)

  gives_up_feeds : (now : ℕ) (old new : Stage) → StageFeeds old → GivesUpAll now old new → StageFeeds new
  gives_up_feeds now old new f gives = steps_feed (GivesUpFirst now) (λ o n g step. given_up_feeds now step.place o n g step.gives_up) old new f gives.steps

  gives_up_where : (b : Bool) (now room : ℕ) (transfer : Transfer) (old new : Stage) (next : Option ℕ) (chunks : List Plain) → StageFeeds old → GivesUpThenForwards b now transfer room old new (forward_made next chunks) → StageFeeds new
  gives_up_where true now room transfer old new next chunks f gives = gives_up_feeds now old new f gives.0
  gives_up_where false now room transfer old new next chunks f gives = same_stage old new gives.0 f

  fills_where : (now : ℕ) (b : Bool) (old new : Stage) → StageFeeds old → FillsIfAllowed b now old new → StageFeeds new
  fills_where now true old new f fills = fills_feeds now old new f fills
  fills_where now false old new f fills = elim fills [ inl e ↦ same_stage old new e f | inr e ↦ fills_feeds now old new f e ]

  -- ---- the queues of an endpoint

  abbrev pub QueuesFeed : EndpointQueues → Type 0
  QueuesFeed queues = FeedsOn queues.queue (items_in queues.transfer)

  requesting_feeds : (count : ℕ) (begun : Option BegunReset) (queue : SendQueueState) (items : List Item) → FeedsOn queue items → FeedsOn (queue_requesting count begun queue) items
  requesting_feeds count None queue items f = f
  requesting_feeds count (Some begun) queue items f =
      let like = like_handing (take count (ready_streams queue)) queue.streams in
      record {
        fed = record {
          ways = like_ways queue (queue_requesting count (Some begun) queue) refl like f.fed.ways;
          feeds = like_feeds P W a id queue.streams (queue_requesting count (Some begun) queue).streams like f.fed.feeds;
        };
        flies = f.flies;
        count = f.count;
      }

  module _ (ask : Ask) (e : Endpoint) (draft : Emission) (transfer : Transfer) (answer : Answer) (gives : Gives ask e draft transfer answer) (f : FeedsOn e.queues.queue transfer.retransmission.outstanding.items) where
    -- once a request was begun, if one was
    abbrev between : Stage
    between =
        stage_of (queue_requesting (streams_within (room_of_draft e (filled_draft draft (plain_contents answer.acknowledgements)))) answer.begun gives.gave_up.waiting) (retransmission_begun answer.begun gives.gave_up.queue) gives.gave_up.told
        (room_of_draft e (filled_draft draft (plain_contents answer.acknowledgements ++ request_contents answer.begun)))

    gave : StageFeeds gives.gave_up
    gave = gives_up_where (may_forward ask e transfer.retransmission) e.moment _ transfer (stage_of e.queues.queue transfer.retransmission [] 0) gives.gave_up gives.next gives.forwards f gives.gives_up

    requested : StageFeeds between
    requested =
        subst (λ (o : OutstandingState). FeedsOn between.waiting o.items) (sym (begun_items answer.begun gives.gave_up.queue))
        (requesting_feeds (streams_within (room_of_draft e (filled_draft draft (plain_contents answer.acknowledgements)))) answer.begun gives.gave_up.waiting gives.gave_up.queue.outstanding.items gave)

    gives_feeds : QueuesFeed answer.after.queues
    gives_feeds = subst QueuesFeed (sym gives.below) (fills_where e.moment (may_give between.waiting between.queue) between gives.sent requested gives.fills)

  given_feeds : (b : Bool) (ask : Ask) (e : Endpoint) (draft : Emission) (transfer : Transfer) (answer : Answer) → GivesUnlessIdle b ask e draft transfer answer → e.queues.transfer ≡ Some transfer → QueuesFeed e.queues → QueuesFeed answer.after.queues
  given_feeds true ask e draft transfer answer gives known f = subst (λ (x : Answer). QueuesFeed x.after.queues) (sym gives) f
  given_feeds false ask e draft transfer answer gives known f = gives_feeds ask e draft transfer answer gives (subst (λ (t : Option Transfer). FeedsOn e.queues.queue (items_in t)) known f)

  answered_feeds : (ask : Ask) (e : Endpoint) (draft : Emission) (transfer : Option Transfer) (answer : Answer) → IsAnswerOfQueues ask e draft answer transfer → e.queues.transfer ≡ transfer → QueuesFeed e.queues → QueuesFeed answer.after.queues
  answered_feeds ask e draft None answer answered known f = subst (λ (x : Answer). QueuesFeed x.after.queues) (sym answered) f
  answered_feeds ask e draft (Some transfer) answer answered known f = given_feeds (is_idle e.queues.queue transfer) ask e draft transfer answer answered known f

  asked_feeds : (ask : Ask) (e : Endpoint) (draft : Emission) (answer : Answer) → IsFlushAnswer ask e draft answer → QueuesFeed e.queues → QueuesFeed (asked_outcome e draft answer).after.queues
  asked_feeds ask e draft answer answered f =
      subst QueuesFeed (sym (out_below answer.after (map filling_event answer.told) draft.with_checksum draft.packet.tag (filled_draft draft (answer_contents answer)).packet.contents))
      (answered_feeds ask e draft e.queues.transfer answer answered.by_transfer refl f)

  pub flush_feeds : (ask : Ask) (n : ℕ) (e : Endpoint) (draft : Emission) (answers : List Answer) → AreFlushAnswers ask n e draft answers → QueuesFeed e.queues → QueuesFeed (flush_of e draft answers).after.queues
  flush_feeds _ _ _ _ _ (at_limit ask e draft) f = f
  flush_feeds _ _ _ _ _ (at_empty ask more e draft answer is empty) f = asked_feeds ask e draft answer is f
  flush_feeds _ _ _ _ _ (after_packet ask more e draft answer answers is some rest) f =
      flush_feeds later_ask more (asked_outcome e draft answer).after (next_draft e.core draft) answers rest (asked_feeds ask e draft answer is f)
