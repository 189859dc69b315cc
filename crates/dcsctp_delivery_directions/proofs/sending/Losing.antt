-- Where no message has limits, a flush leaves out none that waits.
use Rattle.std.proofs.Common.{◌≡◌, ℕ, zero, suc, Bool, true, false, List, [], ◌∷◌, ◌++◌, map, take, refl, sym, ◌∙◌, ap, subst, inl, inr}
use Rattle.std.specs.Prelude.{Option, None, Some, slice_get}
use Rattle.dcsctp_spec.specs.Packet.{Plain, Emission}
use Rattle.dcsctp_spec.specs.association.Choices.{plain_contents}
use Rattle.dcsctp_spec.specs.types.queues.SendStreams.{Waiting, Stream, stream_at, handed_out}
use Rattle.dcsctp_spec.specs.queues.Filling.{Stage}
use Rattle.dcsctp_spec.specs.queues.Items.{Item}
use Rattle.dcsctp_spec.specs.queues.OwnResets.{handing_out, ready_streams}
use Rattle.dcsctp_spec.specs.queues.Outstanding.{OutstandingState}
use Rattle.dcsctp_spec.specs.queues.Retransmission.{RetransmissionState}
use Rattle.dcsctp_spec.specs.queues.SendQueue.{SendQueueState, stream_changed}
use Rattle.dcsctp_spec.specs.queues.Transfer.{Transfer, EndpointQueues, may_give, is_idle}
use Rattle.dcsctp_spec.specs.endpoint.Endpoint.{Endpoint}
use Rattle.dcsctp_spec.specs.endpoint.BegunResets.{BegunReset, streams_within, request_contents, queue_requesting, retransmission_begun}
use Rattle.dcsctp_spec.specs.endpoint.FlushOutcomes.{Ask, Gives, room_of_draft, stage_of, may_forward, filling_event, Answer, answer_contents, filled_draft, asked_outcome, next_draft, flush_of, first_ask, packets_allowed, GivesUpThenForwards, FillsIfAllowed, GivesUnlessIdle, IsAnswerOfQueues, IsFlushAnswer, AreFlushAnswers, at_limit, at_empty, after_packet, FlushAnswers, forward_made}
use Rattle.dcsctp_delivery_directions.specs.sending.Places.{HasEntry, at_place}
use Rattle.dcsctp_delivery_directions.specs.sending.Log.{Message, Slot, IsLogOfPieces, History, log_extended, with_mark, sent_messages}
use Rattle.dcsctp_delivery_directions.specs.sending.Pieces.{WaitingWasQueued, AllQueued, HoldsQueued}
use Rattle.dcsctp_delivery_directions.specs.sending.Flushes.{InFlight, QueuesFollowLog, SendsLogged, begun_reset_of}
use Rattle.dcsctp_delivery_directions.specs.sending.Losing.{AreUnlimited, WasSentOf, IsKept, NoneLost}
use Rattle.dcsctp_delivery_directions.proofs.sending.Extended.{at_more}
use Rattle.dcsctp_delivery_directions.proofs.sending.Handing.{changed_alike}
use Rattle.dcsctp_delivery_directions.proofs.sending.Held.{AreFree, IsInFlight, Keeps, keeps_same, keeps_then, keeps_alike, FreeStage, KeepsStage, same_keeps, fills_keep, gives_up_keeps}
use Rattle.dcsctp_delivery_directions.proofs.sending.Packets.{out_below}
use Rattle.dcsctp_delivery_directions.proofs.sending.Places.{at_cases}

-- ---- one packet

gives_up_where_keeps : (b : Bool) (now room : ℕ) (transfer : Transfer) (old new : Stage) (next : Option ℕ) (chunks : List Plain) → FreeStage old → GivesUpThenForwards b now transfer room old new (forward_made next chunks) → KeepsStage old new
gives_up_where_keeps true now room transfer old new next chunks free gives = gives_up_keeps now old new free gives.0
gives_up_where_keeps false now room transfer old new next chunks free gives = same_keeps old new gives.0 free

fills_where_keeps : (now : ℕ) (b : Bool) (old new : Stage) → FreeStage old → FillsIfAllowed b now old new → KeepsStage old new
fills_where_keeps now true old new free fills = fills_keep now old new free fills
fills_where_keeps now false old new free fills = elim fills [ inl e ↦ same_keeps old new e free | inr e ↦ fills_keep now old new free e ]

-- a request hands out streams, with what waits on them
pub handing_messages : (ids : List ℕ) (streams : List Stream) (q : ℕ) → (stream_at (handing_out ids streams) q).messages ≡ (stream_at streams q).messages
handing_messages [] streams q = refl
handing_messages (id ∷ ids) streams q = handing_messages ids (stream_changed id handed_out streams) q ∙ (changed_alike id streams).messages q

pub requesting_messages : (count : ℕ) (begun : Option BegunReset) (queue : SendQueueState) (q : ℕ) → (stream_at (queue_requesting count begun queue).streams q).messages ≡ (stream_at queue.streams q).messages
requesting_messages count None queue q = refl
requesting_messages count (Some begun) queue q = handing_messages (take count (ready_streams queue)) queue.streams q

pub begun_items : (begun : Option BegunReset) (state : RetransmissionState) → (retransmission_begun begun state).outstanding ≡ state.outstanding
begun_items None state = refl
begun_items (Some begun) state = refl

-- ---- the queues of an endpoint

-- what is in flight
abbrev pub items_in : Option Transfer → List Item
items_in None = []
items_in (Some transfer) = transfer.retransmission.outstanding.items

abbrev pub FreeQueues : EndpointQueues → Type 0
FreeQueues sender_queues = AreFree sender_queues.queue.streams (items_in sender_queues.transfer)

abbrev pub KeepsQueues : EndpointQueues → EndpointQueues → Type 0
KeepsQueues old new = Keeps old.queue.streams (items_in old.transfer) new.queue.streams (items_in new.transfer)

same_queues : (old new : EndpointQueues) → new ≡ old → FreeQueues old → KeepsQueues old new
same_queues old new is free = subst (λ (b : EndpointQueues). KeepsQueues old b) (sym is) (keeps_same old.queue.streams (items_in old.transfer) free)

module _ (ask : Ask) (e : Endpoint) (draft : Emission) (transfer : Transfer) (answer : Answer) (gives : Gives ask e draft transfer answer) (free : AreFree e.queues.queue.streams transfer.retransmission.outstanding.items) where
  -- once a request was begun, if one was
  abbrev between : Stage
  between =
      stage_of (queue_requesting (streams_within (room_of_draft e (filled_draft draft (plain_contents answer.acknowledgements)))) answer.begun gives.gave_up.waiting) (retransmission_begun answer.begun gives.gave_up.queue) gives.gave_up.told
      (room_of_draft e (filled_draft draft (plain_contents answer.acknowledgements ++ request_contents answer.begun)))

  gave : KeepsStage (stage_of e.queues.queue transfer.retransmission [] 0) gives.gave_up
  gave = gives_up_where_keeps (may_forward ask e transfer.retransmission) e.moment _ transfer (stage_of e.queues.queue transfer.retransmission [] 0) gives.gave_up gives.next gives.forwards free gives.gives_up

  requested : Keeps e.queues.queue.streams transfer.retransmission.outstanding.items between.waiting.streams between.queue.outstanding.items
  requested =
      subst (λ (o : OutstandingState). Keeps e.queues.queue.streams transfer.retransmission.outstanding.items between.waiting.streams o.items) (sym (begun_items answer.begun gives.gave_up.queue))
      (keeps_then e.queues.queue.streams transfer.retransmission.outstanding.items gives.gave_up.waiting.streams gives.gave_up.queue.outstanding.items between.waiting.streams gives.gave_up.queue.outstanding.items gave
      (keeps_alike gives.gave_up.waiting.streams between.waiting.streams gives.gave_up.queue.outstanding.items
      (requesting_messages (streams_within (room_of_draft e (filled_draft draft (plain_contents answer.acknowledgements)))) answer.begun gives.gave_up.waiting) gave.free))

  gives_keep : Keeps e.queues.queue.streams transfer.retransmission.outstanding.items answer.after.queues.queue.streams (items_in answer.after.queues.transfer)
  gives_keep =
      subst (λ (b : EndpointQueues). Keeps e.queues.queue.streams transfer.retransmission.outstanding.items b.queue.streams (items_in b.transfer)) (sym gives.below)
      (keeps_then e.queues.queue.streams transfer.retransmission.outstanding.items between.waiting.streams between.queue.outstanding.items gives.sent.waiting.streams gives.sent.queue.outstanding.items requested
      (fills_where_keeps e.moment (may_give between.waiting between.queue) between gives.sent requested.free gives.fills))

given_keeps : (b : Bool) (ask : Ask) (e : Endpoint) (draft : Emission) (transfer : Transfer) (answer : Answer) → GivesUnlessIdle b ask e draft transfer answer → e.queues.transfer ≡ Some transfer → FreeQueues e.queues → KeepsQueues e.queues answer.after.queues
given_keeps true ask e draft transfer answer gives known free = same_queues e.queues answer.after.queues (ap (λ (a : Answer). a.after.queues) gives) free
given_keeps false ask e draft transfer answer gives known free =
    subst (λ (t : Option Transfer). Keeps e.queues.queue.streams (items_in t) answer.after.queues.queue.streams (items_in answer.after.queues.transfer)) (sym known)
    (gives_keep ask e draft transfer answer gives (subst (λ (t : Option Transfer). AreFree e.queues.queue.streams (items_in t)) known free))

answered_keeps : (ask : Ask) (e : Endpoint) (draft : Emission) (transfer : Option Transfer) (answer : Answer) → IsAnswerOfQueues ask e draft answer transfer → e.queues.transfer ≡ transfer → FreeQueues e.queues → KeepsQueues e.queues answer.after.queues
answered_keeps ask e draft None answer answered known free = same_queues e.queues answer.after.queues (ap (λ (a : Answer). a.after.queues) answered) free
answered_keeps ask e draft (Some transfer) answer answered known free = given_keeps (is_idle e.queues.queue transfer) ask e draft transfer answer answered known free

asked_keeps : (ask : Ask) (e : Endpoint) (draft : Emission) (answer : Answer) → IsFlushAnswer ask e draft answer → FreeQueues e.queues → KeepsQueues e.queues (asked_outcome e draft answer).after.queues
asked_keeps ask e draft answer answered free =
    subst (λ (b : EndpointQueues). KeepsQueues e.queues b)
    (sym (out_below answer.after (map filling_event answer.told) draft.with_checksum draft.packet.tag (filled_draft draft (answer_contents answer)).packet.contents))
    (answered_keeps ask e draft e.queues.transfer answer answered.by_transfer refl free)

-- ---- a flush

pub flush_keeps : (ask : Ask) (n : ℕ) (e : Endpoint) (draft : Emission) (answers : List Answer) → AreFlushAnswers ask n e draft answers → FreeQueues e.queues → KeepsQueues e.queues (flush_of e draft answers).after.queues
flush_keeps _ _ _ _ _ (at_limit ask e draft) free = keeps_same e.queues.queue.streams (items_in e.queues.transfer) free
flush_keeps _ _ _ _ _ (at_empty ask more e draft answer is empty) free = asked_keeps ask e draft answer is free
flush_keeps _ _ _ _ _ (after_packet ask more e draft answer answers is some rest) free =
    let between : EndpointQueues = (asked_outcome e draft answer).after.queues in
    let after : EndpointQueues = (flush_of (asked_outcome e draft answer).after (next_draft e.core draft) answers).after.queues in
    let one = asked_keeps ask e draft answer is free in
    keeps_then e.queues.queue.streams (items_in e.queues.transfer) between.queue.streams (items_in between.transfer) after.queue.streams (items_in after.transfer) one
    (flush_keeps _ more (asked_outcome e draft answer).after (next_draft e.core draft) answers rest one.free)

-- ---- by the log

pub unlimited_at : (queued : List Message) (place : ℕ) (message : Message) → AreUnlimited queued → at_place place queued ≡ Some message → message.is_limited ≡ false
unlimited_at [] place message are at = absurd (cc)
unlimited_at (first ∷ queued) place message are at =
    elim (at_cases place first message queued at) [
      | inl e ↦ ap (λ (m : Message). m.is_limited) (sym e.1) ∙ are.0
      | inr e ↦ unlimited_at queued place message are.1 e
    ]

pub queued_of : (queued : List Message) (id : ℕ) (messages : List Waiting) (w : Waiting) → AllQueued queued id messages → HasEntry w messages → WaitingWasQueued queued id w
queued_of queued id [] w are has = absurd has
queued_of queued id (v ∷ messages) w are has = elim has [ inl e ↦ subst (λ (x : Waiting). WaitingWasQueued queued id x) (sym e) are.0 | inr t ↦ queued_of queued id messages w are.1 t ]

-- Nothing has limits where no message that was queued has.
pub free_of : (queued : List Message) (history : History) (first acknowledged : ℕ) (streams : List Stream) (transfer : Option Transfer) → AreUnlimited queued → IsLogOfPieces queued history.log → HoldsQueued queued history.log streams
    → InFlight history first acknowledged transfer → AreFree streams (items_in transfer)
free_of queued history first acknowledged streams transfer are cut queue_holds flight =
    record {
      wait = λ q w has. (
          let was = queued_of queued (stream_at streams q).id (stream_at streams q).messages w (queue_holds.wait q) has in
          was.is.limits (unlimited_at queued w.message_id was.message are was.at)
          );
      fly = flies transfer flight;
    }
  where
    flies : (t : Option Transfer) → InFlight history first acknowledged t → (k : ℕ) (item : Item) → slice_get (items_in t) k ≡ Some item → (item.fragment.expires_at ≡ None) × (item.fragment.max_retransmissions ≡ None)
    flies None none k item at = nothing k at
      where
        nothing : (k : ℕ) → slice_get [] k ≡ Some item → (item.fragment.expires_at ≡ None) × (item.fragment.max_retransmissions ≡ None)
        nothing zero at' = absurd (cc)
        nothing (suc k) at' = absurd (cc)
    flies (Some t) bears k item at = (let n = bears.named k item at in n.limits (unlimited_at queued n.piece.place n.piece.message are (cut.pieces n.number n.piece n.at).at))

pub free_below : (queued : List Message) (history : History) (first acknowledged : ℕ) (below : EndpointQueues) → AreUnlimited queued → QueuesFollowLog queued history first acknowledged below → FreeQueues below
free_below queued history first acknowledged below are stands = free_of queued history first acknowledged below.queue.streams below.transfer are stands.cut stands.queue_holds stands.flight

-- What is in flight is in the log.
pub flies_sent : (history : History) (first acknowledged place : ℕ) (transfer : Option Transfer) → InFlight history first acknowledged transfer → IsInFlight (items_in transfer) place → WasSentOf history.log place
flies_sent history first acknowledged place None flight flies = nothing flies.k flies.at
  where
    nothing : (k : ℕ) → slice_get [] k ≡ Some flies.item → WasSentOf history.log place
    nothing zero at' = absurd (cc)
    nothing (suc k) at' = absurd (cc)
flies_sent history first acknowledged place (Some transfer) bears flies =
    let n = bears.named flies.k flies.item flies.at in
    record { number = n.number; piece = n.piece; at = n.at; is = sym n.of ∙ flies.is }

pub sent_more : (more log : List Slot) (place : ℕ) → WasSentOf log place → WasSentOf (more ++ log) place
sent_more more log place was = record { number = was.number; piece = was.piece; at = at_more more log was.number (Some was.piece) was.at; is = was.is }

pub kept_more : (old new : History) (more : List Slot) (streams : List Stream) (place : ℕ) → new.log ≡ more ++ old.log → IsKept old.log streams place → IsKept new.log streams place
kept_more old new more streams place grows kept =
    elim kept [
      | inl was ↦ inl (subst (λ (l : List Slot). WasSentOf l place) (sym grows) (sent_more more old.log place was))
      | inr waits ↦ inr waits
    ]

-- It is so again if what was held still is.
pub kept_on : (old new : History) (more : List Slot) (first acknowledged place : ℕ) (below after : EndpointQueues) → new.log ≡ more ++ old.log → KeepsQueues below after → InFlight new first acknowledged after.transfer
    → IsKept old.log below.queue.streams place → IsKept new.log after.queue.streams place
kept_on old new more first acknowledged place below after grows keeps flight kept =
    elim kept [
      | inl was ↦ inl (subst (λ (l : List Slot). WasSentOf l place) (sym grows) (sent_more more old.log place was))
      | inr waits ↦
          elim (keeps.held place (inl waits)) [
            | inl still ↦ inr still
            | inr flies ↦ inl (flies_sent new first acknowledged place after.transfer flight flies)
          ]
    ]

marked_log : (begun : Option BegunReset) (ids : List ℕ) (bound : ℕ) (history : History) → (with_mark begun ids bound history).log ≡ history.log
marked_log None ids bound history = refl
marked_log (Some begun) ids bound history = refl

pub flushing_loses_none : (queued : List Message) (history : History) (first acknowledged : ℕ) (e : Endpoint) (draft : Emission) (answers : List Answer) → AreUnlimited queued → QueuesFollowLog queued history first acknowledged e.queues
    → FlushAnswers e draft answers
    → (sends : SendsLogged (sent_messages queued history) first acknowledged e.queues.queue (begun_reset_of answers) (flush_of e draft answers).after.queues (flush_of e draft answers).events)
    → NoneLost queued history.log e.queues.queue.streams → NoneLost queued (sends.more ++ history.log) (flush_of e draft answers).after.queues.queue.streams
flushing_loses_none queued history first acknowledged e draft answers are stands allowed sends lost =
    let new : History = with_mark (begun_reset_of answers) sends.ids sends.bound (log_extended sends.more history) in
    let same : new.log ≡ sends.more ++ history.log = marked_log (begun_reset_of answers) sends.ids sends.bound (log_extended sends.more history) in
    subst (λ (l : List Slot). NoneLost queued l (flush_of e draft answers).after.queues.queue.streams) same
    (λ place message at.
    kept_on history new sends.more first acknowledged place e.queues (flush_of e draft answers).after.queues same
    (flush_keeps first_ask (packets_allowed e.options.max_burst e.core) e draft answers allowed (free_below queued history first acknowledged e.queues are stands))
    sends.stands.flight (lost place message at))
