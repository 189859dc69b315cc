-- One packet of a flush.
use Rattle.std.proofs.Common.{◌≡◌, ℕ, Bool, true, false, ◌≤◌, ◌+◌, List, [], ◌∷◌, ◌++◌, length, map, take, arith, refl, sym, ◌∙◌, ap, subst, inl, inr}
use Rattle.std.specs.Prelude.{◌⊎◌, Option, None, Some}
use Rattle.dcsctp_spec.specs.Packet.{Plain, plain, Content, Emission}
use Rattle.dcsctp_spec.specs.endpoint.Endpoint.{Endpoint}
use Rattle.dcsctp_spec.specs.association.Choices.{plain_contents}
use Rattle.dcsctp_spec.specs.queues.Filling.{Stage}
use Rattle.dcsctp_spec.specs.queues.OwnResets.{ready_streams}
use Rattle.dcsctp_spec.specs.queues.SendQueue.{SendQueueState}
use Rattle.dcsctp_spec.specs.queues.Transfer.{Transfer, EndpointQueues, may_give, is_idle}
use Rattle.dcsctp_spec.specs.endpoint.BegunResets.{streams_within, request_contents, queue_requesting, retransmission_begun}
use Rattle.dcsctp_spec.specs.endpoint.FlushOutcomes.{may_be_asked, filling_event, Answer, answer_contents, filled_draft, asked_outcome, Ask, room_of_draft, GivesUpThenForwards, may_forward, FillsIfAllowed, Gives, GivesUnlessIdle, IsAnswerOfQueues, IsFlushAnswer, stage_of, nothing_waits, forward_made}
use Rattle.dcsctp_delivery_directions.specs.sending.Log.{Message, Slot, History, log_extended, with_mark, IsLogOfPieces, sent_messages}
use Rattle.dcsctp_delivery_directions.specs.sending.Stages.{Bears, Stands, Stays}
use Rattle.dcsctp_delivery_directions.specs.sending.Flushes.{IsNamedByReset, AreHandedFor, SayAll, InFlight, PendsIfConnected, QueuesFollowLog, SendsLogged}
use Rattle.dcsctp_delivery_directions.proofs.sending.BegunMarks.{bears_marked, pends_marked, marks_marked}
use Rattle.dcsctp_delivery_directions.proofs.sending.Filling.{stay, fills_stay}
use Rattle.dcsctp_delivery_directions.proofs.sending.GivingUp.{Ends, end, give_up_all_ends}
use Rattle.dcsctp_delivery_directions.proofs.sending.Noted.{marked_twice, stands_marked, current_before}
use Rattle.dcsctp_delivery_directions.proofs.sending.Extended.{extends_grown, extends_marked, extends_noted, extends_then, all_later}
use Rattle.dcsctp_delivery_directions.proofs.sending.Pauses.{kept_both, current_both}
use Rattle.dcsctp_delivery_directions.proofs.sending.PausedFlushes.{gave_up_paused, sent_paused}
use Rattle.dcsctp_delivery_directions.proofs.sending.StayHanded.{StayHanded, requesting_stays, begun_handed, handed_for_later}
use Rattle.std.proofs.lemmas.List.{length-append}
use Rattle.dcsctp_delivery_directions.proofs.sending.Handing.{requesting_handed, requesting_hold, requesting_kind, begun_kind, requesting_numbered}
use Rattle.dcsctp_delivery_directions.proofs.sending.Chunks.{kinds_of, chunks_of_log}
use Rattle.dcsctp_delivery_directions.specs.sending.Numbers.{stream_named, is_handed_out, AreCurrent, AreKept, AreOfKind, IsOfKind}
use Rattle.dcsctp_delivery_directions.proofs.sending.Packets.{said_sacks, out_below, out_says, say_both, said_chunks, said_request, said_forwards}

gives_up_where : (queued : List Message) (history : History) (first acknowledged now room : ℕ) (b : Bool) (transfer : Transfer) (old new : Stage) (next : Option ℕ) (chunks : List Plain) → Stands queued history first acknowledged old
    → GivesUpThenForwards b now transfer room old new (forward_made next chunks) → Ends queued history first acknowledged new
gives_up_where queued history first acknowledged now room false transfer old new next chunks stands gives = end queued history first acknowledged new (subst (λ (s : Stage). Stands queued history first acknowledged s) (sym gives.0) stands)
gives_up_where queued history first acknowledged now room true transfer old new next chunks stands gives = give_up_all_ends queued history first acknowledged now old new stands gives.0

forwards_where : (queued : List Message) (history : History) → IsLogOfPieces queued history.log → (first acknowledged now room : ℕ) (b : Bool) (transfer : Transfer) (old new : Stage) (next : Option ℕ) (chunks : List Plain) → AreOfKind new.queue.outstanding.is_interleaved history.log → Bears history first acknowledged new.queue.outstanding → GivesUpThenForwards b now transfer room old new (forward_made next chunks)
    → SayAll history first acknowledged (plain_contents chunks)
forwards_where queued history cut first acknowledged now room false transfer old new next chunks kinds bears gives = subst (λ (l : List Plain). SayAll history first acknowledged (plain_contents l)) (sym gives.2) tt
forwards_where queued history cut first acknowledged now room true transfer old new next chunks kinds bears gives = said_forwards history first acknowledged queued cut _ now transfer room new.queue next chunks kinds bears (λ made. made) gives.1

fills_where : (queued : List Message) (history : History) (first acknowledged now : ℕ) (b : Bool) (old new : Stage) → Stands queued history first acknowledged old → FillsIfAllowed b now old new → Stays queued history first acknowledged new
fills_where queued history first acknowledged now true old new stands fills = fills_stay queued history first acknowledged now old new stands fills
fills_where queued history first acknowledged now false old new stands fills =
    elim fills [
      | inl e ↦ stay queued history first acknowledged new (subst (λ (s : Stage). Stands queued history first acknowledged s) (sym e) stands)
      | inr e ↦ fills_stay queued history first acknowledged now old new stands e
    ]

-- what an answer leaves, and what it says
record Answers' (queued : List Message) (history : History) (first acknowledged : ℕ) (old : SendQueueState) (answer : Answer) : Type 0 where
  pub more : List Slot
  pub ids : List ℕ
  pub bound : ℕ
  pub low : length history.log ≤ bound
  pub high : bound ≤ length more + length history.log
  pub stands : QueuesFollowLog queued (with_mark answer.begun ids bound (log_extended more history)) first acknowledged answer.after.queues
  pub says : SayAll (with_mark answer.begun ids bound (log_extended more history)) first acknowledged (answer_contents answer)
  pub current : AreCurrent history more
  pub kept : AreKept answer.after.queues.queue.streams more
  pub handed : (id : ℕ) → is_handed_out (stream_named id answer.after.queues.queue.streams).pause ≡ true → (is_handed_out (stream_named id old.streams).pause ≡ true) ⊎ IsNamedByReset answer.begun ids id
  pub stay : StayHanded old.streams answer.after.queues.queue.streams
  pub named : AreHandedFor answer.begun ids answer.after.queues.queue.streams

plain_both : (chunks others : List Plain) → plain_contents (chunks ++ others) ≡ plain_contents chunks ++ plain_contents others
plain_both [] others = refl
plain_both (c ∷ chunks) others = ap (λ (l : List Content). plain c ∷ l) (plain_both chunks others)

-- what an ask that isn't idle leaves
module _ (queued : List Message) (history : History) (first acknowledged : ℕ) (ask : Ask) (e : Endpoint) (draft : Emission) (transfer : Transfer) (answer : Answer) (gives : Gives ask e draft transfer answer)
    (start : Stands queued history first acknowledged (stage_of e.queues.queue transfer.retransmission [] 0)) where
  gave : Ends queued history first acknowledged gives.gave_up
  gave = gives_up_where queued history first acknowledged e.moment _ (may_forward ask e transfer.retransmission) transfer (stage_of e.queues.queue transfer.retransmission [] 0) gives.gave_up gives.next gives.forwards start gives.gives_up

  -- so many TSNs were assigned then
  bound : ℕ
  bound = length (gave.more ++ history.log)

  room : ℕ
  room = room_of_draft e (filled_draft draft (plain_contents answer.acknowledgements))

  -- these streams were handed out for the request, if one was begun
  ids : List ℕ
  ids = take (streams_within room) (ready_streams gives.gave_up.waiting)

  -- once a request was begun, if one was
  between : Stage
  between =
      stage_of (queue_requesting (streams_within room) answer.begun gives.gave_up.waiting) (retransmission_begun answer.begun gives.gave_up.queue) gives.gave_up.told
      (room_of_draft e (filled_draft draft (plain_contents answer.acknowledgements ++ request_contents answer.begun)))

  noted : History
  noted = with_mark answer.begun ids bound (log_extended gave.more history)

  between_stands : Stands queued noted first acknowledged between
  unfolding between noted room bound ids
  between_stands =
      stands_marked answer.begun ids bound queued (log_extended gave.more history) first acknowledged between
      (requesting_hold queued (gave.more ++ history.log) (streams_within room) answer.begun gives.gave_up.waiting gave.stands.queue_holds) gave.stands.cut
      (bears_marked (log_extended gave.more history) first acknowledged answer.begun ids gives.gave_up.queue gave.stands.bears)
      (pends_marked (log_extended gave.more history) answer.begun ids gives.gave_up.queue gave.stands.pends)
      (marks_marked queued ask e.options.follow_rfc (may_be_asked e.core e.options.follow_rfc) room (log_extended gave.more history) first acknowledged answer.begun gives.gave_up.waiting gives.gave_up.queue
      gave.stands.queue_holds gave.stands.bears gives.begins gave.stands.marks)
      (requesting_numbered queued (log_extended gave.more history) (streams_within room) answer.begun gives.gave_up.waiting gave.stands.queue_holds gave.stands.numbers)
      (begun_kind answer.begun gives.gave_up.queue ∙ gave.stands.kind ∙ sym (requesting_kind (streams_within room) answer.begun gives.gave_up.waiting))

  full : Stays queued noted first acknowledged gives.sent
  unfolding between room
  full = fills_where queued noted first acknowledged e.moment (may_give (queue_requesting (streams_within room) answer.begun gives.gave_up.waiting) (retransmission_begun answer.begun gives.gave_up.queue)) between gives.sent between_stands gives.fills

  added : List Slot
  added = full.more ++ gave.more

  all : History
  all = with_mark answer.begun ids bound (log_extended added history)

  same : all ≡ log_extended full.more noted
  unfolding all noted added
  same = marked_twice answer.begun ids bound full.more gave.more history

  all_stand : Stands queued all first acknowledged gives.sent
  all_stand = subst (λ (h : History). Stands queued h first acknowledged gives.sent) (sym same) full.stands

  forwards_said : SayAll all first acknowledged (plain_contents gives.forwards)
  unfolding noted bound
  forwards_said =
      subst (λ (h : History). SayAll h first acknowledged (plain_contents gives.forwards)) (sym same)
      (all_later (log_extended gave.more history) (log_extended full.more noted)
      (extends_then (log_extended gave.more history) noted (log_extended full.more noted) (extends_marked answer.begun ids bound (log_extended gave.more history) (omega arith)) (extends_grown full.more noted)) first acknowledged acknowledged (omega arith) (plain_contents gives.forwards)
      (forwards_where queued (log_extended gave.more history) gave.stands.cut first acknowledged e.moment _ _ transfer _ gives.gave_up gives.next gives.forwards (kinds_of gave.stands.numbers gave.stands.kind) gave.stands.bears gives.gives_up))

  all_said : SayAll all first acknowledged (answer_contents answer)
  unfolding all
  all_said =
      say_both all first acknowledged (plain_contents answer.acknowledgements) (request_contents answer.begun ++ plain_contents answer.data_chunks)
      (subst (λ (l : List Plain). SayAll all first acknowledged (plain_contents l)) (sym gives.parts)
      (subst (λ (l : List Content). SayAll all first acknowledged l) (sym (plain_both gives.sacks gives.forwards))
      (say_both all first acknowledged (plain_contents gives.sacks) (plain_contents gives.forwards)
      (said_sacks all first acknowledged _ _ transfer gives.tracker gives.sacks gives.acknowledges) forwards_said)))
      (say_both all first acknowledged (request_contents answer.begun) (plain_contents answer.data_chunks) (said_request (log_extended added history) first acknowledged answer.begun ids bound)
      (said_chunks all first acknowledged gives.sent.queue.outstanding.is_interleaved answer.data_chunks
      (chunks_of_log all first acknowledged gives.sent.queue.outstanding gives.sent.tsns answer.data_chunks (kinds_of all_stand.numbers all_stand.kind) all_stand.bears gives.chunks)))

  all_handed : (id : ℕ) → is_handed_out (stream_named id gives.sent.waiting.streams).pause ≡ true → (is_handed_out (stream_named id e.queues.queue.streams).pause ≡ true) ⊎ IsNamedByReset answer.begun ids id
  unfolding between room ids
  all_handed id handed =
      elim (requesting_handed (streams_within room) answer.begun gives.gave_up.waiting id
      (sym (sent_paused ask e draft transfer answer gives id) ∙ handed)) [
        | inl before ↦ inl (sym (gave_up_paused ask e draft transfer answer gives id) ∙ before)
        | inr named ↦ inr named
      ]

  all_stay : StayHanded e.queues.queue.streams gives.sent.waiting.streams
  unfolding room
  all_stay id handed =
      sent_paused ask e draft transfer answer gives id
      ∙ requesting_stays (streams_within room) answer.begun gives.gave_up.waiting id (gave_up_paused ask e draft transfer answer gives id ∙ handed)

  all_named : AreHandedFor answer.begun ids gives.sent.waiting.streams
  unfolding room ids
  all_named =
      handed_for_later answer.begun ids (queue_requesting (streams_within room) answer.begun gives.gave_up.waiting).streams gives.sent.waiting.streams (λ id handed. sent_paused ask e draft transfer answer gives id ∙ handed)
      (begun_handed ask e.options.follow_rfc _ room _ gives.gave_up.waiting answer.begun gives.begins gave.stands.queue_holds.small)

  gives_stays : Answers' queued history first acknowledged e.queues.queue answer
  unfolding bound added all noted
  gives_stays =
      record {
        more = added;
        ids = ids;
        bound = bound;
        low = omega (arith, length-append gave.more history.log);
        high = omega (arith, length-append gave.more history.log, length-append full.more gave.more);
        stands = subst (λ (b : EndpointQueues). QueuesFollowLog queued all first acknowledged b) (sym gives.below)
            (record { queue_holds = all_stand.queue_holds; cut = all_stand.cut; flight = all_stand.bears; pends = all_stand.pends; marks = all_stand.marks; numbers = all_stand.numbers; kind = all_stand.kind });
        says = all_said;
        current = current_both history full.more gave.more (current_before answer.begun ids bound gave.more history full.more full.current) (λ n f at. absurd (gave.none n f at));
        kept = subst (λ (b : EndpointQueues). AreKept b.queue.streams added) (sym gives.below) (kept_both gives.sent.waiting.streams full.more gave.more full.kept (λ n f at. absurd (gave.none n f at)));
        handed = λ id handed. all_handed id (ap (λ (b : EndpointQueues). is_handed_out (stream_named id b.queue.streams).pause) (sym gives.below) ∙ handed);
        stay = subst (λ (b : EndpointQueues). StayHanded e.queues.queue.streams b.queue.streams) (sym gives.below) all_stay;
        named = subst (λ (b : EndpointQueues). AreHandedFor answer.begun ids b.queue.streams) (sym gives.below) all_named;
      }

nothing_stays : (queued : List Message) (history : History) (first acknowledged : ℕ) (e : Endpoint) (answer : Answer) → QueuesFollowLog queued history first acknowledged e.queues → answer ≡ nothing_waits e
    → Answers' queued history first acknowledged e.queues.queue answer
nothing_stays queued history first acknowledged e answer stands is =
    subst (λ (a : Answer). Answers' queued history first acknowledged e.queues.queue a) (sym is)
    (record {
      more = [];
      ids = [];
      bound = length history.log;
      low = omega arith;
      high = omega arith;
      stands = stands;
      says = tt;
      current = λ n f at. absurd (cc);
      kept = λ n f at. absurd (cc);
      handed = λ id handed. inl handed;
      stay = λ id handed. handed;
      named = tt;
    })

gives_where : (queued : List Message) (history : History) (first acknowledged : ℕ) (ask : Ask) (b : Bool) (e : Endpoint) (draft : Emission) (transfer : Transfer) (answer : Answer) → e.queues.transfer ≡ Some transfer
    → QueuesFollowLog queued history first acknowledged e.queues → GivesUnlessIdle b ask e draft transfer answer → Answers' queued history first acknowledged e.queues.queue answer
gives_where queued history first acknowledged ask true e draft transfer answer known stands gives = nothing_stays queued history first acknowledged e answer stands gives
gives_where queued history first acknowledged ask false e draft transfer answer known stands gives =
    gives_stays queued history first acknowledged ask e draft transfer answer gives
    (record {
      queue_holds = stands.queue_holds;
      cut = stands.cut;
      bears = subst (λ (t : Option Transfer). InFlight history first acknowledged t) known stands.flight;
      pends = subst (λ (t : Option Transfer). PendsIfConnected history t) known stands.pends;
      marks = stands.marks;
      numbers = stands.numbers;
      kind = subst (λ (t : Option Transfer). IsOfKind e.queues.queue.is_interleaved t) known stands.kind;
    })

answered_below : (queued : List Message) (history : History) (first acknowledged : ℕ) (ask : Ask) (e : Endpoint) (draft : Emission) (transfer : Option Transfer) (answer : Answer) → e.queues.transfer ≡ transfer
    → QueuesFollowLog queued history first acknowledged e.queues → IsAnswerOfQueues ask e draft answer transfer → Answers' queued history first acknowledged e.queues.queue answer
answered_below queued history first acknowledged ask e draft None answer known stands answered = nothing_stays queued history first acknowledged e answer stands answered
answered_below queued history first acknowledged ask e draft (Some transfer) answer known stands answered =
    gives_where queued history first acknowledged ask (is_idle e.queues.queue transfer) e draft transfer answer known stands answered

pub asked_sends : (queued : List Message) (history : History) (first acknowledged : ℕ) (ask : Ask) (e : Endpoint) (draft : Emission) (answer : Answer) → QueuesFollowLog queued history first acknowledged e.queues → SayAll history first acknowledged draft.packet.contents
    → IsFlushAnswer ask e draft answer → SendsLogged (sent_messages queued history) first acknowledged e.queues.queue answer.begun (asked_outcome e draft answer).after.queues (asked_outcome e draft answer).events
asked_sends queued history first acknowledged ask e draft answer stands say answered =
    let left = answered_below queued history first acknowledged ask e draft e.queues.transfer answer refl stands answered.by_transfer in
    let contents : List Content = (filled_draft draft (answer_contents answer)).packet.contents in
    let below = out_below answer.after (map filling_event answer.told) draft.with_checksum draft.packet.tag contents in
    let all : History = with_mark answer.begun left.ids left.bound (log_extended left.more history) in
    let extends = extends_noted answer.begun left.ids left.bound left.more history left.low in
    record {
      more = left.more;
      ids = left.ids;
      bound = left.bound;
      low = left.low;
      high = left.high;
      stands = subst (λ (b : EndpointQueues). QueuesFollowLog queued all first acknowledged b) (sym below) left.stands;
      packets = out_says all first acknowledged answer.after answer.told draft.with_checksum draft.packet.tag contents
          (say_both all first acknowledged draft.packet.contents (answer_contents answer) (all_later history all extends first acknowledged acknowledged (omega arith) draft.packet.contents say) left.says);
      current = left.current;
      kept = subst (λ (b : EndpointQueues). AreKept b.queue.streams left.more) (sym below) left.kept;
      handed = λ id handed. left.handed id (ap (λ (b : EndpointQueues). is_handed_out (stream_named id b.queue.streams).pause) (sym below) ∙ handed);
      stay = subst (λ (b : EndpointQueues). StayHanded e.queues.queue.streams b.queue.streams) (sym below) left.stay;
      named = subst (λ (b : EndpointQueues). AreHandedFor answer.begun left.ids b.queue.streams) (sym below) left.named;
    }
