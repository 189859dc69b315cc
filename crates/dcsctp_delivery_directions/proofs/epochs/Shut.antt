-- A stream that is paused stays so while a flush is under way.
use Rattle.std.proofs.Common.{◌≡◌, ◌==◌, ℕ, Bool, true, false, List, [], ◌∷◌, map, take, refl, ◌∙◌, ap}
use Rattle.std.specs.Prelude.{Option, None, Some, if◌then◌else◌}
use Rattle.dcsctp_spec.specs.Packet.{Emission}
use Rattle.dcsctp_spec.specs.association.Choices.{plain_contents}
use Rattle.dcsctp_spec.specs.types.queues.SendStreams.{Stream, unused_stream, handed_out}
use Rattle.dcsctp_spec.specs.endpoint.Endpoint.{Endpoint}
use Rattle.dcsctp_spec.specs.endpoint.BegunResets.{BegunReset, streams_within, queue_requesting}
use Rattle.dcsctp_spec.specs.endpoint.FlushOutcomes.{Ask, later_ask, room_of_draft, filling_event, Answer, answer_contents, filled_draft, asked_outcome, next_draft, flush_of, GivesUnlessIdle, IsAnswerOfQueues, IsFlushAnswer, AreFlushAnswers, at_limit, at_empty, after_packet}
use Rattle.dcsctp_spec.specs.queues.OwnResets.{is_open_pause, handing_out, ready_streams}
use Rattle.dcsctp_spec.specs.queues.SendQueue.{SendQueueState, stream_changed}
use Rattle.dcsctp_spec.specs.queues.Transfer.{Transfer, EndpointQueues, is_idle}
use Rattle.dcsctp_delivery_directions.proofs.sending.KeptPauses.{FollowsPauses, before_request, after_request}
use Rattle.dcsctp_delivery_directions.proofs.sending.Packets.{out_below}
use Rattle.dcsctp_delivery_directions.proofs.sending.StreamsNamed.{found_set, found_mapped}
use Rattle.dcsctp_delivery_directions.specs.epochs.Sending.{is_open}

abbrev SameOpen : Stream → Stream → Type 0
SameOpen old new = is_open_pause new.pause ≡ is_open_pause old.pause

abbrev OneShut : Stream → Stream → Type 0
OneShut old new = is_open_pause old.pause ≡ false → is_open_pause new.pause ≡ false

module _ (id : ℕ) where
  abbrev pub StaysShut : List Stream → List Stream → Type 0
  StaysShut old new = is_open id old ≡ false → is_open id new ≡ false

  shut_follow : FollowsPauses StaysShut
  shut_follow =
      record {
        same = λ streams is. is;
        both = λ old between new one two is. two (one is);
        set = λ place new streams is same shut. found_set SameOpen id (unused_stream 0 0 0) new (λ s. refl) place streams is (λ here. ap is_open_pause same) ∙ shut;
      }

  handing_shut : (ids : List ℕ) (streams : List Stream) → StaysShut streams (handing_out ids streams)
  handing_shut [] streams is = is
  handing_shut (first ∷ ids) streams is =
      handing_shut ids (stream_changed first handed_out streams)
      (found_mapped OneShut id (unused_stream 0 0 0) (λ s. if s.id == first then handed_out s else s) (λ s. one_id (s.id == first) s) (λ shut. shut) (λ s here. one (s.id == first) s) streams is)
    where
      one_id : (b : Bool) (s : Stream) → (if b then handed_out s else s).id ≡ s.id
      one_id true s = refl
      one_id false s = refl

      one : (b : Bool) (s : Stream) → OneShut s (if b then handed_out s else s)
      one true s shut = refl
      one false s shut = shut

  requesting_shut : (count : ℕ) (begun : Option BegunReset) (queue : SendQueueState) → StaysShut queue.streams (queue_requesting count begun queue).streams
  requesting_shut count None queue is = is
  requesting_shut count (Some begun) queue is = handing_shut (take count (ready_streams queue)) queue.streams is

  given_shut : (b : Bool) (ask : Ask) (e : Endpoint) (draft : Emission) (transfer : Transfer) (answer : Answer) → GivesUnlessIdle b ask e draft transfer answer → StaysShut e.queues.queue.streams answer.after.queues.queue.streams
  given_shut true ask e draft transfer answer gives is = ap (λ (a : Answer). is_open id a.after.queues.queue.streams) gives ∙ is
  given_shut false ask e draft transfer answer gives is =
      ap (λ (b : EndpointQueues). is_open id b.queue.streams) gives.below
      ∙ after_request StaysShut shut_follow ask e draft transfer answer gives
      (requesting_shut (streams_within (room_of_draft e (filled_draft draft (plain_contents answer.acknowledgements)))) answer.begun gives.gave_up.waiting (before_request StaysShut shut_follow ask e draft transfer answer gives is))

  answered_shut : (ask : Ask) (e : Endpoint) (draft : Emission) (transfer : Option Transfer) (answer : Answer) → IsAnswerOfQueues ask e draft answer transfer → StaysShut e.queues.queue.streams answer.after.queues.queue.streams
  answered_shut ask e draft None answer answered is = ap (λ (a : Answer). is_open id a.after.queues.queue.streams) answered ∙ is
  answered_shut ask e draft (Some transfer) answer answered is = given_shut (is_idle e.queues.queue transfer) ask e draft transfer answer answered is

  asked_shut : (ask : Ask) (e : Endpoint) (draft : Emission) (answer : Answer) → IsFlushAnswer ask e draft answer → StaysShut e.queues.queue.streams (asked_outcome e draft answer).after.queues.queue.streams
  asked_shut ask e draft answer answered is =
      ap (λ (b : EndpointQueues). is_open id b.queue.streams) (out_below answer.after (map filling_event answer.told) draft.with_checksum draft.packet.tag (filled_draft draft (answer_contents answer)).packet.contents)
      ∙ answered_shut ask e draft e.queues.transfer answer answered.by_transfer is

  pub flush_shut : (ask : Ask) (n : ℕ) (e : Endpoint) (draft : Emission) (answers : List Answer) → AreFlushAnswers ask n e draft answers → StaysShut e.queues.queue.streams (flush_of e draft answers).after.queues.queue.streams
  flush_shut _ _ _ _ _ (at_limit ask e draft) is = is
  flush_shut _ _ _ _ _ (at_empty ask more e draft answer at empty) is = asked_shut ask e draft answer at is
  flush_shut _ _ _ _ _ (after_packet ask more e draft answer answers at some rest) is = flush_shut later_ask more (asked_outcome e draft answer).after (next_draft e.core draft) answers rest (asked_shut ask e draft answer at is)
