-- An answer whose packet is filled with data: where memory is refused in the middle of a flush, this is what completes its turn.
use Rattle.std.proofs.Common.{◌≡◌, ◌∙◌, ◌≤◌, ℕ, Bool, false, Option, Some, List, [], ◌++◌, map, append_assoc, refl, sym, ap, subst, arith}
use Rattle.std.proofs.lemmas.List.{append-nil}
use Rattle.dcsctp_spec.specs.endpoint.Endpoint.{Endpoint}
use Rattle.dcsctp_spec.specs.endpoint.Event.{Event}
use Rattle.dcsctp_spec.specs.endpoint.Outcome.{contents_len}
use Rattle.dcsctp_spec.specs.Packet.{Plain, Content, Emission}
use Rattle.dcsctp_spec.specs.association.Choices.{plain_contents}
use Rattle.dcsctp_spec.specs.queues.Filling.{Stage}
use Rattle.dcsctp_spec.specs.queues.Retransmission.{RetransmissionState}
use Rattle.dcsctp_spec.specs.queues.SendQueue.{SendQueueState}
use Rattle.dcsctp_spec.specs.queues.Tracker.{TrackerState}
use Rattle.dcsctp_spec.specs.queues.Transfer.{Transfer, may_give, is_idle}
use Rattle.dcsctp_spec.specs.endpoint.BegunResets.{BegunReset, streams_within, last_assigned_tsn, request_contents, queue_requesting, retransmission_begun, after_begun}
use Rattle.dcsctp_spec.specs.endpoint.FlushOutcomes.{may_be_asked, FillingEvent, filling_event_content, Answer, filled_draft, IsWithinMtu, Ask, room_of_draft, wants_sack, Acknowledges, stage_of, may_forward, GivesUpThenForwards, forward_moment, FillsIfAllowed, begun_by_ask, Gives, GivesUnlessIdle, IsAnswerOfQueues, timers_with, IsFlushAnswer, forward_made}
use Rattle.dcsctp_spec_lemmas.proofs.AnswerParts.{forwards_fit_where, acknowledgements_len, tells_given_up_where, packed_where}
use Rattle.dcsctp_spec_lemmas.proofs.ChunkOutcomes.{SomeChunks, some_chunks}
use Rattle.dcsctp_spec_lemmas.proofs.PackingLemmas.{packed_none}
use Rattle.dcsctp_spec_lemmas.proofs.PacketLengths.{three_within, begun_at_len}
use Rattle.dcsctp_spec_lemmas.proofs.TellingLemmas.{TellsMore, tells_then, tells_where}

-- An answer to an ask, with these events first.
pub record Completes (ask : Ask) (e : Endpoint) (draft : Emission) (telling : List (Event (List ℕ))) : Type 0 where
  pub answer : Answer
  pub allowed : IsFlushAnswer ask e draft answer
  pub rest : List (Event (List ℕ))
  pub told : map filling_event_content answer.told ≡ telling ++ rest

-- the same, with fewer of them
pub completes_sooner : (ask : Ask) (e : Endpoint) (draft : Emission) (first later more : List (Event (List ℕ))) → later ≡ first ++ more → Completes ask e draft later → Completes ask e draft first
completes_sooner ask e draft first later more is c =
    record {
      answer = c.answer;
      allowed = c.allowed;
      rest = more ++ c.rest;
      told = c.told ∙ (ap (λ (es : List (Event (List ℕ))). es ++ c.rest) is ∙ append_assoc first more c.rest);
    }

-- ---- up to the data

-- What an ask comes to up to the data.
pub record GivesUntilFull (ask : Ask) (e : Endpoint) (draft : Emission) (transfer : Transfer) : Type 0 where
  pub sacks : List Plain
  pub forwards : List Plain
  pub tracker : TrackerState
  pub acknowledges : Acknowledges (wants_sack ask e.queues.queue transfer) (room_of_draft e draft) transfer tracker sacks
  -- once messages were abandoned
  pub gave_up : Stage
  pub next : Option ℕ
  pub gives_up : GivesUpThenForwards (may_forward ask e transfer.retransmission) e.moment transfer (room_of_draft e (filled_draft draft (plain_contents sacks)))
      (stage_of e.queues.queue transfer.retransmission [] 0) gave_up (forward_made next forwards)
  pub begun : Option BegunReset
  pub begins : begun
      ≡ begun_by_ask ask e.options.follow_rfc (may_be_asked e.core e.options.follow_rfc) (room_of_draft e (filled_draft draft (plain_contents (sacks ++ forwards)))) (last_assigned_tsn gave_up.queue) gave_up.waiting
  -- once the packet is full
  pub sent : Stage
  pub fills : let left : SendQueueState =
      queue_requesting (streams_within (room_of_draft e (filled_draft draft (plain_contents (sacks ++ forwards))))) begun gave_up.waiting in
      let queue : RetransmissionState = retransmission_begun begun gave_up.queue in
      FillsIfAllowed (may_give left queue) e.moment
      (stage_of left queue gave_up.told (room_of_draft e (filled_draft draft (plain_contents (sacks ++ forwards) ++ request_contents begun)))) sent

-- the packet with all but the data
abbrev draft_until : (ask : Ask) → (e : Endpoint) → (draft : Emission) → (transfer : Transfer) → GivesUntilFull ask e draft transfer → Emission
draft_until ask e draft transfer u = filled_draft draft (plain_contents (u.sacks ++ u.forwards) ++ request_contents u.begun)

abbrev left_until : (ask : Ask) → (e : Endpoint) → (draft : Emission) → (transfer : Transfer) → GivesUntilFull ask e draft transfer → SendQueueState
left_until ask e draft transfer u = queue_requesting (streams_within (room_of_draft e (filled_draft draft (plain_contents (u.sacks ++ u.forwards))))) u.begun u.gave_up.waiting

abbrev queue_until : (ask : Ask) → (e : Endpoint) → (draft : Emission) → (transfer : Transfer) → GivesUntilFull ask e draft transfer → RetransmissionState
queue_until ask e draft transfer u = retransmission_begun u.begun u.gave_up.queue

abbrev stage_until : (ask : Ask) → (e : Endpoint) → (draft : Emission) → (transfer : Transfer) → GivesUntilFull ask e draft transfer → Stage
stage_until ask e draft transfer u =
    stage_of (left_until ask e draft transfer u) (queue_until ask e draft transfer u) u.gave_up.told (room_of_draft e (draft_until ask e draft transfer u))

-- ---- with the data

-- the answer with these chunks
abbrev answer_with : (ask : Ask) → (e : Endpoint) → (draft : Emission) → (transfer : Transfer) → GivesUntilFull ask e draft transfer → List Plain → List FillingEvent → Answer
answer_with ask e draft transfer u chunks told =
    record {
      acknowledgements = u.sacks ++ u.forwards;
      begun = u.begun;
      data_chunks = chunks;
      told = told;
      after = record (after_begun u.begun e) {
        timers = timers_with (after_begun u.begun e) chunks;
        no_forward_tsn_before = forward_moment u.next e.no_forward_tsn_before;
        queues = record { queue = u.sent.waiting; transfer = Some (record transfer { retransmission = u.sent.queue; tracker = u.tracker }) };
      };
    }

-- The events of the packet's stage are among those that a flush may report.
told_until : (ask : Ask) (e : Endpoint) (draft : Emission) (transfer : Transfer) (u : GivesUntilFull ask e draft transfer) → TellsMore [] u.sent.told
told_until ask e draft transfer u =
    tells_then [] u.gave_up.told u.sent.told
    (tells_given_up_where (may_forward ask e transfer.retransmission) e.moment transfer (room_of_draft e (filled_draft draft (plain_contents u.sacks))) (stage_of e.queues.queue transfer.retransmission [] 0) u.gave_up u.next u.forwards u.gives_up)
    (tells_where (may_give (left_until ask e draft transfer u) (queue_until ask e draft transfer u)) e.moment (stage_until ask e draft transfer u) u.sent u.fills)

chunks_until : (ask : Ask) (e : Endpoint) (draft : Emission) (transfer : Transfer) (u : GivesUntilFull ask e draft transfer) → SomeChunks (room_of_draft e (draft_until ask e draft transfer u)) u.sent
chunks_until ask e draft transfer u =
    some_chunks (room_of_draft e (draft_until ask e draft transfer u)) u.sent
    (packed_where (may_give (left_until ask e draft transfer u) (queue_until ask e draft transfer u)) e.moment (room_of_draft e (draft_until ask e draft transfer u)) (stage_until ask e draft transfer u) u.sent u.fills
    (packed_none (stage_until ask e draft transfer u) refl))

-- A packet's room is no more than the length of a chunk can say.
pub small_room : (e : Endpoint) (draft : Emission) → room_of_draft e draft ≤ 65535
small_room e draft = omega arith

gives_all : (ask : Ask) (e : Endpoint) (draft : Emission) (transfer : Transfer) (u : GivesUntilFull ask e draft transfer)
    → Gives ask e draft transfer (answer_with ask e draft transfer u (chunks_until ask e draft transfer u).chunks (told_until ask e draft transfer u).told)
gives_all ask e draft transfer u =
    let some = chunks_until ask e draft transfer u in
    record {
      sacks = u.sacks;
      forwards = u.forwards;
      parts = refl;
      tracker = u.tracker;
      acknowledges = u.acknowledges;
      gave_up = u.gave_up;
      next = u.next;
      gives_up = u.gives_up;
      later = refl;
      begins = u.begins;
      sent = u.sent;
      fills = u.fills;
      chunks = some.are;
      forwards_fit = forwards_fit_where (may_forward ask e transfer.retransmission) e.moment transfer (room_of_draft e (filled_draft draft (plain_contents u.sacks)))
          (stage_of e.queues.queue transfer.retransmission [] 0) u.gave_up u.next u.forwards (small_room e (filled_draft draft (plain_contents u.sacks))) u.gives_up;
      data_fit = some.fit (small_room e (draft_until ask e draft transfer u));
      told = sym (told_until ask e draft transfer u).is;
      below = refl;
    }

within_until : (ask : Ask) (e : Endpoint) (draft : Emission) (transfer : Transfer) (u : GivesUntilFull ask e draft transfer) → IsWithinMtu e draft
    → IsWithinMtu e (filled_draft draft (plain_contents (u.sacks ++ u.forwards) ++ (request_contents u.begun ++ plain_contents (chunks_until ask e draft transfer u).chunks)))
within_until ask e draft transfer u within =
    let acknowledged : List Content = plain_contents (u.sacks ++ u.forwards) in
    let some = chunks_until ask e draft transfer u in
    let len = some.len (small_room e (draft_until ask e draft transfer u)) in
    three_within e draft acknowledged (request_contents u.begun) (plain_contents some.chunks) within
    (acknowledgements_len (wants_sack ask e.queues.queue transfer) (may_forward ask e transfer.retransmission) e draft transfer u.tracker u.sacks u.forwards
    (stage_of e.queues.queue transfer.retransmission [] 0) u.gave_up u.next u.acknowledges u.gives_up)
    (subst (λ (begun : Option BegunReset). contents_len (request_contents begun) ≤ room_of_draft e (filled_draft draft acknowledged)) (sym u.begins)
    (begun_at_len ask e.options.follow_rfc (may_be_asked e.core e.options.follow_rfc) (room_of_draft e (filled_draft draft acknowledged)) (last_assigned_tsn u.gave_up.queue) u.gave_up.waiting))
    (omega (arith, len))

-- where something waits
answered_busy : (ask : Ask) (e : Endpoint) (draft : Emission) (transfer : Transfer) (answer : Answer) → e.queues.transfer ≡ Some transfer → is_idle e.queues.queue transfer ≡ false
    → Gives ask e draft transfer answer → IsAnswerOfQueues ask e draft answer e.queues.transfer
answered_busy ask e draft transfer answer holds busy gives =
    subst (IsAnswerOfQueues ask e draft answer) (sym holds) (subst (λ (b : Bool). GivesUnlessIdle b ask e draft transfer answer) (sym busy) gives)

-- a flush that stops while a packet is filled with data
pub answer_filling : (ask : Ask) (e : Endpoint) (draft : Emission) (transfer : Transfer) (u : GivesUntilFull ask e draft transfer) → e.queues.transfer ≡ Some transfer
    → is_idle e.queues.queue transfer ≡ false → Completes ask e draft u.sent.told
answer_filling ask e draft transfer u holds busy =
    let answer : Answer = answer_with ask e draft transfer u (chunks_until ask e draft transfer u).chunks (told_until ask e draft transfer u).told in
    record {
      answer = answer;
      allowed = record {
        kept = refl;
        within = within_until ask e draft transfer u;
        by_transfer = answered_busy ask e draft transfer answer holds busy (gives_all ask e draft transfer u);
      };
      rest = [];
      told = sym (told_until ask e draft transfer u).is ∙ sym (append-nil u.sent.told);
    }
