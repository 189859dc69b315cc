-- A flush, packet by packet.
use Rattle.std.proofs.Common.{ℕ, List, [], ◌++◌, length, arith, refl, sym, subst, inl, inr}
use Rattle.std.specs.Prelude.{Option, None}
use Rattle.dcsctp_spec.specs.endpoint.Event.{Event, packets_of_events}
use Rattle.dcsctp_spec.specs.Packet.{Emission}
use Rattle.dcsctp_spec.specs.endpoint.Endpoint.{Endpoint, Core, closed as closed_core, cookie_wait, cookie_echoed, open_in}
use Rattle.dcsctp_spec.specs.endpoint.Outcome.{still}
use Rattle.dcsctp_spec.specs.queues.SendQueue.{SendQueueState}
use Rattle.dcsctp_spec.specs.queues.Transfer.{EndpointQueues}
use Rattle.dcsctp_spec.specs.endpoint.BegunResets.{BegunReset}
use Rattle.dcsctp_spec.specs.endpoint.FlushOutcomes.{Answer, asked_outcome, next_draft, flush_of, Ask, first_ask, later_ask, AreFlushAnswers, at_limit, at_empty, after_packet, FlushAnswers, packets_allowed}
use Rattle.dcsctp_delivery_directions.specs.sending.Log.{Message, History, log_extended, with_mark, sent_messages}
use Rattle.dcsctp_delivery_directions.specs.sending.Flushes.{begun_reset_of, SayAll, PacketsSay, QueuesFollowLog, SendsLogged}
use Rattle.dcsctp_delivery_directions.proofs.sending.Noted.{marked_twice, current_before}
use Rattle.dcsctp_delivery_directions.proofs.sending.Pauses.{PausesStay, kept_later, kept_both, current_both}
use Rattle.dcsctp_delivery_directions.proofs.sending.PausedFlushes.{later_begun, later_paused}
use Rattle.std.proofs.lemmas.List.{length-append}
use Rattle.dcsctp_delivery_directions.proofs.sending.Packets.{packets_both, packets_more}
use Rattle.dcsctp_delivery_directions.proofs.sending.OnePacket.{asked_sends}
use Rattle.dcsctp_delivery_directions.proofs.sending.StayHanded.{handed_for_later}

next_empty : (history : History) (first acknowledged : ℕ) (core : Core) (draft : Emission) → SayAll history first acknowledged (next_draft core draft).packet.contents
next_empty history first acknowledged closed_core draft = tt
next_empty history first acknowledged (cookie_wait my) draft = tt
next_empty history first acknowledged (cookie_echoed my held cookie) draft = tt
next_empty history first acknowledged (open_in phase my held) draft = tt

still_sends : (queued : List Message) (history : History) (first acknowledged : ℕ) (e : Endpoint) → QueuesFollowLog queued history first acknowledged e.queues
    → SendsLogged (sent_messages queued history) first acknowledged e.queues.queue None (still e).after.queues (still e).events
still_sends queued history first acknowledged e stands =
    record {
      more = [];
      ids = [];
      bound = length history.log;
      low = omega arith;
      high = omega arith;
      stands = stands;
      packets = tt;
      current = λ n f at. absurd (cc);
      kept = λ n f at. absurd (cc);
      handed = λ id handed. inl handed;
      stay = λ id handed. handed;
      named = tt;
    }

-- what begins no reset goes after what may
sends_then : (queued : List Message) (history : History) (first acknowledged : ℕ) (old : SendQueueState) (begun : Option BegunReset) (between after : EndpointQueues) (events others : List (Event Emission))
    (one : SendsLogged (sent_messages queued history) first acknowledged old begun between events) → PausesStay between.queue.streams after.queue.streams
    → SendsLogged (sent_messages queued (with_mark begun one.ids one.bound (log_extended one.more history))) first acknowledged between.queue None after others → SendsLogged (sent_messages queued history) first acknowledged old begun after (events ++ others)
sends_then queued history first acknowledged old begun between after events others one paused two =
    let noted : History = with_mark begun one.ids one.bound (log_extended one.more history) in
    let same = marked_twice begun one.ids one.bound two.more one.more history in
    record {
      more = two.more ++ one.more;
      ids = one.ids;
      bound = one.bound;
      low = one.low;
      high = omega (arith, one.high, length-append two.more one.more);
      stands = subst (λ (h : History). QueuesFollowLog queued h first acknowledged after) (sym same) two.stands;
      packets = subst (λ (h : History). PacketsSay h first acknowledged (packets_of_events (events ++ others))) (sym same)
          (packets_both (log_extended two.more noted) first acknowledged events others (packets_more two.more noted first acknowledged (packets_of_events events) one.packets) two.packets);
      current = current_both history two.more one.more (current_before begun one.ids one.bound one.more history two.more two.current) one.current;
      kept = kept_both after.queue.streams two.more one.more two.kept (kept_later between.queue.streams after.queue.streams one.more paused one.kept);
      handed = λ id handed. elim (two.handed id handed) [ inl before ↦ one.handed id before | inr none ↦ absurd none ];
      stay = λ id handed. two.stay id (one.stay id handed);
      named = handed_for_later begun one.ids between.queue.streams after.queue.streams two.stay one.named;
    }

answers_send : (queued : List Message) (history : History) (first acknowledged : ℕ) (ask : Ask) (n : ℕ) (e : Endpoint) (draft : Emission) (answers : List Answer) → QueuesFollowLog queued history first acknowledged e.queues
    → SayAll history first acknowledged draft.packet.contents → AreFlushAnswers ask n e draft answers
    → SendsLogged (sent_messages queued history) first acknowledged e.queues.queue (begun_reset_of answers) (flush_of e draft answers).after.queues (flush_of e draft answers).events
answers_send queued history first acknowledged _ _ _ _ _ stands say (at_limit ask e draft) = still_sends queued history first acknowledged e stands
answers_send queued history first acknowledged _ _ _ _ _ stands say (at_empty ask more e draft answer is empty) =
    let one = asked_sends queued history first acknowledged ask e draft answer stands say is in
    let between : Endpoint = (asked_outcome e draft answer).after in
    sends_then queued history first acknowledged e.queues.queue answer.begun between.queues between.queues (asked_outcome e draft answer).events [] one (λ id. refl)
    (still_sends queued (with_mark answer.begun one.ids one.bound (log_extended one.more history)) first acknowledged between one.stands)
answers_send queued history first acknowledged _ _ _ _ _ stands say (after_packet ask more e draft answer answers is some rest) =
    let one = asked_sends queued history first acknowledged ask e draft answer stands say is in
    let between : Endpoint = (asked_outcome e draft answer).after in
    let noted : History = with_mark answer.begun one.ids one.bound (log_extended one.more history) in
    let after : EndpointQueues = (flush_of between (next_draft e.core draft) answers).after.queues in
    let events : List (Event Emission) = (flush_of between (next_draft e.core draft) answers).events in
    let two = answers_send queued noted first acknowledged later_ask more between (next_draft e.core draft) answers one.stands (next_empty noted first acknowledged e.core draft) rest in
    sends_then queued history first acknowledged e.queues.queue answer.begun between.queues after (asked_outcome e draft answer).events events one (later_paused more between (next_draft e.core draft) answers rest)
    (subst (λ (begun : Option BegunReset). SendsLogged (sent_messages queued noted) first acknowledged between.queues.queue begun after events) (later_begun more between (next_draft e.core draft) answers rest) two)

pub flush_sends : (queued : List Message) (history : History) (first acknowledged : ℕ) (e : Endpoint) (draft : Emission) (answers : List Answer) → QueuesFollowLog queued history first acknowledged e.queues
    → SayAll history first acknowledged draft.packet.contents → FlushAnswers e draft answers
    → SendsLogged (sent_messages queued history) first acknowledged e.queues.queue (begun_reset_of answers) (flush_of e draft answers).after.queues (flush_of e draft answers).events
flush_sends queued history first acknowledged e draft answers stands say allowed =
    answers_send queued history first acknowledged first_ask (packets_allowed e.options.max_burst e.core) e draft answers stands say allowed
