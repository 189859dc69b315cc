-- What was lost comes through: the two ends together.
use Rattle.std.proofs.Common.{◌≡◌, ◌≤◌, ◌<◌, ◌+◌, ◌-◌, ◌%◌, ◌^◌, ℕ, true, false, Some, List, ◌∷◌, length, slice_get, refl, sym, ap, ◌∙◌, subst, arith}
use Rattle.std.proofs.lemmas.Bool.Decides.{nat_tests}
use Rattle.dcsctp_spec_lemmas.specs.wire.Content.{SackContent}
use Rattle.dcsctp_spec_lemmas.specs.spec.Packet.{Emission}
use Rattle.dcsctp_spec_lemmas.specs.spec.association.Acts.{flushes}
use Rattle.dcsctp_spec_lemmas.specs.spec.association.Choices.{plain_contents}
use Rattle.dcsctp_spec_lemmas.specs.spec.endpoint.CallTurns.{Transition, IsTurn}
use Rattle.dcsctp_spec_lemmas.specs.spec.endpoint.Endpoint.{Endpoint}
use Rattle.dcsctp_spec_lemmas.specs.spec.endpoint.Event.{packets_of_events}
use Rattle.dcsctp_spec_lemmas.specs.spec.endpoint.Outcome.{Outcome}
use Rattle.dcsctp_spec_lemmas.specs.spec.endpoint.OwnTimers.{retransmission}
use Rattle.dcsctp_spec_lemmas.specs.spec.endpoint.TransferMoves.{lost_all}
use Rattle.dcsctp_spec_lemmas.specs.spec.endpoint.Turn.{act_input, timer_expires, ActTurn}
use Rattle.dcsctp_spec_lemmas.specs.spec.queues.Items.{Item}
use Rattle.dcsctp_spec_lemmas.specs.spec.queues.Outstanding.{OutstandingState, tsn_at, acknowledged_count}
use Rattle.dcsctp_spec_lemmas.specs.spec.queues.Sending.{Fragment}
use Rattle.dcsctp_spec_lemmas.specs.spec.queues.Tracker.{has_numbers_left}
use Rattle.dcsctp_spec_lemmas.specs.spec.queues.Transfer.{Transfer}
use Rattle.dcsctp_spec_laws.specs.SackLaws.{SacksFit}
use Rattle.dcsctp_theorem_transfer.specs.Deadlines.{IsOpen}
use Rattle.dcsctp_theorem_transfer.specs.Hearing.{AcknowledgesLowest}
use Rattle.dcsctp_theorem_transfer.specs.Recovering.{IsLost, AwaitsData, HasReceivedPart, ComesThrough, LostDataComesThrough}
use Rattle.dcsctp_theorem_transfer.specs.Taking.{HasPayload}
use Rattle.dcsctp_theorem_transfer.proofs.Observing.{HasReceivedBelow, cumulative_below}
use Rattle.dcsctp_theorem_transfer.proofs.Extending.{StaysThere, Extends, extends_then, lost_extends}
use Rattle.dcsctp_theorem_transfer.proofs.Hearing.{sender_hears}
use Rattle.dcsctp_theorem_transfer.proofs.ResendingLosses.{after_loss, asks_then, expired}
use Rattle.dcsctp_theorem_transfer.proofs.Resent.{SendsAlone, FlushesAlone, flushes_alone}
use Rattle.dcsctp_theorem_transfer.proofs.LowestTaken.{Meets}
use Rattle.dcsctp_theorem_transfer.proofs.LowestAnswered.{AnswersLowest, packet_answered}

-- ---- both

-- A TSN is read back from the lowest one.
counted_is : (first number cumulative size : ℕ) → number % 2 ^ 32 ≡ first → number ≤ cumulative → cumulative < number + size → size < 2 ^ 31
    → (((cumulative % 2 ^ 32 + 1) % 2 ^ 32) + (2 ^ 32 - first)) % 2 ^ 32 ≡ cumulative + 1 - number
counted_is first number cumulative size is reached below few = omega (arith, is, reached, below, few)

few_left : (cumulative number : ℕ) → has_numbers_left (number + 2 ^ 31) ≡ true → cumulative < number + 2 ^ 31 → has_numbers_left cumulative ≡ true
few_left cumulative number left below = grind (arith, nat_tests, left, below)

-- What the flush leaves, and what the receiver has of it.
pub meets_by : (old new : OutstandingState) (t : Transfer) → Extends old new → HasReceivedPart old t.tracker → Meets new t
meets_by old new t extends part =
    let below : HasReceivedBelow (part.number + length new.items) t.tracker =
    (λ other received. let sent = part.sent other received in let more = extends.more in omega (arith, sent, more)) in
    let few : length new.items < 2 ^ 31 = extends.few part.few in
    let cumulative : t.tracker.cumulative < part.number + length new.items = cumulative_below (part.number + length new.items) t.tracker below in
    record {
      number = part.number;
      is = part.is ∙ sym extends.first;
      before = part.before;
      below = below;
      few = few;
      left = few_left t.tracker.cumulative part.number part.left (omega (arith, cumulative, few));
    }

record FlushedLost (e : Endpoint) (t : Transfer) (o : Outcome) : Type 0 where
  sends : SendsAlone (tsn_at t.retransmission.outstanding 0) t.retransmission.outstanding o
  is_open : IsOpen o.after.core

flushed_lost : (e : Endpoint) (t : Transfer) (lost flushed : Transition) → IsTurn e (timer_expires retransmission) lost → IsTurn lost.outcome.after (act_input flushes) flushed → IsLost e t
    → FlushedLost e t flushed.outcome
flushed_lost e t lost flushed expires flush is =
    let after : lost.outcome.after ≡ after_loss e t = expired e t e.queues.transfer lost.outcome is.alone.has expires.comes in
    let turn : ActTurn (after_loss e t) flushes flushed.outcome = subst (λ (x : Endpoint). ActTurn x flushes flushed.outcome) after flush.comes in
    let alone : FlushesAlone (tsn_at t.retransmission.outstanding 0) (lost_all e.moment t).retransmission.outstanding flushed.outcome =
    flushes_alone (after_loss e t) flushed.outcome (lost_all e.moment t) 0 turn is.alone.is_open is.alone.allowed refl (asks_then e t 0 is.alone is.first.lowest) in
    let sends : SendsAlone (tsn_at t.retransmission.outstanding 0) (lost_all e.moment t).retransmission.outstanding flushed.outcome = alone.sends in
    record {
      sends = record {
        left = sends.left;
        has = sends.has;
        extends = extends_then t.retransmission.outstanding (lost_all e.moment t).retransmission.outstanding sends.left.retransmission.outstanding (lost_extends e.moment t.retransmission) sends.extends;
        later = sends.later;
        chunks = sends.chunks;
        are = sends.are;
        holds = sends.holds;
      };
      is_open = alone.is_open;
    }

-- The SACK that comes back acknowledges the lowest.
acknowledges_it : (e : Endpoint) (old new : Transfer) (sack : SackContent) (lowest : Item) (number cumulative : ℕ) → IsOpen e.core → e.queues.transfer ≡ Some new → Extends old.retransmission.outstanding new.retransmission.outstanding
    → slice_get old.retransmission.outstanding.items 0 ≡ Some lowest → lowest.progress.was_acknowledged ≡ false → number % 2 ^ 32 ≡ new.retransmission.outstanding.first_tsn
    → sack.cumulative_tsn_ack ≡ cumulative % 2 ^ 32 → number ≤ cumulative → cumulative < number + length new.retransmission.outstanding.items → length new.retransmission.outstanding.items < 2 ^ 31
    → AcknowledgesLowest e new sack
acknowledges_it e old new sack lowest number cumulative opened has extends at anew is says reached below few =
    let counted : acknowledged_count new.retransmission.outstanding sack.cumulative_tsn_ack ≡ cumulative + 1 - number =
    ap (acknowledged_count new.retransmission.outstanding) says
    ∙ counted_is new.retransmission.outstanding.first_tsn number cumulative (length new.retransmission.outstanding.items) is reached below few in
    let there : StaysThere new.retransmission.outstanding.items 0 lowest = extends.items 0 lowest at in
    record {
      is_open = opened;
      has = has;
      some = omega (arith, counted, reached);
      sent = omega (arith, counted, reached, below);
      lowest = there.item;
      at = there.at;
      anew = there.same.acknowledged ∙ anew;
    }

-- The sender has these outstanding once its flush is over, and the receiver answers.
pub comes_by : (e : Endpoint) (old new : Transfer) (lowest : Item) (number : ℕ) (other : Endpoint) (turns : List Transition) → IsOpen e.core → e.queues.transfer ≡ Some new
    → Extends old.retransmission.outstanding new.retransmission.outstanding → slice_get old.retransmission.outstanding.items 0 ≡ Some lowest → lowest.progress.was_acknowledged ≡ false
    → number % 2 ^ 32 ≡ new.retransmission.outstanding.first_tsn → length new.retransmission.outstanding.items < 2 ^ 31
    → AnswersLowest number (number + length new.retransmission.outstanding.items) other turns → ComesThrough e old other turns
comes_by e old new lowest number other turns opened has extends at anew is few answered =
    let acknowledges : AcknowledgesLowest e new answered.sack =
    acknowledges_it e old new answered.sack lowest number answered.cumulative opened has extends at anew is answered.acknowledges answered.reached answered.below few in
    record {
      sack = answered.sack;
      says = answered.says;
      transfer = new;
      has = has;
      same = extends.first;
      acknowledges = acknowledges;
      heard = λ tag turn comes. sender_hears e new tag answered.sack turn comes acknowledges;
    }

-- The lowest item still has its bytes.
pub bytes_stay : (old new : OutstandingState) (lowest : Item) → Extends old new → slice_get old.items 0 ≡ Some lowest → HasPayload lowest.fragment.payload
    → (item : Item) → slice_get new.items 0 ≡ Some item → HasPayload item.fragment.payload
bytes_stay old new lowest extends at bytes item there =
    let stays : StaysThere new.items 0 lowest = extends.items 0 lowest at in
    let both : Some stays.item ≡ Some item = sym stays.at ∙ there in
    subst (λ (i : Item). HasPayload i.fragment.payload) (let same : stays.item ≡ item = cc in same) (subst (λ (f : Fragment). HasPayload f.payload) (sym stays.same.fragment) bytes)

pub lowest_stays : (old new : OutstandingState) → Extends old new → tsn_at old 0 ≡ tsn_at new 0
lowest_stays old new extends = ap (λ (n : ℕ). (n + 0) % 2 ^ 32) (sym extends.first)

same_first : (packets : List Emission) (one other : Emission) (ones others : List Emission) → packets ≡ one ∷ ones → packets ≡ other ∷ others → one ≡ other
same_first packets one other ones others a b = let both : one ∷ ones ≡ other ∷ others = sym a ∙ b in cc

pub lost_data_comes_through : SacksFit → LostDataComesThrough
lost_data_comes_through law e old lost flushed expires flush is other received awaits part first others packets turns whole =
    let gone : FlushedLost e old flushed.outcome = flushed_lost e old lost flushed expires flush is in
    let new : Transfer = gone.sends.left in
    let outstanding : OutstandingState = new.retransmission.outstanding in
    let extends : Extends old.retransmission.outstanding outstanding = gone.sends.extends in
    let meets : Meets outstanding received = meets_by old.retransmission.outstanding outstanding received extends part in
    let here : AwaitsData other received outstanding.is_interleaved = subst (AwaitsData other received) (sym extends.kind) awaits in
    let contents : first.packet.contents ≡ plain_contents gone.sends.chunks =
    ap (λ (x : Emission). x.packet.contents) (same_first (packets_of_events flushed.outcome.events) first gone.sends.holds.first others gone.sends.holds.others packets gone.sends.holds.are) ∙ gone.sends.holds.is in
    let answered : AnswersLowest meets.number (meets.number + length outstanding.items) other turns =
    packet_answered outstanding other received here meets law (tsn_at old.retransmission.outstanding 0) gone.sends.later gone.sends.chunks first.packet turns contents
    (lowest_stays old.retransmission.outstanding outstanding extends) gone.sends.are (bytes_stay old.retransmission.outstanding outstanding is.first.lowest.item extends is.first.lowest.at is.first.payload) whole in
    comes_by flushed.outcome.after old new is.first.lowest.item meets.number other turns gone.is_open gone.sends.has extends is.first.lowest.at is.first.anew meets.is meets.few answered
