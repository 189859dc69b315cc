-- What leaves what a socket has received as it is.
use Rattle.std.proofs.Common.{◌≡◌, ℕ, Bool, true, false, Option, None, Some, List, refl, ◌∙◌, ap, subst}
use Rattle.std.specs.Prelude.{◌&&◌}
use Rattle.dcsctp_spec_lemmas.specs.spec.endpoint.Endpoint.{Endpoint}
use Rattle.dcsctp_spec_lemmas.specs.spec.Packet.{Plain, Emission}
use Rattle.dcsctp_spec_lemmas.specs.spec.queues.Tracker.{TrackerState, is_valid_tsn}
use Rattle.dcsctp_spec_lemmas.specs.spec.queues.Transfer.{Transfer, EndpointQueues, is_idle}
use Rattle.dcsctp_spec_lemmas.specs.spec.endpoint.FlushOutcomes.{Answer, answer_contents, filled_draft, asked_outcome, next_draft, flush_of, Ask, later_ask, room_of_draft, wants_sack, Acknowledges, GivesUnlessIdle, IsAnswerOfQueues, IsFlushAnswer, AreFlushAnswers, at_limit, at_empty, after_packet}
use Rattle.dcsctp_spec_lemmas.specs.spec.endpoint.TransferMoves.{dropping, ReceivesIfRoom, MovesIfForward, timed_transfer}
use Rattle.dcsctp_delivery_directions.proofs.sending.Packets.{out_below}

-- ---- what data and acknowledgements leave

-- Data that is dropped leaves all but the tracker.
pub dropped_is : (b : Bool) (transfer : Transfer) → dropping b transfer ≡ record transfer { tracker = (dropping b transfer).tracker }
dropped_is true transfer = refl
dropped_is false transfer = refl

pub data_where : (b : Bool) (arrival : _) (old new : Transfer) → ReceivesIfRoom b arrival old new → new.retransmission ≡ old.retransmission
data_where true arrival old new does = ap (λ (t : Transfer). t.retransmission) does.rest
data_where false arrival old new does = ap (λ (t : Transfer). t.retransmission) (does ∙ dropped_is (old.tracker.follows_rfc && is_valid_tsn old.tracker.cumulative arrival.tsn) old)

pub forward_where : (b : Bool) (tsn : ℕ) (entries : _) (old new : Transfer) → MovesIfForward b tsn entries old new → new.retransmission ≡ old.retransmission
forward_where true tsn entries old new does = ap (λ (t : Transfer). t.retransmission) does.rest
forward_where false tsn entries old new does = ap (λ (t : Transfer). t.retransmission) does

-- It has received the same.
pub record Alike (old new : Transfer) : Type 0 where
  pub cumulative : new.tracker.cumulative ≡ old.tracker.cumulative
  pub ranges : new.tracker.ranges ≡ old.tracker.ranges
  pub reassembly : new.reassembly ≡ old.reassembly

pub alike : (transfer : Transfer) → Alike transfer transfer
alike transfer = record { cumulative = refl; ranges = refl; reassembly = refl }

pub alike_then : (old between new : Transfer) → Alike old between → Alike between new → Alike old new
alike_then old between new first second =
    record { cumulative = second.cumulative ∙ first.cumulative; ranges = second.ranges ∙ first.ranges; reassembly = second.reassembly ∙ first.reassembly }

pub timed_alike : (round_trip : Option ℕ) (transfer : Transfer) → Alike transfer (timed_transfer round_trip transfer)
timed_alike None transfer = alike transfer
timed_alike (Some round_trip) transfer = record { cumulative = refl; ranges = refl; reassembly = refl }

-- ---- what a flush leaves

pub record Left (old : Transfer) (new : Option Transfer) : Type 0 where
  pub left : Transfer
  pub is : new ≡ Some left
  pub same : Alike old left

acknowledged_alike : (b : Bool) (room : ℕ) (transfer : Transfer) (tracker : TrackerState) (chunks : List Plain) (retransmission : _) → Acknowledges b room transfer tracker chunks
    → Alike transfer (record transfer { retransmission = retransmission; tracker = tracker })
acknowledged_alike false room transfer tracker chunks retransmission does =
    record { cumulative = ap (λ (t : TrackerState). t.cumulative) does.0; ranges = ap (λ (t : TrackerState). t.ranges) does.0; reassembly = refl }
acknowledged_alike true room transfer tracker chunks retransmission does =
    record { cumulative = ap (λ (t : TrackerState). t.cumulative) does.0; ranges = ap (λ (t : TrackerState). t.ranges) does.0; reassembly = refl }

gives_left : (b : Bool) (ask : Ask) (e : Endpoint) (draft : Emission) (transfer : Transfer) (answer : Answer) → e.queues.transfer ≡ Some transfer → GivesUnlessIdle b ask e draft transfer answer
    → Left transfer answer.after.queues.transfer
gives_left true ask e draft transfer answer known does =
    record { left = transfer; is = ap (λ (a : Answer). a.after.queues.transfer) does ∙ known; same = alike transfer }
gives_left false ask e draft transfer answer known does =
    record {
      left = record transfer { retransmission = does.sent.queue; tracker = does.tracker };
      is = ap (λ (b : EndpointQueues). b.transfer) does.below;
      same = acknowledged_alike (wants_sack ask e.queues.queue transfer) (room_of_draft e draft) transfer does.tracker does.sacks does.sent.queue does.acknowledges;
    }

answered_left : (ask : Ask) (e : Endpoint) (draft : Emission) (found : Option Transfer) (transfer : Transfer) (answer : Answer) → e.queues.transfer ≡ found → found ≡ Some transfer → IsAnswerOfQueues ask e draft answer found
    → Left transfer answer.after.queues.transfer
answered_left ask e draft None transfer answer known is does = absurd (cc)
answered_left ask e draft (Some other) transfer answer known is does =
    let same : other ≡ transfer = cc in
    subst (λ (t : Transfer). Left t answer.after.queues.transfer) same (gives_left (is_idle e.queues.queue other) ask e draft other answer known does)

asked_left : (ask : Ask) (e : Endpoint) (draft : Emission) (transfer : Transfer) (answer : Answer) → e.queues.transfer ≡ Some transfer → IsFlushAnswer ask e draft answer
    → Left transfer (asked_outcome e draft answer).after.queues.transfer
asked_left ask e draft transfer answer known does =
    let left = answered_left ask e draft e.queues.transfer transfer answer refl known does.by_transfer in
    record {
      left = left.left;
      is = ap (λ (b : EndpointQueues). b.transfer) (out_below answer.after _ draft.with_checksum draft.packet.tag (filled_draft draft (answer_contents answer)).packet.contents) ∙ left.is;
      same = left.same;
    }

pub flush_left : (ask : Ask) (n : ℕ) (e : Endpoint) (draft : Emission) (answers : List Answer) (transfer : Transfer) → e.queues.transfer ≡ Some transfer → AreFlushAnswers ask n e draft answers
    → Left transfer (flush_of e draft answers).after.queues.transfer
flush_left _ _ _ _ _ transfer known (at_limit ask e draft) = record { left = transfer; is = known; same = alike transfer }
flush_left _ _ _ _ _ transfer known (at_empty ask more e draft answer does empty) = asked_left ask e draft transfer answer known does
flush_left _ _ _ _ _ transfer known (after_packet ask more e draft answer answers does some rest) =
    let first = asked_left ask e draft transfer answer known does in
    let second = flush_left later_ask more (asked_outcome e draft answer).after (next_draft e.core draft) answers first.left first.is rest in
    record { left = second.left; is = second.is; same = alike_then transfer first.left second.left first.same second.same }
