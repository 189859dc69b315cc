-- What was lost comes through where a SACK may be in front.
use Rattle.std.proofs.Common.{◌≡◌, ◌+◌, ◌≤◌, ◌<◌, ◌⊎◌, ℕ, Bool, true, Some, List, [], ◌∷◌, ◌++◌, length, slice_get, inl, inr, refl, sym, ap, ◌∙◌, subst}
use Rattle.dcsctp_spec_lemmas.specs.wire.Content.{SackContent, sack_chunk}
use Rattle.dcsctp_spec_lemmas.specs.types.declared.capabilities.Capabilities.{Capabilities}
use Rattle.dcsctp_spec_lemmas.specs.types.declared.tracking.TsnRange.{TsnRange}
use Rattle.dcsctp_spec_lemmas.specs.spec.Packet.{Content, Packet, Plain, plain, unworked}
use Rattle.dcsctp_spec_lemmas.specs.spec.association.Acts.{flushes}
use Rattle.dcsctp_spec_lemmas.specs.spec.association.Choices.{plain_contents}
use Rattle.dcsctp_spec_lemmas.specs.spec.endpoint.CallTurns.{Transition, IsTurn, Turns, AfterChunk, ChunkTurns, WholeTurns, packet_tail, after_all}
use Rattle.dcsctp_spec_lemmas.specs.spec.endpoint.Endpoint.{Endpoint}
use Rattle.dcsctp_spec_lemmas.specs.spec.endpoint.Following.{Following}
use Rattle.dcsctp_spec_lemmas.specs.spec.endpoint.FlushOutcomes.{first_ask}
use Rattle.dcsctp_spec_lemmas.specs.spec.endpoint.OwnTimers.{retransmission}
use Rattle.dcsctp_spec_lemmas.specs.spec.endpoint.TransferMoves.{lost_all}
use Rattle.dcsctp_spec_lemmas.specs.spec.endpoint.Turn.{Input, packet_ends, act_input, timer_expires, ActTurn}
use Rattle.dcsctp_spec_lemmas.specs.spec.queues.Chunks.{AreChunksOfTsns}
use Rattle.dcsctp_spec_lemmas.specs.spec.queues.Items.{Item}
use Rattle.dcsctp_spec_lemmas.specs.spec.queues.Outstanding.{OutstandingState, tsn_at}
use Rattle.dcsctp_spec_lemmas.specs.spec.queues.Ranges.{IsBeyond, is_number_covered, is_received}
use Rattle.dcsctp_spec_lemmas.specs.spec.queues.Tracker.{has_numbers_left, greatest_distance}
use Rattle.dcsctp_spec_lemmas.specs.spec.queues.Transfer.{Transfer}
use Rattle.dcsctp_spec_laws.specs.SackLaws.{SacksFit}
use Rattle.dcsctp_theorem_transfer.specs.Delaying.{SendSacks}
use Rattle.dcsctp_theorem_transfer.specs.Recovering.{AwaitsData, SaysSack, DelaysSack, IsLostBehind, LostDataComesBehind}
use Rattle.dcsctp_theorem_transfer.specs.Taking.{HasPayload}
use Rattle.dcsctp_theorem_transfer.proofs.Along.{AsksAlong, AreSacks, no_sack, one_sack}
use Rattle.dcsctp_theorem_transfer.proofs.Behind.{SendsBehind, FlushesBehind, flushes_behind}
use Rattle.dcsctp_theorem_transfer.proofs.Extending.{Extends, extends_then, lost_extends}
use Rattle.dcsctp_theorem_transfer.proofs.LowestAnswered.{AnswersLowest, begins_still, tail_is, chunks_answered, packet_answered}
use Rattle.dcsctp_theorem_transfer.proofs.LowestTaken.{Meets}
use Rattle.dcsctp_theorem_transfer.proofs.Recovering.{meets_by, comes_by, bytes_stay, lowest_stays}
use Rattle.dcsctp_theorem_transfer.proofs.ResendingLosses.{after_loss, all_lost_last, lost_sends, next_fits, expired}
use Rattle.dcsctp_theorem_transfer.proofs.Unmoved.{SameReceived, StaysReceiver, IsUnmoved, chunk_unmoved, room_stays, by_numbers}

-- ---- the receiver, after a SACK

pub still_awaits : (kind : Bool) (e after : Endpoint) (t : Transfer) (awaits : AwaitsData e t kind) → (stays : StaysReceiver t e.options awaits.held.capabilities after) → AwaitsData after stays.left kind
still_awaits kind e after t awaits stays =
    record {
      my = stays.my;
      held = stays.held;
      phase = stays.phase;
      has = stays.has;
      sends = subst SendSacks (sym stays.options_are) awaits.sends;
      follows = stays.same.follows ∙ awaits.follows;
      tracked = record {
        beyond = by_numbers IsBeyond t stays.left stays.same awaits.tracked.beyond;
        near = by_numbers (λ (c : ℕ) (ranges : List TsnRange). (number : ℕ) → is_number_covered number ranges ≡ true → number ≤ c + greatest_distance) t stays.left stays.same awaits.tracked.near;
      };
      form = ap (λ (k : Capabilities). k.message_interleaving) stays.kinds_are ∙ awaits.form;
      room = room_stays t stays.left stays.same awaits.room;
    }

abbrev still_meets : (outstanding : OutstandingState) (old new : Transfer) → SameReceived old new → (meets : Meets outstanding old) → Meets outstanding new
still_meets outstanding old new same meets =
    record {
      number = meets.number;
      is = meets.is;
      before = subst (λ (c : ℕ). meets.number ≤ c + 1) (sym same.cumulative) meets.before;
      below = by_numbers (λ (c : ℕ) (ranges : List TsnRange). (number : ℕ) → is_received c number ranges ≡ true → number < meets.number + length outstanding.items) old new same meets.below;
      few = meets.few;
      left = subst (λ (c : ℕ). has_numbers_left c ≡ true) (sym same.cumulative) meets.left;
    }

-- ---- the packet

later_answered : (number bound : ℕ) (e : Endpoint) (turn : Transition) (turns : List Transition) → AnswersLowest number bound turn.outcome.after turns → AnswersLowest number bound e (turn ∷ turns)
later_answered number bound e turn turns answered =
    record {
      sack = answered.sack;
      cumulative = answered.cumulative;
      acknowledges = answered.acknowledges;
      reached = answered.reached;
      below = answered.below;
      says = said answered.sack answered.says;
    }
  where
    said : (sack : SackContent) → SaysSack sack turns ⊎ DelaysSack (after_all turn.outcome.after turns) sack → SaysSack sack (turn ∷ turns) ⊎ DelaysSack (after_all e (turn ∷ turns)) sack
    said sack (inl says) = inl (inr says)
    said sack (inr delays) = inr delays

module _ (outstanding : OutstandingState) (b : Endpoint) (t : Transfer) (awaits : AwaitsData b t outstanding.is_interleaved) (meets : Meets outstanding t) (law : SacksFit) (tsn : ℕ) (later : List ℕ) (chunks : List Plain)
    (lowest : tsn ≡ tsn_at outstanding 0) (are : AreChunksOfTsns outstanding (tsn ∷ later) chunks) (bytes : (item : Item) → slice_get outstanding.items 0 ≡ Some item → HasPayload item.fragment.payload) where
  sack_first : (sack : SackContent) (tag : ℕ) (turns : List Transition) → ChunkTurns b tag (plain (unworked (sack_chunk sack)) ∷ plain_contents chunks) (packet_ends ∷ []) turns
      → AnswersLowest meets.number (meets.number + length outstanding.items) b turns
  sack_first sack tag [] does = absurd does
  sack_first sack tag (turn ∷ turns) does =
      let unmoved : IsUnmoved t b.options awaits.held.capabilities turn.outcome = chunk_unmoved b awaits.held awaits.my t tag sack turn.outcome awaits.phase awaits.has does.0.comes in
      let rest : ChunkTurns turn.outcome.after tag (plain_contents chunks) (packet_ends ∷ []) turns =
      subst (λ (f : Following). AfterChunk f (ChunkTurns turn.outcome.after tag (plain_contents chunks) (packet_ends ∷ []) turns) (Turns turn.outcome.after (packet_ends ∷ []) turns) (turns ≡ [])) unmoved.following does.1 in
      later_answered meets.number (meets.number + length outstanding.items) b turn turns
      (chunks_answered outstanding turn.outcome.after unmoved.stays.left (still_awaits outstanding.is_interleaved b turn.outcome.after t awaits unmoved.stays)
      (still_meets outstanding t unmoved.stays.left unmoved.stays.same meets) law tsn tag later chunks turns lowest are bytes rest)

  behind_answered : (sacks : List Plain) → AreSacks sacks → (packet : Packet) (turns : List Transition) → packet.contents ≡ plain_contents sacks ++ plain_contents chunks → WholeTurns b packet turns
      → AnswersLowest meets.number (meets.number + length outstanding.items) b turns
  behind_answered _ no_sack packet turns is does = packet_answered outstanding b t awaits meets law tsn later chunks packet turns is lowest are bytes does
  behind_answered _ (one_sack sack) packet [] is does = absurd does
  behind_answered _ (one_sack sack) packet (begun ∷ turns) is does =
      let after : begun.outcome.after ≡ b = begins_still outstanding b t awaits meets begun packet.contents does.0.comes in
      let tail : packet_tail b ≡ packet_ends ∷ [] = tail_is outstanding b t awaits meets in
      let here : ChunkTurns b packet.tag packet.contents (packet_tail b) turns = subst (λ (x : Endpoint). ChunkTurns x packet.tag packet.contents (packet_tail x) turns) after does.1 in
      let ended : ChunkTurns b packet.tag packet.contents (packet_ends ∷ []) turns = subst (λ (ends : List Input). ChunkTurns b packet.tag packet.contents ends turns) tail here in
      let answered : AnswersLowest meets.number (meets.number + length outstanding.items) b turns =
      sack_first sack packet.tag turns (subst (λ (contents : List Content). ChunkTurns b packet.tag contents (packet_ends ∷ []) turns) is ended) in
      later_answered meets.number (meets.number + length outstanding.items) b begun turns (subst (λ (x : Endpoint). AnswersLowest meets.number (meets.number + length outstanding.items) x turns) (sym after) answered)

-- ---- the sender

asks_after : (e : Endpoint) (t : Transfer) (is : IsLostBehind e t) → AsksAlong first_ask (after_loss e t) (lost_all e.moment t) 0
asks_after e t is =
    record {
      quiet = is.resets;
      lasting = all_lost_last t.retransmission.outstanding.items is.lasting;
      next = (next_fits e t 0 is.first.lowest).0;
      may = lost_sends e.moment t.retransmission;
      fits = (next_fits e t 0 is.first.lowest).1;
    }

flushed_behind : (e : Endpoint) (t : Transfer) (lost flushed : Transition) → IsTurn e (timer_expires retransmission) lost → IsTurn lost.outcome.after (act_input flushes) flushed → IsLostBehind e t
    → FlushesBehind (tsn_at t.retransmission.outstanding 0) (lost_all e.moment t).retransmission.outstanding flushed.outcome
flushed_behind e t lost flushed expires flush is =
    let after : lost.outcome.after ≡ after_loss e t = expired e t e.queues.transfer lost.outcome is.has expires.comes in
    let turn : ActTurn (after_loss e t) flushes flushed.outcome = subst (λ (x : Endpoint). ActTurn x flushes flushed.outcome) after flush.comes in
    flushes_behind (after_loss e t) flushed.outcome (lost_all e.moment t) 0 is.is_open turn is.burst refl (asks_after e t is)

pub lost_data_comes_behind : SacksFit → LostDataComesBehind
lost_data_comes_behind law e old lost flushed expires flush is =
    let gone : FlushesBehind (tsn_at old.retransmission.outstanding 0) (lost_all e.moment old).retransmission.outstanding flushed.outcome = flushed_behind e old lost flushed expires flush is in
    let sends : SendsBehind (tsn_at old.retransmission.outstanding 0) (lost_all e.moment old).retransmission.outstanding flushed.outcome = gone.sends in
    let outstanding : OutstandingState = sends.left.retransmission.outstanding in
    let extends : Extends old.retransmission.outstanding outstanding =
    extends_then old.retransmission.outstanding (lost_all e.moment old).retransmission.outstanding outstanding (lost_extends e.moment old.retransmission) sends.extends in
    record {
      packet = sends.packet;
      there = sends.there;
      comes = λ other received awaits part turns whole.
          let meets : Meets outstanding received = meets_by old.retransmission.outstanding outstanding received extends part in
          let here : AwaitsData other received outstanding.is_interleaved = subst (AwaitsData other received) (sym extends.kind) awaits in
          let answered : AnswersLowest meets.number (meets.number + length outstanding.items) other turns =
          behind_answered outstanding other received here meets law (tsn_at old.retransmission.outstanding 0) sends.later sends.chunks (lowest_stays old.retransmission.outstanding outstanding extends) sends.are
          (bytes_stay old.retransmission.outstanding outstanding is.first.lowest.item extends is.first.lowest.at is.first.payload) sends.sacks sends.at_most sends.packet.packet turns sends.contents whole in
          comes_by flushed.outcome.after old sends.left is.first.lowest.item meets.number other turns gone.is_open sends.has extends is.first.lowest.at is.first.anew meets.is meets.few answered;
    }
