-- The steps of a sender that begin no reset: packets, retransmissions, and what it learns of what
-- is in flight.
use Rattle.std.proofs.Common.{◌≡◌, ℕ, Bool, true, ◌≤◌, ◌+◌, List, [], ◌∷◌, ◌++◌, map, refl, sym, ◌∙◌, ap, subst, arith, inl, inr}
use Rattle.std.specs.Prelude.{Option, Some}
use Rattle.dcsctp_spec.specs.wire.Content.{SackContent}
use Rattle.dcsctp_spec.specs.Packet.{Plain, Content, Emission}
use Rattle.dcsctp_spec.specs.association.Choices.{plain_contents}
use Rattle.dcsctp_spec.specs.association.FlushChanges.{reset_request}
use Rattle.dcsctp_spec.specs.queues.Acknowledging.{is_sack_valid}
use Rattle.dcsctp_spec.specs.queues.AtOnce.{SendsAtOnce, empty_stage}
use Rattle.dcsctp_spec.specs.queues.Chunks.{AreChunksOfTsns}
use Rattle.dcsctp_spec.specs.queues.Outstanding.{OutstandingState, acknowledged_count}
use Rattle.dcsctp_spec.specs.queues.Retransmission.{RetransmissionState}
use Rattle.dcsctp_spec.specs.queues.Transfer.{Transfer}
use Rattle.dcsctp_spec.specs.endpoint.BegunResets.{BegunReset}
use Rattle.dcsctp_spec.specs.endpoint.TransferMoves.{TakesSack, lost_all}
use Rattle.dcsctp_delivery_directions.specs.sending.Places.{HasEntry}
use Rattle.dcsctp_delivery_directions.specs.sending.Log.{Mark, History, log_extended}
use Rattle.dcsctp_delivery_directions.specs.sending.Numbers.{IsOfKind}
use Rattle.dcsctp_delivery_directions.specs.sending.Stages.{Bears, Pends, Stays}
use Rattle.dcsctp_delivery_directions.specs.sending.Flushes.{NoData, SayAll, PacketsSay, PendsIfConnected, IsBegun}
use Rattle.dcsctp_delivery_directions.specs.directions.Directions.{Direction, SameFlight}
use Rattle.dcsctp_delivery_directions.proofs.sending.Packets.{said_chunks, none_said}
use Rattle.dcsctp_delivery_directions.proofs.sending.Filling.{at_once_stays}
use Rattle.dcsctp_delivery_directions.proofs.sending.Acknowledged.{acknowledged_bear, acknowledged_pends, acknowledged_kind, lost_bear}
use Rattle.dcsctp_delivery_directions.proofs.sending.Chunks.{kinds_of, chunks_of_log}
use Rattle.dcsctp_delivery_directions.proofs.receiving.Growing.{received_more}
use Rattle.dcsctp_delivery_directions.proofs.sending.Extended.{packets_later, extends_grown}
use Rattle.dcsctp_delivery_directions.proofs.directions.Cleared.{cleared_more, quiet_more}
use Rattle.dcsctp_delivery_directions.proofs.directions.Flushing.{few_before}
use Rattle.dcsctp_delivery_directions.proofs.directions.Standing.{Stands, emissions_both, same_flight, timed_outstanding, timed_begun}

-- ---- requests

-- A request that was begun is of a mark.
pub record IsMarked (marks : List Mark) (begun : BegunReset) : Type 0 where
  pub mark : Mark
  pub has : HasEntry mark marks
  pub is : mark.begun ≡ begun

pub marked_of : (marks : List Mark) (begun : BegunReset) → HasEntry begun (map (λ mark. mark.begun) marks) → IsMarked marks begun
marked_of [] begun h = absurd h
marked_of (mark ∷ marks) begun h =
    elim h [
      | inl e ↦ record { mark = mark; has = inl refl; is = sym e }
      | inr more ↦ (let m = marked_of marks begun more in record { mark = m.mark; has = inr m.has; is = m.is })
    ]

same_pends : (history : History) (transfer : Option Transfer) → PendsIfConnected history transfer → (t : Transfer) → transfer ≡ Some t → Pends history t.retransmission.reset_begun
same_pends history transfer pends t is = subst (λ (x : Option Transfer). PendsIfConnected history x) is pends

module _ (first : ℕ) (old : Direction) (s : Stands first old) where
  -- what is in flight is sent as the queue numbers messages
  pub known_kind : (transfer : Transfer) → old.queues.transfer ≡ Some transfer → transfer.retransmission.outstanding.is_interleaved ≡ old.queues.queue.is_interleaved
  known_kind transfer known = subst (λ (t : Option Transfer). IsOfKind old.queues.queue.is_interleaved t) known s.queues.kind

  pub known_flight : (transfer : Transfer) → old.queues.transfer ≡ Some transfer → Bears s.history first old.acknowledged transfer.retransmission.outstanding
  known_flight transfer known = same_flight s.history first old.acknowledged old.queues.transfer s.queues.flight transfer known

  pub known_pends : (transfer : Transfer) → old.queues.transfer ≡ Some transfer → Pends s.history transfer.retransmission.reset_begun
  known_pends transfer known = same_pends s.history old.queues.transfer s.queues.pends transfer known

  -- ---- packets

  unfoldable pub stepped_sent : (emission : Emission) → SayAll s.history first old.acknowledged emission.packet.contents → Stands first (record old { sent = old.sent ++ emission ∷ [] })
  stepped_sent emission says =
      record {
        history = s.history;
        fit = s.fit;
        next = s.next;
        queues = s.queues;
        packets = emissions_both s.history first old.acknowledged old.sent (emission ∷ []) s.packets (says, tt);
        count = s.count;
        asked = s.asked;
        quiet = s.quiet;
        arrived = λ little. (let a = s.arrived little in record { places = a.places; were = a.were; once = a.once; received = a.received; cleared = a.cleared });
      }

  unfoldable pub stepped_speaks : (emission : Emission) → NoData emission.packet.contents → Stands first (record old { sent = old.sent ++ emission ∷ [] })
  stepped_speaks emission no_data = stepped_sent emission (none_said s.history first old.acknowledged emission.packet.contents no_data)

  unfoldable pub stepped_asks_again : (emission : Emission) (begun : BegunReset) → HasEntry begun old.asking.requests → emission.packet.contents ≡ reset_request begun.number begun.reset ∷ []
      → Stands first (record old { sent = old.sent ++ emission ∷ [] })
  stepped_asks_again emission begun was contents =
      let m = marked_of s.history.marks begun (subst (λ (l : List BegunReset). HasEntry begun l) s.asked was) in
      let asks : IsBegun s.history begun.number begun.reset = record { mark = m.mark; has = m.has; is = m.is } in
      stepped_sent emission (subst (λ (l : List Content). SayAll s.history first old.acknowledged l) (sym contents) ((asks, tt), tt))

  -- ---- a fast retransmission

  module _ (transfer : Transfer) (left : RetransmissionState) (room : ℕ) (tsns : List ℕ) (stays : Stays old.queued s.history first old.acknowledged (record (empty_stage left old.queues.queue room) { tsns = tsns })) where
    unfoldable pub stepped_stays : (sent : List Emission) → PacketsSay (log_extended stays.more s.history) first old.acknowledged sent
        → Stands first (record old { queues = record old.queues { transfer = Some (record transfer { retransmission = left }) }; sent = sent })
    stepped_stays sent packets =
        record {
          history = log_extended stays.more s.history;
          fit = s.fit;
          next = s.next;
          queues = record {
            queue_holds = stays.stands.queue_holds;
            cut = stays.stands.cut;
            flight = stays.stands.bears;
            pends = stays.stands.pends;
            marks = stays.stands.marks;
            numbers = stays.stands.numbers;
            kind = stays.stands.kind;
          };
          packets = packets;
          count = stays.stands.bears.count;
          asked = s.asked;
          quiet = quiet_more stays.more s.history old.asking.out old.queues.queue.streams stays.kept s.quiet;
          arrived = λ little. (
              let a = s.arrived (few_before stays.more s.history.log little) in
              record {
                places = a.places;
                were = a.were;
                once = a.once;
                received = received_more old.queued [] s.history stays.more first a.places old.tracker old.reassembly stays.current a.received;
                cleared = λ is performed. cleared_more stays.more s.history first old.tracker.cumulative old.queues.queue.streams old.reassembly (a.cleared is performed);
              }
              );
        }

    pub packets_stay : PacketsSay (log_extended stays.more s.history) first old.acknowledged old.sent
    packets_stay = packets_later s.history (log_extended stays.more s.history) (extends_grown stays.more s.history) first old.acknowledged old.acknowledged (omega arith) old.sent s.packets

  unfoldable pub at_once : (now room : ℕ) (transfer : Transfer) (left : RetransmissionState) (tsns : List ℕ) → old.queues.transfer ≡ Some transfer → SendsAtOnce now room old.queues.queue transfer.retransmission left tsns
      → Stays old.queued s.history first old.acknowledged (record (empty_stage left old.queues.queue room) { tsns = tsns })
  at_once now room transfer left tsns known sends =
      at_once_stays old.queued s.history first old.acknowledged now room old.queues.queue transfer.retransmission left tsns s.queues.queue_holds s.queues.cut s.queues.numbers (known_kind transfer known) (known_flight transfer known)
      (known_pends transfer known) s.queues.marks sends

  unfoldable pub stepped_resends : (now room : ℕ) (transfer : Transfer) (left : RetransmissionState) (tsns : List ℕ) (chunks : List Plain) (emission : Emission) → old.queues.transfer ≡ Some transfer
      → SendsAtOnce now room old.queues.queue transfer.retransmission left tsns → AreChunksOfTsns left.outstanding tsns chunks → emission.packet.contents ≡ plain_contents chunks
      → Stands first (record old { queues = record old.queues { transfer = Some (record transfer { retransmission = left }) }; sent = old.sent ++ emission ∷ [] })
  stepped_resends now room transfer left tsns chunks emission known sends are contents =
      let stays = at_once now room transfer left tsns known sends in
      let after : History = log_extended stays.more s.history in
      let says : SayAll after first old.acknowledged emission.packet.contents =
      subst (λ (l : List Content). SayAll after first old.acknowledged l) (sym contents)
      (said_chunks after first old.acknowledged left.outstanding.is_interleaved chunks (chunks_of_log after first old.acknowledged left.outstanding tsns chunks (kinds_of stays.stands.numbers stays.stands.kind) stays.stands.bears are)) in
      stepped_stays transfer left room tsns stays (old.sent ++ emission ∷ []) (emissions_both after first old.acknowledged old.sent (emission ∷ []) (packets_stay transfer left room tsns stays) (says, tt))

  unfoldable pub stepped_resends_nothing : (now room : ℕ) (transfer : Transfer) (left : RetransmissionState) (tsns : List ℕ) → old.queues.transfer ≡ Some transfer → SendsAtOnce now room old.queues.queue transfer.retransmission left tsns
      → Stands first (record old { queues = record old.queues { transfer = Some (record transfer { retransmission = left }) } })
  stepped_resends_nothing now room transfer left tsns known sends =
      let stays = at_once now room transfer left tsns known sends in
      stepped_stays transfer left room tsns stays old.sent (packets_stay transfer left room tsns stays)

  -- ---- what is in flight is another

  unfoldable pub stepped_transfer : (transfer : Transfer) (acknowledged : ℕ) → old.acknowledged ≤ acknowledged → Bears s.history first acknowledged transfer.retransmission.outstanding → Pends s.history transfer.retransmission.reset_begun
      → transfer.retransmission.outstanding.is_interleaved ≡ old.queues.queue.is_interleaved → Stands first (record old { queues = record old.queues { transfer = Some transfer }; acknowledged = acknowledged })
  stepped_transfer transfer acknowledged more bears pends kind =
      record {
        history = s.history;
        fit = s.fit;
        next = s.next;
        queues = record { queue_holds = s.queues.queue_holds; cut = s.queues.cut; flight = bears; pends = pends; marks = s.queues.marks; numbers = s.queues.numbers; kind = kind };
        packets = packets_later s.history s.history (extends_grown [] s.history) first old.acknowledged acknowledged more old.sent s.packets;
        count = bears.count;
        asked = s.asked;
        quiet = s.quiet;
        arrived = λ little. (let a = s.arrived little in record { places = a.places; were = a.were; once = a.once; received = a.received; cleared = a.cleared });
      }

  -- the new state pends as that did
  pub pends_as : (transfer : Transfer) (begun : Bool) → old.queues.transfer ≡ Some transfer → begun ≡ transfer.retransmission.reset_begun → Pends s.history begun
  pends_as transfer begun known same = subst (λ (b : Bool). Pends s.history b) (sym same) (known_pends transfer known)

  unfoldable pub stepped_turns_aside : (transfer new : Transfer) → old.queues.transfer ≡ Some transfer → SameFlight transfer.retransmission new.retransmission → Stands first (record old { queues = record old.queues { transfer = Some new } })
  stepped_turns_aside transfer new known same =
      let bears : Bears s.history first old.acknowledged new.retransmission.outstanding =
      subst (λ (o : OutstandingState). Bears s.history first old.acknowledged o) (sym same.outstanding) (known_flight transfer known) in
      stepped_transfer new old.acknowledged (omega arith) bears (pends_as transfer new.retransmission.reset_begun known same.reset_begun)
      (ap (λ (o : OutstandingState). o.is_interleaved) same.outstanding ∙ known_kind transfer known)

  unfoldable pub stepped_acknowledges : (now : ℕ) (sack : SackContent) (transfer new : Transfer) → old.queues.transfer ≡ Some transfer → is_sack_valid transfer.retransmission sack.cumulative_tsn_ack ≡ true → TakesSack now sack transfer new
      → Stands first (record old { queues = record old.queues { transfer = Some new }; acknowledged = old.acknowledged + acknowledged_count transfer.retransmission.outstanding sack.cumulative_tsn_ack })
  stepped_acknowledges now sack transfer new known valid does =
      let after : ℕ = old.acknowledged + acknowledged_count transfer.retransmission.outstanding sack.cumulative_tsn_ack in
      let bears = acknowledged_bear s.history first old.acknowledged now sack.cumulative_tsn_ack sack.a_rwnd does.blocks transfer.retransmission does.left valid (known_flight transfer known) does.acknowledges in
      let same : new.retransmission.outstanding ≡ does.left.outstanding = ap (λ (t : Transfer). t.retransmission.outstanding) does.is ∙ timed_outstanding does.round_trip (record transfer { retransmission = does.left }) in
      let begun : new.retransmission.reset_begun ≡ does.left.reset_begun = ap (λ (t : Transfer). t.retransmission.reset_begun) does.is ∙ timed_begun does.round_trip (record transfer { retransmission = does.left }) in
      stepped_transfer new after (omega arith) (subst (λ (o : OutstandingState). Bears s.history first after o) (sym same) bears)
      (pends_as transfer new.retransmission.reset_begun known (begun ∙ acknowledged_pends now sack.cumulative_tsn_ack sack.a_rwnd does.blocks transfer.retransmission does.left does.acknowledges))
      (ap (λ (o : OutstandingState). o.is_interleaved) same ∙ acknowledged_kind now sack.cumulative_tsn_ack sack.a_rwnd does.blocks transfer.retransmission does.left does.acknowledges ∙ known_kind transfer known)

  unfoldable pub stepped_loses : (now : ℕ) (transfer : Transfer) → old.queues.transfer ≡ Some transfer → Stands first (record old { queues = record old.queues { transfer = Some (lost_all now transfer) } })
  stepped_loses now transfer known =
      stepped_transfer (lost_all now transfer) old.acknowledged (omega arith) (lost_bear s.history first old.acknowledged now transfer.retransmission (known_flight transfer known)) (known_pends transfer known) (known_kind transfer known)
