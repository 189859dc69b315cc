-- What was lost comes through: once T3 has expired, the packet that follows brings the lowest outstanding TSN to the other socket,
-- and the SACK that this one sends passes it (RFC 9260, sections 6.2, 6.2.1 and 6.3.3).
use Rattle.std.specs.Prelude.{◌≡◌, ◌⊎◌, ◌≤◌, ◌<◌, ◌+◌, ◌%◌, ◌^◌, ℕ, Bool, true, false, Some, List, [], ◌∷◌, length}
use Rattle.std.specs.List.{AllByRecursion}
use Rattle.dcsctp_spec_lemmas.specs.wire.Content.{SackContent, sack_chunk}
use Rattle.dcsctp_spec_lemmas.specs.types.declared.association.Held.{Held}
use Rattle.dcsctp_spec_lemmas.specs.types.declared.association.Pair.{Pair}
use Rattle.dcsctp_spec_lemmas.specs.spec.Packet.{Content, plain, unworked, Emission}
use Rattle.dcsctp_spec_lemmas.specs.spec.association.Acts.{flushes}
use Rattle.dcsctp_spec_lemmas.specs.spec.endpoint.CallTurns.{Transition, IsTurn, WholeTurns, after_all}
use Rattle.dcsctp_spec_lemmas.specs.spec.endpoint.Endpoint.{Endpoint, open_in, established}
use Rattle.dcsctp_spec_lemmas.specs.spec.endpoint.Event.{packets_of_events}
use Rattle.dcsctp_spec_lemmas.specs.spec.endpoint.FlushOutcomes.{packets_allowed}
use Rattle.dcsctp_spec_lemmas.specs.spec.endpoint.OwnTimers.{retransmission, acknowledgement_delay}
use Rattle.dcsctp_spec_lemmas.specs.spec.endpoint.Turn.{act_input, chunk_input, timer_expires, with_clock}
use Rattle.dcsctp_spec_lemmas.specs.spec.queues.Outstanding.{OutstandingState}
use Rattle.dcsctp_spec_lemmas.specs.spec.queues.OwnResets.{ready_streams}
use Rattle.dcsctp_spec_lemmas.specs.spec.queues.Tracker.{TrackerState, has_received, has_numbers_left}
use Rattle.dcsctp_spec_lemmas.specs.spec.queues.Transfer.{Transfer}
use Rattle.dcsctp_spec_laws.specs.SackLaws.{IsTracked}
use Rattle.dcsctp_theorem_transfer.specs.Deadlines.{IsOpen}
use Rattle.dcsctp_theorem_transfer.specs.Delaying.{OwesByTimer, SendSacks}
use Rattle.dcsctp_theorem_transfer.specs.Hearing.{AcknowledgesLowest, HasHeard}
use Rattle.dcsctp_theorem_transfer.specs.Resending.{IsLasting, SaysDataAlone, IsLowest}
use Rattle.dcsctp_theorem_transfer.specs.Taking.{HasPayload, HasRoomForNext}

-- ---- the two sockets

-- The first item is the lowest that isn't acknowledged. No SACK has acknowledged it before, and it has bytes.
pub record IsFirstLost (e : Endpoint) (transfer : Transfer) : Type 0 where
  pub lowest : IsLowest e transfer 0
  pub anew : lowest.item.progress.was_acknowledged ≡ false
  pub payload : HasPayload lowest.item.fragment.payload

-- Nothing but data waits at the sender, and the first item is lost.
pub record IsLost (e : Endpoint) (transfer : Transfer) : Type 0 where
  pub alone : SaysDataAlone e transfer
  pub first : IsFirstLost e transfer

-- The receiver is Established and follows the RFCs. It may send a packet, takes data in this form, and has room for the next TSN.
pub record AwaitsData (e : Endpoint) (transfer : Transfer) (is_interleaved : Bool) : Type 0 where
  pub my : Pair
  pub held : Held
  pub phase : e.core ≡ open_in established my held
  pub has : e.queues.transfer ≡ Some transfer
  pub sends : SendSacks e.options
  pub follows : transfer.tracker.follows_rfc ≡ true
  pub tracked : IsTracked transfer.tracker
  pub form : held.capabilities.message_interleaving ≡ is_interleaved
  pub room : HasRoomForNext transfer

-- Of what the one has outstanding the other has received a part. It has all before the lowest TSN, which has this number there, and
-- nothing that wasn't sent. The TSNs can be compared (RFC 9260, section 1.6), and there are numbers left.
pub record HasReceivedPart (outstanding : OutstandingState) (tracker : TrackerState) : Type 0 where
  pub number : ℕ
  pub is : number % 2 ^ 32 ≡ outstanding.first_tsn
  pub before : number ≤ tracker.cumulative + 1
  pub sent : (other : ℕ) → has_received tracker other ≡ true → other < number + length outstanding.items
  pub few : length outstanding.items < 2 ^ 31
  pub left : has_numbers_left (number + 2 ^ 31) ≡ true

-- ---- what comes back

-- The first of these packets begins with this SACK.
pub record BeginWithThisSack (sack : SackContent) (packets : List Emission) : Type 0 where
  pub first : Emission
  pub others : List Emission
  pub are : packets ≡ first ∷ others
  pub more : List Content
  pub contents : first.packet.contents ≡ plain (unworked (sack_chunk sack)) ∷ more

-- One of these turns sends such packets.
abbrev pub SaysSack : SackContent → List Transition → Type 0
SaysSack sack [] = ⊥
SaysSack sack (turn ∷ turns) = BeginWithThisSack sack (packets_of_events turn.outcome.events) ⊎ SaysSack sack turns

-- After these turns the SACK is delayed by a timer that runs. At whatever moment that expires, the flush after it sends the SACK.
pub record DelaysSack (e : Endpoint) (sack : SackContent) : Type 0 where
  pub runs : OwesByTimer e.queues.transfer
  pub comes : (moment : ℕ) (over flushed : Transition) → IsTurn (with_clock moment e) (timer_expires acknowledgement_delay) over → IsTurn over.outcome.after (act_input flushes) flushed
      → BeginWithThisSack sack (packets_of_events flushed.outcome.events)

-- The receiver answers the packet by this SACK, at once or after its delay. The SACK acknowledges the lowest TSN, which is the same as
-- before. Once the sender has the SACK, it has heard.
pub record ComesThrough (e : Endpoint) (old : Transfer) (other : Endpoint) (turns : List Transition) : Type 0 where
  pub sack : SackContent
  pub says : SaysSack sack turns ⊎ DelaysSack (after_all other turns) sack
  pub transfer : Transfer
  pub has : e.queues.transfer ≡ Some transfer
  pub same : transfer.retransmission.outstanding.first_tsn ≡ old.retransmission.outstanding.first_tsn
  pub acknowledges : AcknowledgesLowest e transfer sack
  pub heard : (tag : ℕ) (turn : Transition) → IsTurn e (chunk_input tag (plain (unworked (sack_chunk sack)))) turn → HasHeard e transfer sack turn.outcome.after

-- T3 expires and a flush follows. The other socket is handed the first packet of this, and handles its chunks.
abbrev pub LostDataComesThrough : Type 0
LostDataComesThrough =
    (e : Endpoint) (transfer : Transfer) (lost flushed : Transition) → IsTurn e (timer_expires retransmission) lost → IsTurn lost.outcome.after (act_input flushes) flushed → IsLost e transfer
    → (other : Endpoint) (received : Transfer) → AwaitsData other received transfer.retransmission.outstanding.is_interleaved
    → HasReceivedPart transfer.retransmission.outstanding received.tracker
    → (first : Emission) (others : List Emission) → packets_of_events flushed.outcome.events ≡ first ∷ others → (turns : List Transition) → WholeTurns other first.packet turns
    → ComesThrough flushed.outcome.after transfer other turns

-- ---- where a SACK may be in front

-- As above, but the sender may owe an acknowledgement, and a flush may send two packets.
pub record IsLostBehind (e : Endpoint) (transfer : Transfer) : Type 0 where
  pub is_open : IsOpen e.core
  pub has : e.queues.transfer ≡ Some transfer
  pub burst : 2 ≤ packets_allowed e.options.max_burst e.core
  pub resets : ready_streams e.queues.queue ≡ []
  pub lasting : AllByRecursion IsLasting transfer.retransmission.outstanding.items
  pub first : IsFirstLost e transfer

-- The packet is the first of these, or the second behind one of a SACK alone.
pub data IsAmongFirst (packet : Emission) : List Emission → Type 0 where
  is_first : (others : List Emission) → IsAmongFirst packet (packet ∷ others)
  is_second : (one : Emission) (sack : SackContent) → one.packet.contents ≡ plain (unworked (sack_chunk sack)) ∷ []
      → (others : List Emission) → IsAmongFirst packet (one ∷ packet ∷ others)

-- One of the two brings the lowest TSN, whenever the other socket handles it.
pub record ComesBehind (e : Endpoint) (old : Transfer) (packets : List Emission) : Type 0 where
  pub packet : Emission
  pub there : IsAmongFirst packet packets
  pub comes : (other : Endpoint) (received : Transfer) → AwaitsData other received old.retransmission.outstanding.is_interleaved
      → HasReceivedPart old.retransmission.outstanding received.tracker → (turns : List Transition) → WholeTurns other packet.packet turns → ComesThrough e old other turns

abbrev pub LostDataComesBehind : Type 0
LostDataComesBehind =
    (e : Endpoint) (transfer : Transfer) (lost flushed : Transition) → IsTurn e (timer_expires retransmission) lost → IsTurn lost.outcome.after (act_input flushes) flushed
    → IsLostBehind e transfer → ComesBehind flushed.outcome.after transfer (packets_of_events flushed.outcome.events)
