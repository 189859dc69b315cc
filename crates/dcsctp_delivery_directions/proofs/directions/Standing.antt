-- What holds throughout a run of a direction.
use Rattle.std.proofs.Common.{◌≡◌, ℕ, true, ◌<◌, ◌≤◌, ◌+◌, ◌^◌, List, [], ◌∷◌, ◌++◌, length, map, take, refl, sym, arith, subst, inl, inr}
use Rattle.std.specs.Prelude.{◌⊎◌, Option, None, Some}
use Rattle.std.specs.List.{AllByRecursion}
use Rattle.dcsctp_spec.specs.Packet.{Content, Emission}
use Rattle.dcsctp_spec.specs.queues.Reassembly.{ReassemblyState}
use Rattle.dcsctp_spec.specs.types.queues.SendStreams.{Stream}
use Rattle.dcsctp_spec.specs.queues.Transfer.{Transfer}
use Rattle.dcsctp_spec.specs.endpoint.TransferMoves.{timed_transfer}
use Rattle.dcsctp_delivery_directions.specs.sending.Places.{HasEntry, at_place}
use Rattle.dcsctp_delivery_directions.specs.sending.Log.{Fits, Message, Piece, IsLogOfPieces, Mark, History, Resets}
use Rattle.dcsctp_delivery_directions.specs.sending.Numbers.{is_handed_out, stream_named}
use Rattle.dcsctp_delivery_directions.specs.sending.Flushes.{SaysContent, SayAll, PacketsSay, InFlight, QueuesFollowLog}
use Rattle.dcsctp_delivery_directions.specs.sending.Stages.{Bears}
use Rattle.dcsctp_delivery_directions.specs.receiving.Ready.{AreDistinct, WereQueued}
use Rattle.dcsctp_delivery_directions.specs.receiving.Received.{HasReceived, Few}
use Rattle.dcsctp_delivery_directions.specs.receiving.Clear.{IsClear, Unsent}
use Rattle.dcsctp_delivery_directions.specs.receiving.Tracked.{tracked_number}
use Rattle.dcsctp_delivery_directions.specs.directions.Directions.{Direction, tsns_in_flight, assigned_count}
use Rattle.dcsctp_delivery_directions.proofs.sending.Places.{at_stays}

-- ---- streams that are handed out to be reset

-- All pieces of the stream were sent before a reset that names it, and that has no end yet.
pub record IsBehind (history : History) (out id : ℕ) : Type 0 where
  pub mark : Mark
  pub has : HasEntry mark (take out history.marks)
  pub names : Resets mark id
  pub below : (n : ℕ) (f : Piece) → at_place n history.log ≡ Some (Some f) → f.message.stream ≡ id → n < mark.bound

-- This holds for each stream that is handed out, or none was sent: it was handed out in an earlier association.
abbrev pub AreQuiet : History → ℕ → List Stream → Type 0
AreQuiet history out streams = (id : ℕ) → is_handed_out (stream_named id streams).pause ≡ true → Unsent history.log id ⊎ IsBehind history out id

-- The receiver has received all that came before the newest reset, and nothing on the streams that were handed out for it since
-- it has performed that.
pub record IsCleared (history : History) (first cumulative : ℕ) (streams : List Stream) (reassembly : ReassemblyState) : Type 0 where
  pub mark : Mark
  pub earlier : List Mark
  pub is : history.marks ≡ mark ∷ earlier
  pub passed : tracked_number first mark.bound ≤ cumulative + 1
  pub clear : (id : ℕ) → id < 2 ^ 16 → is_handed_out (stream_named id streams).pause ≡ true → Resets mark id
      → ((n : ℕ) (f : Piece) → at_place n history.log ≡ Some (Some f) → f.message.stream ≡ id → n < mark.bound) → IsClear id reassembly

-- ---- all

-- what the receiver has, where few TSNs were assigned
pub record Arrived (first : ℕ) (history : History) (direction : Direction) : Type 0 where
  pub places : List ℕ
  pub were : WereQueued direction.queued places direction.read
  pub once : AreDistinct places
  pub received : HasReceived direction.queued history first places direction.tracker direction.reassembly
  pub cleared : direction.queues.queue.is_interleaved ≡ true → direction.asking.is_performed ≡ true
      → IsCleared history first direction.tracker.cumulative direction.queues.queue.streams direction.reassembly

pub record Stands (first : ℕ) (direction : Direction) : Type 0 where
  pub history : History
  pub fit : AllByRecursion Fits direction.queued
  pub next : direction.queues.queue.next_message_id ≡ length direction.queued
  pub queues : QueuesFollowLog direction.queued history first direction.acknowledged direction.queues
  pub packets : PacketsSay history first direction.acknowledged direction.sent
  pub count : length history.log ≡ assigned_count direction
  pub asked : direction.asking.requests ≡ map (λ mark. mark.begun) history.marks
  pub quiet : AreQuiet history direction.asking.out direction.queues.queue.streams
  pub arrived : length history.log < 2 ^ 31 → Arrived first history direction

-- ---- what was sent

pub content_said : (history : History) (first acknowledged : ℕ) (content : Content) (contents : List Content) → SayAll history first acknowledged contents → HasEntry content contents → SaysContent history first acknowledged content
content_said history first acknowledged content [] say h = absurd h
content_said history first acknowledged content (c ∷ contents) say h =
    elim h [
      | inl e ↦ subst (λ (x : Content). SaysContent history first acknowledged x) (sym e) say.0
      | inr t ↦ content_said history first acknowledged content contents say.1 t
    ]

pub packet_said : (history : History) (first acknowledged : ℕ) (emission : Emission) (emissions : List Emission) → PacketsSay history first acknowledged emissions → HasEntry emission emissions → SayAll history first acknowledged emission.packet.contents
packet_said history first acknowledged emission [] say h = absurd h
packet_said history first acknowledged emission (e ∷ emissions) say h =
    elim h [
      | inl same ↦ subst (λ (x : Emission). SayAll history first acknowledged x.packet.contents) (sym same) say.0
      | inr t ↦ packet_said history first acknowledged emission emissions say.1 t
    ]

pub emissions_both : (history : History) (first acknowledged : ℕ) (one other : List Emission) → PacketsSay history first acknowledged one → PacketsSay history first acknowledged other → PacketsSay history first acknowledged (one ++ other)
emissions_both history first acknowledged [] other say say' = say'
emissions_both history first acknowledged (e ∷ one) other say say' = (say.0, emissions_both history first acknowledged one other say.1 say')

-- ---- the steps

pub few_of : (first : ℕ) (history : History) → first < 2 ^ 32 → length history.log < 2 ^ 31 → Few history first
few_of first history small few = record { small = small; few = few }

pub same_flight : (history : History) (first acknowledged : ℕ) (transfer : Option Transfer) → InFlight history first acknowledged transfer → (t : Transfer) → transfer ≡ Some t → Bears history first acknowledged t.retransmission.outstanding
same_flight history first acknowledged transfer flight t is = subst (λ (x : Option Transfer). InFlight history first acknowledged x) is flight

pub timed_outstanding : (round_trip : Option ℕ) (transfer : Transfer) → (timed_transfer round_trip transfer).retransmission.outstanding ≡ transfer.retransmission.outstanding
timed_outstanding None transfer = refl
timed_outstanding (Some round_trip) transfer = refl

pub timed_begun : (round_trip : Option ℕ) (transfer : Transfer) → (timed_transfer round_trip transfer).retransmission.reset_begun ≡ transfer.retransmission.reset_begun
timed_begun None transfer = refl
timed_begun (Some round_trip) transfer = refl

pub cut_queued : (queued : List Message) (m : Message) (history : History) → IsLogOfPieces queued history.log → IsLogOfPieces (m ∷ queued) history.log
cut_queued queued m history cut =
    record {
      pieces = λ n f at. (let p = cut.pieces n f at in record { at = at_stays f.place m f.message queued p.at; fresh = p.fresh; some = p.some; within = p.within; first = p.first });
      rows = cut.rows;
      ascends = cut.ascends;
      climbs = cut.climbs;
      shuts = cut.shuts;
      ends = cut.ends;
    }

pub counted_flight : (history : History) (first acknowledged : ℕ) (transfer : Option Transfer) → InFlight history first acknowledged transfer → length history.log ≡ acknowledged + tsns_in_flight transfer
counted_flight history first acknowledged None flight = omega (arith, flight)
counted_flight history first acknowledged (Some transfer) flight = flight.count
