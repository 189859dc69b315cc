-- What is lost comes through, where two sockets are connected at the end of a run that allows delivery.
use Rattle.std.proofs.Common.{◌≡◌, ◌-◌, ℕ, true, List, sym, ◌∙◌, ap, arith, subst}
use Rattle.std.specs.Prelude.{Some}
use Rattle.dcsctp_spec_lemmas.specs.types.Settings.{IsValid, SameOptions, packet_size_limit}
use Rattle.dcsctp_spec_lemmas.specs.types.declared.options.Options.{Options}
use Rattle.dcsctp_spec_lemmas.specs.types.declared.schedule.Side.{Side}
use Rattle.dcsctp_spec_lemmas.specs.types.declared.schedule.Side.TheVariants as sides
use Rattle.dcsctp_spec_lemmas.specs.types.declared.tracking.TsnRange.{TsnRange}
use Rattle.dcsctp_spec_lemmas.specs.spec.endpoint.Endpoint.{Endpoint}
use Rattle.dcsctp_spec_lemmas.specs.spec.endpoint.Turn.{with_clock}
use Rattle.dcsctp_spec_lemmas.specs.spec.queues.Outstanding.{OutstandingState}
use Rattle.dcsctp_spec_lemmas.specs.spec.queues.Ranges.{is_received}
use Rattle.dcsctp_spec_lemmas.specs.spec.queues.Tracker.{TrackerState}
use Rattle.dcsctp_spec_lemmas.specs.spec.queues.Transfer.{Transfer}
use Rattle.dcsctp_spec_laws.specs.SackLaws.{IsTracked}
use Rattle.dcsctp_spec_runs.specs.Laws.{SocketsKeepOptions}
use Rattle.dcsctp_spec_runs.specs.Sockets.{PerformedAct, Both, of_side, of_other, turns_after, endpoint_after}
use Rattle.dcsctp_theorem_transfer.specs.Deadlines.{IsOpen}
use Rattle.dcsctp_theorem_transfer.specs.Packing.{ItemsFit, SocketsFitPackets, FitsPackets}
use Rattle.dcsctp_theorem_transfer.specs.Recovering.{IsLost, AwaitsData, HasReceivedPart, LostDataComesThrough, LostDataComesBehind}
use Rattle.dcsctp_theorem_transfer.specs.Resending.{LostDataIsSentAgain}
use Rattle.dcsctp_theorem_transfer.specs.Tracking.{TracksReceived, SocketsTrackReceived}
use Rattle.dcsctp_delivery_recovery.specs.Flights.{HasSoundFlight, SocketsKeepFlightsSound}
use Rattle.dcsctp_delivery_recovery.specs.Received.{RunAllowsDelivery, AreEstablished}
use Rattle.dcsctp_delivery_recovery.specs.Recovered.{FollowRfc, LosesAlone, LosesBehind, HasRoomToTake, HasReceivedNoMore, T3HasExpired, FirstComesThrough, ComesInTwo, RecoversLosses, SocketsRecoverLosses}
use Rattle.dcsctp_delivery_recovery.proofs.LostFirst.{FliesWell, lost_alone, lost_behind, flies_later, alone_later, behind_later}
use Rattle.dcsctp_delivery_recovery.proofs.ConnectedSides.{RecoveryBelow, sockets_receive_part, sockets_take_form}

size_same : (own options : Options) → SameOptions own options → packet_size_limit own ≡ packet_size_limit options
size_same own options same = sym (ap packet_size_limit same)

-- the laws that this rests on
pub record RecoveryParts : Type 0 where
  pub below : RecoveryBelow
  pub options : SocketsKeepOptions
  pub flights : SocketsKeepFlightsSound
  pub packing : SocketsFitPackets
  pub tracking : SocketsTrackReceived
  pub again : LostDataIsSentAgain
  pub through : LostDataComesThrough
  pub behind : LostDataComesBehind

-- ---- the receiver

-- What was received is the same.
tracked_later : (tracker left : TrackerState) → left.cumulative ≡ tracker.cumulative → left.ranges ≡ tracker.ranges → IsTracked tracker → IsTracked left
tracked_later tracker left cumulative ranges h =
    let same : IsTracked (record left { cumulative = tracker.cumulative; ranges = tracker.ranges }) = record { beyond = h.beyond; near = h.near } in
    let is : record left { cumulative = tracker.cumulative; ranges = tracker.ranges } ≡ left =
    ap (λ (n : ℕ). record left { cumulative = n; ranges = tracker.ranges }) (sym cumulative) ∙ ap (λ (l : List TsnRange). record left { ranges = l }) (sym ranges) in
    subst IsTracked is same

part_later : (outstanding : OutstandingState) (tracker left : TrackerState) → left.cumulative ≡ tracker.cumulative → left.ranges ≡ tracker.ranges → HasReceivedPart outstanding tracker → HasReceivedPart outstanding left
part_later outstanding tracker left cumulative ranges h =
    record {
      number = h.number;
      is = h.is;
      before = (let before = h.before in omega (arith, before, cumulative));
      sent = λ other received. h.sent other (ap (λ (n : ℕ). is_received n other tracker.ranges) (sym cumulative) ∙ ap (λ (l : List TsnRange). is_received left.cumulative other l) (sym ranges) ∙ received);
      few = h.few;
      left = h.left;
    }

valid_same : (own options : Options) → SameOptions own options → IsValid own → IsValid options
valid_same own options same valid =
    subst IsValid (sym same) (record { least_size = valid.least_size; greatest_size = valid.greatest_size; receive_window = valid.receive_window; send_buffer = valid.send_buffer })

open_so : (e other : Endpoint) → AreEstablished e other → IsOpen e.core
open_so e other c = subst IsOpen (sym c.phase) tt

-- ---- at the end of a run

module _ (laws : RecoveryParts) (options : Both Options) (run : List PerformedAct) (allowing : RunAllowsDelivery options run) (follow : FollowRfc options) where
  abbrev socket : Side → Endpoint
  socket side = endpoint_after (of_side side options) (of_side side (turns_after run))

  same_options : (side : Side) → SameOptions (of_side side options) (socket side).options
  same_options side = laws.options.run options run allowing.is_run side

  follows : (side : Side) → (socket side).options.follow_rfc ≡ true
  follows side = ap (λ (o : Options). o.follow_rfc) (same_options side) ∙ follow side

  valid : (side : Side) → IsValid (socket side).options
  valid side = valid_same (of_side side options) (socket side).options (same_options side) (allowing.usable side).valid

  known : (side : Side) (transfer : Transfer) → (socket side).queues.transfer ≡ Some transfer → FliesWell (socket side) transfer
  known side transfer has =
      record {
        sound = subst HasSoundFlight has (laws.flights options run allowing.usable allowing.in_memory allowing.is_run allowing.honest side);
        fits = subst (λ (n : ℕ). ItemsFit (n - 12) transfer.retransmission.outstanding) (size_same (of_side side options) (socket side).options (same_options side))
            (subst (FitsPackets (of_side side options)) has (laws.packing options run allowing.is_run allowing.honest side (allowing.usable side).valid));
      }

  tracks : (side : Side) (received : Transfer) → (socket side).queues.transfer ≡ Some received → IsTracked received.tracker × (received.tracker.follows_rfc ≡ (socket side).options.follow_rfc)
  tracks side received has = subst (TracksReceived (socket side).options) has (laws.tracking options run allowing.is_run side)

  abbrev peer : Side → Endpoint
  peer side = endpoint_after (of_other side options) (of_other side (turns_after run))

  their_valid : (side : Side) → IsValid (peer side).options
  their_valid sides.A = valid sides.B
  their_valid sides.B = valid sides.A

  their_follows : (side : Side) → (peer side).options.follow_rfc ≡ true
  their_follows sides.A = follows sides.B
  their_follows sides.B = follows sides.A

  their_tracks : (side : Side) (received : Transfer) → (peer side).queues.transfer ≡ Some received → IsTracked received.tracker × (received.tracker.follows_rfc ≡ (peer side).options.follow_rfc)
  their_tracks sides.A received has = tracks sides.B received has
  their_tracks sides.B received has = tracks sides.A received has

  module _ (side : Side) (c : AreEstablished (socket side) (peer side)) (transfer received : Transfer) (has : (socket side).queues.transfer ≡ Some transfer) (their_has : (peer side).queues.transfer ≡ Some received)
      (later : Endpoint) (left : Transfer) (no_more : HasReceivedNoMore (peer side) received later left) (takes : HasRoomToTake later left) where
    awaits : AwaitsData later left transfer.retransmission.outstanding.is_interleaved
    awaits =
        let tracked = their_tracks side received their_has in
        record {
          my = c.their_my;
          held = c.their_held;
          phase = no_more.core ∙ c.their_phase;
          has = takes.has;
          sends = record {
            follows = ap (λ (o : Options). o.follow_rfc) no_more.options ∙ their_follows side;
            valid = subst IsValid (sym no_more.options) (their_valid side);
            allowed = takes.allowed;
          };
          follows = no_more.follows ∙ tracked.1 ∙ their_follows side;
          tracked = tracked_later received.tracker left.tracker no_more.cumulative no_more.ranges tracked.0;
          form = sockets_take_form laws.below options run allowing side c (follows side) transfer has;
          room = takes.room;
        }

    part : HasReceivedPart transfer.retransmission.outstanding left.tracker
    part =
        part_later transfer.retransmission.outstanding received.tracker left.tracker no_more.cumulative no_more.ranges
        (sockets_receive_part laws.below options run allowing side c transfer received has their_has)

  pub recovers : (side : Side) → AreEstablished (socket side) (peer side) → RecoversLosses (socket side) (peer side)
  recovers side c = record { alone = comes_alone; behind = comes_behind }
    where
      opens : (moment : ℕ) → IsOpen (with_clock moment (socket side)).core
      opens moment = open_so (socket side) (peer side) c

      comes_alone : (transfer received : Transfer) → LosesAlone (socket side) transfer → (peer side).queues.transfer ≡ Some received → (expires : T3HasExpired (socket side))
          → FirstComesThrough (socket side) transfer (peer side) received expires
      comes_alone transfer received loses their_has expires =
          let e : Endpoint = with_clock expires.moment (socket side) in
          let has = loses.waits.has in
          let lost : IsLost e transfer =
          lost_alone e transfer (opens expires.moment) (flies_later expires.moment (socket side) transfer (known side transfer has)) (alone_later expires.moment (socket side) transfer loses) in
          let sent = laws.again e transfer 0 expires.lost expires.flushed expires.expired expires.follows lost.alone lost.first.lowest in
          record {
            first = sent.first;
            others = sent.others;
            are = sent.are;
            comes = λ later left no_more takes turns whole.
                laws.through e transfer expires.lost expires.flushed expires.expired expires.follows lost later left (awaits side c transfer received has their_has later left no_more takes)
                (part side c transfer received has their_has later left no_more takes) sent.first sent.others sent.are turns whole;
          }

      comes_behind : (transfer received : Transfer) → LosesBehind (socket side) transfer → (peer side).queues.transfer ≡ Some received → (expires : T3HasExpired (socket side))
          → ComesInTwo (socket side) transfer (peer side) received expires
      comes_behind transfer received loses their_has expires =
          let e : Endpoint = with_clock expires.moment (socket side) in
          let has = loses.waits.has in
          let both = laws.behind e transfer expires.lost expires.flushed expires.expired expires.follows
          (lost_behind e transfer (opens expires.moment) (flies_later expires.moment (socket side) transfer (known side transfer has)) (behind_later expires.moment (socket side) transfer loses)) in
          record {
            packet = both.packet;
            there = both.there;
            comes = λ later left no_more takes turns whole.
                both.comes later left (awaits side c transfer received has their_has later left no_more takes) (part side c transfer received has their_has later left no_more takes) turns whole;
          }

pub sockets_recover_losses : RecoveryParts → SocketsRecoverLosses
sockets_recover_losses laws options run allowing follow side c = recovers laws options run allowing follow side c
