-- What was received is acknowledged in time (RFC 9260, section 6.2): at the end of a packet by a SACK in front of the next packet, or
-- a timer runs that brings one.
use Rattle.std.specs.Prelude.{◌≡◌, ℕ, true, Option, None, Some, List, ◌∷◌}
use Rattle.dcsctp_spec_lemmas.specs.wire.Content.{SackContent, sack_chunk}
use Rattle.dcsctp_spec_lemmas.specs.types.Settings.{IsValid}
use Rattle.dcsctp_spec_lemmas.specs.types.declared.options.Options.{Options}
use Rattle.dcsctp_spec_lemmas.specs.types.declared.schedule.Side.{Side}
use Rattle.dcsctp_spec_lemmas.specs.types.declared.tracking.AckState.{AckState}
use Rattle.dcsctp_spec_lemmas.specs.types.declared.tracking.AckState.TheVariants.{Idle, BecomingDelayed, Delayed, Immediate}
use Rattle.dcsctp_spec_lemmas.specs.spec.Packet.{Content, plain, unworked, Emission}
use Rattle.dcsctp_spec_lemmas.specs.spec.endpoint.CallTurns.{Transition, AlongTurns}
use Rattle.dcsctp_spec_lemmas.specs.spec.endpoint.Endpoint.{Endpoint, fresh_endpoint}
use Rattle.dcsctp_spec_lemmas.specs.spec.endpoint.Event.{packets_of_events}
use Rattle.dcsctp_spec_lemmas.specs.spec.endpoint.FlushOutcomes.{allows_packet}
use Rattle.dcsctp_spec_lemmas.specs.spec.endpoint.Outcome.{Outcome}
use Rattle.dcsctp_spec_lemmas.specs.spec.endpoint.Timers.{RunningTimer}
use Rattle.dcsctp_spec_lemmas.specs.spec.endpoint.Turn.{Input, packet_ends}
use Rattle.dcsctp_spec_lemmas.specs.spec.queues.Tracker.{TrackerState, cumulative_tsn, owes_acknowledgement, is_acknowledgement_due, after_packet_end}
use Rattle.dcsctp_spec_lemmas.specs.spec.queues.Transfer.{Transfer}
use Rattle.dcsctp_spec_runs.specs.Deadlines.{IsRunning}
use Rattle.dcsctp_spec_runs.specs.Sockets.{PerformedAct, Both, of_side, turns_after, endpoint_after, SocketRun}

-- ---- at all times

-- An acknowledgement is delayed by a timer that runs.
abbrev pub RunsIfDelayed : AckState → Option RunningTimer → Type 0
RunsIfDelayed Idle timer = Unit {0}
RunsIfDelayed BecomingDelayed timer = Unit {0}
RunsIfDelayed Delayed timer = IsRunning timer
RunsIfDelayed Immediate timer = Unit {0}

abbrev pub DelaysByTimer : Option Transfer → Type 0
DelaysByTimer None = Unit {0}
DelaysByTimer (Some transfer) = RunsIfDelayed transfer.tracker.acknowledgement transfer.tracker.delay.running

-- ---- at the end of a packet

-- Where data was received that no SACK has reported yet, the timer runs.
abbrev pub OwesByTimer : Option Transfer → Type 0
OwesByTimer None = Unit {0}
OwesByTimer (Some transfer) = owes_acknowledgement transfer.tracker ≡ true → IsRunning transfer.tracker.delay.running

-- The first of these packets begins with a SACK that acknowledges all up to the tracker's cumulative TSN.
pub record BeginWithSack (tracker : TrackerState) (packets : List Emission) : Type 0 where
  pub first : Emission
  pub others : List Emission
  pub are : packets ≡ first ∷ others
  pub sack : SackContent
  pub more : List Content
  pub contents : first.packet.contents ≡ plain (unworked (sack_chunk sack)) ∷ more
  pub acknowledges : sack.cumulative_tsn_ack ≡ cumulative_tsn tracker

-- Where a SACK is due at once, it goes out.
abbrev pub SaysWhatIsDue : ℕ → Option Transfer → List Emission → Type 0
SaysWhatIsDue now None packets = Unit {0}
SaysWhatIsDue now (Some transfer) packets = is_acknowledgement_due (after_packet_end now transfer.tracker) ≡ true → BeginWithSack transfer.tracker packets

-- With `follow_rfc` it always fits. A flush must be allowed to send a packet.
pub record SendSacks (options : Options) : Type 0 where
  pub follows : options.follow_rfc ≡ true
  pub valid : IsValid options
  pub allowed : allows_packet options.max_burst ≡ true

-- The end of a packet leaves no data without an acknowledgement, or a timer that brings one.
abbrev pub AcknowledgesAtEnd : Endpoint → Input → Outcome → Type 0
AcknowledgesAtEnd e packet_ends o = OwesByTimer o.after.queues.transfer × (SendSacks e.options → SaysWhatIsDue e.moment e.queues.transfer (packets_of_events o.events))
AcknowledgesAtEnd e input o = Unit {0}

abbrev pub TurnAcknowledges : Endpoint → Transition → Type 0
TurnAcknowledges e turn = AcknowledgesAtEnd e turn.input turn.outcome

-- So it is at each socket of a run, at the end of each packet that it handles.
pub record AcknowledgesInTime (options : Options) (turns : List Transition) : Type 0 where
  pub delays : DelaysByTimer (endpoint_after options turns).queues.transfer
  pub ends : AlongTurns TurnAcknowledges (fresh_endpoint options) turns

abbrev pub SocketsAcknowledge : Type 0
SocketsAcknowledge =
    (options : Both Options) (run : List PerformedAct) → SocketRun options run → (side : Side) → AcknowledgesInTime (of_side side options) (of_side side (turns_after run))
