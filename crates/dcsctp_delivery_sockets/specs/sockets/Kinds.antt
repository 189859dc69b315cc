-- How data is sent: as both sockets have negotiated (RFC 8260, section 2.2.1; RFC 3758, section 3.3.1).
use Rattle.std.specs.Prelude.{◌≡◌, Option, None, Some, List}
use Rattle.dcsctp_spec_lemmas.specs.types.declared.capabilities.Capabilities.{Capabilities}
use Rattle.dcsctp_spec_lemmas.specs.types.declared.options.Options.{Options}
use Rattle.dcsctp_spec_lemmas.specs.types.declared.schedule.Side.{Side}
use Rattle.dcsctp_spec_lemmas.specs.types.Offer.{offer_of, negotiated_capabilities}
use Rattle.dcsctp_spec_lemmas.specs.types.Schedule.{AreHonest}
use Rattle.dcsctp_spec_lemmas.specs.spec.queues.Transfer.{Transfer}
use Rattle.dcsctp_spec_runs.specs.Sockets.{PerformedAct, Both, of_side, of_other, turns_after, endpoint_after, SocketRun, acts_of}
use Rattle.dcsctp_theorem_sockets.specs.Agreement.{AreUsable, AreFresh}

-- What is in flight is I-DATA or DATA, and messages may be abandoned or not, as these capabilities say.
abbrev pub IsSentByCapabilities : Capabilities → Option Transfer → Type 0
IsSentByCapabilities capabilities None = Unit {0}
IsSentByCapabilities capabilities (Some transfer) =
    (transfer.retransmission.outstanding.is_interleaved ≡ capabilities.message_interleaving)
    × (transfer.retransmission.partial_reliability ≡ capabilities.partial_reliability)

-- At the end of an honest run in which no side drew a tag twice, what each side has in flight is sent as both offers have in common.
abbrev pub FlightsAreAsNegotiated : Type 0
FlightsAreAsNegotiated =
    (options : Both Options) (run : List PerformedAct) → AreUsable options → SocketRun options run → AreHonest (acts_of run) → AreFresh (turns_after run) → (side : Side)
    → IsSentByCapabilities (negotiated_capabilities (offer_of (of_side side options)) (offer_of (of_other side options)))
    (endpoint_after (of_side side options) (of_side side (turns_after run))).queues.transfer
