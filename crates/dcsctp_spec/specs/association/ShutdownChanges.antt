-- How an association shuts down and ends (RFC 9260, sections 8.5, 9.1 and 9.2).
use Rattle.std.specs.Prelude.{ℕ, Bool, true, false, List, [], ◌∷◌, if◌then◌else◌}
use Rattle.dcsctp_types.specs.declared.association.Pair.{Pair}
use Rattle.dcsctp_types.specs.declared.association.Held.{Held}
use Rattle.dcsctp_types.specs.declared.options.Options.{Options}
use Rattle.dcsctp_spec.specs.endpoint.Cause.{Cause}
use Rattle.dcsctp_spec.specs.Packet.{Content, abort, shutdown, shutdown_ack, shutdown_complete}
use Rattle.dcsctp_spec.specs.endpoint.Endpoint.{Core, closed, cookie_wait, cookie_echoed, open_in, OpenPhase, established, shutdown_pending, shutdown_sent, shutdown_received, shutdown_ack_sent}
use Rattle.dcsctp_spec.specs.endpoint.Following.{Following, next_chunk}
use Rattle.dcsctp_spec.specs.association.Effect.{Change, no_change, ending_change, emission_effects, emitted_alone}

-- a phase after one control chunk to the peer, or none
abbrev pub sending_change : OpenPhase → Pair → Held → List Content → Change
sending_change phase my held contents = record { core = open_in phase my held; effects = emission_effects held.peer.tag contents; following = next_chunk }

-- A step of shutdown, once all data that was sent is acknowledged (RFC 9260, section 9.2).
abbrev pub shutdown_step_change_by_phase : OpenPhase → Pair → Held → ℕ → Bool → Change
shutdown_step_change_by_phase shutdown_pending my held tsn true = sending_change shutdown_sent my held (shutdown tsn ∷ [])
shutdown_step_change_by_phase shutdown_received my held tsn true = sending_change shutdown_ack_sent my held (shutdown_ack ∷ [])
shutdown_step_change_by_phase phase my held tsn is_acknowledged = sending_change phase my held []

abbrev pub shutdown_step_change : Core → ℕ → Bool → Change
shutdown_step_change (open_in phase my held) tsn is_acknowledged = shutdown_step_change_by_phase phase my held tsn is_acknowledged
shutdown_step_change core tsn is_acknowledged = no_change core

-- ---- calls

abbrev pub shutdown_call_change_by_phase : OpenPhase → Pair → Held → ℕ → Bool → Change
shutdown_call_change_by_phase established my held tsn is_acknowledged = shutdown_step_change_by_phase shutdown_pending my held tsn is_acknowledged
shutdown_call_change_by_phase phase my held tsn is_acknowledged = no_change (open_in phase my held)

-- while the COOKIE ACK is awaited: by the RFC it waits
abbrev pub shutdown_call_change_echoed : Bool → Pair → Held → List ℕ → ℕ → Bool → Change
shutdown_call_change_echoed true my held cookie tsn is_acknowledged = no_change (cookie_echoed my held cookie)
shutdown_call_change_echoed false my held cookie tsn is_acknowledged = shutdown_step_change_by_phase shutdown_pending my held tsn is_acknowledged

-- The user shuts the association down.
abbrev pub shutdown_call_change : Options → Core → ℕ → Bool → Change
shutdown_call_change options closed tsn is_acknowledged = no_change closed
shutdown_call_change options (cookie_wait my) tsn is_acknowledged = ending_change []
shutdown_call_change options (cookie_echoed my held cookie) tsn is_acknowledged =
    shutdown_call_change_echoed options.follow_rfc my held cookie tsn is_acknowledged
shutdown_call_change options (open_in phase my held) tsn is_acknowledged = shutdown_call_change_by_phase phase my held tsn is_acknowledged

-- The association is aborted, by the user, for a violation, or after too many errors. An ABORT is sent if the peer is known and
-- the packet fits (RFC 9260, sections 8.1 and 9.1).
abbrev pub abort_call_change : Core → List Cause → Bool → Change
abort_call_change closed causes fits = no_change closed
abort_call_change (cookie_wait my) causes fits = ending_change []
abort_call_change (cookie_echoed my held cookie) causes fits = ending_change (emitted_alone fits held.peer.tag (abort false causes))
abort_call_change (open_in phase my held) causes fits = ending_change (emitted_alone fits held.peer.tag (abort false causes))

-- ---- T2, and data while a SHUTDOWN waits for its answer

abbrev pub shutdown_again_change_by_phase : OpenPhase → Pair → Held → ℕ → Change
shutdown_again_change_by_phase shutdown_sent my held tsn = sending_change shutdown_sent my held (shutdown tsn ∷ [])
shutdown_again_change_by_phase shutdown_ack_sent my held tsn = sending_change shutdown_ack_sent my held (shutdown_ack ∷ [])
shutdown_again_change_by_phase phase my held tsn = no_change (open_in phase my held)

-- SHUTDOWN or SHUTDOWN ACK is sent again.
abbrev pub shutdown_again_change : Core → ℕ → Change
shutdown_again_change (open_in phase my held) tsn = shutdown_again_change_by_phase phase my held tsn
shutdown_again_change core tsn = no_change core

-- ---- chunks

-- Does an ABORT end the association? It ends one with a peer, and by the RFC also an attempt to connect (RFC 9260, sections 5.1 and
-- 9.1).
abbrev pub is_ended_by_abort : Options → Core → Bool
is_ended_by_abort options closed = false
is_ended_by_abort options (cookie_wait my) = options.follow_rfc
is_ended_by_abort options (cookie_echoed my held cookie) = true
is_ended_by_abort options (open_in phase my held) = true

abbrev pub abort_change : Options → Core → Change
abort_change options core = if is_ended_by_abort options core then ending_change [] else no_change core

-- The peer shuts the association down. What it acknowledges may be the last.
abbrev pub shutdown_change_by_phase : OpenPhase → Pair → Held → ℕ → Bool → Change
shutdown_change_by_phase established my held tsn is_acknowledged = shutdown_step_change_by_phase shutdown_received my held tsn is_acknowledged
shutdown_change_by_phase shutdown_pending my held tsn is_acknowledged = shutdown_step_change_by_phase shutdown_received my held tsn is_acknowledged
shutdown_change_by_phase shutdown_sent my held tsn is_acknowledged = sending_change shutdown_ack_sent my held (shutdown_ack ∷ [])
shutdown_change_by_phase shutdown_received my held tsn is_acknowledged = shutdown_step_change_by_phase shutdown_received my held tsn is_acknowledged
shutdown_change_by_phase shutdown_ack_sent my held tsn is_acknowledged = sending_change shutdown_ack_sent my held (shutdown_ack ∷ [])

abbrev pub shutdown_change : Core → ℕ → Bool → Change
shutdown_change (open_in phase my held) tsn is_acknowledged = shutdown_change_by_phase phase my held tsn is_acknowledged
shutdown_change core tsn is_acknowledged = no_change core

-- A SHUTDOWN ACK that isn't awaited is answered under its own tag, with the T bit (RFC 9260, sections 8.4 and
-- 8.5.1).
abbrev pub reflected_change : Core → ℕ → Following → Change
reflected_change core header following = record { core = core; effects = emission_effects header (shutdown_complete true ∷ []); following = following }

abbrev pub shutdown_ack_change_by_phase : OpenPhase → Pair → Held → ℕ → Following → Change
shutdown_ack_change_by_phase shutdown_sent my held header following = ending_change (emission_effects held.peer.tag (shutdown_complete false ∷ []))
shutdown_ack_change_by_phase shutdown_ack_sent my held header following = ending_change (emission_effects held.peer.tag (shutdown_complete false ∷ []))
shutdown_ack_change_by_phase phase my held header following = reflected_change (open_in phase my held) header following

abbrev pub shutdown_ack_change : Core → ℕ → Following → Change
shutdown_ack_change (open_in phase my held) header following = shutdown_ack_change_by_phase phase my held header following
shutdown_ack_change core header following = reflected_change core header following

abbrev pub shutdown_complete_change_by_phase : OpenPhase → Pair → Held → Change
shutdown_complete_change_by_phase shutdown_ack_sent my held = ending_change []
shutdown_complete_change_by_phase phase my held = no_change (open_in phase my held)

-- SHUTDOWN COMPLETE counts while a SHUTDOWN ACK waits for it.
abbrev pub shutdown_complete_change : Core → Change
shutdown_complete_change (open_in phase my held) = shutdown_complete_change_by_phase phase my held
shutdown_complete_change core = no_change core
