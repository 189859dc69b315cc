-- Which resets of its streams a socket's user is told of (RFC 6525, section 5.2.2).
use Rattle.std.specs.Prelude.{◌≡◌, ◌⊎◌, ℕ, true, false, None, Some, List}
use Rattle.dcsctp_spec_lemmas.specs.types.declared.association.Pair.{Pair}
use Rattle.dcsctp_spec_lemmas.specs.spec.Packet.{re_config}
use Rattle.dcsctp_spec_lemmas.specs.spec.Reconfiguration.{RequestedReset, NumberedReset, ResetParameter}
use Rattle.dcsctp_spec_lemmas.specs.spec.endpoint.Endpoint.{Endpoint}
use Rattle.dcsctp_spec_lemmas.specs.spec.endpoint.Event.{incoming_stream_reset}
use Rattle.dcsctp_spec_lemmas.specs.spec.endpoint.Outcome.{Outcome}
use Rattle.dcsctp_spec_lemmas.specs.spec.endpoint.ResetOutcomes.{first_reset_request, has_reset}
use Rattle.dcsctp_spec_lemmas.specs.spec.endpoint.Turn.{Input, Turn}
use Rattle.dcsctp_spec_lemmas.specs.spec.association.Effect.{identity_of_core}
use Rattle.dcsctp_spec_runs.specs.Past.{WasPerformed}
use Rattle.dcsctp_delivery_directions.specs.sending.Places.{HasEntry}
use Rattle.dcsctp_delivery_sockets.specs.turns.Actions.{content_of_input, IsCall}
use Rattle.dcsctp_delivery_sockets.specs.turns.PeerRequests.{IsPlainRequest}

-- The user is told in this turn that the peer has reset these streams, or they are those of the request that may come again.
abbrev pub IsReportedReset : Endpoint → Outcome → List ℕ → Type 0
IsReportedReset e o streams = HasEntry (incoming_stream_reset streams) o.events ⊎ ((old : NumberedReset) × (e.renewable ≡ Some old) × (old.reset.streams ≡ streams))

-- So it is of a request that is performed in this turn, and of what may come again after it.
pub record ReportsResets (e : Endpoint) (input : Input) (o : Outcome) : Type 0 where
  pub performed : (peer : Pair) (number : ℕ) → WasPerformed peer number o.effects → (parameters : List ResetParameter) (reset : RequestedReset) → content_of_input input ≡ Some (re_config parameters) → first_reset_request parameters ≡ Some reset
      → IsReportedReset e o reset.streams
  -- Without `follow_rfc` the user is told of each.
  pub each_told : e.options.follow_rfc ≡ false → (peer : Pair) (number : ℕ) → WasPerformed peer number o.effects → (parameters : List ResetParameter) (reset : RequestedReset) → content_of_input input ≡ Some (re_config parameters) → first_reset_request parameters ≡ Some reset
      → HasEntry (incoming_stream_reset reset.streams) o.events
  pub renewable : (old : NumberedReset) → o.after.renewable ≡ Some old → IsReportedReset e o old.reset.streams

-- These are the streams of the request that is handled.
pub record AreRequested (input : Input) (streams : List ℕ) : Type 0 where
  pub parameters : List ResetParameter
  pub reset : RequestedReset
  pub came : content_of_input input ≡ Some (re_config parameters)
  pub asked : first_reset_request parameters ≡ Some reset
  pub streams_are : reset.streams ≡ streams

-- In a turn in which a request is performed, if a RE-CONFIG that is handled has no request, or one as a flush sends it, the user is
-- told of no other.
abbrev pub TurnsReportRequests : Type 0
TurnsReportRequests =
    (e : Endpoint) (input : Input) (o : Outcome) → IsPlainRequest (content_of_input input) → IsCall input → Turn e input o → has_reset o.effects ≡ true
    → (streams : List ℕ) → HasEntry (incoming_stream_reset streams) o.events → AreRequested input streams

-- This holds for each turn, if there is no association, or a RE-CONFIG that is handled has no request, or one as a flush sends it.
abbrev pub TurnsReportResets : Type 0
TurnsReportResets = (e : Endpoint) (input : Input) (o : Outcome) → (identity_of_core e.core ≡ None) ⊎ IsPlainRequest (content_of_input input) → IsCall input → Turn e input o → ReportsResets e input o
