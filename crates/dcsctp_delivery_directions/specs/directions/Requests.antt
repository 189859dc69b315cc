-- Requests to reset streams in the packets of a sender (RFC 6525, section 5.1.2): each is one that
-- was begun, and no fewer are sent than were begun.
use Rattle.std.specs.Prelude.{◌≡◌, ◌==◌, if◌then◌else◌, ◌≤◌, ◌+◌, ◌⊎◌, ℕ, List, [], ◌∷◌, length}
use Rattle.dcsctp_spec.specs.types.declared.options.Options.{Options}
use Rattle.dcsctp_spec.specs.Packet.{Content, re_config, Emission}
use Rattle.dcsctp_spec.specs.Reconfiguration.{ResetParameter, outgoing_reset_request}
use Rattle.dcsctp_spec.specs.association.FlushChanges.{reset_request}
use Rattle.dcsctp_spec.specs.endpoint.BegunResets.{BegunReset}
use Rattle.dcsctp_delivery_directions.specs.sending.Flushes.{NoRequests}
use Rattle.dcsctp_delivery_directions.specs.sending.Places.{HasEntry}
use Rattle.dcsctp_delivery_directions.specs.directions.Directions.{Direction, DirectionRun}

-- ---- what is sent was begun

-- A RE-CONFIG has no request to reset streams, or it is one that was begun.
abbrev pub IsOfBegun : List BegunReset → Content → Type 0
IsOfBegun requests (re_config parameters) = NoRequests parameters ⊎ ((begun : BegunReset) × HasEntry begun requests × (re_config parameters ≡ reset_request begun.number begun.reset))
IsOfBegun requests content = Unit {0}

-- This holds for each that was sent.
abbrev pub RequestsWereBegun : Type 0
RequestsWereBegun =
    (options : Options) (first size : ℕ) (direction : Direction) → DirectionRun options first size direction
    → (emission : Emission) (parameters : List ResetParameter) → HasEntry emission direction.sent → HasEntry (re_config parameters) emission.packet.contents
    → IsOfBegun direction.asking.requests (re_config parameters)

-- ---- how many are sent

-- 1 if one of these parameters is a request to reset its sender's streams, else 0
abbrev pub one_if_asked : List ResetParameter → ℕ
one_if_asked [] = 0
one_if_asked (outgoing_reset_request number answered reset ∷ parameters) = 1
one_if_asked (parameter ∷ parameters) = one_if_asked parameters

-- A chunk with such a request counts,
abbrev pub is_request : Content → ℕ
is_request (re_config parameters) = one_if_asked parameters
is_request content = 0

-- each of these,
abbrev pub requests_among : List Content → ℕ
requests_among [] = 0
requests_among (content ∷ contents) = is_request content + requests_among contents

-- and each in these packets
abbrev pub requests_among_packets : List Emission → ℕ
requests_among_packets [] = 0
requests_among_packets (emission ∷ emissions) = requests_among emission.packet.contents + requests_among_packets emissions

-- and each in those of them that go to this verification tag
abbrev pub requests_to : ℕ → List Emission → ℕ
requests_to tag [] = 0
requests_to tag (emission ∷ emissions) = (if emission.packet.tag == tag then requests_among emission.packet.contents else 0) + requests_to tag emissions

-- As many chunks with a request were sent as requests were begun, or more.
abbrev pub RequestsAreSent : Type 0
RequestsAreSent = (options : Options) (first size : ℕ) (direction : Direction) → DirectionRun options first size direction → length direction.asking.requests ≤ requests_among_packets direction.sent
