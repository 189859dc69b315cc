-- Packets without a FORWARD-TSN: a sender sends one only where it abandons a message, and it abandons
-- only messages with limits (RFC 3758).
use Rattle.std.specs.Prelude.{◌<◌, ◌^◌, ℕ, List, [], ◌∷◌, length}
use Rattle.dcsctp_spec.specs.wire.Content.{forward_tsn_chunk, i_forward_tsn_chunk}
use Rattle.dcsctp_spec.specs.types.declared.options.Options.{Options}
use Rattle.dcsctp_spec.specs.Packet.{unworked, plain, Content, Emission}
use Rattle.dcsctp_delivery_directions.specs.sending.Losing.{AreUnlimited}
use Rattle.dcsctp_delivery_directions.specs.directions.Directions.{Direction, DirectionRun}

-- The chunk is no FORWARD-TSN, and no I-FORWARD-TSN.
abbrev pub IsNoForward : Content → Type 0
IsNoForward (plain (unworked (forward_tsn_chunk tsn streams))) = ⊥
IsNoForward (plain (unworked (i_forward_tsn_chunk tsn streams))) = ⊥
IsNoForward content = Unit {0}

-- None of these is one,
abbrev pub AreNoForwards : List Content → Type 0
AreNoForwards [] = Unit {0}
AreNoForwards (content ∷ contents) = IsNoForward content × AreNoForwards contents

-- and none of these packets has one.
abbrev pub NoneForwards : List Emission → Type 0
NoneForwards [] = Unit {0}
NoneForwards (emission ∷ emissions) = AreNoForwards emission.packet.contents × NoneForwards emissions

-- Where all messages are without limits, no FORWARD-TSN is sent.
abbrev pub UnlimitedForwardNothing : Type 0
UnlimitedForwardNothing =
    (options : Options) (first size : ℕ) (direction : Direction) → DirectionRun options first size direction → first < 2 ^ 32 → length direction.queued < 2 ^ 64
    → AreUnlimited direction.queued → NoneForwards direction.sent
