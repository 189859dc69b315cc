-- Which end gives which streams (RFC 8832, section 6).
use Rattle.std.specs.Prelude.{◌≡◌, ◌==◌, ◌%◌, ℕ, Bool, not}
use Rattle.dcsctp_channel_spec.specs.declared.types.Role.{Role}
use Rattle.dcsctp_channel_spec.specs.declared.types.Role.TheVariants.{Client, Server}

-- the client gives the even streams, the server the odd ones
abbrev pub is_own : Role → ℕ → Bool
is_own Client stream = stream % 2 == 0
is_own Server stream = not (stream % 2 == 0)

abbrev pub other_role : Role → Role
other_role Client = Server
other_role Server = Client

-- A stream is one end's, or the other's, and not both's.
abbrev pub StreamsAreShared : Type 0
StreamsAreShared = (role : Role) (stream : ℕ) → is_own (other_role role) stream ≡ not (is_own role stream)
