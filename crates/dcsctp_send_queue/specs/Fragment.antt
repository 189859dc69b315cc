-- The bytes of fragments.
use Rattle.std.specs.Prelude.{◌≡◌, ◌<◌, ◌≤◌, ℕ, Option, None, Some, List, length, drop, Vec}
use Rattle.std.specs.declared.alloc.Global.{Global}
use Rattle.dcsctp_api.specs.spec.queues.Sending.{Fragment}

-- a fragment of one byte at least, and of at most that many
abbrev pub HasSize : ℕ → Fragment → Type 0
HasSize max part = (0 < length part.payload) × (length part.payload ≤ max)

-- the rest of a payload of which that much was sent, or none if the payload itself is to give it
abbrev pub CopiesRest : ℕ → List ℕ → Option (Vec ℕ Global) → Type 0
CopiesRest sent payload None = Unit {0}
CopiesRest sent payload (Some rest) = rest.items ≡ drop sent payload
