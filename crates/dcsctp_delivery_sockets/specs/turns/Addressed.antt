-- Where a socket's packets with data go, and under which tag they are handled (RFC 9260, section 8.5).
use Rattle.std.specs.Prelude.{◌≡◌, ◌⊎◌, ℕ, false, Option, List, [], ◌∷◌}
use Rattle.dcsctp_spec_lemmas.specs.spec.Admission.{all_chunks, admits, is_echo_in_front}
use Rattle.dcsctp_spec_lemmas.specs.spec.endpoint.Endpoint.{Core, own_tag}
use Rattle.dcsctp_spec_lemmas.specs.spec.Packet.{Content, Packet, Emission}
use Rattle.dcsctp_delivery_sockets.specs.turns.Actions.{Ledger, NoEnd, Actions}
use Rattle.dcsctp_delivery_directions.specs.sending.Flushes.{NoData}

-- The packet has no data; or it goes to this tag, and has no ABORT, no SHUTDOWN COMPLETE and no INIT.
abbrev pub IsAddressed : ℕ → Emission → Type 0
IsAddressed to emission = NoData emission.packet.contents ⊎ ((emission.packet.tag ≡ to) × NoEnd emission.packet.contents)

-- This holds for each packet.
abbrev pub AreAddressed : ℕ → List Emission → Type 0
AreAddressed to [] = Unit {0}
AreAddressed to (emission ∷ emissions) = IsAddressed to emission × AreAddressed to emissions

-- All data of an association goes to its peer's tag.
abbrev pub DataGoesToPeer : Type 0
DataGoesToPeer = (came : Option Content) (to : ℕ) (old new : Ledger) → AreAddressed to old.sent → Actions came to old new → AreAddressed to new.sent

-- Such a packet with data has our own tag, if all its chunks are handled and it doesn't begin with a COOKIE ECHO.
abbrev pub AddressedTagsAreOwn : Type 0
AddressedTagsAreOwn = (core : Core) (packet : Packet) → NoEnd packet.contents → is_echo_in_front packet.contents ≡ false → admits core packet ≡ all_chunks → packet.tag ≡ own_tag core
