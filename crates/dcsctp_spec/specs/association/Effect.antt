-- What a turn does to the association, and what it does that two sides must agree on.
use Rattle.std.specs.Prelude.{ℕ, Bool, Option, None, Some, List, [], ◌∷◌, ◌++◌, if◌then◌else◌}
use Rattle.dcsctp_types.specs.declared.association.Pair.{Pair}
use Rattle.dcsctp_types.specs.declared.association.Held.{Held}
use Rattle.dcsctp_types.specs.declared.capabilities.Capabilities.{Capabilities}
use Rattle.dcsctp_spec.specs.Packet.{Content, Packet}
use Rattle.dcsctp_spec.specs.endpoint.Endpoint.{Core, closed, cookie_wait, cookie_echoed, open_in}
use Rattle.dcsctp_spec.specs.endpoint.Following.{Following, next_chunk, dropped_rest}

-- an association with a peer, as one side sees it
pub record AssociationIdentity : Type 0 where
  pub my : Pair
  pub peer : Pair
  pub capabilities : Capabilities

pub data Effect : Type 0 where
  -- A pair was drawn.
  draws : Pair → Effect
  -- A packet was emitted.
  sends : Packet → Effect
  -- From here on this is the association, instead of the one before.
  holds : AssociationIdentity → Effect
  -- OnConnected, of this association
  connects : AssociationIdentity → Effect
  -- OnClosed or OnAborted
  ends : Effect
  -- Its own request to reset streams was begun, by its number.
  begins : ℕ → Effect
  -- Its own request of this number is given up: the next one takes its place. It has no end event.
  gives_up : ℕ → Effect
  -- OnStreamsResetPerformed: its own request of this number has ended, under this own pair.
  completes : Pair → ℕ → Effect
  -- OnStreamsResetFailed: its own request of this number has ended.
  fails : ℕ → Effect
  -- The peer's request of this number was accepted: it is the next one.
  accepts : ℕ → Effect
  -- OnIncomingStreamReset: the peer's request of this number was performed, under this peer's pair.
  performs : Pair → ℕ → Effect
  -- The peer's request of this number was performed too, under this peer's pair; but it is the one before, once more, which was
  -- reported. No event reports it again.
  renews : Pair → ℕ → Effect
  -- From here on this is the association, restored from a snapshot. Its next own request has the first number, and the peer's
  -- last one that was accepted had the second.
  resumes : AssociationIdentity → ℕ → ℕ → Effect

-- the pairs that were drawn
abbrev pub drawn_pairs : List Effect → List Pair
drawn_pairs [] = []
drawn_pairs (draws pair ∷ effects) = pair ∷ drawn_pairs effects
drawn_pairs (sends packet ∷ effects) = drawn_pairs effects
drawn_pairs (holds link ∷ effects) = drawn_pairs effects
drawn_pairs (connects link ∷ effects) = drawn_pairs effects
drawn_pairs (ends ∷ effects) = drawn_pairs effects
drawn_pairs (begins number ∷ effects) = drawn_pairs effects
drawn_pairs (gives_up number ∷ effects) = drawn_pairs effects
drawn_pairs (completes my number ∷ effects) = drawn_pairs effects
drawn_pairs (fails number ∷ effects) = drawn_pairs effects
drawn_pairs (accepts number ∷ effects) = drawn_pairs effects
drawn_pairs (performs peer number ∷ effects) = drawn_pairs effects
drawn_pairs (renews peer number ∷ effects) = drawn_pairs effects
drawn_pairs (resumes link own last ∷ effects) = drawn_pairs effects

-- all but the packets
abbrev pub effects_without_packets : List Effect → List Effect
effects_without_packets [] = []
effects_without_packets (sends packet ∷ effects) = effects_without_packets effects
effects_without_packets (draws pair ∷ effects) = draws pair ∷ effects_without_packets effects
effects_without_packets (holds link ∷ effects) = holds link ∷ effects_without_packets effects
effects_without_packets (connects link ∷ effects) = connects link ∷ effects_without_packets effects
effects_without_packets (ends ∷ effects) = ends ∷ effects_without_packets effects
effects_without_packets (begins number ∷ effects) = begins number ∷ effects_without_packets effects
effects_without_packets (gives_up number ∷ effects) = gives_up number ∷ effects_without_packets effects
effects_without_packets (completes my number ∷ effects) = completes my number ∷ effects_without_packets effects
effects_without_packets (fails number ∷ effects) = fails number ∷ effects_without_packets effects
effects_without_packets (accepts number ∷ effects) = accepts number ∷ effects_without_packets effects
effects_without_packets (performs peer number ∷ effects) = performs peer number ∷ effects_without_packets effects
effects_without_packets (renews peer number ∷ effects) = renews peer number ∷ effects_without_packets effects
effects_without_packets (resumes link own last ∷ effects) = resumes link own last ∷ effects_without_packets effects

-- What one turn makes of the association, and its effects in order.
pub record Change : Type 0 where
  pub core : Core
  pub effects : List Effect
  pub following : Following

-- nothing happens
abbrev pub no_change : Core → Change
no_change core = record { core = core; effects = []; following = next_chunk }

-- Nothing happens, and the rest of the packet is dropped.
abbrev pub rest_dropped : Core → Change
rest_dropped core = record { core = core; effects = []; following = dropped_rest }

-- The association ends, and the rest of the packet is dropped.
abbrev pub ending_change : List Effect → Change
ending_change before = record { core = closed; effects = before ++ ends ∷ []; following = dropped_rest }

-- a packet, unless it is empty: one without chunks isn't emitted
abbrev pub emission_effects : ℕ → List Content → List Effect
emission_effects tag [] = []
emission_effects tag (content ∷ contents) = sends (record { tag = tag; contents = content ∷ contents }) ∷ []

-- a packet of one chunk, if it fits
abbrev pub emitted_alone : Bool → ℕ → Content → List Effect
emitted_alone fits tag content = if fits then emission_effects tag (content ∷ []) else []

-- the association with a peer that this is
abbrev pub identity_of : Pair → Held → AssociationIdentity
identity_of my held = record { my = my; peer = held.peer; capabilities = held.capabilities }

-- the existing association, outside CookieWait
abbrev pub identity_of_core : Core → Option AssociationIdentity
identity_of_core closed = None
identity_of_core (cookie_wait my) = None
identity_of_core (cookie_echoed my held cookie) = Some (identity_of my held)
identity_of_core (open_in phase my held) = Some (identity_of my held)
