-- What a socket sends: numbers that fit their fields, and chunks that read back as themselves. Also the timer that sends again.
use Rattle.std.specs.Prelude.{◌≡◌, ◌<◌, ◌^◌, ℕ, Option, None, Some, List, [], ◌∷◌}
use Rattle.std.specs.List.{AllByRecursion}
use Rattle.dcsctp_spec_lemmas.specs.wire.ReadsBack.{FitsEcho, FitsChunk}
use Rattle.dcsctp_spec_lemmas.specs.types.declared.association.Held.{Held}
use Rattle.dcsctp_spec_lemmas.specs.types.Settings.{IsValid, FitsOptions}
use Rattle.dcsctp_spec_lemmas.specs.spec.endpoint.Event.{Event, sent}
use Rattle.dcsctp_spec_lemmas.specs.spec.Packet.{Content, init, init_ack, Packet, Emission, content_of_chunk, chunk_out}
use Rattle.dcsctp_spec_lemmas.specs.spec.endpoint.Endpoint.{Endpoint, Core, closed, cookie_wait, cookie_echoed, open_in}
use Rattle.dcsctp_spec_runs.specs.Deadlines.{T1Runs}
use Rattle.dcsctp_spec_lemmas.specs.spec.endpoint.Outcome.{Outcome}
use Rattle.dcsctp_spec_lemmas.specs.spec.CookieFits.{FitsPair, FitsOffer}

-- what a side that reads the chunk takes of it
abbrev pub FitsSaid : Content → Type 0
FitsSaid (init theirs) = FitsPair theirs.pair × FitsOffer theirs.offer
FitsSaid (init_ack theirs None) = FitsPair theirs.pair
FitsSaid (init_ack theirs (Some cookie)) = FitsPair theirs.pair × FitsEcho cookie
FitsSaid content = Unit {0}

pub record Sendable (content : Content) : Type 0 where
  pub fits : FitsChunk (chunk_out content)
  pub reads : content_of_chunk (chunk_out content) ≡ content
  pub said : FitsSaid content

pub record SendablePacket (packet : Packet) : Type 0 where
  pub tag : packet.tag < 2 ^ 32
  pub contents : AllByRecursion Sendable packet.contents

abbrev pub IsSendable : Emission → Type 0
IsSendable emission = SendablePacket emission.packet

-- what an event says of its packet, if it has one
abbrev pub HoldsIfSent : (Emission → Type 0) → Event Emission → Type 0
HoldsIfSent Good (sent emission) = Good emission
HoldsIfSent Good event = Unit {0}

-- what holds of each packet among events
abbrev pub AllSent : (Emission → Type 0) → List (Event Emission) → Type 0
AllSent Good [] = Unit {0}
AllSent Good (event ∷ events) = HoldsIfSent Good event × AllSent Good events

-- a number of a request, if there is one
abbrev pub FitsNumber : Option ℕ → Type 0
FitsNumber None = Unit {0}
FitsNumber (Some number) = number < 2 ^ 32

-- what is known of the peer, and the numbers of requests
pub record FitsHeld (held : Held) : Type 0 where
  pub peer : FitsPair held.peer
  pub own_next : held.own_next < 2 ^ 32
  pub own_outstanding : FitsNumber held.own_outstanding
  pub peer_last : held.peer_last < 2 ^ 32

-- All that an association holds fits its fields: whatever of it is sent, for the first time or again, can be read.
abbrev pub FitsCore : Core → Type 0
FitsCore closed = Unit {0}
FitsCore (cookie_wait my) = FitsPair my
FitsCore (cookie_echoed my held cookie) = FitsPair my × FitsHeld held × FitsEcho cookie
FitsCore (open_in phase my held) = FitsPair my × FitsHeld held

pub record FitsEndpoint (e : Endpoint) : Type 0 where
  pub valid : IsValid e.options
  pub options : FitsOptions e.options
  pub core : FitsCore e.core
  -- a packet that isn't answered is sent again some day
  pub t1 : T1Runs e.core e.timers.t1

-- The turn leaves numbers that fit their fields, and sends what is read as itself.
pub record TurnFits (o : Outcome) : Type 0 where
  pub after : FitsEndpoint o.after
  pub sends : AllSent IsSendable o.events
