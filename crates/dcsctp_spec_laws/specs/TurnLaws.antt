-- Each turn of a chunk, a call or a timer is a turn of the association.
use Rattle.std.specs.Prelude.{◌≡◌, ℕ, ◌⊎◌}
use Rattle.dcsctp_spec_lemmas.specs.types.Settings.{IsValid}
use Rattle.dcsctp_spec_lemmas.specs.spec.endpoint.Turn.{timer_expires, ContentTurn, ActTurn, Turn}
use Rattle.dcsctp_spec_lemmas.specs.spec.association.Controlled.{IsControlled, IsControlledChunk, IsControlledAct}
use Rattle.dcsctp_spec_lemmas.specs.spec.association.Effect.{Change, no_change}
use Rattle.dcsctp_spec_lemmas.specs.spec.Packet.{Introduction, Content, init}
use Rattle.dcsctp_spec_lemmas.specs.spec.endpoint.Endpoint.{Endpoint, Core, closed, cookie_wait, cookie_echoed, open_in}
use Rattle.dcsctp_spec_lemmas.specs.spec.association.Acts.{Act, shutdown_repeats, act_change}
use Rattle.dcsctp_spec_lemmas.specs.spec.association.Choices.{Choices}
use Rattle.dcsctp_spec_lemmas.specs.spec.endpoint.Outcome.{Outcome}
use Rattle.dcsctp_spec_lemmas.specs.spec.endpoint.HandshakeOutcomes.{InitTurn}
use Rattle.dcsctp_spec_lemmas.specs.spec.endpoint.OwnTimers.{OwnTimer, timer_act}
use Rattle.dcsctp_spec_lemmas.specs.spec.CookieFits.{FitsPair, FitsOffer}

-- An INIT leaves the association as it is, in every phase (RFC 9260, section 5.2).
abbrev pub InitLeavesAssociation : Type 0
InitLeavesAssociation = (e : Endpoint) (theirs : Introduction) (o : Outcome) → InitTurn e theirs o → o.after.core ≡ e.core

-- its own pair, if there is one, has numbers within their fields
abbrev pub FitsOwn : Core → Type 0
FitsOwn closed = Unit {0}
FitsOwn (cookie_wait my) = FitsPair my
FitsOwn (cookie_echoed my held cookie) = FitsPair my
FitsOwn (open_in phase my held) = Unit {0}

-- the pairs and the offer of an INIT and of the cookie that answers it fit their fields. Those of a chunk that was read, and of a
-- socket's memory, do
pub record FitsAnswer (e : Endpoint) (theirs : Introduction) : Type 0 where
  pub options : IsValid e.options
  pub own : FitsOwn e.core
  pub pair : FitsPair theirs.pair
  pub offer : FitsOffer theirs.offer

abbrev pub FitsContent : Endpoint → Content → Type 0
FitsContent e (init theirs) = FitsAnswer e theirs
FitsContent e content = Unit {0}

-- Each turn of a chunk is a turn of the association, of which every run is proved (RFC 9260, section 5).
abbrev pub ChunksAreControlled : Type 0
ChunksAreControlled =
    (e : Endpoint) (tag : ℕ) (content : Content) (o : Outcome) → ContentTurn e tag content o → FitsContent e content → IsControlledChunk e tag content o

-- Each turn that the user or a timer brings is one of the association too.
abbrev pub ActsAreControlled : Type 0
ActsAreControlled = (e : Endpoint) (act : Act) (o : Outcome) → ActTurn e act o → IsControlledAct e act o

-- The timers of an open association send packets that don't concern the association, as a flush does, or the outstanding request
-- again.
abbrev pub TimersAreControlled : Type 0
TimersAreControlled = (e : Endpoint) (timer : OwnTimer) (o : Outcome) → Turn e (timer_expires timer) o → IsControlledAct e (timer_act e timer) o

-- What precedes a packet's chunks: nothing, or the answer to data while a SHUTDOWN waits for its own.
pub record StandsBefore (e : Endpoint) (o : Outcome) : Type 0 where
  pub change : Change
  pub is : (change ≡ no_change e.core) ⊎ ((choices : Choices) × (change ≡ act_change e.options e.core shutdown_repeats choices))
  pub controlled : IsControlled e o change
  pub keeps : change.core ≡ e.core
