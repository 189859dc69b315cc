-- What two sockets agree on, over every schedule that loses, repeats, delays and reorders their
-- packets, as long as no act comes from outside.
use Rattle.std.specs.Prelude.{◌≡◌, ◌≢◌, Some, List, [], ◌∷◌, ◌⊎◌}
use Rattle.std.specs.List.{AllByRecursion}
use Rattle.dcsctp_spec_lemmas.specs.types.declared.association.Pair.{Pair}
use Rattle.dcsctp_spec_lemmas.specs.types.declared.options.Options.{Options}
use Rattle.dcsctp_spec_lemmas.specs.types.declared.schedule.Side.{Side}
use Rattle.dcsctp_spec_lemmas.specs.types.Schedule.{AreHonest}
use Rattle.dcsctp_spec_lemmas.specs.types.Settings.{IsValid, FitsOptions}
use Rattle.dcsctp_spec_lemmas.specs.types.Offer.{offer_of, negotiated_capabilities}
use Rattle.dcsctp_spec_lemmas.specs.spec.endpoint.Event.{Event, connected}
use Rattle.dcsctp_spec_lemmas.specs.spec.Packet.{Emission}
use Rattle.dcsctp_spec_lemmas.specs.spec.endpoint.CallTurns.{Transition, effects_of, pairs_of}
use Rattle.dcsctp_spec_lemmas.specs.spec.association.Effect.{AssociationIdentity, Effect, identity_of_core}
use Rattle.dcsctp_spec_runs.specs.Past.{Each}
use Rattle.dcsctp_spec_runs.specs.World.{after_effects}
use Rattle.dcsctp_spec_runs.specs.Sockets.{PerformedAct, Both, of_side, turns_after, SocketRun, acts_of}
use Rattle.dcsctp_theorem_association.specs.Agreement.{IsCrossed, FindsPerformed}

-- No verification tag is drawn twice.
abbrev pub HasDistinctTags : List Pair → Type 0
HasDistinctTags [] = Unit {0}
HasDistinctTags (pair ∷ pairs) = AllByRecursion (λ later. pair.tag ≢ later.tag) pairs × HasDistinctTags pairs

-- After one of these turns the association existed.
abbrev pub WasHeld : AssociationIdentity → List Transition → Type 0
WasHeld link [] = ⊥
WasHeld link (turn ∷ turns) = (identity_of_core turn.outcome.after.core ≡ Some link) ⊎ WasHeld link turns

-- Among these turns of the other side there is one after which it had the matching association. Each of the two has what the two
-- offers have in common.
pub record FindsHeld (mine theirs : Options) (turns : List Transition) (link : AssociationIdentity) : Type 0 where
  pub other : AssociationIdentity
  pub held : WasHeld other turns
  pub crossed : IsCrossed link other
  pub capabilities : link.capabilities ≡ negotiated_capabilities (offer_of mine) (offer_of theirs)
  pub other_capabilities : other.capabilities ≡ negotiated_capabilities (offer_of theirs) (offer_of mine)

-- OnConnected is among these events.
abbrev pub HasConnected : List (Event Emission) → Type 0
HasConnected [] = ⊥
HasConnected (connected ∷ events) = Unit {0}
HasConnected (event ∷ events) = HasConnected events

-- The association after a turn is of this kind.
pub record HoldsAssociation (Kind : AssociationIdentity → Type 0) (turn : Transition) : Type 0 where
  pub link : AssociationIdentity
  pub held : identity_of_core turn.outcome.after.core ≡ Some link
  pub kind : Kind link

-- Each turn that adds OnConnected leaves an association of this kind.
abbrev pub EachConnected : (AssociationIdentity → Type 0) → List Transition → Type 0
EachConnected Kind [] = Unit {0}
EachConnected Kind (turn ∷ turns) = (HasConnected turn.outcome.events → HoldsAssociation Kind turn) × EachConnected Kind turns

-- all that these turns recorded, newest first
abbrev pub recorded_past : List Transition → List Effect
recorded_past turns = after_effects (effects_of turns) []

-- Each OnConnected of either side finds the other so. Each of its performed requests finds that the other performed a request of
-- that number. It did so in an association whose peer pair is its own pair. That holds for the first 2^32 - 1 requests in one
-- lifetime of the association.
pub record Agree (options : Both Options) (turns : Both (List Transition)) : Type 0 where
  pub a : EachConnected (FindsHeld options.a options.b turns.b) turns.a
  pub b : EachConnected (FindsHeld options.b options.a turns.a) turns.b
  pub a_performed : Each (FindsPerformed (recorded_past turns.b)) (recorded_past turns.a)
  pub b_performed : Each (FindsPerformed (recorded_past turns.a)) (recorded_past turns.b)

-- options that a socket can be made with, in memory
pub record IsUsable (options : Options) : Type 0 where
  pub valid : IsValid options
  pub fits : FitsOptions options

abbrev pub AreUsable : Both Options → Type 0
AreUsable options = (side : Side) → IsUsable (of_side side options)

-- No verification tag is drawn twice by one side.
pub record AreFresh (turns : Both (List Transition)) : Type 0 where
  pub a : HasDistinctTags (pairs_of turns.a)
  pub b : HasDistinctTags (pairs_of turns.b)

-- They agree at the end of each first part of the run that is honest, and in which no tag was drawn twice. So each OnConnected,
-- when it is reported, finds what the other side has done so far, whatever comes later.
abbrev pub AgreeThroughout : Both Options → List PerformedAct → Type 0
AgreeThroughout options [] = Agree options (turns_after [])
AgreeThroughout options (worked ∷ earlier) =
    (AreHonest (acts_of (worked ∷ earlier)) → AreFresh (turns_after (worked ∷ earlier)) → Agree options (turns_after (worked ∷ earlier)))
    × AgreeThroughout options earlier

abbrev pub SocketsAgree : Type 0
SocketsAgree = (options : Both Options) (run : List PerformedAct) → AreUsable options → SocketRun options run → AgreeThroughout options run
