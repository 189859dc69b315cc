-- What two sides agree on, over every schedule that loses, repeats, delays and reorders their packets.
use Rattle.std.specs.Prelude.{◌≡◌, ◌-◌, ◌^◌, ◌≤◌, List}
use Rattle.dcsctp_spec_lemmas.specs.types.declared.options.Options.{Options}
use Rattle.dcsctp_spec_lemmas.specs.types.Offer.{offer_of, negotiated_capabilities}
use Rattle.dcsctp_spec_lemmas.specs.spec.association.Effect.{AssociationIdentity, Effect, holds, connects, completes}
use Rattle.dcsctp_spec_runs.specs.Past.{HasEffect, WasPerformed, Each, HasFreshTags, requests_begun}
use Rattle.dcsctp_spec_runs.specs.World.{SideState, SideRun, side_after, at_a, at_b, World, WorldStep, world_after, WorldRun, steps_of}

-- The two ends of one association match: each one's own pair is the other's peer pair.
pub record IsCrossed (link other : AssociationIdentity) : Type 0 where
  pub my : link.my ≡ other.peer
  pub peer : link.peer ≡ other.my

-- The other side has, or had, the matching association, and each has what the two offers have in common.
pub record FindsCrossed (mine theirs : SideState) (link : AssociationIdentity) : Type 0 where
  pub other : AssociationIdentity
  pub held : HasEffect (holds other) theirs.past
  pub crossed : IsCrossed link other
  pub capabilities : link.capabilities ≡ negotiated_capabilities (offer_of mine.options) (offer_of theirs.options)
  pub other_capabilities : other.capabilities ≡ negotiated_capabilities (offer_of theirs.options) (offer_of mine.options)

-- Each OnConnected of the one side finds the other so.
abbrev pub ConnectsCrossed : SideState → SideState → Type 0
ConnectsCrossed mine theirs = (link : AssociationIdentity) → HasEffect (connects link) mine.past → FindsCrossed mine theirs link

-- Only for `completes` (OnStreamsResetPerformed): the other performed a request of that number, or found that it is the one before,
-- in an association whose peer pair is its own pair. That holds if in this lifetime of the association at most 2^32 - 1 requests were begun so far, as
-- `requests_begun` counts. Of every other effect it says nothing.
abbrev pub FindsPerformed : List Effect → Effect → List Effect → Type 0
FindsPerformed theirs (completes my number) earlier = requests_begun earlier ≤ 2 ^ 32 - 1 → WasPerformed my number theirs
FindsPerformed theirs effect earlier = Unit {0}

pub record AgreesWithPeer (mine theirs : SideState) : Type 0 where
  pub connected : ConnectsCrossed mine theirs
  pub performed : Each (FindsPerformed theirs.past) mine.past

pub record BothAgree (world : World) : Type 0 where
  pub a : AgreesWithPeer world.a world.b
  pub b : AgreesWithPeer world.b world.a

-- A run is any list of steps, so this holds at the end of each of its first parts. In particular it holds at each OnConnected and
-- each OnStreamsResetPerformed.
abbrev pub SidesAgree : Type 0
SidesAgree =
    (options_a options_b : Options) (steps : List WorldStep) → WorldRun options_a options_b steps
    → HasFreshTags (world_after options_a options_b steps).a.past
    → HasFreshTags (world_after options_a options_b steps).b.past
    → BothAgree (world_after options_a options_b steps)

-- Each side of a run is a run of that side, whatever it was handed. So what holds of one side holds here.
pub record RunsAlone (options_a options_b : Options) (steps : List WorldStep) : Type 0 where
  pub a_is_run : SideRun options_a (steps_of at_a steps)
  pub a : (world_after options_a options_b steps).a ≡ side_after options_a (steps_of at_a steps)
  pub b_is_run : SideRun options_b (steps_of at_b steps)
  pub b : (world_after options_a options_b steps).b ≡ side_after options_b (steps_of at_b steps)

abbrev pub SidesRunAlone : Type 0
SidesRunAlone = (options_a options_b : Options) (steps : List WorldStep) → WorldRun options_a options_b steps → RunsAlone options_a options_b steps
