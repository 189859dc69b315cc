-- The associations that a socket shows after each act, and that each verification tag serves one of
-- them (RFC 9260, section 5.3.1), or two of which the one takes the place of the other.
use Rattle.std.specs.Prelude.{◌≡◌, ◌≢◌, ◌⊎◌, ◌<◌, ◌+◌, ◌^◌, Option, None, Some, true, List, [], ◌∷◌, map}
use Rattle.dcsctp_spec_lemmas.specs.types.declared.association.Association.{Association}
use Rattle.dcsctp_spec_lemmas.specs.types.declared.association.Held.{Held}
use Rattle.dcsctp_spec_lemmas.specs.types.declared.association.Pair.{Pair}
use Rattle.dcsctp_spec_lemmas.specs.types.declared.options.Options.{Options}
use Rattle.dcsctp_spec_lemmas.specs.types.declared.schedule.Side.{Side}
use Rattle.dcsctp_spec_lemmas.specs.types.declared.schedule.Side.TheVariants as sides
use Rattle.dcsctp_spec_lemmas.specs.types.Schedule.{AreHonest}
use Rattle.dcsctp_spec_lemmas.specs.spec.Packet.{Emission}
use Rattle.dcsctp_spec_lemmas.specs.spec.endpoint.CallTurns.{events_of}
use Rattle.dcsctp_spec_lemmas.specs.spec.endpoint.Event.{packets_of_events}
use Rattle.dcsctp_spec_runs.specs.Sockets.{PerformedAct, Both, of_side, turns_after, SocketRun, acts_of, associations_of}
use Rattle.dcsctp_spec_lemmas.specs.spec.association.Effect.{AssociationIdentity, identity_of}
use Rattle.dcsctp_theorem_sockets.specs.Agreement.{AreUsable, AreFresh}
use Rattle.dcsctp_delivery_directions.specs.sending.ChunkCounts.{chunks_to}
use Rattle.dcsctp_delivery_sockets.specs.sockets.Delivery.{TagsServeOnce, ShareThePair, TagsServeOnceBut, SendsLittleTogether}

-- ---- what is shown

-- the association with this own pair, if its peer is known
abbrev pub identity_with : Pair → Option Held → Option AssociationIdentity
identity_with my None = None
identity_with my (Some held) = Some (identity_of my held)

-- the association that a socket shows, if its peer is known
abbrev pub identity_shown : Option Association → Option AssociationIdentity
identity_shown None = None
identity_shown (Some association) = identity_with association.my association.held

-- what a side shows at the start and after each act of either side, newest first
abbrev pub identities_shown : Side → Both Options → List PerformedAct → List (Option AssociationIdentity)
identities_shown side options run = map identity_shown (associations_of side options run)

-- ---- each verification tag serves one association

-- The association is among those that were shown.
abbrev pub WasShown : AssociationIdentity → List (Option AssociationIdentity) → Type 0
WasShown link [] = ⊥
WasShown link (entry ∷ earlier) = (entry ≡ Some link) ⊎ WasShown link earlier

-- It is the one that was shown last.
abbrev pub IsStillThere : AssociationIdentity → List (Option AssociationIdentity) → Type 0
IsStillThere link [] = ⊥
IsStillThere link (entry ∷ earlier) = entry ≡ Some link

-- It has another own tag, and another peer's tag, than each that was shown before.
abbrev pub HasNewTags : AssociationIdentity → List (Option AssociationIdentity) → Type 0
HasNewTags link earlier = (old : AssociationIdentity) → WasShown old earlier → (old.my.tag ≢ link.my.tag) × (old.peer.tag ≢ link.peer.tag)

-- What is shown after an act is the association that was there before it, or one of new tags, or none.
abbrev pub MayBeShown : Option AssociationIdentity → List (Option AssociationIdentity) → Type 0
MayBeShown None earlier = Unit {0}
MayBeShown (Some link) earlier = IsStillThere link earlier ⊎ HasNewTags link earlier

-- So it is after each act, newest first.
abbrev pub ServeOnce : List (Option AssociationIdentity) → Type 0
ServeOnce [] = Unit {0}
ServeOnce (entry ∷ earlier) = MayBeShown entry earlier × ServeOnce earlier

-- If an association that the one shows and one that the other shows have a tag in common, they match.
abbrev pub MatchShown : List (Option AssociationIdentity) → List (Option AssociationIdentity) → Type 0
MatchShown mine theirs =
    (link other : AssociationIdentity) → WasShown link mine → WasShown other theirs → (link.my.tag ≡ other.peer.tag) ⊎ (link.peer.tag ≡ other.my.tag)
    → (link.my ≡ other.peer) × (link.peer ≡ other.my)

-- Each verification tag serves one association, as far as the two sockets show.
pub record ShownTagsServeOnce (options : Both Options) (run : List PerformedAct) : Type 0 where
  pub a : ServeOnce (identities_shown sides.A options run)
  pub b : ServeOnce (identities_shown sides.B options run)
  pub matched : MatchShown (identities_shown sides.A options run) (identities_shown sides.B options run)

-- ---- or two, where both sides connect

-- The other socket never showed this association.
abbrev pub IsUnmatchedShown : AssociationIdentity → List (Option AssociationIdentity) → Type 0
IsUnmatchedShown link theirs = (other : AssociationIdentity) → WasShown other theirs → other.my.tag ≢ link.peer.tag

-- With `follow_rfc` the association takes the place of the old one, which was there before the act, under the same own pair and with
-- the same capabilities, and which the other socket never showed: both sides connect (RFC 9260, section 5.2.4, action B).
pub record TakesPlaceShown (options : Options) (theirs earlier : List (Option AssociationIdentity)) (old link : AssociationIdentity) : Type 0 where
  pub follows : options.follow_rfc ≡ true
  pub my : old.my ≡ link.my
  pub capabilities : old.capabilities ≡ link.capabilities
  pub there : IsStillThere old earlier
  pub unmatched : IsUnmatchedShown old theirs

-- It has another peer's tag than each that was shown before by a socket with these options, and another own tag, or takes its place.
abbrev pub HasNewTagsBut : Options → List (Option AssociationIdentity) → AssociationIdentity → List (Option AssociationIdentity) → Type 0
HasNewTagsBut options theirs link earlier =
    (old : AssociationIdentity) → WasShown old earlier → (old.peer.tag ≢ link.peer.tag) × ((old.my.tag ≢ link.my.tag) ⊎ TakesPlaceShown options theirs earlier old link)

-- What is shown after an act is the association that was there before it, or such a one, or none.
abbrev pub MayBeShownBut : Options → List (Option AssociationIdentity) → Option AssociationIdentity → List (Option AssociationIdentity) → Type 0
MayBeShownBut options theirs None earlier = Unit {0}
MayBeShownBut options theirs (Some link) earlier = IsStillThere link earlier ⊎ HasNewTagsBut options theirs link earlier

-- So it is after each act, newest first.
abbrev pub ServeOnceBut : Options → List (Option AssociationIdentity) → List (Option AssociationIdentity) → Type 0
ServeOnceBut options theirs [] = Unit {0}
ServeOnceBut options theirs (entry ∷ earlier) = MayBeShownBut options theirs entry earlier × ServeOnceBut options theirs earlier

-- Another may take the place of this one.
abbrev pub MayBeReplacedShown : Options → AssociationIdentity → List (Option AssociationIdentity) → Type 0
MayBeReplacedShown options link theirs = (options.follow_rfc ≡ true) × IsUnmatchedShown link theirs

-- If an association that the one shows and one that the other shows have a tag in common, it is of one pair, and they match, or the
-- place of one of them may be taken.
abbrev pub MatchShownBut : Options → Options → List (Option AssociationIdentity) → List (Option AssociationIdentity) → Type 0
MatchShownBut my_options their_options mine theirs =
    (link other : AssociationIdentity) → WasShown link mine → WasShown other theirs → (link.my.tag ≡ other.peer.tag) ⊎ (link.peer.tag ≡ other.my.tag)
    → ShareThePair link other × (((link.my ≡ other.peer) × (link.peer ≡ other.my)) ⊎ (MayBeReplacedShown my_options link theirs ⊎ MayBeReplacedShown their_options other mine))

-- Fewer than 2^30 chunks of data went to the two tags of a peer whose association was replaced and of the one that took its place.
abbrev pub LittleWasShown : List (Option AssociationIdentity) → List Emission → Type 0
LittleWasShown shown packets =
    (old link : AssociationIdentity) → WasShown old shown → WasShown link shown → old.my.tag ≡ link.my.tag → old.peer.tag ≢ link.peer.tag → chunks_to old.peer.tag packets + chunks_to link.peer.tag packets < 2 ^ 30

-- One association may take the place of another, as far as the two sockets show.
pub record OneTakesThePlace (options : Both Options) (run : List PerformedAct) : Type 0 where
  pub a : ServeOnceBut options.a (identities_shown sides.B options run) (identities_shown sides.A options run)
  pub b : ServeOnceBut options.b (identities_shown sides.A options run) (identities_shown sides.B options run)
  pub matched : MatchShownBut options.a options.b (identities_shown sides.A options run) (identities_shown sides.B options run)
  pub little : (side : Side) → LittleWasShown (identities_shown side options run) (packets_of_events (events_of (of_side side (turns_after run))))

-- ---- the law

-- Then it is so among all that the two sockets ever have, over every honest run in which no tag was drawn twice.
abbrev pub ShownTagsSuffice : Type 0
ShownTagsSuffice =
    (options : Both Options) (run : List PerformedAct) → AreUsable options → SocketRun options run → AreHonest (acts_of run) → AreFresh (turns_after run)
    → (ShownTagsServeOnce options run → TagsServeOnce (turns_after run))
    × (OneTakesThePlace options run → TagsServeOnceBut options (turns_after run) × ((side : Side) → SendsLittleTogether (of_side side (turns_after run))))
