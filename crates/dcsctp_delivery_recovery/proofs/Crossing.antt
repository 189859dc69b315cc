-- An association that connected is one that the other side has, and messages interleave in both or in neither.
use Rattle.std.proofs.Common.{◌≡◌, Bool, true, false, List, refl, sym, ◌∙◌, ap, subst}
use Rattle.std.specs.Prelude.{◌&&◌}
use Rattle.dcsctp_spec_lemmas.specs.types.declared.capabilities.Capabilities.{Capabilities}
use Rattle.dcsctp_spec_lemmas.specs.types.declared.options.Options.{Options}
use Rattle.dcsctp_spec_lemmas.specs.types.declared.schedule.Side.{Side}
use Rattle.dcsctp_spec_lemmas.specs.types.declared.schedule.Side.TheVariants as sides
use Rattle.dcsctp_spec_lemmas.specs.types.Offer.{Offer, offer_of}
use Rattle.dcsctp_spec_lemmas.specs.spec.association.Effect.{AssociationIdentity, Effect, holds, connects}
use Rattle.dcsctp_spec_lemmas.specs.spec.endpoint.CallTurns.{Transition}
use Rattle.dcsctp_spec_runs.specs.Laws.{AnswerKeepsAgreement}
use Rattle.dcsctp_spec_runs.specs.Past.{HasEffect}
use Rattle.dcsctp_spec_runs.specs.Sockets.{PerformedAct, Both, of_side, of_other, turns_after}
use Rattle.dcsctp_spec_runs.specs.World.{SideState, World, world_after}
use Rattle.dcsctp_theorem_association.proofs.Agreement.{TrueWorld}
use Rattle.dcsctp_theorem_association.proofs.Facts.{TruePast, Found, agreed_link}
use Rattle.dcsctp_theorem_association.proofs.Growth.{true_of}
use Rattle.dcsctp_theorem_sockets.specs.Agreement.{recorded_past}
use Rattle.dcsctp_theorem_sockets.proofs.Follow.{Followed}
use Rattle.dcsctp_theorem_sockets.proofs.Moves.{Below}
use Rattle.dcsctp_theorem_sockets.proofs.OneSocket.{noted_happened}
use Rattle.dcsctp_theorem_sockets.proofs.SocketsAgree.{Joined, joined}
use Rattle.dcsctp_delivery_sockets.proofs.sockets.Echoes.{true_world}
use Rattle.dcsctp_delivery_sockets.proofs.sockets.Performed.{noted_of}
use Rattle.dcsctp_delivery_recovery.specs.Received.{RunAllowsDelivery}

-- The other side has it, of one kind.
pub record IsFoundAlike (theirs : List Effect) (link : AssociationIdentity) : Type 0 where
  pub other : AssociationIdentity
  pub held : HasEffect (holds other) theirs
  pub tag : other.my.tag ≡ link.peer.tag
  pub alike : other.capabilities.message_interleaving ≡ link.capabilities.message_interleaving

abbrev pub AllAlike : List Effect → List Effect → Type 0
AllAlike past theirs = (link : AssociationIdentity) → HasEffect (connects link) past → IsFoundAlike theirs link

both_ways : (b c : Bool) → (b && c) ≡ (c && b)
both_ways true true = refl
both_ways true false = refl
both_ways false true = refl
both_ways false false = refl

all_alike : (mine theirs : Options) (my_offer their_offer : Offer) (turns others : List Transition) (one other : SideState) → Followed mine turns one → Followed theirs others other
    → TruePast my_offer their_offer one.past other.past → AllAlike (recorded_past turns) (recorded_past others)
all_alike mine theirs my_offer their_offer turns others one other h k is link has =
    let was : HasEffect (connects link) one.past = noted_happened (connects link) one.past (subst (HasEffect (connects link)) (sym h.past) has) in
    let found : Found my_offer their_offer other.past link = true_of my_offer their_offer one.past other.past (connects link) is was in
    let crossed : AssociationIdentity = agreed_link their_offer my_offer link.peer link.my in
    record {
      other = crossed;
      held = subst (HasEffect (holds crossed)) k.past (noted_of (holds crossed) (λ packet same. absurd (cc)) other.past found.held);
      tag = refl;
      alike = both_ways their_offer.message_interleaving my_offer.message_interleaving ∙ sym (ap (λ (c : Capabilities). c.message_interleaving) found.capabilities);
    }

pub sides_alike : Below → AnswerKeepsAgreement → (options : Both Options) (run : List PerformedAct) → RunAllowsDelivery options run → (side : Side) → AllAlike (recorded_past (of_side side (turns_after run))) (recorded_past (of_other side (turns_after run)))
sides_alike law answers options run allowing side =
    go (joined law options run allowing.usable allowing.is_run allowing.honest) side
  where
    go : Joined options (turns_after run) → (s : Side) → AllAlike (recorded_past (of_side s (turns_after run))) (recorded_past (of_other s (turns_after run)))
    go h sides.A =
        let world : World = world_after options.a options.b h.steps in
        let is : TrueWorld world = true_world law answers options run h allowing.fresh in
        all_alike options.a options.b (offer_of world.a.options) (offer_of world.b.options) (turns_after run).a (turns_after run).b world.a world.b h.a h.b is.a.past
    go h sides.B =
        let world : World = world_after options.a options.b h.steps in
        let is : TrueWorld world = true_world law answers options run h allowing.fresh in
        all_alike options.b options.a (offer_of world.b.options) (offer_of world.a.options) (turns_after run).b (turns_after run).a world.b world.a h.b h.a is.b.past
