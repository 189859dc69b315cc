-- Each own request of a socket that ended as performed was performed by the other socket, or it is
-- the 2^32nd of its association. Each association that connected is one that the other socket has, and none was restored.
use Rattle.std.proofs.Common.{◌≢◌, List, [], ◌∷◌, ◌++◌, sym, subst, inl, inr, ◌≡◌, refl}
use Rattle.std.specs.List.{AllByRecursion}
use Rattle.dcsctp_spec_lemmas.specs.types.declared.association.Pair.{Pair}
use Rattle.dcsctp_spec_lemmas.specs.types.declared.options.Options.{Options}
use Rattle.dcsctp_spec_lemmas.specs.types.declared.schedule.Side.{Side}
use Rattle.dcsctp_spec_lemmas.specs.types.declared.schedule.Side.TheVariants as sides
use Rattle.dcsctp_spec_lemmas.specs.types.Schedule.{AreHonest}
use Rattle.dcsctp_spec_lemmas.specs.types.Offer.{Offer, offer_of}
use Rattle.dcsctp_spec_lemmas.specs.spec.endpoint.CallTurns.{Transition, pairs_of}
use Rattle.dcsctp_spec_runs.specs.Laws.{AnswerKeepsAgreement}
use Rattle.dcsctp_spec_runs.specs.Past.{HasEffect, WasPerformed}
use Rattle.dcsctp_spec_runs.specs.Sockets.{PerformedAct, Both, side_turns_added, turns_after, SocketRun, acts_of}
use Rattle.dcsctp_spec_runs.specs.World.{SideState, World, world_after}
use Rattle.dcsctp_spec_lemmas.specs.spec.association.Effect.{AssociationIdentity, Effect, draws, sends, holds, connects, ends, begins, gives_up, completes, fails, accepts, performs, renews, resumes, effects_without_packets}
use Rattle.dcsctp_spec_lemmas.proofs.TurnLists.{pairs_of-append}
use Rattle.dcsctp_theorem_association.proofs.Agreement.{TrueWorld}
use Rattle.dcsctp_theorem_association.proofs.Facts.{TruePast, Found, agreed_link}
use Rattle.dcsctp_theorem_association.proofs.Growth.{true_of}
use Rattle.dcsctp_theorem_sockets.specs.Agreement.{HasDistinctTags, AreUsable, AreFresh, recorded_past}
use Rattle.dcsctp_theorem_sockets.proofs.Follow.{Followed}
use Rattle.dcsctp_theorem_sockets.proofs.Moves.{Below}
use Rattle.dcsctp_theorem_sockets.proofs.NotedLemmas.{was_performed-noted}
use Rattle.dcsctp_theorem_sockets.proofs.OneSocket.{noted_happened}
use Rattle.dcsctp_theorem_sockets.proofs.SocketsAgree.{Joined, joined}
use Rattle.dcsctp_delivery_sockets.proofs.sockets.Echoes.{true_world}
use Rattle.dcsctp_delivery_sockets.proofs.sockets.Early.{AllFound, NoneRestored}
use Rattle.dcsctp_delivery_sockets.proofs.sockets.NewLinks.{AllPerformed}
use Rattle.dcsctp_spec_lemmas.specs.spec.Packet.{Packet}

-- ---- one side

all_performed : (mine theirs : Options) (my_offer their_offer : Offer) (turns others : List Transition) (one other : SideState) → Followed mine turns one → Followed theirs others other
    → TruePast my_offer their_offer one.past other.past → AllPerformed (recorded_past turns) (recorded_past others)
all_performed mine theirs my_offer their_offer turns others one other h k is my number has =
    let was : HasEffect (completes my number) one.past = noted_happened (completes my number) one.past (subst (HasEffect (completes my number)) (sym h.past) has) in
    elim (true_of my_offer their_offer one.past other.past (completes my number) is was) [
      | inl done ↦ inl (subst (WasPerformed my number) k.past (was_performed-noted my number other.past done))
      | inr last ↦ inr last
    ]

-- What happened is recorded, except what was sent.
pub noted_of : (effect : Effect) → ((packet : Packet) → effect ≡ sends packet → ⊥) → (effects : List Effect) → HasEffect effect effects → HasEffect effect (effects_without_packets effects)
noted_of effect none [] has = has
noted_of effect none (sends packet ∷ effects) (inl is) = absurd (none packet is)
noted_of effect none (sends packet ∷ effects) (inr has) = noted_of effect none effects has
noted_of effect none (draws pair ∷ effects) (inl is) = inl is
noted_of effect none (draws pair ∷ effects) (inr has) = inr (noted_of effect none effects has)
noted_of effect none (holds link ∷ effects) (inl is) = inl is
noted_of effect none (holds link ∷ effects) (inr has) = inr (noted_of effect none effects has)
noted_of effect none (connects link ∷ effects) (inl is) = inl is
noted_of effect none (connects link ∷ effects) (inr has) = inr (noted_of effect none effects has)
noted_of effect none (ends ∷ effects) (inl is) = inl is
noted_of effect none (ends ∷ effects) (inr has) = inr (noted_of effect none effects has)
noted_of effect none (begins number ∷ effects) (inl is) = inl is
noted_of effect none (begins number ∷ effects) (inr has) = inr (noted_of effect none effects has)
noted_of effect none (gives_up number ∷ effects) (inl is) = inl is
noted_of effect none (gives_up number ∷ effects) (inr has) = inr (noted_of effect none effects has)
noted_of effect none (completes my number ∷ effects) (inl is) = inl is
noted_of effect none (completes my number ∷ effects) (inr has) = inr (noted_of effect none effects has)
noted_of effect none (fails number ∷ effects) (inl is) = inl is
noted_of effect none (fails number ∷ effects) (inr has) = inr (noted_of effect none effects has)
noted_of effect none (accepts number ∷ effects) (inl is) = inl is
noted_of effect none (accepts number ∷ effects) (inr has) = inr (noted_of effect none effects has)
noted_of effect none (performs peer number ∷ effects) (inl is) = inl is
noted_of effect none (performs peer number ∷ effects) (inr has) = inr (noted_of effect none effects has)
noted_of effect none (renews peer number ∷ effects) (inl is) = inl is
noted_of effect none (renews peer number ∷ effects) (inr has) = inr (noted_of effect none effects has)
noted_of effect none (resumes link own last ∷ effects) (inl is) = inl is
noted_of effect none (resumes link own last ∷ effects) (inr has) = inr (noted_of effect none effects has)

all_found : (mine theirs : Options) (my_offer their_offer : Offer) (turns others : List Transition) (one other : SideState) → Followed mine turns one → Followed theirs others other
    → TruePast my_offer their_offer one.past other.past → AllFound (recorded_past turns) (recorded_past others)
all_found mine theirs my_offer their_offer turns others one other h k is link has =
    let was : HasEffect (connects link) one.past = noted_happened (connects link) one.past (subst (HasEffect (connects link)) (sym h.past) has) in
    let found : Found my_offer their_offer other.past link = true_of my_offer their_offer one.past other.past (connects link) is was in
    let crossed : AssociationIdentity = agreed_link their_offer my_offer link.peer link.my in
    (crossed, subst (HasEffect (holds crossed)) k.past (noted_of (holds crossed) (λ packet same. absurd (cc)) other.past found.held), refl)

none_restored : (mine : Options) (my_offer their_offer : Offer) (turns : List Transition) (one other : SideState) → Followed mine turns one → TruePast my_offer their_offer one.past other.past → NoneRestored (recorded_past turns)
none_restored mine my_offer their_offer turns one other h is link own last has =
    true_of my_offer their_offer one.past other.past (resumes link own last) is (noted_happened (resumes link own last) one.past (subst (HasEffect (resumes link own last)) (sym h.past) has))

-- ---- both sides

-- what the agreement says of one side
pub record SidePerformed (past theirs : List Effect) : Type 0 where
  pub performed : AllPerformed past theirs
  pub found : AllFound past theirs
  pub restored : NoneRestored past

pub record BothPerformed (turns : Both (List Transition)) : Type 0 where
  pub a : SidePerformed (recorded_past turns.a) (recorded_past turns.b)
  pub b : SidePerformed (recorded_past turns.b) (recorded_past turns.a)

pub both_performed : Below → AnswerKeepsAgreement → (options : Both Options) (run : List PerformedAct) → AreUsable options → SocketRun options run → AreHonest (acts_of run) → AreFresh (turns_after run)
    → BothPerformed (turns_after run)
both_performed law answers options run are runs honest fresh =
    let h : Joined options (turns_after run) = joined law options run are runs honest in
    let world : World = world_after options.a options.b h.steps in
    let is : TrueWorld world = true_world law answers options run h fresh in
    record {
      a = record {
        performed = all_performed options.a options.b (offer_of world.a.options) (offer_of world.b.options) (turns_after run).a (turns_after run).b world.a world.b h.a h.b is.a.past;
        found = all_found options.a options.b (offer_of world.a.options) (offer_of world.b.options) (turns_after run).a (turns_after run).b world.a world.b h.a h.b is.a.past;
        restored = none_restored options.a (offer_of world.a.options) (offer_of world.b.options) (turns_after run).a world.a world.b h.a is.a.past;
      };
      b = record {
        performed = all_performed options.b options.a (offer_of world.b.options) (offer_of world.a.options) (turns_after run).b (turns_after run).a world.b world.a h.b h.a is.b.past;
        found = all_found options.b options.a (offer_of world.b.options) (offer_of world.a.options) (turns_after run).b (turns_after run).a world.b world.a h.b h.a is.b.past;
        restored = none_restored options.b (offer_of world.b.options) (offer_of world.a.options) (turns_after run).b world.b world.a h.b is.b.past;
      };
    }

-- ---- no tag is drawn twice in a first part of a run

front_of : (P : Pair → Type 0) (pairs more : List Pair) → AllByRecursion P (pairs ++ more) → AllByRecursion P pairs
front_of P [] more h = tt
front_of P (pair ∷ pairs) more h = (h.0, front_of P pairs more h.1)

distinct_front : (pairs more : List Pair) → HasDistinctTags (pairs ++ more) → HasDistinctTags pairs
distinct_front [] more h = tt
distinct_front (pair ∷ pairs) more h = (front_of (λ later. pair.tag ≢ later.tag) pairs more h.0, distinct_front pairs more h.1)

distinct_before : (turns more : List Transition) → HasDistinctTags (pairs_of (turns ++ more)) → HasDistinctTags (pairs_of turns)
distinct_before turns more h = distinct_front (pairs_of turns) (pairs_of more) (subst HasDistinctTags (pairs_of-append turns more) h)

pub fresh_front : (turns : Both (List Transition)) (side : Side) (more : List Transition) → AreFresh (side_turns_added side more turns) → AreFresh turns
fresh_front turns sides.A more fresh = record { a = distinct_before turns.a more fresh.a; b = fresh.b }
fresh_front turns sides.B more fresh = record { a = fresh.a; b = distinct_before turns.b more fresh.b }
