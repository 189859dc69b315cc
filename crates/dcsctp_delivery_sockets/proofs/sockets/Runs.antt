-- Over an honest run each association that a side records is shown, so the tags of what is shown are
-- those of all.
use Rattle.std.proofs.Common.{◌≡◌, Bool, true, false, List, [], ◌∷◌, ◌++◌, refl, sym, subst, inl, inr, ◌∙◌}
use Rattle.std.specs.Prelude.{Option, None, Some, ◌&&◌}
use Rattle.dcsctp_spec_lemmas.specs.types.declared.capabilities.Capabilities.{Capabilities}
use Rattle.dcsctp_spec_lemmas.specs.types.declared.options.Options.{Options}
use Rattle.dcsctp_spec_lemmas.specs.types.declared.schedule.Side.{Side}
use Rattle.dcsctp_spec_lemmas.specs.types.declared.schedule.Side.TheVariants as sides
use Rattle.dcsctp_spec_lemmas.specs.spec.endpoint.CallTurns.{Transition, AlongTurns, events_of}
use Rattle.dcsctp_spec_lemmas.specs.spec.endpoint.Endpoint.{Core, closed, cookie_wait, cookie_echoed, open_in, association_of, fresh_endpoint}
use Rattle.dcsctp_spec_runs.specs.Fitting.{AllSent}
use Rattle.dcsctp_spec_lemmas.specs.types.Offer.{Offer, offer_of, negotiated_capabilities}
use Rattle.dcsctp_spec_lemmas.specs.types.Schedule.{StepContent, ActContent, step_act, outside_act, IsHonestAct, AreHonest}
use Rattle.dcsctp_spec_runs.specs.Sockets.{PerformedAct, Both, of_side, of_other, side_turns_added, turns_after, endpoint_after, packets_shown, StepTurns, SocketRun, side_of, side_of_act, NextTurns, acts_of}
use Rattle.dcsctp_spec_runs.specs.World as machine
use Rattle.dcsctp_spec_runs.specs.World.{world_after}
use Rattle.dcsctp_spec_lemmas.specs.spec.queues.Transfer.{Transfer}
use Rattle.dcsctp_spec_lemmas.specs.spec.association.Effect.{Effect, AssociationIdentity, identity_of_core}
use Rattle.dcsctp_spec_runs.specs.Past.{current}
use Rattle.dcsctp_spec_runs.proofs.RunsAlong.{run_along}
use Rattle.dcsctp_spec_lemmas.proofs.TurnLists.{events_of-append}
use Rattle.dcsctp_theorem_association.proofs.Agreement.{TrueWorld}
use Rattle.dcsctp_theorem_association.proofs.Facts.{TruePast}
use Rattle.dcsctp_theorem_sockets.specs.Agreement.{AreUsable, AreFresh}
use Rattle.dcsctp_theorem_sockets.proofs.Sent.{all_sent_map}
use Rattle.dcsctp_theorem_sockets.proofs.SocketsAgree.{Joined, joined}
use Rattle.dcsctp_theorem_sockets.proofs.SocketsAlone.{of_moves}
use Rattle.dcsctp_delivery_directions.specs.directions.Directions.{nothing_asked}
use Rattle.dcsctp_delivery_sockets.proofs.sockets.Delivery.{DeliveryLaws}
use Rattle.dcsctp_delivery_sockets.proofs.sockets.Echoes.{true_world}
use Rattle.dcsctp_theorem_association.specs.OneSide.{LeavesCore}
use Rattle.dcsctp_theorem_sockets.specs.Agreement.{recorded_past}
use Rattle.dcsctp_delivery_sockets.proofs.sockets.KnownPeers.{IsMove, run_starts, run_through, ran_leaves}
use Rattle.dcsctp_delivery_sockets.proofs.sockets.Known.{along_front, along_rest, sent_front, IsOwn, own_turn}
use Rattle.dcsctp_delivery_sockets.specs.sockets.Kinds.{IsSentByCapabilities, FlightsAreAsNegotiated}
use Rattle.dcsctp_delivery_sockets.specs.sockets.Shown.{identity_shown, identities_shown, OneTakesThePlace, ShownTagsSuffice}
use Rattle.dcsctp_delivery_sockets.specs.sockets.Delivery.{MatchOrUnmatched, SendsLittleTogether}
use Rattle.dcsctp_delivery_sockets.proofs.sockets.Turns.{SameKinds, EndpointIs}
use Rattle.dcsctp_delivery_sockets.proofs.sockets.Calm.{GoodTurn, good_turn, Known, ActIs}
use Rattle.dcsctp_delivery_sockets.proofs.sockets.Sides.{SideIs, acted_side, rested_side}
use Rattle.dcsctp_delivery_sockets.proofs.sockets.Steps.{along_both, WasTrue, was_true, step_acts}

-- ---- both sides

record BothSides (kinds : Capabilities) (options : Both Options) (turns : Both (List Transition)) (shown_a shown_b : List (Option AssociationIdentity)) : Type 0 where
  a : SideIs kinds options.a turns.a shown_a
  b : SideIs kinds options.b turns.b shown_b

-- What is known of one side: of each turn, and of what it sent.
record SideGood (kinds : Capabilities) (mine theirs : Options) (turns : List Transition) : Type 0 where
  known : AlongTurns Known (fresh_endpoint mine) turns
  packets : AllSent (WasTrue kinds (offer_of theirs)) (events_of turns)
  moves : AlongTurns IsMove (fresh_endpoint mine) turns

record BothGood (kinds : Capabilities) (options : Both Options) (turns : Both (List Transition)) : Type 0 where
  a : SideGood kinds options.a options.b turns.a
  b : SideGood kinds options.b options.a turns.b

side_front : (kinds : Capabilities) (mine theirs : Options) (turns more : List Transition) → SideGood kinds mine theirs (turns ++ more) → SideGood kinds mine theirs turns
side_front kinds mine theirs turns more h =
    record {
      known = along_front Known (fresh_endpoint mine) turns more h.known;
      packets = sent_front (WasTrue kinds (offer_of theirs)) (events_of turns) (events_of more) (subst (AllSent (WasTrue kinds (offer_of theirs))) (events_of-append turns more) h.packets);
      moves = along_front IsMove (fresh_endpoint mine) turns more h.moves;
    }

both_front : (kinds : Capabilities) (options : Both Options) (turns : Both (List Transition)) (side : Side) (more : List Transition) → BothGood kinds options (side_turns_added side more turns) → BothGood kinds options turns
both_front kinds options turns sides.A more h = record { a = side_front kinds options.a options.b turns.a more h.a; b = h.b }
both_front kinds options turns sides.B more h = record { a = h.a; b = side_front kinds options.b options.a turns.b more h.b }

-- ---- an act

-- the association of a side after these turns
abbrev link_at : Options → List Transition → Option AssociationIdentity
link_at options turns = identity_of_core (endpoint_after options turns).core

-- The association is what the past leaves.
current_leaves : (past : List Effect) (core : Core) → LeavesCore past core → current past ≡ identity_of_core core
current_leaves past closed leaves = leaves
current_leaves past (cookie_wait my) leaves = leaves
current_leaves past (cookie_echoed my held cookie) leaves = leaves.link
current_leaves past (open_in phase my held) leaves = leaves.link

is_current : (kinds : Capabilities) (mine theirs : Options) (turns more : List Transition) → SideGood kinds mine theirs (turns ++ more) → current (recorded_past turns) ≡ identity_of_core (endpoint_after mine turns).core
is_current kinds mine theirs turns more good =
    current_leaves (recorded_past turns) (endpoint_after mine turns).core
    (ran_leaves mine (endpoint_after mine turns) (recorded_past turns) (run_through mine turns (fresh_endpoint mine) [] (run_starts mine) (along_front IsMove (fresh_endpoint mine) turns more good.moves)))

module _ (law : DeliveryLaws) (kinds : Capabilities) (options : Both Options) (are : AreUsable options) where
  stepped : (turns : Both (List Transition)) (step : StepContent) (more : List Transition) (side : Side) (shown_a shown_b : List (Option AssociationIdentity)) → Joined options turns → BothGood kinds options (side_turns_added side more turns)
      → BothSides kinds options turns shown_a shown_b → StepTurns (endpoint_after (of_side side options) (of_side side turns)) (packets_shown (of_other side options) (of_other side turns)) step more
      → BothSides kinds options (side_turns_added side more turns) (link_at options.a (side_turns_added side more turns).a ∷ shown_a) (link_at options.b (side_turns_added side more turns).b ∷ shown_b)
  stepped turns step more sides.A shown_a shown_b j good h taken =
      let act : ActIs kinds (endpoint_after options.a turns.a) more =
      step_acts law kinds options.a options.b turns.a turns.b more shown_a shown_b j.a.fits j.a.own_options (are sides.B).fits (along_rest Known (fresh_endpoint options.a) turns.a more good.a.known) good.b.packets h.a h.b step taken in
      record { a = acted_side kinds options.a turns.a shown_a more (is_current kinds options.a options.b turns.a more good.a) h.a act; b = rested_side kinds options.b turns.b shown_b h.b }
  stepped turns step more sides.B shown_a shown_b j good h taken =
      let act : ActIs kinds (endpoint_after options.b turns.b) more =
      step_acts law kinds options.b options.a turns.b turns.a more shown_b shown_a j.b.fits j.b.own_options (are sides.A).fits (along_rest Known (fresh_endpoint options.b) turns.b more good.b.known) good.a.packets h.b h.a step taken in
      record { a = rested_side kinds options.a turns.a shown_a h.a; b = acted_side kinds options.b turns.b shown_b more (is_current kinds options.b options.a turns.b more good.b) h.b act }

  acted : (turns : Both (List Transition)) (act : ActContent) (more : List Transition) (shown_a shown_b : List (Option AssociationIdentity)) → IsHonestAct act → Joined options turns → BothGood kinds options (side_turns_added (side_of_act act) more turns)
      → BothSides kinds options turns shown_a shown_b → NextTurns options turns act more
      → let after = side_turns_added (side_of_act act) more turns in BothSides kinds options after (link_at options.a after.a ∷ shown_a) (link_at options.b after.b ∷ shown_b)
  acted turns (step_act step) more shown_a shown_b honest j good h taken = stepped turns step more (side_of step) shown_a shown_b j good h taken
  acted turns (outside_act outside) more shown_a shown_b honest j good h taken = absurd honest

  -- ---- a run

  shown_is : (core : Core) → identity_of_core core ≡ identity_shown (association_of core)
  shown_is closed = refl
  shown_is (cookie_wait my) = refl
  shown_is (cookie_echoed my held cookie) = refl
  shown_is (open_in phase my held) = refl

  -- A socket that was just made has no association, and has asked nothing.
  fresh_is : (own : Options) → EndpointIs kinds (fresh_endpoint own)
  fresh_is own = record { linked = tt; left = tt; asks = record { first = 0; asking = nothing_asked; fits = tt } }

  both_sides : (run : List PerformedAct) → SocketRun options run → AreHonest (acts_of run) → BothGood kinds options (turns_after run)
      → BothSides kinds options (turns_after run) (identities_shown sides.A options run) (identities_shown sides.B options run)
  both_sides [] runs honest good =
      record {
        a = record { is = fresh_is options.a; says = tt; newest = refl; past = record { among = λ link has. absurd has; each = λ serve. tt; each_but = λ theirs their_shown were serve. tt } };
        b = record { is = fresh_is options.b; says = tt; newest = refl; past = record { among = λ link has. absurd has; each = λ serve. tt; each_but = λ theirs their_shown were serve. tt } };
      }
  both_sides (worked ∷ earlier) runs honest good =
      let before : BothGood kinds options (turns_after earlier) = both_front kinds options (turns_after earlier) (side_of_act worked.act) worked.turns good in
      let turns : Both (List Transition) = turns_after (worked ∷ earlier) in
      let shown_a : List (Option AssociationIdentity) = identities_shown sides.A options earlier in
      let shown_b : List (Option AssociationIdentity) = identities_shown sides.B options earlier in
      let now : BothSides kinds options turns (link_at options.a turns.a ∷ shown_a) (link_at options.b turns.b ∷ shown_b) =
      acted (turns_after earlier) worked.act worked.turns shown_a shown_b honest.0 (joined law.below options earlier are runs.1 honest.1) good (both_sides earlier runs.1 honest.1 before) runs.0 in
      record {
        a = subst (λ (entry : Option AssociationIdentity). SideIs kinds options.a turns.a (entry ∷ shown_a)) (shown_is (endpoint_after options.a turns.a).core) now.a;
        b = subst (λ (entry : Option AssociationIdentity). SideIs kinds options.b turns.b (entry ∷ shown_b)) (shown_is (endpoint_after options.b turns.b).core) now.b;
      }

-- ---- what is known of a run

-- what both ends negotiate
abbrev kinds_of : Both Options → Capabilities
kinds_of options = negotiated_capabilities (offer_of options.a) (offer_of options.b)

and_swap : (a b : Bool) → (a && b) ≡ (b && a)
and_swap true true = refl
and_swap true false = refl
and_swap false true = refl
and_swap false false = refl

swapped_kinds : (one other : Offer) → SameKinds (negotiated_capabilities other one) (negotiated_capabilities one other)
swapped_kinds one other = (and_swap other.message_interleaving one.message_interleaving, and_swap other.partial_reliability one.partial_reliability)

true_past : (own their : Options) (side other : machine.SideState) → side.options ≡ own → other.options ≡ their → TruePast (offer_of side.options) (offer_of other.options) side.past other.past
    → TruePast (offer_of own) (offer_of their) side.past other.past
true_past own their side other own_is their_is past =
    subst (λ (o : Options). TruePast (offer_of own) (offer_of o) side.past other.past) their_is (subst (λ (o : Options). TruePast (offer_of o) (offer_of other.options) side.past other.past) own_is past)

both_good : DeliveryLaws → (options : Both Options) (run : List PerformedAct) → AreUsable options → SocketRun options run → AreHonest (acts_of run) → AreFresh (turns_after run) → BothGood (kinds_of options) options (turns_after run)
both_good law options run are runs honest fresh =
    let j : Joined options (turns_after run) = joined law.below options run are runs honest in
    let world : machine.World = world_after options.a options.b j.steps in
    let is : TrueWorld world = true_world law.below law.answers options run j fresh in
    let kinds : Capabilities = kinds_of options in
    record {
      a = record {
        known = along_both (fresh_endpoint options.a) (turns_after run).a (run_along IsOwn own_turn options run runs sides.A) (of_moves law.moves GoodTurn (good_turn law.below.effects_mean) options run are runs sides.A);
        packets = all_sent_map (was_true kinds (offer_of options.a) (offer_of options.b) world.a.past world.b.past (swapped_kinds (offer_of options.a) (offer_of options.b))
            (true_past options.a options.b world.a world.b j.a.side_options j.b.side_options is.a.past)) (events_of (turns_after run).a) j.a.went;
        moves = of_moves law.moves IsMove (λ e t moves. moves) options run are runs sides.A;
      };
      b = record {
        known = along_both (fresh_endpoint options.b) (turns_after run).b (run_along IsOwn own_turn options run runs sides.B) (of_moves law.moves GoodTurn (good_turn law.below.effects_mean) options run are runs sides.B);
        packets = all_sent_map (was_true kinds (offer_of options.b) (offer_of options.a) world.b.past world.a.past (refl, refl)
            (true_past options.b options.a world.b world.a j.b.side_options j.a.side_options is.b.past)) (events_of (turns_after run).b) j.b.went;
        moves = of_moves law.moves IsMove (λ e t moves. moves) options run are runs sides.B;
      };
    }

pub shown_tags_suffice : DeliveryLaws → ShownTagsSuffice
shown_tags_suffice law options run are runs honest fresh = (
  λ serve.
      record {
        a = h.a.past.each serve.a;
        b = h.b.past.each serve.b;
        matched = λ link other has has' share. serve.matched link other (h.a.past.among link has) (h.b.past.among other has') share;
      },
  λ one. (
    record {
      a = h.a.past.each_but (recorded_past (turns_after run).b) (identities_shown sides.B options run) h.b.past.among one.a;
      b = h.b.past.each_but (recorded_past (turns_after run).a) (identities_shown sides.A options run) h.a.past.among one.b;
      matched = matched one;
    },
    together one,
  ),
)
  where
    h : BothSides (kinds_of options) options (turns_after run) (identities_shown sides.A options run) (identities_shown sides.B options run)
    h = both_sides law (kinds_of options) options are run runs honest (both_good law options run are runs honest fresh)

    matched : OneTakesThePlace options run → MatchOrUnmatched options.a options.b (recorded_past (turns_after run).a) (recorded_past (turns_after run).b)
    matched one link other has has' share =
        let is = one.matched link other (h.a.past.among link has) (h.b.past.among other has') share in (
          is.0,
          elim is.1 [
            | inl both ↦ inl both
            | inr which ↦ inr (elim which [
              | inl mine ↦ inl (mine.0, λ theirs was. mine.1 theirs (h.b.past.among theirs was))
              | inr their ↦ inr (their.0, λ ours was. their.1 ours (h.a.past.among ours was))
            ])
          ],
        )

    together : OneTakesThePlace options run → (side : Side) → SendsLittleTogether (of_side side (turns_after run))
    together one sides.A old link has has' same other = one.little sides.A old link (h.a.past.among old has) (h.a.past.among link has') same other
    together one sides.B old link has has' same other = one.little sides.B old link (h.b.past.among old has) (h.b.past.among link has') same other

-- ---- how data is sent

sent_alike : (kinds others : Capabilities) (transfer : Option Transfer) → SameKinds others kinds → IsSentByCapabilities kinds transfer → IsSentByCapabilities others transfer
sent_alike kinds others None same is = tt
sent_alike kinds others (Some transfer) same is = (is.0 ∙ sym same.0, is.1 ∙ sym same.1)

pub flights_are_as_negotiated : DeliveryLaws → FlightsAreAsNegotiated
flights_are_as_negotiated law options run are runs honest fresh = by_side
  where
    h : BothSides (kinds_of options) options (turns_after run) (identities_shown sides.A options run) (identities_shown sides.B options run)
    h = both_sides law (kinds_of options) options are run runs honest (both_good law options run are runs honest fresh)

    by_side : (side : Side) → IsSentByCapabilities (negotiated_capabilities (offer_of (of_side side options)) (offer_of (of_other side options))) (endpoint_after (of_side side options) (of_side side (turns_after run))).queues.transfer
    by_side sides.A = h.a.is.left
    by_side sides.B =
        sent_alike (kinds_of options) (negotiated_capabilities (offer_of options.b) (offer_of options.a)) (endpoint_after options.b (turns_after run).b).queues.transfer
        (swapped_kinds (offer_of options.a) (offer_of options.b)) h.b.is.left
