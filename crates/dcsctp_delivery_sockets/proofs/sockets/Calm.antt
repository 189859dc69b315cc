-- Which associations the turns of a socket record, and that those without an INIT ACK or COOKIE ECHO
-- record none.
use Rattle.std.proofs.Common.{◌≡◌, ◌≢◌, Option, None, Some, List, [], ◌∷◌, ◌++◌, refl, sym, ap, ◌∙◌, subst, inl, inr}
use Rattle.std.specs.List.{AllByRecursion}
use Rattle.dcsctp_spec_lemmas.specs.types.declared.capabilities.Capabilities.{Capabilities}
use Rattle.dcsctp_spec_lemmas.specs.types.Settings.{SameOptions}
use Rattle.dcsctp_spec_lemmas.specs.spec.endpoint.CallTurns.{Transition, AlongTurns, after_all, effects_of, events_of}
use Rattle.dcsctp_spec_lemmas.specs.spec.endpoint.Endpoint.{Endpoint}
use Rattle.dcsctp_spec_lemmas.specs.spec.endpoint.Event.{packets_of_events}
use Rattle.dcsctp_spec_lemmas.specs.spec.Packet.{Content}
use Rattle.dcsctp_spec_runs.specs.Past.{HasEffect}
use Rattle.dcsctp_spec_lemmas.specs.spec.endpoint.Turn.{Turn}
use Rattle.dcsctp_spec_lemmas.specs.spec.association.Effect.{AssociationIdentity, Effect, draws, sends, holds, connects, ends, begins, gives_up, completes, fails, accepts, performs, renews, resumes, effects_without_packets, identity_of_core}
use Rattle.dcsctp_theorem_association.specs.OneSide.{EffectsMean}
use Rattle.dcsctp_theorem_sockets.specs.Telling.{RecordsOnlyNew}
use Rattle.dcsctp_theorem_sockets.proofs.NewAssociations.{FirstAlone, change_anew}
use Rattle.dcsctp_theorem_sockets.proofs.NoHolding.{HoldsNone, none-append}
use Rattle.dcsctp_theorem_sockets.proofs.OneSocket.{noted_happened}
use Rattle.dcsctp_theorem_sockets.proofs.SocketsAlone.{Moves, it_rests, it_moves}
use Rattle.dcsctp_delivery_sockets.specs.turns.Actions.{content_of_input, IsOpening}
use Rattle.dcsctp_delivery_sockets.proofs.sockets.Allowed.{AreAllowed}
use Rattle.dcsctp_delivery_sockets.proofs.sockets.Actions.{events_both}
use Rattle.dcsctp_delivery_sockets.proofs.sockets.Turns.{EndpointIs, IsCalm, calm_step, calm_opens, MovesLink, link_stays, link_ends, link_begins, TurnIs, turn_is}

-- ---- each turn

-- A turn records at most one association, and that first. It is there after the turn, and wasn't before.
pub record GoodTurn (e : Endpoint) (t : Transition) : Type 0 where
  pub options : SameOptions e.options t.outcome.after.options
  pub first : FirstAlone t.outcome.effects
  pub anew : RecordsOnlyNew e t
  pub held : (link : AssociationIdentity) → HasEffect (holds link) t.outcome.effects → identity_of_core t.outcome.after.core ≡ Some link

noted_none : (effects : List Effect) → HoldsNone effects → HoldsNone (effects_without_packets effects)
noted_none [] none = tt
noted_none (draws pair ∷ effects) none = (tt, noted_none effects none.1)
noted_none (sends packet ∷ effects) none = noted_none effects none.1
noted_none (holds link ∷ effects) none = absurd none.0
noted_none (connects link ∷ effects) none = (tt, noted_none effects none.1)
noted_none (ends ∷ effects) none = (tt, noted_none effects none.1)
noted_none (begins number ∷ effects) none = (tt, noted_none effects none.1)
noted_none (gives_up number ∷ effects) none = (tt, noted_none effects none.1)
noted_none (completes my number ∷ effects) none = (tt, noted_none effects none.1)
noted_none (fails number ∷ effects) none = (tt, noted_none effects none.1)
noted_none (accepts number ∷ effects) none = (tt, noted_none effects none.1)
noted_none (performs peer number ∷ effects) none = (tt, noted_none effects none.1)
noted_none (renews peer number ∷ effects) none = (tt, noted_none effects none.1)
noted_none (resumes link own last ∷ effects) none = (tt, noted_none effects none.1)

alone_of_none : (effects : List Effect) → HoldsNone effects → FirstAlone effects
alone_of_none [] none = tt
alone_of_none (effect ∷ effects) none = none.1

noted_alone : (effects : List Effect) → FirstAlone effects → FirstAlone (effects_without_packets effects)
noted_alone [] first = tt
noted_alone (sends packet ∷ effects) first = alone_of_none (effects_without_packets effects) (noted_none effects first)
noted_alone (draws pair ∷ effects) first = noted_none effects first
noted_alone (holds link ∷ effects) first = noted_none effects first
noted_alone (connects link ∷ effects) first = noted_none effects first
noted_alone (ends ∷ effects) first = noted_none effects first
noted_alone (begins number ∷ effects) first = noted_none effects first
noted_alone (gives_up number ∷ effects) first = noted_none effects first
noted_alone (completes my number ∷ effects) first = noted_none effects first
noted_alone (fails number ∷ effects) first = noted_none effects first
noted_alone (accepts number ∷ effects) first = noted_none effects first
noted_alone (performs peer number ∷ effects) first = noted_none effects first
noted_alone (renews peer number ∷ effects) first = noted_none effects first
noted_alone (resumes link own last ∷ effects) first = noted_none effects first

-- This holds for each turn that moves the association as the machine does.
pub good_turn : EffectsMean → (e : Endpoint) (t : Transition) → Moves e t.outcome → GoodTurn e t
good_turn law e t (it_rests core options effects told) =
    record {
      options = options;
      first = subst FirstAlone (sym effects) tt;
      anew = λ link has. absurd (subst (HasEffect (holds link)) effects has);
      held = λ link has. absurd (subst (HasEffect (holds link)) effects has);
    }
good_turn law e t (it_moves change turn is) =
    let new = change_anew e.options e.core change turn in
    record {
      options = is.options;
      first = subst FirstAlone (sym is.effects) (noted_alone change.effects new.first);
      anew = λ link has. new.anew link (noted_happened (holds link) change.effects (subst (HasEffect (holds link)) is.effects has));
      held = λ link has. ap identity_of_core is.core ∙ (law e.options e.core change turn).held link (noted_happened (holds link) change.effects (subst (HasEffect (holds link)) is.effects has));
    }

-- What is known of each turn of a run.
abbrev pub Known : Endpoint → Transition → Type 0
Known e t = Turn e t.input t.outcome × GoodTurn e t

-- ---- turns that begin nothing

pub none_among : (effects : List Effect) → ((link : AssociationIdentity) → HasEffect (holds link) effects → ⊥) → HoldsNone effects
none_among [] without = tt
none_among (holds link ∷ effects) without = absurd (without link (inl refl))
none_among (effect ∷ effects) without = (tt, none_among effects (λ link has. without link (inr has)))

-- A turn that begins no association records none.
pub none_noted : (came : Option Content) (e : Endpoint) (t : Transition) → GoodTurn e t → (IsOpening came → ⊥) → MovesLink came e t.outcome → HoldsNone t.outcome.effects
none_noted came e t good unopened (link_stays is) = none_among t.outcome.effects (λ link has. good.anew link has (sym is ∙ good.held link has))
none_noted came e t good unopened (link_ends none) = none_among t.outcome.effects (λ link has. (let both : None ≡ Some link = sym none ∙ good.held link has in absurd (cc)))
none_noted came e t good unopened (link_begins opened) = absurd (unopened opened.opening)

module _ (kinds : Capabilities) where
  -- The turns record no association; their kinds are kept.
  pub record Calm (e : Endpoint) (turns : List Transition) : Type 0 where
    pub none : HoldsNone (effects_of turns)
    pub is : EndpointIs kinds (after_all e turns)
    pub says : AreAllowed kinds (packets_of_events (events_of turns))

  pub calm_turns : (turns : List Transition) (e : Endpoint) → AllByRecursion (λ t. IsCalm t.input) turns → AlongTurns Known e turns → EndpointIs kinds e → Calm e turns
  calm_turns [] e calm known h = record { none = tt; is = h; says = tt }
  calm_turns (t ∷ turns) e calm known h =
      let so : TurnIs kinds e (content_of_input t.input) t.outcome =
      turn_is kinds e t.input t.outcome h (calm_step t.input calm.0) (λ opened. absurd (calm_opens t.input calm.0 opened.opening)) known.0.0 in
      let rest : Calm t.outcome.after turns = calm_turns turns t.outcome.after calm.1 known.1 so.after in
      record {
        none = none-append t.outcome.effects (effects_of turns) (none_noted (content_of_input t.input) e t known.0.1 (calm_opens t.input calm.0) so.moves) rest.none;
        is = rest.is;
        says = events_both kinds t.outcome.events (events_of turns) so.says rest.says;
      }

-- ---- an act

-- The turns record no association; or one, before all else, which wasn't there before them and is there after them.
pub data Notes (e : Endpoint) (turns : List Transition) : Type 0 where
  notes_none : HoldsNone (effects_of turns) → Notes e turns
  notes_one : (link : AssociationIdentity) (later : List Effect) → effects_of turns ≡ holds link ∷ later → HoldsNone later → identity_of_core e.core ≢ Some link → identity_of_core (after_all e turns).core ≡ Some link → Notes e turns

pub record ActIs (kinds : Capabilities) (e : Endpoint) (turns : List Transition) : Type 0 where
  pub notes : Notes e turns
  pub is : EndpointIs kinds (after_all e turns)
  pub says : AreAllowed kinds (packets_of_events (events_of turns))

pub of_calm : (kinds : Capabilities) (e : Endpoint) (turns : List Transition) → Calm kinds e turns → ActIs kinds e turns
of_calm kinds e turns calm = record { notes = notes_none calm.none; is = calm.is; says = calm.says }

-- a turn before these that keeps the association and records nothing
front_notes : (e : Endpoint) (t : Transition) (turns : List Transition) → t.outcome.effects ≡ [] → identity_of_core t.outcome.after.core ≡ identity_of_core e.core → Notes t.outcome.after turns → Notes e (t ∷ turns)
front_notes e t turns nothing same (notes_none others) = notes_none (subst (λ (es : List Effect). HoldsNone (es ++ effects_of turns)) (sym nothing) others)
front_notes e t turns nothing same (notes_one link later is later_none other there) =
    notes_one link later (ap (λ (es : List Effect). es ++ effects_of turns) nothing ∙ is) later_none (λ was. other (same ∙ was)) there

pub one_then : (kinds : Capabilities) (e : Endpoint) (t : Transition) (turns : List Transition) → AllByRecursion (λ u. IsCalm u.input) (t ∷ []) → Known e t → EndpointIs kinds e → t.outcome.effects ≡ [] → identity_of_core t.outcome.after.core ≡ identity_of_core e.core
    → (EndpointIs kinds t.outcome.after → ActIs kinds t.outcome.after turns) → ActIs kinds e (t ∷ turns)
one_then kinds e t turns calm known h nothing same rest =
    let so : TurnIs kinds e (content_of_input t.input) t.outcome =
    turn_is kinds e t.input t.outcome h (calm_step t.input calm.0) (λ opened. absurd (calm_opens t.input calm.0 opened.opening)) known.0 in
    let others : ActIs kinds t.outcome.after turns = rest so.after in
    record {
      notes = front_notes e t turns nothing same others.notes;
      is = others.is;
      says = events_both kinds t.outcome.events (events_of turns) so.says others.says;
    }
