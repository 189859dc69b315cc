-- A turn of a socket that is an act of its association, one in which the greatest size of a message has no part, is followed by its
-- side in the machine that agreement is proved on.
use Rattle.std.proofs.Common.{◌≡◌, List, [], ◌∷◌, ◌++◌, refl, sym, subst}
use Rattle.dcsctp_spec_lemmas.specs.types.declared.options.Options.{Options}
use Rattle.dcsctp_spec_lemmas.specs.types.Settings.{SameOptions}
use Rattle.dcsctp_spec_lemmas.specs.spec.endpoint.Endpoint.{Endpoint, Core}
use Rattle.dcsctp_spec_lemmas.specs.spec.endpoint.Outcome.{Outcome}
use Rattle.dcsctp_spec_lemmas.specs.spec.endpoint.CallTurns.{Transition}
use Rattle.dcsctp_spec_lemmas.specs.spec.association.Controlled.{IsControlled, IsControlledAct}
use Rattle.dcsctp_spec_lemmas.specs.spec.association.Choices.{Choices}
use Rattle.dcsctp_spec_lemmas.specs.spec.association.Effect.{Change}
use Rattle.dcsctp_spec_lemmas.specs.spec.association.Acts.{Act, act_change}
use Rattle.dcsctp_spec_runs.specs.World.{SideState, after_changes, acted}
use Rattle.dcsctp_spec_runs.specs.Sockets.{endpoint_after}
use Rattle.dcsctp_spec_runs.specs.Fitting.{TurnFits}
use Rattle.dcsctp_theorem_association.specs.OneSide.{EffectsMean}
use Rattle.dcsctp_theorem_sockets.proofs.Follow.{Followed, follow_turns}

-- The greatest size of a message, which alone may change, has no part in it.
abbrev pub IgnoresMessageSize : Act → Type 0
IgnoresMessageSize act = (p q : Options) (core : Core) (choices : Choices) → SameOptions p q → act_change q core act choices ≡ act_change p core act choices

controlled_at : Endpoint → Outcome → Act → Options → Choices → Core → Type 0
controlled_at e o act options choices core = IsControlled e o (act_change options core act choices)

-- The turn is one of the side's, by these choices.
pub record ActFollows (options : Options) (turns : List Transition) (side : SideState) (act : Act) (t : Transition) : Type 0 where
  pub choices : Choices
  pub follows : Followed options (turns ++ t ∷ []) (after_changes side (act_change side.options side.core act choices ∷ []))

pub act_follows : EffectsMean → (options : Options) (turns : List Transition) (side : SideState) (act : Act) (t : Transition) → IgnoresMessageSize act → Followed options turns side
    → IsControlledAct (endpoint_after options turns) act t.outcome → TurnFits t.outcome → ActFollows options turns side act t
unfolding controlled_at
act_follows means options turns side act t any h controlled fits =
    let e : Endpoint = endpoint_after options turns in
    let choices : Choices = controlled.0 in
    let same : controlled_at e t.outcome act e.options choices side.core = subst (controlled_at e t.outcome act e.options choices) (sym h.core) controlled.1 in
    let own : SameOptions side.options e.options = subst (λ (p : Options). SameOptions p e.options) (sym h.side_options) h.own_options in
    let change : Change = act_change side.options side.core act choices in
    record {
      choices = choices;
      follows = follow_turns means options turns side (t ∷ []) (change ∷ []) h (acted act choices refl, tt)
          (subst (IsControlled e t.outcome) (any side.options e.options side.core choices own) same, tt) (fits, tt);
    }
