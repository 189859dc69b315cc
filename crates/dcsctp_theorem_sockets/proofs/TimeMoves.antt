-- What T1 and the clock do at one socket is followed by its side in the machine that agreement is
-- proved on.
use Rattle.std.proofs.Common.{◌≡◌, ℕ, Bool, true, false, List, [], ◌∷◌, ◌++◌, refl, sym, subst, ap, ◌∙◌}
use Rattle.dcsctp_spec_lemmas.specs.types.declared.options.Options.{Options}
use Rattle.dcsctp_spec_lemmas.specs.types.Settings.{SameOptions}
use Rattle.dcsctp_spec_lemmas.specs.spec.endpoint.Endpoint.{Endpoint, Core, closed, cookie_wait, cookie_echoed, open_in}
use Rattle.dcsctp_spec_lemmas.specs.spec.endpoint.Outcome.{Outcome, still}
use Rattle.dcsctp_spec_lemmas.specs.spec.endpoint.Turn.{ActTurn, with_clock}
use Rattle.dcsctp_spec_lemmas.specs.spec.endpoint.CallTurns.{Transition}
use Rattle.dcsctp_spec_lemmas.specs.spec.association.Controlled.{IsControlled}
use Rattle.dcsctp_spec_lemmas.specs.spec.association.Effect.{Change, no_change}
use Rattle.dcsctp_spec_lemmas.specs.spec.association.Choices.{Choices}
use Rattle.dcsctp_spec_lemmas.specs.spec.association.HandshakeChanges.{t1_again_change}
use Rattle.dcsctp_spec_lemmas.specs.spec.association.Acts.{t1_expires, act_change}
use Rattle.dcsctp_spec_runs.specs.Laws.{OfferReadsBack}
use Rattle.dcsctp_spec_laws.specs.TurnLaws.{ActsAreControlled}
use Rattle.dcsctp_spec_runs.specs.World.{SideState, after_changes, acted}
use Rattle.dcsctp_spec_runs.specs.Sockets.{endpoint_after}
use Rattle.dcsctp_spec_runs.specs.Fitting.{TurnFits}
use Rattle.dcsctp_theorem_association.specs.OneSide.{EffectsMean}
use Rattle.dcsctp_theorem_sockets.proofs.Follow.{Followed, follow_turns, follow_idle}
use Rattle.dcsctp_theorem_sockets.proofs.TimerFits.{t1_fits}

-- ---- T1

-- the longest message has no part in it
longest_again : (p : Options) (n : ℕ) (core : Core) (choices : Choices) → t1_again_change (record p { max_message_size = n }) core choices ≡ t1_again_change p core choices
longest_again p n closed choices = refl
longest_again p n (cookie_wait my) choices = refl
longest_again p n (cookie_echoed my held cookie) choices = refl
longest_again p n (open_in phase my held) choices = refl

pub longest_expires : (again : Bool) (p : Options) (n : ℕ) (core : Core) (choices : Choices)
    → act_change (record p { max_message_size = n }) core (t1_expires again) choices ≡ act_change p core (t1_expires again) choices
longest_expires true p n core choices = longest_again p n core choices
longest_expires false p n core choices = refl

expires_same : (again : Bool) (p q : Options) (core : Core) (choices : Choices) → SameOptions p q
    → act_change q core (t1_expires again) choices ≡ act_change p core (t1_expires again) choices
expires_same again p q core choices same = ap (λ (x : Options). act_change x core (t1_expires again) choices) same ∙ longest_expires again p q.max_message_size core choices

-- The turn of T1 is one of the side's, by these choices.
pub record T1Follows (options : Options) (turns : List Transition) (side : SideState) (again : Bool) (t : Transition) : Type 0 where
  pub choices : Choices
  pub follows : Followed options (turns ++ t ∷ []) (after_changes side (act_change side.options side.core (t1_expires again) choices ∷ []))

abbrev expires_at : Bool → Endpoint → Options → Core → Outcome → Choices → Type 0
expires_at again e options core o choices = IsControlled e o (act_change options core (t1_expires again) choices)

pub t1_follows : EffectsMean → ActsAreControlled → OfferReadsBack → (options : Options) (turns : List Transition) (side : SideState) (again : Bool) (t : Transition) → Followed options turns side
    → ActTurn (endpoint_after options turns) (t1_expires again) t.outcome → T1Follows options turns side again t
t1_follows means acts offers options turns side again t h turn =
    let e : Endpoint = endpoint_after options turns in
    let controlled = acts e (t1_expires again) t.outcome turn in
    let choices : Choices = controlled.0 in
    let same_core : expires_at again e e.options side.core t.outcome choices = subst (λ (core : Core). expires_at again e e.options core t.outcome choices) (sym h.core) controlled.1 in
    let own : SameOptions side.options e.options = subst (λ (p : Options). SameOptions p e.options) (sym h.side_options) h.own_options in
    let same : expires_at again e side.options side.core t.outcome choices = subst (IsControlled e t.outcome) (expires_same again side.options e.options side.core choices own) same_core in
    let change : Change = act_change side.options side.core (t1_expires again) choices in
    record {
      choices = choices;
      follows = follow_turns means options turns side (t ∷ []) (change ∷ []) h (acted (t1_expires again) choices refl, tt) (same, tt) (t1_fits offers again e t.outcome turn h.fits, tt);
    }

-- ---- the clock

pub clock_follows : (options : Options) (turns : List Transition) (side : SideState) (moment : ℕ) (t : Transition) → Followed options turns side
    → t.outcome ≡ still (with_clock moment (endpoint_after options turns)) → Followed options (turns ++ t ∷ []) side
clock_follows options turns side moment t h is =
    let e : Endpoint = endpoint_after options turns in
    let controlled : IsControlled e (still (with_clock moment e)) (no_change e.core) = record { core = refl; options = refl; observations = refl; effects = refl; following = refl } in
    let fits : TurnFits (still (with_clock moment e)) = record { after = record { valid = h.fits.valid; options = h.fits.options; core = h.fits.core; t1 = h.fits.t1 }; sends = tt } in
    follow_idle options turns side t h (subst (λ (o : Outcome). IsControlled e o (no_change e.core)) (sym is) controlled) (subst TurnFits (sym is) fits)
