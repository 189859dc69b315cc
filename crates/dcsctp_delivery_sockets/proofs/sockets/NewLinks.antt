-- An association that begins in an act is of new tags, and its numbers fit their fields.
use Rattle.std.proofs.Common.{◌≡◌, ◌≢◌, ◌⊎◌, ℕ, Bool, true, false, ◌-◌, ◌^◌, List, [], ◌∷◌, ◌++◌, refl, sym, ap, subst, inl, inr, ◌∙◌}
use Rattle.std.specs.Prelude.{Some, Option, None, ◌⊎◌, Bool, false}
use Rattle.dcsctp_spec_lemmas.specs.types.declared.association.Pair.{Pair}
use Rattle.dcsctp_spec_lemmas.specs.types.declared.options.Options.{Options}
use Rattle.dcsctp_spec_lemmas.specs.spec.endpoint.CallTurns.{Transition, AlongTurns, effects_of}
use Rattle.dcsctp_spec_lemmas.specs.spec.endpoint.Endpoint.{Endpoint, Core, closed, cookie_wait, cookie_echoed, open_in, is_cookie_echoed}
use Rattle.dcsctp_spec_runs.specs.Fitting.{FitsCore}
use Rattle.dcsctp_spec_lemmas.specs.spec.endpoint.Outcome.{Outcome}
use Rattle.dcsctp_spec_runs.specs.Past.{WasPerformed, HasEffect, Each, current}
use Rattle.dcsctp_spec_lemmas.specs.spec.endpoint.Turn.{Input}
use Rattle.dcsctp_spec_runs.specs.World.{after_effects}
use Rattle.dcsctp_spec_lemmas.specs.spec.association.Effect.{AssociationIdentity, Effect, holds, completes, identity_of, identity_of_core, connects}
use Rattle.dcsctp_theorem_association.proofs.Growth.{after_effects-append, after_within}
use Rattle.dcsctp_theorem_sockets.proofs.Signs.{among_after}
use Rattle.dcsctp_delivery_sockets.specs.turns.Actions.{BeginsAssociation}
use Rattle.dcsctp_delivery_sockets.specs.associations.Answered.{request_numbered}
use Rattle.dcsctp_delivery_sockets.specs.associations.Ends.{NewPeer, NewTag, TakesOver}
use Rattle.dcsctp_delivery_sockets.specs.sockets.Acts.{AreNewPeers, AreTurns}
use Rattle.dcsctp_delivery_sockets.specs.sockets.Packets.{AreNewTags, IsCrossedByEach, IsNoneBefore, CrossesOrWaits}
use Rattle.dcsctp_delivery_sockets.specs.sockets.Delivery.{IsUnrefused, IsOfNewTagsBut, TakesPlace, MayBeReplaced, MatchOrUnmatched}
use Rattle.dcsctp_delivery_sockets.proofs.sockets.KnownPeers.{each_earlier, IsMove, RanTo, next_run, ran_knows, ran_leaves}
use Rattle.dcsctp_delivery_sockets.proofs.sockets.Calls.{AreCalls}
use Rattle.dcsctp_delivery_sockets.proofs.sockets.Replaced.{own_or_none, replaced_unmatched}
use Rattle.dcsctp_delivery_sockets.proofs.sockets.Opening.{is_open}
use Rattle.dcsctp_theorem_association.specs.OneSide.{LeavesCore}
use Rattle.dcsctp_delivery_sockets.specs.turns.Untouched.{EchoesMaker}
use Rattle.dcsctp_delivery_sockets.proofs.sockets.OpenFitting.{AllOpenFitting, LinkFits, link_fits, not_zero}
use Rattle.dcsctp_delivery_sockets.proofs.sockets.Early.{same_rules, AllFound, NoneRestored, ConnectedSo, StandsSo, awaits_ack, stands_after, AllEcho}
use Rattle.std.specs.List.{AllByRecursion}
use Rattle.dcsctp_delivery_sockets.specs.associations.Laws.{TellsPerformed}

-- ---- its tags are new

-- Each association that was recorded has another peer's tag than those before.
new_noted : (options : Options) (theirs effects past : List Effect) → Each (IsOfNewTagsBut options theirs) (after_effects effects past) → (link old : AssociationIdentity) → HasEffect (holds link) effects → HasEffect (holds old) past → old.peer.tag ≢ link.peer.tag
new_noted options theirs [] past each link old has before = absurd has
new_noted options theirs (effect ∷ effects) past each link old (inl is) before =
    let rule : IsOfNewTagsBut options theirs (holds link) past = subst (λ (x : Effect). IsOfNewTagsBut options theirs x past) (sym is) (each_earlier (IsOfNewTagsBut options theirs) effects (effect ∷ past) each).0 in
    (rule old before).0
new_noted options theirs (effect ∷ effects) past each link old (inr has) before = new_noted options theirs effects (effect ∷ past) each link old has (inr before)

-- ---- the association that is there

current_is : (past : List Effect) (core : Core) (old : AssociationIdentity) → LeavesCore past core → current past ≡ Some old → identity_of_core core ≡ Some old
current_is past closed old leaves there = (let clash : ◌≡◌ {A = Option AssociationIdentity} None (Some old) = sym leaves ∙ there in absurd (cc))
current_is past (cookie_wait my) old leaves there = (let clash : ◌≡◌ {A = Option AssociationIdentity} None (Some old) = sym leaves ∙ there in absurd (cc))
current_is past (cookie_echoed my held cookie) old leaves there = sym leaves.link ∙ there
current_is past (open_in phase my held) old leaves there = sym leaves.link ∙ there

-- The association that a turn begins was recorded first in it.
noted_first : (e : Endpoint) (o : Outcome) (begun : BeginsAssociation e o) (rest past : List Effect)
    → after_effects (o.effects ++ rest) past ≡ after_effects (begun.later ++ rest) (holds (identity_of begun.my begun.held) ∷ past)
noted_first e o begun rest past = ap (λ (effects : List Effect). after_effects (effects ++ rest) past) begun.noted

module _ (options their_options : Options) (e : Endpoint) (input : Input) (o : Outcome) (begun : BeginsAssociation e o) (rest past their_past : List Effect) (opening : FitsCore o.after.core) (linked : identity_of_core o.after.core ≡ Some (identity_of begun.my begun.held))
    (each : Each (IsOfNewTagsBut options their_past) (after_effects (o.effects ++ rest) past)) (matched : MatchOrUnmatched options their_options (after_effects (o.effects ++ rest) past) their_past) where
  begun_link : AssociationIdentity
  begun_link = identity_of begun.my begun.held

  its_fits : LinkFits begun_link
  unfolding begun_link
  its_fits = link_fits o.after.core begun_link opening linked

  is_new : IsOfNewTagsBut options their_past (holds begun_link) past
  unfolding begun_link
  is_new = (each_earlier (IsOfNewTagsBut options their_past) (begun.later ++ rest) (holds begun_link ∷ past) (subst (Each (IsOfNewTagsBut options their_past)) (noted_first e o begun rest past) each)).0

  was_noted : HasEffect (holds begun_link) (after_effects (o.effects ++ rest) past)
  unfolding begun_link
  was_noted = subst (HasEffect (holds begun_link)) (sym (noted_first e o begun rest past)) (after_within (begun.later ++ rest) (holds begun_link ∷ past) (holds begun_link) (inl refl))

  -- Its own pair is the receiver's of its tag.
  shares_own : (theirs : AssociationIdentity) → HasEffect (holds theirs) their_past → theirs.peer.tag ≡ begun.my.tag → theirs.peer ≡ begun.my
  unfolding begun_link was_noted
  shares_own theirs has same = sym ((matched begun_link theirs was_noted has (inl (sym same))).0.my (sym same))

  new_peer : ((old : AssociationIdentity) → HasEffect (holds old) past → old.my.tag ≢ begun.my.tag) → NewPeer past their_past (identity_of begun.my begun.held)
  unfolding begun_link its_fits
  new_peer none =
      record {
        some = not_zero begun_link.my.tag its_fits.my.tag_is_not_zero;
        some_peer = not_zero begun_link.peer.tag its_fits.peer.tag_is_not_zero;
        small = its_fits.my.first_tsn;
        other = none;
        match = shares_own;
      }

  -- What is known of the association that is there: it has connected, or what is in flight is untouched; and each that connected is
  -- one of the other side's.
  pub record PeerKnown : Type 0 where
    pub ran : RanTo options e past
    pub stands : StandsSo e past
    pub found : AllFound past their_past
    pub maker : EchoesMaker input

  takes_over : PeerKnown → (old : AssociationIdentity) → HasEffect (holds old) past → (old.peer.tag ≢ begun.held.peer.tag) → TakesPlace options their_past past old (identity_of begun.my begun.held) → TakesOver past their_past e input (identity_of begun.my begun.held)
  unfolding begun_link its_fits is_new
  takes_over known old has other takes =
      let leaves = ran_leaves options e past known.ran in
      let follows = ap (λ (p : Options). p.follow_rfc) known.ran.same ∙ takes.follows in
      let was = current_is past e.core old leaves takes.there in
      let never : HasEffect (connects old) past → ⊥ = λ connected. (let met = known.found old connected in takes.unmatched met.0 met.1 met.2) in
      record {
        follows = follows;
        old = old;
        was = was;
        echoed = awaits_ack e past old known.stands.connected follows was never;
        untouched = known.stands.early.untouched follows old was never;
        maker = known.maker;
        my = takes.my;
        other = other;
        some_peer = not_zero begun_link.peer.tag its_fits.peer.tag_is_not_zero;
        alike = takes.capabilities;
        only = λ one held same. elim (is_new one held).1 [
          | inl ne ↦ absurd (ne same)
          | inr also ↦ some_link (sym also.there ∙ takes.there)
        ];
        unasked = λ own kept. (known.stands.early.unasked follows old was never own kept).0;
        unmet = takes.unmatched;
        match = shares_own;
      }
    where
      some_link : {one two : AssociationIdentity} → Some one ≡ Some two → one ≡ two
      some_link is = cc

  pub new_or_over : PeerKnown → NewPeer past their_past (identity_of begun.my begun.held) ⊎ TakesOver past their_past e input (identity_of begun.my begun.held)
  unfolding begun_link is_new
  new_or_over known = elim (own_or_none past begun.my.tag) [
    | inl none ↦ inl (new_peer none)
    | inr found ↦
        elim (is_new found.0 found.1).1 [
          | inl ne ↦ absurd (ne found.2)
          | inr takes ↦ inr (takes_over known found.0 found.1 (is_new found.0 found.1).0 takes)
        ]
  ]

  pub new_tag : NewTag past their_past (identity_of begun.my begun.held)
  unfolding begun_link its_fits is_new was_noted
  new_tag =
      record {
        some = not_zero begun_link.peer.tag its_fits.peer.tag_is_not_zero;
        own_some = not_zero begun_link.my.tag its_fits.my.tag_is_not_zero;
        small = its_fits.peer.first_tsn;
        own_small = its_fits.my.first_tsn;
        other = λ old has. (is_new old has).0;
        match = λ theirs has same. sym ((matched begun_link theirs was_noted has (inr (sym same))).0.peer (sym same));
      }

-- ---- over the turns of an act

after_first : (first rest past : List Effect) → after_effects (first ++ rest) past ≡ after_effects rest (after_effects first past)
after_first first rest past = after_effects-append first rest past

-- Each own request that was performed, as far as this past knows, the other side has performed; or it is the 2^32nd of its
-- association.
abbrev pub AllPerformed : List Effect → List Effect → Type 0
AllPerformed past their_past = (my : Pair) (number : ℕ) → HasEffect (completes my number) past → WasPerformed my number their_past ⊎ (number ≡ request_numbered my.first_tsn (2 ^ 32 - 1))

pub new_peers : (in_turn : Bool) (options their_options : Options) (their_past : List Effect) (turns : List Transition) (past : List Effect) (e : Endpoint) → RanTo options e past → StandsSo e past → AreTurns e turns → AreCalls turns → AlongTurns (IsUnrefused in_turn) e turns
    → AlongTurns IsMove e turns → AllOpenFitting turns → AllEcho turns → Each (IsOfNewTagsBut options their_past) (after_effects (effects_of turns) past) → MatchOrUnmatched options their_options (after_effects (effects_of turns) past) their_past
    → AllPerformed (after_effects (effects_of turns) past) their_past → AllFound (after_effects (effects_of turns) past) their_past → NoneRestored (after_effects (effects_of turns) past) → AreNewPeers in_turn past their_past e turns
new_peers in_turn options their_options their_past [] past e ran stands taken calls unrefused along opens makers each matched performed found restored = tt
new_peers in_turn options their_options their_past (t ∷ turns) past e ran stands taken calls unrefused along opens makers each matched performed found restored =
    let split = after_first t.outcome.effects (effects_of turns) past in
    let later : AllPerformed (after_effects (effects_of turns) (after_effects t.outcome.effects past)) their_past = subst (λ (p : List Effect). AllPerformed p their_past) split performed in
    let none' : NoneRestored (after_effects (effects_of turns) (after_effects t.outcome.effects past)) = subst NoneRestored split restored in (
      calls.0,
      (λ begun opening linked.
          new_or_over options their_options e t.input t.outcome begun (effects_of turns) past their_past (opens.0 opening) linked each matched
          (record { ran = ran; stands = stands; found = λ link has. found link (after_within (effects_of (t ∷ turns)) past (connects link) has); maker = makers.0 })),
      unrefused.0,
      (λ my number has. later my number (after_within (effects_of turns) (after_effects t.outcome.effects past) (completes my number) (among_after (completes my number) t.outcome.effects past has))),
      same_rules e t.outcome along.0,
      new_peers in_turn options their_options their_past turns (after_effects t.outcome.effects past) t.outcome.after (next_run options e past t ran along.0) (stands_after past t turns e stands taken calls along opens none') taken.1 calls.1 unrefused.1 along.1 opens.1
          makers.1 (subst (Each (IsOfNewTagsBut options their_past)) split each) (subst (λ (p : List Effect). MatchOrUnmatched options their_options p their_past) split matched) later
          (subst (λ (p : List Effect). AllFound p their_past) split found) none',
    )

-- ---- the association that receives

-- It is crossed by that of the sender, or its COOKIE ACK is awaited.
module _ (options their_options : Options) (e : Endpoint) (their_past whole past : List Effect) (within : (effect : Effect) → HasEffect effect their_past → HasEffect effect whole) (same : e.options.follow_rfc ≡ options.follow_rfc) (connected : ConnectedSo e their_past)
    (sender_each : Each (IsOfNewTagsBut their_options whole) past) (matched : MatchOrUnmatched options their_options whole past) (found : AllFound whole past) where
  crosses : CrossesOrWaits their_past past e
  crosses link held linked = by_core (is_cookie_echoed e.core) refl e.options.follow_rfc refl
    where
      none_before : IsNoneBefore past link
      none_before tag former latest was is = replaced_unmatched their_options whole past sender_each tag former latest was link (within (holds link) held) is

      crossed : (MayBeReplaced options link past → ⊥) → IsCrossedByEach past link
      crossed not_may other has is =
          elim (matched link other (within (holds link) held) has (inl (sym is))).1 [
            | inl both ↦ ap (λ (p : Pair). p.tag) (sym both.1)
            | inr which ↦ absurd (elim which [ inl my ↦ not_may my | inr their ↦ their.1 link (within (holds link) held) (sym is) ])
          ]

      open_so : (core : Core) → e.core ≡ core → is_cookie_echoed core ≡ false → is_open core ≡ true
      open_so closed at none = (let clash : ◌≡◌ {A = Option AssociationIdentity} None (Some link) = ap identity_of_core (sym at) ∙ linked in absurd (cc))
      open_so (cookie_wait my) at none = (let clash : ◌≡◌ {A = Option AssociationIdentity} None (Some link) = ap identity_of_core (sym at) ∙ linked in absurd (cc))
      open_so (cookie_echoed my held' cookie) at none = absurd (cc)
      open_so (open_in phase my held') at none = refl

      by_core : (echoed : Bool) → is_cookie_echoed e.core ≡ echoed → (follows : Bool) → e.options.follow_rfc ≡ follows → (IsCrossedByEach past link × IsNoneBefore past link) ⊎ ((e.options.follow_rfc ≡ true) × (is_cookie_echoed e.core ≡ true))
      by_core true echoed true follows = inr (follows, echoed)
      by_core true echoed false follows = inl (crossed (λ may. (let clash : false ≡ true = sym follows ∙ same ∙ may.0 in absurd (cc))), none_before)
      by_core false is true follows =
          inl (crossed (λ may. (let other = found link (within (connects link) (connected follows (open_so e.core refl is) link linked)) in may.1 other.0 other.1 other.2)), none_before)
      by_core false is false follows = inl (crossed (λ may. (let clash : false ≡ true = sym follows ∙ same ∙ may.0 in absurd (cc))), none_before)

pub new_tags : (options their_options : Options) (past : List Effect) (turns : List Transition) (their_past : List Effect) (e : Endpoint) → RanTo options e their_past → StandsSo e their_past → AreTurns e turns → AllByRecursion (λ turn. TellsPerformed turn.outcome) turns → AreCalls turns → AlongTurns IsMove e turns
    → AllOpenFitting turns → Each (IsOfNewTagsBut options past) (after_effects (effects_of turns) their_past) → Each (IsOfNewTagsBut their_options (after_effects (effects_of turns) their_past)) past
    → MatchOrUnmatched options their_options (after_effects (effects_of turns) their_past) past → AllFound (after_effects (effects_of turns) their_past) past → NoneRestored (after_effects (effects_of turns) their_past) → AreNewTags options their_past past e turns
new_tags options their_options past [] their_past e ran stands taken tells calls along opens each their_each matched found none = tt
new_tags options their_options past (t ∷ turns) their_past e ran stands taken tells calls along opens each their_each matched found none =
    let split = after_first t.outcome.effects (effects_of turns) their_past in
    let later : Each (IsOfNewTagsBut options past) (after_effects (effects_of turns) (after_effects t.outcome.effects their_past)) = subst (Each (IsOfNewTagsBut options past)) split each in
    let none' : NoneRestored (after_effects (effects_of turns) (after_effects t.outcome.effects their_past)) = subst NoneRestored split none in
    let follows : e.options.follow_rfc ≡ options.follow_rfc = ap (λ (p : Options). p.follow_rfc) ran.same in (
      ran.same,
      (λ begun opening linked. new_tag options their_options e t.input t.outcome begun (effects_of turns) their_past past (opens.0 opening) linked each matched),
      ran_knows options e their_past ran,
      (
        new_noted options past t.outcome.effects their_past (each_earlier (IsOfNewTagsBut options past) (effects_of turns) (after_effects t.outcome.effects their_past) later),
        crosses options their_options e their_past (after_effects (effects_of (t ∷ turns)) their_past) past (after_within (effects_of (t ∷ turns)) their_past) follows stands.connected their_each matched found,
        tells.0,
      ),
      new_tags options their_options past turns (after_effects t.outcome.effects their_past) t.outcome.after (next_run options e their_past t ran along.0)
          (stands_after their_past t turns e stands taken calls along opens none')
          taken.1 tells.1 calls.1 along.1 opens.1 later (subst (λ (p : List Effect). Each (IsOfNewTagsBut their_options p) past) split their_each) (subst (λ (p : List Effect). MatchOrUnmatched options their_options p past) split matched)
          (subst (λ (p : List Effect). AllFound p past) split found) none',
    )
