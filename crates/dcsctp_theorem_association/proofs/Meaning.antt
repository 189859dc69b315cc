-- What each effect says of the association after its turn; emissions and flushes say it truly.
use Rattle.std.proofs.Common.{◌≡◌, ℕ, Bool, true, false, Option, None, Some, List, [], ◌∷◌, ◌++◌, ◌⊎◌, inl, inr, refl, sym, subst, ap, ◌∙◌}
use Rattle.dcsctp_spec_lemmas.specs.types.declared.association.Pair.{Pair}
use Rattle.dcsctp_spec_lemmas.specs.types.declared.association.Held.{Held}
use Rattle.dcsctp_spec_lemmas.specs.spec.Packet.{Plain, Content}
use Rattle.dcsctp_spec_lemmas.specs.spec.Reconfiguration.{RequestedReset}
use Rattle.dcsctp_spec_lemmas.specs.spec.endpoint.Endpoint.{Core, closed, open_in, established}
use Rattle.dcsctp_spec_lemmas.specs.spec.endpoint.Following.{Following}
use Rattle.dcsctp_spec_lemmas.specs.spec.association.Effect.{AssociationIdentity, Effect, draws, holds, connects, ends, begins, completes, performs, renews, resumes, Change, emission_effects, emitted_alone, identity_of, identity_of_core}
use Rattle.dcsctp_spec_lemmas.specs.spec.association.Choices.{plain_contents, Filling, Choices}
use Rattle.dcsctp_spec_lemmas.specs.spec.association.FlushChanges.{reset_to_begin, further_packets, chunks_behind, flushed_with, flush_if_allowed, flush}
use Rattle.dcsctp_spec_lemmas.specs.spec.association.Acts.{sent_then_flushed, renewed_if_fitting}
use Rattle.dcsctp_spec_runs.specs.Past.{HasEffect}
use Rattle.dcsctp_spec_lemmas.specs.spec.association.ResumeChanges.{resume_change}
use Rattle.dcsctp_theorem_association.specs.OneSide.{IsEstablished, outstanding_of_core, MayDraw, IsShown, Means}

-- ---- one effect and several

-- what an effect says of the association after its turn, where it isn't one that draws a pair
abbrev pub Says : Core → Effect → Type 0
Says core (draws pair) = ⊥
Says core (holds link) = identity_of_core core ≡ Some link
Says core (resumes link own last) = identity_of_core core ≡ Some link
Says core (connects link) = IsEstablished core link
Says core ends = core ≡ closed
Says core (begins number) = outstanding_of_core core ≡ Some number
Says core (completes my number) = (link : AssociationIdentity) × (identity_of_core core ≡ Some link) × (link.my ≡ my)
Says core (performs peer number) = (link : AssociationIdentity) × (identity_of_core core ≡ Some link) × (link.peer ≡ peer)
Says core (renews peer number) = (link : AssociationIdentity) × (identity_of_core core ≡ Some link) × (link.peer ≡ peer)
Says core effect = Unit {0}

abbrev pub AllSay : Core → List Effect → Type 0
AllSay core [] = Unit {0}
AllSay core (effect ∷ effects) = Says core effect × AllSay core effects

pub all_say-append : (core : Core) (xs ys : List Effect) → AllSay core xs → AllSay core ys → AllSay core (xs ++ ys)
all_say-append core [] ys a b = b
all_say-append core (x ∷ xs) ys a b = (a.0, all_say-append core xs ys a.1 b)

says_of : (core : Core) (effect : Effect) (effects : List Effect) → AllSay core effects → HasEffect effect effects → Says core effect
says_of core effect [] all h = absurd h
says_of core effect (newest ∷ effects) all (inl e) = subst (Says core) (sym e) all.0
says_of core effect (newest ∷ effects) all (inr h) = says_of core effect effects all.1 h

-- ---- a turn

-- A pair is drawn before anything else.
abbrev pub AllMean : Core → Core → List Effect → Type 0
AllMean core after (draws pair ∷ effects) = MayDraw core × AllSay after effects
AllMean core after effects = AllSay after effects

none_drawn : (core after : Core) (effects : List Effect) → AllSay after effects → AllMean core after effects
none_drawn core after (draws pair ∷ effects) all = absurd all.0
none_drawn core after effects all = all

-- what an effect says of the association before and after its turn
abbrev Tells : Core → Core → Effect → Type 0
Tells core after (draws pair) = MayDraw core
Tells core after effect = Says after effect

tells_by : (core after : Core) (effect : Effect) → Says after effect → Tells core after effect
tells_by core after (draws pair) s = absurd s
tells_by core after effect s = s

tells_of : (core after : Core) (effect : Effect) (effects : List Effect) → AllMean core after effects → HasEffect effect effects → Tells core after effect
tells_of core after effect (draws pair ∷ effects) all (inl e) = subst (Tells core after) (sym e) all.0
tells_of core after effect (draws pair ∷ effects) all (inr h) = tells_by core after effect (says_of after effect effects all.1 h)
tells_of core after effect effects all h = tells_by core after effect (says_of after effect effects all h)

-- Each effect says what is true, and what is newly held is shown.
pub record Meant (core : Core) (change : Change) : Type 0 where
  pub says : AllMean core change.core change.effects
  pub newly_held : (link : AssociationIdentity) → identity_of_core change.core ≡ Some link → (identity_of_core core ≡ Some link) ⊎ HasEffect (holds link) change.effects

some_same : (link other : AssociationIdentity) → Some other ≡ Some link → link ≡ other
some_same link other e = cc

means_of : (core : Core) (change : Change) → AllMean core change.core change.effects
    → ((link : AssociationIdentity) → identity_of_core change.core ≡ Some link → (identity_of_core core ≡ Some link) ⊎ IsShown link change.effects) → Means core change
means_of core change says shown =
    let tells : (effect : Effect) → HasEffect effect change.effects → Tells core change.core effect = λ effect h. tells_of core change.core effect change.effects says h in
    record {
      held = λ link h. tells (holds link) h;
      restored = λ link own last h. tells (resumes link own last) h;
      newly_held = shown;
      connected = λ link h. tells (connects link) h;
      ended = λ h. tells ends h;
      drawn = λ pair h. tells (draws pair) h;
      begun = λ number h. tells (begins number) h;
      completed = λ my number h. tells (completes my number) h;
      performed = λ peer number h. tells (performs peer number) h;
      renewed = λ peer number h. tells (renews peer number) h;
    }

pub means_by : (core : Core) (change : Change) → Meant core change → Means core change
means_by core change m = means_of core change m.says (λ link e. elim (m.newly_held link e) [ inl same ↦ inl same | inr held ↦ inr (inl held) ])

-- a restore
pub resume_means : (core : Core) (my : Pair) (held : Held) → Means core (resume_change my held)
resume_means core my held =
    means_of core (resume_change my held) (refl, (record { held = held; phase = refl; linked = refl }, tt))
    (λ link e. inr (inr (held.own_next, held.peer_last, inl (ap (λ (l : AssociationIdentity). resumes l held.own_next held.peer_last) (some_same link (identity_of my held) e)))))

-- The same association is held, or none.
pub same_meant : {core after : Core} {effects : List Effect} {following : Following} → identity_of_core after ≡ identity_of_core core → AllSay after effects
    → Meant core (record { core = after; effects = effects; following = following })
same_meant {core} {after} {effects} same all = record { says = none_drawn core after effects all; newly_held = λ link e. inl (sym same ∙ e) }

-- The association stays, and a pair is drawn.
pub drawn_meant : {core after : Core} {pair : Pair} {effects : List Effect} {following : Following} → MayDraw core → identity_of_core after ≡ identity_of_core core → AllSay after effects
    → Meant core (record { core = after; effects = draws pair ∷ effects; following = following })
drawn_meant may same all = record { says = (may, all); newly_held = λ link e. inl (sym same ∙ e) }

-- The association has ended.
pub ended_meant : {core : Core} {effects : List Effect} {following : Following} → AllSay closed effects → Meant core (record { core = closed; effects = effects; following = following })
ended_meant {core} {effects} all = record { says = none_drawn core closed effects all; newly_held = λ link e. absurd (cc) }

-- ---- packets

emitted_says : (core : Core) (tag : ℕ) (contents : List Content) → AllSay core (emission_effects tag contents)
emitted_says core tag [] = tt
emitted_says core tag (content ∷ contents) = (tt, tt)

pub alone_says : (core : Core) (fits : Bool) (tag : ℕ) (content : Content) → AllSay core (emitted_alone fits tag content)
alone_says core true tag content = (tt, tt)
alone_says core false tag content = tt

-- one packet or none, and then the end
pub end_says-alone : (fits : Bool) (tag : ℕ) (content : Content) → AllSay closed (emitted_alone fits tag content ++ ends ∷ [])
end_says-alone true tag content = (tt, (refl, tt))
end_says-alone false tag content = (refl, tt)

further_say : (core : Core) (tag : ℕ) (packets : List (List Plain)) → AllSay core (further_packets tag packets)
further_say core tag [] = tt
further_say core tag (chunks ∷ packets) =
    all_say-append core (emission_effects tag (plain_contents chunks)) (further_packets tag packets) (emitted_says core tag (plain_contents chunks)) (further_say core tag packets)

packets_say : (core : Core) (tag : ℕ) (contents : List Content) (packets : List (List Plain)) → AllSay core (emission_effects tag contents ++ further_packets tag packets)
packets_say core tag contents packets =
    all_say-append core (emission_effects tag contents) (further_packets tag packets) (emitted_says core tag contents) (further_say core tag packets)

-- ---- flushes

-- The association is the same after a flush.
flushed_link : (my : Pair) (tag : ℕ) (held : Held) (front : List Content) (filling : Filling) (reset : Option RequestedReset)
    → identity_of my (flushed_with tag held front filling reset).held ≡ identity_of my held
flushed_link my tag held front filling None = refl
flushed_link my tag held front filling (Some reset) = refl

flush_where_link : (my : Pair) (is_allowed : Bool) (tag : ℕ) (held : Held) (front : List Content) (filling : Filling)
    → identity_of my (flush_if_allowed is_allowed tag held front filling).held ≡ identity_of my held
flush_where_link my false tag held front filling = refl
flush_where_link my true tag held front filling = flushed_link my tag held front filling (reset_to_begin held.own_outstanding filling.reset)

pub flush_link : (my : Pair) (tag : ℕ) (held : Held) (front : List Content) (filling : Filling) → identity_of my (flush tag held front filling).held ≡ identity_of my held
flush_link my tag held front filling = flush_where_link my filling.is_allowed tag held front filling

flushed_says : (core : Core) (tag : ℕ) (held : Held) (front : List Content) (filling : Filling) (reset : Option RequestedReset)
    → outstanding_of_core core ≡ (flushed_with tag held front filling reset).held.own_outstanding → AllSay core (flushed_with tag held front filling reset).effects
flushed_says core tag held front filling None e = packets_say core tag (front ++ chunks_behind held.own_next filling None) filling.further
flushed_says core tag held front filling (Some reset) e = (e, packets_say core tag (front ++ chunks_behind held.own_next filling (Some reset)) filling.further)

flush_where_says : (core : Core) (is_allowed : Bool) (tag : ℕ) (held : Held) (front : List Content) (filling : Filling)
    → outstanding_of_core core ≡ (flush_if_allowed is_allowed tag held front filling).held.own_outstanding → AllSay core (flush_if_allowed is_allowed tag held front filling).effects
flush_where_says core false tag held front filling e = tt
flush_where_says core true tag held front filling e = flushed_says core tag held front filling (reset_to_begin held.own_outstanding filling.reset) e

-- The request that is begun is outstanding then.
pub flush_says : (core : Core) (tag : ℕ) (held : Held) (front : List Content) (filling : Filling) → outstanding_of_core core ≡ (flush tag held front filling).held.own_outstanding
    → AllSay core (flush tag held front filling).effects
flush_says core tag held front filling e = flush_where_says core filling.is_allowed tag held front filling e

-- with packets before it
pub sent_says : (core : Core) (held : Held) (choices : Choices) → outstanding_of_core core ≡ (sent_then_flushed held choices).held.own_outstanding → AllSay core (sent_then_flushed held choices).effects
sent_says core held choices e =
    all_say-append core (further_packets held.peer.tag choices.plain) (flush held.peer.tag held [] choices.filling).effects (further_say core held.peer.tag choices.plain)
    (flush_says core held.peer.tag held [] choices.filling e)

-- A request that is sent under the next number: the association is the same, and that number is outstanding then.
pub renewed_link : (my : Pair) (held : Held) (number : Option ℕ) (reset : RequestedReset) (fits : Bool) → identity_of my (renewed_if_fitting held number reset fits).held ≡ identity_of my held
renewed_link my held None reset fits = refl
renewed_link my held (Some number) reset false = refl
renewed_link my held (Some number) reset true = refl

pub renewed_says : (core : Core) (held : Held) (number : Option ℕ) (reset : RequestedReset) (fits : Bool) → outstanding_of_core core ≡ (renewed_if_fitting held number reset fits).held.own_outstanding
    → AllSay core (renewed_if_fitting held number reset fits).effects
renewed_says core held None reset fits e = tt
renewed_says core held (Some number) reset false e = tt
renewed_says core held (Some number) reset true e = (tt, (e, (tt, tt)))

-- Established has connected after a flush.
pub connects_says : (my : Pair) (tag : ℕ) (held : Held) (front : List Content) (filling : Filling)
    → AllSay (open_in established my (flush tag held front filling).held) (connects (identity_of my held) ∷ (flush tag held front filling).effects)
connects_says my tag held front filling =
    let after : Held = (flush tag held front filling).held in
    (record { held = after; phase = refl; linked = flush_link my tag held front filling }, flush_says (open_in established my after) tag held front filling refl)
