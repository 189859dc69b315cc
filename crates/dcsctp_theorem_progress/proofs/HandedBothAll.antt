-- An exchange in which both sides have any number of packets under way: those of A are delivered first.
use Rattle.std.proofs.Common.{◌≡◌, ℕ, ◌-◌, List, [], ◌++◌, length, refl, sym, subst, ap, ◌∙◌, append_assoc}
use Rattle.std.proofs.lemmas.List.{append-nil}
use Rattle.dcsctp_spec_lemmas.specs.types.declared.options.Options.{Options}
use Rattle.dcsctp_spec_lemmas.specs.types.declared.schedule.Side.TheVariants as sides
use Rattle.dcsctp_spec_lemmas.specs.types.Schedule.{ActContent}
use Rattle.dcsctp_spec_runs.specs.Sockets.{PerformedAct, Both, turns_after, SocketRun}
use Rattle.dcsctp_theorem_progress.specs.Rounds.{counts_shown, ActsFollow, deliveries, exchange}
use Rattle.dcsctp_theorem_progress.proofs.Handed.{none_follow}
use Rattle.dcsctp_theorem_progress.proofs.HandedAll.{HoldsAlong, FirstHanded, hand_first, many}
use Rattle.dcsctp_theorem_progress.proofs.Views.{View, At}

-- Both have these packets under way.
pub record BothUnderAll (settled : Both ℕ) (v w : View) (xs ys : List (List ℕ)) : Type 0 where
  pub before_a : List (List ℕ)
  pub before_b : List (List ℕ)
  pub shown_a : v.shown ≡ before_a ++ xs
  pub shown_b : w.shown ≡ before_b ++ ys
  pub settled_a : settled.a ≡ length before_a
  pub settled_b : settled.b ≡ length before_b

-- All were handed over, and what holds after each holds in the end.
pub record BothHandedAll (options : Both Options) (run : List PerformedAct) (HoldsB HoldsA : List (List ℕ) → View → Type 0) : Type 0 where
  pub here : View
  pub there : View
  pub holds_there : HoldsB [] there
  pub holds_here : HoldsA [] here
  pub at : At options run here there

acts_are : (options : Both Options) (settled : Both ℕ) (earlier : List PerformedAct) (v w : View) (xs ys : List (List ℕ)) → At options earlier v w → (h : BothUnderAll settled v w xs ys)
    → exchange options (turns_after earlier) settled ≡ deliveries sides.B (length h.before_a) (length xs) ++ deliveries sides.A (length h.before_b) (length ys)
acts_are options settled earlier v w xs ys at h =
    let shown : Both ℕ = counts_shown options (turns_after earlier) in
    ap (λ (acts : List ActContent). acts ++ deliveries sides.A settled.b (shown.b - settled.b)) (many sides.B settled.a h.before_a xs _ (ap (λ (y : View). y.shown) at.a ∙ h.shown_a) h.settled_a)
    ∙ ap (λ (acts : List ActContent). deliveries sides.B (length h.before_a) (length xs) ++ acts) (many sides.A settled.b h.before_b ys _ (ap (λ (y : View). y.shown) at.b ∙ h.shown_b) h.settled_b)

pub both_handed_all : (options : Both Options) (settled : Both ℕ) (HoldsB HoldsA : List (List ℕ) → View → Type 0) (earlier run : List PerformedAct) (v w : View) (xs ys : List (List ℕ))
    → HoldsAlong options.b HoldsB → HoldsAlong options.a HoldsA → At options earlier v w → BothUnderAll settled v w xs ys → HoldsB xs w → HoldsA ys v
    → ActsFollow earlier (exchange options (turns_after earlier) settled) run → SocketRun options run → BothHandedAll options run HoldsB HoldsA
both_handed_all options settled HoldsB HoldsA earlier run v w xs ys along_b along_a at h holds_b holds_a follows runs =
    let acts : List ActContent = deliveries sides.A (length h.before_b) (length ys) in
    let first : FirstHanded sides.A options earlier run v w acts HoldsB =
    hand_first xs sides.A options HoldsB earlier run v w h.before_a [] acts along_b at (h.shown_a ∙ ap (λ (zs : List (List ℕ)). h.before_a ++ zs) (sym (append-nil xs))) holds_b
    (subst (λ (l : List ActContent). ActsFollow earlier l run) (acts_are options settled earlier v w xs ys at h) follows) runs in
    let second : FirstHanded sides.B options first.between run first.last v [] HoldsA =
    hand_first ys sides.B options HoldsA first.between run first.last v h.before_b first.more [] along_a first.at
    (first.grows ∙ ap (λ (zs : List (List ℕ)). zs ++ first.more) h.shown_b ∙ append_assoc h.before_b ys first.more) holds_a
    (subst (λ (l : List ActContent). ActsFollow first.between l run) (sym (append-nil acts)) first.follow) runs in
    record {
      here = second.last;
      there = first.last;
      holds_there = first.holds;
      holds_here = second.holds;
      at = subst (λ (r : List PerformedAct). At options r second.last first.last) (sym (none_follow second.between [] run second.follow refl)) second.at;
    }
