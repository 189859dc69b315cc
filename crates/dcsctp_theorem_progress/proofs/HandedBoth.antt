-- An exchange in which each side has a packet under way.
use Rattle.std.proofs.Common.{◌≡◌, ℕ, suc, ◌-◌, Option, Some, List, [], ◌∷◌, ◌++◌, length, refl, sym, subst, ap, ◌∙◌}
use Rattle.dcsctp_spec_lemmas.specs.types.declared.options.Options.{Options}
use Rattle.dcsctp_spec_lemmas.specs.types.declared.schedule.Side.TheVariants as sides
use Rattle.dcsctp_spec_lemmas.specs.types.Schedule.{delivery_step, ActContent, step_act}
use Rattle.dcsctp_spec_lemmas.specs.spec.endpoint.CallTurns.{Transition, HandleInput}
use Rattle.dcsctp_spec_runs.specs.Sockets.{PerformedAct, Both, packets_shown, packet_at_number, turns_after, DeliveryTurns, SocketRun}
use Rattle.dcsctp_theorem_progress.specs.Rounds.{counts_shown, ActsFollow, deliveries, exchange}
use Rattle.dcsctp_theorem_progress.proofs.Views.{View, view, view_then, viewed_then, At, Keep, BothDone, follows_two}
use Rattle.dcsctp_theorem_progress.proofs.Handed.{one_more, one_delivery}

-- Each has a packet under way.
pub record BothUnder (settled : Both ℕ) (v w : View) (x y : List ℕ) : Type 0 where
  pub before_a : List (List ℕ)
  pub before_b : List (List ℕ)
  pub shown_a : v.shown ≡ before_a ++ x ∷ []
  pub shown_b : w.shown ≡ before_b ++ y ∷ []
  pub settled_a : settled.a ≡ length before_a
  pub settled_b : settled.b ≡ length before_b

-- Each was handed the other's, B first, and nothing else.
pub record HandedBoth (options : Both Options) (run : List PerformedAct) (v w : View) (x y : List ℕ) : Type 0 where
  pub there : List Transition
  pub here : List Transition
  pub input_there : HandleInput w.endpoint x there
  pub input_here : HandleInput v.endpoint y here
  pub at : At options run (view_then v here) (view_then w there)

-- a packet among others
nth_of : (xs : List (List ℕ)) (x : List ℕ) (ys : List (List ℕ)) → packet_at_number (suc (length xs)) ((xs ++ x ∷ []) ++ ys) ≡ Some x
nth_of [] x ys = refl
nth_of (z ∷ xs) x ys = nth_of xs x ys

last_of : (xs : List (List ℕ)) (x : List ℕ) → packet_at_number (suc (length xs)) (xs ++ x ∷ []) ≡ Some x
last_of [] x = refl
last_of (z ∷ xs) x = last_of xs x

abbrev to_b : Both ℕ → ActContent
to_b settled = step_act (delivery_step sides.B (suc settled.a))

abbrev to_a : Both ℕ → ActContent
to_a settled = step_act (delivery_step sides.A (suc settled.b))

acts_are : (options : Both Options) (settled : Both ℕ) (earlier : List PerformedAct) (v w : View) (x y : List ℕ) → At options earlier v w → BothUnder settled v w x y
    → exchange options (turns_after earlier) settled ≡ to_b settled ∷ to_a settled ∷ []
acts_are options settled earlier v w x y at h =
    let shown : Both ℕ = counts_shown options (turns_after earlier) in
    let a : shown.a ≡ suc settled.a = ap (λ (z : View). length z.shown) at.a ∙ ap length h.shown_a ∙ one_more h.before_a x ∙ ap suc (sym h.settled_a) in
    let b : shown.b ≡ suc settled.b = ap (λ (z : View). length z.shown) at.b ∙ ap length h.shown_b ∙ one_more h.before_b y ∙ ap suc (sym h.settled_b) in
    ap (λ (acts : List ActContent). acts ++ deliveries sides.A settled.b (shown.b - settled.b)) (one_delivery sides.B settled.a shown.a a)
    ∙ ap (λ (acts : List ActContent). to_b settled ∷ acts) (one_delivery sides.A settled.b shown.b b)

abbrev ran_both : Both ℕ → List Transition → List Transition → List PerformedAct → List PerformedAct
ran_both settled there here earlier = record { act = to_a settled; turns = here } ∷ record { act = to_b settled; turns = there } ∷ earlier

handed_by : (options : Both Options) (settled : Both ℕ) (earlier : List PerformedAct) (v w : View) (x y : List ℕ) (there here : List Transition) → At options earlier v w → Keep options v w
    → BothUnder settled v w x y → SocketRun options (ran_both settled there here earlier) → HandedBoth options (ran_both settled there here earlier) v w x y
handed_by options settled earlier v w x y there here at keep h runs =
    let ta : List Transition = (turns_after earlier).a in
    let tb : List Transition = (turns_after earlier).b in
    let more : List (List ℕ) = packets_shown w.endpoint.options there in
    let after : view options.b (tb ++ there) ≡ view_then w there = viewed_then options.b tb there w at.b keep.b in
    let first : packet_at_number (suc settled.a) v.shown ≡ Some x =
    ap (λ (n : ℕ). packet_at_number (suc n) v.shown) h.settled_a ∙ ap (packet_at_number (suc (length h.before_a))) h.shown_a ∙ last_of h.before_a x in
    let second : packet_at_number (suc settled.b) (w.shown ++ more) ≡ Some y =
    ap (λ (n : ℕ). packet_at_number (suc n) (w.shown ++ more)) h.settled_b ∙ ap (λ (ps : List (List ℕ)). packet_at_number (suc (length h.before_b)) (ps ++ more)) h.shown_b ∙ nth_of h.before_b y more in
    record {
      there = there;
      here = here;
      input_there = subst (λ (found : Option (List ℕ)). DeliveryTurns w.endpoint found there) first
          (subst (λ (z : View). DeliveryTurns w.endpoint (packet_at_number (suc settled.a) z.shown) there) at.a
          (subst (λ (z : View). DeliveryTurns z.endpoint (packet_at_number (suc settled.a) (view options.a ta).shown) there) at.b runs.1.0));
      input_here = subst (λ (found : Option (List ℕ)). DeliveryTurns v.endpoint found here) second
          (subst (λ (z : View). DeliveryTurns v.endpoint (packet_at_number (suc settled.b) z.shown) here) after
          (subst (λ (z : View). DeliveryTurns z.endpoint (packet_at_number (suc settled.b) (view options.b (tb ++ there)).shown) here) at.a runs.0));
      at = record { a = viewed_then options.a ta here v at.a keep.a; b = after };
    }

pub both_handed : (options : Both Options) (settled : Both ℕ) (earlier run : List PerformedAct) (v w : View) (x y : List ℕ) → At options earlier v w → Keep options v w
    → BothUnder settled v w x y → ActsFollow earlier (exchange options (turns_after earlier) settled) run → SocketRun options run → HandedBoth options run v w x y
both_handed options settled earlier run v w x y at keep h follows runs =
    let two : ActsFollow earlier (to_b settled ∷ to_a settled ∷ []) run = subst (λ (acts : List ActContent). ActsFollow earlier acts run) (acts_are options settled earlier v w x y at h) follows in
    let d : BothDone earlier (to_b settled) (to_a settled) run = follows_two earlier (to_b settled) (to_a settled) run two in
    subst (λ (r : List PerformedAct). HandedBoth options r v w x y) (sym d.is) (handed_by options settled earlier v w x y d.turns d.more at keep h (subst (SocketRun options) d.is runs))
