-- An exchange in which one side has a packet under way, and the other none.
use Rattle.std.specs.Prelude.{reverse}
use Rattle.std.proofs.Common.{◌≡◌, ℕ, suc, ◌-◌, Option, List, [], ◌∷◌, ◌++◌, length, refl, sym, subst, ap, ◌∙◌, arith}
use Rattle.dcsctp_spec_lemmas.specs.types.declared.options.Options.{Options}
use Rattle.dcsctp_spec_lemmas.specs.types.declared.schedule.Side.{Side}
use Rattle.dcsctp_spec_lemmas.specs.types.declared.schedule.Side.TheVariants as sides
use Rattle.dcsctp_spec_lemmas.specs.types.Schedule.{delivery_step, ActContent, step_act}
use Rattle.dcsctp_spec_lemmas.specs.spec.endpoint.CallTurns.{Transition, HandleInput}
use Rattle.dcsctp_spec_runs.specs.Sockets.{PerformedAct, Both, of_side, of_other, packet_at_number, turns_after, DeliveryTurns, SocketRun, acts_of}
use Rattle.dcsctp_theorem_progress.specs.Rounds.{counts_shown, ActsFollow, deliveries, exchange}
use Rattle.dcsctp_theorem_progress.proofs.Facts.{last_of}
use Rattle.dcsctp_theorem_progress.proofs.Views.{View, view, view_then, viewed_then, At, Keep, AtOf, KeepOf, Done, follows_one}

-- ---- counts

pub one_more : (xs : List (List ℕ)) (x : List ℕ) → length (xs ++ x ∷ []) ≡ suc (length xs)
one_more [] x = refl
one_more (y ∷ xs) x = ap suc (one_more xs x)

pub one_delivery : (side : Side) (settled shown : ℕ) → shown ≡ suc settled → deliveries side settled (shown - settled) ≡ step_act (delivery_step side (suc settled)) ∷ []
one_delivery side settled shown is = let one : shown - settled ≡ 1 = omega (arith, is) in ap (deliveries side settled) one

pub no_delivery : (side : Side) (settled shown : ℕ) → shown ≡ settled → deliveries side settled (shown - settled) ≡ []
no_delivery side settled shown is = let none : shown - settled ≡ 0 = omega (arith, is) in ap (deliveries side settled) none

-- ---- a packet of A, and one of B

-- This side has a packet under way, and the other none.
pub record Under (settled : Both ℕ) (side : Side) (v w : View) (x : List ℕ) : Type 0 where
  pub before : List (List ℕ)
  pub shown : v.shown ≡ before ++ x ∷ []
  pub mine : of_side side settled ≡ length before
  pub others : of_other side settled ≡ length w.shown

-- The packet was handed to the other, and nothing else.
pub record Handed (side : Side) (options : Both Options) (run : List PerformedAct) (v w : View) (x : List ℕ) : Type 0 where
  pub turns : List Transition
  pub input : HandleInput w.endpoint x turns
  pub at : AtOf side options run v (view_then w turns)

given : (settled : Both ℕ) (side : Side) (v w : View) (x : List ℕ) (number : ℕ) (turns : List Transition) (h : Under settled side v w x) → number ≡ of_side side settled
    → DeliveryTurns w.endpoint (packet_at_number (suc number) v.shown) turns → HandleInput w.endpoint x turns
given settled side v w x number turns h is input =
    subst (λ (found : Option (List ℕ)). DeliveryTurns w.endpoint found turns) (last_of h.before x)
    (subst (λ (n : ℕ). DeliveryTurns w.endpoint (packet_at_number (suc n) (h.before ++ x ∷ [])) turns) (is ∙ h.mine)
    (subst (λ (xs : List (List ℕ)). DeliveryTurns w.endpoint (packet_at_number (suc number) xs) turns) h.shown input))

-- A's count is one more than what is settled, and B's is that.
pub mine_more : (settled : Both ℕ) (side : Side) (v w : View) (x : List ℕ) (h : Under settled side v w x) → length v.shown ≡ suc (of_side side settled)
mine_more settled side v w x h = ap length h.shown ∙ one_more h.before x ∙ ap suc (sym h.mine)

pub acts_to_b : (options : Both Options) (settled : Both ℕ) (earlier : List PerformedAct) (v w : View) (x : List ℕ) → At options earlier v w → Under settled sides.A v w x
    → exchange options (turns_after earlier) settled ≡ step_act (delivery_step sides.B (suc settled.a)) ∷ []
acts_to_b options settled earlier v w x at h =
    let shown : Both ℕ = counts_shown options (turns_after earlier) in
    let a : shown.a ≡ suc settled.a = ap (λ (y : View). length y.shown) at.a ∙ mine_more settled sides.A v w x h in
    let b : shown.b ≡ settled.b = ap (λ (y : View). length y.shown) at.b ∙ sym h.others in
    ap (λ (acts : List ActContent). acts ++ deliveries sides.A settled.b (shown.b - settled.b)) (one_delivery sides.B settled.a shown.a a)
    ∙ ap (λ (acts : List ActContent). step_act (delivery_step sides.B (suc settled.a)) ∷ acts) (no_delivery sides.A settled.b shown.b b)

pub acts_to_a : (options : Both Options) (settled : Both ℕ) (earlier : List PerformedAct) (v w : View) (x : List ℕ) → At options earlier w v → Under settled sides.B v w x
    → exchange options (turns_after earlier) settled ≡ step_act (delivery_step sides.A (suc settled.b)) ∷ []
acts_to_a options settled earlier v w x at h =
    let shown : Both ℕ = counts_shown options (turns_after earlier) in
    let b : shown.b ≡ suc settled.b = ap (λ (y : View). length y.shown) at.b ∙ mine_more settled sides.B v w x h in
    let a : shown.a ≡ settled.a = ap (λ (y : View). length y.shown) at.a ∙ sym h.others in
    ap (λ (acts : List ActContent). acts ++ deliveries sides.A settled.b (shown.b - settled.b)) (no_delivery sides.B settled.a shown.a a)
    ∙ one_delivery sides.A settled.b shown.b b

to_b : (options : Both Options) (settled : Both ℕ) (earlier : List PerformedAct) (v w : View) (x : List ℕ) (turns : List Transition) → At options earlier v w → Keep options v w
    → Under settled sides.A v w x → SocketRun options (record { act = step_act (delivery_step sides.B (suc settled.a)); turns = turns } ∷ earlier)
    → Handed sides.A options (record { act = step_act (delivery_step sides.B (suc settled.a)); turns = turns } ∷ earlier) v w x
to_b options settled earlier v w x turns at keep h runs =
    record {
      turns = turns;
      input = given settled sides.A v w x settled.a turns h refl
          (subst (λ (y : View). DeliveryTurns w.endpoint (packet_at_number (suc settled.a) y.shown) turns) at.a
          (subst (λ (y : View). DeliveryTurns y.endpoint (packet_at_number (suc settled.a) (view options.a (turns_after earlier).a).shown) turns) at.b runs.0));
      at = record { a = at.a; b = viewed_then options.b (turns_after earlier).b turns w at.b keep.b };
    }

to_a : (options : Both Options) (settled : Both ℕ) (earlier : List PerformedAct) (v w : View) (x : List ℕ) (turns : List Transition) → At options earlier w v → Keep options w v
    → Under settled sides.B v w x → SocketRun options (record { act = step_act (delivery_step sides.A (suc settled.b)); turns = turns } ∷ earlier)
    → Handed sides.B options (record { act = step_act (delivery_step sides.A (suc settled.b)); turns = turns } ∷ earlier) v w x
to_a options settled earlier v w x turns at keep h runs =
    record {
      turns = turns;
      input = given settled sides.B v w x settled.b turns h refl
          (subst (λ (y : View). DeliveryTurns w.endpoint (packet_at_number (suc settled.b) y.shown) turns) at.b
          (subst (λ (y : View). DeliveryTurns y.endpoint (packet_at_number (suc settled.b) (view options.b (turns_after earlier).b).shown) turns) at.a runs.0));
      at = record { a = viewed_then options.a (turns_after earlier).a turns w at.a keep.a; b = at.b };
    }

pub handed : (side : Side) (options : Both Options) (settled : Both ℕ) (earlier run : List PerformedAct) (v w : View) (x : List ℕ) → AtOf side options earlier v w → KeepOf side options v w
    → Under settled side v w x → ActsFollow earlier (exchange options (turns_after earlier) settled) run → SocketRun options run → Handed side options run v w x
handed sides.A options settled earlier run v w x at keep h follows runs =
    let d : Done earlier (step_act (delivery_step sides.B (suc settled.a))) run = follows_one earlier _ run _ follows (acts_to_b options settled earlier v w x at h) in
    subst (λ (r : List PerformedAct). Handed sides.A options r v w x) (sym d.is) (to_b options settled earlier v w x d.turns at keep h (subst (SocketRun options) d.is runs))
handed sides.B options settled earlier run v w x at keep h follows runs =
    let d : Done earlier (step_act (delivery_step sides.A (suc settled.b))) run = follows_one earlier _ run _ follows (acts_to_a options settled earlier v w x at h) in
    subst (λ (r : List PerformedAct). Handed sides.B options r v w x) (sym d.is) (to_a options settled earlier v w x d.turns at keep h (subst (SocketRun options) d.is runs))

-- ---- the way back

-- The other has a packet under way, and this side none.
pub record UnderBack (settled : Both ℕ) (side : Side) (v w : View) (x : List ℕ) : Type 0 where
  pub before : List (List ℕ)
  pub shown : w.shown ≡ before ++ x ∷ []
  pub others : of_other side settled ≡ length before
  pub mine : of_side side settled ≡ length v.shown

-- The packet was handed to this side, and nothing else.
pub record HandedBack (side : Side) (options : Both Options) (run : List PerformedAct) (v w : View) (x : List ℕ) : Type 0 where
  pub turns : List Transition
  pub input : HandleInput v.endpoint x turns
  pub at : AtOf side options run (view_then v turns) w

pub handed_back : (side : Side) (options : Both Options) (settled : Both ℕ) (earlier run : List PerformedAct) (v w : View) (x : List ℕ) → AtOf side options earlier v w → KeepOf side options v w
    → UnderBack settled side v w x → ActsFollow earlier (exchange options (turns_after earlier) settled) run → SocketRun options run → HandedBack side options run v w x
handed_back sides.A options settled earlier run v w x at keep h follows runs =
    let under : Under settled sides.B w v x = record { before = h.before; shown = h.shown; mine = h.others; others = h.mine } in
    let back : Handed sides.B options run w v x = handed sides.B options settled earlier run w v x at keep under follows runs in
    record { turns = back.turns; input = back.input; at = back.at }
handed_back sides.B options settled earlier run v w x at keep h follows runs =
    let under : Under settled sides.A w v x = record { before = h.before; shown = h.shown; mine = h.others; others = h.mine } in
    let back : Handed sides.A options run w v x = handed sides.A options settled earlier run w v x at keep under follows runs in
    record { turns = back.turns; input = back.input; at = back.at }

-- ---- both sides

-- What is settled: these counts of this side and of the other.
pub record Settles (settled : Both ℕ) (side : Side) (m n : ℕ) : Type 0 where
  pub mine : of_side side settled ≡ m
  pub others : of_other side settled ≡ n

pub settles : (side : Side) (options : Both Options) (run : List PerformedAct) (v w : View) → AtOf side options run v w → Settles (counts_shown options (turns_after run)) side (length v.shown) (length w.shown)
settles sides.A options run v w at = record { mine = ap (λ (y : View). length y.shown) at.a; others = ap (λ (y : View). length y.shown) at.b }
settles sides.B options run v w at = record { mine = ap (λ (y : View). length y.shown) at.b; others = ap (λ (y : View). length y.shown) at.a }

pub keep_same : (side : Side) (options : Both Options) (v w x y : View) → x.endpoint.options ≡ v.endpoint.options → y.endpoint.options ≡ w.endpoint.options → KeepOf side options v w → KeepOf side options x y
keep_same sides.A options v w x y here there keep = record { a = here ∙ keep.a; b = there ∙ keep.b }
keep_same sides.B options v w x y here there keep = record { a = there ∙ keep.a; b = here ∙ keep.b }

-- ---- no packet

no_acts : (more earlier : List PerformedAct) → acts_of more ≡ [] → more ++ earlier ≡ earlier
no_acts [] earlier none = refl
no_acts (worked ∷ more) earlier none = absurd (cc)

pub none_follow : (earlier : List PerformedAct) (acts : List ActContent) (run : List PerformedAct) → ActsFollow earlier acts run → acts ≡ [] → run ≡ earlier
none_follow earlier acts run h none = h.is ∙ no_acts h.more earlier (h.are ∙ ap (λ (l : List ActContent). reverse l) none)

nothing : (options : Both Options) (settled : Both ℕ) (earlier : List PerformedAct) → (counts_shown options (turns_after earlier)).a ≡ settled.a → (counts_shown options (turns_after earlier)).b ≡ settled.b
    → exchange options (turns_after earlier) settled ≡ []
nothing options settled earlier a b =
    let shown : Both ℕ = counts_shown options (turns_after earlier) in
    ap (λ (acts : List ActContent). acts ++ deliveries sides.A settled.b (shown.b - settled.b)) (no_delivery sides.B settled.a shown.a a)
    ∙ no_delivery sides.A settled.b shown.b b

-- All was settled, so nothing is handed over.
pub handed_none : (side : Side) (options : Both Options) (settled : Both ℕ) (earlier run : List PerformedAct) (v w : View) → AtOf side options earlier v w
    → Settles settled side (length v.shown) (length w.shown) → ActsFollow earlier (exchange options (turns_after earlier) settled) run → run ≡ earlier
handed_none sides.A options settled earlier run v w at counts follows =
    none_follow earlier _ run follows
    (nothing options settled earlier (ap (λ (y : View). length y.shown) at.a ∙ sym counts.mine) (ap (λ (y : View). length y.shown) at.b ∙ sym counts.others))
handed_none sides.B options settled earlier run v w at counts follows =
    none_follow earlier _ run follows
    (nothing options settled earlier (ap (λ (y : View). length y.shown) at.a ∙ sym counts.others) (ap (λ (y : View). length y.shown) at.b ∙ sym counts.mine))
