-- An exchange in which one side has any number of packets under way, and the other none.
use Rattle.std.specs.Prelude.{reverse}
use Rattle.std.proofs.lemmas.List.{append-nil, reverse-append, length-append}
use Rattle.std.proofs.Common.{◌≡◌, ℕ, suc, ◌+◌, ◌-◌, Option, Some, List, [], ◌∷◌, ◌++◌, length, refl, sym, subst, ap, ◌∙◌, append_assoc, arith}
use Rattle.dcsctp_spec_lemmas.specs.types.declared.options.Options.{Options}
use Rattle.dcsctp_spec_lemmas.specs.types.declared.schedule.Side.{Side}
use Rattle.dcsctp_spec_lemmas.specs.types.declared.schedule.Side.TheVariants as sides
use Rattle.dcsctp_spec_lemmas.specs.types.Schedule.{delivery_step, ActContent, step_act}
use Rattle.dcsctp_spec_lemmas.specs.spec.endpoint.CallTurns.{Transition, HandleInput}
use Rattle.dcsctp_spec_runs.specs.Sockets.{PerformedAct, Both, of_side, of_other, packets_shown, packet_at_number, turns_after, DeliveryTurns, SocketRun, acts_of}
use Rattle.dcsctp_theorem_sockets.specs.Handshake.{other_side}
use Rattle.dcsctp_theorem_progress.specs.Rounds.{counts_shown, ActsFollow, deliveries, exchange}
use Rattle.dcsctp_theorem_progress.proofs.Handed.{one_more, no_delivery, none_follow}
use Rattle.dcsctp_theorem_progress.proofs.Views.{View, view, view_then, viewed_then, AtOf, ran}

-- ---- acts one by one

-- The first of the acts was done, and then the others.
pub record FirstDone (earlier : List PerformedAct) (act : ActContent) (acts : List ActContent) (run : List PerformedAct) : Type 0 where
  pub turns : List Transition
  pub follow : ActsFollow (record { act = act; turns = turns } ∷ earlier) acts run

-- The last act of these is this one.
record LastIs (more : List PerformedAct) (act : ActContent) (acts : List ActContent) : Type 0 where
  newer : List PerformedAct
  turns : List Transition
  is : more ≡ newer ++ record { act = act; turns = turns } ∷ []
  are : acts_of newer ≡ acts

first_is : (x y : ActContent) (xs ys : List ActContent) → x ∷ xs ≡ y ∷ ys → x ≡ y
first_is x y xs ys same = cc

rest_is : (x y : ActContent) (xs ys : List ActContent) → x ∷ xs ≡ y ∷ ys → xs ≡ ys
rest_is x y xs ys same = cc

last_is : (more : List PerformedAct) (acts : List ActContent) (act : ActContent) → acts_of more ≡ acts ++ act ∷ [] → LastIs more act acts
last_is [] [] act same = absurd (cc)
last_is [] (x ∷ acts) act same = absurd (cc)
last_is (w ∷ []) [] act same = record { newer = []; turns = w.turns; is = ap (λ (x : ActContent). record { act = x; turns = w.turns } ∷ []) (first_is _ _ _ _ same); are = refl }
last_is (w ∷ u ∷ more) [] act same = absurd (cc)
last_is (w ∷ more) (x ∷ acts) act same =
    let h : LastIs more act acts = last_is more acts act (rest_is _ _ _ _ same) in
    record {
      newer = w ∷ h.newer;
      turns = h.turns;
      is = ap (λ (ws : List PerformedAct). w ∷ ws) h.is;
      are = ap (λ (ys : List ActContent). w.act ∷ ys) h.are ∙ ap (λ (y : ActContent). y ∷ acts) (first_is _ _ _ _ same);
    }

pub first_done : (earlier : List PerformedAct) (act : ActContent) (acts : List ActContent) (run : List PerformedAct) → ActsFollow earlier (act ∷ acts) run → FirstDone earlier act acts run
first_done earlier act acts run h =
    let l : LastIs h.more act (reverse acts) = last_is h.more (reverse acts) act (h.are ∙ reverse-append (act ∷ []) acts) in
    let done : PerformedAct = record { act = act; turns = l.turns } in
    record {
      turns = l.turns;
      follow = record { more = l.newer; is = h.is ∙ ap (λ (ws : List PerformedAct). ws ++ earlier) l.is ∙ append_assoc l.newer (done ∷ []) earlier; are = l.are };
    }

-- ---- a packet among others

pub found : (before : List (List ℕ)) (x : List ℕ) (after : List (List ℕ)) → packet_at_number (suc (length before)) (before ++ x ∷ after) ≡ Some x
found [] x after = refl
found (y ∷ before) x after = found before x after

abbrev pub to_other : Side → ℕ → ActContent
to_other side number = step_act (delivery_step (other_side side) number)

abbrev pub then_done : Side → ℕ → List Transition → List PerformedAct → List PerformedAct
then_done side number turns earlier = record { act = to_other side number; turns = turns } ∷ earlier

-- The packet of this number is handed to the other.
pub record OneHanded (side : Side) (options : Both Options) (run : List PerformedAct) (v w : View) (x : List ℕ) (turns : List Transition) : Type 0 where
  pub input : HandleInput w.endpoint x turns
  pub at : AtOf side options run v (view_then w turns)

pub one_handed : (side : Side) (options : Both Options) (earlier : List PerformedAct) (v w : View) (x : List ℕ) (number : ℕ) (turns : List Transition) → AtOf side options earlier v w
    → w.endpoint.options ≡ of_other side options → packet_at_number number v.shown ≡ Some x → SocketRun options (then_done side number turns earlier)
    → OneHanded side options (then_done side number turns earlier) v w x turns
one_handed sides.A options earlier v w x number turns at keep is runs =
    record {
      input = subst (λ (p : Option (List ℕ)). DeliveryTurns w.endpoint p turns) is
          (subst (λ (y : View). DeliveryTurns w.endpoint (packet_at_number number y.shown) turns) at.a
          (subst (λ (y : View). DeliveryTurns y.endpoint (packet_at_number number (view options.a (turns_after earlier).a).shown) turns) at.b runs.0));
      at = record { a = at.a; b = viewed_then options.b (turns_after earlier).b turns w at.b keep };
    }
one_handed sides.B options earlier v w x number turns at keep is runs =
    record {
      input = subst (λ (p : Option (List ℕ)). DeliveryTurns w.endpoint p turns) is
          (subst (λ (y : View). DeliveryTurns w.endpoint (packet_at_number number y.shown) turns) at.b
          (subst (λ (y : View). DeliveryTurns y.endpoint (packet_at_number number (view options.b (turns_after earlier).b).shown) turns) at.a runs.0));
      at = record { a = viewed_then options.a (turns_after earlier).a turns w at.a keep; b = at.b };
    }

-- ---- all packets

-- What holds of the other, with these packets to come: its options stay, and it holds after the next.
pub record HoldsAlong (options : Options) (Holds : List (List ℕ) → View → Type 0) : Type 0 where
  pub keeps : (xs : List (List ℕ)) (w : View) → Holds xs w → w.endpoint.options ≡ options
  pub step : (x : List ℕ) (xs : List (List ℕ)) (w : View) (turns : List Transition) → Holds (x ∷ xs) w → HandleInput w.endpoint x turns → Holds xs (view_then w turns)

-- All are handed over, and what holds after each holds in the end. Then these acts follow.
pub record FirstHanded (side : Side) (options : Both Options) (earlier run : List PerformedAct) (v w : View) (after : List ActContent) (Holds : List (List ℕ) → View → Type 0) : Type 0 where
  pub between : List PerformedAct
  pub last : View
  pub holds : Holds [] last
  pub at : AtOf side options between v last
  pub more : List (List ℕ)
  pub grows : last.shown ≡ w.shown ++ more
  pub follow : ActsFollow between after run

pub hand_first : (xs : List (List ℕ)) (side : Side) (options : Both Options) (Holds : List (List ℕ) → View → Type 0) (earlier run : List PerformedAct) (v w : View) (before later : List (List ℕ)) (after : List ActContent)
    → HoldsAlong (of_other side options) Holds → AtOf side options earlier v w → v.shown ≡ before ++ (xs ++ later) → Holds xs w
    → ActsFollow earlier (deliveries (other_side side) (length before) (length xs) ++ after) run → SocketRun options run → FirstHanded side options earlier run v w after Holds
hand_first [] side options Holds earlier run v w before later after along at shown holds follows runs =
    record { between = earlier; last = w; holds = holds; at = at; more = []; grows = sym (append-nil w.shown); follow = follows }
hand_first (x ∷ xs) side options Holds earlier run v w before later after along at shown holds follows runs =
    let number : ℕ = suc (length before) in
    let acts : List ActContent = deliveries (other_side side) number (length xs) ++ after in
    let d : FirstDone earlier (to_other side number) acts run = first_done earlier (to_other side number) acts run follows in
    let between : List PerformedAct = then_done side number d.turns earlier in
    let h : OneHanded side options between v w x d.turns =
    one_handed side options earlier v w x number d.turns at (along.keeps (x ∷ xs) w holds) (ap (packet_at_number number) shown ∙ found before x (xs ++ later)) (ran options between _ run d.follow runs) in
    let next : View = view_then w d.turns in
    let rest : FirstHanded side options between run v next after Holds =
    hand_first xs side options Holds between run v next (before ++ x ∷ []) later after along h.at (shown ∙ sym (append_assoc before (x ∷ []) (xs ++ later))) (along.step x xs w d.turns holds h.input)
    (subst (λ (n : ℕ). ActsFollow between (deliveries (other_side side) n (length xs) ++ after) run) (sym (one_more before x)) d.follow) runs in
    record {
      between = rest.between;
      last = rest.last;
      holds = rest.holds;
      at = rest.at;
      more = packets_shown w.endpoint.options d.turns ++ rest.more;
      grows = rest.grows ∙ append_assoc w.shown (packets_shown w.endpoint.options d.turns) rest.more;
      follow = rest.follow;
    }

-- All are handed over, and nothing else.
pub record AllHanded (side : Side) (options : Both Options) (run : List PerformedAct) (v : View) (Holds : List (List ℕ) → View → Type 0) : Type 0 where
  pub last : View
  pub holds : Holds [] last
  pub at : AtOf side options run v last

hand_all : (xs : List (List ℕ)) (side : Side) (options : Both Options) (Holds : List (List ℕ) → View → Type 0) (earlier run : List PerformedAct) (v w : View) (before : List (List ℕ))
    → HoldsAlong (of_other side options) Holds → AtOf side options earlier v w → v.shown ≡ before ++ xs → Holds xs w
    → ActsFollow earlier (deliveries (other_side side) (length before) (length xs)) run → SocketRun options run → AllHanded side options run v Holds
hand_all xs side options Holds earlier run v w before along at shown holds follows runs =
    let h : FirstHanded side options earlier run v w [] Holds =
    hand_first xs side options Holds earlier run v w before [] [] along at (shown ∙ ap (λ (ys : List (List ℕ)). before ++ ys) (sym (append-nil xs))) holds
    (subst (λ (acts : List ActContent). ActsFollow earlier acts run) (sym (append-nil (deliveries (other_side side) (length before) (length xs)))) follows) runs in
    record { last = h.last; holds = h.holds; at = subst (λ (r : List PerformedAct). AtOf side options r v h.last) (sym (none_follow h.between [] run h.follow refl)) h.at }

-- This side has these packets under way, and the other none.
pub record UnderAll (settled : Both ℕ) (side : Side) (v w : View) (xs : List (List ℕ)) : Type 0 where
  pub before : List (List ℕ)
  pub shown : v.shown ≡ before ++ xs
  pub mine : of_side side settled ≡ length before
  pub others : of_other side settled ≡ length w.shown

less_first : (n m k : ℕ) → k ≡ n + m → k - n ≡ m
less_first n m k is = omega (arith, is)

pub so_many : (before xs : List (List ℕ)) → length (before ++ xs) - length before ≡ length xs
so_many before xs = less_first (length before) (length xs) (length (before ++ xs)) (length-append before xs)

pub many : (side : Side) (settled : ℕ) (before xs : List (List ℕ)) (shown : List (List ℕ)) → shown ≡ before ++ xs → settled ≡ length before
    → deliveries side settled (length shown - settled) ≡ deliveries side (length before) (length xs)
many side settled before xs shown is at =
    ap (λ (n : ℕ). deliveries side n (length shown - n)) at ∙ ap (λ (l : List (List ℕ)). deliveries side (length before) (length l - length before)) is ∙ ap (deliveries side (length before)) (so_many before xs)

acts_are : (side : Side) (options : Both Options) (settled : Both ℕ) (earlier : List PerformedAct) (v w : View) (xs : List (List ℕ)) → AtOf side options earlier v w → (h : UnderAll settled side v w xs)
    → exchange options (turns_after earlier) settled ≡ deliveries (other_side side) (length h.before) (length xs)
acts_are sides.A options settled earlier v w xs at h =
    let shown : Both ℕ = counts_shown options (turns_after earlier) in
    ap (λ (acts : List ActContent). acts ++ deliveries sides.A settled.b (shown.b - settled.b)) (many sides.B settled.a h.before xs _ (ap (λ (y : View). y.shown) at.a ∙ h.shown) h.mine)
    ∙ ap (λ (acts : List ActContent). deliveries sides.B (length h.before) (length xs) ++ acts) (no_delivery sides.A settled.b shown.b (ap (λ (y : View). length y.shown) at.b ∙ sym h.others))
    ∙ append-nil (deliveries sides.B (length h.before) (length xs))
acts_are sides.B options settled earlier v w xs at h =
    let shown : Both ℕ = counts_shown options (turns_after earlier) in
    ap (λ (acts : List ActContent). acts ++ deliveries sides.A settled.b (shown.b - settled.b)) (no_delivery sides.B settled.a shown.a (ap (λ (y : View). length y.shown) at.a ∙ sym h.others))
    ∙ many sides.A settled.b h.before xs _ (ap (λ (y : View). y.shown) at.b ∙ h.shown) h.mine

pub all_handed : (side : Side) (options : Both Options) (settled : Both ℕ) (Holds : List (List ℕ) → View → Type 0) (earlier run : List PerformedAct) (v w : View) (xs : List (List ℕ))
    → HoldsAlong (of_other side options) Holds → AtOf side options earlier v w → UnderAll settled side v w xs → Holds xs w
    → ActsFollow earlier (exchange options (turns_after earlier) settled) run → SocketRun options run → AllHanded side options run v Holds
all_handed side options settled Holds earlier run v w xs along at h holds follows runs =
    hand_all xs side options Holds earlier run v w h.before along at h.shown holds
    (subst (λ (acts : List ActContent). ActsFollow earlier acts run) (acts_are side options settled earlier v w xs at h) follows) runs

-- ---- the way back

-- The other has these packets under way, and this side none.
pub record UnderAllBack (settled : Both ℕ) (side : Side) (v w : View) (xs : List (List ℕ)) : Type 0 where
  pub before : List (List ℕ)
  pub shown : w.shown ≡ before ++ xs
  pub others : of_other side settled ≡ length before
  pub mine : of_side side settled ≡ length v.shown

-- All are handed to this side.
pub record AllHandedBack (side : Side) (options : Both Options) (run : List PerformedAct) (w : View) (Holds : List (List ℕ) → View → Type 0) : Type 0 where
  pub last : View
  pub holds : Holds [] last
  pub at : AtOf side options run last w

pub all_back : (side : Side) (options : Both Options) (settled : Both ℕ) (Holds : List (List ℕ) → View → Type 0) (earlier run : List PerformedAct) (v w : View) (xs : List (List ℕ))
    → HoldsAlong (of_side side options) Holds → AtOf side options earlier v w → UnderAllBack settled side v w xs → Holds xs v
    → ActsFollow earlier (exchange options (turns_after earlier) settled) run → SocketRun options run → AllHandedBack side options run w Holds
all_back sides.A options settled Holds earlier run v w xs along at h holds follows runs =
    let back : AllHanded sides.B options run w Holds =
    all_handed sides.B options settled Holds earlier run w v xs along at (record { before = h.before; shown = h.shown; mine = h.others; others = h.mine }) holds follows runs in
    record { last = back.last; holds = back.holds; at = back.at }
all_back sides.B options settled Holds earlier run v w xs along at h holds follows runs =
    let back : AllHanded sides.A options run w Holds =
    all_handed sides.A options settled Holds earlier run w v xs along at (record { before = h.before; shown = h.shown; mine = h.others; others = h.mine }) holds follows runs in
    record { last = back.last; holds = back.holds; at = back.at }
