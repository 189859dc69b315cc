-- A lossy exchange in which one side has a packet under way: it is delivered, or lost.
use Rattle.std.proofs.Common.{◌≡◌, ℕ, zero, suc, ◌-◌, Bool, true, false, List, [], ◌∷◌, ◌++◌, length, refl, sym, subst, ap, ◌∙◌, arith}
use Rattle.dcsctp_spec_lemmas.specs.types.declared.options.Options.{Options}
use Rattle.dcsctp_spec_lemmas.specs.types.declared.schedule.Side.{Side}
use Rattle.dcsctp_spec_lemmas.specs.types.declared.schedule.Side.TheVariants as sides
use Rattle.dcsctp_spec_lemmas.specs.types.Schedule.{ActContent}
use Rattle.dcsctp_spec_runs.specs.Sockets.{PerformedAct, Both, turns_after, SocketRun}
use Rattle.dcsctp_theorem_progress.specs.LossyRounds.{chosen_deliveries, LossyExchange, LossyExchanges}
use Rattle.dcsctp_theorem_progress.specs.Rounds.{counts_shown, ActsFollow}
use Rattle.dcsctp_theorem_progress.proofs.Handed.{Under, Handed, handed, mine_more, UnderBack, HandedBack, Settles, settles, none_follow, acts_to_a, acts_to_b}
use Rattle.dcsctp_theorem_progress.proofs.Views.{AtOf, KeepOf, View, ran}

-- ---- what is chosen

no_choice : (n : ℕ) (chosen : List Bool) → length chosen ≡ n → n ≡ 0 → chosen ≡ []
no_choice n [] is none = refl
no_choice n (b ∷ chosen) is none = absurd (omega (arith, is, none))

-- One packet: it comes, or doesn't.
data OneChoice (chosen : List Bool) : Type 0 where
  comes : chosen ≡ true ∷ [] → OneChoice chosen
  stays_away : chosen ≡ false ∷ [] → OneChoice chosen

one_choice : (n : ℕ) (chosen : List Bool) → length chosen ≡ n → n ≡ 1 → OneChoice chosen
one_choice n [] is one = absurd (omega (arith, is, one))
one_choice n (true ∷ []) is one = comes refl
one_choice n (false ∷ []) is one = stays_away refl
one_choice n (b ∷ c ∷ chosen) is one = absurd (omega (arith, is, one))

one_more_shown : (shown settled : ℕ) → shown ≡ suc settled → shown - settled ≡ 1
one_more_shown shown settled is = omega (arith, is)

none_shown : (shown settled : ℕ) → shown ≡ settled → shown - settled ≡ 0
none_shown shown settled is = omega (arith, is)

-- ---- one packet under way

pub data HandedOrLost (side : Side) (options : Both Options) (earlier run : List PerformedAct) (v w : View) (x : List ℕ) : Type 0 where
  given : Handed side options run v w x → HandedOrLost side options earlier run v w x
  lost : run ≡ earlier → HandedOrLost side options earlier run v w x

-- These acts follow, by another name.
followed : (earlier run : List PerformedAct) (acts others : List ActContent) → acts ≡ others → ActsFollow earlier acts run → ActsFollow earlier others run
followed earlier run acts others same h = subst (λ (l : List ActContent). ActsFollow earlier l run) same h

acts_by : (settled : Both ℕ) (to_b to_a xs ys : List Bool) → to_b ≡ xs → to_a ≡ ys
    → chosen_deliveries sides.B settled.a to_b ++ chosen_deliveries sides.A settled.b to_a ≡ chosen_deliveries sides.B settled.a xs ++ chosen_deliveries sides.A settled.b ys
acts_by settled to_b to_a xs ys b a =
    ap (λ (l : List Bool). chosen_deliveries sides.B settled.a l ++ chosen_deliveries sides.A settled.b to_a) b
    ∙ ap (λ (l : List Bool). chosen_deliveries sides.B settled.a xs ++ chosen_deliveries sides.A settled.b l) a

by_choice_b : (options : Both Options) (settled : Both ℕ) (earlier run : List PerformedAct) (v w : View) (x : List ℕ) → AtOf sides.A options earlier v w → KeepOf sides.A options v w → Under settled sides.A v w x
    → (h : LossyExchange options settled earlier run) → h.to_a ≡ [] → OneChoice h.to_b → SocketRun options run → HandedOrLost sides.A options earlier run v w x
by_choice_b options settled earlier run v w x at keep under h none (comes is) runs =
    given (handed sides.A options settled earlier run v w x at keep under
    (followed earlier run _ _ (acts_by settled h.to_b h.to_a _ _ is none ∙ sym (acts_to_b options settled earlier v w x at under)) h.follow) runs)
by_choice_b options settled earlier run v w x at keep under h none (stays_away is) runs = lost (none_follow earlier _ run h.follow (acts_by settled h.to_b h.to_a _ _ is none))

by_choice_a : (options : Both Options) (settled : Both ℕ) (earlier run : List PerformedAct) (v w : View) (x : List ℕ) → AtOf sides.B options earlier v w → KeepOf sides.B options v w → Under settled sides.B v w x
    → (h : LossyExchange options settled earlier run) → h.to_b ≡ [] → OneChoice h.to_a → SocketRun options run → HandedOrLost sides.B options earlier run v w x
by_choice_a options settled earlier run v w x at keep under h none (comes is) runs =
    given (handed sides.B options settled earlier run v w x at keep under
    (followed earlier run _ _ (acts_by settled h.to_b h.to_a _ _ none is ∙ sym (acts_to_a options settled earlier v w x at under)) h.follow) runs)
by_choice_a options settled earlier run v w x at keep under h none (stays_away is) runs = lost (none_follow earlier _ run h.follow (acts_by settled h.to_b h.to_a _ _ none is))

pub maybe_handed : (side : Side) (options : Both Options) (settled : Both ℕ) (earlier run : List PerformedAct) (v w : View) (x : List ℕ) → AtOf side options earlier v w → KeepOf side options v w
    → Under settled side v w x → LossyExchange options settled earlier run → SocketRun options run → HandedOrLost side options earlier run v w x
maybe_handed sides.A options settled earlier run v w x at keep under h runs =
    let shown : Both ℕ = counts_shown options (turns_after earlier) in
    let a : shown.a ≡ suc settled.a = ap (λ (y : View). length y.shown) at.a ∙ mine_more settled sides.A v w x under in
    let b : shown.b ≡ settled.b = ap (λ (y : View). length y.shown) at.b ∙ sym under.others in
    by_choice_b options settled earlier run v w x at keep under h (no_choice _ h.to_a h.all_to_a (none_shown shown.b settled.b b))
    (one_choice _ h.to_b h.all_to_b (one_more_shown shown.a settled.a a)) runs
maybe_handed sides.B options settled earlier run v w x at keep under h runs =
    let shown : Both ℕ = counts_shown options (turns_after earlier) in
    let b : shown.b ≡ suc settled.b = ap (λ (y : View). length y.shown) at.b ∙ mine_more settled sides.B v w x under in
    let a : shown.a ≡ settled.a = ap (λ (y : View). length y.shown) at.a ∙ sym under.others in
    by_choice_a options settled earlier run v w x at keep under h (no_choice _ h.to_b h.all_to_b (none_shown shown.a settled.a a))
    (one_choice _ h.to_a h.all_to_a (one_more_shown shown.b settled.b b)) runs

-- ---- the way back

pub data BackOrLost (side : Side) (options : Both Options) (earlier run : List PerformedAct) (v w : View) (x : List ℕ) : Type 0 where
  given_back : HandedBack side options run v w x → BackOrLost side options earlier run v w x
  lost_back : run ≡ earlier → BackOrLost side options earlier run v w x

back_a : (options : Both Options) (earlier run : List PerformedAct) (v w : View) (x : List ℕ) → HandedOrLost sides.B options earlier run w v x → BackOrLost sides.A options earlier run v w x
back_a options earlier run v w x (given h) = given_back (record { turns = h.turns; input = h.input; at = h.at })
back_a options earlier run v w x (lost is) = lost_back is

back_b : (options : Both Options) (earlier run : List PerformedAct) (v w : View) (x : List ℕ) → HandedOrLost sides.A options earlier run w v x → BackOrLost sides.B options earlier run v w x
back_b options earlier run v w x (given h) = given_back (record { turns = h.turns; input = h.input; at = h.at })
back_b options earlier run v w x (lost is) = lost_back is

pub maybe_back : (side : Side) (options : Both Options) (settled : Both ℕ) (earlier run : List PerformedAct) (v w : View) (x : List ℕ) → AtOf side options earlier v w → KeepOf side options v w
    → UnderBack settled side v w x → LossyExchange options settled earlier run → SocketRun options run → BackOrLost side options earlier run v w x
maybe_back sides.A options settled earlier run v w x at keep h lossy runs =
    back_a options earlier run v w x
    (maybe_handed sides.B options settled earlier run w v x at keep (record { before = h.before; shown = h.shown; mine = h.others; others = h.mine }) lossy runs)
maybe_back sides.B options settled earlier run v w x at keep h lossy runs =
    back_b options earlier run v w x
    (maybe_handed sides.A options settled earlier run w v x at keep (record { before = h.before; shown = h.shown; mine = h.others; others = h.mine }) lossy runs)

-- ---- no packet

none_by : (options : Both Options) (settled : Both ℕ) (earlier run : List PerformedAct) → (counts_shown options (turns_after earlier)).a ≡ settled.a
    → (counts_shown options (turns_after earlier)).b ≡ settled.b → LossyExchange options settled earlier run → run ≡ earlier
none_by options settled earlier run a b h =
    none_follow earlier _ run h.follow
    (acts_by settled h.to_b h.to_a [] [] (no_choice _ h.to_b h.all_to_b (none_shown _ settled.a a)) (no_choice _ h.to_a h.all_to_a (none_shown _ settled.b b)))

none_lossy : (side : Side) (options : Both Options) (settled : Both ℕ) (earlier run : List PerformedAct) (v w : View) → AtOf side options earlier v w → Settles settled side (length v.shown) (length w.shown)
    → LossyExchange options settled earlier run → run ≡ earlier
none_lossy sides.A options settled earlier run v w at counts h =
    none_by options settled earlier run (ap (λ (y : View). length y.shown) at.a ∙ sym counts.mine) (ap (λ (y : View). length y.shown) at.b ∙ sym counts.others) h
none_lossy sides.B options settled earlier run v w at counts h =
    none_by options settled earlier run (ap (λ (y : View). length y.shown) at.a ∙ sym counts.others) (ap (λ (y : View). length y.shown) at.b ∙ sym counts.mine) h

-- All was settled, so nothing comes any more.
pub lossy_rest : (n : ℕ) (side : Side) (options : Both Options) (settled settled' : Both ℕ) (earlier run : List PerformedAct) (v w : View) → AtOf side options earlier v w
    → Settles settled side (length v.shown) (length w.shown) → LossyExchanges options n settled earlier settled' run → run ≡ earlier
lossy_rest zero side options settled settled' earlier run v w at counts rest = rest.1
lossy_rest (suc n) side options settled settled' earlier run v w at counts rest =
    let one : rest.0 ≡ earlier = none_lossy side options settled earlier rest.0 v w at counts rest.1 in
    let there : AtOf side options rest.0 v w = subst (λ (r : List PerformedAct). AtOf side options r v w) (sym one) at in
    lossy_rest n side options (counts_shown options (turns_after earlier)) settled' rest.0 run v w there (settles side options earlier v w at) rest.2 ∙ one

-- The packet under way was lost, and with it all that would have followed.
pub lossy_end : (n : ℕ) (side : Side) (options : Both Options) (settled settled' : Both ℕ) (earlier between run : List PerformedAct) (v w : View) → AtOf side options earlier v w → between ≡ earlier
    → LossyExchanges options n (counts_shown options (turns_after earlier)) between settled' run → run ≡ earlier
lossy_end n side options settled settled' earlier between run v w at same rest =
    lossy_rest n side options (counts_shown options (turns_after earlier)) settled' between run v w (subst (λ (r : List PerformedAct). AtOf side options r v w) (sym same) at)
    (settles side options earlier v w at) rest ∙ same

pub ran_lossy : (options : Both Options) (n : ℕ) (settled settled' : Both ℕ) (earlier run : List PerformedAct) → LossyExchanges options n settled earlier settled' run → SocketRun options run → SocketRun options earlier
ran_lossy options zero settled settled' earlier run h runs = subst (SocketRun options) h.1 runs
ran_lossy options (suc n) settled settled' earlier run h runs = ran options earlier _ h.0 h.1.follow (ran_lossy options n _ settled' h.0 run h.2 runs)
