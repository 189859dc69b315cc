-- A lossy exchange in which both sides have any number of packets under way: of each some come, in order, and the rest is lost.
use Rattle.std.proofs.Common.{◌≡◌, ℕ, suc, ◌-◌, Bool, true, false, List, [], ◌∷◌, ◌++◌, length, refl, sym, subst, ap, ◌∙◌, append_assoc, arith}
use Rattle.std.proofs.lemmas.List.{append-nil}
use Rattle.dcsctp_spec_lemmas.specs.types.declared.options.Options.{Options}
use Rattle.dcsctp_spec_lemmas.specs.types.declared.schedule.Side.{Side}
use Rattle.dcsctp_spec_lemmas.specs.types.declared.schedule.Side.TheVariants as sides
use Rattle.dcsctp_spec_lemmas.specs.types.Schedule.{ActContent}
use Rattle.dcsctp_spec_runs.specs.Sockets.{PerformedAct, Both, of_other, packets_shown, packet_at_number, turns_after, SocketRun}
use Rattle.dcsctp_theorem_sockets.specs.Handshake.{other_side}
use Rattle.dcsctp_theorem_progress.specs.LossyRounds.{chosen_deliveries, LossyExchange}
use Rattle.dcsctp_theorem_progress.specs.Rounds.{counts_shown, ActsFollow}
use Rattle.dcsctp_theorem_progress.proofs.Handed.{one_more, none_follow}
use Rattle.dcsctp_theorem_progress.proofs.HandedAll.{HoldsAlong, FirstDone, first_done, FirstHanded, found, to_other, then_done, OneHanded, one_handed, so_many}
use Rattle.dcsctp_theorem_progress.proofs.HandedBothAll.{BothUnderAll, BothHandedAll}
use Rattle.dcsctp_theorem_progress.proofs.Views.{View, view_then, At, AtOf, ran}

-- What holds of one side, with packets to come, holds after the next one, and where that is lost.
pub record HoldsLossy (options : Options) (Holds : List (List ℕ) → View → Type 0) : Type 0 where
  pub along : HoldsAlong options Holds
  pub loses : (x : List ℕ) (xs : List (List ℕ)) (w : View) → Holds (x ∷ xs) w → Holds xs w

none_left : (n : ℕ) → suc n ≡ 0 → ⊥
none_left n is = absurd (omega (arith, is))

some_left : (n : ℕ) → 0 ≡ suc n → ⊥
some_left n is = absurd (omega (arith, is))

fewer : (n m : ℕ) → suc n ≡ suc m → n ≡ m
fewer n m is = omega (arith, is)

-- Of these packets the chosen ones come.
pub chosen_first : (xs : List (List ℕ)) (chosen : List Bool) (side : Side) (options : Both Options) (Holds : List (List ℕ) → View → Type 0) (earlier run : List PerformedAct) (v w : View) (before later : List (List ℕ)) (after : List ActContent)
    → length chosen ≡ length xs → HoldsLossy (of_other side options) Holds → AtOf side options earlier v w → v.shown ≡ before ++ (xs ++ later) → Holds xs w
    → ActsFollow earlier (chosen_deliveries (other_side side) (length before) chosen ++ after) run → SocketRun options run → FirstHanded side options earlier run v w after Holds
chosen_first [] [] side options Holds earlier run v w before later after many lossy at shown holds follows runs =
    record { between = earlier; last = w; holds = holds; at = at; more = []; grows = sym (append-nil w.shown); follow = follows }
chosen_first [] (b ∷ chosen) side options Holds earlier run v w before later after many lossy at shown holds follows runs = absurd (none_left (length chosen) many)
chosen_first (x ∷ xs) [] side options Holds earlier run v w before later after many lossy at shown holds follows runs = absurd (some_left (length xs) many)
chosen_first (x ∷ xs) (true ∷ chosen) side options Holds earlier run v w before later after many lossy at shown holds follows runs =
    let number : ℕ = suc (length before) in
    let acts : List ActContent = chosen_deliveries (other_side side) number chosen ++ after in
    let d : FirstDone earlier (to_other side number) acts run = first_done earlier (to_other side number) acts run follows in
    let between : List PerformedAct = then_done side number d.turns earlier in
    let h : OneHanded side options between v w x d.turns =
    one_handed side options earlier v w x number d.turns at (lossy.along.keeps (x ∷ xs) w holds) (ap (packet_at_number number) shown ∙ found before x (xs ++ later)) (ran options between _ run d.follow runs) in
    let next : View = view_then w d.turns in
    let rest : FirstHanded side options between run v next after Holds =
    chosen_first xs chosen side options Holds between run v next (before ++ x ∷ []) later after (fewer (length chosen) (length xs) many) lossy h.at
    (shown ∙ sym (append_assoc before (x ∷ []) (xs ++ later))) (lossy.along.step x xs w d.turns holds h.input)
    (subst (λ (n : ℕ). ActsFollow between (chosen_deliveries (other_side side) n chosen ++ after) run) (sym (one_more before x)) d.follow) runs in
    record {
      between = rest.between;
      last = rest.last;
      holds = rest.holds;
      at = rest.at;
      more = packets_shown w.endpoint.options d.turns ++ rest.more;
      grows = rest.grows ∙ append_assoc w.shown (packets_shown w.endpoint.options d.turns) rest.more;
      follow = rest.follow;
    }
chosen_first (x ∷ xs) (false ∷ chosen) side options Holds earlier run v w before later after many lossy at shown holds follows runs =
    chosen_first xs chosen side options Holds earlier run v w (before ++ x ∷ []) later after (fewer (length chosen) (length xs) many) lossy at
    (shown ∙ sym (append_assoc before (x ∷ []) (xs ++ later))) (lossy.loses x xs w holds)
    (subst (λ (n : ℕ). ActsFollow earlier (chosen_deliveries (other_side side) n chosen ++ after) run) (sym (one_more before x)) follows) runs

-- as many as are under way
as_many : (n shown settled : ℕ) (all before xs : List (List ℕ)) → n ≡ shown - settled → shown ≡ length all → settled ≡ length before → all ≡ before ++ xs → n ≡ length xs
as_many n shown settled all before xs is a b same =
    is ∙ ap (λ (m : ℕ). m - settled) a ∙ ap (λ (l : List (List ℕ)). length l - settled) same ∙ ap (λ (m : ℕ). length (before ++ xs) - m) b ∙ so_many before xs

acts_are : (settled : Both ℕ) (to_b to_a : List Bool) (m n : ℕ) → settled.a ≡ m → settled.b ≡ n
    → chosen_deliveries sides.B settled.a to_b ++ chosen_deliveries sides.A settled.b to_a ≡ chosen_deliveries sides.B m to_b ++ chosen_deliveries sides.A n to_a
acts_are settled to_b to_a m n a b =
    ap (λ (k : ℕ). chosen_deliveries sides.B k to_b ++ chosen_deliveries sides.A settled.b to_a) a
    ∙ ap (λ (k : ℕ). chosen_deliveries sides.B m to_b ++ chosen_deliveries sides.A k to_a) b

pub both_lossy : (options : Both Options) (settled : Both ℕ) (HoldsB HoldsA : List (List ℕ) → View → Type 0) (earlier run : List PerformedAct) (v w : View) (xs ys : List (List ℕ))
    → HoldsLossy options.b HoldsB → HoldsLossy options.a HoldsA → At options earlier v w → BothUnderAll settled v w xs ys → HoldsB xs w → HoldsA ys v
    → LossyExchange options settled earlier run → SocketRun options run → BothHandedAll options run HoldsB HoldsA
both_lossy options settled HoldsB HoldsA earlier run v w xs ys lossy_b lossy_a at h holds_b holds_a e runs =
    let acts : List ActContent = chosen_deliveries sides.A (length h.before_b) e.to_a in
    let counts : Both ℕ = counts_shown options (turns_after earlier) in
    let many_b : length e.to_b ≡ length xs = as_many (length e.to_b) counts.a settled.a v.shown h.before_a xs e.all_to_b (ap (λ (y : View). length y.shown) at.a) h.settled_a h.shown_a in
    let many_a : length e.to_a ≡ length ys = as_many (length e.to_a) counts.b settled.b w.shown h.before_b ys e.all_to_a (ap (λ (y : View). length y.shown) at.b) h.settled_b h.shown_b in
    let first : FirstHanded sides.A options earlier run v w acts HoldsB =
    chosen_first xs e.to_b sides.A options HoldsB earlier run v w h.before_a [] acts many_b lossy_b at (h.shown_a ∙ ap (λ (zs : List (List ℕ)). h.before_a ++ zs) (sym (append-nil xs))) holds_b
    (subst (λ (l : List ActContent). ActsFollow earlier l run) (acts_are settled e.to_b e.to_a (length h.before_a) (length h.before_b) h.settled_a h.settled_b) e.follow) runs in
    let second : FirstHanded sides.B options first.between run first.last v [] HoldsA =
    chosen_first ys e.to_a sides.B options HoldsA first.between run first.last v h.before_b first.more [] many_a lossy_a first.at
    (first.grows ∙ ap (λ (zs : List (List ℕ)). zs ++ first.more) h.shown_b ∙ append_assoc h.before_b ys first.more) holds_a
    (subst (λ (l : List ActContent). ActsFollow first.between l run) (sym (append-nil acts)) first.follow) runs in
    record {
      here = second.last;
      there = first.last;
      holds_there = first.holds;
      holds_here = second.holds;
      at = subst (λ (r : List PerformedAct). At options r second.last first.last) (sym (none_follow second.between [] run second.follow refl)) second.at;
    }
