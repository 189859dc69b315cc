-- After rounds whose packets are lost, a quiet one connects two sockets of which one tries.
use Rattle.std.specs.Prelude.{min}
use Rattle.std.specs.Duration.{max_nanos}
use Rattle.std.proofs.Common.{◌≡◌, ◌≤◌, ℕ, zero, suc, List, refl, sym, subst, ap, ◌∙◌, arith}
use Rattle.dcsctp_spec_lemmas.specs.types.declared.association.Pair.{Pair}
use Rattle.dcsctp_spec_lemmas.specs.types.declared.options.Options.{Options}
use Rattle.dcsctp_spec_lemmas.specs.types.declared.schedule.Side.{Side}
use Rattle.dcsctp_spec_lemmas.specs.types.declared.schedule.Side.TheVariants as sides
use Rattle.dcsctp_spec_lemmas.specs.spec.endpoint.Endpoint.{Core}
use Rattle.dcsctp_spec_lemmas.specs.spec.endpoint.CallTurns.{Transition}
use Rattle.dcsctp_spec_lemmas.specs.spec.endpoint.TimeTurns.{AdvanceTurns, next_moment}
use Rattle.dcsctp_spec_runs.specs.Sockets.{PerformedAct, Both, of_side, of_other, turns_after, SocketRun}
use Rattle.dcsctp_theorem_sockets.specs.Agreement.{AreUsable}
use Rattle.dcsctp_theorem_sockets.specs.Handshake.{AreFitting}
use Rattle.dcsctp_theorem_progress.specs.Rounds.{counts_shown, AdvancesBothClocks, LostRounds, QuietRound}
use Rattle.dcsctp_theorem_progress.specs.LostInits.{AwaitsInitAck, AreLinked}
use Rattle.dcsctp_theorem_progress.specs.Retries.{RetriesInit}
use Rattle.dcsctp_theorem_progress.specs.Connecting.{RestsWithoutTag, connections_once_open, HaveConnected}
use Rattle.dcsctp_theorem_sockets.proofs.HandshakeTurns.{HandshakeLaws}
use Rattle.dcsctp_theorem_progress.proofs.Turns.{init_repeated, t1_sends_init}
use Rattle.dcsctp_theorem_progress.proofs.Facts.{Fit}
use Rattle.dcsctp_theorem_progress.proofs.EchoRuns.{fitting}
use Rattle.dcsctp_theorem_progress.proofs.Retries.{never, next_fits, awaits_next, Onward, onward, Resting, resting}
use Rattle.dcsctp_theorem_progress.proofs.Views.{View, view, view_then, AtOf, KeepOf, Moved, lesser, time_moves, ran, ran_exchanges}
use Rattle.dcsctp_theorem_progress.proofs.Handed.{settles, keep_same}
use Rattle.dcsctp_theorem_progress.proofs.Chain.{Ground}
use Rattle.dcsctp_theorem_progress.proofs.Joined.{JoinedBy, Joined}
use Rattle.dcsctp_theorem_progress.proofs.Starts.{closed_connects}

-- ---- either side

abbrev pub lesser_of : Side → View → View → ℕ
lesser_of sides.A v w = lesser v w
lesser_of sides.B v w = lesser w v

-- Both clocks have gone to this moment.
pub record MovedOf (side : Side) (options : Both Options) (run : List PerformedAct) (v w : View) (moment : ℕ) : Type 0 where
  pub mine : List Transition
  pub others : List Transition
  pub mine_turns : AdvanceTurns v.endpoint moment mine
  pub others_turns : AdvanceTurns w.endpoint moment others
  pub at : AtOf side options run (view_then v mine) (view_then w others)

pub moves_of : (side : Side) (options : Both Options) (earlier run : List PerformedAct) (v w : View) → AtOf side options earlier v w → KeepOf side options v w → AdvancesBothClocks options earlier run → SocketRun options run
    → MovedOf side options run v w (lesser_of side v w)
moves_of sides.A options earlier run v w at keep time runs =
    let h : Moved options run v w (lesser v w) = time_moves options earlier run v w at keep time runs in
    record { mine = h.here; others = h.there; mine_turns = h.here_turns; others_turns = h.there_turns; at = h.at }
moves_of sides.B options earlier run v w at keep time runs =
    let h : Moved options run w v (lesser w v) = time_moves options earlier run w v at keep time runs in
    record { mine = h.there; others = h.here; mine_turns = h.there_turns; others_turns = h.here_turns; at = h.at }

pub fit_of : (side : Side) (options : Both Options) (v w : View) → AreUsable options → AreFitting options → KeepOf side options v w → Fit v.endpoint.options w.endpoint.options
fit_of sides.A options v w are fit keep = fitting options v.endpoint w.endpoint are fit (record { same = keep.a }) (record { same = keep.b })
fit_of sides.B options v w are fit keep =
    let h : Fit w.endpoint.options v.endpoint.options = fitting options w.endpoint v.endpoint are fit (record { same = keep.a }) (record { same = keep.b }) in
    record { good_a = h.good_b; good_b = h.good_a; to_b = h.to_a; to_a = h.to_b }

-- ---- the moment

min_left : (n limit : ℕ) → n ≤ limit → min n limit ≡ n
min_left n limit fits = omega (arith, fits)

min_right : (n limit : ℕ) → n ≤ limit → min limit n ≡ n
min_right n limit fits = omega (arith, fits)

-- It is T1's.
pub moment_is : (side : Side) (v w : View) → next_moment v.endpoint ≤ max_nanos → next_moment w.endpoint ≡ max_nanos → lesser_of side v w ≡ next_moment v.endpoint
moment_is sides.A v w fits none = ap (λ (n : ℕ). min (next_moment v.endpoint) n) none ∙ min_left (next_moment v.endpoint) max_nanos fits
moment_is sides.B v w fits none = ap (λ (n : ℕ). min n (next_moment v.endpoint)) none ∙ min_right (next_moment v.endpoint) max_nanos fits

pub moment_by : (side : Side) (v w : View) → next_moment v.endpoint ≤ next_moment w.endpoint → lesser_of side v w ≡ next_moment v.endpoint
moment_by sides.A v w first = min_left (next_moment v.endpoint) (next_moment w.endpoint) first
moment_by sides.B v w first = min_right (next_moment v.endpoint) (next_moment w.endpoint) first

-- ---- rounds

-- This side tries, the other is closed, and each has told that often.
pub record Ready (side : Side) (options : Both Options) (run : List PerformedAct) (p : Pair) (more m n : ℕ) : Type 0 where
  pub v : View
  pub w : View
  pub at : AtOf side options run v w
  pub keep : KeepOf side options v w
  pub tries : RetriesInit v.endpoint p more
  pub rests : RestsWithoutTag w.endpoint
  pub mine : v.told ≡ m
  pub others : w.told ≡ n

lost_round : (side : Side) (options : Both Options) (earlier run : List PerformedAct) (p : Pair) (more m n : ℕ) → AreUsable options → AreFitting options → Ready side options earlier p (suc more) m n
    → AdvancesBothClocks options earlier run → SocketRun options run → Ready side options run p more m n
lost_round side options earlier run p more m n are fit h time runs =
    let good : Fit h.v.endpoint.options h.w.endpoint.options = fit_of side options h.v h.w are fit h.keep in
    let moved : MovedOf side options run h.v h.w (lesser_of side h.v h.w) = moves_of side options earlier run h.v h.w h.at h.keep time runs in
    let next : next_moment h.v.endpoint ≤ max_nanos = next_fits h.v.endpoint p (suc more) h.tries in
    let at_t1 : lesser_of side h.v h.w ≡ next_moment h.v.endpoint = moment_is side h.v h.w next (never h.w.endpoint h.rests.rests.core) in
    let on : Onward h.v p more moved.mine =
    onward h.v p more (lesser_of side h.v h.w) moved.mine good.good_a.allow.mtu (subst (λ (k : ℕ). k ≤ max_nanos) (sym at_t1) next) h.tries moved.mine_turns in
    let still : Resting h.w moved.others = resting h.w (lesser_of side h.v h.w) moved.others h.rests moved.others_turns in
    record {
      v = view_then h.v moved.mine;
      w = view_then h.w moved.others;
      at = moved.at;
      keep = keep_same side options h.v h.w (view_then h.v moved.mine) (view_then h.w moved.others) on.same still.same h.keep;
      tries = on.tries;
      rests = still.rests;
      mine = on.told ∙ h.mine;
      others = still.told ∙ h.others;
    }

pub ran_lost : (options : Both Options) (lost : ℕ) (earlier run : List PerformedAct) → LostRounds options lost earlier run → SocketRun options run → SocketRun options earlier
ran_lost options zero earlier run is runs = subst (SocketRun options) is runs
ran_lost options (suc lost) earlier run h runs = ran options earlier _ h.0 h.1 (ran_lost options lost h.0 run h.2 runs)

lost_rounds : (lost : ℕ) (side : Side) (options : Both Options) (earlier run : List PerformedAct) (p : Pair) (m n : ℕ) → AreUsable options → AreFitting options → Ready side options earlier p (suc lost) m n
    → LostRounds options lost earlier run → SocketRun options run → Ready side options run p 1 m n
lost_rounds zero side options earlier run p m n are fit h is runs = subst (λ (r : List PerformedAct). Ready side options r p 1 m n) (sym is) h
lost_rounds (suc lost) side options earlier run p m n are fit h rounds runs =
    lost_rounds lost side options rounds.0 run p m n are fit (lost_round side options earlier rounds.0 p (suc lost) m n are fit h rounds.1 (ran_lost options lost rounds.0 run rounds.2 runs)) rounds.2 runs

-- ---- the quiet round

-- After a quiet round both are linked, and have told that often.
pub record SettledBy (side : Side) (options : Both Options) (run : List PerformedAct) (m n : ℕ) : Type 0 where
  pub mine : View
  pub others : View
  pub at : AtOf side options run mine others
  pub p : Pair
  pub q : Pair
  pub linked : AreLinked mine.endpoint others.endpoint (of_side side options) (of_other side options) p q
  pub told_mine : mine.told ≡ m
  pub told_others : others.told ≡ n

-- once more
abbrev pub Settled : Side → Both Options → List PerformedAct → ℕ → ℕ → Type 0
Settled side options run m n = SettledBy side options run (suc m) (suc n)

linked_by : (side : Side) (options : Both Options) (v w mine others : View) (p q : Pair) → KeepOf side options v w → AreLinked mine.endpoint others.endpoint v.endpoint.options w.endpoint.options p q
    → AreLinked mine.endpoint others.endpoint (of_side side options) (of_other side options) p q
linked_by sides.A options v w mine others p q keep h =
    subst (λ (a : Options). AreLinked mine.endpoint others.endpoint a options.b p q) keep.a (subst (λ (b : Options). AreLinked mine.endpoint others.endpoint v.endpoint.options b p q) keep.b h)
linked_by sides.B options v w mine others p q keep h =
    subst (λ (b : Options). AreLinked mine.endpoint others.endpoint b options.a p q) keep.b (subst (λ (a : Options). AreLinked mine.endpoint others.endpoint v.endpoint.options a p q) keep.a h)

pub settled_in : (side : Side) (options : Both Options) (run : List PerformedAct) (v w : View) (m n : ℕ) → KeepOf side options v w → JoinedBy side options run v w m n → SettledBy side options run m n
settled_in side options run v w m n keep j =
    record {
      mine = j.here;
      others = j.there;
      at = j.at;
      p = j.p;
      q = j.q;
      linked = linked_by side options v w j.here j.there j.p j.q keep j.linked;
      told_mine = j.told_here;
      told_others = j.told_there;
    }

pub settled_by : (side : Side) (options : Both Options) (run : List PerformedAct) (v w : View) (m n : ℕ) → KeepOf side options v w → v.told ≡ m → w.told ≡ n → Joined side options run v w → Settled side options run m n
settled_by side options run v w m n keep told_v told_w j =
    subst (λ (k : ℕ). SettledBy side options run (suc k) (suc n)) told_v
    (subst (λ (k : ℕ). SettledBy side options run (suc v.told) (suc k)) told_w (settled_in side options run v w (suc v.told) (suc w.told) keep j))

quiet_round : HandshakeLaws → (side : Side) (options : Both Options) (settled : Both ℕ) (earlier run : List PerformedAct) (p : Pair) (m n : ℕ) → AreUsable options → AreFitting options → Ready side options earlier p 1 m n
    → QuietRound options (counts_shown options (turns_after earlier)) earlier settled run → SocketRun options run → Settled side options run m n
quiet_round law side options settled earlier run p m n are fit h quiet runs =
    let v : View = h.v in
    let w : View = h.w in
    let moment : ℕ = lesser_of side v w in
    let good : Fit v.endpoint.options w.endpoint.options = fit_of side options v w are fit h.keep in
    let between : SocketRun options quiet.between = ran_exchanges options 4 _ quiet.between settled run quiet.exchanges runs in
    let moved : MovedOf side options quiet.between v w moment = moves_of side options earlier quiet.between v w h.at h.keep quiet.time between in
    let still : Resting w moved.others = resting w moment moved.others h.rests moved.others_turns in
    let at_t1 : moment ≡ next_moment v.endpoint = moment_is side v w (next_fits v.endpoint p 1 h.tries) (never w.endpoint h.rests.rests.core) in
    let awaits : AwaitsInitAck v.endpoint p moment = subst (AwaitsInitAck v.endpoint p) (sym at_t1) (awaits_next v.endpoint p 0 h.tries) in
    let is : moved.mine ≡ init_repeated v.endpoint p moment = t1_sends_init v.endpoint p moment moved.mine awaits.core good.good_a.allow.mtu awaits.t1 moved.mine_turns in
    let there : View = view_then w moved.others in
    let keep : KeepOf side options v there = keep_same side options v w v there refl still.same h.keep in
    let ground : Ground side options v there p moment = record {
      awaits = awaits;
      fit = subst (λ (o : Options). Fit v.endpoint.options o) (sym still.same) good;
      keep = keep;
    } in
    let counts = settles side options earlier v w h.at in
    let joined : Joined side options run v there =
    closed_connects law side options v there p moment (counts_shown options (turns_after earlier)) settled quiet.between run ground still.rests.rests still.rests.anew
    (subst (λ (os : List Transition). AtOf side options quiet.between (view_then v os) there) is moved.at) (record { mine = counts.mine; others = counts.others ∙ sym still.shown }) quiet.exchanges runs in
    settled_by side options run v there m n keep h.mine (still.told ∙ h.others) joined

-- ---- the law

-- How often each has told OnConnected in the end, by this side's view from before.
pub record Counted (v : View) (n : ℕ) : Type 0 where
  pub once : n ≡ connections_once_open v.endpoint.core v.told

-- Once more, in a phase that isn't open.
pub once_more : (v : View) (core : Core) → v.endpoint.core ≡ core → connections_once_open core v.told ≡ suc v.told → Counted v (suc v.told)
once_more v core is more = record { once = sym (ap (λ (c : Core). connections_once_open c v.told) is ∙ more) }

pub connected_a : (options : Both Options) (before : Both (List Transition)) (run : List PerformedAct) (m n : ℕ) → Counted (view options.a before.a) m → Counted (view options.b before.b) n
    → SettledBy sides.A options run m n → HaveConnected options before (turns_after run)
connected_a options before run m n once_a once_b h =
    record {
      p = h.p;
      q = h.q;
      linked = record { here = ap (λ (x : View). x.endpoint.core) h.at.a ∙ h.linked.here; there = ap (λ (x : View). x.endpoint.core) h.at.b ∙ h.linked.there };
      told_a = ap (λ (x : View). x.told) h.at.a ∙ h.told_mine ∙ once_a.once;
      told_b = ap (λ (x : View). x.told) h.at.b ∙ h.told_others ∙ once_b.once;
    }

pub connected_b : (options : Both Options) (before : Both (List Transition)) (run : List PerformedAct) (m n : ℕ) → Counted (view options.a before.a) m → Counted (view options.b before.b) n
    → SettledBy sides.B options run n m → HaveConnected options before (turns_after run)
connected_b options before run m n once_a once_b h =
    record {
      p = h.q;
      q = h.p;
      linked = record { here = ap (λ (x : View). x.endpoint.core) h.at.a ∙ h.linked.there; there = ap (λ (x : View). x.endpoint.core) h.at.b ∙ h.linked.here };
      told_a = ap (λ (x : View). x.told) h.at.a ∙ h.told_others ∙ once_a.once;
      told_b = ap (λ (x : View). x.told) h.at.b ∙ h.told_mine ∙ once_b.once;
    }

pub one_connects : HandshakeLaws → (side : Side) (options : Both Options) (lost : ℕ) (settled : Both ℕ) (earlier between run : List PerformedAct) (p : Pair) (m n : ℕ) → AreUsable options → AreFitting options
    → Ready side options earlier p (suc lost) m n → LostRounds options lost earlier between
    → QuietRound options (counts_shown options (turns_after between)) between settled run → SocketRun options run → Settled side options run m n
one_connects law side options lost settled earlier between run p m n are fit h rounds quiet runs =
    let there : SocketRun options between = ran options between _ quiet.between quiet.time (ran_exchanges options 4 _ quiet.between settled run quiet.exchanges runs) in
    quiet_round law side options settled between run p m n are fit (lost_rounds lost side options earlier between p m n are fit h rounds there) quiet runs
