-- After rounds whose packets are lost, a quiet one connects two sockets that both try.
use Rattle.std.specs.Prelude.{min, nat_le}
use Rattle.std.specs.Duration.{max_nanos}
use Rattle.std.proofs.Common.{◌≡◌, ◌≤◌, ℕ, zero, suc, Bool, true, false, Option, List, [], ◌∷◌, length, refl, sym, subst, ap, ◌∙◌, arith}
use Rattle.std.proofs.lemmas.Bool.Decides.{nat_tests}
use Rattle.std.proofs.lemmas.List.{append-nil}
use Rattle.dcsctp_spec_lemmas.specs.types.declared.association.Pair.{Pair}
use Rattle.dcsctp_spec_lemmas.specs.types.declared.options.Options.{Options}
use Rattle.dcsctp_spec_lemmas.specs.types.declared.schedule.Side.{Side}
use Rattle.dcsctp_spec_lemmas.specs.types.declared.schedule.Side.TheVariants as sides
use Rattle.dcsctp_spec_lemmas.specs.types.Offer.{offer_of, negotiated_capabilities}
use Rattle.dcsctp_spec_lemmas.specs.spec.association.HandshakeChanges.{new_held}
use Rattle.dcsctp_spec_lemmas.specs.spec.endpoint.Endpoint.{Endpoint, Core, open_in, established}
use Rattle.dcsctp_spec_lemmas.specs.spec.queues.Transfer.{EndpointQueues}
use Rattle.dcsctp_delivery_directions.specs.sending.Losing.{AreOpen}
use Rattle.dcsctp_spec_lemmas.specs.spec.endpoint.CallTurns.{Transition}
use Rattle.dcsctp_spec_lemmas.specs.spec.endpoint.TimeTurns.{next_moment}
use Rattle.dcsctp_spec_runs.specs.Sockets.{PerformedAct, Both, turns_after, SocketRun}
use Rattle.dcsctp_theorem_sockets.specs.Agreement.{AreUsable}
use Rattle.dcsctp_theorem_sockets.specs.Handshake.{AreFitting}
use Rattle.dcsctp_theorem_progress.specs.Rounds.{counts_shown, AdvancesBothClocks, LostRounds, QuietRound, Exchanges}
use Rattle.dcsctp_theorem_progress.specs.LostInits.{AwaitsInitAck, AwaitsToo}
use Rattle.dcsctp_theorem_progress.specs.Retries.{RetriesInit}
use Rattle.dcsctp_theorem_progress.specs.Connecting.{TakesOwn, HaveConnected}
use Rattle.dcsctp_theorem_sockets.proofs.HandshakeTurns.{HandshakeLaws}
use Rattle.dcsctp_theorem_progress.proofs.Turns.{init_repeated, t1_sends_init}
use Rattle.dcsctp_theorem_progress.proofs.Facts.{Fit}
use Rattle.dcsctp_theorem_progress.proofs.Retries.{next_fits, awaits_next, Advanced, no_time, too_early, expires, advanced, Onward, onward, clock_turn}
use Rattle.dcsctp_theorem_progress.proofs.Views.{View, view, view_then, At, Keep, AtOf, KeepOf, Moved, lesser, time_moves, ran_exchanges}
use Rattle.dcsctp_theorem_progress.proofs.Handed.{Settles, settles, keep_same}
use Rattle.dcsctp_theorem_progress.proofs.Chain.{Ground, begun}
use Rattle.dcsctp_theorem_progress.proofs.Joined.{Joined}
use Rattle.dcsctp_theorem_progress.proofs.Starts.{waiting_connects}
use Rattle.dcsctp_theorem_progress.proofs.Collision.{both_connect}
use Rattle.dcsctp_theorem_progress.proofs.Promise.{fit_of, ran_lost, settled_by, Counted, connected_a, connected_b}

-- ---- lost rounds

-- Both try, and each has told that often.
pub record BothReady (options : Both Options) (run : List PerformedAct) (p q : Pair) (more m n : ℕ) : Type 0 where
  pub v : View
  pub w : View
  pub at : At options run v w
  pub keep : Keep options v w
  pub here : RetriesInit v.endpoint p more
  pub there : RetriesInit w.endpoint q more
  pub own_here : TakesOwn v.endpoint p
  pub own_there : TakesOwn w.endpoint q
  pub told_here : v.told ≡ m
  pub told_there : w.told ≡ n

takes_still : (e f : Endpoint) (p : Pair) → f.queues ≡ e.queues → f.options ≡ e.options → f.secret ≡ e.secret → f.last_tag ≡ e.last_tag → TakesOwn e p → TakesOwn f p
takes_still e f p queues options secret last h =
    let at_options : TakesOwn (record e { options = f.options }) p = subst (λ (o : Options). TakesOwn (record e { options = o }) p) (sym options) h in
    let at_secret : TakesOwn (record e { options = f.options; secret = f.secret }) p = subst (λ (s : ℕ). TakesOwn (record e { options = f.options; secret = s }) p) (sym secret) at_options in
    let at_last : TakesOwn (record e { options = f.options; secret = f.secret; last_tag = f.last_tag }) p =
    subst (λ (t : Option ℕ). TakesOwn (record e { options = f.options; secret = f.secret; last_tag = t }) p) (sym last) at_secret in
    record { unheld = ap (λ (q : EndpointQueues). q.transfer) queues ∙ h.unheld; unpaused = subst (λ (q : EndpointQueues). AreOpen q.queue.streams) (sym queues) h.unpaused; secret = at_last.secret; has_secret = at_last.has_secret; anew = at_last.anew }

lesser_fits : (n m limit : ℕ) → n ≤ limit → min n m ≤ limit
lesser_fits n m limit fits = omega (arith, fits)

lost_round : (options : Both Options) (before run : List PerformedAct) (p q : Pair) (more m n : ℕ) → AreUsable options → AreFitting options → BothReady options before p q (suc more) m n
    → AdvancesBothClocks options before run → SocketRun options run → BothReady options run p q more m n
lost_round options before run p q more m n are fit h time runs =
    let good : Fit h.v.endpoint.options h.w.endpoint.options = fit_of sides.A options h.v h.w are fit h.keep in
    let moment : ℕ = lesser h.v h.w in
    let moved : Moved options run h.v h.w moment = time_moves options before run h.v h.w h.at h.keep time runs in
    let fits : moment ≤ max_nanos = lesser_fits (next_moment h.v.endpoint) (next_moment h.w.endpoint) max_nanos (next_fits h.v.endpoint p (suc more) h.here) in
    let a : Onward h.v p more moved.here = onward h.v p more moment moved.here good.good_a.allow.mtu fits h.here moved.here_turns in
    let b : Onward h.w q more moved.there = onward h.w q more moment moved.there good.good_b.allow.mtu fits h.there moved.there_turns in
    let v : View = view_then h.v moved.here in
    let w : View = view_then h.w moved.there in
    record {
      v = v;
      w = w;
      at = moved.at;
      keep = record { a = a.same ∙ h.keep.a; b = b.same ∙ h.keep.b };
      here = a.tries;
      there = b.tries;
      own_here = takes_still h.v.endpoint v.endpoint p a.queues a.same a.secret a.last h.own_here;
      own_there = takes_still h.w.endpoint w.endpoint q b.queues b.same b.secret b.last h.own_there;
      told_here = a.told ∙ h.told_here;
      told_there = b.told ∙ h.told_there;
    }

lost_rounds : (lost : ℕ) (options : Both Options) (before run : List PerformedAct) (p q : Pair) (m n : ℕ) → AreUsable options → AreFitting options → BothReady options before p q (suc lost) m n
    → LostRounds options lost before run → SocketRun options run → BothReady options run p q 1 m n
lost_rounds zero options before run p q m n are fit h is runs = subst (λ (r : List PerformedAct). BothReady options r p q 1 m n) (sym is) h
lost_rounds (suc lost) options before run p q m n are fit h rounds runs =
    lost_rounds lost options rounds.0 run p q m n are fit
    (lost_round options before rounds.0 p q (suc lost) m n are fit h rounds.1 (ran_lost options lost rounds.0 run rounds.2 runs)) rounds.2 runs

-- ---- the quiet round

-- T1 of this side has come; the other tries too.
pub record Due (side : Side) (options : Both Options) (v w : View) (p q : Pair) (moment : ℕ) : Type 0 where
  pub awaits : AwaitsInitAck v.endpoint p moment
  pub other : RetriesInit w.endpoint q 1
  pub own_here : TakesOwn v.endpoint p
  pub own_there : TakesOwn w.endpoint q
  pub fit : Fit v.endpoint.options w.endpoint.options
  pub keep : KeepOf side options v w

swap_fit : (a b : Options) → Fit a b → Fit b a
swap_fit a b h = record { good_a = h.good_b; good_b = h.good_a; to_b = h.to_a; to_a = h.to_b }

-- where both have come
collide : HandshakeLaws → (side : Side) (options : Both Options) (v w : View) (p q : Pair) (moment : ℕ) (settled settled' : Both ℕ) (between run : List PerformedAct) → Due side options v w p q moment
    → AwaitsInitAck w.endpoint q moment → AtOf side options between (begun v p moment) (begun w q moment) → Settles settled side (length v.shown) (length w.shown)
    → Exchanges options 4 settled between settled' run → SocketRun options run → Joined side options run v w
collide law sides.A options v w p q moment settled settled' between run g due at counts rest runs =
    both_connect law options v w p q moment settled settled' between run
    (record { unheld_here = g.own_here.unheld; unheld_there = g.own_there.unheld; here = g.awaits; there = due; secret_here = g.own_here.secret; secret_there = g.own_there.secret; fit = g.fit; keep = g.keep }) at counts rest runs
collide law sides.B options v w p q moment settled settled' between run g due at counts rest runs =
    let j : Joined sides.A options run w v =
    both_connect law options w v q p moment settled settled' between run
    (record { unheld_here = g.own_there.unheld; unheld_there = g.own_here.unheld; here = due; there = g.awaits; secret_here = g.own_there.secret; secret_there = g.own_here.secret; fit = swap_fit v.endpoint.options w.endpoint.options g.fit; keep = g.keep })
    at (record { mine = counts.others; others = counts.mine }) rest runs in
    record {
      here = j.there;
      there = j.here;
      at = j.at;
      p = j.q;
      q = j.p;
      linked = record { here = j.linked.there; there = j.linked.here };
      told_here = j.told_there;
      told_there = j.told_here;
    }

too : (e : Endpoint) (q : Pair) → RetriesInit e q 1 → TakesOwn e q → AwaitsToo e q
too e q h own = record { core = h.core; unheld = own.unheld; unpaused = own.unpaused; pair = h.pair; secret = own.secret; has_secret = own.has_secret; anew = own.anew }

abbrev linked_core : Options → Options → Pair → Pair → Core
linked_core a b p q = open_in established p (new_held p q (negotiated_capabilities (offer_of a) (offer_of b)))

-- where only this side's has: the other is so after it
alone : HandshakeLaws → (side : Side) (options : Both Options) (v w : View) (p q : Pair) (moment : ℕ) (settled settled' : Both ℕ) (between run : List PerformedAct) → Due side options v w p q moment
    → (after : View) → after.shown ≡ w.shown → after.told ≡ w.told → after.endpoint.options ≡ w.endpoint.options → AwaitsToo after.endpoint q
    → AtOf side options between (begun v p moment) after → Settles settled side (length v.shown) (length w.shown)
    → Exchanges options 4 settled between settled' run → SocketRun options run → Joined side options run v w
alone law side options v w p q moment settled settled' between run g after shown told same waits at counts rest runs =
    let ground : Ground side options v after p moment = record {
      awaits = g.awaits;
      fit = subst (Fit v.endpoint.options) (sym same) g.fit;
      keep = keep_same side options v w v after refl same g.keep;
    } in
    let j : Joined side options run v after =
    waiting_connects law side options v after p q moment settled settled' between run ground waits at (record { mine = counts.mine; others = counts.others ∙ ap length (sym shown) }) rest runs in
    record {
      here = j.here;
      there = j.there;
      at = j.at;
      p = j.p;
      q = j.q;
      linked = record {
        here = subst (λ (o : Options). j.here.endpoint.core ≡ linked_core v.endpoint.options o j.p j.q) same j.linked.here;
        there = subst (λ (o : Options). j.there.endpoint.core ≡ linked_core o v.endpoint.options j.q j.p) same j.linked.there;
      };
      told_here = j.told_here;
      told_there = j.told_there ∙ ap suc told;
    }

due_connects : HandshakeLaws → (side : Side) (options : Both Options) (v w : View) (p q : Pair) (moment : ℕ) (others : List Transition) (settled settled' : Both ℕ) (between run : List PerformedAct)
    → Due side options v w p q moment → Advanced w.endpoint q moment others → AtOf side options between (begun v p moment) (view_then w others)
    → Settles settled side (length v.shown) (length w.shown) → Exchanges options 4 settled between settled' run → SocketRun options run → Joined side options run v w
due_connects law side options v w p q moment others settled settled' between run g (no_time is) at counts rest runs =
    alone law side options v w p q moment settled settled' between run g (view_then w []) (append-nil w.shown) refl refl (too w.endpoint q g.other g.own_there)
    (subst (λ (os : List Transition). AtOf side options between (begun v p moment) (view_then w os)) is at) counts rest runs
due_connects law side options v w p q moment others settled settled' between run g (too_early is) at counts rest runs =
    let t : AwaitsToo w.endpoint q = too w.endpoint q g.other g.own_there in
    alone law side options v w p q moment settled settled' between run g (view_then w (clock_turn moment w.endpoint ∷ [])) (append-nil w.shown) refl refl
    (record { core = t.core; unheld = t.unheld; unpaused = t.unpaused; pair = t.pair; secret = t.secret; has_secret = t.has_secret; anew = t.anew })
    (subst (λ (os : List Transition). AtOf side options between (begun v p moment) (view_then w os)) is at) counts rest runs
due_connects law side options v w p q moment others settled settled' between run g (expires due is) at counts rest runs =
    let awaits : AwaitsInitAck w.endpoint q moment = record { core = g.other.core; t1 = due; asks = g.other.asks; pair = g.other.pair } in
    collide law side options v w p q moment settled settled' between run g awaits (subst (λ (os : List Transition). AtOf side options between (begun v p moment) (view_then w os)) is at) counts rest runs

-- ---- whose T1 comes

min_left : (n m : ℕ) → nat_le n m ≡ true → min n m ≡ n
min_left n m is = grind (arith, nat_tests, is)

min_right : (n m : ℕ) → nat_le n m ≡ false → min n m ≡ m
min_right n m is = grind (arith, nat_tests, is)

-- A's, at the latest with B's; or B's before
by_first : HandshakeLaws → (first : Bool) (options : Both Options) (before : Both (List Transition)) (settled : Both ℕ) (earlier run : List PerformedAct) (p q : Pair) → AreUsable options → AreFitting options
    → (h : BothReady options earlier p q 1 (view options.a before.a).told (view options.b before.b).told) → nat_le (next_moment h.v.endpoint) (next_moment h.w.endpoint) ≡ first
    → QuietRound options (counts_shown options (turns_after earlier)) earlier settled run → SocketRun options run
    → Counted (view options.a before.a) (suc (view options.a before.a).told) → Counted (view options.b before.b) (suc (view options.b before.b).told) → HaveConnected options before (turns_after run)
by_first law true options before settled earlier run p q are fit h is quiet runs once_a once_b =
    let good : Fit h.v.endpoint.options h.w.endpoint.options = fit_of sides.A options h.v h.w are fit h.keep in
    let moment : ℕ = lesser h.v h.w in
    let between : SocketRun options quiet.between = ran_exchanges options 4 _ quiet.between settled run quiet.exchanges runs in
    let moved : Moved options quiet.between h.v h.w moment = time_moves options earlier quiet.between h.v h.w h.at h.keep quiet.time between in
    let at_t1 : moment ≡ next_moment h.v.endpoint = min_left (next_moment h.v.endpoint) (next_moment h.w.endpoint) is in
    let awaits : AwaitsInitAck h.v.endpoint p moment = subst (AwaitsInitAck h.v.endpoint p) (sym at_t1) (awaits_next h.v.endpoint p 0 h.here) in
    let sends : moved.here ≡ init_repeated h.v.endpoint p moment = t1_sends_init h.v.endpoint p moment moved.here awaits.core good.good_a.allow.mtu awaits.t1 moved.here_turns in
    let joined : Joined sides.A options run h.v h.w =
    due_connects law sides.A options h.v h.w p q moment moved.there (counts_shown options (turns_after earlier)) settled quiet.between run
    (record { awaits = awaits; other = h.there; own_here = h.own_here; own_there = h.own_there; fit = good; keep = h.keep })
    (advanced h.w.endpoint q 0 moment moved.there good.good_b.allow.mtu h.there moved.there_turns)
    (subst (λ (os : List Transition). At options quiet.between (view_then h.v os) (view_then h.w moved.there)) sends moved.at) (settles sides.A options earlier h.v h.w h.at) quiet.exchanges runs in
    connected_a options before run _ _ once_a once_b (settled_by sides.A options run h.v h.w _ _ h.keep h.told_here h.told_there joined)
by_first law false options before settled earlier run p q are fit h is quiet runs once_a once_b =
    let good : Fit h.v.endpoint.options h.w.endpoint.options = fit_of sides.A options h.v h.w are fit h.keep in
    let moment : ℕ = lesser h.v h.w in
    let between : SocketRun options quiet.between = ran_exchanges options 4 _ quiet.between settled run quiet.exchanges runs in
    let moved : Moved options quiet.between h.v h.w moment = time_moves options earlier quiet.between h.v h.w h.at h.keep quiet.time between in
    let at_t1 : moment ≡ next_moment h.w.endpoint = min_right (next_moment h.v.endpoint) (next_moment h.w.endpoint) is in
    let awaits : AwaitsInitAck h.w.endpoint q moment = subst (AwaitsInitAck h.w.endpoint q) (sym at_t1) (awaits_next h.w.endpoint q 0 h.there) in
    let sends : moved.there ≡ init_repeated h.w.endpoint q moment = t1_sends_init h.w.endpoint q moment moved.there awaits.core good.good_b.allow.mtu awaits.t1 moved.there_turns in
    let joined : Joined sides.B options run h.w h.v =
    due_connects law sides.B options h.w h.v q p moment moved.here (counts_shown options (turns_after earlier)) settled quiet.between run
    (record { awaits = awaits; other = h.here; own_here = h.own_there; own_there = h.own_here; fit = swap_fit h.v.endpoint.options h.w.endpoint.options good; keep = h.keep })
    (advanced h.v.endpoint p 0 moment moved.here good.good_a.allow.mtu h.here moved.here_turns)
    (subst (λ (os : List Transition). At options quiet.between (view_then h.v moved.here) (view_then h.w os)) sends moved.at) (settles sides.B options earlier h.w h.v h.at) quiet.exchanges runs in
    connected_b options before run _ _ once_a once_b (settled_by sides.B options run h.w h.v _ _ h.keep h.told_there h.told_here joined)

pub both_connect_after : HandshakeLaws → (options : Both Options) (before : Both (List Transition)) (lost : ℕ) (settled : Both ℕ) (earlier between run : List PerformedAct) (p q : Pair) → AreUsable options → AreFitting options
    → BothReady options earlier p q (suc lost) (view options.a before.a).told (view options.b before.b).told → LostRounds options lost earlier between
    → QuietRound options (counts_shown options (turns_after between)) between settled run → SocketRun options between → SocketRun options run
    → Counted (view options.a before.a) (suc (view options.a before.a).told) → Counted (view options.b before.b) (suc (view options.b before.b).told) → HaveConnected options before (turns_after run)
both_connect_after law options before lost settled earlier between run p q are fit h rounds quiet there runs once_a once_b =
    let now : BothReady options between p q 1 (view options.a before.a).told (view options.b before.b).told = lost_rounds lost options earlier between p q _ _ are fit h rounds there in
    by_first law (nat_le (next_moment now.v.endpoint) (next_moment now.w.endpoint)) options before settled between run p q are fit now refl quiet runs once_a once_b
