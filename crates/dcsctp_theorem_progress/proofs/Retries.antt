-- What a moment does to a socket whose INITs are lost, and to a closed one.
use Rattle.std.specs.Prelude.{nat_le, min, max}
use Rattle.std.specs.Duration.{max_nanos}
use Rattle.std.specs.Option.{option_map}
use Rattle.std.proofs.Common.{◌≡◌, ◌≤◌, ℕ, zero, suc, Bool, true, false, Option, None, Some, List, [], ◌∷◌, length, refl, sym, subst, ap, ◌∙◌, arith}
use Rattle.std.proofs.lemmas.Bool.Decides.{nat_tests}
use Rattle.std.proofs.lemmas.List.{append-nil}
use Rattle.dcsctp_spec_lemmas.specs.types.declared.association.Pair.{Pair}
use Rattle.dcsctp_spec_lemmas.specs.spec.endpoint.Endpoint.{Endpoint, Core, closed, cookie_wait}
use Rattle.dcsctp_spec_lemmas.specs.spec.endpoint.Timers.{RunningTimer, may_restart, next_expiries, continued_timer}
use Rattle.dcsctp_spec_lemmas.specs.spec.endpoint.Outcome.{still}
use Rattle.dcsctp_spec_lemmas.specs.spec.endpoint.Turn.{time_passes, with_clock}
use Rattle.dcsctp_spec_lemmas.specs.spec.endpoint.CallTurns.{Transition, transition, Turns, after_all}
use Rattle.dcsctp_spec_lemmas.specs.spec.endpoint.TimeTurns.{Timer, next_of, deadlines_of, with_deadline, deadline_of, has_come, has_restart, timers_counted, handled_timers, t1_timer, ExpiryThen, ExpiryTurns, DueTurns, MomentTurns, TimeTurns, AdvanceTurns, next_moment}
use Rattle.dcsctp_theorem_progress.specs.LostInits.{DueT1, AwaitsInitAck}
use Rattle.dcsctp_theorem_progress.specs.Retries.{LeavesRestarts, RetriesT1, RetriesInit, nth_expiry, timer_expiry, t1_expiry}
use Rattle.dcsctp_theorem_progress.specs.Connecting.{RestsWithoutTag}
use Rattle.dcsctp_theorem_sockets.proofs.HandshakeReads.{turned_as}
use Rattle.dcsctp_theorem_progress.proofs.Turns.{init_repeated, t1_sends_init}
use Rattle.dcsctp_theorem_progress.proofs.Views.{View, view_then}

-- ---- the next moment

next_by : (moment : ℕ) (deadline : Option ℕ) (at : ℕ) → deadline ≡ Some at → next_of moment (with_deadline deadline []) ≡ max at moment
next_by moment deadline at is = ap (λ (d : Option ℕ). next_of moment (with_deadline d [])) is

-- It is T1's, where no other timer counts.
pub next_is : (e : Endpoint) (timer : RunningTimer) → timers_counted e.core ≡ t1_timer ∷ [] → e.timers.t1 ≡ Some timer → next_moment e ≡ max timer.deadline e.moment
next_is e timer counted runs =
    ap (λ (timers : List Timer). next_of e.moment (deadlines_of e timers)) counted
    ∙ next_by e.moment (deadline_of e.timers.t1) timer.deadline (ap deadline_of runs)

-- A closed socket has none.
pub never : (f : Endpoint) → f.core ≡ closed → next_moment f ≡ max_nanos
never f is = ap (λ (core : Core). next_of f.moment (deadlines_of f (timers_counted core))) is

greater : (n m limit : ℕ) → n ≤ limit → m ≤ limit → max n m ≤ limit
greater n m limit a b = omega (arith, a, b)

pub t1_fits : (e : Endpoint) (more : ℕ) → timers_counted e.core ≡ t1_timer ∷ [] → RetriesT1 e more → next_moment e ≤ max_nanos
t1_fits e more counted h = subst (λ (n : ℕ). n ≤ max_nanos) (sym (next_is e h.timer counted h.runs)) (greater h.timer.deadline e.moment max_nanos h.deadline h.clock)

pub next_fits : (e : Endpoint) (p : Pair) (more : ℕ) → RetriesInit e p more → next_moment e ≤ max_nanos
next_fits e p more h = t1_fits e more (ap timers_counted h.core) h.t1

reached : (n m : ℕ) → nat_le n (max m n) ≡ true
reached n m = grind (arith, nat_tests)

come_by : (n m : ℕ) → nat_le n (max n m) ≡ true
come_by n m = grind (arith, nat_tests)

-- ---- restarts

restarts : (limit : Option ℕ) (expiries more : ℕ) → LeavesRestarts limit expiries (suc more) → may_restart limit (next_expiries expiries) ≡ true
restarts None expiries more h = refl
restarts (Some limit) expiries more h = grind (arith, nat_tests, h)

one_less : (limit : Option ℕ) (expiries more : ℕ) → LeavesRestarts limit expiries (suc more) → LeavesRestarts limit (next_expiries expiries) more
one_less None expiries more h = tt
one_less (Some limit) expiries more h = omega (arith, h)

pub fewer : (limit : Option ℕ) (expiries more : ℕ) → LeavesRestarts limit expiries (suc more) → LeavesRestarts limit expiries more
fewer None expiries more h = tt
fewer (Some limit) expiries more h = omega (arith, h)

pub again : (e : Endpoint) (more : ℕ) → RetriesT1 e (suc more) → has_restart e.timers.t1 ≡ true
again e more h = ap has_restart h.runs ∙ restarts h.timer.terms.max_restarts h.timer.expiries more h.left

-- With a restart left T1 is due at the next moment.
pub due_next : (e : Endpoint) (more : ℕ) → timers_counted e.core ≡ t1_timer ∷ [] → RetriesT1 e (suc more) → DueT1 e (next_moment e)
due_next e more counted h =
    let next : next_moment e ≡ max h.timer.deadline e.moment = next_is e h.timer counted h.runs in
    record {
      present = ap (nat_le e.moment) next ∙ reached e.moment h.timer.deadline;
      come = ap (λ (t : Option RunningTimer). has_come (next_moment e) (deadline_of t)) h.runs ∙ ap (nat_le h.timer.deadline) next ∙ come_by h.timer.deadline e.moment;
      again = again e more h;
    }

pub awaits_next : (e : Endpoint) (p : Pair) (more : ℕ) → RetriesInit e p (suc more) → AwaitsInitAck e p (next_moment e)
awaits_next e p more h = record { core = h.core; t1 = due_next e more (ap timers_counted h.core) h.t1; asks = h.asks; pair = h.pair }

-- ---- a moment

abbrev pub clock_turn : ℕ → Endpoint → Transition
clock_turn moment e = transition (time_passes moment) (still (with_clock moment e))

-- The moment is earlier than the present one; T1 isn't due; or it expires, and INIT is sent again.
pub data Advanced (e : Endpoint) (p : Pair) (moment : ℕ) (turns : List Transition) : Type 0 where
  no_time : turns ≡ [] → Advanced e p moment turns
  too_early : turns ≡ clock_turn moment e ∷ [] → Advanced e p moment turns
  expires : DueT1 e moment → turns ≡ init_repeated e p moment → Advanced e p moment turns

pub no_turns : (f : Endpoint) (turns : List Transition) → Turns f [] turns → turns ≡ []
no_turns f [] h = refl
no_turns f (t ∷ ts) h = absurd h

not_due : (e : Endpoint) (p : Pair) (moment : ℕ) (turns : List Transition) → e.core ≡ cookie_wait p → has_come moment (deadline_of e.timers.t1) ≡ false → MomentTurns e moment turns → turns ≡ clock_turn moment e ∷ []
not_due e p moment [] is waits h = absurd h
not_due e p moment (t ∷ ts) is waits h =
    let first : t ≡ clock_turn moment e = turned_as t (time_passes moment) (still (with_clock moment e)) h.0.is h.0.comes in
    let rest : DueTurns (with_clock moment e) ts = subst (λ (x : Transition). DueTurns x.outcome.after ts) first h.1 in
    let at_core : ExpiryTurns (t1_timer ∷ []) false (with_clock moment e) ts = subst (λ (core : Core). ExpiryTurns (handled_timers core) false (with_clock moment e) ts) is rest in
    let none : Turns (with_clock moment e) [] ts = subst (λ (b : Bool). ExpiryThen b (ExpiryTurns []) (with_clock moment e) false t1_timer ts) waits at_core in
    ap (λ (x : Transition). x ∷ ts) first ∙ ap (λ (xs : List Transition). clock_turn moment e ∷ xs) (no_turns (with_clock moment e) ts none)

advanced_by : (present come : Bool) (e : Endpoint) (p : Pair) (more moment : ℕ) (turns : List Transition) → nat_le e.moment moment ≡ present → has_come moment (deadline_of e.timers.t1) ≡ come
    → 112 ≤ e.options.mtu → RetriesInit e p (suc more) → AdvanceTurns e moment turns → Advanced e p moment turns
advanced_by false come e p more moment turns is_present is_come large h time = no_time (subst (λ (b : Bool). TimeTurns b e moment turns) is_present time)
advanced_by true false e p more moment turns is_present is_come large h time =
    too_early (not_due e p moment turns h.core is_come (subst (λ (b : Bool). TimeTurns b e moment turns) is_present time))
advanced_by true true e p more moment turns is_present is_come large h time =
    let due : DueT1 e moment = record { present = is_present; come = is_come; again = again e more h.t1 } in
    expires due (t1_sends_init e p moment turns h.core large due time)

pub advanced : (e : Endpoint) (p : Pair) (more moment : ℕ) (turns : List Transition) → 112 ≤ e.options.mtu → RetriesInit e p (suc more) → AdvanceTurns e moment turns → Advanced e p moment turns
advanced e p more moment turns large h time = advanced_by (nat_le e.moment moment) (has_come moment (deadline_of e.timers.t1)) e p more moment turns refl refl large h time

-- It still tries, with a restart less at most, and told nothing.
pub record Onward (v : View) (p : Pair) (more : ℕ) (turns : List Transition) : Type 0 where
  pub tries : RetriesInit (view_then v turns).endpoint p more
  pub same : (view_then v turns).endpoint.options ≡ v.endpoint.options
  pub told : (view_then v turns).told ≡ v.told
  pub secret : (view_then v turns).endpoint.secret ≡ v.endpoint.secret
  pub last : (view_then v turns).endpoint.last_tag ≡ v.endpoint.last_tag
  pub queues : (view_then v turns).endpoint.queues ≡ v.endpoint.queues

cut : (n limit : ℕ) → min n limit ≤ limit
cut n limit = omega arith

pub t1_stays : (e : Endpoint) (more : ℕ) → RetriesT1 e (suc more) → RetriesT1 e more
t1_stays e more h =
    record { timer = h.timer; runs = h.runs; left = fewer h.timer.terms.max_restarts h.timer.expiries more h.left; clock = h.clock; deadline = h.deadline }

stays : (e : Endpoint) (p : Pair) (more : ℕ) → RetriesInit e p (suc more) → RetriesInit e p more
stays e p more h = record { core = h.core; asks = h.asks; pair = h.pair; t1 = t1_stays e more h.t1 }

-- Once it has expired at this moment, it has a restart less.
pub t1_continues : (e f : Endpoint) (more moment : ℕ) → moment ≤ max_nanos → RetriesT1 e (suc more) → f.moment ≡ moment → f.timers.t1 ≡ option_map (continued_timer moment) e.timers.t1 → RetriesT1 f more
t1_continues e f more moment fits h clock runs =
    record {
      timer = continued_timer moment h.timer;
      runs = runs ∙ ap (option_map (continued_timer moment)) h.runs;
      left = one_less h.timer.terms.max_restarts h.timer.expiries more h.left;
      clock = subst (λ (n : ℕ). n ≤ max_nanos) (sym clock) fits;
      deadline = cut _ max_nanos;
    }

-- The moment of its last expiry is the same.
pub same_expiry : (e f : Endpoint) (more moment : ℕ) (timer : RunningTimer) → e.timers.t1 ≡ Some timer → moment ≡ max timer.deadline e.moment → f.moment ≡ moment
    → f.timers.t1 ≡ option_map (continued_timer moment) e.timers.t1 → t1_expiry f more ≡ t1_expiry e (suc more)
same_expiry e f more moment timer runs now clock then =
    ap (λ (n : ℕ). timer_expiry n f.timers.t1 more) clock
    ∙ ap (λ (t : Option RunningTimer). timer_expiry moment t more) (then ∙ ap (option_map (continued_timer moment)) runs)
    ∙ ap (λ (n : ℕ). nth_expiry n (continued_timer n timer) more) now
    ∙ sym (ap (λ (t : Option RunningTimer). timer_expiry e.moment t (suc more)) runs)

-- The first one is the next moment.
pub first_expiry : (e : Endpoint) (more : ℕ) → timers_counted e.core ≡ t1_timer ∷ [] → RetriesT1 e more → next_moment e ≡ t1_expiry e 1
first_expiry e more counted h = next_is e h.timer counted h.runs ∙ sym (ap (λ (t : Option RunningTimer). timer_expiry e.moment t 1) h.runs)

at_least : (n m limit : ℕ) → max n m ≤ limit → m ≤ limit
at_least n m limit h = omega (arith, h)

later_still : (more moment : ℕ) (timer : RunningTimer) → moment ≤ nth_expiry moment timer more
later_still zero moment timer = omega arith
later_still (suc more) moment timer =
    let next : ℕ = max timer.deadline moment in
    at_least timer.deadline moment _ (later_still more next (continued_timer next timer))

-- It isn't before the next one.
pub next_is_first : (e : Endpoint) (more : ℕ) → timers_counted e.core ≡ t1_timer ∷ [] → RetriesT1 e (suc more) → next_moment e ≤ t1_expiry e (suc more)
next_is_first e more counted h =
    subst (λ (n : ℕ). n ≤ t1_expiry e (suc more)) (sym (next_is e h.timer counted h.runs))
    (subst (λ (t : Option RunningTimer). max h.timer.deadline e.moment ≤ timer_expiry e.moment t (suc more)) (sym h.runs) (later_still more _ (continued_timer _ h.timer)))

onward_by : (v : View) (p : Pair) (more moment : ℕ) (turns : List Transition) → moment ≤ max_nanos → RetriesInit v.endpoint p (suc more) → Advanced v.endpoint p moment turns → Onward v p more turns
onward_by v p more moment turns fits h (no_time is) =
    subst (Onward v p more) (sym is) (record { tries = stays v.endpoint p more h; same = refl; told = refl; secret = refl; last = refl; queues = refl })
onward_by v p more moment turns fits h (too_early is) =
    let less : RetriesInit v.endpoint p more = stays v.endpoint p more h in
    subst (Onward v p more) (sym is)
    (record {
      tries = record {
        core = less.core;
        asks = less.asks;
        pair = less.pair;
        t1 = record { timer = less.t1.timer; runs = less.t1.runs; left = less.t1.left; clock = fits; deadline = less.t1.deadline };
      };
      same = refl;
      told = refl;
      secret = refl;
      last = refl;
      queues = refl;
    })
onward_by v p more moment turns fits h (expires due is) =
    subst (Onward v p more) (sym is)
    (record {
      tries = record {
        core = h.core;
        asks = h.asks;
        pair = h.pair;
        t1 = t1_continues v.endpoint (after_all v.endpoint (init_repeated v.endpoint p moment)) more moment fits h.t1 refl refl;
      };
      same = refl;
      told = refl;
      secret = refl;
      last = refl;
      queues = refl;
    })

-- A moment uses at most one restart.
pub onward : (v : View) (p : Pair) (more moment : ℕ) (turns : List Transition) → 112 ≤ v.endpoint.options.mtu → moment ≤ max_nanos → RetriesInit v.endpoint p (suc more)
    → AdvanceTurns v.endpoint moment turns → Onward v p more turns
onward v p more moment turns large fits h time = onward_by v p more moment turns fits h (advanced v.endpoint p more moment turns large h time)

-- ---- the other meanwhile

-- It is still closed, and has shown and told nothing.
pub record Resting (w : View) (turns : List Transition) : Type 0 where
  pub rests : RestsWithoutTag (view_then w turns).endpoint
  pub same : (view_then w turns).endpoint.options ≡ w.endpoint.options
  pub queues : (view_then w turns).endpoint.queues ≡ w.endpoint.queues
  pub told : (view_then w turns).told ≡ w.told
  pub shown : length (view_then w turns).shown ≡ length w.shown

pub closed_still : (f : Endpoint) (moment : ℕ) (turns : List Transition) → f.core ≡ closed → MomentTurns f moment turns → turns ≡ clock_turn moment f ∷ []
closed_still f moment [] is h = absurd h
closed_still f moment (t ∷ ts) is h =
    let first : t ≡ clock_turn moment f = turned_as t (time_passes moment) (still (with_clock moment f)) h.0.is h.0.comes in
    let rest : DueTurns (with_clock moment f) ts = subst (λ (x : Transition). DueTurns x.outcome.after ts) first h.1 in
    let none : Turns (with_clock moment f) [] ts = subst (λ (core : Core). ExpiryTurns (handled_timers core) false (with_clock moment f) ts) is rest in
    ap (λ (x : Transition). x ∷ ts) first ∙ ap (λ (xs : List Transition). clock_turn moment f ∷ xs) (no_turns (with_clock moment f) ts none)

resting_by : (b : Bool) (w : View) (moment : ℕ) (turns : List Transition) → RestsWithoutTag w.endpoint → TimeTurns b w.endpoint moment turns → Resting w turns
resting_by true w moment turns h time =
    subst (Resting w) (sym (closed_still w.endpoint moment turns h.rests.core time))
    (record {
      rests = record { rests = record { core = h.rests.core; unheld = h.rests.unheld; unpaused = h.rests.unpaused; secret = h.rests.secret }; anew = h.anew };
      queues = refl;
      same = refl;
      told = refl;
      shown = ap length (append-nil w.shown);
    })
resting_by false w moment turns h time =
    subst (Resting w) (sym time) (record { rests = h; same = refl; queues = refl; told = refl; shown = ap length (append-nil w.shown) })

-- A closed socket stays closed while time passes.
pub resting : (w : View) (moment : ℕ) (turns : List Transition) → RestsWithoutTag w.endpoint → AdvanceTurns w.endpoint moment turns → Resting w turns
resting w moment turns h time = resting_by (nat_le w.endpoint.moment moment) w moment turns h time
