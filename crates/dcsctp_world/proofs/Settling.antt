-- What a world shows of its rounds is what its run has of them.
use Rattle.std.specs.Prelude.{min}
use Rattle.std.proofs.Common.{◌≡◌, ℕ, zero, suc, ◌+◌, ◌-◌, ◌<◌, Err, List, [], ◌∷◌, ◌++◌, map, length, refl, sym, ap, subst, ◌∙◌, arith}
use Rattle.std.proofs.lemmas.List.{map-append}
use Rattle.rand_core.specs.Stream.{Stream}
use Rattle.dcsctp_core.specs.types.declared.options.Options.{Options}
use Rattle.dcsctp_core.specs.types.declared.schedule.Side.{Side}
use Rattle.dcsctp_core.specs.types.declared.schedule.Side.TheVariants as sides
use Rattle.dcsctp_core.specs.types.Schedule.{StepContent, delivery_step, ActContent, step_act}
use Rattle.dcsctp_core.specs.spec.endpoint.CallTurns.{Transition}
use Rattle.dcsctp_core.specs.spec.endpoint.Endpoint.{Endpoint}
use Rattle.dcsctp_core.specs.spec.endpoint.TimeTurns.{next_moment}
use Rattle.dcsctp_spec_runs.specs.Sockets.{PerformedAct, Both, turns_after, endpoint_after}
use Rattle.dcsctp_theorem_progress.specs.Rounds.{counts_shown, lesser_moment, clocks, deliveries, exchange, QuietRound, QuietRounds}
use Rattle.dcsctp_core.specs.api.declared.errors.SocketFault.{SocketFault}
use Rattle.dcsctp_core.specs.api.declared.errors.SocketFault.TheVariants.{OutOfMemory, Failed}
use Rattle.dcsctp_world.specs.Acts.{Ran, RunsSteps}
use Rattle.dcsctp_world.specs.Continuing.{ShowsAfter}
use Rattle.dcsctp_world.specs.Recording.{Recording}
use Rattle.dcsctp_world.specs.Rounds.{emitted_counts, earlier_moment, clock_steps, delivery_steps, exchange_steps, ExchangesOnce, ShowsRounds, Settles, SettlesOnce, SettlesOrFails}
use Rattle.dcsctp_world.specs.Run.{IsRun}
use Rattle.dcsctp_world.specs.Shown.{WorldView}
use Rattle.dcsctp_world.proofs.Following.{ran_further, ran_none_is, runs_further, stops_before, Stops}

-- ---- what is shown

both_are : (a b m n : ℕ) → a ≡ m → b ≡ n →
    let left : Both ℕ = record { a = a; b = b } in
    let right : Both ℕ = record { a = m; b = n } in
    left ≡ right
both_are a b m n left right = cc

pub counts_are : {R : Type 0} (options : Both Options) (world : WorldView R) (h : IsRun options world) → emitted_counts world ≡ counts_shown options (turns_after h.steps)
counts_are options world h =
    both_are _ _ _ _ (ap (λ (l : List (List ℕ)). length l) (h.sides sides.A).packets) (ap (λ (l : List (List ℕ)). length l) (h.sides sides.B).packets)

moment_is : {R : Type 0} (options : Both Options) (world : WorldView R) (h : IsRun options world) → earlier_moment world ≡ lesser_moment options (turns_after h.steps)
moment_is options world h =
    ap (λ (e : Endpoint). min (next_moment e) (next_moment world.sides.b.socket.view.endpoint)) (h.sides sides.A).endpoint
    ∙ ap (λ (e : Endpoint). min (next_moment (endpoint_after options.a (turns_after h.steps).a)) (next_moment e)) (h.sides sides.B).endpoint

-- ---- the acts of these steps

deliveries_are : (side : Side) (first more : ℕ) → map step_act (delivery_steps side first more) ≡ deliveries side first more
deliveries_are side first zero = refl
deliveries_are side first (suc more) = ap (λ (l : List ActContent). step_act (delivery_step side (suc first)) ∷ l) (deliveries_are side (suc first) more)

exchange_is : (options : Both Options) (turns : Both (List Transition)) (settled : Both ℕ) → map step_act (exchange_steps settled (counts_shown options turns)) ≡ exchange options turns settled
exchange_is options turns settled =
    let shown : Both ℕ = counts_shown options turns in
    map-append step_act (delivery_steps sides.B settled.a (shown.a - settled.a)) (delivery_steps sides.A settled.b (shown.b - settled.b))
    ∙ ap (λ (l : List ActContent). l ++ map step_act (delivery_steps sides.A settled.b (shown.b - settled.b))) (deliveries_are sides.B settled.a (shown.a - settled.a))
    ∙ ap (λ (l : List ActContent). deliveries sides.B settled.a (shown.a - settled.a) ++ l) (deliveries_are sides.A settled.b (shown.b - settled.b))

-- so many deliveries, and then more
deliveries_split : (side : Side) (first done more : ℕ) → delivery_steps side first (done + more) ≡ delivery_steps side first done ++ delivery_steps side (first + done) more
deliveries_split side first zero more =
    let e : 0 + more ≡ more = omega arith in
    let i : first ≡ first + 0 = omega arith in
    ap (λ (n : ℕ). delivery_steps side first n) e ∙ ap (λ (n : ℕ). delivery_steps side n more) i
deliveries_split side first (suc done) more =
    let e : suc done + more ≡ suc (done + more) = omega arith in
    let i : suc first + done ≡ first + suc done = omega arith in
    ap (λ (n : ℕ). delivery_steps side first n) e
    ∙ ap (λ (l : List StepContent). delivery_step side (suc first) ∷ l)
    (deliveries_split side (suc first) done more ∙ ap (λ (n : ℕ). delivery_steps side (suc first) done ++ delivery_steps side n more) i)

-- ---- deliveries one by one

module _ {R : Type 0} (stream : R → Stream) (side : Side) (first : ℕ) where
  pub delivered_none : (old new : WorldView (Recording R)) → Ran stream [] old new → Ran stream (delivery_steps side first 0) old new
  delivered_none old new ran = ran

  pub delivered_next : (done : ℕ) (old now new : WorldView (Recording R)) → Ran stream (delivery_steps side first done) old now
      → Ran stream (delivery_step side (first + done + 1) ∷ []) now new → Ran stream (delivery_steps side first (done + 1)) old new
  delivered_next done old now new before ran =
      let e : first + done + 1 ≡ suc (first + done) = omega arith in
      let one : Ran stream (delivery_steps side (first + done) 1) now new = subst (λ (n : ℕ). Ran stream (delivery_step side n ∷ []) now new) e ran in
      subst (λ (l : List StepContent). Ran stream l old new) (sym (deliveries_split side first done 1)) (ran_further stream (delivery_steps side first done) (delivery_steps side (first + done) 1) old now new before one)

  -- One can't be done.
  pub delivered_stops : (done count : ℕ) (fault : SocketFault) (old now new : WorldView (Recording R)) → done < count → Ran stream (delivery_steps side first done) old now
      → RunsSteps stream (delivery_step side (first + done + 1) ∷ []) now (Err fault) new → RunsSteps stream (delivery_steps side first count) old (Err fault) new
  delivered_stops done count fault old now new within before stops =
      let e : first + done + 1 ≡ suc (first + done) = omega arith in
      let left : ℕ = count - suc done in
      let all : done + suc left ≡ count = omega (arith, within) in
      let one : RunsSteps stream (delivery_step side (suc (first + done)) ∷ []) now (Err fault) new = subst (λ (n : ℕ). RunsSteps stream (delivery_step side n ∷ []) now (Err fault) new) e stops in
      let rest : RunsSteps stream (delivery_steps side (first + done) (suc left)) now (Err fault) new =
      stops_before stream (delivery_step side (suc (first + done)) ∷ []) (delivery_steps side (suc (first + done)) left) now new fault one in
      subst (λ (n : ℕ). RunsSteps stream (delivery_steps side first n) old (Err fault) new) all
      (subst (λ (l : List StepContent). RunsSteps stream l old (Err fault) new) (sym (deliveries_split side first done (suc left)))
      (runs_further stream (delivery_steps side first done) (delivery_steps side (first + done) (suc left)) old now new before (Err fault) rest))

-- ---- the parts of a round, over each run

module _ {R : Type 0} (stream : R → Stream) where
  clocks_run : (old new : WorldView (Recording R)) → Ran stream (clock_steps (earlier_moment old)) old new → (options : Both Options) (earlier : IsRun options old)
      → ShowsAfter options earlier.steps (clocks (lesser_moment options (turns_after earlier.steps))) new
  clocks_run old new ran options earlier = subst (λ (n : ℕ). ShowsAfter options earlier.steps (clocks n) new) (moment_is options old earlier) (ran.continues options earlier)

  exchange_runs : (settled : Both ℕ) (old new : WorldView (Recording R)) → Ran stream (exchange_steps settled (emitted_counts old)) old new → (options : Both Options) (earlier : IsRun options old)
      → ShowsAfter options earlier.steps (exchange options (turns_after earlier.steps) settled) new
  exchange_runs settled old new ran options earlier =
      let turns : Both (List Transition) = turns_after earlier.steps in
      let acts : map step_act (exchange_steps settled (emitted_counts old)) ≡ exchange options turns settled =
      ap (λ (shown : Both ℕ). map step_act (exchange_steps settled shown)) (counts_are options old earlier) ∙ exchange_is options turns settled in
      subst (λ (l : List ActContent). ShowsAfter options earlier.steps l new) acts (ran.continues options earlier)

  -- the next exchange, where another has settled what was there
  exchange_next : (between old new : WorldView (Recording R)) → Ran stream (exchange_steps (emitted_counts between) (emitted_counts old)) old new → (options : Both Options) (before : IsRun options between)
      (earlier : IsRun options old) → ShowsAfter options earlier.steps (exchange options (turns_after earlier.steps) (counts_shown options (turns_after before.steps))) new
  exchange_next between old new ran options before earlier =
      subst (λ (settled : Both ℕ). ShowsAfter options earlier.steps (exchange options (turns_after earlier.steps) settled) new) (counts_are options between before)
      (exchange_runs (emitted_counts between) old new ran options earlier)

  round_runs : (settled : Both ℕ) (old w0 w1 w2 w3 new : WorldView (Recording R)) → Ran stream (clock_steps (earlier_moment old)) old w0 → Ran stream (exchange_steps settled (emitted_counts w0)) w0 w1
      → Ran stream (exchange_steps (emitted_counts w0) (emitted_counts w1)) w1 w2 → Ran stream (exchange_steps (emitted_counts w1) (emitted_counts w2)) w2 w3
      → Ran stream (exchange_steps (emitted_counts w2) (emitted_counts w3)) w3 new → (options : Both Options) (earlier : IsRun options old)
      → ShowsRounds options 1 settled earlier.steps (emitted_counts w3) new
  round_runs settled old w0 w1 w2 w3 new time first second third last options earlier =
      let t : ShowsAfter options earlier.steps (clocks (lesser_moment options (turns_after earlier.steps))) w0 = clocks_run old w0 time options earlier in
      let h1 : ShowsAfter options t.shown.steps (exchange options (turns_after t.shown.steps) settled) w1 = exchange_runs settled w0 w1 first options t.shown in
      let h2 : ShowsAfter options h1.shown.steps (exchange options (turns_after h1.shown.steps) (counts_shown options (turns_after t.shown.steps))) w2 =
      exchange_next w0 w1 w2 second options t.shown h1.shown in
      let h3 : ShowsAfter options h2.shown.steps (exchange options (turns_after h2.shown.steps) (counts_shown options (turns_after h1.shown.steps))) w3 =
      exchange_next w1 w2 w3 third options h1.shown h2.shown in
      let h4 : ShowsAfter options h3.shown.steps (exchange options (turns_after h3.shown.steps) (counts_shown options (turns_after h2.shown.steps))) new =
      exchange_next w2 w3 new last options h2.shown h3.shown in
      let round : QuietRound options settled earlier.steps (emitted_counts w3) h4.shown.steps = record {
        between = t.shown.steps;
        time = t.follows;
        exchanges = (
          h1.shown.steps,
          h1.follows,
          (h2.shown.steps, h2.follows, (h3.shown.steps, h3.follows, (h4.shown.steps, h4.follows, (counts_are options w3 h3.shown, refl)))),
        );
      } in
      record { shown = h4.shown; quiet = (emitted_counts w3, h4.shown.steps, round, (refl, refl)) }

  -- a round of these parts
  pub round_settles : (settled : Both ℕ) (old w0 w1 w2 w3 new : WorldView (Recording R)) → Ran stream (clock_steps (earlier_moment old)) old w0 → Ran stream (exchange_steps settled (emitted_counts w0)) w0 w1
      → Ran stream (exchange_steps (emitted_counts w0) (emitted_counts w1)) w1 w2 → Ran stream (exchange_steps (emitted_counts w1) (emitted_counts w2)) w2 w3
      → Ran stream (exchange_steps (emitted_counts w2) (emitted_counts w3)) w3 new → Settles stream 1 settled (emitted_counts w3) old new
  round_settles settled old w0 w1 w2 w3 new time first second third last =
      record {
        steps = _;
        ran = ran_further stream _ _ old w3 new
            (ran_further stream _ _ old w2 w3 (ran_further stream _ _ old w1 w2 (ran_further stream _ _ old w0 w1 time first) second) third) last;
        continues = round_runs settled old w0 w1 w2 w3 new time first second third last;
      }

-- ---- rounds after others

rounds_further : (options : Both Options) (count : ℕ) (settled now settled' : Both ℕ) (earlier between run : List PerformedAct) → QuietRounds options count settled earlier now between
    → QuietRounds options 1 now between settled' run → QuietRounds options (suc count) settled earlier settled' run
rounds_further options zero settled now settled' earlier between run first second =
    subst (λ (s : Both ℕ). QuietRounds options 1 s earlier settled' run) first.0 (subst (λ (r : List PerformedAct). QuietRounds options 1 now r settled' run) first.1 second)
rounds_further options (suc count) settled now settled' earlier between run first second =
    (first.0, first.1, first.2, rounds_further options count first.0 now settled' first.1 between run first.3 second)

pub settles_further : {R : Type 0} (stream : R → Stream) (count : ℕ) (settled now settled' : Both ℕ) (old between new : WorldView (Recording R)) → Settles stream count settled now old between
    → Settles stream 1 now settled' between new → Settles stream (count + 1) settled settled' old new
settles_further {R = R} stream count settled now settled' old between new first second =
    let e : suc count ≡ count + 1 = omega arith in
    subst (λ (n : ℕ). Settles stream n settled settled' old new) e
    (record {
      steps = first.steps ++ second.steps;
      ran = ran_further stream first.steps second.steps old between new first.ran second.ran;
      continues = λ options earlier.
          let h : ShowsRounds options count settled earlier.steps now between = first.continues options earlier in
          let i : ShowsRounds options 1 now h.shown.steps settled' new = second.continues options h.shown in
          record { shown = i.shown; quiet = rounds_further options count settled now settled' earlier.steps h.shown.steps i.shown.steps h.quiet i.quiet };
    })

-- none yet
pub settles_none : {R : Type 0} (stream : R → Stream) (settled : Both ℕ) (world : WorldView (Recording R)) → Ran stream [] world world → Settles stream 0 settled settled world world
settles_none stream settled world ran = record { steps = []; ran = ran; continues = λ options earlier. record { shown = earlier; quiet = (refl, refl) } }

-- before the first
pub settle_begins : {R : Type 0} (stream : R → Stream) (counts : Both ℕ) (old start : WorldView (Recording R)) → Ran stream [] old start → counts ≡ emitted_counts start
    → Settles stream 0 (emitted_counts old) counts old start
settle_begins {R = R} stream counts old start ran is =
    let same : start ≡ old = ran_none_is stream old start ran in
    let none : Settles stream 0 (emitted_counts old) (emitted_counts old) old old = settles_none stream (emitted_counts old) old (subst (λ (w : WorldView (Recording R)). Ran stream [] old w) same ran) in
    subst (λ (c : Both ℕ). Settles stream 0 (emitted_counts old) c old start) (sym is)
    (subst (λ (w : WorldView (Recording R)). Settles stream 0 (emitted_counts old) (emitted_counts w) old w) (sym same) none)

-- ---- what stops

module _ {R : Type 0} (stream : R → Stream) where
  pub exchange_stops : (settled : Both ℕ) (old new : WorldView (Recording R)) (fault : SocketFault) → Stops stream old fault new → ExchangesOnce stream settled old (Err fault) new
  exchange_stops settled old new OutOfMemory h = h
  exchange_stops settled old new Failed h = h

  pub exchange_stopped : (settled : Both ℕ) (old new : WorldView (Recording R)) (fault : SocketFault) → ExchangesOnce stream settled old (Err fault) new → Stops stream old fault new
  exchange_stopped settled old new OutOfMemory h = h
  exchange_stopped settled old new Failed h = h

  pub round_stops : (settled : Both ℕ) (old new : WorldView (Recording R)) (fault : SocketFault) → Stops stream old fault new → SettlesOnce stream settled old (Err fault) new
  round_stops settled old new OutOfMemory h = h
  round_stops settled old new Failed h = h

  pub round_stopped : (settled : Both ℕ) (old new : WorldView (Recording R)) (fault : SocketFault) → SettlesOnce stream settled old (Err fault) new → Stops stream old fault new
  round_stopped settled old new OutOfMemory h = h
  round_stopped settled old new Failed h = h

  pub settle_stops : (count : ℕ) (old new : WorldView (Recording R)) (fault : SocketFault) → Stops stream old fault new → SettlesOrFails stream count old (Err fault) new
  settle_stops count old new OutOfMemory h = h
  settle_stops count old new Failed h = h

  -- ---- what is done

  -- an exchange of what is shown
  pub exchange_done : (settled shown : Both ℕ) (old now new : WorldView (Recording R)) → shown ≡ emitted_counts old → Ran stream (delivery_steps sides.B settled.a (shown.a - settled.a)) old now
      → Ran stream (delivery_steps sides.A settled.b (shown.b - settled.b)) now new → (shown ≡ emitted_counts old) × Ran stream (exchange_steps settled (emitted_counts old)) old new
  exchange_done settled shown old now new is to_b to_a =
      (is, subst (λ (counts : Both ℕ). Ran stream (exchange_steps settled counts) old new) is (ran_further stream _ _ old now new to_b to_a))

  -- a round, whose exchanges give these counts
  pub round_done : (settled first second third last : Both ℕ) (old w0 w1 w2 w3 new : WorldView (Recording R)) → Ran stream (clock_steps (earlier_moment old)) old w0
      → (first ≡ emitted_counts w0) × Ran stream (exchange_steps settled (emitted_counts w0)) w0 w1 → (second ≡ emitted_counts w1) × Ran stream (exchange_steps first (emitted_counts w1)) w1 w2
      → (third ≡ emitted_counts w2) × Ran stream (exchange_steps second (emitted_counts w2)) w2 w3 → (last ≡ emitted_counts w3) × Ran stream (exchange_steps third (emitted_counts w3)) w3 new
      → Settles stream 1 settled last old new
  round_done settled first second third last old w0 w1 w2 w3 new time h1 h2 h3 h4 =
      subst (λ (counts : Both ℕ). Settles stream 1 settled counts old new) (sym h4.0)
      (round_settles stream settled old w0 w1 w2 w3 new time h1.1
      (subst (λ (counts : Both ℕ). Ran stream (exchange_steps counts (emitted_counts w1)) w1 w2) h1.0 h2.1)
      (subst (λ (counts : Both ℕ). Ran stream (exchange_steps counts (emitted_counts w2)) w2 w3) h2.0 h3.1)
      (subst (λ (counts : Both ℕ). Ran stream (exchange_steps counts (emitted_counts w3)) w3 new) h3.0 h4.1))
