-- The side that acknowledges a COOKIE ECHO, while the clocks go on.
use Rattle.std.proofs.Common.{Bool, List, [], ap, arith, false, length, map, refl, subst, sym, true, ℕ, ◌++◌, ◌<◌, ◌∙◌, ◌∷◌, ◌≡◌, ◌≤◌}
use Rattle.std.proofs.lemmas.Bool.Decides.{nat_tests}
use Rattle.std.proofs.lemmas.List.{append-nil}
use Rattle.std.specs.Prelude.{max, nat_le}
use Rattle.dcsctp_spec_lemmas.specs.types.Settings.{ports_of}
use Rattle.dcsctp_spec_lemmas.specs.types.declared.association.Held.{Held}
use Rattle.dcsctp_spec_lemmas.specs.types.declared.association.Pair.{Pair}
use Rattle.dcsctp_spec_lemmas.specs.spec.Cookie.{Cookie}
use Rattle.dcsctp_spec_lemmas.specs.spec.Packet.{Emission, emission_bytes}
use Rattle.dcsctp_spec_lemmas.specs.spec.endpoint.CallTurns.{Transition}
use Rattle.dcsctp_spec_lemmas.specs.spec.endpoint.Endpoint.{Core, Endpoint, OpenPhase, closed, open_in}
use Rattle.dcsctp_spec_lemmas.specs.spec.endpoint.Event.{Event, event_map, packets_of_events}
use Rattle.dcsctp_spec_lemmas.specs.spec.endpoint.TimeTurns.{AdvanceTurns, AwaitsNoCookieAck, MoveClock, TimePassesQuietly, TimeTurns, deadlines_of, earliest, next_moment, next_of, timers_counted}
use Rattle.dcsctp_spec_lemmas.specs.spec.endpoint.Turn.{with_clock}
use Rattle.dcsctp_theorem_progress.specs.Cookies.{AnswersEcho, HasEchoed, MissedEcho, had, missed}
use Rattle.dcsctp_theorem_progress.proofs.Retries.{closed_still}
use Rattle.dcsctp_theorem_progress.proofs.Views.{View, told_then, view_then}

-- ---- its clock

-- The clock has gone to this moment, if it wasn't later, and nothing else happened.
pub record ClockMoves (w : View) (moment : ℕ) (turns : List Transition) : Type 0 where
  pub endpoint : (view_then w turns).endpoint ≡ with_clock (max w.endpoint.moment moment) w.endpoint
  pub told : (view_then w turns).told ≡ w.told
  pub shown : length (view_then w turns).shown ≡ length w.shown

greatest_later : (n m : ℕ) → nat_le n m ≡ true → max n m ≡ m
greatest_later n m later = grind (arith, nat_tests, later)

greatest_earlier : (n m : ℕ) → nat_le n m ≡ false → max n m ≡ n
greatest_earlier n m earlier = grind (arith, nat_tests, earlier)

not_moved : (w : View) (moment : ℕ) → nat_le w.endpoint.moment moment ≡ false → ClockMoves w moment []
not_moved w moment earlier =
    record {
      endpoint = ap (λ (n : ℕ). with_clock n w.endpoint) (sym (greatest_earlier w.endpoint.moment moment earlier));
      told = refl;
      shown = ap length (append-nil w.shown);
    }

pub closed_moves_by : (later : Bool) (w : View) (moment : ℕ) (turns : List Transition) → nat_le w.endpoint.moment moment ≡ later → w.endpoint.core ≡ closed → TimeTurns later w.endpoint moment turns
    → ClockMoves w moment turns
closed_moves_by true w moment turns is rests time =
    subst (ClockMoves w moment) (sym (closed_still w.endpoint moment turns rests time))
    (record {
      endpoint = ap (λ (n : ℕ). with_clock n w.endpoint) (sym (greatest_later w.endpoint.moment moment is));
      told = refl;
      shown = ap length (append-nil w.shown);
    })
closed_moves_by false w moment turns is rests time = subst (ClockMoves w moment) (sym time) (not_moved w moment is)

at_or_after : (n m : ℕ) → nat_le n m ≡ true → n ≤ m
at_or_after n m later = grind (arith, nat_tests, later)

pub open_moves_by : TimePassesQuietly → (later : Bool) (w : View) (phase : OpenPhase) (mine : Pair) (held : Held) (moment : ℕ) (turns : List Transition) → nat_le w.endpoint.moment moment ≡ later
    → w.endpoint.core ≡ open_in phase mine held → moment < next_moment w.endpoint → AdvanceTurns w.endpoint moment turns → ClockMoves w moment turns
open_moves_by quiet true w phase mine held moment turns is opened waits time =
    let h : MoveClock w.endpoint moment turns =
    quiet w.endpoint moment turns time
    (record { phase = subst AwaitsNoCookieAck (sym opened) tt; present = at_or_after w.endpoint.moment moment is; next = waits }) in
    record {
      endpoint = h.endpoint ∙ ap (λ (n : ℕ). with_clock n w.endpoint) (sym (greatest_later w.endpoint.moment moment is));
      told = ap (λ (events : List (Event Emission)). told_then events w.told) h.events;
      shown = ap (λ (events : List (Event Emission)). length (w.shown ++ packets_of_events (map (event_map (emission_bytes (ports_of w.endpoint.options))) events))) h.events ∙ ap length (append-nil w.shown);
    }
open_moves_by quiet false w phase mine held moment turns is opened waits time =
    subst (ClockMoves w moment) (sym (subst (λ (b : Bool). TimeTurns b w.endpoint moment turns) is time)) (not_moved w moment is)

-- ---- what is due

pub same_greatest : (n m last : ℕ) → m ≤ last → max (max n m) last ≡ max n last
same_greatest n m last fits = omega (arith, fits)

later_by : (first n m last : ℕ) → m ≤ last → last < max first n → last < max first (max n m)
later_by first n m last fits waits = omega (arith, fits, waits)

still_later : (ds : List ℕ) (n m last : ℕ) → m ≤ last → last < next_of n ds → last < next_of (max n m) ds
still_later [] n m last fits waits = waits
still_later (d ∷ ds) n m last fits waits = later_by (earliest d ds) n m last fits waits

still_waits : (f : Endpoint) (phase : OpenPhase) (mine : Pair) (held : Held) (m last : ℕ) → f.core ≡ open_in phase mine held → m ≤ last → last < next_moment f
    → last < next_moment (with_clock (max f.moment m) f)
still_waits f phase mine held m last is fits waits =
    let k : ℕ = max f.moment m in
    let g : Endpoint = with_clock k f in
    let core : Core = open_in phase mine held in
    let here : last < next_of f.moment (deadlines_of f (timers_counted core)) = subst (λ (c : Core). last < next_of f.moment (deadlines_of f (timers_counted c))) is waits in
    subst (λ (c : Core). last < next_of k (deadlines_of g (timers_counted c))) (sym is) (still_later (deadlines_of f (timers_counted core)) f.moment m last fits here)

-- ---- it acknowledges the COOKIE ECHO as before

pub record Remains (v w : View) (cookie : Cookie) (bytes : List ℕ) (last moment : ℕ) (turns : List Transition) : Type 0 where
  pub echoed : HasEchoed v.endpoint (view_then w turns).endpoint cookie bytes
  pub answers : AnswersEcho v.endpoint (view_then w turns).endpoint cookie last
  pub same : (view_then w turns).endpoint.options ≡ w.endpoint.options
  pub core : (view_then w turns).endpoint.core ≡ w.endpoint.core
  pub told : (view_then w turns).told ≡ w.told
  pub shown : length (view_then w turns).shown ≡ length w.shown
  pub late : moment ≤ (view_then w turns).endpoint.moment

echoed_still : (e f : Endpoint) (cookie : Cookie) (bytes : List ℕ) (k : ℕ) → HasEchoed e f cookie bytes → HasEchoed e (with_clock k f) cookie bytes
echoed_still e f cookie bytes k h =
    record {
      core = h.core;
      reads = h.reads;
      fits = h.fits;
      offer = h.offer;
      idle = h.idle;
      owes = h.owes;
      delay = h.delay;
      asks = h.asks;
      errors = h.errors;
    }

pub greatest_fits : (n m : ℕ) → m ≤ max n m
greatest_fits n m = omega arith

remains_by : (v w : View) (cookie : Cookie) (bytes : List ℕ) (last moment : ℕ) (turns : List Transition) → HasEchoed v.endpoint w.endpoint cookie bytes
    → AnswersEcho v.endpoint (with_clock (max w.endpoint.moment moment) w.endpoint) cookie last → ClockMoves w moment turns → Remains v w cookie bytes last moment turns
remains_by v w cookie bytes last moment turns h answers moves =
    let k : ℕ = max w.endpoint.moment moment in
    let back : with_clock k w.endpoint ≡ (view_then w turns).endpoint = sym moves.endpoint in
    record {
      echoed = subst (λ (f : Endpoint). HasEchoed v.endpoint f cookie bytes) back (echoed_still v.endpoint w.endpoint cookie bytes k h);
      answers = subst (λ (f : Endpoint). AnswersEcho v.endpoint f cookie last) back answers;
      same = ap (λ (f : Endpoint). f.options) moves.endpoint;
      core = ap (λ (f : Endpoint). f.core) moves.endpoint;
      told = moves.told;
      shown = moves.shown;
      late = subst (λ (f : Endpoint). moment ≤ f.moment) back (greatest_fits w.endpoint.moment moment);
    }

no_later : (m last next : ℕ) → m ≤ last → last < next → m < next
no_later m last next a b = omega (arith, a, b)

pub remains : TimePassesQuietly → (v w : View) (cookie : Cookie) (bytes : List ℕ) (last moment : ℕ) (turns : List Transition) → HasEchoed v.endpoint w.endpoint cookie bytes
    → AnswersEcho v.endpoint w.endpoint cookie last → moment ≤ last → AdvanceTurns w.endpoint moment turns → Remains v w cookie bytes last moment turns
remains quiet v w cookie bytes last moment turns h (missed m) fits time =
    remains_by v w cookie bytes last moment turns h
    (missed (subst (λ (n : ℕ). MissedEcho (with_clock n w.endpoint) cookie) (sym (same_greatest w.endpoint.moment moment last fits)) m))
    (closed_moves_by (nat_le w.endpoint.moment moment) w moment turns refl m.core time)
remains quiet v w cookie bytes last moment turns h (had m waits) fits time =
    remains_by v w cookie bytes last moment turns h
    (had (record { core = m.core; idle = m.idle; owes = m.owes }) (still_waits w.endpoint _ _ _ moment last m.core fits waits))
    (open_moves_by quiet (nat_le w.endpoint.moment moment) w _ _ _ moment turns refl m.core (no_later moment last (next_moment w.endpoint) fits waits) time)

-- ---- at the last moment

pub is_greatest : (n m : ℕ) → m ≤ n → max n m ≡ n
is_greatest n m fits = omega (arith, fits)

-- Its clock shows that moment or a later one: so it takes the cookie now.
pub missed_now : (f : Endpoint) (cookie : Cookie) (last : ℕ) → last ≤ f.moment → MissedEcho (with_clock (max f.moment last) f) cookie → MissedEcho f cookie
missed_now f cookie last late h =
    let now : MissedEcho (with_clock f.moment f) cookie = subst (λ (n : ℕ). MissedEcho (with_clock n f) cookie) (is_greatest f.moment last late) h in
    record { core = now.core; empty = now.empty; taken = now.taken }
