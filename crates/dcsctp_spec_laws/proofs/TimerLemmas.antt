-- The turns of T1 are turns of the association, and time that passes before the next deadline moves the clock alone.
use Rattle.std.proofs.Common.{◌≡◌, ◌≤◌, ◌<◌, ℕ, Bool, true, false, Option, None, Some, List, [], ◌∷◌, ◌++◌, refl, sym, subst, ap, ◌∙◌, arith}
use Rattle.std.specs.Prelude.{if◌then◌else◌, min, nat_le}
use Rattle.dcsctp_spec_lemmas.specs.types.declared.association.Pair.{Pair}
use Rattle.dcsctp_spec_lemmas.specs.types.declared.association.Held.{Held}
use Rattle.dcsctp_spec_lemmas.specs.spec.Packet.{cookie_echo}
use Rattle.dcsctp_spec_lemmas.specs.spec.endpoint.Endpoint.{Endpoint, Core, closed, cookie_wait, cookie_echoed, open_in}
use Rattle.dcsctp_spec_lemmas.specs.spec.endpoint.Outcome.{Outcome, still, quiet, sends, fits}
use Rattle.dcsctp_spec_lemmas.specs.spec.association.Acts.{t1_expires}
use Rattle.dcsctp_spec_lemmas.specs.spec.association.Choices.{Choices}
use Rattle.dcsctp_spec_lemmas.specs.spec.association.HandshakeChanges.{t1_again_change, t1_gives_up_change}
use Rattle.dcsctp_spec_lemmas.specs.spec.association.Controlled.{IsControlled, IsControlledAct}
use Rattle.dcsctp_spec_lemmas.specs.spec.endpoint.FlushOutcomes.{Answer, flush_answered}
use Rattle.dcsctp_spec_lemmas.specs.spec.endpoint.HandshakeOutcomes.{init_emission, echo_emission, EchoAnswers}
use Rattle.dcsctp_spec_lemmas.specs.spec.endpoint.TimerOutcomes.{endpoint_with_t1_continued, AgainAnswers, t1_again_with_flush, T1AgainTurn, t1_gives_up_outcome}
use Rattle.dcsctp_spec_lemmas.specs.spec.endpoint.OwnTimers.{acknowledgement_delay, retransmission, heartbeat_interval, heartbeat_timeout, reconfiguration}
use Rattle.dcsctp_spec_lemmas.specs.spec.endpoint.Turn.{with_clock}
use Rattle.dcsctp_spec_lemmas.specs.spec.endpoint.CallTurns.{Transition, Turns}
use Rattle.dcsctp_spec_lemmas.specs.spec.endpoint.TimeTurns.{Timer, t1_timer, own_timer, t2_timer, handled_timers, timers_counted, AwaitsNoCookieAck, deadline, with_deadline, deadlines_of, earliest, next_of, has_come, ExpiryThen, ExpiryTurns, DueTurns, MomentTurns, TimeTurns, NoneIsDue, Waits, MoveClock, TimePassesQuietly}
use Rattle.dcsctp_spec_lemmas.proofs.FlushKeeps.{IsPeerTag, rebuilds_echoed, flush_controlled}
use Rattle.dcsctp_spec_lemmas.proofs.ControlHandshake.{no_choices, choosing, still_controlled}

-- ---- as a turn of the association

init_where : (b : Bool) (e : Endpoint) (mine : Pair) → e.core ≡ cookie_wait mine
    → IsControlled e (if b then sends (endpoint_with_t1_continued e) [] [] (init_emission (endpoint_with_t1_continued e) mine) else quiet (endpoint_with_t1_continued e) [] []) (t1_again_change e.options (cookie_wait mine) (no_choices e b))
init_where true e mine is = record { core = is; options = refl; observations = refl; effects = refl; following = refl }
init_where false e mine is = record { core = is; options = refl; observations = refl; effects = refl; following = refl }

echo_where : (b : Bool) (e : Endpoint) (mine : Pair) (held : Held) (cookie : List ℕ) (answers : List Answer) → e.core ≡ cookie_echoed mine held cookie
    → EchoAnswers b (endpoint_with_t1_continued e) held.peer.tag cookie answers
    → IsControlled e (if b then flush_answered answers (endpoint_with_t1_continued e) [] [] true held.peer.tag (cookie_echo cookie ∷ []) else quiet (endpoint_with_t1_continued e) [] [])
    (t1_again_change e.options (cookie_echoed mine held cookie) (choosing e b answers))
echo_where true e mine held cookie answers is h =
    flush_controlled e (endpoint_with_t1_continued e) [] [] (echo_emission held.peer.tag cookie) answers (λ x. cookie_echoed mine x cookie) held [] [] (rebuilds_echoed mine cookie held)
    is refl (subst (λ (core : Core). IsPeerTag core held.peer.tag) (sym is) refl) h refl refl refl
echo_where false e mine held cookie answers is h = record { core = is; options = refl; observations = refl; effects = refl; following = refl }

again_at : (e : Endpoint) (core : Core) (answers : List Answer) → e.core ≡ core → AgainAnswers (endpoint_with_t1_continued e) core answers
    → (choices : Choices) × IsControlled e (t1_again_with_flush (flush_answered answers) e core) (t1_again_change e.options core choices)
again_at e closed answers is h = (no_choices e true, record { core = is; options = refl; observations = refl; effects = refl; following = refl })
again_at e (cookie_wait mine) answers is h =
    let b = fits (endpoint_with_t1_continued e) (init_emission (endpoint_with_t1_continued e) mine) in (no_choices e b, init_where b e mine is)
again_at e (cookie_echoed mine held cookie) answers is h =
    let b = fits (endpoint_with_t1_continued e) (echo_emission held.peer.tag cookie) in
    (choosing e b answers, echo_where b e mine held cookie answers is h)
again_at e (open_in phase mine held) answers is h = (no_choices e true, record { core = is; options = refl; observations = refl; effects = refl; following = refl })

gives_up_at : (e : Endpoint) (core : Core) → e.core ≡ core → IsControlled e (t1_gives_up_outcome e core) (t1_gives_up_change core)
gives_up_at e closed is = still_controlled e closed is
gives_up_at e (cookie_wait mine) is = record { core = refl; options = refl; observations = refl; effects = refl; following = refl }
gives_up_at e (cookie_echoed mine held cookie) is = record { core = refl; options = refl; observations = refl; effects = refl; following = refl }
gives_up_at e (open_in phase mine held) is = still_controlled e (open_in phase mine held) is

pub t1_again_controlled : (e : Endpoint) (o : Outcome) → T1AgainTurn e o → IsControlledAct e (t1_expires true) o
t1_again_controlled e o turn = subst (IsControlledAct e (t1_expires true)) (sym turn.2) (again_at e e.core turn.0 refl turn.1)

pub t1_gives_up_controlled : (e : Endpoint) (o : Outcome) → o ≡ t1_gives_up_outcome e e.core → IsControlledAct e (t1_expires false) o
t1_gives_up_controlled e o turn = subst (IsControlledAct e (t1_expires false)) (sym turn) (no_choices e true, gives_up_at e e.core refl)

-- ---- where nothing is due

-- each of these deadlines is after the moment
abbrev AllBehind : ℕ → List ℕ → Type 0
AllBehind moment [] = Unit {0}
AllBehind moment (deadline ∷ deadlines) = moment < deadline × AllBehind moment deadlines

behind_earliest : (moment first : ℕ) (others : List ℕ) → moment < earliest first others → moment < first × AllBehind moment others
behind_earliest moment first [] before = (before, tt)
behind_earliest moment first (other ∷ others) before =
    let rest : moment < min first other × AllBehind moment others = behind_earliest moment (min first other) others before in
    let least : moment < min first other = rest.0 in
    (grind arith, (grind arith, rest.1))

behind_next : (moment present : ℕ) (deadlines : List ℕ) → present ≤ moment → moment < next_of present deadlines → AllBehind moment deadlines
behind_next moment present [] later before = tt
behind_next moment present (first ∷ others) later before = behind_earliest moment first others (grind arith)

-- None of these timers is due at the moment.
abbrev AllWait : ℕ → Endpoint → List Timer → Type 0
AllWait moment e [] = Unit {0}
AllWait moment e (timer ∷ timers) = (has_come moment (deadline e timer) ≡ false) × AllWait moment e timers

first_waits : (moment : ℕ) (d : Option ℕ) (others : List ℕ) → AllBehind moment (with_deadline d others) → (has_come moment d ≡ false) × AllBehind moment others
first_waits moment None others behind = (refl, behind)
first_waits moment (Some d) others behind = (grind arith, behind.1)

all_wait_of : (moment : ℕ) (e : Endpoint) (timers : List Timer) → AllBehind moment (deadlines_of e timers) → AllWait moment e timers
all_wait_of moment e [] behind = tt
all_wait_of moment e (timer ∷ timers) behind =
    let first : (has_come moment (deadline e timer) ≡ false) × AllBehind moment (deadlines_of e timers) = first_waits moment (deadline e timer) (deadlines_of e timers) behind in
    (first.0, all_wait_of moment e timers first.1)

all_wait : (moment : ℕ) (e : Endpoint) (timers : List Timer) → e.moment ≤ moment → moment < next_of e.moment (deadlines_of e timers) → AllWait moment e timers
all_wait moment e timers later before = all_wait_of moment e timers (behind_next moment e.moment (deadlines_of e timers) later before)

-- The clock moves no deadline.
clock_keeps : (moment : ℕ) (e : Endpoint) (timer : Timer) → deadline (with_clock moment e) timer ≡ deadline e timer
clock_keeps moment e t1_timer = refl
clock_keeps moment e (own_timer acknowledgement_delay) = refl
clock_keeps moment e (own_timer retransmission) = refl
clock_keeps moment e (own_timer heartbeat_interval) = refl
clock_keeps moment e (own_timer heartbeat_timeout) = refl
clock_keeps moment e (own_timer reconfiguration) = refl
clock_keeps moment e t2_timer = refl

none_at : (moment : ℕ) (e : Endpoint) (timers : List Timer) → AllWait moment e timers → NoneIsDue (with_clock moment e) timers
none_at moment e [] wait = tt
none_at moment e (timer ∷ timers) wait = (ap (has_come moment) (clock_keeps moment e timer) ∙ wait.0, none_at moment e timers wait.1)

-- None of these timers is due at a moment before the next deadline.
pub none_is_due : (moment : ℕ) (e : Endpoint) (timers : List Timer) → e.moment ≤ moment → moment < next_of e.moment (deadlines_of e timers) → NoneIsDue (with_clock moment e) timers
none_is_due moment e timers later before = none_at moment e timers (all_wait moment e timers later before)

all_rest : (e : Endpoint) (timers : List Timer) (turns : List Transition) → NoneIsDue e timers → ExpiryTurns timers false e turns → Turns e [] turns
all_rest e [] turns wait taken = taken
all_rest e (timer ∷ timers) turns wait taken =
    all_rest e timers turns wait.1 (subst (λ (b : Bool). ExpiryThen b (ExpiryTurns timers) e false timer turns) wait.0 taken)

moved_alone : (e : Endpoint) (moment : ℕ) (moved : Transition) (turns : List Transition) → moved.outcome ≡ still (with_clock moment e) → Turns moved.outcome.after [] turns → MoveClock e moment (moved ∷ turns)
moved_alone e moment moved [] is rest =
    record {
      endpoint = ap (λ (o : Outcome). o.after) is;
      events = ap (λ (o : Outcome). o.events ++ []) is;
      words = ap (λ (o : Outcome). o.words ++ []) is;
      effects = ap (λ (o : Outcome). o.effects ++ []) is;
    }
moved_alone e moment moved (turn ∷ turns) is rest = absurd rest

-- All timers that are handled have deadlines that count.
all_told : (core : Core) → AwaitsNoCookieAck core → timers_counted core ≡ handled_timers core
all_told closed awaits = refl
all_told (cookie_wait mine) awaits = refl
all_told (cookie_echoed mine held cookie) awaits = absurd awaits
all_told (open_in phase mine held) awaits = refl

quiet_moment : (e : Endpoint) (moment : ℕ) (turns : List Transition) → MomentTurns e moment turns → Waits e moment → MoveClock e moment turns
quiet_moment e moment [] taken waits = absurd taken
quiet_moment e moment (moved ∷ turns) taken waits =
    let due : DueTurns (with_clock moment e) turns = subst (λ (o : Outcome). DueTurns o.after turns) taken.0.comes taken.1 in
    let wait : NoneIsDue (with_clock moment e) (handled_timers e.core) = none_is_due moment e (handled_timers e.core) waits.present
    (subst (λ (timers : List Timer). moment < next_of e.moment (deadlines_of e timers)) (all_told e.core waits.phase) waits.next) in
    let none : Turns (with_clock moment e) [] turns = all_rest (with_clock moment e) (handled_timers e.core) turns wait due in
    moved_alone e moment moved turns taken.0.comes (subst (λ (o : Outcome). Turns o.after [] turns) (sym taken.0.comes) none)

quiet_at : (e : Endpoint) (moment : ℕ) (b : Bool) (turns : List Transition) → b ≡ true → TimeTurns b e moment turns → Waits e moment → MoveClock e moment turns
quiet_at e moment true turns is taken waits = quiet_moment e moment turns taken waits
quiet_at e moment false turns is taken waits = absurd (cc)

pub time_passes_quietly : TimePassesQuietly
time_passes_quietly e moment turns taken waits = quiet_at e moment (nat_le e.moment moment) turns (grind arith) taken waits
