-- What is known of T1 when its handler restarts it or gives up.
use Rattle.std.proofs.Common.{◌≡◌, ℕ, Bool, true, false, cond, Option, None, Some, List, [], refl, sym, ap, subst, ◌∙◌}
use Rattle.std.specs.Option.{option_map}
use Rattle.rand_core.specs.Stream.{Stream}
use Rattle.dcsctp_core.specs.types.declared.association.Pair.{Pair}
use Rattle.dcsctp_core.specs.types.declared.association.Held.{Held}
use Rattle.dcsctp_core.specs.spec.endpoint.Event.{Event}
use Rattle.dcsctp_core.specs.spec.endpoint.Endpoint.{Endpoint, Core, cookie_wait, cookie_echoed}
use Rattle.dcsctp_core.specs.spec.endpoint.Timers.{RunningTimer, is_timer_expired, is_restarted, continued_timer}
use Rattle.dcsctp_core.specs.spec.endpoint.Outcome.{Outcome, still, emits}
use Rattle.dcsctp_core.specs.spec.endpoint.TimeTurns.{deadline_of, has_come, has_restart, t1_timer}
use Rattle.dcsctp_core.specs.spec.endpoint.Turn.{ActTurn}
use Rattle.dcsctp_core.specs.spec.association.Acts.{t1_expires}
use Rattle.dcsctp_core.specs.spec.endpoint.FlushOutcomes.{Answer, flush_answered}
use Rattle.dcsctp_core.specs.spec.endpoint.HandshakeOutcomes.{init_emission}
use Rattle.dcsctp_core.specs.spec.endpoint.TimerOutcomes.{endpoint_with_t1_continued, send_again_with_flush, AgainAnswers, t1_gives_up_outcome}
use Rattle.dcsctp_core.specs.spec.endpoint.Timers.{running_after}
use Rattle.dcsctp_core.specs.declared.context.Context.{Context}
use Rattle.dcsctp_core.specs.declared.expiry.Expiry.TheVariants.{Again, GaveUp}
use Rattle.dcsctp_core.specs.declared.state.State.{State}
use Rattle.dcsctp_core.specs.declared.state.State.TheVariants.{Closed, CookieWait, CookieEchoed, Open}
use Rattle.dcsctp_core.specs.Handling.{TakesPossibleTurn, CutsSomeTurn}
use Rattle.dcsctp_core.specs.Timing.{expiry_if_due, expiry_of, state_after_t1, ExpiryTurn, is_timer_due}
use Rattle.dcsctp_core.specs.View.{View, Moves, view_of, endpoint_of, core_of, t1_of}
use Rattle.dcsctp_core.proofs.Composing.{cut_first}
use Rattle.dcsctp_core.proofs.Moving.{moves_still}
use Rattle.dcsctp_core_handshake.specs.Handshake.{echo_with_flush, EchoesCookie}
use Rattle.dcsctp_core_handshake.specs.Timing.{RepeatsHandshakePacket}

-- ---- what T1 is

again_both : (due restarts : Bool) → Again ≡ expiry_if_due due restarts → (due ≡ true) × (restarts ≡ true)
again_both true true is = (refl, refl)
again_both true false is = absurd (cc)
again_both false restarts is = absurd (cc)

goes_on : (due restarts : Bool) (timer next : RunningTimer) → due ≡ true → restarts ≡ true → cond due (cond restarts (Some next) None) (Some timer) ≡ Some next
goes_on true true timer next d r = refl
goes_on true false timer next d r = absurd (cc)
goes_on false restarts timer next d r = absurd (cc)

-- It is due, and runs again.
pub record IsAgain (moment : ℕ) (t1 : Option RunningTimer) : Type 0 where
  pub due : has_come moment (deadline_of t1) ≡ true
  pub restarts : has_restart t1 ≡ true
  pub running : running_after moment t1 ≡ option_map (continued_timer moment) t1

again_is : (moment : ℕ) (t1 : Option RunningTimer) → Again ≡ expiry_of moment t1 → IsAgain moment t1
again_is moment None is = absurd (cc)
again_is moment (Some timer) is =
    let both : (is_timer_expired moment timer ≡ true) × (is_restarted timer ≡ true) = again_both (is_timer_expired moment timer) (is_restarted timer) is in
    record { due = both.0; restarts = both.1; running = goes_on (is_timer_expired moment timer) (is_restarted timer) timer (continued_timer moment timer) both.0 both.1 }

gave_up_both : (due restarts : Bool) → GaveUp ≡ expiry_if_due due restarts → (due ≡ true) × (restarts ≡ false)
gave_up_both true true is = absurd (cc)
gave_up_both true false is = (refl, refl)
gave_up_both false restarts is = absurd (cc)

-- It is due, and doesn't run again.
gave_up_is : (moment : ℕ) (t1 : Option RunningTimer) → GaveUp ≡ expiry_of moment t1 → (has_come moment (deadline_of t1) ≡ true) × (has_restart t1 ≡ false)
gave_up_is moment None is = absurd (cc)
gave_up_is moment (Some timer) is = gave_up_both (is_timer_expired moment timer) (is_restarted timer) is

-- ---- the packet is sent again

-- a turn of it, by the association
pub again_turn : {R : Type 0} (view : View R) (core : Core) (answers : List Answer) → view.endpoint.core ≡ core → AgainAnswers view.endpoint core answers
    → RepeatsHandshakePacket view (send_again_with_flush (flush_answered answers) view.endpoint core)
again_turn view core answers is allowed = (
  answers,
  subst (λ (c : Core). AgainAnswers view.endpoint c answers) (sym is) allowed,
  ap (send_again_with_flush (flush_answered answers) view.endpoint) (sym is),
)

-- where nothing is awaited
pub again_nothing : {R : Type 0} (stream : R → Stream) (view : View R) (core : Core) → view.endpoint.core ≡ core → AgainAnswers view.endpoint core []
    → send_again_with_flush (flush_answered []) view.endpoint core ≡ still view.endpoint → TakesPossibleTurn stream RepeatsHandshakePacket view view
again_nothing stream view core is allowed nothing =
    record {
      outcome = send_again_with_flush (flush_answered []) view.endpoint core;
      turn = again_turn view core [] is allowed;
      moves = subst (λ (o : Outcome). Moves stream view o view) (sym nothing) (moves_still stream view);
    }

-- the INIT
pub again_init : {R : Type 0} (stream : R → Stream) (old new : View R) (mine : Pair) → old.endpoint.core ≡ cookie_wait mine
    → Moves stream old (emits old.endpoint [] (init_emission old.endpoint mine)) new → TakesPossibleTurn stream RepeatsHandshakePacket old new
again_init stream old new mine is m = record { outcome = emits old.endpoint [] (init_emission old.endpoint mine); turn = again_turn old (cookie_wait mine) [] is refl; moves = m }

pub again_init_cut : {R : Type 0} (old new : View R) (mine : Pair) → old.endpoint.core ≡ cookie_wait mine → new ≡ old → CutsSomeTurn RepeatsHandshakePacket old new.events
again_init_cut {R = R} old new mine is same =
    let o : Outcome = emits old.endpoint [] (init_emission old.endpoint mine) in
    record { outcome = o; turn = again_turn old (cookie_wait mine) [] is refl; cut = cut_first old o new.events (ap (λ (v : View R). v.events) same) }

-- the COOKIE ECHO
echo_is : {R : Type 0} (old : View R) (mine : Pair) (held : Held) (cookie : List ℕ) (o : Outcome) → old.endpoint.core ≡ cookie_echoed mine held cookie → EchoesCookie old o → RepeatsHandshakePacket old o
echo_is old mine held cookie o is turn = (
  turn.0,
  turn.1,
  turn.2 ∙ ap (echo_with_flush (flush_answered turn.0) old.endpoint) is ∙ ap (send_again_with_flush (flush_answered turn.0) old.endpoint) (sym is),
)

pub again_echo : {R : Type 0} (stream : R → Stream) (old new : View R) (mine : Pair) (held : Held) (cookie : List ℕ) → old.endpoint.core ≡ cookie_echoed mine held cookie
    → TakesPossibleTurn stream EchoesCookie old new → TakesPossibleTurn stream RepeatsHandshakePacket old new
again_echo stream old new mine held cookie is t = record { outcome = t.outcome; turn = echo_is old mine held cookie t.outcome is t.turn; moves = t.moves }

pub again_echo_cut : {R : Type 0} (old : View R) (es : List (Event (List ℕ))) (mine : Pair) (held : Held) (cookie : List ℕ) → old.endpoint.core ≡ cookie_echoed mine held cookie
    → CutsSomeTurn EchoesCookie old es → CutsSomeTurn RepeatsHandshakePacket old es
again_echo_cut old es mine held cookie is t = record { outcome = t.outcome; turn = echo_is old mine held cookie t.outcome is t.turn; cut = t.cut }

-- ---- the turn of T1

-- the socket once T1 was advanced to the moment
abbrev pub told : {R : Type 0} → Context R → Context R
told old = record old { state = state_after_t1 old.moment old.state }

-- T1 runs again there.
told_at : {R : Type 0} (old : Context R) (state : State) → Again ≡ expiry_of old.moment (t1_of state)
    → endpoint_of (record old { state = state_after_t1 old.moment state }) ≡ endpoint_with_t1_continued (endpoint_of (record old { state = state }))
told_at old Closed is = absurd (cc)
told_at old (CookieWait wait) is =
    let e : Endpoint = endpoint_of (record old { state = CookieWait wait }) in
    ap (λ (t1 : Option RunningTimer). record e { timers = record e.timers { t1 = t1 } }) (again_is old.moment wait.t1_init.running is).running
told_at old (CookieEchoed echoed) is =
    let e : Endpoint = endpoint_of (record old { state = CookieEchoed echoed }) in
    ap (λ (t1 : Option RunningTimer). record e { timers = record e.timers { t1 = t1 } }) (again_is old.moment echoed.t1_cookie.running is).running
told_at old (Open opened) is = absurd (cc)

-- the turn of a packet that is sent again there
again_expiry : {R : Type 0} (old : Context R) (o : Outcome) → Again ≡ expiry_of old.moment (t1_of old.state) → RepeatsHandshakePacket (view_of (told old)) o → ExpiryTurn t1_timer (view_of old) o
again_expiry old o is turn =
    let e : Endpoint = endpoint_of old in
    let here : endpoint_of (told old) ≡ endpoint_with_t1_continued e = told_at old old.state is in
    let answers : List Answer = turn.0 in
    let at_true : ActTurn e (t1_expires true) o = (
      answers,
      subst (λ (x : Endpoint). AgainAnswers x x.core answers) here turn.1,
      turn.2 ∙ ap (λ (x : Endpoint). send_again_with_flush (flush_answered answers) x x.core) here,
    ) in
    subst (λ (b : Bool). ActTurn e (t1_expires b) o) (sym (again_is old.moment (t1_of old.state) is).restarts) at_true

pub t1_again : {R : Type 0} (stream : R → Stream) (old : Context R) (new : View R) → Again ≡ expiry_of old.moment (t1_of old.state)
    → TakesPossibleTurn stream RepeatsHandshakePacket (view_of (told old)) new → (is_timer_due (endpoint_of old) t1_timer ≡ true) × TakesPossibleTurn stream (ExpiryTurn t1_timer) (view_of old) new
t1_again stream old new is t =
    let m = t.moves in (
      (again_is old.moment (t1_of old.state) is).due,
      record {
        outcome = t.outcome;
        turn = again_expiry old t.outcome is t.turn;
        moves = record { endpoint = m.endpoint; events = m.events; words = m.words; pairs = m.pairs; drawn = m.drawn };
      },
    )

pub t1_again_cut : {R : Type 0} (old : Context R) (es : List (Event (List ℕ))) → Again ≡ expiry_of old.moment (t1_of old.state)
    → CutsSomeTurn RepeatsHandshakePacket (view_of (told old)) es → (is_timer_due (endpoint_of old) t1_timer ≡ true) × CutsSomeTurn (ExpiryTurn t1_timer) (view_of old) es
t1_again_cut old es is t = (
  (again_is old.moment (t1_of old.state) is).due,
  record {
    outcome = t.outcome;
    turn = again_expiry old t.outcome is t.turn;
    cut = record { count = t.cut.count; added = t.cut.added };
  },
)

-- ---- the handshake is given up

gives_up_at : {R : Type 0} (stream : R → Stream) (old : Context R) (state : State) (new : View R) → GaveUp ≡ expiry_of old.moment (t1_of state)
    → Moves stream (view_of (record old { state = state_after_t1 old.moment state })) (t1_gives_up_outcome (endpoint_of (record old { state = state_after_t1 old.moment state })) (core_of (state_after_t1 old.moment state))) new
    → Moves stream (view_of (record old { state = state })) (t1_gives_up_outcome (endpoint_of (record old { state = state })) (core_of state)) new
gives_up_at stream old Closed new is m = absurd (cc)
gives_up_at stream old (CookieWait wait) new is m = record { endpoint = m.endpoint; events = m.events; words = m.words; pairs = m.pairs; drawn = m.drawn }
gives_up_at stream old (CookieEchoed echoed) new is m = record { endpoint = m.endpoint; events = m.events; words = m.words; pairs = m.pairs; drawn = m.drawn }
gives_up_at stream old (Open opened) new is m = absurd (cc)

gives_up_turn : {R : Type 0} (old : Context R) → GaveUp ≡ expiry_of old.moment (t1_of old.state) → ExpiryTurn t1_timer (view_of old) (t1_gives_up_outcome (endpoint_of old) (core_of old.state))
gives_up_turn old is =
    let o : Outcome = t1_gives_up_outcome (endpoint_of old) (core_of old.state) in
    let at_false : ActTurn (endpoint_of old) (t1_expires false) o = refl in
    subst (λ (b : Bool). ActTurn (endpoint_of old) (t1_expires b) o) (sym (gave_up_is old.moment (t1_of old.state) is).1) at_false

pub t1_gave_up : {R : Type 0} (stream : R → Stream) (old : Context R) (new : View R) → GaveUp ≡ expiry_of old.moment (t1_of old.state)
    → Moves stream (view_of (told old)) (t1_gives_up_outcome (endpoint_of (told old)) (core_of (told old).state)) new
    → (is_timer_due (endpoint_of old) t1_timer ≡ true) × TakesPossibleTurn stream (ExpiryTurn t1_timer) (view_of old) new
t1_gave_up stream old new is m = (
  (gave_up_is old.moment (t1_of old.state) is).0,
  record {
    outcome = t1_gives_up_outcome (endpoint_of old) (core_of old.state);
    turn = gives_up_turn old is;
    moves = gives_up_at stream old old.state new is m;
  },
)

pub t1_kept : {R : Type 0} (old : Context R) (es : List (Event (List ℕ))) → GaveUp ≡ expiry_of old.moment (t1_of old.state) → es ≡ (view_of old).events
    → (is_timer_due (endpoint_of old) t1_timer ≡ true) × CutsSomeTurn (ExpiryTurn t1_timer) (view_of old) es
t1_kept old es is same = (
  (gave_up_is old.moment (t1_of old.state) is).0,
  record {
    outcome = t1_gives_up_outcome (endpoint_of old) (core_of old.state);
    turn = gives_up_turn old is;
    cut = cut_first (view_of old) (t1_gives_up_outcome (endpoint_of old) (core_of old.state)) es same;
  },
)
