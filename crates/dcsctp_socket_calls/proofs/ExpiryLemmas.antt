-- The turns of the timers that are due, from what their handlers say.
use Rattle.std.proofs.Common.{◌≡◌, ℕ, Bool, true, false, cond, ◌||◌, Option, None, Some, List, [], ◌∷◌, ◌++◌, map, Result, Ok, Err, refl, sym, ap, subst, ◌∙◌, append_assoc}
use Rattle.std.proofs.lemmas.List.{map-append}
use Rattle.rand_core.specs.Stream.{Stream}
use Rattle.dcsctp_core.specs.types.Settings.{Ports, ports_of}
use Rattle.dcsctp_core.specs.spec.endpoint.Event.{Event}
use Rattle.dcsctp_core.specs.spec.Packet.{Emission}
use Rattle.dcsctp_core.specs.types.declared.association.Held.{Held}
use Rattle.dcsctp_core.specs.spec.queues.Transfer.{Transfer}
use Rattle.dcsctp_core.specs.spec.endpoint.Endpoint.{Endpoint, Core, closed, cookie_wait, cookie_echoed, open_in, held_by_core}
use Rattle.dcsctp_core.specs.spec.endpoint.Outcome.{Outcome, still, fits}
use Rattle.dcsctp_core.specs.types.declared.ends.AbortReason.TheVariants.{TooManyErrors}
use Rattle.dcsctp_core.specs.spec.endpoint.Turn.{Input, act_input, ActTurn, Turn}
use Rattle.dcsctp_core.specs.spec.association.Acts.{abort_with, shutdown_repeats, t1_expires, flushes}
use Rattle.dcsctp_core.specs.spec.endpoint.CallTurns.{Transition, transition, Turns, events_of}
use Rattle.dcsctp_core.specs.spec.endpoint.TimeTurns.{Timer, t1_timer, own_timer, t2_timer, t2_input, deadline, has_come, has_restart, expiry_input, inputs_behind, ExpiryThen, ExpiryTurns}
use Rattle.dcsctp_core.specs.spec.endpoint.DataOutcomes.{with_transfer, flush_to_peer, AnswersTo, FlushTurn, delay_outcome, LossTurn}
use Rattle.dcsctp_core.specs.spec.endpoint.EndOutcomes.{aborting_outcome}
use Rattle.dcsctp_core.specs.spec.endpoint.FlushOutcomes.{Answer, first_ask, packets_allowed, draft_to, flush_answered}
use Rattle.dcsctp_core.specs.spec.endpoint.HandshakeOutcomes.{echo_emission, EchoAnswers}
use Rattle.dcsctp_core.specs.spec.endpoint.HeartbeatOutcomes.{error_counted, interval_outcome, is_exhausted, timeout_outcome}
use Rattle.dcsctp_core.specs.spec.endpoint.OwnTimers.{OwnTimer, acknowledgement_delay, retransmission, heartbeat_interval, heartbeat_timeout, reconfiguration, TimerTurn}
use Rattle.dcsctp_core.specs.spec.endpoint.ReconfigurationOutcomes.{reconfiguration_outcome}
use Rattle.dcsctp_core.specs.spec.endpoint.ShutdownOutcomes.{t2_again_outcome}
use Rattle.dcsctp_core.specs.spec.endpoint.TransferMoves.{lost_all}
use Rattle.dcsctp_core.specs.spec.endpoint.TimerOutcomes.{endpoint_with_t1_continued, t1_again_with_flush, AgainAnswers, t1_gives_up_outcome}
use Rattle.dcsctp_core.proofs.spec_lemmas.AnswerLemmas.{any_answers}
use Rattle.dcsctp_core.proofs.spec_lemmas.TurnLists.{events_of-append}
use Rattle.dcsctp_spec_laws.proofs.HeartbeatLemmas.{timer_controlled}
use Rattle.dcsctp_spec_laws.proofs.ControlLemmas.{acts_are_controlled}
use Rattle.dcsctp_core.specs.api.Calls.{AddsFirstEvents, user_event}
use Rattle.dcsctp_core.specs.declared.context.Context.{Context}
use Rattle.dcsctp_core.specs.Handling.{TakesPossibleTurn, CutsSomeTurn}
use Rattle.dcsctp_core.specs.Timing.{is_timer_due, ExpiryTurn, Expires}
use Rattle.dcsctp_core.specs.View.{View, view_of, Moves, MovesAll, CutsTurn}
use Rattle.dcsctp_core.proofs.Moving.{moves_one, moves_then}
use Rattle.dcsctp_socket_calls.specs.Parts.{TurnsMove, CutsTurns, MakesTurns}
use Rattle.dcsctp_socket_calls.specs.TimeParts.{EndTurns}
use Rattle.dcsctp_socket_calls.proofs.CallLemmas.{adds_cut}
use Rattle.dcsctp_socket_calls.proofs.DispatchLemmas.{moves_none}

-- ---- there are such turns

-- A turn of this input may come.
abbrev Comes : Endpoint → Input → Type 0
Comes e input = (o : Outcome) × Turn e input o

abbrev SomeTurns : (Endpoint → List Transition → Type 0) → Endpoint → Type 0
SomeTurns Allowed e = (turns : List Transition) × Allowed e turns

flush_to : (e : Endpoint) (held : Option Held) → (answers : List Answer) × AnswersTo e held answers
flush_to e None = ([], refl)
flush_to e (Some held) = any_answers first_ask (packets_allowed e.options.max_burst e.core) e (draft_to held)

flush_comes : (e : Endpoint) → (o : Outcome) × FlushTurn e o
flush_comes e =
    let some : (answers : List Answer) × AnswersTo e (held_by_core e.core) answers = flush_to e (held_by_core e.core) in
    (flush_to_peer e (held_by_core e.core) some.0, (some.0, some.1, refl))

echo_to : (b : Bool) (e : Endpoint) (tag : ℕ) (cookie : List ℕ) → (answers : List Answer) × EchoAnswers b e tag cookie answers
echo_to true e tag cookie = any_answers first_ask (packets_allowed e.options.max_burst e.core) e (echo_emission tag cookie)
echo_to false e tag cookie = ([], refl)

again_to : (e : Endpoint) (core : Core) → (answers : List Answer) × AgainAnswers e core answers
again_to e closed = ([], refl)
again_to e (cookie_wait mine) = ([], refl)
again_to e (cookie_echoed mine held cookie) = echo_to (fits e (echo_emission held.peer.tag cookie)) e held.peer.tag cookie
again_to e (open_in phase mine held) = ([], refl)

t1_comes : (e : Endpoint) (again : Bool) → (o : Outcome) × ActTurn e (t1_expires again) o
t1_comes e true =
    let some : (answers : List Answer) × AgainAnswers (endpoint_with_t1_continued e) e.core answers = again_to (endpoint_with_t1_continued e) e.core in
    (t1_again_with_flush (flush_answered some.0) e e.core, (some.0, some.1, refl))
t1_comes e false = (t1_gives_up_outcome e e.core, refl)

loss_comes : (e : Endpoint) (transfer : Option Transfer) → (o : Outcome) × LossTurn e transfer o
loss_comes e None = (still e, refl)
loss_comes e (Some transfer) =
    (still (record (with_transfer e (lost_all e.moment transfer)) { error_count = error_counted e.options.max_retransmissions e.error_count }), refl)

own_comes : (e : Endpoint) (timer : OwnTimer) → (o : Outcome) × TimerTurn e timer o
own_comes e acknowledgement_delay = (delay_outcome e e.queues.transfer, refl)
own_comes e retransmission = loss_comes e e.queues.transfer
own_comes e heartbeat_interval = (interval_outcome e e.core, refl)
own_comes e heartbeat_timeout = (timeout_outcome e, refl)
own_comes e reconfiguration = (reconfiguration_outcome e (held_by_core e.core) e.outstanding, refl)

t2_comes : (e : Endpoint) (restarts : Bool) → Comes e (t2_input restarts)
t2_comes e true = (t2_again_outcome e, refl)
t2_comes e false = (aborting_outcome e e.core TooManyErrors, refl)

timer_comes : (e : Endpoint) (timer : Timer) → Comes e (expiry_input e timer)
timer_comes e t1_timer = t1_comes e (has_restart e.timers.t1)
timer_comes e (own_timer timer) = own_comes e timer
timer_comes e t2_timer = t2_comes e (has_restart e.timers.t2)

one_of : (e : Endpoint) (input : Input) → Comes e input → SomeTurns (λ x turns. Turns x (input ∷ []) turns) e
one_of e input some = (transition input some.0 ∷ [], (record { is = refl; comes = some.1 }, tt))

-- the end of an association that is given up, or else these
abbrev ends_where : Bool → List Input → List Input
ends_where many inputs = cond many (act_input (abort_with TooManyErrors) ∷ []) inputs

abbrev abort_turned : Endpoint → Transition
abort_turned e = transition (act_input (abort_with TooManyErrors)) (aborting_outcome e e.core TooManyErrors)

unless_some : (e : Endpoint) (many : Bool) (inputs : List Input) → SomeTurns (λ x turns. Turns x inputs turns) e → SomeTurns (λ x turns. Turns x (ends_where many inputs) turns) e
unless_some e true inputs some = (abort_turned e ∷ [], (record { is = refl; comes = refl }, tt))
unless_some e false inputs some = some

behind_some : (e : Endpoint) (core : Core) → SomeTurns (λ x turns. Turns x (inputs_behind e core) turns) e
behind_some e closed = ([], tt)
behind_some e (cookie_wait my) = ([], tt)
behind_some e (cookie_echoed my held cookie) = unless_some e (is_exhausted e.options.max_retransmissions e.error_count) [] ([], tt)
behind_some e (open_in phase my held) = unless_some e (is_exhausted e.options.max_retransmissions e.error_count) (act_input flushes ∷ []) (one_of e (act_input flushes) (flush_comes e))

expiry_some : (due : Bool) (e : Endpoint) (has_expired : Bool) (timer : Timer) (timers : List Timer) → ((any : Bool) (x : Endpoint) → SomeTurns (ExpiryTurns timers any) x)
    → SomeTurns (λ x turns. ExpiryThen due (ExpiryTurns timers) x has_expired timer turns) e
expiry_some true e has_expired timer timers rest =
    let first : Comes e (expiry_input e timer) = timer_comes e timer in
    let others : SomeTurns (ExpiryTurns timers true) first.0.after = rest true first.0.after in
    (transition (expiry_input e timer) first.0 ∷ others.0, (record { is = refl; comes = first.1 }, others.1))
expiry_some false e has_expired timer timers rest = rest has_expired e

after_some : (has_expired : Bool) (e : Endpoint) → SomeTurns (ExpiryTurns [] has_expired) e
after_some false e = ([], tt)
after_some true e = behind_some e e.core

pub expiries_some : (timers : List Timer) (has_expired : Bool) (e : Endpoint) → SomeTurns (ExpiryTurns timers has_expired) e
expiries_some [] has_expired e = after_some has_expired e
expiries_some (timer ∷ timers) has_expired e = expiry_some (has_come e.moment (deadline e timer)) e has_expired timer timers (λ any x. expiries_some timers any x)

-- ---- the options stay

t2_keeps : (e : Endpoint) (restarts : Bool) (o : Outcome) → Turn e (t2_input restarts) o → ports_of o.after.options ≡ ports_of e.options
t2_keeps e true o turn = ap ports_of (acts_are_controlled e shutdown_repeats o turn).1.options
t2_keeps e false o turn = ap ports_of (acts_are_controlled e (abort_with TooManyErrors) o turn).1.options

expiry_keeps : (e : Endpoint) (timer : Timer) (o : Outcome) → Turn e (expiry_input e timer) o → ports_of o.after.options ≡ ports_of e.options
expiry_keeps e t1_timer o turn = ap ports_of (acts_are_controlled e (t1_expires (has_restart e.timers.t1)) o turn).1.options
expiry_keeps e (own_timer timer) o turn = ap ports_of (timer_controlled e timer o turn).1.options
expiry_keeps e t2_timer o turn = t2_keeps e (has_restart e.timers.t2) o turn

-- ---- one timer, and those after it

-- the turn of a timer
abbrev expired : Endpoint → Timer → Outcome → Transition
expired e timer o = transition (expiry_input e timer) o

expired_are : (e : Endpoint) (timer : Timer) (timers : List Timer) (has_expired : Bool) (o : Outcome) (turns : List Transition) → is_timer_due e timer ≡ true → Turn e (expiry_input e timer) o
    → ExpiryTurns timers true o.after turns → ExpiryTurns (timer ∷ timers) has_expired e (expired e timer o ∷ turns)
expired_are e timer timers has_expired o turns due turn rest =
    subst (λ (d : Bool). ExpiryThen d (ExpiryTurns timers) e has_expired timer (expired e timer o ∷ turns)) (sym due) (record { is = refl; comes = turn }, rest)

rested_are : (e : Endpoint) (timer : Timer) (timers : List Timer) (has_expired : Bool) (turns : List Transition) → is_timer_due e timer ≡ false → ExpiryTurns timers has_expired e turns
    → ExpiryTurns (timer ∷ timers) has_expired e turns
rested_are e timer timers has_expired turns due rest = subst (λ (d : Bool). ExpiryThen d (ExpiryTurns timers) e has_expired timer turns) (sym due) rest

expired_moves : {R : Type 0} (stream : R → Stream) (a b c : View R) (timer : Timer) (timers : List Timer) (has_expired : Bool) → is_timer_due a.endpoint timer ≡ true
    → TakesPossibleTurn stream (ExpiryTurn timer) a b → TurnsMove stream (ExpiryTurns timers true) b c → TurnsMove stream (ExpiryTurns (timer ∷ timers) has_expired) a c
expired_moves stream a b c timer timers has_expired due first rest =
    let o : Outcome = first.outcome in
    record {
      turns = expired a.endpoint timer o ∷ rest.turns;
      are = expired_are a.endpoint timer timers has_expired o rest.turns due first.turn (subst (λ (x : Endpoint). ExpiryTurns timers true x rest.turns) first.moves.endpoint rest.are);
      moves = moves_then stream a b c (expired a.endpoint timer o ∷ []) rest.turns (expiry_keeps a.endpoint timer o first.turn) (moves_one stream a b (expired a.endpoint timer o) first.moves) rest.moves;
    }

rested_moves : {R : Type 0} (stream : R → Stream) (a b c : View R) (timer : Timer) (timers : List Timer) (has_expired : Bool) → is_timer_due a.endpoint timer ≡ false → b ≡ a
    → TurnsMove stream (ExpiryTurns timers has_expired) b c → TurnsMove stream (ExpiryTurns (timer ∷ timers) has_expired) a c
rested_moves {R = R} stream a b c timer timers has_expired due same rest =
    let here : TurnsMove stream (ExpiryTurns timers has_expired) a c = subst (λ (v : View R). TurnsMove stream (ExpiryTurns timers has_expired) v c) same rest in
    record { turns = here.turns; are = rested_are a.endpoint timer timers has_expired here.turns due here.are; moves = here.moves }

-- ---- where an allocation failed

-- further turns after those that were cut
adds_more : (ports : Ports) (turns more : List Transition) (old new : List (Event (List ℕ))) → AddsFirstEvents ports turns old new → AddsFirstEvents ports (turns ++ more) old new
adds_more ports turns more old new adds =
    record {
      added = adds.added;
      rest = adds.rest ++ map (user_event ports) (events_of more);
      behind = adds.behind;
      front = sym (append_assoc adds.added adds.rest (map (user_event ports) (events_of more)))
          ∙ ap (λ (es : List (Event (List ℕ))). es ++ map (user_event ports) (events_of more)) adds.front
          ∙ sym (map-append (user_event ports) (events_of turns) (events_of more))
          ∙ ap (λ (es : List (Event Emission)). map (user_event ports) es) (sym (events_of-append turns more));
    }

-- turns that were finished before those that were cut
pub adds_behind : {R : Type 0} (stream : R → Stream) (a b : View R) (turns more : List Transition) (events : List (Event (List ℕ))) → ports_of b.endpoint.options ≡ ports_of a.endpoint.options
    → MovesAll stream a turns b → AddsFirstEvents (ports_of b.endpoint.options) more b.events events → AddsFirstEvents (ports_of a.endpoint.options) (turns ++ more) a.events events
adds_behind stream a b turns more events same moves adds =
    let ports : Ports = ports_of a.endpoint.options in
    let before : List (Event (List ℕ)) = map (user_event ports) (events_of turns) in
    record {
      added = before ++ adds.added;
      rest = adds.rest;
      behind = adds.behind
          ∙ ap (λ (es : List (Event (List ℕ))). es ++ adds.added) moves.events
          ∙ append_assoc a.events before adds.added;
      front = append_assoc before adds.added adds.rest
          ∙ ap (λ (es : List (Event (List ℕ))). before ++ es) adds.front
          ∙ ap (λ (p : Ports). before ++ map (user_event p) (events_of more)) same
          ∙ sym (map-append (user_event ports) (events_of turns) (events_of more))
          ∙ ap (λ (es : List (Event Emission)). map (user_event ports) es) (sym (events_of-append turns more));
    }

-- The one turn was cut.
pub adds_one : {R : Type 0} (stream : R → Stream) (a : View R) (turn : Transition) (events : List (Event (List ℕ))) → CutsTurn a turn.outcome events → AddsFirstEvents (ports_of a.endpoint.options) (turn ∷ []) a.events events
adds_one stream a turn events cut = adds_cut stream a a [] turn events refl (moves_none stream a) cut

pub expiry_cut : {R : Type 0} (stream : R → Stream) (a : View R) (timer : Timer) (timers : List Timer) (has_expired : Bool) (events : List (Event (List ℕ))) → is_timer_due a.endpoint timer ≡ true
    → CutsSomeTurn (ExpiryTurn timer) a events → CutsTurns (ExpiryTurns (timer ∷ timers) has_expired) a events
expiry_cut stream a timer timers has_expired events due cut =
    let o : Outcome = cut.outcome in
    let more : SomeTurns (ExpiryTurns timers true) o.after = expiries_some timers true o.after in
    record {
      turns = expired a.endpoint timer o ∷ more.0;
      are = expired_are a.endpoint timer timers has_expired o more.0 due cut.turn more.1;
      adds = adds_more (ports_of a.endpoint.options) (expired a.endpoint timer o ∷ []) more.0 a.events events (adds_one stream a (expired a.endpoint timer o) events cut.cut);
    }

expired_adds : {R : Type 0} (stream : R → Stream) (a b : View R) (timer : Timer) (timers : List Timer) (has_expired : Bool) (events : List (Event (List ℕ))) → is_timer_due a.endpoint timer ≡ true
    → TakesPossibleTurn stream (ExpiryTurn timer) a b → CutsTurns (ExpiryTurns timers true) b events → CutsTurns (ExpiryTurns (timer ∷ timers) has_expired) a events
expired_adds stream a b timer timers has_expired events due first cut =
    let o : Outcome = first.outcome in
    record {
      turns = expired a.endpoint timer o ∷ cut.turns;
      are = expired_are a.endpoint timer timers has_expired o cut.turns due first.turn (subst (λ (x : Endpoint). ExpiryTurns timers true x cut.turns) first.moves.endpoint cut.are);
      adds = adds_behind stream a b (expired a.endpoint timer o ∷ []) cut.turns events (ap (λ (x : Endpoint). ports_of x.options) first.moves.endpoint ∙ expiry_keeps a.endpoint timer o first.turn)
          (moves_one stream a b (expired a.endpoint timer o) first.moves) cut.adds;
    }

rested_adds : {R : Type 0} (a b : View R) (timer : Timer) (timers : List Timer) (has_expired : Bool) (events : List (Event (List ℕ))) → is_timer_due a.endpoint timer ≡ false → b ≡ a
    → CutsTurns (ExpiryTurns timers has_expired) b events → CutsTurns (ExpiryTurns (timer ∷ timers) has_expired) a events
rested_adds {R = R} a b timer timers has_expired events due same cut =
    let here : CutsTurns (ExpiryTurns timers has_expired) a events = subst (λ (v : View R). CutsTurns (ExpiryTurns timers has_expired) v events) same cut in
    record { turns = here.turns; are = rested_are a.endpoint timer timers has_expired here.turns due here.are; adds = here.adds }

-- ---- both

-- A timer was handled, and then the others.
pub timer_then : {R E : Type 0} (stream : R → Stream) (old mid new : Context R) (timer : Timer) (timers : List Timer) (before has : Bool) (result : Result (Unit {0}) E)
    → Expires {E = E} stream timer old (Ok has) mid → MakesTurns stream (ExpiryTurns timers (has || before)) mid result new
    → MakesTurns stream (ExpiryTurns (timer ∷ timers) before) old result new
timer_then stream old mid new timer timers before true (Ok done) handled works = expired_moves stream (view_of old) (view_of mid) (view_of new) timer timers before handled.0 handled.1 works
timer_then stream old mid new timer timers before false (Ok done) handled works = rested_moves stream (view_of old) (view_of mid) (view_of new) timer timers before handled.0 handled.1 works
timer_then stream old mid new timer timers before true (Err error) handled works = expired_adds stream (view_of old) (view_of mid) timer timers before (view_of new).events handled.0 handled.1 works
timer_then stream old mid new timer timers before false (Err error) handled works = rested_adds (view_of old) (view_of mid) timer timers before (view_of new).events handled.0 handled.1 works

-- ---- what follows the timers

-- the turns that follow, by whether too many errors were counted
abbrev TurnsWhere : Bool → List Input → Endpoint → List Transition → Type 0
TurnsWhere many inputs e turns = Turns e (ends_where many inputs) turns

abbrev counts_many : {R : Type 0} → View R → Bool
counts_many view = is_exhausted view.endpoint.options.max_retransmissions view.endpoint.error_count

-- The association is given up.
pub abort_moves : {R : Type 0} (stream : R → Stream) (a b : View R) (inputs : List Input) → counts_many a ≡ true → Moves stream a (aborting_outcome a.endpoint a.endpoint.core TooManyErrors) b
    → TurnsMove stream (EndTurns inputs) a b
abort_moves stream a b inputs many moves =
    record {
      turns = abort_turned a.endpoint ∷ [];
      are = subst (λ (m : Bool). TurnsWhere m inputs a.endpoint (abort_turned a.endpoint ∷ [])) (sym many) (record { is = refl; comes = refl }, tt);
      moves = moves_one stream a b (abort_turned a.endpoint) moves;
    }

pub abort_cut : {R : Type 0} (stream : R → Stream) (a : View R) (inputs : List Input) (events : List (Event (List ℕ))) → counts_many a ≡ true
    → CutsTurn a (aborting_outcome a.endpoint a.endpoint.core TooManyErrors) events → CutsTurns (EndTurns inputs) a events
abort_cut stream a inputs events many cut =
    record {
      turns = abort_turned a.endpoint ∷ [];
      are = subst (λ (m : Bool). TurnsWhere m inputs a.endpoint (abort_turned a.endpoint ∷ [])) (sym many) (record { is = refl; comes = refl }, tt);
      adds = adds_one stream a (abort_turned a.endpoint) events cut;
    }

-- What waits goes out.
abbrev flushed : Outcome → Transition
flushed o = transition (act_input flushes) o

pub send_moves : {R : Type 0} (stream : R → Stream) (a b : View R) → counts_many a ≡ false → TakesPossibleTurn stream (λ v o. FlushTurn v.endpoint o) a b → TurnsMove stream (EndTurns (act_input flushes ∷ [])) a b
send_moves stream a b many flush =
    record {
      turns = flushed flush.outcome ∷ [];
      are = subst (λ (m : Bool). TurnsWhere m (act_input flushes ∷ []) a.endpoint (flushed flush.outcome ∷ [])) (sym many) (record { is = refl; comes = flush.turn }, tt);
      moves = moves_one stream a b (flushed flush.outcome) flush.moves;
    }

pub send_cut : {R : Type 0} (stream : R → Stream) (a : View R) (events : List (Event (List ℕ))) → counts_many a ≡ false → CutsSomeTurn (λ v o. FlushTurn v.endpoint o) a events
    → CutsTurns (EndTurns (act_input flushes ∷ [])) a events
send_cut stream a events many flush =
    record {
      turns = flushed flush.outcome ∷ [];
      are = subst (λ (m : Bool). TurnsWhere m (act_input flushes ∷ []) a.endpoint (flushed flush.outcome ∷ [])) (sym many) (record { is = refl; comes = flush.turn }, tt);
      adds = adds_one stream a (flushed flush.outcome) events flush.cut;
    }
