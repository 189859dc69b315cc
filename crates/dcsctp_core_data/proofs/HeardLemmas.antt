-- A SHUTDOWN that is received, from what the handlers of its parts do.
use Rattle.std.proofs.Common.{◌≡◌, ◌&&◌, ℕ, Bool, true, false, Option, None, Some, Result, Ok, Err, List, [], refl, sym, ap, subst, ◌∙◌}
use Rattle.rand_core.specs.Stream.{Stream}
use Rattle.dcsctp_core.specs.wire.Content.{SackContent}
use Rattle.dcsctp_core.specs.types.declared.association.Pair.{Pair}
use Rattle.dcsctp_core.specs.types.declared.association.Held.{Held}
use Rattle.dcsctp_core.specs.spec.queues.Acknowledging.{is_sack_valid}
use Rattle.dcsctp_core.specs.spec.queues.Transfer.{Transfer}
use Rattle.dcsctp_core.specs.spec.endpoint.Endpoint.{Endpoint, Core, closed, cookie_wait, cookie_echoed, open_in, OpenPhase, established, shutdown_pending, shutdown_sent, shutdown_received, shutdown_ack_sent}
use Rattle.dcsctp_core.specs.spec.endpoint.Outcome.{Outcome}
use Rattle.dcsctp_core.specs.spec.endpoint.DataOutcomes.{TakesSackAndFlushes, HandlesSackIfValid, SackTurn}
use Rattle.dcsctp_core.specs.spec.endpoint.HeardShutdown.{said_by_shutdown, acknowledges_by_shutdown, may_have_sent, HearsValidShutdown, HearsShutdown, ShutdownTurn, open_association}
use Rattle.dcsctp_core.specs.spec.endpoint.ShutdownOutcomes.{endpoint_in_phase, shutdown_outcome}
use Rattle.dcsctp_core.specs.declared.context.Context.{Context}
use Rattle.dcsctp_core.specs.declared.state.OpenPhase as phase_types
use Rattle.dcsctp_core.specs.declared.state.OpenPhase.TheVariants as phases
use Rattle.dcsctp_core.specs.declared.state.OpenState.{OpenState}
use Rattle.dcsctp_core.specs.declared.state.State.{State}
use Rattle.dcsctp_core.specs.declared.state.State.TheVariants.{Closed, CookieWait, CookieEchoed, Open}
use Rattle.dcsctp_core.specs.declared.transmission_control_block.TransmissionControlBlock.{TransmissionControlBlock}
use Rattle.dcsctp_core.specs.View.{View, core_of, held_of, phase_of_open, transfer_of, endpoint_of, view_of, Moves}
use Rattle.dcsctp_core.specs.Handling.{TakesTurn, TakesPossibleTurn, CutsSomeTurn, TakesOne}
use Rattle.dcsctp_core.specs.Phases.{phase_set}
use Rattle.dcsctp_core.proofs.BelowLemmas.{moves_from}
use Rattle.dcsctp_core_ends.specs.Shutdown.{shutdown_turn}
use Rattle.dcsctp_core_data.specs.Sacks.{ReceivesSack}
use Rattle.dcsctp_core_data.specs.Shutdown.{ReceivesShutdown, takes_shutdown_tsn, window_of}
use Rattle.dcsctp_core_data.proofs.TakingLemmas.{takes_one}

-- ---- where it acknowledges nothing

unheeded_by : (e : Endpoint) (phase : OpenPhase) (my : Pair) (held : Held) (transfer : Option Transfer) (tsn : ℕ) → takes_shutdown_tsn e (open_in phase my held) transfer tsn ≡ false
    → HearsShutdown e phase my held transfer tsn (shutdown_outcome e (open_in phase my held))
unheeded_by e phase my held None tsn none = refl
unheeded_by e phase my held (Some transfer) tsn none =
    subst (λ (b : Bool). HearsValidShutdown b e (open_association phase my held) transfer tsn (shutdown_outcome e (open_in phase my held))) (sym none) refl

unheeded : (e : Endpoint) (core : Core) (tsn : ℕ) → takes_shutdown_tsn e core e.queues.transfer tsn ≡ false → ShutdownTurn e core tsn (shutdown_outcome e core)
unheeded e closed tsn none = refl
unheeded e (cookie_wait my) tsn none = refl
unheeded e (cookie_echoed my held cookie) tsn none = refl
unheeded e (open_in phase my held) tsn none = unheeded_by e phase my held e.queues.transfer tsn none

pub heard_alone : {R E : Type 0} (stream : R → Stream) (old : Context R) (result : Result (Unit {0}) E) (new : Context R) (tsn : ℕ) → takes_shutdown_tsn (endpoint_of old) (core_of old.state) (transfer_of old.state) tsn ≡ false
    → TakesTurn stream shutdown_turn old result new → TakesOne stream (ReceivesShutdown tsn) old result new
heard_alone stream old result new tsn none h = takes_one stream shutdown_turn (ReceivesShutdown tsn) old result new (unheeded (endpoint_of old) (core_of old.state) tsn none) h

-- ---- where it acknowledges

-- The association in ShutdownReceived.
record Received {R : Type 0} (old : Context R) (state : State) (tsn : ℕ) : Type 0 where
  phase : OpenPhase
  my : Pair
  held : Held
  transfer : Transfer
  core : core_of state ≡ open_in phase my held
  below : transfer_of state ≡ Some transfer
  heeds : acknowledges_by_shutdown old.options phase transfer tsn ≡ true
  valid : is_sack_valid transfer.retransmission tsn ≡ true
  at : endpoint_of (record old { state = phase_set phases.ShutdownReceived state }) ≡ endpoint_in_phase (endpoint_of (record old { state = state })) shutdown_received my held

last_of_three : (a b c : Bool) → (a && (b && c)) ≡ true → c ≡ true
last_of_three true true c is = is
last_of_three true false c is = absurd (cc)
last_of_three false b c is = absurd (cc)

-- A phase in which something may be in flight has no T2.
received_open : {R : Type 0} (old : Context R) (opened : OpenState) (tsn : ℕ) → acknowledges_by_shutdown old.options (phase_of_open opened.phase) opened.tcb.transfer tsn ≡ true
    → endpoint_of (record old { state = Open (record opened { phase = phases.ShutdownReceived }) }) ≡ endpoint_in_phase (endpoint_of (record old { state = Open opened })) shutdown_received opened.tcb.my (held_of opened.tcb)
    → Received old (Open opened) tsn
received_open old opened tsn heeds at =
    record {
      phase = phase_of_open opened.phase;
      my = opened.tcb.my;
      held = held_of opened.tcb;
      transfer = opened.tcb.transfer;
      core = refl;
      below = refl;
      heeds = heeds;
      valid = last_of_three old.options.follow_rfc (may_have_sent (phase_of_open opened.phase)) (is_sack_valid opened.tcb.transfer.retransmission tsn) heeds;
      at = at;
    }

never_both : (a : Bool) → (a && false) ≡ true → ⊥
never_both true is = absurd (cc)
never_both false is = absurd (cc)

received_in : {R : Type 0} (old : Context R) (phase : phase_types.OpenPhase) (tcb : TransmissionControlBlock) (tsn : ℕ) → acknowledges_by_shutdown old.options (phase_of_open phase) tcb.transfer tsn ≡ true
    → Received old (Open (record { phase = phase; tcb = tcb })) tsn
received_in old phases.Established tcb tsn heeds = received_open old (record { phase = phases.Established; tcb = tcb }) tsn heeds refl
received_in old phases.ShutdownPending tcb tsn heeds = received_open old (record { phase = phases.ShutdownPending; tcb = tcb }) tsn heeds refl
received_in old (phases.ShutdownSent sent) tcb tsn heeds = absurd (never_both old.options.follow_rfc heeds)
received_in old phases.ShutdownReceived tcb tsn heeds = received_open old (record { phase = phases.ShutdownReceived; tcb = tcb }) tsn heeds refl
received_in old (phases.ShutdownAckSent sent) tcb tsn heeds = absurd (never_both old.options.follow_rfc heeds)

received : {R : Type 0} (old : Context R) (state : State) (tsn : ℕ) → takes_shutdown_tsn (endpoint_of old) (core_of state) (transfer_of state) tsn ≡ true → Received old state tsn
received old Closed tsn heeds = absurd (cc)
received old (CookieWait wait) tsn heeds = absurd (cc)
received old (CookieEchoed echoed) tsn heeds = absurd (cc)
received old (Open opened) tsn heeds = received_in old opened.phase opened.tcb tsn heeds

-- as a SACK with this window
abbrev said : ℕ → ℕ → SackContent
said tsn window = record { cumulative_tsn_ack = tsn; a_rwnd = window; gap_ack_blocks = []; duplicate_tsns = [] }

-- the association in ShutdownReceived
abbrev moved : {R : Type 0} → Context R → Context R
moved old = record old { state = phase_set phases.ShutdownReceived old.state }

heard_turn : {R : Type 0} (old : Context R) (tsn window : ℕ) (o : Outcome) → Received old old.state tsn → window ≡ window_of (transfer_of old.state) → ReceivesSack (said tsn window) (view_of (moved old)) o
    → ReceivesShutdown tsn (view_of old) o
heard_turn old tsn window o r is h =
    let e : Endpoint = endpoint_of old in
    let there : Endpoint = endpoint_in_phase e shutdown_received r.my r.held in
    let first : SackTurn there (transfer_of old.state) (said tsn window) o = subst (λ (x : Endpoint). SackTurn x x.queues.transfer (said tsn window) o) r.at h in
    let second : HandlesSackIfValid (is_sack_valid r.transfer.retransmission tsn) there r.held r.transfer (said tsn window) o =
    subst (λ (f : Option Transfer). SackTurn there f (said tsn window) o) r.below first in
    let third : TakesSackAndFlushes there r.held r.transfer (said tsn window) o = subst (λ (b : Bool). HandlesSackIfValid b there r.held r.transfer (said tsn window) o) r.valid second in
    let fourth : TakesSackAndFlushes there r.held r.transfer (said_by_shutdown tsn r.transfer.retransmission) o =
    subst (λ (w : ℕ). TakesSackAndFlushes there r.held r.transfer (said tsn w) o) (is ∙ ap window_of r.below) third in
    subst (λ (c : Core). ShutdownTurn e c tsn o) (sym r.core)
    (subst (λ (f : Option Transfer). HearsShutdown e r.phase r.my r.held f tsn o) (sym r.below)
    (subst (λ (b : Bool). HearsValidShutdown b e (open_association r.phase r.my r.held) r.transfer tsn o) (sym r.heeds) fourth))

heard_at : {R E : Type 0} (stream : R → Stream) (old : Context R) (result : Result (Unit {0}) E) (new : Context R) (tsn window : ℕ) → Received old old.state tsn
    → window ≡ window_of (transfer_of old.state) → TakesOne stream (ReceivesSack (said tsn window)) (moved old) result new → TakesOne stream (ReceivesShutdown tsn) old result new
heard_at stream old (Ok done) new tsn window r is h =
    record {
      outcome = h.outcome;
      turn = heard_turn old tsn window h.outcome r is h.turn;
      moves = moves_from stream (view_of old) (endpoint_of (moved old)) h.outcome (view_of new) refl h.moves;
    }
heard_at stream old (Err error) new tsn window r is h =
    record { outcome = h.outcome; turn = heard_turn old tsn window h.outcome r is h.turn; cut = record { count = h.cut.count; added = h.cut.added } }

pub heard : {R E : Type 0} (stream : R → Stream) (old : Context R) (state : State) (result : Result (Unit {0}) E) (new : Context R) (tsn window : ℕ)
    → takes_shutdown_tsn (endpoint_of old) (core_of old.state) (transfer_of old.state) tsn ≡ true → state ≡ phase_set phases.ShutdownReceived old.state → window ≡ window_of (transfer_of old.state)
    → TakesOne stream (ReceivesSack (record { cumulative_tsn_ack = tsn; a_rwnd = window; gap_ack_blocks = []; duplicate_tsns = [] })) (record old { state = state }) result new → TakesOne stream (ReceivesShutdown tsn) old result new
heard {R = R} stream old state result new tsn window heeds is told h =
    heard_at stream old result new tsn window (received old old.state tsn heeds) told
    (subst (λ (s : State). TakesOne stream (ReceivesSack (said tsn window)) (let c : Context R = record old { state = s } in c) result new) is h)
