-- The inputs of a user's call, and of bytes that are handed in.
use Rattle.std.proofs.Common.{◌≡◌, ℕ, zero, suc, Bool, true, false, List, [], ◌∷◌, map, sym, subst}
use Rattle.std.specs.Prelude.{nat_le, if◌then◌else◌}
use Rattle.std.specs.List.{AllByRecursion}
use Rattle.dcsctp_spec_lemmas.specs.types.declared.ends.AbortReason.{AbortReason}
use Rattle.dcsctp_spec_lemmas.specs.types.declared.ends.AbortReason.TheVariants.{CloseCalled, TooManyErrors}
use Rattle.dcsctp_spec_lemmas.specs.types.declared.message.SendOptions.{SendOptions}
use Rattle.dcsctp_spec_lemmas.specs.types.Schedule.{CallContent, connect_call, close_call, shutdown_call, advance_call, set_call, send_call, send_many_call, reset_call, take_call, hand_over_call}
use Rattle.dcsctp_spec_lemmas.specs.spec.Admission.{Admission, all_chunks, shutdown_acks_alone, refused, shutdown_acks_of}
use Rattle.dcsctp_spec_lemmas.specs.spec.endpoint.Endpoint.{Endpoint, Core, closed, cookie_wait, cookie_echoed, open_in}
use Rattle.dcsctp_spec_lemmas.specs.spec.endpoint.Following.{Following, next_chunk, packet_end, dropped_rest}
use Rattle.dcsctp_spec_lemmas.specs.spec.Packet.{Content, Packet, packet_of_content}
use Rattle.dcsctp_spec_lemmas.specs.spec.association.Acts.{connect, t1_expires, shut_down, shutdown_repeats, abort_with, flushes}
use Rattle.dcsctp_spec_lemmas.specs.spec.association.Acts as acts
use Rattle.dcsctp_spec_lemmas.specs.types.queues.Messages.{MessageContent}
use Rattle.dcsctp_spec_lemmas.specs.spec.endpoint.HeartbeatOutcomes.{is_exhausted}
use Rattle.dcsctp_spec_lemmas.specs.spec.endpoint.MessageOutcomes.{awaits_opening, sending_of}
use Rattle.dcsctp_spec_lemmas.specs.spec.endpoint.OwnTimers.{OwnTimer}
use Rattle.dcsctp_spec_lemmas.specs.spec.endpoint.Turn.{Input, arrival, refusal, packet_begins, chunk_input, packet_ends, act_input, user_sets, user_sends, user_resets, user_takes, timer_expires, time_passes, unreadable_text}
use Rattle.dcsctp_spec_lemmas.specs.spec.endpoint.TimeTurns.{Timer, t1_timer, own_timer, t2_timer, handled_timers, deadline, has_come, has_restart, t2_input, expiry_input, inputs_behind, after_expiries, ExpiryThen, ExpiryTurns, MomentTurns, TimeTurns}
use Rattle.dcsctp_spec_lemmas.specs.spec.endpoint.CallTurns.{packet_tail, asked_again, Transition, IsTurn, Turns, AfterChunk, ChunkTurns, AdmittedTurns, HandleInput, unreadable, readable}
use Rattle.dcsctp_spec_lemmas.specs.spec.Handover.{readiness_of}
use Rattle.dcsctp_spec_lemmas.specs.spec.HandoverInputs.{inputs_of_handover}
use Rattle.dcsctp_spec_lemmas.specs.spec.endpoint.UserTurns.{UserTurns}
use Rattle.dcsctp_delivery_directions.specs.sending.Log.{Fits}
use Rattle.dcsctp_delivery_directions.specs.sending.Queueing.{message_of}
use Rattle.dcsctp_delivery_sockets.specs.turns.Actions.{IsCall}
use Rattle.dcsctp_delivery_sockets.specs.sockets.Delivery.{FitsMessage, FitsCall}

-- ---- any list of inputs

module _ (May : Input → Type 0) where
  abbrev MayEach : List Input → Type 0
  MayEach inputs = AllByRecursion May inputs

  abbrev AreSuch : List Transition → Type 0
  AreSuch turns = AllByRecursion (λ turn. May turn.input) turns

  none_of : (turns : List Transition) → turns ≡ [] → AreSuch turns
  none_of turns none = subst AreSuch (sym none) tt

  of_input : (e : Endpoint) (input : Input) (turn : Transition) → IsTurn e input turn → May input → May turn.input
  of_input e input turn is h = subst May (sym is.is) h

  pub of_turns : (e : Endpoint) (inputs : List Input) (turns : List Transition) → MayEach inputs → Turns e inputs turns → AreSuch turns
  of_turns e [] [] h taken = tt
  of_turns e [] (t ∷ turns) h taken = absurd taken
  of_turns e (input ∷ inputs) [] h taken = absurd taken
  of_turns e (input ∷ inputs) (t ∷ turns) h taken = (of_input e input t taken.0 h.0, of_turns t.outcome.after inputs turns h.1 taken.1)

-- ---- calls

-- What holds of the inputs of calls and timers. What a user sends, sets and resets is said apart.
pub record MayCall (May : Input → Type 0) : Type 0 where
  pub connects : May (act_input connect)
  pub aborts : (reason : AbortReason) → May (act_input (abort_with reason))
  pub shuts_down : May (act_input shut_down)
  pub repeats : May (act_input shutdown_repeats)
  pub expires : (again : Bool) → May (act_input (t1_expires again))
  pub flushed : May (act_input flushes)
  pub takes : May user_takes
  pub hands_over : May (act_input acts.hands_over)
  pub own_expires : (timer : OwnTimer) → May (timer_expires timer)
  pub passes : (moment : ℕ) → May (time_passes moment)

abbrev pub MaySend : (Input → Type 0) → CallContent → Type 0
MaySend May (send_call message options) = May (user_sends (sending_of options message ∷ []))
MaySend May (send_many_call messages options) = May (user_sends (map (sending_of options) messages))
MaySend May (set_call setting) = May (user_sets setting)
MaySend May (reset_call ids) = May (user_resets ids)
MaySend May call = Unit {0}

module _ (May : Input → Type 0) (may : MayCall May) where
  of_t2 : (again : Bool) → May (t2_input again)
  of_t2 true = may.repeats
  of_t2 false = may.aborts TooManyErrors

  of_expiry : (e : Endpoint) (timer : Timer) → May (expiry_input e timer)
  of_expiry e t1_timer = may.expires (has_restart e.timers.t1)
  of_expiry e (own_timer timer) = may.own_expires timer
  of_expiry e t2_timer = of_t2 (has_restart e.timers.t2)

  of_too_many : (many : Bool) (inputs : List Input) → AllByRecursion May inputs → AllByRecursion May (if many then act_input (abort_with TooManyErrors) ∷ [] else inputs)
  of_too_many true inputs h = (may.aborts TooManyErrors, tt)
  of_too_many false inputs h = h

  of_behind : (e : Endpoint) (core : Core) → AllByRecursion May (inputs_behind e core)
  of_behind e closed = tt
  of_behind e (cookie_wait my) = tt
  of_behind e (cookie_echoed my held cookie) = of_too_many (is_exhausted e.options.max_retransmissions e.error_count) [] tt
  of_behind e (open_in phase my held) = of_too_many (is_exhausted e.options.max_retransmissions e.error_count) (act_input flushes ∷ []) (may.flushed, tt)

  of_after : (e : Endpoint) (has_expired : Bool) → AllByRecursion May (after_expiries e has_expired)
  of_after e false = tt
  of_after e true = of_behind e e.core

  of_expiry_then : (due : Bool) (Rest : Bool → Endpoint → List Transition → Type 0)
      → ((has_expired : Bool) (e : Endpoint) (turns : List Transition) → Rest has_expired e turns → AllByRecursion (λ turn. May turn.input) turns)
      → (e : Endpoint) (has_expired : Bool) (timer : Timer) (turns : List Transition) → ExpiryThen due Rest e has_expired timer turns → AllByRecursion (λ turn. May turn.input) turns
  of_expiry_then true Rest rest e has_expired timer [] taken = absurd taken
  of_expiry_then true Rest rest e has_expired timer (t ∷ turns) taken = (of_input May e (expiry_input e timer) t taken.0 (of_expiry e timer), rest true t.outcome.after turns taken.1)
  of_expiry_then false Rest rest e has_expired timer turns taken = rest has_expired e turns taken

  of_expiries : (timers : List Timer) (has_expired : Bool) (e : Endpoint) (turns : List Transition) → ExpiryTurns timers has_expired e turns → AllByRecursion (λ turn. May turn.input) turns
  of_expiries [] has_expired e turns taken = of_turns May e (after_expiries e has_expired) turns (of_after e has_expired) taken
  of_expiries (timer ∷ timers) has_expired e turns taken =
      of_expiry_then (has_come e.moment (deadline e timer)) (ExpiryTurns timers) (of_expiries timers) e has_expired timer turns taken

  of_moment : (e : Endpoint) (moment : ℕ) (turns : List Transition) → MomentTurns e moment turns → AllByRecursion (λ turn. May turn.input) turns
  of_moment e moment [] taken = absurd taken
  of_moment e moment (t ∷ turns) taken = (
    of_input May e (time_passes moment) t taken.0 (may.passes moment),
    of_expiries (handled_timers t.outcome.after.core) false t.outcome.after turns taken.1,
  )

  of_time : (later : Bool) (e : Endpoint) (moment : ℕ) (turns : List Transition) → TimeTurns later e moment turns → AllByRecursion (λ turn. May turn.input) turns
  of_time true e moment turns taken = of_moment e moment turns taken
  of_time false e moment turns none = none_of May turns none

  of_handover : (readiness : ℕ) → AllByRecursion May (inputs_of_handover readiness)
  of_handover zero = (may.hands_over, tt)
  of_handover (suc reasons) = tt

  pub of_call : (e : Endpoint) (call : CallContent) (turns : List Transition) → MaySend May call → UserTurns e call turns → AllByRecursion (λ turn. May turn.input) turns
  of_call e connect_call turns sends taken = of_turns May e (act_input connect ∷ []) turns (may.connects, tt) taken
  of_call e close_call turns sends taken = of_turns May e (act_input (abort_with CloseCalled) ∷ []) turns (may.aborts CloseCalled, tt) taken
  of_call e shutdown_call turns sends taken = of_turns May e (act_input shut_down ∷ []) turns (may.shuts_down, tt) taken
  of_call e (advance_call moment) turns sends taken = of_time (nat_le e.moment moment) e moment turns taken
  of_call e (set_call setting) turns sends taken = of_turns May e (user_sets setting ∷ []) turns (sends, tt) taken
  of_call e (send_call message options) turns sends taken = of_turns May e (user_sends (sending_of options message ∷ []) ∷ []) turns (sends, tt) taken
  of_call e (send_many_call messages options) turns sends taken = of_turns May e (user_sends (map (sending_of options) messages) ∷ []) turns (sends, tt) taken
  of_call e (reset_call ids) turns sends taken = of_turns May e (user_resets ids ∷ []) turns (sends, tt) taken
  of_call e take_call turns sends taken = of_turns May e (user_takes ∷ []) turns (may.takes, tt) taken
  of_call e hand_over_call turns sends taken = of_turns May e (inputs_of_handover (readiness_of e)) turns (of_handover (readiness_of e)) taken

-- ---- no chunk

abbrev pub NoChunk : Input → Type 0
NoChunk (chunk_input tag content) = ⊥
NoChunk input = Unit {0}

abbrev pub NoChunks : List Transition → Type 0
NoChunks turns = AllByRecursion (λ turn. NoChunk turn.input) turns

calls_without : MayCall NoChunk
calls_without =
    record {
      connects = tt;
      aborts = λ reason. tt;
      shuts_down = tt;
      repeats = tt;
      expires = λ again. tt;
      flushed = tt;
      takes = tt;
      hands_over = tt;
      own_expires = λ timer. tt;
      passes = λ moment. tt;
    }

sends_without : (call : CallContent) → MaySend NoChunk call
sends_without connect_call = tt
sends_without close_call = tt
sends_without shutdown_call = tt
sends_without (advance_call moment) = tt
sends_without (set_call setting) = tt
sends_without (send_call message options) = tt
sends_without (send_many_call messages options) = tt
sends_without (reset_call ids) = tt
sends_without take_call = tt
sends_without hand_over_call = tt

-- The turns of a user's call handle no chunk.
pub call_without : (e : Endpoint) (call : CallContent) (turns : List Transition) → UserTurns e call turns → NoChunks turns
call_without e call turns taken = of_call NoChunk calls_without e call turns (sends_without call) taken

-- ---- calls and chunks alone

calls_are : MayCall IsCall
calls_are =
    record {
      connects = tt;
      aborts = λ reason. tt;
      shuts_down = tt;
      repeats = tt;
      expires = λ again. tt;
      flushed = tt;
      takes = tt;
      hands_over = tt;
      own_expires = λ timer. tt;
      passes = λ moment. tt;
    }

sending_fits : (message : MessageContent) (options : SendOptions) → FitsMessage message → Fits (message_of (sending_of options message))
sending_fits message options fits = record { stream = fits.stream; ppid = fits.ppid; payload = fits.payload; size = fits.size }

sendings_fit : (messages : List MessageContent) (options : SendOptions) → AllByRecursion FitsMessage messages → AllByRecursion (λ sending. Fits (message_of sending)) (map (sending_of options) messages)
sendings_fit [] options fit = tt
sendings_fit (message ∷ messages) options fit = (sending_fits message options fit.0, sendings_fit messages options fit.1)

sends_are : (call : CallContent) → FitsCall call → MaySend IsCall call
sends_are connect_call fits = tt
sends_are close_call fits = tt
sends_are shutdown_call fits = tt
sends_are (advance_call moment) fits = tt
sends_are (set_call setting) fits = fits
sends_are (send_call message options) fits = (sending_fits message options fits, tt)
sends_are (send_many_call messages options) fits = sendings_fit messages options fits
sends_are (reset_call ids) fits = fits
sends_are take_call fits = tt
sends_are hand_over_call fits = tt

abbrev pub AreCalls : List Transition → Type 0
AreCalls turns = AllByRecursion (λ turn. IsCall turn.input) turns

-- Those of a call are, if its messages and streams fit,
pub call_is : (e : Endpoint) (call : CallContent) (turns : List Transition) → FitsCall call → UserTurns e call turns → AreCalls turns
call_is e call turns fits taken = of_call IsCall calls_are e call turns (sends_are call fits) taken

-- and so are those of bytes that are handed in.
rest_is : (following : Following) (e : Endpoint) (tail : List Input) (turns : List Transition) (More : Type 0) → AllByRecursion IsCall tail → (More → AreCalls turns) → AfterChunk following More (Turns e tail turns) (turns ≡ [])
    → AreCalls turns
rest_is next_chunk e tail turns More are more rest = more rest
rest_is packet_end e tail turns More are more rest = of_turns IsCall e tail turns are rest
rest_is dropped_rest e tail turns More are more rest = none_of IsCall turns rest

chunks_are : (e : Endpoint) (tag : ℕ) (contents : List Content) (tail : List Input) (turns : List Transition) → AllByRecursion IsCall tail → ChunkTurns e tag contents tail turns → AreCalls turns
chunks_are e tag [] tail turns are taken = of_turns IsCall e tail turns are taken
chunks_are e tag (content ∷ contents) tail [] are taken = absurd taken
chunks_are e tag (content ∷ contents) tail (t ∷ turns) are taken = (
  of_input IsCall e (chunk_input tag content) t taken.0 tt,
  rest_is t.outcome.following t.outcome.after tail turns (ChunkTurns t.outcome.after tag contents tail turns) are (λ more. chunks_are t.outcome.after tag contents tail turns are more) taken.1,
)

tail_is : (asks : Bool) → AllByRecursion IsCall (packet_ends ∷ asked_again asks)
tail_is true = (tt, (tt, tt))
tail_is false = (tt, tt)

admitted_are : (e : Endpoint) (packet : Packet) (admission : Admission) (turns : List Transition) → AdmittedTurns e packet admission turns → AreCalls turns
admitted_are e packet all_chunks [] taken = absurd taken
admitted_are e packet all_chunks (t ∷ turns) taken =
    (of_input IsCall e (packet_begins packet.contents) t taken.0 tt, chunks_are t.outcome.after packet.tag packet.contents (packet_tail t.outcome.after) turns (tail_is (awaits_opening t.outcome.after t.outcome.after.core)) taken.1)
admitted_are e packet shutdown_acks_alone turns taken = chunks_are e packet.tag (shutdown_acks_of packet.contents) [] turns tt taken
admitted_are e packet (refused text) turns taken = of_turns IsCall e (refusal text ∷ []) turns (tt, tt) taken

pub input_is : (e : Endpoint) (bytes : List ℕ) (turns : List Transition) → HandleInput e bytes turns → AreCalls turns
input_is e bytes _ (unreadable turns none taken) = of_turns IsCall e (arrival ∷ refusal unreadable_text ∷ []) turns (tt, (tt, tt)) taken
input_is e bytes _ (readable packet counted turns found counting taken) =
    (of_input IsCall e arrival counted counting tt, admitted_are counted.outcome.after (packet_of_content packet) _ turns taken)
