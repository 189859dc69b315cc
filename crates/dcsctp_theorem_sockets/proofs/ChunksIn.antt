-- Which chunks the turns of a call handle: those of a user's call none, and those of a packet its own.
use Rattle.std.proofs.Common.{◌≡◌, ℕ, zero, suc, Bool, true, false, List, [], ◌∷◌, map, sym, subst}
use Rattle.std.specs.Prelude.{nat_le, if◌then◌else◌}
use Rattle.std.specs.List.{AllByRecursion}
use Rattle.dcsctp_spec_lemmas.specs.types.declared.ends.AbortReason.TheVariants.{CloseCalled, TooManyErrors}
use Rattle.dcsctp_spec_lemmas.specs.types.Schedule.{CallContent, connect_call, close_call, shutdown_call, advance_call, set_call, send_call, send_many_call, reset_call, take_call, hand_over_call}
use Rattle.dcsctp_spec_lemmas.specs.spec.Packet.{Content, shutdown_ack, Packet}
use Rattle.dcsctp_spec_lemmas.specs.spec.Admission.{Admission, all_chunks, shutdown_acks_alone, refused, shutdown_acks_of}
use Rattle.dcsctp_spec_lemmas.specs.spec.endpoint.Endpoint.{Endpoint, Core, closed, cookie_wait, cookie_echoed, open_in}
use Rattle.dcsctp_spec_lemmas.specs.spec.endpoint.Following.{Following, next_chunk, packet_end, dropped_rest}
use Rattle.dcsctp_spec_lemmas.specs.spec.association.Acts.{connect, shut_down, abort_with, flushes}
use Rattle.dcsctp_spec_lemmas.specs.spec.endpoint.HeartbeatOutcomes.{is_exhausted}
use Rattle.dcsctp_spec_lemmas.specs.spec.endpoint.MessageOutcomes.{awaits_opening, sending_of}
use Rattle.dcsctp_spec_lemmas.specs.spec.endpoint.Turn.{Input, refusal, packet_begins, chunk_input, packet_ends, act_input, user_sets, user_sends, user_resets, user_takes, time_passes}
use Rattle.dcsctp_spec_lemmas.specs.spec.endpoint.TimeTurns.{Timer, t1_timer, own_timer, t2_timer, handled_timers, deadline, has_come, has_restart, t2_input, expiry_input, inputs_behind, after_expiries, ExpiryThen, ExpiryTurns, MomentTurns, TimeTurns}
use Rattle.dcsctp_spec_lemmas.specs.spec.endpoint.CallTurns.{packet_tail, asked_again, Transition, IsTurn, Turns, AfterChunk, ChunkTurns, WholeTurns, AdmittedTurns}
use Rattle.dcsctp_spec_lemmas.specs.spec.Handover.{readiness_of}
use Rattle.dcsctp_spec_lemmas.specs.spec.HandoverInputs.{inputs_of_handover}
use Rattle.dcsctp_spec_lemmas.specs.spec.endpoint.UserTurns.{UserTurns}

-- what holds of the chunk that is handled, if one is
abbrev pub OfChunk : (Content → Type 0) → Input → Type 0
OfChunk Good (chunk_input tag content) = Good content
OfChunk Good input = Unit {0}

abbrev Inputs : (Content → Type 0) → List Input → Type 0
Inputs Good inputs = AllByRecursion (OfChunk Good) inputs

abbrev pub OfChunks : (Content → Type 0) → List Transition → Type 0
OfChunks Good turns = AllByRecursion (λ turn. OfChunk Good turn.input) turns

module _ (Good : Content → Type 0) where
  none_of : (turns : List Transition) → turns ≡ [] → OfChunks Good turns
  none_of turns none = subst (OfChunks Good) (sym none) tt

  of_input : (e : Endpoint) (input : Input) (turn : Transition) → IsTurn e input turn → OfChunk Good input → OfChunk Good turn.input
  of_input e input turn is h = subst (OfChunk Good) (sym is.is) h

  pub of_turns : (e : Endpoint) (inputs : List Input) (turns : List Transition) → Inputs Good inputs → Turns e inputs turns → OfChunks Good turns
  of_turns e [] [] h taken = tt
  of_turns e [] (t ∷ turns) h taken = absurd taken
  of_turns e (input ∷ inputs) [] h taken = absurd taken
  of_turns e (input ∷ inputs) (t ∷ turns) h taken = (of_input e input t taken.0 h.0, of_turns t.outcome.after inputs turns h.1 taken.1)

  -- ---- time

  of_t2 : (again : Bool) → OfChunk Good (t2_input again)
  of_t2 true = tt
  of_t2 false = tt

  of_expiry : (e : Endpoint) (timer : Timer) → OfChunk Good (expiry_input e timer)
  of_expiry e t1_timer = tt
  of_expiry e (own_timer timer) = tt
  of_expiry e t2_timer = of_t2 (has_restart e.timers.t2)

  of_too_many : (many : Bool) (inputs : List Input) → Inputs Good inputs → Inputs Good (if many then act_input (abort_with TooManyErrors) ∷ [] else inputs)
  of_too_many true inputs h = (tt, tt)
  of_too_many false inputs h = h

  of_behind : (e : Endpoint) (core : Core) → Inputs Good (inputs_behind e core)
  of_behind e closed = tt
  of_behind e (cookie_wait my) = tt
  of_behind e (cookie_echoed my held cookie) = of_too_many (is_exhausted e.options.max_retransmissions e.error_count) [] tt
  of_behind e (open_in phase my held) = of_too_many (is_exhausted e.options.max_retransmissions e.error_count) (act_input flushes ∷ []) (tt, tt)

  of_after : (e : Endpoint) (has_expired : Bool) → Inputs Good (after_expiries e has_expired)
  of_after e false = tt
  of_after e true = of_behind e e.core

  of_expiry_then : (due : Bool) (Rest : Bool → Endpoint → List Transition → Type 0) → ((has_expired : Bool) (e : Endpoint) (turns : List Transition) → Rest has_expired e turns → OfChunks Good turns)
      → (e : Endpoint) (has_expired : Bool) (timer : Timer) (turns : List Transition) → ExpiryThen due Rest e has_expired timer turns → OfChunks Good turns
  of_expiry_then true Rest rest e has_expired timer [] taken = absurd taken
  of_expiry_then true Rest rest e has_expired timer (t ∷ turns) taken = (of_input e (expiry_input e timer) t taken.0 (of_expiry e timer), rest true t.outcome.after turns taken.1)
  of_expiry_then false Rest rest e has_expired timer turns taken = rest has_expired e turns taken

  of_expiries : (timers : List Timer) (has_expired : Bool) (e : Endpoint) (turns : List Transition) → ExpiryTurns timers has_expired e turns → OfChunks Good turns
  of_expiries [] has_expired e turns taken = of_turns e (after_expiries e has_expired) turns (of_after e has_expired) taken
  of_expiries (timer ∷ timers) has_expired e turns taken =
      of_expiry_then (has_come e.moment (deadline e timer)) (ExpiryTurns timers) (of_expiries timers) e has_expired timer turns taken

  of_moment : (e : Endpoint) (moment : ℕ) (turns : List Transition) → MomentTurns e moment turns → OfChunks Good turns
  of_moment e moment [] taken = absurd taken
  of_moment e moment (t ∷ turns) taken = (of_input e (time_passes moment) t taken.0 tt, of_expiries (handled_timers t.outcome.after.core) false t.outcome.after turns taken.1)

  of_time : (later : Bool) (e : Endpoint) (moment : ℕ) (turns : List Transition) → TimeTurns later e moment turns → OfChunks Good turns
  of_time true e moment turns taken = of_moment e moment turns taken
  of_time false e moment turns none = none_of turns none

  -- ---- calls

  of_handover : (readiness : ℕ) → Inputs Good (inputs_of_handover readiness)
  of_handover zero = (tt, tt)
  of_handover (suc reasons) = tt

  pub of_call : (e : Endpoint) (call : CallContent) (turns : List Transition) → UserTurns e call turns → OfChunks Good turns
  of_call e connect_call turns taken = of_turns e (act_input connect ∷ []) turns (tt, tt) taken
  of_call e close_call turns taken = of_turns e (act_input (abort_with CloseCalled) ∷ []) turns (tt, tt) taken
  of_call e shutdown_call turns taken = of_turns e (act_input shut_down ∷ []) turns (tt, tt) taken
  of_call e (advance_call moment) turns taken = of_time (nat_le e.moment moment) e moment turns taken
  of_call e (set_call setting) turns taken = of_turns e (user_sets setting ∷ []) turns (tt, tt) taken
  of_call e (send_call message options) turns taken = of_turns e (user_sends (sending_of options message ∷ []) ∷ []) turns (tt, tt) taken
  of_call e (send_many_call messages options) turns taken = of_turns e (user_sends (map (sending_of options) messages) ∷ []) turns (tt, tt) taken
  of_call e (reset_call ids) turns taken = of_turns e (user_resets ids ∷ []) turns (tt, tt) taken
  of_call e take_call turns taken = of_turns e (user_takes ∷ []) turns (tt, tt) taken
  of_call e hand_over_call turns taken = of_turns e (inputs_of_handover (readiness_of e)) turns (of_handover (readiness_of e)) taken

  -- ---- a packet

  of_acks : (contents : List Content) → AllByRecursion Good contents → AllByRecursion Good (shutdown_acks_of contents)
  of_acks [] each = tt
  of_acks (shutdown_ack ∷ contents) each = (each.0, of_acks contents each.1)
  of_acks (content ∷ contents) each = of_acks contents each.1

  of_rest : (following : Following) (e : Endpoint) (ends : List Input) (turns : List Transition) (More : Type 0) → Inputs Good ends → (More → OfChunks Good turns)
      → AfterChunk following More (Turns e ends turns) (turns ≡ []) → OfChunks Good turns
  of_rest next_chunk e ends turns More h more rest = more rest
  of_rest packet_end e ends turns More h more rest = of_turns e ends turns h rest
  of_rest dropped_rest e ends turns More h more rest = none_of turns rest

  of_contents : (e : Endpoint) (tag : ℕ) (contents : List Content) (ends : List Input) (turns : List Transition) → AllByRecursion Good contents → Inputs Good ends
      → ChunkTurns e tag contents ends turns → OfChunks Good turns
  of_contents e tag [] ends turns each h taken = of_turns e ends turns h taken
  of_contents e tag (content ∷ contents) ends [] each h taken = absurd taken
  of_contents e tag (content ∷ contents) ends (t ∷ turns) each h taken = (
    of_input e (chunk_input tag content) t taken.0 each.0,
    of_rest t.outcome.following t.outcome.after ends turns (ChunkTurns t.outcome.after tag contents ends turns) h
        (λ (rest : ChunkTurns t.outcome.after tag contents ends turns). of_contents t.outcome.after tag contents ends turns each.1 h rest) taken.1,
  )

  of_tail : (asks : Bool) → Inputs Good (packet_ends ∷ asked_again asks)
  of_tail true = (tt, (tt, tt))
  of_tail false = (tt, tt)

  of_whole : (e : Endpoint) (packet : Packet) (turns : List Transition) → AllByRecursion Good packet.contents → WholeTurns e packet turns → OfChunks Good turns
  of_whole e packet [] each taken = absurd taken
  of_whole e packet (t ∷ turns) each taken = (
    of_input e (packet_begins packet.contents) t taken.0 tt,
    of_contents t.outcome.after packet.tag packet.contents (packet_tail t.outcome.after) turns each (of_tail (awaits_opening t.outcome.after t.outcome.after.core)) taken.1,
  )

  pub of_admitted : (e : Endpoint) (packet : Packet) (admission : Admission) (turns : List Transition) → AllByRecursion Good packet.contents → AdmittedTurns e packet admission turns
      → OfChunks Good turns
  of_admitted e packet all_chunks turns each taken = of_whole e packet turns each taken
  of_admitted e packet shutdown_acks_alone turns each taken = of_contents e packet.tag (shutdown_acks_of packet.contents) [] turns (of_acks packet.contents each) tt taken
  of_admitted e packet (refused text) turns each taken = of_turns e (refusal text ∷ []) turns (tt, tt) taken
