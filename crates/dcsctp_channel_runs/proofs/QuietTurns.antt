-- Turns of anything but a user's `send`, `send_many`, `reset_streams` and `get_next_message` send no message, reset
-- no stream, and read nothing.
use Rattle.std.proofs.Common.{◌≡◌, ℕ, Bool, true, false, List, [], ◌∷◌, ◌++◌, refl, sym, ap, subst, ◌∙◌}
use Rattle.std.specs.Prelude.{nat_le, if◌then◌else◌}
use Rattle.std.specs.List.{AllByRecursion}
use Rattle.dcsctp_channel_calls.specs.api.types.declared.ends.AbortReason.TheVariants.{TooManyErrors}
use Rattle.dcsctp_channel_calls.specs.api.spec.Admission.{Admission, all_chunks, shutdown_acks_alone, refused, admits, shutdown_acks_of}
use Rattle.dcsctp_channel_calls.specs.api.spec.endpoint.MessageOutcomes.{awaits_opening}
use Rattle.dcsctp_channel_calls.specs.api.spec.endpoint.CallTurns.{packet_tail, asked_again, Transition, IsTurn, Turns, AfterChunk, ChunkTurns, WholeTurns, AdmittedTurns, HandleInput, unreadable, readable}
use Rattle.dcsctp_channel_calls.specs.api.spec.endpoint.Endpoint.{Endpoint, Core, closed, cookie_wait, cookie_echoed, open_in}
use Rattle.dcsctp_channel_calls.specs.api.spec.endpoint.Following.{Following, next_chunk, packet_end, dropped_rest}
use Rattle.dcsctp_channel_calls.specs.api.spec.Packet.{Content, Packet, packet_of_content}
use Rattle.dcsctp_channel_calls.specs.api.spec.endpoint.TimeTurns.{Timer, t1_timer, own_timer, t2_timer, handled_timers, deadline, has_come, has_restart, t2_input, expiry_input, inputs_behind, after_expiries, ExpiryThen, ExpiryTurns, MomentTurns, TimeTurns, AdvanceTurns}
use Rattle.dcsctp_channel_calls.specs.api.spec.endpoint.Turn.{Input, arrival, refusal, packet_begins, chunk_input, packet_ends, act_input, user_sets, user_sends, user_resets, user_takes, timer_expires, time_passes, restores, unreadable_text}
use Rattle.dcsctp_channel_calls.specs.api.spec.association.Acts.{abort_with, flushes}
use Rattle.dcsctp_channel_calls.specs.api.types.queues.Messages.{MessageContent}
use Rattle.dcsctp_channel_calls.specs.api.spec.endpoint.HeartbeatOutcomes.{is_exhausted}
use Rattle.dcsctp_delivery_sockets.specs.sockets.UserMessages.{messages_read_of_input, read_of}
use Rattle.dcsctp_channel_runs.proofs.Deeds.{Deed, deeds_of_input, deeds_of_turns}

-- no message was sent, no stream reset, and none was read
pub record AreQuiet (e : Endpoint) (turns : List Transition) : Type 0 where
  pub deeds : deeds_of_turns e turns ≡ []
  pub read : read_of e turns ≡ []

-- ---- inputs

abbrev IsQuiet : Input → Type 0
IsQuiet (user_sends messages) = ⊥
IsQuiet (user_resets ids) = ⊥
IsQuiet user_takes = ⊥
IsQuiet input = Unit {0}

abbrev pub AllQuiet : List Input → Type 0
AllQuiet inputs = AllByRecursion IsQuiet inputs

quiet_input : (e : Endpoint) (input : Input) → IsQuiet input → (deeds_of_input e input ≡ []) × (messages_read_of_input e input ≡ [])
quiet_input e arrival quiet = (refl, refl)
quiet_input e (refusal text) quiet = (refl, refl)
quiet_input e (packet_begins contents) quiet = (refl, refl)
quiet_input e (chunk_input tag content) quiet = (refl, refl)
quiet_input e packet_ends quiet = (refl, refl)
quiet_input e (act_input act) quiet = (refl, refl)
quiet_input e (user_sets setting) quiet = (refl, refl)
quiet_input e (user_sends messages) quiet = absurd quiet
quiet_input e (user_resets ids) quiet = absurd quiet
quiet_input e user_takes quiet = absurd quiet
quiet_input e (timer_expires timer) quiet = (refl, refl)
quiet_input e (time_passes moment) quiet = (refl, refl)
quiet_input e (restores state) quiet = (refl, refl)

-- ---- turns

none_quiet : (e : Endpoint) (turns : List Transition) → turns ≡ [] → AreQuiet e turns
none_quiet e turns none = subst (AreQuiet e) (sym none) (record { deeds = refl; read = refl })

first_quiet : (e : Endpoint) (input : Input) (t : Transition) (turns : List Transition) → IsQuiet input → IsTurn e input t → AreQuiet t.outcome.after turns → AreQuiet e (t ∷ turns)
first_quiet e input t turns quiet turn rest =
    let none = quiet_input e t.input (subst IsQuiet (sym turn.is) quiet) in
    record {
      deeds = ap (λ (l : List Deed). l ++ deeds_of_turns t.outcome.after turns) none.0 ∙ rest.deeds;
      read = ap (λ (l : List MessageContent). l ++ read_of t.outcome.after turns) none.1 ∙ rest.read;
    }

pub turns_quiet : (e : Endpoint) (inputs : List Input) (turns : List Transition) → AllQuiet inputs → Turns e inputs turns → AreQuiet e turns
turns_quiet e [] [] quiet taken = none_quiet e [] refl
turns_quiet e [] (t ∷ turns) quiet taken = absurd taken
turns_quiet e (input ∷ inputs) [] quiet taken = absurd taken
turns_quiet e (input ∷ inputs) (t ∷ turns) quiet taken = first_quiet e input t turns quiet.0 taken.0 (turns_quiet t.outcome.after inputs turns quiet.1 taken.1)

-- ---- a packet

-- whatever follows a chunk
rest_quiet : (following : Following) (e : Endpoint) (tail : List Input) (turns : List Transition) (More : Type 0) → AllQuiet tail → (More → AreQuiet e turns)
    → AfterChunk following More (Turns e tail turns) (turns ≡ []) → AreQuiet e turns
rest_quiet next_chunk e tail turns More quiet more rest = more rest
rest_quiet packet_end e tail turns More quiet more rest = turns_quiet e tail turns quiet rest
rest_quiet dropped_rest e tail turns More quiet more rest = none_quiet e turns rest

chunks_quiet : (contents : List Content) (e : Endpoint) (tag : ℕ) (tail : List Input) (turns : List Transition) → AllQuiet tail → ChunkTurns e tag contents tail turns → AreQuiet e turns
chunks_quiet [] e tag tail turns quiet taken = turns_quiet e tail turns quiet taken
chunks_quiet (content ∷ contents) e tag tail [] quiet taken = absurd taken
chunks_quiet (content ∷ contents) e tag tail (t ∷ turns) quiet taken =
    first_quiet e (chunk_input tag content) t turns tt taken.0
    (rest_quiet t.outcome.following t.outcome.after tail turns (ChunkTurns t.outcome.after tag contents tail turns) quiet
    (λ rest. chunks_quiet contents t.outcome.after tag tail turns quiet rest) taken.1)

tail_quiet : (asks : Bool) → AllQuiet (packet_ends ∷ asked_again asks)
tail_quiet true = (tt, (tt, tt))
tail_quiet false = (tt, tt)

whole_quiet : (e : Endpoint) (packet : Packet) (turns : List Transition) → WholeTurns e packet turns → AreQuiet e turns
whole_quiet e packet [] taken = absurd taken
whole_quiet e packet (t ∷ turns) taken =
    first_quiet e (packet_begins packet.contents) t turns tt taken.0
    (chunks_quiet packet.contents t.outcome.after packet.tag (packet_tail t.outcome.after) turns (tail_quiet (awaits_opening t.outcome.after t.outcome.after.core)) taken.1)

admitted_quiet : (e : Endpoint) (packet : Packet) (admission : Admission) (turns : List Transition) → AdmittedTurns e packet admission turns → AreQuiet e turns
admitted_quiet e packet all_chunks turns taken = whole_quiet e packet turns taken
admitted_quiet e packet shutdown_acks_alone turns taken = chunks_quiet (shutdown_acks_of packet.contents) e packet.tag [] turns tt taken
admitted_quiet e packet (refused text) turns taken = turns_quiet e (refusal text ∷ []) turns (tt, tt) taken

pub input_quiet : (e : Endpoint) (bytes : List ℕ) (turns : List Transition) → HandleInput e bytes turns → AreQuiet e turns
input_quiet e bytes _ (unreadable turns none taken) = turns_quiet e (arrival ∷ refusal unreadable_text ∷ []) turns (tt, (tt, tt)) taken
input_quiet e bytes _ (readable packet counted turns found counts taken) =
    first_quiet e arrival counted turns tt counts (admitted_quiet counted.outcome.after (packet_of_content packet) (admits e.core (packet_of_content packet)) turns taken)

-- ---- time

t2_quiet : (again : Bool) → IsQuiet (t2_input again)
t2_quiet true = tt
t2_quiet false = tt

expiry_quiet : (e : Endpoint) (timer : Timer) → IsQuiet (expiry_input e timer)
expiry_quiet e t1_timer = tt
expiry_quiet e (own_timer timer) = tt
expiry_quiet e t2_timer = t2_quiet (has_restart e.timers.t2)

too_many_quiet : (many : Bool) (inputs : List Input) → AllQuiet inputs → AllQuiet (if many then act_input (abort_with TooManyErrors) ∷ [] else inputs)
too_many_quiet true inputs quiet = (tt, tt)
too_many_quiet false inputs quiet = quiet

behind_quiet : (e : Endpoint) (core : Core) → AllQuiet (inputs_behind e core)
behind_quiet e closed = tt
behind_quiet e (cookie_wait my) = tt
behind_quiet e (cookie_echoed my held cookie) = too_many_quiet (is_exhausted e.options.max_retransmissions e.error_count) [] tt
behind_quiet e (open_in phase my held) = too_many_quiet (is_exhausted e.options.max_retransmissions e.error_count) (act_input flushes ∷ []) (tt, tt)

after_quiet : (e : Endpoint) (has_expired : Bool) → AllQuiet (after_expiries e has_expired)
after_quiet e false = tt
after_quiet e true = behind_quiet e e.core

expiry_then_quiet : (due : Bool) (Rest : Bool → Endpoint → List Transition → Type 0) → ((has_expired : Bool) (e : Endpoint) (turns : List Transition) → Rest has_expired e turns → AreQuiet e turns)
    → (e : Endpoint) (has_expired : Bool) (timer : Timer) (turns : List Transition) → ExpiryThen due Rest e has_expired timer turns → AreQuiet e turns
expiry_then_quiet true Rest rest e has_expired timer [] taken = absurd taken
expiry_then_quiet true Rest rest e has_expired timer (t ∷ turns) taken = first_quiet e (expiry_input e timer) t turns (expiry_quiet e timer) taken.0 (rest true t.outcome.after turns taken.1)
expiry_then_quiet false Rest rest e has_expired timer turns taken = rest has_expired e turns taken

expiries_quiet : (timers : List Timer) (has_expired : Bool) (e : Endpoint) (turns : List Transition) → ExpiryTurns timers has_expired e turns → AreQuiet e turns
expiries_quiet [] has_expired e turns taken = turns_quiet e (after_expiries e has_expired) turns (after_quiet e has_expired) taken
expiries_quiet (timer ∷ timers) has_expired e turns taken =
    expiry_then_quiet (has_come e.moment (deadline e timer)) (ExpiryTurns timers) (expiries_quiet timers) e has_expired timer turns taken

moment_quiet : (e : Endpoint) (moment : ℕ) (turns : List Transition) → MomentTurns e moment turns → AreQuiet e turns
moment_quiet e moment [] taken = absurd taken
moment_quiet e moment (t ∷ turns) taken =
    first_quiet e (time_passes moment) t turns tt taken.0 (expiries_quiet (handled_timers t.outcome.after.core) false t.outcome.after turns taken.1)

time_quiet : (later : Bool) (e : Endpoint) (moment : ℕ) (turns : List Transition) → TimeTurns later e moment turns → AreQuiet e turns
time_quiet true e moment turns taken = moment_quiet e moment turns taken
time_quiet false e moment turns none = none_quiet e turns none

pub advance_quiet : (e : Endpoint) (moment : ℕ) (turns : List Transition) → AdvanceTurns e moment turns → AreQuiet e turns
advance_quiet e moment turns taken = time_quiet (nat_le e.moment moment) e moment turns taken
