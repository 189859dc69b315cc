-- What holds of each turn of a socket that may come, whatever goes in, holds along each call.
use Rattle.std.proofs.Common.{◌≡◌, ℕ, zero, suc, Bool, true, false, List, [], ◌∷◌, ◌++◌, map, drop, sym, subst}
use Rattle.std.specs.Prelude.{nat_le, if◌then◌else◌}
use Rattle.std.specs.List.{AllByRecursion}
use Rattle.dcsctp_spec_lemmas.specs.types.declared.ends.AbortReason.TheVariants.{CloseCalled, TooManyErrors}
use Rattle.dcsctp_spec_lemmas.specs.types.declared.ends.AbortReason.{AbortReason}
use Rattle.dcsctp_spec_lemmas.specs.types.Schedule.{CallContent, connect_call, close_call, shutdown_call, advance_call, set_call, send_call, send_many_call, reset_call, take_call, hand_over_call}
use Rattle.dcsctp_spec_lemmas.specs.wire.Content.{ChunkContent}
use Rattle.dcsctp_spec_lemmas.specs.wire.ReadsBack.{HasMinima}
use Rattle.dcsctp_spec_lemmas.specs.spec.Packet.{Content, init, init_ack, cookie_echo, cookie_ack, re_config, abort, shutdown, shutdown_ack, shutdown_complete, plain, Packet, content_of_chunk, packet_of_content}
use Rattle.dcsctp_spec_lemmas.specs.spec.Admission.{Admission, all_chunks, shutdown_acks_alone, refused, admits, shutdown_acks_of}
use Rattle.dcsctp_spec_lemmas.specs.spec.endpoint.Endpoint.{Endpoint, Core, closed, cookie_wait, cookie_echoed, open_in}
use Rattle.dcsctp_spec_lemmas.specs.spec.endpoint.Following.{Following, next_chunk, packet_end, dropped_rest}
use Rattle.dcsctp_spec_lemmas.specs.spec.association.Acts.{connect, abort_with, t1_expires, shut_down, shutdown_repeats, flushes}
use Rattle.dcsctp_spec_lemmas.specs.spec.association.Acts as acts
use Rattle.dcsctp_spec_lemmas.specs.spec.endpoint.Turn.{Input, arrival, refusal, packet_begins, chunk_input, packet_ends, act_input, user_sets, user_sends, user_resets, user_takes, timer_expires, time_passes, unreadable_text}
use Rattle.dcsctp_spec_lemmas.specs.spec.endpoint.TimeTurns.{Timer, t1_timer, own_timer, t2_timer, handled_timers, deadline, has_come, has_restart, t2_input, expiry_input, inputs_behind, after_expiries, ExpiryThen, ExpiryTurns, MomentTurns, TimeTurns}
use Rattle.dcsctp_spec_lemmas.specs.spec.endpoint.HeartbeatOutcomes.{is_exhausted}
use Rattle.dcsctp_spec_lemmas.specs.spec.endpoint.MessageOutcomes.{awaits_opening, Sending, sending_of}
use Rattle.dcsctp_spec_lemmas.specs.spec.endpoint.OwnTimers.{OwnTimer}
use Rattle.dcsctp_spec_lemmas.specs.types.Setting.{Setting}
use Rattle.dcsctp_spec_lemmas.specs.spec.endpoint.CallTurns.{asked_again, packet_tail, Transition, IsTurn, Turns, AlongTurns, AfterChunk, ChunkTurns, WholeTurns, AdmittedTurns, HandleInput, unreadable, readable, after_all}
use Rattle.dcsctp_spec_lemmas.specs.spec.Handover.{readiness_of}
use Rattle.dcsctp_spec_lemmas.specs.spec.HandoverInputs.{inputs_of_handover}
use Rattle.dcsctp_spec_lemmas.specs.spec.endpoint.UserTurns.{UserTurns}
use Rattle.dcsctp_spec_laws.proofs.ReadMinima.{chunks_have_minima}

pub along_append : (Good : Endpoint → Transition → Type 0) (e : Endpoint) (xs ys : List Transition) → AlongTurns Good e xs → AlongTurns Good (after_all e xs) ys → AlongTurns Good e (xs ++ ys)
along_append Good e [] ys first second = second
along_append Good e (t ∷ xs) ys first second = (first.0, along_append Good t.outcome.after xs ys first.1 second)

-- ---- what may come

-- Whatever is read of bytes, and the calls and timers that there are.
pub record MayCome (May : Input → Type 0) : Type 0 where
  pub arrives : May arrival
  pub refuses : (text : List ℕ) → May (refusal text)
  pub begins : (contents : List Content) → May (packet_begins contents)
  pub is_read : (tag : ℕ) (chunk : ChunkContent) → HasMinima chunk → May (chunk_input tag (content_of_chunk chunk))
  pub ends : May packet_ends
  pub connects : May (act_input connect)
  pub aborts : (reason : AbortReason) → May (act_input (abort_with reason))
  pub shuts_down : May (act_input shut_down)
  pub repeats : May (act_input shutdown_repeats)
  pub expires : (again : Bool) → May (act_input (t1_expires again))
  pub flushed : May (act_input flushes)
  pub sets : (setting : Setting) → May (user_sets setting)
  pub sends : (messages : List Sending) → May (user_sends messages)
  pub resets : (ids : List ℕ) → May (user_resets ids)
  pub takes : May user_takes
  pub hands_over : May (act_input acts.hands_over)
  pub own_expires : (timer : OwnTimer) → May (timer_expires timer)
  pub passes : (moment : ℕ) → May (time_passes moment)

abbrev pub Anything : Input → Type 0
Anything input = Unit {0}

pub anything_may_come : MayCome Anything
anything_may_come =
    record {
      arrives = tt;
      refuses = λ text. tt;
      begins = λ contents. tt;
      is_read = λ tag chunk minima. tt;
      ends = tt;
      connects = tt;
      aborts = λ reason. tt;
      shuts_down = tt;
      repeats = tt;
      expires = λ again. tt;
      flushed = tt;
      sets = λ setting. tt;
      sends = λ messages. tt;
      resets = λ ids. tt;
      takes = tt;
      hands_over = tt;
      own_expires = λ timer. tt;
      passes = λ moment. tt;
    }

-- each of these chunks, in a packet of any tag
abbrev EachMay : (Input → Type 0) → List Content → Type 0
EachMay May contents = AllByRecursion (λ content. (tag : ℕ) → May (chunk_input tag content)) contents

read_may : (May : Input → Type 0) → MayCome May → (chunks : List ChunkContent) → AllByRecursion HasMinima chunks → EachMay May (map content_of_chunk chunks)
read_may May come [] minima = tt
read_may May come (chunk ∷ chunks) minima = ((λ tag. come.is_read tag chunk minima.0), read_may May come chunks minima.1)

acks_may : (May : Input → Type 0) (contents : List Content) → EachMay May contents → EachMay May (shutdown_acks_of contents)
acks_may May [] each = tt
acks_may May (init theirs ∷ contents) each = acks_may May contents each.1
acks_may May (init_ack theirs cookie ∷ contents) each = acks_may May contents each.1
acks_may May (cookie_echo cookie ∷ contents) each = acks_may May contents each.1
acks_may May (cookie_ack ∷ contents) each = acks_may May contents each.1
acks_may May (re_config parameters ∷ contents) each = acks_may May contents each.1
acks_may May (abort reflected causes ∷ contents) each = acks_may May contents each.1
acks_may May (shutdown tsn ∷ contents) each = acks_may May contents each.1
acks_may May (shutdown_ack ∷ contents) each = (each.0, acks_may May contents each.1)
acks_may May (shutdown_complete reflected ∷ contents) each = acks_may May contents each.1
acks_may May (plain chunk ∷ contents) each = acks_may May contents each.1

t2_may : (May : Input → Type 0) → MayCome May → (again : Bool) → May (t2_input again)
t2_may May come true = come.repeats
t2_may May come false = come.aborts TooManyErrors

-- what the expiry of a timer is
expiry_may : (May : Input → Type 0) → MayCome May → (e : Endpoint) (timer : Timer) → May (expiry_input e timer)
expiry_may May come e t1_timer = come.expires (has_restart e.timers.t1)
expiry_may May come e (own_timer timer) = come.own_expires timer
expiry_may May come e t2_timer = t2_may May come (has_restart e.timers.t2)

too_many_may : (May : Input → Type 0) → MayCome May → (many : Bool) (inputs : List Input) → AllByRecursion May inputs
    → AllByRecursion May (if many then act_input (abort_with TooManyErrors) ∷ [] else inputs)
too_many_may May come true inputs may = (come.aborts TooManyErrors, tt)
too_many_may May come false inputs may = may

behind_may : (May : Input → Type 0) → MayCome May → (e : Endpoint) (core : Core) → AllByRecursion May (inputs_behind e core)
behind_may May come e closed = tt
behind_may May come e (cookie_wait my) = tt
behind_may May come e (cookie_echoed my held cookie) = too_many_may May come (is_exhausted e.options.max_retransmissions e.error_count) [] tt
behind_may May come e (open_in phase my held) = too_many_may May come (is_exhausted e.options.max_retransmissions e.error_count) (act_input flushes ∷ []) (come.flushed, tt)

after_may : (May : Input → Type 0) → MayCome May → (e : Endpoint) (has_expired : Bool) → AllByRecursion May (after_expiries e has_expired)
after_may May come e false = tt
after_may May come e true = behind_may May come e e.core

again_may : (May : Input → Type 0) → MayCome May → (asks : Bool) → AllByRecursion May (asked_again asks)
again_may May come false = tt
again_may May come true = (come.shuts_down, tt)

-- what comes after the chunks of a packet
tail_may : (May : Input → Type 0) → MayCome May → (e : Endpoint) → AllByRecursion May (packet_tail e)
tail_may May come e = (come.ends, again_may May come (awaits_opening e e.core))

handover_may : (May : Input → Type 0) → MayCome May → (readiness : ℕ) → AllByRecursion May (inputs_of_handover readiness)
handover_may May come zero = (come.hands_over, tt)
handover_may May come (suc reasons) = tt

-- ---- each call

module _ (Good : Endpoint → Transition → Type 0) (May : Input → Type 0) (come : MayCome May)
    (each : (e : Endpoint) (input : Input) (t : Transition) → May input → IsTurn e input t → Good e t) where
  none_along : (e : Endpoint) (ts : List Transition) → ts ≡ [] → AlongTurns Good e ts
  none_along e ts none = subst (AlongTurns Good e) (sym none) tt

  pub turns_along : (e : Endpoint) (inputs : List Input) (ts : List Transition) → AllByRecursion May inputs → Turns e inputs ts → AlongTurns Good e ts
  turns_along e [] [] may turns = tt
  turns_along e [] (t ∷ ts) may turns = absurd turns
  turns_along e (input ∷ inputs) [] may turns = absurd turns
  turns_along e (input ∷ inputs) (t ∷ ts) may turns = (each e input t may.0 turns.0, turns_along t.outcome.after inputs ts may.1 turns.1)

  -- whatever follows a chunk in its packet
  rest_along : (following : Following) (e : Endpoint) (tail : List Input) (ts : List Transition) (More : Type 0) → AllByRecursion May tail → (More → AlongTurns Good e ts)
      → AfterChunk following More (Turns e tail ts) (ts ≡ []) → AlongTurns Good e ts
  rest_along next_chunk e tail ts More may more rest = more rest
  rest_along packet_end e tail ts More may more rest = turns_along e tail ts may rest
  rest_along dropped_rest e tail ts More may more rest = none_along e ts rest

  chunks_along : (e : Endpoint) (tag : ℕ) (contents : List Content) (tail : List Input) (ts : List Transition) → EachMay May contents → AllByRecursion May tail
      → ChunkTurns e tag contents tail ts → AlongTurns Good e ts
  chunks_along e tag [] tail ts chunks may turns = turns_along e tail ts may turns
  chunks_along e tag (content ∷ contents) tail [] chunks may turns = absurd turns
  chunks_along e tag (content ∷ contents) tail (t ∷ ts) chunks may turns = (
    each e (chunk_input tag content) t (chunks.0 tag) turns.0,
    rest_along t.outcome.following t.outcome.after tail ts (ChunkTurns t.outcome.after tag contents tail ts) may
        (λ (rest : ChunkTurns t.outcome.after tag contents tail ts). chunks_along t.outcome.after tag contents tail ts chunks.1 may rest) turns.1,
  )

  whole_along : (e : Endpoint) (packet : Packet) (ts : List Transition) → EachMay May packet.contents → WholeTurns e packet ts → AlongTurns Good e ts
  whole_along e packet [] chunks turns = absurd turns
  whole_along e packet (t ∷ ts) chunks turns = (
    each e (packet_begins packet.contents) t (come.begins packet.contents) turns.0,
    chunks_along t.outcome.after packet.tag packet.contents (packet_tail t.outcome.after) ts chunks (tail_may May come t.outcome.after) turns.1,
  )

  admitted_along : (e : Endpoint) (packet : Packet) (admission : Admission) (ts : List Transition) → EachMay May packet.contents → AdmittedTurns e packet admission ts → AlongTurns Good e ts
  admitted_along e packet all_chunks ts chunks turns = whole_along e packet ts chunks turns
  admitted_along e packet shutdown_acks_alone ts chunks turns =
      chunks_along e packet.tag (shutdown_acks_of packet.contents) [] ts (acks_may May packet.contents chunks) tt turns
  admitted_along e packet (refused text) ts chunks turns = turns_along e (refusal text ∷ []) ts (come.refuses text, tt) turns

  pub input_along_where : (e : Endpoint) (bytes : List ℕ) (ts : List Transition) → HandleInput e bytes ts → AlongTurns Good e ts
  input_along_where e bytes _ (unreadable ts none turns) = turns_along e (arrival ∷ refusal unreadable_text ∷ []) ts (come.arrives, (come.refuses unreadable_text, tt)) turns
  input_along_where e bytes _ (readable packet counted ts found counts turns) = (
    each e arrival counted come.arrives counts,
    admitted_along counted.outcome.after (packet_of_content packet) (admits e.core (packet_of_content packet)) ts (read_may May come packet.chunks (chunks_have_minima packet.chunks (drop 12 bytes) found.chunks)) turns,
  )

  -- a timer that may be due, and what follows it
  expiry_along : (due : Bool) (Rest : Bool → Endpoint → List Transition → Type 0)
      → ((has_expired : Bool) (e : Endpoint) (ts : List Transition) → Rest has_expired e ts → AlongTurns Good e ts)
      → (e : Endpoint) (has_expired : Bool) (timer : Timer) (ts : List Transition) → ExpiryThen due Rest e has_expired timer ts → AlongTurns Good e ts
  expiry_along true Rest along e has_expired timer [] turns = absurd turns
  expiry_along true Rest along e has_expired timer (t ∷ ts) turns = (each e (expiry_input e timer) t (expiry_may May come e timer) turns.0, along true t.outcome.after ts turns.1)
  expiry_along false Rest along e has_expired timer ts turns = along has_expired e ts turns

  expiries_along : (timers : List Timer) (has_expired : Bool) (e : Endpoint) (ts : List Transition) → ExpiryTurns timers has_expired e ts → AlongTurns Good e ts
  expiries_along [] has_expired e ts turns = turns_along e (after_expiries e has_expired) ts (after_may May come e has_expired) turns
  expiries_along (timer ∷ timers) has_expired e ts turns =
      expiry_along (has_come e.moment (deadline e timer)) (ExpiryTurns timers) (expiries_along timers) e has_expired timer ts turns

  moment_along : (e : Endpoint) (moment : ℕ) (ts : List Transition) → MomentTurns e moment ts → AlongTurns Good e ts
  moment_along e moment [] turns = absurd turns
  moment_along e moment (t ∷ ts) turns = (
    each e (time_passes moment) t (come.passes moment) turns.0,
    expiries_along (handled_timers t.outcome.after.core) false t.outcome.after ts turns.1,
  )

  time_along : (later : Bool) (e : Endpoint) (moment : ℕ) (ts : List Transition) → TimeTurns later e moment ts → AlongTurns Good e ts
  time_along true e moment ts turns = moment_along e moment ts turns
  time_along false e moment ts none = none_along e ts none

  -- the turns of each call of a user
  pub call_along : (e : Endpoint) (call : CallContent) (ts : List Transition) → UserTurns e call ts → AlongTurns Good e ts
  call_along e connect_call ts turns = turns_along e (act_input connect ∷ []) ts (come.connects, tt) turns
  call_along e close_call ts turns = turns_along e (act_input (abort_with CloseCalled) ∷ []) ts (come.aborts CloseCalled, tt) turns
  call_along e shutdown_call ts turns = turns_along e (act_input shut_down ∷ []) ts (come.shuts_down, tt) turns
  call_along e (advance_call moment) ts turns = time_along (nat_le e.moment moment) e moment ts turns
  call_along e (set_call setting) ts turns = turns_along e (user_sets setting ∷ []) ts (come.sets setting, tt) turns
  call_along e (send_call message options) ts turns =
      turns_along e (user_sends (sending_of options message ∷ []) ∷ []) ts (come.sends (sending_of options message ∷ []), tt) turns
  call_along e (send_many_call messages options) ts turns =
      turns_along e (user_sends (map (sending_of options) messages) ∷ []) ts (come.sends (map (sending_of options) messages), tt) turns
  call_along e (reset_call ids) ts turns = turns_along e (user_resets ids ∷ []) ts (come.resets ids, tt) turns
  call_along e take_call ts turns = turns_along e (user_takes ∷ []) ts (come.takes, tt) turns
  call_along e hand_over_call ts turns = turns_along e (inputs_of_handover (readiness_of e)) ts (handover_may May come (readiness_of e)) turns

module _ (Good : Endpoint → Transition → Type 0) (each : (e : Endpoint) (input : Input) (t : Transition) → IsTurn e input t → Good e t) where
  pub any_along : (e : Endpoint) (input : Input) (t : Transition) → Anything input → IsTurn e input t → Good e t
  any_along e input t may turn = each e input t turn

  pub input_along : (e : Endpoint) (bytes : List ℕ) (ts : List Transition) → HandleInput e bytes ts → AlongTurns Good e ts
  input_along e bytes ts turns = input_along_where Good Anything anything_may_come any_along e bytes ts turns
