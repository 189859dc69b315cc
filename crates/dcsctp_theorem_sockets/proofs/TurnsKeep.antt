-- If rules on cookies hold of what is received, they hold of what is sent, turn by turn.
use Rattle.std.proofs.Common.{◌≡◌, ℕ, Bool, true, false, cond, List, [], ◌∷◌, inl, inr, refl, sym, subst}
use Rattle.std.specs.List.{AllByRecursion}
use Rattle.dcsctp_spec_lemmas.specs.types.declared.word.Word.{Word}
use Rattle.dcsctp_spec_lemmas.specs.types.declared.word.Word.TheVariants.{U32}
use Rattle.dcsctp_spec_lemmas.specs.types.declared.association.Pair.{Pair}
use Rattle.dcsctp_spec_lemmas.specs.spec.Cookie.{cookie_bytes}
use Rattle.dcsctp_spec_lemmas.specs.spec.Packet.{Introduction, Content, init, shutdown_ack, Emission}
use Rattle.dcsctp_spec_lemmas.specs.spec.endpoint.Endpoint.{Endpoint, Core, closed, cookie_wait, cookie_echoed, open_in, shutdown_ack_sent, with_secret, secret_with}
use Rattle.dcsctp_spec_lemmas.specs.spec.endpoint.Outcome.{Outcome, still, quiet, sends as sends_packet, fits, to_peer, emits}
use Rattle.dcsctp_spec_lemmas.specs.spec.endpoint.HandshakeOutcomes.{pair_from, renewed_pair, cookie_for, init_ack_emission, init_outcome}
use Rattle.dcsctp_spec_lemmas.specs.spec.endpoint.OwnTimers.{timer_act}
use Rattle.dcsctp_spec_lemmas.specs.spec.endpoint.Turn.{Input, arrival, refusal, packet_begins, chunk_input, packet_ends, act_input, user_sets, user_sends, user_resets, user_takes, timer_expires, time_passes, restores, has_data_chunk}
use Rattle.dcsctp_spec_lemmas.specs.spec.association.Effect.{Effect, sends, Change}
use Rattle.dcsctp_spec_lemmas.specs.spec.association.Choices.{Choices}
use Rattle.dcsctp_spec_lemmas.specs.spec.association.Acts.{Act, act_change, shutdown_repeats, flushes}
use Rattle.dcsctp_spec_lemmas.specs.spec.association.Controlled.{IsControlled, IsControlledChunk, IsControlledAct}
use Rattle.dcsctp_spec_lemmas.specs.spec.endpoint.CallTurns.{Transition, IsTurn, AlongTurns, after_all, events_of}
use Rattle.dcsctp_spec_lemmas.proofs.OneAnswerLemmas.{init_by}
use Rattle.dcsctp_spec_laws.specs.TurnLaws.{ChunksAreControlled, ActsAreControlled}
use Rattle.dcsctp_spec_runs.specs.Past.{HasEffect}
use Rattle.dcsctp_spec_runs.specs.Fitting.{AllSent}
use Rattle.dcsctp_spec_laws.proofs.ControlLemmas.{begin_stands}
use Rattle.dcsctp_spec_laws.proofs.ControlRestores.{restore_stands, resumed_by}
use Rattle.dcsctp_spec_laws.proofs.DataLemmas.{flushed_act, end_at, send_at, resets_at, take_at}
use Rattle.dcsctp_spec_laws.proofs.HeartbeatLemmas.{timer_controlled}
use Rattle.dcsctp_theorem_sockets.proofs.Sent.{all_sent_append, all_sent_map}
use Rattle.dcsctp_theorem_sockets.proofs.Signs.{packets_are_effects}
use Rattle.dcsctp_theorem_sockets.proofs.CookieRules.{Rules, ContentsKeep, EffectKeeps, EffectsKeep, CoreKeeps, ChangeKeeps, TakenKeeps, AnswerKeeps}
use Rattle.dcsctp_theorem_sockets.proofs.ChangesKeep.{act_keeps, chunk_keeps}

abbrev pub EmissionKeeps : Rules → Emission → Type 0
EmissionKeeps rules emission = ContentsKeep rules emission.packet.contents

abbrev pub InputKeeps : Rules → Input → Type 0
InputKeeps rules (chunk_input tag content) = TakenKeeps rules content
InputKeeps rules input = Unit {0}

pub record OutcomeKeeps (rules : Rules) (o : Outcome) : Type 0 where
  pub sent : AllSent (EmissionKeeps rules) o.events
  pub core : CoreKeeps rules o.after.core

-- a turn that keeps the rules if the association before it and the input do
abbrev pub TurnKeeps : Rules → Endpoint → Transition → Type 0
TurnKeeps rules e t = CoreKeeps rules e.core → InputKeeps rules t.input → OutcomeKeeps rules t.outcome

-- each cookie that this endpoint may give away
abbrev pub MakesGood : Rules → Endpoint → Type 0
MakesGood rules e = (theirs : Introduction) (mine : Pair) (tie : ℕ) → rules.given (cookie_bytes (cookie_for e.moment theirs mine tie))

pub record TurnsKeep (rules : Rules) (e : Endpoint) (turns : List Transition) : Type 0 where
  pub sent : AllSent (EmissionKeeps rules) (events_of turns)
  pub core : CoreKeeps rules (after_all e turns).core

module _ (rules : Rules) where
  -- ---- a turn that is one of the association

  effect_of : (effects : List Effect) (effect : Effect) → EffectsKeep rules effects → HasEffect effect effects → EffectKeeps rules effect
  effect_of [] effect h has = absurd has
  effect_of (first ∷ effects) effect h (inl is) = subst (EffectKeeps rules) (sym is) h.0
  effect_of (first ∷ effects) effect h (inr has) = effect_of effects effect h.1 has

  by_change : (e : Endpoint) (o : Outcome) (change : Change) → IsControlled e o change → ChangeKeeps rules change → OutcomeKeeps rules o
  by_change e o change is h =
      record {
        sent = all_sent_map (λ emission was. effect_of change.effects (sends emission.packet) h.effects was) o.events (packets_are_effects o.events change.effects is.observations);
        core = subst (CoreKeeps rules) (sym is.core) h.core;
      }

  by_act : (e : Endpoint) (act : Act) (o : Outcome) → IsControlledAct e act o → CoreKeeps rules e.core → OutcomeKeeps rules o
  by_act e act o turn h = by_change e o (act_change e.options e.core act turn.0) turn.1 (act_keeps rules e.options e.core act turn.0 h)

  by_chunk : (e : Endpoint) (tag : ℕ) (content : Content) (o : Outcome) → IsControlledChunk e tag content o → CoreKeeps rules e.core → TakenKeeps rules content
      → ((choices : Choices) → AnswerKeeps rules content choices) → OutcomeKeeps rules o
  by_chunk e tag content o turn h k made =
      by_change e o turn.0 turn.2 (subst (ChangeKeeps rules) (sym turn.1.2) (chunk_keeps rules e.options e.core tag content turn.1.0 h k (made turn.1.0)))

  same_as : (o other : Outcome) → o ≡ other → OutcomeKeeps rules other → OutcomeKeeps rules o
  same_as o other is h = subst (OutcomeKeeps rules) (sym is) h

  -- ---- an INIT

  emits_where : (b : Bool) (e : Endpoint) (words : List Word) (emission : Emission) → CoreKeeps rules e.core → EmissionKeeps rules emission
      → OutcomeKeeps rules (cond b (sends_packet e words [] emission) (quiet e words []))
  emits_where true e words emission h k = record { sent = (k, tt); core = h }
  emits_where false e words emission h k = record { sent = tt; core = h }

  emits_keeps : (e : Endpoint) (words : List Word) (emission : Emission) → CoreKeeps rules e.core → EmissionKeeps rules emission → OutcomeKeeps rules (emits e words emission)
  emits_keeps e words emission h k = emits_where (fits e emission) e words emission h k

  with_effects : (o : Outcome) (effects : List Effect) → OutcomeKeeps rules o → OutcomeKeeps rules (record o { effects = effects })
  with_effects o effects h = record { sent = h.sent; core = h.core }

  init_keeps : (e : Endpoint) (theirs : Introduction) (core : Core) (word next : ℕ) → CoreKeeps rules e.core → MakesGood rules e → OutcomeKeeps rules (init_outcome e theirs core word next)
  init_keeps e theirs closed word next h made =
      with_effects _ _ (emits_keeps (with_secret e (pair_from word next)) (U32 word ∷ U32 next ∷ []) (init_ack_emission (with_secret e (pair_from word next)) theirs (pair_from word next) (secret_with e (pair_from word next))) h (made theirs (pair_from word next) (secret_with e (pair_from word next)), tt))
  init_keeps e theirs (cookie_wait my) word next h made = emits_keeps e [] (init_ack_emission e theirs my e.secret) h (made theirs my e.secret, tt)
  init_keeps e theirs (cookie_echoed my held cookie) word next h made = emits_keeps e [] (init_ack_emission e theirs my e.secret) h (made theirs my e.secret, tt)
  init_keeps e theirs (open_in shutdown_ack_sent my held) word next h made = emits_keeps e [] (to_peer held shutdown_ack) h (tt, tt)
  init_keeps e theirs (open_in phase my held) word next h made =
      with_effects _ _ (emits_keeps e (U32 word ∷ []) (init_ack_emission e theirs (renewed_pair e word) e.tie) h (made theirs (renewed_pair e word) e.tie, tt))

  -- ---- each turn

  chunk_turn_keeps : ChunksAreControlled → (e : Endpoint) → MakesGood rules e → (tag : ℕ) (content : Content) (t : Transition) → IsTurn e (chunk_input tag content) t
      → CoreKeeps rules e.core → TakenKeeps rules content → OutcomeKeeps rules t.outcome
  chunk_turn_keeps law e made tag (init theirs) t turn h k =
      let at : OutcomeKeeps rules (init_outcome e theirs e.core turn.comes.0 turn.comes.1) = init_keeps e theirs e.core turn.comes.0 turn.comes.1 h made in
      same_as t.outcome _ turn.comes.2
      (init_by (OutcomeKeeps rules) e theirs turn.comes.0 turn.comes.1 (record { sent = tt; core = h }) (record { sent = at.sent; core = at.core }))
  chunk_turn_keeps law e made tag content t turn h k = by_chunk e tag content t.outcome (law e tag content t.outcome turn.comes tt) h k (λ choices. tt)

  pub input_keeps : ChunksAreControlled → ActsAreControlled → (e : Endpoint) → MakesGood rules e → (input : Input) (t : Transition) → IsTurn e input t
      → CoreKeeps rules e.core → InputKeeps rules input → OutcomeKeeps rules t.outcome
  input_keeps chunks acts e made arrival t turn h k = same_as t.outcome _ turn.comes (record { sent = tt; core = h })
  input_keeps chunks acts e made (refusal text) t turn h k = same_as t.outcome _ turn.comes (record { sent = (tt, tt); core = h })
  input_keeps chunks acts e made (packet_begins contents) t turn h k =
      elim (begin_stands e e.core (has_data_chunk e.options.follow_rfc contents) t.outcome refl turn.comes) [
        | inl rests ↦ same_as t.outcome (still e) rests (record { sent = tt; core = h })
        | inr begun ↦ by_act e shutdown_repeats t.outcome begun h
      ]
  input_keeps chunks acts e made (chunk_input tag content) t turn h k = chunk_turn_keeps chunks e made tag content t turn h k
  input_keeps chunks acts e made packet_ends t turn h k = by_act e flushes t.outcome (flushed_act e t.outcome (end_at e e.queues.transfer t.outcome turn.comes)) h
  input_keeps chunks acts e made (act_input act) t turn h k = by_act e act t.outcome (acts e act t.outcome turn.comes) h
  input_keeps chunks acts e made (user_sets setting) t turn h k = same_as t.outcome _ turn.comes (record { sent = tt; core = h })
  input_keeps chunks acts e made (user_sends messages) t turn h k = by_act e flushes t.outcome (flushed_act e t.outcome (send_at e messages t.outcome turn.comes)) h
  input_keeps chunks acts e made (user_resets ids) t turn h k = by_act e flushes t.outcome (flushed_act e t.outcome (resets_at e ids t.outcome turn.comes)) h
  input_keeps chunks acts e made user_takes t turn h k = by_act e flushes t.outcome (flushed_act e t.outcome (take_at e e.queues.transfer t.outcome turn.comes)) h
  input_keeps chunks acts e made (timer_expires timer) t turn h k = by_act e (timer_act e timer) t.outcome (timer_controlled e timer t.outcome turn.comes) h
  input_keeps chunks acts e made (time_passes moment) t turn h k = same_as t.outcome _ turn.comes (record { sent = tt; core = h })
  input_keeps chunks acts e made (restores state) t turn h k =
      elim (restore_stands e state t.outcome turn.comes) [
        | inl rests ↦ same_as t.outcome _ rests (record { sent = tt; core = h })
        | inr restored ↦ by_change e t.outcome (resumed_by e state) restored.controlled (record { effects = (tt, (tt, tt)); core = tt })
      ]

  pub turn_keeps : ChunksAreControlled → ActsAreControlled → ((e : Endpoint) → MakesGood rules e) → (e : Endpoint) (input : Input) (t : Transition) → IsTurn e input t → TurnKeeps rules e t
  turn_keeps chunks acts made e input t turn h k = input_keeps chunks acts e (made e) input t turn h (subst (InputKeeps rules) turn.is k)

  -- ---- several turns

  pub turns_keep : (e : Endpoint) (turns : List Transition) → AlongTurns (TurnKeeps rules) e turns → CoreKeeps rules e.core → AllByRecursion (λ turn. InputKeeps rules turn.input) turns
      → TurnsKeep rules e turns
  turns_keep e [] along h inputs = record { sent = tt; core = h }
  turns_keep e (t ∷ turns) along h inputs =
      let first : OutcomeKeeps rules t.outcome = along.0 h inputs.0 in
      let rest : TurnsKeep rules t.outcome.after turns = turns_keep t.outcome.after turns along.1 first.core inputs.1 in
      record { sent = all_sent_append (EmissionKeeps rules) t.outcome.events (events_of turns) first.sent rest.sent; core = rest.core }
