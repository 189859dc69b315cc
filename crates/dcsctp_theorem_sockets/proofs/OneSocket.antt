-- What ends a socket's own requests.
use Rattle.std.proofs.Common.{◌≡◌, ℕ, Bool, true, false, cond, List, [], ◌∷◌, inl, inr, refl, sym, subst, ap}
use Rattle.std.specs.List.{AllByRecursion}
use Rattle.dcsctp_spec_lemmas.specs.types.declared.association.Pair.{Pair}
use Rattle.dcsctp_spec_lemmas.specs.types.declared.word.Word.{Word}
use Rattle.dcsctp_spec_lemmas.specs.types.declared.word.Word.TheVariants.{U32}
use Rattle.dcsctp_spec_lemmas.specs.spec.Packet.{Introduction, Content, init, init_ack, cookie_echo, cookie_ack, re_config, abort, shutdown, shutdown_ack, shutdown_complete, plain, Emission}
use Rattle.dcsctp_spec_lemmas.specs.spec.endpoint.Endpoint.{Endpoint, Core, closed, cookie_wait, cookie_echoed, open_in, established, shutdown_pending, shutdown_sent, shutdown_received, shutdown_ack_sent, fresh_endpoint, with_secret, secret_with}
use Rattle.dcsctp_spec_lemmas.specs.spec.endpoint.Outcome.{Outcome, quiet, sends as sends_packet, fits, emits, to_peer}
use Rattle.dcsctp_spec_laws.proofs.DataLemmas.{flushed_act, end_at, send_at, resets_at, take_at}
use Rattle.dcsctp_spec_lemmas.specs.spec.endpoint.OwnTimers.{timer_act}
use Rattle.dcsctp_spec_laws.proofs.HeartbeatLemmas.{timer_controlled}
use Rattle.dcsctp_spec_lemmas.specs.spec.endpoint.Turn.{Input, arrival, refusal, packet_begins, chunk_input, packet_ends, act_input, user_sets, user_sends, user_resets, user_takes, timer_expires, time_passes, restores, has_data_chunk}
use Rattle.dcsctp_spec_lemmas.specs.spec.endpoint.HandshakeOutcomes.{pair_from, renewed_pair, renewed_pair_outcome, init_ack_emission, init_outcome}
use Rattle.dcsctp_spec_lemmas.specs.spec.association.Effect.{Effect, draws, sends, holds, connects, ends, begins, gives_up, completes, fails, accepts, performs, renews, resumes, effects_without_packets, Change}
use Rattle.dcsctp_spec_lemmas.specs.spec.association.Acts.{Act, shutdown_repeats, flushes}
use Rattle.dcsctp_spec_lemmas.specs.spec.association.Controlled.{IsControlledChunk, IsControlledAct}
use Rattle.dcsctp_spec_lemmas.specs.spec.endpoint.CallTurns.{Transition, IsTurn, AlongTurns}
use Rattle.dcsctp_spec_laws.specs.TurnLaws.{ActsAreControlled}
use Rattle.dcsctp_spec_runs.specs.Past.{HasEffect}
use Rattle.dcsctp_spec_runs.specs.Sockets.{of_side, turns_after}
use Rattle.dcsctp_spec_runs.proofs.RunsAlong.{run_along}
use Rattle.dcsctp_spec_lemmas.proofs.ControlHandshake.{init_ack_controlled, cookie_ack_controlled, abort_controlled}
use Rattle.dcsctp_spec_laws.proofs.HeardShutdownLemmas.{shutdown_controlled}
use Rattle.dcsctp_spec_laws.proofs.ShutdownLemmas.{shutdown_ack_controlled, shutdown_complete_controlled}
use Rattle.dcsctp_spec_lemmas.proofs.ControlEcho.{cookie_echo_controlled}
use Rattle.dcsctp_spec_laws.proofs.ControlLemmas.{begin_stands}
use Rattle.dcsctp_spec_laws.proofs.PlainLemmas.{plain_controlled}
use Rattle.dcsctp_spec_laws.proofs.ResetLemmas.{reset_controlled}
use Rattle.dcsctp_theorem_association.specs.OneSide.{AnswersEndRequests}
use Rattle.dcsctp_spec_lemmas.specs.types.Snapshot.{Snapshot}
use Rattle.dcsctp_spec_lemmas.specs.spec.queues.Transfer.{Transfer}
use Rattle.dcsctp_spec_lemmas.specs.spec.endpoint.RestoreOutcomes.{restored_outcome}
use Rattle.dcsctp_spec_lemmas.proofs.OneAnswerLemmas.{init_by}
use Rattle.dcsctp_spec_laws.proofs.ControlRestores.{restore_stands}
use Rattle.dcsctp_theorem_sockets.specs.OneSocket.{EndsByAnswer, SocketRequestsEndByAnswers}

-- ---- one turn

-- what is recorded happened
pub noted_happened : (effect : Effect) (effects : List Effect) → HasEffect effect (effects_without_packets effects) → HasEffect effect effects
noted_happened effect [] has = absurd has
noted_happened effect (sends packet ∷ effects) has = inr (noted_happened effect effects has)
noted_happened effect (draws pair ∷ effects) (inl is) = inl is
noted_happened effect (draws pair ∷ effects) (inr has) = inr (noted_happened effect effects has)
noted_happened effect (holds link ∷ effects) (inl is) = inl is
noted_happened effect (holds link ∷ effects) (inr has) = inr (noted_happened effect effects has)
noted_happened effect (connects link ∷ effects) (inl is) = inl is
noted_happened effect (connects link ∷ effects) (inr has) = inr (noted_happened effect effects has)
noted_happened effect (ends ∷ effects) (inl is) = inl is
noted_happened effect (ends ∷ effects) (inr has) = inr (noted_happened effect effects has)
noted_happened effect (begins number ∷ effects) (inl is) = inl is
noted_happened effect (gives_up number ∷ effects) (inl is) = inl is
noted_happened effect (begins number ∷ effects) (inr has) = inr (noted_happened effect effects has)
noted_happened effect (gives_up number ∷ effects) (inr has) = inr (noted_happened effect effects has)
noted_happened effect (completes my number ∷ effects) (inl is) = inl is
noted_happened effect (completes my number ∷ effects) (inr has) = inr (noted_happened effect effects has)
noted_happened effect (fails number ∷ effects) (inl is) = inl is
noted_happened effect (fails number ∷ effects) (inr has) = inr (noted_happened effect effects has)
noted_happened effect (accepts number ∷ effects) (inl is) = inl is
noted_happened effect (accepts number ∷ effects) (inr has) = inr (noted_happened effect effects has)
noted_happened effect (performs peer number ∷ effects) (inl is) = inl is
noted_happened effect (resumes link own last ∷ effects) (inl is) = inl is
noted_happened effect (performs peer number ∷ effects) (inr has) = inr (noted_happened effect effects has)
noted_happened effect (renews peer number ∷ effects) (inl is) = inl is
noted_happened effect (renews peer number ∷ effects) (inr has) = inr (noted_happened effect effects has)
noted_happened effect (resumes link own last ∷ effects) (inr has) = inr (noted_happened effect effects has)

-- a turn whose effects end no request
record EndsNone (effects : List Effect) : Type 0 where
  completed : (my : Pair) (number : ℕ) → HasEffect (completes my number) effects → ⊥
  failed : (number : ℕ) → HasEffect (fails number) effects → ⊥

nothing_ended : EndsNone []
nothing_ended = record { completed = λ my number has. has; failed = λ number has. has }

drawn_before : (pair : Pair) (effects : List Effect) → EndsNone effects → EndsNone (draws pair ∷ effects)
drawn_before pair effects h =
    record {
      completed = λ my number has. elim has [ inl is ↦ absurd (cc) | inr other ↦ h.completed my number other ];
      failed = λ number has. elim has [ inl is ↦ absurd (cc) | inr other ↦ h.failed number other ];
    }

none_ended : (t : Transition) → EndsNone t.outcome.effects → EndsByAnswer t
none_ended t h = record { completed = λ my number has. absurd (h.completed my number has); failed = λ number has. absurd (h.failed number has) }

same_ends : (t : Transition) (o : Outcome) → t.outcome ≡ o → EndsNone o.effects → EndsByAnswer t
same_ends t o is h = none_ended t (subst (λ (x : Outcome). EndsNone x.effects) (sym is) h)

-- a turn that the association makes for a chunk
by_chunk : AnswersEndRequests → (e : Endpoint) (tag : ℕ) (content : Content) (t : Transition) → t.input ≡ chunk_input tag content → IsControlledChunk e tag content t.outcome → EndsByAnswer t
by_chunk law e tag content t is turn =
    let change : Change = turn.0 in
    subst (λ (x : Transition). EndsByAnswer x) (ap (λ (i : Input). record t { input = i }) (sym is))
    (record {
      completed = λ my number has.
          law.completed e.options e.core tag content turn.1.0 my number
          (subst (λ (c : Change). HasEffect (completes my number) c.effects) turn.1.2 (noted_happened (completes my number) change.effects (subst (HasEffect (completes my number)) turn.2.effects has)));
      failed = λ number has.
          law.failed e.options e.core tag content turn.1.0 number
          (subst (λ (c : Change). HasEffect (fails number) c.effects) turn.1.2 (noted_happened (fails number) change.effects (subst (HasEffect (fails number)) turn.2.effects has)));
    })

by_act : AnswersEndRequests → (e : Endpoint) (act : Act) (t : Transition) → IsControlledAct e act t.outcome → EndsByAnswer t
by_act law e act t turn =
    none_ended t (record {
      completed = λ my number has. law.none_completed e.options e.core act turn.0 my number (noted_happened (completes my number) _ (subst (HasEffect (completes my number)) turn.1.effects has));
      failed = λ number has. law.none_failed e.options e.core act turn.0 number (noted_happened (fails number) _ (subst (HasEffect (fails number)) turn.1.effects has));
    })

packet_ends_none : (b : Bool) (e : Endpoint) (words : List Word) (emission : Emission) → EndsNone (cond b (sends_packet e words [] emission) (quiet e words [])).effects
packet_ends_none true e words emission = nothing_ended
packet_ends_none false e words emission = nothing_ended

emits_end_none : (e : Endpoint) (words : List Word) (emission : Emission) → EndsNone (emits e words emission).effects
emits_end_none e words emission = packet_ends_none (fits e emission) e words emission

renewing_ends_none : (e : Endpoint) (theirs : Introduction) (word : ℕ) → EndsNone (renewed_pair_outcome e theirs word).effects
renewing_ends_none e theirs word = drawn_before _ _ (emits_end_none e (U32 word ∷ []) (init_ack_emission e theirs (renewed_pair e word) e.tie))

init_ends_none : (e : Endpoint) (theirs : Introduction) (core : Core) (word next : ℕ) → EndsNone (init_outcome e theirs core word next).effects
init_ends_none e theirs closed word next = drawn_before _ _ (emits_end_none (with_secret e (pair_from word next)) (U32 word ∷ U32 next ∷ []) (init_ack_emission (with_secret e (pair_from word next)) theirs (pair_from word next) (secret_with e (pair_from word next))))
init_ends_none e theirs (cookie_wait my) word next = emits_end_none e [] (init_ack_emission e theirs my e.secret)
init_ends_none e theirs (cookie_echoed my held cookie) word next = emits_end_none e [] (init_ack_emission e theirs my e.secret)
init_ends_none e theirs (open_in established my held) word next = renewing_ends_none e theirs word
init_ends_none e theirs (open_in shutdown_pending my held) word next = renewing_ends_none e theirs word
init_ends_none e theirs (open_in shutdown_sent my held) word next = renewing_ends_none e theirs word
init_ends_none e theirs (open_in shutdown_received my held) word next = renewing_ends_none e theirs word
init_ends_none e theirs (open_in shutdown_ack_sent my held) word next = emits_end_none e [] (to_peer held shutdown_ack)

chunk_ends : AnswersEndRequests → (e : Endpoint) (tag : ℕ) (content : Content) (t : Transition) → IsTurn e (chunk_input tag content) t → EndsByAnswer t
chunk_ends law e tag (init theirs) t h =
    same_ends t _ h.comes.2
    (init_by (λ (o : Outcome). EndsNone o.effects) e theirs h.comes.0 h.comes.1 nothing_ended (init_ends_none e theirs e.core h.comes.0 h.comes.1))
chunk_ends law e tag (init_ack theirs cookie) t h = by_chunk law e tag (init_ack theirs cookie) t h.is (init_ack_controlled e tag theirs cookie t.outcome h.comes)
chunk_ends law e tag (cookie_echo cookie) t h = by_chunk law e tag (cookie_echo cookie) t h.is (cookie_echo_controlled e tag cookie t.outcome h.comes)
chunk_ends law e tag cookie_ack t h = by_chunk law e tag cookie_ack t h.is (cookie_ack_controlled e tag t.outcome h.comes)
chunk_ends law e tag (re_config parameters) t h = by_chunk law e tag (re_config parameters) t h.is (reset_controlled e tag parameters t.outcome h.comes)
chunk_ends law e tag (abort reflected causes) t h = by_chunk law e tag (abort reflected causes) t h.is (abort_controlled e tag reflected causes t.outcome h.comes)
chunk_ends law e tag (shutdown tsn) t h = by_chunk law e tag (shutdown tsn) t h.is (shutdown_controlled e tag tsn t.outcome h.comes)
chunk_ends law e tag shutdown_ack t h = by_chunk law e tag shutdown_ack t h.is (shutdown_ack_controlled e tag t.outcome h.comes)
chunk_ends law e tag (shutdown_complete reflected) t h = by_chunk law e tag (shutdown_complete reflected) t h.is (shutdown_complete_controlled e tag reflected t.outcome h.comes)
chunk_ends law e tag (plain chunk) t h = by_chunk law e tag (plain chunk) t h.is (plain_controlled e tag chunk t.outcome h.comes)

restore_ends_none : (e : Endpoint) (state : Snapshot) (transfer : Transfer) → EndsNone (restored_outcome e state transfer).effects
restore_ends_none e state transfer =
    record {
      completed = λ my number has. elim has [ inl is ↦ absurd (cc) | inr (inl is) ↦ absurd (cc) | inr (inr none) ↦ absurd none ];
      failed = λ number has. elim has [ inl is ↦ absurd (cc) | inr (inl is) ↦ absurd (cc) | inr (inr none) ↦ absurd none ];
    }

-- the laws that this rests on
pub record EndLaws : Type 0 where
  pub answers : AnswersEndRequests
  pub acts : ActsAreControlled

turn_ends : EndLaws → (e : Endpoint) (input : Input) (t : Transition) → IsTurn e input t → EndsByAnswer t
turn_ends law e arrival t h = same_ends t _ h.comes nothing_ended
turn_ends law e (refusal text) t h = same_ends t _ h.comes nothing_ended
turn_ends law e (packet_begins contents) t h =
    elim (begin_stands e e.core (has_data_chunk e.options.follow_rfc contents) t.outcome refl h.comes) [ inl rests ↦ same_ends t _ rests nothing_ended | inr acts ↦ by_act law.answers e shutdown_repeats t acts ]
turn_ends law e (chunk_input tag content) t h = chunk_ends law.answers e tag content t h
turn_ends law e packet_ends t h = by_act law.answers e flushes t (flushed_act e t.outcome (end_at e e.queues.transfer t.outcome h.comes))
turn_ends law e (act_input act) t h = by_act law.answers e act t (law.acts e act t.outcome h.comes)
turn_ends law e (user_sets setting) t h = same_ends t _ h.comes nothing_ended
turn_ends law e (user_sends messages) t h = by_act law.answers e flushes t (flushed_act e t.outcome (send_at e messages t.outcome h.comes))
turn_ends law e (user_resets ids) t h = by_act law.answers e flushes t (flushed_act e t.outcome (resets_at e ids t.outcome h.comes))
turn_ends law e user_takes t h = by_act law.answers e flushes t (flushed_act e t.outcome (take_at e e.queues.transfer t.outcome h.comes))
turn_ends law e (timer_expires timer) t h = by_act law.answers e (timer_act e timer) t (timer_controlled e timer t.outcome h.comes)
turn_ends law e (time_passes moment) t h = same_ends t _ h.comes nothing_ended
turn_ends law e (restores state) t h =
    elim (restore_stands e state t.outcome h.comes) [ inl rests ↦ same_ends t _ rests nothing_ended | inr restored ↦ same_ends t _ restored.is (restore_ends_none e state restored.transfer) ]

-- ---- a run

pub all_along : (Good : Transition → Type 0) (e : Endpoint) (ts : List Transition) → AlongTurns (λ (x : Endpoint). Good) e ts → AllByRecursion Good ts
all_along Good e [] along = tt
all_along Good e (t ∷ ts) along = (along.0, all_along Good t.outcome.after ts along.1)

pub requests_end : EndLaws → SocketRequestsEndByAnswers
requests_end law options run runs side =
    all_along EndsByAnswer (fresh_endpoint (of_side side options)) (of_side side (turns_after run))
    (run_along (λ (x : Endpoint). EndsByAnswer) (turn_ends law) options run runs side)
