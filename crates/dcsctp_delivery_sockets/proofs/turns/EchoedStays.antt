-- By the RFC a socket that awaits its COOKIE ACK keeps its association as it is until it connects or
-- ends: it begins no request to reset streams.
use Rattle.dcsctp_spec_lemmas.specs.types.declared.ends.AbortReason.TheVariants as reasons
use Rattle.std.proofs.Common.{◌≡◌, ◌⊎◌, ◌==◌, ◌&&◌, ℕ, Bool, true, false, cond, Option, None, Some, Result, Ok, Err, List, [], ◌∷◌, refl, sym, ◌∙◌, ap, subst, inl, inr}
use Rattle.dcsctp_spec_lemmas.specs.wire.Content.{data_chunk, init_chunk, init_ack_chunk, sack_chunk, heartbeat_chunk, heartbeat_ack_chunk, abort_chunk, shutdown_chunk, shutdown_ack_chunk, error_chunk, cookie_echo_chunk, cookie_ack_chunk, shutdown_complete_chunk, i_data_chunk, re_config_chunk, forward_tsn_chunk, i_forward_tsn_chunk, unknown_chunk}
use Rattle.dcsctp_spec_lemmas.specs.types.declared.association.Held.{Held}
use Rattle.dcsctp_spec_lemmas.specs.types.declared.association.Pair.{Pair}
use Rattle.dcsctp_spec_lemmas.specs.types.declared.ends.AbortReason.{AbortReason}
use Rattle.dcsctp_spec_lemmas.specs.types.declared.ends.Violation.{Violation}
use Rattle.dcsctp_spec_lemmas.specs.types.declared.word.Word.{Word}
use Rattle.dcsctp_spec_lemmas.specs.types.queues.Messages.{MessageContent}
use Rattle.dcsctp_spec_lemmas.specs.spec.Cookie.{Cookie, cookie_of_bytes}
use Rattle.dcsctp_spec_lemmas.specs.spec.Packet.{Content, init, init_ack, cookie_echo, cookie_ack, re_config, abort, shutdown, shutdown_ack, shutdown_complete, Plain, unknown, heartbeat, heartbeat_ack, unworked, plain, Emission}
use Rattle.dcsctp_spec_lemmas.specs.spec.Reconfiguration.{RequestedReset}
use Rattle.dcsctp_spec_lemmas.specs.spec.association.Acts as acts
use Rattle.dcsctp_spec_lemmas.specs.spec.association.Acts.{Act, connect, t1_expires, shut_down, step_of_shutdown, shutdown_repeats, abort_with, hands_over, flushes, request_again}
use Rattle.dcsctp_spec_lemmas.specs.spec.association.CookieEchoChanges.{Resolution, establish_new, restart, simultaneous_init, discard, maintain_existing, invalid_tag, stale}
use Rattle.dcsctp_spec_lemmas.specs.spec.association.Choices.{plain_contents}
use Rattle.dcsctp_spec_lemmas.specs.spec.endpoint.BegunResets.{BegunReset, core_asking, after_begun, last_assigned_tsn}
use Rattle.dcsctp_spec_lemmas.specs.spec.endpoint.CookieEchoOutcomes.{ResolvedAnswers, resolve_with_flush, EchoedAnswers, cookie_echo_with_flush, resolved_now, cookie_ack_emission}
use Rattle.dcsctp_spec_lemmas.specs.spec.endpoint.DataOutcomes.{endpoint_with_tracker, flush_to_peer, AnswersTo, FlushTurn, AnswersPacketIfDue, AcknowledgesPacket, TakesFirstReady, TakeLeft, TakeTurn, delay_outcome, LossTurn}
use Rattle.dcsctp_spec_lemmas.specs.spec.endpoint.EndOutcomes.{aborting_outcome}
use Rattle.dcsctp_spec_lemmas.specs.spec.endpoint.Endpoint.{Endpoint, Core, closed, cookie_wait, cookie_echoed, open_in, OutstandingRequest, held_by_core, is_cookie_echoed}
use Rattle.dcsctp_spec_lemmas.specs.spec.endpoint.FlushOutcomes.{Answer, may_be_asked, begun_by_ask, filled_draft, room_of_draft, draft_to, flush_of, flush_answered, first_ask, packets_allowed, GivesUnlessIdle, IsAnswerOfQueues, AreFlushAnswers, at_limit, at_empty, after_packet, FlushAnswers}
use Rattle.dcsctp_spec_lemmas.specs.spec.endpoint.HandshakeOutcomes.{init_ack_emission, init_outcome, connect_outcome, echo_emission, EchoAnswers, init_ack_with_flush, connected_after, CookieAckAnswers, cookie_ack_with_flush}
use Rattle.dcsctp_spec_lemmas.specs.spec.endpoint.HeartbeatOutcomes.{heartbeat_outcome, first_heartbeat_info, counter_of, endpoint_answered, heartbeat_ack_outcome, interval_expired, beating, heartbeat_emission, interval_outcome, is_exhausted}
use Rattle.dcsctp_spec_lemmas.specs.spec.endpoint.MessageOutcomes.{Sending, queue_all, queue_unless_refused, queue_one, MessageRefusal, sending_refusal, takes_any, SendAnswers, flush_if_queued, SendTurn}
use Rattle.dcsctp_spec_lemmas.specs.spec.endpoint.Outcome.{Outcome, still, fits, answering, to_peer, quiet}
use Rattle.dcsctp_spec_lemmas.specs.spec.endpoint.OwnTimers.{OwnTimer, acknowledgement_delay, retransmission, heartbeat_interval, heartbeat_timeout, reconfiguration, TimerTurn}
use Rattle.dcsctp_spec_lemmas.specs.spec.endpoint.PlainOutcomes.{PlainTurnUnlessViolating, violation_by_core, is_reported, after_unknown, unknown_bytes, unknown_chunk_outcome}
use Rattle.dcsctp_spec_lemmas.specs.spec.endpoint.PreparedResets.{ResetRefusal, reset_refusal, endpoint_with_queue, PreparesUnlessRefused}
use Rattle.dcsctp_spec_lemmas.specs.spec.endpoint.ReconfigurationOutcomes.{reset_again, request_emitted, request_renewed, is_renewed, request_unless, request_errors, request_expired, reconfiguration_outcome}
use Rattle.dcsctp_spec_lemmas.specs.spec.endpoint.ShutdownOutcomes.{shut_down_echoed, shut_down_outcome, step_outcome, shutdown_ack_outcome, shutdown_complete_outcome, shutdown_sent_again, endpoint_with_t2_continued}
use Rattle.dcsctp_spec_lemmas.specs.spec.endpoint.HeardShutdown.{ShutdownTurn}
use Rattle.dcsctp_spec_lemmas.specs.spec.endpoint.HandoverOutcomes.{hand_over_outcome}
use Rattle.dcsctp_spec_lemmas.specs.spec.endpoint.TimerOutcomes.{AgainAnswers, send_again_with_flush, endpoint_with_t1_continued, t1_gives_up_outcome}
use Rattle.dcsctp_spec_lemmas.specs.spec.endpoint.Turn.{Input, arrival, refusal, packet_begins, chunk_input, packet_ends, act_input, user_sets, user_sends, user_resets, user_takes, timer_expires, time_passes, restores, has_data_chunk, BeginTurn, ContentTurn, needs_connection, comes_early, ActTurn, Turn}
use Rattle.dcsctp_spec_lemmas.specs.spec.queues.OwnResets.{prepared_all}
use Rattle.dcsctp_spec_lemmas.specs.spec.queues.Tracker.{TrackerState, after_packet_end, is_acknowledgement_due, tracker_after_sack}
use Rattle.dcsctp_spec_lemmas.specs.spec.queues.Transfer.{Transfer, is_idle}
use Rattle.dcsctp_spec_lemmas.proofs.AbortLemmas.{by_abort_outcome, by_error_outcome}
use Rattle.dcsctp_spec_lemmas.proofs.EarlyLemmas.{content_where}
use Rattle.dcsctp_spec_lemmas.proofs.FlushKeeps.{begun_by, flush_keeps}
use Rattle.dcsctp_spec_lemmas.proofs.OneAnswerLemmas.{answered_by, init_by}
use Rattle.dcsctp_spec_lemmas.proofs.RefusalLemmas.{by_stale_outcome}
use Rattle.dcsctp_theorem_sockets.proofs.Bursts.{emits_core}
use Rattle.dcsctp_delivery_sockets.specs.turns.Actions.{IsCall}
use Rattle.dcsctp_delivery_sockets.proofs.turns.Fixed.{queue_all_core}

-- ---- a flush

-- The socket follows the RFC, and awaits its COOKIE ACK.
pub record IsEarly (e : Endpoint) : Type 0 where
  pub follows : e.options.follow_rfc ≡ true
  pub echoed : is_cookie_echoed e.core ≡ true

asks_nobody : (core : Core) (follows : Bool) → follows ≡ true → is_cookie_echoed core ≡ true → may_be_asked core follows ≡ None
asks_nobody closed follows is echoed = absurd (cc)
asks_nobody (cookie_wait my) follows is echoed = absurd (cc)
asks_nobody (cookie_echoed my held cookie) true is echoed = refl
asks_nobody (cookie_echoed my held cookie) false is echoed = absurd (cc)
asks_nobody (open_in phase my held) follows is echoed = absurd (cc)

begins_none : (b : Bool) (e : Endpoint) (draft : Emission) (transfer : Transfer) (answer : Answer) → IsEarly e → GivesUnlessIdle b first_ask e draft transfer answer → answer.begun ≡ None
begins_none true e draft transfer answer early gives = ap (λ (a : Answer). a.begun) gives
begins_none false e draft transfer answer early gives =
    gives.begins
    ∙ ap (λ (h : Option Held). begun_by_ask first_ask e.options.follow_rfc h (room_of_draft e (filled_draft draft (plain_contents answer.acknowledgements))) (last_assigned_tsn gives.gave_up.queue) gives.gave_up.waiting)
    (asks_nobody e.core e.options.follow_rfc early.follows early.echoed)

begins_below : (e : Endpoint) (draft : Emission) (transfer : Option Transfer) (answer : Answer) → IsEarly e → IsAnswerOfQueues first_ask e draft answer transfer → answer.begun ≡ None
begins_below e draft None answer early is = ap (λ (a : Answer). a.begun) is
begins_below e draft (Some transfer) answer early is = begins_none (is_idle e.queues.queue transfer) e draft transfer answer early is

none_begun : (n : ℕ) (e : Endpoint) (draft : Emission) (answers : List Answer) → IsEarly e → AreFlushAnswers first_ask n e draft answers → begun_by answers ≡ None
none_begun _ _ _ _ early (at_limit _ e draft) = refl
none_begun _ _ _ _ early (at_empty _ left e draft answer is empty) = begins_below e draft e.queues.transfer answer early is.by_transfer
none_begun _ _ _ _ early (after_packet _ left e draft answer answers is some rest) = begins_below e draft e.queues.transfer answer early is.by_transfer

-- It leaves the association as it is,
pub flush_stays : (e : Endpoint) (draft : Emission) (answers : List Answer) → IsEarly e → FlushAnswers e draft answers → (flush_of e draft answers).after.core ≡ e.core
flush_stays e draft answers early allowed =
    (flush_keeps first_ask (packets_allowed e.options.max_burst e.core) e draft answers allowed).core
    ∙ ap (λ (b : Option BegunReset). (after_begun b e).core) (none_begun (packets_allowed e.options.max_burst e.core) e draft answers early allowed)

asking_kind : (core : Core) → is_cookie_echoed (core_asking core) ≡ is_cookie_echoed core
asking_kind closed = refl
asking_kind (cookie_wait my) = refl
asking_kind (cookie_echoed my held cookie) = refl
asking_kind (open_in phase my held) = refl

begun_kind : (begun : Option BegunReset) (e : Endpoint) → is_cookie_echoed (after_begun begun e).core ≡ is_cookie_echoed e.core
begun_kind None e = refl
begun_kind (Some begun) e = asking_kind e.core

-- and one of an open association leaves it open.
flush_kind : (e : Endpoint) (draft : Emission) (answers : List Answer) → FlushAnswers e draft answers → is_cookie_echoed (flush_of e draft answers).after.core ≡ is_cookie_echoed e.core
flush_kind e draft answers allowed =
    ap is_cookie_echoed (flush_keeps first_ask (packets_allowed e.options.max_burst e.core) e draft answers allowed).core ∙ begun_kind (begun_by answers) e

-- ---- each outcome

-- The association stays as it is; or the COOKIE ACK is awaited no longer.
abbrev pub StaysOrGoes : Endpoint → Outcome → Type 0
StaysOrGoes e o = (o.after.core ≡ e.core) ⊎ (is_cookie_echoed o.after.core ≡ false)

module _ (e : Endpoint) (early : IsEarly e) (mine : Pair) (held : Held) (echoed : List ℕ) (at : e.core ≡ cookie_echoed mine held echoed) (unasked : held.own_outstanding ≡ None) where
  abbrev Good : Outcome → Type 0
  Good o = StaysOrGoes e o

  as_this : (o this : Outcome) → o ≡ this → Good this → Good o
  as_this o this is good = subst Good (sym is) good

  -- as by this core
  at_core : (by : Core → Outcome) → Good (by (cookie_echoed mine held echoed)) → Good (by e.core)
  at_core by good = subst (λ (c : Core). Good (by c)) (sym at) good

  base_early : (base : Endpoint) → base.core ≡ e.core → base.options.follow_rfc ≡ e.options.follow_rfc → IsEarly base
  base_early base core rules = record { follows = rules ∙ early.follows; echoed = ap is_cookie_echoed core ∙ early.echoed }

  flushed : (base : Endpoint) (draft : Emission) (answers : List Answer) → base.core ≡ e.core → base.options.follow_rfc ≡ e.options.follow_rfc → FlushAnswers base draft answers → Good (flush_of base draft answers)
  flushed base draft answers core rules allowed = inl (flush_stays base draft answers (base_early base core rules) allowed ∙ core)

  flushed_to : (base : Endpoint) (peer : Option Held) (answers : List Answer) → base.core ≡ e.core → base.options.follow_rfc ≡ e.options.follow_rfc → AnswersTo base peer answers → Good (flush_to_peer base peer answers)
  flushed_to base None answers core rules allowed = inl core
  flushed_to base (Some peer) answers core rules allowed = flushed base (draft_to peer) answers core rules allowed

  flush_good : (base : Endpoint) (o : Outcome) → base.core ≡ e.core → base.options.follow_rfc ≡ e.options.follow_rfc → FlushTurn base o → Good o
  flush_good base o core rules turn = as_this o _ turn.2 (flushed_to base (held_by_core base.core) turn.0 core rules turn.1)

  -- ---- chunks

  establishes : (cookie : Cookie) (base : Endpoint) (draft : Emission) (answers : List Answer) → is_cookie_echoed base.core ≡ false → FlushAnswers base draft answers → is_cookie_echoed (flush_of base draft answers).after.core ≡ false
  establishes cookie base draft answers opens allowed = flush_kind base draft answers allowed ∙ opens

  resolved_good : (cookie : Cookie) (word : ℕ) (resolution : Resolution) (answers : List Answer) → ResolvedAnswers e cookie (cookie_echoed mine held echoed) word resolution answers
      → Good (resolve_with_flush (flush_answered answers) e cookie (cookie_echoed mine held echoed) word resolution)
  resolved_good cookie word establish_new answers allowed = inr (establishes cookie _ _ answers refl allowed)
  resolved_good cookie word restart answers allowed = inr (establishes cookie _ _ answers refl allowed)
  resolved_good cookie word simultaneous_init answers allowed = inr (establishes cookie _ _ answers refl allowed)
  resolved_good cookie word discard answers allowed = inl refl
  resolved_good cookie word maintain_existing answers allowed = inr (establishes cookie (connected_after e mine held) (cookie_ack_emission held cookie) answers refl allowed)
  resolved_good cookie word invalid_tag answers allowed = inl refl
  resolved_good cookie word stale answers allowed = by_stale_outcome Good e cookie (inl refl) (inl refl)

  read_good : (header : ℕ) (found : Result Cookie (List ℕ)) (word : ℕ) (answers : List Answer) → EchoedAnswers e (cookie_echoed mine held echoed) header found word answers
      → Good (cookie_echo_with_flush (flush_answered answers) e (cookie_echoed mine held echoed) header found word)
  read_good header (Err text) word answers allowed = inl refl
  read_good header (Ok cookie) word answers allowed = resolved_good cookie word (resolved_now e (cookie_echoed mine held echoed) header cookie) answers allowed

  echo_good : (header : ℕ) (found : Result Cookie (List ℕ)) (word : ℕ) (answers : List Answer) (core : Core) → e.core ≡ core → EchoedAnswers e core header found word answers → Good (cookie_echo_with_flush (flush_answered answers) e core header found word)
  echo_good header found word answers core is allowed =
      let same : core ≡ cookie_echoed mine held echoed = sym is ∙ at in
      subst (λ (c : Core). Good (cookie_echo_with_flush (flush_answered answers) e c header found word)) (sym same)
      (read_good header found word answers (subst (λ (c : Core). EchoedAnswers e c header found word answers) same allowed))

  ack_good : (answers : List Answer) (core : Core) → e.core ≡ core → CookieAckAnswers e core answers → Good (cookie_ack_with_flush (flush_answered answers) e core)
  ack_good answers core is allowed =
      let same : core ≡ cookie_echoed mine held echoed = sym is ∙ at in
      subst (λ (c : Core). Good (cookie_ack_with_flush (flush_answered answers) e c)) (sym same)
      (inr (flush_kind (connected_after e mine held) (draft_to held) answers (subst (λ (c : Core). CookieAckAnswers e c answers) same allowed)))

  shutdown_good : (core : Core) (tsn : ℕ) (o : Outcome) → e.core ≡ core → ShutdownTurn e core tsn o → Good o
  shutdown_good core tsn o is turn =
      let here : ShutdownTurn e (cookie_echoed mine held echoed) tsn o = subst (λ (c : Core). ShutdownTurn e c tsn o) (sym is ∙ at) turn in
      inl (ap (λ (x : Outcome). x.after.core) here)

  unknown_good : (reported : Bool) (type : ℕ) (chunk : List ℕ) → Good (record (cond reported (unknown_chunk_outcome e (cookie_echoed mine held echoed) type chunk) (still e)) { following = after_unknown type })
  unknown_good false type chunk = inl refl
  unknown_good true type chunk = inl refl

  answered_good : (b : Bool) → Good (cond b (still (endpoint_answered e)) (still e))
  answered_good true = inl refl
  answered_good false = inl refl

  heartbeat_ack_good : (counter : Option ℕ) → Good (heartbeat_ack_outcome e counter)
  heartbeat_ack_good None = inl refl
  heartbeat_ack_good (Some counter) = answered_good (counter == e.heartbeat_counter)

  early_content : (content : Content) → needs_connection content ≡ true → comes_early e content ≡ false → ⊥
  early_content content needs late =
      let is : comes_early e content ≡ true = ap (λ (b : Bool). b && (e.options.follow_rfc && is_cookie_echoed e.core)) needs ∙ ap (λ (b : Bool). b && is_cookie_echoed e.core) early.follows ∙ early.echoed in
      let clash : true ≡ false = sym is ∙ late in absurd (cc)

  aborting_good : (reason : AbortReason) → Good (aborting_outcome e e.core reason)
  aborting_good reason = at_core (λ core. aborting_outcome e core reason) (inr refl)

  plain_good : (chunk : Plain) (violation : Option Violation) (o : Outcome) → (needs_connection (plain chunk) ≡ true → ⊥) → PlainTurnUnlessViolating e chunk violation o → Good o
  plain_good chunk (Some violation) o calm turn = as_this o _ turn (aborting_good (reasons.Violation violation))
  plain_good (unknown type flags value) None o calm turn =
      as_this o _ turn (at_core (λ core. record (cond (is_reported type) (unknown_chunk_outcome e core type (unknown_bytes type flags value)) (still e)) { following = after_unknown type }) (unknown_good (is_reported type) type (unknown_bytes type flags value)))
  plain_good (heartbeat parameters) None o calm turn =
      as_this o _ turn (at_core (λ core. heartbeat_outcome e core parameters) (answered_by Good e (to_peer held (plain (heartbeat_ack parameters))) (inl refl) (inl (emits_core e [] (to_peer held (plain (heartbeat_ack parameters)))))))
  plain_good (heartbeat_ack parameters) None o calm turn = as_this o _ turn (heartbeat_ack_good (counter_of (first_heartbeat_info parameters)))
  plain_good (unworked (data_chunk chunk)) None o calm turn = absurd (calm refl)
  plain_good (unworked (i_data_chunk chunk)) None o calm turn = absurd (calm refl)
  plain_good (unworked (sack_chunk chunk)) None o calm turn = absurd (calm refl)
  plain_good (unworked (forward_tsn_chunk tsn streams)) None o calm turn = absurd (calm refl)
  plain_good (unworked (i_forward_tsn_chunk tsn streams)) None o calm turn = absurd (calm refl)
  plain_good (unworked (error_chunk causes)) None o calm turn = as_this o _ turn (by_error_outcome Good e e.core causes (inr refl) (inl refl) (inl refl))
  plain_good (unworked (init_chunk c)) None o calm turn = as_this o _ turn (inl refl)
  plain_good (unworked (init_ack_chunk c)) None o calm turn = as_this o _ turn (inl refl)
  plain_good (unworked (heartbeat_chunk c)) None o calm turn = as_this o _ turn (inl refl)
  plain_good (unworked (heartbeat_ack_chunk c)) None o calm turn = as_this o _ turn (inl refl)
  plain_good (unworked (abort_chunk t c)) None o calm turn = as_this o _ turn (inl refl)
  plain_good (unworked (shutdown_chunk c)) None o calm turn = as_this o _ turn (inl refl)
  plain_good (unworked shutdown_ack_chunk) None o calm turn = as_this o _ turn (inl refl)
  plain_good (unworked (cookie_echo_chunk c)) None o calm turn = as_this o _ turn (inl refl)
  plain_good (unworked cookie_ack_chunk) None o calm turn = as_this o _ turn (inl refl)
  plain_good (unworked (shutdown_complete_chunk c)) None o calm turn = as_this o _ turn (inl refl)
  plain_good (unworked (re_config_chunk c)) None o calm turn = as_this o _ turn (inl refl)
  plain_good (unworked (unknown_chunk t f v)) None o calm turn = as_this o _ turn (inl refl)

  content_good : (tag : ℕ) (content : Content) (o : Outcome) → ContentTurn e tag content o → Good o
  content_good tag (init theirs) o turn =
      as_this o _ turn.2
      (init_by Good e theirs turn.0 turn.1 (inl refl) (at_core (λ core. answering (init_outcome e theirs core turn.0 turn.1)) (inl (emits_core e [] (init_ack_emission e theirs mine e.secret)))))
  content_good tag (init_ack theirs cookie) o turn = as_this o _ turn.3 (at_core (λ core. init_ack_with_flush (flush_answered turn.1) e theirs cookie core turn.0) (inl refl))
  content_good tag (cookie_echo bytes) o turn = as_this o _ turn.3 (echo_good tag (cookie_of_bytes bytes) turn.0 turn.1 e.core refl turn.2)
  content_good tag cookie_ack o turn = as_this o _ turn.2 (ack_good turn.0 e.core refl turn.1)
  content_good tag (re_config parameters) o turn =
      content_where e tag (re_config parameters) o (λ is dropped. as_this o _ dropped (inl refl)) (λ late handled. absurd (early_content (re_config parameters) refl late)) turn
  content_good tag (abort reflected causes) o turn = as_this o _ turn (by_abort_outcome Good e causes e.core (inr refl) (inl refl))
  content_good tag (shutdown tsn) o turn = shutdown_good e.core tsn o refl turn
  content_good tag shutdown_ack o turn = as_this o _ turn (at_core (λ core. shutdown_ack_outcome e core tag) (inl refl))
  content_good tag (shutdown_complete reflected) o turn = as_this o _ turn (at_core (λ core. shutdown_complete_outcome e core) (inl refl))
  content_good tag (plain chunk) o turn =
      content_where e tag (plain chunk) o (λ is dropped. as_this o _ dropped (inl refl))
      (λ late handled. plain_good chunk (violation_by_core e.core chunk) o (λ needs. early_content (plain chunk) needs late) handled) turn

  -- ---- acts

  echoes_good : (b : Bool) (base : Endpoint) (words : List Word) (tag : ℕ) (cookie : List ℕ) (answers : List Answer) → base.core ≡ e.core → base.options.follow_rfc ≡ e.options.follow_rfc → EchoAnswers b base tag cookie answers
      → Good (cond b (flush_answered answers base words [] true tag (cookie_echo cookie ∷ [])) (quiet base words []))
  echoes_good true base words tag cookie answers core rules allowed = flushed base (echo_emission tag cookie) answers core rules allowed
  echoes_good false base words tag cookie answers core rules allowed = inl core

  again_good : (answers : List Answer) (core : Core) → e.core ≡ core → AgainAnswers (endpoint_with_t1_continued e) core answers → Good (send_again_with_flush (flush_answered answers) (endpoint_with_t1_continued e) core)
  again_good answers core is allowed =
      let same : core ≡ cookie_echoed mine held echoed = sym is ∙ at in
      let base : Endpoint = endpoint_with_t1_continued e in
      subst (λ (c : Core). Good (send_again_with_flush (flush_answered answers) (endpoint_with_t1_continued e) c)) (sym same)
      (echoes_good (fits base (echo_emission held.peer.tag echoed)) base [] held.peer.tag echoed answers refl refl (subst (λ (c : Core). AgainAnswers (endpoint_with_t1_continued e) c answers) same allowed))

  asked_to_shut : (follows : Bool) → follows ≡ true → Good (shut_down_echoed follows e mine held)
  asked_to_shut true is = inl refl
  asked_to_shut false is = absurd (cc)

  act_good : (act : Act) (o : Outcome) → IsCall (act_input act) → ActTurn e act o → Good o
  act_good connect o may turn = as_this o _ turn.2 (at_core (λ core. connect_outcome e core turn.0 turn.1) (inl refl))
  act_good (t1_expires true) o may turn = as_this o _ turn.2 (again_good turn.0 e.core refl turn.1)
  act_good (t1_expires false) o may turn = as_this o _ turn (at_core (λ core. t1_gives_up_outcome e core) (inr refl))
  act_good shut_down o may turn = as_this o _ turn (at_core (λ core. shut_down_outcome e core) (asked_to_shut e.options.follow_rfc early.follows))
  act_good step_of_shutdown o may turn = as_this o _ turn (at_core (λ core. step_outcome e core) (inl refl))
  act_good shutdown_repeats o may turn = as_this o _ turn (at_core (λ core. shutdown_sent_again (endpoint_with_t2_continued e) core) (inl refl))
  act_good (abort_with reason) o may turn = as_this o _ turn (aborting_good reason)
  act_good hands_over o may turn = as_this o _ turn (at_core (λ core. hand_over_outcome e core) (inl refl))
  act_good flushes o may turn = flush_good e o refl refl turn
  act_good (request_again reset) o may turn = absurd may
  act_good (acts.request_renewed reset) o may turn = absurd may

  -- ---- the rest

  begin_good : (core : Core) (has : Bool) (o : Outcome) → e.core ≡ core → BeginTurn e core has o → Good o
  begin_good core has o is turn =
      let here : BeginTurn e (cookie_echoed mine held echoed) has o = subst (λ (c : Core). BeginTurn e c has o) (sym is ∙ at) turn in inl (ap (λ (x : Outcome). x.after.core) here)

  end_where_good : (b : Bool) (peer : Option Held) (transfer : Transfer) (tracker : TrackerState) (o : Outcome) → AnswersPacketIfDue b e peer transfer tracker o → Good o
  end_where_good true (Some peer) transfer tracker o turn = as_this o _ turn.is (flushed (endpoint_with_tracker e transfer (tracker_after_sack tracker)) _ turn.answers refl refl turn.allowed)
  end_where_good true None transfer tracker o turn = as_this o _ turn (inl refl)
  end_where_good false peer transfer tracker o turn = as_this o _ turn (inl refl)

  end_good : (transfer : Option Transfer) (o : Outcome) → AcknowledgesPacket e transfer o → Good o
  end_good None o turn = as_this o _ turn (inl refl)
  end_good (Some transfer) o turn = (let tracker = after_packet_end e.moment transfer.tracker in end_where_good (is_acknowledgement_due tracker) (held_by_core e.core) transfer tracker o turn)

  queue_rules : (base : Endpoint) (sendings : List Sending) → (queue_all base sendings).after.options.follow_rfc ≡ base.options.follow_rfc
  queue_rules base [] = refl
  queue_rules base (sending ∷ sendings) = queue_rules (queue_one base sending).after sendings ∙ one (sending_refusal base sending)
    where
      one : (why : Option MessageRefusal) → (queue_unless_refused base sending why).after.options.follow_rfc ≡ base.options.follow_rfc
      one None = refl
      one (Some why) = refl

  sends_good : (b : Bool) (base : Endpoint) (answers : List Answer) → base.core ≡ e.core → base.options.follow_rfc ≡ e.options.follow_rfc → SendAnswers b base answers → Good (flush_if_queued b base answers)
  sends_good false base answers core rules allowed = inl core
  sends_good true base answers core rules allowed = flushed_to base (held_by_core base.core) answers core rules allowed

  send_good : (sendings : List Sending) (o : Outcome) → SendTurn e sendings o → Good o
  send_good sendings o turn =
      as_this o _ turn.2 (sends_good (takes_any e sendings) (queue_all e sendings).after turn.0 (queue_all_core e sendings) (queue_rules e sendings) turn.1)

  resets_good : (why : Option ResetRefusal) (ids : List ℕ) (o : Outcome) → PreparesUnlessRefused why e ids o → Good o
  resets_good (Some why) ids o turn = as_this o _ turn (inl refl)
  resets_good None ids o turn = as_this o _ turn.is (flush_good (endpoint_with_queue e (prepared_all ids e.queues.queue)) turn.flushed refl refl turn.flushes)

  take_where_good : (transfer : Transfer) (messages : List MessageContent) (o : Outcome) → TakesFirstReady e transfer messages o → Good o
  take_where_good transfer [] o turn = as_this o _ turn (inl refl)
  take_where_good transfer (message ∷ messages) o turn = as_this o _ turn (inl refl)

  take_left_good : (left : List MessageContent) (o : Outcome) → TakeLeft e left o → Good o
  take_left_good [] o turn = as_this o _ turn (inl refl)
  take_left_good (message ∷ messages) o turn = as_this o _ turn (inl refl)

  take_good : (transfer : Option Transfer) (o : Outcome) → TakeTurn e transfer o → Good o
  take_good None o turn = take_left_good e.left o turn
  take_good (Some transfer) o turn = take_where_good transfer transfer.reassembly.incoming.ready o turn

  delay_good : (transfer : Option Transfer) → Good (delay_outcome e transfer)
  delay_good None = inl refl
  delay_good (Some transfer) = inl refl

  loss_good : (transfer : Option Transfer) (o : Outcome) → LossTurn e transfer o → Good o
  loss_good None o turn = as_this o _ turn (inl refl)
  loss_good (Some transfer) o turn = as_this o _ turn (inl refl)

  -- No request of ours is there to be sent again.
  repeats_good : (is_new : Bool) (base : Endpoint) (number : Option ℕ) (reset : RequestedReset) → base.core ≡ e.core → number ≡ None → Good (cond is_new (request_renewed base held number reset) (request_emitted base held number reset))
  repeats_good true base None reset core none = inl core
  repeats_good false base None reset core none = inl core
  repeats_good is_new base (Some number) reset core none = absurd (cc)

  unless_good : (exhausted is_new : Bool) (base : Endpoint) (reset : RequestedReset) → base.core ≡ e.core → Good (request_unless exhausted is_new base held reset)
  unless_good true is_new base reset core = inl core
  unless_good false true base reset core = repeats_good true base held.own_outstanding reset core unasked
  unless_good false false base reset core = repeats_good false base held.own_outstanding reset core unasked

  reconfiguration_good : (request : Option OutstandingRequest) → Good (reconfiguration_outcome e (Some held) request)
  reconfiguration_good None = inl refl
  reconfiguration_good (Some request) = unless_good (is_exhausted e.options.max_retransmissions (request_errors e request)) (is_renewed e (Some request)) (request_expired e request) (reset_again (Some request)) refl

  timer_good : (timer : OwnTimer) (o : Outcome) → TimerTurn e timer o → Good o
  timer_good acknowledgement_delay o turn = as_this o _ turn (delay_good e.queues.transfer)
  timer_good retransmission o turn = loss_good e.queues.transfer o turn
  timer_good heartbeat_interval o turn =
      as_this o _ turn (at_core (λ core. interval_outcome e core) (let base : Endpoint = beating (interval_expired e) in inl (emits_core base [] (heartbeat_emission held base.heartbeat_counter))))
  timer_good heartbeat_timeout o turn = as_this o _ turn (inl refl)
  timer_good reconfiguration o turn = as_this o _ turn (at_core (λ core. reconfiguration_outcome e (held_by_core core) e.outstanding) (reconfiguration_good e.outstanding))

  pub echoed_stays : (input : Input) (o : Outcome) → IsCall input → Turn e input o → StaysOrGoes e o
  echoed_stays arrival o may turn = as_this o _ turn (inl refl)
  echoed_stays (refusal text) o may turn = as_this o _ turn (inl refl)
  echoed_stays (packet_begins contents) o may turn = begin_good e.core (has_data_chunk e.options.follow_rfc contents) o refl turn
  echoed_stays (chunk_input tag content) o may turn = content_good tag content o turn
  echoed_stays packet_ends o may turn = end_good e.queues.transfer o turn
  echoed_stays (act_input act) o may turn = act_good act o may turn
  echoed_stays (user_sets setting) o may turn = inl (ap (λ (x : Outcome). x.after.core) turn)
  echoed_stays (user_sends messages) o may turn = send_good messages o turn
  echoed_stays (user_resets ids) o may turn = resets_good (reset_refusal e) ids o turn
  echoed_stays user_takes o may turn = take_good e.queues.transfer o turn
  echoed_stays (timer_expires timer) o may turn = timer_good timer o turn
  echoed_stays (time_passes moment) o may turn = as_this o _ turn (inl refl)
  echoed_stays (restores state) o may turn = absurd may
