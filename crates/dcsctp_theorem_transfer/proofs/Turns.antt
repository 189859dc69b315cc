-- Each turn of an endpoint keeps what the moves of a transfer layer keep, and so does a run.
use Rattle.std.proofs.Common.{ℕ, true, false, Option, None, Some, List, [], ◌∷◌, refl, sym, subst}
use Rattle.dcsctp_spec_lemmas.specs.types.Schedule.{step_act, outside_act, ActContent, IsHonestAct, AreHonest}
use Rattle.dcsctp_spec_lemmas.specs.types.Snapshot.{Snapshot}
use Rattle.dcsctp_spec_lemmas.specs.types.declared.options.Options.{Options}
use Rattle.dcsctp_spec_lemmas.specs.types.declared.schedule.Side.{Side}
use Rattle.dcsctp_spec_lemmas.specs.types.declared.schedule.Side.TheVariants as sides
use Rattle.dcsctp_spec_lemmas.specs.spec.Cookie.{cookie_of_bytes}
use Rattle.dcsctp_spec_lemmas.specs.wire.Content.{data_chunk, i_data_chunk, forward_tsn_chunk, i_forward_tsn_chunk}
use Rattle.dcsctp_spec_lemmas.specs.spec.Packet.{Plain, unworked, content_of_chunk, Content, init, init_ack, cookie_echo, cookie_ack, re_config, abort, shutdown, shutdown_ack, shutdown_complete, plain}
use Rattle.dcsctp_spec_lemmas.specs.spec.association.Acts.{Act, connect, t1_expires, shut_down, step_of_shutdown, shutdown_repeats, abort_with, hands_over, flushes, request_again, request_renewed}
use Rattle.dcsctp_spec_lemmas.specs.spec.endpoint.CallTurns.{Transition, IsTurn, AlongTurns, after_all}
use Rattle.dcsctp_spec_lemmas.specs.spec.endpoint.Endpoint.{Endpoint, Core, closed, cookie_wait, cookie_echoed, open_in, established, shutdown_pending, shutdown_sent, shutdown_received, shutdown_ack_sent, fresh_endpoint}
use Rattle.dcsctp_spec_lemmas.specs.spec.endpoint.HandoverOutcomes.{hand_over_outcome}
use Rattle.dcsctp_spec_lemmas.specs.spec.endpoint.Outcome.{Outcome}
use Rattle.dcsctp_spec_lemmas.specs.spec.endpoint.OwnTimers.{OwnTimer, acknowledgement_delay}
use Rattle.dcsctp_spec_lemmas.specs.spec.endpoint.RestoreOutcomes.{RestoreTurn}
use Rattle.dcsctp_spec_lemmas.specs.spec.endpoint.SettingOutcomes.{longest_after}
use Rattle.dcsctp_spec_lemmas.specs.spec.endpoint.TimerOutcomes.{endpoint_with_t1_continued}
use Rattle.dcsctp_spec_lemmas.specs.spec.endpoint.Turn.{Input, arrival, refusal, packet_begins, chunk_input, packet_ends, act_input, user_sets, user_sends, user_resets, user_takes, timer_expires, time_passes, restores, has_data_chunk, ContentTurn, ActTurn}
use Rattle.dcsctp_spec_lemmas.specs.spec.queues.Transfer.{Transfer}
use Rattle.dcsctp_spec_lemmas.proofs.EarlyLemmas.{content_by}
use Rattle.dcsctp_spec_lemmas.proofs.OneAnswerLemmas.{init_by}
use Rattle.dcsctp_spec_laws.proofs.AlongLemmas.{MayCome}
use Rattle.dcsctp_spec_runs.specs.Sockets.{PerformedAct, Both, of_side, of_other, acts_of, turns_after, endpoint_after, packets_shown, side_of_act, TurnsOfAct, SocketRun}
use Rattle.dcsctp_spec_runs.proofs.RunsAlong.{GoodSide, next_along, step_along, run_along_where}
use Rattle.dcsctp_theorem_transfer.proofs.Layers.{Keeps, LayerIs, EndpointIs, LeavesIt, weaker_layer}
use Rattle.dcsctp_theorem_transfer.proofs.Chunks.{IsMild, IsMildTimer, reset_is, heard_is, plain_is, timer_is}
use Rattle.dcsctp_theorem_transfer.proofs.DataTurns.{flush_turn_is, end_is, take_is, send_is, own_resets_is}
use Rattle.dcsctp_theorem_transfer.proofs.Handshakes.{init_is, connect_is, init_ack_is, cookie_ack_is, echo_is, abort_is, aborting_is, again_is, gives_up_is}
use Rattle.dcsctp_theorem_transfer.proofs.Shutdowns.{step_is, shut_down_is, shutdown_ack_is, shutdown_complete_is, t2_again_is, begin_is}

-- ---- what may come

-- an act that a call or a timer brings
abbrev pub IsMade : Act → Type 0
IsMade (request_again reset) = ⊥
IsMade (request_renewed reset) = ⊥
IsMade act = Unit {0}

-- No data is received, unless that keeps it, and none is restored.
abbrev pub MayBe : Type 0 → Type 0 → Type 0 → Input → Type 0
MayBe Receives Delays Restores (act_input act) = IsMade act
MayBe Receives Delays Restores (chunk_input tag (plain chunk)) = IsMild Receives chunk
MayBe Receives Delays Restores (timer_expires timer) = IsMildTimer Delays timer
MayBe Receives Delays Restores (restores state) = Restores
MayBe Receives Delays Restores input = Unit {0}

module _ (Receives Delays Restores : Type 0) (Before Good : Options → Transfer → Type 0) (keeps : Keeps Receives Delays Restores Before Good) where
  -- ---- a handover, and a restore

  hand_over_is : (e : Endpoint) (core : Core) → EndpointIs Good e → LeavesIt Good (hand_over_outcome e core)
  hand_over_is e closed h = h
  hand_over_is e (cookie_wait my) h = h
  hand_over_is e (cookie_echoed my held cookie) h = h
  hand_over_is e (open_in established my held) h = tt
  hand_over_is e (open_in shutdown_pending my held) h = h
  hand_over_is e (open_in shutdown_sent my held) h = h
  hand_over_is e (open_in shutdown_received my held) h = h
  hand_over_is e (open_in shutdown_ack_sent my held) h = h

  restore_is : Restores → (e : Endpoint) (core : Core) (state : Snapshot) (o : Outcome) → RestoreTurn e core state o → EndpointIs Good e → LeavesIt Good o
  restore_is may e closed state o turn h = subst (LeavesIt Good) (sym turn.2) (tt, keeps.restores may e.options e.moment state turn.0 turn.1)
  restore_is may e (cookie_wait my) state o turn h = subst (LeavesIt Good) (sym turn) h
  restore_is may e (cookie_echoed my held cookie) state o turn h = subst (LeavesIt Good) (sym turn) h
  restore_is may e (open_in phase my held) state o turn h = subst (LeavesIt Good) (sym turn) h

  set_is : (core : Core) (options : Options) (bytes : ℕ) (t : Option Transfer) → LayerIs Good core options t → LayerIs Good core (record options { max_message_size = bytes }) t
  set_is core options bytes None h = tt
  set_is core options bytes (Some t) h = (h.0, keeps.sets_longest options bytes t h.1)

  -- ---- each turn

  chunk_is : (e : Endpoint) (tag : ℕ) (content : Content) (o : Outcome) → MayBe Receives Delays Restores (chunk_input tag content) → ContentTurn e tag content o → EndpointIs Good e → LeavesIt Good o
  chunk_is e tag (init theirs) o may turn h =
      subst (LeavesIt Good) (sym turn.2) (init_by (LeavesIt Good) e theirs turn.0 turn.1 h (init_is Receives Delays Restores Before Good keeps e theirs e.core turn.0 turn.1 h))
  chunk_is e tag (init_ack theirs cookie) o may turn h =
      subst (LeavesIt Good) (sym turn.3) (init_ack_is Receives Delays Restores Before Good keeps e theirs cookie e.core turn.0 turn.1 turn.2 h)
  chunk_is e tag (cookie_echo bytes) o may turn h =
      subst (LeavesIt Good) (sym turn.3) (echo_is Receives Delays Restores Before Good keeps e e.core tag (cookie_of_bytes bytes) turn.0 turn.1 turn.2 h)
  chunk_is e tag cookie_ack o may turn h = subst (LeavesIt Good) (sym turn.2) (cookie_ack_is Receives Delays Restores Before Good keeps e e.core turn.0 turn.1 h)
  chunk_is e tag (re_config parameters) o may turn h =
      content_by e tag (re_config parameters) o (λ dropped. subst (LeavesIt Good) (sym dropped) h)
      (λ handled. reset_is Receives Delays Restores Before Good keeps e e.core parameters o handled h) turn
  chunk_is e tag (abort reflected causes) o may turn h = subst (LeavesIt Good) (sym turn) (abort_is Receives Delays Restores Before Good keeps e causes e.core h)
  chunk_is e tag (shutdown tsn) o may turn h = heard_is Receives Delays Restores Before Good keeps e tsn o turn h
  chunk_is e tag shutdown_ack o may turn h = subst (LeavesIt Good) (sym turn) (shutdown_ack_is Good e e.core tag h)
  chunk_is e tag (shutdown_complete reflected) o may turn h = subst (LeavesIt Good) (sym turn) (shutdown_complete_is Good e e.core h)
  chunk_is e tag (plain chunk) o may turn h =
      content_by e tag (plain chunk) o (λ dropped. subst (LeavesIt Good) (sym dropped) h) (λ handled. plain_is Receives Delays Restores Before Good keeps e chunk o may handled h) turn

  act_is : (e : Endpoint) (act : Act) (o : Outcome) → IsMade act → ActTurn e act o → EndpointIs Good e → LeavesIt Good o
  act_is e connect o may turn h = subst (LeavesIt Good) (sym turn.2) (connect_is Receives Delays Restores Before Good keeps e e.core turn.0 turn.1 h h)
  act_is e (t1_expires true) o may turn h = subst (LeavesIt Good) (sym turn.2) (again_is Receives Delays Restores Before Good keeps (endpoint_with_t1_continued e) e.core turn.0 turn.1 h)
  act_is e (t1_expires false) o may turn h = subst (LeavesIt Good) (sym turn) (gives_up_is Receives Delays Restores Before Good keeps e e.core h)
  act_is e shut_down o may turn h = subst (LeavesIt Good) (sym turn) (shut_down_is Good e e.core h)
  act_is e step_of_shutdown o may turn h = subst (LeavesIt Good) (sym turn) (step_is Good e e.core h)
  act_is e shutdown_repeats o may turn h = subst (LeavesIt Good) (sym turn) (t2_again_is Good e h)
  act_is e (abort_with reason) o may turn h = subst (LeavesIt Good) (sym turn) (aborting_is Receives Delays Restores Before Good keeps e e.core reason h)
  act_is e hands_over o may turn h = subst (LeavesIt Good) (sym turn) (hand_over_is e e.core h)
  act_is e flushes o may turn h = flush_turn_is Receives Delays Restores Before Good keeps e o turn h
  act_is e (request_again reset) o may turn h = absurd may
  act_is e (request_renewed reset) o may turn h = absurd may

  -- The end of a packet needs the weaker one alone.
  pub packet_end_is : (e : Endpoint) (t : Transition) → IsTurn e packet_ends t → EndpointIs Before e → LeavesIt Good t.outcome
  packet_end_is e t turn h = end_is Receives Delays Restores Before Good keeps e e.queues.transfer t.outcome turn.comes refl h

  pub turn_is : (e : Endpoint) (input : Input) (t : Transition) → MayBe Receives Delays Restores input → IsTurn e input t → EndpointIs Good e → LeavesIt Good t.outcome
  turn_is e arrival t may turn h = subst (LeavesIt Good) (sym turn.comes) h
  turn_is e (refusal text) t may turn h = subst (LeavesIt Good) (sym turn.comes) h
  turn_is e (packet_begins contents) t may turn h = begin_is Good e e.core (has_data_chunk e.options.follow_rfc contents) t.outcome turn.comes h
  turn_is e (chunk_input tag content) t may turn h = chunk_is e tag content t.outcome may turn.comes h
  turn_is e packet_ends t may turn h = packet_end_is e t turn (weaker_layer Before Good e.core e.options e.queues.transfer (keeps.weaker e.options) h)
  turn_is e (act_input act) t may turn h = act_is e act t.outcome may turn.comes h
  turn_is e (user_sets setting) t may turn h =
      subst (LeavesIt Good) (sym turn.comes) (set_is e.core e.options (longest_after setting e.options.max_message_size) e.queues.transfer h)
  turn_is e (user_sends messages) t may turn h = send_is Receives Delays Restores Before Good keeps e messages t.outcome turn.comes h
  turn_is e (user_resets ids) t may turn h = own_resets_is Receives Delays Restores Before Good keeps e ids t.outcome turn.comes h
  turn_is e user_takes t may turn h = take_is Receives Delays Restores Before Good keeps e e.queues.transfer t.outcome turn.comes h h
  turn_is e (timer_expires timer) t may turn h = timer_is Receives Delays Restores Before Good keeps e timer t.outcome may turn.comes h
  turn_is e (time_passes moment) t may turn h = subst (LeavesIt Good) (sym turn.comes) h
  turn_is e (restores state) t may turn h = restore_is may e e.core state t.outcome turn.comes h

-- ---- a run

abbrev KeepsIt : (Options → Transfer → Type 0) → Endpoint → Transition → Type 0
KeepsIt Good e t = EndpointIs Good e → LeavesIt Good t.outcome

mild_chunk : (chunk : Plain) → IsMild (Unit {0}) chunk
mild_chunk (unworked (data_chunk chunk)) = tt
mild_chunk (unworked (i_data_chunk chunk)) = tt
mild_chunk (unworked (forward_tsn_chunk tsn streams)) = tt
mild_chunk (unworked (i_forward_tsn_chunk tsn streams)) = tt
mild_chunk chunk = tt

pub mild_content : (Restores : Type 0) (tag : ℕ) (content : Content) → MayBe (Unit {0}) (Unit {0}) Restores (chunk_input tag content)
mild_content Restores tag (plain chunk) = mild_chunk chunk
mild_content Restores tag content = tt

mild_timer : (timer : OwnTimer) → IsMildTimer (Unit {0}) timer
mild_timer acknowledgement_delay = tt
mild_timer timer = tt

pub all_may_come : (Restores : Type 0) → MayCome (MayBe (Unit {0}) (Unit {0}) Restores)
all_may_come Restores =
    record {
      arrives = tt;
      refuses = λ text. tt;
      begins = λ contents. tt;
      is_read = λ tag chunk minima. mild_content Restores tag (content_of_chunk chunk);
      ends = tt;
      connects = tt;
      aborts = λ reason. tt;
      shuts_down = tt;
      repeats = tt;
      expires = λ again. tt;
      flushed = tt;
      sets = λ setting. tt;
      sends = λ messages. tt;
      resets = λ ids. tt;
      takes = tt;
      hands_over = tt;
      own_expires = λ timer. mild_timer timer;
      passes = λ moment. tt;
    }

pub all_kept : (Good : Options → Transfer → Type 0) (e : Endpoint) (ts : List Transition) → AlongTurns (KeepsIt Good) e ts → EndpointIs Good e → EndpointIs Good (after_all e ts)
all_kept Good e [] along h = h
all_kept Good e (t ∷ ts) along h = all_kept Good t.outcome.after ts along.1 (along.0 h)

-- So it is at each socket of a run.
pub run_is : (Good : Options → Transfer → Type 0) → Keeps (Unit {0}) (Unit {0}) (Unit {0}) Good Good → (options : Both Options) (run : List PerformedAct) → SocketRun options run → (side : Side)
    → EndpointIs Good (endpoint_after (of_side side options) (of_side side (turns_after run)))
run_is Good keeps options run is side =
    all_kept Good (fresh_endpoint (of_side side options)) (of_side side (turns_after run))
    (run_along_where (KeepsIt Good) (MayBe (Unit {0}) (Unit {0}) (Unit {0})) (all_may_come (Unit {0})) (λ state. tt) (turn_is (Unit {0}) (Unit {0}) (Unit {0}) Good Good keeps) options run is side) tt

-- ---- an honest run

honest_along : (Good : Endpoint → Transition → Type 0) (May : Input → Type 0) → MayCome May → ((e : Endpoint) (input : Input) (t : Transition) → May input → IsTurn e input t → Good e t)
    → (e : Endpoint) (packets : List (List ℕ)) (act : ActContent) (ts : List Transition) → IsHonestAct act → TurnsOfAct e packets act ts → AlongTurns Good e ts
honest_along Good May come each e packets (step_act step) ts honest turns = step_along Good May come each e packets step ts turns
honest_along Good May come each e packets (outside_act outside) ts honest turns = absurd honest

honest_runs : (Good : Endpoint → Transition → Type 0) (May : Input → Type 0) → MayCome May → ((e : Endpoint) (input : Input) (t : Transition) → May input → IsTurn e input t → Good e t)
    → (options : Both Options) (run : List PerformedAct) → SocketRun options run → AreHonest (acts_of run) → (side : Side) → GoodSide Good options (turns_after run) side
honest_runs Good May come each options [] runs honest sides.A = tt
honest_runs Good May come each options [] runs honest sides.B = tt
honest_runs Good May come each options (worked ∷ earlier) runs honest side =
    let before : Both (List Transition) = turns_after earlier in
    let mover : Side = side_of_act worked.act in
    next_along Good options before mover worked.turns
    (honest_along Good May come each (endpoint_after (of_side mover options) (of_side mover before)) (packets_shown (of_other mover options) (of_other mover before)) worked.act worked.turns honest.0 runs.0)
    (λ (s : Side). honest_runs Good May come each options earlier runs.1 honest.1 s) side

-- Nothing is restored in one.
pub honest_run_is : (Good : Options → Transfer → Type 0) → Keeps (Unit {0}) (Unit {0}) ⊥ Good Good → (options : Both Options) (run : List PerformedAct) → SocketRun options run → AreHonest (acts_of run)
    → (side : Side) → EndpointIs Good (endpoint_after (of_side side options) (of_side side (turns_after run)))
honest_run_is Good keeps options run is honest side =
    all_kept Good (fresh_endpoint (of_side side options)) (of_side side (turns_after run))
    (honest_runs (KeepsIt Good) (MayBe (Unit {0}) (Unit {0}) ⊥) (all_may_come ⊥) (turn_is (Unit {0}) (Unit {0}) ⊥ Good Good keeps) options run is honest side) tt
