-- T1 runs at each socket of a run that connects, whatever bytes it is handed.
use Rattle.std.proofs.Common.{ℕ, true, false, List, [], ◌∷◌, sym, subst}
use Rattle.dcsctp_spec_lemmas.specs.spec.Cookie.{cookie_of_bytes}
use Rattle.dcsctp_spec_lemmas.specs.spec.Packet.{Content, init, init_ack, cookie_echo, cookie_ack, re_config, abort, shutdown, shutdown_ack, shutdown_complete, plain}
use Rattle.dcsctp_spec_lemmas.specs.spec.endpoint.Endpoint.{Endpoint, fresh_endpoint}
use Rattle.dcsctp_spec_lemmas.specs.spec.endpoint.Timers.{continued_timer}
use Rattle.dcsctp_spec_lemmas.specs.spec.endpoint.Outcome.{Outcome}
use Rattle.dcsctp_spec_lemmas.specs.spec.endpoint.Turn.{Input, arrival, refusal, packet_begins, chunk_input, packet_ends, act_input, user_sets, user_sends, user_resets, user_takes, timer_expires, time_passes, restores, has_data_chunk, ContentTurn, ActTurn}
use Rattle.dcsctp_spec_lemmas.specs.spec.endpoint.TimerOutcomes.{endpoint_with_t1_continued}
use Rattle.dcsctp_spec_lemmas.specs.spec.association.Acts.{Act, connect, t1_expires, shut_down, step_of_shutdown, shutdown_repeats, abort_with, hands_over, flushes, request_again, request_renewed}
use Rattle.dcsctp_spec_lemmas.specs.spec.endpoint.CallTurns.{Transition, IsTurn, AlongTurns, after_all}
use Rattle.dcsctp_spec_lemmas.proofs.OneAnswerLemmas.{init_by}
use Rattle.dcsctp_spec_runs.specs.Sockets.{of_side, turns_after}
use Rattle.dcsctp_spec_laws.proofs.AlongLemmas.{MayCome}
use Rattle.dcsctp_spec_runs.proofs.RunsAlong.{run_along_where}
use Rattle.dcsctp_theorem_sockets.proofs.RestoreTurns.{restore_up}
use Rattle.dcsctp_theorem_sockets.specs.Deadlines.{SocketsRunT1}
use Rattle.dcsctp_theorem_sockets.proofs.HandoverTurns.{hand_over_up}
use Rattle.dcsctp_theorem_sockets.proofs.Resets.{reset_up}
use Rattle.dcsctp_theorem_sockets.proofs.T1Turns.{Up, UpAfter, init_up, connect_up, init_ack_up, cookie_ack_up, echo_up, abort_up, aborting_up, again_up, gives_up_up}
use Rattle.dcsctp_theorem_sockets.proofs.T1Chunks.{plain_up, timer_up}
use Rattle.dcsctp_theorem_sockets.proofs.HeardShutdowns.{heard_up}
use Rattle.dcsctp_theorem_sockets.proofs.T1Shutdown.{step_up, shut_down_up, shutdown_ack_up, shutdown_complete_up, t2_again_up, begin_up}
use Rattle.dcsctp_theorem_sockets.proofs.TimerFits.{goes_on_runs}
use Rattle.dcsctp_theorem_sockets.proofs.T1Data.{flush_turn_up, end_up, take_up, send_up, resets_up}
use Rattle.dcsctp_spec_lemmas.proofs.EarlyLemmas.{content_by}

-- ---- what may come

-- an act that a call or a timer brings
abbrev pub IsMade : Act → Type 0
IsMade (request_again reset) = ⊥
IsMade (request_renewed reset) = ⊥
IsMade act = Unit {0}

abbrev pub MayBe : Input → Type 0
MayBe (act_input act) = IsMade act
MayBe input = Unit {0}

pub these_may_come : MayCome MayBe
these_may_come =
    record {
      arrives = tt;
      refuses = λ text. tt;
      begins = λ contents. tt;
      is_read = λ tag chunk minima. tt;
      ends = tt;
      connects = tt;
      aborts = λ reason. tt;
      shuts_down = tt;
      repeats = tt;
      expires = λ again. tt;
      flushed = tt;
      sets = λ setting. tt;
      sends = λ messages. tt;
      resets = λ ids. tt;
      takes = tt;
      hands_over = tt;
      own_expires = λ timer. tt;
      passes = λ moment. tt;
    }

-- ---- each turn

abbrev KeepsUp : Endpoint → Transition → Type 0
KeepsUp e t = Up e → UpAfter t.outcome

chunk_up : (e : Endpoint) (tag : ℕ) (content : Content) (o : Outcome) → ContentTurn e tag content o → Up e → UpAfter o
chunk_up e tag (init theirs) o turn h = subst UpAfter (sym turn.2) (init_by UpAfter e theirs turn.0 turn.1 h (init_up e theirs e.core turn.0 turn.1 h))
chunk_up e tag (init_ack theirs cookie) o turn h = subst UpAfter (sym turn.3) (init_ack_up e theirs cookie e.core turn.0 turn.1 turn.2 h)
chunk_up e tag (cookie_echo bytes) o turn h = subst UpAfter (sym turn.3) (echo_up e e.core tag (cookie_of_bytes bytes) turn.0 turn.1 turn.2 h)
chunk_up e tag cookie_ack o turn h = subst UpAfter (sym turn.2) (cookie_ack_up e e.core turn.0 turn.1 h)
chunk_up e tag (re_config parameters) o turn h =
    content_by e tag (re_config parameters) o (λ dropped. subst UpAfter (sym dropped) h) (λ handled. reset_up e e.core parameters o handled h) turn
chunk_up e tag (abort reflected causes) o turn h = subst UpAfter (sym turn) (abort_up e causes e.core h)
chunk_up e tag (shutdown tsn) o turn h = heard_up e tsn o turn h
chunk_up e tag shutdown_ack o turn h = subst UpAfter (sym turn) (shutdown_ack_up e e.core tag h)
chunk_up e tag (shutdown_complete reflected) o turn h = subst UpAfter (sym turn) (shutdown_complete_up e e.core h)
chunk_up e tag (plain chunk) o turn h = content_by e tag (plain chunk) o (λ dropped. subst UpAfter (sym dropped) h) (λ handled. plain_up e chunk o handled h) turn

act_up : (e : Endpoint) (act : Act) (o : Outcome) → IsMade act → ActTurn e act o → Up e → UpAfter o
act_up e connect o may turn h = subst UpAfter (sym turn.2) (connect_up e e.core turn.0 turn.1 h)
act_up e (t1_expires true) o may turn h =
    subst UpAfter (sym turn.2) (again_up (endpoint_with_t1_continued e) e.core turn.0 turn.1 (goes_on_runs (continued_timer e.moment) e.core e.timers.t1 h))
act_up e (t1_expires false) o may turn h = subst UpAfter (sym turn) (gives_up_up e e.core h)
act_up e shut_down o may turn h = subst UpAfter (sym turn) (shut_down_up e e.core h)
act_up e step_of_shutdown o may turn h = subst UpAfter (sym turn) (step_up e e.core h)
act_up e shutdown_repeats o may turn h = subst UpAfter (sym turn) (t2_again_up e h)
act_up e (abort_with reason) o may turn h = subst UpAfter (sym turn) (aborting_up e e.core reason h)
act_up e hands_over o may turn h = hand_over_up e o turn h
act_up e flushes o may turn h = flush_turn_up e o turn h
act_up e (request_again reset) o may turn h = absurd may
act_up e (request_renewed reset) o may turn h = absurd may

turn_up : (e : Endpoint) (input : Input) (t : Transition) → MayBe input → IsTurn e input t → KeepsUp e t
turn_up e arrival t may turn h = subst UpAfter (sym turn.comes) h
turn_up e (refusal text) t may turn h = subst UpAfter (sym turn.comes) h
turn_up e (packet_begins contents) t may turn h = begin_up e e.core (has_data_chunk e.options.follow_rfc contents) t.outcome turn.comes h
turn_up e (chunk_input tag content) t may turn h = chunk_up e tag content t.outcome turn.comes h
turn_up e packet_ends t may turn h = end_up e e.queues.transfer t.outcome turn.comes h
turn_up e (act_input act) t may turn h = act_up e act t.outcome may turn.comes h
turn_up e (user_sets setting) t may turn h = subst UpAfter (sym turn.comes) h
turn_up e (user_sends messages) t may turn h = send_up e messages t.outcome turn.comes h
turn_up e (user_resets ids) t may turn h = resets_up e ids t.outcome turn.comes h
turn_up e user_takes t may turn h = take_up e e.queues.transfer t.outcome turn.comes h
turn_up e (timer_expires timer) t may turn h = timer_up e timer t.outcome turn.comes h
turn_up e (time_passes moment) t may turn h = subst UpAfter (sym turn.comes) h
turn_up e (restores state) t may turn h = restore_up e state t.outcome turn.comes h

-- ---- a run

all_up : (e : Endpoint) (ts : List Transition) → AlongTurns KeepsUp e ts → Up e → Up (after_all e ts)
all_up e [] along h = h
all_up e (t ∷ ts) along h = all_up t.outcome.after ts along.1 (along.0 h)

pub sockets_run_t1 : SocketsRunT1
sockets_run_t1 options run are is_run side =
    record {
      runs = all_up (fresh_endpoint (of_side side options)) (of_side side (turns_after run)) (run_along_where KeepsUp MayBe these_may_come (λ state. tt) turn_up options run is_run side) tt;
    }
