-- Each socket of a run is a side of the machine alone, whatever bytes it is handed. So each of its
-- effects is in its place.
use Rattle.std.proofs.Common.{◌≡◌, ℕ, List, [], ◌∷◌, inl, inr, refl, sym, subst, ap, ◌∙◌}
use Rattle.dcsctp_spec_lemmas.specs.types.declared.options.Options.{Options}
use Rattle.dcsctp_spec_lemmas.specs.types.declared.schedule.Side.{Side}
use Rattle.dcsctp_spec_lemmas.specs.types.Settings.{IsValid, SameOptions}
use Rattle.dcsctp_spec_lemmas.specs.spec.Packet.{Content, init, init_ack, cookie_echo, cookie_ack, re_config, abort, shutdown, shutdown_ack, shutdown_complete, plain}
use Rattle.dcsctp_spec_lemmas.specs.spec.endpoint.Endpoint.{Endpoint, Core, fresh_endpoint}
use Rattle.dcsctp_spec_lemmas.specs.spec.endpoint.Outcome.{Outcome}
use Rattle.dcsctp_spec_laws.proofs.DataLemmas.{flushed_act, end_at, send_at, resets_at, take_at}
use Rattle.dcsctp_spec_lemmas.specs.spec.endpoint.OwnTimers.{timer_act}
use Rattle.dcsctp_spec_laws.proofs.HeartbeatLemmas.{timer_controlled}
use Rattle.dcsctp_spec_lemmas.specs.spec.endpoint.Turn.{Input, arrival, refusal, packet_begins, chunk_input, packet_ends, act_input, user_sets, user_sends, user_resets, user_takes, timer_expires, time_passes, restores, has_data_chunk}
use Rattle.dcsctp_spec_lemmas.specs.spec.association.Effect.{Effect, effects_without_packets, Change}
use Rattle.dcsctp_spec_lemmas.specs.spec.association.Choices.{Choices}
use Rattle.dcsctp_spec_lemmas.specs.spec.association.Acts.{Act, connect, t1_expires, shut_down, step_of_shutdown, shutdown_repeats, abort_with, hands_over, flushes, request_again, request_renewed, act_change, chunk_change}
use Rattle.dcsctp_spec_lemmas.specs.spec.association.Controlled.{IsControlled, IsControlledChunk, IsControlledAct}
use Rattle.dcsctp_spec_lemmas.specs.spec.endpoint.CallTurns.{Transition, IsTurn, AlongTurns, after_all, effects_of}
use Rattle.dcsctp_spec_laws.specs.TurnLaws.{ChunksAreControlled, ActsAreControlled}
use Rattle.dcsctp_spec_runs.specs.Past.{Each, InPlace}
use Rattle.dcsctp_spec_runs.specs.World.{SideState, after_effects, ControlTurn, acted, worked, resumed, SideRun, side_after}
use Rattle.dcsctp_spec_runs.specs.Sockets.{PerformedAct, Both, of_side, turns_after, SocketRun}
use Rattle.dcsctp_spec_laws.proofs.TurnLemmas.{same_after}
use Rattle.dcsctp_spec_runs.proofs.RunsAlong.{run_along}
use Rattle.dcsctp_spec_laws.proofs.ControlLemmas.{begin_stands}
use Rattle.dcsctp_spec_runs.proofs.ControlInit.{init_moves}
use Rattle.dcsctp_spec_runs.proofs.DeliveryLemmas.{chunk_same, longest_connects}
use Rattle.dcsctp_theorem_association.specs.OneSide.{EffectsInPlace}
use Rattle.dcsctp_spec_laws.proofs.ControlRestores.{resumed_by, restore_stands}
use Rattle.dcsctp_theorem_sockets.proofs.RestoreTurns.{resumed_turn}
use Rattle.dcsctp_theorem_sockets.specs.Agreement.{AreUsable}
use Rattle.dcsctp_theorem_sockets.specs.OneSocket.{SocketEffectsInPlace}
use Rattle.dcsctp_theorem_sockets.specs.Telling.{observations_of_ends}
use Rattle.dcsctp_theorem_sockets.proofs.Follow.{noted_after, after_both}
use Rattle.dcsctp_theorem_sockets.proofs.NotedLemmas.{in_place-noted}
use Rattle.dcsctp_theorem_sockets.proofs.TimeMoves.{longest_expires}

-- ---- one turn

-- what a turn does to the association, and reports of it: nothing, or what one change says
pub data Moves (e : Endpoint) (o : Outcome) : Type 0 where
  it_rests : o.after.core ≡ e.core → SameOptions e.options o.after.options → o.effects ≡ [] → observations_of_ends o.events ≡ [] → Moves e o
  it_moves : (change : Change) → ControlTurn e.options e.core change → IsControlled e o change → Moves e o

-- a turn of a socket with usable options
abbrev MovesAlone : Endpoint → Transition → Type 0
MovesAlone e t = IsValid e.options → Moves e t.outcome

rests_as : (e : Endpoint) (t : Transition) (o : Outcome) → t.outcome ≡ o → o.after.core ≡ e.core → SameOptions e.options o.after.options → o.effects ≡ []
    → observations_of_ends o.events ≡ [] → Moves e t.outcome
rests_as e t o is core options effects told = subst (Moves e) (sym is) (it_rests core options effects told)

moves_by_act : (e : Endpoint) (act : Act) (t : Transition) → IsControlledAct e act t.outcome → Moves e t.outcome
moves_by_act e act t turn = it_moves (act_change e.options e.core act turn.0) (acted act turn.0 refl) turn.1

moves_by_chunk : (e : Endpoint) (tag : ℕ) (content : Content) (t : Transition) → IsControlledChunk e tag content t.outcome → Moves e t.outcome
moves_by_chunk e tag content t turn = it_moves turn.0 (worked tag content turn.1.0 turn.1.2) turn.2

chunk_moves : ChunksAreControlled → (e : Endpoint) (tag : ℕ) (content : Content) (t : Transition) → IsTurn e (chunk_input tag content) t → IsValid e.options → Moves e t.outcome
chunk_moves law e tag (init theirs) t h valid =
    let moved = init_moves e tag theirs t.outcome h.comes valid in
    it_moves (chunk_change e.options e.core tag (init theirs) moved.0) (worked tag (init theirs) moved.0 refl) moved.1
chunk_moves law e tag (init_ack theirs cookie) t h valid = moves_by_chunk e tag (init_ack theirs cookie) t (law e tag (init_ack theirs cookie) t.outcome h.comes tt)
chunk_moves law e tag (cookie_echo cookie) t h valid = moves_by_chunk e tag (cookie_echo cookie) t (law e tag (cookie_echo cookie) t.outcome h.comes tt)
chunk_moves law e tag cookie_ack t h valid = moves_by_chunk e tag cookie_ack t (law e tag cookie_ack t.outcome h.comes tt)
chunk_moves law e tag (re_config parameters) t h valid = moves_by_chunk e tag (re_config parameters) t (law e tag (re_config parameters) t.outcome h.comes tt)
chunk_moves law e tag (abort reflected causes) t h valid = moves_by_chunk e tag (abort reflected causes) t (law e tag (abort reflected causes) t.outcome h.comes tt)
chunk_moves law e tag (shutdown tsn) t h valid = moves_by_chunk e tag (shutdown tsn) t (law e tag (shutdown tsn) t.outcome h.comes tt)
chunk_moves law e tag shutdown_ack t h valid = moves_by_chunk e tag shutdown_ack t (law e tag shutdown_ack t.outcome h.comes tt)
chunk_moves law e tag (shutdown_complete reflected) t h valid = moves_by_chunk e tag (shutdown_complete reflected) t (law e tag (shutdown_complete reflected) t.outcome h.comes tt)
chunk_moves law e tag (plain chunk) t h valid = moves_by_chunk e tag (plain chunk) t (law e tag (plain chunk) t.outcome h.comes tt)

-- the laws that this rests on
pub record MoveLaws : Type 0 where
  pub chunks : ChunksAreControlled
  pub acts : ActsAreControlled

turn_moves : MoveLaws → (e : Endpoint) (input : Input) (t : Transition) → IsTurn e input t → MovesAlone e t
turn_moves law e arrival t h valid = rests_as e t _ h.comes refl refl refl refl
turn_moves law e (refusal text) t h valid = rests_as e t _ h.comes refl refl refl refl
turn_moves law e (packet_begins contents) t h valid =
    elim (begin_stands e e.core (has_data_chunk e.options.follow_rfc contents) t.outcome refl h.comes) [ inl rests ↦ rests_as e t _ rests refl refl refl refl | inr acts ↦ moves_by_act e shutdown_repeats t acts ]
turn_moves law e (chunk_input tag content) t h valid = chunk_moves law.chunks e tag content t h valid
turn_moves law e packet_ends t h valid = moves_by_act e flushes t (flushed_act e t.outcome (end_at e e.queues.transfer t.outcome h.comes))
turn_moves law e (act_input act) t h valid = moves_by_act e act t (law.acts e act t.outcome h.comes)
turn_moves law e (user_sets setting) t h valid = rests_as e t _ h.comes refl refl refl refl
turn_moves law e (user_sends messages) t h valid = moves_by_act e flushes t (flushed_act e t.outcome (send_at e messages t.outcome h.comes))
turn_moves law e (user_resets ids) t h valid = moves_by_act e flushes t (flushed_act e t.outcome (resets_at e ids t.outcome h.comes))
turn_moves law e user_takes t h valid = moves_by_act e flushes t (flushed_act e t.outcome (take_at e e.queues.transfer t.outcome h.comes))
turn_moves law e (timer_expires timer) t h valid = moves_by_act e (timer_act e timer) t (timer_controlled e timer t.outcome h.comes)
turn_moves law e (time_passes moment) t h valid = rests_as e t _ h.comes refl refl refl refl
turn_moves law e (restores state) t h valid =
    elim (restore_stands e state t.outcome h.comes) [
      | inl rests ↦ rests_as e t _ rests refl refl refl refl
      | inr restored ↦ it_moves (resumed_by e state) (resumed_turn e state t.outcome restored) restored.controlled
    ]

-- ---- the longest message has no part in it

longest_acts : (p : Options) (n : ℕ) (core : Core) (act : Act) (choices : Choices) → act_change (record p { max_message_size = n }) core act choices ≡ act_change p core act choices
longest_acts p n core connect choices = longest_connects p n core choices
longest_acts p n core (t1_expires again) choices = longest_expires again p n core choices
longest_acts p n core shut_down choices = refl
longest_acts p n core step_of_shutdown choices = refl
longest_acts p n core shutdown_repeats choices = refl
longest_acts p n core (abort_with reason) choices = refl
longest_acts p n core hands_over choices = refl
longest_acts p n core flushes choices = refl
longest_acts p n core (request_again reset) choices = refl
longest_acts p n core (request_renewed reset) choices = refl

longest_turns : (p : Options) (n : ℕ) (core : Core) (change : Change) → ControlTurn (record p { max_message_size = n }) core change → ControlTurn p core change
longest_turns p n core change (acted act choices is) = acted act choices (is ∙ longest_acts p n core act choices)
longest_turns p n core change (worked header content choices is) = worked header content choices (is ∙ chunk_same p n core header content choices)
longest_turns p n core change (resumed my peer capabilities own last none is) = resumed my peer capabilities own last none is

same_turn : (p q : Options) (core : Core) (change : Change) → SameOptions p q → ControlTurn q core change → ControlTurn p core change
same_turn p q core change same turn = longest_turns p q.max_message_size core change (subst (λ (x : Options). ControlTurn x core change) same turn)

-- ---- several turns

-- A run of one side. It recorded the effects of these turns after those that were recorded before, and has the association that
-- they left.
pub record RunsOn (options : Options) (turns : List Transition) (e : Endpoint) (before : List Effect) : Type 0 where
  pub steps : List (List Change)
  pub is_run : SideRun options steps
  pub past : effects_without_packets (side_after options steps).past ≡ after_effects (effects_of turns) before
  pub core : (side_after options steps).core ≡ (after_all e turns).core

-- the past after one more turn
behind : (turns : List Transition) (t : Transition) (before : List Effect) → after_effects (effects_of turns) (after_effects t.outcome.effects before) ≡ after_effects (effects_of (t ∷ turns)) before
behind turns t before = sym (after_both t.outcome.effects (effects_of turns) before)

still_valid : (p q : Options) → IsValid p → SameOptions p q → IsValid q
still_valid p q valid same =
    subst IsValid (sym same) (record { least_size = valid.least_size; greatest_size = valid.greatest_size; receive_window = valid.receive_window; send_buffer = valid.send_buffer })

-- the run continues from the side of these steps
abbrev GoesOn : Options → List Transition → Endpoint → Type 0
GoesOn options turns e =
    (steps : List (List Change)) → SameOptions options e.options → (side_after options steps).core ≡ e.core → SideRun options steps
    → RunsOn options turns e (effects_without_packets (side_after options steps).past)

next_on : (options : Options) (turns : List Transition) (e : Endpoint) (t : Transition) → GoesOn options turns t.outcome.after → Moves e t.outcome → GoesOn options (t ∷ turns) e
next_on options turns e t more (it_rests core same effects told) steps own is run =
    let before : List Effect = effects_without_packets (side_after options steps).past in
    let rest : RunsOn options turns t.outcome.after before = more steps (same_after options e.options t.outcome.after.options own same) (is ∙ sym core) run in
    record {
      steps = rest.steps;
      is_run = rest.is_run;
      past = rest.past ∙ ap (λ (es : List Effect). after_effects (effects_of turns) (after_effects es before)) (sym effects) ∙ behind turns t before;
      core = rest.core;
    }
next_on options turns e t more (it_moves change turn controlled) steps own is run =
    let side : SideState = side_after options steps in
    let here : ControlTurn options side.core change =
    same_turn options e.options side.core change own (subst (λ (core : Core). ControlTurn e.options core change) (sym is) turn) in
    let rest : RunsOn options turns t.outcome.after (effects_without_packets (after_effects change.effects side.past)) =
    more ((change ∷ []) ∷ steps) (same_after options e.options t.outcome.after.options own controlled.options) (sym controlled.core) ((here, tt), run) in
    record {
      steps = rest.steps;
      is_run = rest.is_run;
      past = rest.past
          ∙ ap (λ (past : List Effect). after_effects (effects_of turns) past) (noted_after change.effects side.past ∙ ap (λ (es : List Effect). after_effects es (effects_without_packets side.past)) (sym controlled.effects))
          ∙ behind turns t (effects_without_packets side.past);
      core = rest.core;
    }

runs_on : (options : Options) (turns : List Transition) (e : Endpoint) → IsValid options → AlongTurns MovesAlone e turns → GoesOn options turns e
runs_on options [] e valid along steps own is run = record { steps = steps; is_run = run; past = refl; core = is }
runs_on options (t ∷ turns) e valid along steps own is run =
    next_on options turns e t (λ more same core runs. runs_on options turns t.outcome.after valid along.1 more same core runs) (along.0 (still_valid options e.options valid own)) steps own is run

-- ---- each turn of a run

same_options : (e : Endpoint) (o : Outcome) → Moves e o → SameOptions e.options o.after.options
same_options e o (it_rests core options effects told) = options
same_options e o (it_moves change turn is) = is.options

along_moves : (Good : Endpoint → Transition → Type 0) → ((e : Endpoint) (t : Transition) → Moves e t.outcome → Good e t) → (e : Endpoint) (turns : List Transition) → IsValid e.options
    → AlongTurns MovesAlone e turns → AlongTurns Good e turns
along_moves Good good e [] valid along = tt
along_moves Good good e (t ∷ turns) valid along =
    let moves : Moves e t.outcome = along.0 valid in
    (good e t moves, along_moves Good good t.outcome.after turns (still_valid e.options t.outcome.after.options valid (same_options e t.outcome moves)) along.1)

-- What holds of a turn that moves the association so holds of each turn of a run.
pub of_moves : MoveLaws → (Good : Endpoint → Transition → Type 0) → ((e : Endpoint) (t : Transition) → Moves e t.outcome → Good e t) → (options : Both Options) (run : List PerformedAct)
    → AreUsable options → SocketRun options run → (side : Side) → AlongTurns Good (fresh_endpoint (of_side side options)) (of_side side (turns_after run))
of_moves law Good good options run are runs side =
    along_moves Good good (fresh_endpoint (of_side side options)) (of_side side (turns_after run)) (are side).valid (run_along MovesAlone (turn_moves law) options run runs side)

-- ---- a run

-- each socket of a run, as a side alone
pub runs_alone : MoveLaws → (options : Both Options) (run : List PerformedAct) → AreUsable options → SocketRun options run → (side : Side)
    → RunsOn (of_side side options) (of_side side (turns_after run)) (fresh_endpoint (of_side side options)) []
runs_alone law options run are runs side =
    let own : Options = of_side side options in
    runs_on own (of_side side (turns_after run)) (fresh_endpoint own) (are side).valid (run_along MovesAlone (turn_moves law) options run runs side) [] refl refl tt

pub socket_effects_in_place : MoveLaws → EffectsInPlace → SocketEffectsInPlace
socket_effects_in_place law places options run are runs side =
    let own : Options = of_side side options in
    let alone : RunsOn own (of_side side (turns_after run)) (fresh_endpoint own) [] = runs_alone law options run are runs side in
    subst (Each InPlace) alone.past (in_place-noted (side_after own alone.steps).past (places own alone.steps alone.is_run))
