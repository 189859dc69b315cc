-- Two sockets: what no step changes.
use Rattle.std.proofs.Common.{ℕ, Bool, List, [], ◌∷◌, inl, inr, refl, ap, sym, subst}
use Rattle.dcsctp_spec_lemmas.specs.types.declared.options.Options.{Options}
use Rattle.dcsctp_spec_lemmas.specs.types.declared.schedule.Side.{Side}
use Rattle.dcsctp_spec_lemmas.specs.types.Schedule.{ActContent}
use Rattle.dcsctp_spec_lemmas.specs.types.Settings.{SameOptions}
use Rattle.dcsctp_spec_lemmas.specs.spec.endpoint.Endpoint.{Endpoint, fresh_endpoint}
use Rattle.dcsctp_spec_lemmas.specs.spec.endpoint.Outcome.{Outcome}
use Rattle.dcsctp_spec_lemmas.specs.spec.association.Acts.{Act, shutdown_repeats, flushes}
use Rattle.dcsctp_spec_lemmas.specs.spec.endpoint.OwnTimers.{timer_act}
use Rattle.dcsctp_spec_lemmas.specs.spec.association.Controlled.{IsControlledAct}
use Rattle.dcsctp_spec_lemmas.specs.spec.endpoint.Turn.{Input, arrival, refusal, packet_begins, chunk_input, packet_ends, act_input, user_sets, user_sends, user_resets, user_takes, timer_expires, time_passes, restores, Turn, BeginTurn, has_data_chunk}
use Rattle.dcsctp_spec_lemmas.specs.spec.endpoint.CallTurns.{Transition, IsTurn, AlongTurns, after_all}
use Rattle.dcsctp_spec_runs.specs.Sockets.{Both, of_side, PerformedAct, SocketRun, turns_after, endpoint_after, TurnsOfAct}
use Rattle.dcsctp_spec_runs.specs.Laws.{SocketsKeepOptions}
use Rattle.dcsctp_spec_laws.proofs.TurnLemmas.{same_after, same_of_equal, content_keeps_options}
use Rattle.dcsctp_spec_laws.proofs.DataLemmas.{flushed_act, end_at, take_at, send_at, resets_at}
use Rattle.dcsctp_spec_laws.proofs.HeartbeatLemmas.{timer_controlled}
use Rattle.dcsctp_spec_runs.proofs.RunsAlong.{act_along, run_along}
use Rattle.dcsctp_spec_laws.proofs.ControlLemmas.{begin_stands, acts_are_controlled}
use Rattle.dcsctp_spec_laws.proofs.ControlRestores.{restore_stands}

-- ---- one socket

kept_by_act : (e : Endpoint) (act : Act) (o : Outcome) → IsControlledAct e act o → SameOptions e.options o.after.options
kept_by_act e act o turn = turn.1.options

begin_keeps : (e : Endpoint) (has : Bool) (o : Outcome) → BeginTurn e e.core has o → SameOptions e.options o.after.options
begin_keeps e has o turn = elim (begin_stands e e.core has o refl turn) [ inl rests ↦ same_of_equal e.options o.after.options (ap (λ (x : Outcome). x.after.options) rests) | inr acts ↦ kept_by_act e shutdown_repeats o acts ]

turn_keeps : (e : Endpoint) (input : Input) (o : Outcome) → Turn e input o → SameOptions e.options o.after.options
turn_keeps e arrival o turn = same_of_equal e.options o.after.options (ap (λ (x : Outcome). x.after.options) turn)
turn_keeps e (refusal text) o turn = same_of_equal e.options o.after.options (ap (λ (x : Outcome). x.after.options) turn)
turn_keeps e (packet_begins contents) o turn = begin_keeps e (has_data_chunk e.options.follow_rfc contents) o turn
turn_keeps e (chunk_input tag content) o turn = content_keeps_options e tag content o turn
turn_keeps e packet_ends o turn = kept_by_act e flushes o (flushed_act e o (end_at e e.queues.transfer o turn))
turn_keeps e (act_input act) o turn = kept_by_act e act o (acts_are_controlled e act o turn)
turn_keeps e (user_sets setting) o turn = subst (λ (x : Outcome). SameOptions e.options x.after.options) (sym turn) refl
turn_keeps e (user_sends messages) o turn = kept_by_act e flushes o (flushed_act e o (send_at e messages o turn))
turn_keeps e (user_resets ids) o turn = kept_by_act e flushes o (flushed_act e o (resets_at e ids o turn))
turn_keeps e user_takes o turn = kept_by_act e flushes o (flushed_act e o (take_at e e.queues.transfer o turn))
turn_keeps e (timer_expires timer) o turn = kept_by_act e (timer_act e timer) o (timer_controlled e timer o turn)
turn_keeps e (time_passes moment) o turn = same_of_equal e.options o.after.options (ap (λ (x : Outcome). x.after.options) turn)
turn_keeps e (restores state) o turn = elim (restore_stands e state o turn) [ inl rests ↦ same_of_equal e.options o.after.options (ap (λ (x : Outcome). x.after.options) rests) | inr resumes ↦ resumes.controlled.options ]

-- ---- calls and runs

abbrev KeepsOptions : Endpoint → Transition → Type 0
KeepsOptions e t = SameOptions e.options t.outcome.after.options

each_keeps : (e : Endpoint) (input : Input) (t : Transition) → IsTurn e input t → KeepsOptions e t
each_keeps e input t h = turn_keeps e input t.outcome h.comes

all_keep : (e : Endpoint) (ts : List Transition) → AlongTurns KeepsOptions e ts → SameOptions e.options (after_all e ts).options
all_keep e [] along = refl
all_keep e (t ∷ ts) along = same_after e.options t.outcome.after.options (after_all t.outcome.after ts).options along.0 (all_keep t.outcome.after ts along.1)

act_keeps : (e : Endpoint) (packets : List (List ℕ)) (act : ActContent) (ts : List Transition) → TurnsOfAct e packets act ts → SameOptions e.options (after_all e ts).options
act_keeps e packets act ts turns = all_keep e ts (act_along KeepsOptions each_keeps e packets act ts turns)

run_keeps : (options : Both Options) (steps : List PerformedAct) → SocketRun options steps → (side : Side)
    → SameOptions (of_side side options) (endpoint_after (of_side side options) (of_side side (turns_after steps))).options
run_keeps options steps run side =
    all_keep (fresh_endpoint (of_side side options)) (of_side side (turns_after steps)) (run_along KeepsOptions each_keeps options steps run side)

pub sockets_keep_options : SocketsKeepOptions
sockets_keep_options = record { act = act_keeps; run = run_keeps }
