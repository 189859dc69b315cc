-- What comes of a step at one socket is moves of its side in the machine that agreement is proved on.
use Rattle.std.proofs.Common.{◌≡◌, ℕ, Bool, true, false, zero, suc, List, [], ◌∷◌, ◌++◌, map, refl, sym, subst}
use Rattle.std.specs.Prelude.{nat_le}
use Rattle.std.specs.List.{slice_get}
use Rattle.dcsctp_spec_lemmas.specs.types.declared.ends.AbortReason.{AbortReason}
use Rattle.dcsctp_spec_lemmas.specs.types.declared.ends.AbortReason.TheVariants.{CloseCalled}
use Rattle.dcsctp_spec_lemmas.specs.types.declared.options.Options.{Options}
use Rattle.dcsctp_spec_lemmas.specs.types.Schedule.{connect_call, close_call, shutdown_call, advance_call, set_call, send_call, send_many_call, reset_call, take_call, hand_over_call, StepContent, call_step, delivery_step}
use Rattle.dcsctp_spec_lemmas.specs.types.Settings.{FitsOptions}
use Rattle.dcsctp_spec_lemmas.specs.spec.endpoint.Endpoint.{Endpoint}
use Rattle.dcsctp_spec_lemmas.specs.spec.endpoint.Turn.{Input, act_input, user_sets, user_sends, user_resets, user_takes}
use Rattle.dcsctp_spec_lemmas.specs.spec.endpoint.TimeTurns.{handled_timers, DueTurns, MomentTurns, TimeTurns}
use Rattle.dcsctp_spec_lemmas.specs.spec.endpoint.Outcome.{Outcome}
use Rattle.dcsctp_spec_lemmas.specs.spec.association.Controlled.{IsControlled, IsControlledAct}
use Rattle.dcsctp_spec_lemmas.specs.types.Setting.{Setting}
use Rattle.dcsctp_spec_lemmas.specs.spec.endpoint.SettingOutcomes.{setting_outcome}
use Rattle.dcsctp_spec_lemmas.specs.spec.endpoint.MessageOutcomes.{Sending, sending_of}
use Rattle.dcsctp_spec_runs.specs.Fitting.{FitsEndpoint, TurnFits}
use Rattle.dcsctp_spec_lemmas.specs.spec.endpoint.CallTurns.{Transition, IsTurn, Turns}
use Rattle.dcsctp_spec_lemmas.specs.spec.association.Effect.{Effect, no_change}
use Rattle.dcsctp_spec_lemmas.specs.spec.association.Acts.{abort_with, hands_over, flushes}
use Rattle.dcsctp_spec_runs.specs.World.{SideState}
use Rattle.dcsctp_spec_lemmas.specs.spec.Handover.{readiness_of}
use Rattle.dcsctp_spec_lemmas.specs.spec.HandoverInputs.{inputs_of_handover}
use Rattle.dcsctp_spec_runs.specs.Sockets.{endpoint_after, packets_shown, StepTurns}
use Rattle.dcsctp_spec_laws.proofs.DataLemmas.{flushed_act, send_at, resets_at, take_at}
use Rattle.dcsctp_theorem_sockets.proofs.DataFits.{send_fits, resets_fits, take_fits}
use Rattle.dcsctp_theorem_sockets.proofs.Aborting.{aborting_fits}
use Rattle.dcsctp_theorem_sockets.proofs.HandoverTurns.{hand_over_fits}
use Rattle.dcsctp_theorem_sockets.proofs.Follow.{Followed, after_last, follow_idle}
use Rattle.dcsctp_theorem_sockets.proofs.TimeMoves.{clock_follows}
use Rattle.dcsctp_theorem_sockets.proofs.ExpiryMoves.{expiries_move}
use Rattle.dcsctp_theorem_sockets.proofs.Moves.{Below, SideMoves, rests, nothing_happens, rests_then, flush_moves, connect_moves, act_moves}
use Rattle.dcsctp_theorem_sockets.proofs.PacketMoves.{shut_down_moves, delivery_moves}

-- ---- close and shutdown

abort_moves : Below → (options : Options) (turns : List Transition) (side : SideState) (theirs : List Effect) (reason : AbortReason) (more : List Transition) → Followed options turns side
    → Turns (endpoint_after options turns) (act_input (abort_with reason) ∷ []) more → SideMoves options turns side theirs more
abort_moves law options turns side theirs reason more h turn =
    let e : Endpoint = endpoint_after options turns in
    act_moves law options turns side theirs (abort_with reason) more (λ p q core choices same. refl) h (λ o is. subst TurnFits (sym is) (aborting_fits e e.core reason h.fits h.fits.core)) turn

-- ---- a handover

-- Nothing happens if the socket isn't ready.
hand_over_moves : Below → (options : Options) (turns : List Transition) (side : SideState) (theirs : List Effect) (readiness : ℕ) (more : List Transition) → Followed options turns side
    → Turns (endpoint_after options turns) (inputs_of_handover readiness) more → SideMoves options turns side theirs more
hand_over_moves law options turns side theirs zero more h turn =
    act_moves law options turns side theirs hands_over more (λ p q core choices same. refl) h (λ o is. hand_over_fits (endpoint_after options turns) o is h.fits) turn
hand_over_moves law options turns side theirs (suc reasons) [] h turn = nothing_happens options turns side theirs [] h refl
hand_over_moves law options turns side theirs (suc reasons) (t ∷ more) h turn = absurd turn

-- ---- the time

moment_moves : Below → (options : Options) (turns : List Transition) (side : SideState) (theirs : List Effect) (moment : ℕ) (more : List Transition) → Followed options turns side
    → MomentTurns (endpoint_after options turns) moment more → SideMoves options turns side theirs more
moment_moves law options turns side theirs moment [] h taken = absurd taken
moment_moves law options turns side theirs moment (t ∷ more) h taken =
    let first : Followed options (turns ++ t ∷ []) side = clock_follows options turns side moment t h taken.0.comes in
    rests_then options turns side theirs (t ∷ []) more
    (expiries_move law options theirs (handled_timers (endpoint_after options (turns ++ t ∷ [])).core) (turns ++ t ∷ []) side false more first
    (subst (λ (x : Endpoint). DueTurns x more) (sym (after_last _ turns t)) taken.1))

advance_moves : Below → (options : Options) (turns : List Transition) (side : SideState) (theirs : List Effect) (later : Bool) (moment : ℕ) (more : List Transition) → Followed options turns side
    → TimeTurns later (endpoint_after options turns) moment more → SideMoves options turns side theirs more
advance_moves law options turns side theirs true moment more h taken = moment_moves law options turns side theirs moment more h taken
advance_moves law options turns side theirs false moment more h none = nothing_happens options turns side theirs more h none

-- ---- what the user sets

setting_fits : (e : Endpoint) (setting : Setting) → FitsEndpoint e → TurnFits (setting_outcome e setting)
setting_fits e setting fits =
    record {
      after = record {
        valid = record {
          least_size = fits.valid.least_size;
          greatest_size = fits.valid.greatest_size;
          receive_window = fits.valid.receive_window;
          send_buffer = fits.valid.send_buffer;
        };
        options = record {
          local_port = fits.options.local_port;
          remote_port = fits.options.remote_port;
          inbound_streams = fits.options.inbound_streams;
          outbound_streams = fits.options.outbound_streams;
          zero_checksum_method = fits.options.zero_checksum_method;
        };
        core = fits.core;
        t1 = fits.t1;
      };
      sends = tt;
    }

setting_follows : (options : Options) (turns : List Transition) (side : SideState) (setting : Setting) (t : Transition) → Followed options turns side
    → t.outcome ≡ setting_outcome (endpoint_after options turns) setting → Followed options (turns ++ t ∷ []) side
setting_follows options turns side setting t h is =
    let e : Endpoint = endpoint_after options turns in
    let controlled : IsControlled e (setting_outcome e setting) (no_change e.core) = record { core = refl; options = refl; observations = refl; effects = refl; following = refl } in
    follow_idle options turns side t h (subst (λ (o : Outcome). IsControlled e o (no_change e.core)) (sym is) controlled) (subst TurnFits (sym is) (setting_fits e setting h.fits))

setting_moves : (options : Options) (turns : List Transition) (side : SideState) (theirs : List Effect) (setting : Setting) (more : List Transition) → Followed options turns side
    → Turns (endpoint_after options turns) (user_sets setting ∷ []) more → SideMoves options turns side theirs more
setting_moves options turns side theirs setting [] h turn = absurd turn
setting_moves options turns side theirs setting (t ∷ []) h turn = rests options turns side theirs (t ∷ []) (setting_follows options turns side setting t h turn.0.comes)
setting_moves options turns side theirs setting (t ∷ next ∷ more) h turn = absurd turn.1

-- ---- what the user sends, resets and takes

-- Each turn of this input is a flush of the association.
abbrev IsFlush : Endpoint → Input → Type 0
IsFlush e input = (t : Transition) → IsTurn e input t → IsControlledAct e flushes t.outcome × TurnFits t.outcome

flush_once : Below → (options : Options) (turns : List Transition) (side : SideState) (theirs : List Effect) (input : Input) (more : List Transition) → Followed options turns side
    → IsFlush (endpoint_after options turns) input → Turns (endpoint_after options turns) (input ∷ []) more → SideMoves options turns side theirs more
flush_once law options turns side theirs input [] h is_flush turn = absurd turn
flush_once law options turns side theirs input (t ∷ []) h is_flush turn =
    flush_moves law options turns side theirs t h (is_flush t turn.0).0 (is_flush t turn.0).1
flush_once law options turns side theirs input (t ∷ next ∷ more) h is_flush turn = absurd turn.1

send_is_flush : (e : Endpoint) (messages : List Sending) → FitsEndpoint e → IsFlush e (user_sends messages)
send_is_flush e messages fits t turn = (flushed_act e t.outcome (send_at e messages t.outcome turn.comes), send_fits e messages t.outcome turn.comes fits)

resets_is_flush : (e : Endpoint) (ids : List ℕ) → FitsEndpoint e → IsFlush e (user_resets ids)
resets_is_flush e ids fits t turn = (flushed_act e t.outcome (resets_at e ids t.outcome turn.comes), resets_fits e ids t.outcome turn.comes fits)

take_is_flush : (e : Endpoint) → FitsEndpoint e → IsFlush e user_takes
take_is_flush e fits t turn =
    (flushed_act e t.outcome (take_at e e.queues.transfer t.outcome turn.comes), take_fits e e.queues.transfer t.outcome turn.comes fits)

send_moves : Below → (options : Options) (turns : List Transition) (side : SideState) (theirs : List Effect) (messages : List Sending) (more : List Transition) → Followed options turns side
    → Turns (endpoint_after options turns) (user_sends messages ∷ []) more → SideMoves options turns side theirs more
send_moves law options turns side theirs messages more h turn =
    flush_once law options turns side theirs (user_sends messages) more h (send_is_flush (endpoint_after options turns) messages h.fits) turn

resets_moves : Below → (options : Options) (turns : List Transition) (side : SideState) (theirs : List Effect) (ids : List ℕ) (more : List Transition) → Followed options turns side
    → Turns (endpoint_after options turns) (user_resets ids ∷ []) more → SideMoves options turns side theirs more
resets_moves law options turns side theirs ids more h turn =
    flush_once law options turns side theirs (user_resets ids) more h (resets_is_flush (endpoint_after options turns) ids h.fits) turn

take_moves : Below → (options : Options) (turns : List Transition) (side : SideState) (theirs : List Effect) (more : List Transition) → Followed options turns side
    → Turns (endpoint_after options turns) (user_takes ∷ []) more → SideMoves options turns side theirs more
take_moves law options turns side theirs more h turn =
    flush_once law options turns side theirs user_takes more h (take_is_flush (endpoint_after options turns) h.fits) turn

-- ---- a step

pub step_moves : Below → (options other : Options) (turns others : List Transition) (side theirs : SideState) (step : StepContent) (more : List Transition)
    → Followed options turns side → Followed other others theirs → FitsOptions other
    → StepTurns (endpoint_after options turns) (packets_shown other others) step more → SideMoves options turns side theirs.past more
step_moves law options other turns others side theirs (call_step which connect_call) more h k fits done = connect_moves law options turns side theirs.past more h done
step_moves law options other turns others side theirs (call_step which close_call) more h k fits done = abort_moves law options turns side theirs.past CloseCalled more h done
step_moves law options other turns others side theirs (call_step which shutdown_call) more h k fits done = shut_down_moves law options turns side theirs.past more h done
step_moves law options other turns others side theirs (call_step which (advance_call moment)) more h k fits done =
    advance_moves law options turns side theirs.past (nat_le (endpoint_after options turns).moment moment) moment more h done
step_moves law options other turns others side theirs (call_step which (set_call setting)) more h k fits done = setting_moves options turns side theirs.past setting more h done
step_moves law options other turns others side theirs (call_step which (send_call message how)) more h k fits done =
    send_moves law options turns side theirs.past (sending_of how message ∷ []) more h done
step_moves law options other turns others side theirs (call_step which (send_many_call messages how)) more h k fits done =
    send_moves law options turns side theirs.past (map (sending_of how) messages) more h done
step_moves law options other turns others side theirs (call_step which (reset_call ids)) more h k fits done = resets_moves law options turns side theirs.past ids more h done
step_moves law options other turns others side theirs (call_step which take_call) more h k fits done = take_moves law options turns side theirs.past more h done
step_moves law options other turns others side theirs (call_step which hand_over_call) more h k fits done =
    hand_over_moves law options turns side theirs.past (readiness_of (endpoint_after options turns)) more h done
step_moves law options other turns others side theirs (delivery_step which zero) more h k fits done = nothing_happens options turns side theirs.past more h done
step_moves law options other turns others side theirs (delivery_step which (suc index)) more h k fits done =
    delivery_moves law options other turns others side theirs index (slice_get (packets_shown other others) index) more h k fits refl done
