-- The turn of a call that resets streams.
use Rattle.std.proofs.Common.{◌≡◌, ℕ, List, [], ◌∷◌, map, take, drop, refl, sym, ap, subst, ◌∙◌, Result, Ok, Err}
use Rattle.std.proofs.lemmas.List.{append-nil, take-append-drop}
use Rattle.rand_core.specs.Stream.{Stream}
use Rattle.dcsctp_core.specs.types.Settings.{ports_of}
use Rattle.dcsctp_core.specs.spec.endpoint.Event.{Event}
use Rattle.dcsctp_core.specs.spec.Packet.{Emission}
use Rattle.dcsctp_core.specs.spec.endpoint.Outcome.{Outcome}
use Rattle.dcsctp_core.specs.spec.endpoint.Turn.{user_resets}
use Rattle.dcsctp_core.specs.spec.endpoint.PreparedResets.{reset_refusal}
use Rattle.dcsctp_core.specs.spec.endpoint.CallTurns.{Transition, transition, Turns}
use Rattle.dcsctp_core.specs.spec.endpoint.Endpoint.{Endpoint}
use Rattle.dcsctp_core.specs.types.Schedule.{reset_call}
use Rattle.dcsctp_core.specs.api.Resets.{IsResetAnswer}
use Rattle.dcsctp_core.specs.api.declared.errors.ResetStreamsError.{ResetStreamsError}
use Rattle.dcsctp_core.specs.api.Calls.{user_event}
use Rattle.dcsctp_core.specs.declared.context.Context.{Context}
use Rattle.dcsctp_core.specs.View.{View, view_of, call_start}
use Rattle.dcsctp_core.specs.Handling.{TakesPossibleTurn, CutsSomeTurn}
use Rattle.dcsctp_core.proofs.Moving.{moves_one}
use Rattle.dcsctp_core_messages.specs.Resetting.{AsksForResets, ResetsOwnStreams}
use Rattle.dcsctp_socket_calls.specs.Parts.{MovesByCall, CutsTurns, MakesCallOfUser}

-- the turns of a call that resets these streams
abbrev ResetTurns : List ℕ → Endpoint → List Transition → Type 0
ResetTurns ids e turns = Turns e (user_resets ids ∷ []) turns

reset_at : {R : Type 0} (stream : R → Stream) (ids : List ℕ) (old new : View R) → TakesPossibleTurn stream (AsksForResets ids) (call_start old) new → MovesByCall stream (ResetTurns ids) old new
reset_at stream ids old new h =
    let one : Transition = transition (user_resets ids) h.outcome in
    record { turns = one ∷ []; are = (record { is = refl; comes = h.turn }, tt); moves = moves_one stream (call_start old) new one h.moves }

cut_at : {R : Type 0} (ids : List ℕ) (old : View R) (events : List (Event (List ℕ))) → CutsSomeTurn (AsksForResets ids) (call_start old) events → CutsTurns (ResetTurns ids) old events
cut_at ids old events h =
    let o : Outcome = h.outcome in
    let all : List (Event (List ℕ)) = map (user_event (ports_of old.endpoint.options)) o.events in
    record {
      turns = transition (user_resets ids) o ∷ [];
      are = (record { is = refl; comes = h.turn }, tt);
      adds = record {
        added = take h.cut.count all;
        rest = drop h.cut.count all;
        behind = h.cut.added;
        front = take-append-drop h.cut.count all ∙ ap (λ (es : List (Event Emission)). map (user_event (ports_of old.endpoint.options)) es) (sym (append-nil o.events));
      };
    }

pub works_reset : {R E : Type 0} (stream : R → Stream) (ids : List ℕ) (old start new : Context R) (result : Result (Result (Unit {0}) ResetStreamsError) E)
    → view_of start ≡ call_start (view_of old) → ResetsOwnStreams stream ids start result new
    → MakesCallOfUser stream (reset_call ids) (IsResetAnswer (view_of old).endpoint) old result new
works_reset {R = R} stream ids old start new (Ok answer) begins h = (
  h.0 ∙ ap (λ (view : View R). reset_refusal view.endpoint) begins,
  reset_at stream ids (view_of old) (view_of new) (subst (λ (v : View R). TakesPossibleTurn stream (AsksForResets ids) v (view_of new)) begins h.1),
)
works_reset {R = R} stream ids old start new (Err error) begins h =
    cut_at ids (view_of old) (view_of new).events (subst (λ (v : View R). CutsSomeTurn (AsksForResets ids) v (view_of new).events) begins h)
