-- The turn of a call that is one act.
use Rattle.std.proofs.Common.{◌≡◌, ℕ, List, [], ◌∷◌, map, take, drop, refl, sym, ap, subst, ◌∙◌}
use Rattle.std.proofs.lemmas.List.{append-nil, take-append-drop}
use Rattle.rand_core.specs.Stream.{Stream}
use Rattle.dcsctp_core.specs.types.Settings.{ports_of}
use Rattle.dcsctp_core.specs.spec.endpoint.Event.{Event}
use Rattle.dcsctp_core.specs.spec.Packet.{Emission}
use Rattle.dcsctp_core.specs.spec.endpoint.Outcome.{Outcome}
use Rattle.dcsctp_core.specs.spec.endpoint.Turn.{ActTurn, act_input}
use Rattle.dcsctp_core.specs.spec.association.Acts.{Act}
use Rattle.dcsctp_core.specs.spec.endpoint.CallTurns.{Transition, transition, Turns}
use Rattle.dcsctp_core.specs.spec.endpoint.Endpoint.{Endpoint}
use Rattle.dcsctp_core.specs.api.Calls.{user_event}
use Rattle.dcsctp_core.specs.View.{View, call_start, Moves, CutsTurn}
use Rattle.dcsctp_core.proofs.Moving.{moves_one}
use Rattle.dcsctp_socket_calls.specs.Parts.{MovesByCall, CutsTurns}

-- the turns of a call that is one act
abbrev pub ActTurns : Act → Endpoint → List Transition → Type 0
ActTurns act e turns = Turns e (act_input act ∷ []) turns

pub act_done : {R : Type 0} (stream : R → Stream) (act : Act) (turn : View R → Outcome) (old start new : View R) → start ≡ call_start old
    → ((view : View R) → ActTurn view.endpoint act (turn view)) → Moves stream start (turn start) new → MovesByCall stream (ActTurns act) old new
act_done {R = R} stream act turn old start new begins is moves =
    let one : Transition = transition (act_input act) (turn (call_start old)) in
    record {
      turns = one ∷ [];
      are = (record { is = refl; comes = is (call_start old) }, tt);
      moves = moves_one stream (call_start old) new one (subst (λ (v : View R). Moves stream v (turn v) new) begins moves);
    }

cut_at : {R : Type 0} (act : Act) (turn : View R → Outcome) (old : View R) (events : List (Event (List ℕ)))
    → ((view : View R) → ActTurn view.endpoint act (turn view)) → CutsTurn (call_start old) (turn (call_start old)) events → CutsTurns (ActTurns act) old events
cut_at act turn old events is cut =
    let o : Outcome = turn (call_start old) in
    let all : List (Event (List ℕ)) = map (user_event (ports_of old.endpoint.options)) o.events in
    record {
      turns = transition (act_input act) o ∷ [];
      are = (record { is = refl; comes = is (call_start old) }, tt);
      adds = record {
        added = take cut.count all;
        rest = drop cut.count all;
        behind = cut.added;
        front = take-append-drop cut.count all ∙ ap (λ (es : List (Event Emission)). map (user_event (ports_of old.endpoint.options)) es) (sym (append-nil o.events));
      };
    }

pub act_cut : {R : Type 0} (act : Act) (turn : View R → Outcome) (old start : View R) (events : List (Event (List ℕ))) → start ≡ call_start old
    → ((view : View R) → ActTurn view.endpoint act (turn view)) → CutsTurn start (turn start) events → CutsTurns (ActTurns act) old events
act_cut {R = R} act turn old start events begins is cut =
    cut_at act turn old events is (subst (λ (v : View R). CutsTurn v (turn v) events) begins cut)
