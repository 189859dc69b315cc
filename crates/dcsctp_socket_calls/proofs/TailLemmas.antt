-- What comes after the chunks of a packet: its end, and a shutdown that is asked for again.
use Rattle.std.proofs.Common.{◌≡◌, ℕ, Bool, true, false, List, [], ◌∷◌, ◌++◌, take, refl, ap, subst, ◌∙◌, inr}
use Rattle.rand_core.specs.Stream.{Stream}
use Rattle.dcsctp_core.specs.wire.Content.{PacketContent}
use Rattle.dcsctp_core.specs.types.Settings.{ports_of}
use Rattle.dcsctp_core.specs.spec.endpoint.Event.{Event}
use Rattle.dcsctp_core.specs.spec.Packet.{packet_of_content}
use Rattle.dcsctp_core.specs.spec.association.Acts.{shut_down}
use Rattle.dcsctp_core.specs.spec.endpoint.Endpoint.{Endpoint}
use Rattle.dcsctp_core.specs.spec.endpoint.MessageOutcomes.{awaits_opening}
use Rattle.dcsctp_core.specs.spec.endpoint.Outcome.{Outcome}
use Rattle.dcsctp_core.specs.spec.endpoint.Turn.{Input, packet_ends, act_input, EndTurn}
use Rattle.dcsctp_core.specs.spec.endpoint.CallTurns.{Transition, transition, IsTurn, Turns, ChunkTurns, asked_again, after_all}
use Rattle.dcsctp_core.specs.Handling.{TakesPossibleTurn, CutsSomeTurn}
use Rattle.dcsctp_core.specs.View.{View, Moves, CutsTurn}
use Rattle.dcsctp_core.proofs.Moving.{moves_one, moves_then}
use Rattle.dcsctp_core_data.specs.Data.{EndsPacket}
use Rattle.dcsctp_core_ends.specs.Shutdown.{shut_down_turn}
use Rattle.dcsctp_spec_laws.proofs.DataLemmas.{flushed_act, end_at}
use Rattle.dcsctp_socket_calls.specs.Parts.{MoveToEnd, ChunksMove, CutsChunks, FirstOfTail, TurnsMove, CutsTurns}
use Rattle.dcsctp_socket_calls.proofs.CallLemmas.{adds_cut}
use Rattle.dcsctp_socket_calls.proofs.ExpiryLemmas.{adds_behind, adds_one}

-- ---- the end, and the shutdown

-- the turn of a packet's end
abbrev end_turned : Outcome → Transition
end_turned o = transition packet_ends o

end_ports : (e : Endpoint) (o : Outcome) → EndTurn e o → ports_of o.after.options ≡ ports_of e.options
end_ports e o turn = ap ports_of (flushed_act e o (end_at e e.queues.transfer o turn)).1.options

-- the turn of a shutdown that is asked for again
abbrev asked_turned : {R : Type 0} → View R → Transition
asked_turned view = transition (act_input shut_down) (shut_down_turn view)

-- these turns are what comes after the chunks
abbrev AreTail : Bool → Endpoint → List Transition → Type 0
AreTail asks_again e turns = Turns e (packet_ends ∷ asked_again asks_again) turns

-- No shutdown waits, so the packet ends.
pub tail_ended : {R : Type 0} (stream : R → Stream) (a b : View R) (asks_again : Bool) → asks_again ≡ false → TakesPossibleTurn stream EndsPacket a b
    → TurnsMove stream (AreTail asks_again) a b
tail_ended stream a b true isnt end = absurd (cc)
tail_ended stream a b false isnt end =
    record {
      turns = end_turned end.outcome ∷ [];
      are = (record { is = refl; comes = end.turn }, tt);
      moves = moves_one stream a b (end_turned end.outcome) end.moves;
    }

-- what comes with the shutdown, after an end that left this endpoint
asked_are : {R : Type 0} (a b : View R) (end : Outcome) → EndTurn a.endpoint end → b.endpoint ≡ end.after → Turns a.endpoint (packet_ends ∷ act_input shut_down ∷ []) (end_turned end ∷ asked_turned b ∷ [])
asked_are a b end turn here = (
  record { is = refl; comes = turn },
  (subst (λ (e : Endpoint). IsTurn e (act_input shut_down) (asked_turned b)) here (record { is = refl; comes = refl }), tt),
)

-- The packet ended, and then the shutdown was asked for again.
pub tail_asked : {R : Type 0} (stream : R → Stream) (a b c : View R) (asks_again : Bool) → asks_again ≡ true → TakesPossibleTurn stream EndsPacket a b → Moves stream b (shut_down_turn b) c
    → TurnsMove stream (AreTail asks_again) a c
tail_asked stream a b c false is end asked = absurd (cc)
tail_asked stream a b c true is end asked =
    record {
      turns = end_turned end.outcome ∷ asked_turned b ∷ [];
      are = asked_are a b end.outcome end.turn end.moves.endpoint;
      moves = moves_then stream a b c (end_turned end.outcome ∷ []) (asked_turned b ∷ []) (end_ports a.endpoint end.outcome end.turn) (moves_one stream a b (end_turned end.outcome) end.moves)
          (moves_one stream b c (asked_turned b) asked);
    }

-- The end was cut.
pub tail_end_cut : {R : Type 0} (stream : R → Stream) (a : View R) (asks_again : Bool) (events : List (Event (List ℕ))) → CutsSomeTurn EndsPacket a events → CutsTurns (FirstOfTail asks_again) a events
tail_end_cut stream a asks_again events end =
    record {
      turns = end_turned end.outcome ∷ [];
      are = (1, (record { is = refl; comes = end.turn }, tt));
      adds = adds_one stream a (end_turned end.outcome) events end.cut;
    }

-- The shutdown was cut.
pub tail_asked_cut : {R : Type 0} (stream : R → Stream) (a b : View R) (asks_again : Bool) (events : List (Event (List ℕ))) → asks_again ≡ true → TakesPossibleTurn stream EndsPacket a b
    → CutsTurn b (shut_down_turn b) events → CutsTurns (FirstOfTail asks_again) a events
tail_asked_cut stream a b false events is end cut = absurd (cc)
tail_asked_cut stream a b true events is end cut =
    record {
      turns = end_turned end.outcome ∷ asked_turned b ∷ [];
      are = (2, asked_are a b end.outcome end.turn end.moves.endpoint);
      adds = adds_cut stream a b (end_turned end.outcome ∷ []) (asked_turned b) events (ap (λ (x : Endpoint). ports_of x.options) end.moves.endpoint ∙ end_ports a.endpoint end.outcome end.turn)
          (moves_one stream a b (end_turned end.outcome) end.moves) cut;
    }

-- ---- behind the chunks

-- The chunks had their turns, and then came what follows them.
pub ended : {R : Type 0} (stream : R → Stream) (a b c : View R) (packet : PacketContent) (asks_again : Bool) → asks_again ≡ awaits_opening a.endpoint a.endpoint.core
    → MoveToEnd stream packet a true b → TurnsMove stream (AreTail asks_again) b c → ChunksMove stream packet a c
ended stream a b c packet asks_again is first tail =
    record {
      turns = first.turns ++ tail.turns;
      are = subst (λ (again : Bool). ChunkTurns a.endpoint packet.verification_tag (packet_of_content packet).contents (packet_ends ∷ asked_again again) (first.turns ++ tail.turns)) is
          (first.are (packet_ends ∷ asked_again asks_again) tail.turns
          (subst (λ (e : Endpoint). Turns e (packet_ends ∷ asked_again asks_again) tail.turns) first.moves.endpoint tail.are));
      moves = moves_then stream a b c first.turns tail.turns first.ports first.moves tail.moves;
    }

-- What follows them was cut.
pub ended_cut : {R : Type 0} (stream : R → Stream) (a b : View R) (packet : PacketContent) (asks_again : Bool) (events : List (Event (List ℕ))) → asks_again ≡ awaits_opening a.endpoint a.endpoint.core
    → MoveToEnd stream packet a true b → CutsTurns (FirstOfTail asks_again) b events → CutsChunks packet a events
ended_cut stream a b packet asks_again events is first cut =
    let count : ℕ = cut.are.0 in
    let ends : Bool → List Input = λ again. take count (packet_ends ∷ asked_again again) in
    record {
      turns = first.turns ++ cut.turns;
      are = inr (
        count,
        subst (λ (again : Bool). ChunkTurns a.endpoint packet.verification_tag (packet_of_content packet).contents (ends again) (first.turns ++ cut.turns)) is
            (first.are (ends asks_again) cut.turns (subst (λ (e : Endpoint). Turns e (ends asks_again) cut.turns) first.moves.endpoint cut.are.1)),
      );
      adds = adds_behind stream a b first.turns cut.turns events (ap (λ (x : Endpoint). ports_of x.options) first.moves.endpoint ∙ first.ports) first.moves cut.adds;
    }

-- It was dropped.
pub dropped : {R : Type 0} (stream : R → Stream) (a b : View R) (packet : PacketContent) (ends : Bool) → ends ≡ false → MoveToEnd stream packet a ends b → ChunksMove stream packet a b
dropped stream a b packet true is worked = absurd (cc)
dropped stream a b packet false is worked =
    record { turns = worked.turns; are = worked.are (packet_ends ∷ asked_again (awaits_opening a.endpoint a.endpoint.core)); moves = worked.moves }
