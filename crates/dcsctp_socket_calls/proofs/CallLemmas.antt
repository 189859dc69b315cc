-- The turns of a call from those of its parts.
use Rattle.std.proofs.Common.{◌≡◌, ℕ, Bool, true, false, List, [], ◌∷◌, ◌++◌, map, take, drop, refl, sym, ap, subst, ◌∙◌, append_assoc, inr}
use Rattle.std.proofs.lemmas.List.{append-nil, map-append, take-append-drop}
use Rattle.rand_core.specs.Stream.{Stream}
use Rattle.dcsctp_core.specs.wire.Content.{PacketContent}
use Rattle.dcsctp_core.specs.wire.Format.{IsPacket}
use Rattle.dcsctp_core.specs.types.Settings.{Ports, ports_of, wire_options}
use Rattle.dcsctp_core.specs.spec.endpoint.Event.{Event}
use Rattle.dcsctp_core.specs.spec.Packet.{packet_of_content, Emission}
use Rattle.dcsctp_core.specs.spec.Admission.{Admission, shutdown_acks_alone, refused, admits}
use Rattle.dcsctp_core.specs.spec.endpoint.Endpoint.{Endpoint, Core}
use Rattle.dcsctp_core.specs.spec.endpoint.Outcome.{Outcome}
use Rattle.dcsctp_core.specs.spec.endpoint.Turn.{arrival, refusal, packet_ends, EndTurn, arrival_outcome, refusal_outcome, unreadable_text}
use Rattle.dcsctp_core.specs.spec.endpoint.CallTurns.{Transition, transition, IsTurn, after_all, AdmittedTurns, HandleInput, unreadable, readable, FirstOfAdmitted, FirstOfCall, unread, read, events_of}
use Rattle.dcsctp_core.specs.api.Calls.{AddsFirstEvents, user_event}
use Rattle.dcsctp_core.proofs.spec_lemmas.TurnLists.{events_of-append}
use Rattle.dcsctp_core.specs.View.{View, call_start, Moves, MovesAll, CutsTurn}
use Rattle.dcsctp_core.specs.wire.declared.packet.WireOptions.{WireOptions}
use Rattle.dcsctp_socket_calls.specs.Parts.{MoveToEnd, ChunksMove, CutsChunks, AcksMove, PacketMoves, CutsAcks, CutsPacket, InputTurns, FirstOfInput, MovesByCall, CutsTurns}
use Rattle.dcsctp_core.specs.Handling.{TakesPossibleTurn, CutsSomeTurn}
use Rattle.dcsctp_core.proofs.Moving.{moves_one, moves_then}

-- the turn of a packet that is handed in, and of one that is refused
abbrev arrived : Endpoint → Transition
arrived e = transition arrival (arrival_outcome e)

abbrev reported : Endpoint → List ℕ → Transition
reported e text = transition (refusal text) (refusal_outcome e text)

-- A packet that isn't admitted has one turn.
pub refused_packet : {R : Type 0} (stream : R → Stream) (a b : View R) (packet : PacketContent) (text : List ℕ)
    → admits a.endpoint.core (packet_of_content packet) ≡ refused text → Moves stream a (refusal_outcome a.endpoint text) b
    → PacketMoves stream packet a b
refused_packet stream a b packet text is moves =
    record {
      turns = reported a.endpoint text ∷ [];
      are = subst (λ (x : Admission). AdmittedTurns a.endpoint (packet_of_content packet) x (reported a.endpoint text ∷ [])) (sym is) (record { is = refl; comes = refl }, tt);
      moves = moves_one stream a b (reported a.endpoint text) moves;
    }

-- A packet whose SHUTDOWN ACK chunks alone are handled has their turns.
pub acks_worked : {R : Type 0} (stream : R → Stream) (a b : View R) (packet : PacketContent) → admits a.endpoint.core (packet_of_content packet) ≡ shutdown_acks_alone → AcksMove stream packet a b
    → PacketMoves stream packet a b
acks_worked stream a b packet is worked =
    record {
      turns = worked.turns;
      are = subst (λ (x : Admission). AdmittedTurns a.endpoint (packet_of_content packet) x worked.turns) (sym is) worked.are;
      moves = worked.moves;
    }

pub acks_cut : {R : Type 0} (a : View R) (packet : PacketContent) (events : List (Event (List ℕ))) → admits a.endpoint.core (packet_of_content packet) ≡ shutdown_acks_alone → CutsAcks packet a events
    → CutsPacket packet a events
acks_cut a packet events is cut =
    record {
      turns = cut.turns;
      are = subst (λ (x : Admission). FirstOfAdmitted a.endpoint (packet_of_content packet) x cut.turns) (sym is) cut.are;
      adds = cut.adds;
    }

-- After the packet was counted, the rest of the call follows.
counted_then : {R : Type 0} (stream : R → Stream) (a b c : View R) (turns : List Transition)
    → Moves stream a (arrival_outcome a.endpoint) b → MovesAll stream b turns c → MovesAll stream a (arrived a.endpoint ∷ turns) c
counted_then stream a b c turns counted moves =
    moves_then stream a b c (arrived a.endpoint ∷ []) turns refl (moves_one stream a b (arrived a.endpoint) counted) moves

-- a call with bytes that are no packet
pub unreadable_call : {R : Type 0} (stream : R → Stream) (a b c : View R) (bytes : List ℕ)
    → ((packet : PacketContent) → IsPacket (wire_options a.endpoint.options) packet bytes → ⊥)
    → Moves stream a (arrival_outcome a.endpoint) b → Moves stream b (refusal_outcome b.endpoint unreadable_text) c
    → (turns : List Transition) × HandleInput a.endpoint bytes turns × MovesAll stream a turns c
unreadable_call stream a b c bytes none counted moves =
    let rest : Transition = reported b.endpoint unreadable_text in
    let turn : rest.outcome ≡ refusal_outcome (arrival_outcome a.endpoint).after unreadable_text = ap (λ (e : Endpoint). refusal_outcome e unreadable_text) counted.endpoint in (
      arrived a.endpoint ∷ rest ∷ [],
      unreadable (arrived a.endpoint ∷ rest ∷ []) none (record { is = refl; comes = refl }, (record { is = refl; comes = turn }, tt)),
      counted_then stream a b c (rest ∷ []) counted (moves_one stream b c rest moves),
    )

-- a call with a packet
pub readable_call : {R : Type 0} (stream : R → Stream) (a b c : View R) (bytes : List ℕ) (packet : PacketContent) (turns : List Transition)
    → IsPacket (wire_options a.endpoint.options) packet bytes
    → Moves stream a (arrival_outcome a.endpoint) b
    → AdmittedTurns b.endpoint (packet_of_content packet) (admits a.endpoint.core (packet_of_content packet)) turns
    → MovesAll stream b turns c
    → (all : List Transition) × HandleInput a.endpoint bytes all × MovesAll stream a all c
readable_call stream a b c bytes packet turns found counted are moves = (
  arrived a.endpoint ∷ turns,
  readable packet (arrived a.endpoint) turns found (record { is = refl; comes = refl })
      (subst (λ (e : Endpoint). AdmittedTurns e (packet_of_content packet) (admits a.endpoint.core (packet_of_content packet)) turns) counted.endpoint are),
  counted_then stream a b c turns counted moves,
)

-- ---- from what the code has in hand

-- the turns of a whole call from one view to another
abbrev Called : {R : Type 0} → (R → Stream) → List ℕ → View R → View R → Type 0
Called stream bytes a c = (turns : List Transition) × HandleInput a.endpoint bytes turns × MovesAll stream a turns c

called_input : {R : Type 0} (stream : R → Stream) (bytes : List ℕ) (old new : View R) → Called stream bytes (call_start old) new → MovesByCall stream (InputTurns bytes) old new
called_input stream bytes old new called = record { turns = called.0; are = called.1; moves = called.2 }

-- the reader's options are those of the endpoint that counted the packet
options_of : {R : Type 0} (stream : R → Stream) (a b : View R) (options : WireOptions) → Moves stream a (arrival_outcome a.endpoint) b → options ≡ wire_options b.endpoint.options → options ≡ wire_options a.endpoint.options
options_of stream a b options counted is = is ∙ ap (λ (e : Endpoint). wire_options e.options) counted.endpoint

pub readable_input : {R : Type 0} (stream : R → Stream) (old a b c : View R) (bytes : List ℕ) (packet : PacketContent) (options : WireOptions)
    → a ≡ call_start old → Moves stream a (arrival_outcome a.endpoint) b → options ≡ wire_options b.endpoint.options
    → IsPacket options packet bytes
    → b.endpoint.core ≡ a.endpoint.core
    → PacketMoves stream packet b c
    → MovesByCall stream (InputTurns bytes) old c
readable_input {R = R} stream old a b c bytes packet options begins counted is found same worked =
    let here : IsPacket (wire_options a.endpoint.options) packet bytes = subst (λ (o : WireOptions). IsPacket o packet bytes) (options_of stream a b options counted is) found in
    let are : AdmittedTurns b.endpoint (packet_of_content packet) (admits a.endpoint.core (packet_of_content packet)) worked.turns =
    subst (λ (core : Core). AdmittedTurns b.endpoint (packet_of_content packet) (admits core (packet_of_content packet)) worked.turns) same worked.are in
    called_input stream bytes old c (subst (λ (v : View R). Called stream bytes v c) begins (readable_call stream a b c bytes packet worked.turns here counted are worked.moves))

pub unreadable_input : {R : Type 0} (stream : R → Stream) (old a b c : View R) (bytes : List ℕ) (options : WireOptions) (text : List ℕ)
    → a ≡ call_start old → Moves stream a (arrival_outcome a.endpoint) b → options ≡ wire_options b.endpoint.options
    → ((packet : PacketContent) → IsPacket options packet bytes → ⊥)
    → text ≡ unreadable_text → Moves stream b (refusal_outcome b.endpoint text) c
    → MovesByCall stream (InputTurns bytes) old c
unreadable_input {R = R} stream old a b c bytes options text begins counted is none says moves =
    let here : (packet : PacketContent) → IsPacket (wire_options a.endpoint.options) packet bytes → ⊥ = λ packet found. none packet (subst (λ (o : WireOptions). IsPacket o packet bytes) (sym (options_of stream a b options counted is)) found) in
    called_input stream bytes old c (subst (λ (v : View R). Called stream bytes v c) begins (unreadable_call stream a b c bytes here counted (subst (λ (t : List ℕ). Moves stream b (refusal_outcome b.endpoint t) c) says moves)))

-- ---- where an allocation failed

-- no turn was finished
pub adds_none : (ports : Ports) (events : List (Event (List ℕ))) → AddsFirstEvents ports [] events events
adds_none ports events = record { added = []; rest = []; behind = sym (append-nil events); front = refl }

-- These turns were finished, and no event was added after theirs.
pub adds_whole : {R : Type 0} (stream : R → Stream) (a b : View R) (turns : List Transition) (events : List (Event (List ℕ))) → MovesAll stream a turns b → events ≡ b.events
    → AddsFirstEvents (ports_of a.endpoint.options) turns a.events events
adds_whole stream a b turns events moves same =
    record {
      added = map (user_event (ports_of a.endpoint.options)) (events_of turns);
      rest = [];
      behind = same ∙ moves.events;
      front = append-nil (map (user_event (ports_of a.endpoint.options)) (events_of turns));
    }

-- The turns so far were finished, and the one after them was cut.
pub adds_cut : {R : Type 0} (stream : R → Stream) (a b : View R) (turns : List Transition) (turn : Transition) (events : List (Event (List ℕ)))
    → ports_of b.endpoint.options ≡ ports_of a.endpoint.options
    → MovesAll stream a turns b → CutsTurn b turn.outcome events → AddsFirstEvents (ports_of a.endpoint.options) (turns ++ turn ∷ []) a.events events
adds_cut stream a b turns turn events same moves cut =
    let outcome : Outcome = turn.outcome in
    let ports = ports_of a.endpoint.options in
    let before : List (Event (List ℕ)) = map (user_event ports) (events_of turns) in
    let last : List (Event (List ℕ)) = map (user_event ports) outcome.events in
    record {
      added = before ++ take cut.count last;
      rest = drop cut.count last;
      behind = cut.added
          ∙ ap (λ (p : Ports). b.events ++ take cut.count (map (user_event p) outcome.events)) same
          ∙ ap (λ (es : List (Event (List ℕ))). es ++ take cut.count last) moves.events
          ∙ append_assoc a.events before (take cut.count last);
      front = append_assoc before (take cut.count last) (drop cut.count last)
          ∙ ap (λ (es : List (Event (List ℕ))). before ++ es) (take-append-drop cut.count last)
          ∙ sym (map-append (user_event ports) (events_of turns) outcome.events)
          ∙ ap (λ (es : List (Event Emission)). map (user_event ports) (events_of turns ++ es)) (sym (append-nil outcome.events))
          ∙ ap (λ (es : List (Event Emission)). map (user_event ports) es) (sym (events_of-append turns (turn ∷ [])));
    }

-- a turn in front that adds no event
pub adds_begun : (ports : Ports) (first : Transition) (turns : List Transition) (old new : List (Event (List ℕ))) → first.outcome.events ≡ [] → AddsFirstEvents ports turns old new → AddsFirstEvents ports (first ∷ turns) old new
adds_begun ports first turns old new quiet adds =
    record {
      added = adds.added;
      rest = adds.rest;
      behind = adds.behind;
      front = adds.front ∙ ap (λ (es : List (Event Emission)). map (user_event ports) (es ++ events_of turns)) (sym quiet);
    }

pub unread_cut : {R : Type 0} (view : View R) (bytes : List ℕ) (events : List (Event (List ℕ))) → events ≡ view.events → CutsTurns (FirstOfInput bytes) view events
unread_cut view bytes events same =
    record { turns = []; are = unread; adds = subst (λ (es : List (Event (List ℕ))). AddsFirstEvents (ports_of view.endpoint.options) [] view.events es) (sym same) (adds_none (ports_of view.endpoint.options) view.events) }

-- Counting a packet adds no event.
pub counted_events : {R : Type 0} (stream : R → Stream) (old a b : View R) → a ≡ call_start old → Moves stream a (arrival_outcome a.endpoint) b → b.events ≡ old.events
counted_events {R = R} stream old a b begins counted = counted.events ∙ append-nil a.events ∙ ap (λ (v : View R). v.events) begins

-- a call that was cut, with the turns that it had
abbrev Cut : {R : Type 0} → List ℕ → View R → List (Event (List ℕ)) → Type 0
Cut bytes view events =
    (turns : List Transition) × FirstOfCall view.endpoint bytes turns × AddsFirstEvents (ports_of view.endpoint.options) turns view.events events

input_cut : {R : Type 0} (bytes : List ℕ) (old : View R) (events : List (Event (List ℕ))) → Cut bytes (call_start old) events → CutsTurns (FirstOfInput bytes) old events
input_cut bytes old events cut = record { turns = cut.0; are = cut.1; adds = cut.2 }

-- the packet was counted before, which adds no event
counted_cut : {R : Type 0} (stream : R → Stream) (a b : View R) (bytes : List ℕ) (packet : PacketContent) (events : List (Event (List ℕ)))
    → IsPacket (wire_options a.endpoint.options) packet bytes → Moves stream a (arrival_outcome a.endpoint) b
    → b.endpoint.core ≡ a.endpoint.core → CutsPacket packet b events → Cut bytes a events
counted_cut stream a b bytes packet events found counted same cut =
    let here : FirstOfAdmitted b.endpoint (packet_of_content packet) (admits a.endpoint.core (packet_of_content packet)) cut.turns =
    subst (λ (core : Core). FirstOfAdmitted b.endpoint (packet_of_content packet) (admits core (packet_of_content packet)) cut.turns) same cut.are in
    let ports : ports_of b.endpoint.options ≡ ports_of a.endpoint.options = ap (λ (e : Endpoint). ports_of e.options) counted.endpoint in
    let waiting : b.events ≡ a.events = counted.events ∙ append-nil a.events in (
      arrived a.endpoint ∷ cut.turns,
      read packet (arrived a.endpoint) cut.turns found (record { is = refl; comes = refl })
          (subst (λ (e : Endpoint). FirstOfAdmitted e (packet_of_content packet) (admits a.endpoint.core (packet_of_content packet)) cut.turns) counted.endpoint here),
      record {
        added = cut.adds.added;
        rest = cut.adds.rest;
        behind = cut.adds.behind ∙ ap (λ (es : List (Event (List ℕ))). es ++ cut.adds.added) waiting;
        front = cut.adds.front ∙ ap (λ (p : Ports). map (user_event p) (events_of cut.turns)) ports;
      },
    )

pub packet_cut : {R : Type 0} (stream : R → Stream) (old a b : View R) (bytes : List ℕ) (packet : PacketContent) (options : WireOptions) (events : List (Event (List ℕ)))
    → a ≡ call_start old → Moves stream a (arrival_outcome a.endpoint) b → options ≡ wire_options b.endpoint.options
    → IsPacket options packet bytes
    → b.endpoint.core ≡ a.endpoint.core
    → CutsPacket packet b events
    → CutsTurns (FirstOfInput bytes) old events
packet_cut {R = R} stream old a b bytes packet options events begins counted is found same cut =
    let here : IsPacket (wire_options a.endpoint.options) packet bytes = subst (λ (o : WireOptions). IsPacket o packet bytes) (options_of stream a b options counted is) found in
    input_cut bytes old events (subst (λ (v : View R). Cut bytes v events) begins (counted_cut stream a b bytes packet events here counted same cut))
