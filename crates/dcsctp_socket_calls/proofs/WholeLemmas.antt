-- A packet that is handled whole: the turn before its chunks, they, and its end.
use Rattle.std.proofs.Common.{◌≡◌, ℕ, Bool, true, false, List, [], ◌∷◌, take, refl, ap, subst, ◌∙◌, inl, inr}
use Rattle.rand_core.specs.Stream.{Stream}
use Rattle.dcsctp_core.specs.wire.Content.{PacketContent}
use Rattle.dcsctp_core.specs.types.declared.association.Pair.{Pair}
use Rattle.dcsctp_core.specs.types.declared.association.Held.{Held}
use Rattle.dcsctp_core.specs.types.Settings.{ports_of}
use Rattle.dcsctp_core.specs.spec.endpoint.Event.{Event}
use Rattle.dcsctp_core.specs.spec.Packet.{packet_of_content}
use Rattle.dcsctp_core.specs.spec.endpoint.Endpoint.{Endpoint, Core, closed, cookie_wait, cookie_echoed, open_in, OpenPhase, established, shutdown_pending, shutdown_sent, shutdown_received, shutdown_ack_sent}
use Rattle.dcsctp_core.specs.spec.endpoint.Outcome.{still}
use Rattle.dcsctp_core.specs.spec.endpoint.Turn.{packet_begins, has_data_chunk, BeginTurn}
use Rattle.dcsctp_core.specs.spec.endpoint.CallTurns.{Transition, transition, IsTurn, ChunkTurns, FirstTurns, packet_tail}
use Rattle.dcsctp_core.specs.View.{View, Moves}
use Rattle.dcsctp_core.proofs.Moving.{moves_one, moves_then}
use Rattle.dcsctp_core_ends.specs.Shutdown.{where_open, repeated_by_phase}
use Rattle.dcsctp_socket_calls.specs.Parts.{packet_begun, begin_turn, ChunksToEnd, ChunksMove, WholeMoves, CutsChunks, CutsWhole}
use Rattle.dcsctp_socket_calls.proofs.ExpiryLemmas.{adds_behind}

-- ---- what precedes the chunks

begins_open : (e : Endpoint) (phase : OpenPhase) (my : Pair) (held : Held) → BeginTurn e (open_in phase my held) true (repeated_by_phase e phase my held)
begins_open e established my held = refl
begins_open e shutdown_pending my held = refl
begins_open e shutdown_sent my held = refl
begins_open e shutdown_received my held = refl
begins_open e shutdown_ack_sent my held = refl

begins_with : (e : Endpoint) (core : Core) → BeginTurn e core true (where_open repeated_by_phase e core)
begins_with e closed = refl
begins_with e (cookie_wait my) = refl
begins_with e (cookie_echoed my held cookie) = refl
begins_with e (open_in phase my held) = begins_open e phase my held

begins_without : (e : Endpoint) (core : Core) → BeginTurn e core false (still e)
begins_without e closed = refl
begins_without e (cookie_wait my) = refl
begins_without e (cookie_echoed my held cookie) = refl
begins_without e (open_in established my held) = refl
begins_without e (open_in shutdown_pending my held) = refl
begins_without e (open_in shutdown_sent my held) = refl
begins_without e (open_in shutdown_received my held) = refl
begins_without e (open_in shutdown_ack_sent my held) = refl

begins : {R : Type 0} (view : View R) (has : Bool) → BeginTurn view.endpoint view.endpoint.core has (packet_begun has view)
begins view true = begins_with view.endpoint view.endpoint.core
begins view false = begins_without view.endpoint view.endpoint.core

abbrev begun : {R : Type 0} → PacketContent → View R → Transition
begun packet view = transition (packet_begins (packet_of_content packet).contents) (begin_turn packet view)

begun_is : {R : Type 0} (packet : PacketContent) (view : View R) → IsTurn view.endpoint (packet_begins (packet_of_content packet).contents) (begun packet view)
begun_is packet view = record { is = refl; comes = begins view (has_data_chunk view.endpoint.options.follow_rfc (packet_of_content packet).contents) }

repeated_keeps : (e : Endpoint) (phase : OpenPhase) (my : Pair) (held : Held) → (repeated_by_phase e phase my held).after.options ≡ e.options
repeated_keeps e established my held = refl
repeated_keeps e shutdown_pending my held = refl
repeated_keeps e shutdown_sent my held = refl
repeated_keeps e shutdown_received my held = refl
repeated_keeps e shutdown_ack_sent my held = refl

answer_keeps : (e : Endpoint) (core : Core) → (where_open repeated_by_phase e core).after.options ≡ e.options
answer_keeps e closed = refl
answer_keeps e (cookie_wait my) = refl
answer_keeps e (cookie_echoed my held cookie) = refl
answer_keeps e (open_in phase my held) = repeated_keeps e phase my held

begun_keeps : {R : Type 0} (view : View R) (has : Bool) → (packet_begun has view).after.options ≡ view.endpoint.options
begun_keeps view true = answer_keeps view.endpoint view.endpoint.core
begun_keeps view false = refl

begun_ports : {R : Type 0} (packet : PacketContent) (view : View R) → ports_of (begin_turn packet view).after.options ≡ ports_of view.endpoint.options
begun_ports packet view = ap ports_of (begun_keeps view (has_data_chunk view.endpoint.options.follow_rfc (packet_of_content packet).contents))

pub worked_whole : {R : Type 0} (stream : R → Stream) (a b c : View R) (packet : PacketContent) → Moves stream a (begin_turn packet a) b → ChunksMove stream packet b c → WholeMoves stream packet a c
worked_whole stream a b c packet first rest =
    record {
      turns = begun packet a ∷ rest.turns;
      are = (begun_is packet a, subst (λ (e : Endpoint). ChunksToEnd e (packet_of_content packet) rest.turns) first.endpoint rest.are);
      moves = moves_then stream a b c (begun packet a ∷ []) rest.turns (begun_ports packet a) (moves_one stream a b (begun packet a) first) rest.moves;
    }

-- Some of the chunks had their turns after it.
pub whole_cut_rest : {R : Type 0} (stream : R → Stream) (a b : View R) (packet : PacketContent) (events : List (Event (List ℕ))) → Moves stream a (begin_turn packet a) b → CutsChunks packet b events
    → CutsWhole packet a events
whole_cut_rest stream a b packet events first cut =
    record {
      turns = begun packet a ∷ cut.turns;
      are = (
        begun_is packet a,
        elim cut.are [
          | inl some ↦ inl (subst (λ (e : Endpoint). FirstTurns e packet.verification_tag (packet_of_content packet).contents cut.turns) first.endpoint some)
          | inr all ↦ inr (
            all.0,
            subst (λ (e : Endpoint). ChunkTurns e packet.verification_tag (packet_of_content packet).contents (take all.0 (packet_tail e)) cut.turns) first.endpoint all.1,
          )
        ],
      );
      adds = adds_behind stream a b (begun packet a ∷ []) cut.turns events (ap (λ (e : Endpoint). ports_of e.options) first.endpoint ∙ begun_ports packet a) (moves_one stream a b (begun packet a) first)
          cut.adds;
    }
