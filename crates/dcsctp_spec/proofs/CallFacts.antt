-- Outside examples of the turns of a packet, worked out by hand and computed by the definitions: a
-- wrong rule in specs/ would not check here.
use Rattle.std.proofs.Common.{◌≡◌, Bool, true, false, List, [], ◌∷◌, refl}
use Rattle.dcsctp_types.specs.wire.Content.{data_chunk, i_data_chunk, sack_chunk}
use Rattle.dcsctp_types.specs.declared.association.Pair.{Pair}
use Rattle.dcsctp_types.specs.declared.association.Held.{Held}
use Rattle.dcsctp_spec.specs.Packet.{Content, shutdown, cookie_ack, shutdown_ack, plain, unworked}
use Rattle.dcsctp_spec.specs.endpoint.Endpoint.{Endpoint, open_in, established, shutdown_sent}
use Rattle.dcsctp_spec.specs.endpoint.Outcome.{Outcome, still}
use Rattle.dcsctp_spec.specs.endpoint.Following.{next_chunk, packet_end, dropped_rest}
use Rattle.dcsctp_spec.specs.endpoint.Turn.{Input, chunk_input, BeginTurn, has_data_chunk}
use Rattle.dcsctp_spec.specs.endpoint.ShutdownOutcomes.{shutdown_repeated}
use Rattle.dcsctp_spec.specs.endpoint.CallTurns.{Transition, transition, IsTurn, Turns, ChunkTurns}

-- ---- before the chunks

-- a SHUTDOWN, and after it a DATA chunk or a SACK chunk
abbrev with_data : List Content
with_data = shutdown 5 ∷ plain (unworked (data_chunk (record { flags = record { is_end = true; is_beginning = true; is_unordered = false; immediate_ack = false }; tsn = 9; stream_id = 0; ssn = 0; ppid = 0; payload = 65 ∷ [] }))) ∷ []

abbrev with_sack : List Content
with_sack = shutdown 5 ∷ plain (unworked (sack_chunk (record { cumulative_tsn_ack = 9; a_rwnd = 1500; gap_ack_blocks = []; duplicate_tsns = [] }))) ∷ []

abbrev with_i_data : List Content
with_i_data =
    plain (unworked (i_data_chunk (record {
      flags = record { is_end = true; is_beginning = true; is_unordered = false; immediate_ack = false };
      tsn = 9;
      stream_id = 0;
      mid = 0;
      ppid_or_fsn = 0;
      payload = 65 ∷ [];
    }))) ∷ []

-- Where a SHUTDOWN waits for its answer, data is answered by another;
data_asks : (by_rfc : Bool) (e : Endpoint) (mine : Pair) (held : Held) (o : Outcome)
    → BeginTurn e (open_in shutdown_sent mine held) (has_data_chunk by_rfc with_data) o ≡ (o ≡ shutdown_repeated e held)
data_asks by_rfc e mine held o = refl

-- by the RFC I-DATA is, too;
i_data_asks : (e : Endpoint) (mine : Pair) (held : Held) (o : Outcome)
    → BeginTurn e (open_in shutdown_sent mine held) (has_data_chunk true with_i_data) o ≡ (o ≡ shutdown_repeated e held)
i_data_asks e mine held o = refl

i_data_rests : (e : Endpoint) (mine : Pair) (held : Held) (o : Outcome)
    → BeginTurn e (open_in shutdown_sent mine held) (has_data_chunk false with_i_data) o ≡ (o ≡ still e)
i_data_rests e mine held o = refl

-- an acknowledgement isn't,
sack_rests : (by_rfc : Bool) (e : Endpoint) (mine : Pair) (held : Held) (o : Outcome)
    → BeginTurn e (open_in shutdown_sent mine held) (has_data_chunk by_rfc with_sack) o ≡ (o ≡ still e)
sack_rests by_rfc e mine held o = refl

-- nor is data where the association is established.
data_rests : (by_rfc : Bool) (e : Endpoint) (mine : Pair) (held : Held) (o : Outcome)
    → BeginTurn e (open_in established mine held) (has_data_chunk by_rfc with_data) o ≡ (o ≡ still e)
data_rests by_rfc e mine held o = refl

-- ---- after a chunk

-- The first of two chunks has had its turn, with an outcome that is made up.
abbrev worked_first : Outcome → Transition
worked_first o = transition (chunk_input 7 cookie_ack) o

-- Where the next chunk follows, the second has its turn.
second_is_worked : (e : Endpoint) (ends : List Input) (turns : List Transition) → let o : Outcome = record (still e) { following = next_chunk } in
    ChunkTurns e 7 (cookie_ack ∷ shutdown_ack ∷ []) ends (worked_first o ∷ turns)
    ≡ (IsTurn e (chunk_input 7 cookie_ack) (worked_first o) × ChunkTurns e 7 (shutdown_ack ∷ []) ends turns)
second_is_worked e ends turns = refl

-- Where no other chunk is handled, the packet's end comes all the same;
end_comes : (e : Endpoint) (ends : List Input) (turns : List Transition) → let o : Outcome = record (still e) { following = packet_end } in
    ChunkTurns e 7 (cookie_ack ∷ shutdown_ack ∷ []) ends (worked_first o ∷ turns)
    ≡ (IsTurn e (chunk_input 7 cookie_ack) (worked_first o) × Turns e ends turns)
end_comes e ends turns = refl

-- and where the rest is dropped, nothing does.
nothing_comes : (e : Endpoint) (ends : List Input) (turns : List Transition) → let o : Outcome = record (still e) { following = dropped_rest } in
    ChunkTurns e 7 (cookie_ack ∷ shutdown_ack ∷ []) ends (worked_first o ∷ turns)
    ≡ (IsTurn e (chunk_input 7 cookie_ack) (worked_first o) × (turns ≡ []))
nothing_comes e ends turns = refl
