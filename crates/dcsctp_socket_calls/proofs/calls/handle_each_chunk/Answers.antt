use Rattle.std.proofs.lemmas.Result.{err_from_is_err_and}
use Rattle.std.proofs.lemmas.List.{take_all}
use Rattle.std.proofs.Common.{◌≡◌, ◌++◌, ◌+◌, ◌∷◌, [], List, take, ap, subst, ◌∙◌, arith, inl}
use Rattle.dcsctp_spec_laws.proofs.TurnLemmas.{GoOn-push, chunk_turns_keep_ports, chunk_turns-whole}
use Rattle.dcsctp_core.specs.types.Settings.{ports_of}
use Rattle.dcsctp_core.specs.spec.endpoint.Endpoint.{Endpoint}
use Rattle.dcsctp_core.specs.spec.Packet.{Content, content_of_chunk}
use Rattle.dcsctp_core.specs.spec.endpoint.Turn.{Input}
use Rattle.dcsctp_core.specs.spec.endpoint.CallTurns.{Transition, ChunkTurns, FirstTurns}
use Rattle.dcsctp_core.specs.declared.following.Following.{Following}
use Rattle.dcsctp_core.specs.View.{view_of}
use Rattle.dcsctp_core.specs.Handling.{following_of}
use Rattle.dcsctp_core.proofs.Moving.{moves_one, moves_then}
use Rattle.dcsctp_core.specs.wire.declared.chunk.Chunk.{Chunk}
use Rattle.dcsctp_core.specs.wire.Content.{chunk_content, packet_content}
use Rattle.dcsctp_socket_calls.specs.Parts.{CutsChunks}
use Rattle.dcsctp_socket_calls.proofs.CallLemmas.{adds_cut}
use Rattle.dcsctp_socket_calls.proofs.ChunkLoop.{contents_of, worked_as, turns_more, turns_end, turns_cut, ports_more, first_turns}
use Rattle.dcsctp_socket_calls.proofs.calls.handle_each_chunk.Goals as goal

pub loop-chunk-preserved : goal.loop-chunk-preserved
loop-chunk-preserved g c =
    let done = c.loop-chunk.invariant in
    let step = c.in_ok-handle_chunk.ensures in
    let start = view_of c.args.context.now in
    let here = view_of c.loop-chunk.context in
    let next = view_of c.handle_chunk.new.context in
    let tag = c.args.packet.now.common_header.verification_tag in
    let chunks = c.deref-chunk-items.result.now in
    let last : Transition = worked_as tag (content_of_chunk (chunk_content c.chunk-item.result)) step.outcome in
    record {
      turns = done.turns ++ last ∷ [];
      goes_on = GoOn-push done.turns last done.goes_on (step.following ∙ ap (λ (f : Following). following_of f) c.in-NextChunk.is);
      are = turns_more start.endpoint here.endpoint tag chunks c.loop-chunk.chunk-index c.chunk-item.result done.turns step.outcome
          c.loop-chunk-test.true c.chunk-item.is done.goes_on done.are done.moves.endpoint step.turn;
      moves = moves_then g.R.Rng.stream start here next done.turns (last ∷ [])
          (chunk_turns_keep_ports start.endpoint tag (contents_of (take c.loop-chunk.chunk-index chunks)) done.turns done.goes_on done.are)
          done.moves (moves_one g.R.Rng.stream here next last step.moves);
    }

-- The rest of the packet is dropped.
pub returns-in-DroppedRest : goal.returns-in-DroppedRest
returns-in-DroppedRest g c =
    let done = c.loop-chunk.invariant in
    let step = c.in_ok-handle_chunk.ensures in
    let start = view_of c.args.context.now in
    let here = view_of c.loop-chunk.context in
    let next = view_of c.handle_chunk.new.context in
    let tag = c.args.packet.now.common_header.verification_tag in
    let chunks = c.deref-chunk-items.result.now in
    let contents : List Content = contents_of c.args.packet.now.chunks.items in
    let all : chunks ≡ c.args.packet.now.chunks.items = c.deref-chunk-items.ensures.value in
    let content : Content = content_of_chunk (chunk_content c.chunk-item.result) in
    let last : Transition = worked_as tag content step.outcome in
    let ports = chunk_turns_keep_ports start.endpoint tag (contents_of (take c.loop-chunk.chunk-index chunks)) done.turns done.goes_on done.are in
    let are : (ends : List Input) → ChunkTurns start.endpoint tag contents ends (done.turns ++ last ∷ []) =
    λ ends. subst (λ (cs : List Chunk). ChunkTurns start.endpoint tag (contents_of cs) ends (done.turns ++ last ∷ [])) all
    (turns_end start.endpoint here.endpoint tag chunks c.loop-chunk.chunk-index c.chunk-item.result done.turns step.outcome ends
    c.loop-chunk-test.true c.chunk-item.is done.goes_on done.are done.moves.endpoint step.turn
    (step.following ∙ ap (λ (f : Following). following_of f) c.in-DroppedRest.is)) in
    record {
      turns = done.turns ++ last ∷ [];
      are = are;
      moves = moves_then g.R.Rng.stream start here next done.turns (last ∷ []) ports done.moves (moves_one g.R.Rng.stream here next last step.moves);
      ports = ports_more start.endpoint here.endpoint tag content done.turns step.outcome done.moves.endpoint step.turn ports;
    }

-- The chunk cut the others, and what comes after them follows.
pub returns-in-PacketEnd : goal.returns-in-PacketEnd
returns-in-PacketEnd g c =
    let done = c.loop-chunk.invariant in
    let step = c.in_ok-handle_chunk.ensures in
    let start = view_of c.args.context.now in
    let here = view_of c.loop-chunk.context in
    let next = view_of c.handle_chunk.new.context in
    let tag = c.args.packet.now.common_header.verification_tag in
    let chunks = c.deref-chunk-items.result.now in
    let contents : List Content = contents_of c.args.packet.now.chunks.items in
    let all : chunks ≡ c.args.packet.now.chunks.items = c.deref-chunk-items.ensures.value in
    let content : Content = content_of_chunk (chunk_content c.chunk-item.result) in
    let last : Transition = worked_as tag content step.outcome in
    let ports = chunk_turns_keep_ports start.endpoint tag (contents_of (take c.loop-chunk.chunk-index chunks)) done.turns done.goes_on done.are in
    record {
      turns = done.turns ++ last ∷ [];
      are = λ (ends : List Input) (after : List Transition) come. subst (λ (cs : List Chunk). ChunkTurns start.endpoint tag (contents_of cs) ends ((done.turns ++ last ∷ []) ++ after)) all
          (turns_cut start.endpoint here.endpoint tag chunks c.loop-chunk.chunk-index c.chunk-item.result done.turns step.outcome ends after
          c.loop-chunk-test.true c.chunk-item.is done.goes_on done.are done.moves.endpoint step.turn
          (step.following ∙ ap (λ (f : Following). following_of f) c.in-PacketEnd.is) come);
      moves = moves_then g.R.Rng.stream start here next done.turns (last ∷ []) ports done.moves (moves_one g.R.Rng.stream here next last step.moves);
      ports = ports_more start.endpoint here.endpoint tag content done.turns step.outcome done.moves.endpoint step.turn ports;
    }

-- All chunks had their turns, and what comes after them follows.
pub returns : goal.returns
returns g c =
    let done = c.loop-chunk.invariant in
    let start = view_of c.args.context.now in
    let here = view_of c.loop-chunk.context in
    let tag = c.args.packet.now.common_header.verification_tag in
    let chunks = c.deref-chunk-items.result.now in
    let contents : List Content = contents_of c.args.packet.now.chunks.items in
    let all : contents_of (take c.loop-chunk.chunk-index chunks) ≡ contents =
    ap contents_of (take_all c.loop-chunk.chunk-index chunks (omega (arith, c.loop-chunk-test.false)) ∙ c.deref-chunk-items.ensures.value) in
    let worked : ChunkTurns start.endpoint tag contents [] done.turns = subst (λ (cs : List Content). ChunkTurns start.endpoint tag cs [] done.turns) all done.are in
    record {
      turns = done.turns;
      are = λ (ends : List Input) (after : List Transition) come. chunk_turns-whole start.endpoint tag contents ends done.turns after done.goes_on worked come;
      moves = done.moves;
      ports = chunk_turns_keep_ports start.endpoint tag contents done.turns done.goes_on worked;
    }

-- The chunk whose turn was cut is the last one.
pub returns-in_err-handle_chunk : goal.returns-in_err-handle_chunk
returns-in_err-handle_chunk g c =
    let done = c.loop-chunk.invariant in
    let step = c.in_err-handle_chunk.ensures in
    let start = view_of c.args.context.now in
    let here = view_of c.loop-chunk.context in
    let tag = c.args.packet.now.common_header.verification_tag in
    let chunks = c.deref-chunk-items.result.now in
    let contents : List Content = contents_of c.args.packet.now.chunks.items in
    let all : chunks ≡ c.args.packet.now.chunks.items = c.deref-chunk-items.ensures.value in
    let last : Transition = worked_as tag (content_of_chunk (chunk_content c.chunk-item.result)) step.outcome in
    let ports : ports_of here.endpoint.options ≡ ports_of start.endpoint.options = ap (λ (e : Endpoint). ports_of e.options) done.moves.endpoint
    ∙ chunk_turns_keep_ports start.endpoint tag (contents_of (take c.loop-chunk.chunk-index chunks)) done.turns done.goes_on done.are in
    let first : FirstTurns start.endpoint tag contents (done.turns ++ last ∷ []) =
    subst (λ (cs : List Chunk). FirstTurns start.endpoint tag (contents_of cs) (done.turns ++ last ∷ [])) all
    (first_turns start.endpoint tag chunks (c.loop-chunk.chunk-index + 1) (done.turns ++ last ∷ [])
    (turns_more start.endpoint here.endpoint tag chunks c.loop-chunk.chunk-index c.chunk-item.result done.turns step.outcome
    c.loop-chunk-test.true c.chunk-item.is done.goes_on done.are done.moves.endpoint step.turn)) in
    let cut : CutsChunks (packet_content c.args.packet.now) start (view_of c.handle_chunk.new.context).events =
    record {
      turns = done.turns ++ last ∷ [];
      are = inl first;
      adds = adds_cut g.R.Rng.stream start here done.turns last (view_of c.handle_chunk.new.context).events ports done.moves step.cut;
    } in
    rw (err_from_is_err_and c.from_residual.result c.from_residual.ensures.1).1 cut
