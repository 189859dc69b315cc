use Rattle.std.proofs.lemmas.Result.{err_from_is_err_and}
use Rattle.std.proofs.lemmas.List.{take_all}
use Rattle.std.proofs.Common.{◌++◌, ◌∷◌, [], inl, inr, List, length, take, ap, subst, ◌∙◌, arith}
use Rattle.dcsctp_spec_laws.proofs.TurnLemmas.{chunk_turns_keep_ports}
use Rattle.dcsctp_core.specs.spec.Packet.{Content}
use Rattle.dcsctp_core.specs.spec.endpoint.CallTurns.{ChunkTurns, FirstTurns}
use Rattle.dcsctp_core.specs.View.{View, view_of}
use Rattle.dcsctp_core.proofs.Moving.{moves_then}
use Rattle.dcsctp_core_ends.specs.Shutdown.{is_open_core}
use Rattle.dcsctp_core.specs.wire.declared.chunk.Chunk.{Chunk}
use Rattle.dcsctp_core.specs.wire.Content.{packet_content}
use Rattle.dcsctp_socket_calls.specs.Parts.{CutsAcks}
use Rattle.dcsctp_socket_calls.proofs.AckLoop.{acks_of, ack_more, acks_cut, go_on_of, go_on_append, acks_first}
use Rattle.dcsctp_socket_calls.proofs.CallLemmas.{adds_whole}
use Rattle.dcsctp_socket_calls.proofs.calls.handle_shutdown_acks.Goals as goal

-- One more is handled, if it is one.
pub loop-chunk-preserved : goal.loop-chunk-preserved
loop-chunk-preserved g c =
    let done = c.loop-chunk.invariant in
    let step = rw c.in-NextChunk.is at c.in_ok-answer_shutdown_ack.ensures in
    let start = view_of c.args.context.now in
    let here = view_of c.loop-chunk.context in
    let next = view_of c.answer_shutdown_ack.new.context in
    let tag = c.args.packet.now.common_header.verification_tag in
    let chunks = c.deref-chunk-items.result.now in
    record {
      turns = done.turns ++ step.turns;
      goes_on = go_on_append done.turns step.turns done.goes_on (go_on_of step.turns step.goes_on);
      are = ack_more start.endpoint here.endpoint tag chunks c.loop-chunk.chunk-index c.chunk-item.result done.turns step.turns
          c.loop-chunk-test.true c.chunk-item.is done.goes_on done.are done.moves.endpoint step.are;
      moves = moves_then g.R.Rng.stream start here next done.turns step.turns
          (chunk_turns_keep_ports start.endpoint tag (acks_of (take c.loop-chunk.chunk-index chunks)) done.turns done.goes_on done.are)
          done.moves step.moves;
      shut = ap is_open_core step.core ∙ done.shut;
    }

pub returns : goal.returns
returns g c =
    let done = c.loop-chunk.invariant in
    let chunks = c.deref-chunk-items.result.now in
    record {
      turns = done.turns;
      are = subst (λ (list : List Chunk). ChunkTurns (view_of c.args.context.now).endpoint c.args.packet.now.common_header.verification_tag (acks_of list) [] done.turns)
          (take_all c.loop-chunk.chunk-index chunks (omega (arith, c.loop-chunk-test.false)) ∙ c.deref-chunk-items.ensures.value) done.are;
      moves = done.moves;
    }

-- One cuts the others.
pub returns-in-PacketEnd : goal.returns-in-PacketEnd
returns-in-PacketEnd g c =
    let done = c.loop-chunk.invariant in
    let start = view_of c.args.context.now in
    let here = view_of c.loop-chunk.context in
    let next = view_of c.answer_shutdown_ack.new.context in
    let tag = c.args.packet.now.common_header.verification_tag in
    let chunks = c.deref-chunk-items.result.now in
    elim c.in-PacketEnd.is [
      | inl is ↦ (let last = rw is at c.in_ok-answer_shutdown_ack.ensures in
          record {
            turns = done.turns ++ last.turn ∷ [];
            are = subst (λ (list : List Chunk). ChunkTurns start.endpoint tag (acks_of list) [] (done.turns ++ last.turn ∷ [])) c.deref-chunk-items.ensures.value
                (acks_cut start.endpoint here.endpoint tag chunks c.loop-chunk.chunk-index c.chunk-item.result done.turns last.turn
                c.loop-chunk-test.true c.chunk-item.is done.goes_on done.are done.moves.endpoint last.is last.comes last.ends);
            moves = moves_then g.R.Rng.stream start here next done.turns (last.turn ∷ [])
                (chunk_turns_keep_ports start.endpoint tag (acks_of (take c.loop-chunk.chunk-index chunks)) done.turns done.goes_on done.are)
                done.moves last.moves;
          })
      | inr is ↦ (let none = rw is at c.in_ok-answer_shutdown_ack.ensures in absurd none)
    ]

-- Those before it had their turns.
pub returns-in_err-answer_shutdown_ack : goal.returns-in_err-answer_shutdown_ack
returns-in_err-answer_shutdown_ack g c =
    let done = c.loop-chunk.invariant in
    let start = view_of c.args.context.now in
    let here = view_of c.loop-chunk.context in
    let next = view_of c.answer_shutdown_ack.new.context in
    let tag = c.args.packet.now.common_header.verification_tag in
    let chunks = c.deref-chunk-items.result.now in
    let i = c.loop-chunk.chunk-index in
    let first : ChunkTurns start.endpoint tag (take (length (acks_of (take i chunks))) (acks_of chunks)) [] done.turns =
    subst (λ (contents : List Content). ChunkTurns start.endpoint tag contents [] done.turns) (acks_first chunks i) done.are in
    let are : FirstTurns start.endpoint tag (acks_of c.args.packet.now.chunks.items) done.turns =
    subst (λ (list : List Chunk). FirstTurns start.endpoint tag (acks_of list) done.turns) c.deref-chunk-items.ensures.value (length (acks_of (take i chunks)), first) in
    let cut : CutsAcks (packet_content c.args.packet.now) start next.events =
    record { turns = done.turns; are = are; adds = adds_whole g.R.Rng.stream start here done.turns next.events done.moves (ap (λ (v : View g.row.R.Denot). v.events) c.in_err-answer_shutdown_ack.ensures) } in
    rw (err_from_is_err_and c.from_residual.result c.from_residual.ensures.1).1 cut
