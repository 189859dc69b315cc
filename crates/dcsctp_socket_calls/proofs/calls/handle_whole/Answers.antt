-- What precedes the chunks, the chunks, and what comes after them.
use Rattle.std.proofs.Common.{Bool, subst}
use Rattle.std.proofs.lemmas.Result.{err_from_is_err_and}
use Rattle.dcsctp_core.specs.wire.Content.{packet_content}
use Rattle.dcsctp_core.specs.View.{view_of}
use Rattle.dcsctp_socket_calls.specs.Parts.{MoveToEnd}
use Rattle.dcsctp_socket_calls.proofs.TailLemmas.{ended, ended_cut, dropped}
use Rattle.dcsctp_socket_calls.proofs.WholeLemmas.{worked_whole, whole_cut_rest}
use Rattle.dcsctp_socket_calls.proofs.calls.handle_whole.Goals as goal

pub returns-in_err-handle_each_chunk : goal.returns-in_err-handle_each_chunk
returns-in_err-handle_each_chunk g c =
    rw (err_from_is_err_and c.from_residual-in_err-handle_each_chunk.result c.from_residual-in_err-handle_each_chunk.ensures.1).1
    (whole_cut_rest g.R.Rng.stream (view_of c.args.context.now) (view_of c.begin_packet.new.context) (packet_content c.args.packet.now) (view_of c.handle_each_chunk.new.context).events
    c.in_ok-begin_packet.ensures c.in_err-handle_each_chunk.ensures)

pub returns-in_ok-finish_packet : goal.returns-in_ok-finish_packet
returns-in_ok-finish_packet g c =
    let first = view_of c.begin_packet.new.context in
    let mid = view_of c.handle_each_chunk.new.context in
    let new = view_of c.finish_packet.new.context in
    let packet = packet_content c.args.packet.now in
    worked_whole g.R.Rng.stream (view_of c.args.context.now) first new packet c.in_ok-begin_packet.ensures
    (ended g.R.Rng.stream first mid new packet c.awaits_opening-asks_again.result c.awaits_opening-asks_again.ensures
    (subst (λ (ends : Bool). MoveToEnd g.R.Rng.stream packet first ends mid) c.if-branch.true c.in_ok-handle_each_chunk.ensures) c.in_ok-finish_packet.ensures)

pub returns-in_err-finish_packet : goal.returns-in_err-finish_packet
returns-in_err-finish_packet g c =
    let first = view_of c.begin_packet.new.context in
    let mid = view_of c.handle_each_chunk.new.context in
    let events = (view_of c.finish_packet.new.context).events in
    let packet = packet_content c.args.packet.now in
    rw (err_from_is_err_and c.from_residual-in_err-finish_packet.result c.from_residual-in_err-finish_packet.ensures.1).1
    (whole_cut_rest g.R.Rng.stream (view_of c.args.context.now) first packet events c.in_ok-begin_packet.ensures
    (ended_cut g.R.Rng.stream first mid packet c.awaits_opening-asks_again.result events c.awaits_opening-asks_again.ensures
    (subst (λ (ends : Bool). MoveToEnd g.R.Rng.stream packet first ends mid) c.if-branch.true c.in_ok-handle_each_chunk.ensures) c.in_err-finish_packet.ensures))

pub returns-else-branch : goal.returns-else-branch
returns-else-branch g c =
    let first = view_of c.begin_packet.new.context in
    let mid = view_of c.handle_each_chunk.new.context in
    let packet = packet_content c.args.packet.now in
    worked_whole g.R.Rng.stream (view_of c.args.context.now) first mid packet c.in_ok-begin_packet.ensures
    (dropped g.R.Rng.stream first mid packet _ c.if-branch.false c.in_ok-handle_each_chunk.ensures)
