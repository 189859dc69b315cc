use Rattle.std.proofs.Common.{string_bytes}
use Rattle.std.proofs.lemmas.Result.{err_from_is_err_and}
use Rattle.dcsctp_core.specs.spec.endpoint.PlainOutcomes.{unknown_bytes}
use Rattle.dcsctp_core.specs.View.{view_of}
use Rattle.dcsctp_socket_calls.proofs.UnknownLemmas.{told_moves, told_cut}
use Rattle.dcsctp_socket_calls.proofs.unknown.tell.Goals as goal

pub returns : goal.returns
returns g c =
    let unknown = c.args.chunk.now in
    told_moves g.R.Rng.stream c.args.context.now c.report.new.self (view_of c.report_to_peer.new.context) unknown.chunk_type (string_bytes c.in_ok-text.text)
    (unknown_bytes unknown.chunk_type unknown.flags unknown.value.now) c.in_ok-text.ensures c.in_ok-report.ensures c.in_ok-report_to_peer.ensures

pub returns-in_err-report_to_peer : goal.returns-in_err-report_to_peer
returns-in_err-report_to_peer g c =
    let unknown = c.args.chunk.now in
    rw (err_from_is_err_and c.from_residual-in_err-report_to_peer.result c.from_residual-in_err-report_to_peer.ensures.1).1
    (told_cut g.R.Rng.stream c.args.context.now c.report.new.self (view_of c.report_to_peer.new.context) unknown.chunk_type (string_bytes c.in_ok-text.text)
    (unknown_bytes unknown.chunk_type unknown.flags unknown.value.now) c.in_ok-text.ensures c.in_ok-report.ensures c.in_err-report_to_peer.ensures)
