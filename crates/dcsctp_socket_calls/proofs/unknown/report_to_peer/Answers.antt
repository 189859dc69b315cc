use Rattle.std.proofs.Common.{◌∙◌, arith}
use Rattle.dcsctp_core.specs.spec.endpoint.PlainOutcomes.{unknown_bytes}
use Rattle.dcsctp_socket_calls.proofs.UnknownLemmas.{report_moves}
use Rattle.dcsctp_socket_calls.proofs.unknown.report_to_peer.Goals as goal

pub returns : goal.returns
returns g c =
    let old = c.args.context.now in
    let unknown = c.args.chunk.now in
    report_moves g.R.Rng.stream old c.send_error.new.context (unknown_bytes unknown.chunk_type unknown.flags unknown.value.now) c.deref.result.now
    _ (omega arith) (c.deref.ensures.value ∙ c.in_ok-bytes.ensures) c.in_ok-send_error.ensures
