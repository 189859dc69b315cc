use Rattle.std.proofs.Common.{◌≡◌, ◌-◌, ◌^◌, min, drop, ap, ◌∙◌, arith}
use Rattle.dcsctp_api.specs.types.queues.SendStreams.{payload_size}
use Rattle.std.proofs.lemmas.List.{drop_all}
use Rattle.dcsctp_send_queue.proofs.stream.OutgoingStream.size_from.Goals as goal

pub returns : goal.returns
returns c =
    let none = drop_all c.loop-place.place c.self.inside.messages.items (omega arith) in
    let total = rw none at c.loop-place.invariant.total in
    let same = ap (λ s. min (payload_size (drop c.args.kept s.messages)) (2 ^ 64 - 1)) c.self.view_is in
    let fits = c.loop-place.invariant.fits in
    let size : c.loop-place.size ≡ min (payload_size (drop c.args.kept c.self.inside.messages.items)) (2 ^ 64 - 1) = omega (arith, total, fits) in
    size ∙ same
