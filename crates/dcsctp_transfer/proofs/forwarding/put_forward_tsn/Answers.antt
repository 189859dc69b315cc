use Rattle.std.proofs.Common.{◌∙◌, sym, subst}
use Rattle.dcsctp_send_retransmission.specs.SkippedBytes.{ReadsAs}
use Rattle.dcsctp_transfer.proofs.ForwardingLemmas.{puts_forward}
use Rattle.dcsctp_transfer.proofs.forwarding.put_forward_tsn.Goals as goal

pub returns-clause-ok : goal.returns-clause-ok
returns-clause-ok c =
    let forward = c.in_ok-forward.forward in
    puts_forward c.args.queue.now forward c.deref.result.now c.args.packet.now c.add_forward_tsn.new.packet
    c.in_ok-forward.ensures
    (c.deref.ensures.value ∙ c.in_ok-entries.ensures.bytes)
    (subst (ReadsAs forward.skipped) (sym c.deref.ensures.value) c.in_ok-entries.ensures.reads)
    c.add_forward_tsn.ensures.tsn c.add_forward_tsn.ensures.bytes c.add_forward_tsn.ensures.small c.add_forward_tsn.ensures.added
