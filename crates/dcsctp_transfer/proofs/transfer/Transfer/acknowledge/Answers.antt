use Rattle.std.proofs.Common.{◌∙◌, ap, sym, ℕ, ◌%◌, ◌^◌}
use Rattle.dcsctp_send_retransmission.specs.spec.queues.Transfer.{Transfer}
use Rattle.dcsctp_transfer.proofs.SackLemmas.{told_where, gives_wanted}
use Rattle.dcsctp_transfer.proofs.transfer.Transfer.acknowledge.Goals as goal

pub returns-clause-ok : goal.returns-clause-ok
returns-clause-ok c =
    gives_wanted c.args.self.now _ c.self.inside.data_tracker c.should_send_ack.new.self c.create_selective_ack.new.self c.args.also_if_delayed c.in_ok-sack.sack c.bytes_remaining-room.result c.args.packet.now c.add_sack.new.packet
    c.bytes_remaining-room.ensures.value
    (ap (λ (t : Transfer). t.tracker) c.self.view_is)
    (ap (λ (t : Transfer). record t { tracker = c.create_selective_ack.new.self }) c.self.view_is)
    (sym c.should_send_ack.ensures.answer ∙ c.if-not-should_send_ack.false)
    c.should_send_ack.ensures.left
    c.in_ok-sack.ensures.ok
    (record {
      cumulative = c.in_ok-sack.ensures.cumulative;
      blocks = c.in_ok-sack.ensures.blocks;
      duplicates = c.in_ok-sack.ensures.duplicates;
    })
    (c.in_ok-sack.ensures.window ∙ (ap (λ (n : ℕ). n % 2 ^ 32) c.window_told-window.ensures ∙ ap (λ (t : Transfer). (told_where c.should_send_ack.new.self.follows_rfc t.reassembly) % 2 ^ 32) c.self.view_is))
    c.add_sack.ensures.added
