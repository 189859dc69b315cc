use Rattle.std.proofs.Common.{◌≡◌, ◌∙◌, ◌+◌, ◌-◌, ◌%◌, ◌^◌, true, false, ap, sym}
use Rattle.dcsctp_send_retransmission.specs.Skipping.{SkipsRow}
use Rattle.dcsctp_send_retransmission.proofs.SkippingLemmas.{cumulative_is, says_messages, says_streams}
use Rattle.dcsctp_send_retransmission.proofs.retransmission_queue.RetransmissionQueue.create_forward_tsn.Goals as goal
use Rattle.dcsctp_send_retransmission.proofs.retransmission_queue.RetransmissionQueue.create_forward_tsn.Goals.{then-is_interleaving+in_ok-messages_of, else-is_interleaving+in_ok-streams_of}

pub returns : goal.returns
returns c =
    let skips : SkipsRow c.args.self.now c.in_ok-count.count c.skip.new.numbers.entries = c.in_ok-count.ensures in
    let tsn : c.tsn_at.result ≡ (c.args.self.now.outstanding.first_tsn + c.in_ok-count.count) % 2 ^ 32 = rw (← c.self.view_is) c.tsn_at.ensures in
    let cumulative : (c.tsn_at.result + 4294967295) % 4294967296 ≡ (c.args.self.now.outstanding.first_tsn + c.in_ok-count.count + (2 ^ 32 - 1)) % 2 ^ 32 =
    ap (λ t. (t + 4294967295) % 4294967296) tsn ∙ cumulative_is c.args.self.now.outstanding.first_tsn c.in_ok-count.count in
    elim c.if-is_interleaving.branch [
      | then-is_interleaving+in_ok-messages_of w ↦
          let is : c.args.self.now.outstanding.is_interleaved ≡ true = sym c.is_interleaving.ensures ∙ w.if-is_interleaving.true in
          rw w.skipped-is (says_messages c.args.self.now c.in_ok-count.count c.skip.new.numbers.entries _ _ is skips w.in_ok-messages_of.ensures cumulative)
      | else-is_interleaving+in_ok-streams_of w ↦
          let is : c.args.self.now.outstanding.is_interleaved ≡ false = sym c.is_interleaving.ensures ∙ w.if-is_interleaving.false in
          rw w.skipped-is (says_streams c.args.self.now c.in_ok-count.count c.skip.new.numbers.entries _ _ is skips w.in_ok-streams_of.ensures cumulative)
    ]
