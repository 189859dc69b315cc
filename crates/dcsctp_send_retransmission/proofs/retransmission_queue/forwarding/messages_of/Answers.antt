use Rattle.std.proofs.Common.{◌≡◌, ◌∙◌, [], map, sym}
use Rattle.std.specs.Map.Iter.{deref_pair}
use Rattle.std.proofs.lemmas.List.{append-nil}
use Rattle.std.proofs.lemmas.Map.Iter.{rest_all}
use Rattle.dcsctp_send_retransmission.specs.Forwarding.{messages_entry}
use Rattle.dcsctp_send_retransmission.proofs.SkippingLemmas.{none_twice_sorted}
use Rattle.dcsctp_send_retransmission.proofs.retransmission_queue.forwarding.messages_of.Goals as goal

pub returns : goal.returns
returns c =
    let all : c.loop-key.key-iterator ≡ [] = rest_all deref_pair c.loop-key.key-iterator c.next.new.self c.next.result c.in-None.is c.next.ensures.steps in (
      sym (append-nil (map messages_entry c.loop-key.messages.items)) ∙ (rw all at c.loop-key.invariant),
      none_twice_sorted c.args.numbers.now.entries c.len.ensures.ordered,
    )
