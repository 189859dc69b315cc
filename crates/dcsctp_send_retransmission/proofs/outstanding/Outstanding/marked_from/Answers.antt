use Rattle.std.proofs.Common.{◌≡◌, ◌∙◌, true, subst, sym, arith}
use Rattle.dcsctp_api.specs.spec.queues.Items.{Item}
use Rattle.dcsctp_api.specs.types.queues.Progress.{is_marked}
use Rattle.dcsctp_send_retransmission.proofs.outstanding.Outstanding.marked_from.Goals as goal

pub returns-then-is_marked-clause-some : goal.returns-then-is_marked-clause-some
returns-then-is_marked-clause-some c =
    let P : Item → Type 0 = λ item. is_marked item.progress.state ≡ true in (
      record {
        within = omega (arith, c.loop-place-test.true, c.len-len.ensures.value);
        item = c.item.result.now;
        at = c.item.ensures;
        is = subst P c.behind-self.view_is (sym c.is_marked.ensures ∙ c.if-is_marked.true);
      },
      c.loop-place.invariant,
    )
