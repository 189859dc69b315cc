use Rattle.std.proofs.Common.{inl, ◌<◌, ◌^◌, ◌+◌, ◌∙◌, length, ap, sym, refl, arith}
use Rattle.dcsctp_api.specs.types.declared.progress.Progress.{Progress}
use Rattle.dcsctp_api.specs.types.queues.Progress.{is_marked}
use Rattle.dcsctp_api.specs.spec.queues.Outstanding.{OutstandingState}
use Rattle.dcsctp_send_retransmission.specs.Totals.{total_with}
use Rattle.dcsctp_send_retransmission.proofs.ItemsLemmas.{kept_pushed, sums_leave_room, size_bounded}
use Rattle.std.proofs.lemmas.Result.{err_from_is_err_and}
use Rattle.dcsctp_send_retransmission.proofs.NextLemmas.{has_none}
use Rattle.dcsctp_send_retransmission.proofs.SettledLemmas.{settled_pushed}
use Rattle.dcsctp_send_retransmission.proofs.outstanding.Outstanding.send_next.Goals as goal

pub add_sent-requires : goal.add_sent-requires
add_sent-requires c =
    rw c.size-size.ensures
    (sums_leave_room _ c.self.inside.cursor c.self.inside.items.items _ _ _ (size_bounded c.self.inside.interleaving (record { fragment = c.in-Some.fragment; progress = c.new.result; sent_at = c.args.now; begins_after_reset = c.args.begins_after_reset })) c.self.invariant)

pub invariant_of-self-in-Some : goal.invariant_of-self-in-Some
invariant_of-self-in-Some c =
    let some = rw c.in-Some.is at c.in_ok-produce.ensures.size in
    let room : length c.self.inside.items.items + 1 < 2 ^ 31 = omega (arith, c.requires.room, ap (λ (m : OutstandingState). length m.items) c.self.view_is) in
    rw (c.push_back_reserved.ensures.items, c.in_ok-reserve.ensures.items)
    (kept_pushed _ _ _ _ _ _ _ _ c.self.invariant room c.size-size.ensures (c.add_sent.ensures ∙ ap (λ (p : Progress). total_with p c.size-size.result c.self.inside.totals) (sym c.new.ensures)) (ap (λ (p : Progress). is_marked p.state) c.new.ensures) (settled_pushed _ _ _ c.self.invariant.settled) (inl some.0))

pub returns-in-Some-clause-tries : goal.returns-in-Some-clause-tries
returns-in-Some-clause-tries c =
    let told = rw c.in-Some.is at c.in_ok-produce.ensures.size in
    record {
      item = record { fragment = c.in-Some.fragment; progress = c.new.result; sent_at = c.args.now; begins_after_reset = c.args.begins_after_reset };
      is_first = record { progress = c.new.ensures; sent_at = refl; some = told.0; at_most = told.1 };
      grows = rw (c.push_back_reserved.ensures.items, c.in_ok-reserve.ensures.items, ← c.self.view_is) refl;
      tsn_is = rw (c.next_tsn-tsn.ensures, c.in_ok-reserve.ensures.items, ← c.self.view_is) refl;
    }

pub returns-in-None-clause-none : goal.returns-in-None-clause-none
returns-in-None-clause-none c =
    let takes = rw c.in-None.is at c.in_ok-produce.ensures.ok in
    has_none c.args.now _ _ _ _ takes

pub returns-in-Some-clause-takes : goal.returns-in-Some-clause-takes
returns-in-Some-clause-takes c =
    record {
      item = record { fragment = c.in-Some.fragment; progress = c.new.result; sent_at = c.args.now; begins_after_reset = c.args.begins_after_reset };
      is_fresh = record { progress = c.new.ensures; sent_at = refl };
      begins = refl;
      takes = rw c.in-Some.is at c.in_ok-produce.ensures.ok;
      grows = rw (c.push_back_reserved.ensures.items, c.in_ok-reserve.ensures.items, ← c.self.view_is) refl;
      tsn_is = rw (c.next_tsn-tsn.ensures, c.in_ok-reserve.ensures.items, ← c.self.view_is) refl;
    }

pub returns-in_err-reserve-clause-takes : goal.returns-in_err-reserve-clause-takes
returns-in_err-reserve-clause-takes c =
    rw (err_from_is_err_and c.from_residual.result c.from_residual.ensures.1).1
    (rw (c.in_err-reserve.ensures.items, ← c.self.view_is) refl, inl (refl, refl))
