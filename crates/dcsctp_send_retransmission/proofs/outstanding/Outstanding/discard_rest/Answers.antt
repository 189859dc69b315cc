use Rattle.std.proofs.Common.{inl, ◌≡◌, ◌∙◌, List, Some, true, false, subst, ℕ, ◌<◌, ◌^◌, ◌+◌, length, ap, refl, inr, arith}
use Rattle.dcsctp_api.specs.types.queues.Progress.{is_marked}
use Rattle.dcsctp_api.specs.spec.queues.Outstanding.{OutstandingState}
use Rattle.dcsctp_send_retransmission.proofs.ItemsLemmas.{kept_pushed, sums_leave_room, size_bounded}
use Rattle.std.proofs.lemmas.Result.{err_from_is_err_and}
use Rattle.std.specs.List.{slice_get}
use Rattle.dcsctp_api.specs.spec.queues.Sending.{DiscardsNamed}
use Rattle.dcsctp_send_queue.specs.Calls.{StopsDiscarding}
use Rattle.dcsctp_send_queue.specs.Telling.{contents}
use Rattle.dcsctp_api.specs.types.declared.progress.Progress.{Progress}
use Rattle.dcsctp_api.specs.spec.queues.Items.{Item}
use Rattle.dcsctp_send_retransmission.specs.declared.item.Item.TheInside.{Inside}
use Rattle.dcsctp_api.specs.spec.queues.ItemMessages.{IsEndOf}
use Rattle.dcsctp_send_retransmission.specs.Totals.{total_with}
use Rattle.dcsctp_send_retransmission.proofs.MessageLemmas.{index_at}
use Rattle.dcsctp_send_retransmission.proofs.SettledLemmas.{settled_pushed}
use Rattle.dcsctp_send_retransmission.proofs.outstanding.Outstanding.discard_rest.Goals as goal

pub add-requires : goal.add-requires
add-requires c =
    rw c.size-size.ensures
    (sums_leave_room _ c.self.inside.cursor c.self.inside.items.items _ _ _ (size_bounded c.self.inside.interleaving c.end_of_message-item.result) c.self.invariant)

pub invariant_of-self-then-branch : goal.invariant_of-self-then-branch
invariant_of-self-then-branch c =
    let room : length c.self.inside.items.items + 1 < 2 ^ 31 = omega (arith, c.requires.room, ap (λ (m : OutstandingState). length m.items) c.self.view_is) in
    let P : Item → Type 0 = λ item. c.add.new.self ≡ total_with item.progress c.size-size.result c.self.inside.totals in
    let added = subst P c.item.view_is c.add.ensures in
    rw (c.push_back_reserved.ensures.items, c.in_ok-reserve.ensures.items)
    (kept_pushed _ _ _ _ _ _ _ _ c.self.invariant room c.size-size.ensures added (ap (λ (p : Progress). is_marked p.state) (let e = c.end_of_message-item.ensures in e.progress)) (settled_pushed _ _ _ c.self.invariant.settled) (inr (ap (λ (p : Progress). p.state) (let e = c.end_of_message-item.ensures in e.progress))))

pub returns-then-branch-clause-may : goal.returns-then-branch-clause-may
returns-then-branch-clause-may c =
    let is = c.end_of_message-item.ensures in
    inr (record {
      item = c.end_of_message-item.result;
      is_abandoned = ap (λ (p : Progress). p.state) is.progress;
      grows = rw (c.push_back_reserved.ensures.items, c.in_ok-reserve.ensures.items, ← c.self.view_is) refl;
    })

pub returns-then-branch-clause-ok : goal.returns-then-branch-clause-ok
returns-then-branch-clause-ok c last at =
    let own : slice_get c.reserve.new.self.items c.args.place ≡ Some last =
    ap (λ (xs : List Item). slice_get xs c.args.place) c.in_ok-reserve.ensures.items ∙ (ap (λ (m : OutstandingState). slice_get m.items c.args.place) c.self.view_is ∙ at) in
    let first = index_at c.reserve.new.self.items c.args.place c.index.result.now last c.index.ensures own in
    let second = index_at c.reserve.new.self.items c.args.place c.index-3.result.now last c.index-3.ensures own in
    let third = index_at c.reserve.new.self.items c.args.place c.index-then-branch.result.now last c.index-then-branch.ensures own in
    let stream = ap (λ (i : Inside). i.fragment.stream) c.index-2.view_is ∙ ap (λ (i : Item). i.fragment.stream) (c.behind-self.view_is ∙ first) in
    let message = ap (λ (i : Inside). i.fragment.message_id) c.index-4.view_is ∙ ap (λ (i : Item). i.fragment.message_id) (c.behind-self-2.view_is ∙ second) in
    let told = rw c.if-branch.true at c.in_ok-discard.ensures.ok in
    let P : ℕ → Type 0 = λ x. DiscardsNamed c.args.queue.now x c.index-4.inside.0.0.message_id (contents c.args.events.now) true c.discard.new.self (contents c.discard.new.events) in
    let Q : ℕ → Type 0 = λ x. DiscardsNamed c.args.queue.now last.fragment.stream x (contents c.args.events.now) true c.discard.new.self (contents c.discard.new.events) in
    let R : Item → Type 0 = λ x. IsEndOf c.args.now c.args.begins_after_reset x c.end_of_message-item.result in
    record {
      is_dropped = true;
      drops = subst Q message (subst P stream told);
      ends = record {
        item = c.end_of_message-item.result;
        is_end = subst R third c.end_of_message-item.ensures;
        grows = rw (c.push_back_reserved.ensures.items, c.in_ok-reserve.ensures.items, ← c.self.view_is) refl;
      };
    }

pub returns-else-branch-clause-ok : goal.returns-else-branch-clause-ok
returns-else-branch-clause-ok c last at =
    let own : slice_get c.reserve.new.self.items c.args.place ≡ Some last =
    ap (λ (xs : List Item). slice_get xs c.args.place) c.in_ok-reserve.ensures.items ∙ (ap (λ (m : OutstandingState). slice_get m.items c.args.place) c.self.view_is ∙ at) in
    let first = index_at c.reserve.new.self.items c.args.place c.index.result.now last c.index.ensures own in
    let second = index_at c.reserve.new.self.items c.args.place c.index-3.result.now last c.index-3.ensures own in
    let stream = ap (λ (i : Inside). i.fragment.stream) c.index-2.view_is ∙ ap (λ (i : Item). i.fragment.stream) (c.behind-self.view_is ∙ first) in
    let message = ap (λ (i : Inside). i.fragment.message_id) c.index-4.view_is ∙ ap (λ (i : Item). i.fragment.message_id) (c.behind-self-2.view_is ∙ second) in
    let told = rw c.if-branch.false at c.in_ok-discard.ensures.ok in
    let P : ℕ → Type 0 = λ x. DiscardsNamed c.args.queue.now x c.index-4.inside.0.0.message_id (contents c.args.events.now) false c.discard.new.self (contents c.discard.new.events) in
    let Q : ℕ → Type 0 = λ x. DiscardsNamed c.args.queue.now last.fragment.stream x (contents c.args.events.now) false c.discard.new.self (contents c.discard.new.events) in
    record {
      is_dropped = false;
      drops = subst Q message (subst P stream told);
      ends = rw (c.in_ok-reserve.ensures.items, ← c.self.view_is) refl;
    }

pub returns-in_err-discard-clause-front : goal.returns-in_err-discard-clause-front
returns-in_err-discard-clause-front c last at =
    let own : slice_get c.reserve.new.self.items c.args.place ≡ Some last =
    ap (λ (xs : List Item). slice_get xs c.args.place) c.in_ok-reserve.ensures.items ∙ (ap (λ (m : OutstandingState). slice_get m.items c.args.place) c.self.view_is ∙ at) in
    let first = index_at c.reserve.new.self.items c.args.place c.index.result.now last c.index.ensures own in
    let second = index_at c.reserve.new.self.items c.args.place c.index-3.result.now last c.index-3.ensures own in
    let stream = ap (λ (i : Inside). i.fragment.stream) c.index-2.view_is ∙ ap (λ (i : Item). i.fragment.stream) (c.behind-self.view_is ∙ first) in
    let message = ap (λ (i : Inside). i.fragment.message_id) c.index-4.view_is ∙ ap (λ (i : Item). i.fragment.message_id) (c.behind-self-2.view_is ∙ second) in
    let P : ℕ → Type 0 = λ x. StopsDiscarding c.args.queue.now x c.index-4.inside.0.0.message_id (contents c.args.events.now) (contents c.discard.new.events) in
    let Q : ℕ → Type 0 = λ x. StopsDiscarding c.args.queue.now last.fragment.stream x (contents c.args.events.now) (contents c.discard.new.events) in
    rw (err_from_is_err_and c.from_residual-in_err-discard.result c.from_residual-in_err-discard.ensures.1).1 (inr (subst Q message (subst P stream c.in_err-discard.ensures.front)))

pub returns-in_err-reserve-clause-front : goal.returns-in_err-reserve-clause-front
returns-in_err-reserve-clause-front c last at = rw (err_from_is_err_and c.from_residual.result c.from_residual.ensures.1).1 (inl refl)
