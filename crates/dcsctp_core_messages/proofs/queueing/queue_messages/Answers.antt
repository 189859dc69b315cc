use Rattle.std.proofs.Common.{◌≡◌, ◌+◌, ◌<◌, ℕ, suc, true, false, List, [], ◌∷◌, map, length, refl, sym, ap, subst, ◌∙◌, arith}
use Rattle.std.specs.Vec.Iter.{into_iter_items, into_iter_len}
use Rattle.std.proofs.lemmas.Result.{err_from_is_err_and}
use Rattle.dcsctp_core.specs.types.declared.message.Message.{Message}
use Rattle.dcsctp_core.specs.types.queues.Messages.{message_content}
use Rattle.dcsctp_core.specs.spec.endpoint.MessageOutcomes.{Sending, sending_of}
use Rattle.dcsctp_core.specs.View.{view_of}
use Rattle.dcsctp_core_messages.proofs.QueueingLemmas.{GoesOn, goes_cut, goes_next, goes_done}
use Rattle.dcsctp_core_messages.proofs.queueing.queue_messages.Goals as goal

suc_same : (a b : ℕ) → suc a ≡ b + 1 → a ≡ b
suc_same a b h = omega arith

one_more : (a b : ℕ) → a + 1 + b ≡ a + (b + 1)
one_more a b = omega arith

nil_by_length : {A : Type 0} (n : ℕ) (xs : List A) → length xs ≡ n → (0 < n → ⊥) → xs ≡ []
nil_by_length n [] is none = refl
nil_by_length n (x ∷ xs) is none = absurd (none (subst (λ m. 0 < m) is (some (length xs))))
  where
    some : (m : ℕ) → 0 < suc m
    some m = omega arith

not_false : {n : ℕ} → (0 < n → false ≡ true) → 0 < n → ⊥
not_false f h =
    let e : false ≡ true = f h in
    absurd (cc)

pub returns-in_err-queue_at : goal.returns-in_err-queue_at
returns-in_err-queue_at g c =
    let how = sending_of c.args.options.now in
    let all : List Sending = map how (map message_content c.args.messages.items) in
    rw (err_from_is_err_and c.from_residual.result c.from_residual.ensures.1).1
    (goes_cut g.R.Rng.stream all (view_of c.args.context.now) c.loop-message.place c.loop-message.queued (how (message_content c.in-Some.message))
    (map how (map message_content (into_iter_items c.next.new.self))) (view_of c.loop-message.context)
    (subst (λ (items : List Message). GoesOn g.R.Rng.stream all (view_of c.args.context.now) c.loop-message.place c.loop-message.queued (map how (map message_content items)) (view_of c.loop-message.context))
    c.in-Some.ensures.items c.loop-message.invariant.0)
    (view_of c.queue_at.new.context).events c.in_err-queue_at.ensures)

pub loop-message-preserved : goal.loop-message-preserved
loop-message-preserved g c =
    let how = sending_of c.args.options.now in
    let all : List Sending = map how (map message_content c.args.messages.items) in (
      goes_next g.R.Rng.stream all (view_of c.args.context.now) c.loop-message.place c.loop-message.queued (how (message_content c.in-Some.message))
          (map how (map message_content (into_iter_items c.next.new.self))) (view_of c.loop-message.context)
          (subst (λ (items : List Message). GoesOn g.R.Rng.stream all (view_of c.args.context.now) c.loop-message.place c.loop-message.queued (map how (map message_content items)) (view_of c.loop-message.context))
          c.in-Some.ensures.items c.loop-message.invariant.0)
          c.queue_at.new.queued (view_of c.queue_at.new.context) c.in_ok-queue_at.ensures.0 c.in_ok-queue_at.ensures.1,
      one_more c.loop-message.place (into_iter_len c.next.new.self) ∙ ap (λ (n : ℕ). c.loop-message.place + n) c.in-Some.ensures.len ∙ c.loop-message.invariant.1,
      suc_same (length (into_iter_items c.next.new.self)) (into_iter_len c.next.new.self)
          (ap (λ (items : List Message). length items) (sym c.in-Some.ensures.items) ∙ c.loop-message.invariant.2 ∙ sym c.in-Some.ensures.len),
    )

pub returns : goal.returns
returns g c =
    let how = sending_of c.args.options.now in
    goes_done g.R.Rng.stream (map how (map message_content c.args.messages.items)) (view_of c.args.context.now) c.loop-message.place c.loop-message.queued
    (map how (map message_content (into_iter_items c.loop-message.waiting))) (view_of c.loop-message.context)
    (ap (λ (items : List Message). map how (map message_content items))
    (nil_by_length (into_iter_len c.loop-message.waiting) (into_iter_items c.loop-message.waiting) c.loop-message.invariant.2 (not_false c.in_default.ensures.variant.1)))
    c.loop-message.invariant.0
