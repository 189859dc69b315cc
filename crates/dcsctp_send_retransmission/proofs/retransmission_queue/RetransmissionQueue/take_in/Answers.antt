use Rattle.std.proofs.Common.{is_some, ◌⊎◌, ◌<◌, ◌≡◌, ◌∙◌, ℕ, Bool, cond, true, false, Some, length, take, inl, inr, refl, ap, sym, arith, add-one, subst}
use Rattle.std.specs.List.{slice_get}
use Rattle.std.specs.Map.{lookup}
use Rattle.std.specs.BTreeMap.{is_at}
use Rattle.dcsctp_api.specs.spec.queues.Sending.{Fragment}
use Rattle.dcsctp_api.specs.spec.queues.Items.{Item}
use Rattle.dcsctp_api.specs.spec.queues.Skipping.{is_listed, LacksRoom}
use Rattle.dcsctp_send_retransmission.specs.Skipping.{skipped_entry_limit}
use Rattle.dcsctp_send_retransmission.specs.declared.retransmission_queue.forwarding.LastNumbers.{LastNumbers}
use Rattle.dcsctp_send_retransmission.proofs.SkippingLemmas.{key_cmp, take_more, collects_skipped, collects_taken, lacks_room, fits_after}
use Rattle.dcsctp_send_retransmission.proofs.retransmission_queue.RetransmissionQueue.take_in.Goals as goal
use Rattle.dcsctp_send_retransmission.proofs.retransmission_queue.RetransmissionQueue.take_in.Goals.{else-entry_limit-len-via-then-entry_limit-len+else-not-contains_key, else-entry_limit-len-via-else-entry_limit-len}

pub returns-then-not-is_listed : goal.returns-then-not-is_listed
returns-then-not-is_listed c =
    let item = c.item.result.now in
    let at : slice_get c.args.self.now.outstanding.items c.args.place ≡ Some item = rw (← c.self.view_is) c.item.ensures in
    let unlisted : is_listed c.args.self.now.outstanding.is_interleaved item ≡ false =
    subst (λ (x : Item). is_listed c.args.self.now.outstanding.is_interleaved x ≡ false) c.behind-self.view_is (sym c.is_listed.ensures ∙ c.if-not-is_listed.true) in
    rw (add-one, take_more c.args.self.now.outstanding.items c.args.place item at) (collects_skipped c.args.self.now _ item _ unlisted c.requires.row)

pub returns-then-not-contains_key : goal.returns-then-not-contains_key
returns-then-not-contains_key c =
    let item = c.item.result.now in
    let at : slice_get c.args.self.now.outstanding.items c.args.place ≡ Some item = rw (← c.self.view_is) c.item.ensures in
    let listed : is_listed c.args.self.now.outstanding.is_interleaved item ≡ true =
    subst (λ (x : Item). is_listed c.args.self.now.outstanding.is_interleaved x ≡ true) c.behind-self.view_is (sym c.is_listed.ensures ∙ c.if-not-is_listed.false) in
    let fragment = c.fragment.view_is ∙ ap (λ (x : Item). x.fragment) c.behind-self.view_is in
    let Absent : Fragment → Type 0 = λ f. is_some (lookup (is_at (key_cmp (f.stream, f.is_unordered))) c.args.numbers.now.entries) ≡ false in
    let absent = subst Absent fragment (sym c.contains_key.ensures ∙ c.if-not-contains_key.true) in
    let full = c.if-entry_limit-len.true in
    let limit = c.entry_limit.ensures in
    let len = c.len.ensures.len in (
      refl,
      λ other is.
          let same : item ≡ other = cc in
          subst (λ (x : Item). LacksRoom c.args.self.now.outstanding.is_interleaved (skipped_entry_limit c.args.self.now) (length c.args.numbers.now.entries) (take c.args.place c.args.self.now.outstanding.items) x) same
          (lacks_room c.args.self.now (take c.args.place c.args.self.now.outstanding.items) item c.args.numbers.now.entries listed c.requires.row (omega arith) absent),
    )

pub returns : goal.returns
returns c =
    let item = c.item.result.now in
    let at : slice_get c.args.self.now.outstanding.items c.args.place ≡ Some item = rw (← c.self.view_is) c.item.ensures in
    let listed : is_listed c.args.self.now.outstanding.is_interleaved item ≡ true =
    subst (λ (x : Item). is_listed c.args.self.now.outstanding.is_interleaved x ≡ true) c.behind-self.view_is (sym c.is_listed.ensures ∙ c.if-not-is_listed.false) in
    let fragment = c.fragment.view_is ∙ ap (λ (x : Item). x.fragment) c.behind-self.view_is in
    let Updates : Fragment → Type 0 = λ f.
    (q : ℕ × Bool)
    → lookup (is_at (key_cmp q)) c.insert.new.self.entries
    ≡ cond (is_at (key_cmp (f.stream, f.is_unordered)) q) (Some (let last : LastNumbers = record { ssn = f.ssn; mid = f.mid } in last)) (lookup (is_at (key_cmp q)) c.args.numbers.now.entries) in
    let updates = subst Updates fragment c.in_ok-insert.ensures.updates.0 in
    let limit : c.entry_limit.result ≡ skipped_entry_limit c.args.self.now = c.entry_limit.ensures in
    let len : c.len.result ≡ length c.args.numbers.now.entries = c.len.ensures.len in
    let room : (length c.args.numbers.now.entries < skipped_entry_limit c.args.self.now) ⊎ (is_some c.in_ok-insert.field-0 ≡ true) =
    elim c.else-entry_limit-len.branch [
      | else-entry_limit-len-via-then-entry_limit-len+else-not-contains_key w ↦ inr (ap is_some c.in_ok-insert.ensures.old ∙ sym w.contains_key.ensures ∙ w.if-not-contains_key.false)
      | else-entry_limit-len-via-else-entry_limit-len w ↦ inl (let below = w.if-entry_limit-len.false in omega arith)
    ] in
    rw (add-one, take_more c.args.self.now.outstanding.items c.args.place item at)
    (collects_taken c.args.self.now (take c.args.place c.args.self.now.outstanding.items) item c.args.numbers.now.entries c.insert.new.self.entries listed c.requires.row updates
    (fits_after (skipped_entry_limit c.args.self.now) (length c.args.numbers.now.entries) (length c.insert.new.self.entries) (is_some c.in_ok-insert.field-0) c.requires.row.fits c.in_ok-insert.ensures.len room))
