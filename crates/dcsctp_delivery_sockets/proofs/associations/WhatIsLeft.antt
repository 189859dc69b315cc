-- What an association leaves when it ends, and what becomes of it.
use Rattle.std.proofs.Common.{◌≡◌, ℕ, Bool, true, false, Option, None, Some, List, [], refl, sym, ◌∙◌, ap, subst, inl, inr}
use Rattle.std.specs.Prelude.{◌⊎◌, if◌then◌else◌}
use Rattle.dcsctp_spec_lemmas.specs.spec.endpoint.Endpoint.{Endpoint}
use Rattle.dcsctp_spec_lemmas.specs.spec.endpoint.Outcome.{Outcome}
use Rattle.dcsctp_spec_lemmas.specs.spec.endpoint.Turn.{Input, arrival, refusal, packet_begins, chunk_input, packet_ends, act_input, user_sets, user_sends, user_resets, user_takes, timer_expires, time_passes, restores, Turn}
use Rattle.dcsctp_spec_lemmas.specs.types.queues.Messages.{MessageContent}
use Rattle.dcsctp_spec_lemmas.specs.spec.queues.Reassembly.{ReassemblyState}
use Rattle.dcsctp_spec_lemmas.specs.spec.queues.Transfer.{Transfer}
use Rattle.dcsctp_spec_lemmas.specs.spec.association.Acts.{connect, t1_expires, shut_down, step_of_shutdown, shutdown_repeats, abort_with, hands_over, flushes, request_again, request_renewed}
use Rattle.dcsctp_spec_laws.specs.LeftLaws.{left_once, LeavesMessages, IsOwnInput}
use Rattle.dcsctp_spec_laws.proofs.LeftTurns.{messages_left_stay}
use Rattle.dcsctp_delivery_sockets.specs.turns.Actions.{IsCall}
use Rattle.dcsctp_delivery_sockets.specs.associations.Ends.{ReceivingEnd, LeavesReady}

-- As much is ready under each tag as before.
pub ready_same : (gets later : ℕ → ReceivingEnd) (last : ℕ) (left : List MessageContent) (found : Option Transfer) → ((tag : ℕ) → (later tag).reassembly.incoming.ready ≡ (gets tag).reassembly.incoming.ready)
    → LeavesReady gets last left found → LeavesReady later last left found
ready_same gets later last left None same (inl none) = inl none
ready_same gets later last left None same (inr ready) = inr (same last ∙ ready)
ready_same gets later last left (Some transfer) same none = none

-- Without an association it is as it says.
pub left_idle : (gets : ℕ → ReceivingEnd) (last : ℕ) (left : List MessageContent) (found : Option Transfer) → found ≡ None → (left ≡ []) ⊎ ((gets last).reassembly.incoming.ready ≡ left) → LeavesReady gets last left found
left_idle gets last left found none is = subst (LeavesReady gets last left) (sym none) is

-- A call is an input of the socket's own.
call_is_own : (input : Input) → IsCall input → IsOwnInput input
call_is_own arrival may = tt
call_is_own (refusal text) may = tt
call_is_own (packet_begins contents) may = tt
call_is_own (chunk_input tag content) may = tt
call_is_own packet_ends may = tt
call_is_own (act_input connect) may = tt
call_is_own (act_input (t1_expires again)) may = tt
call_is_own (act_input shut_down) may = tt
call_is_own (act_input step_of_shutdown) may = tt
call_is_own (act_input shutdown_repeats) may = tt
call_is_own (act_input (abort_with reason)) may = tt
call_is_own (act_input hands_over) may = tt
call_is_own (act_input flushes) may = tt
call_is_own (act_input (request_again reset)) may = absurd may
call_is_own (act_input (request_renewed reset)) may = absurd may
call_is_own (user_sets setting) may = tt
call_is_own (user_sends messages) may = tt
call_is_own (user_resets ids) may = tt
call_is_own user_takes may = tt
call_is_own (timer_expires timer) may = tt
call_is_own (time_passes moment) may = tt
call_is_own (restores state) may = absurd may

module _ (d : Endpoint) (input : Input) (o : Outcome) (may : IsCall input) (turn : Turn d input o) where
  -- In an association nothing is left.
  pub none_left : (gets : ℕ → ReceivingEnd) (last : ℕ) (transfer : Transfer) → o.after.queues.transfer ≡ Some transfer → LeavesReady gets last d.left d.queues.transfer → o.after.left ≡ []
  none_left gets last transfer is before = go d.queues.transfer o.after.queues.transfer (messages_left_stay d input o (call_is_own input may) turn) is before
    where
      go : (old new : Option Transfer) → LeavesMessages d input old new o.after.left → new ≡ Some transfer → LeavesReady gets last d.left old → o.after.left ≡ []
      go None None stays there ready = absurd (cc)
      go (Some old) None stays there ready = absurd (cc)
      go None (Some new) stays there ready = stays
      go (Some old) (Some new) (inl same) there none = same ∙ none
      go (Some old) (Some new) (inr gone) there none = gone

  pub goes_left : (gets later : ℕ → ReceivingEnd) (last after : ℕ) (transfer : Transfer) → o.after.queues.transfer ≡ Some transfer → LeavesReady gets last d.left d.queues.transfer → LeavesReady later after o.after.left o.after.queues.transfer
  goes_left gets later last after transfer is before = subst (LeavesReady later after o.after.left) (sym is) (none_left gets last transfer is before)

  -- What an association leaves is what was ready in it.
  pub ends_left : (gets : ℕ → ReceivingEnd) (last tag : ℕ) (transfer : Transfer) → d.queues.transfer ≡ Some transfer → o.after.queues.transfer ≡ None → (gets tag).reassembly ≡ transfer.reassembly → LeavesReady gets last d.left d.queues.transfer
      → LeavesReady gets tag o.after.left o.after.queues.transfer
  ends_left gets last tag transfer there gone same before =
      left_idle gets tag o.after.left o.after.queues.transfer gone
      (go d.options.follow_rfc d.queues.transfer o.after.queues.transfer (messages_left_stay d input o (call_is_own input may) turn) there gone (subst (LeavesReady gets last d.left) there before) refl)
    where
      go : (b : Bool) (old new : Option Transfer) → LeavesMessages d input old new o.after.left → old ≡ Some transfer → new ≡ None → d.left ≡ [] → d.options.follow_rfc ≡ b
          → (o.after.left ≡ []) ⊎ ((gets tag).reassembly.incoming.ready ≡ o.after.left)
      go b None new stays is none empty follows = absurd (cc)
      go b (Some old) (Some new) stays is none empty follows = absurd (cc)
      go true (Some old) None stays is none empty follows =
          let one : old ≡ transfer = cc in
          inr (ap (λ (r : ReassemblyState). r.incoming.ready) same ∙ sym (ap (λ (t : Transfer). t.reassembly.incoming.ready) one) ∙ sym (stays ∙ ap (λ (f : Bool). if f then old.reassembly.incoming.ready else d.left) follows))
      go false (Some old) None stays is none empty follows = inl (stays ∙ ap (λ (f : Bool). if f then old.reassembly.incoming.ready else d.left) follows ∙ empty)

  -- Without an association the user's call may have taken one.
  pub left_taken : d.queues.transfer ≡ None → o.after.queues.transfer ≡ None → o.after.left ≡ left_once input d.left
  left_taken none gone = go d.queues.transfer o.after.queues.transfer (messages_left_stay d input o (call_is_own input may) turn) none gone
    where
      go : (old new : Option Transfer) → LeavesMessages d input old new o.after.left → old ≡ None → new ≡ None → o.after.left ≡ left_once input d.left
      go None None stays before after = stays
      go None (Some new) stays before after = absurd (cc)
      go (Some old) new stays before after = absurd (cc)
