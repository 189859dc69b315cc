-- What is in flight stays of the kinds that were negotiated: sent as I-DATA or not, and abandoned
-- or not (RFC 8260; RFC 3758).
use Rattle.std.proofs.Common.{◌≡◌, ℕ, Bool, true, false, Option, None, Some, List, sym, ap, ◌∙◌, subst, inl, inr}
use Rattle.std.specs.Prelude.{if◌then◌else◌, nat_lt, ◌⊎◌, ◌-◌}
use Rattle.std.specs.Option.{option_map}
use Rattle.dcsctp_spec_lemmas.specs.wire.Content.{SackContent}
use Rattle.dcsctp_spec_lemmas.specs.wire.declared.chunk.sack.GapAckBlock.{GapAckBlock}
use Rattle.dcsctp_spec_lemmas.specs.types.declared.capabilities.Capabilities.{Capabilities}
use Rattle.dcsctp_spec_lemmas.specs.spec.queues.Abandoning.{GivesUpFirst, GivesUpAll}
use Rattle.dcsctp_spec_lemmas.specs.types.declared.progress.Change.TheVariants.{Miss}
use Rattle.dcsctp_spec_lemmas.specs.spec.queues.Acknowledging.{covered_items, lossy, missed_until, exiting, AcknowledgesItems, acknowledged_until, opens, probes_lost, window_after_settling}
use Rattle.dcsctp_spec_lemmas.specs.spec.queues.AtOnce.{empty_stage, SendsAtOnce}
use Rattle.dcsctp_spec_lemmas.specs.spec.queues.Filling.{Stage, DropsRestOfMessage, ClosesMessage, GivesUpItem, SendsMarked, SendsNew, FindsNone, StepAgain, StepNew, StageSteps, none, more, resent_packet_counted, FillsPacket}
use Rattle.dcsctp_spec_lemmas.specs.spec.queues.ItemMessages.{EndsDropped}
use Rattle.dcsctp_spec_lemmas.specs.spec.queues.Items.{Item, marked_items, changed_between}
use Rattle.dcsctp_spec_lemmas.specs.spec.queues.Outstanding.{OutstandingState, tsn_at, acknowledged_count}
use Rattle.dcsctp_spec_lemmas.specs.spec.queues.Retransmission.{RetransmissionState, with_items, counted_again}
use Rattle.dcsctp_spec_lemmas.specs.spec.queues.SendQueue.{SendQueueState}
use Rattle.dcsctp_spec_lemmas.specs.spec.queues.Transfer.{Transfer}
use Rattle.dcsctp_spec_lemmas.specs.spec.endpoint.BegunResets.{BegunReset, retransmission_begun}
use Rattle.dcsctp_spec_lemmas.specs.spec.endpoint.FlushOutcomes.{FillsIfAllowed}
use Rattle.dcsctp_spec_lemmas.specs.spec.endpoint.TransferMoves.{timed_transfer, TakesSack}

-- It is sent as these capabilities say.
abbrev pub IsOf : Capabilities → RetransmissionState → Type 0
IsOf kinds state = (state.outstanding.is_interleaved ≡ kinds.message_interleaving) × (state.partial_reliability ≡ kinds.partial_reliability)

module _ (kinds : Capabilities) where
  abbrev StageIs : Stage → Type 0
  StageIs stage = IsOf kinds stage.queue

  -- ---- what is abandoned

  dropped_same : (now : ℕ) (begins : Bool) (last : Item) (old new : OutstandingState) (b : Bool) → EndsDropped now begins last old new b → new.is_interleaved ≡ old.is_interleaved
  dropped_same now begins last old new true does = ap (λ (o : OutstandingState). o.is_interleaved) does.grows
  dropped_same now begins last old new false does = ap (λ (o : OutstandingState). o.is_interleaved) does

  drops_is : (now : ℕ) (last : Item) (old new : Stage) → StageIs old → DropsRestOfMessage now last old new → StageIs new
  drops_is now last old new h does =
      subst StageIs (sym does.is) (dropped_same now old.queue.reset_begun last old.queue.outstanding does.outstanding does.drops.is_dropped does.drops.ends ∙ h.0, h.1)

  closes_is : (now : ℕ) (last : Item) (old new : Stage) (b : Bool) → StageIs old → ClosesMessage now last old new b → StageIs new
  closes_is now last old new true h does = subst StageIs (sym does) h
  closes_is now last old new false h (inl does) = drops_is now last old new h does.1
  closes_is now last old new false h (inr does) = subst StageIs (sym does.1) h

  gives_up_is : (now place : ℕ) (old new : Stage) → StageIs old → GivesUpItem now place old new → StageIs new
  gives_up_is now place old new h does = subst StageIs (sym does.is) (closes_is now does.last old does.closed does.last.fragment.is_end h does.closes)

  -- ---- steps

  sends_marked_is : (now : ℕ) (old new : Stage) → StageIs old → SendsMarked now old new → StageIs new
  sends_marked_is now old new h does = subst StageIs (sym does.is) h

  again_is : (now : ℕ) (old new : Stage) → StageIs old → StepAgain now old new → StageIs new
  again_is now old new h (inl does) = sends_marked_is now old new h does.1
  again_is now old new h (inr does) = gives_up_is now does.place old new h does.gives_up

  anew_is : (now : ℕ) (old new : Stage) → StageIs old → SendsNew now old new ⊎ FindsNone now old new → StageIs new
  anew_is now old new h (inl does) = subst StageIs (sym does.is) h
  anew_is now old new h (inr does) = subst StageIs (sym does.is) h

  steps_are : (Step : Stage → Stage → Type 0) → ((old new : Stage) → StageIs old → Step old new → StageIs new) → (old new : Stage) → StageIs old → StageSteps Step old new → StageIs new
  steps_are Step step old _ h none = h
  steps_are Step step old new h (more between _ steps last) = step between new (steps_are Step step old between h steps) last

  counted_is : (size : ℕ) (state : RetransmissionState) → IsOf kinds state → IsOf kinds (counted_again size state)
  counted_is size state h = go (nat_lt 0 size) _ h
    where
      go : (b : Bool) (one : RetransmissionState) → IsOf kinds one → IsOf kinds (if b then one else state)
      go true one is = is
      go false one is = h

  -- ---- a packet

  fills_is : (now : ℕ) (old new : Stage) → StageIs old → FillsPacket now old new → StageIs new
  fills_is now old new h does =
      let resent : StageIs does.fills.resent = steps_are (StepAgain now) (again_is now) old does.fills.resent h does.fills.again in
      let counted : StageIs (resent_packet_counted old.room does.fills.resent) = counted_is (old.room - does.fills.resent.room) does.fills.resent.queue resent in
      subst StageIs (sym does.is) (steps_are (StepNew now) (λ o n k step. anew_is now o n k step.1) (resent_packet_counted old.room does.fills.resent) does.sent counted does.fills.anew)

  pub fills_where_is : (b : Bool) (now : ℕ) (old new : Stage) → StageIs old → FillsIfAllowed b now old new → StageIs new
  fills_where_is true now old new h does = fills_is now old new h does
  fills_where_is false now old new h (inl same) = subst StageIs (sym same) h
  fills_where_is false now old new h (inr does) = fills_is now old new h does

  pub gives_all_is : (now : ℕ) (old new : Stage) → StageIs old → GivesUpAll now old new → StageIs new
  gives_all_is now old new h does = steps_are (GivesUpFirst now) (λ o n k step. gives_up_is now step.place o n k step.gives_up) old new h does.steps

  pub begun_is : (begun : Option BegunReset) (state : RetransmissionState) → IsOf kinds state → IsOf kinds (retransmission_begun begun state)
  begun_is None state h = h
  begun_is (Some begun) state h = h

  -- ---- what is sent at once

  pub at_once_is : (now bytes : ℕ) (waiting : SendQueueState) (old new : RetransmissionState) (tsns : List ℕ) → IsOf kinds old → SendsAtOnce now bytes waiting old new tsns → IsOf kinds new
  at_once_is now bytes waiting old new tsns h does =
      let resent : IsOf kinds does.resent =
      steps_are (SendsMarked now) (sends_marked_is now) (empty_stage (record old { fast_retransmit_due = false }) waiting bytes) (record (empty_stage does.resent waiting does.room) { tsns = tsns }) h does.steps in
      subst (IsOf kinds) (sym does.is) (counted_is (bytes - does.room) does.resent resent)

  -- ---- what is acknowledged

  missed_is : (count limit : ℕ) (newest : Option ℕ) (state : RetransmissionState) → IsOf kinds state → IsOf kinds (missed_until count limit newest state)
  missed_is count limit newest state h = go (nat_lt (marked_items state.outstanding.items) (marked_items (changed_between (Miss newest) count limit state.outstanding.items)))
    where
      go : (b : Bool) → let items = changed_between (Miss newest) count limit state.outstanding.items in IsOf kinds (if b then lossy (with_items items state) else with_items items state)
      go true = h
      go false = h

  probes_is : (b : Bool) (state : RetransmissionState) → IsOf kinds state → IsOf kinds (probes_lost b state)
  probes_is true state h = h
  probes_is false state h = h

  settled_is : (now window count : ℕ) (state : RetransmissionState) → IsOf kinds state → IsOf kinds (window_after_settling now window count state)
  settled_is now window count state h = let told : RetransmissionState = record state { peer_window = window } in probes_is (opens state told) told h

  acknowledged_is : (now cumulative window : ℕ) (blocks : List GapAckBlock) (old new : RetransmissionState) → IsOf kinds old → AcknowledgesItems now cumulative window blocks old new → IsOf kinds new
  acknowledged_is now cumulative window blocks old new h does =
      let count = acknowledged_count old.outstanding cumulative in
      let left : RetransmissionState = acknowledged_until count blocks does.limit (option_map (tsn_at old.outstanding) does.newest) (exiting cumulative old) in
      subst (IsOf kinds) (sym does.is)
      (settled_is now window count left
      (missed_is count does.limit (option_map (tsn_at old.outstanding) does.newest) (with_items (covered_items count blocks old.outstanding.items) (exiting cumulative old)) h))

  pub timed_is : (round_trip : Option ℕ) (transfer : Transfer) → IsOf kinds transfer.retransmission → IsOf kinds (timed_transfer round_trip transfer).retransmission
  timed_is None transfer h = h
  timed_is (Some round_trip) transfer h = h

  pub sack_is : (now : ℕ) (sack : SackContent) (old new : Transfer) → IsOf kinds old.retransmission → TakesSack now sack old new → IsOf kinds new.retransmission
  sack_is now sack old new h does =
      subst (λ (t : Transfer). IsOf kinds t.retransmission) (sym does.is)
      (timed_is does.round_trip (record old { retransmission = does.left })
      (acknowledged_is now sack.cumulative_tsn_ack sack.a_rwnd does.blocks old.retransmission does.left h does.acknowledges))
