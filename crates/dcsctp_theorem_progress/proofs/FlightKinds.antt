-- What is in flight keeps its kind, whatever is sent, acknowledged or given up: whether messages are interleaved, and whether they
-- may be abandoned.
use Rattle.std.proofs.Common.{◌≡◌, ℕ, Bool, true, false, nat_lt, Option, None, Some, List, inl, inr, refl, sym, ap, subst, ◌∙◌}
use Rattle.std.specs.Prelude.{◌-◌, if◌then◌else◌}
use Rattle.std.specs.Option.{option_map}
use Rattle.dcsctp_spec_lemmas.specs.wire.Content.{SackContent}
use Rattle.dcsctp_spec_lemmas.specs.wire.declared.chunk.sack.GapAckBlock.{GapAckBlock}
use Rattle.dcsctp_spec_lemmas.specs.spec.Packet.{Plain}
use Rattle.dcsctp_spec_lemmas.specs.spec.endpoint.FlushOutcomes.{FillsIfAllowed, GivesUpThenForwards, forward_made}
use Rattle.dcsctp_spec_lemmas.specs.spec.endpoint.TransferMoves.{TakesSack, timed_transfer}
use Rattle.dcsctp_spec_lemmas.specs.spec.queues.Abandoning.{GivesUpFirst}
use Rattle.dcsctp_spec_lemmas.specs.spec.queues.Acknowledging.{covered_items, missed_until, acknowledged_until, exiting, probes_lost, opens, window_after_settling, AcknowledgesItems}
use Rattle.dcsctp_spec_lemmas.specs.spec.queues.AtOnce.{SendsAtOnce}
use Rattle.dcsctp_spec_lemmas.specs.spec.queues.Filling.{Stage, DropsRestOfMessage, ClosesMessage, GivesUpItem, SendsMarked, StepAgain, StepNew, StageSteps, none, more, resent_packet_counted, FillsPacket}
use Rattle.dcsctp_spec_lemmas.specs.spec.queues.ItemMessages.{EndsDropped}
use Rattle.dcsctp_spec_lemmas.specs.spec.queues.Items.{Item}
use Rattle.dcsctp_spec_lemmas.specs.spec.queues.Outstanding.{OutstandingState, tsn_at, acknowledged_count}
use Rattle.dcsctp_spec_lemmas.specs.spec.queues.Retransmission.{RetransmissionState, with_items, counted_again}
use Rattle.dcsctp_spec_lemmas.specs.spec.queues.Transfer.{Transfer}

abbrev pub SameKind : RetransmissionState → RetransmissionState → Type 0
SameKind old new = (new.outstanding.is_interleaved ≡ old.outstanding.is_interleaved) × (new.partial_reliability ≡ old.partial_reliability)

then_same : (old between new : RetransmissionState) → SameKind old between → SameKind between new → SameKind old new
then_same old between new first second = (second.0 ∙ first.0, second.1 ∙ first.1)

-- another name of it
named_same : (old new named : RetransmissionState) → named ≡ new → SameKind old new → SameKind old named
named_same old new named is same = subst (SameKind old) (sym is) same

-- what it is in a stage
abbrev KeepsKind : Stage → Stage → Type 0
KeepsKind old new = SameKind old.queue new.queue

named_stage : (old new named : Stage) → named ≡ new → KeepsKind old new → KeepsKind old named
named_stage old new named is same = subst (KeepsKind old) (sym is) same

-- ---- what is given up

ends_dropped : (now : ℕ) (begins : Bool) (last : Item) (old new : OutstandingState) (is_dropped : Bool) → EndsDropped now begins last old new is_dropped → new.is_interleaved ≡ old.is_interleaved
ends_dropped now begins last old new true h = ap (λ (o : OutstandingState). o.is_interleaved) h.grows
ends_dropped now begins last old new false h = ap (λ (o : OutstandingState). o.is_interleaved) h

rest_dropped : (now : ℕ) (last : Item) (old new : Stage) → DropsRestOfMessage now last old new → KeepsKind old new
rest_dropped now last old new h = (
  ap (λ (s : Stage). s.queue.outstanding.is_interleaved) h.is ∙ ends_dropped now old.queue.reset_begun last old.queue.outstanding h.outstanding h.drops.is_dropped h.drops.ends,
  ap (λ (s : Stage). s.queue.partial_reliability) h.is,
)

closed_kind : (now : ℕ) (last : Item) (old new : Stage) (is_end : Bool) → ClosesMessage now last old new is_end → KeepsKind old new
closed_kind now last old new true h = named_stage old _ new h (refl, refl)
closed_kind now last old new false (inl h) = rest_dropped now last old new h.1
closed_kind now last old new false (inr h) = named_stage old _ new h.1 (refl, refl)

given_up_kind : (now place : ℕ) (old new : Stage) → GivesUpItem now place old new → KeepsKind old new
given_up_kind now place old new h =
    let closed : KeepsKind old h.closed = closed_kind now h.last old h.closed h.last.fragment.is_end h.closes in
    named_stage old _ new h.is (closed.0, closed.1)

-- ---- what is sent

marked_kind : (now : ℕ) (old new : Stage) → SendsMarked now old new → KeepsKind old new
marked_kind now old new h = named_stage old _ new h.is (refl, refl)

again_kind : (now : ℕ) (old new : Stage) → StepAgain now old new → KeepsKind old new
again_kind now old new (inl h) = marked_kind now old new h.1
again_kind now old new (inr h) = given_up_kind now h.place old new h.gives_up

new_kind : (now : ℕ) (old new : Stage) → StepNew now old new → KeepsKind old new
new_kind now old new (may, inl h) = named_stage old _ new h.is (refl, refl)
new_kind now old new (may, inr h) = named_stage old _ new h.is (refl, refl)

steps_kind : (Step : Stage → Stage → Type 0) → ((old new : Stage) → Step old new → KeepsKind old new) → (old new : Stage) → StageSteps Step old new → KeepsKind old new
steps_kind Step keeps old _ none = (refl, refl)
steps_kind Step keeps old _ (more between new before step) =
    then_same old.queue between.queue new.queue (steps_kind Step keeps old between before) (keeps between new step)

either : (b : Bool) (state x y : RetransmissionState) → SameKind state x → SameKind state y → SameKind state (if b then x else y)
either true state x y first second = first
either false state x y first second = second

counted_kind : (size : ℕ) (state : RetransmissionState) → SameKind state (counted_again size state)
counted_kind size state = either (nat_lt 0 size) state _ _ (refl, refl) (refl, refl)

filled_kind : (now : ℕ) (old new : Stage) → FillsPacket now old new → KeepsKind old new
filled_kind now old new h =
    let resent : Stage = h.fills.resent in
    let again : KeepsKind old resent = steps_kind (StepAgain now) (again_kind now) old resent h.fills.again in
    let counted : KeepsKind resent (resent_packet_counted old.room resent) = counted_kind (old.room - resent.room) resent.queue in
    let anew : KeepsKind (resent_packet_counted old.room resent) h.sent = steps_kind (StepNew now) (new_kind now) (resent_packet_counted old.room resent) h.sent h.fills.anew in
    let sent : KeepsKind old h.sent = then_same old.queue resent.queue h.sent.queue again (then_same resent.queue (resent_packet_counted old.room resent).queue h.sent.queue counted anew) in
    named_stage old _ new h.is (sent.0, sent.1)

pub allowed_kind : (b : Bool) (now : ℕ) (old new : Stage) → FillsIfAllowed b now old new → KeepsKind old new
allowed_kind true now old new h = filled_kind now old new h
allowed_kind false now old new (inl h) = named_stage old old new h (refl, refl)
allowed_kind false now old new (inr h) = filled_kind now old new h

pub gave_up_kind : (b : Bool) (now : ℕ) (transfer : Transfer) (room : ℕ) (old new : Stage) (next : Option ℕ) (chunks : List Plain) → GivesUpThenForwards b now transfer room old new (forward_made next chunks)
    → KeepsKind old new
gave_up_kind false now transfer room old new next chunks h = named_stage old old new h.0 (refl, refl)
gave_up_kind true now transfer room old new next chunks h =
    steps_kind (GivesUpFirst now) (λ x y step. given_up_kind now step.place x y step.gives_up) old new h.0.steps

pub at_once_kind : (now bytes : ℕ) (waiting : _) (old new : RetransmissionState) (tsns : List ℕ) → SendsAtOnce now bytes waiting old new tsns → SameKind old new
at_once_kind now bytes waiting old new tsns h =
    let resent : SameKind old h.resent = steps_kind (SendsMarked now) (marked_kind now) _ _ h.steps in
    let counted : SameKind h.resent (counted_again (bytes - h.room) h.resent) = counted_kind (bytes - h.room) h.resent in
    let sent : SameKind old (counted_again (bytes - h.room) h.resent) = then_same old h.resent (counted_again (bytes - h.room) h.resent) resent counted in
    named_same old _ new h.is (sent.0, sent.1)

-- ---- what is acknowledged

missed_kind : (count limit : ℕ) (newest : Option ℕ) (state : RetransmissionState) → SameKind state (missed_until count limit newest state)
missed_kind count limit newest state = either _ state _ _ (refl, refl) (refl, refl)

until_kind : (count : ℕ) (blocks : List GapAckBlock) (limit : ℕ) (newest : Option ℕ) (state : RetransmissionState) → SameKind state (acknowledged_until count blocks limit newest state)
until_kind count blocks limit newest state =
    let covered : RetransmissionState = with_items (covered_items count blocks state.outstanding.items) state in
    let missed : SameKind covered (missed_until count limit newest covered) = missed_kind count limit newest covered in
    (missed.0, missed.1)

probes_kind : (b : Bool) (state : RetransmissionState) → SameKind state (probes_lost b state)
probes_kind true state = (refl, refl)
probes_kind false state = (refl, refl)

settled_kind : (now window count : ℕ) (state : RetransmissionState) → SameKind state (window_after_settling now window count state)
settled_kind now window count state =
    let told : RetransmissionState = record state { peer_window = window } in
    let probed : SameKind told (probes_lost (opens state told) told) = probes_kind (opens state told) told in
    (probed.0, probed.1)

acknowledged_kind : (now cumulative window : ℕ) (blocks : List GapAckBlock) (old new : RetransmissionState) → AcknowledgesItems now cumulative window blocks old new → SameKind old new
acknowledged_kind now cumulative window blocks old new h =
    let count : ℕ = acknowledged_count old.outstanding cumulative in
    let newest : Option ℕ = option_map (tsn_at old.outstanding) h.newest in
    let until : SameKind (exiting cumulative old) (acknowledged_until count blocks h.limit newest (exiting cumulative old)) = until_kind count blocks h.limit newest (exiting cumulative old) in
    let settled : SameKind (acknowledged_until count blocks h.limit newest (exiting cumulative old)) (window_after_settling now window count (acknowledged_until count blocks h.limit newest (exiting cumulative old))) =
    settled_kind now window count (acknowledged_until count blocks h.limit newest (exiting cumulative old)) in
    named_same old (window_after_settling now window count (acknowledged_until count blocks h.limit newest (exiting cumulative old))) new h.is (settled.0 ∙ until.0, settled.1 ∙ until.1)

pub timed_kind : (round_trip : Option ℕ) (transfer : Transfer) → SameKind transfer.retransmission (timed_transfer round_trip transfer).retransmission
timed_kind None transfer = (refl, refl)
timed_kind (Some round_trip) transfer = (refl, refl)

pub taken_kind : (now : ℕ) (sack : SackContent) (old new : Transfer) → TakesSack now sack old new → SameKind old.retransmission new.retransmission
taken_kind now sack old new h =
    subst (λ (t : Transfer). SameKind old.retransmission t.retransmission) (sym h.is)
    (let timed : Transfer = record old { retransmission = h.left } in
    then_same old.retransmission h.left (timed_transfer h.round_trip timed).retransmission
    (acknowledged_kind now sack.cumulative_tsn_ack sack.a_rwnd h.blocks old.retransmission h.left h.acknowledges) (timed_kind h.round_trip timed))
