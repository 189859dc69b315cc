-- What is outstanding stays sound while packets are filled.
use Rattle.std.proofs.Common.{◌≡◌, ◌<◌, ◌≤◌, ◌+◌, ◌-◌, ◌^◌, ℕ, Bool, true, false, Some, List, length, inl, inr, refl, sym, ap, ◌∙◌, subst, arith}
use Rattle.std.specs.List.{slice_get}
use Rattle.std.proofs.lemmas.Bool.Decides.{nat_tests}
use Rattle.dcsctp_spec_lemmas.specs.types.declared.progress.Change.TheVariants.{SendAgain, Abandon}
use Rattle.dcsctp_spec_lemmas.specs.types.declared.progress.ItemState.TheVariants.{Abandoned}
use Rattle.dcsctp_spec_lemmas.specs.types.declared.progress.Progress.{Progress}
use Rattle.dcsctp_spec_lemmas.specs.types.queues.Progress.{is_marked, is_unacknowledged}
use Rattle.dcsctp_spec_lemmas.specs.spec.endpoint.FlushOutcomes.{FillsIfAllowed, GivesUpThenForwards, ForwardMade}
use Rattle.dcsctp_spec_lemmas.specs.spec.queues.Abandoning.{GivesUpFirst}
use Rattle.dcsctp_spec_lemmas.specs.spec.queues.AtOnce.{empty_stage, SendsAtOnce}
use Rattle.dcsctp_spec_lemmas.specs.spec.queues.Filling.{Stage, ClosesMessage, GivesUpItem, SendsMarked, SendsNew, MayAdd, StepAgain, StepNew, StageSteps, none, more, resent_packet_counted, FillsPacket, payload_room}
use Rattle.dcsctp_spec_lemmas.specs.spec.queues.ItemMessages.{EndsDropped}
use Rattle.dcsctp_spec_lemmas.specs.spec.queues.Items.{Item}
use Rattle.dcsctp_spec_lemmas.specs.spec.queues.Outstanding.{OutstandingState, header_of, header, next_tsn}
use Rattle.dcsctp_spec_lemmas.specs.spec.queues.Retransmission.{RetransmissionState}
use Rattle.dcsctp_spec_lemmas.specs.spec.queues.SendQueue.{SendQueueState}
use Rattle.dcsctp_spec_lemmas.specs.spec.queues.Transfer.{Transfer}
use Rattle.dcsctp_delivery_directions.proofs.sending.Filling.{counted_outstanding}
use Rattle.dcsctp_delivery_directions.proofs.sending.Stages.{changed_length}
use Rattle.dcsctp_delivery_recovery.specs.Flights.{IsSoundItem, IsSoundFlight}
use Rattle.dcsctp_delivery_recovery.proofs.WaitingStreams.{AllWaitWell}
use Rattle.dcsctp_delivery_recovery.proofs.LeavingBytes.{none_well, discards_well, takes_well}
use Rattle.dcsctp_delivery_recovery.proofs.SoundItems.{again_sound, changed_where, changed_flight, added_flight, QueueFliesSound}

pub record SoundStage (stage : Stage) : Type 0 where
  pub waits : AllWaitWell stage.waiting.streams
  pub flight : IsSoundFlight stage.queue.outstanding

-- The same waits, and the same is outstanding.
pub same_stage : (old new : Stage) → new.waiting ≡ old.waiting → new.queue.outstanding ≡ old.queue.outstanding → SoundStage old → SoundStage new
same_stage old new waiting same h =
    record { waits = subst (λ (w : SendQueueState). AllWaitWell w.streams) (sym waiting) h.waits; flight = subst IsSoundFlight (sym same) h.flight }

-- ---- messages that are abandoned

-- The end of a message has no bytes, and was abandoned before it was sent.
end_sound : (item : Item) (progress : Progress) → item.progress ≡ progress → progress.state ≡ Abandoned → IsSoundItem item
end_sound item progress is abandoned =
    let state : item.progress.state ≡ Abandoned = ap (λ (p : Progress). p.state) is ∙ abandoned in
    record { bytes = inr state; acknowledged = λ was. ap is_unacknowledged state }

ends_flight : (now : ℕ) (begins : Bool) (last : Item) (old new : OutstandingState) (is_dropped : Bool) → length old.items + 1 < 2 ^ 31 → EndsDropped now begins last old new is_dropped → IsSoundFlight old
    → IsSoundFlight new
ends_flight now begins last old new true room does h =
    added_flight old new does.item (ap (λ (o : OutstandingState). o.items) does.grows) (end_sound does.item _ does.is_end.progress refl) room h
ends_flight now begins last old new false room does h = subst IsSoundFlight (sym does) h

closes_sound : (now : ℕ) (last : Item) (old new : Stage) (is_end : Bool) → ClosesMessage now last old new is_end → SoundStage old → SoundStage new
closes_sound now last old new true does h = same_stage old new (ap (λ (s : Stage). s.waiting) does) (ap (λ (s : Stage). s.queue.outstanding) does) h
closes_sound now last old new false (inl does) h =
    record {
      waits = discards_well old.waiting new.waiting last.fragment.stream last.fragment.message_id old.told new.told does.1.drops.is_dropped does.1.drops.drops h.waits;
      flight = subst (λ (s : Stage). IsSoundFlight s.queue.outstanding) (sym does.1.is)
          (ends_flight now old.queue.reset_begun last old.queue.outstanding does.1.outstanding does.1.drops.is_dropped does.0 does.1.drops.ends h.flight);
    }
closes_sound now last old new false (inr does) h = subst SoundStage (sym does.1) h

gives_up_sound : (now place : ℕ) (old new : Stage) → GivesUpItem now place old new → SoundStage old → SoundStage new
gives_up_sound now place old new does h =
    let closed : SoundStage does.closed = closes_sound now does.last old does.closed does.last.fragment.is_end does.closes h in
    subst SoundStage (sym does.is)
    (record { waits = closed.waits; flight = changed_flight Abandon does.start (does.last_place + 1) does.closed.queue.outstanding _ tt refl closed.flight })

steps_sound : (Step : Stage → Stage → Type 0) → ((old new : Stage) → Step old new → SoundStage old → SoundStage new) → (old new : Stage) → StageSteps Step old new → SoundStage old → SoundStage new
steps_sound Step step old _ none h = h
steps_sound Step step old new (more between _ steps last) h = step between new last (steps_sound Step step old between steps h)

pub given_up_sound : (b : Bool) (now : ℕ) (transfer : Transfer) (room : ℕ) (old new : Stage) (made : ForwardMade) → GivesUpThenForwards b now transfer room old new made → SoundStage old → SoundStage new
given_up_sound false now transfer room old new made does h = subst SoundStage (sym does.0) h
given_up_sound true now transfer room old new made does h =
    steps_sound (GivesUpFirst now) (λ from to step one. gives_up_sound now step.place from to step.gives_up one) old new does.0.steps h

-- ---- what is sent

marked_sound : (now : ℕ) (old new : Stage) → SendsMarked now old new → SoundStage old → SoundStage new
marked_sound now old new does h =
    let next : ℕ = next_tsn old.queue.outstanding in
    let items : List Item = old.queue.outstanding.items in
    subst SoundStage (sym does.is)
    (record {
      waits = h.waits;
      flight = record {
        items = changed_where (SendAgain next) does.place (does.place + 1) items
            (λ k item from below at one. (
            let marked = does.next.marked in
            let here : k ≡ does.place = omega (arith, from, below) in
            let both : Some marked.item ≡ Some item = sym marked.at ∙ ap (λ (n : ℕ). slice_get items n) (sym here) ∙ at in
            let same : marked.item ≡ item = cc in
            again_sound next item (ap (λ (x : Item). is_marked x.progress.state) (sym same) ∙ marked.is) one
            ))
            h.flight.items;
        few = (let few = h.flight.few in omega (arith, few, changed_length (SendAgain next) does.place (does.place + 1) items));
      };
    })

again_step_sound : (now : ℕ) (old new : Stage) → StepAgain now old new → SoundStage old → SoundStage new
again_step_sound now old new (inl does) h = marked_sound now old new does.1 h
again_step_sound now old new (inr does) h = gives_up_sound now does.place old new does.gives_up h

has_room : (header room : ℕ) → header ≤ 20 → header + 4 ≤ room → 0 < payload_room header room
has_room header room small fits = grind (arith, nat_tests)

header_small : (is_interleaved : Bool) → header_of is_interleaved ≤ 20
header_small true = omega arith
header_small false = omega arith

fresh_sound : (item : Item) (progress : Progress) → item.progress ≡ progress → progress.was_acknowledged ≡ false → 0 < length item.fragment.payload → IsSoundItem item
fresh_sound item progress is never some =
    record {
      bytes = inl some;
      acknowledged = λ was. (let clash : false ≡ true = sym (ap (λ (p : Progress). p.was_acknowledged) is ∙ never) ∙ was in absurd (cc));
    }

new_sound : (now : ℕ) (old new : Stage) → MayAdd old → SendsNew now old new → SoundStage old → SoundStage new
new_sound now old new may does h =
    let head : ℕ = header old.queue.outstanding in
    let room : 0 < payload_room head old.room = has_room head old.room (header_small old.queue.outstanding.is_interleaved) may.fits in
    let handed = takes_well now (payload_room head old.room) old.waiting new.waiting old.told new.told does.item.fragment room does.takes h.waits in
    record {
      waits = handed.waits;
      flight = subst (λ (s : Stage). IsSoundFlight s.queue.outstanding) (sym does.is)
          (added_flight old.queue.outstanding _ does.item refl (fresh_sound does.item _ does.is_fresh.progress refl handed.some) may.comparable h.flight);
    }

anew_step_sound : (now : ℕ) (old new : Stage) → StepNew now old new → SoundStage old → SoundStage new
anew_step_sound now old new (may, inl does) h = new_sound now old new may does h
anew_step_sound now old new (may, inr does) h =
    record {
      waits = none_well now old.waiting new.waiting old.told new.told does.takes h.waits;
      flight = subst (λ (s : Stage). IsSoundFlight s.queue.outstanding) (sym does.is) h.flight;
    }

fills_sound : (now : ℕ) (old new : Stage) → FillsPacket now old new → SoundStage old → SoundStage new
fills_sound now old new does h =
    let resent : Stage = does.fills.resent in
    let counted : Stage = resent_packet_counted old.room resent in
    let again : SoundStage resent = steps_sound (StepAgain now) (again_step_sound now) old resent does.fills.again h in
    let between : SoundStage counted = same_stage resent counted refl (counted_outstanding (old.room - resent.room) resent.queue) again in
    let sent : SoundStage does.sent = steps_sound (StepNew now) (anew_step_sound now) counted does.sent does.fills.anew between in
    same_stage does.sent new (ap (λ (s : Stage). s.waiting) does.is) (ap (λ (s : Stage). s.queue.outstanding) does.is) sent

pub allowed_sound : (b : Bool) (now : ℕ) (old new : Stage) → FillsIfAllowed b now old new → SoundStage old → SoundStage new
allowed_sound true now old new does h = fills_sound now old new does h
allowed_sound false now old new (inl same) h = subst SoundStage (sym same) h
allowed_sound false now old new (inr does) h = fills_sound now old new does h

-- ---- a fast retransmission

pub at_once_sound : (now bytes : ℕ) (waiting : SendQueueState) (old new : RetransmissionState) (tsns : List ℕ) → SendsAtOnce now bytes waiting old new tsns → AllWaitWell waiting.streams → QueueFliesSound old
    → QueueFliesSound new
at_once_sound now bytes waiting old new tsns does waits h =
    let begun : Stage = empty_stage (record old { fast_retransmit_due = false }) waiting bytes in
    let ended : Stage = record (empty_stage does.resent waiting does.room) { tsns = tsns } in
    let sent : SoundStage ended = steps_sound (SendsMarked now) (marked_sound now) begun ended does.steps (record { waits = waits; flight = h }) in
    subst IsSoundFlight (sym (ap (λ (r : RetransmissionState). r.outstanding) does.is ∙ counted_outstanding (bytes - does.room) does.resent)) sent.flight
