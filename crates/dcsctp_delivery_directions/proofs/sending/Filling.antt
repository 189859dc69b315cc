-- What a packet is filled with.
use Rattle.std.proofs.Common.{◌≡◌, ℕ, Bool, true, false, ◌<◌, ◌+◌, ◌-◌, ◌≤◌, ◌^◌, List, [], ◌∷◌, ◌++◌, length, refl, sym, ◌∙◌, ap, arith, subst, inl, inr}
use Rattle.std.specs.Prelude.{Some, is_some, nat_lt, min, if◌then◌else◌, slice_get}
use Rattle.std.proofs.lemmas.Bool.Decides.{nat_tests}
use Rattle.dcsctp_spec.specs.types.declared.progress.Change.TheVariants.{SendAgain}
use Rattle.dcsctp_spec.specs.queues.AtOnce.{empty_stage, SendsAtOnce}
use Rattle.dcsctp_spec.specs.queues.Filling.{Stage, SendsMarked, payload_room, SendsNew, FindsNone, StepAgain, MayAdd, StepNew, StageSteps, none, more, resent_packet_counted, FillsPacket}
use Rattle.dcsctp_spec.specs.types.queues.Progress.{is_abandoned}
use Rattle.dcsctp_spec.specs.queues.Items.{Item}
use Rattle.dcsctp_spec.specs.queues.Outstanding.{OutstandingState, header, header_of, next_tsn}
use Rattle.dcsctp_spec.specs.queues.Retransmission.{RetransmissionState, counted_again}
use Rattle.dcsctp_spec.specs.queues.SendQueue.{SendQueueState}
use Rattle.dcsctp_delivery_directions.specs.sending.Log.{Message, Piece, IsLogOfPieces, History, log_extended, with_slot, Slot}
use Rattle.dcsctp_delivery_directions.specs.sending.Places.{at_place}
use Rattle.dcsctp_delivery_directions.specs.sending.Pieces.{HoldsQueued}
use Rattle.dcsctp_delivery_directions.specs.sending.Numbers.{stream_named, is_handed_out, IsCurrent, AreKept, NumbersMessages}
use Rattle.dcsctp_delivery_directions.specs.sending.Stages.{Bears, Pends, AreMarks, Stands, Stays}
use Rattle.dcsctp_delivery_directions.proofs.sending.Pieces.{hands_out}
use Rattle.dcsctp_delivery_directions.proofs.sending.Marks.{pends_later, marks_stay, takes_on, takes_ways, marks_more, counted_pends}
use Rattle.dcsctp_delivery_directions.proofs.sending.Discarding.{takes_kind}
use Rattle.dcsctp_delivery_directions.proofs.sending.Places.{at_new, at_cases}
use Rattle.dcsctp_delivery_directions.proofs.sending.Numbers.{numbers_dropped, kind_dropped}
use Rattle.dcsctp_delivery_directions.proofs.sending.Numbered.{numbered_dropped}
use Rattle.dcsctp_delivery_directions.proofs.sending.Streams.{drops_hold}
use Rattle.dcsctp_delivery_directions.proofs.sending.Limits.{sending_leaves, new_limited, marked_kept}
use Rattle.dcsctp_delivery_directions.proofs.sending.Stages.{whole_grown, bears_grown, cut_more, bears_changed}
use Rattle.dcsctp_delivery_directions.proofs.sending.Whole.{continues}
use Rattle.dcsctp_delivery_directions.proofs.sending.GivingUp.{ended, grown_twice, gives_up_ends}
use Rattle.dcsctp_delivery_directions.proofs.sending.Pauses.{StaysPaused, again_paused, anew_paused, steps_paused, kept_later, kept_both, current_both}

-- ---- one step

pub stay : (queued : List Message) (history : History) (first acknowledged : ℕ) (new : Stage) → Stands queued history first acknowledged new → Stays queued history first acknowledged new
stay queued history first acknowledged new stands = record { more = []; stands = stands; current = λ n f at. absurd (cc); kept = λ n f at. absurd (cc) }

pub stay_on : (queued : List Message) (history : History) (first acknowledged : ℕ) (between new : Stage) (stays : Stays queued history first acknowledged between) → StaysPaused between new
    → Stays queued (log_extended stays.more history) first acknowledged new → Stays queued history first acknowledged new
stay_on queued history first acknowledged between new stays paused later =
    record {
      more = later.more ++ stays.more;
      stands = subst (λ (h : History). Stands queued h first acknowledged new) (sym (grown_twice later.more stays.more history)) later.stands;
      current = current_both history later.more stays.more later.current stays.current;
      kept = kept_both new.waiting.streams later.more stays.more later.kept (kept_later between.waiting.streams new.waiting.streams stays.more paused stays.kept);
    }

marked_stays : (queued : List Message) (history : History) (first acknowledged now : ℕ) (old new : Stage) → Stands queued history first acknowledged old → SendsMarked now old new → Stays queued history first acknowledged new
marked_stays queued history first acknowledged now old new stands sends =
    stay queued history first acknowledged new
    (subst (λ (s : Stage). Stands queued history first acknowledged s) (sym sends.is)
    (record {
      queue_holds = stands.queue_holds;
      cut = stands.cut;
      bears = bears_changed history first acknowledged (SendAgain (next_tsn old.queue.outstanding)) sends.place (sends.place + 1) old.queue.outstanding (sending_leaves (next_tsn old.queue.outstanding))
          (λ k item at from below is. (
          let m = sends.next.marked in
          let here : k ≡ sends.place = omega (arith, from, below) in
          let both : Some m.item ≡ Some item = sym m.at ∙ ap (λ (n : ℕ). slice_get old.queue.outstanding.items n) (sym here) ∙ at in
          let same : m.item ≡ item = cc in
          marked_kept m.item.progress.state m.is (ap (λ (x : Item). is_abandoned x.progress.state) same ∙ is)
          )) stands.bears;
      pends = stands.pends;
      marks = stands.marks;
      numbers = stands.numbers;
      kind = stands.kind;
    }))

again_stays : (queued : List Message) (history : History) (first acknowledged now : ℕ) (old new : Stage) → Stands queued history first acknowledged old → StepAgain now old new → Stays queued history first acknowledged new
again_stays queued history first acknowledged now old new stands step =
    elim step [
      | inl e ↦ marked_stays queued history first acknowledged now old new stands e.1
      | inr e ↦ ended queued history first acknowledged new (gives_up_ends queued history first acknowledged now e.place old new stands e.next.marked.item e.next.marked.at e.due e.gives_up)
    ]

has_room : (header room : ℕ) → header ≤ 20 → header + 4 ≤ room → 0 < payload_room header room
has_room header room small fits = grind (arith, nat_tests)

header_small : (b : Bool) → header_of b ≤ 20
header_small true = omega arith
header_small false = omega arith

-- the one piece of a list
only : (piece : Piece) (n : ℕ) (f : Piece) → at_place n (Some piece ∷ []) ≡ Some (Some f) → piece ≡ f
only piece n f at = elim (at_cases n (Some piece) (Some f) [] at) [ inl e ↦ cc | inr e ↦ absurd (cc) ]

new_stays : (queued : List Message) (history : History) (first acknowledged now : ℕ) (old new : Stage) → Stands queued history first acknowledged old → MayAdd old → SendsNew now old new → Stays queued history first acknowledged new
new_stays queued history first acknowledged now old new stands may sends =
    let handed = hands_out queued history now (payload_room (header old.queue.outstanding) old.room) old.waiting new.waiting old.told new.told sends.item.fragment
    (has_room (header old.queue.outstanding) old.room (header_small old.queue.outstanding.is_interleaved) may.fits) stands.queue_holds stands.numbers sends.takes in
    let kept = takes_kind now (payload_room (header old.queue.outstanding) old.room) old.waiting new.waiting old.told new.told sends.item.fragment sends.takes in
    record {
      more = Some handed.piece ∷ [];
      current = λ n f at. subst (λ (g : Piece). g.is_interleaved ≡ true → IsCurrent history g) (only handed.piece n f at) handed.current;
      kept = λ n f at. subst (λ (g : Piece). is_handed_out (stream_named g.message.stream new.waiting.streams).pause ≡ false) (only handed.piece n f at) handed.kept;
      stands = record {
        queue_holds = handed.queue_holds;
        cut = cut_more queued history sends.item.fragment new.waiting handed stands.cut;
        bears = subst (λ (s : Stage). Bears (with_slot (Some handed.piece) history) first acknowledged s.queue.outstanding) (sym sends.is)
            (bears_grown history first acknowledged (Some handed.piece) sends.item old.queue.outstanding stands.bears handed.says
            (record {
              number = length history.log;
              piece = handed.piece;
              at = at_new (Some handed.piece) history.log;
              of = handed.says.named;
              whole = λ mark has names less. less;
              stream = handed.says.stream;
              unordered = handed.says.unordered;
              mid = handed.says.mid;
              ssn = handed.says.ssn;
              up_to = omega arith;
              tail = λ k f past up at. absurd (omega (arith, past, up));
              limits = handed.says.limits;
            }) (new_limited sends.item sends.is_fresh.progress) (subst (λ (b : Bool). Pends history b) (sym sends.begins) stands.pends)
            (λ plain none. whole_grown history.log acknowledged (Some handed.piece) sends.item old.queue.outstanding.items stands.bears.count (stands.bears.whole plain none)
            (continues queued history first acknowledged old.queue.outstanding stands.bears plain none sends.item.fragment new.waiting handed (kept ∙ sym stands.kind ∙ plain)) (λ e. absurd (cc))
            (λ is unended. new_limited sends.item sends.is_fresh.progress is) (λ begins. ap (λ (l : List Slot). length l) (stands.pends.none (sym sends.begins ∙ begins) none))));
        pends = pends_later (Some handed.piece) history first old.waiting.streams new.queue.reset_begun stands.marks (λ begun none. (let clash : true ≡ false = sym begun ∙ ap (λ (s : Stage). s.queue.reset_begun) sends.is in absurd (cc)));
        marks = marks_more queued history first old.waiting.streams sends.item.fragment new.waiting handed stands.cut
            (takes_on queued history now (payload_room (header old.queue.outstanding) old.room) old.waiting new.waiting old.told new.told sends.item.fragment stands.queue_holds handed sends.takes)
            (takes_ways queued history now (payload_room (header old.queue.outstanding) old.room) old.waiting new.waiting old.told new.told sends.item.fragment stands.queue_holds handed sends.takes) stands.marks;
        numbers = handed.numbers;
        kind = ap (λ (s : Stage). s.queue.outstanding.is_interleaved) sends.is ∙ stands.kind ∙ sym kept;
      };
    }

finds_stays : (queued : List Message) (history : History) (first acknowledged now : ℕ) (old new : Stage) → Stands queued history first acknowledged old → FindsNone now old new → Stays queued history first acknowledged new
finds_stays queued history first acknowledged now old new stands finds =
    let stays = numbers_dropped now old.waiting finds.takes.drops.events new.waiting finds.takes.drops.drops in
    let kept : new.waiting.is_interleaved ≡ old.waiting.is_interleaved = kind_dropped now old.waiting finds.takes.drops.events new.waiting finds.takes.drops.drops in
    stay queued history first acknowledged new
    (record {
      queue_holds = drops_hold queued history.log now old.waiting finds.takes.drops.events new.waiting finds.takes.drops.drops stands.queue_holds;
      cut = stands.cut;
      bears = subst (λ (s : Stage). Bears history first acknowledged s.queue.outstanding) (sym finds.is) stands.bears;
      pends = subst (λ (s : Stage). Pends history s.queue.reset_begun) (sym finds.is) stands.pends;
      marks = marks_stay history first old.waiting.streams new.waiting.streams (λ id some. sym (ap is_some (stays.fronts id).under_way) ∙ some) stands.marks;
      numbers = numbered_dropped history now old.waiting finds.takes.drops.events new.waiting finds.takes.drops.drops stands.numbers;
      kind = ap (λ (s : Stage). s.queue.outstanding.is_interleaved) finds.is ∙ stands.kind ∙ sym kept;
    })

anew_stays : (queued : List Message) (history : History) (first acknowledged now : ℕ) (old new : Stage) → Stands queued history first acknowledged old → StepNew now old new → Stays queued history first acknowledged new
anew_stays queued history first acknowledged now old new stands step =
    elim step.1 [
      | inl e ↦ new_stays queued history first acknowledged now old new stands step.0 e
      | inr e ↦ finds_stays queued history first acknowledged now old new stands e
    ]

-- ---- steps

module _ (queued : List Message) (first acknowledged : ℕ) (Step : Stage → Stage → Type 0) (keeps : (history : History) (old new : Stage) → Stands queued history first acknowledged old → Step old new → Stays queued history first acknowledged new)
    (paused : (old new : Stage) → Step old new → StaysPaused old new) where
  steps_stay : (history : History) (old new : Stage) → Stands queued history first acknowledged old → StageSteps Step old new → Stays queued history first acknowledged new
  steps_stay history old new stands none = stay queued history first acknowledged old stands
  steps_stay history old new stands (more between _ steps step) =
      let earlier = steps_stay history old between stands steps in
      stay_on queued history first acknowledged between new earlier (paused between new step) (keeps (log_extended earlier.more history) between new earlier.stands step)

pub counted_outstanding : (size : ℕ) (state : RetransmissionState) → (counted_again size state).outstanding ≡ state.outstanding
counted_outstanding size state = go (nat_lt 0 size)
  where
    go : (b : Bool) → (if b then record state {
      packets_retransmitted = min (state.packets_retransmitted + 1) (2 ^ 64 - 1);
      bytes_retransmitted = min (state.bytes_retransmitted + size) (2 ^ 64 - 1);
    } else state).outstanding ≡ state.outstanding
    go true = refl
    go false = refl

pub fills_stay : (queued : List Message) (history : History) (first acknowledged now : ℕ) (old new : Stage) → Stands queued history first acknowledged old → FillsPacket now old new → Stays queued history first acknowledged new
fills_stay queued history first acknowledged now old new stands fills =
    let again = steps_stay queued first acknowledged (StepAgain now) (λ l o n s step. again_stays queued l first acknowledged now o n s step) (again_paused now) history old fills.fills.resent stands fills.fills.again in
    let counted : Stands queued (log_extended again.more history) first acknowledged (resent_packet_counted old.room fills.fills.resent) = (record {
      queue_holds = again.stands.queue_holds;
      cut = again.stands.cut;
      bears = subst (λ (o : OutstandingState). Bears (log_extended again.more history) first acknowledged o) (sym (counted_outstanding (old.room - fills.fills.resent.room) fills.fills.resent.queue)) again.stands.bears;
      pends = subst (λ (b : Bool). Pends (log_extended again.more history) b) (sym (counted_pends (old.room - fills.fills.resent.room) fills.fills.resent.queue)) again.stands.pends;
      marks = again.stands.marks;
      numbers = again.stands.numbers;
      kind = ap (λ (o : OutstandingState). o.is_interleaved) (counted_outstanding (old.room - fills.fills.resent.room) fills.fills.resent.queue) ∙ again.stands.kind;
    }) in
    let anew = steps_stay queued first acknowledged (StepNew now) (λ l o n s step. anew_stays queued l first acknowledged now o n s step) (anew_paused now) (log_extended again.more history) (resent_packet_counted old.room fills.fills.resent) fills.sent counted fills.fills.anew in
    let sent = stay_on queued history first acknowledged fills.fills.resent fills.sent again (steps_paused (StepNew now) (anew_paused now) (resent_packet_counted old.room fills.fills.resent) fills.sent fills.fills.anew) anew in
    record {
      more = sent.more;
      current = sent.current;
      kept = subst (λ (s : Stage). AreKept s.waiting.streams sent.more) (sym fills.is) sent.kept;
      stands = subst (λ (s : Stage). Stands queued (log_extended sent.more history) first acknowledged s) (sym fills.is) (record { queue_holds = sent.stands.queue_holds; cut = sent.stands.cut; bears = sent.stands.bears; pends = sent.stands.pends; marks = sent.stands.marks; numbers = sent.stands.numbers; kind = sent.stands.kind });
    }

-- ---- a fast retransmission

pub at_once_stays : (queued : List Message) (history : History) (first acknowledged now bytes : ℕ) (waiting : SendQueueState) (old new : RetransmissionState) (tsns : List ℕ) → HoldsQueued queued history.log waiting.streams → IsLogOfPieces queued history.log
    → NumbersMessages history waiting → old.outstanding.is_interleaved ≡ waiting.is_interleaved
    → Bears history first acknowledged old.outstanding → Pends history old.reset_begun → AreMarks history first waiting.streams → SendsAtOnce now bytes waiting old new tsns → Stays queued history first acknowledged (record (empty_stage new waiting bytes) { tsns = tsns })
at_once_stays queued history first acknowledged now bytes waiting old new tsns queue_holds cut numbers kind bears pends marks sends =
    let start : Stands queued history first acknowledged (empty_stage (record old { fast_retransmit_due = false }) waiting bytes) = (record { queue_holds = queue_holds; cut = cut; bears = bears; pends = pends; marks = marks; numbers = numbers; kind = kind }) in
    let stays = steps_stay queued first acknowledged (SendsMarked now) (λ l o n s step. marked_stays queued l first acknowledged now o n s step) (λ o n step id. ap (λ (s : Stage). is_handed_out (stream_named id s.waiting.streams).pause) step.is) history (empty_stage (record old { fast_retransmit_due = false }) waiting bytes)
    (record (empty_stage sends.resent waiting sends.room) { tsns = tsns }) start sends.steps in
    let same : new.outstanding ≡ sends.resent.outstanding = ap (λ (r : RetransmissionState). r.outstanding) sends.is ∙ counted_outstanding (bytes - sends.room) sends.resent in
    record {
      more = stays.more;
      current = stays.current;
      kept = stays.kept;
      stands = record {
        queue_holds = stays.stands.queue_holds;
        cut = stays.stands.cut;
        bears = subst (λ (o : OutstandingState). Bears (log_extended stays.more history) first acknowledged o) (sym same) stays.stands.bears;
        pends = subst (λ (b : Bool). Pends (log_extended stays.more history) b) (sym (ap (λ (r : RetransmissionState). r.reset_begun) sends.is ∙ counted_pends (bytes - sends.room) sends.resent)) stays.stands.pends;
        marks = stays.stands.marks;
        numbers = stays.stands.numbers;
        kind = ap (λ (o : OutstandingState). o.is_interleaved) same ∙ stays.stands.kind;
      };
    }
