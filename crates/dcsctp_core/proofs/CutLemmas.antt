-- What an ask amounts to if an allocation failed.
use Rattle.dcsctp_core.proofs.FillLemmas.{may_not, idle_parts, told_user}
use Rattle.dcsctp_transfer.specs.spec.queues.Filling.{none as no_step, more as one_more_step, Stage, StageSteps}
use Rattle.dcsctp_transfer.specs.spec.queues.NextItem.{is_abandonment_due}
use Rattle.dcsctp_transfer.proofs.spec_lemmas.FilledAnswers.{Completes}
use Rattle.std.proofs.lemmas.Bool.Decides.{nat_tests}
use Rattle.std.proofs.Common.{arith, ◌≡◌, Bool, List, None, Option, Some, [], ap, append_assoc, false, length, map, nat_lt, refl, subst, sym, true, ℕ, ◌&&◌, ◌++◌, ◌∙◌, ◌∷◌}
use Rattle.dcsctp_transfer.specs.spec.endpoint.FlushOutcomes.{Ask, GivesUpThenForwards, FillingEvent, answer_contents, filled_draft, first_ask, goes_out, may_abandon, may_forward, stage_of, filling_event_content, filling_event, forward_made}
use Rattle.dcsctp_core.specs.Flushing.{CutsAsk, is_in_time}
use Rattle.dcsctp_transfer.specs.spec.Packet.{Content, Emission, Plain}
use Rattle.dcsctp_transfer.specs.spec.endpoint.Endpoint.{Endpoint}
use Rattle.dcsctp_transfer.specs.spec.endpoint.Event.{Event}
use Rattle.dcsctp_transfer.specs.spec.queues.Abandoning.{GivesUpAll, GivesUpFirst, IsDueForAbandoning}
use Rattle.dcsctp_transfer.specs.spec.queues.Items.{Item}
use Rattle.dcsctp_transfer.specs.spec.queues.Transfer.{Transfer, is_idle}
use Rattle.dcsctp_core.specs.View.{View}
use Rattle.dcsctp_transfer.proofs.spec_lemmas.AnswerLemmas.{answer_giving_up, some_answer}
use Rattle.std.proofs.lemmas.List.{append-nil, map-append}
use Rattle.dcsctp_transfer.specs.types.Settings.{ports_of}
use Rattle.std.specs.List.{slice_get}

-- ---- where an allocation failed

-- the events of an ask begin with these
pub told_first : (after : Endpoint) (told : List (Event Emission)) (with_checksum : Bool) (tag : ℕ) (contents : List Content)
    → (rest : List (Event Emission)) × ((goes_out after told with_checksum tag contents).events ≡ told ++ rest)
told_first after told with_checksum tag [] = ([], sym (append-nil told))
told_first after told with_checksum tag (content ∷ contents) = (_, refl)

-- the first of the events, and the others
record ToldFront (told : List FillingEvent) (front : List (Event (List ℕ))) : Type 0 where
  first : List FillingEvent
  later : List FillingEvent
  are : told ≡ first ++ later
  is : map filling_event_content first ≡ front

told_front : (told : List FillingEvent) (front rest : List (Event (List ℕ))) → map filling_event_content told ≡ front ++ rest → ToldFront told front
told_front told [] rest is = record { first = []; later = told; are = refl; is = refl }
told_front [] (event ∷ front) rest is = absurd (cc)
told_front (one ∷ told) (event ∷ front) rest is =
    let same : filling_event_content one ≡ event = cc in
    let others = told_front told front rest cc in
    record {
      first = one ∷ others.first;
      later = others.later;
      are = ap (λ (ts : List FillingEvent). one ∷ ts) others.are;
      is = ap (λ (es : List (Event (List ℕ))). filling_event_content one ∷ es) others.is ∙ ap (λ (e : Event (List ℕ)). e ∷ front) same;
    }

-- An ask is cut within the events of some answer.
pub cut_within : {R : Type 0} (ask : Ask) (old : View R) (draft : Emission) (events telling front more : List (Event (List ℕ))) → Completes ask old.endpoint draft telling
    → telling ≡ front ++ more → events ≡ old.events ++ front → CutsAsk ask old draft events
cut_within {R = R} ask old draft events telling front more c is added =
    let e : Endpoint = old.endpoint in
    let all : map filling_event_content c.answer.told ≡ front ++ (more ++ c.rest) =
    c.told ∙ (ap (λ (es : List (Event (List ℕ))). es ++ c.rest) is ∙ append_assoc front more c.rest) in
    let split : ToldFront c.answer.told front = told_front c.answer.told front (more ++ c.rest) all in
    let out = told_first c.answer.after (map filling_event c.answer.told) draft.with_checksum draft.packet.tag (filled_draft draft (answer_contents c.answer)).packet.contents in
    record {
      answer = c.answer;
      allowed = c.allowed;
      front = map filling_event split.first;
      rest = map filling_event split.later ++ out.0;
      parts = out.1
          ∙ (ap (λ (ts : List FillingEvent). map filling_event ts ++ out.0) split.are
          ∙ (ap (λ (es : List (Event Emission)). es ++ out.0) (map-append filling_event split.first split.later) ∙ append_assoc (map filling_event split.first) (map filling_event split.later) out.0));
      added = added ∙ ap (λ (es : List (Event (List ℕ))). old.events ++ es) (sym split.is ∙ told_user (ports_of e.options) split.first);
    }

-- before any event
pub cut_untold : {R : Type 0} (ask : Ask) (old : View R) (draft : Emission) (events : List (Event (List ℕ))) → events ≡ old.events → CutsAsk ask old draft events
cut_untold ask old draft events same = cut_within ask old draft events [] [] [] (some_answer ask old.endpoint draft) refl (same ∙ sym (append-nil old.events))

-- Where messages may be abandoned, the ask isn't idle.
busy_if : (ask : Ask) (e : Endpoint) (transfer : Transfer) → may_forward ask e transfer.retransmission ≡ true → is_idle e.queues.queue transfer ≡ false
busy_if ask e transfer may = go (is_idle e.queues.queue transfer) refl
  where
    go : (b : Bool) → is_idle e.queues.queue transfer ≡ b → is_idle e.queues.queue transfer ≡ false
    go false is = is
    go true is = let both : true ≡ false = sym may ∙ may_not ask e transfer.retransmission (idle_parts e.queues.queue transfer is).0.1 in absurd (cc)

-- messages were abandoned, as far as that is so
pub gave_up_completes : (b : Bool) (e : Endpoint) (draft : Emission) (transfer : Transfer) (room : ℕ) (gave_up : Stage) (next : Option ℕ) (forwards : List Plain) → e.queues.transfer ≡ Some transfer
    → may_forward first_ask e transfer.retransmission ≡ b → GivesUpThenForwards b e.moment transfer room (stage_of e.queues.queue transfer.retransmission [] 0) gave_up (forward_made next forwards)
    → Completes first_ask e draft gave_up.told
gave_up_completes true e draft transfer room gave_up next forwards holds may h = answer_giving_up first_ask e draft transfer gave_up holds (busy_if first_ask e transfer may) may h.0
gave_up_completes false e draft transfer room gave_up next forwards holds may h =
    subst (λ (told : List (Event (List ℕ))). Completes first_ask e draft told) (sym (ap (λ (s : Stage). s.told) h.0)) (some_answer first_ask e draft)

-- No message is abandoned where none may be.
none_abandoned : (now : ℕ) (old new : Stage) → may_abandon old.queue ≡ false → StageSteps (GivesUpFirst now) old new → new ≡ old
none_abandoned now old new never_may no_step = refl
none_abandoned now old new never_may (one_more_step between new' steps step) =
    absurd (never (subst (λ (s : Stage). IsDueForAbandoning now step.place s.queue) (none_abandoned now old between never_may steps) step.is_due))
  where
    never : IsDueForAbandoning now step.place old.queue → ⊥
    never due = may (old.queue.partial_reliability) refl old.queue.outstanding.items refl
      where
        may : (negotiated : Bool) → old.queue.partial_reliability ≡ negotiated → (items : List Item) → old.queue.outstanding.items ≡ items → ⊥
        may false is items are = let both : false ≡ true = sym (ap (λ (b : Bool). is_abandonment_due now b due.item) is) ∙ due.due in cc
        may true is [] are = let both : None ≡ Some due.item = sym (ap (λ (xs : List Item). slice_get xs step.place) are) ∙ due.at in cc
        may true is (item ∷ items) are =
            let both : nat_lt 0 (length (item ∷ items)) ≡ false = sym (ap (λ (b : Bool). b && nat_lt 0 (length old.queue.outstanding.items)) is ∙ ap (λ (xs : List Item). nat_lt 0 (length xs)) are) ∙ never_may in
            grind (arith, nat_tests)

pub abandoning_completes : (b : Bool) (e : Endpoint) (draft : Emission) (transfer : Transfer) (gave_up : Stage) → e.queues.transfer ≡ Some transfer → is_in_time e ≡ true
    → may_abandon transfer.retransmission ≡ b → GivesUpAll e.moment (stage_of e.queues.queue transfer.retransmission [] 0) gave_up → Completes first_ask e draft gave_up.told
abandoning_completes true e draft transfer gave_up holds in_time may h =
    let both : may_forward first_ask e transfer.retransmission ≡ true = ap (λ (b : Bool). b && may_abandon transfer.retransmission) in_time ∙ may in
    answer_giving_up first_ask e draft transfer gave_up holds (busy_if first_ask e transfer both) both h
abandoning_completes false e draft transfer gave_up holds in_time may h =
    subst (λ (told : List (Event (List ℕ))). Completes first_ask e draft told)
    (sym (ap (λ (s : Stage). s.told) (none_abandoned e.moment (stage_of e.queues.queue transfer.retransmission [] 0) gave_up may h.steps))) (some_answer first_ask e draft)
