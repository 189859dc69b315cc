-- What a flush leaves as it was: the clock and the count of errors. And what tracks received data, if nothing was received.
use Rattle.std.specs.Prelude.{if◌then◌else◌}
use Rattle.std.proofs.Common.{◌≡◌, ℕ, Bool, true, false, ◌&&◌, ◌||◌, Option, None, Some, List, [], ◌∷◌, map, refl, sym, ap, subst, ◌∙◌, arith}
use Rattle.std.proofs.lemmas.Bool.Decides.{nat_tests}
use Rattle.dcsctp_spec_lemmas.specs.spec.Packet.{Content, Emission}
use Rattle.dcsctp_spec_lemmas.specs.spec.endpoint.BegunResets.{BegunReset, after_begun}
use Rattle.dcsctp_spec_lemmas.specs.spec.endpoint.Endpoint.{Endpoint}
use Rattle.dcsctp_spec_lemmas.specs.spec.endpoint.Event.{Event}
use Rattle.dcsctp_spec_lemmas.specs.spec.endpoint.HeartbeatOutcomes.{is_exhausted}
use Rattle.dcsctp_spec_lemmas.specs.spec.endpoint.FlushOutcomes.{Answer, answer_contents, filled_draft, filling_event, goes_out, asked_outcome, next_draft, flush_of, Ask, first_ask, later_ask, wants_sack, room_of_draft, Acknowledges, Gives, GivesUnlessIdle, IsAnswerOfQueues, IsFlushAnswer, AreFlushAnswers, at_limit, at_empty, after_packet}
use Rattle.dcsctp_spec_lemmas.specs.spec.queues.SendQueue.{SendQueueState, has_queued_data}
use Rattle.dcsctp_spec_lemmas.specs.spec.queues.Retransmission.{can_send}
use Rattle.dcsctp_spec_lemmas.specs.spec.queues.Tracker.{TrackerState, owes_acknowledgement, is_acknowledgement_due}
use Rattle.dcsctp_spec_lemmas.specs.spec.queues.Transfer.{Transfer, EndpointQueues, is_idle}
use Rattle.dcsctp_delivery_directions.proofs.sending.Packets.{out_below}

-- ---- the clock and the errors

pub record SameClock (e f : Endpoint) : Type 0 where
  pub moment : f.moment ≡ e.moment
  pub errors : f.error_count ≡ e.error_count

same_then : (e f g : Endpoint) → SameClock e f → SameClock f g → SameClock e g
same_then e f g first second = record { moment = second.moment ∙ first.moment; errors = second.errors ∙ first.errors }

-- The clock and T1 are as they were, and no more errors count.
pub record KeepsTrying (e f : Endpoint) : Type 0 where
  pub moment : f.moment ≡ e.moment
  pub t1 : f.timers.t1 ≡ e.timers.t1
  pub errors : (limit : Option ℕ) → is_exhausted limit e.error_count ≡ false → is_exhausted limit f.error_count ≡ false

pub same_trying : (e f : Endpoint) → f.moment ≡ e.moment → f.timers.t1 ≡ e.timers.t1 → f.error_count ≡ e.error_count → KeepsTrying e f
same_trying e f moment t1 errors = record { moment = moment; t1 = t1; errors = λ limit none. ap (is_exhausted limit) errors ∙ none }

pub trying_then : (e f g : Endpoint) → KeepsTrying e f → KeepsTrying f g → KeepsTrying e g
trying_then e f g first second =
    record { moment = second.moment ∙ first.moment; t1 = second.t1 ∙ first.t1; errors = λ limit none. second.errors limit (first.errors limit none) }

none_counted : (limit : Option ℕ) → is_exhausted limit 0 ≡ false
none_counted None = refl
none_counted (Some limit) = grind (arith, nat_tests)

pub errors_begin : (begins : Bool) (limit : Option ℕ) (count : ℕ) → is_exhausted limit count ≡ false → is_exhausted limit (if begins then 0 else count) ≡ false
errors_begin true limit count h = none_counted limit
errors_begin false limit count h = h

begun_same : (begun : Option BegunReset) (e : Endpoint) → SameClock e (after_begun begun e)
begun_same None e = record { moment = refl; errors = refl }
begun_same (Some begun) e = record { moment = refl; errors = refl }

pub out_same : (e : Endpoint) (told : List (Event Emission)) (with_checksum : Bool) (tag : ℕ) (contents : List Content) → SameClock e (goes_out e told with_checksum tag contents).after
out_same e told with_checksum tag [] = record { moment = refl; errors = refl }
out_same e told with_checksum tag (content ∷ contents) = record { moment = refl; errors = refl }

asked_same : (ask : Ask) (e : Endpoint) (draft : Emission) (answer : Answer) → IsFlushAnswer ask e draft answer → SameClock e (asked_outcome e draft answer).after
asked_same ask e draft answer h =
    let kept : SameClock e answer.after = record {
      moment = ap (λ (x : Endpoint). x.moment) h.kept ∙ (begun_same answer.begun e).moment;
      errors = ap (λ (x : Endpoint). x.error_count) h.kept ∙ (begun_same answer.begun e).errors;
    } in
    same_then e answer.after (asked_outcome e draft answer).after kept
    (out_same answer.after (map filling_event answer.told) draft.with_checksum draft.packet.tag (filled_draft draft (answer_contents answer)).packet.contents)

pub flush_same : (ask : Ask) (n : ℕ) (e : Endpoint) (draft : Emission) (answers : List Answer) → AreFlushAnswers ask n e draft answers → SameClock e (flush_of e draft answers).after
flush_same _ _ _ _ _ (at_limit ask e draft) = record { moment = refl; errors = refl }
flush_same _ _ _ _ _ (at_empty ask more e draft answer is empty) = asked_same ask e draft answer is
flush_same _ _ _ _ _ (after_packet ask more e draft answer answers is some rest) =
    let after : Endpoint = (asked_outcome e draft answer).after in
    same_then e after (flush_of after (next_draft e.core draft) answers).after (asked_same ask e draft answer is) (flush_same later_ask more after (next_draft e.core draft) answers rest)

-- ---- what was received

-- Nothing was, and nothing is.
pub record Tracks (e : Endpoint) (tracker : TrackerState) : Type 0 where
  pub transfer : Transfer
  pub known : e.queues.transfer ≡ Some transfer
  pub same : transfer.tracker ≡ tracker

none_wanted : (due owes more : Bool) → due ≡ false → owes ≡ false → (due || (owes && more)) ≡ false
none_wanted due owes more first second = ap (λ (b : Bool). b || (owes && more)) first ∙ ap (λ (b : Bool). b && more) second

wants_none : (ask : Ask) (queue : SendQueueState) (transfer : Transfer) → owes_acknowledgement transfer.tracker ≡ false → is_acknowledgement_due transfer.tracker ≡ false → wants_sack ask queue transfer ≡ false
wants_none later_ask queue transfer owes due = refl
wants_none first_ask queue transfer owes due =
    none_wanted (is_acknowledgement_due transfer.tracker) (owes_acknowledgement transfer.tracker) (has_queued_data queue || can_send transfer.retransmission) due owes

given_tracks : (ask : Ask) (e : Endpoint) (draft : Emission) (transfer : Transfer) (answer : Answer) → owes_acknowledgement transfer.tracker ≡ false → is_acknowledgement_due transfer.tracker ≡ false
    → Gives ask e draft transfer answer → Tracks answer.after transfer.tracker
given_tracks ask e draft transfer answer owes due h =
    let none : Acknowledges false (room_of_draft e draft) transfer h.tracker h.sacks =
    subst (λ (b : Bool). Acknowledges b (room_of_draft e draft) transfer h.tracker h.sacks) (wants_none ask e.queues.queue transfer owes due) h.acknowledges in
    record { transfer = record transfer { retransmission = h.sent.queue; tracker = h.tracker }; known = ap (λ (queues : EndpointQueues). queues.transfer) h.below; same = none.0 }

tracks_where : (idle : Bool) (ask : Ask) (e : Endpoint) (draft : Emission) (transfer : Transfer) (answer : Answer) → e.queues.transfer ≡ Some transfer → owes_acknowledgement transfer.tracker ≡ false
    → is_acknowledgement_due transfer.tracker ≡ false → GivesUnlessIdle idle ask e draft transfer answer → Tracks answer.after transfer.tracker
tracks_where true ask e draft transfer answer known owes due h =
    subst (λ (a : Answer). Tracks a.after transfer.tracker) (sym h) (record { transfer = transfer; known = known; same = refl })
tracks_where false ask e draft transfer answer known owes due h = given_tracks ask e draft transfer answer owes due h

asked_tracks : (ask : Ask) (e : Endpoint) (draft : Emission) (answer : Answer) (tracker : TrackerState) → Tracks e tracker → owes_acknowledgement tracker ≡ false → is_acknowledgement_due tracker ≡ false
    → IsFlushAnswer ask e draft answer → Tracks (asked_outcome e draft answer).after tracker
asked_tracks ask e draft answer tracker t owes due h =
    let given : Tracks answer.after t.transfer.tracker =
    tracks_where (is_idle e.queues.queue t.transfer) ask e draft t.transfer answer t.known (ap owes_acknowledgement t.same ∙ owes) (ap is_acknowledgement_due t.same ∙ due)
    (subst (λ (x : Option Transfer). IsAnswerOfQueues ask e draft answer x) t.known h.by_transfer) in
    record {
      transfer = given.transfer;
      known = ap (λ (q : EndpointQueues). q.transfer) (out_below answer.after (map filling_event answer.told) draft.with_checksum draft.packet.tag (filled_draft draft (answer_contents answer)).packet.contents) ∙ given.known;
      same = given.same ∙ t.same;
    }

pub flush_tracks : (ask : Ask) (n : ℕ) (e : Endpoint) (draft : Emission) (answers : List Answer) (tracker : TrackerState) → AreFlushAnswers ask n e draft answers → Tracks e tracker
    → owes_acknowledgement tracker ≡ false → is_acknowledgement_due tracker ≡ false → Tracks (flush_of e draft answers).after tracker
flush_tracks _ _ _ _ _ tracker (at_limit ask e draft) t owes due = t
flush_tracks _ _ _ _ _ tracker (at_empty ask more e draft answer is empty) t owes due = asked_tracks ask e draft answer tracker t owes due is
flush_tracks _ _ _ _ _ tracker (after_packet ask more e draft answer answers is some rest) t owes due =
    flush_tracks later_ask more (asked_outcome e draft answer).after (next_draft e.core draft) answers tracker rest (asked_tracks ask e draft answer tracker t owes due is) owes due
