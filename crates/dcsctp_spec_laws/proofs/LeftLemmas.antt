-- What becomes of the messages that an association leaves when it ends, and what a flush makes of them.
use Rattle.std.proofs.Common.{◌≡◌, ◌⊎◌, inl, inr, ℕ, Bool, true, false, Option, None, Some, List, [], ◌∷◌, map, refl, sym, ap, ◌∙◌}
use Rattle.std.specs.Prelude.{if◌then◌else◌}
use Rattle.dcsctp_spec_lemmas.specs.types.declared.association.Held.{Held}
use Rattle.dcsctp_spec_lemmas.specs.types.declared.word.Word.{Word}
use Rattle.dcsctp_spec_lemmas.specs.spec.Packet.{Content, Emission}
use Rattle.dcsctp_spec_lemmas.specs.spec.queues.Transfer.{Transfer, EndpointQueues, is_idle}
use Rattle.dcsctp_spec_lemmas.specs.spec.endpoint.BegunResets.{BegunReset, after_begun}
use Rattle.dcsctp_spec_lemmas.specs.spec.endpoint.EndOutcomes.{left_messages, ended_tag}
use Rattle.dcsctp_spec_lemmas.specs.spec.endpoint.Endpoint.{Endpoint}
use Rattle.dcsctp_spec_lemmas.specs.spec.endpoint.Event.{Event}
use Rattle.dcsctp_spec_lemmas.specs.spec.endpoint.Outcome.{Outcome, quiet, sends, emits, answers_with, fits}
use Rattle.dcsctp_spec_lemmas.specs.spec.endpoint.FlushOutcomes.{filling_event, Answer, answer_contents, filled_draft, goes_out, asked_outcome, draft_to, next_draft, flush_of, Ask, first_ask, later_ask, GivesUnlessIdle, IsAnswerOfQueues, IsFlushAnswer, AreFlushAnswers, at_limit, at_empty, after_packet, FlushAnswers, packets_allowed}
use Rattle.dcsctp_spec_lemmas.specs.spec.endpoint.DataOutcomes.{flush_to_peer, AnswersTo}
use Rattle.dcsctp_spec_lemmas.specs.spec.endpoint.Turn.{Input}
use Rattle.dcsctp_spec_lemmas.proofs.OneAnswerLemmas.{answered_by}
use Rattle.dcsctp_spec_laws.specs.LeftLaws.{left_once, LeavesMessages}

-- ---- what a turn may do with them

abbrev pub is_there : Option Transfer → Bool
is_there None = false
is_there (Some transfer) = true

-- They stay, and there is an association where there was one.
pub record Stays (e after : Endpoint) : Type 0 where
  pub left : after.left ≡ e.left
  pub there : is_there after.queues.transfer ≡ is_there e.queues.transfer
  pub last : after.last_tag ≡ e.last_tag

-- An association begins.
pub record Begins (e after : Endpoint) : Type 0 where
  pub left : after.left ≡ []
  pub there : is_there after.queues.transfer ≡ true
  pub last : after.last_tag ≡ e.last_tag

-- There is none any more.
pub record Ends (e after : Endpoint) : Type 0 where
  pub left : after.left ≡ left_messages e.options e.queues.transfer e.left
  pub none : after.queues.transfer ≡ None
  pub last : after.last_tag ≡ ended_tag e.core e.last_tag

abbrev pub Leaves : Endpoint → Endpoint → Type 0
Leaves e after = Stays e after ⊎ (Begins e after ⊎ Ends e after)

-- of an outcome
abbrev pub StaysIn : Endpoint → Outcome → Type 0
StaysIn e o = Stays e o.after

abbrev pub LeavesIn : Endpoint → Outcome → Type 0
LeavesIn e o = Leaves e o.after

pub unmoved : (e : Endpoint) → Stays e e
unmoved e = record { left = refl; there = refl; last = refl }

pub stays_then : (e between after : Endpoint) → Stays e between → Stays between after → Stays e after
stays_then e between after first second = record { left = second.left ∙ first.left; there = second.there ∙ first.there; last = second.last ∙ first.last }

pub begins_then : (e begun after : Endpoint) → Begins e begun → Stays begun after → Begins e after
begins_then e begun after first second = record { left = second.left ∙ first.left; there = second.there ∙ first.there; last = second.last ∙ first.last }

-- ---- what the law says of each

stays_where : (e after : Endpoint) (input : Input) (old new : Option Transfer) → left_once input e.left ≡ e.left → e.queues.transfer ≡ old → after.queues.transfer ≡ new → Stays e after
    → LeavesMessages e input old new after.left
stays_where e after input None None keeps before behind h = h.left ∙ sym keeps
stays_where e after input None (Some new) keeps before behind h =
    let same : true ≡ false = sym (ap is_there behind) ∙ h.there ∙ ap is_there before in absurd (cc)
stays_where e after input (Some old) None keeps before behind h =
    let same : false ≡ true = sym (ap is_there behind) ∙ h.there ∙ ap is_there before in absurd (cc)
stays_where e after input (Some old) (Some new) keeps before behind h = inl h.left

begins_where : (e after : Endpoint) (input : Input) (old new : Option Transfer) → after.queues.transfer ≡ new → Begins e after → LeavesMessages e input old new after.left
begins_where e after input None None behind h = let same : false ≡ true = sym (ap is_there behind) ∙ h.there in absurd (cc)
begins_where e after input None (Some new) behind h = h.left
begins_where e after input (Some old) None behind h = let same : false ≡ true = sym (ap is_there behind) ∙ h.there in absurd (cc)
begins_where e after input (Some old) (Some new) behind h = inr h.left

ends_where : (e after : Endpoint) (input : Input) (old new : Option Transfer) → left_once input e.left ≡ e.left → e.queues.transfer ≡ old → after.queues.transfer ≡ new → Ends e after
    → LeavesMessages e input old new after.left
ends_where e after input None None keeps before behind h = h.left ∙ ap (λ (t : Option Transfer). left_messages e.options t e.left) before ∙ sym keeps
ends_where e after input (Some old) None keeps before behind h = h.left ∙ ap (λ (t : Option Transfer). left_messages e.options t e.left) before
ends_where e after input None (Some new) keeps before behind h = let same : true ≡ false = sym (ap is_there behind) ∙ ap is_there h.none in absurd (cc)
ends_where e after input (Some old) (Some new) keeps before behind h = let same : true ≡ false = sym (ap is_there behind) ∙ ap is_there h.none in absurd (cc)

pub left_where : (e : Endpoint) (input : Input) (o : Outcome) → left_once input e.left ≡ e.left → Leaves e o.after → LeavesMessages e input e.queues.transfer o.after.queues.transfer o.after.left
left_where e input o keeps h = elim h [
  | inl stays ↦ stays_where e o.after input e.queues.transfer o.after.queues.transfer keeps refl refl stays
  | inr moved ↦ elim moved [
    | inl begins ↦ begins_where e o.after input e.queues.transfer o.after.queues.transfer refl begins
    | inr ends ↦ ends_where e o.after input e.queues.transfer o.after.queues.transfer keeps refl refl ends
  ]
]

-- ---- a packet

emits_where : (b : Bool) (e : Endpoint) (words : List Word) (emission : Emission) → Stays e (if b then sends e words [] emission else quiet e words []).after
emits_where true e words emission = record { left = refl; there = refl; last = refl }
emits_where false e words emission = record { left = refl; there = refl; last = refl }

pub emits_stays : (e : Endpoint) (words : List Word) (emission : Emission) → Stays e (emits e words emission).after
emits_stays e words emission = emits_where (fits e emission) e words emission

pub answer_stays : (e : Endpoint) (emission : Emission) → Stays e (answers_with e emission).after
answer_stays e emission =
    let at : Stays e (emits e [] emission).after = emits_stays e [] emission in
    answered_by (λ (o : Outcome). Stays e o.after) e emission (unmoved e) (record { left = at.left; there = at.there; last = at.last })

pub goes_out_stays : (e : Endpoint) (told : List (Event Emission)) (with_checksum : Bool) (tag : ℕ) (contents : List Content) → Stays e (goes_out e told with_checksum tag contents).after
goes_out_stays e told with_checksum tag [] = record { left = refl; there = refl; last = refl }
goes_out_stays e told with_checksum tag (content ∷ contents) = record { left = refl; there = refl; last = refl }

-- ---- a flush

begun_left : (begun : Option BegunReset) (e : Endpoint) → (after_begun begun e).left ≡ e.left
begun_left None e = refl
begun_left (Some begun) e = refl

begun_last : (begun : Option BegunReset) (e : Endpoint) → (after_begun begun e).last_tag ≡ e.last_tag
begun_last None e = refl
begun_last (Some begun) e = refl

given_there : (b : Bool) (ask : Ask) (e : Endpoint) (draft : Emission) (transfer : Transfer) (answer : Answer) → e.queues.transfer ≡ Some transfer → GivesUnlessIdle b ask e draft transfer answer
    → is_there answer.after.queues.transfer ≡ is_there e.queues.transfer
given_there true ask e draft transfer answer is h = ap (λ (a : Answer). is_there a.after.queues.transfer) h
given_there false ask e draft transfer answer is h = ap (λ (b : EndpointQueues). is_there b.transfer) h.below ∙ sym (ap is_there is)

answered_there : (ask : Ask) (e : Endpoint) (draft : Emission) (answer : Answer) (transfer : Option Transfer) → e.queues.transfer ≡ transfer → IsAnswerOfQueues ask e draft answer transfer
    → is_there answer.after.queues.transfer ≡ is_there e.queues.transfer
answered_there ask e draft answer None is h = ap (λ (a : Answer). is_there a.after.queues.transfer) h
answered_there ask e draft answer (Some transfer) is h = given_there (is_idle e.queues.queue transfer) ask e draft transfer answer is h

asked_stays : (ask : Ask) (e : Endpoint) (draft : Emission) (answer : Answer) → IsFlushAnswer ask e draft answer → Stays e (asked_outcome e draft answer).after
asked_stays ask e draft answer h =
    stays_then e answer.after (asked_outcome e draft answer).after
    (record {
      left = ap (λ (x : Endpoint). x.left) h.kept ∙ begun_left answer.begun e;
      there = answered_there ask e draft answer e.queues.transfer refl h.by_transfer;
      last = ap (λ (x : Endpoint). x.last_tag) h.kept ∙ begun_last answer.begun e;
    })
    (goes_out_stays answer.after (map filling_event answer.told) draft.with_checksum draft.packet.tag (filled_draft draft (answer_contents answer)).packet.contents)

pub answers_stay : (ask : Ask) (n : ℕ) (e : Endpoint) (draft : Emission) (answers : List Answer) → AreFlushAnswers ask n e draft answers → Stays e (flush_of e draft answers).after
answers_stay _ _ _ _ _ (at_limit ask e draft) = unmoved e
answers_stay _ _ _ _ _ (at_empty ask more e draft answer is empty) = asked_stays ask e draft answer is
answers_stay _ _ _ _ _ (after_packet ask more e draft answer answers is some rest) =
    let after : Endpoint = (asked_outcome e draft answer).after in
    stays_then e after (flush_of after (next_draft e.core draft) answers).after (asked_stays ask e draft answer is)
    (answers_stay later_ask more after (next_draft e.core draft) answers rest)

pub flush_stays : (e : Endpoint) (draft : Emission) (answers : List Answer) → FlushAnswers e draft answers → Stays e (flush_of e draft answers).after
flush_stays e draft answers h = answers_stay first_ask (packets_allowed e.options.max_burst e.core) e draft answers h

pub flush_by_stays : (e : Endpoint) (peer : Option Held) (answers : List Answer) → AnswersTo e peer answers → Stays e (flush_to_peer e peer answers).after
flush_by_stays e None answers h = unmoved e
flush_by_stays e (Some held) answers h = flush_stays e (draft_to held) answers h
