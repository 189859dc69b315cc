-- A sender hears of data that arrived: what a SACK acknowledges stays passed, whatever the turn sends after it.
use Rattle.std.proofs.Common.{◌≡◌, ◌-◌, ◌||◌, ℕ, Bool, true, false, if◌then◌else◌, Option, None, Some, List, [], ◌∷◌, map, refl, sym, ap, ◌∙◌, subst, arith}
use Rattle.std.proofs.lemmas.Bool.Decides.{nat_tests}
use Rattle.dcsctp_spec_lemmas.specs.wire.Content.{SackContent, sack_chunk}
use Rattle.dcsctp_spec_lemmas.specs.types.declared.association.Held.{Held}
use Rattle.dcsctp_spec_lemmas.specs.types.declared.association.Pair.{Pair}
use Rattle.dcsctp_spec_lemmas.specs.types.declared.ends.Violation.{Violation}
use Rattle.dcsctp_spec_lemmas.specs.spec.Packet.{Content, unworked, Emission}
use Rattle.dcsctp_spec_lemmas.specs.spec.association.Choices.{plain_contents}
use Rattle.dcsctp_spec_lemmas.specs.spec.endpoint.BegunResets.{BegunReset, after_begun}
use Rattle.dcsctp_spec_lemmas.specs.spec.endpoint.DataOutcomes.{with_transfer, FastRetransmits, counts_as_probe_answer, shows_peer, sack_taken, TakesSackAndFlushes, HandlesSackIfValid, HandlesSackIfConnected, SackTurn}
use Rattle.dcsctp_spec_lemmas.specs.spec.endpoint.Endpoint.{Endpoint, Core, closed, cookie_wait, cookie_echoed, open_in, OpenPhase, established, shutdown_pending, shutdown_sent, shutdown_received, shutdown_ack_sent, held_by_core}
use Rattle.dcsctp_spec_lemmas.specs.spec.endpoint.Event.{Event}
use Rattle.dcsctp_spec_lemmas.specs.spec.endpoint.FlushOutcomes.{Ask, Answer, answer_contents, filled_draft, filling_event, goes_out, asked_outcome, draft_to, next_draft, flush_of, GivesUnlessIdle, IsAnswerOfQueues, IsFlushAnswer, AreFlushAnswers, at_limit, at_empty, after_packet, first_ask, packets_allowed}
use Rattle.dcsctp_spec_lemmas.specs.spec.endpoint.Outcome.{Outcome}
use Rattle.dcsctp_spec_lemmas.specs.spec.endpoint.PlainOutcomes.{violation_by_core, PlainTurnUnlessViolating}
use Rattle.dcsctp_spec_lemmas.specs.spec.endpoint.ShutdownOutcomes.{may_continue_shutdown, step_if_acknowledged, step_outcome}
use Rattle.dcsctp_spec_lemmas.specs.spec.queues.Acknowledging.{is_sack_valid, has_acknowledged}
use Rattle.dcsctp_spec_lemmas.specs.spec.queues.Outstanding.{OutstandingState, tsn_at, acknowledged_count}
use Rattle.dcsctp_spec_lemmas.specs.spec.queues.Retransmission.{RetransmissionState, outstanding_count, has_fast_retransmit}
use Rattle.dcsctp_spec_lemmas.specs.spec.queues.Transfer.{Transfer, EndpointQueues, is_idle}
use Rattle.dcsctp_theorem_transfer.specs.Deadlines.{IsOpen}
use Rattle.dcsctp_theorem_transfer.specs.Hearing.{AcknowledgesLowest, HasHeard, SenderHears}
use Rattle.dcsctp_theorem_transfer.proofs.Acknowledged.{acknowledges_first, first_passes}
use Rattle.dcsctp_theorem_transfer.proofs.Extending.{Extends, extends_itself, extends_then, gave_extends, resent_extends, timed_same}
use Rattle.dcsctp_theorem_transfer.proofs.Leaving.{sack_leaves}
use Rattle.dcsctp_theorem_transfer.proofs.Taking.{plain_turn}

-- ---- what stays while more is sent

-- All this is still outstanding, and so many errors count.
pub record StillHas (base : OutstandingState) (errors : ℕ) (e : Endpoint) : Type 0 where
  pub left : Transfer
  pub has : e.queues.transfer ≡ Some left
  pub extends : Extends base left.retransmission.outstanding
  pub errors_are : e.error_count ≡ errors

pub out_stays : (base : OutstandingState) (errors : ℕ) (e : Endpoint) (told : List (Event Emission)) (with_checksum : Bool) (tag : ℕ) (contents : List Content) → StillHas base errors e
    → StillHas base errors (goes_out e told with_checksum tag contents).after
out_stays base errors e told with_checksum tag [] h = h
out_stays base errors e told with_checksum tag (content ∷ contents) h = record { left = h.left; has = h.has; extends = h.extends; errors_are = h.errors_are }

begun_errors : (begun : Option BegunReset) (e : Endpoint) → (after_begun begun e).error_count ≡ e.error_count
begun_errors None e = refl
begun_errors (Some begun) e = refl

answered_by : (ask : Ask) (e : Endpoint) (draft : Emission) (answer : Answer) (base : OutstandingState) (errors : ℕ) (found : Option Transfer) (left : Transfer) → e.queues.transfer ≡ found → found ≡ Some left
    → Extends base left.retransmission.outstanding → e.error_count ≡ errors → answer.after.error_count ≡ e.error_count → IsAnswerOfQueues ask e draft answer found → StillHas base errors answer.after
answered_by ask e draft answer base errors None left at has extends counted same is = absurd (cc)
answered_by ask e draft answer base errors (Some t) left at has extends counted same is = go (is_idle e.queues.queue t) is
  where
    go : (b : Bool) → GivesUnlessIdle b ask e draft t answer → StillHas base errors answer.after
    go true nothing =
        record {
          left = left;
          has = ap (λ (a : Answer). a.after.queues.transfer) nothing ∙ at ∙ has;
          extends = extends;
          errors_are = same ∙ counted;
        }
    go false gave =
        record {
          left = record t { retransmission = gave.sent.queue; tracker = gave.tracker };
          has = ap (λ (q : EndpointQueues). q.transfer) gave.below;
          extends = extends_then base t.retransmission.outstanding gave.sent.queue.outstanding
              (subst (λ (x : Transfer). Extends base x.retransmission.outstanding) (let is_it : left ≡ t = cc in is_it) extends) (gave_extends ask e draft t answer gave);
          errors_are = same ∙ counted;
        }

answered : (ask : Ask) (e : Endpoint) (draft : Emission) (answer : Answer) (base : OutstandingState) (errors : ℕ) → StillHas base errors e → IsFlushAnswer ask e draft answer
    → StillHas base errors (asked_outcome e draft answer).after
answered ask e draft answer base errors h is =
    out_stays base errors answer.after (map filling_event answer.told) draft.with_checksum draft.packet.tag (filled_draft draft (answer_contents answer)).packet.contents
    (answered_by ask e draft answer base errors e.queues.transfer h.left refl h.has h.extends h.errors_are (ap (λ (x : Endpoint). x.error_count) is.kept ∙ begun_errors answer.begun e) is.by_transfer)

pub flush_stays : (ask : Ask) (count : ℕ) (e : Endpoint) (draft : Emission) (answers : List Answer) (base : OutstandingState) (errors : ℕ) → StillHas base errors e
    → AreFlushAnswers ask count e draft answers → StillHas base errors (flush_of e draft answers).after
flush_stays _ _ _ _ _ base errors h (at_limit ask e draft) = h
flush_stays _ _ _ _ _ base errors h (at_empty ask more e draft answer is empty) = answered ask e draft answer base errors h is
flush_stays _ _ _ _ _ base errors h (after_packet ask more e draft answer answers is some rest) =
    flush_stays _ more (asked_outcome e draft answer).after (next_draft e.core draft) answers base errors (answered ask e draft answer base errors h is) rest

-- ---- a shutdown under way, and a fast retransmission

record SameQueues (e : Endpoint) (o : Outcome) : Type 0 where
  queues : o.after.queues ≡ e.queues
  errors : o.after.error_count ≡ e.error_count

step_by : (b : Bool) (e : Endpoint) (phase : OpenPhase) (my : Pair) (held : Held) → SameQueues e (step_if_acknowledged b e phase my held)
step_by false e phase my held = record { queues = refl; errors = refl }
step_by true e established my held = record { queues = refl; errors = refl }
step_by true e shutdown_pending my held = record { queues = refl; errors = refl }
step_by true e shutdown_sent my held = record { queues = refl; errors = refl }
step_by true e shutdown_received my held = record { queues = refl; errors = refl }
step_by true e shutdown_ack_sent my held = record { queues = refl; errors = refl }

step_same : (e : Endpoint) (core : Core) → SameQueues e (step_outcome e core)
step_same e closed = record { queues = refl; errors = refl }
step_same e (cookie_wait my) = record { queues = refl; errors = refl }
step_same e (cookie_echoed my held cookie) = record { queues = refl; errors = refl }
step_same e (open_in phase my held) = step_by (may_continue_shutdown e) e phase my held

fast_stays : (b : Bool) (e : Endpoint) (held : Held) (t : Transfer) (o : Outcome) (errors : ℕ) → e.queues.transfer ≡ Some t → e.error_count ≡ errors → FastRetransmits b e held t o
    → StillHas t.retransmission.outstanding errors o.after
fast_stays false e held t o errors has counted turn =
    subst (λ (x : Outcome). StillHas t.retransmission.outstanding errors x.after) (sym turn)
    (record { left = t; has = has; extends = extends_itself t.retransmission.outstanding; errors_are = counted })
fast_stays true e held t o errors has counted turn =
    subst (λ (x : Outcome). StillHas t.retransmission.outstanding errors x.after) (sym turn.is)
    (out_stays t.retransmission.outstanding errors (with_transfer e (record t { retransmission = turn.left })) [] (draft_to held).with_checksum held.peer.tag (plain_contents turn.chunks)
    (record {
      left = record t { retransmission = turn.left };
      has = refl;
      extends = resent_extends _ _ e.queues.queue t.retransmission turn.left turn.tsns turn.sends;
      errors_are = counted;
    }))

-- ---- the turn

taken : (e : Endpoint) (held : Held) (t : Transfer) (sack : SackContent) (o : Outcome) → AcknowledgesLowest e t sack → TakesSackAndFlushes e held t sack o → HasHeard e t sack o.after
taken e held t sack o h turn =
    let heard : Transfer = turn.left in
    let retransmission : heard.retransmission.outstanding ≡ turn.takes.left.outstanding =
    ap (λ (x : Transfer). x.retransmission.outstanding) turn.takes.is ∙ timed_same turn.takes.round_trip (record t { retransmission = turn.takes.left }) in
    let passed : heard.retransmission.outstanding.first_tsn ≡ tsn_at t.retransmission.outstanding (acknowledged_count t.retransmission.outstanding sack.cumulative_tsn_ack) =
    ap (λ (s : OutstandingState). s.first_tsn) retransmission
    ∙ first_passes e.moment sack.cumulative_tsn_ack sack.a_rwnd turn.takes.blocks t.retransmission turn.takes.left turn.takes.acknowledges in
    let shows : has_acknowledged t.retransmission turn.takes.left ≡ true =
    acknowledges_first e.moment sack.cumulative_tsn_ack sack.a_rwnd turn.takes.blocks t.retransmission turn.takes.left h.lowest h.some h.at h.anew turn.takes.acknowledges in
    let acknowledges : has_acknowledged t.retransmission heard.retransmission ≡ true = acknowledged_as t.retransmission heard.retransmission turn.takes.left retransmission ∙ shows in
    let shown : shows_peer e.options t heard ≡ true = ap (λ (b : Bool). b || counts_as_probe_answer e.options heard.retransmission.peer_window) acknowledges in
    let none_count : (sack_taken e t heard).error_count ≡ 0 = ap (λ (b : Bool). if b then 0 else e.error_count) shown in
    let same : SameQueues (sack_taken e t heard) turn.stepped = subst (SameQueues (sack_taken e t heard)) (sym turn.steps) (step_same (sack_taken e t heard) e.core) in
    let fast : StillHas heard.retransmission.outstanding 0 turn.fast.after =
    fast_stays (has_fast_retransmit heard.retransmission) turn.stepped.after held heard turn.fast 0 (ap (λ (q : EndpointQueues). q.transfer) same.queues) (same.errors ∙ none_count) turn.resends in
    let all : StillHas heard.retransmission.outstanding 0 o.after =
    subst (λ (x : Outcome). StillHas heard.retransmission.outstanding 0 x.after) (sym turn.is)
    (flush_stays first_ask (packets_allowed turn.fast.after.options.max_burst turn.fast.after.core) turn.fast.after (draft_to held) turn.answers heard.retransmission.outstanding 0 fast turn.allowed) in
    let leaves : outstanding_count heard.retransmission ≡ outstanding_count t.retransmission - acknowledged_count t.retransmission.outstanding sack.cumulative_tsn_ack =
    sack_leaves e.moment sack t heard turn.takes in
    record {
      heard = heard;
      takes = turn.takes;
      fewer = omega (arith, leaves, h.some, h.sent);
      left = all.left;
      has = all.has;
      passed = all.extends.first ∙ passed;
      errors = all.errors_are;
    }
  where
    acknowledged_as : (old one other : RetransmissionState) → one.outstanding ≡ other.outstanding → has_acknowledged old one ≡ has_acknowledged old other
    acknowledged_as old one other same = rw same refl

valid_by : (b : Bool) (e : Endpoint) (held : Held) (t : Transfer) (sack : SackContent) (o : Outcome) → b ≡ true → AcknowledgesLowest e t sack → HandlesSackIfValid b e held t sack o → HasHeard e t sack o.after
valid_by false e held t sack o valid h turn = absurd (cc)
valid_by true e held t sack o valid h turn = taken e held t sack o h turn

connected_by : (e : Endpoint) (peer : Option Held) (t : Transfer) (sack : SackContent) (o : Outcome) → held_by_core e.core ≡ peer → AcknowledgesLowest e t sack → HandlesSackIfConnected e peer t sack o
    → HasHeard e t sack o.after
connected_by e None t sack o known h turn = absurd (no_peer e.core known h.is_open)
  where
    no_peer : (core : Core) → held_by_core core ≡ None → IsOpen core → ⊥
    no_peer closed nobody is = is
    no_peer (cookie_wait my) nobody is = is
    no_peer (cookie_echoed my held cookie) nobody is = is
    no_peer (open_in phase my held) nobody is = absurd (cc)
connected_by e (Some held) t sack o known h turn =
    let sent = h.sent in
    valid_by (is_sack_valid t.retransmission sack.cumulative_tsn_ack) e held t sack o (grind (arith, nat_tests, sent)) h turn

sack_by : (e : Endpoint) (found : Option Transfer) (t : Transfer) (sack : SackContent) (o : Outcome) → found ≡ Some t → AcknowledgesLowest e t sack → SackTurn e found sack o → HasHeard e t sack o.after
sack_by e None t sack o has h turn = absurd (cc)
sack_by e (Some other) t sack o has h turn =
    connected_by e (held_by_core e.core) t sack o refl h (subst (λ (x : Transfer). HandlesSackIfConnected e (held_by_core e.core) x sack o) (let same : other ≡ t = cc in same) turn)

-- A SACK breaks no protocol.
pub sack_allowed : (core : Core) (sack : SackContent) → violation_by_core core (unworked (sack_chunk sack)) ≡ None
sack_allowed closed sack = refl
sack_allowed (cookie_wait my) sack = refl
sack_allowed (cookie_echoed my held cookie) sack = refl
sack_allowed (open_in phase my held) sack = refl

pub sender_hears : SenderHears
sender_hears e t tag sack turn is h =
    sack_by e e.queues.transfer t sack turn.outcome h.has h
    (subst (λ (violation : Option Violation). PlainTurnUnlessViolating e (unworked (sack_chunk sack)) violation turn.outcome) (sack_allowed e.core sack)
    (plain_turn e tag (unworked (sack_chunk sack)) turn.outcome h.is_open is.comes))
