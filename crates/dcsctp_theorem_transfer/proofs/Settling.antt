-- A flush that may send a packet settles what is owed.
use Rattle.std.proofs.Common.{◌≡◌, ℕ, suc, Bool, true, false, not, Option, None, Some, List, map, refl, sym, ◌∙◌, subst, arith}
use Rattle.std.specs.Prelude.{◌&&◌, ◌||◌}
use Rattle.dcsctp_spec_lemmas.specs.types.declared.options.Options.{Options}
use Rattle.dcsctp_spec_lemmas.specs.types.declared.tracking.AckState.{AckState}
use Rattle.dcsctp_spec_lemmas.specs.types.declared.tracking.AckState.TheVariants.{Idle, BecomingDelayed, Delayed, Immediate}
use Rattle.dcsctp_spec_lemmas.specs.spec.Packet.{Plain, Emission}
use Rattle.dcsctp_spec_lemmas.specs.spec.endpoint.Endpoint.{Endpoint}
use Rattle.dcsctp_spec_lemmas.specs.spec.endpoint.FlushOutcomes.{Ask, first_ask, later_ask, Answer, answer_contents, filled_draft, filling_event, asked_outcome, next_draft, flush_of, packets_allowed, allows_packet, Acknowledges, wants_sack, room_of_draft, GivesUnlessIdle, IsAnswerOfQueues, IsFlushAnswer, AreFlushAnswers, at_limit, at_empty, after_packet, FlushAnswers}
use Rattle.dcsctp_spec_lemmas.specs.spec.endpoint.Timers.{RunningTimer}
use Rattle.dcsctp_spec_lemmas.specs.spec.queues.Retransmission.{can_send}
use Rattle.dcsctp_spec_lemmas.specs.spec.queues.SendQueue.{SendQueueState, has_queued_data}
use Rattle.dcsctp_spec_lemmas.specs.spec.queues.Tracker.{TrackerState, is_sack_due, owes_acknowledgement, is_acknowledgement_due}
use Rattle.dcsctp_spec_lemmas.specs.spec.queues.Transfer.{Transfer, EndpointQueues, is_idle}
use Rattle.dcsctp_spec_runs.specs.Deadlines.{IsRunning}
use Rattle.dcsctp_theorem_transfer.specs.Delaying.{RunsIfDelayed}
use Rattle.dcsctp_theorem_transfer.proofs.Delayed.{IsSettled, DelayingLayer, SettledLayer, gave_owes, timed_owes, sack_owes, restored_owes, taken_owes, end_settled, settled_kept}
use Rattle.dcsctp_theorem_transfer.proofs.Layers.{Keeps, LayerIs, EndpointIs, LeavesIt, flush_steps, goes_out_is, kept_core}
use Rattle.dcsctp_theorem_transfer.proofs.PacketEnds.{allowed_some}

-- ---- what may be owed until a flush

-- Nothing is owed, the timer runs, or a SACK is due.
abbrev pub IsPending : AckState → Option RunningTimer → Type 0
IsPending Idle timer = Unit {0}
IsPending BecomingDelayed timer = ⊥
IsPending Delayed timer = IsRunning timer
IsPending Immediate timer = Unit {0}

abbrev pub PendingLayer : Options → Transfer → Type 0
PendingLayer options t = IsPending t.tracker.acknowledgement t.tracker.delay.running

pending_delays : (state : AckState) (timer : Option RunningTimer) → IsPending state timer → RunsIfDelayed state timer
pending_delays Idle timer h = tt
pending_delays BecomingDelayed timer h = tt
pending_delays Delayed timer h = h
pending_delays Immediate timer h = tt

settled_pending : (state : AckState) (timer : Option RunningTimer) → IsSettled state timer → IsPending state timer
settled_pending Idle timer h = tt
settled_pending BecomingDelayed timer h = h
settled_pending Delayed timer h = h
settled_pending Immediate timer h = tt

pub settled_layer : (options : Options) (t : Transfer) → SettledLayer options t → PendingLayer options t
settled_layer options t h = settled_pending t.tracker.acknowledgement t.tracker.delay.running h

pub pending_kept : Keeps ⊥ (Unit {0}) (Unit {0}) DelayingLayer PendingLayer
pending_kept =
    record {
      weaker = λ options t h. pending_delays t.tracker.acknowledgement t.tracker.delay.running h;
      begins = λ options kinds first peer window. tt;
      changes_peer = λ options now peer window t h. tt;
      restores = λ may options now state t restores. restored_owes IsPending (λ timer. tt) options now state t restores;
      sets_longest = λ options bytes t h. h;
      gives = λ ask e draft t answer h gave. gave_owes IsPending (λ timer. tt) (wants_sack ask e.queues.queue t) (room_of_draft e draft) t gave.tracker gave.sacks h gave.acknowledges;
      resends = λ options now bytes waiting t left tsns h does. h;
      acknowledges = λ options now sack old new h does. sack_owes IsPending (λ timer. tt) now sack old new h does;
      loses = λ options now t h. h;
      receives = λ may options arrival old new h does. absurd may;
      forwards = λ may options tsn entries old new h does. absurd may;
      delays = λ may options t h. tt;
      ends = λ options now t h due. settled_pending _ _ (end_settled now t.tracker t.tracker.acknowledgement refl h due);
      answers = λ options now t h. tt;
      times = λ options round_trip t h. timed_owes IsPending (λ timer. tt) round_trip t h;
      takes = λ options now messages t h. taken_owes IsPending (λ timer. tt) (λ timer. tt) options now messages t h;
      resets = λ options reassembly t h. h;
    }

-- ---- the first packet of a flush

pub right_of : (a b : Bool) → (a && b) ≡ true → b ≡ true
right_of true b is = is
right_of false b is = absurd (cc)

pub left_of : (a b : Bool) → (a && b) ≡ true → a ≡ true
left_of true b is = refl
left_of false b is = absurd (cc)

-- One that is idle owes nothing.
idle_owes : (queue : SendQueueState) (t : Transfer) → is_idle queue t ≡ true → owes_acknowledgement t.tracker ≡ false
idle_owes queue t is = go (owes_acknowledgement t.tracker) (right_of _ (not (owes_acknowledgement t.tracker)) (left_of _ (not (is_acknowledgement_due t.tracker)) is))
  where
    go : (b : Bool) → not b ≡ true → b ≡ false
    go true is = absurd (cc)
    go false is = refl

nothing_settled : (state : AckState) (timer : Option RunningTimer) → is_sack_due state true ≡ false → IsSettled state timer
nothing_settled Idle timer is = tt
nothing_settled BecomingDelayed timer is = absurd (cc)
nothing_settled Delayed timer is = absurd (cc)
nothing_settled Immediate timer is = absurd (cc)

-- A SACK that is due is wanted. Else it is settled as it is.
pending_wants : (state : AckState) (timer : Option RunningTimer) (more : Bool) (wants : Bool) → (is_sack_due state false || more) ≡ wants → IsPending state timer → wants ≡ false → IsSettled state timer
pending_wants Idle timer more wants is h none = tt
pending_wants BecomingDelayed timer more wants is h none = absurd h
pending_wants Delayed timer more wants is h none = h
pending_wants Immediate timer more wants is h none = absurd (let both : true ≡ false = is ∙ none in cc)

gave_settled : (wants : Bool) (room : ℕ) (t : Transfer) (after : TrackerState) (chunks : List Plain) → (wants ≡ false → IsSettled t.tracker.acknowledgement t.tracker.delay.running)
    → Acknowledges wants room t after chunks → IsSettled after.acknowledgement after.delay.running
gave_settled false room t after chunks h does = subst (λ (x : TrackerState). IsSettled x.acknowledgement x.delay.running) (sym does.0) (h refl)
gave_settled true room t after chunks h does = subst (λ (x : TrackerState). IsSettled x.acknowledgement x.delay.running) (sym does.0) tt

first_settles : (e : Endpoint) (draft : Emission) (answer : Answer) (found : Option Transfer) → LayerIs PendingLayer e.core e.options found → IsAnswerOfQueues first_ask e draft answer found
    → e.queues.transfer ≡ found → LayerIs SettledLayer e.core e.options answer.after.queues.transfer
first_settles e draft answer None h is at =
    subst (λ (a : Answer). LayerIs SettledLayer e.core e.options a.after.queues.transfer) (sym is) (subst (LayerIs SettledLayer e.core e.options) (sym at) tt)
first_settles e draft answer (Some t) h is at = go (is_idle e.queues.queue t) refl is
  where
    go : (b : Bool) → is_idle e.queues.queue t ≡ b → GivesUnlessIdle b first_ask e draft t answer → LayerIs SettledLayer e.core e.options answer.after.queues.transfer
    go true idle same =
        subst (λ (a : Answer). LayerIs SettledLayer e.core e.options a.after.queues.transfer) (sym same)
        (subst (LayerIs SettledLayer e.core e.options) (sym at) (h.0, nothing_settled t.tracker.acknowledgement t.tracker.delay.running (idle_owes e.queues.queue t idle)))
    go false idle gave =
        subst (λ (q : EndpointQueues). LayerIs SettledLayer e.core e.options q.transfer) (sym gave.below) (
          h.0,
          gave_settled (wants_sack first_ask e.queues.queue t) (room_of_draft e draft) t gave.tracker gave.sacks
              (pending_wants t.tracker.acknowledgement t.tracker.delay.running (owes_acknowledgement t.tracker && (has_queued_data e.queues.queue || can_send t.retransmission)) (wants_sack first_ask e.queues.queue t) refl h.1)
              gave.acknowledges,
        )

answer_settles : (e : Endpoint) (draft : Emission) (answer : Answer) → EndpointIs PendingLayer e → IsFlushAnswer first_ask e draft answer → EndpointIs SettledLayer answer.after
answer_settles e draft answer h is = kept_core SettledLayer first_ask e draft answer is (first_settles e draft answer e.queues.transfer h is.by_transfer refl)

asked_settles : (e : Endpoint) (draft : Emission) (answer : Answer) → EndpointIs PendingLayer e → IsFlushAnswer first_ask e draft answer → LeavesIt SettledLayer (asked_outcome e draft answer)
asked_settles e draft answer h is =
    goes_out_is ⊥ ⊥ (Unit {0}) DelayingLayer SettledLayer settled_kept answer.after (map filling_event answer.told) draft.with_checksum draft.packet.tag
    (filled_draft draft (answer_contents answer)).packet.contents (answer_settles e draft answer h is)

steps_settle : (ask : Ask) (n count : ℕ) (e : Endpoint) (draft : Emission) (answers : List Answer) → ask ≡ first_ask → n ≡ suc count → EndpointIs PendingLayer e
    → AreFlushAnswers ask n e draft answers → LeavesIt SettledLayer (flush_of e draft answers)
steps_settle _ _ count _ _ _ first some h (at_limit ask e draft) = absurd (omega (arith, some))
steps_settle _ _ count _ _ _ first some h (at_empty ask more e draft answer is empty) =
    asked_settles e draft answer h (subst (λ (a : Ask). IsFlushAnswer a e draft answer) first is)
steps_settle _ _ count _ _ _ first some h (after_packet ask more e draft answer answers is sends rest) =
    flush_steps ⊥ ⊥ (Unit {0}) DelayingLayer SettledLayer settled_kept later_ask more (asked_outcome e draft answer).after (next_draft e.core draft) answers
    (asked_settles e draft answer h (subst (λ (a : Ask). IsFlushAnswer a e draft answer) first is)) rest

pub flush_settles : (e : Endpoint) (draft : Emission) (answers : List Answer) → allows_packet e.options.max_burst ≡ true → FlushAnswers e draft answers → EndpointIs PendingLayer e
    → LeavesIt SettledLayer (flush_of e draft answers)
flush_settles e draft answers allows allowed h =
    let some = allowed_some e.options.max_burst e.core allows in
    steps_settle first_ask (packets_allowed e.options.max_burst e.core) some.0 e draft answers refl some.1 h allowed
