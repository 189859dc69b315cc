-- A socket that has had no association has begun no message.
use Rattle.std.proofs.Common.{◌≡◌, ◌==◌, ℕ, Bool, true, false, ◌%◌, ◌^◌, Option, None, Some, List, [], ◌∷◌, map, refl, sym, ◌∙◌, ap, subst, inl, inr}
use Rattle.std.specs.Prelude.{is_some, nat_lt, if◌then◌else◌}
use Rattle.dcsctp_spec_lemmas.specs.types.declared.sending.Pause.TheVariants.{Open}
use Rattle.dcsctp_spec_lemmas.specs.types.queues.SendStreams.{Stream, unused_stream, next_numbers, with_message, stream_put_back, renumbered_stream}
use Rattle.dcsctp_spec_lemmas.specs.types.Setting.{Setting, stream_priority, stream_low_threshold, longest_message}
use Rattle.dcsctp_spec_lemmas.specs.spec.Packet.{Content}
use Rattle.dcsctp_spec_lemmas.specs.spec.association.Effect.{identity_of_core}
use Rattle.dcsctp_spec_lemmas.specs.spec.endpoint.Endpoint.{Endpoint, Core, closed, cookie_wait, cookie_echoed, open_in, OutstandingRequest, held_by_core}
use Rattle.dcsctp_spec_lemmas.specs.spec.endpoint.Event.{packets_of_events}
use Rattle.dcsctp_spec_lemmas.specs.spec.endpoint.FlushOutcomes.{first_ask, packets_allowed}
use Rattle.dcsctp_spec_lemmas.specs.spec.endpoint.MessageOutcomes.{Sending, sending_queued}
use Rattle.dcsctp_spec_lemmas.specs.spec.endpoint.Outcome.{Outcome}
use Rattle.dcsctp_spec_lemmas.specs.spec.endpoint.PreparedResets.{refusal_of_peer}
use Rattle.dcsctp_spec_lemmas.specs.spec.endpoint.SettingOutcomes.{set_in_queue}
use Rattle.dcsctp_spec_lemmas.specs.spec.endpoint.Turn.{Input}
use Rattle.dcsctp_spec_lemmas.specs.spec.queues.OwnResets.{is_open_pause}
use Rattle.dcsctp_spec_lemmas.specs.spec.queues.SendQueue.{SendQueueState, stream_changed, with_stream, is_used, used_streams, queued_message as waiting_as, with_priority, with_threshold, put_back, queue_restarted, numbered_for}
use Rattle.dcsctp_spec_lemmas.specs.spec.queues.Transfer.{Transfer, EndpointQueues}
use Rattle.dcsctp_delivery_directions.specs.sending.Numbers.{stream_named}
use Rattle.dcsctp_delivery_directions.proofs.sending.StreamsNamed.{found_mapped, found_used}
use Rattle.dcsctp_delivery_directions.specs.directions.Directions.{BeginsAtZero}
use Rattle.dcsctp_delivery_directions.specs.sending.Log.{Message}
use Rattle.dcsctp_delivery_directions.specs.sending.Losing.{IsOpenOn, AllWaitOn}
use Rattle.dcsctp_delivery_directions.proofs.sending.StillWaiting.{waits_mapped}
use Rattle.dcsctp_delivery_sockets.specs.turns.Asking.{Own, own_of_core, own_of, AsksFit}
use Rattle.dcsctp_delivery_sockets.specs.turns.Actions.{Ledger, Action, queues, sets, flushes, resends, resends_nothing, speaks, asks_again, acknowledges, loses, receives, receives_interleaved, forwards, forwards_interleaved, tracks, times, takes, Actions, nothing, further, content_of_input, peer_tag, queued_after, read_after, Inside, inside, MakesAlso, OwnEnds, unended, committed, rolled_back, PeerResets, unreset, absent, deferred, reset_now, BeginsAssociation, Becomes, streams_user_resets, goes_on, pauses, works_resets, renews, ends, begins, collides}
use Rattle.dcsctp_delivery_sockets.specs.turns.Unbegun.{IsAtZero, UnbegunTurns, stays_unbegun, begins_first, StaysWaiting, StaysAtZero, UnbegunBeginsAtZero, UnbegunBeginsWaiting, FreshIsAtZero}
use Rattle.dcsctp_delivery_sockets.proofs.turns.Beginnings.{unlinked_fits}
use Rattle.dcsctp_delivery_sockets.proofs.turns.Rests.{AreIdle, restarted_idle, named_idle, numbered_idle}
use Rattle.dcsctp_delivery_sockets.proofs.turns.IdleFlush.{flush_still}
use Rattle.dcsctp_delivery_sockets.proofs.turns.Turns.{turns_are_actions}
use Rattle.dcsctp_delivery_sockets.proofs.turns.UnbegunOn.{WaitsOnStream, all_on_stream, actions_wait_on}

-- ---- streams whose next numbers stay

-- the next message has the same numbers, and the stream is to be reset, or isn't, as before
record SameNext (old new : Stream) : Type 0 where
  ordered : next_numbers false new ≡ next_numbers false old
  unordered : next_numbers true new ≡ next_numbers true old
  pause : new.pause ≡ old.pause

same_next : (s : Stream) → SameNext s s
same_next s = record { ordered = refl; unordered = refl; pause = refl }

-- So it is with the stream of each number.
abbrev NextStay : List Stream → List Stream → Type 0
NextStay old new = (id : ℕ) → SameNext (stream_named id old) (stream_named id new)

next_then : (old between new : List Stream) → NextStay old between → NextStay between new → NextStay old new
next_then old between new first second id = record { ordered = (second id).ordered ∙ (first id).ordered; unordered = (second id).unordered ∙ (first id).unordered; pause = (second id).pause ∙ (first id).pause }

-- one stream is changed
next_changed : (other : ℕ) (f : Stream → Stream) → ((s : Stream) → (f s).id ≡ s.id) → ((s : Stream) → SameNext s (f s)) → (streams : List Stream) → NextStay streams (stream_changed other f streams)
next_changed other f same each streams id =
    found_mapped SameNext id (unused_stream 0 0 0) (λ s. if s.id == other then f s else s) (λ s. one_id (s.id == other) s) (same_next (unused_stream 0 0 0)) (λ s is. one_next (s.id == other) s) streams
  where
    one_id : (b : Bool) (s : Stream) → (if b then f s else s).id ≡ s.id
    one_id true s = same s
    one_id false s = refl

    one_next : (b : Bool) (s : Stream) → SameNext s (if b then f s else s)
    one_next true s = each s
    one_next false s = same_next s

-- one is used for the first time
next_used : (queue : SendQueueState) (other : ℕ) → NextStay queue.streams (used_streams queue other)
next_used queue other id = found_used SameNext id queue other same_next (λ s t are. record { ordered = sym are.ordered; unordered = sym are.unordered; pause = are.pause })

-- one is used, and changed
next_set : (queue : SendQueueState) (other : ℕ) (f : Stream → Stream) → ((s : Stream) → (f s).id ≡ s.id) → ((s : Stream) → SameNext s (f s)) → NextStay queue.streams (stream_changed other f (used_streams queue other))
next_set queue other f same each =
    next_then queue.streams (used_streams queue other) (stream_changed other f (used_streams queue other)) (next_used queue other) (next_changed other f same each (used_streams queue other))

-- ---- queues that stay at 0

zero_stays : (old new : SendQueueState) → (AreIdle old.streams → AreIdle new.streams) → NextStay old.streams new.streams → IsAtZero old → IsAtZero new
zero_stays old new idle stay zero =
    record {
      idle = idle zero.idle;
      ordered = λ id. (stay id).ordered ∙ zero.ordered id;
      unordered = λ id. (stay id).unordered ∙ zero.unordered id;
      unpaused = λ id. ap is_open_pause (stay id).pause ∙ zero.unpaused id;
    }

-- one stream is used, and changed
idle_changed : (other : ℕ) (f : Stream → Stream) → ((s : Stream) → (f s).under_way ≡ s.under_way) → (streams : List Stream) → AreIdle streams → AreIdle (stream_changed other f streams)
idle_changed other f keeps [] idle = tt
idle_changed other f keeps (s ∷ streams) idle = (one (s.id == other), idle_changed other f keeps streams idle.1)
  where
    one : (b : Bool) → (if b then f s else s).under_way ≡ None
    one true = keeps s ∙ idle.0
    one false = idle.0

idle_added : (other priority threshold : ℕ) (streams : List Stream) → AreIdle streams → AreIdle (with_stream (unused_stream other priority threshold) streams)
idle_added other priority threshold [] idle = (refl, tt)
idle_added other priority threshold (s ∷ streams) idle = go (nat_lt s.id other) (idle_added other priority threshold streams idle.1)
  where
    go : (b : Bool) → AreIdle (with_stream (unused_stream other priority threshold) streams) → AreIdle (if b then s ∷ with_stream (unused_stream other priority threshold) streams else unused_stream other priority threshold ∷ s ∷ streams)
    go true rest = (idle.0, rest)
    go false rest = (refl, (idle.0, idle.1))

idle_used : (queue : SendQueueState) (other : ℕ) → AreIdle queue.streams → AreIdle (used_streams queue other)
idle_used queue other idle = go (is_used other queue.streams)
  where
    go : (b : Bool) → AreIdle (if b then queue.streams else with_stream (unused_stream other queue.default_priority queue.default_threshold) queue.streams)
    go true = idle
    go false = idle_added other queue.default_priority queue.default_threshold queue.streams idle

idle_set : (queue : SendQueueState) (other : ℕ) (f : Stream → Stream) → ((s : Stream) → (f s).under_way ≡ s.under_way) → AreIdle queue.streams → AreIdle (stream_changed other f (used_streams queue other))
idle_set queue other f keeps idle = idle_changed other f keeps (used_streams queue other) (idle_used queue other idle)

zero_queued : (now : ℕ) (sending : Sending) (queue : SendQueueState) → IsAtZero queue → IsAtZero (sending_queued now sending queue)
zero_queued now sending queue =
    zero_stays queue (sending_queued now sending queue) (idle_set queue sending.message.stream (with_message (waiting_as now sending.message sending.options queue)) (λ s. refl))
    (next_set queue sending.message.stream (with_message (waiting_as now sending.message sending.options queue)) (λ s. refl) (λ s. record { ordered = refl; unordered = refl; pause = refl }))

zero_set : (setting : Setting) (queue : SendQueueState) → IsAtZero queue → IsAtZero (set_in_queue setting queue)
zero_set (stream_priority id priority) queue =
    zero_stays queue (set_in_queue (stream_priority id priority) queue) (idle_set queue id (with_priority priority) (λ s. refl))
    (next_set queue id (with_priority priority) (λ s. refl) (λ s. record { ordered = refl; unordered = refl; pause = refl }))
zero_set (stream_low_threshold id bytes) queue =
    zero_stays queue (set_in_queue (stream_low_threshold id bytes) queue) (idle_set queue id (with_threshold bytes) (λ s. refl))
    (next_set queue id (with_threshold bytes) (λ s. refl) (λ s. record { ordered = refl; unordered = refl; pause = refl }))
zero_set (longest_message bytes) queue = λ zero. zero

-- ---- actions without an association

-- There is no transfer layer, and the queue is at 0.
record IsUnbegun (below : EndpointQueues) : Type 0 where
  none : below.transfer ≡ None
  zero : IsAtZero below.queue

clash : {A : Type 0} (below : EndpointQueues) (transfer : Transfer) → below.transfer ≡ Some transfer → IsUnbegun below → A
clash below transfer known unbegun = absurd (let both : Some transfer ≡ None = sym known ∙ unbegun.none in cc)

action_unbegun : (came : Option Content) (to : ℕ) (old new : Ledger) → Action came to old new → IsUnbegun old.queues → IsUnbegun new.queues
action_unbegun came to old _ (queues now sending fit some) u = record { none = u.none; zero = zero_queued now sending old.queues.queue u.zero }
action_unbegun came to old _ (sets setting small) u = record { none = u.none; zero = zero_set setting old.queues.queue u.zero }
action_unbegun came to old _ (flushes e draft answers same at tag no_data no_end stale says allowed) u =
    subst IsUnbegun (sym (flush_still first_ask (packets_allowed e.options.max_burst e.core) e draft answers (ap (λ (b : EndpointQueues). b.transfer) same ∙ u.none) allowed ∙ same)) u
action_unbegun came to old _ (resends now room transfer left tsns chunks emission tag known does are contents) u = clash old.queues transfer known u
action_unbegun came to old _ (resends_nothing now room transfer left tsns known does) u = clash old.queues transfer known u
action_unbegun came to old _ (speaks emission no_data stale says) u = u
action_unbegun came to old _ (asks_again emission begun tag was contents) u = u
action_unbegun came to old _ (acknowledges now sack transfer new may known valid does) u = clash old.queues transfer known u
action_unbegun came to old _ (loses now transfer known) u = clash old.queues transfer known u
action_unbegun came to old _ (receives chunk transfer new is some known does) u = clash old.queues transfer known u
action_unbegun came to old _ (receives_interleaved chunk transfer new is some known does) u = clash old.queues transfer known u
action_unbegun came to old _ (forwards tsn streams transfer new is known does) u = clash old.queues transfer known u
action_unbegun came to old _ (forwards_interleaved tsn streams transfer new is known does) u = clash old.queues transfer known u
action_unbegun came to old _ (tracks transfer tracked known cumulative ranges) u = clash old.queues transfer known u
action_unbegun came to old _ (times round_trip transfer known) u = clash old.queues transfer known u
action_unbegun came to old _ (takes transfer message messages known ready) u = clash old.queues transfer known u

actions_unbegun : (came : Option Content) (to : ℕ) (old new : Ledger) → Actions came to old new → IsUnbegun old.queues → IsUnbegun new.queues
actions_unbegun came to old _ nothing u = u
actions_unbegun came to old _ (further between new first last) u = action_unbegun came to between new last (actions_unbegun came to old between first u)

-- ---- turns

-- Without an association no request of our own is kept.
own_none : (core : Core) (request : Option OutstandingRequest) → identity_of_core core ≡ None → own_of_core core request ≡ None
own_none closed request none = refl
own_none (cookie_wait my) request none = refl
own_none (cookie_echoed my held cookie) request none = absurd (cc)
own_none (open_in phase my held) request none = absurd (cc)

-- A call that resets streams is refused then.
some_peer : (core : Core) → refusal_of_peer (held_by_core core) ≡ None → identity_of_core core ≡ None → ⊥
some_peer closed is none = cc
some_peer (cookie_wait my) is none = cc
some_peer (cookie_echoed my held cookie) is none = cc
some_peer (open_in phase my held) is none = cc

module _ (e : Endpoint) (input : Input) (o : Outcome) (unlinked : identity_of_core e.core ≡ None) (none : e.queues.transfer ≡ None) (zero : IsAtZero e.queues.queue) where
  start : IsUnbegun e.queues
  start = record { none = none; zero = zero }

  own_is : own_of e ≡ None
  own_is = own_none e.core e.outstanding unlinked

  abbrev Makes : Inside → Inside → Type 0
  Makes old last = MakesAlso (content_of_input input) (peer_tag e.core) (queued_after e input) (read_after e input) old (packets_of_events o.events) last

  -- what is made of such a queue is one
  makes_from : (old last : Inside) → IsUnbegun old.queues → old.own ≡ own_of e → Makes old last → IsUnbegun last.queues
  makes_from old last u is makes =
      let first = unlinked_fits e.core e.outstanding unlinked in
      let made = makes [] [] [] first.first first.asking (subst (λ (own : Option Own). AsksFit first.first own first.asking) (sym is) first.fits) in
      actions_unbegun (content_of_input input) (peer_tag e.core) _ _ made.actions u

  makes_unbegun : (old last : Inside) → old ≡ inside e → Makes old last → IsUnbegun last.queues
  makes_unbegun old last is makes = makes_from old last (subst (λ (i : Inside). IsUnbegun i.queues) (sym is) start) (ap (λ (i : Inside). i.own) is) makes

  -- and all that was queued on a stream still waits
  waits_from : (old last : Inside) → old.own ≡ own_of e → Makes old last → (id : ℕ) (queued : List Message) → WaitsOnStream id queued old.queues → WaitsOnStream id (queued_after e input queued) last.queues
  waits_from old last is makes id queued w =
      let first = unlinked_fits e.core e.outstanding unlinked in
      let made = makes queued [] [] first.first first.asking (subst (λ (own : Option Own). AsksFit first.first own first.asking) (sym is) first.fits) in
      actions_wait_on id (content_of_input input) (peer_tag e.core) _ _ made.actions w

  stays_waiting : (old last : Inside) → old ≡ inside e → Makes old last → last.queues.queue ≡ o.after.queues.queue → StaysWaiting e input o
  stays_waiting old last is makes same id queued waits few all =
      let w = waits_from old last (ap (λ (i : Inside). i.own) is) makes id queued (subst (λ (i : Inside). WaitsOnStream id queued i.queues) (sym is) (all_on_stream id queued e.queues none waits all)) in
      subst (λ (q : SendQueueState). AllWaitOn id (queued_after e input queued) q.streams) same (w.all few)

  -- no request of our own has ended
  own_stays : (old between : Inside) → old.own ≡ None → OwnEnds o.effects old between → between ≡ old
  own_stays old _ none unended = refl
  own_stays old _ none (committed completed own is) = absurd (let both : Some own ≡ None = sym is ∙ none in cc)
  own_stays old _ none (rolled_back refused own is) = absurd (let both : Some own ≡ None = sym is ∙ none in cc)

  -- and none of the peer is performed
  peer_stays : (between worked : Inside) → IsUnbegun between.queues → PeerResets (content_of_input input) o.effects between worked → worked ≡ between
  peer_stays between _ u (unreset has_not) = refl
  peer_stays between _ u (absent none) = refl
  peer_stays between _ u (deferred has_not parameters reset came_is wants transfer known) = clash between.queues transfer known u
  peer_stays between _ u (reset_now has parameters reset came requested transfer reassembly known reached does) = clash between.queues transfer known u

  unbegun_becomes : Becomes (streams_user_resets input) (content_of_input input) (peer_tag e.core) (queued_after e input) (read_after e input) e o → UnbegunTurns e input o
  unbegun_becomes (goes_on calm same makes) =
      let left = makes_unbegun (inside e) (inside o.after) refl makes in
      stays_unbegun (same ∙ unlinked) left.none left.zero (stays_waiting (inside e) (inside o.after) refl makes refl)
  unbegun_becomes (pauses ids resets calm accepted same small makes) = absurd (some_peer e.core accepted unlinked)
  unbegun_becomes (works_resets same between worked own peer makes) =
      let first : between ≡ inside e = own_stays (inside e) between own_is own in
      let second : worked ≡ between = peer_stays between worked (subst (λ (i : Inside). IsUnbegun i.queues) (sym first) start) peer in
      let left = makes_unbegun worked (inside o.after) (second ∙ first) makes in
      stays_unbegun (same ∙ unlinked) left.none left.zero (stays_waiting worked (inside o.after) (second ∙ first) makes refl)
  unbegun_becomes (renews calm same alike unread own number emission is of left packets tag contents) = absurd (let both : Some own ≡ None = sym is ∙ own_is in cc)
  unbegun_becomes (ends none' unread silent last kept makes is) =
      let left = makes_unbegun (inside e) last refl makes in
      stays_unbegun none' (ap (λ (b : EndpointQueues). b.transfer) is) (subst (λ (b : EndpointQueues). IsAtZero b.queue) (sym is) left.zero)
      (stays_waiting (inside e) last refl makes (ap (λ (b : EndpointQueues). b.queue) (sym is)))
  unbegun_becomes (begins begun opening linked alike unread again makes) = begins_first begun opening linked
  unbegun_becomes (collides collision alike unread again makes) = absurd (let both : Some collision.old ≡ None = sym collision.was ∙ unlinked in cc)

pub stays_at_zero : StaysAtZero
stays_at_zero e input o unlinked none zero may turn =
    unbegun_becomes e input o unlinked none zero (turns_are_actions e input o may turn)

-- ---- the queue of an association that begins

pub fresh_is_at_zero : FreshIsAtZero
fresh_is_at_zero options = record { idle = tt; ordered = λ id. refl; unordered = λ id. refl; unpaused = λ id. refl }

-- How messages are numbered may change.
zero_numbered : (enabled : Bool) (window : ℕ) (queue : SendQueueState) → IsAtZero queue → IsAtZero (numbered_for enabled window queue)
zero_numbered enabled window queue zero = subst IsAtZero (sym (numbered_idle enabled window queue zero.idle)) (record { idle = zero.idle; ordered = zero.ordered; unordered = zero.unordered; unpaused = zero.unpaused })

-- The numbers may start again, and then no stream is to be reset.
StartsAgain : Stream → Stream → Type 0
StartsAgain old new = (next_numbers false new ≡ (0, 0)) × (next_numbers true new ≡ (0, 0)) × (new.pause ≡ Open)

zero_restarted : (queue : SendQueueState) → IsAtZero (queue_restarted queue)
unfolding StartsAgain
zero_restarted queue = record { idle = restarted_idle queue; ordered = λ id. (again id).0; unordered = λ id. (again id).1; unpaused = λ id. ap is_open_pause (again id).2 }
  where
    again : (id : ℕ) → StartsAgain (stream_named id (put_back queue).streams) (stream_named id (queue_restarted queue).streams)
    again id = found_mapped StartsAgain id (unused_stream 0 0 0) renumbered_stream (λ s. refl) (refl, refl, refl) (λ s is. (refl, refl, refl)) (put_back queue).streams

-- Either way its queue is at 0.
pub begun_is_at_zero : (e : Endpoint) (o : Outcome) (begun : BeginsAssociation e o) → IsAtZero e.queues.queue → IsAtZero begun.queue
begun_is_at_zero e o begun zero =
    elim begun.keeps [
      | inl is ↦ subst IsAtZero (sym is.0) (zero_numbered begun.held.capabilities.message_interleaving begun.window e.queues.queue zero)
      | inr is ↦ subst IsAtZero (sym is) (zero_numbered begun.held.capabilities.message_interleaving begun.window (queue_restarted e.queues.queue) (zero_restarted e.queues.queue))
    ]

-- Such a queue begins with number 0 on each stream.
pub zero_begins : (queue : SendQueueState) → IsAtZero queue → BeginsAtZero queue
zero_begins queue zero =
    record {
      rest = λ id waiting some. absurd (let clash : false ≡ true = sym (ap is_some (named_idle id queue.streams zero.idle)) ∙ some in cc);
      zero = λ id. ap (λ (p : ℕ × ℕ). p.1 % 2 ^ 32) (zero.ordered id);
      ssn = λ id. ap (λ (p : ℕ × ℕ). p.0) (zero.ordered id);
      unpaused = zero.unpaused;
    }

pub unbegun_begins_at_zero : UnbegunBeginsAtZero
unbegun_begins_at_zero e o begun zero = zero_begins begun.queue (begun_is_at_zero e o begun zero)

-- ---- what waits is kept

module _ (id : ℕ) (queued : List Message) where
  all_numbered : (enabled : Bool) (window : ℕ) (queue : SendQueueState) → IsAtZero queue → AllWaitOn id queued queue.streams → AllWaitOn id queued (numbered_for enabled window queue).streams
  all_numbered enabled window queue zero all =
      subst (λ (q : SendQueueState). AllWaitOn id queued q.streams) (sym (numbered_idle enabled window queue zero.idle)) all

  restarted_open : (streams : List Stream) → IsOpenOn id (map renumbered_stream streams)
  restarted_open [] = tt
  restarted_open (stream ∷ streams) = (λ on. refl, restarted_open streams)

  all_restarted : (queue : SendQueueState) → AllWaitOn id queued queue.streams → AllWaitOn id queued (queue_restarted queue).streams
  all_restarted queue all =
      record {
        waits = λ place message at on.
            waits_mapped renumbered_stream (λ s w has. has) (map stream_put_back queue.streams) place (waits_mapped stream_put_back (λ s w has. has) queue.streams place (all.waits place message at on));
        unpaused = restarted_open (map stream_put_back queue.streams);
      }

pub unbegun_begins_waiting : UnbegunBeginsWaiting
unbegun_begins_waiting e o begun id queued zero all =
    elim begun.keeps [
      | inl is ↦
          subst (λ (q : SendQueueState). AllWaitOn id queued q.streams) (sym is.0)
          (all_numbered id queued begun.held.capabilities.message_interleaving begun.window e.queues.queue zero all)
      | inr is ↦
          subst (λ (q : SendQueueState). AllWaitOn id queued q.streams) (sym is)
          (all_numbered id queued begun.held.capabilities.message_interleaving begun.window (queue_restarted e.queues.queue) (zero_restarted e.queues.queue) (all_restarted id queued e.queues.queue all))
    ]
