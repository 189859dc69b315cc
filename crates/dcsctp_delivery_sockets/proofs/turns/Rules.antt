-- No turn changes whether streams of equal priority take turns.
use Rattle.std.proofs.Common.{◌≡◌, ℕ, Bool, true, false, Option, List, [], ◌∷◌, refl, sym, ◌∙◌, ap, inl, inr}
use Rattle.std.specs.Prelude.{if◌then◌else◌}
use Rattle.dcsctp_spec_lemmas.specs.types.Setting.{Setting, stream_priority, stream_low_threshold, longest_message}
use Rattle.dcsctp_spec_lemmas.specs.spec.Packet.{Content}
use Rattle.dcsctp_spec_lemmas.specs.spec.endpoint.Endpoint.{Endpoint}
use Rattle.dcsctp_spec_lemmas.specs.spec.endpoint.Event.{packets_of_events}
use Rattle.dcsctp_spec_lemmas.specs.spec.endpoint.FlushOutcomes.{first_ask, packets_allowed}
use Rattle.dcsctp_spec_lemmas.specs.spec.endpoint.Outcome.{Outcome}
use Rattle.dcsctp_spec_lemmas.specs.spec.endpoint.SettingOutcomes.{set_in_queue}
use Rattle.dcsctp_spec_lemmas.specs.spec.endpoint.Turn.{Input}
use Rattle.dcsctp_spec_lemmas.specs.spec.queues.OwnResets.{is_open_pause, with_used, prepared_open, queue_with_prepared, prepared_all}
use Rattle.dcsctp_spec_lemmas.specs.spec.queues.SendQueue.{SendQueueState, queue_stream}
use Rattle.dcsctp_spec_lemmas.specs.spec.queues.Transfer.{EndpointQueues}
use Rattle.dcsctp_delivery_directions.proofs.sending.NextIdentifiers.{flush_turns}
use Rattle.dcsctp_delivery_sockets.specs.turns.Asking.{own_of, SomeFit}
use Rattle.dcsctp_delivery_sockets.specs.turns.Actions.{Ledger, Action, queues, sets, flushes, resends, resends_nothing, speaks, asks_again, acknowledges, loses, receives, receives_interleaved, forwards, forwards_interleaved, tracks, times, takes, Actions, nothing, further, content_of_input, peer_tag, queued_after, read_after, Inside, inside, MakesAlso, OwnEnds, unended, committed, rolled_back, PeerResets, unreset, absent, deferred, reset_now, BeginsAssociation, Becomes, streams_user_resets, goes_on, pauses, works_resets, renews, ends, begins, collides}
use Rattle.dcsctp_delivery_sockets.specs.turns.Rules.{FreshTakesTurns, TurnsStayByOption}
use Rattle.dcsctp_delivery_sockets.specs.turns.Runs.{OpensSmall}
use Rattle.dcsctp_delivery_sockets.proofs.turns.Beginnings.{nothing_fits, worked_fits}
use Rattle.dcsctp_delivery_sockets.proofs.turns.Outlasts.{other_begun}
use Rattle.dcsctp_delivery_sockets.proofs.turns.Turns.{turns_are_actions}

pub fresh_takes_turns : FreshTakesTurns
fresh_takes_turns options = refl

-- ---- what a queue keeps

abbrev Keeps : SendQueueState → SendQueueState → Type 0
Keeps old new = new.takes_turns ≡ old.takes_turns

set_keeps : (setting : Setting) (queue : SendQueueState) → Keeps queue (set_in_queue setting queue)
set_keeps (stream_priority id priority) queue = refl
set_keeps (stream_low_threshold id bytes) queue = refl
set_keeps (longest_message bytes) queue = refl

prepared_keeps : (ids : List ℕ) (queue : SendQueueState) → Keeps queue (prepared_all ids queue)
prepared_keeps [] queue = refl
prepared_keeps (id ∷ ids) queue = prepared_keeps ids (queue_with_prepared id queue) ∙ go (is_open_pause (queue_stream (with_used id queue) id).pause)
  where
    go : (b : Bool) → Keeps queue (if b then prepared_open id (with_used id queue) else with_used id queue)
    go true = refl
    go false = refl

-- ---- actions

action_keeps : (came : Option Content) (to : ℕ) (old new : Ledger) → Action came to old new → Keeps old.queues.queue new.queues.queue
action_keeps came to old _ (queues now sending fit some) = refl
action_keeps came to old _ (sets setting small) = set_keeps setting old.queues.queue
action_keeps came to old _ (flushes e draft answers same at tag no_data no_end stale says allowed) =
    flush_turns first_ask (packets_allowed e.options.max_burst e.core) e draft answers allowed ∙ ap (λ (b : EndpointQueues). b.queue.takes_turns) same
action_keeps came to old _ (resends now room transfer left tsns chunks emission tag known does are contents) = refl
action_keeps came to old _ (resends_nothing now room transfer left tsns known does) = refl
action_keeps came to old _ (speaks emission no_data stale says) = refl
action_keeps came to old _ (asks_again emission begun tag was contents) = refl
action_keeps came to old _ (acknowledges now sack transfer new may known valid does) = refl
action_keeps came to old _ (loses now transfer known) = refl
action_keeps came to old _ (receives chunk transfer new is some known does) = refl
action_keeps came to old _ (receives_interleaved chunk transfer new is some known does) = refl
action_keeps came to old _ (forwards tsn streams transfer new is known does) = refl
action_keeps came to old _ (forwards_interleaved tsn streams transfer new is known does) = refl
action_keeps came to old _ (tracks transfer tracked known cumulative ranges) = refl
action_keeps came to old _ (times round_trip transfer known) = refl
action_keeps came to old _ (takes transfer message messages known ready) = refl

actions_keep : (came : Option Content) (to : ℕ) (old new : Ledger) → Actions came to old new → Keeps old.queues.queue new.queues.queue
actions_keep came to old _ nothing = refl
actions_keep came to old _ (further between new first last) = action_keeps came to between new last ∙ actions_keep came to old between first

-- ---- a turn

begun_keeps : (e : Endpoint) (o : Outcome) (begun : BeginsAssociation e o) → Keeps e.queues.queue begun.queue
begun_keeps e o begun = elim begun.keeps [ inl is ↦ ap (λ (q : SendQueueState). q.takes_turns) is.0 | inr is ↦ ap (λ (q : SendQueueState). q.takes_turns) is ]

module _ (e : Endpoint) (input : Input) (o : Outcome) (fits : SomeFit (own_of e)) (small : OpensSmall e input o) where
  -- what actions make of a queue
  made_keeps : (to : ℕ) (old last : Inside) → SomeFit old.own → MakesAlso (content_of_input input) to (queued_after e input) (read_after e input) old (packets_of_events o.events) last → Keeps old.queues.queue last.queues.queue
  made_keeps to old last fit makes = actions_keep (content_of_input input) to _ _ (makes [] [] [] fit.first fit.asking fit.fits).actions

  own_keeps : (old between : Inside) → OwnEnds o.effects old between → Keeps old.queues.queue between.queues.queue
  own_keeps old _ unended = refl
  own_keeps old _ (committed completed own is) = refl
  own_keeps old _ (rolled_back refused own is) = refl

  peer_keeps : (between worked : Inside) → PeerResets (content_of_input input) o.effects between worked → Keeps between.queues.queue worked.queues.queue
  peer_keeps between _ (unreset has_not) = refl
  peer_keeps between _ (absent none) = refl
  peer_keeps between _ (deferred has_not parameters reset came_is wants transfer known) = refl
  peer_keeps between _ (reset_now has parameters reset came requested transfer reassembly known reached does) = refl

  turn_keeps : Becomes (streams_user_resets input) (content_of_input input) (peer_tag e.core) (queued_after e input) (read_after e input) e o → Keeps e.queues.queue o.after.queues.queue
  turn_keeps (goes_on calm same makes) = made_keeps (peer_tag e.core) (inside e) (inside o.after) fits makes
  turn_keeps (pauses ids resets calm accepted same little makes) =
      made_keeps (peer_tag e.core) (record (inside e) { queues = record e.queues { queue = prepared_all ids e.queues.queue } }) (inside o.after) fits makes ∙ prepared_keeps ids e.queues.queue
  turn_keeps (works_resets same between worked own peer makes) =
      made_keeps (peer_tag e.core) worked (inside o.after) (worked_fits (content_of_input input) o (inside e) between worked own peer fits) makes ∙ peer_keeps between worked peer ∙ own_keeps (inside e) between own
  turn_keeps (renews calm same alike unread own number emission is of left packets tag contents) = ap (λ (i : Inside). i.queues.queue.takes_turns) left
  turn_keeps (ends none unread silent last kept makes is) =
      ap (λ (b : EndpointQueues). b.queue.takes_turns) is ∙ made_keeps (peer_tag e.core) (inside e) last fits makes
  turn_keeps (begins begun opening linked alike unread again makes) =
      actions_keep (content_of_input input) begun.held.peer.tag _ _ (makes [] [] [] begun.my.first_tsn _ (nothing_fits begun.my.first_tsn again (small begun opening linked))).actions ∙ begun_keeps e o begun
  turn_keeps (collides collision alike unread again makes) =
      actions_keep (content_of_input input) collision.opened.link.peer.tag _ _
      (makes [] [] [] collision.opened.link.my.first_tsn _ (nothing_fits collision.opened.link.my.first_tsn again (small (other_begun e input o collision) collision.opened.opening collision.opened.linked))).actions

pub turns_stay_by_option : TurnsStayByOption
turns_stay_by_option e input o fits small rules may turn by = turn_keeps e input o fits small (turns_are_actions e input o may turn) ∙ by ∙ sym rules
