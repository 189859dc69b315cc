-- Each action of a socket keeps the kinds of what is in flight, and sends only chunks that were
-- negotiated.
use Rattle.std.proofs.Common.{◌≡◌, ℕ, Bool, true, false, Option, None, Some, List, [], ◌∷◌, ◌++◌, map, refl, sym, ap, ◌∙◌, subst, append-nil}
use Rattle.std.specs.List.{AllByRecursion}
use Rattle.dcsctp_spec_lemmas.specs.types.declared.capabilities.Capabilities.{Capabilities}
use Rattle.dcsctp_spec_lemmas.specs.spec.endpoint.Endpoint.{Endpoint, Core, closed, cookie_wait, cookie_echoed, open_in}
use Rattle.dcsctp_spec_lemmas.specs.spec.endpoint.Event.{Event, sent, packets_of_events}
use Rattle.dcsctp_spec_lemmas.specs.spec.Packet.{Content, Emission}
use Rattle.dcsctp_spec_lemmas.specs.spec.association.Choices.{plain_contents}
use Rattle.dcsctp_spec_lemmas.specs.spec.queues.Retransmission.{RetransmissionState}
use Rattle.dcsctp_spec_lemmas.specs.spec.queues.SendQueue.{SendQueueState}
use Rattle.dcsctp_spec_lemmas.specs.spec.queues.Transfer.{Transfer, EndpointQueues, may_give, is_idle}
use Rattle.dcsctp_spec_lemmas.specs.spec.queues.Arrivals.{Arrival}
use Rattle.dcsctp_spec_lemmas.specs.types.declared.arrivals.SkippedTo.{SkippedTo}
use Rattle.dcsctp_spec_lemmas.specs.spec.endpoint.BegunResets.{streams_within, request_contents, queue_requesting, retransmission_begun}
use Rattle.dcsctp_spec_lemmas.specs.spec.endpoint.FlushOutcomes.{FillingEvent, filling_event, Answer, answer_contents, filled_draft, goes_out, asked_outcome, next_draft, flush_of, Ask, first_ask, later_ask, packets_allowed, room_of_draft, stage_of, may_forward, wants_sack, Gives, GivesUnlessIdle, IsAnswerOfQueues, IsFlushAnswer, nothing_waits, AreFlushAnswers, at_limit, at_empty, after_packet, FlushAnswers}
use Rattle.dcsctp_spec_lemmas.specs.spec.endpoint.TransferMoves.{ReceivesIfRoom, MovesIfForward}
use Rattle.dcsctp_theorem_sockets.proofs.Bursts.{packets_of_events-append, told_none}
use Rattle.dcsctp_delivery_sockets.specs.turns.Actions.{Ledger, Action, Actions, nothing, further}
use Rattle.dcsctp_delivery_sockets.specs.turns.Actions as actions
use Rattle.dcsctp_delivery_sockets.proofs.turns.Received.{data_where}
use Rattle.dcsctp_delivery_directions.proofs.sending.Packets.{out_below}
use Rattle.dcsctp_delivery_sockets.proofs.sockets.InFlight.{IsOf, fills_where_is, begun_is, at_once_is, sack_is, timed_is}
use Rattle.dcsctp_delivery_sockets.proofs.sockets.Allowed.{MayGo, AllAllowed, AreAllowed, all_append, no_data_goes, plain_go, request_goes, sacks_go, data_goes, forwards_go, ContentsAllowed, spoken_goes, behind_goes}

-- This holds for what is in flight, if there is an association.
abbrev pub TransferIs : Capabilities → Option Transfer → Type 0
TransferIs kinds None = Unit {0}
TransferIs kinds (Some transfer) = IsOf kinds transfer.retransmission

module _ (kinds : Capabilities) where
  -- ---- one packet of a flush

  -- what an answer leaves, and what it says
  record AnswerIs (answer : Answer) : Type 0 where
    left : TransferIs kinds answer.after.queues.transfer
    says : AllAllowed kinds (answer_contents answer)

  gives_is : (ask : Ask) (e : Endpoint) (draft : Emission) (transfer : Transfer) (answer : Answer) → IsOf kinds transfer.retransmission → Gives ask e draft transfer answer → AnswerIs answer
  gives_is ask e draft transfer answer is gives =
      let gave = forwards_go kinds (may_forward ask e transfer.retransmission) ask e transfer (room_of_draft e (filled_draft draft (plain_contents gives.sacks))) (stage_of e.queues.queue transfer.retransmission [] 0) gives.gave_up
      gives.next gives.forwards refl is refl gives.gives_up in
      let left : SendQueueState = queue_requesting (streams_within (room_of_draft e (filled_draft draft (plain_contents answer.acknowledgements)))) answer.begun gives.gave_up.waiting in
      let begun : RetransmissionState = retransmission_begun answer.begun gives.gave_up.queue in
      let full : IsOf kinds gives.sent.queue =
      fills_where_is kinds (may_give left begun) e.moment
      (stage_of left begun gives.gave_up.told (room_of_draft e (filled_draft draft (plain_contents answer.acknowledgements ++ request_contents answer.begun)))) gives.sent
      (begun_is kinds answer.begun gives.gave_up.queue gave.0) gives.fills in
      let sacks : AllByRecursion (MayGo kinds) gives.sacks = sacks_go kinds (wants_sack ask e.queues.queue transfer) (room_of_draft e draft) transfer gives.tracker gives.sacks gives.acknowledges in
      record {
        left = subst (λ (b : EndpointQueues). TransferIs kinds b.transfer) (sym gives.below) full;
        says = all_append _ (plain_contents answer.acknowledgements) (request_contents answer.begun ++ plain_contents answer.data_chunks)
            (plain_go kinds answer.acknowledgements (subst (AllByRecursion (MayGo kinds)) (sym gives.parts) (all_append (MayGo kinds) gives.sacks gives.forwards sacks gave.1)))
            (all_append _ (request_contents answer.begun) (plain_contents answer.data_chunks) (request_goes kinds answer.begun)
            (plain_go kinds answer.data_chunks (data_goes kinds gives.sent.queue.outstanding gives.sent.tsns answer.data_chunks full.0 gives.chunks)));
      }

  nothing_is : (e : Endpoint) (answer : Answer) → TransferIs kinds e.queues.transfer → answer ≡ nothing_waits e → AnswerIs answer
  nothing_is e answer is none = subst AnswerIs (sym none) (record { left = is; says = tt })

  gives_where_is : (b : Bool) (ask : Ask) (e : Endpoint) (draft : Emission) (transfer : Transfer) (answer : Answer) → e.queues.transfer ≡ Some transfer → TransferIs kinds e.queues.transfer → GivesUnlessIdle b ask e draft transfer answer
      → AnswerIs answer
  gives_where_is true ask e draft transfer answer known is gives = nothing_is e answer is gives
  gives_where_is false ask e draft transfer answer known is gives = gives_is ask e draft transfer answer (subst (TransferIs kinds) known is) gives

  answered_is : (ask : Ask) (e : Endpoint) (draft : Emission) (transfer : Option Transfer) (answer : Answer) → e.queues.transfer ≡ transfer → TransferIs kinds e.queues.transfer → IsAnswerOfQueues ask e draft answer transfer
      → AnswerIs answer
  answered_is ask e draft None answer known is answered = nothing_is e answer is answered
  answered_is ask e draft (Some transfer) answer known is answered = gives_where_is (is_idle e.queues.queue transfer) ask e draft transfer answer known is answered

  -- ---- a flush

  -- what is in flight after it, and what was sent
  pub record Keeps (below : EndpointQueues) (events : List (Event Emission)) : Type 0 where
    pub left : TransferIs kinds below.transfer
    pub says : AreAllowed kinds (packets_of_events events)

  out_says : (e : Endpoint) (told : List FillingEvent) (with_checksum : Bool) (tag : ℕ) (contents : List Content) → AllAllowed kinds contents → AreAllowed kinds (packets_of_events (goes_out e (map filling_event told) with_checksum tag contents).events)
  out_says e told with_checksum tag [] are =
      subst (AreAllowed kinds) (sym (ap (λ (l : List (Event Emission)). packets_of_events l) (sym (append-nil (map filling_event told))) ∙ told_none told [])) tt
  out_says e told with_checksum tag (content ∷ contents) are =
      subst (AreAllowed kinds) (sym (told_none told (sent (record { with_checksum = with_checksum; packet = record { tag = tag; contents = content ∷ contents } }) ∷ []))) (are.1, tt)

  asked_keeps : (ask : Ask) (e : Endpoint) (draft : Emission) (answer : Answer) → TransferIs kinds e.queues.transfer → AllAllowed kinds draft.packet.contents → IsFlushAnswer ask e draft answer
      → Keeps (asked_outcome e draft answer).after.queues (asked_outcome e draft answer).events
  asked_keeps ask e draft answer is are answered =
      let so : AnswerIs answer = answered_is ask e draft e.queues.transfer answer refl is answered.by_transfer in
      let contents : List Content = (filled_draft draft (answer_contents answer)).packet.contents in
      record {
        left = subst (λ (b : EndpointQueues). TransferIs kinds b.transfer) (sym (out_below answer.after (map filling_event answer.told) draft.with_checksum draft.packet.tag contents)) so.left;
        says = out_says answer.after answer.told draft.with_checksum draft.packet.tag contents (all_append _ draft.packet.contents (answer_contents answer) are so.says);
      }

  pub events_both : (one other : List (Event Emission)) → AreAllowed kinds (packets_of_events one) → AreAllowed kinds (packets_of_events other) → AreAllowed kinds (packets_of_events (one ++ other))
  events_both one other are others = subst (AreAllowed kinds) (sym (packets_of_events-append one other)) (all_append _ (packets_of_events one) (packets_of_events other) are others)

  next_empty : (core : Core) (draft : Emission) → AllAllowed kinds (next_draft core draft).packet.contents
  next_empty closed draft = tt
  next_empty (cookie_wait my) draft = tt
  next_empty (cookie_echoed my held cookie) draft = tt
  next_empty (open_in phase my held) draft = tt

  answers_keep : (ask : Ask) (n : ℕ) (e : Endpoint) (draft : Emission) (answers : List Answer) → TransferIs kinds e.queues.transfer → AllAllowed kinds draft.packet.contents → AreFlushAnswers ask n e draft answers
      → Keeps (flush_of e draft answers).after.queues (flush_of e draft answers).events
  answers_keep _ _ _ _ _ is are (at_limit ask e draft) = record { left = is; says = tt }
  answers_keep _ _ _ _ _ is are (at_empty ask more e draft answer answered empty) =
      let one = asked_keeps ask e draft answer is are answered in record { left = one.left; says = events_both (asked_outcome e draft answer).events [] one.says tt }
  answers_keep _ _ _ _ _ is are (after_packet ask more e draft answer answers answered some rest) =
      let one = asked_keeps ask e draft answer is are answered in
      let others = answers_keep later_ask more (asked_outcome e draft answer).after (next_draft e.core draft) answers one.left (next_empty e.core draft) rest in
      record { left = others.left; says = events_both (asked_outcome e draft answer).events (flush_of (asked_outcome e draft answer).after (next_draft e.core draft) answers).events one.says others.says }

  pub flush_keeps : (e : Endpoint) (draft : Emission) (answers : List Answer) → TransferIs kinds e.queues.transfer → AllAllowed kinds draft.packet.contents → FlushAnswers e draft answers
      → Keeps (flush_of e draft answers).after.queues (flush_of e draft answers).events
  flush_keeps e draft answers is are allowed = answers_keep first_ask (packets_allowed e.options.max_burst e.core) e draft answers is are allowed

  -- ---- data that is received

  receives_is : (b : Bool) (arrival : Arrival) (old new : Transfer) → IsOf kinds old.retransmission → ReceivesIfRoom b arrival old new → IsOf kinds new.retransmission
  receives_is b arrival old new is does = subst (IsOf kinds) (sym (data_where b arrival old new does)) is

  moves_is : (b : Bool) (tsn : ℕ) (entries : List SkippedTo) (old new : Transfer) → IsOf kinds old.retransmission → MovesIfForward b tsn entries old new → IsOf kinds new.retransmission
  moves_is true tsn entries old new is does = subst (λ (t : Transfer). IsOf kinds t.retransmission) (sym does.rest) is
  moves_is false tsn entries old new is does = subst (λ (t : Transfer). IsOf kinds t.retransmission) (sym does) is

  -- ---- each action

  pub record LedgerIs (ledger : Ledger) : Type 0 where
    pub left : TransferIs kinds ledger.queues.transfer
    pub says : AreAllowed kinds ledger.sent

  pub of_known : (transfer : Transfer) (below : Option Transfer) → below ≡ Some transfer → TransferIs kinds below → IsOf kinds transfer.retransmission
  of_known transfer below known is = subst (TransferIs kinds) known is

  action_is : (came : Option Content) (to : ℕ) (old new : Ledger) → LedgerIs old → Action came to old new → LedgerIs new
  action_is came to old _ h (actions.queues now sending fits some) = record { left = h.left; says = h.says }
  action_is came to old _ h (actions.sets setting small) = record { left = h.left; says = h.says }
  action_is came to old _ h (actions.flushes e draft answers below at same no_data no_end stale reports allowed) =
      let keeps = flush_keeps e draft answers (subst (λ (b : EndpointQueues). TransferIs kinds b.transfer) (sym below) h.left) (no_data_goes kinds draft.packet.contents no_data stale) allowed in
      record { left = keeps.left; says = all_append _ old.sent (packets_of_events (flush_of e draft answers).events) h.says keeps.says }
  action_is came to old _ h (actions.resends now room transfer left tsns chunks emission tag known sends are contents) =
      let is : IsOf kinds left = at_once_is kinds now room old.queues.queue transfer.retransmission left tsns (of_known transfer old.queues.transfer known h.left) sends in
      record {
        left = is;
        says = all_append _ old.sent (emission ∷ []) h.says (subst (ContentsAllowed kinds) (sym contents) (behind_goes kinds (plain_contents chunks) (plain_go kinds chunks (data_goes kinds left.outstanding tsns chunks is.0 are))), tt);
      }
  action_is came to old _ h (actions.resends_nothing now room transfer left tsns known sends) =
      record { left = at_once_is kinds now room old.queues.queue transfer.retransmission left tsns (of_known transfer old.queues.transfer known h.left) sends; says = h.says }
  action_is came to old _ h (actions.speaks emission no_data stale reports) = record { left = h.left; says = all_append _ old.sent (emission ∷ []) h.says (spoken_goes kinds emission.packet.contents no_data stale, tt) }
  action_is came to old _ h (actions.asks_again emission begun tag has contents) =
      record { left = h.left; says = all_append _ old.sent (emission ∷ []) h.says (subst (ContentsAllowed kinds) (sym contents) tt, tt) }
  action_is came to old _ h (actions.acknowledges now sack transfer new may known valid takes) =
      record { left = sack_is kinds now sack transfer new (of_known transfer old.queues.transfer known h.left) takes; says = h.says }
  action_is came to old _ h (actions.loses now transfer known) = record { left = of_known transfer old.queues.transfer known h.left; says = h.says }
  action_is came to old _ h (actions.receives chunk transfer new is some known does) = record { left = receives_is _ _ transfer new (of_known transfer old.queues.transfer known h.left) does; says = h.says }
  action_is came to old _ h (actions.receives_interleaved chunk transfer new is some known does) = record { left = receives_is _ _ transfer new (of_known transfer old.queues.transfer known h.left) does; says = h.says }
  action_is came to old _ h (actions.forwards tsn streams transfer new is known does) = record { left = moves_is _ _ _ transfer new (of_known transfer old.queues.transfer known h.left) does; says = h.says }
  action_is came to old _ h (actions.forwards_interleaved tsn streams transfer new is known does) = record { left = moves_is _ _ _ transfer new (of_known transfer old.queues.transfer known h.left) does; says = h.says }
  action_is came to old _ h (actions.tracks transfer tracker known same_tsn same_ranges) = record { left = of_known transfer old.queues.transfer known h.left; says = h.says }
  action_is came to old _ h (actions.times round_trip transfer known) =
      record { left = timed_is kinds round_trip transfer (of_known transfer old.queues.transfer known h.left); says = h.says }
  action_is came to old _ h (actions.takes transfer message messages known ready) = record { left = of_known transfer old.queues.transfer known h.left; says = h.says }

  pub actions_are : (came : Option Content) (to : ℕ) (old new : Ledger) → LedgerIs old → Actions came to old new → LedgerIs new
  actions_are came to old _ h nothing = h
  actions_are came to old new h (further between _ first last) = action_is came to between new (actions_are came to old between h first) last
