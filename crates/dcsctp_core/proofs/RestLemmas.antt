-- A flush for which no packet is made: there is nothing to put into one.
use Rattle.dcsctp_transfer.specs.spec.queues.Filling.{none as no_step}
use Rattle.std.proofs.lemmas.Bool.Decides.{nat_tests}
use Rattle.std.proofs.Common.{◌≡◌, ◌&&◌, ◌||◌, not, ℕ, zero, suc, Bool, true, false, nat_lt, Option, None, Some, List, [], ◌∷◌, refl, sym, ap, subst, arith, inl}
use Rattle.rand_core.specs.Stream.{Stream}
use Rattle.dcsctp_transfer.specs.Filling.{is_sack_wanted}
use Rattle.dcsctp_transfer.specs.spec.queues.OwnResets.{ready_streams}
use Rattle.dcsctp_transfer.specs.types.declared.association.Held.{Held}
use Rattle.dcsctp_transfer.specs.spec.Packet.{Emission}
use Rattle.dcsctp_transfer.specs.spec.queues.SendQueue.{SendQueueState, has_queued_data}
use Rattle.dcsctp_transfer.specs.spec.queues.Transfer.{Transfer, is_none_ready, is_idle, may_give}
use Rattle.dcsctp_transfer.specs.spec.queues.Retransmission.{RetransmissionState, can_send}
use Rattle.dcsctp_transfer.specs.spec.queues.Items.{marked_items, is_first_abandoned}
use Rattle.dcsctp_transfer.specs.spec.endpoint.Endpoint.{Endpoint, held_by_core}
use Rattle.dcsctp_transfer.specs.spec.endpoint.BegunResets.{last_assigned_tsn}
use Rattle.dcsctp_transfer.specs.spec.endpoint.DataOutcomes.{flush_to_peer, AnswersTo}
use Rattle.dcsctp_transfer.specs.spec.endpoint.FlushOutcomes.{may_be_asked, draft_to, flush_of, packets_allowed, Ask, first_ask, later_ask, room_of_draft, begun_by_ask, Acknowledges, Gives, GivesUnlessIdle, IsAnswerOfQueues, nothing_waits, FillsIfAllowed, ForwardsIfAbandoned, GivesUpThenForwards, filled_draft, may_forward, stage_of, forward_made}
use Rattle.dcsctp_core.specs.declared.context.Context.{Context}
use Rattle.dcsctp_core.specs.declared.transmission_control_block.TransmissionControlBlock.{TransmissionControlBlock}
use Rattle.dcsctp_core.specs.View.{View, core_of, tcb_of, transfer_of, held_of, endpoint_of, view_of}
use Rattle.dcsctp_core.specs.Handling.{TakesPossibleTurn, SendsQueued}
use Rattle.dcsctp_core.specs.Flushing.{NeedsNone, AsksFor, FlushesFor}
use Rattle.dcsctp_core.proofs.Moving.{moves_still}
use Rattle.dcsctp_core.proofs.FillLemmas.{none_begun}
use Rattle.dcsctp_core.proofs.FlushLemmas.{flushes_none, flushes_last}
use Rattle.dcsctp_core.proofs.LoopLemmas.{held_by_tcb, flush_no_peer}
use Rattle.dcsctp_transfer.specs.spec.queues.Filling.{Stage}
use Rattle.dcsctp_transfer.proofs.spec_lemmas.DueItemLemmas.{none_due}

-- ---- what is asked before a flush

none_ready : (is_some : Bool) (streams : List ℕ) → is_some ≡ not (is_none_ready streams) → is_some ≡ false → is_none_ready streams ≡ true
none_ready is_some [] is none = refl
none_ready is_some (stream ∷ streams) is none = absurd (cc)

pub needs_none : (queue : SendQueueState) (transfer : Transfer) (along is_some : Bool) → along ≡ (has_queued_data queue || can_send transfer.retransmission)
    → (is_sack_wanted along transfer ≡ false) × (is_first_abandoned transfer.retransmission.outstanding.items ≡ false) × (may_give queue transfer.retransmission ≡ false)
    → is_some ≡ not (is_none_ready (ready_streams queue)) → is_some ≡ false → NeedsNone first_ask queue (Some transfer)
needs_none queue transfer along is_some along_is needs some none =
    (subst (λ (b : Bool). is_sack_wanted b transfer ≡ false) along_is needs.0, λ first. none_ready is_some (ready_streams queue) some none, λ first. needs.1, needs.2)

-- ---- there is nothing to give

-- No item waits to be sent again.
unmarked : (queue : SendQueueState) (state : RetransmissionState) → may_give queue state ≡ false → marked_items state.outstanding.items ≡ 0
unmarked queue state is = go (marked_items state.outstanding.items) (has_queued_data queue && can_send state) is
  where
    go : (n : ℕ) (b : Bool) → (nat_lt 0 n || b) ≡ false → n ≡ 0
    go zero b is = refl
    go (suc n) b is = absurd (grind (arith, nat_tests))

-- So no message is abandoned, and no FORWARD-TSN goes.
no_forward : (b : Bool) (now : ℕ) (queue : SendQueueState) (transfer : Transfer) (room : ℕ) → (b ≡ true → is_first_abandoned transfer.retransmission.outstanding.items ≡ false) → may_give queue transfer.retransmission ≡ false
    → GivesUpThenForwards b now transfer room (stage_of queue transfer.retransmission [] 0) (stage_of queue transfer.retransmission [] 0) (forward_made None [])
no_forward false now queue transfer room first none = (refl, refl, refl)
no_forward true now queue transfer room first none = (
  record { steps = no_step; none_left = none_due now transfer.retransmission (unmarked queue transfer.retransmission none) },
  subst (λ (b : Bool). ForwardsIfAbandoned b now transfer room transfer.retransmission None []) (sym (first refl)) (refl, refl),
)

-- that is asked of the first packet alone
in_first : (ask : Ask) (e : Endpoint) (state : RetransmissionState) (first : Bool) → (ask ≡ first_ask → first ≡ false) → may_forward ask e state ≡ true → first ≡ false
in_first first_ask e state first h may = h refl
in_first later_ask e state first h may = absurd (cc)

-- Nor is a reset begun, where no stream is ready.
rest_begun : (ask : Ask) (follows : Bool) (held : Option Held) (room last_tsn : ℕ) (queue : SendQueueState) → (ask ≡ first_ask → is_none_ready (ready_streams queue) ≡ true) → None ≡ begun_by_ask ask follows held room last_tsn queue
rest_begun later_ask follows held room last_tsn queue none = refl
rest_begun first_ask follows held room last_tsn queue none = sym (none_begun first_ask follows held room last_tsn queue (none refl))

gives_none : (ask : Ask) (e : Endpoint) (draft : Emission) (transfer : Transfer) → e.queues.transfer ≡ Some transfer → NeedsNone ask e.queues.queue (Some transfer) → Gives ask e draft transfer (nothing_waits e)
gives_none ask e draft transfer holds needs =
    let start : Stage = stage_of e.queues.queue transfer.retransmission [] (room_of_draft e (filled_draft draft [])) in
    record {
      sacks = [];
      forwards = [];
      parts = refl;
      tracker = transfer.tracker;
      acknowledges = subst (λ (b : Bool). Acknowledges b (room_of_draft e draft) transfer transfer.tracker []) (sym needs.0) (refl, refl);
      gave_up = stage_of e.queues.queue transfer.retransmission [] 0;
      next = None;
      gives_up = no_forward (may_forward ask e transfer.retransmission) e.moment e.queues.queue transfer _
          (in_first ask e transfer.retransmission (is_first_abandoned transfer.retransmission.outstanding.items) needs.2) needs.3;
      later = refl;
      begins = rest_begun ask e.options.follow_rfc (may_be_asked e.core e.options.follow_rfc) _ (last_assigned_tsn transfer.retransmission) e.queues.queue needs.1;
      sent = start;
      fills = subst (λ (b : Bool). FillsIfAllowed b e.moment start start) (sym needs.3) (inl refl);
      chunks = tt;
      forwards_fit = tt;
      data_fit = tt;
      told = refl;
      below = ap (λ (t : Option Transfer). record e.queues { transfer = t }) holds;
    }

gives_where : (b : Bool) (ask : Ask) (e : Endpoint) (draft : Emission) (transfer : Transfer) → e.queues.transfer ≡ Some transfer → NeedsNone ask e.queues.queue (Some transfer)
    → GivesUnlessIdle b ask e draft transfer (nothing_waits e)
gives_where true ask e draft transfer holds needs = refl
gives_where false ask e draft transfer holds needs = gives_none ask e draft transfer holds needs

none_below : (ask : Ask) (e : Endpoint) (draft : Emission) (below : Option Transfer) → e.queues.transfer ≡ below → NeedsNone ask e.queues.queue below → IsAnswerOfQueues ask e draft (nothing_waits e) below
none_below ask e draft None holds needs = refl
none_below ask e draft (Some transfer) holds needs = gives_where (is_idle e.queues.queue transfer) ask e draft transfer holds needs

-- ---- the ask of the packet that isn't made

pub asks_none : {R : Type 0} (stream : R → Stream) (ask : Ask) (view : View R) (held : Held) → NeedsNone ask view.endpoint.queues.queue view.endpoint.queues.transfer
    → AsksFor stream ask view (draft_to held) false view
asks_none stream ask view held needs =
    let e : Endpoint = view.endpoint in
    record {
      answer = nothing_waits e;
      allowed = record { kept = refl; within = λ within. within; by_transfer = none_below ask e (draft_to held) e.queues.transfer refl needs };
      goes = refl;
      moves = moves_still stream view;
    }

-- ---- the flush

pub flushes_rest : {R : Type 0} (stream : R → Stream) (ask : Ask) (count : ℕ) (view : View R) (held : Held) → NeedsNone ask view.endpoint.queues.queue view.endpoint.queues.transfer
    → FlushesFor stream ask count view (draft_to held) view
flushes_rest stream ask zero view held needs = flushes_none stream ask view (draft_to held)
flushes_rest stream ask (suc more) view held needs = flushes_last stream ask more view view (draft_to held) false refl (asks_none stream ask view held needs)

rests_by : {R : Type 0} (stream : R → Stream) (old : Context R) (tcb : Option TransmissionControlBlock) → tcb ≡ tcb_of old.state → NeedsNone first_ask old.send_queue (transfer_of old.state)
    → TakesPossibleTurn stream SendsQueued (view_of old) (view_of old)
rests_by stream old None kept needs = flush_no_peer stream old kept
rests_by stream old (Some tcb) kept needs =
    let held : Held = held_of tcb in
    let holds : held_by_core (core_of old.state) ≡ Some held = held_by_tcb old.state tcb kept in
    let e : Endpoint = endpoint_of old in
    let f = flushes_rest stream first_ask (packets_allowed old.options.max_burst (core_of old.state)) (view_of old) held needs in
    record {
      outcome = flush_of e (draft_to held) f.answers;
      turn = (f.answers, subst (λ (peer : Option Held). AnswersTo e peer f.answers) (sym holds) f.allowed, sym (ap (λ (peer : Option Held). flush_to_peer e peer f.answers) holds));
      moves = f.moves;
    }

pub flush_rests : {R : Type 0} (stream : R → Stream) (old : Context R) → NeedsNone first_ask old.send_queue (transfer_of old.state) → TakesPossibleTurn stream SendsQueued (view_of old) (view_of old)
flush_rests stream old needs = rests_by stream old (tcb_of old.state) refl needs
