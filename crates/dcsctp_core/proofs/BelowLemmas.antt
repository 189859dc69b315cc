-- What changes below an association, as the view shows it.
use Rattle.std.proofs.Common.{◌≡◌, ℕ, Bool, true, false, Option, None, Some, Result, List, [], ◌++◌, map, refl, sym, ap, subst, ◌∙◌, ◌∷◌, IfSome, IfNone}
use Rattle.std.proofs.lemmas.List.{append-nil}
use Rattle.rand_core.specs.Stream.{Stream}
use Rattle.dcsctp_transfer.specs.types.Settings.{Ports, ports_of}
use Rattle.dcsctp_transfer.specs.api.Calls.{user_event}
use Rattle.dcsctp_transfer.specs.spec.queues.Transfer.{Transfer}
use Rattle.dcsctp_transfer.specs.types.declared.options.Options.{Options}
use Rattle.dcsctp_transfer.specs.types.queues.Messages.{message_content}
use Rattle.dcsctp_transfer.specs.spec.endpoint.Endpoint.{Endpoint}
use Rattle.dcsctp_transfer.specs.spec.endpoint.Outcome.{Outcome, still}
use Rattle.dcsctp_transfer.specs.spec.endpoint.TimeTurns.{own_timer, has_come, loss_deadline}
use Rattle.dcsctp_transfer.specs.spec.endpoint.DataOutcomes.{with_transfer, taken_to, LossTurn}
use Rattle.dcsctp_transfer.specs.spec.endpoint.OwnTimers.{retransmission}
use Rattle.dcsctp_transfer.specs.spec.endpoint.HeartbeatOutcomes.{error_counted}
use Rattle.dcsctp_transfer.specs.wire.Content.{SackContent}
use Rattle.dcsctp_transfer.specs.types.declared.message.Message.{Message}
use Rattle.dcsctp_core.specs.Errors.{ErrorCount}
use Rattle.dcsctp_core.specs.declared.context.Context.{Context}
use Rattle.dcsctp_core.specs.declared.state.State.{State}
use Rattle.dcsctp_core.specs.declared.transmission_control_block.TransmissionControlBlock.{TransmissionControlBlock}
use Rattle.std.specs.declared.alloc.AllocError.{AllocError}
use Rattle.dcsctp_transfer.specs.spec.endpoint.Event.{Event}
use Rattle.dcsctp_transfer.specs.Sacks.{HandlesSack}
use Rattle.dcsctp_transfer.specs.declared.sacks.HandledSack.{HandledSack}
use Rattle.dcsctp_core.specs.View.{View, tcb_of, transfer_of, endpoint_of, view_of, Moves}
use Rattle.dcsctp_core.specs.Handling.{TakesPossibleTurn}
use Rattle.dcsctp_core.specs.Timing.{is_timer_due, ExpiryTurn, ExpiresAlways}
use Rattle.dcsctp_core.specs.Flushing.{state_with}
use Rattle.dcsctp_core.specs.Below.{ChangesQueues, ChangesOrKeeps, LosesAllInFlight, HandlesSackInTransfer, TakesFirst, TakesReady, state_and_events}
use Rattle.dcsctp_core.proofs.FirstLemmas.{endpoint_with}
use Rattle.dcsctp_core.proofs.LendingLemmas.{found, lent, left_with}

pub below_view : {R : Type 0} (old : Context R) (state : State) (transfer after : Transfer) → transfer_of old.state ≡ Some transfer → state ≡ state_with old.state after
    → view_of (record old { state = state }) ≡ record (view_of old) { endpoint = with_transfer (endpoint_of old) after }
below_view old state transfer after holds is =
    ap (λ (s : State). view_of (record old { state = s })) is
    ∙ ap (λ (e : Endpoint). record (view_of old) { endpoint = e }) (endpoint_with old transfer after holds)

-- Only the endpoint has changed.
pub moves_to : {R : Type 0} (stream : R → Stream) (old new : View R) (e : Endpoint) → new ≡ record old { endpoint = e } → Moves stream old (still e) new
moves_to {R = R} stream old new e is =
    record {
      endpoint = ap (λ (v : View R). v.endpoint) is;
      events = ap (λ (v : View R). v.events) is ∙ sym (append-nil old.events);
      words = ap (λ (v : View R). v.words) is ∙ sym (append-nil old.words);
      pairs = ap (λ (v : View R). v.pairs) is ∙ sym (append-nil old.pairs);
      drawn = ap (λ (v : View R). stream v.generator) is;
    }

-- A turn begins at another endpoint, with the same ports.
pub moves_from : {R : Type 0} (stream : R → Stream) (v : View R) (e : Endpoint) (o : Outcome) (new : View R) → ports_of e.options ≡ ports_of v.endpoint.options
    → Moves stream (record v { endpoint = e }) o new → Moves stream v o new
moves_from stream v e o new ports m =
    record { endpoint = m.endpoint; events = m.events ∙ ap (λ (q : Ports). v.events ++ map (user_event q) o.events) ports; words = m.words; pairs = m.pairs; drawn = m.drawn }

pub below_moves : {R : Type 0} (stream : R → Stream) (old : Context R) (state : State) (transfer after : Transfer) → transfer_of old.state ≡ Some transfer → state ≡ state_with old.state after
    → Moves stream (view_of old) (still (with_transfer (endpoint_of old) after)) (view_of (record old { state = state }))
below_moves stream old state transfer after holds is =
    moves_to stream (view_of old) (view_of (record old { state = state })) (with_transfer (endpoint_of old) after) (below_view old state transfer after holds is)

-- nothing has changed
pub same_view : {R : Type 0} (old : Context R) (state : State) → state ≡ old.state → view_of (record old { state = state }) ≡ view_of old
same_view old state is = ap (λ (s : State). view_of (record old { state = s })) is

-- ---- what is in flight is lost

-- the view with this count of errors
abbrev with_count : {R : Type 0} → View R → ℕ → View R
with_count view count = record view { endpoint = record view.endpoint { error_count = count } }

-- What the retransmission timer brings.
abbrev Lost : {R : Type 0} → (R → Stream) → Context R → View R → Type 0
Lost stream old new = (is_timer_due (endpoint_of old) (own_timer retransmission) ≡ true) × TakesPossibleTurn stream (ExpiryTurn (own_timer retransmission)) (view_of old) new

lost : {R : Type 0} (stream : R → Stream) (old : Context R) (state : State) (count : ℕ) (found : Option Transfer) → transfer_of old.state ≡ found
    → has_come old.moment (loss_deadline found) ≡ true → ChangesQueues (LosesAllInFlight old.moment) found old.state state
    → count ≡ error_counted old.tx_error_counter.limit old.tx_error_counter.count
    → Lost stream old (with_count (view_of (record old { state = state })) count)
lost stream old state count None holds due changes counts = absurd (cc)
lost {R = R} stream old state count (Some transfer) holds due changes counts =
    let after : Transfer = changes.0 in
    let e : Endpoint = endpoint_of old in
    let view = below_view old state transfer after holds changes.1 in
    let left : Endpoint = record (with_transfer e after) { error_count = error_counted e.options.max_retransmissions e.error_count } in
    let is : with_count (view_of (record old { state = state })) count ≡ record (view_of old) { endpoint = left } =
    ap (λ (n : ℕ). with_count (view_of (record old { state = state })) n) counts
    ∙ (ap (λ (v : View R). with_count v (error_counted old.tx_error_counter.limit old.tx_error_counter.count)) view
    ∙ ap (λ (limit : Option ℕ). record (view_of old) { endpoint = record (with_transfer e after) { error_count = error_counted limit e.error_count } }) old.errors) in (
      ap (λ (f : Option Transfer). has_come old.moment (loss_deadline f)) holds ∙ due,
      record {
        outcome = still left;
        turn = subst (λ (f : Option Transfer). LossTurn e f (still left)) (sym holds) (ap (λ (t : Transfer). still (record (with_transfer e t) { error_count = error_counted e.options.max_retransmissions e.error_count })) changes.2);
        moves = moves_to stream (view_of old) (with_count (view_of (record old { state = state })) count) left is;
      },
    )

pub loss_counted : {R : Type 0} (stream : R → Stream) (old : Context R) (state : State) (counter : ErrorCount) (b : Bool) → b ≡ has_come old.moment (loss_deadline (transfer_of old.state)) → b ≡ true
    → ChangesOrKeeps b (LosesAllInFlight old.moment) (transfer_of old.state) old.state state
    → counter ≡ record old.tx_error_counter { count = error_counted old.tx_error_counter.limit old.tx_error_counter.count }
    → Lost stream old (with_count (view_of (record old { state = state })) counter.count)
loss_counted stream old state counter b answer comes changes counts =
    lost stream old state counter.count (transfer_of old.state) refl (sym answer ∙ comes) (subst (λ (x : Bool). ChangesOrKeeps x (LosesAllInFlight old.moment) (transfer_of old.state) old.state state) comes changes)
    (ap (λ (c : ErrorCount). c.count) counts)

pub loss_not_due : {R : Type 0} (stream : R → Stream) (old : Context R) (state : State) (b : Bool) → b ≡ has_come old.moment (loss_deadline (transfer_of old.state)) → b ≡ false
    → ChangesOrKeeps b (LosesAllInFlight old.moment) (transfer_of old.state) old.state state → ExpiresAlways stream (own_timer retransmission) old false (record old { state = state })
loss_not_due stream old state b answer waits changes =
    (sym answer ∙ waits, same_view old state (subst (λ (x : Bool). ChangesOrKeeps x (LosesAllInFlight old.moment) (transfer_of old.state) old.state state) waits changes))

-- ---- a SACK

pub sacks_lent : (now : ℕ) (sack : SackContent) (old : State) (tcb : TransmissionControlBlock) (after : Transfer) (told telling : List (Event (List ℕ))) (result : Result HandledSack AllocError) → Some tcb ≡ tcb_of old
    → HandlesSack now sack tcb.transfer told after telling result → HandlesSackInTransfer now sack (transfer_of old) (state_and_events old told) (state_and_events (left_with old tcb after) telling) result
sacks_lent now sack old tcb after told telling result holds h =
    subst (λ (f : Option Transfer). HandlesSackInTransfer now sack f (state_and_events old told) (state_and_events (left_with old tcb after) telling) result) (sym (found old tcb holds)) (after, lent old tcb after holds, h)

-- ---- a message that is taken

takes_first : (options : Options) (moment : ℕ) (result : Option Message) (old new : Transfer) → IfSome result (λ message. old.reassembly.incoming.ready ≡ message_content message ∷ new.reassembly.incoming.ready)
    → IfSome result (λ message. new ≡ taken_to options moment new.reassembly.incoming.ready old)
    → IfNone result ((old.reassembly.incoming.ready ≡ []) × (new ≡ old)) → TakesFirst options moment result old new
takes_first options moment None old new first left none = none
takes_first options moment (Some message) old new first left none = (first, left)

pub takes_lent : (options : Options) (moment : ℕ) (old : State) (tcb : TransmissionControlBlock) (after : Transfer) (result : Option Message) → Some tcb ≡ tcb_of old
    → IfSome result (λ message. tcb.transfer.reassembly.incoming.ready ≡ message_content message ∷ after.reassembly.incoming.ready)
    → IfSome result (λ message. after ≡ taken_to options moment after.reassembly.incoming.ready tcb.transfer)
    → IfNone result ((tcb.transfer.reassembly.incoming.ready ≡ []) × (after ≡ tcb.transfer)) → TakesReady options moment tcb.transfer old result (left_with old tcb after)
takes_lent options moment old tcb after result holds first left none =
    (after, lent old tcb after holds, takes_first options moment result tcb.transfer after first left none)
