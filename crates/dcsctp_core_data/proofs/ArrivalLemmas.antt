-- Data and what the peer gave up come in.
use Rattle.std.proofs.Common.{◌≡◌, ◌==◌, ◌&&◌, not, ℕ, suc, Bool, true, false, Option, None, Some, Result, Ok, Err, List, [], ◌∷◌, length, refl, sym, ap, subst, arith}
use Rattle.std.specs.Prelude.{is_some}
use Rattle.std.proofs.lemmas.Bool.Decides.{nat_tests}
use Rattle.std.specs.Prelude.{OnOk}
use Rattle.std.specs.declared.alloc.AllocError.{AllocError}
use Rattle.rand_core.specs.Stream.{Stream}
use Rattle.dcsctp_core.specs.types.declared.kinds.ErrorKind.TheVariants.{NotConnected}
use Rattle.dcsctp_core.specs.spec.queues.Tracker.{is_valid_tsn, is_new_tsn, tracker_after_data, is_forward, after_forward}
use Rattle.dcsctp_core.specs.spec.queues.Reassembly.{ReassemblyState}
use Rattle.dcsctp_core.specs.types.declared.arrivals.SkippedTo.{SkippedTo}
use Rattle.dcsctp_core.specs.spec.queues.Arrivals.{Arrival}
use Rattle.dcsctp_core.proofs.spec_lemmas.ReassemblyLemmas.{any_added, any_skipped}
use Rattle.dcsctp_core.specs.spec.queues.Transfer.{Transfer}
use Rattle.dcsctp_core.specs.spec.endpoint.Endpoint.{Endpoint, held_by_core}
use Rattle.dcsctp_core.specs.spec.endpoint.Outcome.{Outcome, still, reports}
use Rattle.dcsctp_core.specs.spec.endpoint.TransferMoves.{has_room, dropping, AddsIfNew, ReceivesIfRoom, ReceivesData, SkipsIfMoved, MovesIfForward, MovesForward}
use Rattle.dcsctp_core.specs.spec.endpoint.DataOutcomes.{with_transfer, no_user_data_outcome, not_connected_text, ReceiveTurn, HandlesPayload, ForwardTurn}
use Rattle.dcsctp_core.specs.declared.context.Context.{Context}
use Rattle.dcsctp_core.specs.View.{View, tcb_of, transfer_of, endpoint_of, view_of}
use Rattle.dcsctp_core.specs.Handling.{Tries, TakesTurn, report_turn, TakesPossibleTurn, CutsSomeTurn, TakesOne}
use Rattle.dcsctp_core.specs.declared.transmission_control_block.TransmissionControlBlock.{TransmissionControlBlock}
use Rattle.dcsctp_core.proofs.BelowLemmas.{below_moves}
use Rattle.dcsctp_core.proofs.LendingLemmas.{found, nobody, lent, left_with}
use Rattle.dcsctp_core.proofs.Moving.{moves_still}
use Rattle.dcsctp_core_data.specs.Data.{ReceivesDataChunk, ReceivesForwardTsn, no_user_data_turn}
use Rattle.dcsctp_core_data.proofs.TakingLemmas.{takes_one, tries_one, cut_before}

-- ---- what always may come of it

any_adds : (b : Bool) (arrived : Arrival) (old : ReassemblyState) → (new : ReassemblyState) × AddsIfNew b arrived.tsn arrived.chunk old new
any_adds true arrived old = any_added arrived.tsn arrived.chunk old
any_adds false arrived old = (old, refl)

any_where : (b : Bool) (arrived : Arrival) (transfer : Transfer) → (left : Transfer) × ReceivesIfRoom b arrived transfer left
any_where true arrived transfer =
    let any = any_adds (is_new_tsn arrived.tsn transfer.tracker) arrived transfer.reassembly in
    (record transfer { tracker = tracker_after_data arrived.tsn arrived.immediate_ack transfer.tracker; reassembly = any.0 }, record { reassembly = any.1; rest = refl })
any_where false arrived transfer = (dropping (transfer.tracker.follows_rfc && is_valid_tsn transfer.tracker.cumulative arrived.tsn) transfer, refl)

any_received : (e : Endpoint) (found : Option Transfer) (arrived : Arrival) → (o : Outcome) × ReceiveTurn e found arrived o
any_received e None arrived = (reports e NotConnected not_connected_text, refl)
any_received e (Some transfer) arrived =
    let any = any_where (has_room arrived.tsn transfer && is_valid_tsn transfer.tracker.cumulative arrived.tsn) arrived transfer in
    (still (with_transfer e any.0), (any.0, any.1, refl))

any_data : (e : Endpoint) (arrived : Arrival) (payload : List ℕ) → (o : Outcome) × HandlesPayload e arrived payload o
any_data e arrived [] = (no_user_data_outcome e (held_by_core e.core) arrived.tsn, refl)
any_data e arrived (byte ∷ bytes) = any_received e e.queues.transfer arrived

pub data_cut : {R : Type 0} (view : View R) (arrived : Arrival) → CutsSomeTurn (ReceivesDataChunk arrived) view view.events
data_cut view arrived =
    let any = any_data view.endpoint arrived arrived.chunk.payload in
    cut_before (ReceivesDataChunk arrived) view any.0 any.1

any_skips : (b : Bool) (tsn : ℕ) (entries : List SkippedTo) (old : ReassemblyState) → (new : ReassemblyState) × SkipsIfMoved b tsn entries old new
any_skips true tsn entries old = any_skipped tsn entries old
any_skips false tsn entries old = (old, refl)

any_moved : (b : Bool) (tsn : ℕ) (entries : List SkippedTo) (transfer : Transfer) → (left : Transfer) × MovesIfForward b tsn entries transfer left
any_moved true tsn entries transfer =
    let any = any_skips (is_forward transfer.tracker.cumulative tsn) tsn entries transfer.reassembly in
    (record transfer { tracker = after_forward tsn transfer.tracker; reassembly = any.0 }, record { reassembly = any.1; rest = refl })
any_moved false tsn entries transfer = (transfer, refl)

any_forward : (e : Endpoint) (found : Option Transfer) (tsn : ℕ) (entries : List SkippedTo) → (o : Outcome) × ForwardTurn e found tsn entries o
any_forward e None tsn entries = (still e, refl)
any_forward e (Some transfer) tsn entries =
    let any = any_moved (is_valid_tsn transfer.tracker.cumulative tsn) tsn entries transfer in
    (still (with_transfer e any.0), (any.0, any.1, refl))

pub forward_cut : {R : Type 0} (view : View R) (tsn : ℕ) (entries : List SkippedTo) → CutsSomeTurn (ReceivesForwardTsn tsn entries) view view.events
forward_cut view tsn entries =
    let any = any_forward view.endpoint view.endpoint.queues.transfer tsn entries in
    cut_before (ReceivesForwardTsn tsn entries) view any.0 any.1

-- ---- data

-- without a payload
empty_where : (e : Endpoint) (arrived : Arrival) (payload : List ℕ) → (length payload == 0) ≡ true → HandlesPayload e arrived payload (no_user_data_outcome e (held_by_core e.core) arrived.tsn)
empty_where e arrived [] empty = refl
empty_where e arrived (byte ∷ bytes) empty = absurd (not_none (length bytes) empty)
  where
    not_none : (n : ℕ) → (suc n == 0) ≡ true → ⊥
    not_none n none = grind (arith, nat_tests, none)

-- with one
some_where : (e : Endpoint) (arrived : Arrival) (payload : List ℕ) (o : Outcome) → (length payload == 0) ≡ false → ReceiveTurn e e.queues.transfer arrived o → HandlesPayload e arrived payload o
some_where e arrived [] o some turn = absurd (cc)
some_where e arrived (byte ∷ bytes) o some turn = turn

pub empty_refused : {R E : Type 0} (stream : R → Stream) (old : Context R) (result : Result (Unit {0}) E) (new : Context R) (arrived : Arrival)
    → (length arrived.chunk.payload == 0) ≡ true → TakesTurn stream (no_user_data_turn arrived.tsn) old result new → TakesOne stream (ReceivesDataChunk arrived) old result new
empty_refused stream old result new arrived empty h =
    takes_one stream (no_user_data_turn arrived.tsn) (ReceivesDataChunk arrived) old result new (empty_where (endpoint_of old) arrived arrived.chunk.payload empty) h

no_peer : (e : Endpoint) (found : Option Transfer) (arrived : Arrival) → is_some found ≡ false → ReceiveTurn e found arrived (reports e NotConnected not_connected_text)
no_peer e None arrived none = refl
no_peer e (Some transfer) arrived none = absurd (cc)

pub not_connected : {R E : Type 0} (stream : R → Stream) (old : Context R) (result : Result (Unit {0}) E) (new : Context R) (arrived : Arrival)
    → (length arrived.chunk.payload == 0) ≡ false → None ≡ tcb_of old.state → Tries stream (report_turn NotConnected not_connected_text) old result new
    → TakesOne stream (ReceivesDataChunk arrived) old result new
not_connected stream old result new arrived some none h =
    let e : Endpoint = endpoint_of old in
    tries_one stream (report_turn NotConnected not_connected_text) (ReceivesDataChunk arrived) old result new
    (some_where e arrived arrived.chunk.payload (reports e NotConnected not_connected_text) some (no_peer e (transfer_of old.state) arrived (ap is_some (nobody old.state none)))) h

received : {R : Type 0} (stream : R → Stream) (old : Context R) (tcb : TransmissionControlBlock) (after : Transfer) (arrived : Arrival) → (length arrived.chunk.payload == 0) ≡ false
    → Some tcb ≡ tcb_of old.state → ReceivesData arrived tcb.transfer after → TakesPossibleTurn stream (ReceivesDataChunk arrived) (view_of old) (view_of (record old { state = left_with old.state tcb after }))
received stream old tcb after arrived some holds receives =
    let e : Endpoint = endpoint_of old in
    let o : Outcome = still (with_transfer e after) in
    record {
      outcome = o;
      turn = some_where e arrived arrived.chunk.payload o some (subst (λ (f : Option Transfer). ReceiveTurn e f arrived o) (sym (found old.state tcb holds)) (after, receives, refl));
      moves = below_moves stream old (left_with old.state tcb after) tcb.transfer after (found old.state tcb holds) (lent old.state tcb after holds);
    }

pub data_worked : {R : Type 0} (stream : R → Stream) (old new : Context R) (tcb : TransmissionControlBlock) (after : Transfer) (result : Result (Unit {0}) AllocError) (arrived : Arrival)
    → view_of new ≡ view_of (record old { state = left_with old.state tcb after }) → (length arrived.chunk.payload == 0) ≡ false → Some tcb ≡ tcb_of old.state
    → OnOk result (ReceivesData arrived tcb.transfer after) → TakesOne stream (ReceivesDataChunk arrived) old result new
data_worked {R = R} stream old new tcb after (Ok done) arrived same some holds receives =
    subst (λ (v : View R). TakesPossibleTurn stream (ReceivesDataChunk arrived) (view_of old) v) (sym same) (received stream old tcb after arrived some holds receives)
data_worked {R = R} stream old new tcb after (Err error) arrived same some holds receives =
    subst (λ (v : View R). CutsSomeTurn (ReceivesDataChunk arrived) (view_of old) v.events) (sym same) (data_cut (view_of old) arrived)

-- ---- what the peer gave up

pub forward_unasked : {R : Type 0} (stream : R → Stream) (old : Context R) (tsn : ℕ) (entries : List SkippedTo) → None ≡ tcb_of old.state → TakesPossibleTurn stream (ReceivesForwardTsn tsn entries) (view_of old) (view_of old)
forward_unasked stream old tsn entries none =
    let e : Endpoint = endpoint_of old in
    record { outcome = still e; turn = subst (λ (f : Option Transfer). ForwardTurn e f tsn entries (still e)) (sym (nobody old.state none)) refl; moves = moves_still stream (view_of old) }

forwarded : {R : Type 0} (stream : R → Stream) (old : Context R) (tcb : TransmissionControlBlock) (after : Transfer) (tsn : ℕ) (entries : List SkippedTo) → Some tcb ≡ tcb_of old.state → MovesForward tsn entries tcb.transfer after
    → TakesPossibleTurn stream (ReceivesForwardTsn tsn entries) (view_of old) (view_of (record old { state = left_with old.state tcb after }))
forwarded stream old tcb after tsn entries holds moves =
    let e : Endpoint = endpoint_of old in
    let o : Outcome = still (with_transfer e after) in
    record {
      outcome = o;
      turn = subst (λ (f : Option Transfer). ForwardTurn e f tsn entries o) (sym (found old.state tcb holds)) (after, moves, refl);
      moves = below_moves stream old (left_with old.state tcb after) tcb.transfer after (found old.state tcb holds) (lent old.state tcb after holds);
    }

pub forward_worked : {R : Type 0} (stream : R → Stream) (old new : Context R) (tcb : TransmissionControlBlock) (after : Transfer) (result : Result (Unit {0}) AllocError) (tsn : ℕ) (entries : List SkippedTo)
    → view_of new ≡ view_of (record old { state = left_with old.state tcb after }) → Some tcb ≡ tcb_of old.state → OnOk result (MovesForward tsn entries tcb.transfer after) → TakesOne stream (ReceivesForwardTsn tsn entries) old result new
forward_worked {R = R} stream old new tcb after (Ok done) tsn entries same holds moves =
    subst (λ (v : View R). TakesPossibleTurn stream (ReceivesForwardTsn tsn entries) (view_of old) v) (sym same) (forwarded stream old tcb after tsn entries holds moves)
forward_worked {R = R} stream old new tcb after (Err error) tsn entries same holds moves =
    subst (λ (v : View R). CutsSomeTurn (ReceivesForwardTsn tsn entries) (view_of old) v.events) (sym same) (forward_cut (view_of old) tsn entries)
