-- Data, a FORWARD-TSN and the end of a reset do the same where other messages of as many bytes are ready.
use Rattle.std.proofs.Common.{◌≡◌, ℕ, Bool, true, false, ◌+◌, ◌-◌, ◌*◌, ◌^◌, List, [], ◌++◌, length, nat_lt, nat_le, refl, sym, ◌∙◌, ap, arith, subst}
use Rattle.std.specs.Prelude.{Some, min, not, ◌&&◌, ◌||◌}
use Rattle.std.proofs.lemmas.List.{append-nil}
use Rattle.dcsctp_spec.specs.types.queues.Messages.{MessageContent}
use Rattle.dcsctp_spec.specs.types.declared.arrivals.SkippedTo.{SkippedTo}
use Rattle.dcsctp_spec.specs.queues.Arrivals.{Arrival}
use Rattle.dcsctp_spec.specs.queues.IncomingStreams.{ChunkModel, ready_bytes}
use Rattle.dcsctp_spec.specs.queues.Reassembly.{DeferralModel, ReassemblyState, window_used, can_count, is_data_deferred, is_forward_deferred, with_ready, with_deferred, ForwardsBeside, AddsData, SkipsData}
use Rattle.dcsctp_spec.specs.queues.Tracker.{is_valid_tsn, is_new_tsn, is_forward, is_below_highest, is_first_missing}
use Rattle.dcsctp_spec.specs.queues.Transfer.{Transfer}
use Rattle.dcsctp_spec.specs.endpoint.TransferMoves.{AddsIfNew, has_room, dropping, ReceivesIfRoom, ReceivesData, SkipsIfMoved, MovesIfForward, MovesForward}
use Rattle.dcsctp_delivery_directions.proofs.receiving.Kept.{deferred_by}
use Rattle.dcsctp_delivery_directions.proofs.epochs.OtherReady.{incoming_more, moves_more}

-- These became ready besides; so it is where others of as many bytes were ready.
pub record MoreMoved (before after : List MessageContent) (Does : List MessageContent → List MessageContent → Type 0) : Type 0 where
  pub more : List MessageContent
  pub is : after ≡ before ++ more
  pub other : (r : List MessageContent) → ready_bytes r ≡ ready_bytes before → Does r (r ++ more)

none_moved : (before after : List MessageContent) (Does : List MessageContent → List MessageContent → Type 0) → after ≡ before → ((r : List MessageContent) → ready_bytes r ≡ ready_bytes before → Does r r) → MoreMoved before after Does
none_moved before after Does same does = record { more = []; is = same ∙ sym (append-nil before); other = λ r bytes. subst (Does r) (sym (append-nil r)) (does r bytes) }

window_same : (r : List MessageContent) (queue : ReassemblyState) → ready_bytes r ≡ ready_bytes queue.incoming.ready → window_used (with_ready r queue) ≡ window_used queue
window_same r queue bytes = omega (arith, bytes)

count_same : (size : ℕ) (r : List MessageContent) (queue : ReassemblyState) → ready_bytes r ≡ ready_bytes queue.incoming.ready → can_count size (with_ready r queue) ≡ can_count size queue
count_same size r queue bytes = ap (λ (w : ℕ). nat_lt (w + size) (2 ^ 64)) (window_same r queue bytes)

same_ready : (old new : ReassemblyState) → new ≡ old → new.incoming.ready ≡ old.incoming.ready
same_ready old new same = ap (λ (s : ReassemblyState). s.incoming.ready) same

-- ---- data

adds_moved : (tsn : ℕ) (chunk : ChunkModel) (old new : ReassemblyState) → AddsData tsn chunk old new → MoreMoved old.incoming.ready new.incoming.ready (λ r r'. AddsData tsn chunk (with_ready r old) (with_ready r' new))
adds_moved tsn chunk old new adds = go (can_count (length chunk.payload) old) refl (is_data_deferred tsn chunk.stream old.deferral) refl
  where
    go : (b : Bool) → can_count (length chunk.payload) old ≡ b → (c : Bool) → is_data_deferred tsn chunk.stream old.deferral ≡ c
        → MoreMoved old.incoming.ready new.incoming.ready (λ r r'. AddsData tsn chunk (with_ready r old) (with_ready r' new))
    go false is c deferred =
        none_moved old.incoming.ready new.incoming.ready _ (same_ready old new (adds.too_much is))
        (λ r bytes.
        record {
          taken = λ counts no. absurd (let clash : true ≡ false = sym counts ∙ count_same (length chunk.payload) r old bytes ∙ is in cc);
          deferred = λ counts waits. absurd (let clash : true ≡ false = sym counts ∙ count_same (length chunk.payload) r old bytes ∙ is in cc);
          too_much = λ counts. ap (with_ready r) (adds.too_much is);
        })
    go true is true deferred =
        none_moved old.incoming.ready new.incoming.ready _ (same_ready (with_deferred tsn chunk old) new (adds.deferred is deferred))
        (λ r bytes.
        record {
          taken = λ counts no. absurd (let clash : true ≡ false = sym deferred ∙ no in cc);
          deferred = λ counts waits. ap (with_ready r) (adds.deferred is deferred);
          too_much = λ counts. absurd (let clash : false ≡ true = sym counts ∙ count_same (length chunk.payload) r old bytes ∙ is in cc);
        })
    go true is false deferred =
        let takes = adds.taken is deferred in
        let m = incoming_more tsn chunk old.incoming new.incoming takes.incoming in
        record {
          more = m.more;
          is = m.is;
          other = λ r bytes. record {
            taken = λ counts no. record { incoming = m.other r; window = takes.window; overhead = takes.overhead; deferral = takes.deferral };
            deferred = λ counts waits. absurd (let clash : false ≡ true = sym deferred ∙ waits in cc);
            too_much = λ counts. absurd (let clash : false ≡ true = sym counts ∙ count_same (length chunk.payload) r old bytes ∙ is in cc);
          };
        }

-- the transfer with others ready
abbrev pub others_ready : List MessageContent → Transfer → Transfer
others_ready r transfer = record transfer { reassembly = with_ready r transfer.reassembly }

room_same : (tsn : ℕ) (r : List MessageContent) (transfer : Transfer) → ready_bytes r ≡ ready_bytes transfer.reassembly.incoming.ready → has_room tsn (others_ready r transfer) ≡ has_room tsn transfer
room_same tsn r transfer bytes =
    ap (λ (w : ℕ). not (nat_le (9 * transfer.reassembly.max_size) (10 * w)) || (transfer.tracker.follows_rfc && (is_below_highest tsn transfer.tracker
    && (nat_lt 0 (transfer.reassembly.max_size - w) || (is_first_missing tsn transfer.tracker && nat_lt w (min (2 * transfer.reassembly.max_size) (2 ^ 63))))))) (window_same r transfer.reassembly bytes)

-- what becomes ready of it
abbrev pub MoreOfTransfer : (Transfer → Transfer → Type 0) → Transfer → Transfer → Type 0
MoreOfTransfer Does old new = MoreMoved old.reassembly.incoming.ready new.reassembly.incoming.ready (λ r r'. Does (others_ready r old) (others_ready r' new))

pub received_moved : (arrival : Arrival) (old new : Transfer) → ReceivesData arrival old new → MoreOfTransfer (ReceivesData arrival) old new
received_moved arrival old new does = go (has_room arrival.tsn old && is_valid_tsn old.tracker.cumulative arrival.tsn) refl does
  where
    room : (r : List MessageContent) → ready_bytes r ≡ ready_bytes old.reassembly.incoming.ready → (b : Bool) → (has_room arrival.tsn old && is_valid_tsn old.tracker.cumulative arrival.tsn) ≡ b
        → (has_room arrival.tsn (others_ready r old) && is_valid_tsn old.tracker.cumulative arrival.tsn) ≡ b
    room r bytes b is = ap (λ (c : Bool). c && is_valid_tsn old.tracker.cumulative arrival.tsn) (room_same arrival.tsn r old bytes) ∙ is

    if_room : (b : Bool) → (has_room arrival.tsn old && is_valid_tsn old.tracker.cumulative arrival.tsn) ≡ b → (r r' : List MessageContent) → ready_bytes r ≡ ready_bytes old.reassembly.incoming.ready
        → ReceivesIfRoom b arrival (others_ready r old) (others_ready r' new) → ReceivesData arrival (others_ready r old) (others_ready r' new)
    if_room b is r r' bytes d = subst (λ (c : Bool). ReceivesIfRoom c arrival (others_ready r old) (others_ready r' new)) (sym (room r bytes b is)) d

    by_new : (b : Bool) → AddsIfNew b arrival.tsn arrival.chunk old.reassembly new.reassembly
        → MoreMoved old.reassembly.incoming.ready new.reassembly.incoming.ready (λ r r'. AddsIfNew b arrival.tsn arrival.chunk (with_ready r old.reassembly) (with_ready r' new.reassembly))
    by_new true adds = adds_moved arrival.tsn arrival.chunk old.reassembly new.reassembly adds
    by_new false same = none_moved old.reassembly.incoming.ready new.reassembly.incoming.ready _ (same_ready old.reassembly new.reassembly same) (λ r bytes. ap (with_ready r) same)

    drops : (b : Bool) → new ≡ dropping b old → new.reassembly ≡ old.reassembly
    drops true same = ap (λ (t : Transfer). t.reassembly) same
    drops false same = ap (λ (t : Transfer). t.reassembly) same

    dropping_other : (b : Bool) (r : List MessageContent) → new ≡ dropping b old → others_ready r new ≡ dropping b (others_ready r old)
    dropping_other true r same = ap (others_ready r) same
    dropping_other false r same = ap (others_ready r) same

    go : (b : Bool) → (has_room arrival.tsn old && is_valid_tsn old.tracker.cumulative arrival.tsn) ≡ b → ReceivesIfRoom b arrival old new → MoreOfTransfer (ReceivesData arrival) old new
    go true is takes =
        let m = by_new (is_new_tsn arrival.tsn old.tracker) takes.reassembly in
        record { more = m.more; is = m.is; other = λ r bytes. if_room true is r (r ++ m.more) bytes (record { reassembly = m.other r bytes; rest = ap (others_ready (r ++ m.more)) takes.rest }) }
    go false is same =
        none_moved old.reassembly.incoming.ready new.reassembly.incoming.ready _ (same_ready old.reassembly new.reassembly (drops (old.tracker.follows_rfc && is_valid_tsn old.tracker.cumulative arrival.tsn) same))
        (λ r bytes. if_room false is r r bytes (dropping_other (old.tracker.follows_rfc && is_valid_tsn old.tracker.cumulative arrival.tsn) r same))

-- A chunk whose TSN isn't new may be any.
pub other_chunk : (arrival : Arrival) (chunk : ChunkModel) (old new : Transfer) → is_new_tsn arrival.tsn old.tracker ≡ false → ReceivesData arrival old new → ReceivesData (record arrival { chunk = chunk }) old new
other_chunk arrival chunk old new late does = go (has_room arrival.tsn old && is_valid_tsn old.tracker.cumulative arrival.tsn) does
  where
    same_if : (b : Bool) → b ≡ false → AddsIfNew b arrival.tsn arrival.chunk old.reassembly new.reassembly → AddsIfNew b arrival.tsn chunk old.reassembly new.reassembly
    same_if true is adds = absurd (cc)
    same_if false is same = same

    go : (b : Bool) → ReceivesIfRoom b arrival old new → ReceivesIfRoom b (record arrival { chunk = chunk }) old new
    go true takes = record { reassembly = same_if (is_new_tsn arrival.tsn old.tracker) late takes.reassembly; rest = takes.rest }
    go false same = same

-- ---- a FORWARD-TSN

skips_moved : (tsn : ℕ) (entries : List SkippedTo) (old new : ReassemblyState) → SkipsData tsn entries old new → MoreMoved old.incoming.ready new.incoming.ready (λ r r'. SkipsData tsn entries (with_ready r old) (with_ready r' new))
skips_moved tsn entries old new skips = go (is_forward_deferred tsn old.deferral) refl
  where
    go : (b : Bool) → is_forward_deferred tsn old.deferral ≡ b → MoreMoved old.incoming.ready new.incoming.ready (λ r r'. SkipsData tsn entries (with_ready r old) (with_ready r' new))
    go true is =
        let (waits, same, far) = deferred_by tsn old.deferral is in
        let beside = skips.deferred is waits same in
        let m = moves_more tsn _ old.incoming new.incoming beside.incoming in
        record {
          more = m.more;
          is = m.is;
          other = λ r bytes. record {
            moved = λ no. absurd (let clash : true ≡ false = sym is ∙ no in cc);
            deferred = λ yes others known. (
                let one : waits ≡ others = (let both : Some waits ≡ Some others = sym same ∙ known in cc) in
                subst (λ (w : DeferralModel). ForwardsBeside tsn entries w (with_ready r old) (with_ready (r ++ m.more) new)) one (record { incoming = m.other r; window = beside.window; overhead = beside.overhead; deferral = beside.deferral })
                );
          };
        }
    go false is =
        let moved = skips.moved is in
        let m = moves_more tsn entries old.incoming new.incoming moved.incoming in
        record {
          more = m.more;
          is = m.is;
          other = λ r bytes. record {
            moved = λ no. record { incoming = m.other r; window = moved.window; overhead = moved.overhead; deferral = moved.deferral };
            deferred = λ yes. absurd (let clash : false ≡ true = sym is ∙ yes in cc);
          };
        }

pub forwarded_moved : (tsn : ℕ) (entries : List SkippedTo) (old new : Transfer) → MovesForward tsn entries old new → MoreOfTransfer (MovesForward tsn entries) old new
forwarded_moved tsn entries old new does = go (is_valid_tsn old.tracker.cumulative tsn) does
  where
    by_move : (b : Bool) → SkipsIfMoved b tsn entries old.reassembly new.reassembly
        → MoreMoved old.reassembly.incoming.ready new.reassembly.incoming.ready (λ r r'. SkipsIfMoved b tsn entries (with_ready r old.reassembly) (with_ready r' new.reassembly))
    by_move true skips = skips_moved tsn entries old.reassembly new.reassembly skips
    by_move false same = none_moved old.reassembly.incoming.ready new.reassembly.incoming.ready _ (same_ready old.reassembly new.reassembly same) (λ r bytes. ap (with_ready r) same)

    go : (b : Bool) → MovesIfForward b tsn entries old new → MoreMoved old.reassembly.incoming.ready new.reassembly.incoming.ready (λ r r'. MovesIfForward b tsn entries (others_ready r old) (others_ready r' new))
    go true goes =
        let m = by_move (is_forward old.tracker.cumulative tsn) goes.reassembly in
        record { more = m.more; is = m.is; other = λ r bytes. record { reassembly = m.other r bytes; rest = ap (others_ready (r ++ m.more)) goes.rest } }
    go false same = none_moved old.reassembly.incoming.ready new.reassembly.incoming.ready _ (ap (λ (t : Transfer). t.reassembly.incoming.ready) same) (λ r bytes. ap (others_ready r) same)
