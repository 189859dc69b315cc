-- A stream that was reset stays clear: nothing of it comes any more, and what is for other streams
-- leaves it alone.
use Rattle.std.proofs.Common.{◌≡◌, ◌≢◌, ◌==◌, ℕ, Bool, true, false, ◌<◌, ◌≤◌, ◌+◌, ◌%◌, ◌^◌, List, [], ◌∷◌, ◌++◌, refl, sym, ◌∙◌, ap, arith, length, subst, inl, inr}
use Rattle.std.specs.Prelude.{◌&&◌, not, if◌then◌else◌, Option, None, Some}
use Rattle.std.proofs.lemmas.Bool.Decides.{nat_tests, eqb_tells}
use Rattle.dcsctp_spec_lemmas.specs.types.declared.arrivals.Numbering.{Numbering}
use Rattle.dcsctp_spec_lemmas.specs.types.declared.arrivals.Numbering.TheVariants.{Ordered, Unordered, InterleavedOrdered, InterleavedUnordered}
use Rattle.dcsctp_spec_lemmas.specs.types.declared.arrivals.SkippedTo.{SkippedTo}
use Rattle.dcsctp_spec_lemmas.specs.types.declared.arrivals.SkippedTo.TheVariants.{Ssn, Mid}
use Rattle.dcsctp_spec_lemmas.specs.spec.queues.Arrivals.{Arrival}
use Rattle.dcsctp_spec_lemmas.specs.spec.queues.Incoming.{IncomingModel, stream_on, TakesChunk, TakesIncomingChunk, skipped_on, stream_skipping, MovesOn, is_named, ResetsStreams}
use Rattle.dcsctp_spec_lemmas.specs.spec.queues.IncomingStreams.{ChunkModel, StreamModel, new_stream, skipped_stream, stream_after_skip}
use Rattle.dcsctp_spec_lemmas.specs.types.queues.Messages.{MessageContent}
use Rattle.dcsctp_spec_lemmas.specs.spec.queues.Reassembly.{WaitingModel, WaitingSkips, DeferralModel, ReassemblyState, can_count, entries_within, entries_beside, names_stream, is_data_deferred, is_forward_deferred, with_waiting, begun_deferral, deferring, with_ready, AddsData, SkipsData, SkipsThen, HandlesAll, waiting_of, skips_of, EndsDeferral}
use Rattle.dcsctp_spec_lemmas.specs.spec.queues.Tracker.{TrackerState, has_received, nearest_number, is_new_tsn, is_forward, is_valid_tsn}
use Rattle.dcsctp_spec_lemmas.specs.spec.queues.Transfer.{Transfer}
use Rattle.dcsctp_spec_lemmas.specs.spec.endpoint.TransferMoves.{AddsIfNew, has_room, dropping, ReceivesIfRoom, SkipsIfMoved, MovesIfForward, ReceivesData, MovesForward}
use Rattle.dcsctp_delivery_directions.specs.sending.Places.{HasEntry, at_place}
use Rattle.dcsctp_delivery_directions.specs.sending.Log.{Message, Piece, Mark, History, Resets}
use Rattle.dcsctp_delivery_directions.specs.sending.Numbers.{AreOfKind}
use Rattle.dcsctp_delivery_directions.proofs.sending.Places.{at_below}
use Rattle.dcsctp_delivery_directions.specs.receiving.Clear.{NoneSkips, NoneWaits, IsClear, IsOver}
use Rattle.dcsctp_delivery_directions.specs.receiving.Ready.{SkipsEntry, SkipAll}
use Rattle.dcsctp_delivery_directions.specs.receiving.Received.{Carries, IsTsn, kept_entries, Few, HasReceived}
use Rattle.dcsctp_delivery_directions.specs.receiving.Tracked.{tracked_number, Tracks}
use Rattle.dcsctp_delivery_directions.proofs.receiving.Kept.{all_left, all_kept, deferred_by}
use Rattle.dcsctp_delivery_directions.proofs.receiving.Tracked.{number_is, up_to}

-- ---- numbers

-- A TSN before the mark isn't new.
pub old_tsn : (first count offset bound : ℕ) (taken : List ℕ) (tracker : TrackerState) → first < 2 ^ 32 → count < 2 ^ 31 → offset < count → Tracks first count taken tracker → offset < bound
    → tracked_number first bound ≤ tracker.cumulative + 1 → is_new_tsn ((first + offset) % 2 ^ 32) tracker ≡ true → ⊥
old_tsn first count offset bound taken tracker small few below tracks before passed new =
    let here = number_is first count offset tracker.cumulative small few below tracks.reached tracks.started in
    let up : tracked_number first offset ≤ tracker.cumulative = omega (arith, before, passed) in
    let known : has_received tracker (nearest_number tracker.cumulative ((first + offset) % 2 ^ 32)) ≡ true = ap (has_received tracker) here ∙ up_to tracker.cumulative (tracked_number first offset) tracker.ranges up in
    let clash : false ≡ true = sym (ap not known) ∙ new in
    absurd (cc)

-- A TSN that is forward lies beyond the mark.
pub forward_behind : (first count offset bound : ℕ) (taken : List ℕ) (tracker : TrackerState) → first < 2 ^ 32 → count < 2 ^ 31 → offset < count → Tracks first count taken tracker
    → tracked_number first bound ≤ tracker.cumulative + 1 → is_forward tracker.cumulative ((first + offset) % 2 ^ 32) ≡ true → bound < offset + 1
forward_behind first count offset bound taken tracker small few below tracks passed forward =
    let here = number_is first count offset tracker.cumulative small few below tracks.reached tracks.started in
    let ahead : tracker.cumulative < nearest_number tracker.cumulative ((first + offset) % 2 ^ 32) = grind (arith, nat_tests, forward) in
    let ahead' : tracker.cumulative < tracked_number first offset = subst (λ (n : ℕ). tracker.cumulative < n) here ahead in
    omega (arith, ahead', passed)

-- ---- entries of other streams

-- An entry skips no message of the stream if more TSNs are passed than came before the mark.
pub skips_others : (history : History) (passed id : ℕ) (mark : Mark) → AreOfKind true history.log → HasEntry mark history.marks → Resets mark id
    → ((n : ℕ) (f : Piece) → at_place n history.log ≡ Some (Some f) → f.message.stream ≡ id → n < mark.bound) → mark.bound < passed
    → (entry : SkippedTo) → SkipsEntry history passed entry → skipped_stream entry ≢ id
skips_others history passed id mark kinds has names below beyond (Ssn stream ssn) skips = λ e. (
    let clash : true ≡ false = sym (kinds skips.number skips.piece skips.at) ∙ skips.kind in
    absurd (cc)
    )
skips_others history passed id mark kinds has names below beyond (Mid stream is_unordered mid) skips = λ e. (
    let on : skips.piece.message.stream ≡ id = sym skips.stream ∙ e in
    let few = skips.within mark has (subst (λ (s : ℕ). Resets mark s) (sym on) names) (below skips.number skips.piece skips.at on) in
    absurd (omega (arith, few, beyond))
    )

pub all_skip_others : (history : History) (passed id : ℕ) (mark : Mark) → AreOfKind true history.log → HasEntry mark history.marks → Resets mark id
    → ((n : ℕ) (f : Piece) → at_place n history.log ≡ Some (Some f) → f.message.stream ≡ id → n < mark.bound) → mark.bound < passed
    → (entries : List SkippedTo) → SkipAll history passed entries → NoneSkips id entries
all_skip_others history passed id mark kinds has names below beyond [] skips = tt
all_skip_others history passed id mark kinds has names below beyond (entry ∷ entries) skips =
    (skips_others history passed id mark kinds has names below beyond entry skips.0, all_skip_others history passed id mark kinds has names below beyond entries skips.1)

on_others : (entry : SkippedTo) (id : ℕ) (stream : StreamModel) → skipped_stream entry ≢ id → skipped_on entry id stream ≡ stream
on_others entry id stream ne = go (skipped_stream entry == id) (elim (eqb_tells (skipped_stream entry) id) [ inl e ↦ absurd (ne e.1) | inr e ↦ e.0 ])
  where
    go : (b : Bool) → b ≡ false → (if b then stream_after_skip entry stream else stream) ≡ stream
    go true e = absurd (cc)
    go false e = refl

all_on_others : (entries : List SkippedTo) (id : ℕ) (stream : StreamModel) → NoneSkips id entries → stream_skipping entries id stream ≡ stream
all_on_others [] id stream none = refl
all_on_others (entry ∷ entries) id stream none = ap (stream_skipping entries id) (on_others entry id stream none.0) ∙ all_on_others entries id stream none.1

-- ---- the reassembly queue

takes_others : (id tsn : ℕ) (chunk : ChunkModel) (old new : IncomingModel) → chunk.stream ≢ id → TakesIncomingChunk tsn chunk old new → stream_on id new.streams ≡ stream_on id old.streams
takes_others id tsn chunk old new ne takes = go chunk.numbering _ takes.takes
  where
    go : (numbering : Numbering) (number : ℕ) → TakesChunk number numbering chunk old new → stream_on id new.streams ≡ stream_on id old.streams
    go (Ordered ssn) number t = t.others id (λ e. ne (sym e))
    go Unordered number t = ap (stream_on id) t.streams
    go (InterleavedOrdered mid fsn) number t = t.others id (λ e. ne (sym e))
    go (InterleavedUnordered mid fsn) number t = t.others id (λ e. ne (sym e))

moves_others : (id tsn : ℕ) (entries : List SkippedTo) (old new : IncomingModel) → NoneSkips id entries → MovesOn tsn entries old new → stream_on id new.streams ≡ stream_on id old.streams
moves_others id tsn entries old new none moves = moves.streams id ∙ all_on_others entries id (stream_on id old.streams) none

handles_others : (id : ℕ) (waiting : List WaitingModel) (old new : IncomingModel) → NoneWaits id waiting → HandlesAll waiting old new → stream_on id new.streams ≡ stream_on id old.streams
handles_others id [] old new none works = ap (λ (m : IncomingModel). stream_on id m.streams) works
handles_others id (one ∷ waiting) old new none (between, takes, rest) =
    handles_others id waiting between new none.1 rest ∙ takes_others id one.tsn one.chunk old between none.0 takes

skips_then_others : (id : ℕ) (skips : Option WaitingSkips) (old new : IncomingModel) → NoneSkips id (kept_entries skips) → SkipsThen skips old new → stream_on id new.streams ≡ stream_on id old.streams
skips_then_others id None old new none same = ap (λ (m : IncomingModel). stream_on id m.streams) same
skips_then_others id (Some skips) old new none moves = moves_others id skips.tsn (kept_entries (Some skips)) old new none moves

-- more data waits, of another stream

waits_others : (id : ℕ) (last : WaitingModel) (waiting : List WaitingModel) → last.chunk.stream ≢ id → NoneWaits id waiting → NoneWaits id (waiting ++ last ∷ [])
waits_others id last [] ne none = (ne, tt)
waits_others id last (one ∷ waiting) ne none = (none.0, waits_others id last waiting ne none.1)

deferred_others : (id : ℕ) (last : WaitingModel) (deferral : Option DeferralModel) → last.chunk.stream ≢ id → NoneWaits id (waiting_of deferral) → NoneWaits id (waiting_of (with_waiting last deferral))
deferred_others id last None ne none = tt
deferred_others id last (Some d) ne none = waits_others id last d.waiting ne none

deferred_kept : (id : ℕ) (last : WaitingModel) (deferral : Option DeferralModel) → NoneSkips id (kept_entries (skips_of deferral)) → NoneSkips id (kept_entries (skips_of (with_waiting last deferral)))
deferred_kept id last None kept = tt
deferred_kept id last (Some d) kept = kept

-- ---- data

added_elsewhere : (id tsn : ℕ) (chunk : ChunkModel) (old new : ReassemblyState) → chunk.stream ≢ id → IsClear id old → AddsData tsn chunk old new → IsClear id new
added_elsewhere id tsn chunk old new ne clear adds = go (can_count (length chunk.payload) old) refl (is_data_deferred tsn chunk.stream old.deferral) refl
  where
    go : (counts : Bool) → can_count (length chunk.payload) old ≡ counts → (waits : Bool) → is_data_deferred tsn chunk.stream old.deferral ≡ waits → IsClear id new
    go false counts waits deferred = subst (λ (s : ReassemblyState). IsClear id s) (sym (adds.too_much counts)) clear
    go true counts true deferred =
        subst (λ (s : ReassemblyState). IsClear id s) (sym (adds.deferred counts deferred))
        (record { stream = clear.stream; none = deferred_others id (record { tsn = tsn; chunk = chunk }) old.deferral ne clear.none; kept = deferred_kept id (record { tsn = tsn; chunk = chunk }) old.deferral clear.kept })
    go true counts false deferred =
        let takes = adds.taken counts deferred in
        record {
          stream = takes_others id tsn chunk old.incoming new.incoming ne takes.incoming ∙ clear.stream;
          none = subst (λ (d : Option DeferralModel). NoneWaits id (waiting_of d)) (sym takes.deferral) clear.none;
          kept = subst (λ (d : Option DeferralModel). NoneSkips id (kept_entries (skips_of d))) (sym takes.deferral) clear.kept;
        }

pub clear_through_data : (queued : List Message) (history : History) (first id : ℕ) (read : List ℕ) (offset : ℕ) (arrival : Arrival) (old new : Transfer) → Few history first
    → HasReceived queued history first read old.tracker old.reassembly → IsOver history first old.tracker.cumulative id → Carries history.log first offset arrival.tsn arrival.chunk → IsClear id old.reassembly
    → ReceivesData arrival old new → IsClear id new.reassembly
clear_through_data queued history first id read offset arrival old new few r over c clear receives =
    go (has_room arrival.tsn old && is_valid_tsn old.tracker.cumulative arrival.tsn) receives
  where
    elsewhere : is_new_tsn arrival.tsn old.tracker ≡ true → arrival.chunk.stream ≢ id
    elsewhere new_tsn e =
        old_tsn first (length history.log) offset over.mark.bound r.taken old.tracker few.small few.few (at_below offset (Some c.piece) history.log c.at) r.tracks
        (over.below offset c.piece c.at (sym c.stream ∙ e)) over.passed (subst (λ (t : ℕ). is_new_tsn t old.tracker ≡ true) c.is new_tsn)

    added : (b : Bool) → is_new_tsn arrival.tsn old.tracker ≡ b → AddsIfNew b arrival.tsn arrival.chunk old.reassembly new.reassembly → IsClear id new.reassembly
    added true is adds = added_elsewhere id arrival.tsn arrival.chunk old.reassembly new.reassembly (elsewhere is) clear adds
    added false is same = subst (λ (s : ReassemblyState). IsClear id s) (sym same) clear

    dropped : (b : Bool) → IsClear id (dropping b old).reassembly
    dropped true = clear
    dropped false = clear

    go : (b : Bool) → ReceivesIfRoom b arrival old new → IsClear id new.reassembly
    go true takes = added (is_new_tsn arrival.tsn old.tracker) refl takes.reassembly
    go false same = subst (λ (t : Transfer). IsClear id t.reassembly) (sym same) (dropped (old.tracker.follows_rfc && is_valid_tsn old.tracker.cumulative arrival.tsn))

-- ---- what is skipped

skipped_elsewhere : (id tsn : ℕ) (entries : List SkippedTo) (old new : ReassemblyState) → NoneSkips id entries → IsClear id old → SkipsData tsn entries old new → IsClear id new
skipped_elsewhere id tsn entries old new none clear skips = go (is_forward_deferred tsn old.deferral) refl
  where
    go : (b : Bool) → is_forward_deferred tsn old.deferral ≡ b → IsClear id new
    go true is =
        let (waits, same, far) = deferred_by tsn old.deferral is in
        let beside = skips.deferred is waits same in
        record {
          stream = moves_others id tsn (entries_beside waits.streams entries) old.incoming new.incoming
              (all_left (λ entry. skipped_stream entry ≢ id) (λ entry. not (names_stream waits.streams (skipped_stream entry))) entries none) beside.incoming ∙ clear.stream;
          none = subst (λ (d : Option DeferralModel). NoneWaits id (waiting_of d)) (sym beside.deferral) (subst (λ (d : Option DeferralModel). NoneWaits id (waiting_of d)) same clear.none);
          kept = subst (λ (d : Option DeferralModel). NoneSkips id (kept_entries (skips_of d))) (sym beside.deferral)
              (all_kept (λ entry. skipped_stream entry ≢ id) tsn (entries_within waits.streams entries) waits.skips
              (all_left (λ entry. skipped_stream entry ≢ id) (λ entry. names_stream waits.streams (skipped_stream entry)) entries none)
              (subst (λ (d : Option DeferralModel). NoneSkips id (kept_entries (skips_of d))) same clear.kept));
        }
    go false is =
        let moved = skips.moved is in
        record {
          stream = moves_others id tsn entries old.incoming new.incoming none moved.incoming ∙ clear.stream;
          none = subst (λ (d : Option DeferralModel). NoneWaits id (waiting_of d)) (sym moved.deferral) clear.none;
          kept = subst (λ (d : Option DeferralModel). NoneSkips id (kept_entries (skips_of d))) (sym moved.deferral) clear.kept;
        }

pub clear_through_forward : (queued : List Message) (history : History) (first id : ℕ) (read : List ℕ) (tsn : ℕ) (entries : List SkippedTo) (old new : Transfer) → AreOfKind true history.log → Few history first
    → HasReceived queued history first read old.tracker old.reassembly → IsOver history first old.tracker.cumulative id → (is : IsTsn history.log first tsn) → SkipAll history (is.offset + 1) entries → IsClear id old.reassembly
    → MovesForward tsn entries old new → IsClear id new.reassembly
clear_through_forward queued history first id read tsn entries old new kinds few r over is skips clear moves = go (is_valid_tsn old.tracker.cumulative tsn) moves
  where
    none : is_forward old.tracker.cumulative tsn ≡ true → NoneSkips id entries
    none forward =
        all_skip_others history (is.offset + 1) id over.mark kinds over.has over.names over.below
        (forward_behind first (length history.log) is.offset over.mark.bound r.taken old.tracker few.small few.few is.below r.tracks over.passed
        (subst (λ (t : ℕ). is_forward old.tracker.cumulative t ≡ true) is.is forward))
        entries skips

    gone : (b : Bool) → is_forward old.tracker.cumulative tsn ≡ b → SkipsIfMoved b tsn entries old.reassembly new.reassembly → IsClear id new.reassembly
    gone true forward stream_after_skip = skipped_elsewhere id tsn entries old.reassembly new.reassembly (none forward) clear stream_after_skip
    gone false forward same = subst (λ (s : ReassemblyState). IsClear id s) (sym same) clear

    go : (b : Bool) → MovesIfForward b tsn entries old new → IsClear id new.reassembly
    go true goes = gone (is_forward old.tracker.cumulative tsn) refl goes.reassembly
    go false same = subst (λ (t : Transfer). IsClear id t.reassembly) (sym same) clear

-- ---- streams that are reset, and the rest

-- The stream is new once the reset was performed: what was handled then is of others.
pub left_clear : (id : ℕ) (streams : List ℕ) (old new : ReassemblyState) → NoneWaits id (waiting_of old.deferral) → NoneSkips id (kept_entries (skips_of old.deferral))
    → ((between : IncomingModel) → ResetsStreams streams old.incoming between → stream_on id between.streams ≡ new_stream id)
    → EndsDeferral streams old new → IsClear id new
left_clear id streams old new none kept renewed leaves =
    record {
      stream = skips_then_others id (skips_of old.deferral) leaves.handled new.incoming kept leaves.skips
          ∙ handles_others id (waiting_of old.deferral) leaves.between leaves.handled none leaves.works ∙ renewed leaves.between leaves.resets;
      none = subst (λ (d : Option DeferralModel). NoneWaits id (waiting_of d)) (sym leaves.deferral) tt;
      kept = subst (λ (d : Option DeferralModel). NoneSkips id (kept_entries (skips_of d))) (sym leaves.deferral) tt;
    }

pub clear_through_resets : (id : ℕ) (streams : List ℕ) (old new : ReassemblyState) → IsClear id old → EndsDeferral streams old new → IsClear id new
clear_through_resets id streams old new clear leaves = left_clear id streams old new clear.none clear.kept (renewed streams) leaves
  where
    either : (b : Bool) → (if b then new_stream id else stream_on id old.incoming.streams) ≡ new_stream id
    either true = refl
    either false = clear.stream

    renewed : (named : List ℕ) (between : IncomingModel) → ResetsStreams named old.incoming between → stream_on id between.streams ≡ new_stream id
    renewed [] between resets = resets.streams id
    renewed (one ∷ others) between resets = resets.streams id ∙ either (is_named (one ∷ others) id)

pub clear_through_rest : (id : ℕ) (reassembly : ReassemblyState) → IsClear id reassembly
    → ((last_tsn : ℕ) (streams : List ℕ) → IsClear id (deferring last_tsn streams reassembly)) × ((messages : List MessageContent) → IsClear id (with_ready messages reassembly))
clear_through_rest id reassembly clear = (
  λ last_tsn streams. record { stream = clear.stream; none = begun last_tsn streams reassembly.deferral clear.none; kept = still_kept last_tsn streams reassembly.deferral clear.kept },
  λ messages. record { stream = clear.stream; none = clear.none; kept = clear.kept },
)
  where
    begun : (last_tsn : ℕ) (streams : List ℕ) (deferral : Option DeferralModel) → NoneWaits id (waiting_of deferral) → NoneWaits id (waiting_of (begun_deferral last_tsn streams deferral))
    begun last_tsn streams None none = tt
    begun last_tsn streams (Some d) none = none

    still_kept : (last_tsn : ℕ) (streams : List ℕ) (deferral : Option DeferralModel) → NoneSkips id (kept_entries (skips_of deferral)) → NoneSkips id (kept_entries (skips_of (begun_deferral last_tsn streams deferral)))
    still_kept last_tsn streams None kept = tt
    still_kept last_tsn streams (Some d) kept = kept
