-- Data that comes, what is skipped and what is reset: each has an outcome in what was received.
use Rattle.std.proofs.Common.{◌≡◌, ◌==◌, ℕ, zero, suc, ◌<◌, ◌≤◌, nat_lt, Bool, true, false, if◌then◌else◌, List, [], ◌∷◌, length, Option, None, Some, arith, refl, ◌∙◌, ap}
use Rattle.std.specs.Prelude.{MatchBool, slice_get}
use Rattle.std.specs.BTreeMap.{is_at}
use Rattle.std.specs.Ordering.{nat_cmp}
use Rattle.std.proofs.lemmas.Bool.Decides.{nat_tests}
use Rattle.std.proofs.lemmas.List.{take-append-drop}
use native.Mathlib.Numerals.{unary_clauses}
use Rattle.dcsctp_spec.specs.types.declared.arrivals.Numbering.{Numbering}
use Rattle.dcsctp_spec.specs.types.declared.arrivals.Numbering.TheVariants.{Ordered, Unordered, InterleavedOrdered, InterleavedUnordered}
use Rattle.dcsctp_spec.specs.types.declared.arrivals.SkippedTo.{SkippedTo}
use Rattle.dcsctp_spec.specs.types.declared.arrivals.Taken.{Taken}
use Rattle.dcsctp_spec.specs.queues.Incoming.{IncomingModel, MovesOn, ResetsStreams, TakesChunk, TakesIncomingChunk, TakesStreamData, is_named, stream_skipping, stream_on}
use Rattle.dcsctp_spec.specs.queues.IncomingStreams.{ChunkModel, IsNumberPlace, IsNumberedBelow, StreamModel, TakesAhead, TakesInOrder, TakesNumberedPart, numbered_part, TakesOrdered, TakesUnordered, WaitsAmong, data_part, delivered_as, is_number_waiting, new_stream, next_after, not_due, stream_after_skip, skipped_stream}
use Rattle.dcsctp_spec.specs.types.queues.Messages.{MessageContent}
use Rattle.dcsctp_spec.specs.queues.Numbers.{fragment_place, number_near, short_number_from}
use Rattle.dcsctp_spec.specs.queues.Runs.{AssemblesPart, AddsPart, Assembly, IsRunPlace, PartModel, PassesAlone, RunModel, WholeModel, entry_before, following, follows, is_held_before, is_whole, merged_run, message_whole, part_dropped, part_kept, precedes, preceding}

pub by_test : {A : Type 0} → (test : Bool) → (test ≡ true → A) → (test ≡ false → A) → A
by_test true holds fails = holds refl
by_test false holds fails = fails refl

-- how many bytes of a part are kept, and how many messages are ready
abbrev taken_as : ℕ → ℕ → Taken
taken_as kept ready = record { kept_bytes = kept; ready = ready }

-- The relation, of what is taken and what is left, isn't empty.
abbrev HasOutcome : {X : Type 0} → (Taken → X → List MessageContent → Type 0) → Type 0
HasOutcome {X} takes = (taken : Taken) × (new : X) × (after : List MessageContent) × takes taken new after

-- ---- a part

any_place : (place : ℕ) (runs : List RunModel) → (at : ℕ) × IsRunPlace at place runs
any_place place [] = (0, record { within = omega arith; before = tt; behind = tt })
any_place place (run ∷ runs) =
    let (at, rest) = any_place place runs in
    by_test (nat_lt place run.first)
    (λ behind. (0, record { within = omega arith; before = tt; behind = grind (arith, nat_tests) }))
    (λ starts. (suc at, go at rest (grind (arith, nat_tests))))
  where
    go : (at : ℕ) → IsRunPlace at place runs → run.first ≤ place → IsRunPlace (suc at) place (run ∷ runs)
    go zero is starts = record { within = omega arith; before = starts; behind = is.behind }
    go (suc at) is starts = record { within = omega (arith, is.within); before = is.before; behind = is.behind }

-- A beginning follows on no run, and no run follows on an end.
not_following : (o : Option RunModel) (part : PartModel) → part.is_beginning ≡ true → following o part ≡ None
not_following None part begins = refl
not_following (Some run) part begins = let apart : follows run part ≡ false = grind (arith, nat_tests) in rw apart refl

not_preceding : (part : PartModel) (o : Option RunModel) → part.is_end ≡ true → preceding part o ≡ None
not_preceding part None ends = refl
not_preceding part (Some run) ends = let apart : precedes part run ≡ false = grind (arith, nat_tests) in rw apart refl

passes_alone : (at : ℕ) (part : PartModel) (old : List RunModel) (outcome : Assembly) (new : List RunModel) → AssemblesPart at part old outcome new → part.is_beginning ≡ true → part.is_end ≡ true → PassesAlone part old outcome new
passes_alone at part old part_dropped new adds begins ends = adds.1
passes_alone at part old part_kept new adds begins ends =
    let alone = rw (not_following (entry_before at old) part begins, not_preceding part (slice_get old at) ends) at adds.1 in absurd (cc)
passes_alone at part old (message_whole whole) new adds begins ends =
    let before = not_following (entry_before at old) part begins in
    let behind = not_preceding part (slice_get old at) ends in
    (adds.3 ∙ rw (before, behind) (take-append-drop at old), adds.2 ∙ rw (before, behind) refl)

any_at : (at : ℕ) (part : PartModel) (old : List RunModel) → (outcome : Assembly) × (new : List RunModel) × AssemblesPart at part old outcome new
any_at at part old =
    by_test (is_held_before at old part.place)
    (λ held. (part_dropped, _, (held, refl)))
    (λ fresh. by_test (is_whole (merged_run at old part))
    (λ whole. (message_whole _, _, (fresh, whole, refl, refl)))
    (λ more. (part_kept, _, (fresh, more, refl))))

any_part : (part : PartModel) (old : List RunModel) → (outcome : Assembly) × (new : List RunModel) × AddsPart part old outcome new
any_part part old =
    let (at, place) = any_place part.place old in
    let (outcome, new, adds) = any_at at part old in
    (outcome, new, record { at = at; place = place; adds = adds; alone = passes_alone at part old outcome new adds })

-- ---- data on a stream

any_turn : (number : ℕ) (waiting : List WholeModel) → (at : ℕ) × IsNumberPlace at number waiting
any_turn number [] = (0, record { within = omega arith; before = λ _. tt; behind = tt })
any_turn number (whole ∷ waiting) =
    let (at, turn) = any_turn number waiting in
    by_test (nat_lt whole.number number)
    (λ below. (suc at, record { within = let few = turn.within in omega (arith, few); before = λ _. simp unary_clauses (go at turn (grind (arith, nat_tests))); behind = turn.behind }))
    (λ from. (0, record { within = omega arith; before = λ above. absurd (omega arith); behind = grind (arith, nat_tests) }))
  where
    go : (at : ℕ) → IsNumberPlace at number waiting → whole.number < number → IsNumberedBelow number (slice_get (whole ∷ waiting) at)
    go zero turn below = below
    go (suc at) turn below = simp unary_clauses at (turn.before (omega arith))

-- what waits once a whole message is taken
any_waiting : (whole : WholeModel) (old : StreamModel) → (waiting : List WholeModel) × MatchBool (whole.number == old.next) (waiting ≡ not_due (next_after old.next whole) old.waiting) (WaitsAmong whole old.waiting waiting)
any_waiting whole old = go (whole.number == old.next)
  where
    go : (is_next : Bool) → (waiting : List WholeModel) × MatchBool is_next (waiting ≡ not_due (next_after old.next whole) old.waiting) (WaitsAmong whole old.waiting waiting)
    go true = (_, refl)
    go false = let (at, turn) = any_turn whole.number old.waiting in (_, record { at = at; turn = turn; waiting = refl })

any_ordered : (part : PartModel) (old : StreamModel) (before : List MessageContent) → HasOutcome (TakesOrdered part old before)
any_ordered part old before = let (outcome, ordered, parts) = any_part part old.ordered in go outcome ordered parts
  where
    go : (outcome : Assembly) (ordered : List RunModel) → AddsPart part old.ordered outcome ordered → HasOutcome (TakesOrdered part old before)
    go part_dropped ordered parts =
        (taken_as 0 0, record old { ordered = ordered }, _, record { outcome = part_dropped; parts = parts; does = (ap (λ runs. record old { ordered = runs }) parts.adds.1, refl, (refl, refl)); id = refl; unordered = (refl, refl) })
    go part_kept ordered parts =
        (taken_as (length part.payload) 0, record old { ordered = ordered }, _, record { outcome = part_kept; parts = parts; does = (refl, refl, refl, (refl, refl)); id = refl; unordered = (refl, refl) })
    go (message_whole whole) ordered parts =
        let (waiting, waits) = any_waiting whole old in (
          record { kept_bytes = length part.payload; ready = _ },
          record old { next = _; waiting = waiting; ordered = ordered },
          _,
          record { outcome = message_whole whole; parts = parts; does = record { kept = refl; ready = refl; count = refl; next = refl; waiting = waits }; id = refl; unordered = (refl, refl) },
        )

any_unordered : (part : PartModel) (shown : WholeModel → MessageContent) (old : List RunModel) (before : List MessageContent) → HasOutcome (TakesUnordered part shown old before)
any_unordered part shown old before = let (outcome, new, parts) = any_part part old in go outcome new parts
  where
    go : (outcome : Assembly) (new : List RunModel) → AddsPart part old outcome new → HasOutcome (TakesUnordered part shown old before)
    go part_dropped new parts = (taken_as 0 0, new, _, record { outcome = part_dropped; parts = parts; does = (refl, (refl, refl)) })
    go part_kept new parts = (taken_as (length part.payload) 0, new, _, record { outcome = part_kept; parts = parts; does = (refl, (refl, refl)) })
    go (message_whole whole) new parts = (taken_as (length part.payload) 1, new, _, record { outcome = message_whole whole; parts = parts; does = (refl, refl, refl) })

any_ahead : (part : PartModel) (old : StreamModel) (before : List MessageContent) → HasOutcome (TakesAhead part old before)
any_ahead part old before =
    by_test (is_number_waiting part.number old.waiting)
    (λ waits.
    let (taken, new, after, takes) = any_unordered part (delivered_as old.id) old.ordered before in
    (taken, record old { ordered = new }, after, record { repeated = λ _. record { ordered = takes; others = (refl, refl, refl, refl); last = refl }; fresh = λ none. absurd (cc) }))
    (λ fresh.
    let (taken, new, after, takes) = any_ordered part old before in
    (taken, new, after, record { repeated = λ waits. absurd (cc); fresh = λ _. takes }))

any_in_order : (part : PartModel) (old : StreamModel) (before : List MessageContent) → HasOutcome (TakesInOrder part old before)
any_in_order part old before =
    by_test (nat_lt part.number old.next)
    (λ past. (taken_as 0 0, old, before, record { past = λ _. ((refl, refl), refl, refl); ahead = λ from. absurd (grind (arith, nat_tests)) }))
    (λ ahead.
    let (taken, new, after, takes) = any_ahead part old before in
    (taken, new, after, record { past = λ below. absurd (grind (arith, nat_tests)); ahead = λ _. takes }))

any_numbered : (tsn : ℕ) (chunk : ChunkModel) (numbering : Numbering) (old : StreamModel) (before : List MessageContent) → HasOutcome (TakesNumberedPart (numbered_part tsn chunk numbering old) old before)
any_numbered tsn chunk (Ordered ssn) old before =
    any_ahead (data_part chunk (fragment_place (short_number_from old.next ssn) tsn) (short_number_from old.next ssn)) old before
any_numbered tsn chunk Unordered old before =
    let (taken, new, after, takes) = any_unordered (data_part chunk tsn 0) (delivered_as old.id) old.unordered before in
    (taken, record old { unordered = new }, after, record { unordered = takes; others = (refl, refl, refl, refl); last = refl })
any_numbered tsn chunk (InterleavedOrdered mid fsn) old before =
    any_in_order (data_part chunk (fragment_place (number_near old.next mid) fsn) (number_near old.next mid)) old before
any_numbered tsn chunk (InterleavedUnordered mid fsn) old before =
    let number = number_near old.last_unordered mid in
    let (taken, new, after, takes) = any_unordered (data_part chunk (fragment_place number fsn) number) (delivered_as old.id) old.unordered before in
    (taken, record old { last_unordered = number; unordered = new }, after, record { unordered = takes; last = refl; others = (refl, refl, refl, refl) })

-- ---- all streams

-- the streams with one in front
on_front : (id other : ℕ) (stream : StreamModel) (streams : List (ℕ × StreamModel)) → stream_on other ((id, stream) ∷ streams) ≡ (if id == other then stream else stream_on other streams)
on_front id other stream streams = by_test (id == other) (λ same. rw (is_it, same) refl) (λ apart. rw (is_it, apart) refl)
  where
    is_it : is_at (nat_cmp other) id ≡ (id == other)
    is_it = grind (arith, nat_tests)

any_stream_data : (tsn : ℕ) (chunk : ChunkModel) (old : IncomingModel) → (new : IncomingModel) × TakesStreamData tsn chunk old new × new.last_tsn_number ≡ tsn
any_stream_data tsn chunk old =
    let (taken, new, after, takes) = any_numbered tsn chunk chunk.numbering (stream_on chunk.stream old.streams) old.ready in
    let here : stream_on chunk.stream ((chunk.stream, new) ∷ old.streams) ≡ new = on_front chunk.stream chunk.stream new old.streams ∙ grind (arith, nat_tests) in (
      record { messages_received = _; ready = after; streams = (chunk.stream, new) ∷ old.streams; unordered = old.unordered; last_tsn_number = tsn },
      record { taken = taken; does = rw here takes; others = λ id apart. on_front chunk.stream id new old.streams ∙ grind (arith, nat_tests); received = refl; unordered = refl },
      refl,
    )

any_chunk : (tsn : ℕ) (numbering : Numbering) (chunk : ChunkModel) (old : IncomingModel) → (new : IncomingModel) × TakesChunk tsn numbering chunk old new × new.last_tsn_number ≡ tsn
any_chunk tsn (Ordered ssn) chunk old = any_stream_data tsn chunk old
any_chunk tsn Unordered chunk old =
    let (taken, new, after, takes) = any_unordered (data_part chunk tsn chunk.stream) (delivered_as chunk.stream) old.unordered old.ready in
    (record old { messages_received = _; ready = after; unordered = new; last_tsn_number = tsn }, record { taken = taken; does = takes; received = refl; streams = refl }, refl)
any_chunk tsn (InterleavedOrdered mid fsn) chunk old = any_stream_data tsn chunk old
any_chunk tsn (InterleavedUnordered mid fsn) chunk old = any_stream_data tsn chunk old

pub any_data : (tsn : ℕ) (chunk : ChunkModel) (old : IncomingModel) → (new : IncomingModel) × TakesIncomingChunk tsn chunk old new
any_data tsn chunk old =
    let (new, takes, last) = any_chunk (number_near old.last_tsn_number tsn) chunk.numbering chunk old in
    (new, record { takes = takes; last = last })

-- the streams once all entries are handled
any_streams : (entries : List SkippedTo) (old : List (ℕ × StreamModel)) → (new : List (ℕ × StreamModel)) × ((id : ℕ) → stream_on id new ≡ stream_skipping entries id (stream_on id old))
any_streams [] old = (old, λ id. refl)
any_streams (entry ∷ entries) old =
    let stream = stream_after_skip entry (stream_on (skipped_stream entry) old) in
    let (new, rest) = any_streams entries ((skipped_stream entry, stream) ∷ old) in (
      new,
      λ id. rest id ∙ ap (λ stream. stream_skipping entries id stream) (by_test (skipped_stream entry == id)
          (λ same. let equal : skipped_stream entry ≡ id = grind (arith, nat_tests) in rw (on_front (skipped_stream entry) id stream old, same, equal) refl)
          (λ apart. rw (on_front (skipped_stream entry) id stream old, apart) refl)),
    )

pub any_moved : (tsn : ℕ) (entries : List SkippedTo) (old : IncomingModel) → (new : IncomingModel) × MovesOn tsn entries old new
any_moved tsn entries old =
    let (new, skips) = any_streams entries old.streams in
    (record { messages_received = _; ready = _; streams = new; unordered = _; last_tsn_number = _ }, record { streams = skips; ready = refl; received = refl; unordered = refl; last = refl })

-- the streams once those that are named start again
any_anew : (resets : List ℕ) (old : List (ℕ × StreamModel)) → (new : List (ℕ × StreamModel)) × ((id : ℕ) → stream_on id new ≡ (if is_named resets id then new_stream id else stream_on id old))
any_anew [] old = (old, λ id. refl)
any_anew (reset ∷ resets) old =
    let (new, rest) = any_anew resets old in (
      (reset, new_stream reset) ∷ new,
      λ id. by_test (reset == id)
          (λ same. let equal : reset ≡ id = grind (arith, nat_tests) in rw (on_front reset id (new_stream reset) new, same) (ap new_stream equal))
          (λ apart. rw (on_front reset id (new_stream reset) new, apart) (rest id)),
    )

pub any_reset : (streams : List ℕ) (old : IncomingModel) → (new : IncomingModel) × ResetsStreams streams old new
any_reset [] old = (record old { streams = []; unordered = [] }, record { streams = λ id. refl; unordered = refl; kept = record { ready = refl; received = refl; last = refl } })
any_reset (reset ∷ resets) old =
    let (new, anew) = any_anew (reset ∷ resets) old.streams in
    (record old { streams = new; unordered = _ }, record { streams = anew; unordered = refl; kept = record { ready = refl; received = refl; last = refl } })
