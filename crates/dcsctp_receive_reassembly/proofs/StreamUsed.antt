-- How much of the receive window a stream uses, and the messages that are ready, once data came in or messages are skipped.
use Rattle.std.proofs.Common.{◌≡◌, ℕ, suc, ◌+◌, ◌-◌, ◌*◌, ◌≤◌, Bool, true, false, List, [], ◌∷◌, ◌++◌, length, map, take, drop, cond, if◌then◌else◌, arith, refl, ap, subst}
use Rattle.std.specs.Prelude.{nat_le, not}
use Rattle.std.specs.List.{filter}
use Rattle.std.proofs.lemmas.List.{length-map}
use Rattle.std.proofs.lemmas.List.Sums.{sum_by-append, sum_by-cons, sum_by-take-drop}
use Rattle.dcsctp_api.specs.types.queues.Messages.{MessageContent}
use Rattle.dcsctp_api.specs.types.declared.arrivals.SkippedTo.{SkippedTo}
use Rattle.dcsctp_api.specs.types.declared.arrivals.SkippedTo.TheVariants.{Ssn, Mid}
use Rattle.dcsctp_api.specs.spec.queues.Numbers.{number_near, short_number_near}
use Rattle.dcsctp_api.specs.spec.queues.Runs.{RunModel, PartModel, WholeModel, AddsPart, part_kept, message_whole, behind_place, part_used, run_used, runs_used, wholes_used}
use Rattle.dcsctp_api.specs.spec.queues.IncomingStreams.{StreamModel, delivered_as, due, not_due, next_after, next_past, deliveries_from, ready_with, ready_bytes, kept_stream_used, WaitsAmong, UnorderedOutcome, stream_after_skip, skip_deliveries, skip_used}
use Rattle.dcsctp_receive_reassembly.specs.declared.runs.Assembled.{Assembled}
use Rattle.dcsctp_receive_reassembly.specs.declared.runs.Assembled.TheVariants.{Dropped, Kept, Whole as WholeMessage}
use Rattle.dcsctp_receive_reassembly.specs.declared.runs.Whole.{Whole}
use Rattle.dcsctp_receive_reassembly.specs.declared.counting.Counted.{Counted}
use Rattle.dcsctp_receive_reassembly.specs.Counting.{CountsPart, CountsOutcome}
use Rattle.dcsctp_receive_reassembly.specs.Held.{capped_u128}
use Rattle.dcsctp_receive_reassembly.specs.Runs.{IsFreed, assembled_of, up_to_place, whole_of}
use Rattle.dcsctp_receive_reassembly.proofs.CountingLemmas.{counts_more, counts_nothing}
use Rattle.dcsctp_receive_reassembly.proofs.PartUsed.{PartCounted, part_counted}

abbrev size_of_message : MessageContent → ℕ
size_of_message message = length message.payload

abbrev used_of_whole : ℕ → WholeModel → ℕ
used_of_whole overhead whole = part_used overhead whole.payload

-- ---- delivery

module _ (overhead : ℕ) where
  delivered_used : (id : ℕ) (wholes : List WholeModel) → ready_bytes (map (delivered_as id) wholes) + length wholes * overhead ≡ wholes_used overhead wholes
  delivered_used id [] = omega arith
  delivered_used id (whole ∷ wholes) =
      let more : suc (length wholes) * overhead ≡ overhead + length wholes * overhead = grind arith in
      omega (
        arith,
        more,
        delivered_used id wholes,
        sum_by-cons size_of_message (delivered_as id whole) (map (delivered_as id) wholes),
        sum_by-cons (used_of_whole overhead) whole wholes,
      )

  due_used : (next : ℕ) (waiting : List WholeModel) → wholes_used overhead (due next waiting) + wholes_used overhead (not_due next waiting) ≡ wholes_used overhead waiting
  due_used next [] = refl
  due_used next (whole ∷ waiting) = go (nat_le whole.number next) (due_used (next_after next whole) waiting)
    where
      go : (comes : Bool) → wholes_used overhead (due (next_after next whole) waiting) + wholes_used overhead (not_due (next_after next whole) waiting) ≡ wholes_used overhead waiting
          → wholes_used overhead (if comes then whole ∷ due (next_after next whole) waiting else []) + wholes_used overhead (if comes then not_due (next_after next whole) waiting else whole ∷ waiting) ≡ wholes_used overhead (whole ∷ waiting)
      go true rest = omega (arith, rest, sum_by-cons (used_of_whole overhead) whole (due (next_after next whole) waiting), sum_by-cons (used_of_whole overhead) whole waiting)
      go false rest = omega arith

  -- Messages that were delivered have their bytes in use alone.
  pub deliveries_used : (next : ℕ) (stream : StreamModel)
      → ready_bytes (deliveries_from next stream) + length (deliveries_from next stream) * overhead + wholes_used overhead (not_due next stream.waiting) ≡ wholes_used overhead stream.waiting
  deliveries_used next stream =
      omega (
        arith,
        delivered_used stream.id (due next stream.waiting),
        due_used next stream.waiting,
        ap (λ (count : ℕ). count * overhead) (length-map (due next stream.waiting) (delivered_as stream.id)),
      )

  pub waits_used : (whole : WholeModel) (old new : List WholeModel) → WaitsAmong whole old new → wholes_used overhead new ≡ wholes_used overhead old + part_used overhead whole.payload
  waits_used whole old new waits =
      omega (
        arith,
        ap (wholes_used overhead) waits.waiting,
        sum_by-append (used_of_whole overhead) (take waits.at old) (whole ∷ drop waits.at old),
        sum_by-cons (used_of_whole overhead) whole (drop waits.at old),
        sum_by-take-drop (used_of_whole overhead) old waits.at,
      )

  -- ---- data

  -- a part of an unordered message
  pub unordered_counts : (part : PartModel) (id : ℕ) (old new : List RunModel) (before after : List MessageContent) (outcome : Assembled) (counted : Counted)
      → AddsPart part old (assembled_of outcome) new → UnorderedOutcome part (delivered_as id) before (assembled_of outcome) counted.taken after
      → IsFreed overhead old outcome new → CountsOutcome overhead (length part.payload) outcome counted
      → CountsPart (length part.payload + overhead) (runs_used overhead old + ready_bytes before) counted (runs_used overhead new + ready_bytes after)
  unordered_counts part id old new before after outcome counted adds does frees counts =
      go outcome (part_counted overhead part old (assembled_of outcome) new adds) does frees counts
    where
      go : (outcome : Assembled) → PartCounted overhead part old (assembled_of outcome) new → UnorderedOutcome part (delivered_as id) before (assembled_of outcome) counted.taken after
          → IsFreed overhead old outcome new → CountsOutcome overhead (length part.payload) outcome counted
          → CountsPart (length part.payload + overhead) (runs_used overhead old + ready_bytes before) counted (runs_used overhead new + ready_bytes after)
      go Dropped same does frees counts = counts_nothing _ _ _ counted counts.0 counts.1 (omega (arith, same, ap ready_bytes does.0))
      go Kept same does frees counts = counts_more _ _ _ counted counts.0 counts.1 (omega (arith, same, ap ready_bytes does.0))
      go (WholeMessage whole) fits does frees counts =
          let ready : ready_bytes after ≡ ready_bytes before + length whole.payload.items =
          omega (
            arith,
            ap ready_bytes does.0,
            sum_by-append size_of_message before (delivered_as id (whole_of whole) ∷ []),
            sum_by-cons size_of_message (delivered_as id (whole_of whole)) [],
          ) in
          record {
            fits = omega (arith, ready, fits);
            added = omega (arith, ready, counts.0);
            less = omega (arith, ready, frees.0, counts.0);
            freed = omega (arith, ready, frees.0, frees.1, counts.0, counts.1);
          }

  -- What is known of a part that makes its message whole.
  record MakesWhole (part : PartModel) (old : List RunModel) (whole : Whole) (new : List RunModel) : Type 0 where
    fits : runs_used overhead new + length whole.payload.items ≤ runs_used overhead old + length part.payload
    less : runs_used overhead new ≤ runs_used overhead old
    used : whole.used ≡ capped_u128 (runs_used overhead old - runs_used overhead new)

  makes_whole : (part : PartModel) (old new : List RunModel) (outcome : Assembled) (whole : Whole) → outcome ≡ WholeMessage whole
      → AddsPart part old (assembled_of outcome) new → IsFreed overhead old outcome new → MakesWhole part old whole new
  makes_whole part old new outcome whole is adds frees =
      let freed = subst (λ (o : Assembled). IsFreed overhead old o new) is frees in
      record { fits = part_counted overhead part old (message_whole (whole_of whole)) new (subst (λ (o : Assembled). AddsPart part old (assembled_of o) new) is adds); less = freed.0; used = freed.1 }

  -- a part of the next message is kept
  pub kept_counts : (part : PartModel) (old : StreamModel) (bytes : ℕ) (new : List RunModel) (outcome : Assembled) (counted : Counted) → outcome ≡ Kept
      → AddsPart part old.ordered (assembled_of outcome) new → counted.added ≡ length part.payload + overhead → counted.freed ≡ 0
      → CountsPart (length part.payload + overhead) (kept_stream_used overhead old + bytes) counted (kept_stream_used overhead (record old { ordered = new }) + bytes)
  kept_counts part old bytes new outcome counted is adds added freed =
      let more = part_counted overhead part old.ordered part_kept new (subst (λ (o : Assembled). AddsPart part old.ordered (assembled_of o) new) is adds) in
      counts_more _ _ _ counted added freed (omega (arith, more))

  -- a part of a later message is kept
  pub later_kept_counts : (part : PartModel) (old : StreamModel) (new : List RunModel) (outcome : Assembled) (counted : Counted) → outcome ≡ Kept
      → AddsPart part old.ordered (assembled_of outcome) new → counted.added ≡ length part.payload + overhead → counted.freed ≡ 0
      → CountsPart (length part.payload + overhead) (kept_stream_used overhead old) counted (kept_stream_used overhead (record old { ordered = new }))
  later_kept_counts part old new outcome counted is adds added freed =
      let more = part_counted overhead part old.ordered part_kept new (subst (λ (o : Assembled). AddsPart part old.ordered (assembled_of o) new) is adds) in
      counts_more _ _ _ counted added freed (omega (arith, more))

  -- the next message is whole, and is ready with those that waited for it
  pub next_counts : (part : PartModel) (whole : Whole) (old : StreamModel) (before after : List MessageContent) (left : List RunModel) (outcome : Assembled) (counted : Counted)
      → outcome ≡ WholeMessage whole → AddsPart part old.ordered (assembled_of outcome) left → IsFreed overhead old.ordered outcome left
      → after ≡ before ++ ready_with old (whole_of whole) → counted.added ≡ length whole.payload.items
      → counted.freed ≡ capped_u128 (whole.used + (length (ready_with old (whole_of whole)) - 1) * overhead)
      → CountsPart (length part.payload + overhead) (kept_stream_used overhead old + ready_bytes before) counted
      (wholes_used overhead (not_due (next_after old.next (whole_of whole)) old.waiting) + runs_used overhead left + runs_used overhead old.unordered + ready_bytes after)
  next_counts part whole old before after left outcome counted is adds frees ready added freed =
      let makes = makes_whole part old.ordered left outcome whole is adds frees in
      let count : length (ready_with old (whole_of whole)) - 1 ≡ length (deliveries_from (next_after old.next (whole_of whole)) old) = omega arith in
      let free : (length (ready_with old (whole_of whole)) - 1) * overhead ≡ length (deliveries_from (next_after old.next (whole_of whole)) old) * overhead = ap (λ (n : ℕ). n * overhead) count in
      let bytes : ready_bytes after ≡ ready_bytes before + length whole.payload.items + ready_bytes (deliveries_from (next_after old.next (whole_of whole)) old) =
      omega (
        arith,
        ap ready_bytes ready,
        sum_by-append size_of_message before (ready_with old (whole_of whole)),
        sum_by-cons size_of_message (delivered_as old.id (whole_of whole)) (deliveries_from (next_after old.next (whole_of whole)) old),
      ) in
      let waited = deliveries_used (next_after old.next (whole_of whole)) old in
      record {
        fits = omega (arith, bytes, waited, makes.fits);
        added = omega (arith, bytes, added);
        less = omega (arith, bytes, waited, added, makes.less);
        freed = omega (arith, bytes, waited, added, makes.less, makes.used, free, freed);
      }

  -- a later message is whole, and waits
  pub later_counts : (part : PartModel) (whole : Whole) (old : StreamModel) (left : List RunModel) (waiting : List WholeModel) (outcome : Assembled) (counted : Counted)
      → outcome ≡ WholeMessage whole → AddsPart part old.ordered (assembled_of outcome) left → IsFreed overhead old.ordered outcome left
      → WaitsAmong (whole_of whole) old.waiting waiting → counted.added ≡ length whole.payload.items + overhead → counted.freed ≡ whole.used
      → CountsPart (length part.payload + overhead) (kept_stream_used overhead old) counted (kept_stream_used overhead (record old { ordered = left; waiting = waiting }))
  later_counts part whole old left waiting outcome counted is adds frees waits added freed =
      let makes = makes_whole part old.ordered left outcome whole is adds frees in
      let more = waits_used (whole_of whole) old.waiting waiting waits in
      record {
        fits = omega (arith, more, makes.fits);
        added = omega (arith, more, added);
        less = omega (arith, more, added, makes.less);
        freed = omega (arith, more, added, makes.less, makes.used, freed);
      }

  -- ---- skipped messages

  pub parted_used : (drops : RunModel → Bool) (runs : List RunModel) → runs_used overhead (filter drops runs) + runs_used overhead (filter (λ run. not (drops run)) runs) ≡ runs_used overhead runs
  parted_used drops [] = refl
  parted_used drops (run ∷ runs) = go (drops run) (parted_used drops runs)
    where
      go : (dropped : Bool) → runs_used overhead (filter drops runs) + runs_used overhead (filter (λ run. not (drops run)) runs) ≡ runs_used overhead runs
          → runs_used overhead (cond dropped (run ∷ filter drops runs) (filter drops runs)) + runs_used overhead (cond (not dropped) (run ∷ filter (λ run. not (drops run)) runs) (filter (λ run. not (drops run)) runs)) ≡ runs_used overhead (run ∷ runs)
      go true rest = omega (arith, rest, sum_by-cons (run_used overhead) run (filter drops runs), sum_by-cons (run_used overhead) run runs)
      go false rest = omega (arith, rest, sum_by-cons (run_used overhead) run (filter (λ run. not (drops run)) runs), sum_by-cons (run_used overhead) run runs)

  pub skipped_used : (entry : SkippedTo) (stream : StreamModel)
      → kept_stream_used overhead (stream_after_skip entry stream) + ready_bytes (skip_deliveries entry stream) + (skip_used overhead entry stream + length (skip_deliveries entry stream) * overhead) ≡ kept_stream_used overhead stream
  skipped_used (Ssn id ssn) stream =
      omega (arith, parted_used (λ run. nat_le run.number (short_number_near stream.next ssn)) stream.ordered, deliveries_used (next_past (short_number_near stream.next ssn) stream.next) stream)
  skipped_used (Mid id false mid) stream =
      omega (arith, parted_used (λ run. nat_le run.number (number_near stream.next mid)) stream.ordered, deliveries_used (next_past (number_near stream.next mid) stream.next) stream)
  skipped_used (Mid id true mid) stream =
      omega (arith, parted_used (λ run. nat_le run.number (number_near stream.last_unordered mid)) stream.unordered)

  -- the runs in front that are dropped, and those after them
  pub placed_used : (place : ℕ) (runs : List RunModel) → runs_used overhead (up_to_place place runs) + runs_used overhead (behind_place place runs) ≡ runs_used overhead runs
  placed_used place [] = refl
  placed_used place (run ∷ runs) = go (nat_le run.first place) (placed_used place runs)
    where
      go : (dropped : Bool) → runs_used overhead (up_to_place place runs) + runs_used overhead (behind_place place runs) ≡ runs_used overhead runs
          → runs_used overhead (if dropped then run ∷ up_to_place place runs else []) + runs_used overhead (if dropped then behind_place place runs else run ∷ runs) ≡ runs_used overhead (run ∷ runs)
      go true rest = omega (arith, rest, sum_by-cons (run_used overhead) run (up_to_place place runs), sum_by-cons (run_used overhead) run runs)
      go false rest = omega arith
