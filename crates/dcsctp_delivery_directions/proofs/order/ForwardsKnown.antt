-- What is known of FORWARD-TSNs once another was received, and once a deferred reset ends.
use Rattle.std.proofs.Common.{◌≡◌, ℕ, Bool, true, false, ◌<◌, ◌≤◌, ◌+◌, ◌^◌, List, [], ◌∷◌, ◌++◌, refl, sym, ◌∙◌, ap, arith, subst, inl, inr}
use Rattle.std.specs.Prelude.{◌⊎◌, not, Option, Some}
use Rattle.std.specs.List.{AllByRecursion}
use Rattle.dcsctp_spec_lemmas.specs.types.declared.arrivals.SkippedTo.{SkippedTo}
use Rattle.dcsctp_spec_lemmas.specs.types.declared.arrivals.SkippedTo.TheVariants.{Ssn, Mid}
use Rattle.dcsctp_spec_lemmas.specs.spec.queues.Incoming.{IncomingModel, stream_on, stream_skipping, TakesIncomingChunk, MovesOn}
use Rattle.dcsctp_spec_lemmas.specs.spec.queues.IncomingStreams.{StreamModel, ChunkModel, skipped_stream}
use Rattle.dcsctp_spec_lemmas.specs.spec.queues.Reassembly.{WaitingSkips, DeferralModel, ReassemblyState, skips_of, entries_of, skip_key, names_stream, with_skips, with_entries, entries_within, entries_beside}
use Rattle.dcsctp_spec_lemmas.specs.spec.queues.Tracker.{TrackerState, has_received}
use Rattle.dcsctp_delivery_directions.specs.sending.Places.{HasEntry, at_place}
use Rattle.dcsctp_delivery_directions.specs.sending.Log.{Message, Piece, History, IsLogOfPieces, sent_messages}
use Rattle.dcsctp_delivery_directions.specs.sending.Numbers.{IsUnambiguous, AreOfKind}
use Rattle.dcsctp_delivery_directions.specs.sending.Naming.{IsOfPiece}
use Rattle.dcsctp_delivery_directions.specs.receiving.Ready.{NamesCurrent, NameAll}
use Rattle.dcsctp_delivery_directions.specs.receiving.Received.{kept_entries}
use Rattle.dcsctp_delivery_directions.specs.receiving.Tracked.{tracked_number}
use Rattle.dcsctp_delivery_directions.proofs.receiving.Kept.{all_kept}
use Rattle.dcsctp_delivery_directions.specs.order.Incoming.{IncomingOrdered, IsOrderedOrReset, NoneIsQuiet}
use Rattle.dcsctp_delivery_directions.specs.order.Reading.{Watch, CountsFromZero, OrderedStream}
use Rattle.dcsctp_delivery_directions.proofs.order.NextGrows.{chunk_grows}
use Rattle.dcsctp_delivery_directions.specs.order.Received.{ReassemblesInOrder, none_handled, some_handled, IsKeptSkip, WillSkip, IsSkipped, KnowsSkips}
use Rattle.dcsctp_delivery_directions.specs.order.Skips.{AreSkipsHandled}
use Rattle.dcsctp_delivery_directions.proofs.order.Forwarding.{HasSkip, IsPassedBy, entries_pass, among_left, from_left, name_in}
use Rattle.dcsctp_delivery_directions.proofs.order.KeptSkips.{IsKeptUnder, kept_still, kept_new}
use Rattle.dcsctp_delivery_directions.proofs.order.KnowsSkips.{all_reached, skipped_reached}

-- an entry that is kept for the ordered messages of a stream is one for these
shape_of : (history : History) (passed id : ℕ) (entry : SkippedTo) → AreOfKind true history.log → id < 2 ^ 16 → NamesCurrent history passed entry → skip_key entry ≡ 2 ^ 16 + id → (mid : ℕ) × (entry ≡ Mid (record { 0 = id }) false mid)
shape_of history passed id (Ssn stream ssn) kinds little (skips, current) is = absurd (let clash : true ≡ false = sym (kinds skips.number skips.piece skips.at) ∙ skips.kind in cc)
shape_of history passed id (Mid stream false mid) kinds little names is =
    let same : stream.0 ≡ id = omega (arith, is) in
    (mid, ap (λ (k : ℕ). Mid (record { 0 = k }) false mid) same)
shape_of history passed id (Mid stream true mid) kinds little names is = absurd (omega (arith, is, little))

either_named : (streams : List ℕ) (entry : SkippedTo) → (names_stream streams (skipped_stream entry) ≡ true) ⊎ (not (names_stream streams (skipped_stream entry)) ≡ true)
either_named streams entry = go (names_stream streams (skipped_stream entry)) refl
  where
    go : (b : Bool) → names_stream streams (skipped_stream entry) ≡ b → (names_stream streams (skipped_stream entry) ≡ true) ⊎ (not (names_stream streams (skipped_stream entry)) ≡ true)
    go true is = inl is
    go false is = inr (ap not is)

-- What holds of the queue with its number for the first TSN, whichever that is.
pub with_base : {X : Type 0} (watch : ℕ → Watch) (queued : List Message) (history : History) (quiet : ℕ → Bool) (first : ℕ) (got read : List ℕ) (incoming : IncomingModel) → ReassemblesInOrder watch (sent_messages queued history) quiet first got read incoming
    → ((now : List ℕ) → now ≡ got → (base : ℕ) → IncomingOrdered watch (sent_messages queued history) quiet now base read incoming → X) → X
with_base watch queued history quiet first got read incoming (none_handled none last empty) use_it = use_it [] (sym none) 0 (empty 0)
with_base watch queued history quiet first got read incoming (some_handled base is holds) use_it = use_it got refl base holds

-- The next number of a stream only rises as data is handled.
pub next_grows : (watch : ℕ → Watch) (queued : List Message) (history : History) (quiet : ℕ → Bool) (first : ℕ) (read got : List ℕ) (tsn id : ℕ) (chunk : ChunkModel) (old new : IncomingModel) → ReassemblesInOrder watch (sent_messages queued history) quiet first got read old
    → quiet id ≡ false → CountsFromZero history id → TakesIncomingChunk tsn chunk old new → (stream_on id old.streams).next ≤ (stream_on id new.streams).next
next_grows watch queued history quiet first read got tsn id chunk old new holds aloud counts takes =
    with_base watch queued history quiet first got read old holds
    (λ now same base o. (
    let ordered : OrderedStream (watch id) queued history id (read ++ o.holds.places) (o.holds.waits id) (stream_on id old.streams) =
    subst (λ (b : Bool). IsOrderedOrReset (watch id) b (sent_messages queued history) id (read ++ o.holds.places) (o.holds.waits id) (stream_on id old.streams)) aloud (o.order id counts) in
    let reach = ordered.reach.up_to in
    chunk_grows tsn id chunk old new ordered.order.ahead (omega (arith, reach)) takes
    ))

module _ (watch : ℕ → Watch) (queued : List Message) (history : History) (quiet : ℕ → Bool) (first : ℕ) (cut : IsLogOfPieces queued history.log) (told : IsUnambiguous history) where
  -- ---- entries that are handled

  abbrev pub Passes : List SkippedTo → IncomingModel → IncomingModel → Type 0
  Passes entries old new =
      (id : ℕ) → quiet id ≡ false → CountsFromZero history id
      → ((stream_on id old.streams).next ≤ (stream_on id new.streams).next)
      × ((n : ℕ) (f : Piece) → IsOfPiece history.log f n → f.message.stream ≡ id → f.message.is_unordered ≡ false → IsPassedBy history id n entries → f.mid + 2 ^ 32 < history.floors id false + (stream_on id new.streams).next)

  pub moving_passes : (got read : List ℕ) (tsn : ℕ) (entries : List SkippedTo) (old new : IncomingModel) → ReassemblesInOrder watch (sent_messages queued history) quiet first got read old → AreSkipsHandled watch history got entries → NoneIsQuiet quiet entries → MovesOn tsn entries old new
      → Passes entries old new
  moving_passes got read tsn entries old new holds handled loud moves id aloud counts =
      with_base watch queued history quiet first got read old holds
      (λ now same base o. (
      let p = entries_pass watch queued history quiet cut told now base read entries (λ other. stream_on other old.streams) old.unordered old.ready o (subst (λ (l : List ℕ). AreSkipsHandled watch history l entries) (sym same) handled) loud id aloud counts in
      let is : stream_on id new.streams ≡ stream_skipping entries id (stream_on id old.streams) = moves.streams id in
      let next = ap (λ (s : StreamModel). s.next) is in
      let up = p.0 in
      (omega (arith, up, next), λ n f of on kind skip. (let past = p.1 n f of on kind skip in omega (arith, past, next)))
      ))

  -- ---- a FORWARD-TSN

  module _ (taken : List ℕ) (tracker now : TrackerState) (up : tracker.cumulative ≤ now.cumulative) (offset : ℕ) (reached : tracked_number first offset ≤ now.cumulative) (ahead : tracker.cumulative < tracked_number first offset)
      (entries : List SkippedTo) (names : NameAll history (offset + 1) entries) (old new : ReassemblyState) (window : new.max_size ≡ old.max_size)
      (fresh : (n : ℕ) → has_received now (tracked_number first n) ≡ true → (has_received tracker (tracked_number first n) ≡ true) ⊎ (n < offset + 1))
      (each : old.max_size ≤ 2 ^ 63 → (n : ℕ) (f : Piece) → IsOfPiece history.log f n → n < offset + 1 → (watch f.message.stream).knows_all ≡ true → (has_received tracker (tracked_number first n) ≡ true) ⊎ HasSkip f.message.stream f.message.is_unordered entries)
      (k : KnowsSkips watch (sent_messages queued history) quiet first taken tracker old) where
    abbrev Told : ℕ → ℕ → Piece → Type 0
    Told id n f = (HasEntry n taken × (at_place n history.log ≡ Some (Some f))) ⊎ IsSkipped history first id (record { cumulative = now.cumulative; next = (stream_on id new.incoming.streams).next; skips = (skips_of new.deferral) }) f n

    -- The entry passes what the FORWARD-TSN does.
    passed_by : (id n : ℕ) (chosen : List SkippedTo) → ((entry : SkippedTo) → HasEntry entry chosen → HasEntry entry entries) → n < offset + 1 → (mid : ℕ) → HasEntry (Mid (record { 0 = id }) false mid) chosen → IsPassedBy history id n chosen
    passed_by id n chosen among low mid has = record { mid = mid; has = has; passed = offset + 1; names = name_in history (offset + 1) (Mid (record { 0 = id }) false mid) entries names (among (Mid (record { 0 = id }) false mid) has); low = low }

    for_stream : (id : ℕ) (u : Bool) (f : Piece) → f.message.stream ≡ id → f.message.is_unordered ≡ false → HasSkip f.message.stream f.message.is_unordered entries → HasSkip id false entries
    for_stream id u f on kind skip = subst (λ (s : ℕ). HasSkip s false entries) on (subst (λ (b : Bool). HasSkip f.message.stream b entries) kind skip)

    -- all are handled
    pub knows_forward : Passes entries old.incoming new.incoming → skips_of new.deferral ≡ skips_of old.deferral → KnowsSkips watch (sent_messages queued history) quiet first taken now new
    knows_forward pass same =
        record {
          kept = subst (λ (s : Option WaitingSkips). AllByRecursion (IsKeptSkip history first now.cumulative) (kept_entries s)) (sym same) (all_reached history first tracker.cumulative now.cumulative up (kept_entries (skips_of old.deferral)) k.kept);
          each = λ small id little knows loud counts n f on kind current of received. (
              let small' : old.max_size ≤ 2 ^ 63 = omega (arith, small, window) in
              let was : (has_received tracker (tracked_number first n) ≡ true → Told id n f) = λ before. elim (k.each small' id little knows loud counts n f on kind current of before) [
                | inl t ↦ inl t
                | inr s ↦ inr
                    (subst (λ (x : Option WaitingSkips). IsSkipped history first id (record { cumulative = now.cumulative; next = (stream_on id new.incoming.streams).next; skips = x }) f n) (sym same)
                    (skipped_reached history first tracker.cumulative now.cumulative id (stream_on id old.incoming.streams).next (stream_on id new.incoming.streams).next (skips_of old.deferral) f n up (pass id loud counts).0 s))
              ] in
              elim (fresh n received) [
                | inl before ↦ was before
                | inr low ↦ elim (each small' n f of low (ap (λ (s : ℕ). (watch s).knows_all) on ∙ knows)) [
                  | inl before ↦ was before
                  | inr skip ↦ (let one = for_stream id false f on kind skip in inr (inl ((pass id loud counts).1 n f of on kind (passed_by id n entries (λ entry has. has) low one.mid one.has))))
                ]
              ]
              );
        }

    -- those of streams that are to be reset wait
    module _ (tsn : ℕ) (waits : DeferralModel) (waiting : skips_of old.deferral ≡ waits.skips) (kept_is : skips_of new.deferral ≡ Some (with_skips tsn (entries_within waits.streams entries) waits.skips)) (kinds : AreOfKind true history.log) where
      within : List SkippedTo
      within = entries_within waits.streams entries

      abbrev AreKept : List (ℕ × SkippedTo)
      AreKept = with_entries (entries_within waits.streams entries) (entries_of waits.skips)

      one_kept : (entry : SkippedTo) → HasEntry entry entries → IsKeptSkip history first now.cumulative entry
      one_kept entry has = record { offset = offset; low = reached; names = name_in history (offset + 1) entry entries names has }

      kept_each : (chosen : List SkippedTo) → ((entry : SkippedTo) → HasEntry entry chosen → HasEntry entry entries) → AllByRecursion (IsKeptSkip history first now.cumulative) chosen
      kept_each [] among = tt
      kept_each (entry ∷ chosen) among = (one_kept entry (among entry (inl refl)), kept_each chosen (λ other has. among other (inr has)))

      from_within : (entry : SkippedTo) → HasEntry entry (entries_within waits.streams entries) → HasEntry entry entries
      from_within entry has = (from_left (λ e. names_stream waits.streams (skipped_stream e)) entry entries has).0

      -- an entry that is kept under the key of a stream
      under : (id n : ℕ) → id < 2 ^ 16 → n ≤ offset → IsKeptUnder (entries_within waits.streams entries) AreKept (2 ^ 16 + id) → WillSkip history first now.cumulative id (skips_of new.deferral) n
      under id n little low u =
          let here = from_within u.entry u.among in
          let (mid, is) = shape_of history (offset + 1) id u.entry kinds little (name_in history (offset + 1) u.entry entries names here) u.key_is in
          record {
            mid = mid;
            has = subst (λ (x : Option WaitingSkips). HasEntry (2 ^ 16 + id, Mid (record { 0 = id }) false mid) (entries_of x)) (sym kept_is) (subst (λ (e : SkippedTo). HasEntry (2 ^ 16 + id, e) AreKept) is u.has);
            kept = record { offset = offset; low = reached; names = subst (λ (e : SkippedTo). NamesCurrent history (offset + 1) e) is (name_in history (offset + 1) u.entry entries names here) };
            below = low;
          }

      still : (id n : ℕ) → id < 2 ^ 16 → WillSkip history first tracker.cumulative id (skips_of old.deferral) n → WillSkip history first now.cumulative id (skips_of new.deferral) n
      still id n little w =
          let low = w.kept.low in
          let below = w.below in
          elim (kept_still (entries_within waits.streams entries) (entries_of waits.skips) (2 ^ 16 + id, Mid (record { 0 = id }) false w.mid) (subst (λ (x : Option WaitingSkips). HasEntry (2 ^ 16 + id, Mid (record { 0 = id }) false w.mid) (entries_of x)) waiting w.has)) [
            | inl stays ↦ record {
              mid = w.mid;
              has = subst (λ (x : Option WaitingSkips). HasEntry (2 ^ 16 + id, Mid (record { 0 = id }) false w.mid) (entries_of x)) (sym kept_is) stays;
              kept = record { offset = w.kept.offset; low = omega (arith, low, up); names = w.kept.names };
              below = w.below;
            }
            | inr u ↦ under id n little (omega (arith, low, below, ahead)) u
          ]

      pub knows_beside : Passes (entries_beside waits.streams entries) old.incoming new.incoming → KnowsSkips watch (sent_messages queued history) quiet first taken now new
      knows_beside pass =
          record {
            kept = subst (λ (s : Option WaitingSkips). AllByRecursion (IsKeptSkip history first now.cumulative) (kept_entries s)) (sym kept_is)
                (all_kept (IsKeptSkip history first now.cumulative) tsn (entries_within waits.streams entries) waits.skips (kept_each (entries_within waits.streams entries) from_within)
                (subst (λ (s : Option WaitingSkips). AllByRecursion (IsKeptSkip history first now.cumulative) (kept_entries s)) waiting (all_reached history first tracker.cumulative now.cumulative up (kept_entries (skips_of old.deferral)) k.kept)));
            each = λ small id little knows loud counts n f on kind current of received. (
                let small' : old.max_size ≤ 2 ^ 63 = omega (arith, small, window) in
                let was : (has_received tracker (tracked_number first n) ≡ true → Told id n f) = λ before. elim (k.each small' id little knows loud counts n f on kind current of before) [
                  | inl t ↦ inl t
                  | inr s ↦ elim s [
                    | inl past ↦ (let grows = (pass id loud counts).0 in inr (inl (omega (arith, past, grows))))
                    | inr w ↦ inr (inr (still id n little w))
                  ]
                ] in
                elim (fresh n received) [
                  | inl before ↦ was before
                  | inr low ↦ elim (each small' n f of low (ap (λ (s : ℕ). (watch s).knows_all) on ∙ knows)) [
                    | inl before ↦ was before
                    | inr skip ↦
                        (let one = for_stream id false f on kind skip in
                        elim (either_named waits.streams (Mid (record { 0 = id }) false one.mid)) [
                          | inl named ↦
                              inr
                              (inr
                              (under id n little (omega (arith, low))
                              (kept_new (entries_within waits.streams entries) (entries_of waits.skips) (Mid (record { 0 = id }) false one.mid) (among_left (λ e. names_stream waits.streams (skipped_stream e)) (Mid (record { 0 = id }) false one.mid) entries named one.has))))
                          | inr other ↦
                              inr
                              (inl
                              ((pass id loud counts).1 n f of on kind
                              (passed_by id n (entries_beside waits.streams entries) (λ entry has. (from_left (λ e. not (names_stream waits.streams (skipped_stream e))) entry entries has).0) low one.mid
                              (among_left (λ e. not (names_stream waits.streams (skipped_stream e))) (Mid (record { 0 = id }) false one.mid) entries other one.has))))
                        ])
                  ]
                ]
                );
          }
