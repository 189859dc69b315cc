-- The end of a deferred reset: streams are reset, and what waited is handled. It is of streams that
-- aren't quiet then.
use Rattle.std.proofs.Common.{◌≡◌, ℕ, Bool, true, false, ◌≤◌, ◌+◌, ◌^◌, List, [], ◌∷◌, map, refl, sym, ◌∙◌, ap, subst, inl, inr, arith, ◌++◌}
use Rattle.std.specs.Prelude.{◌⊎◌, ◌||◌, if◌then◌else◌, Option, None, Some}
use Rattle.std.specs.List.{AllByRecursion}
use Rattle.dcsctp_spec_lemmas.specs.types.declared.arrivals.SkippedTo.{SkippedTo}
use Rattle.dcsctp_spec_lemmas.specs.types.declared.arrivals.SkippedTo.TheVariants.{Mid}
use Rattle.dcsctp_spec_lemmas.specs.spec.queues.IncomingStreams.{StreamModel, new_stream}
use Rattle.dcsctp_spec_lemmas.specs.spec.queues.Incoming.{IncomingModel, stream_on, ResetsStreams}
use Rattle.dcsctp_spec_lemmas.specs.spec.queues.Reassembly.{WaitingModel, WaitingSkips, DeferralModel, ReassemblyState, names_stream, HandlesAll, SkipsThen, waiting_of, skips_of, entries_of, EndsDeferral}
use Rattle.dcsctp_spec_lemmas.specs.spec.queues.Tracker.{TrackerState}
use Rattle.dcsctp_delivery_directions.specs.sending.Places.{HasEntry}
use Rattle.dcsctp_delivery_directions.specs.sending.Log.{Message, History, IsLogOfPieces, sent_messages}
use Rattle.dcsctp_delivery_directions.specs.sending.Numbers.{IsUnambiguous}
use Rattle.dcsctp_delivery_directions.specs.receiving.Clear.{NoneSkips, NoneWaits}
use Rattle.dcsctp_delivery_directions.specs.receiving.Ready.{AreDistinct}
use Rattle.dcsctp_delivery_directions.specs.receiving.Received.{kept_entries, SkipsWait, ForwardsWait, CountsFromBase, DefersData, Few}
use Rattle.dcsctp_delivery_directions.specs.receiving.Tracked.{tracked_number}
use Rattle.dcsctp_delivery_directions.proofs.receiving.Tracked.{up_to}
use Rattle.dcsctp_delivery_directions.proofs.receiving.Reassembled.{kept_last}
use Rattle.dcsctp_delivery_directions.specs.order.Epochs.{SendsEpochsInTurn}
use Rattle.dcsctp_delivery_directions.specs.order.Received.{ReassemblesInOrder, none_handled, some_handled, HasReceivedInOrder, IsKeptSkip}
use Rattle.dcsctp_delivery_directions.specs.order.Skips.{AreSkipsHandled}
use Rattle.dcsctp_delivery_directions.proofs.order.Forwarding.{one_handled}
use Rattle.dcsctp_delivery_directions.proofs.order.ForwardsKnown.{Passes, moving_passes, next_grows}
use Rattle.dcsctp_delivery_directions.proofs.order.Incoming.{resetting_in_order}
use Rattle.dcsctp_delivery_directions.proofs.order.Received.{loud_by, loud_entries, data_in_order, forward_in_order}
use Rattle.dcsctp_delivery_directions.specs.order.Reading.{Watch, CountsFromZero}
use Rattle.dcsctp_delivery_directions.specs.order.Incoming.{IncomingOrdered, NamedAreRead}

-- the quiet streams once these were reset
abbrev pub quiet_with : (ℕ → Bool) → List ℕ → ℕ → Bool
quiet_with quiet streams id = quiet id || names_stream streams id

module _ (watch : ℕ → Watch) (queued : List Message) (history : History) (first : ℕ) (cut : IsLogOfPieces queued history.log) (told : IsUnambiguous history) (f : Few history first) (turns : (id : ℕ) → SendsEpochsInTurn (watch id).asks queued history id) (read : List ℕ) where
  -- All that was sent on streams that are reset is read, whatever the queue has for the first TSN.
  abbrev pub NamedAreReadOf : (ℕ → Bool) → List ℕ → List ℕ → IncomingModel → Type 0
  NamedAreReadOf quiet got streams old =
      (now : List ℕ) → now ≡ got → (base : ℕ) (o : IncomingOrdered watch (sent_messages queued history) quiet now base read old) → NamedAreRead watch history quiet streams (read ++ o.holds.places)

  reset_in_order : (quiet : ℕ → Bool) (got streams : List ℕ) (old new : IncomingModel) → NamedAreReadOf quiet got streams old → ReassemblesInOrder watch (sent_messages queued history) quiet first got read old → ResetsStreams streams old new
      → ReassemblesInOrder watch (sent_messages queued history) (quiet_with quiet streams) first got read new
  reset_in_order quiet got streams old new all (some_handled base is holds) resets =
      some_handled base (subst (λ (l : ℕ). CountsFromBase first base l) (sym (kept_last queued history first cut told f read streams old new resets)) is) (resetting_in_order watch queued history quiet got base read streams old new cut turns holds (all got refl base holds) resets)
  reset_in_order quiet got streams old new all (none_handled none last empty) resets =
      none_handled none (kept_last queued history first cut told f read streams old new resets ∙ last) (λ base. resetting_in_order watch queued history quiet [] base read streams old new cut turns (empty base) (all [] (sym none) base (empty base)) resets)

  module _ (quiet : ℕ → Bool) where
    -- some more were handled
    record Handled (got later : List ℕ) (old new : IncomingModel) : Type 0 where
      now : List ℕ
      holds : ReassemblesInOrder watch (sent_messages queued history) quiet first now read new
      among : (k : ℕ) → HasEntry k now → HasEntry k later ⊎ HasEntry k got
      all : (k : ℕ) → HasEntry k later ⊎ HasEntry k got → HasEntry k now
      grows : (id : ℕ) → quiet id ≡ false → CountsFromZero history id → (stream_on id old.streams).next ≤ (stream_on id new.streams).next

    all_in_order : (got later : List ℕ) (waiting : List WaitingModel) (old new : IncomingModel) → ((id : ℕ) → quiet id ≡ true → NoneWaits id waiting) → ReassemblesInOrder watch (sent_messages queued history) quiet first got read old
        → DefersData history first later waiting → AreDistinct later → ((k : ℕ) → HasEntry k later → HasEntry k got → ⊥) → HandlesAll waiting old new → Handled got later old new
    all_in_order got [] [] old new loud holds defers distinct apart works =
        record { now = got; holds = subst (λ (m : IncomingModel). ReassemblesInOrder watch (sent_messages queued history) quiet first got read m) (sym works) holds; among = λ k h. inr h; all = λ k h. elim h [ inl l ↦ absurd l | inr g ↦ g ]; grows = λ id aloud counts. (let same = ap (λ (m : IncomingModel). (stream_on id m.streams).next) works in omega (arith, same)) }
    all_in_order got (n ∷ later) [] old new loud holds defers distinct apart works = absurd defers
    all_in_order got [] (one ∷ waiting) old new loud holds defers distinct apart works = absurd defers
    all_in_order got (n ∷ later) (one ∷ waiting) old new loud holds defers distinct apart (between, takes, rest) =
        let handled =
        data_in_order queued history first cut told f quiet read watch got n one.tsn one.chunk old between defers.0 (apart n (inl refl)) (loud_by quiet one.chunk.stream (λ is. (loud one.chunk.stream is).0 refl)) holds takes in
        let others = all_in_order (n ∷ got) later waiting between new (λ id is. (loud id is).1) handled defers.1 distinct.1
        (λ k h h'. elim h' [ inl e ↦ distinct.0 (subst (λ (j : ℕ). HasEntry j later) e h) | inr t ↦ apart k (inr h) t ]) rest in
        record {
          now = others.now;
          holds = others.holds;
          among = λ k h. elim (others.among k h) [
            | inl l ↦ inl (inr l)
            | inr r ↦ elim r [ inl e ↦ inl (inl e) | inr t ↦ inr t ]
          ];
          all = λ k h. others.all k (elim h [
            | inl l ↦ elim l [ inl e ↦ inr (inl e) | inr t ↦ inl t ]
            | inr g ↦ inr (inr g)
          ]);
          grows = λ id aloud counts. (
              let one_up = next_grows watch queued history quiet first read got one.tsn id one.chunk old between holds aloud counts takes in
              let rest_up = others.grows id aloud counts in
              omega (arith, one_up, rest_up)
              );
        }

    -- and what was kept of FORWARD-TSNs is skipped then
    skips_in_order : (got : List ℕ) (last_tsn : ℕ) (skips : Option WaitingSkips) (old new : IncomingModel) → ((id : ℕ) → quiet id ≡ true → NoneSkips id (kept_entries skips)) → SkipsWait history first last_tsn skips → AreSkipsHandled watch history got (kept_entries skips)
        → ReassemblesInOrder watch (sent_messages queued history) quiet first got read old → SkipsThen skips old new → ReassemblesInOrder watch (sent_messages queued history) quiet first got read new × Passes watch queued history quiet first cut told (kept_entries skips) old new
    skips_in_order got last_tsn None old new loud wait handled holds same = (
      subst (λ (m : IncomingModel). ReassemblesInOrder watch (sent_messages queued history) quiet first got read m) (sym same) holds,
      λ id aloud counts. ((let alike = ap (λ (m : IncomingModel). (stream_on id m.streams).next) same in omega (arith, alike)), λ n g of on kind skip. absurd skip.has),
    )
    skips_in_order got last_tsn (Some skips) old new loud wait handled holds moves = (
      forward_in_order queued history first cut told f quiet read watch got skips.tsn (kept_entries (Some skips)) old new wait.0 handled (loud_entries quiet (kept_entries (Some skips)) loud) holds moves,
      moving_passes watch queued history quiet first cut told got read skips.tsn (kept_entries (Some skips)) old new holds handled (loud_entries quiet (kept_entries (Some skips)) loud) moves,
    )

    forwards_in_order : (got : List ℕ) (deferral : Option DeferralModel) (old new : IncomingModel) → ((id : ℕ) → quiet id ≡ true → NoneSkips id (kept_entries (skips_of deferral))) → ForwardsWait history first deferral → AreSkipsHandled watch history got (kept_entries (skips_of deferral))
        → ReassemblesInOrder watch (sent_messages queued history) quiet first got read old → SkipsThen (skips_of deferral) old new → ReassemblesInOrder watch (sent_messages queued history) quiet first got read new × Passes watch queued history quiet first cut told (kept_entries (skips_of deferral)) old new
    forwards_in_order got None old new loud wait handled holds same = skips_in_order got 0 None old new loud tt handled holds same
    forwards_in_order got (Some d) old new loud wait handled holds skips = skips_in_order got d.last_tsn d.skips old new loud wait handled holds skips

  -- an entry that is kept
  kept_in : (key : ℕ) (entry : SkippedTo) (entries : List (ℕ × SkippedTo)) → HasEntry (key, entry) entries → HasEntry entry (map (λ (e : ℕ × SkippedTo). e.1) entries)
  kept_in key entry [] has = absurd has
  kept_in key entry (e ∷ entries) has = elim has [ inl same ↦ inl (ap (λ (p : ℕ × SkippedTo). p.1) same) | inr t ↦ inr (kept_in key entry entries t) ]

  kept_of : (id mid : ℕ) (skips : Option WaitingSkips) → HasEntry (2 ^ 16 + id, Mid (record { 0 = id }) false mid) (entries_of skips) → HasEntry (Mid (record { 0 = id }) false mid) (kept_entries skips)
  kept_of id mid skips has = kept_in (2 ^ 16 + id) (Mid (record { 0 = id }) false mid) (entries_of skips) has

  or_false : (a b : Bool) → (a || b) ≡ false → (a ≡ false) × (b ≡ false)
  or_false true b is = absurd (cc)
  or_false false b is = (refl, is)

  -- a stream that isn't named stays
  unnamed_same : (streams : List ℕ) (old between : IncomingModel) (id : ℕ) → names_stream streams id ≡ false → ResetsStreams streams old between → stream_on id between.streams ≡ stream_on id old.streams
  unnamed_same [] old between id other resets = absurd (cc)
  unnamed_same (one ∷ others) old between id other resets = resets.streams id ∙ ap (λ (b : Bool). if b then new_stream id else stream_on id old.streams) other

  pub ends_in_order : (quiet : ℕ → Bool) (streams : List ℕ) (tracker : TrackerState) (old new : ReassemblyState) → ((id : ℕ) → quiet_with quiet streams id ≡ true → NoneWaits id (waiting_of old.deferral))
      → ((id : ℕ) → quiet_with quiet streams id ≡ true → NoneSkips id (kept_entries (skips_of old.deferral))) → ForwardsWait history first old.deferral → ((id : ℕ) → (watch id).knows_all ≡ true → old.max_size ≤ 2 ^ 63)
      → (r : HasReceivedInOrder watch (sent_messages queued history) quiet first read tracker old) → NamedAreReadOf quiet r.got streams old.incoming → EndsDeferral streams old new → HasReceivedInOrder watch (sent_messages queued history) (quiet_with quiet streams) first read tracker new
  ends_in_order quiet streams tracker old new no_data no_skips forwards sized r all leaves =
      let now : ℕ → Bool = quiet_with quiet streams in
      let done = all_in_order now r.got r.later (waiting_of old.deferral) leaves.between leaves.handled no_data (reset_in_order quiet r.got streams old.incoming leaves.between all r.holds leaves.resets) r.defers r.distinct r.apart leaves.works in
      let moved = forwards_in_order now done.now old.deferral leaves.handled new.incoming no_skips forwards (kept_handled done.now (λ k h. done.all k (elim (r.either k h) [ inl g ↦ inr g | inr l ↦ inl l ])) (kept_entries (skips_of old.deferral)) r.skips.kept) done.holds leaves.skips in
      record {
        taken = r.taken;
        got = done.now;
        later = [];
        tracks = r.tracks;
        got_taken = λ k h. elim (done.among k h) [ inl l ↦ r.later_taken k l | inr g ↦ r.got_taken k g ];
        later_taken = λ k h. absurd h;
        either = λ k h. inl (done.all k (elim (r.either k h) [ inl g ↦ inr g | inr l ↦ inl l ]));
        exact = λ small k is known. r.exact (let window = leaves.window in omega (arith, small, window)) k is known;
        apart = λ k h g. absurd h;
        distinct = tt;
        holds = moved.0;
        defers = subst (λ (d : Option DeferralModel). DefersData history first [] (waiting_of d)) (sym leaves.deferral) tt;
        skips = record {
          kept = subst (λ (d : Option DeferralModel). AllByRecursion (IsKeptSkip history first tracker.cumulative) (kept_entries (skips_of d))) (sym leaves.deferral) tt;
          each = λ small id little knows loud counts n g on kind current of received. (
              let both = or_false (quiet id) (names_stream streams id) loud in
              let same = ap (λ (s : StreamModel). s.next) (unnamed_same streams old.incoming leaves.between id both.1 leaves.resets) in
              let up = done.grows id loud counts in
              let more = (moved.1 id loud counts).0 in
              elim (r.skips.each (let window = leaves.window in omega (arith, small, window)) id little knows both.0 counts n g on kind current of received) [
                | inl t ↦ inl t
                | inr s ↦ elim s [
                  | inl past ↦ inr (inl (omega (arith, past, same, up, more)))
                  | inr w ↦
                      inr
                      (inl
                      ((moved.1 id loud counts).1 n g of on kind
                      (record { mid = w.mid; has = kept_of id w.mid (skips_of old.deferral) w.has; passed = w.kept.offset + 1; names = w.kept.names; low = (let below = w.below in omega (arith, below)) })))
                ]
              ]
              );
        };
      }
    where
      kept_handled : (got : List ℕ) → ((k : ℕ) → HasEntry k r.taken → HasEntry k got) → (entries : List SkippedTo) → AllByRecursion (IsKeptSkip history first tracker.cumulative) entries → AreSkipsHandled watch history got entries
      kept_handled got among [] kept = tt
      kept_handled got among (entry ∷ entries) kept = (
        (
          kept.0.offset + 1,
          kept.0.names,
          one_handled watch queued history got (kept.0.offset + 1) entry kept.0.names
              (λ n sure on low. among n (r.exact (sized sure.piece.message.stream sure.known) n sure (up_to tracker.cumulative (tracked_number first n) tracker.ranges (let reached = kept.0.low in omega (arith, low, reached))))),
        ),
        kept_handled got among entries kept.1,
      )
