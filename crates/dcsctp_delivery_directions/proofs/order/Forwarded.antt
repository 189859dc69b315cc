-- What a FORWARD-TSN leaves in order, with what is known of it.
use Rattle.std.proofs.Common.{◌≡◌, ℕ, Bool, true, false, ◌<◌, ◌+◌, ◌-◌, ◌%◌, ◌^◌, List, [], ◌∷◌, length, refl, sym, ◌∙◌, ap, arith, subst, inl, inr, ◌≤◌}
use Rattle.std.specs.Prelude.{◌⊎◌, not, if◌then◌else◌, Option, None, Some}
use Rattle.dcsctp_spec_lemmas.specs.types.declared.arrivals.SkippedTo.{SkippedTo}
use Rattle.dcsctp_spec_lemmas.specs.spec.queues.IncomingStreams.{skipped_stream}
use Rattle.dcsctp_spec_lemmas.specs.spec.queues.Reassembly.{ReassemblyState, entries_beside, is_forward_deferred, names_stream, SkipsData, DeferralModel, waiting_of, skips_of}
use Rattle.dcsctp_spec_lemmas.specs.spec.queues.Tracker.{TrackerState, has_received, is_forward, is_valid_tsn, after_forward, delay_over, moved_forward}
use Rattle.dcsctp_spec_lemmas.specs.spec.queues.Transfer.{Transfer}
use Rattle.dcsctp_spec_lemmas.specs.spec.endpoint.TransferMoves.{SkipsIfMoved, GoesForward, MovesIfForward, MovesForward}
use Rattle.dcsctp_delivery_directions.specs.sending.Places.{HasEntry}
use Rattle.dcsctp_delivery_directions.specs.sending.Log.{Message, Piece, History, IsLogOfPieces, sent_messages}
use Rattle.dcsctp_delivery_directions.specs.sending.Numbers.{AreOfKind, IsUnambiguous}
use Rattle.dcsctp_delivery_directions.specs.receiving.Ready.{NameAll, SkipAll}
use Rattle.dcsctp_delivery_directions.specs.receiving.Received.{IsTsn, SkipsTo, DefersData, WaitBeyond, Few}
use Rattle.dcsctp_delivery_directions.specs.receiving.Tracked.{tracked_number, Tracks}
use Rattle.dcsctp_delivery_directions.proofs.receiving.Clear.{forward_behind, all_skip_others}
use Rattle.dcsctp_delivery_directions.proofs.receiving.Current.{OthersArePast, skips_to}
use Rattle.dcsctp_delivery_directions.proofs.receiving.Kept.{all_left, deferred_by}
use Rattle.dcsctp_delivery_directions.proofs.receiving.Taking.{nothing_passed}
use Rattle.dcsctp_delivery_directions.proofs.receiving.Tracked.{passing_keeps, delayed_tracks, forward_beyond, forward_up, forward_reaches, passed_either, up_to}
use Rattle.dcsctp_delivery_directions.specs.order.Incoming.{NoneIsQuiet}
use Rattle.dcsctp_delivery_directions.specs.order.Received.{ReassemblesInOrder, HasReceivedInOrder, IsKnownTsn, IsLastAssigned, IsNamedWaiting, KnowsSkips}
use Rattle.dcsctp_delivery_directions.specs.sending.Naming.{IsOfPiece}
use Rattle.dcsctp_delivery_directions.specs.order.Reading.{Watch}
use Rattle.dcsctp_delivery_directions.proofs.order.Forwarding.{HasSkip, later_waits, named_in, none_before, all_handled, from_left}
use Rattle.dcsctp_delivery_directions.proofs.order.ForwardsKnown.{knows_forward, knows_beside, moving_passes}
use Rattle.dcsctp_delivery_directions.proofs.order.Received.{QuietAreOver, loud_entries, tracked_on, same_transfer, forward_in_order}

module _ (watch : ℕ → Watch) (queued : List Message) (history : History) (first : ℕ) (cut : IsLogOfPieces queued history.log) (told : IsUnambiguous history) (f : Few history first) (quiet : ℕ → Bool) (read : List ℕ) where
  -- ---- a FORWARD-TSN

  not_passed : (tsn : ℕ) (tracker : TrackerState) → is_forward tracker.cumulative tsn ≡ false → after_forward tsn tracker ≡ delay_over tracker
  not_passed tsn tracker is = subst (λ (c : Bool). (if c then moved_forward tsn tracker else delay_over tracker) ≡ delay_over tracker) (sym is) refl

  delayed : (tsn : ℕ) (tracker : TrackerState) (old new : ReassemblyState) → is_forward tracker.cumulative tsn ≡ false → new ≡ old → HasReceivedInOrder watch (sent_messages queued history) quiet first read tracker old
      → HasReceivedInOrder watch (sent_messages queued history) quiet first read (after_forward tsn tracker) new
  delayed tsn tracker old new is same r =
      subst (λ (s : ReassemblyState). HasReceivedInOrder watch (sent_messages queued history) quiet first read (after_forward tsn tracker) s) (sym same)
      (tracked_on watch queued history quiet first read tracker (after_forward tsn tracker) old r
      (subst (λ (k : TrackerState). Tracks first (length history.log) r.taken k) (sym (not_passed tsn tracker is)) (delayed_tracks first (length history.log) r.taken tracker r.tracks))
      (λ small k known e. r.exact small k known (ap (λ (n : TrackerState). has_received n (tracked_number first k)) (sym (not_passed tsn tracker is)) ∙ e))
      (let same = ap (λ (n : TrackerState). n.cumulative) (not_passed tsn tracker is) in omega (arith, same)) (λ small n e. inl (ap (λ (t : TrackerState). has_received t (tracked_number first n)) (sym (not_passed tsn tracker is)) ∙ e)))

  -- What is known of the deferral, and of all TSNs that the FORWARD-TSN passes, where that is to be known.
  pub record PassesKnown (tsn offset : ℕ) (entries : List SkippedTo) (tracker : TrackerState) (old : ReassemblyState) : Type 0 where
    pub sized : (id : ℕ) → (watch id).knows_all ≡ true → old.max_size ≤ 2 ^ 63
    pub near : (id : ℕ) → (watch id).knows_all ≡ true → IsLastAssigned history first old.deferral
    pub named : (id : ℕ) → (watch id).knows_all ≡ true → IsNamedWaiting old.deferral
    pub beyond : WaitBeyond old.deferral
    pub known : (k : ℕ) → IsKnownTsn watch history k → k < offset + 1 → tracked_number first k ≤ tracker.cumulative
    pub each : (n : ℕ) (g : Piece) → IsOfPiece history.log g n → n < offset + 1 → (watch g.message.stream).knows_all ≡ true → (has_received tracker (tracked_number first n) ≡ true) ⊎ HasSkip g.message.stream g.message.is_unordered entries

  skipped_in_order : (tsn : ℕ) (entries : List SkippedTo) (tracker now : TrackerState) (old new : ReassemblyState) → (to : SkipsTo history first tsn entries) → AreOfKind true history.log → NoneIsQuiet quiet entries → (r : HasReceivedInOrder watch (sent_messages queued history) quiet first read tracker old)
      → PassesKnown tsn to.tsn_is.offset entries tracker old → tracker.cumulative ≤ now.cumulative → tracked_number first to.tsn_is.offset ≤ now.cumulative → tracker.cumulative < tracked_number first to.tsn_is.offset
      → ((n : ℕ) → has_received now (tracked_number first n) ≡ true → (has_received tracker (tracked_number first n) ≡ true) ⊎ (n < to.tsn_is.offset + 1))
      → Tracks first (length history.log) r.taken now → (old.max_size ≤ 2 ^ 63 → (k : ℕ) → IsKnownTsn watch history k → has_received now (tracked_number first k) ≡ true → HasEntry k r.taken)
      → SkipsData tsn entries old new → HasReceivedInOrder watch (sent_messages queued history) quiet first read now new
  skipped_in_order tsn entries tracker now old new to kinds loud r p up reached ahead fresh tracks exact skips = go (is_forward_deferred tsn old.deferral) refl
    where
      -- what it passes without limits was received,
      known_taken : (n : ℕ) → IsKnownTsn watch history n → n < to.tsn_is.offset + 1 → HasEntry n r.taken
      known_taken n sure low = r.exact (p.sized sure.piece.message.stream sure.known) n sure (up_to tracker.cumulative (tracked_number first n) tracker.ranges (p.known n sure low))

      -- and handled, if it isn't deferred,
      known_got : (d : Option DeferralModel) → old.deferral ≡ d → is_forward_deferred tsn d ≡ false → DefersData history first r.later (waiting_of d) → WaitBeyond d → (n : ℕ) → IsKnownTsn watch history n → n < to.tsn_is.offset + 1 → HasEntry n r.got
      known_got None is within defers beyond n sure low =
          elim (r.either n (known_taken n sure low)) [ inl g ↦ g | inr l ↦ absurd (later_waits history first n r.later [] defers l).has ]
      known_got (Some d) is within defers beyond n sure low =
          elim (r.either n (known_taken n sure low)) [
            | inl g ↦ g
            | inr l ↦ absurd
                (none_before history first tsn to.tsn_is.offset n r.later d f to.tsn_is.below to.tsn_is.is defers beyond (subst (λ (x : Option DeferralModel). IsLastAssigned history first x) is (p.near sure.piece.message.stream sure.known)) within l (omega (arith, low)))
          ]

      -- or on streams that aren't to be reset
      beside_got : (waits : DeferralModel) → old.deferral ≡ Some waits → (n : ℕ) → (sure : IsKnownTsn watch history n) → not (names_stream waits.streams sure.piece.message.stream) ≡ true → n < to.tsn_is.offset + 1 → HasEntry n r.got
      beside_got waits is n sure other low =
          elim (r.either n (known_taken n sure low)) [
            | inl g ↦ g
            | inr l ↦ absurd
                (let w = later_waits history first n r.later waits.waiting (subst (λ (x : Option DeferralModel). DefersData history first r.later (waiting_of x)) is r.defers) l in
                let named = subst (λ (x : Option DeferralModel). IsNamedWaiting x) is (p.named sure.piece.message.stream sure.known) in
                let on = named_in waits.streams w.one waits.waiting named w.has in
                let two : Some (Some w.carries.carries.piece) ≡ Some (Some sure.piece) = sym w.carries.carries.at ∙ sure.at in
                let one : w.carries.carries.piece ≡ sure.piece = cc in
                let same : w.one.chunk.stream ≡ sure.piece.message.stream = w.carries.carries.stream ∙ ap (λ (x : Piece). x.message.stream) one in
                let clash : true ≡ false = sym other ∙ ap (λ (k : ℕ). not (names_stream waits.streams k)) (sym same) ∙ ap not on in
                cc)
          ]

      left : new.max_size ≡ old.max_size → (holds : ReassemblesInOrder watch (sent_messages queued history) quiet first r.got read new.incoming) → DefersData history first r.later (waiting_of new.deferral)
          → KnowsSkips watch (sent_messages queued history) quiet first r.taken now new → HasReceivedInOrder watch (sent_messages queued history) quiet first read now new
      left window holds defers knows =
          record {
            taken = r.taken;
            got = r.got;
            later = r.later;
            tracks = tracks;
            got_taken = r.got_taken;
            later_taken = r.later_taken;
            either = r.either;
            exact = λ small. exact (omega (arith, small, window));
            apart = r.apart;
            distinct = r.distinct;
            holds = holds;
            defers = defers;
            skips = knows;
          }

      names_left : (streams : List ℕ) (chosen : List SkippedTo) → NameAll history (to.tsn_is.offset + 1) chosen → NameAll history (to.tsn_is.offset + 1) (entries_beside streams chosen)
      names_left streams [] names = tt
      names_left streams (entry ∷ chosen) names = by_name (not (names_stream streams (skipped_stream entry))) (names_left streams chosen names.1)
        where
          by_name : (b : Bool) → NameAll history (to.tsn_is.offset + 1) (entries_beside streams chosen) → NameAll history (to.tsn_is.offset + 1) (if b then entry ∷ entries_beside streams chosen else entries_beside streams chosen)
          by_name true rest = (names.0, rest)
          by_name false rest = rest

      go : (b : Bool) → is_forward_deferred tsn old.deferral ≡ b → HasReceivedInOrder watch (sent_messages queued history) quiet first read now new
      go true is =
          let (waits, same, far) = deferred_by tsn old.deferral is in
          let beside = skips.deferred is waits same in
          let other : SkippedTo → Bool = λ entry. not (names_stream waits.streams (skipped_stream entry)) in
          let others = entries_beside waits.streams entries in
          let names = names_left waits.streams entries to.names in
          let handled = all_handled watch queued history r.got (to.tsn_is.offset + 1) (entries_beside waits.streams entries) names
          (λ entry has n sure on low. beside_got waits same n sure (ap (λ (k : ℕ). not (names_stream waits.streams k)) on ∙ (from_left (λ e. not (names_stream waits.streams (skipped_stream e))) entry entries has).1) low) in
          let quietly = all_left (λ entry. quiet (skipped_stream entry) ≡ false) other entries loud in
          left beside.window
          (forward_in_order queued history first cut told f quiet read watch r.got tsn (entries_beside waits.streams entries) old.incoming new.incoming to.tsn_is handled quietly r.holds beside.incoming)
          (subst (λ (d : Option DeferralModel). DefersData history first r.later (waiting_of d)) (sym beside.deferral) (subst (λ (d : Option DeferralModel). DefersData history first r.later (waiting_of d)) same r.defers))
          (knows_beside watch queued history quiet first cut told r.taken tracker now up to.tsn_is.offset reached ahead entries to.names old new beside.window fresh (λ small. p.each) r.skips tsn waits (ap skips_of same) (ap skips_of beside.deferral) kinds
          (moving_passes watch queued history quiet first cut told r.got read tsn (entries_beside waits.streams entries) old.incoming new.incoming r.holds handled quietly beside.incoming))
      go false is =
          let moved = skips.moved is in
          let handled = all_handled watch queued history r.got (to.tsn_is.offset + 1) entries to.names (λ entry has n sure on low. known_got old.deferral refl is r.defers p.beyond n sure low) in
          left moved.window (forward_in_order queued history first cut told f quiet read watch r.got tsn entries old.incoming new.incoming to.tsn_is handled loud r.holds moved.incoming)
          (subst (λ (d : Option DeferralModel). DefersData history first r.later (waiting_of d)) (sym moved.deferral) r.defers)
          (knows_forward watch queued history quiet first cut told r.taken tracker now up to.tsn_is.offset reached ahead entries to.names old new moved.window fresh (λ small. p.each) r.skips
          (moving_passes watch queued history quiet first cut told r.got read tsn entries old.incoming new.incoming r.holds handled loud moved.incoming) (ap skips_of moved.deferral))

  gone_in_order : (tsn : ℕ) (entries : List SkippedTo) (old new : Transfer) → (t : IsTsn history.log first tsn) → SkipAll history (t.offset + 1) entries → AreOfKind true history.log → OthersArePast history first old.tracker.cumulative
      → QuietAreOver history quiet first old.tracker.cumulative → HasReceivedInOrder watch (sent_messages queued history) quiet first read old.tracker old.reassembly → PassesKnown tsn t.offset entries old.tracker old.reassembly
      → GoesForward tsn entries old new → HasReceivedInOrder watch (sent_messages queued history) quiet first read new.tracker new.reassembly
  unfolding skips_to
  gone_in_order tsn entries old new t skip kinds past over r known goes =
      subst (λ (k : TrackerState). HasReceivedInOrder watch (sent_messages queued history) quiet first read k new.reassembly) (sym (ap (λ (k : Transfer). k.tracker) goes.rest)) (go (is_forward old.tracker.cumulative tsn) refl goes.reassembly)
    where
      by_offset : is_forward old.tracker.cumulative tsn ≡ true → is_forward old.tracker.cumulative ((first + t.offset) % 2 ^ 32) ≡ true
      by_offset is = subst (λ (n : ℕ). is_forward old.tracker.cumulative n ≡ true) t.is is

      passed : is_forward old.tracker.cumulative tsn ≡ true → Tracks first (length history.log) r.taken (after_forward tsn old.tracker)
      passed is =
          subst (λ (n : ℕ). Tracks first (length history.log) r.taken (after_forward n old.tracker)) (sym t.is)
          (passing_keeps first (length history.log) t.offset r.taken old.tracker f.small f.few t.below r.tracks (by_offset is))

      -- what is passed was received, if it has no limits
      exact : is_forward old.tracker.cumulative tsn ≡ true → old.reassembly.max_size ≤ 2 ^ 63 → (k : ℕ) → IsKnownTsn watch history k → has_received (after_forward tsn old.tracker) (tracked_number first k) ≡ true → HasEntry k r.taken
      exact is small k sure e =
          elim (passed_either first (length history.log) t.offset r.taken old.tracker f.small f.few t.below r.tracks (by_offset is) k (ap (λ (n : ℕ). has_received (after_forward n old.tracker) (tracked_number first k)) (sym t.is) ∙ e)) [
            | inl before ↦ r.exact small k sure before
            | inr up ↦ r.exact small k sure (up_to old.tracker.cumulative (tracked_number first k) old.tracker.ranges (known.known k sure up))
          ]

      far : is_forward old.tracker.cumulative tsn ≡ true → tracked_number first t.offset ≤ (after_forward tsn old.tracker).cumulative
      far is =
          subst (λ (n : ℕ). tracked_number first t.offset ≤ (after_forward n old.tracker).cumulative) (sym t.is)
          (forward_reaches first (length history.log) t.offset r.taken old.tracker f.small f.few t.below r.tracks (by_offset is))

      fresh : is_forward old.tracker.cumulative tsn ≡ true → (n : ℕ) → has_received (after_forward tsn old.tracker) (tracked_number first n) ≡ true → (has_received old.tracker (tracked_number first n) ≡ true) ⊎ (n < t.offset + 1)
      fresh is n e = passed_either first (length history.log) t.offset r.taken old.tracker f.small f.few t.below r.tracks (by_offset is) n (ap (λ (m : ℕ). has_received (after_forward m old.tracker) (tracked_number first n)) (sym t.is) ∙ e)

      -- nothing is skipped of a quiet stream
      loud : is_forward old.tracker.cumulative tsn ≡ true → NoneIsQuiet quiet entries
      loud is =
          loud_entries quiet entries
          (λ id silent. (let o = over id silent in
          all_skip_others history (t.offset + 1) id o.mark kinds o.has o.names o.below (forward_behind first (length history.log) t.offset o.mark.bound r.taken old.tracker f.small f.few t.below r.tracks o.passed (by_offset is)) entries skip))

      go : (b : Bool) → is_forward old.tracker.cumulative tsn ≡ b → SkipsIfMoved b tsn entries old.reassembly new.reassembly → HasReceivedInOrder watch (sent_messages queued history) quiet first read (after_forward tsn old.tracker) new.reassembly
      go true is skips =
          let to : SkipsTo history first tsn entries =
          skips_to history first old.tracker.cumulative past tsn entries t (forward_beyond first (length history.log) t.offset r.taken old.tracker f.small f.few t.below r.tracks (by_offset is)) skip in
          skipped_in_order tsn entries old.tracker (after_forward tsn old.tracker) old.reassembly new.reassembly to kinds (loud is) r known (forward_up tsn old.tracker r.tracks.beyond) (far is) (forward_beyond first (length history.log) t.offset r.taken old.tracker f.small f.few t.below r.tracks (by_offset is))
          (fresh is) (passed is) (exact is) skips
      go false is same = delayed tsn old.tracker old.reassembly new.reassembly is same r

  pub forwarded_in_order : (tsn : ℕ) (entries : List SkippedTo) (old new : Transfer) → (t : IsTsn history.log first tsn) → SkipAll history (t.offset + 1) entries → AreOfKind true history.log → OthersArePast history first old.tracker.cumulative
      → QuietAreOver history quiet first old.tracker.cumulative → HasReceivedInOrder watch (sent_messages queued history) quiet first read old.tracker old.reassembly → PassesKnown tsn t.offset entries old.tracker old.reassembly
      → MovesForward tsn entries old new → HasReceivedInOrder watch (sent_messages queued history) quiet first read new.tracker new.reassembly
  forwarded_in_order tsn entries old new t skip kinds past over r known moves = go (is_valid_tsn old.tracker.cumulative tsn) moves
    where
      go : (b : Bool) → MovesIfForward b tsn entries old new → HasReceivedInOrder watch (sent_messages queued history) quiet first read new.tracker new.reassembly
      go true goes = gone_in_order tsn entries old new t skip kinds past over r known goes
      go false same = same_transfer watch queued history first cut told f quiet read old new same r

  -- none is passed
  pub nothing_in_order : (tsn : ℕ) (entries : List SkippedTo) (old new : Transfer) → tsn ≡ (first + 0 + (2 ^ 32 - 1)) % 2 ^ 32
      → HasReceivedInOrder watch (sent_messages queued history) quiet first read old.tracker old.reassembly → MovesForward tsn entries old new → HasReceivedInOrder watch (sent_messages queued history) quiet first read new.tracker new.reassembly
  nothing_in_order tsn entries old new is r moves = go (is_valid_tsn old.tracker.cumulative tsn) moves
    where
      none : is_forward old.tracker.cumulative tsn ≡ false
      none = nothing_passed first (length history.log) old.tracker.cumulative tsn f.small f.few r.tracks.reached r.tracks.started is

      go : (b : Bool) → MovesIfForward b tsn entries old new → HasReceivedInOrder watch (sent_messages queued history) quiet first read new.tracker new.reassembly
      go false same = same_transfer watch queued history first cut told f quiet read old new same r
      go true goes =
          subst (λ (k : TrackerState). HasReceivedInOrder watch (sent_messages queued history) quiet first read k new.reassembly) (sym (ap (λ (k : Transfer). k.tracker) goes.rest))
          (delayed tsn old.tracker old.reassembly new.reassembly none (subst (λ (c : Bool). SkipsIfMoved c tsn entries old.reassembly new.reassembly) none goes.reassembly) r)
