-- What is received leaves each stream in order: nothing that is new is of a quiet stream.
use Rattle.std.proofs.Common.{◌≡◌, ℕ, Bool, true, false, ◌<◌, ◌+◌, ◌-◌, ◌%◌, ◌^◌, List, [], ◌∷◌, ◌++◌, length, refl, sym, ◌∙◌, ap, arith, subst, inl, inr, ◌≤◌}
use Rattle.std.specs.Prelude.{◌&&◌, Option, None, Some}
use Rattle.std.proofs.lemmas.List.{append-nil}
use Rattle.dcsctp_spec_lemmas.specs.types.declared.arrivals.SkippedTo.{SkippedTo}
use Rattle.dcsctp_spec_lemmas.specs.types.declared.tracking.TsnRange.{TsnRange}
use Rattle.dcsctp_spec_lemmas.specs.spec.queues.Arrivals.{Arrival}
use Rattle.dcsctp_spec_lemmas.specs.spec.queues.Numbers.{number_near}
use Rattle.dcsctp_spec_lemmas.specs.spec.queues.Ranges.{IsBeyond, is_received}
use Rattle.dcsctp_spec_lemmas.specs.spec.queues.IncomingStreams.{ChunkModel, skipped_stream}
use Rattle.dcsctp_spec_lemmas.specs.spec.queues.Incoming.{IncomingModel, TakesIncomingChunk, MovesOn}
use Rattle.dcsctp_spec_lemmas.specs.spec.queues.Reassembly.{ReassemblyState, can_count, is_data_deferred, AddsData, DeferralModel, waiting_of, skips_of, with_waiting, with_deferred, begun_deferral, deferring}
use Rattle.dcsctp_spec_lemmas.specs.spec.queues.Tracker.{TrackerState, has_received, is_new_tsn, tracker_after_data, is_valid_tsn, delay_over}
use Rattle.dcsctp_spec_lemmas.specs.spec.queues.Transfer.{Transfer}
use Rattle.dcsctp_spec_lemmas.specs.spec.endpoint.TransferMoves.{AddsIfNew, has_room, dropping, ReceivesIfRoom, ReceivesData, TakesData as TakesArrival}
use Rattle.dcsctp_delivery_directions.specs.sending.Places.{HasEntry, at_place}
use Rattle.dcsctp_delivery_directions.specs.sending.Log.{Message, History, IsLogOfPieces, sent_messages}
use Rattle.dcsctp_delivery_directions.specs.sending.Numbers.{IsUnambiguous}
use Rattle.dcsctp_delivery_directions.proofs.sending.Places.{at_below}
use Rattle.dcsctp_delivery_directions.specs.receiving.Ready.{AreDistinct}
use Rattle.dcsctp_delivery_directions.specs.receiving.Received.{Carries, CarriesCurrent, IsTsn, DefersData, Few}
use Rattle.dcsctp_delivery_directions.specs.receiving.Tracked.{tracked_number, Tracks}
use Rattle.dcsctp_delivery_directions.specs.receiving.Clear.{NoneSkips, IsOver}
use Rattle.dcsctp_delivery_directions.proofs.receiving.Clear.{old_tsn}
use Rattle.dcsctp_delivery_directions.proofs.receiving.Current.{OthersArePast, carries_current}
use Rattle.dcsctp_delivery_directions.proofs.receiving.Distinct.{has_either, distinct_with, has_left, has_right}
use Rattle.dcsctp_delivery_directions.proofs.receiving.Reassembled.{first_number, first_base, first_near, number_read, few_behind, bears_of, waiting_data}
use Rattle.dcsctp_delivery_directions.proofs.receiving.Tracked.{new_is_new, delayed_tracks, new_beyond, observed_up}
use Rattle.dcsctp_delivery_directions.specs.order.Incoming.{IncomingOrdered, NoneIsQuiet}
use Rattle.dcsctp_delivery_directions.specs.order.Received.{ReassemblesInOrder, none_handled, some_handled, HasReceivedInOrder, IsKnownTsn, KnowsSkips}
use Rattle.dcsctp_delivery_directions.proofs.order.Ready.{ready_in_order}
use Rattle.dcsctp_delivery_directions.proofs.order.Skipping.{skipping_in_order}
use Rattle.dcsctp_delivery_directions.specs.order.Reading.{Watch}
use Rattle.dcsctp_delivery_directions.specs.order.Skips.{AreSkipsHandled}
use Rattle.dcsctp_delivery_directions.proofs.order.ForwardsKnown.{next_grows}
use Rattle.dcsctp_delivery_directions.proofs.order.KnowsSkips.{AreNewlyTaken, knows_on, knows_moved, observed_either, known_before}
use Rattle.dcsctp_delivery_directions.proofs.order.PlainReceived.{observed_exact, known_exact}
use Rattle.dcsctp_delivery_directions.proofs.receiving.Joining.{both}

-- ---- streams that aren't quiet

-- If a stream isn't quiet wherever that leads to something false, it isn't.
pub loud_by : (quiet : ℕ → Bool) (id : ℕ) → (quiet id ≡ true → ⊥) → quiet id ≡ false
loud_by quiet id not_quiet = go (quiet id) refl
  where
    go : (b : Bool) → quiet id ≡ b → quiet id ≡ false
    go true is = absurd (not_quiet is)
    go false is = is

pub loud_entries : (quiet : ℕ → Bool) (entries : List SkippedTo) → ((id : ℕ) → quiet id ≡ true → NoneSkips id entries) → NoneIsQuiet quiet entries
loud_entries quiet [] none = tt
loud_entries quiet (entry ∷ entries) none = (loud_by quiet (skipped_stream entry) (λ is. (none (skipped_stream entry) is).0 refl), loud_entries quiet entries (λ id is. (none id is).1))

-- ---- the reassembly queue

module _ (queued : List Message) (history : History) (first : ℕ) (cut : IsLogOfPieces queued history.log) (told : IsUnambiguous history) (f : Few history first) (quiet : ℕ → Bool) (read : List ℕ) where
  pub data_in_order : (watch : ℕ → Watch) (got : List ℕ) (offset tsn : ℕ) (chunk : ChunkModel) (old new : IncomingModel) → CarriesCurrent history first offset tsn chunk → (HasEntry offset got → ⊥) → quiet chunk.stream ≡ false
      → ReassemblesInOrder watch (sent_messages queued history) quiet first got read old → TakesIncomingChunk tsn chunk old new → ReassemblesInOrder watch (sent_messages queued history) quiet first (offset ∷ got) read new
  unfolding bears_of
  data_in_order watch got offset tsn chunk old new c is_new loud (some_handled base is holds) takes =
      let few = few_behind history first offset tsn chunk f c in
      let number = number_read first base old.last_tsn_number offset tsn is few c.carries.is in
      some_handled base (record { same = is.same; near = is.near; worked = offset; few = few; is = takes.last ∙ number })
      (ready_in_order watch queued history quiet cut told got base tsn read chunk old new (bears_of history first base offset tsn (number_near old.last_tsn_number tsn) chunk c number) is_new loud holds takes)
  data_in_order watch got offset tsn chunk old new c is_new loud (none_handled none last empty) takes =
      let few = few_behind history first offset tsn chunk f c in
      let base : ℕ = number_near (2 ^ 32) ((first + offset) % 2 ^ 32) - offset in
      let up = first_number first offset f.small few in
      let number : number_near old.last_tsn_number tsn ≡ base + offset = ap (λ (l : ℕ). number_near l tsn) last ∙ ap (number_near (2 ^ 32)) c.carries.is ∙ omega (arith, up) in
      some_handled base (record { same = first_base first offset f.small few; near = first_near first offset f.small few; worked = offset; few = few; is = takes.last ∙ number })
      (ready_in_order watch queued history quiet cut told got base tsn read chunk old new (bears_of history first base offset tsn (number_near old.last_tsn_number tsn) chunk c number) is_new loud
      (subst (λ (l : List ℕ). IncomingOrdered watch (sent_messages queued history) quiet l base read old) (sym none) (empty base)) takes)

  pub forward_in_order : (watch : ℕ → Watch) → (got : List ℕ) (tsn : ℕ) (entries : List SkippedTo) (old new : IncomingModel) → IsTsn history.log first tsn → AreSkipsHandled watch history got entries → NoneIsQuiet quiet entries
      → ReassemblesInOrder watch (sent_messages queued history) quiet first got read old → MovesOn tsn entries old new → ReassemblesInOrder watch (sent_messages queued history) quiet first got read new
  forward_in_order watch got tsn entries old new t names loud (some_handled base is holds) moves =
      let few : t.offset < 2 ^ 31 = omega (arith, f.few, t.below) in
      let number = number_read first base old.last_tsn_number t.offset tsn is few t.is in
      some_handled base (record { same = is.same; near = is.near; worked = t.offset; few = few; is = moves.last ∙ number })
      (skipping_in_order watch queued history quiet got base read tsn entries old new cut told names loud holds moves)
  forward_in_order watch got tsn entries old new t names loud (none_handled none last empty) moves =
      let few : t.offset < 2 ^ 31 = omega (arith, f.few, t.below) in
      let base : ℕ = number_near (2 ^ 32) ((first + t.offset) % 2 ^ 32) - t.offset in
      let up = first_number first t.offset f.small few in
      let number : number_near old.last_tsn_number tsn ≡ base + t.offset = ap (λ (l : ℕ). number_near l tsn) last ∙ ap (number_near (2 ^ 32)) t.is ∙ omega (arith, up) in
      some_handled base (record { same = first_base first t.offset f.small few; near = first_near first t.offset f.small few; worked = t.offset; few = few; is = moves.last ∙ number })
      (skipping_in_order watch queued history quiet got base read tsn entries old new cut told names loud (subst (λ (l : List ℕ). IncomingOrdered watch (sent_messages queued history) quiet l base read old) (sym none) (empty base)) moves)

-- ---- the tracker

pub tracks_fewer : (first count : ℕ) (taken got : List ℕ) (tracker : TrackerState) → ((k : ℕ) → HasEntry k got → HasEntry k taken) → Tracks first count taken tracker → Tracks first count got tracker
tracks_fewer first count taken got tracker among t = record { beyond = t.beyond; reached = t.reached; started = t.started; sent = t.sent; received = λ offset h. t.received offset (among offset h) }

alike_received : (tracker now : TrackerState) → now.cumulative ≡ tracker.cumulative → now.ranges ≡ tracker.ranges → (number : ℕ) → has_received now number ≡ has_received tracker number
alike_received tracker now same same' number = ap (λ (c : ℕ). is_received c number now.ranges) same ∙ ap (λ (l : List TsnRange). is_received tracker.cumulative number l) same'

-- when an acknowledgement is due is another matter
pub tracks_alike : (first count : ℕ) (taken : List ℕ) (tracker now : TrackerState) → now.cumulative ≡ tracker.cumulative → now.ranges ≡ tracker.ranges → Tracks first count taken tracker → Tracks first count taken now
tracks_alike first count taken tracker now same same' t =
    record {
      beyond = subst (λ (c : ℕ). IsBeyond c now.ranges) (sym same) (subst (λ (l : List TsnRange). IsBeyond tracker.cumulative l) (sym same') t.beyond);
      reached = (let reached = t.reached in omega (arith, same, reached));
      started = (let started = t.started in omega (arith, same, started));
      sent = λ number is. t.sent number (sym (alike number) ∙ is);
      received = λ offset h. alike (tracked_number first offset) ∙ t.received offset h;
    }
  where
    alike : (number : ℕ) → has_received now number ≡ has_received tracker number
    alike number = ap (λ (c : ℕ). is_received c number now.ranges) same ∙ ap (λ (l : List TsnRange). is_received tracker.cumulative number l) same'

module _ (watch : ℕ → Watch) (queued : List Message) (history : History) (quiet : ℕ → Bool) (first : ℕ) (read : List ℕ) where
  -- the tracker moves alone
  pub tracked_on : (tracker now : TrackerState) (reassembly : ReassemblyState) (r : HasReceivedInOrder watch (sent_messages queued history) quiet first read tracker reassembly) → Tracks first (length history.log) r.taken now
      → (reassembly.max_size ≤ 2 ^ 63 → (k : ℕ) → IsKnownTsn watch history k → has_received now (tracked_number first k) ≡ true → HasEntry k r.taken) → tracker.cumulative ≤ now.cumulative
      → (reassembly.max_size ≤ 2 ^ 63 → AreNewlyTaken watch queued history quiet first r.taken tracker now)
      → HasReceivedInOrder watch (sent_messages queued history) quiet first read now reassembly
  tracked_on tracker now reassembly r tracks exact up new =
      record {
        taken = r.taken;
        got = r.got;
        later = r.later;
        tracks = tracks;
        got_taken = r.got_taken;
        later_taken = r.later_taken;
        either = r.either;
        exact = exact;
        apart = r.apart;
        distinct = r.distinct;
        holds = r.holds;
        defers = r.defers;
        skips = knows_on watch queued history quiet first r.taken r.taken tracker now reassembly up (λ k h. h) new r.skips;
      }

  pub tracked_in_order : (tracker now : TrackerState) (reassembly : ReassemblyState) → now.cumulative ≡ tracker.cumulative → now.ranges ≡ tracker.ranges → HasReceivedInOrder watch (sent_messages queued history) quiet first read tracker reassembly
      → HasReceivedInOrder watch (sent_messages queued history) quiet first read now reassembly
  tracked_in_order tracker now reassembly same same' r = tracked_on tracker now reassembly r (tracks_alike first (length history.log) r.taken tracker now same same' r.tracks)
      (λ small k is known. r.exact small k is (sym (alike_received tracker now same same' (tracked_number first k)) ∙ known)) (omega (arith, same))
      (λ small n known. inl (sym (alike_received tracker now same same' (tracked_number first n)) ∙ known))

  -- a reset is deferred
  pub deferring_in_order : (last_tsn : ℕ) (streams : List ℕ) (tracker : TrackerState) (reassembly : ReassemblyState) → HasReceivedInOrder watch (sent_messages queued history) quiet first read tracker reassembly
      → HasReceivedInOrder watch (sent_messages queued history) quiet first read tracker (deferring last_tsn streams reassembly)
  deferring_in_order last_tsn streams tracker reassembly r =
      record {
        taken = r.taken;
        got = r.got;
        later = r.later;
        tracks = r.tracks;
        got_taken = r.got_taken;
        later_taken = r.later_taken;
        either = r.either;
        exact = r.exact;
        apart = r.apart;
        distinct = r.distinct;
        holds = r.holds;
        defers = go reassembly.deferral r.defers;
        skips = knows_moved watch queued history quiet first r.taken tracker reassembly (deferring last_tsn streams reassembly) refl (same_skips reassembly.deferral) (λ id counts loud. omega arith) r.skips;
      }
    where
      same_skips : (d : Option DeferralModel) → skips_of (begun_deferral last_tsn streams d) ≡ skips_of d
      same_skips None = refl
      same_skips (Some d) = refl

      go : (d : Option DeferralModel) → DefersData history first r.later (waiting_of d) → DefersData history first r.later (waiting_of (begun_deferral last_tsn streams d))
      go None defers = defers
      go (Some d) defers = defers

-- ---- data

-- All pieces of a quiet stream came before a reset of it, up to which all was received.
abbrev pub QuietAreOver : History → (ℕ → Bool) → ℕ → ℕ → Type 0
QuietAreOver history quiet first cumulative = (id : ℕ) → quiet id ≡ true → IsOver history first cumulative id

module _ (watch : ℕ → Watch) (queued : List Message) (history : History) (first : ℕ) (cut : IsLogOfPieces queued history.log) (told : IsUnambiguous history) (f : Few history first) (quiet : ℕ → Bool) (read : List ℕ) where
  -- a chunk whose TSN is new
  added : (offset tsn : ℕ) (chunk : ChunkModel) (tracker now : TrackerState) (old new : ReassemblyState) → CarriesCurrent history first offset tsn chunk → (r : HasReceivedInOrder watch (sent_messages queued history) quiet first read tracker old)
      → Tracks first (length history.log) (offset ∷ r.taken) now → (HasEntry offset r.taken → ⊥) → quiet chunk.stream ≡ false
      → (old.max_size ≤ 2 ^ 63 → can_count (length chunk.payload) old ≡ true) → (old.max_size ≤ 2 ^ 63 → (k : ℕ) → IsKnownTsn watch history k → has_received now (tracked_number first k) ≡ true → HasEntry k (offset ∷ r.taken))
      → tracker.cumulative ≤ now.cumulative → (old.max_size ≤ 2 ^ 63 → AreNewlyTaken watch queued history quiet first (offset ∷ r.taken) tracker now) → AddsData tsn chunk old new → HasReceivedInOrder watch (sent_messages queued history) quiet first read now new
  added offset tsn chunk tracker now old new c r tracks is_new loud counted exact up fresh adds = go (can_count (length chunk.payload) old) refl (is_data_deferred tsn chunk.stream old.deferral) refl
    where
      its_skips : KnowsSkips watch (sent_messages queued history) quiet first (offset ∷ r.taken) now old
      its_skips = knows_on watch queued history quiet first r.taken (offset ∷ r.taken) tracker now old up (λ k h. inr h) fresh r.skips

      same_skips : (d : Option DeferralModel) → skips_of (with_waiting (record { tsn = tsn; chunk = chunk }) d) ≡ skips_of d
      same_skips None = refl
      same_skips (Some d) = refl

      go : (counts : Bool) → can_count (length chunk.payload) old ≡ counts → (waits : Bool) → is_data_deferred tsn chunk.stream old.deferral ≡ waits → HasReceivedInOrder watch (sent_messages queued history) quiet first read now new
      go false counts waits deferred =
          subst (λ (s : ReassemblyState). HasReceivedInOrder watch (sent_messages queued history) quiet first read now s) (sym (adds.too_much counts))
          (tracked_on watch queued history quiet first read tracker now old r (tracks_fewer first (length history.log) (offset ∷ r.taken) r.taken now (λ k h. inr h) tracks)
          (λ small k is. absurd (let clash : true ≡ false = sym (counted small) ∙ counts in cc)) up (λ small. absurd (let clash : true ≡ false = sym (counted small) ∙ counts in cc)))
      go true counts true deferred =
          subst (λ (s : ReassemblyState). HasReceivedInOrder watch (sent_messages queued history) quiet first read now s) (sym (adds.deferred counts deferred))
          (record {
            taken = offset ∷ r.taken;
            got = r.got;
            later = r.later ++ offset ∷ [];
            tracks = tracks;
            got_taken = λ k h. inr (r.got_taken k h);
            later_taken = λ k h. elim (has_either k r.later (offset ∷ []) h) [
              | inl l ↦ inr (r.later_taken k l)
              | inr e ↦ elim e [ inl e' ↦ inl e' | inr t ↦ absurd t ]
            ];
            either = λ k h. elim h [
              | inl e ↦ inr (has_right k r.later (offset ∷ []) (inl e))
              | inr t ↦ elim (r.either k t) [ inl g ↦ inl g | inr l ↦ inr (has_left k r.later (offset ∷ []) l) ]
            ];
            exact = exact;
            apart = λ k h g. elim (has_either k r.later (offset ∷ []) h) [
              | inl l ↦ r.apart k l g
              | inr e ↦ elim e [ inl e' ↦ is_new (r.got_taken offset (subst (λ (j : ℕ). HasEntry j r.got) e' g)) | inr t ↦ absurd t ]
            ];
            distinct = distinct_with offset r.later [] (subst (λ (l : List ℕ). AreDistinct l) (sym (append-nil r.later)) r.distinct)
                (λ h. is_new (r.later_taken offset (subst (λ (l : List ℕ). HasEntry offset l) (append-nil r.later) h)));
            holds = r.holds;
            defers = waiting_data history first offset tsn chunk r.later old.deferral deferred c r.defers;
            skips = knows_moved watch queued history quiet first (offset ∷ r.taken) now old (with_deferred tsn chunk old) refl (same_skips old.deferral) (λ id counts' loud'. omega arith) its_skips;
          })
      go true counts false deferred =
          let takes = adds.taken counts deferred in
          record {
            taken = offset ∷ r.taken;
            got = offset ∷ r.got;
            later = r.later;
            tracks = tracks;
            got_taken = λ k h. elim h [ inl e ↦ inl e | inr t ↦ inr (r.got_taken k t) ];
            later_taken = λ k h. inr (r.later_taken k h);
            either = λ k h. elim h [ inl e ↦ inl (inl e) | inr t ↦ elim (r.either k t) [ inl g ↦ inl (inr g) | inr l ↦ inr l ] ];
            exact = λ small. exact (let window = takes.window in omega (arith, small, window));
            apart = λ k h g. elim g [ inl e ↦ is_new (r.later_taken offset (subst (λ (j : ℕ). HasEntry j r.later) e h)) | inr t ↦ r.apart k h t ];
            distinct = r.distinct;
            holds = data_in_order queued history first cut told f quiet read watch r.got offset tsn chunk old.incoming new.incoming c (λ h. is_new (r.got_taken offset h)) loud r.holds takes.incoming;
            defers = subst (λ (d : Option DeferralModel). DefersData history first r.later (waiting_of d)) (sym takes.deferral) r.defers;
            skips = knows_moved watch queued history quiet first (offset ∷ r.taken) now old new takes.window (ap skips_of takes.deferral)
                (λ id counts' aloud. next_grows watch queued history quiet first read r.got tsn id chunk old.incoming new.incoming r.holds aloud counts' takes.incoming) its_skips;
          }

  taken_in_order : (offset : ℕ) (arrival : Arrival) (old new : Transfer) → Carries history.log first offset arrival.tsn arrival.chunk → OthersArePast history first old.tracker.cumulative → QuietAreOver history quiet first old.tracker.cumulative
      → HasReceivedInOrder watch (sent_messages queued history) quiet first read old.tracker old.reassembly → (old.reassembly.max_size ≤ 2 ^ 63 → can_count (length arrival.chunk.payload) old.reassembly ≡ true) → TakesArrival arrival old new → HasReceivedInOrder watch (sent_messages queued history) quiet first read new.tracker new.reassembly
  taken_in_order offset arrival old new c past over r counted takes =
      subst (λ (t : TrackerState). HasReceivedInOrder watch (sent_messages queued history) quiet first read t new.reassembly) (sym (ap (λ (t : Transfer). t.tracker) takes.rest)) (go (is_new_tsn arrival.tsn old.tracker) refl takes.reassembly)
    where
      now : TrackerState
      now = tracker_after_data arrival.tsn arrival.immediate_ack old.tracker

      below : offset < length history.log
      below = at_below offset (Some c.piece) history.log c.at

      tracks : Tracks first (length history.log) (offset ∷ r.taken) now
      tracks =
          subst (λ (t : ℕ). Tracks first (length history.log) (offset ∷ r.taken) (tracker_after_data t arrival.immediate_ack old.tracker)) (sym c.is)
          (new_is_new first (length history.log) offset arrival.immediate_ack r.taken old.tracker f.small f.few below r.tracks).0

      by_offset : is_new_tsn arrival.tsn old.tracker ≡ true → is_new_tsn ((first + offset) % 2 ^ 32) old.tracker ≡ true
      by_offset is = subst (λ (t : ℕ). is_new_tsn t old.tracker ≡ true) c.is is

      exact : old.reassembly.max_size ≤ 2 ^ 63 → (k : ℕ) → IsKnownTsn watch history k → has_received now (tracked_number first k) ≡ true → HasEntry k (offset ∷ r.taken)
      exact small =
          subst (λ (t : ℕ). (k : ℕ) → IsKnownTsn watch history k → has_received (tracker_after_data t arrival.immediate_ack old.tracker) (tracked_number first k) ≡ true → HasEntry k (offset ∷ r.taken)) (sym c.is)
          (observed_exact first (length history.log) offset arrival.immediate_ack old.tracker r.taken f.small f.few below r.tracks (IsKnownTsn watch history) (r.exact small))

      up : old.tracker.cumulative ≤ now.cumulative
      up = observed_up arrival.tsn arrival.immediate_ack old.tracker r.tracks.beyond

      fresh : old.reassembly.max_size ≤ 2 ^ 63 → AreNewlyTaken watch queued history quiet first (offset ∷ r.taken) old.tracker now
      fresh small n e =
          elim (observed_either first (length history.log) offset arrival.immediate_ack r.taken old.tracker f.small f.few below r.tracks n
          (ap (λ (t : ℕ). has_received (tracker_after_data t arrival.immediate_ack old.tracker) (tracked_number first n)) (sym c.is) ∙ e)) [
            | inl before ↦ inl before
            | inr same ↦ inr (record { has = inl same; piece = c.piece; at = ap (λ (k : ℕ). at_place k history.log) same ∙ c.at })
          ]

      -- nothing new is of a quiet stream
      loud : is_new_tsn arrival.tsn old.tracker ≡ true → quiet arrival.chunk.stream ≡ false
      loud is = loud_by quiet arrival.chunk.stream (λ silent. (let o = over arrival.chunk.stream silent in
          old_tsn first (length history.log) offset o.mark.bound r.taken old.tracker f.small f.few below r.tracks (o.below offset c.piece c.at (sym c.stream)) o.passed (by_offset is)))

      go : (b : Bool) → is_new_tsn arrival.tsn old.tracker ≡ b → AddsIfNew b arrival.tsn arrival.chunk old.reassembly new.reassembly
          → HasReceivedInOrder watch (sent_messages queued history) quiet first read (tracker_after_data arrival.tsn arrival.immediate_ack old.tracker) new.reassembly
      go true is adds =
          added offset arrival.tsn arrival.chunk old.tracker now old.reassembly new.reassembly
          (carries_current history first old.tracker.cumulative past offset arrival.tsn arrival.chunk (new_beyond first (length history.log) offset r.taken old.tracker f.small f.few below r.tracks (by_offset is)) c) r tracks
          ((new_is_new first (length history.log) offset arrival.immediate_ack r.taken old.tracker f.small f.few below r.tracks).1 (by_offset is)) (loud is) counted exact up fresh adds
      go false is adds =
          subst (λ (s : ReassemblyState). HasReceivedInOrder watch (sent_messages queued history) quiet first read now s) (sym adds)
          (tracked_on watch queued history quiet first read old.tracker now old.reassembly r (tracks_fewer first (length history.log) (offset ∷ r.taken) r.taken now (λ k h. inr h) tracks)
          (λ small. subst (λ (t : ℕ). (k : ℕ) → IsKnownTsn watch history k → has_received (tracker_after_data t arrival.immediate_ack old.tracker) (tracked_number first k) ≡ true → HasEntry k r.taken) (sym c.is)
          (known_exact first (length history.log) offset arrival.immediate_ack old.tracker r.taken f.small f.few below r.tracks (IsKnownTsn watch history) (r.exact small) (subst (λ (t : ℕ). is_new_tsn t old.tracker ≡ false) c.is is))) up
          (λ small n e. inl (known_before first (length history.log) offset arrival.immediate_ack r.taken old.tracker f.small f.few below r.tracks (subst (λ (t : ℕ). is_new_tsn t old.tracker ≡ false) c.is is) n
          (ap (λ (t : ℕ). has_received (tracker_after_data t arrival.immediate_ack old.tracker) (tracked_number first n)) (sym c.is) ∙ e))))

  pub same_transfer : (old new : Transfer) → new ≡ old → HasReceivedInOrder watch (sent_messages queued history) quiet first read old.tracker old.reassembly → HasReceivedInOrder watch (sent_messages queued history) quiet first read new.tracker new.reassembly
  same_transfer old new same r = subst (λ (t : Transfer). HasReceivedInOrder watch (sent_messages queued history) quiet first read t.tracker t.reassembly) (sym same) r

  dropped_in_order : (b : Bool) (old new : Transfer) → new ≡ dropping b old → HasReceivedInOrder watch (sent_messages queued history) quiet first read old.tracker old.reassembly → HasReceivedInOrder watch (sent_messages queued history) quiet first read new.tracker new.reassembly
  dropped_in_order true old new same r =
      same_transfer (dropping true old) new same (tracked_on watch queued history quiet first read old.tracker (delay_over old.tracker) old.reassembly r (delayed_tracks first (length history.log) r.taken old.tracker r.tracks) r.exact (omega arith) (λ small n e. inl e))
  dropped_in_order false old new same r = same_transfer old new same r

  pub received_in_order : (offset : ℕ) (arrival : Arrival) (old new : Transfer) → Carries history.log first offset arrival.tsn arrival.chunk → OthersArePast history first old.tracker.cumulative
      → QuietAreOver history quiet first old.tracker.cumulative → HasReceivedInOrder watch (sent_messages queued history) quiet first read old.tracker old.reassembly
      → (old.reassembly.max_size ≤ 2 ^ 63 → has_room arrival.tsn old ≡ true → can_count (length arrival.chunk.payload) old.reassembly ≡ true) → ReceivesData arrival old new → HasReceivedInOrder watch (sent_messages queued history) quiet first read new.tracker new.reassembly
  received_in_order offset arrival old new c past over r counted receives = go (has_room arrival.tsn old && is_valid_tsn old.tracker.cumulative arrival.tsn) refl receives
    where
      go : (b : Bool) → (has_room arrival.tsn old && is_valid_tsn old.tracker.cumulative arrival.tsn) ≡ b → ReceivesIfRoom b arrival old new → HasReceivedInOrder watch (sent_messages queued history) quiet first read new.tracker new.reassembly
      go true e takes = taken_in_order offset arrival old new c past over r (λ small. counted small (both (has_room arrival.tsn old) (is_valid_tsn old.tracker.cumulative arrival.tsn) e).0) takes
      go false e same = dropped_in_order (old.tracker.follows_rfc && is_valid_tsn old.tracker.cumulative arrival.tsn) old new same r
