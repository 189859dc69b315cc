-- A DATA chunk and a FORWARD-TSN, with the tracker.
use Rattle.std.proofs.Common.{◌≡◌, ℕ, Bool, true, false, ◌<◌, ◌≤◌, ◌+◌, ◌%◌, ◌^◌, List, [], ◌∷◌, ◌++◌, length, refl, sym, ◌∙◌, ap, arith, subst, inl, inr}
use Rattle.std.specs.Prelude.{◌&&◌, not, if◌then◌else◌, Option, Some}
use Rattle.std.proofs.lemmas.List.{append-nil}
use Rattle.dcsctp_spec_lemmas.specs.types.declared.arrivals.SkippedTo.{SkippedTo}
use Rattle.dcsctp_spec_lemmas.specs.spec.queues.Arrivals.{Arrival}
use Rattle.dcsctp_spec_lemmas.specs.spec.queues.IncomingStreams.{ChunkModel, skipped_stream}
use Rattle.dcsctp_spec_lemmas.specs.spec.queues.Reassembly.{DeferralModel, ReassemblyState, can_count, entries_beside, is_data_deferred, is_forward_deferred, names_stream, AddsData, SkipsData, waiting_of}
use Rattle.dcsctp_spec_lemmas.specs.spec.queues.Tracker.{TrackerState, is_new_tsn, tracker_after_data, is_forward, is_valid_tsn, after_forward, delay_over, moved_forward}
use Rattle.dcsctp_spec_lemmas.specs.spec.queues.Transfer.{Transfer}
use Rattle.dcsctp_spec_lemmas.specs.spec.endpoint.TransferMoves.{AddsIfNew, has_room, dropping, ReceivesIfRoom, SkipsIfMoved, GoesForward, MovesIfForward, ReceivesData, MovesForward, TakesData as TakesArrival}
use Rattle.dcsctp_delivery_directions.specs.sending.Places.{HasEntry}
use Rattle.dcsctp_delivery_directions.specs.sending.Log.{Message, History, IsLogOfPieces}
use Rattle.dcsctp_delivery_directions.specs.receiving.Ready.{AreDistinct, AreNamed, IsNamedEntry, SkipAll}
use Rattle.dcsctp_delivery_directions.specs.sending.Numbers.{IsUnambiguous}
use Rattle.dcsctp_delivery_directions.specs.receiving.Tracked.{Tracks}
use Rattle.dcsctp_delivery_directions.specs.receiving.Received.{Carries, CarriesCurrent, IsTsn, SkipsTo, WaitBeyond, ForwardsWait, DefersData, HasReceived, Few}
use Rattle.dcsctp_delivery_directions.proofs.sending.Places.{at_below}
use Rattle.dcsctp_delivery_directions.proofs.receiving.Distinct.{has_either, distinct_with}
use Rattle.dcsctp_delivery_directions.proofs.receiving.Tracked.{new_is_new, passing_keeps, delayed_tracks, observed_up, forward_up, new_beyond, forward_beyond}
use Rattle.dcsctp_delivery_directions.proofs.receiving.Current.{past_kept, carries_current, skips_to}
use Rattle.dcsctp_delivery_directions.proofs.receiving.Kept.{all_left, deferred_by, each_named, forward_waits}
use Rattle.dcsctp_delivery_directions.proofs.receiving.Reassembled.{forward_handled, waiting_data, data_handled, waiting_beyond, data_forwards}

module _ (queued : List Message) (history : History) (first : ℕ) (cut : IsLogOfPieces queued history.log) (told : IsUnambiguous history) (f : Few history first) (read : List ℕ) where
  -- a chunk whose TSN is new
  added : (offset tsn : ℕ) (chunk : ChunkModel) (tracker now : TrackerState) (old new : ReassemblyState) → CarriesCurrent history first offset tsn chunk → (r : HasReceived queued history first read tracker old)
      → tracker.cumulative ≤ now.cumulative → Tracks first (length history.log) (offset ∷ r.taken) now → (HasEntry offset r.taken → ⊥) → AddsData tsn chunk old new → HasReceived queued history first read now new
  added offset tsn chunk tracker now old new c r up tracks fresh adds = go (can_count (length chunk.payload) old) refl (is_data_deferred tsn chunk.stream old.deferral) refl
    where
      unhandled : HasEntry offset r.got → ⊥
      unhandled h = fresh (r.got_taken offset h)

      go : (counts : Bool) → can_count (length chunk.payload) old ≡ counts → (waits : Bool) → is_data_deferred tsn chunk.stream old.deferral ≡ waits → HasReceived queued history first read now new
      go false counts waits deferred =
          subst (λ (s : ReassemblyState). HasReceived queued history first read now s) (sym (adds.too_much counts))
          (record {
            taken = offset ∷ r.taken;
            got = r.got;
            later = r.later;
            tracks = tracks;
            got_taken = λ k h. inr (r.got_taken k h);
            later_taken = λ k h. inr (r.later_taken k h);
            apart = r.apart;
            distinct = r.distinct;
            holds = r.holds;
            defers = r.defers;
            beyond = r.beyond;
            forwards = r.forwards;
            old = past_kept history first tracker.cumulative now.cumulative up r.old;
          })
      go true counts true deferred =
          subst (λ (s : ReassemblyState). HasReceived queued history first read now s) (sym (adds.deferred counts deferred))
          (record {
            taken = offset ∷ r.taken;
            got = r.got;
            later = r.later ++ offset ∷ [];
            tracks = tracks;
            got_taken = λ k h. inr (r.got_taken k h);
            later_taken = λ k h. elim (has_either k r.later (offset ∷ []) h) [
              | inl l ↦ inr (r.later_taken k l)
              | inr e ↦ elim e [ inl e' ↦ inl e' | inr t ↦ absurd t ]
            ];
            apart = λ k h g. elim (has_either k r.later (offset ∷ []) h) [
              | inl l ↦ r.apart k l g
              | inr e ↦ elim e [ inl e' ↦ unhandled (subst (λ (j : ℕ). HasEntry j r.got) e' g) | inr t ↦ absurd t ]
            ];
            distinct = distinct_with offset r.later [] (subst (λ (l : List ℕ). AreDistinct l) (sym (append-nil r.later)) r.distinct)
                (λ h. fresh (r.later_taken offset (subst (λ (l : List ℕ). HasEntry offset l) (append-nil r.later) h)));
            holds = r.holds;
            defers = waiting_data history first offset tsn chunk r.later old.deferral deferred c r.defers;
            beyond = waiting_beyond tsn chunk old.deferral deferred r.beyond;
            forwards = data_forwards history first (record { tsn = tsn; chunk = chunk }) old.deferral r.forwards;
            old = past_kept history first tracker.cumulative now.cumulative up r.old;
          })
      go true counts false deferred =
          let takes = adds.taken counts deferred in
          record {
            taken = offset ∷ r.taken;
            got = offset ∷ r.got;
            later = r.later;
            tracks = tracks;
            got_taken = λ k h. elim h [ inl e ↦ inl e | inr t ↦ inr (r.got_taken k t) ];
            later_taken = λ k h. inr (r.later_taken k h);
            apart = λ k h g. elim g [ inl e ↦ fresh (r.later_taken offset (subst (λ (j : ℕ). HasEntry j r.later) e h)) | inr t ↦ r.apart k h t ];
            distinct = r.distinct;
            holds = data_handled queued history first cut told f read r.got offset tsn chunk old.incoming new.incoming c unhandled r.holds takes.incoming;
            defers = subst (λ (d : Option DeferralModel). DefersData history first r.later (waiting_of d)) (sym takes.deferral) r.defers;
            beyond = subst (λ (d : Option DeferralModel). WaitBeyond d) (sym takes.deferral) r.beyond;
            forwards = subst (λ (d : Option DeferralModel). ForwardsWait history first d) (sym takes.deferral) r.forwards;
            old = past_kept history first tracker.cumulative now.cumulative up r.old;
          }

  -- the tracker moves alone
  tracked_on : (tracker now : TrackerState) (reassembly : ReassemblyState) (r : HasReceived queued history first read tracker reassembly) (taken : List ℕ) → ((k : ℕ) → HasEntry k r.taken → HasEntry k taken) → tracker.cumulative ≤ now.cumulative
      → Tracks first (length history.log) taken now → HasReceived queued history first read now reassembly
  tracked_on tracker now reassembly r taken among up tracks =
      record {
        taken = taken;
        got = r.got;
        later = r.later;
        tracks = tracks;
        got_taken = λ k h. among k (r.got_taken k h);
        later_taken = λ k h. among k (r.later_taken k h);
        apart = r.apart;
        distinct = r.distinct;
        holds = r.holds;
        defers = r.defers;
        beyond = r.beyond;
        forwards = r.forwards;
        old = past_kept history first tracker.cumulative now.cumulative up r.old;
      }

  taken_keeps : (offset : ℕ) (arrival : Arrival) (old new : Transfer) → Carries history.log first offset arrival.tsn arrival.chunk → HasReceived queued history first read old.tracker old.reassembly → TakesArrival arrival old new
      → HasReceived queued history first read new.tracker new.reassembly
  taken_keeps offset arrival old new c r takes =
      subst (λ (t : TrackerState). HasReceived queued history first read t new.reassembly) (sym (ap (λ (t : Transfer). t.tracker) takes.rest)) (go (is_new_tsn arrival.tsn old.tracker) refl takes.reassembly)
    where
      now : TrackerState
      now = tracker_after_data arrival.tsn arrival.immediate_ack old.tracker

      below : offset < length history.log
      below = at_below offset (Some c.piece) history.log c.at

      up : old.tracker.cumulative ≤ now.cumulative
      up = observed_up arrival.tsn arrival.immediate_ack old.tracker r.tracks.beyond

      tracks : Tracks first (length history.log) (offset ∷ r.taken) now
      tracks =
          subst (λ (t : ℕ). Tracks first (length history.log) (offset ∷ r.taken) (tracker_after_data t arrival.immediate_ack old.tracker)) (sym c.is)
          (new_is_new first (length history.log) offset arrival.immediate_ack r.taken old.tracker f.small f.few below r.tracks).0

      by_offset : is_new_tsn arrival.tsn old.tracker ≡ true → is_new_tsn ((first + offset) % 2 ^ 32) old.tracker ≡ true
      by_offset is = subst (λ (t : ℕ). is_new_tsn t old.tracker ≡ true) c.is is

      fresh : is_new_tsn arrival.tsn old.tracker ≡ true → HasEntry offset r.taken → ⊥
      fresh is = (new_is_new first (length history.log) offset arrival.immediate_ack r.taken old.tracker f.small f.few below r.tracks).1 (by_offset is)

      -- a piece whose TSN is new was sent since the last reset of its stream
      current : is_new_tsn arrival.tsn old.tracker ≡ true → CarriesCurrent history first offset arrival.tsn arrival.chunk
      current is =
          carries_current history first old.tracker.cumulative r.old offset arrival.tsn arrival.chunk
          (new_beyond first (length history.log) offset r.taken old.tracker f.small f.few below r.tracks (by_offset is)) c

      go : (b : Bool) → is_new_tsn arrival.tsn old.tracker ≡ b → AddsIfNew b arrival.tsn arrival.chunk old.reassembly new.reassembly
          → HasReceived queued history first read (tracker_after_data arrival.tsn arrival.immediate_ack old.tracker) new.reassembly
      go true is adds = added offset arrival.tsn arrival.chunk old.tracker now old.reassembly new.reassembly (current is) r up tracks (fresh is) adds
      go false is adds = subst (λ (s : ReassemblyState). HasReceived queued history first read now s) (sym adds) (tracked_on old.tracker now old.reassembly r (offset ∷ r.taken) (λ k h. inr h) up tracks)

  same_transfer : (old new : Transfer) → new ≡ old → HasReceived queued history first read old.tracker old.reassembly → HasReceived queued history first read new.tracker new.reassembly
  same_transfer old new same r = subst (λ (t : Transfer). HasReceived queued history first read t.tracker t.reassembly) (sym same) r

  -- Data that is dropped leaves what was received.
  dropped_keeps : (b : Bool) (old new : Transfer) → new ≡ dropping b old → HasReceived queued history first read old.tracker old.reassembly → HasReceived queued history first read new.tracker new.reassembly
  dropped_keeps true old new same r =
      same_transfer (dropping true old) new same
      (tracked_on old.tracker (delay_over old.tracker) old.reassembly r r.taken (λ k h. h) (omega arith) (delayed_tracks first (length history.log) r.taken old.tracker r.tracks))
  dropped_keeps false old new same r = same_transfer old new same r

  pub receiving_keeps : (offset : ℕ) (arrival : Arrival) (old new : Transfer) → Carries history.log first offset arrival.tsn arrival.chunk → HasReceived queued history first read old.tracker old.reassembly → ReceivesData arrival old new
      → HasReceived queued history first read new.tracker new.reassembly
  receiving_keeps offset arrival old new c r receives = go (has_room arrival.tsn old && is_valid_tsn old.tracker.cumulative arrival.tsn) receives
    where
      go : (b : Bool) → ReceivesIfRoom b arrival old new → HasReceived queued history first read new.tracker new.reassembly
      go true takes = taken_keeps offset arrival old new c r takes
      go false same = dropped_keeps (old.tracker.follows_rfc && is_valid_tsn old.tracker.cumulative arrival.tsn) old new same r

  -- ---- a FORWARD-TSN

  skipped_keeps : (tsn : ℕ) (entries : List SkippedTo) (tracker now : TrackerState) (old new : ReassemblyState) → SkipsTo history first tsn entries → (r : HasReceived queued history first read tracker old) → tracker.cumulative ≤ now.cumulative
      → Tracks first (length history.log) r.taken now → SkipsData tsn entries old new → HasReceived queued history first read now new
  skipped_keeps tsn entries tracker now old new skips_to' r up tracks skips = go (is_forward_deferred tsn old.deferral) refl
    where
      named : AreNamed history entries
      named = each_named history first (skips_to'.tsn_is.offset + 1) entries skips_to'.names

      go : (b : Bool) → is_forward_deferred tsn old.deferral ≡ b → HasReceived queued history first read now new
      go true is =
          let (waits, same, far) = deferred_by tsn old.deferral is in
          let beside = skips.deferred is waits same in
          record {
            taken = r.taken;
            got = r.got;
            later = r.later;
            tracks = tracks;
            got_taken = r.got_taken;
            later_taken = r.later_taken;
            apart = r.apart;
            distinct = r.distinct;
            holds = forward_handled queued history first cut told f read r.got tsn (entries_beside waits.streams entries) old.incoming new.incoming skips_to'.tsn_is
                (all_left (IsNamedEntry history) (λ entry. not (names_stream waits.streams (skipped_stream entry))) entries named) r.holds beside.incoming;
            defers = subst (λ (d : Option DeferralModel). DefersData history first r.later (waiting_of d)) (sym beside.deferral)
                (subst (λ (d : Option DeferralModel). DefersData history first r.later (waiting_of d)) same r.defers);
            beyond = subst (λ (d : Option DeferralModel). WaitBeyond d) (sym beside.deferral) (subst (λ (d : Option DeferralModel). WaitBeyond d) same r.beyond);
            forwards = subst (λ (d : Option DeferralModel). ForwardsWait history first d) (sym beside.deferral)
                (forward_waits history first tsn entries (λ entry. names_stream waits.streams (skipped_stream entry)) waits skips_to' far
                (subst (λ (d : Option DeferralModel). ForwardsWait history first d) same r.forwards));
            old = past_kept history first tracker.cumulative now.cumulative up r.old;
          }
      go false is =
          let moved = skips.moved is in
          record {
            taken = r.taken;
            got = r.got;
            later = r.later;
            tracks = tracks;
            got_taken = r.got_taken;
            later_taken = r.later_taken;
            apart = r.apart;
            distinct = r.distinct;
            holds = forward_handled queued history first cut told f read r.got tsn entries old.incoming new.incoming skips_to'.tsn_is named r.holds moved.incoming;
            defers = subst (λ (d : Option DeferralModel). DefersData history first r.later (waiting_of d)) (sym moved.deferral) r.defers;
            beyond = subst (λ (d : Option DeferralModel). WaitBeyond d) (sym moved.deferral) r.beyond;
            forwards = subst (λ (d : Option DeferralModel). ForwardsWait history first d) (sym moved.deferral) r.forwards;
            old = past_kept history first tracker.cumulative now.cumulative up r.old;
          }

  gone_forward : (tsn : ℕ) (entries : List SkippedTo) (old new : Transfer) → (t : IsTsn history.log first tsn) → SkipAll history (t.offset + 1) entries → HasReceived queued history first read old.tracker old.reassembly → GoesForward tsn entries old new
      → HasReceived queued history first read new.tracker new.reassembly
  gone_forward tsn entries old new t skip r goes =
      subst (λ (k : TrackerState). HasReceived queued history first read k new.reassembly) (sym (ap (λ (k : Transfer). k.tracker) goes.rest)) (go (is_forward old.tracker.cumulative tsn) refl goes.reassembly)
    where
      by_offset : is_forward old.tracker.cumulative tsn ≡ true → is_forward old.tracker.cumulative ((first + t.offset) % 2 ^ 32) ≡ true
      by_offset is = subst (λ (n : ℕ). is_forward old.tracker.cumulative n ≡ true) t.is is

      passed : is_forward old.tracker.cumulative tsn ≡ true → Tracks first (length history.log) r.taken (after_forward tsn old.tracker)
      passed is =
          subst (λ (n : ℕ). Tracks first (length history.log) r.taken (after_forward n old.tracker)) (sym t.is)
          (passing_keeps first (length history.log) t.offset r.taken old.tracker f.small f.few t.below r.tracks (by_offset is))

      up : old.tracker.cumulative ≤ (after_forward tsn old.tracker).cumulative
      up = forward_up tsn old.tracker r.tracks.beyond

      -- where the cumulative TSN moves, each message that is skipped was sent since the last reset of its stream
      current : is_forward old.tracker.cumulative tsn ≡ true → SkipsTo history first tsn entries
      current is =
          skips_to history first old.tracker.cumulative r.old tsn entries t
          (forward_beyond first (length history.log) t.offset r.taken old.tracker f.small f.few t.below r.tracks (by_offset is)) skip

      not_passed : (b : Bool) → is_forward old.tracker.cumulative tsn ≡ b → b ≡ false → after_forward tsn old.tracker ≡ delay_over old.tracker
      not_passed b is clear = subst (λ (c : Bool). (if c then moved_forward tsn old.tracker else delay_over old.tracker) ≡ delay_over old.tracker) (sym (is ∙ clear)) refl

      go : (b : Bool) → is_forward old.tracker.cumulative tsn ≡ b → SkipsIfMoved b tsn entries old.reassembly new.reassembly → HasReceived queued history first read (after_forward tsn old.tracker) new.reassembly
      go true is skips = skipped_keeps tsn entries old.tracker (after_forward tsn old.tracker) old.reassembly new.reassembly (current is) r up (passed is) skips
      go false is same =
          subst (λ (s : ReassemblyState). HasReceived queued history first read (after_forward tsn old.tracker) s) (sym same)
          (tracked_on old.tracker (after_forward tsn old.tracker) old.reassembly r r.taken (λ k h. h) up
          (subst (λ (k : TrackerState). Tracks first (length history.log) r.taken k) (sym (not_passed false is refl)) (delayed_tracks first (length history.log) r.taken old.tracker r.tracks)))

  pub forwarding_keeps : (tsn : ℕ) (entries : List SkippedTo) (old new : Transfer) → (t : IsTsn history.log first tsn) → SkipAll history (t.offset + 1) entries → HasReceived queued history first read old.tracker old.reassembly
      → MovesForward tsn entries old new → HasReceived queued history first read new.tracker new.reassembly
  forwarding_keeps tsn entries old new t skip r moves = go (is_valid_tsn old.tracker.cumulative tsn) moves
    where
      go : (b : Bool) → MovesIfForward b tsn entries old new → HasReceived queued history first read new.tracker new.reassembly
      go true goes = gone_forward tsn entries old new t skip r goes
      go false same = same_transfer old new same r
