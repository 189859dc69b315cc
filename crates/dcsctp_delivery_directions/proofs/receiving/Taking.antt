-- What the user reads, what a new association has received, and what else a tracker does.
use Rattle.std.proofs.Common.{◌≡◌, ℕ, Bool, true, false, ◌<◌, ◌≤◌, ◌+◌, ◌-◌, ◌%◌, ◌^◌, List, [], ◌∷◌, ◌++◌, length, refl, sym, ◌∙◌, ap, arith, subst, inl, inr}
use Rattle.std.specs.Prelude.{if◌then◌else◌, Option, None, Some}
use Rattle.std.proofs.lemmas.Bool.Decides.{nat_tests}
use Rattle.dcsctp_spec_lemmas.specs.types.declared.arrivals.SkippedTo.{SkippedTo}
use Rattle.dcsctp_spec_lemmas.specs.types.declared.options.Options.{Options}
use Rattle.dcsctp_spec_lemmas.specs.types.queues.Messages.{MessageContent}
use Rattle.dcsctp_spec_lemmas.specs.spec.queues.Incoming.{IncomingModel}
use Rattle.dcsctp_spec_lemmas.specs.spec.queues.Reassembly.{begun_deferral, deferring, DeferralModel, ReassemblyState, waiting_of, new_reassembly}
use Rattle.dcsctp_spec_lemmas.specs.types.declared.tracking.TsnRange.{TsnRange}
use Rattle.dcsctp_spec_lemmas.specs.spec.queues.Ranges.{IsBeyond, is_received}
use Rattle.dcsctp_spec_lemmas.specs.spec.queues.Tracker.{has_received, TrackerState, new_tracker, is_forward, is_valid_tsn, after_forward, delay_over, moved_forward}
use Rattle.dcsctp_spec_lemmas.specs.spec.queues.Transfer.{Transfer, part_overhead}
use Rattle.dcsctp_spec_lemmas.specs.spec.endpoint.TransferMoves.{SkipsIfMoved, MovesIfForward, MovesForward}
use Rattle.dcsctp_delivery_directions.specs.sending.Places.{HasEntry}
use Rattle.dcsctp_delivery_directions.specs.sending.Log.{Message, History, sent_messages}
use Rattle.dcsctp_delivery_directions.specs.sending.Numbers.{AreCurrent}
use Rattle.dcsctp_delivery_directions.specs.receiving.Ready.{AreDistinct, WereQueued, WasQueued, HoldsIncoming}
use Rattle.dcsctp_delivery_directions.specs.receiving.Tracked.{tracked_number, Tracks}
use Rattle.dcsctp_delivery_directions.specs.receiving.Received.{Reassembles, untouched, placed, DefersData, WaitBeyond, ForwardsWait, HasReceived, Few, ReadsQueued}
use Rattle.dcsctp_delivery_directions.proofs.receiving.Tracked.{delayed_tracks}
use Rattle.dcsctp_delivery_directions.proofs.receiving.Current.{past_kept}
use Rattle.dcsctp_delivery_directions.proofs.receiving.Skipping.{new_rows}
use Rattle.dcsctp_delivery_directions.proofs.receiving.Distinct.{has_left, has_right, appended, distinct_left}

pub nothing_passed : (first count cumulative tsn : ℕ) → first < 2 ^ 32 → count < 2 ^ 31 → cumulative + 1 ≤ tracked_number first count → tracked_number first 0 ≤ cumulative + 1 → tsn ≡ (first + 0 + (2 ^ 32 - 1)) % 2 ^ 32 → is_forward cumulative tsn ≡ false
nothing_passed first count cumulative tsn small few reached started is = grind (arith, nat_tests, is)

pub passing_nothing : (queued : List Message) (history : History) (first : ℕ) (f : Few history first) (read : List ℕ) (tsn : ℕ) (entries : List SkippedTo) (old new : Transfer) → tsn ≡ (first + 0 + (2 ^ 32 - 1)) % 2 ^ 32
    → HasReceived queued history first read old.tracker old.reassembly → MovesForward tsn entries old new → HasReceived queued history first read new.tracker new.reassembly
passing_nothing queued history first f read tsn entries old new is r moves = go (is_valid_tsn old.tracker.cumulative tsn) moves
  where
    none : is_forward old.tracker.cumulative tsn ≡ false
    none = nothing_passed first (length history.log) old.tracker.cumulative tsn f.small f.few r.tracks.reached r.tracks.started is

    now : after_forward tsn old.tracker ≡ delay_over old.tracker
    now = subst (λ (c : Bool). (if c then moved_forward tsn old.tracker else delay_over old.tracker) ≡ delay_over old.tracker) (sym none) refl

    delayed : Tracks first (length history.log) r.taken (delay_over old.tracker)
    delayed = delayed_tracks first (length history.log) r.taken old.tracker r.tracks

    kept : HasReceived queued history first read (delay_over old.tracker) old.reassembly
    kept =
        record {
          taken = r.taken;
          got = r.got;
          later = r.later;
          tracks = delayed;
          got_taken = r.got_taken;
          later_taken = r.later_taken;
          apart = r.apart;
          distinct = r.distinct;
          holds = r.holds;
          defers = r.defers;
          beyond = r.beyond;
          forwards = r.forwards;
          old = r.old;
        }

    go : (b : Bool) → MovesIfForward b tsn entries old new → HasReceived queued history first read new.tracker new.reassembly
    go false same = subst (λ (t : Transfer). HasReceived queued history first read t.tracker t.reassembly) (sym same) r
    go true goes =
        let same : new.reassembly ≡ old.reassembly = subst (λ (c : Bool). SkipsIfMoved c tsn entries old.reassembly new.reassembly) none goes.reassembly in
        subst (λ (k : TrackerState). HasReceived queued history first read k new.reassembly) (sym (ap (λ (k : Transfer). k.tracker) goes.rest ∙ now))
        (subst (λ (s : ReassemblyState). HasReceived queued history first read (delay_over old.tracker) s) (sym same) kept)

-- ---- what the user takes

-- the first that is ready
record Taken' (queued : List Message) (history : History) (got : List ℕ) (base : ℕ) (read : List ℕ) (incoming : IncomingModel) (message : MessageContent) (messages : List MessageContent) : Type 0 where
  place : ℕ
  was : WasQueued queued place message
  fresh : HasEntry place read → ⊥
  holds : HoldsIncoming queued history got base (read ++ place ∷ []) (record incoming { ready = messages })

taken_first : (queued : List Message) (history : History) (got : List ℕ) (base : ℕ) (read : List ℕ) (incoming : IncomingModel) (message : MessageContent) (messages : List MessageContent) → incoming.ready ≡ message ∷ messages
    → HoldsIncoming queued history got base read incoming → Taken' queued history got base read incoming message messages
taken_first queued history got base read incoming message messages is holds =
    go holds.places refl (subst (λ (l : List MessageContent). WereQueued queued holds.places l) is holds.were_queued)
  where
    not_twice : (p : ℕ) (xs ys : List ℕ) → AreDistinct (xs ++ (p ∷ ys)) → HasEntry p xs → ⊥
    not_twice p [] ys distinct h = h
    not_twice p (x ∷ xs) ys distinct h =
        elim h [
          | inl e ↦ distinct.0 (has_right x xs (p ∷ ys) (inl (sym e)))
          | inr t ↦ not_twice p xs ys distinct.1 t
        ]

    go : (places : List ℕ) → holds.places ≡ places → WereQueued queued places (message ∷ messages) → Taken' queued history got base read incoming message messages
    go [] e were = absurd were
    go (p ∷ places) e were =
        let all : read ++ holds.places ≡ (read ++ p ∷ []) ++ places = ap (λ (l : List ℕ). read ++ l) e ∙ sym (appended read (p ∷ []) places) in
        record {
          place = p;
          was = were.0;
          fresh = not_twice p read places (subst (λ (l : List ℕ). AreDistinct (read ++ l)) e (distinct_left (read ++ holds.places) (holds.waits 0) (holds.once 0)));
          holds = record {
            waits = holds.waits;
            streams_hold = holds.streams_hold;
            rows = holds.rows;
            places = places;
            were_queued = were.1;
            spent = λ q h. holds.spent q (subst (λ (l : List ℕ). HasEntry q l) (sym all) h);
            once = λ id. subst (λ (l : List ℕ). AreDistinct (l ++ holds.waits id)) all (holds.once id);
          };
        }

pub reads_on : (queued : List Message) (history : History) (first : ℕ) (read : List ℕ) (tracker : TrackerState) (reassembly : ReassemblyState) (message : MessageContent) (messages : List MessageContent)
    → reassembly.incoming.ready ≡ message ∷ messages → HasReceived queued history first read tracker reassembly → ReadsQueued (sent_messages queued history) first read tracker reassembly message messages
reads_on queued history first read tracker reassembly message messages is r = go r.holds
  where
    go : Reassembles queued history first r.got read reassembly.incoming → ReadsQueued (sent_messages queued history) first read tracker reassembly message messages
    go (placed base at holds) =
        let t = taken_first queued history r.got base read reassembly.incoming message messages is holds in
        record {
          place = t.place;
          sent = t.was.message;
          at = t.was.at;
          stream = t.was.stream;
          ppid = t.was.ppid;
          payload = t.was.payload;
          fresh = t.fresh;
          received = record {
            taken = r.taken;
            got = r.got;
            later = r.later;
            tracks = r.tracks;
            got_taken = r.got_taken;
            later_taken = r.later_taken;
            apart = r.apart;
            distinct = r.distinct;
            holds = placed base at t.holds;
            defers = r.defers;
            beyond = r.beyond;
            forwards = r.forwards;
            old = r.old;
          };
        }
    go (untouched none last empty) =
        let t = taken_first queued history [] 0 read reassembly.incoming message messages is (empty 0) in
        let spent = t.holds.spent t.place (has_left t.place (read ++ t.place ∷ []) t.holds.places (has_right t.place read (t.place ∷ []) (inl refl))) in
        absurd (spent.covered spent.offset spent.head spent.at_head spent.is (omega arith) spent.order)

-- ---- a new association

pub nothing_received : (options : Options) (queued : List Message) (history : History) (first size : ℕ) → first < 2 ^ 32 → AreCurrent history history.log
    → HasReceived queued history first [] (new_tracker options first) (new_reassembly size (part_overhead options))
nothing_received options queued history first size small are =
    record {
      taken = [];
      got = [];
      later = [];
      tracks = record {
        beyond = tt;
        reached = omega arith;
        started = omega arith;
        sent = λ number is. (let up : number ≤ (first + (2 ^ 32 - 1)) % 2 ^ 32 = grind (arith, nat_tests, is) in omega arith);
        received = λ offset h. absurd h;
      };
      got_taken = λ k h. absurd h;
      later_taken = λ k h. absurd h;
      apart = λ k h g. absurd h;
      distinct = tt;
      holds = untouched refl refl
          (λ base. record {
            waits = λ id. [];
            streams_hold = λ id. record { rows = new_rows history [] base id; wait = tt };
            rows = tt;
            places = [];
            were_queued = tt;
            spent = λ p h. absurd h;
            once = λ id. tt;
          });
      defers = tt;
      beyond = tt;
      forwards = tt;
      old = λ n f at kind aged. absurd (aged (are n f at kind));
    }

-- ---- the rest of what a tracker and a deferral do

-- when an acknowledgement is due is another matter
pub tracked_so : (queued : List Message) (history : History) (first : ℕ) (read : List ℕ) (tracker now : TrackerState) (reassembly : ReassemblyState) → now.cumulative ≡ tracker.cumulative → now.ranges ≡ tracker.ranges
    → HasReceived queued history first read tracker reassembly → HasReceived queued history first read now reassembly
tracked_so queued history first read tracker now reassembly same same' r =
    record {
      taken = r.taken;
      got = r.got;
      later = r.later;
      tracks = record {
        beyond = subst (λ (c : ℕ). IsBeyond c now.ranges) (sym same) (subst (λ (l : List TsnRange). IsBeyond tracker.cumulative l) (sym same') r.tracks.beyond);
        reached = omega (arith, same, r.tracks.reached);
        started = omega (arith, same, r.tracks.started);
        sent = λ number is. r.tracks.sent number (sym (alike number) ∙ is);
        received = λ offset h. alike (tracked_number first offset) ∙ r.tracks.received offset h;
      };
      got_taken = r.got_taken;
      later_taken = r.later_taken;
      apart = r.apart;
      distinct = r.distinct;
      holds = r.holds;
      defers = r.defers;
      beyond = r.beyond;
      forwards = r.forwards;
      old = past_kept history first tracker.cumulative now.cumulative (omega (arith, same)) r.old;
    }
  where
    alike : (number : ℕ) → has_received now number ≡ has_received tracker number
    alike number = ap (λ (c : ℕ). is_received c number now.ranges) same ∙ ap (λ (l : List TsnRange). is_received tracker.cumulative number l) same'

pub deferring_keeps : (queued : List Message) (history : History) (first : ℕ) (read : List ℕ) (last_tsn : ℕ) (streams : List ℕ) (tracker : TrackerState) (reassembly : ReassemblyState) → HasReceived queued history first read tracker reassembly
    → HasReceived queued history first read tracker (deferring last_tsn streams reassembly)
deferring_keeps queued history first read last_tsn streams tracker reassembly r =
    record {
      taken = r.taken;
      got = r.got;
      later = r.later;
      tracks = r.tracks;
      got_taken = r.got_taken;
      later_taken = r.later_taken;
      apart = r.apart;
      distinct = r.distinct;
      holds = r.holds;
      defers = go reassembly.deferral r.later r.defers;
      beyond = still_beyond reassembly.deferral r.beyond;
      forwards = still_kept reassembly.deferral r.forwards;
      old = r.old;
    }
  where
    still_beyond : (d : Option DeferralModel) → WaitBeyond d → WaitBeyond (begun_deferral last_tsn streams d)
    still_beyond None beyond = tt
    still_beyond (Some d) beyond = beyond

    still_kept : (d : Option DeferralModel) → ForwardsWait history first d → ForwardsWait history first (begun_deferral last_tsn streams d)
    still_kept None wait = tt
    still_kept (Some d) wait = wait

    go : (d : Option DeferralModel) (later : List ℕ) → DefersData history first later (waiting_of d) → DefersData history first later (waiting_of (begun_deferral last_tsn streams d))
    go None later defers = defers
    go (Some d) later defers = defers
