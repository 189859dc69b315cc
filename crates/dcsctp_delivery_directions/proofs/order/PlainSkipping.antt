-- What is skipped of DATA of other streams leaves these in order, where nothing of these is passed that wasn't received.
use Rattle.std.proofs.Common.{◌≡◌, ◌==◌, ℕ, Bool, true, false, ◌<◌, ◌≤◌, ◌+◌, ◌-◌, ◌%◌, ◌^◌, List, [], ◌∷◌, ◌++◌, length, refl, sym, ◌∙◌, ap, arith, subst, inl, inr}
use Rattle.std.specs.Prelude.{not, if◌then◌else◌, Option, None, Some}
use Rattle.std.proofs.lemmas.Bool.Decides.{eqb_tells}
use Rattle.dcsctp_spec_lemmas.specs.types.declared.arrivals.SkippedTo.{SkippedTo}
use Rattle.dcsctp_spec_lemmas.specs.types.declared.arrivals.SkippedTo.TheVariants.{Ssn, Mid}
use Rattle.dcsctp_spec_lemmas.specs.spec.queues.Numbers.{number_near}
use Rattle.dcsctp_spec_lemmas.specs.spec.queues.IncomingStreams.{StreamModel, stream_after_skip, skipped_stream}
use Rattle.dcsctp_spec_lemmas.specs.spec.queues.Incoming.{IncomingModel, stream_on, stream_skipping, MovesOn}
use Rattle.dcsctp_spec_lemmas.specs.spec.queues.Reassembly.{ReassemblyState, DeferralModel, WaitingSkips, entries_beside, entries_within, is_forward_deferred, names_stream, waiting_of, skips_of, SkipsThen, SkipsData}
use Rattle.dcsctp_spec_lemmas.specs.spec.queues.Tracker.{TrackerState, has_received, is_forward, is_valid_tsn, after_forward, moved_forward, delay_over}
use Rattle.dcsctp_spec_lemmas.specs.spec.queues.Transfer.{Transfer}
use Rattle.dcsctp_spec_lemmas.specs.spec.endpoint.TransferMoves.{SkipsIfMoved, MovesIfForward, MovesForward}
use Rattle.dcsctp_delivery_directions.specs.sending.Places.{HasEntry, at_place}
use Rattle.dcsctp_delivery_directions.specs.sending.Log.{Message, Piece, History, IsLogOfPieces, sent_messages}
use Rattle.dcsctp_delivery_directions.specs.sending.Numbers.{AreOfKind}
use Rattle.dcsctp_delivery_directions.specs.receiving.Ready.{AreNamed, IsNamedEntry, SkipAll}
use Rattle.dcsctp_delivery_directions.specs.receiving.Received.{IsTsn, DefersData, SkipsWait, ForwardsWait, kept_entries}
use Rattle.dcsctp_delivery_directions.specs.receiving.Tracked.{tracked_number, Tracks}
use Rattle.dcsctp_delivery_directions.proofs.receiving.Distinct.{appended}
use Rattle.dcsctp_delivery_directions.proofs.receiving.Kept.{all_left, all_kept, deferred_by, later_named}
use Rattle.dcsctp_delivery_directions.proofs.receiving.Reassembled.{first_number, first_base, first_near, number_read}
use Rattle.dcsctp_delivery_directions.proofs.receiving.Skipping.{IsSkipped, skips_beside}
use Rattle.dcsctp_delivery_directions.proofs.receiving.Taking.{nothing_passed}
use Rattle.dcsctp_delivery_directions.proofs.receiving.Tracked.{up_to, passing_keeps, passed_either, delayed_tracks}
use Rattle.dcsctp_delivery_directions.proofs.receiving.Waiting.{HoldsBeside}
use Rattle.dcsctp_delivery_directions.specs.order.Queue.{IsOrderedOn}
use Rattle.dcsctp_delivery_directions.specs.order.Plain.{with_turns, CountsThese, PlainStream, IncomingPlain}
use Rattle.dcsctp_delivery_directions.proofs.order.Leaving.{more_filled}
use Rattle.dcsctp_delivery_directions.proofs.order.Leaving.{one_stream}
use Rattle.dcsctp_delivery_directions.proofs.order.Order.{others_stay}
use Rattle.dcsctp_delivery_directions.proofs.order.PlainReceived.{ReassemblesPlain, none_handled, some_handled, IsSure, HasReceivedPlain, SkipOthers, DefersBeside, IsSteadyAs, tracked_on}

-- messages of other streams became ready
apart_plain : (queued : List Message) (history : History) (got : List ℕ) (base id : ℕ) (all waits more : List ℕ) (stream : StreamModel)
    → ((place : ℕ) → HasEntry place more → IsOrderedOn queued id place → ⊥) → PlainStream (sent_messages queued history) got base id all waits stream → PlainStream (sent_messages queued history) got base id (all ++ more) waits stream
apart_plain queued history got base id all waits more stream none s =
    record {
      order = others_stay queued (with_turns history) id all waits more stream none s.order;
      filled = more_filled (with_turns history) id stream.next all more s.filled;
      from = s.from;
      apart = s.apart;
      runs = s.runs;
      held = s.held;
    }

-- no entry is for one of these
not_skipped : (these : ℕ → Bool) (entries : List SkippedTo) (id : ℕ) → SkipOthers these entries → these id ≡ true → IsSkipped entries id → ⊥
not_skipped these [] id others mine skipped_is = skipped_is
not_skipped these (entry ∷ entries) id others mine skipped_is =
    elim skipped_is [
      | inl same ↦ absurd (let clash : true ≡ false = sym mine ∙ ap these same ∙ others.0 in cc)
      | inr rest ↦ not_skipped these entries id others.1 mine rest
    ]

-- so it is left as it is
left_alone : (entries : List SkippedTo) (id : ℕ) (stream : StreamModel) → (IsSkipped entries id → ⊥) → stream_skipping entries id stream ≡ stream
left_alone [] id stream none = refl
left_alone (entry ∷ entries) id stream none =
    ap (λ (s : StreamModel). stream_skipping entries id s) (here (skipped_stream entry == id) refl) ∙ left_alone entries id stream (λ rest. none (inr rest))
  where
    here : (b : Bool) → (skipped_stream entry == id) ≡ b → (if b then stream_after_skip entry stream else stream) ≡ stream
    here false e = refl
    here true e = elim (eqb_tells (skipped_stream entry) id) [
      | inl same ↦ absurd (none (inl (sym same.1)))
      | inr ne ↦ absurd (let clash : true ≡ false = sym e ∙ ne.0 in cc)
    ]

-- entries of FORWARD-TSNs name DATA
pub plain_named : (history : History) (passed : ℕ) (entries : List SkippedTo) → AreOfKind false history.log → SkipAll history passed entries → AreNamed history entries
plain_named history passed [] kinds skip = tt
plain_named history passed (Ssn id ssn ∷ entries) kinds skip = ((passed, (skip.0, tt)), plain_named history passed entries kinds skip.1)
plain_named history passed (Mid id is_unordered mid ∷ entries) kinds skip = absurd (let clash : true ≡ false = sym skip.0.kind ∙ kinds skip.0.number skip.0.piece skip.0.at in cc)

module _ (these : ℕ → Bool) (queued : List Message) (history : History) (got : List ℕ) (base : ℕ) (read : List ℕ) where
  pub skipping_plain : (tsn : ℕ) (entries : List SkippedTo) (old new : IncomingModel) → SkipOthers these entries → AreNamed history entries → IncomingPlain these queued history got base read old → MovesOn tsn entries old new
      → IncomingPlain these queued history got base read new
  skipping_plain tsn entries old new others names o moves =
      let b : HoldsBeside queued history got base read (IsSkipped entries) o.holds.waits o.holds.places (λ id. stream_on id new.streams) new.unordered new.ready = skips_beside queued history got base read tsn entries old new names o.holds moves in
      record {
        holds = b.holds;
        order = λ id mine. (
            let none : IsSkipped entries id → ⊥ = not_skipped these entries id others mine in
            let same : stream_on id new.streams ≡ stream_on id old.streams = moves.streams id ∙ left_alone entries id (stream_on id old.streams) none in
            subst (λ (l : List ℕ). PlainStream (sent_messages queued history) got base id (read ++ l) (b.holds.waits id) (stream_on id new.streams)) (sym b.places_are)
            (subst (λ (l : List ℕ). PlainStream (sent_messages queued history) got base id (read ++ (o.holds.places ++ b.more)) l (stream_on id new.streams)) (sym (b.others id none))
            (subst (λ (s : StreamModel). PlainStream (sent_messages queued history) got base id (read ++ (o.holds.places ++ b.more)) (o.holds.waits id) s) (sym same)
            (subst (λ (l : List ℕ). PlainStream (sent_messages queued history) got base id l (o.holds.waits id) (stream_on id old.streams)) (appended read o.holds.places b.more)
            (apart_plain queued history got base id (read ++ o.holds.places) (o.holds.waits id) b.more (stream_on id old.streams)
            (λ place h is. (let on = b.on place h in none (subst (λ (k : ℕ). IsSkipped entries k) (one_stream queued on.0 id place on.2 (is.message, is.at, is.stream)) on.1))) (o.order id mine)))))
            );
      }

module _ (queued : List Message) (history : History) (first : ℕ) (cut : IsLogOfPieces queued history.log) (whole : Bool) (these : ℕ → Bool) (counts : CountsThese whole these history) (small : first < 2 ^ 32) (read : List ℕ) where
  pub forward_plain : (got : List ℕ) (tsn : ℕ) (entries : List SkippedTo) (old new : IncomingModel) → IsTsn history.log first tsn → SkipOthers these entries → AreNamed history entries
      → ReassemblesPlain these queued history first got read old → MovesOn tsn entries old new → ReassemblesPlain these queued history first got read new
  forward_plain got tsn entries old new t others names (some_handled base is holds) moves =
      let all = counts.few in
      let below = t.below in
      let few : t.offset < 2 ^ 31 = omega (arith, all, below) in
      let number = number_read first base old.last_tsn_number t.offset tsn is few t.is in
      some_handled base (record { same = is.same; near = is.near; worked = t.offset; few = few; is = moves.last ∙ number }) (skipping_plain these queued history got base read tsn entries old new others names holds moves)
  forward_plain got tsn entries old new t others names (none_handled none last empty) moves =
      let all = counts.few in
      let below = t.below in
      let few : t.offset < 2 ^ 31 = omega (arith, all, below) in
      let base : ℕ = number_near (2 ^ 32) ((first + t.offset) % 2 ^ 32) - t.offset in
      let up = first_number first t.offset small few in
      let number : number_near old.last_tsn_number tsn ≡ base + t.offset = ap (λ (l : ℕ). number_near l tsn) last ∙ ap (number_near (2 ^ 32)) t.is ∙ omega (arith, up) in
      some_handled base (record { same = first_base first t.offset small few; near = first_near first t.offset small few; worked = t.offset; few = few; is = moves.last ∙ number })
      (skipping_plain these queued history got base read tsn entries old new others names (subst (λ (l : List ℕ). IncomingPlain these queued history l base read old) (sym none) (empty base)) moves)

  -- a FORWARD-TSN
  module _ (some : whole ≡ false) (tsn : ℕ) (entries : List SkippedTo) (t : IsTsn history.log first tsn) (others : SkipOthers these entries) (named : AreNamed history entries) where
    -- What the tracker counts as received of these streams was, if all that the chunk passes of them was.
    passed_exact : (tracker : TrackerState) (taken : List ℕ) → Tracks first (length history.log) taken tracker → is_forward tracker.cumulative ((first + t.offset) % 2 ^ 32) ≡ true
        → ((k : ℕ) → IsSure whole these history.log k → has_received tracker (tracked_number first k) ≡ true → HasEntry k taken)
        → ((n : ℕ) (f : Piece) → at_place n history.log ≡ Some (Some f) → these f.message.stream ≡ true → n < t.offset + 1 → tracked_number first n ≤ tracker.cumulative)
        → (k : ℕ) → IsSure whole these history.log k → has_received (after_forward ((first + t.offset) % 2 ^ 32) tracker) (tracked_number first k) ≡ true → HasEntry k taken
    passed_exact tracker taken tracks forward exact known k sure is =
        elim (passed_either first (length history.log) t.offset taken tracker small counts.few t.below tracks forward k is) [
          | inl before ↦ exact k sure before
          | inr up ↦ of_passed sure up
        ]
      where
        of_passed : IsSure whole these history.log k → k < t.offset + 1 → HasEntry k taken
        of_passed (inl whole_is) up = absurd (let clash : true ≡ false = sym whole_is ∙ some in cc)
        of_passed (inr s) up = exact k (inr s) (up_to tracker.cumulative (tracked_number first k) tracker.ranges (known k s.0 s.1 s.2 up))

    skipped_plain : (tracker now : TrackerState) (old new : ReassemblyState) → (r : HasReceivedPlain whole these queued history first read tracker old) → Tracks first (length history.log) r.taken now
        → ((k : ℕ) → IsSure whole these history.log k → has_received now (tracked_number first k) ≡ true → HasEntry k r.taken) → SkipsData tsn entries old new
        → HasReceivedPlain whole these queued history first read now new
    skipped_plain tracker now old new r tracks exact skips = go (is_forward_deferred tsn old.deferral) refl
      where
        left : ReassemblesPlain these queued history first r.got read new.incoming → DefersData history first r.later (waiting_of new.deferral) → HasReceivedPlain whole these queued history first read now new
        left holds defers =
            record {
              taken = r.taken;
              got = r.got;
              later = r.later;
              tracks = tracks;
              exact = exact;
              pieces = r.pieces;
              got_taken = r.got_taken;
              later_taken = r.later_taken;
              either = r.either;
              apart = r.apart;
              distinct = r.distinct;
              holds = holds;
              defers = defers;
              others = r.others;
            }

        go : (b : Bool) → is_forward_deferred tsn old.deferral ≡ b → HasReceivedPlain whole these queued history first read now new
        go true is =
            let (waits, same, far) = deferred_by tsn old.deferral is in
            let beside = skips.deferred is waits same in
            let other : SkippedTo → Bool = λ entry. not (names_stream waits.streams (skipped_stream entry)) in
            left
            (forward_plain r.got tsn (entries_beside waits.streams entries) old.incoming new.incoming t (all_left (λ entry. these (skipped_stream entry) ≡ false) other entries others) (all_left (IsNamedEntry history) other entries named) r.holds beside.incoming)
            (subst (λ (d : Option DeferralModel). DefersData history first r.later (waiting_of d)) (sym beside.deferral) (subst (λ (d : Option DeferralModel). DefersData history first r.later (waiting_of d)) same r.defers))
        go false is =
            let moved = skips.moved is in
            left (forward_plain r.got tsn entries old.incoming new.incoming t others named r.holds moved.incoming)
            (subst (λ (d : Option DeferralModel). DefersData history first r.later (waiting_of d)) (sym moved.deferral) r.defers)

    delayed : (tracker : TrackerState) (old new : ReassemblyState) → is_forward tracker.cumulative tsn ≡ false → new ≡ old → HasReceivedPlain whole these queued history first read tracker old
        → HasReceivedPlain whole these queued history first read (after_forward tsn tracker) new
    delayed tracker old new is same r =
        subst (λ (s : ReassemblyState). HasReceivedPlain whole these queued history first read (after_forward tsn tracker) s) (sym same)
        (tracked_on whole these queued history first read tracker (after_forward tsn tracker) old r
        (subst (λ (k : TrackerState). Tracks first (length history.log) r.taken k) (sym not_passed) (delayed_tracks first (length history.log) r.taken tracker r.tracks))
        (λ k sure received. r.exact k sure (ap (λ (n : TrackerState). has_received n (tracked_number first k)) (sym not_passed) ∙ received)))
      where
        not_passed : after_forward tsn tracker ≡ delay_over tracker
        not_passed = subst (λ (c : Bool). (if c then moved_forward tsn tracker else delay_over tracker) ≡ delay_over tracker) (sym is) refl

    pub forwarded_plain : (old new : Transfer) → ((n : ℕ) (f : Piece) → at_place n history.log ≡ Some (Some f) → these f.message.stream ≡ true → n < t.offset + 1 → tracked_number first n ≤ old.tracker.cumulative)
        → HasReceivedPlain whole these queued history first read old.tracker old.reassembly → MovesForward tsn entries old new → HasReceivedPlain whole these queued history first read new.tracker new.reassembly
    forwarded_plain old new known r moves = go (is_valid_tsn old.tracker.cumulative tsn) moves
      where
        by_offset : is_forward old.tracker.cumulative tsn ≡ true → is_forward old.tracker.cumulative ((first + t.offset) % 2 ^ 32) ≡ true
        by_offset is = subst (λ (n : ℕ). is_forward old.tracker.cumulative n ≡ true) t.is is

        passed : is_forward old.tracker.cumulative tsn ≡ true → Tracks first (length history.log) r.taken (after_forward tsn old.tracker)
        passed is =
            subst (λ (n : ℕ). Tracks first (length history.log) r.taken (after_forward n old.tracker)) (sym t.is)
            (passing_keeps first (length history.log) t.offset r.taken old.tracker small counts.few t.below r.tracks (by_offset is))

        exact : is_forward old.tracker.cumulative tsn ≡ true → (k : ℕ) → IsSure whole these history.log k → has_received (after_forward tsn old.tracker) (tracked_number first k) ≡ true → HasEntry k r.taken
        exact is =
            subst (λ (n : ℕ). (k : ℕ) → IsSure whole these history.log k → has_received (after_forward n old.tracker) (tracked_number first k) ≡ true → HasEntry k r.taken) (sym t.is)
            (passed_exact old.tracker r.taken r.tracks (by_offset is) r.exact known)

        gone : (b : Bool) → is_forward old.tracker.cumulative tsn ≡ b → SkipsIfMoved b tsn entries old.reassembly new.reassembly → HasReceivedPlain whole these queued history first read (after_forward tsn old.tracker) new.reassembly
        gone true is skips = skipped_plain old.tracker (after_forward tsn old.tracker) old.reassembly new.reassembly r (passed is) (exact is) skips
        gone false is same = delayed old.tracker old.reassembly new.reassembly is same r

        go : (b : Bool) → MovesIfForward b tsn entries old new → HasReceivedPlain whole these queued history first read new.tracker new.reassembly
        go false same = subst (λ (k : Transfer). HasReceivedPlain whole these queued history first read k.tracker k.reassembly) (sym same) r
        go true goes =
            subst (λ (k : TrackerState). HasReceivedPlain whole these queued history first read k new.reassembly) (sym (ap (λ (k : Transfer). k.tracker) goes.rest))
            (gone (is_forward old.tracker.cumulative tsn) refl goes.reassembly)

  -- none is passed
  pub nothing_plain : (tsn : ℕ) (entries : List SkippedTo) (old new : Transfer) → tsn ≡ (first + 0 + (2 ^ 32 - 1)) % 2 ^ 32 → HasReceivedPlain whole these queued history first read old.tracker old.reassembly
      → MovesForward tsn entries old new → HasReceivedPlain whole these queued history first read new.tracker new.reassembly
  nothing_plain tsn entries old new is r moves = go (is_valid_tsn old.tracker.cumulative tsn) moves
    where
      none : is_forward old.tracker.cumulative tsn ≡ false
      none = nothing_passed first (length history.log) old.tracker.cumulative tsn small counts.few r.tracks.reached r.tracks.started is

      not_passed : after_forward tsn old.tracker ≡ delay_over old.tracker
      not_passed = subst (λ (c : Bool). (if c then moved_forward tsn old.tracker else delay_over old.tracker) ≡ delay_over old.tracker) (sym none) refl

      stays : new.reassembly ≡ old.reassembly → HasReceivedPlain whole these queued history first read (after_forward tsn old.tracker) new.reassembly
      stays same =
          subst (λ (s : ReassemblyState). HasReceivedPlain whole these queued history first read (after_forward tsn old.tracker) s) (sym same)
          (tracked_on whole these queued history first read old.tracker (after_forward tsn old.tracker) old.reassembly r
          (subst (λ (k : TrackerState). Tracks first (length history.log) r.taken k) (sym not_passed) (delayed_tracks first (length history.log) r.taken old.tracker r.tracks))
          (λ k sure received. r.exact k sure (ap (λ (n : TrackerState). has_received n (tracked_number first k)) (sym not_passed) ∙ received)))

      go : (b : Bool) → MovesIfForward b tsn entries old new → HasReceivedPlain whole these queued history first read new.tracker new.reassembly
      go false same = subst (λ (k : Transfer). HasReceivedPlain whole these queued history first read k.tracker k.reassembly) (sym same) r
      go true goes =
          subst (λ (k : TrackerState). HasReceivedPlain whole these queued history first read k new.reassembly) (sym (ap (λ (k : Transfer). k.tracker) goes.rest))
          (stays (subst (λ (c : Bool). SkipsIfMoved c tsn entries old.reassembly new.reassembly) none goes.reassembly))

  -- what was kept of FORWARD-TSNs is skipped at the end of a deferral
  pub skips_plain : (got : List ℕ) (deferral : Option DeferralModel) (old new : IncomingModel) → DefersBeside these deferral → ForwardsWait history first deferral → ReassemblesPlain these queued history first got read old
      → SkipsThen (skips_of deferral) old new → ReassemblesPlain these queued history first got read new
  skips_plain got None old new beside wait holds same = subst (λ (m : IncomingModel). ReassemblesPlain these queued history first got read m) (sym same) holds
  skips_plain got (Some d) old new beside wait holds skips = go d.skips beside.1 wait skips
    where
      go : (kept : Option WaitingSkips) → SkipOthers these (kept_entries kept) → SkipsWait history first d.last_tsn kept → SkipsThen kept old new → ReassemblesPlain these queued history first got read new
      go None others wait' same = subst (λ (m : IncomingModel). ReassemblesPlain these queued history first got read m) (sym same) holds
      go (Some kept) others wait' moves = forward_plain got kept.tsn (kept_entries (Some kept)) old new wait'.0 others (later_named history first d.last_tsn (kept_entries (Some kept)) wait'.1) holds moves

-- ---- what is deferred stays of other streams

skips_beside_steady : (these : ℕ → Bool) (tsn : ℕ) (entries : List SkippedTo) (old new : ReassemblyState) → SkipOthers these entries → DefersBeside these old.deferral → SkipsData tsn entries old new → IsSteadyAs these old new
skips_beside_steady these tsn entries old new others beside skips = go (is_forward_deferred tsn old.deferral) refl
  where
    go : (b : Bool) → is_forward_deferred tsn old.deferral ≡ b → IsSteadyAs these old new
    go false is = (let moved = skips.moved is in (subst (λ (d : Option DeferralModel). DefersBeside these d) (sym moved.deferral) beside, moved.window))
    go true is =
        let (waits, same, far) = deferred_by tsn old.deferral is in
        let later = skips.deferred is waits same in
        let was : DefersBeside these (Some waits) = subst (λ (d : Option DeferralModel). DefersBeside these d) same beside in
        let kept = all_kept (λ entry. these (skipped_stream entry) ≡ false) tsn (entries_within waits.streams entries) waits.skips
        (all_left (λ entry. these (skipped_stream entry) ≡ false) (λ entry. names_stream waits.streams (skipped_stream entry)) entries others) was.1 in (
          subst (λ (d : Option DeferralModel). DefersBeside these d) (sym later.deferral) (was.0, kept),
          later.window,
        )

pub forward_steady : (these : ℕ → Bool) (tsn : ℕ) (entries : List SkippedTo) (old new : Transfer) → SkipOthers these entries → DefersBeside these old.reassembly.deferral → MovesForward tsn entries old new → IsSteadyAs these old.reassembly new.reassembly
forward_steady these tsn entries old new others beside moves = go (is_valid_tsn old.tracker.cumulative tsn) moves
  where
    same_state : (s : ReassemblyState) → s ≡ old.reassembly → IsSteadyAs these old.reassembly s
    same_state s same = (subst (λ (x : ReassemblyState). DefersBeside these x.deferral) (sym same) beside, ap (λ (x : ReassemblyState). x.max_size) same)

    gone : (b : Bool) → SkipsIfMoved b tsn entries old.reassembly new.reassembly → IsSteadyAs these old.reassembly new.reassembly
    gone true skips = skips_beside_steady these tsn entries old.reassembly new.reassembly others beside skips
    gone false same = same_state new.reassembly same

    go : (b : Bool) → MovesIfForward b tsn entries old new → IsSteadyAs these old.reassembly new.reassembly
    go false same = same_state new.reassembly (ap (λ (t : Transfer). t.reassembly) same)
    go true goes = gone (is_forward old.tracker.cumulative tsn) goes.reassembly
