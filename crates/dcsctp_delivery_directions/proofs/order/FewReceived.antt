-- What is received of DATA leaves each stream in order, where few ordered messages were begun on each.
use Rattle.std.proofs.Common.{◌≡◌, ◌==◌, ℕ, Bool, true, false, ◌<◌, ◌+◌, ◌-◌, ◌%◌, ◌^◌, List, [], ◌∷◌, length, refl, sym, ◌∙◌, ap, arith, subst, inr}
use Rattle.std.specs.Prelude.{◌&&◌, ◌||◌, not, nat_le, Option, None, Some, if◌then◌else◌}
use Rattle.std.proofs.lemmas.Bool.Decides.{nat_tests}
use Rattle.dcsctp_spec_lemmas.specs.types.declared.arrivals.SkippedTo.{SkippedTo}
use Rattle.dcsctp_spec_lemmas.specs.types.declared.tracking.TsnRange.{TsnRange}
use Rattle.dcsctp_spec_lemmas.specs.spec.queues.Arrivals.{Arrival}
use Rattle.dcsctp_spec_lemmas.specs.spec.queues.Numbers.{number_near}
use Rattle.dcsctp_spec_lemmas.specs.spec.queues.Ranges.{is_received}
use Rattle.dcsctp_spec_lemmas.specs.spec.queues.IncomingStreams.{ChunkModel}
use Rattle.dcsctp_spec_lemmas.specs.spec.queues.Incoming.{IncomingModel, TakesIncomingChunk, MovesOn}
use Rattle.dcsctp_spec_lemmas.specs.spec.queues.Reassembly.{ReassemblyState, DeferralModel, can_count, is_data_deferred, is_forward_deferred, AddsData}
use Rattle.dcsctp_spec_lemmas.specs.spec.queues.Tracker.{TrackerState, has_received, is_new_tsn, tracker_after_data, is_valid_tsn, is_forward, after_forward, moved_forward, delay_over, nearest_number}
use Rattle.dcsctp_spec_lemmas.specs.spec.queues.Transfer.{Transfer}
use Rattle.dcsctp_spec_lemmas.specs.spec.endpoint.TransferMoves.{AddsIfNew, has_room, dropping, ReceivesIfRoom, ReceivesData, TakesData as TakesArrival, SkipsIfMoved, GoesForward, MovesIfForward, MovesForward}
use Rattle.dcsctp_spec_lemmas.proofs.RangesLemmas.{received_members, forwarded_members}
use Rattle.dcsctp_delivery_directions.specs.sending.Places.{HasEntry}
use Rattle.dcsctp_delivery_directions.specs.sending.Log.{Message, History, IsLogOfPieces}
use Rattle.dcsctp_delivery_directions.proofs.sending.Places.{at_below}
use Rattle.dcsctp_delivery_directions.specs.receiving.Received.{Carries, CarriesCurrent, CountsFromBase, IsTsn}
use Rattle.dcsctp_delivery_directions.specs.receiving.Tracked.{tracked_number, Tracks}
use Rattle.dcsctp_delivery_directions.proofs.receiving.Reassembled.{first_number, first_base, first_near, number_read, bears_of}
use Rattle.dcsctp_delivery_directions.proofs.receiving.Taking.{nothing_passed}
use Rattle.dcsctp_delivery_directions.proofs.receiving.Tracked.{number_is, new_is_new, passing_keeps, forward_beyond}
use Rattle.dcsctp_delivery_directions.proofs.order.Received.{tracks_fewer, tracks_alike}
use Rattle.dcsctp_delivery_directions.proofs.order.FewTurns.{CountsFew}
use Rattle.dcsctp_delivery_directions.proofs.order.FewStreams.{known_more}
use Rattle.dcsctp_delivery_directions.proofs.order.FewLeaving.{IncomingFew}
use Rattle.dcsctp_delivery_directions.proofs.order.FewReady.{ready_few}
use Rattle.dcsctp_delivery_directions.proofs.order.FewSkipping.{SkipTurns, skipping_few}

-- No TSN was handled yet; or the number of the first is known, and all that is held is in order.
pub data ReassemblesFew (queued : List Message) (history : History) (known : ℕ → Bool) (first : ℕ) (got read : List ℕ) (incoming : IncomingModel) : Type 0 where
  none_handled : got ≡ [] → incoming.last_tsn_number ≡ 2 ^ 32 → ((base : ℕ) → IncomingFew queued history [] known base read incoming) → ReassemblesFew queued history known first got read incoming
  some_handled : (base : ℕ) → CountsFromBase first base incoming.last_tsn_number → IncomingFew queued history got known base read incoming → ReassemblesFew queued history known first got read incoming

-- does the tracker know the TSN that is so many after the first?
abbrev pub known_by : ℕ → TrackerState → ℕ → Bool
known_by first tracker offset = has_received tracker (tracked_number first offset)

-- All that an association has received in order whose peer has this log. `got` has the offsets that the reassembly queue has
-- handled.
pub record HasReceivedFew (queued : List Message) (history : History) (first : ℕ) (read : List ℕ) (tracker : TrackerState) (incoming : IncomingModel) : Type 0 where
  pub got : List ℕ
  pub tracks : Tracks first (length history.log) got tracker
  pub holds : ReassemblesFew queued history (known_by first tracker) first got read incoming

-- ---- the tracker

module _ (queued : List Message) (history : History) (known later : ℕ → Bool) (base : ℕ) (read : List ℕ) (grows : (k : ℕ) → known k ≡ true → later k ≡ true) where
  incoming_known : (got : List ℕ) (incoming : IncomingModel) → IncomingFew queued history got known base read incoming → IncomingFew queued history got later base read incoming
  incoming_known got incoming o = record { holds = o.holds; order = λ id. known_more queued history known later id _ _ _ grows (o.order id) }

module _ (queued : List Message) (history : History) (first : ℕ) (read : List ℕ) where
  holds_known : (known later : ℕ → Bool) (got : List ℕ) (incoming : IncomingModel) → ((k : ℕ) → known k ≡ true → later k ≡ true) → ReassemblesFew queued history known first got read incoming → ReassemblesFew queued history later first got read incoming
  holds_known known later got incoming grows (none_handled none last empty) = none_handled none last (λ base. incoming_known queued history known later base read grows [] incoming (empty base))
  holds_known known later got incoming grows (some_handled base at o) = some_handled base at (incoming_known queued history known later base read grows got incoming o)

  -- the tracker moves alone
  pub tracker_few : (tracker now : TrackerState) (incoming : IncomingModel) (r : HasReceivedFew queued history first read tracker incoming) → Tracks first (length history.log) r.got now
      → ((k : ℕ) → known_by first tracker k ≡ true → known_by first now k ≡ true) → HasReceivedFew queued history first read now incoming
  tracker_few tracker now incoming r tracks grows = record { got = r.got; tracks = tracks; holds = holds_known (known_by first tracker) (known_by first now) r.got incoming grows r.holds }

  -- when an acknowledgement is due is another matter
  pub tracked_few : (tracker now : TrackerState) (incoming : IncomingModel) → now.cumulative ≡ tracker.cumulative → now.ranges ≡ tracker.ranges → HasReceivedFew queued history first read tracker incoming
      → HasReceivedFew queued history first read now incoming
  tracked_few tracker now incoming same same' r =
      tracker_few tracker now incoming r (tracks_alike first (length history.log) r.got tracker now same same' r.tracks) (λ k is. alike (tracked_number first k) ∙ is)
    where
      alike : (number : ℕ) → has_received now number ≡ has_received tracker number
      alike number = ap (λ (c : ℕ). is_received c number now.ranges) same ∙ ap (λ (l : List TsnRange). is_received tracker.cumulative number l) same'

-- ---- data

module _ (queued : List Message) (history : History) (first : ℕ) (cut : IsLogOfPieces queued history.log) (counts : CountsFew history) (small : first < 2 ^ 32) (read : List ℕ) where
  data_few : (got : List ℕ) (known later : ℕ → Bool) (offset tsn : ℕ) (chunk : ChunkModel) (old new : IncomingModel) → ((k : ℕ) → known k ≡ true → later k ≡ true) → CarriesCurrent history first offset tsn chunk
      → (HasEntry offset got → ⊥) → (known offset ≡ true → ⊥) → ((k : ℕ) → HasEntry k (offset ∷ got) → later k ≡ true) → ReassemblesFew queued history known first got read old → TakesIncomingChunk tsn chunk old new
      → ReassemblesFew queued history later first (offset ∷ got) read new
  unfolding bears_of
  data_few got known later offset tsn chunk old new grows c is_new unknown has_known (some_handled base is holds) takes =
      let below = at_below offset (Some c.carries.piece) history.log c.carries.at in
      let all = (counts.plain 0).few in
      let few : offset < 2 ^ 31 = omega (arith, below, all) in
      let number = number_read first base old.last_tsn_number offset tsn is few c.carries.is in
      some_handled base (record { same = is.same; near = is.near; worked = offset; few = few; is = takes.last ∙ number })
      (ready_few queued history cut counts got known later base read grows tsn chunk old new (bears_of history first base offset tsn (number_near old.last_tsn_number tsn) chunk c number) is_new unknown has_known holds takes)
  data_few got known later offset tsn chunk old new grows c is_new unknown has_known (none_handled none last empty) takes =
      let below = at_below offset (Some c.carries.piece) history.log c.carries.at in
      let all = (counts.plain 0).few in
      let few : offset < 2 ^ 31 = omega (arith, below, all) in
      let base : ℕ = number_near (2 ^ 32) ((first + offset) % 2 ^ 32) - offset in
      let up = first_number first offset small few in
      let number : number_near old.last_tsn_number tsn ≡ base + offset = ap (λ (l : ℕ). number_near l tsn) last ∙ ap (number_near (2 ^ 32)) c.carries.is ∙ omega (arith, up) in
      some_handled base (record { same = first_base first offset small few; near = first_near first offset small few; worked = offset; few = few; is = takes.last ∙ number })
      (ready_few queued history cut counts got known later base read grows tsn chunk old new (bears_of history first base offset tsn (number_near old.last_tsn_number tsn) chunk c number) is_new unknown has_known
      (subst (λ (l : List ℕ). IncomingFew queued history l known base read old) (sym none) (empty base)) takes)

  -- what an arrival leaves, where there is no reset that is deferred
  module _ (offset : ℕ) (arrival : Arrival) (old new : Transfer) (c : Carries history.log first offset arrival.tsn arrival.chunk) (r : HasReceivedFew queued history first read old.tracker old.reassembly.incoming)
      (idle : old.reassembly.deferral ≡ None) where
    below : offset < length history.log
    below = at_below offset (Some c.piece) history.log c.at

    now : TrackerState
    now = tracker_after_data arrival.tsn arrival.immediate_ack old.tracker

    here : nearest_number old.tracker.cumulative ((first + offset) % 2 ^ 32) ≡ tracked_number first offset
    here = number_is first (length history.log) offset old.tracker.cumulative small (counts.plain 0).few below r.tracks.reached r.tracks.started

    its_tracks : Tracks first (length history.log) (offset ∷ r.got) now
    unfolding now
    its_tracks =
        subst (λ (t : ℕ). Tracks first (length history.log) (offset ∷ r.got) (tracker_after_data t arrival.immediate_ack old.tracker)) (sym c.is)
        (new_is_new first (length history.log) offset arrival.immediate_ack r.got old.tracker small (counts.plain 0).few below r.tracks).0

    still : (a b : Bool) → a ≡ true → (a || b) ≡ true
    still true b e = refl
    still false b e = absurd (cc)

    -- the tracker knows more
    grows : (k : ℕ) → known_by first old.tracker k ≡ true → known_by first now k ≡ true
    unfolding now
    grows k is =
        received_members (nearest_number old.tracker.cumulative arrival.tsn) old.tracker.cumulative old.tracker.ranges r.tracks.beyond (tracked_number first k)
        ∙ still (has_received old.tracker (tracked_number first k)) (tracked_number first k == nearest_number old.tracker.cumulative arrival.tsn) is

    unknown_by : is_new_tsn arrival.tsn old.tracker ≡ true → known_by first old.tracker offset ≡ true → ⊥
    unknown_by is known =
        let same : nearest_number old.tracker.cumulative arrival.tsn ≡ tracked_number first offset = ap (nearest_number old.tracker.cumulative) c.is ∙ here in
        let clash : false ≡ true = sym (ap not (ap (has_received old.tracker) same ∙ known)) ∙ is in
        absurd (cc)

    current : CarriesCurrent history first offset arrival.tsn arrival.chunk
    current = record { carries = c; current = λ i. absurd (let clash : true ≡ false = sym i ∙ (counts.plain 0).kinds offset c.piece c.at in cc) }

    not_deferred : (o : Option DeferralModel) → o ≡ None → is_data_deferred arrival.tsn arrival.chunk.stream o ≡ false
    not_deferred None is = refl
    not_deferred (Some deferral) is = absurd (cc)

    -- It isn't handled, though its TSN is known from now on.
    alone : HasReceivedFew queued history first read now old.reassembly.incoming
    alone = tracker_few queued history first read old.tracker now old.reassembly.incoming r (tracks_fewer first (length history.log) (offset ∷ r.got) r.got now (λ k h. inr h) its_tracks) grows

    taken_few : TakesArrival arrival old new → HasReceivedFew queued history first read new.tracker new.reassembly.incoming
    unfolding now
    taken_few takes =
        subst (λ (t : TrackerState). HasReceivedFew queued history first read t new.reassembly.incoming) (sym (ap (λ (t : Transfer). t.tracker) takes.rest)) (go (is_new_tsn arrival.tsn old.tracker) refl takes.reassembly)
      where
        counted : is_new_tsn arrival.tsn old.tracker ≡ true → AddsData arrival.tsn arrival.chunk old.reassembly new.reassembly → (b : Bool) → can_count (length arrival.chunk.payload) old.reassembly ≡ b
            → HasReceivedFew queued history first read (tracker_after_data arrival.tsn arrival.immediate_ack old.tracker) new.reassembly.incoming
        counted is adds false e = subst (λ (s : ReassemblyState). HasReceivedFew queued history first read (tracker_after_data arrival.tsn arrival.immediate_ack old.tracker) s.incoming) (sym (adds.too_much e)) alone
        counted is adds true e =
            let taken = adds.taken e (not_deferred old.reassembly.deferral idle) in
            let is_new = (new_is_new first (length history.log) offset arrival.immediate_ack r.got old.tracker small (counts.plain 0).few below r.tracks).1 (subst (λ (t : ℕ). is_new_tsn t old.tracker ≡ true) c.is is) in
            record {
              got = offset ∷ r.got;
              tracks = its_tracks;
              holds = data_few r.got (known_by first old.tracker) (known_by first now) offset arrival.tsn arrival.chunk old.reassembly.incoming new.reassembly.incoming grows current is_new (unknown_by is) its_tracks.received r.holds taken.incoming;
            }

        go : (b : Bool) → is_new_tsn arrival.tsn old.tracker ≡ b → AddsIfNew b arrival.tsn arrival.chunk old.reassembly new.reassembly
            → HasReceivedFew queued history first read (tracker_after_data arrival.tsn arrival.immediate_ack old.tracker) new.reassembly.incoming
        go true is adds = counted is adds (can_count (length arrival.chunk.payload) old.reassembly) refl
        go false is adds = subst (λ (s : ReassemblyState). HasReceivedFew queued history first read (tracker_after_data arrival.tsn arrival.immediate_ack old.tracker) s.incoming) (sym adds) alone

    dropped_few : (b : Bool) → new ≡ dropping b old → HasReceivedFew queued history first read new.tracker new.reassembly.incoming
    dropped_few true same =
        subst (λ (t : Transfer). HasReceivedFew queued history first read t.tracker t.reassembly.incoming) (sym same) (tracked_few queued history first read old.tracker (delay_over old.tracker) old.reassembly.incoming refl refl r)
    dropped_few false same = subst (λ (t : Transfer). HasReceivedFew queued history first read t.tracker t.reassembly.incoming) (sym same) r

    pub received_few : ReceivesData arrival old new → HasReceivedFew queued history first read new.tracker new.reassembly.incoming
    received_few receives = go (has_room arrival.tsn old && is_valid_tsn old.tracker.cumulative arrival.tsn) receives
      where
        go : (b : Bool) → ReceivesIfRoom b arrival old new → HasReceivedFew queued history first read new.tracker new.reassembly.incoming
        go true takes = taken_few takes
        go false same = dropped_few (old.tracker.follows_rfc && is_valid_tsn old.tracker.cumulative arrival.tsn) same

  -- ---- a FORWARD-TSN

  forward_few : (got : List ℕ) (known : ℕ → Bool) (tsn : ℕ) (entries : List SkippedTo) (old new : IncomingModel) → (t : IsTsn history.log first tsn) → SkipTurns history (t.offset + 1) entries
      → ((k : ℕ) → HasEntry k got → known k ≡ true) → ((k : ℕ) → k < t.offset + 1 → known k ≡ true) → ReassemblesFew queued history known first got read old → MovesOn tsn entries old new → ReassemblesFew queued history known first got read new
  forward_few got known tsn entries old new t skip has_known passed (some_handled base is holds) moves =
      let all = (counts.plain 0).few in
      let below = t.below in
      let few : t.offset < 2 ^ 31 = omega (arith, all, below) in
      let number = number_read first base old.last_tsn_number t.offset tsn is few t.is in
      some_handled base (record { same = is.same; near = is.near; worked = t.offset; few = few; is = moves.last ∙ number })
      (skipping_few queued history cut counts got known has_known (t.offset + 1) base passed read tsn entries old new skip holds moves)
  forward_few got known tsn entries old new t skip has_known passed (none_handled none last empty) moves =
      let all = (counts.plain 0).few in
      let below = t.below in
      let few : t.offset < 2 ^ 31 = omega (arith, all, below) in
      let base : ℕ = number_near (2 ^ 32) ((first + t.offset) % 2 ^ 32) - t.offset in
      let up = first_number first t.offset small few in
      let number : number_near old.last_tsn_number tsn ≡ base + t.offset = ap (λ (l : ℕ). number_near l tsn) last ∙ ap (number_near (2 ^ 32)) t.is ∙ omega (arith, up) in
      some_handled base (record { same = first_base first t.offset small few; near = first_near first t.offset small few; worked = t.offset; few = few; is = moves.last ∙ number })
      (skipping_few queued history cut counts got known has_known (t.offset + 1) base passed read tsn entries old new skip (subst (λ (l : List ℕ). IncomingFew queued history l known base read old) (sym none) (empty base)) moves)

  module _ (tsn : ℕ) (entries : List SkippedTo) (old new : Transfer) (r : HasReceivedFew queued history first read old.tracker old.reassembly.incoming) (idle : old.reassembly.deferral ≡ None) where
    not_passed : is_forward old.tracker.cumulative tsn ≡ false → after_forward tsn old.tracker ≡ delay_over old.tracker
    not_passed is = subst (λ (c : Bool). (if c then moved_forward tsn old.tracker else delay_over old.tracker) ≡ delay_over old.tracker) (sym is) refl

    delayed : is_forward old.tracker.cumulative tsn ≡ false → HasReceivedFew queued history first read (after_forward tsn old.tracker) old.reassembly.incoming
    delayed is =
        subst (λ (t : TrackerState). HasReceivedFew queued history first read t old.reassembly.incoming) (sym (not_passed is)) (tracked_few queued history first read old.tracker (delay_over old.tracker) old.reassembly.incoming refl refl r)

    same_transfer : new ≡ old → HasReceivedFew queued history first read new.tracker new.reassembly.incoming
    same_transfer same = subst (λ (t : Transfer). HasReceivedFew queued history first read t.tracker t.reassembly.incoming) (sym same) r

    forward_idle : (o : Option DeferralModel) → o ≡ None → is_forward_deferred tsn o ≡ false
    forward_idle None is = refl
    forward_idle (Some deferral) is = absurd (cc)

    gone_few : (t : IsTsn history.log first tsn) → SkipTurns history (t.offset + 1) entries → GoesForward tsn entries old new → HasReceivedFew queued history first read new.tracker new.reassembly.incoming
    gone_few t skip goes =
        subst (λ (k : TrackerState). HasReceivedFew queued history first read k new.reassembly.incoming) (sym (ap (λ (k : Transfer). k.tracker) goes.rest)) (go (is_forward old.tracker.cumulative tsn) refl goes.reassembly)
      where
        by_offset : is_forward old.tracker.cumulative tsn ≡ true → is_forward old.tracker.cumulative ((first + t.offset) % 2 ^ 32) ≡ true
        by_offset is = subst (λ (n : ℕ). is_forward old.tracker.cumulative n ≡ true) t.is is

        here : nearest_number old.tracker.cumulative tsn ≡ tracked_number first t.offset
        here = ap (nearest_number old.tracker.cumulative) t.is ∙ number_is first (length history.log) t.offset old.tracker.cumulative small (counts.plain 0).few t.below r.tracks.reached r.tracks.started

        tracks : is_forward old.tracker.cumulative tsn ≡ true → Tracks first (length history.log) r.got (after_forward tsn old.tracker)
        tracks is = subst (λ (n : ℕ). Tracks first (length history.log) r.got (after_forward n old.tracker)) (sym t.is) (passing_keeps first (length history.log) t.offset r.got old.tracker small (counts.plain 0).few t.below r.tracks (by_offset is))

        moved : is_forward old.tracker.cumulative tsn ≡ true → after_forward tsn old.tracker ≡ moved_forward tsn old.tracker
        moved is = subst (λ (c : Bool). (if c then moved_forward tsn old.tracker else delay_over old.tracker) ≡ moved_forward tsn old.tracker) (sym is) refl

        members : is_forward old.tracker.cumulative tsn ≡ true → (k : ℕ) → known_by first (after_forward tsn old.tracker) k ≡ (known_by first old.tracker k || nat_le (tracked_number first k) (nearest_number old.tracker.cumulative tsn))
        members is k =
            let ahead = forward_beyond first (length history.log) t.offset r.got old.tracker small (counts.plain 0).few t.below r.tracks (by_offset is) in
            ap (λ (s : TrackerState). has_received s (tracked_number first k)) (moved is)
            ∙ forwarded_members (nearest_number old.tracker.cumulative tsn) old.tracker.cumulative old.tracker.ranges (omega (arith, ahead, here)) r.tracks.beyond (tracked_number first k)

        either : (a b : Bool) → b ≡ true → (a || b) ≡ true
        either true b e = refl
        either false b e = e

        one : (a b : Bool) → a ≡ true → (a || b) ≡ true
        one true b e = refl
        one false b e = absurd (cc)

        go : (b : Bool) → is_forward old.tracker.cumulative tsn ≡ b → SkipsIfMoved b tsn entries old.reassembly new.reassembly → HasReceivedFew queued history first read (after_forward tsn old.tracker) new.reassembly.incoming
        go false is same = subst (λ (s : ReassemblyState). HasReceivedFew queued history first read (after_forward tsn old.tracker) s.incoming) (sym same) (delayed is)
        go true is skips =
            let handles = skips.moved (forward_idle old.reassembly.deferral idle) in
            let known_then : ((k : ℕ) → known_by first old.tracker k ≡ true → known_by first (after_forward tsn old.tracker) k ≡ true) =
            λ k known. members is k ∙ one (known_by first old.tracker k) (nat_le (tracked_number first k) (nearest_number old.tracker.cumulative tsn)) known in
            record {
              got = r.got;
              tracks = tracks is;
              holds = forward_few r.got (known_by first (after_forward tsn old.tracker)) tsn entries old.reassembly.incoming new.reassembly.incoming t skip (tracks is).received
                  (λ k low. members is k ∙ either (known_by first old.tracker k) (nat_le (tracked_number first k) (nearest_number old.tracker.cumulative tsn)) (grind (arith, nat_tests, here, low)))
                  (holds_known queued history first read (known_by first old.tracker) (known_by first (after_forward tsn old.tracker)) r.got old.reassembly.incoming known_then r.holds) handles.incoming;
            }

    pub forwarded_few : (t : IsTsn history.log first tsn) → SkipTurns history (t.offset + 1) entries → MovesForward tsn entries old new → HasReceivedFew queued history first read new.tracker new.reassembly.incoming
    forwarded_few t skip moves = go (is_valid_tsn old.tracker.cumulative tsn) moves
      where
        go : (b : Bool) → MovesIfForward b tsn entries old new → HasReceivedFew queued history first read new.tracker new.reassembly.incoming
        go true goes = gone_few t skip goes
        go false same = same_transfer same

    -- none is passed
    pub nothing_few : tsn ≡ (first + 0 + (2 ^ 32 - 1)) % 2 ^ 32 → MovesForward tsn entries old new → HasReceivedFew queued history first read new.tracker new.reassembly.incoming
    nothing_few is moves = go (is_valid_tsn old.tracker.cumulative tsn) moves
      where
        none : is_forward old.tracker.cumulative tsn ≡ false
        none = nothing_passed first (length history.log) old.tracker.cumulative tsn small (counts.plain 0).few r.tracks.reached r.tracks.started is

        go : (b : Bool) → MovesIfForward b tsn entries old new → HasReceivedFew queued history first read new.tracker new.reassembly.incoming
        go false same = same_transfer same
        go true goes =
            let kept : new.reassembly ≡ old.reassembly = subst (λ (c : Bool). SkipsIfMoved c tsn entries old.reassembly new.reassembly) none goes.reassembly in
            subst (λ (k : TrackerState). HasReceivedFew queued history first read k new.reassembly.incoming) (sym (ap (λ (k : Transfer). k.tracker) goes.rest))
            (subst (λ (s : ReassemblyState). HasReceivedFew queued history first read (after_forward tsn old.tracker) s.incoming) (sym kept) (delayed none))

-- no reset is deferred then either
pub forward_stays_idle : (tsn : ℕ) (entries : List SkippedTo) (old new : Transfer) → MovesForward tsn entries old new → old.reassembly.deferral ≡ None → new.reassembly.deferral ≡ None
forward_stays_idle tsn entries old new moves idle = go (is_valid_tsn old.tracker.cumulative tsn) moves
  where
    forward_idle : (o : Option DeferralModel) → o ≡ None → is_forward_deferred tsn o ≡ false
    forward_idle None is = refl
    forward_idle (Some deferral) is = absurd (cc)

    skips : (b : Bool) → SkipsIfMoved b tsn entries old.reassembly new.reassembly → new.reassembly.deferral ≡ None
    skips true skipped = (skipped.moved (forward_idle old.reassembly.deferral idle)).deferral ∙ idle
    skips false same = ap (λ (s : ReassemblyState). s.deferral) same ∙ idle

    go : (b : Bool) → MovesIfForward b tsn entries old new → new.reassembly.deferral ≡ None
    go true goes = skips (is_forward old.tracker.cumulative tsn) goes.reassembly
    go false same = ap (λ (t : Transfer). t.reassembly.deferral) same ∙ idle
