-- What is received of DATA leaves streams in order that aren't reset, where nothing of them is skipped.
use Rattle.std.proofs.Common.{◌≡◌, ◌==◌, ℕ, zero, suc, Bool, true, false, ◌<◌, ◌≤◌, ◌+◌, ◌-◌, ◌*◌, ◌%◌, ◌^◌, List, [], ◌∷◌, ◌++◌, length, take, drop, refl, sym, ◌∙◌, ap, arith, subst, inl, inr, min}
use Rattle.std.specs.Prelude.{◌⊎◌, ◌&&◌, ◌||◌, not, nat_lt, nat_le, Option, None, Some}
use Rattle.std.proofs.lemmas.Bool.{eqb-true}
use Rattle.std.proofs.lemmas.List.{append-nil}
use Rattle.std.proofs.lemmas.Bool.Decides.{nat_tests}
use Rattle.dcsctp_spec_lemmas.specs.types.declared.tracking.TsnRange.{TsnRange}
use Rattle.dcsctp_spec_lemmas.specs.spec.queues.Arrivals.{Arrival}
use Rattle.dcsctp_spec_lemmas.specs.spec.queues.Numbers.{number_near, is_tsn_beyond}
use Rattle.dcsctp_spec_lemmas.specs.spec.queues.Ranges.{IsBeyond, is_received}
use Rattle.dcsctp_spec_lemmas.specs.spec.queues.IncomingStreams.{ChunkModel, skipped_stream}
use Rattle.dcsctp_spec_lemmas.specs.types.declared.arrivals.SkippedTo.{SkippedTo}
use Rattle.std.specs.List.{AllByRecursion}
use Rattle.dcsctp_spec_lemmas.specs.spec.queues.Incoming.{IncomingModel, TakesIncomingChunk}
use Rattle.dcsctp_spec_lemmas.specs.spec.queues.Reassembly.{WaitingModel, ReassemblyState, DeferralModel, can_count, window_used, is_data_deferred, names_stream, with_waiting, waiting_of, AddsData}
use Rattle.dcsctp_spec_lemmas.specs.spec.queues.Tracker.{TrackerState, has_received, is_new_tsn, tracker_after_data, is_valid_tsn, delay_over, nearest_number, is_below_highest, is_first_missing}
use Rattle.dcsctp_spec_lemmas.specs.spec.queues.Transfer.{Transfer}
use Rattle.dcsctp_spec_lemmas.specs.spec.endpoint.TransferMoves.{AddsIfNew, has_room, dropping, ReceivesIfRoom, ReceivesData, TakesData as TakesArrival}
use Rattle.dcsctp_spec_lemmas.proofs.RangesLemmas.{received_members}
use Rattle.dcsctp_delivery_directions.specs.sending.Places.{HasEntry, at_place}
use Rattle.dcsctp_delivery_directions.specs.sending.Log.{Message, Piece, Slot, History, IsLogOfPieces, piece_bytes}
use Rattle.dcsctp_delivery_directions.proofs.sending.Places.{at_below}
use Rattle.dcsctp_delivery_directions.specs.receiving.Ready.{AreDistinct}
use Rattle.dcsctp_delivery_directions.specs.receiving.Received.{Carries, CarriesCurrent, DefersData, CountsFromBase, kept_entries}
use Rattle.dcsctp_delivery_directions.specs.receiving.Tracked.{tracked_number, Tracks}
use Rattle.dcsctp_delivery_directions.proofs.receiving.Joining.{both}
use Rattle.dcsctp_delivery_directions.proofs.receiving.Distinct.{distinct_with, has_either, has_left, has_right}
use Rattle.dcsctp_delivery_directions.proofs.receiving.Reassembled.{waiting_data, first_number, first_base, first_near, number_read, bears_of}
use Rattle.dcsctp_delivery_directions.proofs.receiving.Tracked.{number_is, new_is_new, up_to}
use Rattle.dcsctp_delivery_directions.specs.order.Plain.{CarriesOrdered, CountsThese, IncomingPlain}
use Rattle.dcsctp_delivery_directions.proofs.order.PlainMissing.{PassedOn}
use Rattle.dcsctp_delivery_directions.proofs.order.PlainReady.{beside_plain, ready_plain}
use Rattle.dcsctp_delivery_directions.proofs.order.PlainSteps.{IsCounted}

-- No TSN was handled yet; or the number of the first is known, and all that is held is in order.
pub data ReassemblesPlain (these : ℕ → Bool) (queued : List Message) (history : History) (first : ℕ) (got read : List ℕ) (incoming : IncomingModel) : Type 0 where
  none_handled : got ≡ [] → incoming.last_tsn_number ≡ 2 ^ 32 → ((base : ℕ) → IncomingPlain these queued history [] base read incoming) → ReassemblesPlain these queued history first got read incoming
  some_handled : (base : ℕ) → CountsFromBase first base incoming.last_tsn_number → IncomingPlain these queued history got base read incoming → ReassemblesPlain these queued history first got read incoming

-- A TSN that counts as received was, if nothing is skipped on any stream, or if it carries a piece of one of these.
abbrev pub IsSure : Bool → (ℕ → Bool) → List Slot → ℕ → Type 0
IsSure whole these log n = (whole ≡ true) ⊎ ((f : Piece) × (at_place n log ≡ Some (Some f)) × (these f.message.stream ≡ true))

-- All that an association has received whose peer has this log, with that of these streams in order. `taken` has the offsets
-- that the tracker knows, `got` those that the reassembly queue has handled, and `later` those that wait for the end of a
-- deferred reset: they are of other streams.
pub record HasReceivedPlain (whole : Bool) (these : ℕ → Bool) (queued : List Message) (history : History) (first : ℕ) (read : List ℕ) (tracker : TrackerState) (reassembly : ReassemblyState) : Type 0 where
  pub taken : List ℕ
  pub got : List ℕ
  pub later : List ℕ
  pub tracks : Tracks first (length history.log) taken tracker
  pub exact : (offset : ℕ) → IsSure whole these history.log offset → has_received tracker (tracked_number first offset) ≡ true → HasEntry offset taken
  pub pieces : (k : ℕ) → HasEntry k taken → (f : Piece) × (at_place k history.log ≡ Some (Some f))
  pub got_taken : (k : ℕ) → HasEntry k got → HasEntry k taken
  pub later_taken : (k : ℕ) → HasEntry k later → HasEntry k taken
  pub either : (k : ℕ) → HasEntry k taken → HasEntry k got ⊎ HasEntry k later
  pub apart : (k : ℕ) → HasEntry k later → HasEntry k got → ⊥
  pub distinct : AreDistinct later
  pub holds : ReassemblesPlain these queued history first got read reassembly.incoming
  pub defers : DefersData history first later (waiting_of reassembly.deferral)
  pub others : (k : ℕ) → HasEntry k later → (f : Piece) → at_place k history.log ≡ Some (Some f) → these f.message.stream ≡ false

-- The entries are for other streams.
abbrev pub SkipOthers : (ℕ → Bool) → List SkippedTo → Type 0
SkipOthers these entries = AllByRecursion (λ entry. these (skipped_stream entry) ≡ false) entries

-- A deferred reset names none of these streams, and nothing of them is to be skipped at its end.
abbrev pub DefersBeside : (ℕ → Bool) → Option DeferralModel → Type 0
DefersBeside these None = Unit {0}
DefersBeside these (Some deferral) = ((id : ℕ) → these id ≡ true → names_stream deferral.streams id ≡ false) × SkipOthers these (kept_entries deferral.skips)

-- ---- the tracker

tracked_apart : (first m n : ℕ) → tracked_number first m ≡ tracked_number first n → m ≡ n
tracked_apart first m n same = omega (arith, same)

-- what it knows once a TSN was observed
module _ (first count offset : ℕ) (immediate : Bool) (tracker : TrackerState) (got : List ℕ) (small : first < 2 ^ 32) (few : count < 2 ^ 31) (below : offset < count) (tracks : Tracks first count got tracker)
    (Sure : ℕ → Type 0) (exact : (k : ℕ) → Sure k → has_received tracker (tracked_number first k) ≡ true → HasEntry k got) where
  tsn : ℕ
  tsn = (first + offset) % 2 ^ 32

  number : ℕ
  number = nearest_number tracker.cumulative ((first + offset) % 2 ^ 32)

  here : nearest_number tracker.cumulative ((first + offset) % 2 ^ 32) ≡ tracked_number first offset
  here = number_is first count offset tracker.cumulative small few below tracks.reached tracks.started

  pub observed_exact : (k : ℕ) → Sure k → has_received (tracker_after_data ((first + offset) % 2 ^ 32) immediate tracker) (tracked_number first k) ≡ true → HasEntry k (offset ∷ got)
  observed_exact k sure e = go (has_received tracker (tracked_number first k)) refl (sym (received_members (nearest_number tracker.cumulative ((first + offset) % 2 ^ 32)) tracker.cumulative tracker.ranges tracks.beyond (tracked_number first k)) ∙ e)
    where
      go : (b : Bool) → has_received tracker (tracked_number first k) ≡ b → (b || (tracked_number first k == nearest_number tracker.cumulative ((first + offset) % 2 ^ 32))) ≡ true → HasEntry k (offset ∷ got)
      go true known either = inr (exact k sure known)
      go false known either = inl (tracked_apart first k offset (eqb-true (tracked_number first k) (nearest_number tracker.cumulative ((first + offset) % 2 ^ 32)) either ∙ here))

  pub known_exact : is_new_tsn ((first + offset) % 2 ^ 32) tracker ≡ false → (k : ℕ) → Sure k → has_received (tracker_after_data ((first + offset) % 2 ^ 32) immediate tracker) (tracked_number first k) ≡ true → HasEntry k got
  known_exact known k sure e =
      elim (observed_exact k sure e) [
        | inl same ↦ exact k sure (ap (λ (j : ℕ). has_received tracker (tracked_number first j)) same ∙ ap (has_received tracker) (sym here) ∙ not_false (has_received tracker (nearest_number tracker.cumulative ((first + offset) % 2 ^ 32))) known)
        | inr old ↦ old
      ]
    where
      not_false : (b : Bool) → not b ≡ false → b ≡ true
      not_false true e' = refl
      not_false false e' = absurd (cc)

  -- it lies within the window
  pub in_window : is_valid_tsn tracker.cumulative ((first + offset) % 2 ^ 32) ≡ true → offset < tracker.cumulative + 1 - tracked_number first 0 + 2 ^ 16
  in_window valid =
      let near : nearest_number tracker.cumulative ((first + offset) % 2 ^ 32) ≤ tracker.cumulative + 65535 = grind (arith, nat_tests, valid) in
      let started = tracks.started in
      omega (arith, near, here, started)

-- each TSN up to the cumulative one counts as received
passed_so : (first count : ℕ) (tracker : TrackerState) (got : List ℕ) → Tracks first count got tracker → (k : ℕ) → k < tracker.cumulative + 1 - tracked_number first 0 → has_received tracker (tracked_number first k) ≡ true
passed_so first count tracker got tracks k less = (up_to tracker.cumulative (tracked_number first k) tracker.ranges (let started = tracks.started in omega (arith, less, started)))

tracks_fewer : (first count : ℕ) (taken got : List ℕ) (tracker : TrackerState) → ((k : ℕ) → HasEntry k got → HasEntry k taken) → Tracks first count taken tracker → Tracks first count got tracker
tracks_fewer first count taken got tracker among t = record { beyond = t.beyond; reached = t.reached; started = t.started; sent = t.sent; received = λ offset h. t.received offset (among offset h) }

module _ (whole : Bool) (these : ℕ → Bool) (queued : List Message) (history : History) (first : ℕ) (read : List ℕ) where
  -- the tracker moves alone
  pub tracked_on : (tracker now : TrackerState) (reassembly : ReassemblyState) (r : HasReceivedPlain whole these queued history first read tracker reassembly) → Tracks first (length history.log) r.taken now
      → ((offset : ℕ) → IsSure whole these history.log offset → has_received now (tracked_number first offset) ≡ true → HasEntry offset r.taken) → HasReceivedPlain whole these queued history first read now reassembly
  tracked_on tracker now reassembly r tracks exact =
      record {
        taken = r.taken;
        got = r.got;
        later = r.later;
        tracks = tracks;
        exact = exact;
        pieces = r.pieces;
        got_taken = r.got_taken;
        later_taken = r.later_taken;
        either = r.either;
        apart = r.apart;
        distinct = r.distinct;
        holds = r.holds;
        defers = r.defers;
        others = r.others;
      }

  -- when an acknowledgement is due is another matter
  pub tracked_plain : (tracker now : TrackerState) (reassembly : ReassemblyState) → now.cumulative ≡ tracker.cumulative → now.ranges ≡ tracker.ranges
      → HasReceivedPlain whole these queued history first read tracker reassembly → HasReceivedPlain whole these queued history first read now reassembly
  tracked_plain tracker now reassembly same same' r =
      tracked_on tracker now reassembly r
      (record {
        beyond = subst (λ (c : ℕ). IsBeyond c now.ranges) (sym same) (subst (λ (l : List TsnRange). IsBeyond tracker.cumulative l) (sym same') r.tracks.beyond);
        reached = (let reached = r.tracks.reached in omega (arith, same, reached));
        started = (let started = r.tracks.started in omega (arith, same, started));
        sent = λ number is. r.tracks.sent number (sym (alike number) ∙ is);
        received = λ offset h. alike (tracked_number first offset) ∙ r.tracks.received offset h;
      })
      (λ offset sure is. r.exact offset sure (sym (alike (tracked_number first offset)) ∙ is))
    where
      alike : (number : ℕ) → has_received now number ≡ has_received tracker number
      alike number = ap (λ (c : ℕ). is_received c number now.ranges) same ∙ ap (λ (l : List TsnRange). is_received tracker.cumulative number l) same'

-- ---- how much can be counted

size_take : (k : ℕ) (bytes : List ℕ) → length (take k bytes) ≤ length bytes
size_take zero bytes = omega arith
size_take (suc k) [] = omega arith
size_take (suc k) (b ∷ bytes) = (let rest = size_take k bytes in omega (arith, rest))

size_drop : (k : ℕ) (bytes : List ℕ) → length (drop k bytes) ≤ length bytes
size_drop zero bytes = omega arith
size_drop (suc k) [] = omega arith
size_drop (suc k) (b ∷ bytes) = (let rest = size_drop k bytes in omega (arith, rest))

pub piece_small : (piece : Piece) → length (piece_bytes piece) ≤ length piece.message.payload
piece_small piece = (let a = size_take piece.size (drop piece.start piece.message.payload) in let b = size_drop piece.start piece.message.payload in omega (arith, a, b))

window_left : (bytes max size : ℕ) (follows below first : Bool)
    → (not (nat_le (9 * max) (10 * bytes)) || (follows && (below && (nat_lt 0 (max - bytes) || (first && nat_lt bytes (min (2 * max) (2 ^ 63))))))) ≡ true
    → IsCounted max size → bytes + size < 2 ^ 64
window_left bytes max size follows below first room counts = go (nat_le (9 * max) (10 * bytes)) refl room
  where
    beyond : (b : Bool) → nat_lt 0 (max - bytes) ≡ b → (b || (first && nat_lt bytes (min (2 * max) (2 ^ 63)))) ≡ true → bytes + size < 2 ^ 64
    beyond true is either = grind (arith, nat_tests, is, counts.whole)
    beyond false is either = (let double = (both first (nat_lt bytes (min (2 * max) (2 ^ 63))) either).1 in grind (arith, nat_tests, double, counts.half))

    go : (b : Bool) → nat_le (9 * max) (10 * bytes) ≡ b
        → (not b || (follows && (below && (nat_lt 0 (max - bytes) || (first && nat_lt bytes (min (2 * max) (2 ^ 63))))))) ≡ true → bytes + size < 2 ^ 64
    go false is either = grind (arith, nat_tests, is, counts.whole)
    go true is either = beyond (nat_lt 0 (max - bytes)) refl (both below _ (both follows _ either).1).1

-- where there is room, data can be counted
pub counted_so : (tsn size : ℕ) (transfer : Transfer) → has_room tsn transfer ≡ true → IsCounted transfer.reassembly.max_size size → can_count size transfer.reassembly ≡ true
counted_so tsn size transfer room counts =
    let less = window_left (window_used transfer.reassembly) transfer.reassembly.max_size size transfer.tracker.follows_rfc
    (is_below_highest tsn transfer.tracker) (is_first_missing tsn transfer.tracker) room counts in
    grind (arith, nat_tests, less)

-- ---- data

module _ (queued : List Message) (history : History) (first size : ℕ) (cut : IsLogOfPieces queued history.log) (whole : Bool) (these : ℕ → Bool) (counts : CountsThese whole these history) (small : first < 2 ^ 32) (read : List ℕ) where
  data_plain : (got : List ℕ) (cumulative offset tsn : ℕ) (chunk : ChunkModel) (old new : IncomingModel) → ((id : ℕ) → these id ≡ true → (k : ℕ) → k < cumulative → PassedOn history.log got id k)
      → CarriesCurrent history first offset tsn chunk → (HasEntry offset got → ⊥) → offset < cumulative + 2 ^ 16 → ReassemblesPlain these queued history first got read old → TakesIncomingChunk tsn chunk old new
      → ReassemblesPlain these queued history first (offset ∷ got) read new
  unfolding bears_of
  data_plain got cumulative offset tsn chunk old new passed c is_new window (some_handled base is holds) takes =
      let below = at_below offset (Some c.carries.piece) history.log c.carries.at in
      let all = counts.few in
      let few : offset < 2 ^ 31 = omega (arith, below, all) in
      let number = number_read first base old.last_tsn_number offset tsn is few c.carries.is in
      some_handled base (record { same = is.same; near = is.near; worked = offset; few = few; is = takes.last ∙ number })
      (ready_plain queued history cut whole these counts got base is.near read cumulative passed tsn chunk old new (bears_of history first base offset tsn (number_near old.last_tsn_number tsn) chunk c number) is_new window holds takes)
  data_plain got cumulative offset tsn chunk old new passed c is_new window (none_handled none last empty) takes =
      let below = at_below offset (Some c.carries.piece) history.log c.carries.at in
      let all = counts.few in
      let few : offset < 2 ^ 31 = omega (arith, below, all) in
      let base : ℕ = number_near (2 ^ 32) ((first + offset) % 2 ^ 32) - offset in
      let up = first_number first offset small few in
      let number : number_near old.last_tsn_number tsn ≡ base + offset = ap (λ (l : ℕ). number_near l tsn) last ∙ ap (number_near (2 ^ 32)) c.carries.is ∙ omega (arith, up) in
      some_handled base (record { same = first_base first offset small few; near = first_near first offset small few; worked = offset; few = few; is = takes.last ∙ number })
      (ready_plain queued history cut whole these counts got base (first_near first offset small few) read cumulative passed tsn chunk old new (bears_of history first base offset tsn (number_near old.last_tsn_number tsn) chunk c number) is_new window
      (subst (λ (l : List ℕ). IncomingPlain these queued history l base read old) (sym none) (empty base)) takes)

  -- one of another stream
  pub data_beside : (got : List ℕ) (offset tsn : ℕ) (chunk : ChunkModel) (old new : IncomingModel) → CarriesCurrent history first offset tsn chunk → (HasEntry offset got → ⊥) → these chunk.stream ≡ false
      → ReassemblesPlain these queued history first got read old → TakesIncomingChunk tsn chunk old new → ReassemblesPlain these queued history first (offset ∷ got) read new
  unfolding bears_of
  data_beside got offset tsn chunk old new c is_new other (some_handled base is holds) takes =
      let below = at_below offset (Some c.carries.piece) history.log c.carries.at in
      let all = counts.few in
      let few : offset < 2 ^ 31 = omega (arith, below, all) in
      let number = number_read first base old.last_tsn_number offset tsn is few c.carries.is in
      some_handled base (record { same = is.same; near = is.near; worked = offset; few = few; is = takes.last ∙ number })
      (beside_plain queued history cut whole these counts got base is.near read tsn chunk old new (bears_of history first base offset tsn (number_near old.last_tsn_number tsn) chunk c number) is_new other holds takes)
  data_beside got offset tsn chunk old new c is_new other (none_handled none last empty) takes =
      let below = at_below offset (Some c.carries.piece) history.log c.carries.at in
      let all = counts.few in
      let few : offset < 2 ^ 31 = omega (arith, below, all) in
      let base : ℕ = number_near (2 ^ 32) ((first + offset) % 2 ^ 32) - offset in
      let up = first_number first offset small few in
      let number : number_near old.last_tsn_number tsn ≡ base + offset = ap (λ (l : ℕ). number_near l tsn) last ∙ ap (number_near (2 ^ 32)) c.carries.is ∙ omega (arith, up) in
      some_handled base (record { same = first_base first offset small few; near = first_near first offset small few; worked = offset; few = few; is = takes.last ∙ number })
      (beside_plain queued history cut whole these counts got base (first_near first offset small few) read tsn chunk old new (bears_of history first base offset tsn (number_near old.last_tsn_number tsn) chunk c number) is_new other
      (subst (λ (l : List ℕ). IncomingPlain these queued history l base read old) (sym none) (empty base)) takes)

  -- what the tracker has passed is handled, where it is of these streams
  pub passed_on : (tracker : TrackerState) (reassembly : ReassemblyState) (r : HasReceivedPlain whole these queued history first read tracker reassembly) → (id : ℕ) → these id ≡ true → (k : ℕ) → k < tracker.cumulative + 1 - tracked_number first 0
      → PassedOn history.log r.got id k
  passed_on tracker reassembly r id mine k less =
      record {
        handled = λ f at on. elim (r.either k (r.exact k (inr (f, at, ap these on ∙ mine)) known)) [
          | inl g ↦ g
          | inr l ↦ absurd (let clash : true ≡ false = sym mine ∙ ap these (sym on) ∙ r.others k l f at in cc)
        ];
        never_shuts = λ m f next of none. go whole refl m f next of none;
      }
    where
      known : has_received tracker (tracked_number first k) ≡ true
      known = passed_so first (length history.log) tracker r.taken r.tracks k less

      -- No such end was received; or the message may not be abandoned.
      go : (b : Bool) → whole ≡ b → (m : ℕ) (f : Piece) → m + 1 ≡ k → CarriesOrdered history.log id m f → at_place k history.log ≡ Some None → ⊥
      go true exact m f next of none =
          let (g, at) = r.pieces k (r.exact k (inl exact) known) in
          let clash : Some None ≡ Some (Some g) = sym none ∙ at in
          absurd (cc)
      go false some m f next of none =
          let limited = cut.shuts m f of.at (ap (λ (n : ℕ). at_place n history.log) next ∙ none) in
          let clash : true ≡ false = sym limited ∙ counts.unlimited some m f of.at (ap these of.stream ∙ mine) in
          absurd (cc)

  -- what an arrival leaves, where a reset that is deferred names none of these
  module _ (offset : ℕ) (arrival : Arrival) (old new : Transfer) (c : Carries history.log first offset arrival.tsn arrival.chunk) (r : HasReceivedPlain whole these queued history first read old.tracker old.reassembly)
      (beside : DefersBeside these old.reassembly.deferral) (bounded : old.reassembly.max_size ≡ size) (fits : IsCounted size (length c.piece.message.payload)) where
    below : offset < length history.log
    below = at_below offset (Some c.piece) history.log c.at

    now : TrackerState
    now = tracker_after_data arrival.tsn arrival.immediate_ack old.tracker

    its_tracks : Tracks first (length history.log) (offset ∷ r.taken) now
    unfolding now
    its_tracks =
        subst (λ (t : ℕ). Tracks first (length history.log) (offset ∷ r.taken) (tracker_after_data t arrival.immediate_ack old.tracker)) (sym c.is)
        (new_is_new first (length history.log) offset arrival.immediate_ack r.taken old.tracker small counts.few below r.tracks).0

    its_exact : (k : ℕ) → IsSure whole these history.log k → has_received now (tracked_number first k) ≡ true → HasEntry k (offset ∷ r.taken)
    unfolding now
    its_exact =
        subst (λ (t : ℕ). (k : ℕ) → IsSure whole these history.log k → has_received (tracker_after_data t arrival.immediate_ack old.tracker) (tracked_number first k) ≡ true → HasEntry k (offset ∷ r.taken)) (sym c.is)
        (observed_exact first (length history.log) offset arrival.immediate_ack old.tracker r.taken small counts.few below r.tracks (IsSure whole these history.log) r.exact)

    its_pieces : (k : ℕ) → HasEntry k (offset ∷ r.taken) → (f : Piece) × (at_place k history.log ≡ Some (Some f))
    its_pieces k h = elim h [ inl e ↦ (c.piece, ap (λ (j : ℕ). at_place j history.log) e ∙ c.at) | inr t ↦ r.pieces k t ]

    current : CarriesCurrent history first offset arrival.tsn arrival.chunk
    current = record { carries = c; current = λ i. absurd (let clash : true ≡ false = sym i ∙ counts.kinds offset c.piece c.at in cc) }

    payload_small : length arrival.chunk.payload ≤ length c.piece.message.payload
    payload_small = subst (λ (l : List ℕ). length l ≤ length c.piece.message.payload) (sym c.payload) (piece_small c.piece)

    by_offset : (b : Bool) → is_new_tsn arrival.tsn old.tracker ≡ b → is_new_tsn ((first + offset) % 2 ^ 32) old.tracker ≡ b
    by_offset b is = subst (λ (t : ℕ). is_new_tsn t old.tracker ≡ b) c.is is

    -- data that waits is of another stream
    other_waits : is_data_deferred arrival.tsn arrival.chunk.stream old.reassembly.deferral ≡ true → these arrival.chunk.stream ≡ false
    other_waits e = of_deferral old.reassembly.deferral beside e
      where
        of_deferral : (o : Option DeferralModel) → DefersBeside these o → is_data_deferred arrival.tsn arrival.chunk.stream o ≡ true → these arrival.chunk.stream ≡ false
        of_deferral None names is = absurd (cc)
        of_deferral (Some deferral) names is = go (these arrival.chunk.stream) refl
          where
            go : (b : Bool) → these arrival.chunk.stream ≡ b → these arrival.chunk.stream ≡ false
            go false apart = apart
            go true mine =
                let named = (both (is_tsn_beyond arrival.tsn deferral.last_tsn) (names_stream deferral.streams arrival.chunk.stream) is).1 in
                absurd (let clash : true ≡ false = sym named ∙ names.0 arrival.chunk.stream mine in cc)

    -- a chunk whose TSN is new
    added : is_valid_tsn old.tracker.cumulative arrival.tsn ≡ true → is_new_tsn arrival.tsn old.tracker ≡ true → can_count (length arrival.chunk.payload) old.reassembly ≡ true
        → (waits : Bool) → is_data_deferred arrival.tsn arrival.chunk.stream old.reassembly.deferral ≡ waits → AddsData arrival.tsn arrival.chunk old.reassembly new.reassembly
        → HasReceivedPlain whole these queued history first read now new.reassembly
    added valid is counted true deferred adds =
        let is_new = (new_is_new first (length history.log) offset arrival.immediate_ack r.taken old.tracker small counts.few below r.tracks).1 (by_offset true is) in
        subst (λ (s : ReassemblyState). HasReceivedPlain whole these queued history first read now s) (sym (adds.deferred counted deferred))
        (record {
          taken = offset ∷ r.taken;
          got = r.got;
          later = r.later ++ offset ∷ [];
          tracks = its_tracks;
          exact = its_exact;
          pieces = its_pieces;
          got_taken = λ k h. inr (r.got_taken k h);
          later_taken = λ k h. elim (has_either k r.later (offset ∷ []) h) [
            | inl l ↦ inr (r.later_taken k l)
            | inr e ↦ elim e [ inl e' ↦ inl e' | inr t ↦ absurd t ]
          ];
          either = λ k h. elim h [
            | inl e ↦ inr (has_right k r.later (offset ∷ []) (inl e))
            | inr t ↦ elim (r.either k t) [ inl g ↦ inl g | inr l ↦ inr (has_left k r.later (offset ∷ []) l) ]
          ];
          apart = λ k h g. elim (has_either k r.later (offset ∷ []) h) [
            | inl l ↦ r.apart k l g
            | inr e ↦ elim e [ inl e' ↦ is_new (r.got_taken offset (subst (λ (j : ℕ). HasEntry j r.got) e' g)) | inr t ↦ absurd t ]
          ];
          distinct = distinct_with offset r.later [] (subst (λ (l : List ℕ). AreDistinct l) (sym (append-nil r.later)) r.distinct)
              (λ h. is_new (r.later_taken offset (subst (λ (l : List ℕ). HasEntry offset l) (append-nil r.later) h)));
          holds = r.holds;
          defers = waiting_data history first offset arrival.tsn arrival.chunk r.later old.reassembly.deferral deferred current r.defers;
          others = λ k h f at. elim (has_either k r.later (offset ∷ []) h) [
            | inl l ↦ r.others k l f at
            | inr e ↦ elim e [
              | inl e' ↦
                  (let both : Some (Some f) ≡ Some (Some c.piece) = sym at ∙ ap (λ (j : ℕ). at_place j history.log) e' ∙ c.at in
                  let same : f ≡ c.piece = cc in
                  ap (λ (x : Piece). these x.message.stream) same ∙ ap these (sym c.stream) ∙ other_waits deferred)
              | inr t ↦ absurd t
            ]
          ];
        })
    added valid is counted false deferred adds =
        let is_new = (new_is_new first (length history.log) offset arrival.immediate_ack r.taken old.tracker small counts.few below r.tracks).1 (by_offset true is) in
        let taken = adds.taken counted deferred in
        record {
          taken = offset ∷ r.taken;
          got = offset ∷ r.got;
          later = r.later;
          tracks = its_tracks;
          exact = its_exact;
          pieces = its_pieces;
          got_taken = λ k h. elim h [ inl e ↦ inl e | inr t ↦ inr (r.got_taken k t) ];
          later_taken = λ k h. inr (r.later_taken k h);
          either = λ k h. elim h [ inl e ↦ inl (inl e) | inr t ↦ elim (r.either k t) [ inl g ↦ inl (inr g) | inr l ↦ inr l ] ];
          apart = λ k h g. elim g [ inl e ↦ is_new (r.later_taken offset (subst (λ (j : ℕ). HasEntry j r.later) e h)) | inr t ↦ r.apart k h t ];
          distinct = r.distinct;
          holds = data_plain r.got (old.tracker.cumulative + 1 - tracked_number first 0) offset arrival.tsn arrival.chunk old.reassembly.incoming new.reassembly.incoming
              (passed_on old.tracker old.reassembly r) current (λ h. is_new (r.got_taken offset h))
              (in_window first (length history.log) offset arrival.immediate_ack old.tracker r.taken small counts.few below r.tracks (IsSure whole these history.log) r.exact (subst (λ (t : ℕ). is_valid_tsn old.tracker.cumulative t ≡ true) c.is valid)) r.holds taken.incoming;
          defers = subst (λ (d : Option DeferralModel). DefersData history first r.later (waiting_of d)) (sym taken.deferral) r.defers;
          others = r.others;
        }

    taken_plain : has_room arrival.tsn old ≡ true → is_valid_tsn old.tracker.cumulative arrival.tsn ≡ true → TakesArrival arrival old new → HasReceivedPlain whole these queued history first read new.tracker new.reassembly
    unfolding now
    taken_plain room valid takes =
        subst (λ (t : TrackerState). HasReceivedPlain whole these queued history first read t new.reassembly) (sym (ap (λ (t : Transfer). t.tracker) takes.rest)) (go (is_new_tsn arrival.tsn old.tracker) refl takes.reassembly)
      where
        go : (b : Bool) → is_new_tsn arrival.tsn old.tracker ≡ b → AddsIfNew b arrival.tsn arrival.chunk old.reassembly new.reassembly
            → HasReceivedPlain whole these queued history first read (tracker_after_data arrival.tsn arrival.immediate_ack old.tracker) new.reassembly
        go true is adds =
            by_count (can_count (length arrival.chunk.payload) old.reassembly) refl
          where
            counted : can_count (length arrival.chunk.payload) old.reassembly ≡ true
            counted =
                let payload = payload_small in
                counted_so arrival.tsn (length arrival.chunk.payload) old room (record { whole = omega (arith, bounded, fits.whole, payload); half = omega (arith, fits.half, payload) })

            by_count : (counts : Bool) → can_count (length arrival.chunk.payload) old.reassembly ≡ counts → HasReceivedPlain whole these queued history first read (tracker_after_data arrival.tsn arrival.immediate_ack old.tracker) new.reassembly
            by_count true e = added valid is e (is_data_deferred arrival.tsn arrival.chunk.stream old.reassembly.deferral) refl adds
            by_count false e =
                subst (λ (s : ReassemblyState). HasReceivedPlain whole these queued history first read (tracker_after_data arrival.tsn arrival.immediate_ack old.tracker) s) (sym (adds.too_much e))
                (tracked_on whole these queued history first read old.tracker (tracker_after_data arrival.tsn arrival.immediate_ack old.tracker) old.reassembly r
                (tracks_fewer first (length history.log) (offset ∷ r.taken) r.taken (tracker_after_data arrival.tsn arrival.immediate_ack old.tracker) (λ k h. inr h) its_tracks)
                (λ k sure is'. absurd (let clash : true ≡ false = sym counted ∙ e in cc)))
        go false is adds =
            subst (λ (s : ReassemblyState). HasReceivedPlain whole these queued history first read (tracker_after_data arrival.tsn arrival.immediate_ack old.tracker) s) (sym adds)
            (tracked_on whole these queued history first read old.tracker (tracker_after_data arrival.tsn arrival.immediate_ack old.tracker) old.reassembly r
            (tracks_fewer first (length history.log) (offset ∷ r.taken) r.taken (tracker_after_data arrival.tsn arrival.immediate_ack old.tracker) (λ k h. inr h) its_tracks)
            (subst (λ (t : ℕ). (k : ℕ) → IsSure whole these history.log k → has_received (tracker_after_data t arrival.immediate_ack old.tracker) (tracked_number first k) ≡ true → HasEntry k r.taken) (sym c.is)
            (known_exact first (length history.log) offset arrival.immediate_ack old.tracker r.taken small counts.few below r.tracks (IsSure whole these history.log) r.exact (by_offset false is))))

    dropped_plain : (b : Bool) → new ≡ dropping b old → HasReceivedPlain whole these queued history first read new.tracker new.reassembly
    dropped_plain true same =
        subst (λ (t : Transfer). HasReceivedPlain whole these queued history first read t.tracker t.reassembly) (sym same)
        (tracked_plain whole these queued history first read old.tracker (delay_over old.tracker) old.reassembly refl refl r)
    dropped_plain false same = subst (λ (t : Transfer). HasReceivedPlain whole these queued history first read t.tracker t.reassembly) (sym same) r

    pub received_plain : ReceivesData arrival old new → HasReceivedPlain whole these queued history first read new.tracker new.reassembly
    received_plain receives = go (has_room arrival.tsn old && is_valid_tsn old.tracker.cumulative arrival.tsn) refl receives
      where
        go : (b : Bool) → (has_room arrival.tsn old && is_valid_tsn old.tracker.cumulative arrival.tsn) ≡ b → ReceivesIfRoom b arrival old new → HasReceivedPlain whole these queued history first read new.tracker new.reassembly
        go true e takes = (let (room, valid) = both (has_room arrival.tsn old) (is_valid_tsn old.tracker.cumulative arrival.tsn) e in taken_plain room valid takes)
        go false e same = dropped_plain (old.tracker.follows_rfc && is_valid_tsn old.tracker.cumulative arrival.tsn) same

-- ---- nothing is deferred, and the window is as large as before

-- So it is in the one if it is in the other.
abbrev pub IsIdleAs : ReassemblyState → ReassemblyState → Type 0
IsIdleAs old new = (new.deferral ≡ None) × (new.max_size ≡ old.max_size)

pub stays_idle : (arrival : Arrival) (old new : Transfer) → ReceivesData arrival old new → old.reassembly.deferral ≡ None → IsIdleAs old.reassembly new.reassembly
stays_idle arrival old new receives idle = by_room (has_room arrival.tsn old && is_valid_tsn old.tracker.cumulative arrival.tsn) receives
  where
    same_state : (s : ReassemblyState) → s ≡ old.reassembly → IsIdleAs old.reassembly s
    same_state s same = (ap (λ (x : ReassemblyState). x.deferral) same ∙ idle, ap (λ (x : ReassemblyState). x.max_size) same)

    not_deferred : (o : Option DeferralModel) → o ≡ None → is_data_deferred arrival.tsn arrival.chunk.stream o ≡ true → ⊥
    not_deferred None is e = absurd (cc)
    not_deferred (Some deferral) is e = absurd (cc)

    by_deferral : AddsData arrival.tsn arrival.chunk old.reassembly new.reassembly → can_count (length arrival.chunk.payload) old.reassembly ≡ true → (b : Bool) → is_data_deferred arrival.tsn arrival.chunk.stream old.reassembly.deferral ≡ b → IsIdleAs old.reassembly new.reassembly
    by_deferral adds counts true e = absurd (not_deferred old.reassembly.deferral idle e)
    by_deferral adds counts false e = (let taken = adds.taken counts e in (taken.deferral ∙ idle, taken.window))

    by_count : AddsData arrival.tsn arrival.chunk old.reassembly new.reassembly → (b : Bool) → can_count (length arrival.chunk.payload) old.reassembly ≡ b → IsIdleAs old.reassembly new.reassembly
    by_count adds true e = by_deferral adds e (is_data_deferred arrival.tsn arrival.chunk.stream old.reassembly.deferral) refl
    by_count adds false e = same_state new.reassembly (adds.too_much e)

    by_new : (b : Bool) → AddsIfNew b arrival.tsn arrival.chunk old.reassembly new.reassembly → IsIdleAs old.reassembly new.reassembly
    by_new true adds = by_count adds (can_count (length arrival.chunk.payload) old.reassembly) refl
    by_new false same = same_state new.reassembly same

    dropped : (b : Bool) → new ≡ dropping b old → new.reassembly ≡ old.reassembly
    dropped true same = ap (λ (t : Transfer). t.reassembly) same
    dropped false same = ap (λ (t : Transfer). t.reassembly) same

    by_room : (b : Bool) → ReceivesIfRoom b arrival old new → IsIdleAs old.reassembly new.reassembly
    by_room true takes = by_new (is_new_tsn arrival.tsn old.tracker) takes.reassembly
    by_room false same = same_state new.reassembly (dropped (old.tracker.follows_rfc && is_valid_tsn old.tracker.cumulative arrival.tsn) same)

-- ---- what is deferred names none of these, and the window is as large as before

-- So it is in the one if it is in the other.
abbrev pub IsSteadyAs : (ℕ → Bool) → ReassemblyState → ReassemblyState → Type 0
IsSteadyAs these old new = DefersBeside these new.deferral × (new.max_size ≡ old.max_size)

waits_beside : (these : ℕ → Bool) (last : WaitingModel) (o : Option DeferralModel) → DefersBeside these o → DefersBeside these (with_waiting last o)
waits_beside these last None beside = tt
waits_beside these last (Some deferral) beside = beside

pub stays_steady : (these : ℕ → Bool) (arrival : Arrival) (old new : Transfer) → ReceivesData arrival old new → DefersBeside these old.reassembly.deferral → IsSteadyAs these old.reassembly new.reassembly
stays_steady these arrival old new receives beside = by_room (has_room arrival.tsn old && is_valid_tsn old.tracker.cumulative arrival.tsn) receives
  where
    same_state : (s : ReassemblyState) → s ≡ old.reassembly → IsSteadyAs these old.reassembly s
    same_state s same = (subst (λ (x : ReassemblyState). DefersBeside these x.deferral) (sym same) beside, ap (λ (x : ReassemblyState). x.max_size) same)

    by_deferral : AddsData arrival.tsn arrival.chunk old.reassembly new.reassembly → can_count (length arrival.chunk.payload) old.reassembly ≡ true → (b : Bool) → is_data_deferred arrival.tsn arrival.chunk.stream old.reassembly.deferral ≡ b
        → IsSteadyAs these old.reassembly new.reassembly
    by_deferral adds counts true e =
        subst (λ (s : ReassemblyState). IsSteadyAs these old.reassembly s) (sym (adds.deferred counts e)) (waits_beside these (record { tsn = arrival.tsn; chunk = arrival.chunk }) old.reassembly.deferral beside, refl)
    by_deferral adds counts false e = (let taken = adds.taken counts e in (subst (λ (d : Option DeferralModel). DefersBeside these d) (sym taken.deferral) beside, taken.window))

    by_count : AddsData arrival.tsn arrival.chunk old.reassembly new.reassembly → (b : Bool) → can_count (length arrival.chunk.payload) old.reassembly ≡ b → IsSteadyAs these old.reassembly new.reassembly
    by_count adds true e = by_deferral adds e (is_data_deferred arrival.tsn arrival.chunk.stream old.reassembly.deferral) refl
    by_count adds false e = same_state new.reassembly (adds.too_much e)

    by_new : (b : Bool) → AddsIfNew b arrival.tsn arrival.chunk old.reassembly new.reassembly → IsSteadyAs these old.reassembly new.reassembly
    by_new true adds = by_count adds (can_count (length arrival.chunk.payload) old.reassembly) refl
    by_new false same = same_state new.reassembly same

    dropped : (b : Bool) → new ≡ dropping b old → new.reassembly ≡ old.reassembly
    dropped true same = ap (λ (t : Transfer). t.reassembly) same
    dropped false same = ap (λ (t : Transfer). t.reassembly) same

    by_room : (b : Bool) → ReceivesIfRoom b arrival old new → IsSteadyAs these old.reassembly new.reassembly
    by_room true takes = by_new (is_new_tsn arrival.tsn old.tracker) takes.reassembly
    by_room false same = same_state new.reassembly (dropped (old.tracker.follows_rfc && is_valid_tsn old.tracker.cumulative arrival.tsn) same)
