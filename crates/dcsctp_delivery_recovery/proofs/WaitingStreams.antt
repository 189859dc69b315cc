-- Streams on which each message has bytes, and one under way isn't fully sent.
use Rattle.std.proofs.Common.{◌≡◌, ◌≢◌, ◌==◌, ℕ, zero, suc, Bool, true, false, ◌<◌, ◌≤◌, List, [], ◌∷◌, length, map, refl, sym, ◌∙◌, arith, subst, inl, inr}
use Rattle.std.specs.Prelude.{◌||◌, Option, None, Some, nat_lt, slice_set, if◌then◌else◌}
use Rattle.std.specs.List.{AllByRecursion}
use Rattle.std.proofs.lemmas.Bool.Decides.{eqb_tells, leb_tells}
use Rattle.dcsctp_spec_lemmas.specs.types.declared.sending.UnderWay.{UnderWay}
use Rattle.dcsctp_spec_lemmas.specs.types.queues.SendStreams.{Waiting, Stream, IsBelow, IsAscending, stream_at, unused_stream}
use Rattle.dcsctp_spec_lemmas.specs.spec.queues.SendQueue.{SendQueueState, HaveBytes, stream_changed, with_stream, is_used, used_streams, stream_found}
use Rattle.dcsctp_delivery_directions.proofs.sending.CountedFragments.{FollowsCounts}

-- ---- one stream

-- The message under way isn't fully sent.
abbrev pub IsUnfinished : Option UnderWay → List Waiting → Type 0
IsUnfinished None messages = Unit {0}
IsUnfinished (Some under_way) [] = ⊥
IsUnfinished (Some under_way) (message ∷ messages) = under_way.sent < length message.payload

pub record WaitsWell (s : Stream) : Type 0 where
  pub bytes : HaveBytes s
  pub unfinished : IsUnfinished s.under_way s.messages

pub well_like : (old new : Stream) → new.messages ≡ old.messages → new.under_way ≡ old.under_way → WaitsWell old → WaitsWell new
well_like old new messages under_way h =
    record {
      bytes = subst (λ (l : List Waiting). AllByRecursion (λ (message : Waiting). 0 < length message.payload) l) (sym messages) h.bytes;
      unfinished = subst (λ (l : List Waiting). IsUnfinished new.under_way l) (sym messages) (subst (λ (u : Option UnderWay). IsUnfinished u old.messages) (sym under_way) h.unfinished);
    }

pub well_unused : (id priority threshold : ℕ) → WaitsWell (unused_stream id priority threshold)
well_unused id priority threshold = record { bytes = tt; unfinished = tt }

-- ---- all streams

-- So it is on each, and each occurs once.
pub record AllWaitWell (streams : List Stream) : Type 0 where
  pub ascending : IsAscending streams
  pub each : AllByRecursion WaitsWell streams

pub each_at : (streams : List Stream) (place : ℕ) → AllByRecursion WaitsWell streams → WaitsWell (stream_at streams place)
each_at [] place h = well_unused 0 0 0
each_at (s ∷ streams) zero h = h.0
each_at (s ∷ streams) (suc place) h = each_at streams place h.1

-- ---- one is set

below_set : (id : ℕ) (streams : List Stream) (place : ℕ) (new : Stream) → new.id ≡ (stream_at streams place).id → IsBelow id streams → IsBelow id (slice_set streams place new)
below_set id [] place new same h = tt
below_set id (s ∷ streams) zero new same h = (subst (λ (n : ℕ). id < n) (sym same) h.0, h.1)
below_set id (s ∷ streams) (suc place) new same h = (h.0, below_set id streams place new same h.1)

ascending_set : (streams : List Stream) (place : ℕ) (new : Stream) → new.id ≡ (stream_at streams place).id → IsAscending streams → IsAscending (slice_set streams place new)
ascending_set [] place new same h = tt
ascending_set (s ∷ streams) zero new same h = (subst (λ (n : ℕ). IsBelow n streams) (sym same) h.0, h.1)
ascending_set (s ∷ streams) (suc place) new same h = (below_set s.id streams place new same h.0, ascending_set streams place new same h.1)

each_set : (streams : List Stream) (place : ℕ) (new : Stream) → WaitsWell new → AllByRecursion WaitsWell streams → AllByRecursion WaitsWell (slice_set streams place new)
each_set [] place new well h = tt
each_set (s ∷ streams) zero new well h = (well, h.1)
each_set (s ∷ streams) (suc place) new well h = (h.0, each_set streams place new well h.1)

pub well_set : (streams : List Stream) (place : ℕ) (new : Stream) → new.id ≡ (stream_at streams place).id → WaitsWell new → AllWaitWell streams → AllWaitWell (slice_set streams place new)
well_set streams place new same well h = record { ascending = ascending_set streams place new same h.ascending; each = each_set streams place new well h.each }

-- a fragment is counted
abbrev pub KeepsWell : List Stream → List Stream → Type 0
KeepsWell old new = AllWaitWell old → AllWaitWell new

pub counts_well : FollowsCounts KeepsWell
counts_well =
    record {
      same = λ streams h. h;
      both = λ old between new one two h. two (one h);
      set = λ place new streams counted h. well_set streams place new counted.id (well_like (stream_at streams place) new counted.messages counted.under_way (each_at streams place h.each)) h;
    }

-- ---- each is changed

module _ (f : Stream → Stream) (ids : (s : Stream) → (f s).id ≡ s.id) where
  below_mapped : (id : ℕ) (streams : List Stream) → IsBelow id streams → IsBelow id (map f streams)
  below_mapped id [] h = tt
  below_mapped id (s ∷ streams) h = (subst (λ (n : ℕ). id < n) (sym (ids s)) h.0, below_mapped id streams h.1)

  ascending_mapped : (streams : List Stream) → IsAscending streams → IsAscending (map f streams)
  ascending_mapped [] h = tt
  ascending_mapped (s ∷ streams) h = (subst (λ (n : ℕ). IsBelow n (map f streams)) (sym (ids s)) (below_mapped s.id streams h.0), ascending_mapped streams h.1)

each_mapped : (f : Stream → Stream) → ((s : Stream) → WaitsWell s → WaitsWell (f s)) → (streams : List Stream) → AllByRecursion WaitsWell streams → AllByRecursion WaitsWell (map f streams)
each_mapped f well [] h = tt
each_mapped f well (s ∷ streams) h = (well s h.0, each_mapped f well streams h.1)

pub well_mapped : (f : Stream → Stream) → ((s : Stream) → (f s).id ≡ s.id) → ((s : Stream) → WaitsWell s → WaitsWell (f s)) → (streams : List Stream) → AllWaitWell streams → AllWaitWell (map f streams)
well_mapped f ids well streams h = record { ascending = ascending_mapped f ids streams h.ascending; each = each_mapped f well streams h.each }

-- ---- that of one number is changed

-- The stream of this number is the one that is found by it.
abbrev Only : Stream → ℕ → List Stream → Stream → Type 0
Only default id streams s = s.id ≡ id → stream_found default id streams ≡ s

none_above : (P : Stream → Type 0) (low id : ℕ) (streams : List Stream) → low ≡ id → IsBelow low streams → AllByRecursion (λ (s : Stream). s.id ≡ id → P s) streams
none_above P low id [] same h = tt
none_above P low id (s ∷ streams) same h = ((λ is. absurd (let less = h.0 in omega (arith, less, same, is))), none_above P low id streams same h.1)

all_then : (P Q : Stream → Type 0) → ((s : Stream) → P s → Q s) → (streams : List Stream) → AllByRecursion P streams → AllByRecursion Q streams
all_then P Q leads [] h = tt
all_then P Q leads (s ∷ streams) h = (leads s h.0, all_then P Q leads streams h.1)

found_only : (default : Stream) (id : ℕ) (streams : List Stream) → IsAscending streams → AllByRecursion (Only default id streams) streams
found_only default id [] h = tt
found_only default id (s ∷ streams) h =
    elim (eqb_tells s.id id) [
      | inl e ↦
          (let found : stream_found default id (s ∷ streams) ≡ s = rw e.0 refl in
          ((λ is. found), none_above (λ (t : Stream). stream_found default id (s ∷ streams) ≡ t) s.id id streams e.1 h.0))
      | inr e ↦
          (let found : stream_found default id (s ∷ streams) ≡ stream_found default id streams = rw e.0 refl in
          ((λ is. absurd (e.1 is)), all_then (Only default id streams) (Only default id (s ∷ streams)) (λ t only is. found ∙ only is) streams (found_only default id streams h.1)))
    ]

module _ (id : ℕ) (f : Stream → Stream) (ids : (s : Stream) → (f s).id ≡ s.id) where
  changed_id : (b : Bool) (s : Stream) → (if b then f s else s).id ≡ s.id
  changed_id true s = ids s
  changed_id false s = refl

  each_changed : (One : Stream → Type 0) → ((s : Stream) → One s → WaitsWell s → WaitsWell (f s)) → (streams : List Stream) → AllByRecursion (λ (s : Stream). s.id ≡ id → One s) streams
      → AllByRecursion WaitsWell streams → AllByRecursion WaitsWell (stream_changed id f streams)
  each_changed One well [] only h = tt
  each_changed One well (s ∷ streams) only h =
      let rest = each_changed One well streams only.1 h.1 in
      elim (eqb_tells s.id id) [
        | inl e ↦ (subst (λ (b : Bool). WaitsWell (if b then f s else s)) (sym e.0) (well s (only.0 e.1) h.0), rest)
        | inr e ↦ (subst (λ (b : Bool). WaitsWell (if b then f s else s)) (sym e.0) h.0, rest)
      ]

  -- `f` may count on that the stream is the one that is found
  pub well_changed_only : (default : Stream) (streams : List Stream) → ((s : Stream) → stream_found default id streams ≡ s → WaitsWell s → WaitsWell (f s)) → AllWaitWell streams → AllWaitWell (stream_changed id f streams)
  well_changed_only default streams well h =
      record {
        ascending = ascending_mapped (λ (s : Stream). if s.id == id then f s else s) (λ s. changed_id (s.id == id) s) streams h.ascending;
        each = each_changed (λ (s : Stream). stream_found default id streams ≡ s) well streams (found_only default id streams h.ascending) h.each;
      }

  pub well_changed : (streams : List Stream) → ((s : Stream) → WaitsWell s → WaitsWell (f s)) → AllWaitWell streams → AllWaitWell (stream_changed id f streams)
  well_changed streams well h = well_changed_only (unused_stream 0 0 0) streams (λ s found. well s) h

-- ---- one is used for the first time

below_with : (low : ℕ) (new : Stream) (streams : List Stream) → low < new.id → IsBelow low streams → IsBelow low (with_stream new streams)
below_with low new [] less h = (less, tt)
below_with low new (s ∷ streams) less h = go (nat_lt s.id new.id) (below_with low new streams less h.1)
  where
    go : (b : Bool) → IsBelow low (with_stream new streams) → IsBelow low (if b then s ∷ with_stream new streams else new ∷ s ∷ streams)
    go true rest = (h.0, rest)
    go false rest = (less, h)

below_more : (low high : ℕ) (streams : List Stream) → low ≤ high → IsBelow high streams → IsBelow low streams
below_more low high [] le h = tt
below_more low high (s ∷ streams) le h = ((let less = h.0 in omega (arith, less, le)), below_more low high streams le h.1)

or_false : (a b : Bool) → (a || b) ≡ false → (a ≡ false) × (b ≡ false)
or_false true b e = absurd (cc)
or_false false b e = (refl, e)

ascending_with : (new : Stream) (streams : List Stream) → is_used new.id streams ≡ false → IsAscending streams → IsAscending (with_stream new streams)
ascending_with new [] fresh h = (tt, tt)
ascending_with new (s ∷ streams) fresh h =
    elim (leb_tells (suc s.id) new.id) [
      | inl e ↦ subst (λ (b : Bool). IsAscending (if b then s ∷ with_stream new streams else new ∷ s ∷ streams)) (sym e.0) (below_with s.id new streams e.1 h.0, ascending_with new streams others.1 h.1)
      | inr e ↦
          subst (λ (b : Bool). IsAscending (if b then s ∷ with_stream new streams else new ∷ s ∷ streams)) (sym e.0)
          (let less : new.id < s.id = (let past = e.1 in omega (arith, past, other)) in ((less, below_more new.id s.id streams (omega (arith, less)) h.0), h))
    ]
  where
    others : ((s.id == new.id) ≡ false) × (is_used new.id streams ≡ false)
    others = or_false (s.id == new.id) (is_used new.id streams) fresh

    other : s.id ≢ new.id
    other = λ same. elim (eqb_tells s.id new.id) [
      | inl e ↦ (let clash : true ≡ false = sym e.0 ∙ others.0 in absurd (cc))
      | inr e ↦ e.1 same
    ]

each_with : (new : Stream) (streams : List Stream) → WaitsWell new → AllByRecursion WaitsWell streams → AllByRecursion WaitsWell (with_stream new streams)
each_with new [] well h = (well, tt)
each_with new (s ∷ streams) well h = go (nat_lt s.id new.id) (each_with new streams well h.1)
  where
    go : (b : Bool) → AllByRecursion WaitsWell (with_stream new streams) → AllByRecursion WaitsWell (if b then s ∷ with_stream new streams else new ∷ s ∷ streams)
    go true rest = (h.0, rest)
    go false rest = (well, h)

pub well_used : (queue : SendQueueState) (id : ℕ) → AllWaitWell queue.streams → AllWaitWell (used_streams queue id)
well_used queue id h = go (is_used id queue.streams) refl
  where
    new : Stream
    new = unused_stream id queue.default_priority queue.default_threshold

    go : (b : Bool) → is_used id queue.streams ≡ b → AllWaitWell (if b then queue.streams else with_stream (unused_stream id queue.default_priority queue.default_threshold) queue.streams)
    go true used = h
    go false fresh =
        record {
          ascending = ascending_with (unused_stream id queue.default_priority queue.default_threshold) queue.streams fresh h.ascending;
          each = each_with (unused_stream id queue.default_priority queue.default_threshold) queue.streams (well_unused id queue.default_priority queue.default_threshold) h.each;
        }
