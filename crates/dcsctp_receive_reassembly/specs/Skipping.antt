-- What must be in memory before messages are skipped.
use Rattle.std.specs.Prelude.{ℕ, ◌+◌, ◌==◌, ◌||◌, Bool, false, if◌then◌else◌, List, [], ◌∷◌, length, IsSome}
use Rattle.std.specs.BTreeMap.{BTreeMap, get}
use Rattle.std.specs.Ordering.{nat_cmp}
use Rattle.dcsctp_api.specs.types.declared.arrivals.SkippedTo.{SkippedTo}
use Rattle.dcsctp_receive_reassembly.specs.declared.stream.Stream.{Stream}
use Rattle.dcsctp_api.specs.spec.queues.IncomingStreams.{StreamModel, skipped_stream}

-- Is there a stream for each entry?
abbrev pub AllMade : List SkippedTo → BTreeMap ℕ Stream → Type 0
AllMade [] streams = Unit {0}
AllMade (entry ∷ entries) streams = IsSome (get nat_cmp streams (skipped_stream entry)) × AllMade entries streams

-- How many messages wait on the streams of the entries that weren't seen yet. Each stream counts once.
abbrev pub room_beyond : (ℕ → Bool) → List SkippedTo → (ℕ → StreamModel) → ℕ
room_beyond seen [] streams = 0
room_beyond seen (entry ∷ entries) streams =
    (if seen (skipped_stream entry) then 0 else length (streams (skipped_stream entry)).waiting)
    + room_beyond (λ id. (skipped_stream entry == id) || seen id) entries streams

-- how many messages wait on the streams of the entries
abbrev pub room_for : List SkippedTo → (ℕ → StreamModel) → ℕ
room_for entries streams = room_beyond (λ id. false) entries streams
