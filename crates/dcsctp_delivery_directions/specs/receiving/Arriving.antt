-- What a chunk of data says as it is received, and a chunk that passes TSNs, which the peer sent
-- (RFC 9260, section 3.3.1, RFC 3758, section 3.2, and RFC 8260, sections 2.1 and 2.3.1).
use Rattle.std.specs.Prelude.{◌≢◌, ℕ, List, [], true, false}
use Rattle.std.specs.List.{AllByRecursion}
use Rattle.dcsctp_spec_lemmas.specs.wire.Content.{DataContent, IDataContent}
use Rattle.dcsctp_spec_lemmas.specs.spec.queues.Arrivals.{data_arrival, i_data_arrival, named_skips, skipped_messages}
use Rattle.dcsctp_delivery_directions.specs.sending.Log.{Message, Slot, History, IsLogOfPieces, Fits}
use Rattle.dcsctp_delivery_directions.specs.sending.Flushes.{IsData, IsInterleaved, IsForward}
use Rattle.dcsctp_delivery_directions.specs.receiving.Ready.{SkipAll}
use Rattle.dcsctp_delivery_directions.specs.receiving.Received.{Carries}

-- A DATA chunk of the log with a payload carries its piece.
abbrev pub ChunksCarryPieces : Type 0
ChunksCarryPieces =
    (queued : List Message) (log : List Slot) (first : ℕ) (chunk : DataContent) → IsLogOfPieces queued log → AllByRecursion Fits queued → (is : IsData log first chunk) → chunk.payload ≢ []
    → Carries log first is.number (data_arrival chunk).tsn (data_arrival chunk).chunk

-- So does an I-DATA chunk.
abbrev pub InterleavedCarryPieces : Type 0
InterleavedCarryPieces =
    (queued : List Message) (log : List Slot) (first : ℕ) (chunk : IDataContent) → IsLogOfPieces queued log → AllByRecursion Fits queued → (is : IsInterleaved log first chunk) → chunk.payload ≢ []
    → Carries log first is.number (i_data_arrival chunk).tsn (i_data_arrival chunk).chunk

-- A FORWARD-TSN skips what its log has,
abbrev pub ForwardsSkip : Type 0
ForwardsSkip = (history : History) (first acknowledged tsn : ℕ) (streams : List ℕ) → (is : IsForward false history first acknowledged tsn streams) → SkipAll history is.passed.passed (named_skips streams)

-- and so does an I-FORWARD-TSN.
abbrev pub InterleavedForwardsSkip : Type 0
InterleavedForwardsSkip =
    (queued : List Message) (history : History) (first acknowledged tsn : ℕ) (streams : List ℕ) → IsLogOfPieces queued history.log → AllByRecursion Fits queued → (is : IsForward true history first acknowledged tsn streams)
    → SkipAll history is.passed.passed (skipped_messages streams)
