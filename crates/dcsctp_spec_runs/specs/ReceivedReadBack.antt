-- What a snapshot has of what was received reads back.
use Rattle.std.specs.Prelude.{◌≡◌, ℕ, ◌+◌, ◌%◌, ◌^◌, []}
use Rattle.dcsctp_spec_lemmas.specs.types.declared.options.Options.{Options}
use Rattle.dcsctp_spec_lemmas.specs.types.Snapshot.{ReceivePart}
use Rattle.dcsctp_spec_lemmas.specs.spec.queues.Incoming.{stream_on}
use Rattle.dcsctp_spec_lemmas.specs.spec.queues.IncomingStreams.{new_stream}
use Rattle.dcsctp_spec_lemmas.specs.spec.queues.Reassembly.{ReassemblyState}
use Rattle.dcsctp_spec_lemmas.specs.spec.queues.ReceivedParts.{part_with_tracker, tracker_restored, with_reassembly, restored_stream}
use Rattle.dcsctp_spec_lemmas.specs.spec.queues.Tracker.{TrackerState, new_tracker, is_new_tsn}

-- A restored tracker has the last TSN of the other one as its number, and knows whether data was received. All else is as it is
-- in one that was just made.
abbrev pub TrackerReadsBack : Type 0
TrackerReadsBack =
    (options : Options) (first : ℕ) (tracker : TrackerState) (rx : ReceivePart)
    → tracker_restored (part_with_tracker tracker rx) (new_tracker options first)
    ≡ record (new_tracker options first) { cumulative = tracker.cumulative % 2 ^ 32; has_seen_data = tracker.has_seen_data }

-- The same TSNs are new to it, if no TSN was missing before another.
abbrev pub SameTsnsAreNew : Type 0
SameTsnsAreNew =
    (options : Options) (first tsn : ℕ) (tracker : TrackerState) (rx : ReceivePart)
    → tracker.ranges ≡ []
    → is_new_tsn tsn (tracker_restored (part_with_tracker tracker rx) (new_tracker options first)) ≡ is_new_tsn tsn tracker

-- A restored stream continues with the next number, modulo 2^32. All else is as it is in a stream on which nothing was received,
-- so nothing waits on it.
abbrev pub StreamsReadBack : Type 0
StreamsReadBack =
    (id : ℕ) (queue : ReassemblyState) (rx : ReceivePart)
    → restored_stream id (with_reassembly queue rx).ordered_streams
    ≡ record (new_stream id) { next = 2 ^ 32 + (stream_on id queue.incoming.streams).next % 2 ^ 32 }
