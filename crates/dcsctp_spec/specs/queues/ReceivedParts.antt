-- What a snapshot has of what was received, and what is restored from it. It is given where nothing is unfinished: no TSN is
-- missing before another, no reset is deferred, and no message waits for more.
use Rattle.std.specs.Prelude.{◌≡◌, ℕ, ◌+◌, ◌^◌, ◌%◌, ◌==◌, List, [], ◌∷◌, map, if◌then◌else◌}
use Rattle.dcsctp_types.specs.declared.snapshot.HandoverOrderedStream.{HandoverOrderedStream}
use Rattle.dcsctp_types.specs.Snapshot.{ReceivePart}
use Rattle.dcsctp_spec.specs.queues.Incoming.{stream_on}
use Rattle.dcsctp_spec.specs.queues.IncomingStreams.{StreamModel, new_stream}
use Rattle.dcsctp_spec.specs.queues.Reassembly.{ReassemblyState}
use Rattle.dcsctp_spec.specs.queues.Tracker.{TrackerState, cumulative_tsn}

-- ---- which TSNs were received

-- the part with the last TSN that is acknowledged, and whether data came at all
abbrev pub part_with_tracker : TrackerState → ReceivePart → ReceivePart
part_with_tracker tracker rx = record rx { seen_packet = tracker.has_seen_data; last_cumulative_acked_tsn = cumulative_tsn tracker }

-- A tracker that was just made continues after that TSN. Nothing is to be acknowledged.
abbrev pub tracker_restored : ReceivePart → TrackerState → TrackerState
tracker_restored rx tracker = record tracker { cumulative = rx.last_cumulative_acked_tsn; has_seen_data = rx.seen_packet }

-- ---- messages

-- the number of the ordered message that comes next on the stream, as it is sent
abbrev pub ordered_stream : ℕ → StreamModel → HandoverOrderedStream
ordered_stream id stream = record { id = id; next_ssn = stream.next % 2 ^ 32 }

-- The part with the numbers of the streams on which something was received. Of unordered messages nothing is kept once they are
-- whole, so no stream is listed for them.
abbrev pub with_reassembly : ReassemblyState → ReceivePart → ReceivePart
with_reassembly queue rx =
    record rx {
      last_assembled_tsn = queue.incoming.last_tsn_number % 2 ^ 32;
      ordered_streams = map (λ (entry : ℕ × StreamModel). ordered_stream entry.0 entry.1) queue.incoming.streams;
      unordered_streams = [];
    }

-- the stream that the list has under this identifier, or one on which nothing was received
abbrev pub restored_stream : ℕ → List HandoverOrderedStream → StreamModel
restored_stream id [] = new_stream id
restored_stream id (stream ∷ streams) = if stream.id == id then record (new_stream id) { next = 2 ^ 32 + stream.next_ssn } else restored_stream id streams

-- A queue that was just made continues with these streams, after that TSN.
pub record RestoresReassembly (rx : ReceivePart) (old new : ReassemblyState) : Type 0 where
  pub streams : (id : ℕ) → stream_on id new.incoming.streams ≡ restored_stream id rx.ordered_streams
  pub others : new ≡ record old {
    incoming = record old.incoming { streams = new.incoming.streams; last_tsn_number = 2 ^ 32 + rx.last_assembled_tsn };
  }
