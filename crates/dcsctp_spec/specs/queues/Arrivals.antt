-- What a DATA, an I-DATA, a FORWARD-TSN and an I-FORWARD-TSN chunk carry (RFC 9260, section 3.3.1; RFC 3758, section 3.2; RFC
-- 8260, sections 2.1 and 2.3.1).
use Rattle.std.specs.Prelude.{ℕ, zero, suc, ◌/◌, Bool, true, false, List, [], ◌∷◌, ◌++◌, length}
use Rattle.dcsctp_types.specs.wire.Content.{DataContent, IDataContent}
use Rattle.dcsctp_types.specs.wire.Fields.{numbered_skipped_stream, numbered_skipped_messages}
use Rattle.dcsctp_types.specs.wire.declared.chunk.forward_tsn.SkippedStream.{SkippedStream}
use Rattle.dcsctp_types.specs.wire.declared.chunk.forward_tsn.SkippedMessages.{SkippedMessages}
use Rattle.dcsctp_types.specs.declared.arrivals.Numbering.{Numbering}
use Rattle.dcsctp_types.specs.declared.arrivals.Numbering.TheVariants.{Ordered, Unordered, InterleavedOrdered, InterleavedUnordered}
use Rattle.dcsctp_types.specs.declared.arrivals.SkippedTo.{SkippedTo}
use Rattle.dcsctp_types.specs.declared.arrivals.SkippedTo.TheVariants.{Ssn, Mid}
use Rattle.dcsctp_spec.specs.queues.IncomingStreams.{ChunkModel}

-- a part of a message, under its TSN
pub record Arrival : Type 0 where
  pub tsn : ℕ
  -- Is it to be acknowledged at once?
  pub immediate_ack : Bool
  pub chunk : ChunkModel

-- ---- DATA

abbrev pub numbering_of : Bool → ℕ → Numbering
numbering_of true ssn = Unordered
numbering_of false ssn = Ordered ssn

abbrev pub data_arrival : DataContent → Arrival
data_arrival chunk =
    record {
      tsn = chunk.tsn;
      immediate_ack = chunk.flags.immediate_ack;
      chunk = record {
        stream = chunk.stream_id;
        numbering = numbering_of chunk.flags.is_unordered chunk.ssn;
        ppid = chunk.ppid;
        payload = chunk.payload;
        is_beginning = chunk.flags.is_beginning;
        is_end = chunk.flags.is_end;
      };
    }

-- ---- I-DATA

-- The first part of a message has the number 0.
abbrev pub fsn_of : Bool → ℕ → ℕ
fsn_of true ppid = 0
fsn_of false fsn = fsn

-- The first part alone names the protocol.
abbrev pub ppid_of : Bool → ℕ → ℕ
ppid_of true ppid = ppid
ppid_of false fsn = 0

abbrev pub interleaved_numbering : Bool → ℕ → ℕ → Numbering
interleaved_numbering true mid fsn = InterleavedUnordered mid fsn
interleaved_numbering false mid fsn = InterleavedOrdered mid fsn

abbrev pub i_data_arrival : IDataContent → Arrival
i_data_arrival chunk =
    record {
      tsn = chunk.tsn;
      immediate_ack = chunk.flags.immediate_ack;
      chunk = record {
        stream = chunk.stream_id;
        numbering = interleaved_numbering chunk.flags.is_unordered chunk.mid (fsn_of chunk.flags.is_beginning chunk.ppid_or_fsn);
        ppid = ppid_of chunk.flags.is_beginning chunk.ppid_or_fsn;
        payload = chunk.payload;
        is_beginning = chunk.flags.is_beginning;
        is_end = chunk.flags.is_end;
      };
    }

-- ---- FORWARD-TSN and I-FORWARD-TSN

abbrev pub skipped_to : SkippedStream → SkippedTo
skipped_to entry = Ssn (record { 0 = entry.stream_id }) entry.ssn

abbrev pub messages_skipped_to : SkippedMessages → SkippedTo
messages_skipped_to entry = Mid (record { 0 = entry.stream_id }) entry.is_unordered entry.mid

-- that many entries of these bytes, the first ones
abbrev pub first_skipped : ℕ → List ℕ → List SkippedTo
first_skipped zero streams = []
first_skipped (suc count) streams = first_skipped count streams ++ skipped_to (numbered_skipped_stream count streams) ∷ []

abbrev pub first_messages_skipped : ℕ → List ℕ → List SkippedTo
first_messages_skipped zero streams = []
first_messages_skipped (suc count) streams = first_messages_skipped count streams ++ messages_skipped_to (numbered_skipped_messages count streams) ∷ []

-- what a FORWARD-TSN names, four bytes each
abbrev pub named_skips : List ℕ → List SkippedTo
named_skips streams = first_skipped (length streams / 4) streams

-- what an I-FORWARD-TSN names, eight bytes each
abbrev pub skipped_messages : List ℕ → List SkippedTo
skipped_messages streams = first_messages_skipped (length streams / 8) streams
