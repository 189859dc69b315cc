-- Incoming streams in memory, as the machine has them.
use Rattle.std.specs.Prelude.{◌≡◌, ℕ, take, drop, None, List, ◌∷◌, ◌++◌, map}
use Rattle.dcsctp_receive_reassembly.specs.declared.arrivals.Data.{Data}
use Rattle.dcsctp_receive_reassembly.specs.declared.stream.Stream.{Stream}
use Rattle.dcsctp_receive_reassembly.specs.declared.stream.Waiting.{Waiting}
use Rattle.std.specs.BTreeMap.{is_at}
use Rattle.std.specs.Map.{lookup}
use Rattle.std.specs.Ordering.{nat_cmp}
use Rattle.dcsctp_receive_ordered_map.specs.Entries.{Ascends, count_up_to}
use Rattle.dcsctp_api.specs.spec.queues.Runs.{WholeModel}
use Rattle.dcsctp_api.specs.spec.queues.IncomingStreams.{StreamModel, ChunkModel}

-- a message that waits, by its number
abbrev pub waiting_whole : ℕ × Waiting → WholeModel
waiting_whole entry = record { number = entry.0; ppid = entry.1.ppid.0; payload = entry.1.payload.items }

abbrev pub stream_model : Stream → StreamModel
stream_model stream =
    record {
      id = stream.id.0;
      next = stream.next;
      last_unordered = stream.last_unordered;
      waiting = map waiting_whole stream.waiting.entries;
      ordered = stream.ordered;
      unordered = stream.unordered;
    }

-- An entry without content was added at this number, in the order of numbers.
pub record HoldsPlace (number : ℕ) (old new : List (ℕ × Waiting)) : Type 0 where
  pub empty : Waiting
  pub ascends : Ascends old
  pub ascends' : Ascends new
  pub absent : lookup (is_at (nat_cmp number)) old ≡ None
  pub put : new ≡ take (count_up_to number old) old ++ (number, empty) ∷ drop (count_up_to number old) old

abbrev pub chunk_of : Data → ChunkModel
chunk_of chunk =
    record { stream = chunk.stream_id.0; numbering = chunk.numbering; ppid = chunk.ppid.0; payload = chunk.payload.items; is_beginning = chunk.is_beginning; is_end = chunk.is_end }
