-- What was received and not taken yet, in memory, as the machine has it.
use Rattle.std.specs.Prelude.{◌≡◌, ℕ, ◌+◌, ◌≤◌, map}
use Rattle.dcsctp_api.specs.types.queues.Messages.{message_content}
use Rattle.dcsctp_receive_reassembly.specs.declared.stream.Stream.{Stream}
use Rattle.dcsctp_receive_reassembly.specs.declared.incoming.Incoming.{Incoming}
use Rattle.dcsctp_api.specs.spec.queues.IncomingStreams.{StreamModel}
use Rattle.dcsctp_receive_reassembly.specs.Streams.{stream_model}
use Rattle.dcsctp_api.specs.spec.queues.Incoming.{IncomingModel, held_used}

abbrev pub entry_of : ℕ × Stream → ℕ × StreamModel
entry_of entry = (entry.0, stream_model entry.1)

abbrev pub incoming_of : Incoming → IncomingModel
incoming_of incoming =
    record {
      messages_received = incoming.messages_received;
      ready = map message_content incoming.ready.items;
      streams = map entry_of incoming.streams.entries;
      unordered = incoming.unordered;
      last_tsn_number = incoming.last_tsn_number;
    }

-- The count of what is used changes as that does.
abbrev pub Balances : ℕ → Incoming → Incoming → Type 0
Balances overhead old new =
    held_used overhead (incoming_of old) ≤ old.used
    → new.used + held_used overhead (incoming_of old) ≡ old.used + held_used overhead (incoming_of new)
