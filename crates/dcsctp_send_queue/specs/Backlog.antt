-- A send queue apart from memory.
use Rattle.dcsctp_api.specs.spec.queues.SendQueue.{SendQueueState, IsHeld}
use Rattle.dcsctp_send_queue.specs.declared.backlog.Backlog.{Backlog}

abbrev pub queue_of : Backlog → SendQueueState
queue_of backlog =
    record {
      streams = backlog.streams;
      held = backlog.held;
      total_amount = backlog.total_amount;
      total_threshold = backlog.total_threshold;
      default_priority = backlog.default_priority;
      default_threshold = backlog.default_threshold;
      is_interleaved = backlog.is_interleaved;
      next_message_id = backlog.next_message_id;
      takes_turns = backlog.takes_turns;
      turns_taken = backlog.turns_taken;
      turn_size = backlog.turn_size;
      window = backlog.window;
      reserved = backlog.reserved;
    }

-- A stream that is held has a message under way.
abbrev pub HasHeldStream : Backlog → Type 0
HasHeldStream backlog = IsHeld backlog.held backlog.streams
