-- Outside examples of specs/queues/QueuedParts: two messages wait on stream 1, of which three bytes of the first were sent.
use Rattle.std.proofs.Common.{◌≡◌, ℕ, true, false, None, Some, [], ◌∷◌, refl}
use Rattle.dcsctp_types.specs.declared.sending.Pause.TheVariants.{Open}
use Rattle.dcsctp_types.specs.Snapshot.{empty_send_part}
use Rattle.dcsctp_spec.specs.queues.QueuedParts.{part_with_queue, queue_restored}
use Rattle.dcsctp_spec.specs.queues.SendQueue.{SendQueueState}
use Rattle.dcsctp_types.specs.queues.SendStreams.{Stream, Waiting}

abbrev first : Waiting
first = record { message_id = 7; ppid = 51; is_unordered = false; payload = 1 ∷ 2 ∷ 3 ∷ 4 ∷ []; max_retransmissions = None; expires_at = Some 2000000; lifecycle = Some 9 }

abbrev second : Waiting
second = record { message_id = 8; ppid = 53; is_unordered = true; payload = 5 ∷ []; max_retransmissions = Some 3; expires_at = None; lifecycle = None }

abbrev stream : Stream
stream =
    record {
      id = 1;
      priority = 256;
      threshold = 0;
      amount = 2;
      next_ssn = 6;
      next_mid = 0;
      next_unordered_mid = 0;
      last_turn = 0;
      turn_bytes = 0;
      pause = Open;
      under_way = Some (record { stream_id = record { 0 = 1 }; ssn = 5; mid = 0; next_fsn = 2; sent = 3 });
      messages = first ∷ second ∷ [];
    }

abbrev queue : SendQueueState
queue =
    record {
      streams = stream ∷ [];
      held = Some (record { 0 = 1 });
      total_amount = 2;
      total_threshold = 100;
      default_priority = 256;
      default_threshold = 0;
      is_interleaved = false;
      next_message_id = 9;
      takes_turns = false;
      turns_taken = 0;
      turn_size = 1156;
      window = 2000;
      -- the three bytes in two parts that were sent, twice the last byte, and twice 256
      reserved = 1029;
    }

-- the queue of another socket
abbrev other : SendQueueState
other = record queue { streams = []; held = None; total_amount = 0; next_message_id = 0; reserved = 0 }

-- It comes back whole, at the moment at which it was given.
comes_back : queue_restored 0 (part_with_queue 0 true queue empty_send_part) other ≡ queue
comes_back = refl

-- Without messages the numbers come back.
numbers_come_back : queue_restored 0 (part_with_queue 0 false queue empty_send_part) other
    ≡ record queue { streams = record stream { amount = 0; under_way = None; messages = [] } ∷ []; held = None; total_amount = 0; reserved = 0 }
numbers_come_back = refl

-- ---- messages of two streams are under way

-- without a lifetime, so that it may be interleaved
abbrev third : Waiting
third = record first { message_id = 10; expires_at = None; lifecycle = None }

-- The next number of each kind is 1.
abbrev going : ℕ → Stream
going id =
    record stream {
      id = id;
      amount = 3;
      next_ssn = 0;
      next_mid = 1;
      under_way = Some (record { stream_id = record { 0 = id }; ssn = 0; mid = 0; next_fsn = 1; sent = 1 });
      messages = third ∷ [];
    }

abbrev both_going : SendQueueState
both_going = record queue { streams = going 1 ∷ going 4 ∷ []; held = None; total_amount = 6; is_interleaved = true; takes_turns = true; reserved = 1550 }

abbrev taker : SendQueueState
taker = record both_going { streams = []; total_amount = 0; next_message_id = 0; reserved = 0 }

-- Both go on where they were.
both_come_back : queue_restored 0 (part_with_queue 0 true both_going empty_send_part) taker ≡ both_going
both_come_back = refl

-- By the port's rules, too: the first goes to its end before the other.
both_come_back_by_port : queue_restored 0 (part_with_queue 0 true both_going empty_send_part) (record taker { takes_turns = false })
    ≡ record both_going { held = Some (record { 0 = 1 }); takes_turns = false }
both_come_back_by_port = refl
