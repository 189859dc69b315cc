-- Outside examples of what parts count in the receive window, worked out by hand and computed by the definitions.
use Rattle.std.proofs.Common.{◌≡◌, ℕ, zero, suc, Bool, true, false, Some, None, List, [], ◌∷◌, refl, if◌then◌else◌}
use Rattle.dcsctp_types.specs.declared.arrivals.Numbering.TheVariants.{Ordered}
use Rattle.dcsctp_types.specs.declared.options.Options.{Options}
use Rattle.dcsctp_types.specs.queues.Messages.{MessageContent}
use Rattle.dcsctp_spec.specs.endpoint.TransferMoves.{has_room}
use Rattle.dcsctp_spec.specs.queues.IncomingStreams.{StreamModel, new_stream}
use Rattle.dcsctp_spec.specs.queues.Reassembly.{ReassemblyState, WaitingModel, bytes_to_watermark, is_below_double, remaining_bytes, window_used}
use Rattle.dcsctp_spec.specs.queues.Runs.{RunModel}
use Rattle.dcsctp_spec.specs.queues.Transfer.{Transfer, advertised_window, part_overhead}

-- so many bytes
abbrev bytes : ℕ → List ℕ
bytes zero = []
bytes (suc more) = 1 ∷ bytes more

abbrev message : ℕ → MessageContent
message count = record { stream = 1; ppid = 53; payload = bytes count }

-- parts of a message of which neither the beginning nor the end came, at this place
abbrev run : ℕ → List (List ℕ) → RunModel
run first payloads = record { first = first; number = 3; ppid = 53; has_beginning = false; has_end = false; payloads = payloads }

abbrev waiting : ℕ → WaitingModel
waiting count =
    record {
      tsn = 20;
      chunk = record { stream = 2; numbering = Ordered 0; ppid = 53; payload = bytes count; is_beginning = true; is_end = true };
    }

-- On stream 1 a message of 3 bytes waits, and parts of 1 and 2 bytes and one of 4 bytes are held; so is one of 5 bytes of an
-- unordered message of DATA. A message of 6 bytes waits for the end of a deferred reset, and one of 7 bytes is ready.
abbrev stream : StreamModel
stream =
    record (new_stream 1) {
      waiting = record { number = 9; ppid = 53; payload = bytes 3 } ∷ [];
      ordered = run 7 (bytes 1 ∷ bytes 2 ∷ []) ∷ [];
      unordered = run 8 (bytes 4 ∷ []) ∷ [];
    }

abbrev queue : ℕ → ReassemblyState
queue overhead =
    record {
      incoming = record { messages_received = 1; ready = message 7 ∷ []; streams = (1, stream) ∷ []; unordered = run 15 (bytes 5 ∷ []) ∷ []; last_tsn_number = 1 };
      max_size = 2000;
      overhead = overhead;
      deferral = Some (record { last_tsn = 19; streams = 2 ∷ []; waiting = waiting 6 ∷ []; skips = None });
    }

-- 28 bytes, and six times 256: the message that is ready counts its bytes alone.
all_counted : window_used (queue 256) ≡ 1564
all_counted = refl

bytes_counted_by_port : window_used (queue 0) ≡ 28
bytes_counted_by_port = refl

left : remaining_bytes (queue 256) ≡ 436
left = refl

told : bytes_to_watermark (queue 256) ≡ 236
told = refl

-- Twice a window of 782 bytes is in use, one of 783 isn't.
no_more_than_double : is_below_double (record (queue 256) { max_size = 782 }) ≡ false
no_more_than_double = refl

below_double : is_below_double (record (queue 256) { max_size = 783 }) ≡ true
below_double = refl

-- ---- by the option

counts_parts : (options : Options) → part_overhead (record options { follow_rfc = true }) ≡ 256
counts_parts options = refl

counts_none_by_port : (options : Options) → part_overhead (record options { follow_rfc = false }) ≡ 0
counts_none_by_port options = refl

-- Parts of a byte each in a window of 1000 bytes: three use 771 of them, and four 1028.
abbrev parts_of_a_byte : ℕ → List (List ℕ)
parts_of_a_byte zero = []
parts_of_a_byte (suc more) = bytes 1 ∷ parts_of_a_byte more

abbrev holding : Bool → ℕ → Transfer → Transfer
holding follows count transfer =
    record transfer {
      tracker = record transfer.tracker { cumulative = 10; ranges = []; follows_rfc = follows };
      reassembly = record {
        incoming = record { messages_received = 0; ready = []; streams = []; unordered = run 15 (parts_of_a_byte count) ∷ []; last_tsn_number = 1 };
        max_size = 1000;
        overhead = if follows then 256 else 0;
        deferral = None;
      };
    }

room_beside_three : (transfer : Transfer) → has_room 14 (holding true 3 transfer) ≡ true
room_beside_three transfer = refl

no_room_beside_four : (transfer : Transfer) → has_room 14 (holding true 4 transfer) ≡ false
no_room_beside_four transfer = refl

room_beside_four_by_port : (transfer : Transfer) → has_room 14 (holding false 4 transfer) ≡ true
room_beside_four_by_port transfer = refl

-- A SACK says so: 900 - 771, and by the port 1000 - 3.
told_beside_three : (transfer : Transfer) → advertised_window (holding true 3 transfer) ≡ 129
told_beside_three transfer = refl

told_beside_three_by_port : (transfer : Transfer) → advertised_window (holding false 3 transfer) ≡ 997
told_beside_three_by_port transfer = refl
