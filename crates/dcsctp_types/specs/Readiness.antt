-- Why a socket can't be handed over to another process. The reasons are the bits of one number; some bits have
-- no name.
use Rattle.std.specs.Prelude.{◌==◌, ℕ, Bool, true, false, not, List, [], ◌∷◌, filter, codes, bit_and}
use Rattle.std.specs.List.{join_by}
use Rattle.std.specs.Borrow.{Bor}
use Rattle.dcsctp_types.specs.declared.handover.HandoverReadiness.{HandoverReadiness}

-- ---- the reasons

abbrev pub wrong_connection_state : ℕ
wrong_connection_state = 1

abbrev pub send_queue_not_empty : ℕ
send_queue_not_empty = 2

abbrev pub pending_stream_reset_request : ℕ
pending_stream_reset_request = 4

abbrev pub data_tracker_tsn_blocks_pending : ℕ
data_tracker_tsn_blocks_pending = 8

abbrev pub pending_stream_reset : ℕ
pending_stream_reset = 16

abbrev pub stream_reset_deferred : ℕ
stream_reset_deferred = 64

abbrev pub stream_has_unassembled_chunks : ℕ
stream_has_unassembled_chunks = 128

abbrev pub retransmission_queue_outstanding_data : ℕ
retransmission_queue_outstanding_data = 512

abbrev pub retransmission_queue_fast_recovery : ℕ
retransmission_queue_fast_recovery = 1024

abbrev pub retransmission_queue_not_empty : ℕ
retransmission_queue_not_empty = 2048

-- ---- some of them

-- Does the number have one of these reasons?
abbrev pub has_reason : ℕ → ℕ → Bool
has_reason bits reasons = not (bit_and bits reasons == 0)

-- each reason with its name, by bits
abbrev pub named_reasons : List (ℕ × List ℕ)
named_reasons =
    (wrong_connection_state, codes "wrong_connection_state")
    ∷ (send_queue_not_empty, codes "send_queue_not_empty")
    ∷ (pending_stream_reset_request, codes "pending_stream_reset_request")
    ∷ (data_tracker_tsn_blocks_pending, codes "data_tracker_tsn_blocks_pending")
    ∷ (pending_stream_reset, codes "pending_stream_reset")
    ∷ (stream_reset_deferred, codes "stream_reset_deferred")
    ∷ (stream_has_unassembled_chunks, codes "stream_has_unassembled_chunks")
    ∷ (retransmission_queue_outstanding_data, codes "retransmission_queue_outstanding_data")
    ∷ (retransmission_queue_fast_recovery, codes "retransmission_queue_fast_recovery")
    ∷ (retransmission_queue_not_empty, codes "retransmission_queue_not_empty")
    ∷ []

-- those of some reasons that a number has, in their order
abbrev pub reasons_of_bits : ℕ → List (ℕ × List ℕ) → List (ℕ × List ℕ)
reasons_of_bits bits reasons = filter (λ (reason : ℕ × List ℕ). has_reason bits reason.0) reasons

-- the names of reasons, joined by commas
abbrev pub names_of : List (ℕ × List ℕ) → List ℕ
names_of reasons = join_by (λ (reason : ℕ × List ℕ). reason.1) (codes ",") reasons

-- the names of a number's reasons, by bits; `Display` and `Debug` write them
abbrev pub readiness_text : ℕ → List ℕ
readiness_text bits = names_of (reasons_of_bits bits named_reasons)

-- the reason where it holds, and no reason elsewhere
abbrev pub reason_if_true : Bool → ℕ → ℕ
reason_if_true true reason = reason
reason_if_true false reason = 0

-- a row of the code's table
abbrev pub row_of : HandoverReadiness × Bor (List ℕ) → ℕ × List ℕ
row_of row = (row.0.0, row.1.now)
