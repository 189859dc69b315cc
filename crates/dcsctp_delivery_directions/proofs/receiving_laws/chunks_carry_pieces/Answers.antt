use Rattle.dcsctp_delivery_directions.proofs.receiving.Arriving.{carries_piece, carries_interleaved}
use Rattle.dcsctp_delivery_directions.proofs.receiving.Entries.{forward_skips, messages_skipped}
use Rattle.dcsctp_delivery_directions.proofs.receiving_laws.chunks_carry_pieces.Goals as goal

pub returns-clause-data : goal.returns-clause-data
returns-clause-data c = carries_piece

pub returns-clause-interleaved : goal.returns-clause-interleaved
returns-clause-interleaved c = carries_interleaved

pub returns-clause-forward : goal.returns-clause-forward
returns-clause-forward c = forward_skips

pub returns-clause-forward_interleaved : goal.returns-clause-forward_interleaved
returns-clause-forward_interleaved c = messages_skipped
