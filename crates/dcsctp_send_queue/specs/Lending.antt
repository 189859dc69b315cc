-- A stream of a list is lent to be changed in place.
use Rattle.std.specs.Prelude.{ℕ, List, slice_set}
use Rattle.std.specs.Borrow.{Lends, MutBor, Fml}
use Rattle.dcsctp_api.specs.types.queues.SendStreams.{Stream}
use Rattle.dcsctp_send_queue.specs.contracts.stream.OutgoingStream as streams
use Rattle.dcsctp_send_queue.specs.contracts.stream_list.StreamList as lists

-- The list ends with the stream at the place as the borrower leaves it.
abbrev pub LendsStream : MutBor (List Stream) → ℕ → MutBor Stream → Fml
LendsStream list place result = Lends lists.the_row streams.the_row list result (λ left. slice_set list.now place left)
