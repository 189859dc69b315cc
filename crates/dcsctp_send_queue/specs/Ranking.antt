-- Whose turn it is among streams.
use Rattle.std.specs.Prelude.{◌≡◌, ℕ, ◌<◌, ◌≤◌, Result, Ok, Err, List, length}
use Rattle.std.specs.List.{AllByRecursion}
use Rattle.dcsctp_api.specs.types.declared.sending.Turn.{Turn}
use Rattle.dcsctp_api.specs.types.queues.SendStreams.{Stream, IsAscending, turns_of, stream_at}
use Rattle.dcsctp_api.specs.spec.queues.SendQueue.{HaveBytes, CanGoOn}
use Rattle.dcsctp_send_queue.specs.declared.paused.PausedIds.{PausedIds}
use Rattle.dcsctp_send_queue.specs.Pausing.{ArePaused}

-- These are the streams and their turns, and there is room for one turn of each.
pub record IsRanked (streams : List Stream) (turns : List Turn) (room : ℕ) : Type 0 where
  pub ascending : IsAscending streams
  pub are : turns ≡ turns_of streams
  pub has_room : length streams ≤ room

-- These are kept beside the streams: their turns, with room, and which of them are paused. Each message has bytes, and each
-- one under way can continue.
pub record AreStreamsKept (streams : List Stream) (turns : List Turn) (room : ℕ) (ids : PausedIds) : Type 0 where
  pub ranked : IsRanked streams turns room
  pub paused : ArePaused streams ids
  pub bytes : AllByRecursion HaveBytes streams
  pub can : AllByRecursion CanGoOn streams

-- what a search for this number finds: its place, or the place at which it would be
abbrev pub IsFound : List Stream → ℕ → Result ℕ ℕ → Type 0
IsFound streams id (Ok place) = (place < length streams) × ((stream_at streams place).id ≡ id)
IsFound streams id (Err place) =
    (place ≤ length streams)
    × ((k : ℕ) → k < place → (stream_at streams k).id < id)
    × ((k : ℕ) → place ≤ k → k < length streams → id < (stream_at streams k).id)
