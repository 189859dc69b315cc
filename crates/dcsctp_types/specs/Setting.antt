-- What the user sets on a socket, and no packet reports to the peer.
use Rattle.std.specs.Prelude.{ℕ}

pub data Setting : Type 0 where
  -- the priority of a stream
  stream_priority : ℕ → ℕ → Setting
  -- the buffered amount at which a stream is reported as low
  stream_low_threshold : ℕ → ℕ → Setting
  -- how long a message may be
  longest_message : ℕ → Setting
