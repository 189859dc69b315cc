-- A packet that is being built (RFC 9260, section 3.1).
use Rattle.std.specs.Prelude.{◌≡◌, ◌≤◌, ℕ, ◌-◌, Bool, List, ◌++◌, length, drop}
use Rattle.dcsctp_wire.specs.Spelling.{zeros}

-- a header, and the chunks that were added
pub record Building : Type 0 where
  pub source_port : ℕ
  pub destination_port : ℕ
  pub verification_tag : ℕ
  -- how many bytes the packet may have
  pub size : ℕ
  -- is the checksum written, or 0 in its place?
  pub with_checksum : Bool
  -- the bytes of the chunks
  pub body : List ℕ

-- how many bytes chunks may still have, with their padding
abbrev pub bytes_remaining : Building → ℕ
bytes_remaining building = building.size - 12 - length building.body

-- The bytes begin with this header, without a checksum, and there is room for the whole packet.
pub record HasRoom (header bytes : List ℕ) (size capacity : ℕ) : Type 0 where
  pub front : bytes ≡ header ++ zeros 4 ++ drop 12 bytes
  pub long_enough : 12 ≤ length bytes
  pub within : length bytes ≤ size
  pub fits : size ≤ 65535
  pub allocated : size ≤ capacity
