-- Streams that a table of bits names.
use Rattle.std.specs.Prelude.{◌==◌, ℕ, ◌/◌, ◌%◌, Bool, get_or}
use Rattle.std.specs.Int.{bit_at}
use Rattle.dcsctp_types.specs.declared.stream_table.StreamTable.{StreamTable}

-- Is the bit of the number set? Each word has the bits of 64 numbers.
abbrev pub marks : StreamTable → ℕ → Bool
marks table number = bit_at (get_or table.words (number / 64) 0) (number % 64) == 1
