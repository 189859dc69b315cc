use Rattle.std.proofs.Common.{◌≡◌, ℕ, ◌+◌, ◌<◌, length, get_or, bit_xor}
use Rattle.dcsctp_wire_checksum.specs.Folds.{taps_of_place}
use Rattle.dcsctp_wire_checksum.proofs.after_piece.Given as goal

abbrev pub invariant-loop-n : goal.invariant-loop-n
invariant-loop-n l = record {
  long : length l.rest ≡ 224;
  left : (k : ℕ) → k < l.n → get_or l.rest k 0 ≡ bit_xor (get_or l.bytes (l.end + k) 0) (taps_of_place l.folded (l.end + k));
}
