use Rattle.std.proofs.Common.{◌≡◌, take}
use Rattle.dcsctp_script_lines.specs.Bytes.{text_without_spaces}
use Rattle.dcsctp_script_lines.proofs.bytes.without_spaces.Given as goal

abbrev pub invariant-loop-byte : goal.invariant-loop-byte
invariant-loop-byte l = l.digits.items ≡ text_without_spaces (take l.byte-index l.text)
