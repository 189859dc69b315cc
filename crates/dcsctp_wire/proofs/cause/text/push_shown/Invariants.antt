use Rattle.std.proofs.Common.{◌≡◌, ◌++◌, map, take, string_bytes}
use Rattle.dcsctp_wire.specs.Texts.{shown_byte}
use Rattle.dcsctp_wire.proofs.cause.text.push_shown.Given as goal

abbrev pub invariant-loop-byte : goal.invariant-loop-byte
invariant-loop-byte l = string_bytes l.text ≡ string_bytes l.fn.text ++ map shown_byte (take l.byte-index l.value)
