-- The five are those of the definition.
use Rattle.std.proofs.Common.{rules}
use Rattle.dcsctp_wire_checksum.specs.Folds.{taps_of_place}
use Rattle.dcsctp_wire_checksum.proofs.taps.Goals as goal

pub returns : goal.returns
unfolding taps_of_place
returns c = search rules
