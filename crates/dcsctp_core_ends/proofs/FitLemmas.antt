-- The chunks of a shutdown fit every packet.
use Rattle.std.proofs.Common.{◌≡◌, ◌≤◌, ◌+◌, ℕ, Bool, true, length, arith}
use Rattle.std.specs.Prelude.{nat_le}
use Rattle.std.proofs.lemmas.Bool.Decides.{nat_tests}
use Rattle.dcsctp_core.specs.wire.Content.{shutdown_chunk, shutdown_ack_chunk, shutdown_complete_chunk}
use Rattle.dcsctp_core.specs.wire.Spelling.{other_bytes, chunk_bytes}
use Rattle.dcsctp_core.specs.types.declared.options.Options.{Options}
use Rattle.dcsctp_core.specs.types.Settings.{packet_size_limit, IsValid}

pub shutdown_fits : (options : Options) (tsn : ℕ) → IsValid options → nat_le (12 + length (chunk_bytes (shutdown_chunk tsn))) (packet_size_limit options) ≡ true
unfolding other_bytes
shutdown_fits options tsn valid = let least : 32 ≤ packet_size_limit options = valid.least_size in grind (arith, nat_tests)

pub ack_fits : (options : Options) → IsValid options → nat_le (12 + length (chunk_bytes shutdown_ack_chunk)) (packet_size_limit options) ≡ true
unfolding other_bytes
ack_fits options valid = let least : 32 ≤ packet_size_limit options = valid.least_size in grind (arith, nat_tests)

pub complete_fits : (options : Options) (reflected : Bool) → IsValid options → nat_le (12 + length (chunk_bytes (shutdown_complete_chunk reflected))) (packet_size_limit options) ≡ true
unfolding other_bytes
complete_fits options reflected valid = let least : 32 ≤ packet_size_limit options = valid.least_size in grind (arith, nat_tests)
