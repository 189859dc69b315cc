use Rattle.dcsctp_wire.proofs.Lengths.{chunk_is_padded, list_size, length-parameter_bytes, length-other_bytes}
use Rattle.dcsctp_wire.proofs.size.sizes.Goals as goal

pub returns : goal.returns
returns c = record {
  multiple_of_4 = chunk_is_padded;
  parameter = length-parameter_bytes;
  list = list_size;
  other = length-other_bytes;
}
