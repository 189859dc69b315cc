-- Each word is 0.
use Rattle.dcsctp_types.proofs.StreamTableLemmas.{blank}
use Rattle.dcsctp_types.proofs.stream_table.StreamTable.new.Goals as goal

pub returns : goal.returns
returns c = λ number. blank 1024 number
