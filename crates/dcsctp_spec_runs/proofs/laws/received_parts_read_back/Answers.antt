use Rattle.dcsctp_spec_runs.proofs.ReceivedPartLemmas.{tracker_reads_back, same_tsns_are_new, streams_read_back}
use Rattle.dcsctp_spec_runs.proofs.laws.received_parts_read_back.Goals as goal

pub returns : goal.returns
returns c = record { tracker = tracker_reads_back; tsns = same_tsns_are_new; streams = streams_read_back }
