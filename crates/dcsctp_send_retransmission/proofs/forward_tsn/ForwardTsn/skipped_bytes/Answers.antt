use Rattle.std.proofs.Common.{rules}
use Rattle.dcsctp_send_retransmission.proofs.SkippedLemmas.{reads_as}
use Rattle.dcsctp_send_retransmission.proofs.forward_tsn.ForwardTsn.skipped_bytes.Goals as goal

pub returns-in-Streams-clause-reads : goal.returns-in-Streams-clause-reads
returns-in-Streams-clause-reads c = reads_as c.streams_bytes.result c.args.self.now.skipped (search rules)

pub returns-in-Messages-clause-reads : goal.returns-in-Messages-clause-reads
returns-in-Messages-clause-reads c = reads_as c.all_messages_bytes.result c.args.self.now.skipped (search rules)
