use Rattle.std.proofs.Common.{rules}
use Rattle.dcsctp_c.proofs.ExportLemmas.{begun_goes}
use Rattle.dcsctp_c.proofs.channels.dcsctp_channel_begin.Goals as goal

pub returns : goal.returns
returns c = begun_goes c.args.limits.now c.begin.result c.begin.new.self c.held.ensures.value c.begin.ensures (search rules)
