-- The stream that is made is as one that isn't there.
use Rattle.std.proofs.Common.{◌∙◌, sym}
use Rattle.std.specs.BTreeMap.{get}
use Rattle.std.specs.Ordering.{nat_cmp}
use Rattle.dcsctp_receive_reassembly.proofs.ReassemblyLemmas.{stream_on-made, none_from}
use Rattle.dcsctp_receive_reassembly.proofs.StreamSums.{streams_used-made, made_kept}
use Rattle.dcsctp_receive_reassembly.proofs.incoming.make_stream.Goals as goal

pub returns-in_ok-insert-clause-streams : goal.returns-in_ok-insert-clause-streams
returns-in_ok-insert-clause-streams c =
    λ id. stream_on-made c.args.id.0 id c.args.streams.now c.insert.new.self c.new.result c.in_ok-insert.ensures.updates
    (none_from (get nat_cmp c.args.streams.now c.args.id.0) (sym c.contains_key.ensures ∙ c.if-not-contains_key.true)) c.new.ensures

pub returns-in_ok-insert-clause-used : goal.returns-in_ok-insert-clause-used
returns-in_ok-insert-clause-used c =
    λ overhead. streams_used-made overhead c.args.id.0 c.args.streams.now c.insert.new.self c.new.result c.in_ok-insert.ensures.entries c.insert.ensures.was_ordered
    (none_from (get nat_cmp c.args.streams.now c.args.id.0) (sym c.contains_key.ensures ∙ c.if-not-contains_key.true)) c.new.ensures

pub returns-in_ok-insert-clause-kept : goal.returns-in_ok-insert-clause-kept
returns-in_ok-insert-clause-kept c = made_kept c.args.id.0 c.args.streams.now c.insert.new.self c.new.result c.in_ok-insert.ensures.updates
