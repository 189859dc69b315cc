use Rattle.std.proofs.Common.{sym, subst}
use Rattle.std.specs.List.Sorted.{IsStrictlySortedBy}
use Rattle.std.specs.Ordering.{nat_cmp}
use Rattle.std.proofs.lemmas.Map.Made.{keys_of-map_values}
use Rattle.dcsctp_receive_reassembly.specs.Streams.{stream_model}
use Rattle.dcsctp_receive_reassembly.proofs.incoming.any_holds_parts.Goals as goal

pub returns-then-holds_parts-clause-order : goal.returns-then-holds_parts-clause-order
returns-then-holds_parts-clause-order c =
    subst (IsStrictlySortedBy nat_cmp) (sym (keys_of-map_values stream_model c.args.streams.now.entries)) c.iter-stream-items.ensures.ordered

pub returns-clause-order : goal.returns-clause-order
returns-clause-order c =
    subst (IsStrictlySortedBy nat_cmp) (sym (keys_of-map_values stream_model c.args.streams.now.entries)) c.iter-stream-items.ensures.ordered
