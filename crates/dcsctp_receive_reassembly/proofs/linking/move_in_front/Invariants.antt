use Rattle.std.proofs.Common.{◌≡◌, ◌≤◌, ◌+◌, ◌++◌, length}
use Rattle.std.specs.VecDeque.{deque_capacity}
use Rattle.dcsctp_receive_reassembly.proofs.linking.move_in_front.Given as goal

abbrev pub invariant-loop-payload : goal.invariant-loop-payload
invariant-loop-payload l =
    (l.front.items ++ l.others.items ≡ l.initial.front.items ++ l.initial.others.items)
    × (length l.front.items + length l.others.items ≤ deque_capacity l.others)

abbrev pub decreases-loop-payload : goal.decreases-loop-payload
decreases-loop-payload l = length l.front.items
