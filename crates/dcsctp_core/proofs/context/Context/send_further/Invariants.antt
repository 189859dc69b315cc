use Rattle.std.proofs.Common.{◌≡◌, Some}
use Rattle.dcsctp_transfer.specs.types.declared.association.Held.{Held}
use Rattle.dcsctp_transfer.specs.spec.endpoint.Endpoint.{held_by_core}
use Rattle.dcsctp_core.specs.View.{core_of, view_of}
use Rattle.dcsctp_core.proofs.LoopLemmas.{Completes}
use Rattle.dcsctp_core.proofs.context.Context.send_further.Given as goal

abbrev pub invariant-loop-left : goal.invariant-loop-left
invariant-loop-left g l =
    (held : Held) → held_by_core (core_of l.fn.self.state) ≡ Some held → Completes g.R.Rng.stream held l.allowed (view_of l.fn.self) l.left (view_of l.self)

-- proposed from the loop's first test
abbrev pub decreases-loop-left : goal.decreases-loop-left
decreases-loop-left g l = l.left
