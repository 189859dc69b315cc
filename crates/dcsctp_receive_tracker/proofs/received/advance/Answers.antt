-- The first range that is left begins too late.
use Rattle.std.proofs.Common.{◌≡◌, Option, Some, ◌∙◌, ap, arith}
use Rattle.std.specs.Prelude.{slice_get}
use Rattle.std.specs.Option.{option_map}
use Rattle.dcsctp_receive_ordered_map.proofs.EntryLemmas.{get-map}
use Rattle.dcsctp_receive_tracker.specs.Received.{range_of, ranges_of}
use Rattle.dcsctp_receive_tracker.proofs.ReceivedLemmas.{beyond_first}
use Rattle.dcsctp_receive_tracker.proofs.received.advance.Goals as goal

pub returns-then-saturating_sub-gt1 : goal.returns-then-saturating_sub-gt1
returns-then-saturating_sub-gt1 c =
    let first : slice_get (ranges_of c.loop-first.ranges) 0 ≡ Some (range_of (c.in-Some.first.now, c.in-Some.last.now)) =
    get-map range_of 0 c.loop-first.ranges.entries ∙ ap (λ (found : Option (_ × _)). option_map range_of found) c.in-Some.ensures.first in
    record {
      forward = c.loop-first.invariant.forward;
      beyond = beyond_first c.loop-first.reached (ranges_of c.loop-first.ranges) (range_of (c.in-Some.first.now, c.in-Some.last.now)) first (omega arith) c.loop-first.invariant.spaced;
      members = c.loop-first.invariant.members;
    }
