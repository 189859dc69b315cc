use Rattle.std.proofs.Common.{◌≡◌, ◌+◌, ◌≤◌, drop, length, take}
use Rattle.dcsctp_core.specs.Listing.{besides, BeginsAfter}
use Rattle.dcsctp_core.proofs.deadlines.make_room.Given as goal

-- The others are as they were, those in front of the room haven't moved, and the first after it is after the new entry.
abbrev pub invariant-loop-place : goal.invariant-loop-place
invariant-loop-place l =
    (length l.entries ≡ 7) × (l.place ≤ l.count) × (besides l.place (l.count + 1) l.entries ≡ take l.count l.fn.entries) × (take l.place l.entries ≡ take l.place l.fn.entries)
    × BeginsAfter l.new (drop (l.place + 1) (take (l.count + 1) l.entries))

abbrev pub decreases-loop-place : goal.decreases-loop-place
decreases-loop-place l = l.place
