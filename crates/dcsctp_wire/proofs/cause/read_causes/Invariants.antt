use Rattle.std.proofs.Common.{List, ◌++◌, length, map}
use Rattle.dcsctp_wire.specs.Content.{CauseContent, cause_content}
use Rattle.dcsctp_wire.specs.Format.{AreCauses}
use Rattle.dcsctp_wire.proofs.cause.read_causes.Given as goal

-- what was read, and then what is still to be read
abbrev pub invariant-loop-rest : goal.invariant-loop-rest
invariant-loop-rest l = record {
  found : (qs : List CauseContent) → AreCauses qs l.rest → AreCauses (map cause_content l.causes.items ++ qs) l.bytes;
  only : (ps : List CauseContent) → AreCauses ps l.bytes → (qs : List CauseContent) × AreCauses qs l.rest;
}

abbrev pub decreases-loop-rest : goal.decreases-loop-rest
decreases-loop-rest l = length l.rest
