use Rattle.std.proofs.Common.{◌≡◌, take, map}
use Rattle.std.specs.Fmt.{HasWritten, IsPlainFormatter}
use Rattle.dcsctp_types.specs.Readiness.{reasons_of_bits, names_of, row_of}
use Rattle.dcsctp_types.proofs.ReadinessLemmas.{separator_after}
use Rattle.dcsctp_types.proofs.handover.HandoverReadiness.write_names.Given as goal

-- the names of the rows so far are written, and the separator is what comes before the next one
abbrev pub invariant-loop-reason : goal.invariant-loop-reason
invariant-loop-reason g l =
    let reasons = reasons_of_bits l.self.0 (map row_of (take l.reason-index l.rows)) in
    (l.separator ≡ separator_after reasons) × (IsPlainFormatter l.initial.f → HasWritten g.W.Write.write_str_gives l.initial.f (names_of reasons) l.f)
