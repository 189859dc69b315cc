use Rattle.std.proofs.Common.{◌≡◌, map, drop}
use Rattle.std.specs.List.{list_any}
use Rattle.dcsctp_core.specs.wire.Content.{cause_content}
use Rattle.dcsctp_core.specs.spec.endpoint.Cause.{is_stale_cookie}
use Rattle.dcsctp_core_ends.proofs.error.has_stale_cookie.Given as goal

-- what is left says what all say
abbrev pub invariant-loop-cause : goal.invariant-loop-cause
invariant-loop-cause l = list_any is_stale_cookie (map cause_content (drop l.cause-index l.causes)) ≡ list_any is_stale_cookie (map cause_content l.causes)
