-- Why an association is aborted, or what was wrong with a packet: error causes (RFC 9260, section 3.3.10).
use Rattle.std.specs.Prelude.{◌==◌, ℕ, Bool, false, List, [], ◌∷◌, codes}
use Rattle.std.specs.List.{flat_map, list_any}
use Rattle.std.specs.Int.{w16, to_be_bytes}
use Rattle.dcsctp_types.specs.wire.Content.{CauseContent}
use Rattle.dcsctp_types.specs.wire.Content as wire
use Rattle.dcsctp_types.specs.declared.ends.Violation.{Violation}
use Rattle.dcsctp_types.specs.declared.ends.Violation.TheVariants.{DataWithInterleaving, InterleavedDataWithout, ForwardTsnWithout}
use Rattle.dcsctp_types.specs.declared.ends.AbortReason.{AbortReason}
use Rattle.dcsctp_types.specs.declared.ends.AbortReason.TheVariants as reasons

abbrev pub Cause : Type 0
Cause = CauseContent

-- Missing Mandatory Parameter (RFC 9260, section 3.3.10.2): the types of the parameters
abbrev pub missing_mandatory_parameter : List ℕ → Cause
missing_mandatory_parameter types = wire.missing_mandatory_parameter (flat_map (to_be_bytes w16) types)

-- Cookie Received While Shutting Down (RFC 9260, section 3.3.10.10)
abbrev pub cookie_received_while_shutting_down : Cause
cookie_received_while_shutting_down = wire.cookie_received_while_shutting_down

-- User-Initiated Abort (RFC 9260, section 3.3.10.12): a text
abbrev pub user_initiated_abort : List ℕ → Cause
user_initiated_abort text = wire.user_initiated_abort text

-- Protocol Violation (RFC 9260, section 3.3.10.13): a text
abbrev pub protocol_violation : List ℕ → Cause
protocol_violation text = wire.protocol_violation text

-- Stale Cookie (RFC 9260, section 3.3.10.3)
abbrev pub stale_cookie_code : ℕ
stale_cookie_code = 3

-- It doesn't say for how long the cookie has been stale.
abbrev pub stale_cookie : Cause
stale_cookie = wire.unknown_cause stale_cookie_code (0 ∷ 0 ∷ 0 ∷ 0 ∷ [])

abbrev pub is_stale_cookie : Cause → Bool
is_stale_cookie (wire.unknown_cause code value) = code == stale_cookie_code
is_stale_cookie cause = false

-- Does the peer say that the cookie which it got was too old?
abbrev pub has_stale_cookie : List Cause → Bool
has_stale_cookie causes = list_any is_stale_cookie causes

-- ---- why a socket aborts its association

-- what was broken
abbrev pub violation_text : Violation → List ℕ
violation_text DataWithInterleaving = codes "DATA/FORWARD-TSN chunk received when message interleaving is negotiated"
violation_text InterleavedDataWithout = codes "I-DATA/I-FORWARD-TSN chunk received when message interleaving is not negotiated"
violation_text ForwardTsnWithout = codes "FORWARD-TSN/I-FORWARD-TSN chunk received when partial reliability is not negotiated"

-- its text, for the peer and for the event that ends the association
abbrev pub reason_text : AbortReason → List ℕ
reason_text reasons.CloseCalled = codes "Close called"
reason_text (reasons.Violation violation) = violation_text violation
reason_text reasons.TooManyErrors = codes "Too many retransmissions"

-- the causes in the ABORT that the peer gets
abbrev pub causes_of : AbortReason → List Cause
causes_of reasons.CloseCalled = user_initiated_abort (reason_text reasons.CloseCalled) ∷ []
causes_of (reasons.Violation violation) = protocol_violation (reason_text (reasons.Violation violation)) ∷ []
causes_of reasons.TooManyErrors = user_initiated_abort (reason_text reasons.TooManyErrors) ∷ []
