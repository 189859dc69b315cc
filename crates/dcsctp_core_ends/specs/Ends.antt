-- What the handlers of ends and of ERROR do, as turns of a socket's view (RFC 9260, sections 3.3.10 and 9.1).
use Rattle.std.specs.Prelude.{Option, None, List}
use Rattle.dcsctp_core.specs.types.declared.ends.Violation.{Violation}
use Rattle.dcsctp_core.specs.types.declared.ends.AbortReason.{AbortReason}
use Rattle.dcsctp_core.specs.spec.endpoint.Cause.{Cause}
use Rattle.dcsctp_core.specs.spec.endpoint.Outcome.{Outcome}
use Rattle.dcsctp_core.specs.spec.endpoint.EndOutcomes.{abort_outcome, abort_sent, aborting_outcome}
use Rattle.dcsctp_core.specs.spec.endpoint.PlainOutcomes.{violation_by_core, error_outcome}
use Rattle.dcsctp_core.specs.spec.Packet.{Content, plain}
use Rattle.dcsctp_core.specs.spec.endpoint.Endpoint.{Core}
use Rattle.dcsctp_core.specs.View.{View}

-- An ABORT with these causes was received.
abbrev pub abort_turn : {R : Type 0} → List Cause → View R → Outcome
abort_turn causes view = abort_outcome view.endpoint causes view.endpoint.core

-- An ERROR with these causes was received.
abbrev pub error_turn : {R : Type 0} → List Cause → View R → Outcome
error_turn causes view = error_outcome view.endpoint view.endpoint.core causes

-- ABORT is sent, if the peer is known.
abbrev pub abort_sent_turn : {R : Type 0} → AbortReason → View R → Outcome
abort_sent_turn reason view = abort_sent view.endpoint view.endpoint.core reason

-- Our end aborts the association.
abbrev pub aborting_turn : {R : Type 0} → AbortReason → View R → Outcome
aborting_turn reason view = aborting_outcome view.endpoint view.endpoint.core reason

-- how a chunk breaks what was negotiated
abbrev pub violation_of_content : Core → Content → Option Violation
violation_of_content core (plain chunk) = violation_by_core core chunk
violation_of_content core content = None
