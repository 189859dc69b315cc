-- What the handler of SACK does, as turns of a socket's view (RFC 9260, sections 6.2.1 and 7.2.4).
use Rattle.std.specs.Prelude.{◌≡◌, true, Option, Some, Result, List, [], is_some}
use Rattle.rand_core.specs.Stream.{Stream}
use Rattle.dcsctp_core.specs.wire.Content.{SackContent}
use Rattle.dcsctp_core.specs.types.declared.association.Held.{Held}
use Rattle.dcsctp_core.specs.spec.queues.Transfer.{Transfer}
use Rattle.dcsctp_core.specs.spec.queues.Retransmission.{has_fast_retransmit}
use Rattle.dcsctp_core.specs.spec.endpoint.Endpoint.{Endpoint, held_by_core}
use Rattle.dcsctp_core.specs.spec.endpoint.Outcome.{Outcome, still, behind}
use Rattle.dcsctp_core.specs.spec.endpoint.FlushOutcomes.{Answer, draft_to, flush_of, FlushAnswers}
use Rattle.dcsctp_core.specs.spec.endpoint.DataOutcomes.{SackTurn, FastRetransmits}
use Rattle.dcsctp_core.specs.spec.endpoint.ShutdownOutcomes.{step_outcome}
use Rattle.dcsctp_core.specs.declared.context.Context.{Context}
use Rattle.dcsctp_core.specs.View.{View, transfer_of}
use Rattle.dcsctp_core.specs.Handling.{TakesOne}

-- This SACK was received.
abbrev pub ReceivesSack : {R : Type 0} → SackContent → View R → Outcome → Type 0
ReceivesSack sack view o = SackTurn view.endpoint view.endpoint.queues.transfer sack o

-- What was lost is sent at once, if it is to, and then what waits.
pub record ResendsThenFlushes (e : Endpoint) (held : Held) (transfer : Transfer) (o : Outcome) : Type 0 where
  pub fast : Outcome
  pub resends : FastRetransmits (has_fast_retransmit transfer.retransmission) e held transfer fast
  pub answers : List Answer
  pub allowed : FlushAnswers fast.after (draft_to held) answers
  pub is : o ≡ behind [] fast.events (flush_of fast.after (draft_to held) answers)

abbrev pub Resends : Endpoint → Option Held → Option Transfer → Outcome → Type 0
Resends e (Some held) (Some transfer) o = ResendsThenFlushes e held transfer o
Resends e held transfer o = o ≡ still e

abbrev pub ResendsLost : {R : Type 0} → View R → Outcome → Type 0
ResendsLost view o = Resends view.endpoint (held_by_core view.endpoint.core) view.endpoint.queues.transfer o

-- A shutdown under way continues first.
pub record ProceedsThenResends (e : Endpoint) (held : Held) (transfer : Transfer) (o : Outcome) : Type 0 where
  pub later : Outcome
  pub resends : ResendsThenFlushes (step_outcome e e.core).after held transfer later
  pub is : o ≡ behind [] (step_outcome e e.core).events later

abbrev pub Proceeds : Endpoint → Option Held → Option Transfer → Outcome → Type 0
Proceeds e (Some held) (Some transfer) o = ProceedsThenResends e held transfer o
Proceeds e held transfer o = o ≡ still e

abbrev pub ProceedsWithShutdown : {R : Type 0} → View R → Outcome → Type 0
ProceedsWithShutdown view o = Proceeds view.endpoint (held_by_core view.endpoint.core) view.endpoint.queues.transfer o

-- That is so if the peer is known.
abbrev pub ProceedsWhereHeld : {R E : Type 0} → (R → Stream) → Context R → Result (Unit {0}) E → Context R → Type 0
ProceedsWhereHeld stream old result new = is_some (transfer_of old.state) ≡ true → TakesOne stream ProceedsWithShutdown old result new

abbrev pub ResendsWhereHeld : {R E : Type 0} → (R → Stream) → Context R → Result (Unit {0}) E → Context R → Type 0
ResendsWhereHeld stream old result new = is_some (transfer_of old.state) ≡ true → TakesOne stream ResendsLost old result new
