-- What T1 brings, as turns of a socket's view.
use Rattle.std.specs.Prelude.{◌≡◌, ℕ, List}
use Rattle.dcsctp_core.specs.types.declared.kinds.ErrorKind.TheVariants.{TooManyRetries}
use Rattle.dcsctp_core.specs.spec.endpoint.Event.{aborted}
use Rattle.dcsctp_core.specs.spec.endpoint.Outcome.{Outcome}
use Rattle.dcsctp_core.specs.spec.endpoint.EndOutcomes.{close_outcome}
use Rattle.dcsctp_core.specs.spec.endpoint.FlushOutcomes.{Answer, flush_answered}
use Rattle.dcsctp_core.specs.spec.endpoint.TimerOutcomes.{send_again_with_flush, AgainAnswers, t1_gives_up_outcome}
use Rattle.dcsctp_core.specs.View.{View}

-- The packet that isn't answered is sent again.
abbrev pub RepeatsHandshakePacket : {R : Type 0} → View R → Outcome → Type 0
RepeatsHandshakePacket view o =
    (answers : List Answer) × AgainAnswers view.endpoint view.endpoint.core answers × (o ≡ send_again_with_flush (flush_answered answers) view.endpoint view.endpoint.core)

-- The association ends since no answer came, with this text.
abbrev pub abandon_turn : {R : Type 0} → List ℕ → View R → Outcome
abandon_turn text view = close_outcome view.endpoint view.endpoint.core (aborted TooManyRetries text)

abbrev pub give_up_turn : {R : Type 0} → View R → Outcome
give_up_turn view = t1_gives_up_outcome view.endpoint view.endpoint.core
