-- What taking a message does, as a turn of a socket's view.
use Rattle.std.specs.Prelude.{◌≡◌, Option}
use Rattle.dcsctp_core.specs.types.declared.message.Message.{Message}
use Rattle.dcsctp_core.specs.spec.endpoint.Outcome.{Outcome}
use Rattle.dcsctp_core.specs.spec.endpoint.DataOutcomes.{TakeTurn}
use Rattle.dcsctp_core.specs.api.Messages.{IsFirstMessage, ready_messages}
use Rattle.dcsctp_core.specs.View.{View}

-- The first message that is ready is taken, if one is, and no event is added.
pub record TakesNextOf {R : Type 0} (old : View R) (result : Option Message) (new : View R) : Type 0 where
  pub first : IsFirstMessage (ready_messages old.endpoint) result
  pub outcome : Outcome
  pub turn : TakeTurn old.endpoint old.endpoint.queues.transfer outcome
  pub is : new ≡ record old { endpoint = outcome.after }
