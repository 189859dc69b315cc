-- What is true of a stream at all times.
use Rattle.std.specs.Prelude.{◌<◌, ℕ, Option, List, length}
use Rattle.std.specs.List.{AllByRecursion}
use Rattle.dcsctp_api.specs.types.declared.sending.UnderWay.{UnderWay}
use Rattle.dcsctp_api.specs.types.queues.SendStreams.{Waiting}
use Rattle.dcsctp_api.specs.spec.queues.SendQueue.{CanContinue}

-- Each message has bytes, and the one under way can continue.
pub record IsStreamSound (id : ℕ) (messages : List Waiting) (under_way : Option UnderWay) : Type 0 where
  pub bytes : AllByRecursion (λ (message : Waiting). 0 < length message.payload) messages
  pub can : CanContinue id messages under_way
