-- What a user reads of a stream before and after each reset of it, with interleaving or without (RFC 6525, sections 5.1.2 and
-- 5.2.2), where no request to reset streams fails.
use Rattle.std.specs.Prelude.{◌≡◌, ℕ, true, List, map}
use Rattle.dcsctp_spec_lemmas.specs.spec.endpoint.MessageOutcomes.{Sending}
use Rattle.dcsctp_spec_lemmas.specs.spec.queues.Reassembly.{names_stream}
use Rattle.dcsctp_spec_lemmas.specs.types.queues.Messages.{MessageContent}
use Rattle.dcsctp_delivery_directions.specs.receiving.Ready.{AreDistinct}
use Rattle.dcsctp_delivery_sockets.specs.sockets.Epochs.{AreSplitAsAsked}
use Rattle.dcsctp_delivery_sockets.specs.sockets.UserMessages.{message_sent, WereSent}

-- Each message that was read was sent, none twice. And each reset that is reported was asked for: of the messages of a stream that
-- it names, ordered or not, those that were read before it was reported, or could be, were sent before the other user asked for it,
-- and those that are read later were sent since.
pub record IsSplitByResets (asked : ℕ → ℕ → Type 0) (told : List ℕ → ℕ → Type 0) (sent : List Sending) (read : List MessageContent) : Type 0 where
  pub places : List ℕ
  pub were_sent : WereSent (map message_sent sent) places read
  pub once : AreDistinct places
  pub epochs : (streams : List ℕ) (index : ℕ) → told streams index → (stream : ℕ) → names_stream streams stream ≡ true → AreSplitAsAsked (asked stream) sent stream index places
