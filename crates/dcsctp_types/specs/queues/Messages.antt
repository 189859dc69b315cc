-- What a message says.
use Rattle.std.specs.Prelude.{ℕ, List}
use Rattle.dcsctp_types.specs.declared.message.Message.{Message}

-- what a message says: its stream, the protocol of its payload, and its bytes
pub record MessageContent : Type 0 where
  pub stream : ℕ
  pub ppid : ℕ
  pub payload : List ℕ

abbrev pub message_content : Message → MessageContent
message_content message = record { stream = message.stream_id.0; ppid = message.ppid.0; payload = message.payload.items }
