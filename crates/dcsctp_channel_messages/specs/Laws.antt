-- What is written reads back, and what reads back was written so, but for what is ignored.
use Rattle.std.specs.Prelude.{◌≡◌, ◌==◌, ◌<◌, ◌^◌, ℕ, ◌+◌, ◌%◌, List, [], ◌∷◌, ◌++◌, length, take, drop, slice_index, get_or, Ok, if◌then◌else◌}
use Rattle.dcsctp_channel_spec.specs.Slots.{Opening}
use Rattle.dcsctp_channel_messages.specs.Format.{open_message, acknowledgement, ack_type, reliability_parameter, label_length, protocol_length, open_bytes, control_of_bytes}

-- Each number fits its field.
pub record FitsOpening (opening : Opening) : Type 0 where
  pub label : length opening.label < 2 ^ 16
  pub protocol : length opening.protocol < 2 ^ 16
  pub priority : opening.delivery.priority < 2 ^ 16
  pub parameter : reliability_parameter opening.delivery.reliability < 2 ^ 32

abbrev pub OpensReadBack : Type 0
OpensReadBack = (opening : Opening) (rest : List ℕ) → FitsOpening opening → control_of_bytes (open_bytes opening ++ rest) ≡ Ok (open_message opening)

-- each is below 256
abbrev pub AreOctets : List ℕ → Type 0
AreOctets bytes = (i : ℕ) → get_or bytes i 0 < 256

-- an OPEN without what is ignored: bytes after the protocol, and the parameter of a reliable channel
abbrev pub canonical : List ℕ → List ℕ
canonical bytes =
    take 4 bytes
    ++ (if slice_index bytes 1 % 0x80 == 0 then 0 ∷ 0 ∷ 0 ∷ 0 ∷ [] else take 4 (drop 4 bytes))
    ++ take (4 + label_length bytes + protocol_length bytes) (drop 8 bytes)

abbrev pub OpensAreCanonical : Type 0
OpensAreCanonical = (bytes : List ℕ) (opening : Opening) → AreOctets bytes → control_of_bytes bytes ≡ Ok (open_message opening) → open_bytes opening ≡ canonical bytes

pub record AcksAre (bytes : List ℕ) : Type 0 where
  pub each : (rest : List ℕ) → bytes ≡ ack_type ∷ rest → control_of_bytes bytes ≡ Ok acknowledgement
  pub only : control_of_bytes bytes ≡ Ok acknowledgement → (rest : List ℕ) × (bytes ≡ ack_type ∷ rest)

abbrev pub AcksAreRead : Type 0
AcksAreRead = (bytes : List ℕ) → AcksAre bytes
