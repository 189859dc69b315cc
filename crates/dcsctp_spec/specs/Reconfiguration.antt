-- The parameters of RE-CONFIG that speak of stream resets (RFC 6525, section 4).
use Rattle.std.specs.Prelude.{ℕ, ◌==◌, ◌+◌, ◌-◌, ◌%◌, ◌^◌, Bool, true, false, None, List, [], ◌∷◌}
use Rattle.std.specs.List.{flat_map}
use Rattle.std.specs.Int.{w16, to_be_bytes, from_be_bytes}
use Rattle.dcsctp_types.specs.wire.declared.reconfiguration.ReconfigurationResponseResult.{ReconfigurationResponseResult}
use Rattle.dcsctp_types.specs.wire.Content.{ParameterContent, outgoing_ssn_reset_request, incoming_ssn_reset_request}
use Rattle.dcsctp_types.specs.wire.Content as wire

-- what the sender of an Outgoing SSN Reset Request wants: these streams are reset, or all if there are none. That is done once
-- everything that it sent up to the last TSN was received
pub record RequestedReset : Type 0 where
  pub last_tsn : ℕ
  pub streams : List ℕ
  -- Does it say that it isn't the request before, once more?
  pub is_new : Bool

-- the same, once more under the next number
abbrev pub renewed_reset : RequestedReset → RequestedReset
renewed_reset reset = record reset { is_new = false }

-- a request of the peer by its number
pub record NumberedReset : Type 0 where
  pub number : ℕ
  pub reset : RequestedReset

-- what an Outgoing SSN Reset Request finds
pub data RequestState : Type 0 where
  -- Something is missing that was sent before it.
  early : RequestState
  -- All has come that was sent before it.
  due : RequestState
  -- All has come; and it was performed and reported already, under the number before.
  renewed : RequestState

pub data ResetParameter : Type 0 where
  -- Outgoing SSN Reset Request (RFC 6525, section 4.1): its number, the number of the request that it
  -- answers, and what is wanted
  outgoing_reset_request : ℕ → ℕ → RequestedReset → ResetParameter
  -- Incoming SSN Reset Request (RFC 6525, section 4.2): its number, and the streams that the peer is to reset
  incoming_reset_request : ℕ → List ℕ → ResetParameter
  -- Re-configuration Response (RFC 6525, section 4.4): the number of the request, and its result
  reconfiguration_response : ℕ → ReconfigurationResponseResult → ResetParameter
  -- any other, as it is in its chunk
  other_reset_parameter : ParameterContent → ResetParameter

-- as a parameter of a chunk
abbrev pub reset_parameter_content : ResetParameter → ParameterContent
reset_parameter_content (outgoing_reset_request number answered reset) = outgoing_ssn_reset_request number answered reset.last_tsn (flat_map (to_be_bytes w16) reset.streams)
reset_parameter_content (incoming_reset_request number streams) = incoming_ssn_reset_request number (flat_map (to_be_bytes w16) streams)
reset_parameter_content (reconfiguration_response number result) = wire.reconfiguration_response number result None
reset_parameter_content (other_reset_parameter parameter) = parameter

-- the streams that these bytes name, two bytes each
abbrev pub streams_of_bytes : List ℕ → List ℕ
streams_of_bytes (first ∷ second ∷ bytes) = from_be_bytes w16 (first ∷ second ∷ []) ∷ streams_of_bytes bytes
streams_of_bytes bytes = []

-- the number before this one
abbrev pub previous_number : ℕ → ℕ
previous_number number = (number + (2 ^ 32 - 1)) % 2 ^ 32

-- What a request of this number bears as the number of the request that it answers: it answers none. RFC 6525, section 4.1, has the
-- peer's next number less 1 there; dcsctp has the request's own number. With the option one that isn't the request before, once
-- more, has the number before its own, so that the peer can tell (`is_renewal`).
abbrev pub number_answered : ℕ → Bool → ℕ
number_answered number true = previous_number number
number_answered number false = number

-- what a parameter of a chunk says. The next TSNs of a response aren't looked at: no request to reset them is sent.
abbrev pub reset_parameter_of : ParameterContent → ResetParameter
reset_parameter_of (outgoing_ssn_reset_request number answered last_tsn streams) = outgoing_reset_request number answered (record { last_tsn = last_tsn; streams = streams_of_bytes streams; is_new = answered == previous_number number })
reset_parameter_of (incoming_ssn_reset_request number streams) = incoming_reset_request number (streams_of_bytes streams)
reset_parameter_of (wire.reconfiguration_response number result next_tsns) = reconfiguration_response number result
reset_parameter_of parameter = other_reset_parameter parameter
