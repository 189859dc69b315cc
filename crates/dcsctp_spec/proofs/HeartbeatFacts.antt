-- Outside examples of heartbeats and of the count of errors, computed by the definitions.
use Rattle.std.proofs.Common.{◌≡◌, ◌^◌, ◌-◌, Bool, true, false, None, Some, [], ◌∷◌, refl}
use Rattle.dcsctp_types.specs.wire.Content.{heartbeat_info, state_cookie}
use Rattle.dcsctp_types.specs.wire.Spelling.{parameter_bytes, parameter_chunk_bytes}
use Rattle.dcsctp_types.specs.declared.association.Pair.{Pair}
use Rattle.dcsctp_spec.specs.endpoint.Endpoint.{Endpoint, closed, cookie_wait, open_in, established}
use Rattle.dcsctp_spec.specs.endpoint.Event.{Event, sent}
use Rattle.dcsctp_spec.specs.Packet.{Emission, heartbeat_ack, plain}
use Rattle.dcsctp_spec.specs.endpoint.Outcome.{still, reports}
use Rattle.dcsctp_types.specs.declared.kinds.ErrorKind.TheVariants.{ParseFailed}
use Rattle.dcsctp_spec.specs.endpoint.HeartbeatOutcomes.{error_counted, is_exhausted, heartbeat_outcome, first_heartbeat_info, counter_of, invalid_info_text, heartbeat_ack_outcome}
use Rattle.dcsctp_spec.proofs.HandshakeTurnFacts.{mine, held}

-- ---- errors

-- A limit of 0 is passed by the first error, and further ones aren't counted.
first_error : error_counted (Some 0) 0 ≡ 1
first_error = refl

second_error : error_counted (Some 0) 1 ≡ 1
second_error = refl

exhausted_at_once : is_exhausted (Some 0) 1 ≡ true
exhausted_at_once = refl

tenth_error_is_allowed : is_exhausted (Some 10) 10 ≡ false
tenth_error_is_allowed = refl

eleventh_is_not : is_exhausted (Some 10) 11 ≡ true
eleventh_is_not = refl

no_limit : error_counted None 0 ≡ 0
no_limit = refl

-- The greatest limit is never passed.
greatest_limit : is_exhausted (Some (2 ^ 32 - 1)) (error_counted (Some (2 ^ 32 - 1)) (2 ^ 32 - 1)) ≡ false
greatest_limit = refl

-- ---- chunks

unheld : (e : Endpoint) → heartbeat_outcome e closed (heartbeat_info (1 ∷ []) ∷ []) ≡ still e
unheld e = refl

unheld_while_waiting : (e : Endpoint) (my : Pair) → heartbeat_outcome e (cookie_wait my) (heartbeat_info (1 ∷ []) ∷ []) ≡ still e
unheld_while_waiting e my = refl

-- of a peer with the tag 9, where another chunk of the packet was answered, or none
abbrev held_after : Bool → Bool → Endpoint → Endpoint
held_after follows has_answered e =
    record e { options = record e.options { follow_rfc = follows; mtu = 1191 }; core = open_in established mine held; has_answered = has_answered }

abbrev answer : Event Emission
answer = sent (record { with_checksum = false; packet = record { tag = 9; contents = plain (heartbeat_ack (heartbeat_info (1 ∷ []) ∷ [])) ∷ [] } })

first_heartbeat : (e : Endpoint) → (heartbeat_outcome (held_after true false e) (open_in established mine held) (heartbeat_info (1 ∷ []) ∷ [])).events ≡ answer ∷ []
unfolding parameter_chunk_bytes parameter_bytes
first_heartbeat e = refl

first_is_counted : (e : Endpoint) → (heartbeat_outcome (held_after true false e) (open_in established mine held) (heartbeat_info (1 ∷ []) ∷ [])).after.has_answered ≡ true
first_is_counted e = refl

-- By the RFC's rules a second one isn't answered.
second_heartbeat : (e : Endpoint) → heartbeat_outcome (held_after true true e) (open_in established mine held) (heartbeat_info (1 ∷ []) ∷ []) ≡ still (held_after true true e)
second_heartbeat e = refl

second_by_port : (e : Endpoint) → (heartbeat_outcome (held_after false true e) (open_in established mine held) (heartbeat_info (1 ∷ []) ∷ [])).events ≡ answer ∷ []
unfolding parameter_chunk_bytes parameter_bytes
second_by_port e = refl

-- The first info counts, whatever its length.
first_info : counter_of (first_heartbeat_info (state_cookie [] ∷ heartbeat_info (0 ∷ 0 ∷ 1 ∷ 2 ∷ []) ∷ heartbeat_info [] ∷ [])) ≡ Some 258
first_info = refl

short_info : counter_of (first_heartbeat_info (heartbeat_info (1 ∷ 2 ∷ 3 ∷ []) ∷ heartbeat_info (0 ∷ 0 ∷ 1 ∷ 2 ∷ []) ∷ [])) ≡ None
short_info = refl

no_info : (e : Endpoint) → heartbeat_ack_outcome e (counter_of (first_heartbeat_info [])) ≡ reports e ParseFailed invalid_info_text
no_info e = refl
