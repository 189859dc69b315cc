-- Outside examples of an ERROR (RFC 9260, section 3.3.10), computed by the definitions.
use Rattle.std.proofs.Common.{◌≡◌, ℕ, List, [], ◌∷◌, refl}
use Rattle.std.specs.Prelude.{codes}
use Rattle.std.specs.Fmt.{digits}
use Rattle.dcsctp_types.specs.wire.Content.{no_user_data, protocol_violation, missing_mandatory_parameter, error_chunk}
use Rattle.dcsctp_types.specs.declared.association.Pair.{Pair}
use Rattle.dcsctp_types.specs.declared.association.Held.{Held}
use Rattle.dcsctp_types.specs.declared.kinds.ErrorKind.TheVariants.{PeerReported}
use Rattle.dcsctp_spec.specs.endpoint.Cause.{Cause}
use Rattle.dcsctp_spec.specs.endpoint.Event.{error}
use Rattle.dcsctp_spec.specs.Packet.{content_of_chunk, plain, error_of}
use Rattle.dcsctp_spec.specs.endpoint.Endpoint.{Endpoint, closed, cookie_wait, cookie_echoed, open_in, established, shutdown_received}
use Rattle.dcsctp_spec.specs.endpoint.Outcome.{Outcome, still}
use Rattle.dcsctp_spec.specs.endpoint.Following.{next_chunk}
use Rattle.dcsctp_spec.specs.endpoint.PlainOutcomes.{PlainTurn, error_outcome}

-- ---- no peer is held

unheld : (e : Endpoint) → error_outcome e closed (no_user_data 100 ∷ []) ≡ still e
unheld e = refl

unheld_while_waiting : (e : Endpoint) (my : Pair) → error_outcome e (cookie_wait my) (no_user_data 100 ∷ []) ≡ still e
unheld_while_waiting e my = refl

-- ---- a peer is held

-- one error of the peer, and nothing else
told : Endpoint → List ℕ → Outcome
told e text = record { words = []; effects = []; after = e; events = error PeerReported text ∷ []; following = next_chunk }

-- No User Data is cause 9, and its TSN isn't shown.
one_cause : (e : Endpoint) (my : Pair) (held : Held) → error_outcome e (open_in established my held) (no_user_data 100 ∷ []) ≡ told e (codes "cause 9")
unfolding told digits
one_cause e my held = refl

-- Protocol Violation is cause 13, and its text is shown.
two_causes_are_joined : (e : Endpoint) (my : Pair) (held : Held) → error_outcome e (open_in established my held) (no_user_data 100 ∷ protocol_violation (codes "no") ∷ []) ≡ told e (codes "cause 9,cause 13: no")
unfolding told digits
two_causes_are_joined e my held = refl

order_is_kept : (e : Endpoint) (my : Pair) (held : Held) → error_outcome e (open_in established my held) (protocol_violation [] ∷ missing_mandatory_parameter (0 ∷ 7 ∷ []) ∷ []) ≡ told e (codes "cause 13: ,cause 2")
unfolding told digits
order_is_kept e my held = refl

no_cause : (e : Endpoint) (my : Pair) (held : Held) → error_outcome e (open_in established my held) [] ≡ told e []
unfolding told
no_cause e my held = refl

while_an_echo_is_answered : (e : Endpoint) (my : Pair) (held : Held) → error_outcome e (cookie_echoed my held (1 ∷ [])) (no_user_data 100 ∷ []) ≡ told e (codes "cause 9")
unfolding told digits
while_an_echo_is_answered e my held = refl

while_shutting_down : (e : Endpoint) (my : Pair) (held : Held) → error_outcome e (open_in shutdown_received my held) (no_user_data 100 ∷ []) ≡ told e (codes "cause 9")
unfolding told digits
while_shutting_down e my held = refl

-- ---- the turn

-- It breaks nothing that was negotiated.
turn_of_error : (e : Endpoint) (my : Pair) (held : Held) → PlainTurn (record e { core = open_in established my held }) (error_of (no_user_data 100 ∷ [])) (told (record e { core = open_in established my held }) (codes "cause 9"))
unfolding told digits
turn_of_error e my held = refl

error_is_read : (causes : List Cause) → content_of_chunk (error_chunk causes) ≡ plain (error_of causes)
error_is_read causes = refl
