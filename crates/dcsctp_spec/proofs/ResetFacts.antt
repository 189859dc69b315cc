-- Outside examples of RE-CONFIG that comes in, computed by the definitions.
use Rattle.std.proofs.Common.{◌≡◌, ◌^◌, ◌-◌, ℕ, Bool, true, false, None, Some, List, [], ◌∷◌, refl}
use Rattle.dcsctp_types.specs.wire.declared.reconfiguration.ReconfigurationResponseResult.TheVariants.{SuccessNothingToDo, SuccessPerformed, Denied, ErrorBadSequenceNumber, InProgress}
use Rattle.dcsctp_types.specs.wire.Content.{outgoing_ssn_reset_request, forward_tsn_supported, re_config_chunk}
use Rattle.dcsctp_types.specs.wire.Content as wire
use Rattle.dcsctp_types.specs.wire.Spelling.{parameter_bytes, parameter_chunk_bytes}
use Rattle.dcsctp_types.specs.declared.association.Pair.{Pair}
use Rattle.dcsctp_types.specs.declared.association.Held.{Held}
use Rattle.dcsctp_types.specs.declared.capabilities.Capabilities.{Capabilities}
use Rattle.dcsctp_spec.specs.endpoint.Event.{incoming_stream_reset, streams_reset_failed, streams_reset_performed, sent}
use Rattle.dcsctp_spec.specs.Packet.{re_config, content_of_chunk}
use Rattle.dcsctp_spec.specs.Reconfiguration.{early, due, renewed, ResetParameter, outgoing_reset_request, incoming_reset_request, reconfiguration_response, other_reset_parameter, streams_of_bytes}
use Rattle.dcsctp_spec.specs.endpoint.Endpoint.{Endpoint, closed, cookie_wait}
use Rattle.dcsctp_spec.specs.endpoint.Outcome.{still, to_peer}
use Rattle.dcsctp_spec.specs.association.Effect.{accepts, performs, renews}
use Rattle.dcsctp_spec.specs.association.ResetChanges.{HandledParameters, reset_chunk_outcome}
use Rattle.dcsctp_spec.specs.endpoint.ResetOutcomes.{first_reset_request, is_renewal, request_state, renewable_after, unanswered, retried, was_performed, has_failed, answer_to_own, own_moved, reset_events, their_streams, ResetTurn, responses_outcome}
use Rattle.dcsctp_spec.specs.queues.Numbers.{is_tsn_beyond}

-- ---- what is read

two_streams : streams_of_bytes (0 ∷ 1 ∷ 1 ∷ 2 ∷ []) ≡ 1 ∷ 258 ∷ []
two_streams = refl

no_streams : streams_of_bytes [] ≡ []
no_streams = refl

three_kinds : content_of_chunk (re_config_chunk (outgoing_ssn_reset_request 10 3 11 (0 ∷ 1 ∷ []) ∷ wire.reconfiguration_response 4 SuccessPerformed None ∷ forward_tsn_supported ∷ []))
    ≡ re_config (outgoing_reset_request 10 3 (record { last_tsn = 11; streams = 1 ∷ []; is_new = false }) ∷ reconfiguration_response 4 SuccessPerformed ∷ other_reset_parameter forward_tsn_supported ∷ [])
three_kinds = refl

-- ---- when all has come

one_is_missing : is_tsn_beyond 11 10 ≡ true
one_is_missing = refl

all_has_come : is_tsn_beyond 11 11 ≡ false
all_has_come = refl

more_has_come : is_tsn_beyond 10 11 ≡ false
more_has_come = refl

beyond_the_wrap : is_tsn_beyond 0 (2 ^ 32 - 1) ≡ true
beyond_the_wrap = refl

-- ---- a request that is deferred: the peer's first TSN is 10, and TSN 10 has come

abbrev own : Pair
own = record { tag = 7; first_tsn = 3 }

abbrev theirs : Pair
theirs = record { tag = 9; first_tsn = 10 }

abbrev held : (c : Capabilities) → ℕ → Held
held c last = record { peer = theirs; capabilities = c; own_next = 3; own_outstanding = None; peer_last = last; peer_result = SuccessNothingToDo }

abbrev request : ResetParameter
request = outgoing_reset_request 10 3 (record { last_tsn = 11; streams = 1 ∷ []; is_new = false })

abbrev first_time : (c : Capabilities) → HandledParameters
first_time c = reset_chunk_outcome own early (held c 9) (request ∷ [])

abbrev second_time : (c : Capabilities) → HandledParameters
second_time c = reset_chunk_outcome own due (first_time c).held (request ∷ [])

abbrev third_time : (c : Capabilities) → HandledParameters
third_time c = reset_chunk_outcome own due (second_time c).held (request ∷ [])

in_progress : (c : Capabilities) → (first_time c).answers ≡ reconfiguration_response 10 InProgress ∷ []
in_progress c = refl

accepted_and_no_more : (c : Capabilities) → (first_time c).effects ≡ accepts 10 ∷ []
accepted_and_no_more c = refl

performed_now : (c : Capabilities) → (second_time c).answers ≡ reconfiguration_response 10 SuccessPerformed ∷ []
performed_now c = refl

told_then : (c : Capabilities) → reset_events (their_streams (first_reset_request (request ∷ []))) [] (second_time c).effects ≡ incoming_stream_reset (1 ∷ []) ∷ []
told_then c = refl

answered_again : (c : Capabilities) → (third_time c).answers ≡ reconfiguration_response 10 SuccessPerformed ∷ []
answered_again c = refl

told_once : (c : Capabilities) → reset_events (their_streams (first_reset_request (request ∷ []))) [] (third_time c).effects ≡ []
told_once c = refl

-- ---- a request that comes again under the next number: 10 was in progress, came late and was performed, and then comes 11

abbrev request_11 : ResetParameter
request_11 = outgoing_reset_request 11 3 (record { last_tsn = 11; streams = 1 ∷ []; is_new = false })

abbrev after_10 : (c : Capabilities) → Held
after_10 c = (second_time c).held

abbrev holding_10 : Bool → Endpoint → Endpoint
holding_10 follows e = record e { options = record e.options { follow_rfc = follows }; renewable = Some (record { number = 10; reset = record { last_tsn = 11; streams = 1 ∷ []; is_new = false } }) }

-- By the RFCs' rules what was in progress may come again; what was performed at once can't.
records_10 : (e : Endpoint) → renewable_after (record e { options = record e.options { follow_rfc = true } }) 10 (request ∷ []) true ≡ Some (record { number = 10; reset = record { last_tsn = 11; streams = 1 ∷ []; is_new = false } })
records_10 e = refl

records_none_at_once : (e : Endpoint) → renewable_after (record e { options = record e.options { follow_rfc = true } }) 9 (request ∷ []) true ≡ None
records_none_at_once e = refl

records_none_by_port : (e : Endpoint) → renewable_after (record e { options = record e.options { follow_rfc = false } }) 10 (request ∷ []) true ≡ None
records_none_by_port e = refl

is_renewed : (e : Endpoint) (c : Capabilities) → request_state (record (holding_10 true e) { queues = record e.queues { transfer = None } }) (after_10 c) (request_11 ∷ []) ≡ renewed
is_renewed e c = refl

-- It is answered as performed, and isn't reported.
renewed_answer : (c : Capabilities) → (reset_chunk_outcome own renewed (after_10 c) (request_11 ∷ [])).answers ≡ reconfiguration_response 11 SuccessPerformed ∷ []
renewed_answer c = refl

renewed_effects : (c : Capabilities) → (reset_chunk_outcome own renewed (after_10 c) (request_11 ∷ [])).effects ≡ accepts 11 ∷ renews theirs 11 ∷ []
renewed_effects c = refl

renewed_untold : (c : Capabilities) → reset_events (their_streams (first_reset_request (request_11 ∷ []))) [] (reset_chunk_outcome own renewed (after_10 c) (request_11 ∷ [])).effects ≡ []
renewed_untold c = refl

-- By the port it is performed again.
is_due_by_port : (e : Endpoint) (c : Capabilities) → request_state (record (holding_10 false e) { queues = record e.queues { transfer = None } }) (after_10 c) (request_11 ∷ []) ≡ due
is_due_by_port e c = refl

performed_by_port : (c : Capabilities) → (reset_chunk_outcome own due (after_10 c) (request_11 ∷ [])).effects ≡ accepts 11 ∷ performs theirs 11 ∷ []
performed_by_port c = refl

-- Another request isn't it: of other streams, in another order, up to another TSN, or under another number.
abbrev asks_other : ℕ → ℕ → List ℕ → Bool
asks_other number last_tsn streams =
    is_renewal (Some (record { number = 10; reset = record { last_tsn = 11; streams = 1 ∷ 2 ∷ []; is_new = false } })) 10 (Some number) (Some (record { last_tsn = last_tsn; streams = streams; is_new = false }))

the_same : asks_other 11 11 (1 ∷ 2 ∷ []) ≡ true
the_same = refl

fewer_streams : asks_other 11 11 (1 ∷ []) ≡ false
fewer_streams = refl

more_streams : asks_other 11 11 (1 ∷ 2 ∷ 3 ∷ []) ≡ false
more_streams = refl

all_streams : asks_other 11 11 [] ≡ false
all_streams = refl

other_order : asks_other 11 11 (2 ∷ 1 ∷ []) ≡ false
other_order = refl

other_tsn : asks_other 11 12 (1 ∷ 2 ∷ []) ≡ false
other_tsn = refl

same_number : asks_other 10 11 (1 ∷ 2 ∷ []) ≡ false
same_number = refl

later_number : asks_other 12 11 (1 ∷ 2 ∷ []) ≡ false
later_number = refl

-- A request that bears the number before its own says that it is new.
says_new : content_of_chunk (re_config_chunk (outgoing_ssn_reset_request 11 10 11 (0 ∷ 1 ∷ []) ∷ []))
    ≡ re_config (outgoing_reset_request 11 10 (record { last_tsn = 11; streams = 1 ∷ []; is_new = true }) ∷ [])
says_new = refl

says_new_behind_the_greatest : content_of_chunk (re_config_chunk (outgoing_ssn_reset_request 0 (2 ^ 32 - 1) 11 (0 ∷ 1 ∷ []) ∷ []))
    ≡ re_config (outgoing_reset_request 0 (2 ^ 32 - 1) (record { last_tsn = 11; streams = 1 ∷ []; is_new = true }) ∷ [])
says_new_behind_the_greatest = refl

a_new_one : is_renewal (Some (record { number = 10; reset = record { last_tsn = 11; streams = 1 ∷ []; is_new = false } })) 10 (Some 11) (Some (record { last_tsn = 11; streams = 1 ∷ []; is_new = true })) ≡ false
a_new_one = refl

once_more : is_renewal (Some (record { number = 10; reset = record { last_tsn = 11; streams = 1 ∷ []; is_new = true } })) 10 (Some 11) (Some (record { last_tsn = 11; streams = 1 ∷ []; is_new = false })) ≡ true
once_more = refl

-- What was accepted since took the number.
number_is_taken : is_renewal (Some (record { number = 10; reset = record { last_tsn = 11; streams = []; is_new = false } })) 11 (Some 12) (Some (record { last_tsn = 11; streams = []; is_new = false })) ≡ false
number_is_taken = refl

beyond_the_last_number : is_renewal (Some (record { number = 2 ^ 32 - 1; reset = record { last_tsn = 11; streams = []; is_new = false } })) (2 ^ 32 - 1) (Some 0) (Some (record { last_tsn = 11; streams = []; is_new = false })) ≡ true
beyond_the_last_number = refl

-- ---- requests of the other kind

next_incoming : (c : Capabilities) → (reset_chunk_outcome own due (held c 9) (incoming_reset_request 10 (1 ∷ []) ∷ [])).answers ≡ reconfiguration_response 10 SuccessNothingToDo ∷ []
next_incoming c = refl

astray_incoming : (c : Capabilities) → (reset_chunk_outcome own due (held c 10) (incoming_reset_request 12 (1 ∷ []) ∷ [])).answers ≡ reconfiguration_response 12 ErrorBadSequenceNumber ∷ []
astray_incoming c = refl

-- A repeat of the number, by an outgoing request, is answered as before, and nothing is reset.
repeated_by_outgoing : (c : Capabilities) → (reset_chunk_outcome own due (held c 10) (request ∷ [])).effects ≡ []
repeated_by_outgoing c = refl

-- ---- what is an error

no_parameters : (c : Capabilities) → (reset_chunk_outcome own due (held c 9) []).is_refused ≡ true
no_parameters c = refl

-- The first of two was handled, and no answer is sent.
abbrev twice : (c : Capabilities) → HandledParameters
twice c = reset_chunk_outcome own due (held c 9) (request ∷ outgoing_reset_request 11 3 (record { last_tsn = 11; streams = 2 ∷ []; is_new = false }) ∷ [])

second_is_refused : (c : Capabilities) → (twice c).is_refused ≡ true
second_is_refused c = refl

first_was_worked : (c : Capabilities) → (twice c).effects ≡ accepts 10 ∷ performs theirs 10 ∷ []
first_was_worked c = refl

-- ---- our request, number 3, which resets stream 4

abbrev asking : (c : Capabilities) → Held
asking c = record (held c 9) { own_next = 4; own_outstanding = Some 3 }

abbrev after_answer : (c : Capabilities) → ResetParameter → HandledParameters
after_answer c answer = reset_chunk_outcome own due (asking c) (answer ∷ [])

performed : (c : Capabilities) → reset_events [] (4 ∷ []) (after_answer c (reconfiguration_response 3 SuccessPerformed)).effects ≡ streams_reset_performed (4 ∷ []) ∷ []
performed c = refl

performed_is_answered : (c : Capabilities) → answer_to_own (asking c) (after_answer c (reconfiguration_response 3 SuccessPerformed)) (reconfiguration_response 3 SuccessPerformed ∷ []) ≡ was_performed
performed_is_answered c = refl

denied : (c : Capabilities) → reset_events [] (4 ∷ []) (after_answer c (reconfiguration_response 3 Denied)).effects ≡ streams_reset_failed (4 ∷ []) ∷ []
denied c = refl

denied_is_answered : (c : Capabilities) → answer_to_own (asking c) (after_answer c (reconfiguration_response 3 Denied)) (reconfiguration_response 3 Denied ∷ []) ≡ has_failed
denied_is_answered c = refl

in_progress_is_retried : (c : Capabilities) → answer_to_own (asking c) (after_answer c (reconfiguration_response 3 InProgress)) (reconfiguration_response 3 InProgress ∷ []) ≡ retried
in_progress_is_retried c = refl

-- With the option each answer clears the count of errors.
abbrev with_errors : Bool → Endpoint → Endpoint
with_errors follows e = record e { options = record e.options { follow_rfc = follows }; error_count = 2 }

clears_errors : (e : Endpoint) → (own_moved retried (with_errors true e)).error_count ≡ 0
clears_errors e = refl

performed_clears_errors : (e : Endpoint) → (own_moved was_performed (with_errors true e)).error_count ≡ 0
performed_clears_errors e = refl

denied_clears_errors : (e : Endpoint) → (own_moved has_failed (with_errors true e)).error_count ≡ 0
denied_clears_errors e = refl

keeps_errors_by_port : (e : Endpoint) → (own_moved retried (with_errors false e)).error_count ≡ 2
keeps_errors_by_port e = refl

performed_keeps_errors_by_port : (e : Endpoint) → (own_moved was_performed (with_errors false e)).error_count ≡ 2
performed_keeps_errors_by_port e = refl

no_answer_keeps_errors : (e : Endpoint) → (own_moved unanswered (with_errors true e)).error_count ≡ 2
no_answer_keeps_errors e = refl

of_another_number : (c : Capabilities) → answer_to_own (asking c) (after_answer c (reconfiguration_response 2 SuccessPerformed)) (reconfiguration_response 2 SuccessPerformed ∷ []) ≡ unanswered
of_another_number c = refl

none_is_asked : (c : Capabilities) → answer_to_own (held c 9) (reset_chunk_outcome own due (held c 9) (reconfiguration_response 3 SuccessPerformed ∷ [])) (reconfiguration_response 3 SuccessPerformed ∷ []) ≡ unanswered
none_is_asked c = refl

-- ---- a second RE-CONFIG of a packet

abbrev has_answered : Bool → Endpoint → Endpoint
has_answered follows e = record e { options = record e.options { follow_rfc = follows; mtu = 1191 }; has_answered = true }

-- By the RFC's rules its requests are handled, and nothing is sent for them.
second_request : (e : Endpoint) (c : Capabilities) → responses_outcome (has_answered true e) (held c 9) (first_time c).answers ≡ still (has_answered true e)
second_request e c = refl

second_request_by_port : (e : Endpoint) (c : Capabilities) → (responses_outcome (has_answered false e) (held c 9) (first_time c).answers).events
    ≡ sent (to_peer (held c 9) (re_config (reconfiguration_response 10 InProgress ∷ []))) ∷ []
unfolding parameter_chunk_bytes parameter_bytes
second_request_by_port e c = refl

-- The first is counted; one without a request isn't.
first_request : (e : Endpoint) (c : Capabilities) → (responses_outcome (record (has_answered true e) { has_answered = false }) (held c 9) (first_time c).answers).after.has_answered ≡ true
first_request e c = refl

no_request : (e : Endpoint) (c : Capabilities) → (responses_outcome (record (has_answered true e) { has_answered = false }) (held c 9) []).after.has_answered ≡ false
no_request e c = refl

-- ---- without a peer

closed_rests : (e : Endpoint) → ResetTurn e closed (request ∷ []) (still e)
closed_rests e = refl

waiting_rests : (e : Endpoint) (my : Pair) → ResetTurn e (cookie_wait my) (request ∷ []) (still e)
waiting_rests e my = refl
