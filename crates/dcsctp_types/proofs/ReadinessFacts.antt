-- Outside examples of specs/Readiness.
use Rattle.std.proofs.Common.{◌≡◌, true, false, [], refl, codes}
use Rattle.dcsctp_types.specs.Readiness.{has_reason, readiness_text}

two_names : readiness_text 3 ≡ codes "wrong_connection_state,send_queue_not_empty"
two_names = refl

two_of_the_retransmission_queue : readiness_text 2560 ≡ codes "retransmission_queue_outstanding_data,retransmission_queue_not_empty"
two_of_the_retransmission_queue = refl

ready_is_empty : readiness_text 0 ≡ []
ready_is_empty = refl

no_name_is_empty : readiness_text 32 ≡ []
no_name_is_empty = refl

one_of_two_is_enough : has_reason 6 3 ≡ true
one_of_two_is_enough = refl

none_of_two : has_reason 4 3 ≡ false
none_of_two = refl
