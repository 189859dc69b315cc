-- Our own request to reset streams when the timer expires by which it is sent again.
use Rattle.std.specs.Prelude.{ℕ, Bool, false, not, Option, None, Some}
use Rattle.std.specs.Option.{option_map}
use Rattle.dcsctp_transfer.specs.spec.endpoint.Endpoint.{Endpoint, OutstandingRequest}
use Rattle.dcsctp_transfer.specs.spec.association.FlushChanges.{next_number}
use Rattle.dcsctp_transfer.specs.spec.endpoint.ReconfigurationOutcomes.{reconfiguration_expired, request_expired}
use Rattle.dcsctp_core.specs.declared.state.State.{State}
use Rattle.dcsctp_core.specs.declared.state.State.TheVariants.{Closed, CookieWait, CookieEchoed, Open}
use Rattle.dcsctp_core.specs.declared.transmission_control_block.ResetRequest.{ResetRequest}
use Rattle.dcsctp_core.specs.declared.transmission_control_block.TransmissionControlBlock.{TransmissionControlBlock}
use Rattle.dcsctp_core.specs.Timing.{timer_after}
use Rattle.dcsctp_core.specs.View.{tcb_of, own_request}

-- Is a request outstanding that the peer didn't answer?
abbrev pub is_unanswered : Option ResetRequest → Bool
is_unanswered None = false
is_unanswered (Some request) = not request.waits_for_retry

-- the request once it waits no longer
abbrev pub tried_again : ResetRequest → ResetRequest
tried_again request = record request { waits_for_retry = false }

abbrev pub without_retry : TransmissionControlBlock → TransmissionControlBlock
without_retry tcb = record tcb { reset_request = option_map tried_again tcb.reset_request }

-- Our outstanding request takes the next number in place of its own. It is the one before, once more.
abbrev pub tcb_renumbered : Option ResetRequest → TransmissionControlBlock → TransmissionControlBlock
tcb_renumbered None tcb = tcb
tcb_renumbered (Some request) tcb =
    record tcb {
      next_outgoing_reset_req_seq_nbr = next_number tcb.next_outgoing_reset_req_seq_nbr;
      reset_request = Some (record request { number = tcb.next_outgoing_reset_req_seq_nbr; is_new = false });
    }

abbrev pub request_renumbered : TransmissionControlBlock → TransmissionControlBlock
request_renumbered tcb = tcb_renumbered tcb.reset_request tcb

-- the request once its timer has come to this moment
abbrev pub request_at_moment : ℕ → ResetRequest → ResetRequest
request_at_moment moment request = record request { timer = timer_after moment request.timer }

abbrev pub reconfiguration_at_moment : ℕ → TransmissionControlBlock → TransmissionControlBlock
reconfiguration_at_moment moment tcb = record tcb { reset_request = option_map (request_at_moment moment) tcb.reset_request }

-- ---- of a state

-- the outstanding request
abbrev pub request_of_state : State → Option ResetRequest
request_of_state state = own_request (tcb_of state)

-- the state with its association as this makes it
abbrev pub tcb_changed : (TransmissionControlBlock → TransmissionControlBlock) → State → State
tcb_changed change Closed = Closed
tcb_changed change (CookieWait wait) = CookieWait wait
tcb_changed change (CookieEchoed echoed) = CookieEchoed (record echoed { tcb = change echoed.tcb })
tcb_changed change (Open opened) = Open (record opened { tcb = change opened.tcb })

-- ---- of an endpoint

-- the endpoint once the timer has expired, before the request is sent again
abbrev pub request_over : Endpoint → Option OutstandingRequest → Endpoint
request_over e None = reconfiguration_expired e
request_over e (Some request) = request_expired e request
