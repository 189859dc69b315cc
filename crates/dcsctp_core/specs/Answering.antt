-- What becomes of our own request to reset streams if the peer answers it (RFC 6525, section 5.2.7).
use Rattle.std.specs.Prelude.{◌≡◌, ℕ, true, None, Some}
use Rattle.std.specs.Option.{option_map}
use Rattle.dcsctp_transfer.specs.spec.endpoint.Timers.{started_timer, TimerModel}
use Rattle.dcsctp_transfer.specs.spec.endpoint.BegunResets.{reconfiguration_settings}
use Rattle.dcsctp_core.specs.declared.transmission_control_block.ResetRequest.{ResetRequest}
use Rattle.dcsctp_core.specs.declared.transmission_control_block.TransmissionControlBlock.{TransmissionControlBlock}

-- ---- it is in progress

-- the request once it waits to be sent again, by this timer
abbrev pub delayed_request : TimerModel → ResetRequest → ResetRequest
delayed_request timer request = record request { waits_for_retry = true; timer = timer }

-- It waits, and its timer starts again. Nothing else has moved.
pub record Retries (now : ℕ) (old new : TransmissionControlBlock) : Type 0 where
  pub timer : TimerModel
  pub runs : timer.running ≡ started_timer now (reconfiguration_settings (Some old.transfer))
  pub is : new ≡ record old { reset_request = option_map (delayed_request timer) old.reset_request }

-- ---- it has ended

-- No request is outstanding.
abbrev pub request_ended : TransmissionControlBlock → TransmissionControlBlock
request_ended tcb = record tcb { reset_request = None }
