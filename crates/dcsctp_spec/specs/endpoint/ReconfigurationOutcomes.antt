-- The reconfiguration timer: its own request to reset streams that hasn't ended is sent again (RFC 6525, sections 5.1.1 and 5.2.7).
use Rattle.std.specs.Prelude.{ℕ, ◌%◌, ◌^◌, Bool, true, false, ◌&&◌, Option, None, Some, [], ◌∷◌, map, if◌then◌else◌}
use Rattle.std.specs.Option.{option_map}
use Rattle.dcsctp_types.specs.declared.association.Held.{Held}
use Rattle.dcsctp_spec.specs.Reconfiguration.{RequestedReset, renewed_reset}
use Rattle.dcsctp_spec.specs.endpoint.Endpoint.{Endpoint, OutstandingRequest}
use Rattle.dcsctp_spec.specs.endpoint.Outcome.{Outcome, still, with_effects_first, fits, sends, emits, to_peer}
use Rattle.dcsctp_spec.specs.Packet.{Content}
use Rattle.dcsctp_spec.specs.association.Effect.{begins, gives_up}
use Rattle.dcsctp_spec.specs.association.FlushChanges.{reset_request}
use Rattle.dcsctp_spec.specs.endpoint.BegunResets.{stream_field, core_asking}
use Rattle.dcsctp_spec.specs.endpoint.HeartbeatOutcomes.{error_counted, is_exhausted, expired_of}

-- ---- what is sent again

-- what the outstanding request wants, as its fields hold it
abbrev pub reset_again : Option OutstandingRequest → RequestedReset
reset_again None = record { last_tsn = 0; streams = []; is_new = false }
reset_again (Some request) = record { last_tsn = request.last_tsn % 2 ^ 32; streams = map stream_field request.streams; is_new = request.is_new }

-- It is sent again under its number, in a packet of its own, if that fits.
abbrev pub request_emitted : Endpoint → Held → Option ℕ → RequestedReset → Outcome
request_emitted e held None reset = still e
request_emitted e held (Some number) reset = emits e [] (to_peer held (reset_request number reset))

-- It is the one before, once more.
abbrev pub as_renewed : OutstandingRequest → OutstandingRequest
as_renewed request = record request { is_new = false }

-- The next number takes the place of its number, if the packet fits.
abbrev pub renewed_request_if_fitting : Bool → Endpoint → Held → ℕ → Content → Outcome
renewed_request_if_fitting false e held number request = still e
renewed_request_if_fitting true e held number request =
    with_effects_first (gives_up number ∷ begins held.own_next ∷ []) (sends (record e { core = core_asking e.core; outstanding = option_map as_renewed e.outstanding }) [] [] (to_peer held request))

abbrev pub request_renewed : Endpoint → Held → Option ℕ → RequestedReset → Outcome
request_renewed e held None reset = still e
request_renewed e held (Some number) reset =
    let request : Content = reset_request held.own_next (renewed_reset reset) in
    renewed_request_if_fitting (fits e (to_peer held request)) e held number request

-- With `follow_rfc` a request that the peer has answered as in progress (RFC 6525, section 5.2.7) is sent under the next number,
-- as dcsctp in C++ does: a peer that repeats its answer to a number that it knows may then perform it.
abbrev pub is_renewed : Endpoint → Option OutstandingRequest → Bool
is_renewed e None = false
is_renewed e (Some request) = e.options.follow_rfc && request.waits_for_retry

abbrev pub request_repeated : Bool → Endpoint → Held → RequestedReset → Outcome
request_repeated false e held reset = request_emitted e held held.own_outstanding reset
request_repeated true e held reset = request_renewed e held held.own_outstanding reset

-- If the association is to be aborted, the peer isn't asked again.
abbrev pub request_unless : Bool → Bool → Endpoint → Held → RequestedReset → Outcome
request_unless true is_new e held reset = still e
request_unless false is_new e held reset = request_repeated is_new e held reset

-- ---- what is kept of it

-- The timer continues.
abbrev pub reconfiguration_expired : Endpoint → Endpoint
reconfiguration_expired e = record e { timers = record e.timers { reconfiguration = expired_of e.moment e.timers.reconfiguration } }

-- The peer didn't answer: an error is counted. If it answered that the request is in progress, none is.
abbrev pub request_errors : Endpoint → OutstandingRequest → ℕ
request_errors e request = if request.waits_for_retry then e.error_count else error_counted e.options.max_retransmissions e.error_count

-- The request waits no longer.
abbrev pub request_expired : Endpoint → OutstandingRequest → Endpoint
request_expired e request =
    record (reconfiguration_expired e) { outstanding = Some (record request { waits_for_retry = false }); error_count = request_errors e request }

-- ---- both

-- The timer of an outstanding request has expired.
abbrev pub reconfiguration_outcome : Endpoint → Option Held → Option OutstandingRequest → Outcome
reconfiguration_outcome e None request = still (reconfiguration_expired e)
reconfiguration_outcome e (Some held) None = still (reconfiguration_expired e)
reconfiguration_outcome e (Some held) (Some request) =
    let after : Endpoint = request_expired e request in
    request_unless (is_exhausted after.options.max_retransmissions after.error_count) (is_renewed e (Some request)) after held (reset_again (Some request))
