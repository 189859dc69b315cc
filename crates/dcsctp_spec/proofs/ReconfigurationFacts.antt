-- Outside examples of a request to reset streams that is sent again, worked out by hand and computed
-- by the definitions: a wrong rule in specs/ would not check here.
use Rattle.std.proofs.Common.{◌≡◌, ℕ, Bool, true, false, Option, None, Some, [], ◌∷◌, refl}
use Rattle.std.specs.Prelude.{pos}
use Rattle.dcsctp_types.specs.wire.Spelling.{parameter_bytes, parameters_len, parameter_chunk_bytes}
use Rattle.dcsctp_types.specs.declared.association.Held.{Held}
use Rattle.dcsctp_types.specs.declared.kinds.BackoffAlgorithm.TheVariants.{Exponential}
use Rattle.dcsctp_spec.specs.endpoint.Event.{Event}
use Rattle.dcsctp_spec.specs.Packet.{re_config, Emission}
use Rattle.dcsctp_spec.specs.Reconfiguration.{outgoing_reset_request}
use Rattle.dcsctp_spec.specs.endpoint.Endpoint.{Endpoint, cookie_wait, open_in, established, OutstandingRequest, held_by_core}
use Rattle.dcsctp_spec.specs.endpoint.Timers.{RunningTimer}
use Rattle.dcsctp_spec.specs.association.Effect.{begins, gives_up}
use Rattle.dcsctp_spec.specs.endpoint.Following.{next_chunk}
use Rattle.dcsctp_spec.specs.endpoint.Outcome.{Outcome, still, quiet}
use Rattle.dcsctp_spec.specs.endpoint.TimeTurns.{own_timer, deadline, has_come}
use Rattle.dcsctp_spec.specs.endpoint.BegunResets.{BegunReset, after_begun}
use Rattle.dcsctp_spec.specs.endpoint.OwnTimers.{reconfiguration}
use Rattle.dcsctp_spec.specs.endpoint.ReconfigurationOutcomes.{reconfiguration_outcome}
use Rattle.dcsctp_spec.proofs.HandshakeTurnFacts.{socket, mine, held, packet_of, transfer_begun}

-- ---- the request

-- Number 100 is outstanding: it resets streams 4 and 258, once TSN 99 is there.
abbrev asking : Held
asking = record held { own_next = 101; own_outstanding = Some 100 }

abbrev request : Bool → OutstandingRequest
request waits = record { last_tsn = 99; streams = 4 ∷ 258 ∷ []; is_new = false; waits_for_retry = waits }

-- Its timer was started with half a second.
abbrev timer : ℕ → ℕ → ℕ → Option RunningTimer
timer deadline wait expiries = Some (record { deadline = deadline; wait = wait; expiries = expiries; terms = record { backoff = Exponential; max_restarts = None; max_backoff = None } })

-- the socket five seconds after it was made, with an MTU; one error is allowed, and so many were counted
abbrev awaiting : Endpoint → ℕ → ℕ → Option OutstandingRequest → Option RunningTimer → Endpoint
awaiting e mtu errors outstanding running =
    let base : Endpoint = socket e mtu (pos 4) (open_in established mine asking) 4 in
    record base {
      options = record base.options { max_retransmissions = Some 1 };
      outstanding = outstanding;
      error_count = errors;
      timers = record base.timers { reconfiguration = running };
    }

-- once a packet more was sent
abbrev sent_one : Endpoint → Endpoint
sent_one e = record e { counts = record e.counts { packets_sent = 5 } }

abbrev expires : Endpoint → Outcome
expires e = reconfiguration_outcome e (held_by_core e.core) e.outstanding

-- the packet, in the clear for the peer's tag 9; it has 36 bytes
abbrev packet : Event Emission
packet = packet_of false 9 (re_config (outgoing_reset_request 100 100 (record { last_tsn = 99; streams = 4 ∷ 258 ∷ []; is_new = false }) ∷ []) ∷ [])

-- ---- what comes of it

-- It wasn't answered: an error is counted, it goes out again, and is awaited for a second.
not_answered : (e : Endpoint) → expires (awaiting e 36 0 (Some (request false)) (timer 5_000_000_000 500_000_000 0))
    ≡ record {
      words = [];
      effects = [];
      after = sent_one (awaiting e 36 1 (Some (request false)) (timer 6_000_000_000 1_000_000_000 1));
      events = packet ∷ [];
      following = next_chunk;
    }
unfolding parameter_bytes parameters_len parameter_chunk_bytes
not_answered e = refl

-- It was answered as in progress: no error is counted.
in_progress : (e : Endpoint) → expires (awaiting e 36 1 (Some (request true)) (timer 5_000_000_000 500_000_000 0))
    ≡ record {
      words = [];
      effects = [];
      after = sent_one (awaiting e 36 1 (Some (request false)) (timer 6_000_000_000 1_000_000_000 1));
      events = packet ∷ [];
      following = next_chunk;
    }
unfolding parameter_bytes parameters_len parameter_chunk_bytes
in_progress e = refl

-- With the option it goes out under the next number, and its own is given up.
abbrev by_rfc : Endpoint → Endpoint
by_rfc e = record e { options = record e.options { follow_rfc = true } }

abbrev renewed : Event Emission
renewed = packet_of false 9 (re_config (outgoing_reset_request 101 101 (record { last_tsn = 99; streams = 4 ∷ 258 ∷ []; is_new = false }) ∷ []) ∷ [])

abbrev asking_anew : Held
asking_anew = record held { own_next = 102; own_outstanding = Some 101 }

in_progress_by_rfc : (e : Endpoint) → expires (by_rfc (awaiting e 36 1 (Some (request true)) (timer 5_000_000_000 500_000_000 0)))
    ≡ record {
      words = [];
      effects = gives_up 100 ∷ begins 101 ∷ [];
      after = record (sent_one (by_rfc (awaiting e 36 1 (Some (request false)) (timer 6_000_000_000 1_000_000_000 1)))) { core = open_in established mine asking_anew };
      events = renewed ∷ [];
      following = next_chunk;
    }
unfolding parameter_bytes parameters_len parameter_chunk_bytes
in_progress_by_rfc e = refl

-- One that says that it is new has the number before its own in its packet, and says so no more once it is renewed.
abbrev as_new : OutstandingRequest → OutstandingRequest
as_new request = record request { is_new = true }

repeated_as_new : (e : Endpoint) → (expires (by_rfc (awaiting e 36 0 (Some (as_new (request false))) (timer 5_000_000_000 500_000_000 0)))).events
    ≡ packet_of false 9 (re_config (outgoing_reset_request 100 99 (record { last_tsn = 99; streams = 4 ∷ 258 ∷ []; is_new = true }) ∷ []) ∷ []) ∷ []
unfolding parameter_bytes parameters_len parameter_chunk_bytes
repeated_as_new e = refl

renewed_no_more_new : (e : Endpoint) → expires (by_rfc (awaiting e 36 1 (Some (as_new (request true))) (timer 5_000_000_000 500_000_000 0)))
    ≡ expires (by_rfc (awaiting e 36 1 (Some (request true)) (timer 5_000_000_000 500_000_000 0)))
unfolding parameter_bytes parameters_len parameter_chunk_bytes
renewed_no_more_new e = refl

-- It keeps its number if the packet doesn't fit.
in_progress_too_long : (e : Endpoint) → expires (by_rfc (awaiting e 35 1 (Some (request true)) (timer 5_000_000_000 500_000_000 0)))
    ≡ still (by_rfc (awaiting e 35 1 (Some (request false)) (timer 6_000_000_000 1_000_000_000 1)))
unfolding parameter_bytes parameters_len parameter_chunk_bytes
in_progress_too_long e = refl

-- Where the peer didn't answer, it goes out under its own number with the option too.
not_answered_by_rfc : (e : Endpoint) → (expires (by_rfc (awaiting e 36 0 (Some (request false)) (timer 5_000_000_000 500_000_000 0)))).events ≡ packet ∷ []
unfolding parameter_bytes parameters_len parameter_chunk_bytes
not_answered_by_rfc e = refl

-- The second error is one too many: nothing goes out.
too_many : (e : Endpoint) → expires (awaiting e 36 1 (Some (request false)) (timer 5_000_000_000 500_000_000 0))
    ≡ still (awaiting e 36 2 (Some (request false)) (timer 6_000_000_000 1_000_000_000 1))
too_many e = refl

-- It doesn't fit.
too_long : (e : Endpoint) → expires (awaiting e 35 0 (Some (request false)) (timer 5_000_000_000 500_000_000 0))
    ≡ quiet (awaiting e 35 1 (Some (request false)) (timer 6_000_000_000 1_000_000_000 1)) [] []
unfolding parameter_bytes parameters_len parameter_chunk_bytes
too_long e = refl

-- Each wait is twice the last one, without a limit, and counts from the moment of the call, which may be late.
twentieth_time : (e : Endpoint) → (expires (awaiting e 36 0 (Some (request false)) (timer 4_000_000_000 524_288_000_000_000 19))).after.timers.reconfiguration
    ≡ timer 1_048_581_000_000_000 1_048_576_000_000_000 20
unfolding parameter_bytes parameters_len parameter_chunk_bytes
twentieth_time e = refl

-- Without a request the timer alone moves, and so without a peer.
no_request : (e : Endpoint) → expires (awaiting e 36 0 None (timer 5_000_000_000 500_000_000 0))
    ≡ still (awaiting e 36 0 None (timer 6_000_000_000 1_000_000_000 1))
no_request e = refl

no_peer : (e : Endpoint) → expires (record (awaiting e 36 0 (Some (request false)) (timer 5_000_000_000 500_000_000 0)) { core = cookie_wait mine })
    ≡ still (record (awaiting e 36 0 (Some (request false)) (timer 6_000_000_000 1_000_000_000 1)) { core = cookie_wait mine })
no_peer e = refl

-- ---- from the flush that begins it

-- A flush begins the reset of these streams. The retransmission timeout is half a second.
abbrev begun : BegunReset
begun = record { number = 100; reset = record { last_tsn = 99; streams = 4 ∷ 258 ∷ []; is_new = false } }

abbrev before : Endpoint → Endpoint
before e =
    let base : Endpoint = awaiting e 36 0 None None in
    record base { core = open_in established mine held; queues = record base.queues { transfer = transfer_begun 36 360 144 } }

-- It is due half a second later,
due_later : (e : Endpoint) → deadline (after_begun (Some begun) (before e)) (own_timer reconfiguration) ≡ Some 5_500_000_000
due_later e = refl

not_at_once : (e : Endpoint) → has_come 5_499_999_999 (deadline (after_begun (Some begun) (before e)) (own_timer reconfiguration)) ≡ false
not_at_once e = refl

then_it_is : (e : Endpoint) → has_come 5_500_000_000 (deadline (after_begun (Some begun) (before e)) (own_timer reconfiguration)) ≡ true
then_it_is e = refl

-- and what goes out then is what went out first, under the same number.
same_again : (e : Endpoint) → (expires (record (after_begun (Some begun) (before e)) { moment = 5_500_000_000 })).events ≡ packet ∷ []
unfolding parameter_bytes parameters_len parameter_chunk_bytes
same_again e = refl
