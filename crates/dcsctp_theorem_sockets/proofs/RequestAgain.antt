-- The turn of the reconfiguration timer: its request is read as itself, and all that is kept fits.
use Rattle.std.proofs.Common.{◌≡◌, ℕ, ◌+◌, ◌%◌, ◌^◌, ◌<◌, ◌≤◌, Bool, true, false, cond, Option, None, Some, [], ◌∷◌, refl, arith}
use Rattle.std.proofs.lemmas.Bool.Decides.{nat_tests}
use Rattle.dcsctp_spec_lemmas.specs.types.declared.association.Held.{Held}
use Rattle.dcsctp_spec_lemmas.specs.types.Settings.{packet_size_limit, IsValid}
use Rattle.dcsctp_spec_lemmas.specs.spec.Reconfiguration.{RequestedReset, renewed_reset}
use Rattle.dcsctp_spec_lemmas.specs.spec.endpoint.Endpoint.{Endpoint, OutstandingRequest}
use Rattle.dcsctp_spec_lemmas.specs.spec.endpoint.Outcome.{quiet, sends, contents_len, to_peer}
use Rattle.dcsctp_spec_lemmas.specs.spec.endpoint.Outcome.{fits as fits_mtu}
use Rattle.dcsctp_spec_lemmas.specs.spec.association.FlushChanges.{reset_request}
use Rattle.dcsctp_spec_lemmas.specs.spec.endpoint.HeartbeatOutcomes.{is_exhausted}
use Rattle.dcsctp_spec_lemmas.specs.spec.endpoint.ReconfigurationOutcomes.{reset_again, request_emitted, renewed_request_if_fitting, request_renewed, request_unless, is_renewed, request_errors, request_expired, reconfiguration_outcome, as_renewed}
use Rattle.dcsctp_spec_runs.specs.Fitting.{FitsNumber, FitsHeld, FitsEndpoint, Sendable, TurnFits}
use Rattle.dcsctp_theorem_sockets.proofs.BegunSends.{FitsPeer, request_sendable, asking_fits, asking_runs}
use Rattle.dcsctp_theorem_sockets.proofs.FlushFits.{still_fits}

-- ---- the packet

-- A packet of one chunk that fits `mtu` leaves room for its length.
short_enough : (e : Endpoint) (held : Held) (number : ℕ) (reset : RequestedReset) → IsValid e.options → fits_mtu e (to_peer held (reset_request number reset)) ≡ true
    → contents_len (reset_request number reset ∷ []) < 2 ^ 16
short_enough e held number reset valid fits =
    let limit : packet_size_limit e.options ≤ 65535 = omega (arith, valid.greatest_size) in
    let len : ℕ = contents_len (reset_request number reset ∷ []) in
    let within : 12 + len ≤ packet_size_limit e.options = grind (arith, nat_tests, fits) in
    omega (arith, limit, within)

again_sendable : (e : Endpoint) (held : Held) (number : ℕ) (request : OutstandingRequest) → IsValid e.options → fits_mtu e (to_peer held (reset_request number (reset_again (Some request)))) ≡ true
    → number < 2 ^ 32 → Sendable (reset_request number (reset_again (Some request)))
again_sendable e held number request valid fits number_fits =
    request_sendable request.is_new number (request.last_tsn % 2 ^ 32) request.streams number_fits (omega arith)
    (short_enough e held number (reset_again (Some request)) valid fits)

packet_fits : (b : Bool) (e : Endpoint) (held : Held) (number : ℕ) (request : OutstandingRequest) → fits_mtu e (to_peer held (reset_request number (reset_again (Some request)))) ≡ b
    → FitsEndpoint e → FitsHeld held → number < 2 ^ 32
    → TurnFits (cond b (sends e [] [] (to_peer held (reset_request number (reset_again (Some request))))) (quiet e [] []))
packet_fits true e held number request is h fits number_fits =
    record {
      after = record { valid = h.valid; options = h.options; core = h.core; t1 = h.t1 };
      sends = (record { tag = fits.peer.tag; contents = (again_sendable e held number request h.valid is number_fits, tt) }, tt);
    }
packet_fits false e held number request is h fits number_fits = record { after = h; sends = tt }

emitted_fits : (e : Endpoint) (held : Held) (number : Option ℕ) (request : OutstandingRequest) → FitsEndpoint e → FitsHeld held → FitsNumber number
    → TurnFits (request_emitted e held number (reset_again (Some request)))
emitted_fits e held None request h fits number_fits = still_fits e h
emitted_fits e held (Some number) request h fits number_fits =
    packet_fits (fits_mtu e (to_peer held (reset_request number (reset_again (Some request))))) e held number request refl h fits number_fits

-- under the next number, which is outstanding then
renewed_fits : (b : Bool) (e : Endpoint) (held : Held) (number : ℕ) (request : OutstandingRequest)
    → fits_mtu e (to_peer held (reset_request held.own_next (renewed_reset (reset_again (Some request))))) ≡ b → FitsEndpoint e → FitsHeld held
    → TurnFits (renewed_request_if_fitting b e held number (reset_request held.own_next (renewed_reset (reset_again (Some request)))))
renewed_fits true e held number request is h fits =
    record {
      after = record { valid = h.valid; options = h.options; core = asking_fits e.core h.core; t1 = asking_runs e.core e.timers.t1 h.t1 };
      sends = (record { tag = fits.peer.tag; contents = (again_sendable e held held.own_next (as_renewed request) h.valid is fits.own_next, tt) }, tt);
    }
renewed_fits false e held number request is h fits = still_fits e h

anew_fits : (e : Endpoint) (held : Held) (number : Option ℕ) (request : OutstandingRequest) → FitsEndpoint e → FitsHeld held
    → TurnFits (request_renewed e held number (reset_again (Some request)))
anew_fits e held None request h fits = still_fits e h
anew_fits e held (Some number) request h fits =
    renewed_fits (fits_mtu e (to_peer held (reset_request held.own_next (renewed_reset (reset_again (Some request)))))) e held number request refl h fits

-- ---- the turn

unless_fits : (b is_new : Bool) (e : Endpoint) (held : Held) (request : OutstandingRequest) → FitsEndpoint e → FitsHeld held
    → TurnFits (request_unless b is_new e held (reset_again (Some request)))
unless_fits true is_new e held request h fits = still_fits e h
unless_fits false false e held request h fits = emitted_fits e held held.own_outstanding request h fits fits.own_outstanding
unless_fits false true e held request h fits = anew_fits e held held.own_outstanding request h fits

pub reconfiguration_fits : (e : Endpoint) (peer : Option Held) (request : Option OutstandingRequest) → FitsEndpoint e → FitsPeer peer → TurnFits (reconfiguration_outcome e peer request)
reconfiguration_fits e None request h fits = record { after = record { valid = h.valid; options = h.options; core = h.core; t1 = h.t1 }; sends = tt }
reconfiguration_fits e (Some held) None h fits = record { after = record { valid = h.valid; options = h.options; core = h.core; t1 = h.t1 }; sends = tt }
reconfiguration_fits e (Some held) (Some request) h fits =
    unless_fits (is_exhausted e.options.max_retransmissions (request_errors e request)) (is_renewed e (Some request)) (request_expired e request) held request
    (record { valid = h.valid; options = h.options; core = h.core; t1 = h.t1 }) fits
