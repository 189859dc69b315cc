-- What the timers of a receiver leave, each for itself.
use Rattle.std.specs.Prelude.{if◌then◌else◌}
use Rattle.std.proofs.Common.{◌≡◌, ℕ, suc, Bool, true, false, Option, None, Some, [], refl, sym, ap, ◌∙◌, subst, arith}
use Rattle.std.proofs.lemmas.Bool.Decides.{nat_tests}
use Rattle.dcsctp_spec_lemmas.specs.types.declared.association.Held.{Held}
use Rattle.dcsctp_spec_lemmas.specs.types.declared.capabilities.Capabilities.{Capabilities}
use Rattle.dcsctp_spec_lemmas.specs.types.declared.options.Options.{Options}
use Rattle.dcsctp_spec_lemmas.specs.spec.Packet.{Content, Emission}
use Rattle.dcsctp_spec_lemmas.specs.spec.Reconfiguration.{RequestedReset, renewed_reset}
use Rattle.dcsctp_spec_lemmas.specs.spec.association.FlushChanges.{held_asking, reset_request}
use Rattle.dcsctp_spec_lemmas.specs.spec.endpoint.BegunResets.{core_asking}
use Rattle.dcsctp_spec_lemmas.specs.spec.endpoint.DataOutcomes.{LossTurn, delay_outcome}
use Rattle.dcsctp_spec_lemmas.specs.spec.endpoint.Endpoint.{Endpoint, Core, OutstandingRequest}
use Rattle.dcsctp_spec_lemmas.specs.spec.endpoint.HeartbeatOutcomes.{error_counted, is_exhausted, interval_expired, beating, heartbeat_emission, interval_outcome, timeout_outcome}
use Rattle.dcsctp_spec_lemmas.specs.spec.endpoint.Outcome.{Outcome, quiet, sends, fits, to_peer}
use Rattle.dcsctp_spec_lemmas.specs.spec.endpoint.ReconfigurationOutcomes.{reset_again, request_emitted, renewed_request_if_fitting, request_renewed, is_renewed, request_repeated, request_unless, reconfiguration_expired, request_expired, reconfiguration_outcome}
use Rattle.dcsctp_spec_lemmas.specs.spec.endpoint.TimeTurns.{deadline_of, has_come}
use Rattle.dcsctp_spec_lemmas.specs.spec.endpoint.TransferMoves.{lost_all}
use Rattle.dcsctp_spec_lemmas.specs.spec.queues.Tracker.{delay_over}
use Rattle.dcsctp_spec_lemmas.specs.spec.queues.Transfer.{Transfer}
use Rattle.dcsctp_theorem_transfer.specs.Expiring.{LeavesErrors}
use Rattle.dcsctp_theorem_transfer.proofs.ExpiringBeats.{beat_by}
use Rattle.dcsctp_theorem_transfer.proofs.Passing.{with_numbers}
use Rattle.dcsctp_theorem_transfer.proofs.Unmoved.{SameReceived, same_then, StaysReceiver}

-- ---- errors

fewer_errors : (limit : Option ℕ) (count more : ℕ) → LeavesErrors limit count (suc more) → LeavesErrors limit count more
fewer_errors None count more h = tt
fewer_errors (Some limit) count more h = omega (arith, h)

one_more_error : (limit : Option ℕ) (count more : ℕ) → LeavesErrors limit count (suc more) → LeavesErrors limit (error_counted limit count) more
one_more_error None count more h = tt
one_more_error (Some limit) count more h = omega (arith, h)

pub within : (limit : Option ℕ) (count more : ℕ) → LeavesErrors limit count more → is_exhausted limit count ≡ false
within None count more h = refl
within (Some limit) count more h = grind (arith, nat_tests, h)

module _ (base : Transfer) (options : Options) (kinds : Capabilities) where
  -- It receives as before, that many errors more are within the limit, and T2 isn't due.
  pub record Ticks (more : ℕ) (f : Endpoint) : Type 0 where
    pub stays : StaysReceiver base options kinds f
    pub errors : LeavesErrors options.max_retransmissions f.error_count more
    pub t2 : has_come f.moment (deadline_of f.timers.t2) ≡ false

  abbrev Receives : Endpoint → Type 0
  Receives f = StaysReceiver base options kinds f

  pub fewer : (more : ℕ) (f : Endpoint) → Ticks (suc more) f → Ticks more f
  fewer more f h = record { stays = h.stays; errors = fewer_errors options.max_retransmissions f.error_count more h.errors; t2 = h.t2 }

  pub same_receives : (f g : Endpoint) → g.core ≡ f.core → g.options ≡ f.options → g.queues.transfer ≡ f.queues.transfer → Receives f → Receives g
  same_receives f g core same transfer h =
      record { my = h.my; held = h.held; phase = core ∙ h.phase; kinds_are = h.kinds_are; options_are = same ∙ h.options_are; left = h.left; has = transfer ∙ h.has; same = h.same }

  counted : (more : ℕ) (f : Endpoint) → Ticks (suc more) f → LeavesErrors options.max_retransmissions (error_counted f.options.max_retransmissions f.error_count) more
  counted more f h =
      subst (λ (o : Options). LeavesErrors options.max_retransmissions (error_counted o.max_retransmissions f.error_count) more) (sym h.stays.options_are)
      (one_more_error options.max_retransmissions f.error_count more h.errors)

  -- ---- each timer

  pub delay_goes : (more : ℕ) (f : Endpoint) (found : Option Transfer) → (h : Ticks more f) → found ≡ Some h.stays.left → Ticks more (delay_outcome f found).after
  delay_goes more f None h has = absurd (cc)
  delay_goes more f (Some t) h has =
      record {
        stays = with_numbers base options kinds f t (delay_over t.tracker) h.stays (let same : h.stays.left ≡ t = cc in same) (record { cumulative = refl; ranges = refl; follows = refl });
        errors = h.errors;
        t2 = h.t2;
      }

  pub loss_goes : (more : ℕ) (f : Endpoint) (found : Option Transfer) (o : Outcome) → (h : Ticks (suc more) f) → found ≡ Some h.stays.left → LossTurn f found o → Ticks more o.after
  loss_goes more f None o h has turn = absurd (cc)
  loss_goes more f (Some t) o h has turn =
      subst (λ (x : Outcome). Ticks more x.after) (sym turn)
      (record {
        stays = record {
          my = h.stays.my;
          held = h.stays.held;
          phase = h.stays.phase;
          kinds_are = h.stays.kinds_are;
          options_are = h.stays.options_are;
          left = lost_all f.moment t;
          has = refl;
          same = same_then base t (lost_all f.moment t) (subst (SameReceived base) (let same : h.stays.left ≡ t = cc in same) h.stays.same)
              (record { cumulative = refl; ranges = refl; follows = refl; reassembly = refl });
        };
        errors = counted more f h;
        t2 = h.t2;
      })

  beat_goes : (fitting : Bool) (more : ℕ) (f : Endpoint) (held : Held) → Ticks more f → Ticks more (beat_by fitting f held).after
  beat_goes true more f held h = record { stays = same_receives f (beat_by true f held).after refl refl refl h.stays; errors = h.errors; t2 = h.t2 }
  beat_goes false more f held h = record { stays = same_receives f (beat_by false f held).after refl refl refl h.stays; errors = h.errors; t2 = h.t2 }

  pub interval_goes : (more : ℕ) (f : Endpoint) → Ticks more f → Ticks more (interval_outcome f f.core).after
  interval_goes more f h =
      let after : Endpoint = beating (interval_expired f) in
      subst (λ (core : Core). Ticks more (interval_outcome f core).after) (sym h.stays.phase) (beat_goes (fits after (heartbeat_emission h.stays.held after.heartbeat_counter)) more f h.stays.held h)

  pub timeout_goes : (more : ℕ) (f : Endpoint) → Ticks (suc more) f → Ticks more (timeout_outcome f).after
  timeout_goes more f h = record { stays = same_receives f (timeout_outcome f).after refl refl refl h.stays; errors = counted more f h; t2 = h.t2 }

  -- ---- a request

  request_errors_left : (more : ℕ) (f : Endpoint) (waits : Bool) → Ticks (suc more) f
      → LeavesErrors options.max_retransmissions (if waits then f.error_count else error_counted f.options.max_retransmissions f.error_count) more
  request_errors_left more f true h = fewer_errors options.max_retransmissions f.error_count more h.errors
  request_errors_left more f false h = counted more f h

  expired_goes : (more : ℕ) (f : Endpoint) (request : OutstandingRequest) → Ticks (suc more) f → Ticks more (request_expired f request)
  expired_goes more f request h =
      record { stays = same_receives f (request_expired f request) refl refl refl h.stays; errors = request_errors_left more f request.waits_for_retry h; t2 = h.t2 }

  emitted_goes : (more : ℕ) (f : Endpoint) (emission : Emission) (fitting : Bool) → Ticks more f → Ticks more (if fitting then sends f [] [] emission else quiet f [] []).after
  emitted_goes more f emission true h = record { stays = same_receives f (sends f [] [] emission).after refl refl refl h.stays; errors = h.errors; t2 = h.t2 }
  emitted_goes more f emission false h = h

  sent_again_goes : (more : ℕ) (f : Endpoint) (held : Held) (number : Option ℕ) (reset : RequestedReset) → Ticks more f → Ticks more (request_emitted f held number reset).after
  sent_again_goes more f held None reset h = h
  sent_again_goes more f held (Some number) reset h =
      emitted_goes more f (to_peer held (reset_request number reset)) (fits f (to_peer held (reset_request number reset))) h

  renewed_if_fits : (more : ℕ) (f : Endpoint) (held : Held) (number : ℕ) (request : Content) (fitting : Bool) → Ticks more f → Ticks more (renewed_request_if_fitting fitting f held number request).after
  renewed_if_fits more f held number request false h = h
  renewed_if_fits more f held number request true h =
      record {
        stays = record {
          my = h.stays.my;
          held = held_asking h.stays.held;
          phase = ap core_asking h.stays.phase;
          kinds_are = h.stays.kinds_are;
          options_are = h.stays.options_are;
          left = h.stays.left;
          has = h.stays.has;
          same = h.stays.same;
        };
        errors = h.errors;
        t2 = h.t2;
      }

  renewed_goes : (more : ℕ) (f : Endpoint) (held : Held) (number : Option ℕ) (reset : RequestedReset) → Ticks more f → Ticks more (request_renewed f held number reset).after
  renewed_goes more f held None reset h = h
  renewed_goes more f held (Some number) reset h =
      let request : Content = reset_request held.own_next (renewed_reset reset) in
      renewed_if_fits more f held number request (fits f (to_peer held request)) h

  repeated_goes : (more : ℕ) (renewed : Bool) (f : Endpoint) (held : Held) (reset : RequestedReset) → Ticks more f → Ticks more (request_repeated renewed f held reset).after
  repeated_goes more false f held reset h = sent_again_goes more f held held.own_outstanding reset h
  repeated_goes more true f held reset h = renewed_goes more f held held.own_outstanding reset h

  unless_goes : (more : ℕ) (exhausted renewed : Bool) (f : Endpoint) (held : Held) (reset : RequestedReset) → Ticks more f → Ticks more (request_unless exhausted renewed f held reset).after
  unless_goes more true renewed f held reset h = h
  unless_goes more false renewed f held reset h = repeated_goes more renewed f held reset h

  waits_goes : (more : ℕ) (f : Endpoint) → Ticks (suc more) f → Ticks more (reconfiguration_expired f)
  waits_goes more f h =
      let left : Ticks more f = fewer more f h in record { stays = same_receives f (reconfiguration_expired f) refl refl refl h.stays; errors = left.errors; t2 = h.t2 }

  pub request_goes : (more : ℕ) (f : Endpoint) (peer : Option Held) (request : Option OutstandingRequest) → Ticks (suc more) f → Ticks more (reconfiguration_outcome f peer request).after
  request_goes more f None request h = waits_goes more f h
  request_goes more f (Some held) None h = waits_goes more f h
  request_goes more f (Some held) (Some request) h =
      let after : Endpoint = request_expired f request in
      unless_goes more (is_exhausted after.options.max_retransmissions after.error_count) (is_renewed f (Some request)) after held (reset_again (Some request)) (expired_goes more f request h)
