-- The turns of chunks that concern no association leave numbers that fit their fields, and send what is
-- read as itself.
use Rattle.std.proofs.Common.{◌==◌, ◌≤◌, ◌-◌, ◌+◌, ℕ, Bool, true, false, cond, Option, None, Some, List, [], ◌∷◌, length, take, refl, sym, subst, arith}
use Rattle.std.specs.Int.{w16, to_be_bytes}
use Rattle.std.specs.List.{AllByRecursion}
use Rattle.std.proofs.lemmas.List.{length-take}
use Rattle.std.proofs.lemmas.List.Elements.{All-take, All-from_recursion, recursion_from_All}
use Rattle.dcsctp_spec_lemmas.specs.wire.Spelling.{parameters_len}
use Rattle.dcsctp_spec_lemmas.specs.wire.ReadsBack.{IsByte}
use Rattle.dcsctp_spec_lemmas.specs.types.declared.association.Held.{Held}
use Rattle.dcsctp_spec_lemmas.specs.types.declared.ends.Violation.{Violation}
use Rattle.dcsctp_spec_lemmas.specs.types.declared.ends.AbortReason.TheVariants as reasons
use Rattle.dcsctp_spec_lemmas.specs.types.declared.kinds.ErrorKind.TheVariants.{ParseFailed}
use Rattle.dcsctp_spec_lemmas.specs.types.Settings.{packet_size_limit}
use Rattle.dcsctp_spec_lemmas.specs.spec.endpoint.Cause.{Cause}
use Rattle.dcsctp_spec_lemmas.specs.spec.endpoint.Event.{error}
use Rattle.dcsctp_spec_lemmas.specs.spec.Packet.{Plain, plain, unknown, heartbeat, heartbeat_ack, unworked, Emission}
use Rattle.dcsctp_spec_lemmas.specs.spec.endpoint.Endpoint.{Endpoint, Core, closed, cookie_wait, cookie_echoed, open_in}
use Rattle.dcsctp_spec_lemmas.specs.spec.endpoint.Outcome.{Outcome, still, quiet, sends, emits, answers_with, to_peer}
use Rattle.dcsctp_spec_lemmas.specs.spec.endpoint.Outcome.{fits as fits_mtu}
use Rattle.dcsctp_spec_lemmas.specs.wire.Content.{ParameterContent, data_chunk, sack_chunk, error_chunk, i_data_chunk, forward_tsn_chunk, i_forward_tsn_chunk}
use Rattle.dcsctp_spec_lemmas.specs.spec.endpoint.HeartbeatOutcomes.{heartbeat_outcome, first_heartbeat_info, counter_of, endpoint_answered, heartbeat_ack_outcome}
use Rattle.dcsctp_spec_lemmas.specs.spec.endpoint.PlainOutcomes.{PlainTurn, PlainTurnUnlessViolating, violation_by_core, is_reported, after_unknown, unknown_text, unknown_bytes, unknown_error, unknown_report, unknown_chunk_outcome, error_outcome}
use Rattle.dcsctp_spec_runs.specs.Fitting.{FitsHeld, FitsCore, FitsEndpoint, Sendable, TurnFits}
use Rattle.dcsctp_theorem_sockets.proofs.Aborting.{aborting_fits}
use Rattle.dcsctp_theorem_sockets.proofs.Bytes.{both, in_two}
use Rattle.dcsctp_spec_lemmas.specs.spec.queues.Arrivals.{data_arrival, i_data_arrival, named_skips, skipped_messages}
use Rattle.dcsctp_spec_lemmas.proofs.AbortLemmas.{by_error_outcome}
use Rattle.dcsctp_spec_lemmas.proofs.OneAnswerLemmas.{answered_by}
use Rattle.dcsctp_theorem_sockets.proofs.DataFits.{data_fits, sack_fits, forward_fits}
use Rattle.dcsctp_theorem_sockets.proofs.FlushFits.{still_fits, answering_fits}

-- ---- the report of a chunk of a type that isn't known

unknown_in_bytes : (type flags : ℕ) (value : List ℕ) → IsByte type → IsByte flags → AllByRecursion IsByte value → AllByRecursion IsByte (unknown_bytes type flags value)
unknown_in_bytes type flags value a b each = (a, (b, both (to_be_bytes w16 (4 + length value)) value (in_two (4 + length value)) each))

taken_in_bytes : (n : ℕ) (bytes : List ℕ) → AllByRecursion IsByte bytes → AllByRecursion IsByte (take n bytes)
taken_in_bytes n bytes each = recursion_from_All IsByte (take n bytes) (All-take IsByte n bytes (All-from_recursion IsByte bytes each))

report_sendable : (e : Endpoint) (chunk : List ℕ) → FitsEndpoint e → AllByRecursion IsByte chunk → Sendable (plain (unknown_error e chunk))
unfolding parameters_len
report_sendable e chunk h each =
    let limit : packet_size_limit e.options ≤ 65535 = omega (arith, h.valid.greatest_size) in
    let short : length (take (packet_size_limit e.options - 20) chunk) ≤ packet_size_limit e.options - 20 = omega (arith, length-take (packet_size_limit e.options - 20) chunk) in
    record {
      fits = record { len_fits = omega (arith, limit, short); causes_fit = (taken_in_bytes (packet_size_limit e.options - 20) chunk each, tt) };
      reads = refl;
      said = tt;
    }

report_fits : (e : Endpoint) (held : Held) (type : ℕ) (chunk : List ℕ) → FitsEndpoint e → FitsHeld held → AllByRecursion IsByte chunk
    → TurnFits (record (sends e [] (error ParseFailed (unknown_text type) ∷ []) (unknown_report e held chunk)) { following = after_unknown type })
report_fits e held type chunk h fits each =
    record {
      after = record { valid = h.valid; options = h.options; core = h.core; t1 = h.t1 };
      sends = (tt, (record { tag = fits.peer.tag; contents = (report_sendable e chunk h each, tt) }, tt));
    }

unknown_fits : (e : Endpoint) (core : Core) (type : ℕ) (chunk : List ℕ) (reported : Bool) → FitsEndpoint e → FitsCore core → AllByRecursion IsByte chunk
    → TurnFits (record (cond reported (unknown_chunk_outcome e core type chunk) (still e)) { following = after_unknown type })
unknown_fits e core type chunk false h own each = record { after = h; sends = tt }
unknown_fits e closed type chunk true h own each = record { after = h; sends = (tt, tt) }
unknown_fits e (cookie_wait my) type chunk true h own each = record { after = h; sends = (tt, tt) }
unknown_fits e (cookie_echoed my held cookie) type chunk true h own each = report_fits e held type chunk h own.1 each
unknown_fits e (open_in phase my held) type chunk true h own each = report_fits e held type chunk h own.1 each

-- ---- an ERROR

error_fits : (e : Endpoint) (core : Core) (causes : List Cause) → FitsEndpoint e → TurnFits (error_outcome e core causes)
error_fits e core causes h =
    by_error_outcome TurnFits e core causes (record { after = record { valid = h.valid; options = h.options; core = tt; t1 = tt }; sends = (tt, tt) })
    (record { after = h; sends = (tt, tt) }) (still_fits e h)

-- ---- heartbeats

abbrev answer_to : Held → List ParameterContent → Emission
answer_to held parameters = to_peer held (plain (heartbeat_ack parameters))

-- What fits in the one fits in the other.
answer_sendable : (parameters : List ParameterContent) → Sendable (plain (heartbeat parameters)) → Sendable (plain (heartbeat_ack parameters))
answer_sendable parameters good = record { fits = good.fits; reads = refl; said = tt }

answer_fits : (b : Bool) (e : Endpoint) (held : Held) (parameters : List ParameterContent) → FitsEndpoint e → FitsHeld held → Sendable (plain (heartbeat parameters))
    → TurnFits (cond b (sends e [] [] (answer_to held parameters)) (quiet e [] []))
answer_fits true e held parameters h fits good =
    record {
      after = record { valid = h.valid; options = h.options; core = h.core; t1 = h.t1 };
      sends = (record { tag = fits.peer.tag; contents = (answer_sendable parameters good, tt) }, tt);
    }
answer_fits false e held parameters h fits good = record { after = h; sends = tt }

answered_fits : (e : Endpoint) (held : Held) (parameters : List ParameterContent) → FitsEndpoint e → FitsHeld held → Sendable (plain (heartbeat parameters))
    → TurnFits (answers_with e (answer_to held parameters))
answered_fits e held parameters h fits good =
    answered_by TurnFits e (answer_to held parameters) (still_fits e h)
    (answering_fits (emits e [] (answer_to held parameters)) (answer_fits (fits_mtu e (answer_to held parameters)) e held parameters h fits good))

heartbeat_fits : (e : Endpoint) (core : Core) (parameters : List ParameterContent) → FitsEndpoint e → FitsCore core → Sendable (plain (heartbeat parameters)) → TurnFits (heartbeat_outcome e core parameters)
heartbeat_fits e closed parameters h own good = record { after = h; sends = tt }
heartbeat_fits e (cookie_wait my) parameters h own good = record { after = h; sends = tt }
heartbeat_fits e (cookie_echoed my held cookie) parameters h own good = answered_fits e held parameters h own.1 good
heartbeat_fits e (open_in phase my held) parameters h own good = answered_fits e held parameters h own.1 good

counted_fits : (b : Bool) (e : Endpoint) → FitsEndpoint e → TurnFits (cond b (still (endpoint_answered e)) (still e))
counted_fits true e h = record { after = record { valid = h.valid; options = h.options; core = h.core; t1 = h.t1 }; sends = tt }
counted_fits false e h = record { after = h; sends = tt }

heartbeat_ack_fits : (e : Endpoint) (counter : Option ℕ) → FitsEndpoint e → TurnFits (heartbeat_ack_outcome e counter)
heartbeat_ack_fits e None h = record { after = h; sends = (tt, tt) }
heartbeat_ack_fits e (Some counter) h = counted_fits (counter == e.heartbeat_counter) e h

-- ---- each

plain_by : (e : Endpoint) (chunk : Plain) (violation : Option Violation) (o : Outcome) → PlainTurnUnlessViolating e chunk violation o → FitsEndpoint e → Sendable (plain chunk) → TurnFits o
plain_by e chunk (Some violation) o turn h good = subst TurnFits (sym turn) (aborting_fits e e.core (reasons.Violation violation) h h.core)
plain_by e (unknown type flags value) None o turn h good =
    subst TurnFits (sym turn)
    (unknown_fits e e.core type (unknown_bytes type flags value) (is_reported type) h h.core
    (unknown_in_bytes type flags value good.fits.type_fits good.fits.flags_fit good.fits.value_in_bytes))
plain_by e (heartbeat parameters) None o turn h good = subst TurnFits (sym turn) (heartbeat_fits e e.core parameters h h.core good)
plain_by e (heartbeat_ack parameters) None o turn h good = subst TurnFits (sym turn) (heartbeat_ack_fits e (counter_of (first_heartbeat_info parameters)) h)
plain_by e (unworked (data_chunk chunk)) None o turn h good = data_fits e (data_arrival chunk) o turn h good.fits.tsn
plain_by e (unworked (i_data_chunk chunk)) None o turn h good = data_fits e (i_data_arrival chunk) o turn h good.fits.tsn
plain_by e (unworked (sack_chunk chunk)) None o turn h good = sack_fits e e.queues.transfer chunk o turn h
plain_by e (unworked (forward_tsn_chunk tsn streams)) None o turn h good = forward_fits e e.queues.transfer tsn (named_skips streams) o turn h
plain_by e (unworked (i_forward_tsn_chunk tsn streams)) None o turn h good = forward_fits e e.queues.transfer tsn (skipped_messages streams) o turn h
plain_by e (unworked (error_chunk causes)) None o turn h good = subst TurnFits (sym turn) (error_fits e e.core causes h)
plain_by e (unworked chunk) None o turn h good = subst TurnFits (sym turn) (still_fits e h)

pub plain_fits : (e : Endpoint) (chunk : Plain) (o : Outcome) → PlainTurn e chunk o → FitsEndpoint e → Sendable (plain chunk) → TurnFits o
plain_fits e chunk o turn h good = plain_by e chunk (violation_by_core e.core chunk) o turn h good
