-- Our own abort leaves numbers that fit their fields, and sends what is read as itself.
use Rattle.std.proofs.Common.{◌≡◌, ℕ, Bool, true, false, cond, ltb, List, [], ◌∷◌, arith, refl}
use Rattle.std.specs.List.{AllByRecursion}
use Rattle.std.proofs.lemmas.Bool.Decides.{nat_tests}
use Rattle.dcsctp_spec_lemmas.specs.wire.Spelling.{parameters_len}
use Rattle.dcsctp_spec_lemmas.specs.wire.ReadsBack.{IsByte}
use Rattle.dcsctp_spec_lemmas.specs.types.declared.association.Held.{Held}
use Rattle.dcsctp_spec_lemmas.specs.types.declared.ends.Violation.{Violation}
use Rattle.dcsctp_spec_lemmas.specs.types.declared.ends.Violation.TheVariants.{DataWithInterleaving, InterleavedDataWithout, ForwardTsnWithout}
use Rattle.dcsctp_spec_lemmas.specs.types.declared.ends.AbortReason.{AbortReason}
use Rattle.dcsctp_spec_lemmas.specs.types.declared.ends.AbortReason.TheVariants as reasons
use Rattle.dcsctp_spec_lemmas.specs.spec.endpoint.Cause.{violation_text, reason_text, causes_of}
use Rattle.dcsctp_spec_lemmas.specs.spec.Packet.{abort}
use Rattle.dcsctp_spec_lemmas.specs.spec.endpoint.Endpoint.{Endpoint, Core, closed, cookie_wait, cookie_echoed, open_in}
use Rattle.dcsctp_spec_lemmas.specs.spec.endpoint.Outcome.{sends, quiet, fits}
use Rattle.dcsctp_spec_lemmas.specs.spec.endpoint.EndOutcomes.{ended_outcome, end_of, abort_to, aborting_outcome}
use Rattle.dcsctp_spec_runs.specs.Fitting.{AllSent, FitsHeld, FitsCore, FitsEndpoint, IsSendable, Sendable, TurnFits}

-- ---- texts

all_bytes : List ℕ → Bool
all_bytes [] = true
all_bytes (byte ∷ bytes) = cond (ltb byte 256) (all_bytes bytes) false

byte_by : (test : Bool) (byte : ℕ) (bytes : List ℕ) → ltb byte 256 ≡ test → cond test (all_bytes bytes) false ≡ true → IsByte byte
byte_by true byte bytes tests all = grind (arith, nat_tests)
byte_by false byte bytes tests all = absurd (cc)

rest_by : (test : Bool) (bytes : List ℕ) → cond test (all_bytes bytes) false ≡ true → all_bytes bytes ≡ true
rest_by true bytes all = all
rest_by false bytes all = absurd (cc)

tested_bytes : (bytes : List ℕ) → all_bytes bytes ≡ true → AllByRecursion IsByte bytes
unfolding all_bytes
tested_bytes [] all = tt
tested_bytes (byte ∷ bytes) all = (byte_by (ltb byte 256) byte bytes refl all, tested_bytes bytes (rest_by (ltb byte 256) bytes all))

violation_in_bytes : (violation : Violation) → AllByRecursion IsByte (violation_text violation)
unfolding all_bytes
violation_in_bytes DataWithInterleaving = tested_bytes (violation_text DataWithInterleaving) refl
violation_in_bytes InterleavedDataWithout = tested_bytes (violation_text InterleavedDataWithout) refl
violation_in_bytes ForwardTsnWithout = tested_bytes (violation_text ForwardTsnWithout) refl

reason_in_bytes : (reason : AbortReason) → AllByRecursion IsByte (reason_text reason)
unfolding all_bytes
reason_in_bytes reasons.CloseCalled = tested_bytes (reason_text reasons.CloseCalled) refl
reason_in_bytes (reasons.Violation violation) = violation_in_bytes violation
reason_in_bytes reasons.TooManyErrors = tested_bytes (reason_text reasons.TooManyErrors) refl

-- ---- the ABORT

violation_sendable : (violation : Violation) → Sendable (abort false (causes_of (reasons.Violation violation)))
unfolding parameters_len
violation_sendable DataWithInterleaving =
    record { fits = record { len_fits = omega arith; causes_fit = (violation_in_bytes DataWithInterleaving, tt) }; reads = refl; said = tt }
violation_sendable InterleavedDataWithout =
    record { fits = record { len_fits = omega arith; causes_fit = (violation_in_bytes InterleavedDataWithout, tt) }; reads = refl; said = tt }
violation_sendable ForwardTsnWithout =
    record { fits = record { len_fits = omega arith; causes_fit = (violation_in_bytes ForwardTsnWithout, tt) }; reads = refl; said = tt }

reason_sendable : (reason : AbortReason) → Sendable (abort false (causes_of reason))
unfolding parameters_len
reason_sendable reasons.CloseCalled =
    record { fits = record { len_fits = omega arith; causes_fit = (reason_in_bytes reasons.CloseCalled, tt) }; reads = refl; said = tt }
reason_sendable (reasons.Violation violation) = violation_sendable violation
reason_sendable reasons.TooManyErrors =
    record { fits = record { len_fits = omega arith; causes_fit = (reason_in_bytes reasons.TooManyErrors, tt) }; reads = refl; said = tt }

-- ---- the turn

-- The event that ends it is no packet.
end_fits : (reason : AbortReason) → AllSent IsSendable (end_of reason ∷ [])
end_fits reasons.CloseCalled = (tt, tt)
end_fits (reasons.Violation violation) = (tt, tt)
end_fits reasons.TooManyErrors = (tt, tt)

aborts_fit : (b : Bool) (e : Endpoint) (held : Held) (reason : AbortReason) → FitsEndpoint e → FitsHeld held
    → TurnFits (ended_outcome (cond b (sends e [] [] (abort_to held reason)) (quiet e [] [])) (end_of reason))
aborts_fit true e held reason h fits =
    record { after = record { valid = h.valid; options = h.options; core = tt; t1 = tt }; sends = (record { tag = fits.peer.tag; contents = (reason_sendable reason, tt) }, end_fits reason) }
aborts_fit false e held reason h fits = record { after = record { valid = h.valid; options = h.options; core = tt; t1 = tt }; sends = end_fits reason }

pub aborting_fits : (e : Endpoint) (core : Core) (reason : AbortReason) → FitsEndpoint e → FitsCore core → TurnFits (aborting_outcome e core reason)
aborting_fits e closed reason h own = record { after = h; sends = tt }
aborting_fits e (cookie_wait my) reason h own = record { after = record { valid = h.valid; options = h.options; core = tt; t1 = tt }; sends = end_fits reason }
aborting_fits e (cookie_echoed my held cookie) reason h own = aborts_fit (fits e (abort_to held reason)) e held reason h own.1
aborting_fits e (open_in phase my held) reason h own = aborts_fit (fits e (abort_to held reason)) e held reason h own.1
