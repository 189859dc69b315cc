-- Lemmas on what is counted.
use Rattle.std.proofs.Common.{◌≡◌, ℕ, ◌+◌, ◌≤◌, arith, subst, sym}
use Rattle.dcsctp_receive_reassembly.specs.declared.runs.Assembled.{Assembled}
use Rattle.dcsctp_receive_reassembly.specs.declared.counting.Counted.{Counted}
use Rattle.dcsctp_receive_reassembly.specs.Counting.{CountsPart, CountsOutcome}

-- A stream of a map was written, so what all use changed as what it uses.
pub counts_written : (part old new before after ready shown : ℕ) (counted : Counted) → new + before ≡ old + after → CountsPart part (before + ready) counted (after + shown) → before ≤ old → CountsPart part (old + ready) counted (new + shown)
counts_written part old new before after ready shown counted written counts among =
    record { fits = omega (arith, written, counts.fits); added = omega (arith, written, counts.added, among); less = omega (arith, written, counts.less); freed = omega (arith, written, counts.less, counts.freed) }

-- The part has as many bytes as were counted.
pub counted_size : (overhead size length : ℕ) (outcome : Assembled) (counted : Counted) → length ≡ size → CountsOutcome overhead size outcome counted → CountsOutcome overhead length outcome counted
counted_size overhead size length outcome counted same counts = subst (λ (bytes : ℕ). CountsOutcome overhead bytes outcome counted) (sym same) counts

-- Nothing was counted.
pub counts_nothing : (part old new : ℕ) (counted : Counted) → counted.added ≡ 0 → counted.freed ≡ 0 → new ≡ old → CountsPart part old counted new
counts_nothing part old new counted added freed same =
    record { fits = omega (arith, same); added = omega (arith, added); less = omega (arith, same); freed = omega (arith, added, freed, same) }

-- A part is kept, and nothing became free.
pub counts_more : (part old new : ℕ) (counted : Counted) → counted.added ≡ part → counted.freed ≡ 0 → new ≡ old + part → CountsPart part old counted new
counts_more part old new counted added freed more =
    record { fits = omega (arith, more); added = omega (arith, added, more); less = omega (arith, added, more); freed = omega (arith, added, freed, more) }
