-- What of the receive window is in use, before and after data was received.
use Rattle.std.specs.Prelude.{◌≡◌, ℕ, ◌+◌, ◌-◌, ◌≤◌, length}
use Rattle.dcsctp_receive_reassembly.specs.declared.runs.Assembled.{Assembled}
use Rattle.dcsctp_receive_reassembly.specs.declared.runs.Assembled.TheVariants.{Dropped, Kept, Whole as WholeMessage}
use Rattle.dcsctp_receive_reassembly.specs.declared.counting.Counted.{Counted}
use Rattle.dcsctp_receive_reassembly.specs.Held.{capped_u128}

-- What is counted by what became of a part of that many bytes: a message that is ready has its bytes, and its other parts are gone.
abbrev pub CountsOutcome : ℕ → ℕ → Assembled → Counted → Type 0
CountsOutcome overhead size Dropped counted = (counted.added ≡ 0) × (counted.freed ≡ 0)
CountsOutcome overhead size Kept counted = (counted.added ≡ size + overhead) × (counted.freed ≡ 0)
CountsOutcome overhead size (WholeMessage whole) counted = (counted.added ≡ length whole.payload.items) × (counted.freed ≡ whole.used)

-- So much was in use, and so much is now: at most what the part uses is more.
pub record CountsPart (part old : ℕ) (counted : Counted) (new : ℕ) : Type 0 where
  pub fits : new ≤ old + part
  pub added : counted.added ≤ new
  pub less : new ≤ old + counted.added
  pub freed : counted.freed ≡ capped_u128 (old + counted.added - new)
