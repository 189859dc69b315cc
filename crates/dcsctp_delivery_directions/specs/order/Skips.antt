-- What an I-FORWARD-TSN skips leaves out no message without limits, as its receiver sees it (RFC 8260, section 2.3.1):
-- each part of such a message that comes before it was handled.
use Rattle.std.specs.Prelude.{◌≡◌, ◌<◌, ℕ, Bool, true, false, Some, List}
use Rattle.std.specs.List.{AllByRecursion}
use Rattle.dcsctp_spec_lemmas.specs.types.declared.arrivals.SkippedTo.{SkippedTo}
use Rattle.dcsctp_spec_lemmas.specs.types.declared.arrivals.SkippedTo.TheVariants.{Ssn, Mid}
use Rattle.dcsctp_delivery_directions.specs.sending.Places.{HasEntry, at_place}
use Rattle.dcsctp_delivery_directions.specs.sending.Log.{Piece, History}
use Rattle.dcsctp_delivery_directions.specs.sending.Numbers.{IsCurrent}
use Rattle.dcsctp_delivery_directions.specs.receiving.Ready.{NamesCurrent}
use Rattle.dcsctp_delivery_directions.specs.order.Reading.{Watch}

-- The stream's messages without limits, ordered or unordered, that were sent since its last reset: each piece of them that has a TSN
-- before this one was handled.
abbrev pub AreHandledBefore : History → List ℕ → ℕ → Bool → ℕ → Type 0
AreHandledBefore history got id is_unordered number =
    (n : ℕ) (f : Piece) → at_place n history.log ≡ Some (Some f) → f.message.stream ≡ id → f.message.is_unordered ≡ is_unordered → IsCurrent history f
    → f.message.is_limited ≡ false → n < number → HasEntry n got

-- So it is before the message that the entry names, where it is known which TSNs were received.
abbrev pub IsHandledBefore : (ℕ → Watch) → (history : History) → List ℕ → (passed : ℕ) (entry : SkippedTo) → NamesCurrent history passed entry → Type 0
IsHandledBefore watch history got passed (Ssn id ssn) names = Unit {0}
IsHandledBefore watch history got passed (Mid id is_unordered mid) names = (watch id.0).knows_all ≡ true → AreHandledBefore history got id.0 is_unordered names.0.number

-- This holds for the entry,
abbrev pub SkipsHandled : (ℕ → Watch) → History → List ℕ → SkippedTo → Type 0
SkipsHandled watch history got entry = (passed : ℕ) × (names : NamesCurrent history passed entry) × IsHandledBefore watch history got passed entry names

-- and for each.
abbrev pub AreSkipsHandled : (ℕ → Watch) → History → List ℕ → List SkippedTo → Type 0
AreSkipsHandled watch history got entries = AllByRecursion (SkipsHandled watch history got) entries
