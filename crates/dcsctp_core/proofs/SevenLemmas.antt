-- At most seven deadlines are listed, one of each kind.
use Rattle.std.proofs.Common.{◌≡◌, ℕ, ◌+◌, ◌≤◌, Bool, true, false, List, [], ◌∷◌, length, take, refl, ap, arith, length-take-le}
use Rattle.dcsctp_core.specs.declared.deadlines.DeadlineKind.{DeadlineKind}
use Rattle.dcsctp_core.specs.declared.deadlines.DeadlineKind.TheVariants.{AcknowledgementDelay, Retransmission, HeartbeatInterval, HeartbeatTimeout, Reconfiguration, T1, T2}
use Rattle.dcsctp_core.specs.declared.deadlines.Entry.{Entry}
use Rattle.dcsctp_core.specs.Listing.{is_same_kind, IsAbsent, IsListing}
use Rattle.dcsctp_core.proofs.ListingLemmas.{first-absent, same-absent}

abbrev one_if : Bool → ℕ
one_if true = 1
one_if false = 0

abbrev count : DeadlineKind → List Entry → ℕ
count kind [] = 0
count kind (x ∷ xs) = one_if (is_same_kind kind x.kind) + count kind xs

one_of_seven : (kind : DeadlineKind) →
    one_if (is_same_kind AcknowledgementDelay kind) + one_if (is_same_kind Retransmission kind) + one_if (is_same_kind HeartbeatInterval kind) + one_if (is_same_kind HeartbeatTimeout kind)
    + one_if (is_same_kind Reconfiguration kind) + one_if (is_same_kind T1 kind) + one_if (is_same_kind T2 kind) ≡ 1
one_of_seven AcknowledgementDelay = refl
one_of_seven Retransmission = refl
one_of_seven HeartbeatInterval = refl
one_of_seven HeartbeatTimeout = refl
one_of_seven Reconfiguration = refl
one_of_seven T1 = refl
one_of_seven T2 = refl

length-count : (xs : List Entry) → length xs ≡
    count AcknowledgementDelay xs + count Retransmission xs + count HeartbeatInterval xs + count HeartbeatTimeout xs
    + count Reconfiguration xs + count T1 xs + count T2 xs
length-count [] = refl
length-count (x ∷ xs) = omega (arith, one_of_seven x.kind, length-count xs)

count-absent : (kind : DeadlineKind) (xs : List Entry) → IsAbsent kind xs → count kind xs ≡ 0
count-absent kind [] absent = refl
count-absent kind (x ∷ xs) absent = omega (arith, ap one_if absent.0, count-absent kind xs absent.1)

count-once : (kind : DeadlineKind) (xs : List Entry) → IsListing xs → count kind xs ≤ 1
count-once kind [] is = omega arith
count-once kind (x ∷ xs) is = go (is_same_kind kind x.kind) refl (count-once kind xs is.1)
  where
    go : (same : Bool) → is_same_kind kind x.kind ≡ same → count kind xs ≤ 1 → one_if same + count kind xs ≤ 1
    go true same once = omega (arith, count-absent kind xs (same-absent kind x.kind xs same (first-absent x xs is.0)))
    go false other once = omega arith

six_of_seven : (xs : List Entry) (kind : DeadlineKind) → IsListing xs → count kind xs ≡ 0 → length xs ≤ 6
six_of_seven xs AcknowledgementDelay is none = omega (arith, none, length-count xs, count-once Retransmission xs is, count-once HeartbeatInterval xs is, count-once HeartbeatTimeout xs is, count-once Reconfiguration xs is, count-once T1 xs is, count-once T2 xs is)
six_of_seven xs Retransmission is none = omega (arith, none, length-count xs, count-once AcknowledgementDelay xs is, count-once HeartbeatInterval xs is, count-once HeartbeatTimeout xs is, count-once Reconfiguration xs is, count-once T1 xs is, count-once T2 xs is)
six_of_seven xs HeartbeatInterval is none = omega (arith, none, length-count xs, count-once AcknowledgementDelay xs is, count-once Retransmission xs is, count-once HeartbeatTimeout xs is, count-once Reconfiguration xs is, count-once T1 xs is, count-once T2 xs is)
six_of_seven xs HeartbeatTimeout is none = omega (arith, none, length-count xs, count-once AcknowledgementDelay xs is, count-once Retransmission xs is, count-once HeartbeatInterval xs is, count-once Reconfiguration xs is, count-once T1 xs is, count-once T2 xs is)
six_of_seven xs Reconfiguration is none = omega (arith, none, length-count xs, count-once AcknowledgementDelay xs is, count-once Retransmission xs is, count-once HeartbeatInterval xs is, count-once HeartbeatTimeout xs is, count-once T1 xs is, count-once T2 xs is)
six_of_seven xs T1 is none = omega (arith, none, length-count xs, count-once AcknowledgementDelay xs is, count-once Retransmission xs is, count-once HeartbeatInterval xs is, count-once HeartbeatTimeout xs is, count-once Reconfiguration xs is, count-once T2 xs is)
six_of_seven xs T2 is none = omega (arith, none, length-count xs, count-once AcknowledgementDelay xs is, count-once Retransmission xs is, count-once HeartbeatInterval xs is, count-once HeartbeatTimeout xs is, count-once Reconfiguration xs is, count-once T1 xs is)

-- where none is of a kind
pub six_absent : (kind : DeadlineKind) (xs : List Entry) → IsListing xs → IsAbsent kind xs → length xs ≤ 6
six_absent kind xs is absent = six_of_seven xs kind is (count-absent kind xs absent)

-- So there is room for one more in the array.
pub room : (kind : DeadlineKind) (xs : List Entry) (n : ℕ) → n ≤ 7 → length xs ≡ 7 → IsListing (take n xs) → IsAbsent kind (take n xs) → n + 1 ≤ 7
room kind xs n fits long is absent = omega (arith, six_absent kind (take n xs) is absent, length-take-le n xs (omega (arith, fits, long)))
