-- Lemmas about the list that is made of what the timers say.
use Rattle.std.proofs.Common.{◌≡◌, ℕ, ◌+◌, ◌<◌, ◌≤◌, Bool, true, false, Option, None, Some, List, [], ◌∷◌, refl, ap, ◌∙◌, arith}
use Rattle.std.specs.Prelude.{if◌then◌else◌}
use Rattle.std.proofs.lemmas.Bool.Decides.{nat_tests}
use Rattle.dcsctp_core.specs.declared.deadlines.DeadlineKind.{DeadlineKind}
use Rattle.dcsctp_core.specs.declared.deadlines.DeadlineKind.TheVariants.{AcknowledgementDelay, Retransmission, HeartbeatInterval, HeartbeatTimeout, Reconfiguration, T1, T2}
use Rattle.dcsctp_core.specs.declared.deadlines.Entry.{Entry}
use Rattle.dcsctp_core.specs.Listing.{is_before, is_same_kind, listed_deadline, entries_with_one, rank, deadline_by_kind, with_entry, AllBelow, IsAbsent, IsListing, ListsEachTimer, RunningDeadlines}
use Rattle.dcsctp_core.proofs.ListingLemmas.{listed-absent, listed-placed, listing-placed, same-absent}

pub below-absent : (kind : DeadlineKind) (xs : List Entry) → AllBelow (rank kind) xs → IsAbsent kind xs
below-absent kind [] below = tt
below-absent kind (x ∷ xs) below =
    let lower : rank x.kind < rank kind = below.0 in
    (grind (arith, nat_tests), below-absent kind xs below.1)

pub below-more : (n m : ℕ) (xs : List Entry) → n ≤ m → AllBelow n xs → AllBelow m xs
below-more n m [] more below = tt
below-more n m (x ∷ xs) more below = (omega (arith, below.0, more), below-more n m xs more below.1)

below-placed : (n : ℕ) (x : Entry) (xs : List Entry) → rank x.kind < n → AllBelow n xs → AllBelow n (entries_with_one x xs)
below-placed n x [] lower below = (lower, tt)
below-placed n x (y ∷ ys) lower below = go (is_before x y) (below-placed n y ys below.0 below.1) (below-placed n x ys lower below.1)
  where
    go : (b : Bool) → AllBelow n (entries_with_one y ys) → AllBelow n (entries_with_one x ys) → AllBelow n (if b then x ∷ entries_with_one y ys else y ∷ entries_with_one x ys)
    go true carried kept = (lower, carried)
    go false carried kept = (below.0, kept)

below-entry : (n : ℕ) (kind : DeadlineKind) (deadline : Option ℕ) (xs : List Entry) → rank kind < n → AllBelow n xs → AllBelow n (with_entry kind deadline xs)
below-entry n kind None xs lower below = below
below-entry n kind (Some moment) xs lower below = below-placed n (record { moment = moment; kind = kind }) xs lower below

-- once one more is added
pub below_added : (kind : DeadlineKind) (deadline : Option ℕ) (xs : List Entry) → AllBelow (rank kind) xs → AllBelow (rank kind + 1) (with_entry kind deadline xs)
below_added kind deadline xs below = below-entry (rank kind + 1) kind deadline xs (omega arith) (below-more (rank kind) (rank kind + 1) xs (omega arith) below)

listing-entry : (kind : DeadlineKind) (deadline : Option ℕ) (xs : List Entry) → IsAbsent kind xs → IsListing xs → IsListing (with_entry kind deadline xs)
listing-entry kind None xs absent is = is
listing-entry kind (Some moment) xs absent is = listing-placed (record { moment = moment; kind = kind }) xs absent is

entry-tells : (kind other : DeadlineKind) (deadline : Option ℕ) (xs : List Entry) → IsAbsent kind xs → IsListing xs
    → listed_deadline other (with_entry kind deadline xs) ≡ (if is_same_kind other kind then deadline else listed_deadline other xs)
entry-tells kind other None xs absent is = go (is_same_kind other kind) refl
  where
    go : (same : Bool) → is_same_kind other kind ≡ same → listed_deadline other xs ≡ (if same then None else listed_deadline other xs)
    go true same = listed-absent other xs (same-absent other kind xs same absent)
    go false differ = refl
entry-tells kind other (Some moment) xs absent is = listed-placed other (record { moment = moment; kind = kind }) xs absent is

-- ---- all of them, the last kind first

abbrev list_of : RunningDeadlines → List DeadlineKind → List Entry
list_of told [] = []
list_of told (kind ∷ kinds) = with_entry kind (deadline_by_kind told kind) (list_of told kinds)

abbrev said_among : RunningDeadlines → List DeadlineKind → DeadlineKind → Option ℕ
said_among told [] other = None
said_among told (kind ∷ kinds) other = if is_same_kind other kind then deadline_by_kind told kind else said_among told kinds other

abbrev Descend : ℕ → List DeadlineKind → Type 0
Descend limit [] = Unit {0}
Descend limit (kind ∷ kinds) = (rank kind < limit) × Descend (rank kind) kinds

list-below : (told : RunningDeadlines) (limit : ℕ) (kinds : List DeadlineKind) → Descend limit kinds → AllBelow limit (list_of told kinds)
list-below told limit [] descend = tt
list-below told limit (kind ∷ kinds) descend =
    below-entry limit kind (deadline_by_kind told kind) (list_of told kinds) descend.0
    (below-more (rank kind) limit (list_of told kinds) (omega (arith, descend.0)) (list-below told (rank kind) kinds descend.1))

list-absent : (told : RunningDeadlines) (kind : DeadlineKind) (kinds : List DeadlineKind) → Descend (rank kind) kinds → IsAbsent kind (list_of told kinds)
list-absent told kind kinds descend = below-absent kind (list_of told kinds) (list-below told (rank kind) kinds descend)

list-listing : (told : RunningDeadlines) (limit : ℕ) (kinds : List DeadlineKind) → Descend limit kinds → IsListing (list_of told kinds)
list-listing told limit [] descend = tt
list-listing told limit (kind ∷ kinds) descend =
    listing-entry kind (deadline_by_kind told kind) (list_of told kinds) (list-absent told kind kinds descend.1) (list-listing told (rank kind) kinds descend.1)

list-tells : (told : RunningDeadlines) (limit : ℕ) (kinds : List DeadlineKind) (other : DeadlineKind) → Descend limit kinds → listed_deadline other (list_of told kinds) ≡ said_among told kinds other
list-tells told limit [] other descend = refl
list-tells told limit (kind ∷ kinds) other descend =
    entry-tells kind other (deadline_by_kind told kind) (list_of told kinds) (list-absent told kind kinds descend.1) (list-listing told (rank kind) kinds descend.1)
    ∙ ap (λ rest. if is_same_kind other kind then deadline_by_kind told kind else rest) (list-tells told (rank kind) kinds other descend.1)

abbrev all_kinds : List DeadlineKind
all_kinds = T2 ∷ T1 ∷ Reconfiguration ∷ HeartbeatTimeout ∷ HeartbeatInterval ∷ Retransmission ∷ AcknowledgementDelay ∷ []

descend : Descend 7 all_kinds
descend = (omega arith, (omega arith, (omega arith, (omega arith, (omega arith, (omega arith, (omega arith, tt)))))))

pub relist_tells : ListsEachTimer
relist_tells told kind = list-tells told 7 all_kinds kind descend ∙ go kind
  where
    go : (kind : DeadlineKind) → said_among told all_kinds kind ≡ deadline_by_kind told kind
    go AcknowledgementDelay = refl
    go Retransmission = refl
    go HeartbeatInterval = refl
    go HeartbeatTimeout = refl
    go Reconfiguration = refl
    go T1 = refl
    go T2 = refl
