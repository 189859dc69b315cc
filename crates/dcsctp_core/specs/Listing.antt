-- Deadlines in one list, the earliest first.
use Rattle.std.specs.Prelude.{◌≡◌, ◌<◌, ℕ, ◌+◌, ◌++◌, take, drop, Bool, true, false, ◌&&◌, ◌||◌, nat_lt, nat_eq, if◌then◌else◌, Option, None, Some, List, [], ◌∷◌}
use Rattle.dcsctp_core.specs.declared.deadlines.DeadlineKind.{DeadlineKind}
use Rattle.dcsctp_core.specs.declared.deadlines.DeadlineKind.TheVariants.{AcknowledgementDelay, Retransmission, HeartbeatInterval, HeartbeatTimeout, Reconfiguration, T1, T2}
use Rattle.dcsctp_core.specs.declared.deadlines.Entry.{Entry}

-- the deadline of each kind, if it runs
pub record RunningDeadlines : Type 0 where
  pub acknowledgement_delay : Option ℕ
  pub retransmission : Option ℕ
  pub heartbeat_interval : Option ℕ
  pub heartbeat_timeout : Option ℕ
  pub reconfiguration : Option ℕ
  pub t1 : Option ℕ
  pub t2 : Option ℕ

-- The place of a kind in the order of kinds.
abbrev pub rank : DeadlineKind → ℕ
rank AcknowledgementDelay = 0
rank Retransmission = 1
rank HeartbeatInterval = 2
rank HeartbeatTimeout = 3
rank Reconfiguration = 4
rank T1 = 5
rank T2 = 6

abbrev pub is_same_kind : DeadlineKind → DeadlineKind → Bool
is_same_kind kind other = nat_eq (rank kind) (rank other)

-- by moment, and then by kind
abbrev pub is_before : Entry → Entry → Bool
is_before entry other = nat_lt entry.moment other.moment || (nat_eq entry.moment other.moment && nat_lt (rank entry.kind) (rank other.kind))

-- the deadline of a kind
abbrev pub listed_deadline : DeadlineKind → List Entry → Option ℕ
listed_deadline kind [] = None
listed_deadline kind (entry ∷ entries) = if is_same_kind kind entry.kind then Some entry.moment else listed_deadline kind entries

-- the moment of the first entry
abbrev pub first_moment : List Entry → Option ℕ
first_moment [] = None
first_moment (entry ∷ entries) = Some entry.moment

-- the entries with one more, in its place
abbrev pub entries_with_one : Entry → List Entry → List Entry
entries_with_one new [] = new ∷ []
entries_with_one new (entry ∷ entries) = if is_before new entry then new ∷ entries_with_one entry entries else entry ∷ entries_with_one new entries

-- the first entries, but for the one at a place
abbrev pub besides : ℕ → ℕ → List Entry → List Entry
besides place count entries = take place entries ++ drop (place + 1) (take count entries)

abbrev pub with_entry : DeadlineKind → Option ℕ → List Entry → List Entry
with_entry kind None entries = entries
with_entry kind (Some moment) entries = entries_with_one (record { moment = moment; kind = kind }) entries

-- None of these is of the kind.
abbrev pub IsAbsent : DeadlineKind → List Entry → Type 0
IsAbsent kind [] = Unit {0}
IsAbsent kind (entry ∷ entries) = (is_same_kind kind entry.kind ≡ false) × IsAbsent kind entries

-- Each of these is of a kind whose place is below this one.
abbrev pub AllBelow : ℕ → List Entry → Type 0
AllBelow limit [] = Unit {0}
AllBelow limit (entry ∷ entries) = (rank entry.kind < limit) × AllBelow limit entries

-- A new entry isn't before the last of these, if there is one.
abbrev pub EndsBefore : Entry → List Entry → Type 0
EndsBefore new [] = Unit {0}
EndsBefore new (entry ∷ []) = is_before new entry ≡ false
EndsBefore new (entry ∷ next ∷ entries) = EndsBefore new (next ∷ entries)

-- The first of these isn't before a new entry, if there is one.
abbrev pub BeginsAfter : Entry → List Entry → Type 0
BeginsAfter new [] = Unit {0}
BeginsAfter new (entry ∷ entries) = is_before entry new ≡ false

-- None of these is before the entry, and none is of its kind.
abbrev pub IsEarliestEntry : Entry → List Entry → Type 0
IsEarliestEntry first [] = Unit {0}
IsEarliestEntry first (entry ∷ entries) = (is_before first entry ≡ true) × (is_same_kind first.kind entry.kind ≡ false) × IsEarliestEntry first entries

-- The entries are in order, and no two are of a kind.
abbrev pub IsListing : List Entry → Type 0
IsListing [] = Unit {0}
IsListing (entry ∷ entries) = IsEarliestEntry entry entries × IsListing entries

-- the list of what the timers say
abbrev pub list_of_deadlines : RunningDeadlines → List Entry
list_of_deadlines told =
    with_entry T2 told.t2 (with_entry T1 told.t1 (with_entry Reconfiguration told.reconfiguration (with_entry HeartbeatTimeout told.heartbeat_timeout
    (with_entry HeartbeatInterval told.heartbeat_interval (with_entry Retransmission told.retransmission (with_entry AcknowledgementDelay told.acknowledgement_delay []))))))

-- what they say of a kind
abbrev pub deadline_by_kind : RunningDeadlines → DeadlineKind → Option ℕ
deadline_by_kind told AcknowledgementDelay = told.acknowledgement_delay
deadline_by_kind told Retransmission = told.retransmission
deadline_by_kind told HeartbeatInterval = told.heartbeat_interval
deadline_by_kind told HeartbeatTimeout = told.heartbeat_timeout
deadline_by_kind told Reconfiguration = told.reconfiguration
deadline_by_kind told T1 = told.t1
deadline_by_kind told T2 = told.t2

-- It holds what each timer says, and nothing else.
abbrev pub ListsEachTimer : Type 0
ListsEachTimer = (told : RunningDeadlines) (kind : DeadlineKind) → listed_deadline kind (list_of_deadlines told) ≡ deadline_by_kind told kind
