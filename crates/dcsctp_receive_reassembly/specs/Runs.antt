-- Runs of parts in memory, as the machine has them, and what is true of maps of them.
use Rattle.std.specs.Prelude.{◌≡◌, ℕ, ◌+◌, ◌-◌, ◌/◌, ◌^◌, ◌<◌, ◌≤◌, nat_le, Bool, false, if◌then◌else◌, Option, None, Some, List, [], ◌∷◌, length, map}
use denote.Ref.{Bor}
use Rattle.std.specs.List.{AllByRecursion}
use Rattle.std.specs.VecDeque.{deque_capacity}
use Rattle.std.specs.BTreeMap.{BTreeMap, get}
use Rattle.std.specs.Ordering.{nat_cmp}
use Rattle.dcsctp_api.specs.spec.queues.Runs.{RunModel, PartModel, WholeModel, run_used, runs_used}
use Rattle.dcsctp_receive_reassembly.specs.Held.{capped_u128}
use Rattle.dcsctp_api.specs.spec.queues.Runs.{Assembly as AssembledModel, part_dropped, part_kept, message_whole}
use Rattle.dcsctp_receive_reassembly.specs.declared.runs.Run.{Run}
use Rattle.dcsctp_receive_reassembly.specs.declared.runs.Part.{Part}
use Rattle.dcsctp_receive_reassembly.specs.declared.runs.Whole.{Whole}
use Rattle.dcsctp_receive_reassembly.specs.declared.runs.Assembled.{Assembled}
use Rattle.dcsctp_receive_reassembly.specs.declared.runs.Assembled.TheVariants.{Dropped, Kept, Whole as WholeMessage}

-- a run, by the place of its first part
abbrev pub run_model : ℕ × Run → RunModel
run_model entry =
    record {
      first = entry.0;
      number = entry.1.number;
      ppid = entry.1.ppid.0;
      has_beginning = entry.1.has_beginning;
      has_end = entry.1.has_end;
      payloads = entry.1.payload.items ∷ map (λ payload. payload.items) entry.1.others.items;
    }

abbrev pub part_of : Part → PartModel
part_of part =
    record { place = part.place; number = part.number; ppid = part.ppid.0; payload = part.payload.items; is_beginning = part.is_beginning; is_end = part.is_end }

abbrev pub whole_of : Whole → WholeModel
whole_of whole = record { number = whole.number; ppid = whole.ppid.0; payload = whole.payload.items }

abbrev pub assembled_of : Assembled → AssembledModel
assembled_of Dropped = part_dropped
assembled_of Kept = part_kept
assembled_of (WholeMessage message) = message_whole (whole_of message)

-- Is there such a run, and does it begin at this place?
abbrev pub IsRunBeginning : ℕ → Option RunModel → Type 0
IsRunBeginning first None = ⊥
IsRunBeginning first (Some run) = run.first ≡ first

abbrev pub BeginsIf : Option ℕ → Option RunModel → Type 0
BeginsIf None run = Unit {0}
BeginsIf (Some first) run = IsRunBeginning first run

-- Is there room for that many more parts in the run that begins at this place?
abbrev pub HasRoomInRun : ℕ → Option Run → Type 0
HasRoomInRun count None = ⊥
HasRoomInRun count (Some run) = length run.others.items + count ≤ deque_capacity run.others

abbrev pub HasRoomForRun : ℕ → ℕ → BTreeMap ℕ Run → Type 0
HasRoomForRun first count runs = HasRoomInRun count (get nat_cmp runs first)

-- Is there room for a part between two runs: in the longer one, for the part and for the shorter one?
abbrev pub CanLink : Run → Run → Type 0
CanLink front back =
    (length back.others.items ≤ length front.others.items → length front.others.items + 2 + length back.others.items ≤ deque_capacity front.others)
    × (length front.others.items < length back.others.items → length front.others.items + 2 + length back.others.items ≤ deque_capacity back.others)

-- the same of the runs that begin at these places
abbrev pub CanLinkRuns : ℕ → ℕ → BTreeMap ℕ Run → Type 0
CanLinkRuns first next runs =
    (front back : Run) → get nat_cmp runs first ≡ Some front → get nat_cmp runs next ≡ Some back → CanLink front back

-- Is there a first run, and does it begin at the place or before it?
abbrev pub begins_up_to : ℕ → List RunModel → Bool
begins_up_to place [] = false
begins_up_to place (run ∷ runs) = nat_le run.first place

-- the runs in front that begin at a place or before it, and those after them
abbrev pub up_to_place : ℕ → List RunModel → List RunModel
up_to_place place [] = []
up_to_place place (run ∷ runs) = if nat_le run.first place then run ∷ up_to_place place runs else []

-- a run that is lent, with the place where it begins
abbrev pub lent_run : Option (ℕ × Bor Run) → Option RunModel
lent_run None = None
lent_run (Some entry) = Some (run_model (entry.0, entry.1.now))

-- The message that became whole is that of this number.
abbrev pub IsOfMessage : ℕ → Assembled → Type 0
IsOfMessage number Dropped = Unit {0}
IsOfMessage number Kept = Unit {0}
IsOfMessage number (WholeMessage whole) = whole.number ≡ number

-- how much of the receive window the parts of a run use, if there is one
abbrev pub lent_used : ℕ → Option RunModel → ℕ
lent_used overhead None = 0
lent_used overhead (Some run) = run_used overhead run

-- So much of the receive window is what the runs used that are left no longer.
abbrev pub Frees : ℕ → List RunModel → ℕ → List RunModel → Type 0
Frees overhead old used new = (runs_used overhead new ≤ runs_used overhead old) × (used ≡ capped_u128 (runs_used overhead old - runs_used overhead new))

-- What a message that became whole says that its other parts used is what the runs used that are left no longer.
abbrev pub IsFreed : ℕ → List RunModel → Assembled → List RunModel → Type 0
IsFreed overhead old Dropped new = Unit {0}
IsFreed overhead old Kept new = Unit {0}
IsFreed overhead old (WholeMessage whole) new = Frees overhead old whole.used new

-- The runs begin among the places of their messages.
abbrev pub IsInPlace : RunModel → Type 0
IsInPlace run = run.first / 2 ^ 64 ≡ run.number

abbrev pub AreInPlace : List RunModel → Type 0
AreInPlace runs = AllByRecursion IsInPlace runs
