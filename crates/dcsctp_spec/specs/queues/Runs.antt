-- Messages that aren't whole yet: parts that follow on one another (RFC 9260, section 6.9; RFC 8260, section 2.1). Parts of one
-- message have places in a row.
use Rattle.std.specs.Prelude.{◌≡◌, ◌==◌, ℕ, zero, suc, ◌+◌, ◌-◌, ◌<◌, ◌≤◌, nat_lt, nat_le, Bool, true, false, not, ◌&&◌, if◌then◌else◌, Option, None, Some, List, [], ◌∷◌, ◌++◌, length, slice_get, take, drop, is_some}
use Rattle.std.specs.List.{flat_map, sum_by}

-- parts of one message in a row
pub record RunModel : Type 0 where
  -- the place of the first of them
  pub first : ℕ
  -- the number of the message
  pub number : ℕ
  pub ppid : ℕ
  -- Is the first the beginning of its message, and the last its end?
  pub has_beginning : Bool
  pub has_end : Bool
  pub payloads : List (List ℕ)

-- a part that is received
pub record PartModel : Type 0 where
  pub place : ℕ
  pub number : ℕ
  pub ppid : ℕ
  pub payload : List ℕ
  pub is_beginning : Bool
  pub is_end : Bool

-- a message that is whole
pub record WholeModel : Type 0 where
  pub number : ℕ
  pub ppid : ℕ
  pub payload : List ℕ

-- what becomes of a part
pub data Assembly : Type 0 where
  -- It was received before.
  part_dropped : Assembly
  -- Its message isn't whole yet.
  part_kept : Assembly
  -- Its message is whole with it.
  message_whole : WholeModel → Assembly

-- the entry before a position
abbrev pub entry_before : {X : Type 0} → ℕ → List X → Option X
entry_before zero es = None
entry_before (suc at) es = slice_get es at

-- the bytes of the parts, one after another
abbrev pub joined_bytes : List (List ℕ) → List ℕ
joined_bytes payloads = flat_map (λ payload. payload) payloads

-- Does the run hold the place?
abbrev pub holds : RunModel → ℕ → Bool
holds run place = nat_le run.first place && nat_lt (place - run.first) (length run.payloads)

-- Does the run, if there is one, begin at the place or before it, or after it?
abbrev pub StartsUpTo : ℕ → Option RunModel → Type 0
StartsUpTo place None = Unit {0}
StartsUpTo place (Some run) = run.first ≤ place

abbrev pub StartsBehind : ℕ → Option RunModel → Type 0
StartsBehind place None = Unit {0}
StartsBehind place (Some run) = place < run.first

-- Where a place belongs among the runs: the run before begins at it or before it, the next one after it.
pub record IsRunPlace (at place : ℕ) (runs : List RunModel) : Type 0 where
  pub within : at ≤ length runs
  pub before : StartsUpTo place (entry_before at runs)
  pub behind : StartsBehind place (slice_get runs at)

-- Does the run before a place among the runs hold this place of a part?
abbrev pub holds_some : Option RunModel → ℕ → Bool
holds_some None place = false
holds_some (Some run) place = holds run place

abbrev pub is_held_before : ℕ → List RunModel → ℕ → Bool
is_held_before at runs place = holds_some (entry_before at runs) place

abbrev pub behind_place : ℕ → List RunModel → List RunModel
behind_place place [] = []
behind_place place (run ∷ runs) = if nat_le run.first place then behind_place place runs else run ∷ runs

-- Does the part follow on the run, which begins before it, as one of its message?
abbrev pub follows : RunModel → PartModel → Bool
follows run part = ((part.place - run.first) == length run.payloads) && (run.number == part.number) && not run.has_end && not part.is_beginning

-- Does the run follow on the part, as parts of its message?
abbrev pub precedes : PartModel → RunModel → Bool
precedes part run = ((run.first - part.place) == 1) && (run.number == part.number) && not part.is_end && not run.has_beginning

-- a run of one part
abbrev pub single_run : PartModel → RunModel
single_run part =
    record { first = part.place; number = part.number; ppid = part.ppid; has_beginning = part.is_beginning; has_end = part.is_end; payloads = part.payload ∷ [] }

-- two runs of one message, the second after the first
abbrev pub chained_run : RunModel → RunModel → RunModel
chained_run front back =
    record front { has_end = back.has_end; payloads = front.payloads ++ back.payloads }

-- a part with the run that it follows on, and the run that follows on it, if there are such
abbrev pub run_with_part : Option RunModel → PartModel → Option RunModel → RunModel
run_with_part None part None = single_run part
run_with_part (Some front) part None = chained_run front (single_run part)
run_with_part None part (Some back) = chained_run (single_run part) back
run_with_part (Some front) part (Some back) = chained_run front (chained_run (single_run part) back)

-- the message of a run that is whole
abbrev pub whole_run : RunModel → WholeModel
whole_run run = record { number = run.number; ppid = run.ppid; payload = joined_bytes run.payloads }

-- Is the message of the run whole?
abbrev pub is_whole : RunModel → Bool
is_whole run = run.has_beginning && run.has_end

abbrev pub following : Option RunModel → PartModel → Option RunModel
following None part = None
following (Some run) part = if follows run part then Some run else None

abbrev pub preceding : PartModel → Option RunModel → Option RunModel
preceding part None = None
preceding part (Some run) = if precedes part run then Some run else None

-- the run before a place among the runs, if the part follows on it
abbrev pub run_before : ℕ → List RunModel → PartModel → Option RunModel
run_before at runs part = following (entry_before at runs) part

-- the run at a place among the runs, if it follows on the part
abbrev pub run_behind : PartModel → ℕ → List RunModel → Option RunModel
run_behind part at runs = preceding part (slice_get runs at)

-- a part with the runs of its message on both sides of a place among the runs
abbrev pub merged_run : ℕ → List RunModel → PartModel → RunModel
merged_run at runs part = run_with_part (run_before at runs part) part (run_behind part at runs)

-- a run of the message, if it joins
abbrev pub chosen : Bool → Option RunModel → Option RunModel
chosen true run = run
chosen false run = None

-- where the runs end that stay before a place, and where those begin that stay after it
abbrev pub front_end : Bool → ℕ → ℕ
front_end true at = at - 1
front_end false at = at

abbrev pub back_start : Bool → ℕ → ℕ
back_start true at = suc at
back_start false at = at

-- the runs with another in the place of those that join at a place
abbrev pub with_run : Bool → Bool → ℕ → RunModel → List RunModel → List RunModel
with_run joins_before joins_behind at run runs =
    take (front_end joins_before at) runs ++ run ∷ drop (back_start joins_behind at) runs

-- the runs with a part in one with those that join it
abbrev pub with_part : Bool → Bool → ℕ → PartModel → List RunModel → List RunModel
with_part joins_before joins_behind at part runs =
    with_run joins_before joins_behind at (run_with_part (chosen joins_before (entry_before at runs)) part (chosen joins_behind (slice_get runs at))) runs

-- the runs without those that a message was joined from
abbrev pub without_runs : Bool → Bool → ℕ → List RunModel → List RunModel
without_runs joins_before joins_behind at runs =
    take (front_end joins_before at) runs ++ drop (back_start joins_behind at) runs

-- What becomes of a part that belongs at this place among the runs. One that was received before is dropped. One that makes its
-- message whole gives the message's bytes: those of all parts, from the beginning to the end.
abbrev pub AssemblesPart : ℕ → PartModel → List RunModel → Assembly → List RunModel → Type 0
AssemblesPart at part old part_dropped new = (is_held_before at old part.place ≡ true) × (new ≡ old)
AssemblesPart at part old part_kept new =
    (is_held_before at old part.place ≡ false)
    × (is_whole (merged_run at old part) ≡ false)
    × (new ≡ with_part (is_some (run_before at old part)) (is_some (run_behind part at old)) at part old)
AssemblesPart at part old (message_whole message) new =
    (is_held_before at old part.place ≡ false)
    × (is_whole (merged_run at old part) ≡ true)
    × (message ≡ whole_run (merged_run at old part))
    × (new ≡ without_runs (is_some (run_before at old part)) (is_some (run_behind part at old)) at old)

-- A message of one part leaves the runs as they are.
abbrev pub PassesAlone : PartModel → List RunModel → Assembly → List RunModel → Type 0
PassesAlone part old part_dropped new = new ≡ old
PassesAlone part old part_kept new = ⊥
PassesAlone part old (message_whole message) new = (new ≡ old) × (message ≡ whole_run (single_run part))

-- A part was received.
pub record AddsPart (part : PartModel) (old : List RunModel) (outcome : Assembly) (new : List RunModel) : Type 0 where
  pub at : ℕ
  pub place : IsRunPlace at part.place old
  pub adds : AssemblesPart at part old outcome new
  pub alone : part.is_beginning ≡ true → part.is_end ≡ true → PassesAlone part old outcome new

-- ---- how much of the receive window they use

-- a part, or a whole message that waits: its bytes, and what it counts beside them
abbrev pub part_used : ℕ → List ℕ → ℕ
part_used overhead payload = length payload + overhead

abbrev pub payloads_used : ℕ → List (List ℕ) → ℕ
payloads_used overhead payloads = sum_by (part_used overhead) payloads

abbrev pub run_used : ℕ → RunModel → ℕ
run_used overhead run = payloads_used overhead run.payloads

abbrev pub runs_used : ℕ → List RunModel → ℕ
runs_used overhead runs = sum_by (run_used overhead) runs

abbrev pub wholes_used : ℕ → List WholeModel → ℕ
wholes_used overhead wholes = sum_by (λ whole. part_used overhead whole.payload) wholes
