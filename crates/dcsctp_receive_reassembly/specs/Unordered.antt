-- The index of the parts of unordered messages of DATA: where each run begins, stream by stream.
use Rattle.std.specs.Prelude.{◌≡◌, ◌==◌, ℕ, suc, ◌%◌, ◌^◌, ◌<◌, Bool, false, Option, None, Some, List, ◌∷◌, ◌++◌, slice_get, take, drop}
use Rattle.std.specs.List.{AllByRecursion, list_any}
use Rattle.std.specs.BTreeSet.{BTreeSet, contains}
use Rattle.std.specs.Ordering.{nat_cmp}
use Rattle.dcsctp_api.specs.spec.queues.Numbers.{fragment_place}
use Rattle.dcsctp_api.specs.spec.queues.Runs.{RunModel, run_used}
use Rattle.dcsctp_receive_reassembly.specs.Held.{capped_u128}

-- the place of a run in the index: by its stream, then by the TSN of its first part
abbrev pub index_place : ℕ → ℕ → ℕ
index_place id first = fragment_place id (first % 2 ^ 64)

abbrev pub begin_of : RunModel → ℕ
begin_of run = index_place run.number run.first

-- Does a run begin there?
abbrev pub has_run_from : ℕ → List RunModel → Bool
has_run_from place runs = list_any (λ run. begin_of run == place) runs

-- A run begins at the number of a TSN.
abbrev pub BeginsAtTsn : RunModel → Type 0
BeginsAtTsn run = run.first < 2 ^ 64

-- The index has the place of each run, and no other.
pub record IsIndexed (firsts : BTreeSet ℕ) (runs : List RunModel) : Type 0 where
  pub each : (place : ℕ) → contains nat_cmp firsts place ≡ has_run_from place runs
  pub within : AllByRecursion BeginsAtTsn runs

-- Is it the place of a run of the stream that begins there, if there is one?
abbrev pub is_place_of : ℕ → Option ℕ → ℕ → Bool
is_place_of id None place = false
is_place_of id (Some first) place = index_place id first == place

-- One run is dropped, whose place in the index this is, and so much of the receive window isn't in use any longer.
pub record DropsRun (overhead place : ℕ) (old : List RunModel) (used : ℕ) (new : List RunModel) : Type 0 where
  pub at : ℕ
  pub run : RunModel
  pub there : slice_get old at ≡ Some run
  pub begins : begin_of run ≡ place
  pub left : new ≡ take at old ++ drop (suc at) old
  pub frees : used ≡ capped_u128 (run_used overhead run)

-- The first run is dropped.
pub record DropsFirst (overhead : ℕ) (old : List RunModel) (used : ℕ) (new : List RunModel) : Type 0 where
  pub run : RunModel
  pub first : old ≡ run ∷ new
  pub frees : used ≡ capped_u128 (run_used overhead run)
