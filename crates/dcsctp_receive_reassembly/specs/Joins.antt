-- What is found out of a part before it is added to the runs.
use Rattle.std.specs.Prelude.{◌≡◌, ℕ, false, List}
use Rattle.std.specs.Option.{option_map}
use Rattle.dcsctp_api.specs.spec.queues.Runs.{RunModel, PartModel, is_held_before, is_whole, merged_run, run_before, run_behind}
use Rattle.dcsctp_receive_reassembly.specs.declared.joins.Joins.{Joins}

-- The part isn't there yet, and joins these runs at its place among all.
pub record FindsJoins (at : ℕ) (part : PartModel) (runs : List RunModel) (joins : Joins) : Type 0 where
  pub absent : is_held_before at runs part.place ≡ false
  pub first : joins.first ≡ option_map (λ run. run.first) (run_before at runs part)
  pub next : joins.next ≡ option_map (λ run. run.first) (run_behind part at runs)
  pub whole : joins.is_whole ≡ is_whole (merged_run at runs part)
