-- The run that the index has there is taken out of both.
use Rattle.std.proofs.Common.{◌%◌, ◌^◌, map, ap, sym, subst, ◌∙◌}
use Rattle.std.specs.Prelude.{IsSome}
use Rattle.dcsctp_receive_reassembly.specs.Held.{capped_u128}
use Rattle.dcsctp_receive_reassembly.specs.Runs.{run_model}
use Rattle.dcsctp_receive_reassembly.proofs.RunMapLemmas.{looked_up, removed_run}
use Rattle.dcsctp_receive_reassembly.proofs.UnorderedLemmas.{FoundRun, found_in, found_used, dropped_index, models_ascend}
use Rattle.dcsctp_receive_reassembly.proofs.unordered.drop_run.Goals as goal

pub unwrap-run-requires : goal.unwrap-run-requires
unwrap-run-requires c =
    let found : FoundRun c.args.place c.args.runs.now.entries = found_in c.args.place c.args.runs.now.entries c.args.firsts.now c.requires.indexed c.requires.there in
    subst (λ o. IsSome o) (sym c.remove-2.ensures.value) (looked_up (c.args.place % 2 ^ 64) found.i c.args.runs.now.entries c.requires.ordered found.at)

pub returns-clause-drops : goal.returns-clause-drops
returns-clause-drops c =
    let found : FoundRun c.args.place c.args.runs.now.entries = found_in c.args.place c.args.runs.now.entries c.args.firsts.now c.requires.indexed c.requires.there in
    record {
      at = found.i;
      run = found.run;
      there = found.is;
      begins = found.begins;
      left = ap (λ entries. map run_model entries) c.remove-2.ensures.entries ∙ removed_run (c.args.place % 2 ^ 64) found.i c.args.runs.now.entries c.requires.ordered found.at;
      frees = c.run_used.ensures ∙ ap capped_u128 (found_used c.args.overhead c.args.place c.unwrap-run.result c.args.runs.now.entries found c.requires.ordered (sym c.remove-2.ensures.value ∙ c.unwrap-run.ensures));
    }

pub returns-clause-indexed : goal.returns-clause-indexed
returns-clause-indexed c =
    let found : FoundRun c.args.place c.args.runs.now.entries = found_in c.args.place c.args.runs.now.entries c.args.firsts.now c.requires.indexed c.requires.there in
    dropped_index found.i c.args.place found.run (map run_model c.args.runs.now.entries) (map run_model c.remove-2.new.self.entries) c.args.firsts.now c.remove.new.self
    (models_ascend c.args.runs.now.entries c.requires.ordered) c.requires.indexed found.is found.begins
    (ap (λ entries. map run_model entries) c.remove-2.ensures.entries ∙ removed_run (c.args.place % 2 ^ 64) found.i c.args.runs.now.entries c.requires.ordered found.at) c.remove.ensures.updates
