-- The first run leaves the index.
use Rattle.std.proofs.Common.{◌≡◌, zero, suc, ◌∷◌, ◌++◌, map, take, drop, sym, ap, subst}
use Rattle.std.specs.Prelude.{slice_get, IfSome}
use Rattle.dcsctp_receive_reassembly.specs.Runs.{run_model}
use Rattle.dcsctp_receive_reassembly.proofs.UnorderedLemmas.{dropped_index, models_ascend}
use Rattle.dcsctp_receive_reassembly.proofs.unordered.drop_first.Goals as goal

pub returns-clause-indexed : goal.returns-clause-indexed
returns-clause-indexed c =
    let removal : c.args.runs.now.entries ≡ c.unwrap-first.result ∷ c.pop_first.new.self.entries = subst (λ o. IfSome o (λ p. c.args.runs.now.entries ≡ p ∷ c.pop_first.new.self.entries)) c.unwrap-first.ensures c.pop_first.ensures.removal in
    let models : map run_model c.args.runs.now.entries ≡ run_model c.unwrap-first.result ∷ map run_model c.pop_first.new.self.entries = ap (λ entries. map run_model entries) removal in
    dropped_index zero c.index_place.result (run_model c.unwrap-first.result) (map run_model c.args.runs.now.entries) (map run_model c.pop_first.new.self.entries) c.args.firsts.now c.remove.new.self
    (models_ascend c.args.runs.now.entries c.requires.ordered) c.requires.indexed (ap (λ all. slice_get all zero) models) (sym c.index_place.ensures) (sym (ap (λ all. take zero all ++ drop (suc zero) all) models)) c.remove.ensures.updates
