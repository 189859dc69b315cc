-- Each run that is taken out leaves the others.
use Rattle.std.proofs.Common.{map, refl}
use Rattle.dcsctp_receive_reassembly.specs.Runs.{run_model}
use Rattle.dcsctp_receive_reassembly.proofs.RunMapLemmas.{taken_both, taken_first, taken_next}
use Rattle.dcsctp_receive_reassembly.proofs.joining.take_out.Goals as goal

pub returns-in-Some-Some : goal.returns-in-Some-Some
returns-in-Some-Some c =
    rw (c.in-Some-Some.is-0, c.in-Some-Some.is-1) (λ at before behind.
    taken_both at c.in-Some-Some.first c.in-Some-Some.next (map run_model c.args.runs.now.entries) c.args.runs.now.entries c.remove.new.self.entries c.remove-in-Some-Some.new.self.entries
    (record { before = before; behind = behind; shows = refl; ascends = c.requires.ordered; left = c.remove.ensures.entries; ascends' = c.remove.ensures.ordered })
    c.remove-in-Some-Some.ensures.entries)

pub returns-in-Some-None : goal.returns-in-Some-None
returns-in-Some-None c =
    rw (c.in-Some-None.is-0, c.in-Some-None.is-1) (λ at before behind.
    taken_first at c.in-Some-None.first c.args.runs.now.entries c.remove-in-Some-None.new.self.entries c.requires.ordered before c.remove-in-Some-None.ensures.entries)

pub returns-in-None-Some : goal.returns-in-None-Some
returns-in-None-Some c =
    rw (c.in-None-Some.is-0, c.in-None-Some.is-1) (λ at before behind.
    taken_next at c.in-None-Some.next c.args.runs.now.entries c.remove-in-None-Some.new.self.entries c.requires.ordered behind c.remove-in-None-Some.ensures.entries)
