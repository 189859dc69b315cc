-- The runs begin among the places of their messages, with the part too.
use Rattle.std.proofs.Common.{map}
use Rattle.dcsctp_receive_reassembly.specs.Runs.{run_model, part_of}
use Rattle.dcsctp_receive_reassembly.proofs.FragmentLemmas.{added_or_kept}
use Rattle.dcsctp_receive_reassembly.proofs.fragments.Fragments.add.Goals as goal

pub invariant_of-self : goal.invariant_of-self
invariant_of-self c =
    added_or_kept (part_of c.args.part) (map run_model c.self.inside.runs.entries) (map run_model c.add_part.new.runs.entries) c.add_part.result c.requires c.self.invariant c.add_part.ensures.ok c.add_part.ensures.err
