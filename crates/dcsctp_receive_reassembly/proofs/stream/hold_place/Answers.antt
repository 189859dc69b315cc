-- The entry without content is at its place.
use Rattle.dcsctp_receive_reassembly.proofs.WaitingLemmas.{place_held}
use Rattle.dcsctp_receive_reassembly.proofs.stream.hold_place.Goals as goal

pub returns-clause-ok : goal.returns-clause-ok
returns-clause-ok c =
    place_held c.args.number (record { ppid = record { 0 = 0 }; payload = c.new.result }) c.args.waiting.now.entries c.insert.new.self.entries c.insert.ensures.was_ordered c.insert.ensures.ordered c.requires.absent c.in_ok-insert.ensures.entries
