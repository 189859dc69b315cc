-- The message is at the place that was taken for it.
use Rattle.std.proofs.Common.{refl}
use Rattle.dcsctp_receive_reassembly.specs.Runs.{whole_of}
use Rattle.dcsctp_receive_reassembly.proofs.WaitingLemmas.{place_filled}
use Rattle.dcsctp_receive_reassembly.proofs.stream.fill_place.Goals as goal

pub returns : goal.returns
returns c =
    λ before held. place_filled (whole_of c.args.whole) (record { ppid = c.args.whole.ppid; payload = c.args.whole.payload }) before c.args.waiting.now (c.get_mut.follows.lender (record { ppid = c.args.whole.ppid; payload = c.args.whole.payload })) held (c.get_mut.follows.holds (record { ppid = c.args.whole.ppid; payload = c.args.whole.payload })) refl
