use Rattle.dcsctp_theorem_sockets.proofs.Moves.{Below}
use Rattle.dcsctp_theorem_sockets.proofs.GivenRuns.{cookies_were_given}
use Rattle.dcsctp_theorem_sockets.proofs.cookies.cookies_were_given.Goals as goal

pub returns : goal.returns
returns c =
    let law : Below = record {
      effects_mean = c.effects_mean.ensures;
      acts = c.acts_are_controlled.ensures;
      packets = c.packets_are_controlled.ensures;
      admitted = c.admitted_packets_may_be_worked.ensures;
      offers = c.offer_reads_back.ensures.announced;
      built = c.built_packet_reads_as_itself.ensures;
    } in
    cookies_were_given law c.chunks_are_controlled.ensures
