use Rattle.dcsctp_theorem_sockets.proofs.Moves.{Below}
use Rattle.dcsctp_delivery_sockets.proofs.sockets.Runs.{flights_are_as_negotiated}
use Rattle.dcsctp_delivery_sockets.proofs.shown_laws.flights_are_as_negotiated.Goals as goal

pub returns : goal.returns
returns c =
    let law : Below = record {
      effects_mean = c.effects_mean.ensures;
      acts = c.acts_are_controlled.ensures;
      packets = c.packets_are_controlled.ensures;
      admitted = c.admitted_packets_may_be_worked.ensures;
      offers = c.offer_reads_back.ensures.announced;
      built = c.built_packet_reads_as_itself.ensures;
    } in
    flights_are_as_negotiated (record { below = law; answers = c.answer_keeps_agreement.ensures; moves = record { chunks = c.chunks_are_controlled.ensures; acts = c.acts_are_controlled.ensures } })
