use Rattle.dcsctp_theorem_sockets.proofs.Moves.{Below}
use Rattle.dcsctp_delivery_recovery.proofs.SoundSockets.{sockets_keep_flights_sound}
use Rattle.dcsctp_delivery_recovery.proofs.laws.sockets_keep_flights_sound.Goals as goal

pub returns : goal.returns
returns c =
    let law : Below = record {
      effects_mean = c.effects_mean.ensures;
      acts = c.acts_are_controlled.ensures;
      packets = c.packets_are_controlled.ensures;
      admitted = c.admitted_packets_may_be_worked.ensures;
      offers = c.offer_reads_back.ensures.announced;
      built = c.built_packet_reads_as_itself.ensures;
    } in
    sockets_keep_flights_sound law
