use Rattle.dcsctp_theorem_sockets.proofs.Moves.{Below}
use Rattle.dcsctp_delivery_sockets.proofs.sockets.Delivery.{DeliveryLaws}
use Rattle.dcsctp_delivery_recovery.proofs.ConnectedSides.{sockets_receive_part}
use Rattle.dcsctp_delivery_recovery.proofs.laws.sockets_receive_part.Goals as goal

pub returns : goal.returns
returns c =
    let law : Below = record {
      effects_mean = c.effects_mean.ensures;
      acts = c.acts_are_controlled.ensures;
      packets = c.packets_are_controlled.ensures;
      admitted = c.admitted_packets_may_be_worked.ensures;
      offers = c.offer_reads_back.ensures.announced;
      built = c.built_packet_reads_as_itself.ensures;
    } in
    let delivery : DeliveryLaws = record {
      below = law;
      answers = c.answer_keeps_agreement.ensures;
      moves = record { chunks = c.chunks_are_controlled.ensures; acts = c.acts_are_controlled.ensures };
    } in
    sockets_receive_part (record { delivery = delivery; told = c.sockets_tell_effects.ensures; shown = c.shown_tags_suffice.ensures })
