use Rattle.dcsctp_theorem_sockets.proofs.Moves.{Below}
use Rattle.dcsctp_delivery_sockets.proofs.sockets.Delivery.{DeliveryLaws}
use Rattle.dcsctp_delivery_recovery.proofs.ConnectedSides.{RecoveryBelow}
use Rattle.dcsctp_delivery_recovery.proofs.Recovered.{sockets_recover_losses}
use Rattle.dcsctp_delivery_recovery.proofs.laws.sockets_recover_losses.Goals as goal

pub returns : goal.returns
returns c =
    let law : Below = record {
      effects_mean = c.effects_mean.ensures;
      acts = c.acts_are_controlled.ensures;
      packets = c.packets_are_controlled.ensures;
      admitted = c.admitted_packets_may_be_worked.ensures;
      offers = c.offer_reads_back.ensures.announced;
      built = c.built_packet_reads_as_itself.ensures;
    } in
    let delivery : DeliveryLaws = record {
      below = law;
      answers = c.answer_keeps_agreement.ensures;
      moves = record { chunks = c.chunks_are_controlled.ensures; acts = c.acts_are_controlled.ensures };
    } in
    let below : RecoveryBelow = record { delivery = delivery; told = c.sockets_tell_effects.ensures; shown = c.shown_tags_suffice.ensures } in
    sockets_recover_losses
    (record {
      below = below;
      options = c.sockets_keep_options.ensures;
      flights = c.sockets_keep_flights_sound.ensures;
      packing = c.sockets_fit_packets.ensures;
      tracking = c.sockets_track_received.ensures;
      again = c.lost_data_is_sent_again.ensures;
      through = c.lost_data_comes_through.ensures;
      behind = c.lost_data_comes_behind.ensures;
    })
