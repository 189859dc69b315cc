use Rattle.dcsctp_theorem_sockets.proofs.Moves.{Below}
use Rattle.dcsctp_theorem_progress.proofs.OthersCookies.{cookies_are_known}
use Rattle.dcsctp_theorem_progress.proofs.laws.echoed_cookies_are_the_others.Goals as goal

pub returns : goal.returns
returns c =
    let law : Below = record {
      effects_mean = c.effects_mean.ensures;
      acts = c.acts_are_controlled.ensures;
      packets = c.packets_are_controlled.ensures;
      admitted = c.admitted_packets_may_be_worked.ensures;
      offers = c.offer_reads_back.ensures.announced;
      built = c.built_packet_reads_as_itself.ensures;
    } in
    cookies_are_known law c.answer_keeps_agreement.ensures c.flights_are_as_negotiated.ensures
