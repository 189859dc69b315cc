use Rattle.dcsctp_theorem_sockets.proofs.HandshakeTurns.{HandshakeLaws}
use Rattle.dcsctp_theorem_progress.proofs.LossySteps.{lossy_rounds_connect}
use Rattle.dcsctp_theorem_progress.proofs.laws.lossy_rounds_connect.Goals as goal

pub returns : goal.returns
returns c =
    let law : HandshakeLaws = record {
      wire = record { back = c.built_packet_reads_back.ensures; as_itself = c.built_packet_reads_as_itself.ensures };
      offers = c.offer_reads_back.ensures.announced;
      answers = c.answer_keeps_agreement.ensures;
      cookies = c.cookie_reads_back.ensures;
    } in
    lossy_rounds_connect c.lossy_rounds_lead_on.ensures c.lost_rounds_are_made_good.ensures law c.time_passes_quietly.ensures
