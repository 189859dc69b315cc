use Rattle.dcsctp_theorem_sockets.proofs.HandshakeTurns.{HandshakeLaws}
use Rattle.dcsctp_theorem_progress.proofs.DataAcks.{lost_data_acks_connect}
use Rattle.dcsctp_theorem_progress.proofs.laws.lost_data_acks_connect.Goals as goal

pub returns : goal.returns
returns c =
    let law : HandshakeLaws = record {
      wire = record { back = c.built_packet_reads_back.ensures; as_itself = c.built_packet_reads_as_itself.ensures };
      offers = c.offer_reads_back.ensures.announced;
      answers = c.answer_keeps_agreement.ensures;
      cookies = c.cookie_reads_back.ensures;
    } in
    lost_data_acks_connect law c.time_passes_quietly.ensures
