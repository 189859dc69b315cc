use Rattle.dcsctp_theorem_sockets.proofs.HandshakeTurns.{HandshakeLaws}
use Rattle.dcsctp_theorem_progress.proofs.OlderInits.{older_associations_give_way_to_inits}
use Rattle.dcsctp_theorem_progress.proofs.laws.older_associations_give_way_to_inits.Goals as goal

pub returns : goal.returns
returns c =
    let law : HandshakeLaws = record {
      wire = record { back = c.built_packet_reads_back.ensures; as_itself = c.built_packet_reads_as_itself.ensures };
      offers = c.offer_reads_back.ensures.announced;
      answers = c.answer_keeps_agreement.ensures;
      cookies = c.cookie_reads_back.ensures;
    } in
    older_associations_give_way_to_inits law c.time_passes_quietly.ensures
