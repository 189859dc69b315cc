use Rattle.dcsctp_send_retransmission.proofs.named_places.NamedPlaces.clear_if.Goals as goal

pub returns-then-test : goal.returns-then-test
returns-then-test c place named = absurd (c.clear.ensures place named)
