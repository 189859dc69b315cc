use Rattle.std.proofs.Common.{arith}
use Rattle.std.proofs.lemmas.List.{length-map}
use Rattle.dcsctp_transfer.specs.types.Ids.{stream_numbers}
use Rattle.dcsctp_core.proofs.ResetLemmas.{request_room}
use Rattle.dcsctp_core.proofs.transmission_control_block.TransmissionControlBlock.start_ssn_reset_request.Goals as goal

pub add_prepared_ssn_reset_request-requires : goal.add_prepared_ssn_reset_request-requires
add_prepared_ssn_reset_request-requires c =
    let count = length-map c.args.streams.items (λ id. id.0) in
    request_room c.args.self.now.next_outgoing_reset_req_seq_nbr (record { last_tsn = c.begin_reset_streams-last_tsn.result; streams = stream_numbers c.args.streams.items; is_new = c.args.start.is_new }) _ (omega (arith, count, c.requires))
