use Rattle.std.proofs.Common.{refl}
use Rattle.dcsctp_core.specs.spec.Reconfiguration.{streams_of_bytes}
use Rattle.dcsctp_core_resets.specs.Requests.{in_state}
use Rattle.dcsctp_core_resets.specs.Resets.{reset_of_request}
use Rattle.dcsctp_core_resets.proofs.RequestLemmas.{outgoing_one, incoming_one, other_one, response_one, not_second}
use Rattle.dcsctp_core_resets.proofs.requests.HandledRequests.handle_parameter.Goals as goal

pub returns-in_ok-respond-in-OutgoingSsnResetRequest : goal.returns-in_ok-respond-in-OutgoingSsnResetRequest
returns-in_ok-respond-in-OutgoingSsnResetRequest c =
    let request = c.in-OutgoingSsnResetRequest.request in
    rw c.in-OutgoingSsnResetRequest.is
    (outgoing_one (in_state c.args.state) request.request_seq_nbr request.response_seq_nbr (reset_of_request request) c.args.self.now c.respond.new.self _
    c.answer_outgoing-answered.result (not_second c.args.self.now.has_worked _ request c.in-OutgoingSsnResetRequest.is c.requires) c.answer_outgoing-answered.ensures
    (c.in_ok-respond-in-OutgoingSsnResetRequest.ensures) refl refl refl refl (record { outstanding = refl; own = refl; first = refl }) refl)

pub returns-in_ok-respond-in-IncomingSsnResetRequest : goal.returns-in_ok-respond-in-IncomingSsnResetRequest
returns-in_ok-respond-in-IncomingSsnResetRequest c =
    let request = c.in-IncomingSsnResetRequest.request in
    rw c.in-IncomingSsnResetRequest.is
    (incoming_one (in_state c.args.state) request.request_seq_nbr (streams_of_bytes request.streams.now) c.args.self.now c.respond-in-IncomingSsnResetRequest.new.self _
    c.answer_incoming-answered.result c.answer_incoming-answered.ensures
    (c.in_ok-respond-in-IncomingSsnResetRequest.ensures) refl refl refl refl (record { outstanding = refl; own = refl; first = refl }) refl)

pub returns-in-ReconfigurationResponse : goal.returns-in-ReconfigurationResponse
returns-in-ReconfigurationResponse c = rw c.in-ReconfigurationResponse.is (response_one (in_state c.args.state) _ _ c.args.self.now c.take_response.new.self c.take_response.ensures)

pub returns-in-HeartbeatInfo : goal.returns-in-HeartbeatInfo
returns-in-HeartbeatInfo c = rw c.in-HeartbeatInfo.is (other_one (in_state c.args.state) _ c.args.self.now)

pub returns-in-StateCookie : goal.returns-in-StateCookie
returns-in-StateCookie c = rw c.in-StateCookie.is (other_one (in_state c.args.state) _ c.args.self.now)

pub returns-in-SupportedExtensions : goal.returns-in-SupportedExtensions
returns-in-SupportedExtensions c = rw c.in-SupportedExtensions.is (other_one (in_state c.args.state) _ c.args.self.now)

pub returns-in-ZeroChecksumAcceptable : goal.returns-in-ZeroChecksumAcceptable
returns-in-ZeroChecksumAcceptable c = rw c.in-ZeroChecksumAcceptable.is (other_one (in_state c.args.state) _ c.args.self.now)

pub returns-in-ForwardTsnSupported : goal.returns-in-ForwardTsnSupported
returns-in-ForwardTsnSupported c = rw c.in-ForwardTsnSupported.is (other_one (in_state c.args.state) _ c.args.self.now)

pub returns-in-Unknown : goal.returns-in-Unknown
returns-in-Unknown c = rw c.in-Unknown.is (other_one (in_state c.args.state) _ c.args.self.now)
