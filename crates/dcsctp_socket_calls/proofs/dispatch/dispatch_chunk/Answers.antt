use Rattle.std.proofs.Common.{map, refl, subst}
use Rattle.std.proofs.lemmas.Result.{err_from_is_err_and}
use Rattle.dcsctp_core.specs.wire.Content.{cause_content, parameter_content}
use Rattle.dcsctp_core.specs.spec.endpoint.HeartbeatOutcomes.{counter_of, first_heartbeat_info}
use Rattle.dcsctp_core_heartbeat.specs.Heartbeats.{heartbeat_turn, heartbeat_ack_turn}
use Rattle.dcsctp_core.specs.wire.Content.{init_content, data_content, i_data_content, sack_content, data_chunk, i_data_chunk, sack_chunk, forward_tsn_chunk, i_forward_tsn_chunk}
use Rattle.dcsctp_core.specs.spec.Packet.{introduction_of_init, first_cookie, init_ack, cookie_echo, cookie_ack, re_config, shutdown, shutdown_ack, plain, unworked}
use Rattle.dcsctp_core.specs.spec.Packet as machine
use Rattle.dcsctp_core.specs.spec.queues.Arrivals.{Arrival, data_arrival, i_data_arrival, named_skips, skipped_messages}
use Rattle.dcsctp_core.specs.Handling.{TakesPossibleTurn, CutsSomeTurn}
use Rattle.dcsctp_core.specs.View.{core_of, view_of, endpoint_of}
use Rattle.dcsctp_core_handshake.specs.Handshake.{ReceivesInitAck, ReceivesCookieAck, ReceivesCookieEcho}
use Rattle.dcsctp_core_ends.specs.Ends.{abort_turn, error_turn}
use Rattle.dcsctp_core_ends.specs.Shutdown.{ack_turn, complete_turn}
use Rattle.dcsctp_socket_calls.proofs.ChunkLemmas.{init_worked, init_cut, works_chunk, works_one, works_whole}
use Rattle.dcsctp_socket_calls.specs.Unknown.{unknown_turn}
use Rattle.dcsctp_core_data.specs.Data.{ReceivesDataChunk, ReceivesForwardTsn}
use Rattle.dcsctp_core_data.specs.Sacks.{ReceivesSack}
use Rattle.dcsctp_core_data.specs.Shutdown.{ReceivesShutdown}
use Rattle.dcsctp_core_resets.specs.Requests.{reset_parameters}
use Rattle.dcsctp_core_resets.specs.Resets.{ReceivesReConfig}
use Rattle.dcsctp_socket_calls.proofs.DataTurns.{data_goes, forward_goes, sack_goes, shutdown_goes, cookie_ack_goes, reset_goes}
use Rattle.dcsctp_socket_calls.proofs.DispatchLemmas.{none_for, unknown_is, tries_worked, tries_cut, heartbeat_follows, heartbeat_ack_follows, heartbeat_is, heartbeat_ack_is, error_is, plain_at, takes_worked, takes_cut, late_at, late_for}
use Rattle.dcsctp_socket_calls.proofs.dispatch.dispatch_chunk.Goals as goal

pub returns-in_ok-handle_init-in-Init : goal.returns-in_ok-handle_init-in-Init
returns-in_ok-handle_init-in-Init g c =
    rw c.in-Init.is
    (init_worked g.R.Rng.stream (view_of c.args.context.now) (view_of c.handle_init.new.context) c.args.header_tag _ c.in_ok-handle_init-in-Init.ensures)

-- An INIT whose turn was cut added nothing.
pub returns-in_err-handle_init-in-Init : goal.returns-in_err-handle_init-in-Init
returns-in_err-handle_init-in-Init g c =
    rw c.in-Init.is
    (rw (err_from_is_err_and c.from_residual.result c.from_residual.ensures.1).1
    (init_cut (view_of c.args.context.now) (view_of c.handle_init.new.context) c.args.header_tag _ c.in_err-handle_init-in-Init.ensures))

pub returns-in-Abort : goal.returns-in-Abort
returns-in-Abort g c =
    rw c.in-Abort.is
    (works_whole g.R.Rng.stream c.args.header_tag _ (abort_turn (map cause_content c.in-Abort.abort.error_causes.items)) c.args.context.now c.handle_abort.result c.handle_abort.new.context
    refl c.handle_abort.ensures)

pub returns-in_ok-handle_heartbeat_request-in-HeartbeatRequest : goal.returns-in_ok-handle_heartbeat_request-in-HeartbeatRequest
returns-in_ok-handle_heartbeat_request-in-HeartbeatRequest g c =
    let old = c.args.context.now in
    let parameters = map parameter_content c.in-HeartbeatRequest.request.parameters.items in
    rw c.in-HeartbeatRequest.is
    (tries_worked g.R.Rng.stream old c.handle_heartbeat_request.new.context c.args.header_tag _ (heartbeat_turn parameters (view_of old))
    (heartbeat_is old c.args.header_tag parameters (none_for (core_of old.state) _ _ c.in-HeartbeatRequest.is c.requires.unbroken)) (heartbeat_follows (endpoint_of old) (core_of old.state) parameters) c.in_ok-handle_heartbeat_request-in-HeartbeatRequest.ensures)

pub returns-in_err-handle_heartbeat_request-in-HeartbeatRequest : goal.returns-in_err-handle_heartbeat_request-in-HeartbeatRequest
returns-in_err-handle_heartbeat_request-in-HeartbeatRequest g c =
    let old = c.args.context.now in
    let parameters = map parameter_content c.in-HeartbeatRequest.request.parameters.items in
    rw c.in-HeartbeatRequest.is
    (rw (err_from_is_err_and c.from_residual-in_err-handle_heartbeat_request-in-HeartbeatRequest.result c.from_residual-in_err-handle_heartbeat_request-in-HeartbeatRequest.ensures.1).1
    (tries_cut old (view_of c.handle_heartbeat_request.new.context) c.args.header_tag _ (heartbeat_turn parameters (view_of old))
    (heartbeat_is old c.args.header_tag parameters (none_for (core_of old.state) _ _ c.in-HeartbeatRequest.is c.requires.unbroken)) c.in_err-handle_heartbeat_request-in-HeartbeatRequest.ensures))

pub returns-in_ok-handle_heartbeat_ack-in-HeartbeatAck : goal.returns-in_ok-handle_heartbeat_ack-in-HeartbeatAck
returns-in_ok-handle_heartbeat_ack-in-HeartbeatAck g c =
    let old = c.args.context.now in
    let parameters = map parameter_content c.in-HeartbeatAck.ack.parameters.items in
    rw c.in-HeartbeatAck.is
    (tries_worked g.R.Rng.stream old c.handle_heartbeat_ack.new.context c.args.header_tag _ (heartbeat_ack_turn parameters (view_of old))
    (heartbeat_ack_is old c.args.header_tag parameters (none_for (core_of old.state) _ _ c.in-HeartbeatAck.is c.requires.unbroken)) (heartbeat_ack_follows (endpoint_of old) (counter_of (first_heartbeat_info parameters))) c.in_ok-handle_heartbeat_ack-in-HeartbeatAck.ensures)

pub returns-in_err-handle_heartbeat_ack-in-HeartbeatAck : goal.returns-in_err-handle_heartbeat_ack-in-HeartbeatAck
returns-in_err-handle_heartbeat_ack-in-HeartbeatAck g c =
    let old = c.args.context.now in
    let parameters = map parameter_content c.in-HeartbeatAck.ack.parameters.items in
    rw c.in-HeartbeatAck.is
    (rw (err_from_is_err_and c.from_residual-in_err-handle_heartbeat_ack-in-HeartbeatAck.result c.from_residual-in_err-handle_heartbeat_ack-in-HeartbeatAck.ensures.1).1
    (tries_cut old (view_of c.handle_heartbeat_ack.new.context) c.args.header_tag _ (heartbeat_ack_turn parameters (view_of old))
    (heartbeat_ack_is old c.args.header_tag parameters (none_for (core_of old.state) _ _ c.in-HeartbeatAck.is c.requires.unbroken)) c.in_err-handle_heartbeat_ack-in-HeartbeatAck.ensures))

pub returns-in_ok-handle_shutdown-in-Shutdown : goal.returns-in_ok-handle_shutdown-in-Shutdown
returns-in_ok-handle_shutdown-in-Shutdown g c =
    let old = c.args.context.now in
    let tsn = c.in-Shutdown.shutdown.cumulative_tsn_ack in
    rw c.in-Shutdown.is
    (takes_worked g.R.Rng.stream (view_of old) (view_of c.handle_shutdown.new.context) c.args.header_tag (shutdown tsn) (ReceivesShutdown tsn) (λ o turn. turn)
    (λ o turn. shutdown_goes (endpoint_of old) (core_of old.state) tsn o turn) c.in_ok-handle_shutdown-in-Shutdown.ensures)

pub returns-in_err-handle_shutdown-in-Shutdown : goal.returns-in_err-handle_shutdown-in-Shutdown
returns-in_err-handle_shutdown-in-Shutdown g c =
    let old = c.args.context.now in
    let tsn = c.in-Shutdown.shutdown.cumulative_tsn_ack in
    rw c.in-Shutdown.is
    (rw (err_from_is_err_and c.from_residual-in_err-handle_shutdown-in-Shutdown.result c.from_residual-in_err-handle_shutdown-in-Shutdown.ensures.1).1
    (takes_cut (view_of old) c.args.header_tag (shutdown tsn) (ReceivesShutdown tsn) (view_of c.handle_shutdown.new.context).events (λ o turn. turn) c.in_err-handle_shutdown-in-Shutdown.ensures))

pub returns-in-ShutdownAck : goal.returns-in-ShutdownAck
returns-in-ShutdownAck g c =
    rw c.in-ShutdownAck.is
    (works_chunk g.R.Rng.stream c.args.header_tag shutdown_ack (ack_turn c.args.header_tag) c.args.context.now c.handle_shutdown_ack.result c.handle_shutdown_ack.new.context
    refl c.handle_shutdown_ack.ensures)

pub returns-in-Error : goal.returns-in-Error
returns-in-Error g c =
    let old = c.args.context.now in
    let causes = map cause_content c.in-Error.error.error_causes.items in
    rw c.in-Error.is
    (works_whole g.R.Rng.stream c.args.header_tag _ (error_turn causes) old c.handle_error.result c.handle_error.new.context
    (error_is old c.args.header_tag causes (none_for (core_of old.state) _ _ c.in-Error.is c.requires.unbroken)) c.handle_error.ensures)

pub returns-in-ShutdownComplete : goal.returns-in-ShutdownComplete
returns-in-ShutdownComplete g c =
    rw c.in-ShutdownComplete.is
    (works_chunk g.R.Rng.stream c.args.header_tag _ complete_turn c.args.context.now c.handle_shutdown_complete.result
    c.handle_shutdown_complete.new.context refl c.handle_shutdown_complete.ensures)

pub returns-in_ok-handle_re_config-in-ReConfig : goal.returns-in_ok-handle_re_config-in-ReConfig
returns-in_ok-handle_re_config-in-ReConfig g c =
    let old = view_of c.args.context.now in
    let parameters = reset_parameters c.in-ReConfig.re_config.parameters.items in
    rw c.in-ReConfig.is
    (takes_worked g.R.Rng.stream old (view_of c.handle_re_config.new.context) c.args.header_tag (re_config parameters) (ReceivesReConfig parameters) (λ o turn. late_at old.endpoint c.args.header_tag (re_config parameters) o (late_for old.endpoint _ _ c.in-ReConfig.is c.requires.late) turn)
    (λ o turn. reset_goes old.endpoint parameters o turn) c.in_ok-handle_re_config-in-ReConfig.ensures)

pub returns-in_err-handle_re_config-in-ReConfig : goal.returns-in_err-handle_re_config-in-ReConfig
returns-in_err-handle_re_config-in-ReConfig g c =
    let parameters = reset_parameters c.in-ReConfig.re_config.parameters.items in
    rw c.in-ReConfig.is
    (rw (err_from_is_err_and c.from_residual-in_err-handle_re_config-in-ReConfig.result c.from_residual-in_err-handle_re_config-in-ReConfig.ensures.1).1
    (takes_cut (view_of c.args.context.now) c.args.header_tag (re_config parameters) (ReceivesReConfig parameters) _ (λ o turn. late_at (endpoint_of c.args.context.now) c.args.header_tag (re_config parameters) o (late_for (endpoint_of c.args.context.now) _ _ c.in-ReConfig.is c.requires.late) turn) c.in_err-handle_re_config-in-ReConfig.ensures))

pub returns-in-Unknown : goal.returns-in-Unknown
returns-in-Unknown g c =
    let old = c.args.context.now in
    let unknown = c.in-Unknown.unknown in
    rw c.in-Unknown.is
    (works_chunk g.R.Rng.stream c.args.header_tag (plain (machine.unknown unknown.chunk_type unknown.flags unknown.value.now)) (unknown_turn unknown.chunk_type unknown.flags unknown.value.now) old
    c.handle_unknown.result c.handle_unknown.new.context
    (unknown_is old c.args.header_tag unknown.chunk_type unknown.flags unknown.value.now (none_for (core_of old.state) _ _ c.in-Unknown.is c.requires.unbroken)) c.handle_unknown.ensures)

-- ---- data

pub returns-in_ok-handle_data-in-Data : goal.returns-in_ok-handle_data-in-Data
returns-in_ok-handle_data-in-Data g c =
    let old = c.args.context.now in
    let new = c.handle_data.new.context in
    let d = data_content c.in-Data.data in
    rw c.in-Data.is
    (takes_worked g.R.Rng.stream (view_of old) (view_of new) c.args.header_tag (plain (unworked (data_chunk d))) (ReceivesDataChunk (data_arrival d))
    (λ o turn. plain_at (endpoint_of old) c.args.header_tag (unworked (data_chunk d)) o (late_for (endpoint_of old) _ _ c.in-Data.is c.requires.late) (none_for (core_of old.state) _ _ c.in-Data.is c.requires.unbroken) turn)
    (λ o turn. data_goes (endpoint_of old) (data_arrival d) o turn)
    (subst (λ (x : Arrival). TakesPossibleTurn g.R.Rng.stream (ReceivesDataChunk x) (view_of old) (view_of new)) c.of_data.ensures c.in_ok-handle_data-in-Data.ensures))

pub returns-in_err-handle_data-in-Data : goal.returns-in_err-handle_data-in-Data
returns-in_err-handle_data-in-Data g c =
    let old = c.args.context.now in
    let new = c.handle_data.new.context in
    let d = data_content c.in-Data.data in
    rw c.in-Data.is
    (rw (err_from_is_err_and c.from_residual-in_err-handle_data-in-Data.result c.from_residual-in_err-handle_data-in-Data.ensures.1).1
    (takes_cut (view_of old) c.args.header_tag (plain (unworked (data_chunk d))) (ReceivesDataChunk (data_arrival d)) (view_of new).events
    (λ o turn. plain_at (endpoint_of old) c.args.header_tag (unworked (data_chunk d)) o (late_for (endpoint_of old) _ _ c.in-Data.is c.requires.late) (none_for (core_of old.state) _ _ c.in-Data.is c.requires.unbroken) turn)
    (subst (λ (x : Arrival). CutsSomeTurn (ReceivesDataChunk x) (view_of old) (view_of new).events) c.of_data.ensures c.in_err-handle_data-in-Data.ensures)))

pub returns-in_ok-handle_data-in-IData : goal.returns-in_ok-handle_data-in-IData
returns-in_ok-handle_data-in-IData g c =
    let old = c.args.context.now in
    let new = c.handle_data-in-IData.new.context in
    let d = i_data_content c.in-IData.data in
    rw c.in-IData.is
    (takes_worked g.R.Rng.stream (view_of old) (view_of new) c.args.header_tag (plain (unworked (i_data_chunk d))) (ReceivesDataChunk (i_data_arrival d))
    (λ o turn. plain_at (endpoint_of old) c.args.header_tag (unworked (i_data_chunk d)) o (late_for (endpoint_of old) _ _ c.in-IData.is c.requires.late) (none_for (core_of old.state) _ _ c.in-IData.is c.requires.unbroken) turn)
    (λ o turn. data_goes (endpoint_of old) (i_data_arrival d) o turn)
    (subst (λ (x : Arrival). TakesPossibleTurn g.R.Rng.stream (ReceivesDataChunk x) (view_of old) (view_of new)) c.of_i_data.ensures c.in_ok-handle_data-in-IData.ensures))

pub returns-in_err-handle_data-in-IData : goal.returns-in_err-handle_data-in-IData
returns-in_err-handle_data-in-IData g c =
    let old = c.args.context.now in
    let new = c.handle_data-in-IData.new.context in
    let d = i_data_content c.in-IData.data in
    rw c.in-IData.is
    (rw (err_from_is_err_and c.from_residual-in_err-handle_data-in-IData.result c.from_residual-in_err-handle_data-in-IData.ensures.1).1
    (takes_cut (view_of old) c.args.header_tag (plain (unworked (i_data_chunk d))) (ReceivesDataChunk (i_data_arrival d)) (view_of new).events
    (λ o turn. plain_at (endpoint_of old) c.args.header_tag (unworked (i_data_chunk d)) o (late_for (endpoint_of old) _ _ c.in-IData.is c.requires.late) (none_for (core_of old.state) _ _ c.in-IData.is c.requires.unbroken) turn)
    (subst (λ (x : Arrival). CutsSomeTurn (ReceivesDataChunk x) (view_of old) (view_of new).events) c.of_i_data.ensures c.in_err-handle_data-in-IData.ensures)))

pub returns-in_ok-handle_sack-in-Sack : goal.returns-in_ok-handle_sack-in-Sack
returns-in_ok-handle_sack-in-Sack g c =
    let old = c.args.context.now in
    let d = sack_content c.in-Sack.sack in
    rw c.in-Sack.is
    (takes_worked g.R.Rng.stream (view_of old) (view_of c.handle_sack.new.context) c.args.header_tag (plain (unworked (sack_chunk d))) (ReceivesSack d)
    (λ o turn. plain_at (endpoint_of old) c.args.header_tag (unworked (sack_chunk d)) o (late_for (endpoint_of old) _ _ c.in-Sack.is c.requires.late) (none_for (core_of old.state) _ _ c.in-Sack.is c.requires.unbroken) turn)
    (λ o turn. sack_goes (endpoint_of old) (endpoint_of old).queues.transfer d o turn) c.in_ok-handle_sack-in-Sack.ensures)

pub returns-in_err-handle_sack-in-Sack : goal.returns-in_err-handle_sack-in-Sack
returns-in_err-handle_sack-in-Sack g c =
    let old = c.args.context.now in
    let d = sack_content c.in-Sack.sack in
    rw c.in-Sack.is
    (rw (err_from_is_err_and c.from_residual-in_err-handle_sack-in-Sack.result c.from_residual-in_err-handle_sack-in-Sack.ensures.1).1
    (takes_cut (view_of old) c.args.header_tag (plain (unworked (sack_chunk d))) (ReceivesSack d) (view_of c.handle_sack.new.context).events
    (λ o turn. plain_at (endpoint_of old) c.args.header_tag (unworked (sack_chunk d)) o (late_for (endpoint_of old) _ _ c.in-Sack.is c.requires.late) (none_for (core_of old.state) _ _ c.in-Sack.is c.requires.unbroken) turn)
    c.in_err-handle_sack-in-Sack.ensures))

pub returns-in_ok-handle_forward_tsn-in-ForwardTsn : goal.returns-in_ok-handle_forward_tsn-in-ForwardTsn
returns-in_ok-handle_forward_tsn-in-ForwardTsn g c =
    let old = c.args.context.now in
    let d = c.in-ForwardTsn.forward_tsn in
    rw c.in-ForwardTsn.is
    (takes_worked g.R.Rng.stream (view_of old) (view_of c.handle_forward_tsn.new.context) c.args.header_tag (plain (unworked (forward_tsn_chunk d.new_cumulative_tsn d.skipped_streams.now))) (ReceivesForwardTsn d.new_cumulative_tsn (named_skips d.skipped_streams.now))
    (λ o turn. plain_at (endpoint_of old) c.args.header_tag (unworked (forward_tsn_chunk d.new_cumulative_tsn d.skipped_streams.now)) o (late_for (endpoint_of old) _ _ c.in-ForwardTsn.is c.requires.late) (none_for (core_of old.state) _ _ c.in-ForwardTsn.is c.requires.unbroken) turn)
    (λ o turn. forward_goes (endpoint_of old) (endpoint_of old).queues.transfer d.new_cumulative_tsn (named_skips d.skipped_streams.now) o turn) c.in_ok-handle_forward_tsn-in-ForwardTsn.ensures)

pub returns-in_err-handle_forward_tsn-in-ForwardTsn : goal.returns-in_err-handle_forward_tsn-in-ForwardTsn
returns-in_err-handle_forward_tsn-in-ForwardTsn g c =
    let old = c.args.context.now in
    let d = c.in-ForwardTsn.forward_tsn in
    rw c.in-ForwardTsn.is
    (rw (err_from_is_err_and c.from_residual-in_err-handle_forward_tsn-in-ForwardTsn.result c.from_residual-in_err-handle_forward_tsn-in-ForwardTsn.ensures.1).1
    (takes_cut (view_of old) c.args.header_tag (plain (unworked (forward_tsn_chunk d.new_cumulative_tsn d.skipped_streams.now))) (ReceivesForwardTsn d.new_cumulative_tsn (named_skips d.skipped_streams.now)) (view_of c.handle_forward_tsn.new.context).events
    (λ o turn. plain_at (endpoint_of old) c.args.header_tag (unworked (forward_tsn_chunk d.new_cumulative_tsn d.skipped_streams.now)) o (late_for (endpoint_of old) _ _ c.in-ForwardTsn.is c.requires.late) (none_for (core_of old.state) _ _ c.in-ForwardTsn.is c.requires.unbroken) turn)
    c.in_err-handle_forward_tsn-in-ForwardTsn.ensures))

pub returns-in_ok-handle_i_forward_tsn-in-IForwardTsn : goal.returns-in_ok-handle_i_forward_tsn-in-IForwardTsn
returns-in_ok-handle_i_forward_tsn-in-IForwardTsn g c =
    let old = c.args.context.now in
    let d = c.in-IForwardTsn.forward_tsn in
    rw c.in-IForwardTsn.is
    (takes_worked g.R.Rng.stream (view_of old) (view_of c.handle_i_forward_tsn.new.context) c.args.header_tag (plain (unworked (i_forward_tsn_chunk d.new_cumulative_tsn d.skipped_streams.now))) (ReceivesForwardTsn d.new_cumulative_tsn (skipped_messages d.skipped_streams.now))
    (λ o turn. plain_at (endpoint_of old) c.args.header_tag (unworked (i_forward_tsn_chunk d.new_cumulative_tsn d.skipped_streams.now)) o (late_for (endpoint_of old) _ _ c.in-IForwardTsn.is c.requires.late) (none_for (core_of old.state) _ _ c.in-IForwardTsn.is c.requires.unbroken) turn)
    (λ o turn. forward_goes (endpoint_of old) (endpoint_of old).queues.transfer d.new_cumulative_tsn (skipped_messages d.skipped_streams.now) o turn) c.in_ok-handle_i_forward_tsn-in-IForwardTsn.ensures)

pub returns-in_err-handle_i_forward_tsn-in-IForwardTsn : goal.returns-in_err-handle_i_forward_tsn-in-IForwardTsn
returns-in_err-handle_i_forward_tsn-in-IForwardTsn g c =
    let old = c.args.context.now in
    let d = c.in-IForwardTsn.forward_tsn in
    rw c.in-IForwardTsn.is
    (rw (err_from_is_err_and c.from_residual-in_err-handle_i_forward_tsn-in-IForwardTsn.result c.from_residual-in_err-handle_i_forward_tsn-in-IForwardTsn.ensures.1).1
    (takes_cut (view_of old) c.args.header_tag (plain (unworked (i_forward_tsn_chunk d.new_cumulative_tsn d.skipped_streams.now))) (ReceivesForwardTsn d.new_cumulative_tsn (skipped_messages d.skipped_streams.now)) (view_of c.handle_i_forward_tsn.new.context).events
    (λ o turn. plain_at (endpoint_of old) c.args.header_tag (unworked (i_forward_tsn_chunk d.new_cumulative_tsn d.skipped_streams.now)) o (late_for (endpoint_of old) _ _ c.in-IForwardTsn.is c.requires.late) (none_for (core_of old.state) _ _ c.in-IForwardTsn.is c.requires.unbroken) turn)
    c.in_err-handle_i_forward_tsn-in-IForwardTsn.ensures))

-- ---- the handshake

pub returns-in-InitAck : goal.returns-in-InitAck
returns-in-InitAck g c =
    let said = init_content c.in-InitAck.init_ack in
    rw c.in-InitAck.is
    (works_one g.R.Rng.stream c.args.header_tag (init_ack (introduction_of_init said) (first_cookie said.parameters)) (ReceivesInitAck (introduction_of_init said) (first_cookie said.parameters)) c.args.context.now
    c.handle_init_ack.result c.handle_init_ack.new.context (λ o turn. turn) c.handle_init_ack.ensures)

pub returns-in-CookieEcho : goal.returns-in-CookieEcho
returns-in-CookieEcho g c =
    let bytes = c.in-CookieEcho.echo.cookie.now in
    rw c.in-CookieEcho.is
    (works_one g.R.Rng.stream c.args.header_tag (cookie_echo bytes) (ReceivesCookieEcho c.args.header_tag bytes) c.args.context.now
    c.handle_cookie_echo.result c.handle_cookie_echo.new.context (λ o turn. turn) c.handle_cookie_echo.ensures)

pub returns-in_ok-handle_cookie_ack-in-CookieAck : goal.returns-in_ok-handle_cookie_ack-in-CookieAck
returns-in_ok-handle_cookie_ack-in-CookieAck g c =
    let old = view_of c.args.context.now in
    rw c.in-CookieAck.is
    (takes_worked g.R.Rng.stream old (view_of c.handle_cookie_ack.new.context) c.args.header_tag cookie_ack ReceivesCookieAck (λ o turn. turn) (λ o turn. cookie_ack_goes old.endpoint o turn)
    c.in_ok-handle_cookie_ack-in-CookieAck.ensures)

pub returns-in_err-handle_cookie_ack-in-CookieAck : goal.returns-in_err-handle_cookie_ack-in-CookieAck
returns-in_err-handle_cookie_ack-in-CookieAck g c =
    rw c.in-CookieAck.is
    (rw (err_from_is_err_and c.from_residual-in_err-handle_cookie_ack-in-CookieAck.result c.from_residual-in_err-handle_cookie_ack-in-CookieAck.ensures.1).1
    (takes_cut (view_of c.args.context.now) c.args.header_tag cookie_ack ReceivesCookieAck _ (λ o turn. turn) c.in_err-handle_cookie_ack-in-CookieAck.ensures))
