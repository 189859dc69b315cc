use Rattle.std.proofs.Common.{Ok, List, sym, subst, ◌∙◌}
use Rattle.dcsctp_core.specs.types.declared.ids.StreamId.{StreamId}
use Rattle.dcsctp_core.specs.types.declared.schedule.Call.{Call}
use Rattle.dcsctp_core.specs.types.Ids.{stream_numbers}
use Rattle.dcsctp_core.specs.types.Schedule.{call_content, reset_call}
use Rattle.dcsctp_core.specs.spec.endpoint.UserTurns.{UserTurns}
use Rattle.dcsctp_core.specs.types.Setting.{stream_priority, stream_low_threshold, longest_message}
use Rattle.dcsctp_core.specs.api.Calls.{UserView}
use Rattle.dcsctp_socket.specs.SocketView.{user_view_of}
use Rattle.dcsctp_world.specs.declared.act.Reply.TheVariants.{Done}
use Rattle.dcsctp_world.specs.Growth.{MakesUserCall, IsCallReply}
use Rattle.dcsctp_world.proofs.Setting.{setting_called}
use Rattle.dcsctp_world.proofs.watched_socket.make_call.Goals as goal

pub returns-in_ok-set_stream_priority-in-SetStreamPriority :
    goal.returns-in_ok-set_stream_priority-in-SetStreamPriority
returns-in_ok-set_stream_priority-in-SetStreamPriority g c =
    let old : UserView = user_view_of g.R.Rng.stream c.args.socket.now in
    let new : UserView = user_view_of g.R.Rng.stream c.set_stream_priority.new.self in
    let set = c.in_ok-set_stream_priority-in-SetStreamPriority.ensures in
    subst (λ (call : Call). MakesUserCall (UserTurns old.endpoint (call_content call)) (IsCallReply old.endpoint (call_content call)) old (Ok Done) new) (sym c.in-SetStreamPriority.is)
    (setting_called (stream_priority c.in-SetStreamPriority.stream_id.0 c.in-SetStreamPriority.priority) old new set.runs set.only)

pub returns-in_ok-set_buffered_amount_low_threshold-in-SetBufferedAmountLowThreshold :
    goal.returns-in_ok-set_buffered_amount_low_threshold-in-SetBufferedAmountLowThreshold
returns-in_ok-set_buffered_amount_low_threshold-in-SetBufferedAmountLowThreshold g c =
    let old : UserView = user_view_of g.R.Rng.stream c.args.socket.now in
    let new : UserView = user_view_of g.R.Rng.stream c.set_buffered_amount_low_threshold.new.self in
    let set = c.in_ok-set_buffered_amount_low_threshold-in-SetBufferedAmountLowThreshold.ensures in
    subst (λ (call : Call). MakesUserCall (UserTurns old.endpoint (call_content call)) (IsCallReply old.endpoint (call_content call)) old (Ok Done) new)
    (sym c.in-SetBufferedAmountLowThreshold.is)
    (setting_called (stream_low_threshold c.in-SetBufferedAmountLowThreshold.stream_id.0 c.in-SetBufferedAmountLowThreshold.bytes) old new set.runs set.only)

pub returns-else-has_failed : goal.returns-else-has_failed
returns-else-has_failed g c =
    let old : UserView = user_view_of g.R.Rng.stream c.args.socket.now in
    let new : UserView = user_view_of g.R.Rng.stream c.set_max_message_size.new.self in
    subst (λ (call : Call). MakesUserCall (UserTurns old.endpoint (call_content call)) (IsCallReply old.endpoint (call_content call)) old (Ok Done) new) (sym c.in-SetMaxMessageSize.is)
    (setting_called (longest_message c.in-SetMaxMessageSize.bytes) old new (sym c.has_failed.ensures ∙ c.if-has_failed.false) c.set_max_message_size.ensures)

pub returns-in-ResetStreams : goal.returns-in-ResetStreams
returns-in-ResetStreams g c =
    let old : UserView = user_view_of g.R.Rng.stream c.args.socket.now in
    let new : UserView = user_view_of g.R.Rng.stream c.reset_streams.new.socket in
    let result = c.reset_streams.result in
    subst (λ (call : Call). MakesUserCall (UserTurns old.endpoint (call_content call)) (IsCallReply old.endpoint (call_content call)) old result new) (sym c.in-ResetStreams.is)
    (subst (λ (ids : List StreamId). MakesUserCall (UserTurns old.endpoint (reset_call (stream_numbers ids))) (IsCallReply old.endpoint (reset_call (stream_numbers ids))) old result new)
    c.deref.ensures.value c.reset_streams.ensures)
