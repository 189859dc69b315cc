use Rattle.std.proofs.Common.{◌≡◌, true, Result, Ok, subst}
use Rattle.dcsctp_core.specs.types.declared.snapshot.SocketHandoverState.{SocketHandoverState}
use Rattle.dcsctp_core.specs.types.Snapshot.{snapshot, is_valid_snapshot}
use Rattle.dcsctp_core.specs.api.declared.errors.HandoverError.{HandoverError}
use Rattle.dcsctp_core.specs.api.Calls.{UserView}
use Rattle.dcsctp_core.specs.api.Handover.{HandsOver}
use Rattle.dcsctp_socket.specs.SocketView.{user_view_of}
use Rattle.dcsctp_world.proofs.HandingOn.{hands_on, valid_there, hand_over_refused}
use Rattle.dcsctp_world.proofs.watched_socket.hand_over_and_restore.Goals as goal

pub restore-requires : goal.restore-requires
restore-requires g c =
    let old : UserView = user_view_of g.R.Rng.stream c.args.socket.now in
    let mid : UserView = user_view_of g.R.Rng.stream c.get_handover_state_and_close.new.self in
    let handed = subst (λ (answer : Result SocketHandoverState HandoverError). HandsOver old (Ok answer) mid) c.in-Ok.is c.in_ok-error.ensures.call in
    valid_there old mid (snapshot c.in-Ok.state) handed.turns handed.answers.0 handed.answers.2 handed.are handed.follows

pub returns-in-Err : goal.returns-in-Err
returns-in-Err g c =
    let old : UserView = user_view_of g.R.Rng.stream c.args.socket.now in
    let new : UserView = user_view_of g.R.Rng.stream c.get_handover_state_and_close.new.self in
    let refused = subst (λ (answer : Result SocketHandoverState HandoverError). HandsOver old (Ok answer) new) c.in-Err.is c.in_ok-error.ensures.call in
    hand_over_refused old new c.in-Err.error refused.turns refused.answers refused.are refused.follows

pub returns-in-Ok : goal.returns-in-Ok
returns-in-Ok g c =
    let old : UserView = user_view_of g.R.Rng.stream c.args.socket.now in
    let mid : UserView = user_view_of g.R.Rng.stream c.get_handover_state_and_close.new.self in
    let new : UserView = user_view_of g.R.Rng.stream c.restore.new.socket in
    let handed = subst (λ (answer : Result SocketHandoverState HandoverError). HandsOver old (Ok answer) mid) c.in-Ok.is c.in_ok-error.ensures.call in
    let valid : is_valid_snapshot mid.endpoint.options (snapshot c.in-Ok.state) ≡ true =
    valid_there old mid (snapshot c.in-Ok.state) handed.turns handed.answers.0 handed.answers.2 handed.are handed.follows in
    hands_on old mid new (snapshot c.in-Ok.state) c.restore.result handed.turns handed.answers.0 handed.answers.1 valid handed.are handed.follows c.restore.ensures
