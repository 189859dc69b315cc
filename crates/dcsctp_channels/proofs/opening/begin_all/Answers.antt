use Rattle.std.proofs.Common.{List, map, ap, ◌∙◌}
use Rattle.dcsctp_channel_calls.specs.Calls.{on_layer}
use Rattle.dcsctp_channel_calls.specs.Opening.{channels_waiting}
use Rattle.dcsctp_channels.specs.declared.layer.Waiting.{Waiting}
use Rattle.dcsctp_channels.specs.Layer.{waiting_said, whole_view}
use Rattle.dcsctp_channels.proofs.Loops.{none_left, begins_next, begins_stop, begins_done}
use Rattle.dcsctp_channels.proofs.opening.begin_all.Goals as goal

pub loop-waiting-preserved : goal.loop-waiting-preserved
loop-waiting-preserved g c =
    begins_next c.args.role _ _ _ (waiting_said c.in-Some.waiting) (map waiting_said c.pop_front.new.self.items) c.in_ok-begin_first.field-0
    c.loop-waiting.invariant (ap (map waiting_said) c.in-Some.ensures.items) c.if-not-branch.false c.in_ok-begin_first.ensures.1 c.in_ok-begin_first.ensures.0

pub returns-then-not-branch : goal.returns-then-not-branch
returns-then-not-branch g c =
    let begun = whole_view (g.S.DcSctpSocket.user_view c.begin_first.new.socket) c.begin_first.new.layer in
    begins_stop c.args.role _ _ begun _ (waiting_said c.in-Some.waiting) (map waiting_said c.pop_front.new.self.items) c.in_ok-begin_first.field-0
    c.loop-waiting.invariant (ap (map waiting_said) c.in-Some.ensures.items) c.if-not-branch.true c.in_ok-begin_first.ensures.1 c.in_ok-begin_first.ensures.0
    (ap (λ (waiting : List Waiting). on_layer (channels_waiting (map waiting_said waiting)) begun) c.in_ok-push_front.ensures.items)

pub returns : goal.returns
returns g c =
    let old = whole_view (g.S.DcSctpSocket.user_view c.loop-waiting.socket) c.loop-waiting.layer in
    let none = none_left c.loop-waiting.layer.waiting.items c.pop_front.new.self.items c.in_default.ensures.items c.pop_front.ensures.rest in
    begins_done c.args.role _ old _ c.loop-waiting.invariant (ap (map waiting_said) (c.in_default.ensures.items ∙ none)) (ap (λ (waiting : List Waiting). on_layer (channels_waiting (map waiting_said waiting)) old) none)
