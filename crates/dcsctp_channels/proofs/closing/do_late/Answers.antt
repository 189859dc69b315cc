use Rattle.dcsctp_channel_calls.specs.Late.{a_reset, an_ack}
use Rattle.dcsctp_channels.proofs.closing.do_late.Goals as goal

pub returns-in-Some : goal.returns-in-Some
returns-in-Some g c =
    let due = c.in-Some.ensures.some in
    let done = c.in_ok-reset.ensures due.0 due.1 in (done.0, a_reset c.in-Some.stream due.0 due.1 due.2 done.1)

pub returns-in-Some-due_ack : goal.returns-in-Some-due_ack
returns-in-Some-due_ack g c =
    let due = c.in-Some-due_ack.ensures.some in
    let done = c.in_ok-send_ack.ensures due.0 due.1 in (done.0, an_ack c.in-Some-due_ack.stream due.0 c.in_default.ensures.none due.1 due.2 done.1)
