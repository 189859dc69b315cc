use Rattle.std.proofs.Common.{◌≡◌, ℕ, length, ap, ◌∙◌, arith}
use Rattle.dcsctp_channel_calls.specs.View.{received_on}
use Rattle.dcsctp_channels.specs.Layer.{layer_view}
use Rattle.dcsctp_channels.proofs.Hearing.{heard_in}
use Rattle.dcsctp_channels.proofs.arrivals.hear_open.Goals as goal

pub returns : goal.returns
returns c =
    let bytes : c.len.result ≡ length c.args.bytes.items = omega arith in
    heard_in c.args.stream (record { is_text = c.args.is_text; bytes = c.args.bytes.items }) c.args.held.now c.received_on-counted.result c.step_of-step.result
    (layer_view c.args.layer.now) (layer_view c.report_notice.new.layer) (layer_view c.report_message.new.layer) (layer_view c.leave.new.layer) c.leave.result
    c.requires.at c.requires.goes_on c.step_of-step.ensures c.in_ok-report_notice.ensures c.in_ok-report_message.ensures (c.received_on-counted.ensures ∙ ap (λ (n : ℕ). received_on n c.args.held.now) bytes) c.leave.ensures
