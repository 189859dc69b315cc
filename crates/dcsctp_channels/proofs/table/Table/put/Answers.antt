use Rattle.std.proofs.Common.{◌≡◌, ◌+◌, Option, sym, ap, ◌∙◌, arith}
use Rattle.std.specs.Option.{unwrap_or, option_map}
use Rattle.dcsctp_channel_calls.specs.declared.channel.HeldStream.{HeldStream}
use Rattle.dcsctp_channels.specs.Weights.{late_weight, late_count}
use Rattle.dcsctp_channels.proofs.Weighing.{put_weight}
use Rattle.dcsctp_channels.proofs.table.Table.put.Goals as goal

pub overflow_sub-self : goal.overflow_sub-self
overflow_sub-self c =
    let counted : c.args.self.now.late ≡ late_count c.args.self.now.channels.entries = c.args.self.now.counted in
    let more : c.in-Some.late ≡ c.args.self.now.late + c.weight.result = c.in-Some.ensures.1 in
    let weight : c.weight.result ≡ late_weight c.args.held = c.weight.ensures in
    let before : c.weight-in-Some-2.result ≡ late_weight c.in-Some-2.before = c.weight-in-Some-2.ensures in
    let sum : late_count c.insert.new.self.entries + late_weight c.in-Some-2.before ≡ late_count c.args.self.now.channels.entries + late_weight c.args.held =
    ap (λ (o : Option HeldStream). late_count c.insert.new.self.entries + unwrap_or (option_map late_weight o) 0) (sym c.in-Some-2.is)
    ∙ put_weight c.args.stream c.args.held c.args.self.now.channels.entries c.insert.new.self.entries c.in_ok-before.field-0 c.insert.ensures.was_ordered c.in_ok-before.ensures.entries c.in_ok-before.ensures.old in omega arith

pub invariant_of-self-in-Some-2 : goal.invariant_of-self-in-Some-2
invariant_of-self-in-Some-2 c =
    let counted : c.args.self.now.late ≡ late_count c.args.self.now.channels.entries = c.args.self.now.counted in
    let more : c.in-Some.late ≡ c.args.self.now.late + c.weight.result = c.in-Some.ensures.1 in
    let weight : c.weight.result ≡ late_weight c.args.held = c.weight.ensures in
    let before : c.weight-in-Some-2.result ≡ late_weight c.in-Some-2.before = c.weight-in-Some-2.ensures in
    let sum : late_count c.insert.new.self.entries + late_weight c.in-Some-2.before ≡ late_count c.args.self.now.channels.entries + late_weight c.args.held =
    ap (λ (o : Option HeldStream). late_count c.insert.new.self.entries + unwrap_or (option_map late_weight o) 0) (sym c.in-Some-2.is)
    ∙ put_weight c.args.stream c.args.held c.args.self.now.channels.entries c.insert.new.self.entries c.in_ok-before.field-0 c.insert.ensures.was_ordered c.in_ok-before.ensures.entries c.in_ok-before.ensures.old in record { counted = omega arith }

pub invariant_of-self-in-None : goal.invariant_of-self-in-None
invariant_of-self-in-None c =
    let counted : c.args.self.now.late ≡ late_count c.args.self.now.channels.entries = c.args.self.now.counted in
    let more : c.in-Some.late ≡ c.args.self.now.late + c.weight.result = c.in-Some.ensures.1 in
    let weight : c.weight.result ≡ late_weight c.args.held = c.weight.ensures in
    let sum : late_count c.insert.new.self.entries + 0 ≡ late_count c.args.self.now.channels.entries + late_weight c.args.held =
    ap (λ (o : Option HeldStream). late_count c.insert.new.self.entries + unwrap_or (option_map late_weight o) 0) (sym c.in-None.is)
    ∙ put_weight c.args.stream c.args.held c.args.self.now.channels.entries c.insert.new.self.entries c.in_ok-before.field-0 c.insert.ensures.was_ordered c.in_ok-before.ensures.entries c.in_ok-before.ensures.old in record { counted = omega arith }
