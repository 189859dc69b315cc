use Rattle.std.proofs.Common.{◌≡◌, ◌+◌, sym, ◌∙◌, arith}
use Rattle.dcsctp_channels.specs.Weights.{late_weight, late_count}
use Rattle.dcsctp_channels.proofs.Weighing.{freed_weight}
use Rattle.dcsctp_channels.proofs.table.Table.free.Goals as goal

pub overflow_sub-self : goal.overflow_sub-self
overflow_sub-self c =
    let counted : c.args.self.now.late ≡ late_count c.args.self.now.channels.entries = c.args.self.now.counted in
    let weight : c.weight.result ≡ late_weight c.in-Some.held = c.weight.ensures in
    let sum : late_count c.remove.new.self.entries + late_weight c.in-Some.held ≡ late_count c.args.self.now.channels.entries =
    freed_weight c.args.stream c.args.self.now.channels.entries c.remove.new.self.entries c.in-Some.held c.remove.ensures.entries (sym c.remove.ensures.value ∙ c.in-Some.is) in omega arith

pub invariant_of-self : goal.invariant_of-self
invariant_of-self c =
    let counted : c.args.self.now.late ≡ late_count c.args.self.now.channels.entries = c.args.self.now.counted in
    let weight : c.weight.result ≡ late_weight c.in-Some.held = c.weight.ensures in
    let sum : late_count c.remove.new.self.entries + late_weight c.in-Some.held ≡ late_count c.args.self.now.channels.entries =
    freed_weight c.args.stream c.args.self.now.channels.entries c.remove.new.self.entries c.in-Some.held c.remove.ensures.entries (sym c.remove.ensures.value ∙ c.in-Some.is) in record { counted = omega arith }
