use Rattle.dcsctp_script_lines.specs.Number.{ReadsNumber}
use Rattle.dcsctp_script_lines.proofs.SettingLemmas.{time_sets}
use Rattle.std.proofs.Common.{◌-◌, ◌^◌, ℕ, Option, subst}
use Rattle.dcsctp_script_lines.proofs.settings.set_time.Goals as goal

pub returns-in-Some : goal.returns-in-Some
returns-in-Some c =
    time_sets c.args.value.now c.args.name.now c.args.options.now c.from_millis.result c.set_named_time.result c.set_named_time.new.options
    (c.in-Some.millis, subst (λ (f : Option ℕ). ReadsNumber c.args.value.now (2 ^ 64 - 1) f) c.in-Some.is c.number.ensures, c.from_millis.ensures) c.set_named_time.ensures
