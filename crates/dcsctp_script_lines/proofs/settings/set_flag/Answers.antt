use Rattle.std.proofs.Common.{true, false}
use Rattle.dcsctp_script_lines.proofs.SettingLemmas.{flag_sets}
use Rattle.dcsctp_script_lines.proofs.settings.set_flag.Goals as goal

pub returns-in-true : goal.returns-in-true
returns-in-true c = flag_sets c.args.value.now c.args.name.now c.args.options.now true c.set_named_flag.result c.set_named_flag.new.options c.in-true.is c.set_named_flag.ensures

pub returns-in-false : goal.returns-in-false
returns-in-false c = flag_sets c.args.value.now c.args.name.now c.args.options.now false c.set_named_flag-in-false.result c.set_named_flag-in-false.new.options c.in-false.is c.set_named_flag-in-false.ensures
