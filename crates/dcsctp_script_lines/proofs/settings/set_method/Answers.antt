use Rattle.dcsctp_script_lines.specs.Settings.{method_is}
use Rattle.dcsctp_script_lines.specs.Number.{ReadsNumber}
use Rattle.std.proofs.Common.{◌-◌, ◌^◌, ℕ, Option, subst}
use Rattle.dcsctp_script_lines.proofs.settings.set_method.Goals as goal

pub returns : goal.returns
returns c =
    rw (c.in-zero_checksum_alternate_error_detection_method.is)
    (method_is _ (subst (λ (f : Option ℕ). ReadsNumber c.args.value.now (2 ^ 32 - 1) f) c.in-Some.is c.number.ensures))
