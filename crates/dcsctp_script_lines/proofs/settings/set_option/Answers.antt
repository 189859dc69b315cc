use Rattle.std.proofs.Common.{◌⊎◌, ℕ, List}
use Rattle.dcsctp_types.specs.declared.options.Options.{Options}
use Rattle.dcsctp_script_lines.specs.Settings.{SetsLimit, SetsMethod, SetsSaidCount, SetsSaidFlag, SetsSaidSize, SetsSaidTime}
use Rattle.dcsctp_script_lines.proofs.SettingLemmas.{else_sets}
use Rattle.dcsctp_script_lines.proofs.settings.set_option.Goals as goal

abbrev Flags : List ℕ → List ℕ → Options → Options → Type 0
Flags name value old new = SetsSaidFlag name value old new

abbrev Limits : List ℕ → List ℕ → Options → Options → Type 0
Limits name value old new = SetsLimit value old name new ⊎ Flags name value old new

abbrev Times : List ℕ → List ℕ → Options → Options → Type 0
Times name value old new = SetsSaidTime name value old new ⊎ Limits name value old new

abbrev Sizes : List ℕ → List ℕ → Options → Options → Type 0
Sizes name value old new = SetsSaidSize name value old new ⊎ Times name value old new

abbrev Methods : List ℕ → List ℕ → Options → Options → Type 0
Methods name value old new = SetsMethod value old name new ⊎ Sizes name value old new

pub returns : goal.returns
returns c =
    let name = c.args.name.now in
    let value = c.args.value.now in
    let old = c.args.options.now in
    let new = c.set_flag.new.options in
    else_sets (SetsSaidCount name value) (Methods name value) old c.set_count.new.options new c.set_count.result c.set_flag.result c.if-set_count.false c.set_count.ensures
    (else_sets (λ from. SetsMethod value from name) (Sizes name value) c.set_count.new.options c.set_method.new.options new c.set_method.result c.set_flag.result c.if-set_method.false c.set_method.ensures
    (else_sets (SetsSaidSize name value) (Times name value) c.set_method.new.options c.set_size.new.options new c.set_size.result c.set_flag.result c.if-set_size.false c.set_size.ensures
    (else_sets (SetsSaidTime name value) (Limits name value) c.set_size.new.options c.set_time.new.options new c.set_time.result c.set_flag.result c.if-set_time.false c.set_time.ensures
    (else_sets (λ from. SetsLimit value from name) (Flags name value) c.set_time.new.options c.set_limit.new.options new c.set_limit.result c.set_flag.result c.if-set_limit.false c.set_limit.ensures c.set_flag.ensures))))
