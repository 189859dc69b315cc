-- What stood at the key stands there again, or nothing does.
use Rattle.std.proofs.Common.{◌≡◌, ℕ, List, None, Some, sym, ap, ◌∙◌}
use Rattle.std.specs.Option.{option_copied_mut}
use Rattle.std.specs.Ordering.{nat_cmp}
use Rattle.std.specs.BTreeMap.{is_at}
use Rattle.std.specs.Map.{lookup, remove_entry, set_value}
use Rattle.dcsctp_api.specs.types.declared.arrivals.SkippedTo.{SkippedTo}
use Rattle.dcsctp_receive_reassembly.proofs.SkipsLemmas.{taken_back, written_back, looked_up_again}
use Rattle.dcsctp_receive_reassembly.proofs.deferral.put_back.Goals as goal

pub returns-in-None : goal.returns-in-None
returns-in-None c = λ before was.
    c.remove.ensures.entries
    ∙ ap (λ (es : List (ℕ × SkippedTo)). remove_entry (is_at (nat_cmp c.args.one.key)) es) was.put
    ∙ taken_back c.args.one.key was.entry before (sym c.in-None.is ∙ was.stood)

pub returns-in-Some-get_mut : goal.returns-in-Some-get_mut
returns-in-Some-get_mut c = λ before was.
    (c.get_mut.follows.holds c.in-Some.entry).0
    ∙ ap (λ (es : List (ℕ × SkippedTo)). set_value (is_at (nat_cmp c.args.one.key)) es c.in-Some.entry) was.put
    ∙ written_back c.args.one.key was.entry c.in-Some.entry before was.ascends (sym c.in-Some.is ∙ was.stood)

pub returns-in_default : goal.returns-in_default
returns-in_default c = λ before was.
    absurd (let no : None ≡ Some was.entry =
    sym (ap option_copied_mut c.in_default.is) ∙ c.get_mut.ensures.value
    ∙ ap (λ (es : List (ℕ × SkippedTo)). lookup (is_at (nat_cmp c.args.one.key)) es) was.put
    ∙ looked_up_again c.args.one.key was.entry before in cc)
