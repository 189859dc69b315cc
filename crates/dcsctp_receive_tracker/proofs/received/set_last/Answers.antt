-- Where no range begins there, nothing is set.
use Rattle.std.proofs.Common.{◌∙◌, ap, sym, BTreeMap, ℕ}
use Rattle.dcsctp_receive_tracker.proofs.RangeEntryLemmas.{set_nothing}
use Rattle.dcsctp_receive_tracker.proofs.received.set_last.Goals as goal

pub returns-in_default-clause-entries : goal.returns-in_default-clause-entries
returns-in_default-clause-entries c =
    ap (λ (m : BTreeMap ℕ ℕ). m.entries) c.get_mut.follows.holds-at-none
    ∙ set_nothing c.args.first c.args.last c.args.ranges.now.entries (sym c.in_default.ensures.value)
