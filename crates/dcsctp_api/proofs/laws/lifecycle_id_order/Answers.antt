-- Two identifiers of one number are one: their `nonzero` is the same fact.
use Rattle.std.proofs.Common.{rules, ◌≡◌, ◌<◌}
use Rattle.std.specs.Coded.{le_prop}
use mathlib.Core.HLevel.{is_prop→PathP}
use Rattle.dcsctp_spec_lemmas.specs.types.declared.ids.LifecycleId.{LifecycleId}
use Rattle.dcsctp_api.proofs.laws.lifecycle_id_order.Goals as goal

-- identifiers of equal numbers are equal
same_number : (x y : LifecycleId) → x.value ≡ y.value → x ≡ y
same_number x y e =
    λ i. record {
      value = e i;
      nonzero = is_prop→PathP (λ j. 0 < e j) (λ _. le_prop) x.nonzero y.nonzero i;
    }

pub returns-clause-equality : goal.returns-clause-equality
returns-clause-equality c x y = (λ t. same_number x y (search rules), λ e. search rules)
