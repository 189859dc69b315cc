-- What a walk over the streams in use keeps.
use Rattle.std.proofs.Common.{◌≡◌, ℕ, Some, List, ◌∷◌, sym, subst}
use Rattle.std.specs.BTreeMap.{BTreeMap, IsOrdered}
use Rattle.std.specs.List.{All}
use Rattle.std.specs.Ordering.{nat_cmp}
use Rattle.std.proofs.lemmas.Cmp.{nat_cmp_total}
use Rattle.std.proofs.lemmas.List.Elements.{All-cons, All-head, All-tail}
use Rattle.std.proofs.lemmas.Map.Views.{All-found}
use Rattle.dcsctp_channel_calls.specs.declared.channel.HeldStream.{HeldStream}
use Rattle.dcsctp_channel_calls.specs.View.{entry_numbered}

-- it holds of all if it holds of those that are left, each of which is in its place
pub record LooksFurther (Holds : ℕ × HeldStream → Type 0) (all rest : List (ℕ × HeldStream)) : Type 0 where
  pub all_if : All Holds rest → All Holds all
  pub found : All (λ (entry : ℕ × HeldStream). entry_numbered entry.0 all ≡ Some entry.1) rest

pub looks_begin : (Holds : ℕ × HeldStream → Type 0) (map : BTreeMap ℕ HeldStream) (rest : List (ℕ × HeldStream)) → rest ≡ map.entries → IsOrdered nat_cmp map
    → LooksFurther Holds map.entries rest
looks_begin Holds map rest is ordered =
    subst (λ (es : List (ℕ × HeldStream)). LooksFurther Holds map.entries es) (sym is) (record { all_if = λ holds. holds; found = All-found nat_cmp_total map ordered })

pub looks_next : (Holds : ℕ × HeldStream → Type 0) (all before rest : List (ℕ × HeldStream)) (entry : ℕ × HeldStream) → LooksFurther Holds all before → before ≡ entry ∷ rest
    → Holds entry → LooksFurther Holds all rest
looks_next Holds all before rest entry looks is holds =
    let on = subst (λ (es : List (ℕ × HeldStream)). LooksFurther Holds all es) is looks in
    record { all_if = λ others. on.all_if (All-cons Holds entry rest holds others); found = All-tail (λ (e : ℕ × HeldStream). entry_numbered e.0 all ≡ Some e.1) entry rest on.found }

pub looks_at : (Holds : ℕ × HeldStream → Type 0) (all before rest : List (ℕ × HeldStream)) (entry : ℕ × HeldStream) → LooksFurther Holds all before → before ≡ entry ∷ rest
    → entry_numbered entry.0 all ≡ Some entry.1
looks_at Holds all before rest entry looks is =
    let on = subst (λ (es : List (ℕ × HeldStream)). LooksFurther Holds all es) is looks in
    All-head (λ (e : ℕ × HeldStream). entry_numbered e.0 all ≡ Some e.1) entry rest on.found
