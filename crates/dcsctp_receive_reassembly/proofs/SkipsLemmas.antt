-- Lemmas on entries that are put back.
use Rattle.std.proofs.Common.{Ordering, ◌≡◌, ℕ, ◌<◌, true, cond, Some, None, List, [], ◌∷◌, ◌++◌, arith, refl, sym, ◌∙◌, ap, subst}
use Rattle.std.specs.Ordering.{nat_cmp, is_eq, match_ordering}
use Rattle.std.specs.declared.cmp.Ordering.TheVariants.{Less, Equal, Greater}
use Rattle.std.specs.List.{AllByRecursion}
use Rattle.std.specs.List.Sorted.{IsStrictlySortedBy}
use Rattle.std.specs.Map.{keys_of, lookup, set_value, remove_entry}
use Rattle.std.specs.BTreeMap.{insert_entry, is_at}
use Rattle.std.proofs.lemmas.Bool.Decides.{nat_tests}
use Rattle.dcsctp_api.specs.types.declared.arrivals.SkippedTo.{SkippedTo}
use Rattle.dcsctp_receive_ordered_map.specs.Entries.{Ascends}
use Rattle.dcsctp_receive_reassembly.specs.declared.deferral.Replaced.{Replaced}
use Rattle.dcsctp_receive_reassembly.specs.Skips.{WasReplaced, WereReplaced}

at_itself : (key : ℕ) → is_at (nat_cmp key) key ≡ true
at_itself key = let same : nat_cmp key key ≡ Equal = grind (arith, nat_tests) in ap is_eq same

-- what was put at a key is there
pub looked_up_again : (key : ℕ) (entry : SkippedTo) (es : List (ℕ × SkippedTo)) → lookup (is_at (nat_cmp key)) (insert_entry nat_cmp es key entry) ≡ Some entry
looked_up_again key entry [] = ap (λ test. cond test (Some entry) None) (at_itself key)
looked_up_again key entry (e ∷ es) = go (nat_cmp key e.0) refl (looked_up_again key entry es)
  where
    go : (o : Ordering) → nat_cmp key e.0 ≡ o → lookup (is_at (nat_cmp key)) (insert_entry nat_cmp es key entry) ≡ Some entry → lookup (is_at (nat_cmp key)) (match_ordering o ((key, entry) ∷ e ∷ es) ((e.0, entry) ∷ es) (e ∷ insert_entry nat_cmp es key entry)) ≡ Some entry
    go Less is rest = ap (λ test. cond test (Some entry) (lookup (is_at (nat_cmp key)) (e ∷ es))) (at_itself key)
    go Equal is rest = ap (λ o. cond (is_eq o) (Some entry) (lookup (is_at (nat_cmp key)) es)) is
    go Greater is rest = ap (λ o. cond (is_eq o) (Some e.1) (lookup (is_at (nat_cmp key)) (insert_entry nat_cmp es key entry))) is ∙ rest

-- an entry that is new is taken out again
pub taken_back : (key : ℕ) (entry : SkippedTo) (es : List (ℕ × SkippedTo)) → None ≡ lookup (is_at (nat_cmp key)) es → remove_entry (is_at (nat_cmp key)) (insert_entry nat_cmp es key entry) ≡ es
taken_back key entry [] none = ap (λ test. cond test [] ((key, entry) ∷ [])) (at_itself key)
taken_back key entry (e ∷ es) none = go (nat_cmp key e.0) refl none (taken_back key entry es)
  where
    go : (o : Ordering) → nat_cmp key e.0 ≡ o → None ≡ cond (is_at (nat_cmp key) e.0) (Some e.1) (lookup (is_at (nat_cmp key)) es) → (None ≡ lookup (is_at (nat_cmp key)) es → remove_entry (is_at (nat_cmp key)) (insert_entry nat_cmp es key entry) ≡ es) → remove_entry (is_at (nat_cmp key)) (match_ordering o ((key, entry) ∷ e ∷ es) ((e.0, entry) ∷ es) (e ∷ insert_entry nat_cmp es key entry)) ≡ e ∷ es
    go Less is none rest = ap (λ test. cond test (e ∷ es) ((key, entry) ∷ remove_entry (is_at (nat_cmp key)) (e ∷ es))) (at_itself key)
    go Equal is none rest = absurd (let found : None ≡ Some e.1 = none ∙ ap (λ o. cond (is_eq o) (Some e.1) (lookup (is_at (nat_cmp key)) es)) is in cc)
    go Greater is none rest =
        ap (λ o. cond (is_eq o) (insert_entry nat_cmp es key entry) (e ∷ remove_entry (is_at (nat_cmp key)) (insert_entry nat_cmp es key entry))) is
        ∙ ap (λ others. e ∷ others) (rest (none ∙ ap (λ o. cond (is_eq o) (Some e.1) (lookup (is_at (nat_cmp key)) es)) is))

-- what stood at a key is written there again
not_below : (key first : ℕ) (es : List (ℕ × SkippedTo)) → key < first → AllByRecursion (λ other. nat_cmp first other ≡ Less) (keys_of es) → lookup (is_at (nat_cmp key)) es ≡ None
not_below key first [] less all = refl
not_below key first (e ∷ es) less all =
    let apart : nat_cmp key e.0 ≡ Less = grind (arith, nat_tests, less, all.0) in
    ap (λ o. cond (is_eq o) (Some e.1) (lookup (is_at (nat_cmp key)) es)) apart ∙ not_below key first es less all.1

pub written_back : (key : ℕ) (entry before : SkippedTo) (es : List (ℕ × SkippedTo)) → Ascends es → Some before ≡ lookup (is_at (nat_cmp key)) es → set_value (is_at (nat_cmp key)) (insert_entry nat_cmp es key entry) before ≡ es
unfolding IsStrictlySortedBy
written_back key entry before [] ascends stood = absurd (cc)
written_back key entry before (e ∷ es) ascends stood = go (nat_cmp key e.0) refl stood (written_back key entry before es ascends.1)
  where
    go : (o : Ordering) → nat_cmp key e.0 ≡ o → Some before ≡ cond (is_at (nat_cmp key) e.0) (Some e.1) (lookup (is_at (nat_cmp key)) es) → (Some before ≡ lookup (is_at (nat_cmp key)) es → set_value (is_at (nat_cmp key)) (insert_entry nat_cmp es key entry) before ≡ es) → set_value (is_at (nat_cmp key)) (match_ordering o ((key, entry) ∷ e ∷ es) ((e.0, entry) ∷ es) (e ∷ insert_entry nat_cmp es key entry)) before ≡ e ∷ es
    go Less is stood rest =
        let less : key < e.0 = grind (arith, nat_tests, is) in
        absurd (let found : Some before ≡ None = stood ∙ ap (λ o. cond (is_eq o) (Some e.1) (lookup (is_at (nat_cmp key)) es)) is ∙ not_below key e.0 es less ascends.0 in cc)
    go Equal is stood rest =
        let same : Some before ≡ Some e.1 = stood ∙ ap (λ o. cond (is_eq o) (Some e.1) (lookup (is_at (nat_cmp key)) es)) is in
        let value : before ≡ e.1 = cc in
        ap (λ o. cond (is_eq o) ((e.0, before) ∷ es) ((e.0, entry) ∷ set_value (is_at (nat_cmp key)) es before)) is
        ∙ ap (λ (it : SkippedTo). (e.0, it) ∷ es) value
    go Greater is stood rest =
        ap (λ o. cond (is_eq o) ((e.0, before) ∷ insert_entry nat_cmp es key entry) (e ∷ set_value (is_at (nat_cmp key)) (insert_entry nat_cmp es key entry) before)) is
        ∙ ap (λ others. e ∷ others) (rest (stood ∙ ap (λ o. cond (is_eq o) (Some e.1) (lookup (is_at (nat_cmp key)) es)) is))

-- ---- entries one after the other

pub WereReplaced-more : (done : List Replaced) (one : Replaced) (old between new : List (ℕ × SkippedTo)) → WereReplaced done old between → WasReplaced one between new → WereReplaced (done ++ one ∷ []) old new
WereReplaced-more [] one old between new were last = (new, subst (λ (start : List (ℕ × SkippedTo)). WasReplaced one start new) were last, refl)
WereReplaced-more (first ∷ done) one old between new were last = (were.0, were.1, WereReplaced-more done one were.0 between new were.2 last)

pub WereReplaced-last : (front : List Replaced) (one : Replaced) (old new : List (ℕ × SkippedTo)) → WereReplaced (front ++ one ∷ []) old new → (between : List (ℕ × SkippedTo)) × WereReplaced front old between × WasReplaced one between new
WereReplaced-last [] one old new were = (old, refl, subst (λ (end : List (ℕ × SkippedTo)). WasReplaced one old end) (sym were.2) were.1)
WereReplaced-last (first ∷ front) one old new were =
    let rest = WereReplaced-last front one were.0 new were.2 in
    (rest.0, (were.0, were.1, rest.1), rest.2)
