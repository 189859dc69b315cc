-- Neighbouring runs, and bytes that are joined.
use Rattle.std.proofs.Common.{◌≡◌, ◌≢◌, ℕ, Bool, true, false, ◌<◌, ◌+◌, ◌-◌, ◌≤◌, List, ◌++◌, take, drop, refl, sym, ◌∙◌, ap, arith, inl, inr}
use Rattle.std.specs.Prelude.{◌&&◌, not, Option, None, Some, is_some, slice_get, if◌then◌else◌}
use Rattle.std.proofs.lemmas.Bool.Decides.{eqb_tells}
use Rattle.std.proofs.lemmas.List.{drop-drop}
use Rattle.std.proofs.Math.Seq.{take-add}
use Rattle.std.proofs.lemmas.Grind.{flat_map-append}
use Rattle.dcsctp_spec_lemmas.specs.spec.queues.Runs.{RunModel, PartModel, joined_bytes, entry_before, follows, precedes, following, preceding, run_before, run_behind, run_with_part, merged_run, chosen}
use Rattle.dcsctp_delivery_directions.specs.sending.Log.{Piece, is_beginning}

pub both : (x y : Bool) → (x && y) ≡ true → (x ≡ true) × (y ≡ true)
both true true e = (refl, refl)
both true false e = absurd (cc)
both false y e = absurd (cc)

pub denied : (x : Bool) → not x ≡ true → x ≡ false
denied true e = absurd (cc)
denied false e = refl

pub started : (f : Piece) → is_beginning f ≡ false → 0 < f.start
started f e = elim (eqb_tells f.start 0) [ inl t ↦ (let clash : true ≡ false = sym t.0 ∙ e in absurd (cc)) | inr t ↦ (let ne : f.start ≢ 0 = t.1 in omega arith) ]

pub joined_two : (front back : List (List ℕ)) → joined_bytes (front ++ back) ≡ joined_bytes front ++ joined_bytes back
joined_two front back = flat_map-append (λ (payload : List ℕ). payload) front back

stretches : (i j start : ℕ) (l : List ℕ) → take i (drop start l) ++ take j (drop (start + i) l) ≡ take (i + j) (drop start l)
stretches i j start l = rw (← drop-drop i start l) (sym (take-add i j (drop start l)))

pub stretched : (p q : List ℕ) (a b c d : ℕ) (x y : List ℕ) → x ≡ take (b - a) (drop a p) → y ≡ take (d - c) (drop c q) → c ≡ b → q ≡ p → a ≤ b → c ≤ d
    → x ++ y ≡ take (d - a) (drop a p)
stretched p q a b c d x y is is' seam same le le' =
    let at : c ≡ a + (b - a) = omega arith in
    let all : (b - a) + (d - c) ≡ d - a = omega arith in
    let back : y ≡ take (d - c) (drop (a + (b - a)) p) = is' ∙ ap (λ (k : ℕ). take (d - c) (drop k q)) at ∙ ap (λ (l : List ℕ). take (d - c) (drop (a + (b - a)) l)) same in
    ap (λ (l : List ℕ). l ++ y) is ∙ ap (λ (l : List ℕ). take (b - a) (drop a p) ++ l) back ∙ stretches (b - a) (d - c) a p ∙ ap (λ (k : ℕ). take k (drop a p)) all

chosen_following : (found : Option RunModel) (part : PartModel) → chosen (is_some (following found part)) found ≡ following found part
chosen_following None part = refl
chosen_following (Some run) part = go (follows run part)
  where
    go : (b : Bool) → (let o : Option RunModel = if b then Some run else None in chosen (is_some o) (Some run) ≡ o)
    go true = refl
    go false = refl

chosen_preceding : (part : PartModel) (found : Option RunModel) → chosen (is_some (preceding part found)) found ≡ preceding part found
chosen_preceding part None = refl
chosen_preceding part (Some run) = go (precedes part run)
  where
    go : (b : Bool) → (let o : Option RunModel = if b then Some run else None in chosen (is_some o) (Some run) ≡ o)
    go true = refl
    go false = refl

pub same_merged : (at : ℕ) (runs : List RunModel) (part : PartModel)
    → run_with_part (chosen (is_some (run_before at runs part)) (entry_before at runs)) part (chosen (is_some (run_behind part at runs)) (slice_get runs at)) ≡ merged_run at runs part
same_merged at runs part =
    ap (λ (o : Option RunModel). run_with_part o part (chosen (is_some (run_behind part at runs)) (slice_get runs at))) (chosen_following (entry_before at runs) part)
    ∙ ap (λ (o : Option RunModel). run_with_part (run_before at runs part) part o) (chosen_preceding part (slice_get runs at))
