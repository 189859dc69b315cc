-- A packet by its number.
use Rattle.std.proofs.Common.{◌≡◌, ℕ, zero, suc, ◌<◌, ◌≤◌, true, false, ltb, Option, Some, None, is_some, IfSome, List, [], ◌∷◌, length, get_or, refl, sym, ap, ◌∙◌, arith, Vec, Bor}
use Rattle.std.proofs.lemmas.Bool.Decides.{nat_tests}
use Rattle.std.proofs.lemmas.Option.{slice_get-map, slice_get_read}
use Rattle.std.specs.List.{slice_get}
use Rattle.std.specs.Option.{option_map}
use Rattle.std.specs.declared.alloc.Global.{Global}
use Rattle.dcsctp_spec_runs.specs.Sockets.{packet_at_number}
use Rattle.dcsctp_channel_world.specs.Shown.{bytes_of}

within : (k n : ℕ) → ltb k n ≡ true → k < n
within k n tests = grind (arith, nat_tests)

beyond : (k n : ℕ) → ltb k n ≡ false → n ≤ k
beyond k n tests = grind (arith, nat_tests)

get_past : {A : Type 0} (xs : List A) (k : ℕ) → length xs ≤ k → slice_get xs k ≡ None
get_past [] k past = refl
get_past (x ∷ xs) zero past = absurd (omega arith)
get_past (x ∷ xs) (suc k) past = get_past xs k (omega arith)

pub numbered_found : (packets : List (Vec ℕ Global)) (number k : ℕ) (result : Option (Bor (Vec ℕ Global))) → number ≡ suc k → is_some result ≡ ltb k (length packets)
    → IfSome result (λ x. x.now ≡ get_or packets k x.now) → packet_at_number number (bytes_of packets) ≡ option_map (λ (x : Bor (Vec ℕ Global)). x.now.items) result
numbered_found packets number k (Some x) is tests here =
    ap (λ (n : ℕ). packet_at_number n (bytes_of packets)) is ∙ slice_get-map (λ (p : Vec ℕ Global). p.items) packets k
    ∙ ap (option_map (λ (p : Vec ℕ Global). p.items)) (slice_get_read packets (length packets) k x.now refl (within k (length packets) (sym tests)) here)
numbered_found packets number k None is tests here =
    ap (λ (n : ℕ). packet_at_number n (bytes_of packets)) is ∙ slice_get-map (λ (p : Vec ℕ Global). p.items) packets k
    ∙ ap (option_map (λ (p : Vec ℕ Global). p.items)) (get_past packets k (beyond k (length packets) (sym tests)))
