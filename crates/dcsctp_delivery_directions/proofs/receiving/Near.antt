-- MIDs are read right, next to a number that is near them.
use Rattle.std.proofs.Common.{◌≡◌, ℕ, ◌<◌, ◌≤◌, ◌+◌, ◌-◌, ◌%◌, ◌^◌, sym, ◌∙◌, ap, arith, subst, inl, inr}
use Rattle.std.specs.Prelude.{min}
use Rattle.std.proofs.lemmas.Bool.Decides.{nat_tests, leb_tells}
use Rattle.dcsctp_spec_lemmas.specs.spec.queues.Numbers.{number_near}
use Rattle.dcsctp_spec_lemmas.specs.spec.queues.IncomingStreams.{next_past}
use Rattle.dcsctp_delivery_directions.specs.receiving.Ready.{IsNear, fresh, near}

-- ---- one number

near_exact : (base worked offset : ℕ) → worked ≤ 2 ^ 31 → offset < 2 ^ 31 → base + 2 ^ 33 < 2 ^ 64 → number_near (base + worked) ((base + offset) % 2 ^ 32) ≡ base + offset
near_exact base worked offset few less small = grind (arith, nat_tests)

fresh_up : (mid : ℕ) → 2 ^ 31 ≤ number_near (2 ^ 32) (mid % 2 ^ 32)
fresh_up mid = grind (arith, nat_tests)

fresh_below : (mid : ℕ) → number_near (2 ^ 32) (mid % 2 ^ 32) < 2 ^ 33
fresh_below mid = grind (arith, nat_tests)

fresh_same : (mid : ℕ) → number_near (2 ^ 32) (mid % 2 ^ 32) % 2 ^ 32 ≡ mid % 2 ^ 32
fresh_same mid = grind (arith, nat_tests)

read_at : (start base number mid : ℕ) → start ≤ mid → mid < start + 2 ^ 31 → base % 2 ^ 32 ≡ start % 2 ^ 32 → base + 2 ^ 33 < 2 ^ 64 → base ≤ number → number ≤ base + 2 ^ 31
    → number_near number (mid % 2 ^ 32) ≡ base + (mid - start)
read_at start base number mid from below same room low high =
    let here : base + (number - base) ≡ number = omega arith in
    let there : (base + (mid - start)) % 2 ^ 32 ≡ mid % 2 ^ 32 = omega arith in
    let exact = near_exact base (number - base) (mid - start) (omega arith) (omega arith) room in
    ap (λ (k : ℕ). number_near k (mid % 2 ^ 32)) (sym here) ∙ ap (number_near (base + (number - base))) (sym there) ∙ exact

-- the base, where no message was received yet
fresh_base : (start mid number : ℕ) → start ≤ mid → mid < start + 2 ^ 31 → 2 ^ 31 ≤ number → number % 2 ^ 32 ≡ mid % 2 ^ 32 → (number - (mid - start)) % 2 ^ 32 ≡ start % 2 ^ 32
fresh_base start mid number from below up same = omega (arith, same, up, from, below)

module _ (start mid number : ℕ) (from : start ≤ mid) (below : mid < start + 2 ^ 31) where
  -- the number that is read agrees with the MID
  pub near_read : IsNear start number → number_near number (mid % 2 ^ 32) % 2 ^ 32 ≡ mid % 2 ^ 32
  near_read (fresh is) = ap (λ (k : ℕ). number_near k (mid % 2 ^ 32) % 2 ^ 32) is ∙ fresh_same mid
  near_read (near base same room low high) = (let read = read_at start base number mid from below same room low high in omega (arith, read, same))

  -- and is near
  pub near_moves : IsNear start number → IsNear start (number_near number (mid % 2 ^ 32))
  near_moves (fresh is) =
      let now : ℕ = number_near (2 ^ 32) (mid % 2 ^ 32) in
      let up = fresh_up mid in
      let high = fresh_below mid in
      subst (λ (k : ℕ). IsNear start (number_near k (mid % 2 ^ 32))) (sym is)
      (near (now - (mid - start)) (fresh_base start mid now from below up (fresh_same mid)) (omega (arith, high)) (omega arith) (omega (arith, up)))
  near_moves (near base same room low high) =
      let read = read_at start base number mid from below same room low high in
      near base same room (omega (arith, read)) (omega (arith, read))

  -- so is the number after it
  pub near_next : IsNear start number → number % 2 ^ 32 ≡ mid % 2 ^ 32 → IsNear start (min (number + 1) (2 ^ 64 - 1))
  near_next (fresh is) agrees =
      let next : min (number + 1) (2 ^ 64 - 1) ≡ 2 ^ 32 + 1 = omega (arith, is) in
      subst (λ (k : ℕ). IsNear start k) (sym next) (near (2 ^ 32 - (mid - start)) (omega (arith, is, agrees)) (omega arith) (omega arith) (omega arith))
  near_next (near base same room low high) agrees =
      let here : number ≡ base + (mid - start) = omega arith in
      let next : min (number + 1) (2 ^ 64 - 1) ≡ number + 1 = omega arith in
      subst (λ (k : ℕ). IsNear start k) (sym next) (near base same room (omega arith) (omega (arith, here)))

  -- and the next number once that message was skipped
  pub near_past : IsNear start number → IsNear start (next_past (number_near number (mid % 2 ^ 32)) number)
  near_past (fresh is) =
      let now : ℕ = number_near (2 ^ 32) (mid % 2 ^ 32) in
      let up = fresh_up mid in
      let high = fresh_below mid in
      subst (λ (k : ℕ). IsNear start (next_past (number_near k (mid % 2 ^ 32)) k)) (sym is)
      (elim (leb_tells (now + 1) (2 ^ 32)) [
        | inl e ↦ (let less : now + 1 ≤ 2 ^ 32 = e.1 in fresh (omega (arith, less)))
        | inr e ↦
            (let more : 2 ^ 32 < now + 1 = e.1 in
            let past : next_past now (2 ^ 32) ≡ now + 1 = omega (arith, more, high) in
            subst (λ (k : ℕ). IsNear start k) (sym past)
            (near (now - (mid - start)) (fresh_base start mid now from below up (fresh_same mid)) (omega (arith, high)) (omega arith) (omega (arith, up))))
      ])
  near_past (near base same room low high) =
      let read = read_at start base number mid from below same room low high in
      near base same room (omega (arith, read)) (omega (arith, read))
