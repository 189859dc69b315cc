-- What is kept of FORWARD-TSNs: an entry stays, or a newer one for the same messages takes its place.
use Rattle.std.proofs.Common.{◌≡◌, ℕ, List, [], ◌∷◌, refl, sym, ◌∙◌, ap, arith, subst, inl, inr, Ordering, Less, Equal, Greater}
use Rattle.std.specs.Prelude.{◌⊎◌}
use Rattle.std.proofs.lemmas.Bool.Decides.{nat_tests}
use Rattle.std.specs.BTreeMap.{insert_entry}
use Rattle.std.specs.Ordering.{match_ordering, nat_cmp}
use Rattle.dcsctp_spec_lemmas.specs.types.declared.arrivals.SkippedTo.{SkippedTo}
use Rattle.dcsctp_spec_lemmas.specs.spec.queues.Reassembly.{skip_key, with_entries}
use Rattle.dcsctp_delivery_directions.specs.sending.Places.{HasEntry}

equal_keys : (a b : ℕ) → nat_cmp a b ≡ Equal → a ≡ b
equal_keys a b is = grind (arith, nat_tests, is)

-- The entry has this key, and is kept under it.
pub record IsKeptUnder (entries : List SkippedTo) (kept : List (ℕ × SkippedTo)) (key : ℕ) : Type 0 where
  pub entry : SkippedTo
  pub among : HasEntry entry entries
  pub key_is : skip_key entry ≡ key
  pub has : HasEntry (key, entry) kept

inserted_has : (key : ℕ) (entry : SkippedTo) (kept : List (ℕ × SkippedTo)) → HasEntry (key, entry) (insert_entry nat_cmp kept key entry)
inserted_has key entry [] = inl refl
inserted_has key entry (first ∷ kept) = go (nat_cmp key first.0) refl (inserted_has key entry kept)
  where
    go : (o : Ordering) → nat_cmp key first.0 ≡ o → HasEntry (key, entry) (insert_entry nat_cmp kept key entry)
        → HasEntry (key, entry) (match_ordering o ((key, entry) ∷ first ∷ kept) ((first.0, entry) ∷ kept) (first ∷ insert_entry nat_cmp kept key entry))
    go Less is rest = inl refl
    go Equal is rest = inl (ap (λ (k : ℕ). (k, entry)) (equal_keys key first.0 is))
    go Greater is rest = inr rest

stays_or : (key : ℕ) (entry : SkippedTo) (pair : ℕ × SkippedTo) (kept : List (ℕ × SkippedTo)) → HasEntry pair kept → HasEntry pair (insert_entry nat_cmp kept key entry) ⊎ ((key ≡ pair.0) × HasEntry (pair.0, entry) (insert_entry nat_cmp kept key entry))
stays_or key entry pair [] has = absurd has
stays_or key entry pair (first ∷ kept) has = go (nat_cmp key first.0) refl (λ later. stays_or key entry pair kept later) has
  where
    Here : List (ℕ × SkippedTo) → Type 0
    Here l = HasEntry pair l ⊎ ((key ≡ pair.0) × HasEntry (pair.0, entry) l)

    go : (o : Ordering) → nat_cmp key first.0 ≡ o → (HasEntry pair kept → Here (insert_entry nat_cmp kept key entry)) → HasEntry pair (first ∷ kept)
        → Here (match_ordering o ((key, entry) ∷ first ∷ kept) ((first.0, entry) ∷ kept) (first ∷ insert_entry nat_cmp kept key entry))
    go Less is others has' = inl (inr has')
    go Equal is others has' = elim has' [
      | inl e ↦ (let same : pair.0 ≡ first.0 = ap (λ (p : ℕ × SkippedTo). p.0) e in inr (equal_keys key first.0 is ∙ sym same, inl (ap (λ (k : ℕ). (k, entry)) same)))
      | inr t ↦ inl (inr t)
    ]
    go Greater is others has' = elim has' [
      | inl e ↦ inl (inl e)
      | inr t ↦ elim (others t) [ inl l ↦ inl (inr l) | inr r ↦ inr (r.0, inr r.1) ]
    ]

-- One that is kept stays, or a newer one is kept under its key.
pub kept_still : (entries : List SkippedTo) (kept : List (ℕ × SkippedTo)) (pair : ℕ × SkippedTo) → HasEntry pair kept → HasEntry pair (with_entries entries kept) ⊎ IsKeptUnder entries (with_entries entries kept) pair.0
kept_still [] kept pair has = inl has
kept_still (entry ∷ entries) kept pair has =
    elim (stays_or (skip_key entry) entry pair kept has) [
      | inl still ↦ elim (kept_still entries (insert_entry nat_cmp kept (skip_key entry) entry) pair still) [
        | inl l ↦ inl l
        | inr u ↦ inr (record { entry = u.entry; among = inr u.among; key_is = u.key_is; has = u.has })
      ]
      | inr new ↦ elim (kept_still entries (insert_entry nat_cmp kept (skip_key entry) entry) (pair.0, entry) new.1) [
        | inl l ↦ inr (record { entry = entry; among = inl refl; key_is = new.0; has = l })
        | inr u ↦ inr (record { entry = u.entry; among = inr u.among; key_is = u.key_is; has = u.has })
      ]
    ]

-- One of those that came is kept under each of their keys.
pub kept_new : (entries : List SkippedTo) (kept : List (ℕ × SkippedTo)) (entry : SkippedTo) → HasEntry entry entries → IsKeptUnder entries (with_entries entries kept) (skip_key entry)
kept_new [] kept entry has = absurd has
kept_new (first ∷ entries) kept entry has =
    elim has [
      | inl e ↦ elim (kept_still entries (insert_entry nat_cmp kept (skip_key first) first) (skip_key entry, entry) (again e)) [
        | inl l ↦ record { entry = entry; among = inl e; key_is = refl; has = l }
        | inr u ↦ record { entry = u.entry; among = inr u.among; key_is = u.key_is; has = u.has }
      ]
      | inr t ↦ (let u = kept_new entries (insert_entry nat_cmp kept (skip_key first) first) entry t in record { entry = u.entry; among = inr u.among; key_is = u.key_is; has = u.has })
    ]
  where
    again : entry ≡ first → HasEntry (skip_key entry, entry) (insert_entry nat_cmp kept (skip_key first) first)
    again e = go e (inserted_has (skip_key first) first kept)
      where
        go : entry ≡ first → HasEntry (skip_key first, first) (insert_entry nat_cmp kept (skip_key first) first) → HasEntry (skip_key entry, entry) (insert_entry nat_cmp kept (skip_key first) first)
        go same = subst (λ (x : SkippedTo). HasEntry (skip_key x, x) (insert_entry nat_cmp kept (skip_key first) first)) (sym same)
