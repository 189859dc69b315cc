-- Lemmas on chunks that go out for the first time.
use Rattle.std.proofs.Common.{◌≡◌, ◌∙◌, ℕ, zero, suc, ◌+◌, ◌%◌, ◌^◌, ◌≤◌, Result, Ok, Err, OnOk, List, [], ◌∷◌, ◌++◌, length, append-nil, append_assoc, length-append, refl, ap, sym, arith}
use Rattle.dcsctp_api.specs.spec.queues.Items.{Item, marked_items}
use Rattle.dcsctp_send_retransmission.specs.Outstanding.{SendsNext}
use Rattle.dcsctp_api.specs.spec.queues.Outstanding.{OutstandingState}
use Rattle.dcsctp_send_retransmission.specs.Fresh.{tsns_from, AllFresh, SendsFresh, EndsFresh}

-- the outstanding items with these after them
abbrev pub with_fresh : OutstandingState → List Item → OutstandingState
with_fresh outstanding fresh = record outstanding { items = outstanding.items ++ fresh }

tsns_append : (first place m n : ℕ) → tsns_from first place m ++ tsns_from first (place + m) n ≡ tsns_from first place (m + n)
tsns_append first place zero n =
    let shift : place + 0 ≡ place = omega arith in
    let same : n ≡ 0 + n = omega arith in
    ap (λ (p : ℕ). tsns_from first p n) shift ∙ ap (tsns_from first place) same
tsns_append first place (suc m) n =
    let shift : place + suc m ≡ suc place + m = omega arith in
    let split : suc m + n ≡ suc (m + n) = omega arith in
    ap (λ (p : ℕ). tsns_from first place (suc m) ++ tsns_from first p n) shift
    ∙ (ap (λ (ts : List ℕ). ((first + place) % 2 ^ 32) ∷ ts) (tsns_append first (suc place) m n) ∙ ap (tsns_from first place) (sym split))

all_append : (now : ℕ) (xs ys : List Item) → AllFresh now xs → AllFresh now ys → AllFresh now (xs ++ ys)
all_append now [] ys first later = later
all_append now (x ∷ xs) ys first later = (first.0, all_append now xs ys first.1 later)

-- nothing new
pub fresh_none : (now : ℕ) (old new : OutstandingState) (before after : List ℕ) → new ≡ old → after ≡ before → SendsFresh now old new before after
fresh_none now old new before after same tsns =
    record {
      fresh = [];
      each = tt;
      grows = same ∙ ap (λ (xs : List Item). record old { items = xs }) (sym (append-nil old.items));
      tsns = tsns ∙ sym (append-nil before);
    }

-- one new item
pub fresh_one : (now max : ℕ) (old new : OutstandingState) (tsn : ℕ) (before after : List ℕ) → SendsNext now max old new tsn → after ≡ before ++ tsn ∷ [] → SendsFresh now old new before after
fresh_one now max old new tsn before after sends tsns =
    record {
      fresh = sends.item ∷ [];
      each = (record { progress = sends.is_first.progress; sent_at = sends.is_first.sent_at }, tt);
      grows = sends.grows;
      tsns = tsns ∙ ap (λ (t : ℕ). before ++ t ∷ []) sends.tsn_is;
    }

-- more new items
pub fresh_trans : (now : ℕ) (a b c : OutstandingState) (p q r : List ℕ) → SendsFresh now a b p q → SendsFresh now b c q r → SendsFresh now a c p r
fresh_trans now a b c p q r first later =
    let items : b.items ≡ a.items ++ first.fresh = ap (λ (m : OutstandingState). m.items) first.grows in
    let same : b.first_tsn ≡ a.first_tsn = ap (λ (m : OutstandingState). m.first_tsn) first.grows in
    let count : length b.items ≡ length a.items + length first.fresh = ap (λ (xs : List Item). length xs) items ∙ length-append a.items first.fresh in
    let more : with_fresh b later.fresh ≡ with_fresh (with_fresh a first.fresh) later.fresh = ap (λ (m : OutstandingState). with_fresh m later.fresh) first.grows in
    let behind : tsns_from b.first_tsn (length b.items) (length later.fresh) ≡ tsns_from a.first_tsn (length a.items + length first.fresh) (length later.fresh) = rw (same, count) refl in
    let joined : tsns_from a.first_tsn (length a.items) (length first.fresh) ++ tsns_from a.first_tsn (length a.items + length first.fresh) (length later.fresh) ≡ tsns_from a.first_tsn (length a.items) (length (first.fresh ++ later.fresh)) =
    tsns_append a.first_tsn (length a.items) (length first.fresh) (length later.fresh) ∙ ap (tsns_from a.first_tsn (length a.items)) (sym (length-append first.fresh later.fresh)) in
    record {
      fresh = first.fresh ++ later.fresh;
      each = all_append now first.fresh later.fresh first.each later.each;
      grows = later.grows ∙ (more ∙ ap (λ (xs : List Item). record a { items = xs }) (append_assoc a.items first.fresh later.fresh));
      tsns = later.tsns ∙ (ap (λ (ts : List ℕ). q ++ ts) behind ∙ (ap (λ (ts : List ℕ). ts ++ tsns_from a.first_tsn (length a.items + length first.fresh) (length later.fresh)) first.tsns
          ∙ (append_assoc p (tsns_from a.first_tsn (length a.items) (length first.fresh)) (tsns_from a.first_tsn (length a.items + length first.fresh) (length later.fresh)) ∙ ap (λ (ts : List ℕ). p ++ ts) joined)));
    }

-- the packet ends with the new items
pub ends_fresh : (now : ℕ) (old kept new : OutstandingState) (again tsns : List ℕ) → length again + marked_items kept.items ≤ marked_items old.items → marked_items new.items ≡ marked_items kept.items → SendsFresh now kept new again tsns → EndsFresh now old new tsns
ends_fresh now old kept new again tsns few same sends =
    record { kept = kept; again = again; few = omega (arith, few, same); sends = sends }

pub ends_fresh_ok : {E : Type 0} (r : Result Unit E) (now : ℕ) (old kept new : OutstandingState) (again tsns : List ℕ) → length again + marked_items kept.items ≤ marked_items old.items → marked_items new.items ≡ marked_items kept.items → OnOk r (SendsFresh now kept new again tsns) → OnOk r (EndsFresh now old new tsns)
ends_fresh_ok (Ok done) now old kept new again tsns few same sends = ends_fresh now old kept new again tsns few same sends
ends_fresh_ok (Err error) now old kept new again tsns few same sends = tt
