-- The entries of a FORWARD-TSN for a row of items: one for each stream on which messages are listed, with the last number.
use Rattle.std.proofs.Common.{◌≡◌, ◌∙◌, ℕ, ◌+◌, ◌&&◌, ◌||◌, not, Bool, true, false, if◌then◌else◌, Option, None, Some, List, [], ◌∷◌, ◌++◌, length, refl, sym, ap, subst, arith}
use Rattle.std.specs.Prelude.{is_some}
use Rattle.std.specs.Option.{option_map, option_or}
use Rattle.std.proofs.lemmas.Bool.Decides.{nat_tests}
use Rattle.dcsctp_spec.specs.queues.Items.{Item}
use Rattle.dcsctp_spec.specs.queues.Skipping.{is_listed, is_same_stream, last_on, last_listed, entry_for, NoneTwice, skipped_number, ListsEntries}
use Rattle.dcsctp_spec_lemmas.proofs.TurnOutcomes.{by_test}

-- ---- streams that are the same

same_key : (stream : ℕ) (unordered : Bool) (other : ℕ) (is_unordered : Bool) → is_same_stream stream unordered other is_unordered ≡ true → (stream ≡ other) × (unordered ≡ is_unordered)
same_key stream true other true same = (grind (arith, nat_tests), refl)
same_key stream true other false same = grind (arith, nat_tests)
same_key stream false other true same = grind (arith, nat_tests)
same_key stream false other false same = (grind (arith, nat_tests), refl)

same_itself : (stream : ℕ) (unordered : Bool) → is_same_stream stream unordered stream unordered ≡ true
same_itself stream true = grind (arith, nat_tests)
same_itself stream false = grind (arith, nat_tests)

same_either : (stream : ℕ) (unordered : Bool) (other : ℕ) (is_unordered : Bool) → is_same_stream stream unordered other is_unordered ≡ is_same_stream other is_unordered stream unordered
same_either stream true other true = grind (arith, nat_tests)
same_either stream true other false = grind (arith, nat_tests)
same_either stream false other true = grind (arith, nat_tests)
same_either stream false other false = grind (arith, nat_tests)

-- is the item on this stream?
abbrev is_on : ℕ → Bool → Item → Bool
is_on stream unordered item = is_same_stream stream unordered item.fragment.stream item.fragment.is_unordered

-- is one of them?
abbrev has_on : ℕ → Bool → List Item → Bool
has_on stream unordered row = is_some (last_on stream unordered row)

-- is one of them on the item's stream?
abbrev has_like : Item → List Item → Bool
has_like item row = has_on item.fragment.stream item.fragment.is_unordered row

-- ---- entries

abbrev Entries : Type 0
Entries = List ((ℕ × Bool) × ℕ)

-- Is the item's message listed, and no other of these on its stream?
abbrev pub is_new : Bool → Item → List Item → Bool
is_new interleaving item row = is_listed interleaving item && not (has_like item row)

abbrev pub entry_if : Bool → Bool → Item → Entries → Entries
entry_if true interleaving item entries = ((item.fragment.stream, item.fragment.is_unordered), skipped_number interleaving item) ∷ entries
entry_if false interleaving item entries = entries

abbrev pub entries_of : Bool → List Item → Entries
entries_of interleaving [] = []
entries_of interleaving (item ∷ row) = entry_if (is_new interleaving item row) interleaving item (entries_of interleaving row)

-- ---- their numbers

or_none : {X : Type 0} (o : Option X) → option_or o None ≡ o
or_none None = refl
or_none (Some x) = refl

either_same : {X : Type 0} (b : Bool) (o : Option X) → (if b then o else o) ≡ o
either_same true o = refl
either_same false o = refl

-- The entry of this stream is as it should be.
abbrev IsNumbered : Bool → List Item → ℕ → Bool → Type 0
IsNumbered interleaving row stream unordered =
    entry_for stream unordered (entries_of interleaving row) ≡ option_map (skipped_number interleaving) (last_listed interleaving stream unordered row)

-- an item on another stream
numbered_behind : (interleaving : Bool) (x : Item) (xs : List Item) (stream : ℕ) (unordered here : Bool) → is_on stream unordered x ≡ false → IsNumbered interleaving xs stream unordered
    → entry_for stream unordered (entry_if here interleaving x (entries_of interleaving xs)) ≡ option_map (skipped_number interleaving) (last_listed interleaving stream unordered (x ∷ xs))
numbered_behind interleaving x xs stream unordered true apart before =
    rw apart (before ∙ ap (λ (o : Option Item). option_map (skipped_number interleaving) (if interleaving || not unordered then o else None)) (sym (or_none (last_on stream unordered xs))))
numbered_behind interleaving x xs stream unordered false apart before =
    rw apart (before ∙ ap (λ (o : Option Item). option_map (skipped_number interleaving) (if interleaving || not unordered then o else None)) (sym (or_none (last_on stream unordered xs))))

-- an item on this stream
numbered_here : (interleaving : Bool) (x : Item) (xs : List Item) (listed : Bool) (last : Option Item) → is_listed interleaving x ≡ listed
    → last_on x.fragment.stream x.fragment.is_unordered xs ≡ last → IsNumbered interleaving xs x.fragment.stream x.fragment.is_unordered
    → IsNumbered interleaving (x ∷ xs) x.fragment.stream x.fragment.is_unordered
numbered_here interleaving x xs false last listed on before = rw listed (rw listed at before)
numbered_here interleaving x xs true None listed on before = let same = same_itself x.fragment.stream x.fragment.is_unordered in rw (listed, on, same) refl
numbered_here interleaving x xs true (Some y) listed on before = rw (listed, on) (rw (listed, on) at before)

numbered : (interleaving : Bool) (row : List Item) (stream : ℕ) (unordered : Bool) → IsNumbered interleaving row stream unordered
numbered interleaving [] stream unordered = sym (ap (λ (o : Option Item). option_map (skipped_number interleaving) o) (either_same (interleaving || not unordered) None))
numbered interleaving (x ∷ xs) stream unordered =
    by_test (is_on stream unordered x)
    (λ same.
    let (stream_is, unordered_is) = same_key stream unordered x.fragment.stream x.fragment.is_unordered same in
    subst (λ (n : ℕ). IsNumbered interleaving (x ∷ xs) n unordered) (sym stream_is)
    (subst (λ (b : Bool). IsNumbered interleaving (x ∷ xs) x.fragment.stream b) (sym unordered_is)
    (numbered_here interleaving x xs (is_listed interleaving x) (last_on x.fragment.stream x.fragment.is_unordered xs) refl refl
    (numbered interleaving xs x.fragment.stream x.fragment.is_unordered))))
    (λ apart. numbered_behind interleaving x xs stream unordered (is_new interleaving x xs) apart (numbered interleaving xs stream unordered))

-- ---- no stream has two

both_hold : (a b : Bool) → (a && not b) ≡ true → (a ≡ true) × (b ≡ false)
both_hold true true e = cc
both_hold true false e = (refl, refl)
both_hold false b e = cc

none_where : {X : Type 0} (o : Option X) → is_some o ≡ false → o ≡ None
none_where None e = refl
none_where (Some x) e = cc

-- What is new is listed, and the first on its stream.
pub new_is : (interleaving : Bool) (item : Item) (row : List Item) → is_new interleaving item row ≡ true
    → (is_listed interleaving item ≡ true) × (last_on item.fragment.stream item.fragment.is_unordered row ≡ None)
new_is interleaving item row new =
    let (listed, alone) = both_hold (is_listed interleaving item) (has_like item row) new in
    (listed, none_where (last_on item.fragment.stream item.fragment.is_unordered row) alone)

none_twice_with : (interleaving : Bool) (x : Item) (xs : List Item) (new : Bool) → is_new interleaving x xs ≡ new → NoneTwice (entries_of interleaving xs) → NoneTwice (entry_if new interleaving x (entries_of interleaving xs))
none_twice_with interleaving x xs true is before =
    let (listed, alone) = new_is interleaving x xs is in
    (numbered interleaving xs x.fragment.stream x.fragment.is_unordered ∙ rw (listed, alone) refl, before)
none_twice_with interleaving x xs false is before = before

none_twice : (interleaving : Bool) (row : List Item) → NoneTwice (entries_of interleaving row)
none_twice interleaving [] = tt
none_twice interleaving (x ∷ xs) = none_twice_with interleaving x xs (is_new interleaving x xs) refl (none_twice interleaving xs)

pub lists_entries : (interleaving : Bool) (row : List Item) → ListsEntries interleaving row (entries_of interleaving row)
lists_entries interleaving row = record { numbers = numbered interleaving row; none_twice = none_twice interleaving row }

-- ---- how many

-- 1 if the test holds
abbrev pub one_if : Bool → ℕ
one_if true = 1
one_if false = 0

has_first : (stream : ℕ) (unordered : Bool) (x : Item) (last : Option Item) (here : Bool) → is_some (option_or last (if here then Some x else None)) ≡ (is_some last || here)
has_first stream unordered x None true = refl
has_first stream unordered x None false = refl
has_first stream unordered x (Some y) here = refl

has_more : (stream : ℕ) (unordered : Bool) (x : Item) (xs : List Item) → has_on stream unordered (x ∷ xs) ≡ (has_on stream unordered xs || is_on stream unordered x)
has_more stream unordered x xs = has_first stream unordered x (last_on stream unordered xs) (is_on stream unordered x)

swapped : (a b c : Bool) → ((a || b) || c) ≡ ((a || c) || b)
swapped true b c = refl
swapped false true true = refl
swapped false true false = refl
swapped false false true = refl
swapped false false false = refl

has_pushed : (stream : ℕ) (unordered : Bool) (row : List Item) (item : Item) → has_on stream unordered (row ++ item ∷ []) ≡ (has_on stream unordered row || is_on stream unordered item)
has_pushed stream unordered [] item = has_more stream unordered item []
has_pushed stream unordered (x ∷ xs) item =
    has_more stream unordered x (xs ++ item ∷ [])
    ∙ (ap (λ (b : Bool). b || is_on stream unordered x) (has_pushed stream unordered xs item)
    ∙ (swapped (has_on stream unordered xs) (is_on stream unordered item) (is_on stream unordered x)
    ∙ ap (λ (b : Bool). b || is_on stream unordered item) (sym (has_more stream unordered x xs))))

length_if : (b interleaving : Bool) (x : Item) (entries : Entries) → length (entry_if b interleaving x entries) ≡ one_if b + length entries
length_if true interleaving x entries = omega arith
length_if false interleaving x entries = omega arith

or_false : (b : Bool) → (b || false) ≡ b
or_false true = refl
or_false false = refl

count_apart : (listed other here there : Bool) → one_if (listed && not (here || false)) + one_if (other && not there) ≡ one_if (listed && not here) + one_if (other && not (there || false))
count_apart listed other here there =
    ap (λ (b : Bool). one_if (listed && not b) + one_if (other && not there)) (or_false here) ∙ ap (λ (b : Bool). one_if (listed && not here) + one_if (other && not b)) (sym (or_false there))

count_same : (listed other here there : Bool) → listed ≡ other → here ≡ there
    → one_if (listed && not (here || true)) + one_if (other && not there) ≡ one_if (listed && not here) + one_if (other && not (there || true))
count_same listed other here there both same = rw (both, same) (omega arith)

-- One more item at the end, and one in front: it doesn't matter which is counted first.
count_either : (interleaving : Bool) (x : Item) (xs : List Item) (item : Item)
    → one_if (is_new interleaving x (xs ++ item ∷ [])) + one_if (is_new interleaving item xs) ≡ one_if (is_new interleaving x xs) + one_if (is_new interleaving item (x ∷ xs))
count_either interleaving x xs item =
    ap (λ (b : Bool). one_if (is_listed interleaving x && not b) + one_if (is_new interleaving item xs)) (has_pushed x.fragment.stream x.fragment.is_unordered xs item)
    ∙ (by_test (is_on x.fragment.stream x.fragment.is_unordered item)
    (λ same.
    let (stream_is, unordered_is) = same_key x.fragment.stream x.fragment.is_unordered item.fragment.stream item.fragment.is_unordered same in
    by_on true same
    (count_same (is_listed interleaving x) (is_listed interleaving item) (has_like x xs) (has_like item xs) (ap (λ (b : Bool). interleaving || not b) unordered_is)
    (ap (λ (n : ℕ). has_on n x.fragment.is_unordered xs) stream_is ∙ ap (λ (b : Bool). has_on item.fragment.stream b xs) unordered_is)))
    (λ apart. by_on false apart (count_apart (is_listed interleaving x) (is_listed interleaving item) (has_like x xs) (has_like item xs)))
    ∙ ap (λ (b : Bool). one_if (is_new interleaving x xs) + one_if (is_listed interleaving item && not b)) (sym (has_more item.fragment.stream item.fragment.is_unordered x xs)))
  where
    by_on : (b : Bool) → is_on x.fragment.stream x.fragment.is_unordered item ≡ b
        → one_if (is_listed interleaving x && not (has_like x xs || b)) + one_if (is_new interleaving item xs) ≡ one_if (is_new interleaving x xs) + one_if (is_listed interleaving item && not (has_like item xs || b))
        → one_if (is_listed interleaving x && not (has_like x xs || is_on x.fragment.stream x.fragment.is_unordered item)) + one_if (is_new interleaving item xs)
        ≡ one_if (is_new interleaving x xs) + one_if (is_listed interleaving item && not (has_like item xs || is_on item.fragment.stream item.fragment.is_unordered x))
    by_on b is counted =
        let other = sym (same_either x.fragment.stream x.fragment.is_unordered item.fragment.stream item.fragment.is_unordered) ∙ is in
        ap (λ (c : Bool). one_if (is_listed interleaving x && not (has_like x xs || c)) + one_if (is_new interleaving item xs)) is
        ∙ (counted ∙ ap (λ (c : Bool). one_if (is_new interleaving x xs) + one_if (is_listed interleaving item && not (has_like item xs || c))) (sym other))

-- one more item
pub count_pushed : (interleaving : Bool) (row : List Item) (item : Item)
    → length (entries_of interleaving (row ++ item ∷ [])) ≡ length (entries_of interleaving row) + one_if (is_new interleaving item row)
count_pushed interleaving [] item = omega (arith, length_if (is_new interleaving item []) interleaving item [])
count_pushed interleaving (x ∷ xs) item =
    let new = length_if (is_new interleaving x (xs ++ item ∷ [])) interleaving x (entries_of interleaving (xs ++ item ∷ [])) in
    let old = length_if (is_new interleaving x xs) interleaving x (entries_of interleaving xs) in
    omega (arith, new, old, count_pushed interleaving xs item, count_either interleaving x xs item)
