-- Each state has a FORWARD-TSN, and one that is short fits.
use Rattle.std.proofs.Common.{◌≡◌, ◌∙◌, ◌⊎◌, inl, inr, ℕ, zero, suc, ◌+◌, ◌-◌, ◌*◌, ◌%◌, ◌^◌, ◌<◌, ◌≤◌, nat_lt, nat_le, Bool, true, false, Some, List, [], ◌∷◌, ◌++◌, length, take, length-append, refl, sym, ap, subst, arith}
use Rattle.std.specs.Prelude.{slice_get}
use Rattle.std.specs.Int.{w16, w32, to_be_bytes}
use Rattle.std.specs.List.{AllByRecursion, flat_map}
use Rattle.std.proofs.lemmas.Bool.Decides.{nat_tests}
use Rattle.dcsctp_spec.specs.wire.Content.{ChunkContent, forward_tsn_chunk, i_forward_tsn_chunk}
use Rattle.dcsctp_spec.specs.wire.ReadsBack.{IsByte, FitsChunk}
use Rattle.dcsctp_spec.specs.wire.Spelling.{chunk_bytes, t_bit}
use Rattle.dcsctp_spec.proofs.wire_lemmas.Lengths.{length-chunk_bytes}
use Rattle.dcsctp_spec.specs.queues.Items.{Item}
use Rattle.dcsctp_spec.specs.queues.Retransmission.{RetransmissionState}
use Rattle.dcsctp_spec.specs.queues.Skipping.{is_row_continued, entry_limit, IsSkippedRow, LacksRoom, entry_bytes, forward_chunk, SaysForward}
use Rattle.dcsctp_spec_lemmas.proofs.ForwardEntries.{is_new, entries_of, new_is, one_if, lists_entries, count_pushed}
use Rattle.dcsctp_spec_lemmas.proofs.TurnOutcomes.{by_test}

-- ---- the row

abbrev Entries : Type 0
Entries = List ((ℕ × Bool) × ℕ)

item_at : (items : List Item) (k : ℕ) → k < length items → (item : Item) × (slice_get items k ≡ Some item)
item_at [] k within = absurd (omega arith)
item_at (x ∷ xs) zero within = (x, refl)
item_at (x ∷ xs) (suc k) within = item_at xs k (omega arith)

take_one_more : (items : List Item) (k : ℕ) (item : Item) → slice_get items k ≡ Some item → take (suc k) items ≡ take k items ++ item ∷ []
take_one_more [] k item at = absurd (cc)
take_one_more (x ∷ xs) zero item at = let same : x ≡ item = cc in ap (λ (y : Item). y ∷ []) same
take_one_more (x ∷ xs) (suc k) item at = ap (λ (ys : List Item). x ∷ ys) (take_one_more xs k item at)

-- That many first items are skipped, and more may be.
record IsSkipped (interleaving : Bool) (limit count : ℕ) (items : List Item) : Type 0 where
  pub within : count ≤ length items
  pub each : (place : ℕ) (item : Item) → place < count → slice_get items place ≡ Some item → is_row_continued place item ≡ true
  pub fits : length (entries_of interleaving (take count items)) ≤ limit

abbrev SomeRow : Bool → ℕ → List Item → Type 0
SomeRow interleaving limit items = (count : ℕ) × IsSkippedRow interleaving limit (length (entries_of interleaving (take count items))) count items

skips_more : (interleaving : Bool) (limit count : ℕ) (items : List Item) (item : Item) → IsSkipped interleaving limit count items → count < length items → slice_get items count ≡ Some item
    → is_row_continued count item ≡ true → length (entries_of interleaving (take count items)) + one_if (is_new interleaving item (take count items)) ≤ limit → IsSkipped interleaving limit (suc count) items
skips_more interleaving limit count items item skipped within at goes fits =
    let more = ap (λ (row : List Item). length (entries_of interleaving row)) (take_one_more items count item at) ∙ count_pushed interleaving (take count items) item in
    record {
      within = omega (arith, within);
      each = λ place other before here. by_test (nat_lt place count)
          (λ less. skipped.each place other (grind (arith, nat_tests)) here)
          (λ last.
          let e : place ≡ count = grind (arith, nat_tests) in
          let o : slice_get items count ≡ Some other = ap (slice_get items) (sym e) ∙ here in
          let same : item ≡ other = cc in
          rw (e, ← same) goes);
      fits = omega (arith, more, fits);
    }

row_or_more : (interleaving : Bool) (limit count : ℕ) (items : List Item) → IsSkipped interleaving limit count items
    → (count < length items → IsSkipped interleaving limit (suc count) items → SomeRow interleaving limit items) → SomeRow interleaving limit items
row_or_more interleaving limit count items skipped further =
    by_test (nat_lt count (length items))
    (λ more. let within : count < length items = grind (arith, nat_tests) in let (item, at) = item_at items count within in here within item at)
    (λ all. (count, record { within = skipped.within; each = skipped.each; fits = skipped.fits; ends = inl (let w = skipped.within in grind (arith, nat_tests)) }))
  where
    stops : (item : Item) → slice_get items count ≡ Some item → (is_row_continued count item ≡ false) ⊎ LacksRoom interleaving limit (length (entries_of interleaving (take count items))) (take count items) item
        → SomeRow interleaving limit items
    stops item at why = (count, record { within = skipped.within; each = skipped.each; fits = skipped.fits; ends = inr (record { item = item; at = at; why = why }) })

    counted : (item : Item) → count < length items → slice_get items count ≡ Some item → is_row_continued count item ≡ true → (new : Bool) → is_new interleaving item (take count items) ≡ new
        → SomeRow interleaving limit items
    counted item within at goes false is =
        further within (skips_more interleaving limit count items item skipped within at goes (let none_more = ap one_if is in let f = skipped.fits in omega (arith, f, none_more)))
    counted item within at goes true is =
        by_test (nat_le limit (length (entries_of interleaving (take count items))))
        (λ full. let (listed, alone) = new_is interleaving item (take count items) is in stops item at (inr (record { listed = listed; full = grind (arith, nat_tests); is_new = alone })))
        (λ free.
        let less : length (entries_of interleaving (take count items)) < limit = grind (arith, nat_tests) in
        further within (skips_more interleaving limit count items item skipped within at goes (let one_more = ap one_if is in omega (arith, less, one_more))))

    here : count < length items → (item : Item) → slice_get items count ≡ Some item → SomeRow interleaving limit items
    here within item at =
        by_test (is_row_continued count item)
        (λ goes. counted item within at goes (is_new interleaving item (take count items)) refl)
        (λ ends. stops item at (inl ends))

row_from : (interleaving : Bool) (limit left count : ℕ) (items : List Item) → length items ≤ count + left → IsSkipped interleaving limit count items → SomeRow interleaving limit items
row_from interleaving limit zero count items last skipped = row_or_more interleaving limit count items skipped (λ within more. absurd (omega arith))
row_from interleaving limit (suc left) count items last skipped =
    row_or_more interleaving limit count items skipped (λ within more. row_from interleaving limit left (suc count) items (omega (arith, last)) more)

some_row : (interleaving : Bool) (limit : ℕ) (items : List Item) → SomeRow interleaving limit items
some_row interleaving limit items =
    row_from interleaving limit (length items) 0 items (omega arith) (record { within = omega arith; each = λ place item before at. absurd (omega arith); fits = omega arith })

pub some_forward : (state : RetransmissionState) → (chunk : ChunkContent) × SaysForward state chunk
some_forward state =
    let interleaving : Bool = state.outstanding.is_interleaved in
    let (count, row) = some_row interleaving (entry_limit interleaving state.congestion.mtu) state.outstanding.items in (
      _,
      record {
        count = count;
        entries = entries_of interleaving (take count state.outstanding.items);
        row = row;
        lists = lists_entries interleaving (take count state.outstanding.items);
        is = refl;
      },
    )

-- ---- its length

both_in_bytes : (xs ys : List ℕ) → AllByRecursion IsByte xs → AllByRecursion IsByte ys → AllByRecursion IsByte (xs ++ ys)
both_in_bytes [] ys first later = later
both_in_bytes (x ∷ xs) ys first later = (first.0, both_in_bytes xs ys first.1 later)

two_in_bytes : (n : ℕ) → AllByRecursion IsByte (to_be_bytes w16 n)
two_in_bytes n = (omega arith, (omega arith, tt))

four_in_bytes : (n : ℕ) → AllByRecursion IsByte (to_be_bytes w32 n)
four_in_bytes n = (omega arith, (omega arith, (omega arith, (omega arith, tt))))

entry_in_bytes : (interleaving : Bool) (entry : (ℕ × Bool) × ℕ) → AllByRecursion IsByte (entry_bytes interleaving entry)
entry_in_bytes false entry = both_in_bytes (to_be_bytes w16 entry.0.0) (to_be_bytes w16 entry.1) (two_in_bytes entry.0.0) (two_in_bytes entry.1)
entry_in_bytes true entry =
    both_in_bytes (to_be_bytes w16 entry.0.0 ++ to_be_bytes w16 (t_bit entry.0.1)) (to_be_bytes w32 entry.1)
    (both_in_bytes (to_be_bytes w16 entry.0.0) (to_be_bytes w16 (t_bit entry.0.1)) (two_in_bytes entry.0.0) (two_in_bytes (t_bit entry.0.1)))
    (four_in_bytes entry.1)

entries_in_bytes : (interleaving : Bool) (entries : Entries) → AllByRecursion IsByte (flat_map (entry_bytes interleaving) entries)
entries_in_bytes interleaving [] = tt
entries_in_bytes interleaving (entry ∷ entries) =
    both_in_bytes (entry_bytes interleaving entry) (flat_map (entry_bytes interleaving) entries) (entry_in_bytes interleaving entry) (entries_in_bytes interleaving entries)

short_entries : (entries : Entries) → length (flat_map (entry_bytes false) entries) ≡ 4 * length entries
short_entries [] = refl
short_entries (entry ∷ entries) = omega (arith, length-append (entry_bytes false entry) (flat_map (entry_bytes false) entries), short_entries entries)

long_entries : (entries : Entries) → length (flat_map (entry_bytes true) entries) ≡ 8 * length entries
long_entries [] = refl
long_entries (entry ∷ entries) = omega (arith, length-append (entry_bytes true entry) (flat_map (entry_bytes true) entries), long_entries entries)

chunk_fits : (interleaving : Bool) (tsn : ℕ) (entries : Entries) → tsn < 2 ^ 32 → length (chunk_bytes (forward_chunk interleaving tsn entries)) ≤ 65535 → FitsChunk (forward_chunk interleaving tsn entries)
chunk_fits false tsn entries in_field short =
    let bytes : List ℕ = flat_map (entry_bytes false) entries in
    record {
      tsn_fits = in_field;
      len_fits = omega (arith, length-chunk_bytes (forward_tsn_chunk tsn bytes), length-append (to_be_bytes w32 tsn) bytes, short);
      streams_fit = record { whole = omega (arith, short_entries entries); entries_in_bytes = entries_in_bytes false entries };
    }
chunk_fits true tsn entries in_field short =
    let bytes : List ℕ = flat_map (entry_bytes true) entries in
    record {
      tsn_fits = in_field;
      len_fits = omega (arith, length-chunk_bytes (i_forward_tsn_chunk tsn bytes), length-append (to_be_bytes w32 tsn) bytes, short);
      streams_fit = record { whole = omega (arith, long_entries entries); entries_in_bytes = entries_in_bytes true entries };
    }

-- A chunk that fits into a packet fits its fields.
pub forward_fits : (state : RetransmissionState) (chunk : ChunkContent) → SaysForward state chunk → length (chunk_bytes chunk) ≤ 65535 → FitsChunk chunk
forward_fits state chunk says short =
    let interleaving : Bool = state.outstanding.is_interleaved in
    let tsn : ℕ = (state.outstanding.first_tsn + says.count + (2 ^ 32 - 1)) % 2 ^ 32 in
    subst FitsChunk (sym says.is) (chunk_fits interleaving tsn says.entries (omega arith) (subst (λ (c : ChunkContent). length (chunk_bytes c) ≤ 65535) says.is short))
