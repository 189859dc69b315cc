-- What is found among ascending numbers is what the list names.
use Rattle.std.proofs.Common.{◌≡◌, ◌==◌, ◌≤◌, ◌<◌, ℕ, true, false, List, [], ◌∷◌, length, get_or, arith, refl, sym, ◌∙◌, ap, ◌++◌, ◌+◌, take}
use Rattle.std.specs.Prelude.{Result, Ok, Err, is_ok}
use Rattle.std.specs.Ordering.{nat_cmp}
use Rattle.std.specs.List.{list_any}
use Rattle.std.specs.List.Sorted.{IsSorted, IsBinarySearchResult}
use Rattle.std.proofs.lemmas.List.{take_more, take_all, map_push}
use Rattle.std.proofs.lemmas.List.Sorted.{searched, IsNonDecreasingBy-from_sort, list_any-IsPermutation}
use Rattle.std.proofs.lemmas.List.Folds.{list_any_at, list_any_none}
use Rattle.std.proofs.lemmas.List.Elements.{All-from_get_or}
use Rattle.std.proofs.lemmas.Bool.{eqb-true, eq-eqb, ne_eqb}
use Rattle.dcsctp_api.specs.types.declared.ids.StreamId.{StreamId}
use Rattle.dcsctp_api.specs.types.Ids.{stream_numbers}
use Rattle.dcsctp_receive_reassembly.specs.NamedStreams.{IsSortedFrom}
use Rattle.dcsctp_api.specs.spec.queues.Reassembly.{names_stream}

-- one number more
pub numbers_more : (streams : List StreamId) (i : ℕ) (d : StreamId) (numbers : List ℕ) → i < length streams → numbers ≡ stream_numbers (take i streams) → numbers ++ (get_or streams i d).0 ∷ [] ≡ stream_numbers (take (i + 1) streams)
numbers_more streams i d numbers within so_far =
    ap (λ (front : List ℕ). front ++ (get_or streams i d).0 ∷ []) so_far
    ∙ sym (ap stream_numbers (take_more streams i d within) ∙ map_push (λ (id : StreamId). id.0) (take i streams) (get_or streams i d))

pub numbers_all : (i : ℕ) (streams : List StreamId) → length streams ≤ i → stream_numbers (take i streams) ≡ stream_numbers streams
numbers_all i streams within = ap stream_numbers (take_all i streams within)

pub names_stream-all : (id : ℕ) (streams : List StreamId) → (length streams == 0) ≡ true → names_stream (stream_numbers streams) id ≡ true
names_stream-all id [] none = refl
names_stream-all id (stream ∷ streams) none = absurd (omega (arith, eqb-true (length (stream ∷ streams)) 0 none))

names_stream-listed : (id : ℕ) (streams : List StreamId) → (length streams == 0) ≡ false → names_stream (stream_numbers streams) id ≡ list_any (λ stream. stream == id) (stream_numbers streams)
names_stream-listed id [] some = absurd (cc)
names_stream-listed id (stream ∷ streams) some = refl

found : (sorted : List ℕ) (id : ℕ) (answer : Result ℕ ℕ) → IsSorted nat_cmp sorted → IsBinarySearchResult (λ number. nat_cmp number id) sorted answer → is_ok answer ≡ list_any (λ number. number == id) sorted
found sorted id (Ok at) ascending searched_for =
    let is : (at < length sorted) × (get_or sorted at 0 ≡ id) =
    searched sorted id (Ok at) searched_for (λ i j. IsNonDecreasingBy-from_sort (λ number. number) sorted ascending i j 0) in
    sym (list_any_at (λ number. number == id) sorted at 0 is.0 (eq-eqb (get_or sorted at 0) id is.1))
found sorted id (Err at) ascending searched_for =
    let is : (at ≤ length sorted) × ((k : ℕ) → k < at → get_or sorted k 0 < id) × ((k : ℕ) → at ≤ k → k < length sorted → id < get_or sorted k 0) =
    searched sorted id (Err at) searched_for (λ i j. IsNonDecreasingBy-from_sort (λ number. number) sorted ascending i j 0) in
    sym (list_any_none (λ number. number == id) sorted
    (All-from_get_or (λ number. (number == id) ≡ false) sorted 0
    (λ i within. ne_eqb (get_or sorted i 0) id (λ same. let later : at ≤ i → id < get_or sorted i 0 = λ from. is.2 i from within in grind (arith, is.1 i, later, same)))))

pub names_stream-found : (id : ℕ) (streams : List StreamId) (sorted : List ℕ) (answer : Result ℕ ℕ) → IsSortedFrom (stream_numbers streams) sorted → IsBinarySearchResult (λ number. nat_cmp number id) sorted answer → (length streams == 0) ≡ false → is_ok answer ≡ names_stream (stream_numbers streams) id
names_stream-found id streams sorted answer from searched_for some =
    found sorted id answer from.ascending searched_for
    ∙ sym (list_any-IsPermutation (λ number. number == id) (stream_numbers streams) sorted from.same)
    ∙ sym (names_stream-listed id streams some)
