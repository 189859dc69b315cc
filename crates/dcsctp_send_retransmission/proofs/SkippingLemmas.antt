-- Lemmas on the entries of a FORWARD-TSN.
use Rattle.std.proofs.Common.{Vec, subst, Ordering, Less, Equal, Greater, cond, is_some, ◌≡◌, ◌∙◌, ◌⊎◌, inl, inr, ℕ, zero, suc, ◌+◌, ◌-◌, ◌%◌, ◌^◌, ◌<◌, ◌≤◌, ◌==◌, ◌&&◌, ◌||◌, not, Bool, true, false, Option, None, Some, List, [], ◌∷◌, ◌++◌, length, take, map, if◌then◌else◌, refl, ap, sym, arith}
use Rattle.std.specs.Option.{option_map, option_or}
use Rattle.std.specs.List.{slice_get, AllByRecursion}
use Rattle.std.specs.List.Sorted.{IsStrictlySortedBy}
use Rattle.std.specs.Map.{lookup, keys_of}
use Rattle.std.specs.BTreeMap.{is_at}
use Rattle.std.specs.Ordering.{is_eq, nat_cmp, bool_cmp, ordering_then}
use Rattle.std.proofs.lemmas.Map.Keys.{sorted_head, sorted_tail}
use Rattle.std.specs.declared.alloc.Global.{Global}
use Rattle.std.proofs.lemmas.List.{length-map}
use Rattle.dcsctp_api.specs.wire.declared.chunk.forward_tsn.SkippedStream.{SkippedStream}
use Rattle.dcsctp_api.specs.wire.declared.chunk.forward_tsn.SkippedMessages.{SkippedMessages}
use Rattle.dcsctp_send_retransmission.specs.declared.forward_tsn.Skipped.TheVariants.{Streams, Messages}
use Rattle.dcsctp_api.specs.spec.queues.Items.{Item}
use Rattle.dcsctp_send_retransmission.specs.declared.retransmission_queue.forwarding.LastNumbers.{LastNumbers}
use Rattle.dcsctp_api.specs.spec.queues.Retransmission.{RetransmissionState}
use Rattle.dcsctp_send_retransmission.specs.Forwarding.{stream_entry, messages_entry, SkipsAbandoned}
use Rattle.dcsctp_api.specs.spec.queues.Skipping.{IsSkippedRow, is_row_continued, is_same_stream, is_listed, last_on, last_listed, entry_for, NoneTwice, skipped_number, ListsEntries, LacksRoom}
use Rattle.dcsctp_send_retransmission.specs.Skipping.{numbers_of, ssn_entry, mid_entry, skipped_entry_limit, CollectsLastNumbers, SkipsRow}

-- the order of a map's keys
abbrev pub key_cmp : ℕ × Bool → ℕ × Bool → Ordering
key_cmp x y = ordering_then (nat_cmp x.0 y.0) (bool_cmp x.1 y.1)

then_eq : (r s : Ordering) → is_eq (ordering_then r s) ≡ (is_eq r && is_eq s)
then_eq Less s = refl
then_eq Equal s = refl
then_eq Greater s = refl

bool_eq_is : (x y : Bool) → is_eq (bool_cmp x y) ≡ (if x then y else not y)
bool_eq_is true true = refl
bool_eq_is true false = refl
bool_eq_is false true = refl
bool_eq_is false false = refl

nat_eq_is : (a b : ℕ) → is_eq (nat_cmp a b) ≡ (a == b)
nat_eq_is a b = grind arith

-- keys are equal by their order where they are the same
pub same_is : (x y : ℕ × Bool) → is_eq (key_cmp x y) ≡ is_same_stream x.0 x.1 y.0 y.1
same_is x y = then_eq (nat_cmp x.0 y.0) (bool_cmp x.1 y.1) ∙ rw (nat_eq_is, bool_eq_is) refl

-- what a map has at a key
pub lookup_is : {V : Type 0} (stream : ℕ) (unordered : Bool) (entries : List ((ℕ × Bool) × V)) → lookup (is_at (key_cmp (stream, unordered))) entries ≡ entry_for stream unordered entries
lookup_is stream unordered [] = refl
lookup_is stream unordered (e ∷ es) = rw (same_is (stream, unordered) e.0, lookup_is stream unordered es) refl

and_false : (b : Bool) → (b && false) ≡ false
and_false true = refl
and_false false = refl

nat_flip : (a b : ℕ) → (a == b) ≡ (b == a)
nat_flip a b = grind arith

bool_flip : (x y : Bool) → (if x then y else not y) ≡ (if y then x else not x)
bool_flip true true = refl
bool_flip true false = refl
bool_flip false true = refl
bool_flip false false = refl

same_flip : (a : ℕ) (x : Bool) (b : ℕ) (y : Bool) → is_same_stream a x b y ≡ is_same_stream b y a x
same_flip a x b y = ap (λ t. t && (if x then y else not y)) (nat_flip a b) ∙ ap (λ t. (b == a) && t) (bool_flip x y)

or_none : {X : Type 0} (o : Option X) → option_or o None ≡ o
or_none None = refl
or_none (Some x) = refl

or_assoc : {X : Type 0} (a b c : Option X) → option_or (option_or a b) c ≡ option_or a (option_or b c)
or_assoc None b c = refl
or_assoc (Some x) b c = refl

-- the last of the items on a stream, of one item
abbrev pub here : ℕ → Bool → Item → Option Item
here stream unordered item = if is_same_stream stream unordered item.fragment.stream item.fragment.is_unordered then Some item else None

-- one more item in the row
pub last_push : (stream : ℕ) (unordered : Bool) (row : List Item) (item : Item) → last_on stream unordered (row ++ item ∷ []) ≡ option_or (here stream unordered item) (last_on stream unordered row)
last_push stream unordered [] item = sym (or_none (here stream unordered item))
last_push stream unordered (x ∷ xs) item =
    ap (λ o. option_or o (here stream unordered x)) (last_push stream unordered xs item) ∙ or_assoc (here stream unordered item) (last_on stream unordered xs) (here stream unordered x)

pub take_more : (items : List Item) (place : ℕ) (item : Item) → slice_get items place ≡ Some item → take (suc place) items ≡ take place items ++ item ∷ []
take_more [] place item at = absurd (cc)
take_more (x ∷ xs) zero item at = ap (λ (y : Item). y ∷ []) (let e : x ≡ item = cc in e)
take_more (x ∷ xs) (suc place) item at = ap (λ (ys : List Item). x ∷ ys) (take_more xs place item at)

is_false : (w : Bool) → not w ≡ true → w ≡ false
is_false true e = absurd (cc)
is_false false e = refl

-- one that isn't listed
listed_skipped : (interleaving unordered : Bool) (stream : ℕ) (row : List Item) (item : Item) → is_listed interleaving item ≡ false → last_listed interleaving stream unordered (row ++ item ∷ []) ≡ last_listed interleaving stream unordered row
listed_skipped true unordered stream row item e = absurd (cc)
listed_skipped false true stream row item e = refl
listed_skipped false false stream row item e =
    let apart : is_same_stream stream false item.fragment.stream item.fragment.is_unordered ≡ false = ap (λ t. (stream == item.fragment.stream) && t) e ∙ and_false (stream == item.fragment.stream) in
    last_push stream false row item ∙ ap (λ (b : Bool). option_or (if b then Some item else None) (last_on stream false row)) apart

-- one that is
listed_taken : (interleaving unordered : Bool) (stream : ℕ) (row : List Item) (item : Item) → is_listed interleaving item ≡ true → last_listed interleaving stream unordered (row ++ item ∷ []) ≡ option_or (here stream unordered item) (last_listed interleaving stream unordered row)
listed_taken true unordered stream row item e = last_push stream unordered row item
listed_taken false false stream row item e = last_push stream false row item
listed_taken false true stream row item e =
    let apart : is_same_stream stream true item.fragment.stream item.fragment.is_unordered ≡ false = ap (λ t. (stream == item.fragment.stream) && t) (is_false item.fragment.is_unordered e) ∙ and_false (stream == item.fragment.stream) in
    sym (ap (λ (b : Bool). option_or (if b then Some item else None) None) apart)

-- what is collected where an item isn't listed
pub collects_skipped : (queue : RetransmissionState) (row : List Item) (item : Item) (entries : List ((ℕ × Bool) × LastNumbers)) → is_listed queue.outstanding.is_interleaved item ≡ false → CollectsLastNumbers queue row entries → CollectsLastNumbers queue (row ++ item ∷ []) entries
collects_skipped queue row item entries unlisted collects =
    record {
      numbers = λ stream unordered. collects.numbers stream unordered ∙ ap (option_map numbers_of) (sym (listed_skipped queue.outstanding.is_interleaved unordered stream row item unlisted));
      fits = collects.fits;
    }

put_in : (b : Bool) (item : Item) (last : Option Item) → cond b (Some (numbers_of item)) (option_map numbers_of last) ≡ option_map numbers_of (option_or (if b then Some item else None) last)
put_in true item last = refl
put_in false item last = refl

-- what is collected with one more
pub collects_taken : (queue : RetransmissionState) (row : List Item) (item : Item) (old new : List ((ℕ × Bool) × LastNumbers)) → is_listed queue.outstanding.is_interleaved item ≡ true → CollectsLastNumbers queue row old → ((q : ℕ × Bool) → lookup (is_at (key_cmp q)) new ≡ cond (is_at (key_cmp (item.fragment.stream, item.fragment.is_unordered)) q) (Some (numbers_of item)) (lookup (is_at (key_cmp q)) old)) → length new ≤ skipped_entry_limit queue → CollectsLastNumbers queue (row ++ item ∷ []) new
collects_taken queue row item old new listed collects updates fits =
    record {
      numbers = λ stream unordered.
          let key : ℕ × Bool = (item.fragment.stream, item.fragment.is_unordered) in
          let test : is_eq (key_cmp key (stream, unordered)) ≡ is_same_stream stream unordered key.0 key.1 = same_is key (stream, unordered) ∙ same_flip key.0 key.1 stream unordered in
          let was : lookup (is_at (key_cmp (stream, unordered))) old ≡ option_map numbers_of (last_listed queue.outstanding.is_interleaved stream unordered row) = lookup_is stream unordered old ∙ collects.numbers stream unordered in
          sym (lookup_is stream unordered new)
          ∙ updates (stream, unordered)
          ∙ ap (λ (b : Bool). cond b (Some (numbers_of item)) (lookup (is_at (key_cmp (stream, unordered))) old)) test
          ∙ ap (λ (o : Option LastNumbers). cond (is_same_stream stream unordered key.0 key.1) (Some (numbers_of item)) o) was
          ∙ put_in (is_same_stream stream unordered key.0 key.1) item (last_listed queue.outstanding.is_interleaved stream unordered row)
          ∙ ap (option_map numbers_of) (sym (listed_taken queue.outstanding.is_interleaved unordered stream row item listed));
      fits = fits;
    }

-- an entry that is there takes no more room, and one may come where there is some
pub fits_after : (limit before after : ℕ) (there : Bool) → before ≤ limit → after ≡ before + (if there then 0 else 1) → (before < limit) ⊎ (there ≡ true) → after ≤ limit
fits_after limit before after true fits is room = omega arith
fits_after limit before after false fits is (inl below) = omega arith
fits_after limit before after false fits is (inr there) = absurd (cc)

none_of : {X : Type 0} (o : Option X) → is_some o ≡ false → o ≡ None
none_of None e = refl
none_of (Some x) e = absurd (cc)

map_none : {X Y : Type 0} (f : X → Y) (o : Option X) → option_map f o ≡ None → o ≡ None
map_none f None e = refl
map_none f (Some x) e = absurd (cc)

last_of_listed : (interleaving unordered : Bool) (stream : ℕ) (row : List Item) → (interleaving || not unordered) ≡ true → last_listed interleaving stream unordered row ≡ last_on stream unordered row
last_of_listed interleaving unordered stream row e = ap (λ (b : Bool). if b then last_on stream unordered row else None) e

-- There is no room where all entries are taken, and none is the item's.
pub lacks_room : (queue : RetransmissionState) (row : List Item) (item : Item) (entries : List ((ℕ × Bool) × LastNumbers)) → is_listed queue.outstanding.is_interleaved item ≡ true → CollectsLastNumbers queue row entries → skipped_entry_limit queue ≤ length entries → is_some (lookup (is_at (key_cmp (item.fragment.stream, item.fragment.is_unordered))) entries) ≡ false → LacksRoom queue.outstanding.is_interleaved (skipped_entry_limit queue) (length entries) row item
lacks_room queue row item entries listed collects full absent =
    let stream = item.fragment.stream in
    let unordered = item.fragment.is_unordered in
    let none : entry_for stream unordered entries ≡ None = sym (lookup_is stream unordered entries) ∙ none_of (lookup (is_at (key_cmp (stream, unordered))) entries) absent in
    record {
      listed = listed;
      full = full;
      is_new =
          sym (last_of_listed queue.outstanding.is_interleaved unordered stream row listed)
          ∙ map_none numbers_of (last_listed queue.outstanding.is_interleaved stream unordered row) (sym (collects.numbers stream unordered) ∙ none);
    }

-- ---- the entries of the chunk

apart_from_all : {V : Type 0} (stream : ℕ) (unordered : Bool) (entries : List ((ℕ × Bool) × V)) → AllByRecursion (λ key. key_cmp (stream, unordered) key ≡ Less) (keys_of entries) → entry_for stream unordered entries ≡ None
apart_from_all stream unordered [] all = refl
apart_from_all stream unordered (e ∷ es) all =
    let first : is_same_stream stream unordered e.0.0 e.0.1 ≡ false = sym (same_is (stream, unordered) e.0) ∙ ap is_eq all.0 in
    ap (λ (b : Bool). if b then Some e.1 else entry_for stream unordered es) first ∙ apart_from_all stream unordered es all.1

-- a map has no key twice
pub none_twice_sorted : {V : Type 0} (entries : List ((ℕ × Bool) × V)) → IsStrictlySortedBy key_cmp (keys_of entries) → NoneTwice entries
none_twice_sorted [] sorted = tt
none_twice_sorted (e ∷ es) sorted =
    (apart_from_all e.0.0 e.0.1 es (sorted_head key_cmp e.0 (keys_of es) sorted), none_twice_sorted es (sorted_tail key_cmp e.0 (keys_of es) sorted))

-- the entries with other values
abbrev pub with_values : {V W : Type 0} → (V → W) → List ((ℕ × Bool) × V) → List ((ℕ × Bool) × W)
with_values f entries = map (λ e. ((e.0.0, e.0.1), f e.1)) entries

pub entry_mapped : {V W : Type 0} (f : V → W) (stream : ℕ) (unordered : Bool) (entries : List ((ℕ × Bool) × V)) → entry_for stream unordered (with_values f entries) ≡ option_map f (entry_for stream unordered entries)
entry_mapped f stream unordered [] = refl
entry_mapped f stream unordered (e ∷ es) = go (is_same_stream stream unordered e.0.0 e.0.1) (entry_mapped f stream unordered es)
  where
    go : (b : Bool) → entry_for stream unordered (with_values f es) ≡ option_map f (entry_for stream unordered es) → (if b then Some (f e.1) else entry_for stream unordered (with_values f es)) ≡ option_map f (if b then Some e.1 else entry_for stream unordered es)
    go true later = refl
    go false later = later

pub none_twice_mapped : {V W : Type 0} (f : V → W) (entries : List ((ℕ × Bool) × V)) → NoneTwice entries → NoneTwice (with_values f entries)
none_twice_mapped f [] h = tt
none_twice_mapped f (e ∷ es) h = (entry_mapped f e.0.0 e.0.1 es ∙ ap (option_map f) h.0, none_twice_mapped f es h.1)

same_number : (a : ℕ) → (a == a) ≡ true
same_number a = grind arith

-- without unordered messages the entries of streams are those of messages
pub ordered_alone : (entries : List ((ℕ × Bool) × LastNumbers)) → ((stream : ℕ) → entry_for stream true entries ≡ None) → map ssn_entry entries ≡ with_values (λ (n : LastNumbers). n.ssn) entries
ordered_alone [] none = refl
ordered_alone (e ∷ es) none = go e.0.1 refl (ordered_alone es)
  where
    go : (b : Bool) → e.0.1 ≡ b → (((stream : ℕ) → entry_for stream true es ≡ None) → map ssn_entry es ≡ with_values (λ (n : LastNumbers). n.ssn) es) → map ssn_entry (e ∷ es) ≡ with_values (λ (n : LastNumbers). n.ssn) (e ∷ es)
    go true is later =
        let found : is_same_stream e.0.0 true e.0.0 e.0.1 ≡ true = ap (λ b. (e.0.0 == e.0.0) && b) is ∙ ap (λ b. b && true) (same_number e.0.0) in
        let some : Some e.1 ≡ None = sym (ap (λ (b : Bool). if b then Some e.1 else entry_for e.0.0 true es) found) ∙ none e.0.0 in
        absurd (cc)
    go false is later =
        let rest : (stream : ℕ) → entry_for stream true es ≡ None = λ stream.
        let apart : is_same_stream stream true e.0.0 e.0.1 ≡ false = ap (λ b. (stream == e.0.0) && b) is ∙ and_false (stream == e.0.0) in
        sym (ap (λ (b : Bool). if b then Some e.1 else entry_for stream true es) apart) ∙ none stream in
        ap (λ (b : Bool). ((e.0.0, b), e.1.ssn) ∷ map ssn_entry es) (sym is) ∙ ap (λ (xs : List ((ℕ × Bool) × ℕ)). ((e.0.0, e.0.1), e.1.ssn) ∷ xs) (later rest)

mid_is : (last : Option Item) → option_map (λ (n : LastNumbers). n.mid) (option_map numbers_of last) ≡ option_map (skipped_number true) last
mid_is None = refl
mid_is (Some item) = refl

ssn_is : (last : Option Item) → option_map (λ (n : LastNumbers). n.ssn) (option_map numbers_of last) ≡ option_map (skipped_number false) last
ssn_is None = refl
ssn_is (Some item) = refl

-- what is collected, as the entries of a chunk
abbrev pub HasNumbers : Bool → List Item → List ((ℕ × Bool) × LastNumbers) → Type 0
HasNumbers interleaving row entries = (stream : ℕ) (unordered : Bool) → entry_for stream unordered entries ≡ option_map numbers_of (last_listed interleaving stream unordered row)

pub lists_messages : (row : List Item) (entries : List ((ℕ × Bool) × LastNumbers)) (listed : List ((ℕ × Bool) × ℕ)) → HasNumbers true row entries → (listed ≡ map mid_entry entries) × NoneTwice entries → ListsEntries true row listed
lists_messages row entries listed numbers is =
    let f : LastNumbers → ℕ = λ n. n.mid in
    rw (is.0) (record {
      numbers = λ stream unordered. entry_mapped f stream unordered entries ∙ ap (option_map f) (numbers stream unordered) ∙ mid_is (last_listed true stream unordered row);
      none_twice = none_twice_mapped f entries is.1;
    })

pub lists_streams : (row : List Item) (entries : List ((ℕ × Bool) × LastNumbers)) (listed : List ((ℕ × Bool) × ℕ)) → HasNumbers false row entries → (listed ≡ map ssn_entry entries) × NoneTwice entries → ListsEntries false row listed
lists_streams row entries listed numbers is =
    let f : LastNumbers → ℕ = λ n. n.ssn in
    let alone : listed ≡ with_values f entries = is.0 ∙ ordered_alone entries (λ stream. numbers stream true) in
    rw alone (record {
      numbers = λ stream unordered. entry_mapped f stream unordered entries ∙ ap (option_map f) (numbers stream unordered) ∙ ssn_is (last_listed false stream unordered row);
      none_twice = none_twice_mapped f entries is.1;
    })

-- the cumulative TSN of a row
pub cumulative_is : (first count : ℕ) → ((first + count) % 2 ^ 32 + 4294967295) % 4294967296 ≡ (first + count + (2 ^ 32 - 1)) % 2 ^ 32
cumulative_is first count = omega arith

-- ---- the row

-- all items so far are skipped
abbrev pub GoOn : ℕ → List Item → Type 0
GoOn count items = (k : ℕ) (item : Item) → k < count → slice_get items k ≡ Some item → is_row_continued k item ≡ true

-- The row ends at an item that isn't skipped.
pub stops_here : (queue : RetransmissionState) (place : ℕ) (entries : List ((ℕ × Bool) × LastNumbers)) (item : Item) → place < length queue.outstanding.items → slice_get queue.outstanding.items place ≡ Some item → is_row_continued place item ≡ false → GoOn place queue.outstanding.items → CollectsLastNumbers queue (take place queue.outstanding.items) entries → SkipsRow queue place entries
stops_here queue place entries item within at stops each collects =
    record {
      row = record { within = omega arith; each = each; fits = collects.fits; ends = inr (record { item = item; at = at; why = inl stops }) };
      collects = collects;
    }

-- It ends at one for which there is no room.
pub stops_full : (queue : RetransmissionState) (place : ℕ) (entries : List ((ℕ × Bool) × LastNumbers)) (item : Item) → place < length queue.outstanding.items → slice_get queue.outstanding.items place ≡ Some item → LacksRoom queue.outstanding.is_interleaved (skipped_entry_limit queue) (length entries) (take place queue.outstanding.items) item → GoOn place queue.outstanding.items → CollectsLastNumbers queue (take place queue.outstanding.items) entries → SkipsRow queue place entries
stops_full queue place entries item within at lacks each collects =
    record {
      row = record { within = omega arith; each = each; fits = collects.fits; ends = inr (record { item = item; at = at; why = inr lacks }) };
      collects = collects;
    }

-- ---- the whole chunk

pub says_messages : (queue : RetransmissionState) (count : ℕ) (entries : List ((ℕ × Bool) × LastNumbers)) (messages : Vec SkippedMessages Global) (cumulative : ℕ) → queue.outstanding.is_interleaved ≡ true → SkipsRow queue count entries → (map messages_entry messages.items ≡ map mid_entry entries) × NoneTwice entries → cumulative ≡ (queue.outstanding.first_tsn + count + (2 ^ 32 - 1)) % 2 ^ 32 → SkipsAbandoned queue (record { new_cumulative_tsn = cumulative; skipped = Messages messages })
says_messages queue count entries messages cumulative is skips listed cumulative_is =
    let sizes : length entries ≡ length messages.items = sym (length-map entries mid_entry) ∙ ap length (sym listed.0) ∙ length-map messages.items messages_entry in
    let numbers : HasNumbers true (take count queue.outstanding.items) entries = subst (λ b. HasNumbers b (take count queue.outstanding.items) entries) is skips.collects.numbers in
    record {
      count = count;
      row = subst (λ n. IsSkippedRow queue.outstanding.is_interleaved (skipped_entry_limit queue) n count queue.outstanding.items) sizes skips.row;
      cumulative = cumulative_is;
      lists = rw is (lists_messages (take count queue.outstanding.items) entries (map messages_entry messages.items) numbers listed);
    }

pub says_streams : (queue : RetransmissionState) (count : ℕ) (entries : List ((ℕ × Bool) × LastNumbers)) (streams : Vec SkippedStream Global) (cumulative : ℕ) → queue.outstanding.is_interleaved ≡ false → SkipsRow queue count entries → (map stream_entry streams.items ≡ map ssn_entry entries) × NoneTwice entries → cumulative ≡ (queue.outstanding.first_tsn + count + (2 ^ 32 - 1)) % 2 ^ 32 → SkipsAbandoned queue (record { new_cumulative_tsn = cumulative; skipped = Streams streams })
says_streams queue count entries streams cumulative is skips listed cumulative_is =
    let sizes : length entries ≡ length streams.items = sym (length-map entries ssn_entry) ∙ ap length (sym listed.0) ∙ length-map streams.items stream_entry in
    let numbers : HasNumbers false (take count queue.outstanding.items) entries = subst (λ b. HasNumbers b (take count queue.outstanding.items) entries) is skips.collects.numbers in
    record {
      count = count;
      row = subst (λ n. IsSkippedRow queue.outstanding.is_interleaved (skipped_entry_limit queue) n count queue.outstanding.items) sizes skips.row;
      cumulative = cumulative_is;
      lists = rw is (lists_streams (take count queue.outstanding.items) entries (map stream_entry streams.items) numbers listed);
    }
