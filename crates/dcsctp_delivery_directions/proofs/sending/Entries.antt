-- The entries of a FORWARD-TSN or I-FORWARD-TSN name messages of the log.
use Rattle.std.proofs.Common.{◌≡◌, ◌==◌, ℕ, zero, suc, Bool, true, false, ◌<◌, ◌+◌, ◌-◌, ◌≤◌, ◌%◌, ◌^◌, List, [], ◌∷◌, length, take, refl, sym, ◌∙◌, ap, arith, subst, inl, inr}
use Rattle.std.specs.Prelude.{◌⊎◌, ◌&&◌, ◌||◌, not, Option, None, Some, slice_get, if◌then◌else◌}
use Rattle.std.specs.Option.{option_map, option_or}
use Rattle.std.proofs.lemmas.Bool.{eqb-true, eq-eqb}
use Rattle.std.proofs.lemmas.Bool.Decides.{eqb_tells, leb_tells}
use Rattle.dcsctp_spec.specs.types.queues.Progress.{is_abandoned}
use Rattle.dcsctp_spec.specs.queues.Outstanding.{OutstandingState}
use Rattle.dcsctp_spec.specs.queues.Items.{Item}
use Rattle.dcsctp_spec.specs.queues.Skipping.{is_row_continued, is_same_stream, last_on, last_listed, entry_for, NoneTwice, skipped_number, IsSkippedRow}
use Rattle.dcsctp_delivery_directions.specs.sending.Places.{HasEntry, at_place}
use Rattle.dcsctp_delivery_directions.specs.sending.Log.{Message, Slot, Mark, History, IsLogOfPieces, IsEndSlot}
use Rattle.dcsctp_delivery_directions.specs.sending.Numbers.{AreOfKind}
use Rattle.dcsctp_delivery_directions.specs.sending.Stages.{SaysSlot, SaysTsn, IsNamedFragment, Bears}
use Rattle.dcsctp_spec.specs.queues.Sending.{Fragment}
use Rattle.dcsctp_delivery_directions.specs.sending.Pieces.{CarriesPiece}
use Rattle.dcsctp_delivery_directions.specs.sending.Flushes.{IsEntry, AreForwardEntries, PassesAcknowledged}
use Rattle.dcsctp_delivery_directions.proofs.sending.Highest.{highest_of}
use Rattle.dcsctp_delivery_directions.proofs.sending.Stages.{item_at, item_below}

pub same_kind : (a b : Bool) → (if a then b else not b) ≡ true → a ≡ b
same_kind true b e = sym e
same_kind false true e = absurd (cc)
same_kind false false e = refl

pub both : (x y : Bool) → (x && y) ≡ true → (x ≡ true) × (y ≡ true)
both true true e = (refl, refl)
both true false e = absurd (cc)
both false y e = absurd (cc)

-- It doesn't begin after a reset unless it is the first.
begins_none : (place : ℕ) (item : Item) → 0 < place → is_row_continued place item ≡ true → item.begins_after_reset ≡ true → ⊥
begins_none place item some on begins =
    let later : (place == 0) ≡ false = elim (eqb_tells place 0) [ inl e ↦ (let zero : place ≡ 0 = e.1 in absurd (omega arith)) | inr e ↦ e.0 ] in
    let one : ((place == 0) || not item.begins_after_reset) ≡ true = (both (is_abandoned item.progress.state) ((place == 0) || not item.begins_after_reset) on).1 in
    let none : false ≡ true = ap (λ (b : Bool). false || not b) (sym begins) ∙ ap (λ (b : Bool). b || not item.begins_after_reset) (sym later) ∙ one in
    absurd (cc)

module _ (history : History) (first : ℕ) where
  -- an item that is skipped names the message of its entry
  record OfItem (count : ℕ) (outstanding : OutstandingState) (entry : (ℕ × Bool) × ℕ) : Type 0 where
    place : ℕ
    item : Item
    at : slice_get outstanding.items place ≡ Some item
    within : place < count
    stream : entry.0.0 ≡ item.fragment.stream
    unordered : entry.0.1 ≡ item.fragment.is_unordered
    number : entry.1 ≡ skipped_number outstanding.is_interleaved item
    listed : outstanding.is_interleaved ≡ false → entry.0.1 ≡ false
    last : (k : ℕ) (later : Item) → place < k → k < count → slice_get outstanding.items k ≡ Some later → item.fragment.stream ≡ later.fragment.stream → item.fragment.is_unordered ≡ later.fragment.is_unordered → ⊥

  -- No reset of the stream lies between an item of the row and its end, where the row would have ended.
  not_split : (acknowledged count : ℕ) (outstanding : OutstandingState) → Bears history first acknowledged outstanding → count ≤ length outstanding.items → ((place : ℕ) (item : Item) → place < count → slice_get outstanding.items place ≡ Some item → is_row_continued place item ≡ true)
      → (place : ℕ) → (mark : Mark) → HasEntry mark history.marks → acknowledged + place < mark.bound → acknowledged + count ≤ mark.bound
  not_split acknowledged count outstanding b within each place mark has less =
      elim (leb_tells (acknowledged + count) mark.bound) [
        | inl e ↦ e.1
        | inr e ↦
            (let below : mark.bound < acknowledged + count = e.1 in
            let inner : mark.bound - acknowledged < count = omega arith in
            let here : acknowledged + (mark.bound - acknowledged) ≡ mark.bound = omega arith in
            let (item, at) = item_at (mark.bound - acknowledged) outstanding.items (omega arith) in
            absurd (begins_none (mark.bound - acknowledged) item (omega arith) (each (mark.bound - acknowledged) item inner at) (b.splits mark has (mark.bound - acknowledged) item at here)))
      ]

  -- No piece of a message in the row comes after its last TSN.
  abbrev pub ClosesRow : ℕ → ℕ → OutstandingState → Type 0
  ClosesRow acknowledged count outstanding =
      outstanding.is_interleaved ≡ false → history.marks ≡ [] → 0 < count → (slot : Slot) × (at_place (acknowledged + count - 1) history.log ≡ Some slot) × (IsEndSlot slot ⊎ (2 ^ 31 ≤ acknowledged + count + 1))

  pub last_there : (stream : ℕ) (unordered : Bool) (items : List Item) (place : ℕ) (item : Item) → slice_get items place ≡ Some item → stream ≡ item.fragment.stream → unordered ≡ item.fragment.is_unordered → last_on stream unordered items ≡ None → ⊥
  last_there stream unordered [] zero item at same kind none = absurd (cc)
  last_there stream unordered [] (suc place) item at same kind none = absurd (cc)
  last_there stream unordered (i ∷ items) zero item at same kind none = go (last_on stream unordered items) none
    where
      is : is_same_stream stream unordered i.fragment.stream i.fragment.is_unordered ≡ true
      is =
          let one : i ≡ item = cc in
          subst (λ (x : Item). is_same_stream stream unordered x.fragment.stream x.fragment.is_unordered ≡ true) (sym one)
          (subst (λ (k : ℕ). is_same_stream k unordered item.fragment.stream item.fragment.is_unordered ≡ true) (sym same)
          (subst (λ (c : Bool). is_same_stream item.fragment.stream c item.fragment.stream item.fragment.is_unordered ≡ true) (sym kind) (itself item.fragment.stream item.fragment.is_unordered)))
        where
          itself : (s : ℕ) (u : Bool) → is_same_stream s u s u ≡ true
          itself s true = rw (eq-eqb s s refl) refl
          itself s false = rw (eq-eqb s s refl) refl

      go : (o : Option Item) → option_or o (if is_same_stream stream unordered i.fragment.stream i.fragment.is_unordered then Some i else None) ≡ None → ⊥
      go (Some x) e = absurd (cc)
      go None e = (let e' : ◌≡◌ {A = Option Item} (Some i) None = subst (λ (c : Bool). (if c then Some i else None) ≡ None) is e in absurd (cc))
  last_there stream unordered (i ∷ items) (suc place) item at same kind none =
      go (last_on stream unordered items) (λ e. last_there stream unordered items place item at same kind e) none
    where
      go : (o : Option Item) → (o ≡ None → ⊥) → option_or o (if is_same_stream stream unordered i.fragment.stream i.fragment.is_unordered then Some i else None) ≡ None → ⊥
      go (Some x) some e = absurd (cc)
      go None some e = some refl

  pub in_front : (count place : ℕ) (items : List Item) (item : Item) → place < count → slice_get items place ≡ Some item → slice_get (take count items) place ≡ Some item
  in_front zero place items item below at = absurd (omega (arith, below))
  in_front (suc count) zero [] item below at = at
  in_front (suc count) (suc place) [] item below at = at
  in_front (suc count) zero (i ∷ items) item below at = at
  in_front (suc count) (suc place) (i ∷ items) item below at = in_front count place items item (omega (arith, below)) at

  end_said : (part : Fragment) (slot : Slot) → SaysSlot part slot → part.is_end ≡ true → IsEndSlot slot
  end_said part None says is = tt
  end_said part (Some piece) says is = sym says.end ∙ is

  -- fragments of one message are of one stream
  one_of : (queued : List Message) → IsLogOfPieces queued history.log → (own other : ℕ) (part part' : Fragment) → IsNamedFragment history own part → IsNamedFragment history other part' → part.message_id ≡ part'.message_id
      → (part.stream ≡ part'.stream) × (part.is_unordered ≡ part'.is_unordered)
  one_of queued cut own other part part' n n' same =
      let both_at : Some n.piece.message ≡ Some n'.piece.message = sym (cut.pieces n.number n.piece n.at).at ∙ ap (λ (k : ℕ). at_place k queued) (sym n.of ∙ same ∙ n'.of) ∙ (cut.pieces n'.number n'.piece n'.at).at in
      let one : n.piece.message ≡ n'.piece.message = cc in
      (n.stream ∙ ap (λ (m : Message). m.stream) one ∙ sym n'.stream, n.unordered ∙ ap (λ (m : Message). m.is_unordered) one ∙ sym n'.unordered)

  -- What the row passes is acknowledged, or of a message with limits.
  pub row_passed : (queued : List Message) → IsLogOfPieces queued history.log → (acknowledged count : ℕ) (outstanding : OutstandingState) → Bears history first acknowledged outstanding → count ≤ length outstanding.items
      → ((place : ℕ) (item : Item) → place < count → slice_get outstanding.items place ≡ Some item → is_row_continued place item ≡ true) → PassesAcknowledged history.log acknowledged (acknowledged + count)
  row_passed queued cut acknowledged count outstanding b within each n f at low unlimited =
      elim (leb_tells (n + 1) acknowledged) [
        | inl e ↦ (let less = e.1 in omega (arith, less))
        | inr e ↦ absurd (let less = e.1 in inner (n - acknowledged) (omega (arith, less, low)) (omega (arith, less, low)))
      ]
    where
      inner : (k : ℕ) → k < count → acknowledged + k ≡ n → ⊥
      inner k below here =
          let (item, found) = item_at k outstanding.items (omega (arith, within, below)) in
          let gone : is_abandoned item.progress.state ≡ true = (both (is_abandoned item.progress.state) ((k == 0) || not item.begins_after_reset) (each k item below found)).0 in
          let of = b.abandoned k item found gone in
          let says = b.items k item found in
          let same : Some says.slot ≡ Some (Some f) = sym says.at ∙ ap (λ (m : ℕ). at_place m history.log) here ∙ at in
          let is : says.slot ≡ Some f = cc in
          let carries : CarriesPiece item.fragment f = subst (λ (s : Slot). SaysSlot item.fragment s) is says.says in
          let both_at : Some of.piece.message ≡ Some f.message = sym (cut.pieces of.number of.piece of.at).at ∙ ap (λ (m : ℕ). at_place m queued) (sym of.of ∙ carries.named) ∙ (cut.pieces n f at).at in
          let one : of.piece.message ≡ f.message = cc in
          let clash : true ≡ false = sym of.limited ∙ ap (λ (m : Message). m.is_limited) one ∙ unlimited in
          cc

  pub row_closes : (queued : List Message) → IsLogOfPieces queued history.log → (acknowledged limit entries count : ℕ) (outstanding : OutstandingState) → Bears history first acknowledged outstanding → IsSkippedRow outstanding.is_interleaved limit entries count outstanding.items
      → ClosesRow acknowledged count outstanding
  row_closes queued cut acknowledged limit entries count outstanding b row plain none some =
      let within = row.within in
      let (item, at) = item_at (count - 1) outstanding.items (omega (arith, within, some)) in
      let says = b.items (count - 1) item at in
      let here : acknowledged + (count - 1) ≡ acknowledged + count - 1 = omega (arith, some) in
      (says.slot, ap (λ (n : ℕ). at_place n history.log) (sym here) ∙ says.at, go item at says item.fragment.is_end refl)
    where
      next_is : count - 1 + 1 ≡ count
      next_is = omega (arith, some)

      continued : (a c d : Bool) → (a && (c || not d)) ≡ false → a ≡ true → c ≡ false → d ≡ true
      continued true false true e is is' = refl
      continued true false false e is is' = absurd (cc)
      continued true true d e is is' = absurd (cc)
      continued false c d e is is' = absurd (cc)

      not_zero : (count == 0) ≡ false
      not_zero = elim (eqb_tells count 0) [ inl e ↦ absurd (let zero_is : count ≡ 0 = e.1 in omega (arith, zero_is, some)) | inr e ↦ e.0 ]

      stops : (item next : Item) → slice_get outstanding.items (count - 1) ≡ Some item → slice_get outstanding.items count ≡ Some next → is_abandoned next.progress.state ≡ true → item.fragment.is_end ≡ false → ⊥
      stops item next at at' abandoned unended =
          let w = b.whole plain none in
          elim row.ends [
            | inl last ↦ (let below = item_below outstanding.items count next at' in omega (arith, below, last))
            | inr s ↦
                (let both_at : Some s.item ≡ Some next = sym s.at ∙ at' in
                let same : s.item ≡ next = cc in
                elim s.why [
                  | inl e ↦
                      (let begins = continued (is_abandoned s.item.progress.state) (count == 0) s.item.begins_after_reset e (ap (λ (x : Item). is_abandoned x.progress.state) same ∙ abandoned) not_zero in
                      let first_of_all = w.begins count s.item s.at begins in
                      omega (arith, first_of_all, some))
                  | inr full ↦
                      (let joined = w.joined (count - 1) item s.item at (ap (λ (n : ℕ). slice_get outstanding.items n) next_is ∙ s.at) unended in
                      let one = one_of queued cut (acknowledged + count) (acknowledged + (count - 1)) s.item.fragment item.fragment (b.named count s.item s.at) (b.named (count - 1) item at) joined in
                      last_there s.item.fragment.stream s.item.fragment.is_unordered (take count outstanding.items) (count - 1) item (in_front count (count - 1) outstanding.items item (omega (arith, some)) at) one.0 one.1 full.is_new)
                ])
          ]

      go : (item : Item) → slice_get outstanding.items (count - 1) ≡ Some item → (says : SaysTsn history.log (acknowledged + (count - 1)) item.fragment) → (end : Bool) → item.fragment.is_end ≡ end
          → IsEndSlot says.slot ⊎ (2 ^ 31 ≤ acknowledged + count + 1)
      go item at says true is = inl (end_said item.fragment says.slot says.says is)
      go item at says false is =
          let w = b.whole plain none in
          let on = row.each (count - 1) item (omega (arith, some)) at in
          let abandoned = (both (is_abandoned item.progress.state) (((count - 1) == 0) || not item.begins_after_reset) on).0 in
          elim (w.together (count - 1) item at abandoned is) [
            | inl next ↦ absurd (stops item next.0 at (ap (λ (n : ℕ). slice_get outstanding.items n) (sym next_is) ∙ next.1) next.2 is)
            | inr last ↦ inr (omega (arith, last, some))
          ]

  of_item : (queued : List Message) → IsLogOfPieces queued history.log → (acknowledged count : ℕ) (outstanding : OutstandingState) (entry : (ℕ × Bool) × ℕ) → AreOfKind outstanding.is_interleaved history.log → Bears history first acknowledged outstanding → count ≤ length outstanding.items
      → ((place : ℕ) (item : Item) → place < count → slice_get outstanding.items place ≡ Some item → is_row_continued place item ≡ true) → ClosesRow acknowledged count outstanding → OfItem count outstanding entry → IsEntry outstanding.is_interleaved history (acknowledged + count) entry
  of_item queued cut acknowledged count outstanding entry kinds b within each closes of =
      let named : IsNamedFragment history (acknowledged + of.place) of.item.fragment = b.named of.place of.item of.at in
      record {
        number = named.number;
        piece = named.piece;
        at = named.at;
        within = λ mark has names less. not_split acknowledged count outstanding b within each of.place mark has (named.whole mark has names less);
        kind = kinds named.number named.piece named.at;
        stream = of.stream ∙ named.stream;
        unordered = of.unordered ∙ named.unordered;
        mid = λ interleaved. ap (λ (k : ℕ). k % 2 ^ 32) (of.number ∙ ap (λ (b' : Bool). skipped_number b' of.item) interleaved) ∙ named.mid;
        ordered = of.listed;
        ssn = λ plain. of.number ∙ ap (λ (b' : Bool). skipped_number b' of.item) plain ∙ named.ssn;
        over = λ plain none. (
            let (slot, at_slot, ends) = closes plain none (let inside = of.within in omega (arith, inside)) in
            let inside = of.within in
            let up = named.up_to in
            record { offset = acknowledged + count - 1; slot = slot; from = omega (arith, inside, up); to = omega (arith, inside); at = at_slot; ends = elim ends [ inl e ↦ inl e | inr e ↦ inr (omega (arith, e)) ] }
            );
        limited = is_limited named;
        before = (let inside = of.within in let up = named.up_to in omega (arith, inside, up));
        highest = λ interleaved. highest_of queued history first acknowledged cut outstanding b (λ n f at. kinds n f at ∙ interleaved) count of.place of.item of.at within of.last;
      }
    where
      -- an item of a row was abandoned
      is_limited : (named : IsNamedFragment history (acknowledged + of.place) of.item.fragment) → named.piece.message.is_limited ≡ true
      is_limited named =
          let on = each of.place of.item of.within of.at in
          let is = b.abandoned of.place of.item of.at (both (is_abandoned of.item.progress.state) ((of.place == 0) || not of.item.begins_after_reset) on).0 in
          let both_at : Some named.piece.message ≡ Some is.piece.message =
          sym (cut.pieces named.number named.piece named.at).at ∙ ap (λ (k : ℕ). at_place k queued) (sym named.of ∙ is.of) ∙ (cut.pieces is.number is.piece is.at).at in
          let one : named.piece.message ≡ is.piece.message = cc in
          ap (λ (m : Message). m.is_limited) one ∙ is.limited

  -- No later item is of the stream.
  abbrev NoneLater : ℕ → Bool → List Item → ℕ → Type 0
  NoneLater stream unordered items place = (k : ℕ) (later : Item) → place < k → slice_get items k ≡ Some later → stream ≡ later.fragment.stream → unordered ≡ later.fragment.is_unordered → ⊥

  -- the last item of a stream is one of the row
  found_last : (stream : ℕ) (unordered : Bool) (items : List Item) (item : Item) → last_on stream unordered items ≡ Some item → (place : ℕ) × (slice_get items place ≡ Some item) × (stream ≡ item.fragment.stream) × (unordered ≡ item.fragment.is_unordered) × NoneLater stream unordered items place
  found_last stream unordered [] item is = absurd (cc)
  found_last stream unordered (first_item ∷ items) item is = go (last_on stream unordered items) refl (λ found. found_last stream unordered items item found) is
    where
      here : last_on stream unordered items ≡ None → (b : Bool) → is_same_stream stream unordered first_item.fragment.stream first_item.fragment.is_unordered ≡ b → (if b then Some first_item else None) ≡ Some item
          → (place : ℕ) × (slice_get (first_item ∷ items) place ≡ Some item) × (stream ≡ item.fragment.stream) × (unordered ≡ item.fragment.is_unordered) × NoneLater stream unordered (first_item ∷ items) place
      here none true same e =
          let one : first_item ≡ item = cc in
          let (streams, kinds) = both (stream == first_item.fragment.stream) (if unordered then first_item.fragment.is_unordered else not first_item.fragment.is_unordered) same in
          (0, e, eqb-true stream first_item.fragment.stream streams ∙ ap (λ (x : Item). x.fragment.stream) one, same_kind unordered first_item.fragment.is_unordered kinds ∙ ap (λ (x : Item). x.fragment.is_unordered) one, λ k later past at on kind. past_first k later past at on kind)
        where
          past_first : (k : ℕ) (later : Item) → 0 < k → slice_get (first_item ∷ items) k ≡ Some later → stream ≡ later.fragment.stream → unordered ≡ later.fragment.is_unordered → ⊥
          past_first zero later past at on kind = absurd (omega (arith, past))
          past_first (suc k) later past at on kind = last_there stream unordered items k later at on kind none
      here none false same e = absurd (cc)

      go : (found : Option Item) → last_on stream unordered items ≡ found
          → (last_on stream unordered items ≡ Some item → (place : ℕ) × (slice_get items place ≡ Some item) × (stream ≡ item.fragment.stream) × (unordered ≡ item.fragment.is_unordered) × NoneLater stream unordered items place)
          → option_or found (if is_same_stream stream unordered first_item.fragment.stream first_item.fragment.is_unordered then Some first_item else None) ≡ Some item
          → (place : ℕ) × (slice_get (first_item ∷ items) place ≡ Some item) × (stream ≡ item.fragment.stream) × (unordered ≡ item.fragment.is_unordered) × NoneLater stream unordered (first_item ∷ items) place
      go None is rest e = here is (is_same_stream stream unordered first_item.fragment.stream first_item.fragment.is_unordered) refl e
      go (Some last) is rest e = (let (place, at, same, kind, none) = rest (is ∙ e) in (suc place, at, same, kind, λ k later past at' on kind'. later_none place none k later past at' on kind'))
        where
          later_none : (place : ℕ) → NoneLater stream unordered items place → (k : ℕ) (later : Item) → suc place < k → slice_get (first_item ∷ items) k ≡ Some later → stream ≡ later.fragment.stream → unordered ≡ later.fragment.is_unordered → ⊥
          later_none place none zero later past at on kind = absurd (omega (arith, past))
          later_none place none (suc k) later past at on kind = none k later (omega (arith, past)) at on kind

  listed_item : (outstanding : OutstandingState) (count : ℕ) (entry : (ℕ × Bool) × ℕ) → Some entry.1 ≡ option_map (skipped_number outstanding.is_interleaved) (last_listed outstanding.is_interleaved entry.0.0 entry.0.1 (take count outstanding.items))
      → OfItem count outstanding entry
  listed_item outstanding count entry is = go (outstanding.is_interleaved || not entry.0.1) refl is
    where
      among : (k place : ℕ) (items : List Item) (item : Item) → slice_get (take k items) place ≡ Some item → slice_get items place ≡ Some item
      among zero zero items item at = absurd (cc)
      among zero (suc place) items item at = absurd (cc)
      among (suc k) place [] item at = at
      among (suc k) zero (i ∷ items) item at = at
      among (suc k) (suc place) (i ∷ items) item at = among k place items item at

      before : (k place : ℕ) (items : List Item) (item : Item) → slice_get (take k items) place ≡ Some item → place < k
      before zero zero items item at = absurd (cc)
      before zero (suc place) items item at = absurd (cc)
      before (suc k) place [] item at = absurd (cc)
      before (suc k) zero (i ∷ items) item at = omega arith
      before (suc k) (suc place) (i ∷ items) item at = omega (arith, before k place items item at)

      found : (outstanding.is_interleaved ≡ false → entry.0.1 ≡ false) → (o : Option Item) → last_on entry.0.0 entry.0.1 (take count outstanding.items) ≡ o → Some entry.1 ≡ option_map (skipped_number outstanding.is_interleaved) o → OfItem count outstanding entry
      found listed None e same = absurd (cc)
      found listed (Some item) e same =
          let (place, at, stream, unordered, none) = found_last entry.0.0 entry.0.1 (take count outstanding.items) item e in
          record { place = place; item = item; at = among count place outstanding.items item at; within = before count place outstanding.items item at; stream = stream; unordered = unordered; number = cc; listed = listed; last = λ k later past low at' on kind. none k later past (in_front count k outstanding.items later low at') (stream ∙ on) (unordered ∙ kind) }

      ordered : (a c : Bool) → (a || not c) ≡ true → a ≡ false → c ≡ false
      ordered true c e plain = absurd (cc)
      ordered false true e plain = absurd (cc)
      ordered false false e plain = refl

      go : (b : Bool) → (outstanding.is_interleaved || not entry.0.1) ≡ b → Some entry.1 ≡ option_map (skipped_number outstanding.is_interleaved) (if b then last_on entry.0.0 entry.0.1 (take count outstanding.items) else None) → OfItem count outstanding entry
      go false is_listed same = absurd (cc)
      go true is_listed same = found (ordered outstanding.is_interleaved entry.0.1 is_listed) (last_on entry.0.0 entry.0.1 (take count outstanding.items)) refl same

  -- so each entry does
  pub listed_entries : (queued : List Message) → IsLogOfPieces queued history.log → (acknowledged count : ℕ) (outstanding : OutstandingState) → AreOfKind outstanding.is_interleaved history.log → Bears history first acknowledged outstanding → count ≤ length outstanding.items
      → ((place : ℕ) (item : Item) → place < count → slice_get outstanding.items place ≡ Some item → is_row_continued place item ≡ true) → ClosesRow acknowledged count outstanding → (all entries : List ((ℕ × Bool) × ℕ))
      → ((stream : ℕ) (unordered : Bool) → entry_for stream unordered all ≡ option_map (skipped_number outstanding.is_interleaved) (last_listed outstanding.is_interleaved stream unordered (take count outstanding.items)))
      → ((entry : (ℕ × Bool) × ℕ) → HasEntry entry entries → entry_for entry.0.0 entry.0.1 all ≡ Some entry.1) → AreForwardEntries outstanding.is_interleaved history (acknowledged + count) entries
  listed_entries queued cut acknowledged count outstanding kinds b within each closes all [] lists found = tt
  listed_entries queued cut acknowledged count outstanding kinds b within each closes all (entry ∷ entries) lists found = (
    of_item queued cut acknowledged count outstanding entry kinds b within each closes (listed_item outstanding count entry (sym (found entry (inl refl)) ∙ lists entry.0.0 entry.0.1)),
    listed_entries queued cut acknowledged count outstanding kinds b within each closes all entries lists (λ other has. found other (inr has)),
  )

-- an entry of a list in which no stream has two is the one that is found
pub entry_found : (entries : List ((ℕ × Bool) × ℕ)) → NoneTwice entries → (entry : (ℕ × Bool) × ℕ) → HasEntry entry entries → entry_for entry.0.0 entry.0.1 entries ≡ Some entry.1
entry_found [] once entry has = absurd has
entry_found (e ∷ entries) once entry has = go (is_same_stream entry.0.0 entry.0.1 e.0.0 e.0.1) refl has (λ later. entry_found entries once.1 entry later)
  where
    itself : (stream : ℕ) (unordered : Bool) → is_same_stream stream unordered stream unordered ≡ true
    itself stream true = rw (eq-eqb stream stream refl) refl
    itself stream false = rw (eq-eqb stream stream refl) refl

    same_kind : (a b : Bool) → (if a then b else not b) ≡ true → a ≡ b
    same_kind true b e' = sym e'
    same_kind false true e' = absurd (cc)
    same_kind false false e' = refl

    both : (x y : Bool) → (x && y) ≡ true → (x ≡ true) × (y ≡ true)
    both true true e' = (refl, refl)
    both true false e' = absurd (cc)
    both false y e' = absurd (cc)

    go : (b : Bool) → is_same_stream entry.0.0 entry.0.1 e.0.0 e.0.1 ≡ b → HasEntry entry (e ∷ entries) → (HasEntry entry entries → entry_for entry.0.0 entry.0.1 entries ≡ Some entry.1)
        → (if b then Some e.1 else entry_for entry.0.0 entry.0.1 entries) ≡ Some entry.1
    go true same has rest =
        elim has [
          | inl is ↦ ap (λ (x : (ℕ × Bool) × ℕ). Some x.1) (sym is)
          | inr later ↦
              (let (streams, kinds) = both (entry.0.0 == e.0.0) (if entry.0.1 then e.0.1 else not e.0.1) same in
              let stream_is : entry.0.0 ≡ e.0.0 = eqb-true entry.0.0 e.0.0 streams in
              let kind_is : entry.0.1 ≡ e.0.1 = same_kind entry.0.1 e.0.1 kinds in
              let nothing : entry_for entry.0.0 entry.0.1 entries ≡ None = ap (λ (k : ℕ). entry_for k entry.0.1 entries) stream_is ∙ ap (λ (c : Bool). entry_for e.0.0 c entries) kind_is ∙ once.0 in
              let clash : ◌≡◌ {A = Option ℕ} None (Some entry.1) = sym nothing ∙ rest later in
              absurd (cc))
        ]
    go false same has rest =
        elim has [
          | inl is ↦
              (let own : is_same_stream entry.0.0 entry.0.1 e.0.0 e.0.1 ≡ true = subst (λ (x : (ℕ × Bool) × ℕ). is_same_stream entry.0.0 entry.0.1 x.0.0 x.0.1 ≡ true) is (itself entry.0.0 entry.0.1) in
              let clash : true ≡ false = sym own ∙ same in
              absurd (cc))
          | inr later ↦ rest later
        ]
