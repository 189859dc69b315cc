-- Which parts a stream holds once one more was received, without interleaving.
use Rattle.std.proofs.Common.{◌≡◌, ◌==◌, ℕ, zero, suc, Bool, true, false, ◌<◌, ◌≤◌, ◌+◌, ◌-◌, ◌^◌, List, [], ◌∷◌, ◌++◌, length, take, drop, refl, sym, ◌∙◌, ap, arith, subst, inl, inr}
use Rattle.std.specs.Prelude.{◌⊎◌, nat_le, nat_lt, Option, None, Some, MatchBool, slice_get, is_some, if◌then◌else◌}
use Rattle.std.proofs.lemmas.Bool.Decides.{nat_tests, eqb_tells, leb_tells}
use Rattle.dcsctp_spec_lemmas.specs.types.queues.Messages.{MessageContent}
use Rattle.dcsctp_spec_lemmas.specs.types.declared.arrivals.Taken.{Taken}
use Rattle.dcsctp_spec_lemmas.specs.spec.queues.Numbers.{fragment_place}
use Rattle.dcsctp_spec_lemmas.specs.spec.queues.Runs.{RunModel, PartModel, WholeModel, Assembly, part_dropped, part_kept, message_whole, entry_before, holds_some, is_held_before, run_with_part, chosen, front_end, back_start, with_part, without_runs, AddsPart, run_before, run_behind}
use Rattle.dcsctp_spec_lemmas.specs.spec.queues.IncomingStreams.{StreamModel, next_after, due, not_due, next_due, is_number_waiting, WaitsAmong, OrderedOutcome, TakesOrdered}
use Rattle.dcsctp_delivery_directions.specs.sending.Places.{HasEntry, at_place}
use Rattle.dcsctp_delivery_directions.specs.sending.Log.{Message, Piece, Slot, History, IsLogOfPieces}
use Rattle.dcsctp_delivery_directions.proofs.sending.Places.{at_below}
use Rattle.dcsctp_delivery_directions.specs.receiving.Rows.{AreRows}
use Rattle.dcsctp_delivery_directions.specs.receiving.Ready.{IsOn, ordered_base}
use Rattle.dcsctp_delivery_directions.proofs.receiving.Chaining.{placed_plain}
use Rattle.dcsctp_delivery_directions.proofs.receiving.Joining.{both}
use Rattle.dcsctp_delivery_directions.proofs.receiving.SpentRows.{of_message}
use Rattle.dcsctp_delivery_directions.specs.order.Rising.{Rise, DeliversRow, ready_with_part}
use Rattle.dcsctp_delivery_directions.specs.order.Runs.{place_after, IsHeldForMessage, LeavesPartsHeld}
use Rattle.dcsctp_delivery_directions.specs.order.Plain.{number_of_tsn, CountsPlain, CarriesOrdered, IsNumberedRun, IsHeldOrWaits}
use Rattle.dcsctp_delivery_directions.proofs.order.Held.{parts_leave_held}
use Rattle.dcsctp_delivery_directions.proofs.order.PlainRows.{some_turn, same_turn}
use Rattle.dcsctp_delivery_directions.proofs.order.PlainMissing.{row_in}

-- ---- entries of lists of runs

in_left : (r : RunModel) (xs ys : List RunModel) → HasEntry r xs → HasEntry r (xs ++ ys)
in_left r [] ys h = absurd h
in_left r (x ∷ xs) ys h = elim h [ inl e ↦ inl e | inr t ↦ inr (in_left r xs ys t) ]

in_either : (r : RunModel) (xs ys : List RunModel) → HasEntry r (xs ++ ys) → HasEntry r xs ⊎ HasEntry r ys
in_either r [] ys h = inr h
in_either r (x ∷ xs) ys h =
    elim h [
      | inl e ↦ inl (inl e)
      | inr t ↦ elim (in_either r xs ys t) [ inl l ↦ inl (inr l) | inr k ↦ inr k ]
    ]

in_take : (r : RunModel) (k : ℕ) (xs : List RunModel) → HasEntry r (take k xs) → HasEntry r xs
in_take r zero xs h = absurd h
in_take r (suc k) [] h = absurd h
in_take r (suc k) (x ∷ xs) h = elim h [ inl e ↦ inl e | inr t ↦ inr (in_take r k xs t) ]

in_drop : (r : RunModel) (k : ℕ) (xs : List RunModel) → HasEntry r (drop k xs) → HasEntry r xs
in_drop r zero xs h = h
in_drop r (suc k) [] h = absurd h
in_drop r (suc k) (x ∷ xs) h = inr (in_drop r k xs h)

in_get : (r : RunModel) (k : ℕ) (xs : List RunModel) → slice_get xs k ≡ Some r → HasEntry r xs
in_get r k [] e = absurd (cc)
in_get r zero (x ∷ xs) e = (let same : x ≡ r = cc in inl (sym same))
in_get r (suc k) (x ∷ xs) e = inr (in_get r k xs e)

pub in_before : (r : RunModel) (at : ℕ) (xs : List RunModel) → entry_before at xs ≡ Some r → HasEntry r xs
in_before r zero xs e = absurd (cc)
in_before r (suc at) xs e = in_get r at xs e

-- ---- where runs begin

-- each run begins as one that was there, or as the part
module _ (P : ℕ → ℕ → Type 0) (part : PartModel) (old : List RunModel) (each : (run : RunModel) → HasEntry run old → P run.first run.number) (its : P part.place part.number) where
  begins_merged : (front back : Option RunModel) → ((run : RunModel) → front ≡ Some run → P run.first run.number) → P (run_with_part front part back).first (run_with_part front part back).number
  begins_merged None None is = its
  begins_merged None (Some back) is = its
  begins_merged (Some front) None is = is front refl
  begins_merged (Some front) (Some back) is = is front refl

  begins_with : (b c : Bool) (at : ℕ) (run : RunModel) → HasEntry run (with_part b c at part old) → P run.first run.number
  begins_with b c at run has =
      elim (in_either run (take (front_end b at) old) (run_with_part (chosen b (entry_before at old)) part (chosen c (slice_get old at)) ∷ drop (back_start c at) old) has) [
        | inl l ↦ each run (in_take run (front_end b at) old l)
        | inr r ↦ elim r [
          | inl e ↦ subst (λ (x : RunModel). P x.first x.number) (sym e) (begins_merged (chosen b (entry_before at old)) (chosen c (slice_get old at)) (front b))
          | inr t ↦ each run (in_drop run (back_start c at) old t)
        ]
      ]
    where
      front : (b : Bool) (run : RunModel) → chosen b (entry_before at old) ≡ Some run → P run.first run.number
      front true run is = each run (in_before run at old is)
      front false run is = absurd (cc)

  begins_without : (b c : Bool) (at : ℕ) (run : RunModel) → HasEntry run (without_runs b c at old) → P run.first run.number
  begins_without b c at run has =
      elim (in_either run (take (front_end b at) old) (drop (back_start c at) old) has) [
        | inl l ↦ each run (in_take run (front_end b at) old l)
        | inr r ↦ each run (in_drop run (back_start c at) old r)
      ]

  begins_so : (outcome : Assembly) (new : List RunModel) → AddsPart part old outcome new → (run : RunModel) → HasEntry run new → P run.first run.number
  begins_so part_dropped new adds run has = each run (subst (λ (l : List RunModel). HasEntry run l) adds.adds.1 has)
  begins_so part_kept new adds run has =
      begins_with (is_some (run_before adds.at old part)) (is_some (run_behind part adds.at old)) adds.at run (subst (λ (l : List RunModel). HasEntry run l) adds.adds.2 has)
  begins_so (message_whole whole) new adds run has =
      begins_without (is_some (run_before adds.at old part)) (is_some (run_behind part adds.at old)) adds.at run (subst (λ (l : List RunModel). HasEntry run l) adds.adds.3 has)

-- ---- what waits

waits_in : (number : ℕ) (w : WholeModel) (waiting : List WholeModel) → is_number_waiting number waiting ≡ true → is_number_waiting number (w ∷ waiting) ≡ true
waits_in number w waiting e = elim (eqb_tells w.number number) [ inl t ↦ rw t.0 refl | inr t ↦ rw t.0 e ]

waits_first : (number : ℕ) (w : WholeModel) (waiting : List WholeModel) → w.number ≡ number → is_number_waiting number (w ∷ waiting) ≡ true
waits_first number w waiting is = elim (eqb_tells w.number number) [ inl t ↦ rw t.0 refl | inr t ↦ absurd (t.1 is) ]

waits_split : (number : ℕ) (w : WholeModel) (waiting : List WholeModel) → is_number_waiting number (w ∷ waiting) ≡ true → (w.number ≡ number) ⊎ (is_number_waiting number waiting ≡ true)
waits_split number w waiting e = elim (eqb_tells w.number number) [ inl t ↦ inl t.1 | inr t ↦ inr (rw t.0 at e) ]

pub rise_end : (from end : ℕ) (wholes : List WholeModel) → Rise from end wholes → from ≤ end
rise_end from end [] rise = rise
rise_end from end (x ∷ wholes) rise = (let low = rise.0 in let more = rise_end (x.number + 1) end wholes rise.1 in omega (arith, low, more))

-- a message that waits goes on to wait, or becomes ready
pub due_or_not : (number from next : ℕ) (waiting : List WholeModel) → Rise from (next_due next waiting) (due next waiting) → is_number_waiting number waiting ≡ true → number < next_due next waiting ⊎ (is_number_waiting number (not_due next waiting) ≡ true)
due_or_not number from next [] rise e = absurd (cc)
due_or_not number from next (w ∷ waiting) rise e =
    elim (leb_tells w.number next) [
      | inr t ↦ inr (rw t.0 e)
      | inl t ↦
          (let rise' : Rise from (next_due (next_after next w) waiting) (w ∷ due (next_after next w) waiting) = rw t.0 at rise in
          let rest : (w.number ≡ number) ⊎ (is_number_waiting number waiting ≡ true) = waits_split number w waiting e in
          let found : number < next_due (next_after next w) waiting ⊎ (is_number_waiting number (not_due (next_after next w) waiting) ≡ true) = elim rest [
            | inl same ↦ inl (let up = rise_end (w.number + 1) (next_due (next_after next w) waiting) (due (next_after next w) waiting) rise'.1 in omega (arith, same, up))
            | inr more ↦ due_or_not number (w.number + 1) (next_after next w) waiting rise'.1 more
          ] in
          rw t.0 found)
    ]

pub waits_among : (number at : ℕ) (whole : WholeModel) (waiting : List WholeModel) → (whole.number ≡ number) ⊎ (is_number_waiting number waiting ≡ true) → is_number_waiting number (take at waiting ++ whole ∷ drop at waiting) ≡ true
waits_among number zero whole waiting has = elim has [ inl is ↦ waits_first number whole waiting is | inr e ↦ waits_in number whole waiting e ]
waits_among number (suc at) whole [] has = elim has [ inl is ↦ waits_first number whole [] is | inr e ↦ absurd (cc) ]
waits_among number (suc at) whole (w ∷ waiting) has =
    elim has [
      | inl is ↦ waits_in number w (take at waiting ++ whole ∷ drop at waiting) (waits_among number at whole waiting (inl is))
      | inr e ↦ elim (waits_split number w waiting e) [
        | inl same ↦ waits_first number w (take at waiting ++ whole ∷ drop at waiting) same
        | inr more ↦ waits_in number w (take at waiting ++ whole ∷ drop at waiting) (waits_among number at whole waiting (inr more))
      ]
    ]

-- ---- a part

-- A run that begins at this place, under this number, begins as the row says.
record BeginsAt (log : List Slot) (base id first number : ℕ) : Type 0 where
  offset : ℕ
  piece : Piece
  is : CarriesOrdered log id offset piece
  number_is : number ≡ number_of_tsn id offset log
  first_is : first ≡ fragment_place number base + offset

module _ (queued : List Message) (history : History) (cut : IsLogOfPieces queued history.log) (id : ℕ) (counts : CountsPlain id history) (got : List ℕ) (base : ℕ) (small : base + 2 ^ 32 < 2 ^ 64)
    (old : StreamModel) (rows : AreRows history.log got (ordered_base base) (IsOn history id) old.ordered) (runs : (run : RunModel) → HasEntry run old.ordered → IsNumberedRun history.log base id run)
    (n : ℕ) (f : Piece) (is : CarriesOrdered history.log id n f)
    (part : PartModel) (number_is : part.number ≡ number_of_tsn id n history.log) (place_is : part.place ≡ fragment_place part.number base + n) where
  -- runs begin at their places
  pub runs_stay : (outcome : Assembly) (later : List RunModel) → AddsPart part old.ordered outcome later → (run : RunModel) → HasEntry run later → IsNumberedRun history.log base id run
  runs_stay outcome later adds run has =
      let b = begins_so (BeginsAt history.log base id) part old.ordered (λ r h. (let k = runs r h in record { offset = k.offset; piece = k.piece; is = k.is; number_is = k.number; first_is = k.first }))
      (record { offset = n; piece = f; is = is; number_is = number_is; first_is = place_is }) outcome later adds run has in
      record { offset = b.offset; piece = b.piece; is = b.is; number = b.number_is; first = b.first_is }

  -- a run that holds its place has handled it
  held_got : (run : RunModel) → HasEntry run old.ordered → run.first ≤ part.place → part.place < place_after run → HasEntry n got
  held_got run has low high =
      let w = row_in history.log got (ordered_base base) (IsOn history id) run old.ordered rows has in
      let first : run.first ≡ fragment_place run.number base + w.offset = placed_plain (ordered_base base) w.offset w.head run.number run.first (counts.kinds w.offset w.head w.at_head) w.first in
      let ends = w.near (counts.kinds w.offset w.head w.at_head) in
      let few = counts.few in
      let below = at_below w.last_offset (Some w.last) history.log w.at_last in
      let below' = at_below n (Some f) history.log is.at in
      let same : run.number ≡ part.number = omega (arith, low, high, first, ends, place_is, few, below, below', small) in
      w.covered n f is.at (one_message run has w.offset w.head w.at_head first same) (omega (arith, low, first, place_is, same)) (omega (arith, high, first, ends, place_is, same))
    where
      -- it is of the message of the part
      one_message : (run : RunModel) → HasEntry run old.ordered → (offset : ℕ) (head : Piece) → at_place offset history.log ≡ Some (Some head) → run.first ≡ fragment_place run.number base + offset → run.number ≡ part.number → f.place ≡ head.place
      one_message run has offset head at first same =
          let r = runs run has in
          let other = r.first in
          let here : r.offset ≡ offset = omega (arith, first, other) in
          let both : Some (Some r.piece) ≡ Some (Some head) = sym r.is.at ∙ ap (λ (k : ℕ). at_place k history.log) here ∙ at in
          let one : r.piece ≡ head = cc in
          let number = r.number in
          let some = some_turn queued history cut id counts n f is in
          let some' = some_turn queued history cut id counts r.offset r.piece r.is in
          same_turn queued history cut id counts n r.offset f r.piece is r.is (omega (arith, number, number_is, same, some, some')) ∙ ap (λ (x : Piece). x.place) one

  -- a part whose TSN is new isn't dropped
  not_dropped : (HasEntry n got → ⊥) → (at : ℕ) → is_held_before at old.ordered part.place ≡ true → ⊥
  not_dropped fresh at e = go (entry_before at old.ordered) refl e
    where
      go : (o : Option RunModel) → entry_before at old.ordered ≡ o → holds_some o part.place ≡ true → ⊥
      go None before h = absurd (cc)
      go (Some run) before h =
          let (low, less) = both (nat_le run.first part.place) (nat_lt (part.place - run.first) (length run.payloads)) h in
          let from : run.first ≤ part.place = grind (arith, nat_tests, low) in
          let to : part.place - run.first < length run.payloads = grind (arith, nat_tests, less) in
          fresh (held_got run (in_before run at old.ordered before) from (omega (arith, from, to)))

  module _ (new : StreamModel) (before after : List MessageContent) (taken : Taken) (fresh : HasEntry n got → ⊥) (from : old.next ≤ part.number)
      (held : (m : ℕ) (g : Piece) → CarriesOrdered history.log id m g → HasEntry m got → old.next ≤ number_of_tsn id m history.log → IsHeldOrWaits history.log base id old m) where
    abbrev Stays : Type 0
    Stays = (m : ℕ) (g : Piece) → CarriesOrdered history.log id m g → HasEntry m (n ∷ got) → new.next ≤ number_of_tsn id m history.log → IsHeldOrWaits history.log base id new m

    kept_stays : IsHeldForMessage new.ordered part.place part.number → ((place number : ℕ) → IsHeldForMessage old.ordered place number → IsHeldForMessage new.ordered place number) → new.next ≡ old.next → new.waiting ≡ old.waiting → Stays
    kept_stays its more next waiting m g is' has up =
        elim has [
          | inl same ↦
              inl
              (subst (λ (k : ℕ). IsHeldForMessage new.ordered (fragment_place (number_of_tsn id k history.log) base + k) (number_of_tsn id k history.log)) (sym same)
              (subst (λ (k : ℕ). IsHeldForMessage new.ordered (fragment_place k base + n) k) number_is (subst (λ (k : ℕ). IsHeldForMessage new.ordered k part.number) place_is its)))
          | inr t ↦ elim (held m g is' t (omega (arith, up, next))) [
            | inl h ↦ inl (more _ _ h)
            | inr w ↦ inr (subst (λ (l : List WholeModel). is_number_waiting (number_of_tsn id m history.log) l ≡ true) (sym waiting) w)
          ]
        ]

    whole_stays : (whole : WholeModel) → whole.number ≡ part.number → ((place number : ℕ) → IsHeldForMessage old.ordered place number → IsHeldForMessage new.ordered place number ⊎ (number ≡ part.number))
        → (b : Bool) → new.next ≡ (if b then next_due (next_after old.next whole) old.waiting else old.next)
        → MatchBool b (new.waiting ≡ not_due (next_after old.next whole) old.waiting) (WaitsAmong whole old.waiting new.waiting)
        → Rise old.next new.next (if b then whole ∷ due (next_after old.next whole) old.waiting else []) → Stays
    whole_stays whole of more true next left rise m g is' has up =
        let above : whole.number + 1 ≤ new.next = rise_end (whole.number + 1) new.next (due (next_after old.next whole) old.waiting) rise.1 in
        elim has [
          | inl same ↦ absurd (let number : number_of_tsn id m history.log ≡ part.number = ap (λ (k : ℕ). number_of_tsn id k history.log) same ∙ sym number_is in omega (arith, number, above, of, up))
          | inr t ↦ elim (held m g is' t (omega (arith, above, of, up, from))) [
            | inl h ↦ elim (more _ _ h) [
              | inl h' ↦ inl h'
              | inr same ↦ absurd (omega (arith, same, above, of, up))
            ]
            | inr w ↦ elim (due_or_not (number_of_tsn id m history.log) (whole.number + 1) (next_after old.next whole) old.waiting (subst (λ (k : ℕ). Rise (whole.number + 1) k (due (next_after old.next whole) old.waiting)) next rise.1) w) [
              | inl less ↦ absurd (omega (arith, less, next, up))
              | inr w' ↦ inr (subst (λ (l : List WholeModel). is_number_waiting (number_of_tsn id m history.log) l ≡ true) (sym left) w')
            ]
          ]
        ]
    whole_stays whole of more false next among rise m g is' has up =
        let waits : (whole.number ≡ number_of_tsn id m history.log) ⊎ (is_number_waiting (number_of_tsn id m history.log) old.waiting ≡ true) → is_number_waiting (number_of_tsn id m history.log) new.waiting ≡ true =
        λ e. subst (λ (l : List WholeModel). is_number_waiting (number_of_tsn id m history.log) l ≡ true) (sym among.waiting) (waits_among (number_of_tsn id m history.log) among.at whole old.waiting e) in
        elim has [
          | inl same ↦ inr (waits (inl (of ∙ number_is ∙ ap (λ (k : ℕ). number_of_tsn id k history.log) (sym same))))
          | inr t ↦ elim (held m g is' t (omega (arith, up, next))) [
            | inl h ↦ elim (more _ _ h) [
              | inl h' ↦ inl h'
              | inr same ↦ inr (waits (inl (of ∙ sym same)))
            ]
            | inr w ↦ inr (waits (inr w))
          ]
        ]

    pub held_stays : (does : TakesOrdered part old before taken new after) → DeliversRow old before new after (ready_with_part old does.outcome) → Stays
    held_stays does row = go does.outcome does.parts does.does row.rising.rise
      where
        go : (outcome : Assembly) → AddsPart part old.ordered outcome new.ordered → OrderedOutcome part old before outcome taken new after → Rise old.next new.next (ready_with_part old outcome) → Stays
        go part_dropped adds does' rise m g is' has up = absurd (not_dropped fresh adds.at adds.adds.0)
        go part_kept adds does' rise m g is' has up =
            let leave : LeavesPartsHeld part old.ordered part_kept new.ordered = parts_leave_held part old.ordered new.ordered part_kept adds in
            kept_stays leave.1 leave.0 does'.0 does'.1 m g is' has up
        go (message_whole whole) adds does' rise m g is' has up =
            let leave : LeavesPartsHeld part old.ordered (message_whole whole) new.ordered = parts_leave_held part old.ordered new.ordered (message_whole whole) adds in
            whole_stays whole (of_message part old.ordered new.ordered (message_whole whole) adds) leave (whole.number == old.next) does'.next does'.waiting rise m g is' has up
