-- Which parts of ordered messages a stream holds once one more was received, with interleaving.
use Rattle.std.proofs.Common.{◌≡◌, ◌==◌, ℕ, Bool, true, false, ◌<◌, ◌≤◌, ◌+◌, ◌-◌, ◌%◌, ◌^◌, List, [], ◌∷◌, length, refl, sym, ◌∙◌, ap, arith, subst, inl, inr}
use Rattle.std.specs.Prelude.{◌⊎◌, nat_le, nat_lt, Option, None, Some, MatchBool, if◌then◌else◌}
use Rattle.std.proofs.lemmas.Bool.Decides.{nat_tests, leb_tells}
use Rattle.dcsctp_spec_lemmas.specs.types.queues.Messages.{MessageContent}
use Rattle.dcsctp_spec_lemmas.specs.types.declared.arrivals.Taken.{Taken}
use Rattle.dcsctp_spec_lemmas.specs.spec.queues.Numbers.{fragment_place}
use Rattle.dcsctp_spec_lemmas.specs.spec.queues.Runs.{RunModel, PartModel, WholeModel, Assembly, part_dropped, part_kept, message_whole, entry_before, holds_some, is_held_before, AddsPart}
use Rattle.dcsctp_spec_lemmas.specs.spec.queues.IncomingStreams.{StreamModel, new_stream, next_after, due, not_due, next_due, is_number_waiting, WaitsAmong, OrderedOutcome, TakesOrdered}
use Rattle.dcsctp_delivery_directions.specs.sending.Places.{HasEntry, at_place}
use Rattle.dcsctp_delivery_directions.specs.sending.Log.{Message, Piece, Slot, History, IsLogOfPieces}
use Rattle.dcsctp_delivery_directions.specs.sending.Numbers.{IsUnambiguous}
use Rattle.dcsctp_delivery_directions.proofs.sending.Places.{at_below, at_some}
use Rattle.dcsctp_delivery_directions.specs.receiving.Rows.{AreRows}
use Rattle.dcsctp_delivery_directions.specs.receiving.Ready.{IsOn}
use Rattle.dcsctp_delivery_directions.proofs.receiving.Chaining.{placed_interleaved, lies_behind, OneKind, one_kind, data_alone, interleaved_alone}
use Rattle.dcsctp_delivery_directions.proofs.receiving.Joining.{both}
use Rattle.dcsctp_delivery_directions.proofs.receiving.Reading.{tells_as}
use Rattle.dcsctp_delivery_directions.proofs.receiving.SpentRows.{of_message}
use Rattle.dcsctp_delivery_directions.specs.order.Rising.{Rise, DeliversRow, ready_with_part}
use Rattle.dcsctp_delivery_directions.specs.order.Runs.{place_after, LieApart, IsHeldForMessage, LeavesPartsHeld}
use Rattle.dcsctp_delivery_directions.specs.order.Parts.{ArePartsHeld, HoldsParts, HoldsPartsOf}
use Rattle.dcsctp_delivery_directions.specs.order.Reading.{CountsFromZero, IsSince}
use Rattle.dcsctp_delivery_directions.proofs.order.Held.{parts_leave_held}
use Rattle.dcsctp_delivery_directions.proofs.order.Runs.{parts_lie_apart}
use Rattle.dcsctp_delivery_directions.proofs.order.PlainHeld.{in_before, due_or_not, waits_among, rise_end}
use Rattle.dcsctp_delivery_directions.proofs.order.PlainMissing.{row_in}

-- ---- a part

-- Fewer than 2^31 TSNs were assigned, where one carries I-DATA.
pub few_of : (history : History) → IsUnambiguous history → (n : ℕ) (f : Piece) → at_place n history.log ≡ Some (Some f) → f.is_interleaved ≡ true → length history.log < 2 ^ 31
few_of history told n f at kind = go (one_kind history told)
  where
    go : OneKind history.log → length history.log < 2 ^ 31
    go (data_alone kinds) = absurd (let clash : true ≡ false = sym kind ∙ kinds n f at in cc)
    go (interleaved_alone kinds few) = few

module _ (queued : List Message) (history : History) (cut : IsLogOfPieces queued history.log) (told : IsUnambiguous history) (id : ℕ) (counts : CountsFromZero history id) (got : List ℕ) (base : ℕ → ℕ)
    (old : StreamModel) (rows : AreRows history.log got base (IsOn history id) old.ordered) (n : ℕ) (f : Piece) (since : IsSince history id n f)
    (part : PartModel) (named : IsOn history id f part.number) (exact : f.mid + 2 ^ 32 ≡ history.floors id false + part.number) (place_is : part.place ≡ fragment_place part.number (f.fsn % 2 ^ 32)) where
  -- a run that holds its place has handled it
  held_got : (run : RunModel) → HasEntry run old.ordered → run.first ≤ part.place → part.place < place_after run → HasEntry n got
  held_got run has low high =
      let w = row_in history.log got base (IsOn history id) run old.ordered rows has in
      let kind = counts.kinds w.offset w.head w.at_head in
      let first : run.first ≡ fragment_place run.number (w.head.fsn % 2 ^ 32) = placed_interleaved base w.offset w.head run.number run.first kind w.first in
      let few = few_of history told n f since.at (counts.kinds n f since.at) in
      let spread = w.spread in
      let below = at_below w.last_offset (Some w.last) history.log w.at_last in
      let below' = at_below n (Some f) history.log since.at in
      let same : run.number ≡ part.number = omega (arith, low, high, first, spread, place_is, few, below) in
      let one : w.head.place ≡ f.place = tells_as history told false id w.offset n w.head f part.number w.at_head since.at kind (counts.kinds n f since.at) (subst (λ (k : ℕ). IsOn history id w.head k) same w.number) named in
      let fsns = w.fsns in
      w.covered n f since.at (sym one)
      (elim (leb_tells w.offset n) [
        | inl e ↦ e.1
        | inr e ↦ absurd
            (let behind = lies_behind queued history.log cut n w.offset f w.head e.1 since.at w.at_head one in
            let some = behind.some in
            let within = behind.few in
            let fsn = behind.fsn in
            let under = at_below w.offset (Some w.head) history.log w.at_head in
            omega (arith, low, high, first, spread, place_is, few, below, same, some, within, fsn, under))
      ])
      (elim (leb_tells n w.last_offset) [
        | inl e ↦ e.1
        | inr e ↦ absurd
            (let behind = lies_behind queued history.log cut w.last_offset n w.last f e.1 w.at_last since.at (sym one ∙ sym w.place) in
            let some = behind.some in
            let within = behind.few in
            let fsn = behind.fsn in
            omega (arith, low, high, first, spread, place_is, few, below', same, some, within, fsn, fsns))
      ])

  -- a part whose TSN is new isn't dropped
  not_dropped : (HasEntry n got → ⊥) → (at : ℕ) → is_held_before at old.ordered part.place ≡ true → ⊥
  not_dropped fresh at e = go (entry_before at old.ordered) refl e
    where
      go : (o : Option RunModel) → entry_before at old.ordered ≡ o → holds_some o part.place ≡ true → ⊥
      go None before h = absurd (cc)
      go (Some run) before h =
          let (low, less) = both (nat_le run.first part.place) (nat_lt (part.place - run.first) (length run.payloads)) h in
          let from : run.first ≤ part.place = grind (arith, nat_tests, low) in
          let to : part.place - run.first < length run.payloads = grind (arith, nat_tests, less) in
          fresh (held_got run (in_before run at old.ordered before) from (omega (arith, from, to)))

  module _ (new : StreamModel) (before after : List MessageContent) (taken : Taken) (fresh : HasEntry n got → ⊥) (from : old.next ≤ part.number) (held : ArePartsHeld history got id old) where
    abbrev Stays : Type 0
    Stays = ArePartsHeld history (n ∷ got) id new

    -- the number of its TSN
    its_number : (m : ℕ) (g : Piece) (number : ℕ) → IsSince history id m g → m ≡ n → g.mid + 2 ^ 32 ≡ history.floors id false + number → (number ≡ part.number) × (g ≡ f)
    its_number m g number is' same counted =
        let two : Some (Some g) ≡ Some (Some f) = sym is'.at ∙ ap (λ (k : ℕ). at_place k history.log) same ∙ since.at in
        let one : g ≡ f = cc in
        let mid = ap (λ (x : Piece). x.mid) one in
        (omega (arith, counted, exact, mid), one)

    kept_stays : IsHeldForMessage new.ordered part.place part.number → ((place number : ℕ) → IsHeldForMessage old.ordered place number → IsHeldForMessage new.ordered place number) → new.next ≡ old.next → new.waiting ≡ old.waiting → Stays
    kept_stays its more next waiting m g is' has number counted up =
        elim has [
          | inl same ↦
              (let (number_is, one) = its_number m g number is' same counted in
              inl
              (subst (λ (x : Piece). IsHeldForMessage new.ordered (fragment_place number (x.fsn % 2 ^ 32)) number) (sym one)
              (subst (λ (k : ℕ). IsHeldForMessage new.ordered (fragment_place k (f.fsn % 2 ^ 32)) k) (sym number_is) (subst (λ (p : ℕ). IsHeldForMessage new.ordered p part.number) place_is its))))
          | inr t ↦ elim (held m g is' t number counted (omega (arith, up, next))) [
            | inl h ↦ inl (more _ _ h)
            | inr w ↦ inr (subst (λ (l : List WholeModel). is_number_waiting number l ≡ true) (sym waiting) w)
          ]
        ]

    whole_stays : (whole : WholeModel) → whole.number ≡ part.number → ((place number : ℕ) → IsHeldForMessage old.ordered place number → IsHeldForMessage new.ordered place number ⊎ (number ≡ part.number))
        → (b : Bool) → new.next ≡ (if b then next_due (next_after old.next whole) old.waiting else old.next)
        → MatchBool b (new.waiting ≡ not_due (next_after old.next whole) old.waiting) (WaitsAmong whole old.waiting new.waiting)
        → Rise old.next new.next (if b then whole ∷ due (next_after old.next whole) old.waiting else []) → Stays
    whole_stays whole of more true next left rise m g is' has number counted up =
        let above : whole.number + 1 ≤ new.next = rise_end (whole.number + 1) new.next (due (next_after old.next whole) old.waiting) rise.1 in
        elim has [
          | inl same ↦ absurd (let number_is = (its_number m g number is' same counted).0 in omega (arith, number_is, above, of, up))
          | inr t ↦ elim (held m g is' t number counted (omega (arith, above, of, up, from))) [
            | inl h ↦ elim (more _ _ h) [
              | inl h' ↦ inl h'
              | inr same ↦ absurd (omega (arith, same, above, of, up))
            ]
            | inr w ↦ elim (due_or_not number (whole.number + 1) (next_after old.next whole) old.waiting (subst (λ (k : ℕ). Rise (whole.number + 1) k (due (next_after old.next whole) old.waiting)) next rise.1) w) [
              | inl less ↦ absurd (omega (arith, less, next, up))
              | inr w' ↦ inr (subst (λ (l : List WholeModel). is_number_waiting number l ≡ true) (sym left) w')
            ]
          ]
        ]
    whole_stays whole of more false next among rise m g is' has number counted up =
        let waits : (whole.number ≡ number) ⊎ (is_number_waiting number old.waiting ≡ true) → is_number_waiting number new.waiting ≡ true =
        λ e. subst (λ (l : List WholeModel). is_number_waiting number l ≡ true) (sym among.waiting) (waits_among number among.at whole old.waiting e) in
        elim has [
          | inl same ↦ inr (waits (inl (of ∙ sym (its_number m g number is' same counted).0)))
          | inr t ↦ elim (held m g is' t number counted (omega (arith, up, next))) [
            | inl h ↦ elim (more _ _ h) [
              | inl h' ↦ inl h'
              | inr same ↦ inr (waits (inl (of ∙ sym same)))
            ]
            | inr w ↦ inr (waits (inr w))
          ]
        ]

    held_stays : (does : TakesOrdered part old before taken new after) → DeliversRow old before new after (ready_with_part old does.outcome) → Stays
    held_stays does row = go does.outcome does.parts does.does row.rising.rise
      where
        go : (outcome : Assembly) → AddsPart part old.ordered outcome new.ordered → OrderedOutcome part old before outcome taken new after → Rise old.next new.next (ready_with_part old outcome) → Stays
        go part_dropped adds does' rise m g is' has number counted up = absurd (not_dropped fresh adds.at adds.adds.0)
        go part_kept adds does' rise m g is' has number counted up =
            let leave : LeavesPartsHeld part old.ordered part_kept new.ordered = parts_leave_held part old.ordered new.ordered part_kept adds in
            kept_stays leave.1 leave.0 does'.0 does'.1 m g is' has number counted up
        go (message_whole whole) adds does' rise m g is' has number counted up =
            let leave : LeavesPartsHeld part old.ordered (message_whole whole) new.ordered = parts_leave_held part old.ordered new.ordered (message_whole whole) adds in
            whole_stays whole (of_message part old.ordered new.ordered (message_whole whole) adds) leave (whole.number == old.next) does'.next does'.waiting rise m g is' has number counted up

  -- a part that comes
  pub parts_taken : (new : StreamModel) (before after : List MessageContent) (taken : Taken) → (HasEntry n got → ⊥) → old.next ≤ part.number → HoldsParts history got id old
      → (does : TakesOrdered part old before taken new after) → DeliversRow old before new after (ready_with_part old does.outcome) → HoldsParts history (n ∷ got) id new
  parts_taken new before after taken fresh from p does row =
      record {
        apart = parts_lie_apart part old.ordered new.ordered does.outcome does.parts p.apart;
        held = held_stays new before after taken fresh from p.held does row;
      }

-- ---- the rest

-- another TSN, which is of no message that is still to be read
pub parts_else : (history : History) (got : List ℕ) (id : ℕ) (stream : StreamModel) (offset : ℕ)
    → ((f : Piece) → IsSince history id offset f → (number : ℕ) → f.mid + 2 ^ 32 ≡ history.floors id false + number → stream.next ≤ number → ⊥)
    → HoldsParts history got id stream → HoldsParts history (offset ∷ got) id stream
parts_else history got id stream offset none p =
    record {
      apart = p.apart;
      held = λ n f is has number counted up. elim has [
        | inl same ↦ absurd (none f (record { at = ap (λ (k : ℕ). at_place k history.log) (sym same) ∙ is.at; stream = is.stream; ordered = is.ordered; current = is.current }) number counted up)
        | inr t ↦ p.held n f is t number counted up
      ];
    }

pub parts_alike : (history : History) (got : List ℕ) (id : ℕ) (old new : StreamModel) → new.next ≡ old.next → new.waiting ≡ old.waiting → new.ordered ≡ old.ordered → HoldsParts history got id old → HoldsParts history got id new
parts_alike history got id old new next waiting ordered p =
    record {
      apart = subst (λ (l : List RunModel). LieApart 0 l) (sym ordered) p.apart;
      held = λ n f is has number counted up. elim (p.held n f is has number counted (omega (arith, up, next))) [
        | inl h ↦ inl (subst (λ (l : List RunModel). IsHeldForMessage l (fragment_place number (f.fsn % 2 ^ 32)) number) (sym ordered) h)
        | inr w ↦ inr (subst (λ (l : List WholeModel). is_number_waiting number l ≡ true) (sym waiting) w)
      ];
    }

-- nothing of the stream was handled since its last reset
pub parts_anew : (history : History) (got : List ℕ) (id : ℕ) → ((n : ℕ) (f : Piece) → IsSince history id n f → HasEntry n got → ⊥) → HoldsParts history got id (new_stream id)
parts_anew history got id none = record { apart = tt; held = λ n f is has. absurd (none n f is has) }

-- nothing is sent on it
apart_none : (runs : List RunModel) → ((run : RunModel) → HasEntry run runs → ⊥) → LieApart 0 runs
apart_none [] none = tt
apart_none (run ∷ runs) none = absurd (none run (inl refl))

pub parts_none : (history : History) (got : List ℕ) (base : ℕ → ℕ) (id : ℕ) (stream : StreamModel) → AreRows history.log got base (IsOn history id) stream.ordered → ((n : ℕ) (f : Piece) → at_place n history.log ≡ Some (Some f) → f.message.stream ≡ id → ⊥)
    → HoldsParts history got id stream
parts_none history got base id stream rows none =
    record {
      apart = apart_none stream.ordered (λ run has. (let w = row_in history.log got base (IsOn history id) run stream.ordered rows has in none w.offset w.head w.at_head w.number.0));
      held = λ n f is. absurd (none n f is.at is.stream);
    }

-- the floor of the stream stays
pub parts_floors : (history : History) (floors : ℕ → Bool → ℕ) (got : List ℕ) (id : ℕ) (stream : StreamModel) → ((b : Bool) → floors id b ≡ history.floors id b) → HoldsPartsOf history false got id stream
    → HoldsPartsOf (record history { floors = floors }) false got id stream
parts_floors history floors got id stream same p loud =
    let before = p refl in
    let low = same false in
    record {
      apart = before.apart;
      held = λ n f is has number counted up. before.held n f (record { at = is.at; stream = is.stream; ordered = is.ordered; current = was n f is }) has number (omega (arith, counted, low)) up;
    }
  where
    was : (n : ℕ) (f : Piece) → IsSince (record history { floors = floors }) id n f → history.floors f.message.stream f.message.is_unordered ≤ f.mid
    was n f is =
        subst (λ (k : ℕ). k ≤ f.mid) (ap (λ (k : ℕ). floors k f.message.is_unordered) is.stream ∙ same f.message.is_unordered ∙ ap (λ (k : ℕ). history.floors k f.message.is_unordered) (sym is.stream)) is.current

-- more is sent
pub parts_grown : (history later : History) (got : List ℕ) (id : ℕ) (stream : StreamModel) → ((n : ℕ) (slot : Slot) → at_place n history.log ≡ Some slot → at_place n later.log ≡ Some slot) → later.floors ≡ history.floors
    → ((n : ℕ) → HasEntry n got → n < length history.log) → HoldsParts history got id stream → HoldsParts later got id stream
parts_grown history later got id stream stays floors within before =
    let same : later.floors id false ≡ history.floors id false = ap (λ (k : ℕ → Bool → ℕ). k id false) floors in
    record {
      apart = before.apart;
      held = λ n f is has number counted up. before.held n f (was n f is (within n has)) has number (omega (arith, counted, same)) up;
    }
  where
    was : (n : ℕ) (f : Piece) → IsSince later id n f → n < length history.log → IsSince history id n f
    was n f is below =
        let (slot, at) = at_some n history.log below in
        let two : Some slot ≡ Some (Some f) = sym (stays n slot at) ∙ is.at in
        record { at = at ∙ two; stream = is.stream; ordered = is.ordered; current = subst (λ (k : ℕ → Bool → ℕ). k f.message.stream f.message.is_unordered ≤ f.mid) floors is.current }
