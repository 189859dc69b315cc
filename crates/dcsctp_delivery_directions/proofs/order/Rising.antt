-- What is delivered on a stream has rising numbers.
use Rattle.std.proofs.Common.{◌≡◌, ◌==◌, ℕ, zero, suc, Bool, true, false, ◌<◌, ◌≤◌, ◌+◌, ◌-◌, ◌^◌, List, [], ◌∷◌, ◌++◌, length, take, drop, map, refl, sym, ◌∙◌, ap, arith, subst, inl, inr}
use Rattle.std.specs.Prelude.{◌||◌, MatchBool, slice_get, if◌then◌else◌}
use Rattle.std.proofs.lemmas.Bool.Decides.{eqb_tells, leb_tells}
use Rattle.std.proofs.lemmas.List.{append-nil}
use Rattle.dcsctp_spec_lemmas.specs.types.queues.Messages.{MessageContent}
use Rattle.dcsctp_spec_lemmas.specs.types.declared.arrivals.SkippedTo.{SkippedTo}
use Rattle.dcsctp_spec_lemmas.specs.types.declared.arrivals.SkippedTo.TheVariants.{Ssn, Mid}
use Rattle.dcsctp_spec_lemmas.specs.types.declared.arrivals.Taken.{Taken}
use Rattle.dcsctp_spec_lemmas.specs.spec.queues.Numbers.{number_near, short_number_near}
use Rattle.dcsctp_spec_lemmas.specs.spec.queues.Runs.{PartModel, WholeModel, Assembly, part_dropped, part_kept, message_whole}
use Rattle.dcsctp_spec_lemmas.specs.spec.queues.IncomingStreams.{StreamModel, delivered_as, next_after, due, not_due, next_due, next_past, ready_with, is_number_waiting, IsNumberPlace, IsNumberedBelow, WaitsAmong, TakesWhole, OrderedOutcome, TakesOrdered, stream_after_skip, skip_deliveries}
use Rattle.dcsctp_delivery_directions.proofs.receiving.SpentRows.{of_message, IsOfMessage}
use Rattle.dcsctp_delivery_directions.specs.order.Rising.{Rise, FillRow, AscendFrom, WaitsForNext, DeliversRising, DeliversRow, ready_with_part, IsAhead, ready_past, StreamRun, begins, takes, passes, stays}

-- ---- lists of messages

pub rise_joined : (from between end : ℕ) (wholes more : List WholeModel) → Rise from between wholes → Rise between end more → Rise from end (wholes ++ more)
rise_joined from between end [] [] up more = omega (arith, up, more)
rise_joined from between end [] (w ∷ more) up rest = (omega (arith, up, rest.0), rest.1)
rise_joined from between end (w ∷ wholes) more up rest = (up.0, rise_joined (w.number + 1) between end wholes more up.1 rest)

row_joined : (from between end : ℕ) (wholes more : List WholeModel) → FillRow from between wholes → FillRow between end more → FillRow from end (wholes ++ more)
row_joined from between end [] more is rest = subst (λ (k : ℕ). FillRow k end more) (sym is) rest
row_joined from between end (w ∷ wholes) more is rest = (is.0, row_joined (from + 1) between end wholes more is.1 rest)

pub row_rises : (from end : ℕ) (wholes : List WholeModel) → FillRow from end wholes → Rise from end wholes
row_rises from end [] is = omega (arith, is)
row_rises from end (w ∷ wholes) is = (omega (arith, is.0), subst (λ (k : ℕ). Rise (k + 1) end wholes) (sym is.0) (row_rises (from + 1) end wholes is.1))

ascend_less : (from low : ℕ) (waiting : List WholeModel) → low ≤ from → AscendFrom from waiting → AscendFrom low waiting
ascend_less from low [] less up = tt
ascend_less from low (w ∷ waiting) less up = ((let first = up.0 in omega (arith, first, less)), up.1, up.2)

-- ---- what is due

after_it : (next : ℕ) (w : WholeModel) → w.number ≤ next → w.number + 1 < 2 ^ 64 → w.number + 1 ≤ next_after next w
after_it next w up small = elim (eqb_tells w.number next) [
  | inl e ↦ rw e.0 (omega (arith, e.1, small))
  | inr e ↦ rw e.0 (let ne : w.number ≡ next → ⊥ = e.1 in omega (arith, up, ne))
]

pub due_rises : (from next : ℕ) (waiting : List WholeModel) → from ≤ next → AscendFrom from waiting → Rise from (next_due next waiting) (due next waiting) × AscendFrom (next_due next waiting + 1) (not_due next waiting)
due_rises from next [] low up = (low, tt)
due_rises from next (w ∷ waiting) low up =
    elim (leb_tells w.number next) [
      | inl e ↦
          (let rest = due_rises (w.number + 1) (next_after next w) waiting (after_it next w e.1 up.1) up.2 in
          rw e.0 ((up.0, rest.0), rest.1))
      | inr e ↦ rw e.0 (low, ((let beyond : next < w.number = e.1 in omega (arith, beyond)), up.1, up.2))
    ]

due_fills : (next : ℕ) (waiting : List WholeModel) → AscendFrom next waiting → FillRow next (next_due next waiting) (due next waiting)
due_fills next [] up = refl
due_fills next (w ∷ waiting) up =
    elim (leb_tells w.number next) [
      | inl e ↦
          (let same : w.number ≡ next = (let low = up.0 in let high : w.number ≤ next = e.1 in omega (arith, low, high)) in
          let after : next_after next w ≡ next + 1 = elim (eqb_tells w.number next) [ inl e' ↦ rw e'.0 (let small = up.1 in omega (arith, same, small)) | inr e' ↦ absurd (e'.1 same) ] in
          let rest : FillRow (next + 1) (next_due (next + 1) waiting) (due (next + 1) waiting) = due_fills (next + 1) waiting (subst (λ (k : ℕ). AscendFrom (k + 1) waiting) same up.2) in
          rw e.0 (same, subst (λ (k : ℕ). FillRow (next + 1) (next_due k waiting) (due k waiting)) (sym after) rest))
      | inr e ↦ rw e.0 refl
    ]

-- ---- one that waits among others

neither : (a b : Bool) → (a || b) ≡ false → (a ≡ false) × (b ≡ false)
neither true b e = absurd (cc)
neither false b e = (refl, e)

first_below : (from number k : ℕ) (waiting : List WholeModel) → k < length waiting → AscendFrom from waiting → IsNumberedBelow number (slice_get waiting k) → from < number
first_below from number k [] within up below = absurd (omega (arith, within))
first_below from number zero (w ∷ waiting) within up below = (let low = up.0 in omega (arith, low, below))
first_below from number (suc k) (w ∷ waiting) within up below = (let low = up.0 in let more = first_below (w.number + 1) number k waiting (omega (arith, within)) up.2 below in omega (arith, low, more))

ascend_with : (from at : ℕ) (whole : WholeModel) (waiting : List WholeModel) → AscendFrom from waiting → from ≤ whole.number → whole.number + 1 < 2 ^ 64 → is_number_waiting whole.number waiting ≡ false → IsNumberPlace at whole.number waiting
    → AscendFrom from (take at waiting ++ whole ∷ drop at waiting)
ascend_with from zero whole [] up low small fresh place = (low, small, tt)
ascend_with from zero whole (w ∷ waiting) up low small fresh place =
    let other = (neither (w.number == whole.number) (is_number_waiting whole.number waiting) fresh).0 in (
      low,
      small,
      (
        elim (eqb_tells w.number whole.number) [
          | inl e ↦ absurd (let clash : true ≡ false = sym e.0 ∙ other in cc)
          | inr e ↦ (let ne : w.number ≡ whole.number → ⊥ = e.1 in let behind : whole.number ≤ w.number = place.behind in omega (arith, ne, behind))
        ],
        up.1,
        up.2,
      ),
    )
ascend_with from (suc k) whole [] up low small fresh place = absurd (let within = place.within in omega (arith, within))
ascend_with from (suc k) whole (w ∷ waiting) up low small fresh place =
    let here : suc k - 1 ≡ k = omega arith in
    let before : IsNumberedBelow whole.number (slice_get (w ∷ waiting) k) = subst (λ (n : ℕ). IsNumberedBelow whole.number (slice_get (w ∷ waiting) n)) here (place.before (omega arith)) in
    let within : k ≤ length waiting = (let inside = place.within in omega (arith, inside)) in (
      up.0,
      up.1,
      ascend_with (w.number + 1) k whole waiting up.2 (above k within before) small (neither (w.number == whole.number) (is_number_waiting whole.number waiting) fresh).1
          (record { within = within; before = later k before; behind = place.behind }),
    )
  where
    above : (k : ℕ) → k ≤ length waiting → IsNumberedBelow whole.number (slice_get (w ∷ waiting) k) → w.number + 1 ≤ whole.number
    above zero within before = omega (arith, before)
    above (suc j) within before = (let more = first_below (w.number + 1) whole.number j waiting (omega (arith, within)) up.2 before in omega (arith, more))

    later : (k : ℕ) → IsNumberedBelow whole.number (slice_get (w ∷ waiting) k) → 0 < k → IsNumberedBelow whole.number (slice_get waiting (k - 1))
    later zero before some = absurd (omega (arith, some))
    later (suc j) before some = (let here : suc j - 1 ≡ j = omega arith in subst (λ (n : ℕ). IsNumberedBelow whole.number (slice_get waiting n)) (sym here) before)

-- ---- a part of an ordered message

module _ (old : StreamModel) (before : List MessageContent) (waits : WaitsForNext old) where
  nothing_ready : (new : StreamModel) (after : List MessageContent) → new.id ≡ old.id → new.next ≡ old.next → new.waiting ≡ old.waiting → after ≡ before → DeliversRow old before new after []
  nothing_ready new after id next waiting same =
      record {
        rising = record {
          is = same ∙ sym (append-nil before);
          rise = omega (arith, next);
          waits = subst (λ (k : ℕ). AscendFrom (k + 1) new.waiting) (sym next) (subst (λ (l : List WholeModel). AscendFrom (old.next + 1) l) (sym waiting) waits);
          id = id;
        };
        row = sym next;
      }

  whole_ready : (whole : WholeModel) (size : ℕ) (taken : Taken) (new : StreamModel) (after : List MessageContent) → new.id ≡ old.id → old.next ≤ whole.number → whole.number + 1 < 2 ^ 64 → is_number_waiting whole.number old.waiting ≡ false
      → TakesWhole whole old before size taken new after → DeliversRow old before new after (ready_with_part old (message_whole whole))
  whole_ready whole size taken new after id low small fresh t =
      elim (eqb_tells whole.number old.next) [
        | inl e ↦ go (whole.number == old.next) (λ is. e.1) (λ is. absurd (let clash : true ≡ false = sym e.0 ∙ is in cc)) t.ready t.next t.waiting
        | inr e ↦ go (whole.number == old.next) (λ is. absurd (let clash : true ≡ false = sym is ∙ e.0 in cc)) (λ is. e.1) t.ready t.next t.waiting
      ]
    where
      go : (b : Bool) → (b ≡ true → whole.number ≡ old.next) → (b ≡ false → whole.number ≡ old.next → ⊥)
          → after ≡ (if b then before ++ ready_with old whole else before) → new.next ≡ (if b then next_due (next_after old.next whole) old.waiting else old.next)
          → MatchBool b (new.waiting ≡ not_due (next_after old.next whole) old.waiting) (WaitsAmong whole old.waiting new.waiting)
          → DeliversRow old before new after (if b then whole ∷ due (next_after old.next whole) old.waiting else [])
      go true same other ready next left =
          let is : whole.number ≡ old.next = same refl in
          let then_next : next_after old.next whole ≡ old.next + 1 = elim (eqb_tells whole.number old.next) [ inl e ↦ rw e.0 (omega (arith, is, small)) | inr e ↦ absurd (e.1 is) ] in
          let ascends : AscendFrom (next_after old.next whole) old.waiting = subst (λ (k : ℕ). AscendFrom k old.waiting) (sym then_next) waits in
          let fills : FillRow (next_after old.next whole) (next_due (next_after old.next whole) old.waiting) (due (next_after old.next whole) old.waiting) = due_fills (next_after old.next whole) old.waiting ascends in
          let row : FillRow old.next new.next (whole ∷ due (next_after old.next whole) old.waiting) =
          (is, subst (λ (k : ℕ). FillRow (old.next + 1) k (due (next_after old.next whole) old.waiting)) (sym next) (subst (λ (k : ℕ). FillRow k (next_due (next_after old.next whole) old.waiting) (due (next_after old.next whole) old.waiting)) then_next fills)) in
          let left_waits = (due_rises (next_after old.next whole) (next_after old.next whole) old.waiting (omega arith) ascends).1 in
          record {
            rising = record {
              is = ready;
              rise = row_rises old.next new.next (whole ∷ due (next_after old.next whole) old.waiting) row;
              waits = subst (λ (k : ℕ). AscendFrom (k + 1) new.waiting) (sym next) (subst (λ (l : List WholeModel). AscendFrom (next_due (next_after old.next whole) old.waiting + 1) l) (sym left) left_waits);
              id = id;
            };
            row = row;
          }
      go false same other ready next among =
          record {
            rising = record {
              is = ready ∙ sym (append-nil before);
              rise = omega (arith, next);
              waits = subst (λ (k : ℕ). AscendFrom (k + 1) new.waiting) (sym next)
                  (subst (λ (l : List WholeModel). AscendFrom (old.next + 1) l) (sym among.waiting)
                  (ascend_with (old.next + 1) among.at whole old.waiting waits (let ne = other refl in omega (arith, low, ne)) small fresh among.turn));
              id = id;
            };
            row = sym next;
          }

  by_outcome : (part : PartModel) (taken : Taken) (new : StreamModel) (after : List MessageContent) (outcome : Assembly) → IsAhead part old → new.id ≡ old.id → IsOfMessage part.number outcome → OrderedOutcome part old before outcome taken new after
      → DeliversRow old before new after (ready_with_part old outcome)
  by_outcome part taken new after part_dropped ahead id of does = nothing_ready new after id (ap (λ (s : StreamModel). s.next) does.0) (ap (λ (s : StreamModel). s.waiting) does.0) does.1
  by_outcome part taken new after part_kept ahead id of does = nothing_ready new after id does.0 does.1 does.2
  by_outcome part taken new after (message_whole whole) ahead id of does =
      let from = ahead.from in
      let counted = ahead.counted in
      whole_ready whole (length part.payload) taken new after id (omega (arith, of, from)) (omega (arith, of, counted)) (ap (λ (k : ℕ). is_number_waiting k old.waiting) of ∙ ahead.fresh) does

pub parts_deliver_rows : (part : PartModel) (old : StreamModel) (before : List MessageContent) (taken : Taken) (new : StreamModel) (after : List MessageContent) → WaitsForNext old → IsAhead part old
    → (does : TakesOrdered part old before taken new after) → DeliversRow old before new after (ready_with_part old does.outcome)
parts_deliver_rows part old before taken new after waits ahead does =
    by_outcome old before waits part taken new after does.outcome ahead does.id (of_message part old.ordered new.ordered does.outcome does.parts) does.does

-- ---- messages that are skipped

forward : (number next : ℕ) → next ≤ next_past number next
forward number next = omega arith

passed : (next : ℕ) (old later : StreamModel) (before : List MessageContent) → WaitsForNext old → old.next ≤ next → later.id ≡ old.id → later.next ≡ next_due next old.waiting → later.waiting ≡ not_due next old.waiting
    → DeliversRising old before later (before ++ map (delivered_as old.id) (due next old.waiting)) (due next old.waiting)
passed next old later before waits up id next_is waiting_is =
    let rises = due_rises old.next next old.waiting up (ascend_less (old.next + 1) old.next old.waiting (omega arith) waits) in
    record {
      is = refl;
      rise = subst (λ (k : ℕ). Rise old.next k (due next old.waiting)) (sym next_is) rises.0;
      waits = subst (λ (k : ℕ). AscendFrom (k + 1) later.waiting) (sym next_is) (subst (λ (l : List WholeModel). AscendFrom (next_due next old.waiting + 1) l) (sym waiting_is) rises.1);
      id = id;
    }

pub skips_deliver_rising : (entry : SkippedTo) (old : StreamModel) (before : List MessageContent) → WaitsForNext old → DeliversRising old before (stream_after_skip entry old) (before ++ skip_deliveries entry old) (ready_past entry old)
skips_deliver_rising (Ssn id ssn) old before waits = passed (next_past (short_number_near old.next ssn) old.next) old (stream_after_skip (Ssn id ssn) old) before waits (forward (short_number_near old.next ssn) old.next) refl refl refl
skips_deliver_rising (Mid id false mid) old before waits = passed (next_past (number_near old.next mid) old.next) old (stream_after_skip (Mid id false mid) old) before waits (forward (number_near old.next mid) old.next) refl refl refl
skips_deliver_rising (Mid id true mid) old before waits = record { is = refl; rise = omega arith; waits = waits; id = refl }

-- ---- a stream since its last reset

pub streams_deliver_rising : (id : ℕ) (skips : Bool) (stream : StreamModel) (delivered : List WholeModel) → StreamRun id skips stream delivered → Rise (2 ^ 32) stream.next delivered × WaitsForNext stream
streams_deliver_rising id _ _ _ begins = (omega arith, tt)
streams_deliver_rising id skips _ _ (takes part _ old before taken new after delivered run ahead does) =
    let earlier = streams_deliver_rising id skips old delivered run in
    let now = parts_deliver_rows part old before taken new after earlier.1 ahead does in
    (rise_joined (2 ^ 32) old.next new.next delivered (ready_with_part old does.outcome) earlier.0 now.rising.rise, now.rising.waits)
streams_deliver_rising id _ _ _ (passes entry skips old delivered run) =
    let earlier = streams_deliver_rising id skips old delivered run in
    let now = skips_deliver_rising entry old [] earlier.1 in
    (rise_joined (2 ^ 32) old.next (stream_after_skip entry old).next delivered (ready_past entry old) earlier.0 now.rise, now.waits)
streams_deliver_rising id skips _ _ (stays _ old new delivered run same next waiting) =
    let earlier = streams_deliver_rising id skips old delivered run in (
      subst (λ (k : ℕ). Rise (2 ^ 32) k delivered) (sym next) earlier.0,
      subst (λ (k : ℕ). AscendFrom (k + 1) new.waiting) (sym next) (subst (λ (l : List WholeModel). AscendFrom (old.next + 1) l) (sym waiting) earlier.1),
    )

pub streams_deliver_rows : (id : ℕ) (stream : StreamModel) (delivered : List WholeModel) → StreamRun id false stream delivered → FillRow (2 ^ 32) stream.next delivered
streams_deliver_rows id _ _ begins = refl
streams_deliver_rows id _ _ (takes part _ old before taken new after delivered run ahead does) =
    let earlier = streams_deliver_rising id false old delivered run in
    let now = parts_deliver_rows part old before taken new after earlier.1 ahead does in
    row_joined (2 ^ 32) old.next new.next delivered (ready_with_part old does.outcome) (streams_deliver_rows id old delivered run) now.row
streams_deliver_rows id _ _ (stays _ old new delivered run same next waiting) = subst (λ (k : ℕ). FillRow (2 ^ 32) k delivered) (sym next) (streams_deliver_rows id old delivered run)
