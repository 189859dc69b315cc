-- What is held of a stream once messages were skipped, and what becomes ready then: each message that is whole.
use Rattle.std.proofs.Common.{◌≡◌, ◌==◌, ℕ, Bool, true, false, ◌<◌, ◌≤◌, ◌+◌, ◌^◌, List, [], ◌∷◌, refl, sym, ◌∙◌, ap, arith, subst, inl, inr}
use Rattle.std.specs.Prelude.{◌⊎◌, ◌&&◌, ◌||◌, nat_le, not, if◌then◌else◌}
use Rattle.std.specs.List.{filter}
use Rattle.std.proofs.lemmas.Bool.Decides.{eqb_tells, leb_tells}
use Rattle.dcsctp_spec_lemmas.specs.spec.queues.Runs.{RunModel, WholeModel}
use Rattle.dcsctp_spec_lemmas.specs.spec.queues.IncomingStreams.{StreamModel, next_after, due, not_due, next_due, next_past, runs_behind, is_number_waiting}
use Rattle.dcsctp_delivery_directions.specs.sending.Places.{HasEntry}
use Rattle.dcsctp_delivery_directions.specs.sending.Log.{History}
use Rattle.dcsctp_delivery_directions.specs.order.Order.{IsReadAs, AreReadAs, HasNumber}
use Rattle.dcsctp_delivery_directions.specs.order.Parts.{HoldsParts}
use Rattle.dcsctp_delivery_directions.specs.order.Rising.{Rise, AscendFrom}
use Rattle.dcsctp_delivery_directions.specs.order.Runs.{place_after, is_continued, NoneContinues, LieApart}
use Rattle.dcsctp_delivery_directions.proofs.order.PlainHeld.{due_or_not}

-- ---- runs that are left lie apart

apart_from : (a b : ℕ) (runs : List RunModel) → a ≤ b → LieApart b runs → LieApart a runs
apart_from a b [] low apart = tt
apart_from a b (run ∷ runs) low apart = ((let from = apart.0 in omega (arith, low, from)), apart.1, apart.2, apart.3, apart.4)

module _ (test : RunModel → Bool) where
  -- a run that begins later doesn't continue it
  none_far : (run : RunModel) (from : ℕ) (runs : List RunModel) → place_after run < from → LieApart from runs → NoneContinues run (filter test runs)
  none_far run from [] low apart = tt
  none_far run from (next ∷ runs) low apart = go (test next) (none_far run (place_after next) runs (let at = apart.0 in let some = apart.1 in omega (arith, low, at, some)) apart.4)
    where
      not_next : is_continued run next ≡ false
      not_next = elim (eqb_tells next.first (place_after run)) [
        | inl e ↦ absurd (let same = e.1 in let at = apart.0 in omega (arith, same, at, low))
        | inr e ↦ ap (λ (b : Bool). b && (run.number == next.number) && not run.has_end && not next.has_beginning) e.0
      ]

      go : (b : Bool) → NoneContinues run (filter test runs) → NoneContinues run (if b then next ∷ filter test runs else filter test runs)
      go true rest = not_next
      go false rest = rest

  none_left_continues : (run : RunModel) (runs : List RunModel) → NoneContinues run runs → LieApart (place_after run) runs → NoneContinues run (filter test runs)
  none_left_continues run [] none apart = tt
  none_left_continues run (next ∷ runs) none apart = go (test next) (none_far run (place_after next) runs (let at = apart.0 in let some = apart.1 in omega (arith, at, some)) apart.4)
    where
      go : (b : Bool) → NoneContinues run (filter test runs) → NoneContinues run (if b then next ∷ filter test runs else filter test runs)
      go true rest = none
      go false rest = rest

  pub left_apart : (from : ℕ) (runs : List RunModel) → LieApart from runs → LieApart from (filter test runs)
  left_apart from [] apart = tt
  left_apart from (run ∷ runs) apart = go (test run) (left_apart (place_after run) runs apart.4)
    where
      go : (b : Bool) → LieApart (place_after run) (filter test runs) → LieApart from (if b then run ∷ filter test runs else filter test runs)
      go true rest = (apart.0, apart.1, apart.2, none_left_continues run runs apart.3 apart.4, rest)
      go false rest = apart_from from (place_after run) (filter test runs) (let at = apart.0 in omega (arith, at)) rest

  pub left_has : (run : RunModel) (runs : List RunModel) → test run ≡ true → HasEntry run runs → HasEntry run (filter test runs)
  left_has run [] is has = absurd has
  left_has run (first ∷ runs) is has = go (test first) refl (λ later. left_has run runs is later)
    where
      go : (b : Bool) → test first ≡ b → (HasEntry run runs → HasEntry run (filter test runs)) → HasEntry run (if b then first ∷ filter test runs else filter test runs)
      go true its others = elim has [ inl e ↦ inl e | inr t ↦ inr (others t) ]
      go false its others = elim has [
        | inl e ↦ absurd (let clash : true ≡ false = sym is ∙ ap test e ∙ its in cc)
        | inr t ↦ others t
      ]

-- ---- what is due

-- The next number only rises.
pub due_up : (from next : ℕ) (waiting : List WholeModel) → AscendFrom from waiting → next ≤ next_due next waiting
due_up from next [] up = omega arith
due_up from next (w ∷ waiting) up = go (nat_le w.number next) (due_up (w.number + 1) (next_after next w) waiting up.2)
  where
    after : next ≤ next_after next w
    after = elim (eqb_tells w.number next) [
      | inl e ↦ rw e.0 (let is : w.number ≡ next = e.1 in let small = up.1 in omega (arith, is, small))
      | inr e ↦ rw e.0 (omega arith)
    ]

    go : (b : Bool) → next_after next w ≤ next_due (next_after next w) waiting → next ≤ (if b then next_due (next_after next w) waiting else next)
    go true rest = (let low = after in omega (arith, rest, low))
    go false rest = omega arith

-- A message that waits is due if its number isn't above the next one.
pub due_contains : (history : History) (id from next number : ℕ) (places : List ℕ) (waiting : List WholeModel) → AscendFrom from waiting → AreReadAs history id places (due next waiting) → is_number_waiting number waiting ≡ true → number ≤ next
    → HasNumber history id places number
due_contains history id from next number places [] up are waits low = absurd (cc)
due_contains history id from next number places (w ∷ waiting) up are waits low = by_due (nat_le w.number next) refl are (λ later are' e low'. due_contains history id (w.number + 1) (next_after next w) number later waiting up.2 are' e low')
  where
    after : next ≤ next_after next w
    after = elim (eqb_tells w.number next) [
      | inl e ↦ rw e.0 (let is : w.number ≡ next = e.1 in let small = up.1 in omega (arith, is, small))
      | inr e ↦ rw e.0 (omega arith)
    ]

    either : (b : Bool) → (w.number == number) ≡ b → (b || is_number_waiting number waiting) ≡ true → (w.number ≡ number) ⊎ (is_number_waiting number waiting ≡ true)
    either true is e = inl (elim (eqb_tells w.number number) [ inl e' ↦ e'.1 | inr e' ↦ absurd (let clash : true ≡ false = sym is ∙ e'.0 in cc) ])
    either false is e = inr e

    -- one that waits after it has a higher number
    above : (from' : ℕ) (later : List WholeModel) → AscendFrom from' later → is_number_waiting number later ≡ true → from' ≤ number
    above from' [] ascend e = absurd (cc)
    above from' (v ∷ later) ascend e = elim (eqb_tells v.number number) [
      | inl e' ↦ (let is = e'.1 in let at = ascend.0 in omega (arith, is, at))
      | inr e' ↦ (let rest = above (v.number + 1) later ascend.2 (rw e'.0 at e) in let at = ascend.0 in omega (arith, rest, at))
    ]

    its : (w.number ≡ number) ⊎ (is_number_waiting number waiting ≡ true)
    its = either (w.number == number) refl waits

    below : w.number ≤ next
    below = elim its [
      | inl is ↦ omega (arith, is, low)
      | inr e ↦ (let up' = above (w.number + 1) waiting up.2 e in omega (arith, up', low))
    ]

    Again : Type 0
    Again = (later : List ℕ) → AreReadAs history id later (due (next_after next w) waiting) → is_number_waiting number waiting ≡ true → number ≤ next_after next w → HasNumber history id later number

    by_due : (b : Bool) → nat_le w.number next ≡ b → AreReadAs history id places (if b then w ∷ due (next_after next w) waiting else []) → Again → HasNumber history id places number
    by_due false is are' again = absurd (let no = below in let clash : true ≡ false = sym (elim (leb_tells w.number next) [ inl e ↦ e.0 | inr e ↦ absurd (let less = e.1 in omega (arith, less, no)) ]) ∙ is in cc)
    by_due true is are' again = first places are' (λ later are''. elim its [
      | inl same ↦ inl same
      | inr e ↦ inr (again later are'' e (let low' = after in omega (arith, low, low')))
    ])
      where
        first : (places : List ℕ) → AreReadAs history id places (w ∷ due (next_after next w) waiting) → ((later : List ℕ) → AreReadAs history id later (due (next_after next w) waiting) → (w.number ≡ number) ⊎ HasNumber history id later number)
            → HasNumber history id places number
        first [] are'' others = absurd are''
        first (p ∷ later) are'' others = elim (others later are''.1) [
          | inl same ↦ record { place = p; has = inl refl; is = subst (λ (k : ℕ). IsReadAs history id p k) same are''.0 }
          | inr found ↦ record { place = found.place; has = inr found.has; is = found.is }
        ]

-- ---- what is held then

pub parts_skipped : (history : History) (got : List ℕ) (id last : ℕ) (stream new : StreamModel) → last + 1 < 2 ^ 64 → new.ordered ≡ runs_behind last stream.ordered → new.waiting ≡ not_due (next_past last stream.next) stream.waiting
    → new.next ≡ next_due (next_past last stream.next) stream.waiting → AscendFrom (stream.next + 1) stream.waiting → Rise stream.next new.next (due (next_past last stream.next) stream.waiting)
    → HoldsParts history got id stream → HoldsParts history got id new
parts_skipped history got id last stream new small runs left next up rise p =
    record {
      apart = subst (λ (l : List RunModel). LieApart 0 l) (sym runs) (left_apart (λ run. not (nat_le run.number last)) 0 stream.ordered p.apart);
      held = λ n f is has number counted high. (
          let past = due_up (stream.next + 1) (next_past last stream.next) stream.waiting up in
          let above : last < number = omega (arith, past, next, high, small) in
          let before : stream.next ≤ number = omega (arith, past, next, high) in
          elim (p.held n f is has number counted before) [
            | inl h ↦ inl (record {
              run = h.run;
              has = subst (λ (l : List RunModel). HasEntry h.run l) (sym runs) (left_has (λ run. not (nat_le run.number last)) h.run stream.ordered (kept h.run.number number h.message above) h.has);
              from = h.from;
              to = h.to;
              message = h.message;
            })
            | inr w ↦ elim (due_or_not number stream.next (next_past last stream.next) stream.waiting (subst (λ (k : ℕ). Rise stream.next k (due (next_past last stream.next) stream.waiting)) next rise) w) [
              | inl less ↦ absurd (omega (arith, less, next, high))
              | inr w' ↦ inr (subst (λ (l : List WholeModel). is_number_waiting number l ≡ true) (sym left) w')
            ]
          ]
          );
    }
  where
    kept : (its number : ℕ) → its ≡ number → last < number → not (nat_le its last) ≡ true
    kept its number same above = elim (leb_tells its last) [
      | inl e ↦ absurd (let low = e.1 in omega (arith, low, same, above))
      | inr e ↦ ap not e.0
    ]
