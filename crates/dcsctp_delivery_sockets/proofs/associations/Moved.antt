-- The end of the sender under one tag moves to another one: what was sent to a peer that never had the
-- association goes to the peer that takes its place (RFC 9260, section 5.2.4, action B).
use Rattle.std.proofs.Common.{◌≡◌, ◌≢◌, ℕ, ◌≤◌, Some, List, [], length, refl, sym, ◌∙◌, ap, arith, subst, inl, inr}
use Rattle.std.specs.Prelude.{◌⊎◌}
use Rattle.dcsctp_delivery_directions.specs.sending.Places.{at_place, table_with}
use Rattle.dcsctp_delivery_directions.specs.sending.Log.{Message}
use Rattle.dcsctp_delivery_directions.specs.sending.Marking.{FindsMarked}
use Rattle.dcsctp_delivery_directions.proofs.sending.Places.{decide, set_same, set_other}
use Rattle.dcsctp_delivery_sockets.specs.associations.Ends.{SendingEnd, MarksLeft}
use Rattle.dcsctp_delivery_sockets.proofs.associations.Growing.{set_all}

-- `moved` is the end under the tag `from`, later; under that tag an end is left that has nothing.
module _ (sends : ℕ → SendingEnd) (from to : ℕ) (moved empty : SendingEnd) (other : to ≢ from) (same : moved.queued ≡ (sends from).queued) (none : empty.queued ≡ []) where
  abbrev pub moved_sends : ℕ → SendingEnd
  moved_sends = table_with to moved (table_with from empty sends)

  -- What holds of the two, and of each other end, holds of all.
  pub moved_all : (P : ℕ → SendingEnd → Type 0) → P to moved → P from empty → ((tag : ℕ) → tag ≢ to → tag ≢ from → P tag (sends tag)) → (tag : ℕ) → P tag (moved_sends tag)
  moved_all P here left others =
      set_all P to moved (table_with from empty sends) here
      (λ tag ne. set_all (λ t s. t ≢ to → P t s) from empty sends (λ apart. left) (λ t ne' apart. others t apart ne') tag ne)

  empty_left : (queued : List Message) → MarksLeft empty queued
  empty_left queued = λ place below gone. (let short : length empty.queued ≡ 0 = ap (λ (l : List Message). length l) none in absurd (omega (arith, below, short)))

  -- What left the other ends is marked in the one that moved, as it was before.
  pub moved_last : ((tag : ℕ) → tag ≢ from → MarksLeft (sends tag) (sends from).queued) → (tag : ℕ) → tag ≢ to → MarksLeft (moved_sends tag) (moved_sends to).queued
  moved_last last =
      moved_all (λ tag s. tag ≢ to → MarksLeft s (moved_sends to).queued) (λ apart. absurd (apart refl)) (λ apart. empty_left (moved_sends to).queued)
      (λ tag ne ne' apart. subst (MarksLeft (sends tag)) (sym (ap (λ (s : SendingEnd). s.queued) (set_same to moved (table_with from empty sends)) ∙ same)) (last tag ne'))

  pub moved_pairs : ((tag : ℕ) → tag ≢ from → MarksLeft (sends tag) (sends from).queued) → ((one two : ℕ) → one ≢ two → MarksLeft (sends one) (sends two).queued ⊎ MarksLeft (sends two) (sends one).queued)
      → (one two : ℕ) → one ≢ two → MarksLeft (moved_sends one) (moved_sends two).queued ⊎ MarksLeft (moved_sends two) (moved_sends one).queued
  moved_pairs last pairs one two ne =
      elim (decide one to) [
        | inl e ↦ inr (subst (λ (n : ℕ). MarksLeft (moved_sends two) (moved_sends n).queued) (sym e) (moved_last last two (λ is. ne (e ∙ sym is))))
        | inr one_ne ↦ elim (decide two to) [
          | inl e ↦ inl (subst (λ (n : ℕ). MarksLeft (moved_sends one) (moved_sends n).queued) (sym e) (moved_last last one one_ne))
          | inr two_ne ↦ elim (decide one from) [
            | inl e ↦ inl (subst (λ (s : SendingEnd). MarksLeft s (moved_sends two).queued) (sym (at_from one one_ne e)) (empty_left (moved_sends two).queued))
            | inr one_apart ↦ elim (decide two from) [
              | inl e ↦ inr (subst (λ (s : SendingEnd). MarksLeft s (moved_sends one).queued) (sym (at_from two two_ne e)) (empty_left (moved_sends one).queued))
              | inr two_apart ↦ both (at_other one one_ne one_apart) (at_other two two_ne two_apart) (pairs one two ne)
            ]
          ]
        ]
      ]
    where
      at_from : (tag : ℕ) → tag ≢ to → tag ≡ from → moved_sends tag ≡ empty
      at_from tag ne is = set_other to tag moved (table_with from empty sends) ne ∙ ap (table_with from empty sends) is ∙ set_same from empty sends

      at_other : (tag : ℕ) → tag ≢ to → tag ≢ from → moved_sends tag ≡ sends tag
      at_other tag ne apart = set_other to tag moved (table_with from empty sends) ne ∙ set_other from tag empty sends apart

      both : moved_sends one ≡ sends one → moved_sends two ≡ sends two → MarksLeft (sends one) (sends two).queued ⊎ MarksLeft (sends two) (sends one).queued
          → MarksLeft (moved_sends one) (moved_sends two).queued ⊎ MarksLeft (moved_sends two) (moved_sends one).queued
      both e f (inl l) = inl (subst (λ (s : SendingEnd). MarksLeft s (moved_sends two).queued) (sym e) (subst (λ (s : SendingEnd). MarksLeft (sends one) s.queued) (sym f) l))
      both e f (inr l) = inr (subst (λ (s : SendingEnd). MarksLeft s (moved_sends one).queued) (sym f) (subst (λ (s : SendingEnd). MarksLeft (sends two) s.queued) (sym e) l))

  -- Each mark is still found, and no end has more than was queued.
  pub moved_marks : (queued : List Message) → ((tag place : ℕ) (mark : Message) → at_place place (sends tag).queued ≡ Some mark → FindsMarked mark queued place)
      → (tag place : ℕ) (mark : Message) → at_place place (moved_sends tag).queued ≡ Some mark → FindsMarked mark queued place
  moved_marks queued marks =
      moved_all (λ tag s. (place : ℕ) (mark : Message) → at_place place s.queued ≡ Some mark → FindsMarked mark queued place)
      (λ place mark at. marks from place mark (ap (at_place place) (sym same) ∙ at))
      (λ place mark at. absurd (let clash = sym (ap (at_place place) none) ∙ at in cc))
      (λ tag ne ne' place mark at. marks tag place mark at)

  pub moved_short : (queued : List Message) → ((tag : ℕ) → length (sends tag).queued ≤ length queued) → (tag : ℕ) → length (moved_sends tag).queued ≤ length queued
  moved_short queued short =
      moved_all (λ tag s. length s.queued ≤ length queued) (subst (λ (l : List Message). length l ≤ length queued) (sym same) (short from))
      (let zero : length empty.queued ≡ 0 = ap (λ (l : List Message). length l) none in omega (arith, zero)) (λ tag ne ne'. short tag)
