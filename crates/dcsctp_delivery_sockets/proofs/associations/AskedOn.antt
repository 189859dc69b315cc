-- The sender continues: its request ends, or it begins one.
use Rattle.std.proofs.Common.{◌≡◌, ℕ, suc, Bool, true, false, ◌<◌, ◌≤◌, ◌+◌, ◌-◌, ◌^◌, Option, Some, List, [], ◌∷◌, ◌++◌, length, length-append, refl, sym, ◌∙◌, ap, subst, inl, inr, arith}
use Rattle.std.specs.Prelude.{◌⊎◌}
use Rattle.dcsctp_spec_lemmas.specs.spec.Reconfiguration.{renewed_reset}
use Rattle.dcsctp_spec_lemmas.specs.types.declared.association.Pair.{Pair}
use Rattle.dcsctp_spec_runs.specs.Past.{WasPerformed}
use Rattle.dcsctp_spec_runs.specs.World.{after_effects}
use Rattle.dcsctp_spec_lemmas.specs.spec.association.Effect.{Effect, holds}
use Rattle.dcsctp_spec_lemmas.specs.spec.queues.Reassembly.{DeferralModel}
use Rattle.dcsctp_spec_lemmas.specs.spec.endpoint.BegunResets.{BegunReset}
use Rattle.dcsctp_theorem_association.proofs.Growth.{after_within}
use Rattle.dcsctp_delivery_directions.specs.directions.Directions.{Asking, nothing_asked, all_ended}
use Rattle.dcsctp_delivery_sockets.specs.turns.Asking.{AreNumbered}
use Rattle.dcsctp_delivery_sockets.specs.associations.Answered.{Requests, request_numbered, WantFrom, SenderHadPeer, AreAsked, IsRequestNumber, IsInStep, all_performed, unaccepted, in_progress, StandsSo, in_step, plain}
use Rattle.dcsctp_delivery_sockets.proofs.associations.RequestNumbers.{newest_number, want_beyond}

pub held_later : (effects past : List Effect) (tag : ℕ) (my : Pair) → SenderHadPeer past tag my → SenderHadPeer (after_effects effects past) tag my
held_later effects past tag my h = record { link = h.link; held = after_within effects past (holds h.link) h.held; tag_is = h.tag_is; my_is = h.my_is; some = h.some }

-- What becomes of a request in the turn: nothing, or it ends. With interleaving it was performed then.
pub data MayEnd (requests : Requests) (their_past : List Effect) : Asking → Type 0 where
  as_it_was : MayEnd requests their_past requests.asking
  has_ended : (requests.in_turn ≡ true → (newest : BegunReset) (earlier : List BegunReset) → requests.asking.requests ≡ newest ∷ earlier → WasPerformed requests.my newest.number their_past)
      → MayEnd requests their_past (all_ended requests.asking)

first_of : {one two : BegunReset} {rest others : List BegunReset} → one ∷ rest ≡ two ∷ others → one ≡ two
first_of is = cc

-- More may be begun.
pub record MayBegin (first : ℕ) (between asking : Asking) : Type 0 where
  pub more : List BegunReset
  pub is : asking.requests ≡ more ++ between.requests
  pub same : more ≡ [] → asking.is_performed ≡ between.is_performed
  pub anew : (newest : BegunReset) (rest : List BegunReset) → more ≡ newest ∷ rest → asking.is_performed ≡ false
  pub count : asking.out ≡ length more + between.out
  pub out : asking.out ≤ 1
  pub numbers : AreNumbered first asking.requests
  pub few : length asking.requests < 2 ^ 32 - 1

-- ---- one association

module _ (r : Requests) (their_past : List Effect) (a : (r.asking ≡ nothing_asked) ⊎ AreAsked r their_past) (few : length r.asking.requests < 2 ^ 32 - 1) where
  none_of : r.asking ≡ nothing_asked → r.asking.requests ≡ []
  none_of is = ap (λ (a : Asking). a.requests) is

  no_place : (place : ℕ) → r.asking ≡ nothing_asked → place < length r.asking.requests → ⊥
  no_place place is below = (let none : length r.asking.requests ≡ 0 = ap (λ (l : List BegunReset). length l) (none_of is) in omega (arith, below, none))

  -- Where no request is without an end, the newest was performed.
  newest_was : (between : Asking) → MayEnd r their_past between → between.out ≡ 0 → r.in_turn ≡ true → (place : ℕ) → suc place ≡ length r.asking.requests → WasPerformed r.my (request_numbered r.first place) their_past
  newest_was between ends none interleaved place last = elim a [ inl is ↦ absurd (no_place place is (omega (arith, last))) | inr asked ↦ go asked between ends none ]
    where
      performed_last : (requests : List BegunReset) → r.asking.requests ≡ requests → AreAsked r their_past
          → ((newest : BegunReset) (earlier : List BegunReset) → r.asking.requests ≡ newest ∷ earlier → WasPerformed r.my newest.number their_past) → WasPerformed r.my (request_numbered r.first place) their_past
      performed_last [] is asked performed = (let none' : length r.asking.requests ≡ 0 = ap (λ (l : List BegunReset). length l) is in absurd (omega (arith, last, none')))
      performed_last (begun ∷ earlier) is asked performed =
          let long : length r.asking.requests ≡ suc (length earlier) = ap (λ (l : List BegunReset). length l) is in
          let at : length earlier ≡ place = omega (arith, long, last) in
          subst (λ (n : ℕ). WasPerformed r.my n their_past) (newest_number r.first begun earlier r.asking.requests is asked.numbers ∙ ap (request_numbered r.first) at) (performed begun earlier is)

      go : AreAsked r their_past → (between : Asking) → MayEnd r their_past between → between.out ≡ 0 → WasPerformed r.my (request_numbered r.first place) their_past
      go asked _ as_it_was none' = asked.ended interleaved none' place last
      go asked _ (has_ended performed) none' = performed_last r.asking.requests refl asked (performed interleaved)

  requests_same : (between : Asking) → MayEnd r their_past between → between.requests ≡ r.asking.requests
  requests_same _ as_it_was = refl
  requests_same _ (has_ended performed) = refl

  known_same : (between : Asking) → MayEnd r their_past between → between.is_performed ≡ r.asking.is_performed
  known_same _ as_it_was = refl
  known_same _ (has_ended performed) = refl

  -- the requests after the turn
  abbrev after : Asking → Requests
  after asking = record r { asking = asking }

  pub asked_on : (between asking : Asking) → MayEnd r their_past between → MayBegin r.first between asking → AreAsked (after asking) their_past
  asked_on between asking ends begins =
      record {
        numbers = begins.numbers;
        out = begins.out;
        ended = λ interleaved none place newest. ended interleaved begins.more begins.is begins.count none place newest;
        performed_is = λ interleaved known place newest. performed interleaved known begins.more begins.is begins.same begins.anew place newest;
        some_performed = λ interleaved newest earlier is. one_was interleaved begins.more begins.is begins.count newest earlier is;
      }
    where
      same : between.requests ≡ r.asking.requests
      same = requests_same between ends

      ended : r.in_turn ≡ true → (more : List BegunReset) → asking.requests ≡ more ++ between.requests → asking.out ≡ length more + between.out → asking.out ≡ 0 → (place : ℕ) → suc place ≡ length asking.requests
          → WasPerformed r.my (request_numbered r.first place) their_past
      ended interleaved [] is count none place newest = newest_was between ends (omega (arith, count, none)) interleaved place (newest ∙ ap (λ (l : List BegunReset). length l) (is ∙ same))
      ended interleaved (begun ∷ more) is count none place newest = absurd (omega (arith, count, none))

      one_was : r.in_turn ≡ true → (more : List BegunReset) → asking.requests ≡ more ++ between.requests → asking.out ≡ length more + between.out → (newest : BegunReset) (earlier : List BegunReset) → asking.requests ≡ newest ∷ earlier
          → ((number : ℕ) × WasPerformed r.my number their_past) ⊎ WantFrom 0 newest.reset asking.requests
      one_was interleaved [] is count newest earlier top =
          elim a [
            | inl none ↦ (let empty : r.asking.requests ≡ [] = none_of none in let some : r.asking.requests ≡ newest ∷ earlier = sym (is ∙ same) ∙ top in absurd (cc))
            | inr asked ↦ elim (asked.some_performed interleaved newest earlier (sym (is ∙ same) ∙ top)) [
              | inl has ↦ inl has
              | inr want ↦ inr (subst (WantFrom 0 newest.reset) (sym (is ∙ same)) want)
            ]
          ]
      one_was interleaved (begun ∷ []) is count newest earlier top = by_before r.asking.requests refl
        where
          by_before : (before : List BegunReset) → r.asking.requests ≡ before → ((number : ℕ) × WasPerformed r.my number their_past) ⊎ WantFrom 0 newest.reset asking.requests
          by_before [] none =
              let all : asking.requests ≡ begun ∷ [] = is ∙ ap (λ (l : List BegunReset). begun ∷ l) (same ∙ none) in
              let one : begun ≡ newest = first_of (sym all ∙ top) in inr (subst (WantFrom 0 newest.reset) (sym all) (λ at. ap (λ (b : BegunReset). renewed_reset b.reset) one, tt))
          by_before (last ∷ rest) some =
              let out = begins.out in inl (request_numbered r.first (length rest), newest_was between ends (omega (arith, count, out)) interleaved (length rest) (sym (ap (λ (l : List BegunReset). length l) some)))
      one_was interleaved (begun ∷ other ∷ more) is count newest earlier top = (let out = begins.out in absurd (omega (arith, count, out)))

      performed : r.in_turn ≡ true → asking.is_performed ≡ true → (more : List BegunReset) → asking.requests ≡ more ++ between.requests → (more ≡ [] → asking.is_performed ≡ between.is_performed)
          → ((newest : BegunReset) (rest : List BegunReset) → more ≡ newest ∷ rest → asking.is_performed ≡ false) → (place : ℕ) → suc place ≡ length asking.requests → WasPerformed r.my (request_numbered r.first place) their_past
      performed interleaved known [] is same' anew place newest =
          let long : length asking.requests ≡ length r.asking.requests = ap (λ (l : List BegunReset). length l) (is ∙ same) in
          elim a [
            | inl none ↦ absurd (no_place place none (omega (arith, newest, long)))
            | inr asked ↦ asked.performed_is interleaved (sym (known_same between ends) ∙ sym (same' refl) ∙ known) place (newest ∙ long)
          ]
      performed interleaved known (begun ∷ more) is same' anew place newest = (let none : asking.is_performed ≡ false = anew begun more refl in absurd (cc))

  pub placed_on : (between asking : Asking) → MayEnd r their_past between → MayBegin r.first between asking → (number : ℕ) → IsRequestNumber r number → IsRequestNumber (after asking) number
  placed_on between asking ends begins number at =
      record { place = at.place; below = below begins.more begins.is; is = at.is; newest = λ interleaved last. newest interleaved begins.more begins.is begins.same last }
    where
      same : between.requests ≡ r.asking.requests
      same = requests_same between ends

      under : at.place < length r.asking.requests
      under = at.below

      below : (more : List BegunReset) → asking.requests ≡ more ++ between.requests → at.place < length asking.requests
      below more is =
          let long : length asking.requests ≡ length more + length between.requests = ap (λ (l : List BegunReset). length l) is ∙ length-append more between.requests in
          let requests : length between.requests ≡ length r.asking.requests = ap (λ (l : List BegunReset). length l) same in
          let u = under in
          omega (arith, long, requests, u)

      newest : r.in_turn ≡ true → (more : List BegunReset) → asking.requests ≡ more ++ between.requests → (more ≡ [] → asking.is_performed ≡ between.is_performed) → suc at.place ≡ length asking.requests → asking.is_performed ≡ true
      newest interleaved [] is same' last = same' refl ∙ known_same between ends ∙ at.newest interleaved (last ∙ ap (λ (l : List BegunReset). length l) (is ∙ same))
      newest interleaved (begun ∷ more) is same' last =
          let long : length asking.requests ≡ suc (length more + length between.requests) = ap (λ (l : List BegunReset). length l) is ∙ ap (λ (n : ℕ). suc n) (length-append more between.requests) in
          let requests : length between.requests ≡ length r.asking.requests = ap (λ (l : List BegunReset). length l) same in
          let u = under in
          absurd (omega (arith, long, requests, last, u))

  -- `StandsSo` still holds, if the newest request counts as performed where the receiver's past says so.
  pub stands_on : (waits : Option DeferralModel) (between asking : Asking) → MayEnd r their_past between → MayBegin r.first between asking
      → (r.in_turn ≡ true → (newest : BegunReset) (earlier : List BegunReset) → r.asking.requests ≡ newest ∷ earlier → WasPerformed r.my (request_numbered r.first (length earlier)) their_past → r.asking.is_performed ≡ true)
      → StandsSo r their_past waits → StandsSo (after asking) their_past waits
  stands_on waits between asking ends begins known stands = by_more begins.more begins.is begins.same begins.anew begins.count stands
    where
      same : between.requests ≡ r.asking.requests
      same = requests_same between ends

      kept : asking.requests ≡ r.asking.requests → asking.is_performed ≡ r.asking.is_performed → IsInStep r their_past waits → IsInStep (after asking) their_past waits
      kept is performed (all_performed accept perform none which) =
          all_performed (accept ∙ ap (λ (l : List BegunReset). Some (request_numbered r.first (length l))) (sym is)) perform none
          (elim which [ inl x ↦ inl (is ∙ x) | inr x ↦ inr (performed ∙ x) ])
      kept is performed (unaccepted newest earlier place requests below want accept perform none un) =
          unaccepted newest earlier place (is ∙ requests) below (subst (WantFrom place newest.reset) (sym is) want) accept perform none (performed ∙ un)
      kept is performed (in_progress newest earlier place requests below want accept perform own un) =
          in_progress newest earlier place (is ∙ requests) below (subst (WantFrom place newest.reset) (sym is) want) accept perform own (performed ∙ un)

      some_not : (more : List BegunReset) (begun : BegunReset) → asking.requests ≡ begun ∷ more → asking.requests ≡ [] → ⊥
      some_not more begun is none = absurd (cc)

      was_performed : between.out ≡ 0 → r.in_turn ≡ true → (newest : BegunReset) (earlier : List BegunReset) → r.asking.requests ≡ newest ∷ earlier → r.asking.is_performed ≡ false → {A : Type 0} → A
      was_performed none interleaved newest earlier requests un' =
          let long : length r.asking.requests ≡ suc (length earlier) = ap (λ (l : List BegunReset). length l) requests in
          let was : r.asking.is_performed ≡ true = known interleaved newest earlier requests (newest_was between ends none interleaved (length earlier) (sym long)) in
          absurd (cc)

      anew : (begun : BegunReset) → asking.requests ≡ begun ∷ between.requests → asking.is_performed ≡ false → between.out ≡ 0 → r.in_turn ≡ true → IsInStep r their_past waits → IsInStep (after asking) their_past waits
      anew begun is un none interleaved (all_performed accept perform waits_none which) =
          unaccepted begun between.requests (length between.requests) is (omega arith) (subst (WantFrom (length between.requests) begun.reset) (sym is) (λ at. refl, want_beyond (length between.requests) begun.reset between.requests (omega arith)))
          (accept ∙ ap (λ (l : List BegunReset). Some (request_numbered r.first (length l))) (sym same)) perform waits_none un
      anew begun is un none interleaved (unaccepted newest earlier place requests below want accept perform waits_none un') = was_performed none interleaved newest earlier requests un'
      anew begun is un none interleaved (in_progress newest earlier place requests below want accept perform own un') = was_performed none interleaved newest earlier requests un'

      by_kind : (begun : BegunReset) → asking.requests ≡ begun ∷ between.requests → asking.is_performed ≡ false → between.out ≡ 0 → (b : Bool) → r.in_turn ≡ b → StandsSo r their_past waits → StandsSo (after asking) their_past waits
      by_kind begun is un none false kind stands = plain kind (some_not between.requests begun is)
      by_kind begun is un none true kind (in_step step) = in_step (anew begun is un none kind step)
      by_kind begun is un none true kind (plain not some) = absurd (cc)

      by_more : (more : List BegunReset) → asking.requests ≡ more ++ between.requests → (more ≡ [] → asking.is_performed ≡ between.is_performed)
          → ((newest : BegunReset) (rest : List BegunReset) → more ≡ newest ∷ rest → asking.is_performed ≡ false) → asking.out ≡ length more + between.out → StandsSo r their_past waits → StandsSo (after asking) their_past waits
      by_more [] is same' anew' count (in_step step) = in_step (kept (is ∙ same) (same' refl ∙ known_same between ends) step)
      by_more [] is same' anew' count (plain not some) = plain not (λ none. some (sym (is ∙ same) ∙ none))
      by_more (begun ∷ []) is same' anew' count stands = (let out = begins.out in by_kind begun is (anew' begun [] refl) (omega (arith, out, count)) r.in_turn refl stands)
      by_more (begun ∷ other ∷ more) is same' anew' count stands = (let out = begins.out in absurd (omega (arith, out, count)))
