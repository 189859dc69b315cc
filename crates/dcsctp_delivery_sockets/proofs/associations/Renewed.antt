-- The sender sends its newest request again under the next number.
use Rattle.std.proofs.Common.{◌≡◌, ℕ, suc, true, ◌<◌, ◌≤◌, ◌+◌, ◌-◌, ◌^◌, Option, None, Some, List, [], ◌∷◌, ◌++◌, length, length-append, refl, sym, ◌∙◌, ap, subst, inl, inr, arith}
use Rattle.std.specs.Prelude.{◌⊎◌}
use Rattle.dcsctp_spec_runs.specs.Past.{WasPerformed}
use Rattle.dcsctp_spec_lemmas.specs.spec.association.Effect.{Effect}
use Rattle.dcsctp_spec_lemmas.specs.spec.Reconfiguration.{RequestedReset, renewed_reset}
use Rattle.dcsctp_spec_lemmas.specs.spec.queues.Reassembly.{DeferralModel}
use Rattle.dcsctp_spec_lemmas.specs.spec.endpoint.BegunResets.{BegunReset}
use Rattle.dcsctp_delivery_directions.specs.receiving.Clear.{IsOwn}
use Rattle.dcsctp_delivery_directions.specs.directions.Directions.{Asking, nothing_asked, asking_renewed}
use Rattle.dcsctp_delivery_sockets.specs.turns.Asking.{AreNumbered}
use Rattle.dcsctp_delivery_sockets.specs.associations.Answered.{Requests, request_numbered, WantFrom, AreAsked, IsRequestNumber, IsInStep, all_performed, unaccepted, in_progress, StandsSo, in_step, plain}
use Rattle.dcsctp_delivery_sockets.proofs.associations.RequestNumbers.{same_place, want_beyond, want_renewed}
use Rattle.dcsctp_delivery_sockets.proofs.associations.AskedOn as asked
use Rattle.dcsctp_delivery_sockets.proofs.associations.AskedOn.{MayEnd, MayBegin}

-- ---- one association

own_renewed : (reset : RequestedReset) (waits : Option DeferralModel) → IsOwn reset waits → IsOwn (renewed_reset reset) waits
own_renewed reset None own = own
own_renewed reset (Some deferral) own = own

-- its requests once the newest continues under this number
abbrev pub renewed : ℕ → BegunReset → Requests → Requests
renewed number newest r = record r { asking = asking_renewed number newest r.asking }

first_of : {one two : BegunReset} {rest others : List BegunReset} → one ∷ rest ≡ two ∷ others → one ≡ two
first_of is = cc

module _ (r : Requests) (their_past : List Effect) (a : (r.asking ≡ nothing_asked) ⊎ AreAsked r their_past) (number : ℕ) (newest : BegunReset) (earlier : List BegunReset) (is : r.asking.requests ≡ newest ∷ earlier)
    (out : r.asking.out ≡ 1) where
  renewed_asked : AreNumbered r.first (renewed number newest r).asking.requests → AreAsked (renewed number newest r) their_past
  renewed_asked numbers =
      record {
        numbers = numbers;
        out = omega (arith, out);
        ended = λ interleaved none. absurd (omega (arith, none, out));
        performed_is = λ interleaved known. absurd (cc);
        some_performed = λ interleaved top rest same. one_was interleaved top rest same;
      }
    where
      one_was : r.in_turn ≡ true → (top : BegunReset) (rest : List BegunReset) → (renewed number newest r).asking.requests ≡ top ∷ rest
          → ((n : ℕ) × WasPerformed r.my n their_past) ⊎ WantFrom 0 top.reset (renewed number newest r).asking.requests
      one_was interleaved top rest same =
          elim a [
            | inl none ↦ (let empty : r.asking.requests ≡ [] = ap (λ (s : Asking). s.requests) none in absurd (cc))
            | inr was ↦ elim (was.some_performed interleaved newest earlier is) [
              | inl has ↦ inl has
              | inr want ↦ inr (subst (λ (b : BegunReset). WantFrom 0 b.reset (renewed number newest r).asking.requests) (first_of same) (λ at. refl, want_renewed 0 newest.reset r.asking.requests want))
            ]
          ]

  renewed_placed : (n : ℕ) → IsRequestNumber r n → IsRequestNumber (renewed number newest r) n
  renewed_placed n at =
      let below = at.below in record { place = at.place; below = omega (arith, below); is = at.is; newest = λ interleaved last. absurd (omega (arith, last, below)) }

  -- The receiver may not have reached the newest then.
  renewed_stands : (waits : Option DeferralModel) → StandsSo r their_past waits → StandsSo (renewed number newest r) their_past waits
  renewed_stands waits (plain kind some) = plain kind (λ none. absurd (cc))
  renewed_stands waits (in_step step) = in_step (go step)
    where
      top : BegunReset
      top = record { number = number; reset = renewed_reset newest.reset }

      want_on : (place : ℕ) (last : BegunReset) (rest : List BegunReset) → r.asking.requests ≡ last ∷ rest → WantFrom place last.reset r.asking.requests → WantFrom place top.reset (top ∷ r.asking.requests)
      want_on place last rest same want = (λ at. refl, want_renewed place newest.reset r.asking.requests (subst (λ (b : BegunReset). WantFrom place b.reset r.asking.requests) (first_of (sym same ∙ is)) want))

      later : (last : BegunReset) (rest : List BegunReset) (place : ℕ) → r.asking.requests ≡ last ∷ rest → place ≤ length rest → place ≤ length r.asking.requests
      later last rest place same below = (let long : length r.asking.requests ≡ suc (length rest) = ap (λ (l : List BegunReset). length l) same in omega (arith, long, below))

      go : IsInStep r their_past waits → IsInStep (renewed number newest r) their_past waits
      go (all_performed accept perform empty which) =
          unaccepted top r.asking.requests (length r.asking.requests) refl (omega arith) (λ at. refl, want_beyond (length r.asking.requests) top.reset r.asking.requests (omega arith)) accept perform empty refl
      go (unaccepted last rest place same below want accept perform empty un) =
          unaccepted top r.asking.requests place refl (later last rest place same below) (want_on place last rest same want) accept perform empty refl
      go (in_progress last rest place same below want accept perform own un) =
          in_progress top r.asking.requests place refl (later last rest place same below) (want_on place last rest same want) accept perform (own_renewed newest.reset waits (subst (λ (b : BegunReset). IsOwn b.reset waits) (first_of (sym same ∙ is)) own)) refl

-- ---- with what ends and begins

-- What becomes of the requests in a turn before more are begun: they may end, or the newest continues under the next number.
pub data MayGo (requests : Requests) (their_past : List Effect) : Asking → Type 0 where
  ends_so : (between : Asking) → MayEnd requests their_past between → MayGo requests their_past between
  was_renewed : (newest : BegunReset) (earlier : List BegunReset) (number : ℕ) → requests.asking.requests ≡ newest ∷ earlier → requests.asking.out ≡ 1 → MayGo requests their_past (asking_renewed number newest requests.asking)

numbered_before : (first : ℕ) (more requests : List BegunReset) → AreNumbered first (more ++ requests) → AreNumbered first requests
numbered_before first [] requests numbers = numbers
numbered_before first (begun ∷ more) requests numbers = numbered_before first more requests numbers.1

-- If the newest was performed, that is known.
pub known_newest : (r : Requests) → length r.asking.requests < 2 ^ 32 - 1 → (newest : BegunReset) (earlier : List BegunReset) → r.asking.requests ≡ newest ∷ earlier → r.in_turn ≡ true
    → IsRequestNumber r (request_numbered r.first (length earlier)) → r.asking.is_performed ≡ true
known_newest r few newest earlier is interleaved at =
    let long : length r.asking.requests ≡ suc (length earlier) = ap (λ (l : List BegunReset). length l) is in
    let below = at.below in
    let same : length earlier ≡ at.place = same_place r.first (length earlier) at.place at.is (omega (arith, long, few)) (omega (arith, below, few)) in
    at.newest interleaved (omega (arith, same, long))

numbers_between : (first : ℕ) (between asking : Asking) → MayBegin first between asking → AreNumbered first between.requests
numbers_between first between asking begins = numbered_before first begins.more between.requests (subst (AreNumbered first) begins.is begins.numbers)

few_between : (first : ℕ) (between asking : Asking) → MayBegin first between asking → length between.requests < 2 ^ 32 - 1
few_between first between asking begins =
    let long : length asking.requests ≡ length begins.more + length between.requests = ap (λ (l : List BegunReset). length l) begins.is ∙ length-append begins.more between.requests in
    let few = begins.few in
    omega (arith, long, few)

module _ (r : Requests) (their_past : List Effect) (a : (r.asking ≡ nothing_asked) ⊎ AreAsked r their_past) (few : length r.asking.requests < 2 ^ 32 - 1) where
  -- the requests after the turn
  abbrev after : Asking → Requests
  after asking = record r { asking = asking }

  pub asked_then : (between asking : Asking) → MayGo r their_past between → MayBegin r.first between asking → AreAsked (after asking) their_past
  asked_then _ asking (ends_so between ends) begins = asked.asked_on r their_past a few between asking ends begins
  asked_then _ asking (was_renewed newest earlier number is out) begins =
      let between : Asking = asking_renewed number newest r.asking in
      asked.asked_on (renewed number newest r) their_past (inr (renewed_asked r their_past a number newest earlier is out (numbers_between r.first between asking begins))) (few_between r.first between asking begins) between asking
      asked.as_it_was begins

  pub placed_then : (between asking : Asking) → MayGo r their_past between → MayBegin r.first between asking → (number : ℕ) → IsRequestNumber r number → IsRequestNumber (after asking) number
  placed_then _ asking (ends_so between ends) begins n at = asked.placed_on r their_past a few between asking ends begins n at
  placed_then _ asking (was_renewed newest earlier number is out) begins n at =
      let between : Asking = asking_renewed number newest r.asking in
      asked.placed_on (renewed number newest r) their_past (inr (renewed_asked r their_past a number newest earlier is out (numbers_between r.first between asking begins))) (few_between r.first between asking begins) between asking
      asked.as_it_was begins n (renewed_placed r their_past a number newest earlier is out n at)

  pub stands_then : (waits : Option DeferralModel) (between asking : Asking) → MayGo r their_past between → MayBegin r.first between asking → ((number : ℕ) → WasPerformed r.my number their_past → IsRequestNumber r number)
      → StandsSo r their_past waits → StandsSo (after asking) their_past waits
  stands_then waits _ asking (ends_so between ends) begins placed stands =
      asked.stands_on r their_past a few waits between asking ends begins
      (λ interleaved newest earlier is has. known_newest r few newest earlier is interleaved (placed (request_numbered r.first (length earlier)) has)) stands
  stands_then waits _ asking (was_renewed newest earlier number is out) begins placed stands =
      let between : Asking = asking_renewed number newest r.asking in
      asked.stands_on (renewed number newest r) their_past (inr (renewed_asked r their_past a number newest earlier is out (numbers_between r.first between asking begins))) (few_between r.first between asking begins) waits between asking
      asked.as_it_was begins
      (λ interleaved top rest same has.
      known_newest (renewed number newest r) (few_between r.first between asking begins) top rest same interleaved
      (renewed_placed r their_past a number newest earlier is out (request_numbered r.first (length rest)) (placed (request_numbered r.first (length rest)) has)))
      (renewed_stands r their_past a number newest earlier is out waits stands)
