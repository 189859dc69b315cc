-- Resets that were performed separate the messages of a stream, also once more become ready.
use Rattle.std.proofs.Common.{◌≡◌, ℕ, Bool, false, zero, suc, ◌<◌, ◌≤◌, ◌+◌, ◌^◌, List, [], ◌∷◌, ◌++◌, length, length-append, arith, refl, sym, ◌∙◌, ap, subst, inl, inr, take}
use Rattle.std.specs.Prelude.{Some}
use Rattle.dcsctp_spec_lemmas.specs.spec.queues.Runs.{WholeModel}
use Rattle.dcsctp_delivery_directions.specs.sending.Places.{HasEntry, at_place}
use Rattle.dcsctp_delivery_directions.proofs.sending.Extended.{at_more}
use Rattle.dcsctp_delivery_directions.proofs.sending.Places.{at_below, at_some}
use Rattle.dcsctp_delivery_directions.proofs.receiving.Distinct.{has_left, has_either}
use Rattle.dcsctp_delivery_directions.specs.sending.Log.{Message, History}
use Rattle.dcsctp_delivery_directions.specs.sending.Numbers.{IsCurrent}
use Rattle.dcsctp_delivery_directions.specs.order.Queue.{IsMessageOn, IsOrderedOn, Cut, Separates, AreSeparated}
use Rattle.dcsctp_delivery_directions.specs.order.Rising.{Rise}
use Rattle.dcsctp_delivery_directions.specs.order.Order.{AreReadAs}
use Rattle.dcsctp_delivery_directions.specs.order.Reading.{ComeSince}

-- the first ones are still the first once there are more
pub taken_more : (place k : ℕ) (all more : List ℕ) → k ≤ length all → HasEntry place (take k all) → HasEntry place (take k (all ++ more))
taken_more place zero all more low has = absurd has
taken_more place (suc k) [] more low has = absurd (omega (arith, low))
taken_more place (suc k) (p ∷ all) more low has = elim has [ inl e ↦ inl e | inr t ↦ inr (taken_more place k all more (omega (arith, low)) t) ]

pub taken_front : (place k : ℕ) (xs ys : List ℕ) → k ≤ length xs → HasEntry place (take k (xs ++ ys)) → HasEntry place (take k xs)
taken_front place zero xs ys low has = absurd has
taken_front place (suc k) [] ys low has = absurd (omega (arith, low))
taken_front place (suc k) (x ∷ xs) ys low has = elim has [ inl e ↦ inl e | inr t ↦ inr (taken_front place k xs ys (omega (arith, low)) t) ]

pub taken_all : (place k : ℕ) (all : List ℕ) → length all ≡ k → HasEntry place all → HasEntry place (take k all)
taken_all place k [] size has = absurd has
taken_all place zero (p ∷ all) size has = absurd (omega (arith, size))
taken_all place (suc k) (p ∷ all) size has = elim has [ inl e ↦ inl e | inr t ↦ inr (taken_all place k all (omega (arith, size)) t) ]

module _ (queued : List Message) (id : ℕ) where
  -- those of none of these places are messages of the stream
  none_separate : (index bound : ℕ) (more : List ℕ) → ((place : ℕ) → HasEntry place more → IsMessageOn queued id place → ⊥) → Separates queued id index bound more
  none_separate index bound [] none = tt
  none_separate zero bound (p ∷ more) none = (λ on. absurd (none p (inl refl) on), none_separate zero bound more (λ place has. none place (inr has)))
  none_separate (suc index) bound (p ∷ more) none = (λ on. absurd (none p (inl refl) on), none_separate index bound more (λ place has. none place (inr has)))

  others_separate : (index bound : ℕ) (all more : List ℕ) → ((place : ℕ) → HasEntry place more → IsMessageOn queued id place → ⊥) → Separates queued id index bound all → Separates queued id index bound (all ++ more)
  others_separate index bound [] more none are = none_separate index bound more none
  others_separate zero bound (p ∷ all) more none are = (are.0, others_separate zero bound all more none are.1)
  others_separate (suc index) bound (p ∷ all) more none are = (are.0, others_separate index bound all more none are.1)

  later_separate : (bound : ℕ) (more : List ℕ) → ((place : ℕ) → HasEntry place more → bound ≤ place) → Separates queued id zero bound more
  later_separate bound [] each = tt
  later_separate bound (p ∷ more) each = (λ on. each p (inl refl), later_separate bound more (λ place has. each place (inr has)))

  more_separate : (index bound : ℕ) (all more : List ℕ) → index ≤ length all → ((place : ℕ) → HasEntry place more → bound ≤ place) → Separates queued id index bound all → Separates queued id index bound (all ++ more)
  more_separate zero bound [] more low each are = later_separate bound more each
  more_separate (suc index) bound [] more low each are = absurd (omega (arith, low))
  more_separate zero bound (p ∷ all) more low each are = (are.0, more_separate zero bound all more (omega arith) each are.1)
  more_separate (suc index) bound (p ∷ all) more low each are = (are.0, more_separate index bound all more (omega (arith, low)) each are.1)

  -- messages of other streams
  pub separated_others : (knows : Bool) (asks : ℕ → Bool) (cuts : List Cut) (all more : List ℕ) → ((place : ℕ) → HasEntry place more → IsMessageOn queued id place → ⊥) → AreSeparated knows asks queued id cuts all → AreSeparated knows asks queued id cuts (all ++ more)
  separated_others knows asks cuts all more none are cut has =
      let s = are cut has in
      record {
        within = (let low = s.within in omega (arith, low, length-append all more));
        separates = others_separate cut.index cut.place all more none s.separates;
        no_gap = λ earlier later h on on' spared less below one free. elim (has_either later all more h) [
          | inl old ↦ has_left earlier all more (s.no_gap earlier later old on on' spared less below one free)
          | inr new ↦ absurd (none later new (record { message = on.message; at = on.at; stream = on.stream }))
        ];
        before = s.before;
        all = λ whole place on free below one. taken_more place cut.index all more s.within (s.all whole place on free below one);
      }

  -- and such as were queued since
  pub separated_more : (knows : Bool) (asks : ℕ → Bool) (cuts : List Cut) (all more : List ℕ) → ((place : ℕ) → HasEntry place more → (cut : Cut) → HasEntry cut cuts → cut.place ≤ place) → AreSeparated knows asks queued id cuts all → AreSeparated knows asks queued id cuts (all ++ more)
  separated_more knows asks cuts all more each are cut has =
      let s = are cut has in
      record {
        within = (let low = s.within in omega (arith, low, length-append all more));
        separates = more_separate cut.index cut.place all more s.within (λ place h. each place h cut has) s.separates;
        no_gap = λ earlier later h on on' spared less below one free. elim (has_either later all more h) [
          | inl old ↦ has_left earlier all more (s.no_gap earlier later old on on' spared less below one free)
          | inr new ↦ absurd (let up = each later new cut has in omega (arith, up, below))
        ];
        before = s.before;
        all = λ whole place on free below one. taken_more place cut.index all more s.within (s.all whole place on free below one);
      }

  -- a reset that is performed when all of them were queued before it was asked for
  pub all_separate : (bound : ℕ) (all : List ℕ) → ((place : ℕ) → HasEntry place all → IsMessageOn queued id place → place < bound) → Separates queued id (length all) bound all
  all_separate bound [] each = tt
  all_separate bound (p ∷ all) each = (each p (inl refl), all_separate bound all (λ place has. each place (inr has)))

  pub front_separate : (index bound : ℕ) (xs ys : List ℕ) → Separates queued id index bound (xs ++ ys) → Separates queued id index bound xs
  front_separate index bound [] ys are = tt
  front_separate zero bound (x ∷ xs) ys are = (are.0, front_separate zero bound xs ys are.1)
  front_separate (suc index) bound (x ∷ xs) ys are = (are.0, front_separate index bound xs ys are.1)

-- more is queued
queued_separate : (queued later : List Message) (id index bound : ℕ) (places : List ℕ) → ((place : ℕ) → HasEntry place places → IsMessageOn later id place → IsMessageOn queued id place) → Separates queued id index bound places → Separates later id index bound places
queued_separate queued later id index bound [] so are = tt
queued_separate queued later id zero bound (p ∷ places) so are = (λ on. are.0 (so p (inl refl) on), queued_separate queued later id zero bound places (λ place has. so place (inr has)) are.1)
queued_separate queued later id (suc index) bound (p ∷ places) so are = (λ on. are.0 (so p (inl refl) on), queued_separate queued later id index bound places (λ place has. so place (inr has)) are.1)

-- What was queued before is where it was.
pub at_before : {A : Type 0} (more log : List A) (n : ℕ) (x : A) → n < length log → at_place n (more ++ log) ≡ Some x → at_place n log ≡ Some x
at_before more log n x less at =
    let (y, old) = at_some n log less in
    let both : Some y ≡ Some x = sym (at_more more log n y old) ∙ at in
    old ∙ both

-- A message that was queued before another that is in the older queue is in it too.
abbrev pub ordered_before : (queued more : List Message) (id earlier later : ℕ) → earlier < later → IsMessageOn queued id later → (on : IsOrderedOn (more ++ queued) id earlier) → IsOrderedOn queued id earlier
ordered_before queued more id earlier later less was on =
    record { message = on.message; at = at_before more queued earlier on.message (let below = at_below later was.message queued was.at in omega (arith, below, less)) on.at; stream = on.stream; ordered = on.ordered }

pub separated_queued : (knows : Bool) (asks : ℕ → Bool) (queued more : List Message) (id : ℕ) (cuts : List Cut) (places : List ℕ) → ((place : ℕ) → HasEntry place places → IsMessageOn (more ++ queued) id place → IsMessageOn queued id place) → AreSeparated knows asks queued id cuts places
    → AreSeparated knows asks (more ++ queued) id cuts places
separated_queued knows asks queued more id cuts places so are cut has =
    let s = are cut has in
    record {
      within = s.within;
      separates = queued_separate queued (more ++ queued) id cut.index cut.place places so s.separates;
      no_gap = λ earlier later h on on' spared less below one free. (
          let was = so later h (record { message = on.message; at = on.at; stream = on.stream }) in
          s.no_gap earlier later h (ordered_was later was on) (ordered_before queued more id earlier later less was on') spared less below one
          (λ unknown place from to mine. free unknown place from to (record { message = mine.message; at = at_more more queued place mine.message mine.at; stream = mine.stream; ordered = mine.ordered }))
          );
      before = (let low = s.before in omega (arith, low, length-append more queued));
      all = λ whole place on free below one. s.all whole place
          (record { message = on.message; at = at_before more queued place on.message (let low = s.before in omega (arith, below, low)) on.at; stream = on.stream; ordered = on.ordered }) free below one;
    }
  where
    ordered_was : (later : ℕ) → IsMessageOn queued id later → IsOrderedOn (more ++ queued) id later → IsOrderedOn queued id later
    ordered_was later was on =
        let both : Some was.message ≡ Some on.message = sym (at_more more queued later was.message was.at) ∙ on.at in
        let same : was.message ≡ on.message = cc in
        record { message = was.message; at = was.at; stream = was.stream; ordered = ap (λ (m : Message). m.is_unordered) same ∙ on.ordered }

-- What becomes ready has numbers of since the last reset of the stream.
pub read_since : (history : History) (id : ℕ) (cuts : List Cut) → ComeSince history id cuts → (from end : ℕ) (places : List ℕ) (wholes : List WholeModel) → 2 ^ 32 ≤ from → AreReadAs history id places wholes → Rise from end wholes
    → (place : ℕ) → HasEntry place places → (cut : Cut) → HasEntry cut cuts → cut.place ≤ place
read_since history id cuts since from end [] wholes low are rise place has cut is = absurd has
read_since history id cuts since from end (p ∷ places) [] low are rise place has cut is = absurd are
read_since history id cuts since from end (p ∷ places) (w ∷ wholes) low are rise place has cut is =
    elim has [
      | inl e ↦
          (let r = are.0 in
          let counted = r.counted in
          let up = rise.0 in
          let under = r.sent.under in
          let from : history.floors id false ≤ r.sent.piece.mid = omega (arith, counted, up, low, under) in
          let current : IsCurrent history r.sent.piece =
          subst (λ (k : ℕ). history.floors k r.sent.piece.message.is_unordered ≤ r.sent.piece.mid) (sym r.sent.stream) (subst (λ (b : Bool). history.floors id b ≤ r.sent.piece.mid) (sym r.sent.ordered) from) in
          let high = since cut is r.sent.offset r.sent.piece r.sent.at r.sent.stream current in
          let same = r.sent.is in
          omega (arith, high, same, e))
      | inr t ↦ read_since history id cuts since (w.number + 1) end places wholes (let up = rise.0 in omega (arith, up, low)) are.1 rise.1 place t cut is
    ]
