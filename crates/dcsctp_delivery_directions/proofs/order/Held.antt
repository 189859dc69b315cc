-- Which parts runs hold, and that one of a message that isn't whole is missing.
use Rattle.std.proofs.Common.{◌≡◌, ◌==◌, ℕ, zero, suc, Bool, true, false, ◌<◌, ◌≤◌, List, [], ◌∷◌, drop, refl, sym, ◌∙◌, ap, arith, subst, inl, inr}
use Rattle.std.specs.Prelude.{◌⊎◌, ◌&&◌, not, None, Some, is_some, if◌then◌else◌}
use Rattle.std.proofs.lemmas.Bool.Decides.{eqb_tells, leb_tells}
use Rattle.std.proofs.lemmas.List.{length-append}
use Rattle.dcsctp_spec_lemmas.specs.spec.queues.Runs.{RunModel, PartModel, Assembly, part_dropped, part_kept, message_whole, IsRunPlace, is_held_before, follows, precedes, single_run, chained_run, merged_run, is_whole, whole_run, following, run_before, run_behind, back_start, with_part, without_runs, AddsPart}
use Rattle.dcsctp_delivery_directions.specs.sending.Places.{HasEntry}
use Rattle.dcsctp_delivery_directions.specs.order.Runs.{place_after, is_continued, NoneContinues, LieApart, IsHeldForMessage, LeavesPartsHeld, SpansMessage}
use Rattle.dcsctp_delivery_directions.proofs.order.Runs.{precedes_so, Follows, follows_so, joined_after, with_part_on, with_part_one, without_on, without_one}

-- ---- lists of runs

among : (run : RunModel) (runs : List RunModel) (place number : ℕ) → IsHeldForMessage runs place number → IsHeldForMessage (run ∷ runs) place number
among run runs place number held = record { run = held.run; has = inr held.has; from = held.from; to = held.to; message = held.message }

-- all that these hold those do
abbrev HoldsMore : List RunModel → List RunModel → Type 0
HoldsMore old new = (place number : ℕ) → IsHeldForMessage old place number → IsHeldForMessage new place number

-- ---- a part that is kept

module _ (part : PartModel) where
  single_holds : IsHeldForMessage (single_run part ∷ []) part.place part.number
  single_holds = record { run = single_run part; has = inl refl; from = omega arith; to = omega arith; message = refl }

  kept_first : (runs : List RunModel) → HoldsMore runs (with_part false (is_some (run_behind part 0 runs)) 0 part runs) × IsHeldForMessage (with_part false (is_some (run_behind part 0 runs)) 0 part runs) part.place part.number
  kept_first [] = (λ place number held. absurd held.has, single_holds)
  kept_first (c ∷ cs) = go (precedes part c) refl
    where
      go : (b : Bool) → precedes part c ≡ b → ((place number : ℕ) → IsHeldForMessage (c ∷ cs) place number → IsHeldForMessage (with_part false (is_some (if b then Some c else None)) 0 part (c ∷ cs)) place number)
          × IsHeldForMessage (with_part false (is_some (if b then Some c else None)) 0 part (c ∷ cs)) part.place part.number
      go true e =
          let is = precedes_so part c e in
          let next = is.place in
          let after = joined_after (single_run part) c in (
            λ place number held. elim held.has [
              | inl same ↦
                  (let from : c.first ≤ place = subst (λ (r : RunModel). r.first ≤ place) same held.from in
                  let to : place < place_after c = subst (λ (r : RunModel). place < place_after r) same held.to in
                  record { run = chained_run (single_run part) c; has = inl refl; from = omega (arith, from, next); to = omega (arith, to, after, next); message = sym is.number ∙ ap (λ (r : RunModel). r.number) (sym same) ∙ held.message })
              | inr t ↦ record { run = held.run; has = inr t; from = held.from; to = held.to; message = held.message }
            ],
            record { run = chained_run (single_run part) c; has = inl refl; from = omega arith; to = omega (arith, after); message = refl },
          )
      go false e = (λ place number held. among (single_run part) (c ∷ cs) place number held, record { run = single_run part; has = inl refl; from = omega arith; to = omega arith; message = refl })

  -- a run that grew holds what it held, and the part
  grown : (b grown_run : RunModel) (runs rest : List RunModel) → grown_run.first ≡ b.first → grown_run.number ≡ b.number → place_after b ≤ place_after grown_run → HoldsMore rest (grown_run ∷ runs) → HoldsMore (b ∷ rest) (grown_run ∷ runs)
  grown b grown_run runs rest first number longer more place n held =
      elim held.has [
        | inl same ↦
            (let from : b.first ≤ place = subst (λ (r : RunModel). r.first ≤ place) same held.from in
            let to : place < place_after b = subst (λ (r : RunModel). place < place_after r) same held.to in
            record { run = grown_run; has = inl refl; from = omega (arith, from, first); to = omega (arith, to, longer); message = number ∙ ap (λ (r : RunModel). r.number) (sym same) ∙ held.message })
        | inr t ↦ more place n (record { run = held.run; has = t; from = held.from; to = held.to; message = held.message })
      ]

  kept_second : (b : RunModel) (rest : List RunModel) → b.first ≤ part.place
      → HoldsMore (b ∷ rest) (with_part (is_some (following (Some b) part)) (is_some (run_behind part 0 rest)) 1 part (b ∷ rest))
      × IsHeldForMessage (with_part (is_some (following (Some b) part)) (is_some (run_behind part 0 rest)) 1 part (b ∷ rest)) part.place part.number
  kept_second b rest low = go (follows b part) refl
    where
      by_next : (rest : List RunModel) → Follows b part → HoldsMore (b ∷ rest) (with_part true (is_some (run_behind part 0 rest)) 1 part (b ∷ rest)) × IsHeldForMessage (with_part true (is_some (run_behind part 0 rest)) 1 part (b ∷ rest)) part.place part.number
      by_next [] is =
          let at = is.place in
          let after = joined_after b (single_run part) in (
            grown b (chained_run b (single_run part)) [] [] refl refl (omega (arith, after)) (λ place n held. absurd held.has),
            record { run = chained_run b (single_run part); has = inl refl; from = low; to = omega (arith, after, at); message = is.number },
          )
      by_next (c ∷ cs) is = inner (precedes part c) refl
        where
          at : part.place ≡ place_after b
          at = is.place

          inner : (t : Bool) → precedes part c ≡ t → HoldsMore (b ∷ c ∷ cs) (with_part true (is_some (if t then Some c else None)) 1 part (b ∷ c ∷ cs)) × IsHeldForMessage (with_part true (is_some (if t then Some c else None)) 1 part (b ∷ c ∷ cs)) part.place part.number
          inner true e =
              let has = precedes_so part c e in
              let next = has.place in
              let sizes = length-append (single_run part).payloads c.payloads in
              let after = joined_after b (chained_run (single_run part) c) in (
                grown b (chained_run b (chained_run (single_run part) c)) cs (c ∷ cs) refl refl (omega (arith, after))
                    (λ place n held. elim held.has [
                      | inl same ↦
                          (let from : c.first ≤ place = subst (λ (r : RunModel). r.first ≤ place) same held.from in
                          let to : place < place_after c = subst (λ (r : RunModel). place < place_after r) same held.to in
                          record {
                            run = chained_run b (chained_run (single_run part) c);
                            has = inl refl;
                            from = omega (arith, from, next, at);
                            to = omega (arith, to, after, sizes, next, at);
                            message = is.number ∙ sym has.number ∙ ap (λ (r : RunModel). r.number) (sym same) ∙ held.message;
                          })
                      | inr t ↦ record { run = held.run; has = inr t; from = held.from; to = held.to; message = held.message }
                    ]),
                record { run = chained_run b (chained_run (single_run part) c); has = inl refl; from = low; to = omega (arith, after, sizes, at); message = is.number },
              )
          inner false e =
              let after = joined_after b (single_run part) in (
                grown b (chained_run b (single_run part)) (c ∷ cs) (c ∷ cs) refl refl (omega (arith, after)) (λ place n held. among (chained_run b (single_run part)) (c ∷ cs) place n held),
                record { run = chained_run b (single_run part); has = inl refl; from = low; to = omega (arith, after, at); message = is.number },
              )

      behind : (new : List RunModel) → HoldsMore rest new × IsHeldForMessage new part.place part.number → HoldsMore (b ∷ rest) (b ∷ new) × IsHeldForMessage (b ∷ new) part.place part.number
      behind new kept = (
        λ place n held. elim held.has [
          | inl same ↦ record { run = held.run; has = inl same; from = held.from; to = held.to; message = held.message }
          | inr t ↦ among b new place n (kept.0 place n (record { run = held.run; has = t; from = held.from; to = held.to; message = held.message }))
        ],
        among b new part.place part.number kept.1,
      )

      go : (t : Bool) → follows b part ≡ t → HoldsMore (b ∷ rest) (with_part (is_some (if t then Some b else None)) (is_some (run_behind part 0 rest)) 1 part (b ∷ rest))
          × IsHeldForMessage (with_part (is_some (if t then Some b else None)) (is_some (run_behind part 0 rest)) 1 part (b ∷ rest)) part.place part.number
      go true e = by_next rest (follows_so b part low e)
      go false e =
          subst (λ (l : List RunModel). HoldsMore (b ∷ rest) l × IsHeldForMessage l part.place part.number) (sym (with_part_one (is_some (run_behind part 0 rest)) part b rest))
          (behind (with_part false (is_some (run_behind part 0 rest)) 0 part rest) (kept_first rest))

  kept_held : (k : ℕ) (runs : List RunModel) → IsRunPlace (suc k) part.place runs
      → HoldsMore runs (with_part (is_some (run_before (suc k) runs part)) (is_some (run_behind part (suc k) runs)) (suc k) part runs)
      × IsHeldForMessage (with_part (is_some (run_before (suc k) runs part)) (is_some (run_behind part (suc k) runs)) (suc k) part runs) part.place part.number
  kept_held k [] place = absurd (let within = place.within in omega (arith, within))
  kept_held zero (b ∷ rest) place = kept_second b rest place.before
  kept_held (suc k) (r ∷ rest) place =
      let within = place.within in
      subst (λ (l : List RunModel). HoldsMore (r ∷ rest) l × IsHeldForMessage l part.place part.number) (sym (with_part_on (is_some (run_before (suc k) rest part)) (is_some (run_behind part (suc k) rest)) k part r rest))
      (behind _ (kept_held k rest (record { within = omega (arith, within); before = place.before; behind = place.behind })))
    where
      behind : (new : List RunModel) → HoldsMore rest new × IsHeldForMessage new part.place part.number → HoldsMore (r ∷ rest) (r ∷ new) × IsHeldForMessage (r ∷ new) part.place part.number
      behind new kept = (
        λ at n held. elim held.has [
          | inl same ↦ record { run = held.run; has = inl same; from = held.from; to = held.to; message = held.message }
          | inr t ↦ among r new at n (kept.0 at n (record { run = held.run; has = t; from = held.from; to = held.to; message = held.message }))
        ],
        among r new part.place part.number kept.1,
      )

-- ---- a part that makes its message whole

module _ (part : PartModel) where
  -- all that these hold those do, but for the part's message
  abbrev HoldsOthers : List RunModel → List RunModel → Type 0
  HoldsOthers old new = (place number : ℕ) → IsHeldForMessage old place number → IsHeldForMessage new place number ⊎ (number ≡ part.number)

  others_with : (r : RunModel) (old new : List RunModel) → HoldsOthers old new → HoldsOthers (r ∷ old) (r ∷ new)
  others_with r old new others place n held =
      elim held.has [
        | inl same ↦ inl (record { run = held.run; has = inl same; from = held.from; to = held.to; message = held.message })
        | inr t ↦ elim (others place n (record { run = held.run; has = t; from = held.from; to = held.to; message = held.message })) [ inl h ↦ inl (among r new place n h) | inr e ↦ inr e ]
      ]

  others_without : (r : RunModel) (old new : List RunModel) → r.number ≡ part.number → HoldsOthers old new → HoldsOthers (r ∷ old) new
  others_without r old new number others place n held =
      elim held.has [
        | inl same ↦ inr (sym held.message ∙ ap (λ (x : RunModel). x.number) same ∙ number)
        | inr t ↦ others place n (record { run = held.run; has = t; from = held.from; to = held.to; message = held.message })
      ]

  whole_first : (runs : List RunModel) → HoldsOthers runs (drop (back_start (is_some (run_behind part 0 runs)) 0) runs)
  whole_first [] = λ place n held. absurd held.has
  whole_first (c ∷ cs) = go (precedes part c) refl
    where
      go : (b : Bool) → precedes part c ≡ b → HoldsOthers (c ∷ cs) (drop (back_start (is_some (if b then Some c else None)) 0) (c ∷ cs))
      go true e = others_without c cs cs (let is = precedes_so part c e in is.number) (λ place n held. inl held)
      go false e = λ place n held. inl held

  whole_second : (b : RunModel) (rest : List RunModel) → b.first ≤ part.place → HoldsOthers (b ∷ rest) (without_runs (is_some (following (Some b) part)) (is_some (run_behind part 0 rest)) 1 (b ∷ rest))
  whole_second b rest low = go (follows b part) refl
    where
      go : (t : Bool) → follows b part ≡ t → HoldsOthers (b ∷ rest) (without_runs (is_some (if t then Some b else None)) (is_some (run_behind part 0 rest)) 1 (b ∷ rest))
      go true e =
          subst (λ (l : List RunModel). HoldsOthers (b ∷ rest) l) (sym (without_one (is_some (run_behind part 0 rest)) b rest).0)
          (others_without b rest (drop (back_start (is_some (run_behind part 0 rest)) 0) rest) (let is = follows_so b part low e in is.number) (whole_first rest))
      go false e =
          subst (λ (l : List RunModel). HoldsOthers (b ∷ rest) l) (sym (without_one (is_some (run_behind part 0 rest)) b rest).1)
          (others_with b rest (drop (back_start (is_some (run_behind part 0 rest)) 0) rest) (whole_first rest))

  whole_held : (k : ℕ) (runs : List RunModel) → IsRunPlace (suc k) part.place runs → HoldsOthers runs (without_runs (is_some (run_before (suc k) runs part)) (is_some (run_behind part (suc k) runs)) (suc k) runs)
  whole_held k [] place = absurd (let within = place.within in omega (arith, within))
  whole_held zero (b ∷ rest) place = whole_second b rest place.before
  whole_held (suc k) (r ∷ rest) place =
      let within = place.within in
      subst (λ (l : List RunModel). HoldsOthers (r ∷ rest) l) (sym (without_on (is_some (run_before (suc k) rest part)) (is_some (run_behind part (suc k) rest)) k r rest))
      (others_with r rest (without_runs (is_some (run_before (suc k) rest part)) (is_some (run_behind part (suc k) rest)) (suc k) rest)
      (whole_held k rest (record { within = omega (arith, within); before = place.before; behind = place.behind })))

-- ---- a part

pub parts_leave_held : (part : PartModel) (old new : List RunModel) (outcome : Assembly) → AddsPart part old outcome new → LeavesPartsHeld part old outcome new
parts_leave_held part old new part_dropped adds = subst (λ (l : List RunModel). (place number : ℕ) → IsHeldForMessage old place number → IsHeldForMessage l place number) (sym adds.adds.1) (λ place number held. held)
parts_leave_held part old new part_kept adds = go adds.at adds.place adds.adds
  where
    go : (at : ℕ) → IsRunPlace at part.place old → (is_held_before at old part.place ≡ false) × (is_whole (merged_run at old part) ≡ false) × (new ≡ with_part (is_some (run_before at old part)) (is_some (run_behind part at old)) at part old)
        → HoldsMore old new × IsHeldForMessage new part.place part.number
    go zero place does = subst (λ (l : List RunModel). HoldsMore old l × IsHeldForMessage l part.place part.number) (sym does.2) (kept_first part old)
    go (suc k) place does = subst (λ (l : List RunModel). HoldsMore old l × IsHeldForMessage l part.place part.number) (sym does.2) (kept_held part k old place)
parts_leave_held part old new (message_whole message) adds = go adds.at adds.place adds.adds
  where
    go : (at : ℕ) → IsRunPlace at part.place old
        → (is_held_before at old part.place ≡ false) × (is_whole (merged_run at old part) ≡ true) × (message ≡ whole_run (merged_run at old part)) × (new ≡ without_runs (is_some (run_before at old part)) (is_some (run_behind part at old)) at old) → HoldsOthers part old new
    go zero place does = subst (λ (l : List RunModel). HoldsOthers part old l) (sym does.3) (whole_first part old)
    go (suc k) place does = subst (λ (l : List RunModel). HoldsOthers part old l) (sym does.3) (whole_held part k old place)

-- ---- a message of which a part is missing

-- the first of these, if one of them holds the place at which they begin
head_holds : (from number : ℕ) (runs : List RunModel) → LieApart from runs → IsHeldForMessage runs from number → (head : RunModel) × (rest : List RunModel) × (runs ≡ head ∷ rest) × (head.first ≡ from) × (head.number ≡ number)
head_holds from number [] lie held = absurd held.has
head_holds from number (r ∷ runs) lie held =
    elim held.has [
      | inl same ↦
          (r, runs, refl, (let low = lie.0 in let up : r.first ≤ from = subst (λ (x : RunModel). x.first ≤ from) same held.from in omega (arith, low, up)), ap (λ (x : RunModel). x.number) (sym same) ∙ held.message)
      | inr t ↦
          absurd
          (let low = lie.0 in
          let some = lie.1 in
          let far = starts_from (place_after r) runs lie.4 held.run t in
          let up = held.from in
          omega (arith, low, some, far, up))
    ]
  where
    starts_from : (low : ℕ) (runs : List RunModel) → LieApart low runs → (run : RunModel) → HasEntry run runs → low ≤ run.first
    starts_from low [] lie' run has = absurd has
    starts_from low (x ∷ xs) lie' run has =
        elim has [
          | inl same ↦ subst (λ (y : RunModel). low ≤ y.first) (sym same) lie'.0
          | inr t ↦ (let first = lie'.0 in let more = starts_from (place_after x) xs lie'.4 run t in omega (arith, first, more))
        ]

pub one_is_missing_from : (from : ℕ) (runs : List RunModel) (number first last : ℕ) → LieApart from runs → SpansMessage runs number first last → first ≤ last → ((place : ℕ) → first ≤ place → place ≤ last → IsHeldForMessage runs place number) → ⊥
one_is_missing_from from [] number first last lie spans up all = (all first (omega arith) up).has
one_is_missing_from from (r ∷ runs) number first last lie spans up all =
    elim (all first (omega arith) up).has [
      | inl same ↦ here same
      | inr t ↦ there (λ spans' all'. one_is_missing_from (place_after r) runs number first last lie.4 spans' up all') t
    ]
  where
    starts_from : (low : ℕ) (runs : List RunModel) → LieApart low runs → (run : RunModel) → HasEntry run runs → low ≤ run.first
    starts_from low [] lie' run has = absurd has
    starts_from low (x ∷ xs) lie' run has =
        elim has [
          | inl same ↦ subst (λ (y : RunModel). low ≤ y.first) (sym same) lie'.0
          | inr t ↦ (let start = lie'.0 in let more = starts_from (place_after x) xs lie'.4 run t in omega (arith, start, more))
        ]

    -- none of these lies in the first run
    beyond : (place : ℕ) → place_after r ≤ place → IsHeldForMessage (r ∷ runs) place number → IsHeldForMessage runs place number
    beyond place low held =
        elim held.has [
          | inl same ↦ absurd (let to : place < place_after r = subst (λ (x : RunModel). place < place_after x) same held.to in omega (arith, to, low))
          | inr t ↦ record { run = held.run; has = t; from = held.from; to = held.to; message = held.message }
        ]

    there : (SpansMessage runs number first last → ((place : ℕ) → first ≤ place → place ≤ last → IsHeldForMessage runs place number) → ⊥) → HasEntry (all first (omega arith) up).run runs → ⊥
    there again t =
        let low = starts_from (place_after r) runs lie.4 (all first (omega arith) up).run t in
        let at = (all first (omega arith) up).from in
        again
        (record {
          begins = λ run has. spans.begins run (inr has);
          ends = λ run has. spans.ends run (inr has);
          begun = λ run has. spans.begun run (inr has);
          ended = λ run has. spans.ended run (inr has);
        }) (λ place from' to'. beyond place (omega (arith, low, at, from')) (all place from' to'))

    here : (all first (omega arith) up).run ≡ r → ⊥
    here same =
        let first_held = all first (omega arith) up in
        let its : r.number ≡ number = ap (λ (x : RunModel). x.number) (sym same) ∙ first_held.message in
        let from' : r.first ≤ first = subst (λ (x : RunModel). x.first ≤ first) same first_held.from in
        let to' : first < place_after r = subst (λ (x : RunModel). first < place_after x) same first_held.to in
        let beginning : r.has_beginning ≡ true = spans.begun r (inl refl) its from' to' in
        elim (leb_tells (place_after r) last) [
          | inr e ↦
              (let far : last < place_after r = e.1 in
              let end : r.has_end ≡ true = spans.ended r (inl refl) its (omega (arith, from', up)) far in
              let clash : true ≡ false = sym (ap (λ (b : Bool). b && r.has_end) beginning ∙ end) ∙ lie.2 in
              absurd (cc))
          | inl e ↦
              (let next_up : place_after r ≤ last = e.1 in
              let next_held : IsHeldForMessage runs (place_after r) number = beyond (place_after r) (omega arith) (all (place_after r) (omega (arith, to')) next_up) in
              let (head, rest, is, at, of) = head_holds (place_after r) number runs lie.4 next_held in
              let continues : is_continued r head ≡ false = subst (λ (l : List RunModel). NoneContinues r l) is lie.3 in
              let has : HasEntry head (r ∷ runs) = inr (subst (λ (l : List RunModel). HasEntry head l) (sym is) (inl refl)) in
              joined head at of has next_up to' its continues)
        ]
      where
        joined : (head : RunModel) → head.first ≡ place_after r → head.number ≡ number → HasEntry head (r ∷ runs) → place_after r ≤ last → first < place_after r → r.number ≡ number → is_continued r head ≡ false → ⊥
        joined head at of has next_up to' its continues = go r.has_end refl head.has_beginning refl
          where
            go : (e : Bool) → r.has_end ≡ e → (b : Bool) → head.has_beginning ≡ b → ⊥
            go true e b is = absurd (let end = spans.ends r (inl refl) its e in omega (arith, end, next_up))
            go false e true is = absurd (let begin = spans.begins head has of is in omega (arith, begin, at, to'))
            go false e false is =
                let places : (head.first == place_after r) ≡ true = elim (eqb_tells head.first (place_after r)) [ inl t ↦ t.0 | inr t ↦ absurd (t.1 at) ] in
                let numbers : (r.number == head.number) ≡ true = elim (eqb_tells r.number head.number) [ inl t ↦ t.0 | inr t ↦ absurd (t.1 (its ∙ sym of)) ] in
                let is_so : is_continued r head ≡ true =
                ap (λ (x : Bool). x && (r.number == head.number) && not r.has_end && not head.has_beginning) places
                ∙ ap (λ (x : Bool). x && not r.has_end && not head.has_beginning) numbers
                ∙ ap (λ (x : Bool). not x && not head.has_beginning) e ∙ ap (λ (x : Bool). not x) is in
                let clash : true ≡ false = sym is_so ∙ continues in
                absurd (cc)

pub one_is_missing : (runs : List RunModel) (number first last : ℕ) → LieApart 0 runs → SpansMessage runs number first last → first ≤ last → ((place : ℕ) → first ≤ place → place ≤ last → IsHeldForMessage runs place number) → ⊥
one_is_missing runs number first last lie spans up all = one_is_missing_from 0 runs number first last lie spans up all
