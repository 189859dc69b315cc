-- The place of a channel among those that wait, and what is left without it.
use Rattle.std.proofs.Common.{◌≡◌, ◌==◌, ◌<◌, ◌≤◌, ℕ, suc, ◌+◌, Bool, true, false, Option, Some, None, is_some, Result, List, [], ◌∷◌, length, map, drop, get_or, drop-cons, add-one, refl, sym, ap, subst, ◌∙◌, arith}
use Rattle.std.proofs.Math.ListN.{drop_of_length-le}
use Rattle.std.specs.List.{remove}
use Rattle.std.specs.Option.{IsSome, OnSome}
use Rattle.std.specs.Result.{OnOk}
use Rattle.std.proofs.lemmas.Bool.{ne_eqb, true≢false}
use Rattle.std.proofs.lemmas.List.{append-nil}
use Rattle.dcsctp_channel_calls.specs.api.types.ByResult.{ByResult}
use Rattle.dcsctp_channel_calls.specs.messages.channel_spec.declared.types.ChannelEnd.TheVariants.{Closed}
use Rattle.dcsctp_channel_calls.specs.messages.channel_spec.Slots.{ended}
use Rattle.dcsctp_channel_calls.specs.View.{WaitingChannel, of_channel, LayerView}
use Rattle.dcsctp_channel_calls.specs.Calls.{KeepsTaking}
use Rattle.dcsctp_channel_calls.specs.Opening.{channels_waiting}
use Rattle.dcsctp_channel_calls.specs.Events.{with_notices}
use Rattle.dcsctp_channel_calls.specs.Sending.{without_waiting, ends_waiting, layer_after_close}
use Rattle.dcsctp_channel_calls.specs.Queries.{is_waiting}
use Rattle.dcsctp_channels.specs.Layer.{waiting_said, place_from}
use Rattle.dcsctp_channels.specs.declared.layer.Waiting.{Waiting}
use Rattle.dcsctp_channels.proofs.Keeping.{keeps_same, keeps_report, reported_on}

pub record IsPlace (name : ℕ) (xs : List Waiting) (at : ℕ) : Type 0 where
  pub within : at < length xs
  pub removed : map waiting_said (remove xs at) ≡ without_waiting name (map waiting_said xs)
  pub ends : ends_waiting name (map waiting_said xs) ≡ of_channel (ended name Closed) ∷ []

pub record IsNowhere (name : ℕ) (xs : List Waiting) : Type 0 where
  pub same : without_waiting name (map waiting_said xs) ≡ map waiting_said xs
  pub ends : ends_waiting name (map waiting_said xs) ≡ []

at_head : (name : ℕ) (x : Waiting) (xs : List Waiting) → (x.id.0 == name) ≡ true → IsPlace name (x ∷ xs) 0
at_head name x xs is = record { within = omega arith; removed = rw is refl; ends = rw is refl }

past_head : (name at : ℕ) (x : Waiting) (xs : List Waiting) → (x.id.0 == name) ≡ false → IsPlace name xs at → IsPlace name (x ∷ xs) (suc at)
past_head name at x xs is place =
    record {
      within = let w : at < length xs = place.within in omega arith;
      removed = rw is (ap (λ (w : List _). waiting_said x ∷ w) place.removed);
      ends = rw is place.ends;
    }

not_at_head : (name : ℕ) (x : Waiting) (xs : List Waiting) → (x.id.0 == name) ≡ false → IsNowhere name xs → IsNowhere name (x ∷ xs)
not_at_head name x xs is none = record { same = rw is (ap (λ (w : List _). waiting_said x ∷ w) none.same); ends = rw is none.ends }

at_or_past : (name from place : ℕ) (x : Waiting) (xs : List Waiting) → place_from from name (map waiting_said (x ∷ xs)) ≡ Some place
    → (place_from (from + 1) name (map waiting_said xs) ≡ Some place → (at : ℕ) × (place ≡ from + 1 + at) × IsPlace name xs at)
    → (b : Bool) → (x.id.0 == name) ≡ b → (at : ℕ) × (place ≡ from + at) × IsPlace name (x ∷ xs) at
at_or_past name from place x xs found behind true is =
    let here : Some from ≡ Some place = rw is at found in
    let same : from ≡ place = cc in (0, omega arith, at_head name x xs is)
at_or_past name from place x xs found behind false is =
    let later : place_from (from + 1) name (map waiting_said xs) ≡ Some place = rw is at found in
    let there = behind later in
    let same : place ≡ from + 1 + there.0 = there.1 in (suc there.0, omega arith, past_head name there.0 x xs is there.2)

pub place_is : (name from place : ℕ) (xs : List Waiting) → place_from from name (map waiting_said xs) ≡ Some place → (at : ℕ) × (place ≡ from + at) × IsPlace name xs at
place_is name from place [] found = absurd cc
place_is name from place (x ∷ xs) found = at_or_past name from place x xs found (place_is name (from + 1) place xs) (x.id.0 == name) refl

nowhere : (name from : ℕ) (x : Waiting) (xs : List Waiting) → place_from from name (map waiting_said (x ∷ xs)) ≡ None
    → (place_from (from + 1) name (map waiting_said xs) ≡ None → IsNowhere name xs) → (b : Bool) → (x.id.0 == name) ≡ b → IsNowhere name (x ∷ xs)
nowhere name from x xs found behind true is = let here : Some from ≡ None = rw is at found in absurd cc
nowhere name from x xs found behind false is = not_at_head name x xs is (behind (rw is at found))

pub place_is_none : (name from : ℕ) (xs : List Waiting) → place_from from name (map waiting_said xs) ≡ None → IsNowhere name xs
place_is_none name from [] found = record { same = refl; ends = refl }
place_is_none name from (x ∷ xs) found = nowhere name from x xs found (place_is_none name (from + 1) xs) (x.id.0 == name) refl

-- ---- the walk

-- what is left from this place on
left_from : (xs : List Waiting) (at : ℕ) (x : Waiting) → at < length xs → x ≡ get_or xs at x → drop at xs ≡ x ∷ drop (at + 1) xs
left_from xs at x lt is = rw (add-one) (drop-cons xs at x lt ∙ ap (λ (y : Waiting). y ∷ drop (suc at) xs) (sym is))

pub place_next : (name at : ℕ) (xs : List Waiting) (x : Waiting) (all : Option ℕ) → at < length xs → x ≡ get_or xs at x → (x.id.0 ≡ name → ⊥)
    → place_from at name (map waiting_said (drop at xs)) ≡ all → place_from (at + 1) name (map waiting_said (drop (at + 1) xs)) ≡ all
place_next name at xs x all lt is other so_far =
    let far : (x.id.0 == name) ≡ false = ne_eqb x.id.0 name other in
    let step : place_from at name (map waiting_said (x ∷ drop (at + 1) xs)) ≡ all = subst (λ (ys : List Waiting). place_from at name (map waiting_said ys) ≡ all) (left_from xs at x lt is) so_far in
    rw far at step

pub place_none : (name at : ℕ) (xs : List Waiting) (all : Option ℕ) → length xs ≤ at → place_from at name (map waiting_said (drop at xs)) ≡ all → None ≡ all
place_none name at xs all le so_far = subst (λ (ys : List Waiting). place_from at name (map waiting_said ys) ≡ all) (drop_of_length-le xs le) so_far

-- it waits exactly if it has a place
waits_here : (name from : ℕ) (x : WaitingChannel) (xs : List WaitingChannel) → is_some (place_from (from + 1) name xs) ≡ is_waiting name xs → (b : Bool) → (x.name == name) ≡ b
    → is_some (place_from from name (x ∷ xs)) ≡ is_waiting name (x ∷ xs)
waits_here name from x xs behind true is = rw is refl
waits_here name from x xs behind false is = rw is behind

pub waits_at : (name from : ℕ) (waiting : List WaitingChannel) → is_some (place_from from name waiting) ≡ is_waiting name waiting
waits_at name from [] = refl
waits_at name from (x ∷ xs) = waits_here name from x xs (waits_at name (from + 1) xs) (x.name == name) refl

-- ---- it is closed

pub closed_none : (name : ℕ) (layer : LayerView) → without_waiting name layer.waiting ≡ layer.waiting → ends_waiting name layer.waiting ≡ [] → layer ≡ layer_after_close None name layer
closed_none name layer same ends = rw (same, ends, append-nil layer.notices) refl

pub closed_waiting : {A E : Type 0} (name : ℕ) (old mid new : LayerView) (rest : List WaitingChannel) (result : Result A E) → rest ≡ without_waiting name old.waiting
    → ends_waiting name old.waiting ≡ of_channel (ended name Closed) ∷ [] → mid ≡ channels_waiting rest old
    → ByResult (λ done. new ≡ with_notices (of_channel (ended name Closed) ∷ []) mid) (new ≡ mid) result
    → KeepsTaking old new × OnOk result (new ≡ layer_after_close None name old)
closed_waiting name old mid new rest result removed ends out reports = (
  keeps_report old mid new (of_channel (ended name Closed) ∷ []) result
      (subst (λ (l : LayerView). KeepsTaking old l) (sym out) (keeps_same old (channels_waiting rest old) refl refl refl refl)) reports,
  rw (← removed, ends) (reported_on mid (channels_waiting rest old) new (of_channel (ended name Closed) ∷ []) result out reports),
)

pub out_of : {A : Type 0} (result : Option A) (P : Type 0) → IsSome result → OnSome result P → P
out_of (Some x) P is p = p
out_of None P is p = absurd (true≢false (sym is))
