-- Which TSNs are new.
use Rattle.std.proofs.Common.{◌≡◌, ◌==◌, ℕ, Bool, true, false, ◌<◌, ◌≤◌, ◌+◌, ◌%◌, ◌^◌, List, [], ◌∷◌, refl, sym, ◌∙◌, ap, arith, subst, inl, inr}
use Rattle.std.specs.Prelude.{◌⊎◌, ◌||◌, not, nat_le, if◌then◌else◌}
use Rattle.std.proofs.lemmas.Bool.Decides.{nat_tests, leb_tells}
use Rattle.dcsctp_spec_lemmas.specs.types.declared.tracking.TsnRange.{TsnRange}
use Rattle.dcsctp_spec_lemmas.specs.spec.queues.Numbers.{number_near}
use Rattle.dcsctp_spec_lemmas.specs.spec.queues.Ranges.{IsBeyond, is_number_covered, is_received}
use Rattle.dcsctp_spec_lemmas.specs.spec.queues.Tracker.{TrackerState, has_received, nearest_number, is_new_tsn, tracker_after_data, is_forward, moved_forward, delay_over, after_forward}
use Rattle.dcsctp_spec_lemmas.proofs.RangesLemmas.{received_beyond, received_members, forwarded_beyond, forwarded_members}
use Rattle.dcsctp_delivery_directions.specs.sending.Places.{HasEntry}
use Rattle.dcsctp_delivery_directions.specs.receiving.Tracked.{tracked_number, Tracks}

pub number_is : (first count offset cumulative : ℕ) → first < 2 ^ 32 → count < 2 ^ 31 → offset < count → cumulative + 1 ≤ tracked_number first count → tracked_number first 0 ≤ cumulative + 1
    → nearest_number cumulative ((first + offset) % 2 ^ 32) ≡ tracked_number first offset
number_is first count offset cumulative small few below reached started = grind (arith, nat_tests)

-- the number after those before the ranges is missing
is_missing : (from number : ℕ) (ranges : List TsnRange) → IsBeyond from ranges → number ≤ from + 1 → is_number_covered number ranges ≡ false
is_missing from number [] beyond up = refl
is_missing from number (range ∷ ranges) beyond up =
    let rest = is_missing range.last number ranges beyond.2 (omega (arith, beyond.0, beyond.1)) in
    let before : nat_le range.first number ≡ false = (let above = beyond.0 in grind (arith, nat_tests)) in
    grind (arith, rest, before)

-- the TSN after the cumulative one isn't received
all_received : (cumulative number : ℕ) (ranges : List TsnRange) → IsBeyond cumulative ranges → is_received cumulative (cumulative + 1) ranges ≡ false
all_received cumulative number ranges beyond =
    let missing = is_missing cumulative (cumulative + 1) ranges beyond (omega arith) in
    let past : nat_le (cumulative + 1) cumulative ≡ false = grind (arith, nat_tests) in
    grind (arith, missing, past)

is_itself : (cumulative : ℕ) (ranges : List TsnRange) → is_received cumulative cumulative ranges ≡ true
is_itself cumulative ranges =
    let here : nat_le cumulative cumulative ≡ true = grind (arith, nat_tests) in
    grind (arith, here)

pub up_to : (cumulative number : ℕ) (ranges : List TsnRange) → number ≤ cumulative → is_received cumulative number ranges ≡ true
up_to cumulative number ranges up =
    let here : nat_le number cumulative ≡ true = grind (arith, nat_tests) in
    grind (arith, here)

-- where what is received grows, the number up to which all is received isn't lower
not_lower : (old new : TrackerState) (Fresh : ℕ → Bool) → IsBeyond new.cumulative new.ranges → ((other : ℕ) → has_received new other ≡ (has_received old other || Fresh other)) → old.cumulative ≤ new.cumulative
not_lower old new Fresh beyond members =
    elim (leb_tells old.cumulative new.cumulative) [
      | inl e ↦ e.1
      | inr e ↦
          (let less : new.cumulative < old.cumulative = e.1 in
          let missing : has_received new (new.cumulative + 1) ≡ false = all_received new.cumulative 0 new.ranges beyond in
          let there : has_received old (new.cumulative + 1) ≡ true = up_to old.cumulative (new.cumulative + 1) old.ranges (omega (arith, less)) in
          let clash : true ≡ false = sym (ap (λ (b : Bool). b || Fresh (new.cumulative + 1)) there) ∙ sym (members (new.cumulative + 1)) ∙ missing in
          absurd (cc))
    ]

-- a set of received numbers that grew by such as were sent
grown : (first count : ℕ) (taken now : List ℕ) (old new : TrackerState) (Fresh : ℕ → Bool) → Tracks first count taken old → IsBeyond new.cumulative new.ranges
    → ((other : ℕ) → has_received new other ≡ (has_received old other || Fresh other)) → ((other : ℕ) → Fresh other ≡ true → other + 1 ≤ tracked_number first count)
    → ((offset : ℕ) → HasEntry offset now → has_received new (tracked_number first offset) ≡ true) → Tracks first count now new
grown first count taken now old new Fresh tracks beyond members fresh received =
    let sent : (number : ℕ) → has_received new number ≡ true → number + 1 ≤ tracked_number first count = λ number is. go number (has_received old number) refl (sym (members number) ∙ is) in
    record {
      beyond = beyond;
      reached = sent new.cumulative (is_itself new.cumulative new.ranges);
      started = (let up = not_lower old new Fresh beyond members in omega (arith, up, tracks.started));
      sent = sent;
      received = received;
    }
  where
    go : (number : ℕ) (b : Bool) → has_received old number ≡ b → (has_received old number || Fresh number) ≡ true → number + 1 ≤ tracked_number first count
    go number true is either = tracks.sent number is
    go number false is either = fresh number (sym (ap (λ (c : Bool). c || Fresh number) is) ∙ either)

still_received : (old fresh : Bool) → old ≡ true → (old || fresh) ≡ true
still_received true fresh e = refl
still_received false fresh e = absurd (cc)

or_fresh : (old fresh : Bool) → fresh ≡ true → (old || fresh) ≡ true
or_fresh true fresh e = refl
or_fresh false fresh e = e

equals : (n : ℕ) → (n == n) ≡ true
equals n = grind (arith, nat_tests)

is_equal : (m n : ℕ) → (m == n) ≡ true → m ≡ n
is_equal m n e = grind (arith, nat_tests, e)

is_ahead : (cumulative tsn : ℕ) → is_forward cumulative tsn ≡ true → cumulative < nearest_number cumulative tsn
is_ahead cumulative tsn forward = grind (arith, nat_tests, forward)

pub new_is_new : (first count offset : ℕ) (immediate : Bool) (taken : List ℕ) (tracker : TrackerState) → first < 2 ^ 32 → count < 2 ^ 31 → offset < count → Tracks first count taken tracker
    → Tracks first count (offset ∷ taken) (tracker_after_data ((first + offset) % 2 ^ 32) immediate tracker)
    × (is_new_tsn ((first + offset) % 2 ^ 32) tracker ≡ true → HasEntry offset taken → ⊥)
new_is_new first count offset immediate taken tracker small few below tracks = (
  grown first count taken (offset ∷ taken) tracker (tracker_after_data tsn immediate tracker) (λ other. other == number) tracks (received_beyond number tracker.cumulative tracker.ranges tracks.beyond) members
      (λ other e. (let same : other ≡ number = is_equal other number e in omega (arith, here)))
      (λ k h. elim h [
        | inl e ↦ members (tracked_number first k) ∙ or_fresh (has_received tracker (tracked_number first k)) (tracked_number first k == number) (ap (λ (n : ℕ). tracked_number first n == number) e ∙ ap (λ (n : ℕ). n == number) (sym here) ∙ equals number)
        | inr t ↦ members (tracked_number first k) ∙ still_received (has_received tracker (tracked_number first k)) (tracked_number first k == number) (tracks.received k t)
      ]),
  λ new h. (
      let known : has_received tracker number ≡ true = ap (has_received tracker) here ∙ tracks.received offset h in
      let clash : false ≡ true = sym (ap not known) ∙ new in
      absurd (cc)
      ),
)
  where
    tsn : ℕ
    tsn = (first + offset) % 2 ^ 32

    number : ℕ
    number = nearest_number tracker.cumulative ((first + offset) % 2 ^ 32)

    here : number ≡ tracked_number first offset
    here = number_is first count offset tracker.cumulative small few below tracks.reached tracks.started

    members : (other : ℕ) → has_received (tracker_after_data tsn immediate tracker) other ≡ (has_received tracker other || (other == number))
    members other = received_members number tracker.cumulative tracker.ranges tracks.beyond other

pub passing_keeps : (first count offset : ℕ) (taken : List ℕ) (tracker : TrackerState) → first < 2 ^ 32 → count < 2 ^ 31 → offset < count → Tracks first count taken tracker
    → is_forward tracker.cumulative ((first + offset) % 2 ^ 32) ≡ true → Tracks first count taken (after_forward ((first + offset) % 2 ^ 32) tracker)
passing_keeps first count offset taken tracker small few below tracks forward =
    subst (λ (t : TrackerState). Tracks first count taken t) (sym moved)
    (grown first count taken taken tracker (moved_forward ((first + offset) % 2 ^ 32) tracker) (λ other. nat_le other number) tracks (forwarded_beyond number tracker.cumulative tracker.ranges tracks.beyond)
    (λ other. forwarded_members number tracker.cumulative tracker.ranges ahead tracks.beyond other)
    (λ other e. (let up : other ≤ number = grind (arith, nat_tests, e) in omega (arith, here)))
    (λ k h. forwarded_members number tracker.cumulative tracker.ranges ahead tracks.beyond (tracked_number first k) ∙ still_received (has_received tracker (tracked_number first k)) (nat_le (tracked_number first k) number) (tracks.received k h)))
  where
    number : ℕ
    number = nearest_number tracker.cumulative ((first + offset) % 2 ^ 32)

    here : number ≡ tracked_number first offset
    here = number_is first count offset tracker.cumulative small few below tracks.reached tracks.started

    ahead : tracker.cumulative < number
    ahead = is_ahead tracker.cumulative ((first + offset) % 2 ^ 32) forward

    moved : after_forward ((first + offset) % 2 ^ 32) tracker ≡ moved_forward ((first + offset) % 2 ^ 32) tracker
    moved = go (is_forward tracker.cumulative ((first + offset) % 2 ^ 32)) forward
      where
        go : (b : Bool) → b ≡ true → (if b then moved_forward ((first + offset) % 2 ^ 32) tracker else delay_over tracker) ≡ moved_forward ((first + offset) % 2 ^ 32) tracker
        go true e = refl
        go false e = absurd (cc)

-- What counts as received after a FORWARD-TSN did before, or was passed by it.
pub passed_either : (first count offset : ℕ) (taken : List ℕ) (tracker : TrackerState) → first < 2 ^ 32 → count < 2 ^ 31 → offset < count → Tracks first count taken tracker
    → is_forward tracker.cumulative ((first + offset) % 2 ^ 32) ≡ true → (k : ℕ) → has_received (after_forward ((first + offset) % 2 ^ 32) tracker) (tracked_number first k) ≡ true
    → (has_received tracker (tracked_number first k) ≡ true) ⊎ (k < offset + 1)
passed_either first count offset taken tracker small few below tracks forward k is =
    go (has_received tracker (tracked_number first k)) refl
    (sym (forwarded_members number tracker.cumulative tracker.ranges ahead tracks.beyond (tracked_number first k)) ∙ moved (is_forward tracker.cumulative ((first + offset) % 2 ^ 32)) forward is)
  where
    number : ℕ
    number = nearest_number tracker.cumulative ((first + offset) % 2 ^ 32)

    here : number ≡ tracked_number first offset
    here = number_is first count offset tracker.cumulative small few below tracks.reached tracks.started

    ahead : tracker.cumulative < number
    ahead = is_ahead tracker.cumulative ((first + offset) % 2 ^ 32) forward

    moved : (b : Bool) → b ≡ true → has_received (if b then moved_forward ((first + offset) % 2 ^ 32) tracker else delay_over tracker) (tracked_number first k) ≡ true → has_received (moved_forward ((first + offset) % 2 ^ 32) tracker) (tracked_number first k) ≡ true
    moved true e received_is = received_is
    moved false e received_is = absurd (cc)

    go : (b : Bool) → has_received tracker (tracked_number first k) ≡ b → (b || nat_le (tracked_number first k) number) ≡ true → (has_received tracker (tracked_number first k) ≡ true) ⊎ (k < offset + 1)
    go true known either = inl known
    go false known either = inr (let up : tracked_number first k ≤ number = grind (arith, nat_tests, either) in omega (arith, up, here))

-- A FORWARD-TSN moves it at least to its TSN.
pub forward_reaches : (first count offset : ℕ) (taken : List ℕ) (tracker : TrackerState) → first < 2 ^ 32 → count < 2 ^ 31 → offset < count → Tracks first count taken tracker
    → is_forward tracker.cumulative ((first + offset) % 2 ^ 32) ≡ true → tracked_number first offset ≤ (after_forward ((first + offset) % 2 ^ 32) tracker).cumulative
forward_reaches first count offset taken tracker small few below tracks forward = go (is_forward tracker.cumulative ((first + offset) % 2 ^ 32)) forward
  where
    number : ℕ
    number = nearest_number tracker.cumulative ((first + offset) % 2 ^ 32)

    here : number ≡ tracked_number first offset
    here = number_is first count offset tracker.cumulative small few below tracks.reached tracks.started

    ahead : tracker.cumulative < number
    ahead = is_ahead tracker.cumulative ((first + offset) % 2 ^ 32) forward

    moved : tracked_number first offset ≤ (moved_forward ((first + offset) % 2 ^ 32) tracker).cumulative
    moved =
        elim (leb_tells (tracked_number first offset) (moved_forward ((first + offset) % 2 ^ 32) tracker).cumulative) [
          | inl e ↦ e.1
          | inr e ↦ absurd
              (let less : (moved_forward ((first + offset) % 2 ^ 32) tracker).cumulative < tracked_number first offset = e.1 in
              let low : nat_le ((moved_forward ((first + offset) % 2 ^ 32) tracker).cumulative + 1) number ≡ true =
              elim (leb_tells ((moved_forward ((first + offset) % 2 ^ 32) tracker).cumulative + 1) number) [ inl e' ↦ e'.0 | inr e' ↦ absurd (let no_more = e'.1 in omega (arith, no_more, less, here)) ] in
              let known : has_received (moved_forward ((first + offset) % 2 ^ 32) tracker) ((moved_forward ((first + offset) % 2 ^ 32) tracker).cumulative + 1) ≡ true =
              forwarded_members number tracker.cumulative tracker.ranges ahead tracks.beyond ((moved_forward ((first + offset) % 2 ^ 32) tracker).cumulative + 1)
              ∙ or_fresh (has_received tracker ((moved_forward ((first + offset) % 2 ^ 32) tracker).cumulative + 1)) (nat_le ((moved_forward ((first + offset) % 2 ^ 32) tracker).cumulative + 1) number) low in
              let missing : has_received (moved_forward ((first + offset) % 2 ^ 32) tracker) ((moved_forward ((first + offset) % 2 ^ 32) tracker).cumulative + 1) ≡ false =
              all_received (moved_forward ((first + offset) % 2 ^ 32) tracker).cumulative 0 (moved_forward ((first + offset) % 2 ^ 32) tracker).ranges (forwarded_beyond number tracker.cumulative tracker.ranges tracks.beyond) in
              let clash : true ≡ false = sym known ∙ missing in
              cc)
        ]

    go : (b : Bool) → b ≡ true → tracked_number first offset ≤ (if b then moved_forward ((first + offset) % 2 ^ 32) tracker else delay_over tracker).cumulative
    go true e = moved
    go false e = absurd (cc)

-- ---- the cumulative number

pub observed_up : (tsn : ℕ) (immediate : Bool) (tracker : TrackerState) → IsBeyond tracker.cumulative tracker.ranges → tracker.cumulative ≤ (tracker_after_data tsn immediate tracker).cumulative
observed_up tsn immediate tracker beyond =
    not_lower tracker (tracker_after_data tsn immediate tracker) (λ other. other == nearest_number tracker.cumulative tsn) (received_beyond (nearest_number tracker.cumulative tsn) tracker.cumulative tracker.ranges beyond)
    (received_members (nearest_number tracker.cumulative tsn) tracker.cumulative tracker.ranges beyond)

pub forward_up : (tsn : ℕ) (tracker : TrackerState) → IsBeyond tracker.cumulative tracker.ranges → tracker.cumulative ≤ (after_forward tsn tracker).cumulative
forward_up tsn tracker beyond = go (is_forward tracker.cumulative tsn) refl
  where
    moved : is_forward tracker.cumulative tsn ≡ true → tracker.cumulative ≤ (moved_forward tsn tracker).cumulative
    moved is =
        let ahead : tracker.cumulative < nearest_number tracker.cumulative tsn = is_ahead tracker.cumulative tsn is in
        not_lower tracker (moved_forward tsn tracker) (λ other. nat_le other (nearest_number tracker.cumulative tsn)) (forwarded_beyond (nearest_number tracker.cumulative tsn) tracker.cumulative tracker.ranges beyond)
        (forwarded_members (nearest_number tracker.cumulative tsn) tracker.cumulative tracker.ranges ahead beyond)

    go : (b : Bool) → is_forward tracker.cumulative tsn ≡ b → tracker.cumulative ≤ (if b then moved_forward tsn tracker else delay_over tracker).cumulative
    go true is = moved is
    go false is = omega arith

-- a TSN that is new lies beyond it
pub new_beyond : (first count offset : ℕ) (taken : List ℕ) (tracker : TrackerState) → first < 2 ^ 32 → count < 2 ^ 31 → offset < count → Tracks first count taken tracker
    → is_new_tsn ((first + offset) % 2 ^ 32) tracker ≡ true → tracker.cumulative < tracked_number first offset
new_beyond first count offset taken tracker small few below tracks new =
    let number : ℕ = nearest_number tracker.cumulative ((first + offset) % 2 ^ 32) in
    let here : number ≡ tracked_number first offset = number_is first count offset tracker.cumulative small few below tracks.reached tracks.started in
    elim (leb_tells number tracker.cumulative) [
      | inl e ↦
          (let known : has_received tracker number ≡ true = up_to tracker.cumulative number tracker.ranges e.1 in
          let clash : false ≡ true = sym (ap not known) ∙ new in
          absurd (cc))
      | inr e ↦ (let beyond : tracker.cumulative < number = e.1 in omega (arith, beyond, here))
    ]

-- so does one to which a FORWARD-TSN moves it
pub forward_beyond : (first count offset : ℕ) (taken : List ℕ) (tracker : TrackerState) → first < 2 ^ 32 → count < 2 ^ 31 → offset < count → Tracks first count taken tracker
    → is_forward tracker.cumulative ((first + offset) % 2 ^ 32) ≡ true → tracker.cumulative < tracked_number first offset
forward_beyond first count offset taken tracker small few below tracks forward =
    let here : nearest_number tracker.cumulative ((first + offset) % 2 ^ 32) ≡ tracked_number first offset = number_is first count offset tracker.cumulative small few below tracks.reached tracks.started in
    let ahead = is_ahead tracker.cumulative ((first + offset) % 2 ^ 32) forward in
    omega (arith, here, ahead)

pub more_given_out : (first count more : ℕ) (taken : List ℕ) (tracker : TrackerState) → count ≤ more → Tracks first count taken tracker → Tracks first more taken tracker
more_given_out first count more taken tracker up tracks =
    record {
      beyond = tracks.beyond;
      reached = omega (arith, tracks.reached);
      started = tracks.started;
      sent = λ number is. omega (arith, tracks.sent number is);
      received = tracks.received;
    }

-- An acknowledgement that is due at once leaves what is received.
pub delayed_tracks : (first count : ℕ) (taken : List ℕ) (tracker : TrackerState) → Tracks first count taken tracker → Tracks first count taken (delay_over tracker)
delayed_tracks first count taken tracker tracks = record { beyond = tracks.beyond; reached = tracks.reached; started = tracks.started; sent = tracks.sent; received = tracks.received }

pub tsns_read : (base worked offset : ℕ) → worked < 2 ^ 31 → offset < 2 ^ 31 → base + 2 ^ 32 < 2 ^ 64 → number_near (base + worked) ((base + offset) % 2 ^ 32) ≡ base + offset
tsns_read base worked offset a b far = grind (arith, nat_tests)
