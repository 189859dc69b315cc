-- What is handed over goes on.
use Rattle.std.proofs.Common.{◌≡◌, ◌<◌, ◌≤◌, ◌&&◌, ◌==◌, ◌⊎◌, ℕ, Bool, true, false, not, cond, ltb, Option, Some, None, is_some, Ok, List, [], ◌∷◌, map, refl, sym, ap, subst, ◌∙◌, inl, inr, arith, lit<, bit_or, Ordering, Less, Equal, Greater}
use Rattle.std.specs.Cmp.{ranks}
use Rattle.std.specs.Ordering.{nat_cmp, is_eq, MatchOrdering}
use Rattle.std.specs.List.{list_all}
use Rattle.std.proofs.lemmas.Bool.{and_parts, ltb-true, lt-ltb, eqb-true, cases_eq}
use Rattle.std.proofs.lemmas.List.{nil_from_length}
use Rattle.std.proofs.lemmas.Nat.{le_or_l, le_or_r}
use Rattle.dcsctp_channel_laws.specs.Lives.{ComesFirst, AreRising, IsOrderly, is_placed, life_by_place}
use Rattle.dcsctp_channel_laws.proofs.Maps.{put_here, put_apart}
use Rattle.dcsctp_channel_laws.proofs.First.{begin_apart, states_true}
use Rattle.dcsctp_channel_calls.specs.api.types.Readiness.{reason_if_true}
use Rattle.dcsctp_channel_calls.specs.api.types.Snapshot.{Snapshot, snapshot}
use Rattle.dcsctp_channel_calls.specs.api.spec.Handover.{readiness_by_core}
use Rattle.dcsctp_channel_calls.specs.api.spec.SocketSnapshot.{snapshot_of, snapshot_by_core}
use Rattle.dcsctp_channel_calls.specs.api.spec.endpoint.Endpoint.{Endpoint, Core, closed, cookie_wait, cookie_echoed, open_in, held_by_core}
use Rattle.dcsctp_channel_calls.specs.api.spec.queues.Transfer.{Transfer}
use Rattle.dcsctp_channel_calls.specs.api.Calls.{is_closed}
use Rattle.dcsctp_channel_calls.specs.declared.channel.HeldStream.{HeldStream}
use Rattle.dcsctp_channel_calls.specs.declared.channel.ChannelState.TheVariants.{Closed}
use Rattle.dcsctp_channel_calls.specs.messages.channel_spec.Slots.{name_of_slot}
use Rattle.dcsctp_channel_calls.specs.Late.{not_asked}
use Rattle.dcsctp_channel_calls.specs.Queries.{channel_state}
use Rattle.dcsctp_channel_calls.specs.View.{WaitingChannel, LayerView, ChannelsView, entry_numbered, slot_of, stream_count, streams_if_connected, view_with_events}
use Rattle.dcsctp_channel_calls.specs.declared.handover.ChannelsHandoverState.{ChannelsHandoverState}
use Rattle.dcsctp_channel_calls.specs.declared.handover.HandoverChannel.{HandoverChannel}
use Rattle.dcsctp_channel_calls.specs.Handover.{ChannelsPart, ChannelPlaces, no_places, is_empty, is_plain, has_settled, are_settled, has_association, readiness_with_channels, name_or_zero, carried_channel, carried_channels, layer_handed_over, stream_handed_over, has_own_place, places_with_channel, places_beside, streams_of_snapshot, is_valid_below, is_unused, places_restored, HandsOverNow}
use Rattle.dcsctp_channel_laws.specs.Handovers.{HandedOverAreGone, GoesOn, HandedOverGoOn}
use Rattle.dcsctp_channel_laws.proofs.Restoring.{unused_waits}

-- ---- what is ready

zero_left : (x y : ℕ) → bit_or x y ≡ 0 → x ≡ 0
zero_left x y is = let h : x ≤ bit_or x y = le_or_l x y in omega arith

zero_right : (x y : ℕ) → bit_or x y ≡ 0 → y ≡ 0
zero_right x y is = let h : y ≤ bit_or x y = le_or_r x y in omega arith

holds_unless : (b : Bool) (reason : ℕ) → 0 < reason → reason_if_true (not b) reason ≡ 0 → b ≡ true
holds_unless true reason some is = refl
holds_unless false reason some is = let none : reason ≡ 0 = is in absurd (omega arith)

settled_if_ready : (view : ChannelsView) → readiness_with_channels view ≡ 0 → are_settled view ≡ true
settled_if_ready view ready = holds_unless (are_settled view) 4096 (lit< tt) (zero_right _ _ (zero_left _ _ ready))

associated_if_ready : (view : ChannelsView) → readiness_with_channels view ≡ 0 → has_association view ≡ true
associated_if_ready view ready = holds_unless (has_association view) 1 (lit< tt) (zero_right _ _ (zero_left _ _ (zero_left _ _ ready)))

settled_parts : (view : ChannelsView) → readiness_with_channels view ≡ 0 → (is_empty view.layer.waiting ≡ true) × (list_all (has_settled (stream_count view.below)) view.layer.streams ≡ true)
settled_parts view ready = and_parts (is_empty view.layer.waiting) (list_all (has_settled (stream_count view.below)) view.layer.streams) (settled_if_ready view ready)

none_waits : (view : ChannelsView) → readiness_with_channels view ≡ 0 → view.layer.waiting ≡ []
none_waits view ready = nil_from_length view.layer.waiting (eqb-true _ _ (settled_parts view ready).0)

gone_now : (state : ChannelsHandoverState) (old new : ChannelsView) → HandsOverNow (Ok state) old new → IsOrderly new.layer × ((name : ℕ) → channel_state new.layer name ≡ Closed)
gone_now state old new (ready, all) =
    let layer = layer_handed_over old.layer in
    let none : old.layer.waiting ≡ [] = none_waits old ready in
    let order : IsOrderly layer = begin_apart layer refl refl none in
    let each : (name : ℕ) → channel_state layer name ≡ Closed = λ name. (states_true layer order name).closed (ap (λ (w : List WaitingChannel). is_placed [] w name) none) in
    subst (λ (v : ChannelsView). IsOrderly v.layer × ((name : ℕ) → channel_state v.layer name ≡ Closed)) (sym all.is) (order, each)

pub are_gone : HandedOverAreGone
are_gone state old new handed = gone_now state (view_with_events old) new handed

-- ---- the association of a snapshot has the streams

has_streams : (e : Endpoint) (core : Core) (transfer : Option Transfer) (number : ℕ) → is_closed core ≡ false → readiness_by_core e core ≡ 0 → number < streams_if_connected (held_by_core core) transfer
    → number < streams_of_snapshot (snapshot_by_core e core).capabilities
has_streams e closed transfer number lasts ready lt = absurd cc
has_streams e (cookie_wait my) transfer number lasts ready lt = let one : 1 ≡ 0 = ready in absurd (omega arith)
has_streams e (cookie_echoed my held cookie) transfer number lasts ready lt = let one : 1 ≡ 0 = ready in absurd (omega arith)
has_streams e (open_in phase my held) None number lasts ready lt = absurd (omega arith)
has_streams e (open_in phase my held) (Some transfer) number lasts ready lt = lt

-- ---- the first entry

same_eq : (a b : ℕ) → a ≡ b → is_eq (nat_cmp a b) ≡ true
same_eq a b same = go (nat_cmp a b) (ranks a b)
  where
    go : (r : Ordering) → MatchOrdering r (a < b) (a ≡ b) (b < a) → is_eq r ≡ true
    go Less h = absurd (omega arith)
    go Equal h = refl
    go Greater h = absurd (omega arith)

apart_eq : (a b : ℕ) → (a ≡ b → ⊥) → is_eq (nat_cmp a b) ≡ false
apart_eq a b apart = go (nat_cmp a b) (ranks a b)
  where
    go : (r : Ordering) → MatchOrdering r (a < b) (a ≡ b) (b < a) → is_eq r ≡ false
    go Less h = refl
    go Equal h = absurd (apart h)
    go Greater h = refl

head_here : {A : Type 0} (q : ℕ) (e : ℕ × A) (es : List (ℕ × A)) → q ≡ e.0 → entry_numbered q (e ∷ es) ≡ Some e.1
head_here {A} q e es same = ap (λ (b : Bool). cond b (Some e.1) (entry_numbered q es)) (same_eq q e.0 same)

head_apart : {A : Type 0} (q : ℕ) (e : ℕ × A) (es : List (ℕ × A)) → (q ≡ e.0 → ⊥) → entry_numbered q (e ∷ es) ≡ entry_numbered q es
head_apart {A} q e es apart = ap (λ (b : Bool). cond b (Some e.1) (entry_numbered q es)) (apart_eq q e.0 apart)

-- ---- channels get their places again, one after another

-- The streams that are left, and the places so far.
record IsUnderWay (old : LayerView) (rest : List (ℕ × HeldStream)) (places : ChannelPlaces) : Type 0 where
  rising : AreRising rest
  of_old : (number : ℕ) (held : HeldStream) → entry_numbered number rest ≡ Some held → entry_numbered number old.streams ≡ Some held
  -- what has a place comes before what is left
  names_before : (name number : ℕ) → entry_numbered name places.names ≡ Some number → (entry_numbered name old.names ≡ Some number) × ComesFirst number rest
  streams_before : (number : ℕ) → is_some (entry_numbered number places.streams) ≡ true → ComesFirst number rest
  -- and each channel has its place, or is left
  all : (name number : ℕ) → entry_numbered name old.names ≡ Some number → (entry_numbered name places.names ≡ Some number) ⊎ (is_some (entry_numbered number rest) ≡ true)

-- Each name leads to its stream as before.
record HavePlaces (old : LayerView) (moment count named : ℕ) (channels : List HandoverChannel) (places : ChannelPlaces) : Type 0 where
  result : ChannelPlaces
  are : places_beside moment count named channels places ≡ Some result
  names : (name : ℕ) → entry_numbered name result.names ≡ entry_numbered name old.names

all_placed : (old : LayerView) (places : ChannelPlaces) → IsUnderWay old [] places → (name : ℕ) → entry_numbered name places.names ≡ entry_numbered name old.names
all_placed old places way name = go (entry_numbered name old.names) refl (entry_numbered name places.names) refl
  where
    placed_so : (number : ℕ) → (entry_numbered name places.names ≡ Some number) ⊎ (is_some (entry_numbered {A = HeldStream} number []) ≡ true) → entry_numbered name places.names ≡ Some number
    placed_so number (inl at) = at
    placed_so number (inr left) = absurd cc

    go : (before : Option ℕ) → entry_numbered name old.names ≡ before → (now : Option ℕ) → entry_numbered name places.names ≡ now → entry_numbered name places.names ≡ entry_numbered name old.names
    go (Some number) is now at = placed_so number (way.all name number is) ∙ sym is
    go None is None at = at ∙ sym is
    go None is (Some number) at = let there : entry_numbered name old.names ≡ Some number = (way.names_before name number at).0 in absurd cc

-- what a plain stream says
record HasName (held : HeldStream) : Type 0 where
  name : ℕ
  is : held.stream.name ≡ Some name

name_in : (o : Option ℕ) → is_some o ≡ true → (name : ℕ) × (o ≡ Some name)
name_in None is = absurd cc
name_in (Some name) is = (name, refl)

first_of_seven : (a b c d e f g : Bool) → (a && b && c && d && e && f && g) ≡ true → a ≡ true
first_of_seven true b c d e f g is = refl
first_of_seven false b c d e f g is = absurd cc

plain_name : (held : HeldStream) → is_plain held.stream ≡ true → HasName held
plain_name held plain =
    let s = held.stream in
    let found = name_in s.name (first_of_seven (is_some s.name) (not s.owes_ack) (not s.closing) (not_asked s.own) (not s.peer_reset) (not s.awaits_answer) (s.refusals == 0) plain) in record { name = found.0; is = found.1 }

module _ (old : LayerView) (a : IsOrderly old) (moment count : ℕ) (number : ℕ) (held : HeldStream) (es : List (ℕ × HeldStream)) (places : ChannelPlaces) (way : IsUnderWay old ((number, held) ∷ es) places)
    (lt : number < count) (name : ℕ) (has : held.stream.name ≡ Some name) where
  at_old : entry_numbered number old.streams ≡ Some held
  at_old = way.of_old number held (head_here number (number, held) es refl)

  leads : entry_numbered name old.names ≡ Some number
  leads = a.leads number name (ap (λ (o : Option HeldStream). name_of_slot (slot_of o)) at_old ∙ has)

  free_stream : not (is_some (entry_numbered number places.streams)) ≡ true
  free_stream = go (is_some (entry_numbered number places.streams)) refl
    where
      go : (b : Bool) → is_some (entry_numbered number places.streams) ≡ b → not b ≡ true
      go false is = refl
      go true is = let less : number < number = (way.streams_before number is).0 in absurd (omega arith)

  no_name : entry_numbered name places.names ≡ None
  no_name = go (entry_numbered name places.names) refl
    where
      go : (o : Option ℕ) → entry_numbered name places.names ≡ o → o ≡ None
      go None is = refl
      go (Some other) is =
          let before = way.names_before name other is in
          let led : entry_numbered name old.names ≡ Some other = before.0 in
          let led_too : entry_numbered name old.names ≡ Some number = leads in
          let same : other ≡ number = cc in
          let less : other < number = before.1.0 in absurd (omega arith)

  abbrev channel : HandoverChannel
  channel = carried_channel (number, held)

  named_so : channel.name ≡ name
  named_so = ap name_or_zero has

  own_place : has_own_place count old.named channel places ≡ true
  own_place =
      let below : name < old.named = a.was_named name number leads in
      let first : ltb number count ≡ true = lt-ltb _ _ lt in
      let second : ltb channel.name old.named ≡ true = rw named_so (lt-ltb _ _ below) in
      let fourth : not (is_some (entry_numbered channel.name places.names)) ≡ true = rw named_so (ap (λ (o : Option ℕ). not (is_some o)) no_name) in
      rw (first, second, free_stream, fourth) refl

  abbrev after : ChannelPlaces
  after = places_with_channel moment channel places

  name_here : entry_numbered name after.names ≡ Some number
  name_here = subst (λ (n : ℕ). entry_numbered n after.names ≡ Some number) named_so (put_here channel.name number places.names)

  name_else : (other : ℕ) → (other ≡ name → ⊥) → entry_numbered other after.names ≡ entry_numbered other places.names
  name_else other apart = put_apart other channel.name number places.names (λ (s : other ≡ channel.name). apart (s ∙ named_so))

  names_next : (other q : ℕ) → entry_numbered other after.names ≡ Some q → (entry_numbered other old.names ≡ Some q) × ComesFirst q es
  names_next other q at = go (cases_eq other name)
    where
      go : (other ≡ name) ⊎ (other ≡ name → ⊥) → (entry_numbered other old.names ≡ Some q) × ComesFirst q es
      go (inl same) =
          let here : entry_numbered other after.names ≡ Some number = rw same name_here in
          let is : number ≡ q = let both : Some number ≡ Some q = sym here ∙ at in cc in
          subst (λ (m : ℕ). (entry_numbered other old.names ≡ Some m) × ComesFirst m es) is (rw same leads, way.rising.0)
      go (inr apart) = let before = way.names_before other q (sym (name_else other apart) ∙ at) in (before.0, before.1.1)

  streams_next : (q : ℕ) → is_some (entry_numbered q after.streams) ≡ true → ComesFirst q es
  streams_next q is = go (cases_eq q number)
    where
      go : (q ≡ number) ⊎ (q ≡ number → ⊥) → ComesFirst q es
      go (inl same) = subst (λ (m : ℕ). ComesFirst m es) (sym same) way.rising.0
      go (inr apart) = (way.streams_before q (sym (ap (λ (o : Option HeldStream). is_some o) (put_apart q number (stream_handed_over moment channel) places.streams apart)) ∙ is)).1

  all_next : (other q : ℕ) → entry_numbered other old.names ≡ Some q → (entry_numbered other after.names ≡ Some q) ⊎ (is_some (entry_numbered q es) ≡ true)
  all_next other q at = go (way.all other q at)
    where
      apart_where : entry_numbered other places.names ≡ Some q → other ≡ name → ⊥
      apart_where had same =
          let there : entry_numbered name places.names ≡ Some q = subst (λ (n : ℕ). entry_numbered n places.names ≡ Some q) same had in
          let none : entry_numbered name places.names ≡ None = no_name in absurd cc

      here_or_left : is_some (entry_numbered q ((number, held) ∷ es)) ≡ true → (q ≡ number) ⊎ (q ≡ number → ⊥) → (entry_numbered other after.names ≡ Some q) ⊎ (is_some (entry_numbered q es) ≡ true)
      here_or_left left (inr apart) = inr (sym (ap (λ (o : Option HeldStream). is_some o) (head_apart q (number, held) es apart)) ∙ left)
      here_or_left left (inl same) =
          let led : name_of_slot (slot_of (entry_numbered number old.streams)) ≡ Some other = a.led_to other number (at ∙ ap Some same) in
          let is : other ≡ name = let both : Some other ≡ Some name = sym led ∙ (ap (λ (o : Option HeldStream). name_of_slot (slot_of o)) at_old ∙ has) in cc in
          inl (rw is name_here ∙ ap Some (sym same))

      go : (entry_numbered other places.names ≡ Some q) ⊎ (is_some (entry_numbered q ((number, held) ∷ es)) ≡ true) → (entry_numbered other after.names ≡ Some q) ⊎ (is_some (entry_numbered q es) ≡ true)
      go (inl had) = inl (name_else other (apart_where had) ∙ had)
      go (inr left) = here_or_left left (cases_eq q number)

  of_old_next : (q : ℕ) (h : HeldStream) → entry_numbered q es ≡ Some h → entry_numbered q old.streams ≡ Some h
  of_old_next q h at = go (cases_eq q number)
    where
      first_of : (rest : List (ℕ × HeldStream)) → ComesFirst q rest → entry_numbered q rest ≡ None
      first_of [] below = refl
      first_of (e ∷ rest) (less, below) = head_apart q e rest (λ (s : q ≡ e.0). omega arith) ∙ first_of rest below

      go : (q ≡ number) ⊎ (q ≡ number → ⊥) → entry_numbered q old.streams ≡ Some h
      go (inl same) = let none : entry_numbered q es ≡ None = first_of es (subst (λ (m : ℕ). ComesFirst m es) (sym same) way.rising.0) in absurd cc
      go (inr apart) = way.of_old q h (head_apart q (number, held) es apart ∙ at)

  way_next : IsUnderWay old es after
  way_next = record { rising = way.rising.1; of_old = of_old_next; names_before = names_next; streams_before = streams_next; all = all_next }

  place_next : HavePlaces old moment count old.named (map carried_channel es) after → HavePlaces old moment count old.named (map carried_channel ((number, held) ∷ es)) places
  place_next rest = record { result = rest.result; are = rw own_place rest.are; names = rest.names }

place_all : (old : LayerView) → IsOrderly old → (moment count : ℕ) (most : ℕ) → ((number : ℕ) → number < most → number < count) → (es : List (ℕ × HeldStream)) (places : ChannelPlaces) → list_all (has_settled most) es ≡ true → IsUnderWay old es places
    → HavePlaces old moment count old.named (map carried_channel es) places
place_all old a moment count most within [] places settled way = record { result = places; are = refl; names = all_placed old places way }
place_all old a moment count most within ((number, held) ∷ es) places settled way =
    let first = and_parts _ _ settled in
    let plain = and_parts (is_plain held.stream) (ltb number most) first.0 in
    let found = plain_name held plain.0 in
    let lt : number < count = within number (ltb-true _ _ plain.1) in
    place_next old a moment count number held es places way lt found.name found.is
    (place_all old a moment count most within es (after old a moment count number held es places way lt found.name found.is) first.1 (way_next old a moment count number held es places way lt found.name found.is))

begins_way : (old : LayerView) → IsOrderly old → IsUnderWay old old.streams no_places
begins_way old a =
    record {
      rising = a.streams_rise;
      of_old = λ number held at. at;
      names_before = λ name number at. absurd cc;
      streams_before = λ number is. absurd cc;
      all = λ name number at. inr (has_stream name number at);
    }
  where
    has_stream : (name number : ℕ) → entry_numbered name old.names ≡ Some number → is_some (entry_numbered number old.streams) ≡ true
    has_stream name number at = go (entry_numbered number old.streams) refl
      where
        go : (o : Option HeldStream) → entry_numbered number old.streams ≡ o → is_some o ≡ true
        go (Some held) is = refl
        go None is = let none : None ≡ Some name = sym (ap (λ (h : Option HeldStream). name_of_slot (slot_of h)) is) ∙ a.led_to name number at in absurd cc

-- ---- the whole

life_same : (names others : List (ℕ × ℕ)) (waiting also : List WaitingChannel) (named name : ℕ) → entry_numbered name names ≡ entry_numbered name others → waiting ≡ [] → also ≡ []
    → life_by_place (is_placed names waiting name) (ltb name named) ≡ life_by_place (is_placed others also name) (ltb name named)
life_same names others waiting also named name at none none_too =
    let first : is_placed names waiting name ≡ is_placed names [] name = ap (λ (w : List WaitingChannel). is_placed names w name) none in
    let second : is_placed names [] name ≡ is_placed others [] name = ap (λ (o : Option ℕ). is_some o) at in
    let third : is_placed others also name ≡ is_placed others [] name = ap (λ (w : List WaitingChannel). is_placed others w name) none_too in
    ap (λ (b : Bool). life_by_place b (ltb name named)) (first ∙ second ∙ sym third)

go_on_now : (state : ChannelsHandoverState) (old new other : ChannelsView) → HandsOverNow (Ok state) old new → IsOrderly old.layer → is_unused other ≡ true → is_valid_below (snapshot state.socket) other ≡ true
    → GoesOn state old.layer other
go_on_now state old new other (ready, all) a unused valid =
    let e = old.below.endpoint in
    let answer = all.socket.answers in
    let same : snapshot state.socket ≡ snapshot_of e = answer.1 in
    let lasts = and_parts old.layer.connected (not (is_closed e.core)) (associated_if_ready old ready) in
    let within : (number : ℕ) → number < stream_count old.below → number < streams_of_snapshot (snapshot state.socket).capabilities =
    λ number lt. subst (λ (s : Snapshot). number < streams_of_snapshot s.capabilities) (sym same) (has_streams e e.core e.queues.transfer number (not_true (is_closed e.core) lasts.1) (zero_left _ _ (zero_left _ _ (zero_left _ _ ready))) lt) in
    let placed_all = place_all old.layer a other.layer.moment (streams_of_snapshot (snapshot state.socket).capabilities) (stream_count old.below) within old.layer.streams no_places (settled_parts old ready).1 (begins_way old.layer a) in
    let are : places_restored (snapshot state.socket) (carried_channels old.layer) other ≡ Some placed_all.result =
    ap (λ (b : Bool). cond b (places_beside other.layer.moment (streams_of_snapshot (snapshot state.socket).capabilities) old.layer.named (map carried_channel old.layer.streams) no_places) None) valid ∙ placed_all.are in
    let there : other.layer.waiting ≡ [] = unused_waits other unused in
    let here : old.layer.waiting ≡ [] = none_waits old ready in
    record {
      places = placed_all.result;
      are = subst (λ (part : ChannelsPart). places_restored (snapshot state.socket) part other ≡ Some placed_all.result) (sym all.channels) are;
      lives = λ name.
          ap (λ (n : ℕ). life_by_place (is_placed placed_all.result.names other.layer.waiting name) (ltb name n)) (ap (λ (part : ChannelsPart). part.named) all.channels)
          ∙ life_same placed_all.result.names old.layer.names other.layer.waiting old.layer.waiting old.layer.named name (placed_all.names name) there here;
    }
  where
    not_true : (b : Bool) → not b ≡ true → b ≡ false
    not_true false is = refl
    not_true true is = absurd cc

pub go_on : HandedOverGoOn
go_on state old new other handed a unused valid =
    let on = go_on_now state (view_with_events old) new other handed a unused valid in record { places = on.places; are = on.are; lives = on.lives }
