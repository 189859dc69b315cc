-- The places of channels that are restored.
use Rattle.std.proofs.Common.{◌≡◌, ◌<◌, ◌&&◌, ◌==◌, ◌⊎◌, ℕ, Bool, true, false, not, cond, ltb, Option, Some, None, is_some, Ok, Err, List, [], ◌∷◌, refl, sym, ap, subst, ◌∙◌, inl, inr}
use Rattle.std.proofs.lemmas.Bool.{and_parts, ltb-true, cases_eq}
use Rattle.std.proofs.lemmas.List.{nil_from_length}
use Rattle.std.proofs.lemmas.Bool.{eqb-true}
use Rattle.dcsctp_channel_laws.specs.Lives.{IsInOrder, IsOrderly}
use Rattle.dcsctp_channel_laws.proofs.Maps.{put_here, put_apart, rising_put}
use Rattle.dcsctp_channel_calls.specs.api.types.Snapshot.{Snapshot}
use Rattle.dcsctp_channel_calls.specs.api.Calls.{is_closed}
use Rattle.dcsctp_channel_calls.specs.declared.channel.HeldStream.{HeldStream}
use Rattle.dcsctp_channel_calls.specs.messages.channel_spec.Slots.{name_of_slot}
use Rattle.dcsctp_channel_calls.specs.View.{WaitingChannel, ChannelsView, entry_numbered, slot_of}
use Rattle.dcsctp_channel_calls.specs.declared.handover.HandoverChannel.{HandoverChannel}
use Rattle.dcsctp_channel_calls.specs.Handover.{ChannelsPart, ChannelPlaces, no_places, stream_handed_over, has_own_place, places_with_channel, places_beside, is_empty, is_unused, places_restored, is_valid_below, streams_of_snapshot, RestoresIfUnused, RestoresIfPlaced}
use Rattle.dcsctp_channel_laws.specs.Handovers.{RestoredAreOrderly}

abbrev AreInOrder : ℕ → ChannelPlaces → Type 0
AreInOrder named places = IsInOrder places.streams places.names [] named

none_in_order : (named : ℕ) → AreInOrder named no_places
none_in_order named =
    record {
      streams_rise = tt;
      names_rise = tt;
      leads = λ number name is. absurd cc;
      led_to = λ name number is. absurd cc;
      wait_apart = tt;
      no_stream = λ name is. absurd cc;
      was_named = λ name number is. absurd cc;
      waits_named = λ name is. absurd cc;
    }

is_none : {A : Type 0} (o : Option A) → not (is_some o) ≡ true → o ≡ None
is_none None is = refl
is_none (Some x) is = absurd cc

-- ---- one more channel

module _ (moment named : ℕ) (channel : HandoverChannel) (places : ChannelPlaces) (a : AreInOrder named places) (below : channel.name < named)
    (no_stream : entry_numbered channel.stream places.streams ≡ None) (no_name : entry_numbered channel.name places.names ≡ None) where
  new_leads : (number name : ℕ) → name_of_slot (slot_of (entry_numbered number (places_with_channel moment channel places).streams)) ≡ Some name → entry_numbered name (places_with_channel moment channel places).names ≡ Some number
  new_leads number name is = go (cases_eq number channel.stream)
    where
      name_apart : entry_numbered name places.names ≡ Some number → name ≡ channel.name → ⊥
      name_apart at same = let at_it : entry_numbered channel.name places.names ≡ Some number = subst (λ (n : ℕ). entry_numbered n places.names ≡ Some number) same at in absurd cc

      go : (number ≡ channel.stream) ⊎ (number ≡ channel.stream → ⊥) → entry_numbered name (places_with_channel moment channel places).names ≡ Some number
      go (inl same) =
          let here : entry_numbered number (places_with_channel moment channel places).streams ≡ Some (stream_handed_over moment channel) = rw same (put_here channel.stream (stream_handed_over moment channel) places.streams) in
          let named_so : channel.name ≡ name = let both : Some channel.name ≡ Some name = sym (ap (λ (o : Option HeldStream). name_of_slot (slot_of o)) here) ∙ is in cc in
          subst (λ (n : ℕ). entry_numbered n (places_with_channel moment channel places).names ≡ Some number) named_so (put_here channel.name channel.stream places.names ∙ ap Some (sym same))
      go (inr apart) =
          let old : entry_numbered name places.names ≡ Some number = a.leads number name (sym (ap (λ (o : Option HeldStream). name_of_slot (slot_of o)) (put_apart number channel.stream (stream_handed_over moment channel) places.streams apart)) ∙ is) in
          put_apart name channel.name channel.stream places.names (name_apart old) ∙ old

  new_led_to : (name number : ℕ) → entry_numbered name (places_with_channel moment channel places).names ≡ Some number → name_of_slot (slot_of (entry_numbered number (places_with_channel moment channel places).streams)) ≡ Some name
  new_led_to name number at = go (cases_eq name channel.name)
    where
      stream_apart : name_of_slot (slot_of (entry_numbered number places.streams)) ≡ Some name → number ≡ channel.stream → ⊥
      stream_apart has same =
          let there : name_of_slot (slot_of (entry_numbered channel.stream places.streams)) ≡ Some name = subst (λ (n : ℕ). name_of_slot (slot_of (entry_numbered n places.streams)) ≡ Some name) same has in
          let none : None ≡ Some name = sym (ap (λ (o : Option HeldStream). name_of_slot (slot_of o)) no_stream) ∙ there in absurd cc

      go : (name ≡ channel.name) ⊎ (name ≡ channel.name → ⊥) → name_of_slot (slot_of (entry_numbered number (places_with_channel moment channel places).streams)) ≡ Some name
      go (inl same) =
          let here : entry_numbered name (places_with_channel moment channel places).names ≡ Some channel.stream = rw same (put_here channel.name channel.stream places.names) in
          let stream_is : channel.stream ≡ number = let both : Some channel.stream ≡ Some number = sym here ∙ at in cc in
          subst (λ (n : ℕ). name_of_slot (slot_of (entry_numbered n (places_with_channel moment channel places).streams)) ≡ Some name) stream_is
          (ap (λ (o : Option HeldStream). name_of_slot (slot_of o)) (put_here channel.stream (stream_handed_over moment channel) places.streams) ∙ ap Some (sym same))
      go (inr apart) =
          let old : entry_numbered name places.names ≡ Some number = sym (put_apart name channel.name channel.stream places.names apart) ∙ at in
          let has : name_of_slot (slot_of (entry_numbered number places.streams)) ≡ Some name = a.led_to name number old in
          ap (λ (o : Option HeldStream). name_of_slot (slot_of o)) (put_apart number channel.stream (stream_handed_over moment channel) places.streams (stream_apart has)) ∙ has

  new_was_named : (name number : ℕ) → entry_numbered name (places_with_channel moment channel places).names ≡ Some number → name < named
  new_was_named name number at = go (cases_eq name channel.name)
    where
      go : (name ≡ channel.name) ⊎ (name ≡ channel.name → ⊥) → name < named
      go (inl same) = subst (λ (n : ℕ). n < named) (sym same) below
      go (inr apart) = a.was_named name number (sym (put_apart name channel.name channel.stream places.names apart) ∙ at)

  pub placed_in_order : AreInOrder named (places_with_channel moment channel places)
  placed_in_order =
      record {
        streams_rise = rising_put channel.stream (stream_handed_over moment channel) places.streams a.streams_rise;
        names_rise = rising_put channel.name channel.stream places.names a.names_rise;
        leads = new_leads;
        led_to = new_led_to;
        wait_apart = tt;
        no_stream = λ name is. absurd cc;
        was_named = new_was_named;
        waits_named = λ name is. absurd cc;
      }

-- what a place of its own says
record HasOwn (count named : ℕ) (channel : HandoverChannel) (places : ChannelPlaces) : Type 0 where
  stream : channel.stream < count
  below : channel.name < named
  no_stream : entry_numbered channel.stream places.streams ≡ None
  no_name : entry_numbered channel.name places.names ≡ None

four_parts : (a b c d : Bool) → (a && b && c && d) ≡ true → (a ≡ true) × (b ≡ true) × (c ≡ true) × (d ≡ true)
four_parts a b c d is =
    let third = and_parts (a && b && c) d is in
    let second = and_parts (a && b) c third.0 in
    let first = and_parts a b second.0 in (first.0, first.1, second.1, third.1)

own_parts : (count named : ℕ) (channel : HandoverChannel) (places : ChannelPlaces) → has_own_place count named channel places ≡ true → HasOwn count named channel places
own_parts count named channel places is =
    let parts = four_parts (ltb channel.stream count) (ltb channel.name named) (not (is_some (entry_numbered channel.stream places.streams))) (not (is_some (entry_numbered channel.name places.names))) is in
    record { stream = ltb-true _ _ parts.0; below = ltb-true _ _ parts.1; no_stream = is_none _ parts.2; no_name = is_none _ parts.3 }

-- ---- all channels

beside_in_order : (moment count named : ℕ) (channels : List HandoverChannel) (places result : ChannelPlaces) → AreInOrder named places
    → places_beside moment count named channels places ≡ Some result → AreInOrder named result
beside_in_order moment count named [] places result a is = let same : places ≡ result = cc in subst (AreInOrder named) same a
beside_in_order moment count named (channel ∷ channels) places result a is =
    go (has_own_place count named channel places) refl is (λ order then. beside_in_order moment count named channels (places_with_channel moment channel places) result order then)
  where
    go : (own : Bool) → has_own_place count named channel places ≡ own → cond own (places_beside moment count named channels (places_with_channel moment channel places)) None ≡ Some result
        → (AreInOrder named (places_with_channel moment channel places) → places_beside moment count named channels (places_with_channel moment channel places) ≡ Some result → AreInOrder named result) → AreInOrder named result
    go false so then rest = absurd cc
    go true so then rest =
        let parts = own_parts count named channel places so in
        rest (placed_in_order moment named channel places a parts.below parts.no_stream parts.no_name) then

restored_in_order : (state : Snapshot) (part : ChannelsPart) (old : ChannelsView) (places : ChannelPlaces) → places_restored state part old ≡ Some places → AreInOrder part.named places
restored_in_order state part old places is = go (is_valid_below state old) is
  where
    go : (valid : Bool) → cond valid (places_beside old.layer.moment (streams_of_snapshot state.capabilities) part.named part.channels no_places) None ≡ Some places → AreInOrder part.named places
    go false is = absurd cc
    go true is = beside_in_order old.layer.moment (streams_of_snapshot state.capabilities) part.named part.channels no_places places (none_in_order part.named) is

-- none waits on an unused socket
abbrev unused_front : ChannelsView → Bool
unused_front view =
    is_closed view.below.endpoint.core && not view.layer.connected && not view.layer.over && (view.layer.named == 0) && is_empty view.layer.streams && is_empty view.layer.names

pub unused_waits : (view : ChannelsView) → is_unused view ≡ true → view.layer.waiting ≡ []
unused_waits view is =
    let upper = and_parts (unused_front view && is_empty view.layer.waiting) (is_empty view.layer.told) is in
    let waits = and_parts (unused_front view) (is_empty view.layer.waiting) upper.0 in nil_from_length view.layer.waiting (eqb-true _ _ waits.1)

pub restored_are_orderly : RestoredAreOrderly
restored_are_orderly state part old new restores = by_use (is_unused old) refl restores
  where
    by_places : (places : Option ChannelPlaces) → places_restored state part old ≡ places → is_unused old ≡ true → RestoresIfPlaced state part places (Ok tt) old new → IsOrderly new.layer × (new.layer.named ≡ part.named)
    by_places None are unused into = let wrong : Ok tt ≡ Err _ = into.0 in absurd cc
    by_places (Some places) are unused into =
        let order : AreInOrder part.named places = restored_in_order state part old places are in
        let here : IsInOrder places.streams places.names old.layer.waiting part.named = subst (λ (w : List WaitingChannel). IsInOrder places.streams places.names w part.named) (sym (unused_waits old unused)) order in (
          subst (λ (v : ChannelsView). IsOrderly v.layer) (sym into.1.is) here,
          ap (λ (v : ChannelsView). v.layer.named) into.1.is,
        )

    by_use : (unused : Bool) → is_unused old ≡ unused → RestoresIfUnused unused state part (Ok tt) old new → IsOrderly new.layer × (new.layer.named ≡ part.named)
    by_use false so restores = let wrong : Ok tt ≡ Err _ = restores.0 in absurd cc
    by_use true so restores = by_places (places_restored state part old) refl so restores
