-- What rows of the table, and channels that begin or are over, make of the streams of channels.
use Rattle.std.proofs.Common.{◌≡◌, ◌<◌, ◌≤◌, ◌⊎◌, ℕ, ◌+◌, Bool, true, false, Option, Some, None, List, [], ◌∷◌, refl, sym, ap, subst, ◌∙◌, inl, inr, arith}
use Rattle.dcsctp_channel_calls.specs.declared.channel.HeldStream.{HeldStream}
use Rattle.dcsctp_channel_calls.specs.messages.channel_spec.declared.types.Delivery.{Delivery}
use Rattle.dcsctp_channel_calls.specs.messages.channel_spec.declared.types.Role.{Role}
use Rattle.dcsctp_channel_calls.specs.messages.channel_spec.Slots.{opens, opened_use, Opening, StreamSlot, free, name_of_slot, SlotOutcome, SlotInput, hears_open}
use Rattle.dcsctp_channel_calls.specs.messages.channel_spec.Table.{outcome_of}
use Rattle.dcsctp_channel_calls.specs.Events.{waiting_lost}
use Rattle.dcsctp_channel_calls.specs.Opening.{GetsStream, channels_waiting, named_next, without_stream}
use Rattle.dcsctp_channel_calls.specs.Queries.{is_waiting}
use Rattle.dcsctp_channel_calls.specs.Sending.{counts_sent, stream_of_name, stream_unless_closing, open_held, open_on, open_stream, layer_after_close}
use Rattle.dcsctp_channel_calls.specs.View.{streams_with, held_after, held_from, WaitingChannel, LayerView, ChannelsView, entry_numbered, entry_put, held_stream_numbered, slot_of, slot_numbered, row_taken, taken_as}
use Rattle.dcsctp_channel_laws.specs.Lives.{IsInOrder, IsOrderly}
use Rattle.dcsctp_channel_laws.proofs.CallsTell.{counted_slots, same_slots, named_tells, waiting_closes}
use Rattle.dcsctp_channel_laws.proofs.Maps.{put_here, put_apart, rising_put}
use Rattle.std.proofs.lemmas.Bool.{cases_eq, true≢false}
use Rattle.dcsctp_channel_laws.proofs.Places.{IsFresh, IsNext, RowLeaves, row_leaves, row_apart}
use Rattle.dcsctp_channel_laws.proofs.PollsTell.{waiting_lost_tells}
use Rattle.dcsctp_channel_laws.proofs.Waits.{head_waits, not_head, not_behind, before_last, still_not, first_out}
use Rattle.dcsctp_channel_runs.proofs.Lasting.{closing_of, delivery_of, delivery_on, GoesOn, goes_on_same, IsNoOpenOf, row_goes_on}
use Rattle.dcsctp_channel_runs.proofs.Streams.{IsToCome, IsOn, IsGone, IsOnOrGone, KeepStreams, Keeping, keep_plainly, note_after}
use Rattle.dcsctp_channel_runs.proofs.StreamRows.{IsNextName, stay_named, row_keeps}
use Rattle.dcsctp_channel_runs.proofs.SlotNames.{keeps_name, accepted_name, names_none, opens_none}

-- ---- rows

le_same : (n : ℕ) → n ≤ n
le_same n = omega arith

pub row_keeping : (number : ℕ) (delivery : Delivery) (input : SlotInput) (layer : LayerView) → names_none input ≡ true → Keeping [] layer (row_taken number delivery input layer)
row_keeping number delivery input layer none a =
    let outcome = outcome_of input (slot_numbered layer number) in
    let new = taken_as number delivery input outcome layer in
    row_keeps number outcome.after layer new.streams new.names layer.named new.notices a (le_same layer.named) (row_leaves number delivery input outcome layer a)
    (stay_named layer (name_of_slot (slot_numbered layer number)) (name_of_slot outcome.after) (keeps_name input (slot_numbered layer number) none))
    (λ n k on now. row_goes_on number delivery input layer new refl (row_leaves number delivery input outcome layer a) n k (opens_none input n none) (a.led_to n k on) now)

module _ (number : ℕ) (opening : Opening) (layer : LayerView) where
  abbrev accepted : SlotOutcome
  accepted = outcome_of (hears_open true layer.named opening) (slot_numbered layer number)

  abbrev layer_accepted : LayerView
  layer_accepted = record (row_taken number opening.delivery (hears_open true layer.named opening) layer) { named = layer.named + 1 }

  next_named : (name_of_slot accepted.after ≡ Some layer.named) ⊎ (name_of_slot accepted.after ≡ name_of_slot (slot_numbered layer number))
      → IsNextName layer (layer.named + 1) (name_of_slot (slot_numbered layer number)) (name_of_slot accepted.after)
  next_named (inl next) n is = inr (let both : Some n ≡ Some layer.named = sym is ∙ next in cc, refl)
  next_named (inr same) n is = inl (sym same ∙ is)

  pub accepted_keeping : Keeping [] layer layer_accepted
  accepted_keeping a =
      row_keeps number accepted.after layer layer_accepted.streams layer_accepted.names (layer.named + 1) layer_accepted.notices a (let le : layer.named ≤ layer.named + 1 = omega arith in le)
      (row_leaves number opening.delivery (hears_open true layer.named opening) accepted layer a) (next_named (accepted_name layer.named opening (slot_numbered layer number)))
      (λ n k on now. row_goes_on number opening.delivery (hears_open true layer.named opening) layer layer_accepted refl
      (row_leaves number opening.delivery (hears_open true layer.named opening) accepted layer a) n k
      (λ same. let below : n < layer.named = a.was_named n k on in absurd (omega arith)) (a.led_to n k on) now)

  -- The new channel has the stream.
  pub accepted_noted : name_of_slot accepted.after ≡ Some layer.named → Keeping ((layer.named, number) ∷ []) layer layer_accepted
  accepted_noted is =
      note_after layer.named number layer layer_accepted
      (λ a. (row_leaves number opening.delivery (hears_open true layer.named opening) accepted layer a).gets layer.named is) accepted_keeping

-- ---- channels that wait

in_order : (layer : LayerView) (waits : WaitingChannel) (rest : List WaitingChannel) → layer.waiting ≡ waits ∷ rest → IsOrderly layer → IsInOrder layer.streams layer.names (waits ∷ rest) layer.named
in_order layer waits rest is a = subst (λ (w : List WaitingChannel). IsInOrder layer.streams layer.names w layer.named) is a

gone_first : (layer : LayerView) (waits : WaitingChannel) (rest : List WaitingChannel) → layer.waiting ≡ waits ∷ rest → (n : ℕ) → IsGone layer n → is_waiting n (waits ∷ rest) ≡ false
gone_first layer waits rest is n gone = ap (is_waiting n) (sym is) ∙ gone.not_waiting

-- The first that waits is to come.
pub waits_to_come : (waits : WaitingChannel) (rest : List WaitingChannel) (layer : LayerView) → layer.waiting ≡ waits ∷ rest → IsOrderly layer → IsToCome layer waits.name
waits_to_come waits rest layer is a =
    let waiting : is_waiting waits.name layer.waiting ≡ true = ap (is_waiting waits.name) is ∙ head_waits waits rest waits.name refl in
    record { no_stream = a.no_stream waits.name waiting; not_gone = λ gone. true≢false (sym waiting ∙ gone.not_waiting) }

-- The first that waits gets a free stream.
module _ (number : ℕ) (delivery : Delivery) (input : SlotInput) (layer : LayerView) (waits : WaitingChannel) (rest : List WaitingChannel) (is : layer.waiting ≡ waits ∷ rest)
    (is_free : slot_numbered layer number ≡ free) (names : name_of_slot (outcome_of input free).after ≡ Some waits.name) (not_it : (n : ℕ) → IsNoOpenOf n input) where
  abbrev behind : LayerView
  behind = channels_waiting rest layer

  abbrev begun : LayerView
  begun = row_taken number delivery input behind

  gets_name : name_of_slot (outcome_of input (slot_numbered layer number)).after ≡ Some waits.name
  gets_name = ap (λ (slot : StreamSlot). name_of_slot (outcome_of input slot).after) is_free ∙ names

  no_name : (n : ℕ) → name_of_slot (slot_numbered layer number) ≡ Some n → ⊥
  no_name n had = let both : Some n ≡ None = sym had ∙ ap name_of_slot is_free in absurd cc

  module _ (a : IsOrderly layer) where
    row : RowLeaves number (outcome_of input (slot_numbered layer number)).after behind begun.streams begun.names
    row = row_leaves number delivery input (outcome_of input (slot_numbered layer number)) behind (first_out layer.streams layer.names waits rest layer.named (in_order layer waits rest is a))

    waits_first : is_waiting waits.name (waits ∷ rest) ≡ true
    waits_first = head_waits waits rest waits.name refl

    first_fresh : IsFresh behind layer.named waits.name
    first_fresh =
        let ordered = in_order layer waits rest is a in
        record { no_stream = ordered.no_stream waits.name waits_first; not_waiting = ordered.wait_apart.0; is_below = ordered.waits_named waits.name waits_first }

    begun_next : IsNext behind layer.named (name_of_slot (slot_numbered layer number)) (name_of_slot (outcome_of input (slot_numbered layer number)).after)
    begun_next n has =
        let both : Some waits.name ≡ Some n = sym gets_name ∙ has in
        let same : waits.name ≡ n = cc in
        inr (subst (λ (m : ℕ). IsFresh behind layer.named m) same first_fresh)

    not_named : (n : ℕ) → (waits.name ≡ n → ⊥) → name_of_slot (outcome_of input (slot_numbered layer number)).after ≡ Some n → ⊥
    not_named n apart has = let both : Some waits.name ≡ Some n = sym gets_name ∙ has in apart cc

    begun_stays : (n k : ℕ) → IsOn layer n k → IsOnOrGone begun n k
    begun_stays n k on = inl (row.other n (no_name n) (not_named n not_first) ∙ on)
      where
        not_first : waits.name ≡ n → ⊥
        not_first same =
            let none : entry_numbered n layer.names ≡ None = subst (λ (m : ℕ). entry_numbered m layer.names ≡ None) same first_fresh.no_stream in
            let both : Some k ≡ None = sym on ∙ none in absurd cc

    begun_gone : (n : ℕ) → IsGone layer n → IsGone begun n
    begun_gone n gone =
        let not_waiting = gone_first layer waits rest is n gone in
        record {
          no_stream = row.other n (no_name n) (not_named n (not_head waits rest n not_waiting)) ∙ gone.no_stream;
          not_waiting = not_behind waits rest n not_waiting;
          named = gone.named;
        }

    begun_keeps : KeepStreams [] layer begun
    begun_keeps =
        keep_plainly layer begun
        (row_apart number (outcome_of input (slot_numbered layer number)).after behind begun.streams begun.names layer.named
        (first_out layer.streams layer.names waits rest layer.named (in_order layer waits rest is a)) (le_same layer.named) row begun_next)
        begun_stays begun_gone
        (λ n k on now. let goes = row_goes_on number delivery input behind begun refl row n k (not_it n) (a.led_to n k on) now in record { delivery = goes.delivery; closing = goes.closing }) (λ was. was)

  pub begun_noted : Keeping ((waits.name, number) ∷ []) layer begun
  begun_noted = note_after waits.name number layer begun (λ a. (row a).gets waits.name gets_name) (λ a. begun_keeps a)

  pub begun_on : (new : LayerView) → new ≡ begun → IsOrderly layer → IsOn new waits.name number
  begun_on new same a = subst (λ (l : LayerView). IsOn l waits.name number) (sym same) ((row a).gets waits.name gets_name)

-- a stream that comes into use has these rules
pub rules_begun : (number : ℕ) (delivery : Delivery) (name : ℕ) (opening : Opening) (layer new : LayerView) → slot_numbered layer number ≡ free → new ≡ row_taken number delivery (opens name opening) layer
    → delivery_on new number ≡ Some delivery
rules_begun number delivery name opening layer new is_free same = ap (λ (l : LayerView). delivery_on l number) same ∙ by (held_stream_numbered layer number) is_free
  where
    by : (held : Option HeldStream) → slot_of held ≡ free
        → delivery_of (entry_numbered number (streams_with number held (outcome_of (opens name opening) (slot_of held)).after (held_after layer.moment delivery (opens name opening) held) layer.streams)) ≡ Some delivery
    by None is = ap delivery_of (put_here number (held_from layer.moment delivery (opened_use name)) layer.streams)
    by (Some held) is = absurd cc

-- the stream that a channel gets is free
pub gets_free : (role : Role) (view : ChannelsView) (negotiated : Option ℕ) (number : ℕ) → GetsStream role view negotiated (Some number) → slot_numbered view.layer number ≡ free
gets_free role view None number gets = ap slot_of gets.0.is_free
gets_free role view (Some agreed) number gets = subst (λ (m : ℕ). slot_numbered view.layer m ≡ free) (sym gets.0) (ap slot_of gets.2)

-- It gets none.
pub ends_keeping : (layer : LayerView) (waits : WaitingChannel) (rest : List WaitingChannel) → layer.waiting ≡ waits ∷ rest → Keeping [] layer (without_stream waits.name (channels_waiting rest layer))
ends_keeping layer waits rest is a =
    keep_plainly layer (without_stream waits.name (channels_waiting rest layer)) (first_out layer.streams layer.names waits rest layer.named (in_order layer waits rest is a)) (λ n k on. inl on)
    (λ n gone. record { no_stream = gone.no_stream; not_waiting = not_behind waits rest n (gone_first layer waits rest is n gone); named = gone.named })
    (λ n k on now. goes_on_same layer (without_stream waits.name (channels_waiting rest layer)) k refl) (λ was. was)

-- One more waits.
pub named_keeping : (opening : Opening) (negotiated : Option ℕ) (layer : LayerView) → Keeping [] layer (named_next opening negotiated layer)
named_keeping opening negotiated layer a =
    keep_plainly layer (named_next opening negotiated layer) (named_tells opening negotiated layer a).apart (λ n k on. inl on)
    (λ n gone. let below : n < layer.named = gone.named in record { no_stream = gone.no_stream; not_waiting = before_last layer.waiting _ n (λ (same : layer.named ≡ n). omega arith) ∙ gone.not_waiting; named = omega arith })
    (λ n k on now. goes_on_same layer (named_next opening negotiated layer) k refl) (λ was. was)

-- One that waits is closed.
pub closes_keeping : (name : ℕ) (layer : LayerView) → Keeping [] layer (layer_after_close None name layer)
closes_keeping name layer a =
    keep_plainly layer (layer_after_close None name layer) (waiting_closes name layer a).apart (λ n k on. inl on)
    (λ n gone. record { no_stream = gone.no_stream; not_waiting = still_not name layer.waiting n a.wait_apart gone.not_waiting; named = gone.named })
    (λ n k on now. goes_on_same layer (layer_after_close None name layer) k refl) (λ was. was)

-- None waits any more.
pub lost_keeping : (layer : LayerView) → Keeping [] layer (waiting_lost layer)
lost_keeping layer a =
    keep_plainly layer (waiting_lost layer) (waiting_lost_tells layer a).apart (λ n k on. inl on)
    (λ n gone. record { no_stream = gone.no_stream; not_waiting = refl; named = gone.named })
    (λ n k on now. goes_on_same layer (waiting_lost layer) k refl) (λ was. was)

-- ---- a message is sent

counted_goes_on : (number bytes : ℕ) (held : HeldStream) (layer : LayerView) → held_stream_numbered layer number ≡ Some held → (k : ℕ) → (k ≡ number) ⊎ (k ≡ number → ⊥)
    → GoesOn layer (record layer { streams = entry_put number (counts_sent bytes held) layer.streams }) k
counted_goes_on number bytes held layer is k (inr apart) =
    goes_on_same layer (record layer { streams = entry_put number (counts_sent bytes held) layer.streams }) k (put_apart k number (counts_sent bytes held) layer.streams apart)
counted_goes_on number bytes held layer is k (inl same) =
    let now : entry_numbered number (entry_put number (counts_sent bytes held) layer.streams) ≡ Some (counts_sent bytes held) = put_here number (counts_sent bytes held) layer.streams in
    subst (λ (m : ℕ). GoesOn layer (record layer { streams = entry_put number (counts_sent bytes held) layer.streams }) m) (sym same)
    (record { delivery = ap delivery_of now ∙ sym (ap delivery_of is); closing = λ was. ap closing_of now ∙ sym (ap closing_of is) ∙ was })

pub counted_keeping : (number bytes : ℕ) (held : HeldStream) (layer : LayerView) → held_stream_numbered layer number ≡ Some held → Keeping [] layer (record layer { streams = entry_put number (counts_sent bytes held) layer.streams })
counted_keeping number bytes held layer is a =
    let counted : List (ℕ × HeldStream) = entry_put number (counts_sent bytes held) layer.streams in
    keep_plainly layer (record layer { streams = counted })
    (same_slots layer.streams counted layer.names layer.waiting layer.named (counted_slots number bytes held layer.streams is) (rising_put number (counts_sent bytes held) layer.streams a.streams_rise) a)
    (λ n k on. inl on) (λ n gone. record { no_stream = gone.no_stream; not_waiting = gone.not_waiting; named = gone.named })
    (λ n k on now. counted_goes_on number bytes held layer is k (cases_eq k number)) (λ was. was)

-- an open channel has the stream that it is found on
pub open_has_stream : (layer : LayerView) (name : ℕ) (found : ℕ × HeldStream) → open_stream layer name ≡ Some found → IsOn layer name found.0
open_has_stream layer name found is = of_stream (stream_of_name layer name) refl is
  where
    of_closing : (number : ℕ) (held : HeldStream) (closing : Bool) → stream_unless_closing closing number held ≡ Some found → number ≡ found.0
    of_closing number held true is = absurd cc
    of_closing number held false is = let same : (number, held) ≡ found = cc in ap (λ (f : ℕ × HeldStream). f.0) same

    of_held : (number : ℕ) (held : Option HeldStream) → open_held number held ≡ Some found → number ≡ found.0
    of_held number None is = absurd cc
    of_held number (Some held) is = of_closing number held held.stream.closing is

    of_stream : (stream : Option ℕ) → stream_of_name layer name ≡ stream → open_on stream layer ≡ Some found → IsOn layer name found.0
    of_stream None at is = absurd cc
    of_stream (Some number) at is = subst (λ (m : ℕ). IsOn layer name m) (of_held number (held_stream_numbered layer number) is) at
