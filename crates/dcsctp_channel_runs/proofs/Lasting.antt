-- What stays of a stream in use while its channel lasts: how messages go, and that it is closing.
use Rattle.std.proofs.Common.{◌≡◌, ◌⊎◌, ℕ, Bool, true, false, nat_lt, Option, Some, None, List, refl, sym, ap, subst, ◌∙◌, inl, inr}
use Rattle.std.proofs.lemmas.Bool.{cases_eq}
use Rattle.std.specs.Prelude.{◌+◌, if◌then◌else◌, length}
use Rattle.dcsctp_channel_calls.specs.declared.channel.HeldStream.{HeldStream}
use Rattle.dcsctp_channel_calls.specs.messages.channel_spec.declared.types.Delivery.{Delivery}
use Rattle.dcsctp_channel_calls.specs.messages.channel_spec.declared.types.OwnReset.{OwnReset}
use Rattle.dcsctp_channel_calls.specs.messages.channel_spec.declared.types.OwnReset.TheVariants.{NotAsked, Asked, Performed, GivenUp}
use Rattle.dcsctp_channel_calls.specs.messages.channel_spec.declared.types.StreamUse.{StreamUse}
use Rattle.dcsctp_channel_calls.specs.messages.channel_spec.Slots.{Opening, StreamSlot, free, used, name_of_slot, SlotInput, opens, agrees, hears_open, hears_ack, hears_message, hears_bad_message, may_acknowledge, is_closed, all_is_sent, cannot_reset, was_performed, was_refused, peer_resets, association_ends}
use Rattle.dcsctp_channel_calls.specs.messages.channel_spec.Table.{outcome_of, settled_if_reset, reopens_if_reset, acknowledges_if_owed, resets_if_closing, gives_up_if_closing, after_performed, asks_again_or_gives_up, after_refused, most_refusals}
use Rattle.dcsctp_channel_calls.specs.View.{LayerView, entry_numbered, held_stream_numbered, slot_of, slot_numbered, may_reopen, gives_again, held_or_begun, received_on, counted_with, held_after, streams_with}
use Rattle.dcsctp_channel_laws.proofs.Maps.{put_here, put_apart, without_apart}
use Rattle.dcsctp_channel_laws.proofs.Places.{is_named, RowLeaves}
use Rattle.dcsctp_channel_calls.specs.messages.channel_spec.Contents.{ChannelContent}
use Rattle.dcsctp_channel_runs.specs.Prefixes.{rules_held}

-- ---- what a stream is

-- one that isn't in use is as good as closing
abbrev pub closing_of : Option HeldStream → Bool
closing_of None = true
closing_of (Some held) = held.stream.closing

abbrev pub delivery_of : Option HeldStream → Option Delivery
delivery_of held = rules_held held

abbrev pub closing_on : LayerView → ℕ → Bool
closing_on layer number = closing_of (held_stream_numbered layer number)

abbrev pub delivery_on : LayerView → ℕ → Option Delivery
delivery_on layer number = delivery_of (held_stream_numbered layer number)

-- The same rules apply to it, and it is closing if it was.
pub record GoesOn (old new : LayerView) (number : ℕ) : Type 0 where
  pub delivery : delivery_on new number ≡ delivery_on old number
  pub closing : closing_on old number ≡ true → closing_on new number ≡ true

pub goes_on_same : (old new : LayerView) (number : ℕ) → held_stream_numbered new number ≡ held_stream_numbered old number → GoesOn old new number
goes_on_same old new number same = record { delivery = ap delivery_of same; closing = λ was. ap closing_of same ∙ was }

-- ---- by the rows of the table

abbrev pub closing_slot : StreamSlot → Bool
closing_slot free = true
closing_slot (used stream) = stream.closing

-- It isn't an OPEN that gives the stream to this channel.
abbrev pub IsNoOpenOf : ℕ → SlotInput → Type 0
IsNoOpenOf name (hears_open true other opening) = other ≡ name → ⊥
IsNoOpenOf name input = Unit {0}

settles : (peer_reset : Bool) (own : OwnReset) (stream : StreamUse) → stream.closing ≡ true → closing_slot (settled_if_reset peer_reset own stream).after ≡ true
settles true Performed stream is = refl
settles true NotAsked stream is = is
settles true Asked stream is = is
settles true GivenUp stream is = is
settles false own stream is = is

opens_again : (accepted peer_reset : Bool) (own : OwnReset) (other : ℕ) (opening : Opening) (stream : StreamUse) (name : ℕ) → IsNoOpenOf name (hears_open accepted other opening)
    → name_of_slot (reopens_if_reset peer_reset own accepted other opening stream).after ≡ Some name → closing_slot (reopens_if_reset peer_reset own accepted other opening stream).after ≡ true
opens_again true true Asked other opening stream name not_it has = let same : other ≡ name = cc in absurd (not_it same)
opens_again false true Asked other opening stream name not_it has = refl
opens_again accepted true NotAsked other opening stream name not_it has = refl
opens_again accepted true Performed other opening stream name not_it has = refl
opens_again accepted true GivenUp other opening stream name not_it has = refl
opens_again accepted false own other opening stream name not_it has = refl

acknowledges : (owes closing : Bool) (stream : StreamUse) → stream.closing ≡ true → closing_slot (acknowledges_if_owed owes closing stream).after ≡ true
acknowledges true false stream is = is
acknowledges true true stream is = is
acknowledges false closing stream is = is

resets : (closing awaits : Bool) (own : OwnReset) (stream : StreamUse) → stream.closing ≡ true → closing_slot (resets_if_closing closing awaits own stream).after ≡ true
resets true false NotAsked stream is = is
resets true false Asked stream is = is
resets true false Performed stream is = is
resets true false GivenUp stream is = is
resets true true own stream is = is
resets false awaits own stream is = is

gives_up : (closing awaits : Bool) (own : OwnReset) (stream : StreamUse) → stream.closing ≡ true → closing_slot (gives_up_if_closing closing awaits own stream).after ≡ true
gives_up true false NotAsked stream is = is
gives_up true false Asked stream is = is
gives_up true false Performed stream is = is
gives_up true false GivenUp stream is = is
gives_up true true own stream is = is
gives_up false awaits own stream is = is

performs : (own : OwnReset) (stream : StreamUse) → stream.closing ≡ true → closing_slot (after_performed own stream).after ≡ true
performs Asked stream is = settles stream.peer_reset Performed (record stream { own = Performed; awaits_answer = false }) is
performs NotAsked stream is = is
performs Performed stream is = is
performs GivenUp stream is = is

asks_again : (again : Bool) (stream : StreamUse) → stream.closing ≡ true → closing_slot (asks_again_or_gives_up again stream).after ≡ true
asks_again true stream is = is
asks_again false stream is = is

refuses : (own : OwnReset) (stream : StreamUse) → stream.closing ≡ true → closing_slot (after_refused own stream).after ≡ true
refuses Asked stream is = asks_again (nat_lt (stream.refusals + 1) most_refusals) (record stream { awaits_answer = false }) is
refuses NotAsked stream is = is
refuses Performed stream is = is
refuses GivenUp stream is = is

-- A closing stream is closing after each row, while it has the same channel.
row_closing : (input : SlotInput) (stream : StreamUse) (name : ℕ) → IsNoOpenOf name input → name_of_slot (outcome_of input (used stream)).after ≡ Some name → stream.closing ≡ true
    → closing_slot (outcome_of input (used stream)).after ≡ true
row_closing (opens other opening) stream name not_it has is = is
row_closing (agrees other) stream name not_it has is = is
row_closing (hears_open accepted other opening) stream name not_it has is = opens_again accepted stream.peer_reset stream.own other opening stream name not_it has
row_closing hears_ack stream name not_it has is = is
row_closing (hears_message content) stream name not_it has is = is
row_closing hears_bad_message stream name not_it has is = refl
row_closing may_acknowledge stream name not_it has is = acknowledges stream.owes_ack stream.closing stream is
row_closing is_closed stream name not_it has is = refl
row_closing all_is_sent stream name not_it has is = resets stream.closing stream.awaits_answer stream.own stream is
row_closing cannot_reset stream name not_it has is = gives_up stream.closing stream.awaits_answer stream.own stream is
row_closing was_performed stream name not_it has is = performs stream.own stream is
row_closing was_refused stream name not_it has is = refuses stream.own stream is
row_closing peer_resets stream name not_it has is = settles true stream.own (record stream { peer_reset = true; closing = true }) refl
row_closing association_ends stream name not_it has is = refl

-- What is dropped leaves a stream that is closing, or has no channel.
pub dropped_closing : (content : ChannelContent) (slot : StreamSlot) (name : ℕ) → (name_of_slot slot ≡ None) ⊎ (closing_slot slot ≡ true) → name_of_slot (outcome_of (hears_message content) slot).after ≡ Some name
    → closing_slot (outcome_of (hears_message content) slot).after ≡ true
dropped_closing content free name why has = refl
dropped_closing content (used stream) name (inr is) has = is
dropped_closing content (used stream) name (inl none) has = let both : None ≡ Some name = sym none ∙ has in absurd cc

pub bad_closing : (slot : StreamSlot) → closing_slot (outcome_of hears_bad_message slot).after ≡ true
bad_closing free = refl
bad_closing (used stream) = refl

-- One that is open stays so over a message.
pub heard_open : (content : ChannelContent) (slot : StreamSlot) (name : ℕ) → name_of_slot slot ≡ Some name → closing_slot slot ≡ false
    → (closing_slot (outcome_of (hears_message content) slot).after ≡ false) × (name_of_slot (outcome_of (hears_message content) slot).after ≡ Some name)
heard_open content free name has is = absurd cc
heard_open content (used stream) name has is = (is, has)

pub closing_by_slot : (held : Option HeldStream) → closing_of held ≡ closing_slot (slot_of held)
closing_by_slot None = refl
closing_by_slot (Some held) = refl

-- ---- the rules

counted_same : (closing : Bool) (bytes : ℕ) (held : HeldStream) → (if closing then held else received_on bytes held).delivery ≡ held.delivery
counted_same true bytes held = refl
counted_same false bytes held = refl

same_rules : (accepted peer_reset : Bool) (own : OwnReset) (other : ℕ) (opening : Opening) (moment : ℕ) (delivery : Delivery) (held : HeldStream) (stream left : StreamUse) (name : ℕ)
    → IsNoOpenOf name (hears_open accepted other opening) → name_of_slot (reopens_if_reset peer_reset own accepted other opening stream).after ≡ Some name
    → (held_or_begun (may_reopen (record stream { peer_reset = peer_reset; own = own })) moment delivery held left).delivery ≡ held.delivery
same_rules true true Asked other opening moment delivery held stream left name not_it has = let same : other ≡ name = cc in absurd (not_it same)
same_rules false true Asked other opening moment delivery held stream left name not_it has = absurd cc
same_rules accepted true NotAsked other opening moment delivery held stream left name not_it has = refl
same_rules accepted true Performed other opening moment delivery held stream left name not_it has = refl
same_rules accepted true GivenUp other opening moment delivery held stream left name not_it has = refl
same_rules accepted false own other opening moment delivery held stream left name not_it has = refl

row_rules : (input : SlotInput) (moment : ℕ) (delivery : Delivery) (held : HeldStream) (left : StreamUse) (name : ℕ) → IsNoOpenOf name input → name_of_slot (outcome_of input (used held.stream)).after ≡ Some name
    → (held_after moment delivery input (Some held) left).delivery ≡ held.delivery
row_rules (opens other opening) moment delivery held left name not_it has = refl
row_rules (agrees other) moment delivery held left name not_it has = refl
row_rules (hears_open accepted other opening) moment delivery held left name not_it has =
    same_rules accepted held.stream.peer_reset held.stream.own other opening moment delivery held held.stream left name not_it has
row_rules hears_ack moment delivery held left name not_it has = refl
row_rules (hears_message content) moment delivery held left name not_it has = counted_same held.stream.closing (length content.bytes) held
row_rules hears_bad_message moment delivery held left name not_it has = refl
row_rules may_acknowledge moment delivery held left name not_it has = refl
row_rules is_closed moment delivery held left name not_it has = refl
row_rules all_is_sent moment delivery held left name not_it has = refl
row_rules cannot_reset moment delivery held left name not_it has = refl
row_rules was_performed moment delivery held left name not_it has = refl
row_rules was_refused moment delivery held left name not_it has = refl
row_rules peer_resets moment delivery held left name not_it has = refl
row_rules association_ends moment delivery held left name not_it has = refl

-- ---- a row

stream_left : (moment : ℕ) (delivery : Delivery) (input : SlotInput) (held : HeldStream) (stream : StreamUse) → (held_after moment delivery input (Some held) stream).stream ≡ stream
stream_left moment delivery input held stream = go (gives_again input held.stream)
  where
    go : (b : Bool) → (held_or_begun b moment delivery (counted_with input held) stream).stream ≡ stream
    go true = refl
    go false = refl

entry_apart : (q number : ℕ) (held : Option HeldStream) (slot : StreamSlot) (f : StreamUse → HeldStream) (es : List (ℕ × HeldStream)) → (q ≡ number → ⊥)
    → entry_numbered q (streams_with number held slot f es) ≡ entry_numbered q es
entry_apart q number None free f es apart = refl
entry_apart q number (Some old) free f es apart = without_apart q number es apart
entry_apart q number None (used stream) f es apart = put_apart q number (f stream) es apart
entry_apart q number (Some old) (used stream) f es apart = put_apart q number (f stream) es apart

module _ (number moment : ℕ) (delivery : Delivery) (input : SlotInput) (es : List (ℕ × HeldStream)) (name : ℕ) (not_it : IsNoOpenOf name input) where
  abbrev entry_left : Option HeldStream → StreamSlot → Option HeldStream
  entry_left held slot = entry_numbered number (streams_with number held slot (held_after moment delivery input held) es)

  used_goes_on : (held : HeldStream) (slot : StreamSlot) → (outcome_of input (used held.stream)).after ≡ slot → name_of_slot slot ≡ Some name
      → (delivery_of (entry_left (Some held) slot) ≡ Some held.delivery) × (held.stream.closing ≡ true → closing_of (entry_left (Some held) slot) ≡ true)
  used_goes_on held free is has = absurd cc
  used_goes_on held (used left) is has =
      let here : entry_left (Some held) (used left) ≡ Some (held_after moment delivery input (Some held) left) = put_here number (held_after moment delivery input (Some held) left) es in
      let there : name_of_slot (outcome_of input (used held.stream)).after ≡ Some name = ap name_of_slot is ∙ has in (
        ap delivery_of here ∙ ap (λ (d : Delivery). Some d) (row_rules input moment delivery held left name not_it there),
        (λ was. ap closing_of here ∙ ap (λ (s : StreamUse). s.closing) (stream_left moment delivery input held left) ∙ ap closing_slot (sym is) ∙ row_closing input held.stream name not_it there was),
      )

  held_goes_on : (held : Option HeldStream) → name_of_slot (slot_of held) ≡ Some name → name_of_slot (outcome_of input (slot_of held)).after ≡ Some name
      → (delivery_of (entry_left held (outcome_of input (slot_of held)).after) ≡ delivery_of held)
      × (closing_of held ≡ true → closing_of (entry_left held (outcome_of input (slot_of held)).after) ≡ true)
  held_goes_on None had has = absurd cc
  held_goes_on (Some held) had has = used_goes_on held (outcome_of input (used held.stream)).after refl has

-- A stream whose channel lasts goes on over a row.
pub row_goes_on : (number : ℕ) (delivery : Delivery) (input : SlotInput) (layer : LayerView) (left : LayerView)
    → left.streams ≡ streams_with number (held_stream_numbered layer number) (outcome_of input (slot_numbered layer number)).after (held_after layer.moment delivery input (held_stream_numbered layer number)) layer.streams
    → RowLeaves number (outcome_of input (slot_numbered layer number)).after layer left.streams left.names
    → (name k : ℕ) → IsNoOpenOf name input → name_of_slot (slot_numbered layer k) ≡ Some name → entry_numbered name left.names ≡ Some k → GoesOn layer left k
row_goes_on number delivery input layer left is row name k not_it had on = by (cases_eq k number)
  where
    here : k ≡ number → name_of_slot (outcome_of input (slot_numbered layer number)).after ≡ Some name
    here same = named (is_named (name_of_slot (outcome_of input (slot_numbered layer number)).after) name)
      where
        named : (name_of_slot (outcome_of input (slot_numbered layer number)).after ≡ Some name) ⊎ (name_of_slot (outcome_of input (slot_numbered layer number)).after ≡ Some name → ⊥)
            → name_of_slot (outcome_of input (slot_numbered layer number)).after ≡ Some name
        named (inl has) = has
        named (inr not) =
            let none : entry_numbered name left.names ≡ None = row.freed name (subst (λ (m : ℕ). name_of_slot (slot_numbered layer m) ≡ Some name) same had) not in
            let both : Some k ≡ None = sym on ∙ none in absurd cc

    by : (k ≡ number) ⊎ (k ≡ number → ⊥) → GoesOn layer left k
    by (inr apart) =
        goes_on_same layer left k
        (ap (entry_numbered k) is
        ∙ entry_apart k number (held_stream_numbered layer number) (outcome_of input (slot_numbered layer number)).after (held_after layer.moment delivery input (held_stream_numbered layer number)) layer.streams apart)
    by (inl same) =
        let both = held_goes_on number layer.moment delivery input layer.streams name not_it (held_stream_numbered layer number) (subst (λ (m : ℕ). name_of_slot (slot_numbered layer m) ≡ Some name) same had) (here same) in
        subst (λ (m : ℕ). GoesOn layer left m) (sym same)
        (record {
          delivery = ap (λ (es : List (ℕ × HeldStream)). delivery_of (entry_numbered number es)) is ∙ both.0;
          closing = λ was. ap (λ (es : List (ℕ × HeldStream)). closing_of (entry_numbered number es)) is ∙ both.1 was;
        })
