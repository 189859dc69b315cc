-- The channel of a stream before and after a row of the table.
use Rattle.std.proofs.Common.{◌≡◌, ◌⊎◌, ℕ, ◌+◌, Bool, true, false, not, nat_lt, Option, Some, None, refl, inl, inr}
use Rattle.dcsctp_channel_calls.specs.messages.channel_spec.declared.types.OwnReset.{OwnReset}
use Rattle.dcsctp_channel_calls.specs.messages.channel_spec.declared.types.OwnReset.TheVariants.{NotAsked, Asked, Performed, GivenUp}
use Rattle.dcsctp_channel_calls.specs.messages.channel_spec.declared.types.StreamUse.{StreamUse}
use Rattle.dcsctp_channel_calls.specs.messages.channel_spec.Slots.{Opening, StreamSlot, free, used, name_of_slot, SlotOutcome, SlotInput, opens, agrees, hears_open, hears_ack, hears_message, hears_bad_message, may_acknowledge, is_closed, all_is_sent, cannot_reset, was_performed, was_refused, peer_resets, association_ends}
use Rattle.dcsctp_channel_calls.specs.messages.channel_spec.Table.{outcome_of, settled_if_reset, reopens_if_reset, acknowledges_if_owed, resets_if_closing, gives_up_if_closing, after_performed, asks_again_or_gives_up, after_refused, most_refusals}
use Rattle.dcsctp_channel_runs.proofs.Lasting.{IsNoOpenOf}

-- ---- the channel of a stream, before and after a row

-- an input that gives the stream to no channel
abbrev pub names_none : SlotInput → Bool
names_none (opens name opening) = false
names_none (agrees name) = false
names_none (hears_open accepted name opening) = not accepted
names_none input = true

-- It keeps its channel, or has none.
abbrev pub KeepsName : Option ℕ → SlotOutcome → Type 0
KeepsName name outcome = (name_of_slot outcome.after ≡ name) ⊎ (name_of_slot outcome.after ≡ None)

pub settles : (peer_reset : Bool) (own : OwnReset) (stream : StreamUse) → KeepsName stream.name (settled_if_reset peer_reset own stream)
settles true Performed stream = inr refl
settles true NotAsked stream = inl refl
settles true Asked stream = inl refl
settles true GivenUp stream = inl refl
settles false own stream = inl refl

pub refuses_open : (peer_reset : Bool) (own : OwnReset) (name : ℕ) (opening : Opening) (stream : StreamUse) → KeepsName stream.name (reopens_if_reset peer_reset own false name opening stream)
refuses_open true Asked name opening stream = inr refl
refuses_open true NotAsked name opening stream = inl refl
refuses_open true Performed name opening stream = inl refl
refuses_open true GivenUp name opening stream = inl refl
refuses_open false own name opening stream = inl refl

pub acknowledges : (owes closing : Bool) (stream : StreamUse) → KeepsName stream.name (acknowledges_if_owed owes closing stream)
acknowledges true false stream = inl refl
acknowledges true true stream = inl refl
acknowledges false closing stream = inl refl

pub resets : (closing awaits : Bool) (own : OwnReset) (stream : StreamUse) → KeepsName stream.name (resets_if_closing closing awaits own stream)
resets true false NotAsked stream = inl refl
resets true false Asked stream = inl refl
resets true false Performed stream = inl refl
resets true false GivenUp stream = inl refl
resets true true own stream = inl refl
resets false awaits own stream = inl refl

pub gives_up : (closing awaits : Bool) (own : OwnReset) (stream : StreamUse) → KeepsName stream.name (gives_up_if_closing closing awaits own stream)
gives_up true false NotAsked stream = inr refl
gives_up true false Asked stream = inl refl
gives_up true false Performed stream = inl refl
gives_up true false GivenUp stream = inl refl
gives_up true true own stream = inl refl
gives_up false awaits own stream = inl refl

pub performs : (own : OwnReset) (stream : StreamUse) → KeepsName stream.name (after_performed own stream)
performs Asked stream = settles stream.peer_reset Performed (record stream { own = Performed; awaits_answer = false })
performs NotAsked stream = inl refl
performs Performed stream = inl refl
performs GivenUp stream = inl refl

pub asks_again : (again : Bool) (stream : StreamUse) → KeepsName stream.name (asks_again_or_gives_up again stream)
asks_again true stream = inl refl
asks_again false stream = inr refl

pub refuses : (own : OwnReset) (stream : StreamUse) → KeepsName stream.name (after_refused own stream)
refuses Asked stream = asks_again (nat_lt (stream.refusals + 1) most_refusals) (record stream { awaits_answer = false })
refuses NotAsked stream = inl refl
refuses Performed stream = inl refl
refuses GivenUp stream = inl refl

pub used_keeps_name : (input : SlotInput) (stream : StreamUse) → names_none input ≡ true → KeepsName stream.name (outcome_of input (used stream))
used_keeps_name (opens name opening) stream none = inl refl
used_keeps_name (agrees name) stream none = inl refl
used_keeps_name (hears_open true name opening) stream none = absurd cc
used_keeps_name (hears_open false name opening) stream none = refuses_open stream.peer_reset stream.own name opening stream
used_keeps_name hears_ack stream none = inl refl
used_keeps_name (hears_message content) stream none = inl refl
used_keeps_name hears_bad_message stream none = inl refl
used_keeps_name may_acknowledge stream none = acknowledges stream.owes_ack stream.closing stream
used_keeps_name is_closed stream none = inl refl
used_keeps_name all_is_sent stream none = resets stream.closing stream.awaits_answer stream.own stream
used_keeps_name cannot_reset stream none = gives_up stream.closing stream.awaits_answer stream.own stream
used_keeps_name was_performed stream none = performs stream.own stream
used_keeps_name was_refused stream none = refuses stream.own stream
used_keeps_name peer_resets stream none = settles true stream.own (record stream { peer_reset = true; closing = true })
used_keeps_name association_ends stream none = inr refl

pub free_keeps_name : (input : SlotInput) → names_none input ≡ true → KeepsName None (outcome_of input free)
free_keeps_name (opens name opening) none = absurd cc
free_keeps_name (agrees name) none = absurd cc
free_keeps_name (hears_open true name opening) none = absurd cc
free_keeps_name (hears_open false name opening) none = inl refl
free_keeps_name hears_ack none = inl refl
free_keeps_name (hears_message content) none = inl refl
free_keeps_name hears_bad_message none = inl refl
free_keeps_name may_acknowledge none = inl refl
free_keeps_name is_closed none = inl refl
free_keeps_name all_is_sent none = inl refl
free_keeps_name cannot_reset none = inl refl
free_keeps_name was_performed none = inl refl
free_keeps_name was_refused none = inl refl
free_keeps_name peer_resets none = inl refl
free_keeps_name association_ends none = inl refl

pub keeps_name : (input : SlotInput) (slot : StreamSlot) → names_none input ≡ true → KeepsName (name_of_slot slot) (outcome_of input slot)
keeps_name input free none = free_keeps_name input none
keeps_name input (used stream) none = used_keeps_name input stream none

-- an OPEN that is accepted names the next channel, or the stream keeps its own
pub accepted_again : (peer_reset : Bool) (own : OwnReset) (name : ℕ) (opening : Opening) (stream : StreamUse)
    → (name_of_slot (reopens_if_reset peer_reset own true name opening stream).after ≡ Some name) ⊎ (name_of_slot (reopens_if_reset peer_reset own true name opening stream).after ≡ stream.name)
accepted_again true Asked name opening stream = inl refl
accepted_again true NotAsked name opening stream = inr refl
accepted_again true Performed name opening stream = inr refl
accepted_again true GivenUp name opening stream = inr refl
accepted_again false own name opening stream = inr refl

pub accepted_name : (name : ℕ) (opening : Opening) (slot : StreamSlot)
    → (name_of_slot (outcome_of (hears_open true name opening) slot).after ≡ Some name) ⊎ (name_of_slot (outcome_of (hears_open true name opening) slot).after ≡ name_of_slot slot)
accepted_name name opening free = inl refl
accepted_name name opening (used stream) = accepted_again stream.peer_reset stream.own name opening stream

-- It isn't an OPEN that is accepted.
pub opens_none : (input : SlotInput) (name : ℕ) → names_none input ≡ true → IsNoOpenOf name input
opens_none (opens other opening) name none = tt
opens_none (agrees other) name none = tt
opens_none (hears_open true other opening) name none = absurd cc
opens_none (hears_open false other opening) name none = tt
opens_none hears_ack name none = tt
opens_none (hears_message content) name none = tt
opens_none hears_bad_message name none = tt
opens_none may_acknowledge name none = tt
opens_none is_closed name none = tt
opens_none all_is_sent name none = tt
opens_none cannot_reset name none = tt
opens_none was_performed name none = tt
opens_none was_refused name none = tt
opens_none peer_resets name none = tt
opens_none association_ends name none = tt
