-- Rows of the table that give no name: all but an OPEN that is accepted. The messages that they report are within the limits.
use Rattle.std.proofs.Common.{◌≤◌, length, ◌≡◌, ℕ, ◌+◌, Bool, true, false, nat_lt, Option, Some, None, List, [], ◌++◌, map, refl}
use Rattle.dcsctp_channel_calls.specs.messages.channel_spec.declared.types.ChannelEnd.{ChannelEnd}
use Rattle.dcsctp_channel_calls.specs.messages.channel_spec.declared.types.ChannelEnd.TheVariants.{ResetRefused, Lost}
use Rattle.dcsctp_channel_calls.specs.messages.channel_spec.declared.types.Delivery.{Delivery}
use Rattle.dcsctp_channel_calls.specs.messages.channel_spec.declared.types.OwnReset.{OwnReset}
use Rattle.dcsctp_channel_calls.specs.messages.channel_spec.declared.types.OwnReset.TheVariants.{NotAsked, Asked, Performed, GivenUp}
use Rattle.dcsctp_channel_calls.specs.messages.channel_spec.declared.types.StreamUse.{StreamUse}
use Rattle.dcsctp_channel_calls.specs.messages.channel_spec.Contents.{ChannelContent}
use Rattle.dcsctp_channel_calls.specs.messages.channel_spec.Slots.{Opening, StreamSlot, free, used, Report, opened, ended, SlotInput, opens, agrees, hears_open, hears_ack, hears_message, hears_bad_message, may_acknowledge, is_closed, all_is_sent, cannot_reset, was_performed, was_refused, peer_resets, association_ends}
use Rattle.dcsctp_channel_calls.specs.messages.channel_spec.Table.{outcome_of, reports_of, end_if_heard, settled_if_reset, reopens_if_reset, heard_reports, message_reports, acknowledges_if_owed, resets_if_closing, gives_up_if_closing, after_performed, asks_again_or_gives_up, after_refused, most_refusals}
use Rattle.dcsctp_channel_calls.specs.declared.channel.Limits.{Limits}
use Rattle.dcsctp_channel_calls.specs.View.{of_channel, LayerView, slot_numbered, row_taken}
use Rattle.dcsctp_channel_laws.specs.Names.{names_given, AreWithin}
use Rattle.dcsctp_channel_laws.proofs.Adding.{le_same, Adds, adds_quietly}

-- They give no name, and are within the limits.
abbrev IsQuiet : Limits → List Report → Type 0
IsQuiet limits reports = (names_given (map of_channel reports) ≡ []) × AreWithin limits (map of_channel reports)

ends_quietly : (limits : Limits) (name : Option ℕ) (e : ChannelEnd) → IsQuiet limits (reports_of name (λ n. ended n e))
ends_quietly limits None e = (refl, tt)
ends_quietly limits (Some n) e = (refl, tt)

ends_before : (limits : Limits) (name : Option ℕ) (e : ChannelEnd) → IsQuiet limits (reports_of name (λ n. ended n e) ++ [])
ends_before limits None e = (refl, tt)
ends_before limits (Some n) e = (refl, tt)

settles : (limits : Limits) (peer_reset : Bool) (own : OwnReset) (stream : StreamUse) → IsQuiet limits (settled_if_reset peer_reset own stream).reports
settles limits true Performed stream = ends_quietly limits stream.name (end_if_heard stream.heard)
settles limits true NotAsked stream = (refl, tt)
settles limits true Asked stream = (refl, tt)
settles limits true GivenUp stream = (refl, tt)
settles limits false own stream = (refl, tt)

reopens : (limits : Limits) (peer_reset : Bool) (own : OwnReset) (name : ℕ) (opening : Opening) (stream : StreamUse) → IsQuiet limits (reopens_if_reset peer_reset own false name opening stream).reports
reopens limits true Asked name opening stream = ends_before limits stream.name (end_if_heard stream.heard)
reopens limits true NotAsked name opening stream = (refl, tt)
reopens limits true Performed name opening stream = (refl, tt)
reopens limits true GivenUp name opening stream = (refl, tt)
reopens limits false own name opening stream = (refl, tt)

opens_before : (limits : Limits) (name : Option ℕ) (more : List Report) → IsQuiet limits more → IsQuiet limits (reports_of name opened ++ more)
opens_before limits None more quiet = quiet
opens_before limits (Some n) more quiet = quiet

hears : (limits : Limits) (heard closing : Bool) (stream : StreamUse) (more : List Report) → IsQuiet limits more → IsQuiet limits (heard_reports heard closing stream ++ more)
hears limits false false stream more quiet = opens_before limits stream.name more quiet
hears limits false true stream more quiet = quiet
hears limits true closing stream more quiet = quiet

messages : (limits : Limits) (closing : Bool) (name : Option ℕ) (content : ChannelContent) → length content.bytes ≤ limits.message → IsQuiet limits (message_reports closing name content)
messages limits true name content le = (refl, tt)
messages limits false None content le = (refl, tt)
messages limits false (Some n) content le = (refl, (le, tt))

acknowledges : (limits : Limits) (owes closing : Bool) (stream : StreamUse) → IsQuiet limits (acknowledges_if_owed owes closing stream).reports
acknowledges limits true false stream = (refl, tt)
acknowledges limits true true stream = (refl, tt)
acknowledges limits false closing stream = (refl, tt)

resets : (limits : Limits) (closing awaits : Bool) (own : OwnReset) (stream : StreamUse) → IsQuiet limits (resets_if_closing closing awaits own stream).reports
resets limits true false NotAsked stream = (refl, tt)
resets limits true false Asked stream = (refl, tt)
resets limits true false Performed stream = (refl, tt)
resets limits true false GivenUp stream = (refl, tt)
resets limits true true own stream = (refl, tt)
resets limits false awaits own stream = (refl, tt)

gives_up : (limits : Limits) (closing awaits : Bool) (own : OwnReset) (stream : StreamUse) → IsQuiet limits (gives_up_if_closing closing awaits own stream).reports
gives_up limits true false NotAsked stream = ends_quietly limits stream.name ResetRefused
gives_up limits true false Asked stream = (refl, tt)
gives_up limits true false Performed stream = (refl, tt)
gives_up limits true false GivenUp stream = (refl, tt)
gives_up limits true true own stream = (refl, tt)
gives_up limits false awaits own stream = (refl, tt)

performs : (limits : Limits) (own : OwnReset) (stream : StreamUse) → IsQuiet limits (after_performed own stream).reports
performs limits Asked stream = settles limits stream.peer_reset Performed (record stream { own = Performed; awaits_answer = false })
performs limits NotAsked stream = (refl, tt)
performs limits Performed stream = (refl, tt)
performs limits GivenUp stream = (refl, tt)

asks_again : (limits : Limits) (again : Bool) (stream : StreamUse) → IsQuiet limits (asks_again_or_gives_up again stream).reports
asks_again limits true stream = (refl, tt)
asks_again limits false stream = ends_quietly limits stream.name ResetRefused

refuses : (limits : Limits) (own : OwnReset) (stream : StreamUse) → IsQuiet limits (after_refused own stream).reports
refuses limits Asked stream = asks_again limits (nat_lt (stream.refusals + 1) most_refusals) (record stream { awaits_answer = false })
refuses limits NotAsked stream = (refl, tt)
refuses limits Performed stream = (refl, tt)
refuses limits GivenUp stream = (refl, tt)

-- a message that is reported isn't too long
abbrev pub IsBounded : Limits → SlotInput → Type 0
IsBounded limits (hears_message content) = length content.bytes ≤ limits.message
IsBounded limits input = Unit {0}

abbrev pub accepts : SlotInput → Bool
accepts (hears_open accepted name opening) = accepted
accepts input = false

rest_quiet : (limits : Limits) (input : SlotInput) (stream : StreamUse) → accepts input ≡ false → IsBounded limits input → IsQuiet limits (outcome_of input (used stream)).reports
rest_quiet limits (opens name opening) stream not bounded = (refl, tt)
rest_quiet limits (agrees name) stream not bounded = (refl, tt)
rest_quiet limits (hears_open true name opening) stream not bounded = absurd cc
rest_quiet limits (hears_open false name opening) stream not bounded = reopens limits stream.peer_reset stream.own name opening stream
rest_quiet limits hears_ack stream not bounded = hears limits stream.heard stream.closing stream [] (refl, tt)
rest_quiet limits (hears_message content) stream not bounded = hears limits stream.heard stream.closing stream (message_reports stream.closing stream.name content) (messages limits stream.closing stream.name content bounded)
rest_quiet limits hears_bad_message stream not bounded = (refl, tt)
rest_quiet limits may_acknowledge stream not bounded = acknowledges limits stream.owes_ack stream.closing stream
rest_quiet limits is_closed stream not bounded = (refl, tt)
rest_quiet limits all_is_sent stream not bounded = resets limits stream.closing stream.awaits_answer stream.own stream
rest_quiet limits cannot_reset stream not bounded = gives_up limits stream.closing stream.awaits_answer stream.own stream
rest_quiet limits was_performed stream not bounded = performs limits stream.own stream
rest_quiet limits was_refused stream not bounded = refuses limits stream.own stream
rest_quiet limits peer_resets stream not bounded = settles limits true stream.own (record stream { peer_reset = true; closing = true })
rest_quiet limits association_ends stream not bounded = ends_quietly limits stream.name Lost

free_quiet : (limits : Limits) (input : SlotInput) → accepts input ≡ false → IsQuiet limits (outcome_of input free).reports
free_quiet limits (opens name opening) not = (refl, tt)
free_quiet limits (agrees name) not = (refl, tt)
free_quiet limits (hears_open true name opening) not = absurd cc
free_quiet limits (hears_open false name opening) not = (refl, tt)
free_quiet limits hears_ack not = (refl, tt)
free_quiet limits (hears_message content) not = (refl, tt)
free_quiet limits hears_bad_message not = (refl, tt)
free_quiet limits may_acknowledge not = (refl, tt)
free_quiet limits is_closed not = (refl, tt)
free_quiet limits all_is_sent not = (refl, tt)
free_quiet limits cannot_reset not = (refl, tt)
free_quiet limits was_performed not = (refl, tt)
free_quiet limits was_refused not = (refl, tt)
free_quiet limits peer_resets not = (refl, tt)
free_quiet limits association_ends not = (refl, tt)

quiet : (limits : Limits) (input : SlotInput) (slot : StreamSlot) → accepts input ≡ false → IsBounded limits input → IsQuiet limits (outcome_of input slot).reports
quiet limits input free not bounded = free_quiet limits input not
quiet limits input (used stream) not bounded = rest_quiet limits input stream not bounded

-- limits that this input keeps
abbrev wide : SlotInput → Limits
wide (hears_message content) = record { channels = 0; text = 0; message = length content.bytes }
wide input = record { channels = 0; text = 0; message = 0 }

wide_enough : (input : SlotInput) → IsBounded (wide input) input
wide_enough (opens name opening) = tt
wide_enough (agrees name) = tt
wide_enough (hears_open accepted name opening) = tt
wide_enough hears_ack = tt
wide_enough (hears_message content) = le_same (length content.bytes)
wide_enough hears_bad_message = tt
wide_enough may_acknowledge = tt
wide_enough is_closed = tt
wide_enough all_is_sent = tt
wide_enough cannot_reset = tt
wide_enough was_performed = tt
wide_enough was_refused = tt
wide_enough peer_resets = tt
wide_enough association_ends = tt

-- Nothing gives a name.
abbrev pub GivesNoName : List Report → Type 0
GivesNoName reports = names_given (map of_channel reports) ≡ []

pub no_names : (input : SlotInput) (slot : StreamSlot) → accepts input ≡ false → GivesNoName (outcome_of input slot).reports
no_names input slot not = (quiet (wide input) input slot not (wide_enough input)).0

pub row_adds : (number : ℕ) (delivery : Delivery) (input : SlotInput) (layer : LayerView) → accepts input ≡ false → IsBounded layer.limits input → Adds layer (row_taken number delivery input layer)
row_adds number delivery input layer not bounded =
    let all = quiet layer.limits input (slot_numbered layer number) not bounded in
    adds_quietly layer (row_taken number delivery input layer) (map of_channel (outcome_of input (slot_numbered layer number)).reports) refl all.0 all.1 (le_same layer.named) refl
