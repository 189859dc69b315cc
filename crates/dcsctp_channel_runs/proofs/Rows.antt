-- Rows of the table, and what they tell of the peer: all but an OPEN that is accepted and a message of its user tell nothing of it.
use Rattle.std.proofs.Common.{◌≡◌, ◌⊎◌, ℕ, ◌+◌, Bool, true, false, not, nat_lt, Option, Some, None, List, [], ◌∷◌, ◌++◌, map, refl, ap, ◌∙◌, inl, inr}
use Rattle.dcsctp_channel_calls.specs.messages.channel_spec.declared.types.ChannelEnd.{ChannelEnd}
use Rattle.dcsctp_channel_calls.specs.messages.channel_spec.declared.types.ChannelEnd.TheVariants.{ResetRefused, Lost}
use Rattle.dcsctp_channel_calls.specs.messages.channel_spec.declared.types.Delivery.{Delivery}
use Rattle.dcsctp_channel_calls.specs.messages.channel_spec.declared.types.OwnReset.{OwnReset}
use Rattle.dcsctp_channel_calls.specs.messages.channel_spec.declared.types.OwnReset.TheVariants.{NotAsked, Asked, Performed, GivenUp}
use Rattle.dcsctp_channel_calls.specs.messages.channel_spec.declared.types.StreamUse.{StreamUse}
use Rattle.dcsctp_channel_calls.specs.messages.channel_spec.Contents.{ChannelContent}
use Rattle.dcsctp_channel_calls.specs.messages.channel_spec.Slots.{Opening, StreamSlot, free, used, name_of_slot, SlotOutcome, Report, opened, incoming, message, ended, SlotInput, opens, agrees, hears_open, hears_ack, hears_message, hears_bad_message, may_acknowledge, is_closed, all_is_sent, cannot_reset, was_performed, was_refused, peer_resets, association_ends}
use Rattle.dcsctp_channel_calls.specs.messages.channel_spec.Table.{outcome_of, reports_of, end_if_heard, settled_if_reset, reopens_if_reset, heard_reports, message_reports, acknowledges_if_owed, resets_if_closing, gives_up_if_closing, after_performed, asks_again_or_gives_up, after_refused, most_refusals}
use Rattle.dcsctp_channel_calls.specs.View.{ChannelNotice, packet_out, association_made, of_channel, amount_low, association_over, LayerView, slot_numbered, row_taken}
use Rattle.dcsctp_channel_runs.specs.Acts.{OpenedChannel, NamedContent, packets_given, channels_reported, messages_reported}
use Rattle.dcsctp_channel_runs.proofs.Notices.{Tells}
use Rattle.dcsctp_channel_runs.proofs.Lasting.{closing_slot}

-- They tell nothing of the peer.
abbrev pub IsSilent : List Report → Type 0
IsSilent reports = (channels_reported (map of_channel reports) ≡ []) × (messages_reported (map of_channel reports) ≡ [])

ends_silently : (name : Option ℕ) (e : ChannelEnd) → IsSilent (reports_of name (λ n. ended n e))
ends_silently None e = (refl, refl)
ends_silently (Some n) e = (refl, refl)

ends_before : (name : Option ℕ) (e : ChannelEnd) → IsSilent (reports_of name (λ n. ended n e) ++ [])
ends_before None e = (refl, refl)
ends_before (Some n) e = (refl, refl)

settles : (peer_reset : Bool) (own : OwnReset) (stream : StreamUse) → IsSilent (settled_if_reset peer_reset own stream).reports
settles true Performed stream = ends_silently stream.name (end_if_heard stream.heard)
settles true NotAsked stream = (refl, refl)
settles true Asked stream = (refl, refl)
settles true GivenUp stream = (refl, refl)
settles false own stream = (refl, refl)

reopens : (peer_reset : Bool) (own : OwnReset) (name : ℕ) (opening : Opening) (stream : StreamUse) → IsSilent (reopens_if_reset peer_reset own false name opening stream).reports
reopens true Asked name opening stream = ends_before stream.name (end_if_heard stream.heard)
reopens true NotAsked name opening stream = (refl, refl)
reopens true Performed name opening stream = (refl, refl)
reopens true GivenUp name opening stream = (refl, refl)
reopens false own name opening stream = (refl, refl)

opens_before : (name : Option ℕ) (more : List Report) → IsSilent more → IsSilent (reports_of name opened ++ more)
opens_before None more quiet = quiet
opens_before (Some n) more quiet = quiet

hears : (heard closing : Bool) (stream : StreamUse) (more : List Report) → IsSilent more → IsSilent (heard_reports heard closing stream ++ more)
hears false false stream more quiet = opens_before stream.name more quiet
hears false true stream more quiet = quiet
hears true closing stream more quiet = quiet

acknowledges : (owes closing : Bool) (stream : StreamUse) → IsSilent (acknowledges_if_owed owes closing stream).reports
acknowledges true false stream = (refl, refl)
acknowledges true true stream = (refl, refl)
acknowledges false closing stream = (refl, refl)

resets : (closing awaits : Bool) (own : OwnReset) (stream : StreamUse) → IsSilent (resets_if_closing closing awaits own stream).reports
resets true false NotAsked stream = (refl, refl)
resets true false Asked stream = (refl, refl)
resets true false Performed stream = (refl, refl)
resets true false GivenUp stream = (refl, refl)
resets true true own stream = (refl, refl)
resets false awaits own stream = (refl, refl)

gives_up : (closing awaits : Bool) (own : OwnReset) (stream : StreamUse) → IsSilent (gives_up_if_closing closing awaits own stream).reports
gives_up true false NotAsked stream = ends_silently stream.name ResetRefused
gives_up true false Asked stream = (refl, refl)
gives_up true false Performed stream = (refl, refl)
gives_up true false GivenUp stream = (refl, refl)
gives_up true true own stream = (refl, refl)
gives_up false awaits own stream = (refl, refl)

performs : (own : OwnReset) (stream : StreamUse) → IsSilent (after_performed own stream).reports
performs Asked stream = settles stream.peer_reset Performed (record stream { own = Performed; awaits_answer = false })
performs NotAsked stream = (refl, refl)
performs Performed stream = (refl, refl)
performs GivenUp stream = (refl, refl)

asks_again : (again : Bool) (stream : StreamUse) → IsSilent (asks_again_or_gives_up again stream).reports
asks_again true stream = (refl, refl)
asks_again false stream = ends_silently stream.name ResetRefused

refuses : (own : OwnReset) (stream : StreamUse) → IsSilent (after_refused own stream).reports
refuses Asked stream = asks_again (nat_lt (stream.refusals + 1) most_refusals) (record stream { awaits_answer = false })
refuses NotAsked stream = (refl, refl)
refuses Performed stream = (refl, refl)
refuses GivenUp stream = (refl, refl)

-- an input that brings nothing of the peer's user
abbrev pub brings_nothing : SlotInput → Bool
brings_nothing (hears_open accepted name opening) = not accepted
brings_nothing (hears_message content) = false
brings_nothing input = true

used_silent : (input : SlotInput) (stream : StreamUse) → brings_nothing input ≡ true → IsSilent (outcome_of input (used stream)).reports
used_silent (opens name opening) stream none = (refl, refl)
used_silent (agrees name) stream none = (refl, refl)
used_silent (hears_open true name opening) stream none = absurd cc
used_silent (hears_open false name opening) stream none = reopens stream.peer_reset stream.own name opening stream
used_silent hears_ack stream none = hears stream.heard stream.closing stream [] (refl, refl)
used_silent (hears_message content) stream none = absurd cc
used_silent hears_bad_message stream none = (refl, refl)
used_silent may_acknowledge stream none = acknowledges stream.owes_ack stream.closing stream
used_silent is_closed stream none = (refl, refl)
used_silent all_is_sent stream none = resets stream.closing stream.awaits_answer stream.own stream
used_silent cannot_reset stream none = gives_up stream.closing stream.awaits_answer stream.own stream
used_silent was_performed stream none = performs stream.own stream
used_silent was_refused stream none = refuses stream.own stream
used_silent peer_resets stream none = settles true stream.own (record stream { peer_reset = true; closing = true })
used_silent association_ends stream none = ends_silently stream.name Lost

free_silent : (input : SlotInput) → brings_nothing input ≡ true → IsSilent (outcome_of input free).reports
free_silent (opens name opening) none = (refl, refl)
free_silent (agrees name) none = (refl, refl)
free_silent (hears_open true name opening) none = absurd cc
free_silent (hears_open false name opening) none = (refl, refl)
free_silent hears_ack none = (refl, refl)
free_silent (hears_message content) none = absurd cc
free_silent hears_bad_message none = (refl, refl)
free_silent may_acknowledge none = (refl, refl)
free_silent is_closed none = (refl, refl)
free_silent all_is_sent none = (refl, refl)
free_silent cannot_reset none = (refl, refl)
free_silent was_performed none = (refl, refl)
free_silent was_refused none = (refl, refl)
free_silent peer_resets none = (refl, refl)
free_silent association_ends none = (refl, refl)

pub row_silent : (input : SlotInput) (slot : StreamSlot) → brings_nothing input ≡ true → IsSilent (outcome_of input slot).reports
row_silent input free none = free_silent input none
row_silent input (used stream) none = used_silent input stream none

-- ---- an OPEN that is accepted, and a message of the user

-- the channel of the stream, or none
abbrev pub BringsChannel : ℕ → Opening → SlotOutcome → Type 0
BringsChannel name opening outcome =
    IsSilent outcome.reports
    ⊎ ((name_of_slot outcome.after ≡ Some name) × (channels_reported (map of_channel outcome.reports) ≡ record { name = name; opening = opening } ∷ []) × (messages_reported (map of_channel outcome.reports) ≡ []))

after_end : (ended_name : Option ℕ) (e : ChannelEnd) (name : ℕ) (opening : Opening)
    → (channels_reported (map of_channel (reports_of ended_name (λ n. ended n e) ++ incoming name opening ∷ [])) ≡ record { name = name; opening = opening } ∷ [])
    × (messages_reported (map of_channel (reports_of ended_name (λ n. ended n e) ++ incoming name opening ∷ [])) ≡ [])
after_end None e name opening = (refl, refl)
after_end (Some n) e name opening = (refl, refl)

reopened : (peer_reset : Bool) (own : OwnReset) (name : ℕ) (opening : Opening) (stream : StreamUse) → BringsChannel name opening (reopens_if_reset peer_reset own true name opening stream)
reopened true Asked name opening stream = let told = after_end stream.name (end_if_heard stream.heard) name opening in inr (refl, told.0, told.1)
reopened true NotAsked name opening stream = inl (refl, refl)
reopened true Performed name opening stream = inl (refl, refl)
reopened true GivenUp name opening stream = inl (refl, refl)
reopened false own name opening stream = inl (refl, refl)

pub row_brings_channel : (name : ℕ) (opening : Opening) (slot : StreamSlot) → BringsChannel name opening (outcome_of (hears_open true name opening) slot)
row_brings_channel name opening free = inr (refl, refl, refl)
row_brings_channel name opening (used stream) = reopened stream.peer_reset stream.own name opening stream

-- a message on the channel of the stream, where it is open, or none
pub data BringsContent (content : ChannelContent) (closing : Bool) (name : Option ℕ) (reports : List Report) : Type 0 where
  brings_none : IsSilent reports → (name ≡ None) ⊎ (closing ≡ true) → BringsContent content closing name reports
  brings_one : (on : ℕ) → name ≡ Some on → closing ≡ false → channels_reported (map of_channel reports) ≡ [] → messages_reported (map of_channel reports) ≡ record { name = on; content = content } ∷ []
      → BringsContent content closing name reports

content_there : (closing : Bool) (name : Option ℕ) (content : ChannelContent) → BringsContent content closing name (message_reports closing name content)
content_there true name content = brings_none (refl, refl) (inr refl)
content_there false None content = brings_none (refl, refl) (inl refl)
content_there false (Some n) content = brings_one n refl refl refl refl

opened_before : (opened_name name : Option ℕ) (closing : Bool) (content : ChannelContent) (more : List Report) → BringsContent content closing name more → BringsContent content closing name (reports_of opened_name opened ++ more)
opened_before None name closing content more brings = brings
opened_before (Some n) name closing content more (brings_none silent why) = brings_none silent why
opened_before (Some n) name closing content more (brings_one on is is_open none one) = brings_one on is is_open none one

content_heard : (heard closing : Bool) (stream : StreamUse) (name : Option ℕ) (shut : Bool) (content : ChannelContent) (more : List Report) → BringsContent content shut name more
    → BringsContent content shut name (heard_reports heard closing stream ++ more)
content_heard false false stream name shut content more brings = opened_before stream.name name shut content more brings
content_heard false true stream name shut content more brings = brings
content_heard true closing stream name shut content more brings = brings

pub row_brings_content : (content : ChannelContent) (slot : StreamSlot) → BringsContent content (closing_slot slot) (name_of_slot slot) (outcome_of (hears_message content) slot).reports
row_brings_content content free = brings_none (refl, refl) (inl refl)
row_brings_content content (used stream) =
    content_heard stream.heard stream.closing stream stream.name stream.closing content (message_reports stream.closing stream.name content) (content_there stream.closing stream.name content)

-- ---- lists of notices

pub channels-append : (xs ys : List ChannelNotice) → channels_reported (xs ++ ys) ≡ channels_reported xs ++ channels_reported ys
channels-append [] ys = refl
channels-append (packet_out p ∷ xs) ys = channels-append xs ys
channels-append (association_made ∷ xs) ys = channels-append xs ys
channels-append (of_channel (opened n) ∷ xs) ys = channels-append xs ys
channels-append (of_channel (incoming n o) ∷ xs) ys = ap (λ (l : List OpenedChannel). record { name = n; opening = o } ∷ l) (channels-append xs ys)
channels-append (of_channel (message n m) ∷ xs) ys = channels-append xs ys
channels-append (of_channel (ended n e) ∷ xs) ys = channels-append xs ys
channels-append (amount_low n ∷ xs) ys = channels-append xs ys
channels-append (association_over ∷ xs) ys = channels-append xs ys

pub messages-append : (xs ys : List ChannelNotice) → messages_reported (xs ++ ys) ≡ messages_reported xs ++ messages_reported ys
messages-append [] ys = refl
messages-append (packet_out p ∷ xs) ys = messages-append xs ys
messages-append (association_made ∷ xs) ys = messages-append xs ys
messages-append (of_channel (opened n) ∷ xs) ys = messages-append xs ys
messages-append (of_channel (incoming n o) ∷ xs) ys = messages-append xs ys
messages-append (of_channel (message n m) ∷ xs) ys = ap (λ (l : List NamedContent). record { name = n; content = m } ∷ l) (messages-append xs ys)
messages-append (of_channel (ended n e) ∷ xs) ys = messages-append xs ys
messages-append (amount_low n ∷ xs) ys = messages-append xs ys
messages-append (association_over ∷ xs) ys = messages-append xs ys

pub packets-append : (xs ys : List ChannelNotice) → packets_given (xs ++ ys) ≡ packets_given xs ++ packets_given ys
packets-append [] ys = refl
packets-append (packet_out p ∷ xs) ys = ap (λ (l : List (List ℕ)). p ∷ l) (packets-append xs ys)
packets-append (association_made ∷ xs) ys = packets-append xs ys
packets-append (of_channel r ∷ xs) ys = packets-append xs ys
packets-append (amount_low n ∷ xs) ys = packets-append xs ys
packets-append (association_over ∷ xs) ys = packets-append xs ys

pub no_packets : (reports : List Report) → packets_given (map of_channel reports) ≡ []
no_packets [] = refl
no_packets (report ∷ reports) = no_packets reports

-- More notices behind what there was tell what they say.
pub tells_more : (before more : List ChannelNotice) (channels : List OpenedChannel) (contents : List NamedContent)
    → channels_reported more ≡ channels → messages_reported more ≡ contents → packets_given more ≡ [] → Tells [] channels contents before (before ++ more)
tells_more before more channels contents some others plain =
    record {
      incoming = channels-append before more ∙ ap (λ (l : List OpenedChannel). channels_reported before ++ l) some;
      messages = messages-append before more ∙ ap (λ (l : List NamedContent). messages_reported before ++ l) others;
      plain = λ none. packets-append before more ∙ ap (λ (l : List (List ℕ)). l ++ packets_given more) none ∙ plain;
    }

pub row_tells : (number : ℕ) (delivery : Delivery) (input : SlotInput) (layer : LayerView) → brings_nothing input ≡ true → Tells [] [] [] layer.notices (row_taken number delivery input layer).notices
row_tells number delivery input layer none =
    let reports : List Report = (outcome_of input (slot_numbered layer number)).reports in
    let silent = row_silent input (slot_numbered layer number) none in
    tells_more layer.notices (map of_channel reports) [] [] silent.0 silent.1 (no_packets reports)
