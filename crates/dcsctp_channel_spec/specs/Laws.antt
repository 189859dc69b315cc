-- What holds of each row of the table, in other words than its own.
use Rattle.std.specs.Prelude.{◌≡◌, ◌≤◌, ◌⊎◌, ℕ, Bool, true, false, Option, Some, None, List, [], ◌∷◌}
use Rattle.dcsctp_channel_spec.specs.declared.types.ChannelEnd.{ChannelEnd}
use Rattle.dcsctp_channel_spec.specs.declared.types.ChannelEnd.TheVariants.{Closed, Refused, ResetRefused, Lost}
use Rattle.dcsctp_channel_spec.specs.declared.types.OwnReset.{OwnReset}
use Rattle.dcsctp_channel_spec.specs.declared.types.OwnReset.TheVariants.{NotAsked, Asked, Performed, GivenUp}
use Rattle.dcsctp_channel_spec.specs.declared.types.StreamUse.{StreamUse}
use Rattle.dcsctp_channel_spec.specs.Contents.{ChannelContent}
use Rattle.dcsctp_channel_spec.specs.Slots.{StreamSlot, free, used, name_of_slot, Report, opened, incoming, message, ended, SlotAsk, send_open, send_ack, reset_stream, SlotInput, opens, agrees, hears_open, hears_message, hears_bad_message, may_acknowledge, is_closed, all_is_sent, cannot_reset, was_performed, was_refused, peer_resets, association_ends}
use Rattle.dcsctp_channel_spec.specs.Table.{outcome_of}

-- ---- what is reported

-- the channel of a stream, once an input of this end's user has given it one
abbrev pub given_name : SlotInput → StreamSlot → Option ℕ
given_name (opens name opening) free = Some name
given_name (agrees name) free = Some name
given_name input slot = name_of_slot slot

-- What is reported names the channel of its stream, in this order: an OPEN of the peer makes one where there is none,
-- messages and the peer's knowledge are of one that is there, and after its end there is none.
abbrev pub Speaks : Option ℕ → List Report → Option ℕ → Type 0
Speaks before [] after = before ≡ after
Speaks None (incoming name opening ∷ reports) after = Speaks (Some name) reports after
Speaks (Some name) (opened other ∷ reports) after = (other ≡ name) × Speaks (Some name) reports after
Speaks (Some name) (message other content ∷ reports) after = (other ≡ name) × Speaks (Some name) reports after
Speaks (Some name) (ended other why ∷ reports) after = (other ≡ name) × Speaks None reports after
Speaks before (report ∷ reports) after = ⊥

abbrev pub EachSpeaksInTurn : Type 0
EachSpeaksInTurn = (input : SlotInput) (slot : StreamSlot) → Speaks (given_name input slot) (outcome_of input slot).reports (name_of_slot (outcome_of input slot).after)

abbrev pub messages_of_reports : List Report → List Report
messages_of_reports [] = []
messages_of_reports (message name content ∷ reports) = message name content ∷ messages_of_reports reports
messages_of_reports (report ∷ reports) = messages_of_reports reports

abbrev pub message_if_open : Option ℕ → Bool → ChannelContent → List Report
message_if_open (Some name) false content = message name content ∷ []
message_if_open name closing content = []

abbrev pub message_due : SlotInput → StreamSlot → List Report
message_due (hears_message content) (used stream) = message_if_open stream.name stream.closing content
message_due input slot = []

-- A message is reported as it came, where its channel is open, and no other message is.
abbrev pub MessagesAreReported : Type 0
MessagesAreReported = (input : SlotInput) (slot : StreamSlot) → messages_of_reports (outcome_of input slot).reports ≡ message_due input slot

-- Each that is reported as incoming was opened so by this OPEN, which was accepted.
abbrev pub AreTrueOpenings : SlotInput → List Report → Type 0
AreTrueOpenings input [] = Unit {0}
AreTrueOpenings (hears_open accepted name opening) (incoming other said ∷ reports) =
    (accepted ≡ true) × (other ≡ name) × (said ≡ opening) × AreTrueOpenings (hears_open accepted name opening) reports
AreTrueOpenings input (incoming other said ∷ reports) = ⊥
AreTrueOpenings input (report ∷ reports) = AreTrueOpenings input reports

abbrev pub IncomingWereOpened : Type 0
IncomingWereOpened = (input : SlotInput) (slot : StreamSlot) → AreTrueOpenings input (outcome_of input slot).reports

abbrev pub knows : StreamSlot → Bool
knows free = false
knows (used stream) = stream.heard

-- The peer comes to know a channel where its user hears so.
abbrev pub KnowFrom : Bool → List Report → Bool → Type 0
KnowFrom before [] after = Unit {0}
KnowFrom before (opened name ∷ reports) after = (before ≡ false) × (after ≡ true) × KnowFrom true reports after
KnowFrom before (report ∷ reports) after = KnowFrom before reports after

abbrev pub OpeningIsReportedOnce : Type 0
OpeningIsReportedOnce = (input : SlotInput) (slot : StreamSlot) → KnowFrom (knows slot) (outcome_of input slot).reports (knows (outcome_of input slot).after)

-- Both directions are reset now; an OPEN of the peer on a stream that it has reset says that it has performed our reset.
abbrev pub BothAreReset : SlotInput → StreamUse → Type 0
BothAreReset was_performed stream = (stream.own ≡ Asked) × (stream.peer_reset ≡ true)
BothAreReset peer_resets stream = stream.own ≡ Performed
BothAreReset (hears_open accepted name opening) stream = (stream.own ≡ Asked) × (stream.peer_reset ≡ true)
BothAreReset input stream = ⊥

-- why a channel of this stream is over
abbrev pub IsWhy : ChannelEnd → SlotInput → StreamUse → StreamSlot → Type 0
IsWhy Closed input stream after = (stream.heard ≡ true) × BothAreReset input stream
IsWhy Refused input stream after = (stream.heard ≡ false) × BothAreReset input stream
IsWhy Lost association_ends stream after = Unit {0}
IsWhy ResetRefused input stream (used later) = later.own ≡ GivenUp
IsWhy why input stream after = ⊥

abbrev pub EndFor : SlotInput → StreamSlot → StreamSlot → List Report → Type 0
EndFor input slot after [] = Unit {0}
EndFor input (used stream) after (ended name why ∷ reports) = IsWhy why input stream after × EndFor input (used stream) after reports
EndFor input free after (ended name why ∷ reports) = ⊥
EndFor input slot after (report ∷ reports) = EndFor input slot after reports

abbrev pub EndsSayWhy : Type 0
EndsSayWhy = (input : SlotInput) (slot : StreamSlot) → EndFor input slot (outcome_of input slot).after (outcome_of input slot).reports

-- ---- when a stream is free

-- Both directions were reset, now that this has come, or the association is over (RFC 8831, section 6.7).
abbrev pub FreesStream : SlotInput → StreamUse → Type 0
FreesStream was_performed stream = (stream.own ≡ Asked) × (stream.peer_reset ≡ true)
FreesStream peer_resets stream = stream.own ≡ Performed
FreesStream association_ends stream = Unit {0}
FreesStream input stream = ⊥

pub record IsFreedExactly (input : SlotInput) (stream : StreamUse) : Type 0 where
  pub only : (outcome_of input (used stream)).after ≡ free → FreesStream input stream
  pub always : FreesStream input stream → (outcome_of input (used stream)).after ≡ free

abbrev pub FreedByBothResets : Type 0
FreedByBothResets = (input : SlotInput) (stream : StreamUse) → IsFreedExactly input stream

-- ---- what is asked of the socket

-- An OPEN goes out where a channel gets its stream, an ACK once, and a reset on a closing stream of which no request is
-- unanswered: each only by its input, and is recorded.
abbrev pub IsAllowedAsk : SlotInput → StreamSlot → StreamSlot → SlotAsk → Type 0
IsAllowedAsk (opens name opening) free after (send_open said) = said ≡ opening
IsAllowedAsk may_acknowledge (used stream) (used later) send_ack = (stream.owes_ack ≡ true) × (stream.closing ≡ false) × (later.owes_ack ≡ false)
IsAllowedAsk all_is_sent (used stream) (used later) reset_stream =
    (stream.closing ≡ true) × (stream.own ≡ NotAsked) × (stream.awaits_answer ≡ false) × (later.own ≡ Asked)
IsAllowedAsk input slot after request = ⊥

-- One call of the socket at most.
abbrev pub AreAllowedAsks : SlotInput → StreamSlot → StreamSlot → List SlotAsk → Type 0
AreAllowedAsks input slot after [] = Unit {0}
AreAllowedAsks input slot after (request ∷ []) = IsAllowedAsk input slot after request
AreAllowedAsks input slot after requests = ⊥

abbrev pub RequestsAreApart : Type 0
RequestsAreApart = (input : SlotInput) (slot : StreamSlot) → AreAllowedAsks input slot (outcome_of input slot).after (outcome_of input slot).asks

-- ---- while a channel lasts

-- The own reset comes further by an input. It is asked again only where the peer has refused it.
abbrev pub Steps : SlotInput → OwnReset → OwnReset → Type 0
Steps all_is_sent NotAsked Asked = Unit {0}
Steps cannot_reset NotAsked GivenUp = Unit {0}
Steps was_performed Asked Performed = Unit {0}
Steps was_refused Asked NotAsked = Unit {0}
Steps was_refused Asked GivenUp = Unit {0}
Steps input old new = ⊥

-- Nothing is undone.
pub record Advances (input : SlotInput) (old new : StreamUse) : Type 0 where
  pub heard : old.heard ≡ true → new.heard ≡ true
  pub closing : old.closing ≡ true → new.closing ≡ true
  pub peer_reset : old.peer_reset ≡ true → new.peer_reset ≡ true
  pub owes_ack : old.owes_ack ≡ false → new.owes_ack ≡ false
  pub answered : old.awaits_answer ≡ false → new.awaits_answer ≡ false
  pub own : (new.own ≡ old.own) ⊎ Steps input old.own new.own
  pub refusals : old.refusals ≤ new.refusals

-- The peer gives the stream again once it has reset it and performed our reset, whose answer is still to come.
pub record IsReopened (old new : StreamUse) : Type 0 where
  pub was_reset : old.peer_reset ≡ true
  pub was_asked : old.own ≡ Asked
  pub awaits : new.awaits_answer ≡ true
  pub begins : new.own ≡ NotAsked

abbrev pub AdvancesTo : SlotInput → StreamUse → StreamSlot → Type 0
AdvancesTo input old free = Unit {0}
AdvancesTo (hears_open accepted name opening) old (used new) = IsReopened old new ⊎ Advances (hears_open accepted name opening) old new
AdvancesTo input old (used new) = Advances input old new

abbrev pub UsesAdvance : Type 0
UsesAdvance = (input : SlotInput) (stream : StreamUse) → AdvancesTo input stream (outcome_of input (used stream)).after

-- ---- closes

abbrev pub closes : SlotInput → Bool
closes is_closed = true
closes hears_bad_message = true
closes peer_resets = true
closes input = false

-- A channel that either end has closed, or that carried what can't be read, is closing or over.
abbrev pub ClosesTakeEffect : Type 0
ClosesTakeEffect =
    (input : SlotInput) (stream later : StreamUse) → closes input ≡ true → (outcome_of input (used stream)).after ≡ used later → later.closing ≡ true

-- The association's end frees each stream.
abbrev pub LossFreesAll : Type 0
LossFreesAll = (slot : StreamSlot) → (outcome_of association_ends slot).after ≡ free
