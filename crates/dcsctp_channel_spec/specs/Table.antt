-- What each input makes of a stream (RFC 8831, section 6; RFC 8832, section 6). One equation a row.
use Rattle.std.specs.Prelude.{ℕ, ◌+◌, Bool, true, false, Option, Some, None, List, [], ◌∷◌, ◌++◌, nat_lt}
use Rattle.dcsctp_channel_spec.specs.declared.types.ChannelEnd.{ChannelEnd}
use Rattle.dcsctp_channel_spec.specs.declared.types.ChannelEnd.TheVariants.{Closed, Refused, ResetRefused, Lost}
use Rattle.dcsctp_channel_spec.specs.declared.types.OwnReset.{OwnReset}
use Rattle.dcsctp_channel_spec.specs.declared.types.OwnReset.TheVariants.{NotAsked, Asked, Performed, GivenUp}
use Rattle.dcsctp_channel_spec.specs.declared.types.StreamUse.{StreamUse}
use Rattle.dcsctp_channel_spec.specs.Contents.{ChannelContent}
use Rattle.dcsctp_channel_spec.specs.Slots.{Opening, StreamSlot, free, used, opened_use, agreed_use, accepted_use, refused_use, Report, opened, incoming, message, ended, send_open, send_ack, reset_stream, SlotOutcome, SlotInput, opens, agrees, hears_open, hears_ack, hears_message, hears_bad_message, may_acknowledge, is_closed, all_is_sent, cannot_reset, was_performed, was_refused, peer_resets, association_ends}

abbrev pub slot_stays : StreamSlot → SlotOutcome
slot_stays slot = record { after = slot; reports = []; asks = [] }

abbrev pub becomes : StreamUse → SlotOutcome
becomes stream = slot_stays (used stream)

abbrev pub reports_of : Option ℕ → (ℕ → Report) → List Report
reports_of None report = []
reports_of (Some name) report = report name ∷ []

-- one that has a channel reports its end
abbrev pub ends_as : ChannelEnd → StreamUse → List Report
ends_as end stream = reports_of stream.name (λ name. ended name end)

-- ---- both directions were reset

abbrev pub end_if_heard : Bool → ChannelEnd
end_if_heard true = Closed
end_if_heard false = Refused

-- The stream is free where the peer has reset it, and has performed our reset (RFC 8831, section 6.7).
abbrev pub settled_if_reset : Bool → OwnReset → StreamUse → SlotOutcome
settled_if_reset true Performed stream = record { after = free; reports = ends_as (end_if_heard stream.heard) stream; asks = [] }
settled_if_reset peer_reset own stream = becomes stream

abbrev pub settled_use : StreamUse → SlotOutcome
settled_use stream = settled_if_reset stream.peer_reset stream.own stream

abbrev pub closed_use : StreamUse → StreamUse
closed_use stream = record stream { closing = true }

-- ---- this end opens

abbrev pub on_open : ℕ → Opening → StreamSlot → SlotOutcome
on_open name opening free = record { after = used (opened_use name); reports = []; asks = send_open opening ∷ [] }
on_open name opening (used stream) = becomes stream

abbrev pub on_agreement : ℕ → StreamSlot → SlotOutcome
on_agreement name free = record { after = used (agreed_use name); reports = opened name ∷ []; asks = [] }
on_agreement name (used stream) = becomes stream

-- ---- the peer opens

abbrev pub accepts_or_refuses : Bool → ℕ → Opening → Bool → SlotOutcome
accepts_or_refuses true name opening awaits = record { after = used (accepted_use name awaits); reports = incoming name opening ∷ []; asks = [] }
accepts_or_refuses false name opening awaits = becomes (refused_use awaits)

abbrev pub reports_before : List Report → SlotOutcome → SlotOutcome
reports_before reports outcome = record outcome { reports = reports ++ outcome.reports }

-- A peer gives a stream again once it has reset it and performed our reset. Then the OPEN says what the answer to our
-- request would have said, and that answer is still to come.
abbrev pub reopens_if_reset : Bool → OwnReset → Bool → ℕ → Opening → StreamUse → SlotOutcome
reopens_if_reset true Asked accepted name opening stream = reports_before (ends_as (end_if_heard stream.heard) stream) (accepts_or_refuses accepted name opening true)
reopens_if_reset peer_reset own accepted name opening stream = becomes (closed_use stream)

abbrev pub on_peer_open : Bool → ℕ → Opening → StreamSlot → SlotOutcome
on_peer_open accepted name opening free = accepts_or_refuses accepted name opening false
on_peer_open accepted name opening (used stream) = reopens_if_reset stream.peer_reset stream.own accepted name opening stream

-- ---- what the peer sends

-- The peer knows the channel. The user hears of it, unless it is being closed.
abbrev pub heard_reports : Bool → Bool → StreamUse → List Report
heard_reports false false stream = reports_of stream.name opened
heard_reports heard closing stream = []

abbrev pub heard_use : StreamUse → StreamUse
heard_use stream = record stream { heard = true }

abbrev pub hears : List Report → StreamUse → SlotOutcome
hears reports stream = record { after = used (heard_use stream); reports = heard_reports stream.heard stream.closing stream ++ reports; asks = [] }

abbrev pub on_ack : StreamSlot → SlotOutcome
on_ack free = slot_stays free
on_ack (used stream) = hears [] stream

-- what comes on a closing channel is dropped
abbrev pub message_reports : Bool → Option ℕ → ChannelContent → List Report
message_reports false name content = reports_of name (λ channel. message channel content)
message_reports true name content = []

abbrev pub on_message : ChannelContent → StreamSlot → SlotOutcome
on_message content free = becomes (refused_use false)
on_message content (used stream) = hears (message_reports stream.closing stream.name content) stream

abbrev pub on_bad_message : StreamSlot → SlotOutcome
on_bad_message free = becomes (refused_use false)
on_bad_message (used stream) = becomes (closed_use stream)

-- ---- the ACK

abbrev pub acknowledges_if_owed : Bool → Bool → StreamUse → SlotOutcome
acknowledges_if_owed true false stream = record { after = used (record stream { owes_ack = false }); reports = []; asks = send_ack ∷ [] }
acknowledges_if_owed owes_ack closing stream = becomes stream

abbrev pub on_room : StreamSlot → SlotOutcome
on_room free = slot_stays free
on_room (used stream) = acknowledges_if_owed stream.owes_ack stream.closing stream

-- ---- the own reset

abbrev pub on_close : StreamSlot → SlotOutcome
on_close free = slot_stays free
on_close (used stream) = becomes (closed_use stream)

-- Not where the request of the channel before isn't answered: the socket would take the one for the other.
abbrev pub resets_if_closing : Bool → Bool → OwnReset → StreamUse → SlotOutcome
resets_if_closing true false NotAsked stream = record { after = used (record stream { own = Asked }); reports = []; asks = reset_stream ∷ [] }
resets_if_closing closing awaits own stream = becomes stream

abbrev pub on_all_sent : StreamSlot → SlotOutcome
on_all_sent free = slot_stays free
on_all_sent (used stream) = resets_if_closing stream.closing stream.awaits_answer stream.own stream

-- its user hears of the end, and the stream isn't given again before the association ends
abbrev pub given_up : StreamUse → SlotOutcome
given_up stream = record { after = used (record stream { own = GivenUp; name = None }); reports = ends_as ResetRefused stream; asks = [] }

abbrev pub gives_up_if_closing : Bool → Bool → OwnReset → StreamUse → SlotOutcome
gives_up_if_closing true false NotAsked stream = given_up stream
gives_up_if_closing closing awaits own stream = becomes stream

abbrev pub on_no_reset : StreamSlot → SlotOutcome
on_no_reset free = slot_stays free
on_no_reset (used stream) = gives_up_if_closing stream.closing stream.awaits_answer stream.own stream

abbrev pub after_performed : OwnReset → StreamUse → SlotOutcome
after_performed Asked stream = settled_use (record stream { own = Performed; awaits_answer = false })
after_performed own stream = becomes (record stream { awaits_answer = false })

abbrev pub on_performed : StreamSlot → SlotOutcome
on_performed free = slot_stays free
on_performed (used stream) = after_performed stream.own stream

-- a peer that refuses a reset so often isn't asked again
abbrev pub most_refusals : ℕ
most_refusals = 3

abbrev pub asks_again_or_gives_up : Bool → StreamUse → SlotOutcome
asks_again_or_gives_up true stream = becomes (record stream { own = NotAsked; refusals = stream.refusals + 1 })
asks_again_or_gives_up false stream = given_up stream

abbrev pub after_refused : OwnReset → StreamUse → SlotOutcome
after_refused Asked stream = asks_again_or_gives_up (nat_lt (stream.refusals + 1) most_refusals) (record stream { awaits_answer = false })
after_refused own stream = becomes (record stream { awaits_answer = false })

abbrev pub on_refused : StreamSlot → SlotOutcome
on_refused free = slot_stays free
on_refused (used stream) = after_refused stream.own stream

-- ---- the peer's reset, and the association's end

abbrev pub on_peer_reset : StreamSlot → SlotOutcome
on_peer_reset free = slot_stays free
on_peer_reset (used stream) = settled_use (record stream { peer_reset = true; closing = true })

abbrev pub on_association_end : StreamSlot → SlotOutcome
on_association_end free = slot_stays free
on_association_end (used stream) = record { after = free; reports = ends_as Lost stream; asks = [] }

-- ---- the table

abbrev pub outcome_of : SlotInput → StreamSlot → SlotOutcome
outcome_of (opens name opening) slot = on_open name opening slot
outcome_of (agrees name) slot = on_agreement name slot
outcome_of (hears_open accepted name opening) slot = on_peer_open accepted name opening slot
outcome_of hears_ack slot = on_ack slot
outcome_of (hears_message content) slot = on_message content slot
outcome_of hears_bad_message slot = on_bad_message slot
outcome_of may_acknowledge slot = on_room slot
outcome_of is_closed slot = on_close slot
outcome_of all_is_sent slot = on_all_sent slot
outcome_of cannot_reset slot = on_no_reset slot
outcome_of was_performed slot = on_performed slot
outcome_of was_refused slot = on_refused slot
outcome_of peer_resets slot = on_peer_reset slot
outcome_of association_ends slot = on_association_end slot
