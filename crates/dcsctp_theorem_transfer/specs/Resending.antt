-- What is lost is sent again: once T3 expires, the lowest TSN that isn't acknowledged is in front of the next packet (RFC 9260,
-- section 6.3.3, E3). Here of a socket that has nothing else to say.
use Rattle.std.specs.Prelude.{◌≡◌, ◌≤◌, ◌-◌, ℕ, Bool, true, false, None, Some, List, [], ◌∷◌}
use Rattle.std.specs.List.{AllByRecursion, slice_get}
use Rattle.dcsctp_spec_lemmas.specs.types.Settings.{packet_size_limit}
use Rattle.dcsctp_spec_lemmas.specs.types.Sizes.{common_header_size}
use Rattle.dcsctp_spec_lemmas.specs.types.queues.Progress.{is_unacknowledged, is_abandoned}
use Rattle.dcsctp_spec_lemmas.specs.spec.Packet.{Content, plain, unworked, Emission}
use Rattle.dcsctp_spec_lemmas.specs.spec.association.Acts.{flushes}
use Rattle.dcsctp_spec_lemmas.specs.spec.endpoint.CallTurns.{Transition, IsTurn}
use Rattle.dcsctp_spec_lemmas.specs.spec.endpoint.Endpoint.{Endpoint}
use Rattle.dcsctp_spec_lemmas.specs.spec.endpoint.Event.{packets_of_events}
use Rattle.dcsctp_spec_lemmas.specs.spec.endpoint.FlushOutcomes.{allows_packet}
use Rattle.dcsctp_spec_lemmas.specs.spec.endpoint.OwnTimers.{retransmission}
use Rattle.dcsctp_spec_lemmas.specs.spec.endpoint.Turn.{act_input, timer_expires}
use Rattle.dcsctp_spec_lemmas.specs.spec.queues.Abandoning.{NoneAwaitedBefore}
use Rattle.dcsctp_spec_lemmas.specs.spec.queues.Chunks.{chunk_said}
use Rattle.dcsctp_spec_lemmas.specs.spec.queues.Items.{Item, item_size}
use Rattle.dcsctp_spec_lemmas.specs.spec.queues.Outstanding.{header, tsn_at}
use Rattle.dcsctp_spec_lemmas.specs.spec.queues.OwnResets.{ready_streams}
use Rattle.dcsctp_spec_lemmas.specs.spec.queues.Sending.{Fragment}
use Rattle.dcsctp_spec_lemmas.specs.spec.queues.Tracker.{owes_acknowledgement}
use Rattle.dcsctp_spec_lemmas.specs.spec.queues.Transfer.{Transfer}
use Rattle.dcsctp_theorem_transfer.specs.Deadlines.{IsOpen}

-- Its message has no limit, and wasn't abandoned.
pub record IsLasting (item : Item) : Type 0 where
  pub unlimited : item.fragment.max_retransmissions ≡ None
  pub lifelong : item.fragment.expires_at ≡ None
  pub stays : is_abandoned item.progress.state ≡ false

-- The association is open, and may send a packet. It owes no acknowledgement, no stream waits to be reset, and no message has a
-- limit.
pub record SaysDataAlone (e : Endpoint) (transfer : Transfer) : Type 0 where
  pub is_open : IsOpen e.core
  pub has : e.queues.transfer ≡ Some transfer
  pub allowed : allows_packet e.options.max_burst ≡ true
  pub settled : owes_acknowledgement transfer.tracker ≡ false
  pub resets : ready_streams e.queues.queue ≡ []
  pub lasting : AllByRecursion IsLasting transfer.retransmission.outstanding.items

-- The item at this place is the lowest that isn't acknowledged, and fits a packet.
pub record IsLowest (e : Endpoint) (transfer : Transfer) (place : ℕ) : Type 0 where
  pub item : Item
  pub at : slice_get transfer.retransmission.outstanding.items place ≡ Some item
  pub awaited : is_unacknowledged item.progress.state ≡ true
  pub first : NoneAwaitedBefore place transfer.retransmission.outstanding.items
  pub fits : item_size (header transfer.retransmission.outstanding) item ≤ packet_size_limit e.options - common_header_size

-- The first of these packets begins with the data of this TSN.
pub record BeginWithTsn (tsn : ℕ) (packets : List Emission) : Type 0 where
  pub first : Emission
  pub others : List Emission
  pub are : packets ≡ first ∷ others
  pub is_interleaved : Bool
  pub fragment : Fragment
  pub more : List Content
  pub contents : first.packet.contents ≡ plain (unworked (chunk_said is_interleaved tsn fragment)) ∷ more

-- T3 expires, and a flush follows.
abbrev pub LostDataIsSentAgain : Type 0
LostDataIsSentAgain =
    (e : Endpoint) (transfer : Transfer) (place : ℕ) (lost flushed : Transition) → IsTurn e (timer_expires retransmission) lost → IsTurn lost.outcome.after (act_input flushes) flushed
    → SaysDataAlone e transfer → IsLowest e transfer place → BeginWithTsn (tsn_at transfer.retransmission.outstanding place) (packets_of_events flushed.outcome.events)
