-- What a turn of a socket does to its queues, action by action. Each action is a step of the
-- direction on which the socket sends, and of the one on which it receives (specs/Sides).
use Rattle.std.specs.Prelude.{◌≡◌, ◌≢◌, ◌<◌, ◌⊎◌, ◌^◌, ℕ, Bool, true, false, Option, None, Some, List, [], ◌∷◌, ◌++◌, length}
use Rattle.std.specs.List.{AllByRecursion}
use Rattle.dcsctp_spec_lemmas.specs.wire.Content.{DataContent, IDataContent, SackContent, data_chunk, i_data_chunk, sack_chunk, error_chunk, forward_tsn_chunk, i_forward_tsn_chunk}
use Rattle.dcsctp_spec_lemmas.specs.types.declared.association.Held.{Held}
use Rattle.dcsctp_spec_lemmas.specs.types.declared.association.Pair.{Pair}
use Rattle.dcsctp_spec_lemmas.specs.spec.endpoint.Endpoint.{Endpoint, Core, closed, cookie_wait, cookie_echoed, open_in}
use Rattle.dcsctp_spec_lemmas.specs.spec.endpoint.Event.{packets_of_events}
use Rattle.dcsctp_spec_lemmas.specs.spec.endpoint.Outcome.{Outcome}
use Rattle.dcsctp_spec_lemmas.specs.spec.endpoint.Cause.{has_stale_cookie}
use Rattle.dcsctp_spec_lemmas.specs.spec.Packet.{Content, re_config, init, init_ack, cookie_echo, abort, shutdown, shutdown_complete, Plain, unworked, plain, Emission}
use Rattle.dcsctp_spec_runs.specs.Past.{HasEffect}
use Rattle.dcsctp_spec_lemmas.specs.spec.endpoint.Turn.{Input, chunk_input, act_input, user_sets, user_sends, user_resets, user_takes, restores, Turn}
use Rattle.dcsctp_spec_lemmas.specs.spec.association.Acts.{request_again, request_renewed}
use Rattle.dcsctp_spec_lemmas.specs.spec.association.Choices.{plain_contents}
use Rattle.dcsctp_spec_lemmas.specs.spec.association.Effect.{AssociationIdentity, Effect, holds, connects, fails, identity_of, identity_of_core}
use Rattle.dcsctp_spec_lemmas.specs.spec.queues.Acknowledging.{is_sack_valid}
use Rattle.dcsctp_spec_lemmas.specs.spec.queues.Arrivals.{data_arrival, i_data_arrival, named_skips, skipped_messages}
use Rattle.dcsctp_spec_lemmas.specs.spec.queues.AtOnce.{SendsAtOnce}
use Rattle.dcsctp_spec_lemmas.specs.spec.queues.Chunks.{AreChunksOfTsns}
use Rattle.dcsctp_spec_lemmas.specs.types.queues.Messages.{MessageContent}
use Rattle.dcsctp_spec_lemmas.specs.spec.queues.Incoming.{is_named}
use Rattle.dcsctp_spec_lemmas.specs.spec.queues.OwnResets.{prepared_all, queue_committed, queue_rolled_back}
use Rattle.dcsctp_spec_lemmas.specs.spec.queues.Reassembly.{ReassemblyState, with_ready, deferring, EndsDeferral}
use Rattle.dcsctp_spec_lemmas.specs.spec.queues.Retransmission.{RetransmissionState}
use Rattle.dcsctp_spec_lemmas.specs.spec.queues.SendQueue.{SendQueueState, queue_restarted, numbered_for}
use Rattle.dcsctp_spec_lemmas.specs.spec.queues.Tracker.{TrackerState}
use Rattle.dcsctp_spec_lemmas.specs.spec.queues.Transfer.{Transfer, EndpointQueues, new_transfer, transfer_kept}
use Rattle.dcsctp_spec_lemmas.specs.spec.endpoint.FlushOutcomes.{Answer, FlushAnswers, flush_of}
use Rattle.dcsctp_spec_lemmas.specs.spec.endpoint.MessageOutcomes.{MessageRefusal, Sending, sending_queued, sending_refusal, queue_one}
use Rattle.dcsctp_spec_lemmas.specs.spec.endpoint.PreparedResets.{reset_refusal}
use Rattle.dcsctp_spec_lemmas.specs.spec.endpoint.ResetOutcomes.{has_completed, has_reset, first_reset_request}
use Rattle.dcsctp_spec_lemmas.specs.types.Setting.{Setting}
use Rattle.dcsctp_spec_lemmas.specs.spec.endpoint.SettingOutcomes.{set_in_queue}
use Rattle.dcsctp_spec_lemmas.specs.spec.endpoint.TransferMoves.{ReceivesData, MovesForward, TakesSack, timed_transfer, lost_all}
use Rattle.dcsctp_delivery_directions.specs.sending.Log.{Fits, Message}
use Rattle.dcsctp_delivery_directions.specs.sending.Flushes.{NoData, begun_reset_of}
use Rattle.dcsctp_delivery_directions.specs.sending.Queueing.{message_of, SettingFits}
use Rattle.dcsctp_spec_lemmas.specs.spec.Reconfiguration.{RequestedReset, ResetParameter, renewed_reset}
use Rattle.dcsctp_spec_lemmas.specs.spec.association.FlushChanges.{reset_request}
use Rattle.dcsctp_spec_lemmas.specs.spec.endpoint.BegunResets.{BegunReset}
use Rattle.dcsctp_spec_lemmas.specs.spec.endpoint.ReconfigurationOutcomes.{reset_again}
use Rattle.dcsctp_delivery_directions.specs.sending.Places.{HasEntry}
use Rattle.dcsctp_delivery_directions.specs.directions.Directions.{Asking, asking_with, is_reset_reached}
use Rattle.dcsctp_delivery_sockets.specs.turns.Asking.{Own, own_of, renewed_own, AsksFit, AskingGrows}
use Rattle.dcsctp_delivery_sockets.specs.turns.Reports.{AllReportSo, NoReports, IsCumulative}
use Rattle.dcsctp_delivery_sockets.specs.turns.Tags.{IsPeerTag}

-- What a socket has queued since it was made, newest first; its queues and trackers; what it has sent in its association, and
-- what its user has read in it, oldest first; and the requests to reset streams that it has begun in it.
pub record Ledger : Type 0 where
  pub queued : List Message
  pub queues : EndpointQueues
  pub sent : List Emission
  pub read : List MessageContent
  pub asking : Asking

abbrev pub ledger_of : List Message → EndpointQueues → List Emission → List MessageContent → Asking → Ledger
ledger_of queued sender_queues sent read asking = record { queued = queued; queues = sender_queues; sent = sent; read = read; asking = asking }

-- with this in place of what the association has
abbrev pub queues_with_transfer : Transfer → EndpointQueues → EndpointQueues
queues_with_transfer transfer sender_queues = record sender_queues { transfer = Some transfer }

-- It isn't an ERROR that says that a cookie was too old.
abbrev pub NotStale : Content → Type 0
NotStale (plain (unworked (error_chunk causes))) = has_stale_cookie causes ≡ false
NotStale content = Unit {0}

abbrev pub NoneStale : List Content → Type 0
NoneStale [] = Unit {0}
NoneStale (content ∷ contents) = NotStale content × NoneStale contents

-- Such an ERROR is the first chunk, if there is one.
abbrev pub IsStaleFirst : List Content → Type 0
IsStaleFirst [] = Unit {0}
IsStaleFirst (content ∷ contents) = NoneStale contents

-- None of these is an ABORT, a SHUTDOWN COMPLETE or an INIT.
abbrev pub NoEnd : List Content → Type 0
NoEnd [] = Unit {0}
NoEnd (init introduction ∷ contents) = ⊥
NoEnd (abort reflected causes ∷ contents) = ⊥
NoEnd (shutdown_complete reflected ∷ contents) = ⊥
NoEnd (content ∷ contents) = NoEnd contents

-- A packet reports no TSN. Or it goes to this tag, has no ABORT, no SHUTDOWN COMPLETE and no INIT, and this holds for each TSN that
-- it reports.
abbrev pub ReportsTo : ℕ → (ℕ → Type 0) → Emission → Type 0
ReportsTo to so emission = NoReports emission.packet.contents ⊎ ((emission.packet.tag ≡ to) × NoEnd emission.packet.contents × AllReportSo so emission.packet.contents)

-- This holds for each of these packets.
abbrev pub AreReports : ℕ → (ℕ → Type 0) → List Emission → Type 0
AreReports to so [] = Unit {0}
AreReports to so (emission ∷ emissions) = ReportsTo to so emission × AreReports to so emissions

-- A SACK is handled that reports this TSN, or a SHUTDOWN, which acknowledges too (RFC 9260, section 9.2).
abbrev pub MayAcknowledge : Option Content → ℕ → Type 0
MayAcknowledge (Some (plain (unworked (sack_chunk sack)))) tsn = sack.cumulative_tsn_ack ≡ tsn
MayAcknowledge (Some (shutdown reported)) tsn = reported ≡ tsn
MayAcknowledge came tsn = ⊥

abbrev pub AcknowledgesNothing : Option Content → Type 0
AcknowledgesNothing came = (tsn : ℕ) → MayAcknowledge came tsn → ⊥

-- One action of a turn in which the chunk `came` is handled, if one is, and in whose association the peer has the tag `to`.
pub data Action (came : Option Content) (to : ℕ) (old : Ledger) : Ledger → Type 0 where
  queues : (now : ℕ) (sending : Sending) → Fits (message_of sending) → 0 < length sending.message.payload
      → Action came to old (record old { queued = message_of sending ∷ old.queued; queues = record old.queues { queue = sending_queued now sending old.queues.queue } })
  sets : (setting : Setting) → SettingFits setting → Action came to old (record old { queues = record old.queues { queue = set_in_queue setting old.queues.queue } })
  flushes : (e : Endpoint) (draft : Emission) (answers : List Answer) → e.queues ≡ old.queues → IsPeerTag e.core to → draft.packet.tag ≡ to → NoData draft.packet.contents → NoEnd draft.packet.contents → NoneStale draft.packet.contents
      → AllReportSo (IsCumulative old.queues.transfer) draft.packet.contents → FlushAnswers e draft answers
      → Action came to old (record old { queues = (flush_of e draft answers).after.queues; sent = old.sent ++ packets_of_events (flush_of e draft answers).events; asking = asking_with (begun_reset_of answers) old.asking })
  resends : (now room : ℕ) (transfer : Transfer) (left : RetransmissionState) (tsns : List ℕ) (chunks : List Plain) (emission : Emission) → emission.packet.tag ≡ to → old.queues.transfer ≡ Some transfer
      → SendsAtOnce now room old.queues.queue transfer.retransmission left tsns → AreChunksOfTsns left.outstanding tsns chunks → emission.packet.contents ≡ plain_contents chunks
      → Action came to old (record old { queues = queues_with_transfer (record transfer { retransmission = left }) old.queues; sent = old.sent ++ emission ∷ [] })
  resends_nothing : (now room : ℕ) (transfer : Transfer) (left : RetransmissionState) (tsns : List ℕ) → old.queues.transfer ≡ Some transfer
      → SendsAtOnce now room old.queues.queue transfer.retransmission left tsns → Action came to old (record old { queues = queues_with_transfer (record transfer { retransmission = left }) old.queues })
  speaks : (emission : Emission) → NoData emission.packet.contents → IsStaleFirst emission.packet.contents → ReportsTo to (IsCumulative old.queues.transfer) emission
      → Action came to old (record old { sent = old.sent ++ emission ∷ [] })
  asks_again : (emission : Emission) (begun : BegunReset) → emission.packet.tag ≡ to → HasEntry begun old.asking.requests → emission.packet.contents ≡ reset_request begun.number begun.reset ∷ []
      → Action came to old (record old { sent = old.sent ++ emission ∷ [] })
  acknowledges : (now : ℕ) (sack : SackContent) (transfer new : Transfer) → MayAcknowledge came sack.cumulative_tsn_ack → old.queues.transfer ≡ Some transfer → is_sack_valid transfer.retransmission sack.cumulative_tsn_ack ≡ true
      → TakesSack now sack transfer new → Action came to old (record old { queues = queues_with_transfer new old.queues })
  loses : (now : ℕ) (transfer : Transfer) → old.queues.transfer ≡ Some transfer → Action came to old (record old { queues = queues_with_transfer (lost_all now transfer) old.queues })
  receives : (chunk : DataContent) (transfer new : Transfer) → came ≡ Some (plain (unworked (data_chunk chunk))) → chunk.payload ≢ [] → old.queues.transfer ≡ Some transfer
      → ReceivesData (data_arrival chunk) transfer new → Action came to old (record old { queues = queues_with_transfer new old.queues })
  receives_interleaved : (chunk : IDataContent) (transfer new : Transfer) → came ≡ Some (plain (unworked (i_data_chunk chunk))) → chunk.payload ≢ [] → old.queues.transfer ≡ Some transfer
      → ReceivesData (i_data_arrival chunk) transfer new → Action came to old (record old { queues = queues_with_transfer new old.queues })
  forwards : (tsn : ℕ) (streams : List ℕ) (transfer new : Transfer) → came ≡ Some (plain (unworked (forward_tsn_chunk tsn streams))) → old.queues.transfer ≡ Some transfer
      → MovesForward tsn (named_skips streams) transfer new → Action came to old (record old { queues = queues_with_transfer new old.queues })
  forwards_interleaved : (tsn : ℕ) (streams : List ℕ) (transfer new : Transfer) → came ≡ Some (plain (unworked (i_forward_tsn_chunk tsn streams))) → old.queues.transfer ≡ Some transfer
      → MovesForward tsn (skipped_messages streams) transfer new → Action came to old (record old { queues = queues_with_transfer new old.queues })
  -- When an acknowledgement is due may change.
  tracks : (transfer : Transfer) (tracker : TrackerState) → old.queues.transfer ≡ Some transfer → tracker.cumulative ≡ transfer.tracker.cumulative → tracker.ranges ≡ transfer.tracker.ranges
      → Action came to old (record old { queues = queues_with_transfer (record transfer { tracker = tracker }) old.queues })
  -- A round trip may be taken into account.
  times : (round_trip : Option ℕ) (transfer : Transfer) → old.queues.transfer ≡ Some transfer
      → Action came to old (record old { queues = queues_with_transfer (timed_transfer round_trip transfer) old.queues })
  takes : (transfer : Transfer) (message : MessageContent) (messages : List MessageContent) → old.queues.transfer ≡ Some transfer → transfer.reassembly.incoming.ready ≡ message ∷ messages
      → Action came to old (record old { queues = queues_with_transfer (record transfer { reassembly = with_ready messages transfer.reassembly }) old.queues; read = old.read ++ message ∷ [] })

-- one after another
pub data Actions (came : Option Content) (to : ℕ) (old : Ledger) : Ledger → Type 0 where
  nothing : Actions came to old old
  further : (between new : Ledger) → Actions came to old between → Action came to between new → Actions came to old new

-- ---- what a turn does

-- the peer's tag, 0 if there is none
abbrev pub peer_tag : Core → ℕ
peer_tag closed = 0
peer_tag (cookie_wait my) = 0
peer_tag (cookie_echoed my held cookie) = held.peer.tag
peer_tag (open_in phase my held) = held.peer.tag

-- the chunk that is handled
abbrev pub content_of_input : Input → Option Content
content_of_input (chunk_input tag content) = Some content
content_of_input input = None

-- the messages that were queued, newest first, with those of this call that aren't refused
abbrev pub queued_unless_refused : Option MessageRefusal → Sending → List Message → List Message
queued_unless_refused None sending queued = message_of sending ∷ queued
queued_unless_refused (Some refusal) sending queued = queued

abbrev pub queued_together : Endpoint → List Sending → List Message → List Message
queued_together e [] queued = queued
queued_together e (sending ∷ sendings) queued = queued_together (queue_one e sending).after sendings (queued_unless_refused (sending_refusal e sending) sending queued)

abbrev pub queued_after : Endpoint → Input → List Message → List Message
queued_after e (user_sends sendings) queued = queued_together e sendings queued
queued_after e input queued = queued

-- the messages that were read in an association, oldest first, with the one that this call reads in it: the first that is ready
abbrev pub with_first : List MessageContent → List MessageContent → List MessageContent
with_first [] read = read
with_first (message ∷ messages) read = read ++ message ∷ []

abbrev pub read_if_connected : Option Transfer → List MessageContent → List MessageContent
read_if_connected None read = read
read_if_connected (Some transfer) read = with_first transfer.reassembly.incoming.ready read

abbrev pub read_after : Endpoint → Input → List MessageContent → List MessageContent
read_after e user_takes read = read_if_connected e.queues.transfer read
read_after e input read = read

-- the queues and trackers of a socket, and what it keeps of its own requests
pub record Inside : Type 0 where
  pub queues : EndpointQueues
  pub own : Option Own

abbrev pub inside : Endpoint → Inside
inside e = record { queues = e.queues; own = own_of e }

-- what the user has sent, the packets, and what the user has read
pub record Exchange : Type 0 where
  pub queued : List Message
  pub sent : List Emission
  pub read : List MessageContent

abbrev pub exchange_of : List Message → List Emission → List MessageContent → Exchange
exchange_of queued sent read = record { queued = queued; sent = sent; read = read }

-- Actions lead from the ledger to this one; what the socket keeps of its requests is of those that were begun.
pub record LeadsToLedger (came : Option Content) (to : ℕ) (old : Ledger) (first : ℕ) (new : Inside) (exchange : Exchange) : Type 0 where
  pub asking : Asking
  pub grows : AskingGrows old.asking asking
  pub fits : AsksFit first new.own asking
  pub actions : Actions came to old (ledger_of exchange.queued new.queues exchange.sent exchange.read asking)

-- Whatever was queued, sent, read and begun before, actions lead from the queues before to those after, with these packets.
abbrev pub MakesPackets : Option Content → ℕ → Inside → List Emission → Inside → Type 0
MakesPackets came to old packets new =
    (queued : List Message) (sent : List Emission) (read : List MessageContent) (first : ℕ) (asking : Asking) → AsksFit first old.own asking
    → LeadsToLedger came to (ledger_of queued old.queues sent read asking) first new (exchange_of queued (sent ++ packets) read)

-- So they do, with what a turn queues and reads.
abbrev pub MakesAlso : Option Content → ℕ → (List Message → List Message) → (List MessageContent → List MessageContent) → Inside → List Emission → Inside → Type 0
MakesAlso came to adds taken old packets new =
    (queued : List Message) (sent : List Emission) (read : List MessageContent) (first : ℕ) (asking : Asking) → AsksFit first old.own asking
    → LeadsToLedger came to (ledger_of queued old.queues sent read asking) first new (exchange_of (adds queued) (sent ++ packets) (taken read))

-- ---- what a RE-CONFIG does before

-- its own request has ended
abbrev pub ended_own : Own → Own
ended_own own = record own { number = None; again = reset_again None }

-- was it refused?
abbrev pub has_refused : List Effect → Bool
has_refused [] = false
has_refused (fails number ∷ effects) = true
has_refused (effect ∷ effects) = has_refused effects

-- What the peer answers to our request, if these are the effects of the turn.
pub data OwnEnds (happened : List Effect) (old : Inside) : Inside → Type 0 where
  unended : OwnEnds happened old old
  committed : has_completed happened ≡ true → (own : Own) → old.own ≡ Some own → OwnEnds happened old (record { queues = record old.queues { queue = queue_committed old.queues.queue }; own = Some (ended_own own) })
  rolled_back : has_refused happened ≡ true → (own : Own) → old.own ≡ Some own → OwnEnds happened old (record { queues = record old.queues { queue = queue_rolled_back old.queues.queue }; own = Some (ended_own own) })

-- What the peer asks: its streams are reset, or will be once all up to a TSN was received.
pub data PeerResets (came : Option Content) (happened : List Effect) (old : Inside) : Inside → Type 0 where
  unreset : has_reset happened ≡ false → PeerResets came happened old old
  -- There is nothing below the association.
  absent : old.queues.transfer ≡ None → PeerResets came happened old old
  deferred : has_reset happened ≡ false → (parameters : List ResetParameter) (reset : RequestedReset) → came ≡ Some (re_config parameters) → first_reset_request parameters ≡ Some reset → (transfer : Transfer) → old.queues.transfer ≡ Some transfer
      → PeerResets came happened old (record old { queues = queues_with_transfer (record transfer { reassembly = deferring reset.last_tsn reset.streams transfer.reassembly }) old.queues })
  reset_now : has_reset happened ≡ true → (parameters : List ResetParameter) (reset : RequestedReset) → came ≡ Some (re_config parameters) → first_reset_request parameters ≡ Some reset
      → (transfer : Transfer) (reassembly : ReassemblyState) → old.queues.transfer ≡ Some transfer → is_reset_reached reset transfer.tracker ≡ true → EndsDeferral reset.streams transfer.reassembly reassembly
      → PeerResets came happened old (record old { queues = queues_with_transfer (record transfer { reassembly = reassembly }) old.queues })

-- No RE-CONFIG is handled.
abbrev pub IsCalm : Option Content → Type 0
IsCalm came = (parameters : List ResetParameter) → came ≡ Some (re_config parameters) → ⊥

-- ---- all

-- An association begins: what waits to be sent is kept, without `follow_rfc`, or what is under way is put back for it.
pub record BeginsAssociation (e : Endpoint) (o : Outcome) : Type 0 where
  pub my : Pair
  pub held : Held
  pub window : ℕ
  pub later : List Effect
  pub noted : o.effects ≡ holds (identity_of my held) ∷ later
  pub queue : SendQueueState
  pub keeps : ((queue ≡ numbered_for held.capabilities.message_interleaving window e.queues.queue) × (e.options.follow_rfc ≡ false))
      ⊎ (queue ≡ numbered_for held.capabilities.message_interleaving window (queue_restarted e.queues.queue))

-- with nothing in flight and nothing received
abbrev pub begun_transfer : (e : Endpoint) (o : Outcome) → BeginsAssociation e o → Transfer
begun_transfer e o begun = new_transfer e.options begun.held.capabilities begun.my.first_tsn begun.held.peer.first_tsn begun.window

abbrev pub opening_queues : (e : Endpoint) (o : Outcome) → BeginsAssociation e o → EndpointQueues
opening_queues e o begun = record { queue = begun.queue; transfer = Some (begun_transfer e o begun) }

-- An association begins by one of these chunks.
abbrev pub IsOpening : Option Content → Type 0
IsOpening (Some (init_ack theirs cookie)) = Unit {0}
IsOpening (Some (cookie_echo cookie)) = Unit {0}
IsOpening came = ⊥

-- does the user reset streams by it?
abbrev pub resets_streams : Input → Bool
resets_streams (user_resets ids) = true
resets_streams input = false

-- which streams does the user reset by it, if any?
abbrev pub streams_user_resets : Input → Option (List ℕ)
streams_user_resets (user_resets ids) = Some ids
streams_user_resets input = None

-- this one?
abbrev pub resets_stream : ℕ → Input → Bool
resets_stream id (user_resets ids) = is_named ids id
resets_stream id input = false

-- once these streams are prepared to be reset
abbrev pub prepared_inside : List ℕ → Inside → Inside
prepared_inside ids inside = record inside { queues = record inside.queues { queue = prepared_all ids inside.queues.queue } }

-- An association begins in a turn, and is what it records first.
pub record RecordsOpening (came : Option Content) (o : Outcome) : Type 0 where
  pub opening : IsOpening came
  pub link : AssociationIdentity
  pub linked : identity_of_core o.after.core ≡ Some link
  pub later : List Effect
  pub noted : o.effects ≡ holds link ∷ later

-- Both ends began at the same time. Our own tag serves another association, and what was sent in the one goes on in the other.
pub record Collides (came : Option Content) (e : Endpoint) (o : Outcome) : Type 0 where
  pub opened : RecordsOpening came o
  pub connected : HasEffect (connects opened.link) o.effects
  pub old : AssociationIdentity
  pub was : identity_of_core e.core ≡ Some old
  pub tag : opened.link.my.tag ≡ old.my.tag
  -- No request to reset streams was begun.
  pub unasked : (own : Own) → own_of e ≡ Some own → own.next ≡ old.my.first_tsn
  pub transfer : Transfer
  pub there : e.queues.transfer ≡ Some transfer
  pub kept : Transfer
  pub kept_is : (now : ℕ) × (window : ℕ) × (kept ≡ transfer_kept now e.options opened.link.peer.first_tsn window transfer)

-- what goes on
abbrev pub kept_inside : {came : Option Content} {e : Endpoint} {o : Outcome} → Collides came e o → RequestedReset → Inside
kept_inside {e = e} collision again =
    record {
      queues = record e.queues { transfer = Some collision.kept };
      own = Some (record { number = None; next = collision.opened.link.my.first_tsn; again = again });
    }

-- What becomes of a socket's association in a turn. It continues, or there is none and none begins. It also continues where the
-- user resets streams and isn't refused: these are prepared first. Or our request continues under the next number, in a packet of its own, and
-- nothing else happens. Or the association ends after its last packets, which report no TSN, and no request of ours begins or ends
-- before. Or another one begins, and takes its place; or both ends began at the same time.
pub data Becomes (resets : Option (List ℕ)) (came : Option Content) (to : ℕ) (adds : List Message → List Message) (taken : List MessageContent → List MessageContent) (e : Endpoint) (o : Outcome) : Type 0 where
  goes_on : IsCalm came → identity_of_core o.after.core ≡ identity_of_core e.core → MakesAlso came to adds taken (inside e) (packets_of_events o.events) (inside o.after) → Becomes resets came to adds taken e o
  pauses : (ids : List ℕ) → resets ≡ Some ids → IsCalm came → reset_refusal e ≡ None → identity_of_core o.after.core ≡ identity_of_core e.core → AllByRecursion (λ id. id < 2 ^ 16) ids
      → MakesAlso came to adds taken (prepared_inside ids (inside e)) (packets_of_events o.events) (inside o.after) → Becomes resets came to adds taken e o
  works_resets : identity_of_core o.after.core ≡ identity_of_core e.core → (between worked : Inside) → OwnEnds o.effects (inside e) between → PeerResets came o.effects between worked
      → MakesAlso came to adds taken worked (packets_of_events o.events) (inside o.after) → Becomes resets came to adds taken e o
  renews : IsCalm came → identity_of_core o.after.core ≡ identity_of_core e.core → ((queued : List Message) → adds queued ≡ queued) → ((read : List MessageContent) → taken read ≡ read)
      → (own : Own) (number : ℕ) (emission : Emission) → own_of e ≡ Some own → own.number ≡ Some number → inside o.after ≡ record { queues = e.queues; own = Some (renewed_own own) } → packets_of_events o.events ≡ emission ∷ []
      → emission.packet.tag ≡ to → emission.packet.contents ≡ reset_request own.next (renewed_reset own.again) ∷ [] → Becomes resets came to adds taken e o
  ends : identity_of_core o.after.core ≡ None → ((read : List MessageContent) → taken read ≡ read) → AreReports to (λ tsn. ⊥) (packets_of_events o.events) → (last : Inside) → last.own ≡ own_of e → MakesAlso came to adds taken (inside e) (packets_of_events o.events) last
      → o.after.queues ≡ record last.queues { transfer = None } → Becomes resets came to adds taken e o
  begins : (begun : BeginsAssociation e o) → IsOpening came → identity_of_core o.after.core ≡ Some (identity_of begun.my begun.held) → ((queued : List Message) → adds queued ≡ queued) → ((read : List MessageContent) → taken read ≡ read)
      → (again : RequestedReset) → MakesPackets came begun.held.peer.tag (record { queues = opening_queues e o begun; own = Some (record { number = None; next = begun.my.first_tsn; again = again }) }) (packets_of_events o.events) (inside o.after)
      → Becomes resets came to adds taken e o
  collides : (collision : Collides came e o) → ((queued : List Message) → adds queued ≡ queued) → ((read : List MessageContent) → taken read ≡ read)
      → (again : RequestedReset) → MakesPackets came collision.opened.link.peer.tag (kept_inside collision again) (packets_of_events o.events) (inside o.after)
      → Becomes resets came to adds taken e o

-- The messages of a call and the streams that it names fit their fields, as those in memory do; no snapshot is restored; and a request to reset streams is
-- sent again by its timer alone, under its number or the next one.
abbrev pub IsCall : Input → Type 0
IsCall (user_sends sendings) = AllByRecursion (λ sending. Fits (message_of sending)) sendings
IsCall (user_sets setting) = SettingFits setting
IsCall (user_resets ids) = AllByRecursion (λ id. id < 2 ^ 16) ids
IsCall (act_input (request_again reset)) = ⊥
IsCall (act_input (request_renewed reset)) = ⊥
IsCall (restores state) = ⊥
IsCall input = Unit {0}

-- This holds for each turn.
abbrev pub TurnsAreActions : Type 0
TurnsAreActions = (e : Endpoint) (input : Input) (o : Outcome) → IsCall input → Turn e input o → Becomes (streams_user_resets input) (content_of_input input) (peer_tag e.core) (queued_after e input) (read_after e input) e o
