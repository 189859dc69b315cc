-- How many TSNs an association assigns, by the DATA and I-DATA chunks that its sender sends (RFC
-- 9260, section 6.1): at most two for each, since the end of a message that is abandoned takes one
-- that is never sent (RFC 3758, section 3.5).
use Rattle.std.specs.Prelude.{◌==◌, if◌then◌else◌, ◌≤◌, ◌+◌, ◌*◌, ℕ, Option, None, Some, List, [], ◌∷◌, length, sum_by}
use Rattle.dcsctp_spec.specs.wire.Content.{data_chunk, i_data_chunk}
use Rattle.dcsctp_spec.specs.types.queues.SendStreams.{Stream}
use Rattle.dcsctp_spec.specs.queues.OwnResets.{count_under_way}
use Rattle.dcsctp_spec.specs.endpoint.Endpoint.{Endpoint}
use Rattle.dcsctp_spec.specs.endpoint.Event.{packets_of_events}
use Rattle.dcsctp_spec.specs.Packet.{Content, unworked, plain, Emission}
use Rattle.dcsctp_spec.specs.queues.Items.{Item}
use Rattle.dcsctp_spec.specs.queues.SendQueue.{SendQueueState}
use Rattle.dcsctp_spec.specs.queues.Transfer.{Transfer, EndpointQueues}
use Rattle.dcsctp_spec.specs.endpoint.FlushOutcomes.{Answer, FlushAnswers, flush_of}

-- a chunk of data counts,
abbrev pub counts : Content → ℕ
counts (plain (unworked (data_chunk chunk))) = 1
counts (plain (unworked (i_data_chunk chunk))) = 1
counts content = 0

-- each of these,
abbrev pub chunks_among : List Content → ℕ
chunks_among [] = 0
chunks_among (content ∷ contents) = counts content + chunks_among contents

-- and each in these packets
abbrev pub chunks_among_packets : List Emission → ℕ
chunks_among_packets [] = 0
chunks_among_packets (emission ∷ emissions) = chunks_among emission.packet.contents + chunks_among_packets emissions

-- and each in those of them that go to this verification tag
abbrev pub chunks_to : ℕ → List Emission → ℕ
chunks_to tag [] = 0
chunks_to tag (emission ∷ emissions) = (if emission.packet.tag == tag then chunks_among emission.packet.contents else 0) + chunks_to tag emissions

-- how many messages are under way: the end of each may take a TSN
abbrev pub going : List Stream → ℕ
going streams = sum_by count_under_way streams

-- the TSNs that wait to be acknowledged, with that of such an end
abbrev pub tsns_of : SendQueueState → List Item → ℕ
tsns_of queue items = length items + going queue.streams

-- none is assigned without an association
abbrev pub tsns_if_connected : SendQueueState → Option Transfer → ℕ
tsns_if_connected queue None = 0
tsns_if_connected queue (Some transfer) = tsns_of queue transfer.retransmission.outstanding.items

abbrev pub tsns_of_queues : EndpointQueues → ℕ
tsns_of_queues sender_queues = tsns_if_connected sender_queues.queue sender_queues.transfer

-- A flush assigns at most two TSNs for each chunk of data that it sends.
abbrev pub FlushesAssignFew : Type 0
FlushesAssignFew =
    (e : Endpoint) (draft : Emission) (answers : List Answer) → FlushAnswers e draft answers
    → tsns_of_queues (flush_of e draft answers).after.queues ≤ tsns_of_queues e.queues + 2 * chunks_among_packets (packets_of_events (flush_of e draft answers).events)
