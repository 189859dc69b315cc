-- What a socket's snapshot has.
use Rattle.std.specs.Prelude.{◌==◌, not, Option, None, Some}
use Rattle.dcsctp_types.specs.declared.association.Held.{Held}
use Rattle.dcsctp_types.specs.declared.association.Pair.{Pair}
use Rattle.dcsctp_types.specs.declared.capabilities.Capabilities.{Capabilities}
use Rattle.dcsctp_types.specs.declared.snapshot.HandoverCapabilities.{HandoverCapabilities}
use Rattle.dcsctp_types.specs.declared.snapshot.HandoverSocketState.TheVariants.{Connected}
use Rattle.dcsctp_spec.specs.endpoint.Endpoint.{Endpoint, Core, closed, cookie_wait, cookie_echoed, open_in}
use Rattle.dcsctp_types.specs.Snapshot.{SendPart, ReceivePart, Snapshot, empty_send_part, empty_received_part, empty_snapshot}
use Rattle.dcsctp_spec.specs.queues.OutstandingParts.{with_retransmission}
use Rattle.dcsctp_spec.specs.queues.QueuedParts.{part_with_queue}
use Rattle.dcsctp_spec.specs.queues.ReceivedParts.{part_with_tracker, with_reassembly}
use Rattle.dcsctp_spec.specs.queues.Transfer.{Transfer}

-- ---- the association

-- The method of zero checksum isn't kept: the options that it is restored with have it.
abbrev pub capabilities_given : Capabilities → HandoverCapabilities
capabilities_given capabilities =
    record {
      partial_reliability = capabilities.partial_reliability;
      message_interleaving = capabilities.message_interleaving;
      reconfig = capabilities.reconfig;
      zero_checksum = not (capabilities.zero_checksum_method.0 == 0);
      negotiated_maximum_incoming_streams = capabilities.negotiated_maximum_incoming_streams;
      negotiated_maximum_outgoing_streams = capabilities.negotiated_maximum_outgoing_streams;
    }

-- ---- sending

-- what is in flight, once the peer is known
abbrev pub with_flight : Endpoint → Option Transfer → SendPart → SendPart
with_flight e None tx = tx
with_flight e (Some transfer) tx = with_retransmission e.moment e.options.enable_handover_with_outstanding_data transfer.retransmission tx

-- What waits and what is in flight, and the number of the next own request to reset streams.
abbrev pub sending_given : Endpoint → Held → SendPart
sending_given e held =
    with_flight e e.queues.transfer (part_with_queue e.moment e.options.enable_handover_with_outstanding_data e.queues.queue
    (record empty_send_part { next_reset_req_sn = held.own_next }))

-- ---- receiving

abbrev pub with_received : Option Transfer → ReceivePart → ReceivePart
with_received None rx = rx
with_received (Some transfer) rx = with_reassembly transfer.reassembly (part_with_tracker transfer.tracker rx)

-- What was received, and the number of the peer's last request to reset streams that was accepted.
abbrev pub receiving_given : Endpoint → Held → ReceivePart
receiving_given e held = with_received e.queues.transfer (record empty_received_part { last_completed_reset_req_sn = held.peer_last })

-- ---- the whole

abbrev pub connected_snapshot : Endpoint → Pair → Held → Snapshot
connected_snapshot e my held =
    record {
      socket_state = Connected;
      my_verification_tag = my.tag;
      my_initial_tsn = my.first_tsn;
      peer_verification_tag = held.peer.tag;
      peer_initial_tsn = held.peer.first_tsn;
      tie_tag = e.tie;
      capabilities = capabilities_given held.capabilities;
      tx = sending_given e held;
      rx = receiving_given e held;
    }

-- That of a closed socket is empty. Of one that is neither closed nor open there is none.
abbrev pub snapshot_by_core : Endpoint → Core → Snapshot
snapshot_by_core e closed = empty_snapshot
snapshot_by_core e (cookie_wait my) = empty_snapshot
snapshot_by_core e (cookie_echoed my held cookie) = empty_snapshot
snapshot_by_core e (open_in phase my held) = connected_snapshot e my held

abbrev pub snapshot_of : Endpoint → Snapshot
snapshot_of e = snapshot_by_core e e.core
