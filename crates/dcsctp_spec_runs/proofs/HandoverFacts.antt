-- Outside examples of what a handover does, and of what a socket's snapshot has.
use Rattle.std.proofs.Common.{◌≡◌, true, false, None, Some, [], ◌∷◌, refl}
use Rattle.dcsctp_spec_lemmas.specs.wire.declared.reconfiguration.ReconfigurationResponseResult.TheVariants.{SuccessPerformed}
use Rattle.dcsctp_spec_lemmas.specs.types.declared.association.Held.{Held}
use Rattle.dcsctp_spec_lemmas.specs.types.declared.association.Pair.{Pair}
use Rattle.dcsctp_spec_lemmas.specs.types.declared.capabilities.Capabilities.{Capabilities}
use Rattle.dcsctp_spec_lemmas.specs.types.declared.options.Options.{Options}
use Rattle.dcsctp_spec_lemmas.specs.types.declared.snapshot.HandoverSocketState.TheVariants as states
use Rattle.dcsctp_spec_lemmas.specs.spec.endpoint.Event as events
use Rattle.dcsctp_spec_lemmas.specs.spec.endpoint.Endpoint.{Endpoint, fresh_endpoint, closed, cookie_wait, cookie_echoed, open_in, established, shutdown_pending, shutdown_sent, shutdown_received, shutdown_ack_sent}
use Rattle.dcsctp_spec_lemmas.specs.types.Snapshot.{empty_snapshot}
use Rattle.dcsctp_spec_lemmas.specs.spec.SocketSnapshot.{snapshot_of}
use Rattle.dcsctp_spec_lemmas.specs.spec.endpoint.Outcome.{still}
use Rattle.dcsctp_spec_lemmas.specs.spec.HandoverInputs.{inputs_of_handover}
use Rattle.dcsctp_spec_lemmas.specs.spec.endpoint.Turn.{act_input}
use Rattle.dcsctp_spec_lemmas.specs.spec.association.Acts.{hands_over}
use Rattle.dcsctp_spec_lemmas.specs.spec.queues.Transfer.{new_transfer}
use Rattle.dcsctp_spec_lemmas.specs.spec.endpoint.HandoverOutcomes.{hand_over_outcome}

abbrev own : Pair
own = record { tag = 7; first_tsn = 100 }

abbrev both : Capabilities
both =
    record {
      partial_reliability = true;
      message_interleaving = false;
      reconfig = true;
      zero_checksum_method = record { 0 = 1 };
      negotiated_maximum_incoming_streams = 10;
      negotiated_maximum_outgoing_streams = 20;
    }

-- two own requests have ended, and three of the peer's were accepted
abbrev held : Held
held =
    record {
      peer = record { tag = 9; first_tsn = 200 };
      capabilities = both;
      own_next = 102;
      own_outstanding = None;
      peer_last = 202;
      peer_result = SuccessPerformed;
    }

-- a connected socket that has sent and received nothing
connected : Options → Endpoint
connected options =
    record (fresh_endpoint options) {
      core = open_in established own held;
      tie = 11;
      queues = record { queue = (fresh_endpoint options).queues.queue; transfer = Some (new_transfer options both 100 200 5000) };
    }

-- ---- the turn

-- One OnClosed, and no packet.
it_tells_closed : (e : Endpoint) → (hand_over_outcome e (open_in established own held)).events ≡ events.closed ∷ []
it_tells_closed e = refl

it_is_closed : (e : Endpoint) → (hand_over_outcome e (open_in established own held)).after.core ≡ closed
it_is_closed e = refl

-- What waits to be sent stays.
its_queue_stays : (e : Endpoint) → (hand_over_outcome e (open_in established own held)).after.queues.queue ≡ e.queues.queue
its_queue_stays e = refl

none_from_closed : (e : Endpoint) → hand_over_outcome e closed ≡ still e
none_from_closed e = refl

none_while_connecting : (e : Endpoint) → hand_over_outcome e (cookie_wait own) ≡ still e
none_while_connecting e = refl

none_before_cookie_ack : (e : Endpoint) → hand_over_outcome e (cookie_echoed own held []) ≡ still e
none_before_cookie_ack e = refl

none_in_shutdown_pending : (e : Endpoint) → hand_over_outcome e (open_in shutdown_pending own held) ≡ still e
none_in_shutdown_pending e = refl

none_in_shutdown_sent : (e : Endpoint) → hand_over_outcome e (open_in shutdown_sent own held) ≡ still e
none_in_shutdown_sent e = refl

none_in_shutdown_received : (e : Endpoint) → hand_over_outcome e (open_in shutdown_received own held) ≡ still e
none_in_shutdown_received e = refl

none_in_shutdown_ack_sent : (e : Endpoint) → hand_over_outcome e (open_in shutdown_ack_sent own held) ≡ still e
none_in_shutdown_ack_sent e = refl

-- ---- the call

a_socket_that_is_ready_is_handed_over : inputs_of_handover 0 ≡ act_input hands_over ∷ []
a_socket_that_is_ready_is_handed_over = refl

one_that_isnt_stays : inputs_of_handover 2 ≡ []
one_that_isnt_stays = refl

-- ---- the snapshot

of_a_closed_socket : (options : Options) → snapshot_of (fresh_endpoint options) ≡ empty_snapshot
of_a_closed_socket options = refl

of_a_connected_one : (options : Options) → (snapshot_of (connected options)).socket_state ≡ states.Connected
unfolding connected
of_a_connected_one options = refl

tags : (options : Options) → ((snapshot_of (connected options)).my_verification_tag ≡ 7) × ((snapshot_of (connected options)).peer_verification_tag ≡ 9)
unfolding connected
tags options = (refl, refl)

first_tsns : (options : Options) → ((snapshot_of (connected options)).my_initial_tsn ≡ 100) × ((snapshot_of (connected options)).peer_initial_tsn ≡ 200)
unfolding connected
first_tsns options = (refl, refl)

tie_tag : (options : Options) → (snapshot_of (connected options)).tie_tag ≡ 11
unfolding connected
tie_tag options = refl

capabilities : (options : Options) → (snapshot_of (connected options)).capabilities
    ≡ record {
      partial_reliability = true;
      message_interleaving = false;
      reconfig = true;
      zero_checksum = true;
      negotiated_maximum_incoming_streams = 10;
      negotiated_maximum_outgoing_streams = 20;
    }
unfolding connected
capabilities options = refl

-- The next own request has number 102, and the last one of the peer 202.
numbers_of_requests : (options : Options) → ((snapshot_of (connected options)).tx.next_reset_req_sn ≡ 102) × ((snapshot_of (connected options)).rx.last_completed_reset_req_sn ≡ 202)
unfolding connected
numbers_of_requests options = (refl, refl)

-- Nothing was sent: the next TSN is the first, and the one before it counts as acknowledged.
tsns : (options : Options) → ((snapshot_of (connected options)).tx.next_tsn ≡ 100) × ((snapshot_of (connected options)).tx.last_cumulative_tsn_ack ≡ 99)
unfolding connected
tsns options = (refl, refl)

peer_window : (options : Options) → (snapshot_of (connected options)).tx.rwnd ≡ 5000
unfolding connected
peer_window options = refl

received_tsns : (options : Options) → ((snapshot_of (connected options)).rx.last_cumulative_acked_tsn ≡ 199) × ((snapshot_of (connected options)).rx.seen_packet ≡ false)
unfolding connected
received_tsns options = (refl, refl)
