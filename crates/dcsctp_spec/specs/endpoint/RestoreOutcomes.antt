-- How a socket continues from a snapshot.
use Rattle.std.specs.Prelude.{◌≡◌, ◌==◌, ℕ, Bool, not, None, Some, [], ◌∷◌, if◌then◌else◌}
use Rattle.dcsctp_types.specs.declared.association.Held.{Held}
use Rattle.dcsctp_types.specs.declared.association.Pair.{Pair}
use Rattle.dcsctp_types.specs.declared.capabilities.Capabilities.{Capabilities}
use Rattle.dcsctp_types.specs.declared.options.Options.{Options}
use Rattle.dcsctp_types.specs.declared.snapshot.HandoverCapabilities.{HandoverCapabilities}
use Rattle.dcsctp_spec.specs.endpoint.Event as events
use Rattle.dcsctp_spec.specs.endpoint.Endpoint.{Endpoint, Core, Timers, closed, open_in, established, heartbeats_begun}
use Rattle.dcsctp_spec.specs.endpoint.Following.{next_chunk}
use Rattle.dcsctp_spec.specs.endpoint.Outcome.{Outcome, still}
use Rattle.dcsctp_types.specs.Snapshot.{SendPart, ReceivePart, Snapshot}
use Rattle.dcsctp_spec.specs.association.Effect.{connects, resumes, identity_of}
use Rattle.dcsctp_spec.specs.association.ResumeChanges.{resumed_held}
use Rattle.dcsctp_spec.specs.queues.OutstandingParts.{retransmission_restored}
use Rattle.dcsctp_spec.specs.queues.QueuedParts.{queue_restored}
use Rattle.dcsctp_spec.specs.queues.Reassembly.{ReassemblyState}
use Rattle.dcsctp_spec.specs.queues.ReceivedParts.{tracker_restored, RestoresReassembly}
use Rattle.dcsctp_spec.specs.queues.SendQueue.{numbered_for}
use Rattle.dcsctp_spec.specs.queues.Transfer.{Transfer, new_transfer}

-- ---- the association

-- Packets go without a checksum by the method of the options.
abbrev pub capabilities_restored : Options → HandoverCapabilities → Capabilities
capabilities_restored options capabilities =
    record {
      partial_reliability = capabilities.partial_reliability;
      message_interleaving = capabilities.message_interleaving;
      reconfig = capabilities.reconfig;
      zero_checksum_method = if capabilities.zero_checksum then options.zero_checksum_alternate_error_detection_method else record { 0 = 0 };
      negotiated_maximum_incoming_streams = capabilities.negotiated_maximum_incoming_streams;
      negotiated_maximum_outgoing_streams = capabilities.negotiated_maximum_outgoing_streams;
    }

abbrev pub own_pair : Snapshot → Pair
own_pair state = record { tag = state.my_verification_tag; first_tsn = state.my_initial_tsn }

abbrev pub peer_pair : Snapshot → Pair
peer_pair state = record { tag = state.peer_verification_tag; first_tsn = state.peer_initial_tsn }

-- The numbers of requests to reset streams continue.
abbrev pub held_restored : Options → Snapshot → Held
held_restored options state =
    resumed_held (peer_pair state) (capabilities_restored options state.capabilities) state.tx.next_reset_req_sn state.rx.last_completed_reset_req_sn

-- ---- the transfer layer

-- that of a new association with these pairs and capabilities
abbrev pub restored_transfer_begun : Options → Snapshot → Transfer
restored_transfer_begun options state =
    new_transfer options (capabilities_restored options state.capabilities) state.my_initial_tsn state.peer_initial_tsn state.tx.rwnd

-- Did we begin a request to reset streams? The number of the first one is our first TSN.
abbrev pub was_reset : Snapshot → Bool
was_reset state = not (state.tx.next_reset_req_sn == state.my_initial_tsn)

-- What is in flight and what was received is as the snapshot has it. The round trip is measured again.
pub record RestoresTransfer (now : ℕ) (was_reset : Bool) (tx : SendPart) (rx : ReceivePart) (old new : Transfer) : Type 0 where
  pub reassembly : ReassemblyState
  pub messages : RestoresReassembly rx old.reassembly reassembly
  pub is : new ≡ record old {
    retransmission = retransmission_restored now was_reset tx old.retransmission;
    tracker = tracker_restored rx old.tracker;
    reassembly = reassembly;
  }

-- ---- the turn

-- The heartbeat interval starts with the next data. By the RFC it starts at once (RFC 9260, section 8.3).
abbrev pub timers_restored : Endpoint → ℕ → Timers
timers_restored e tag = if e.options.follow_rfc then heartbeats_begun e tag e.timers else e.timers

-- What waits is replaced too.
abbrev pub restored_endpoint : Endpoint → Snapshot → Transfer → Endpoint
restored_endpoint e state transfer =
    record e {
      core = open_in established (own_pair state) (held_restored e.options state);
      tie = state.tie_tag;
      outstanding = None;
      timers = timers_restored e state.my_verification_tag;
      queues = record {
        queue = queue_restored e.moment state.tx (numbered_for state.capabilities.message_interleaving state.tx.rwnd e.queues.queue);
        transfer = Some transfer;
      };
      left = [];
    }

-- OnConnected is reported.
abbrev pub restored_outcome : Endpoint → Snapshot → Transfer → Outcome
restored_outcome e state transfer =
    record {
      words = [];
      effects =
          resumes (identity_of (own_pair state) (held_restored e.options state)) state.tx.next_reset_req_sn state.rx.last_completed_reset_req_sn
          ∷ connects (identity_of (own_pair state) (held_restored e.options state))
          ∷ [];
      after = restored_endpoint e state transfer;
      events = events.connected ∷ [];
      following = next_chunk;
    }

-- Only a closed socket is restored.
abbrev pub RestoreTurn : Endpoint → Core → Snapshot → Outcome → Type 0
RestoreTurn e closed state o =
    (transfer : Transfer) × RestoresTransfer e.moment (was_reset state) state.tx state.rx (restored_transfer_begun e.options state) transfer × (o ≡ restored_outcome e state transfer)
RestoreTurn e core state o = o ≡ still e
