-- Of what the sender of a direction has outstanding its receiver has received a part.
use Rattle.std.proofs.Common.{◌≡◌, ◌≢◌, ℕ, true, ◌<◌, ◌+◌, ◌%◌, ◌^◌, List, length, refl, sym, ◌∙◌, ap, arith, subst}
use Rattle.std.specs.Prelude.{Option, Some}
use Rattle.std.proofs.lemmas.Bool.Decides.{nat_tests}
use Rattle.dcsctp_spec_lemmas.specs.types.declared.options.Options.{Options}
use Rattle.dcsctp_spec_lemmas.specs.spec.Packet.{Emission}
use Rattle.dcsctp_spec_lemmas.specs.spec.association.Effect.{AssociationIdentity, Effect, identity_of_core}
use Rattle.dcsctp_spec_lemmas.specs.spec.endpoint.Endpoint.{Endpoint}
use Rattle.dcsctp_spec_lemmas.specs.spec.queues.Tracker.{has_numbers_left}
use Rattle.dcsctp_spec_lemmas.specs.spec.queues.Transfer.{Transfer, EndpointQueues}
use Rattle.dcsctp_theorem_transfer.specs.Recovering.{HasReceivedPart}
use Rattle.dcsctp_delivery_directions.specs.directions.Directions.{Direction, tsns_in_flight, assigned_count, DirectionRun}
use Rattle.dcsctp_delivery_directions.specs.receiving.Tracked.{tracked_number}
use Rattle.dcsctp_delivery_directions.specs.sending.ChunkCounts.{chunks_to}
use Rattle.dcsctp_delivery_directions.specs.sending.Log.{Message}
use Rattle.dcsctp_delivery_directions.specs.sending.Numbers.{IsOfKind}
use Rattle.dcsctp_delivery_directions.proofs.directions.ChunkCounts.{few_for_chunks}
use Rattle.dcsctp_delivery_directions.proofs.directions.Directions.{run_stands}
use Rattle.dcsctp_delivery_directions.proofs.directions.Reached.{run_covers}
use Rattle.dcsctp_delivery_directions.proofs.directions.Standing.{Stands, same_flight}
use Rattle.dcsctp_delivery_sockets.specs.associations.Ends.{Ends, direction_of_ends, sender_key, chunks_before, HadKind, IsCurrentEnd, Between, sending_side, receiving_side}
use Rattle.dcsctp_delivery_sockets.specs.associations.Reads.{Reading}
use Rattle.dcsctp_delivery_sockets.proofs.associations.Senders.{link_tag}

-- ---- a direction

left_so : (first acknowledged : ℕ) → first < 2 ^ 32 → acknowledged < 2 ^ 31 → has_numbers_left (tracked_number first acknowledged + 2 ^ 31) ≡ true
left_so first acknowledged small few = grind (arith, nat_tests)

first_so : (first acknowledged : ℕ) → first < 2 ^ 32 → tracked_number first acknowledged % 2 ^ 32 ≡ (first + acknowledged) % 2 ^ 32
first_so first acknowledged small = omega (arith, small)

module _ (options : Options) (first size : ℕ) (direction : Direction) (run : DirectionRun options first size direction) (small : first < 2 ^ 32) (few : assigned_count direction < 2 ^ 31) (short : length direction.queued < 2 ^ 64)
    (transfer : Transfer) (there : direction.queues.transfer ≡ Some transfer) where
  s : Stands first direction
  s = run_stands options first size direction small short run

  pub direction_part : HasReceivedPart transfer.retransmission.outstanding direction.tracker
  direction_part =
      let bears = same_flight s.history first direction.acknowledged direction.queues.transfer s.queues.flight transfer there in
      let count = s.count in
      let carried = bears.count in
      let in_flight : tsns_in_flight direction.queues.transfer ≡ length transfer.retransmission.outstanding.items = ap tsns_in_flight there in
      let tracks = (s.arrived (omega (arith, few, count))).received.tracks in
      let covered = (run_covers options first size direction small short run).covered few in
      record {
        number = tracked_number first direction.acknowledged;
        is = first_so first direction.acknowledged small ∙ sym bears.tsn;
        before = omega (arith, covered);
        sent = λ other received. (let sent = tracks.sent other received in omega (arith, sent, carried));
        few = omega (arith, few, in_flight);
        left = left_so first direction.acknowledged small (omega (arith, few));
      }

  -- Messages interleave in flight as they do in the queue.
  pub direction_kind : transfer.retransmission.outstanding.is_interleaved ≡ direction.queues.queue.is_interleaved
  direction_kind = subst (λ (t : Option Transfer). IsOfKind direction.queues.queue.is_interleaved t) there s.queues.kind

-- ---- two sockets

module _ (options : Options) (ends : Ends) (e : Endpoint) (queued : List Message) (past : List Effect) (packets : List Emission) (other : Endpoint) (their_past : List Effect) (reading : Reading)
    (h : Between options ends (sending_side e queued past packets) (receiving_side other their_past reading)) (many : length queued < 2 ^ 64) (few : (tag : ℕ) → chunks_before (ends.former tag) packets + chunks_to (ends.latest tag) packets < 2 ^ 30)
    (link : AssociationIdentity) (linked : identity_of_core e.core ≡ Some link) where
  own : Direction
  own = direction_of_ends (ends.sends link.my.tag) (ends.gets link.my.tag)

  key_is : sender_key e.core ≡ link.my.tag
  key_is = link_tag e.core link linked

  queues_are : (ends.sends link.my.tag).queues ≡ e.queues
  queues_are = subst (λ (k : ℕ). (ends.sends k).queues ≡ e.queues) key_is h.sender.queues_are

  short : length (ends.sends link.my.tag).queued < 2 ^ 64
  short = (let fewer = h.sender.short link.my.tag in omega (arith, fewer, many))

  assigned_few : assigned_count own < 2 ^ 31
  unfolding own
  assigned_few =
      let sent = h.sender.few link.my.tag in
      let went = few link.my.tag in
      let all = few_for_chunks options (ends.firsts link.my.tag) options.max_receiver_window_buffer_size own (h.runs link.my.tag) (h.small link.my.tag) short in
      omega (arith, sent, went, all)

  pub kind_of_link : HadKind past link.my.tag e.queues.queue.is_interleaved
  kind_of_link =
      let some : link.my.tag ≢ 0 = (h.sender.known link (h.mine link linked)).0 in
      subst (λ (k : ℕ). HadKind past k e.queues.queue.is_interleaved) key_is (h.sender.kind (λ zero. some (sym key_is ∙ zero)))

  module _ (transfer : Transfer) (there : e.queues.transfer ≡ Some transfer) where
    there_below : (ends.sends link.my.tag).queues.transfer ≡ Some transfer
    there_below = ap (λ (q : EndpointQueues). q.transfer) queues_are ∙ there

    -- What is outstanding is sent in the form that was negotiated.
    pub form_of_link : link.capabilities.message_interleaving ≡ transfer.retransmission.outstanding.is_interleaved
    unfolding own
    form_of_link =
        kind_of_link.kind_is link (h.mine link linked) refl ∙ sym (ap (λ (q : EndpointQueues). q.queue.is_interleaved) queues_are)
        ∙ sym (direction_kind options (ends.firsts link.my.tag) options.max_receiver_window_buffer_size own (h.runs link.my.tag) (h.small link.my.tag) assigned_few short transfer there_below)

    pub part_of_link : (theirs : AssociationIdentity) → identity_of_core other.core ≡ Some theirs → theirs.peer.tag ≡ link.my.tag → (received : Transfer) → other.queues.transfer ≡ Some received
        → HasReceivedPart transfer.retransmission.outstanding received.tracker
    unfolding own
    part_of_link theirs their_linked one received their_there = go (h.receiver.current received their_there)
      where
        go : IsCurrentEnd ends other their_past received → HasReceivedPart transfer.retransmission.outstanding received.tracker
        go c =
            let both : Some c.link ≡ Some theirs = sym c.linked ∙ their_linked in
            let same : c.link ≡ theirs = cc in
            let from : c.link.peer.tag ≡ link.my.tag = ap (λ (l : AssociationIdentity). l.peer.tag) same ∙ one in
            let tracker : (ends.gets link.my.tag).tracker ≡ received.tracker = ap (λ (k : ℕ). (ends.gets k).tracker) (sym from) ∙ c.tracker in
            subst (HasReceivedPart transfer.retransmission.outstanding) tracker
            (direction_part options (ends.firsts link.my.tag) options.max_receiver_window_buffer_size own (h.runs link.my.tag) (h.small link.my.tag) assigned_few short transfer there_below)
