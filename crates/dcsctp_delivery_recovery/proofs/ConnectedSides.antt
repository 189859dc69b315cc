-- Two sockets that are connected at the end of a run that allows delivery.
use Rattle.std.proofs.Common.{◌≡◌, ℕ, true, ◌<◌, ◌+◌, ◌^◌, List, refl, sym, ◌∙◌, ap}
use Rattle.std.specs.Prelude.{Some}
use Rattle.dcsctp_spec_lemmas.specs.types.declared.association.Pair.{Pair}
use Rattle.dcsctp_spec_lemmas.specs.types.declared.options.Options.{Options}
use Rattle.dcsctp_spec_lemmas.specs.types.declared.schedule.Side.{Side}
use Rattle.dcsctp_spec_lemmas.specs.types.declared.schedule.Side.TheVariants as sides
use Rattle.dcsctp_spec_lemmas.specs.spec.association.Effect.{AssociationIdentity, connects, identity_of, identity_of_core}
use Rattle.dcsctp_spec_lemmas.specs.spec.endpoint.CallTurns.{Transition}
use Rattle.dcsctp_spec_lemmas.specs.spec.endpoint.Endpoint.{Endpoint}
use Rattle.dcsctp_spec_lemmas.specs.spec.queues.Transfer.{Transfer}
use Rattle.dcsctp_spec_runs.specs.Past.{Each, HasEffect}
use Rattle.dcsctp_spec_runs.specs.Sockets.{PerformedAct, Both, of_side, of_other, turns_after, endpoint_after}
use Rattle.dcsctp_theorem_sockets.specs.Agreement.{recorded_past}
use Rattle.dcsctp_theorem_sockets.specs.Telling.{SocketsReportEffects}
use Rattle.dcsctp_theorem_transfer.specs.Recovering.{HasReceivedPart}
use Rattle.dcsctp_delivery_directions.specs.sending.ChunkCounts.{chunks_to}
use Rattle.dcsctp_delivery_sockets.specs.associations.Ends.{ResetCalls, chunks_before}
use Rattle.dcsctp_delivery_sockets.specs.sockets.Delivery.{IsOfNewTagsBut, SendsLittle, SendsLittleTogether, TurnsAllowDelivery}
use Rattle.dcsctp_delivery_sockets.specs.sockets.Shown.{ShownTagsSuffice}
use Rattle.dcsctp_delivery_sockets.proofs.sockets.Delivery.{DeliveryLaws, BothStand, both_calls, few_went, sockets_stand}
use Rattle.dcsctp_delivery_sockets.proofs.sockets.Early.{StandsSo}
use Rattle.dcsctp_delivery_sockets.proofs.sockets.Opening.{is_open}
use Rattle.dcsctp_delivery_sockets.proofs.sockets.ShownDelivery.{allowed}
use Rattle.dcsctp_delivery_sockets.proofs.sockets.Stands.{Stand, queued_of, packets_of, reading_of, few_queued}
use Rattle.dcsctp_delivery_recovery.specs.Received.{RunAllowsDelivery, AreEstablished, SocketsReceivePart}
use Rattle.dcsctp_delivery_recovery.proofs.Crossing.{IsFoundAlike, AllAlike, sides_alike}
use Rattle.dcsctp_delivery_recovery.proofs.ReceivedParts.{kind_of_link, form_of_link, part_of_link}

-- ---- one way

-- What stands of the direction from the one socket to the other, and back.
record Ways (reset_calls their_reset_calls : ResetCalls) (mine theirs : Options) (turns others : List Transition) : Type 0 where
  little : SendsLittle mine turns
  their_little : SendsLittle theirs others
  together : SendsLittleTogether turns
  their_together : SendsLittleTogether others
  window : mine.max_receiver_window_buffer_size < 2 ^ 32
  their_window : theirs.max_receiver_window_buffer_size < 2 ^ 32
  tags : Each (IsOfNewTagsBut mine (recorded_past others)) (recorded_past turns)
  their_tags : Each (IsOfNewTagsBut theirs (recorded_past turns)) (recorded_past others)
  there : Stand reset_calls mine theirs turns others
  back : Stand their_reset_calls theirs mine others turns
  stands : StandsSo (endpoint_after mine turns) (recorded_past turns)
  alike : AllAlike (recorded_past turns) (recorded_past others)

module _ (reset_calls their_reset_calls : ResetCalls) (mine theirs : Options) (turns others : List Transition) (w : Ways reset_calls their_reset_calls mine theirs turns others)
    (c : AreEstablished (endpoint_after mine turns) (endpoint_after theirs others)) where
  abbrev e : Endpoint
  e = endpoint_after mine turns

  abbrev other : Endpoint
  other = endpoint_after theirs others

  abbrev link : AssociationIdentity
  link = identity_of c.my c.held

  abbrev their_link : AssociationIdentity
  their_link = identity_of c.their_my c.their_held

  linked : identity_of_core e.core ≡ Some link
  linked = ap identity_of_core c.phase

  their_linked : identity_of_core other.core ≡ Some their_link
  their_linked = ap identity_of_core c.their_phase

  few : (tag : ℕ) → chunks_before (w.there.ends.former tag) (packets_of turns) + chunks_to (w.there.ends.latest tag) (packets_of turns) < 2 ^ 30
  few = few_went reset_calls mine theirs turns others w.little w.together w.there w.their_window w.tags w.their_tags

  their_few : (tag : ℕ) → chunks_before (w.back.ends.former tag) (packets_of others) + chunks_to (w.back.ends.latest tag) (packets_of others) < 2 ^ 30
  their_few = few_went their_reset_calls theirs mine others turns w.their_little w.their_together w.back w.window w.their_tags w.tags

  part : (transfer received : Transfer) → e.queues.transfer ≡ Some transfer → other.queues.transfer ≡ Some received → HasReceivedPart transfer.retransmission.outstanding received.tracker
  part transfer received has their_has =
      part_of_link theirs w.there.ends (endpoint_after mine turns) (queued_of mine turns) (recorded_past turns) (packets_of turns) (endpoint_after theirs others) (recorded_past others) (reading_of theirs others) w.there.between
      (few_queued mine turns w.little) few link linked transfer has their_link their_linked (ap (λ (p : Pair). p.tag) c.crossed_back) received their_has

  -- The receiver takes data in the form in which it is sent.
  form : e.options.follow_rfc ≡ true → (transfer : Transfer) → e.queues.transfer ≡ Some transfer → c.their_held.capabilities.message_interleaving ≡ transfer.retransmission.outstanding.is_interleaved
  form follows transfer has =
      let connected : HasEffect (connects link) (recorded_past turns) = w.stands.connected follows (ap is_open c.phase) link linked in
      let found : IsFoundAlike (recorded_past others) link = w.alike link connected in
      let kind = kind_of_link mine w.back.ends (endpoint_after theirs others) (queued_of theirs others) (recorded_past others) (packets_of others) (endpoint_after mine turns) (recorded_past turns) (reading_of mine turns) w.back.between
      (few_queued theirs others w.their_little) their_few their_link their_linked in
      kind.kind_is their_link (w.back.between.mine their_link their_linked) refl
      ∙ sym (kind.kind_is found.other found.held (found.tag ∙ ap (λ (p : Pair). p.tag) c.crossed)) ∙ found.alike
      ∙ form_of_link theirs w.there.ends (endpoint_after mine turns) (queued_of mine turns) (recorded_past turns) (packets_of turns) (endpoint_after theirs others) (recorded_past others) (reading_of theirs others) w.there.between
      (few_queued mine turns w.little) few link linked transfer has

-- ---- both sides

-- the laws below that this rests on
pub record RecoveryBelow : Type 0 where
  pub delivery : DeliveryLaws
  pub told : SocketsReportEffects
  pub shown : ShownTagsSuffice

ways : RecoveryBelow → (options : Both Options) (run : List PerformedAct) → RunAllowsDelivery options run → (side : Side)
    → let turns : Both (List Transition) = turns_after run in
    Ways (of_side side (both_calls options turns)) (of_other side (both_calls options turns)) (of_side side options) (of_other side options) (of_side side turns) (of_other side turns)
ways law options run allowing side = go (sockets_stand law.delivery law.told options run allowing.usable allowing.in_memory allowing.is_run allowing.honest allowing.fresh allows) side
  where
    turns : Both (List Transition)
    turns = turns_after run

    allows : TurnsAllowDelivery options (turns_after run)
    allows = allowed options run (law.shown options run allowing.usable allowing.is_run allowing.honest allowing.fresh) allowing.allows

    go : BothStand (both_calls options turns) options turns → (s : Side)
        → Ways (of_side s (both_calls options turns)) (of_other s (both_calls options turns)) (of_side s options) (of_other s options) (of_side s turns) (of_other s turns)
    go h sides.A =
        record {
          little = allows.little sides.A;
          their_little = allows.little sides.B;
          together = allows.together sides.A;
          their_together = allows.together sides.B;
          window = (allowing.usable sides.A).valid.receive_window;
          their_window = (allowing.usable sides.B).valid.receive_window;
          tags = allows.tags.a;
          their_tags = allows.tags.b;
          there = h.to_b;
          back = h.to_a;
          stands = h.a_stands;
          alike = sides_alike law.delivery.below law.delivery.answers options run allowing sides.A;
        }
    go h sides.B =
        record {
          little = allows.little sides.B;
          their_little = allows.little sides.A;
          together = allows.together sides.B;
          their_together = allows.together sides.A;
          window = (allowing.usable sides.B).valid.receive_window;
          their_window = (allowing.usable sides.A).valid.receive_window;
          tags = allows.tags.b;
          their_tags = allows.tags.a;
          there = h.to_a;
          back = h.to_b;
          stands = h.b_stands;
          alike = sides_alike law.delivery.below law.delivery.answers options run allowing sides.B;
        }

pub sockets_receive_part : RecoveryBelow → SocketsReceivePart
sockets_receive_part law options run allowing side c transfer received has their_has =
    let turns : Both (List Transition) = turns_after run in
    part (of_side side (both_calls options turns)) (of_other side (both_calls options turns)) (of_side side options) (of_other side options) (of_side side turns) (of_other side turns) (ways law options run allowing side) c
    transfer received has their_has

-- Each takes data in the form in which the other sends it, where that follows the RFC.
pub sockets_take_form : RecoveryBelow → (options : Both Options) (run : List PerformedAct) → RunAllowsDelivery options run → (side : Side)
    → let e : Endpoint = endpoint_after (of_side side options) (of_side side (turns_after run)) in
    let other : Endpoint = endpoint_after (of_other side options) (of_other side (turns_after run)) in (c : AreEstablished e other) → e.options.follow_rfc ≡ true → (transfer : Transfer) → e.queues.transfer ≡ Some transfer
    → c.their_held.capabilities.message_interleaving ≡ transfer.retransmission.outstanding.is_interleaved
sockets_take_form law options run allowing side c follows transfer has =
    let turns : Both (List Transition) = turns_after run in
    form (of_side side (both_calls options turns)) (of_other side (both_calls options turns)) (of_side side options) (of_other side options) (of_side side turns) (of_other side turns) (ways law options run allowing side) c
    follows transfer has
