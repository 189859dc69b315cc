-- The call at T3's deadline brings what was lost.
use Rattle.std.proofs.Common.{◌≡◌, ◌≤◌, ◌-◌, ℕ, Bool, true, false, Some, List, refl, sym, subst, ap, ◌∙◌}
use Rattle.std.specs.List.{AllByRecursion}
use Rattle.dcsctp_spec_lemmas.specs.types.Settings.{packet_size_limit}
use Rattle.dcsctp_spec_lemmas.specs.types.Sizes.{common_header_size}
use Rattle.dcsctp_spec_lemmas.specs.types.declared.options.Options.{Options}
use Rattle.dcsctp_spec_lemmas.specs.spec.Packet.{Emission}
use Rattle.dcsctp_spec_lemmas.specs.spec.endpoint.CallTurns.{Transition}
use Rattle.dcsctp_spec_lemmas.specs.spec.endpoint.Endpoint.{Endpoint, Core}
use Rattle.dcsctp_spec_lemmas.specs.spec.endpoint.Event.{packets_of_events}
use Rattle.dcsctp_spec_lemmas.specs.spec.endpoint.FlushOutcomes.{allows_packet, packets_allowed}
use Rattle.dcsctp_spec_lemmas.specs.spec.queues.Items.{item_size}
use Rattle.dcsctp_spec_lemmas.specs.spec.queues.OwnResets.{ready_streams}
use Rattle.dcsctp_spec_lemmas.specs.spec.queues.Outstanding.{header, tsn_at}
use Rattle.dcsctp_spec_lemmas.specs.spec.queues.Retransmission.{RetransmissionState}
use Rattle.dcsctp_spec_lemmas.specs.spec.queues.Transfer.{Transfer}
use Rattle.dcsctp_spec_laws.specs.SackLaws.{SacksFit}
use Rattle.dcsctp_theorem_transfer.specs.Deadlines.{IsOpen}
use Rattle.dcsctp_theorem_transfer.specs.Expiring.{is_delay_over, ComesAtOnce, CallsRecover}
use Rattle.dcsctp_theorem_transfer.specs.Recovering.{IsFirstLost, IsLost, IsLostBehind, AwaitsData, HasReceivedPart, ComesThrough, ComesBehind}
use Rattle.dcsctp_theorem_transfer.specs.Resending.{IsLasting, SaysDataAlone, IsLowest, BeginWithTsn}
use Rattle.dcsctp_theorem_transfer.proofs.Expiring.{call_expires_t3}
use Rattle.dcsctp_theorem_transfer.proofs.ExpiringBeats.{open_as}
use Rattle.dcsctp_theorem_transfer.proofs.ExpiringPackets.{delayed_transfer, CallFlushes, call_flushes}
use Rattle.dcsctp_theorem_transfer.proofs.Recovering.{lost_data_comes_through}
use Rattle.dcsctp_theorem_transfer.proofs.RecoveringBehind.{lost_data_comes_behind}
use Rattle.dcsctp_theorem_transfer.proofs.ResendingLosses.{lost_data_is_sent_again}

-- ---- the premises at the endpoint before T3 expires

lowest_before : (e f : Endpoint) (transfer : Transfer) (place : ℕ) → f.options ≡ e.options → IsLowest e transfer place → IsLowest f transfer place
lowest_before e f transfer place options h =
    record {
      item = h.item;
      at = h.at;
      awaited = h.awaited;
      first = h.first;
      fits = subst (λ (o : Options). item_size (header transfer.retransmission.outstanding) h.item ≤ packet_size_limit o - common_header_size) (sym options) h.fits;
    }

first_before : (e f : Endpoint) (transfer : Transfer) → f.options ≡ e.options → IsFirstLost e transfer → IsFirstLost f transfer
unfolding lowest_before
first_before e f transfer options h = record { lowest = lowest_before e f transfer 0 options h.lowest; anew = h.anew; payload = h.payload }

alone_before : (e : Endpoint) (transfer : Transfer) (moment : ℕ) (turns : List Transition) (call : CallFlushes e transfer moment turns) → is_delay_over e moment ≡ false → SaysDataAlone e transfer
    → SaysDataAlone call.before transfer
alone_before e transfer moment turns call none h =
    record {
      is_open = subst IsOpen (sym call.core) h.is_open;
      has = call.has ∙ ap (λ (over : Bool). Some (delayed_transfer over transfer)) none;
      allowed = subst (λ (o : Options). allows_packet o.max_burst ≡ true) (sym call.options) h.allowed;
      settled = h.settled;
      resets = ap ready_streams call.queue ∙ h.resets;
      lasting = h.lasting;
    }

-- The delay of an acknowledgement changes nothing of it.
first_delayed : (over : Bool) (e : Endpoint) (transfer : Transfer) → IsFirstLost e transfer → IsFirstLost e (delayed_transfer over transfer)
first_delayed false e transfer h = h
first_delayed true e transfer h =
    record {
      lowest = record { item = h.lowest.item; at = h.lowest.at; awaited = h.lowest.awaited; first = h.lowest.first; fits = h.lowest.fits };
      anew = h.anew;
      payload = h.payload;
    }

same_sent : (over : Bool) (transfer : Transfer) → (delayed_transfer over transfer).retransmission ≡ transfer.retransmission
same_sent false transfer = refl
same_sent true transfer = refl

behind_before : (e : Endpoint) (transfer : Transfer) (moment : ℕ) (turns : List Transition) (call : CallFlushes e transfer moment turns) → IsLostBehind e transfer
    → IsLostBehind call.before (delayed_transfer (is_delay_over e moment) transfer)
behind_before e transfer moment turns call h =
    record {
      is_open = subst IsOpen (sym call.core) h.is_open;
      has = call.has;
      burst = subst (λ (core : Core). 2 ≤ packets_allowed call.before.options.max_burst core) (sym call.core)
          (subst (λ (o : Options). 2 ≤ packets_allowed o.max_burst e.core) (sym call.options) h.burst);
      resets = ap ready_streams call.queue ∙ h.resets;
      lasting = subst (λ (r : RetransmissionState). AllByRecursion IsLasting r.outstanding.items) (sym (same_sent (is_delay_over e moment) transfer)) h.lasting;
      first = first_delayed (is_delay_over e moment) call.before transfer (first_before e call.before transfer call.options h.first);
    }

-- ---- what comes through

through_of : (e : Endpoint) (old new : Transfer) (other : Endpoint) (turns : List Transition) → new.retransmission ≡ old.retransmission → ComesThrough e new other turns → ComesThrough e old other turns
through_of e old new other turns same h =
    record {
      sack = h.sack;
      says = h.says;
      transfer = h.transfer;
      has = h.has;
      same = h.same ∙ ap (λ (r : RetransmissionState). r.outstanding.first_tsn) same;
      acknowledges = h.acknowledges;
      heard = h.heard;
    }

behind_of : (e : Endpoint) (old new : Transfer) (packets : List Emission) → new.retransmission ≡ old.retransmission → ComesBehind e new packets → ComesBehind e old packets
behind_of e old new packets same h =
    record {
      packet = h.packet;
      there = h.there;
      comes = λ other received awaits part turns whole.
          through_of e old new other turns same
          (h.comes other received (subst (λ (r : RetransmissionState). AwaitsData other received r.outstanding.is_interleaved) (sym same) awaits)
          (subst (λ (r : RetransmissionState). HasReceivedPart r.outstanding received.tracker) (sym same) part) turns whole);
    }

-- ---- the laws

pub calls_recover : SacksFit → CallsRecover
calls_recover law =
    record {
      expires = call_expires_t3;
      again = λ e transfer place moment turns runs due alone none lowest.
          let call : CallFlushes e transfer moment turns = call_flushes e transfer moment turns (open_as e.core due.is_open) alone.has (call_expires_t3 e moment turns runs due) in
          record {
            heartbeats = call.heartbeats;
            flushed = packets_of_events call.flushed.outcome.events;
            are = call.packets;
            beats = call.are;
            sends = lost_data_is_sent_again call.before transfer place call.lost call.flushed call.expires call.then_flushes (alone_before e transfer moment turns call none alone)
                (lowest_before e call.before transfer place call.options lowest);
          };
      through = λ e transfer moment turns runs due is none.
          let call : CallFlushes e transfer moment turns = call_flushes e transfer moment turns (open_as e.core due.is_open) is.alone.has (call_expires_t3 e moment turns runs due) in
          let lost : IsLost call.before transfer = record { alone = alone_before e transfer moment turns call none is.alone; first = first_before e call.before transfer call.options is.first } in
          let begins : BeginWithTsn (tsn_at transfer.retransmission.outstanding 0) (packets_of_events call.flushed.outcome.events) =
          lost_data_is_sent_again call.before transfer 0 call.lost call.flushed call.expires call.then_flushes lost.alone lost.first.lowest in
          record {
            heartbeats = call.heartbeats;
            flushed = packets_of_events call.flushed.outcome.events;
            are = call.packets;
            beats = call.are;
            sends = subst (λ (after : Endpoint). ComesAtOnce after transfer (packets_of_events call.flushed.outcome.events)) (sym call.after)
                (record {
                  first = begins.first;
                  others = begins.others;
                  are = begins.are;
                  comes = λ other received awaits part others whole.
                      lost_data_comes_through law call.before transfer call.lost call.flushed call.expires call.then_flushes lost other received awaits part begins.first begins.others begins.are others whole;
                });
          };
      behind = λ e transfer moment turns runs due is.
          let call : CallFlushes e transfer moment turns = call_flushes e transfer moment turns (open_as e.core due.is_open) is.has (call_expires_t3 e moment turns runs due) in
          let new : Transfer = delayed_transfer (is_delay_over e moment) transfer in
          record {
            heartbeats = call.heartbeats;
            flushed = packets_of_events call.flushed.outcome.events;
            are = call.packets;
            beats = call.are;
            sends = subst (λ (after : Endpoint). ComesBehind after transfer (packets_of_events call.flushed.outcome.events)) (sym call.after)
                (behind_of call.flushed.outcome.after transfer new (packets_of_events call.flushed.outcome.events) (same_sent (is_delay_over e moment) transfer)
                (lost_data_comes_behind law call.before new call.lost call.flushed call.expires call.then_flushes (behind_before e transfer moment turns call is)));
          };
    }
