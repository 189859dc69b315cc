-- The packets of the call at T3's deadline, handled in order.
use Rattle.std.proofs.Common.{◌≡◌, ◌≤◌, ℕ, Bool, true, false, List, [], ◌∷◌, ◌++◌, length, inl, inr, refl, sym, subst, ap, ◌∙◌, arith}
use Rattle.dcsctp_spec_lemmas.specs.types.declared.association.Held.{Held}
use Rattle.dcsctp_spec_lemmas.specs.spec.Packet.{Emission}
use Rattle.dcsctp_spec_lemmas.specs.spec.endpoint.CallTurns.{after_all, events_of}
use Rattle.dcsctp_spec_lemmas.specs.spec.endpoint.Endpoint.{Endpoint}
use Rattle.dcsctp_spec_lemmas.specs.spec.endpoint.Event.{packets_of_events}
use Rattle.dcsctp_spec_lemmas.specs.spec.endpoint.HeartbeatOutcomes.{heartbeat_emission}
use Rattle.dcsctp_spec_lemmas.specs.spec.queues.Transfer.{Transfer}
use Rattle.dcsctp_theorem_transfer.specs.Expiring.{is_beat_due, AreHeartbeats, FlushAtT3, CallsRecover}
use Rattle.dcsctp_theorem_transfer.specs.InOrder.{BringsNoData, a_heartbeat, a_sack, StillAwaits, HandlesPackets, CallComesInOrder}
use Rattle.dcsctp_theorem_transfer.specs.Recovering.{AwaitsData, IsAmongFirst, is_first, is_second, ComesBehind}
use Rattle.dcsctp_theorem_transfer.proofs.Passing.{such_packets_pass}

-- ---- packets that bring no data

abbrev BringNoData : List Emission → Type 0
BringNoData [] = Unit {0}
BringNoData (packet ∷ packets) = BringsNoData packet.packet.contents × BringNoData packets

all_pass : (kind : Bool) (e now : Endpoint) (received : Transfer) (packets : List Emission) → AwaitsData e received kind → BringNoData packets → HandlesPackets e packets now → StillAwaits received kind now
all_pass kind e now received [] awaits none handles =
    subst (StillAwaits received kind) (sym handles) (record { left = received; awaits = awaits; part = λ outstanding part. part })
all_pass kind e now received (packet ∷ packets) awaits none handles =
    let first : StillAwaits received kind (after_all e handles.0) = such_packets_pass e received kind packet.packet handles.0 awaits none.0 handles.1 in
    let rest : StillAwaits first.left kind now = all_pass kind (after_all e handles.0) now first.left packets first.awaits none.1 handles.2 in
    record { left = rest.left; awaits = rest.awaits; part = λ outstanding part. rest.part outstanding (first.part outstanding part) }

-- those in front, and the one behind them
record Front (packet : Emission) (packets : List Emission) (most : ℕ) : Type 0 where
  front : List Emission
  others : List Emission
  are : packets ≡ front ++ (packet ∷ others)
  few : length front ≤ most
  none : BringNoData front

among_front : (packet : Emission) (packets : List Emission) → IsAmongFirst packet packets → Front packet packets 1
among_front packet _ (is_first others) = record { front = []; others = others; are = refl; few = omega arith; none = tt }
among_front packet _ (is_second one sack alone others) =
    record { front = one ∷ []; others = others; are = refl; few = omega arith; none = (subst BringsNoData (sym alone) (a_sack sack), tt) }

beats_front : (due : Bool) (heartbeats flushed : List Emission) (packet : Emission) → AreHeartbeats due heartbeats → Front packet flushed 1 → Front packet (heartbeats ++ flushed) 2
beats_front due heartbeats flushed packet are h = go due are
  where
    without : heartbeats ≡ [] → Front packet (heartbeats ++ flushed) 2
    without is = subst (λ (l : List Emission). Front packet (l ++ flushed) 2) (sym is) (record { front = h.front; others = h.others; are = h.are; few = (let few = h.few in omega (arith, few)); none = h.none })

    behind_one : (held : Held) (counter : ℕ) → heartbeats ≡ heartbeat_emission held counter ∷ [] → Front packet (heartbeats ++ flushed) 2
    behind_one held counter is =
        subst (λ (l : List Emission). Front packet (l ++ flushed) 2) (sym is)
        (record {
          front = heartbeat_emission held counter ∷ h.front;
          others = h.others;
          are = ap (λ (l : List Emission). heartbeat_emission held counter ∷ l) h.are;
          few = (let few = h.few in omega (arith, few));
          none = (a_heartbeat _, h.none);
        })

    go : (due : Bool) → AreHeartbeats due heartbeats → Front packet (heartbeats ++ flushed) 2
    go false is = without is
    go true (inl is) = without is
    go true (inr (held, counter, is)) = behind_one held counter is

pub call_comes_in_order : CallsRecover → CallComesInOrder
call_comes_in_order law e transfer moment turns runs due is =
    let call : FlushAtT3 e moment (ComesBehind (after_all e turns) transfer) (packets_of_events (events_of turns)) = law.behind e transfer moment turns runs due is in
    let front : Front call.sends.packet (call.heartbeats ++ call.flushed) 2 =
    beats_front (is_beat_due e moment) call.heartbeats call.flushed call.sends.packet call.beats (among_front call.sends.packet call.flushed call.sends.there) in
    record {
      front = front.front;
      packet = call.sends.packet;
      others = front.others;
      are = call.are ∙ front.are;
      few = front.few;
      comes = λ other now received awaits part handles turns whole.
          let still : StillAwaits received transfer.retransmission.outstanding.is_interleaved now =
          all_pass transfer.retransmission.outstanding.is_interleaved other now received front.front awaits front.none handles in
          call.sends.comes now still.left still.awaits (still.part transfer.retransmission.outstanding part) turns whole;
    }
