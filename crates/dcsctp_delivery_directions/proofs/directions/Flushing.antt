-- A flush of the sender, which may begin a reset of streams.
use Rattle.std.proofs.Common.{◌≡◌, ℕ, true, ◌<◌, ◌^◌, List, [], ◌∷◌, ◌++◌, length, sym, ◌∙◌, ap, arith, subst, inl, inr}
use Rattle.std.specs.Prelude.{Option, None, Some}
use Rattle.std.proofs.lemmas.List.{length-append}
use Rattle.dcsctp_spec.specs.endpoint.Endpoint.{Endpoint}
use Rattle.dcsctp_spec.specs.endpoint.Event.{Event, packets_of_events}
use Rattle.dcsctp_spec.specs.Packet.{Emission}
use Rattle.dcsctp_spec.specs.queues.Transfer.{EndpointQueues}
use Rattle.dcsctp_spec.specs.endpoint.BegunResets.{BegunReset}
use Rattle.dcsctp_spec.specs.endpoint.FlushOutcomes.{first_ask, packets_allowed, Answer, FlushAnswers, flush_of}
use Rattle.dcsctp_delivery_directions.specs.sending.Log.{History, Slot, log_extended, with_mark, sent_messages}
use Rattle.dcsctp_delivery_directions.specs.sending.Flushes.{NoData, QueuesFollowLog, SendsLogged, AreHandedFor, begun_reset_of}
use Rattle.dcsctp_delivery_directions.specs.sending.Numbers.{is_handed_out, stream_named}
use Rattle.dcsctp_spec.specs.queues.Reassembly.{names_stream}
use Rattle.dcsctp_delivery_directions.specs.directions.Directions.{Direction, asking_with}
use Rattle.dcsctp_delivery_directions.proofs.sending.Packets.{none_said}
use Rattle.dcsctp_delivery_directions.proofs.sending.Flushes.{flush_sends}
use Rattle.dcsctp_delivery_directions.proofs.sending.NextIdentifiers.{flush_next, flush_kind}
use Rattle.dcsctp_delivery_directions.proofs.receiving.Growing.{received_more, received_asked}
use Rattle.dcsctp_delivery_directions.proofs.sending.Extended.{packets_later, extends_grown, extends_noted}
use Rattle.dcsctp_delivery_directions.proofs.directions.Cleared.{Fewer, cleared_fewer, cleared_more, quiet_more, quiet_asked}
use Rattle.dcsctp_delivery_directions.proofs.directions.Standing.{Stands, emissions_both, counted_flight}

pub few_before : (more log : List Slot) → length (more ++ log) < 2 ^ 31 → length log < 2 ^ 31
few_before more log little = omega (arith, little, length-append more log)

module _ (first : ℕ) (old : Direction) (s : Stands first old) where
  module _ (below : EndpointQueues) (events : List (Event Emission)) (next : below.queue.next_message_id ≡ old.queues.queue.next_message_id) (kind : below.queue.is_interleaved ≡ old.queues.queue.is_interleaved) where
    unfoldable pub flushed : (begun : Option BegunReset) → SendsLogged (sent_messages old.queued s.history) first old.acknowledged old.queues.queue begun below events
        → Stands first (record old { queues = below; sent = old.sent ++ packets_of_events events; asking = asking_with begun old.asking })
    flushed None sends =
        let fewer : Fewer below.queue.streams old.queues.queue.streams = λ id handed. elim (sends.handed id handed) [ inl was ↦ was | inr named ↦ absurd named ] in
        record {
          history = log_extended sends.more s.history;
          fit = s.fit;
          next = next ∙ s.next;
          queues = sends.stands;
          packets = emissions_both (log_extended sends.more s.history) first old.acknowledged old.sent (packets_of_events events) (packets_later s.history (log_extended sends.more s.history) (extends_grown sends.more s.history) first old.acknowledged old.acknowledged (omega arith) old.sent s.packets) sends.packets;
          count = counted_flight (log_extended sends.more s.history) first old.acknowledged below.transfer sends.stands.flight;
          asked = s.asked;
          quiet = quiet_more sends.more s.history old.asking.out below.queue.streams sends.kept (λ id handed. s.quiet id (fewer id handed));
          arrived = λ little. (
              let a = s.arrived (few_before sends.more s.history.log little) in
              record {
                places = a.places;
                were = a.were;
                once = a.once;
                received = received_more old.queued [] s.history sends.more first a.places old.tracker old.reassembly sends.current a.received;
                cleared = λ is performed. cleared_more sends.more s.history first old.tracker.cumulative below.queue.streams old.reassembly
                    (cleared_fewer s.history first old.tracker.cumulative old.queues.queue.streams below.queue.streams old.reassembly fewer (a.cleared (sym kind ∙ is) performed));
              }
              );
        }
    flushed (Some begun) sends =
        let now : History = with_mark (Some begun) sends.ids sends.bound (log_extended sends.more s.history) in
        record {
          history = now;
          fit = s.fit;
          next = next ∙ s.next;
          queues = sends.stands;
          packets = emissions_both now first old.acknowledged old.sent (packets_of_events events)
              (packets_later s.history now (extends_noted (Some begun) sends.ids sends.bound sends.more s.history sends.low) first old.acknowledged old.acknowledged (omega arith) old.sent s.packets) sends.packets;
          count = counted_flight now first old.acknowledged below.transfer sends.stands.flight;
          asked = ap (λ (l : List BegunReset). begun ∷ l) s.asked;
          quiet = quiet_asked sends.more s.history begun sends.ids sends.bound old.asking.out old.queues.queue.streams below.queue.streams sends.low sends.kept sends.handed s.quiet;
          arrived = λ little. (
              let a = s.arrived (few_before sends.more s.history.log little) in
              record {
                places = a.places;
                were = a.were;
                once = a.once;
                received = received_more old.queued [] (with_mark (Some begun) sends.ids sends.bound s.history) sends.more first a.places old.tracker old.reassembly sends.current
                    (received_asked old.queued s.history (Some begun) sends.ids sends.bound first a.places old.tracker old.reassembly sends.low a.received);
                cleared = λ is performed. absurd (cc);
              }
              );
        }

  unfoldable pub stepped_flushes : (e : Endpoint) (draft : Emission) (answers : List Answer) → e.queues ≡ old.queues → NoData draft.packet.contents → FlushAnswers e draft answers
      → Stands first (record old {
        queues = (flush_of e draft answers).after.queues;
        sent = old.sent ++ packets_of_events (flush_of e draft answers).events;
        asking = asking_with (begun_reset_of answers) old.asking;
      })
  stepped_flushes e draft answers same no_data allowed =
      let after : EndpointQueues = (flush_of e draft answers).after.queues in
      let events = (flush_of e draft answers).events in
      let sends : SendsLogged (sent_messages old.queued s.history) first old.acknowledged e.queues.queue (begun_reset_of answers) after events =
      flush_sends old.queued s.history first old.acknowledged e draft answers (subst (λ (b : EndpointQueues). QueuesFollowLog old.queued s.history first old.acknowledged b) (sym same) s.queues) (none_said s.history first old.acknowledged draft.packet.contents no_data) allowed in
      flushed after events (flush_next first_ask (packets_allowed e.options.max_burst e.core) e draft answers allowed ∙ ap (λ (b : EndpointQueues). b.queue.next_message_id) same) (flush_kind first_ask (packets_allowed e.options.max_burst e.core) e draft answers allowed ∙ ap (λ (b : EndpointQueues). b.queue.is_interleaved) same) (begun_reset_of answers)
      (subst (λ (b : EndpointQueues). SendsLogged (sent_messages old.queued s.history) first old.acknowledged b.queue (begun_reset_of answers) after events) same sends)

  -- The streams that the request of a flush names are handed out then.
  pub flush_hands : (e : Endpoint) (draft : Emission) (answers : List Answer) → e.queues ≡ old.queues → NoData draft.packet.contents → FlushAnswers e draft answers → (begun : BegunReset) → begun_reset_of answers ≡ Some begun
      → (id : ℕ) → names_stream begun.reset.streams id ≡ true → is_handed_out (stream_named id (flush_of e draft answers).after.queues.queue.streams).pause ≡ true
  flush_hands e draft answers same no_data allowed begun is id names =
      let after : EndpointQueues = (flush_of e draft answers).after.queues in
      let sends : SendsLogged (sent_messages old.queued s.history) first old.acknowledged e.queues.queue (begun_reset_of answers) after (flush_of e draft answers).events =
      flush_sends old.queued s.history first old.acknowledged e draft answers (subst (λ (b : EndpointQueues). QueuesFollowLog old.queued s.history first old.acknowledged b) (sym same) s.queues) (none_said s.history first old.acknowledged draft.packet.contents no_data) allowed in
      (subst (λ (b : Option BegunReset). AreHandedFor b sends.ids after.queue.streams) is sends.named id names).1
