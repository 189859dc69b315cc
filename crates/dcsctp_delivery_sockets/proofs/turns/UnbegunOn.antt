-- A socket without an association keeps all that was queued on a stream, unless that is reset.
use Rattle.std.proofs.Common.{◌≡◌, ℕ, ◌<◌, ◌^◌, Option, None, Some, List, ◌∷◌, length, refl, sym, ◌∙◌, ap, arith, subst, inl, inr}
use Rattle.dcsctp_spec_lemmas.specs.types.Setting.{Setting, stream_priority, stream_low_threshold, longest_message}
use Rattle.dcsctp_spec_lemmas.specs.spec.Packet.{Content}
use Rattle.dcsctp_spec_lemmas.specs.spec.endpoint.FlushOutcomes.{first_ask, packets_allowed}
use Rattle.dcsctp_spec_lemmas.specs.spec.endpoint.MessageOutcomes.{Sending, sending_queued}
use Rattle.dcsctp_spec_lemmas.specs.spec.endpoint.SettingOutcomes.{set_in_queue}
use Rattle.dcsctp_spec_lemmas.specs.spec.queues.SendQueue.{SendQueueState}
use Rattle.dcsctp_spec_lemmas.specs.spec.queues.Transfer.{Transfer, EndpointQueues}
use Rattle.dcsctp_delivery_directions.specs.sending.Log.{Message}
use Rattle.dcsctp_delivery_directions.specs.sending.Losing.{StillWaits, AllWaitOn}
use Rattle.dcsctp_delivery_directions.specs.sending.Queueing.{message_of, QueueWaits}
use Rattle.dcsctp_delivery_directions.proofs.sending.OpenOn.{queueing_open_on, setting_open_on}
use Rattle.dcsctp_delivery_directions.proofs.sending.Places.{at_cases}
use Rattle.dcsctp_delivery_directions.proofs.sending.StillWaiting.{queued_waits, queueing_waits, setting_waits}
use Rattle.dcsctp_delivery_sockets.specs.turns.Actions.{Ledger, Action, queues, sets, flushes, resends, resends_nothing, speaks, asks_again, acknowledges, loses, receives, receives_interleaved, forwards, forwards_interleaved, tracks, times, takes, Actions, nothing, further}
use Rattle.dcsctp_delivery_sockets.proofs.turns.IdleFlush.{flush_still}

-- There is no transfer layer, and all that was queued on the stream waits. Messages are counted.
pub record WaitsOnStream (id : ℕ) (queued : List Message) (below : EndpointQueues) : Type 0 where
  pub none : below.transfer ≡ None
  pub next : length queued < 2 ^ 64 → below.queue.next_message_id ≡ length queued
  pub all : length queued < 2 ^ 64 → AllWaitOn id queued below.queue.streams

clash : {A : Type 0} (id : ℕ) (queued : List Message) (below : EndpointQueues) (transfer : Transfer) → below.transfer ≡ Some transfer → WaitsOnStream id queued below → A
clash id queued below transfer known w = absurd (let both : Some transfer ≡ None = sym known ∙ w.none in cc)

-- So it is where all waits on the stream.
pub all_on_stream : (id : ℕ) (queued : List Message) (below : EndpointQueues) → below.transfer ≡ None → QueueWaits queued below.queue → AllWaitOn id queued below.queue.streams → WaitsOnStream id queued below
all_on_stream id queued below none waits all = record { none = none; next = λ few. waits.holds.next; all = λ few. all }

queued_on : (id now : ℕ) (sending : Sending) (queued : List Message) (below : EndpointQueues) → WaitsOnStream id queued below
    → WaitsOnStream id (message_of sending ∷ queued) (record below { queue = sending_queued now sending below.queue })
queued_on id now sending queued below w =
    record {
      none = w.none;
      next = λ few. (let before = w.next (omega (arith, few)) in omega (arith, before, few));
      all = λ few. (
          let all = w.all (omega (arith, few)) in
          record {
            waits = λ place message at on. elim (at_cases place (message_of sending) message queued at) [
              | inl e ↦ as_now few place e.0
              | inr before ↦ queueing_waits now sending below.queue place (all.waits place message before on)
            ];
            unpaused = queueing_open_on id now sending below.queue all.unpaused;
          }
          );
    }
  where
    as_now : length (message_of sending ∷ queued) < 2 ^ 64 → (place : ℕ) → place ≡ length queued → StillWaits (sending_queued now sending below.queue).streams place
    as_now few place is = subst (λ (k : ℕ). StillWaits (sending_queued now sending below.queue).streams k) (w.next (omega (arith, few)) ∙ sym is) (queued_waits now sending below.queue)

set_next : (setting : Setting) (queue : SendQueueState) → (set_in_queue setting queue).next_message_id ≡ queue.next_message_id
set_next (stream_priority id priority) queue = refl
set_next (stream_low_threshold id bytes) queue = refl
set_next (longest_message bytes) queue = refl

pub action_waits_on : (id : ℕ) (came : Option Content) (to : ℕ) (old new : Ledger) → Action came to old new → WaitsOnStream id old.queued old.queues → WaitsOnStream id new.queued new.queues
action_waits_on id came to old _ (queues now sending fit some) w = queued_on id now sending old.queued old.queues w
action_waits_on id came to old _ (sets setting small) w =
    record {
      none = w.none;
      next = λ few. set_next setting old.queues.queue ∙ w.next few;
      all = λ few. (
          let all = w.all few in
          record { waits = λ place message at on. setting_waits setting old.queues.queue place (all.waits place message at on); unpaused = setting_open_on id setting old.queues.queue all.unpaused }
          );
    }
action_waits_on id came to old _ (flushes e draft answers same at tag no_data no_end stale says allowed) w =
    subst (WaitsOnStream id old.queued) (sym (flush_still first_ask (packets_allowed e.options.max_burst e.core) e draft answers (ap (λ (b : EndpointQueues). b.transfer) same ∙ w.none) allowed ∙ same)) w
action_waits_on id came to old _ (resends now room transfer left tsns chunks emission tag known does are contents) w = clash id old.queued old.queues transfer known w
action_waits_on id came to old _ (resends_nothing now room transfer left tsns known does) w = clash id old.queued old.queues transfer known w
action_waits_on id came to old _ (speaks emission no_data stale says) w = w
action_waits_on id came to old _ (asks_again emission begun tag was contents) w = w
action_waits_on id came to old _ (acknowledges now sack transfer new may known valid does) w = clash id old.queued old.queues transfer known w
action_waits_on id came to old _ (loses now transfer known) w = clash id old.queued old.queues transfer known w
action_waits_on id came to old _ (receives chunk transfer new is some known does) w = clash id old.queued old.queues transfer known w
action_waits_on id came to old _ (receives_interleaved chunk transfer new is some known does) w = clash id old.queued old.queues transfer known w
action_waits_on id came to old _ (forwards tsn streams transfer new is known does) w = clash id old.queued old.queues transfer known w
action_waits_on id came to old _ (forwards_interleaved tsn streams transfer new is known does) w = clash id old.queued old.queues transfer known w
action_waits_on id came to old _ (tracks transfer tracked known cumulative ranges) w = clash id old.queued old.queues transfer known w
action_waits_on id came to old _ (times round_trip transfer known) w = clash id old.queued old.queues transfer known w
action_waits_on id came to old _ (takes transfer message messages known ready) w = clash id old.queued old.queues transfer known w

pub actions_wait_on : (id : ℕ) (came : Option Content) (to : ℕ) (old new : Ledger) → Actions came to old new → WaitsOnStream id old.queued old.queues → WaitsOnStream id new.queued new.queues
actions_wait_on id came to old _ nothing w = w
actions_wait_on id came to old _ (further between new first last) w = action_waits_on id came to between new last (actions_wait_on id came to old between first w)
