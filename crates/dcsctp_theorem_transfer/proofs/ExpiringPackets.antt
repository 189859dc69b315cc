-- The packets of the call at T3's deadline: those of a flush that follows T3 at once, and of a HEARTBEAT in front.
use Rattle.std.proofs.Common.{◌≡◌, ℕ, Bool, true, false, Option, None, Some, List, [], ◌∷◌, ◌++◌, refl, ap, ◌∙◌}
use Rattle.dcsctp_spec_lemmas.specs.spec.Packet.{Emission}
use Rattle.dcsctp_spec_lemmas.specs.spec.association.Acts.{flushes}
use Rattle.dcsctp_spec_lemmas.specs.spec.endpoint.CallTurns.{Transition, IsTurn, Turns, after_all, events_of}
use Rattle.dcsctp_spec_lemmas.specs.spec.endpoint.DataOutcomes.{LossTurn, delay_outcome}
use Rattle.dcsctp_spec_lemmas.specs.spec.endpoint.Endpoint.{Endpoint}
use Rattle.dcsctp_spec_lemmas.specs.spec.endpoint.Event.{Event, packets_of_events}
use Rattle.dcsctp_spec_lemmas.specs.spec.endpoint.Outcome.{Outcome, still}
use Rattle.dcsctp_spec_lemmas.specs.spec.endpoint.OwnTimers.{acknowledgement_delay, retransmission, heartbeat_interval, heartbeat_timeout}
use Rattle.dcsctp_spec_lemmas.specs.spec.endpoint.Turn.{act_input, timer_expires, with_clock}
use Rattle.dcsctp_spec_lemmas.specs.spec.queues.Tracker.{delay_over}
use Rattle.dcsctp_spec_lemmas.specs.spec.queues.Transfer.{Transfer, EndpointQueues}
use Rattle.dcsctp_theorem_transfer.specs.Expiring.{is_delay_over, is_beat_due, is_answer_late, where_due, inputs_at_t3, AreHeartbeats}
use Rattle.dcsctp_theorem_transfer.proofs.ExpiringBeats.{IsOpenAs, after_turn}
use Rattle.dcsctp_theorem_transfer.proofs.ResendingLosses.{after_loss}
use Rattle.dcsctp_theorem_transfer.proofs.ExpiringFlushes.{LostFrom, turn_flushes, Beats, by_beat}

-- ---- T3

lost_from : (f : Endpoint) (transfer : Transfer) (found : Option Transfer) (o : Outcome) → found ≡ Some transfer → LossTurn f found o → o ≡ still (after_loss f transfer)
lost_from f transfer None o has turn = absurd (cc)
lost_from f transfer (Some other) o has turn = turn ∙ ap (λ (x : Transfer). still (after_loss f x)) (let same : other ≡ transfer = cc in same)

by_loss : (due late : Bool) (f : Endpoint) (transfer : Transfer) (turns : List Transition) → IsOpenAs f.core → f.queues.transfer ≡ Some transfer
    → Turns f (timer_expires retransmission ∷ where_due due heartbeat_interval (where_due late heartbeat_timeout (act_input flushes ∷ []))) turns → Beats due f f turns
by_loss due late f transfer [] is has run = absurd run
by_loss due late f transfer (t ∷ ts) is has run =
    let o : t.outcome ≡ still (after_loss f transfer) = lost_from f transfer f.queues.transfer t.outcome has run.0.comes in
    let from : LostFrom f transfer t.outcome.after = record { before = f; core = refl; options = refl; queues = refl; is = ap (λ (x : Outcome). x.after) o } in
    let rest : Beats due f t.outcome.after ts = by_beat due late f transfer t.outcome.after ts is has from run.1 in
    record {
      heartbeats = rest.heartbeats;
      are = rest.are;
      flushed = turn_flushes f f rest.heartbeats t ts [] (ap (λ (x : Outcome). packets_of_events (x.events ++ events_of ts)) o) (λ others. refl) rest.flushed;
    }

-- ---- the whole call

-- what is there before T3 expires
abbrev pub delayed_transfer : Bool → Transfer → Transfer
delayed_transfer false transfer = transfer
delayed_transfer true transfer = record transfer { tracker = delay_over transfer.tracker }

-- The call sends heartbeats' packets, and then what a flush sends that follows T3 at once, at an endpoint with the same association,
-- options and queues. There the delay of an acknowledgement may be over.
pub record CallFlushes (e : Endpoint) (transfer : Transfer) (moment : ℕ) (turns : List Transition) : Type 0 where
  pub before : Endpoint
  pub core : before.core ≡ e.core
  pub options : before.options ≡ e.options
  pub queue : before.queues.queue ≡ e.queues.queue
  pub has : before.queues.transfer ≡ Some (delayed_transfer (is_delay_over e moment) transfer)
  pub lost : Transition
  pub flushed : Transition
  pub expires : IsTurn before (timer_expires retransmission) lost
  pub then_flushes : IsTurn lost.outcome.after (act_input flushes) flushed
  pub after : after_all e turns ≡ flushed.outcome.after
  pub heartbeats : List Emission
  pub are : AreHeartbeats (is_beat_due e moment) heartbeats
  pub packets : packets_of_events (events_of turns) ≡ heartbeats ++ packets_of_events flushed.outcome.events

-- before T3 expires
record Sender (e : Endpoint) (transfer : Transfer) (f : Endpoint) : Type 0 where
  core : f.core ≡ e.core
  options : f.options ≡ e.options
  queue : f.queues.queue ≡ e.queues.queue
  has : f.queues.transfer ≡ Some transfer

-- The same from here on.
record RestFlushes (e : Endpoint) (transfer : Transfer) (due : Bool) (f : Endpoint) (turns : List Transition) : Type 0 where
  sender : Endpoint
  is : Sender e transfer sender
  beats : Beats due sender f turns

delayed_sender : (e : Endpoint) (transfer : Transfer) (f : Endpoint) (found : Option Transfer) → found ≡ Some transfer → Sender e transfer f
    → Sender e (delayed_transfer true transfer) (delay_outcome f found).after
delayed_sender e transfer f None has h = absurd (cc)
delayed_sender e transfer f (Some other) has h =
    record {
      core = h.core;
      options = h.options;
      queue = h.queue;
      has = ap (λ (t : Transfer). Some (delayed_transfer true t)) (let same : other ≡ transfer = cc in same);
    }

pub delayed_silent : (f : Endpoint) (found : Option Transfer) → (delay_outcome f found).events ≡ []
delayed_silent f None = refl
delayed_silent f (Some transfer) = refl

-- one silent turn more in front
silent_beats : (due : Bool) (sender f : Endpoint) (t : Transition) (ts : List Transition) → t.outcome.events ≡ [] → Beats due sender t.outcome.after ts → Beats due sender f (t ∷ ts)
silent_beats due sender f t ts silent rest =
    record {
      heartbeats = rest.heartbeats;
      are = rest.are;
      flushed = turn_flushes sender f rest.heartbeats t ts [] (ap (λ (l : List (Event Emission)). packets_of_events (l ++ events_of ts)) silent) (λ others. refl) rest.flushed;
    }

by_delay : (over due late : Bool) (e : Endpoint) (transfer : Transfer) (f : Endpoint) (turns : List Transition) → IsOpenAs e.core → Sender e transfer f
    → Turns f (where_due over acknowledgement_delay (timer_expires retransmission ∷ where_due due heartbeat_interval (where_due late heartbeat_timeout (act_input flushes ∷ [])))) turns
    → RestFlushes e (delayed_transfer over transfer) due f turns
by_delay false due late e transfer f turns is h run =
    record { sender = f; is = h; beats = by_loss due late f transfer turns (record { phase = is.phase; my = is.my; held = is.held; is = h.core ∙ is.is }) h.has run }
by_delay true due late e transfer f [] is h run = absurd run
by_delay true due late e transfer f (t ∷ ts) is h run =
    let o : t.outcome ≡ delay_outcome f f.queues.transfer = run.0.comes in
    let sender : Sender e (delayed_transfer true transfer) t.outcome.after =
    after_turn (Sender e (delayed_transfer true transfer)) (delay_outcome f f.queues.transfer) t o (delayed_sender e transfer f f.queues.transfer h.has h) in
    record {
      sender = t.outcome.after;
      is = sender;
      beats = silent_beats due t.outcome.after f t ts (ap (λ (x : Outcome). x.events) o ∙ delayed_silent f f.queues.transfer)
          (by_loss due late t.outcome.after (delayed_transfer true transfer) ts (record { phase = is.phase; my = is.my; held = is.held; is = sender.core ∙ is.is }) sender.has run.1);
    }

pub call_flushes : (e : Endpoint) (transfer : Transfer) (moment : ℕ) (turns : List Transition) → IsOpenAs e.core → e.queues.transfer ≡ Some transfer → Turns e (inputs_at_t3 e moment) turns
    → CallFlushes e transfer moment turns
call_flushes e transfer moment [] is has run = absurd run
call_flushes e transfer moment (t ∷ ts) is has run =
    let o : t.outcome ≡ still (with_clock moment e) = run.0.comes in
    let sender : Sender e transfer t.outcome.after =
    after_turn (Sender e transfer) (still (with_clock moment e)) t o (record { core = refl; options = refl; queue = refl; has = has }) in
    let rest : RestFlushes e (delayed_transfer (is_delay_over e moment) transfer) (is_beat_due e moment) t.outcome.after ts =
    by_delay (is_delay_over e moment) (is_beat_due e moment) (is_answer_late e moment) e transfer t.outcome.after ts is sender run.1 in
    let all : Beats (is_beat_due e moment) rest.sender e (t ∷ ts) = silent_beats (is_beat_due e moment) rest.sender e t ts (ap (λ (x : Outcome). x.events) o) rest.beats in
    record {
      before = all.flushed.before;
      core = all.flushed.core ∙ rest.is.core;
      options = all.flushed.options ∙ rest.is.options;
      queue = ap (λ (q : EndpointQueues). q.queue) all.flushed.queues ∙ rest.is.queue;
      has = ap (λ (q : EndpointQueues). q.transfer) all.flushed.queues ∙ rest.is.has;
      lost = all.flushed.lost;
      flushed = all.flushed.flushed;
      expires = all.flushed.expires;
      then_flushes = all.flushed.then_flushes;
      after = all.flushed.after;
      heartbeats = all.heartbeats;
      are = all.are;
      packets = all.flushed.packets;
    }
