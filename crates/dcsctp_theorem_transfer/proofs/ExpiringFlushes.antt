-- The flush after T3 and heartbeats is as one that follows T3 at once, since what comes between leaves what is sent.
-- is sent.
use Rattle.std.proofs.Common.{◌≡◌, ℕ, Bool, true, false, Option, Some, List, [], ◌∷◌, ◌++◌, inl, inr, append-nil, refl, sym, subst, ap, ◌∙◌}
use Rattle.dcsctp_spec_lemmas.specs.types.declared.association.Held.{Held}
use Rattle.dcsctp_spec_lemmas.specs.spec.Packet.{Emission}
use Rattle.dcsctp_spec_lemmas.specs.spec.association.Acts.{flushes}
use Rattle.dcsctp_spec_lemmas.specs.spec.endpoint.CallTurns.{Transition, transition, IsTurn, Turns, after_all, events_of}
use Rattle.dcsctp_spec_lemmas.specs.spec.endpoint.DataOutcomes.{LossTurn}
use Rattle.dcsctp_spec_lemmas.specs.spec.endpoint.Endpoint.{Endpoint}
use Rattle.dcsctp_spec_lemmas.specs.spec.endpoint.Event.{Event, packets_of_events}
use Rattle.dcsctp_spec_lemmas.specs.spec.endpoint.HeartbeatOutcomes.{interval_expired, beating, heartbeat_emission, interval_outcome, timeout_outcome}
use Rattle.dcsctp_spec_lemmas.specs.spec.endpoint.Outcome.{Outcome, still, fits}
use Rattle.dcsctp_spec_lemmas.specs.spec.endpoint.OwnTimers.{retransmission, heartbeat_interval, heartbeat_timeout}
use Rattle.dcsctp_spec_lemmas.specs.spec.endpoint.Turn.{act_input, timer_expires}
use Rattle.dcsctp_spec_lemmas.specs.spec.queues.Transfer.{Transfer, EndpointQueues}
use Rattle.dcsctp_theorem_transfer.specs.Expiring.{where_due, AreHeartbeats}
use Rattle.dcsctp_theorem_transfer.proofs.ExpiringBeats.{IsOpenAs, after_turn, beat_by}
use Rattle.dcsctp_theorem_transfer.proofs.ResendingLosses.{after_loss}

-- ---- what comes after T3

-- Of one of these endpoints T3's expiry leaves this one. It has the sender's association, options and queues.
pub record LostFrom (sender : Endpoint) (transfer : Transfer) (g : Endpoint) : Type 0 where
  pub before : Endpoint
  pub core : before.core ≡ sender.core
  pub options : before.options ≡ sender.options
  pub queues : before.queues ≡ sender.queues
  pub is : g ≡ after_loss before transfer

-- Heartbeats' timers might as well have expired before.
missed_lost : (sender : Endpoint) (transfer : Transfer) (g : Endpoint) → LostFrom sender transfer g → LostFrom sender transfer (timeout_outcome g).after
missed_lost sender transfer g h =
    record {
      before = (timeout_outcome h.before).after;
      core = h.core;
      options = h.options;
      queues = h.queues;
      is = ap (λ (x : Endpoint). (timeout_outcome x).after) h.is;
    }

beat_lost : (fitting : Bool) (sender : Endpoint) (transfer : Transfer) (g : Endpoint) (held : Held) → LostFrom sender transfer g → LostFrom sender transfer (beat_by fitting g held).after
beat_lost true sender transfer g held h =
    record {
      before = (beat_by true h.before held).after;
      core = h.core;
      options = h.options;
      queues = h.queues;
      is = ap (λ (x : Endpoint). (beat_by true x held).after) h.is;
    }
beat_lost false sender transfer g held h =
    record {
      before = (beat_by false h.before held).after;
      core = h.core;
      options = h.options;
      queues = h.queues;
      is = ap (λ (x : Endpoint). (beat_by false x held).after) h.is;
    }

-- From here on these turns send these packets of heartbeats, and then what a flush sends that follows T3 at once.
pub record Flushes (sender : Endpoint) (g : Endpoint) (heartbeats : List Emission) (turns : List Transition) : Type 0 where
  pub before : Endpoint
  pub core : before.core ≡ sender.core
  pub options : before.options ≡ sender.options
  pub queues : before.queues ≡ sender.queues
  pub lost : Transition
  pub flushed : Transition
  pub expires : IsTurn before (timer_expires retransmission) lost
  pub then_flushes : IsTurn lost.outcome.after (act_input flushes) flushed
  pub after : after_all g turns ≡ flushed.outcome.after
  pub packets : packets_of_events (events_of turns) ≡ heartbeats ++ packets_of_events flushed.outcome.events

no_events_behind : (events : List (Event Emission)) → packets_of_events (events ++ []) ≡ packets_of_events events
no_events_behind events = ap packets_of_events (append-nil events)

by_flush : (sender : Endpoint) (transfer : Transfer) (g : Endpoint) (turns : List Transition) → sender.queues.transfer ≡ Some transfer → LostFrom sender transfer g → Turns g (act_input flushes ∷ []) turns
    → Flushes sender g [] turns
by_flush sender transfer g [] has from turns = absurd turns
by_flush sender transfer g (t ∷ u ∷ ts) has from turns = absurd turns.1
by_flush sender transfer g (t ∷ []) has from turns =
    let lost : Transition = transition (timer_expires retransmission) (still (after_loss from.before transfer)) in
    let there : from.before.queues.transfer ≡ Some transfer = ap (λ (q : EndpointQueues). q.transfer) from.queues ∙ has in
    record {
      before = from.before;
      core = from.core;
      options = from.options;
      queues = from.queues;
      lost = lost;
      flushed = t;
      expires = record { is = refl; comes = subst (λ (found : Option Transfer). LossTurn from.before found lost.outcome) (sym there) refl };
      then_flushes = subst (λ (x : Endpoint). IsTurn x (act_input flushes) t) from.is turns.0;
      after = refl;
      packets = no_events_behind t.outcome.events;
    }

-- one turn more in front
pub turn_flushes : (sender : Endpoint) (g : Endpoint) (heartbeats : List Emission) (t : Transition) (ts : List Transition) (more : List Emission)
    → packets_of_events (t.outcome.events ++ events_of ts) ≡ more ++ packets_of_events (events_of ts) → ((others : List Emission) → more ++ (heartbeats ++ others) ≡ (more ++ heartbeats) ++ others)
    → Flushes sender t.outcome.after heartbeats ts → Flushes sender g (more ++ heartbeats) (t ∷ ts)
turn_flushes sender g heartbeats t ts more says joins h =
    record {
      before = h.before;
      core = h.core;
      options = h.options;
      queues = h.queues;
      lost = h.lost;
      flushed = h.flushed;
      expires = h.expires;
      then_flushes = h.then_flushes;
      after = h.after;
      packets = says ∙ ap (λ (l : List Emission). more ++ l) h.packets ∙ joins (packets_of_events h.flushed.outcome.events);
    }

by_answer : (late : Bool) (sender : Endpoint) (transfer : Transfer) (g : Endpoint) (turns : List Transition) → sender.queues.transfer ≡ Some transfer → LostFrom sender transfer g
    → Turns g (where_due late heartbeat_timeout (act_input flushes ∷ [])) turns → Flushes sender g [] turns
by_answer false sender transfer g turns has from run = by_flush sender transfer g turns has from run
by_answer true sender transfer g [] has from run = absurd run
by_answer true sender transfer g (t ∷ ts) has from run =
    let o : t.outcome ≡ timeout_outcome g = run.0.comes in
    turn_flushes sender g [] t ts [] (ap (λ (x : Outcome). packets_of_events (x.events ++ events_of ts)) o) (λ others. refl)
    (by_flush sender transfer t.outcome.after ts has (after_turn (LostFrom sender transfer) (timeout_outcome g) t o (missed_lost sender transfer g from)) run.1)

-- The same with a HEARTBEAT in front, if one is due.
pub record Beats (due : Bool) (sender : Endpoint) (g : Endpoint) (turns : List Transition) : Type 0 where
  pub heartbeats : List Emission
  pub are : AreHeartbeats due heartbeats
  pub flushed : Flushes sender g heartbeats turns

beats_by : (fitting : Bool) (sender : Endpoint) (g : Endpoint) (held : Held) (t : Transition) (ts : List Transition) → t.outcome ≡ beat_by fitting g held → Flushes sender t.outcome.after [] ts
    → Beats true sender g (t ∷ ts)
beats_by true sender g held t ts o h =
    let counter : ℕ = (beating (interval_expired g)).heartbeat_counter in
    record {
      heartbeats = heartbeat_emission held counter ∷ [];
      are = inr (held, counter, refl);
      flushed = turn_flushes sender g [] t ts (heartbeat_emission held counter ∷ []) (ap (λ (x : Outcome). packets_of_events (x.events ++ events_of ts)) o) (λ others. refl) h;
    }
beats_by false sender g held t ts o h =
    record {
      heartbeats = [];
      are = inl refl;
      flushed = turn_flushes sender g [] t ts [] (ap (λ (x : Outcome). packets_of_events (x.events ++ events_of ts)) o) (λ others. refl) h;
    }

pub by_beat : (due late : Bool) (sender : Endpoint) (transfer : Transfer) (g : Endpoint) (turns : List Transition) → IsOpenAs sender.core → sender.queues.transfer ≡ Some transfer → LostFrom sender transfer g
    → Turns g (where_due due heartbeat_interval (where_due late heartbeat_timeout (act_input flushes ∷ []))) turns → Beats due sender g turns
by_beat false late sender transfer g turns is has from run = record { heartbeats = []; are = refl; flushed = by_answer late sender transfer g turns has from run }
by_beat true late sender transfer g [] is has from run = absurd run
by_beat true late sender transfer g (t ∷ ts) is has from run =
    let held : Held = is.held in
    let after : Endpoint = beating (interval_expired g) in
    let fitting : Bool = fits after (heartbeat_emission held after.heartbeat_counter) in
    let core : g.core ≡ sender.core = ap (λ (x : Endpoint). x.core) from.is ∙ from.core in
    let o : t.outcome ≡ beat_by fitting g held = run.0.comes ∙ ap (interval_outcome g) (core ∙ is.is) in
    beats_by fitting sender g held t ts o
    (by_answer late sender transfer t.outcome.after ts has (after_turn (LostFrom sender transfer) (beat_by fitting g held) t o (beat_lost fitting sender transfer g held from)) run.1)
