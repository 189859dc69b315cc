-- Where an association is open, no turn of a call or of most timers leaves anything owed but by a timer.
use Rattle.std.proofs.Common.{◌≡◌, ℕ, true, Option, None, Some, inl, inr, refl, sym, ap, ◌∙◌, subst}
use Rattle.dcsctp_spec_lemmas.specs.types.Settings.{SameOptions}
use Rattle.dcsctp_spec_lemmas.specs.types.Snapshot.{Snapshot}
use Rattle.dcsctp_spec_lemmas.specs.types.declared.options.Options.{Options}
use Rattle.dcsctp_spec_lemmas.specs.spec.Packet.{shutdown_ack}
use Rattle.dcsctp_spec_lemmas.specs.spec.association.Acts.{Act, flushes, shutdown_repeats}
use Rattle.dcsctp_spec_lemmas.specs.spec.association.Controlled.{IsControlledAct}
use Rattle.dcsctp_spec_lemmas.specs.spec.endpoint.CallTurns.{Transition, IsTurn}
use Rattle.dcsctp_spec_lemmas.specs.spec.endpoint.Endpoint.{Endpoint, Core, closed, cookie_wait, cookie_echoed, open_in, established, shutdown_pending, shutdown_sent, shutdown_received, shutdown_ack_sent}
use Rattle.dcsctp_spec_lemmas.specs.spec.endpoint.FlushOutcomes.{allows_packet}
use Rattle.dcsctp_spec_lemmas.specs.spec.endpoint.Outcome.{Outcome}
use Rattle.dcsctp_spec_lemmas.specs.spec.endpoint.OwnTimers.{OwnTimer, acknowledgement_delay, retransmission, heartbeat_interval, heartbeat_timeout, reconfiguration, timer_act}
use Rattle.dcsctp_spec_lemmas.specs.spec.endpoint.ShutdownOutcomes.{shutdown_ack_outcome}
use Rattle.dcsctp_spec_lemmas.specs.spec.endpoint.Turn.{Input, arrival, refusal, packet_begins, chunk_input, packet_ends, act_input, user_sets, user_sends, user_resets, user_takes, timer_expires, time_passes, restores, Turn, has_data_chunk}
use Rattle.dcsctp_spec_lemmas.specs.spec.queues.Transfer.{Transfer}
use Rattle.dcsctp_spec_laws.proofs.ControlLemmas.{begin_stands, acts_are_controlled}
use Rattle.dcsctp_spec_laws.proofs.ControlRestores.{restore_stands}
use Rattle.dcsctp_spec_laws.proofs.DataLemmas.{flushed_act, end_at, take_at, send_at, resets_at}
use Rattle.dcsctp_spec_laws.proofs.HeartbeatLemmas.{timer_controlled}
use Rattle.dcsctp_spec_laws.proofs.TurnLemmas.{content_keeps_options}
use Rattle.dcsctp_theorem_transfer.specs.Deadlines.{IsOpen}
use Rattle.dcsctp_theorem_transfer.proofs.Chunks.{IsMildTimer}
use Rattle.dcsctp_theorem_transfer.proofs.Delayed.{DelayingLayer, SettledLayer, settled_kept}
use Rattle.dcsctp_theorem_transfer.proofs.Layers.{HasPeer, LayerIs, EndpointIs, LeavesIt, weaker_layer}
use Rattle.dcsctp_theorem_transfer.proofs.Opening.{act_opens}
use Rattle.dcsctp_theorem_transfer.proofs.Settling.{PendingLayer, pending_kept, settled_layer}
use Rattle.dcsctp_theorem_transfer.proofs.Turns.{IsMade, MayBe, turn_is}

-- ---- the options

-- The RFC is followed, and a flush may send a packet.
pub record SendsByRfc (options : Options) : Type 0 where
  pub follows : options.follow_rfc ≡ true
  pub allows : allows_packet options.max_burst ≡ true

by_options : (old new : Options) → SameOptions old new → SendsByRfc old → SendsByRfc new
by_options old new same h = subst SendsByRfc (sym same) (record { follows = h.follows; allows = h.allows })

act_options : (e : Endpoint) (act : Act) (o : Outcome) → IsControlledAct e act o → SendsByRfc e.options → SendsByRfc o.after.options
act_options e act o turn h = by_options e.options o.after.options turn.1.options h

still_options : (e : Endpoint) (o other : Outcome) → o ≡ other → other.after.options ≡ e.options → SendsByRfc e.options → SendsByRfc o.after.options
still_options e o other is same h = subst SendsByRfc (sym (ap (λ (x : Outcome). x.after.options) is ∙ same)) h

pub turn_options : (e : Endpoint) (input : Input) (o : Outcome) → Turn e input o → SendsByRfc e.options → SendsByRfc o.after.options
turn_options e arrival o turn h = still_options e o _ turn refl h
turn_options e (refusal text) o turn h = still_options e o _ turn refl h
turn_options e (packet_begins contents) o turn h =
    elim (begin_stands e e.core (has_data_chunk e.options.follow_rfc contents) o refl turn) [
      | inl rests ↦ still_options e o _ rests refl h
      | inr acts ↦ act_options e shutdown_repeats o acts h
    ]
turn_options e (chunk_input tag content) o turn h = by_options e.options o.after.options (content_keeps_options e tag content o turn) h
turn_options e packet_ends o turn h = act_options e flushes o (flushed_act e o (end_at e e.queues.transfer o turn)) h
turn_options e (act_input act) o turn h = act_options e act o (acts_are_controlled e act o turn) h
turn_options e (user_sets setting) o turn h = subst (λ (x : Outcome). SendsByRfc x.after.options) (sym turn) (record { follows = h.follows; allows = h.allows })
turn_options e (user_sends messages) o turn h = act_options e flushes o (flushed_act e o (send_at e messages o turn)) h
turn_options e (user_resets ids) o turn h = act_options e flushes o (flushed_act e o (resets_at e ids o turn)) h
turn_options e user_takes o turn h = act_options e flushes o (flushed_act e o (take_at e e.queues.transfer o turn)) h
turn_options e (timer_expires timer) o turn h = act_options e (timer_act e timer) o (timer_controlled e timer o turn) h
turn_options e (time_passes moment) o turn h = still_options e o _ turn refl h
turn_options e (restores state) o turn h =
    elim (restore_stands e state o turn) [
      | inl rests ↦ still_options e o _ rests refl h
      | inr resumes ↦ by_options e.options o.after.options resumes.controlled.options h
    ]

-- ---- between two acts

-- What is owed waits for a flush at most, and where it is open, for a timer.
pub record Stands (e : Endpoint) : Type 0 where
  pub sends : SendsByRfc e.options
  pub pending : EndpointIs PendingLayer e
  pub settled : IsOpen e.core → EndpointIs SettledLayer e

pub settled_stands : (e : Endpoint) → SendsByRfc e.options → EndpointIs SettledLayer e → Stands e
settled_stands e sends h =
    record { sends = sends; pending = weaker_layer PendingLayer SettledLayer e.core e.options e.queues.transfer (settled_layer e.options) h; settled = λ is. h }

-- A closed one has no layer.
closed_has : (Good Other : Options → Transfer → Type 0) (core : Core) (options : Options) (t : Option Transfer) → core ≡ closed → LayerIs Good core options t → LayerIs Other core options t
closed_has Good Other core options None is h = tt
closed_has Good Other core options (Some t) is h = absurd (subst HasPeer is h.0)

pub closed_stands : (Good : Options → Transfer → Type 0) (e : Endpoint) → e.core ≡ closed → SendsByRfc e.options → EndpointIs Good e → Stands e
closed_stands Good e is sends h = settled_stands e sends (closed_has Good SettledLayer e.core e.options e.queues.transfer is h)

pub delaying_of : (e : Endpoint) → EndpointIs PendingLayer e → EndpointIs DelayingLayer e
delaying_of e h = weaker_layer DelayingLayer PendingLayer e.core e.options e.queues.transfer (pending_kept.weaker e.options) h

-- ---- a turn that opens nothing

opens_by : (e : Endpoint) (act : Act) (o : Outcome) → IsControlledAct e act o → e.options.follow_rfc ≡ true → IsOpen o.after.core → IsOpen e.core
opens_by e act o turn follows is = act_opens e.options e.core act turn.0 follows (subst IsOpen turn.1.core is)

opens_still : (e : Endpoint) (o other : Outcome) → o ≡ other → other.after.core ≡ e.core → IsOpen o.after.core → IsOpen e.core
opens_still e o other rests same is = subst IsOpen (ap (λ (x : Outcome). x.after.core) rests ∙ same) is

ack_opens : (e : Endpoint) (core : Core) (tag : ℕ) → IsOpen (shutdown_ack_outcome e core tag).after.core → IsOpen e.core
ack_opens e closed tag is = is
ack_opens e (cookie_wait my) tag is = is
ack_opens e (cookie_echoed my held cookie) tag is = is
ack_opens e (open_in established my held) tag is = is
ack_opens e (open_in shutdown_pending my held) tag is = is
ack_opens e (open_in shutdown_sent my held) tag is = absurd is
ack_opens e (open_in shutdown_received my held) tag is = is
ack_opens e (open_in shutdown_ack_sent my held) tag is = absurd is

-- No chunk is handled but SHUTDOWN ACK, no delay is over, and nothing is restored.
abbrev pub IsStill : Input → Type 0
IsStill (act_input act) = IsMade act
IsStill (chunk_input tag shutdown_ack) = Unit {0}
IsStill (chunk_input tag content) = ⊥
IsStill packet_ends = ⊥
IsStill (timer_expires timer) = IsMildTimer ⊥ timer
IsStill (restores state) = ⊥
IsStill input = Unit {0}

opens : (e : Endpoint) (input : Input) (o : Outcome) → IsStill input → Turn e input o → e.options.follow_rfc ≡ true → IsOpen o.after.core → IsOpen e.core
opens e arrival o may turn follows is = opens_still e o _ turn refl is
opens e (refusal text) o may turn follows is = opens_still e o _ turn refl is
opens e (packet_begins contents) o may turn follows is =
    elim (begin_stands e e.core (has_data_chunk e.options.follow_rfc contents) o refl turn) [
      | inl rests ↦ opens_still e o _ rests refl is
      | inr acts ↦ opens_by e shutdown_repeats o acts follows is
    ]
opens e (chunk_input tag shutdown_ack) o may turn follows is = ack_opens e e.core tag (subst (λ (x : Outcome). IsOpen x.after.core) turn is)
opens e (chunk_input tag content) o may turn follows is = absurd may
opens e packet_ends o may turn follows is = absurd may
opens e (act_input act) o may turn follows is = opens_by e act o (acts_are_controlled e act o turn) follows is
opens e (user_sets setting) o may turn follows is = opens_still e o _ turn refl is
opens e (user_sends messages) o may turn follows is = opens_by e flushes o (flushed_act e o (send_at e messages o turn)) follows is
opens e (user_resets ids) o may turn follows is = opens_by e flushes o (flushed_act e o (resets_at e ids o turn)) follows is
opens e user_takes o may turn follows is = opens_by e flushes o (flushed_act e o (take_at e e.queues.transfer o turn)) follows is
opens e (timer_expires timer) o may turn follows is = opens_by e (timer_act e timer) o (timer_controlled e timer o turn) follows is
opens e (time_passes moment) o may turn follows is = opens_still e o _ turn refl is
opens e (restores state) o may turn follows is = absurd may

mild_timer : (Delays : Type 0) (timer : OwnTimer) → IsMildTimer ⊥ timer → IsMildTimer Delays timer
mild_timer Delays acknowledgement_delay is = absurd is
mild_timer Delays retransmission is = tt
mild_timer Delays heartbeat_interval is = tt
mild_timer Delays heartbeat_timeout is = tt
mild_timer Delays reconfiguration is = tt

-- it may come in both rules
may_be : (Delays : Type 0) (input : Input) → IsStill input → MayBe ⊥ Delays (Unit {0}) input
may_be Delays arrival may = tt
may_be Delays (refusal text) may = tt
may_be Delays (packet_begins contents) may = tt
may_be Delays (chunk_input tag shutdown_ack) may = tt
may_be Delays (chunk_input tag content) may = absurd may
may_be Delays packet_ends may = absurd may
may_be Delays (act_input act) may = may
may_be Delays (user_sets setting) may = tt
may_be Delays (user_sends messages) may = tt
may_be Delays (user_resets ids) may = tt
may_be Delays user_takes may = tt
may_be Delays (timer_expires timer) may = mild_timer Delays timer may
may_be Delays (time_passes moment) may = tt
may_be Delays (restores state) may = absurd may

pub turn_pending : (e : Endpoint) (input : Input) (t : Transition) → MayBe ⊥ (Unit {0}) (Unit {0}) input → IsTurn e input t → EndpointIs PendingLayer e → LeavesIt PendingLayer t.outcome
turn_pending e input t may turn h = turn_is ⊥ (Unit {0}) (Unit {0}) DelayingLayer PendingLayer pending_kept e input t may turn h

pub turn_settled : (e : Endpoint) (input : Input) (t : Transition) → MayBe ⊥ ⊥ (Unit {0}) input → IsTurn e input t → EndpointIs SettledLayer e → LeavesIt SettledLayer t.outcome
turn_settled e input t may turn h = turn_is ⊥ ⊥ (Unit {0}) DelayingLayer SettledLayer settled_kept e input t may turn h

pub still_stands : (e : Endpoint) (input : Input) (t : Transition) → IsStill input → IsTurn e input t → Stands e → Stands t.outcome.after
still_stands e input t may turn h =
    record {
      sends = turn_options e input t.outcome turn.comes h.sends;
      pending = turn_pending e input t (may_be (Unit {0}) input may) turn h.pending;
      settled = λ is. turn_settled e input t (may_be ⊥ input may) turn (h.settled (opens e input t.outcome may turn.comes h.sends.follows is));
    }

-- A restore brings a layer that owes nothing.
pub restored_stands : (e : Endpoint) (state : Snapshot) (t : Transition) → IsTurn e (restores state) t → Stands e → Stands t.outcome.after
restored_stands e state t turn h =
    elim (restore_stands e state t.outcome turn.comes) [
      | inl rests ↦ subst (λ (o : Outcome). Stands o.after) (sym rests) h
      | inr resumes ↦ settled_stands t.outcome.after (turn_options e (restores state) t.outcome turn.comes h.sends)
          (turn_settled e (restores state) t tt turn (closed_has PendingLayer SettledLayer e.core e.options e.queues.transfer resumes.core h.pending))
    ]
