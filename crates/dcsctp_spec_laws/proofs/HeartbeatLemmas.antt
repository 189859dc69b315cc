-- The turns of the timers of an open association are turns of the association: packets that speak of none, or a request
-- again.
use Rattle.std.proofs.Common.{◌≡◌, Bool, true, false, cond, List, [], ◌∷◌, refl, sym, subst}
use Rattle.dcsctp_spec_lemmas.specs.types.declared.association.Held.{Held}
use Rattle.dcsctp_spec_lemmas.specs.spec.Packet.{Plain, heartbeat}
use Rattle.dcsctp_spec_lemmas.specs.wire.Content.{heartbeat_info}
use Rattle.std.specs.Int.{w32, to_be_bytes}
use Rattle.dcsctp_spec_lemmas.specs.spec.endpoint.Endpoint.{Endpoint, Core, closed, cookie_wait, cookie_echoed, open_in}
use Rattle.dcsctp_spec_lemmas.specs.spec.endpoint.Outcome.{Outcome, quiet, sends, fits}
use Rattle.dcsctp_spec_lemmas.specs.spec.association.Acts.{flushes, flush_change}
use Rattle.dcsctp_spec_lemmas.specs.spec.association.Choices.{Choices}
use Rattle.dcsctp_spec_lemmas.specs.spec.association.Controlled.{IsControlled, IsControlledAct}
use Rattle.dcsctp_spec_lemmas.specs.spec.endpoint.HeartbeatOutcomes.{interval_expired, beating, heartbeat_emission, interval_outcome, timeout_outcome}
use Rattle.dcsctp_spec_lemmas.specs.spec.endpoint.OwnTimers.{OwnTimer, acknowledgement_delay, retransmission, heartbeat_interval, heartbeat_timeout, reconfiguration, TimerTurn, timer_act}
use Rattle.dcsctp_spec_laws.proofs.DataLemmas.{FlushedAt, flushed_act, delay_at, loss_at}
use Rattle.dcsctp_spec_lemmas.proofs.ControlHandshake.{no_choices, filling_where}
use Rattle.dcsctp_spec_laws.proofs.ReconfigurationLemmas.{reconfiguration_at}

-- what a timer chooses: these packets, and no flush
abbrev sending : Endpoint → List (List Plain) → Choices
sending e packets = record (no_choices e false) { plain = packets; filling = filling_where false }

abbrev beat_packets : Endpoint → Bool → List (List Plain)
beat_packets e true = (heartbeat (heartbeat_info (to_be_bytes w32 (beating (interval_expired e)).heartbeat_counter) ∷ []) ∷ []) ∷ []
beat_packets e false = []

-- the HEARTBEAT, where it fits
abbrev beat_where : Bool → Endpoint → Held → Outcome
beat_where b e held =
    cond b (sends (beating (interval_expired e)) [] [] (heartbeat_emission held (beating (interval_expired e)).heartbeat_counter)) (quiet (beating (interval_expired e)) [] [])

interval_at : (e : Endpoint) (core : Core) → e.core ≡ core → (choices : Choices) × IsControlled e (interval_outcome e core) (flush_change core choices)
interval_at e closed is = (sending e [], record { core = is; options = refl; observations = refl; effects = refl; following = refl })
interval_at e (cookie_wait my) is = (sending e [], record { core = is; options = refl; observations = refl; effects = refl; following = refl })
interval_at e (cookie_echoed my held cookie) is = go (fits (beating (interval_expired e)) (heartbeat_emission held (beating (interval_expired e)).heartbeat_counter))
  where
    go : (b : Bool) → (choices : Choices) × IsControlled e (beat_where b e held) (flush_change (cookie_echoed my held cookie) choices)
    go true = (sending e (beat_packets e true), record { core = is; options = refl; observations = refl; effects = refl; following = refl })
    go false = (sending e [], record { core = is; options = refl; observations = refl; effects = refl; following = refl })
interval_at e (open_in phase my held) is = go (fits (beating (interval_expired e)) (heartbeat_emission held (beating (interval_expired e)).heartbeat_counter))
  where
    go : (b : Bool) → (choices : Choices) × IsControlled e (beat_where b e held) (flush_change (open_in phase my held) choices)
    go true = (sending e (beat_packets e true), record { core = is; options = refl; observations = refl; effects = refl; following = refl })
    go false = (sending e [], record { core = is; options = refl; observations = refl; effects = refl; following = refl })

timeout_at : (e : Endpoint) (core : Core) → e.core ≡ core → (choices : Choices) × IsControlled e (timeout_outcome e) (flush_change core choices)
timeout_at e closed is = (sending e [], record { core = is; options = refl; observations = refl; effects = refl; following = refl })
timeout_at e (cookie_wait my) is = (sending e [], record { core = is; options = refl; observations = refl; effects = refl; following = refl })
timeout_at e (cookie_echoed my held cookie) is = (sending e [], record { core = is; options = refl; observations = refl; effects = refl; following = refl })
timeout_at e (open_in phase my held) is = (sending e [], record { core = is; options = refl; observations = refl; effects = refl; following = refl })

pub timer_controlled : (e : Endpoint) (timer : OwnTimer) (o : Outcome) → TimerTurn e timer o → IsControlledAct e (timer_act e timer) o
timer_controlled e acknowledgement_delay o turn = flushed_act e o (subst (FlushedAt e e.core) (sym turn) (delay_at e e.queues.transfer))
timer_controlled e retransmission o turn = flushed_act e o (loss_at e e.queues.transfer o turn)
timer_controlled e heartbeat_interval o turn = subst (IsControlledAct e flushes) (sym turn) (interval_at e e.core refl)
timer_controlled e heartbeat_timeout o turn = subst (IsControlledAct e flushes) (sym turn) (timeout_at e e.core refl)
timer_controlled e reconfiguration o turn = subst (IsControlledAct e (timer_act e reconfiguration)) (sym turn) (reconfiguration_at e e.core e.outstanding refl)
