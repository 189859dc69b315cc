-- An acknowledgement is delayed by a timer that runs, and the end of a packet leaves none that is owed otherwise.
use Rattle.std.proofs.Common.{◌≡◌, ℕ, Bool, true, false, if◌then◌else◌, Option, None, Some, List, refl, sym, subst}
use Rattle.std.specs.Prelude.{◌&&◌}
use Rattle.dcsctp_spec_lemmas.specs.wire.Content.{SackContent}
use Rattle.dcsctp_spec_lemmas.specs.types.Snapshot.{Snapshot}
use Rattle.dcsctp_spec_lemmas.specs.types.declared.arrivals.SkippedTo.{SkippedTo}
use Rattle.dcsctp_spec_lemmas.specs.types.declared.options.Options.{Options}
use Rattle.dcsctp_spec_lemmas.specs.types.declared.tracking.AckState.{AckState}
use Rattle.dcsctp_spec_lemmas.specs.types.declared.tracking.AckState.TheVariants.{Idle, BecomingDelayed, Delayed, Immediate}
use Rattle.dcsctp_spec_lemmas.specs.types.queues.Messages.{MessageContent}
use Rattle.dcsctp_spec_lemmas.specs.spec.Packet.{Plain}
use Rattle.dcsctp_spec_lemmas.specs.spec.endpoint.DataOutcomes.{taken_to, opens_window, hastened_where_open, with_messages}
use Rattle.dcsctp_spec_lemmas.specs.spec.endpoint.FlushOutcomes.{Acknowledges, wants_sack, room_of_draft}
use Rattle.dcsctp_spec_lemmas.specs.spec.endpoint.RestoreOutcomes.{was_reset, restored_transfer_begun, RestoresTransfer}
use Rattle.dcsctp_spec_lemmas.specs.spec.endpoint.Timers.{RunningTimer}
use Rattle.dcsctp_spec_lemmas.specs.spec.endpoint.TransferMoves.{ReceivesIfRoom, dropping, MovesIfForward, timed_transfer, TakesSack}
use Rattle.dcsctp_spec_lemmas.specs.spec.queues.Arrivals.{Arrival}
use Rattle.dcsctp_spec_lemmas.specs.spec.queues.Tracker.{TrackerState, after_arrival, is_forward, moved_forward, delay_over, delayed_from, is_sack_due, is_acknowledgement_due, is_valid_tsn}
use Rattle.dcsctp_spec_lemmas.specs.spec.queues.Transfer.{Transfer}
use Rattle.dcsctp_spec_runs.specs.Deadlines.{IsRunning}
use Rattle.dcsctp_theorem_transfer.specs.Delaying.{RunsIfDelayed}
use Rattle.dcsctp_theorem_transfer.proofs.Layers.{Keeps}

-- Nothing is owed, or the timer runs.
abbrev pub IsSettled : AckState → Option RunningTimer → Type 0
IsSettled Idle timer = Unit {0}
IsSettled BecomingDelayed timer = ⊥
IsSettled Delayed timer = IsRunning timer
IsSettled Immediate timer = ⊥

abbrev pub DelayingLayer : Options → Transfer → Type 0
DelayingLayer options t = RunsIfDelayed t.tracker.acknowledgement t.tracker.delay.running

abbrev pub SettledLayer : Options → Transfer → Type 0
SettledLayer options t = IsSettled t.tracker.acknowledgement t.tracker.delay.running

-- ---- what comes

arrived_runs : (state : AckState) (urgent : Bool) (timer : Option RunningTimer) → RunsIfDelayed (after_arrival state urgent) timer
arrived_runs Idle true timer = tt
arrived_runs BecomingDelayed true timer = tt
arrived_runs Delayed true timer = tt
arrived_runs Immediate true timer = tt
arrived_runs Idle false timer = tt
arrived_runs BecomingDelayed false timer = tt
arrived_runs Delayed false timer = tt
arrived_runs Immediate false timer = tt

received_delaying : (b : Bool) (options : Options) (arrival : Arrival) (old new : Transfer) → DelayingLayer options old → ReceivesIfRoom b arrival old new → DelayingLayer options new
received_delaying true options arrival old new h does = subst (DelayingLayer options) (sym does.rest) (arrived_runs old.tracker.acknowledgement _ _)
received_delaying false options arrival old new h does = subst (DelayingLayer options) (sym does) (dropped (old.tracker.follows_rfc && is_valid_tsn old.tracker.cumulative arrival.tsn))
  where
    dropped : (b : Bool) → DelayingLayer options (dropping b old)
    dropped true = tt
    dropped false = h

forwarded_delaying : (b : Bool) (options : Options) (tsn : ℕ) (entries : List SkippedTo) (old new : Transfer) → DelayingLayer options old → MovesIfForward b tsn entries old new → DelayingLayer options new
forwarded_delaying false options tsn entries old new h does = subst (DelayingLayer options) (sym does) h
forwarded_delaying true options tsn entries old new h does = subst (DelayingLayer options) (sym does.rest) (go (is_forward old.tracker.cumulative tsn))
  where
    go : (b : Bool) → let tracker : TrackerState = if b then moved_forward tsn old.tracker else delay_over old.tracker in RunsIfDelayed tracker.acknowledgement tracker.delay.running
    go true = arrived_runs old.tracker.acknowledgement false _
    go false = tt

-- ---- a SACK that goes out, and one that comes

module _ (Owes : AckState → Option RunningTimer → Type 0) (idle : (timer : Option RunningTimer) → Owes Idle timer) where
  pub gave_owes : (b : Bool) (room : ℕ) (t : Transfer) (after : TrackerState) (chunks : List Plain) → Owes t.tracker.acknowledgement t.tracker.delay.running → Acknowledges b room t after chunks
      → Owes after.acknowledgement after.delay.running
  gave_owes false room t after chunks h does = subst (λ (x : TrackerState). Owes x.acknowledgement x.delay.running) (sym does.0) h
  gave_owes true room t after chunks h does = subst (λ (x : TrackerState). Owes x.acknowledgement x.delay.running) (sym does.0) (idle _)

  pub timed_owes : (round_trip : Option ℕ) (t : Transfer) → Owes t.tracker.acknowledgement t.tracker.delay.running
      → let new : Transfer = timed_transfer round_trip t in Owes new.tracker.acknowledgement new.tracker.delay.running
  timed_owes None t h = h
  timed_owes (Some round_trip) t h = h

  pub sack_owes : (now : ℕ) (sack : SackContent) (old new : Transfer) → Owes old.tracker.acknowledgement old.tracker.delay.running → TakesSack now sack old new
      → Owes new.tracker.acknowledgement new.tracker.delay.running
  sack_owes now sack old new h does =
      subst (λ (t : Transfer). Owes t.tracker.acknowledgement t.tracker.delay.running) (sym does.is) (timed_owes does.round_trip (record old { retransmission = does.left }) h)

  pub restored_owes : (options : Options) (now : ℕ) (state : Snapshot) (t : Transfer) → RestoresTransfer now (was_reset state) state.tx state.rx (restored_transfer_begun options state) t
      → Owes t.tracker.acknowledgement t.tracker.delay.running
  restored_owes options now state t restores = subst (λ (x : Transfer). Owes x.tracker.acknowledgement x.tracker.delay.running) (sym restores.is) (idle _)

  pub taken_owes : ((timer : RunningTimer) → Owes Delayed (Some timer)) → (options : Options) (now : ℕ) (messages : List MessageContent) (t : Transfer)
      → Owes t.tracker.acknowledgement t.tracker.delay.running → let new : Transfer = taken_to options now messages t in Owes new.tracker.acknowledgement new.tracker.delay.running
  taken_owes delayed options now messages t h = go (opens_window options t (with_messages messages t))
    where
      go : (b : Bool) → let new : Transfer = hastened_where_open b now (with_messages messages t) in Owes new.tracker.acknowledgement new.tracker.delay.running
      go true = delayed _
      go false = h

-- ---- the end of a packet

end_delaying : (now : ℕ) (tracker : TrackerState) (state : AckState) → RunsIfDelayed tracker.acknowledgement tracker.delay.running
    → let new : TrackerState = delayed_from now tracker state in RunsIfDelayed new.acknowledgement new.delay.running
end_delaying now tracker Idle h = h
end_delaying now tracker BecomingDelayed h = tt
end_delaying now tracker Delayed h = h
end_delaying now tracker Immediate h = h

pub end_settled : (now : ℕ) (tracker : TrackerState) (state : AckState) → tracker.acknowledgement ≡ state → RunsIfDelayed state tracker.delay.running
    → is_acknowledgement_due (delayed_from now tracker state) ≡ false → let new : TrackerState = delayed_from now tracker state in IsSettled new.acknowledgement new.delay.running
end_settled now tracker Idle is h due = subst (λ (s : AckState). IsSettled s tracker.delay.running) (sym is) tt
end_settled now tracker BecomingDelayed is h due = tt
end_settled now tracker Delayed is h due = subst (λ (s : AckState). IsSettled s tracker.delay.running) (sym is) h
end_settled now tracker Immediate is h due = absurd (let at : is_sack_due Immediate false ≡ false = subst (λ (s : AckState). is_sack_due s false ≡ false) is due in cc)

-- ---- both

pub delaying_kept : Keeps (Unit {0}) (Unit {0}) (Unit {0}) DelayingLayer DelayingLayer
delaying_kept =
    record {
      weaker = λ options t h. h;
      begins = λ options kinds first peer window. tt;
      changes_peer = λ options now peer window t h. tt;
      restores = λ may options now state t restores. restored_owes RunsIfDelayed (λ timer. tt) options now state t restores;
      sets_longest = λ options bytes t h. h;
      gives = λ ask e draft t answer h gave. gave_owes RunsIfDelayed (λ timer. tt) (wants_sack ask e.queues.queue t) (room_of_draft e draft) t gave.tracker gave.sacks h gave.acknowledges;
      resends = λ options now bytes waiting t left tsns h does. h;
      acknowledges = λ options now sack old new h does. sack_owes RunsIfDelayed (λ timer. tt) now sack old new h does;
      loses = λ options now t h. h;
      receives = λ may options arrival old new h does. received_delaying _ options arrival old new h does;
      forwards = λ may options tsn entries old new h does. forwarded_delaying _ options tsn entries old new h does;
      delays = λ may options t h. tt;
      ends = λ options now t h due. end_delaying now t.tracker t.tracker.acknowledgement h;
      answers = λ options now t h. tt;
      times = λ options round_trip t h. timed_owes RunsIfDelayed (λ timer. tt) round_trip t h;
      takes = λ options now messages t h. taken_owes RunsIfDelayed (λ timer. tt) (λ timer. tt) options now messages t h;
      resets = λ options reassembly t h. h;
    }

settled_delays : (state : AckState) (timer : Option RunningTimer) → IsSettled state timer → RunsIfDelayed state timer
settled_delays Idle timer h = tt
settled_delays BecomingDelayed timer h = tt
settled_delays Delayed timer h = h
settled_delays Immediate timer h = tt

pub settled_kept : Keeps ⊥ ⊥ (Unit {0}) DelayingLayer SettledLayer
settled_kept =
    record {
      weaker = λ options t h. settled_delays t.tracker.acknowledgement t.tracker.delay.running h;
      begins = λ options kinds first peer window. tt;
      changes_peer = λ options now peer window t h. tt;
      restores = λ may options now state t restores. restored_owes IsSettled (λ timer. tt) options now state t restores;
      sets_longest = λ options bytes t h. h;
      gives = λ ask e draft t answer h gave. gave_owes IsSettled (λ timer. tt) (wants_sack ask e.queues.queue t) (room_of_draft e draft) t gave.tracker gave.sacks h gave.acknowledges;
      resends = λ options now bytes waiting t left tsns h does. h;
      acknowledges = λ options now sack old new h does. sack_owes IsSettled (λ timer. tt) now sack old new h does;
      loses = λ options now t h. h;
      receives = λ may options arrival old new h does. absurd may;
      forwards = λ may options tsn entries old new h does. absurd may;
      delays = λ may options t h. absurd may;
      ends = λ options now t h due. end_settled now t.tracker t.tracker.acknowledgement refl h due;
      answers = λ options now t h. tt;
      times = λ options round_trip t h. timed_owes IsSettled (λ timer. tt) round_trip t h;
      takes = λ options now messages t h. taken_owes IsSettled (λ timer. tt) (λ timer. tt) options now messages t h;
      resets = λ options reassembly t h. h;
    }
