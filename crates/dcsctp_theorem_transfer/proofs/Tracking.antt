-- What each socket of a run has received is a set of TSNs in its one form.
use Rattle.std.proofs.Common.{◌≡◌, ℕ, Bool, true, false, Option, None, Some, List, refl, sym, subst}
use Rattle.std.specs.Prelude.{◌&&◌}
use Rattle.dcsctp_spec_lemmas.specs.wire.Content.{SackContent}
use Rattle.dcsctp_spec_lemmas.specs.types.Snapshot.{Snapshot}
use Rattle.dcsctp_spec_lemmas.specs.types.declared.arrivals.SkippedTo.{SkippedTo}
use Rattle.dcsctp_spec_lemmas.specs.types.declared.options.Options.{Options}
use Rattle.dcsctp_spec_lemmas.specs.types.declared.tracking.AckState.{AckState}
use Rattle.dcsctp_spec_lemmas.specs.types.declared.tracking.AckState.TheVariants.{Idle, BecomingDelayed, Delayed, Immediate}
use Rattle.dcsctp_spec_lemmas.specs.types.queues.Messages.{MessageContent}
use Rattle.dcsctp_spec_lemmas.specs.spec.Packet.{Plain}
use Rattle.dcsctp_spec_lemmas.specs.spec.endpoint.DataOutcomes.{taken_to, opens_window, hastened_where_open, with_messages}
use Rattle.dcsctp_spec_lemmas.specs.spec.endpoint.Endpoint.{Endpoint, Core}
use Rattle.dcsctp_spec_lemmas.specs.spec.endpoint.FlushOutcomes.{Acknowledges, wants_sack, room_of_draft}
use Rattle.dcsctp_spec_lemmas.specs.spec.endpoint.RestoreOutcomes.{was_reset, restored_transfer_begun, RestoresTransfer}
use Rattle.dcsctp_spec_lemmas.specs.spec.endpoint.TransferMoves.{has_room, ReceivesIfRoom, dropping, MovesIfForward, timed_transfer, TakesSack}
use Rattle.dcsctp_spec_lemmas.specs.spec.queues.Arrivals.{Arrival}
use Rattle.dcsctp_spec_lemmas.specs.spec.queues.Tracker.{TrackerState, is_valid_tsn, tracker_after_sack, delayed_from}
use Rattle.dcsctp_spec_lemmas.specs.spec.queues.Transfer.{Transfer}
use Rattle.dcsctp_spec_laws.specs.SackLaws.{IsTracked}
use Rattle.dcsctp_spec_laws.proofs.TrackedLemmas.{trackers_stay_tracked}
use Rattle.dcsctp_spec_runs.specs.Sockets.{of_side, turns_after, endpoint_after}
use Rattle.dcsctp_theorem_transfer.specs.Tracking.{TracksReceived, SocketsTrackReceived}
use Rattle.dcsctp_theorem_transfer.proofs.Following.{FollowingLayer, following_kept}
use Rattle.dcsctp_theorem_transfer.proofs.Layers.{Keeps, LayerIs}
use Rattle.dcsctp_theorem_transfer.proofs.Turns.{run_is}

abbrev TrackedLayer : Options → Transfer → Type 0
TrackedLayer options t = IsTracked t.tracker

dropped_tracked : (b : Bool) (t : Transfer) → IsTracked t.tracker → IsTracked (dropping b t).tracker
dropped_tracked true t h = record { beyond = h.beyond; near = h.near }
dropped_tracked false t h = h

received_tracked : (a b : Bool) (arrival : Arrival) (old new : Transfer) → is_valid_tsn old.tracker.cumulative arrival.tsn ≡ b → IsTracked old.tracker → ReceivesIfRoom (a && b) arrival old new → IsTracked new.tracker
received_tracked true true arrival old new valid h does =
    subst (λ (t : Transfer). IsTracked t.tracker) (sym does.rest) (trackers_stay_tracked.observes arrival.tsn arrival.immediate_ack old.tracker valid h)
received_tracked true false arrival old new valid h does =
    subst (λ (t : Transfer). IsTracked t.tracker) (sym does) (dropped_tracked (old.tracker.follows_rfc && is_valid_tsn old.tracker.cumulative arrival.tsn) old h)
received_tracked false b arrival old new valid h does =
    subst (λ (t : Transfer). IsTracked t.tracker) (sym does) (dropped_tracked (old.tracker.follows_rfc && is_valid_tsn old.tracker.cumulative arrival.tsn) old h)

forwarded_tracked : (b : Bool) (tsn : ℕ) (entries : List SkippedTo) (old new : Transfer) → IsTracked old.tracker → MovesIfForward b tsn entries old new → IsTracked new.tracker
forwarded_tracked false tsn entries old new h does = subst (λ (t : Transfer). IsTracked t.tracker) (sym does) h
forwarded_tracked true tsn entries old new h does = subst (λ (t : Transfer). IsTracked t.tracker) (sym does.rest) (trackers_stay_tracked.forwards tsn old.tracker h)

gave_tracked : (b : Bool) (room : ℕ) (t : Transfer) (after : TrackerState) (chunks : List Plain) → IsTracked t.tracker → Acknowledges b room t after chunks → IsTracked after
gave_tracked false room t after chunks h does = subst IsTracked (sym does.0) h
gave_tracked true room t after chunks h does = subst IsTracked (sym does.0) (record { beyond = h.beyond; near = h.near })

timed_tracked : (round_trip : Option ℕ) (t : Transfer) → IsTracked t.tracker → IsTracked (timed_transfer round_trip t).tracker
timed_tracked None t h = h
timed_tracked (Some round_trip) t h = record { beyond = h.beyond; near = h.near }

sack_tracked : (now : ℕ) (sack : SackContent) (old new : Transfer) → IsTracked old.tracker → TakesSack now sack old new → IsTracked new.tracker
sack_tracked now sack old new h does =
    subst (λ (t : Transfer). IsTracked t.tracker) (sym does.is) (timed_tracked does.round_trip (record old { retransmission = does.left }) h)

taken_tracked : (options : Options) (now : ℕ) (messages : List MessageContent) (t : Transfer) → IsTracked t.tracker → IsTracked (taken_to options now messages t).tracker
taken_tracked options now messages t h = go (opens_window options t (with_messages messages t))
  where
    go : (b : Bool) → IsTracked (hastened_where_open b now (with_messages messages t)).tracker
    go true = record { beyond = h.beyond; near = h.near }
    go false = h

ended_tracked : (now : ℕ) (tracker : TrackerState) (state : AckState) → IsTracked tracker → IsTracked (delayed_from now tracker state)
ended_tracked now tracker Idle h = h
ended_tracked now tracker BecomingDelayed h = record { beyond = h.beyond; near = h.near }
ended_tracked now tracker Delayed h = h
ended_tracked now tracker Immediate h = h

answered_tracked : (tracker : TrackerState) → IsTracked tracker → IsTracked (tracker_after_sack tracker)
answered_tracked tracker h = record { beyond = h.beyond; near = h.near }

restored_tracked : (options : Options) (now : ℕ) (state : Snapshot) (t : Transfer) → RestoresTransfer now (was_reset state) state.tx state.rx (restored_transfer_begun options state) t → IsTracked t.tracker
restored_tracked options now state t restores =
    subst (λ (x : Transfer). IsTracked x.tracker) (sym restores.is) (record { beyond = tt; near = λ number covered. let none_there : false ≡ true = covered in absurd (cc) })

tracked_kept : Keeps (Unit {0}) (Unit {0}) (Unit {0}) TrackedLayer TrackedLayer
tracked_kept =
    record {
      weaker = λ options t h. h;
      begins = λ options kinds first peer window. trackers_stay_tracked.begins options peer;
      changes_peer = λ options now peer window t h. trackers_stay_tracked.begins options peer;
      restores = λ may options now state t restores. restored_tracked options now state t restores;
      sets_longest = λ options bytes t h. h;
      gives = λ ask e draft t answer h gave. gave_tracked (wants_sack ask e.queues.queue t) (room_of_draft e draft) t gave.tracker gave.sacks h gave.acknowledges;
      resends = λ options now bytes waiting t left tsns h does. h;
      acknowledges = λ options now sack old new h does. sack_tracked now sack old new h does;
      loses = λ options now t h. h;
      receives = λ may options arrival old new h does. received_tracked (has_room arrival.tsn old) (is_valid_tsn old.tracker.cumulative arrival.tsn) arrival old new refl h does;
      forwards = λ may options tsn entries old new h does. forwarded_tracked _ tsn entries old new h does;
      delays = λ may options t h. record { beyond = h.beyond; near = h.near };
      ends = λ options now t h due. ended_tracked now t.tracker t.tracker.acknowledgement h;
      answers = λ options now t h. answered_tracked (delayed_from now t.tracker t.tracker.acknowledgement) (ended_tracked now t.tracker t.tracker.acknowledgement h);
      times = λ options round_trip t h. timed_tracked round_trip t h;
      takes = λ options now messages t h. taken_tracked options now messages t h;
      resets = λ options reassembly t h. h;
    }

tracks : (core : Core) (options : Options) (t : Option Transfer) → LayerIs TrackedLayer core options t → LayerIs FollowingLayer core options t → TracksReceived options t
tracks core options None h follows = tt
tracks core options (Some t) h follows = (h.1, follows.1)

pub sockets_track_received : SocketsTrackReceived
sockets_track_received options run is side =
    let e : Endpoint = endpoint_after (of_side side options) (of_side side (turns_after run)) in
    tracks e.core e.options e.queues.transfer (run_is TrackedLayer tracked_kept options run is side) (run_is FollowingLayer following_kept options run is side)
