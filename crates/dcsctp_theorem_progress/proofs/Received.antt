-- A socket that is Established, or awaits a COOKIE ACK, and is handed data, what skips it, or a heartbeat: the association stays, OnConnected
-- isn't told, and what it sends is taken by the peer.
use Rattle.std.proofs.Common.{◌≡◌, ◌<◌, ◌^◌, ℕ, Bool, true, false, cond, Option, None, Some, List, [], ◌∷◌, refl, sym, ap, subst, ◌∙◌, arith}
use Rattle.std.specs.Option.{option_map}
use Rattle.std.specs.Prelude.{◌==◌}
use Rattle.dcsctp_spec_lemmas.specs.wire.Content.{ParameterContent, no_user_data}
use Rattle.dcsctp_spec_lemmas.specs.wire.Spelling.{parameters_len}
use Rattle.dcsctp_spec_lemmas.specs.types.declared.association.Held.{Held}
use Rattle.dcsctp_spec_lemmas.specs.types.declared.association.Pair.{Pair}
use Rattle.dcsctp_spec_lemmas.specs.types.declared.arrivals.SkippedTo.{SkippedTo}
use Rattle.dcsctp_spec_lemmas.specs.types.declared.kinds.ErrorKind.TheVariants.{ProtocolViolation}
use Rattle.dcsctp_spec_lemmas.specs.spec.Packet.{plain, error_of, heartbeat, heartbeat_ack}
use Rattle.dcsctp_spec_lemmas.specs.spec.endpoint.DataOutcomes.{HandlesPayload, with_transfer, no_user_data_text, no_user_data_outcome, ReceiveTurn, ForwardTurn}
use Rattle.dcsctp_spec_lemmas.specs.spec.endpoint.Endpoint.{Endpoint, may_answer, Core}
use Rattle.dcsctp_spec_lemmas.specs.spec.endpoint.Event.{error}
use Rattle.dcsctp_spec_lemmas.specs.spec.endpoint.HeartbeatOutcomes.{heartbeat_outcome, heartbeat_round_trip, endpoint_answered, heartbeat_ack_outcome}
use Rattle.dcsctp_spec_lemmas.specs.spec.endpoint.Outcome.{Outcome, still, quiet, answering, answered_if_allowed, sends, behind, to_peer, fits}
use Rattle.dcsctp_spec_lemmas.specs.spec.endpoint.TransferMoves.{ReceivesIfRoom, ReceivesData, dropping, MovesIfForward, MovesForward, timed_transfer}
use Rattle.dcsctp_spec_lemmas.specs.spec.queues.Arrivals.{Arrival}
use Rattle.dcsctp_spec_lemmas.specs.spec.queues.Transfer.{Transfer}
use Rattle.dcsctp_spec_runs.specs.Fitting.{Sendable}
use Rattle.dcsctp_theorem_progress.proofs.FlightKinds.{SameKind, timed_kind}
use Rattle.dcsctp_theorem_progress.proofs.Carried.{answer_sendable}
use Rattle.dcsctp_theorem_progress.proofs.Constant.{same_trying, errors_begin}
use Rattle.dcsctp_theorem_progress.proofs.Flows.{HasPeer, is_open, is_echoing, Flows, TellsCarried}
use Rattle.dcsctp_theorem_progress.proofs.Flushes.{Stays}

-- ---- without a packet

pub flows_with : (held : Held) (e : Endpoint) (f : Flows held e) (left : Transfer) → SameKind f.kind.transfer.retransmission left.retransmission → Flows held (with_transfer e left)
flows_with held e f left same =
    record {
      kind = record { peer = f.kind.peer; transfer = left; known = refl; interleaves = same.0 ∙ f.kind.interleaves; abandons = same.1 ∙ f.kind.abandons };
      unpaused = f.unpaused;
    }

abbrev pub nothing_told : (held : Held) → TellsCarried held []
nothing_told held = record { told = λ n. refl; sent = tt }

pub still_stays : (held : Held) (e : Endpoint) → Flows held e → Stays held e (still e)
still_stays held e f = record { core = refl; options = refl; asked = refl; flows = f; tells = nothing_told held; following = refl; trying = same_trying _ _ refl refl refl }

pub moved_stays : (held : Held) (e : Endpoint) (f : Flows held e) (left : Transfer) → SameKind f.kind.transfer.retransmission left.retransmission → Stays held e (still (with_transfer e left))
moved_stays held e f left same = record { core = refl; options = refl; asked = refl; flows = flows_with held e f left same; tells = nothing_told held; following = refl; trying = same_trying _ _ refl refl refl }

same_flight : (old new : Transfer) → new.retransmission ≡ old.retransmission → SameKind old.retransmission new.retransmission
same_flight old new is = subst (SameKind old.retransmission) (sym is) (refl, refl)

-- ---- data

dropped_flight : (b : Bool) (transfer : Transfer) → (dropping b transfer).retransmission ≡ transfer.retransmission
dropped_flight true transfer = refl
dropped_flight false transfer = refl

received_flight : (b : Bool) (arrival : Arrival) (old new : Transfer) → ReceivesIfRoom b arrival old new → new.retransmission ≡ old.retransmission
received_flight true arrival old new h = ap (λ (t : Transfer). t.retransmission) h.rest
received_flight false arrival old new h = ap (λ (t : Transfer). t.retransmission) h ∙ dropped_flight _ old

error_sendable : (tsn : ℕ) → tsn < 2 ^ 32 → Sendable (plain (error_of (no_user_data tsn ∷ [])))
unfolding parameters_len
error_sendable tsn small = record { fits = record { len_fits = omega arith; causes_fit = (small, tt) }; reads = refl; said = tt }

reported_stays : (b : Bool) (held : Held) (e : Endpoint) (tsn : ℕ) → Flows held e → tsn < 2 ^ 32
    → Stays held e (behind [] (error ProtocolViolation no_user_data_text ∷ []) (cond b (sends e [] [] (to_peer held (plain (error_of (no_user_data tsn ∷ []))))) (quiet e [] [])))
reported_stays true held e tsn f small =
    record {
      core = refl;
      options = refl;
      asked = refl;
      flows = record {
        kind = record { peer = f.kind.peer; transfer = f.kind.transfer; known = f.kind.known; interleaves = f.kind.interleaves; abandons = f.kind.abandons };
        unpaused = f.unpaused;
      };
      tells = record { told = λ n. refl; sent = (record { checked = refl; header = refl; contents = (record { sendable = error_sendable tsn small; allowed = refl }, tt) }, tt) };
      following = refl;
      trying = same_trying _ _ refl refl refl;
    }
reported_stays false held e tsn f small = record { core = refl; options = refl; asked = refl; flows = f; tells = record { told = λ n. refl; sent = tt }; following = refl; trying = same_trying _ _ refl refl refl }

received_stays : (held : Held) (e : Endpoint) (f : Flows held e) (arrival : Arrival) (o : Outcome) → ReceiveTurn e e.queues.transfer arrival o → Stays held e o
received_stays held e f arrival o turn =
    let h : (left : Transfer) × ReceivesData arrival f.kind.transfer left × (o ≡ still (with_transfer e left)) = subst (λ (t : Option Transfer). ReceiveTurn e t arrival o) f.kind.known turn in
    subst (Stays held e) (sym h.2) (moved_stays held e f h.0 (same_flight f.kind.transfer h.0 (received_flight _ arrival f.kind.transfer h.0 h.1)))

pub payload_stays : (held : Held) (e : Endpoint) (f : Flows held e) (arrival : Arrival) (payload : List ℕ) (o : Outcome) → arrival.tsn < 2 ^ 32 → HandlesPayload e arrival payload o → Stays held e o
payload_stays held e f arrival [] o small turn =
    let is : o ≡ no_user_data_outcome e (Some held) arrival.tsn = subst (λ (peer : Option Held). o ≡ no_user_data_outcome e peer arrival.tsn) f.kind.peer turn in
    subst (Stays held e) (sym is) (reported_stays (fits e (to_peer held (plain (error_of (no_user_data arrival.tsn ∷ []))))) held e arrival.tsn f small)
payload_stays held e f arrival (byte ∷ bytes) o small turn = received_stays held e f arrival o turn

-- ---- what skips it

skipped_flight : (b : Bool) (tsn : ℕ) (entries : List SkippedTo) (old new : Transfer) → MovesIfForward b tsn entries old new → new.retransmission ≡ old.retransmission
skipped_flight true tsn entries old new h = ap (λ (t : Transfer). t.retransmission) h.rest
skipped_flight false tsn entries old new h = ap (λ (t : Transfer). t.retransmission) h

pub forward_stays : (held : Held) (e : Endpoint) (f : Flows held e) (tsn : ℕ) (entries : List SkippedTo) (o : Outcome) → ForwardTurn e e.queues.transfer tsn entries o → Stays held e o
forward_stays held e f tsn entries o turn =
    let h : (left : Transfer) × MovesForward tsn entries f.kind.transfer left × (o ≡ still (with_transfer e left)) = subst (λ (t : Option Transfer). ForwardTurn e t tsn entries o) f.kind.known turn in
    subst (Stays held e) (sym h.2) (moved_stays held e f h.0 (same_flight f.kind.transfer h.0 (skipped_flight _ tsn entries f.kind.transfer h.0 h.1)))

-- ---- heartbeats

answers_by : (may fitting : Bool) (held : Held) (e : Endpoint) (f : Flows held e) (parameters : List ParameterContent) → Sendable (plain (heartbeat parameters)) →
    let emission = to_peer held (plain (heartbeat_ack parameters)) in
    Stays held e (cond may (answering (cond fitting (sends e [] [] emission) (quiet e [] []))) (still e))
answers_by false fitting held e f parameters good = still_stays held e f
answers_by true true held e f parameters good =
    record {
      core = refl;
      options = refl;
      asked = refl;
      flows = record {
        kind = record { peer = f.kind.peer; transfer = f.kind.transfer; known = f.kind.known; interleaves = f.kind.interleaves; abandons = f.kind.abandons };
        unpaused = f.unpaused;
      };
      tells = record { told = λ n. refl; sent = (record { checked = refl; header = refl; contents = (record { sendable = answer_sendable parameters good; allowed = tt }, tt) }, tt) };
      following = refl;
      trying = same_trying _ _ refl refl refl;
    }
answers_by true false held e f parameters good =
    record {
      core = refl;
      options = refl;
      asked = refl;
      flows = record {
        kind = record { peer = f.kind.peer; transfer = f.kind.transfer; known = f.kind.known; interleaves = f.kind.interleaves; abandons = f.kind.abandons };
        unpaused = f.unpaused;
      };
      tells = record { told = λ n. refl; sent = tt };
      following = refl;
      trying = same_trying _ _ refl refl refl;
    }

answered_stays : (may : Bool) (held : Held) (e : Endpoint) (f : Flows held e) (parameters : List ParameterContent) → Sendable (plain (heartbeat parameters))
    → Stays held e (answered_if_allowed may e (to_peer held (plain (heartbeat_ack parameters))))
answered_stays true held e f parameters good = answers_by true (fits e (to_peer held (plain (heartbeat_ack parameters)))) held e f parameters good
answered_stays false held e f parameters good = still_stays held e f

-- A HEARTBEAT is answered.
pub heartbeat_stays : (held : Held) (my : Pair) (e : Endpoint) (f : Flows held e) (parameters : List ParameterContent) → HasPeer my held e.core → Sendable (plain (heartbeat parameters))
    → Stays held e (heartbeat_outcome e e.core parameters)
heartbeat_stays held my e f parameters (is_open is) good =
    subst (λ (core : Core). Stays held e (heartbeat_outcome e core parameters)) (sym is) (answered_stays (may_answer e) held e f parameters good)
heartbeat_stays held my e f parameters (is_echoing bytes is) good =
    subst (λ (core : Core). Stays held e (heartbeat_outcome e core parameters)) (sym is) (answered_stays (may_answer e) held e f parameters good)

-- Its answer shows that the peer is there.
counted_stays : (present : Bool) (held : Held) (e : Endpoint) (f : Flows held e) → Stays held e (cond present (still (endpoint_answered e)) (still e))
counted_stays false held e f = still_stays held e f
counted_stays true held e f =
    let same : SameKind f.kind.transfer.retransmission (timed_transfer (heartbeat_round_trip e) f.kind.transfer).retransmission = timed_kind (heartbeat_round_trip e) f.kind.transfer in
    record {
      core = refl;
      options = refl;
      asked = refl;
      flows = record {
        kind = record {
          peer = f.kind.peer;
          transfer = timed_transfer (heartbeat_round_trip e) f.kind.transfer;
          known = ap (option_map (timed_transfer (heartbeat_round_trip e))) f.kind.known;
          interleaves = same.0 ∙ f.kind.interleaves;
          abandons = same.1 ∙ f.kind.abandons;
        };
        unpaused = f.unpaused;
      };
      tells = nothing_told held;
      following = refl;
      trying = record { moment = refl; t1 = refl; errors = λ limit none. errors_begin true limit e.error_count none };
    }

pub answer_stays : (held : Held) (e : Endpoint) (f : Flows held e) (counter : Option ℕ) → Stays held e (heartbeat_ack_outcome e counter)
answer_stays held e f None =
    record { core = refl; options = refl; asked = refl; flows = f; tells = record { told = λ n. refl; sent = tt }; following = refl; trying = same_trying _ _ refl refl refl }
answer_stays held e f (Some counter) = counted_stays (counter == e.heartbeat_counter) held e f
