-- T3 runs wherever something is outstanding, at each socket of a run.
use Rattle.std.proofs.Common.{◌≡◌, ℕ, Bool, true, false, Option, None, Some, List, [], ◌++◌, refl, sym, ap, ◌∙◌, subst}
use Rattle.std.specs.Prelude.{◌&&◌}
use Rattle.dcsctp_spec_lemmas.specs.types.Snapshot.{Snapshot}
use Rattle.dcsctp_spec_lemmas.specs.types.declared.arrivals.SkippedTo.{SkippedTo}
use Rattle.dcsctp_spec_lemmas.specs.types.declared.options.Options.{Options}
use Rattle.dcsctp_spec_lemmas.specs.types.queues.Messages.{MessageContent}
use Rattle.dcsctp_spec_lemmas.specs.spec.Packet.{Emission}
use Rattle.dcsctp_spec_lemmas.specs.spec.association.Choices.{plain_contents}
use Rattle.dcsctp_spec_lemmas.specs.spec.endpoint.BegunResets.{retransmission_begun, queue_requesting, streams_within, request_contents}
use Rattle.dcsctp_spec_lemmas.specs.spec.endpoint.DataOutcomes.{taken_to, opens_window, hastened_where_open, with_messages}
use Rattle.dcsctp_spec_lemmas.specs.spec.endpoint.Endpoint.{Endpoint, Core}
use Rattle.dcsctp_spec_lemmas.specs.spec.endpoint.FlushOutcomes.{Ask, Answer, Gives, may_forward, room_of_draft, filled_draft, stage_of}
use Rattle.dcsctp_spec_lemmas.specs.spec.endpoint.RestoreOutcomes.{was_reset, restored_transfer_begun, RestoresTransfer}
use Rattle.dcsctp_spec_lemmas.specs.spec.endpoint.TransferMoves.{ReceivesIfRoom, dropping, MovesIfForward}
use Rattle.dcsctp_spec_lemmas.specs.spec.queues.Arrivals.{Arrival}
use Rattle.dcsctp_spec_lemmas.specs.spec.queues.OutstandingParts.{retransmission_restored}
use Rattle.dcsctp_spec_lemmas.specs.spec.queues.Retransmission.{RetransmissionState, new_timer}
use Rattle.dcsctp_spec_lemmas.specs.spec.queues.SendQueue.{SendQueueState}
use Rattle.dcsctp_spec_lemmas.specs.spec.queues.Tracker.{is_valid_tsn}
use Rattle.dcsctp_spec_lemmas.specs.spec.queues.Transfer.{Transfer, may_give}
use Rattle.dcsctp_spec_runs.specs.Sockets.{of_side, turns_after, endpoint_after}
use Rattle.dcsctp_theorem_transfer.specs.Retransmitting.{RunsT3, SocketsRunT3}
use Rattle.dcsctp_theorem_transfer.proofs.Layers.{Keeps, LayerIs}
use Rattle.dcsctp_theorem_transfer.proofs.Timed.{IsEndless, IsTimed, IsSet, timer_set, given_up_timed, fills_where_timed, begun_timed, at_once_timed, measured_timed, sack_timed, lost_timed, new_timed, kept_timed}
use Rattle.dcsctp_theorem_transfer.proofs.Turns.{run_is}

abbrev TimedLayer : Options → Transfer → Type 0
TimedLayer options t = IsTimed t.retransmission

taken_timed : (options : Options) (now : ℕ) (messages : List MessageContent) (t : Transfer) → IsTimed t.retransmission → IsTimed (taken_to options now messages t).retransmission
taken_timed options now messages t h = go (opens_window options t (with_messages messages t))
  where
    go : (b : Bool) → IsTimed (hastened_where_open b now (with_messages messages t)).retransmission
    go true = h
    go false = h

pub received_same : (b : Bool) (arrival : Arrival) (old new : Transfer) → ReceivesIfRoom b arrival old new → new.retransmission ≡ old.retransmission
received_same true arrival old new does = ap (λ (t : Transfer). t.retransmission) does.rest
received_same false arrival old new does = ap (λ (t : Transfer). t.retransmission) does ∙ dropped (old.tracker.follows_rfc && is_valid_tsn old.tracker.cumulative arrival.tsn)
  where
    dropped : (b : Bool) → (dropping b old).retransmission ≡ old.retransmission
    dropped true = refl
    dropped false = refl

pub forwarded_same : (b : Bool) (tsn : ℕ) (entries : List SkippedTo) (old new : Transfer) → MovesIfForward b tsn entries old new → new.retransmission ≡ old.retransmission
forwarded_same true tsn entries old new does = ap (λ (t : Transfer). t.retransmission) does.rest
forwarded_same false tsn entries old new does = ap (λ (t : Transfer). t.retransmission) does

gave_timed : (ask : Ask) (e : Endpoint) (draft : Emission) (t : Transfer) (answer : Answer) → IsTimed t.retransmission → (gave : Gives ask e draft t answer) → IsTimed gave.sent.queue
gave_timed ask e draft t answer h gave =
    let given = given_up_timed (may_forward ask e t.retransmission) e.moment t (room_of_draft e (filled_draft draft (plain_contents gave.sacks))) (stage_of e.queues.queue t.retransmission [] 0) gave.gave_up
    gave.next gave.forwards h gave.gives_up in
    let left : SendQueueState = queue_requesting (streams_within (room_of_draft e (filled_draft draft (plain_contents answer.acknowledgements)))) answer.begun gave.gave_up.waiting in
    let begun : RetransmissionState = retransmission_begun answer.begun gave.gave_up.queue in
    fills_where_timed (may_give left begun) e.moment
    (stage_of left begun gave.gave_up.told (room_of_draft e (filled_draft draft (plain_contents answer.acknowledgements ++ request_contents answer.begun)))) gave.sent
    (begun_timed answer.begun gave.gave_up.queue given) gave.fills

restored_timed : (options : Options) (now : ℕ) (state : Snapshot) (t : Transfer) → RestoresTransfer now (was_reset state) state.tx state.rx (restored_transfer_begun options state) t → IsTimed t.retransmission
restored_timed options now state t restores =
    let made : RetransmissionState = retransmission_restored now (was_reset state) state.tx (restored_transfer_begun options state).retransmission in
    let endless : IsEndless (new_timer options) = record { next = refl; now = tt } in
    let set : IsSet made.outstanding.items made.timer = timer_set now made.outstanding.items (new_timer options) endless in
    subst (λ (x : Transfer). IsTimed x.retransmission) (sym restores.is) (record { runs = set.runs; endless = set.endless })

timed_kept : Keeps (Unit {0}) (Unit {0}) (Unit {0}) TimedLayer TimedLayer
timed_kept =
    record {
      weaker = λ options t h. h;
      begins = λ options kinds first peer window. new_timed options first window kinds.partial_reliability kinds.message_interleaving;
      changes_peer = λ options now peer window t h. kept_timed now options window t.retransmission h;
      restores = λ may options now state t restores. restored_timed options now state t restores;
      sets_longest = λ options bytes t h. h;
      gives = gave_timed;
      resends = λ options now bytes waiting t left tsns h does. at_once_timed now bytes waiting t.retransmission left tsns h does;
      acknowledges = λ options now sack old new h does. sack_timed now sack old new h does;
      loses = λ options now t h. lost_timed now t.retransmission h;
      receives = λ may options arrival old new h does. subst IsTimed (sym (received_same _ arrival old new does)) h;
      forwards = λ may options tsn entries old new h does. subst IsTimed (sym (forwarded_same _ tsn entries old new does)) h;
      delays = λ may options t h. h;
      ends = λ options now t h due. h;
      answers = λ options now t h. h;
      times = λ options round_trip t h. measured_timed round_trip t h;
      takes = taken_timed;
      resets = λ options reassembly t h. h;
    }

t3_runs : (core : Core) (options : Options) (t : Option Transfer) → LayerIs TimedLayer core options t → RunsT3 t
t3_runs core options None h = tt
t3_runs core options (Some t) h = h.1.runs

pub sockets_run_t3 : SocketsRunT3
sockets_run_t3 options run is side =
    let e : Endpoint = endpoint_after (of_side side options) (of_side side (turns_after run)) in
    t3_runs e.core e.options e.queues.transfer (run_is TimedLayer timed_kept options run is side)
