-- The flush after a restore begins no request to reset streams: no stream is to be reset then.
use Rattle.std.proofs.Common.{◌≡◌, ◌∙◌, ℕ, zero, suc, Bool, true, false, Option, None, Some, List, [], ◌∷◌, map, take, refl, sym, subst, ap}
use Rattle.dcsctp_spec_lemmas.specs.types.declared.association.Held.{Held}
use Rattle.dcsctp_spec_lemmas.specs.spec.endpoint.Endpoint.{Endpoint, Core, closed, cookie_wait, cookie_echoed, open_in, held_by_core}
use Rattle.dcsctp_spec_lemmas.specs.spec.endpoint.Outcome.{Outcome}
use Rattle.dcsctp_spec_lemmas.specs.spec.Packet.{Plain, Emission}
use Rattle.dcsctp_spec_lemmas.specs.types.Snapshot.{Snapshot}
use Rattle.dcsctp_spec_lemmas.specs.spec.association.Choices.{plain_contents}
use Rattle.dcsctp_spec_lemmas.specs.spec.queues.Filling.{Stage}
use Rattle.dcsctp_spec_lemmas.specs.spec.queues.OwnResets.{ready_streams}
use Rattle.dcsctp_spec_lemmas.specs.spec.queues.SendQueue.{SendQueueState, numbered_for}
use Rattle.dcsctp_spec_lemmas.specs.spec.queues.Transfer.{Transfer, is_idle}
use Rattle.dcsctp_spec_lemmas.specs.spec.endpoint.BegunResets.{BegunReset, streams_within, last_assigned_tsn, stream_field, begun_if_ready, begun_if_connected, after_begun}
use Rattle.dcsctp_spec_lemmas.specs.spec.endpoint.DataOutcomes.{AnswersTo, flush_to_peer}
use Rattle.dcsctp_spec_lemmas.specs.spec.endpoint.FlushOutcomes.{may_be_asked, Answer, first_ask, GivesUpThenForwards, GivesUnlessIdle, IsAnswerOfQueues, AreFlushAnswers, at_limit, at_empty, after_packet, may_forward, packets_allowed, draft_to, filled_draft, room_of_draft, stage_of, forward_made}
use Rattle.dcsctp_spec_lemmas.specs.spec.endpoint.RestoreOutcomes.{RestoreTurn}
use Rattle.dcsctp_spec_lemmas.proofs.FlushKeeps.{begun_by, flush_keeps}
use Rattle.dcsctp_theorem_sockets.specs.Restores.{RestoredSocketsBeginNothing}
use Rattle.dcsctp_theorem_sockets.proofs.OpenStreams.{AreOpen, IsStageOpen, nothing_ready, restored_open, steps_open}

-- ---- what a flush begins

none_taken : (count : ℕ) (streams : List ℕ) → streams ≡ [] → take count streams ≡ []
none_taken zero [] none = refl
none_taken (suc count) [] none = refl
none_taken count (stream ∷ streams) none = absurd (cc)

no_stream : (follows : Bool) (outstanding : Option ℕ) (number last_tsn : ℕ) → begun_if_ready follows outstanding number last_tsn [] ≡ None
no_stream follows None number last_tsn = refl
no_stream follows (Some other) number last_tsn = refl

begins_nothing : (follows : Bool) (peer : Option Held) (room last_tsn : ℕ) (queue : SendQueueState) → AreOpen queue.streams → begun_if_connected follows peer room last_tsn queue ≡ None
begins_nothing follows None room last_tsn queue are = refl
begins_nothing follows (Some held) room last_tsn queue are =
    ap (λ (streams : List ℕ). begun_if_ready follows held.own_outstanding held.own_next last_tsn (map stream_field streams)) (none_taken (streams_within room) (ready_streams queue) (nothing_ready queue are))
    ∙ no_stream follows held.own_outstanding held.own_next last_tsn

gave_up_open : (b : Bool) (now : ℕ) (transfer : Transfer) (room : ℕ) (old new : Stage) (next : Option ℕ) (chunks : List Plain) → GivesUpThenForwards b now transfer room old new (forward_made next chunks)
    → IsStageOpen old → IsStageOpen new
gave_up_open false now transfer room old new next chunks h are = subst IsStageOpen (sym h.0) are
gave_up_open true now transfer room old new next chunks h are = steps_open now old new h.0.steps are

first_where : (b : Bool) (e : Endpoint) (draft : Emission) (transfer : Transfer) (answer : Answer) → GivesUnlessIdle b first_ask e draft transfer answer → AreOpen e.queues.queue.streams
    → answer.begun ≡ None
first_where true e draft transfer answer h are = ap (λ (a : Answer). a.begun) h
first_where false e draft transfer answer h are =
    h.begins
    ∙ begins_nothing e.options.follow_rfc (may_be_asked e.core e.options.follow_rfc) (room_of_draft e (filled_draft draft (plain_contents answer.acknowledgements))) (last_assigned_tsn h.gave_up.queue) h.gave_up.waiting
    (gave_up_open (may_forward first_ask e transfer.retransmission) e.moment transfer (room_of_draft e (filled_draft draft (plain_contents h.sacks)))
    (stage_of e.queues.queue transfer.retransmission [] 0) h.gave_up h.next h.forwards h.gives_up are)

first_below : (e : Endpoint) (draft : Emission) (transfer : Option Transfer) (answer : Answer) → IsAnswerOfQueues first_ask e draft answer transfer → AreOpen e.queues.queue.streams
    → answer.begun ≡ None
first_below e draft None answer h are = ap (λ (a : Answer). a.begun) h
first_below e draft (Some transfer) answer h are = first_where (is_idle e.queues.queue transfer) e draft transfer answer h are

all_begin : (n : ℕ) (e : Endpoint) (draft : Emission) (answers : List Answer) → AreFlushAnswers first_ask n e draft answers → AreOpen e.queues.queue.streams → begun_by answers ≡ None
all_begin _ _ _ _ (at_limit _ e draft) are = refl
all_begin _ _ _ _ (at_empty _ more e draft answer h empty) are = first_below e draft e.queues.transfer answer h.by_transfer are
all_begin _ _ _ _ (after_packet _ more e draft answer answers h some rest) are = first_below e draft e.queues.transfer answer h.by_transfer are

flushed_by : (e : Endpoint) (o : Outcome) (peer : Option Held) (answers : List Answer) → AnswersTo e peer answers → o ≡ flush_to_peer e peer answers → AreOpen e.queues.queue.streams
    → o.after.core ≡ e.core
flushed_by e o None answers allowed is are = ap (λ (x : Outcome). x.after.core) is
flushed_by e o (Some held) answers allowed is are =
    let n : ℕ = packets_allowed e.options.max_burst e.core in
    ap (λ (x : Outcome). x.after.core) is
    ∙ (flush_keeps first_ask n e (draft_to held) answers allowed).core
    ∙ ap (λ (begun : Option BegunReset). (after_begun begun e).core) (all_begin n e (draft_to held) answers allowed are)

-- ---- after a restore

restored_at : (e : Endpoint) (core : Core) (state : Snapshot) (o : Outcome) → core ≡ closed → RestoreTurn e core state o → AreOpen o.after.queues.queue.streams
restored_at e closed state o is turn =
    subst (λ (x : Outcome). AreOpen x.after.queues.queue.streams) (sym turn.2)
    (restored_open e.moment state.tx (numbered_for state.capabilities.message_interleaving state.tx.rwnd e.queues.queue))
restored_at e (cookie_wait my) state o is turn = absurd (cc)
restored_at e (cookie_echoed my held cookie) state o is turn = absurd (cc)
restored_at e (open_in phase my held) state o is turn = absurd (cc)

pub restored_sockets_begin_nothing : RestoredSocketsBeginNothing
restored_sockets_begin_nothing e state restored flushed is turn flush =
    flushed_by restored.after flushed (held_by_core restored.after.core) flush.0 flush.1 flush.2 (restored_at e e.core state restored is turn)
