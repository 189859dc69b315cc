-- A restore brings back what the snapshot has of the association.
use Rattle.std.proofs.Common.{◌≡◌, ℕ, zero, suc, Bool, true, false, Option, None, Some, Ok, List, [], ◌∷◌, map, refl, sym, subst, ap, ◌∙◌}
use Rattle.rand_core.specs.Stream.{Stream}
use Rattle.dcsctp_core.specs.spec.Soundness.{UsesOwnMethod, IsSoundCore, IsSound}
use Rattle.dcsctp_spec_runs.specs.SoundRuns.{SocketsStaySound}
use Rattle.dcsctp_core.specs.types.declared.association.Held.{Held}
use Rattle.dcsctp_core.specs.types.declared.association.Pair.{Pair}
use Rattle.dcsctp_core.specs.types.declared.options.Options.{Options}
use Rattle.dcsctp_core.specs.types.declared.snapshot.HandoverSocketState.{HandoverSocketState}
use Rattle.dcsctp_core.specs.types.declared.snapshot.HandoverSocketState.TheVariants as states
use Rattle.dcsctp_core.specs.spec.endpoint.Endpoint.{Endpoint, Core, closed, cookie_wait, cookie_echoed, open_in, established, held_by_core}
use Rattle.dcsctp_core.specs.spec.endpoint.Event.{Event}
use Rattle.dcsctp_core.specs.spec.Packet.{Content, Emission}
use Rattle.dcsctp_core.specs.spec.endpoint.Outcome.{Outcome}
use Rattle.dcsctp_core.specs.types.Snapshot.{Snapshot}
use Rattle.dcsctp_core.specs.spec.SocketSnapshot.{connected_snapshot, snapshot_by_core, snapshot_of}
use Rattle.dcsctp_core.specs.spec.endpoint.Turn.{act_input}
use Rattle.dcsctp_core.specs.spec.association.Acts.{hands_over}
use Rattle.dcsctp_core.specs.spec.endpoint.CallTurns.{Transition, Turns, after_all}
use Rattle.dcsctp_core.specs.types.declared.schedule.Side.{Side}
use Rattle.dcsctp_core.specs.types.declared.schedule.Side.TheVariants as sides
use Rattle.dcsctp_core.specs.spec.Handover.{readiness_of}
use Rattle.dcsctp_core.specs.types.Schedule.{OutsideContent, input_outside, handover_outside, restore_outside, ActContent, step_act, outside_act}
use Rattle.dcsctp_core.specs.types.Snapshot.{is_valid_snapshot}
use Rattle.dcsctp_core.specs.spec.HandoverInputs.{inputs_of_snapshot}
use Rattle.dcsctp_spec_runs.specs.Sockets.{inputs_where_valid, inputs_of_both, Both, of_side, of_other, side_of_outside, side_of_act, TurnsOfAct}
use Rattle.dcsctp_core.specs.api.Calls.{is_closed}
use Rattle.dcsctp_world.specs.declared.act.Reply.{Reply}
use Rattle.dcsctp_world.specs.declared.act.Reply.TheVariants.{Restored}
use Rattle.dcsctp_world.specs.Acts.{AppliesAct, with_associations}
use Rattle.dcsctp_world.specs.Growth.{IsReply, IsRestoreReply, IsHandedOver, IsHandedOn}
use Rattle.dcsctp_world.specs.Shown.{ShownSide, WorldView}
use Rattle.dcsctp_core.specs.spec.endpoint.BegunResets.{BegunReset, after_begun}
use Rattle.dcsctp_core.specs.spec.endpoint.DataOutcomes.{FlushTurn, AnswersTo, flush_to_peer}
use Rattle.dcsctp_core.specs.spec.endpoint.FlushOutcomes.{Answer, Ask, AreFlushAnswers, at_limit, at_empty, after_packet, IsFlushAnswer, goes_out, filled_draft, answer_contents, asked_outcome, next_draft, flush_of, draft_to, filling_event}
use Rattle.dcsctp_core.specs.spec.endpoint.HandoverOutcomes.{hand_over_outcome}
use Rattle.dcsctp_core.specs.spec.endpoint.RestoreOutcomes.{own_pair, held_restored, RestoreTurn}
use Rattle.dcsctp_theorem_sockets.specs.Restores.{RestoredSocketsBeginNothing}
use Rattle.dcsctp_theorem_sockets.proofs.SnapshotsBack.{held_is}
use Rattle.dcsctp_world.specs.Returning.{ContinuesFromSnapshot, ResumesEstablished, BringsBackAssociation, BringsBack}
use Rattle.dcsctp_world.specs.Run.{IsRun}

-- ---- a flush keeps the tie tag

goes_out_tie : (e : Endpoint) (told : List (Event Emission)) (with_checksum : Bool) (tag : ℕ) (contents : List Content) → (goes_out e told with_checksum tag contents).after.tie ≡ e.tie
goes_out_tie e told with_checksum tag [] = refl
goes_out_tie e told with_checksum tag (content ∷ contents) = refl

begun_tie : (begun : Option BegunReset) (e : Endpoint) → (after_begun begun e).tie ≡ e.tie
begun_tie None e = refl
begun_tie (Some begun) e = refl

asked_tie : (ask : Ask) (e : Endpoint) (draft : Emission) (answer : Answer) → IsFlushAnswer ask e draft answer → (asked_outcome e draft answer).after.tie ≡ e.tie
asked_tie ask e draft answer h =
    goes_out_tie answer.after (map filling_event answer.told) draft.with_checksum draft.packet.tag (filled_draft draft (answer_contents answer)).packet.contents
    ∙ ap (λ (x : Endpoint). x.tie) h.kept
    ∙ begun_tie answer.begun e

flush_tie : (ask : Ask) (n : ℕ) (e : Endpoint) (draft : Emission) (answers : List Answer) → AreFlushAnswers ask n e draft answers → (flush_of e draft answers).after.tie ≡ e.tie
flush_tie _ _ _ _ _ (at_limit ask e draft) = refl
flush_tie _ _ _ _ _ (at_empty ask more e draft answer is empty) = asked_tie ask e draft answer is
flush_tie _ _ _ _ _ (after_packet ask more e draft answer answers is some rest) =
    flush_tie _ more (asked_outcome e draft answer).after (next_draft e.core draft) answers rest ∙ asked_tie ask e draft answer is

flushed_tie : (e : Endpoint) (o : Outcome) (peer : Option Held) (answers : List Answer) → AnswersTo e peer answers → o ≡ flush_to_peer e peer answers → o.after.tie ≡ e.tie
flushed_tie e o None answers allowed is = ap (λ (x : Outcome). x.after.tie) is
flushed_tie e o (Some held) answers allowed is = ap (λ (x : Outcome). x.after.tie) is ∙ flush_tie _ _ e (draft_to held) answers allowed

-- ---- the two turns

restore_at : (e : Endpoint) (core : Core) (state : Snapshot) (o : Outcome) → core ≡ closed → RestoreTurn e core state o
    → (o.after.core ≡ open_in established (own_pair state) (held_restored e.options state)) × (o.after.tie ≡ state.tie_tag)
restore_at e closed state o is turn = (ap (λ (x : Outcome). x.after.core) turn.2, ap (λ (x : Outcome). x.after.tie) turn.2)
restore_at e (cookie_wait my) state o is turn = absurd (cc)
restore_at e (cookie_echoed my held cookie) state o is turn = absurd (cc)
restore_at e (open_in phase my held) state o is turn = absurd (cc)

-- the turns of a restore from a connected socket's snapshot
pub goes_on_from : RestoredSocketsBeginNothing → (e : Endpoint) (connection : HandoverSocketState) (state : Snapshot) (ts : List Transition) → e.core ≡ closed
    → connection ≡ states.Connected → Turns e (inputs_of_snapshot connection state) ts → ContinuesFromSnapshot e.options state (after_all e ts)
goes_on_from law e states.Closed state ts none is turns = absurd (cc)
goes_on_from law e states.Connected state [] none is turns = absurd turns
goes_on_from law e states.Connected state (t ∷ []) none is turns = absurd turns.1
goes_on_from law e states.Connected state (t ∷ next ∷ []) none is turns =
    let restored = restore_at e e.core state t.outcome none turns.0.comes in
    let flush : FlushTurn t.outcome.after next.outcome = turns.1.0.comes in
    record {
      core = law e state t.outcome next.outcome none turns.0.comes flush ∙ restored.0;
      tie = flushed_tie t.outcome.after next.outcome (held_by_core t.outcome.after.core) flush.0 flush.1 flush.2 ∙ restored.1;
    }
goes_on_from law e states.Connected state (t ∷ next ∷ last ∷ ts) none is turns = absurd turns.1.1

-- ---- its own snapshot

-- what is restored from it
pub goes_on : (old mid new : Endpoint) (my : Pair) (held : Held) → UsesOwnMethod old.options held.capabilities → mid.options ≡ old.options
    → ContinuesFromSnapshot mid.options (connected_snapshot old my held) new → ResumesEstablished old my held new
goes_on old mid new my held method options h =
    record {
      core = h.core
          ∙ ap (λ (p : Options). open_in established my (held_restored p (connected_snapshot old my held))) options
          ∙ ap (λ (k : Held). open_in established my k) (held_is old.options old my held method);
      tie = h.tie;
    }

-- ---- a handover with its restore

left_by : (e : Endpoint) (core : Core) (my : Pair) (held : Held) (o : Outcome) → core ≡ open_in established my held → o ≡ hand_over_outcome e core
    → (o.after.core ≡ closed) × (o.after.options ≡ e.options)
left_by e core my held o is left =
    let ends : o ≡ hand_over_outcome e (open_in established my held) = left ∙ ap (hand_over_outcome e) is in
    (ap (λ (x : Outcome). x.after.core) ends, ap (λ (x : Outcome). x.after.options) ends)

pub handed_on : RestoredSocketsBeginNothing → (e : Endpoint) (my : Pair) (held : Held) (ts : List Transition) → IsSound e → e.core ≡ open_in established my held
    → Turns e (act_input hands_over ∷ inputs_of_snapshot (snapshot_of e).socket_state (snapshot_of e)) ts → ResumesEstablished e my held (after_all e ts)
handed_on law e my held [] sound core turns = absurd turns
handed_on law e my held (t ∷ ts) sound core turns =
    let here : IsSoundCore e.options (open_in established my held) = subst (IsSoundCore e.options) core sound in
    let left = left_by e e.core my held t.outcome core turns.0.comes in
    let own : snapshot_of e ≡ connected_snapshot e my held = ap (snapshot_by_core e) core in
    let rest : Turns t.outcome.after (inputs_of_snapshot states.Connected (connected_snapshot e my held)) ts =
    subst (λ (s : Snapshot). Turns t.outcome.after (inputs_of_snapshot s.socket_state s) ts) own turns.1 in
    goes_on e t.outcome.after (after_all t.outcome.after ts) my held here.1.method left.1
    (goes_on_from law t.outcome.after states.Connected (connected_snapshot e my held) ts left.0 refl rest)

-- ---- an act of a world

not_restored : (core : Core) → is_closed core ≡ false → IsRestoreReply true core (Restored (Ok tt)) → ⊥
not_restored core is_open answer = let closes : is_closed core ≡ true = answer in absurd (cc)

restored_by : RestoredSocketsBeginNothing → (e new : Endpoint) (core : Core) (is_valid : Bool) (state : Snapshot) (reply : Reply) (ts : List Transition) → e.core ≡ core → IsRestoreReply is_valid core reply
    → Turns e (inputs_where_valid is_valid core state) ts → new ≡ after_all e ts → reply ≡ Restored (Ok tt) → state.socket_state ≡ states.Connected → ContinuesFromSnapshot e.options state new
restored_by law e new closed true state reply ts is answer turns after restored connected =
    subst (ContinuesFromSnapshot e.options state) (sym after) (goes_on_from law e state.socket_state state ts is connected turns)
restored_by law e new (cookie_wait my) true state reply ts is answer turns after restored connected = absurd (not_restored (cookie_wait my) refl (subst (IsRestoreReply true (cookie_wait my)) restored answer))
restored_by law e new (cookie_echoed my held cookie) true state reply ts is answer turns after restored connected =
    absurd (not_restored (cookie_echoed my held cookie) refl (subst (IsRestoreReply true (cookie_echoed my held cookie)) restored answer))
restored_by law e new (open_in phase my held) true state reply ts is answer turns after restored connected =
    absurd (not_restored (open_in phase my held) refl (subst (IsRestoreReply true (open_in phase my held)) restored answer))
restored_by law e new core false state reply ts is answer turns after restored connected = absurd (cc)

handed_on_by : RestoredSocketsBeginNothing → (e new : Endpoint) (readiness : ℕ) (reply : Reply) (ts : List Transition) → IsSound e → IsHandedOn readiness e reply
    → Turns e (inputs_of_both readiness (snapshot_of e)) ts → new ≡ after_all e ts → reply ≡ Restored (Ok tt)
    → (my : Pair) (held : Held) → e.core ≡ open_in established my held → ResumesEstablished e my held new
handed_on_by law e new zero reply ts sound answer turns after restored my held core =
    subst (ResumesEstablished e my held) (sym after) (handed_on law e my held ts sound core turns)
handed_on_by law e new (suc reasons) reply ts sound answer turns after restored my held core = absurd (subst (IsHandedOver e) restored answer)

by_act : RestoredSocketsBeginNothing → (e new : Endpoint) (packets : List (List ℕ)) (outside : OutsideContent) (reply : Reply) (ts : List Transition) → IsSound e → IsReply e packets (outside_act outside) reply
    → TurnsOfAct e packets (outside_act outside) ts → new ≡ after_all e ts → BringsBackAssociation outside reply e new
by_act law e new packets (input_outside side bytes) reply ts sound answer turns after = tt
by_act law e new packets (handover_outside side) reply ts sound answer turns after = handed_on_by law e new (readiness_of e) reply ts sound answer turns after
by_act law e new packets (restore_outside side state) reply ts sound answer turns after =
    restored_by law e new e.core (is_valid_snapshot e.options state) state reply ts refl answer turns after

-- No verification tag of either side's association is 0, and its zero checksum method is that of the options or none.
abbrev pub BothSound : {R : Type 0} → WorldView R → Type 0
BothSound world = (side : Side) → IsSound (of_side side world.sides).socket.view.endpoint

-- the endpoint of a side
abbrev EndpointAt : {R : Type 0} → Side → Both (ShownSide R) → Endpoint
EndpointAt side both = (of_side side both).socket.view.endpoint

noted_keeps : {R : Type 0} (side : Side) (both : Both (ShownSide R)) → EndpointAt side (with_associations both) ≡ EndpointAt side both
noted_keeps sides.A both = refl
noted_keeps sides.B both = refl

pub restores_by : {R : Type 0} (stream : R → Stream) → RestoredSocketsBeginNothing → (act : ActContent) (reply : Reply) (old new : WorldView R) → BothSound old → AppliesAct stream act reply old new
    → BringsBack act reply (EndpointAt (side_of_act act) old.sides) (EndpointAt (side_of_act act) new.sides)
restores_by stream law (step_act step) reply old new sound h = tt
restores_by stream law (outside_act outside) reply old new sound h =
    let side : Side = side_of_outside outside in
    let grows = h.moves.grows in
    by_act law (EndpointAt side old.sides) (EndpointAt side new.sides) (of_other side old.sides).packets outside reply grows.turns (sound side) h.moves.reply grows.are
    (ap (λ (both : Both (ShownSide _)). EndpointAt side both) h.sides ∙ noted_keeps side h.moved ∙ grows.endpoint)

-- ---- both sockets of a run

pub both_sound : {R : Type 0} → SocketsStaySound → (options : Both Options) (world : WorldView R) → IsRun options world → BothSound world
both_sound law options world is side = subst IsSound (sym (is.sides side).endpoint) (law options is.steps is.run side)
