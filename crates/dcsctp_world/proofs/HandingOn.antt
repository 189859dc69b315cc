-- A socket that is handed over, and restored from its snapshot, has the turns of both.
use Rattle.std.proofs.Common.{◌≡◌, ◌≢◌, ℕ, zero, suc, Bool, true, false, Result, Ok, Err, List, [], ◌∷◌, ◌++◌, map, refl, sym, ap, subst, ◌∙◌, append_assoc}
use Rattle.std.proofs.lemmas.List.{map-append}
use Rattle.dcsctp_core.specs.types.declared.association.Pair.{Pair}
use Rattle.dcsctp_core.specs.types.declared.word.Word.{Word}
use Rattle.dcsctp_core.specs.types.declared.options.Options.{Options}
use Rattle.dcsctp_core.specs.spec.endpoint.Endpoint.{Endpoint, Core, closed, cookie_wait, cookie_echoed, open_in, established, shutdown_pending, shutdown_sent, shutdown_received, shutdown_ack_sent}
use Rattle.dcsctp_core.specs.spec.endpoint.Event.{Event}
use Rattle.dcsctp_core.specs.spec.Packet.{Emission}
use Rattle.dcsctp_core.specs.spec.Handover.{readiness_of, readiness_by_core}
use Rattle.dcsctp_core.specs.spec.endpoint.Outcome.{Outcome}
use Rattle.dcsctp_core.specs.types.Settings.{ports_of}
use Rattle.dcsctp_core.specs.types.Snapshot.{Snapshot, is_valid_snapshot}
use Rattle.dcsctp_core.specs.spec.SocketSnapshot.{snapshot_of}
use Rattle.dcsctp_core.specs.spec.endpoint.Turn.{act_input}
use Rattle.dcsctp_core.specs.spec.association.Acts.{hands_over}
use Rattle.dcsctp_core.specs.spec.association.Effect.{drawn_pairs}
use Rattle.dcsctp_core.specs.spec.endpoint.CallTurns.{Transition, IsTurn, Turns, after_all, words_of, effects_of, pairs_of, events_of}
use Rattle.dcsctp_core.specs.spec.HandoverInputs.{inputs_of_handover, inputs_of_restore}
use Rattle.dcsctp_spec_runs.specs.Sockets.{inputs_where_valid, inputs_of_both}
use Rattle.dcsctp_core.specs.spec.endpoint.HandoverOutcomes.{hand_over_outcome}
use Rattle.rand_core.specs.Stream.{Stream}
use Rattle.dcsctp_core.proofs.spec_lemmas.TurnLists.{drawn_pairs-append, events_of-append, words_of-append}
use Rattle.dcsctp_core.proofs.Moving.{DrawsWords-append}
use Rattle.dcsctp_core.specs.api.declared.errors.SocketFault.{SocketFault}
use Rattle.dcsctp_core.specs.api.declared.errors.SocketFault.TheVariants.{OutOfMemory, Failed}
use Rattle.dcsctp_core.specs.api.Calls.{UserView, DrawsWords, Follows, user_event}
use Rattle.dcsctp_core.specs.api.declared.errors.HandoverError.{HandoverError}
use Rattle.dcsctp_core.specs.api.declared.errors.HandoverError.TheVariants.{NotReady}
use Rattle.dcsctp_core.specs.api.declared.errors.RestoreError.TheVariants.{SocketNotClosed}
use Rattle.dcsctp_core.specs.api.declared.errors.RestoreError.{RestoreError}
use Rattle.dcsctp_core.specs.api.Handover.{IsHandoverAnswer, RestoresSocket}
use Rattle.dcsctp_world.specs.declared.act.Reply.{Reply}
use Rattle.dcsctp_world.specs.declared.act.Reply.TheVariants.{NoCall, Done, Sent, SentMany, Reset, Taken, HandedOver, Restored}
use Rattle.dcsctp_world.specs.Growth.{MakesUserCall, HandlesAct, IsHandedOn, IsRestoreReply}
use Rattle.dcsctp_world.specs.Shown.{ShownSide}
use Rattle.dcsctp_world.specs.Outside.{OutsideHandoverTurns, IsHandoverReply, ValidTurns, IsRestoredReply}
use Rattle.dcsctp_world.proofs.Stopping.{grows_by_nothing}

-- ---- what the handover leaves

-- The socket is closed, its options are as they were, and no word was drawn.
record LeavesClosed (e : Endpoint) (o : Outcome) : Type 0 where
  core : o.after.core ≡ closed
  options : o.after.options ≡ e.options
  words : o.words ≡ []
  pairs : drawn_pairs o.effects ≡ []

ready_leaves_closed : (e : Endpoint) (core : Core) → e.core ≡ core → readiness_by_core e core ≡ 0 → LeavesClosed e (hand_over_outcome e core)
ready_leaves_closed e closed is ready = record { core = is; options = refl; words = refl; pairs = refl }
ready_leaves_closed e (cookie_wait my) is ready = absurd (cc)
ready_leaves_closed e (cookie_echoed my held cookie) is ready = absurd (cc)
ready_leaves_closed e (open_in established my held) is ready = record { core = refl; options = refl; words = refl; pairs = refl }
ready_leaves_closed e (open_in shutdown_pending my held) is ready = absurd (cc)
ready_leaves_closed e (open_in shutdown_sent my held) is ready = absurd (cc)
ready_leaves_closed e (open_in shutdown_received my held) is ready = absurd (cc)
ready_leaves_closed e (open_in shutdown_ack_sent my held) is ready = absurd (cc)

-- ---- two calls as one

-- the turn of the first, and the turns of the second
follows_both : (old mid new : UserView) (t : Transition) (ts : List Transition) → t.outcome.words ≡ [] → drawn_pairs t.outcome.effects ≡ []
    → mid.endpoint.options ≡ old.endpoint.options → Follows old (t ∷ []) mid → Follows mid ts new → Follows old (t ∷ ts) new
follows_both old mid new t ts words pairs options first second =
    let shown : Event Emission → Event (List ℕ) = user_event (ports_of old.endpoint.options) in
    record {
      runs = first.runs;
      goes_on = second.goes_on;
      endpoint = second.endpoint ∙ ap (λ (e : Endpoint). after_all e ts) first.endpoint;
      events = second.events
          ∙ ap (λ (o : Options). mid.events ++ map (user_event (ports_of o)) (events_of ts)) options
          ∙ ap (λ (es : List (Event (List ℕ))). es ++ map shown (events_of ts)) first.events
          ∙ append_assoc old.events (map shown (events_of (t ∷ []))) (map shown (events_of ts))
          ∙ ap (λ (es : List (Event (List ℕ))). old.events ++ es) (sym (map-append shown (events_of (t ∷ [])) (events_of ts)) ∙ ap (map shown) (sym (events_of-append (t ∷ []) ts)));
      words = second.words ∙ ap (λ (ws : List Word). ws ++ words_of ts) (sym words);
      pairs = second.pairs ∙ ap (λ (ps : List Pair). ps ++ pairs_of ts) (sym pairs) ∙ sym (drawn_pairs-append t.outcome.effects (effects_of ts));
      drawn = subst (λ (ws : List Word). DrawsWords old.generator ws new.generator) (sym (words_of-append (t ∷ []) ts))
          (DrawsWords-append old.generator mid.generator new.generator (words_of (t ∷ [])) (words_of ts) first.drawn second.drawn);
    }

-- a socket that was handed over: its turn, and what it leaves
record Left (old mid : UserView) : Type 0 where
  turn : Transition
  comes : IsTurn old.endpoint (act_input hands_over) turn
  follows : Follows old (turn ∷ []) mid
  words : turn.outcome.words ≡ []
  pairs : drawn_pairs turn.outcome.effects ≡ []
  core : mid.endpoint.core ≡ closed
  options : mid.endpoint.options ≡ old.endpoint.options

handed_by : (old mid : UserView) (t : Transition) → readiness_of old.endpoint ≡ 0 → IsTurn old.endpoint (act_input hands_over) t → Follows old (t ∷ []) mid → Left old mid
handed_by old mid t ready comes follows =
    let left : LeavesClosed old.endpoint t.outcome = subst (LeavesClosed old.endpoint) (sym comes.comes) (ready_leaves_closed old.endpoint old.endpoint.core refl ready) in
    record {
      turn = t;
      comes = comes;
      follows = follows;
      words = left.words;
      pairs = left.pairs;
      core = ap (λ (e : Endpoint). e.core) follows.endpoint ∙ left.core;
      options = ap (λ (e : Endpoint). e.options) follows.endpoint ∙ left.options;
    }

handed_over : (old mid : UserView) (readiness : ℕ) (turns : List Transition) → readiness_of old.endpoint ≡ 0 → readiness ≡ 0
    → Turns old.endpoint (inputs_of_handover readiness) turns → Follows old turns mid → Left old mid
handed_over old mid zero [] ready is are follows = absurd are
handed_over old mid zero (t ∷ []) ready is are follows = handed_by old mid t ready are.0 follows
handed_over old mid zero (t ∷ next ∷ turns) ready is are follows = absurd are.1
handed_over old mid (suc reasons) turns ready is are follows = absurd (cc)

-- ---- the answers

-- both took place
turns_of_both : (old mid : UserView) (h : Left old mid) (state : Snapshot) (ts : List Transition) → ValidTurns mid.endpoint state ts → is_valid_snapshot mid.endpoint.options state ≡ true
    → Turns old.endpoint (inputs_of_both 0 state) (h.turn ∷ ts)
turns_of_both old mid h state ts are valid =
    let from_mid : Turns mid.endpoint (inputs_where_valid true mid.endpoint.core state) ts = subst (λ (b : Bool). Turns mid.endpoint (inputs_where_valid b mid.endpoint.core state) ts) valid are in
    let from_closed : Turns mid.endpoint (inputs_of_restore closed state) ts = subst (λ (c : Core). Turns mid.endpoint (inputs_of_restore c state) ts) h.core from_mid in
    (h.comes, subst (λ (e : Endpoint). Turns e (inputs_of_restore closed state) ts) h.follows.endpoint from_closed)

-- what a closed socket answers
answer_of : (answer : Reply) → IsRestoreReply true closed answer → answer ≡ Restored (Ok tt)
answer_of NoCall is = absurd is
answer_of Done is = absurd is
answer_of (Sent result) is = absurd is
answer_of (SentMany result) is = absurd is
answer_of (Reset result) is = absurd is
answer_of (Taken message) is = absurd is
answer_of (HandedOver result) is = absurd is
answer_of (Restored (Ok done)) is = refl
answer_of (Restored (Err SocketNotClosed)) is = absurd (cc)

-- The snapshot is valid for the options of the socket that gave it, and they are as they were.
pub hands_on : (old mid new : UserView) (state : Snapshot) (result : Result Reply SocketFault) (turns : List Transition)
    → readiness_of old.endpoint ≡ 0 → state ≡ snapshot_of old.endpoint → is_valid_snapshot mid.endpoint.options state ≡ true
    → Turns old.endpoint (inputs_of_handover (readiness_of old.endpoint)) turns → Follows old turns mid
    → MakesUserCall (ValidTurns mid.endpoint state) (IsRestoredReply mid.endpoint state) mid result new
    → MakesUserCall (OutsideHandoverTurns old.endpoint) (IsHandoverReply old.endpoint) old result new
hands_on old mid new state (Ok answer) turns ready same valid are follows made =
    let h : Left old mid = handed_over old mid (readiness_of old.endpoint) turns ready ready are follows in
    let at_mid : IsRestoreReply true mid.endpoint.core answer = subst (λ (b : Bool). IsRestoreReply b mid.endpoint.core answer) valid made.answers.0 in
    let is : answer ≡ Restored (Ok tt) = answer_of answer (subst (λ (c : Core). IsRestoreReply true c answer) h.core at_mid) in
    let turned : Turns old.endpoint (inputs_of_both 0 (snapshot_of old.endpoint)) (h.turn ∷ made.turns) =
    subst (λ (s : Snapshot). Turns old.endpoint (inputs_of_both 0 s) (h.turn ∷ made.turns)) same (turns_of_both old mid h state made.turns made.are valid) in
    record {
      answers = (subst (λ (n : ℕ). IsHandedOn n old.endpoint answer) (sym ready) is, made.answers.1);
      turns = h.turn ∷ made.turns;
      are = subst (λ (n : ℕ). Turns old.endpoint (inputs_of_both n (snapshot_of old.endpoint)) (h.turn ∷ made.turns)) (sym ready) turned;
      follows = follows_both old mid new h.turn made.turns h.words h.pairs h.options h.follows made.follows;
    }
hands_on old mid new state (Err OutOfMemory) turns ready same valid are follows made = follows.runs
hands_on old mid new state (Err Failed) turns ready same valid are follows made = let runs : mid.failed ≡ false = follows.goes_on in let failed : mid.failed ≡ true = made.had_failed in absurd (cc)

-- The options stay, so the snapshot is valid where it is restored.
pub valid_there : (old mid : UserView) (state : Snapshot) (turns : List Transition) → readiness_of old.endpoint ≡ 0 → is_valid_snapshot old.endpoint.options state ≡ true
    → Turns old.endpoint (inputs_of_handover (readiness_of old.endpoint)) turns → Follows old turns mid → is_valid_snapshot mid.endpoint.options state ≡ true
valid_there old mid state turns ready valid are follows =
    let h : Left old mid = handed_over old mid (readiness_of old.endpoint) turns ready ready are follows in
    subst (λ (p : Options). is_valid_snapshot p state ≡ true) (sym h.options) valid

-- one that isn't ready
is_not_ready : (e : Endpoint) (error : HandoverError) → IsHandoverAnswer e (Err error) → readiness_of e ≢ 0
is_not_ready e (NotReady readiness) is = is.0

refused_at : (e : Endpoint) (readiness : ℕ) (turns : List Transition) (state : Snapshot) → readiness ≢ 0 → Turns e (inputs_of_handover readiness) turns
    → Turns e (inputs_of_both readiness state) turns
refused_at e zero turns state some are = absurd (some refl)
refused_at e (suc reasons) turns state some are = are

refused_reply : (e : Endpoint) (readiness : ℕ) (error : HandoverError) → readiness ≢ 0 → IsHandoverAnswer e (Err error) → IsHandedOn readiness e (HandedOver (Err error))
refused_reply e zero error some is = absurd (some refl)
refused_reply e (suc reasons) error some is = is

pub hand_over_refused : (old new : UserView) (error : HandoverError) (turns : List Transition) → IsHandoverAnswer old.endpoint (Err error)
    → Turns old.endpoint (inputs_of_handover (readiness_of old.endpoint)) turns → Follows old turns new
    → MakesUserCall (OutsideHandoverTurns old.endpoint) (IsHandoverReply old.endpoint) old (Ok (HandedOver (Err error))) new
hand_over_refused old new error turns is are follows =
    let some : readiness_of old.endpoint ≢ 0 = is_not_ready old.endpoint error is in
    record {
      answers = (refused_reply old.endpoint (readiness_of old.endpoint) error some is, tt);
      turns = turns;
      are = refused_at old.endpoint (readiness_of old.endpoint) turns (snapshot_of old.endpoint) some are;
      follows = follows;
    }

-- ---- a restore alone

pub restore_called : (old new : UserView) (state : Snapshot) (answer : Result (Unit {0}) RestoreError) → is_valid_snapshot old.endpoint.options state ≡ true
    → RestoresSocket state old (Ok answer) new → MakesUserCall (ValidTurns old.endpoint state) (IsRestoredReply old.endpoint state) old (Ok (Restored answer)) new
restore_called old new state answer valid made =
    record {
      answers = (subst (λ (b : Bool). IsRestoreReply b old.endpoint.core (Restored answer)) (sym valid) made.answers, tt);
      turns = made.turns;
      are = subst (λ (b : Bool). Turns old.endpoint (inputs_where_valid b old.endpoint.core state) made.turns) (sym valid) made.are;
      follows = made.follows;
    }

-- a snapshot that isn't valid
pub not_restored_by : {R : Type 0} (stream : R → Stream) (old : ShownSide R) (state : Snapshot) → is_valid_snapshot old.socket.view.endpoint.options state ≡ false
    → old.socket.view.events ≡ []
    → HandlesAct stream (ValidTurns old.socket.view.endpoint state) (IsRestoredReply old.socket.view.endpoint state) old (Ok NoCall) old
not_restored_by {R} stream old state invalid waiting =
    let e : Endpoint = old.socket.view.endpoint in
    let Restoring : Bool → Type 0 = λ is_valid.
    HandlesAct stream (λ (ts : List Transition). Turns e (inputs_where_valid is_valid e.core state) ts) (λ (reply : Reply). IsRestoreReply is_valid e.core reply) old (Ok NoCall) old in
    subst Restoring (sym invalid) (refl, grows_by_nothing stream _ old tt waiting)
