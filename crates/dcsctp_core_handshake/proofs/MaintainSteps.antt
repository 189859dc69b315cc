-- The steps for an existing association that is kept: it is established if its COOKIE ACK is awaited, and a flush follows.
use Rattle.std.proofs.Common.{◌≡◌, ℕ, Option, Some, List, [], ◌∷◌, ◌++◌, refl, sym, ap, subst, ◌∙◌}
use Rattle.std.proofs.lemmas.List.{append-nil}
use Rattle.rand_core.specs.Stream.{Stream}
use Rattle.dcsctp_core.specs.types.declared.association.Pair.{Pair}
use Rattle.dcsctp_core.specs.types.declared.association.Held.{Held}
use Rattle.dcsctp_core.specs.types.Settings.{ports_of}
use Rattle.dcsctp_core.specs.spec.endpoint.Event.{Event, connected}
use Rattle.dcsctp_core.specs.spec.endpoint.Endpoint.{Endpoint, Core, cookie_echoed, open_in, OpenPhase, held_by_core}
use Rattle.dcsctp_core.specs.spec.endpoint.Outcome.{Outcome, with_effects_first, still}
use Rattle.dcsctp_core.specs.spec.association.Effect.{connects, identity_of}
use Rattle.dcsctp_core.specs.spec.endpoint.DataOutcomes.{flush_to_peer, AnswersTo}
use Rattle.dcsctp_core.specs.spec.endpoint.FlushOutcomes.{Answer, first_ask, draft_to, flush_of, flush_answered, packets_allowed}
use Rattle.dcsctp_core.specs.spec.endpoint.HandshakeOutcomes.{connected_after, cookie_ack_with_flush, CookieAckAnswers}
use Rattle.dcsctp_core.proofs.spec_lemmas.AnswerLemmas.{any_answers}
use Rattle.dcsctp_core.specs.api.declared.events.SocketEvent.{SocketEvent}
use Rattle.dcsctp_core.specs.api.declared.events.SocketEvent.TheVariants.{OnConnected}
use Rattle.dcsctp_core.specs.declared.context.Context.{Context}
use Rattle.dcsctp_core.specs.declared.state.State.{State}
use Rattle.dcsctp_core.specs.declared.state.CookieEchoState.{CookieEchoState}
use Rattle.dcsctp_core.specs.declared.state.State.TheVariants.{CookieEchoed}
use Rattle.dcsctp_core.specs.View.{View, Moves, CutsTurn, held_of, view_of, endpoint_of, begun_heartbeats, established_from}
use Rattle.dcsctp_core.specs.Handling.{TakesPossibleTurn, CutsSomeTurn, SendsQueued}
use Rattle.dcsctp_core.proofs.Composing.{behind, moves_behind, cut_behind, moves_noting, cut_noting, cut_first, added_one}
use Rattle.dcsctp_core.proofs.Moving.{moves_still}
use Rattle.dcsctp_core_handshake.specs.Handshake.{ReceivesCookieAck}
use Rattle.dcsctp_core_handshake.specs.Echoes.{cookie_ack_to, acknowledgement_with_flush, AcknowledgesEcho, maintained_with_flush, MaintainedAnswers, MaintainsAssociation}
use Rattle.dcsctp_core_handshake.proofs.AssociationSteps.{AcknowledgedThere, there}

-- the view once the association is established, and OnConnected was added
pub record IsConnected {R : Type 0} (old : View R) (mine : Pair) (held : Held) (mid : View R) : Type 0 where
  pub endpoint : mid.endpoint ≡ connected_after old.endpoint mine held
  pub events : mid.events ≡ old.events ++ connected ∷ []
  pub words : mid.words ≡ old.words
  pub pairs : mid.pairs ≡ old.pairs
  pub generator : mid.generator ≡ old.generator

connected_endpoint : {R : Type 0} (old : Context R) (events : List SocketEvent) (state : State) (echoed : CookieEchoState) → old.state ≡ CookieEchoed echoed → state ≡ established_from old.state
    → begun_heartbeats (endpoint_of (record old { events = events; state = state })) ≡ connected_after (endpoint_of old) echoed.tcb.my (held_of echoed.tcb)
connected_endpoint old events state echoed was is =
    ap (λ (s : State). begun_heartbeats (endpoint_of (record old { events = events; state = s }))) is
    ∙ subst (λ (s : State). begun_heartbeats (endpoint_of (record old { events = events; state = established_from s })) ≡ connected_after (endpoint_of (record old { state = s })) echoed.tcb.my (held_of echoed.tcb)) (sym was) refl

pub connected_view : {R : Type 0} (old : Context R) (events : List SocketEvent) (state : State) (echoed : CookieEchoState) (mid : View R) → old.state ≡ CookieEchoed echoed
    → events ≡ old.events ++ OnConnected ∷ [] → state ≡ established_from old.state
    → mid ≡ record (view_of (record old { events = events; state = state })) { endpoint = begun_heartbeats (endpoint_of (record old { events = events; state = state })) }
    → IsConnected (view_of old) echoed.tcb.my (held_of echoed.tcb) mid
connected_view {R = R} old events state echoed mid was added is made =
    record {
      endpoint = ap (λ (v : View R). v.endpoint) made ∙ connected_endpoint old events state echoed was is;
      events = ap (λ (v : View R). v.events) made ∙ added_one old.events events OnConnected added;
      words = ap (λ (v : View R). v.words) made;
      pairs = ap (λ (v : View R). v.pairs) made;
      generator = ap (λ (v : View R). v.generator) made;
    }

-- a turn after that
connects_behind : {R : Type 0} (stream : R → Stream) (old mid new : View R) (mine : Pair) (held : Held) (o : Outcome) → IsConnected old mine held mid
    → Moves stream mid o new → Moves stream old (with_effects_first (connects (identity_of mine held) ∷ []) (behind [] (connected ∷ []) o)) new
connects_behind {R = R} stream old mid new mine held o c m =
    moves_noting stream old new (connects (identity_of mine held) ∷ []) (behind [] (connected ∷ []) o) refl
    (moves_behind stream old mid new [] (connected ∷ []) o (record { ports = ap (λ (e : Endpoint). ports_of e.options) c.endpoint; events = c.events })
    (record { words = c.words ∙ sym (append-nil old.words); pairs = c.pairs; drawn = ap stream c.generator }) m)

connects_cut : {R : Type 0} (old mid : View R) (es : List (Event (List ℕ))) (mine : Pair) (held : Held) (o : Outcome) → IsConnected old mine held mid
    → CutsTurn mid o es → CutsTurn old (with_effects_first (connects (identity_of mine held) ∷ []) (behind [] (connected ∷ []) o)) es
connects_cut old mid es mine held o c cut =
    cut_noting old (connects (identity_of mine held) ∷ []) (behind [] (connected ∷ []) o) es
    (cut_behind old mid [] (connected ∷ []) o es (record { ports = ap (λ (e : Endpoint). ports_of e.options) c.endpoint; events = c.events }) cut)

-- ---- COOKIE ACK came

-- the flush there
pub record FlushedThere (e : Endpoint) (answers : List Answer) (held : Held) (o : Outcome) : Type 0 where
  pub allowed : AnswersTo e (Some held) answers
  pub is : o ≡ flush_of e (draft_to held) answers

flushed_there : {R : Type 0} (mid : View R) (e : Endpoint) (held : Held) (o : Outcome) (turn : SendsQueued mid o) → mid.endpoint ≡ e → held_by_core e.core ≡ Some held → FlushedThere e turn.0 held o
flushed_there mid e held o turn here holds =
    let answers : List Answer = turn.0 in
    record {
      allowed = subst (λ (peer : Option Held). AnswersTo e peer answers) holds (subst (λ (x : Endpoint). AnswersTo x (held_by_core x.core) answers) here turn.1);
      is = turn.2 ∙ ap (λ (x : Endpoint). flush_to_peer x (held_by_core x.core) answers) here ∙ ap (λ (peer : Option Held). flush_to_peer e peer answers) holds;
    }

-- the turn, by its answers, where a COOKIE ACK is awaited
ack_turn : (e : Endpoint) (mine : Pair) (held : Held) (cookie : List ℕ) (answers : List Answer) → e.core ≡ cookie_echoed mine held cookie
    → AnswersTo (connected_after e mine held) (Some held) answers
    → CookieAckAnswers e e.core answers × (cookie_ack_with_flush (flush_answered answers) e (cookie_echoed mine held cookie) ≡ cookie_ack_with_flush (flush_answered answers) e e.core)
ack_turn e mine held cookie answers is allowed = (
  subst (λ (core : Core). CookieAckAnswers e core answers) (sym is) allowed,
  ap (cookie_ack_with_flush (flush_answered answers) e) (sym is),
)

pub cookie_acked : {R : Type 0} (stream : R → Stream) (old mid new : View R) (mine : Pair) (held : Held) (cookie : List ℕ) → old.endpoint.core ≡ cookie_echoed mine held cookie
    → IsConnected old mine held mid → TakesPossibleTurn stream SendsQueued mid new → TakesPossibleTurn stream ReceivesCookieAck old new
cookie_acked {R = R} stream old mid new mine held cookie is c t =
    let answers : List Answer = t.turn.0 in
    let f : FlushedThere (connected_after old.endpoint mine held) answers held t.outcome = flushed_there mid (connected_after old.endpoint mine held) held t.outcome t.turn c.endpoint refl in
    let turn = ack_turn old.endpoint mine held cookie answers is f.allowed in
    record {
      outcome = cookie_ack_with_flush (flush_answered answers) old.endpoint (cookie_echoed mine held cookie);
      turn = (answers, turn.0, turn.1);
      moves = connects_behind stream old mid new mine held (flush_of (connected_after old.endpoint mine held) (draft_to held) answers) c (subst (λ (o : Outcome). Moves stream mid o new) f.is t.moves);
    }

pub cookie_acked_cut : {R : Type 0} (old mid : View R) (es : List (Event (List ℕ))) (mine : Pair) (held : Held) (cookie : List ℕ) → old.endpoint.core ≡ cookie_echoed mine held cookie
    → IsConnected old mine held mid → CutsSomeTurn SendsQueued mid es → CutsSomeTurn ReceivesCookieAck old es
cookie_acked_cut {R = R} old mid es mine held cookie is c t =
    let answers : List Answer = t.turn.0 in
    let f : FlushedThere (connected_after old.endpoint mine held) answers held t.outcome = flushed_there mid (connected_after old.endpoint mine held) held t.outcome t.turn c.endpoint refl in
    let turn = ack_turn old.endpoint mine held cookie answers is f.allowed in
    record {
      outcome = cookie_ack_with_flush (flush_answered answers) old.endpoint (cookie_echoed mine held cookie);
      turn = (answers, turn.0, turn.1);
      cut = connects_cut old mid es mine held (flush_of (connected_after old.endpoint mine held) (draft_to held) answers) c (subst (λ (o : Outcome). CutsTurn mid o es) f.is t.cut);
    }

pub cookie_ack_unmade : {R : Type 0} (old : View R) (es : List (Event (List ℕ))) (mine : Pair) (held : Held) (cookie : List ℕ) → old.endpoint.core ≡ cookie_echoed mine held cookie
    → es ≡ old.events → CutsSomeTurn ReceivesCookieAck old es
cookie_ack_unmade old es mine held cookie is same =
    let e : Endpoint = connected_after old.endpoint mine held in
    let some = any_answers first_ask (packets_allowed e.options.max_burst e.core) e (draft_to held) in
    let o : Outcome = cookie_ack_with_flush (flush_answered some.0) old.endpoint (cookie_echoed mine held cookie) in
    let turn = ack_turn old.endpoint mine held cookie some.0 is some.1 in
    record { outcome = o; turn = (some.0, turn.0, turn.1); cut = cut_first old o es same }

-- in another state
pub cookie_ack_none : {R : Type 0} (stream : R → Stream) (view : View R) (core : Core) → view.endpoint.core ≡ core → CookieAckAnswers view.endpoint core []
    → cookie_ack_with_flush (flush_answered []) view.endpoint core ≡ still view.endpoint → TakesPossibleTurn stream ReceivesCookieAck view view
cookie_ack_none stream view core is allowed nothing =
    record {
      outcome = cookie_ack_with_flush (flush_answered []) view.endpoint core;
      turn = ([], subst (λ (c : Core). CookieAckAnswers view.endpoint c []) (sym is) allowed, ap (cookie_ack_with_flush (flush_answered []) view.endpoint) (sym is));
      moves = subst (λ (o : Outcome). Moves stream view o view) (sym nothing) (moves_still stream view);
    }

-- ---- the existing association is acknowledged

maintain_turn : (e : Endpoint) (core : Core) (answers : List Answer) → e.core ≡ core → MaintainedAnswers e core answers
    → MaintainedAnswers e e.core answers × (maintained_with_flush (flush_answered answers) e core ≡ maintained_with_flush (flush_answered answers) e e.core)
maintain_turn e core answers is allowed = (
  subst (λ (c : Core). MaintainedAnswers e c answers) (sym is) allowed,
  ap (maintained_with_flush (flush_answered answers) e) (sym is),
)

pub maintains : {R : Type 0} (stream : R → Stream) (old mid new : View R) (mine : Pair) (held : Held) (cookie : List ℕ) → old.endpoint.core ≡ cookie_echoed mine held cookie
    → IsConnected old mine held mid → TakesPossibleTurn stream AcknowledgesEcho mid new → TakesPossibleTurn stream MaintainsAssociation old new
maintains {R = R} stream old mid new mine held cookie is c t =
    let e : Endpoint = connected_after old.endpoint mine held in
    let answers : List Answer = t.turn.0 in
    let a : AcknowledgedThere e answers held t.outcome = there mid e held t.outcome t.turn c.endpoint refl in
    let turn = maintain_turn old.endpoint (cookie_echoed mine held cookie) answers is a.allowed in
    record {
      outcome = maintained_with_flush (flush_answered answers) old.endpoint (cookie_echoed mine held cookie);
      turn = (answers, turn.0, turn.1);
      moves = connects_behind stream old mid new mine held (acknowledgement_with_flush (flush_answered answers) e held []) c (subst (λ (o : Outcome). Moves stream mid o new) a.is t.moves);
    }

pub maintains_cut : {R : Type 0} (old mid : View R) (es : List (Event (List ℕ))) (mine : Pair) (held : Held) (cookie : List ℕ) → old.endpoint.core ≡ cookie_echoed mine held cookie
    → IsConnected old mine held mid → CutsSomeTurn AcknowledgesEcho mid es → CutsSomeTurn MaintainsAssociation old es
maintains_cut {R = R} old mid es mine held cookie is c t =
    let e : Endpoint = connected_after old.endpoint mine held in
    let answers : List Answer = t.turn.0 in
    let a : AcknowledgedThere e answers held t.outcome = there mid e held t.outcome t.turn c.endpoint refl in
    let turn = maintain_turn old.endpoint (cookie_echoed mine held cookie) answers is a.allowed in
    record {
      outcome = maintained_with_flush (flush_answered answers) old.endpoint (cookie_echoed mine held cookie);
      turn = (answers, turn.0, turn.1);
      cut = connects_cut old mid es mine held (acknowledgement_with_flush (flush_answered answers) e held []) c (subst (λ (o : Outcome). CutsTurn mid o es) a.is t.cut);
    }

pub maintain_unmade : {R : Type 0} (old : View R) (es : List (Event (List ℕ))) (mine : Pair) (held : Held) (cookie : List ℕ) → old.endpoint.core ≡ cookie_echoed mine held cookie
    → es ≡ old.events → CutsSomeTurn MaintainsAssociation old es
maintain_unmade old es mine held cookie is same =
    let e : Endpoint = connected_after old.endpoint mine held in
    let some = any_answers first_ask (packets_allowed e.options.max_burst e.core) e (cookie_ack_to held) in
    let o : Outcome = maintained_with_flush (flush_answered some.0) old.endpoint (cookie_echoed mine held cookie) in
    let turn = maintain_turn old.endpoint (cookie_echoed mine held cookie) some.0 is some.1 in
    record { outcome = o; turn = (some.0, turn.0, turn.1); cut = cut_first old o es same }

-- where it is established
pub maintains_open : {R : Type 0} (stream : R → Stream) (old new : View R) (phase : OpenPhase) (mine : Pair) (held : Held) → old.endpoint.core ≡ open_in phase mine held
    → TakesPossibleTurn stream AcknowledgesEcho old new → TakesPossibleTurn stream MaintainsAssociation old new
maintains_open {R = R} stream old new phase mine held is t =
    let answers : List Answer = t.turn.0 in
    let a : AcknowledgedThere old.endpoint answers held t.outcome = there old old.endpoint held t.outcome t.turn refl (ap held_by_core is) in
    let turn = maintain_turn old.endpoint (open_in phase mine held) answers is a.allowed in
    record { outcome = acknowledgement_with_flush (flush_answered answers) old.endpoint held []; turn = (answers, turn.0, turn.1); moves = subst (λ (o : Outcome). Moves stream old o new) a.is t.moves }

pub maintains_open_cut : {R : Type 0} (old : View R) (es : List (Event (List ℕ))) (phase : OpenPhase) (mine : Pair) (held : Held) → old.endpoint.core ≡ open_in phase mine held
    → CutsSomeTurn AcknowledgesEcho old es → CutsSomeTurn MaintainsAssociation old es
maintains_open_cut {R = R} old es phase mine held is t =
    let answers : List Answer = t.turn.0 in
    let a : AcknowledgedThere old.endpoint answers held t.outcome = there old old.endpoint held t.outcome t.turn refl (ap held_by_core is) in
    let turn = maintain_turn old.endpoint (open_in phase mine held) answers is a.allowed in
    record { outcome = acknowledgement_with_flush (flush_answered answers) old.endpoint held []; turn = (answers, turn.0, turn.1); cut = subst (λ (o : Outcome). CutsTurn old o es) a.is t.cut }

-- without a peer
pub maintains_none : {R : Type 0} (stream : R → Stream) (view : View R) (core : Core) → view.endpoint.core ≡ core → MaintainedAnswers view.endpoint core []
    → maintained_with_flush (flush_answered []) view.endpoint core ≡ still view.endpoint → TakesPossibleTurn stream MaintainsAssociation view view
maintains_none stream view core is allowed nothing =
    let turn = maintain_turn view.endpoint core [] is allowed in
    record {
      outcome = maintained_with_flush (flush_answered []) view.endpoint core;
      turn = ([], turn.0, turn.1);
      moves = subst (λ (o : Outcome). Moves stream view o view) (sym nothing) (moves_still stream view);
    }
