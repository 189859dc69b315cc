-- Each turn, as what it does with the peer's requests to reset streams.
use Rattle.std.proofs.Common.{◌≡◌, ℕ, Option, None, Some, List, inl, inr, refl, sym, subst, ap}
use Rattle.dcsctp_spec_lemmas.specs.types.declared.association.Held.{Held}
use Rattle.dcsctp_spec_lemmas.specs.types.declared.association.Pair.{Pair}
use Rattle.dcsctp_spec_lemmas.specs.spec.endpoint.Endpoint.{Endpoint, Core, closed, cookie_wait, cookie_echoed, open_in}
use Rattle.dcsctp_spec_lemmas.specs.spec.endpoint.Outcome.{Outcome}
use Rattle.dcsctp_spec_lemmas.specs.spec.Packet.{Content, init, init_ack, cookie_echo, cookie_ack, re_config, abort, shutdown, shutdown_ack, shutdown_complete, plain}
use Rattle.dcsctp_spec_lemmas.specs.spec.Reconfiguration.{ResetParameter, RequestedReset}
use Rattle.dcsctp_spec_lemmas.specs.spec.endpoint.Turn.{Input, arrival, refusal, packet_begins, chunk_input, packet_ends, act_input, user_sets, user_sends, user_resets, user_takes, timer_expires, time_passes, restores, Turn}
use Rattle.dcsctp_spec_lemmas.specs.spec.association.Effect.{Effect, AssociationIdentity, identity_of, identity_of_core}
use Rattle.dcsctp_spec_lemmas.specs.spec.queues.Transfer.{Transfer}
use Rattle.dcsctp_spec_lemmas.specs.spec.endpoint.ResetOutcomes.{HandlesResets, ResetTurn}
use Rattle.dcsctp_delivery_sockets.specs.turns.Actions.{Collides, content_of_input, IsCalm, IsCall}
use Rattle.dcsctp_delivery_sockets.specs.turns.PeerRequests.{NoneAsked, KnowsPeer, KnowsPeerOfCore, IsPlainRequest, PeerTurns, asks_nothing, begins_anew, PeersTurn, CalmAsksNothing, UnlinkedAsksNothing, EndsAskNothing}
use Rattle.dcsctp_delivery_sockets.proofs.turns.AskedResets.{request_turns}
use Rattle.dcsctp_delivery_sockets.proofs.turns.Outlasts.{other_begun}
use Rattle.dcsctp_delivery_sockets.proofs.turns.PeerRequests.{answers_ask, none_ends}
use Rattle.dcsctp_delivery_sockets.proofs.turns.UnaskedHandshake.{CalmTurns, goes_on, begins, collides}
use Rattle.dcsctp_delivery_sockets.proofs.turns.UnaskedTurns.{calm_turns}
use Rattle.dcsctp_delivery_sockets.proofs.turns.Waiting.{WaitedIn, AsksNothing, as_this, rests}
use Rattle.dcsctp_spec_lemmas.proofs.EarlyLemmas.{content_by}

-- ---- what is handled

-- Is a RE-CONFIG handled?
pub data Handles (input : Input) : Type 0 where
  calmly : IsCalm (content_of_input input) → Handles input
  handles : (tag : ℕ) (parameters : List ResetParameter) → input ≡ chunk_input tag (re_config parameters) → Handles input

content_handles : (tag : ℕ) (content : Content) → Handles (chunk_input tag content)
content_handles tag (re_config parameters) = handles tag parameters refl
content_handles tag (init theirs) = calmly (λ parameters is. absurd (cc))
content_handles tag (init_ack theirs cookie) = calmly (λ parameters is. absurd (cc))
content_handles tag (cookie_echo cookie) = calmly (λ parameters is. absurd (cc))
content_handles tag cookie_ack = calmly (λ parameters is. absurd (cc))
content_handles tag (abort reflected causes) = calmly (λ parameters is. absurd (cc))
content_handles tag (shutdown tsn) = calmly (λ parameters is. absurd (cc))
content_handles tag shutdown_ack = calmly (λ parameters is. absurd (cc))
content_handles tag (shutdown_complete reflected) = calmly (λ parameters is. absurd (cc))
content_handles tag (plain chunk) = calmly (λ parameters is. absurd (cc))

pub input_handles : (input : Input) → Handles input
input_handles (chunk_input tag content) = content_handles tag content
input_handles arrival = calmly (λ parameters is. absurd (cc))
input_handles (refusal text) = calmly (λ parameters is. absurd (cc))
input_handles (packet_begins contents) = calmly (λ parameters is. absurd (cc))
input_handles packet_ends = calmly (λ parameters is. absurd (cc))
input_handles (act_input act) = calmly (λ parameters is. absurd (cc))
input_handles (user_sets setting) = calmly (λ parameters is. absurd (cc))
input_handles (user_sends messages) = calmly (λ parameters is. absurd (cc))
input_handles (user_resets ids) = calmly (λ parameters is. absurd (cc))
input_handles user_takes = calmly (λ parameters is. absurd (cc))
input_handles (timer_expires timer) = calmly (λ parameters is. absurd (cc))
input_handles (time_passes moment) = calmly (λ parameters is. absurd (cc))
input_handles (restores state) = calmly (λ parameters is. absurd (cc))

-- ---- where none is

calm_none : (came : Option Content) (e : Endpoint) (o : Outcome) → CalmTurns came e o → NoneAsked o.effects
calm_none came e o (goes_on asks) = asks.none
calm_none came e o (begins begun opening linked asks) = asks.none
calm_none came e o (collides collision asks) = asks.none

pub calm_asks_nothing : CalmAsksNothing
calm_asks_nothing e input o calm may turn = calm_none (content_of_input input) e o (calm_turns e input o calm may turn)

-- ---- in an association

-- Where both ends began at the same time, nothing waits for a reset.
kept_waits : {came : Option Content} {e : Endpoint} {o : Outcome} (collision : Collides came e o) (left : Transfer) → WaitedIn (Some collision.kept) left → left.reassembly.deferral ≡ None
kept_waits collision left waits = (let same = collision.kept_is.2 in subst (λ (t : Transfer). WaitedIn (Some t) left) same waits)

calm_peer : (link : AssociationIdentity) (past : List Effect) (e : Endpoint) (input : Input) (o : Outcome) (transfer left : Transfer) → e.queues.transfer ≡ Some transfer → o.after.queues.transfer ≡ Some left → CalmTurns (content_of_input input) e o
    → PeerTurns link past e input o transfer.reassembly.deferral left.reassembly.deferral
calm_peer link past e input o transfer left known at (goes_on asks) = asks_nothing asks.none (subst (λ (t : Option Transfer). WaitedIn t left) known (asks.waits left at))
calm_peer link past e input o transfer left known at (begins begun opening linked asks) = begins_anew begun opening linked asks.none (asks.waits left at)
calm_peer link past e input o transfer left known at (collides collision asks) = begins_anew (other_begun e input o collision) collision.opened.opening collision.opened.linked asks.none (kept_waits collision left (asks.waits left at))

works_peer : (link : AssociationIdentity) (past : List Effect) (e : Endpoint) (tag : ℕ) (my : Pair) (held : Held) (parameters : List ResetParameter) (o : Outcome) (transfer left : Transfer) → KnowsPeer past held → link ≡ identity_of my held
    → IsPlainRequest (Some (re_config parameters)) → e.queues.transfer ≡ Some transfer → o.after.queues.transfer ≡ Some left → HandlesResets e my held parameters o
    → PeerTurns link past e (chunk_input tag (re_config parameters)) o transfer.reassembly.deferral left.reassembly.deferral
works_peer link past e tag my held parameters o transfer left knows linked (inl none) known at turn =
    let asks = answers_ask e my held parameters o none turn in
    asks_nothing asks.none (subst (λ (t : Option Transfer). WaitedIn t left) known (asks.waits left at))
works_peer link past e tag my held parameters o transfer left knows linked (inr asked) known at turn =
    let number : ℕ = asked.0 in
    let reset : RequestedReset = asked.1 in
    subst (λ (l : AssociationIdentity). PeerTurns l past e (chunk_input tag (re_config parameters)) o transfer.reassembly.deferral left.reassembly.deferral) (sym linked)
    (request_turns past my held knows number reset transfer e (chunk_input tag (re_config parameters)) (ap (λ (p : List ResetParameter). Some (re_config p)) asked.2) o known
    (subst (λ (p : List ResetParameter). HandlesResets e my held p o) asked.2 turn) left at)

reset_peer : (link : AssociationIdentity) (past : List Effect) (e : Endpoint) (tag : ℕ) (core : Core) (parameters : List ResetParameter) (o : Outcome) (transfer left : Transfer) → KnowsPeerOfCore past core → identity_of_core core ≡ Some link
    → IsPlainRequest (Some (re_config parameters)) → e.queues.transfer ≡ Some transfer → o.after.queues.transfer ≡ Some left → ResetTurn e core parameters o
    → PeerTurns link past e (chunk_input tag (re_config parameters)) o transfer.reassembly.deferral left.reassembly.deferral
reset_peer link past e tag closed parameters o transfer left knows linked plainly known at turn = absurd (cc)
reset_peer link past e tag (cookie_wait my) parameters o transfer left knows linked plainly known at turn = absurd (cc)
reset_peer link past e tag (cookie_echoed my held cookie) parameters o transfer left knows linked plainly known at turn = works_peer link past e tag my held parameters o transfer left knows (cc) plainly known at turn
reset_peer link past e tag (open_in phase my held) parameters o transfer left knows linked plainly known at turn = works_peer link past e tag my held parameters o transfer left knows (cc) plainly known at turn

peer_by : (input : Input) → Handles input → (e : Endpoint) (o : Outcome) (past : List Effect) (link : AssociationIdentity) (transfer left : Transfer) → KnowsPeerOfCore past e.core → IsPlainRequest (content_of_input input) → IsCall input → Turn e input o
    → identity_of_core e.core ≡ Some link → e.queues.transfer ≡ Some transfer → o.after.queues.transfer ≡ Some left → PeerTurns link past e input o transfer.reassembly.deferral left.reassembly.deferral
peer_by input (calmly calm) e o past link transfer left knows plainly may turn linked known at = calm_peer link past e input o transfer left known at (calm_turns e input o calm may turn)
peer_by input (handles tag parameters is) e o past link transfer left knows plainly may turn linked known at =
    subst (λ (i : Input). PeerTurns link past e i o transfer.reassembly.deferral left.reassembly.deferral) (sym is)
    (content_by e tag (re_config parameters) o (λ dropped. calm_peer link past e (chunk_input tag (re_config parameters)) o transfer left known at (goes_on (as_this e.queues.transfer e.renewable o _ dropped (rests e))))
    (λ handled. reset_peer link past e tag e.core parameters o transfer left knows linked (subst (λ (i : Input). IsPlainRequest (content_of_input i)) is plainly) known at handled)
    (subst (λ (i : Input). Turn e i o) is turn))

pub peers_turn : PeersTurn
peers_turn e input o past link transfer left knows plainly may turn linked known at = peer_by input (input_handles input) e o past link transfer left knows plainly may turn linked known at

-- ---- without one

-- what is below after it waits for no reset, if nothing was before
abbrev WaitsNot : Endpoint → Outcome → Type 0
WaitsNot e o = (left : Transfer) → e.queues.transfer ≡ None → o.after.queues.transfer ≡ Some left → left.reassembly.deferral ≡ None

waits_not : (e : Endpoint) (o : Outcome) → AsksNothing e.queues.transfer e.renewable o → WaitsNot e o
waits_not e o asks = λ left none at. absurd (subst (λ (t : Option Transfer). WaitedIn t left) none (asks.waits left at))

calm_unlinked : (came : Option Content) (e : Endpoint) (o : Outcome) → CalmTurns came e o → NoneAsked o.effects × WaitsNot e o
calm_unlinked came e o (goes_on asks) = (asks.none, waits_not e o asks)
calm_unlinked came e o (begins begun opening linked asks) = (asks.none, λ left none at. asks.waits left at)
calm_unlinked came e o (collides collision asks) = (asks.none, λ left none at. kept_waits collision left (asks.waits left at))

reset_unlinked : (e : Endpoint) (core : Core) (parameters : List ResetParameter) (o : Outcome) → identity_of_core core ≡ None → ResetTurn e core parameters o → AsksNothing e.queues.transfer e.renewable o
reset_unlinked e closed parameters o none turn = as_this e.queues.transfer e.renewable o _ turn (rests e)
reset_unlinked e (cookie_wait my) parameters o none turn = as_this e.queues.transfer e.renewable o _ turn (rests e)
reset_unlinked e (cookie_echoed my held cookie) parameters o none turn = absurd (cc)
reset_unlinked e (open_in phase my held) parameters o none turn = absurd (cc)

unlinked_by : (input : Input) → Handles input → (e : Endpoint) (o : Outcome) → IsCall input → Turn e input o → identity_of_core e.core ≡ None → NoneAsked o.effects × WaitsNot e o
unlinked_by input (calmly calm) e o may turn none = calm_unlinked (content_of_input input) e o (calm_turns e input o calm may turn)
unlinked_by input (handles tag parameters is) e o may turn none =
    let asks = content_by e tag (re_config parameters) o (λ dropped. as_this e.queues.transfer e.renewable o _ dropped (rests e)) (λ handled. reset_unlinked e e.core parameters o none handled)
    (subst (λ (i : Input). Turn e i o) is turn) in
    (asks.none, waits_not e o asks)

pub unlinked_asks_nothing : UnlinkedAsksNothing
unlinked_asks_nothing e input o may turn none = unlinked_by input (input_handles input) e o may turn none

-- ---- where one ends

reset_ends : (e : Endpoint) (core : Core) (parameters : List ResetParameter) (o : Outcome) (transfer : Transfer) → ResetTurn e core parameters o → e.queues.transfer ≡ Some transfer → o.after.queues.transfer ≡ None → NoneAsked o.effects
reset_ends e closed parameters o transfer turn known none = subst (λ (x : Outcome). NoneAsked x.effects) (sym turn) tt
reset_ends e (cookie_wait my) parameters o transfer turn known none = subst (λ (x : Outcome). NoneAsked x.effects) (sym turn) tt
reset_ends e (cookie_echoed my held cookie) parameters o transfer turn known none = absurd (none_ends e my held parameters o transfer known turn none)
reset_ends e (open_in phase my held) parameters o transfer turn known none = absurd (none_ends e my held parameters o transfer known turn none)

ends_by : (input : Input) → Handles input → (e : Endpoint) (o : Outcome) (transfer : Transfer) → IsCall input → Turn e input o → e.queues.transfer ≡ Some transfer → o.after.queues.transfer ≡ None → NoneAsked o.effects
ends_by input (calmly calm) e o transfer may turn known none = calm_asks_nothing e input o calm may turn
ends_by input (handles tag parameters is) e o transfer may turn known none =
    content_by e tag (re_config parameters) o (λ dropped. subst (λ (x : Outcome). NoneAsked x.effects) (sym dropped) tt) (λ handled. reset_ends e e.core parameters o transfer handled known none)
    (subst (λ (i : Input). Turn e i o) is turn)

pub ends_ask_nothing : EndsAskNothing
ends_ask_nothing e input o transfer may turn known none = ends_by input (input_handles input) e o transfer may turn known none
