-- What the handlers of the handshake do, as turns of a socket's view.
use Rattle.std.specs.Prelude.{◌≡◌, ℕ, Option, None, Some, Result, List, [], ◌∷◌, ◌++◌, map}
use Rattle.rand_core.specs.Stream.{Stream, next_u32}
use Rattle.dcsctp_core.specs.types.declared.association.Held.{Held}
use Rattle.dcsctp_core.specs.types.declared.association.Pair.{Pair}
use Rattle.dcsctp_core.specs.types.declared.options.Options.{Options}
use Rattle.dcsctp_core.specs.types.declared.word.Word.TheVariants.{U32}
use Rattle.dcsctp_core.specs.types.ByResult.{ByResult}
use Rattle.dcsctp_core.specs.types.Offer.{offer_of, negotiated_capabilities}
use Rattle.dcsctp_core.specs.spec.Packet.{Introduction}
use Rattle.dcsctp_core.specs.spec.endpoint.Endpoint.{Endpoint, Core, closed, cookie_wait, cookie_echoed, open_in, held_by_core, may_answer}
use Rattle.dcsctp_core.specs.spec.endpoint.Outcome.{Outcome, still, emits}
use Rattle.dcsctp_core.specs.spec.endpoint.HandshakeOutcomes.{tag_from, pair_from, init_outcome, init_answered, renewed_pair_outcome, answer_outcome, awaits_init_ack, connect_outcome, init_emission, send_echo_with_flush, accept_init_ack_with_flush, abort_emission, refused_init_ack_outcome, InitAckAnswers, InitAckTurn, CookieAckTurn}
use Rattle.dcsctp_core.specs.spec.endpoint.CookieEchoOutcomes.{CookieEchoTurn}
use Rattle.dcsctp_core.specs.spec.endpoint.FlushOutcomes.{Answer, FlushKind, flush_answered}
use Rattle.dcsctp_core.specs.spec.endpoint.TimerOutcomes.{AgainAnswers}
use Rattle.dcsctp_core.specs.declared.context.Context.{Context}
use Rattle.dcsctp_core.specs.declared.transmission_control_block.Peer.{Peer}
use Rattle.dcsctp_core.specs.View.{View, view_of}
use Rattle.dcsctp_core.specs.Drawing.{first_word, second_word, long_word, OnlyDraws}

-- ---- pairs

-- These words were drawn, and then the pair was kept. Nothing else changes.
pub record MakesPair {R : Type 0} (stream : R → Stream) (old : Context R) (pair : Pair) (drawn : List ℕ) (left : Stream) (new : Context R) : Type 0 where
  pub words : (view_of new).words ≡ (view_of old).words ++ map U32 drawn
  pub pairs : (view_of new).pairs ≡ (view_of old).pairs ++ pair ∷ []
  pub goes_on : stream (view_of new).generator ≡ left
  pub only : OnlyDraws old new

-- The tag is made of the next word. Or an allocation failed: words may have been drawn and pairs kept, and nothing else has
-- changed.
abbrev pub DrawsTag : {R E : Type 0} → (R → Stream) → ℕ → Context R → Result Pair E → Context R → Type 0
DrawsTag stream first_tsn old result new =
    let next = stream (view_of old).generator in
    ByResult (λ (pair : Pair). (pair ≡ record { tag = tag_from (first_word next); first_tsn = first_tsn })
    × MakesPair stream old pair (first_word next ∷ []) (next_u32 next).1 new) (OnlyDraws old new) result

-- The pair is made of the next two words, its first TSN and then its tag; or an allocation failed, as above.
abbrev pub DrawsPair : {R E : Type 0} → (R → Stream) → Context R → Result Pair E → Context R → Type 0
DrawsPair stream old result new =
    let next = stream (view_of old).generator in
    ByResult (λ (pair : Pair). (pair ≡ pair_from (first_word next) (second_word next))
    × MakesPair stream old pair (first_word next ∷ second_word next ∷ []) (next_u32 (next_u32 next).1).1 new) (OnlyDraws old new) result

-- ---- INIT

-- An INIT is answered with this pair and tie tag.
abbrev pub init_answer_turn : {R : Type 0} → Introduction → Pair → ℕ → View R → Outcome
init_answer_turn theirs mine tie view = answer_outcome view.endpoint theirs [] mine tie

abbrev pub renewed_pair_if_connected : Endpoint → Option Held → Introduction → ℕ → Outcome
renewed_pair_if_connected e None theirs word = still e
renewed_pair_if_connected e (Some held) theirs word = renewed_pair_outcome e theirs word

-- where there is no association, with the words that the generator gives next
abbrev pub closed_turn : {R : Type 0} → (R → Stream) → Introduction → View R → Outcome
closed_turn stream theirs view = init_outcome view.endpoint theirs closed (first_word (stream view.generator)) (second_word (stream view.generator))

-- with the words that the generator gives next
abbrev pub init_reply_turn : {R : Type 0} → (R → Stream) → Introduction → View R → Outcome
init_reply_turn stream theirs view = init_outcome view.endpoint theirs view.endpoint.core (first_word (stream view.generator)) (second_word (stream view.generator))

-- by whether it may be answered
abbrev pub init_turn : {R : Type 0} → (R → Stream) → Introduction → View R → Outcome
init_turn stream theirs view =
    init_answered (may_answer view.endpoint) view.endpoint theirs (first_word (stream view.generator)) (second_word (stream view.generator))

-- while an association is open, with the word that the generator gives next
abbrev pub renewed_turn : {R : Type 0} → (R → Stream) → Introduction → View R → Outcome
renewed_turn stream theirs view = renewed_pair_if_connected view.endpoint (held_by_core view.endpoint.core) theirs (first_word (stream view.generator))

-- ---- connect

abbrev pub send_init_turn : {R : Type 0} → Pair → View R → Outcome
send_init_turn mine view = emits view.endpoint [] (init_emission view.endpoint mine)

-- the endpoint that awaits an INIT ACK, with nothing known of a peer
abbrev pub awaiting : Endpoint → Pair → Endpoint
awaiting e mine =
    let after : Endpoint = awaits_init_ack e mine in
    record after { tie = 0; outstanding = None; timers = record after.timers { t2 = None; reconfiguration = None }; queues = record e.queues { transfer = None } }

abbrev pub connect_turn : {R : Type 0} → (R → Stream) → View R → Outcome
connect_turn stream view = connect_outcome view.endpoint view.endpoint.core (first_word (stream view.generator)) (second_word (stream view.generator))

-- ---- INIT ACK

-- ABORT is sent under this tag, if it fits.
abbrev pub missing_cookie_turn : {R : Type 0} → ℕ → View R → Outcome
missing_cookie_turn tag view = emits view.endpoint [] (abort_emission tag)

-- An INIT ACK of this tag has no cookie.
abbrev pub init_ack_refusal_turn : {R : Type 0} → ℕ → View R → Outcome
init_ack_refusal_turn tag view = refused_init_ack_outcome view.endpoint tag

-- The cookie that is echoed, if one is, is sent in front of a flush.
abbrev pub echo_with_flush : FlushKind → Endpoint → Core → Outcome
echo_with_flush flush e closed = still e
echo_with_flush flush e (cookie_wait mine) = still e
echo_with_flush flush e (cookie_echoed mine held cookie) = send_echo_with_flush flush e [] held.peer.tag cookie
echo_with_flush flush e (open_in phase mine held) = still e

abbrev pub EchoesCookie : {R : Type 0} → View R → Outcome → Type 0
EchoesCookie view o =
    (answers : List Answer) × AgainAnswers view.endpoint view.endpoint.core answers × (o ≡ echo_with_flush (flush_answered answers) view.endpoint view.endpoint.core)

-- the peer that an INIT ACK shows
abbrev pub peer_by_init_ack : Options → Introduction → Peer
peer_by_init_ack options theirs = record { pair = theirs.pair; a_rwnd = theirs.window; capabilities = negotiated_capabilities (offer_of options) theirs.offer }

-- An INIT ACK of this peer shows the association, and its cookie is echoed. The tie tag is the word that the generator gives next.
abbrev pub AcceptsInitAck : {R : Type 0} → (R → Stream) → Pair → Introduction → List ℕ → View R → Outcome → Type 0
AcceptsInitAck stream mine theirs cookie view o =
    let tie : ℕ = long_word (stream view.generator) in
    (answers : List Answer) × InitAckAnswers view.endpoint theirs (Some cookie) (cookie_wait mine) tie answers
    × (o ≡ accept_init_ack_with_flush (flush_answered answers) view.endpoint mine theirs (Some cookie) tie)

-- An INIT ACK with this cookie was received.
abbrev pub ReceivesInitAck : {R : Type 0} → Introduction → Option (List ℕ) → View R → Outcome → Type 0
ReceivesInitAck theirs cookie view o = InitAckTurn view.endpoint theirs cookie o

-- ---- COOKIE ACK and COOKIE ECHO

abbrev pub ReceivesCookieAck : {R : Type 0} → View R → Outcome → Type 0
ReceivesCookieAck view o = CookieAckTurn view.endpoint o

-- A COOKIE ECHO of these bytes was received in a packet with this header tag.
abbrev pub ReceivesCookieEcho : {R : Type 0} → ℕ → List ℕ → View R → Outcome → Type 0
ReceivesCookieEcho header bytes view o = CookieEchoTurn view.endpoint header bytes o
