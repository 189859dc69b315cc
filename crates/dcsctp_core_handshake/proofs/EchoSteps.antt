-- A COOKIE ECHO's turn, by which case it is.
use Rattle.std.proofs.Common.{◌≡◌, ◌==◌, ℕ, Bool, true, false, List, [], ◌∷◌, refl, sym, ap, subst, ◌∙◌, arith}
use Rattle.std.specs.Prelude.{Result, Ok, Err}
use Rattle.std.proofs.lemmas.Bool.Decides.{nat_tests}
use Rattle.rand_core.specs.Stream.{Stream}
use Rattle.dcsctp_core.specs.types.declared.association.Pair.{Pair}
use Rattle.dcsctp_core.specs.types.declared.association.Held.{Held}
use Rattle.dcsctp_core.specs.spec.Cookie.{Cookie, cookie_of_bytes}
use Rattle.dcsctp_core.specs.spec.endpoint.Event.{Event, connected}
use Rattle.dcsctp_core.specs.spec.Packet.{Emission, cookie_ack}
use Rattle.dcsctp_core.specs.spec.endpoint.Endpoint.{Endpoint, Core, closed, cookie_wait, cookie_echoed, open_in}
use Rattle.dcsctp_core.specs.spec.endpoint.Outcome.{Outcome, with_effects_first}
use Rattle.dcsctp_core.specs.spec.endpoint.Following.{next_chunk}
use Rattle.dcsctp_core.specs.spec.association.Effect.{connects, identity_of}
use Rattle.dcsctp_core.specs.spec.association.CookieEchoChanges.{Resolution, establish_new, restart, simultaneous_init, discard, maintain_existing, invalid_tag, stale, case_by_answers, case_with_peer, resolve}
use Rattle.dcsctp_core.specs.spec.endpoint.FlushOutcomes.{Answer, FlushAnswers, flush_answered}
use Rattle.dcsctp_core.specs.spec.endpoint.HandshakeOutcomes.{connected_after}
use Rattle.dcsctp_core.specs.spec.endpoint.CookieEchoOutcomes.{is_spent, maintain_with_flush, resolve_with_flush, cookie_echo_with_flush, discard_outcome, refused_echo_outcome, stale_outcome, MaintainAnswers, ResolvedAnswers, EchoedAnswers, resolved_now, CookieEchoTurn}
use Rattle.dcsctp_core.proofs.spec_lemmas.ControlEcho.{kept_by_age}
use Rattle.dcsctp_core.specs.declared.context.Context.{Context}
use Rattle.dcsctp_core.specs.declared.following.Following.{Following}
use Rattle.dcsctp_core.specs.declared.following.Following.TheVariants.{NextChunk, DroppedRest}
use Rattle.dcsctp_core.specs.View.{View, view_of, endpoint_of}
use Rattle.dcsctp_core.specs.Drawing.{long_word}
use Rattle.dcsctp_core.specs.Handling.{TakesPossibleTurn, CutsSomeTurn, HandlesTurn, HandlesSomeTurn, HandlesPossibleTurn}
use Rattle.dcsctp_core.proofs.Composing.{cut_first}
use Rattle.dcsctp_core.proofs.Moving.{moves_still}
use Rattle.dcsctp_core_handshake.specs.Handshake.{ReceivesCookieEcho}
use Rattle.dcsctp_core_handshake.specs.Echoes.{EstablishesFirst, CollidesWithPeer, RestartsUnlessShuttingDown, MaintainsAssociation, maintained_with_flush, MaintainedAnswers, stale_turn}
use Rattle.dcsctp_core_handshake.proofs.FlushSteps.{flush_following}

-- ---- which case it is

-- What the bytes read as, and what that is to the association.
pub record IsCase (e : Endpoint) (header : ℕ) (bytes : List ℕ) (cookie : Cookie) (resolution : Resolution) : Type 0 where
  pub reads : cookie_of_bytes bytes ≡ Ok cookie
  pub is : resolution ≡ resolved_now e e.core header cookie

-- the turn of that case
resolved : (e : Endpoint) (header : ℕ) (bytes : List ℕ) (cookie : Cookie) (word : ℕ) (resolution : Resolution) (answers : List Answer) → IsCase e header bytes cookie resolution
    → ResolvedAnswers e cookie e.core word resolution answers → CookieEchoTurn e header bytes (resolve_with_flush (flush_answered answers) e cookie e.core word resolution)
resolved e header bytes cookie word resolution answers c allowed = (
  word,
  answers,
  subst (λ (read : Result Cookie (List ℕ)). EchoedAnswers e e.core header read word answers) (sym c.reads)
      (subst (λ (r : Resolution). ResolvedAnswers e cookie e.core word r answers) c.is allowed),
  ap (λ (r : Resolution). resolve_with_flush (flush_answered answers) e cookie e.core word r) c.is
      ∙ ap (λ (read : Result Cookie (List ℕ)). cookie_echo_with_flush (flush_answered answers) e e.core header read word) (sym c.reads),
)

turn_of : (e : Endpoint) (header : ℕ) (bytes : List ℕ) (cookie : Cookie) (word : ℕ) (resolution : Resolution) (answers : List Answer) (o : Outcome) → IsCase e header bytes cookie resolution
    → ResolvedAnswers e cookie e.core word resolution answers → o ≡ resolve_with_flush (flush_answered answers) e cookie e.core word resolution → CookieEchoTurn e header bytes o
turn_of e header bytes cookie word resolution answers o c allowed is = subst (CookieEchoTurn e header bytes) (sym is) (resolved e header bytes cookie word resolution answers c allowed)

-- ---- an association is made

pub works_new : {R : Type 0} (stream : R → Stream) (old new : View R) (header : ℕ) (bytes : List ℕ) (cookie : Cookie) → IsCase old.endpoint header bytes cookie establish_new
    → TakesPossibleTurn stream (EstablishesFirst stream cookie) old new → HandlesSomeTurn stream (ReceivesCookieEcho header bytes) old NextChunk new
works_new stream old new header bytes cookie c t =
    record {
      outcome = t.outcome;
      turn = turn_of old.endpoint header bytes cookie (long_word (stream old.generator)) establish_new t.turn.0 t.outcome c t.turn.1 t.turn.2;
      moves = t.moves;
      following = ap (λ (o : Outcome). o.following) t.turn.2 ∙ flush_following _ _ t.turn.0;
    }

pub works_new_cut : {R : Type 0} (stream : R → Stream) (old : View R) (es : List (Event (List ℕ))) (header : ℕ) (bytes : List ℕ) (cookie : Cookie) → IsCase old.endpoint header bytes cookie establish_new
    → CutsSomeTurn (EstablishesFirst stream cookie) old es → CutsSomeTurn (ReceivesCookieEcho header bytes) old es
works_new_cut stream old es header bytes cookie c t =
    record {
      outcome = t.outcome;
      turn = turn_of old.endpoint header bytes cookie (long_word (stream old.generator)) establish_new t.turn.0 t.outcome c t.turn.1 t.turn.2;
      cut = t.cut;
    }

pub works_colliding : {R : Type 0} (stream : R → Stream) (old new : View R) (header : ℕ) (bytes : List ℕ) (cookie : Cookie) → IsCase old.endpoint header bytes cookie simultaneous_init
    → TakesPossibleTurn stream (CollidesWithPeer stream cookie) old new → HandlesSomeTurn stream (ReceivesCookieEcho header bytes) old NextChunk new
works_colliding stream old new header bytes cookie c t =
    record {
      outcome = t.outcome;
      turn = turn_of old.endpoint header bytes cookie (long_word (stream old.generator)) simultaneous_init t.turn.0 t.outcome c t.turn.1 t.turn.2;
      moves = t.moves;
      following = ap (λ (o : Outcome). o.following) t.turn.2 ∙ flush_following _ _ t.turn.0;
    }

pub works_colliding_cut : {R : Type 0} (stream : R → Stream) (old : View R) (es : List (Event (List ℕ))) (header : ℕ) (bytes : List ℕ) (cookie : Cookie) → IsCase old.endpoint header bytes cookie simultaneous_init
    → CutsSomeTurn (CollidesWithPeer stream cookie) old es → CutsSomeTurn (ReceivesCookieEcho header bytes) old es
works_colliding_cut stream old es header bytes cookie c t =
    record {
      outcome = t.outcome;
      turn = turn_of old.endpoint header bytes cookie (long_word (stream old.generator)) simultaneous_init t.turn.0 t.outcome c t.turn.1 t.turn.2;
      cut = t.cut;
    }

-- ---- a restart, or its refusal

pub works_restart : {R E : Type 0} (stream : R → Stream) (old : Context R) (result : Result Following E) (new : Context R) (header : ℕ) (bytes : List ℕ) (cookie : Cookie)
    → IsCase (endpoint_of old) header bytes cookie restart → HandlesPossibleTurn stream (RestartsUnlessShuttingDown stream cookie) old result new → HandlesPossibleTurn stream (ReceivesCookieEcho header bytes) old result new
works_restart stream old (Ok next) new header bytes cookie c t =
    record {
      outcome = t.outcome;
      turn = turn_of (endpoint_of old) header bytes cookie (long_word (stream (view_of old).generator)) restart t.turn.0 t.outcome c t.turn.1 t.turn.2;
      moves = t.moves;
      following = t.following;
    }
works_restart stream old (Err error) new header bytes cookie c t =
    record {
      outcome = t.outcome;
      turn = turn_of (endpoint_of old) header bytes cookie (long_word (stream (view_of old).generator)) restart t.turn.0 t.outcome c t.turn.1 t.turn.2;
      cut = t.cut;
    }

-- ---- the existing association is kept: the cookie's addressee is the peer

is_of_peer : (a b c d : Bool) → maintain_existing ≡ case_by_answers a b c d → b ≡ true
is_of_peer false false true zero is = absurd (cc)
is_of_peer false false false zero is = absurd (cc)
is_of_peer true false tie zero is = absurd (cc)
is_of_peer false true tie true is = absurd (cc)
is_of_peer false true tie false is = absurd (cc)
is_of_peer true true tie zero is = refl

same_of : (a b : ℕ) → (a == b) ≡ true → a ≡ b
same_of a b is = grind (arith, nat_tests)

peer_of : (my : Pair) (held : Held) (tie secret header : ℕ) (cookie : Cookie) → maintain_existing ≡ case_with_peer my held tie secret header cookie → held.peer.tag ≡ cookie.addressee.tag
peer_of my held tie secret header cookie is =
    sym (same_of cookie.addressee.tag held.peer.tag (is_of_peer (header == my.tag) (cookie.addressee.tag == held.peer.tag) (cookie.tie == tie) (cookie.tie == secret) is))

-- a packet that begins with COOKIE ACK, under this tag
abbrev ack_under : Held → ℕ → Emission
ack_under held tag = record { with_checksum = held.capabilities.zero_checksum_method.0 == 0; packet = record { tag = tag; contents = cookie_ack ∷ [] } }

abbrev acks_under : List Answer → Endpoint → List (Event Emission) → Held → ℕ → Outcome
acks_under answers e events held tag = flush_answered answers e [] events (held.capabilities.zero_checksum_method.0 == 0) tag (cookie_ack ∷ [])

maintain_is : (e : Endpoint) (cookie : Cookie) (core : Core) (tie secret header : ℕ) (answers : List Answer) → maintain_existing ≡ resolve core tie secret header cookie → MaintainedAnswers e core answers
    → MaintainAnswers e cookie core answers × (maintained_with_flush (flush_answered answers) e core ≡ maintain_with_flush (flush_answered answers) e cookie core)
maintain_is e cookie closed tie secret header answers is h = (h, refl)
maintain_is e cookie (cookie_wait mine) tie secret header answers is h = (h, refl)
maintain_is e cookie (cookie_echoed mine held echoed) tie secret header answers is h =
    let same : held.peer.tag ≡ cookie.addressee.tag = peer_of mine held tie secret header cookie is in (
      subst (λ (tag : ℕ). FlushAnswers (connected_after e mine held) (ack_under held tag) answers) same h,
      ap (λ (tag : ℕ). with_effects_first (connects (identity_of mine held) ∷ []) (acks_under answers (connected_after e mine held) (connected ∷ []) held tag)) same,
    )
maintain_is e cookie (open_in phase mine held) tie secret header answers is h =
    let same : held.peer.tag ≡ cookie.addressee.tag = peer_of mine held tie secret header cookie is in (
      subst (λ (tag : ℕ). FlushAnswers e (ack_under held tag) answers) same h,
      ap (acks_under answers e [] held) same,
    )

maintain_following : (e : Endpoint) (core : Core) (answers : List Answer) → (maintained_with_flush (flush_answered answers) e core).following ≡ next_chunk
maintain_following e closed answers = refl
maintain_following e (cookie_wait mine) answers = refl
maintain_following e (cookie_echoed mine held echoed) answers = flush_following _ _ answers
maintain_following e (open_in phase mine held) answers = flush_following _ _ answers

maintain_turn : {R : Type 0} (old : View R) (header : ℕ) (bytes : List ℕ) (cookie : Cookie) (o : Outcome) → IsCase old.endpoint header bytes cookie maintain_existing
    → MaintainsAssociation old o → ReceivesCookieEcho header bytes old o
maintain_turn old header bytes cookie o c turn =
    let e : Endpoint = old.endpoint in
    let is : maintain_existing ≡ resolve e.core e.tie e.secret header cookie = sym (kept_by_age (is_spent e e.core header cookie) (resolve e.core e.tie e.secret header cookie) (sym c.is)) in
    let here = maintain_is e cookie e.core e.tie e.secret header turn.0 is turn.1 in
    turn_of e header bytes cookie 0 maintain_existing turn.0 o c here.0 (turn.2 ∙ here.1)

pub works_maintain : {R : Type 0} (stream : R → Stream) (old new : View R) (header : ℕ) (bytes : List ℕ) (cookie : Cookie) → IsCase old.endpoint header bytes cookie maintain_existing
    → TakesPossibleTurn stream MaintainsAssociation old new → HandlesSomeTurn stream (ReceivesCookieEcho header bytes) old NextChunk new
works_maintain stream old new header bytes cookie c t =
    record {
      outcome = t.outcome;
      turn = maintain_turn old header bytes cookie t.outcome c t.turn;
      moves = t.moves;
      following = ap (λ (o : Outcome). o.following) t.turn.2 ∙ maintain_following old.endpoint old.endpoint.core t.turn.0;
    }

pub works_maintain_cut : {R : Type 0} (old : View R) (es : List (Event (List ℕ))) (header : ℕ) (bytes : List ℕ) (cookie : Cookie) → IsCase old.endpoint header bytes cookie maintain_existing
    → CutsSomeTurn MaintainsAssociation old es → CutsSomeTurn (ReceivesCookieEcho header bytes) old es
works_maintain_cut old es header bytes cookie c t = record { outcome = t.outcome; turn = maintain_turn old header bytes cookie t.outcome c t.turn; cut = t.cut }

-- ---- the rest of the packet is dropped

pub works_discard : {R : Type 0} (stream : R → Stream) (old : View R) (header : ℕ) (bytes : List ℕ) (cookie : Cookie) → IsCase old.endpoint header bytes cookie discard
    → HandlesSomeTurn stream (ReceivesCookieEcho header bytes) old DroppedRest old
works_discard stream old header bytes cookie c =
    let m = moves_still stream old in
    record {
      outcome = discard_outcome old.endpoint;
      turn = turn_of old.endpoint header bytes cookie 0 discard [] (discard_outcome old.endpoint) c refl refl;
      moves = record { endpoint = m.endpoint; events = m.events; words = m.words; pairs = m.pairs; drawn = m.drawn };
      following = refl;
    }

pub refused_cut : {R : Type 0} (old : View R) (es : List (Event (List ℕ))) (header : ℕ) (bytes text : List ℕ) → ReceivesCookieEcho header bytes old (refused_echo_outcome old.endpoint text)
    → es ≡ old.events → CutsSomeTurn (ReceivesCookieEcho header bytes) old es
refused_cut old es header bytes text turn same =
    record { outcome = refused_echo_outcome old.endpoint text; turn = turn; cut = cut_first old (refused_echo_outcome old.endpoint text) es same }

-- since the bytes are no cookie
pub unread_turn : {R : Type 0} (old : View R) (header : ℕ) (bytes text : List ℕ) → cookie_of_bytes bytes ≡ Err text → ReceivesCookieEcho header bytes old (refused_echo_outcome old.endpoint text)
unread_turn old header bytes text reads = (
  0,
  [],
  subst (λ (read : Result Cookie (List ℕ)). EchoedAnswers old.endpoint old.endpoint.core header read 0 []) (sym reads) refl,
  ap (λ (read : Result Cookie (List ℕ)). cookie_echo_with_flush (flush_answered []) old.endpoint old.endpoint.core header read 0) (sym reads),
)

-- since the tags are those of no association
pub untagged_turn : {R : Type 0} (old : View R) (header : ℕ) (bytes : List ℕ) (cookie : Cookie) → IsCase old.endpoint header bytes cookie invalid_tag
    → ReceivesCookieEcho header bytes old (resolve_with_flush (flush_answered []) old.endpoint cookie old.endpoint.core 0 invalid_tag)
untagged_turn old header bytes cookie c = resolved old.endpoint header bytes cookie 0 invalid_tag [] c refl

-- since it would make an association, and its cookie is stale
stale_is : (old : Endpoint) (header : ℕ) (bytes : List ℕ) (cookie : Cookie) → IsCase old header bytes cookie stale → CookieEchoTurn old header bytes (stale_outcome old cookie)
stale_is old header bytes cookie c = resolved old header bytes cookie 0 stale [] c refl

pub works_stale : {R E : Type 0} (stream : R → Stream) (old : Context R) (result : Result Following E) (new : Context R) (header : ℕ) (bytes : List ℕ) (cookie : Cookie)
    → IsCase (endpoint_of old) header bytes cookie stale → HandlesTurn stream (stale_turn cookie.addressee.tag) old result new → HandlesPossibleTurn stream (ReceivesCookieEcho header bytes) old result new
works_stale stream old (Ok next) new header bytes cookie c t =
    record {
      outcome = stale_outcome (endpoint_of old) cookie;
      turn = stale_is (endpoint_of old) header bytes cookie c;
      moves = t.moves;
      following = t.following;
    }
works_stale stream old (Err error) new header bytes cookie c t =
    record { outcome = stale_outcome (endpoint_of old) cookie; turn = stale_is (endpoint_of old) header bytes cookie c; cut = t }
