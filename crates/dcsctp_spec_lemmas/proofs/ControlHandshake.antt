-- Turns of the handshake at an endpoint are turns of its association: INIT ACK, COOKIE ACK and connect.
use Rattle.std.proofs.Common.{◌≡◌, ℕ, Bool, true, false, Option, None, Some, List, [], ◌∷◌, refl, sym, subst}
use Rattle.std.specs.Prelude.{if◌then◌else◌}
use Rattle.dcsctp_spec.specs.wire.Texts.{causes_text}
use Rattle.dcsctp_spec.specs.types.declared.association.Pair.{Pair}
use Rattle.dcsctp_spec.specs.types.declared.association.Held.{Held}
use Rattle.dcsctp_spec.specs.types.declared.word.Word.{Word}
use Rattle.dcsctp_spec.specs.types.declared.word.Word.TheVariants.{U32, U64}
use Rattle.dcsctp_spec.specs.types.declared.kinds.ErrorKind.TheVariants.{ProtocolViolation, PeerReported}
use Rattle.dcsctp_spec.specs.endpoint.Cause.{Cause}
use Rattle.dcsctp_spec.specs.endpoint.Event.{aborted, connected}
use Rattle.dcsctp_spec.specs.Packet.{Introduction, Content, init_ack, cookie_echo, cookie_ack, abort}
use Rattle.dcsctp_spec.specs.endpoint.Endpoint.{Endpoint, Core, closed, cookie_wait, cookie_echoed, open_in, established}
use Rattle.dcsctp_spec.specs.endpoint.Outcome.{Outcome, with_effects_first, still, quiet, sends, fits, drawing}
use Rattle.dcsctp_spec.specs.endpoint.FlushOutcomes.{Answer, draft_to, flush_answered, allows_packet}
use Rattle.dcsctp_spec.specs.endpoint.EndOutcomes.{ended_outcome, abort_outcome}
use Rattle.dcsctp_spec.specs.endpoint.HandshakeOutcomes.{pair_from, init_emission, awaits_init_ack, connect_outcome, ConnectTurn, no_cookie_text, abort_emission, awaits_cookie_ack, echo_emission, EchoAnswers, init_ack_with_flush, InitAckAnswers, InitAckTurn, CookieAckAnswers, CookieAckTurn, connected_after, cookie_ack_with_flush}
use Rattle.dcsctp_spec.specs.association.Effect.{holds, connects, Change, no_change, ending_change, identity_of}
use Rattle.dcsctp_spec.specs.association.Choices.{Filling, Choices, nothing_to_send, idle_choices}
use Rattle.dcsctp_spec.specs.association.HandshakeChanges.{connect_change, init_ack_change, held_by_init_ack}
use Rattle.dcsctp_spec.specs.association.ShutdownChanges.{is_ended_by_abort}
use Rattle.dcsctp_spec.specs.association.Acts.{connect, ChunkChange}
use Rattle.dcsctp_spec.specs.association.Controlled.{IsControlled, IsControlledChunk, IsControlledAct}
use Rattle.dcsctp_spec_lemmas.proofs.FlushKeeps.{filling_of, rebuilds_open, rebuilds_echoed, flush_controlled}

-- ---- what a turn chooses

-- nothing waits to be sent
abbrev pub filling_where : Bool → Filling
filling_where is_allowed = record nothing_to_send { is_allowed = is_allowed }

-- the choices of a turn that emits one packet at most
abbrev pub choices_of : Endpoint → Pair → List ℕ → Bool → Choices
choices_of e drawn cookie fits =
    record (idle_choices drawn) { cookie = cookie; tie = e.tie; secret = e.secret; fits = fits; filling = filling_where (allows_packet e.options.max_burst) }

-- nothing is drawn
abbrev pub no_choices : Endpoint → Bool → Choices
no_choices e fits = choices_of e (record { tag = 0; first_tsn = 0 }) [] fits

-- the turn of a chunk at an association that the endpoint holds
abbrev pub ControlledAt : Endpoint → Core → ℕ → Content → Outcome → Type 0
ControlledAt e core tag content o = (change : Change) × ChunkChange e.options core tag content change × IsControlled e o change

-- a turn in which nothing happens
pub still_controlled : (e : Endpoint) (core : Core) → e.core ≡ core → IsControlled e (still e) (no_change core)
still_controlled e core is = record { core = is; options = refl; observations = refl; effects = refl; following = refl }

-- the choices of a turn with a flush that gets these answers
abbrev pub choosing : Endpoint → Bool → List Answer → Choices
choosing e fits answers = record (no_choices e fits) { filling = filling_of answers }

-- ---- connect

connects_where : (b : Bool) (e : Endpoint) (mine : Pair) (words : List Word)
    → IsControlled e (drawing mine (if b then sends (awaits_init_ack e mine) words [] (init_emission e mine) else quiet (awaits_init_ack e mine) words [])) (connect_change e.options closed (choices_of e mine [] b))
connects_where true e mine words = record { core = refl; options = refl; observations = refl; effects = refl; following = refl }
connects_where false e mine words = record { core = refl; options = refl; observations = refl; effects = refl; following = refl }

connect_at : (e : Endpoint) (core : Core) (word next : ℕ) → e.core ≡ core
    → (choices : Choices) × IsControlled e (connect_outcome e core word next) (connect_change e.options core choices)
connect_at e closed word next is =
    let mine = pair_from word next in
    let b = fits (awaits_init_ack e mine) (init_emission e mine) in
    (choices_of e mine [] b, connects_where b e mine (U32 word ∷ U32 next ∷ []))
connect_at e (cookie_wait my) word next is = (no_choices e true, still_controlled e (cookie_wait my) is)
connect_at e (cookie_echoed my held cookie) word next is = (no_choices e true, still_controlled e (cookie_echoed my held cookie) is)
connect_at e (open_in phase my held) word next is = (no_choices e true, still_controlled e (open_in phase my held) is)

pub connect_controlled : (e : Endpoint) (o : Outcome) → ConnectTurn e o → IsControlledAct e connect o
connect_controlled e o turn = subst (IsControlledAct e connect) (sym turn.2) (connect_at e e.core turn.0 turn.1 refl)

-- ---- INIT ACK

-- Without a cookie an ABORT is sent, if it fits, and the association ends.
refused_where : (b : Bool) (e : Endpoint) (mine : Pair) (theirs : Introduction)
    → IsControlled e (ended_outcome (if b then sends e [] [] (abort_emission theirs.pair.tag) else quiet e [] []) (aborted ProtocolViolation no_cookie_text))
    (init_ack_change e.options (cookie_wait mine) theirs None (no_choices e b))
refused_where true e mine theirs = record { core = refl; options = refl; observations = refl; effects = refl; following = refl }
refused_where false e mine theirs = record { core = refl; options = refl; observations = refl; effects = refl; following = refl }

-- With one, its COOKIE ECHO goes out where it fits and where a packet is allowed.
echoed_where : (b : Bool) (e : Endpoint) (mine : Pair) (theirs : Introduction) (cookie : List ℕ) (tie : ℕ) (answers : List Answer)
    → EchoAnswers b (awaits_cookie_ack e mine theirs cookie tie) theirs.pair.tag cookie answers
    → IsControlled e (with_effects_first (holds (identity_of mine (held_by_init_ack e.options mine theirs)) ∷ [])
    (if b then flush_answered answers (awaits_cookie_ack e mine theirs cookie tie) (U64 tie ∷ []) [] true theirs.pair.tag (cookie_echo cookie ∷ []) else quiet (awaits_cookie_ack e mine theirs cookie tie) (U64 tie ∷ []) []))
    (init_ack_change e.options (cookie_wait mine) theirs (Some cookie) (choosing e b answers))
echoed_where true e mine theirs cookie tie answers h =
    let held : Held = held_by_init_ack e.options mine theirs in
    flush_controlled e (awaits_cookie_ack e mine theirs cookie tie) (U64 tie ∷ []) [] (echo_emission theirs.pair.tag cookie) answers (λ x. cookie_echoed mine x cookie) held
    (holds (identity_of mine held) ∷ []) (holds (identity_of mine held) ∷ []) (rebuilds_echoed mine cookie held) refl refl refl h refl refl refl
echoed_where false e mine theirs cookie tie answers h = record { core = refl; options = refl; observations = refl; effects = refl; following = refl }

init_ack_at : (e : Endpoint) (core : Core) (tag : ℕ) (theirs : Introduction) (cookie : Option (List ℕ)) (word : ℕ) (answers : List Answer) → e.core ≡ core
    → InitAckAnswers e theirs cookie core word answers → ControlledAt e core tag (init_ack theirs cookie) (init_ack_with_flush (flush_answered answers) e theirs cookie core word)
init_ack_at e closed tag theirs cookie word answers is h = (_, (no_choices e true, tt, refl), still_controlled e closed is)
init_ack_at e (cookie_wait mine) tag theirs None word answers is h =
    let b = fits e (abort_emission theirs.pair.tag) in
    (_, (no_choices e b, tt, refl), refused_where b e mine theirs)
init_ack_at e (cookie_wait mine) tag theirs (Some cookie) word answers is h =
    let b = fits (awaits_cookie_ack e mine theirs cookie word) (echo_emission theirs.pair.tag cookie) in
    (_, (choosing e b answers, tt, refl), echoed_where b e mine theirs cookie word answers h)
init_ack_at e (cookie_echoed my held echoed) tag theirs cookie word answers is h = (_, (no_choices e true, tt, refl), still_controlled e (cookie_echoed my held echoed) is)
init_ack_at e (open_in phase my held) tag theirs cookie word answers is h = (_, (no_choices e true, tt, refl), still_controlled e (open_in phase my held) is)

pub init_ack_controlled : (e : Endpoint) (tag : ℕ) (theirs : Introduction) (cookie : Option (List ℕ)) (o : Outcome) → InitAckTurn e theirs cookie o
    → IsControlledChunk e tag (init_ack theirs cookie) o
init_ack_controlled e tag theirs cookie o turn = subst (IsControlledChunk e tag (init_ack theirs cookie)) (sym turn.3) (init_ack_at e e.core tag theirs cookie turn.0 turn.1 refl turn.2)

-- ---- COOKIE ACK

cookie_ack_at : (e : Endpoint) (core : Core) (tag : ℕ) (answers : List Answer) → e.core ≡ core → CookieAckAnswers e core answers
    → ControlledAt e core tag cookie_ack (cookie_ack_with_flush (flush_answered answers) e core)
cookie_ack_at e closed tag answers is h = (_, (no_choices e true, tt, refl), still_controlled e closed is)
cookie_ack_at e (cookie_wait mine) tag answers is h = (_, (no_choices e true, tt, refl), still_controlled e (cookie_wait mine) is)
cookie_ack_at e (cookie_echoed mine held cookie) tag answers is h = (
  _,
  (choosing e true answers, tt, refl),
  flush_controlled e (connected_after e mine held) [] (connected ∷ []) (draft_to held) answers (λ x. open_in established mine x) held (connects (identity_of mine held) ∷ []) (connects (identity_of mine held) ∷ [])
      (rebuilds_open established mine held) refl refl refl h refl refl refl,
)
cookie_ack_at e (open_in phase mine held) tag answers is h = (_, (no_choices e true, tt, refl), still_controlled e (open_in phase mine held) is)

pub cookie_ack_controlled : (e : Endpoint) (tag : ℕ) (o : Outcome) → CookieAckTurn e o → IsControlledChunk e tag cookie_ack o
cookie_ack_controlled e tag o turn = subst (IsControlledChunk e tag cookie_ack) (sym turn.2) (cookie_ack_at e e.core tag turn.0 refl turn.1)

-- ---- ABORT

abort_where : (ends : Bool) (e : Endpoint) (core : Core) (causes : List Cause) → e.core ≡ core
    → IsControlled e (if ends then ended_outcome (quiet e [] []) (aborted PeerReported (causes_text causes)) else still e) (if ends then ending_change [] else no_change core)
abort_where true e core causes is = record { core = refl; options = refl; observations = refl; effects = refl; following = refl }
abort_where false e core causes is = still_controlled e core is

abort_at : (e : Endpoint) (core : Core) (tag : ℕ) (reflected : Bool) (causes : List Cause) → e.core ≡ core → ControlledAt e core tag (abort reflected causes) (abort_outcome e causes core)
abort_at e core tag reflected causes is = (_, (no_choices e true, tt, refl), abort_where (is_ended_by_abort e.options core) e core causes is)

pub abort_controlled : (e : Endpoint) (tag : ℕ) (reflected : Bool) (causes : List Cause) (o : Outcome) → o ≡ abort_outcome e causes e.core → IsControlledChunk e tag (abort reflected causes) o
abort_controlled e tag reflected causes o turn = subst (IsControlledChunk e tag (abort reflected causes)) (sym turn) (abort_at e e.core tag reflected causes refl)
