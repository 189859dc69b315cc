-- Turns of chunks and of connect, from what their handlers say.
use Rattle.std.proofs.Common.{◌≡◌, ℕ, Bool, true, false, cond, List, [], ◌∷◌, refl, sym, ap, subst, ◌∙◌, Result, Ok, Err}
use Rattle.std.proofs.lemmas.List.{append-nil}
use Rattle.rand_core.specs.Stream.{Stream}
use Rattle.dcsctp_core.specs.spec.endpoint.Event.{Event}
use Rattle.dcsctp_core.specs.types.declared.association.Pair.{Pair}
use Rattle.dcsctp_core.specs.types.declared.word.Word.{Word}
use Rattle.dcsctp_core.specs.types.declared.word.Word.TheVariants.{U32}
use Rattle.dcsctp_core.specs.spec.Packet.{Introduction, Content, Emission, init, shutdown_ack}
use Rattle.dcsctp_core.specs.spec.endpoint.Endpoint.{Endpoint, Core, closed, cookie_wait, cookie_echoed, open_in, established, shutdown_pending, shutdown_sent, shutdown_received, shutdown_ack_sent, may_answer, with_secret, secret_with}
use Rattle.dcsctp_core.specs.spec.endpoint.Following.{next_chunk}
use Rattle.dcsctp_core.specs.spec.endpoint.Outcome.{Outcome, fits, sends, quiet, to_peer}
use Rattle.dcsctp_core.specs.spec.endpoint.Turn.{ContentTurn, act_input}
use Rattle.dcsctp_core.specs.spec.association.Acts.{connect}
use Rattle.dcsctp_core.specs.spec.endpoint.CallTurns.{Transition, transition}
use Rattle.dcsctp_core.specs.spec.endpoint.HandshakeOutcomes.{pair_from, renewed_pair, init_ack_emission, answer_outcome, init_outcome, init_answered}
use Rattle.dcsctp_core.specs.declared.following.Following.TheVariants.{NextChunk}
use Rattle.dcsctp_core.specs.declared.context.Context.{Context}
use Rattle.dcsctp_core.specs.declared.following.Following.{Following}
use Rattle.dcsctp_core.specs.View.{View, endpoint_of, view_of, call_start, Moves}
use Rattle.dcsctp_core.specs.Drawing.{first_word, second_word}
use Rattle.dcsctp_core.specs.Handling.{OnlyDrew, HandlesTurn, HandlesWholeTurn, HandlesPossibleTurn}
use Rattle.dcsctp_core.proofs.Moving.{moves_one}
use Rattle.dcsctp_core.proofs.spec_lemmas.OneAnswerLemmas.{init_by}
use Rattle.dcsctp_core_handshake.specs.Handshake.{init_turn, connect_turn}
use Rattle.dcsctp_core.specs.types.Schedule.{connect_call}
use Rattle.dcsctp_socket_calls.specs.Parts.{ChunkMoves, CutsChunk, TurnsOf, MovesByCall, HandlesChunk}

-- ---- a chunk's turn by what its handler says

pub works_chunk : {R E : Type 0} (stream : R → Stream) (tag : ℕ) (content : Content) (turn : View R → Outcome) (old : Context R) (result : Result Following E) (new : Context R)
    → ContentTurn (endpoint_of old) tag content (turn (view_of old)) → HandlesTurn stream turn old result new → HandlesChunk stream tag content old result new
works_chunk stream tag content turn old (Ok next) new is worked = record { outcome = turn (view_of old); turn = is; following = worked.following; moves = worked.moves }
works_chunk stream tag content turn old (Err error) new is cut = record { outcome = turn (view_of old); turn = is; cut = cut }

-- No event of the turn was added.
cut_before : {R : Type 0} (old : View R) (tag : ℕ) (content : Content) (outcome : Outcome) (events : List (Event (List ℕ)))
    → ContentTurn old.endpoint tag content outcome → events ≡ old.events → CutsChunk tag content old events
cut_before old tag content outcome events turn same =
    record { outcome = outcome; turn = turn; cut = record { count = 0; added = same ∙ sym (append-nil old.events) } }

pub works_whole : {R E : Type 0} (stream : R → Stream) (tag : ℕ) (content : Content) (turn : View R → Outcome) (old : Context R) (result : Result Following E) (new : Context R)
    → ContentTurn (endpoint_of old) tag content (turn (view_of old)) → HandlesWholeTurn stream turn old result new → HandlesChunk stream tag content old result new
works_whole stream tag content turn old (Ok next) new is worked = record { outcome = turn (view_of old); turn = is; following = worked.following; moves = worked.moves }
works_whole {R = R} stream tag content turn old (Err error) new is same = cut_before (view_of old) tag content (turn (view_of old)) (view_of new).events is (ap (λ (v : View R). v.events) same)

emits_follows : (b : Bool) (e : Endpoint) (words : List Word) (emission : Emission) → (cond b (sends e words [] emission) (quiet e words [])).following ≡ next_chunk
emits_follows true e words emission = refl
emits_follows false e words emission = refl

answer_follows : (e : Endpoint) (theirs : Introduction) (words : List Word) (mine : Pair) (tie : ℕ) → (answer_outcome e theirs words mine tie).following ≡ next_chunk
answer_follows e theirs words mine tie = emits_follows (fits e (init_ack_emission e theirs mine tie)) e words (init_ack_emission e theirs mine tie)

-- What follows an INIT is the next chunk.
init_follows : (e : Endpoint) (theirs : Introduction) (core : Core) (word next : ℕ) → (init_outcome e theirs core word next).following ≡ next_chunk
init_follows e theirs closed word next = answer_follows (with_secret e (pair_from word next)) theirs (U32 word ∷ U32 next ∷ []) (pair_from word next) (secret_with e (pair_from word next))
init_follows e theirs (cookie_wait mine) word next = answer_follows e theirs [] mine e.secret
init_follows e theirs (cookie_echoed mine held cookie) word next = answer_follows e theirs [] mine e.secret
init_follows e theirs (open_in established mine held) word next = answer_follows e theirs (U32 word ∷ []) (renewed_pair e word) e.tie
init_follows e theirs (open_in shutdown_pending mine held) word next = answer_follows e theirs (U32 word ∷ []) (renewed_pair e word) e.tie
init_follows e theirs (open_in shutdown_sent mine held) word next = answer_follows e theirs (U32 word ∷ []) (renewed_pair e word) e.tie
init_follows e theirs (open_in shutdown_received mine held) word next = answer_follows e theirs (U32 word ∷ []) (renewed_pair e word) e.tie
init_follows e theirs (open_in shutdown_ack_sent mine held) word next = emits_follows (fits e (to_peer held shutdown_ack)) e [] (to_peer held shutdown_ack)

pub init_worked : {R : Type 0} (stream : R → Stream) (old new : View R) (tag : ℕ) (theirs : Introduction) → Moves stream old (init_turn stream theirs old) new
    → ChunkMoves stream tag (init theirs) old NextChunk new
init_worked stream old new tag theirs moves =
    let word : ℕ = first_word (stream old.generator) in
    let next : ℕ = second_word (stream old.generator) in
    record {
      outcome = init_turn stream theirs old;
      turn = (word, next, refl);
      following = init_by (λ (o : Outcome). o.following ≡ next_chunk) old.endpoint theirs word next refl
          (init_follows old.endpoint theirs old.endpoint.core word next);
      moves = moves;
    }

pub init_cut : {R : Type 0} (old new : View R) (tag : ℕ) (theirs : Introduction) → OnlyDrew old new → CutsChunk tag (init theirs) old new.events
init_cut {R = R} old new tag theirs same =
    cut_before old tag (init theirs) (init_answered (may_answer old.endpoint) old.endpoint theirs 0 0) new.events (0, 0, refl) (ap (λ (v : View R). v.events) same)

pub works_one : {R E : Type 0} (stream : R → Stream) (tag : ℕ) (content : Content) (Took : View R → Outcome → Type 0) (old : Context R) (result : Result Following E) (new : Context R)
    → ((o : Outcome) → Took (view_of old) o → ContentTurn (endpoint_of old) tag content o) → HandlesPossibleTurn stream Took old result new → HandlesChunk stream tag content old result new
works_one stream tag content Took old (Ok next) new is worked = record { outcome = worked.outcome; turn = is worked.outcome worked.turn; following = worked.following; moves = worked.moves }
works_one stream tag content Took old (Err error) new is cut = record { outcome = cut.outcome; turn = is cut.outcome cut.turn; cut = cut.cut }

-- ---- connect

pub connect_moves : {R : Type 0} (stream : R → Stream) (old start new : View R) → start ≡ call_start old
    → Moves stream start (connect_turn stream start) new → MovesByCall stream (TurnsOf connect_call) old new
connect_moves {R = R} stream old start new begins moves =
    let turn : Transition = transition (act_input connect) (connect_turn stream (call_start old)) in
    record {
      turns = turn ∷ [];
      are = (record { is = refl; comes = (first_word (stream old.generator), second_word (stream old.generator), refl) }, tt);
      moves = moves_one stream (call_start old) new turn (subst (λ (v : View R). Moves stream v (connect_turn stream v) new) begins moves);
    }
