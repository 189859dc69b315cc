-- Where an association is open, no packet and no call leaves anything owed but by a timer.
use Rattle.std.proofs.Common.{◌≡◌, ℕ, Bool, true, false, List, [], ◌∷◌, inl, inr, map, drop, refl, sym, subst}
use Rattle.std.specs.List.{AllByRecursion}
use Rattle.dcsctp_spec_lemmas.specs.wire.Content.{ChunkContent, data_chunk, init_chunk, init_ack_chunk, sack_chunk, heartbeat_chunk, heartbeat_ack_chunk, abort_chunk, shutdown_chunk, shutdown_ack_chunk, error_chunk, cookie_echo_chunk, cookie_ack_chunk, shutdown_complete_chunk, i_data_chunk, re_config_chunk, forward_tsn_chunk, i_forward_tsn_chunk, unknown_chunk}
use Rattle.dcsctp_spec_lemmas.specs.wire.Format.{is_cookie_echo}
use Rattle.dcsctp_spec_lemmas.specs.spec.Admission.{Admission, all_chunks, shutdown_acks_alone, refused, admits, shutdown_acks_of}
use Rattle.dcsctp_spec_lemmas.specs.spec.Packet.{Content, init, init_ack, cookie_echo, cookie_ack, re_config, abort, shutdown, shutdown_ack, shutdown_complete, plain, Packet, content_of_chunk, packet_of_content}
use Rattle.dcsctp_spec_lemmas.specs.spec.endpoint.CallTurns.{asked_again, Transition, IsTurn, Turns, AfterChunk, ChunkTurns, WholeTurns, AdmittedTurns, HandleInput, unreadable, readable, after_all}
use Rattle.dcsctp_spec_lemmas.specs.spec.endpoint.Endpoint.{Endpoint}
use Rattle.dcsctp_spec_lemmas.specs.spec.endpoint.Following.{Following, next_chunk, packet_end, dropped_rest}
use Rattle.dcsctp_spec_lemmas.specs.spec.endpoint.MessageOutcomes.{awaits_opening}
use Rattle.dcsctp_spec_lemmas.specs.spec.endpoint.Turn.{Input, arrival, refusal, packet_begins, chunk_input, packet_ends, unreadable_text}
use Rattle.dcsctp_spec_laws.specs.TurnLaws.{ChunksAreControlled}
use Rattle.dcsctp_theorem_transfer.specs.Deadlines.{IsOpen}
use Rattle.dcsctp_theorem_transfer.proofs.Delayed.{DelayingLayer, SettledLayer, delaying_kept, settled_kept}
use Rattle.dcsctp_theorem_transfer.proofs.Dropping.{dropped}
use Rattle.dcsctp_theorem_transfer.proofs.Layers.{EndpointIs}
use Rattle.dcsctp_theorem_transfer.proofs.Opening.{IsEcho}
use Rattle.dcsctp_theorem_transfer.proofs.SettledTurns.{SendsByRfc, Stands, IsStill, settled_stands, closed_stands, delaying_of, turn_options, turn_pending, turn_settled, still_stands}
use Rattle.dcsctp_theorem_transfer.proofs.Turns.{MayBe, mild_content, packet_end_is, turn_is}

-- ---- several turns that open nothing

pub turns_stand : (e : Endpoint) (inputs : List Input) (ts : List Transition) → AllByRecursion IsStill inputs → Turns e inputs ts → Stands e → Stands (after_all e ts)
turns_stand e [] [] may turns h = h
turns_stand e [] (t ∷ ts) may turns h = absurd turns
turns_stand e (input ∷ inputs) [] may turns h = absurd turns
turns_stand e (input ∷ inputs) (t ∷ ts) may turns h = turns_stand t.outcome.after inputs ts may.1 turns.1 (still_stands e input t may.0 turns.0 h)

pub none_stand : (e : Endpoint) (ts : List Transition) → ts ≡ [] → Stands e → Stands (after_all e ts)
none_stand e ts none h = subst (λ (l : List Transition). Stands (after_all e l)) (sym none) h

-- ---- a packet

-- while its chunks are handled
record Handles (e : Endpoint) : Type 0 where
  sends : SendsByRfc e.options
  delaying : EndpointIs DelayingLayer e

handles_of : (e : Endpoint) → Stands e → Handles e
handles_of e h = record { sends = h.sends; delaying = delaying_of e h.pending }

asked_still : (asks : Bool) → AllByRecursion IsStill (asked_again asks)
asked_still false = tt
asked_still true = (tt, tt)

-- Its end settles what is owed, and then a shutdown may be asked for again.
tail_stands : (e : Endpoint) (asks : Bool) (ts : List Transition) → Turns e (packet_ends ∷ asked_again asks) ts → Handles e → Stands (after_all e ts)
tail_stands e asks [] turns h = absurd turns
tail_stands e asks (t ∷ ts) turns h =
    turns_stand t.outcome.after (asked_again asks) ts (asked_still asks) turns.1
    (settled_stands t.outcome.after (turn_options e packet_ends t.outcome turns.0.comes h.sends) (packet_end_is ⊥ ⊥ (Unit {0}) DelayingLayer SettledLayer settled_kept e t turns.0 h.delaying))

chunk_handles : (e : Endpoint) (tag : ℕ) (content : Content) (t : Transition) → IsTurn e (chunk_input tag content) t → Handles e → Handles t.outcome.after
chunk_handles e tag content t turn h =
    record {
      sends = turn_options e (chunk_input tag content) t.outcome turn.comes h.sends;
      delaying = turn_is (Unit {0}) (Unit {0}) (Unit {0}) DelayingLayer DelayingLayer delaying_kept e (chunk_input tag content) t (mild_content (Unit {0}) tag content) turn h.delaying;
    }

-- None of these is a COOKIE ECHO.
abbrev NoEchoes : List Content → Type 0
NoEchoes contents = AllByRecursion (λ content. IsEcho content → ⊥) contents

-- what follows a chunk
rest_stands : (following : Following) (e : Endpoint) (asks : Bool) (ts : List Transition) (More : Type 0) → (More → Stands (after_all e ts)) → (following ≡ dropped_rest → Stands e) → Handles e
    → AfterChunk following More (Turns e (packet_ends ∷ asked_again asks) ts) (ts ≡ []) → Stands (after_all e ts)
rest_stands next_chunk e asks ts More more ends h rest = more rest
rest_stands packet_end e asks ts More more ends h rest = tail_stands e asks ts rest h
rest_stands dropped_rest e asks ts More more ends h rest = none_stand e ts rest (ends refl)

-- A chunk that isn't a COOKIE ECHO drops the rest only where it ends the association.
ended_stands : ChunksAreControlled → (e : Endpoint) (tag : ℕ) (content : Content) (t : Transition) → (IsEcho content → ⊥) → IsTurn e (chunk_input tag content) t → Handles t.outcome.after
    → t.outcome.following ≡ dropped_rest → Stands t.outcome.after
ended_stands law e tag content t none turn h is =
    elim (dropped law e tag content t.outcome turn.comes is) [
      | inl ends ↦ closed_stands DelayingLayer t.outcome.after ends h.sends h.delaying
      | inr rests ↦ absurd (none rests.0)
    ]

chunks_stand : ChunksAreControlled → (e : Endpoint) (tag : ℕ) (contents : List Content) (asks : Bool) (ts : List Transition) → NoEchoes contents → Handles e
    → ChunkTurns e tag contents (packet_ends ∷ asked_again asks) ts → Stands (after_all e ts)
chunks_stand law e tag [] asks ts none h turns = tail_stands e asks ts turns h
chunks_stand law e tag (content ∷ contents) asks [] none h turns = absurd turns
chunks_stand law e tag (content ∷ contents) asks (t ∷ ts) none h turns =
    let after : Handles t.outcome.after = chunk_handles e tag content t turns.0 h in
    rest_stands t.outcome.following t.outcome.after asks ts (ChunkTurns t.outcome.after tag contents (packet_ends ∷ asked_again asks) ts)
    (λ rest. chunks_stand law t.outcome.after tag contents asks ts none.1 after rest) (ended_stands law e tag content t none.0 turns.0 after) after turns.1

-- A COOKIE ECHO that drops the rest leaves all as it was.
echo_may : (Delays : Type 0) (tag : ℕ) (content : Content) → IsEcho content → MayBe ⊥ Delays (Unit {0}) (chunk_input tag content)
echo_may Delays tag (init theirs) is = absurd is
echo_may Delays tag (init_ack theirs cookie) is = absurd is
echo_may Delays tag (cookie_echo cookie) is = tt
echo_may Delays tag cookie_ack is = absurd is
echo_may Delays tag (re_config parameters) is = absurd is
echo_may Delays tag (abort reflected causes) is = absurd is
echo_may Delays tag (shutdown tsn) is = absurd is
echo_may Delays tag shutdown_ack is = absurd is
echo_may Delays tag (shutdown_complete reflected) is = absurd is
echo_may Delays tag (plain chunk) is = absurd is

first_stands : ChunksAreControlled → (e : Endpoint) (tag : ℕ) (content : Content) (t : Transition) → IsTurn e (chunk_input tag content) t → Stands e → t.outcome.following ≡ dropped_rest → Stands t.outcome.after
first_stands law e tag content t turn h is =
    let after : Handles t.outcome.after = chunk_handles e tag content t turn (handles_of e h) in
    elim (dropped law e tag content t.outcome turn.comes is) [
      | inl ends ↦ closed_stands DelayingLayer t.outcome.after ends after.sends after.delaying
      | inr rests ↦
          record {
            sends = after.sends;
            pending = turn_pending e (chunk_input tag content) t (echo_may (Unit {0}) tag content rests.0) turn h.pending;
            settled = λ is_open. turn_settled e (chunk_input tag content) t (echo_may ⊥ tag content rests.0) turn (h.settled (subst IsOpen rests.1 is_open));
          }
    ]

packet_stands : ChunksAreControlled → (e : Endpoint) (tag : ℕ) (contents : List Content) (asks : Bool) (ts : List Transition) → NoEchoes (drop 1 contents) → Stands e
    → ChunkTurns e tag contents (packet_ends ∷ asked_again asks) ts → Stands (after_all e ts)
packet_stands law e tag [] asks ts none h turns = tail_stands e asks ts turns (handles_of e h)
packet_stands law e tag (content ∷ contents) asks [] none h turns = absurd turns
packet_stands law e tag (content ∷ contents) asks (t ∷ ts) none h turns =
    let after : Handles t.outcome.after = chunk_handles e tag content t turns.0 (handles_of e h) in
    rest_stands t.outcome.following t.outcome.after asks ts (ChunkTurns t.outcome.after tag contents (packet_ends ∷ asked_again asks) ts)
    (λ rest. chunks_stand law t.outcome.after tag contents asks ts none after rest) (first_stands law e tag content t turns.0 h) after turns.1

whole_stands : ChunksAreControlled → (e : Endpoint) (packet : Packet) (ts : List Transition) → NoEchoes (drop 1 packet.contents) → Stands e → WholeTurns e packet ts → Stands (after_all e ts)
whole_stands law e packet [] none h turns = absurd turns
whole_stands law e packet (t ∷ ts) none h turns =
    packet_stands law t.outcome.after packet.tag packet.contents (awaits_opening t.outcome.after t.outcome.after.core) ts none (still_stands e (packet_begins packet.contents) t tt turns.0 h) turns.1

-- only its SHUTDOWN ACKs
abbrev AreAcks : List Content → Type 0
AreAcks contents = AllByRecursion (λ content. content ≡ shutdown_ack) contents

acks_are : (contents : List Content) → AreAcks (shutdown_acks_of contents)
acks_are [] = tt
acks_are (init theirs ∷ contents) = acks_are contents
acks_are (init_ack theirs cookie ∷ contents) = acks_are contents
acks_are (cookie_echo cookie ∷ contents) = acks_are contents
acks_are (cookie_ack ∷ contents) = acks_are contents
acks_are (re_config parameters ∷ contents) = acks_are contents
acks_are (abort reflected causes ∷ contents) = acks_are contents
acks_are (shutdown tsn ∷ contents) = acks_are contents
acks_are (shutdown_ack ∷ contents) = (refl, acks_are contents)
acks_are (shutdown_complete reflected ∷ contents) = acks_are contents
acks_are (plain chunk ∷ contents) = acks_are contents

ack_rest : (following : Following) (e : Endpoint) (ts : List Transition) (More : Type 0) → (More → Stands (after_all e ts)) → Stands e → AfterChunk following More (Turns e [] ts) (ts ≡ []) → Stands (after_all e ts)
ack_rest next_chunk e ts More more h rest = more rest
ack_rest packet_end e ts More more h rest = turns_stand e [] ts tt rest h
ack_rest dropped_rest e ts More more h rest = none_stand e ts rest h

acks_stand : (e : Endpoint) (tag : ℕ) (contents : List Content) (ts : List Transition) → AreAcks contents → Stands e → ChunkTurns e tag contents [] ts → Stands (after_all e ts)
acks_stand e tag [] ts are h turns = turns_stand e [] ts tt turns h
acks_stand e tag (content ∷ contents) [] are h turns = absurd turns
acks_stand e tag (content ∷ contents) (t ∷ ts) are h turns =
    let after : Stands t.outcome.after = still_stands e (chunk_input tag content) t (subst (λ (c : Content). IsStill (chunk_input tag c)) (sym are.0) tt) turns.0 h in
    ack_rest t.outcome.following t.outcome.after ts (ChunkTurns t.outcome.after tag contents [] ts) (λ rest. acks_stand t.outcome.after tag contents ts are.1 after rest) after turns.1

admitted_stands : ChunksAreControlled → (e : Endpoint) (packet : Packet) (admission : Admission) (ts : List Transition) → NoEchoes (drop 1 packet.contents) → Stands e
    → AdmittedTurns e packet admission ts → Stands (after_all e ts)
admitted_stands law e packet all_chunks ts none h turns = whole_stands law e packet ts none h turns
admitted_stands law e packet shutdown_acks_alone ts none h turns = acks_stand e packet.tag (shutdown_acks_of packet.contents) ts (acks_are packet.contents) h turns
admitted_stands law e packet (refused text) ts none h turns = turns_stand e (refusal text ∷ []) ts (tt, tt) turns h

-- A packet that is read has a COOKIE ECHO in front alone.
no_echo : (chunk : ChunkContent) → is_cookie_echo chunk ≡ false → IsEcho (content_of_chunk chunk) → ⊥
no_echo (cookie_echo_chunk cookie) is echo = absurd (cc)
no_echo (init_chunk chunk) is echo = echo
no_echo (init_ack_chunk chunk) is echo = echo
no_echo (abort_chunk reflected causes) is echo = echo
no_echo cookie_ack_chunk is echo = echo
no_echo (re_config_chunk parameters) is echo = echo
no_echo (shutdown_chunk tsn) is echo = echo
no_echo shutdown_ack_chunk is echo = echo
no_echo (shutdown_complete_chunk reflected) is echo = echo
no_echo (unknown_chunk chunk_type flags value) is echo = echo
no_echo (heartbeat_chunk parameters) is echo = echo
no_echo (heartbeat_ack_chunk parameters) is echo = echo
no_echo (data_chunk chunk) is echo = echo
no_echo (sack_chunk chunk) is echo = echo
no_echo (error_chunk causes) is echo = echo
no_echo (i_data_chunk chunk) is echo = echo
no_echo (forward_tsn_chunk tsn streams) is echo = echo
no_echo (i_forward_tsn_chunk tsn streams) is echo = echo

no_echoes : (chunks : List ChunkContent) → AllByRecursion (λ chunk. is_cookie_echo chunk ≡ false) chunks → NoEchoes (map content_of_chunk chunks)
no_echoes [] none = tt
no_echoes (chunk ∷ chunks) none = (no_echo chunk none.0, no_echoes chunks none.1)

front_echoes : (chunks : List ChunkContent) → AllByRecursion (λ chunk. is_cookie_echo chunk ≡ false) (drop 1 chunks) → NoEchoes (drop 1 (map content_of_chunk chunks))
front_echoes [] none = tt
front_echoes (chunk ∷ chunks) none = no_echoes chunks none

pub input_stands : ChunksAreControlled → (e : Endpoint) (bytes : List ℕ) (ts : List Transition) → HandleInput e bytes ts → Stands e → Stands (after_all e ts)
input_stands law e bytes _ (unreadable ts none turns) h = turns_stand e (arrival ∷ refusal unreadable_text ∷ []) ts (tt, (tt, tt)) turns h
input_stands law e bytes _ (readable packet counted ts found counts turns) h =
    admitted_stands law counted.outcome.after (packet_of_content packet) (admits e.core (packet_of_content packet)) ts (front_echoes packet.chunks found.echo_in_front) (still_stands e arrival counted tt counts h) turns
