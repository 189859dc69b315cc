-- The SHUTDOWN ACK chunks of a packet are handled one after another.
use Rattle.std.proofs.Common.{◌≡◌, ℕ, ◌+◌, ◌<◌, Bool, true, false, Option, None, Some, List, [], ◌∷◌, ◌++◌, length, take, drop, get_or, refl, sym, ap, subst, ◌∙◌}
use Rattle.std.specs.List.{AllByRecursion}
use Rattle.std.proofs.lemmas.List.{take-append-drop}
use Rattle.std.proofs.Math.Seq.{take-append_seam}
use Rattle.dcsctp_core.specs.wire.declared.chunk.Chunk.{Chunk}
use Rattle.dcsctp_core.specs.wire.declared.chunk.Chunk.TheVariants as kinds
use Rattle.dcsctp_core.specs.wire.Content.{chunk_content}
use Rattle.dcsctp_core.specs.spec.Packet.{Packet, Content, init, init_ack, cookie_echo, cookie_ack, re_config, abort, shutdown, shutdown_ack, shutdown_complete, plain, content_of_chunk}
use Rattle.dcsctp_core.specs.types.declared.association.Pair.{Pair}
use Rattle.dcsctp_core.specs.types.declared.association.Held.{Held}
use Rattle.dcsctp_core.specs.spec.endpoint.Endpoint.{Endpoint, Core, closed, cookie_wait, cookie_echoed, open_in, OpenPhase}
use Rattle.dcsctp_core.specs.spec.endpoint.Following.{next_chunk, packet_end}
use Rattle.dcsctp_core.specs.spec.Admission.{shutdown_acks_alone, shutdown_acks_of, all_chunks_or_none, admission_by_answers, admits}
use Rattle.dcsctp_core.specs.spec.endpoint.CallTurns.{Transition, IsTurn, ChunkTurns, after_all}
use Rattle.dcsctp_core.specs.spec.endpoint.Turn.{chunk_input}
use Rattle.dcsctp_spec_laws.proofs.TurnLemmas.{GoOn, further, and_further, chunk_turns-cut}
use Rattle.dcsctp_core_ends.specs.Shutdown.{is_open_core}
use Rattle.dcsctp_socket_calls.proofs.ChunkLoop.{contents_of, contents_append, contents_more, contents_split}

-- ---- where they are handled alone

where_never : (b : Bool) (text : List ℕ) → all_chunks_or_none b text ≡ shutdown_acks_alone → true ≡ false
where_never true text is = absurd (cc)
where_never false text is = absurd (cc)

-- An open association admits no packet so.
open_never : (phase : OpenPhase) (my : Pair) (held : Held) (packet : Packet) (aborts completes : Option Bool) (acks echo zero : Bool)
    → admission_by_answers (open_in phase my held) packet aborts completes acks echo zero ≡ shutdown_acks_alone → true ≡ false
open_never phase my held packet (Some reflected) completes acks echo zero is = where_never _ _ is
open_never phase my held packet None (Some reflected) acks echo zero is = where_never _ _ is
open_never phase my held packet None None true echo zero is = where_never _ _ is
open_never phase my held packet None None false true zero is = absurd (cc)
open_never phase my held packet None None false false true is = where_never _ _ is
open_never phase my held packet None None false false false is = where_never _ _ is

pub alone_is_shut : (core : Core) (packet : Packet) → admits core packet ≡ shutdown_acks_alone → is_open_core core ≡ false
alone_is_shut closed packet is = refl
alone_is_shut (cookie_wait my) packet is = refl
alone_is_shut (cookie_echoed my held cookie) packet is = refl
alone_is_shut (open_in phase my held) packet is = open_never phase my held packet _ _ _ _ _ is

-- ---- the loop

pub acks_append : (xs ys : List Content) → shutdown_acks_of (xs ++ ys) ≡ shutdown_acks_of xs ++ shutdown_acks_of ys
acks_append [] ys = refl
acks_append (init theirs ∷ xs) ys = acks_append xs ys
acks_append (init_ack theirs cookie ∷ xs) ys = acks_append xs ys
acks_append (cookie_echo cookie ∷ xs) ys = acks_append xs ys
acks_append (cookie_ack ∷ xs) ys = acks_append xs ys
acks_append (re_config parameters ∷ xs) ys = acks_append xs ys
acks_append (abort reflected causes ∷ xs) ys = acks_append xs ys
acks_append (shutdown tsn ∷ xs) ys = acks_append xs ys
acks_append (shutdown_ack ∷ xs) ys = ap (λ (cs : List Content). shutdown_ack ∷ cs) (acks_append xs ys)
acks_append (shutdown_complete reflected ∷ xs) ys = acks_append xs ys
acks_append (plain chunk ∷ xs) ys = acks_append xs ys

-- those of the chunks
abbrev pub acks_of : List Chunk → List Content
acks_of chunks = shutdown_acks_of (contents_of chunks)

acks_more : (chunks : List Chunk) (i : ℕ) (chunk : Chunk) → i < length chunks → chunk ≡ get_or chunks i chunk
    → acks_of (take (i + 1) chunks) ≡ acks_of (take i chunks) ++ shutdown_acks_of (content_of_chunk (chunk_content chunk) ∷ [])
acks_more chunks i chunk below is = ap shutdown_acks_of (contents_more chunks i chunk below is) ∙ acks_append (contents_of (take i chunks)) (content_of_chunk (chunk_content chunk) ∷ [])

-- another chunk is none
pub no_ack : (chunk : Chunk) → (chunk ≡ kinds.ShutdownAck → ⊥) → shutdown_acks_of (content_of_chunk (chunk_content chunk) ∷ []) ≡ []
no_ack kinds.ShutdownAck other = absurd (other refl)
no_ack (kinds.Data chunk) other = refl
no_ack (kinds.Init chunk) other = refl
no_ack (kinds.InitAck chunk) other = refl
no_ack (kinds.Sack chunk) other = refl
no_ack (kinds.HeartbeatRequest chunk) other = refl
no_ack (kinds.HeartbeatAck chunk) other = refl
no_ack (kinds.Abort chunk) other = refl
no_ack (kinds.Shutdown chunk) other = refl
no_ack (kinds.Error chunk) other = refl
no_ack (kinds.CookieEcho chunk) other = refl
no_ack kinds.CookieAck other = refl
no_ack (kinds.ShutdownComplete chunk) other = refl
no_ack (kinds.IData chunk) other = refl
no_ack (kinds.ReConfig chunk) other = refl
no_ack (kinds.ForwardTsn chunk) other = refl
no_ack (kinds.IForwardTsn chunk) other = refl
no_ack (kinds.Unknown chunk) other = refl

-- ---- turns one after another

pub turns_append : (e : Endpoint) (tag : ℕ) (xs ys : List Content) (ts us : List Transition) → GoOn ts → ChunkTurns e tag xs [] ts → ChunkTurns (after_all e ts) tag ys [] us
    → ChunkTurns e tag (xs ++ ys) [] (ts ++ us)
turns_append e tag [] ys [] us goes_on first second = second
turns_append e tag [] ys (t ∷ ts) us goes_on first second = absurd first
turns_append e tag (x ∷ xs) ys [] us goes_on first second = absurd first
turns_append e tag (x ∷ xs) ys (t ∷ ts) us goes_on first second =
    and_further e tag x (xs ++ ys) [] t (ts ++ us) goes_on.0 first.0 (turns_append t.outcome.after tag xs ys ts us goes_on.1 (further e tag x xs [] t ts goes_on.0 first) second)

pub go_on_of : (ts : List Transition) → AllByRecursion (λ (turn : Transition). turn.outcome.following ≡ next_chunk) ts → GoOn ts
go_on_of [] each = tt
go_on_of (t ∷ ts) each = (each.0, go_on_of ts each.1)

pub go_on_append : (ts us : List Transition) → GoOn ts → GoOn us → GoOn (ts ++ us)
go_on_append [] us first second = second
go_on_append (t ∷ ts) us first second = (first.0, go_on_append ts us first.1 second)

-- One chunk more had its turn, where it is a SHUTDOWN ACK.
pub ack_more : (e now : Endpoint) (tag : ℕ) (list : List Chunk) (i : ℕ) (chunk : Chunk) (ts us : List Transition) → i < length list → chunk ≡ get_or list i chunk
    → GoOn ts → ChunkTurns e tag (acks_of (take i list)) [] ts → now ≡ after_all e ts → ChunkTurns now tag (shutdown_acks_of (content_of_chunk (chunk_content chunk) ∷ [])) [] us
    → ChunkTurns e tag (acks_of (take (i + 1) list)) [] (ts ++ us)
ack_more e now tag list i chunk ts us below is goes_on first here second =
    subst (λ (contents : List Content). ChunkTurns e tag contents [] (ts ++ us)) (sym (acks_more list i chunk below is))
    (turns_append e tag (acks_of (take i list)) (shutdown_acks_of (content_of_chunk (chunk_content chunk) ∷ [])) ts us goes_on first
    (subst (λ (x : Endpoint). ChunkTurns x tag (shutdown_acks_of (content_of_chunk (chunk_content chunk) ∷ [])) [] us) here second))

-- One chunk more had its turn, a SHUTDOWN ACK after which no other has one.
pub acks_cut : (e now : Endpoint) (tag : ℕ) (list : List Chunk) (i : ℕ) (chunk : Chunk) (ts : List Transition) (last : Transition) → i < length list → chunk ≡ get_or list i chunk
    → GoOn ts → ChunkTurns e tag (acks_of (take i list)) [] ts → now ≡ after_all e ts → content_of_chunk (chunk_content chunk) ≡ shutdown_ack
    → IsTurn now (chunk_input tag (content_of_chunk (chunk_content chunk))) last → last.outcome.following ≡ packet_end
    → ChunkTurns e tag (acks_of list) [] (ts ++ last ∷ [])
acks_cut e now tag list i chunk ts last below is goes_on first here ack comes ends =
    let content : Content = content_of_chunk (chunk_content chunk) in
    let front : List Content = acks_of (take i list) in
    let rest : List Content = contents_of (drop (i + 1) list) in
    let split : acks_of list ≡ front ++ content ∷ shutdown_acks_of rest =
    ap shutdown_acks_of (contents_split list i chunk below is) ∙ acks_append (contents_of (take i list)) (content ∷ rest)
    ∙ ap (λ (c : Content). front ++ shutdown_acks_of (c ∷ rest)) ack ∙ ap (λ (c : Content). front ++ c ∷ shutdown_acks_of rest) (sym ack) in
    subst (λ (contents : List Content). ChunkTurns e tag contents [] (ts ++ last ∷ [])) (sym split)
    (chunk_turns-cut e tag front [] ts content last (shutdown_acks_of rest) [] goes_on first (subst (λ (x : Endpoint). IsTurn x (chunk_input tag content) last) here comes) ends tt)

-- those of the first chunks are the first of them
pub acks_first : (chunks : List Chunk) (i : ℕ) → acks_of (take i chunks) ≡ take (length (acks_of (take i chunks))) (acks_of chunks)
acks_first list i =
    let front : List Content = acks_of (take i list) in
    let rest : List Content = acks_of (drop i list) in
    let whole : acks_of list ≡ front ++ rest = ap acks_of (sym (take-append-drop i list)) ∙ ap shutdown_acks_of (contents_append (take i list) (drop i list)) ∙ acks_append (contents_of (take i list)) (contents_of (drop i list)) in
    sym (ap (take (length front)) whole ∙ take-append_seam front rest)
