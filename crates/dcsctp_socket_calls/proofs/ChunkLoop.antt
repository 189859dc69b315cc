-- The chunks of a packet are handled one after another.
use Rattle.std.proofs.Common.{◌≡◌, ℕ, ◌+◌, ◌<◌, List, [], ◌∷◌, ◌++◌, length, map, take, drop, get_or, refl, sym, ap, subst, ◌∙◌, append_assoc}
use Rattle.std.proofs.lemmas.List.{take_more, take-map, map-append, take-append-drop}
use Rattle.dcsctp_core.specs.wire.declared.chunk.Chunk.{Chunk}
use Rattle.dcsctp_core.specs.wire.Content.{ChunkContent, chunk_content}
use Rattle.dcsctp_core.specs.spec.Packet.{Content, content_of_chunk}
use Rattle.dcsctp_core.specs.spec.endpoint.Endpoint.{Endpoint}
use Rattle.dcsctp_core.specs.spec.endpoint.Outcome.{Outcome}
use Rattle.dcsctp_core.specs.types.Settings.{ports_of}
use Rattle.dcsctp_core.specs.spec.endpoint.Following.{packet_end, dropped_rest}
use Rattle.dcsctp_core.specs.spec.endpoint.Turn.{Input, chunk_input, ContentTurn}
use Rattle.dcsctp_core.specs.spec.endpoint.CallTurns.{Transition, transition, IsTurn, Turns, ChunkTurns, FirstTurns, after_all}
use Rattle.dcsctp_spec_laws.proofs.TurnLemmas.{GoOn, chunk_turns-push, chunk_turns-end, chunk_turns-cut, content_keeps_options, same_ports}
use Rattle.dcsctp_core.proofs.spec_lemmas.TurnLists.{after_all-append}

-- what the chunks of a packet say
abbrev pub contents_of : List Chunk → List Content
contents_of chunks = map content_of_chunk (map chunk_content chunks)

pub contents_append : (xs ys : List Chunk) → contents_of (xs ++ ys) ≡ contents_of xs ++ contents_of ys
contents_append xs ys = ap (λ (cs : List ChunkContent). map content_of_chunk cs) (map-append chunk_content xs ys) ∙ map-append content_of_chunk (map chunk_content xs) (map chunk_content ys)

-- what the chunks up to one place more say
pub contents_more : (chunks : List Chunk) (i : ℕ) (chunk : Chunk) → i < length chunks → chunk ≡ get_or chunks i chunk
    → contents_of (take (i + 1) chunks) ≡ contents_of (take i chunks) ++ content_of_chunk (chunk_content chunk) ∷ []
contents_more chunks i chunk below is =
    let one : take (i + 1) chunks ≡ take i chunks ++ chunk ∷ [] = take_more chunks i chunk below ∙ ap (λ (c : Chunk). take i chunks ++ c ∷ []) (sym is) in
    ap contents_of one ∙ contents_append (take i chunks) (chunk ∷ [])

-- what all chunks say, from those up to one place on
pub contents_split : (chunks : List Chunk) (i : ℕ) (chunk : Chunk) → i < length chunks → chunk ≡ get_or chunks i chunk
    → contents_of chunks ≡ contents_of (take i chunks) ++ content_of_chunk (chunk_content chunk) ∷ contents_of (drop (i + 1) chunks)
contents_split chunks i chunk below is =
    let after = contents_of (drop (i + 1) chunks) in
    ap contents_of (sym (take-append-drop (i + 1) chunks))
    ∙ contents_append (take (i + 1) chunks) (drop (i + 1) chunks)
    ∙ ap (λ (cs : List Content). cs ++ after) (contents_more chunks i chunk below is)
    ∙ append_assoc (contents_of (take i chunks)) (content_of_chunk (chunk_content chunk) ∷ []) after

-- a chunk's turn
abbrev pub worked_as : ℕ → Content → Outcome → Transition
worked_as tag content outcome = transition (chunk_input tag content) outcome

pub is_worked : (e now : Endpoint) (tag : ℕ) (content : Content) (outcome : Outcome) → now ≡ e → ContentTurn now tag content outcome → IsTurn e (chunk_input tag content) (worked_as tag content outcome)
is_worked e now tag content outcome here turn = record { is = refl; comes = subst (λ (x : Endpoint). ContentTurn x tag content outcome) here turn }

-- One more chunk is handled.
pub turns_more : (e now : Endpoint) (tag : ℕ) (chunks : List Chunk) (i : ℕ) (chunk : Chunk) (turns : List Transition) (outcome : Outcome)
    → i < length chunks → chunk ≡ get_or chunks i chunk
    → GoOn turns → ChunkTurns e tag (contents_of (take i chunks)) [] turns
    → now ≡ after_all e turns
    → ContentTurn now tag (content_of_chunk (chunk_content chunk)) outcome
    → ChunkTurns e tag (contents_of (take (i + 1) chunks)) [] (turns ++ worked_as tag (content_of_chunk (chunk_content chunk)) outcome ∷ [])
turns_more e now tag chunks i chunk turns outcome below is goes_on are here turn =
    let content = content_of_chunk (chunk_content chunk) in
    subst (λ (contents : List Content). ChunkTurns e tag contents [] (turns ++ worked_as tag content outcome ∷ [])) (sym (contents_more chunks i chunk below is))
    (chunk_turns-push e tag (contents_of (take i chunks)) turns content (worked_as tag content outcome) goes_on are
    (is_worked (after_all e turns) now tag content outcome here turn))

-- ---- where the rest of the packet is dropped

pub turns_end : (e now : Endpoint) (tag : ℕ) (chunks : List Chunk) (i : ℕ) (chunk : Chunk) (turns : List Transition) (outcome : Outcome) (ends : List Input)
    → i < length chunks → chunk ≡ get_or chunks i chunk
    → GoOn turns → ChunkTurns e tag (contents_of (take i chunks)) [] turns
    → now ≡ after_all e turns
    → ContentTurn now tag (content_of_chunk (chunk_content chunk)) outcome
    → outcome.following ≡ dropped_rest
    → ChunkTurns e tag (contents_of chunks) ends (turns ++ worked_as tag (content_of_chunk (chunk_content chunk)) outcome ∷ [])
turns_end e now tag chunks i chunk turns outcome ends below is goes_on are here turn drops =
    let content = content_of_chunk (chunk_content chunk) in
    subst (λ (contents : List Content). ChunkTurns e tag contents ends (turns ++ worked_as tag content outcome ∷ [])) (sym (contents_split chunks i chunk below is))
    (chunk_turns-end e tag (contents_of (take i chunks)) ends turns content (worked_as tag content outcome) (contents_of (drop (i + 1) chunks)) goes_on are
    (is_worked (after_all e turns) now tag content outcome here turn) drops)

-- ---- a whole packet

pub worked_keeps_ports : (e : Endpoint) (tag : ℕ) (content : Content) (o : Outcome) → ContentTurn e tag content o → ports_of o.after.options ≡ ports_of e.options
worked_keeps_ports e tag content o turn = same_ports e.options o.after.options (content_keeps_options e tag content o turn)

-- One chunk cut the others, and then comes what follows them.
pub turns_cut : (e now : Endpoint) (tag : ℕ) (chunks : List Chunk) (i : ℕ) (chunk : Chunk) (turns : List Transition) (outcome : Outcome) (ends : List Input) (last : List Transition)
    → i < length chunks → chunk ≡ get_or chunks i chunk
    → GoOn turns → ChunkTurns e tag (contents_of (take i chunks)) [] turns
    → now ≡ after_all e turns
    → ContentTurn now tag (content_of_chunk (chunk_content chunk)) outcome
    → outcome.following ≡ packet_end
    → Turns (after_all e (turns ++ worked_as tag (content_of_chunk (chunk_content chunk)) outcome ∷ [])) ends last
    → ChunkTurns e tag (contents_of chunks) ends ((turns ++ worked_as tag (content_of_chunk (chunk_content chunk)) outcome ∷ []) ++ last)
turns_cut e now tag chunks i chunk turns outcome ends last below is goes_on are here turn cuts come =
    let content = content_of_chunk (chunk_content chunk) in
    let worked : Transition = worked_as tag content outcome in
    let here_come : Turns outcome.after ends last = subst (λ (x : Endpoint). Turns x ends last) (after_all-append e turns (worked ∷ [])) come in
    let all : ChunkTurns e tag (contents_of chunks) ends (turns ++ worked ∷ last) =
    subst (λ (contents : List Content). ChunkTurns e tag contents ends (turns ++ worked ∷ last)) (sym (contents_split chunks i chunk below is))
    (chunk_turns-cut e tag (contents_of (take i chunks)) ends turns content worked (contents_of (drop (i + 1) chunks)) last goes_on are
    (is_worked (after_all e turns) now tag content outcome here turn) cuts here_come) in
    subst (λ (ts : List Transition). ChunkTurns e tag (contents_of chunks) ends ts) (sym (append_assoc turns (worked ∷ []) last)) all

-- The ports stay over one turn more.
pub ports_more : (e now : Endpoint) (tag : ℕ) (content : Content) (turns : List Transition) (outcome : Outcome) → now ≡ after_all e turns → ContentTurn now tag content outcome
    → ports_of (after_all e turns).options ≡ ports_of e.options → ports_of (after_all e (turns ++ worked_as tag content outcome ∷ [])).options ≡ ports_of e.options
ports_more e now tag content turns outcome here turn same =
    ap (λ (x : Endpoint). ports_of x.options) (after_all-append e turns (worked_as tag content outcome ∷ []))
    ∙ worked_keeps_ports now tag content outcome turn
    ∙ ap (λ (x : Endpoint). ports_of x.options) here
    ∙ same

-- ---- where an allocation failed

contents_taken : (count : ℕ) (chunks : List Chunk) → contents_of (take count chunks) ≡ take count (contents_of chunks)
contents_taken count chunks =
    ap (λ (cs : List ChunkContent). map content_of_chunk cs) (sym (take-map chunk_content count chunks)) ∙ sym (take-map content_of_chunk count (map chunk_content chunks))

-- These chunks are the first ones.
pub first_turns : (e : Endpoint) (tag : ℕ) (chunks : List Chunk) (count : ℕ) (turns : List Transition)
    → ChunkTurns e tag (contents_of (take count chunks)) [] turns → FirstTurns e tag (contents_of chunks) turns
first_turns e tag chunks count turns are = (count, subst (λ (contents : List Content). ChunkTurns e tag contents [] turns) (contents_taken count chunks) are)
