-- Lists of turns: the chunks of a packet, one list after another, and what no turn changes.
use Rattle.std.proofs.Common.{◌≡◌, ℕ, Bool, true, false, cond, List, [], ◌∷◌, ◌++◌, refl, rules, sym, subst, ap, ◌∙◌, arith}
use Rattle.dcsctp_spec_lemmas.specs.types.declared.word.Word.{Word}
use Rattle.dcsctp_spec_lemmas.specs.spec.Packet.{Introduction, Content, init, init_ack, cookie_echo, cookie_ack, re_config, abort, shutdown, shutdown_ack, shutdown_complete, plain, Emission}
use Rattle.dcsctp_spec_lemmas.specs.spec.endpoint.Endpoint.{Endpoint, Core, closed, cookie_wait, cookie_echoed, open_in, established, shutdown_pending, shutdown_sent, shutdown_received, shutdown_ack_sent}
use Rattle.dcsctp_spec_lemmas.specs.types.declared.options.Options.{Options}
use Rattle.dcsctp_spec_lemmas.specs.types.Settings.{SameOptions, ports_of}
use Rattle.dcsctp_spec_lemmas.specs.spec.endpoint.Outcome.{Outcome, count_up, fits, emits}
use Rattle.dcsctp_spec_lemmas.specs.spec.endpoint.Following.{Following, next_chunk, packet_end, dropped_rest}
use Rattle.dcsctp_spec_lemmas.specs.spec.endpoint.Event.{sent}
use Rattle.dcsctp_spec_lemmas.specs.spec.association.Controlled.{IsControlledChunk}
use Rattle.dcsctp_spec_lemmas.specs.spec.endpoint.Turn.{Input, chunk_input, ContentTurn}
use Rattle.dcsctp_spec_lemmas.specs.spec.endpoint.CallTurns.{Transition, IsTurn, Turns, AfterChunk, ChunkTurns, after_all}
use Rattle.dcsctp_spec_lemmas.specs.spec.endpoint.HandshakeOutcomes.{init_outcome}
use Rattle.dcsctp_spec_lemmas.proofs.OneAnswerLemmas.{init_by}
use Rattle.dcsctp_spec_laws.proofs.PlainLemmas.{plain_controlled}
use Rattle.dcsctp_spec_lemmas.proofs.ControlHandshake.{init_ack_controlled, cookie_ack_controlled, abort_controlled}
use Rattle.dcsctp_spec_laws.proofs.HeardShutdownLemmas.{shutdown_controlled}
use Rattle.dcsctp_spec_laws.proofs.ShutdownLemmas.{shutdown_ack_controlled, shutdown_complete_controlled}
use Rattle.dcsctp_spec_laws.proofs.ResetLemmas.{reset_controlled}
use Rattle.dcsctp_spec_lemmas.proofs.ControlEcho.{cookie_echo_controlled}

emits_keeps_options : (e : Endpoint) (words : List Word) (emission : Emission) → (emits e words emission).after.options ≡ e.options
emits_keeps_options e words emission = grind arith

init_keeps_options : (e : Endpoint) (theirs : Introduction) (core : Core) (word next : ℕ) → (init_outcome e theirs core word next).after.options ≡ e.options
init_keeps_options e theirs closed word next = search (rules, emits_keeps_options)
init_keeps_options e theirs (cookie_wait mine) word next = search (rules, emits_keeps_options)
init_keeps_options e theirs (cookie_echoed mine held cookie) word next = search (rules, emits_keeps_options)
init_keeps_options e theirs (open_in established mine held) word next = search (rules, emits_keeps_options)
init_keeps_options e theirs (open_in shutdown_pending mine held) word next = search (rules, emits_keeps_options)
init_keeps_options e theirs (open_in shutdown_sent mine held) word next = search (rules, emits_keeps_options)
init_keeps_options e theirs (open_in shutdown_received mine held) word next = search (rules, emits_keeps_options)
init_keeps_options e theirs (open_in shutdown_ack_sent mine held) word next = search (rules, emits_keeps_options)

-- ---- options

pub same_after : (p q r : Options) → SameOptions p q → SameOptions q r → SameOptions p r
same_after p q r first second = second ∙ ap (λ (x : Options). record x { max_message_size = r.max_message_size }) first

pub same_of_equal : (p q : Options) → q ≡ p → SameOptions p q
same_of_equal p q is = subst (SameOptions p) (sym is) refl

pub same_ports : (p q : Options) → SameOptions p q → ports_of q ≡ ports_of p
same_ports p q same = ap ports_of same

controlled_keeps : (e : Endpoint) (tag : ℕ) (content : Content) (o : Outcome) → IsControlledChunk e tag content o → SameOptions e.options o.after.options
controlled_keeps e tag content o turn = turn.2.options

-- The options stay for good, but for the longest message.
pub content_keeps_options : (e : Endpoint) (tag : ℕ) (content : Content) (o : Outcome) → ContentTurn e tag content o → SameOptions e.options o.after.options
content_keeps_options e tag (init theirs) o turn =
    same_of_equal e.options o.after.options
    (ap (λ (x : Outcome). x.after.options) turn.2
    ∙ init_by (λ (x : Outcome). x.after.options ≡ e.options) e theirs turn.0 turn.1 refl (init_keeps_options e theirs e.core turn.0 turn.1))
content_keeps_options e tag (init_ack theirs cookie) o turn = controlled_keeps e tag (init_ack theirs cookie) o (init_ack_controlled e tag theirs cookie o turn)
content_keeps_options e tag (cookie_echo cookie) o turn = controlled_keeps e tag (cookie_echo cookie) o (cookie_echo_controlled e tag cookie o turn)
content_keeps_options e tag cookie_ack o turn = controlled_keeps e tag cookie_ack o (cookie_ack_controlled e tag o turn)
content_keeps_options e tag (re_config parameters) o turn = controlled_keeps e tag (re_config parameters) o (reset_controlled e tag parameters o turn)
content_keeps_options e tag (abort reflected causes) o turn = controlled_keeps e tag (abort reflected causes) o (abort_controlled e tag reflected causes o turn)
content_keeps_options e tag (shutdown cumulative_tsn) o turn = controlled_keeps e tag (shutdown cumulative_tsn) o (shutdown_controlled e tag cumulative_tsn o turn)
content_keeps_options e tag shutdown_ack o turn = controlled_keeps e tag shutdown_ack o (shutdown_ack_controlled e tag o turn)
content_keeps_options e tag (shutdown_complete reflected) o turn = controlled_keeps e tag (shutdown_complete reflected) o (shutdown_complete_controlled e tag reflected o turn)
content_keeps_options e tag (plain chunk) o turn = controlled_keeps e tag (plain chunk) o (plain_controlled e tag chunk o turn)

goes_on_where : (b : Bool) (e : Endpoint) (words : List Word) (emission : Emission) → (cond b (let sends : Outcome = record {
  words = words;
  effects = [];
  after = record e { counts = record e.counts { packets_sent = count_up e.counts.packets_sent } };
  events = sent emission ∷ [];
  following = next_chunk;
} in sends) (record { words = words; effects = []; after = e; events = []; following = next_chunk })).following ≡ next_chunk
goes_on_where true e words emission = refl
goes_on_where false e words emission = refl

emits_goes_on : (e : Endpoint) (words : List Word) (emission : Emission) → (emits e words emission).following ≡ next_chunk
emits_goes_on e words emission = goes_on_where (fits e emission) e words emission

-- An INIT ends nothing: the chunk after it has its turn.
pub init_goes_on : (e : Endpoint) (theirs : Introduction) (core : Core) (word next : ℕ) → (init_outcome e theirs core word next).following ≡ next_chunk
init_goes_on e theirs closed word next = search (rules, emits_goes_on)
init_goes_on e theirs (cookie_wait mine) word next = search (rules, emits_goes_on)
init_goes_on e theirs (cookie_echoed mine held cookie) word next = search (rules, emits_goes_on)
init_goes_on e theirs (open_in established mine held) word next = search (rules, emits_goes_on)
init_goes_on e theirs (open_in shutdown_pending mine held) word next = search (rules, emits_goes_on)
init_goes_on e theirs (open_in shutdown_sent mine held) word next = search (rules, emits_goes_on)
init_goes_on e theirs (open_in shutdown_received mine held) word next = search (rules, emits_goes_on)
init_goes_on e theirs (open_in shutdown_ack_sent mine held) word next = search (rules, emits_goes_on)

-- ---- the chunks of a packet

-- After each of these a further chunk has its turn.
abbrev pub GoOn : List Transition → Type 0
GoOn [] = Unit {0}
GoOn (t ∷ ts) = (t.outcome.following ≡ next_chunk) × GoOn ts

pub GoOn-push : (ts : List Transition) (t : Transition) → GoOn ts → t.outcome.following ≡ next_chunk → GoOn (ts ++ t ∷ [])
GoOn-push [] t a b = (b, tt)
GoOn-push (p ∷ ts) t a b = (a.0, GoOn-push ts t a.1 b)

-- the other chunks, where a further chunk has its turn
pub further : (e : Endpoint) (tag : ℕ) (content : Content) (contents : List Content) (tail : List Input) (t : Transition) (ts : List Transition) → t.outcome.following ≡ next_chunk
    → ChunkTurns e tag (content ∷ contents) tail (t ∷ ts) → ChunkTurns t.outcome.after tag contents tail ts
further e tag content contents tail t ts goes_on turns =
    subst (λ (f : Following). AfterChunk f (ChunkTurns t.outcome.after tag contents tail ts) (Turns t.outcome.after tail ts) (ts ≡ [])) goes_on turns.1

pub and_further : (e : Endpoint) (tag : ℕ) (content : Content) (contents : List Content) (tail : List Input) (t : Transition) (ts : List Transition) → t.outcome.following ≡ next_chunk
    → IsTurn e (chunk_input tag content) t → ChunkTurns t.outcome.after tag contents tail ts → ChunkTurns e tag (content ∷ contents) tail (t ∷ ts)
and_further e tag content contents tail t ts goes_on turn rest =
    (turn, subst (λ (f : Following). AfterChunk f (ChunkTurns t.outcome.after tag contents tail ts) (Turns t.outcome.after tail ts) (ts ≡ [])) (sym goes_on) rest)

-- The ports stay for good.
pub chunk_turns_keep_ports : (e : Endpoint) (tag : ℕ) (contents : List Content) (ts : List Transition) → GoOn ts → ChunkTurns e tag contents [] ts → ports_of (after_all e ts).options ≡ ports_of e.options
chunk_turns_keep_ports e tag [] [] goes_on turns = refl
chunk_turns_keep_ports e tag [] (t ∷ ts) goes_on turns = absurd turns
chunk_turns_keep_ports e tag (content ∷ contents) [] goes_on turns = absurd turns
chunk_turns_keep_ports e tag (content ∷ contents) (t ∷ ts) goes_on turns =
    chunk_turns_keep_ports t.outcome.after tag contents ts goes_on.1 (further e tag content contents [] t ts goes_on.0 turns)
    ∙ same_ports e.options t.outcome.after.options (content_keeps_options e tag content t.outcome turns.0.comes)

-- the last chunk so far, whatever it says of further ones
last_chunk : (e : Endpoint) (tag : ℕ) (following : Following) → AfterChunk following (ChunkTurns e tag [] [] []) (Turns e [] []) (let none : List Transition = [] in none ≡ [])
last_chunk e tag next_chunk = tt
last_chunk e tag packet_end = tt
last_chunk e tag dropped_rest = refl

-- one chunk more
pub chunk_turns-push : (e : Endpoint) (tag : ℕ) (contents : List Content) (ts : List Transition) (content : Content) (t : Transition)
    → GoOn ts → ChunkTurns e tag contents [] ts → IsTurn (after_all e ts) (chunk_input tag content) t → ChunkTurns e tag (contents ++ content ∷ []) [] (ts ++ t ∷ [])
chunk_turns-push e tag [] [] content t goes_on turns turn = (turn, last_chunk t.outcome.after tag t.outcome.following)
chunk_turns-push e tag [] (p ∷ ts) content t goes_on turns turn = absurd turns
chunk_turns-push e tag (c ∷ contents) [] content t goes_on turns turn = absurd turns
chunk_turns-push e tag (c ∷ contents) (p ∷ ts) content t goes_on turns turn =
    and_further e tag c (contents ++ content ∷ []) [] p (ts ++ t ∷ []) goes_on.0 turns.0
    (chunk_turns-push p.outcome.after tag contents ts content t goes_on.1 (further e tag c contents [] p ts goes_on.0 turns) turn)

-- The chunks after one that drops the rest have no turn, nor has the end of the packet.
pub chunk_turns-end : (e : Endpoint) (tag : ℕ) (contents : List Content) (tail : List Input) (ts : List Transition) (content : Content) (t : Transition) (rest : List Content)
    → GoOn ts → ChunkTurns e tag contents [] ts → IsTurn (after_all e ts) (chunk_input tag content) t → t.outcome.following ≡ dropped_rest
    → ChunkTurns e tag (contents ++ content ∷ rest) tail (ts ++ t ∷ [])
chunk_turns-end e tag [] tail [] content t rest goes_on turns turn drops =
    let none : List Transition = [] in
    (turn, subst (λ (f : Following). AfterChunk f (ChunkTurns t.outcome.after tag rest tail none) (Turns t.outcome.after tail none) (none ≡ [])) (sym drops) refl)
chunk_turns-end e tag [] tail (p ∷ ts) content t rest goes_on turns turn drops = absurd turns
chunk_turns-end e tag (c ∷ contents) tail [] content t rest goes_on turns turn drops = absurd turns
chunk_turns-end e tag (c ∷ contents) tail (p ∷ ts) content t rest goes_on turns turn drops =
    and_further e tag c (contents ++ content ∷ rest) tail p (ts ++ t ∷ []) goes_on.0 turns.0
    (chunk_turns-end p.outcome.after tag contents tail ts content t rest goes_on.1 (further e tag c contents [] p ts goes_on.0 turns) turn drops)

-- The chunks after one that ends the packet have no turn, and the packet's end comes.
pub chunk_turns-cut : (e : Endpoint) (tag : ℕ) (contents : List Content) (tail : List Input) (ts : List Transition) (content : Content) (t : Transition) (rest : List Content) (more : List Transition)
    → GoOn ts → ChunkTurns e tag contents [] ts → IsTurn (after_all e ts) (chunk_input tag content) t → t.outcome.following ≡ packet_end → Turns t.outcome.after tail more
    → ChunkTurns e tag (contents ++ content ∷ rest) tail (ts ++ t ∷ more)
chunk_turns-cut e tag [] tail [] content t rest more goes_on turns turn cuts end =
    (turn, subst (λ (f : Following). AfterChunk f (ChunkTurns t.outcome.after tag rest tail more) (Turns t.outcome.after tail more) (more ≡ [])) (sym cuts) end)
chunk_turns-cut e tag [] tail (p ∷ ts) content t rest more goes_on turns turn cuts end = absurd turns
chunk_turns-cut e tag (c ∷ contents) tail [] content t rest more goes_on turns turn cuts end = absurd turns
chunk_turns-cut e tag (c ∷ contents) tail (p ∷ ts) content t rest more goes_on turns turn cuts end =
    and_further e tag c (contents ++ content ∷ rest) tail p (ts ++ t ∷ more) goes_on.0 turns.0
    (chunk_turns-cut p.outcome.after tag contents tail ts content t rest more goes_on.1 (further e tag c contents [] p ts goes_on.0 turns) turn cuts end)

-- Where no chunk dropped the rest, the packet's end comes after them.
pub chunk_turns-whole : (e : Endpoint) (tag : ℕ) (contents : List Content) (tail : List Input) (ts more : List Transition)
    → GoOn ts → ChunkTurns e tag contents [] ts → Turns (after_all e ts) tail more → ChunkTurns e tag contents tail (ts ++ more)
chunk_turns-whole e tag [] tail [] more goes_on turns end = end
chunk_turns-whole e tag [] tail (p ∷ ts) more goes_on turns end = absurd turns
chunk_turns-whole e tag (c ∷ contents) tail [] more goes_on turns end = absurd turns
chunk_turns-whole e tag (c ∷ contents) tail (p ∷ ts) more goes_on turns end =
    and_further e tag c contents tail p (ts ++ more) goes_on.0 turns.0
    (chunk_turns-whole p.outcome.after tag contents tail ts more goes_on.1 (further e tag c contents [] p ts goes_on.0 turns) end)
