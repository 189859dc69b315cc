-- The turns of a packet are a delivery to the association.
use Rattle.std.proofs.Common.{◌≡◌, ℕ, Bool, true, false, Option, None, Some, Result, Ok, Err, List, [], ◌∷◌, ◌++◌, refl, sym, subst, ap, ◌∙◌}
use Rattle.dcsctp_spec_lemmas.specs.spec.Packet.{Introduction, Content, init, init_ack, cookie_echo, cookie_ack, re_config, abort, shutdown, shutdown_ack, shutdown_complete, plain, Packet}
use Rattle.dcsctp_spec_lemmas.specs.types.Settings.{SameOptions}
use Rattle.dcsctp_spec_lemmas.specs.spec.Cookie.{Cookie, cookie_of_bytes}
use Rattle.dcsctp_spec_lemmas.specs.spec.endpoint.Endpoint.{Endpoint, Core, closed, cookie_wait, cookie_echoed, open_in, established, shutdown_pending, shutdown_sent, shutdown_received, shutdown_ack_sent}
use Rattle.dcsctp_spec_lemmas.specs.spec.endpoint.Following.{Following, next_chunk, packet_end, dropped_rest}
use Rattle.dcsctp_spec_lemmas.specs.spec.association.Effect.{Change}
use Rattle.dcsctp_spec_lemmas.specs.spec.association.Choices.{Choices}
use Rattle.dcsctp_spec_lemmas.specs.spec.association.HandshakeChanges.{connect_change, init_change, answered_init_change, init_ack_change}
use Rattle.dcsctp_spec_lemmas.specs.spec.association.CookieEchoChanges.{Resolution, establish_new, restart, simultaneous_init, discard, maintain_existing, invalid_tag, stale, aged_resolution, resolve, resolved_change, read_echo_change}
use Rattle.dcsctp_spec_lemmas.specs.spec.association.Acts.{chunk_change}
use Rattle.dcsctp_spec_lemmas.specs.spec.association.Controlled.{IsControlled, IsControlledChunk}
use Rattle.dcsctp_spec_runs.specs.Laws.{FitsTurns, FitsBehind, AllControlled, IsRest, dropped, ended, AreChunkTurns, AdmittedPacketsMayBeHandled, PacketsAreControlled, DeliversPacket, whole, acks, reported, DeliveriesAreControlled}
use Rattle.dcsctp_spec_laws.specs.TurnLaws.{StandsBefore, ChunksAreControlled}
use Rattle.dcsctp_spec_lemmas.specs.spec.Admission.{Admission, all_chunks, shutdown_acks_alone, refused, admits, shutdown_acks_of}
use Rattle.dcsctp_spec_lemmas.specs.spec.endpoint.Turn.{Input, has_data_chunk}
use Rattle.dcsctp_spec_lemmas.specs.spec.endpoint.CallTurns.{packet_tail, Transition, Turns, AfterChunk, ChunkTurns, WholeTurns, AdmittedTurns, after_all}
use Rattle.dcsctp_spec_runs.specs.World.{MayBeHandled, ChunkChanges}
use Rattle.dcsctp_spec_lemmas.specs.types.declared.options.Options.{Options}
use Rattle.dcsctp_spec_laws.proofs.ControlLemmas.{stands_before}

-- ---- options that differ in the longest message alone

abbrev longest : Options → ℕ → Options
longest p n = record p { max_message_size = n }

resolved_same : (p : Options) (n : ℕ) (core : Core) (cookie : Cookie) (choices : Choices) (resolution : Resolution)
    → resolved_change (longest p n) core cookie choices resolution ≡ resolved_change p core cookie choices resolution
resolved_same p n core cookie choices establish_new = refl
resolved_same p n closed cookie choices restart = refl
resolved_same p n (cookie_wait my) cookie choices restart = refl
resolved_same p n (cookie_echoed my held echoed) cookie choices restart = refl
resolved_same p n (open_in established my held) cookie choices restart = refl
resolved_same p n (open_in shutdown_pending my held) cookie choices restart = refl
resolved_same p n (open_in shutdown_sent my held) cookie choices restart = refl
resolved_same p n (open_in shutdown_received my held) cookie choices restart = refl
resolved_same p n (open_in shutdown_ack_sent my held) cookie choices restart = refl
resolved_same p n core cookie choices simultaneous_init = refl
resolved_same p n core cookie choices discard = refl
resolved_same p n core cookie choices maintain_existing = refl
resolved_same p n core cookie choices invalid_tag = refl
resolved_same p n core cookie choices stale = refl

echo_same : (p : Options) (n : ℕ) (core : Core) (header : ℕ) (read : Result Cookie (List ℕ)) (choices : Choices)
    → read_echo_change (longest p n) core header read choices ≡ read_echo_change p core header read choices
echo_same p n core header (Ok cookie) choices = resolved_same p n core cookie choices (aged_resolution choices.is_stale (resolve core choices.tie choices.secret header cookie))
echo_same p n core header (Err text) choices = refl

init_same : (p : Options) (n : ℕ) (core : Core) (theirs : Introduction) (choices : Choices) → init_change (longest p n) core theirs choices ≡ init_change p core theirs choices
init_same p n closed theirs choices = refl
init_same p n (cookie_wait my) theirs choices = refl
init_same p n (cookie_echoed my held cookie) theirs choices = refl
init_same p n (open_in established my held) theirs choices = refl
init_same p n (open_in shutdown_pending my held) theirs choices = refl
init_same p n (open_in shutdown_sent my held) theirs choices = refl
init_same p n (open_in shutdown_received my held) theirs choices = refl
init_same p n (open_in shutdown_ack_sent my held) theirs choices = refl

init_ack_same : (p : Options) (n : ℕ) (core : Core) (theirs : Introduction) (cookie : Option (List ℕ)) (choices : Choices)
    → init_ack_change (longest p n) core theirs cookie choices ≡ init_ack_change p core theirs cookie choices
init_ack_same p n closed theirs cookie choices = refl
init_ack_same p n (cookie_wait my) theirs None choices = refl
init_ack_same p n (cookie_wait my) theirs (Some cookie) choices = refl
init_ack_same p n (cookie_echoed my held echoed) theirs cookie choices = refl
init_ack_same p n (open_in phase my held) theirs cookie choices = refl

pub longest_connects : (p : Options) (n : ℕ) (core : Core) (choices : Choices) → connect_change (longest p n) core choices ≡ connect_change p core choices
longest_connects p n closed choices = refl
longest_connects p n (cookie_wait my) choices = refl
longest_connects p n (cookie_echoed my held cookie) choices = refl
longest_connects p n (open_in phase my held) choices = refl

answered_init_same : (may : Bool) (p : Options) (n : ℕ) (core : Core) (theirs : Introduction) (choices : Choices)
    → answered_init_change may (longest p n) core theirs choices ≡ answered_init_change may p core theirs choices
answered_init_same false p n core theirs choices = refl
answered_init_same true p n core theirs choices = init_same p n core theirs choices

pub chunk_same : (p : Options) (n : ℕ) (core : Core) (header : ℕ) (content : Content) (choices : Choices)
    → chunk_change (longest p n) core header content choices ≡ chunk_change p core header content choices
chunk_same p n core header (init theirs) choices = answered_init_same choices.may_answer p n core theirs choices
chunk_same p n core header (init_ack theirs cookie) choices = init_ack_same p n core theirs cookie choices
chunk_same p n core header (cookie_echo cookie) choices = echo_same p n core header (cookie_of_bytes cookie) choices
chunk_same p n core header cookie_ack choices = refl
chunk_same p n core header (re_config parameters) choices = refl
chunk_same p n core header (abort reflected causes) choices = refl
chunk_same p n core header (shutdown tsn) choices = refl
chunk_same p n core header shutdown_ack choices = refl
chunk_same p n core header (shutdown_complete reflected) choices = refl
chunk_same p n core header (plain chunk) choices = refl

chunks_same : (p : Options) (n : ℕ) (core : Core) (header : ℕ) (contents : List Content) (changes : List Change)
    → ChunkChanges (longest p n) core header contents changes → ChunkChanges p core header contents changes
chunks_same p n core header contents [] moves = tt
chunks_same p n core header [] (change ∷ changes) moves = absurd moves
chunks_same p n core header (content ∷ contents) (change ∷ changes) moves =
    ((moves.0.0, moves.0.1, moves.0.2 ∙ chunk_same p n core header content moves.0.0), chunks_same p n change.core header contents changes moves.1)

-- What chunks do under one they do under the other.
pub same_options_move : (p q : Options) (core : Core) (header : ℕ) (contents : List Content) (changes : List Change) → SameOptions p q
    → ChunkChanges q core header contents changes → ChunkChanges p core header contents changes
same_options_move p q core header contents changes same moves =
    chunks_same p q.max_message_size core header contents changes (subst (λ (x : Options). ChunkChanges x core header contents changes) same moves)

-- the chunks after one, at the association that it leaves
record FollowsIn (options : Options) (core : Core) (e : Endpoint) (tag : ℕ) (contents : List Content) (tail : List Input) (turns : List Transition) : Type 0 where
  chunks : List Transition
  rest : List Transition
  parts : turns ≡ chunks ++ rest
  changes : List Change
  moves : ChunkChanges options core tag contents changes
  controlled : AllControlled e chunks changes
  is_rest : IsRest (after_all e chunks) tail rest

-- what follows a chunk's turn that makes this change
abbrev Follow : Endpoint → Transition → Change → ℕ → List Content → List Input → List Transition → Type 0
Follow e t change tag contents tail ts = FollowsIn e.options change.core t.outcome.after tag contents tail ts

-- ---- a packet

-- nothing follows the chunk: no turn at all, or those of the packet's end
ends_here : (e : Endpoint) (tag : ℕ) (contents : List Content) (tail : List Input) (t : Transition) (change : Change) (ts : List Transition) → IsControlled e t.outcome change
    → IsRest t.outcome.after tail ts → Follow e t change tag contents tail ts
ends_here e tag contents tail t change ts h rest = record { chunks = []; rest = ts; parts = refl; changes = []; moves = tt; controlled = tt; is_rest = rest }

-- what follows the chunk, at the association that it leaves
then_follow : (e : Endpoint) (tag : ℕ) (contents : List Content) (tail : List Input) (t : Transition) (change : Change) (ts : List Transition) → IsControlled e t.outcome change
    → AreChunkTurns t.outcome.after tag contents tail ts → Follow e t change tag contents tail ts
then_follow e tag contents tail t change ts h more =
    record {
      chunks = more.chunks;
      rest = more.rest;
      parts = more.parts;
      changes = more.changes;
      moves = same_options_move e.options t.outcome.after.options change.core tag contents more.changes h.options
          (subst (λ (c : Core). ChunkChanges t.outcome.after.options c tag contents more.changes) h.core more.moves);
      controlled = more.controlled;
      is_rest = more.is_rest;
    }

follows : (following : Following) (e : Endpoint) (tag : ℕ) (contents : List Content) (tail : List Input) (t : Transition) (change : Change) (ts : List Transition) → IsControlled e t.outcome change
    → AfterChunk following (ChunkTurns t.outcome.after tag contents tail ts) (Turns t.outcome.after tail ts) (ts ≡ [])
    → (ChunkTurns t.outcome.after tag contents tail ts → AreChunkTurns t.outcome.after tag contents tail ts) → Follow e t change tag contents tail ts
follows next_chunk e tag contents tail t change ts h turns more = then_follow e tag contents tail t change ts h (more turns)
follows packet_end e tag contents tail t change ts h turns more = ends_here e tag contents tail t change ts h (ended turns)
follows dropped_rest e tag contents tail t change ts h turns more = ends_here e tag contents tail t change ts h (dropped turns)

pub packets_are_controlled : ChunksAreControlled → PacketsAreControlled
packets_are_controlled law e tag [] tail ts turns fitting = record { chunks = []; rest = ts; parts = refl; changes = []; moves = tt; controlled = tt; is_rest = ended turns }
packets_are_controlled law e tag (content ∷ contents) tail [] turns fitting = absurd turns
packets_are_controlled law e tag (content ∷ contents) tail (t ∷ ts) turns fitting =
    let first : IsControlledChunk e tag content t.outcome = law e tag content t.outcome turns.0.comes fitting.0 in
    let more : Follow e t first.0 tag contents tail ts =
    follows t.outcome.following e tag contents tail t first.0 ts first.2 turns.1 (λ rest. packets_are_controlled law t.outcome.after tag contents tail ts rest fitting.1) in
    record {
      chunks = t ∷ more.chunks;
      rest = more.rest;
      parts = ap (λ (xs : List Transition). t ∷ xs) more.parts;
      changes = first.0 ∷ more.changes;
      moves = (first.1, more.moves);
      controlled = (first.2, more.controlled);
      is_rest = more.is_rest;
    }

-- ---- what admission decides

-- SHUTDOWN ACK chunks hold no number that could be too great.
acks_fit : (e : Endpoint) (contents : List Content) (ts : List Transition) → FitsTurns e (shutdown_acks_of contents) ts
acks_fit e [] ts = tt
acks_fit e (shutdown_ack ∷ contents) [] = tt
acks_fit e (shutdown_ack ∷ contents) (t ∷ ts) = (tt, acks_fit t.outcome.after contents ts)
acks_fit e (init introduction ∷ contents) ts = acks_fit e contents ts
acks_fit e (init_ack introduction cookie ∷ contents) ts = acks_fit e contents ts
acks_fit e (cookie_echo bytes ∷ contents) ts = acks_fit e contents ts
acks_fit e (cookie_ack ∷ contents) ts = acks_fit e contents ts
acks_fit e (re_config parameters ∷ contents) ts = acks_fit e contents ts
acks_fit e (abort reflected causes ∷ contents) ts = acks_fit e contents ts
acks_fit e (shutdown tsn ∷ contents) ts = acks_fit e contents ts
acks_fit e (shutdown_complete reflected ∷ contents) ts = acks_fit e contents ts
acks_fit e (plain chunk ∷ contents) ts = acks_fit e contents ts

refusal_reported : (e : Endpoint) (packet : Packet) (text : List ℕ) (ts : List Transition) → AdmittedTurns e packet (refused text) ts → DeliversPacket e packet ts
refusal_reported e packet text [] turns = absurd turns
refusal_reported e packet text (t ∷ []) turns = reported text t turns.0.comes
refusal_reported e packet text (t ∷ next ∷ ts) turns = absurd turns.1

whole_delivered : PacketsAreControlled → AdmittedPacketsMayBeHandled → (e : Endpoint) (packet : Packet) (ts : List Transition) → admits e.core packet ≡ all_chunks
    → WholeTurns e packet ts → FitsBehind packet.contents ts → DeliversPacket e packet ts
whole_delivered law may e packet [] is turns fitting = absurd turns
whole_delivered law may e packet (begun ∷ ts) is turns fitting =
    let before : StandsBefore e begun.outcome = stands_before e (has_data_chunk e.options.follow_rfc packet.contents) begun.outcome turns.0.comes in
    whole begun ts (record {
      before = before;
      worked = law begun.outcome.after packet.tag packet.contents (packet_tail begun.outcome.after) ts turns.1 fitting;
      may = subst (λ (c : Core). MayBeHandled c packet) (sym (before.controlled.core ∙ before.keeps)) (may.whole e.core packet is);
    })

as_admitted : PacketsAreControlled → AdmittedPacketsMayBeHandled → (e : Endpoint) (packet : Packet) (admission : Admission) (ts : List Transition) → admits e.core packet ≡ admission
    → AdmittedTurns e packet admission ts → FitsBehind packet.contents ts → DeliversPacket e packet ts
as_admitted law may e packet all_chunks ts is turns fitting = whole_delivered law may e packet ts is turns fitting
as_admitted law may e packet shutdown_acks_alone ts is turns fitting = acks ts (law e packet.tag (shutdown_acks_of packet.contents) [] ts turns (acks_fit e packet.contents ts))
as_admitted law may e packet (refused text) ts is turns fitting = refusal_reported e packet text ts turns

pub deliveries_are_controlled : PacketsAreControlled → AdmittedPacketsMayBeHandled → DeliveriesAreControlled
deliveries_are_controlled law may e packet ts turns fitting = as_admitted law may e packet (admits e.core packet) ts refl turns fitting
