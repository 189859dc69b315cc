-- A packet that is sent, in bytes.
use Rattle.std.proofs.Common.{◌≡◌, ◌==◌, ◌+◌, ◌-◌, ℕ, Bool, true, false, cond, Option, None, Some, List, [], ◌∷◌, ◌++◌, length, map, refl, sym, ap, subst, ◌∙◌, append_assoc}
use Rattle.std.specs.Prelude.{nat_le, if◌then◌else◌}
use Rattle.std.proofs.lemmas.List.{append-nil}
use Rattle.std.specs.List.{flat_map}
use Rattle.dcsctp_transfer.specs.wire.Content.{ChunkContent}
use Rattle.dcsctp_transfer.specs.wire.Spelling.{WrittenChunk, by_value, by_list, written_chunk, other_bytes, parameter_chunk_bytes, spelled_bytes, chunk_bytes, header_bytes, packet_bytes_of}
use Rattle.dcsctp_transfer.specs.wire_build.Building.{Building, bytes_remaining}
use Rattle.rand_core.specs.Stream.{Stream}
use Rattle.dcsctp_transfer.specs.types.declared.association.Held.{Held}
use Rattle.dcsctp_transfer.specs.types.declared.options.Options.{Options}
use Rattle.dcsctp_transfer.specs.types.Settings.{ports_of, packet_size_limit}
use Rattle.dcsctp_transfer.specs.spec.endpoint.Event.{sent}
use Rattle.dcsctp_transfer.specs.spec.Packet.{Content, Emission, unworked, chunk_out, emission_bytes}
use Rattle.dcsctp_transfer.specs.spec.endpoint.Endpoint.{Endpoint, may_answer}
use Rattle.dcsctp_transfer.specs.spec.endpoint.Outcome.{Outcome, still, packet_counted, fits, quiet, sends, emits, answering, answered_if_allowed, answers_with, to_peer, contents_len}
use Rattle.dcsctp_transfer.specs.spec.association.Choices.{plain_contents}
use Rattle.dcsctp_transfer.specs.spec.endpoint.FlushOutcomes.{is_none, room_of_draft}
use Rattle.dcsctp_core.specs.View.{View, Moves}
use Rattle.dcsctp_core.specs.Handling.{chunk_emitted, emitted_to, sent_to_peer, answered_to_peer, answer_counted, answered_to}
use Rattle.dcsctp_core.proofs.Moving.{moves_still}
use Rattle.dcsctp_core.specs.Flushing.{packet_being_built, packet_for}

-- A chunk has bytes.
spelled_is_not_empty : (s : WrittenChunk) (rest : List ℕ) → spelled_bytes s ++ rest ≡ [] → ⊥
unfolding parameter_chunk_bytes other_bytes
spelled_is_not_empty (by_value chunk_type flags value) rest none = cc none
spelled_is_not_empty (by_list chunk_type flags fields parameters) rest none = cc none

chunk_is_not_empty : (chunk : ChunkContent) (rest : List ℕ) → chunk_bytes chunk ++ rest ≡ [] → ⊥
chunk_is_not_empty chunk rest none = spelled_is_not_empty (written_chunk chunk) rest none

-- ---- the chunks of a packet in bytes

abbrev pub body_of : List Content → List ℕ
body_of contents = flat_map chunk_bytes (map chunk_out contents)

pub body_len : (contents : List Content) → length (body_of contents) ≡ contents_len contents
body_len contents = ap length (same contents)
  where
    same : (contents : List Content) → body_of contents ≡ flat_map (λ content. chunk_bytes (chunk_out content)) contents
    same [] = refl
    same (content ∷ contents) = ap (λ (bytes : List ℕ). chunk_bytes (chunk_out content) ++ bytes) (same contents)

pub body_append : (xs ys : List Content) → body_of (xs ++ ys) ≡ body_of xs ++ body_of ys
body_append [] ys = refl
body_append (x ∷ xs) ys =
    ap (λ (bytes : List ℕ). chunk_bytes (chunk_out x) ++ bytes) (body_append xs ys) ∙ sym (append_assoc (chunk_bytes (chunk_out x)) (body_of xs) (body_of ys))

pub body_of_chunks : (chunks : List ChunkContent) → flat_map chunk_bytes chunks ≡ body_of (plain_contents (map unworked chunks))
body_of_chunks [] = refl
body_of_chunks (chunk ∷ chunks) = ap (λ (bytes : List ℕ). chunk_bytes chunk ++ bytes) (body_of_chunks chunks)

-- It is empty where there is no chunk.
pub none_as_bytes : (contents : List Content) → is_none (body_of contents) ≡ is_none contents
none_as_bytes [] = refl
none_as_bytes (content ∷ contents) = some (body_of (content ∷ contents)) (λ none. chunk_is_not_empty (chunk_out content) (body_of contents) none)
  where
    some : (bytes : List ℕ) → (bytes ≡ [] → ⊥) → is_none bytes ≡ false
    some [] not_empty = absurd (not_empty refl)
    some (byte ∷ bytes) not_empty = refl

-- how much room is left in it
pub room_is : (e : Endpoint) (draft : Emission) → bytes_remaining (packet_for e.options draft) ≡ room_of_draft e draft
room_is e draft = ap (λ (n : ℕ). packet_size_limit e.options - 12 - n) (body_len draft.packet.contents)

-- ---- a packet that is sent

pub sent_moves : {R : Type 0} (stream : R → Stream) (a b : View R) (emission : Emission) (bytes : List ℕ)
    → b ≡ record a { endpoint = packet_counted a.endpoint; events = a.events ++ sent bytes ∷ [] }
    → bytes ≡ emission_bytes (ports_of a.endpoint.options) emission
    → Moves stream a (sends a.endpoint [] [] emission) b
sent_moves {R = R} stream a b emission bytes here is =
    record {
      endpoint = ap (λ (v : View R). v.endpoint) here;
      events = ap (λ (v : View R). v.events) here ∙ ap (λ (bs : List ℕ). a.events ++ sent bs ∷ []) is;
      words = ap (λ (v : View R). v.words) here ∙ sym (append-nil a.words);
      pairs = ap (λ (v : View R). v.pairs) here ∙ sym (append-nil a.pairs);
      drawn = ap (λ (v : View R). stream v.generator) here;
    }

-- the bytes of a packet that was built
pub built_bytes : (options : Options) (builder : Building) (with_checksum : Bool) (tag : ℕ) (contents : List Content) (bytes : List ℕ)
    → builder ≡ packet_being_built options with_checksum tag contents
    → bytes ≡ packet_bytes_of builder.with_checksum (header_bytes builder.source_port builder.destination_port builder.verification_tag) builder.body
    → bytes ≡ emission_bytes (ports_of options) (record { with_checksum = with_checksum; packet = record { tag = tag; contents = contents } })
built_bytes options builder with_checksum tag contents bytes is built =
    built ∙ ap (λ (b : Building). packet_bytes_of b.with_checksum (header_bytes b.source_port b.destination_port b.verification_tag) b.body) is

-- ---- a packet of one chunk that fits

pub emitted_sends : {R : Type 0} (stream : R → Stream) (a b : View R) (with_checksum : Bool) (tag : ℕ) (content : Content)
    → nat_le (12 + length (chunk_bytes (chunk_out content))) (packet_size_limit a.endpoint.options) ≡ true → b ≡ chunk_emitted with_checksum tag (chunk_out content) a
    → Moves stream a (sends a.endpoint [] [] (record { with_checksum = with_checksum; packet = record { tag = tag; contents = content ∷ [] } })) b
emitted_sends {R = R} stream a b with_checksum tag content fits here =
    let options : Options = a.endpoint.options in
    let header : List ℕ = header_bytes options.local_port options.remote_port tag in
    let bytes : List ℕ = packet_bytes_of with_checksum header (chunk_bytes (chunk_out content)) in
    let out : View R = record a { endpoint = packet_counted a.endpoint; events = a.events ++ sent bytes ∷ [] } in
    sent_moves stream a b (record { with_checksum = with_checksum; packet = record { tag = tag; contents = content ∷ [] } }) bytes
    (here ∙ ap (λ (test : Bool). cond test out a) fits)
    (ap (packet_bytes_of with_checksum header) (sym (append-nil (chunk_bytes (chunk_out content)))))

-- ---- a packet to the peer

-- a packet of one chunk, by whether it fits
pub emitted_where : {R : Type 0} (stream : R → Stream) (v : View R) (emission : Emission) (bytes : List ℕ) (b : Bool) → emission_bytes (ports_of v.endpoint.options) emission ≡ bytes
    → Moves stream v (if b then sends v.endpoint [] [] emission else quiet v.endpoint [] []) (if b then record v { endpoint = packet_counted v.endpoint; events = v.events ++ sent bytes ∷ [] } else v)
emitted_where stream v emission bytes true is =
    record {
      endpoint = refl;
      events = ap (λ (bs : List ℕ). v.events ++ sent bs ∷ []) (sym is);
      words = sym (append-nil v.words);
      pairs = sym (append-nil v.pairs);
      drawn = refl;
    }
emitted_where stream v emission bytes false is = record { endpoint = refl; events = sym (append-nil v.events); words = sym (append-nil v.words); pairs = sym (append-nil v.pairs); drawn = refl }

-- a packet of one chunk to the peer
pub emits_moves : {R : Type 0} (stream : R → Stream) (v : View R) (held : Held) (content : Content)
    → Moves stream v (emits v.endpoint [] (to_peer held content)) (chunk_emitted (held.capabilities.zero_checksum_method.0 == 0) held.peer.tag (chunk_out content) v)
emits_moves {R = R} stream v held content =
    let options = v.endpoint.options in
    let emission : Emission = to_peer held content in
    let bytes : List ℕ = chunk_bytes (chunk_out content) in
    let written_chunk : List ℕ = packet_bytes_of emission.with_checksum (header_bytes options.local_port options.remote_port held.peer.tag) bytes in
    let alone : bytes ++ [] ≡ bytes = append-nil bytes in
    subst (λ (b : Bool). Moves stream v (if fits v.endpoint emission then sends v.endpoint [] [] emission else quiet v.endpoint [] []) (if b then record v { endpoint = packet_counted v.endpoint; events = v.events ++ sent written_chunk ∷ [] } else v))
    (ap (λ (bs : List ℕ). nat_le (12 + length bs) (packet_size_limit options)) alone)
    (emitted_where stream v emission written_chunk (fits v.endpoint emission)
    (ap (λ (bs : List ℕ). packet_bytes_of emission.with_checksum (header_bytes options.local_port options.remote_port held.peer.tag) bs) alone))

-- A chunk was sent to the peer, if it is known and the packet fits.
pub told_moves : {R : Type 0} (stream : R → Stream) (a b : View R) (content : Content) (peer : Option Held) → b ≡ emitted_to peer (chunk_out content) a
    → Moves stream a (sent_to_peer a.endpoint peer content) b
told_moves {R = R} stream a b content None here = subst (λ (v : View R). Moves stream a (still a.endpoint) v) (sym here) (moves_still stream a)
told_moves {R = R} stream a b content (Some held) here =
    subst (λ (v : View R). Moves stream a (emits a.endpoint [] (to_peer held content)) v) (sym here) (emits_moves stream a held content)

-- ---- a chunk that is answered

pub answering_moves : {R : Type 0} (stream : R → Stream) (a b : View R) (o : Outcome) → Moves stream a o b → Moves stream a (answering o) (answer_counted b)
answering_moves stream a b o m =
    record { endpoint = ap (λ (e : Endpoint). record e { has_answered = true }) m.endpoint; events = m.events; words = m.words; pairs = m.pairs; drawn = m.drawn }

-- by whether it may be
answered_at : {R : Type 0} (stream : R → Stream) (v : View R) (may : Bool) (held : Held) (content : Content)
    → Moves stream v (answered_if_allowed may v.endpoint (to_peer held content)) (answered_to may (Some held) (chunk_out content) v)
answered_at stream v false held content = moves_still stream v
answered_at stream v true held content = answering_moves stream v _ _ (emits_moves stream v held content)

pub answered_moves : {R : Type 0} (stream : R → Stream) (a b : View R) (content : Content) (peer : Option Held)
    → b ≡ answered_to (may_answer a.endpoint) peer (chunk_out content) a → Moves stream a (answered_to_peer a.endpoint peer content) b
answered_moves {R = R} stream a b content None here = subst (λ (v : View R). Moves stream a (still a.endpoint) v) (sym here) (moves_still stream a)
answered_moves {R = R} stream a b content (Some held) here =
    subst (λ (v : View R). Moves stream a (answers_with a.endpoint (to_peer held content)) v) (sym here) (answered_at stream a (may_answer a.endpoint) held content)
