-- Where a COOKIE ECHO is, and that bytes can be read as one packet at most.
use Rattle.std.proofs.Common.{◌≡◌, ℕ, Bool, true, false, not, List, [], ◌∷◌, drop, map, refl, sym, ap, subst, ◌∙◌}
use Rattle.std.specs.Prelude.{◌||◌}
use Rattle.std.specs.List.{list_any, AllByRecursion}
use Rattle.dcsctp_wire.specs.declared.chunk.Chunk.{Chunk}
use Rattle.dcsctp_wire.specs.declared.packet.WireOptions.{WireOptions}
use Rattle.dcsctp_wire.specs.Content.{ChunkContent, PacketContent, chunk_content}
use Rattle.dcsctp_wire.specs.Format.{IsReadByHeader, is_cookie_echo, IsPacket}
use Rattle.dcsctp_wire.proofs.Items.{same_items}
use Rattle.dcsctp_wire.proofs.Chunks.{one_chunk}

-- bytes are one packet
pub same_packet : (options : WireOptions) (bytes : List ℕ) (p q : PacketContent) → IsPacket options p bytes → IsPacket options q bytes → p ≡ q
same_packet options bytes p q a b =
    let source : p.source_port ≡ q.source_port = a.source_port ∙ sym b.source_port in
    let destination : p.destination_port ≡ q.destination_port = a.destination_port ∙ sym b.destination_port in
    let tag : p.verification_tag ≡ q.verification_tag = a.verification_tag ∙ sym b.verification_tag in
    let chunks : p.chunks ≡ q.chunks = same_items IsReadByHeader one_chunk p.chunks q.chunks _ a.chunks b.chunks in
    λ i. record { source_port = source i; destination_port = destination i; verification_tag = tag i; chunks = chunks i }

abbrev IsNoEcho : ChunkContent → Type 0
IsNoEcho chunk = is_cookie_echo chunk ≡ false

abbrev pub is_echo : Chunk → Bool
is_echo chunk = is_cookie_echo (chunk_content chunk)

or_false : (a b : Bool) → not (a || b) ≡ true → (a ≡ false) × (not b ≡ true)
or_false true b e = absurd cc
or_false false b e = (refl, e)

no_echo : (chunks : List Chunk) → not (list_any is_echo chunks) ≡ true → AllByRecursion IsNoEcho (map chunk_content chunks)
no_echo [] e = tt
no_echo (c ∷ cs) e = let both = or_false (is_echo c) (list_any is_echo cs) e in (both.0, no_echo cs both.1)

none_found : (chunks : List Chunk) → AllByRecursion IsNoEcho (map chunk_content chunks) → not (list_any is_echo chunks) ≡ true
none_found [] h = refl
none_found (c ∷ cs) h = ap (λ (b : Bool). not (b || list_any is_echo cs)) h.0 ∙ none_found cs h.1

-- no COOKIE ECHO was found after the first chunk
pub echo_in_front : (chunks : List Chunk) → not (list_any is_echo (drop 1 chunks)) ≡ true → AllByRecursion IsNoEcho (drop 1 (map chunk_content chunks))
echo_in_front [] e = tt
echo_in_front (c ∷ cs) e = no_echo cs e

-- none is found where there is none
pub found_in_front : (chunks : List Chunk) (contents : List ChunkContent) → contents ≡ map chunk_content chunks → AllByRecursion IsNoEcho (drop 1 contents) → not (list_any is_echo (drop 1 chunks)) ≡ true
found_in_front [] contents e h = refl
found_in_front (c ∷ cs) contents e h = none_found cs (subst (λ (ks : List ChunkContent). AllByRecursion IsNoEcho (drop 1 ks)) e h)
