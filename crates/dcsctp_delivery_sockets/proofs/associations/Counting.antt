-- How many chunks of data went to each tag, and how many requests to reset streams.
use Rattle.std.proofs.Common.{◌≡◌, ℕ, Bool, ◌≤◌, ◌+◌, List, [], ◌∷◌, ◌++◌, ap, arith, inl, inr}
use Rattle.std.specs.Prelude.{◌==◌, if◌then◌else◌}
use Rattle.std.proofs.lemmas.Bool.Decides.{eqb_tells}
use Rattle.dcsctp_spec_lemmas.specs.spec.Packet.{Emission}
use Rattle.dcsctp_delivery_directions.specs.sending.ChunkCounts.{chunks_among, chunks_among_packets, chunks_to}
use Rattle.dcsctp_delivery_directions.proofs.sending.ChunkCounts.{no_data_counts}
use Rattle.dcsctp_delivery_directions.specs.directions.Requests.{requests_among, requests_among_packets, requests_to}
use Rattle.dcsctp_delivery_directions.proofs.directions.RequestCounts.{no_data_requests}
use Rattle.dcsctp_delivery_sockets.specs.turns.Addressed.{IsAddressed, AreAddressed}

pub more_to : (tag : ℕ) (packets more : List Emission) → chunks_to tag (packets ++ more) ≡ chunks_to tag packets + chunks_to tag more
more_to tag [] more = omega arith
more_to tag (p ∷ packets) more = (let rest = more_to tag packets more in omega (arith, rest))

one_counts : (tag : ℕ) (p : Emission) → IsAddressed tag p → chunks_among p.packet.contents ≤ (if p.packet.tag == tag then chunks_among p.packet.contents else 0)
one_counts tag p (inl none) = (let nothing = no_data_counts p.packet.contents none in omega (arith, nothing))
one_counts tag p (inr to) =
    elim (eqb_tells p.packet.tag tag) [
      | inl t ↦ (let all : (if p.packet.tag == tag then chunks_among p.packet.contents else 0) ≡ chunks_among p.packet.contents = ap (λ (b : Bool). if b then chunks_among p.packet.contents else 0) t.0 in omega (arith, all))
      | inr t ↦ absurd (t.1 to.0)
    ]

-- Packets that go to one tag, as far as they have data, count there.
pub addressed_counts : (tag : ℕ) (packets : List Emission) → AreAddressed tag packets → chunks_among_packets packets ≤ chunks_to tag packets
addressed_counts tag [] are = omega arith
addressed_counts tag (p ∷ packets) are = (let one = one_counts tag p are.0 in let rest = addressed_counts tag packets are.1 in omega (arith, one, rest))

-- ---- requests to reset streams

one_asks : (tag : ℕ) (p : Emission) → IsAddressed tag p → requests_among p.packet.contents ≤ (if p.packet.tag == tag then requests_among p.packet.contents else 0)
one_asks tag p (inl none) = (let nothing = no_data_requests p.packet.contents none in omega (arith, nothing))
one_asks tag p (inr to) =
    elim (eqb_tells p.packet.tag tag) [
      | inl t ↦ (let all : (if p.packet.tag == tag then requests_among p.packet.contents else 0) ≡ requests_among p.packet.contents = ap (λ (b : Bool). if b then requests_among p.packet.contents else 0) t.0 in omega (arith, all))
      | inr t ↦ absurd (t.1 to.0)
    ]

-- Packets that go to one tag, as far as they have requests, count there.
pub addressed_requests : (tag : ℕ) (packets : List Emission) → AreAddressed tag packets → requests_among_packets packets ≤ requests_to tag packets
addressed_requests tag [] are = omega arith
addressed_requests tag (p ∷ packets) are = (let one = one_asks tag p are.0 in let rest = addressed_requests tag packets are.1 in omega (arith, one, rest))
