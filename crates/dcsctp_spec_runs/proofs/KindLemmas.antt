-- The kinds of chunks that a flush sends: data as it was negotiated, and what skips messages.
use Rattle.std.proofs.Common.{ℕ, Bool, true, false, cond, nat_le, Option, List, [], ◌∷◌, length, sym, subst}
use Rattle.std.specs.List.{AllByRecursion}
use Rattle.dcsctp_spec_lemmas.specs.wire.Content.{ChunkContent, data_chunk, i_data_chunk, forward_tsn_chunk, i_forward_tsn_chunk}
use Rattle.dcsctp_spec_lemmas.specs.wire.Spelling.{chunk_bytes}
use Rattle.dcsctp_spec_lemmas.specs.spec.Packet.{Plain, unworked, plain_out}
use Rattle.dcsctp_spec_lemmas.specs.spec.queues.Chunks.{chunk_said, AreChunksOfTsns}
use Rattle.dcsctp_spec_lemmas.specs.spec.queues.Filling.{Stage}
use Rattle.dcsctp_spec_lemmas.specs.spec.queues.Items.{is_first_abandoned}
use Rattle.dcsctp_spec_lemmas.specs.spec.queues.Outstanding.{OutstandingState}
use Rattle.dcsctp_spec_lemmas.specs.spec.queues.Retransmission.{RetransmissionState}
use Rattle.dcsctp_spec_lemmas.specs.spec.queues.Sending.{Fragment}
use Rattle.dcsctp_spec_lemmas.specs.spec.queues.Skipping.{forward_chunk}
use Rattle.dcsctp_spec_lemmas.specs.spec.queues.Transfer.{Transfer}
use Rattle.dcsctp_spec_lemmas.specs.spec.endpoint.FlushOutcomes.{ForwardsIfAbandoned, GivesUpThenForwards, forward_made}

-- a FORWARD-TSN, or with interleaving an I-FORWARD-TSN (RFC 3758, section 3.2; RFC 8260, section 2.3.1)
abbrev pub IsForward : Bool → Plain → Type 0
IsForward false (unworked (forward_tsn_chunk tsn streams)) = Unit {0}
IsForward true (unworked (i_forward_tsn_chunk tsn streams)) = Unit {0}
IsForward interleaving chunk = ⊥

-- DATA, or with interleaving I-DATA (RFC 9260, section 3.3.1; RFC 8260, section 2.1)
abbrev pub IsData : Bool → Plain → Type 0
IsData false (unworked (data_chunk chunk)) = Unit {0}
IsData true (unworked (i_data_chunk chunk)) = Unit {0}
IsData interleaving chunk = ⊥

said_is_data : (interleaving : Bool) (tsn : ℕ) (part : Fragment) → IsData interleaving (unworked (chunk_said interleaving tsn part))
said_is_data true tsn part = tt
said_is_data false tsn part = tt

pub chunks_are_data : (outstanding : OutstandingState) (tsns : List ℕ) (chunks : List Plain) → AreChunksOfTsns outstanding tsns chunks → AllByRecursion (IsData outstanding.is_interleaved) chunks
chunks_are_data outstanding [] [] h = tt
chunks_are_data outstanding [] (chunk ∷ chunks) h = absurd h
chunks_are_data outstanding (tsn ∷ tsns) [] h = absurd h
chunks_are_data outstanding (tsn ∷ tsns) (chunk ∷ chunks) h = (
  subst (IsData outstanding.is_interleaved) (sym h.0.says) (said_is_data outstanding.is_interleaved tsn h.0.item.fragment),
  chunks_are_data outstanding tsns chunks h.1,
)

is_forward : (interleaving : Bool) (tsn : ℕ) (entries : List ((ℕ × Bool) × ℕ)) → IsForward interleaving (unworked (forward_chunk interleaving tsn entries))
is_forward true tsn entries = tt
is_forward false tsn entries = tt

one_forward : (interleaving b : Bool) (chunk : Plain) → IsForward interleaving chunk → AllByRecursion (IsForward interleaving) (cond b (chunk ∷ []) [])
one_forward interleaving true chunk h = (h, tt)
one_forward interleaving false chunk h = tt

kind_where : (b : Bool) (now : ℕ) (transfer : Transfer) (room : ℕ) (state : RetransmissionState) (next : Option ℕ) (chunks : List Plain) → ForwardsIfAbandoned b now transfer room state next chunks
    → AllByRecursion (IsForward state.outstanding.is_interleaved) chunks
kind_where false now transfer room state next chunks h = subst (AllByRecursion (IsForward state.outstanding.is_interleaved)) (sym h.1) tt
kind_where true now transfer room state next chunks h =
    let interleaving : Bool = state.outstanding.is_interleaved in
    let chunk : ChunkContent = h.1.0 in
    let says = h.1.1 in
    subst (AllByRecursion (IsForward interleaving)) (sym h.1.2)
    (one_forward interleaving (nat_le (length (chunk_bytes (plain_out (unworked chunk)))) room) (unworked chunk)
    (subst (λ (c : ChunkContent). IsForward interleaving (unworked c)) (sym says.is) (is_forward interleaving _ says.entries)))

pub forwards_are_forwards : (b : Bool) (now : ℕ) (transfer : Transfer) (room : ℕ) (old new : Stage) (next : Option ℕ) (chunks : List Plain) → GivesUpThenForwards b now transfer room old new (forward_made next chunks)
    → AllByRecursion (IsForward new.queue.outstanding.is_interleaved) chunks
forwards_are_forwards false now transfer room old new next chunks h = subst (AllByRecursion (IsForward new.queue.outstanding.is_interleaved)) (sym h.2) tt
forwards_are_forwards true now transfer room old new next chunks h =
    kind_where (is_first_abandoned new.queue.outstanding.items) now transfer room new.queue next chunks h.1
