-- The FORWARD-TSN or I-FORWARD-TSN chunk, as the definitions say it.
use Rattle.std.proofs.Common.{◌≡◌, ◌∙◌, ℕ, ◌+◌, ◌^◌, ◌<◌, ◌≤◌, nat_le, if◌then◌else◌, Bool, true, false, List, [], ◌∷◌, ◌++◌, length, length-append, map, take, refl, ap, sym, subst, arith}
use Rattle.std.proofs.lemmas.Bool.Decides.{nat_tests}
use Rattle.std.proofs.lemmas.List.{append-nil}
use Rattle.std.specs.List.{AllByRecursion, flat_map}
use Rattle.std.specs.Int.{w32, to_be_bytes}
use Rattle.dcsctp_send_retransmission.specs.wire.Content.{ChunkContent, forward_tsn_chunk, i_forward_tsn_chunk}
use Rattle.dcsctp_send_retransmission.specs.wire.ReadsBack.{IsByte, FitsChunk}
use Rattle.dcsctp_send_retransmission.specs.wire.Spelling.{chunk_bytes}
use Rattle.dcsctp_send_retransmission.specs.wire.declared.chunk.forward_tsn.SkippedStream.{SkippedStream}
use Rattle.dcsctp_send_retransmission.specs.wire.declared.chunk.forward_tsn.SkippedMessages.{SkippedMessages}
use Rattle.dcsctp_send_retransmission.proofs.wire_lemmas.Lengths.{length-chunk_bytes}
use Rattle.dcsctp_wire_build.specs.Building.{Building, bytes_remaining}
use Rattle.dcsctp_send_retransmission.specs.spec.Packet.{unworked, plain_out}
use Rattle.dcsctp_send_retransmission.specs.spec.queues.Items.{Item}
use Rattle.dcsctp_send_retransmission.specs.spec.queues.Retransmission.{RetransmissionState}
use Rattle.dcsctp_send_retransmission.specs.spec.queues.Skipping.{entry_limit, entry_bytes, forward_chunk, ListsEntries, IsSkippedRow, SaysForward}
use Rattle.dcsctp_send_retransmission.specs.spec.endpoint.FlushOutcomes.{FitsPlain, where_fits}
use Rattle.dcsctp_send_retransmission.specs.declared.forward_tsn.ForwardTsn.{ForwardTsn}
use Rattle.dcsctp_send_retransmission.specs.declared.forward_tsn.Skipped.{Skipped}
use Rattle.dcsctp_send_retransmission.specs.declared.forward_tsn.Skipped.TheVariants.{Streams, Messages}
use Rattle.dcsctp_send_retransmission.specs.Forwarding.{stream_entry, messages_entry, entry_count, Lists, SkipsAbandoned}
use Rattle.dcsctp_send_retransmission.specs.SkippedBytes.{skipped_stream_bytes, messages_bytes, skipped_bytes, ReadsAs}
use Rattle.dcsctp_transfer.specs.Filling.{with_chunk}
use Rattle.dcsctp_transfer.specs.Forwarding.{forward_said, PutsForward}

-- ---- the entries, as they lie in memory

streams_said : (streams : List SkippedStream) → flat_map skipped_stream_bytes streams ≡ flat_map (entry_bytes false) (map stream_entry streams)
streams_said [] = refl
streams_said (entry ∷ streams) = ap (λ (bytes : List ℕ). skipped_stream_bytes entry ++ bytes) (streams_said streams)

messages_said : (messages : List SkippedMessages) → flat_map messages_bytes messages ≡ flat_map (entry_bytes true) (map messages_entry messages)
messages_said [] = refl
messages_said (entry ∷ messages) = ap (λ (bytes : List ℕ). messages_bytes entry ++ bytes) (messages_said messages)

stream_count : (streams : List SkippedStream) → length (map stream_entry streams) ≡ length streams
stream_count [] = refl
stream_count (entry ∷ streams) = let rest = stream_count streams in omega (arith, rest)

messages_count : (messages : List SkippedMessages) → length (map messages_entry messages) ≡ length messages
messages_count [] = refl
messages_count (entry ∷ messages) = let rest = messages_count messages in omega (arith, rest)

-- the entries of a chunk
record SaysEntries (interleaving : Bool) (row : List Item) (skipped : Skipped) : Type 0 where
  entries : List ((ℕ × Bool) × ℕ)
  count : entry_count skipped ≡ length entries
  lists : ListsEntries interleaving row entries
  said : (tsn : ℕ) (bytes : List ℕ) → bytes ≡ skipped_bytes skipped → forward_said tsn bytes skipped ≡ forward_chunk interleaving tsn entries

says_entries : (interleaving : Bool) (row : List Item) (skipped : Skipped) → Lists interleaving row skipped → SaysEntries interleaving row skipped
says_entries false row (Streams streams) lists =
    record {
      entries = map stream_entry streams.items;
      count = sym (stream_count streams.items);
      lists = lists;
      said = λ tsn bytes is. ap (forward_tsn_chunk tsn) (is ∙ streams_said streams.items);
    }
says_entries false row (Messages messages) lists = absurd lists
says_entries true row (Streams streams) lists = absurd lists
says_entries true row (Messages messages) lists =
    record {
      entries = map messages_entry messages.items;
      count = sym (messages_count messages.items);
      lists = lists;
      said = λ tsn bytes is. ap (i_forward_tsn_chunk tsn) (is ∙ messages_said messages.items);
    }

says_forward : (state : RetransmissionState) (forward : ForwardTsn) (bytes : List ℕ) → SkipsAbandoned state forward → bytes ≡ skipped_bytes forward.skipped
    → SaysForward state (forward_said forward.new_cumulative_tsn bytes forward.skipped)
says_forward state forward bytes says is =
    let interleaving = state.outstanding.is_interleaved in
    let says_all = says_entries interleaving (take says.count state.outstanding.items) forward.skipped says.lists in
    record {
      count = says.count;
      entries = says_all.entries;
      row = subst (λ (n : ℕ). IsSkippedRow interleaving (entry_limit interleaving state.congestion.mtu) n says.count state.outstanding.items) says_all.count says.row;
      lists = says_all.lists;
      is = says_all.said forward.new_cumulative_tsn bytes is ∙ ap (λ (tsn : ℕ). forward_chunk interleaving tsn says_all.entries) says.cumulative;
    }

-- ---- the chunk

said_len : (tsn : ℕ) (entries : List ℕ) (skipped : Skipped) → 8 + length entries ≤ length (chunk_bytes (forward_said tsn entries skipped))
said_len tsn entries (Streams streams) = omega (arith, length-chunk_bytes (forward_tsn_chunk tsn entries), length-append (to_be_bytes w32 tsn) entries)
said_len tsn entries (Messages messages) = omega (arith, length-chunk_bytes (i_forward_tsn_chunk tsn entries), length-append (to_be_bytes w32 tsn) entries)

said_fits : (tsn : ℕ) (entries : List ℕ) (skipped : Skipped) → tsn < 2 ^ 32 → AllByRecursion IsByte entries → ReadsAs skipped entries → 8 + length entries < 2 ^ 16 → FitsChunk (forward_said tsn entries skipped)
said_fits tsn entries (Streams streams) tsn_fits bytes reads short =
    record { tsn_fits = tsn_fits; len_fits = short; streams_fit = record { whole = omega (arith, reads.0); entries_in_bytes = bytes } }
said_fits tsn entries (Messages messages) tsn_fits bytes reads short =
    record { tsn_fits = tsn_fits; len_fits = short; streams_fit = record { whole = omega (arith, reads.0); entries_in_bytes = bytes } }

pub puts_forward : (state : RetransmissionState) (forward : ForwardTsn) (entries : List ℕ) (packet filled : Building) → SkipsAbandoned state forward → entries ≡ skipped_bytes forward.skipped → ReadsAs forward.skipped entries
    → forward.new_cumulative_tsn < 2 ^ 32 → AllByRecursion IsByte entries → packet.size ≤ 65535 → filled ≡ with_chunk packet (forward_said forward.new_cumulative_tsn entries forward.skipped)
    → PutsForward state packet filled
puts_forward state forward entries packet filled says said reads tsn_fits bytes small is =
    let long = said_len forward.new_cumulative_tsn entries forward.skipped in
    record {
      chunk = forward_said forward.new_cumulative_tsn entries forward.skipped;
      says = says_forward state forward entries says said;
      fits = λ within. said_fits forward.new_cumulative_tsn entries forward.skipped tsn_fits bytes reads (omega (arith, long, small, within));
      is = is;
    }

-- ---- the chunk, if it fits

-- The packet has what fits into it.
pub record AddsFitting (packet filled : Building) (chunk : ChunkContent) : Type 0 where
  pub fits : AllByRecursion FitsPlain (where_fits (bytes_remaining packet) (unworked chunk))
  pub adds : filled ≡ record packet { body = packet.body ++ flat_map chunk_bytes (map plain_out (where_fits (bytes_remaining packet) (unworked chunk))) }

pub adds_fitting : (packet filled : Building) (chunk : ChunkContent) → filled ≡ with_chunk packet chunk → (length (chunk_bytes chunk) ≤ bytes_remaining packet → FitsChunk chunk) → AddsFitting packet filled chunk
adds_fitting packet filled chunk is fits = by_room (nat_le (length (chunk_bytes chunk)) (bytes_remaining packet)) refl is
  where
    by_room : (b : Bool) → nat_le (length (chunk_bytes chunk)) (bytes_remaining packet) ≡ b → filled ≡ (if b then record packet { body = packet.body ++ chunk_bytes chunk } else packet)
        → AddsFitting packet filled chunk
    by_room true within there =
        record {
          fits = rw within (fits (grind (arith, nat_tests)), tt);
          adds = rw within (there ∙ ap (λ (bytes : List ℕ). record packet { body = packet.body ++ bytes }) (sym (append-nil (chunk_bytes chunk))));
        }
    by_room false beyond there =
        record { fits = rw beyond tt; adds = rw beyond (there ∙ ap (λ (body : List ℕ). record packet { body = body }) (sym (append-nil packet.body))) }
