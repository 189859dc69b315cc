use Rattle.std.proofs.Common.{rules, sym, ◌∙◌}
use Rattle.std.proofs.lemmas.List.Sorted.{All-permutation, IsNonDecreasingBy-from_sort_by_key, list_any-IsPermutation}
use Rattle.dcsctp_wire.specs.CleanBlocks.{IsRange, names, blocks_of_bytes, AreJoined, AreCleaned}
use Rattle.std.proofs.lemmas.Result.{IfOk-weaker}
use Rattle.dcsctp_wire.proofs.CleanBlockLemmas.{ranges_kept}
use Rattle.dcsctp_wire.proofs.chunk.clean_blocks.clean_sack.Goals as goal

pub join_blocks-requires-clause-ranges : goal.join_blocks-requires-clause-ranges
join_blocks-requires-clause-ranges c =
    rw c.deref.ensures.value (All-permutation IsRange _ _ c.sort_unstable_by_key.ensures.permutation (rw c.in_ok-blocks.ensures (ranges_kept (blocks_of_bytes c.args.sack.now.gap_ack_blocks.now))))

pub join_blocks-requires-clause-ascending : goal.join_blocks-requires-clause-ascending
join_blocks-requires-clause-ascending c =
    rw c.deref.ensures.value (IsNonDecreasingBy-from_sort_by_key (λ block. block.start) _ c.sort_unstable_by_key.ensures.sorted (λ a r q k. search rules))

pub returns : goal.returns
returns c =
    IfOk-weaker c.join_blocks.result (λ blocks. AreJoined c.deref.result.now blocks.items) (λ blocks. AreCleaned (blocks_of_bytes c.args.sack.now.gap_ack_blocks.now) blocks.items)
    (λ blocks joined. record {
      apart = joined.apart;
      same = λ offset.
          joined.same offset ∙ rw (c.deref.ensures.value, sym c.in_ok-blocks.ensures)
          (sym (list_any-IsPermutation (names offset) c.in_ok-blocks.blocks.items _ c.sort_unstable_by_key.ensures.permutation));
    })
    c.join_blocks.ensures
