-- Each block is that of the next range.
use Rattle.std.proofs.Common.{◌≡◌, ◌++◌, ◌-◌, ℕ, List, map, ◌∙◌, ap, refl, subst}
use Rattle.std.specs.Int.{w16, to_be_bytes}
use Rattle.std.specs.Iterator.Adapters.{take_source, take_count}
use Rattle.dcsctp_receive_tracker.specs.Received.{range_of, ranges_of}
use Rattle.dcsctp_receive_tracker.proofs.BlockLemmas.{AreNear, all_near, block_more, blocks_whole}
use Rattle.dcsctp_receive_tracker.proofs.data_tracker.gap_ack_blocks.Goals as goal

pub loop-first-init : goal.loop-first-init
loop-first-init c =
    let left : take_source c.into_iter-first-iterator.result ≡ c.args.received.now.ranges.entries =
    ap take_source c.into_iter-first-iterator.ensures.into_iter_gives ∙ (c.take-first-items.ensures.source ∙ c.iter.ensures.rest) in
    let count : take_count c.into_iter-first-iterator.result ≡ c.args.most =
    ap take_count c.into_iter-first-iterator.ensures.into_iter_gives ∙ c.take-first-items.ensures.count in
    rw (left, count) (record {
      bytes = rw c.in_ok-blocks.ensures.items refl;
      near = all_near c.args.received.now.cumulative (ranges_of c.args.received.now.ranges) c.requires.beyond c.requires.near;
    })

pub loop-first-preserved : goal.loop-first-preserved
loop-first-preserved c =
    record {
      bytes = block_more c.args.received.now.cumulative (take_count c.next.new.self) (take_count c.loop-first.first-iterator) c.loop-first.blocks.items c.extend_from_slice-in-loop-first.new.self.items _ (c.in-Some.first.now, c.in-Some.last.now) (take_source c.loop-first.first-iterator) (take_source c.next.new.self) c.in-Some.ensures.steps.0 c.in-Some.ensures.steps.1
          (c.in_ok-extend_from_slice-2.ensures.items
          ∙ ap (λ (bs : List ℕ). bs ++ c.to_be_bytes-in-loop-first.result) (c.in_ok-extend_from_slice.ensures.items ∙ ap (λ (start : List ℕ). c.loop-first.blocks.items ++ start) c.to_be_bytes.ensures)
          ∙ ap (λ (end : List ℕ). (c.loop-first.blocks.items ++ to_be_bytes w16 (c.in-Some.first.now - c.args.received.now.cumulative)) ++ end) c.to_be_bytes-in-loop-first.ensures) c.loop-first.invariant.bytes;
      near = (subst (λ (left : List (ℕ × ℕ)). AreNear c.args.received.now.cumulative (map range_of left)) c.in-Some.ensures.steps.0 c.loop-first.invariant.near).3;
    }

pub returns : goal.returns
returns c =
    blocks_whole c.args.received.now.cumulative (take_count c.loop-first.first-iterator) c.loop-first.blocks.items _ (take_source c.loop-first.first-iterator) (λ some. (c.in-None.ensures.steps some).0) c.loop-first.invariant.bytes
