use Rattle.std.proofs.Common.{arith, refl, sym, ◌∙◌, take, get_or}
use Rattle.std.specs.List.{list_any}
use Rattle.std.proofs.lemmas.List.{take_all}
use Rattle.std.proofs.lemmas.List.Folds.{list_any_more}
use Rattle.std.proofs.lemmas.List.Elements.{All-get_or}
use Rattle.dcsctp_wire.specs.CleanBlocks.{names, IsRange}
use Rattle.dcsctp_wire.proofs.CleanBlockLemmas.{or_assoc, range_at, range_later, first_no_later, rest_ascends}
use Rattle.dcsctp_wire.proofs.chunk.clean_blocks.join_blocks.Goals as goal

pub loop-block-init : goal.loop-block-init
loop-block-init c =
    let range = range_at c.args.ascending.now c.in-Some.first.now c.in-Some.rest.now c.in-Some.ensures.cases.0 c.requires.ranges in
    record {
      apart = rw c.new-joined.ensures.items range;
      same = λ offset. rw c.new-joined.ensures.items refl;
      begins = range.0;
      ends = range.1;
      ascending = λ i d _ below. first_no_later c.args.ascending.now c.in-Some.first.now c.in-Some.rest.now c.in-Some.ensures.cases.0 c.requires.ascending i d below;
    }

pub loop-block-preserved : goal.loop-block-preserved
loop-block-preserved c = record {
  apart = c.in_ok-current.ensures.added.apart c.loop-block.invariant.apart;
  same = λ offset.
      rw (
        c.in_ok-current.ensures.added.same offset,
        c.loop-block.invariant.same offset,
        list_any_more (names offset) c.in-Some.rest.now c.loop-block.block-index (record { start = 0; end = 0 }) c.loop-block-test.true,
      )
      (sym (or_assoc (names offset c.in-Some.first.now) (list_any (names offset) (take c.loop-block.block-index c.in-Some.rest.now)) (names offset (get_or c.in-Some.rest.now c.loop-block.block-index (record { start = 0; end = 0 })))));
  begins = c.in_ok-current.ensures.range.0;
  ends = c.in_ok-current.ensures.range.1;
  ascending = λ i d behind below.
      let later = rest_ascends c.args.ascending.now c.in-Some.first.now c.in-Some.rest.now c.in-Some.ensures.cases.0 c.requires.ascending c.loop-block.block-index i (record { start = 0; end = 0 }) d (omega (arith, behind)) below in
      omega (arith, later, c.in_ok-current.ensures.start);
}

pub add_block-requires : goal.add_block-requires
add_block-requires c = record {
  first_begins = c.loop-block.invariant.begins;
  first_ends = c.loop-block.invariant.ends;
  second_ends = (All-get_or IsRange c.in-Some.rest.now c.loop-block.block-index (record { start = 0; end = 0 }) c.loop-block-test.true
      (range_later c.args.ascending.now c.in-Some.first.now c.in-Some.rest.now c.in-Some.ensures.cases.0 c.requires.ranges)).1;
  ordered = c.loop-block.invariant.ascending c.loop-block.block-index (record { start = 0; end = 0 }) (omega arith) c.loop-block-test.true;
}

pub returns : goal.returns
returns c = record {
  apart = rw c.in_ok-push.ensures.items c.loop-block.invariant.apart;
  same = λ offset.
      rw (c.in_ok-push.ensures.items, c.in-Some.ensures.cases.0)
      (c.loop-block.invariant.same offset ∙ rw (take_all c.loop-block.block-index c.in-Some.rest.now (omega (arith, c.loop-block-test.false))) refl);
}
