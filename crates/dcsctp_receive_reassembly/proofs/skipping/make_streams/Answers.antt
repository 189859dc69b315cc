-- The streams that were made before are still there.
use Rattle.std.proofs.Common.{ℕ, List, take, get_or, arith, subst, sym, ◌∙◌}
use Rattle.std.specs.Prelude.{IsSome}
use Rattle.std.specs.BTreeMap.{get}
use Rattle.std.specs.Ordering.{nat_cmp}
use Rattle.std.proofs.lemmas.List.{take_more}
use Rattle.dcsctp_api.specs.types.declared.arrivals.SkippedTo.{SkippedTo}
use Rattle.dcsctp_api.specs.types.declared.arrivals.SkippedTo.TheVariants.{Ssn}
use Rattle.dcsctp_receive_reassembly.specs.Skipping.{AllMade}
use Rattle.dcsctp_receive_reassembly.proofs.SkippingLemmas.{AllMade-kept, AllMade-more}
use Rattle.dcsctp_receive_reassembly.proofs.skipping.make_streams.Goals as goal

pub loop-entry-preserved : goal.loop-entry-preserved
loop-entry-preserved c =
    let entry : SkippedTo = get_or c.args.entries.now c.loop-entry.entry-index (Ssn (record { 0 = 0 }) 0) in
    let front : List SkippedTo = take c.loop-entry.entry-index c.args.entries.now in
    record {
      made =
          subst (λ (all : List SkippedTo). AllMade all c.make_stream.new.streams) (sym (take_more c.args.entries.now c.loop-entry.entry-index (Ssn (record { 0 = 0 }) 0) (omega arith)))
          (AllMade-more front entry c.make_stream.new.streams (AllMade-kept front c.loop-entry.streams c.make_stream.new.streams c.make_stream.ensures.kept c.loop-entry.invariant.made) (subst (λ (id : ℕ). IsSome (get nat_cmp c.make_stream.new.streams id)) c.stream_of.ensures c.in_ok-make_stream.ensures.made));
      streams = λ id. c.make_stream.ensures.streams id ∙ c.loop-entry.invariant.streams id;
      used = λ overhead. c.make_stream.ensures.used overhead ∙ c.loop-entry.invariant.used overhead;
    }
