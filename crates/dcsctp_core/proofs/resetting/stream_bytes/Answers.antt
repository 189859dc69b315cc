use Rattle.std.proofs.Common.{ℕ, ◌<◌, ◌^◌, List, ap, subst, ◌∙◌, arith}
use Rattle.std.specs.List.{flat_map, AllByRecursion}
use Rattle.std.specs.Int.{w16, to_be_bytes}
use Rattle.std.proofs.lemmas.List.{take_all}
use Rattle.dcsctp_transfer.specs.types.declared.ids.StreamId.{StreamId}
use Rattle.dcsctp_transfer.specs.types.Ids.{stream_numbers}
use Rattle.dcsctp_core.specs.Resetting.{IsStream}
use Rattle.dcsctp_core.proofs.ResetLemmas.{pushed, one_fits}
use Rattle.dcsctp_core.proofs.resetting.stream_bytes.Goals as goal

pub loop-stream-init : goal.loop-stream-init
loop-stream-init c = record { bytes = c.new-bytes.ensures.items; fit = tt }

pub loop-stream-preserved : goal.loop-stream-preserved
loop-stream-preserved c =
    let within = c.loop-stream-test.true in
    record {
      bytes = c.in_ok-extend_from_slice.ensures.items
          ∙ pushed c.args.streams.now c.loop-stream.stream-index _ c.loop-stream.bytes.items c.to_be_bytes.result within c.loop-stream.invariant.bytes
          (c.to_be_bytes.ensures ∙ ap (to_be_bytes w16) c.number_of-number.ensures);
      fit = one_fits c.args.streams.now c.loop-stream.stream-index _ within c.loop-stream.invariant.fit (subst (λ (n : ℕ). n < 2 ^ 16) c.number_of-number.ensures c.number_of-number.type_inv);
    }

pub returns-clause-bytes : goal.returns-clause-bytes
returns-clause-bytes c =
    c.loop-stream.invariant.bytes
    ∙ ap (λ (ids : List StreamId). flat_map (to_be_bytes w16) (stream_numbers ids)) (take_all c.loop-stream.stream-index c.args.streams.now (omega (arith, c.loop-stream-test.false)))

pub returns-clause-fit : goal.returns-clause-fit
returns-clause-fit c =
    subst (λ (ids : List StreamId). AllByRecursion IsStream (stream_numbers ids)) (take_all c.loop-stream.stream-index c.args.streams.now (omega (arith, c.loop-stream-test.false))) c.loop-stream.invariant.fit
