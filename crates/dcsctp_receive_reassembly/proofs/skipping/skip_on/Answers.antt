-- The stream that the map lends is the one at the identifier, before and after; the others stay.
use Rattle.std.proofs.Common.{◌≡◌, ◌+◌, ◌*◌, ◌++◌, ℕ, Some, map, length, arith, ap, subst, sym, ◌∙◌}
use Rattle.std.specs.Option.{option_copied_mut}
use Rattle.std.specs.BTreeMap.{get}
use Rattle.std.specs.Ordering.{nat_cmp}
use Rattle.std.proofs.lemmas.List.{length-map}
use Rattle.std.proofs.lemmas.List.Sums.{sum_by-append}
use Rattle.dcsctp_api.specs.types.queues.Messages.{MessageContent, message_content}
use Rattle.dcsctp_receive_reassembly.specs.Held.{capped_u128}
use Rattle.dcsctp_api.specs.spec.queues.IncomingStreams.{kept_stream_used, ready_bytes}
use Rattle.dcsctp_api.specs.spec.queues.IncomingStreams.{StreamModel, skipped_stream, skip_deliveries, skip_used}
use Rattle.dcsctp_receive_reassembly.specs.Streams.{waiting_whole, stream_model}
use Rattle.dcsctp_receive_reassembly.proofs.ReassemblyLemmas.{stream_on-get}
use Rattle.dcsctp_receive_reassembly.proofs.StreamUsed.{skipped_used}
use Rattle.dcsctp_receive_reassembly.proofs.StreamSums.{Written, stream_written}
use Rattle.dcsctp_receive_reassembly.proofs.WrittenLemmas.{skipped_written}
use Rattle.dcsctp_receive_reassembly.proofs.skipping.skip_on.Goals as goal

pub skip-requires : goal.skip-requires
skip-requires c =
    let found : get nat_cmp c.args.streams.now (skipped_stream c.args.entry.now) ≡ Some c.unwrap-stream.result.now = ap (λ (id : ℕ). get nat_cmp c.args.streams.now id) (sym c.stream_of.ensures) ∙ sym (subst (λ o. option_copied_mut o ≡ get nat_cmp c.args.streams.now c.stream_of.result.0) c.unwrap-stream.ensures c.get_mut.ensures.value) in
    omega (arith, c.requires.room, length-map c.unwrap-stream.result.now.waiting.entries waiting_whole, ap (λ (stream : StreamModel). length stream.waiting) (stream_on-get (skipped_stream c.args.entry.now) c.args.streams.now (Some c.unwrap-stream.result.now) found))

pub returns-clause-streams : goal.returns-clause-streams
returns-clause-streams c =
    let found : get nat_cmp c.args.streams.now c.stream_of.result.0 ≡ Some c.unwrap-stream.result.now = sym (subst (λ o. option_copied_mut o ≡ get nat_cmp c.args.streams.now c.stream_of.result.0) c.unwrap-stream.ensures c.get_mut.ensures.value) in
    let written : Written (skipped_stream c.args.entry.now) c.args.streams.now (c.get_mut.follows.lender c.skip.new.self) c.unwrap-stream.result.now c.skip.new.self = subst (λ (id : ℕ). Written id c.args.streams.now (c.get_mut.follows.lender c.skip.new.self) c.unwrap-stream.result.now c.skip.new.self) c.stream_of.ensures (stream_written c.stream_of.result.0 c.args.streams.now (c.get_mut.follows.lender c.skip.new.self) c.unwrap-stream.result.now c.skip.new.self found (c.get_mut.follows.holds c.skip.new.self)) in
    skipped_written c.args.entry.now c.args.streams.now (c.get_mut.follows.lender c.skip.new.self) c.unwrap-stream.result.now c.skip.new.self written c.skip.ensures.stream

pub returns-clause-made : goal.returns-clause-made
returns-clause-made c =
    let found : get nat_cmp c.args.streams.now c.stream_of.result.0 ≡ Some c.unwrap-stream.result.now = sym (subst (λ o. option_copied_mut o ≡ get nat_cmp c.args.streams.now c.stream_of.result.0) c.unwrap-stream.ensures c.get_mut.ensures.value) in
    (stream_written c.stream_of.result.0 c.args.streams.now (c.get_mut.follows.lender c.skip.new.self) c.unwrap-stream.result.now c.skip.new.self found (c.get_mut.follows.holds c.skip.new.self)).made

pub returns-clause-ready : goal.returns-clause-ready
returns-clause-ready c =
    let found : get nat_cmp c.args.streams.now (skipped_stream c.args.entry.now) ≡ Some c.unwrap-stream.result.now = ap (λ (id : ℕ). get nat_cmp c.args.streams.now id) (sym c.stream_of.ensures) ∙ sym (subst (λ o. option_copied_mut o ≡ get nat_cmp c.args.streams.now c.stream_of.result.0) c.unwrap-stream.ensures c.get_mut.ensures.value) in
    c.skip.ensures.ready ∙ ap (λ (stream : StreamModel). map message_content c.args.ready.now.items ++ skip_deliveries c.args.entry.now stream) (sym (stream_on-get (skipped_stream c.args.entry.now) c.args.streams.now (Some c.unwrap-stream.result.now) found))

pub returns-clause-size : goal.returns-clause-size
returns-clause-size c =
    let found : get nat_cmp c.args.streams.now (skipped_stream c.args.entry.now) ≡ Some c.unwrap-stream.result.now = ap (λ (id : ℕ). get nat_cmp c.args.streams.now id) (sym c.stream_of.ensures) ∙ sym (subst (λ o. option_copied_mut o ≡ get nat_cmp c.args.streams.now c.stream_of.result.0) c.unwrap-stream.ensures c.get_mut.ensures.value) in
    c.skip.ensures.size ∙ ap (λ (stream : StreamModel). capped_u128 (skip_used c.args.overhead c.args.entry.now stream + length (skip_deliveries c.args.entry.now stream) * c.args.overhead)) (sym (stream_on-get (skipped_stream c.args.entry.now) c.args.streams.now (Some c.unwrap-stream.result.now) found))

pub returns-clause-used : goal.returns-clause-used
returns-clause-used c =
    let found : get nat_cmp c.args.streams.now c.stream_of.result.0 ≡ Some c.unwrap-stream.result.now = sym (subst (λ o. option_copied_mut o ≡ get nat_cmp c.args.streams.now c.stream_of.result.0) c.unwrap-stream.ensures c.get_mut.ensures.value) in
    let written : Written (skipped_stream c.args.entry.now) c.args.streams.now (c.get_mut.follows.lender c.skip.new.self) c.unwrap-stream.result.now c.skip.new.self = subst (λ (id : ℕ). Written id c.args.streams.now (c.get_mut.follows.lender c.skip.new.self) c.unwrap-stream.result.now c.skip.new.self) c.stream_of.ensures (stream_written c.stream_of.result.0 c.args.streams.now (c.get_mut.follows.lender c.skip.new.self) c.unwrap-stream.result.now c.skip.new.self found (c.get_mut.follows.holds c.skip.new.self)) in
    omega (
      arith,
      written.used c.args.overhead,
      ap (kept_stream_used c.args.overhead) c.skip.ensures.stream,
      ap ready_bytes c.skip.ensures.ready,
      sum_by-append (λ (message : MessageContent). length message.payload) (map message_content c.args.ready.now.items) (skip_deliveries c.args.entry.now (stream_model c.unwrap-stream.result.now)),
      skipped_used c.args.overhead c.args.entry.now (stream_model c.unwrap-stream.result.now),
      ap (λ (stream : StreamModel). skip_used c.args.overhead c.args.entry.now stream + length (skip_deliveries c.args.entry.now stream) * c.args.overhead) written.was,
    )
