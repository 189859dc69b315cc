-- The last stream that is left is put before those that follow it.
use Rattle.std.proofs.Common.{◌≡◌, ℕ, List, map, arith, ap, sym, ◌∙◌}
use Rattle.dcsctp_api.specs.types.declared.snapshot.HandoverOrderedStream.{HandoverOrderedStream}
use Rattle.dcsctp_api.specs.spec.queues.Incoming.{stream_on}
use Rattle.dcsctp_api.specs.spec.queues.IncomingStreams.{StreamModel, streams_used}
use Rattle.dcsctp_receive_reassembly.specs.Handover.{restored_over}
use Rattle.dcsctp_receive_reassembly.specs.Reassembly.{entry_of}
use Rattle.dcsctp_receive_reassembly.proofs.HandoverLemmas.{restored_last, restored_all}
use Rattle.dcsctp_receive_reassembly.proofs.handover.restored_streams.Goals as goal

pub loop-state-init : goal.loop-state-init
loop-state-init c =
    let rest : c.into_iter-state-iterator.result.iter.rest.now ≡ c.args.states.now = ap (λ i. i.iter.rest.now) c.into_iter-state-iterator.ensures.into_iter_gives ∙ ap (λ i. i.rest.now) c.rev-state-items.ensures.source ∙ c.iter.ensures.rest in
    record {
      streams = λ id.
          ap (λ (states : List HandoverOrderedStream). restored_over states id (stream_on id (map entry_of c.new-streams.result.entries))) rest
          ∙ ap (λ es. restored_over c.args.states.now id (stream_on id (map entry_of es))) c.new-streams.ensures.empty
          ∙ restored_all c.args.states.now id;
      used = λ overhead. ap (λ es. streams_used overhead (map entry_of es)) c.new-streams.ensures.empty;
    }

pub loop-state-preserved : goal.loop-state-preserved
loop-state-preserved c =
    let before : (id : ℕ) → StreamModel = λ id. stream_on id (map entry_of c.loop-state.streams.entries) in
    record {
      streams = λ id.
          ap (λ (stream : StreamModel). restored_over c.next.new.self.iter.rest.now id stream) (c.in_ok-put_stream.ensures.streams id)
          ∙ sym (restored_last c.next.new.self.iter.rest.now c.in-Some.state.now id (before id))
          ∙ ap (λ (states : List HandoverOrderedStream). restored_over states id (before id)) (sym c.in-Some.ensures.steps)
          ∙ c.loop-state.invariant.streams id;
      used = λ overhead. omega (arith, c.in_ok-put_stream.ensures.used overhead, c.loop-state.invariant.used overhead);
    }
