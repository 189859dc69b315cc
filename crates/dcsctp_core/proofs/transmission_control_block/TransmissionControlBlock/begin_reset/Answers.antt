use Rattle.std.proofs.Common.{ℕ, ◌∙◌, ap, sym, ◌==◌}
use Rattle.std.proofs.lemmas.List.{length-map}
use Rattle.dcsctp_transfer.specs.types.Ids.{stream_numbers}
use Rattle.dcsctp_core.proofs.ResetLemmas.{begins_by, begins_none, none_outstanding, some_ready}
use Rattle.dcsctp_core.proofs.transmission_control_block.TransmissionControlBlock.begin_reset.Goals as goal
use Rattle.dcsctp_transfer.specs.spec.endpoint.BegunResets.{streams_within}

pub returns-clause-ok : goal.returns-clause-ok
returns-clause-ok c =
    begins_by c.args.start c.streams_within.result (stream_numbers c.in_ok-streams.streams.items) c.args.queue.now c.args.self.now c.args.packet.now c.get_streams_ready_to_reset.new.self c.start_ssn_reset_request.new.self
    c.start_ssn_reset_request.new.packet c.start_ssn_reset_request.result (none_outstanding c.args.self.now.reset_request (sym c.is_some.ensures ∙ c.if-is_some.false))
    (c.streams_within.ensures ∙ ap streams_within c.bytes_remaining-room.ensures.value) c.in_ok-streams.ensures.streams
    (ap (λ (n : ℕ). n == 0) (length-map c.in_ok-streams.streams.items (λ id. id.0) ∙ sym c.in_ok-streams.streams.ok.0) ∙ sym c.is_empty.ensures ∙ c.if-is_empty.false)
    c.in_ok-streams.ensures.left c.start_ssn_reset_request.ensures

pub returns-then-is_empty-clause-ok : goal.returns-then-is_empty-clause-ok
returns-then-is_empty-clause-ok c =
    begins_none c.args.start c.streams_within.result (stream_numbers c.in_ok-streams.streams.items) c.args.queue.now c.args.self.now c.args.packet.now c.get_streams_ready_to_reset.new.self
    (c.streams_within.ensures ∙ ap streams_within c.bytes_remaining-room.ensures.value) c.in_ok-streams.ensures.streams
    (ap (λ (n : ℕ). n == 0) (length-map c.in_ok-streams.streams.items (λ id. id.0) ∙ sym c.in_ok-streams.streams.ok.0) ∙ sym c.is_empty.ensures ∙ c.if-is_empty.true)
    (some_ready c.has_streams_ready_to_be_reset.result _ c.has_streams_ready_to_be_reset.ensures c.if-not-has_streams_ready_to_be_reset.false) c.in_ok-streams.ensures.left
