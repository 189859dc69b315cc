use Rattle.std.proofs.Common.{◌∙◌, ap, length, arith}
use Rattle.dcsctp_send_retransmission.specs.wire.Content.{IDataContent, i_data_content}
use Rattle.dcsctp_send_retransmission.specs.spec.queues.Sending.{Fragment}
use Rattle.dcsctp_transfer.proofs.AddingLemmas.{i_data_size, i_data_is}
use Rattle.dcsctp_transfer.proofs.sending.i_data_of.Goals as goal

pub returns-clause-says : goal.returns-clause-says
returns-clause-says c =
    i_data_is c.flags_of-flags.result c.args.tsn c.args.stream_id c.args.mid c.args.ppid_or_fsn c.in_bytes.result.now c.args.fragment.now c.flags_of-flags.ensures c.ranges.tsn.fits
    (c.in_bytes.ensures.same ∙ (c.deref.ensures.value ∙ ap (λ (part : Fragment). part.payload) c.fragment.view_is)) c.in_bytes.ensures.fit

pub returns-clause-fits : goal.returns-clause-fits
returns-clause-fits c =
    record {
      tsn = omega arith;
      stream_id = omega arith;
      mid = omega arith;
      ppid_or_fsn = omega arith;
      len_fits = omega (arith, ap length c.in_bytes.ensures.same, c.deref.ensures.len, c.fragment.inside.payload.ok.0, ap (λ (part : Fragment). length part.payload) c.fragment.view_is, c.requires);
      payload_in_bytes = c.in_bytes.ensures.fit;
    }

pub returns-clause-size : goal.returns-clause-size
returns-clause-size c =
    let len = ap length c.in_bytes.ensures.same ∙ c.deref.ensures.len ∙ c.fragment.inside.payload.ok.0 ∙ ap (λ (part : Fragment). length part.payload) c.fragment.view_is in
    let chunk : IDataContent = i_data_content (record { flags = c.flags_of-flags.result; tsn = c.args.tsn; stream_id = c.args.stream_id; mid = c.args.mid; ppid_or_fsn = c.args.ppid_or_fsn; payload = c.in_bytes.result }) in
    rw (← len) (i_data_size chunk (omega (arith, len, c.requires)))
