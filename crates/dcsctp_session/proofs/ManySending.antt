-- The call of a session that sends several messages, from the call of its socket on their fronts.
use Rattle.std.proofs.Common.{◌≡◌, ◌∙◌, ap, sym, inr, ℤ, List, length, map, Result}
use Rattle.std.proofs.lemmas.List.{length-map}
use Rattle.dcsctp_core.specs.types.declared.message.SendOptions.{SendOptions}
use Rattle.dcsctp_core.specs.types.queues.Messages.{MessageContent}
use Rattle.dcsctp_core.specs.spec.endpoint.MessageOutcomes.{sending_of}
use Rattle.dcsctp_core.specs.api.declared.errors.BatchSendError.{BatchSendError}
use Rattle.dcsctp_core.specs.api.declared.errors.SocketFault.{SocketFault}
use Rattle.dcsctp_core.specs.api.Messages.{SendsMany}
use Rattle.dcsctp_session.specs.declared.many.OutgoingRecord.{OutgoingRecord}
use Rattle.dcsctp_session.specs.declared.session.Session.{Session}
use Rattle.dcsctp_session.specs.declared.status.Status.{Status}
use Rattle.dcsctp_session.specs.Answering.{AreFronts, outcome_status, results_of_answer}
use Rattle.dcsctp_session.specs.Many.{outgoing_content, SendsCopies}
use Rattle.dcsctp_session.specs.Views.{view}
use Rattle.dcsctp_session.proofs.FrontTurns.{whole_outcome, whole_call, whole_status, whole_results}

pub copies_sent : (options : SendOptions) (messages : List OutgoingRecord) (fronts : List MessageContent) (outcome : Result (Result (Unit {0}) BatchSendError) SocketFault)
    (old : Session) (before : List ℤ) (status : Status) (after : List ℤ) (new : Session)
    → AreFronts (view old).endpoint.options.max_message_size (map outgoing_content messages) fronts
    → SendsMany fronts options (view old) outcome (view new)
    → status ≡ outcome_status outcome → after ≡ results_of_answer outcome (length messages) before → new.taken ≡ old.taken → new.checksum_offload ≡ old.checksum_offload
    → SendsCopies messages options old before status after new
copies_sent options messages fronts outcome old before status after new are sends told results taken offload =
    let wholes : List MessageContent = map outgoing_content messages in
    inr (record {
      outcome = whole_outcome options wholes fronts (view old) (view new) are outcome;
      call = whole_call options wholes fronts (view old) (view new) are outcome sends;
      told = told ∙ whole_status options wholes fronts (view old) (view new) are outcome sends;
      results =
          results ∙ ap (λ n. results_of_answer outcome n before) (sym (length-map wholes (sending_of options) ∙ length-map messages outgoing_content))
          ∙ whole_results options wholes fronts (view old) (view new) are outcome before sends;
      taken = taken;
      offload = offload;
    })
