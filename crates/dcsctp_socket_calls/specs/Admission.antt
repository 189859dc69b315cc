-- What an admission is to the machine.
use Rattle.std.specs.Prelude.{ℕ, List}
use Rattle.dcsctp_core.specs.spec.Admission as machine
use Rattle.dcsctp_core.specs.spec.Admission.{all_chunks, shutdown_acks_alone, refused, abort_text, shutdown_complete_text, shutdown_ack_text, single_init_text, wrong_tag_text}
use Rattle.dcsctp_socket_calls.specs.declared.admission.Admission.{Admission}
use Rattle.dcsctp_socket_calls.specs.declared.admission.Admission.TheVariants.{AllChunks, ShutdownAcksAlone, Refused}
use Rattle.dcsctp_socket_calls.specs.declared.admission.Refusal.{Refusal}
use Rattle.dcsctp_socket_calls.specs.declared.admission.Refusal.TheVariants.{WrongAbortTag, WrongShutdownCompleteTag, WrongShutdownAckTag, NotASingleInit, WrongTag}

abbrev pub admission_refusal_text : Refusal → List ℕ
admission_refusal_text WrongAbortTag = abort_text
admission_refusal_text WrongShutdownCompleteTag = shutdown_complete_text
admission_refusal_text WrongShutdownAckTag = shutdown_ack_text
admission_refusal_text NotASingleInit = single_init_text
admission_refusal_text (WrongTag header expected) = wrong_tag_text header expected

abbrev pub admission_of : Admission → machine.Admission
admission_of AllChunks = all_chunks
admission_of ShutdownAcksAlone = shutdown_acks_alone
admission_of (Refused refusal) = refused (admission_refusal_text refusal)
