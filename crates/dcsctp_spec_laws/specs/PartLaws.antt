-- What the receive window counts, in other words: the bytes of all that is held, and its overhead for each part.
use Rattle.std.specs.Prelude.{◌≡◌, ℕ, ◌+◌, ◌*◌, List, length}
use Rattle.std.specs.List.{sum_by}
use Rattle.dcsctp_spec_lemmas.specs.spec.queues.Runs.{RunModel}
use Rattle.dcsctp_spec_lemmas.specs.spec.queues.IncomingStreams.{StreamModel}
use Rattle.dcsctp_spec_lemmas.specs.spec.queues.Incoming.{IncomingModel}
use Rattle.dcsctp_spec_lemmas.specs.spec.queues.Reassembly.{ReassemblyState, waiting_of, window_used}

-- how many parts are held: of messages that aren't whole, on a stream and in all,
abbrev pub parts_in_runs : List RunModel → ℕ
parts_in_runs runs = sum_by (λ run. length run.payloads) runs

-- with the whole messages that wait for an earlier one,
abbrev pub parts_on_stream : StreamModel → ℕ
parts_on_stream stream = length stream.waiting + parts_in_runs stream.ordered + parts_in_runs stream.unordered

abbrev pub parts_of_incoming : IncomingModel → ℕ
parts_of_incoming incoming = sum_by (λ entry. parts_on_stream entry.1) incoming.streams + parts_in_runs incoming.unordered

-- and with the data that waits for the end of a deferred reset
abbrev pub held_parts : ReassemblyState → ℕ
held_parts queue = parts_of_incoming queue.incoming + length (waiting_of queue.deferral)

-- the bytes of all that is held: what is in use where a part counts nothing beside them
abbrev pub held_bytes : ReassemblyState → ℕ
held_bytes queue = window_used (record queue { overhead = 0 })

abbrev pub WindowCountsParts : Type 0
WindowCountsParts = (queue : ReassemblyState) → window_used queue ≡ held_bytes queue + held_parts queue * queue.overhead
