-- What holds of each packet among events.
use Rattle.std.proofs.Common.{List, [], ◌∷◌, ◌++◌}
use Rattle.dcsctp_spec_lemmas.specs.spec.endpoint.Event.{Event, sent, connected, closed, connection_restarted, aborted, error, buffered_amount_low, total_buffered_amount_low, streams_reset_failed, streams_reset_performed, incoming_stream_reset, lifecycle_message_fully_sent, lifecycle_message_maybe_expired, lifecycle_message_expired, lifecycle_message_delivered, lifecycle_end}
use Rattle.dcsctp_spec_lemmas.specs.spec.Packet.{Emission}
use Rattle.dcsctp_spec_runs.specs.Fitting.{AllSent, HoldsIfSent}

pub all_sent_append : (Good : Emission → Type 0) (events more : List (Event Emission)) → AllSent Good events → AllSent Good more → AllSent Good (events ++ more)
all_sent_append Good [] more none others = others
all_sent_append Good (event ∷ events) more each others = (each.0, all_sent_append Good events more each.1 others)

of_sent_map : {Good Better : Emission → Type 0} → ((emission : Emission) → Good emission → Better emission) → (event : Event Emission) → HoldsIfSent Good event → HoldsIfSent Better event
of_sent_map f (sent emission) good = f emission good
of_sent_map f connected good = tt
of_sent_map f closed good = tt
of_sent_map f connection_restarted good = tt
of_sent_map f (aborted kind text) good = tt
of_sent_map f (error kind text) good = tt
of_sent_map f (buffered_amount_low stream) good = tt
of_sent_map f total_buffered_amount_low good = tt
of_sent_map f (streams_reset_failed streams) good = tt
of_sent_map f (streams_reset_performed streams) good = tt
of_sent_map f (incoming_stream_reset streams) good = tt
of_sent_map f (lifecycle_message_fully_sent id) good = tt
of_sent_map f (lifecycle_message_maybe_expired id) good = tt
of_sent_map f (lifecycle_message_expired id) good = tt
of_sent_map f (lifecycle_message_delivered id) good = tt
of_sent_map f (lifecycle_end id) good = tt

pub all_sent_map : {Good Better : Emission → Type 0} → ((emission : Emission) → Good emission → Better emission) → (events : List (Event Emission)) → AllSent Good events → AllSent Better events
all_sent_map f [] each = tt
all_sent_map f (event ∷ events) each = (of_sent_map f event each.0, all_sent_map f events each.1)
