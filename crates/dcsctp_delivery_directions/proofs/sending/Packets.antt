-- What packets say.
use Rattle.std.proofs.Common.{◌≡◌, ℕ, Bool, true, false, ◌+◌, ◌-◌, ◌≤◌, ◌%◌, ◌^◌, List, [], ◌∷◌, ◌++◌, length, map, refl, sym, arith, subst, inl}
use Rattle.std.specs.Prelude.{Option, None, Some, slice_get, nat_le, if◌then◌else◌}
use Rattle.dcsctp_spec.specs.wire.Content.{ChunkContent, data_chunk, i_data_chunk, init_chunk, init_ack_chunk, sack_chunk, heartbeat_chunk, heartbeat_ack_chunk, abort_chunk, shutdown_chunk, shutdown_ack_chunk, error_chunk, cookie_echo_chunk, cookie_ack_chunk, shutdown_complete_chunk, re_config_chunk, forward_tsn_chunk, i_forward_tsn_chunk, unknown_chunk}
use Rattle.dcsctp_spec.specs.wire.Spelling.{chunk_bytes}
use Rattle.dcsctp_spec.specs.endpoint.Event.{Event, sent, connected, closed, connection_restarted, aborted, error, buffered_amount_low, total_buffered_amount_low, streams_reset_failed, streams_reset_performed, incoming_stream_reset, lifecycle_message_fully_sent, lifecycle_message_maybe_expired, lifecycle_message_expired, lifecycle_message_delivered, lifecycle_end, packets_of_events}
use Rattle.dcsctp_spec.specs.Packet.{Plain, unknown, heartbeat, heartbeat_ack, unworked, plain, init, init_ack, cookie_echo, cookie_ack, re_config, abort, shutdown, shutdown_ack, shutdown_complete, plain_out, Content, Emission}
use Rattle.dcsctp_spec.specs.endpoint.Endpoint.{Endpoint}
use Rattle.dcsctp_spec.specs.Reconfiguration.{ResetParameter, outgoing_reset_request, incoming_reset_request, reconfiguration_response, other_reset_parameter}
use Rattle.dcsctp_spec.specs.association.Choices.{plain_contents}
use Rattle.dcsctp_spec.specs.types.queues.Progress.{is_abandoned}
use Rattle.dcsctp_spec.specs.queues.Items.{Item, is_first_abandoned}
use Rattle.dcsctp_spec.specs.queues.Outstanding.{OutstandingState}
use Rattle.dcsctp_spec.specs.queues.Retransmission.{RetransmissionState}
use Rattle.dcsctp_spec.specs.queues.Skipping.{forward_chunk}
use Rattle.dcsctp_spec.specs.queues.Transfer.{Transfer}
use Rattle.dcsctp_spec.specs.queues.Tracker.{TrackerState}
use Rattle.dcsctp_spec.specs.endpoint.BegunResets.{BegunReset, request_contents}
use Rattle.dcsctp_spec.specs.endpoint.FlushOutcomes.{FillingEvent, amount_is_low, total_amount_is_low, message_is_sent, message_may_have_expired, message_has_expired, message_ends, filling_event, goes_out, where_fits, own_sack, Acknowledges, ForwardsIfAbandoned}
use Rattle.dcsctp_delivery_directions.specs.sending.Log.{Slot, History, log_extended, with_mark, Message, IsLogOfPieces}
use Rattle.dcsctp_delivery_directions.specs.sending.Numbers.{AreOfKind}
use Rattle.dcsctp_delivery_directions.specs.sending.Stages.{Bears, IsOfLimited, IsOfLog, AreOfLog}
use Rattle.dcsctp_delivery_directions.specs.sending.Flushes.{AreBegun, NoRequests, IsPassed, AreForwardEntries, HasLimited, PassesAcknowledged, SaysPlain, NoPlain, NoContent, NoData, SaysContent, SayAll, PacketsSay}
use Rattle.dcsctp_delivery_directions.specs.sending.Naming.{NamesPassed}
pub use Rattle.dcsctp_delivery_directions.proofs.sending.Extended.{at_more}
use Rattle.dcsctp_delivery_directions.proofs.sending.Extended.{extends_grown, packets_later}
use Rattle.dcsctp_delivery_directions.proofs.sending.RowNames.{row_named}
use Rattle.dcsctp_delivery_directions.proofs.sending.Entries.{row_closes, row_passed, listed_entries, entry_found}

pub packets_more : (more : List Slot) (history : History) (first acknowledged : ℕ) (emissions : List Emission) → PacketsSay history first acknowledged emissions → PacketsSay (log_extended more history) first acknowledged emissions
packets_more more history first acknowledged emissions say = packets_later history (log_extended more history) (extends_grown more history) first acknowledged acknowledged (omega arith) emissions say

module _ (history : History) (first acknowledged : ℕ) where
  pub say_both : (contents others : List Content) → SayAll history first acknowledged contents → SayAll history first acknowledged others → SayAll history first acknowledged (contents ++ others)
  say_both [] others say say' = say'
  say_both (c ∷ contents) others say say' = (say.0, say_both contents others say.1 say')

  pub packets_both : (events others : List (Event Emission)) → PacketsSay history first acknowledged (packets_of_events events) → PacketsSay history first acknowledged (packets_of_events others) → PacketsSay history first acknowledged (packets_of_events (events ++ others))
  packets_both [] others say say' = say'
  packets_both (sent e ∷ events) others say say' = (say.0, packets_both events others say.1 say')
  packets_both (connected ∷ events) others say say' = packets_both events others say say'
  packets_both (closed ∷ events) others say say' = packets_both events others say say'
  packets_both (connection_restarted ∷ events) others say say' = packets_both events others say say'
  packets_both (aborted k t ∷ events) others say say' = packets_both events others say say'
  packets_both (error k t ∷ events) others say say' = packets_both events others say say'
  packets_both (buffered_amount_low i ∷ events) others say say' = packets_both events others say say'
  packets_both (total_buffered_amount_low ∷ events) others say say' = packets_both events others say say'
  packets_both (streams_reset_failed i ∷ events) others say say' = packets_both events others say say'
  packets_both (streams_reset_performed i ∷ events) others say say' = packets_both events others say say'
  packets_both (incoming_stream_reset i ∷ events) others say say' = packets_both events others say say'
  packets_both (lifecycle_message_fully_sent i ∷ events) others say say' = packets_both events others say say'
  packets_both (lifecycle_message_maybe_expired i ∷ events) others say say' = packets_both events others say say'
  packets_both (lifecycle_message_expired i ∷ events) others say say' = packets_both events others say say'
  packets_both (lifecycle_message_delivered i ∷ events) others say say' = packets_both events others say say'
  packets_both (lifecycle_end i ∷ events) others say say' = packets_both events others say say'

  -- ---- what a packet is filled with

  said_chunk : (is_interleaved : Bool) (chunk : Plain) → IsOfLog history.log first is_interleaved chunk → SaysPlain history first acknowledged chunk
  said_chunk true chunk of =
      subst (λ (c : Plain). SaysPlain history first acknowledged c) (sym of.is) (record { number = of.number; part = of.part; says = of.says; is = refl; kind = of.kind })
  said_chunk false chunk of =
      subst (λ (c : Plain). SaysPlain history first acknowledged c) (sym of.is) (record { number = of.number; part = of.part; says = of.says; is = refl; kind = of.kind })

  pub said_chunks : (is_interleaved : Bool) (chunks : List Plain) → AreOfLog history.log first is_interleaved chunks → SayAll history first acknowledged (plain_contents chunks)
  said_chunks is_interleaved [] of = tt
  said_chunks is_interleaved (c ∷ chunks) of = (said_chunk is_interleaved c of.0, said_chunks is_interleaved chunks of.1)

  said_fitting : (room : ℕ) (chunk : Plain) → SaysPlain history first acknowledged chunk → SayAll history first acknowledged (plain_contents (where_fits room chunk))
  said_fitting room chunk says = go (nat_le (length (chunk_bytes (plain_out chunk))) room)
    where
      go : (b : Bool) → SayAll history first acknowledged (plain_contents (if b then chunk ∷ [] else []))
      go true = (says, tt)
      go false = tt

  pub said_sacks : (wants : Bool) (room : ℕ) (transfer : Transfer) (after : TrackerState) (chunks : List Plain) → Acknowledges wants room transfer after chunks → SayAll history first acknowledged (plain_contents chunks)
  said_sacks false room transfer after chunks acknowledges = subst (λ (l : List Plain). SayAll history first acknowledged (plain_contents l)) (sym acknowledges.1) tt
  said_sacks true room transfer after chunks acknowledges = subst (λ (l : List Plain). SayAll history first acknowledged (plain_contents l)) (sym acknowledges.1) (said_fitting room (own_sack room transfer) tt)

  said_forward : (is_interleaved : Bool) (tsn : ℕ) (entries : List ((ℕ × Bool) × ℕ)) → (passed : IsPassed history.log first tsn) → AreForwardEntries is_interleaved history passed.passed entries → HasLimited is_interleaved history.log → PassesAcknowledged history.log acknowledged passed.passed
      → (is_interleaved ≡ true → NamesPassed history.log acknowledged passed.passed entries) → SaysPlain history first acknowledged (unworked (forward_chunk is_interleaved tsn entries))
  said_forward true tsn entries passed names limited reliable each = record { passed = passed; entries = entries; is = refl; names = names; limited = limited; reliable = reliable; each = each }
  said_forward false tsn entries passed names limited reliable each = record { passed = passed; entries = entries; is = refl; names = names; limited = limited; reliable = reliable; each = each }

  -- the message of the first item in flight may be abandoned, if it was
  first_limited : (outstanding : OutstandingState) → AreOfKind outstanding.is_interleaved history.log → Bears history first acknowledged outstanding → is_first_abandoned outstanding.items ≡ true → HasLimited outstanding.is_interleaved history.log
  first_limited outstanding kinds b is = go outstanding.items (b.abandoned 0) is
    where
      go : (items : List Item) → ((item : Item) → slice_get items 0 ≡ Some item → is_abandoned item.progress.state ≡ true → IsOfLimited history.log item.fragment) → is_first_abandoned items ≡ true → HasLimited outstanding.is_interleaved history.log
      go [] limited first_is = absurd (cc)
      go (item ∷ items) limited first_is = (let of = limited item refl first_is in record { number = of.number; piece = of.piece; at = of.at; limited = of.limited; kind = kinds of.number of.piece of.at })

  passed_by : (count : ℕ) (outstanding : OutstandingState) → Bears history first acknowledged outstanding → count ≤ length outstanding.items → IsPassed history.log first ((outstanding.first_tsn + count + (2 ^ 32 - 1)) % 2 ^ 32)
  passed_by count outstanding b within =
      record { passed = acknowledged + count; below = omega (arith, b.count, within); is = (let at = b.tsn in grind (arith, at)) }

  pub said_forwards : (queued : List Message) → IsLogOfPieces queued history.log → (made : Bool) (now : ℕ) (transfer : Transfer) (room : ℕ) (state : RetransmissionState) (next : Option ℕ) (chunks : List Plain) → AreOfKind state.outstanding.is_interleaved history.log → Bears history first acknowledged state.outstanding
      → (made ≡ true → is_first_abandoned state.outstanding.items ≡ true) → ForwardsIfAbandoned made now transfer room state next chunks
      → SayAll history first acknowledged (plain_contents chunks)
  unfolding passed_by
  said_forwards queued cut false now transfer room state next chunks kinds b abandoned forwards = subst (λ (l : List Plain). SayAll history first acknowledged (plain_contents l)) (sym forwards.1) tt
  said_forwards queued cut true now transfer room state next chunks kinds b abandoned forwards =
      let (chunk, says, is) = forwards.1 in
      subst (λ (l : List Plain). SayAll history first acknowledged (plain_contents l)) (sym is)
      (said_fitting room (unworked chunk) (subst (λ (c : ChunkContent). SaysPlain history first acknowledged (unworked c)) (sym says.is) (said_forward state.outstanding.is_interleaved _ says.entries (passed_by says.count state.outstanding b says.row.within)
      (listed_entries history first queued cut acknowledged says.count state.outstanding kinds b says.row.within says.row.each (row_closes history first queued cut acknowledged _ _ says.count state.outstanding b says.row) says.entries says.entries says.lists.numbers (entry_found says.entries says.lists.none_twice))
      (first_limited state.outstanding kinds b (abandoned refl))
      (row_passed history first queued cut acknowledged says.count state.outstanding b says.row.within says.row.each)
      (λ kind. row_named history first queued cut acknowledged says.count state.outstanding b says.row.within says.entries kind (λ stream unordered. says.lists.numbers stream unordered)))))

  pub said_request : (begun : Option BegunReset) (ids : List ℕ) (bound : ℕ) → SayAll (with_mark begun ids bound history) first acknowledged (request_contents begun)
  said_request None ids bound = tt
  said_request (Some begun) ids bound = ((record { mark = record { bound = bound; begun = begun; ids = ids }; has = inl refl; is = refl }, tt), tt)

  told_none : (told : List FillingEvent) → PacketsSay history first acknowledged (packets_of_events (map filling_event told))
  told_none [] = tt
  told_none (amount_is_low stream ∷ told) = told_none told
  told_none (total_amount_is_low ∷ told) = told_none told
  told_none (message_is_sent id ∷ told) = told_none told
  told_none (message_may_have_expired id ∷ told) = told_none told
  told_none (message_has_expired id ∷ told) = told_none told
  told_none (message_ends id ∷ told) = told_none told

  pub out_says : (e : Endpoint) (told : List FillingEvent) (with_checksum : Bool) (tag : ℕ) (contents : List Content) → SayAll history first acknowledged contents
      → PacketsSay history first acknowledged (packets_of_events (goes_out e (map filling_event told) with_checksum tag contents).events)
  out_says e told with_checksum tag [] say = told_none told
  out_says e told with_checksum tag (c ∷ contents) say =
      packets_both (map filling_event told) (sent (record { with_checksum = with_checksum; packet = record { tag = tag; contents = c ∷ contents } }) ∷ []) (told_none told) (say, tt)

pub out_below : (e : Endpoint) (told : List (Event Emission)) (with_checksum : Bool) (tag : ℕ) (contents : List Content) → (goes_out e told with_checksum tag contents).after.queues ≡ e.queues
out_below e told with_checksum tag [] = refl
out_below e told with_checksum tag (c ∷ contents) = refl

-- ---- what isn't of data

module _ (history : History) (first acknowledged : ℕ) where
  open_none : (chunk : ChunkContent) → NoPlain (unworked chunk) → SaysPlain history first acknowledged (unworked chunk)
  open_none (data_chunk d) no_data = absurd no_data
  open_none (i_data_chunk d) no_data = absurd no_data
  open_none (forward_tsn_chunk t bs) no_data = absurd no_data
  open_none (i_forward_tsn_chunk t bs) no_data = absurd no_data
  open_none (init_chunk c) no_data = tt
  open_none (init_ack_chunk c) no_data = tt
  open_none (sack_chunk c) no_data = tt
  open_none (heartbeat_chunk ps) no_data = tt
  open_none (heartbeat_ack_chunk ps) no_data = tt
  open_none (abort_chunk b cs) no_data = tt
  open_none (shutdown_chunk t) no_data = tt
  open_none shutdown_ack_chunk no_data = tt
  open_none (error_chunk cs) no_data = tt
  open_none (cookie_echo_chunk bs) no_data = tt
  open_none cookie_ack_chunk no_data = tt
  open_none (shutdown_complete_chunk b) no_data = tt
  open_none (re_config_chunk ps) no_data = tt
  open_none (unknown_chunk t f bs) no_data = tt

  requests_none : (parameters : List ResetParameter) → NoRequests parameters → AreBegun history parameters
  requests_none [] none = tt
  requests_none (outgoing_reset_request number answered reset ∷ parameters) none = absurd none
  requests_none (incoming_reset_request number streams ∷ parameters) none = absurd none
  requests_none (reconfiguration_response number result ∷ parameters) none = requests_none parameters none
  requests_none (other_reset_parameter content ∷ parameters) none = requests_none parameters none

  content_none : (content : Content) → NoContent content → SaysContent history first acknowledged content
  content_none (plain (unknown type flags value)) no_data = tt
  content_none (plain (heartbeat parameters)) no_data = tt
  content_none (plain (heartbeat_ack parameters)) no_data = tt
  content_none (plain (unworked chunk)) no_data = open_none chunk no_data
  content_none (init i) no_data = tt
  content_none (init_ack i b) no_data = tt
  content_none (cookie_echo b) no_data = tt
  content_none cookie_ack no_data = tt
  content_none (re_config ps) no_data = requests_none ps no_data
  content_none (abort b cs) no_data = tt
  content_none (shutdown t) no_data = tt
  content_none shutdown_ack no_data = tt
  content_none (shutdown_complete b) no_data = tt

  pub none_said : (contents : List Content) → NoData contents → SayAll history first acknowledged contents
  none_said [] no_data = tt
  none_said (c ∷ contents) no_data = (content_none c no_data.0, none_said contents no_data.1)
