-- What comes of a packet of the other side is a delivery in the machine that agreement is proved on.
use Rattle.std.proofs.Common.{false, true, Bool, ◌≡◌, ◌<◌, ◌^◌, ℕ, zero, suc, Option, Some, List, [], ◌∷◌, map, refl, sym, subst, ap, ◌∙◌}
use Rattle.std.specs.List.{AllByRecursion, slice_get}
use Rattle.dcsctp_spec_lemmas.specs.wire.Content.{PacketContent}
use Rattle.dcsctp_spec_lemmas.specs.wire.Format.{IsPacket}
use Rattle.dcsctp_spec_lemmas.specs.wire.ReadsBack.{FitsChunk, FitsFields, BuiltPacketReadsAsItself}
use Rattle.dcsctp_spec_lemmas.specs.types.declared.options.Options.{Options}
use Rattle.dcsctp_spec_lemmas.specs.types.Settings.{FitsOptions, Ports, ports_of, wire_options}
use Rattle.dcsctp_spec_lemmas.specs.spec.endpoint.Event.{Event, event_map, sent, connected, closed, connection_restarted, aborted, error, buffered_amount_low, total_buffered_amount_low, streams_reset_failed, streams_reset_performed, incoming_stream_reset, lifecycle_message_fully_sent, lifecycle_message_maybe_expired, lifecycle_message_expired, lifecycle_message_delivered, lifecycle_end, packets_of_events}
use Rattle.dcsctp_spec_lemmas.specs.spec.Packet.{Content, init, init_ack, cookie_echo, cookie_ack, re_config, abort, shutdown, shutdown_ack, shutdown_complete, plain, Packet, Emission, content_of_chunk, chunk_out, packet_of_content, emission_bytes}
use Rattle.dcsctp_spec_lemmas.specs.spec.endpoint.Endpoint.{Endpoint, Core, closed, cookie_wait, cookie_echoed, open_in}
use Rattle.dcsctp_spec_lemmas.specs.spec.endpoint.Following.{Following, next_chunk, packet_end, dropped_rest}
use Rattle.dcsctp_spec_lemmas.specs.spec.endpoint.Turn.{Input, packet_ends}
use Rattle.dcsctp_spec_lemmas.specs.spec.endpoint.CallTurns.{asked_again, Transition, Turns, AfterChunk, ChunkTurns}
use Rattle.dcsctp_spec_lemmas.specs.spec.Admission.{shutdown_acks_of}
use Rattle.dcsctp_spec_runs.specs.Laws.{OfferReadsBack, FitsTurns}
use Rattle.dcsctp_spec_laws.specs.TurnLaws.{FitsOwn, FitsContent}
use Rattle.dcsctp_spec_runs.specs.Fitting.{AllSent, FitsCore, FitsEndpoint, Sendable, SendablePacket, TurnFits}
use Rattle.dcsctp_theorem_sockets.proofs.DataFits.{end_fits}
use Rattle.dcsctp_theorem_sockets.proofs.ShutdownFits.{shut_down_fits}
use Rattle.dcsctp_theorem_sockets.proofs.TurnsFit.{turn_fits}

-- ---- a packet in bytes

-- One of these packets has these bytes.
pub record IsSent (Good : Emission → Type 0) (f : Emission → List ℕ) (bytes : List ℕ) : Type 0 where
  pub emission : Emission
  pub good : Good emission
  pub is : bytes ≡ f emission

abbrev the : List ℕ → Option (List ℕ)
the bytes = Some bytes

found_first : (Good : Emission → Type 0) (f : Emission → List ℕ) (emission : Emission) (bytes : List ℕ) → Good emission → the (f emission) ≡ the bytes → IsSent Good f bytes
found_first Good f emission bytes good same = record { emission = emission; good = good; is = cc }

-- the packet of a number among those of events
pub sent_at : (Good : Emission → Type 0) (f : Emission → List ℕ) (events : List (Event Emission)) (index : ℕ) (bytes : List ℕ) → AllSent Good events
    → slice_get (packets_of_events (map (event_map f) events)) index ≡ Some bytes → IsSent Good f bytes
sent_at Good f [] index bytes each found = absurd (cc)
sent_at Good f (sent emission ∷ events) zero bytes each found = found_first Good f emission bytes each.0 found
sent_at Good f (sent emission ∷ events) (suc index) bytes each found = sent_at Good f events index bytes each.1 found
sent_at Good f (connected ∷ events) index bytes each found = sent_at Good f events index bytes each.1 found
sent_at Good f (closed ∷ events) index bytes each found = sent_at Good f events index bytes each.1 found
sent_at Good f (connection_restarted ∷ events) index bytes each found = sent_at Good f events index bytes each.1 found
sent_at Good f (aborted kind text ∷ events) index bytes each found = sent_at Good f events index bytes each.1 found
sent_at Good f (error kind text ∷ events) index bytes each found = sent_at Good f events index bytes each.1 found
sent_at Good f (buffered_amount_low stream ∷ events) index bytes each found = sent_at Good f events index bytes each.1 found
sent_at Good f (total_buffered_amount_low ∷ events) index bytes each found = sent_at Good f events index bytes each.1 found
sent_at Good f (streams_reset_failed streams ∷ events) index bytes each found = sent_at Good f events index bytes each.1 found
sent_at Good f (streams_reset_performed streams ∷ events) index bytes each found = sent_at Good f events index bytes each.1 found
sent_at Good f (incoming_stream_reset streams ∷ events) index bytes each found = sent_at Good f events index bytes each.1 found
sent_at Good f (lifecycle_message_fully_sent id ∷ events) index bytes each found = sent_at Good f events index bytes each.1 found
sent_at Good f (lifecycle_message_maybe_expired id ∷ events) index bytes each found = sent_at Good f events index bytes each.1 found
sent_at Good f (lifecycle_message_expired id ∷ events) index bytes each found = sent_at Good f events index bytes each.1 found
sent_at Good f (lifecycle_message_delivered id ∷ events) index bytes each found = sent_at Good f events index bytes each.1 found
sent_at Good f (lifecycle_end id ∷ events) index bytes each found = sent_at Good f events index bytes each.1 found

-- ---- what is read of it

-- the packet as it is built
abbrev pub built : Ports → Packet → PacketContent
built ports packet = record { source_port = ports.local; destination_port = ports.remote; verification_tag = packet.tag; chunks = map chunk_out packet.contents }

chunks_fit : (contents : List Content) → AllByRecursion Sendable contents → AllByRecursion FitsChunk (map chunk_out contents)
chunks_fit [] each = tt
chunks_fit (content ∷ contents) each = (each.0.fits, chunks_fit contents each.1)

pub fields_fit : (options : Options) (packet : Packet) → FitsOptions options → SendablePacket packet → FitsFields (built (ports_of options) packet)
fields_fit options packet fits h =
    record { source_port = fits.local_port; destination_port = fits.remote_port; verification_tag = h.tag; chunks = chunks_fit packet.contents h.contents }

contents_read : (contents : List Content) → AllByRecursion Sendable contents → map content_of_chunk (map chunk_out contents) ≡ contents
contents_read [] each = refl
contents_read (content ∷ contents) each =
    ap (λ (c : Content). c ∷ map content_of_chunk (map chunk_out contents)) each.0.reads ∙ ap (λ (cs : List Content). content ∷ cs) (contents_read contents each.1)

pub built_reads : (ports : Ports) (packet : Packet) → SendablePacket packet → packet_of_content (built ports packet) ≡ packet
built_reads ports packet h = ap (λ (cs : List Content). record packet { contents = cs }) (contents_read packet.contents h.contents)

-- Whatever is read of a packet that went out is that packet.
pub reads_as_sent : BuiltPacketReadsAsItself → (mine theirs : Options) (emission : Emission) (found : PacketContent) → FitsOptions theirs → SendablePacket emission.packet
    → IsPacket (wire_options mine) found (emission_bytes (ports_of theirs) emission) → packet_of_content found ≡ emission.packet
reads_as_sent law mine theirs emission found fits h read =
    ap packet_of_content (law (wire_options mine) emission.with_checksum (built (ports_of theirs) emission.packet) found (fields_fit theirs emission.packet fits h) read)
    ∙ built_reads (ports_of theirs) emission.packet h

-- ---- its chunks

own_fits : (core : Core) → FitsCore core → FitsOwn core
own_fits closed h = tt
own_fits (cookie_wait my) h = h
own_fits (cookie_echoed my held cookie) h = h.0
own_fits (open_in phase my held) h = tt

content_fits : (e : Endpoint) (content : Content) → FitsEndpoint e → Sendable content → FitsContent e content
content_fits e (init theirs) h good = record { options = h.valid; own = own_fits e.core h.core; pair = good.said.0; offer = good.said.1 }
content_fits e (init_ack theirs cookie) h good = tt
content_fits e (cookie_echo cookie) h good = tt
content_fits e cookie_ack h good = tt
content_fits e (re_config parameters) h good = tt
content_fits e (abort reflected causes) h good = tt
content_fits e (shutdown tsn) h good = tt
content_fits e shutdown_ack h good = tt
content_fits e (shutdown_complete reflected) h good = tt
content_fits e (plain chunk) h good = tt

-- it fits, whatever the turn is
abbrev pub Fits : Transition → Type 0
Fits turn = TurnFits turn.outcome

-- The chunks fit at their turns, and so does what each turn leaves, to the end of the packet.
pub record ChunksFit (e : Endpoint) (contents : List Content) (turns : List Transition) : Type 0 where
  pub contents_fit : FitsTurns e contents turns
  pub turns_fit : AllByRecursion Fits turns

-- where no chunk is left, the packet's end
abbrev pub EndFits : List Input → Type 0
EndFits tail = (e : Endpoint) (turns : List Transition) → Turns e tail turns → FitsEndpoint e → AllByRecursion Fits turns

left : (e : Endpoint) (contents : List Content) (turns : List Transition) → AllByRecursion Fits turns → FitsTurns e contents turns → ChunksFit e contents turns
left e contents turns each fits = record { contents_fit = fits; turns_fit = each }

-- Turns that aren't of the chunks say nothing of these.
any_fit : (e : Endpoint) (contents : List Content) (turns : List Transition) → FitsEndpoint e → AllByRecursion Sendable contents → AllByRecursion Fits turns → FitsTurns e contents turns
any_fit e [] turns h good each = tt
any_fit e (content ∷ contents) [] h good each = tt
any_fit e (content ∷ contents) (t ∷ ts) h good each = (content_fits e content h good.0, any_fit t.outcome.after contents ts each.0.after good.1 each.1)

none_fit : (turns : List Transition) → turns ≡ [] → AllByRecursion Fits turns
none_fit turns none = subst (λ (ts : List Transition). AllByRecursion Fits ts) (sym none) tt

rest_fits : (following : Following) (e : Endpoint) (tag : ℕ) (contents : List Content) (tail : List Input) (turns : List Transition) → FitsEndpoint e → AllByRecursion Sendable contents → EndFits tail
    → AfterChunk following (ChunkTurns e tag contents tail turns) (Turns e tail turns) (turns ≡ [])
    → (ChunkTurns e tag contents tail turns → ChunksFit e contents turns) → ChunksFit e contents turns
rest_fits next_chunk e tag contents tail turns h good end rest more = more rest
rest_fits packet_end e tag contents tail turns h good end rest more = let each = end e turns rest h in left e contents turns each (any_fit e contents turns h good each)
rest_fits dropped_rest e tag contents tail turns h good end rest more = let each = none_fit turns rest in left e contents turns each (any_fit e contents turns h good each)

pub chunk_turns_fit : OfferReadsBack → (e : Endpoint) (tag : ℕ) (contents : List Content) (tail : List Input) (turns : List Transition) → ChunkTurns e tag contents tail turns → FitsEndpoint e
    → tag < 2 ^ 32 → AllByRecursion Sendable contents → EndFits tail → ChunksFit e contents turns
chunk_turns_fit law e tag [] tail turns taken h tagged good end = record { contents_fit = tt; turns_fit = end e turns taken h }
chunk_turns_fit law e tag (content ∷ contents) tail [] taken h tagged good end = absurd taken
chunk_turns_fit law e tag (content ∷ contents) tail (t ∷ ts) taken h tagged good end =
    let first : TurnFits t.outcome = turn_fits law e tag content t.outcome taken.0.comes h tagged good.0 in
    let rest : ChunksFit t.outcome.after contents ts =
    rest_fits t.outcome.following t.outcome.after tag contents tail ts first.after good.1 end taken.1 (λ more. chunk_turns_fit law t.outcome.after tag contents tail ts more first.after tagged good.1 end) in
    record { contents_fit = (content_fits e content h good.0, rest.contents_fit); turns_fit = (first, rest.turns_fit) }

pub nothing_ends : EndFits []
nothing_ends e [] taken h = tt
nothing_ends e (t ∷ ts) taken h = absurd taken

pub packet_end_fits : EndFits (packet_ends ∷ [])
packet_end_fits e [] taken h = absurd taken
packet_end_fits e (t ∷ []) taken h = (end_fits e e.queues.transfer t.outcome taken.0.comes h, tt)
packet_end_fits e (t ∷ u ∷ ts) taken h = absurd taken.1

-- what comes after the chunks of a packet
pub tail_fits : (asks : Bool) → EndFits (packet_ends ∷ asked_again asks)
tail_fits false e turns taken h = packet_end_fits e turns taken h
tail_fits true e [] taken h = absurd taken
tail_fits true e (t ∷ []) taken h = absurd taken.1
tail_fits true e (t ∷ u ∷ []) taken h =
    let ended : TurnFits t.outcome = end_fits e e.queues.transfer t.outcome taken.0.comes h in
    (ended, (subst TurnFits (sym taken.1.0.comes) (shut_down_fits t.outcome.after t.outcome.after.core ended.after ended.after.core), tt))
tail_fits true e (t ∷ u ∷ v ∷ ts) taken h = absurd taken.1.1

-- the SHUTDOWN ACK chunks of a packet are among its chunks
pub acks_sendable : (contents : List Content) → AllByRecursion Sendable contents → AllByRecursion Sendable (shutdown_acks_of contents)
acks_sendable [] each = tt
acks_sendable (init theirs ∷ contents) each = acks_sendable contents each.1
acks_sendable (init_ack theirs cookie ∷ contents) each = acks_sendable contents each.1
acks_sendable (cookie_echo cookie ∷ contents) each = acks_sendable contents each.1
acks_sendable (cookie_ack ∷ contents) each = acks_sendable contents each.1
acks_sendable (re_config parameters ∷ contents) each = acks_sendable contents each.1
acks_sendable (abort reflected causes ∷ contents) each = acks_sendable contents each.1
acks_sendable (shutdown tsn ∷ contents) each = acks_sendable contents each.1
acks_sendable (shutdown_ack ∷ contents) each = (each.0, acks_sendable contents each.1)
acks_sendable (shutdown_complete reflected ∷ contents) each = acks_sendable contents each.1
acks_sendable (plain chunk ∷ contents) each = acks_sendable contents each.1
