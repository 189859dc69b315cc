-- A packet of what was lost is sent at once.
use Rattle.std.proofs.Common.{◌≡◌, ◌==◌, ◌++◌, not, ℕ, Bool, true, false, Option, None, Some, List, [], ◌∷◌, map, refl, sym, ap, subst, ◌∙◌}
use Rattle.std.specs.List.{flat_map}
use Rattle.rand_core.specs.Stream.{Stream}
use Rattle.dcsctp_transfer.specs.wire_build.Building.{Building}
use Rattle.dcsctp_transfer.specs.wire.Spelling.{chunk_bytes, header_bytes, packet_bytes_of}
use Rattle.dcsctp_transfer.specs.types.declared.association.Held.{Held}
use Rattle.dcsctp_transfer.specs.spec.endpoint.Event.{Event}
use Rattle.dcsctp_transfer.specs.spec.Packet.{Plain, unworked, Content, Emission}
use Rattle.dcsctp_transfer.specs.spec.queues.Transfer.{Transfer}
use Rattle.dcsctp_transfer.specs.spec.queues.Retransmission.{has_fast_retransmit}
use Rattle.dcsctp_transfer.specs.spec.endpoint.Endpoint.{Endpoint, held_by_core}
use Rattle.dcsctp_transfer.specs.spec.endpoint.Outcome.{Outcome, still, sends}
use Rattle.dcsctp_transfer.specs.spec.association.Choices.{plain_contents}
use Rattle.dcsctp_transfer.specs.spec.endpoint.FlushOutcomes.{Answer, draft_to, goes_out, is_none}
use Rattle.dcsctp_transfer.specs.spec.queues.AtOnce.{SendsAtOnce}
use Rattle.dcsctp_transfer.specs.spec.endpoint.DataOutcomes.{with_transfer, FastRetransmits, SendsLost}
use Rattle.dcsctp_transfer.specs.Sacks.{FillsAtOnce}
use Rattle.dcsctp_core.specs.declared.context.Context.{Context}
use Rattle.dcsctp_core.specs.declared.state.State.{State}
use Rattle.dcsctp_core.specs.declared.transmission_control_block.TransmissionControlBlock.{TransmissionControlBlock}
use Rattle.dcsctp_core.specs.View.{View, core_of, tcb_of, held_of, transfer_of, endpoint_of, view_of, Moves}
use Rattle.dcsctp_core.specs.Handling.{TakesPossibleTurn, CutsSomeTurn}
use Rattle.dcsctp_core.specs.Flushing.{packet_being_built, packet_for, empty_packet, sent_if_filled, KeepsSize}
use Rattle.dcsctp_core.specs.Below.{FillsLostAtOnce, has_lost_data, GoesAtOnce, FlushesAtOnce}
use Rattle.dcsctp_core.proofs.BelowLemmas.{below_view, moves_to, moves_from}
use Rattle.dcsctp_core.proofs.Composing.{cut_first}
use Rattle.dcsctp_core.proofs.FillLemmas.{data_fit, room_is_left}
use Rattle.dcsctp_core.proofs.FlushLemmas.{fits_by}
use Rattle.dcsctp_core.proofs.LoopLemmas.{held_by_tcb, none_by_tcb, packet_to}
use Rattle.dcsctp_core.proofs.Moving.{moves_still}
use Rattle.dcsctp_core.proofs.SentLemmas.{body_of_chunks, none_as_bytes, sent_moves, built_bytes}
use Rattle.dcsctp_transfer.proofs.spec_lemmas.LostOutcomes.{some_lost}

-- the packet that was filled, if it holds a chunk
goes : {R : Type 0} (stream : R → Stream) (v : View R) (after : Transfer) (with_checksum : Bool) (tag : ℕ) (contents : List Content) (packet : Building) (new : View R)
    → packet ≡ packet_being_built v.endpoint.options with_checksum tag contents
    → new ≡ sent_if_filled (not (is_none contents)) packet (record v { endpoint = with_transfer v.endpoint after })
    → Moves stream v (goes_out (with_transfer v.endpoint after) [] with_checksum tag contents) new
goes stream v after with_checksum tag [] packet new built is = moves_to stream v new (with_transfer v.endpoint after) is
goes stream v after with_checksum tag (content ∷ contents) packet new built is =
    let e : Endpoint = with_transfer v.endpoint after in
    let emission : Emission = record { with_checksum = with_checksum; packet = record { tag = tag; contents = content ∷ contents } } in
    let bytes : List ℕ = packet_bytes_of packet.with_checksum (header_bytes packet.source_port packet.destination_port packet.verification_tag) packet.body in
    moves_from stream v e (sends e [] [] emission) new refl
    (sent_moves stream (record v { endpoint = e }) new emission bytes is (built_bytes v.endpoint.options packet with_checksum tag (content ∷ contents) bytes built refl))

at_once_by : {R : Type 0} (stream : R → Stream) (v : View R) (held : Held) (transfer after : Transfer) (packet filled_packet : Building) (is_sent : Bool) (new : View R)
    → has_fast_retransmit transfer.retransmission ≡ true → held_by_core v.endpoint.core ≡ Some held → v.endpoint.queues.transfer ≡ Some transfer
    → packet ≡ packet_for v.endpoint.options (draft_to held) → FillsAtOnce v.endpoint.moment transfer packet after filled_packet → KeepsSize filled_packet
    → is_sent ≡ not (is_none filled_packet.body) → new ≡ sent_if_filled is_sent filled_packet (record v { endpoint = with_transfer v.endpoint after })
    → TakesPossibleTurn stream FlushesAtOnce v new
at_once_by {R = R} stream v held transfer after packet filled_packet is_sent new fast holds below built fills size sent_is is =
    let e : Endpoint = v.endpoint in
    let draft : Emission = draft_to held in
    let chunks : List Plain = map unworked fills.chunks in
    let contents : List Content = plain_contents chunks in
    let left : Transfer = record transfer { retransmission = fills.left } in
    let packed : filled_packet ≡ packet_being_built e.options draft.with_checksum draft.packet.tag contents =
    fills.adds
    ∙ ap (λ (b : Building). record b { body = b.body ++ flat_map chunk_bytes fills.chunks }) built
    ∙ ap (λ (bytes : List ℕ). record (packet_for e.options draft) { body = bytes }) (body_of_chunks fills.chunks) in
    let goes_if : is_sent ≡ not (is_none contents) = sent_is ∙ ap not (ap (λ (b : Building). is_none b.body) packed ∙ none_as_bytes contents) in
    let answer : Answer = record { acknowledgements = []; begun = None; data_chunks = chunks; told = []; after = e } in
    let o : Outcome = goes_out (with_transfer e left) [] draft.with_checksum draft.packet.tag contents in
    let turn : SendsLost e held transfer o =
    record {
      left = fills.left;
      tsns = fills.tsns;
      sends = subst (λ (room : ℕ). SendsAtOnce e.moment room e.queues.queue transfer.retransmission fills.left fills.tsns) (room_is_left e draft packet built) (fills.sends e.queues.queue);
      chunks = chunks;
      are = fills.are;
      fit = data_fit fills.chunks fills.fits;
      within = λ within. fits_by e draft answer filled_packet packed size within;
      is = refl;
    } in
    let by_fast : FastRetransmits (has_fast_retransmit transfer.retransmission) e held transfer o = subst (λ (b : Bool). FastRetransmits b e held transfer o) (sym fast) turn in
    record {
      outcome = o;
      turn = subst (λ (h : Option Held). GoesAtOnce e h e.queues.transfer o) (sym holds) (subst (λ (t : Option Transfer). GoesAtOnce e (Some held) t o) (sym below) by_fast);
      moves = goes stream v left draft.with_checksum draft.packet.tag contents filled_packet new packed
          (is ∙ ap (λ (b : Bool). sent_if_filled b filled_packet (record v { endpoint = with_transfer e after })) goes_if
          ∙ ap (λ (t : Transfer). sent_if_filled (not (is_none contents)) filled_packet (record v { endpoint = with_transfer e t })) fills.is);
    }

at_once_where : {R : Type 0} (stream : R → Stream) (old : Context R) (tcb : TransmissionControlBlock) (state : State) (packet filled_packet : Building) (is_sent : Bool) (new : View R) (found : Option Transfer)
    → transfer_of old.state ≡ found → has_lost_data found ≡ true → Some tcb ≡ tcb_of old.state
    → packet ≡ empty_packet old.options (tcb.capabilities.zero_checksum_method.0 == 0) tcb.peer.tag
    → FillsLostAtOnce old.moment found old.state packet state filled_packet → KeepsSize filled_packet
    → is_sent ≡ not (is_none filled_packet.body) → new ≡ sent_if_filled is_sent filled_packet (view_of (record old { state = state }))
    → TakesPossibleTurn stream FlushesAtOnce (view_of old) new
at_once_where stream old tcb state packet filled_packet is_sent new None below fast kept built fills size sent_is is = absurd (cc)
at_once_where {R = R} stream old tcb state packet filled_packet is_sent new (Some transfer) below fast kept built fills size sent_is is =
    let held : Held = held_of tcb in
    let holds : held_by_core (core_of old.state) ≡ Some held = held_by_tcb old.state tcb kept in
    at_once_by stream (view_of old) held transfer fills.0 packet filled_packet is_sent new fast holds below (packet_to old.options old.state tcb held packet kept holds built) fills.2 size sent_is
    (is ∙ ap (λ (v : View R). sent_if_filled is_sent filled_packet v) (below_view old state transfer fills.0 below fills.1))

pub at_once_sent : {R : Type 0} (stream : R → Stream) (old : Context R) (tcb : TransmissionControlBlock) (state : State) (packet filled_packet : Building) (is_sent : Bool) (new : View R)
    → has_lost_data (transfer_of old.state) ≡ true → Some tcb ≡ tcb_of old.state
    → packet ≡ empty_packet old.options (tcb.capabilities.zero_checksum_method.0 == 0) tcb.peer.tag
    → FillsLostAtOnce old.moment (transfer_of old.state) old.state packet state filled_packet → KeepsSize filled_packet
    → is_sent ≡ not (is_none filled_packet.body) → new ≡ sent_if_filled is_sent filled_packet (view_of (record old { state = state }))
    → TakesPossibleTurn stream FlushesAtOnce (view_of old) new
at_once_sent stream old tcb state packet filled_packet is_sent new fast kept built fills size sent_is is =
    at_once_where stream old tcb state packet filled_packet is_sent new (transfer_of old.state) refl fast kept built fills size sent_is is

-- ---- where nothing goes

still_at_once : (e : Endpoint) (peer : Option Held) (found : Option Transfer) → has_lost_data found ≡ false → GoesAtOnce e peer found (still e)
still_at_once e None found none = refl
still_at_once e (Some held) None none = refl
still_at_once e (Some held) (Some transfer) none = subst (λ (b : Bool). FastRetransmits b e held transfer (still e)) (sym none) refl

pub none_at_once : {R : Type 0} (stream : R → Stream) (old : Context R) → has_lost_data (transfer_of old.state) ≡ false → TakesPossibleTurn stream FlushesAtOnce (view_of old) (view_of old)
none_at_once stream old none =
    record { outcome = still (endpoint_of old); turn = still_at_once (endpoint_of old) (held_by_core (core_of old.state)) (transfer_of old.state) none; moves = moves_still stream (view_of old) }

pub at_once_no_peer : {R : Type 0} (stream : R → Stream) (old : Context R) → None ≡ tcb_of old.state → TakesPossibleTurn stream FlushesAtOnce (view_of old) (view_of old)
at_once_no_peer stream old nobody =
    let e : Endpoint = endpoint_of old in
    record {
      outcome = still e;
      turn = subst (λ (h : Option Held). GoesAtOnce e h e.queues.transfer (still e)) (sym (none_by_tcb old.state nobody)) refl;
      moves = moves_still stream (view_of old);
    }

fast_where : (b : Bool) (e : Endpoint) (held : Held) (transfer : Transfer) → (o : Outcome) × FastRetransmits b e held transfer o
fast_where false e held transfer = (still e, refl)
fast_where true e held transfer = some_lost e held transfer

pub any_fast : (e : Endpoint) (held : Held) (transfer : Transfer) → (o : Outcome) × FastRetransmits (has_fast_retransmit transfer.retransmission) e held transfer o
any_fast e held transfer = fast_where (has_fast_retransmit transfer.retransmission) e held transfer

any_at_once : (e : Endpoint) (peer : Option Held) (found : Option Transfer) → (o : Outcome) × GoesAtOnce e peer found o
any_at_once e None found = (still e, refl)
any_at_once e (Some held) None = (still e, refl)
any_at_once e (Some held) (Some transfer) = any_fast e held transfer

pub at_once_cut : {R : Type 0} (view : View R) (events : List (Event (List ℕ))) → events ≡ view.events → CutsSomeTurn FlushesAtOnce view events
at_once_cut view events same =
    let any = any_at_once view.endpoint (held_by_core view.endpoint.core) view.endpoint.queues.transfer in
    record { outcome = any.0; turn = any.1; cut = cut_first view any.0 events same }
