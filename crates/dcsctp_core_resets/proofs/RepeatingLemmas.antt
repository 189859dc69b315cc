-- Our own request to reset streams is sent again: what the handler of its timer does is the turn of that timer.
use Rattle.std.proofs.lemmas.List.{append-nil}
use Rattle.std.specs.Prelude.{nat_le, not, ◌&&◌, if◌then◌else◌}
use Rattle.std.specs.Option.{option_map}
use Rattle.std.proofs.Common.{◌≡◌, ◌==◌, ◌+◌, ◌%◌, ◌^◌, ◌<◌, ℕ, Bool, true, false, Option, None, Some, List, [], ◌∷◌, ◌++◌, length, flat_map, refl, sym, ap, subst, ◌∙◌, arith}
use Rattle.std.specs.List.{AllByRecursion}
use Rattle.std.specs.Int.{w16, to_be_bytes}
use Rattle.rand_core.specs.Stream.{Stream}
use Rattle.dcsctp_core.specs.wire.Content.{ChunkContent, re_config_chunk, outgoing_ssn_reset_request}
use Rattle.dcsctp_core.specs.types.declared.association.Held.{Held}
use Rattle.dcsctp_core.specs.types.Ids.{stream_numbers}
use Rattle.dcsctp_core.specs.types.Settings.{ports_of, packet_size_limit}
use Rattle.dcsctp_core.specs.wire.Spelling.{chunk_bytes, header_bytes, packet_bytes_of}
use Rattle.dcsctp_core.specs.spec.Packet.{Content, chunk_out, emission_bytes}
use Rattle.dcsctp_core.specs.spec.Reconfiguration.{number_answered, renewed_reset}
use Rattle.dcsctp_core.specs.spec.endpoint.Endpoint.{Endpoint, OutstandingRequest, held_by_core}
use Rattle.dcsctp_core.specs.spec.endpoint.Outcome.{still, emits, fits, packet_counted, to_peer}
use Rattle.dcsctp_core.specs.spec.endpoint.BegunResets.{core_asking}
use Rattle.dcsctp_core.specs.spec.endpoint.Event.{sent}
use Rattle.dcsctp_core.specs.spec.endpoint.TimeTurns.{own_timer}
use Rattle.dcsctp_core.specs.spec.association.FlushChanges.{reset_request}
use Rattle.dcsctp_core.specs.spec.endpoint.HeartbeatOutcomes.{is_exhausted}
use Rattle.dcsctp_core.specs.spec.endpoint.OwnTimers.{reconfiguration}
use Rattle.dcsctp_core.specs.spec.endpoint.ReconfigurationOutcomes.{reset_again, as_renewed, request_emitted, renewed_request_if_fitting, request_renewed, is_renewed, request_unless, reconfiguration_expired, request_expired, reconfiguration_outcome}
use Rattle.dcsctp_core.specs.declared.context.Context.{Context}
use Rattle.dcsctp_core.specs.declared.state.CookieEchoState.{CookieEchoState}
use Rattle.dcsctp_core.specs.declared.state.OpenState.{OpenState}
use Rattle.dcsctp_core.specs.declared.state.State.{State}
use Rattle.dcsctp_core.specs.declared.state.State.TheVariants.{Closed, CookieWait, CookieEchoed, Open}
use Rattle.dcsctp_core.specs.declared.transmission_control_block.ResetRequest.{ResetRequest}
use Rattle.dcsctp_core.specs.declared.transmission_control_block.TransmissionControlBlock.{TransmissionControlBlock}
use Rattle.dcsctp_core.specs.View.{View, request_number, request_of, held_of, core_of, tcb_of, outstanding_of, endpoint_of, view_of, Moves}
use Rattle.dcsctp_core.specs.Handling.{emitted_to, TakesPossibleTurn, CutsSomeTurn}
use Rattle.dcsctp_core.specs.Reconfiguring.{tcb_renumbered, request_renumbered, tcb_changed, request_over}
use Rattle.dcsctp_core.specs.Resetting.{IsStream}
use Rattle.dcsctp_core.specs.Timing.{where_expired, is_timer_due, ExpiryTurn}
use Rattle.dcsctp_core.proofs.BelowLemmas.{moves_from}
use Rattle.dcsctp_core.proofs.Composing.{moves_as, cut_first}
use Rattle.dcsctp_core.proofs.ResetLemmas.{fields_same}
use Rattle.dcsctp_core.proofs.SentLemmas.{emitted_where, emits_moves}
use Rattle.dcsctp_core_resets.specs.Repeating.{number_if_new, renumbered_if_sent, request_again_outcome, renewed_request_outcome, repeated_turn, unless_outcome, unless_turn}
use Rattle.dcsctp_core_resets.proofs.HandlingLemmas.{tcb_holds}

-- ---- the packet

-- the request, as the definitions keep it
abbrev kept : ResetRequest → OutstandingRequest
kept request = record { last_tsn = request.last_tsn; streams = stream_numbers request.streams.items; is_new = request.is_new; waits_for_retry = request.waits_for_retry }

-- under this number, whether it says that it is new or not
abbrev content_of : Bool → ℕ → ResetRequest → Content
content_of is_new number request = reset_request number (record (reset_again (Some (kept request))) { is_new = is_new })

abbrev asked_chunk : Bool → ℕ → ℕ → List ℕ → ChunkContent
asked_chunk is_new number last_tsn bytes = re_config_chunk (outgoing_ssn_reset_request number (number_answered number is_new) last_tsn bytes ∷ [])

-- Its numbers are those of their fields.
chunk_is : (is_new : Bool) (number : ℕ) (request : ResetRequest) (last_tsn : ℕ) (bytes : List ℕ) → last_tsn ≡ request.last_tsn → last_tsn < 2 ^ 32 → AllByRecursion IsStream (stream_numbers request.streams.items)
    → bytes ≡ flat_map (to_be_bytes w16) (stream_numbers request.streams.items) → chunk_out (content_of is_new number request) ≡ asked_chunk is_new number last_tsn bytes
chunk_is is_new number request last_tsn bytes tsn small fit is =
    let same : request.last_tsn % 2 ^ 32 ≡ last_tsn = omega (arith, tsn, small) in
    let chunk : ℕ → List ℕ → ChunkContent = λ tsn bytes. asked_chunk is_new number tsn bytes in
    ap (λ (streams : List ℕ). chunk (request.last_tsn % 2 ^ 32) (flat_map (to_be_bytes w16) streams)) (fields_same (stream_numbers request.streams.items) fit)
    ∙ ap (λ (n : ℕ). chunk n (flat_map (to_be_bytes w16) (stream_numbers request.streams.items))) same
    ∙ ap (chunk last_tsn) (sym is)

tcb_asks : (s : State) (tcb : TransmissionControlBlock) → tcb_of s ≡ Some tcb → outstanding_of s ≡ request_of tcb.reset_request
tcb_asks Closed tcb is = absurd (cc)
tcb_asks (CookieWait wait) tcb is = absurd (cc)
tcb_asks (CookieEchoed echoed) tcb is = let same : echoed.tcb ≡ tcb = cc in ap (λ (t : TransmissionControlBlock). request_of t.reset_request) same
tcb_asks (Open opened) tcb is = let same : opened.tcb ≡ tcb = cc in ap (λ (t : TransmissionControlBlock). request_of t.reset_request) same

again_is : (e : Endpoint) (peer : Option Held) (asked : Option OutstandingRequest) (held : Held) (request : OutstandingRequest) (number : ℕ) → peer ≡ Some held → asked ≡ Some request
    → held.own_outstanding ≡ Some number → request_again_outcome e peer asked ≡ emits e [] (to_peer held (reset_request number (reset_again (Some request))))
again_is e peer asked held request number holds asks numbered =
    ap (λ (p : Option Held). request_again_outcome e p asked) holds
    ∙ ap (λ (a : Option OutstandingRequest). request_again_outcome e (Some held) a) asks
    ∙ ap (λ (n : Option ℕ). request_emitted e held n (reset_again (Some request))) numbered

-- The packet was sent, if it fits.
again_sent : {R : Type 0} (stream : R → Stream) (old new : Context R) (tcb : TransmissionControlBlock) (request : ResetRequest) (last_tsn : ℕ)
    (bytes : List ℕ) → tcb_of old.state ≡ Some tcb → tcb.reset_request ≡ Some request
    → last_tsn ≡ request.last_tsn → last_tsn < 2 ^ 32 → AllByRecursion IsStream (stream_numbers request.streams.items) → bytes ≡ flat_map (to_be_bytes w16) (stream_numbers request.streams.items)
    → view_of new ≡ emitted_to (held_by_core (core_of old.state)) (asked_chunk request.is_new request.number last_tsn bytes) (view_of old)
    → Moves stream (view_of old) (repeated_turn false (view_of old)) (view_of new)
again_sent stream old new tcb request last_tsn bytes holds asks tsn small fit is h =
    let held : Held = held_of tcb in
    let turn = again_is (endpoint_of old) (held_by_core (core_of old.state)) (outstanding_of old.state) held (kept request) request.number (tcb_holds old.state tcb holds)
    (tcb_asks old.state tcb holds ∙ ap request_of asks) (ap request_number asks) in
    subst (λ (v : View _). Moves stream (view_of old) (repeated_turn false (view_of old)) v)
    (ap (λ (chunk : ChunkContent). emitted_to (Some held) chunk (view_of old)) (chunk_is request.is_new request.number request last_tsn bytes tsn small fit is)
    ∙ ap (λ (p : Option Held). emitted_to p (asked_chunk request.is_new request.number last_tsn bytes) (view_of old)) (sym (tcb_holds old.state tcb holds))
    ∙ sym h)
    (moves_as stream (view_of old) _ _ _ turn (emits_moves stream (view_of old) held (content_of request.is_new request.number request)))

-- ---- under the next number

-- the view once the outstanding request has the next number
abbrev renumbered_at : {R : Type 0} → View R → View R
renumbered_at view = record view { endpoint = record view.endpoint { core = core_asking view.endpoint.core; outstanding = option_map as_renewed view.endpoint.outstanding } }

echoed_renumbered : {R : Type 0} (c : Context R) (echoed : CookieEchoState) (r : Option ResetRequest) → echoed.tcb.reset_request ≡ r → (r ≡ None → ⊥)
    → view_of (record c { state = CookieEchoed (record echoed { tcb = tcb_renumbered r echoed.tcb }) }) ≡ renumbered_at (view_of (record c { state = CookieEchoed echoed }))
echoed_renumbered c echoed None is some = absurd (some refl)
echoed_renumbered {R = R} c echoed (Some request) is some =
    let shown : Option ResetRequest → View R = λ r. renumbered_at (view_of (record c { state = CookieEchoed (record echoed { tcb = record echoed.tcb { reset_request = r } }) })) in
    ap shown (sym is)

open_renumbered : {R : Type 0} (c : Context R) (opened : OpenState) (r : Option ResetRequest) → opened.tcb.reset_request ≡ r → (r ≡ None → ⊥)
    → view_of (record c { state = Open (record opened { tcb = tcb_renumbered r opened.tcb }) }) ≡ renumbered_at (view_of (record c { state = Open opened }))
open_renumbered c opened None is some = absurd (some refl)
open_renumbered {R = R} c opened (Some request) is some =
    let shown : Option ResetRequest → View R = λ r. renumbered_at (view_of (record c { state = Open (record opened { tcb = record opened.tcb { reset_request = r } }) })) in
    ap shown (sym is)

view_renumbered : {R : Type 0} (c : Context R) (s : State) → (outstanding_of s ≡ None → ⊥) → view_of (record c { state = tcb_changed request_renumbered s }) ≡ renumbered_at (view_of (record c { state = s }))
view_renumbered c Closed some = absurd (some refl)
view_renumbered c (CookieWait wait) some = absurd (some refl)
view_renumbered c (CookieEchoed echoed) some = echoed_renumbered c echoed echoed.tcb.reset_request refl (λ none. some (ap request_of none))
view_renumbered c (Open opened) some = open_renumbered c opened opened.tcb.reset_request refl (λ none. some (ap request_of none))

renewed_is : (e : Endpoint) (peer : Option Held) (asked : Option OutstandingRequest) (held : Held) (request : OutstandingRequest) (number : ℕ) (b : Bool) → peer ≡ Some held → asked ≡ Some request
    → held.own_outstanding ≡ Some number → b ≡ fits e (to_peer held (reset_request held.own_next (renewed_reset (reset_again (Some request)))))
    → renewed_request_outcome e peer asked ≡ renewed_request_if_fitting b e held number (reset_request held.own_next (renewed_reset (reset_again (Some request))))
renewed_is e peer asked held request number b holds asks numbered is =
    ap (λ (p : Option Held). renewed_request_outcome e p asked) holds
    ∙ ap (λ (a : Option OutstandingRequest). renewed_request_outcome e (Some held) a) asks
    ∙ ap (λ (n : Option ℕ). request_renewed e held n (reset_again (Some request))) numbered
    ∙ ap (λ (x : Bool). renewed_request_if_fitting x e held number (reset_request held.own_next (renewed_reset (reset_again (Some request))))) (sym is)

-- what is left of it, by whether it fits
abbrev renewed_view : {R : Type 0} → Bool → List ℕ → View R → View R
renewed_view true bytes v = renumbered_at (record v { endpoint = packet_counted v.endpoint; events = v.events ++ sent bytes ∷ [] })
renewed_view false bytes v = v

renewed_moves : {R : Type 0} (stream : R → Stream) (v : View R) (held : Held) (number : ℕ) (content : Content) (bytes : List ℕ) (b : Bool) → emission_bytes (ports_of v.endpoint.options) (to_peer held content) ≡ bytes
    → Moves stream v (renewed_request_if_fitting b v.endpoint held number content) (renewed_view b bytes v)
renewed_moves stream v held number content bytes true is =
    let m = emitted_where stream v (to_peer held content) bytes true is in record { endpoint = refl; events = m.events; words = m.words; pairs = m.pairs; drawn = m.drawn }
renewed_moves stream v held number content bytes false is = let m = emitted_where stream v (to_peer held content) bytes false is in record { endpoint = refl; events = m.events; words = m.words; pairs = m.pairs; drawn = m.drawn }

-- what the handler leaves, by whether the packet was sent
abbrev left_behind : {R : Type 0} → Bool → Bool → Context R → Context R
left_behind b is_new mid = record mid { state = renumbered_if_sent b is_new mid.state }

left_by : {R : Type 0} (b : Bool) (bytes : List ℕ) (old mid : Context R) → (outstanding_of old.state ≡ None → ⊥)
    → view_of mid ≡ (if b then record (view_of old) { endpoint = packet_counted (endpoint_of old); events = (view_of old).events ++ sent bytes ∷ [] } else view_of old)
    → renewed_view b bytes (view_of old) ≡ view_of (left_behind b true mid)
left_by {R = R} true bytes old mid some emits =
    let there : outstanding_of mid.state ≡ outstanding_of old.state = ap (λ (v : View R). v.endpoint.outstanding) emits in
    sym (view_renumbered mid mid.state (λ none. some (sym there ∙ none)) ∙ ap (λ (v : View R). renumbered_at v) emits)
left_by {R = R} false bytes old mid some emits = sym emits

renewed_sent : {R : Type 0} (stream : R → Stream) (old mid : Context R) (tcb : TransmissionControlBlock) (request : ResetRequest) (last_tsn : ℕ)
    (bytes : List ℕ) (b : Bool) → tcb_of old.state ≡ Some tcb → tcb.reset_request ≡ Some request
    → last_tsn ≡ request.last_tsn → last_tsn < 2 ^ 32 → AllByRecursion IsStream (stream_numbers request.streams.items) → bytes ≡ flat_map (to_be_bytes w16) (stream_numbers request.streams.items)
    → (b ≡ nat_le (12 + length (chunk_bytes (asked_chunk false tcb.next_outgoing_reset_req_seq_nbr last_tsn bytes))) (packet_size_limit old.options))
    × (view_of mid ≡ emitted_to (held_by_core (core_of old.state)) (asked_chunk false tcb.next_outgoing_reset_req_seq_nbr last_tsn bytes) (view_of old))
    → Moves stream (view_of old) (repeated_turn true (view_of old)) (view_of (left_behind b true mid))
renewed_sent {R = R} stream old mid tcb request last_tsn bytes b holds asks tsn small fit is h =
    let held : Held = held_of tcb in
    let options = old.options in
    let number : ℕ = tcb.next_outgoing_reset_req_seq_nbr in
    let content : Content = content_of false number request in
    let chunk : ChunkContent = chunk_out content in
    let same : chunk ≡ asked_chunk false number last_tsn bytes = chunk_is false number request last_tsn bytes tsn small fit is in
    let spelled : List ℕ = packet_bytes_of (held.capabilities.zero_checksum_method.0 == 0) (header_bytes options.local_port options.remote_port held.peer.tag) (chunk_bytes chunk) in
    let alone : chunk_bytes chunk ++ [] ≡ chunk_bytes chunk = append-nil (chunk_bytes chunk) in
    let fitting : b ≡ fits (endpoint_of old) (to_peer held content) =
    h.0 ∙ ap (λ (c : ChunkContent). nat_le (12 + length (chunk_bytes c)) (packet_size_limit options)) (sym same) ∙ ap (λ (bs : List ℕ). nat_le (12 + length bs) (packet_size_limit options)) (sym alone) in
    let asked : outstanding_of old.state ≡ Some (kept request) = tcb_asks old.state tcb holds ∙ ap request_of asks in
    let turn = renewed_is (endpoint_of old) (held_by_core (core_of old.state)) (outstanding_of old.state) held (kept request) request.number b (tcb_holds old.state tcb holds) asked (ap request_number asks) fitting in
    let emits : view_of mid ≡ (if b then record (view_of old) { endpoint = packet_counted (endpoint_of old); events = (view_of old).events ++ sent spelled ∷ [] } else view_of old) =
    h.1 ∙ ap (λ (p : Option Held). emitted_to p (asked_chunk false number last_tsn bytes) (view_of old)) (tcb_holds old.state tcb holds)
    ∙ ap (λ (c : ChunkContent). emitted_to (Some held) c (view_of old)) (sym same)
    ∙ ap (λ (x : Bool). let v : View R = (if x then record (view_of old) { endpoint = packet_counted (endpoint_of old); events = (view_of old).events ++ sent spelled ∷ [] } else view_of old) in v)
    (ap (λ (bs : List ℕ). nat_le (12 + length bs) (packet_size_limit options)) (sym alone) ∙ sym fitting) in
    subst (λ (v : View R). Moves stream (view_of old) (repeated_turn true (view_of old)) v) (left_by b spelled old mid (λ none. absurd (cc)) emits)
    (moves_as stream (view_of old) _ _ _ turn
    (renewed_moves stream (view_of old) held request.number content spelled b
    (ap (λ (bs : List ℕ). packet_bytes_of (held.capabilities.zero_checksum_method.0 == 0) (header_bytes options.local_port options.remote_port held.peer.tag) bs) alone)))

-- under its number, or under the next one
pub request_sent : {R : Type 0} (stream : R → Stream) (old mid : Context R) (tcb : TransmissionControlBlock) (request : ResetRequest) (number last_tsn : ℕ)
    (bytes : List ℕ) (b is_new : Bool)
    → number ≡ number_if_new is_new request.number tcb.next_outgoing_reset_req_seq_nbr
    → tcb_of old.state ≡ Some tcb → tcb.reset_request ≡ Some request
    → last_tsn ≡ request.last_tsn → last_tsn < 2 ^ 32 → AllByRecursion IsStream (stream_numbers request.streams.items) → bytes ≡ flat_map (to_be_bytes w16) (stream_numbers request.streams.items)
    → (b ≡ nat_le (12 + length (chunk_bytes (asked_chunk (not is_new && request.is_new) number last_tsn bytes))) (packet_size_limit old.options))
    × (view_of mid ≡ emitted_to (held_by_core (core_of old.state)) (asked_chunk (not is_new && request.is_new) number last_tsn bytes) (view_of old))
    → Moves stream (view_of old) (repeated_turn is_new (view_of old)) (view_of (left_behind b is_new mid))
request_sent stream old mid tcb request number last_tsn bytes b false numbered holds asks tsn small fit is h =
    subst (λ (s : State). Moves stream (view_of old) (repeated_turn false (view_of old)) (view_of (record mid { state = s }))) (same b)
    (again_sent stream old mid tcb request last_tsn bytes holds asks tsn small fit is
    (h.1 ∙ ap (λ (n : ℕ). emitted_to (held_by_core (core_of old.state)) (asked_chunk request.is_new n last_tsn bytes) (view_of old)) numbered))
  where
    same : (b : Bool) → mid.state ≡ renumbered_if_sent b false mid.state
    same true = refl
    same false = refl
request_sent stream old mid tcb request number last_tsn bytes b true numbered holds asks tsn small fit is h =
    renewed_sent stream old mid tcb request last_tsn bytes b holds asks tsn small fit is
    (subst (λ (n : ℕ). (b ≡ nat_le (12 + length (chunk_bytes (asked_chunk false n last_tsn bytes))) (packet_size_limit old.options))
    × (view_of mid ≡ emitted_to (held_by_core (core_of old.state)) (asked_chunk false n last_tsn bytes) (view_of old)))
    numbered h)

-- ---- the turn of the timer

-- Without a peer, or without a request, nothing is sent.
no_peer : (b is_new : Bool) (e : Endpoint) → held_by_core e.core ≡ None → still e ≡ unless_outcome b is_new e
no_peer true is_new e none = refl
no_peer false false e none = sym (ap (λ (p : Option Held). request_again_outcome e p e.outstanding) none)
no_peer false true e none = sym (ap (λ (p : Option Held). renewed_request_outcome e p e.outstanding) none)

nothing_asked : (b is_new : Bool) (e : Endpoint) (held : Held) → held_by_core e.core ≡ Some held → e.outstanding ≡ None → still e ≡ unless_outcome b is_new e
nothing_asked true is_new e held holds none = refl
nothing_asked false false e held holds none =
    sym (ap (λ (p : Option Held). request_again_outcome e p e.outstanding) holds ∙ ap (λ (r : Option OutstandingRequest). request_again_outcome e (Some held) r) none)
nothing_asked false true e held holds none =
    sym (ap (λ (p : Option Held). renewed_request_outcome e p e.outstanding) holds ∙ ap (λ (r : Option OutstandingRequest). renewed_request_outcome e (Some held) r) none)

asked_again : (b is_new : Bool) (e : Endpoint) (held : Held) (request : OutstandingRequest) → held_by_core e.core ≡ Some held
    → request_unless b is_new (request_expired e request) held (reset_again (Some request)) ≡ unless_outcome b is_new (request_expired e request)
asked_again true is_new e held request holds = refl
asked_again false false e held request holds =
    sym (ap (λ (p : Option Held). request_again_outcome (request_expired e request) p (request_expired e request).outstanding) holds)
asked_again false true e held request holds =
    sym (ap (λ (p : Option Held). renewed_request_outcome (request_expired e request) p (request_expired e request).outstanding) holds)

-- the count of errors is used up once the timer has expired
abbrev exhausted_over : Endpoint → Option OutstandingRequest → Bool
exhausted_over e request = is_exhausted (request_over e request).options.max_retransmissions (request_over e request).error_count

outcome_is : (e : Endpoint) (peer : Option Held) (request : Option OutstandingRequest) → held_by_core e.core ≡ peer → e.outstanding ≡ request → (peer ≡ None → request ≡ None)
    → reconfiguration_outcome e peer request ≡ unless_outcome (exhausted_over e request) (is_renewed e request) (request_over e request)
outcome_is e None None holds asks none = no_peer (exhausted_over e None) false (reconfiguration_expired e) holds
outcome_is e None (Some request) holds asks none = let clash : Some request ≡ None = none refl in absurd (cc)
outcome_is e (Some held) None holds asks none = nothing_asked (exhausted_over e None) false (reconfiguration_expired e) held holds asks
outcome_is e (Some held) (Some request) holds asks none = asked_again (exhausted_over e (Some request)) (is_renewed e (Some request)) e held request holds

peerless : (s : State) → held_by_core (core_of s) ≡ None → outstanding_of s ≡ None
peerless Closed none = refl
peerless (CookieWait wait) none = refl
peerless (CookieEchoed echoed) none = absurd (cc)
peerless (Open opened) none = absurd (cc)

-- The timer has expired, and what follows from that took place.
pub expired_then : {R : Type 0} (stream : R → Stream) (old mid new : Context R) (b is_new : Bool) → is_new ≡ is_renewed (endpoint_of old) (outstanding_of old.state)
    → b ≡ is_timer_due (endpoint_of old) (own_timer reconfiguration) → b ≡ true
    → view_of mid ≡ where_expired b (request_over (endpoint_of old) (outstanding_of old.state)) (view_of old) → Moves stream (view_of mid) (unless_turn is_new (view_of mid)) (view_of new)
    → (is_timer_due (endpoint_of old) (own_timer reconfiguration) ≡ true) × TakesPossibleTurn stream (ExpiryTurn (own_timer reconfiguration)) (view_of old) (view_of new)
expired_then {R = R} stream old mid new b is_new renews answer comes left moves =
    let e : Endpoint = endpoint_of old in
    let over : Endpoint = request_over e (outstanding_of old.state) in
    let is : view_of mid ≡ record (view_of old) { endpoint = over } = left ∙ ap (λ (x : Bool). where_expired x over (view_of old)) comes in
    let new_is : is_new ≡ is_renewed e (outstanding_of old.state) = renews in
    let here : Moves stream (record (view_of old) { endpoint = over }) (unless_turn (is_renewed e (outstanding_of old.state)) (record (view_of old) { endpoint = over })) (view_of new) =
    subst (λ (v : View R). Moves stream v (unless_turn (is_renewed e (outstanding_of old.state)) v) (view_of new)) is
    (subst (λ (x : Bool). Moves stream (view_of mid) (unless_turn x (view_of mid)) (view_of new)) new_is moves) in (
      sym answer ∙ comes,
      record {
        outcome = reconfiguration_outcome e (held_by_core e.core) e.outstanding;
        turn = refl;
        moves = moves_as stream (view_of old) (view_of new) _ _ (outcome_is e (held_by_core e.core) e.outstanding refl refl (peerless old.state))
            (moves_from stream (view_of old) over _ (view_of new) (same_ports (outstanding_of old.state)) here);
      },
    )
  where
    same_ports : (request : Option OutstandingRequest) → ports_of (request_over (endpoint_of old) request).options ≡ ports_of (endpoint_of old).options
    same_ports None = refl
    same_ports (Some request) = refl

-- The timer has expired, and an allocation failed before any event was added.
pub expired_cut : {R : Type 0} (old mid new : Context R) (b : Bool) → b ≡ is_timer_due (endpoint_of old) (own_timer reconfiguration) → b ≡ true
    → view_of mid ≡ where_expired b (request_over (endpoint_of old) (outstanding_of old.state)) (view_of old) → view_of new ≡ view_of mid
    → (is_timer_due (endpoint_of old) (own_timer reconfiguration) ≡ true) × CutsSomeTurn (ExpiryTurn (own_timer reconfiguration)) (view_of old) (view_of new).events
expired_cut {R = R} old mid new b answer comes left same =
    let e : Endpoint = endpoint_of old in
    let over : Endpoint = request_over e (outstanding_of old.state) in
    let is : view_of mid ≡ record (view_of old) { endpoint = over } = left ∙ ap (λ (x : Bool). where_expired x over (view_of old)) comes in (
      sym answer ∙ comes,
      record {
        outcome = reconfiguration_outcome e (held_by_core e.core) e.outstanding;
        turn = refl;
        cut = cut_first (view_of old) (reconfiguration_outcome e (held_by_core e.core) e.outstanding) (view_of new).events (ap (λ (v : View R). v.events) (same ∙ is));
      },
    )
