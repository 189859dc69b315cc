-- An own reset of streams is begun.
use Rattle.std.proofs.Common.{◌≡◌, ◌≤◌, ◌<◌, ◌+◌, ◌*◌, ◌/◌, ◌%◌, ◌^◌, ◌==◌, ℕ, zero, suc, Bool, true, false, Option, None, Some, List, [], ◌∷◌, ◌++◌, length, map, take, get_or, flat_map, refl, sym, ap, subst, ◌∙◌, arith, Result, Ok, Err, OnOk, not, ◌&&◌}
use Rattle.std.specs.Int.{w16, to_be_bytes}
use Rattle.std.proofs.lemmas.List.{append-nil, map-append, take_more}
use Rattle.std.proofs.lemmas.List.Concat.{flat_map-append}
use Rattle.dcsctp_transfer.specs.types.declared.ids.StreamId.{StreamId}
use Rattle.dcsctp_transfer.specs.types.Ids.{stream_numbers}
use Rattle.dcsctp_transfer.specs.wire.Spelling.{chunk_bytes}
use Rattle.dcsctp_transfer.specs.spec.Packet.{chunk_out}
use Rattle.dcsctp_transfer.specs.spec.Reconfiguration.{RequestedReset}
use Rattle.dcsctp_transfer.specs.spec.association.FlushChanges.{reset_request}
use Rattle.dcsctp_transfer.specs.spec.endpoint.BegunResets.{streams_within, stream_field, BegunReset, last_assigned_tsn, begun_if_connected, begun_if_ready, transfer_reset_begun, held_begun, core_asking, after_begun}
use Rattle.dcsctp_transfer.proofs.spec_lemmas.PacketLengths.{request_len}
use Rattle.std.proofs.lemmas.Bool.Decides.{nat_tests}
use Rattle.dcsctp_core.specs.Resetting.{IsStream, StartsReset, BeginsReset, request_begun, timer_begun, BeginsOwnReset, BeginsInState, BeginsResetInQueues, reset_stage}
use Rattle.std.specs.List.{AllByRecursion}
use Rattle.std.specs.Prelude.{is_some}
use Rattle.std.specs.Option.{option_map}
use Rattle.std.specs.declared.alloc.AllocError.{AllocError}
use Rattle.dcsctp_transfer.specs.wire_build.Building.{Building, bytes_remaining}
use Rattle.dcsctp_transfer.specs.spec.queues.SendQueue.{SendQueueState}
use Rattle.dcsctp_transfer.specs.spec.queues.Transfer.{is_none_ready, Transfer}
use Rattle.dcsctp_transfer.specs.spec.queues.OwnResets.{handing_out, ready_streams, queue_handing_out}
use Rattle.dcsctp_core.specs.declared.transmission_control_block.ResetRequest.{ResetRequest}
use Rattle.dcsctp_core.specs.declared.transmission_control_block.TransmissionControlBlock.{TransmissionControlBlock}
use Rattle.dcsctp_core.specs.Reconfiguring.{tcb_changed}
use Rattle.dcsctp_core.proofs.LendingLemmas.{within, found}
use Rattle.dcsctp_core.proofs.LoopLemmas.{held_by_tcb}
use Rattle.dcsctp_core.specs.View.{request_number, tcb_of, held_of, core_of, phase_of_open, tie_of, t1_of, t2_of, outstanding_of, reconfiguration_of, transfer_of, endpoint_of, view_of, View}
use Rattle.dcsctp_transfer.specs.types.declared.association.Pair.{Pair}
use Rattle.dcsctp_transfer.specs.types.declared.association.Held.{Held}
use Rattle.dcsctp_transfer.specs.spec.endpoint.Endpoint.{Endpoint, Core, closed, cookie_wait, cookie_echoed, open_in, OpenPhase, OutstandingRequest, held_by_core, is_cookie_echoed}
use Rattle.dcsctp_transfer.specs.spec.endpoint.FlushOutcomes.{may_be_asked}
use Rattle.dcsctp_transfer.specs.spec.endpoint.Timers.{RunningTimer}
use Rattle.dcsctp_core.specs.declared.state.State.{State}
use Rattle.dcsctp_core.specs.declared.state.State.TheVariants.{Closed, CookieWait, CookieEchoed, Open}
use Rattle.dcsctp_core.specs.declared.context.Context.{Context}
use Rattle.dcsctp_core.specs.declared.resetting.RequestStart.{RequestStart}
use Rattle.dcsctp_core.specs.Flushing.{FillsResetRequest, TriesReset}

-- ---- the streams in bytes

one_more : (streams : List StreamId) (i : ℕ) (d : StreamId) → i < length streams
    → flat_map (to_be_bytes w16) (stream_numbers (take (i + 1) streams)) ≡ flat_map (to_be_bytes w16) (stream_numbers (take i streams)) ++ to_be_bytes w16 (get_or streams i d).0
one_more streams i d within =
    let last : StreamId = get_or streams i d in
    ap (λ (ids : List StreamId). flat_map (to_be_bytes w16) (stream_numbers ids)) (take_more streams i d within)
    ∙ ap (λ (ids : List ℕ). flat_map (to_be_bytes w16) ids) (map-append (λ (id : StreamId). id.0) (take i streams) (last ∷ []))
    ∙ flat_map-append (to_be_bytes w16) (stream_numbers (take i streams)) (last.0 ∷ [])
    ∙ ap (λ (bytes : List ℕ). flat_map (to_be_bytes w16) (stream_numbers (take i streams)) ++ bytes) (append-nil (to_be_bytes w16 last.0))

pub pushed : (streams : List StreamId) (i : ℕ) (d : StreamId) (bytes added : List ℕ) → i < length streams → bytes ≡ flat_map (to_be_bytes w16) (stream_numbers (take i streams))
    → added ≡ to_be_bytes w16 (get_or streams i d).0 → bytes ++ added ≡ flat_map (to_be_bytes w16) (stream_numbers (take (i + 1) streams))
pushed streams i d bytes added within so_far is =
    ap (λ (front : List ℕ). front ++ added) so_far ∙ ap (λ (back : List ℕ). flat_map (to_be_bytes w16) (stream_numbers (take i streams)) ++ back) is ∙ sym (one_more streams i d within)

-- ---- the request in its packet

-- the room that its chunk takes
pub request_room : (number : ℕ) (reset : RequestedReset) (room : ℕ) → 20 + (length reset.streams + 1) / 2 * 4 ≤ room → length (chunk_bytes (chunk_out (reset_request number reset))) ≤ room
request_room number reset room within =
    let bytes : List ℕ = chunk_bytes (chunk_out (reset_request number reset)) in
    let whole : length (bytes ++ []) ≡ length bytes = ap length (append-nil bytes) in
    let len = request_len number reset in
    omega (arith, within, whole, len)

-- as many as fit leave room for it
pub streams_fit : (room : ℕ) (streams : List ℕ) (count : ℕ) → count ≡ length streams → count ≤ streams_within room → (count == 0) ≡ false → 20 + (count + 1) / 2 * 4 ≤ room
streams_fit room streams count is few some = let above : 0 < count = grind (arith, nat_tests) in omega (arith, few, above)

-- ---- streams that fit their fields

all_then : (front : List ℕ) (last : ℕ) → AllByRecursion IsStream front → IsStream last → AllByRecursion IsStream (front ++ last ∷ [])
all_then [] last all one = (one, tt)
all_then (first ∷ front) last all one = (all.0, all_then front last all.1 one)

pub one_fits : (streams : List StreamId) (i : ℕ) (d : StreamId) → i < length streams → AllByRecursion IsStream (stream_numbers (take i streams)) → (get_or streams i d).0 < 2 ^ 16
    → AllByRecursion IsStream (stream_numbers (take (i + 1) streams))
one_fits streams i d within so_far small =
    subst (AllByRecursion IsStream) (sym (ap stream_numbers (take_more streams i d within) ∙ map-append (λ (id : StreamId). id.0) (take i streams) (get_or streams i d ∷ [])))
    (all_then (stream_numbers (take i streams)) (get_or streams i d).0 so_far small)

-- so each is as its field holds it
pub fields_same : (streams : List ℕ) → AllByRecursion IsStream streams → map stream_field streams ≡ streams
fields_same [] fit = refl
fields_same (stream ∷ streams) fit =
    let same : stream % 2 ^ 16 ≡ stream = omega (arith, fit.0) in
    ap (λ (first : ℕ). first ∷ map stream_field streams) same ∙ ap (λ (rest : List ℕ). stream ∷ rest) (fields_same streams fit.1)

-- ---- a reset is begun, where a stream is ready

begun_is : (follows : Bool) (outstanding : Option ℕ) (number last_tsn : ℕ) (streams : List ℕ) → outstanding ≡ None → (length streams == 0) ≡ false
    → Some (record { number = number; reset = record { last_tsn = last_tsn; streams = streams; is_new = follows } }) ≡ begun_if_ready follows outstanding number last_tsn streams
begun_is follows None number last_tsn [] none some = absurd (cc)
begun_is follows None number last_tsn (stream ∷ streams) none some = refl
begun_is follows (Some other) number last_tsn streams none some = absurd (cc)

pub begins_with : (start : RequestStart) (max : ℕ) (ids : List ℕ) (queue : SendQueueState) (old : TransmissionControlBlock) (packet : Building) (left : SendQueueState) (new : TransmissionControlBlock) (filled : Building)
    → request_number old.reset_request ≡ None → max ≡ streams_within (bytes_remaining packet) → ids ≡ take max (ready_streams queue) → (length ids == 0) ≡ false → left ≡ queue_handing_out max queue
    → StartsReset start ids old packet new filled → BeginsReset start queue old packet left new filled
begins_with start max ids queue old packet left new filled none is_max is some handed h =
    let last : ℕ = last_assigned_tsn old.transfer.retransmission in
    let number : ℕ = old.next_outgoing_reset_req_seq_nbr in
    record {
      begun = Some h.begun;
      is = ap (λ (b : BegunReset). Some b) h.is
          ∙ begun_is start.is_new (request_number old.reset_request) number last ids none some
          ∙ ap (λ (streams : List ℕ). begun_if_ready start.is_new (request_number old.reset_request) number last streams)
          (sym (fields_same ids h.fit) ∙ ap (map stream_field) (is ∙ ap (λ (n : ℕ). take n (ready_streams queue)) is_max));
      begins = h.begins;
      packet_is = h.packet_is;
      hands_out = handed ∙ ap (λ (n : ℕ). queue_handing_out n queue) is_max;
    }

pub begins_by : (start : RequestStart) (max : ℕ) (ids : List ℕ) (queue : SendQueueState) (old : TransmissionControlBlock) (packet : Building) (left : SendQueueState) (new : TransmissionControlBlock) (filled : Building)
    (result : Result (Unit {0}) AllocError)
    → request_number old.reset_request ≡ None → max ≡ streams_within (bytes_remaining packet) → ids ≡ take max (ready_streams queue) → (length ids == 0) ≡ false → left ≡ queue_handing_out max queue
    → OnOk result (StartsReset start ids old packet new filled) → OnOk result (BeginsReset start queue old packet left new filled)
begins_by start max ids queue old packet left new filled (Ok done) none is_max is some handed h = begins_with start max ids queue old packet left new filled none is_max is some handed h
begins_by start max ids queue old packet left new filled (Err error) none is_max is some handed h = tt

-- no request is outstanding
pub none_outstanding : (request : Option ResetRequest) → is_some request ≡ false → request_number request ≡ None
none_outstanding None none = refl
none_outstanding (Some request) none = absurd (cc)

-- none is handed out where none fits
no_member : (stream : ℕ) (streams : List ℕ) → (length (stream ∷ streams) == 0) ≡ true → ⊥
no_member stream streams none = grind (arith, nat_tests)

none_handed : (count : ℕ) (queue : SendQueueState) (ready : List ℕ) → (ready_streams queue) ≡ ready → (length (take count ready) == 0) ≡ true → is_none_ready ready ≡ false
    → queue_handing_out count queue ≡ queue
none_handed count queue [] is none some = absurd (cc)
none_handed zero queue (stream ∷ ready) is none some = ap (λ (ids : List ℕ). record queue { streams = handing_out (take 0 ids) queue.streams }) is
none_handed (suc count) queue (stream ∷ ready) is none some = absurd (no_member stream (take count ready) none)

pub begins_none : (start : RequestStart) (max : ℕ) (ids : List ℕ) (queue : SendQueueState) (old : TransmissionControlBlock) (packet : Building) (left : SendQueueState)
    → max ≡ streams_within (bytes_remaining packet) → ids ≡ take max (ready_streams queue) → (length ids == 0) ≡ true → is_none_ready (ready_streams queue) ≡ false
    → left ≡ queue_handing_out max queue → BeginsReset start queue old packet left old packet
begins_none start max ids queue old packet left is_max is none some handed =
    let empty : (length (take max (ready_streams queue)) == 0) ≡ true = subst (λ (ns : List ℕ). (length ns == 0) ≡ true) is none in
    record {
      begun = None;
      is = sym (ap (λ (streams : List ℕ). begun_if_ready start.is_new (request_number old.reset_request) old.next_outgoing_reset_req_seq_nbr (last_assigned_tsn old.transfer.retransmission) (map stream_field streams))
          (ap (λ (n : ℕ). take n (ready_streams queue)) (sym is_max) ∙ none_of (take max (ready_streams queue)) empty) ∙ begun_none start.is_new (request_number old.reset_request) _ _);
      begins = record { held = refl; request = refl; timer = refl; my = refl; tie_tag = refl; transfer = refl };
      packet_is = ap (λ (body : List ℕ). record packet { body = body }) (sym (append-nil packet.body));
      hands_out = handed ∙ none_handed max queue (ready_streams queue) refl empty some;
    }
  where
    none_of : (streams : List ℕ) → (length streams == 0) ≡ true → streams ≡ []
    none_of [] none = refl
    none_of (stream ∷ streams) none = absurd (no_member stream streams none)

    begun_none : (follows : Bool) (outstanding : Option ℕ) (number last_tsn : ℕ) → begun_if_ready follows outstanding number last_tsn [] ≡ None
    begun_none follows None number last_tsn = refl
    begun_none follows (Some other) number last_tsn = refl

pub some_ready : (answer none : Bool) → answer ≡ not none → answer ≡ true → none ≡ false
some_ready answer false is answered = refl
some_ready answer true is answered = absurd (cc)

-- ---- of a socket

-- when a request begins in this socket, and whether it says that it is new
abbrev pub start_of : {R : Type 0} → Context R → RequestStart
start_of c = record { now = c.moment; is_new = c.options.follow_rfc }

abbrev core_where : Option BegunReset → Core → Core
core_where None core = core
core_where (Some begun) core = core_asking core

abbrev transfer_where : Option BegunReset → Option Transfer → Option Transfer
transfer_where begun found = option_map (transfer_reset_begun begun) found

-- what the definitions see of a state in which this was begun
record Stood (now : ℕ) (begun : Option BegunReset) (old new : State) : Type 0 where
  core : core_of new ≡ core_where begun (core_of old)
  tie : tie_of new ≡ tie_of old
  t1 : t1_of new ≡ t1_of old
  t2 : t2_of new ≡ t2_of old
  outstanding : outstanding_of new ≡ request_begun begun (outstanding_of old)
  reconfiguration : reconfiguration_of new ≡ timer_begun begun now (transfer_of old) (reconfiguration_of old)
  transfer : transfer_of new ≡ transfer_where begun (transfer_of old)

echoed_core : (begun : Option BegunReset) (my : Pair) (held : Held) (cookie : List ℕ) → cookie_echoed my (held_begun begun held) cookie ≡ core_where begun (cookie_echoed my held cookie)
echoed_core None my held cookie = refl
echoed_core (Some begun) my held cookie = refl

open_core : (begun : Option BegunReset) (phase : OpenPhase) (my : Pair) (held : Held) → open_in phase my (held_begun begun held) ≡ core_where begun (open_in phase my held)
open_core None phase my held = refl
open_core (Some begun) phase my held = refl

stood : (now : ℕ) (begun : Option BegunReset) (old new : State) (transfer : Transfer) → transfer_of old ≡ Some transfer → BeginsInState now begun old new → Stood now begun old new
stood now begun Closed new transfer holds h = absurd (cc)
stood now begun (CookieWait wait) new transfer holds h = absurd (cc)
stood now begun (CookieEchoed echoed) new transfer holds h =
    let tcb : TransmissionControlBlock = h.0 in
    subst (Stood now begun (CookieEchoed echoed)) (sym h.2)
    (record {
      core = ap (λ (my : Pair). cookie_echoed my (held_of tcb) echoed.cookie.items) h.1.my ∙ ap (λ (held : Held). cookie_echoed echoed.tcb.my held echoed.cookie.items) h.1.held
          ∙ echoed_core begun echoed.tcb.my (held_of echoed.tcb) echoed.cookie.items;
      tie = h.1.tie_tag;
      t1 = refl;
      t2 = refl;
      outstanding = h.1.request;
      reconfiguration = h.1.timer;
      transfer = ap (λ (t : Transfer). Some t) h.1.transfer;
    })
stood now begun (Open opened) new transfer holds h =
    let tcb : TransmissionControlBlock = h.0 in
    subst (Stood now begun (Open opened)) (sym h.2)
    (record {
      core = ap (λ (my : Pair). open_in (phase_of_open opened.phase) my (held_of tcb)) h.1.my ∙ ap (λ (held : Held). open_in (phase_of_open opened.phase) opened.tcb.my held) h.1.held
          ∙ open_core begun (phase_of_open opened.phase) opened.tcb.my (held_of opened.tcb);
      tie = h.1.tie_tag;
      t1 = refl;
      t2 = refl;
      outstanding = h.1.request;
      reconfiguration = h.1.timer;
      transfer = ap (λ (t : Transfer). Some t) h.1.transfer;
    })

-- the endpoint of a context, by what the definitions see of its state
abbrev with_parts : {R : Type 0} → Context R → Core → ℕ → Option RunningTimer → Option RunningTimer → Option OutstandingRequest → Option RunningTimer → Option Transfer → SendQueueState → Endpoint
with_parts context core tie t1 t2 outstanding reconfiguration transfer queue =
    record (endpoint_of context) {
      core = core;
      tie = tie;
      outstanding = outstanding;
      timers = record (endpoint_of context).timers { t1 = t1; t2 = t2; reconfiguration = reconfiguration };
      queues = record { queue = queue; transfer = transfer };
    }

begun_whole : {R : Type 0} (begun : Option BegunReset) (context : Context R) (queue : SendQueueState)
    → let s : State = context.state in
    with_parts context (core_where begun (core_of s)) (tie_of s) (t1_of s) (t2_of s) (request_begun begun (outstanding_of s)) (timer_begun begun context.moment (transfer_of s) (reconfiguration_of s)) (transfer_where begun (transfer_of s)) queue
    ≡ record (after_begun begun (endpoint_of context)) { queues = record { queue = queue; transfer = transfer_where begun (transfer_of s) } }
begun_whole None context queue = refl
begun_whole (Some begun) context queue = refl

endpoint_begun : {R : Type 0} (context : Context R) (begun : Option BegunReset) (state : State) (queue : SendQueueState) → Stood context.moment begun context.state state
    → endpoint_of (record context { state = state; send_queue = queue }) ≡ record (after_begun begun (endpoint_of context)) { queues = record { queue = queue; transfer = transfer_where begun (transfer_of context.state) } }
endpoint_begun context begun state queue h =
    let s : State = context.state in
    ap (λ (core : Core). with_parts context core (tie_of state) (t1_of state) (t2_of state) (outstanding_of state) (reconfiguration_of state) (transfer_of state) queue) h.core
    ∙ ap (λ (tie : ℕ). with_parts context (core_where begun (core_of s)) tie (t1_of state) (t2_of state) (outstanding_of state) (reconfiguration_of state) (transfer_of state) queue) h.tie
    ∙ ap (λ (t1 : Option RunningTimer). with_parts context (core_where begun (core_of s)) (tie_of s) t1 (t2_of state) (outstanding_of state) (reconfiguration_of state) (transfer_of state) queue) h.t1
    ∙ ap (λ (t2 : Option RunningTimer). with_parts context (core_where begun (core_of s)) (tie_of s) (t1_of s) t2 (outstanding_of state) (reconfiguration_of state) (transfer_of state) queue) h.t2
    ∙ ap (λ (own : Option OutstandingRequest). with_parts context (core_where begun (core_of s)) (tie_of s) (t1_of s) (t2_of s) own (reconfiguration_of state) (transfer_of state) queue) h.outstanding
    ∙ ap (λ (timer : Option RunningTimer). with_parts context (core_where begun (core_of s)) (tie_of s) (t1_of s) (t2_of s) (request_begun begun (outstanding_of s)) timer (transfer_of state) queue) h.reconfiguration
    ∙ ap (λ (below : Option Transfer). with_parts context (core_where begun (core_of s)) (tie_of s) (t1_of s) (t2_of s) (request_begun begun (outstanding_of s))
    (timer_begun begun context.moment (transfer_of s) (reconfiguration_of s)) below queue) h.transfer
    ∙ begun_whole begun context queue

-- By the RFC nobody is asked while the COOKIE ACK is awaited; else the peer may be.
asked_where : (core : Core) (follows_rfc : Bool) → (follows_rfc && is_cookie_echoed core) ≡ false → held_by_core core ≡ may_be_asked core follows_rfc
asked_where closed follows_rfc none = refl
asked_where (cookie_wait my) follows_rfc none = refl
asked_where (cookie_echoed my held cookie) true none = absurd (cc)
asked_where (cookie_echoed my held cookie) false none = refl
asked_where (open_in phase my held) follows_rfc none = refl

none_asked : (core : Core) (follows_rfc : Bool) → (follows_rfc && is_cookie_echoed core) ≡ true → may_be_asked core follows_rfc ≡ None
none_asked closed true is = absurd (cc)
none_asked closed false is = absurd (cc)
none_asked (cookie_wait my) true is = absurd (cc)
none_asked (cookie_wait my) false is = absurd (cc)
none_asked (cookie_echoed my held cookie) true is = refl
none_asked (cookie_echoed my held cookie) false is = absurd (cc)
none_asked (open_in phase my held) true is = absurd (cc)
none_asked (open_in phase my held) false is = absurd (cc)

none_begins : {R : Type 0} (old : Context R) (found : Option Transfer) (packet : Building) → transfer_of old.state ≡ found
    → may_be_asked (core_of old.state) old.options.follow_rfc ≡ None → FillsResetRequest found (view_of old) packet (view_of old) packet
none_begins old None packet holds nobody = (refl, refl)
none_begins old (Some transfer) packet holds nobody = (
  None,
  old.send_queue,
  sym (ap (λ (held : Option Held). begun_if_connected old.options.follow_rfc held (bytes_remaining packet) (last_assigned_tsn transfer.retransmission) old.send_queue) nobody),
  refl,
  ap (λ (body : List ℕ). record packet { body = body }) (sym (append-nil packet.body)),
  ap (λ (f : Option Transfer). record (view_of old) { endpoint = record (endpoint_of old) { queues = record { queue = old.send_queue; transfer = f } } }) holds,
)

pub none_while_awaited : {R : Type 0} (old : Context R) (packet : Building) → (old.options.follow_rfc && is_cookie_echoed (core_of old.state)) ≡ true
    → FillsResetRequest (transfer_of old.state) (view_of old) packet (view_of old) packet
none_while_awaited old packet is = none_begins old (transfer_of old.state) packet refl (none_asked (core_of old.state) old.options.follow_rfc is)

begun_below : {R : Type 0} (old : Context R) (found : Option Transfer) (state : State) (queue : SendQueueState) (packet filled : Building) → transfer_of old.state ≡ found
    → (old.options.follow_rfc && is_cookie_echoed (core_of old.state)) ≡ false
    → BeginsResetInQueues (start_of old) found (reset_stage old.send_queue old.state packet) (reset_stage queue state filled) → FillsResetRequest found (view_of old) packet (view_of (record old { state = state; send_queue = queue })) filled
begun_below old None state queue packet filled holds may h =
    (ap (λ (s : State). view_of (record old { state = s; send_queue = queue })) h.0 ∙ ap (λ (q : SendQueueState). view_of (record old { send_queue = q })) h.1, h.2)
begun_below old (Some transfer) state queue packet filled holds may h =
    let below : Option Transfer → Endpoint = λ found. record (after_begun h.begun (endpoint_of old)) { queues = record { queue = queue; transfer = transfer_where h.begun found } } in
    let is : endpoint_of (record old { state = state; send_queue = queue }) ≡ below (Some transfer) =
    endpoint_begun old h.begun state queue (stood old.moment h.begun old.state state transfer holds h.begins) ∙ ap below holds in (
      h.begun,
      queue,
      h.is ∙ ap (λ (held : Option Held). begun_if_connected old.options.follow_rfc held (bytes_remaining packet) (last_assigned_tsn transfer.retransmission) old.send_queue) (asked_where (core_of old.state) old.options.follow_rfc may),
      h.hands_out,
      h.packet_is,
      ap (λ (e : Endpoint). record (view_of old) { endpoint = e }) is,
    )

pub tries_reset : {R : Type 0} (old new : Context R) (state : State) (queue : SendQueueState) (packet filled : Building) (result : Result (Unit {0}) AllocError)
    → view_of new ≡ view_of (record old { state = state; send_queue = queue })
    → (old.options.follow_rfc && is_cookie_echoed (core_of old.state)) ≡ false
    → OnOk result (BeginsResetInQueues (start_of old) (transfer_of old.state) (reset_stage old.send_queue old.state packet) (reset_stage queue state filled)) → TriesReset packet old result new filled
tries_reset {R = R} old new state queue packet filled (Ok done) same may h =
    subst (λ (v : View R). FillsResetRequest (transfer_of old.state) (view_of old) packet v filled) (sym same) (begun_below old (transfer_of old.state) state queue packet filled refl may h)
tries_reset {R = R} old new state queue packet filled (Err error) same may h = ap (λ (v : View R). v.events) same

-- ---- where the association was lent

begins_in : (now : ℕ) (begun : Option BegunReset) (state : State) (tcb after : TransmissionControlBlock) → Some tcb ≡ tcb_of state → BeginsOwnReset now begun tcb after
    → BeginsInState now begun state (tcb_changed (λ _. after) state)
begins_in now begun Closed tcb after holds begins = refl
begins_in now begun (CookieWait wait) tcb after holds begins = refl
begins_in now begun (CookieEchoed echoed) tcb after holds begins = (after, subst (λ (t : TransmissionControlBlock). BeginsOwnReset now begun t after) (within holds) begins, refl)
begins_in now begun (Open opened) tcb after holds begins = (after, subst (λ (t : TransmissionControlBlock). BeginsOwnReset now begun t after) (within holds) begins, refl)

pub begins_lent : {R : Type 0} (old : Context R) (tcb after : TransmissionControlBlock) (queue : SendQueueState) (packet filled : Building) (result : Result (Unit {0}) AllocError) → Some tcb ≡ tcb_of old.state
    → OnOk result (BeginsReset (start_of old) old.send_queue tcb packet queue after filled)
    → OnOk result (BeginsResetInQueues (start_of old) (transfer_of old.state) (reset_stage old.send_queue old.state packet) (reset_stage queue (tcb_changed (λ _. after) old.state) filled))
begins_lent old tcb after queue packet filled (Err error) holds h = h
begins_lent old tcb after queue packet filled (Ok done) holds h =
    let room = bytes_remaining packet in
    let last = last_assigned_tsn tcb.transfer.retransmission in
    subst (λ (f : Option Transfer). BeginsResetInQueues (start_of old) f (reset_stage old.send_queue old.state packet) (reset_stage queue (tcb_changed (λ _. after) old.state) filled)) (sym (found old.state tcb holds))
    (record {
      begun = h.begun;
      is = h.is ∙ ap (λ (held : Option Held). begun_if_connected old.options.follow_rfc held room last old.send_queue) (sym (held_by_tcb old.state tcb holds));
      begins = begins_in old.moment h.begun old.state tcb after holds h.begins;
      packet_is = h.packet_is;
      hands_out = h.hands_out;
    })
