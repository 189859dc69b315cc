-- How a packet of a flush is filled, as an answer of the transfer layer.
use Rattle.dcsctp_transfer.specs.spec.queues.Chunks.{AreChunksOfTsns}
use Rattle.std.proofs.Common.{◌≡◌, ◌==◌, ◌&&◌, ◌||◌, not, nat_le, ℕ, zero, suc, Bool, true, false, Option, None, Some, List, [], ◌∷◌, ◌++◌, length, map, take, refl, sym, ap, subst, ◌∙◌, append_assoc, arith, nat_lt}
use Rattle.std.specs.Prelude.{if◌then◌else◌}
use Rattle.std.specs.List.{AllByRecursion, flat_map}
use Rattle.std.proofs.lemmas.List.{append-nil}
use Rattle.std.proofs.lemmas.Bool.Decides.{nat_tests}
use Rattle.dcsctp_transfer.specs.wire.Content.{ChunkContent, sack_chunk}
use Rattle.dcsctp_transfer.specs.wire.ReadsBack.{FitsChunk}
use Rattle.dcsctp_transfer.specs.wire.Spelling.{chunk_bytes}
use Rattle.dcsctp_transfer.specs.wire_build.Building.{Building, bytes_remaining}
use Rattle.dcsctp_transfer.specs.spec.queues.OwnResets.{ready_streams}
use Rattle.dcsctp_transfer.specs.types.declared.options.Options.{Options}
use Rattle.dcsctp_transfer.specs.types.Settings.{Ports, ports_of}
use Rattle.dcsctp_transfer.specs.spec.endpoint.Event.{Event}
use Rattle.dcsctp_transfer.specs.spec.Packet.{Plain, plain, unworked, Content, Emission}
use Rattle.dcsctp_transfer.specs.spec.queues.Tracker.{TrackerState, is_acknowledgement_due, owes_acknowledgement, sack_of}
use Rattle.dcsctp_transfer.specs.spec.queues.SendQueue.{SendQueueState, has_queued_data}
use Rattle.dcsctp_transfer.specs.spec.queues.Transfer.{Transfer, advertised_window, is_none_ready, is_idle, may_give}
use Rattle.dcsctp_transfer.specs.spec.queues.Retransmission.{can_send, outstanding_count, RetransmissionState}
use Rattle.dcsctp_transfer.specs.types.declared.association.Held.{Held}
use Rattle.dcsctp_transfer.specs.spec.endpoint.Endpoint.{Endpoint, Timers}
use Rattle.dcsctp_transfer.specs.spec.association.Choices.{plain_contents}
use Rattle.dcsctp_transfer.specs.spec.endpoint.BegunResets.{BegunReset, stream_field, streams_within, last_assigned_tsn, begun_if_ready, begun_if_connected, request_contents, queue_requesting, after_begun, retransmission_begun}
use Rattle.dcsctp_transfer.specs.spec.endpoint.FlushOutcomes.{may_be_asked, FillingEvent, amount_is_low, total_amount_is_low, message_is_sent, message_may_have_expired, message_has_expired, message_ends, filling_event, Answer, answer_contents, filled_draft, Ask, first_ask, later_ask, own_sack, room_of_draft, where_fits, begun_by_ask, wants_sack, FitsPlain, Gives, GivesUnlessIdle, IsAnswerOfQueues, timers_with, nothing_waits, filling_event_content, FillsIfAllowed, GivesUpThenForwards, forward_moment, may_abandon, may_forward, stage_of, forward_made}
use Rattle.dcsctp_transfer.specs.api.Calls.{user_event}
use Rattle.dcsctp_transfer.specs.Filling.{has_chunks, FillsDataPacket, with_chunk, packet_stage}
use Rattle.dcsctp_core.specs.View.{View}
use Rattle.dcsctp_core.specs.Flushing.{packet_for, timers_if_filled, FillsAskedPacket, FillsPacketData}
use Rattle.dcsctp_core.proofs.SentLemmas.{body_of, body_append, body_of_chunks, room_is}
use Rattle.dcsctp_transfer.proofs.spec_lemmas.FilledAnswers.{GivesUntilFull}
use Rattle.dcsctp_transfer.specs.spec.queues.Outstanding.{OutstandingState}
use Rattle.dcsctp_transfer.specs.spec.queues.Filling.{Stage}
use Rattle.dcsctp_transfer.proofs.spec_lemmas.ToldLemmas.{behind_events, told_behind}
use Rattle.dcsctp_transfer.specs.spec.endpoint.FlushOutcomes as asks

-- ---- the user's events

told_one : (ports : Ports) (told : FillingEvent) → user_event ports (filling_event told) ≡ filling_event_content told
told_one ports (amount_is_low stream) = refl
told_one ports total_amount_is_low = refl
told_one ports (message_is_sent id) = refl
told_one ports (message_may_have_expired id) = refl
told_one ports (message_has_expired id) = refl
told_one ports (message_ends id) = refl

pub told_user : (ports : Ports) (told : List FillingEvent) → map filling_event_content told ≡ map (user_event ports) (map filling_event told)
told_user ports [] = refl
told_user ports (first ∷ told) =
    ap (λ (e : Event (List ℕ)). e ∷ map filling_event_content told) (sym (told_one ports first)) ∙ ap (λ (es : List (Event (List ℕ))). user_event ports (filling_event first) ∷ es) (told_user ports told)

-- ---- chunks with data

pub data_fit : (chunks : List ChunkContent) → AllByRecursion FitsChunk chunks → AllByRecursion FitsPlain (map unworked chunks)
data_fit [] h = tt
data_fit (chunk ∷ chunks) h = (h.0, data_fit chunks h.1)

timers_are : (e : Endpoint) (chunks : List ChunkContent) → timers_if_filled (has_chunks chunks) e ≡ timers_with e (map unworked chunks)
timers_are e [] = refl
timers_are e (chunk ∷ chunks) = refl

-- ---- where nothing waits

parts_of : (a r b c d : Bool) → (not a && r && b && not c && not d) ≡ true → ((a ≡ false) × (b ≡ true)) × ((c ≡ false) × (d ≡ false))
parts_of false true true false false is = ((refl, refl), (refl, refl))
parts_of false true true false true is = absurd (cc)
parts_of false true true true d is = absurd (cc)
parts_of false true false c d is = absurd (cc)
parts_of false false b c d is = absurd (cc)
parts_of true r b c d is = absurd (cc)

ready_of : (a r b c d : Bool) → (not a && r && b && not c && not d) ≡ true → r ≡ true
ready_of false true b c d is = refl
ready_of false false b c d is = absurd (cc)
ready_of true r b c d is = absurd (cc)

-- no stream is to be reset
pub idle_ready : (queue : SendQueueState) (transfer : Transfer) → is_idle queue transfer ≡ true → is_none_ready (ready_streams queue) ≡ true
idle_ready queue transfer is =
    ready_of (has_queued_data queue) (is_none_ready (ready_streams queue)) (outstanding_count transfer.retransmission == 0) (owes_acknowledgement transfer.tracker) (is_acknowledgement_due transfer.tracker) is

pub idle_parts : (queue : SendQueueState) (transfer : Transfer) → is_idle queue transfer ≡ true
    → ((has_queued_data queue ≡ false) × (outstanding_count transfer.retransmission ≡ 0)) × ((owes_acknowledgement transfer.tracker ≡ false) × (is_acknowledgement_due transfer.tracker ≡ false))
idle_parts queue transfer is =
    let parts = parts_of (has_queued_data queue) (is_none_ready (ready_streams queue)) (outstanding_count transfer.retransmission == 0) (owes_acknowledgement transfer.tracker) (is_acknowledgement_due transfer.tracker) is in
    ((parts.0.0, zero_of (outstanding_count transfer.retransmission) parts.0.1), parts.1)
  where
    zero_of : (n : ℕ) → (n == 0) ≡ true → n ≡ 0
    zero_of n is = grind (arith, nat_tests)

wants_by : (due owes along : Bool) → owes ≡ false → due ≡ false → (due || (owes && along)) ≡ false
wants_by due owes along not_owed not_due = ap (λ (b : Bool). b || (owes && along)) not_due ∙ ap (λ (b : Bool). b && along) not_owed

idle_wants : (ask : Ask) (queue : SendQueueState) (transfer : Transfer) → is_idle queue transfer ≡ true → wants_sack ask queue transfer ≡ false
idle_wants later_ask queue transfer is = refl
idle_wants first_ask queue transfer is =
    let parts = idle_parts queue transfer is in
    wants_by (is_acknowledgement_due transfer.tracker) (owes_acknowledgement transfer.tracker) (has_queued_data queue || can_send transfer.retransmission) parts.1.0 parts.1.1

-- ---- an answer out of its parts

-- what the transfer layer gave: what acknowledges or gives messages up, the request of a reset, and data
abbrev answer_by : List Plain → Option BegunReset → List ChunkContent → List FillingEvent → Endpoint → Answer
answer_by sacks begun chunks told after = record { acknowledgements = sacks; begun = begun; data_chunks = map unworked chunks; told = told; after = after }

-- the packet with all of it after what it holds
packet_is : (options : Options) (draft : Emission) (sacks : List Plain) (begun : Option BegunReset) (chunks : List ChunkContent) (told : List FillingEvent) (after : Endpoint) (filled_packet : Building)
    → filled_packet ≡ record (packet_for options (filled_draft draft (plain_contents sacks ++ request_contents begun))) {
      body = (packet_for options (filled_draft draft (plain_contents sacks ++ request_contents begun))).body ++ flat_map chunk_bytes chunks;
    }
    → filled_packet ≡ packet_for options (filled_draft draft (answer_contents (answer_by sacks begun chunks told after)))
packet_is options draft sacks begun chunks told after filled_packet is =
    let behind : List Content = plain_contents sacks ++ request_contents begun in
    let front : List Content = draft.packet.contents ++ behind in
    let more : List Content = plain_contents (map unworked chunks) in
    is
    ∙ ap (λ (bytes : List ℕ). record (packet_for options (filled_draft draft behind)) { body = body_of front ++ bytes }) (body_of_chunks chunks)
    ∙ ap (λ (bytes : List ℕ). record (packet_for options draft) { body = bytes })
    (sym (body_append front more) ∙ ap body_of (append_assoc draft.packet.contents behind more ∙ ap (λ (cs : List Content). draft.packet.contents ++ cs) (append_assoc (plain_contents sacks) (request_contents begun) more)))

-- Where no stream is ready, no reset is begun.
pub none_begun : (ask : Ask) (follows : Bool) (held : Option Held) (room last_tsn : ℕ) (queue : SendQueueState) → is_none_ready (ready_streams queue) ≡ true → begun_by_ask ask follows held room last_tsn queue ≡ None
none_begun later_ask follows held room last_tsn queue none = refl
none_begun first_ask follows None room last_tsn queue none = refl
none_begun first_ask follows (Some held) room last_tsn queue none =
    ap (λ (streams : List ℕ). begun_if_ready follows held.own_outstanding held.own_next last_tsn (map stream_field (take (streams_within room) streams))) (empty (ready_streams queue) none)
    ∙ ap (λ (streams : List ℕ). begun_if_ready follows held.own_outstanding held.own_next last_tsn (map stream_field streams)) (take_none (streams_within room))
    ∙ nothing held.own_outstanding
  where
    empty : (streams : List ℕ) → is_none_ready streams ≡ true → streams ≡ []
    empty [] is = refl
    empty (stream ∷ streams) is = absurd (cc)

    take_none : (n : ℕ) → take {A = ℕ} n [] ≡ []
    take_none zero = refl
    take_none (suc n) = refl

    nothing : (outstanding : Option ℕ) → begun_if_ready follows outstanding held.own_next last_tsn [] ≡ None
    nothing None = refl
    nothing (Some number) = refl

-- So the queue stays as it is.
pub requesting_none : (count room last_tsn : ℕ) (follows : Bool) (held : Option Held) (begun : Option BegunReset) (queue left : SendQueueState) → is_none_ready (ready_streams queue) ≡ true
    → begun ≡ begun_if_connected follows held room last_tsn queue → left ≡ queue_requesting count begun queue → left ≡ queue
requesting_none count room last_tsn follows held begun queue left none is hands =
    hands ∙ ap (λ (b : Option BegunReset). queue_requesting count b queue) (is ∙ none_begun first_ask follows held room last_tsn queue none)

-- ---- what a packet is filled with

-- what an ask amounts to, up to the data: where it begins
abbrev pub start_of : {ask : Ask} {e : Endpoint} {draft : Emission} {transfer : Transfer} → GivesUntilFull ask e draft transfer → Stage
start_of {e = e} {draft = draft} u =
    stage_of (queue_requesting (streams_within (room_of_draft e (filled_draft draft (plain_contents (u.sacks ++ u.forwards))))) u.begun u.gave_up.waiting)
    (retransmission_begun u.begun u.gave_up.queue) u.gave_up.told (room_of_draft e (filled_draft draft (plain_contents (u.sacks ++ u.forwards) ++ request_contents u.begun)))

-- the transfer layer then
abbrev pub transfer_after : {ask : Ask} {e : Endpoint} {draft : Emission} {transfer : Transfer} → GivesUntilFull ask e draft transfer → Transfer
transfer_after {transfer = transfer} u = record transfer { retransmission = u.sent.queue; tracker = u.tracker }

-- the endpoint with this below it
abbrev pub endpoint_given : Endpoint → Option BegunReset → Bool → ℕ → SendQueueState → Transfer → Endpoint
endpoint_given e begun any later left after =
    record (after_begun begun e) { timers = timers_if_filled any (after_begun begun e); no_forward_tsn_before = later; queues = record { queue = left; transfer = Some after } }

abbrev pub given_endpoint : {ask : Ask} {e : Endpoint} {draft : Emission} {transfer : Transfer} → GivesUntilFull ask e draft transfer → Bool → Endpoint
given_endpoint {e = e} u any = endpoint_given e u.begun any (forward_moment u.next e.no_forward_tsn_before) u.sent.waiting (transfer_after u)

-- A packet that was filled: what it came to up to the data, and the data in it.
pub record Parts {R : Type 0} (ask : Ask) (old : View R) (draft : Emission) (transfer : Transfer) (new : View R) (filled_packet : Building) : Type 0 where
  pub until : GivesUntilFull ask old.endpoint draft transfer
  pub still : has_queued_data (start_of until).waiting ≡ false → outstanding_count (start_of until).queue ≡ 0 → until.sent ≡ start_of until
  pub chunks : List ChunkContent
  pub are : AreChunksOfTsns until.sent.queue.outstanding until.sent.tsns (map unworked chunks)
  pub fits : AllByRecursion FitsChunk chunks
  pub forwards_fit : AllByRecursion FitsPlain until.forwards
  pub told : List FillingEvent
  pub are_told : map filling_event_content told ≡ until.sent.told
  pub holds : old.endpoint.queues.transfer ≡ Some transfer
  pub adds : filled_packet
      ≡ record (packet_for old.endpoint.options (filled_draft draft (plain_contents (until.sacks ++ until.forwards) ++ request_contents until.begun))) {
        body = (packet_for old.endpoint.options (filled_draft draft (plain_contents (until.sacks ++ until.forwards) ++ request_contents until.begun))).body ++ flat_map chunk_bytes chunks;
      }
  pub is : new ≡ record old { endpoint = given_endpoint until (has_chunks chunks); events = old.events ++ until.sent.told }

abbrev answer_of : {R : Type 0} {ask : Ask} {old : View R} {draft : Emission} {transfer : Transfer} {new : View R} {filled_packet : Building} → Parts ask old draft transfer new filled_packet → Answer
answer_of {old = old} p = answer_by (p.until.sacks ++ p.until.forwards) p.until.begun p.chunks p.told (given_endpoint p.until (has_chunks p.chunks))

-- ---- where nothing waits

-- nothing is asked for, so none of it is sent
no_sacks : (b : Bool) (room : ℕ) (transfer : Transfer) (after : TrackerState) (sacks : List Plain) → b ≡ false → asks.Acknowledges b room transfer after sacks → (after ≡ transfer.tracker) × (sacks ≡ [])
no_sacks b room transfer after sacks is h = subst (λ (x : Bool). asks.Acknowledges x room transfer after sacks) is h

-- nothing is outstanding, so nothing is abandoned
and_none : (a b : Bool) → b ≡ false → (a && b) ≡ false
and_none true b is = is
and_none false b is = refl

pub may_not : (ask : Ask) (e : Endpoint) (state : RetransmissionState) → outstanding_count state ≡ 0 → may_forward ask e state ≡ false
may_not later_ask e state none = refl
may_not first_ask e state none =
    and_none (nat_le e.no_forward_tsn_before e.moment) (may_abandon state) (and_none state.partial_reliability (nat_lt 0 (outstanding_count state)) (ap (nat_lt 0) none))

no_forwards : (b : Bool) (now : ℕ) (transfer : Transfer) (room : ℕ) (old new : Stage) (next : Option ℕ) (chunks : List Plain) → b ≡ false → GivesUpThenForwards b now transfer room old new (forward_made next chunks)
    → (new ≡ old) × (next ≡ None) × (chunks ≡ [])
no_forwards b now transfer room old new next chunks is h = subst (λ (x : Bool). GivesUpThenForwards x now transfer room old new (forward_made next chunks)) is h

no_chunks : (outstanding : OutstandingState) (chunks : List ChunkContent) → AreChunksOfTsns outstanding [] (map unworked chunks) → chunks ≡ []
no_chunks outstanding [] h = refl
no_chunks outstanding (chunk ∷ chunks) h = absurd h

none_told : (told : List FillingEvent) → map filling_event_content told ≡ [] → told ≡ []
none_told [] is = refl
none_told (first ∷ told) is = absurd (cc)

-- Where nothing is asked for, nothing has changed up to the data.
pub record IdleUntil (ask : Ask) (e : Endpoint) (draft : Emission) (transfer : Transfer) (u : GivesUntilFull ask e draft transfer) : Type 0 where
  pub sacks : u.sacks ≡ []
  pub tracker : u.tracker ≡ transfer.tracker
  pub forwards : u.forwards ≡ []
  pub next : u.next ≡ None
  pub begun : u.begun ≡ None
  pub no_data : has_queued_data (start_of u).waiting ≡ false
  pub no_items : outstanding_count (start_of u).queue ≡ 0
  pub waiting : (start_of u).waiting ≡ e.queues.queue
  pub queue : (start_of u).queue ≡ transfer.retransmission
  pub told : (start_of u).told ≡ []

pub idle_until : (ask : Ask) (e : Endpoint) (draft : Emission) (transfer : Transfer) (u : GivesUntilFull ask e draft transfer) → is_idle e.queues.queue transfer ≡ true → IdleUntil ask e draft transfer u
idle_until ask e draft transfer u idle =
    let parts = idle_parts e.queues.queue transfer idle in
    let none = no_sacks (wants_sack ask e.queues.queue transfer) (room_of_draft e draft) transfer u.tracker u.sacks (idle_wants ask e.queues.queue transfer idle) u.acknowledges in
    let up = no_forwards (may_forward ask e transfer.retransmission) e.moment transfer _ _ u.gave_up u.next u.forwards (may_not ask e transfer.retransmission parts.0.1) u.gives_up in
    let waits : u.gave_up.waiting ≡ e.queues.queue = ap (λ (s : Stage). s.waiting) up.0 in
    let ready : is_none_ready (ready_streams u.gave_up.waiting) ≡ true = ap (λ (q : SendQueueState). is_none_ready (ready_streams q)) waits ∙ idle_ready e.queues.queue transfer idle in
    let begun : u.begun ≡ None = u.begins ∙ none_begun ask e.options.follow_rfc (may_be_asked e.core e.options.follow_rfc) _ (last_assigned_tsn u.gave_up.queue) u.gave_up.waiting ready in
    let left : (start_of u).waiting ≡ e.queues.queue = ap (λ (b : Option BegunReset). queue_requesting (streams_within (room_of_draft e (filled_draft draft (plain_contents (u.sacks ++ u.forwards))))) b u.gave_up.waiting) begun ∙ waits in
    let state : (start_of u).queue ≡ transfer.retransmission = ap (λ (b : Option BegunReset). retransmission_begun b u.gave_up.queue) begun ∙ ap (λ (s : Stage). s.queue) up.0 in
    record {
      sacks = none.1;
      tracker = none.0;
      forwards = up.2;
      next = up.1;
      begun = begun;
      no_data = ap has_queued_data left ∙ parts.0.0;
      no_items = ap outstanding_count state ∙ parts.0.1;
      waiting = left;
      queue = state;
      told = ap (λ (s : Stage). s.told) up.0;
    }

-- the answer out of these
abbrev answer_out_of : Endpoint → Transfer → List Plain → Option BegunReset → List ChunkContent → List FillingEvent → Option ℕ → SendQueueState → RetransmissionState → TrackerState → Answer
answer_out_of e transfer sacks begun chunks told next waiting queue tracker =
    answer_by sacks begun chunks told (record (after_begun begun e) {
      timers = timers_if_filled (has_chunks chunks) (after_begun begun e);
      no_forward_tsn_before = forward_moment next e.no_forward_tsn_before;
      queues = record { queue = waiting; transfer = Some (record transfer { retransmission = queue; tracker = tracker }) };
    })

idle_answer : {R : Type 0} (ask : Ask) (old : View R) (draft : Emission) (transfer : Transfer) (new : View R) (filled_packet : Building) (p : Parts ask old draft transfer new filled_packet)
    → is_idle old.endpoint.queues.queue transfer ≡ true → answer_of p ≡ nothing_waits old.endpoint
idle_answer ask old draft transfer new filled_packet p idle =
    let e : Endpoint = old.endpoint in
    let u : GivesUntilFull ask e draft transfer = p.until in
    let n : IdleUntil ask e draft transfer u = idle_until ask e draft transfer u idle in
    let sent : u.sent ≡ start_of u = p.still n.no_data n.no_items in
    let chunks : p.chunks ≡ [] =
    no_chunks u.sent.queue.outstanding p.chunks (subst (λ (tsns : List ℕ). AreChunksOfTsns u.sent.queue.outstanding tsns (map unworked p.chunks)) (ap (λ (s : Stage). s.tsns) sent) p.are) in
    let told : p.told ≡ [] = none_told p.told (p.are_told ∙ (ap (λ (s : Stage). s.told) sent ∙ n.told)) in
    ap (λ (sacks : List Plain). answer_out_of e transfer (sacks ++ u.forwards) u.begun p.chunks p.told u.next u.sent.waiting u.sent.queue u.tracker) n.sacks
    ∙ ap (λ (forwards : List Plain). answer_out_of e transfer forwards u.begun p.chunks p.told u.next u.sent.waiting u.sent.queue u.tracker) n.forwards
    ∙ ap (λ (begun : Option BegunReset). answer_out_of e transfer [] begun p.chunks p.told u.next u.sent.waiting u.sent.queue u.tracker) n.begun
    ∙ ap (λ (chunks : List ChunkContent). answer_out_of e transfer [] None chunks p.told u.next u.sent.waiting u.sent.queue u.tracker) chunks
    ∙ ap (λ (told : List FillingEvent). answer_out_of e transfer [] None [] told u.next u.sent.waiting u.sent.queue u.tracker) told
    ∙ ap (λ (next : Option ℕ). answer_out_of e transfer [] None [] [] next u.sent.waiting u.sent.queue u.tracker) n.next
    ∙ ap (λ (waiting : SendQueueState). answer_out_of e transfer [] None [] [] None waiting u.sent.queue u.tracker) (ap (λ (s : Stage). s.waiting) sent ∙ n.waiting)
    ∙ ap (λ (queue : RetransmissionState). answer_out_of e transfer [] None [] [] None e.queues.queue queue u.tracker) (ap (λ (s : Stage). s.queue) sent ∙ n.queue)
    ∙ ap (λ (tracker : TrackerState). answer_out_of e transfer [] None [] [] None e.queues.queue transfer.retransmission tracker) n.tracker
    ∙ ap (λ (t : Option Transfer). answer_by [] None [] [] (record e { queues = record e.queues { transfer = t } })) (sym p.holds)

-- ---- where something waits

gives_by : {R : Type 0} (ask : Ask) (old : View R) (draft : Emission) (transfer : Transfer) (new : View R) (filled_packet : Building) (p : Parts ask old draft transfer new filled_packet)
    → Gives ask old.endpoint draft transfer (answer_of p)
gives_by ask old draft transfer new filled_packet p =
    let u : GivesUntilFull ask old.endpoint draft transfer = p.until in
    record {
      sacks = u.sacks;
      forwards = u.forwards;
      parts = refl;
      tracker = u.tracker;
      acknowledges = u.acknowledges;
      gave_up = u.gave_up;
      next = u.next;
      gives_up = u.gives_up;
      later = refl;
      begins = u.begins;
      sent = u.sent;
      fills = u.fills;
      chunks = p.are;
      forwards_fit = p.forwards_fit;
      data_fit = data_fit p.chunks p.fits;
      told = p.are_told;
      below = refl;
    }

gives_where : {R : Type 0} (ask : Ask) (old : View R) (draft : Emission) (transfer : Transfer) (new : View R) (filled_packet : Building) (p : Parts ask old draft transfer new filled_packet) (b : Bool)
    → is_idle old.endpoint.queues.queue transfer ≡ b → GivesUnlessIdle b ask old.endpoint draft transfer (answer_of p)
gives_where ask old draft transfer new filled_packet p true is = idle_answer ask old draft transfer new filled_packet p is
gives_where ask old draft transfer new filled_packet p false is = gives_by ask old draft transfer new filled_packet p

pub fills_by : {R : Type 0} (ask : Ask) (old : View R) (draft : Emission) (transfer : Transfer) (new : View R) (filled_packet : Building)
    → Parts ask old draft transfer new filled_packet → FillsAskedPacket ask old draft new filled_packet
fills_by {R = R} ask old draft transfer new filled_packet p =
    let e : Endpoint = old.endpoint in
    let u : GivesUntilFull ask e draft transfer = p.until in
    record {
      answer = answer_of p;
      kept = ap (λ (t : Timers). record (after_begun u.begun e) { timers = t; no_forward_tsn_before = forward_moment u.next e.no_forward_tsn_before; queues = record { queue = u.sent.waiting; transfer = Some (transfer_after u) } })
          (timers_are (after_begun u.begun e) p.chunks);
      by_transfer = subst (IsAnswerOfQueues ask e draft (answer_of p)) (sym p.holds) (gives_where ask old draft transfer new filled_packet p (is_idle e.queues.queue transfer) refl);
      endpoint = ap (λ (v : View R). v.endpoint) p.is;
      events = ap (λ (v : View R). v.events) p.is ∙ ap (λ (es : List (Event (List ℕ))). old.events ++ es) (sym p.are_told ∙ told_user (ports_of e.options) p.told);
      rest = p.is ∙ ap (λ (v : View R). record old { endpoint = v.endpoint; events = v.events }) (sym p.is);
      packet = packet_is e.options draft (u.sacks ++ u.forwards) u.begun p.chunks p.told (answer_of p).after filled_packet p.adds;
    }

-- ---- the run that fills it

-- The events of filling a packet come after those of abandoning messages.
pub told_after : (front : List (Event (List ℕ))) (b : Bool) (now : ℕ) (waiting : SendQueueState) (state : RetransmissionState) (room : ℕ) (sent : Stage)
    → FillsIfAllowed b now (stage_of waiting state [] room) sent → FillsIfAllowed b now (stage_of waiting state front room) (behind_events front sent)
told_after front b now waiting state room sent fills =
    subst (λ (told : List (Event (List ℕ))). FillsIfAllowed b now (stage_of waiting state told room) (behind_events front sent)) (append-nil front)
    (told_behind front b now (stage_of waiting state [] room) sent fills)

-- the same where nothing goes
pub stays_behind : (front : List (Event (List ℕ))) (waiting : SendQueueState) (state : RetransmissionState) (room : ℕ) (sent : Stage) → sent ≡ stage_of waiting state [] room
    → behind_events front sent ≡ stage_of waiting state front room
stays_behind front waiting state room sent is =
    ap (behind_events front) is ∙ ap (λ (told : List (Event (List ℕ))). stage_of waiting state told room) (append-nil front)

-- ---- without a peer

pub fills_nothing : {R : Type 0} (ask : Ask) (old : View R) (draft : Emission) (new : View R) (filled_packet : Building) → old.endpoint.queues.transfer ≡ None
    → new ≡ old → filled_packet ≡ packet_for old.endpoint.options draft → FillsAskedPacket ask old draft new filled_packet
fills_nothing {R = R} ask old draft new filled_packet holds same is =
    let e : Endpoint = old.endpoint in
    record {
      answer = nothing_waits e;
      kept = refl;
      by_transfer = subst (IsAnswerOfQueues ask e draft (nothing_waits e)) (sym holds) refl;
      endpoint = ap (λ (v : View R). v.endpoint) same;
      events = ap (λ (v : View R). v.events) same ∙ sym (append-nil old.events);
      rest = same ∙ ap (λ (v : View R). record old { endpoint = v.endpoint; events = v.events }) (sym same);
      packet = is ∙ ap (λ (contents : List Content). packet_for e.options (record draft { packet = record draft.packet { contents = contents } })) (sym (append-nil draft.packet.contents));
    }

-- ---- a later packet

-- what fills it is all it amounts to
abbrev pub later_until : (e : Endpoint) (draft : Emission) (transfer : Transfer) (sent : Stage)
    → FillsIfAllowed (may_give e.queues.queue transfer.retransmission) e.moment (stage_of e.queues.queue transfer.retransmission [] (room_of_draft e (filled_draft draft []))) sent → GivesUntilFull later_ask e draft transfer
later_until e draft transfer sent fills =
    record {
      sacks = [];
      forwards = [];
      tracker = transfer.tracker;
      acknowledges = (refl, refl);
      gave_up = stage_of e.queues.queue transfer.retransmission [] 0;
      next = None;
      gives_up = (refl, refl, refl);
      begun = None;
      begins = refl;
      sent = sent;
      fills = fills;
    }

-- The draft with nothing added is the same, so it has as much room.
pub same_draft : (draft : Emission) → filled_draft draft [] ≡ draft
same_draft draft = ap (λ (contents : List Content). record draft { packet = record draft.packet { contents = contents } }) (append-nil draft.packet.contents)

pub room_is_left : (e : Endpoint) (draft : Emission) (packet : Building) → packet ≡ packet_for e.options draft → bytes_remaining packet ≡ room_of_draft e draft
room_is_left e draft packet is = ap bytes_remaining is ∙ room_is e draft

-- the view with this below its endpoint
abbrev filled_view : {R : Type 0} → View R → Bool → SendQueueState → Transfer → List (Event (List ℕ)) → View R
filled_view old any left after telling =
    record old { endpoint = record old.endpoint { timers = timers_if_filled any old.endpoint; queues = record { queue = left; transfer = Some after } }; events = telling }

-- what a packet that was filled leaves
pub view_filled : {R : Type 0} (old : View R) (transfer after : Transfer) (left : SendQueueState) (packet filled_packet : Building) (any : Bool) (new : View R)
    → (h : FillsDataPacket old.endpoint.moment transfer (packet_stage old.endpoint.queues.queue old.events packet) after (packet_stage left new.events filled_packet) any) → new ≡ filled_view old any left after new.events
    → new ≡ filled_view old (has_chunks h.chunks) h.sent.waiting (record transfer { retransmission = h.sent.queue }) (old.events ++ h.sent.told)
view_filled old transfer after left packet filled_packet any new h is =
    is
    ∙ ap (λ (b : Bool). filled_view old b left after new.events) h.answers
    ∙ ap (λ (q : SendQueueState). filled_view old (has_chunks h.chunks) q after new.events) h.queue
    ∙ ap (λ (t : Transfer). filled_view old (has_chunks h.chunks) h.sent.waiting t new.events) h.is
    ∙ ap (filled_view old (has_chunks h.chunks) h.sent.waiting (record transfer { retransmission = h.sent.queue })) h.tells

later_by : {R : Type 0} (old : View R) (draft : Emission) (found : Option Transfer) (new : View R) (packet filled_packet : Building) → old.endpoint.queues.transfer ≡ found
    → packet ≡ packet_for old.endpoint.options draft → FillsPacketData found old packet new filled_packet → FillsAskedPacket later_ask old draft new filled_packet
later_by old draft None new packet filled_packet holds is h = fills_nothing later_ask old draft new filled_packet holds h.0 (h.1 ∙ is)
later_by old draft (Some transfer) new packet filled_packet holds is h =
    let e : Endpoint = old.endpoint in
    let filling = h.3 in
    let behind : packet ≡ packet_for e.options (filled_draft draft []) = is ∙ ap (packet_for e.options) (sym (same_draft draft)) in
    let room : bytes_remaining packet ≡ room_of_draft e (filled_draft draft []) = room_is_left e (filled_draft draft []) packet behind in
    fills_by later_ask old draft transfer new filled_packet
    (record {
      until = later_until e draft transfer filling.sent
          (subst (λ (n : ℕ). FillsIfAllowed (may_give e.queues.queue transfer.retransmission) e.moment (stage_of e.queues.queue transfer.retransmission [] n) filling.sent) room filling.fills);
      still = λ no_data no_items. filling.idle no_data no_items ∙ ap (stage_of e.queues.queue transfer.retransmission []) room;
      chunks = filling.chunks;
      are = filling.are;
      fits = filling.fits;
      forwards_fit = tt;
      told = filling.told;
      are_told = filling.are_told;
      holds = holds;
      adds = filling.adds ∙ ap (λ (b : Building). record b { body = b.body ++ flat_map chunk_bytes filling.chunks }) behind;
      is = view_filled old transfer h.1 h.2 packet filled_packet h.0 new filling h.4;
    })

pub fills_later : {R : Type 0} (old : View R) (draft : Emission) (new : View R) (packet filled_packet : Building) → packet ≡ packet_for old.endpoint.options draft
    → FillsPacketData old.endpoint.queues.transfer old packet new filled_packet → FillsAskedPacket later_ask old draft new filled_packet
fills_later old draft new packet filled_packet is h = later_by old draft old.endpoint.queues.transfer new packet filled_packet refl is h

-- ---- the first packet

chunk_where : (b : Bool) (options : Options) (draft : Emission) (room : ℕ) (chunk : ChunkContent) → nat_le (length (chunk_bytes chunk)) room ≡ b
    → (if b then record (packet_for options draft) { body = (packet_for options draft).body ++ chunk_bytes chunk } else packet_for options draft)
    ≡ packet_for options (filled_draft draft (plain_contents (if b then unworked chunk ∷ [] else [])))
chunk_where true options draft room chunk is =
    ap (λ (bytes : List ℕ). record (packet_for options draft) { body = bytes })
    (ap (λ (bytes : List ℕ). body_of draft.packet.contents ++ bytes) (sym (append-nil (chunk_bytes chunk))) ∙ sym (body_append draft.packet.contents (plain (unworked chunk) ∷ [])))
chunk_where false options draft room chunk is =
    ap (λ (contents : List Content). packet_for options (record draft { packet = record draft.packet { contents = contents } })) (sym (append-nil draft.packet.contents))

-- a chunk after what the packet holds, if it fits
pub chunk_packet : (e : Endpoint) (draft : Emission) (chunk : ChunkContent)
    → with_chunk (packet_for e.options draft) chunk ≡ packet_for e.options (filled_draft draft (plain_contents (where_fits (room_of_draft e draft) (unworked chunk))))
chunk_packet e draft chunk =
    ap (λ (room : ℕ). if nat_le (length (chunk_bytes chunk)) room then record (packet_for e.options draft) { body = (packet_for e.options draft).body ++ chunk_bytes chunk } else packet_for e.options draft)
    (room_is e draft)
    ∙ chunk_where (nat_le (length (chunk_bytes chunk)) (room_of_draft e draft)) e.options draft (room_of_draft e draft) chunk refl

-- a SACK that is cut to the room
pub sack_packet : (e : Endpoint) (draft : Emission) (packet : Building) (transfer : Transfer) → packet ≡ packet_for e.options draft
    → with_chunk packet (sack_chunk (sack_of (bytes_remaining packet) transfer.tracker (advertised_window transfer)))
    ≡ packet_for e.options (filled_draft draft (plain_contents (where_fits (room_of_draft e draft) (own_sack (room_of_draft e draft) transfer))))
sack_packet e draft packet transfer is =
    ap (λ (b : Building). with_chunk b (sack_chunk (sack_of (bytes_remaining b) transfer.tracker (advertised_window transfer)))) is
    ∙ ap (λ (room : ℕ). with_chunk (packet_for e.options draft) (sack_chunk (sack_of room transfer.tracker (advertised_window transfer)))) (room_is e draft)
    ∙ chunk_packet e draft (sack_chunk (sack_of (room_of_draft e draft) transfer.tracker (advertised_window transfer)))
