-- A packet that is filled, from what was handed out and added.
use Rattle.std.proofs.Common.{suc, zero, ◌≡◌, ◌∙◌, inl, inr, ℕ, ◌==◌, ◌&&◌, ◌||◌, not, ◌<◌, nat_lt, Bool, true, false, Ok, Vec, List, [], ◌∷◌, length, map, refl, ap, sym, subst, arith}
use Rattle.std.proofs.lemmas.List.{append-nil}
use Rattle.std.proofs.lemmas.Bool.Decides.{nat_tests}
use Rattle.std.specs.declared.alloc.Global.{Global}
use Rattle.dcsctp_send_retransmission.specs.api.declared.events.SocketEvent.{SocketEvent}
use Rattle.dcsctp_send_retransmission.specs.wire.Content.{ChunkContent}
use Rattle.dcsctp_wire_build.specs.Building.{Building, bytes_remaining}
use Rattle.dcsctp_send_retransmission.specs.spec.endpoint.Event.{Event}
use Rattle.dcsctp_send_retransmission.specs.spec.Packet.{unworked}
use Rattle.dcsctp_send_retransmission.specs.spec.queues.Chunks.{AreChunksOfTsns}
use Rattle.dcsctp_send_retransmission.specs.spec.queues.Filling.{Stage, FillsPacket as Fills}
use Rattle.dcsctp_send_retransmission.specs.spec.queues.Items.{Item, marked_items}
use Rattle.dcsctp_send_retransmission.specs.spec.endpoint.Timers.{TimerModel}
use Rattle.dcsctp_send_retransmission.specs.spec.queues.NextItem.{Halts}
use Rattle.dcsctp_send_retransmission.specs.spec.queues.Outstanding.{OutstandingState}
use Rattle.dcsctp_send_retransmission.specs.spec.queues.SendQueue.{SendQueueState, has_queued_data}
use Rattle.dcsctp_send_retransmission.specs.spec.queues.Transfer.{Transfer, may_give}
use Rattle.dcsctp_send_retransmission.specs.spec.queues.Retransmission.{RetransmissionState, outstanding_count, can_send}
use Rattle.dcsctp_send_retransmission.specs.spec.endpoint.FlushOutcomes.{stage_of, FillsIfAllowed}
use Rattle.dcsctp_send_retransmission.proofs.spec_lemmas.TellingLemmas.{tells_filled}
use Rattle.dcsctp_send_retransmission.proofs.spec_lemmas.ToldLemmas.{behind_events, filled_before}
use Rattle.dcsctp_send_retransmission.specs.send_queue.Telling.{contents}
use Rattle.dcsctp_send_retransmission.specs.Outstanding.{FindsPlaces}
use Rattle.dcsctp_send_retransmission.specs.Halting.{FillsUp}
use Rattle.dcsctp_send_retransmission.specs.States.{stage, StopsFilling, SendsPacket, queue_stage}
use Rattle.dcsctp_transfer.specs.Adding.{AddsChunks}
use Rattle.dcsctp_transfer.specs.Filling.{has_chunks, FillsDataPacket, AddsFirstOfFilling, packet_stage}
use Rattle.dcsctp_transfer.proofs.RoomLemmas.{halts_there}
use Rattle.dcsctp_transfer.proofs.StoppedLemmas.{stops_filling}

-- A filling is one whether or not data may go.
fills_where : (b : Bool) (now : ℕ) (old new : Stage) → Fills now old new → FillsIfAllowed b now old new
fills_where true now old new fills = fills
fills_where false now old new fills = inr fills

-- ---- nothing waits, and nothing is outstanding

none_waits : (a b : Bool) → (a || b) ≡ false → (a ≡ false) × (b ≡ false)
none_waits true b is = absurd (cc)
none_waits false b is = (refl, is)

no_items : (items : List Item) → nat_lt 0 (length items) ≡ false → items ≡ []
no_items [] is = refl
no_items (item ∷ items) is = absurd (grind (arith, nat_tests))

may_give_none : (waiting : SendQueueState) (state : RetransmissionState) → has_queued_data waiting ≡ false → state.outstanding.items ≡ [] → may_give waiting state ≡ false
may_give_none waiting state nothing empty =
    ap (λ (items : List Item). nat_lt 0 (marked_items items) || (has_queued_data waiting && can_send state)) empty ∙ ap (λ (b : Bool). b && can_send state) nothing

pub fills_none : (now : ℕ) (transfer : Transfer) (waiting : SendQueueState) (events : List (Event (List ℕ))) (packet : Building) → (has_queued_data waiting || nat_lt 0 (outstanding_count transfer.retransmission)) ≡ false
    → FillsDataPacket now transfer (packet_stage waiting events packet) transfer (packet_stage waiting events packet) false
fills_none now transfer waiting events packet idle =
    let both = none_waits (has_queued_data waiting) (nat_lt 0 (outstanding_count transfer.retransmission)) idle in
    let start : Stage = stage_of waiting transfer.retransmission [] (bytes_remaining packet) in
    record {
      sent = start;
      fills = subst (λ (b : Bool). FillsIfAllowed b now start start) (sym (may_give_none waiting transfer.retransmission both.0 (no_items transfer.retransmission.outstanding.items both.1))) (inl refl);
      idle = λ nothing none_out. refl;
      chunks = [];
      are = tt;
      fits = tt;
      adds = ap (λ (body : List ℕ). record packet { body = body }) (sym (append-nil packet.body));
      told = [];
      are_told = refl;
      tells = sym (append-nil events);
      answers = refl;
      queue = refl;
      is = refl;
    }

-- ---- else

positive : (n : ℕ) → 0 < n → not (n == 0) ≡ true
positive n some = grind (arith, nat_tests)

as_many : (outstanding : OutstandingState) (tsns : List ℕ) (chunks : List ChunkContent) → AreChunksOfTsns outstanding tsns (map unworked chunks) → not (length tsns == 0) ≡ has_chunks chunks
as_many outstanding [] [] are = refl
as_many outstanding [] (chunk ∷ chunks) are = absurd are
as_many outstanding (tsn ∷ tsns) [] are = absurd are
as_many outstanding (tsn ∷ tsns) (chunk ∷ chunks) are = positive (length (tsn ∷ tsns)) (omega arith)

some_waits : (a : Bool) (items : ℕ) → (a || nat_lt 0 items) ≡ true → a ≡ false → items ≡ 0 → ⊥
some_waits true items is none empty = absurd (cc)
some_waits false zero is none empty = absurd (cc)
some_waits false (suc items) is none empty = absurd (omega arith)

-- The timer is no reason.
untimed : (now room : ℕ) (queue : RetransmissionState) (timer : TimerModel) (waiting : SendQueueState) → Halts now room (record queue { timer = timer }) waiting → Halts now room queue waiting
untimed now room queue timer waiting (inl (stays, why)) = inl (record { place = stays.place; next = stays.next; stays = stays.stays }, why)
untimed now room queue timer waiting (inr anew) = inr anew

-- what was sent, once the timer runs
sent_packet : (now bytes : ℕ) (before after : RetransmissionState) (waiting left : SendQueueState) (events telling : List SocketEvent) (tsns : Vec ℕ Global)
    → SendsPacket now bytes (queue_stage before waiting events) (queue_stage after left telling) (Ok tsns) → FillsUp now bytes after left tsns.items → (0 < length tsns.items → FindsPlaces after.outstanding)
    → (room : ℕ) × Fills now (stage before waiting events [] bytes) (stage after left telling tsns.items room)
sent_packet now bytes before after waiting left events telling tsns sends up places =
    let sent : Stage = stage sends.sent left telling tsns.items sends.fills.room in
    let same : sent.queue.outstanding ≡ after.outstanding = ap (λ (q : RetransmissionState). q.outstanding) (sym sends.is) in
    let halts = halts_there now bytes (stage before waiting events [] bytes) sent after left refl refl sends.fills.fills same places up in (
      sends.fills.room,
      record {
        sent = sent;
        fills = sends.fills.fills;
        halts = untimed now sends.fills.room sends.sent _ left (rw sends.is at halts);
        is = ap (λ (q : RetransmissionState). stage q left telling tsns.items sends.fills.room) sends.is;
      },
    )

pub fills_some : (now bytes : ℕ) (old new : Transfer) (before after : RetransmissionState) (waiting shown left : SendQueueState) (events telling : List SocketEvent) (packet filled : Building) (tsns : Vec ℕ Global) (any : Bool)
    → before ≡ old.retransmission → waiting ≡ shown → bytes ≡ bytes_remaining packet → new ≡ record old { retransmission = after }
    → (has_queued_data shown || nat_lt 0 (outstanding_count old.retransmission)) ≡ true
    → SendsPacket now bytes (queue_stage before waiting events) (queue_stage after left telling) (Ok tsns) → FillsUp now bytes after left tsns.items → (0 < length tsns.items → FindsPlaces after.outstanding)
    → AddsChunks after.outstanding tsns.items packet filled → any ≡ not (length tsns.items == 0)
    → FillsDataPacket now old (packet_stage shown (contents events) packet) new (packet_stage left (contents telling) filled) any
fills_some now bytes old new before after waiting shown left events telling packet filled tsns any old_is shown_is bytes_is new_is some sends up places adds answer =
    let (room, fills) = sent_packet now bytes before after waiting left events telling tsns sends up places in
    let start : Stage = stage_of shown old.retransmission [] (bytes_remaining packet) in
    let begins : stage before waiting events [] bytes ≡ behind_events (contents events) start = rw (old_is, shown_is, bytes_is, append-nil (contents events)) refl in
    let end : Stage = stage after left telling tsns.items room in
    let (stripped, does, is) = filled_before (contents events) now start end (subst (λ (s : Stage). Fills now s end) begins fills) in
    let tells = tells_filled now start stripped does in
    record {
      sent = stripped;
      fills = fills_where (may_give shown old.retransmission) now start stripped does;
      idle = λ nothing none_out. absurd (some_waits (has_queued_data shown) (outstanding_count old.retransmission) some nothing none_out);
      chunks = adds.chunks;
      are = subst (λ (s : Stage). AreChunksOfTsns s.queue.outstanding s.tsns (map unworked adds.chunks)) is adds.are;
      fits = adds.fits;
      adds = adds.is;
      told = tells.told;
      are_told = sym tells.is;
      tells = ap (λ (s : Stage). s.told) is;
      answers = answer ∙ as_many after.outstanding tsns.items adds.chunks adds.are;
      queue = ap (λ (s : Stage). s.waiting) is;
      is = new_is ∙ ap (λ (s : Stage). record old { retransmission = s.queue }) is;
    }

-- ---- if an allocation fails

pub tells_filling : (now bytes : ℕ) (old : Transfer) (before after : RetransmissionState) (waiting shown left : SendQueueState) (events telling : List SocketEvent) (room : ℕ)
    → before ≡ old.retransmission → waiting ≡ shown → bytes ≡ room → StopsFilling now (stage before waiting events [] bytes) (stage after left telling [] bytes)
    → AddsFirstOfFilling now room old shown (contents events) (contents telling)
tells_filling now bytes old before after waiting shown left events telling room old_is shown_is bytes_is stops =
    let start : Stage = stage_of shown old.retransmission [] room in
    let end : Stage = stage after left telling [] bytes in
    let begins : stage before waiting events [] bytes ≡ behind_events (contents events) start = rw (old_is, shown_is, bytes_is, append-nil (contents events)) refl in
    let told = stops_filling (contents events) now start end (subst (λ (s : Stage). StopsFilling now s end) begins stops) in
    record {
      sent = told.filled.new;
      fills = fills_where (may_give shown old.retransmission) now start told.filled.new told.filled.fills;
      tells = record { front = told.first; rest = told.filled.rest; parts = told.filled.told; told = told.tells };
    }
