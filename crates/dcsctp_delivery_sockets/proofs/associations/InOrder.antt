-- What was read in one association, in the order in which it was queued.
use Rattle.std.proofs.Common.{◌≡◌, ◌≢◌, ℕ, zero, suc, ◌<◌, ◌≤◌, ◌^◌, ◌+◌, Some, List, [], ◌∷◌, length, true, false, refl, sym, ◌∙◌, ap, arith, subst, inl, inr}
use Rattle.std.specs.Prelude.{◌⊎◌, Bool, nat_le}
use Rattle.dcsctp_spec_lemmas.specs.types.declared.options.Options.{Options}
use Rattle.dcsctp_spec_lemmas.specs.types.queues.Messages.{MessageContent}
use Rattle.dcsctp_spec_lemmas.specs.spec.endpoint.Endpoint.{Endpoint}
use Rattle.dcsctp_spec_lemmas.specs.spec.Packet.{Emission}
use Rattle.dcsctp_spec_lemmas.specs.spec.association.Effect.{AssociationIdentity, Effect}
use Rattle.dcsctp_spec_lemmas.specs.spec.queues.Reassembly.{ReassemblyState}
use Rattle.dcsctp_spec_lemmas.specs.spec.queues.Transfer.{EndpointQueues}
use Rattle.dcsctp_delivery_directions.specs.sending.Places.{HasEntry, at_place}
use Rattle.dcsctp_delivery_directions.specs.sending.Log.{Message}
use Rattle.dcsctp_delivery_directions.specs.sending.ChunkCounts.{chunks_to}
use Rattle.dcsctp_delivery_directions.proofs.sending.Places.{decide, at_new, at_stays, at_cases, at_below}
use Rattle.dcsctp_delivery_directions.proofs.sending.HeldOn.{unlimited_on_at}
use Rattle.dcsctp_delivery_directions.specs.receiving.Ready.{WereQueued}
use Rattle.dcsctp_delivery_directions.proofs.directions.ChunkCounts.{few_for_chunks}
use Rattle.dcsctp_delivery_directions.proofs.directions.Directions.{directions_deliver}
use Rattle.dcsctp_delivery_directions.specs.directions.Directions.{PerformedReset, PreparedReset, Asking, Direction, assigned_count}
use Rattle.dcsctp_delivery_directions.specs.directions.Requests.{requests_to}
use Rattle.dcsctp_delivery_directions.proofs.directions.RequestCounts.{requests_are_sent}
use Rattle.dcsctp_delivery_directions.proofs.directions.Forwards.{unlimited_forward_nothing}
use Rattle.dcsctp_delivery_directions.specs.sending.Losing.{AreUnlimited, AreUnlimitedOn}
use Rattle.dcsctp_spec_lemmas.proofs.MarkedItemLemmas.{le_or_lt}
use Rattle.dcsctp_delivery_directions.specs.order.Delivered.{AreDeliveredInOrder, AreDeliveredWithoutGaps}
use Rattle.dcsctp_delivery_directions.specs.order.Queue.{IsMessageOn, IsOrderedOn, ComeInOrder, LeaveNoGap, LeaveNoGapBefore, Separates}
use Rattle.dcsctp_delivery_directions.specs.order.Streams.{AreDeliveredByStream, AreDeliveredOnStreams}
use Rattle.dcsctp_delivery_directions.specs.order.Complete.{HasNothingLeft, AreAllDelivered}
use Rattle.dcsctp_delivery_directions.proofs.order.PlainComplete.{plain_streams_arrive}
use Rattle.dcsctp_delivery_directions.proofs.order.Directions.{directions_deliver_in_order}
use Rattle.dcsctp_delivery_directions.proofs.order.PlainDirections.{plain_directions_deliver_in_order}
use Rattle.dcsctp_delivery_directions.proofs.order.StreamDirections.{streams_deliver_without_gaps, directions_deliver_without_gaps}
use Rattle.dcsctp_delivery_directions.proofs.order.FewDirections.{plain_few_deliver_in_order}
use Rattle.dcsctp_delivery_directions.specs.order.PlainDirections.{FewOnEachStream}
use Rattle.dcsctp_delivery_directions.specs.epochs.Reports.{IsReadOn, AreCutByCalls}
use Rattle.dcsctp_delivery_directions.proofs.epochs.PauseRuns.{directions_cut_by_calls}
use Rattle.dcsctp_delivery_directions.specs.epochs.Asked.{AreCutAsAsked}
use Rattle.dcsctp_delivery_directions.proofs.epochs.CutsAsked.{none_performed, directions_cut_as_asked}
use Rattle.dcsctp_delivery_sockets.proofs.associations.FewMarks.{few_marks}
use Rattle.dcsctp_delivery_directions.proofs.order.PlainFront.{plain_streams_deliver_without_gaps, plain_directions_deliver_without_gaps}
use Rattle.dcsctp_delivery_sockets.specs.associations.Ends.{ResetCalls, ReceivingEnd, direction_of_ends, Ends, sender_key, HadKind, IsOnlyOwn, NumbersFromZero, Awaits, chunks_before, IsCurrentEnd, Between, sending_side, receiving_side}
use Rattle.dcsctp_delivery_sockets.specs.associations.InOrder.{AreCutByUser, full_asks, InterleavesUnder, IsReliableKept, AreThrough}
use Rattle.dcsctp_delivery_sockets.specs.associations.Reads.{Reading, with_key}
use Rattle.dcsctp_delivery_sockets.proofs.associations.Delivers.{were_unmarked}
use Rattle.dcsctp_delivery_sockets.proofs.associations.Senders.{link_tag}
use Rattle.dcsctp_delivery_sockets.proofs.associations.Growing.{AllFound}

-- ---- what is marked comes in the same order

-- A message that was queued is marked at its place.
pub record MarkAt (marks : List Message) (place : ℕ) : Type 0 where
  pub mark : Message
  pub at : at_place place marks ≡ Some mark

mark_at : (marks : List Message) (place : ℕ) (places : List ℕ) (contents : List MessageContent) → WereQueued marks places contents → HasEntry place places → MarkAt marks place
mark_at marks place [] contents were has = absurd has
mark_at marks place (p ∷ places) [] were has = absurd were
mark_at marks place (p ∷ places) (content ∷ contents) were (inl is) = record { mark = were.0.message; at = subst (λ (k : ℕ). at_place k marks ≡ Some were.0.message) (sym is) were.0.at }
mark_at marks place (p ∷ places) (content ∷ contents) were (inr has) = mark_at marks place places contents were.1 has

same_message : {one two : Message} → Some one ≡ Some two → one ≡ two
same_message is = cc

is_ordered : (marks queued : List Message) (id place : ℕ) → AllFound marks queued → MarkAt marks place → IsOrderedOn queued id place → IsOrderedOn marks id place
is_ordered marks queued id place found m on =
    let f = found place m.mark m.at in
    let same : f.message ≡ on.message = same_message (sym f.at ∙ on.at) in
    record {
      message = m.mark;
      at = m.at;
      stream = f.is.stream ∙ ap (λ (x : Message). x.stream) same ∙ on.stream;
      ordered = f.is.unordered ∙ ap (λ (x : Message). x.is_unordered) same ∙ on.ordered;
    }

is_message : (marks queued : List Message) (id place : ℕ) → AllFound marks queued → MarkAt marks place → IsMessageOn queued id place → IsMessageOn marks id place
is_message marks queued id place found m on =
    let f = found place m.mark m.at in
    let same : f.message ≡ on.message = same_message (sym f.at ∙ on.at) in
    record { message = m.mark; at = m.at; stream = f.is.stream ∙ ap (λ (x : Message). x.stream) same ∙ on.stream }

order_unmarked : (marks queued : List Message) (id : ℕ) (places : List ℕ) (contents : List MessageContent) → AllFound marks queued → WereQueued marks places contents → ComeInOrder marks id places → ComeInOrder queued id places
order_unmarked marks queued id [] contents found were come = tt
order_unmarked marks queued id (place ∷ places) [] found were come = absurd were
order_unmarked marks queued id (place ∷ places) (content ∷ contents) found were come = (
  λ later has on on'. come.0 later has (is_ordered marks queued id place found (record { mark = were.0.message; at = were.0.at }) on)
      (is_ordered marks queued id later found (mark_at marks later places contents were.1 has) on'),
  order_unmarked marks queued id places contents found were.1 come.1,
)

abbrev in_order_unmarked : (marks queued : List Message) (contents : List MessageContent) → AllFound marks queued → AreDeliveredInOrder marks contents → AreDeliveredInOrder queued contents
in_order_unmarked marks queued contents found d =
    record {
      delivered = record { places = d.delivered.places; were_queued = were_unmarked marks queued d.delivered.places contents found d.delivered.were_queued; once = d.delivered.once };
      in_order = λ id. order_unmarked marks queued id d.delivered.places contents found d.delivered.were_queued (d.in_order id);
    }

-- Where a reset separates what was queued, it separates what is marked.
pub separate_unmarked : (marks queued : List Message) (id index bound : ℕ) (places : List ℕ) (contents : List MessageContent) → AllFound marks queued → WereQueued marks places contents → Separates marks id index bound places → Separates queued id index bound places
separate_unmarked marks queued id index bound [] contents found were apart = tt
separate_unmarked marks queued id index bound (place ∷ places) [] found were apart = absurd were
separate_unmarked marks queued id zero bound (place ∷ places) (content ∷ contents) found were apart = (
  λ on. apart.0 (is_message marks queued id place found (record { mark = were.0.message; at = were.0.at }) on),
  separate_unmarked marks queued id zero bound places contents found were.1 apart.1,
)
separate_unmarked marks queued id (suc index) bound (place ∷ places) (content ∷ contents) found were apart = (
  λ on. apart.0 (is_message marks queued id place found (record { mark = were.0.message; at = were.0.at }) on),
  separate_unmarked marks queued id index bound places contents found were.1 apart.1,
)

below_other : (place size : ℕ) → place < size + 1 → place ≢ size → place < size
below_other place size below ne = elim (le_or_lt size place) [ inl after ↦ absurd (ne (omega (arith, below, after))) | inr before ↦ before ]

is_empty : {A : Type 0} (l : List A) → length l ≤ 0 → l ≡ []
is_empty [] none = refl
is_empty (x ∷ l) none = absurd (omega (arith, none))

-- Each place below the length of a list has an item.
pub below_at : (place : ℕ) (marks : List Message) → place < length marks → MarkAt marks place
below_at place [] below = absurd (omega (arith, below))
below_at place (mark ∷ marks) below =
    elim (decide place (length marks)) [
      | inl last ↦ record { mark = mark; at = subst (λ (k : ℕ). at_place k (mark ∷ marks) ≡ Some mark) (sym last) (at_new mark marks) }
      | inr ne ↦
          let m = below_at place marks (below_other place (length marks) (omega (arith, below)) ne) in
          record { mark = m.mark; at = at_stays place mark m.mark marks m.at }
    ]

-- A message that was marked has limits where the other has.
is_spared : (marks queued : List Message) (id place : ℕ) (found : AllFound marks queued) (first : MarkAt marks place) (on : IsOrderedOn queued id place) → on.message.is_limited ≡ false → (is_ordered marks queued id place found first on).message.is_limited ≡ false
unfolding is_ordered
is_spared marks queued id place found first on spared =
    let f = found place first.mark first.at in
    let two : Some f.message ≡ Some on.message = sym f.at ∙ on.at in
    let same : f.message ≡ on.message = same_message two in
    f.is.limited ∙ ap (λ (m : Message). m.is_limited) same ∙ spared

-- Messages of one epoch that are read leave no gap, marked or not.
before_unmarked : (marks queued : List Message) (contents : List MessageContent) (places : List ℕ) (knows : Bool) (asks : ℕ → Bool) (id end : ℕ) → AllFound marks queued → WereQueued marks places contents → LeaveNoGapBefore knows asks marks id end places
    → LeaveNoGapBefore knows asks queued id end places
before_unmarked marks queued contents places knows asks id end found were gap earlier later has on on' spared before less one free =
    let m = mark_at marks later places contents were has in
    let first = below_at earlier marks (let below = at_below later m.mark marks m.at in omega (arith, before, below)) in
    gap earlier later has (is_ordered marks queued id later found m on) (is_ordered marks queued id earlier found first on') (is_spared marks queued id earlier found first on' spared) before less one
    (λ unknown place from to mine. (let f = found place mine.message mine.at in f.is.limited ∙ free unknown place from to (record { message = f.message; at = f.at; stream = sym f.is.stream ∙ mine.stream; ordered = sym f.is.unordered ∙ mine.ordered })))

-- So it is where it is less known what the sender began with.
cut_if : (whole all sized : Bool) (asks fulls : ℕ → ℕ → Bool) (performed : List PerformedReset) (queued : List Message) (contents : List MessageContent) → (whole ≡ true → all ≡ true) → AreCutAsAsked all sized asks fulls performed queued contents → AreCutAsAsked whole sized asks fulls performed queued contents
cut_if whole all sized asks fulls performed queued contents so d =
    record {
      ordered = d.ordered;
      cut = λ id reset has names. (let c = d.cut id reset has names in record { place = c.place; asked = c.asked; before = c.before; separates = c.separates; no_gap = λ is. c.no_gap (so is); all = λ is. c.all (so is) });
      no_gap = λ is. d.no_gap (so is);
    }

cut_unmarked : (whole sized : Bool) (asks fulls : ℕ → ℕ → Bool) (performed : List PerformedReset) (marks queued : List Message) (contents : List MessageContent) → AllFound marks queued → length marks ≤ length queued → AreCutAsAsked whole sized asks fulls performed marks contents → AreCutAsAsked whole sized asks fulls performed queued contents
cut_unmarked whole sized asks fulls performed marks queued contents found short d =
    record {
      ordered = in_order_unmarked marks queued contents found d.ordered;
      cut = λ id reset has names. (
          let c = d.cut id reset has names in
          record {
            place = c.place;
            asked = c.asked;
            separates = separate_unmarked marks queued id reset.index c.place d.ordered.delivered.places contents found d.ordered.delivered.were_queued c.separates;
            no_gap = λ is. before_unmarked marks queued contents d.ordered.delivered.places sized (asks id) id c.place found d.ordered.delivered.were_queued (c.no_gap is);
            before = (let before = c.before in omega (arith, before, short));
            all = λ is full low place on free below one. (
                let first = below_at place marks (let before = c.before in omega (arith, below, before)) in
                c.all is full low place (is_ordered marks queued id place found first on) (is_spared marks queued id place found first on free) below one
                );
          }
          );
      no_gap = λ is id earlier later has on on' spared before less one free. (
          let m = mark_at marks later d.ordered.delivered.places contents d.ordered.delivered.were_queued has in
          before_unmarked marks queued contents d.ordered.delivered.places sized (asks id) id (length marks) found d.ordered.delivered.were_queued (d.no_gap is id) earlier later has on on' spared before (at_below later m.mark marks m.at) one
          (λ unknown place from to. free unknown place from (omega (arith, to, short)))
          );
    }

-- Messages that were marked have no limits either.
unlimited_at : (queued : List Message) (place : ℕ) (message : Message) → AreUnlimited queued → at_place place queued ≡ Some message → message.is_limited ≡ false
unlimited_at [] place message are at = absurd (cc)
unlimited_at (m ∷ queued) place message are at =
    elim (at_cases place m message queued at) [
      | inl e ↦ subst (λ (x : Message). x.is_limited ≡ false) e.1 are.0
      | inr before ↦ unlimited_at queued place message are.1 before
    ]

pub unlimited_of : (marks : List Message) → ((place : ℕ) (mark : Message) → at_place place marks ≡ Some mark → mark.is_limited ≡ false) → AreUnlimited marks
unlimited_of [] each = tt
unlimited_of (mark ∷ marks) each = (each (length marks) mark (at_new mark marks), unlimited_of marks (λ place m at. each place m (at_stays place mark m marks at)))

unlimited_marks : (marks queued : List Message) → AllFound marks queued → AreUnlimited queued → AreUnlimited marks
unlimited_marks marks queued found are =
    unlimited_of marks (λ place mark at. (let f = found place mark at in f.is.limited ∙ unlimited_at queued place f.message are f.at))

pub unlimited_on_of : (id : ℕ) (marks : List Message) → ((place : ℕ) (mark : Message) → at_place place marks ≡ Some mark → mark.stream ≡ id → mark.is_limited ≡ false) → AreUnlimitedOn id marks
unlimited_on_of id [] each = tt
unlimited_on_of id (mark ∷ marks) each = (each (length marks) mark (at_new mark marks), unlimited_on_of id marks (λ place m at. each place m (at_stays place mark m marks at)))

unlimited_on_marks : (id : ℕ) (marks queued : List Message) → AllFound marks queued → AreUnlimitedOn id queued → AreUnlimitedOn id marks
unlimited_on_marks id marks queued found are =
    unlimited_on_of id marks (λ place mark at on. (let f = found place mark at in f.is.limited ∙ unlimited_on_at id queued place f.message are f.at (sym f.is.stream ∙ on)))

-- What is read leaves no gap, marked or not.
no_gap_unmarked : (marks queued : List Message) (contents : List MessageContent) (places : List ℕ) (id : ℕ) → AllFound marks queued → WereQueued marks places contents → LeaveNoGap marks id places → LeaveNoGap queued id places
no_gap_unmarked marks queued contents places id found were gap earlier later has on on' before =
    let m = mark_at marks later places contents were has in
    let first = below_at earlier marks (let below = at_below later m.mark marks m.at in omega (arith, before, below)) in
    gap earlier later has (is_ordered marks queued id later found m on) (is_ordered marks queued id earlier found first on') before

front_unmarked : (marks queued : List Message) (contents : List MessageContent) → AllFound marks queued → AreDeliveredWithoutGaps marks contents → AreDeliveredWithoutGaps queued contents
front_unmarked marks queued contents found d =
    record {
      ordered = in_order_unmarked marks queued contents found d.ordered;
      no_gap = λ id. no_gap_unmarked marks queued contents d.ordered.delivered.places id found d.ordered.delivered.were_queued (d.no_gap id);
    }

-- So does what is read of a stream.
by_stream_unmarked : (keeps never_resets : ℕ → Bool) (marks queued : List Message) (contents : List MessageContent) → AllFound marks queued → ((id : ℕ) → never_resets id ≡ true → keeps id ≡ true)
    → AreDeliveredByStream keeps marks contents → AreDeliveredByStream never_resets queued contents
by_stream_unmarked keeps never_resets marks queued contents found kept d =
    record {
      ordered = in_order_unmarked marks queued contents found d.ordered;
      no_gap = λ id never are.
          no_gap_unmarked marks queued contents d.ordered.delivered.places id found d.ordered.delivered.were_queued (d.no_gap id (kept id never) (unlimited_on_marks id marks queued found are));
    }

abbrev on_unmarked : (keeps never_resets : ℕ → Bool) (marks queued : List Message) (contents : List MessageContent) → AllFound marks queued → ((id : ℕ) → never_resets id ≡ true → keeps id ≡ true)
    → AreDeliveredOnStreams keeps marks contents → AreDeliveredOnStreams never_resets queued contents
on_unmarked keeps never_resets marks queued contents found kept d =
    record {
      delivered = record { places = d.delivered.places; were_queued = were_unmarked marks queued d.delivered.places contents found d.delivered.were_queued; once = d.delivered.once };
      in_order = λ id never. order_unmarked marks queued id d.delivered.places contents found d.delivered.were_queued (d.in_order id (kept id never));
      no_gap = λ id never. no_gap_unmarked marks queued contents d.delivered.places id found d.delivered.were_queued (d.no_gap id (kept id never));
    }

all_unmarked : (these : ℕ → Bool) (marks queued : List Message) (contents : List MessageContent) → AllFound marks queued → length marks ≡ length queued → AreAllDelivered these marks contents → AreAllDelivered these queued contents
all_unmarked these marks queued contents found long d =
    record {
      on = on_unmarked these these marks queued contents found (λ id mine. mine) d.on;
      all = λ id mine place on.
          d.all id mine place (is_ordered marks queued id place found (below_at place marks (let below = at_below place on.message queued on.at in omega (arith, below, long))) on);
    }

-- ---- one association

pub nothing_in_order : (queued : List Message) (contents : List MessageContent) → contents ≡ [] → AreDeliveredInOrder queued contents
nothing_in_order queued contents none = subst (AreDeliveredInOrder queued) (sym none) (record { delivered = record { places = []; were_queued = tt; once = tt }; in_order = λ id. tt })

pub nothing_before : (queued : List Message) (contents : List MessageContent) → contents ≡ [] → AreDeliveredWithoutGaps queued contents
nothing_before queued contents none =
    subst (AreDeliveredWithoutGaps queued) (sym none)
    (record { ordered = record { delivered = record { places = []; were_queued = tt; once = tt }; in_order = λ id. tt }; no_gap = λ id earlier later has on on' before. absurd has })

pub nothing_by_stream : (never_resets : ℕ → Bool) (queued : List Message) (contents : List MessageContent) → contents ≡ [] → AreDeliveredByStream never_resets queued contents
nothing_by_stream never_resets queued contents none =
    let d = nothing_before queued contents none in record { ordered = d.ordered; no_gap = λ id never are. d.no_gap id }

pub nothing_on : (never_resets : ℕ → Bool) (queued : List Message) (contents : List MessageContent) → contents ≡ [] → AreDeliveredOnStreams never_resets queued contents
nothing_on never_resets queued contents none =
    let d = nothing_before queued contents none in record { delivered = d.ordered.delivered; in_order = λ id never. d.ordered.in_order id; no_gap = λ id never. d.no_gap id }

-- Nothing is read where nothing was queued.
pub read_none : (queued : List Message) → queued ≡ [] → (contents : List MessageContent) (places : List ℕ) → WereQueued queued places contents → contents ≡ []
read_none queued none [] places were = refl
read_none queued none (content ∷ contents) [] were = absurd were
read_none queued none (content ∷ contents) (place ∷ places) were = (let nowhere : at_place place [] ≡ Some were.0.message = subst (λ (l : List Message). at_place place l ≡ Some were.0.message) none were.0.at in absurd (cc))

module _ (options : Options) (ends : Ends) (e : Endpoint) (queued : List Message) (past : List Effect) (packets : List Emission) (other : Endpoint) (their_past : List Effect) (reading : Reading)
    (h : Between options ends (sending_side e queued past packets) (receiving_side other their_past reading)) (many : length queued < 2 ^ 64) (few : (tag : ℕ) → chunks_before (ends.former tag) packets + chunks_to (ends.latest tag) packets < 2 ^ 30) where
  -- fewer TSNs were assigned under a tag than can be distinguished
  module _ (tag : ℕ) where
    pub short : length (ends.sends tag).queued < 2 ^ 64
    short = (let fewer = h.sender.short tag in omega (arith, fewer, many))

    pub little : assigned_count (direction_of_ends (ends.sends tag) (ends.gets tag)) < 2 ^ 31
    little =
        let sent = h.sender.few tag in
        let went = few tag in
        let all = few_for_chunks options (ends.firsts tag) options.max_receiver_window_buffer_size (direction_of_ends (ends.sends tag) (ends.gets tag)) (h.runs tag) (h.small tag) short in
        omega (arith, sent, went, all)

  -- what the ends of this tag have
  module _ (tag : ℕ) where
    abbrev own : Direction
    own = direction_of_ends (ends.sends tag) (ends.gets tag)

    -- Nothing is read under the tag 0.
    pub none_at_zero : tag ≡ 0 → with_key tag reading.reads ≡ []
    none_at_zero nought = elim (h.receiver.begun tag) [ inl new ↦ h.receiver.were_read tag ∙ ap (λ (g : ReceivingEnd). g.read) new | inr had ↦ absurd (had.some nought) ]

    -- Nothing is read where the sender hasn't begun.
    pub none_awaited : Awaits (ends.sends tag) → with_key tag reading.reads ≡ []
    none_awaited waits =
        let d = directions_deliver options (ends.firsts tag) options.max_receiver_window_buffer_size own (h.runs tag) (h.small tag) (little tag) (short tag) in
        h.receiver.were_read tag ∙ read_none (ends.sends tag).queued waits.queued (ends.gets tag).read d.places d.were_queued

    -- No request was begun where none was sent.
    unasked : requests_to (ends.latest tag) packets ≡ 0 → (ends.sends tag).asking.requests ≡ []
    unasked none =
        let sent = requests_are_sent options (ends.firsts tag) options.max_receiver_window_buffer_size own (h.runs tag) in
        let few' = h.sender.few_requests tag in
        is_empty (ends.sends tag).asking.requests (omega (arith, sent, few', none))

    in_order_so : AreDeliveredInOrder (ends.sends tag).queued (ends.gets tag).read → AreDeliveredInOrder queued (with_key tag reading.reads)
    in_order_so all = in_order_unmarked (ends.sends tag).queued queued (with_key tag reading.reads) (h.sender.marks tag) (subst (AreDeliveredInOrder (ends.sends tag).queued) (sym (h.receiver.were_read tag)) all)

    front_so : AreDeliveredWithoutGaps (ends.sends tag).queued (ends.gets tag).read → AreDeliveredWithoutGaps queued (with_key tag reading.reads)
    front_so all = front_unmarked (ends.sends tag).queued queued (with_key tag reading.reads) (h.sender.marks tag) (subst (AreDeliveredWithoutGaps (ends.sends tag).queued) (sym (h.receiver.were_read tag)) all)

    -- Either nothing was read under the tag, or the sender had an association of it.
    by_begun : {P : Type 0} → (with_key tag reading.reads ≡ [] → P) → (tag ≢ 0 → HadKind past tag (ends.sends tag).queues.queue.is_interleaved → P) → P
    by_begun none had = elim (decide tag 0) [ inl nought ↦ none (none_at_zero nought) | inr some ↦ elim (h.sender.kinds tag some) [ inl waits ↦ none (none_awaited waits) | inr kind ↦ had some kind ] ]

  pub ends_deliver_in_order : (tag : ℕ) → NumbersFromZero e past tag → InterleavesUnder past tag → AreDeliveredInOrder queued (with_key tag reading.reads)
  ends_deliver_in_order tag anew interleaves =
      by_begun tag (nothing_in_order queued (with_key tag reading.reads))
      (λ some had. in_order_so tag
      (directions_deliver_in_order options (ends.firsts tag) options.max_receiver_window_buffer_size (own tag) (h.runs tag) (h.small tag) (little tag) (short tag)
      (sym (had.kind_is interleaves.0 interleaves.1 interleaves.2) ∙ interleaves.3) (h.numbered tag some anew)))

  -- Under the tag 0 no reset is performed, and none where the sender hasn't begun.
  pub nothing_performed : (tag : ℕ) → (tag ≡ 0) ⊎ Awaits (ends.sends tag) → (ends.gets tag).performed ≡ []
  nothing_performed tag (inl nought) = elim (h.receiver.begun tag) [ inl new ↦ ap (λ (g : ReceivingEnd). g.performed) new | inr had ↦ absurd (had.some nought) ]
  nothing_performed tag (inr waits) = none_performed options (ends.firsts tag) options.max_receiver_window_buffer_size (own tag) (h.runs tag) (ap (λ (a : Asking). a.requests) waits.asking)

  -- when nothing waits as a reset is asked for
  abbrev full_calls : ℕ → ℕ → Bool
  full_calls = full_asks ends.calls.empties options.max_receiver_window_buffer_size

  -- is the receive window of 2^63 bytes or less?
  abbrev room_known : Bool
  room_known = nat_le options.max_receiver_window_buffer_size (2 ^ 63)

  -- The resets of this tag are cuts, without gaps if that is known of its sender.
  cut_so : (whole : Bool) (tag : ℕ) → (tag ≢ 0 → whole ≡ true → (ends.sends tag).beginning.has_all ≡ true) → NumbersFromZero e past tag → InterleavesUnder past tag
      → AreCutAsAsked whole room_known ends.calls.asks full_calls (ends.gets tag).performed queued (with_key tag reading.reads)
  cut_so whole tag all anew interleaves =
      elim (decide tag 0) [
        | inl nought ↦ uncut (none_at_zero tag nought) (nothing_performed tag (inl nought))
        | inr some ↦ elim (h.sender.kinds tag some) [
          | inl waits ↦ uncut (none_awaited tag waits) (nothing_performed tag (inr waits))
          | inr had ↦
              cut_unmarked whole room_known ends.calls.asks full_calls (ends.gets tag).performed (ends.sends tag).queued queued (with_key tag reading.reads) (h.sender.marks tag) (h.sender.short tag)
              (cut_if whole (ends.sends tag).beginning.has_all room_known ends.calls.asks full_calls (ends.gets tag).performed (ends.sends tag).queued (with_key tag reading.reads) (all some)
              (subst (AreCutAsAsked (ends.sends tag).beginning.has_all room_known ends.calls.asks full_calls (ends.gets tag).performed (ends.sends tag).queued) (sym (h.receiver.were_read tag))
              (subst (λ (asks : ℕ → ℕ → Bool). AreCutAsAsked (ends.sends tag).beginning.has_all room_known asks full_calls (ends.gets tag).performed (ends.sends tag).queued (ends.gets tag).read) (h.dropping tag).asks
              (subst (λ (empties : ℕ → ℕ → Bool). AreCutAsAsked (ends.sends tag).beginning.has_all room_known (ends.sends tag).beginning.asks (full_asks empties options.max_receiver_window_buffer_size) (ends.gets tag).performed (ends.sends tag).queued (ends.gets tag).read) (h.dropping tag).empties
              (directions_cut_as_asked options (ends.firsts tag) options.max_receiver_window_buffer_size (own tag) (h.runs tag) (h.small tag) (little tag) (short tag)
              (sym (had.kind_is interleaves.0 interleaves.1 interleaves.2) ∙ interleaves.3) (h.numbered tag some anew))))))
        ]
      ]
    where
      no_place : (places : List ℕ) (contents : List MessageContent) → contents ≡ [] → WereQueued queued places contents → (place : ℕ) → HasEntry place places → ⊥
      no_place [] contents none were place has = has
      no_place (p ∷ places) [] none were place has = were
      no_place (p ∷ places) (c ∷ contents) none were place has = absurd (cc)

      uncut : with_key tag reading.reads ≡ [] → (ends.gets tag).performed ≡ [] → AreCutAsAsked whole room_known ends.calls.asks full_calls (ends.gets tag).performed queued (with_key tag reading.reads)
      uncut none none' =
          let ordered : AreDeliveredInOrder queued (with_key tag reading.reads) = nothing_in_order queued (with_key tag reading.reads) none in
          record {
            ordered = ordered;
            cut = λ id reset has. absurd (subst (HasEntry reset) none' has);
            no_gap = λ is id earlier later has. absurd (no_place ordered.delivered.places (with_key tag reading.reads) none ordered.delivered.were_queued later has);
          }

  pub ends_cut_as_asked : (tag : ℕ) → NumbersFromZero e past tag → InterleavesUnder past tag → AreCutAsAsked false room_known ends.calls.asks full_calls (ends.gets tag).performed queued (with_key tag reading.reads)
  ends_cut_as_asked tag = cut_so false tag (λ some is. absurd (cc))

  -- With the calls of the user, of the only tag.
  module _ (tag : ℕ) (only : IsOnlyOwn past tag) (interleaves : InterleavesUnder past tag) where
    -- what is known of the sender
    abbrev calls_with : (ℕ → ℕ → Bool) → (ℕ → ℕ → Bool) → List PreparedReset → ResetCalls
    calls_with asks empties made = record { never = ends.calls.never; asks = asks; empties = empties; made = made; in_turn = ends.calls.in_turn }

    abbrev ByUser : ResetCalls → Type 0
    ByUser calls = AreCutByUser calls options.max_receiver_window_buffer_size (ends.gets tag).performed (ends.sends tag).queued (with_key tag reading.reads)

    own_cut : AreCutByCalls options.max_receiver_window_buffer_size (record (own tag) { read = with_key tag reading.reads }) → (ends.sends tag).beginning.has_all ≡ true → ByUser (calls_with (ends.sends tag).beginning.asks (ends.sends tag).beginning.empties (ends.sends tag).prepared)
    unfolding cut_if
    own_cut c all =
        record {
          cut = cut_if true (ends.sends tag).beginning.has_all room_known (ends.sends tag).beginning.asks (full_asks (ends.sends tag).beginning.empties options.max_receiver_window_buffer_size) (ends.gets tag).performed (ends.sends tag).queued (with_key tag reading.reads) (λ is. all) c.cut;
          between = c.between;
        }

    made_so : tag ≢ 0 → ByUser (calls_with ends.calls.asks ends.calls.empties (ends.sends tag).prepared) → AreCutByUser ends.calls options.max_receiver_window_buffer_size (ends.gets tag).performed queued (with_key tag reading.reads)
    unfolding cut_unmarked
    made_so some c =
        record {
          cut = cut_unmarked true room_known ends.calls.asks full_calls (ends.gets tag).performed (ends.sends tag).queued queued (with_key tag reading.reads) (h.sender.marks tag) (h.sender.short tag) c.cut;
          between = λ id earlier later count was empties one two from to. (
              let places : List ℕ = c.cut.ordered.delivered.places in
              let b = c.between id earlier later count (record { call = was.call; has = h.made tag some only was.call was.has; named = was.named; count_is = was.count_is }) empties (read_mark id places earlier one c.cut.ordered.delivered.were_queued)
              (read_mark id places later two c.cut.ordered.delivered.were_queued) from to in
              record {
                reset = b.reset;
                has = b.has;
                names = b.names;
                place = b.place;
                asked = b.asked;
                from = b.from;
                to = b.to;
                separates = separate_unmarked (ends.sends tag).queued queued id b.reset.index b.place places (with_key tag reading.reads) (h.sender.marks tag) c.cut.ordered.delivered.were_queued b.separates;
              }
              );
        }
      where
        read_mark : (id : ℕ) (places : List ℕ) (place : ℕ) → IsReadOn queued id places place → WereQueued (ends.sends tag).queued places (with_key tag reading.reads) → IsReadOn (ends.sends tag).queued id places place
        read_mark id places place r were =
            record { on = is_message (ends.sends tag).queued queued id place (h.sender.marks tag) (mark_at (ends.sends tag).queued place places (with_key tag reading.reads) were r.has) r.on; has = r.has }

    nothing_read_then : with_key tag reading.reads ≡ [] → (ends.gets tag).performed ≡ [] → AreCutByUser ends.calls options.max_receiver_window_buffer_size (ends.gets tag).performed queued (with_key tag reading.reads)
    nothing_read_then none none' =
        let ordered : AreDeliveredInOrder queued (with_key tag reading.reads) = nothing_in_order queued (with_key tag reading.reads) none in
        record {
          cut = record {
            ordered = ordered;
            cut = λ id reset has. absurd (subst (HasEntry reset) none' has);
            no_gap = λ is id earlier later has. absurd (no_place ordered.delivered.places (with_key tag reading.reads) none ordered.delivered.were_queued later has);
          };
          between = λ id earlier later count was empties one. absurd (no_place ordered.delivered.places (with_key tag reading.reads) none ordered.delivered.were_queued earlier one.has);
        }
      where
        no_place : (places : List ℕ) (contents : List MessageContent) → contents ≡ [] → WereQueued queued places contents → (place : ℕ) → HasEntry place places → ⊥
        no_place [] contents none were place has = has
        no_place (p ∷ places) [] none were place has = were
        no_place (p ∷ places) (c ∷ contents) none were place has = absurd (cc)

    by_user : AreCutByUser ends.calls options.max_receiver_window_buffer_size (ends.gets tag).performed queued (with_key tag reading.reads)
    by_user =
        elim (decide tag 0) [
          | inl nought ↦ nothing_read_then (none_at_zero tag nought) (nothing_performed tag (inl nought))
          | inr some ↦ elim (h.sender.kinds tag some) [
            | inl waits ↦ nothing_read_then (none_awaited tag waits) (nothing_performed tag (inr waits))
            | inr had ↦
                made_so some
                (subst (λ (asks : ℕ → ℕ → Bool). ByUser (calls_with asks ends.calls.empties (ends.sends tag).prepared)) (h.dropping tag).asks
                (subst (λ (empties : ℕ → ℕ → Bool). ByUser (calls_with (ends.sends tag).beginning.asks empties (ends.sends tag).prepared)) (h.dropping tag).empties
                (own_cut (subst (λ (l : List MessageContent). AreCutByCalls options.max_receiver_window_buffer_size (record (own tag) { read = l })) (sym (h.receiver.were_read tag))
                (directions_cut_by_calls options (ends.firsts tag) options.max_receiver_window_buffer_size (own tag) (h.runs tag) (h.small tag) (little tag) (short tag)
                (sym (had.kind_is interleaves.0 interleaves.1 interleaves.2) ∙ interleaves.3) (h.numbered tag some (inr only)))) (h.kept tag some only).whole)))
          ]
        ]

  pub ends_cut_without_gaps : (tag : ℕ) → IsOnlyOwn past tag → InterleavesUnder past tag → AreCutByUser ends.calls options.max_receiver_window_buffer_size (ends.gets tag).performed queued (with_key tag reading.reads)
  ends_cut_without_gaps tag only interleaves = by_user tag only interleaves

  pub ends_deliver_by_stream : (tag : ℕ) → IsOnlyOwn past tag → InterleavesUnder past tag → AreDeliveredByStream ends.calls.never queued (with_key tag reading.reads)
  ends_deliver_by_stream tag only interleaves =
      by_begun tag (nothing_by_stream ends.calls.never queued (with_key tag reading.reads))
      (λ some had. by_stream_unmarked (ends.sends tag).beginning.keeps ends.calls.never (ends.sends tag).queued queued (with_key tag reading.reads) (h.sender.marks tag) (h.kept tag some only).keeps
      (subst (AreDeliveredByStream (ends.sends tag).beginning.keeps (ends.sends tag).queued) (sym (h.receiver.were_read tag))
      (streams_deliver_without_gaps options (ends.firsts tag) options.max_receiver_window_buffer_size (own tag) (h.runs tag) (h.small tag) (little tag) (short tag)
      (sym (had.kind_is interleaves.0 interleaves.1 interleaves.2) ∙ interleaves.3) (h.numbered tag some (inr only)))))

  module _ (window : options.max_receiver_window_buffer_size < 2 ^ 32) where
    room : options.max_receiver_window_buffer_size ≤ 2 ^ 63
    room = omega (arith, window)

    unlimited : AreUnlimited queued → (tag : ℕ) → AreUnlimited (ends.sends tag).queued
    unlimited are tag = unlimited_marks (ends.sends tag).queued queued (h.sender.marks tag) are

    -- Stream sequence numbers are read right, since none is skipped, or there are few.
    own_data : (tag : ℕ) (kind : Bool) → (ends.sends tag).queues.queue.is_interleaved ≡ kind → (ends.sends tag).beginning.from_zero ≡ true → (ends.sends tag).asking.requests ≡ [] → AreUnlimited queued ⊎ FewOnEachStream queued
        → AreDeliveredInOrder (ends.sends tag).queued (ends.gets tag).read
    own_data tag true is from none which = directions_deliver_in_order options (ends.firsts tag) options.max_receiver_window_buffer_size (own tag) (h.runs tag) (h.small tag) (little tag) (short tag) is from
    own_data tag false is from none (inl are) =
        plain_directions_deliver_in_order options (ends.firsts tag) options.max_receiver_window_buffer_size (own tag) (h.runs tag) (h.small tag) (little tag) (short tag) room is from none
        (unlimited_forward_nothing options (ends.firsts tag) options.max_receiver_window_buffer_size (own tag) (h.runs tag) (h.small tag) (short tag) (unlimited are tag))
    own_data tag false is from none (inr few) =
        plain_few_deliver_in_order options (ends.firsts tag) options.max_receiver_window_buffer_size (own tag) (h.runs tag) (h.small tag) (little tag) (short tag) is from none
        (few_marks queued (ends.sends tag).queued (h.sender.short tag) (h.sender.marks tag) few)

    pub ends_deliver_data_in_order : AreUnlimited queued ⊎ FewOnEachStream queued → (tag : ℕ) → NumbersFromZero e past tag → requests_to (ends.latest tag) packets ≡ 0 → AreDeliveredInOrder queued (with_key tag reading.reads)
    ends_deliver_data_in_order which tag anew none =
        by_begun tag (nothing_in_order queued (with_key tag reading.reads))
        (λ some had. in_order_so tag (own_data tag (ends.sends tag).queues.queue.is_interleaved refl (h.numbered tag some anew) (unasked tag none) which))

    -- Either way of numbering leaves no gap on a stream that is kept and has no limits.
    module _ (these : ℕ → Bool) (reliable : (id : ℕ) → these id ≡ true → IsReliableKept ends.calls.never queued id) where
      own_on : (tag : ℕ) → tag ≢ 0 → IsOnlyOwn past tag → (kind : Bool) → (ends.sends tag).queues.queue.is_interleaved ≡ kind → AreDeliveredOnStreams these (ends.sends tag).queued (ends.gets tag).read
      own_on tag some only true is =
          let d = streams_deliver_without_gaps options (ends.firsts tag) options.max_receiver_window_buffer_size (own tag) (h.runs tag) (h.small tag) (little tag) (short tag) is (h.numbered tag some (inr only)) in
          record {
            delivered = d.ordered.delivered;
            in_order = λ id mine. d.ordered.in_order id;
            no_gap = λ id mine. d.no_gap id ((h.kept tag some only).keeps id (reliable id mine).never) (unlimited_on_marks id (ends.sends tag).queued queued (h.sender.marks tag) (reliable id mine).unlimited);
          }
      own_on tag some only false is =
          plain_streams_deliver_without_gaps these options (ends.firsts tag) options.max_receiver_window_buffer_size (own tag) (h.runs tag) (h.small tag) (little tag) (short tag) room is (h.numbered tag some (inr only))
          (λ id mine. record { keeps = (h.kept tag some only).keeps id (reliable id mine).never; unlimited = unlimited_on_marks id (ends.sends tag).queued queued (h.sender.marks tag) (reliable id mine).unlimited })

      pub ends_deliver_on_streams : (tag : ℕ) → IsOnlyOwn past tag → AreDeliveredOnStreams these queued (with_key tag reading.reads)
      ends_deliver_on_streams tag only =
          by_begun tag (nothing_on these queued (with_key tag reading.reads))
          (λ some had. on_unmarked these these (ends.sends tag).queued queued (with_key tag reading.reads) (h.sender.marks tag) (λ id mine. mine)
          (subst (AreDeliveredOnStreams these (ends.sends tag).queued) (sym (h.receiver.were_read tag)) (own_on tag some only (ends.sends tag).queues.queue.is_interleaved refl)))

      -- All came where nothing is left.
      pub ends_arrive : (through : AreThrough e other) → IsOnlyOwn past through.link.my.tag → AreAllDelivered these queued (with_key through.link.my.tag reading.reads)
      ends_arrive through only = go (h.receiver.current through.transfer through.there)
        where
          key_is : sender_key e.core ≡ through.link.my.tag
          key_is = link_tag e.core through.link through.linked

          queues_are : (ends.sends through.link.my.tag).queues ≡ e.queues
          queues_are = subst (λ (k : ℕ). (ends.sends k).queues ≡ e.queues) key_is h.sender.queues_are

          long : length (ends.sends through.link.my.tag).queued ≡ length queued
          long = subst (λ (k : ℕ). length (ends.sends k).queued ≡ length queued) key_is h.sender.long

          go : IsCurrentEnd ends other their_past through.transfer → AreAllDelivered these queued (with_key through.link.my.tag reading.reads)
          go c =
              let both : Some c.link ≡ Some through.theirs = sym c.linked ∙ through.theirs_linked in
              let same : c.link ≡ through.theirs = cc in
              let from : c.link.peer.tag ≡ through.link.my.tag = ap (λ (l : AssociationIdentity). l.peer.tag) same ∙ through.one in
              let some : through.link.my.tag ≢ 0 = λ zero. c.had.some (from ∙ zero) in
              let had : HadKind past through.link.my.tag e.queues.queue.is_interleaved = subst (λ (k : ℕ). HadKind past k e.queues.queue.is_interleaved) key_is (h.sender.kind (λ zero. some (sym key_is ∙ zero))) in
              let kind : (ends.sends through.link.my.tag).queues.queue.is_interleaved ≡ false =
              ap (λ (b : EndpointQueues). b.queue.is_interleaved) queues_are ∙ sym (had.kind_is through.link (h.mine through.link through.linked) refl) ∙ through.plain in
              let ready : (ends.gets through.link.my.tag).reassembly.incoming.ready ≡ [] =
              ap (λ (k : ℕ). (ends.gets k).reassembly.incoming.ready) (sym from) ∙ ap (λ (r : ReassemblyState). r.incoming.ready) c.reassembly ∙ through.none_ready in
              all_unmarked these (ends.sends through.link.my.tag).queued queued (with_key through.link.my.tag reading.reads) (h.sender.marks through.link.my.tag) long
              (subst (AreAllDelivered these (ends.sends through.link.my.tag).queued) (sym (h.receiver.were_read through.link.my.tag))
              (plain_streams_arrive these options (ends.firsts through.link.my.tag) options.max_receiver_window_buffer_size (own through.link.my.tag) (h.runs through.link.my.tag) (h.small through.link.my.tag)
              (little through.link.my.tag) (short through.link.my.tag) room kind (h.numbered through.link.my.tag some (inr only))
              (λ id mine. record {
                keeps = (h.kept through.link.my.tag some only).keeps id (reliable id mine).never;
                unlimited = unlimited_on_marks id (ends.sends through.link.my.tag).queued queued (h.sender.marks through.link.my.tag) (reliable id mine).unlimited;
              })
              (subst HasNothingLeft (sym queues_are) through.left) ready))

    -- Either way of numbering leaves no gap.
    own_front : AreUnlimited queued → (tag : ℕ) → tag ≢ 0 → ((id : ℕ) → ends.calls.never id ≡ true) → IsOnlyOwn past tag → (kind : Bool) → (ends.sends tag).queues.queue.is_interleaved ≡ kind
        → AreDeliveredWithoutGaps (ends.sends tag).queued (ends.gets tag).read
    own_front are tag some never only true is =
        directions_deliver_without_gaps options (ends.firsts tag) options.max_receiver_window_buffer_size (own tag) (h.runs tag) (h.small tag) (little tag) (short tag) is
        (h.numbered tag some (inr only)) (λ id. (h.kept tag some only).keeps id (never id)) (unlimited are tag)
    own_front are tag some never only false is =
        plain_directions_deliver_without_gaps options (ends.firsts tag) options.max_receiver_window_buffer_size (own tag) (h.runs tag) (h.small tag) (little tag) (short tag) room is
        (h.numbered tag some (inr only)) (λ id. (h.kept tag some only).keeps id (never id)) (unlimited are tag)

    pub ends_deliver_without_gaps : AreUnlimited queued → ((id : ℕ) → ends.calls.never id ≡ true) → (tag : ℕ) → IsOnlyOwn past tag → AreDeliveredWithoutGaps queued (with_key tag reading.reads)
    ends_deliver_without_gaps are never tag only =
        by_begun tag (nothing_before queued (with_key tag reading.reads))
        (λ some had. front_so tag (own_front are tag some never only (ends.sends tag).queues.queue.is_interleaved refl))
