-- Each reset that a user is told of splits what it reads, where the other user asked for it.
use Rattle.std.proofs.Common.{◌≡◌, ◌⊎◌, ℕ, zero, suc, Bool, true, false, ◌<◌, ◌≤◌, ◌+◌, ◌^◌, List, [], ◌∷◌, ◌++◌, length, refl, sym, ◌∙◌, ap, subst, inl, inr, take, nat_le, arith, ◌&&◌}
use Rattle.dcsctp_spec_lemmas.specs.types.declared.options.Options.{Options}
use Rattle.dcsctp_spec_lemmas.specs.types.queues.Messages.{MessageContent}
use Rattle.dcsctp_spec_lemmas.specs.spec.endpoint.CallTurns.{Transition}
use Rattle.dcsctp_spec_lemmas.specs.spec.endpoint.Endpoint.{fresh_endpoint}
use Rattle.dcsctp_spec_lemmas.specs.spec.endpoint.MessageOutcomes.{Sending}
use Rattle.dcsctp_spec_runs.specs.Sockets.{endpoint_after}
use Rattle.dcsctp_theorem_sockets.specs.Agreement.{recorded_past}
use Rattle.dcsctp_delivery_directions.specs.sending.Log.{Message}
use Rattle.dcsctp_delivery_directions.specs.sending.Places.{HasEntry}
use Rattle.dcsctp_delivery_directions.specs.sending.ChunkCounts.{chunks_to}
use Rattle.dcsctp_delivery_directions.specs.order.Queue as directions
use Rattle.dcsctp_delivery_directions.specs.order.Queue.{Separates, LeaveNoGapBefore}
use Rattle.dcsctp_delivery_directions.specs.epochs.Asked.{AreCutAsAsked}
use Rattle.dcsctp_delivery_sockets.specs.associations.Ends.{WasReported, ResetCalls, HadBoth, chunks_before, NumbersFromZero}
use Rattle.dcsctp_delivery_sockets.specs.associations.InOrder.{AreCutByUser, Interleaves, full_asks}
use Rattle.dcsctp_delivery_sockets.specs.associations.Reads.{Tags, ReadMessage, ReportedReset, Reading, nothing_read, tagged_after, reached_index, with_tag, with_key}
use Rattle.dcsctp_delivery_sockets.proofs.associations.InOrder.{ends_cut_as_asked, ends_cut_without_gaps}
use Rattle.dcsctp_delivery_sockets.proofs.associations.Tagged.{IsCrossedReset, PeersDiffer, ReadUnder, nothing_under, under_key, read_under_key, read_among, crossed_reset, one_key}
use Rattle.dcsctp_delivery_sockets.specs.sockets.Epochs.{IsReadMessage, HasReset, ReportsPeerReset, ready_count, AreSplit, IsDeliveredByEpoch, HaveNoGapBefore, AreReadBefore, ResetsWithNoneWaiting, IsDeliveredInEpochs}
use Rattle.dcsctp_delivery_sockets.specs.sockets.Ordered.{HasOneTag, StartsAtZero, read_under}
use Rattle.dcsctp_delivery_sockets.specs.sockets.Packets.{reading_through}
use Rattle.dcsctp_delivery_sockets.proofs.sockets.Stands.{Stand, calls_by, queued_of, packets_of, reading_of, reading_more}
use Rattle.dcsctp_delivery_directions.specs.epochs.Reports.{IsReadOn}
use Rattle.dcsctp_delivery_directions.specs.directions.Directions.{PerformedReset}
use Rattle.dcsctp_spec_lemmas.specs.spec.association.Effect.{AssociationIdentity, holds}
use Rattle.dcsctp_spec_runs.specs.Past.{HasEffect}
use Rattle.dcsctp_spec_lemmas.specs.spec.endpoint.Event.{incoming_stream_reset}
use Rattle.dcsctp_delivery_sockets.proofs.sockets.MadeResets.{was_made}
use Rattle.dcsctp_delivery_sockets.proofs.sockets.ToldResets.{told_report, reads_more, IsToldIn, told_in}
use Rattle.dcsctp_delivery_sockets.proofs.sockets.UserMessages.{SaysSame, ordered_on, spared_on, message_on, is_in_order}

-- What separates what was queued splits what was sent.
pub split_of : (queued : List Message) (sent : List Sending) (same : SaysSame (λ sending. sending) queued sent) (stream index count : ℕ) (places : List ℕ) → Separates queued stream index count places → AreSplit sent stream index count places
split_of queued sent same stream index count [] apart = tt
split_of queued sent same stream zero count (place ∷ places) apart = ((λ on. apart.0 (message_on queued sent same stream place on)), split_of queued sent same stream zero count places apart.1)
split_of queued sent same stream (suc index) count (place ∷ places) apart = ((λ on. apart.0 (message_on queued sent same stream place on)), split_of queued sent same stream index count places apart.1)

-- What leaves no gap in what was queued leaves none in what was sent.
no_gap_of : (queued : List Message) (sent : List Sending) (same : SaysSame (λ sending. sending) queued sent) (stream end : ℕ) (places : List ℕ) (asks : ℕ → Bool) (asked : ℕ → Type 0) → ((count : ℕ) → asks count ≡ true → asked count)
    → LeaveNoGapBefore true asks queued stream end places → HaveNoGapBefore asked sent stream end places
no_gap_of queued sent same stream end places asks asked calls gap earlier later has on on' spared before less one =
    gap earlier later has (ordered_on queued sent same stream later on) (ordered_on queued sent same stream earlier on') (spared_on queued sent same stream earlier on' spared) before less (λ count from to. unasked count (asks count) refl from to)
    (λ unknown. absurd (cc))
  where
    unasked : (count : ℕ) (b : Bool) → asks count ≡ b → earlier < count → count ≤ later → b ≡ false
    unasked count false is from to = refl
    unasked count true is from to = absurd (one count (calls count is) from to)

nothing_taken : (place index : ℕ) (places : List ℕ) → index ≤ 0 → HasEntry place (take index places) → ⊥
nothing_taken place zero places low has = has
nothing_taken place (suc index) places low has = absurd (omega (arith, low))

-- What has all of what was queued has all of what was sent.
all_of : (queued : List Message) (sent : List Sending) (same : SaysSame (λ sending. sending) queued sent) (stream index count : ℕ) (places : List ℕ) (asks : ℕ → Bool) (asked : ℕ → Type 0) → ((other : ℕ) → asks other ≡ true → asked other)
    → directions.HaveAllBefore asks queued stream (record { index = index; place = count; is_whole = true }) places → AreReadBefore asked sent stream index count places
all_of queued sent same stream index count places asks asked calls all place on free below one =
    all place (ordered_on queued sent same stream place on) (spared_on queued sent same stream place on free) below (λ other from to. unasked other (asks other) refl from to)
  where
    unasked : (other : ℕ) (b : Bool) → asks other ≡ b → place < other → other < count → b ≡ false
    unasked other false is from to = refl
    unasked other true is from to = absurd (one other (calls other is) from to)

module _ (reset_calls : ResetCalls) (mine theirs : Options) (turns others : List Transition) (h : Stand reset_calls mine theirs turns others) (few : length (queued_of mine turns) < 2 ^ 64)
    (went : (tag : ℕ) → chunks_before (h.ends.former tag) (packets_of turns) + chunks_to (h.ends.latest tag) (packets_of turns) < 2 ^ 30)
    (mine_differ : PeersDiffer (recorded_past turns)) (theirs_differ : PeersDiffer (recorded_past others)) where
  -- A reset that was reported was performed under this tag of the sender.
  pub record IsPerformed (tag : ℕ) (streams : List ℕ) (index : ℕ) : Type 0 where
    pub key : ℕ
    pub both : HadBoth (recorded_past turns) key tag
    pub performed : HasEntry (record { streams = streams; index = index }) (h.ends.gets key).performed

  module _ (tag : ℕ) (streams : List ℕ) (index : ℕ) (r : ReportsPeerReset theirs others tag streams index) where
    abbrev reading : Reading
    reading = reading_through (fresh_endpoint theirs) r.earlier nothing_read

    abbrev report : ReportedReset
    report = record { tags = reading.last; reset = record { streams = streams; index = reached_index (endpoint_after theirs r.earlier) r.turn.input r.turn.outcome reading } }

    reported : HasEntry report (reading_of theirs others).resets
    reported =
        subst (λ (ts : List Transition). HasEntry report (reading_through (fresh_endpoint theirs) ts nothing_read).resets) (sym r.is)
        (told_report streams (fresh_endpoint theirs) r.earlier r.turn r.later nothing_read r.told)

    -- what was read once the turn was taken
    abbrev reads_then : List ReadMessage
    reads_then = tagged_after reading.last (endpoint_after theirs r.earlier) r.turn.input reading.reads

    reads_are : (reading_through (fresh_endpoint theirs) (r.earlier ++ r.turn ∷ []) nothing_read).reads ≡ reads_then
    reads_are = ap (λ (x : Reading). x.reads) (reading_more (fresh_endpoint theirs) r.earlier (r.turn ∷ []) nothing_read)

    reads_within : (m : ReadMessage) → HasEntry m reads_then → HasEntry m (reading_of theirs others).reads
    reads_within m has =
        subst (λ (ts : List Transition). HasEntry m (reading_through (fresh_endpoint theirs) ts nothing_read).reads) (sym r.is)
        (subst (λ (x : Reading). HasEntry m x.reads) (sym (reading_more (fresh_endpoint theirs) r.earlier (r.turn ∷ r.later) nothing_read))
        (reads_more m r.turn.outcome.after r.later _ has))

    pub told_performed : IsPerformed tag streams index
    told_performed =
        let c = crossed_reset theirs h.ends (endpoint_after mine turns) (queued_of mine turns) (recorded_past turns) (packets_of turns) (endpoint_after theirs others) (recorded_past others) (reading_of theirs others) h.between mine_differ theirs_differ report reported in
        let both : HadBoth (recorded_past turns) reading.last.peer tag = subst (HadBoth (recorded_past turns) reading.last.peer) r.tag_is c.both in
        let same : with_tag tag reads_then ≡ with_key reading.last.peer reads_then =
        read_among theirs h.ends (endpoint_after mine turns) (queued_of mine turns) (recorded_past turns) (packets_of turns) (endpoint_after theirs others) (recorded_past others) (reading_of theirs others) h.between mine_differ theirs_differ
        reads_then reads_within reading.last.peer tag both c.link c.held c.peer_is (c.own_is ∙ r.tag_is) in
        let index_same : reached_index (endpoint_after theirs r.earlier) r.turn.input r.turn.outcome reading ≡ index =
        ap (λ (l : List MessageContent). length l + ready_count r.turn.outcome.after) (sym same)
        ∙ ap (λ (l : List ReadMessage). length (with_tag tag l) + ready_count r.turn.outcome.after) (sym reads_are) ∙ sym r.index_is in
        record {
          key = reading.last.peer;
          both = both;
          performed = subst (λ (n : ℕ). HasEntry (record { streams = streams; index = n }) (h.ends.gets reading.last.peer).performed) index_same c.performed;
        }

  module _ (sent : List Sending) (same : SaysSame (λ sending. sending) (queued_of mine turns) sent) (asked : (stream count : ℕ) → reset_calls.asks stream count ≡ true → HasReset mine turns stream count)
      (rules : (endpoint_after mine turns).options.follow_rfc ≡ mine.follow_rfc) (tag : ℕ) (starts : StartsAtZero mine turns) (interleaves : Interleaves (recorded_past turns) tag) where
    abbrev Delivered : List MessageContent → Type 0
    Delivered read = IsDeliveredByEpoch (HasReset mine turns) (ReportsPeerReset theirs others tag) sent read

    -- what is performed under a tag of the sender
    cuts : (key : ℕ) → HadBoth (recorded_past turns) key tag → AreCutAsAsked false (nat_le theirs.max_receiver_window_buffer_size (2 ^ 63)) reset_calls.asks (full_asks reset_calls.empties theirs.max_receiver_window_buffer_size) (h.ends.gets key).performed (queued_of mine turns) (with_key key (reading_of theirs others).reads)
    cuts key both =
        subst (λ (calls : ResetCalls). AreCutAsAsked false (nat_le theirs.max_receiver_window_buffer_size (2 ^ 63)) calls.asks (full_asks calls.empties theirs.max_receiver_window_buffer_size) (h.ends.gets key).performed (queued_of mine turns) (with_key key (reading_of theirs others).reads)) h.is
        (ends_cut_as_asked theirs h.ends (endpoint_after mine turns) (queued_of mine turns) (recorded_past turns) (packets_of turns) (endpoint_after theirs others) (recorded_past others) (reading_of theirs others) h.between
        few went key anew (both.link, both.held, both.tag_is, interleaves both.link both.held both.peer_is))
      where
        anew : NumbersFromZero (endpoint_after mine turns) (recorded_past turns) key
        anew = elim starts [ inl follows ↦ inl (rules ∙ follows) | inr one ↦ inr (λ link has. one link both.link has both.held ∙ both.tag_is) ]

    none_delivered : Delivered []
    none_delivered =
        record {
          delivered = record { places = []; were_sent = tt; once = tt; in_order = λ stream. tt };
          epochs = λ streams index told stream names. (
              let p = told_performed tag streams index told in
              let c = (cuts p.key p.both).cut stream (record { streams = streams; index = index }) p.performed names in
              record { count = c.place; ask = asked stream c.place c.asked; split = tt }
              );
        }

    key_delivered : (key : ℕ) → HadBoth (recorded_past turns) key tag → Delivered (with_key key (reading_of theirs others).reads)
    key_delivered key both =
        let d = cuts key both in
        record {
          delivered = is_in_order (queued_of mine turns) sent (with_key key (reading_of theirs others).reads) same d.ordered;
          epochs = λ streams index told stream names. (
              let p = told_performed tag streams index told in
              let one : p.key ≡ key =
              one_key theirs h.ends (endpoint_after mine turns) (queued_of mine turns) (recorded_past turns) (packets_of turns) (endpoint_after theirs others) (recorded_past others) (reading_of theirs others) h.between mine_differ theirs_differ
              p.key key tag p.both both in
              let c = d.cut stream (record { streams = streams; index = index }) (subst (λ (k : ℕ). HasEntry (record { streams = streams; index = index }) (h.ends.gets k).performed) one p.performed) names in
              record { count = c.place; ask = asked stream c.place c.asked; split = split_of (queued_of mine turns) sent same stream index c.place d.ordered.delivered.places c.separates }
              );
        }

    pub is_by_epoch : Delivered (read_under tag theirs others)
    is_by_epoch =
        go
        (read_under_key theirs h.ends (endpoint_after mine turns) (queued_of mine turns) (recorded_past turns) (packets_of turns) (endpoint_after theirs others) (recorded_past others) (reading_of theirs others) h.between mine_differ theirs_differ tag)
      where
        go : ReadUnder (recorded_past turns) (recorded_past others) (reading_of theirs others) tag → Delivered (read_under tag theirs others)
        go (nothing_under none) = subst Delivered (sym none) none_delivered
        go (under_key key read both their_link held peer own) = subst Delivered (sym read) (key_delivered key both)

  -- ---- without gaps

  module _ (sent : List Sending) (same : SaysSame (λ sending. sending) (queued_of mine turns) sent) (asked : (stream count : ℕ) → reset_calls.asks stream count ≡ true → HasReset mine turns stream count)
      (tag : ℕ) (only : HasOneTag (recorded_past turns)) (interleaves : Interleaves (recorded_past turns) tag)
      (empties : (stream count : ℕ) → ResetsWithNoneWaiting mine turns stream count → reset_calls.empties stream count ≡ true) (window : nat_le theirs.max_receiver_window_buffer_size (2 ^ 63) ≡ true) where
    abbrev InEpochs : List MessageContent → Type 0
    InEpochs read = IsDeliveredInEpochs (theirs.follow_rfc ≡ false) (HasReset mine turns) (ResetsWithNoneWaiting mine turns) (ReportsPeerReset theirs others tag) sent read

    whole_cuts : (key : ℕ) → HadBoth (recorded_past turns) key tag → AreCutByUser (calls_by reset_calls mine turns) theirs.max_receiver_window_buffer_size (h.ends.gets key).performed (queued_of mine turns) (with_key key (reading_of theirs others).reads)
    whole_cuts key both =
        subst (λ (calls : ResetCalls). AreCutByUser calls theirs.max_receiver_window_buffer_size (h.ends.gets key).performed (queued_of mine turns) (with_key key (reading_of theirs others).reads)) h.is
        (ends_cut_without_gaps theirs h.ends (endpoint_after mine turns) (queued_of mine turns) (recorded_past turns) (packets_of turns) (endpoint_after theirs others) (recorded_past others) (reading_of theirs others) h.between
        few went key (λ link has. only link both.link has both.held ∙ both.tag_is) (both.link, both.held, both.tag_is, interleaves both.link both.held both.peer_is))

    full : (stream count : ℕ) → reset_calls.empties stream count ≡ true → full_asks reset_calls.empties theirs.max_receiver_window_buffer_size stream count ≡ true
    full stream count is = ap (λ (b : Bool). b && nat_le theirs.max_receiver_window_buffer_size (2 ^ 63)) is ∙ window

    known_gap : (stream end : ℕ) (places : List ℕ) → LeaveNoGapBefore (nat_le theirs.max_receiver_window_buffer_size (2 ^ 63)) (reset_calls.asks stream) (queued_of mine turns) stream end places → LeaveNoGapBefore true (reset_calls.asks stream) (queued_of mine turns) stream end places
    known_gap stream end places gap = subst (λ (b : Bool). LeaveNoGapBefore b (reset_calls.asks stream) (queued_of mine turns) stream end places) window gap

    none_in_epochs : InEpochs []
    none_in_epochs =
        record {
          delivered = record { places = []; were_sent = tt; once = tt; in_order = λ stream. tt };
          epochs = λ streams index told stream names. (
              let p = told_performed tag streams index told in
              let d = (whole_cuts p.key p.both).cut in
              let c = d.cut stream (record { streams = streams; index = index }) p.performed names in
              record {
                split = record { count = c.place; ask = asked stream c.place c.asked; split = tt };
                no_gap = λ earlier later has. absurd has;
                all = λ empty low place on free below one. absurd (nothing_taken place index d.ordered.delivered.places low
                    (all_of (queued_of mine turns) sent same stream index c.place d.ordered.delivered.places (reset_calls.asks stream) (HasReset mine turns stream) (asked stream) (c.all refl (full stream c.place (empties stream c.place empty)) (let none : index ≤ 0 = low in omega (arith, none))) place on free below one));
              }
              );
          no_gap = λ stream earlier later has. absurd has;
          between = λ tells stream earlier later count ask empty one. absurd one.has;
        }

    read_of : (stream : ℕ) (places : List ℕ) (place : ℕ) → IsReadMessage sent stream places place → IsReadOn (queued_of mine turns) stream places place
    read_of stream places place r = record { on = message_on (queued_of mine turns) sent same stream place r.on; has = r.has }

    -- What was performed under the tag was reported, if the socket tells of each.
    told_under : theirs.follow_rfc ≡ false → (key : ℕ) → HadBoth (recorded_past turns) key tag → (link : AssociationIdentity) → HasEffect (holds link) (recorded_past others) → link.peer.tag ≡ key → link.my.tag ≡ tag → (reset : PerformedReset) → HasEntry reset (h.ends.gets key).performed
        → ReportsPeerReset theirs others tag reset.streams reset.index
    told_under plainly key both link held peer own reset has = found (told_in (fresh_endpoint theirs) others nothing_read w.report w.has)
      where
        w : WasReported (reading_of theirs others).resets key reset
        w = h.between.receiver.were_told plainly key reset has

        c : IsCrossedReset theirs h.ends (endpoint_after mine turns) (queued_of mine turns) (recorded_past turns) (packets_of turns) (endpoint_after theirs others) (recorded_past others) (reading_of theirs others) h.between mine_differ theirs_differ w.report
        c = crossed_reset theirs h.ends (endpoint_after mine turns) (queued_of mine turns) (recorded_past turns) (packets_of turns) (endpoint_after theirs others) (recorded_past others) (reading_of theirs others) h.between mine_differ theirs_differ w.report w.has

        own_is : w.report.tags.own ≡ tag
        own_is = sym c.own_is ∙ ap (λ (l : AssociationIdentity). l.my.tag) (theirs_differ c.link link c.held held (c.peer_is ∙ w.tag_is ∙ sym peer)) ∙ own

        found : HasEntry w.report [] ⊎ IsToldIn (fresh_endpoint theirs) others nothing_read w.report → ReportsPeerReset theirs others tag reset.streams reset.index
        found (inl none) = absurd none
        found (inr k) =
            let reading : Reading = reading_through (fresh_endpoint theirs) k.earlier nothing_read in
            let last_own : reading.last.own ≡ tag = ap (λ (t : Tags). t.own) (sym k.new.tags_are) ∙ own_is in
            let last_peer : reading.last.peer ≡ key = ap (λ (t : Tags). t.peer) (sym k.new.tags_are) ∙ w.tag_is in
            let reads_then : List ReadMessage = tagged_after reading.last (endpoint_after theirs k.earlier) k.turn.input reading.reads in
            let reads_are : (reading_through (fresh_endpoint theirs) (k.earlier ++ k.turn ∷ []) nothing_read).reads ≡ reads_then = ap (λ (x : Reading). x.reads) (reading_more (fresh_endpoint theirs) k.earlier (k.turn ∷ []) nothing_read) in
            let within : (m : ReadMessage) → HasEntry m reads_then → HasEntry m (reading_of theirs others).reads =
            λ m has'. subst (λ (ts : List Transition). HasEntry m (reading_through (fresh_endpoint theirs) ts nothing_read).reads) (sym k.is)
            (subst (λ (x : Reading). HasEntry m x.reads) (sym (reading_more (fresh_endpoint theirs) k.earlier (k.turn ∷ k.later) nothing_read)) (reads_more m k.turn.outcome.after k.later _ has')) in
            let same' : with_tag tag reads_then ≡ with_key key reads_then =
            read_among theirs h.ends (endpoint_after mine turns) (queued_of mine turns) (recorded_past turns) (packets_of turns) (endpoint_after theirs others) (recorded_past others) (reading_of theirs others) h.between mine_differ theirs_differ
            reads_then within key tag both link held peer own in
            record {
              earlier = k.earlier;
              turn = k.turn;
              later = k.later;
              is = k.is;
              told = subst (λ (r : PerformedReset). HasEntry (incoming_stream_reset r.streams) k.turn.outcome.events) w.reset_is k.new.told;
              tag_is = last_own;
              index_is = ap (λ (r : PerformedReset). r.index) (sym w.reset_is) ∙ k.new.index_is
                  ∙ ap (λ (n : ℕ). length (with_key n reads_then) + ready_count k.turn.outcome.after) last_peer
                  ∙ ap (λ (l : List MessageContent). length l + ready_count k.turn.outcome.after) (sym same')
                  ∙ ap (λ (l : List ReadMessage). length (with_tag tag l) + ready_count k.turn.outcome.after) (sym reads_are);
            }

    key_in_epochs : (key : ℕ) → HadBoth (recorded_past turns) key tag → (link : AssociationIdentity) → HasEffect (holds link) (recorded_past others) → link.peer.tag ≡ key → link.my.tag ≡ tag → InEpochs (with_key key (reading_of theirs others).reads)
    key_in_epochs key both link held peer own =
        let u = whole_cuts key both in
        let d = u.cut in
        record {
          delivered = is_in_order (queued_of mine turns) sent (with_key key (reading_of theirs others).reads) same d.ordered;
          epochs = λ streams index told stream names. (
              let p = told_performed tag streams index told in
              let one : p.key ≡ key =
              one_key theirs h.ends (endpoint_after mine turns) (queued_of mine turns) (recorded_past turns) (packets_of turns) (endpoint_after theirs others) (recorded_past others) (reading_of theirs others) h.between mine_differ theirs_differ
              p.key key tag p.both both in
              let c = d.cut stream (record { streams = streams; index = index }) (subst (λ (k : ℕ). HasEntry (record { streams = streams; index = index }) (h.ends.gets k).performed) one p.performed) names in
              record {
                split = record { count = c.place; ask = asked stream c.place c.asked; split = split_of (queued_of mine turns) sent same stream index c.place d.ordered.delivered.places c.separates };
                no_gap = no_gap_of (queued_of mine turns) sent same stream c.place d.ordered.delivered.places (reset_calls.asks stream) (HasReset mine turns stream) (asked stream) (known_gap stream c.place d.ordered.delivered.places (c.no_gap refl));
                all = λ empty low. all_of (queued_of mine turns) sent same stream index c.place d.ordered.delivered.places (reset_calls.asks stream) (HasReset mine turns stream) (asked stream) (c.all refl (full stream c.place (empties stream c.place empty)) low);
              }
              );
          no_gap = λ stream. no_gap_of (queued_of mine turns) sent same stream (length sent) d.ordered.delivered.places (reset_calls.asks stream) (HasReset mine turns stream) (asked stream)
              (subst (λ (n : ℕ). LeaveNoGapBefore true (reset_calls.asks stream) (queued_of mine turns) stream n d.ordered.delivered.places) same.size (known_gap stream (length (queued_of mine turns)) d.ordered.delivered.places (d.no_gap refl stream)));
          between = λ plainly stream earlier later count ask empty one two low high. (
              let b = u.between stream earlier later count (was_made mine turns stream count ask) (empties stream count empty) (read_of stream d.ordered.delivered.places earlier one) (read_of stream d.ordered.delivered.places later two) low high in
              record {
                streams = b.reset.streams;
                index = b.reset.index;
                report = told_under plainly key both link held peer own b.reset b.has;
                names = b.names;
                place = b.place;
                ask = asked stream b.place b.asked;
                from = b.from;
                to = b.to;
                split = split_of (queued_of mine turns) sent same stream b.reset.index b.place d.ordered.delivered.places b.separates;
              }
              );
        }

    pub is_in_epochs : InEpochs (read_under tag theirs others)
    is_in_epochs =
        go
        (read_under_key theirs h.ends (endpoint_after mine turns) (queued_of mine turns) (recorded_past turns) (packets_of turns) (endpoint_after theirs others) (recorded_past others) (reading_of theirs others) h.between mine_differ theirs_differ tag)
      where
        go : ReadUnder (recorded_past turns) (recorded_past others) (reading_of theirs others) tag → InEpochs (read_under tag theirs others)
        go (nothing_under none) = subst InEpochs (sym none) none_in_epochs
        go (under_key key read both their_link held peer own) = subst InEpochs (sym read) (key_in_epochs key both their_link held peer own)
