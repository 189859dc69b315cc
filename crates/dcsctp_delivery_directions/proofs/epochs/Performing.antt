-- A reset of streams is performed: all that was sent on them was queued before it was asked for.
use Rattle.dcsctp_delivery_directions.specs.directions.Directions.{is_in_turn}
use Rattle.dcsctp_delivery_directions.proofs.directions.InTurn.{turns_of}
use Rattle.std.proofs.Common.{◌≡◌, ℕ, suc, Bool, true, false, ◌<◌, ◌≤◌, ◌+◌, ◌^◌, List, [], ◌∷◌, ◌++◌, length, length-append, refl, sym, ◌∙◌, ap, arith, subst, inl, inr, take, zero}
use Rattle.std.specs.Prelude.{◌⊎◌, Option, None, Some, if◌then◌else◌, ◌&&◌}
use Rattle.dcsctp_spec.specs.types.queues.Messages.{MessageContent}
use Rattle.dcsctp_spec.specs.endpoint.BegunResets.{BegunReset}
use Rattle.dcsctp_spec.specs.queues.Incoming.{stream_on}
use Rattle.dcsctp_spec.specs.queues.IncomingStreams.{StreamModel}
use Rattle.dcsctp_spec.specs.queues.OwnResets.{is_open_pause}
use Rattle.dcsctp_spec.specs.queues.Reassembly.{ReassemblyState, names_stream, EndsDeferral}
use Rattle.dcsctp_delivery_directions.specs.sending.Log.{Message, Piece, History, IsLogOfPieces, sent_messages}
use Rattle.dcsctp_delivery_directions.specs.sending.Numbers.{is_handed_out, stream_named}
use Rattle.dcsctp_delivery_directions.specs.sending.Places.{HasEntry, at_place}
use Rattle.dcsctp_delivery_directions.specs.receiving.Clear.{IsOwn}
use Rattle.dcsctp_delivery_directions.specs.receiving.Ready.{WereQueued}
use Rattle.dcsctp_delivery_directions.specs.receiving.Rows.{Spent}
use Rattle.dcsctp_delivery_directions.specs.directions.Directions.{Direction, is_reset_reached}
use Rattle.dcsctp_delivery_directions.proofs.directions.Performing.{newest_of}
use Rattle.dcsctp_delivery_directions.proofs.directions.Standing.{Stands}
use Rattle.dcsctp_delivery_directions.specs.order.Incoming.{IsOrderedOrReset, IncomingOrdered}
use Rattle.dcsctp_delivery_directions.specs.order.Order.{IsBetweenResets}
use Rattle.dcsctp_delivery_directions.specs.order.Epochs.{LeaveNoGapSent}
use Rattle.dcsctp_delivery_directions.specs.order.Queue.{Cut, Separates, IsSeparated, AreSeparated, LeaveNoGapBefore, IsOrderedOn}
use Rattle.dcsctp_delivery_directions.specs.order.Received.{ReassemblesInOrder, none_handled, some_handled}
use Rattle.dcsctp_delivery_directions.proofs.order.Quiet.{Arrives, performing_arrives, performed_quiet}
use Rattle.dcsctp_delivery_directions.proofs.order.Separated.{all_separate, taken_all}
use Rattle.dcsctp_delivery_directions.specs.epochs.Sending.{EpochBounds, HaltsBefore, SendsByEpoch}
use Rattle.dcsctp_delivery_directions.specs.epochs.Cuts.{cut_added, cuts_with, known_asks, is_cut_whole}
use Rattle.dcsctp_delivery_directions.proofs.epochs.KeptRuns.{goes_in_turn}
use Rattle.dcsctp_delivery_directions.proofs.epochs.Behind.{watch_of, IsPending, AreBehind, handed_shut}
use Rattle.dcsctp_delivery_directions.proofs.epochs.Delivering.{DeliversSo}
use Rattle.dcsctp_delivery_directions.specs.order.Parts.{ReadsAllSent}
use Rattle.std.proofs.lemmas.Bool.Decides.{leb_tells}

-- Where nothing was sent that was queued at this place or later, none is left out before it.
pub sent_leaves : (knows : Bool) (asks : ℕ → Bool) (queued : List Message) (history : History) (id : ℕ) (all : List ℕ) → IsLogOfPieces queued history.log → LeaveNoGapSent knows asks queued history id all → (bound : ℕ)
    → ((n : ℕ) (f : Piece) → at_place n history.log ≡ Some (Some f) → f.message.stream ≡ id → f.place < bound) → LeaveNoGapBefore knows asks queued id bound all
sent_leaves knows asks queued history id all cut whole bound below earlier later has on on' spared less before one free =
    whole later has on earlier on' spared less one
    (λ unknown n f at stream ordered from. free unknown f.place from (below n f at stream) (record { message = f.message; at = (cut.pieces n f at).at; stream = stream; ordered = ordered }))

-- the first ones are among all
from_taken : (place k : ℕ) (all : List ℕ) → HasEntry place (take k all) → HasEntry place all
from_taken place zero all has = absurd has
from_taken place (suc k) [] has = absurd has
from_taken place (suc k) (p ∷ all) has = elim has [ inl e ↦ inl e | inr t ↦ inr (from_taken place k all t) ]

both_of : (b c : Bool) → (b && c) ≡ true → (b ≡ true) × (c ≡ true)
both_of true true is = (refl, refl)
both_of true false is = absurd (cc)
both_of false c is = absurd (cc)

-- ---- a cut at the newest place

module _ (sized : Bool) (first : ℕ) (old : Direction) (opened : ℕ → Bool) (asked : ℕ → EpochBounds) (cuts : ℕ → List Cut) (d : DeliversSo sized first old opened asked cuts) (interleaved : old.queues.queue.is_interleaved ≡ true) where
  abbrev its_stands : Stands first old
  its_stands = d.goes.stands

  known_so : old.beginning.has_all ≡ true → (id count : ℕ) → known_asks old.beginning id count ≡ old.beginning.asks id count
  known_so whole id count = ap (λ (b : Bool). if b then old.beginning.asks id count else true) whole

  -- each message of its epoch was sent, and so it is read
  sent_is_read : (id : ℕ) (all : List ℕ) (place : ℕ) → (asked id).newest ≡ Some place → ((n : ℕ) (f : Piece) → at_place n its_stands.history.log ≡ Some (Some f) → f.message.stream ≡ id → f.place < place) → is_cut_whole sized old.beginning id place ≡ true
      → AreSeparated sized (known_asks old.beginning id) old.queued id (cuts id) all → (sized ≡ true → ReadsAllSent its_stands.history id all) → (p : ℕ) (on : IsOrderedOn old.queued id p) → on.message.is_limited ≡ false → p < place
      → ((count : ℕ) → p < count → count < place → known_asks old.beginning id count ≡ false) → HasEntry p all
  sent_is_read id all place newest_is sent whole separated reads p on free below one =
      let has_all = both_of old.beginning.has_all (old.beginning.empties id place && sized) whole in
      let empties = both_of (old.beginning.empties id place) sized has_all.1 in
      let high = ((d.goes.by_epoch interleaved id).newest place newest_is).0 in
      elim (leb_tells place (asked id).ended) [
        | inl e ↦
            (let up : place ≤ (asked id).ended = e.1 in
            elim (d.ended_cut id) [
              | inl none ↦ absurd (omega (arith, up, none, below))
              | inr c ↦
                  (let same : (asked id).ended ≡ place = omega (arith, up, high) in
                  let place_is : c.cut.place ≡ place = c.place_is ∙ same in
                  from_taken p c.cut.index all
                  ((separated c.cut c.has).all (c.whole_is ∙ ap (is_cut_whole sized old.beginning id) same ∙ whole) p on free (omega (arith, place_is, below))
                  (λ count from to. one count from (omega (arith, to, place_is)))))
            ])
        | inr e ↦
            (let ended_below : (asked id).ended < place = e.1 in
            let low : (asked id).ended ≤ p = elim (leb_tells (asked id).ended p) [
              | inl e ↦ e.1
              | inr e ↦ elim (d.keeps.ends_were id) [
                | inl none ↦ absurd (let up : p < (asked id).ended = e.1 in omega (arith, up, none))
                | inr was ↦ absurd
                    (let no : true ≡ false = sym was ∙ sym (known_so has_all.0 id (asked id).ended) ∙ one (asked id).ended e.1 ended_below in
                    cc)
              ]
            ] in
            let was = d.keeps.sent_each interleaved has_all.0 id place newest_is empties.0 p on.message on.at on.stream free low below in
            let two : Some was.piece.message ≡ Some on.message = sym (its_stands.queues.cut.pieces was.number was.piece was.at).at ∙ ap (λ (k : ℕ). at_place k old.queued) was.is ∙ on.at in
            let text : was.piece.message ≡ on.message = cc in
            let stream_is : was.piece.message.stream ≡ id = ap (λ (m : Message). m.stream) text ∙ on.stream in
            let ordered : was.piece.message.is_unordered ≡ false = ap (λ (m : Message). m.is_unordered) text ∙ on.ordered in
            let current : its_stands.history.floors was.piece.message.stream was.piece.message.is_unordered ≤ was.piece.mid = elim (leb_tells (its_stands.history.floors was.piece.message.stream was.piece.message.is_unordered) was.piece.mid) [
              | inl e ↦ e.1
              | inr e ↦ absurd (let past = d.keeps.past_each interleaved has_all.0 id was.number was.piece was.at stream_is e.1 in let is = was.is in omega (arith, past, is, low))
            ] in
            subst (λ (k : ℕ). HasEntry k all) was.is
            (reads empties.1 was.number was.piece (record { at = was.at; stream = stream_is; ordered = ordered; current = current }) (ap (λ (m : Message). m.is_limited) text ∙ free)))
      ]

  -- It separates what was queued before from what is queued since.
  pub newest_separates : (id : ℕ) (got all : List ℕ) (place index : ℕ) → (asked id).newest ≡ Some place → HaltsBefore its_stands.history old.queues.queue id place → length all ≡ index → ((p : ℕ) → HasEntry p all → Spent its_stands.history.log got p)
      → AreSeparated sized (known_asks old.beginning id) old.queued id (cuts id) all → LeaveNoGapSent sized (known_asks old.beginning id) old.queued its_stands.history id all → (sized ≡ true → ReadsAllSent its_stands.history id all)
      → AreSeparated sized (known_asks old.beginning id) old.queued id (record { index = index; place = place; is_whole = is_cut_whole sized old.beginning id place } ∷ cuts id) all
  newest_separates id got all place index is its size spent separated no_gap reads c has =
      elim has [
        | inr t ↦ separated c t
        | inl e ↦
            (let cut : Separates old.queued id index place all =
            subst (λ (k : ℕ). Separates old.queued id k place all) size
            (all_separate old.queued id place all
            (λ p has on. (
            let sent = spent p has in
            let one : Some sent.head.message ≡ Some on.message = sym (its_stands.queues.cut.pieces sent.offset sent.head sent.at_head).at ∙ ap (λ (k : ℕ). at_place k old.queued) sent.is ∙ on.at in
            let message : sent.head.message ≡ on.message = cc in
            let low = its.sent sent.offset sent.head sent.at_head (ap (λ (m : Message). m.stream) message ∙ on.stream) in
            let same = sent.is in
            omega (arith, low, same)
            ))) in
            subst (λ (x : Cut). IsSeparated sized (known_asks old.beginning id) old.queued id x all) (sym e)
            (record {
              within = omega (arith, size);
              separates = cut;
              no_gap = sent_leaves sized (known_asks old.beginning id) old.queued its_stands.history id all its_stands.queues.cut no_gap place its.sent;
              before = ((d.goes.by_epoch interleaved id).newest place is).1;
              all = λ whole p on free below one. taken_all p index all size (sent_is_read id all place is its.sent whole separated reads p on free below one);
            }))
      ]

  -- All that was sent on a stream that is handed out was queued before its newest reset was asked for.
  pub handed_halts : (id place : ℕ) → is_handed_out (stream_named id old.queues.queue.streams).pause ≡ true → (asked id).newest ≡ Some place → HaltsBefore its_stands.history old.queues.queue id place
  handed_halts id place handed is = go (asked id).newest is (d.goes.by_epoch interleaved id)
    where
      shut : is_open_pause (stream_named id old.queues.queue.streams).pause ≡ false
      shut = handed_shut (stream_named id old.queues.queue.streams).pause handed

      go : (o : Option ℕ) → o ≡ Some place → SendsByEpoch (length old.queued) its_stands.history old.queues.queue id (record (asked id) { newest = o }) → HaltsBefore its_stands.history old.queues.queue id place
      go None same e = absurd (cc)
      go (Some other) same e = let one : other ≡ place = cc in subst (λ (k : ℕ). HaltsBefore its_stands.history old.queues.queue id k) one (e.stops shut)

pub were_length : (queued : List Message) (places : List ℕ) (contents : List MessageContent) → WereQueued queued places contents → length places ≡ length contents
were_length queued [] [] were = refl
were_length queued [] (c ∷ contents) were = absurd were
were_length queued (p ∷ places) [] were = absurd were
were_length queued (p ∷ places) (c ∷ contents) were = ap suc (were_length queued places contents were.1)

-- ---- a reset is performed

module _ (sized : Bool) (first : ℕ) (old : Direction) (small : first < 2 ^ 32) (opened : ℕ → Bool) (asked : ℕ → EpochBounds) (cuts : ℕ → List Cut) (d : DeliversSo sized first old opened asked cuts) where
  abbrev stands : Stands first old
  stands = d.goes.stands

  module _ (newest : BegunReset) (earlier : List BegunReset) (new : ReassemblyState) (asks : old.asking.requests ≡ newest ∷ earlier) (unknown : is_in_turn old ≡ true → old.asking.is_performed ≡ false)
      (reached : is_reset_reached newest.reset old.tracker ≡ true) (own : IsOwn newest.reset old.reassembly.deferral) (leaves : EndsDeferral newest.reset.streams old.reassembly new) where
    abbrev pub index : ℕ
    index = length old.read + length new.incoming.ready

    abbrev pub added : ℕ → List Cut
    added = cuts_with newest.reset.streams index (is_cut_whole sized old.beginning) asked cuts

    some_out : old.queues.queue.is_interleaved ≡ true → 0 < old.asking.out
    some_out interleaved =
        elim (d.unended interleaved (unknown (turns_of old interleaved))) [
          | inl none ↦ absurd (let clash : newest ∷ earlier ≡ [] = sym asks ∙ none in cc)
          | inr some ↦ some
        ]

    -- each stream that it names is handed out
    pub handed : old.queues.queue.is_interleaved ≡ true → (id : ℕ) → names_stream newest.reset.streams id ≡ true → is_handed_out (stream_named id old.queues.queue.streams).pause ≡ true
    handed interleaved id names =
        let m = newest_of stands.history.marks newest earlier (sym stands.asked ∙ asks) in
        (d.named m.mark m.earlier m.is (some_out interleaved) id (subst (λ (b : BegunReset). names_stream b.reset.streams id ≡ true) (sym m.begins) names)).handed

    pub added_grows : (id : ℕ) (cut : Cut) → HasEntry cut (cuts id) → HasEntry cut (added id)
    added_grows id cut has = go (names_stream newest.reset.streams id) (asked id).newest
      where
        go : (b : Bool) (o : Option ℕ) → HasEntry cut (if b then cut_added index (is_cut_whole sized old.beginning id) o (cuts id) else cuts id)
        go true None = has
        go true (Some place) = inr has
        go false o = has

    pub added_behind : old.queues.queue.is_interleaved ≡ true → AreBehind old.queues.queue.streams asked added
    added_behind interleaved id cut has = go (names_stream newest.reset.streams id) refl (asked id).newest refl has
      where
        go : (b : Bool) → names_stream newest.reset.streams id ≡ b → (o : Option ℕ) → (asked id).newest ≡ o → HasEntry cut (if b then cut_added index (is_cut_whole sized old.beginning id) o (cuts id) else cuts id)
            → (cut.place ≤ (asked id).ended) ⊎ IsPending old.queues.queue.streams id (asked id) cut
        go false names o is has' = d.behind interleaved id cut has'
        go true names None is has' = d.behind interleaved id cut has'
        go true names (Some place) is has' =
            elim has' [
              | inl e ↦ inr (record { handed = handed interleaved id names; place = place; newest = is; below = (let same : cut.place ≡ place = ap (λ (c : Cut). c.place) e in omega (arith, same)) })
              | inr t ↦ d.behind interleaved id cut t
            ]

    module _ (before : length stands.history.log < 2 ^ 31) (interleaved : old.queues.queue.is_interleaved ≡ true) (from : old.beginning.from_zero ≡ true) (window : sized ≡ true → old.reassembly.max_size ≤ 2 ^ 63) where
      performed : Arrives (watch_of sized (known_asks old.beginning) cuts) first stands.history old.queued old.read old.tracker new old.queues.queue.streams
      performed =
          performing_arrives (watch_of sized (known_asks old.beginning) cuts) first old small stands (goes_in_turn first old small opened asked d.goes d.keeps interleaved) before interleaved newest earlier new asks (some_out interleaved) d.named reached own leaves (λ id known. window known) (d.arrives before interleaved from)

      -- the streams that it names are quiet then
      named_quiet : (id : ℕ) → names_stream newest.reset.streams id ≡ true → performed.quiet id ≡ true
      unfolding performed
      named_quiet id names =
          performed_quiet (watch_of sized (known_asks old.beginning) cuts) first old small stands (goes_in_turn first old small opened asked d.goes d.keeps interleaved) before interleaved newest earlier new asks (some_out interleaved) d.named reached own leaves (λ id known. window known) (d.arrives before interleaved from) id names

      recut_stream : (id : ℕ) (got all waits : List ℕ) (stream : StreamModel) → length all ≡ index → ((p : ℕ) → HasEntry p all → Spent stands.history.log got p) → IsOrderedOrReset (watch_of sized (known_asks old.beginning) cuts id) (performed.quiet id) (sent_messages old.queued stands.history) id all waits stream
          → IsOrderedOrReset (watch_of sized (known_asks old.beginning) added id) (performed.quiet id) (sent_messages old.queued stands.history) id all waits stream
      recut_stream id got all waits stream size spent ordered = go (names_stream newest.reset.streams id) refl (asked id).newest refl
        where
          go : (b : Bool) → names_stream newest.reset.streams id ≡ b → (o : Option ℕ) → (asked id).newest ≡ o
              → IsOrderedOrReset (record { asks = known_asks old.beginning id; cuts = if b then cut_added index (is_cut_whole sized old.beginning id) o (cuts id) else cuts id; knows_all = sized }) (performed.quiet id) (sent_messages old.queued stands.history) id all waits stream
          go false names o is = ordered
          go true names None is = ordered
          go true names (Some place) is =
              let both : IsBetweenResets old.queued stands.history id all × AreSeparated sized (known_asks old.beginning id) old.queued id (cuts id) all × LeaveNoGapSent sized (known_asks old.beginning id) old.queued stands.history id all × (sized ≡ true → ReadsAllSent stands.history id all) =
              subst (λ (b : Bool). IsOrderedOrReset (watch_of sized (known_asks old.beginning) cuts id) b (sent_messages old.queued stands.history) id all waits stream) (named_quiet id names) ordered in
              subst (λ (b : Bool). IsOrderedOrReset (record { asks = known_asks old.beginning id; cuts = record { index = index; place = place; is_whole = is_cut_whole sized old.beginning id place } ∷ cuts id; knows_all = sized }) b (sent_messages old.queued stands.history) id all waits stream) (sym (named_quiet id names)) (
                both.0,
                newest_separates sized first old opened asked cuts d interleaved id got all place index is (handed_halts sized first old opened asked cuts d interleaved id place (handed interleaved id names) is) size spent both.1 both.2 both.3,
                both.2,
                both.3,
              )

      recut_incoming : (got : List ℕ) (base : ℕ) → IncomingOrdered (watch_of sized (known_asks old.beginning) cuts) (sent_messages old.queued stands.history) performed.quiet got base performed.places new.incoming → IncomingOrdered (watch_of sized (known_asks old.beginning) added) (sent_messages old.queued stands.history) performed.quiet got base performed.places new.incoming
      recut_incoming got base o =
          record {
            holds = o.holds;
            order = λ id counts. recut_stream id got (performed.places ++ o.holds.places) (o.holds.waits id) (stream_on id new.incoming.streams)
                (length-append performed.places o.holds.places
                ∙ (let one = were_length old.queued performed.places old.read performed.were in let two = were_length old.queued o.holds.places new.incoming.ready o.holds.were_queued in omega (arith, one, two))) o.holds.spent (o.order id counts);
            within = o.within;
            parts = o.parts;
          }

      recut_reassembles : (got : List ℕ) → ReassemblesInOrder (watch_of sized (known_asks old.beginning) cuts) (sent_messages old.queued stands.history) performed.quiet first got performed.places new.incoming
          → ReassemblesInOrder (watch_of sized (known_asks old.beginning) added) (sent_messages old.queued stands.history) performed.quiet first got performed.places new.incoming
      recut_reassembles got (none_handled none last empty) = none_handled none last (λ base. recut_incoming [] base (empty base))
      recut_reassembles got (some_handled base is holds) = some_handled base is (recut_incoming got base holds)

      pub recut : Arrives (watch_of sized (known_asks old.beginning) added) first stands.history old.queued old.read old.tracker new old.queues.queue.streams
      recut =
          let r = performed.received in
          record {
            places = performed.places;
            were = performed.were;
            once = performed.once;
            quiet = performed.quiet;
            received = record {
              taken = r.taken;
              got = r.got;
              later = r.later;
              tracks = r.tracks;
              got_taken = r.got_taken;
              later_taken = r.later_taken;
              either = r.either;
              exact = λ small k is. r.exact small k (record { piece = is.piece; at = is.at; free = is.free; known = is.known });
              apart = r.apart;
              distinct = r.distinct;
              holds = recut_reassembles r.got r.holds;
              defers = r.defers;
              skips = record { kept = r.skips.kept; each = λ small id little knows. r.skips.each small id little knows };
            };
            silent = performed.silent;
          }
