-- Messages that are abandoned: their ends may take TSNs, which carry no piece.
use Rattle.std.proofs.Common.{◌≡◌, ℕ, Bool, true, false, ◌<◌, ◌+◌, ◌-◌, arith, List, [], ◌∷◌, ◌++◌, length, refl, sym, ◌∙◌, ap, subst, inl, inr}
use Rattle.std.specs.Prelude.{◌||◌, not, None, Some, slice_get}
use Rattle.std.proofs.lemmas.Bool.Decides.{leb_tells}
use Rattle.dcsctp_spec.specs.types.declared.progress.Change.TheVariants.{Abandon}
use Rattle.dcsctp_spec.specs.types.queues.SendStreams.{stream_at}
use Rattle.dcsctp_spec.specs.queues.Abandoning.{GivesUpFirst, GivesUpAll}
use Rattle.dcsctp_spec.specs.queues.Filling.{Stage, ClosesMessage, DropsRestOfMessage, GivesUpItem, StageSteps, none, more}
use Rattle.dcsctp_spec.specs.queues.ItemMessages.{EndsDropped}
use Rattle.dcsctp_spec.specs.queues.Items.{Item}
use Rattle.dcsctp_spec.specs.queues.NextItem.{is_abandonment_due}
use Rattle.dcsctp_spec.specs.queues.Outstanding.{OutstandingState}
use Rattle.dcsctp_spec.specs.queues.SendQueue.{SendQueueState, queue_interleaves}
use Rattle.dcsctp_spec.specs.queues.Sending.{Fragment, Discards, DiscardsNamed, IsMessageUnderWay, may_be_abandoned}
use Rattle.dcsctp_delivery_directions.specs.sending.Log.{Message, Piece, Slot, History, log_extended, with_slot}
use Rattle.dcsctp_delivery_directions.specs.sending.Places.{at_place}
use Rattle.dcsctp_delivery_directions.specs.sending.Pieces.{HoldsQueued}
use Rattle.dcsctp_delivery_directions.specs.sending.Numbers.{NumbersMessages, is_always_whole}
use Rattle.dcsctp_delivery_directions.specs.sending.Stages.{IsNamedFragment, IsOfLimited, Bears, Pends, AreMarks, Stands, Stays}
use Rattle.dcsctp_delivery_directions.proofs.sending.Marks.{pends_later, marks_none, named_end, end_whole}
use Rattle.dcsctp_delivery_directions.proofs.sending.Discarding.{newest_named, newest_there, discards_numbered, discards_hold, discards_ways}
use Rattle.dcsctp_delivery_directions.proofs.sending.StreamWeights.{front_queued}
use Rattle.dcsctp_delivery_directions.proofs.sending.Places.{at_either, at_below}
use Rattle.dcsctp_delivery_directions.proofs.sending.OneMessage.{row_between}
use Rattle.dcsctp_delivery_directions.proofs.sending.Limits.{limited_due, limited_same, limited_stays, limited_more}
use Rattle.dcsctp_delivery_directions.proofs.sending.Stages.{with_none, at_last, whole_grown, bears_grown, bears_abandoned, cut_none}
use Rattle.dcsctp_delivery_directions.proofs.sending.Whole.{IsTail, tail_of, given_whole}

-- More TSNs may have been assigned that carry no piece.
pub record Ends (queued : List Message) (history : History) (first acknowledged : ℕ) (new : Stage) : Type 0 where
  pub more : List Slot
  pub stands : Stands queued (log_extended more history) first acknowledged new
  pub none : (n : ℕ) (f : Piece) → at_place n more ≡ Some (Some f) → ⊥

pub ended : (queued : List Message) (history : History) (first acknowledged : ℕ) (new : Stage) → Ends queued history first acknowledged new → Stays queued history first acknowledged new
ended queued history first acknowledged new ends = record { more = ends.more; stands = ends.stands; current = λ n f at. absurd (ends.none n f at); kept = λ n f at. absurd (ends.none n f at) }

pub end : (queued : List Message) (history : History) (first acknowledged : ℕ) (new : Stage) → Stands queued history first acknowledged new → Ends queued history first acknowledged new
end queued history first acknowledged new stands = record { more = []; stands = stands; none = λ n f at. absurd (cc) }

pub append_twice : (newest newer : List Slot) (log : List Slot) → (newest ++ newer) ++ log ≡ newest ++ (newer ++ log)
append_twice [] newer log = refl
append_twice (slot ∷ newest) newer log = ap (λ (l : List Slot). slot ∷ l) (append_twice newest newer log)

pub grown_twice : (newest newer : List Slot) (history : History) → log_extended (newest ++ newer) history ≡ log_extended newest (log_extended newer history)
grown_twice newest newer history = ap (λ (l : List Slot). record history { log = l }) (append_twice newest newer history.log)

-- what waits of a message is dropped
drops_rest_ends : (queued : List Message) (history : History) (first acknowledged own now : ℕ) (last : Item) (old new : Stage) → Stands queued history first acknowledged old → IsNamedFragment history own last.fragment → IsOfLimited history.log last.fragment → IsTail history last old → DropsRestOfMessage now last old new → Ends queued history first acknowledged new
drops_rest_ends queued history first acknowledged own now last old new stands named limited tail drops =
    subst (λ (s : Stage). Ends queued history first acknowledged s) (sym drops.is) (go drops.drops.is_dropped drops.drops.drops drops.drops.ends)
  where
    -- the message that is dropped may be abandoned, so it is kept whole
    kept_whole : (named' : IsMessageUnderWay old.waiting last.fragment.stream last.fragment.message_id) → is_always_whole named'.message old.waiting ≡ true
    kept_whole named' =
        let streams = old.waiting.streams in
        let was = front_queued queued (stream_at streams named'.place).id (stream_at streams named'.place).messages named'.message (stands.queue_holds.wait named'.place) named'.front in
        let both : Some was.message ≡ Some limited.piece.message = sym was.at ∙ ap (λ (k : ℕ). at_place k queued) (named'.named ∙ limited.of) ∙ (stands.cut.pieces limited.number limited.piece limited.at).at in
        let same : was.message ≡ limited.piece.message = cc in
        let may : may_be_abandoned named'.message ≡ true = was.is.limited (ap (λ (m : Message). m.is_limited) same ∙ limited.limited) in
        ap (λ (b : Bool). b || not (queue_interleaves old.waiting)) may

    all_limited : (n : ℕ) (f : Piece) → at_place n history.log ≡ Some (Some f) → f.place ≡ last.fragment.message_id → f.message.is_limited ≡ true
    all_limited n f at place =
        let both : Some f.message ≡ Some limited.piece.message = sym (stands.cut.pieces n f at).at ∙ ap (λ (k : ℕ). at_place k queued) (place ∙ limited.of) ∙ (stands.cut.pieces limited.number limited.piece limited.at).at in
        let same : f.message ≡ limited.piece.message = cc in
        ap (λ (m : Message). m.is_limited) same ∙ limited.limited

    -- the newest piece is of that message
    dropped_limited : (discards : Discards old.waiting last.fragment.stream last.fragment.message_id old.told new.waiting new.told)
        → (n : ℕ) (f : Piece) → at_place n history.log ≡ Some (Some f) → n + 1 ≡ length history.log → f.message.is_limited ≡ true
    dropped_limited discards n f at is_newest =
        all_limited n f at (newest_named queued history old.waiting last.fragment.stream last.fragment.message_id discards.named stands.queue_holds stands.numbers (kept_whole discards.named) n f at is_newest)

    -- and so is each after the last one in flight
    of_last : (discards : Discards old.waiting last.fragment.stream last.fragment.message_id old.told new.waiting new.told) → (k : ℕ) (f : Piece) → named.number < k → at_place k history.log ≡ Some (Some f) → f.place ≡ named.piece.place
    of_last discards k f past at =
        let below = at_below k (Some f) history.log at in
        let (g, there, is) =
        newest_there queued history old.waiting last.fragment.stream last.fragment.message_id discards.named stands.queue_holds stands.numbers (kept_whole discards.named) (omega (arith, below)) in
        row_between queued history.log stands.cut named.number (length history.log - 1) k named.piece g f named.at there (sym named.of ∙ sym is) (all_limited (length history.log - 1) g there is) (omega (arith, past)) (omega (arith, below)) at

    go : (dropped : Bool) → DiscardsNamed old.waiting last.fragment.stream last.fragment.message_id old.told dropped new.waiting new.told → EndsDropped now old.queue.reset_begun last old.queue.outstanding drops.outstanding dropped
        → Ends queued history first acknowledged (record old { queue = record old.queue { outstanding = drops.outstanding }; waiting = new.waiting; told = new.told })
    go true discards ends =
        let whole = kept_whole discards.named in
        record {
          more = None ∷ [];
          none = λ n f at. absurd (let nothing : at_place n [] ≡ Some (Some f) = with_none [] n f at in cc);
          stands = record {
            queue_holds = discards_hold queued history old.waiting new.waiting last.fragment.stream last.fragment.message_id old.told new.told stands.queue_holds stands.numbers discards whole;
            cut = cut_none queued history.log (dropped_limited discards) stands.cut;
            bears = subst (λ (o : OutstandingState). Bears (with_slot None history) first acknowledged o) (sym ends.grows)
                (bears_grown history first acknowledged None ends.item old.queue.outstanding stands.bears (ap (λ (f : Fragment). f.payload) ends.is_end.is)
                (subst (λ (f : Fragment). IsNamedFragment (with_slot None history) (length history.log) f) (sym ends.is_end.is)
                (named_end history own last.fragment named
                (end_whole queued history first own old.waiting new.waiting last.fragment old.told new.told stands.queue_holds stands.cut stands.marks stands.numbers discards whole named)
                (of_last discards)))
                (λ is. limited_stays None history.log ends.item.fragment (limited_same history.log ends.item.fragment last.fragment (ap (λ (f : Fragment). f.message_id) ends.is_end.is) limited))
                (subst (λ (b : Bool). Pends history b) (sym ends.is_end.begins_after_reset) stands.pends)
                (λ plain none. whole_grown history.log acknowledged None ends.item old.queue.outstanding.items stands.bears.count (stands.bears.whole plain none)
                (λ k item at is_last unended. ap (λ (f : Fragment). f.message_id) ends.is_end.is ∙ tail plain none k item at is_last unended) (λ e. ap (λ (f : Fragment). f.is_end) ends.is_end.is)
                (λ is unended. (let clash : true ≡ false = sym (ap (λ (f : Fragment). f.is_end) ends.is_end.is) ∙ unended in absurd (cc)))
                (λ begins. ap (λ (l : List Slot). length l) (stands.pends.none (sym ends.is_end.begins_after_reset ∙ begins) none))));
            pends = pends_later None history first old.waiting.streams old.queue.reset_begun stands.marks
                (λ begun none. (let gone : at_place named.number [] ≡ Some (Some named.piece) = subst (λ (l : List Slot). at_place named.number l ≡ Some (Some named.piece)) (stands.pends.none begun none) named.at in absurd (cc)));
            marks = marks_none history first old.waiting.streams new.waiting.streams
                (discards_ways queued history old.waiting new.waiting last.fragment.stream last.fragment.message_id old.told new.told stands.queue_holds stands.numbers discards whole) stands.marks;
            numbers = discards_numbered queued history old.waiting new.waiting last.fragment.stream last.fragment.message_id old.told new.told stands.queue_holds stands.numbers discards whole all_limited;
            kind = ap (λ (o : OutstandingState). o.is_interleaved) ends.grows ∙ stands.kind ∙ sym (ap (λ (w : SendQueueState). w.is_interleaved) discards.left);
          };
        }
    go false discards ends =
        end queued history first acknowledged _
        (record {
          queue_holds = subst (λ (w : SendQueueState). HoldsQueued queued history.log w.streams) (sym discards.1) stands.queue_holds;
          cut = stands.cut;
          bears = subst (λ (o : OutstandingState). Bears history first acknowledged o) (sym ends) stands.bears;
          pends = stands.pends;
          marks = subst (λ (w : SendQueueState). AreMarks history first w.streams) (sym discards.1) stands.marks;
          numbers = subst (λ (w : SendQueueState). NumbersMessages history w) (sym discards.1) stands.numbers;
          kind = ap (λ (o : OutstandingState). o.is_interleaved) ends ∙ stands.kind ∙ sym (ap (λ (w : SendQueueState). w.is_interleaved) discards.1);
        })

closes_end : (queued : List Message) (history : History) (first acknowledged own now : ℕ) (last : Item) (old new : Stage) (is_end : Bool) → Stands queued history first acknowledged old → IsNamedFragment history own last.fragment → IsOfLimited history.log last.fragment → (is_end ≡ false → IsTail history last old) → ClosesMessage now last old new is_end → Ends queued history first acknowledged new
closes_end queued history first acknowledged own now last old new true stands named limited tail closes =
    end queued history first acknowledged new (subst (λ (s : Stage). Stands queued history first acknowledged s) (sym closes) (record { queue_holds = stands.queue_holds; cut = stands.cut; bears = stands.bears; pends = stands.pends; marks = stands.marks; numbers = stands.numbers; kind = stands.kind }))
closes_end queued history first acknowledged own now last old new false stands named limited tail closes =
    elim closes [
      | inl e ↦ drops_rest_ends queued history first acknowledged own now last old new stands named limited (tail refl) e.1
      | inr e ↦ end queued history first acknowledged new (subst (λ (s : Stage). Stands queued history first acknowledged s) (sym e.1) stands)
    ]

-- What was in flight before the message was closed still is.
closes_items : (now k : ℕ) (last item : Item) (old new : Stage) (is_end : Bool) → k < length old.queue.outstanding.items → ClosesMessage now last old new is_end → slice_get new.queue.outstanding.items k ≡ Some item
    → slice_get old.queue.outstanding.items k ≡ Some item
closes_items now k last item old new true below closes at = ap (λ (s : Stage). slice_get s.queue.outstanding.items k) (sym closes) ∙ at
closes_items now k last item old new false below (inr closes) at = ap (λ (s : Stage). slice_get s.queue.outstanding.items k) (sym closes.1) ∙ at
closes_items now k last item old new false below (inl closes) at =
    go closes.1.drops.is_dropped closes.1.drops.ends (ap (λ (s : Stage). slice_get s.queue.outstanding.items k) (sym closes.1.is) ∙ at)
  where
    go : (dropped : Bool) → EndsDropped now old.queue.reset_begun last old.queue.outstanding closes.1.outstanding dropped → slice_get closes.1.outstanding.items k ≡ Some item → slice_get old.queue.outstanding.items k ≡ Some item
    go true ends at' =
        elim (at_last old.queue.outstanding.items ends.item k item (ap (λ (o : OutstandingState). slice_get o.items k) (sym ends.grows) ∙ at')) [
          | inl there ↦ there
          | inr e ↦ (let past = e.0 in absurd (omega (arith, below, past)))
        ]
    go false ends at' = ap (λ (o : OutstandingState). slice_get o.items k) (sym ends) ∙ at'

-- The message of an item that is due to be abandoned is.
pub gives_up_ends : (queued : List Message) (history : History) (first acknowledged now place : ℕ) (old new : Stage) → Stands queued history first acknowledged old
    → (item : Item) → slice_get old.queue.outstanding.items place ≡ Some item → is_abandonment_due now old.queue.partial_reliability item ≡ true → GivesUpItem now place old new → Ends queued history first acknowledged new
gives_up_ends queued history first acknowledged now place old new stands item at due gives =
    let limited = limited_due history (acknowledged + place) now old.queue.partial_reliability item (stands.bears.named place item at) due in
    let begins = gives.message.0 in
    let ends = gives.message.1 in
    let to = ends.to in
    let within = ends.within in
    let of_last : IsOfLimited history.log gives.last.fragment =
    limited_same history.log gives.last.fragment item.fragment (ends.same gives.last_place gives.last item (omega (arith, to)) (omega arith) gives.at at) limited in
    let closed = closes_end queued history first acknowledged (acknowledged + gives.last_place) now gives.last old gives.closed gives.last.fragment.is_end stands (stands.bears.named gives.last_place gives.last gives.at) of_last (λ unended. tail_of history first acknowledged place gives.start gives.last_place old gives.last stands.bears gives.message gives.at unended) gives.closes in
    record {
      more = closed.more;
      none = closed.none;
      stands = subst (λ (s : Stage). Stands queued (log_extended closed.more history) first acknowledged s) (sym gives.is)
          (record {
            queue_holds = closed.stands.queue_holds;
            cut = closed.stands.cut;
            bears = bears_abandoned (log_extended closed.more history) first acknowledged Abandon gives.start (gives.last_place + 1) gives.closed.queue.outstanding closed.stands.bears
                (λ k other there from below is. (
                let before = closes_items now k gives.last other old gives.closed gives.last.fragment.is_end (omega (arith, below, within)) gives.closes there in
                limited_more closed.more history.log other.fragment (limited_same history.log other.fragment item.fragment
                (elim (leb_tells k place) [
                  | inl low ↦ begins.same k other item from low.1 before at
                  | inr high ↦ ends.same k other item (let past = high.1 in omega (arith, past)) below before at
                ]) limited)
                ))
                (λ plain none. given_whole queued history first acknowledged now place old new stands gives plain none (closed.more ++ history.log)
                (λ k other below there. closes_items now k gives.last other old gives.closed gives.last.fragment.is_end below gives.closes there) (closed.stands.bears.whole plain none));
            pends = closed.stands.pends;
            marks = closed.stands.marks;
            numbers = closed.stands.numbers;
            kind = closed.stands.kind;
          });
    }

-- messages that are given up take TSNs that carry no piece
give_up_steps : (queued : List Message) (history : History) (first acknowledged now : ℕ) (old new : Stage) → Stands queued history first acknowledged old → StageSteps (GivesUpFirst now) old new → Ends queued history first acknowledged new
give_up_steps queued history first acknowledged now old new stands none = end queued history first acknowledged old stands
give_up_steps queued history first acknowledged now old new stands (more between _ steps step) =
    let earlier = give_up_steps queued history first acknowledged now old between stands steps in
    let later = gives_up_ends queued (log_extended earlier.more history) first acknowledged now step.place between new earlier.stands step.is_due.item step.is_due.at step.is_due.due step.gives_up in
    record {
      more = later.more ++ earlier.more;
      stands = subst (λ (h : History). Stands queued h first acknowledged new) (sym (grown_twice later.more earlier.more history)) later.stands;
      none = λ n f at. elim (at_either later.more earlier.more n (Some f) at) [ inl e ↦ later.none e.0 f e.1 | inr e ↦ earlier.none n f e ];
    }

pub give_up_all_ends : (queued : List Message) (history : History) (first acknowledged now : ℕ) (old new : Stage) → Stands queued history first acknowledged old → GivesUpAll now old new → Ends queued history first acknowledged new
give_up_all_ends queued history first acknowledged now old new stands gives = give_up_steps queued history first acknowledged now old new stands gives.steps

pub give_up_all_stays : (queued : List Message) (history : History) (first acknowledged now : ℕ) (old new : Stage) → Stands queued history first acknowledged old → GivesUpAll now old new → Stays queued history first acknowledged new
give_up_all_stays queued history first acknowledged now old new stands gives = ended queued history first acknowledged new (give_up_all_ends queued history first acknowledged now old new stands gives)
