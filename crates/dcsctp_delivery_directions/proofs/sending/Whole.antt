-- Without interleaving messages are abandoned as a whole: what is in flight of them, and what waits.
use Rattle.std.proofs.Common.{◌≡◌, ℕ, zero, suc, Bool, true, false, ◌<◌, ◌≤◌, ◌+◌, ◌^◌, List, [], ◌∷◌, ◌++◌, length, refl, sym, ◌∙◌, ap, arith, subst, inl, inr}
use Rattle.std.specs.Prelude.{◌⊎◌, Option, None, Some, is_some, slice_get}
use Rattle.std.proofs.lemmas.Bool.{eq-eqb}
use Rattle.std.proofs.lemmas.Bool.Decides.{eqb_tells, leb_tells}
use Rattle.std.proofs.lemmas.List.{length-append}
use Rattle.dcsctp_spec.specs.types.declared.progress.Change.{Change}
use Rattle.dcsctp_spec.specs.types.declared.progress.Change.TheVariants.{Abandon}
use Rattle.dcsctp_spec.specs.types.declared.progress.Progress.{Progress}
use Rattle.dcsctp_spec.specs.types.declared.ids.StreamId.{StreamId}
use Rattle.dcsctp_spec.specs.types.declared.sending.UnderWay.{UnderWay}
use Rattle.dcsctp_spec.specs.types.queues.Progress.{is_abandoned, progress_changed}
use Rattle.dcsctp_spec.specs.queues.Filling.{Stage, ClosesMessage, GivesUpItem}
use Rattle.dcsctp_spec.specs.queues.ItemMessages.{AreMessageItems, EndsDropped}
use Rattle.dcsctp_spec.specs.queues.Items.{Item, changed_item, changed_between}
use Rattle.dcsctp_spec.specs.queues.Outstanding.{OutstandingState}
use Rattle.dcsctp_spec.specs.queues.SendQueue.{SendQueueState}
use Rattle.dcsctp_spec.specs.queues.Sending.{Fragment, DiscardsNamed, IsMessageUnderWay}
use Rattle.dcsctp_spec.specs.types.queues.SendStreams.{Stream, stream_at}
use Rattle.dcsctp_delivery_directions.specs.sending.Places.{at_place}
use Rattle.dcsctp_delivery_directions.specs.sending.Log.{Message, Piece, Slot, History, newest, newest_on, IsNewestOn, IsInRow, with_slot}
use Rattle.dcsctp_delivery_directions.specs.sending.Numbers.{CountsSsns, CountsByKind}
use Rattle.dcsctp_delivery_directions.specs.sending.Pieces.{HandsOutPiece, Going, CarriesPiece}
use Rattle.dcsctp_delivery_directions.specs.sending.Stages.{SaysSlot, SaysTsn, IsAbandonedItem, AreMessagesWhole, Bears, Stands}
use Rattle.dcsctp_delivery_directions.proofs.sending.Places.{at_new, at_stays}
use Rattle.dcsctp_delivery_directions.proofs.sending.Stages.{item_at, abandoned_still, whole_changed}
use Rattle.dcsctp_delivery_directions.proofs.sending.StreamsNamed.{named_place}

-- ---- a new item continues the message of the last one

-- an item that isn't an end carries a piece
piece_at : (history : History) (acknowledged k : ℕ) (item : Item) (items : List Item) → AreMessagesWhole history.log acknowledged items → slice_get items k ≡ Some item → item.fragment.is_end ≡ false → SaysTsn history.log (acknowledged + k) item.fragment
    → (f : Piece) × (at_place (acknowledged + k) history.log ≡ Some (Some f)) × CarriesPiece item.fragment f
piece_at history acknowledged k item items w at unended says = go says.slot says.at says.says
  where
    go : (slot : Slot) → at_place (acknowledged + k) history.log ≡ Some slot → SaysSlot item.fragment slot → (f : Piece) × (at_place (acknowledged + k) history.log ≡ Some (Some f)) × CarriesPiece item.fragment f
    go None there says' = absurd (let clash : true ≡ false = sym (w.closed k item at there) ∙ unended in cc)
    go (Some f) there says' = (f, there, says')

pub continues : (queued : List Message) (history : History) (first acknowledged : ℕ) (outstanding : OutstandingState) → Bears history first acknowledged outstanding → outstanding.is_interleaved ≡ false → history.marks ≡ []
    → (part : Fragment) (new : SendQueueState) (handed : HandsOutPiece queued history part new) → new.is_interleaved ≡ false
    → (k : ℕ) (last : Item) → slice_get outstanding.items k ≡ Some last → k + 1 ≡ length outstanding.items → last.fragment.is_end ≡ false → part.message_id ≡ last.fragment.message_id
continues queued history first acknowledged outstanding b plain none part new handed kind k last at is_last unended =
    let (f, there, says) = piece_at history acknowledged k last outstanding.items (b.whole plain none) at unended (b.items k last at) in
    let count = b.count in
    let next : acknowledged + k + 1 ≡ length history.log = omega (arith, count, is_last) in
    elim (eqb_tells handed.piece.start 0) [
      | inl e ↦
          (let c : CountsSsns (with_slot (Some handed.piece) history) new.streams new.held = subst (λ (x : Bool). CountsByKind x (with_slot (Some handed.piece) history) new.streams new.held) kind handed.numbers.counts in
          let end = c.closes (acknowledged + k) f handed.piece (at_stays (acknowledged + k) (Some handed.piece) (Some f) history.log there)
          (subst (λ (n : ℕ). at_place n (Some handed.piece ∷ history.log) ≡ Some (Some handed.piece)) (sym next) (at_new (Some handed.piece) history.log)) e.1 in
          absurd (let clash : true ≡ false = sym end ∙ sym says.end ∙ unended in cc))
      | inr e ↦
          (let ne : handed.piece.start ≡ 0 → ⊥ = e.1 in
          let row : IsInRow handed.piece = inl (handed.numbers.kinds (length history.log) handed.piece (at_new (Some handed.piece) history.log) ∙ kind) in
          let some : 0 < length history.log = omega (arith, next) in
          let before = handed.row (omega (arith, ne)) (inl (row, some)) in
          let near = before.near row in
          let here : before.earlier ≡ acknowledged + k = omega (arith, near, next) in
          let both : Some (Some before.before) ≡ Some (Some f) = sym (subst (λ (n : ℕ). at_place n history.log ≡ Some (Some before.before)) here before.at) ∙ there in
          let same : before.before ≡ f = cc in
          handed.says.named ∙ sym before.place ∙ ap (λ (x : Piece). x.place) same ∙ sym says.named)
    ]

-- ---- a message that is abandoned

-- The last item in flight is of the same message, if that hasn't ended.
abbrev pub IsTail : History → Item → Stage → Type 0
IsTail history last old =
    old.queue.outstanding.is_interleaved ≡ false → history.marks ≡ [] → (k : ℕ) (item : Item) → slice_get old.queue.outstanding.items k ≡ Some item → k + 1 ≡ length old.queue.outstanding.items
    → item.fragment.is_end ≡ false → last.fragment.message_id ≡ item.fragment.message_id

module _ (history : History) (first acknowledged place start last_place : ℕ) (old : Stage) (last : Item) (b : Bears history first acknowledged old.queue.outstanding) (message : AreMessageItems place start (last_place + 1) old.queue.outstanding.items)
    (at : slice_get old.queue.outstanding.items last_place ≡ Some last) (unended : last.fragment.is_end ≡ false) where
  -- no item comes after it
  pub tail_place : old.queue.outstanding.is_interleaved ≡ false → history.marks ≡ [] → last_place + 1 ≡ length old.queue.outstanding.items
  tail_place plain none =
      let ends = message.1 in
      let within = ends.within in
      let to = ends.to in
      elim (leb_tells (length old.queue.outstanding.items) (last_place + 1)) [
        | inl e ↦ (let up : length old.queue.outstanding.items ≤ last_place + 1 = e.1 in omega (arith, up, within))
        | inr e ↦
            absurd
            (let (next, at') = item_at (last_place + 1) old.queue.outstanding.items e.1 in
            let (own, at_own) = item_at place old.queue.outstanding.items (omega (arith, within, to)) in
            let same = (b.whole plain none).joined last_place last next at at' unended in
            ends.other next own at' at_own (same ∙ ends.same last_place last own (omega (arith, to)) (omega arith) at at_own))
      ]

  pub tail_of : IsTail history last old
  tail_of plain none k item at_k is_last unended_k =
      let here = tail_place plain none in
      let same_place : k ≡ last_place = omega (arith, here, is_last) in
      let both : Some item ≡ Some last = sym at_k ∙ ap (λ (n : ℕ). slice_get old.queue.outstanding.items n) same_place ∙ at in
      let same : item ≡ last = cc in
      ap (λ (x : Item). x.fragment.message_id) (sym same)

at_newest : (log : List Slot) (k : ℕ) (slot : Slot) → at_place k log ≡ Some slot → k + 1 ≡ length log → newest log ≡ Some slot
at_newest [] k slot at is = absurd (omega (arith, is))
at_newest (s ∷ log) k slot at is =
    let here : k ≡ length log = omega (arith, is) in
    sym (at_new s log) ∙ ap (λ (n : ℕ). at_place n (s ∷ log)) (sym here) ∙ at

-- the newest TSN carries a piece of the stream, so that is the newest of it
newest_stream : (log : List Slot) (id : ℕ) (f : Piece) → newest log ≡ Some (Some f) → f.message.stream ≡ id → newest_on id log ≡ Some f
newest_stream [] id f is on = absurd (cc)
newest_stream (None ∷ log) id f is on = absurd (cc)
newest_stream (Some g ∷ log) id f is on =
    let same : g ≡ f = cc in
    rw (eq-eqb g.message.stream id (ap (λ (x : Piece). x.message.stream) same ∙ on)) (ap Some same)

newest_is_on : (log : List Slot) (id : ℕ) (f : Piece) → newest log ≡ Some (Some f) → IsNewestOn id log → f.message.stream ≡ id
newest_is_on [] id f is on = absurd (cc)
newest_is_on (None ∷ log) id f is on = absurd on
newest_is_on (Some g ∷ log) id f is on = (let same : g ≡ f = cc in ap (λ (x : Piece). x.message.stream) (sym same) ∙ on)

-- What waits of a message is under way, if the last item is of it and doesn't end it.
under_way_still : (queued : List Message) (history : History) (first acknowledged : ℕ) (old : Stage) → Stands queued history first acknowledged old → old.queue.outstanding.is_interleaved ≡ false → history.marks ≡ []
    → (k : ℕ) (last : Item) → slice_get old.queue.outstanding.items k ≡ Some last → k + 1 ≡ length old.queue.outstanding.items → last.fragment.is_end ≡ false
    → IsMessageUnderWay old.waiting last.fragment.stream last.fragment.message_id
under_way_still queued history first acknowledged old stands plain none k last at is_last unended = by_held old.waiting.held refl
  where
    found : (f : Piece) × (at_place (acknowledged + k) history.log ≡ Some (Some f)) × CarriesPiece last.fragment f
    found = piece_at history acknowledged k last old.queue.outstanding.items (stands.bears.whole plain none) at unended (stands.bears.items k last at)

    is_newest : newest history.log ≡ Some (Some found.0)
    is_newest = (let count = stands.bears.count in at_newest history.log (acknowledged + k) (Some found.0) found.1 (omega (arith, count, is_last)))

    counts : CountsSsns history old.waiting.streams old.waiting.held
    counts = subst (λ (x : Bool). CountsByKind x history old.waiting.streams old.waiting.held) (sym stands.kind ∙ plain) stands.numbers.counts

    -- the message under way on the stream at this place, which the newest piece is of
    by_place : (q : ℕ) (u : Option UnderWay) → (stream_at old.waiting.streams q).under_way ≡ u → is_some u ≡ true → q < length old.waiting.streams → (stream_at old.waiting.streams q).id ≡ found.0.message.stream
        → Going queued history.log (stream_at old.waiting.streams q) u → IsMessageUnderWay old.waiting last.fragment.stream last.fragment.message_id
    by_place q None is some within on g = absurd (cc)
    by_place q (Some u) is some within on g =
        let newest' : newest_on u.stream_id.0 history.log ≡ Some found.0 = newest_stream history.log u.stream_id.0 found.0 is_newest (sym on ∙ g.is) in
        elim g.came [
          | inl e ↦ absurd (let clash : None ≡ Some found.0 = sym e ∙ newest' in cc)
          | inr c ↦
              (let both : Some c.piece ≡ Some found.0 = sym c.at ∙ newest' in
              let one : c.piece ≡ found.0 = cc in
              record {
                place = q;
                within = within;
                is = on ∙ sym found.2.stream;
                under_way = u;
                goes_on = is;
                message = g.waiting;
                front = g.front;
                named = g.named ∙ sym c.is ∙ ap (λ (x : Piece). x.place) one ∙ sym found.2.named;
              })
        ]

    by_held : (h : Option StreamId) → old.waiting.held ≡ h → IsMessageUnderWay old.waiting last.fragment.stream last.fragment.message_id
    by_held None is = absurd (let end = counts.rests is found.0 is_newest in let clash : true ≡ false = sym end ∙ sym found.2.end ∙ unended in cc)
    by_held (Some h) is =
        let some = stands.numbers.whole.held h.0 is in
        let on = newest_is_on history.log h.0 found.0 is_newest (stands.numbers.whole.newest h.0 is) in
        let (q, within, id, same) = named_place h.0 old.waiting.streams some in
        by_place q (stream_at old.waiting.streams q).under_way refl (ap (λ (s : Stream). is_some s.under_way) (sym same) ∙ some) within (id ∙ sym on) (stands.queue_holds.going q)

-- a change reaches each item in its range
changed_in : (change : Change) (start end place : ℕ) (items : List Item) (item : Item) → slice_get items place ≡ Some item → start ≤ place → place < end → slice_get (changed_between change start end items) place ≡ Some (changed_item change item)
changed_in change zero zero place items item at from below = absurd (omega (arith, below))
changed_in change zero (suc end) zero [] item at from below = absurd (cc)
changed_in change zero (suc end) (suc place) [] item at from below = absurd (cc)
changed_in change zero (suc end) zero (i ∷ items) item at from below = (let same : i ≡ item = cc in ap (λ (x : Item). Some (changed_item change x)) same)
changed_in change zero (suc end) (suc place) (i ∷ items) item at from below = changed_in change zero end place items item at (omega arith) (omega (arith, below))
changed_in change (suc start) zero place items item at from below = absurd (omega (arith, below))
changed_in change (suc start) (suc end) zero items item at from below = absurd (omega (arith, from))
changed_in change (suc start) (suc end) (suc place) [] item at from below = absurd (cc)
changed_in change (suc start) (suc end) (suc place) (i ∷ items) item at from below = changed_in change start end place items item at (omega (arith, from)) (omega (arith, below))

at_end : (items : List Item) (last : Item) (k : ℕ) → k ≡ length items → slice_get (items ++ last ∷ []) k ≡ Some last
at_end [] last zero is = refl
at_end [] last (suc k) is = absurd (omega (arith, is))
at_end (i ∷ items) last zero is = absurd (omega (arith, is))
at_end (i ∷ items) last (suc k) is = at_end items last k (omega (arith, is))

closes_longer : (now : ℕ) (last : Item) (old new : Stage) (is_end : Bool) → ClosesMessage now last old new is_end → (length old.queue.outstanding.items ≤ length new.queue.outstanding.items) × (new.queue.outstanding.is_interleaved ≡ old.queue.outstanding.is_interleaved)
closes_longer now last old new true closes = (let same = ap (λ (s : Stage). length s.queue.outstanding.items) closes in omega (arith, same), ap (λ (s : Stage). s.queue.outstanding.is_interleaved) closes)
closes_longer now last old new false (inr closes) = (let same = ap (λ (s : Stage). length s.queue.outstanding.items) closes.1 in omega (arith, same), ap (λ (s : Stage). s.queue.outstanding.is_interleaved) closes.1)
closes_longer now last old new false (inl closes) =
    let rest = go closes.1.drops.is_dropped closes.1.drops.ends in
    (let same = ap (λ (s : Stage). length s.queue.outstanding.items) closes.1.is in let up = rest.0 in omega (arith, same, up), ap (λ (s : Stage). s.queue.outstanding.is_interleaved) closes.1.is ∙ rest.1)
  where
    go : (dropped : Bool) → EndsDropped now old.queue.reset_begun last old.queue.outstanding closes.1.outstanding dropped
        → (length old.queue.outstanding.items ≤ length closes.1.outstanding.items) × (closes.1.outstanding.is_interleaved ≡ old.queue.outstanding.is_interleaved)
    go true ends =
        (let same = ap (λ (o : OutstandingState). length o.items) ends.grows in omega (arith, same, length-append old.queue.outstanding.items (ends.item ∷ [])), ap (λ (o : OutstandingState). o.is_interleaved) ends.grows)
    go false ends = (let same = ap (λ (o : OutstandingState). length o.items) ends in omega (arith, same), ap (λ (o : OutstandingState). o.is_interleaved) ends)

module _ (queued : List Message) (history : History) (first acknowledged now place : ℕ) (old new : Stage) (stands : Stands queued history first acknowledged old) (gives : GivesUpItem now place old new)
    (plain' : gives.closed.queue.outstanding.is_interleaved ≡ false) (none : history.marks ≡ []) where
  plain : old.queue.outstanding.is_interleaved ≡ false
  plain = sym (closes_longer now gives.last old gives.closed gives.last.fragment.is_end gives.closes).1 ∙ plain'

  -- its end comes after its last item, or there is no TSN left for it
  end_comes : gives.last.fragment.is_end ≡ false → IsAbandonedItem gives.closed.queue.outstanding.items (gives.last_place + 1) ⊎ (2 ^ 31 ≤ acknowledged + gives.last_place + 2)
  end_comes unended = go gives.last.fragment.is_end unended gives.closes
    where
      tail : gives.last_place + 1 ≡ length old.queue.outstanding.items
      tail = tail_place history first acknowledged place gives.start gives.last_place old gives.last stands.bears gives.message gives.at unended plain none

      go : (end : Bool) → end ≡ false → ClosesMessage now gives.last old gives.closed end → IsAbandonedItem gives.closed.queue.outstanding.items (gives.last_place + 1) ⊎ (2 ^ 31 ≤ acknowledged + gives.last_place + 2)
      go true e closes = absurd (cc)
      go false e (inr closes) = (let full = closes.0 in inr (omega (arith, full, tail)))
      go false e (inl closes) = by_drop closes.1.drops.is_dropped closes.1.drops.drops closes.1.drops.ends
        where
          by_drop : (dropped : Bool) → DiscardsNamed old.waiting gives.last.fragment.stream gives.last.fragment.message_id old.told dropped gives.closed.waiting gives.closed.told
              → EndsDropped now old.queue.reset_begun gives.last old.queue.outstanding closes.1.outstanding dropped → IsAbandonedItem gives.closed.queue.outstanding.items (gives.last_place + 1) ⊎ (2 ^ 31 ≤ acknowledged + gives.last_place + 2)
          by_drop true discards ends =
              inl (
                ends.item,
                ap (λ (s : Stage). slice_get s.queue.outstanding.items (gives.last_place + 1)) closes.1.is ∙ ap (λ (o : OutstandingState). slice_get o.items (gives.last_place + 1)) ends.grows
                    ∙ at_end old.queue.outstanding.items ends.item (gives.last_place + 1) tail,
                ap (λ (p : Progress). is_abandoned p.state) ends.is_end.progress,
              )
          by_drop false discards ends = absurd (discards.0 (under_way_still queued history first acknowledged old stands plain none gives.last_place gives.last gives.at tail unended))

  pub given_whole : (log : List Slot) → ((k : ℕ) (item : Item) → k < length old.queue.outstanding.items → slice_get gives.closed.queue.outstanding.items k ≡ Some item → slice_get old.queue.outstanding.items k ≡ Some item)
      → AreMessagesWhole log acknowledged gives.closed.queue.outstanding.items → AreMessagesWhole log acknowledged (changed_between Abandon gives.start (gives.last_place + 1) gives.closed.queue.outstanding.items)
  given_whole log were w =
      whole_changed log acknowledged Abandon gives.start (gives.last_place + 1) gives.closed.queue.outstanding.items w (λ k item at from below is. refl) newly
    where
      within : gives.last_place + 1 ≤ length old.queue.outstanding.items
      within = gives.message.1.within

      newly : (k : ℕ) (item : Item) → slice_get gives.closed.queue.outstanding.items k ≡ Some item → gives.start ≤ k → k < gives.last_place + 1 → is_abandoned (progress_changed Abandon item.progress).state ≡ true → item.fragment.is_end ≡ false
          → IsAbandonedItem (changed_between Abandon gives.start (gives.last_place + 1) gives.closed.queue.outstanding.items) (k + 1) ⊎ (2 ^ 31 ≤ acknowledged + k + 2)
      newly k item at from below is unended =
          elim (leb_tells (k + 1) gives.last_place) [
            | inl e ↦
                (let up : k + 1 ≤ gives.last_place = e.1 in
                let longer = (closes_longer now gives.last old gives.closed gives.last.fragment.is_end gives.closes).0 in
                let (next, at') = item_at (k + 1) gives.closed.queue.outstanding.items (omega (arith, up, within, longer)) in
                inl (changed_item Abandon next, changed_in Abandon gives.start (gives.last_place + 1) (k + 1) gives.closed.queue.outstanding.items next at' (omega (arith, from)) (omega (arith, up)), refl))
            | inr e ↦
                (let past : gives.last_place < k + 1 = e.1 in
                let here : k ≡ gives.last_place = omega (arith, past, below) in
                let there = were k item (omega (arith, below, within)) at in
                let both : Some item ≡ Some gives.last = sym there ∙ ap (λ (n : ℕ). slice_get old.queue.outstanding.items n) here ∙ gives.at in
                let same : item ≡ gives.last = cc in
                elim (end_comes (ap (λ (x : Item). x.fragment.is_end) (sym same) ∙ unended)) [
                  | inl next ↦
                      inl (subst (λ (n : ℕ). IsAbandonedItem (changed_between Abandon gives.start (gives.last_place + 1) gives.closed.queue.outstanding.items) n) (ap (λ (n : ℕ). n + 1) (sym here))
                      (abandoned_still Abandon gives.start (gives.last_place + 1) gives.closed.queue.outstanding.items (gives.last_place + 1) (λ j other at_j from_j below_j is_j. refl) next))
                  | inr last ↦ inr (omega (arith, last, here))
                ])
          ]
