-- Without interleaving all ordered messages of a reliable stream were received once their sender has nothing left.
use Rattle.std.proofs.Common.{◌≡◌, ℕ, zero, suc, Bool, true, false, ◌<◌, ◌≤◌, ◌+◌, ◌-◌, ◌^◌, List, [], ◌∷◌, ◌++◌, length, refl, sym, ◌∙◌, ap, arith, subst, inl, inr}
use Rattle.std.specs.Prelude.{Option, None, Some, is_some}
use Rattle.std.proofs.lemmas.Bool.Decides.{eqb_tells}
use Rattle.std.proofs.lemmas.List.{append-nil}
use Rattle.dcsctp_spec_lemmas.specs.types.declared.options.Options.{Options}
use Rattle.dcsctp_spec_lemmas.specs.types.declared.ids.StreamId.{StreamId}
use Rattle.dcsctp_spec_lemmas.specs.types.declared.sending.UnderWay.{UnderWay}
use Rattle.dcsctp_spec_lemmas.specs.spec.queues.SendQueue.{SendQueueState}
use Rattle.dcsctp_spec_lemmas.specs.types.queues.Messages.{MessageContent}
use Rattle.dcsctp_spec_lemmas.specs.types.queues.SendStreams.{Waiting, Stream, front_of, stream_at}
use Rattle.dcsctp_spec_lemmas.specs.spec.queues.Incoming.{stream_on}
use Rattle.dcsctp_delivery_directions.specs.sending.Places.{HasEntry, at_place}
use Rattle.dcsctp_delivery_directions.specs.sending.Log.{Message, Piece, Slot, History, IsLogOfPieces, newest, is_end}
use Rattle.dcsctp_delivery_directions.specs.sending.Losing.{WasSentOf}
use Rattle.dcsctp_delivery_directions.specs.sending.Numbers.{CountsSsns, CountsByKind, HoldsWhole}
use Rattle.dcsctp_delivery_directions.specs.sending.Pieces.{Going, HoldsQueued}
use Rattle.dcsctp_delivery_directions.proofs.sending.Places.{at_below, at_cases, at_some}
use Rattle.dcsctp_delivery_directions.proofs.sending.StreamsNamed.{named_place}
use Rattle.dcsctp_delivery_directions.specs.receiving.Ready.{WereQueued}
use Rattle.dcsctp_delivery_directions.specs.receiving.Tracked.{tracked_number}
use Rattle.dcsctp_delivery_directions.specs.directions.Directions.{Direction, DirectionRun, assigned_count}
use Rattle.dcsctp_delivery_directions.proofs.directions.Reached.{acknowledgements_are_true}
use Rattle.dcsctp_delivery_directions.specs.order.Complete.{HasNothingLeft, AreAllDelivered}
use Rattle.dcsctp_delivery_directions.specs.order.Plain.{CountsPlain, CarriesOrdered, IncomingPlain}
use Rattle.dcsctp_delivery_directions.specs.order.Queue.{IsOrderedOn}
use Rattle.dcsctp_delivery_directions.specs.order.Streams.{IsKeptReliable}
use Rattle.dcsctp_delivery_directions.proofs.order.PlainFront.{CameOn, came_on, read_on}
use Rattle.dcsctp_delivery_directions.proofs.order.PlainMissing.{PassedOn}
use Rattle.dcsctp_delivery_directions.proofs.order.PlainReceived.{ReassemblesPlain, none_handled, some_handled, passed_on}
use Rattle.dcsctp_delivery_directions.proofs.order.PlainWhole.{is_there}

-- ---- where a message ends

newest_is : (n : ℕ) (slot : Slot) (log : List Slot) → at_place n log ≡ Some slot → n + 1 ≡ length log → newest log ≡ Some slot
newest_is n slot [] at is = absurd (cc)
newest_is n slot (s ∷ log) at is =
    elim (at_cases n s slot log at) [
      | inl e ↦ ap Some e.1
      | inr old ↦ absurd (let below = at_below n slot log old in omega (arith, below, is))
    ]

-- The end of the message of this place was sent.
record EndsAt (log : List Slot) (id place : ℕ) : Type 0 where
  offset : ℕ
  piece : Piece
  is : CarriesOrdered log id offset piece
  place_is : piece.place ≡ place
  ends : is_end piece ≡ true

module _ (queued : List Message) (history : History) (cut : IsLogOfPieces queued history.log) (id : ℕ) (counts : CountsPlain id history) (rests : (f : Piece) → newest history.log ≡ Some (Some f) → is_end f ≡ true)
    (unlimited : (n : ℕ) (f : Piece) → CarriesOrdered history.log id n f → f.message.is_limited ≡ false) where
  -- It goes on with the next TSN, or ends.
  goes_on : (d : ℕ) → ((m : ℕ) (g : Piece) → CarriesOrdered history.log id m g → m + d ≡ length history.log → EndsAt history.log id g.place) → (n : ℕ) (f : Piece) → CarriesOrdered history.log id n f → n + suc d ≡ length history.log
      → (b : Bool) → is_end f ≡ b → EndsAt history.log id f.place
  goes_on d rest n f of is true ends = record { offset = n; piece = f; is = of; place_is = refl; ends = ends }
  goes_on d rest n f of is false on =
      elim (eqb_tells (n + 1) (length history.log)) [
        | inl e ↦ absurd (let clash : true ≡ false = sym (rests f (newest_is n (Some f) history.log of.at e.1)) ∙ on in cc)
        | inr e ↦
            (let ne : n + 1 ≡ length history.log → ⊥ = e.1 in
            let below = at_below n (Some f) history.log of.at in
            let (slot, at) = at_some (n + 1) history.log (omega (arith, below, ne)) in
            next slot at)
      ]
    where
      next : (slot : Slot) → at_place (n + 1) history.log ≡ Some slot → EndsAt history.log id f.place
      next None at = absurd (let clash : true ≡ false = sym (cut.shuts n f of.at at) ∙ unlimited n f of in cc)
      next (Some g) at =
          elim (eqb_tells g.start 0) [
            | inl e ↦ absurd (let clash : true ≡ false = sym (counts.closes n f g of.at at e.1) ∙ on in cc)
            | inr e ↦
                (let ne : g.start ≡ 0 → ⊥ = e.1 in
                let kind : g.is_interleaved ≡ false = counts.kinds (n + 1) g at in
                let before = cut.rows (n + 1) g at (omega (arith, ne)) (inl (inl kind, omega arith)) in
                let here : before.earlier ≡ n = (let near = before.near (inl kind) in omega (arith, near)) in
                let both : Some (Some before.before) ≡ Some (Some f) = sym before.at ∙ ap (λ (k : ℕ). at_place k history.log) here ∙ of.at in
                let one : before.before ≡ f = cc in
                let text : g.message ≡ f.message = sym before.message ∙ ap (λ (x : Piece). x.message) one in
                let of' : CarriesOrdered history.log id (n + 1) g = record { at = at; stream = ap (λ (m : Message). m.stream) text ∙ of.stream; ordered = ap (λ (m : Message). m.is_unordered) text ∙ of.ordered } in
                let end = rest (n + 1) g of' (omega (arith, is)) in
                record { offset = end.offset; piece = end.piece; is = end.is; place_is = end.place_is ∙ sym before.place ∙ ap (λ (x : Piece). x.place) one; ends = end.ends })
          ]

  ends_in : (d n : ℕ) (f : Piece) → CarriesOrdered history.log id n f → n + d ≡ length history.log → EndsAt history.log id f.place
  ends_in zero n f of is = absurd (let below = at_below n (Some f) history.log of.at in omega (arith, below, is))
  ends_in (suc d) n f of is = goes_on d (λ m g of' is'. ends_in d m g of' is') n f of is (is_end f) refl

  ends_at : (n : ℕ) (f : Piece) → CarriesOrdered history.log id n f → EndsAt history.log id f.place
  ends_at n f of = ends_in (length history.log - n) n f of (let below = at_below n (Some f) history.log of.at in omega (arith, below))

-- ---- what the receiver has of it

-- where none is ready
none_placed : (queued : List Message) (places : List ℕ) (ready : List MessageContent) → WereQueued queued places ready → ready ≡ [] → places ≡ []
none_placed queued [] ready were none = refl
none_placed queued (place ∷ places) [] were none = absurd were
none_placed queued (place ∷ places) (content ∷ ready) were none = absurd (cc)

-- No stream is held where none waits.
none_held : (queued : List Message) (log : List Slot) (queue : SendQueueState) → HoldsQueued queued log queue.streams → HoldsWhole log queue → ((q : ℕ) → (stream_at queue.streams q).messages ≡ []) → queue.held ≡ None
none_held queued log queue holds whole empty = go queue.held refl
  where
    none : (q : ℕ) (u : Option UnderWay) → Going queued log (stream_at queue.streams q) u → is_some u ≡ true → ⊥
    none q None going is = absurd (cc)
    none q (Some u) going is = (let front : Some going.waiting ≡ None = sym going.front ∙ ap front_of (empty q) in cc)

    go : (held : Option StreamId) → queue.held ≡ held → queue.held ≡ None
    go None is = is
    go (Some id) is =
        let some = whole.held id.0 is in
        let (q, within, named, same) = named_place id.0 queue.streams some in
        absurd (none q (stream_at queue.streams q).under_way (holds.going q) (ap (λ (s : Stream). is_some s.under_way) (sym same) ∙ some))

has_none : (w : Waiting) (messages : List Waiting) → messages ≡ [] → HasEntry w messages → ⊥
has_none w [] none has = has
has_none w (m ∷ messages) none has = absurd (cc)

module _ (these : ℕ → Bool) (first size : ℕ) (small : first < 2 ^ 32) (direction : Direction) (c : CameOn these first direction) (kind : direction.queues.queue.is_interleaved ≡ false) (left : HasNothingLeft direction.queues)
    (covered : tracked_number first (length c.stands.history.log) ≤ direction.tracker.cumulative + 1) (none : direction.reassembly.incoming.ready ≡ []) (id : ℕ) (mine : these id ≡ true) where
  abbrev history : History
  history = c.stands.history

  cut : IsLogOfPieces direction.queued history.log
  cut = c.stands.queues.cut

  rests : (f : Piece) → newest history.log ≡ Some (Some f) → is_end f ≡ true
  rests =
      let ssns : CountsSsns history direction.queues.queue.streams direction.queues.queue.held =
      subst (λ (b : Bool). CountsByKind b history direction.queues.queue.streams direction.queues.queue.held) kind c.stands.queues.numbers.counts in
      ssns.rests (none_held direction.queued history.log direction.queues.queue c.stands.queues.queue_holds c.stands.queues.numbers.whole left.waits)

  unlimited : (n : ℕ) (f : Piece) → CarriesOrdered history.log id n f → f.message.is_limited ≡ false
  unlimited n f of = c.counts.unlimited refl n f of.at (ap these of.stream ∙ mine)

  passed : (k : ℕ) → k < length history.log → PassedOn history.log c.arrives.received.got id k
  passed k less =
      passed_on direction.queued history first size cut false these c.counts small c.arrives.places direction.tracker direction.reassembly c.arrives.received id mine k (omega (arith, less, covered))

  -- a message that was sent has come
  sent_came : (place : ℕ) → IsOrderedOn direction.queued id place → WasSentOf history.log place → (got : List ℕ) → ((k : ℕ) → k < length history.log → PassedOn history.log got id k) → (base : ℕ)
      → IncomingPlain these direction.queued history got base c.arrives.places direction.reassembly.incoming → HasEntry place c.arrives.places
  sent_came place on sent got handled base o =
      let both : Some sent.piece.message ≡ Some on.message = sym (cut.pieces sent.number sent.piece sent.at).at ∙ ap (λ (k : ℕ). at_place k direction.queued) sent.is ∙ on.at in
      let text : sent.piece.message ≡ on.message = cc in
      let of : CarriesOrdered history.log id sent.number sent.piece =
      record { at = sent.at; stream = ap (λ (m : Message). m.stream) text ∙ on.stream; ordered = ap (λ (m : Message). m.is_unordered) text ∙ on.ordered } in
      let end = ends_at direction.queued history cut id (c.counts.each id mine) rests unlimited sent.number sent.piece of in
      let below = at_below end.offset (Some end.piece) history.log end.is.at in
      let there =
      is_there direction.queued history cut id (c.counts.each id mine) got base (c.arrives.places ++ o.holds.places) (o.holds.waits id) (stream_on id direction.reassembly.incoming.streams) (o.order id mine) (o.holds.streams_hold id).rows.ordered
      end.offset end.piece end.is end.ends (λ k up. handled k (omega (arith, below, up))) in
      let nothing : c.arrives.places ++ o.holds.places ≡ c.arrives.places = ap (λ (l : List ℕ). c.arrives.places ++ l) (none_placed direction.queued o.holds.places direction.reassembly.incoming.ready o.holds.were_queued none) ∙ append-nil c.arrives.places in
      subst (λ (p : ℕ). HasEntry p c.arrives.places) (end.place_is ∙ sent.is) (subst (λ (l : List ℕ). HasEntry end.piece.place l) nothing there)

  by_handled : (place : ℕ) → IsOrderedOn direction.queued id place → WasSentOf history.log place → (got : List ℕ) → ((k : ℕ) → k < length history.log → PassedOn history.log got id k)
      → ReassemblesPlain these direction.queued history first got c.arrives.places direction.reassembly.incoming → HasEntry place c.arrives.places
  by_handled place on sent got handled (none_handled nothing last empty) = sent_came place on sent [] (subst (λ (l : List ℕ). (k : ℕ) → k < length history.log → PassedOn history.log l id k) nothing handled) 0 (empty 0)
  by_handled place on sent got handled (some_handled base at o) = sent_came place on sent got handled base o

  all_came : (place : ℕ) → IsOrderedOn direction.queued id place → HasEntry place c.arrives.places
  all_came place on =
      elim (c.kept id mine place on.message on.at on.stream) [
        | inl sent ↦ by_handled place on sent c.arrives.received.got passed c.arrives.received.holds
        | inr waits ↦ absurd (has_none waits.waiting (stream_at direction.queues.queue.streams waits.q).messages (left.waits waits.q) waits.has)
      ]

pub plain_streams_arrive : (these : ℕ → Bool) (options : Options) (first size : ℕ) (direction : Direction) → DirectionRun options first size direction
    → first < 2 ^ 32 → assigned_count direction < 2 ^ 31 → length direction.queued < 2 ^ 64 → size ≤ 2 ^ 63 → direction.queues.queue.is_interleaved ≡ false → direction.beginning.from_zero ≡ true
    → ((id : ℕ) → these id ≡ true → IsKeptReliable direction id) → HasNothingLeft direction.queues → direction.reassembly.incoming.ready ≡ [] → AreAllDelivered these direction.queued direction.read
plain_streams_arrive these options first size direction run small little few window kind from reliable left none =
    let c = came_on these options first size direction run small little few window kind from reliable in
    let true_so = acknowledgements_are_true options first size direction run small little few in
    let count = c.stands.count in
    let flight = left.flight in
    record {
      on = read_on these first direction c;
      all = λ id mine. all_came these first size small direction c kind left (omega (arith, true_so, count, flight)) none id mine;
    }
