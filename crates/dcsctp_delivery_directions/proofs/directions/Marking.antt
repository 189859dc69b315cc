-- What was read no longer waits.
use Rattle.std.proofs.Common.{◌≡◌, ◌≢◌, ℕ, ◌<◌, ◌+◌, ◌^◌, List, [], ◌∷◌, length, drop, refl, sym, ◌∙◌, ap, arith, subst, inl, inr}
use Rattle.std.specs.Prelude.{Option, None, Some, is_some, if◌then◌else◌}
use Rattle.std.proofs.lemmas.Bool.{eqb-true}
use Rattle.std.proofs.lemmas.Bool.Decides.{eqb_tells}
use Rattle.dcsctp_spec.specs.types.declared.options.Options.{Options}
use Rattle.dcsctp_spec.specs.types.declared.sending.UnderWay.{UnderWay}
use Rattle.dcsctp_spec.specs.types.queues.SendStreams.{Waiting, Stream, front_of, stream_at}
use Rattle.dcsctp_delivery_directions.specs.sending.Places.{HasEntry, at_place}
use Rattle.dcsctp_delivery_directions.specs.sending.Log.{Message, Piece, Slot, History, IsLogOfPieces}
use Rattle.dcsctp_delivery_directions.specs.sending.Marking.{NoneNamed, WaitsNoLonger}
use Rattle.dcsctp_delivery_directions.specs.directions.Marking.{IsUnspent, AreDeliveredForGood}
use Rattle.dcsctp_delivery_directions.specs.sending.Pieces.{AllQueued, AllBeyond, ComesTo, IsGoing, Going, HoldsQueued}
use Rattle.dcsctp_delivery_directions.specs.receiving.Received.{Reassembles, untouched, placed}
use Rattle.dcsctp_delivery_directions.specs.receiving.Rows.{Spent}
use Rattle.dcsctp_delivery_directions.specs.directions.Directions.{Direction, DirectionRun, assigned_count}
use Rattle.dcsctp_delivery_directions.proofs.sending.Places.{decide}
use Rattle.dcsctp_delivery_directions.proofs.sending.Newest.{IsNewestPiece, newest_found, newest_none}
use Rattle.dcsctp_delivery_directions.proofs.receiving.Distinct.{has_left}
use Rattle.dcsctp_delivery_directions.proofs.receiving.Chaining.{lies_behind}
use Rattle.dcsctp_delivery_directions.proofs.directions.Directions.{run_stands}

-- ---- lists

beyond_named : (place : ℕ) (messages : List Waiting) → AllBeyond place messages → NoneNamed place messages
beyond_named place [] beyond = tt
beyond_named place (w ∷ messages) beyond = (λ is. (let less = beyond.0 in absurd (omega (arith, less, is))), beyond_named place messages beyond.1)

-- ---- where the last piece of a message is

module _ (queued : List Message) (log : List Slot) (cut : IsLogOfPieces queued log) (n : ℕ) (f : Piece) (at : at_place n log ≡ Some (Some f)) (last : f.start + f.size ≡ length f.message.payload) where
  -- the message under way is another one
  going_on : (stream : Stream) (v : UnderWay) → (g : IsGoing queued log stream v) → f.message.stream ≡ stream.id → f.place ≡ g.place → ⊥
  going_on stream v g on same =
      elim g.came [
        | inl none ↦ newest_none v.stream_id.0 log none n f at (on ∙ g.is)
        | inr c ↦ offset c (newest_found v.stream_id.0 log c.piece c.at)
      ]
    where
      offset : (c : ComesTo log g.place v g.message) → IsNewestPiece v.stream_id.0 log c.piece → ⊥
      offset c newest =
          let both : Some f.message ≡ Some g.message = sym (cut.pieces n f at).at ∙ ap (λ (p : ℕ). at_place p queued) same ∙ g.at in
          let one : f.message ≡ g.message = cc in
          let long : length f.message.payload ≡ length g.message.payload = ap (λ (m : Message). length m.payload) one in
          let ends = c.end in
          let unfinished = g.unfinished in
          let up = newest.last n f at (on ∙ g.is) in
          elim (eqb_tells n newest.number) [
            | inl e ↦
                (let pieces : Some (Some f) ≡ Some (Some c.piece) = sym at ∙ ap (λ (k : ℕ). at_place k log) e.1 ∙ newest.at in
                let alike : f ≡ c.piece = cc in
                let sizes : f.start + f.size ≡ c.piece.start + c.piece.size = ap (λ (x : Piece). x.start + x.size) alike in
                omega (arith, sizes, ends, unfinished, long, last))
            | inr e ↦
                (let differs : n ≢ newest.number = e.1 in
                let start = (lies_behind queued log cut n newest.number f c.piece (omega (arith, up, differs)) at newest.at (c.is ∙ sym same)).start in
                omega (arith, start, ends, unfinished, long, last))
          ]

  -- ---- what waits

  -- on another stream
  elsewhere : (id : ℕ) (messages : List Waiting) → AllQueued queued id messages → f.message.stream ≢ id → NoneNamed f.place messages
  elsewhere id [] are other = tt
  elsewhere id (w ∷ messages) are other = (
    λ is. (
        let both : Some are.0.message ≡ Some f.message = sym are.0.at ∙ ap (λ (p : ℕ). at_place p queued) is ∙ (cut.pieces n f at).at in
        let one : are.0.message ≡ f.message = cc in
        other (ap (λ (m : Message). m.stream) (sym one) ∙ sym are.0.is.stream)
        ),
    elsewhere id messages are.1 other,
  )

  front_and_rest : (stream : Stream) (v : UnderWay) → (g : IsGoing queued log stream v) → f.message.stream ≡ stream.id → (messages : List Waiting) → stream.messages ≡ messages → AllBeyond f.place (drop 1 messages) → NoneNamed f.place messages
  front_and_rest stream v g on [] is beyond = tt
  front_and_rest stream v g on (w ∷ messages) is beyond = (
    λ named. (
        let both : ◌≡◌ {A = Option Waiting} (Some w) (Some g.waiting) = sym (ap front_of is) ∙ g.front in
        let one : w ≡ g.waiting = cc in
        going_on stream v g on (sym named ∙ ap (λ (x : Waiting). x.message_id) one ∙ g.named)
        ),
    beyond_named f.place messages beyond,
  )

  here : (stream : Stream) → f.message.stream ≡ stream.id → (u : Option UnderWay) → Going queued log stream u → AllBeyond f.place (drop (if is_some u then 1 else 0) stream.messages) → NoneNamed f.place stream.messages
  here stream on None going beyond = beyond_named f.place stream.messages beyond
  here stream on (Some v) going beyond = front_and_rest stream v going on stream.messages refl beyond

  ended_gone : (streams : List Stream) → HoldsQueued queued log streams → WaitsNoLonger f.place streams
  ended_gone streams queue_holds q =
      elim (decide f.message.stream (stream_at streams q).id) [
        | inl same ↦ here (stream_at streams q) same (stream_at streams q).under_way (queue_holds.going q) (queue_holds.beyond q n f at same)
        | inr other ↦ elsewhere (stream_at streams q).id (stream_at streams q).messages (queue_holds.wait q) other
      ]

-- ---- what was read

-- some TSNs were handled
record SpentBy (log : List Slot) (place : ℕ) : Type 0 where
  got : List ℕ
  spent : Spent log got place

spent_of : (queued : List Message) (history : History) (first : ℕ) (got read : List ℕ) (incoming : _) (place : ℕ) → Reassembles queued history first got read incoming → HasEntry place read → SpentBy history.log place
spent_of queued history first got read incoming place (untouched none number holds) h =
    let held = holds 0 in record { got = []; spent = held.spent place (has_left place read held.places h) }
spent_of queued history first got read incoming place (placed base is held) h = record { got = got; spent = held.spent place (has_left place read held.places h) }

spent_gone : (queued : List Message) (log : List Slot) (streams : List Stream) (place : ℕ) → IsLogOfPieces queued log → HoldsQueued queued log streams → SpentBy log place → WaitsNoLonger place streams
spent_gone queued log streams place cut queue_holds by =
    let s = by.spent in
    subst (λ (p : ℕ). WaitsNoLonger p streams) s.same
    (ended_gone queued log cut s.last_offset s.last s.at_last (eqb-true (s.last.start + s.last.size) (length s.last.message.payload) s.ends) streams queue_holds)

spent_fresh : (queued : List Message) (log : List Slot) (place : ℕ) → IsLogOfPieces queued log → SpentBy log place → IsUnspent queued place
spent_fresh queued log place cut by =
    let s = by.spent in
    let piece = cut.pieces s.last_offset s.last s.at_last in
    record { message = s.last.message; at = ap (λ (k : ℕ). at_place k queued) (sym s.same) ∙ piece.at; fresh = piece.fresh }

pub directions_deliver_for_good : (options : Options) (first size : ℕ) (direction : Direction) → DirectionRun options first size direction → first < 2 ^ 32 → assigned_count direction < 2 ^ 31 → length direction.queued < 2 ^ 64 → AreDeliveredForGood direction
directions_deliver_for_good options first size direction run small little few =
    let s = run_stands options first size direction small few run in
    let a = s.arrived (omega (arith, s.count, little)) in
    record {
      delivered = record { places = a.places; were_queued = a.were; once = a.once };
      waits_no_longer = λ place h. spent_gone direction.queued s.history.log direction.queues.queue.streams place s.queues.cut s.queues.queue_holds
          (spent_of direction.queued s.history first a.received.got a.places direction.reassembly.incoming place a.received.holds h);
      fresh = λ place h. spent_fresh direction.queued s.history.log place s.queues.cut (spent_of direction.queued s.history first a.received.got a.places direction.reassembly.incoming place a.received.holds h);
    }
