-- None that was queued is left out.
use Rattle.std.proofs.Common.{◌≡◌, ℕ, Bool, false, ◌<◌, ◌≤◌, List, [], ◌∷◌, length, drop, refl, sym, ◌∙◌, ap, arith, subst, inl, inr}
use Rattle.std.specs.Prelude.{◌⊎◌, Option, None, Some, is_some, if◌then◌else◌}
use Rattle.dcsctp_spec_lemmas.specs.spec.endpoint.Event.{Event}
use Rattle.dcsctp_spec_lemmas.specs.types.declared.sending.UnderWay.{UnderWay}
use Rattle.dcsctp_spec_lemmas.specs.types.queues.SendStreams.{Waiting, front_of, stream_at}
use Rattle.dcsctp_spec_lemmas.specs.spec.queues.SendQueue.{SendQueueState}
use Rattle.dcsctp_spec_lemmas.specs.spec.queues.Sending.{Fragment, TakesFragment}
use Rattle.dcsctp_delivery_directions.specs.sending.Places.{HasEntry, at_place}
use Rattle.dcsctp_delivery_directions.specs.sending.Log.{Message, Piece, Slot, History, IsLogOfPieces}
use Rattle.dcsctp_delivery_directions.specs.sending.Numbers.{AreCurrent}
use Rattle.dcsctp_delivery_directions.specs.sending.Pieces.{AllBeyond, Going, HoldsQueued, HandsOutPiece}
use Rattle.dcsctp_delivery_directions.proofs.sending.Places.{at_new, at_stays}
use Rattle.dcsctp_delivery_directions.proofs.sending.Newest.{newest_found, newest_none}
use Rattle.dcsctp_delivery_directions.proofs.sending.Losing.{queued_of}
use Rattle.dcsctp_delivery_directions.proofs.sending.WhatWaits.{no_drops, produced_waits}
use Rattle.dcsctp_delivery_directions.specs.order.Queue.{IsOrderedOn}
use Rattle.dcsctp_delivery_directions.specs.order.Reading.{CountsFromZero}
use Rattle.dcsctp_delivery_directions.specs.order.Gaps.{SendsInTurn}
use Rattle.dcsctp_delivery_directions.specs.order.Sending.{WasSentOf, StillWaits, NoneLost, NoneExpires}
use Rattle.dcsctp_delivery_directions.specs.sending.Losing.{IsKept}
use Rattle.dcsctp_delivery_directions.specs.order.Streams.{NoneLostOn, CurrentOn}

pub handing_loses_none : (queued : List Message) (history : History) (now max : ℕ) (old new : SendQueueState) (told_before told_after : List (Event (List ℕ))) (part : Fragment)
    → NoneExpires old.streams → TakesFragment now max old told_before part new told_after → (hands : HandsOutPiece queued history part new)
    → NoneLost queued history.log old.streams → NoneLost queued (Some hands.piece ∷ history.log) new.streams
handing_loses_none queued history now max old new told_before told_after part never does hands lost place message at =
    elim (lost place message at) [
      | inl sent ↦ inl (record { number = sent.number; piece = sent.piece; at = at_stays sent.number (Some hands.piece) (Some sent.piece) history.log sent.at; is = sent.is })
      | inr waits ↦ by_wait waits
    ]
  where
    same : does.queue ≡ old
    same = no_drops now old does.drops.events does.queue never does.drops.drops

    taken : does.message.message_id ≡ hands.piece.place
    taken = ap (λ (f : Fragment). f.message_id) (sym does.is) ∙ hands.says.named

    by_wait : StillWaits old.streams place → WasSentOf (Some hands.piece ∷ history.log) place ⊎ StillWaits new.streams place
    by_wait waits =
        let has : HasEntry waits.waiting (stream_at does.queue.streams waits.q).messages = subst (λ (q : SendQueueState). HasEntry waits.waiting (stream_at q.streams waits.q).messages) (sym same) waits.has in
        elim (produced_waits does.place does.message does.under_way does.queue does.front max waits.q waits.waiting has) [
          | inl gone ↦
              inl (record {
                number = length history.log;
                piece = hands.piece;
                at = at_new (Some hands.piece) history.log;
                is = sym taken ∙ ap (λ (w : Waiting). w.message_id) (sym gone) ∙ waits.is;
              })
          | inr left ↦ inr (record { q = waits.q; waiting = waits.waiting; has = subst (λ (q : SendQueueState). HasEntry waits.waiting (stream_at q.streams waits.q).messages) (sym does.left) left; is = waits.is })
        ]

-- ---- in turn

beyond_of : (place : ℕ) (messages : List Waiting) (w : Waiting) → AllBeyond place messages → HasEntry w messages → place < w.message_id
beyond_of place [] w are has = absurd has
beyond_of place (v ∷ messages) w are has = elim has [ inl e ↦ subst (λ (x : Waiting). place < x.message_id) (sym e) are.0 | inr t ↦ beyond_of place messages w are.1 t ]

-- A piece of the ordered message of this place was sent, on this stream.
pub record IsSentOn (log : List Slot) (id place : ℕ) : Type 0 where
  pub offset : ℕ
  pub piece : Piece
  pub at : at_place offset log ≡ Some (Some piece)
  pub is : piece.place ≡ place
  pub stream : piece.message.stream ≡ id
  pub ordered : piece.message.is_unordered ≡ false

-- A message of the stream that was queued before one that was sent was sent as well, since the queue hands them out in turn.
module _ (queued : List Message) (log : List Slot) (queue : SendQueueState) (cut : IsLogOfPieces queued log)
    (holds : HoldsQueued queued log queue.streams)
    (id earlier number : ℕ) (kept : IsKept log queue.streams earlier) (piece : Piece) (on : IsOrderedOn queued id earlier) (at : at_place number log ≡ Some (Some piece)) (stream : piece.message.stream ≡ id) (less : earlier < piece.place) where
  its_stream : (waits : StillWaits queue.streams earlier) → (stream_at queue.streams waits.q).id ≡ id
  its_stream waits =
      let w = queued_of queued (stream_at queue.streams waits.q).id (stream_at queue.streams waits.q).messages waits.waiting (holds.wait waits.q) waits.has in
      let both : Some w.message ≡ Some on.message = sym w.at ∙ ap (λ (k : ℕ). at_place k queued) waits.is ∙ on.at in
      let same : w.message ≡ on.message = cc in
      w.is.stream ∙ ap (λ (m : Message). m.stream) same ∙ on.stream

  too_late : (waits : StillWaits queue.streams earlier) (messages : List Waiting) → AllBeyond piece.place messages → HasEntry waits.waiting messages → ⊥
  too_late waits messages are has = (let up = beyond_of piece.place messages waits.waiting are has in let is = waits.is in omega (arith, up, is, less))

  by_wait : (waits : StillWaits queue.streams earlier) (u : Option UnderWay) → Going queued log (stream_at queue.streams waits.q) u
      → AllBeyond piece.place (drop (if is_some u then 1 else 0) (stream_at queue.streams waits.q).messages) → WasSentOf log earlier
  by_wait waits None going are = absurd (too_late waits (stream_at queue.streams waits.q).messages are waits.has)
  by_wait waits (Some under_way) going are = first (stream_at queue.streams waits.q).messages refl waits.has are
    where
      first : (messages : List Waiting) → (stream_at queue.streams waits.q).messages ≡ messages → HasEntry waits.waiting messages → AllBeyond piece.place (drop 1 (stream_at queue.streams waits.q).messages) → WasSentOf log earlier
      first [] is has are' = absurd has
      first (v ∷ messages) is has are' =
          elim has [
            | inr t ↦ absurd (too_late waits messages (subst (λ (l : List Waiting). AllBeyond piece.place (drop 1 l)) is are') t)
            | inl e ↦
                (let both : Some waits.waiting ≡ Some going.waiting = ap (λ (w : Waiting). Some w) e ∙ sym (ap front_of is) ∙ going.front in
                let its : waits.waiting ≡ going.waiting = cc in
                elim going.came [
                  | inl nothing ↦ absurd (newest_none under_way.stream_id.0 log nothing number piece at (stream ∙ sym (its_stream waits) ∙ going.is))
                  | inr came ↦
                      (let newest = newest_found under_way.stream_id.0 log came.piece came.at in
                      record { number = newest.number; piece = came.piece; at = newest.at; is = came.is ∙ sym going.named ∙ ap (λ (w : Waiting). w.message_id) (sym its) ∙ waits.is })
                ])
          ]

  was_sent : WasSentOf log earlier → IsSentOn log id earlier
  was_sent was =
      let both : Some was.piece.message ≡ Some on.message = sym (cut.pieces was.number was.piece was.at).at ∙ ap (λ (k : ℕ). at_place k queued) was.is ∙ on.at in
      let same : was.piece.message ≡ on.message = cc in
      record {
        offset = was.number;
        piece = was.piece;
        at = was.at;
        is = was.is;
        stream = ap (λ (m : Message). m.stream) same ∙ on.stream;
        ordered = ap (λ (m : Message). m.is_unordered) same ∙ on.ordered;
      }

  pub sent_before : IsSentOn log id earlier
  sent_before =
      elim kept [
        | inl was ↦ was_sent was
        | inr waits ↦ was_sent (by_wait waits (stream_at queue.streams waits.q).under_way (holds.going waits.q) (holds.beyond waits.q number piece at (stream ∙ sym (its_stream waits))))
      ]

-- It suffices that this holds of the stream.
pub sends_in_turn_on : (queued : List Message) (history : History) (id : ℕ) (queue : SendQueueState) → CountsFromZero history id → CurrentOn id history → IsLogOfPieces queued history.log
    → HoldsQueued queued history.log queue.streams → NoneLostOn id queued history.log queue.streams → SendsInTurn queued history id
sends_in_turn_on queued history id queue counts current cut holds lost earlier later mid on sent less =
    let before : earlier < sent.piece.place = (let is = sent.is in omega (arith, is, less)) in
    let was = sent_before queued history.log queue cut holds id earlier sent.offset (lost earlier on.message on.at on.stream) sent.piece on sent.at sent.stream before in
    let low = current was.offset was.piece was.at was.stream (counts.kinds was.offset was.piece was.at) in (
      was.piece.mid,
      record { offset = was.offset; piece = was.piece; at = was.at; is = was.is; stream = was.stream; ordered = was.ordered; under = refl },
      subst (λ (k : ℕ). history.floors k false ≤ was.piece.mid) was.stream (subst (λ (b : Bool). history.floors was.piece.message.stream b ≤ was.piece.mid) was.ordered low),
    )

pub sends_in_turn : (queued : List Message) (history : History) (id : ℕ) (queue : SendQueueState) → CountsFromZero history id → AreCurrent history history.log → IsLogOfPieces queued history.log
    → HoldsQueued queued history.log queue.streams → NoneLost queued history.log queue.streams → SendsInTurn queued history id
sends_in_turn queued history id queue counts current cut holds lost =
    sends_in_turn_on queued history id queue counts (λ n f at on. current n f at) cut holds (λ place message at on. lost place message at)
