-- What is handed out is a piece, and joins the log.
use Rattle.std.proofs.Common.{◌≡◌, ◌≢◌, ◌==◌, ℕ, suc, false, ◌<◌, ◌+◌, ◌-◌, ◌%◌, ◌^◌, ◌≤◌, List, ◌∷◌, length, take, drop, refl, sym, ◌∙◌, ap, arith, subst, inl, inr}
use Rattle.std.specs.Prelude.{◌⊎◌, Option, None, Some, is_some, if◌then◌else◌}
use Rattle.std.proofs.lemmas.Bool.Decides.{leb_tells}
use Rattle.std.proofs.lemmas.List.{get_or_past}
use Rattle.dcsctp_spec.specs.types.declared.sending.UnderWay.{UnderWay}
use Rattle.dcsctp_spec.specs.types.queues.SendStreams.{Waiting, Stream, front_of, unused_stream, stream_at, progress_size}
use Rattle.dcsctp_spec.specs.queues.SendQueue.{SendQueueState}
use Rattle.dcsctp_spec.specs.queues.Sending.{fragment, progress_after, size_produced}
use Rattle.dcsctp_delivery_directions.specs.sending.Places.{at_place}
use Rattle.dcsctp_delivery_directions.specs.sending.Log.{Message, Piece, Slot, IsPiece}
use Rattle.dcsctp_delivery_directions.specs.sending.Pieces.{IsWaitingMessage, AllQueued, AllBeyond, Ascend, unbegun, Going, HoldsQueued, CarriesPiece}
use Rattle.dcsctp_delivery_directions.specs.sending.Weights.{weigh, weight, HasRoomForLog}
use Rattle.dcsctp_delivery_directions.proofs.sending.Places.{decide, at_cases}
use Rattle.dcsctp_delivery_directions.proofs.sending.Weights.{front_weighs, weight_changed, sum_changed}
use Rattle.dcsctp_delivery_directions.proofs.sending.Newest.{newest_here, newest_else}
use Rattle.dcsctp_delivery_directions.proofs.sending.Streams.{within_streams, queued_drop, ascend_drop, rest_of, unbegun_rest}
use Rattle.dcsctp_delivery_directions.proofs.sending.Fragments.{each_changed, changes_ids, changes_distinct}
use Rattle.dcsctp_delivery_directions.proofs.sending.WhatLeaves.{Produces, Leaves, part, last}

-- ---- what is handed out

pub there_or_unused : (streams : List Stream) (q : ℕ) → (q < length streams) ⊎ (stream_at streams q ≡ unused_stream 0 0 0)
there_or_unused streams q =
    elim (leb_tells (suc q) (length streams)) [
      | inl e ↦ inl e.1
      | inr e ↦
          (let beyond : length streams ≤ q = (let lt : length streams < suc q = e.1 in omega arith) in
          inr (get_or_past streams q (unused_stream 0 0 0) beyond))
    ]

-- A piece of the stream that isn't the one at this place changes nothing of a message under way.
pub going_else : (queued : List Message) (log : List Slot) (piece : Piece) (s : Stream) (u : Option UnderWay) → (piece.message.stream ≡ s.id → ⊥) → Going queued log s u → Going queued (Some piece ∷ log) s u
going_else queued log piece s None other going = tt
going_else queued log piece s (Some u) other going =
    let same = newest_else u.stream_id.0 piece log (λ on. other (on ∙ sym going.is)) in
    record {
      place = going.place;
      message = going.message;
      at = going.at;
      unfinished = going.unfinished;
      begun = going.begun;
      is = going.is;
      waiting = going.waiting;
      front = going.front;
      named = going.named;
      came = elim going.came [
        | inl none ↦ inl (same ∙ none)
        | inr c ↦ inr (record { piece = c.piece; at = same ∙ c.at; is = c.is; says = c.says; end = c.end; mid = c.mid; fsn = c.fsn })
      ];
    }

-- nor does the end of one
pub going_none : (queued : List Message) (log : List Slot) (s : Stream) (u : Option UnderWay) → Going queued log s u → Going queued (None ∷ log) s u
going_none queued log s None going = tt
going_none queued log s (Some u) going =
    record {
      place = going.place;
      message = going.message;
      at = going.at;
      unfinished = going.unfinished;
      begun = going.begun;
      is = going.is;
      waiting = going.waiting;
      front = going.front;
      named = going.named;
      came = elim going.came [
        | inl none ↦ inl none
        | inr c ↦ inr (record { piece = c.piece; at = c.at; is = c.is; says = c.says; end = c.end; mid = c.mid; fsn = c.fsn })
      ];
    }

-- The piece is the next one of the oldest message of the stream at the place.
pub record TakesPiece (queued : List Message) (max : ℕ) (queue : SendQueueState) (piece : Piece) : Type 0 where
  pub place : ℕ
  pub waiting : Waiting
  pub under_way : UnderWay
  pub front : front_of (stream_at queue.streams place).messages ≡ Some waiting
  pub is : (stream_at queue.streams place).id ≡ under_way.stream_id.0
  pub sent : progress_size (stream_at queue.streams place).under_way ≡ under_way.sent
  pub unfinished : under_way.sent < length waiting.payload
  pub room : 0 < max
  pub message : IsWaitingMessage (stream_at queue.streams place).id waiting piece.message
  pub at : at_place piece.place queued ≡ Some piece.message
  pub fresh : piece.message.is_spent ≡ false
  pub named : waiting.message_id ≡ piece.place
  pub start : piece.start ≡ under_way.sent
  pub size : piece.size ≡ size_produced max waiting under_way
  pub mid : under_way.mid % 2 ^ 32 ≡ piece.mid % 2 ^ 32
  pub fsn : under_way.next_fsn ≡ piece.fsn
  pub ssn : under_way.ssn ≡ piece.ssn
  pub first : piece.start ≡ 0 → piece.fsn ≡ 0
  pub kind : piece.is_interleaved ≡ queue.is_interleaved

module _ (queued : List Message) (max : ℕ) (queue : SendQueueState) (piece : Piece) (t : TakesPiece queued max queue piece) where
  has_size : 0 < size_produced max t.waiting t.under_way
  has_size = let unfinished = t.unfinished in let room = t.room in omega (arith, unfinished, room)

  pub piece_lengths : length t.waiting.payload ≡ length piece.message.payload
  piece_lengths = ap (λ (l : List ℕ). length l) t.message.payload

  pub it_is_piece : IsPiece queued piece
  it_is_piece =
      let start = t.start in
      let size = t.size in
      let unfinished = t.unfinished in
      record {
        at = t.at;
        fresh = t.fresh;
        some = omega (arith, has_size, size);
        within = omega (arith, has_size, size, start, unfinished, piece_lengths);
        first = t.first;
      }

  pub it_says : CarriesPiece (fragment t.under_way t.waiting (size_produced max t.waiting t.under_way)) piece
  it_says =
      record {
        named = t.named;
        stream = sym t.is ∙ t.message.stream;
        ppid = t.message.ppid;
        unordered = t.message.unordered;
        beginning = ap (λ (k : ℕ). k == 0) (sym t.start);
        end = ap (λ (k : ℕ). (k + size_produced max t.waiting t.under_way) == length t.waiting.payload) (sym t.start)
            ∙ ap (λ (k : ℕ). (piece.start + k) == length t.waiting.payload) (sym t.size) ∙ ap (λ (k : ℕ). (piece.start + piece.size) == k) piece_lengths;
        payload = ap (λ (k : ℕ). take k (drop t.under_way.sent t.waiting.payload)) (sym t.size) ∙ ap (λ (k : ℕ). take piece.size (drop k t.waiting.payload)) (sym t.start)
            ∙ ap (λ (l : List ℕ). take piece.size (drop piece.start l)) t.message.payload;
        limits = t.message.limits;
        mid = t.mid;
        fsn = t.fsn;
        ssn = t.ssn;
      }

  pub within : t.place < length queue.streams
  within = within_streams queue.streams t.place t.waiting t.front

  pub stream_is : piece.message.stream ≡ (stream_at queue.streams t.place).id
  stream_is = sym t.message.stream

  -- ---- what the queue holds then

  module _ (log : List Slot) (holds : HoldsQueued queued log queue.streams) where
    here_rest : AllBeyond piece.place (drop 1 (stream_at queue.streams t.place).messages)
    here_rest = subst (λ (k : ℕ). AllBeyond k (drop 1 (stream_at queue.streams t.place).messages)) t.named (rest_of (stream_at queue.streams t.place).messages t.waiting (holds.ascend t.place) t.front)

    -- a stream at another place has another number, or nothing
    pub elsewhere : (q : ℕ) → q ≢ t.place → (piece.message.stream ≡ (stream_at queue.streams q).id → ⊥) ⊎ (stream_at queue.streams q ≡ unused_stream 0 0 0)
    elsewhere q other =
        elim (there_or_unused queue.streams q) [
          | inl below ↦ inl (λ on. other (holds.distinct q t.place below within (sym on ∙ stream_is)))
          | inr unused ↦ inr unused
        ]

    module _ (messages : List Waiting) (progress : Option UnderWay) (new : SendQueueState) (p : Produces t.place t.waiting t.under_way messages progress queue new)
        (rest : drop (if is_some progress then 1 else 0) messages ≡ drop 1 (stream_at queue.streams t.place).messages) where
      rest_is : unbegun (stream_at new.streams t.place) ≡ drop 1 (stream_at queue.streams t.place).messages
      rest_is =
          ap (λ (u : Option UnderWay). drop (if is_some u then 1 else 0) (stream_at new.streams t.place).messages) p.progress_is
          ∙ ap (λ (l : List Waiting). drop (if is_some progress then 1 else 0) l) p.messages_are ∙ rest

      new_beyond : (q n : ℕ) (f : Piece) → at_place n (Some piece ∷ log) ≡ Some (Some f) → f.message.stream ≡ (stream_at new.streams q).id → AllBeyond f.place (unbegun (stream_at new.streams q))
      new_beyond q n f at on =
          elim (decide q t.place) [
            | inl here ↦
                subst (λ (k : ℕ). AllBeyond f.place (unbegun (stream_at new.streams k))) (sym here)
                (subst (λ (l : List Waiting). AllBeyond f.place l) (sym rest_is)
                (elim (at_cases n (Some piece) (Some f) log at) [
                  | inl e ↦ (let fresh : piece ≡ f = cc in subst (λ (g : Piece). AllBeyond g.place (drop 1 (stream_at queue.streams t.place).messages)) fresh here_rest)
                  | inr old ↦ unbegun_rest f.place (stream_at queue.streams t.place) (holds.beyond t.place n f old (on ∙ ap (λ (k : ℕ). (stream_at new.streams k).id) here ∙ p.one.id))
                ]))
            | inr other ↦
                (let same = p.one.others q other in
                let on' : f.message.stream ≡ (stream_at queue.streams q).id = on ∙ ap (λ (s : Stream). s.id) same in
                subst (λ (s : Stream). AllBeyond f.place (unbegun s)) (sym same)
                (elim (at_cases n (Some piece) (Some f) log at) [
                  | inr old ↦ holds.beyond q n f old on'
                  | inl e ↦
                      (let fresh : piece ≡ f = cc in
                      elim (elsewhere q other) [
                        | inl apart ↦ absurd (apart (ap (λ (g : Piece). g.message.stream) fresh ∙ on'))
                        | inr unused ↦ subst (λ (s : Stream). AllBeyond f.place (unbegun s)) (sym unused) tt
                      ])
                ]))
          ]

      new_going : Going queued (Some piece ∷ log) (stream_at new.streams t.place) progress → (q : ℕ) → Going queued (Some piece ∷ log) (stream_at new.streams q) (stream_at new.streams q).under_way
      new_going here q =
          elim (decide q t.place) [
            | inl is ↦ subst (λ (k : ℕ). Going queued (Some piece ∷ log) (stream_at new.streams k) (stream_at new.streams k).under_way) (sym is) (subst (Going queued (Some piece ∷ log) (stream_at new.streams t.place)) (sym p.progress_is) here)
            | inr other ↦
                subst (λ (s : Stream). Going queued (Some piece ∷ log) s s.under_way) (sym (p.one.others q other))
                (elim (elsewhere q other) [
                  | inl apart ↦ going_else queued log piece (stream_at queue.streams q) (stream_at queue.streams q).under_way apart (holds.going q)
                  | inr unused ↦ subst (λ (s : Stream). Going queued (Some piece ∷ log) s s.under_way) (sym unused) tt
                ])
          ]

      new_room : weigh messages ≤ weigh (stream_at queue.streams t.place).messages → weigh messages + t.under_way.sent + 1 ≤ weigh (stream_at queue.streams t.place).messages + progress_size progress
          → HasRoomForLog queued (Some piece ∷ log) new.streams
      new_room lighter fits =
          let weights = weight_changed t.place queue.streams new.streams p.one.sizes within p.one.others in
          let here : weigh (stream_at new.streams t.place).messages ≡ weigh messages = ap weigh p.messages_are in
          let sums = sum_changed (λ (s : Stream). progress_size s.under_way) t.place queue.streams new.streams p.one.sizes within p.one.others in
          let there : progress_size (stream_at new.streams t.place).under_way ≡ progress_size progress = ap progress_size p.progress_is in
          let old = t.sent in
          let room = holds.room in
          let whole : weight queue.streams ≤ _ = room.whole in
          let count = room.count in
          record { whole = omega (arith, weights, here, lighter, whole); count = omega (arith, weights, here, sums, there, old, count, fits) }

      new_hold : AllQueued queued (stream_at queue.streams t.place).id messages → Ascend messages → Going queued (Some piece ∷ log) (stream_at new.streams t.place) progress
          → weigh messages ≤ weigh (stream_at queue.streams t.place).messages → weigh messages + t.under_way.sent + 1 ≤ weigh (stream_at queue.streams t.place).messages + progress_size progress
          → HoldsQueued queued (Some piece ∷ log) new.streams
      new_hold all up here lighter fits =
          record {
            wait = each_changed (λ (s : Stream). AllQueued queued s.id s.messages) t.place queue.streams new.streams p.one
                (subst (λ (k : ℕ). AllQueued queued k (stream_at new.streams t.place).messages) (sym p.one.id) (subst (λ (l : List Waiting). AllQueued queued (stream_at queue.streams t.place).id l) (sym p.messages_are) all)) holds.wait;
            ascend = each_changed (λ (s : Stream). Ascend s.messages) t.place queue.streams new.streams p.one (subst (λ (l : List Waiting). Ascend l) (sym p.messages_are) up) holds.ascend;
            beyond = new_beyond;
            distinct = changes_distinct t.place queue.streams new.streams p.one holds.distinct;
            small = λ q. subst (λ (k : ℕ). k < 2 ^ 16) (sym (changes_ids t.place queue.streams new.streams p.one q)) (holds.small q);
            going = new_going here;
            room = new_room lighter fits;
          }

    part_going : (new : SendQueueState) → Produces t.place t.waiting t.under_way (stream_at queue.streams t.place).messages (Some (progress_after max t.under_way)) queue new → max < length t.waiting.payload - t.under_way.sent
        → Going queued (Some piece ∷ log) (stream_at new.streams t.place) (Some (progress_after max t.under_way))
    part_going new p open_end =
        let room = t.room in
        let start = t.start in
        let fsn = t.fsn in
        let size = t.size in
        record {
          place = piece.place;
          message = piece.message;
          at = t.at;
          unfinished = omega (arith, open_end, piece_lengths);
          begun = omega (arith, room);
          is = p.one.id ∙ t.is;
          waiting = t.waiting;
          front = ap front_of p.messages_are ∙ t.front;
          named = t.named;
          came = inr (record {
            piece = piece;
            at = newest_here t.under_way.stream_id.0 piece log (stream_is ∙ t.is);
            is = refl;
            says = refl;
            end = omega (arith, start, size, open_end);
            mid = t.mid;
            fsn = omega (arith, fsn);
          });
        }

    pub it_holds : (new : SendQueueState) → Leaves t.place max t.waiting t.under_way queue new → HoldsQueued queued (Some piece ∷ log) new.streams
    it_holds new (part open_end p held) =
        let room = t.room in
        new_hold (stream_at queue.streams t.place).messages (Some (progress_after max t.under_way)) new p refl (holds.wait t.place) (holds.ascend t.place) (part_going new p open_end)
        (omega arith) (omega (arith, room))
    it_holds new (last all p held) =
        let front = front_weighs (stream_at queue.streams t.place).messages t.waiting t.front in
        let unfinished = t.unfinished in
        new_hold (drop 1 (stream_at queue.streams t.place).messages) None new p refl (queued_drop queued (stream_at queue.streams t.place).id (stream_at queue.streams t.place).messages (holds.wait t.place))
        (ascend_drop (stream_at queue.streams t.place).messages (holds.ascend t.place)) tt (omega (arith, front)) (omega (arith, front, unfinished))
