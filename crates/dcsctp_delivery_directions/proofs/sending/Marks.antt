-- Resets that were begun, while more TSNs are assigned.
use Rattle.std.proofs.Common.{◌≡◌, ◌==◌, ℕ, Bool, true, false, ◌<◌, ◌+◌, ◌-◌, ◌≤◌, ◌%◌, ◌^◌, List, [], ◌∷◌, length, refl, sym, ◌∙◌, ap, arith, subst, inl, inr}
use Rattle.std.specs.Prelude.{Option, None, Some, is_some, nat_lt, min, if◌then◌else◌}
use Rattle.std.proofs.lemmas.Bool.Decides.{nat_tests}
use Rattle.dcsctp_spec.specs.endpoint.Event.{Event}
use Rattle.dcsctp_spec.specs.types.declared.sending.UnderWay.{UnderWay}
use Rattle.dcsctp_spec.specs.types.queues.SendStreams.{Stream, stream_at, unused_stream}
use Rattle.dcsctp_spec.specs.queues.AtOnce.{empty_stage, SendsAtOnce}
use Rattle.dcsctp_spec.specs.queues.Filling.{Stage, SendsMarked, StageSteps, none, more}
use Rattle.dcsctp_spec.specs.queues.Retransmission.{RetransmissionState, counted_again}
use Rattle.dcsctp_spec.specs.queues.SendQueue.{SendQueueState}
use Rattle.dcsctp_spec.specs.queues.Sending.{Fragment, queue_after_producing, TakesFragment, Discards}
use Rattle.dcsctp_delivery_directions.specs.sending.Places.{HasEntry, at_place}
use Rattle.dcsctp_delivery_directions.specs.sending.Log.{Message, Piece, Slot, newest_on, HasBefore, IsLogOfPieces, Mark, History, Resets, with_slot}
use Rattle.dcsctp_delivery_directions.specs.sending.Pieces.{Going, IsGoing, HoldsQueued, HandsOutPiece}
use Rattle.dcsctp_delivery_directions.specs.sending.Numbers.{stream_named, NumbersMessages, is_always_whole}
use Rattle.dcsctp_delivery_directions.specs.sending.Stages.{IsNamedFragment, Pends, IsSentFrom, IsMark, AreMarks}
use Rattle.dcsctp_delivery_directions.proofs.sending.Places.{decide, at_below, at_cases, at_new, at_stays}
use Rattle.dcsctp_delivery_directions.proofs.sending.Newest.{newest_found, newest_none}
use Rattle.dcsctp_delivery_directions.proofs.sending.StreamsNamed.{found_at}
use Rattle.dcsctp_delivery_directions.proofs.sending.Streams.{drops_hold, within_streams}
use Rattle.dcsctp_delivery_directions.proofs.sending.Numbers.{numbers_dropped}
use Rattle.dcsctp_delivery_directions.proofs.sending.WhatLeaves.{Leaves, part as leaves_part, last as leaves_last, leaves}
use Rattle.dcsctp_delivery_directions.proofs.sending.Pieces.{progress_none, progress_some}
use Rattle.dcsctp_delivery_directions.proofs.sending.Discarding.{going, of_stream, of_message}
use Rattle.dcsctp_delivery_directions.proofs.sending.Stages.{with_none}

-- Once one more TSN is assigned, no reset comes after all TSNs.
pub pends_later : (slot : Slot) (history : History) (first : ℕ) (streams : List Stream) (reset_begun : Bool) → AreMarks history first streams → (reset_begun ≡ true → history.marks ≡ [] → ⊥) → Pends (with_slot slot history) reset_begun
pends_later slot history first streams reset_begun marks over =
    record {
      next = λ mark has is. (let within : mark.bound ≤ length history.log = (marks mark has).within in absurd (omega (arith, is)));
      none = λ begun none. absurd (over begun none);
    }

-- what was sent still was
sent_more : (slot : Slot) (log : List Slot) (bound id : ℕ) → IsSentFrom log bound id → IsSentFrom (slot ∷ log) bound id
sent_more slot log bound id sent = record { number = sent.number; piece = sent.piece; from = sent.from; at = at_stays sent.number slot (Some sent.piece) log sent.at; on = sent.on }

-- It is so of streams of which no other has a message under way.
pub marks_stay : (history : History) (first : ℕ) (old new : List Stream) → ((id : ℕ) → is_some (stream_named id new).under_way ≡ true → is_some (stream_named id old).under_way ≡ true) → AreMarks history first old → AreMarks history first new
marks_stay history first old new ways marks mark has =
    let was = marks mark has in
    record { within = was.within; last = was.last; fields = was.fields; sides = was.sides; going = λ id is names. was.going id (ways id is) names }

-- ---- the end of a message that is abandoned

pub marks_none : (history : History) (first : ℕ) (old new : List Stream) → ((id : ℕ) → is_some (stream_named id new).under_way ≡ true → is_some (stream_named id old).under_way ≡ true) → AreMarks history first old
    → AreMarks (with_slot None history) first new
marks_none history first old new ways marks mark has =
    let was = marks mark has in
    let within = was.within in
    record {
      within = omega (arith, within);
      last = was.last;
      fields = was.fields;
      sides = λ m n f g at at'. was.sides m n f g (with_none history.log m f at) (with_none history.log n g at');
      going = λ id is names. sent_more None history.log mark.bound id (was.going id (ways id is) names);
    }

-- the end of a message is named as its last item
pub named_end : (history : History) (own : ℕ) (part : Fragment) (n : IsNamedFragment history own part)
    → ((mark : Mark) → HasEntry mark history.marks → Resets mark n.piece.message.stream → n.number < mark.bound → length history.log < mark.bound)
    → ((k : ℕ) (f : Piece) → n.number < k → at_place k history.log ≡ Some (Some f) → f.place ≡ n.piece.place)
    → IsNamedFragment (with_slot None history) (length history.log) (record part { fsn = (part.fsn + 1) % 2 ^ 32; is_beginning = false; is_end = true; payload = []; lifecycle = None })
named_end history own part n whole tail =
    record {
      number = n.number;
      piece = n.piece;
      at = at_stays n.number None (Some n.piece) history.log n.at;
      of = n.of;
      whole = whole;
      stream = n.stream;
      unordered = n.unordered;
      mid = n.mid;
      ssn = n.ssn;
      up_to = (let below = at_below n.number (Some n.piece) history.log n.at in omega (arith, below));
      tail = λ k f past up at. tail k f past (with_none history.log k f at);
      limits = n.limits;
    }

-- The newest piece of a message under way comes after each reset of its stream, and so do the others.
after_marks : (queued : List Message) (history : History) (first : ℕ) (streams : List Stream) (id place : ℕ) (c : Piece) (mark : Mark) → IsMark history first streams mark → is_some (stream_named id streams).under_way ≡ true
    → newest_on id history.log ≡ Some c → c.place ≡ place → (m : ℕ) (f : Piece) → at_place m history.log ≡ Some (Some f) → f.place ≡ place → f.message.stream ≡ id → Resets mark id → m < mark.bound → ⊥
after_marks queued history first streams id place c mark is goes newest of m f at same on names less =
    let found = newest_found id history.log c newest in
    let sent = is.going id goes names in
    let up = found.last sent.number sent.piece sent.at sent.on in
    let side : found.number < mark.bound = is.sides m found.number f c at found.at (same ∙ sym of) (subst (λ (k : ℕ). Resets mark k) (sym on) names) less in
    let from = sent.from in
    omega (arith, up, side, from)

-- No reset of its stream lies between a message under way and its end: the newest piece comes after all these resets.
pub end_whole : {P : Type 0} (queued : List Message) (history : History) (first own : ℕ) (old new : SendQueueState) (part : Fragment) (before after : List (Event P)) → (holds : HoldsQueued queued history.log old.streams)
    → IsLogOfPieces queued history.log → AreMarks history first old.streams → (numbers : NumbersMessages history old) → (discards : Discards old part.stream part.message_id before new after) → is_always_whole discards.named.message old ≡ true
    → (n : IsNamedFragment history own part)
    → (mark : Mark) → HasEntry mark history.marks → Resets mark n.piece.message.stream → n.number < mark.bound → length history.log < mark.bound
end_whole queued history first own old new part before after holds cut marks numbers discards whole n mark has names less =
    let named = discards.named in
    let g : IsGoing queued history.log (stream_at old.streams named.place) named.under_way = going queued history old part.stream part.message_id named holds numbers whole in
    let stream = of_stream queued history old part.stream part.message_id named holds numbers whole in
    let message = of_message queued history old part.stream part.message_id named holds numbers whole in
    let is = marks mark has in
    let placed : stream_named part.stream old.streams ≡ stream_at old.streams named.place =
    subst (λ (k : ℕ). stream_named k old.streams ≡ stream_at old.streams named.place) named.is (found_at (unused_stream 0 0 0) named.place old.streams named.within holds.distinct) in
    let goes : is_some (stream_named part.stream old.streams).under_way ≡ true = ap (λ (s : Stream). is_some s.under_way) placed ∙ ap is_some named.goes_on in
    let on : n.piece.message.stream ≡ part.stream = sym n.stream in
    elim g.came [
      | inl unsent ↦ absurd (newest_none named.under_way.stream_id.0 history.log unsent n.number n.piece n.at (on ∙ sym stream))
      | inr c ↦
          absurd (after_marks queued history first old.streams part.stream part.message_id c.piece mark is goes (ap (λ (k : ℕ). newest_on k history.log) (sym stream) ∙ c.at) (c.is ∙ message) n.number n.piece n.at (sym n.of) on
          (subst (λ (k : ℕ). Resets mark k) on names) less)
    ]

-- ---- the next piece

module _ {P : Type 0} (queued : List Message) (history : History) (now max : ℕ) (old new : SendQueueState) (before after : List (Event P)) (part : Fragment) (holds : HoldsQueued queued history.log old.streams)
    (handed : HandsOutPiece queued history part new) (takes : TakesFragment now max old before part new after) where
  held : HoldsQueued queued history.log takes.queue.streams
  held = drops_hold queued history.log now old takes.drops.events takes.queue takes.drops.drops holds

  within : takes.place < length takes.queue.streams
  within = within_streams takes.queue.streams takes.place takes.message takes.front

  begins : (takes.under_way.sent == 0) ≡ (handed.piece.start == 0)
  begins = sym (ap (λ (f : Fragment). f.is_beginning) takes.is) ∙ handed.says.beginning

  clash : (sent start : ℕ) → (sent == 0) ≡ (start == 0) → sent ≡ 0 → 0 < start → ⊥
  clash sent start same zero some = grind (arith, nat_tests)

  -- the stream of which the piece is
  taken_of : handed.piece.message.stream ≡ (stream_at takes.queue.streams takes.place).id
  taken_of = sym handed.says.stream ∙ ap (λ (f : Fragment). f.stream) takes.is ∙ go (stream_at takes.queue.streams takes.place).under_way refl
    where
      go : (u : Option UnderWay) → (stream_at takes.queue.streams takes.place).under_way ≡ u → takes.under_way.stream_id.0 ≡ (stream_at takes.queue.streams takes.place).id
      go None is = ap (λ (u : UnderWay). u.stream_id.0) (takes.come ∙ progress_none takes.message (stream_at takes.queue.streams takes.place) is)
      go (Some u) is =
          let g : IsGoing queued history.log (stream_at takes.queue.streams takes.place) u = subst (Going queued history.log (stream_at takes.queue.streams takes.place)) is (held.going takes.place) in
          ap (λ (u : UnderWay). u.stream_id.0) (takes.come ∙ progress_some takes.message (stream_at takes.queue.streams takes.place) u is) ∙ sym g.is

  -- what is dropped before leaves what is under way
  same_ways : (id : ℕ) → is_some (stream_named id takes.queue.streams).under_way ≡ is_some (stream_named id old.streams).under_way
  same_ways id = ap is_some ((numbers_dropped now old takes.drops.events takes.queue takes.drops.drops).fronts id).under_way

  -- what the piece continues is under way
  pub takes_on : 0 < handed.piece.start → is_some (stream_named handed.piece.message.stream old.streams).under_way ≡ true
  takes_on started =
      sym (same_ways handed.piece.message.stream) ∙ ap (λ (k : ℕ). is_some (stream_named k takes.queue.streams).under_way) taken_of
      ∙ ap (λ (s : Stream). is_some s.under_way) (found_at (unused_stream 0 0 0) takes.place takes.queue.streams within held.distinct) ∙ go (stream_at takes.queue.streams takes.place).under_way refl
    where
      go : (u : Option UnderWay) → (stream_at takes.queue.streams takes.place).under_way ≡ u → is_some u ≡ true
      go None is = absurd (clash takes.under_way.sent handed.piece.start begins (ap (λ (u : UnderWay). u.sent) (takes.come ∙ progress_none takes.message (stream_at takes.queue.streams takes.place) is)) started)
      go (Some u) is = refl

  -- what is under way then is so before, or is of the piece
  pub takes_ways : (id : ℕ) → (handed.piece.message.stream ≡ id → ⊥) → is_some (stream_named id new.streams).under_way ≡ true → is_some (stream_named id old.streams).under_way ≡ true
  takes_ways id apart is =
      sym (same_ways id) ∙ ap (λ (s : Stream). is_some s.under_way) (sym (go (leaves takes.place max takes.message takes.under_way takes.queue within)))
      ∙ ap (λ (q : SendQueueState). is_some (stream_named id q.streams).under_way) (sym takes.left) ∙ is
    where
      go : Leaves takes.place max takes.message takes.under_way takes.queue (queue_after_producing takes.place max takes.message takes.under_way takes.queue)
          → stream_named id (queue_after_producing takes.place max takes.message takes.under_way takes.queue).streams ≡ stream_named id takes.queue.streams
      go (leaves_part open_end p same) = p.one.named id (λ on. apart (taken_of ∙ sym on))
      go (leaves_last all p same) = p.one.named id (λ on. apart (taken_of ∙ sym on))

module _ (queued : List Message) (history : History) (first : ℕ) (old : List Stream) (part : Fragment) (new : SendQueueState) (handed : HandsOutPiece queued history part new) (cut : IsLogOfPieces queued history.log)
    (goes_on : 0 < handed.piece.start → is_some (stream_named handed.piece.message.stream old).under_way ≡ true)
    (ways : (id : ℕ) → (handed.piece.message.stream ≡ id → ⊥) → is_some (stream_named id new.streams).under_way ≡ true → is_some (stream_named id old).under_way ≡ true) where
  -- what it continues comes after each reset of its stream
  behind : (mark : Mark) → IsMark history first old mark → (m : ℕ) (f : Piece) → at_place m history.log ≡ Some (Some f) → f.place ≡ handed.piece.place → Resets mark f.message.stream → m < mark.bound
      → f.message.stream ≡ handed.piece.message.stream → 0 < handed.piece.start → HasBefore history.log (length history.log) handed.piece → ⊥
  behind mark is m f at same names less on started row =
      let sent = is.going handed.piece.message.stream (goes_on started) (subst (λ (k : ℕ). Resets mark k) on names) in
      let side : row.earlier < mark.bound = is.sides m row.earlier f row.before at row.at (same ∙ sym row.place) names less in
      let from = sent.from in
      row.apart sent.number sent.piece (omega (arith, side, from)) (at_below sent.number (Some sent.piece) history.log sent.at) sent.at sent.on

  -- No piece of the same message lies before a reset of its stream.
  crossed : (mark : Mark) → IsMark history first old mark → (m : ℕ) (f : Piece) → at_place m history.log ≡ Some (Some f) → f.place ≡ handed.piece.place → Resets mark f.message.stream → m < mark.bound → ⊥
  crossed mark is m f at same names less =
      let found : Some f.message ≡ Some handed.piece.message = sym (cut.pieces m f at).at ∙ ap (λ (k : ℕ). at_place k queued) same ∙ handed.is_piece.at in
      let message : f.message ≡ handed.piece.message = cc in
      let on : f.message.stream ≡ handed.piece.message.stream = ap (λ (x : Message). x.stream) message in
      elim (decide handed.piece.start 0) [
        | inl zero ↦ (let later : f.place < handed.piece.place = handed.ascends m f at zero on in omega (arith, same))
        | inr other ↦
            (let started : 0 < handed.piece.start = omega (arith, other) in
            behind mark is m f at same names less on started (handed.row started (inr (record { earlier = m; piece = f; is = at_below m (Some f) history.log at; at = at; on = on }))))
      ]

  pub marks_more : AreMarks history first old → AreMarks (with_slot (Some handed.piece) history) first new.streams
  marks_more marks mark has =
      let within = was.within in
      record {
        within = omega (arith, within);
        last = was.last;
        fields = was.fields;
        sides = λ m n f g at at' same names less. elim (at_cases m (Some handed.piece) (Some f) history.log at) [
          | inl e ↦ (let here : m ≡ length history.log = e.0 in absurd (omega (arith, within)))
          | inr at_m ↦
              elim (at_cases n (Some handed.piece) (Some g) history.log at') [
                | inl e ↦ (let piece : handed.piece ≡ g = cc in absurd (crossed mark was m f at_m (same ∙ ap (λ (x : Piece). x.place) (sym piece)) names less))
                | inr at_n ↦ was.sides m n f g at_m at_n same names less
              ]
        ];
        going = λ id is names. elim (decide handed.piece.message.stream id) [
          | inl on ↦ record { number = length history.log; piece = handed.piece; from = within; at = at_new (Some handed.piece) history.log; on = on }
          | inr apart ↦ sent_more (Some handed.piece) history.log mark.bound id (was.going id (ways id apart is) names)
        ];
      }
    where
      was : IsMark history first old mark
      was = marks mark has

-- ---- what is sent again

-- What is sent next says as before whether a reset was begun before it.
pub counted_pends : (size : ℕ) (state : RetransmissionState) → (counted_again size state).reset_begun ≡ state.reset_begun
counted_pends size state = go (nat_lt 0 size)
  where
    go : (b : Bool) → (if b then record state {
      packets_retransmitted = min (state.packets_retransmitted + 1) (2 ^ 64 - 1);
      bytes_retransmitted = min (state.bytes_retransmitted + size) (2 ^ 64 - 1);
    } else state).reset_begun ≡ state.reset_begun
    go true = refl
    go false = refl

pub at_once_pends : (now bytes : ℕ) (waiting : SendQueueState) (old new : RetransmissionState) (tsns : List ℕ) → SendsAtOnce now bytes waiting old new tsns → new.reset_begun ≡ old.reset_begun
at_once_pends now bytes waiting old new tsns sends =
    ap (λ (r : RetransmissionState). r.reset_begun) sends.is ∙ counted_pends (bytes - sends.room) sends.resent
    ∙ steps (empty_stage (record old { fast_retransmit_due = false }) waiting bytes) (record (empty_stage sends.resent waiting sends.room) { tsns = tsns }) sends.steps
  where
    steps : (from to : Stage) → StageSteps (SendsMarked now) from to → to.queue.reset_begun ≡ from.queue.reset_begun
    steps from to none = refl
    steps from to (more between _ earlier step) = ap (λ (s : Stage). s.queue.reset_begun) step.is ∙ steps from between earlier
