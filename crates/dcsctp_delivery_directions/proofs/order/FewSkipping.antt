-- What a FORWARD-TSN skips leaves streams in order, where few ordered messages were begun on each.
use Rattle.std.proofs.Common.{◌≡◌, ◌≢◌, ◌==◌, ◌<◌, ◌≤◌, ◌+◌, ◌-◌, ◌%◌, ◌^◌, ℕ, Bool, true, false, List, [], ◌∷◌, ◌++◌, map, refl, sym, ◌∙◌, ap, arith, subst, inl, inr}
use Rattle.std.specs.Prelude.{◌⊎◌, nat_le, not, min, Some, if◌then◌else◌}
use Rattle.std.specs.List.{filter}
use Rattle.std.proofs.lemmas.List.{append-nil}
use Rattle.std.proofs.lemmas.Bool.Decides.{eqb_tells, leb_tells}
use Rattle.dcsctp_spec_lemmas.specs.types.queues.Messages.{MessageContent}
use Rattle.dcsctp_spec_lemmas.specs.types.declared.arrivals.SkippedTo.{SkippedTo}
use Rattle.dcsctp_spec_lemmas.specs.types.declared.arrivals.SkippedTo.TheVariants.{Ssn, Mid}
use Rattle.dcsctp_spec_lemmas.specs.spec.queues.Numbers.{number_near, short_number_near}
use Rattle.dcsctp_spec_lemmas.specs.spec.queues.Runs.{RunModel, WholeModel, behind_place}
use Rattle.dcsctp_spec_lemmas.specs.spec.queues.IncomingStreams.{StreamModel, delivered_as, due, not_due, next_due, next_past, skipped_stream, stream_after_skip, skip_deliveries}
use Rattle.dcsctp_spec_lemmas.specs.spec.queues.Incoming.{IncomingModel, stream_on, skipped_on, stream_skipping, deliveries_of_skips, MovesOn}
use Rattle.dcsctp_delivery_directions.specs.sending.Places.{HasEntry, at_place}
use Rattle.dcsctp_delivery_directions.specs.sending.Log.{Message, Piece, History, IsLogOfPieces}
use Rattle.dcsctp_delivery_directions.specs.sending.Flushes.{EndsWithin}
use Rattle.dcsctp_delivery_directions.specs.sending.Turns.{turn_of_tsn, IsSsnOfTurn}
use Rattle.dcsctp_delivery_directions.proofs.sending.Places.{at_below}
use Rattle.dcsctp_delivery_directions.specs.receiving.Rows.{AreRows}
use Rattle.dcsctp_delivery_directions.specs.receiving.Ready.{IsOn, IsOfStream, ordered_base, unordered_base, StreamRows, StreamHolds, AreDistinct, WereQueued}
use Rattle.dcsctp_delivery_directions.proofs.receiving.Distinct.{has_left, appended}
use Rattle.dcsctp_delivery_directions.proofs.receiving.Waiting.{both_queued, wait_spent, split_due}
use Rattle.dcsctp_delivery_directions.specs.order.Rising.{AscendFrom}
use Rattle.dcsctp_delivery_directions.specs.order.Order.{AreReadAs}
use Rattle.dcsctp_delivery_directions.specs.order.Plain.{number_of_tsn, with_turns, CarriesOrdered}
use Rattle.dcsctp_delivery_directions.proofs.order.Rising.{skips_deliver_rising}
use Rattle.dcsctp_delivery_directions.proofs.order.Leaving.{wait_on_it, due_all, split_read}
use Rattle.dcsctp_delivery_directions.proofs.order.PlainTurns.{turn_up}
use Rattle.dcsctp_delivery_directions.proofs.order.PlainRows.{some_turn}
use Rattle.dcsctp_delivery_directions.proofs.order.PlainReading.{ssn_agrees}
use Rattle.dcsctp_delivery_directions.proofs.order.Reach.{near_exact}
use Rattle.dcsctp_delivery_directions.proofs.order.FewTurns.{CountsFew, IsClosed, none_after, closed_low}
use Rattle.dcsctp_delivery_directions.proofs.order.FewStreams.{EndedBefore, KnownBefore, FewStream, due_has, few_then}
use Rattle.dcsctp_delivery_directions.proofs.order.FewLeaving.{LeavesFew, HoldsFew, IncomingFew, few_left}

-- The entry names an ordered message of the stream by its SSN. All its TSNs are passed.
pub record SkipsTurn (history : History) (passed id ssn : ℕ) : Type 0 where
  pub number : ℕ
  pub piece : Piece
  pub at : at_place number history.log ≡ Some (Some piece)
  pub stream : id ≡ piece.message.stream
  pub ordered : piece.message.is_unordered ≡ false
  pub is : ssn ≡ piece.ssn % 2 ^ 16
  pub over : EndsWithin history.log number passed

-- This holds for an entry,
abbrev pub SkipsTurnOf : History → ℕ → SkippedTo → Type 0
SkipsTurnOf history passed (Ssn id ssn) = SkipsTurn history passed id.0 ssn
SkipsTurnOf history passed (Mid id is_unordered mid) = ⊥

-- and of each.
abbrev pub SkipTurns : History → ℕ → List SkippedTo → Type 0
SkipTurns history passed [] = Unit {0}
SkipTurns history passed (entry ∷ entries) = SkipsTurnOf history passed entry × SkipTurns history passed entries

-- ---- one stream

due_up : (next : ℕ) (waiting : List WholeModel) (low : ℕ) → AscendFrom low waiting → next ≤ next_due next waiting
due_up next [] low up = omega arith
due_up next (w ∷ waiting) low up = go (nat_le w.number next) (λ (k : ℕ). due_up k waiting (w.number + 1) up.2)
  where
    go : (b : Bool) → ((k : ℕ) → k ≤ next_due k waiting) → next ≤ (if b then next_due (if (w.number == next) then min (next + 1) (2 ^ 64 - 1) else next) waiting else next)
    go false rest = omega arith
    go true rest =
        elim (eqb_tells w.number next) [
          | inl e ↦ (let is : w.number ≡ next = e.1 in let small = up.1 in let more = rest (min (next + 1) (2 ^ 64 - 1)) in rw e.0 (omega (arith, is, small, more)))
          | inr e ↦ (let more = rest next in rw e.0 more)
        ]

module _ (queued : List Message) (history : History) (cut : IsLogOfPieces queued history.log) (counts : CountsFew history) (got : List ℕ) (known : ℕ → Bool) (has_known : (k : ℕ) → HasEntry k got → known k ≡ true)
    (passed base : ℕ) (are_known : (k : ℕ) → k < passed → known k ≡ true) (read : List ℕ) where
  rows_filter : (from : ℕ → ℕ) (Named : Piece → ℕ → Type 0) (test : RunModel → Bool) (runs : List RunModel) → AreRows history.log got from Named runs → AreRows history.log got from Named (filter test runs)
  rows_filter from Named test [] are = tt
  rows_filter from Named test (r ∷ runs) are = go (test r) (rows_filter from Named test runs are.1)
    where
      go : (b : Bool) → AreRows history.log got from Named (filter test runs) → AreRows history.log got from Named (if b then r ∷ filter test runs else filter test runs)
      go true rest = (are.0, rest)
      go false rest = rest

  rows_behind : (from : ℕ → ℕ) (Named : Piece → ℕ → Type 0) (place : ℕ) (runs : List RunModel) → AreRows history.log got from Named runs → AreRows history.log got from Named (behind_place place runs)
  rows_behind from Named place [] are = tt
  rows_behind from Named place (r ∷ runs) are = go (nat_le r.first place) (rows_behind from Named place runs are.1)
    where
      go : (b : Bool) → AreRows history.log got from Named (behind_place place runs) → AreRows history.log got from Named (if b then behind_place place runs else r ∷ runs)
      go true rest = rest
      go false rest = are

  module _ (id ssn : ℕ) (skips : SkipsTurn history passed id ssn) (all waits : List ℕ) (stream : StreamModel) (s : FewStream queued history known id all waits stream) where
    its : CarriesOrdered history.log id skips.number skips.piece
    its = record { at = skips.at; stream = sym skips.stream; ordered = skips.ordered }

    abbrev number : ℕ
    number = number_of_tsn id skips.number history.log

    -- its number is read right
    number_is : short_number_near stream.next ssn ≡ number
    number_is =
        let turn : IsSsnOfTurn skips.piece.ssn (turn_of_tsn id skips.number history.log) = (counts.plain id).sent skips.number skips.piece its in
        let some = turn.some in
        let low = counts.low id skips.number skips.piece its in
        let from = s.from in
        let high = closed_low queued history cut counts.plain counts id stream.next s.from s.ended in
        ap (short_number_near stream.next) (skips.is ∙ ssn_agrees skips.piece.ssn (turn_of_tsn id skips.number history.log) number turn.some turn.is (omega (arith, some)))
        ∙ near_exact stream.next number (omega (arith, some, low, from)) (omega (arith, some, high)) (omega (arith, some, low)) (omega (arith, from))

    abbrev start : ℕ
    start = next_past number stream.next

    -- the next number, or that after the one that is skipped
    start_is : (stream.next ≤ start) × ((start ≡ stream.next) ⊎ (start ≡ number + 1))
    start_is =
        let low = counts.low id skips.number skips.piece its in
        let some = some_turn queued history cut id (counts.plain id) skips.number skips.piece its in
        go stream.next number (omega (arith, low, some))
      where
        go : (next k : ℕ) → k + 1 < 2 ^ 64 → (next ≤ next_past k next) × ((next_past k next ≡ next) ⊎ (next_past k next ≡ k + 1))
        go next k small = (omega arith, elim (leb_tells (k + 1) next) [ inl e ↦ inl (let le : k + 1 ≤ next = e.1 in omega (arith, le, small)) | inr e ↦ inr (let lt : next < k + 1 = e.1 in omega (arith, lt, small)) ])

    -- all before it have ended
    ended_then : EndedBefore history id start
    ended_then = elim start_is.1 [
      | inl e ↦ subst (λ (k : ℕ). EndedBefore history id k) (sym e) s.ended
      | inr e ↦ inr (closed e)
    ]
      where
        closed : start ≡ number + 1 → IsClosed history.log id (start - 2 ^ 32)
        closed e =
            let o = skips.over in
            let up = (turn_up id skips.number o.offset history.log o.from (at_below o.offset o.slot history.log o.at)).0 in
            let some = some_turn queued history cut id (counts.plain id) skips.number skips.piece its in
            record { offset = o.offset; slot = o.slot; at = o.at; ends = o.ends; reached = omega (arith, up, e, some) }

    known_then : KnownBefore history known id start
    known_then n f is less = elim start_is.1 [
      | inl e ↦ s.over n f is (let same : start ≡ stream.next = e in omega (arith, less, same))
      | inr e ↦ passed_so e
    ]
      where
        passed_so : start ≡ number + 1 → known n ≡ true
        passed_so e =
            let o = skips.over in
            let up = (turn_up id skips.number o.offset history.log o.from (at_below o.offset o.slot history.log o.at)).0 in
            let some = some_turn queued history cut id (counts.plain id) skips.number skips.piece its in
            let some' = some_turn queued history cut id (counts.plain id) n f is in
            let c : IsClosed history.log id (turn_of_tsn id skips.number history.log) = record { offset = o.offset; slot = o.slot; at = o.at; ends = o.ends; reached = up } in
            let before = none_after queued history cut counts.plain id (turn_of_tsn id skips.number history.log) n f c is (omega (arith, less, e, some, some')) in
            let to = o.to in
            are_known n (omega (arith, before, to))

  -- what is due becomes ready
  leaves_due : (id ssn : ℕ) (skips : SkipsTurn history passed id ssn) (all places waits : List ℕ) (stream : StreamModel) (before : List MessageContent) → StreamHolds queued history got base id waits stream → WereQueued queued places before
      → AreDistinct (all ++ waits) → FewStream queued history known id all waits stream → LeavesFew queued history got known all places id (stream_after_skip (Ssn (record { 0 = id }) ssn) stream) (before ++ skip_deliveries (Ssn (record { 0 = id }) ssn) stream)
  leaves_due id ssn skips all places waits stream before holds were once s =
      let next : ℕ = next_past (short_number_near stream.next ssn) stream.next in
      let split = split_due queued history got id next waits stream.waiting holds.wait in
      let halves = split_read queued (with_turns history) id id split.front split.back (due next stream.waiting) (not_due next stream.waiting) split.due_queued
      (subst (λ (l : List ℕ). AreReadAs (with_turns history) id l (due next stream.waiting ++ not_due next stream.waiting)) split.parts
      (subst (λ (l : List WholeModel). AreReadAs (with_turns history) id waits l) (sym (due_all next stream.waiting)) s.order.waiting)) in
      record {
        more = split.front;
        waits = split.back;
        were = both_queued queued places split.front before (map (delivered_as stream.id) (due next stream.waiting)) were
            (subst (λ (k : ℕ). WereQueued queued split.front (map (delivered_as k) (due next stream.waiting))) (sym holds.rows.is) split.due_queued);
        wait = split.left_queued;
        once = subst (λ (l : List ℕ). AreDistinct l) (sym (appended all split.front split.back)) (subst (λ (l : List ℕ). AreDistinct (all ++ l)) split.parts once);
        on = λ q h. wait_on_it queued history got id q waits stream.waiting holds.wait (subst (λ (l : List ℕ). HasEntry q l) (sym split.parts) (has_left q split.front split.back h));
        spent = λ q h. wait_spent queued history got id q waits stream.waiting holds.wait (subst (λ (l : List ℕ). HasEntry q l) (sym split.parts) (has_left q split.front split.back h));
        order = few_then queued history cut counts.plain got known has_known id all waits stream s.order next split.front split.back (due next stream.waiting) (stream_after_skip (Ssn (record { 0 = id }) ssn) stream) before
            (before ++ skip_deliveries (Ssn (record { 0 = id }) ssn) stream) (skips_deliver_rising (Ssn (record { 0 = id }) ssn) stream before s.order.ahead) halves.0 halves.1
            (λ q h. wait_spent queued history got id q waits stream.waiting holds.wait (subst (λ (l : List ℕ). HasEntry q l) (sym split.parts) (has_left q split.front split.back h)))
            (let low = s.from in let up = from_next in omega (arith, low, up)) (due_up next stream.waiting (stream.next + 1) s.order.ahead)
            (subst (λ (k : ℕ). EndedBefore history id (next_past k stream.next)) (sym same) (ended_then id ssn skips all waits stream s))
            (subst (λ (k : ℕ). KnownBefore history known id (next_past k stream.next)) (sym same) (known_then id ssn skips all waits stream s))
            (due_has (stream.next + 1) next stream.waiting s.order.ahead);
      }
    where
      same : short_number_near stream.next ssn ≡ number_of_tsn id skips.number history.log
      same = number_is id ssn skips all waits stream s

      from_next : stream.next ≤ next_past (short_number_near stream.next ssn) stream.next
      from_next = subst (λ (k : ℕ). stream.next ≤ next_past k stream.next) (sym same) (start_is id ssn skips all waits stream s).0

  skipped_rows : (id ssn : ℕ) (waits : List ℕ) (stream : StreamModel) → SkipsTurn history passed id ssn → StreamHolds queued history got base id waits stream → StreamRows history got base id (stream_after_skip (Ssn (record { 0 = id }) ssn) stream)
  skipped_rows id ssn waits stream skips holds =
      record {
        is = holds.rows.is;
        ordered = rows_filter (ordered_base base) (IsOn history id) (λ run. not (nat_le run.number (short_number_near stream.next ssn))) stream.ordered holds.rows.ordered;
        unordered = holds.rows.unordered;
        next = λ start' w. absurd (let clash : true ≡ false = sym (w.kinds skips.number skips.piece skips.at) ∙ (counts.plain 0).kinds skips.number skips.piece skips.at in cc);
        last = holds.rows.last;
      }

  -- ---- all streams

  on_itself : (entry : SkippedTo) (stream : StreamModel) → skipped_on entry (skipped_stream entry) stream ≡ stream_after_skip entry stream
  on_itself entry stream = go (skipped_stream entry == skipped_stream entry) (elim (eqb_tells (skipped_stream entry) (skipped_stream entry)) [ inl e ↦ e.0 | inr e ↦ absurd (e.1 refl) ])
    where
      go : (b : Bool) → b ≡ true → (if b then stream_after_skip entry stream else stream) ≡ stream_after_skip entry stream
      go true e = refl
      go false e = absurd (cc)

  on_others : (entry : SkippedTo) (other : ℕ) (stream : StreamModel) → other ≢ skipped_stream entry → skipped_on entry other stream ≡ stream
  on_others entry other stream ne = go (skipped_stream entry == other) (elim (eqb_tells (skipped_stream entry) other) [ inl e ↦ absurd (ne (sym e.1)) | inr e ↦ e.0 ])
    where
      go : (b : Bool) → b ≡ false → (if b then stream_after_skip entry stream else stream) ≡ stream
      go true e = absurd (cc)
      go false e = refl

  one_skipped : (entry : SkippedTo) (streams : ℕ → StreamModel) (unordered : List RunModel) (ready : List MessageContent) → HoldsFew queued history got known base read streams unordered ready
      → SkipsTurnOf history passed entry → HoldsFew queued history got known base read (λ id. skipped_on entry id (streams id)) unordered (ready ++ skip_deliveries entry (streams (skipped_stream entry)))
  one_skipped (Mid on is_unordered mid) streams unordered ready o skips = absurd skips
  one_skipped (Ssn on ssn) streams unordered ready o skips =
      let here : StreamHolds queued history got base on.0 (o.holds.waits on.0) (streams on.0) = o.holds.streams_hold on.0 in
      let is = on_itself (Ssn on ssn) (streams on.0) in
      few_left queued history got known base read on.0 streams (λ other. skipped_on (Ssn on ssn) other (streams other)) unordered unordered ready (ready ++ skip_deliveries (Ssn on ssn) (streams on.0)) o
      (subst (λ (s : StreamModel). StreamRows history got base on.0 s) (sym is) (skipped_rows on.0 ssn (o.holds.waits on.0) (streams on.0) skips here)) o.holds.rows
      (λ other ne. on_others (Ssn on ssn) other (streams other) ne)
      (subst (λ (s : StreamModel). LeavesFew queued history got known (read ++ o.holds.places) o.holds.places on.0 s (ready ++ skip_deliveries (Ssn on ssn) (streams on.0))) (sym is)
      (leaves_due on.0 ssn skips (read ++ o.holds.places) o.holds.places (o.holds.waits on.0) (streams on.0) ready here o.holds.were_queued (o.holds.once on.0) (o.order on.0)))

  all_skipped : (entries : List SkippedTo) (streams : ℕ → StreamModel) (unordered : List RunModel) (ready : List MessageContent) → HoldsFew queued history got known base read streams unordered ready
      → SkipTurns history passed entries → HoldsFew queued history got known base read (λ id. stream_skipping entries id (streams id)) unordered (ready ++ deliveries_of_skips entries streams)
  all_skipped [] streams unordered ready o skip = subst (λ (l : List MessageContent). HoldsFew queued history got known base read streams unordered l) (sym (append-nil ready)) o
  all_skipped (entry ∷ entries) streams unordered ready o skip =
      subst (λ (l : List MessageContent). HoldsFew queued history got known base read (λ id. stream_skipping (entry ∷ entries) id (streams id)) unordered l)
      (messages_appended ready (skip_deliveries entry (streams (skipped_stream entry))) (deliveries_of_skips entries (λ id. skipped_on entry id (streams id))))
      (all_skipped entries (λ id. skipped_on entry id (streams id)) unordered (ready ++ skip_deliveries entry (streams (skipped_stream entry))) (one_skipped entry streams unordered ready o skip.0) skip.1)
    where
      messages_appended : (xs ys zs : List MessageContent) → (xs ++ ys) ++ zs ≡ xs ++ (ys ++ zs)
      messages_appended [] ys zs = refl
      messages_appended (x ∷ xs) ys zs = ap (λ (l : List MessageContent). x ∷ l) (messages_appended xs ys zs)

  -- streams that are the same, and other runs of unordered messages
  holds_same : (streams others : ℕ → StreamModel) (unordered runs : List RunModel) (ready : List MessageContent) → ((id : ℕ) → others id ≡ streams id) → AreRows history.log got (unordered_base base) IsOfStream runs
      → HoldsFew queued history got known base read streams unordered ready → HoldsFew queued history got known base read others runs ready
  holds_same streams others unordered runs ready same rows o =
      record {
        holds = record {
          waits = o.holds.waits;
          streams_hold = λ id. subst (λ (s : StreamModel). StreamHolds queued history got base id (o.holds.waits id) s) (sym (same id)) (o.holds.streams_hold id);
          rows = rows;
          places = o.holds.places;
          were_queued = o.holds.were_queued;
          spent = o.holds.spent;
          once = o.holds.once;
        };
        order = λ id. subst (λ (s : StreamModel). FewStream queued history known id (read ++ o.holds.places) (o.holds.waits id) s) (sym (same id)) (o.order id);
      }

  pub skipping_few : (tsn : ℕ) (entries : List SkippedTo) (old new : IncomingModel) → SkipTurns history passed entries → IncomingFew queued history got known base read old → MovesOn tsn entries old new → IncomingFew queued history got known base read new
  skipping_few tsn entries old new skip o moves =
      let skipped_all = all_skipped entries (λ id. stream_on id old.streams) old.unordered old.ready o skip in
      let rows : AreRows history.log got (unordered_base base) IsOfStream new.unordered = subst (λ (l : List RunModel). AreRows history.log got (unordered_base base) IsOfStream l) (sym moves.unordered) (rows_behind (unordered_base base) IsOfStream (number_near old.last_tsn_number tsn) old.unordered o.holds.rows) in
      subst (λ (l : List MessageContent). HoldsFew queued history got known base read (λ id. stream_on id new.streams) new.unordered l) (sym moves.ready)
      (holds_same (λ id. stream_skipping entries id (stream_on id old.streams)) (λ id. stream_on id new.streams) old.unordered new.unordered (old.ready ++ deliveries_of_skips entries (λ id. stream_on id old.streams)) moves.streams rows skipped_all)
