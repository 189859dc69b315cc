-- A chunk of data whose TSN is new, in order, where few ordered messages were begun on each stream.
use Rattle.std.proofs.Common.{◌≡◌, ◌≢◌, ◌≤◌, ◌%◌, ◌^◌, ℕ, Bool, true, false, List, ◌∷◌, ◌++◌, refl, sym, ◌∙◌, ap, arith, subst, inl, inr}
use Rattle.std.specs.Prelude.{Some}
use Rattle.std.proofs.lemmas.Bool.Decides.{leb_tells}
use Rattle.dcsctp_spec_lemmas.specs.types.queues.Messages.{MessageContent}
use Rattle.dcsctp_spec_lemmas.specs.types.declared.arrivals.Numbering.{Numbering}
use Rattle.dcsctp_spec_lemmas.specs.types.declared.arrivals.Numbering.TheVariants.{Ordered, Unordered, InterleavedOrdered, InterleavedUnordered}
use Rattle.dcsctp_spec_lemmas.specs.types.declared.arrivals.Taken.{Taken}
use Rattle.dcsctp_spec_lemmas.specs.spec.queues.Numbers.{number_near, short_number_from, fragment_place}
use Rattle.dcsctp_spec_lemmas.specs.spec.queues.Runs.{RunModel, Assembly, part_dropped, part_kept, message_whole}
use Rattle.dcsctp_spec_lemmas.specs.spec.queues.IncomingStreams.{StreamModel, ChunkModel, data_part, delivered_as, UnorderedOutcome, TakesAhead, TakesNumberedPart, numbered_part}
use Rattle.dcsctp_spec_lemmas.specs.spec.queues.Incoming.{IncomingModel, stream_on, TakesChunk, TakesIncomingChunk}
use Rattle.dcsctp_delivery_directions.specs.sending.Places.{HasEntry}
use Rattle.dcsctp_delivery_directions.specs.sending.Log.{Message, Piece, History, IsLogOfPieces}
use Rattle.dcsctp_delivery_directions.specs.sending.Numbers.{IsUnambiguous, plain}
use Rattle.dcsctp_delivery_directions.specs.sending.Turns.{turn_of_tsn, IsSsnOfTurn}
use Rattle.dcsctp_delivery_directions.specs.receiving.Rows.{IsPart, AreRows, Spent, MakesQueued}
use Rattle.dcsctp_delivery_directions.specs.receiving.Ready.{IsOn, IsApart, IsOfStream, ReadsMids, ordered_base, unordered_base, StreamHolds, IsNumbered, BearsPiece}
use Rattle.dcsctp_delivery_directions.proofs.receiving.Chaining.{one_kind}
use Rattle.dcsctp_delivery_directions.proofs.receiving.SpentRows.{stay_rows, rows_got, spent_got, was_handled, of_message, IsOfMessage}
use Rattle.dcsctp_delivery_directions.proofs.receiving.Distinct.{has_either, has_right}
use Rattle.dcsctp_delivery_directions.proofs.receiving.Waiting.{OfStream, wait_spent, stream_got}
use Rattle.dcsctp_delivery_directions.proofs.receiving.Reading.{tells_as, tells_plain, ordered_reads}
use Rattle.dcsctp_delivery_directions.proofs.receiving.Parts.{part_of, ordered_placed, unordered_placed}
use Rattle.dcsctp_delivery_directions.specs.order.Queue.{IsOrderedOn}
use Rattle.dcsctp_delivery_directions.specs.order.Rising.{IsAhead}
use Rattle.dcsctp_delivery_directions.specs.order.Plain.{number_of_tsn, CarriesOrdered}
use Rattle.dcsctp_delivery_directions.proofs.order.PlainRows.{some_turn}
use Rattle.dcsctp_delivery_directions.proofs.order.PlainReading.{from_exact, ssn_agrees, none_waits}
use Rattle.dcsctp_delivery_directions.proofs.order.FewTurns.{CountsFew}
use Rattle.dcsctp_delivery_directions.proofs.order.FewStreams.{FewStream, known_more, others_few}
use Rattle.dcsctp_delivery_directions.proofs.order.FewLeaving.{apart_left, ordered_left, HoldsFew, IncomingFew, few_left}

-- ---- a chunk

module _ (queued : List Message) (history : History) (cut : IsLogOfPieces queued history.log) (counts : CountsFew history) (got : List ℕ) (known later_known : ℕ → Bool) (base : ℕ) (read : List ℕ) (grows : (k : ℕ) → known k ≡ true → later_known k ≡ true) where
  abbrev told : IsUnambiguous history
  told = plain (counts.plain 0).kinds

  -- ---- the number of its message

  -- A message whose TSN isn't known doesn't come before the next.
  pub ssn_is_read : (id n : ℕ) (f : Piece) (all waits : List ℕ) (stream : StreamModel) → FewStream queued history known id all waits stream → CarriesOrdered history.log id n f → (known n ≡ true → ⊥)
      → (stream.next ≤ number_of_tsn id n history.log) × (short_number_from stream.next (f.ssn % 2 ^ 16) ≡ number_of_tsn id n history.log)
  ssn_is_read id n f all waits stream s is unknown =
      let turn : IsSsnOfTurn f.ssn (turn_of_tsn id n history.log) = (counts.plain id).sent n f is in
      let some = turn.some in
      let low = counts.low id n f is in
      let from = s.from in
      let up : stream.next ≤ number_of_tsn id n history.log = elim (leb_tells stream.next (number_of_tsn id n history.log)) [
        | inl e ↦ e.1
        | inr e ↦ absurd (unknown (s.over n f is e.1))
      ] in (
        up,
        ap (short_number_from stream.next) (ssn_agrees f.ssn (turn_of_tsn id n history.log) (number_of_tsn id n history.log) turn.some turn.is (omega (arith, some)))
            ∙ from_exact stream.next (number_of_tsn id n history.log) up (omega (arith, some, low, from)) (omega (arith, some, low)),
      )

  module _ (tsn_number : ℕ) (chunk : ChunkModel) (bears : BearsPiece history base tsn_number chunk) (is_new : HasEntry bears.offset got → ⊥) (has_known : (k : ℕ) → HasEntry k (bears.offset ∷ got) → later_known k ≡ true)
      (streams : ℕ → StreamModel) (unordered : List RunModel) (ready : List MessageContent) (o : HoldsFew queued history got known base read streams unordered ready) where
    all : List ℕ
    all = read ++ o.holds.places

    abbrev pub now : List ℕ
    now = bears.offset ∷ got

    -- what was held is held still
    abbrev held : HoldsFew queued history now later_known base read streams unordered ready
    held =
        record {
          holds = record {
            waits = o.holds.waits;
            streams_hold = λ id. stream_got queued history got bears.offset base id (o.holds.waits id) (streams id) (o.holds.streams_hold id);
            rows = rows_got history.log got bears.offset (unordered_base base) IsOfStream unordered o.holds.rows;
            places = o.holds.places;
            were_queued = o.holds.were_queued;
            spent = λ q h. spent_got history.log got bears.offset q (o.holds.spent q h);
            once = o.holds.once;
          };
          order = λ id. known_more queued history known later_known id (read ++ o.holds.places) (o.holds.waits id) (streams id) grows (o.order id);
        }

    -- its message is neither ready nor read, and doesn't wait
    fresh : (id : ℕ) → HasEntry bears.piece.place (all ++ o.holds.waits id) → ⊥
    unfolding all
    fresh id h =
        let spent : Spent history.log got bears.piece.place = elim (has_either bears.piece.place (read ++ o.holds.places) (o.holds.waits id) h) [
          | inl l ↦ o.holds.spent bears.piece.place l
          | inr r ↦ wait_spent queued history got id bears.piece.place (o.holds.waits id) (streams id).waiting (o.holds.streams_hold id).wait r
        ] in
        is_new (was_handled queued history.log cut got bears.piece.place spent bears.offset bears.piece bears.at refl)

    -- ---- an ordered one

    abbrev own_number : ℕ
    own_number = number_of_tsn chunk.stream bears.offset history.log

    ahead : (later : ℕ → StreamModel) (runs : List RunModel) (after : List MessageContent) (taken : Taken) → bears.piece.is_interleaved ≡ false → bears.piece.message.is_unordered ≡ false → (streams chunk.stream).next ≤ own_number
        → runs ≡ unordered → ((other : ℕ) → other ≢ chunk.stream → later other ≡ streams other)
        → TakesAhead (data_part chunk (fragment_place own_number tsn_number) own_number) (streams chunk.stream) ready taken (later chunk.stream) after → HoldsFew queued history now later_known base read later runs after
    unfolding all
    ahead later runs after taken kind ordered from kept others takes =
        let here : StreamHolds queued history got base chunk.stream (o.holds.waits chunk.stream) (streams chunk.stream) = o.holds.streams_hold chunk.stream in
        let then_here : StreamHolds queued history now base chunk.stream (o.holds.waits chunk.stream) (streams chunk.stream) = held.holds.streams_hold chunk.stream in
        let is : CarriesOrdered history.log chunk.stream bears.offset bears.piece = record { at = bears.at; stream = sym bears.stream; ordered = ordered } in
        let part : IsPart history.log (ordered_base base) (IsOn history chunk.stream) (data_part chunk (fragment_place own_number tsn_number) own_number) =
        part_of history base (ordered_base base) (IsOn history chunk.stream) tsn_number (fragment_place own_number tsn_number) own_number chunk bears (ordered_placed history base tsn_number own_number chunk bears kind)
        (sym bears.stream, λ i. absurd (let clash : true ≡ false = sym i ∙ kind in cc)) in
        let some = some_turn queued history cut chunk.stream (counts.plain chunk.stream) bears.offset bears.piece is in
        let low = counts.low chunk.stream bears.offset bears.piece is in
        let ahead_of : IsAhead (data_part chunk (fragment_place own_number tsn_number) own_number) (streams chunk.stream) =
        record {
          from = from;
          counted = omega (arith, some, low);
          fresh = none_waits queued history cut chunk.stream (counts.plain chunk.stream) bears.offset bears.piece is (o.holds.waits chunk.stream) (streams chunk.stream).waiting (o.order chunk.stream).order.waiting
              (λ h. fresh chunk.stream (has_right bears.piece.place all (o.holds.waits chunk.stream) h));
        } in
        let does = takes.fresh ahead_of.fresh in
        let rows = stay_rows queued history.log cut (one_kind history told) got (ordered_base base) (IsOn history chunk.stream) (λ m n f g k. tells_as history told false chunk.stream m n f g k) (data_part chunk (fragment_place own_number tsn_number) own_number)
        (streams chunk.stream).ordered (later chunk.stream).ordered does.outcome part here.rows.ordered does.parts in
        few_left queued history now later_known base read chunk.stream streams later unordered runs ready after held
        (record {
          is = does.id ∙ here.rows.is;
          ordered = rows.0;
          unordered = subst (λ (l : List RunModel). AreRows history.log now (ordered_base base) (IsApart history chunk.stream) l) (sym does.unordered.1) then_here.rows.unordered;
          next = ordered_reads queued history now chunk.stream bears.piece.place (o.holds.waits chunk.stream) (data_part chunk (fragment_place own_number tsn_number) own_number) (streams chunk.stream) (later chunk.stream) ready after does.outcome taken then_here.wait rows.1 does.does here.rows.next;
          last = subst (λ (k : ℕ). ReadsMids history chunk.stream true k) (sym does.unordered.0) here.rows.last;
        }) (subst (λ (l : List RunModel). AreRows history.log now (unordered_base base) IsOfStream l) (sym kept) held.holds.rows) others
        (ordered_left queued history cut counts.plain got later_known chunk.stream bears.offset bears.piece is has_known (data_part chunk (fragment_place own_number tsn_number) own_number) refl
        (streams chunk.stream) (later chunk.stream) ready after taken does (read ++ o.holds.places) o.holds.places (o.holds.waits chunk.stream) (held.order chunk.stream)
        (sym here.rows.is) o.holds.were_queued then_here.wait (o.holds.once chunk.stream) (fresh chunk.stream) ahead_of rows.1)

    -- ---- an unordered one

    -- an unordered message isn't an ordered one
    not_ordered : (id : ℕ) → bears.piece.message.is_unordered ≡ true → IsOrderedOn queued id bears.piece.place → ⊥
    not_ordered id unordered_is on =
        let both : Some bears.piece.message ≡ Some on.message = sym (cut.pieces bears.offset bears.piece bears.at).at ∙ on.at in
        let same : bears.piece.message ≡ on.message = cc in
        let clash : true ≡ false = sym unordered_is ∙ ap (λ (m : Message). m.is_unordered) same ∙ on.ordered in
        absurd (cc)

    makes_on : (outcome : Assembly) → MakesQueued queued history.log now IsOfStream bears.piece.place outcome → IsOfMessage chunk.stream outcome → MakesQueued queued history.log now (OfStream chunk.stream) bears.piece.place outcome
    makes_on part_dropped makes of = tt
    makes_on part_kept makes of = tt
    makes_on (message_whole whole) makes of =
        record { offset = makes.offset; head = makes.head; at = makes.at; is = makes.is; queued_at = makes.queued_at; number = makes.number.0 ∙ of; ppid = makes.ppid; payload = makes.payload; spent = makes.spent }

    unordered_chunk : (later : ℕ → StreamModel) (runs : List RunModel) (after : List MessageContent) (outcome : Assembly) (taken : Taken) → bears.piece.message.is_unordered ≡ true → later ≡ streams
        → AreRows history.log now (unordered_base base) IsOfStream runs → MakesQueued queued history.log now (OfStream chunk.stream) bears.piece.place outcome
        → UnorderedOutcome (data_part chunk tsn_number chunk.stream) (delivered_as chunk.stream) ready outcome taken after → HoldsFew queued history now later_known base read later runs after
    unfolding all
    unordered_chunk later runs after outcome taken unordered_is same rows makes does =
        subst (λ (s : ℕ → StreamModel). HoldsFew queued history now later_known base read s runs after) (sym same)
        (few_left queued history now later_known base read chunk.stream streams streams unordered runs ready after held (held.holds.streams_hold chunk.stream).rows rows (λ other ne. refl)
        (apart_left queued history now later_known (read ++ o.holds.places) o.holds.places (o.holds.waits chunk.stream) chunk.stream bears.piece.place (data_part chunk tsn_number chunk.stream) (streams chunk.stream) ready after outcome taken
        o.holds.were_queued (held.holds.streams_hold chunk.stream).wait makes (o.holds.once chunk.stream) (fresh chunk.stream)
        (λ more each. others_few queued history later_known chunk.stream (read ++ o.holds.places) (o.holds.waits chunk.stream) more (streams chunk.stream)
        (λ place h on. not_ordered chunk.stream unordered_is (subst (λ (k : ℕ). IsOrderedOn queued chunk.stream k) (each place h) on)) (held.order chunk.stream)) does))

  -- ---- whichever it is

  by_numbering : (tsn_number : ℕ) (numbering : Numbering) (chunk : ChunkModel) (old new : IncomingModel) → chunk.numbering ≡ numbering → (bears : BearsPiece history base tsn_number chunk) → IsNumbered bears.piece numbering
      → (HasEntry bears.offset got → ⊥) → (known bears.offset ≡ true → ⊥) → ((k : ℕ) → HasEntry k (bears.offset ∷ got) → later_known k ≡ true)
      → IncomingFew queued history got known base read old → TakesChunk tsn_number numbering chunk old new → IncomingFew queued history (bears.offset ∷ got) later_known base read new
  by_numbering tsn_number (Ordered ssn) chunk old new is bears numbered is_new unknown has_known o takes =
      let reads = ssn_is_read chunk.stream bears.offset bears.piece (read ++ o.holds.places) (o.holds.waits chunk.stream) (stream_on chunk.stream old.streams) (o.order chunk.stream)
      (record { at = bears.at; stream = sym bears.stream; ordered = numbered.1 }) unknown in
      let number : short_number_from (stream_on chunk.stream old.streams).next ssn ≡ number_of_tsn chunk.stream bears.offset history.log = ap (short_number_from (stream_on chunk.stream old.streams).next) numbered.2 ∙ reads.1 in
      let does : TakesAhead (data_part chunk (fragment_place (short_number_from (stream_on chunk.stream old.streams).next ssn) tsn_number) (short_number_from (stream_on chunk.stream old.streams).next ssn))
      (stream_on chunk.stream old.streams) old.ready takes.taken (stream_on chunk.stream new.streams) new.ready =
      subst (λ (n : Numbering). TakesNumberedPart (numbered_part tsn_number chunk n (stream_on chunk.stream old.streams)) (stream_on chunk.stream old.streams) old.ready takes.taken (stream_on chunk.stream new.streams) new.ready) is takes.does in
      ahead tsn_number chunk bears is_new has_known (λ id. stream_on id old.streams) old.unordered old.ready o (λ id. stream_on id new.streams) new.unordered new.ready takes.taken numbered.0 numbered.1 reads.0 takes.unordered takes.others
      (subst (λ (k : ℕ). TakesAhead (data_part chunk (fragment_place k tsn_number) k) (stream_on chunk.stream old.streams) old.ready takes.taken (stream_on chunk.stream new.streams) new.ready) number does)
  by_numbering tsn_number Unordered chunk old new is bears numbered is_new unknown has_known o takes =
      let part = part_of history base (unordered_base base) IsOfStream tsn_number tsn_number chunk.stream chunk bears (unordered_placed history base tsn_number chunk.stream chunk bears numbered.0) (sym bears.stream, numbered.0) in
      let rows = stay_rows queued history.log cut (one_kind history told) got (unordered_base base) IsOfStream (λ m n f g k. tells_plain history.log m n f g k) (data_part chunk tsn_number chunk.stream) old.unordered new.unordered takes.does.outcome part o.holds.rows takes.does.parts in
      unordered_chunk tsn_number chunk bears is_new has_known (λ id. stream_on id old.streams) old.unordered old.ready o (λ id. stream_on id new.streams) new.unordered new.ready takes.does.outcome takes.taken numbered.1
      (ap (λ (s : List (ℕ × StreamModel)). λ id. stream_on id s) takes.streams) rows.0
      (makes_on tsn_number chunk bears is_new has_known (λ id. stream_on id old.streams) old.unordered old.ready o takes.does.outcome rows.1 (of_message (data_part chunk tsn_number chunk.stream) old.unordered new.unordered takes.does.outcome takes.does.parts)) takes.does.does
  by_numbering tsn_number (InterleavedOrdered mid fsn) chunk old new is bears numbered is_new unknown has_known o takes =
      absurd (let clash : true ≡ false = sym numbered.0 ∙ (counts.plain 0).kinds bears.offset bears.piece bears.at in cc)
  by_numbering tsn_number (InterleavedUnordered mid fsn) chunk old new is bears numbered is_new unknown has_known o takes =
      absurd (let clash : true ≡ false = sym numbered.0 ∙ (counts.plain 0).kinds bears.offset bears.piece bears.at in cc)

  pub ready_few : (tsn : ℕ) (chunk : ChunkModel) (old new : IncomingModel) → (bears : BearsPiece history base (number_near old.last_tsn_number tsn) chunk) → (HasEntry bears.offset got → ⊥) → (known bears.offset ≡ true → ⊥)
      → ((k : ℕ) → HasEntry k (bears.offset ∷ got) → later_known k ≡ true) → IncomingFew queued history got known base read old → TakesIncomingChunk tsn chunk old new → IncomingFew queued history (bears.offset ∷ got) later_known base read new
  ready_few tsn chunk old new bears is_new unknown has_known o takes = by_numbering (number_near old.last_tsn_number tsn) chunk.numbering chunk old new refl bears bears.numbered is_new unknown has_known o takes.takes
