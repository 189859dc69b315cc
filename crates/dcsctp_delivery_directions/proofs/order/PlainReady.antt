-- A chunk of data whose TSN is new, in order, without interleaving.
use Rattle.std.proofs.Common.{◌≡◌, ◌≢◌, ◌<◌, ◌≤◌, ◌+◌, ◌^◌, ℕ, Bool, true, false, List, ◌∷◌, ◌++◌, refl, sym, ◌∙◌, ap, arith, subst, inl, inr}
use Rattle.std.specs.Prelude.{Some}
use Rattle.dcsctp_spec_lemmas.specs.types.queues.Messages.{MessageContent}
use Rattle.dcsctp_spec_lemmas.specs.types.declared.arrivals.Numbering.{Numbering}
use Rattle.dcsctp_spec_lemmas.specs.types.declared.arrivals.Numbering.TheVariants.{Ordered, Unordered, InterleavedOrdered, InterleavedUnordered}
use Rattle.dcsctp_spec_lemmas.specs.types.declared.arrivals.Taken.{Taken}
use Rattle.dcsctp_spec_lemmas.specs.spec.queues.Numbers.{number_near, short_number_from, fragment_place}
use Rattle.dcsctp_spec_lemmas.specs.spec.queues.Runs.{RunModel, Assembly, part_dropped, part_kept, message_whole}
use Rattle.dcsctp_spec_lemmas.specs.spec.queues.IncomingStreams.{StreamModel, ChunkModel, data_part, delivered_as, UnorderedOutcome, TakesAhead, TakesNumberedPart, numbered_part}
use Rattle.dcsctp_spec_lemmas.specs.spec.queues.Incoming.{IncomingModel, stream_on, TakesChunk, TakesIncomingChunk}
use Rattle.dcsctp_delivery_directions.specs.sending.Places.{HasEntry, table_with}
use Rattle.dcsctp_delivery_directions.specs.sending.Log.{Message, Piece, History, IsLogOfPieces, sent_messages}
use Rattle.dcsctp_delivery_directions.specs.sending.Numbers.{IsUnambiguous, plain}
use Rattle.dcsctp_delivery_directions.proofs.sending.Places.{decide, set_same, set_other}
use Rattle.dcsctp_delivery_directions.specs.receiving.Rows.{IsPart, AreRows, Spent, MakesQueued}
use Rattle.dcsctp_delivery_directions.specs.receiving.Ready.{IsOn, IsApart, IsOfStream, ReadsMids, ordered_base, unordered_base, StreamRows, AreDistinct, WaitQueued, StreamHolds, IsNumbered, BearsPiece, held_messages}
use Rattle.dcsctp_delivery_directions.proofs.receiving.Chaining.{one_kind}
use Rattle.dcsctp_delivery_directions.proofs.receiving.SpentRows.{stay_rows, rows_got, spent_got, was_handled, of_message, IsOfMessage}
use Rattle.dcsctp_delivery_directions.proofs.receiving.Distinct.{distinct_left, distinct_apart, appended, has_either, has_right}
use Rattle.dcsctp_delivery_directions.proofs.receiving.Waiting.{OfStream, wait_spent, wait_got, stream_rows_got, stream_got}
use Rattle.dcsctp_delivery_directions.proofs.receiving.Reading.{tells_as, tells_plain, ordered_reads}
use Rattle.dcsctp_delivery_directions.proofs.receiving.Parts.{part_of, ordered_placed, unordered_placed}
use Rattle.dcsctp_delivery_directions.specs.order.Queue.{IsOrderedOn}
use Rattle.dcsctp_delivery_directions.specs.order.Rising.{IsAhead}
use Rattle.dcsctp_delivery_directions.specs.order.Plain.{number_of_tsn, CountsThese, CarriesOrdered, PlainStream, HoldsPlain, IncomingPlain}
use Rattle.dcsctp_delivery_directions.proofs.order.PlainMissing.{PassedOn}
use Rattle.dcsctp_delivery_directions.proofs.receiving.Ready.{holds_beside}
use Rattle.dcsctp_delivery_directions.proofs.receiving.Waiting.{HoldsBeside}
use Rattle.dcsctp_delivery_directions.proofs.order.Leaving.{IsOnIt, one_stream, wait_on_it}
use Rattle.dcsctp_delivery_directions.proofs.order.PlainReading.{plain_ahead, ssn_is_read}
use Rattle.dcsctp_delivery_directions.proofs.order.PlainLeaving.{others_plain, LeavesPlain, apart_left, ordered_left}

-- ---- a chunk

module _ (queued : List Message) (history : History) (cut : IsLogOfPieces queued history.log) (whole : Bool) (these : ℕ → Bool) (counts : CountsThese whole these history) (got : List ℕ) (base : ℕ) (small : base + 2 ^ 32 < 2 ^ 64) (read : List ℕ) where
  abbrev told : IsUnambiguous history
  told = plain counts.kinds

  module _ (tsn_number : ℕ) (chunk : ChunkModel) (bears : BearsPiece history base tsn_number chunk) (is_new : HasEntry bears.offset got → ⊥)
      (streams : ℕ → StreamModel) (unordered : List RunModel) (ready : List MessageContent) (o : HoldsPlain these (sent_messages queued history) got base read (held_messages streams unordered ready)) where
    all : List ℕ
    all = read ++ o.holds.places

    abbrev pub now : List ℕ
    now = bears.offset ∷ got

    -- its message is neither ready nor read, and doesn't wait
    fresh : (id : ℕ) → HasEntry bears.piece.place (all ++ o.holds.waits id) → ⊥
    unfolding all
    fresh id h =
        let spent : Spent history.log got bears.piece.place = elim (has_either bears.piece.place (read ++ o.holds.places) (o.holds.waits id) h) [
          | inl l ↦ o.holds.spent bears.piece.place l
          | inr r ↦ wait_spent queued history got id bears.piece.place (o.holds.waits id) (streams id).waiting (o.holds.streams_hold id).wait r
        ] in
        is_new (was_handled queued history.log cut got bears.piece.place spent bears.offset bears.piece bears.at refl)

    -- the places of all, once more messages are ready
    all_then : (more : List ℕ) → all ++ more ≡ read ++ (o.holds.places ++ more)
    unfolding all
    all_then more = appended read o.holds.places more

    -- its TSN is of no other stream
    not_of : (other : ℕ) → other ≢ chunk.stream → (f : Piece) → CarriesOrdered history.log other bears.offset f → ⊥
    not_of other ne f is =
        let both : Some (Some f) ≡ Some (Some bears.piece) = sym is.at ∙ bears.at in
        let same : f ≡ bears.piece = cc in
        ne (sym is.stream ∙ ap (λ (x : Piece). x.message.stream) same ∙ sym bears.stream)

    -- other streams stay in order
    others_then : (other : ℕ) → these other ≡ true → (more : List ℕ) → ((q : ℕ) → HasEntry q more → IsOnIt queued chunk.stream q) → other ≢ chunk.stream
        → PlainStream (sent_messages queued history) now base other (read ++ (o.holds.places ++ more)) (o.holds.waits other) (streams other)
    unfolding all
    others_then other kept more on ne =
        subst (λ (l : List ℕ). PlainStream (sent_messages queued history) now base other l (o.holds.waits other) (streams other)) (all_then more)
        (others_plain queued history got bears.offset base other all (o.holds.waits other) more (streams other) (not_of other ne)
        (λ place h is. ne (sym (one_stream queued chunk.stream other place (on place h) (is.message, is.at, is.stream)))) (o.order other kept))

    -- the invariant once its stream is left so
    holds_then : (later : ℕ → StreamModel) (runs : List RunModel) (after : List MessageContent) → StreamRows history now base chunk.stream (later chunk.stream)
        → AreRows history.log now (unordered_base base) IsOfStream runs → ((other : ℕ) → other ≢ chunk.stream → later other ≡ streams other) → LeavesPlain queued history now base all o.holds.places chunk.stream (later chunk.stream) after
        → HoldsPlain these (sent_messages queued history) now base read (held_messages later runs after)
    unfolding all
    holds_then later runs after rows apart others leaves =
        record {
          holds = record {
            waits = table_with chunk.stream leaves.waits o.holds.waits;
            streams_hold = λ other. elim (decide other chunk.stream) [
              | inl e ↦
                  subst (λ (k : ℕ). StreamHolds queued history now base k (table_with chunk.stream leaves.waits o.holds.waits k) (later k)) (sym e)
                  (subst (λ (l : List ℕ). StreamHolds queued history now base chunk.stream l (later chunk.stream)) (sym (set_same chunk.stream leaves.waits o.holds.waits)) (record { rows = rows; wait = leaves.wait }))
              | inr ne ↦
                  subst (λ (l : List ℕ). StreamHolds queued history now base other l (later other)) (sym (set_other chunk.stream other leaves.waits o.holds.waits ne))
                  (subst (λ (s : StreamModel). StreamHolds queued history now base other (o.holds.waits other) s) (sym (others other ne))
                  (stream_got queued history got bears.offset base other (o.holds.waits other) (streams other) (o.holds.streams_hold other)))
            ];
            rows = apart;
            places = o.holds.places ++ leaves.more;
            were_queued = leaves.were;
            spent = λ q h. elim (has_either q (read ++ o.holds.places) leaves.more (subst (λ (l : List ℕ). HasEntry q l) (sym (appended read o.holds.places leaves.more)) h)) [
              | inl l ↦ spent_got history.log got bears.offset q (o.holds.spent q l)
              | inr r ↦ leaves.spent q r
            ];
            once = λ other. subst (λ (l : List ℕ). AreDistinct (l ++ table_with chunk.stream leaves.waits o.holds.waits other)) (appended read o.holds.places leaves.more)
                (elim (decide other chunk.stream) [
                  | inl e ↦
                      subst (λ (l : List ℕ). AreDistinct (((read ++ o.holds.places) ++ leaves.more) ++ l)) (sym (ap (table_with chunk.stream leaves.waits o.holds.waits) e ∙ set_same chunk.stream leaves.waits o.holds.waits)) leaves.once
                  | inr ne ↦
                      subst (λ (l : List ℕ). AreDistinct (((read ++ o.holds.places) ++ leaves.more) ++ l)) (sym (set_other chunk.stream other leaves.waits o.holds.waits ne))
                      (distinct_apart (read ++ o.holds.places) leaves.more (o.holds.waits other) (distinct_left ((read ++ o.holds.places) ++ leaves.more) leaves.waits leaves.once) (o.holds.once other)
                      (λ q l r. ne (sym (one_stream queued chunk.stream other q (leaves.on q l) (wait_on_it queued history got other q (o.holds.waits other) (streams other).waiting (o.holds.streams_hold other).wait r)))))
                ]);
          };
          order = λ other kept. elim (decide other chunk.stream) [
            | inl e ↦
                subst (λ (k : ℕ). PlainStream (sent_messages queued history) now base k (read ++ (o.holds.places ++ leaves.more)) (table_with chunk.stream leaves.waits o.holds.waits k) (later k)) (sym e)
                (subst (λ (l : List ℕ). PlainStream (sent_messages queued history) now base chunk.stream (read ++ (o.holds.places ++ leaves.more)) l (later chunk.stream)) (sym (set_same chunk.stream leaves.waits o.holds.waits))
                (subst (λ (l : List ℕ). PlainStream (sent_messages queued history) now base chunk.stream l leaves.waits (later chunk.stream)) (all_then leaves.more) leaves.order))
            | inr ne ↦
                subst (λ (l : List ℕ). PlainStream (sent_messages queued history) now base other (read ++ (o.holds.places ++ leaves.more)) l (later other)) (sym (set_other chunk.stream other leaves.waits o.holds.waits ne))
                (subst (λ (s : StreamModel). PlainStream (sent_messages queued history) now base other (read ++ (o.holds.places ++ leaves.more)) (o.holds.waits other) s) (sym (others other ne)) (others_then other kept leaves.more leaves.on ne))
          ];
        }

    -- what its stream has
    here : StreamHolds queued history got base chunk.stream (o.holds.waits chunk.stream) (streams chunk.stream)
    here = o.holds.streams_hold chunk.stream

    here_order : these chunk.stream ≡ true → PlainStream (sent_messages queued history) got base chunk.stream all (o.holds.waits chunk.stream) (streams chunk.stream)
    unfolding all
    here_order mine = o.order chunk.stream mine

    here_rows : StreamRows history now base chunk.stream (streams chunk.stream)
    unfolding here
    here_rows = stream_rows_got history got bears.offset base chunk.stream (streams chunk.stream) here.rows

    here_wait : WaitQueued queued history now chunk.stream (o.holds.waits chunk.stream) (streams chunk.stream).waiting
    unfolding here
    here_wait = wait_got queued history got bears.offset chunk.stream (o.holds.waits chunk.stream) (streams chunk.stream).waiting here.wait

    rows_kept : (runs : List RunModel) → runs ≡ unordered → AreRows history.log now (unordered_base base) IsOfStream runs
    rows_kept runs kept =
        subst (λ (l : List RunModel). AreRows history.log now (unordered_base base) IsOfStream l) (sym kept) (rows_got history.log got bears.offset (unordered_base base) IsOfStream unordered o.holds.rows)

    -- ---- an ordered one

    is_ordered : bears.piece.message.is_unordered ≡ false → CarriesOrdered history.log chunk.stream bears.offset bears.piece
    is_ordered ordered = record { at = bears.at; stream = sym bears.stream; ordered = ordered }

    abbrev own_number : ℕ
    own_number = number_of_tsn chunk.stream bears.offset history.log

    ahead : these chunk.stream ≡ true → (later : ℕ → StreamModel) (runs : List RunModel) (after : List MessageContent) (taken : Taken) → bears.piece.is_interleaved ≡ false → bears.piece.message.is_unordered ≡ false → (streams chunk.stream).next ≤ own_number
        → runs ≡ unordered → ((other : ℕ) → other ≢ chunk.stream → later other ≡ streams other)
        → TakesAhead (data_part chunk (fragment_place own_number tsn_number) own_number) (streams chunk.stream) ready taken (later chunk.stream) after → HoldsPlain these (sent_messages queued history) now base read (held_messages later runs after)
    unfolding here all
    ahead mine later runs after taken kind ordered from kept others takes =
        let part : IsPart history.log (ordered_base base) (IsOn history chunk.stream) (data_part chunk (fragment_place own_number tsn_number) own_number) =
        part_of history base (ordered_base base) (IsOn history chunk.stream) tsn_number (fragment_place own_number tsn_number) own_number chunk bears (ordered_placed history base tsn_number own_number chunk bears kind)
        (sym bears.stream, λ i. absurd (let clash : true ≡ false = sym i ∙ kind in cc)) in
        let ahead_of : IsAhead (data_part chunk (fragment_place own_number tsn_number) own_number) (streams chunk.stream) =
        plain_ahead queued history cut chunk.stream (counts.each chunk.stream mine) got base all (o.holds.waits chunk.stream) (streams chunk.stream) (here_order mine) bears.offset bears.piece (data_part chunk (fragment_place own_number tsn_number) own_number) (is_ordered ordered) refl from
        (λ h. fresh chunk.stream (has_right bears.piece.place all (o.holds.waits chunk.stream) h)) in
        let does = takes.fresh ahead_of.fresh in
        let rows = stay_rows queued history.log cut (one_kind history told) got (ordered_base base) (IsOn history chunk.stream) (λ m n f g k. tells_as history told false chunk.stream m n f g k) (data_part chunk (fragment_place own_number tsn_number) own_number)
        (streams chunk.stream).ordered (later chunk.stream).ordered does.outcome part here.rows.ordered does.parts in
        holds_then later runs after
        (record {
          is = does.id ∙ here.rows.is;
          ordered = rows.0;
          unordered = subst (λ (l : List RunModel). AreRows history.log now (ordered_base base) (IsApart history chunk.stream) l) (sym does.unordered.1) here_rows.unordered;
          next = ordered_reads queued history now chunk.stream bears.piece.place (o.holds.waits chunk.stream) (data_part chunk (fragment_place own_number tsn_number) own_number) (streams chunk.stream) (later chunk.stream) ready after does.outcome taken here_wait rows.1 does.does here.rows.next;
          last = subst (λ (k : ℕ). ReadsMids history chunk.stream true k) (sym does.unordered.0) here.rows.last;
        }) (rows_kept runs kept) others
        (ordered_left queued history cut chunk.stream (counts.each chunk.stream mine) got base small bears.offset bears.piece (is_ordered ordered) is_new (data_part chunk (fragment_place own_number tsn_number) own_number) refl
        (let of = bears.number in omega (arith, of)) (streams chunk.stream) (later chunk.stream) here.rows.ordered ready after taken does all o.holds.places (o.holds.waits chunk.stream) (here_order mine) from
        (sym here.rows.is) o.holds.were_queued here_wait (o.holds.once chunk.stream) (fresh chunk.stream) ahead_of rows.1)

    -- ---- an unordered one

    -- an unordered message isn't an ordered one
    not_ordered : (id : ℕ) → bears.piece.message.is_unordered ≡ true → IsOrderedOn queued id bears.piece.place → ⊥
    not_ordered id unordered_is on =
        let both : Some bears.piece.message ≡ Some on.message = sym (cut.pieces bears.offset bears.piece bears.at).at ∙ on.at in
        let same : bears.piece.message ≡ on.message = cc in
        let clash : true ≡ false = sym unordered_is ∙ ap (λ (m : Message). m.is_unordered) same ∙ on.ordered in
        absurd (cc)

    not_at : (id : ℕ) → bears.piece.message.is_unordered ≡ true → (f : Piece) → CarriesOrdered history.log id bears.offset f → ⊥
    not_at id unordered_is f is =
        let both : Some (Some f) ≡ Some (Some bears.piece) = sym is.at ∙ bears.at in
        let same : f ≡ bears.piece = cc in
        let clash : true ≡ false = sym unordered_is ∙ ap (λ (x : Piece). x.message.is_unordered) (sym same) ∙ is.ordered in
        absurd (cc)

    makes_on : (outcome : Assembly) → MakesQueued queued history.log now IsOfStream bears.piece.place outcome → IsOfMessage chunk.stream outcome → MakesQueued queued history.log now (OfStream chunk.stream) bears.piece.place outcome
    makes_on part_dropped makes of = tt
    makes_on part_kept makes of = tt
    makes_on (message_whole whole) makes of =
        record { offset = makes.offset; head = makes.head; at = makes.at; is = makes.is; queued_at = makes.queued_at; number = makes.number.0 ∙ of; ppid = makes.ppid; payload = makes.payload; spent = makes.spent }

    unordered_chunk : these chunk.stream ≡ true → (later : ℕ → StreamModel) (runs : List RunModel) (after : List MessageContent) (outcome : Assembly) (taken : Taken) → bears.piece.message.is_unordered ≡ true → later ≡ streams
        → AreRows history.log now (unordered_base base) IsOfStream runs → MakesQueued queued history.log now (OfStream chunk.stream) bears.piece.place outcome
        → UnorderedOutcome (data_part chunk tsn_number chunk.stream) (delivered_as chunk.stream) ready outcome taken after → HoldsPlain these (sent_messages queued history) now base read (held_messages later runs after)
    unfolding all
    unordered_chunk mine later runs after outcome taken unordered_is same rows makes does =
        subst (λ (s : ℕ → StreamModel). HoldsPlain these (sent_messages queued history) now base read (held_messages s runs after)) (sym same)
        (holds_then streams runs after here_rows rows (λ other ne. refl)
        (apart_left queued history now base all o.holds.places (o.holds.waits chunk.stream) chunk.stream bears.piece.place (data_part chunk tsn_number chunk.stream) (streams chunk.stream) ready after outcome taken
        o.holds.were_queued here_wait makes (o.holds.once chunk.stream) (fresh chunk.stream)
        (λ more each. others_plain queued history got bears.offset base chunk.stream all (o.holds.waits chunk.stream) more (streams chunk.stream) (not_at chunk.stream unordered_is)
        (λ place h on. not_ordered chunk.stream unordered_is (subst (λ (k : ℕ). IsOrderedOn queued chunk.stream k) (each place h) on)) (here_order mine)) does))

    -- ---- one of another stream

    besides : (later : ℕ → StreamModel) (runs : List RunModel) (after : List MessageContent) → these chunk.stream ≡ false → ((other : ℕ) → other ≢ chunk.stream → later other ≡ streams other)
        → HoldsBeside queued history now base read (λ other. other ≡ chunk.stream) o.holds.waits o.holds.places later runs after → HoldsPlain these (sent_messages queued history) now base read (held_messages later runs after)
    besides later runs after apart others b =
        record {
          holds = b.holds;
          order = λ other kept. (
              let ne : other ≢ chunk.stream = λ same. absurd (let clash : true ≡ false = sym kept ∙ ap these same ∙ apart in cc) in
              subst (λ (l : List ℕ). PlainStream (sent_messages queued history) now base other (read ++ l) (b.holds.waits other) (later other)) (sym b.places_are)
              (subst (λ (l : List ℕ). PlainStream (sent_messages queued history) now base other (read ++ (o.holds.places ++ b.more)) l (later other)) (sym (b.others other ne))
              (subst (λ (x : StreamModel). PlainStream (sent_messages queued history) now base other (read ++ (o.holds.places ++ b.more)) (o.holds.waits other) x) (sym (others other ne))
              (others_then other kept b.more (λ q h. (let on = b.on q h in (on.2.0, on.2.1, on.2.2 ∙ on.1))) ne)))
              );
        }

  -- what a chunk leaves on other streams
  others_stay : (tsn_number : ℕ) (numbering : Numbering) (chunk : ChunkModel) (old new : IncomingModel) → TakesChunk tsn_number numbering chunk old new → (other : ℕ) → other ≢ chunk.stream → stream_on other new.streams ≡ stream_on other old.streams
  others_stay tsn_number (Ordered ssn) chunk old new takes = takes.others
  others_stay tsn_number Unordered chunk old new takes = λ other ne. ap (λ (s : List (ℕ × StreamModel)). stream_on other s) takes.streams
  others_stay tsn_number (InterleavedOrdered mid fsn) chunk old new takes = takes.others
  others_stay tsn_number (InterleavedUnordered mid fsn) chunk old new takes = takes.others

  -- One of another stream, whatever it is, leaves these in order.
  pub beside_plain : (tsn : ℕ) (chunk : ChunkModel) (old new : IncomingModel) → (bears : BearsPiece history base (number_near old.last_tsn_number tsn) chunk) → (HasEntry bears.offset got → ⊥) → these chunk.stream ≡ false
      → IncomingPlain these queued history got base read old → TakesIncomingChunk tsn chunk old new → IncomingPlain these queued history (bears.offset ∷ got) base read new
  beside_plain tsn chunk old new bears is_new apart o takes =
      besides (number_near old.last_tsn_number tsn) chunk bears is_new (λ id. stream_on id old.streams) old.unordered old.ready o (λ id. stream_on id new.streams) new.unordered new.ready apart
      (others_stay (number_near old.last_tsn_number tsn) chunk.numbering chunk old new takes.takes) (holds_beside queued history cut told got base tsn read chunk old new bears is_new o.holds takes)

  -- ---- whichever it is

  module _ (cumulative : ℕ) (passed : (id : ℕ) → these id ≡ true → (k : ℕ) → k < cumulative → PassedOn history.log got id k) where
    by_numbering : (tsn_number : ℕ) (numbering : Numbering) (chunk : ChunkModel) (old new : IncomingModel) → chunk.numbering ≡ numbering → (bears : BearsPiece history base tsn_number chunk) → IsNumbered bears.piece numbering
        → (HasEntry bears.offset got → ⊥) → bears.offset < cumulative + 2 ^ 16 → these chunk.stream ≡ true → IncomingPlain these queued history got base read old → TakesChunk tsn_number numbering chunk old new
        → IncomingPlain these queued history (bears.offset ∷ got) base read new
    by_numbering tsn_number (Ordered ssn) chunk old new is bears numbered is_new window mine o takes =
        let reads = ssn_is_read queued history cut chunk.stream (counts.each chunk.stream mine) got base (read ++ o.holds.places) (o.holds.waits chunk.stream) (stream_on chunk.stream old.streams) (o.order chunk.stream mine)
        (o.holds.streams_hold chunk.stream).rows.ordered (λ p h. o.holds.spent p h) cumulative (passed chunk.stream mine) bears.offset bears.piece (record { at = bears.at; stream = sym bears.stream; ordered = numbered.1 }) is_new window in
        let number : short_number_from (stream_on chunk.stream old.streams).next ssn ≡ number_of_tsn chunk.stream bears.offset history.log = ap (short_number_from (stream_on chunk.stream old.streams).next) numbered.2 ∙ reads.1 in
        let does : TakesAhead (data_part chunk (fragment_place (short_number_from (stream_on chunk.stream old.streams).next ssn) tsn_number) (short_number_from (stream_on chunk.stream old.streams).next ssn))
        (stream_on chunk.stream old.streams) old.ready takes.taken (stream_on chunk.stream new.streams) new.ready =
        subst (λ (n : Numbering). TakesNumberedPart (numbered_part tsn_number chunk n (stream_on chunk.stream old.streams)) (stream_on chunk.stream old.streams) old.ready takes.taken (stream_on chunk.stream new.streams) new.ready) is takes.does in
        ahead tsn_number chunk bears is_new (λ id. stream_on id old.streams) old.unordered old.ready o mine (λ id. stream_on id new.streams) new.unordered new.ready takes.taken numbered.0 numbered.1 reads.0 takes.unordered takes.others
        (subst (λ (k : ℕ). TakesAhead (data_part chunk (fragment_place k tsn_number) k) (stream_on chunk.stream old.streams) old.ready takes.taken (stream_on chunk.stream new.streams) new.ready) number does)
    by_numbering tsn_number Unordered chunk old new is bears numbered is_new window mine o takes =
        let part = part_of history base (unordered_base base) IsOfStream tsn_number tsn_number chunk.stream chunk bears (unordered_placed history base tsn_number chunk.stream chunk bears numbered.0) (sym bears.stream, numbered.0) in
        let rows = stay_rows queued history.log cut (one_kind history told) got (unordered_base base) IsOfStream (λ m n f g k. tells_plain history.log m n f g k) (data_part chunk tsn_number chunk.stream) old.unordered new.unordered takes.does.outcome part o.holds.rows takes.does.parts in
        unordered_chunk tsn_number chunk bears is_new (λ id. stream_on id old.streams) old.unordered old.ready o mine (λ id. stream_on id new.streams) new.unordered new.ready takes.does.outcome takes.taken numbered.1
        (ap (λ (s : List (ℕ × StreamModel)). λ id. stream_on id s) takes.streams) rows.0
        (makes_on tsn_number chunk bears is_new (λ id. stream_on id old.streams) old.unordered old.ready o takes.does.outcome rows.1 (of_message (data_part chunk tsn_number chunk.stream) old.unordered new.unordered takes.does.outcome takes.does.parts)) takes.does.does
    by_numbering tsn_number (InterleavedOrdered mid fsn) chunk old new is bears numbered is_new window mine o takes =
        absurd (let clash : true ≡ false = sym numbered.0 ∙ counts.kinds bears.offset bears.piece bears.at in cc)
    by_numbering tsn_number (InterleavedUnordered mid fsn) chunk old new is bears numbered is_new window mine o takes =
        absurd (let clash : true ≡ false = sym numbered.0 ∙ counts.kinds bears.offset bears.piece bears.at in cc)

    pub ready_plain : (tsn : ℕ) (chunk : ChunkModel) (old new : IncomingModel) → (bears : BearsPiece history base (number_near old.last_tsn_number tsn) chunk) → (HasEntry bears.offset got → ⊥) → bears.offset < cumulative + 2 ^ 16
        → IncomingPlain these queued history got base read old → TakesIncomingChunk tsn chunk old new → IncomingPlain these queued history (bears.offset ∷ got) base read new
    ready_plain tsn chunk old new bears is_new window o takes = go (these chunk.stream) refl
      where
        go : (b : Bool) → these chunk.stream ≡ b → IncomingPlain these queued history (bears.offset ∷ got) base read new
        go true mine = by_numbering (number_near old.last_tsn_number tsn) chunk.numbering chunk old new refl bears bears.numbered is_new window mine o takes.takes
        go false apart = beside_plain tsn chunk old new bears is_new apart o takes
