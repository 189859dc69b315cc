-- A chunk of data whose TSN is new, in order.
use Rattle.std.proofs.Common.{◌≡◌, ◌≢◌, ◌≤◌, ℕ, Bool, true, false, List, ◌∷◌, ◌++◌, refl, sym, ◌∙◌, ap, subst, inl, inr, ◌+◌, ◌^◌, ◌<◌, arith}
use Rattle.dcsctp_spec_lemmas.specs.types.queues.Messages.{MessageContent}
use Rattle.dcsctp_spec_lemmas.specs.types.declared.arrivals.Numbering.{Numbering}
use Rattle.dcsctp_spec_lemmas.specs.types.declared.arrivals.Numbering.TheVariants.{Ordered, Unordered, InterleavedOrdered, InterleavedUnordered}
use Rattle.dcsctp_spec_lemmas.specs.types.declared.arrivals.Taken.{Taken}
use Rattle.dcsctp_spec_lemmas.specs.spec.queues.Numbers.{number_near, short_number_from, fragment_place}
use Rattle.dcsctp_spec_lemmas.specs.spec.queues.Runs.{RunModel, WholeModel, Assembly, part_dropped, part_kept, message_whole}
use Rattle.dcsctp_spec_lemmas.specs.spec.queues.IncomingStreams.{StreamModel, ChunkModel, data_part, delivered_as, UnorderedOutcome, TakesAhead, TakesInOrder, TakesOutOfOrder, is_number_waiting, TakesNumberedPart, numbered_part}
use Rattle.dcsctp_spec_lemmas.specs.spec.queues.Incoming.{IncomingModel, stream_on, TakesChunk, TakesIncomingChunk}
use Rattle.dcsctp_delivery_directions.specs.sending.Places.{HasEntry, table_with}
use Rattle.dcsctp_delivery_directions.specs.sending.Log.{Message, History, IsLogOfPieces, sent_messages, Piece}
use Rattle.dcsctp_delivery_directions.specs.receiving.Rows.{IsPiecePlaced, IsPart, AreRows, Spent, MakesQueued}
use Rattle.dcsctp_delivery_directions.specs.receiving.Ready.{IsOn, IsApart, IsOfStream, ReadsMids, ordered_base, unordered_base, StreamRows, AreDistinct, WaitQueued, StreamHolds, IsNumbered, BearsPiece, held_messages}
use Rattle.dcsctp_delivery_directions.proofs.sending.Places.{decide, set_same, set_other, at_below}
use Rattle.dcsctp_delivery_directions.proofs.receiving.Chaining.{one_kind, placed_interleaved}
use Rattle.dcsctp_delivery_directions.proofs.receiving.SpentRows.{stay_rows, rows_got, spent_got, was_handled, of_message, IsOfMessage}
use Rattle.dcsctp_delivery_directions.proofs.receiving.Distinct.{distinct_left, distinct_apart, appended, has_either, has_right}
use Rattle.dcsctp_delivery_directions.proofs.receiving.Waiting.{OfStream, renamed, wait_spent, wait_got, stream_rows_got, stream_got}
use Rattle.dcsctp_delivery_directions.proofs.receiving.Reading.{tells_as, tells_plain, ordered_reads}
use Rattle.dcsctp_delivery_directions.specs.sending.Numbers.{IsUnambiguous}
use Rattle.std.proofs.lemmas.Bool.Decides.{leb_tells}
use Rattle.dcsctp_delivery_directions.proofs.receiving.Parts.{part_of, ordered_placed, unordered_placed, apart_placed, named_so}
use Rattle.std.specs.Prelude.{Some}
use Rattle.std.proofs.lemmas.List.{append-nil}
use Rattle.dcsctp_delivery_directions.specs.order.Queue.{IsOrderedOn}
use Rattle.dcsctp_delivery_directions.specs.order.Order.{IsReadAs}
use Rattle.dcsctp_delivery_directions.specs.order.Reading.{CountsFromZero, OrderedStream, Watch, IsSince}
use Rattle.dcsctp_delivery_directions.specs.order.Incoming.{IsOrderedOrReset, HoldsOrdered, IncomingOrdered}
use Rattle.dcsctp_delivery_directions.proofs.order.Leaving.{others_where}
use Rattle.dcsctp_delivery_directions.proofs.order.Reading.{mids_are_read, numbers_are_fresh, mids_counted}
use Rattle.dcsctp_delivery_directions.proofs.order.Leaving.{IsOnIt, one_stream, wait_on_it, LeavesOrder, none_left, ordered_left, apart_left, alike_ordered}
use Rattle.dcsctp_delivery_directions.specs.order.Parts.{HoldsParts}
use Rattle.dcsctp_delivery_directions.proofs.order.HeldParts.{parts_alike, parts_else, parts_taken}
use Rattle.dcsctp_delivery_directions.specs.order.Rising.{IsAhead}
use Rattle.dcsctp_delivery_directions.proofs.order.Rising.{parts_deliver_rows}

-- ---- a chunk

module _ (watch : ℕ → Watch) (queued : List Message) (history : History) (quiet : ℕ → Bool) (cut : IsLogOfPieces queued history.log) (told : IsUnambiguous history) (got : List ℕ) (base : ℕ) (read : List ℕ) where
  module _ (tsn_number : ℕ) (chunk : ChunkModel) (bears : BearsPiece history base tsn_number chunk) (is_new : HasEntry bears.offset got → ⊥) (aloud : quiet chunk.stream ≡ false) (streams : ℕ → StreamModel) (unordered : List RunModel) (ready : List MessageContent)
      (o : HoldsOrdered watch (sent_messages queued history) quiet got base read (held_messages streams unordered ready)) where
    all : List ℕ
    all = read ++ o.holds.places

    abbrev pub now : List ℕ
    now = bears.offset ∷ got

    -- its message is neither ready nor read, and doesn't wait
    fresh : (id : ℕ) → HasEntry bears.piece.place (all ++ o.holds.waits id) → ⊥
    unfolding all
    fresh id h =
        let spent : Spent history.log got bears.piece.place = elim (has_either bears.piece.place (read ++ o.holds.places) (o.holds.waits id) h) [
          | inl l ↦ o.holds.spent bears.piece.place l
          | inr r ↦ wait_spent queued history got id bears.piece.place (o.holds.waits id) (streams id).waiting (o.holds.streams_hold id).wait r
        ] in
        is_new (was_handled queued history.log cut got bears.piece.place spent bears.offset bears.piece bears.at refl)

    -- the places of all, once more messages are ready
    all_then : (more : List ℕ) → all ++ more ≡ read ++ (o.holds.places ++ more)
    unfolding all
    all_then more = appended read o.holds.places more

    -- other streams stay in order
    others_then : (id other : ℕ) (more : List ℕ) → ((q : ℕ) → HasEntry q more → IsOnIt queued id q) → other ≢ id → CountsFromZero history other
        → IsOrderedOrReset (watch other) (quiet other) (sent_messages queued history) other (read ++ (o.holds.places ++ more)) (o.holds.waits other) (streams other)
    unfolding all
    others_then id other more on ne counts =
        subst (λ (l : List ℕ). IsOrderedOrReset (watch other) (quiet other) (sent_messages queued history) other l (o.holds.waits other) (streams other)) (all_then more)
        (others_where (watch other) queued history (quiet other) other all (o.holds.waits other) more (streams other) (λ place h is. ne (sym (one_stream queued id other place (on place h) (is.message, is.at, is.stream)))) (o.order other counts))

    -- the piece of its TSN
    its_piece : (id : ℕ) (f : Piece) → IsSince history id bears.offset f → f ≡ bears.piece
    its_piece id f since = (let two : Some (Some f) ≡ Some (Some bears.piece) = sym since.at ∙ bears.at in cc)

    -- the invariant once its stream is left so
    holds_then : (id : ℕ) → quiet id ≡ false → (later : ℕ → StreamModel) (runs : List RunModel) (after : List MessageContent) → StreamRows history now base id (later id)
        → AreRows history.log now (unordered_base base) IsOfStream runs → ((other : ℕ) → other ≢ id → later other ≡ streams other) → LeavesOrder (watch id) queued history now all o.holds.places id (later id) after
        → id ≡ chunk.stream → (CountsFromZero history id → HoldsParts history now id (later id))
        → HoldsOrdered watch (sent_messages queued history) quiet now base read (held_messages later runs after)
    unfolding all
    holds_then id loud later runs after rows apart others leaves home parts =
        record {
          holds = record {
            waits = table_with id leaves.waits o.holds.waits;
            streams_hold = λ other. elim (decide other id) [
              | inl e ↦
                  subst (λ (k : ℕ). StreamHolds queued history now base k (table_with id leaves.waits o.holds.waits k) (later k)) (sym e)
                  (subst (λ (l : List ℕ). StreamHolds queued history now base id l (later id)) (sym (set_same id leaves.waits o.holds.waits)) (record { rows = rows; wait = leaves.wait }))
              | inr ne ↦
                  subst (λ (l : List ℕ). StreamHolds queued history now base other l (later other)) (sym (set_other id other leaves.waits o.holds.waits ne))
                  (subst (λ (s : StreamModel). StreamHolds queued history now base other (o.holds.waits other) s) (sym (others other ne))
                  (stream_got queued history got bears.offset base other (o.holds.waits other) (streams other) (o.holds.streams_hold other)))
            ];
            rows = apart;
            places = o.holds.places ++ leaves.more;
            were_queued = leaves.were;
            spent = λ q h. elim (has_either q (read ++ o.holds.places) leaves.more (subst (λ (l : List ℕ). HasEntry q l) (sym (appended read o.holds.places leaves.more)) h)) [
              | inl l ↦ spent_got history.log got bears.offset q (o.holds.spent q l)
              | inr r ↦ leaves.spent q r
            ];
            once = λ other. subst (λ (l : List ℕ). AreDistinct (l ++ table_with id leaves.waits o.holds.waits other)) (appended read o.holds.places leaves.more)
                (elim (decide other id) [
                  | inl e ↦
                      subst (λ (l : List ℕ). AreDistinct (((read ++ o.holds.places) ++ leaves.more) ++ l)) (sym (ap (table_with id leaves.waits o.holds.waits) e ∙ set_same id leaves.waits o.holds.waits)) leaves.once
                  | inr ne ↦
                      subst (λ (l : List ℕ). AreDistinct (((read ++ o.holds.places) ++ leaves.more) ++ l)) (sym (set_other id other leaves.waits o.holds.waits ne))
                      (distinct_apart (read ++ o.holds.places) leaves.more (o.holds.waits other) (distinct_left ((read ++ o.holds.places) ++ leaves.more) leaves.waits leaves.once) (o.holds.once other)
                      (λ q l r. ne (sym (one_stream queued id other q (leaves.on q l) (wait_on_it queued history got other q (o.holds.waits other) (streams other).waiting (o.holds.streams_hold other).wait r)))))
                ]);
          };
          order = λ other counts. elim (decide other id) [
            | inl e ↦
                subst (λ (k : ℕ). IsOrderedOrReset (watch k) (quiet k) (sent_messages queued history) k (read ++ (o.holds.places ++ leaves.more)) (table_with id leaves.waits o.holds.waits k) (later k)) (sym e)
                (subst (λ (l : List ℕ). IsOrderedOrReset (watch id) (quiet id) (sent_messages queued history) id (read ++ (o.holds.places ++ leaves.more)) l (later id)) (sym (set_same id leaves.waits o.holds.waits))
                (subst (λ (b : Bool). IsOrderedOrReset (watch id) b (sent_messages queued history) id (read ++ (o.holds.places ++ leaves.more)) leaves.waits (later id)) (sym loud)
                (subst (λ (l : List ℕ). OrderedStream (watch id) queued history id l leaves.waits (later id)) (all_then leaves.more) (leaves.order (subst (λ (k : ℕ). CountsFromZero history k) e counts)))))
            | inr ne ↦
                subst (λ (l : List ℕ). IsOrderedOrReset (watch other) (quiet other) (sent_messages queued history) other (read ++ (o.holds.places ++ leaves.more)) l (later other)) (sym (set_other id other leaves.waits o.holds.waits ne))
                (subst (λ (s : StreamModel). IsOrderedOrReset (watch other) (quiet other) (sent_messages queued history) other (read ++ (o.holds.places ++ leaves.more)) (o.holds.waits other) s) (sym (others other ne))
                (others_then id other leaves.more leaves.on ne counts))
          ];
          within = λ n has. elim has [ inl e ↦ (let below = at_below bears.offset (Some bears.piece) history.log bears.at in omega (arith, e, below)) | inr t ↦ o.within n t ];
          parts = λ other counts aloud'. elim (decide other id) [
            | inl e ↦ subst (λ (k : ℕ). HoldsParts history now k (later k)) (sym e) (parts (subst (λ (k : ℕ). CountsFromZero history k) e counts))
            | inr ne ↦
                subst (λ (s : StreamModel). HoldsParts history now other s) (sym (others other ne))
                (parts_else history got other (streams other) bears.offset
                (λ f since number counted up. ne (sym since.stream ∙ ap (λ (x : Piece). x.message.stream) (its_piece other f since) ∙ sym bears.stream ∙ sym home)) (o.parts other counts aloud'))
          ];
        }

    -- its stream is in order, and stays so where nothing changes
    here_order : CountsFromZero history chunk.stream → OrderedStream (watch chunk.stream) queued history chunk.stream all (o.holds.waits chunk.stream) (streams chunk.stream)
    unfolding all
    here_order counts = subst (λ (b : Bool). IsOrderedOrReset (watch chunk.stream) b (sent_messages queued history) chunk.stream all (o.holds.waits chunk.stream) (streams chunk.stream)) aloud (o.order chunk.stream counts)

    same_order : (later : StreamModel) → later.next ≡ (streams chunk.stream).next → later.waiting ≡ (streams chunk.stream).waiting → CountsFromZero history chunk.stream → OrderedStream (watch chunk.stream) queued history chunk.stream all (o.holds.waits chunk.stream) later
    same_order later next waiting counts = alike_ordered (watch chunk.stream) queued history chunk.stream all (o.holds.waits chunk.stream) (streams chunk.stream) later next waiting (here_order counts)

    is_data : CountsFromZero history chunk.stream → bears.piece.is_interleaved ≡ false → ⊥
    is_data counts kind = (let clash : true ≡ false = sym (counts.kinds bears.offset bears.piece bears.at) ∙ kind in absurd (cc))

    -- what its stream has
    here : StreamHolds queued history got base chunk.stream (o.holds.waits chunk.stream) (streams chunk.stream)
    here = o.holds.streams_hold chunk.stream

    here_rows : StreamRows history now base chunk.stream (streams chunk.stream)
    unfolding here
    here_rows = stream_rows_got history got bears.offset base chunk.stream (streams chunk.stream) here.rows

    here_wait : WaitQueued queued history now chunk.stream (o.holds.waits chunk.stream) (streams chunk.stream).waiting
    unfolding here
    here_wait = wait_got queued history got bears.offset chunk.stream (o.holds.waits chunk.stream) (streams chunk.stream).waiting here.wait

    rows_apart : AreRows history.log now (unordered_base base) IsOfStream unordered
    rows_apart = rows_got history.log got bears.offset (unordered_base base) IsOfStream unordered o.holds.rows

    rows_kept : (runs : List RunModel) → runs ≡ unordered → AreRows history.log now (unordered_base base) IsOfStream runs
    rows_kept runs kept = subst (λ (l : List RunModel). AreRows history.log now (unordered_base base) IsOfStream l) (sym kept) rows_apart

    -- nothing changes
    passed : (later : ℕ → StreamModel) (runs : List RunModel) (after : List MessageContent) → runs ≡ unordered → ((other : ℕ) → other ≢ chunk.stream → later other ≡ streams other)
        → later chunk.stream ≡ streams chunk.stream → after ≡ ready
        → (CountsFromZero history chunk.stream → (number : ℕ) → bears.piece.mid + 2 ^ 32 ≡ history.floors chunk.stream false + number → (streams chunk.stream).next ≤ number → ⊥) → HoldsOrdered watch (sent_messages queued history) quiet now base read (held_messages later runs after)
    unfolding all
    passed later runs after kept others same same' none =
        holds_then chunk.stream aloud later runs after (subst (λ (s : StreamModel). StreamRows history now base chunk.stream s) (sym same) here_rows) (rows_kept runs kept) others
        (none_left (watch chunk.stream) queued history now all o.holds.places (o.holds.waits chunk.stream) chunk.stream (later chunk.stream) ready after o.holds.were_queued
        (subst (λ (s : StreamModel). WaitQueued queued history now chunk.stream (o.holds.waits chunk.stream) s.waiting) (sym same) here_wait) (o.holds.once chunk.stream) same'
        (λ counts. subst (λ (l : List ℕ). OrderedStream (watch chunk.stream) queued history chunk.stream l (o.holds.waits chunk.stream) (later chunk.stream)) (sym (append-nil all))
        (same_order (later chunk.stream) (ap (λ (s : StreamModel). s.next) same) (ap (λ (s : StreamModel). s.waiting) same) counts))) refl
        (λ counts. subst (λ (s : StreamModel). HoldsParts history now chunk.stream s) (sym same)
        (parts_else history got chunk.stream (streams chunk.stream) bears.offset
        (λ f since number counted up. none counts number (subst (λ (x : Piece). x.mid + 2 ^ 32 ≡ history.floors chunk.stream false + number) (its_piece chunk.stream f since) counted) up) (o.parts chunk.stream counts aloud)))

    -- an ordered chunk
    ahead : (place number : ℕ) (later : ℕ → StreamModel) (runs : List RunModel) (after : List MessageContent) (taken : Taken) → IsPiecePlaced (ordered_base base) bears.offset bears.piece number place → IsOn history chunk.stream bears.piece number
        → (CountsFromZero history chunk.stream → IsReadAs history chunk.stream bears.piece.place number) → (CountsFromZero history chunk.stream → bears.piece.mid + 2 ^ 32 ≡ history.floors chunk.stream false + number) → (CountsFromZero history chunk.stream → (streams chunk.stream).next ≤ number)
        → runs ≡ unordered → ((other : ℕ) → other ≢ chunk.stream → later other ≡ streams other)
        → TakesAhead (data_part chunk place number) (streams chunk.stream) ready taken (later chunk.stream) after → HoldsOrdered watch (sent_messages queued history) quiet now base read (held_messages later runs after)
    unfolding all here
    ahead place number later runs after taken placed named reads exact from kept others takes = go (is_number_waiting number (streams chunk.stream).waiting) refl
      where
        part : IsPart history.log (ordered_base base) (IsOn history chunk.stream) (data_part chunk place number)
        part = part_of history base (ordered_base base) (IsOn history chunk.stream) tsn_number place number chunk bears placed named

        -- no message that waits has its number
        ahead_of : CountsFromZero history chunk.stream → IsAhead (data_part chunk place number) (streams chunk.stream)
        ahead_of counts =
            numbers_are_fresh queued history chunk.stream bears.piece.place all (o.holds.waits chunk.stream) (data_part chunk place number) (streams chunk.stream) counts (here_order counts).order (reads counts)
            (λ h. fresh chunk.stream (has_right bears.piece.place all (o.holds.waits chunk.stream) h)) (from counts)

        never : CountsFromZero history chunk.stream → is_number_waiting number (streams chunk.stream).waiting ≡ true → ⊥
        never counts e = (let clash : true ≡ false = sym e ∙ (ahead_of counts).fresh in absurd (cc))

        since : CountsFromZero history chunk.stream → IsSince history chunk.stream bears.offset bears.piece
        since counts = (let its = named.1 (counts.kinds bears.offset bears.piece bears.at) in record { at = bears.at; stream = sym bears.stream; ordered = its.0; current = its.2 })

        go : (b : Bool) → is_number_waiting number (streams chunk.stream).waiting ≡ b → HoldsOrdered watch (sent_messages queued history) quiet now base read (held_messages later runs after)
        go false e =
            let does = takes.fresh e in
            let rows = stay_rows queued history.log cut (one_kind history told) got (ordered_base base) (IsOn history chunk.stream) (λ m n f g k. tells_as history told false chunk.stream m n f g k) (data_part chunk place number) (streams chunk.stream).ordered (later chunk.stream).ordered does.outcome part here.rows.ordered does.parts in
            holds_then chunk.stream aloud later runs after
            (record {
              is = does.id ∙ here.rows.is;
              ordered = rows.0;
              unordered = subst (λ (l : List RunModel). AreRows history.log now (ordered_base base) (IsApart history chunk.stream) l) (sym does.unordered.1) here_rows.unordered;
              next = ordered_reads queued history now chunk.stream bears.piece.place (o.holds.waits chunk.stream) (data_part chunk place number) (streams chunk.stream) (later chunk.stream) ready after does.outcome taken here_wait rows.1 does.does here.rows.next;
              last = subst (λ (k : ℕ). ReadsMids history chunk.stream true k) (sym does.unordered.0) here.rows.last;
            }) (rows_kept runs kept) others
            (ordered_left (watch chunk.stream) queued history now all o.holds.places (o.holds.waits chunk.stream) chunk.stream bears.piece.place (data_part chunk place number) (streams chunk.stream) (later chunk.stream) ready after taken
            (sym here.rows.is) o.holds.were_queued here_wait (o.holds.once chunk.stream) (fresh chunk.stream) here_order reads does rows.1 from) refl
            (λ counts. parts_taken queued history cut told chunk.stream counts got (ordered_base base) (streams chunk.stream) here.rows.ordered bears.offset bears.piece (since counts) (data_part chunk place number) named (exact counts)
            (placed_interleaved (ordered_base base) bears.offset bears.piece number place (counts.kinds bears.offset bears.piece bears.at) placed) (later chunk.stream) ready after taken is_new (from counts) (o.parts chunk.stream counts aloud) does
            (parts_deliver_rows (data_part chunk place number) (streams chunk.stream) ready taken (later chunk.stream) after (here_order counts).order.ahead (ahead_of counts) does))
        go true e =
            let does = takes.repeated e in
            let rows = stay_rows queued history.log cut (one_kind history told) got (ordered_base base) (IsOn history chunk.stream) (λ m n f g k. tells_as history told false chunk.stream m n f g k) (data_part chunk place number) (streams chunk.stream).ordered (later chunk.stream).ordered does.ordered.outcome part here.rows.ordered does.ordered.parts in
            holds_then chunk.stream aloud later runs after
            (record {
              is = does.others.0 ∙ here.rows.is;
              ordered = rows.0;
              unordered = subst (λ (l : List RunModel). AreRows history.log now (ordered_base base) (IsApart history chunk.stream) l) (sym does.others.3) here_rows.unordered;
              next = subst (λ (k : ℕ). ReadsMids history chunk.stream false k) (sym does.others.1) here.rows.next;
              last = subst (λ (k : ℕ). ReadsMids history chunk.stream true k) (sym does.last) here.rows.last;
            }) (rows_kept runs kept) others
            (apart_left (watch chunk.stream) queued history now all o.holds.places (o.holds.waits chunk.stream) (streams chunk.stream).id chunk.stream bears.piece.place (data_part chunk place number) (later chunk.stream) ready after does.ordered.outcome taken
            (sym here.rows.is) o.holds.were_queued (subst (λ (l : List WholeModel). WaitQueued queued history now chunk.stream (o.holds.waits chunk.stream) l) (sym does.others.2) here_wait)
            (renamed queued history now (IsOn history chunk.stream) (OfStream chunk.stream) (λ f k named'. named'.0) bears.piece.place does.ordered.outcome rows.1) (o.holds.once chunk.stream) (fresh chunk.stream)
            (same_order (later chunk.stream) does.others.1 does.others.2) (λ counts on. never counts e) (λ counts. absurd (never counts e)) does.ordered.does) refl (λ counts. absurd (never counts e))

    -- one of I-DATA
    in_order : (place number : ℕ) (later : ℕ → StreamModel) (runs : List RunModel) (after : List MessageContent) (taken : Taken) → IsPiecePlaced (ordered_base base) bears.offset bears.piece number place → IsOn history chunk.stream bears.piece number
        → (CountsFromZero history chunk.stream → IsReadAs history chunk.stream bears.piece.place number) → (CountsFromZero history chunk.stream → bears.piece.mid + 2 ^ 32 ≡ history.floors chunk.stream false + number) → runs ≡ unordered → ((other : ℕ) → other ≢ chunk.stream → later other ≡ streams other)
        → TakesInOrder (data_part chunk place number) (streams chunk.stream) ready taken (later chunk.stream) after → HoldsOrdered watch (sent_messages queued history) quiet now base read (held_messages later runs after)
    in_order place number later runs after taken placed named reads exact kept others takes =
        elim (leb_tells (streams chunk.stream).next number) [
          | inl e ↦ ahead place number later runs after taken placed named reads exact (λ counts. e.1) kept others (takes.ahead e.1)
          | inr e ↦
              (let past = takes.past e.1 in
              let low : number < (streams chunk.stream).next = e.1 in
              passed later runs after kept others past.1 past.2 (λ counts other counted up. (let its = exact counts in omega (arith, its, counted, up, low))))
        ]

    -- an unordered message isn't an ordered one
    not_ordered : bears.piece.message.is_unordered ≡ true → IsOrderedOn queued chunk.stream bears.piece.place → ⊥
    not_ordered unordered_is on =
        let both : Some bears.piece.message ≡ Some on.message = sym (cut.pieces bears.offset bears.piece bears.at).at ∙ on.at in
        let same : bears.piece.message ≡ on.message = cc in
        let clash : true ≡ false = sym unordered_is ∙ ap (λ (m : Message). m.is_unordered) same ∙ on.ordered in
        absurd (cc)

    -- an unordered one of I-DATA
    out_of_order : (place number : ℕ) (later : ℕ → StreamModel) (runs : List RunModel) (after : List MessageContent) (taken : Taken) → IsPiecePlaced (ordered_base base) bears.offset bears.piece number place → IsApart history chunk.stream bears.piece number
        → bears.piece.message.is_unordered ≡ true → ReadsMids history chunk.stream true number → runs ≡ unordered → ((other : ℕ) → other ≢ chunk.stream → later other ≡ streams other)
        → TakesOutOfOrder (data_part chunk place number) (streams chunk.stream) ready taken (later chunk.stream) after → HoldsOrdered watch (sent_messages queued history) quiet now base read (held_messages later runs after)
    unfolding all here
    out_of_order place number later runs after taken placed named unordered_is reads kept others takes =
        let part : IsPart history.log (ordered_base base) (IsApart history chunk.stream) (data_part chunk place number) = part_of history base (ordered_base base) (IsApart history chunk.stream) tsn_number place number chunk bears placed named in
        let rows = stay_rows queued history.log cut (one_kind history told) got (ordered_base base) (IsApart history chunk.stream) (λ m n f g k. tells_as history told true chunk.stream m n f g k) (data_part chunk place number) (streams chunk.stream).unordered (later chunk.stream).unordered takes.unordered.outcome part here.rows.unordered takes.unordered.parts in
        holds_then chunk.stream aloud later runs after
        (record {
          is = takes.others.0 ∙ here.rows.is;
          ordered = subst (λ (l : List RunModel). AreRows history.log now (ordered_base base) (IsOn history chunk.stream) l) (sym takes.others.3) here_rows.ordered;
          unordered = rows.0;
          next = subst (λ (k : ℕ). ReadsMids history chunk.stream false k) (sym takes.others.1) here.rows.next;
          last = subst (λ (k : ℕ). ReadsMids history chunk.stream true k) (sym takes.last) reads;
        }) (rows_kept runs kept) others
        (apart_left (watch chunk.stream) queued history now all o.holds.places (o.holds.waits chunk.stream) (streams chunk.stream).id chunk.stream bears.piece.place (data_part chunk place number) (later chunk.stream) ready after takes.unordered.outcome taken
        (sym here.rows.is) o.holds.were_queued (subst (λ (l : List WholeModel). WaitQueued queued history now chunk.stream (o.holds.waits chunk.stream) l) (sym takes.others.2) here_wait)
        (renamed queued history now (IsApart history chunk.stream) (OfStream chunk.stream) (λ f k named'. named'.0) bears.piece.place takes.unordered.outcome rows.1) (o.holds.once chunk.stream) (fresh chunk.stream)
        (same_order (later chunk.stream) takes.others.1 takes.others.2) (λ counts on. not_ordered unordered_is on)
        (λ counts cut' has. (here_order counts).since cut' has bears.offset bears.piece bears.at named.0 (named.1 (counts.kinds bears.offset bears.piece bears.at)).2) takes.unordered.does) refl
        (λ counts. parts_alike history now chunk.stream (streams chunk.stream) (later chunk.stream) takes.others.1 takes.others.2 takes.others.3
        (parts_else history got chunk.stream (streams chunk.stream) bears.offset
        (λ f since number counted up. (let clash : true ≡ false = sym unordered_is ∙ ap (λ (x : Piece). x.message.is_unordered) (sym (its_piece chunk.stream f since)) ∙ since.ordered in cc)) (o.parts chunk.stream counts aloud)))

    -- an unordered message of DATA that is whole, or a part of one
    makes_on : (place number : ℕ) (outcome : Assembly) → number ≡ chunk.stream → MakesQueued queued history.log now IsOfStream place outcome → IsOfMessage number outcome → MakesQueued queued history.log now (OfStream chunk.stream) place outcome
    makes_on place number part_dropped same makes of = tt
    makes_on place number part_kept same makes of = tt
    makes_on place number (message_whole whole) same makes of =
        record { offset = makes.offset; head = makes.head; at = makes.at; is = makes.is; queued_at = makes.queued_at; number = makes.number.0 ∙ of ∙ same; ppid = makes.ppid; payload = makes.payload; spent = makes.spent }

    unordered_chunk : (later : ℕ → StreamModel) (runs : List RunModel) (after : List MessageContent) (outcome : Assembly) (taken : Taken) → bears.piece.is_interleaved ≡ false → later ≡ streams → AreRows history.log now (unordered_base base) IsOfStream runs
        → MakesQueued queued history.log now (OfStream chunk.stream) bears.piece.place outcome → UnorderedOutcome (data_part chunk tsn_number chunk.stream) (delivered_as chunk.stream) ready outcome taken after → HoldsOrdered watch (sent_messages queued history) quiet now base read (held_messages later runs after)
    unfolding all
    unordered_chunk later runs after outcome taken kind same rows makes does =
        subst (λ (f : ℕ → StreamModel). HoldsOrdered watch (sent_messages queued history) quiet now base read (held_messages f runs after)) (sym same)
        (holds_then chunk.stream aloud streams runs after here_rows rows (λ other ne. refl)
        (apart_left (watch chunk.stream) queued history now all o.holds.places (o.holds.waits chunk.stream) chunk.stream chunk.stream bears.piece.place (data_part chunk tsn_number chunk.stream) (streams chunk.stream) ready after outcome taken
        refl o.holds.were_queued here_wait makes (o.holds.once chunk.stream) (fresh chunk.stream) (same_order (streams chunk.stream) refl refl) (λ counts on. is_data counts kind) (λ counts. absurd (is_data counts kind)) does) refl (λ counts. absurd (is_data counts kind)))

  by_numbering : (tsn_number : ℕ) (numbering : Numbering) (chunk : ChunkModel) (old new : IncomingModel) → chunk.numbering ≡ numbering
      → (bears : BearsPiece history base tsn_number chunk) → IsNumbered bears.piece numbering → (HasEntry bears.offset got → ⊥) → quiet chunk.stream ≡ false → IncomingOrdered watch (sent_messages queued history) quiet got base read old → TakesChunk tsn_number numbering chunk old new → IncomingOrdered watch (sent_messages queued history) quiet (bears.offset ∷ got) base read new
  by_numbering tsn_number (Ordered ssn) chunk old new is bears numbered is_new aloud o takes =
      let number : ℕ = short_number_from (stream_on chunk.stream old.streams).next ssn in
      let does : TakesAhead (data_part chunk (fragment_place number tsn_number) number) (stream_on chunk.stream old.streams) old.ready takes.taken (stream_on chunk.stream new.streams) new.ready =
      subst (λ (n : Numbering). TakesNumberedPart (numbered_part tsn_number chunk n (stream_on chunk.stream old.streams)) (stream_on chunk.stream old.streams) old.ready takes.taken (stream_on chunk.stream new.streams) new.ready) is takes.does in
      ahead tsn_number chunk bears is_new aloud (λ id. stream_on id old.streams) old.unordered old.ready o (fragment_place number tsn_number) number (λ id. stream_on id new.streams) new.unordered new.ready takes.taken
      (ordered_placed history base tsn_number number chunk bears numbered.0) (sym bears.stream, λ i. absurd (let clash : true ≡ false = sym i ∙ numbered.0 in cc))
      (λ counts. absurd (is_plain counts numbered.0)) (λ counts. absurd (is_plain counts numbered.0)) (λ counts. absurd (is_plain counts numbered.0)) takes.unordered takes.others does
    where
      is_plain : CountsFromZero history chunk.stream → bears.piece.is_interleaved ≡ false → ⊥
      is_plain counts kind = (let clash : true ≡ false = sym (counts.kinds bears.offset bears.piece bears.at) ∙ kind in absurd (cc))
  by_numbering tsn_number Unordered chunk old new is bears numbered is_new aloud o takes =
      let part = part_of history base (unordered_base base) IsOfStream tsn_number tsn_number chunk.stream chunk bears (unordered_placed history base tsn_number chunk.stream chunk bears numbered.0) (sym bears.stream, numbered.0) in
      let rows = stay_rows queued history.log cut (one_kind history told) got (unordered_base base) IsOfStream (λ m n f g k. tells_plain history.log m n f g k) (data_part chunk tsn_number chunk.stream) old.unordered new.unordered takes.does.outcome part o.holds.rows takes.does.parts in
      unordered_chunk tsn_number chunk bears is_new aloud (λ id. stream_on id old.streams) old.unordered old.ready o (λ id. stream_on id new.streams) new.unordered new.ready takes.does.outcome takes.taken numbered.0
      (ap (λ (s : List (ℕ × StreamModel)). λ id. stream_on id s) takes.streams) rows.0
      (makes_on tsn_number chunk bears is_new aloud (λ id. stream_on id old.streams) old.unordered old.ready o bears.piece.place chunk.stream takes.does.outcome refl rows.1
      (of_message (data_part chunk tsn_number chunk.stream) old.unordered new.unordered takes.does.outcome takes.does.parts)) takes.does.does
  by_numbering tsn_number (InterleavedOrdered mid fsn) chunk old new is bears numbered is_new aloud o takes =
      let next : ℕ = (stream_on chunk.stream old.streams).next in
      let named = named_so history base told tsn_number mid false chunk bears next numbered.0 numbered.1 numbered.2 (o.holds.streams_hold chunk.stream).rows.next in
      let does : TakesInOrder (data_part chunk (fragment_place (number_near next mid) fsn) (number_near next mid)) (stream_on chunk.stream old.streams) old.ready takes.taken (stream_on chunk.stream new.streams) new.ready =
      subst (λ (n : Numbering). TakesNumberedPart (numbered_part tsn_number chunk n (stream_on chunk.stream old.streams)) (stream_on chunk.stream old.streams) old.ready takes.taken (stream_on chunk.stream new.streams) new.ready) is takes.does in
      in_order tsn_number chunk bears is_new aloud (λ id. stream_on id old.streams) old.unordered old.ready o (fragment_place (number_near next mid) fsn) (number_near next mid) (λ id. stream_on id new.streams) new.unordered new.ready takes.taken
      (apart_placed history base tsn_number (number_near next mid) fsn chunk bears numbered.0 numbered.3) (sym bears.stream, named.0) (λ counts. reads counts) (λ counts. exact counts) takes.unordered takes.others does
    where
      exact : CountsFromZero history chunk.stream → bears.piece.mid + 2 ^ 32 ≡ history.floors chunk.stream false + number_near (stream_on chunk.stream old.streams).next mid
      exact counts =
          subst (λ (k : ℕ). bears.piece.mid + 2 ^ 32 ≡ history.floors chunk.stream false + number_near (stream_on chunk.stream old.streams).next k) (sym numbered.2)
          (mids_counted history chunk.stream bears.offset bears.piece (stream_on chunk.stream old.streams) counts (subst (λ (b : Bool). IsOrderedOrReset (watch chunk.stream) b (sent_messages queued history) chunk.stream (read ++ o.holds.places) (o.holds.waits chunk.stream) (stream_on chunk.stream old.streams)) aloud (o.order chunk.stream counts)).reach (record { at = bears.at; stream = sym bears.stream; ordered = numbered.1; current = bears.current numbered.0 }))

      reads : CountsFromZero history chunk.stream → IsReadAs history chunk.stream bears.piece.place (number_near (stream_on chunk.stream old.streams).next mid)
      reads counts =
          subst (λ (k : ℕ). IsReadAs history chunk.stream bears.piece.place (number_near (stream_on chunk.stream old.streams).next k)) (sym numbered.2)
          (mids_are_read history chunk.stream bears.offset bears.piece (stream_on chunk.stream old.streams) counts (subst (λ (b : Bool). IsOrderedOrReset (watch chunk.stream) b (sent_messages queued history) chunk.stream (read ++ o.holds.places) (o.holds.waits chunk.stream) (stream_on chunk.stream old.streams)) aloud (o.order chunk.stream counts)).reach (record { at = bears.at; stream = sym bears.stream; ordered = numbered.1; current = bears.current numbered.0 }))
  by_numbering tsn_number (InterleavedUnordered mid fsn) chunk old new is bears numbered is_new aloud o takes =
      let last : ℕ = (stream_on chunk.stream old.streams).last_unordered in
      let named = named_so history base told tsn_number mid true chunk bears last numbered.0 numbered.1 numbered.2 (o.holds.streams_hold chunk.stream).rows.last in
      let does : TakesOutOfOrder (data_part chunk (fragment_place (number_near last mid) fsn) (number_near last mid)) (stream_on chunk.stream old.streams) old.ready takes.taken (stream_on chunk.stream new.streams) new.ready =
      subst (λ (n : Numbering). TakesNumberedPart (numbered_part tsn_number chunk n (stream_on chunk.stream old.streams)) (stream_on chunk.stream old.streams) old.ready takes.taken (stream_on chunk.stream new.streams) new.ready) is takes.does in
      out_of_order tsn_number chunk bears is_new aloud (λ id. stream_on id old.streams) old.unordered old.ready o (fragment_place (number_near last mid) fsn) (number_near last mid) (λ id. stream_on id new.streams) new.unordered new.ready takes.taken
      (apart_placed history base tsn_number (number_near last mid) fsn chunk bears numbered.0 numbered.3) (sym bears.stream, named.0) numbered.1 named.1 takes.unordered takes.others does

pub ready_in_order : (watch : ℕ → Watch) (queued : List Message) (history : History) (quiet : ℕ → Bool) → IsLogOfPieces queued history.log → IsUnambiguous history
    → (got : List ℕ) (base tsn : ℕ) (read : List ℕ) (chunk : ChunkModel) (old new : IncomingModel)
    → (bears : BearsPiece history base (number_near old.last_tsn_number tsn) chunk) → (HasEntry bears.offset got → ⊥) → quiet chunk.stream ≡ false
    → IncomingOrdered watch (sent_messages queued history) quiet got base read old → TakesIncomingChunk tsn chunk old new
    → IncomingOrdered watch (sent_messages queued history) quiet (bears.offset ∷ got) base read new
ready_in_order watch queued history quiet cut told got base tsn read chunk old new bears is_new aloud o takes =
    by_numbering watch queued history quiet cut told got base read (number_near old.last_tsn_number tsn) chunk.numbering chunk old new refl bears bears.numbered is_new aloud o takes.takes
