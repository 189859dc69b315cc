-- A chunk of data whose TSN is new.
use Rattle.std.proofs.Common.{◌≡◌, ◌≢◌, ℕ, Bool, true, false, List, ◌∷◌, ◌++◌, refl, sym, ◌∙◌, ap, subst, inl, inr}
use Rattle.dcsctp_spec_lemmas.specs.types.queues.Messages.{MessageContent}
use Rattle.dcsctp_spec_lemmas.specs.types.declared.arrivals.Numbering.{Numbering}
use Rattle.dcsctp_spec_lemmas.specs.types.declared.arrivals.Numbering.TheVariants.{Ordered, Unordered, InterleavedOrdered, InterleavedUnordered}
use Rattle.dcsctp_spec_lemmas.specs.types.declared.arrivals.Taken.{Taken}
use Rattle.dcsctp_spec_lemmas.specs.spec.queues.Numbers.{number_near, short_number_from, fragment_place}
use Rattle.dcsctp_spec_lemmas.specs.spec.queues.Runs.{RunModel, WholeModel, Assembly, part_dropped, part_kept, message_whole}
use Rattle.dcsctp_spec_lemmas.specs.spec.queues.IncomingStreams.{StreamModel, ChunkModel, data_part, delivered_as, UnorderedOutcome, TakesAhead, TakesInOrder, TakesOutOfOrder, is_number_waiting, TakesNumberedPart, numbered_part}
use Rattle.dcsctp_spec_lemmas.specs.spec.queues.Incoming.{IncomingModel, stream_on, TakesChunk, TakesIncomingChunk}
use Rattle.dcsctp_delivery_directions.specs.sending.Places.{HasEntry, table_with}
use Rattle.dcsctp_delivery_directions.specs.sending.Log.{Message, History, IsLogOfPieces, sent_messages}
use Rattle.dcsctp_delivery_directions.specs.receiving.Rows.{IsPiecePlaced, IsPart, AreRows, Spent, MakesQueued}
use Rattle.dcsctp_delivery_directions.specs.receiving.Ready.{IsOn, IsApart, IsOfStream, ReadsMids, ordered_base, unordered_base, StreamRows, AreDistinct, WaitQueued, StreamHolds, HoldsAll, HoldsIncoming, IsNumbered, BearsPiece, held_messages}
use Rattle.dcsctp_delivery_directions.proofs.sending.Places.{decide, set_same, set_other}
use Rattle.dcsctp_delivery_directions.proofs.receiving.Chaining.{one_kind}
use Rattle.dcsctp_delivery_directions.proofs.receiving.SpentRows.{stay_rows, rows_got, spent_got, was_handled, of_message, IsOfMessage}
use Rattle.dcsctp_delivery_directions.proofs.receiving.Distinct.{distinct_left, distinct_apart, appended, has_either}
use Rattle.dcsctp_delivery_directions.proofs.receiving.Waiting.{HoldsBeside, OfStream, renamed, wait_on_stream, wait_spent, its_message, leaves_none, leaves_ordered, wait_got, leaves_repeated, other_streams, Leaves, stream_rows_got, stream_got}
use Rattle.dcsctp_delivery_directions.proofs.receiving.Reading.{tells_as, tells_plain, ordered_reads}
use Rattle.dcsctp_delivery_directions.specs.sending.Numbers.{IsUnambiguous}
use Rattle.std.proofs.lemmas.Bool.Decides.{leb_tells}
use Rattle.dcsctp_delivery_directions.proofs.receiving.Parts.{part_of, ordered_placed, unordered_placed, apart_placed, named_so}

-- ---- a chunk

abbrev pub LeavesBeside : List Message → History → List ℕ → ℕ → List ℕ → ℕ → (ℕ → List ℕ) → List ℕ → IncomingModel → Type 0
LeavesBeside queued history got base read id waits places incoming =
    HoldsBeside queued history got base read (λ other. other ≡ id) waits places (λ stream. stream_on stream incoming.streams) incoming.unordered incoming.ready

module _ (queued : List Message) (history : History) (cut : IsLogOfPieces queued history.log) (told : IsUnambiguous history) (got : List ℕ) (base : ℕ) (read : List ℕ) where
  module _ (tsn_number : ℕ) (chunk : ChunkModel) (bears : BearsPiece history base tsn_number chunk) (is_new : HasEntry bears.offset got → ⊥) (streams : ℕ → StreamModel) (unordered : List RunModel) (ready : List MessageContent)
      (holds : HoldsAll (sent_messages queued history) got base read (held_messages streams unordered ready)) where
    all : List ℕ
    all = read ++ holds.places

    abbrev pub now : List ℕ
    now = bears.offset ∷ got

    -- its message is neither ready nor read, and doesn't wait
    fresh : (id : ℕ) → HasEntry bears.piece.place (all ++ holds.waits id) → ⊥
    unfolding all
    fresh id h =
        let spent : Spent history.log got bears.piece.place = elim (has_either bears.piece.place (read ++ holds.places) (holds.waits id) h) [
          | inl l ↦ holds.spent bears.piece.place l
          | inr r ↦ wait_spent queued history got id bears.piece.place (holds.waits id) (streams id).waiting (holds.streams_hold id).wait r
        ] in
        is_new (was_handled queued history.log cut got bears.piece.place spent bears.offset bears.piece bears.at refl)

    -- the invariant once its stream is left so
    holds_then : (id : ℕ) (later : ℕ → StreamModel) (runs : List RunModel) (after : List MessageContent) → StreamRows history now base id (later id)
        → AreRows history.log now (unordered_base base) IsOfStream runs → ((other : ℕ) → other ≢ id → later other ≡ streams other) → Leaves queued history now all holds.places id (later id).waiting after
        → HoldsBeside queued history now base read (λ other. other ≡ id) holds.waits holds.places later runs after
    unfolding all
    holds_then id later runs after rows apart others leaves =
        record {
          holds = record {
            waits = table_with id leaves.waits holds.waits;
            streams_hold = λ other. elim (decide other id) [
              | inl e ↦
                  subst (λ (k : ℕ). StreamHolds queued history now base k (table_with id leaves.waits holds.waits k) (later k)) (sym e)
                  (subst (λ (l : List ℕ). StreamHolds queued history now base id l (later id)) (sym (set_same id leaves.waits holds.waits)) (record { rows = rows; wait = leaves.wait }))
              | inr ne ↦
                  subst (λ (l : List ℕ). StreamHolds queued history now base other l (later other)) (sym (set_other id other leaves.waits holds.waits ne))
                  (subst (λ (s : StreamModel). StreamHolds queued history now base other (holds.waits other) s) (sym (others other ne))
                  (stream_got queued history got bears.offset base other (holds.waits other) (streams other) (holds.streams_hold other)))
            ];
            rows = apart;
            places = holds.places ++ leaves.more;
            were_queued = leaves.were;
            spent = λ q h. elim (has_either q (read ++ holds.places) leaves.more (subst (λ (l : List ℕ). HasEntry q l) (sym (appended read holds.places leaves.more)) h)) [
              | inl l ↦ spent_got history.log got bears.offset q (holds.spent q l)
              | inr r ↦ leaves.spent q r
            ];
            once = λ other. subst (λ (l : List ℕ). AreDistinct (l ++ table_with id leaves.waits holds.waits other)) (appended read holds.places leaves.more)
                (elim (decide other id) [
                  | inl e ↦
                      subst (λ (l : List ℕ). AreDistinct (((read ++ holds.places) ++ leaves.more) ++ l)) (sym (ap (table_with id leaves.waits holds.waits) e ∙ set_same id leaves.waits holds.waits)) leaves.once
                  | inr ne ↦
                      subst (λ (l : List ℕ). AreDistinct (((read ++ holds.places) ++ leaves.more) ++ l)) (sym (set_other id other leaves.waits holds.waits ne))
                      (distinct_apart (read ++ holds.places) leaves.more (holds.waits other) (distinct_left ((read ++ holds.places) ++ leaves.more) leaves.waits leaves.once) (holds.once other)
                      (λ q l r. other_streams queued id other q (leaves.on q l) (wait_on_stream queued history got other q (holds.waits other) (streams other).waiting (holds.streams_hold other).wait r) (λ same'. ne (sym same'))))
                ]);
          };
          more = leaves.more;
          places_are = refl;
          on = λ q h. (id, refl, its_message queued id q (leaves.on q h));
          others = λ other ne. set_other id other leaves.waits holds.waits ne;
        }

    -- what its stream has
    here : StreamHolds queued history got base chunk.stream (holds.waits chunk.stream) (streams chunk.stream)
    here = holds.streams_hold chunk.stream

    here_rows : StreamRows history now base chunk.stream (streams chunk.stream)
    unfolding here
    here_rows = stream_rows_got history got bears.offset base chunk.stream (streams chunk.stream) here.rows

    here_wait : WaitQueued queued history now chunk.stream (holds.waits chunk.stream) (streams chunk.stream).waiting
    unfolding here
    here_wait = wait_got queued history got bears.offset chunk.stream (holds.waits chunk.stream) (streams chunk.stream).waiting here.wait

    rows_apart : AreRows history.log now (unordered_base base) IsOfStream unordered
    rows_apart = rows_got history.log got bears.offset (unordered_base base) IsOfStream unordered holds.rows

    rows_kept : (runs : List RunModel) → runs ≡ unordered → AreRows history.log now (unordered_base base) IsOfStream runs
    rows_kept runs kept = subst (λ (l : List RunModel). AreRows history.log now (unordered_base base) IsOfStream l) (sym kept) rows_apart

    -- nothing changes
    passed : (later : ℕ → StreamModel) (runs : List RunModel) (after : List MessageContent) → runs ≡ unordered → ((other : ℕ) → other ≢ chunk.stream → later other ≡ streams other)
        → later chunk.stream ≡ streams chunk.stream → after ≡ ready → HoldsBeside queued history now base read (λ other. other ≡ chunk.stream) holds.waits holds.places later runs after
    unfolding all
    passed later runs after kept others same same' =
        holds_then chunk.stream later runs after (subst (λ (s : StreamModel). StreamRows history now base chunk.stream s) (sym same) here_rows) (rows_kept runs kept) others
        (leaves_none queued history now all holds.places (holds.waits chunk.stream) chunk.stream (later chunk.stream).waiting ready after holds.were_queued
        (subst (λ (s : StreamModel). WaitQueued queued history now chunk.stream (holds.waits chunk.stream) s.waiting) (sym same) here_wait) (holds.once chunk.stream) same')

    -- an ordered chunk
    ahead : (place number : ℕ) (later : ℕ → StreamModel) (runs : List RunModel) (after : List MessageContent) (taken : Taken) → IsPiecePlaced (ordered_base base) bears.offset bears.piece number place → IsOn history chunk.stream bears.piece number
        → runs ≡ unordered → ((other : ℕ) → other ≢ chunk.stream → later other ≡ streams other)
        → TakesAhead (data_part chunk place number) (streams chunk.stream) ready taken (later chunk.stream) after → HoldsBeside queued history now base read (λ other. other ≡ chunk.stream) holds.waits holds.places later runs after
    unfolding all here
    ahead place number later runs after taken placed named kept others takes = go (is_number_waiting number (streams chunk.stream).waiting) refl
      where
        part : IsPart history.log (ordered_base base) (IsOn history chunk.stream) (data_part chunk place number)
        part = part_of history base (ordered_base base) (IsOn history chunk.stream) tsn_number place number chunk bears placed named

        go : (b : Bool) → is_number_waiting number (streams chunk.stream).waiting ≡ b → HoldsBeside queued history now base read (λ other. other ≡ chunk.stream) holds.waits holds.places later runs after
        go false e =
            let does = takes.fresh e in
            let rows = stay_rows queued history.log cut (one_kind history told) got (ordered_base base) (IsOn history chunk.stream) (λ m n f g k. tells_as history told false chunk.stream m n f g k) (data_part chunk place number) (streams chunk.stream).ordered (later chunk.stream).ordered does.outcome part here.rows.ordered does.parts in
            holds_then chunk.stream later runs after
            (record {
              is = does.id ∙ here.rows.is;
              ordered = rows.0;
              unordered = subst (λ (l : List RunModel). AreRows history.log now (ordered_base base) (IsApart history chunk.stream) l) (sym does.unordered.1) here_rows.unordered;
              next = ordered_reads queued history now chunk.stream bears.piece.place (holds.waits chunk.stream) (data_part chunk place number) (streams chunk.stream) (later chunk.stream) ready after does.outcome taken here_wait rows.1 does.does here.rows.next;
              last = subst (λ (k : ℕ). ReadsMids history chunk.stream true k) (sym does.unordered.0) here.rows.last;
            }) (rows_kept runs kept) others
            (leaves_ordered queued history now all holds.places (holds.waits chunk.stream) chunk.stream bears.piece.place (data_part chunk place number) (streams chunk.stream) (later chunk.stream) ready after does.outcome taken
            (sym here.rows.is) holds.were_queued here_wait rows.1 (holds.once chunk.stream) (fresh chunk.stream) does.does)
        go true e =
            let does = takes.repeated e in
            let rows = stay_rows queued history.log cut (one_kind history told) got (ordered_base base) (IsOn history chunk.stream) (λ m n f g k. tells_as history told false chunk.stream m n f g k) (data_part chunk place number) (streams chunk.stream).ordered (later chunk.stream).ordered does.ordered.outcome part here.rows.ordered does.ordered.parts in
            holds_then chunk.stream later runs after
            (record {
              is = does.others.0 ∙ here.rows.is;
              ordered = rows.0;
              unordered = subst (λ (l : List RunModel). AreRows history.log now (ordered_base base) (IsApart history chunk.stream) l) (sym does.others.3) here_rows.unordered;
              next = subst (λ (k : ℕ). ReadsMids history chunk.stream false k) (sym does.others.1) here.rows.next;
              last = subst (λ (k : ℕ). ReadsMids history chunk.stream true k) (sym does.last) here.rows.last;
            }) (rows_kept runs kept) others
            (leaves_repeated queued history now all holds.places (holds.waits chunk.stream) (streams chunk.stream).id chunk.stream bears.piece.place (data_part chunk place number) (later chunk.stream).waiting ready after does.ordered.outcome taken
            (sym here.rows.is) holds.were_queued (subst (λ (l : List WholeModel). WaitQueued queued history now chunk.stream (holds.waits chunk.stream) l) (sym does.others.2) here_wait)
            (renamed queued history now (IsOn history chunk.stream) (OfStream chunk.stream) (λ f k named'. named'.0) bears.piece.place does.ordered.outcome rows.1) (holds.once chunk.stream) (fresh chunk.stream) does.ordered.does)

    -- one of I-DATA
    in_order : (place number : ℕ) (later : ℕ → StreamModel) (runs : List RunModel) (after : List MessageContent) (taken : Taken) → IsPiecePlaced (ordered_base base) bears.offset bears.piece number place → IsOn history chunk.stream bears.piece number
        → runs ≡ unordered → ((other : ℕ) → other ≢ chunk.stream → later other ≡ streams other)
        → TakesInOrder (data_part chunk place number) (streams chunk.stream) ready taken (later chunk.stream) after → HoldsBeside queued history now base read (λ other. other ≡ chunk.stream) holds.waits holds.places later runs after
    in_order place number later runs after taken placed named kept others takes =
        elim (leb_tells (streams chunk.stream).next number) [
          | inl e ↦ ahead place number later runs after taken placed named kept others (takes.ahead e.1)
          | inr e ↦ (let past = takes.past e.1 in passed later runs after kept others past.1 past.2)
        ]

    -- an unordered one of I-DATA
    out_of_order : (place number : ℕ) (later : ℕ → StreamModel) (runs : List RunModel) (after : List MessageContent) (taken : Taken) → IsPiecePlaced (ordered_base base) bears.offset bears.piece number place → IsApart history chunk.stream bears.piece number
        → ReadsMids history chunk.stream true number → runs ≡ unordered → ((other : ℕ) → other ≢ chunk.stream → later other ≡ streams other)
        → TakesOutOfOrder (data_part chunk place number) (streams chunk.stream) ready taken (later chunk.stream) after → HoldsBeside queued history now base read (λ other. other ≡ chunk.stream) holds.waits holds.places later runs after
    unfolding all here
    out_of_order place number later runs after taken placed named reads kept others takes =
        let part : IsPart history.log (ordered_base base) (IsApart history chunk.stream) (data_part chunk place number) = part_of history base (ordered_base base) (IsApart history chunk.stream) tsn_number place number chunk bears placed named in
        let rows = stay_rows queued history.log cut (one_kind history told) got (ordered_base base) (IsApart history chunk.stream) (λ m n f g k. tells_as history told true chunk.stream m n f g k) (data_part chunk place number) (streams chunk.stream).unordered (later chunk.stream).unordered takes.unordered.outcome part here.rows.unordered takes.unordered.parts in
        holds_then chunk.stream later runs after
        (record {
          is = takes.others.0 ∙ here.rows.is;
          ordered = subst (λ (l : List RunModel). AreRows history.log now (ordered_base base) (IsOn history chunk.stream) l) (sym takes.others.3) here_rows.ordered;
          unordered = rows.0;
          next = subst (λ (k : ℕ). ReadsMids history chunk.stream false k) (sym takes.others.1) here.rows.next;
          last = subst (λ (k : ℕ). ReadsMids history chunk.stream true k) (sym takes.last) reads;
        }) (rows_kept runs kept) others
        (leaves_repeated queued history now all holds.places (holds.waits chunk.stream) (streams chunk.stream).id chunk.stream bears.piece.place (data_part chunk place number) (later chunk.stream).waiting ready after takes.unordered.outcome taken
        (sym here.rows.is) holds.were_queued (subst (λ (l : List WholeModel). WaitQueued queued history now chunk.stream (holds.waits chunk.stream) l) (sym takes.others.2) here_wait)
        (renamed queued history now (IsApart history chunk.stream) (OfStream chunk.stream) (λ f k named'. named'.0) bears.piece.place takes.unordered.outcome rows.1) (holds.once chunk.stream) (fresh chunk.stream) takes.unordered.does)

    -- an unordered message of DATA that is whole, or a part of one
    makes_on : (place number : ℕ) (outcome : Assembly) → number ≡ chunk.stream → MakesQueued queued history.log now IsOfStream place outcome → IsOfMessage number outcome → MakesQueued queued history.log now (OfStream chunk.stream) place outcome
    makes_on place number part_dropped same makes of = tt
    makes_on place number part_kept same makes of = tt
    makes_on place number (message_whole whole) same makes of =
        record { offset = makes.offset; head = makes.head; at = makes.at; is = makes.is; queued_at = makes.queued_at; number = makes.number.0 ∙ of ∙ same; ppid = makes.ppid; payload = makes.payload; spent = makes.spent }

    unordered_chunk : (later : ℕ → StreamModel) (runs : List RunModel) (after : List MessageContent) (outcome : Assembly) (taken : Taken) → later ≡ streams → AreRows history.log now (unordered_base base) IsOfStream runs
        → MakesQueued queued history.log now (OfStream chunk.stream) bears.piece.place outcome → UnorderedOutcome (data_part chunk tsn_number chunk.stream) (delivered_as chunk.stream) ready outcome taken after → HoldsBeside queued history now base read (λ other. other ≡ chunk.stream) holds.waits holds.places later runs after
    unfolding all
    unordered_chunk later runs after outcome taken same rows makes does =
        subst (λ (f : ℕ → StreamModel). HoldsBeside queued history now base read (λ other. other ≡ chunk.stream) holds.waits holds.places f runs after) (sym same)
        (holds_then chunk.stream streams runs after here_rows rows (λ other ne. refl)
        (leaves_repeated queued history now all holds.places (holds.waits chunk.stream) chunk.stream chunk.stream bears.piece.place (data_part chunk tsn_number chunk.stream) (streams chunk.stream).waiting ready after outcome taken
        refl holds.were_queued here_wait makes (holds.once chunk.stream) (fresh chunk.stream) does))

  by_numbering : (tsn_number : ℕ) (numbering : Numbering) (chunk : ChunkModel) (old new : IncomingModel) → chunk.numbering ≡ numbering
      → (bears : BearsPiece history base tsn_number chunk) → IsNumbered bears.piece numbering → (HasEntry bears.offset got → ⊥) → (holds : HoldsIncoming queued history got base read old) → TakesChunk tsn_number numbering chunk old new
      → LeavesBeside queued history (bears.offset ∷ got) base read chunk.stream holds.waits holds.places new
  by_numbering tsn_number (Ordered ssn) chunk old new is bears numbered is_new holds takes =
      let number : ℕ = short_number_from (stream_on chunk.stream old.streams).next ssn in
      let does : TakesAhead (data_part chunk (fragment_place number tsn_number) number) (stream_on chunk.stream old.streams) old.ready takes.taken (stream_on chunk.stream new.streams) new.ready =
      subst (λ (n : Numbering). TakesNumberedPart (numbered_part tsn_number chunk n (stream_on chunk.stream old.streams)) (stream_on chunk.stream old.streams) old.ready takes.taken (stream_on chunk.stream new.streams) new.ready) is takes.does in
      ahead tsn_number chunk bears is_new (λ id. stream_on id old.streams) old.unordered old.ready holds (fragment_place number tsn_number) number (λ id. stream_on id new.streams) new.unordered new.ready takes.taken
      (ordered_placed history base tsn_number number chunk bears numbered.0) (sym bears.stream, λ i. absurd (let clash : true ≡ false = sym i ∙ numbered.0 in cc)) takes.unordered takes.others does
  by_numbering tsn_number Unordered chunk old new is bears numbered is_new holds takes =
      let part = part_of history base (unordered_base base) IsOfStream tsn_number tsn_number chunk.stream chunk bears (unordered_placed history base tsn_number chunk.stream chunk bears numbered.0) (sym bears.stream, numbered.0) in
      let rows = stay_rows queued history.log cut (one_kind history told) got (unordered_base base) IsOfStream (λ m n f g k. tells_plain history.log m n f g k) (data_part chunk tsn_number chunk.stream) old.unordered new.unordered takes.does.outcome part holds.rows takes.does.parts in
      unordered_chunk tsn_number chunk bears is_new (λ id. stream_on id old.streams) old.unordered old.ready holds (λ id. stream_on id new.streams) new.unordered new.ready takes.does.outcome takes.taken
      (ap (λ (s : List (ℕ × StreamModel)). λ id. stream_on id s) takes.streams) rows.0
      (makes_on tsn_number chunk bears is_new (λ id. stream_on id old.streams) old.unordered old.ready holds bears.piece.place chunk.stream takes.does.outcome refl rows.1
      (of_message (data_part chunk tsn_number chunk.stream) old.unordered new.unordered takes.does.outcome takes.does.parts)) takes.does.does
  by_numbering tsn_number (InterleavedOrdered mid fsn) chunk old new is bears numbered is_new holds takes =
      let next : ℕ = (stream_on chunk.stream old.streams).next in
      let named = named_so history base told tsn_number mid false chunk bears next numbered.0 numbered.1 numbered.2 (holds.streams_hold chunk.stream).rows.next in
      let does : TakesInOrder (data_part chunk (fragment_place (number_near next mid) fsn) (number_near next mid)) (stream_on chunk.stream old.streams) old.ready takes.taken (stream_on chunk.stream new.streams) new.ready =
      subst (λ (n : Numbering). TakesNumberedPart (numbered_part tsn_number chunk n (stream_on chunk.stream old.streams)) (stream_on chunk.stream old.streams) old.ready takes.taken (stream_on chunk.stream new.streams) new.ready) is takes.does in
      in_order tsn_number chunk bears is_new (λ id. stream_on id old.streams) old.unordered old.ready holds (fragment_place (number_near next mid) fsn) (number_near next mid) (λ id. stream_on id new.streams) new.unordered new.ready takes.taken
      (apart_placed history base tsn_number (number_near next mid) fsn chunk bears numbered.0 numbered.3) (sym bears.stream, named.0) takes.unordered takes.others does
  by_numbering tsn_number (InterleavedUnordered mid fsn) chunk old new is bears numbered is_new holds takes =
      let last : ℕ = (stream_on chunk.stream old.streams).last_unordered in
      let named = named_so history base told tsn_number mid true chunk bears last numbered.0 numbered.1 numbered.2 (holds.streams_hold chunk.stream).rows.last in
      let does : TakesOutOfOrder (data_part chunk (fragment_place (number_near last mid) fsn) (number_near last mid)) (stream_on chunk.stream old.streams) old.ready takes.taken (stream_on chunk.stream new.streams) new.ready =
      subst (λ (n : Numbering). TakesNumberedPart (numbered_part tsn_number chunk n (stream_on chunk.stream old.streams)) (stream_on chunk.stream old.streams) old.ready takes.taken (stream_on chunk.stream new.streams) new.ready) is takes.does in
      out_of_order tsn_number chunk bears is_new (λ id. stream_on id old.streams) old.unordered old.ready holds (fragment_place (number_near last mid) fsn) (number_near last mid) (λ id. stream_on id new.streams) new.unordered new.ready takes.taken
      (apart_placed history base tsn_number (number_near last mid) fsn chunk bears numbered.0 numbered.3) (sym bears.stream, named.0) named.1 takes.unordered takes.others does

-- It holds of these as well, and beside its stream the same.
pub holds_beside : (queued : List Message) (history : History) → IsLogOfPieces queued history.log → IsUnambiguous history
    → (got : List ℕ) (base tsn : ℕ) (read : List ℕ) (chunk : ChunkModel) (old new : IncomingModel)
    → (bears : BearsPiece history base (number_near old.last_tsn_number tsn) chunk) → (HasEntry bears.offset got → ⊥)
    → (holds : HoldsIncoming queued history got base read old) → TakesIncomingChunk tsn chunk old new
    → LeavesBeside queued history (bears.offset ∷ got) base read chunk.stream holds.waits holds.places new
holds_beside queued history cut told got base tsn read chunk old new bears is_new holds takes =
    by_numbering queued history cut told got base read (number_near old.last_tsn_number tsn) chunk.numbering chunk old new refl bears bears.numbered is_new holds takes.takes

pub holds_on : (queued : List Message) (history : History) → IsLogOfPieces queued history.log → IsUnambiguous history
    → (got : List ℕ) (base tsn : ℕ) (read : List ℕ) (chunk : ChunkModel) (old new : IncomingModel)
    → (bears : BearsPiece history base (number_near old.last_tsn_number tsn) chunk) → (HasEntry bears.offset got → ⊥)
    → HoldsIncoming queued history got base read old → TakesIncomingChunk tsn chunk old new
    → HoldsIncoming queued history (bears.offset ∷ got) base read new
holds_on queued history cut told got base tsn read chunk old new bears is_new holds takes =
    (holds_beside queued history cut told got base tsn read chunk old new bears is_new holds takes).holds
