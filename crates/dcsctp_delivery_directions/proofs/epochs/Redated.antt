-- A reset of streams is performed: what is held is as before, once the messages of these streams that are ready are dated anew.
use Rattle.std.proofs.Common.{◌≡◌, ℕ, suc, Bool, true, false, ◌≤◌, ◌+◌, ◌*◌, ◌^◌, List, [], ◌∷◌, length, refl, sym, ◌∙◌, ap, arith, subst, inl, inr}
use Rattle.std.specs.Prelude.{Some}
use Rattle.std.specs.List.{AllByRecursion}
use Rattle.dcsctp_spec.specs.types.queues.Messages.{MessageContent}
use Rattle.dcsctp_spec.specs.queues.Incoming.{IncomingModel, stream_on}
use Rattle.dcsctp_spec.specs.queues.IncomingStreams.{new_stream}
use Rattle.dcsctp_spec.specs.queues.Runs.{RunModel, WholeModel}
use Rattle.dcsctp_delivery_directions.specs.sending.Places.{HasEntry, at_place}
use Rattle.dcsctp_delivery_directions.specs.sending.Log.{Message, Piece, Slot, History, is_end, IsLogOfPieces, sent_messages}
use Rattle.dcsctp_delivery_directions.specs.receiving.Rows.{IsPieceRow, AreRows, Spent, IsQueued}
use Rattle.dcsctp_delivery_directions.specs.receiving.Ready.{IsOn, IsApart, IsOfStream, ReadsMids, ordered_base, unordered_base, WereQueued, WaitQueued, StreamHolds, HoldsAll, held_messages}
use Rattle.dcsctp_delivery_directions.specs.order.Queue.{Cut}
use Rattle.dcsctp_delivery_directions.proofs.receiving.Distinct.{has_left, has_right}
use Rattle.dcsctp_delivery_directions.proofs.epochs.Ages.{IsRecut, IsSentAt, age_alike}
use Rattle.dcsctp_delivery_directions.proofs.epochs.Dated.{age_of_place, age_of_index, dated_message, dated_queued, dated_piece, dated_log, dated_history, dated_contents, log_to, log_from, queued_to, queued_from}

-- ---- what is held

module _ (queued : List Message) (history : History) (cuts cuts' : ℕ → List Cut) (named : ℕ → Bool) (total : ℕ) (cut : IsLogOfPieces queued history.log) (same : (id : ℕ) → named id ≡ false → cuts' id ≡ cuts id)
    (recuts : (id : ℕ) → IsRecut history.log id total (cuts id) (cuts' id)) where
  abbrev one_log : List Slot
  one_log = dated_log cuts history.log

  abbrev other_log : List Slot
  other_log = dated_log cuts' history.log

  same_piece : (f : Piece) → named f.message.stream ≡ false → dated_piece cuts' f ≡ dated_piece cuts f
  same_piece f apart = ap (λ (l : List Cut). record f { message = record f.message { ppid = f.message.ppid + 2 ^ 32 * age_of_place l f.place } }) (same f.message.stream apart)

  pub moved_at : (n : ℕ) (f : Piece) → at_place n one_log ≡ Some (Some f) → named f.message.stream ≡ false → at_place n other_log ≡ Some (Some f)
  moved_at n f at apart =
      let d = log_from cuts n f history.log at in
      log_to cuts' n (Some d.plain) history.log d.at
      ∙ ap (λ (x : Piece). Some (Some x)) (same_piece d.plain (ap named (ap (λ (x : Piece). x.message.stream) (sym d.is)) ∙ apart) ∙ sym d.is)

  -- each piece of a place was at it before
  was_covered : (got : List ℕ) (place : ℕ) (from to : ℕ) → ((n : ℕ) (f : Piece) → at_place n one_log ≡ Some (Some f) → f.place ≡ place → from ≤ n → n ≤ to → HasEntry n got)
      → (n : ℕ) (f : Piece) → at_place n other_log ≡ Some (Some f) → f.place ≡ place → from ≤ n → n ≤ to → HasEntry n got
  was_covered got place from to covered n f at is low high =
      let d = log_from cuts' n f history.log at in
      covered n (dated_piece cuts d.plain) (log_to cuts n (Some d.plain) history.log d.at) (ap (λ (x : Piece). x.place) (sym d.is) ∙ is) low high

  row_moved : (got : List ℕ) (base : ℕ → ℕ) (Named : Piece → ℕ → Type 0) (run : RunModel) (row : IsPieceRow one_log got base Named run) → named row.head.message.stream ≡ false → IsPieceRow other_log got base Named run
  row_moved got base Named run row apart =
      record {
        offset = row.offset;
        head = row.head;
        last_offset = row.last_offset;
        last = row.last;
        at_head = moved_at row.offset row.head row.at_head apart;
        at_last = moved_at row.last_offset row.last row.at_last (ap (λ (m : Message). named m.stream) row.message ∙ apart);
        first = row.first;
        later = row.later;
        fsns = row.fsns;
        near = row.near;
        spread = row.spread;
        some = row.some;
        covered = was_covered got row.head.place row.offset row.last_offset row.covered;
        place = row.place;
        message = row.message;
        order = row.order;
        payload = row.payload;
        number = row.number;
        ppid = row.ppid;
        beginning = row.beginning;
        end = row.end;
      }

  rows_moved : (got : List ℕ) (base : ℕ → ℕ) (Named : Piece → ℕ → Type 0) (runs : List RunModel) → AllByRecursion (λ run. (f : Piece) → Named f run.number → named f.message.stream ≡ false) runs → AreRows one_log got base Named runs → AreRows other_log got base Named runs
  rows_moved got base Named [] apart rows = tt
  rows_moved got base Named (run ∷ runs) apart rows = (row_moved got base Named run rows.0 (apart.0 rows.0.head rows.0.number), rows_moved got base Named runs apart.1 rows.1)

  all_apart : (Named : Piece → ℕ → Type 0) → ((f : Piece) (number : ℕ) → Named f number → named f.message.stream ≡ false) → (runs : List RunModel) → AllByRecursion (λ run. (f : Piece) → Named f run.number → named f.message.stream ≡ false) runs
  all_apart Named apart [] = tt
  all_apart Named apart (run ∷ runs) = (λ f is. apart f run.number is, all_apart Named apart runs)

  parts_apart : (runs : List RunModel) → AllByRecursion (λ run. named run.number ≡ false) runs → AllByRecursion (λ run. (f : Piece) → IsOfStream f run.number → named f.message.stream ≡ false) runs
  parts_apart [] all = tt
  parts_apart (run ∷ runs) all = (λ f is. ap named is.0 ∙ all.0, parts_apart runs all.1)

  spent_moved : (got : List ℕ) (place : ℕ) → Spent one_log got place → Spent other_log got place
  spent_moved got place s =
      let d = log_from cuts s.offset s.head history.log s.at_head in
      let d' = log_from cuts s.last_offset s.last history.log s.at_last in
      record {
        offset = s.offset;
        head = dated_piece cuts' d.plain;
        last_offset = s.last_offset;
        last = dated_piece cuts' d'.plain;
        at_head = log_to cuts' s.offset (Some d.plain) history.log d.at;
        at_last = log_to cuts' s.last_offset (Some d'.plain) history.log d'.at;
        is = ap (λ (x : Piece). x.place) (sym d.is) ∙ s.is;
        starts = ap (λ (x : Piece). x.start) (sym d.is) ∙ s.starts;
        same = ap (λ (x : Piece). x.place) (sym d'.is) ∙ s.same;
        ends = ap is_end (sym d'.is) ∙ s.ends;
        order = s.order;
        covered = was_covered got place s.offset s.last_offset s.covered;
      }

  spent_sent : (got : List ℕ) (place : ℕ) → Spent one_log got place → IsSentAt history.log place
  spent_sent got place s = (let d = log_from cuts s.offset s.head history.log s.at_head in record { offset = s.offset; piece = d.plain; at = d.at; is = ap (λ (x : Piece). x.place) (sym d.is) ∙ s.is })

  -- whole messages of other streams
  queued_same : (place : ℕ) (m : Message) → at_place place (dated_queued cuts queued) ≡ Some m → named m.stream ≡ false → at_place place (dated_queued cuts' queued) ≡ Some m
  queued_same place m at apart =
      let d = queued_from cuts place m queued at in
      let streams : named d.plain.stream ≡ false = ap (λ (x : Message). named x.stream) (sym d.is) ∙ apart in
      queued_to cuts' place d.plain queued d.at
      ∙ ap (λ (l : List Cut). Some (record d.plain { ppid = d.plain.ppid + 2 ^ 32 * age_of_place l place })) (same d.plain.stream streams) ∙ ap (λ (x : Message). Some x) (sym d.is)

  waits_moved : (got : List ℕ) (id : ℕ) → named id ≡ false → (places : List ℕ) (wholes : List WholeModel) → WaitQueued (dated_queued cuts queued) (dated_history cuts history) got id places wholes
      → WaitQueued (dated_queued cuts' queued) (dated_history cuts' history) got id places wholes
  waits_moved got id apart [] [] wait = tt
  waits_moved got id apart [] (w ∷ wholes) wait = absurd wait
  waits_moved got id apart (p ∷ places) [] wait = absurd wait
  waits_moved got id apart (p ∷ places) (w ∷ wholes) wait = (one wait.0, waits_moved got id apart places wholes wait.1)
    where
      one : IsQueued (dated_queued cuts queued) one_log got (IsOn (dated_history cuts history) id) p w → IsQueued (dated_queued cuts' queued) other_log got (IsOn (dated_history cuts' history) id) p w
      one q =
          let streams : named q.head.message.stream ≡ false = ap named q.number.0 ∙ apart in
          record {
            offset = q.offset;
            head = q.head;
            at = moved_at q.offset q.head q.at streams;
            is = q.is;
            queued_at = queued_same p q.head.message q.queued_at streams;
            number = q.number;
            ppid = q.ppid;
            payload = q.payload;
            spent = spent_moved got p q.spent;
          }

  reads_moved : (id : ℕ) (is_unordered : Bool) (number : ℕ) → ReadsMids (dated_history cuts history) id is_unordered number → ReadsMids (dated_history cuts' history) id is_unordered number
  reads_moved id is_unordered number reads start w =
      reads start
      (record {
        kinds = λ n f at. (let d = log_from cuts n f history.log at in ap (λ (x : Piece). x.is_interleaved) d.is ∙ w.kinds n (dated_piece cuts' d.plain) (log_to cuts' n (Some d.plain) history.log d.at));
        from = λ n f at on kind is. (
            let d = log_from cuts n f history.log at in
            let low = w.from n (dated_piece cuts' d.plain) (log_to cuts' n (Some d.plain) history.log d.at) (ap (λ (x : Piece). x.message.stream) (sym d.is) ∙ on) (ap (λ (x : Piece). x.message.is_unordered) (sym d.is) ∙ kind)
            (subst (λ (x : Piece). history.floors x.message.stream x.message.is_unordered ≤ x.mid) d.is is) in
            let mids : f.mid ≡ d.plain.mid = ap (λ (x : Piece). x.mid) d.is in
            omega (arith, low, mids)
            );
        below = λ n f at on kind is. (
            let d = log_from cuts n f history.log at in
            let high = w.below n (dated_piece cuts' d.plain) (log_to cuts' n (Some d.plain) history.log d.at) (ap (λ (x : Piece). x.message.stream) (sym d.is) ∙ on) (ap (λ (x : Piece). x.message.is_unordered) (sym d.is) ∙ kind)
            (subst (λ (x : Piece). history.floors x.message.stream x.message.is_unordered ≤ x.mid) d.is is) in
            let mids : f.mid ≡ d.plain.mid = ap (λ (x : Piece). x.mid) d.is in
            omega (arith, high, mids)
            );
      })

  -- ---- what is ready, or was read

  pub were_moved : (index : ℕ) (places : List ℕ) (contents : List MessageContent) → index + length contents ≤ total → ((place : ℕ) → HasEntry place places → IsSentAt history.log place)
      → WereQueued (dated_queued cuts queued) places (dated_contents cuts index contents) → WereQueued (dated_queued cuts' queued) places (dated_contents cuts' index contents)
  were_moved index [] [] low sent were = tt
  were_moved index [] (c ∷ contents) low sent were = absurd were
  were_moved index (p ∷ places) [] low sent were = absurd were
  were_moved index (p ∷ places) (c ∷ contents) low sent were =
      let d = queued_from cuts p were.0.message queued were.0.at in
      let s = sent p (inl refl) in
      let both : Some s.piece.message ≡ Some d.plain = sym (cut.pieces s.offset s.piece s.at).at ∙ ap (λ (k : ℕ). at_place k queued) s.is ∙ d.at in
      let text : s.piece.message ≡ d.plain = cc in
      let stream : c.stream ≡ d.plain.stream = were.0.stream ∙ ap (λ (m : Message). m.stream) d.is in
      let on : s.piece.message.stream ≡ c.stream = ap (λ (m : Message). m.stream) text ∙ sym stream in
      let older = age_alike history.log c.stream total (cuts c.stream) (cuts' c.stream) (recuts c.stream) s.offset s.piece s.at on index (omega (arith, low)) in
      let was : c.ppid + 2 ^ 32 * age_of_index (cuts c.stream) index ≡ d.plain.ppid + 2 ^ 32 * age_of_place (cuts c.stream) p =
      were.0.ppid ∙ ap (λ (m : Message). m.ppid) d.is ∙ ap (λ (k : ℕ). d.plain.ppid + 2 ^ 32 * age_of_place (cuts k) p) (sym stream) in
      let of_place : age_of_place (cuts' c.stream) p ≡ age_of_place (cuts c.stream) p + older.more =
      ap (age_of_place (cuts' c.stream)) (sym s.is) ∙ older.of_place ∙ ap (λ (k : ℕ). age_of_place (cuts c.stream) k + older.more) s.is in
      let of_index = older.of_index in (
        record {
          message = dated_message cuts' p d.plain;
          at = queued_to cuts' p d.plain queued d.at;
          stream = stream;
          ppid = subst (λ (k : ℕ). c.ppid + 2 ^ 32 * age_of_index (cuts' c.stream) index ≡ d.plain.ppid + 2 ^ 32 * age_of_place (cuts' k) p) stream (omega (arith, was, of_place, of_index));
          payload = were.0.payload ∙ ap (λ (m : Message). m.payload) d.is;
        },
        were_moved (suc index) places contents (omega (arith, low)) (λ place has. sent place (inr has)) were.1,
      )

  -- ---- all

  module _ (got : List ℕ) (base : ℕ) (read : List ℕ) (incoming : IncomingModel) (clear : (id : ℕ) → named id ≡ true → stream_on id incoming.streams ≡ new_stream id) (apart : AllByRecursion (λ run. named run.number ≡ false) incoming.unordered) where
    stream_moved : (id : ℕ) (places : List ℕ) (b : Bool) → named id ≡ b → StreamHolds (dated_queued cuts queued) (dated_history cuts history) got base id places (stream_on id incoming.streams)
        → StreamHolds (dated_queued cuts' queued) (dated_history cuts' history) got base id places (stream_on id incoming.streams)
    stream_moved id places false is s =
        record {
          rows = record {
            is = s.rows.is;
            ordered = rows_moved got (ordered_base base) (IsOn (dated_history cuts history) id) (stream_on id incoming.streams).ordered
                (all_apart (IsOn (dated_history cuts history) id) (λ f number on. ap named on.0 ∙ is) (stream_on id incoming.streams).ordered) s.rows.ordered;
            unordered = rows_moved got (ordered_base base) (IsApart (dated_history cuts history) id) (stream_on id incoming.streams).unordered
                (all_apart (IsApart (dated_history cuts history) id) (λ f number on. ap named on.0 ∙ is) (stream_on id incoming.streams).unordered) s.rows.unordered;
            next = reads_moved id false (stream_on id incoming.streams).next s.rows.next;
            last = reads_moved id true (stream_on id incoming.streams).last_unordered s.rows.last;
          };
          wait = waits_moved got id is places (stream_on id incoming.streams).waiting s.wait;
        }
    stream_moved id places true is s =
        subst (StreamHolds (dated_queued cuts' queued) (dated_history cuts' history) got base id places) (sym (clear id is))
        (empty places (subst (StreamHolds (dated_queued cuts queued) (dated_history cuts history) got base id places) (clear id is) s))
      where
        empty : (places : List ℕ) → StreamHolds (dated_queued cuts queued) (dated_history cuts history) got base id places (new_stream id) → StreamHolds (dated_queued cuts' queued) (dated_history cuts' history) got base id places (new_stream id)
        empty [] h = record { rows = record { is = refl; ordered = tt; unordered = tt; next = reads_moved id false (2 ^ 32) h.rows.next; last = reads_moved id true (2 ^ 32) h.rows.last }; wait = tt }
        empty (p ∷ places) h = absurd h.wait

    pub holds_moved : (index : ℕ) (ready : List MessageContent) → index + length ready ≤ total
        → HoldsAll (sent_messages (dated_queued cuts queued) (dated_history cuts history)) got base read (held_messages (λ id. stream_on id incoming.streams) incoming.unordered (dated_contents cuts index ready))
        → HoldsAll (sent_messages (dated_queued cuts' queued) (dated_history cuts' history)) got base read (held_messages (λ id. stream_on id incoming.streams) incoming.unordered (dated_contents cuts' index ready))
    holds_moved index ready low h =
        record {
          waits = h.waits;
          streams_hold = λ id. stream_moved id (h.waits id) (named id) refl (h.streams_hold id);
          rows = rows_moved got (unordered_base base) IsOfStream incoming.unordered (parts_apart incoming.unordered apart) h.rows;
          places = h.places;
          were_queued = were_moved index h.places ready low (λ place has. spent_sent got place (h.spent place (has_right place read h.places has))) h.were_queued;
          spent = λ place has. spent_moved got place (h.spent place has);
          once = h.once;
        }

    -- what was read was sent
    pub read_sent : (ready : List MessageContent) → HoldsAll (sent_messages (dated_queued cuts queued) (dated_history cuts history)) got base read (held_messages (λ id. stream_on id incoming.streams) incoming.unordered ready)
        → (place : ℕ) → HasEntry place read → IsSentAt history.log place
    read_sent ready h place has = spent_sent got place (h.spent place (has_left place read h.places has))
