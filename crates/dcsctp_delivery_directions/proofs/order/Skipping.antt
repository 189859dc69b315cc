-- What an I-FORWARD-TSN skips leaves streams in order.
use Rattle.std.proofs.Common.{◌≡◌, ◌≢◌, ◌==◌, ℕ, Bool, true, false, ◌<◌, ◌≤◌, ◌+◌, ◌^◌, List, [], ◌∷◌, ◌++◌, map, refl, sym, ◌∙◌, ap, arith, subst, inl, inr}
use Rattle.std.specs.Prelude.{◌⊎◌, nat_le, not, if◌then◌else◌}
use Rattle.std.specs.List.{filter}
use Rattle.std.proofs.lemmas.List.{append-nil}
use Rattle.std.proofs.lemmas.Bool.Decides.{eqb_tells}
use Rattle.dcsctp_spec_lemmas.specs.types.queues.Messages.{MessageContent}
use Rattle.dcsctp_spec_lemmas.specs.types.declared.arrivals.SkippedTo.{SkippedTo}
use Rattle.dcsctp_spec_lemmas.specs.types.declared.arrivals.SkippedTo.TheVariants.{Ssn, Mid}
use Rattle.dcsctp_spec_lemmas.specs.spec.queues.Numbers.{number_near, short_number_near}
use Rattle.dcsctp_spec_lemmas.specs.spec.queues.Runs.{RunModel, WholeModel, behind_place}
use Rattle.dcsctp_spec_lemmas.specs.spec.queues.IncomingStreams.{StreamModel, delivered_as, due, not_due, next_due, next_past, skipped_stream, stream_after_skip, skip_deliveries, is_number_waiting}
use Rattle.dcsctp_spec_lemmas.specs.spec.queues.Incoming.{IncomingModel, stream_on, skipped_on, stream_skipping, deliveries_of_skips, MovesOn}
use Rattle.dcsctp_delivery_directions.specs.sending.Places.{HasEntry, table_with}
use Rattle.dcsctp_delivery_directions.specs.sending.Log.{Message, Piece, History, IsLogOfPieces, sent_messages}
use Rattle.dcsctp_delivery_directions.specs.sending.Numbers.{IsUnambiguous}
use Rattle.dcsctp_delivery_directions.specs.receiving.Rows.{AreRows}
use Rattle.dcsctp_delivery_directions.specs.receiving.Ready.{IsOn, IsApart, IsOfStream, ReadsMids, ordered_base, unordered_base, NamesCurrent, StreamRows, AreDistinct, WereQueued, WaitQueued, StreamHolds, held_messages}
use Rattle.dcsctp_delivery_directions.proofs.sending.Places.{decide, set_same, set_other}
use Rattle.dcsctp_delivery_directions.proofs.receiving.Distinct.{has_left, has_either, appended, distinct_left, distinct_apart}
use Rattle.dcsctp_delivery_directions.proofs.receiving.Reading.{reads_moved, reads_past, reads_due}
use Rattle.dcsctp_delivery_directions.proofs.receiving.Waiting.{both_queued, wait_spent, split_due}
use Rattle.dcsctp_delivery_directions.specs.order.Rising.{DeliversRising}
use Rattle.dcsctp_delivery_directions.specs.order.Order.{IsReadAs, AreReadAs}
use Rattle.dcsctp_delivery_directions.specs.order.Reading.{CountsFromZero, IsInReach, OrderedStream, Watch, IsSince}
use Rattle.dcsctp_delivery_directions.specs.order.Epochs.{IsLimitedFrom}
use Rattle.dcsctp_delivery_directions.specs.order.Incoming.{IsOrderedOrReset, NoneIsQuiet, HoldsOrdered, IncomingOrdered}
use Rattle.dcsctp_delivery_directions.proofs.order.Rising.{skips_deliver_rising}
use Rattle.dcsctp_delivery_directions.proofs.order.Order.{order_then}
use Rattle.dcsctp_delivery_directions.proofs.order.Reading.{mids_are_read, mids_counted, skips_in_reach}
use Rattle.dcsctp_delivery_directions.proofs.order.Leaving.{others_where, one_stream, wait_on_it, split_ordered, LeavesOrder, none_left, alike_ordered}
use Rattle.dcsctp_delivery_directions.proofs.order.Separated.{separated_more, read_since}
use Rattle.dcsctp_delivery_directions.proofs.order.Epochs.{skip_by_epoch}
use Rattle.dcsctp_delivery_directions.specs.order.Parts.{HoldsParts}
use Rattle.dcsctp_delivery_directions.specs.order.Skips.{IsHandledBefore, AreSkipsHandled}
use Rattle.dcsctp_delivery_directions.proofs.order.SkippedParts.{due_contains, parts_skipped}
use Rattle.dcsctp_delivery_directions.proofs.order.Skipped.{skipped_waits}
use Rattle.dcsctp_delivery_directions.proofs.order.HeldParts.{parts_alike}

module _ (watch : ℕ → Watch) (queued : List Message) (history : History) (quiet : ℕ → Bool) (got : List ℕ) (base : ℕ) (read : List ℕ) where
  rows_filter : (from : ℕ → ℕ) (Named : Piece → ℕ → Type 0) (test : RunModel → Bool) (runs : List RunModel) → AreRows history.log got from Named runs → AreRows history.log got from Named (filter test runs)
  rows_filter from Named test [] are = tt
  rows_filter from Named test (r ∷ runs) are = go (test r) (rows_filter from Named test runs are.1)
    where
      go : (b : Bool) → AreRows history.log got from Named (filter test runs) → AreRows history.log got from Named (if b then r ∷ filter test runs else filter test runs)
      go true rest = (are.0, rest)
      go false rest = rest

  rows_behind : (from : ℕ → ℕ) (Named : Piece → ℕ → Type 0) (place : ℕ) (runs : List RunModel) → AreRows history.log got from Named runs → AreRows history.log got from Named (behind_place place runs)
  rows_behind from Named place [] are = tt
  rows_behind from Named place (r ∷ runs) are = go (nat_le r.first place) (rows_behind from Named place runs are.1)
    where
      go : (b : Bool) → AreRows history.log got from Named (behind_place place runs) → AreRows history.log got from Named (if b then behind_place place runs else r ∷ runs)
      go true rest = rest
      go false rest = are

  -- streams that are the same
  holds_same : (streams others : ℕ → StreamModel) (unordered : List RunModel) (ready : List MessageContent) → ((id : ℕ) → others id ≡ streams id) → HoldsOrdered watch (sent_messages queued history) quiet got base read (held_messages streams unordered ready)
      → HoldsOrdered watch (sent_messages queued history) quiet got base read (held_messages others unordered ready)
  holds_same streams others unordered ready same o =
      record {
        holds = record {
          waits = o.holds.waits;
          streams_hold = λ id. subst (λ (s : StreamModel). StreamHolds queued history got base id (o.holds.waits id) s) (sym (same id)) (o.holds.streams_hold id);
          rows = o.holds.rows;
          places = o.holds.places;
          were_queued = o.holds.were_queued;
          spent = o.holds.spent;
          once = o.holds.once;
        };
        order = λ id counts. subst (λ (s : StreamModel). IsOrderedOrReset (watch id) (quiet id) (sent_messages queued history) id (read ++ o.holds.places) (o.holds.waits id) s) (sym (same id)) (o.order id counts);
        within = o.within;
        parts = λ id counts loud. subst (λ (s : StreamModel). HoldsParts history got id s) (sym (same id)) (o.parts id counts loud);
      }

  -- one stream is left so
  holds_left : (id : ℕ) → quiet id ≡ false → (streams later : ℕ → StreamModel) (unordered : List RunModel) (ready after : List MessageContent) (o : HoldsOrdered watch (sent_messages queued history) quiet got base read (held_messages streams unordered ready))
      → StreamRows history got base id (later id) → ((other : ℕ) → other ≢ id → later other ≡ streams other)
      → LeavesOrder (watch id) queued history got (read ++ o.holds.places) o.holds.places id (later id) after
      → (CountsFromZero history id → HoldsParts history got id (later id)) → HoldsOrdered watch (sent_messages queued history) quiet got base read (held_messages later unordered after)
  holds_left id loud streams later unordered ready after o rows others leaves parts =
      record {
        holds = record {
          waits = table_with id leaves.waits o.holds.waits;
          streams_hold = λ other. elim (decide other id) [
            | inl e ↦
                subst (λ (k : ℕ). StreamHolds queued history got base k (table_with id leaves.waits o.holds.waits k) (later k)) (sym e)
                (subst (λ (l : List ℕ). StreamHolds queued history got base id l (later id)) (sym (set_same id leaves.waits o.holds.waits)) (record { rows = rows; wait = leaves.wait }))
            | inr ne ↦
                subst (λ (l : List ℕ). StreamHolds queued history got base other l (later other)) (sym (set_other id other leaves.waits o.holds.waits ne))
                (subst (λ (s : StreamModel). StreamHolds queued history got base other (o.holds.waits other) s) (sym (others other ne)) (o.holds.streams_hold other))
          ];
          rows = o.holds.rows;
          places = o.holds.places ++ leaves.more;
          were_queued = leaves.were;
          spent = λ q h. elim (has_either q (read ++ o.holds.places) leaves.more (subst (λ (l : List ℕ). HasEntry q l) (sym (appended read o.holds.places leaves.more)) h)) [
            | inl l ↦ o.holds.spent q l
            | inr r ↦ leaves.spent q r
          ];
          once = λ other. subst (λ (l : List ℕ). AreDistinct (l ++ table_with id leaves.waits o.holds.waits other)) (appended read o.holds.places leaves.more)
              (elim (decide other id) [
                | inl e ↦
                    subst (λ (l : List ℕ). AreDistinct (((read ++ o.holds.places) ++ leaves.more) ++ l)) (sym (ap (table_with id leaves.waits o.holds.waits) e ∙ set_same id leaves.waits o.holds.waits)) leaves.once
                | inr ne ↦
                    subst (λ (l : List ℕ). AreDistinct (((read ++ o.holds.places) ++ leaves.more) ++ l)) (sym (set_other id other leaves.waits o.holds.waits ne))
                    (distinct_apart (read ++ o.holds.places) leaves.more (o.holds.waits other) (distinct_left ((read ++ o.holds.places) ++ leaves.more) leaves.waits leaves.once) (o.holds.once other)
                    (λ q l r. ne (sym (one_stream queued id other q (leaves.on q l) (wait_on_it queued history got other q (o.holds.waits other) (streams other).waiting (o.holds.streams_hold other).wait r)))))
              ]);
        };
        order = λ other counts. elim (decide other id) [
          | inl e ↦
              subst (λ (k : ℕ). IsOrderedOrReset (watch k) (quiet k) (sent_messages queued history) k (read ++ (o.holds.places ++ leaves.more)) (table_with id leaves.waits o.holds.waits k) (later k)) (sym e)
              (subst (λ (l : List ℕ). IsOrderedOrReset (watch id) (quiet id) (sent_messages queued history) id (read ++ (o.holds.places ++ leaves.more)) l (later id)) (sym (set_same id leaves.waits o.holds.waits))
              (subst (λ (b : Bool). IsOrderedOrReset (watch id) b (sent_messages queued history) id (read ++ (o.holds.places ++ leaves.more)) leaves.waits (later id)) (sym loud)
              (subst (λ (l : List ℕ). OrderedStream (watch id) queued history id l leaves.waits (later id)) (appended read o.holds.places leaves.more) (leaves.order (subst (λ (k : ℕ). CountsFromZero history k) e counts)))))
          | inr ne ↦
              subst (λ (l : List ℕ). IsOrderedOrReset (watch other) (quiet other) (sent_messages queued history) other (read ++ (o.holds.places ++ leaves.more)) l (later other)) (sym (set_other id other leaves.waits o.holds.waits ne))
              (subst (λ (s : StreamModel). IsOrderedOrReset (watch other) (quiet other) (sent_messages queued history) other (read ++ (o.holds.places ++ leaves.more)) (o.holds.waits other) s) (sym (others other ne))
              (subst (λ (l : List ℕ). IsOrderedOrReset (watch other) (quiet other) (sent_messages queued history) other l (o.holds.waits other) (streams other)) (appended read o.holds.places leaves.more)
              (others_where (watch other) queued history (quiet other) other (read ++ o.holds.places) (o.holds.waits other) leaves.more (streams other)
              (λ place h is. ne (sym (one_stream queued id other place (leaves.on place h) (is.message, is.at, is.stream)))) (o.order other counts))))
        ];
        within = o.within;
        parts = λ other counts aloud. elim (decide other id) [
          | inl e ↦ subst (λ (k : ℕ). HoldsParts history got k (later k)) (sym e) (parts (subst (λ (k : ℕ). CountsFromZero history k) e counts))
          | inr ne ↦ subst (λ (s : StreamModel). HoldsParts history got other s) (sym (others other ne)) (o.parts other counts aloud)
        ];
      }

  -- the parts that are held are still, but for those of messages that are skipped
  skipped_parts : (passed : ℕ) (entry : SkippedTo) (all waits : List ℕ) (stream : StreamModel) → NamesCurrent history passed entry → CountsFromZero history (skipped_stream entry)
      → OrderedStream (watch (skipped_stream entry)) queued history (skipped_stream entry) all waits stream → HoldsParts history got (skipped_stream entry) stream → HoldsParts history got (skipped_stream entry) (stream_after_skip entry stream)
  skipped_parts passed (Ssn on ssn) all waits stream (skips, current) counts ordered p = absurd (let clash : true ≡ false = sym (counts.kinds skips.number skips.piece skips.at) ∙ skips.kind in cc)
  skipped_parts passed (Mid on false mid) all waits stream (skips, current) counts ordered p =
      let its : skips.piece.mid + 2 ^ 32 ≡ history.floors on.0 false + number_near stream.next mid =
      subst (λ (k : ℕ). skips.piece.mid + 2 ^ 32 ≡ history.floors on.0 false + number_near stream.next k) (sym skips.is)
      (mids_counted history on.0 skips.number skips.piece stream counts ordered.reach (record { at = skips.at; stream = sym skips.stream; ordered = sym skips.unordered; current = current })) in
      let few = counts.few skips.number skips.piece skips.at (sym skips.stream) (sym skips.unordered) in
      parts_skipped history got on.0 (number_near stream.next mid) stream (stream_after_skip (Mid on false mid) stream) (omega (arith, its, few)) refl refl refl ordered.order.ahead
      (skips_deliver_rising (Mid on false mid) stream [] ordered.order.ahead).rise p
  skipped_parts passed (Mid on true mid) all waits stream (skips, current) counts ordered p = parts_alike history got on.0 stream (stream_after_skip (Mid on true mid) stream) refl refl refl p

  -- what is due becomes ready
  leaves_due : (all places waits : List ℕ) (id next : ℕ) (stream new : StreamModel) (before : List MessageContent) → (CountsFromZero history id → (number : ℕ) → stream.next ≤ number → number < next → (is_number_waiting number stream.waiting ≡ true) ⊎ IsLimitedFrom (watch id).knows_all history id number) → new.next ≡ next_due next stream.waiting → StreamHolds queued history got base id waits stream → WereQueued queued places before → AreDistinct (all ++ waits)
      → new.waiting ≡ not_due next stream.waiting → (CountsFromZero history id → OrderedStream (watch id) queued history id all waits stream)
      → (CountsFromZero history id → DeliversRising stream before new (before ++ map (delivered_as stream.id) (due next stream.waiting)) (due next stream.waiting)) → (CountsFromZero history id → IsInReach new)
      → LeavesOrder (watch id) queued history got all places id new (before ++ map (delivered_as stream.id) (due next stream.waiting))
  leaves_due all places waits id next stream new before limited ends holds were once left ordered rises reach =
      let split = split_due queued history got id next waits stream.waiting holds.wait in
      record {
        more = split.front;
        waits = split.back;
        were = both_queued queued places split.front before (map (delivered_as stream.id) (due next stream.waiting)) were
            (subst (λ (k : ℕ). WereQueued queued split.front (map (delivered_as k) (due next stream.waiting))) (sym holds.rows.is) split.due_queued);
        wait = subst (λ (l : List WholeModel). WaitQueued queued history got id split.back l) (sym left) split.left_queued;
        once = subst (λ (l : List ℕ). AreDistinct l) (sym (appended all split.front split.back)) (subst (λ (l : List ℕ). AreDistinct (all ++ l)) split.parts once);
        on = λ q h. wait_on_it queued history got id q waits stream.waiting holds.wait (subst (λ (l : List ℕ). HasEntry q l) (sym split.parts) (has_left q split.front split.back h));
        spent = λ q h. wait_spent queued history got id q waits stream.waiting holds.wait (subst (λ (l : List ℕ). HasEntry q l) (sym split.parts) (has_left q split.front split.back h));
        order = λ counts. (
            let halves = split_ordered queued history got id next waits stream.waiting split (ordered counts).order.waiting in
            record {
              order = order_then queued history id all waits split.front split.back stream new before (before ++ map (delivered_as stream.id) (due next stream.waiting)) (due next stream.waiting) counts.follows (ordered counts).order (rises counts)
                  halves.0 (subst (λ (l : List WholeModel). AreReadAs history id split.back l) (sym left) halves.1);
              reach = reach counts;
              by_epoch = skip_by_epoch (watch id).knows_all (watch id).asks queued history id stream.next next new.next (stream.next + 1) all split.front stream.waiting (ordered counts).order.ahead ends halves.0 (rises counts).rise (ordered counts).reach.from
                  (λ number low less. elim (limited counts number low less) [
                    | inl waits' ↦ inl (due_contains history id (stream.next + 1) next number split.front stream.waiting (ordered counts).order.ahead halves.0 waits' (omega (arith, less)))
                    | inr is ↦ inr is
                  ]) (ordered counts).by_epoch;
              separated = separated_more queued id (watch id).knows_all (watch id).asks (watch id).cuts all split.front
                  (read_since history id (watch id).cuts (ordered counts).since stream.next new.next split.front (due next stream.waiting) (ordered counts).reach.from halves.0 (rises counts).rise) (ordered counts).separated;
              since = (ordered counts).since;
            }
            );
      }

  skipped_leaves : IsLogOfPieces queued history.log → IsUnambiguous history → (passed : ℕ) (all places waits : List ℕ) (entry : SkippedTo) (stream : StreamModel) (before : List MessageContent) → (names : NamesCurrent history passed entry) → IsHandledBefore watch history got passed entry names
      → (CountsFromZero history (skipped_stream entry) → HoldsParts history got (skipped_stream entry) stream) → StreamHolds queued history got base (skipped_stream entry) waits stream
      → WereQueued queued places before → AreDistinct (all ++ waits) → (CountsFromZero history (skipped_stream entry) → OrderedStream (watch (skipped_stream entry)) queued history (skipped_stream entry) all waits stream)
      → LeavesOrder (watch (skipped_stream entry)) queued history got all places (skipped_stream entry) (stream_after_skip entry stream) (before ++ skip_deliveries entry stream)
  skipped_leaves cut told passed all places waits (Ssn on ssn) stream before (skips, current) handled parts holds were once ordered =
      leaves_due all places waits on.0 (next_past (short_number_near stream.next ssn) stream.next) stream (stream_after_skip (Ssn on ssn) stream) before
      (λ counts. absurd (let clash : true ≡ false = sym (counts.kinds skips.number skips.piece skips.at) ∙ skips.kind in cc)) refl holds were once refl ordered
      (λ counts. skips_deliver_rising (Ssn on ssn) stream before (ordered counts).order.ahead)
      (λ counts. absurd (let clash : true ≡ false = sym (counts.kinds skips.number skips.piece skips.at) ∙ skips.kind in cc))
  skipped_leaves cut told passed all places waits (Mid on false mid) stream before (skips, current) handled parts holds were once ordered =
      leaves_due all places waits on.0 (next_past (number_near stream.next mid) stream.next) stream (stream_after_skip (Mid on false mid) stream) before
      (λ counts number low less. by_known (watch on.0).knows_all refl counts number low
      (let last = up_to (number_near stream.next mid) stream.next number low less in let counted = last_counted counts in omega (arith, last, counted)))
      refl holds were once refl ordered
      (λ counts. skips_deliver_rising (Mid on false mid) stream before (ordered counts).order.ahead)
      (λ counts. skips_in_reach queued history on.0 skips.piece.place mid all waits on stream counts (ordered counts).order
      (subst (λ (k : ℕ). IsReadAs history on.0 skips.piece.place (number_near stream.next k)) (sym skips.is) (mids_are_read history on.0 skips.number skips.piece stream counts (ordered counts).reach named))
      (ordered counts).reach)
    where
      named : IsSince history on.0 skips.number skips.piece
      named = record { at = skips.at; stream = sym skips.stream; ordered = sym skips.unordered; current = current }

      by_known : (b : Bool) → (watch on.0).knows_all ≡ b → CountsFromZero history on.0 → (number : ℕ) → stream.next ≤ number → history.floors on.0 false + number ≤ skips.piece.mid + 2 ^ 32
          → (is_number_waiting number stream.waiting ≡ true) ⊎ IsLimitedFrom (watch on.0).knows_all history on.0 number
      by_known true known counts number low below =
          subst (λ (c : Bool). (is_number_waiting number stream.waiting ≡ true) ⊎ IsLimitedFrom c history on.0 number) (sym known)
          (skipped_waits queued history cut told on.0 counts got (ordered_base base) stream holds.rows.ordered (parts counts) number low (let reach = (ordered counts).reach.from in omega (arith, low, reach))
          skips.number skips.piece skips.at (sym skips.stream) (sym skips.unordered) skips.limited below (handled known))
      by_known false unknown counts number low below =
          inr
          (record {
            offset = skips.number;
            piece = skips.piece;
            at = skips.at;
            stream = sym skips.stream;
            ordered = sym skips.unordered;
            limited = skips.limited;
            from = below;
            only = λ known. absurd (let clash : true ≡ false = sym known ∙ unknown in cc);
          })

      -- the number of the message that it names
      last_counted : CountsFromZero history on.0 → skips.piece.mid + 2 ^ 32 ≡ history.floors on.0 false + number_near stream.next mid
      last_counted counts = subst (λ (k : ℕ). skips.piece.mid + 2 ^ 32 ≡ history.floors on.0 false + number_near stream.next k) (sym skips.is) (mids_counted history on.0 skips.number skips.piece stream counts (ordered counts).reach named)

      up_to : (last next number : ℕ) → next ≤ number → number < next_past last next → number ≤ last
      up_to last next number low less = omega (arith, low, less)
  skipped_leaves cut told passed all places waits (Mid on true mid) stream before (skips, current) handled parts holds were once ordered =
      none_left (watch on.0) queued history got all places waits on.0 (stream_after_skip (Mid on true mid) stream) before (before ++ []) were holds.wait once (append-nil before)
      (λ counts. subst (λ (l : List ℕ). OrderedStream (watch on.0) queued history on.0 l waits (stream_after_skip (Mid on true mid) stream)) (sym (append-nil all))
      (alike_ordered (watch on.0) queued history on.0 all waits stream (stream_after_skip (Mid on true mid) stream) refl refl (ordered counts)))

  skipped_rows : (passed : ℕ) (entry : SkippedTo) (waits : List ℕ) (stream : StreamModel) → NamesCurrent history passed entry → StreamHolds queued history got base (skipped_stream entry) waits stream → StreamRows history got base (skipped_stream entry) (stream_after_skip entry stream)
  skipped_rows passed (Ssn id ssn) waits stream (skips, current) holds =
      record {
        is = holds.rows.is;
        ordered = rows_filter (ordered_base base) (IsOn history id.0) (λ run. not (nat_le run.number (short_number_near stream.next ssn))) stream.ordered holds.rows.ordered;
        unordered = holds.rows.unordered;
        next = λ start w. absurd (let clash : true ≡ false = sym (w.kinds skips.number skips.piece skips.at) ∙ skips.kind in cc);
        last = holds.rows.last;
      }
  skipped_rows passed (Mid id false mid) waits stream (skips, current) holds =
      record {
        is = holds.rows.is;
        ordered = rows_filter (ordered_base base) (IsOn history id.0) (λ run. not (nat_le run.number (number_near stream.next mid))) stream.ordered holds.rows.ordered;
        unordered = holds.rows.unordered;
        next = reads_due queued history got id.0 (next_past (number_near stream.next mid) stream.next) waits stream.waiting holds.wait
            (subst (λ (k : ℕ). ReadsMids history id.0 false (next_past (number_near stream.next k) stream.next)) (sym skips.is) (reads_past history id.0 false skips.number skips.piece skips.at (sym skips.stream) (sym skips.unordered) current stream.next holds.rows.next));
        last = holds.rows.last;
      }
  skipped_rows passed (Mid id true mid) waits stream (skips, current) holds =
      record {
        is = holds.rows.is;
        ordered = holds.rows.ordered;
        unordered = rows_filter (ordered_base base) (IsApart history id.0) (λ run. not (nat_le run.number (number_near stream.last_unordered mid))) stream.unordered holds.rows.unordered;
        next = holds.rows.next;
        last = subst (λ (k : ℕ). ReadsMids history id.0 true (number_near stream.last_unordered k)) (sym skips.is) (reads_moved history id.0 true skips.number skips.piece skips.at (sym skips.stream) (sym skips.unordered) current stream.last_unordered holds.rows.last);
      }

  pub on_itself : (entry : SkippedTo) (stream : StreamModel) → skipped_on entry (skipped_stream entry) stream ≡ stream_after_skip entry stream
  on_itself entry stream = go (skipped_stream entry == skipped_stream entry) (elim (eqb_tells (skipped_stream entry) (skipped_stream entry)) [ inl e ↦ e.0 | inr e ↦ absurd (e.1 refl) ])
    where
      go : (b : Bool) → b ≡ true → (if b then stream_after_skip entry stream else stream) ≡ stream_after_skip entry stream
      go true e = refl
      go false e = absurd (cc)

  pub on_others : (entry : SkippedTo) (other : ℕ) (stream : StreamModel) → other ≢ skipped_stream entry → skipped_on entry other stream ≡ stream
  on_others entry other stream ne = go (skipped_stream entry == other) (elim (eqb_tells (skipped_stream entry) other) [ inl e ↦ absurd (ne (sym e.1)) | inr e ↦ e.0 ])
    where
      go : (b : Bool) → b ≡ false → (if b then stream_after_skip entry stream else stream) ≡ stream
      go true e = absurd (cc)
      go false e = refl

  pub one_skipped : IsLogOfPieces queued history.log → IsUnambiguous history → (passed : ℕ) (entry : SkippedTo) (streams : ℕ → StreamModel) (unordered : List RunModel) (ready : List MessageContent) → HoldsOrdered watch (sent_messages queued history) quiet got base read (held_messages streams unordered ready)
      → quiet (skipped_stream entry) ≡ false → (names : NamesCurrent history passed entry) → IsHandledBefore watch history got passed entry names → HoldsOrdered watch (sent_messages queued history) quiet got base read (held_messages (λ id. skipped_on entry id (streams id)) unordered (ready ++ skip_deliveries entry (streams (skipped_stream entry))))
  one_skipped cut told passed entry streams unordered ready o loud names handled =
      let id : ℕ = skipped_stream entry in
      let here : StreamHolds queued history got base id (o.holds.waits id) (streams id) = o.holds.streams_hold id in
      let is = on_itself entry (streams id) in
      holds_left id loud streams (λ other. skipped_on entry other (streams other)) unordered ready (ready ++ skip_deliveries entry (streams id)) o
      (subst (λ (s : StreamModel). StreamRows history got base id s) (sym is) (skipped_rows passed entry (o.holds.waits id) (streams id) names here))
      (λ other ne. on_others entry other (streams other) ne)
      (subst (λ (s : StreamModel). LeavesOrder (watch id) queued history got (read ++ o.holds.places) o.holds.places id s (ready ++ skip_deliveries entry (streams id))) (sym is)
      (skipped_leaves cut told passed (read ++ o.holds.places) o.holds.places (o.holds.waits id) entry (streams id) ready names handled (λ counts. o.parts id counts loud) here o.holds.were_queued (o.holds.once id)
      (λ counts. subst (λ (b : Bool). IsOrderedOrReset (watch id) b (sent_messages queued history) id (read ++ o.holds.places) (o.holds.waits id) (streams id)) loud (o.order id counts))))
      (λ counts. subst (λ (s : StreamModel). HoldsParts history got id s) (sym is)
      (skipped_parts passed entry (read ++ o.holds.places) (o.holds.waits id) (streams id) names counts
      (subst (λ (b : Bool). IsOrderedOrReset (watch id) b (sent_messages queued history) id (read ++ o.holds.places) (o.holds.waits id) (streams id)) loud (o.order id counts)) (o.parts id counts loud)))

  all_skipped : IsLogOfPieces queued history.log → IsUnambiguous history → (entries : List SkippedTo) (streams : ℕ → StreamModel) (unordered : List RunModel) (ready : List MessageContent) → HoldsOrdered watch (sent_messages queued history) quiet got base read (held_messages streams unordered ready)
      → AreSkipsHandled watch history got entries → NoneIsQuiet quiet entries → HoldsOrdered watch (sent_messages queued history) quiet got base read (held_messages (λ id. stream_skipping entries id (streams id)) unordered (ready ++ deliveries_of_skips entries streams))
  all_skipped cut told [] streams unordered ready holds names loud = subst (λ (l : List MessageContent). HoldsOrdered watch (sent_messages queued history) quiet got base read (held_messages streams unordered l)) (sym (append-nil ready)) holds
  all_skipped cut told (entry ∷ entries) streams unordered ready holds names loud =
      subst (λ (l : List MessageContent). HoldsOrdered watch (sent_messages queued history) quiet got base read (held_messages (λ id. stream_skipping (entry ∷ entries) id (streams id)) unordered l))
      (messages_appended ready (skip_deliveries entry (streams (skipped_stream entry))) (deliveries_of_skips entries (λ id. skipped_on entry id (streams id))))
      (all_skipped cut told entries (λ id. skipped_on entry id (streams id)) unordered (ready ++ skip_deliveries entry (streams (skipped_stream entry))) (one_skipped cut told names.0.0 entry streams unordered ready holds loud.0 names.0.1 names.0.2) names.1 loud.1)
    where
      messages_appended : (xs ys zs : List MessageContent) → (xs ++ ys) ++ zs ≡ xs ++ (ys ++ zs)
      messages_appended [] ys zs = refl
      messages_appended (x ∷ xs) ys zs = ap (λ (l : List MessageContent). x ∷ l) (messages_appended xs ys zs)

  -- the runs of unordered messages are others
  apart_rows : (streams : ℕ → StreamModel) (unordered others : List RunModel) (ready : List MessageContent) → HoldsOrdered watch (sent_messages queued history) quiet got base read (held_messages streams unordered ready) → AreRows history.log got (unordered_base base) IsOfStream others
      → HoldsOrdered watch (sent_messages queued history) quiet got base read (held_messages streams others ready)
  apart_rows streams unordered others ready holds rows =
      record {
        holds = record { waits = holds.holds.waits; streams_hold = holds.holds.streams_hold; rows = rows; places = holds.holds.places; were_queued = holds.holds.were_queued; spent = holds.holds.spent; once = holds.holds.once };
        order = holds.order;
        within = holds.within;
        parts = holds.parts;
      }

  pub skipping_in_order : (tsn : ℕ) (entries : List SkippedTo) (old new : IncomingModel) → IsLogOfPieces queued history.log → IsUnambiguous history → AreSkipsHandled watch history got entries → NoneIsQuiet quiet entries → IncomingOrdered watch (sent_messages queued history) quiet got base read old → MovesOn tsn entries old new → IncomingOrdered watch (sent_messages queued history) quiet got base read new
  skipping_in_order tsn entries old new cut told names loud holds moves =
      let skipped_all = all_skipped cut told entries (λ id. stream_on id old.streams) old.unordered old.ready holds names loud in
      let rows : AreRows history.log got (unordered_base base) IsOfStream new.unordered = subst (λ (l : List RunModel). AreRows history.log got (unordered_base base) IsOfStream l) (sym moves.unordered) (rows_behind (unordered_base base) IsOfStream (number_near old.last_tsn_number tsn) old.unordered holds.holds.rows) in
      subst (λ (l : List MessageContent). HoldsOrdered watch (sent_messages queued history) quiet got base read (held_messages (λ id. stream_on id new.streams) new.unordered l)) (sym moves.ready)
      (apart_rows (λ id. stream_on id new.streams) old.unordered new.unordered (old.ready ++ deliveries_of_skips entries (λ id. stream_on id old.streams))
      (holds_same (λ id. stream_skipping entries id (stream_on id old.streams)) (λ id. stream_on id new.streams) old.unordered (old.ready ++ deliveries_of_skips entries (λ id. stream_on id old.streams)) moves.streams skipped_all) rows)
