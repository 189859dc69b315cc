-- What a FORWARD-TSN or I-FORWARD-TSN skips, and streams that are reset.
use Rattle.std.proofs.Common.{◌≡◌, ◌≢◌, ◌==◌, ℕ, Bool, true, false, List, [], ◌∷◌, ◌++◌, map, refl, sym, ◌∙◌, ap, subst, inl, inr}
use Rattle.std.specs.Prelude.{◌⊎◌, nat_le, not, if◌then◌else◌}
use Rattle.std.specs.List.{filter}
use Rattle.std.proofs.lemmas.List.{append-nil}
use Rattle.std.proofs.lemmas.Bool.Decides.{eqb_tells}
use Rattle.dcsctp_spec_lemmas.specs.types.queues.Messages.{MessageContent}
use Rattle.dcsctp_spec_lemmas.specs.types.declared.arrivals.SkippedTo.{SkippedTo}
use Rattle.dcsctp_spec_lemmas.specs.types.declared.arrivals.SkippedTo.TheVariants.{Ssn, Mid}
use Rattle.dcsctp_spec_lemmas.specs.spec.queues.Numbers.{number_near, short_number_near}
use Rattle.dcsctp_spec_lemmas.specs.spec.queues.Runs.{RunModel, WholeModel, behind_place}
use Rattle.dcsctp_spec_lemmas.specs.spec.queues.IncomingStreams.{StreamModel, new_stream, delivered_as, due, next_past, skipped_stream, stream_after_skip, skip_deliveries}
use Rattle.dcsctp_spec_lemmas.specs.spec.queues.Incoming.{IncomingModel, stream_on, skipped_on, stream_skipping, deliveries_of_skips, MovesOn, is_named, ResetsStreams}
use Rattle.dcsctp_delivery_directions.specs.sending.Places.{HasEntry, table_with}
use Rattle.dcsctp_delivery_directions.specs.sending.Log.{Message, Piece, History, sent_messages}
use Rattle.dcsctp_delivery_directions.specs.receiving.Rows.{AreRows}
use Rattle.dcsctp_delivery_directions.specs.receiving.Ready.{IsOn, IsApart, IsOfStream, fresh, ReadsMids, ordered_base, unordered_base, NamesCurrent, AreNamed, StreamRows, AreDistinct, WereQueued, StreamHolds, HoldsAll, HoldsIncoming, held_messages}
use Rattle.dcsctp_delivery_directions.proofs.sending.Places.{decide, set_same, set_other}
use Rattle.dcsctp_delivery_directions.proofs.receiving.Distinct.{has_left, has_either, appended, distinct_left, distinct_apart, distinct_front}
use Rattle.dcsctp_delivery_directions.proofs.receiving.Reading.{reads_moved, reads_past, reads_due}
use Rattle.dcsctp_delivery_directions.proofs.receiving.Waiting.{HoldsBeside, its_message, both_queued, other_streams, wait_on_stream, wait_spent, Split, split_due, Leaves, leaves_none}

-- a stream on which nothing was received
pub new_rows : (history : History) (got : List ℕ) (base id : ℕ) → StreamRows history got base id (new_stream id)
new_rows history got base id = record { is = refl; ordered = tt; unordered = tt; next = λ start w. fresh refl; last = λ start w. fresh refl }

-- A FORWARD-TSN has an entry for the stream.
abbrev pub IsSkipped : List SkippedTo → ℕ → Type 0
IsSkipped [] id = ⊥
IsSkipped (entry ∷ entries) id = (id ≡ skipped_stream entry) ⊎ IsSkipped entries id

module _ (queued : List Message) (history : History) (got : List ℕ) (base : ℕ) (read : List ℕ) where
  pub rows_filter : (from : ℕ → ℕ) (Named : Piece → ℕ → Type 0) (test : RunModel → Bool) (runs : List RunModel) → AreRows history.log got from Named runs → AreRows history.log got from Named (filter test runs)
  rows_filter from Named test [] are = tt
  rows_filter from Named test (r ∷ runs) are = go (test r) (rows_filter from Named test runs are.1)
    where
      go : (b : Bool) → AreRows history.log got from Named (filter test runs) → AreRows history.log got from Named (if b then r ∷ filter test runs else filter test runs)
      go true rest = (are.0, rest)
      go false rest = rest

  rows_behind : (from : ℕ → ℕ) (Named : Piece → ℕ → Type 0) (place : ℕ) (runs : List RunModel) → AreRows history.log got from Named runs → AreRows history.log got from Named (behind_place place runs)
  rows_behind from Named place [] are = tt
  rows_behind from Named place (r ∷ runs) are = go (nat_le r.first place) (rows_behind from Named place runs are.1)
    where
      go : (b : Bool) → AreRows history.log got from Named (behind_place place runs) → AreRows history.log got from Named (if b then behind_place place runs else r ∷ runs)
      go true rest = rest
      go false rest = are

  -- one stream is left so
  holds_left : (id : ℕ) (streams later : ℕ → StreamModel) (unordered : List RunModel) (ready after : List MessageContent) (holds : HoldsAll (sent_messages queued history) got base read (held_messages streams unordered ready))
      → StreamRows history got base id (later id) → ((other : ℕ) → other ≢ id → later other ≡ streams other)
      → Leaves queued history got (read ++ holds.places) holds.places id (later id).waiting after → HoldsBeside queued history got base read (λ other. other ≡ id) holds.waits holds.places later unordered after
  holds_left id streams later unordered ready after holds rows others leaves =
      record {
        holds = record {
          waits = table_with id leaves.waits holds.waits;
          streams_hold = λ other. elim (decide other id) [
            | inl e ↦
                subst (λ (k : ℕ). StreamHolds queued history got base k (table_with id leaves.waits holds.waits k) (later k)) (sym e)
                (subst (λ (l : List ℕ). StreamHolds queued history got base id l (later id)) (sym (set_same id leaves.waits holds.waits)) (record { rows = rows; wait = leaves.wait }))
            | inr ne ↦
                subst (λ (l : List ℕ). StreamHolds queued history got base other l (later other)) (sym (set_other id other leaves.waits holds.waits ne))
                (subst (λ (s : StreamModel). StreamHolds queued history got base other (holds.waits other) s) (sym (others other ne)) (holds.streams_hold other))
          ];
          rows = holds.rows;
          places = holds.places ++ leaves.more;
          were_queued = leaves.were;
          spent = λ q h. elim (has_either q (read ++ holds.places) leaves.more (subst (λ (l : List ℕ). HasEntry q l) (sym (appended read holds.places leaves.more)) h)) [
            | inl l ↦ holds.spent q l
            | inr r ↦ leaves.spent q r
          ];
          once = λ other. subst (λ (l : List ℕ). AreDistinct (l ++ table_with id leaves.waits holds.waits other)) (appended read holds.places leaves.more)
              (elim (decide other id) [
                | inl e ↦
                    subst (λ (l : List ℕ). AreDistinct (((read ++ holds.places) ++ leaves.more) ++ l)) (sym (ap (table_with id leaves.waits holds.waits) e ∙ set_same id leaves.waits holds.waits)) leaves.once
                | inr ne ↦
                    subst (λ (l : List ℕ). AreDistinct (((read ++ holds.places) ++ leaves.more) ++ l)) (sym (set_other id other leaves.waits holds.waits ne))
                    (distinct_apart (read ++ holds.places) leaves.more (holds.waits other) (distinct_left ((read ++ holds.places) ++ leaves.more) leaves.waits leaves.once) (holds.once other)
                    (λ q l r. other_streams queued id other q (leaves.on q l) (wait_on_stream queued history got other q (holds.waits other) (streams other).waiting (holds.streams_hold other).wait r) (λ same'. ne (sym same'))))
              ]);
        };
        more = leaves.more;
        places_are = refl;
        on = λ q h. (id, refl, its_message queued id q (leaves.on q h));
        others = λ other ne. set_other id other leaves.waits holds.waits ne;
      }

  -- what is due becomes ready
  leaves_due : (all places waits : List ℕ) (id next : ℕ) (stream : StreamModel) (before : List MessageContent) → StreamHolds queued history got base id waits stream → WereQueued queued places before → AreDistinct (all ++ waits)
      → (left : List WholeModel) (split : Split queued history got id waits (due next stream.waiting) left) → Leaves queued history got all places id left (before ++ map (delivered_as stream.id) (due next stream.waiting))
  leaves_due all places waits id next stream before holds were once left split =
      record {
        more = split.front;
        waits = split.back;
        were = both_queued queued places split.front before (map (delivered_as stream.id) (due next stream.waiting)) were
            (subst (λ (k : ℕ). WereQueued queued split.front (map (delivered_as k) (due next stream.waiting))) (sym holds.rows.is) split.due_queued);
        wait = split.left_queued;
        once = subst (λ (l : List ℕ). AreDistinct l) (sym (appended all split.front split.back)) (subst (λ (l : List ℕ). AreDistinct (all ++ l)) split.parts once);
        on = λ q h. wait_on_stream queued history got id q waits stream.waiting holds.wait (subst (λ (l : List ℕ). HasEntry q l) (sym split.parts) (has_left q split.front split.back h));
        spent = λ q h. wait_spent queued history got id q waits stream.waiting holds.wait (subst (λ (l : List ℕ). HasEntry q l) (sym split.parts) (has_left q split.front split.back h));
      }

  skipped_leaves : (all places waits : List ℕ) (id : ℕ) (entry : SkippedTo) (stream : StreamModel) (before : List MessageContent) → StreamHolds queued history got base id waits stream → WereQueued queued places before → AreDistinct (all ++ waits)
      → Leaves queued history got all places id (stream_after_skip entry stream).waiting (before ++ skip_deliveries entry stream)
  skipped_leaves all places waits id (Ssn on ssn) stream before holds were once =
      leaves_due all places waits id (next_past (short_number_near stream.next ssn) stream.next) stream before holds were once _
      (split_due queued history got id (next_past (short_number_near stream.next ssn) stream.next) waits stream.waiting holds.wait)
  skipped_leaves all places waits id (Mid on false mid) stream before holds were once =
      leaves_due all places waits id (next_past (number_near stream.next mid) stream.next) stream before holds were once _
      (split_due queued history got id (next_past (number_near stream.next mid) stream.next) waits stream.waiting holds.wait)
  skipped_leaves all places waits id (Mid on true mid) stream before holds were once =
      leaves_none queued history got all places waits id stream.waiting before (before ++ []) were holds.wait once (append-nil before)

  skipped_rows : (passed : ℕ) (entry : SkippedTo) (waits : List ℕ) (stream : StreamModel) → NamesCurrent history passed entry → StreamHolds queued history got base (skipped_stream entry) waits stream → StreamRows history got base (skipped_stream entry) (stream_after_skip entry stream)
  skipped_rows passed (Ssn id ssn) waits stream (skips, current) holds =
      record {
        is = holds.rows.is;
        ordered = rows_filter (ordered_base base) (IsOn history id.0) (λ run. not (nat_le run.number (short_number_near stream.next ssn))) stream.ordered holds.rows.ordered;
        unordered = holds.rows.unordered;
        next = λ start w. absurd (let clash : true ≡ false = sym (w.kinds skips.number skips.piece skips.at) ∙ skips.kind in cc);
        last = holds.rows.last;
      }
  skipped_rows passed (Mid id false mid) waits stream (skips, current) holds =
      record {
        is = holds.rows.is;
        ordered = rows_filter (ordered_base base) (IsOn history id.0) (λ run. not (nat_le run.number (number_near stream.next mid))) stream.ordered holds.rows.ordered;
        unordered = holds.rows.unordered;
        next = reads_due queued history got id.0 (next_past (number_near stream.next mid) stream.next) waits stream.waiting holds.wait
            (subst (λ (k : ℕ). ReadsMids history id.0 false (next_past (number_near stream.next k) stream.next)) (sym skips.is) (reads_past history id.0 false skips.number skips.piece skips.at (sym skips.stream) (sym skips.unordered) current stream.next holds.rows.next));
        last = holds.rows.last;
      }
  skipped_rows passed (Mid id true mid) waits stream (skips, current) holds =
      record {
        is = holds.rows.is;
        ordered = holds.rows.ordered;
        unordered = rows_filter (ordered_base base) (IsApart history id.0) (λ run. not (nat_le run.number (number_near stream.last_unordered mid))) stream.unordered holds.rows.unordered;
        next = holds.rows.next;
        last = subst (λ (k : ℕ). ReadsMids history id.0 true (number_near stream.last_unordered k)) (sym skips.is) (reads_moved history id.0 true skips.number skips.piece skips.at (sym skips.stream) (sym skips.unordered) current stream.last_unordered holds.rows.last);
      }

  on_itself : (entry : SkippedTo) (stream : StreamModel) → skipped_on entry (skipped_stream entry) stream ≡ stream_after_skip entry stream
  on_itself entry stream = go (skipped_stream entry == skipped_stream entry) (elim (eqb_tells (skipped_stream entry) (skipped_stream entry)) [ inl e ↦ e.0 | inr e ↦ absurd (e.1 refl) ])
    where
      go : (b : Bool) → b ≡ true → (if b then stream_after_skip entry stream else stream) ≡ stream_after_skip entry stream
      go true e = refl
      go false e = absurd (cc)

  on_others : (entry : SkippedTo) (other : ℕ) (stream : StreamModel) → other ≢ skipped_stream entry → skipped_on entry other stream ≡ stream
  on_others entry other stream ne = go (skipped_stream entry == other) (elim (eqb_tells (skipped_stream entry) other) [ inl e ↦ absurd (ne (sym e.1)) | inr e ↦ e.0 ])
    where
      go : (b : Bool) → b ≡ false → (if b then stream_after_skip entry stream else stream) ≡ stream
      go true e = absurd (cc)
      go false e = refl

  one_skipped : (passed : ℕ) (entry : SkippedTo) (streams : ℕ → StreamModel) (unordered : List RunModel) (ready : List MessageContent) (holds : HoldsAll (sent_messages queued history) got base read (held_messages streams unordered ready))
      → NamesCurrent history passed entry → HoldsBeside queued history got base read (λ other. other ≡ skipped_stream entry) holds.waits holds.places (λ id. skipped_on entry id (streams id)) unordered (ready ++ skip_deliveries entry (streams (skipped_stream entry)))
  one_skipped passed entry streams unordered ready holds names =
      let id : ℕ = skipped_stream entry in
      let here : StreamHolds queued history got base id (holds.waits id) (streams id) = holds.streams_hold id in
      let is = on_itself entry (streams id) in
      holds_left id streams (λ other. skipped_on entry other (streams other)) unordered ready (ready ++ skip_deliveries entry (streams id)) holds
      (subst (λ (s : StreamModel). StreamRows history got base id s) (sym is) (skipped_rows passed entry (holds.waits id) (streams id) names here))
      (λ other ne. on_others entry other (streams other) ne)
      (subst (λ (s : StreamModel). Leaves queued history got (read ++ holds.places) holds.places id s.waiting (ready ++ skip_deliveries entry (streams id))) (sym is)
      (skipped_leaves (read ++ holds.places) holds.places (holds.waits id) id entry (streams id) ready here holds.were_queued (holds.once id)))

  nothing_beside : (Named : ℕ → Type 0) (streams : ℕ → StreamModel) (unordered : List RunModel) (ready : List MessageContent) (holds : HoldsAll (sent_messages queued history) got base read (held_messages streams unordered ready))
      → HoldsBeside queued history got base read Named holds.waits holds.places streams unordered ready
  nothing_beside Named streams unordered ready holds =
      record { holds = holds; more = []; places_are = sym (append-nil holds.places); on = λ q h. absurd h; others = λ other ne. refl }

  all_skipped : (entries : List SkippedTo) (streams : ℕ → StreamModel) (unordered : List RunModel) (ready : List MessageContent) (holds : HoldsAll (sent_messages queued history) got base read (held_messages streams unordered ready))
      → AreNamed history entries → HoldsBeside queued history got base read (IsSkipped entries) holds.waits holds.places (λ id. stream_skipping entries id (streams id)) unordered (ready ++ deliveries_of_skips entries streams)
  all_skipped [] streams unordered ready holds names =
      subst (λ (l : List MessageContent). HoldsBeside queued history got base read (IsSkipped []) holds.waits holds.places streams unordered l) (sym (append-nil ready)) (nothing_beside (IsSkipped []) streams unordered ready holds)
  all_skipped (entry ∷ entries) streams unordered ready holds names =
      subst (λ (l : List MessageContent). HoldsBeside queued history got base read (IsSkipped (entry ∷ entries)) holds.waits holds.places (λ id. stream_skipping (entry ∷ entries) id (streams id)) unordered l)
      (messages_appended ready (skip_deliveries entry (streams (skipped_stream entry))) (deliveries_of_skips entries (λ id. skipped_on entry id (streams id))))
      (joined one (all_skipped entries (λ id. skipped_on entry id (streams id)) unordered (ready ++ skip_deliveries entry (streams (skipped_stream entry))) one.holds names.1))
    where
      one : HoldsBeside queued history got base read (λ other. other ≡ skipped_stream entry) holds.waits holds.places (λ id. skipped_on entry id (streams id)) unordered (ready ++ skip_deliveries entry (streams (skipped_stream entry)))
      one = one_skipped names.0.0 entry streams unordered ready holds names.0.1

      joined : (first : HoldsBeside queued history got base read (λ other. other ≡ skipped_stream entry) holds.waits holds.places (λ id. skipped_on entry id (streams id)) unordered (ready ++ skip_deliveries entry (streams (skipped_stream entry))))
          → HoldsBeside queued history got base read (IsSkipped entries) first.holds.waits first.holds.places (λ id. stream_skipping entries id (skipped_on entry id (streams id))) unordered
          ((ready ++ skip_deliveries entry (streams (skipped_stream entry))) ++ deliveries_of_skips entries (λ id. skipped_on entry id (streams id)))
          → HoldsBeside queued history got base read (IsSkipped (entry ∷ entries)) holds.waits holds.places (λ id. stream_skipping entries id (skipped_on entry id (streams id))) unordered
          ((ready ++ skip_deliveries entry (streams (skipped_stream entry))) ++ deliveries_of_skips entries (λ id. skipped_on entry id (streams id)))
      joined first second =
          record {
            holds = second.holds;
            more = first.more ++ second.more;
            places_are = second.places_are ∙ ap (λ (l : List ℕ). l ++ second.more) first.places_are ∙ appended holds.places first.more second.more;
            on = λ q h. elim (has_either q first.more second.more h) [
              | inl l ↦ (let on = first.on q l in (on.0, inl on.1, on.2))
              | inr r ↦ (let on = second.on q r in (on.0, inr on.1, on.2))
            ];
            others = λ other ne. second.others other (λ named. ne (inr named)) ∙ first.others other (λ named. ne (inl named));
          }

      messages_appended : (xs ys zs : List MessageContent) → (xs ++ ys) ++ zs ≡ xs ++ (ys ++ zs)
      messages_appended [] ys zs = refl
      messages_appended (x ∷ xs) ys zs = ap (λ (l : List MessageContent). x ∷ l) (messages_appended xs ys zs)

  -- the same of streams that are the same, and with other runs of unordered messages
  alike_beside : (Named : ℕ → Type 0) (waits : ℕ → List ℕ) (places : List ℕ) (streams others : ℕ → StreamModel) (unordered runs : List RunModel) (ready : List MessageContent) → ((id : ℕ) → others id ≡ streams id)
      → AreRows history.log got (unordered_base base) IsOfStream runs → HoldsBeside queued history got base read Named waits places streams unordered ready → HoldsBeside queued history got base read Named waits places others runs ready
  alike_beside Named waits places streams others unordered runs ready same rows b =
      record {
        holds = record {
          waits = b.holds.waits;
          streams_hold = λ id. subst (λ (s : StreamModel). StreamHolds queued history got base id (b.holds.waits id) s) (sym (same id)) (b.holds.streams_hold id);
          rows = rows;
          places = b.holds.places;
          were_queued = b.holds.were_queued;
          spent = b.holds.spent;
          once = b.holds.once;
        };
        more = b.more;
        places_are = b.places_are;
        on = b.on;
        others = b.others;
      }

  pub skips_beside : (tsn : ℕ) (entries : List SkippedTo) (old new : IncomingModel) → AreNamed history entries → (holds : HoldsIncoming queued history got base read old) → MovesOn tsn entries old new
      → HoldsBeside queued history got base read (IsSkipped entries) holds.waits holds.places (λ id. stream_on id new.streams) new.unordered new.ready
  skips_beside tsn entries old new names holds moves =
      let skipped_all = all_skipped entries (λ id. stream_on id old.streams) old.unordered old.ready holds names in
      let rows : AreRows history.log got (unordered_base base) IsOfStream new.unordered = subst (λ (l : List RunModel). AreRows history.log got (unordered_base base) IsOfStream l) (sym moves.unordered) (rows_behind (unordered_base base) IsOfStream (number_near old.last_tsn_number tsn) old.unordered holds.rows) in
      subst (λ (l : List MessageContent). HoldsBeside queued history got base read (IsSkipped entries) holds.waits holds.places (λ id. stream_on id new.streams) new.unordered l) (sym moves.ready)
      (alike_beside (IsSkipped entries) holds.waits holds.places (λ id. stream_skipping entries id (stream_on id old.streams)) (λ id. stream_on id new.streams) old.unordered new.unordered (old.ready ++ deliveries_of_skips entries (λ id. stream_on id old.streams))
      moves.streams rows skipped_all)

  pub skips_on : (tsn : ℕ) (entries : List SkippedTo) (old new : IncomingModel) → AreNamed history entries → HoldsIncoming queued history got base read old → MovesOn tsn entries old new → HoldsIncoming queued history got base read new
  skips_on tsn entries old new names holds moves = (skips_beside tsn entries old new names holds moves).holds

  -- ---- streams that are reset

  -- these streams are new, and the others unchanged
  unfoldable pub holds_renewed : (named : ℕ → Bool) (streams later : ℕ → StreamModel) (unordered others : List RunModel) (ready : List MessageContent) → ((id : ℕ) → later id ≡ (if named id then new_stream id else streams id))
      → AreRows history.log got (unordered_base base) IsOfStream others → HoldsAll (sent_messages queued history) got base read (held_messages streams unordered ready) → HoldsAll (sent_messages queued history) got base read (held_messages later others ready)
  holds_renewed named streams later unordered others ready are rows holds =
      record {
        waits = λ id. if named id then [] else holds.waits id;
        streams_hold = λ id. subst (λ (s : StreamModel). StreamHolds queued history got base id (if named id then [] else holds.waits id) s) (sym (are id)) (left_stream id (named id));
        rows = rows;
        places = holds.places;
        were_queued = holds.were_queued;
        spent = holds.spent;
        once = λ id. left_once id (named id);
      }
    where
      left_stream : (id : ℕ) (b : Bool) → StreamHolds queued history got base id (if b then [] else holds.waits id) (if b then new_stream id else streams id)
      left_stream id true = record { rows = new_rows history got base id; wait = tt }
      left_stream id false = holds.streams_hold id

      left_once : (id : ℕ) (b : Bool) → AreDistinct ((read ++ holds.places) ++ (if b then [] else holds.waits id))
      left_once id true = distinct_front (read ++ holds.places) (holds.waits id) (holds.once id)
      left_once id false = holds.once id

  pub resets_on : (streams : List ℕ) (old new : IncomingModel) → HoldsIncoming queued history got base read old → ResetsStreams streams old new → HoldsIncoming queued history got base read new
  resets_on [] old new holds resets =
      subst (λ (l : List MessageContent). HoldsAll (sent_messages queued history) got base read (held_messages (λ id. stream_on id new.streams) new.unordered l)) (sym resets.kept.ready)
      (holds_renewed (λ id. true) (λ id. stream_on id old.streams) (λ id. stream_on id new.streams) old.unordered new.unordered old.ready resets.streams
      (subst (λ (l : List RunModel). AreRows history.log got (unordered_base base) IsOfStream l) (sym resets.unordered) tt) holds)
  resets_on (reset ∷ others) old new holds resets =
      subst (λ (l : List MessageContent). HoldsAll (sent_messages queued history) got base read (held_messages (λ id. stream_on id new.streams) new.unordered l)) (sym resets.kept.ready)
      (holds_renewed (is_named (reset ∷ others)) (λ id. stream_on id old.streams) (λ id. stream_on id new.streams) old.unordered new.unordered old.ready resets.streams
      (subst (λ (l : List RunModel). AreRows history.log got (unordered_base base) IsOfStream l) (sym resets.unordered) (rows_filter (unordered_base base) IsOfStream (λ run. not (is_named (reset ∷ others) run.number)) old.unordered holds.rows)) holds)
