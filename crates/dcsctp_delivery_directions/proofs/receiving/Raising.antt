-- Floors that are raised: of streams on which nothing was sent, or that are clear.
use Rattle.std.proofs.Common.{◌≡◌, ◌≢◌, ℕ, Bool, true, false, ◌<◌, ◌≤◌, ◌+◌, ◌*◌, ◌^◌, List, [], ◌∷◌, length, refl, sym, ◌∙◌, ap, arith, subst, inl, inr}
use Rattle.std.specs.Prelude.{◌⊎◌, if◌then◌else◌, Option, None, Some}
use Rattle.std.specs.List.{AllByRecursion}
use Rattle.std.proofs.lemmas.Bool.Decides.{leb_tells}
use Rattle.dcsctp_spec_lemmas.specs.types.declared.arrivals.SkippedTo.{SkippedTo}
use Rattle.dcsctp_spec_lemmas.specs.types.declared.arrivals.SkippedTo.TheVariants.{Ssn, Mid}
use Rattle.dcsctp_spec_lemmas.specs.spec.queues.Incoming.{IncomingModel, stream_on}
use Rattle.dcsctp_spec_lemmas.specs.spec.queues.IncomingStreams.{ChunkModel, StreamModel, new_stream, skipped_stream}
use Rattle.dcsctp_spec_lemmas.specs.spec.queues.Reassembly.{WaitingModel, WaitingSkips, DeferralModel, ReassemblyState, waiting_of, skips_of}
use Rattle.dcsctp_spec_lemmas.specs.spec.queues.Runs.{RunModel, WholeModel}
use Rattle.dcsctp_spec_lemmas.specs.types.queues.SendStreams.{Stream}
use Rattle.dcsctp_spec_lemmas.specs.spec.queues.Tracker.{TrackerState}
use Rattle.dcsctp_delivery_directions.specs.sending.Places.{at_place}
use Rattle.dcsctp_delivery_directions.specs.sending.Log.{Message, Piece, History}
use Rattle.dcsctp_delivery_directions.specs.sending.Numbers.{is_handed_out, stream_named, IsCurrent}
use Rattle.dcsctp_delivery_directions.specs.sending.Queueing.{floors_raised}
use Rattle.dcsctp_delivery_directions.specs.receiving.Clear.{NoneSkips, NoneWaits, IsClear, Unsent, IsOver}
use Rattle.dcsctp_delivery_directions.specs.receiving.Rows.{IsPieceRow, AreRows, IsQueued}
use Rattle.dcsctp_delivery_directions.specs.receiving.Ready.{IsNumberedAs, IsOn, IsApart, fresh, ReadsMids, ordered_base, NamesCurrent, WaitQueued, StreamHolds, HoldsIncoming}
use Rattle.dcsctp_delivery_directions.specs.receiving.Received.{CarriesCurrent, kept_entries, SkipsLater, SkipsWait, ForwardsWait, Reassembles, untouched, placed, DefersData, IsPast, HasReceived}

-- A piece of a stream that isn't handed out stays current.
open_current : (streams : List Stream) (history : History) (f : Piece) → is_handed_out (stream_named f.message.stream streams).pause ≡ false → IsCurrent history f → IsCurrent (floors_raised streams history) f
open_current streams history f is current = go (is_handed_out (stream_named f.message.stream streams).pause) is
  where
    go : (b : Bool) → b ≡ false
        → (if b then 2 ^ 32 * (history.floors f.message.stream f.message.is_unordered + length history.log + 1) else history.floors f.message.stream f.message.is_unordered) ≤ f.mid
    go true e = absurd (cc)
    go false e = current

module _ (queued : List Message) (history : History) (streams : List Stream) where
  -- The pieces of the stream that are current stay so.
  abbrev pub Keep : ℕ → Type 0
  Keep id = (n : ℕ) (f : Piece) → at_place n history.log ≡ Some (Some f) → f.message.stream ≡ id → IsCurrent history f → IsCurrent (floors_raised streams history) f

  numbered_keeps : (id n : ℕ) (f : Piece) (is_unordered : Bool) (number : ℕ) → Keep id → at_place n history.log ≡ Some (Some f) → f.message.stream ≡ id → IsNumberedAs history is_unordered f number
      → IsNumberedAs (floors_raised streams history) is_unordered f number
  numbered_keeps id n f is_unordered number keep at on numbered = λ kind. (let is = numbered kind in (is.0, is.1, keep n f at on is.2))

  -- ---- rows, messages that wait, and numbers

  row_keeps : (got : List ℕ) (base : ℕ → ℕ) (Old New : Piece → ℕ → Type 0) (run : RunModel) → ((n : ℕ) (f : Piece) (number : ℕ) → at_place n history.log ≡ Some (Some f) → Old f number → New f number)
      → IsPieceRow history.log got base Old run → IsPieceRow history.log got base New run
  row_keeps got base Old New run keeps row =
      record {
        offset = row.offset;
        head = row.head;
        last_offset = row.last_offset;
        last = row.last;
        at_head = row.at_head;
        at_last = row.at_last;
        first = row.first;
        later = row.later;
        fsns = row.fsns;
        near = row.near;
        spread = row.spread;
        some = row.some;
        covered = row.covered;
        place = row.place;
        message = row.message;
        order = row.order;
        payload = row.payload;
        number = keeps row.offset row.head run.number row.at_head row.number;
        ppid = row.ppid;
        beginning = row.beginning;
        end = row.end;
      }

  rows_keep : (got : List ℕ) (base : ℕ → ℕ) (Old New : Piece → ℕ → Type 0) (runs : List RunModel) → ((n : ℕ) (f : Piece) (number : ℕ) → at_place n history.log ≡ Some (Some f) → Old f number → New f number)
      → AreRows history.log got base Old runs → AreRows history.log got base New runs
  rows_keep got base Old New [] keeps are = tt
  rows_keep got base Old New (run ∷ runs) keeps are = (row_keeps got base Old New run keeps are.0, rows_keep got base Old New runs keeps are.1)

  queued_keeps : (got : List ℕ) (Old New : Piece → ℕ → Type 0) (place : ℕ) (whole : WholeModel) → ((n : ℕ) (f : Piece) (number : ℕ) → at_place n history.log ≡ Some (Some f) → Old f number → New f number)
      → IsQueued queued history.log got Old place whole → IsQueued queued history.log got New place whole
  queued_keeps got Old New place whole keeps is =
      record {
        offset = is.offset;
        head = is.head;
        at = is.at;
        is = is.is;
        queued_at = is.queued_at;
        number = keeps is.offset is.head whole.number is.at is.number;
        ppid = is.ppid;
        payload = is.payload;
        spent = is.spent;
      }

  wait_keeps : (got : List ℕ) (id : ℕ) (places : List ℕ) (wholes : List WholeModel) → ((n : ℕ) (f : Piece) (number : ℕ) → at_place n history.log ≡ Some (Some f) → IsOn history id f number → IsOn (floors_raised streams history) id f number)
      → WaitQueued queued history got id places wholes → WaitQueued queued (floors_raised streams history) got id places wholes
  wait_keeps got id [] [] keeps wait = tt
  wait_keeps got id [] (whole ∷ wholes) keeps wait = absurd wait
  wait_keeps got id (place ∷ places) [] keeps wait = absurd wait
  wait_keeps got id (place ∷ places) (whole ∷ wholes) keeps wait =
      (queued_keeps got (IsOn history id) (IsOn (floors_raised streams history) id) place whole keeps wait.0, wait_keeps got id places wholes keeps wait.1)

  reads_keeps : (id : ℕ) (is_unordered : Bool) (number : ℕ) → Keep id → ReadsMids history id is_unordered number → ReadsMids (floors_raised streams history) id is_unordered number
  reads_keeps id is_unordered number keep reads start w =
      reads start
      (record {
        kinds = w.kinds;
        from = λ n f at on kind current. w.from n f at on kind (keep n f at on current);
        below = λ n f at on kind current. w.below n f at on kind (keep n f at on current);
      })

  -- ---- a stream

  pub kept_holds : (got : List ℕ) (base id : ℕ) (places : List ℕ) (stream : StreamModel) → Keep id → StreamHolds queued history got base id places stream → StreamHolds queued (floors_raised streams history) got base id places stream
  kept_holds got base id places stream keep s =
      record {
        rows = record {
          is = s.rows.is;
          ordered = rows_keep got (ordered_base base) (IsOn history id) (IsOn (floors_raised streams history) id) stream.ordered ordered s.rows.ordered;
          unordered = rows_keep got (ordered_base base) (IsApart history id) (IsApart (floors_raised streams history) id) stream.unordered
              (λ n f number at on. (on.0, numbered_keeps id n f true number keep at on.0 on.1)) s.rows.unordered;
          next = reads_keeps id false stream.next keep s.rows.next;
          last = reads_keeps id true stream.last_unordered keep s.rows.last;
        };
        wait = wait_keeps got id places stream.waiting ordered s.wait;
      }
    where
      ordered : (n : ℕ) (f : Piece) (number : ℕ) → at_place n history.log ≡ Some (Some f) → IsOn history id f number → IsOn (floors_raised streams history) id f number
      ordered n f number at on = (on.0, numbered_keeps id n f false number keep at on.0 on.1)

  none_wait : (got : List ℕ) (id : ℕ) (places : List ℕ) → WaitQueued queued history got id places [] → WaitQueued queued (floors_raised streams history) got id places []
  none_wait got id [] wait = tt
  none_wait got id (place ∷ places) wait = absurd wait

  pub clear_holds : (got : List ℕ) (base id : ℕ) (places : List ℕ) (stream : StreamModel) → stream ≡ new_stream id → StreamHolds queued history got base id places stream
      → StreamHolds queued (floors_raised streams history) got base id places stream
  clear_holds got base id places stream is s =
      subst (λ (t : StreamModel). StreamHolds queued (floors_raised streams history) got base id places t) (sym is)
      (record {
        rows = record { is = refl; ordered = tt; unordered = tt; next = λ start w. fresh refl; last = λ start w. fresh refl };
        wait = none_wait got id places (subst (λ (t : StreamModel). WaitQueued queued history got id places t.waiting) is s.wait);
      })

  -- A stream is kept: its pieces stay current, or this holds of it.
  abbrev pub KeptOr : (ℕ → Type 0) → Type 0
  KeptOr P = (id : ℕ) → Keep id ⊎ P id

  unfoldable pub holds_keeps : (got : List ℕ) (base : ℕ) (read : List ℕ) (incoming : IncomingModel) → KeptOr (λ id. stream_on id incoming.streams ≡ new_stream id) → HoldsIncoming queued history got base read incoming
      → HoldsIncoming queued (floors_raised streams history) got base read incoming
  holds_keeps got base read incoming kept holds =
      record {
        waits = holds.waits;
        streams_hold = λ id. elim (kept id) [
          | inl keep ↦ kept_holds got base id (holds.waits id) (stream_on id incoming.streams) keep (holds.streams_hold id)
          | inr is ↦ clear_holds got base id (holds.waits id) (stream_on id incoming.streams) is (holds.streams_hold id)
        ];
        rows = holds.rows;
        places = holds.places;
        were_queued = holds.were_queued;
        spent = holds.spent;
        once = holds.once;
      }

  reassembles_keeps : (first : ℕ) (got read : List ℕ) (incoming : IncomingModel) → KeptOr (λ id. stream_on id incoming.streams ≡ new_stream id) → Reassembles queued history first got read incoming
      → Reassembles queued (floors_raised streams history) first got read incoming
  reassembles_keeps first got read incoming kept (untouched none last empty) = untouched none last (λ base. holds_keeps [] base read incoming kept (empty base))
  reassembles_keeps first got read incoming kept (placed base is holds) = placed base is (holds_keeps got base read incoming kept holds)

  -- ---- what waits for the end of a deferred reset

  carries_keeps : (first offset tsn : ℕ) (chunk : ChunkModel) → KeptOr (λ id. chunk.stream ≢ id) → CarriesCurrent history first offset tsn chunk → CarriesCurrent (floors_raised streams history) first offset tsn chunk
  carries_keeps first offset tsn chunk kept c =
      record {
        carries = c.carries;
        current = λ kind. elim (kept c.carries.piece.message.stream) [ inl keep ↦ keep offset c.carries.piece c.carries.at refl (c.current kind) | inr ne ↦ absurd (ne c.carries.stream) ];
      }

  pub name_keeps : (passed : ℕ) (entry : SkippedTo) → KeptOr (λ id. skipped_stream entry ≢ id) → NamesCurrent history passed entry → NamesCurrent (floors_raised streams history) passed entry
  name_keeps passed (Ssn id ssn) kept (s, current) = (record { number = s.number; piece = s.piece; at = s.at; kind = s.kind }, tt)
  name_keeps passed (Mid id is_unordered mid) kept (s, current) = (
    record { number = s.number; piece = s.piece; at = s.at; kind = s.kind; stream = s.stream; unordered = s.unordered; is = s.is; within = s.within; limited = s.limited; before = s.before; highest = s.highest },
    elim (kept s.piece.message.stream) [
      | inl keep ↦ keep s.number s.piece s.at refl current
      | inr ne ↦ absurd (ne s.stream)
    ],
  )

  later_keep : (first last_tsn : ℕ) (entries : List SkippedTo) → KeptOr (λ id. NoneSkips id entries) → AllByRecursion (SkipsLater history first last_tsn) entries → AllByRecursion (SkipsLater (floors_raised streams history) first last_tsn) entries
  later_keep first last_tsn [] kept all = tt
  later_keep first last_tsn (entry ∷ entries) kept all = (
    record {
      tsn = all.0.tsn;
      tsn_is = all.0.tsn_is;
      beyond = all.0.beyond;
      names = name_keeps (all.0.tsn_is.offset + 1) entry (λ id. elim (kept id) [ inl keep ↦ inl keep | inr none ↦ inr none.0 ]) all.0.names;
    },
    later_keep first last_tsn entries (λ id. elim (kept id) [ inl keep ↦ inl keep | inr none ↦ inr none.1 ]) all.1,
  )

  skips_keep : (first last_tsn : ℕ) (skips : Option WaitingSkips) → KeptOr (λ id. NoneSkips id (kept_entries skips)) → SkipsWait history first last_tsn skips → SkipsWait (floors_raised streams history) first last_tsn skips
  skips_keep first last_tsn None kept wait = tt
  skips_keep first last_tsn (Some skips) kept wait = (wait.0, later_keep first last_tsn (kept_entries (Some skips)) kept wait.1)

  forwards_keep : (first : ℕ) (deferral : Option DeferralModel) → KeptOr (λ id. NoneSkips id (kept_entries (skips_of deferral))) → ForwardsWait history first deferral → ForwardsWait (floors_raised streams history) first deferral
  forwards_keep first None kept wait = tt
  forwards_keep first (Some d) kept wait = skips_keep first d.last_tsn d.skips kept wait

  pub defers_keeps : (first : ℕ) (offsets : List ℕ) (waiting : List WaitingModel) → KeptOr (λ id. NoneWaits id waiting) → DefersData history first offsets waiting → DefersData (floors_raised streams history) first offsets waiting
  defers_keeps first [] [] kept defers = tt
  defers_keeps first (offset ∷ offsets) [] kept defers = absurd defers
  defers_keeps first [] (one ∷ waiting) kept defers = absurd defers
  defers_keeps first (offset ∷ offsets) (one ∷ waiting) kept defers = (
    carries_keeps first offset one.tsn one.chunk (λ id. elim (kept id) [ inl keep ↦ inl keep | inr none ↦ inr none.0 ]) defers.0,
    defers_keeps first offsets waiting (λ id. elim (kept id) [ inl keep ↦ inl keep | inr none ↦ inr none.1 ]) defers.1,
  )

-- ---- all of it

-- A stream is kept, or it was handed out and is clear.
pub kept_or_clear : (queued : List Message) (history : History) (streams : List Stream) (first cumulative : ℕ) (reassembly : ReassemblyState)
    → ((id : ℕ) → is_handed_out (stream_named id streams).pause ≡ true → Unsent history.log id ⊎ (IsOver history first cumulative id × IsClear id reassembly))
    → KeptOr queued history streams (λ id. IsOver history first cumulative id × IsClear id reassembly)
kept_or_clear queued history streams first cumulative reassembly out id = go (is_handed_out (stream_named id streams).pause) refl
  where
    go : (b : Bool) → is_handed_out (stream_named id streams).pause ≡ b → Keep queued history streams id ⊎ (IsOver history first cumulative id × IsClear id reassembly)
    go true is = elim (out id is) [ inl none ↦ inl (λ n f at on current. absurd (none n f at on)) | inr c ↦ inr c ]
    go false is = inl (λ n f at on current. open_current streams history f (ap (λ (s : ℕ). is_handed_out (stream_named s streams).pause) on ∙ is) current)

pub raising_keeps : (queued : List Message) (history : History) (streams : List Stream) (first : ℕ) (read : List ℕ) (tracker : TrackerState) (reassembly : ReassemblyState)
    → ((id : ℕ) → is_handed_out (stream_named id streams).pause ≡ true → Unsent history.log id ⊎ (IsOver history first tracker.cumulative id × IsClear id reassembly))
    → HasReceived queued history first read tracker reassembly → HasReceived queued (floors_raised streams history) first read tracker reassembly
raising_keeps queued history streams first read tracker reassembly out r =
    record {
      taken = r.taken;
      got = r.got;
      later = r.later;
      tracks = r.tracks;
      got_taken = r.got_taken;
      later_taken = r.later_taken;
      apart = r.apart;
      distinct = r.distinct;
      holds = reassembles_keeps queued history streams first r.got read reassembly.incoming (λ id. elim (kept id) [ inl keep ↦ inl keep | inr c ↦ inr c.1.stream ]) r.holds;
      defers = defers_keeps queued history streams first r.later (waiting_of reassembly.deferral) (λ id. elim (kept id) [ inl keep ↦ inl keep | inr c ↦ inr c.1.none ]) r.defers;
      beyond = r.beyond;
      forwards = forwards_keep queued history streams first reassembly.deferral (λ id. elim (kept id) [ inl keep ↦ inl keep | inr c ↦ inr c.1.kept ]) r.forwards;
      old = past;
    }
  where
    kept : (id : ℕ) → Keep queued history streams id ⊎ (IsOver history first tracker.cumulative id × IsClear id reassembly)
    kept = kept_or_clear queued history streams first tracker.cumulative reassembly out

    past : (n : ℕ) (f : Piece) → at_place n history.log ≡ Some (Some f) → f.is_interleaved ≡ true → (IsCurrent (floors_raised streams history) f → ⊥) → IsPast (floors_raised streams history) first tracker.cumulative f.message.stream n
    past n f at kind gone = elim (leb_tells (history.floors f.message.stream f.message.is_unordered) f.mid) [
      | inl current ↦ elim (kept f.message.stream) [
        | inl keep ↦ absurd (gone (keep n f at refl current.1))
        | inr c ↦ record { mark = c.0.mark; has = c.0.has; names = c.0.names; below = c.0.below n f at refl; passed = c.0.passed }
      ]
      | inr before ↦
          (let before' : f.mid < history.floors f.message.stream f.message.is_unordered = before.1 in
          let is = r.old n f at kind (λ current. absurd (omega (arith, before', current))) in
          record { mark = is.mark; has = is.has; names = is.names; below = is.below; passed = is.passed })
    ]
