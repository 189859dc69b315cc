-- What was received of a peer stays so as the peer's history continues.
use Rattle.std.proofs.Common.{◌≡◌, ℕ, Bool, true, false, ◌≤◌, ◌+◌, List, [], ◌∷◌, length, sym, ◌∙◌, ap, arith, subst, inl, inr}
use Rattle.std.specs.Prelude.{◌⊎◌, Option, None, Some}
use Rattle.std.specs.List.{AllByRecursion}
use Rattle.dcsctp_spec_lemmas.specs.types.declared.arrivals.SkippedTo.{SkippedTo}
use Rattle.dcsctp_spec_lemmas.specs.types.declared.arrivals.SkippedTo.TheVariants.{Ssn, Mid}
use Rattle.dcsctp_spec_lemmas.specs.spec.queues.Incoming.{is_named}
use Rattle.dcsctp_spec_lemmas.specs.spec.queues.Runs.{RunModel}
use Rattle.dcsctp_spec_lemmas.specs.spec.queues.IncomingStreams.{ChunkModel}
use Rattle.dcsctp_spec_lemmas.specs.spec.queues.Reassembly.{WaitingModel, WaitingSkips, DeferralModel}
use Rattle.dcsctp_delivery_directions.specs.sending.Places.{HasEntry, at_place}
use Rattle.dcsctp_delivery_directions.specs.sending.Log.{Piece, Slot, Mark, History}
use Rattle.dcsctp_delivery_directions.specs.sending.Numbers.{IsCurrent}
use Rattle.dcsctp_delivery_directions.proofs.sending.Places.{at_below, at_some}
use Rattle.dcsctp_delivery_directions.proofs.sending.Extended.{IsAsOne}
use Rattle.dcsctp_delivery_directions.specs.receiving.Rows.{IsPieceRow, AreRows, Spent}
use Rattle.dcsctp_delivery_directions.specs.receiving.Ready.{IsNumberedAs, IsOn, IsApart, ReadsMids, NamesCurrent}
use Rattle.dcsctp_delivery_directions.specs.receiving.Received.{Carries, CarriesCurrent, IsTsn, kept_entries, SkipsLater, SkipsWait, ForwardsWait, DefersData}

-- All pieces of a history are in a later one, each current one still is current, and the other marks are of resets that began
-- later, or of known ones under another number.
pub record GoesOn (history wider : History) : Type 0 where
  pub stays : (n : ℕ) (slot : Slot) → at_place n history.log ≡ Some slot → at_place n wider.log ≡ Some slot
  pub current : (n : ℕ) (f : Piece) → at_place n history.log ≡ Some (Some f) → IsCurrent history f → IsCurrent wider f
  pub longer : length history.log ≤ length wider.log
  pub marks : (mark : Mark) → HasEntry mark wider.marks → IsAsOne history mark ⊎ (length history.log ≤ mark.bound)

module _ (history wider : History) (goes : GoesOn history wider) where
  numbered_more : (is_unordered : Bool) (n : ℕ) (f : Piece) (number : ℕ) → at_place n history.log ≡ Some (Some f) → IsNumberedAs history is_unordered f number → IsNumberedAs wider is_unordered f number
  numbered_more is_unordered n f number at named kind = (let is = named kind in (is.0, is.1, goes.current n f at is.2))

  pub on_more : (id n : ℕ) (f : Piece) (number : ℕ) → at_place n history.log ≡ Some (Some f) → IsOn history id f number → IsOn wider id f number
  on_more id n f number at named = (named.0, numbered_more false n f number at named.1)

  pub apart_more : (id n : ℕ) (f : Piece) (number : ℕ) → at_place n history.log ≡ Some (Some f) → IsApart history id f number → IsApart wider id f number
  apart_more id n f number at named = (named.0, numbered_more true n f number at named.1)

  pub reads_more : (id : ℕ) (is_unordered : Bool) (number : ℕ) → ReadsMids history id is_unordered number → ReadsMids wider id is_unordered number
  reads_more id is_unordered number reads start w =
      reads start
      (record {
        kinds = λ n f at. w.kinds n f (goes.stays n (Some f) at);
        from = λ n f at on kind is. w.from n f (goes.stays n (Some f) at) on kind (goes.current n f at is);
        below = λ n f at on kind is. w.below n f (goes.stays n (Some f) at) on kind (goes.current n f at is);
      })

  -- what the later log has up to a TSN of the earlier one, that has too
  earlier_at : (n last : ℕ) (slot up_to : Slot) → at_place last history.log ≡ Some up_to → n ≤ last → at_place n wider.log ≡ Some slot → at_place n history.log ≡ Some slot
  earlier_at n last slot up_to at_last to at =
      let below = at_below last up_to history.log at_last in
      let (found, is) = at_some n history.log (omega (arith, to, below)) in
      let both : Some found ≡ Some slot = sym (goes.stays n found is) ∙ at in
      let same : found ≡ slot = cc in
      is ∙ ap Some same

  module _ (got : List ℕ) (base : ℕ → ℕ) (Named Other : Piece → ℕ → Type 0) (less : (n : ℕ) (f : Piece) (number : ℕ) → at_place n history.log ≡ Some (Some f) → Named f number → Other f number) where
    row_more : (run : RunModel) → IsPieceRow history.log got base Named run → IsPieceRow wider.log got base Other run
    row_more run row =
        record {
          offset = row.offset;
          head = row.head;
          last_offset = row.last_offset;
          last = row.last;
          at_head = goes.stays row.offset (Some row.head) row.at_head;
          at_last = goes.stays row.last_offset (Some row.last) row.at_last;
          first = row.first;
          later = row.later;
          fsns = row.fsns;
          near = row.near;
          spread = row.spread;
          some = row.some;
          covered = λ n f at of from to. row.covered n f (earlier_at n row.last_offset (Some f) (Some row.last) row.at_last to at) of from to;
          place = row.place;
          message = row.message;
          order = row.order;
          payload = row.payload;
          number = less row.offset row.head run.number row.at_head row.number;
          ppid = row.ppid;
          beginning = row.beginning;
          end = row.end;
        }

    pub rows_more : (runs : List RunModel) → AreRows history.log got base Named runs → AreRows wider.log got base Other runs
    rows_more [] are = tt
    rows_more (r ∷ runs) are = (row_more r are.0, rows_more runs are.1)

  pub spent_more : (got : List ℕ) (place : ℕ) → Spent history.log got place → Spent wider.log got place
  spent_more got place s =
      record {
        offset = s.offset;
        head = s.head;
        last_offset = s.last_offset;
        last = s.last;
        at_head = goes.stays s.offset (Some s.head) s.at_head;
        at_last = goes.stays s.last_offset (Some s.last) s.at_last;
        is = s.is;
        starts = s.starts;
        same = s.same;
        ends = s.ends;
        order = s.order;
        covered = λ n f at of from to. s.covered n f (earlier_at n s.last_offset (Some f) (Some s.last) s.at_last to at) of from to;
      }

  carries_more : (first offset tsn : ℕ) (chunk : ChunkModel) → CarriesCurrent history first offset tsn chunk → CarriesCurrent wider first offset tsn chunk
  carries_more first offset tsn chunk carries =
      let c : Carries history.log first offset tsn chunk = carries.carries in
      record {
        carries = record {
          piece = c.piece;
          at = goes.stays offset (Some c.piece) c.at;
          is = c.is;
          stream = c.stream;
          numbered = c.numbered;
          ppid = c.ppid;
          payload = c.payload;
          beginning = c.beginning;
          end = c.end;
        };
        current = λ kind. goes.current offset c.piece c.at (carries.current kind);
      }

  abbrev tsn_more : (first tsn : ℕ) → IsTsn history.log first tsn → IsTsn wider.log first tsn
  tsn_more first tsn t = record { offset = t.offset; below = omega (arith, t.below, goes.longer); is = t.is }

  -- TSNs were assigned before a reset that began later
  pub name_more : (passed : ℕ) → passed ≤ length history.log → (entry : SkippedTo) → NamesCurrent history passed entry → NamesCurrent wider passed entry
  name_more passed assigned (Ssn id ssn) (s, is) = (record { number = s.number; piece = s.piece; at = goes.stays s.number (Some s.piece) s.at; kind = s.kind }, tt)
  name_more passed assigned (Mid id is_unordered mid) (s, is) = (
    record {
      number = s.number;
      piece = s.piece;
      at = goes.stays s.number (Some s.piece) s.at;
      kind = s.kind;
      stream = s.stream;
      unordered = s.unordered;
      is = s.is;
      within = λ mark has names below. elim (goes.marks mark has) [
        | inl h ↦
            (let same = h.bound in
            let passes = s.within h.one h.has (subst (λ (ids : List ℕ). is_named ids s.piece.message.stream ≡ true) h.ids names) (omega (arith, below, same)) in
            omega (arith, passes, same))
        | inr up ↦ omega (arith, assigned, up)
      ];
      limited = s.limited;
      before = s.before;
      highest = λ n f at less on kind. (
          let (slot, was) = at_some n history.log (omega (arith, less, assigned)) in
          let both : Some slot ≡ Some (Some f) = sym (goes.stays n slot was) ∙ at in
          s.highest n f (was ∙ both) less on kind
          );
    },
    goes.current s.number s.piece s.at is,
  )

  later_more : (first last_tsn : ℕ) (entry : SkippedTo) → SkipsLater history first last_tsn entry → SkipsLater wider first last_tsn entry
  later_more first last_tsn entry s =
      let t = s.tsn_is in
      record {
        tsn = s.tsn;
        tsn_is = tsn_more first s.tsn t;
        beyond = s.beyond;
        names = name_more (t.offset + 1) (omega (arith, t.below)) entry s.names;
      }

  all_more : (first last_tsn : ℕ) (entries : List SkippedTo) → AllByRecursion (SkipsLater history first last_tsn) entries → AllByRecursion (SkipsLater wider first last_tsn) entries
  all_more first last_tsn [] all = tt
  all_more first last_tsn (entry ∷ entries) all = (later_more first last_tsn entry all.0, all_more first last_tsn entries all.1)

  skips_more : (first last_tsn : ℕ) (skips : Option WaitingSkips) → SkipsWait history first last_tsn skips → SkipsWait wider first last_tsn skips
  skips_more first last_tsn None wait = tt
  skips_more first last_tsn (Some skips) wait = (tsn_more first skips.tsn wait.0, all_more first last_tsn (kept_entries (Some skips)) wait.1)

  pub forwards_more : (first : ℕ) (deferral : Option DeferralModel) → ForwardsWait history first deferral → ForwardsWait wider first deferral
  forwards_more first None wait = tt
  forwards_more first (Some d) wait = skips_more first d.last_tsn d.skips wait

  pub defers_more : (first : ℕ) (numbers : List ℕ) (waiting : List WaitingModel) → DefersData history first numbers waiting → DefersData wider first numbers waiting
  defers_more first [] [] defers = tt
  defers_more first (n ∷ numbers) [] defers = absurd defers
  defers_more first [] (one ∷ waiting) defers = absurd defers
  defers_more first (n ∷ numbers) (one ∷ waiting) defers = (carries_more first n one.tsn one.chunk defers.0, defers_more first numbers waiting defers.1)
