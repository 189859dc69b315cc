-- A piece that is new belongs to no message whose pieces were all handled.
use Rattle.std.proofs.Common.{◌≡◌, ◌==◌, ℕ, Bool, true, false, ◌<◌, ◌+◌, ◌-◌, ◌≤◌, List, [], ◌∷◌, length, refl, sym, ◌∙◌, ap, arith, inl, inr}
use Rattle.std.specs.Prelude.{◌&&◌, not, Option, None, Some, if◌then◌else◌}
use Rattle.std.proofs.lemmas.Bool.{eqb-true}
use Rattle.std.proofs.lemmas.Bool.Decides.{leb_tells}
use Rattle.dcsctp_spec_lemmas.specs.spec.queues.Runs.{RunModel, PartModel, WholeModel, Assembly, part_dropped, part_kept, message_whole, AddsPart, AssemblesPart, entry_before, follows, following, run_before, run_behind, run_with_part}
use Rattle.dcsctp_delivery_directions.specs.sending.Places.{HasEntry, at_place}
use Rattle.dcsctp_delivery_directions.specs.sending.Log.{Message, Piece, Slot, IsLogOfPieces}
use Rattle.dcsctp_delivery_directions.specs.receiving.Rows.{IsPart, IsPieceRow, AreRows, Spent, MakesQueued}
use Rattle.dcsctp_delivery_directions.proofs.receiving.Chaining.{OneKind, lies_behind}
use Rattle.dcsctp_delivery_directions.proofs.receiving.Joining.{both}
use Rattle.dcsctp_delivery_directions.proofs.receiving.Rows.{outcome_rows}

-- ---- what was handled stays so

pub row_got : (log : List Slot) (got : List ℕ) (n : ℕ) (base : ℕ → ℕ) (Named : Piece → ℕ → Type 0) (run : RunModel) → IsPieceRow log got base Named run → IsPieceRow log (n ∷ got) base Named run
row_got log got n base Named run row =
    record {
      offset = row.offset;
      head = row.head;
      last_offset = row.last_offset;
      last = row.last;
      at_head = row.at_head;
      at_last = row.at_last;
      first = row.first;
      later = row.later;
      fsns = row.fsns;
      near = row.near;
      spread = row.spread;
      some = row.some;
      covered = λ k f at of from to. inr (row.covered k f at of from to);
      place = row.place;
      message = row.message;
      order = row.order;
      payload = row.payload;
      number = row.number;
      ppid = row.ppid;
      beginning = row.beginning;
      end = row.end;
    }

pub rows_got : (log : List Slot) (got : List ℕ) (n : ℕ) (base : ℕ → ℕ) (Named : Piece → ℕ → Type 0) (runs : List RunModel) → AreRows log got base Named runs → AreRows log (n ∷ got) base Named runs
rows_got log got n base Named [] are = tt
rows_got log got n base Named (r ∷ runs) are = (row_got log got n base Named r are.0, rows_got log got n base Named runs are.1)

pub spent_got : (log : List Slot) (got : List ℕ) (n place : ℕ) → Spent log got place → Spent log (n ∷ got) place
spent_got log got n place s =
    record {
      offset = s.offset;
      head = s.head;
      last_offset = s.last_offset;
      last = s.last;
      at_head = s.at_head;
      at_last = s.at_last;
      is = s.is;
      starts = s.starts;
      same = s.same;
      ends = s.ends;
      order = s.order;
      covered = λ k f at of from to. inr (s.covered k f at of from to);
    }

-- each piece of a message lies between its first and its last
module _ (queued : List Message) (log : List Slot) (cut : IsLogOfPieces queued log) (got : List ℕ) (place : ℕ) (spent : Spent log got place) where
  same_stream : (n : ℕ) (f : Piece) → at_place n log ≡ Some (Some f) → f.place ≡ place → f.message.stream ≡ spent.head.message.stream
  same_stream n f at is =
      let one = (cut.pieces n f at).at in
      let two = (cut.pieces spent.offset spent.head spent.at_head).at in
      let both' : Some f.message ≡ Some spent.head.message = sym one ∙ ap (λ (k : ℕ). at_place k queued) (is ∙ sym spent.is) ∙ two in
      let same : f.message ≡ spent.head.message = cc in
      ap (λ (m : Message). m.stream) same

  same_message : (n : ℕ) (f : Piece) → at_place n log ≡ Some (Some f) → f.place ≡ place → f.message ≡ spent.last.message
  same_message n f at is =
      let one = (cut.pieces n f at).at in
      let two = (cut.pieces spent.last_offset spent.last spent.at_last).at in
      let both' : Some f.message ≡ Some spent.last.message = sym one ∙ ap (λ (k : ℕ). at_place k queued) (is ∙ sym spent.same) ∙ two in
      cc

  -- one of them isn't before the first
  not_before : (n : ℕ) (f : Piece) → at_place n log ≡ Some (Some f) → f.place ≡ place → spent.offset ≤ n
  not_before n f at is =
      elim (leb_tells spent.offset n) [
        | inl e ↦ e.1
        | inr e ↦
            (let less : n < spent.offset = e.1 in
            let up : f.place < spent.head.place = cut.ascends n spent.offset f spent.head less at spent.at_head spent.starts (same_stream n f at is) in
            absurd (omega (arith, up, is, spent.is)))
      ]

  -- nor is it behind the last, where the message ends
  pub between : (n : ℕ) (f : Piece) → at_place n log ≡ Some (Some f) → f.place ≡ place → n ≤ spent.last_offset
  between n f at is =
      elim (leb_tells n spent.last_offset) [
        | inl e ↦ e.1
        | inr e ↦
            (let less : spent.last_offset < n = e.1 in
            let behind = (lies_behind queued log cut spent.last_offset n spent.last f less spent.at_last at (is ∙ sym spent.same)).start in
            let end_at : spent.last.start + spent.last.size ≡ length spent.last.message.payload = eqb-true _ _ spent.ends in
            let sizes : length f.message.payload ≡ length spent.last.message.payload = ap (λ (m : Message). length m.payload) (same_message n f at is) in
            let piece = cut.pieces n f at in
            absurd (omega (arith, behind, end_at, sizes, piece.some, piece.within)))
      ]

  -- so it was handled
  pub was_handled : (n : ℕ) (f : Piece) → at_place n log ≡ Some (Some f) → f.place ≡ place → HasEntry n got
  was_handled n f at is = spent.covered n f at is (not_before n f at is) (between n f at is)

pub stay_rows : (queued : List Message) (log : List Slot) → IsLogOfPieces queued log → OneKind log
    → (got : List ℕ) (base : ℕ → ℕ) (Named : Piece → ℕ → Type 0)
    → ((m n : ℕ) (f g : Piece) (number : ℕ) → at_place m log ≡ Some (Some f) → at_place n log ≡ Some (Some g) → f.is_interleaved ≡ true → g.is_interleaved ≡ true → Named f number → Named g number → f.place ≡ g.place)
    → (part : PartModel) (old new : List RunModel) (outcome : Assembly)
    → (is : IsPart log base Named part) → AreRows log got base Named old → AddsPart part old outcome new
    → AreRows log (is.offset ∷ got) base Named new × MakesQueued queued log (is.offset ∷ got) Named is.piece.place outcome
stay_rows queued log cut told got base Named tells part old new outcome is rows adds =
    outcome_rows queued log cut told (is.offset ∷ got) base Named tells part old new outcome adds.at is (inl refl) (rows_got log got is.offset base Named old rows) adds.place adds.adds

-- ---- the number of a message that is whole

abbrev pub IsOfMessage : ℕ → Assembly → Type 0
IsOfMessage number part_dropped = Unit {0}
IsOfMessage number part_kept = Unit {0}
IsOfMessage number (message_whole whole) = whole.number ≡ number

HasNumber : ℕ → Option RunModel → Type 0
HasNumber number None = Unit {0}
HasNumber number (Some run) = run.number ≡ number

following_number : (found : Option RunModel) (part : PartModel) → HasNumber part.number (following found part)
unfolding HasNumber
following_number None part = tt
following_number (Some run) part = go (follows run part) refl
  where
    go : (b : Bool) → follows run part ≡ b → HasNumber part.number (if b then Some run else None)
    go true e =
        let (rest, inside) = both (((part.place - run.first) == length run.payloads) && (run.number == part.number) && not run.has_end) (not part.is_beginning) e in
        let (rest', open_end) = both (((part.place - run.first) == length run.payloads) && (run.number == part.number)) (not run.has_end) rest in
        let (size, same) = both ((part.place - run.first) == length run.payloads) (run.number == part.number) rest' in
        eqb-true run.number part.number same
    go false e = tt

before_number : (at : ℕ) (runs : List RunModel) (part : PartModel) → HasNumber part.number (run_before at runs part)
unfolding HasNumber
before_number at runs part = following_number (entry_before at runs) part

merged_number : (front : Option RunModel) (part : PartModel) (back : Option RunModel) → HasNumber part.number front → (run_with_part front part back).number ≡ part.number
unfolding HasNumber
merged_number None part None has = refl
merged_number (Some front) part None has = has
merged_number None part (Some back) has = refl
merged_number (Some front) part (Some back) has = has

whole_number : (part : PartModel) (old new : List RunModel) (outcome : Assembly) (at : ℕ) → AssemblesPart at part old outcome new → IsOfMessage part.number outcome
whole_number part old new part_dropped at adds = tt
whole_number part old new part_kept at adds = tt
whole_number part old new (message_whole whole) at adds =
    ap (λ (w : WholeModel). w.number) adds.2 ∙ merged_number (run_before at old part) part (run_behind part at old) (before_number at old part)

pub of_message : (part : PartModel) (old new : List RunModel) (outcome : Assembly) → AddsPart part old outcome new → IsOfMessage part.number outcome
of_message part old new outcome adds = whole_number part old new outcome adds.at adds.adds
