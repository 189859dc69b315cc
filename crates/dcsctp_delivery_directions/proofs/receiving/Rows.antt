-- A part joins its neighbours, and makes a row.
use Rattle.std.proofs.Common.{◌≡◌, ◌==◌, ℕ, zero, suc, Bool, true, false, ◌<◌, ◌+◌, ◌-◌, ◌≤◌, List, [], ◌∷◌, ◌++◌, length, take, drop, refl, sym, ◌∙◌, ap, arith, subst, inl, inr}
use Rattle.std.specs.Prelude.{◌&&◌, not, Option, None, Some, is_some, slice_get, if◌then◌else◌}
use Rattle.std.proofs.lemmas.Bool.{eqb-true}
use Rattle.std.proofs.lemmas.Bool.Decides.{leb_tells}
use Rattle.std.proofs.lemmas.List.{take_all, length-append, append-nil}
use Rattle.dcsctp_spec_lemmas.specs.spec.queues.Runs.{RunModel, PartModel, WholeModel, Assembly, part_dropped, part_kept, message_whole, joined_bytes, whole_run, AssemblesPart, IsRunPlace, entry_before, StartsUpTo, StartsBehind, follows, precedes, following, preceding, run_before, run_behind, single_run, chained_run, run_with_part, merged_run, front_end, back_start, is_whole}
use Rattle.dcsctp_delivery_directions.specs.sending.Places.{HasEntry, at_place}
use Rattle.dcsctp_delivery_directions.specs.sending.Log.{Message, Piece, Slot, IsLogOfPieces}
use Rattle.dcsctp_delivery_directions.specs.receiving.Rows.{IsPart, IsPieceRow, AreRows, IsQueued, MakesQueued}
use Rattle.dcsctp_delivery_directions.proofs.receiving.Chaining.{OneKind, data_alone, interleaved_alone, ComesAfter, rows_follow}
use Rattle.dcsctp_delivery_directions.proofs.receiving.Joining.{same_merged, stretched, started, both, joined_two, denied}

module _ (queued : List Message) (log : List Slot) (cut : IsLogOfPieces queued log) (told : OneKind log) (got : List ℕ) (base : ℕ → ℕ) (Named : Piece → ℕ → Type 0)
    (tells : (m n : ℕ) (f g : Piece) (number : ℕ) → at_place m log ≡ Some (Some f) → at_place n log ≡ Some (Some g) → f.is_interleaved ≡ true → g.is_interleaved ≡ true → Named f number → Named g number → f.place ≡ g.place) where
  -- a part alone
  single_row : (part : PartModel) (is : IsPart log base Named part) → HasEntry is.offset got → IsPieceRow log got base Named (single_run part)
  single_row part is has =
      record {
        offset = is.offset;
        head = is.piece;
        last_offset = is.offset;
        last = is.piece;
        at_head = is.at;
        at_last = is.at;
        first = is.place;
        later = omega arith;
        fsns = refl;
        near = λ kind. omega arith;
        spread = omega arith;
        some = omega arith;
        covered = λ n f at of from to. (let same : n ≡ is.offset = omega (arith, from, to) in subst (λ (k : ℕ). HasEntry k got) (sym same) has);
        place = refl;
        message = refl;
        order = omega arith;
        payload = append-nil part.payload ∙ is.payload ∙ ap (λ (k : ℕ). take k (drop is.piece.start is.piece.message.payload)) (omega arith);
        number = is.number;
        ppid = is.ppid;
        beginning = is.beginning;
        end = is.end;
      }

  -- without interleaving two runs lie on TSNs in a row
  chained_near : (front back : RunModel) → (f : IsPieceRow log got base Named front) → (b : IsPieceRow log got base Named back) → ComesAfter log f.last_offset f.last b.offset b.head → f.head.is_interleaved ≡ false
      → b.last_offset + 1 ≡ f.offset + length (front.payloads ++ back.payloads)
  chained_near front back f b after kind = go told
    where
      go : OneKind log → b.last_offset + 1 ≡ f.offset + length (front.payloads ++ back.payloads)
      go (interleaved_alone kinds few) = (let clash : true ≡ false = sym (kinds f.offset f.head f.at_head) ∙ kind in absurd (cc))
      go (data_alone kinds) =
          let other = kinds b.offset b.head b.at_head in
          let near = f.near kind in
          let near' = b.near other in
          let next = after.near other in
          omega (arith, near, near', next, length-append front.payloads back.payloads)

  -- two runs in one
  chained_row : (front back : RunModel) → IsPieceRow log got base Named front → IsPieceRow log got base Named back → back.first ≡ front.first + length front.payloads → front.number ≡ back.number → back.has_beginning ≡ false
      → IsPieceRow log got base Named (chained_run front back)
  chained_row front back f b follows same_number goes_on =
      let after = rows_follow queued log cut told got base Named tells front back f b follows same_number (started b.head (sym b.beginning ∙ goes_on)) in
      let less = after.less in
      let message : b.head.message ≡ f.head.message = sym after.message ∙ f.message in
      let size = length-append front.payloads back.payloads in
      record {
        offset = f.offset;
        head = f.head;
        last_offset = b.last_offset;
        last = b.last;
        at_head = f.at_head;
        at_last = b.at_last;
        first = f.first;
        later = omega (arith, f.later, b.later, less);
        fsns = (let fsns = f.fsns in let fsns' = b.fsns in let fsn = after.fsn in omega (arith, fsns, fsns', fsn, size));
        near = λ kind. chained_near front back f b after kind;
        spread = (let spread = f.spread in let spread' = b.spread in omega (arith, spread, spread', size, less));
        some = omega (arith, f.some, size);
        covered = λ n g at of from to. elim (leb_tells n f.last_offset) [
          | inl e ↦ f.covered n g at of from e.1
          | inr e ↦
              (let past : f.last_offset < n = e.1 in
              elim (leb_tells b.offset n) [
                | inl e' ↦ b.covered n g at (of ∙ sym f.place ∙ after.place) e'.1 to
                | inr e' ↦ (let short : n < b.offset = e'.1 in absurd (after.apart n g past short at (of ∙ sym f.place ∙ after.place)))
              ])
        ];
        place = b.place ∙ sym after.place ∙ f.place;
        message = b.message ∙ message;
        order = (let start = after.start in omega (arith, f.order, b.order, start));
        payload = joined_two front.payloads back.payloads
            ∙ stretched f.head.message.payload b.head.message.payload f.head.start (f.last.start + f.last.size) b.head.start (b.last.start + b.last.size) (joined_bytes front.payloads) (joined_bytes back.payloads)
            f.payload b.payload (sym after.start) (ap (λ (m : Message). m.payload) message) (omega (arith, f.order)) (omega (arith, b.order));
        number = f.number;
        ppid = f.ppid;
        beginning = f.beginning;
        end = b.end;
      }

  -- ---- lists

  row_at : (runs : List RunModel) (k : ℕ) (run : RunModel) → AreRows log got base Named runs → slice_get runs k ≡ Some run → IsPieceRow log got base Named run
  row_at [] k run are at = absurd (cc)
  row_at (r ∷ runs) zero run are at = let same : r ≡ run = cc in subst (λ (x : RunModel). IsPieceRow log got base Named x) same are.0
  row_at (r ∷ runs) (suc k) run are at = row_at runs k run are.1 at

  row_before : (at : ℕ) (runs : List RunModel) (run : RunModel) → AreRows log got base Named runs → entry_before at runs ≡ Some run → IsPieceRow log got base Named run
  row_before zero runs run are e = absurd (cc)
  row_before (suc at) runs run are e = row_at runs at run are e

  rows_take : (k : ℕ) (runs : List RunModel) → AreRows log got base Named runs → AreRows log got base Named (take k runs)
  rows_take zero runs are = tt
  rows_take (suc k) [] are = tt
  rows_take (suc k) (r ∷ runs) are = (are.0, rows_take k runs are.1)

  rows_drop : (k : ℕ) (runs : List RunModel) → AreRows log got base Named runs → AreRows log got base Named (drop k runs)
  rows_drop zero runs are = are
  rows_drop (suc k) [] are = tt
  rows_drop (suc k) (r ∷ runs) are = rows_drop k runs are.1

  rows_both : (runs others : List RunModel) → AreRows log got base Named runs → AreRows log got base Named others → AreRows log got base Named (runs ++ others)
  rows_both [] others are are' = are'
  rows_both (r ∷ runs) others are are' = (are.0, rows_both runs others are.1 are')

  -- ---- the neighbours of a part

  Joins : PartModel → Option RunModel → Type 0
  Joins part None = Unit {0}
  Joins part (Some run) = IsPieceRow log got base Named run × (run.first + length run.payloads ≡ part.place) × (part.is_beginning ≡ false) × (run.number ≡ part.number)

  IsJoined : PartModel → Option RunModel → Type 0
  IsJoined part None = Unit {0}
  IsJoined part (Some run) = IsPieceRow log got base Named run × (run.first ≡ part.place + 1) × (run.has_beginning ≡ false) × (run.number ≡ part.number)

  joins_before : (at : ℕ) (runs : List RunModel) (part : PartModel) → AreRows log got base Named runs → IsRunPlace at part.place runs → Joins part (run_before at runs part)
  unfolding Joins
  joins_before at runs part are place = go (entry_before at runs) refl place.before
    where
      joined : (run : RunModel) (b : Bool) → follows run part ≡ b → IsPieceRow log got base Named run → run.first ≤ part.place → Joins part (if b then Some run else None)
      joined run true e row up =
          let (rest, inside) = both (((part.place - run.first) == length run.payloads) && (run.number == part.number) && not run.has_end) (not part.is_beginning) e in
          let (rest', open_end) = both (((part.place - run.first) == length run.payloads) && (run.number == part.number)) (not run.has_end) rest in
          let (size, same) = both ((part.place - run.first) == length run.payloads) (run.number == part.number) rest' in
          let is : part.place - run.first ≡ length run.payloads = eqb-true _ _ size in
          (row, omega arith, denied part.is_beginning inside, eqb-true run.number part.number same)
      joined run false e row up = tt

      go : (found : Option RunModel) → entry_before at runs ≡ found → StartsUpTo part.place found → Joins part (following found part)
      go None e up = tt
      go (Some run) e up = joined run (follows run part) refl (row_before at runs run are e) up

  joined_behind : (at : ℕ) (runs : List RunModel) (part : PartModel) → AreRows log got base Named runs → IsRunPlace at part.place runs → IsJoined part (run_behind part at runs)
  unfolding IsJoined
  joined_behind at runs part are place = go (slice_get runs at) refl place.behind
    where
      joined : (run : RunModel) (b : Bool) → precedes part run ≡ b → IsPieceRow log got base Named run → part.place < run.first → IsJoined part (if b then Some run else None)
      joined run true e row offset =
          let (rest, inside) = both (((run.first - part.place) == 1) && (run.number == part.number) && not part.is_end) (not run.has_beginning) e in
          let (rest', open_end) = both (((run.first - part.place) == 1) && (run.number == part.number)) (not part.is_end) rest in
          let (near, same) = both ((run.first - part.place) == 1) (run.number == part.number) rest' in
          let is : run.first - part.place ≡ 1 = eqb-true _ _ near in
          (row, omega arith, denied run.has_beginning inside, eqb-true run.number part.number same)
      joined run false e row offset = tt

      go : (found : Option RunModel) → slice_get runs at ≡ found → StartsBehind part.place found → IsJoined part (preceding part found)
      go None e offset = tt
      go (Some run) e offset = joined run (precedes part run) refl (row_at runs at run are e) offset

  -- a part that follows is of the same message
  follows_on : (front : RunModel) (part : PartModel) (f : IsPieceRow log got base Named front) (is : IsPart log base Named part) → HasEntry is.offset got → part.place ≡ front.first + length front.payloads → front.number ≡ part.number → part.is_beginning ≡ false
      → is.piece.place ≡ f.head.place
  unfolding single_row
  follows_on front part f is has follows same_number goes_on =
      sym (rows_follow queued log cut told got base Named tells front (single_run part) f (single_row part is has) follows same_number (started is.piece (sym is.beginning ∙ goes_on))).place ∙ f.place

  -- a row, whose message this is
  MergedRow : ℕ → RunModel → Type 0
  MergedRow place run = (row : IsPieceRow log got base Named run) × (row.head.place ≡ place)

  merged_row : (front : Option RunModel) (part : PartModel) (back : Option RunModel) (is : IsPart log base Named part) → HasEntry is.offset got → Joins part front → IsJoined part back
      → MergedRow is.piece.place (run_with_part front part back)
  unfolding Joins IsJoined MergedRow single_row chained_row
  merged_row None part None is has f b = (single_row part is has, refl)
  merged_row (Some front) part None is has f b =
      let single = single_row part is has in (
        chained_row front (single_run part) f.0 single (sym f.1) f.3 f.2,
        sym (follows_on front part f.0 is has (sym f.1) f.3 f.2),
      )
  merged_row None part (Some back) is has f b = (chained_row (single_run part) back (single_row part is has) b.0 b.1 (sym b.3) b.2, refl)
  merged_row (Some front) part (Some back) is has f b =
      let single = single_row part is has in (
        chained_row front (chained_run (single_run part) back) f.0 (chained_row (single_run part) back single b.0 b.1 (sym b.3) b.2) (sym f.1) f.3 f.2,
        sym (follows_on front part f.0 is has (sym f.1) f.3 f.2),
      )

  whole_row : (run : RunModel) (whole : WholeModel) (place : ℕ) → MergedRow place run → is_whole run ≡ true → whole ≡ whole_run run → IsQueued queued log got Named place whole
  unfolding MergedRow
  whole_row run whole place (row, of) is e =
      let (begins, ends) = both run.has_beginning run.has_end is in
      let zero_at : row.head.start ≡ 0 = eqb-true row.head.start 0 (sym row.beginning ∙ begins) in
      let end_at : row.last.start + row.last.size ≡ length row.last.message.payload = eqb-true _ _ (sym row.end ∙ ends) in
      let size : length row.last.message.payload ≡ length row.head.message.payload = ap (λ (m : Message). length m.payload) row.message in
      let all : row.last.start + row.last.size - row.head.start ≡ length row.head.message.payload = omega arith in
      record {
        offset = row.offset;
        head = row.head;
        at = row.at_head;
        is = of;
        queued_at = subst (λ (k : ℕ). at_place k queued ≡ Some row.head.message) of (cut.pieces row.offset row.head row.at_head).at;
        number = subst (λ (w : WholeModel). Named row.head w.number) (sym e) row.number;
        ppid = ap (λ (w : WholeModel). w.ppid) e ∙ row.ppid (sym row.beginning ∙ begins);
        payload = ap (λ (w : WholeModel). w.payload) e ∙ row.payload
            ∙ ap (λ (k : ℕ). take k (drop row.head.start row.head.message.payload)) all
            ∙ ap (λ (k : ℕ). take (length row.head.message.payload) (drop k row.head.message.payload)) zero_at ∙ take_all (length row.head.message.payload) row.head.message.payload (omega arith);
        spent = record {
          offset = row.offset;
          head = row.head;
          last_offset = row.last_offset;
          last = row.last;
          at_head = row.at_head;
          at_last = row.at_last;
          is = of;
          starts = zero_at;
          same = row.place ∙ of;
          ends = sym row.end ∙ ends;
          order = row.later;
          covered = λ n f at same from to. row.covered n f at (same ∙ sym of) from to;
        };
      }

  pub outcome_rows : (part : PartModel) (old new : List RunModel) (outcome : Assembly) (at : ℕ) (is : IsPart log base Named part) → HasEntry is.offset got → AreRows log got base Named old → IsRunPlace at part.place old → AssemblesPart at part old outcome new
      → AreRows log got base Named new × MakesQueued queued log got Named is.piece.place outcome
  unfolding MergedRow
  outcome_rows part old new part_dropped at is has are place adds = (subst (λ (l : List RunModel). AreRows log got base Named l) (sym adds.1) are, tt)
  outcome_rows part old new part_kept at is has are place adds =
      let row = merged_row (run_before at old part) part (run_behind part at old) is has (joins_before at old part are place) (joined_behind at old part are place) in
      let row' = subst (λ (r : RunModel). IsPieceRow log got base Named r) (sym (same_merged at old part)) row.0 in (
        subst (λ (l : List RunModel). AreRows log got base Named l) (sym adds.2)
            (rows_both (take (front_end (is_some (run_before at old part)) at) old) _ (rows_take (front_end (is_some (run_before at old part)) at) old are)
            (row', rows_drop (back_start (is_some (run_behind part at old)) at) old are)),
        tt,
      )
  outcome_rows part old new (message_whole whole) at is has are place adds =
      let row = merged_row (run_before at old part) part (run_behind part at old) is has (joins_before at old part are place) (joined_behind at old part are place) in (
        subst (λ (l : List RunModel). AreRows log got base Named l) (sym adds.3)
            (rows_both (take (front_end (is_some (run_before at old part)) at) old) (drop (back_start (is_some (run_behind part at old)) at) old) (rows_take (front_end (is_some (run_before at old part)) at) old are)
            (rows_drop (back_start (is_some (run_behind part at old)) at) old are)),
        whole_row (merged_run at old part) whole is.piece.place row adds.1 adds.2,
      )
