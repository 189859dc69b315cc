-- The MIDs of a log of I-DATA are read right, and distinguish its messages.
use Rattle.std.proofs.Common.{◌≡◌, ◌==◌, ℕ, Bool, true, false, ◌<◌, ◌+◌, ◌-◌, ◌≤◌, ◌%◌, ◌^◌, List, [], ◌∷◌, refl, sym, ◌∙◌, ap, arith, subst}
use Rattle.std.specs.Prelude.{Some, min, nat_le, if◌then◌else◌}
use Rattle.std.proofs.lemmas.Bool.{eqb-true}
use Rattle.dcsctp_spec_lemmas.specs.types.queues.Messages.{MessageContent}
use Rattle.dcsctp_spec_lemmas.specs.types.declared.arrivals.Taken.{Taken}
use Rattle.dcsctp_spec_lemmas.specs.spec.queues.Numbers.{number_near}
use Rattle.dcsctp_spec_lemmas.specs.spec.queues.Runs.{PartModel, WholeModel, Assembly, part_dropped, part_kept, message_whole}
use Rattle.dcsctp_spec_lemmas.specs.spec.queues.IncomingStreams.{StreamModel, next_after, next_due, next_past, OrderedOutcome}
use Rattle.dcsctp_delivery_directions.specs.sending.Places.{at_place}
use Rattle.dcsctp_delivery_directions.specs.sending.Log.{Message, Piece, Slot, History}
use Rattle.dcsctp_delivery_directions.specs.sending.Numbers.{IsUnambiguous, plain, interleaved, IsCurrent}
use Rattle.dcsctp_delivery_directions.specs.receiving.Rows.{IsQueued, MakesQueued}
use Rattle.dcsctp_delivery_directions.specs.receiving.Ready.{IsNumberedAs, IsOn, IsOfStream, IsWindow, ReadsMids, WaitQueued}
use Rattle.dcsctp_delivery_directions.proofs.receiving.Near.{near_read, near_moves, near_next, near_past}

-- ---- the floor of a stream

floor_of : (history : History) (g : Piece) (id : ℕ) (is_unordered : Bool) → g.message.stream ≡ id → g.message.is_unordered ≡ is_unordered → IsCurrent history g → history.floors id is_unordered ≤ g.mid
floor_of history g id is_unordered on kind current =
    subst (λ (k : ℕ). history.floors k is_unordered ≤ g.mid) on (subst (λ (b : Bool). history.floors g.message.stream b ≤ g.mid) kind current)

ceiling_of : (history : History) (g : Piece) (id : ℕ) (is_unordered : Bool) → g.message.stream ≡ id → g.message.is_unordered ≡ is_unordered
    → g.mid < history.floors g.message.stream g.message.is_unordered + 2 ^ 31 → g.mid < history.floors id is_unordered + 2 ^ 31
ceiling_of history g id is_unordered on kind less =
    subst (λ (k : ℕ). g.mid < history.floors k is_unordered + 2 ^ 31) on (subst (λ (b : Bool). g.mid < history.floors g.message.stream b + 2 ^ 31) kind less)

-- ---- a message that is read

module _ (history : History) (id : ℕ) (is_unordered : Bool) (n : ℕ) (f : Piece) (at : at_place n history.log ≡ Some (Some f)) (on : f.message.stream ≡ id) (kind : f.message.is_unordered ≡ is_unordered)
    (current : IsCurrent history f) (number : ℕ) (reads : ReadsMids history id is_unordered number) where
  pub reads_moved : ReadsMids history id is_unordered (number_near number (f.mid % 2 ^ 32))
  reads_moved start w = near_moves start f.mid number (w.from n f at on kind current) (w.below n f at on kind current) (reads start w)

  pub reads_past : ReadsMids history id is_unordered (next_past (number_near number (f.mid % 2 ^ 32)) number)
  reads_past start w = near_past start f.mid number (w.from n f at on kind current) (w.below n f at on kind current) (reads start w)

  pub reads_next : number % 2 ^ 32 ≡ f.mid % 2 ^ 32 → ReadsMids history id is_unordered (min (number + 1) (2 ^ 64 - 1))
  reads_next agrees start w = near_next start f.mid number (w.from n f at on kind current) (w.below n f at on kind current) (reads start w) agrees

  -- its window begins at the floor
  pub reads_agree : IsUnambiguous history → f.is_interleaved ≡ true → number_near number (f.mid % 2 ^ 32) % 2 ^ 32 ≡ f.mid % 2 ^ 32
  reads_agree (plain kinds) is = absurd (let clash : true ≡ false = sym is ∙ kinds n f at in cc)
  reads_agree (interleaved kinds few below apart dense) is =
      let w : IsWindow history id is_unordered (history.floors id is_unordered) = (record {
        kinds = kinds;
        from = λ m g at' on' kind' current'. floor_of history g id is_unordered on' kind' current';
        below = λ m g at' on' kind' current'. ceiling_of history g id is_unordered on' kind' (below m g at');
      }) in
      near_read (history.floors id is_unordered) f.mid number (w.from n f at on kind current) (w.below n f at on kind current) (reads (history.floors id is_unordered) w)

-- ---- messages are distinguished by their numbers

same_mid : (start one other number : ℕ) → start ≤ one → one < start + 2 ^ 31 → start ≤ other → other < start + 2 ^ 31 → number % 2 ^ 32 ≡ one % 2 ^ 32 → number % 2 ^ 32 ≡ other % 2 ^ 32 → one ≡ other
same_mid start one other number from below from' below' is is' = omega (arith, is, is')

pub tells_as : (history : History) → IsUnambiguous history → (is_unordered : Bool) (id m n : ℕ) (f g : Piece) (number : ℕ) → at_place m history.log ≡ Some (Some f) → at_place n history.log ≡ Some (Some g)
    → f.is_interleaved ≡ true → g.is_interleaved ≡ true → (f.message.stream ≡ id) × IsNumberedAs history is_unordered f number → (g.message.stream ≡ id) × IsNumberedAs history is_unordered g number → f.place ≡ g.place
tells_as history (plain kinds) is_unordered id m n f g number at at' is is' named named' = absurd (let clash : true ≡ false = sym is ∙ kinds m f at in cc)
tells_as history (interleaved kinds few below apart dense) is_unordered id m n f g number at at' is is' named named' =
    let one = named.1 is in
    let two = named'.1 is' in
    apart m n f g at at' (named.0 ∙ sym named'.0) (one.0 ∙ sym two.0)
    (same_mid (history.floors id is_unordered) f.mid g.mid number
    (floor_of history f id is_unordered named.0 one.0 one.2) (ceiling_of history f id is_unordered named.0 one.0 (below m f at))
    (floor_of history g id is_unordered named'.0 two.0 two.2) (ceiling_of history g id is_unordered named'.0 two.0 (below n g at')) one.1 two.1)

-- parts of unordered messages of DATA aren't of I-DATA
pub tells_plain : (log : List Slot) (m n : ℕ) (f g : Piece) (number : ℕ) → at_place m log ≡ Some (Some f) → at_place n log ≡ Some (Some g) → f.is_interleaved ≡ true → g.is_interleaved ≡ true → IsOfStream f number → IsOfStream g number
    → f.place ≡ g.place
tells_plain log m n f g number at at' is is' named named' = absurd (let clash : true ≡ false = sym is ∙ named.1 in cc)

-- ---- the next number

module _ (queued : List Message) (history : History) (got : List ℕ) (id : ℕ) where
  reads_after : (place next : ℕ) (whole : WholeModel) → IsQueued queued history.log got (IsOn history id) place whole → ReadsMids history id false next → ReadsMids history id false (next_after next whole)
  reads_after place next whole is reads = go (whole.number == next) refl
    where
      go : (b : Bool) → (whole.number == next) ≡ b → ReadsMids history id false (if b then min (next + 1) (2 ^ 64 - 1) else next)
      go false e = reads
      go true e = λ start w. (
          let number = is.number.1 (w.kinds is.offset is.head is.at) in
          let same : whole.number ≡ next = eqb-true whole.number next e in
          reads_next history id false is.offset is.head is.at is.number.0 number.0 number.2 next reads (ap (λ (k : ℕ). k % 2 ^ 32) (sym same) ∙ number.1) start w
          )

  pub reads_due : (next : ℕ) (places : List ℕ) (waiting : List WholeModel) → WaitQueued queued history got id places waiting → ReadsMids history id false next → ReadsMids history id false (next_due next waiting)
  reads_due next [] [] wait reads = reads
  reads_due next [] (w ∷ waiting) wait reads = absurd wait
  reads_due next (p ∷ places) [] wait reads = reads
  reads_due next (p ∷ places) (w ∷ waiting) wait reads = go (nat_le w.number next) (reads_due (next_after next w) places waiting wait.1 (reads_after p next w wait.0 reads))
    where
      go : (b : Bool) → ReadsMids history id false (next_due (next_after next w) waiting) → ReadsMids history id false (if b then next_due (next_after next w) waiting else next)
      go true rest = rest
      go false rest = reads

  -- an ordered part
  pub ordered_reads : (place : ℕ) (waits : List ℕ) (part : PartModel) (old new : StreamModel) (before after : List MessageContent) (outcome : Assembly) (taken : Taken) → WaitQueued queued history got id waits old.waiting
      → MakesQueued queued history.log got (IsOn history id) place outcome → OrderedOutcome part old before outcome taken new after → ReadsMids history id false old.next → ReadsMids history id false new.next
  ordered_reads place waits part old new before after part_dropped taken wait makes does reads = subst (λ (s : StreamModel). ReadsMids history id false s.next) (sym does.0) reads
  ordered_reads place waits part old new before after part_kept taken wait makes does reads = subst (λ (k : ℕ). ReadsMids history id false k) (sym does.0) reads
  ordered_reads place waits part old new before after (message_whole whole) taken wait makes does reads =
      subst (λ (k : ℕ). ReadsMids history id false k) (sym does.next)
      (go (whole.number == old.next) (reads_due (next_after old.next whole) waits old.waiting wait (reads_after place old.next whole makes reads)))
    where
      go : (b : Bool) → ReadsMids history id false (next_due (next_after old.next whole) old.waiting) → ReadsMids history id false (if b then next_due (next_after old.next whole) old.waiting else old.next)
      go true rest = rest
      go false rest = reads
