-- What a receiver has of a stream stays in order.
use Rattle.std.proofs.Common.{◌≡◌, ◌==◌, ℕ, zero, suc, Bool, true, false, ◌<◌, ◌≤◌, ◌+◌, List, [], ◌∷◌, ◌++◌, take, drop, refl, sym, ◌∙◌, ap, arith, subst, inl, inr}
use Rattle.std.specs.Prelude.{Some, MatchBool, nat_le, if◌then◌else◌}
use Rattle.dcsctp_spec_lemmas.specs.types.queues.Messages.{MessageContent}
use Rattle.dcsctp_spec_lemmas.specs.types.declared.arrivals.SkippedTo.{SkippedTo}
use Rattle.dcsctp_spec_lemmas.specs.types.declared.arrivals.SkippedTo.TheVariants.{Ssn, Mid}
use Rattle.dcsctp_spec_lemmas.specs.types.declared.arrivals.Taken.{Taken}
use Rattle.dcsctp_spec_lemmas.specs.spec.queues.Numbers.{number_near, short_number_near}
use Rattle.dcsctp_spec_lemmas.specs.spec.queues.Runs.{PartModel, WholeModel, Assembly, part_dropped, part_kept, message_whole}
use Rattle.dcsctp_spec_lemmas.specs.spec.queues.IncomingStreams.{StreamModel, new_stream, next_after, due, not_due, next_past, WaitsAmong, OrderedOutcome, TakesOrdered, stream_after_skip, skip_deliveries}
use Rattle.dcsctp_delivery_directions.specs.sending.Places.{HasEntry, at_place}
use Rattle.dcsctp_delivery_directions.specs.sending.Log.{Message, Piece, History}
use Rattle.dcsctp_delivery_directions.proofs.receiving.Distinct.{has_either}
use Rattle.dcsctp_delivery_directions.proofs.receiving.SpentRows.{of_message, IsOfMessage}
use Rattle.dcsctp_delivery_directions.specs.order.Queue.{IsOrderedOn, ComeInOrder, FollowsOn}
use Rattle.dcsctp_delivery_directions.specs.order.Rising.{Rise, DeliversRising, IsAhead, ready_with_part, ready_past}
use Rattle.dcsctp_delivery_directions.specs.order.Order.{IsSentAs, IsReadAs, IsReadBelow, AreReadAs, StreamInOrder, StaysInOrder, IsBetweenResets}
use Rattle.dcsctp_delivery_directions.proofs.order.Rising.{parts_deliver_rows, skips_deliver_rising}

-- ---- lists of places

module _ (queued : List Message) (id : ℕ) where
  in_order_joined : (xs ys : List ℕ) → ComeInOrder queued id xs → ComeInOrder queued id ys → ((x y : ℕ) → HasEntry x xs → HasEntry y ys → IsOrderedOn queued id x → IsOrderedOn queued id y → x < y) → ComeInOrder queued id (xs ++ ys)
  in_order_joined [] ys one two across = two
  in_order_joined (x ∷ xs) ys one two across = (
    λ later has on on'. elim (has_either later xs ys has) [
      | inl l ↦ one.0 later l on on'
      | inr r ↦ across x later (inl refl) r on on'
    ],
    in_order_joined xs ys one.1 two (λ x' y l r. across x' y (inr l) r),
  )

  pub in_order_none : (xs : List ℕ) → ((x : ℕ) → HasEntry x xs → IsOrderedOn queued id x → ⊥) → ComeInOrder queued id xs
  in_order_none [] none = tt
  in_order_none (x ∷ xs) none = (λ later has on on'. absurd (none x (inl refl) on), in_order_none xs (λ x' h. none x' (inr h)))

-- ---- numbers

module _ (history : History) (id : ℕ) where
  -- the message with the higher number was queued later
  sent_in_order : FollowsOn id history.log → (p q m n : ℕ) → IsSentAs history id p m → IsSentAs history id q n → m < n → p < q
  sent_in_order follows p q m n one two less =
      let up = follows one.offset two.offset one.piece two.piece one.at two.at one.stream two.stream (one.ordered ∙ sym two.ordered) (omega (arith, one.under, two.under, less)) in
      omega (arith, up, one.is, two.is)

  read_below : (place number end : ℕ) → IsReadAs history id place number → number < end → IsReadBelow history id place end
  read_below place number end is less = record { mid = is.mid; sent = is.sent; below = (let same = is.counted in omega (arith, same, less)) }

  read_further : (place number end : ℕ) → IsReadBelow history id place number → number ≤ end → IsReadBelow history id place end
  read_further place number end is less = record { mid = is.mid; sent = is.sent; below = (let low = is.below in omega (arith, low, less)) }

  -- what has rising numbers: each is from the first on, below the end
  rise_end : (from end : ℕ) (wholes : List WholeModel) → Rise from end wholes → from ≤ end
  rise_end from end [] rise = rise
  rise_end from end (w ∷ wholes) rise = (let low = rise.0 in let more = rise_end (w.number + 1) end wholes rise.1 in omega (arith, low, more))

  each_below : (from end place : ℕ) (places : List ℕ) (wholes : List WholeModel) → AreReadAs history id places wholes → Rise from end wholes → HasEntry place places → IsReadBelow history id place end
  each_below from end place [] wholes are rise has = absurd has
  each_below from end place (p ∷ places) [] are rise has = absurd are
  each_below from end place (p ∷ places) (w ∷ wholes) are rise has =
      elim has [
        | inl e ↦ (let up = rise_end (w.number + 1) end wholes rise.1 in subst (λ (k : ℕ). IsReadBelow history id k end) (sym e) (read_below p w.number end are.0 (omega (arith, up))))
        | inr t ↦ each_below (w.number + 1) end place places wholes are.1 rise.1 t
      ]

  -- one that is read below the first was queued before each of them
  each_later : FollowsOn id history.log → (from end place earlier : ℕ) (places : List ℕ) (wholes : List WholeModel) → AreReadAs history id places wholes → Rise from end wholes → IsReadBelow history id earlier from → HasEntry place places
      → earlier < place
  each_later follows from end place earlier [] wholes are rise before has = absurd has
  each_later follows from end place earlier (p ∷ places) [] are rise before has = absurd are
  each_later follows from end place earlier (p ∷ places) (w ∷ wholes) are rise before has =
      elim has [
        | inl e ↦
            (let low = rise.0 in
            let below = before.below in
            let number = are.0.counted in
            subst (λ (k : ℕ). earlier < k) (sym e) (sent_in_order follows earlier p before.mid are.0.mid before.sent are.0.sent (omega (arith, low, below, number))))
        | inr t ↦
            (let low = rise.0 in
            each_later follows (w.number + 1) end place earlier places wholes are.1 rise.1 (read_further earlier from (w.number + 1) before (omega (arith, low))) t)
      ]

  rise_in_order : (queued : List Message) → FollowsOn id history.log → (from end : ℕ) (places : List ℕ) (wholes : List WholeModel) → AreReadAs history id places wholes → Rise from end wholes → ComeInOrder queued id places
  rise_in_order queued follows from end [] wholes are rise = tt
  rise_in_order queued follows from end (p ∷ places) [] are rise = absurd are
  rise_in_order queued follows from end (p ∷ places) (w ∷ wholes) are rise = (
    λ later has on on'. each_later follows (w.number + 1) end later p places wholes are.1 rise.1 (read_below p w.number (w.number + 1) are.0 (omega arith)) has,
    rise_in_order queued follows (w.number + 1) end places wholes are.1 rise.1,
  )

  -- ---- what is due, by its places

  record Parts (waits : List ℕ) (ahead left : List WholeModel) : Type 0 where
    front : List ℕ
    back : List ℕ
    are : AreReadAs history id front ahead
    rest : AreReadAs history id back left

  parts_due : (next : ℕ) (waits : List ℕ) (waiting : List WholeModel) → AreReadAs history id waits waiting → Parts waits (due next waiting) (not_due next waiting)
  parts_due next [] [] are = record { front = []; back = []; are = tt; rest = tt }
  parts_due next [] (w ∷ waiting) are = absurd are
  parts_due next (p ∷ waits) [] are = absurd are
  parts_due next (p ∷ waits) (w ∷ waiting) are = go (nat_le w.number next) (parts_due (next_after next w) waits waiting are.1)
    where
      go : (b : Bool) → Parts waits (due (next_after next w) waiting) (not_due (next_after next w) waiting)
          → Parts (p ∷ waits) (if b then w ∷ due (next_after next w) waiting else []) (if b then not_due (next_after next w) waiting else w ∷ waiting)
      go true rest = record { front = p ∷ rest.front; back = rest.back; are = (are.0, rest.are); rest = rest.rest }
      go false rest = record { front = []; back = p ∷ waits; are = tt; rest = are }

  pub read_among : (place k : ℕ) (whole : WholeModel) (places : List ℕ) (wholes : List WholeModel) → IsReadAs history id place whole.number → AreReadAs history id places wholes
      → AreReadAs history id (take k places ++ place ∷ drop k places) (take k wholes ++ whole ∷ drop k wholes)
  read_among place zero whole places wholes is are = (is, are)
  read_among place (suc k) whole [] [] is are = (is, tt)
  read_among place (suc k) whole [] (w ∷ wholes) is are = absurd are
  read_among place (suc k) whole (p ∷ places) [] is are = absurd are
  read_among place (suc k) whole (p ∷ places) (w ∷ wholes) is are = (are.0, read_among place k whole places wholes is are.1)

-- ---- a stream

module _ (queued : List Message) (history : History) (id : ℕ) (all : List ℕ) where
  -- it delivers these
  pub order_then : (waits more later : List ℕ) (old new : StreamModel) (before after : List MessageContent) (delivered : List WholeModel) → FollowsOn id history.log → StreamInOrder queued history id all waits old
      → DeliversRising old before new after delivered → AreReadAs history id more delivered → AreReadAs history id later new.waiting → StreamInOrder queued history id (all ++ more) later new
  order_then waits more later old new before after delivered follows order rising are left =
      record {
        in_order = in_order_joined queued id all more order.in_order (rise_in_order history id queued follows old.next new.next more delivered are rising.rise)
            (λ x y l r on on'. each_later history id follows old.next new.next y x more delivered are rising.rise (order.below x l on) r);
        below = λ place has on. elim (has_either place all more has) [
          | inl l ↦ read_further history id place old.next new.next (order.below place l on) (rise_end history id old.next new.next delivered rising.rise)
          | inr r ↦ each_below history id old.next new.next place more delivered are rising.rise r
        ];
        waiting = left;
        ahead = rising.waits;
      }

  then_in_order : (waits more later : List ℕ) (old new : StreamModel) (before after : List MessageContent) (delivered : List WholeModel) → FollowsOn id history.log → StreamInOrder queued history id all waits old
      → DeliversRising old before new after delivered → AreReadAs history id more delivered → AreReadAs history id later new.waiting → StaysInOrder queued history id all delivered new
  then_in_order waits more later old new before after delivered follows order rising are left =
      record { more = more; waits = later; are = are; order = order_then waits more later old new before after delivered follows order rising are left }

  pub parts_stay : (place : ℕ) (waits : List ℕ) (part : PartModel) (old : StreamModel) (before : List MessageContent) (taken : Taken) (new : StreamModel) (after : List MessageContent)
      → FollowsOn id history.log → StreamInOrder queued history id all waits old → IsReadAs history id place part.number → IsAhead part old → (does : TakesOrdered part old before taken new after)
      → StaysInOrder queued history id all (ready_with_part old does.outcome) new
  parts_stay place waits part old before taken new after follows order is ahead does =
      by_outcome does.outcome does.does (of_message part old.ordered new.ordered does.outcome does.parts) (parts_deliver_rows part old before taken new after order.ahead ahead does).rising
    where
      kept : new.waiting ≡ old.waiting → AreReadAs history id waits new.waiting
      kept same = subst (λ (l : List WholeModel). AreReadAs history id waits l) (sym same) order.waiting

      by_outcome : (outcome : Assembly) → OrderedOutcome part old before outcome taken new after → IsOfMessage part.number outcome → DeliversRising old before new after (ready_with_part old outcome) → StaysInOrder queued history id all (ready_with_part old outcome) new
      by_outcome part_dropped same of rising = then_in_order waits [] waits old new before after [] follows order rising tt (kept (ap (λ (s : StreamModel). s.waiting) same.0))
      by_outcome part_kept same of rising = then_in_order waits [] waits old new before after [] follows order rising tt (kept same.1)
      by_outcome (message_whole whole) t of rising = go (whole.number == old.next) t.waiting rising
        where
          its : IsReadAs history id place whole.number
          its = subst (λ (k : ℕ). IsReadAs history id place k) (sym of) is

          go : (b : Bool) → MatchBool b (new.waiting ≡ not_due (next_after old.next whole) old.waiting) (WaitsAmong whole old.waiting new.waiting)
              → DeliversRising old before new after (if b then whole ∷ due (next_after old.next whole) old.waiting else [])
              → StaysInOrder queued history id all (if b then whole ∷ due (next_after old.next whole) old.waiting else []) new
          go true left rising' =
              let split = parts_due history id (next_after old.next whole) waits old.waiting order.waiting in
              then_in_order waits (place ∷ split.front) split.back old new before after (whole ∷ due (next_after old.next whole) old.waiting) follows order rising' (its, split.are)
              (subst (λ (l : List WholeModel). AreReadAs history id split.back l) (sym left) split.rest)
          go false among rising' =
              then_in_order waits [] (take among.at waits ++ place ∷ drop among.at waits) old new before after [] follows order rising' tt
              (subst (λ (l : List WholeModel). AreReadAs history id (take among.at waits ++ place ∷ drop among.at waits) l) (sym among.waiting) (read_among history id place among.at whole waits old.waiting its order.waiting))

  pub skips_stay : (waits : List ℕ) (entry : SkippedTo) (old : StreamModel) → FollowsOn id history.log → StreamInOrder queued history id all waits old → StaysInOrder queued history id all (ready_past entry old) (stream_after_skip entry old)
  skips_stay waits (Ssn on ssn) old follows order =
      let split = parts_due history id (next_past (short_number_near old.next ssn) old.next) waits old.waiting order.waiting in
      then_in_order waits split.front split.back old (stream_after_skip (Ssn on ssn) old) [] ([] ++ skip_deliveries (Ssn on ssn) old) (ready_past (Ssn on ssn) old) follows order (skips_deliver_rising (Ssn on ssn) old [] order.ahead) split.are split.rest
  skips_stay waits (Mid on false mid) old follows order =
      let split = parts_due history id (next_past (number_near old.next mid) old.next) waits old.waiting order.waiting in
      then_in_order waits split.front split.back old (stream_after_skip (Mid on false mid) old) [] ([] ++ skip_deliveries (Mid on false mid) old) (ready_past (Mid on false mid) old) follows order (skips_deliver_rising (Mid on false mid) old [] order.ahead) split.are split.rest
  skips_stay waits (Mid on true mid) old follows order =
      then_in_order waits [] waits old (stream_after_skip (Mid on true mid) old) [] ([] ++ skip_deliveries (Mid on true mid) old) [] follows order (skips_deliver_rising (Mid on true mid) old [] order.ahead) tt order.waiting

  pub others_stay : (waits more : List ℕ) (stream : StreamModel) → ((place : ℕ) → HasEntry place more → IsOrderedOn queued id place → ⊥) → StreamInOrder queued history id all waits stream → StreamInOrder queued history id (all ++ more) waits stream
  others_stay waits more stream none order =
      record {
        in_order = in_order_joined queued id all more order.in_order (in_order_none queued id more none) (λ x y l r on on'. absurd (none y r on'));
        below = λ place has on. elim (has_either place all more has) [
          | inl l ↦ order.below place l on
          | inr r ↦ absurd (none place r on)
        ];
        waiting = order.waiting;
        ahead = order.ahead;
      }

  pub others_between : (more : List ℕ) → ((place : ℕ) → HasEntry place more → IsOrderedOn queued id place → ⊥) → IsBetweenResets queued history id all → IsBetweenResets queued history id (all ++ more)
  others_between more none between =
      record {
        in_order = in_order_joined queued id all more between.in_order (in_order_none queued id more none) (λ x y l r on on'. absurd (none y r on'));
        sent = λ place has on. elim (has_either place all more has) [
          | inl l ↦ between.sent place l on
          | inr r ↦ absurd (none place r on)
        ];
      }

  pub come_between : (waits : List ℕ) (stream : StreamModel) → StreamInOrder queued history id all waits stream → IsBetweenResets queued history id all
  come_between waits stream order =
      record { in_order = order.in_order; sent = λ place has on. (let is = order.below place has on in (is.mid, is.sent)) }

  pub resets_stay : (floors : ℕ → Bool → ℕ) → ((n : ℕ) (f : Piece) → at_place n history.log ≡ Some (Some f) → f.message.stream ≡ id → f.message.is_unordered ≡ false → f.mid < floors id false)
      → IsBetweenResets queued history id all → StreamInOrder queued (record history { floors = floors }) id all [] (new_stream id)
  resets_stay floors raised between =
      record {
        in_order = between.in_order;
        below = λ place has on. (
            let (mid, sent) = between.sent place has on in
            let low = raised sent.offset sent.piece sent.at sent.stream sent.ordered in
            let same = sent.under in
            record {
              mid = mid;
              sent = record { offset = sent.offset; piece = sent.piece; at = sent.at; is = sent.is; stream = sent.stream; ordered = sent.ordered; under = sent.under };
              below = omega (arith, low, same);
            }
            );
        waiting = tt;
        ahead = tt;
      }

pub new_in_order : (queued : List Message) (history : History) (id : ℕ) → StreamInOrder queued history id [] [] (new_stream id)
new_in_order queued history id = record { in_order = tt; below = λ place has on. absurd has; waiting = tt; ahead = tt }
