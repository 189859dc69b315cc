-- What a part leaves on its stream, in order.
use Rattle.std.proofs.Common.{◌≡◌, ◌==◌, ℕ, zero, suc, Bool, true, false, ◌≤◌, ◌+◌, List, [], ◌∷◌, ◌++◌, take, drop, map, refl, sym, ◌∙◌, ap, arith, subst, inl, inr}
use Rattle.std.specs.Prelude.{Some, nat_le, MatchBool, if◌then◌else◌}
use Rattle.std.proofs.lemmas.List.{append-nil}
use Rattle.dcsctp_spec_lemmas.specs.types.queues.Messages.{MessageContent}
use Rattle.dcsctp_spec_lemmas.specs.types.declared.arrivals.Taken.{Taken}
use Rattle.dcsctp_spec_lemmas.specs.spec.queues.Runs.{PartModel, WholeModel, Assembly, part_dropped, part_kept, message_whole}
use Rattle.dcsctp_spec_lemmas.specs.spec.queues.IncomingStreams.{StreamModel, delivered_as, next_after, due, not_due, ready_with, WaitsAmong, OrderedOutcome, UnorderedOutcome, TakesOrdered}
use Rattle.dcsctp_delivery_directions.specs.sending.Places.{HasEntry, at_place}
use Rattle.dcsctp_delivery_directions.specs.sending.Log.{Message, History, sent_messages}
use Rattle.dcsctp_delivery_directions.specs.receiving.Rows.{Spent, IsQueued, MakesQueued}
use Rattle.dcsctp_delivery_directions.specs.receiving.Ready.{IsOn, AreDistinct, WasQueued, WereQueued, WaitQueued}
use Rattle.dcsctp_delivery_directions.proofs.receiving.Distinct.{appended, has_either, has_left, has_right, distinct_with}
use Rattle.dcsctp_delivery_directions.proofs.receiving.SpentRows.{of_message, IsOfMessage}
use Rattle.dcsctp_delivery_directions.proofs.receiving.Waiting.{OfStream, both_queued, renamed, wait_spent, Split, split_due}
use Rattle.dcsctp_delivery_directions.specs.order.Queue.{IsMessageOn, IsOrderedOn, Cut, AreSeparated}
use Rattle.dcsctp_delivery_directions.specs.order.Rising.{AscendFrom, DeliversRow, IsAhead, ready_with_part}
use Rattle.dcsctp_delivery_directions.specs.order.Order.{IsReadAs, IsReadBelow, AreReadAs, AreFilled}
use Rattle.dcsctp_delivery_directions.specs.order.Epochs.{AreReadByEpoch}
use Rattle.dcsctp_delivery_directions.specs.order.Reading.{CountsFromZero, IsInReach, OrderedStream, Watch}
use Rattle.dcsctp_delivery_directions.specs.order.Incoming.{IsOrderedOrReset}
use Rattle.dcsctp_delivery_directions.proofs.order.Rising.{parts_deliver_rows}
use Rattle.dcsctp_delivery_directions.proofs.order.Epochs.{others_by_epoch, row_by_epoch}
use Rattle.dcsctp_delivery_directions.proofs.order.Order.{order_then, read_among, others_stay, others_between}
use Rattle.dcsctp_delivery_directions.proofs.order.Reading.{numbers_are_fresh, parts_in_reach}
use Rattle.dcsctp_delivery_directions.proofs.order.Separated.{separated_others, separated_more, read_since}

-- ---- what is due, by its places

pub due_all : (next : ℕ) (waiting : List WholeModel) → due next waiting ++ not_due next waiting ≡ waiting
due_all next [] = refl
due_all next (w ∷ waiting) = go (nat_le w.number next) (due_all (next_after next w) waiting)
  where
    go : (b : Bool) → due (next_after next w) waiting ++ not_due (next_after next w) waiting ≡ waiting
        → (if b then w ∷ due (next_after next w) waiting else []) ++ (if b then not_due (next_after next w) waiting else w ∷ waiting) ≡ w ∷ waiting
    go true rest = ap (λ (l : List WholeModel). w ∷ l) rest
    go false rest = refl

pub split_read : (queued : List Message) (history : History) (id on : ℕ) (front back : List ℕ) (ahead left : List WholeModel) → WereQueued queued front (map (delivered_as on) ahead) → AreReadAs history id (front ++ back) (ahead ++ left)
    → AreReadAs history id front ahead × AreReadAs history id back left
split_read queued history id on [] back [] left were are = (tt, are)
split_read queued history id on [] back (w ∷ ahead) left were are = absurd were
split_read queued history id on (p ∷ front) back [] left were are = absurd were
split_read queued history id on (p ∷ front) back (w ∷ ahead) left were are =
    let rest = split_read queued history id on front back ahead left were.1 are.1 in
    ((are.0, rest.0), rest.1)

-- more messages leave no gap
pub more_filled : (history : History) (id next : ℕ) (all more : List ℕ) → AreFilled history id all next → AreFilled history id (all ++ more) next
more_filled history id next all more filled number low less = (let is = filled number low less in record { place = is.place; has = has_left is.place all more is.has; is = is.is })

-- only the next number and what waits matter
pub alike_ordered : (watch : Watch) (queued : List Message) (history : History) (id : ℕ) (all waits : List ℕ) (old new : StreamModel) → new.next ≡ old.next → new.waiting ≡ old.waiting → OrderedStream watch queued history id all waits old → OrderedStream watch queued history id all waits new
alike_ordered watch queued history id all waits old new next waiting o =
    record {
      order = record {
        in_order = o.order.in_order;
        below = λ place has on. subst (λ (k : ℕ). IsReadBelow history id place k) (sym next) (o.order.below place has on);
        waiting = subst (λ (l : List WholeModel). AreReadAs history id waits l) (sym waiting) o.order.waiting;
        ahead = subst (λ (k : ℕ). AscendFrom (k + 1) new.waiting) (sym next) (subst (λ (l : List WholeModel). AscendFrom (old.next + 1) l) (sym waiting) o.order.ahead);
      };
      reach = record { from = (let low = o.reach.from in omega (arith, low, next)); up_to = (let high = o.reach.up_to in omega (arith, high, next)) };
      by_epoch = subst (λ (k : ℕ). AreReadByEpoch watch.knows_all watch.asks queued history id all k) (sym next) o.by_epoch;
      separated = o.separated;
      since = o.since;
    }

-- an ordered message of the stream is one of it
on_stream : (queued : List Message) (id place : ℕ) → IsOrderedOn queued id place → IsMessageOn queued id place
on_stream queued id place on = record { message = on.message; at = on.at; stream = on.stream }

-- messages of other streams
pub others_where : (watch : Watch) (queued : List Message) (history : History) (quiet : Bool) (id : ℕ) (all waits more : List ℕ) (stream : StreamModel) → ((place : ℕ) → HasEntry place more → IsMessageOn queued id place → ⊥)
    → IsOrderedOrReset watch quiet (sent_messages queued history) id all waits stream → IsOrderedOrReset watch quiet (sent_messages queued history) id (all ++ more) waits stream
others_where watch queued history false id all waits more stream none o = record { order = others_stay queued history id all waits more stream (λ place has on. none place has (on_stream queued id place on)) o.order; reach = o.reach; by_epoch = others_by_epoch watch.knows_all watch.asks queued history id stream.next all more (λ place has on. none place has (on_stream queued id place on)) o.by_epoch; separated = separated_others queued id watch.knows_all watch.asks watch.cuts all more none o.separated; since = o.since }
others_where watch queued history true id all waits more stream none between = (
  others_between queued history id all more (λ place has on. none place has (on_stream queued id place on)) between.0,
  separated_others queued id watch.knows_all watch.asks watch.cuts all more none between.1,
  λ later has on earlier on' free less one unlimited. elim (has_either later all more has) [
    | inl old ↦ has_left earlier all more (between.2 later old on earlier on' free less one unlimited)
    | inr new ↦ absurd (none later new (on_stream queued id later on))
  ],
  λ knows n f is free. has_left f.place all more (between.3 knows n f is free),
)

-- a place on the stream
abbrev pub IsOnIt : List Message → ℕ → ℕ → Type 0
IsOnIt queued id place = (message : Message) × (at_place place queued ≡ Some message) × (message.stream ≡ id)

-- no place is on two streams
pub one_stream : (queued : List Message) (id other place : ℕ) → IsOnIt queued id place → IsOnIt queued other place → id ≡ other
one_stream queued id other place (m, at, on) (n, at', on') =
    let both' : Some m ≡ Some n = sym at ∙ at' in
    let same : m ≡ n = cc in
    sym on ∙ ap (λ (x : Message). x.stream) same ∙ on'

pub take_drop : (k : ℕ) (l : List ℕ) → take k l ++ drop k l ≡ l
take_drop zero l = refl
take_drop (suc k) [] = refl
take_drop (suc k) (x ∷ l) = ap (λ (r : List ℕ). x ∷ r) (take_drop k l)

module _ (queued : List Message) (history : History) (got : List ℕ) where
  -- whole messages as they are delivered
  pub delivered_so : (id place : ℕ) (whole : WholeModel) → IsQueued queued history.log got (OfStream id) place whole → WasQueued queued place (delivered_as id whole)
  delivered_so id place whole is = record { message = is.head.message; at = is.queued_at; stream = sym is.number; ppid = is.ppid; payload = is.payload }

  pub on_it : (id place : ℕ) (whole : WholeModel) → IsQueued queued history.log got (OfStream id) place whole → IsOnIt queued id place
  on_it id place whole is = (is.head.message, is.queued_at, is.number)

  pub of_stream : (id place : ℕ) (whole : WholeModel) → IsQueued queued history.log got (IsOn history id) place whole → IsQueued queued history.log got (OfStream id) place whole
  of_stream id place whole is = renamed queued history got (IsOn history id) (OfStream id) (λ f number named. named.0) place (message_whole whole) is

  pub wait_on_it : (id p : ℕ) (places : List ℕ) (wholes : List WholeModel) → WaitQueued queued history got id places wholes → HasEntry p places → IsOnIt queued id p
  wait_on_it id p [] [] wait h = absurd h
  wait_on_it id p [] (w ∷ wholes) wait h = absurd h
  wait_on_it id p (q ∷ places) [] wait h = absurd wait
  wait_on_it id p (q ∷ places) (w ∷ wholes) wait h =
      elim h [
        | inl e ↦ subst (λ (k : ℕ). IsOnIt queued id k) (sym e) (on_it id q w (of_stream id q w wait.0))
        | inr t ↦ wait_on_it id p places wholes wait.1 t
      ]

  pub split_ordered : (id next : ℕ) (waits : List ℕ) (waiting : List WholeModel) → (split : Split queued history got id waits (due next waiting) (not_due next waiting)) → AreReadAs history id waits waiting
      → AreReadAs history id split.front (due next waiting) × AreReadAs history id split.back (not_due next waiting)
  split_ordered id next waits waiting split are =
      split_read queued history id id split.front split.back (due next waiting) (not_due next waiting) split.due_queued
      (subst (λ (l : List ℕ). AreReadAs history id l (due next waiting ++ not_due next waiting)) split.parts (subst (λ (l : List WholeModel). AreReadAs history id waits l) (sym (due_all next waiting)) are))

  pub wait_with : (id p k : ℕ) (whole : WholeModel) (places : List ℕ) (wholes : List WholeModel) → IsQueued queued history.log got (IsOn history id) p whole → WaitQueued queued history got id places wholes
      → WaitQueued queued history got id (take k places ++ p ∷ drop k places) (take k wholes ++ whole ∷ drop k wholes)
  wait_with id p zero whole places wholes is wait = (is, wait)
  wait_with id p (suc k) whole [] [] is wait = (is, tt)
  wait_with id p (suc k) whole [] (w ∷ wholes) is wait = absurd wait
  wait_with id p (suc k) whole (q ∷ places) [] is wait = absurd wait
  wait_with id p (suc k) whole (q ∷ places) (w ∷ wholes) is wait = (wait.0, wait_with id p k whole places wholes is wait.1)

module _ (watch : Watch) (queued : List Message) (history : History) (got : List ℕ) where
  -- These became ready besides, in order: `all` are the places of the messages that were read or are ready, `places` of those
  -- that are ready.
  pub record LeavesOrder (all places : List ℕ) (id : ℕ) (new : StreamModel) (after : List MessageContent) : Type 0 where
    pub more : List ℕ
    pub waits : List ℕ
    pub were : WereQueued queued (places ++ more) after
    pub wait : WaitQueued queued history got id waits new.waiting
    pub once : AreDistinct ((all ++ more) ++ waits)
    pub on : (q : ℕ) → HasEntry q more → IsOnIt queued id q
    pub spent : (q : ℕ) → HasEntry q more → Spent history.log got q
    pub order : CountsFromZero history id → OrderedStream watch queued history id (all ++ more) waits new

  pub none_left : (all places waits : List ℕ) (id : ℕ) (new : StreamModel) (before after : List MessageContent) → WereQueued queued places before → WaitQueued queued history got id waits new.waiting → AreDistinct (all ++ waits) → after ≡ before
      → (CountsFromZero history id → OrderedStream watch queued history id (all ++ []) waits new) → LeavesOrder all places id new after
  none_left all places waits id new before after were wait once same order =
      record {
        more = [];
        waits = waits;
        were = subst (λ (l : List MessageContent). WereQueued queued (places ++ []) l) (sym same) (subst (λ (l : List ℕ). WereQueued queued l before) (sym (append-nil places)) were);
        wait = wait;
        once = subst (λ (l : List ℕ). AreDistinct (l ++ waits)) (sym (append-nil all)) once;
        on = λ q h. absurd h;
        spent = λ q h. absurd h;
        order = order;
      }

  one_left : (all places waits : List ℕ) (on id p : ℕ) (whole : WholeModel) (new : StreamModel) (before after : List MessageContent) → id ≡ on → WereQueued queued places before → WaitQueued queued history got id waits new.waiting
      → IsQueued queued history.log got (OfStream id) p whole → AreDistinct (all ++ waits) → (HasEntry p (all ++ waits) → ⊥) → after ≡ before ++ delivered_as on whole ∷ []
      → (CountsFromZero history id → OrderedStream watch queued history id (all ++ p ∷ []) waits new) → LeavesOrder all places id new after
  one_left all places waits on id p whole new before after same were wait is once fresh e order =
      record {
        more = p ∷ [];
        waits = waits;
        were = subst (λ (l : List MessageContent). WereQueued queued (places ++ p ∷ []) l) (sym e)
            (both_queued queued places (p ∷ []) before (delivered_as on whole ∷ []) were (subst (λ (k : ℕ). WasQueued queued p (delivered_as k whole)) same (delivered_so queued history got id p whole is), tt));
        wait = wait;
        once = subst (λ (l : List ℕ). AreDistinct l) (sym (appended all (p ∷ []) waits)) (distinct_with p all waits once fresh);
        on = λ q h. elim h [ inl e' ↦ subst (λ (k : ℕ). IsOnIt queued id k) (sym e') (on_it queued history got id p whole is) | inr t ↦ absurd t ];
        spent = λ q h. elim h [ inl e' ↦ subst (λ (k : ℕ). Spent history.log got k) (sym e') is.spent | inr t ↦ absurd t ];
        order = order;
      }

  -- ---- an ordered part

  module _ (all places waits : List ℕ) (id p : ℕ) (part : PartModel) (old new : StreamModel) (before after : List MessageContent) (taken : Taken) (same : id ≡ old.id) (were : WereQueued queued places before)
      (wait : WaitQueued queued history got id waits old.waiting) (once : AreDistinct (all ++ waits)) (fresh : HasEntry p (all ++ waits) → ⊥) (ordered : CountsFromZero history id → OrderedStream watch queued history id all waits old)
      (reads : CountsFromZero history id → IsReadAs history id p part.number) where
    whole_left : (whole : WholeModel) → whole.number ≡ part.number → (b : Bool) → after ≡ (if b then before ++ ready_with old whole else before) → MatchBool b (new.waiting ≡ not_due (next_after old.next whole) old.waiting) (WaitsAmong whole old.waiting new.waiting)
        → IsQueued queued history.log got (IsOn history id) p whole → (CountsFromZero history id → DeliversRow old before new after (if b then whole ∷ due (next_after old.next whole) old.waiting else []))
        → (CountsFromZero history id → IsInReach new) → LeavesOrder all places id new after
    whole_left whole number true e left is rises reach =
        let split = split_due queued history got id (next_after old.next whole) waits old.waiting wait in
        record {
          more = p ∷ split.front;
          waits = split.back;
          were = subst (λ (l : List MessageContent). WereQueued queued (places ++ (p ∷ split.front)) l) (sym e)
              (both_queued queued places (p ∷ split.front) before (ready_with old whole) were
              (subst (λ (k : ℕ). WereQueued queued (p ∷ split.front) (delivered_as k whole ∷ map (delivered_as k) (due (next_after old.next whole) old.waiting))) same (delivered_so queued history got id p whole (of_stream queued history got id p whole is), split.due_queued)));
          wait = subst (λ (l : List WholeModel). WaitQueued queued history got id split.back l) (sym left) split.left_queued;
          once = subst (λ (l : List ℕ). AreDistinct l) (sym (appended all (p ∷ split.front) split.back))
              (subst (λ (l : List ℕ). AreDistinct (all ++ (p ∷ l))) split.parts (distinct_with p all waits once fresh));
          on = λ q h. elim h [
            | inl e' ↦ subst (λ (k : ℕ). IsOnIt queued id k) (sym e') (on_it queued history got id p whole (of_stream queued history got id p whole is))
            | inr t ↦ wait_on_it queued history got id q waits old.waiting wait (subst (λ (l : List ℕ). HasEntry q l) (sym split.parts) (has_left q split.front split.back t))
          ];
          spent = λ q h. elim h [
            | inl e' ↦ subst (λ (k : ℕ). Spent history.log got k) (sym e') is.spent
            | inr t ↦ wait_spent queued history got id q waits old.waiting wait (subst (λ (l : List ℕ). HasEntry q l) (sym split.parts) (has_left q split.front split.back t))
          ];
          order = λ counts. (
              let halves = split_ordered queued history got id (next_after old.next whole) waits old.waiting split (ordered counts).order.waiting in
              record {
                order = order_then queued history id all waits (p ∷ split.front) split.back old new before after (whole ∷ due (next_after old.next whole) old.waiting) counts.follows (ordered counts).order (rises counts).rising
                    (subst (λ (k : ℕ). IsReadAs history id p k) (sym number) (reads counts), halves.0) (subst (λ (l : List WholeModel). AreReadAs history id split.back l) (sym left) halves.1);
                reach = reach counts;
                by_epoch = row_by_epoch watch.knows_all watch.asks queued history id old.next new.next all (p ∷ split.front) (whole ∷ due (next_after old.next whole) old.waiting)
                    (subst (λ (k : ℕ). IsReadAs history id p k) (sym number) (reads counts), halves.0) (rises counts).row (ordered counts).reach.from (ordered counts).by_epoch;
                separated = separated_more queued id watch.knows_all watch.asks watch.cuts all (p ∷ split.front)
                    (read_since history id watch.cuts (ordered counts).since old.next new.next (p ∷ split.front) (whole ∷ due (next_after old.next whole) old.waiting) (ordered counts).reach.from
                    (subst (λ (k : ℕ). IsReadAs history id p k) (sym number) (reads counts), halves.0) (rises counts).rising.rise) (ordered counts).separated;
                since = (ordered counts).since;
              }
              );
        }
    whole_left whole number false e among is rises reach =
        let whole_waits : take among.at waits ++ drop among.at waits ≡ waits = take_drop among.at waits in
        let split_all : (all ++ take among.at waits) ++ drop among.at waits ≡ all ++ waits = appended all (take among.at waits) (drop among.at waits) ∙ ap (λ (l : List ℕ). all ++ l) whole_waits in
        none_left all places (take among.at waits ++ p ∷ drop among.at waits) id new before after were
        (subst (λ (l : List WholeModel). WaitQueued queued history got id (take among.at waits ++ p ∷ drop among.at waits) l) (sym among.waiting) (wait_with queued history got id p among.at whole waits old.waiting is wait))
        (subst (λ (l : List ℕ). AreDistinct l) (appended all (take among.at waits) (p ∷ drop among.at waits))
        (distinct_with p (all ++ take among.at waits) (drop among.at waits) (subst (λ (l : List ℕ). AreDistinct l) (sym split_all) once) (λ h. fresh (subst (λ (l : List ℕ). HasEntry p l) split_all h))))
        e
        (λ counts. record {
          order = order_then queued history id all waits [] (take among.at waits ++ p ∷ drop among.at waits) old new before after [] counts.follows (ordered counts).order (rises counts).rising tt
              (subst (λ (l : List WholeModel). AreReadAs history id (take among.at waits ++ p ∷ drop among.at waits) l) (sym among.waiting)
              (read_among history id p among.at whole waits old.waiting (subst (λ (k : ℕ). IsReadAs history id p k) (sym number) (reads counts)) (ordered counts).order.waiting));
          reach = reach counts;
          by_epoch = row_by_epoch watch.knows_all watch.asks queued history id old.next new.next all [] [] tt (rises counts).row (ordered counts).reach.from (ordered counts).by_epoch;
          separated = subst (λ (l : List ℕ). AreSeparated watch.knows_all watch.asks queued id watch.cuts l) (sym (append-nil all)) (ordered counts).separated;
          since = (ordered counts).since;
        })

    by_outcome : (outcome : Assembly) → OrderedOutcome part old before outcome taken new after → IsOfMessage part.number outcome → MakesQueued queued history.log got (IsOn history id) p outcome
        → (CountsFromZero history id → DeliversRow old before new after (ready_with_part old outcome)) → (CountsFromZero history id → IsInReach new) → LeavesOrder all places id new after
    by_outcome part_dropped does of makes rises reach =
        none_left all places waits id new before after were (subst (λ (s : StreamModel). WaitQueued queued history got id waits s.waiting) (sym does.0) wait) once does.1
        (λ counts. record {
          order = order_then queued history id all waits [] waits old new before after [] counts.follows (ordered counts).order (rises counts).rising tt
              (subst (λ (s : StreamModel). AreReadAs history id waits s.waiting) (sym does.0) (ordered counts).order.waiting);
          reach = reach counts;
          by_epoch = row_by_epoch watch.knows_all watch.asks queued history id old.next new.next all [] [] tt (rises counts).row (ordered counts).reach.from (ordered counts).by_epoch;
          separated = subst (λ (l : List ℕ). AreSeparated watch.knows_all watch.asks queued id watch.cuts l) (sym (append-nil all)) (ordered counts).separated;
          since = (ordered counts).since;
        })
    by_outcome part_kept does of makes rises reach =
        none_left all places waits id new before after were (subst (λ (l : List WholeModel). WaitQueued queued history got id waits l) (sym does.1) wait) once does.2
        (λ counts. record {
          order = order_then queued history id all waits [] waits old new before after [] counts.follows (ordered counts).order (rises counts).rising tt
              (subst (λ (l : List WholeModel). AreReadAs history id waits l) (sym does.1) (ordered counts).order.waiting);
          reach = reach counts;
          by_epoch = row_by_epoch watch.knows_all watch.asks queued history id old.next new.next all [] [] tt (rises counts).row (ordered counts).reach.from (ordered counts).by_epoch;
          separated = subst (λ (l : List ℕ). AreSeparated watch.knows_all watch.asks queued id watch.cuts l) (sym (append-nil all)) (ordered counts).separated;
          since = (ordered counts).since;
        })
    by_outcome (message_whole whole) does of makes rises reach = whole_left whole of (whole.number == old.next) does.ready does.waiting makes rises reach

    pub ordered_left : (does : TakesOrdered part old before taken new after) → MakesQueued queued history.log got (IsOn history id) p does.outcome → (CountsFromZero history id → old.next ≤ part.number) → LeavesOrder all places id new after
    ordered_left does makes from =
        by_outcome does.outcome does.does (of_message part old.ordered new.ordered does.outcome does.parts) makes
        (λ counts. (parts_deliver_rows part old before taken new after (ordered counts).order.ahead (is_ahead counts) does))
        (λ counts. parts_in_reach queued history id p all waits part old before taken new after counts (ordered counts).order (reads counts) (is_ahead counts) does (ordered counts).reach)
      where
        is_ahead : CountsFromZero history id → IsAhead part old
        is_ahead counts = numbers_are_fresh queued history id p all waits part old counts (ordered counts).order (reads counts) (λ h. fresh (has_right p all waits h)) (from counts)

  -- ---- one that may come at any time

  pub apart_left : (all places waits : List ℕ) (on id p : ℕ) (part : PartModel) (new : StreamModel) (before after : List MessageContent) (outcome : Assembly) (taken : Taken) → id ≡ on
      → WereQueued queued places before → WaitQueued queued history got id waits new.waiting → MakesQueued queued history.log got (OfStream id) p outcome → AreDistinct (all ++ waits) → (HasEntry p (all ++ waits) → ⊥)
      → (CountsFromZero history id → OrderedStream watch queued history id all waits new) → (CountsFromZero history id → IsOrderedOn queued id p → ⊥)
      → (CountsFromZero history id → (cut : Cut) → HasEntry cut watch.cuts → cut.place ≤ p) → UnorderedOutcome part (delivered_as on) before outcome taken after → LeavesOrder all places id new after
  apart_left all places waits on id p part new before after outcome taken same were wait makes once fresh ordered other since does = go outcome makes does
    where
      none_more : CountsFromZero history id → OrderedStream watch queued history id (all ++ []) waits new
      none_more counts = subst (λ (l : List ℕ). OrderedStream watch queued history id l waits new) (sym (append-nil all)) (ordered counts)

      not_ordered : CountsFromZero history id → (place : ℕ) → HasEntry place (p ∷ []) → IsOrderedOn queued id place → ⊥
      not_ordered counts place h is = elim h [ inl e ↦ other counts (subst (λ (k : ℕ). IsOrderedOn queued id k) e is) | inr t ↦ absurd t ]

      go : (outcome : Assembly) → MakesQueued queued history.log got (OfStream id) p outcome → UnorderedOutcome part (delivered_as on) before outcome taken after → LeavesOrder all places id new after
      go part_dropped makes' does' = none_left all places waits id new before after were wait once does'.0 none_more
      go part_kept makes' does' = none_left all places waits id new before after were wait once does'.0 none_more
      go (message_whole whole) makes' does' =
          one_left all places waits on id p whole new before after same were wait makes' once fresh does'.0
          (λ counts. record {
            order = others_stay queued history id all waits (p ∷ []) new (not_ordered counts) (ordered counts).order;
            reach = (ordered counts).reach;
            by_epoch = others_by_epoch watch.knows_all watch.asks queued history id new.next all (p ∷ []) (not_ordered counts) (ordered counts).by_epoch;
            separated = separated_more queued id watch.knows_all watch.asks watch.cuts all (p ∷ [])
                (λ place h cut has. elim h [ inl e ↦ subst (λ (k : ℕ). cut.place ≤ k) (sym e) (since counts cut has) | inr t ↦ absurd t ]) (ordered counts).separated;
            since = (ordered counts).since;
          })
