-- What a part leaves on its stream, in order, without interleaving.
use Rattle.std.proofs.Common.{◌≡◌, ◌==◌, ℕ, Bool, true, false, ◌<◌, ◌≤◌, ◌+◌, ◌^◌, List, [], ◌∷◌, ◌++◌, take, drop, map, sym, ◌∙◌, ap, arith, subst, inl, inr}
use Rattle.std.specs.Prelude.{MatchBool, if◌then◌else◌}
use Rattle.std.proofs.lemmas.List.{append-nil}
use Rattle.dcsctp_spec_lemmas.specs.types.queues.Messages.{MessageContent}
use Rattle.dcsctp_spec_lemmas.specs.types.declared.arrivals.Taken.{Taken}
use Rattle.dcsctp_spec_lemmas.specs.spec.queues.Numbers.{fragment_place}
use Rattle.dcsctp_spec_lemmas.specs.spec.queues.Runs.{PartModel, WholeModel, Assembly, part_dropped, part_kept, message_whole}
use Rattle.dcsctp_spec_lemmas.specs.spec.queues.IncomingStreams.{StreamModel, delivered_as, next_after, due, not_due, ready_with, WaitsAmong, OrderedOutcome, UnorderedOutcome, TakesOrdered}
use Rattle.dcsctp_delivery_directions.specs.sending.Places.{HasEntry}
use Rattle.dcsctp_delivery_directions.specs.sending.Log.{Message, Piece, History, IsLogOfPieces, sent_messages}
use Rattle.dcsctp_delivery_directions.specs.receiving.Rows.{AreRows, Spent, IsQueued, MakesQueued}
use Rattle.dcsctp_delivery_directions.specs.receiving.Ready.{IsOn, ordered_base, AreDistinct, WereQueued, WaitQueued}
use Rattle.dcsctp_delivery_directions.proofs.receiving.Distinct.{appended, has_left, distinct_with}
use Rattle.dcsctp_delivery_directions.proofs.receiving.SpentRows.{of_message, IsOfMessage}
use Rattle.dcsctp_delivery_directions.proofs.receiving.Waiting.{OfStream, both_queued, wait_spent, split_due}
use Rattle.dcsctp_delivery_directions.specs.order.Queue.{IsOrderedOn}
use Rattle.dcsctp_delivery_directions.specs.order.Rising.{DeliversRow, IsAhead, ready_with_part}
use Rattle.dcsctp_delivery_directions.specs.order.Order.{IsReadAs, AreReadAs}
use Rattle.dcsctp_delivery_directions.specs.order.Plain.{number_of_tsn, with_turns, CountsPlain, CarriesOrdered, PlainStream}
use Rattle.dcsctp_delivery_directions.proofs.order.Rising.{parts_deliver_rows}
use Rattle.dcsctp_delivery_directions.proofs.order.Gaps.{rows_fill}
use Rattle.dcsctp_delivery_directions.proofs.order.Order.{order_then, read_among, others_stay}
use Rattle.dcsctp_delivery_directions.proofs.order.Runs.{parts_lie_apart}
use Rattle.dcsctp_delivery_directions.proofs.order.Leaving.{IsOnIt, delivered_so, on_it, of_stream, wait_on_it, wait_with, take_drop, due_all, split_read, more_filled}
use Rattle.dcsctp_delivery_directions.proofs.order.PlainRows.{turns_follow}
use Rattle.dcsctp_delivery_directions.proofs.order.PlainReading.{read_as}
use Rattle.dcsctp_delivery_directions.proofs.order.PlainHeld.{rise_end, runs_stay, held_stays}

-- ---- a stream on which nothing ordered comes

-- messages of other streams, or unordered ones
pub others_plain : (queued : List Message) (history : History) (got : List ℕ) (n base id : ℕ) (all waits more : List ℕ) (stream : StreamModel) → ((f : Piece) → CarriesOrdered history.log id n f → ⊥)
    → ((place : ℕ) → HasEntry place more → IsOrderedOn queued id place → ⊥) → PlainStream (sent_messages queued history) got base id all waits stream → PlainStream (sent_messages queued history) (n ∷ got) base id (all ++ more) waits stream
others_plain queued history got n base id all waits more stream other none s =
    record {
      order = others_stay queued (with_turns history) id all waits more stream none s.order;
      filled = more_filled (with_turns history) id stream.next all more s.filled;
      from = s.from;
      apart = s.apart;
      runs = s.runs;
      held = λ m g is has up. elim has [
        | inl e ↦ absurd (other g (subst (λ (k : ℕ). CarriesOrdered history.log id k g) e is))
        | inr t ↦ s.held m g is t up
      ];
    }

-- ---- what a part leaves

module _ (queued : List Message) (history : History) (now : List ℕ) (base : ℕ) where
  -- These became ready besides, in order: `all` are the places of the messages that were read or are ready, `places` of those
  -- that are ready.
  pub record LeavesPlain (all places : List ℕ) (id : ℕ) (new : StreamModel) (after : List MessageContent) : Type 0 where
    pub more : List ℕ
    pub waits : List ℕ
    pub were : WereQueued queued (places ++ more) after
    pub wait : WaitQueued queued history now id waits new.waiting
    pub once : AreDistinct ((all ++ more) ++ waits)
    pub on : (q : ℕ) → HasEntry q more → IsOnIt queued id q
    pub spent : (q : ℕ) → HasEntry q more → Spent history.log now q
    pub order : PlainStream (sent_messages queued history) now base id (all ++ more) waits new

  pub none_left : (all places waits : List ℕ) (id : ℕ) (new : StreamModel) (before after : List MessageContent) → WereQueued queued places before → WaitQueued queued history now id waits new.waiting → AreDistinct (all ++ waits) → after ≡ before
      → PlainStream (sent_messages queued history) now base id (all ++ []) waits new → LeavesPlain all places id new after
  none_left all places waits id new before after were wait once same order =
      record {
        more = [];
        waits = waits;
        were = subst (λ (l : List MessageContent). WereQueued queued (places ++ []) l) (sym same) (subst (λ (l : List ℕ). WereQueued queued l before) (sym (append-nil places)) were);
        wait = wait;
        once = subst (λ (l : List ℕ). AreDistinct (l ++ waits)) (sym (append-nil all)) once;
        on = λ q h. absurd h;
        spent = λ q h. absurd h;
        order = order;
      }

  one_left : (all places waits : List ℕ) (id p : ℕ) (whole : WholeModel) (new : StreamModel) (before after : List MessageContent) → WereQueued queued places before → WaitQueued queued history now id waits new.waiting
      → IsQueued queued history.log now (OfStream id) p whole → AreDistinct (all ++ waits) → (HasEntry p (all ++ waits) → ⊥) → after ≡ before ++ delivered_as id whole ∷ []
      → PlainStream (sent_messages queued history) now base id (all ++ p ∷ []) waits new → LeavesPlain all places id new after
  one_left all places waits id p whole new before after were wait is once fresh e order =
      record {
        more = p ∷ [];
        waits = waits;
        were = subst (λ (l : List MessageContent). WereQueued queued (places ++ p ∷ []) l) (sym e) (both_queued queued places (p ∷ []) before (delivered_as id whole ∷ []) were (delivered_so queued history now id p whole is, tt));
        wait = wait;
        once = subst (λ (l : List ℕ). AreDistinct l) (sym (appended all (p ∷ []) waits)) (distinct_with p all waits once fresh);
        on = λ q h. elim h [ inl e' ↦ subst (λ (k : ℕ). IsOnIt queued id k) (sym e') (on_it queued history now id p whole is) | inr t ↦ absurd t ];
        spent = λ q h. elim h [ inl e' ↦ subst (λ (k : ℕ). Spent history.log now k) (sym e') is.spent | inr t ↦ absurd t ];
        order = order;
      }

  -- ---- an unordered part

  pub apart_left : (all places waits : List ℕ) (id p : ℕ) (part : PartModel) (new : StreamModel) (before after : List MessageContent) (outcome : Assembly) (taken : Taken)
      → WereQueued queued places before → WaitQueued queued history now id waits new.waiting → MakesQueued queued history.log now (OfStream id) p outcome → AreDistinct (all ++ waits) → (HasEntry p (all ++ waits) → ⊥)
      → ((more : List ℕ) → ((q : ℕ) → HasEntry q more → q ≡ p) → PlainStream (sent_messages queued history) now base id (all ++ more) waits new)
      → UnorderedOutcome part (delivered_as id) before outcome taken after → LeavesPlain all places id new after
  apart_left all places waits id p part new before after outcome taken were wait makes once fresh ordered does = go outcome makes does
    where
      go : (outcome : Assembly) → MakesQueued queued history.log now (OfStream id) p outcome → UnorderedOutcome part (delivered_as id) before outcome taken after → LeavesPlain all places id new after
      go part_dropped makes' does' = none_left all places waits id new before after were wait once does'.0 (ordered [] (λ q h. absurd h))
      go part_kept makes' does' = none_left all places waits id new before after were wait once does'.0 (ordered [] (λ q h. absurd h))
      go (message_whole whole) makes' does' =
          one_left all places waits id p whole new before after were wait makes' once fresh does'.0 (ordered (p ∷ []) (λ q h. elim h [ inl e ↦ e | inr t ↦ absurd t ]))

-- ---- an ordered part

module _ (queued : List Message) (history : History) (cut : IsLogOfPieces queued history.log) (id : ℕ) (counts : CountsPlain id history) (got : List ℕ) (base : ℕ) (small : base + 2 ^ 32 < 2 ^ 64) (n : ℕ) (f : Piece) (is : CarriesOrdered history.log id n f) (is_new : HasEntry n got → ⊥)
    (part : PartModel) (number_is : part.number ≡ number_of_tsn id n history.log) (place_is : part.place ≡ fragment_place part.number base + n)
    (old new : StreamModel) (rows : AreRows history.log got (ordered_base base) (IsOn history id) old.ordered) (before after : List MessageContent) (taken : Taken) (does : TakesOrdered part old before taken new after)
    (all places waits : List ℕ) (s : PlainStream (sent_messages queued history) got base id all waits old) (from : old.next ≤ part.number)
    (same : id ≡ old.id) (were : WereQueued queued places before) (wait : WaitQueued queued history (n ∷ got) id waits old.waiting) (once : AreDistinct (all ++ waits)) (fresh : HasEntry f.place (all ++ waits) → ⊥)
    (ahead : IsAhead part old) where
  abbrev now : List ℕ
  now = n ∷ got

  row : DeliversRow old before new after (ready_with_part old does.outcome)
  row = parts_deliver_rows part old before taken new after s.order.ahead ahead does

  its : IsReadAs (with_turns history) id f.place part.number
  its = subst (λ (k : ℕ). IsReadAs (with_turns history) id f.place k) (sym number_is) (read_as queued history cut id counts n f is)

  -- the stream once these are delivered
  then_plain : (more later : List ℕ) (delivered : List WholeModel) → DeliversRow old before new after delivered → AreReadAs (with_turns history) id more delivered → AreReadAs (with_turns history) id later new.waiting
      → PlainStream (sent_messages queued history) now base id (all ++ more) later new
  unfolding row
  then_plain more later delivered delivers are left =
      record {
        order = order_then queued (with_turns history) id all waits more later old new before after delivered (turns_follow queued history cut id counts) s.order delivers.rising are left;
        filled = rows_fill (with_turns history) id old.next new.next all more delivered are delivers.row s.filled;
        from = (let low = s.from in let up = rise_end old.next new.next delivered delivers.rising.rise in omega (arith, low, up));
        apart = parts_lie_apart part old.ordered new.ordered does.outcome does.parts s.apart;
        runs = runs_stay queued history cut id counts got base small old rows s.runs n f is part number_is place_is does.outcome new.ordered does.parts;
        held = held_stays queued history cut id counts got base small old rows s.runs n f is part number_is place_is new before after taken is_new from s.held does row;
      }

  whole_left : (whole : WholeModel) → whole.number ≡ part.number → (b : Bool) → after ≡ (if b then before ++ ready_with old whole else before) → MatchBool b (new.waiting ≡ not_due (next_after old.next whole) old.waiting) (WaitsAmong whole old.waiting new.waiting)
      → IsQueued queued history.log now (IsOn history id) f.place whole → DeliversRow old before new after (if b then whole ∷ due (next_after old.next whole) old.waiting else []) → LeavesPlain queued history now base all places id new after
  unfolding its
  whole_left whole number true e left is' delivers =
      let split = split_due queued history now id (next_after old.next whole) waits old.waiting wait in
      let halves = split_read queued (with_turns history) id id split.front split.back (due (next_after old.next whole) old.waiting) (not_due (next_after old.next whole) old.waiting) split.due_queued
      (subst (λ (l : List ℕ). AreReadAs (with_turns history) id l (due (next_after old.next whole) old.waiting ++ not_due (next_after old.next whole) old.waiting)) split.parts
      (subst (λ (l : List WholeModel). AreReadAs (with_turns history) id waits l) (sym (due_all (next_after old.next whole) old.waiting)) s.order.waiting)) in
      record {
        more = f.place ∷ split.front;
        waits = split.back;
        were = subst (λ (l : List MessageContent). WereQueued queued (places ++ (f.place ∷ split.front)) l) (sym e)
            (both_queued queued places (f.place ∷ split.front) before (ready_with old whole) were
            (subst (λ (k : ℕ). WereQueued queued (f.place ∷ split.front) (delivered_as k whole ∷ map (delivered_as k) (due (next_after old.next whole) old.waiting))) same
            (delivered_so queued history now id f.place whole (of_stream queued history now id f.place whole is'), split.due_queued)));
        wait = subst (λ (l : List WholeModel). WaitQueued queued history now id split.back l) (sym left) split.left_queued;
        once = subst (λ (l : List ℕ). AreDistinct l) (sym (appended all (f.place ∷ split.front) split.back))
            (subst (λ (l : List ℕ). AreDistinct (all ++ (f.place ∷ l))) split.parts (distinct_with f.place all waits once fresh));
        on = λ q h. elim h [
          | inl e' ↦ subst (λ (k : ℕ). IsOnIt queued id k) (sym e') (on_it queued history now id f.place whole (of_stream queued history now id f.place whole is'))
          | inr t ↦ wait_on_it queued history now id q waits old.waiting wait (subst (λ (l : List ℕ). HasEntry q l) (sym split.parts) (has_left q split.front split.back t))
        ];
        spent = λ q h. elim h [
          | inl e' ↦ subst (λ (k : ℕ). Spent history.log now k) (sym e') is'.spent
          | inr t ↦ wait_spent queued history now id q waits old.waiting wait (subst (λ (l : List ℕ). HasEntry q l) (sym split.parts) (has_left q split.front split.back t))
        ];
        order = then_plain (f.place ∷ split.front) split.back (whole ∷ due (next_after old.next whole) old.waiting) delivers (subst (λ (k : ℕ). IsReadAs (with_turns history) id f.place k) (sym number) its, halves.0)
            (subst (λ (l : List WholeModel). AreReadAs (with_turns history) id split.back l) (sym left) halves.1);
      }
  whole_left whole number false e among is' delivers =
      let whole_waits : take among.at waits ++ drop among.at waits ≡ waits = take_drop among.at waits in
      let split_all : (all ++ take among.at waits) ++ drop among.at waits ≡ all ++ waits = appended all (take among.at waits) (drop among.at waits) ∙ ap (λ (l : List ℕ). all ++ l) whole_waits in
      none_left queued history now base all places (take among.at waits ++ f.place ∷ drop among.at waits) id new before after were
      (subst (λ (l : List WholeModel). WaitQueued queued history now id (take among.at waits ++ f.place ∷ drop among.at waits) l) (sym among.waiting) (wait_with queued history now id f.place among.at whole waits old.waiting is' wait))
      (subst (λ (l : List ℕ). AreDistinct l) (appended all (take among.at waits) (f.place ∷ drop among.at waits))
      (distinct_with f.place (all ++ take among.at waits) (drop among.at waits) (subst (λ (l : List ℕ). AreDistinct l) (sym split_all) once) (λ h. fresh (subst (λ (l : List ℕ). HasEntry f.place l) split_all h))))
      e
      (then_plain [] (take among.at waits ++ f.place ∷ drop among.at waits) [] delivers tt
      (subst (λ (l : List WholeModel). AreReadAs (with_turns history) id (take among.at waits ++ f.place ∷ drop among.at waits) l) (sym among.waiting)
      (read_among (with_turns history) id f.place among.at whole waits old.waiting (subst (λ (k : ℕ). IsReadAs (with_turns history) id f.place k) (sym number) its) s.order.waiting)))

  pub ordered_left : MakesQueued queued history.log now (IsOn history id) f.place does.outcome → LeavesPlain queued history now base all places id new after
  unfolding row
  ordered_left makes = go does.outcome does.does (of_message part old.ordered new.ordered does.outcome does.parts) makes row
    where
      go : (outcome : Assembly) → OrderedOutcome part old before outcome taken new after → IsOfMessage part.number outcome → MakesQueued queued history.log now (IsOn history id) f.place outcome
          → DeliversRow old before new after (ready_with_part old outcome) → LeavesPlain queued history now base all places id new after
      go part_dropped does' of makes' delivers =
          none_left queued history now base all places waits id new before after were (subst (λ (x : StreamModel). WaitQueued queued history now id waits x.waiting) (sym does'.0) wait) once does'.1
          (then_plain [] waits [] delivers tt (subst (λ (x : StreamModel). AreReadAs (with_turns history) id waits x.waiting) (sym does'.0) s.order.waiting))
      go part_kept does' of makes' delivers =
          none_left queued history now base all places waits id new before after were (subst (λ (l : List WholeModel). WaitQueued queued history now id waits l) (sym does'.1) wait) once does'.2
          (then_plain [] waits [] delivers tt (subst (λ (l : List WholeModel). AreReadAs (with_turns history) id waits l) (sym does'.1) s.order.waiting))
      go (message_whole whole) does' of makes' delivers = whole_left whole of (whole.number == old.next) does'.ready does'.waiting makes' delivers
