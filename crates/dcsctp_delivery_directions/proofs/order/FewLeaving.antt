-- What a part leaves on its stream, and what is skipped, where few ordered messages were begun on it.
use Rattle.std.proofs.Common.{◌≡◌, ◌≢◌, ◌==◌, ℕ, Bool, true, false, List, [], ◌∷◌, ◌++◌, take, drop, map, sym, ◌∙◌, ap, subst, inl, inr}
use Rattle.std.specs.Prelude.{MatchBool, if◌then◌else◌}
use Rattle.std.proofs.lemmas.List.{append-nil}
use Rattle.dcsctp_spec_lemmas.specs.types.queues.Messages.{MessageContent}
use Rattle.dcsctp_spec_lemmas.specs.types.declared.arrivals.Taken.{Taken}
use Rattle.dcsctp_spec_lemmas.specs.spec.queues.Runs.{RunModel, PartModel, WholeModel, Assembly, part_dropped, part_kept, message_whole}
use Rattle.dcsctp_spec_lemmas.specs.spec.queues.IncomingStreams.{StreamModel, delivered_as, next_after, due, not_due, ready_with, WaitsAmong, OrderedOutcome, UnorderedOutcome, TakesOrdered}
use Rattle.dcsctp_spec_lemmas.specs.spec.queues.Incoming.{IncomingModel, stream_on}
use Rattle.dcsctp_delivery_directions.specs.sending.Places.{HasEntry, table_with}
use Rattle.dcsctp_delivery_directions.specs.sending.Log.{Message, Piece, History, IsLogOfPieces, sent_messages}
use Rattle.dcsctp_delivery_directions.proofs.sending.Places.{decide, set_same, set_other}
use Rattle.dcsctp_delivery_directions.specs.receiving.Rows.{AreRows, Spent, IsQueued, MakesQueued}
use Rattle.dcsctp_delivery_directions.specs.receiving.Ready.{IsOn, IsOfStream, unordered_base, StreamRows, StreamHolds, AreDistinct, WereQueued, WaitQueued, HoldsAll, held_messages}
use Rattle.dcsctp_delivery_directions.proofs.receiving.Distinct.{appended, has_left, has_either, distinct_with, distinct_left, distinct_apart}
use Rattle.dcsctp_delivery_directions.proofs.receiving.SpentRows.{of_message, IsOfMessage}
use Rattle.dcsctp_delivery_directions.proofs.receiving.Waiting.{OfStream, both_queued, wait_spent, split_due}
use Rattle.dcsctp_delivery_directions.specs.order.Rising.{DeliversRow, IsAhead, ready_with_part}
use Rattle.dcsctp_delivery_directions.specs.order.Order.{IsReadAs, AreReadAs}
use Rattle.dcsctp_delivery_directions.specs.order.Plain.{number_of_tsn, with_turns, CountsPlain, CarriesOrdered}
use Rattle.dcsctp_delivery_directions.proofs.order.Rising.{parts_deliver_rows}
use Rattle.dcsctp_delivery_directions.proofs.order.Order.{read_among}
use Rattle.dcsctp_delivery_directions.proofs.order.Leaving.{IsOnIt, one_stream, delivered_so, on_it, of_stream, wait_on_it, wait_with, take_drop, due_all, split_read}
use Rattle.dcsctp_delivery_directions.proofs.order.PlainReading.{read_as}
use Rattle.dcsctp_delivery_directions.proofs.order.PlainHeld.{rise_end}
use Rattle.dcsctp_delivery_directions.proofs.order.FewStreams.{FewStream, row_has, few_then, others_few}

-- ---- what a part leaves

module _ (queued : List Message) (history : History) (now : List ℕ) (known : ℕ → Bool) where
  -- These became ready besides, in order: `all` are the places of the messages that were read or are ready, `places` of those
  -- that are ready.
  pub record LeavesFew (all places : List ℕ) (id : ℕ) (new : StreamModel) (after : List MessageContent) : Type 0 where
    pub more : List ℕ
    pub waits : List ℕ
    pub were : WereQueued queued (places ++ more) after
    pub wait : WaitQueued queued history now id waits new.waiting
    pub once : AreDistinct ((all ++ more) ++ waits)
    pub on : (q : ℕ) → HasEntry q more → IsOnIt queued id q
    pub spent : (q : ℕ) → HasEntry q more → Spent history.log now q
    pub order : FewStream queued history known id (all ++ more) waits new

  pub none_left : (all places waits : List ℕ) (id : ℕ) (new : StreamModel) (before after : List MessageContent) → WereQueued queued places before → WaitQueued queued history now id waits new.waiting → AreDistinct (all ++ waits) → after ≡ before
      → FewStream queued history known id (all ++ []) waits new → LeavesFew all places id new after
  none_left all places waits id new before after were wait once same order =
      record {
        more = [];
        waits = waits;
        were = subst (λ (l : List MessageContent). WereQueued queued (places ++ []) l) (sym same) (subst (λ (l : List ℕ). WereQueued queued l before) (sym (append-nil places)) were);
        wait = wait;
        once = subst (λ (l : List ℕ). AreDistinct (l ++ waits)) (sym (append-nil all)) once;
        on = λ q h. absurd h;
        spent = λ q h. absurd h;
        order = order;
      }

  one_left : (all places waits : List ℕ) (id p : ℕ) (whole : WholeModel) (new : StreamModel) (before after : List MessageContent) → WereQueued queued places before → WaitQueued queued history now id waits new.waiting
      → IsQueued queued history.log now (OfStream id) p whole → AreDistinct (all ++ waits) → (HasEntry p (all ++ waits) → ⊥) → after ≡ before ++ delivered_as id whole ∷ []
      → FewStream queued history known id (all ++ p ∷ []) waits new → LeavesFew all places id new after
  one_left all places waits id p whole new before after were wait is once fresh e order =
      record {
        more = p ∷ [];
        waits = waits;
        were = subst (λ (l : List MessageContent). WereQueued queued (places ++ p ∷ []) l) (sym e) (both_queued queued places (p ∷ []) before (delivered_as id whole ∷ []) were (delivered_so queued history now id p whole is, tt));
        wait = wait;
        once = subst (λ (l : List ℕ). AreDistinct l) (sym (appended all (p ∷ []) waits)) (distinct_with p all waits once fresh);
        on = λ q h. elim h [ inl e' ↦ subst (λ (k : ℕ). IsOnIt queued id k) (sym e') (on_it queued history now id p whole is) | inr t ↦ absurd t ];
        spent = λ q h. elim h [ inl e' ↦ subst (λ (k : ℕ). Spent history.log now k) (sym e') is.spent | inr t ↦ absurd t ];
        order = order;
      }

  -- ---- an unordered part

  pub apart_left : (all places waits : List ℕ) (id p : ℕ) (part : PartModel) (new : StreamModel) (before after : List MessageContent) (outcome : Assembly) (taken : Taken)
      → WereQueued queued places before → WaitQueued queued history now id waits new.waiting → MakesQueued queued history.log now (OfStream id) p outcome → AreDistinct (all ++ waits) → (HasEntry p (all ++ waits) → ⊥)
      → ((more : List ℕ) → ((q : ℕ) → HasEntry q more → q ≡ p) → FewStream queued history known id (all ++ more) waits new)
      → UnorderedOutcome part (delivered_as id) before outcome taken after → LeavesFew all places id new after
  apart_left all places waits id p part new before after outcome taken were wait makes once fresh ordered does = go outcome makes does
    where
      go : (outcome : Assembly) → MakesQueued queued history.log now (OfStream id) p outcome → UnorderedOutcome part (delivered_as id) before outcome taken after → LeavesFew all places id new after
      go part_dropped makes' does' = none_left all places waits id new before after were wait once does'.0 (ordered [] (λ q h. absurd h))
      go part_kept makes' does' = none_left all places waits id new before after were wait once does'.0 (ordered [] (λ q h. absurd h))
      go (message_whole whole) makes' does' =
          one_left all places waits id p whole new before after were wait makes' once fresh does'.0 (ordered (p ∷ []) (λ q h. elim h [ inl e ↦ e | inr t ↦ absurd t ]))

-- ---- an ordered part

module _ (queued : List Message) (history : History) (cut : IsLogOfPieces queued history.log) (counts : (id : ℕ) → CountsPlain id history) (got : List ℕ) (known : ℕ → Bool) (id : ℕ) (n : ℕ) (f : Piece) (is : CarriesOrdered history.log id n f) (has_known : (k : ℕ) → HasEntry k (n ∷ got) → known k ≡ true)
    (part : PartModel) (number_is : part.number ≡ number_of_tsn id n history.log)
    (old new : StreamModel) (before after : List MessageContent) (taken : Taken) (does : TakesOrdered part old before taken new after)
    (all places waits : List ℕ) (s : FewStream queued history known id all waits old)
    (same : id ≡ old.id) (were : WereQueued queued places before) (wait : WaitQueued queued history (n ∷ got) id waits old.waiting) (once : AreDistinct (all ++ waits)) (fresh : HasEntry f.place (all ++ waits) → ⊥)
    (ahead : IsAhead part old) where
  abbrev now : List ℕ
  now = n ∷ got

  row : DeliversRow old before new after (ready_with_part old does.outcome)
  row = parts_deliver_rows part old before taken new after s.order.ahead ahead does

  its : IsReadAs (with_turns history) id f.place part.number
  its = subst (λ (k : ℕ). IsReadAs (with_turns history) id f.place k) (sym number_is) (read_as queued history cut id (counts id) n f is)

  -- the stream once these are delivered
  then_few : (more later : List ℕ) (delivered : List WholeModel) → DeliversRow old before new after delivered → AreReadAs (with_turns history) id more delivered → AreReadAs (with_turns history) id later new.waiting
      → ((q : ℕ) → HasEntry q more → Spent history.log now q) → FewStream queued history known id (all ++ more) later new
  then_few more later delivered delivers are left spent =
      few_then queued history cut counts now known has_known id all waits old s.order old.next more later delivered new before after delivers.rising are left spent s.from (rise_end old.next new.next delivered delivers.rising.rise) s.ended s.over
      (row_has old.next new.next delivered delivers.row)

  whole_left : (whole : WholeModel) → whole.number ≡ part.number → (b : Bool) → after ≡ (if b then before ++ ready_with old whole else before) → MatchBool b (new.waiting ≡ not_due (next_after old.next whole) old.waiting) (WaitsAmong whole old.waiting new.waiting)
      → IsQueued queued history.log now (IsOn history id) f.place whole → DeliversRow old before new after (if b then whole ∷ due (next_after old.next whole) old.waiting else []) → LeavesFew queued history now known all places id new after
  unfolding its
  whole_left whole number true e left is' delivers =
      let split = split_due queued history now id (next_after old.next whole) waits old.waiting wait in
      let spent_then : ((q : ℕ) → HasEntry q (f.place ∷ split.front) → Spent history.log now q) = λ q h. elim h [
        | inl e' ↦ subst (λ (k : ℕ). Spent history.log now k) (sym e') is'.spent
        | inr t ↦ wait_spent queued history now id q waits old.waiting wait (subst (λ (l : List ℕ). HasEntry q l) (sym split.parts) (has_left q split.front split.back t))
      ] in
      let halves = split_read queued (with_turns history) id id split.front split.back (due (next_after old.next whole) old.waiting) (not_due (next_after old.next whole) old.waiting) split.due_queued
      (subst (λ (l : List ℕ). AreReadAs (with_turns history) id l (due (next_after old.next whole) old.waiting ++ not_due (next_after old.next whole) old.waiting)) split.parts
      (subst (λ (l : List WholeModel). AreReadAs (with_turns history) id waits l) (sym (due_all (next_after old.next whole) old.waiting)) s.order.waiting)) in
      record {
        more = f.place ∷ split.front;
        waits = split.back;
        were = subst (λ (l : List MessageContent). WereQueued queued (places ++ (f.place ∷ split.front)) l) (sym e)
            (both_queued queued places (f.place ∷ split.front) before (ready_with old whole) were
            (subst (λ (k : ℕ). WereQueued queued (f.place ∷ split.front) (delivered_as k whole ∷ map (delivered_as k) (due (next_after old.next whole) old.waiting))) same
            (delivered_so queued history now id f.place whole (of_stream queued history now id f.place whole is'), split.due_queued)));
        wait = subst (λ (l : List WholeModel). WaitQueued queued history now id split.back l) (sym left) split.left_queued;
        once = subst (λ (l : List ℕ). AreDistinct l) (sym (appended all (f.place ∷ split.front) split.back))
            (subst (λ (l : List ℕ). AreDistinct (all ++ (f.place ∷ l))) split.parts (distinct_with f.place all waits once fresh));
        on = λ q h. elim h [
          | inl e' ↦ subst (λ (k : ℕ). IsOnIt queued id k) (sym e') (on_it queued history now id f.place whole (of_stream queued history now id f.place whole is'))
          | inr t ↦ wait_on_it queued history now id q waits old.waiting wait (subst (λ (l : List ℕ). HasEntry q l) (sym split.parts) (has_left q split.front split.back t))
        ];
        spent = spent_then;
        order = then_few (f.place ∷ split.front) split.back (whole ∷ due (next_after old.next whole) old.waiting) delivers (subst (λ (k : ℕ). IsReadAs (with_turns history) id f.place k) (sym number) its, halves.0)
            (subst (λ (l : List WholeModel). AreReadAs (with_turns history) id split.back l) (sym left) halves.1) spent_then;
      }
  whole_left whole number false e among is' delivers =
      let whole_waits : take among.at waits ++ drop among.at waits ≡ waits = take_drop among.at waits in
      let split_all : (all ++ take among.at waits) ++ drop among.at waits ≡ all ++ waits = appended all (take among.at waits) (drop among.at waits) ∙ ap (λ (l : List ℕ). all ++ l) whole_waits in
      none_left queued history now known all places (take among.at waits ++ f.place ∷ drop among.at waits) id new before after were
      (subst (λ (l : List WholeModel). WaitQueued queued history now id (take among.at waits ++ f.place ∷ drop among.at waits) l) (sym among.waiting) (wait_with queued history now id f.place among.at whole waits old.waiting is' wait))
      (subst (λ (l : List ℕ). AreDistinct l) (appended all (take among.at waits) (f.place ∷ drop among.at waits))
      (distinct_with f.place (all ++ take among.at waits) (drop among.at waits) (subst (λ (l : List ℕ). AreDistinct l) (sym split_all) once) (λ h. fresh (subst (λ (l : List ℕ). HasEntry f.place l) split_all h))))
      e
      (then_few [] (take among.at waits ++ f.place ∷ drop among.at waits) [] delivers tt
      (subst (λ (l : List WholeModel). AreReadAs (with_turns history) id (take among.at waits ++ f.place ∷ drop among.at waits) l) (sym among.waiting)
      (read_among (with_turns history) id f.place among.at whole waits old.waiting (subst (λ (k : ℕ). IsReadAs (with_turns history) id f.place k) (sym number) its) s.order.waiting))
      (λ q h. absurd h))

  pub ordered_left : MakesQueued queued history.log now (IsOn history id) f.place does.outcome → LeavesFew queued history now known all places id new after
  unfolding row
  ordered_left makes = go does.outcome does.does (of_message part old.ordered new.ordered does.outcome does.parts) makes row
    where
      go : (outcome : Assembly) → OrderedOutcome part old before outcome taken new after → IsOfMessage part.number outcome → MakesQueued queued history.log now (IsOn history id) f.place outcome
          → DeliversRow old before new after (ready_with_part old outcome) → LeavesFew queued history now known all places id new after
      go part_dropped does' of makes' delivers =
          none_left queued history now known all places waits id new before after were (subst (λ (x : StreamModel). WaitQueued queued history now id waits x.waiting) (sym does'.0) wait) once does'.1
          (then_few [] waits [] delivers tt (subst (λ (x : StreamModel). AreReadAs (with_turns history) id waits x.waiting) (sym does'.0) s.order.waiting) (λ q h. absurd h))
      go part_kept does' of makes' delivers =
          none_left queued history now known all places waits id new before after were (subst (λ (l : List WholeModel). WaitQueued queued history now id waits l) (sym does'.1) wait) once does'.2
          (then_few [] waits [] delivers tt (subst (λ (l : List WholeModel). AreReadAs (with_turns history) id waits l) (sym does'.1) s.order.waiting) (λ q h. absurd h))
      go (message_whole whole) does' of makes' delivers = whole_left whole of (whole.number == old.next) does'.ready does'.waiting makes' delivers

-- ---- all streams

-- All that is held was queued, and each stream is in order.
pub record HoldsFew (queued : List Message) (history : History) (got : List ℕ) (known : ℕ → Bool) (base : ℕ) (read : List ℕ) (streams : ℕ → StreamModel) (unordered : List RunModel) (ready : List MessageContent) : Type 0 where
  pub holds : HoldsAll (sent_messages queued history) got base read (held_messages streams unordered ready)
  pub order : (id : ℕ) → FewStream queued history known id (read ++ holds.places) (holds.waits id) (streams id)

abbrev pub IncomingFew : List Message → History → List ℕ → (ℕ → Bool) → ℕ → List ℕ → IncomingModel → Type 0
IncomingFew queued history got known base read incoming = HoldsFew queued history got known base read (λ id. stream_on id incoming.streams) incoming.unordered incoming.ready

-- one stream is left so
pub few_left : (queued : List Message) (history : History) (got : List ℕ) (known : ℕ → Bool) (base : ℕ) (read : List ℕ) (id : ℕ) (streams later : ℕ → StreamModel) (unordered runs : List RunModel) (ready after : List MessageContent)
    → (o : HoldsFew queued history got known base read streams unordered ready) → StreamRows history got base id (later id) → AreRows history.log got (unordered_base base) IsOfStream runs
    → ((other : ℕ) → other ≢ id → later other ≡ streams other) → LeavesFew queued history got known (read ++ o.holds.places) o.holds.places id (later id) after → HoldsFew queued history got known base read later runs after
few_left queued history got known base read id streams later unordered runs ready after o rows apart others leaves =
    record {
      holds = record {
        waits = table_with id leaves.waits o.holds.waits;
        streams_hold = λ other. elim (decide other id) [
          | inl e ↦
              subst (λ (k : ℕ). StreamHolds queued history got base k (table_with id leaves.waits o.holds.waits k) (later k)) (sym e)
              (subst (λ (l : List ℕ). StreamHolds queued history got base id l (later id)) (sym (set_same id leaves.waits o.holds.waits)) (record { rows = rows; wait = leaves.wait }))
          | inr ne ↦
              subst (λ (l : List ℕ). StreamHolds queued history got base other l (later other)) (sym (set_other id other leaves.waits o.holds.waits ne))
              (subst (λ (s : StreamModel). StreamHolds queued history got base other (o.holds.waits other) s) (sym (others other ne)) (o.holds.streams_hold other))
        ];
        rows = apart;
        places = o.holds.places ++ leaves.more;
        were_queued = leaves.were;
        spent = λ q h. elim (has_either q (read ++ o.holds.places) leaves.more (subst (λ (l : List ℕ). HasEntry q l) (sym (appended read o.holds.places leaves.more)) h)) [
          | inl l ↦ o.holds.spent q l
          | inr r ↦ leaves.spent q r
        ];
        once = λ other. subst (λ (l : List ℕ). AreDistinct (l ++ table_with id leaves.waits o.holds.waits other)) (appended read o.holds.places leaves.more)
            (elim (decide other id) [
              | inl e ↦
                  subst (λ (l : List ℕ). AreDistinct (((read ++ o.holds.places) ++ leaves.more) ++ l)) (sym (ap (table_with id leaves.waits o.holds.waits) e ∙ set_same id leaves.waits o.holds.waits)) leaves.once
              | inr ne ↦
                  subst (λ (l : List ℕ). AreDistinct (((read ++ o.holds.places) ++ leaves.more) ++ l)) (sym (set_other id other leaves.waits o.holds.waits ne))
                  (distinct_apart (read ++ o.holds.places) leaves.more (o.holds.waits other) (distinct_left ((read ++ o.holds.places) ++ leaves.more) leaves.waits leaves.once) (o.holds.once other)
                  (λ q l r. ne (sym (one_stream queued id other q (leaves.on q l) (wait_on_it queued history got other q (o.holds.waits other) (streams other).waiting (o.holds.streams_hold other).wait r)))))
            ]);
      };
      order = λ other. elim (decide other id) [
        | inl e ↦
            subst (λ (k : ℕ). FewStream queued history known k (read ++ (o.holds.places ++ leaves.more)) (table_with id leaves.waits o.holds.waits k) (later k)) (sym e)
            (subst (λ (l : List ℕ). FewStream queued history known id (read ++ (o.holds.places ++ leaves.more)) l (later id)) (sym (set_same id leaves.waits o.holds.waits))
            (subst (λ (l : List ℕ). FewStream queued history known id l leaves.waits (later id)) (appended read o.holds.places leaves.more) leaves.order))
        | inr ne ↦
            subst (λ (l : List ℕ). FewStream queued history known other (read ++ (o.holds.places ++ leaves.more)) l (later other)) (sym (set_other id other leaves.waits o.holds.waits ne))
            (subst (λ (s : StreamModel). FewStream queued history known other (read ++ (o.holds.places ++ leaves.more)) (o.holds.waits other) s) (sym (others other ne))
            (subst (λ (l : List ℕ). FewStream queued history known other l (o.holds.waits other) (streams other)) (appended read o.holds.places leaves.more)
            (others_few queued history known other (read ++ o.holds.places) (o.holds.waits other) leaves.more (streams other)
            (λ place h is. ne (sym (one_stream queued id other place (leaves.on place h) (is.message, is.at, is.stream)))) (o.order other))))
      ];
    }
