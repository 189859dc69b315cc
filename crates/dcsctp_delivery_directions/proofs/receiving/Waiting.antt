-- What a part leaves on its stream, and what becomes ready by it.
use Rattle.std.proofs.Common.{◌≡◌, ◌≢◌, ◌==◌, ℕ, zero, suc, Bool, true, false, List, [], ◌∷◌, ◌++◌, length, take, drop, map, refl, sym, ◌∙◌, ap, subst, inl, inr}
use Rattle.std.specs.Prelude.{Some, nat_le, MatchBool, if◌then◌else◌}
use Rattle.std.proofs.lemmas.List.{append-nil}
use Rattle.dcsctp_spec_lemmas.specs.types.queues.Messages.{MessageContent}
use Rattle.dcsctp_spec_lemmas.specs.types.declared.arrivals.Taken.{Taken}
use Rattle.dcsctp_spec_lemmas.specs.spec.queues.Runs.{RunModel, PartModel, WholeModel, Assembly, part_dropped, part_kept, message_whole}
use Rattle.dcsctp_spec_lemmas.specs.spec.queues.IncomingStreams.{StreamModel, delivered_as, next_after, due, not_due, ready_with, WaitsAmong, TakesWhole, OrderedOutcome, UnorderedOutcome}
use Rattle.dcsctp_delivery_directions.specs.sending.Places.{HasEntry, at_place}
use Rattle.dcsctp_delivery_directions.specs.sending.Log.{Message, Piece, Slot, History, sent_messages}
use Rattle.dcsctp_delivery_directions.specs.receiving.Rows.{Spent, IsQueued, MakesQueued}
use Rattle.dcsctp_delivery_directions.specs.receiving.Ready.{IsOn, IsApart, ordered_base, AreDistinct, WasQueued, WereQueued, WaitQueued, StreamRows, StreamHolds, HoldsAll, held_messages}
use Rattle.dcsctp_delivery_directions.proofs.receiving.SpentRows.{rows_got, spent_got}
use Rattle.dcsctp_delivery_directions.proofs.receiving.Distinct.{appended, has_left, distinct_with}

-- ---- messages

module _ (queued : List Message) where
  pub both_queued : (places others : List ℕ) (contents more : List MessageContent) → WereQueued queued places contents → WereQueued queued others more → WereQueued queued (places ++ others) (contents ++ more)
  both_queued [] others [] more are are' = are'
  both_queued [] others (c ∷ contents) more are are' = absurd are
  both_queued (p ∷ places) others [] more are are' = absurd are
  both_queued (p ∷ places) others (c ∷ contents) more are are' = (are.0, both_queued places others contents more are.1 are')

  -- a place on the stream
  pub OnStream : ℕ → ℕ → Type 0
  OnStream id place = (message : Message) × (at_place place queued ≡ Some message) × (message.stream ≡ id)

  pub its_message : (id place : ℕ) → OnStream id place → (message : Message) × (at_place place queued ≡ Some message) × (message.stream ≡ id)
  unfolding OnStream
  its_message id place on = on

  pub other_streams : (id other place : ℕ) → OnStream id place → OnStream other place → id ≢ other → ⊥
  unfolding OnStream
  other_streams id other place (m, at, on) (n, at', on') ne =
      let both' : Some m ≡ Some n = sym at ∙ at' in
      let same : m ≡ n = cc in
      ne (sym on ∙ ap (λ (x : Message). x.stream) same ∙ on')

-- All of it was queued, and beside messages of these streams nothing became ready, and the same waits.
pub record HoldsBeside (queued : List Message) (history : History) (got : List ℕ) (base : ℕ) (read : List ℕ) (Named : ℕ → Type 0) (waits : ℕ → List ℕ) (places : List ℕ)
    (streams : ℕ → StreamModel) (unordered : List RunModel) (ready : List MessageContent) : Type 0 where
  pub holds : HoldsAll (sent_messages queued history) got base read (held_messages streams unordered ready)
  pub more : List ℕ
  pub places_are : holds.places ≡ places ++ more
  pub on : (q : ℕ) → HasEntry q more → (id : ℕ) × Named id × ((message : Message) × (at_place q queued ≡ Some message) × (message.stream ≡ id))
  pub others : (other : ℕ) → (Named other → ⊥) → holds.waits other ≡ waits other

-- a message of the stream, whatever its number
abbrev pub OfStream : ℕ → Piece → ℕ → Type 0
OfStream id piece number = piece.message.stream ≡ id

module _ (queued : List Message) (history : History) (got : List ℕ) where
  -- the same under less of a name
  pub renamed : (Named Other : Piece → ℕ → Type 0) → ((f : Piece) (number : ℕ) → Named f number → Other f number) → (place : ℕ) (outcome : Assembly) → MakesQueued queued history.log got Named place outcome → MakesQueued queued history.log got Other place outcome
  renamed Named Other less place part_dropped makes = tt
  renamed Named Other less place part_kept makes = tt
  renamed Named Other less place (message_whole whole) makes =
      record {
        offset = makes.offset;
        head = makes.head;
        at = makes.at;
        is = makes.is;
        queued_at = makes.queued_at;
        number = less makes.head whole.number makes.number;
        ppid = makes.ppid;
        payload = makes.payload;
        spent = makes.spent;
      }

  only_on : (id place : ℕ) (whole : WholeModel) → IsQueued queued history.log got (IsOn history id) place whole → IsQueued queued history.log got (OfStream id) place whole
  only_on id place whole is = renamed (IsOn history id) (OfStream id) (λ f number named. named.0) place (message_whole whole) is

  -- a whole message as it is delivered
  delivered : (id place : ℕ) (whole : WholeModel) → IsQueued queued history.log got (OfStream id) place whole → WasQueued queued place (delivered_as id whole)
  delivered id place whole is = record { message = is.head.message; at = is.queued_at; stream = sym is.number; ppid = is.ppid; payload = is.payload }

  on_stream : (id place : ℕ) (whole : WholeModel) → IsQueued queued history.log got (OfStream id) place whole → OnStream queued id place
  unfolding OnStream
  on_stream id place whole is = (is.head.message, is.queued_at, is.number)

  pub wait_on_stream : (id p : ℕ) (places : List ℕ) (wholes : List WholeModel) → WaitQueued queued history got id places wholes → HasEntry p places → OnStream queued id p
  wait_on_stream id p [] [] wait h = absurd h
  wait_on_stream id p [] (w ∷ wholes) wait h = absurd h
  wait_on_stream id p (q ∷ places) [] wait h = absurd wait
  wait_on_stream id p (q ∷ places) (w ∷ wholes) wait h =
      elim h [
        | inl e ↦ subst (λ (k : ℕ). OnStream queued id k) (sym e) (on_stream id q w (only_on id q w wait.0))
        | inr t ↦ wait_on_stream id p places wholes wait.1 t
      ]

  pub wait_spent : (id p : ℕ) (places : List ℕ) (wholes : List WholeModel) → WaitQueued queued history got id places wholes → HasEntry p places → Spent history.log got p
  wait_spent id p [] [] wait h = absurd h
  wait_spent id p [] (w ∷ wholes) wait h = absurd h
  wait_spent id p (q ∷ places) [] wait h = absurd wait
  wait_spent id p (q ∷ places) (w ∷ wholes) wait h =
      elim h [
        | inl e ↦ subst (λ (k : ℕ). Spent history.log got k) (sym e) wait.0.spent
        | inr t ↦ wait_spent id p places wholes wait.1 t
      ]

  -- what is due is a first part of what waits
  pub record Split (id : ℕ) (places : List ℕ) (ahead offset : List WholeModel) : Type 0 where
    pub front : List ℕ
    pub back : List ℕ
    pub parts : places ≡ front ++ back
    pub due_queued : WereQueued queued front (map (delivered_as id) ahead)
    pub left_queued : WaitQueued queued history got id back offset

  pub split_due : (id next : ℕ) (places : List ℕ) (waiting : List WholeModel) → WaitQueued queued history got id places waiting → Split id places (due next waiting) (not_due next waiting)
  split_due id next [] [] wait = record { front = []; back = []; parts = refl; due_queued = tt; left_queued = tt }
  split_due id next [] (w ∷ waiting) wait = absurd wait
  split_due id next (p ∷ places) [] wait = absurd wait
  split_due id next (p ∷ places) (w ∷ waiting) wait = go (nat_le w.number next) (split_due id (next_after next w) places waiting wait.1)
    where
      go : (b : Bool) → Split id places (due (next_after next w) waiting) (not_due (next_after next w) waiting)
          → Split id (p ∷ places) (if b then w ∷ due (next_after next w) waiting else []) (if b then not_due (next_after next w) waiting else w ∷ waiting)
      go true rest =
          record {
            front = p ∷ rest.front;
            back = rest.back;
            parts = ap (λ (l : List ℕ). p ∷ l) rest.parts;
            due_queued = (delivered id p w (only_on id p w wait.0), rest.due_queued);
            left_queued = rest.left_queued;
          }
      go false rest = record { front = []; back = p ∷ places; parts = refl; due_queued = tt; left_queued = wait }

  -- one that waits among others
  wait_among : (id p k : ℕ) (whole : WholeModel) (places : List ℕ) (wholes : List WholeModel) → IsQueued queued history.log got (IsOn history id) p whole → WaitQueued queued history got id places wholes
      → WaitQueued queued history got id (take k places ++ p ∷ drop k places) (take k wholes ++ whole ∷ drop k wholes)
  wait_among id p zero whole places wholes is wait = (is, wait)
  wait_among id p (suc k) whole [] [] is wait = (is, tt)
  wait_among id p (suc k) whole [] (w ∷ wholes) is wait = absurd wait
  wait_among id p (suc k) whole (q ∷ places) [] is wait = absurd wait
  wait_among id p (suc k) whole (q ∷ places) (w ∷ wholes) is wait = (wait.0, wait_among id p k whole places wholes is wait.1)

  take_drop : (k : ℕ) (l : List ℕ) → take k l ++ drop k l ≡ l
  take_drop zero l = refl
  take_drop (suc k) [] = refl
  take_drop (suc k) (x ∷ l) = ap (λ (r : List ℕ). x ∷ r) (take_drop k l)

  -- ---- what a part leaves on its stream

  -- These became ready besides: `all` are the places of the messages that were read or are ready, `places` of those that are
  -- ready.
  pub record Leaves (all places : List ℕ) (id : ℕ) (waiting : List WholeModel) (after : List MessageContent) : Type 0 where
    pub more : List ℕ
    pub waits : List ℕ
    pub were : WereQueued queued (places ++ more) after
    pub wait : WaitQueued queued history got id waits waiting
    pub once : AreDistinct ((all ++ more) ++ waits)
    pub on : (q : ℕ) → HasEntry q more → OnStream queued id q
    pub spent : (q : ℕ) → HasEntry q more → Spent history.log got q

  pub leaves_none : (all places waits : List ℕ) (id : ℕ) (waiting : List WholeModel) (before after : List MessageContent) → WereQueued queued places before → WaitQueued queued history got id waits waiting → AreDistinct (all ++ waits)
      → after ≡ before → Leaves all places id waiting after
  leaves_none all places waits id waiting before after were wait once same =
      record {
        more = [];
        waits = waits;
        were = subst (λ (l : List MessageContent). WereQueued queued (places ++ []) l) (sym same) (subst (λ (l : List ℕ). WereQueued queued l before) (sym (append-nil places)) were);
        wait = wait;
        once = subst (λ (l : List ℕ). AreDistinct (l ++ waits)) (sym (append-nil all)) once;
        on = λ q h. absurd h;
        spent = λ q h. absurd h;
      }

  leaves_one : (all places waits : List ℕ) (on id p : ℕ) (whole : WholeModel) (waiting : List WholeModel) (before after : List MessageContent) → id ≡ on → WereQueued queued places before → WaitQueued queued history got id waits waiting
      → IsQueued queued history.log got (OfStream id) p whole → AreDistinct (all ++ waits) → (HasEntry p (all ++ waits) → ⊥) → after ≡ before ++ delivered_as on whole ∷ [] → Leaves all places id waiting after
  leaves_one all places waits on id p whole waiting before after same were wait is once fresh e =
      record {
        more = p ∷ [];
        waits = waits;
        were = subst (λ (l : List MessageContent). WereQueued queued (places ++ p ∷ []) l) (sym e)
            (both_queued queued places (p ∷ []) before (delivered_as on whole ∷ []) were (subst (λ (k : ℕ). WasQueued queued p (delivered_as k whole)) same (delivered id p whole is), tt));
        wait = wait;
        once = subst (λ (l : List ℕ). AreDistinct l) (sym (appended all (p ∷ []) waits)) (distinct_with p all waits once fresh);
        on = λ q h. elim h [ inl e' ↦ subst (λ (k : ℕ). OnStream queued id k) (sym e') (on_stream id p whole is) | inr t ↦ absurd t ];
        spent = λ q h. elim h [ inl e' ↦ subst (λ (k : ℕ). Spent history.log got k) (sym e') is.spent | inr t ↦ absurd t ];
      }

  leaves_whole : (all places waits : List ℕ) (id p size : ℕ) (whole : WholeModel) (old new : StreamModel) (before after : List MessageContent) (taken : Taken) → id ≡ old.id → WereQueued queued places before
      → WaitQueued queued history got id waits old.waiting → IsQueued queued history.log got (IsOn history id) p whole → AreDistinct (all ++ waits) → (HasEntry p (all ++ waits) → ⊥) → TakesWhole whole old before size taken new after
      → Leaves all places id new.waiting after
  leaves_whole all places waits id p size whole old new before after taken same were wait is once fresh takes = go (whole.number == old.next) takes.ready takes.waiting
    where
      go : (b : Bool) → after ≡ (if b then before ++ ready_with old whole else before) → MatchBool b (new.waiting ≡ not_due (next_after old.next whole) old.waiting) (WaitsAmong whole old.waiting new.waiting)
          → Leaves all places id new.waiting after
      go true e left =
          let split = split_due id (next_after old.next whole) waits old.waiting wait in
          record {
            more = p ∷ split.front;
            waits = split.back;
            were = subst (λ (l : List MessageContent). WereQueued queued (places ++ (p ∷ split.front)) l) (sym e)
                (both_queued queued places (p ∷ split.front) before (ready_with old whole) were
                (subst (λ (k : ℕ). WereQueued queued (p ∷ split.front) (delivered_as k whole ∷ map (delivered_as k) (due (next_after old.next whole) old.waiting))) same (delivered id p whole (only_on id p whole is), split.due_queued)));
            wait = subst (λ (l : List WholeModel). WaitQueued queued history got id split.back l) (sym left) split.left_queued;
            once = subst (λ (l : List ℕ). AreDistinct l) (sym (appended all (p ∷ split.front) split.back))
                (subst (λ (l : List ℕ). AreDistinct (all ++ (p ∷ l))) split.parts (distinct_with p all waits once fresh));
            on = λ q h. elim h [
              | inl e' ↦ subst (λ (k : ℕ). OnStream queued id k) (sym e') (on_stream id p whole (only_on id p whole is))
              | inr t ↦ wait_on_stream id q waits old.waiting wait (subst (λ (l : List ℕ). HasEntry q l) (sym split.parts) (has_left q split.front split.back t))
            ];
            spent = λ q h. elim h [
              | inl e' ↦ subst (λ (k : ℕ). Spent history.log got k) (sym e') is.spent
              | inr t ↦ wait_spent id q waits old.waiting wait (subst (λ (l : List ℕ). HasEntry q l) (sym split.parts) (has_left q split.front split.back t))
            ];
          }
      go false e among =
          let whole_waits : take among.at waits ++ drop among.at waits ≡ waits = take_drop among.at waits in
          let split_all : (all ++ take among.at waits) ++ drop among.at waits ≡ all ++ waits = appended all (take among.at waits) (drop among.at waits) ∙ ap (λ (l : List ℕ). all ++ l) whole_waits in
          leaves_none all places (take among.at waits ++ p ∷ drop among.at waits) id new.waiting before after were
          (subst (λ (l : List WholeModel). WaitQueued queued history got id (take among.at waits ++ p ∷ drop among.at waits) l) (sym among.waiting) (wait_among id p among.at whole waits old.waiting is wait))
          (subst (λ (l : List ℕ). AreDistinct l) (appended all (take among.at waits) (p ∷ drop among.at waits))
          (distinct_with p (all ++ take among.at waits) (drop among.at waits) (subst (λ (l : List ℕ). AreDistinct l) (sym split_all) once) (λ h. fresh (subst (λ (l : List ℕ). HasEntry p l) split_all h))))
          e

  -- an ordered part
  pub leaves_ordered : (all places waits : List ℕ) (id p : ℕ) (part : PartModel) (old new : StreamModel) (before after : List MessageContent) (outcome : Assembly) (taken : Taken) → id ≡ old.id
      → WereQueued queued places before → WaitQueued queued history got id waits old.waiting → MakesQueued queued history.log got (IsOn history id) p outcome → AreDistinct (all ++ waits) → (HasEntry p (all ++ waits) → ⊥)
      → OrderedOutcome part old before outcome taken new after → Leaves all places id new.waiting after
  leaves_ordered all places waits id p part old new before after part_dropped taken same were wait makes once fresh does =
      leaves_none all places waits id new.waiting before after were (subst (λ (s : StreamModel). WaitQueued queued history got id waits s.waiting) (sym does.0) wait) once does.1
  leaves_ordered all places waits id p part old new before after part_kept taken same were wait makes once fresh does =
      leaves_none all places waits id new.waiting before after were (subst (λ (l : List WholeModel). WaitQueued queued history got id waits l) (sym does.1) wait) once does.2
  leaves_ordered all places waits id p part old new before after (message_whole whole) taken same were wait makes once fresh does =
      leaves_whole all places waits id p (length part.payload) whole old new before after taken same were wait makes once fresh does

  -- one under a number that another has
  pub leaves_repeated : (all places waits : List ℕ) (on id p : ℕ) (part : PartModel) (waiting : List WholeModel) (before after : List MessageContent) (outcome : Assembly) (taken : Taken) → id ≡ on
      → WereQueued queued places before → WaitQueued queued history got id waits waiting → MakesQueued queued history.log got (OfStream id) p outcome → AreDistinct (all ++ waits) → (HasEntry p (all ++ waits) → ⊥)
      → UnorderedOutcome part (delivered_as on) before outcome taken after → Leaves all places id waiting after
  leaves_repeated all places waits on id p part waiting before after part_dropped taken same were wait makes once fresh does = leaves_none all places waits id waiting before after were wait once does.0
  leaves_repeated all places waits on id p part waiting before after part_kept taken same were wait makes once fresh does = leaves_none all places waits id waiting before after were wait once does.0
  leaves_repeated all places waits on id p part waiting before after (message_whole whole) taken same were wait makes once fresh does =
      leaves_one all places waits on id p whole waiting before after same were wait makes once fresh does.0

-- ---- what was handled stays so

queued_got : (queued : List Message) (log : List Slot) (got : List ℕ) (n : ℕ) (Named : Piece → ℕ → Type 0) (place : ℕ) (whole : WholeModel) → IsQueued queued log got Named place whole → IsQueued queued log (n ∷ got) Named place whole
queued_got queued log got n Named place whole is =
    record { offset = is.offset; head = is.head; at = is.at; is = is.is; queued_at = is.queued_at; number = is.number; ppid = is.ppid; payload = is.payload; spent = spent_got log got n place is.spent }

pub wait_got : (queued : List Message) (history : History) (got : List ℕ) (n id : ℕ) (places : List ℕ) (wholes : List WholeModel) → WaitQueued queued history got id places wholes → WaitQueued queued history (n ∷ got) id places wholes
wait_got queued history got n id [] [] wait = tt
wait_got queued history got n id [] (w ∷ wholes) wait = absurd wait
wait_got queued history got n id (p ∷ places) [] wait = absurd wait
wait_got queued history got n id (p ∷ places) (w ∷ wholes) wait = (queued_got queued history.log got n (IsOn history id) p w wait.0, wait_got queued history got n id places wholes wait.1)

pub stream_rows_got : (history : History) (got : List ℕ) (n base id : ℕ) (stream : StreamModel) → StreamRows history got base id stream → StreamRows history (n ∷ got) base id stream
stream_rows_got history got n base id stream rows =
    record {
      is = rows.is;
      ordered = rows_got history.log got n (ordered_base base) (IsOn history id) stream.ordered rows.ordered;
      unordered = rows_got history.log got n (ordered_base base) (IsApart history id) stream.unordered rows.unordered;
      next = rows.next;
      last = rows.last;
    }

pub stream_got : (queued : List Message) (history : History) (got : List ℕ) (n base id : ℕ) (places : List ℕ) (stream : StreamModel) → StreamHolds queued history got base id places stream → StreamHolds queued history (n ∷ got) base id places stream
stream_got queued history got n base id places stream holds =
    record { rows = stream_rows_got history got n base id stream holds.rows; wait = wait_got queued history got n id places stream.waiting holds.wait }
