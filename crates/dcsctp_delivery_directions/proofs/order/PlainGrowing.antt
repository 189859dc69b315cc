-- What is received of DATA stays in order as the user reads, and as the peer goes on.
use Rattle.std.proofs.Common.{◌≡◌, ℕ, Bool, true, ◌<◌, ◌+◌, ◌-◌, ◌^◌, List, [], ◌∷◌, ◌++◌, length, refl, sym, ◌∙◌, ap, arith, subst, inl, inr}
use Rattle.std.specs.Prelude.{◌⊎◌, Some}
use Rattle.std.proofs.lemmas.List.{length-append}
use Rattle.dcsctp_spec_lemmas.specs.types.queues.Messages.{MessageContent}
use Rattle.dcsctp_spec_lemmas.specs.spec.queues.Numbers.{fragment_place}
use Rattle.dcsctp_spec_lemmas.specs.spec.queues.Runs.{RunModel, WholeModel}
use Rattle.dcsctp_spec_lemmas.specs.spec.queues.IncomingStreams.{StreamModel, is_number_waiting}
use Rattle.dcsctp_spec_lemmas.specs.spec.queues.Incoming.{IncomingModel, stream_on}
use Rattle.dcsctp_spec_lemmas.specs.spec.queues.Tracker.{TrackerState, has_received}
use Rattle.dcsctp_spec_lemmas.specs.spec.queues.Reassembly.{ReassemblyState, waiting_of, with_ready}
use Rattle.dcsctp_delivery_directions.specs.sending.Places.{HasEntry, at_place}
use Rattle.dcsctp_delivery_directions.specs.sending.Log.{Message, Piece, Slot, History, sent_messages}
use Rattle.dcsctp_delivery_directions.specs.sending.Turns.{turn_of_tsn, IsSsnOfTurn}
use Rattle.dcsctp_delivery_directions.proofs.sending.Extended.{at_more}
use Rattle.dcsctp_delivery_directions.proofs.sending.Places.{at_some, at_below}
use Rattle.dcsctp_delivery_directions.proofs.sending.Turns.{turn_more}
use Rattle.dcsctp_delivery_directions.specs.receiving.Rows.{AreRows}
use Rattle.dcsctp_delivery_directions.specs.receiving.Ready.{IsOn, ordered_base, AreDistinct, WasQueued, WereQueued, WaitQueued, IsNear, fresh, near, HoldsIncoming}
use Rattle.dcsctp_delivery_directions.specs.receiving.Received.{Reassembles, untouched, placed, HasReceived}
use Rattle.dcsctp_delivery_directions.specs.receiving.Tracked.{tracked_number}
use Rattle.dcsctp_delivery_directions.proofs.receiving.Continuing.{GoesOn, defers_more}
use Rattle.dcsctp_delivery_directions.proofs.receiving.Distinct.{appended, distinct_left, has_left, has_right}
use Rattle.dcsctp_delivery_directions.proofs.receiving.Growing.{holds_more}
use Rattle.dcsctp_delivery_directions.proofs.receiving.Tracked.{more_given_out}
use Rattle.dcsctp_delivery_directions.proofs.receiving.Waiting.{both_queued}
use Rattle.dcsctp_delivery_directions.specs.order.Queue.{ComeInOrder}
use Rattle.dcsctp_delivery_directions.specs.order.Rising.{AscendFrom}
use Rattle.dcsctp_delivery_directions.specs.order.Runs.{LieApart, IsHeldForMessage}
use Rattle.dcsctp_delivery_directions.specs.order.Order.{AreReadAs}
use Rattle.dcsctp_delivery_directions.specs.order.Incoming.{IsWithin}
use Rattle.dcsctp_delivery_directions.specs.order.Plain.{turned_log, with_turns, number_of_tsn, CountsPlain, CountsThese, CarriesOrdered, PlainStream, IncomingPlain}
use Rattle.dcsctp_delivery_directions.proofs.order.Incoming.{queued_so, in_order_more, sent_more, read_more}
use Rattle.dcsctp_delivery_directions.proofs.order.PlainRows.{turned_slots}
use Rattle.dcsctp_delivery_directions.proofs.order.PlainReceived.{ReassemblesPlain, none_handled, some_handled, HasReceivedPlain}

-- ---- what the user reads

-- The message was queued, and wasn't read before.
pub record TakesPlain (whole : Bool) (these : ℕ → Bool) (queued : List Message) (history : History) (first : ℕ) (read : List ℕ) (tracker : TrackerState) (reassembly : ReassemblyState) (message : MessageContent) (messages : List MessageContent) : Type 0 where
  pub place : ℕ
  pub was : WasQueued queued place message
  pub fresh : HasEntry place read → ⊥
  pub received : HasReceivedPlain whole these queued history first (read ++ place ∷ []) tracker (with_ready messages reassembly)

pub not_twice : (p : ℕ) (xs ys : List ℕ) → AreDistinct (xs ++ (p ∷ ys)) → HasEntry p xs → ⊥
not_twice p [] ys distinct h = h
not_twice p (x ∷ xs) ys distinct h =
    elim h [
      | inl e ↦ distinct.0 (has_right x xs (p ∷ ys) (inl (sym e)))
      | inr t ↦ not_twice p xs ys distinct.1 t
    ]

-- the first that is ready is read
record ReadsPlain (these : ℕ → Bool) (queued : List Message) (history : History) (got : List ℕ) (base : ℕ) (read : List ℕ) (incoming : IncomingModel) (message : MessageContent) (messages : List MessageContent) : Type 0 where
  place : ℕ
  was : WasQueued queued place message
  fresh : HasEntry place read → ⊥
  plain : IncomingPlain these queued history got base (read ++ place ∷ []) (record incoming { ready = messages })

reads_plain : (these : ℕ → Bool) (queued : List Message) (history : History) (got : List ℕ) (base : ℕ) (read : List ℕ) (incoming : IncomingModel) (message : MessageContent) (messages : List MessageContent) → incoming.ready ≡ message ∷ messages
    → IncomingPlain these queued history got base read incoming → ReadsPlain these queued history got base read incoming message messages
reads_plain these queued history got base read incoming message messages is o = go o.holds.places refl (subst (λ (l : List MessageContent). WereQueued queued o.holds.places l) is o.holds.were_queued)
  where
    go : (places : List ℕ) → o.holds.places ≡ places → WereQueued queued places (message ∷ messages) → ReadsPlain these queued history got base read incoming message messages
    go [] e were = absurd were
    go (p ∷ places) e were =
        let all : read ++ o.holds.places ≡ (read ++ p ∷ []) ++ places = ap (λ (l : List ℕ). read ++ l) e ∙ sym (appended read (p ∷ []) places) in
        record {
          place = p;
          was = were.0;
          fresh = not_twice p read places (subst (λ (l : List ℕ). AreDistinct (read ++ l)) e (distinct_left (read ++ o.holds.places) (o.holds.waits 0) (o.holds.once 0)));
          plain = record {
            holds = record {
              waits = o.holds.waits;
              streams_hold = o.holds.streams_hold;
              rows = o.holds.rows;
              places = places;
              were_queued = were.1;
              spent = λ q h. o.holds.spent q (subst (λ (l : List ℕ). HasEntry q l) (sym all) h);
              once = λ id. subst (λ (l : List ℕ). AreDistinct (l ++ o.holds.waits id)) all (o.holds.once id);
            };
            order = λ id kept. subst (λ (l : List ℕ). PlainStream (sent_messages queued history) got base id l (o.holds.waits id) (stream_on id incoming.streams)) all (o.order id kept);
          };
        }

pub takes_plain : (whole : Bool) (these : ℕ → Bool) (queued : List Message) (history : History) (first : ℕ) (read : List ℕ) (tracker : TrackerState) (reassembly : ReassemblyState) (message : MessageContent) (messages : List MessageContent)
    → reassembly.incoming.ready ≡ message ∷ messages → HasReceivedPlain whole these queued history first read tracker reassembly → TakesPlain whole these queued history first read tracker reassembly message messages
takes_plain whole these queued history first read tracker reassembly message messages is r = go r.holds
  where
    later : (place : ℕ) → ReassemblesPlain these queued history first r.got (read ++ place ∷ []) (record reassembly.incoming { ready = messages }) → HasReceivedPlain whole these queued history first (read ++ place ∷ []) tracker (with_ready messages reassembly)
    later place holds =
        record {
          taken = r.taken;
          got = r.got;
          later = r.later;
          tracks = r.tracks;
          exact = r.exact;
          pieces = r.pieces;
          got_taken = r.got_taken;
          later_taken = r.later_taken;
          either = r.either;
          apart = r.apart;
          distinct = r.distinct;
          holds = holds;
          defers = r.defers;
          others = r.others;
        }

    go : ReassemblesPlain these queued history first r.got read reassembly.incoming → TakesPlain whole these queued history first read tracker reassembly message messages
    go (some_handled base at o) =
        let t = reads_plain these queued history r.got base read reassembly.incoming message messages is o in
        record { place = t.place; was = t.was; fresh = t.fresh; received = later t.place (some_handled base at t.plain) }
    go (none_handled none last empty) =
        let t = reads_plain these queued history [] 0 read reassembly.incoming message messages is (empty 0) in
        let spent = t.plain.holds.spent t.place (has_left t.place (read ++ t.place ∷ []) t.plain.holds.places (has_right t.place read (t.place ∷ []) (inl refl))) in
        absurd (spent.covered spent.offset spent.head spent.at_head spent.is (omega arith) spent.order)

-- ---- the peer goes on

-- a log of DATA was one before
module _ (history later : History) (slots : List Slot) (is : later.log ≡ slots ++ history.log) where
  stays_before : (n : ℕ) (slot : Slot) → at_place n history.log ≡ Some slot → at_place n later.log ≡ Some slot
  stays_before n slot at = ap (λ (l : List Slot). at_place n l) is ∙ at_more slots history.log n slot at

  fewer_before : length later.log < 2 ^ 31 → length history.log < 2 ^ 31
  fewer_before few = (let sizes : length later.log ≡ length (slots ++ history.log) = ap (λ (l : List Slot). length l) is in omega (arith, few, sizes, length-append slots history.log))

  same_turn_before : (id n : ℕ) → n < length history.log → turn_of_tsn id n later.log ≡ turn_of_tsn id n history.log
  same_turn_before id n below = ap (λ (l : List Slot). turn_of_tsn id n l) is ∙ turn_more id n slots history.log below

  pub counts_before : (id : ℕ) → CountsPlain id later → CountsPlain id history
  counts_before id counts =
      record {
        kinds = λ n f at. counts.kinds n f (stays_before n (Some f) at);
        sent = λ n f of. subst (λ (k : ℕ). IsSsnOfTurn f.ssn k) (same_turn_before id n (at_below n (Some f) history.log of.at)) (counts.sent n f (record { at = stays_before n (Some f) of.at; stream = of.stream; ordered = of.ordered }));
        closes = λ n f g at at'. counts.closes n f g (stays_before n (Some f) at) (stays_before (n + 1) (Some g) at');
        few = fewer_before counts.few;
      }

  pub these_before : (whole : Bool) (these : ℕ → Bool) → CountsThese whole these later → CountsThese whole these history
  these_before whole these counts =
      record {
        kinds = λ n f at. counts.kinds n f (stays_before n (Some f) at);
        few = fewer_before counts.few;
        each = λ id mine. counts_before id (counts.each id mine);
        unlimited = λ some n f at. counts.unlimited some n f (stays_before n (Some f) at);
      }

module _ (queued more : List Message) (history later : History) (slots : List Slot) (is : later.log ≡ slots ++ history.log) (goes : GoesOn history later) (read : List ℕ) (contents : List MessageContent) (were : WereQueued queued read contents) where
  number_more : (id n : ℕ) → n < length history.log → number_of_tsn id n later.log ≡ number_of_tsn id n history.log
  number_more id n below = ap (λ (l : List Slot). number_of_tsn id n l) is ∙ ap (λ (k : ℕ). 2 ^ 32 + k - 1) (turn_more id n slots history.log below)

  -- the numbers stay
  within : IsWithin (with_turns history) (with_turns later)
  within =
      record {
        stays = λ n slot at. ap (λ (l : List Slot). at_place n (turned_log l)) is ∙ turned_slots slots history.log n slot at;
        floors = refl;
      }

  at_before : (id n : ℕ) (f : Piece) → n < length history.log → CarriesOrdered later.log id n f → (g : Piece) → at_place n history.log ≡ Some (Some g) → CarriesOrdered history.log id n f
  at_before id n f below of g at =
      let both : Some (Some f) ≡ Some (Some g) = sym of.at ∙ goes.stays n (Some g) at in
      let same : f ≡ g = cc in
      record { at = at ∙ ap (λ (x : Piece). Some (Some x)) (sym same); stream = of.stream; ordered = of.ordered }

  stream_more : (got : List ℕ) (base id : ℕ) (all waits : List ℕ) (texts : List MessageContent) (stream : StreamModel) → ((k : ℕ) → HasEntry k got → (f : Piece) × (at_place k history.log ≡ Some (Some f))) → WereQueued queued all texts
      → PlainStream (sent_messages queued history) got base id all waits stream → PlainStream (sent_messages (more ++ queued) later) got base id all waits stream
  unfolding within
  stream_more got base id all waits texts stream pieces queued_all s =
      record {
        order = record {
          in_order = in_order_more queued more (with_turns history) (with_turns later) id within all texts queued_all s.order.in_order;
          below = λ place has on. (
              let read' = s.order.below place has (queued_so queued more (with_turns history) (with_turns later) id within all texts queued_all place has on) in
              record { mid = read'.mid; sent = sent_more queued more (with_turns history) (with_turns later) id within place read'.mid read'.sent; below = read'.below }
              );
          waiting = read_more queued more (with_turns history) (with_turns later) id within waits stream.waiting s.order.waiting;
          ahead = s.order.ahead;
        };
        filled = λ number low less. (
            let found = s.filled number low less in
            record { place = found.place; has = found.has; is = record { mid = found.is.mid; sent = sent_more queued more (with_turns history) (with_turns later) id within found.place found.is.mid found.is.sent; counted = found.is.counted } }
            );
        from = s.from;
        apart = s.apart;
        runs = λ run has. (
            let r = s.runs run has in
            record {
              offset = r.offset;
              piece = r.piece;
              is = record { at = goes.stays r.offset (Some r.piece) r.is.at; stream = r.is.stream; ordered = r.is.ordered };
              number = r.number ∙ sym (number_more id r.offset (at_below r.offset (Some r.piece) history.log r.is.at));
              first = r.first;
            }
            );
        held = λ n f of has up. (
            let (g, at) = pieces n has in
            let below = at_below n (Some g) history.log at in
            let number = number_more id n below in
            subst (λ (k : ℕ). IsHeldForMessage stream.ordered (fragment_place k base + n) k ⊎ (is_number_waiting k stream.waiting ≡ true)) (sym number)
            (s.held n f (at_before id n f below of g at) has (omega (arith, number, up)))
            );
      }

  incoming_more : (these : ℕ → Bool) (got : List ℕ) (base : ℕ) (incoming : IncomingModel) → ((k : ℕ) → HasEntry k got → (f : Piece) × (at_place k history.log ≡ Some (Some f))) → IncomingPlain these queued history got base read incoming
      → IncomingPlain these (more ++ queued) later got base read incoming
  unfolding holds_more
  incoming_more these got base incoming pieces o =
      record {
        holds = holds_more queued more history later goes got base read incoming o.holds;
        order = λ id kept. stream_more got base id (read ++ o.holds.places) (o.holds.waits id) (contents ++ incoming.ready) (stream_on id incoming.streams) pieces
            (both_queued queued read o.holds.places contents incoming.ready were o.holds.were_queued) (o.order id kept);
      }

  pub received_more : (whole : Bool) (these : ℕ → Bool) (first : ℕ) (tracker : TrackerState) (reassembly : ReassemblyState) → HasReceivedPlain whole these queued history first read tracker reassembly
      → HasReceivedPlain whole these (more ++ queued) later first read tracker reassembly
  received_more whole these first tracker reassembly r =
      record {
        taken = r.taken;
        got = r.got;
        later = r.later;
        tracks = more_given_out first (length history.log) (length later.log) r.taken tracker goes.longer r.tracks;
        exact = λ k sure is. elim sure [
          | inl exact ↦ r.exact k (inl exact) is
          | inr s ↦ sure_before k s.0 s.1 s.2 is
        ];
        pieces = λ k h. (let (f, at) = r.pieces k h in (f, goes.stays k (Some f) at));
        got_taken = r.got_taken;
        later_taken = r.later_taken;
        either = r.either;
        apart = r.apart;
        distinct = r.distinct;
        holds = go r.holds;
        defers = defers_more history later goes first r.later (waiting_of reassembly.deferral) r.defers;
        others = λ k h f at. (
            let (g, was) = r.pieces k (r.later_taken k h) in
            let both : Some (Some f) ≡ Some (Some g) = sym at ∙ goes.stays k (Some g) was in
            let same : f ≡ g = cc in
            ap (λ (x : Piece). these x.message.stream) same ∙ r.others k h g was
            );
      }
    where
      -- a TSN that was received was assigned before
      sure_before : (k : ℕ) (f : Piece) → at_place k later.log ≡ Some (Some f) → these f.message.stream ≡ true → has_received tracker (tracked_number first k) ≡ true → HasEntry k r.taken
      sure_before k f at mine is =
          let (slot, was) = at_some k history.log (let sent = r.tracks.sent (tracked_number first k) is in omega (arith, sent)) in
          let both : Some slot ≡ Some (Some f) = sym (goes.stays k slot was) ∙ at in
          r.exact k (inr (f, was ∙ both, mine)) is

      go : ReassemblesPlain these queued history first r.got read reassembly.incoming → ReassemblesPlain these (more ++ queued) later first r.got read reassembly.incoming
      go (none_handled none last empty) = none_handled none last (λ base. incoming_more these [] base reassembly.incoming (λ k h. absurd h) (empty base))
      go (some_handled base at o) = some_handled base at (incoming_more these r.got base reassembly.incoming (λ k h. r.pieces k (r.got_taken k h)) o)

-- ---- nothing was sent yet

module _ (queued : List Message) (history : History) (empty : history.log ≡ []) where
  nowhere : (n : ℕ) (slot : Slot) → at_place n history.log ≡ Some slot → ⊥
  nowhere n slot at = (let none : at_place n [] ≡ Some slot = subst (λ (l : List Slot). at_place n l ≡ Some slot) empty at in absurd (cc))

  pub waits_none : (got : List ℕ) (id : ℕ) (waits : List ℕ) (waiting : List WholeModel) → WaitQueued queued history got id waits waiting → (next : ℕ) → AreReadAs (with_turns history) id waits waiting × AscendFrom next waiting
  waits_none got id [] [] wait next = (tt, tt)
  waits_none got id [] (w ∷ waiting) wait next = absurd wait
  waits_none got id (p ∷ waits) [] wait next = absurd wait
  waits_none got id (p ∷ waits) (w ∷ waiting) wait next = absurd (nowhere wait.0.offset (Some wait.0.head) wait.0.at)

  runs_none : (got : List ℕ) (base : ℕ → ℕ) (id : ℕ) (runs : List RunModel) → AreRows history.log got base (IsOn history id) runs → (run : RunModel) → HasEntry run runs → ⊥
  runs_none got base id [] are run has = has
  runs_none got base id (r ∷ runs) are run has = nowhere are.0.offset (Some are.0.head) are.0.at_head

  apart_none : (runs : List RunModel) → ((run : RunModel) → HasEntry run runs → ⊥) → LieApart 0 runs
  apart_none [] none = tt
  apart_none (r ∷ runs) none = absurd (none r (inl refl))

  pub in_order_none : (id : ℕ) (places : List ℕ) → ((p : ℕ) → HasEntry p places → ⊥) → ComeInOrder queued id places
  in_order_none id [] none = tt
  in_order_none id (p ∷ places) none = absurd (none p (inl refl))

  pub is_first : (next : ℕ) → IsNear (next + 1) next → next ≡ 2 ^ 32
  is_first next (fresh e) = e
  is_first next (near base same small low high) = absurd (omega (arith, same, low, high))

  holds_none : (these : ℕ → Bool) (got : List ℕ) (base : ℕ) (read : List ℕ) (incoming : IncomingModel) → HoldsIncoming queued history got base read incoming → IncomingPlain these queued history got base read incoming
  holds_none these got base read incoming holds =
      record {
        holds = holds;
        order = λ id kept. (
            let here = holds.streams_hold id in
            let stream : StreamModel = stream_on id incoming.streams in
            let waits = waits_none got id (holds.waits id) (stream_on id incoming.streams).waiting here.wait ((stream_on id incoming.streams).next + 1) in
            let runs = runs_none got (ordered_base base) id (stream_on id incoming.streams).ordered here.rows.ordered in
            let next : (stream_on id incoming.streams).next ≡ 2 ^ 32 =
            is_first (stream_on id incoming.streams).next (here.rows.next ((stream_on id incoming.streams).next + 1)
            (record { kinds = λ n f at. absurd (nowhere n (Some f) at); from = λ n f at on kind is. absurd (nowhere n (Some f) at); below = λ n f at on kind is. absurd (nowhere n (Some f) at) })) in
            record {
              order = record { in_order = in_order_none id (read ++ holds.places) none; below = λ place has on. absurd (none place has); waiting = waits.0; ahead = waits.1 };
              filled = λ number low less. absurd (omega (arith, low, less, next));
              from = omega (arith, next);
              apart = apart_none (stream_on id incoming.streams).ordered runs;
              runs = λ run has. absurd (runs run has);
              held = λ n f of. absurd (nowhere n (Some f) of.at);
            }
            );
      }
    where
      none : (p : ℕ) → HasEntry p (read ++ holds.places) → ⊥
      none p has = (let spent = holds.spent p has in nowhere spent.offset (Some spent.head) spent.at_head)

  pub received_nothing : (whole : Bool) (these : ℕ → Bool) (first : ℕ) (read : List ℕ) (tracker : TrackerState) (reassembly : ReassemblyState) → HasReceived queued history first read tracker reassembly
      → HasReceivedPlain whole these queued history first read tracker reassembly
  received_nothing whole these first read tracker reassembly r =
      record {
        taken = r.taken;
        got = r.got;
        later = r.later;
        tracks = r.tracks;
        exact = λ k sure is. absurd (unknown k is);
        pieces = λ k h. absurd (unknown k (r.tracks.received k h));
        got_taken = r.got_taken;
        later_taken = r.later_taken;
        either = λ k h. absurd (unknown k (r.tracks.received k h));
        apart = r.apart;
        distinct = r.distinct;
        holds = go r.holds;
        defers = r.defers;
        others = λ k h f at. absurd (nowhere k (Some f) at);
      }
    where
      unknown : (k : ℕ) → has_received tracker (tracked_number first k) ≡ true → ⊥
      unknown k is =
          let none : length history.log ≡ 0 = ap (λ (l : List Slot). length l) empty in
          let sent = r.tracks.sent (tracked_number first k) is in
          omega (arith, none, sent)

      go : Reassembles queued history first r.got read reassembly.incoming → ReassemblesPlain these queued history first r.got read reassembly.incoming
      go (untouched none last all) = none_handled none last (λ base. holds_none these [] base read reassembly.incoming (all base))
      go (placed base at holds) = some_handled base at (holds_none these r.got base read reassembly.incoming holds)
