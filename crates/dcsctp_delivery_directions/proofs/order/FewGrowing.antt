-- What is received of DATA stays in order as the user reads, and as the peer goes on, where few ordered messages were begun on
-- each stream.
use Rattle.std.proofs.Common.{◌≡◌, ℕ, Bool, ◌<◌, ◌+◌, ◌-◌, ◌^◌, List, [], ◌∷◌, ◌++◌, length, refl, sym, ◌∙◌, ap, arith, subst, inl, inr}
use Rattle.std.specs.Prelude.{Some}
use Rattle.dcsctp_spec_lemmas.specs.types.queues.Messages.{MessageContent}
use Rattle.dcsctp_spec_lemmas.specs.spec.queues.IncomingStreams.{StreamModel}
use Rattle.dcsctp_spec_lemmas.specs.spec.queues.Incoming.{IncomingModel, stream_on}
use Rattle.dcsctp_spec_lemmas.specs.spec.queues.Tracker.{TrackerState}
use Rattle.dcsctp_spec_lemmas.specs.spec.queues.Reassembly.{ReassemblyState}
use Rattle.dcsctp_delivery_directions.specs.sending.Places.{HasEntry, at_place}
use Rattle.dcsctp_delivery_directions.specs.sending.Log.{Message, Piece, Slot, History, IsLogOfPieces}
use Rattle.dcsctp_delivery_directions.specs.sending.Turns.{turn_of_tsn}
use Rattle.dcsctp_delivery_directions.proofs.sending.Places.{at_below}
use Rattle.dcsctp_delivery_directions.proofs.sending.Turns.{turn_more}
use Rattle.dcsctp_delivery_directions.specs.receiving.Ready.{AreDistinct, WasQueued, WereQueued, HoldsIncoming}
use Rattle.dcsctp_delivery_directions.specs.receiving.Received.{Reassembles, untouched, placed, HasReceived}
use Rattle.dcsctp_delivery_directions.proofs.receiving.Continuing.{GoesOn}
use Rattle.dcsctp_delivery_directions.proofs.receiving.Distinct.{appended, distinct_left, has_left, has_right}
use Rattle.dcsctp_delivery_directions.proofs.receiving.Growing.{holds_more}
use Rattle.dcsctp_delivery_directions.proofs.receiving.Tracked.{more_given_out}
use Rattle.dcsctp_delivery_directions.proofs.receiving.Waiting.{both_queued}
use Rattle.dcsctp_delivery_directions.specs.order.Incoming.{IsWithin}
use Rattle.dcsctp_delivery_directions.specs.order.Plain.{turned_log, with_turns, number_of_tsn, CarriesOrdered}
use Rattle.dcsctp_delivery_directions.proofs.order.Incoming.{queued_so, in_order_more, sent_more, read_more}
use Rattle.dcsctp_delivery_directions.proofs.order.PlainGrowing.{not_twice, counts_before, waits_none, in_order_none, is_first}
use Rattle.dcsctp_delivery_directions.proofs.order.PlainRows.{turned_slots, some_turn}
use Rattle.dcsctp_delivery_directions.proofs.order.PlainTurns.{at_there}
use Rattle.dcsctp_delivery_directions.proofs.order.FewTurns.{CountsFew, none_after}
use Rattle.dcsctp_delivery_directions.proofs.order.FewStreams.{EndedBefore, FewStream}
use Rattle.dcsctp_delivery_directions.proofs.order.FewLeaving.{IncomingFew}
use Rattle.dcsctp_delivery_directions.proofs.order.FewReceived.{ReassemblesFew, none_handled, some_handled, known_by, HasReceivedFew}

-- ---- what the user reads

-- The message was queued, and wasn't read before.
pub record TakesFew (queued : List Message) (history : History) (first : ℕ) (read : List ℕ) (tracker : TrackerState) (incoming : IncomingModel) (message : MessageContent) (messages : List MessageContent) : Type 0 where
  pub place : ℕ
  pub was : WasQueued queued place message
  pub fresh : HasEntry place read → ⊥
  pub received : HasReceivedFew queued history first (read ++ place ∷ []) tracker (record incoming { ready = messages })

-- the first that is ready is read
record ReadsFew (queued : List Message) (history : History) (got : List ℕ) (known : ℕ → Bool) (base : ℕ) (read : List ℕ) (incoming : IncomingModel) (message : MessageContent) (messages : List MessageContent) : Type 0 where
  place : ℕ
  was : WasQueued queued place message
  fresh : HasEntry place read → ⊥
  few : IncomingFew queued history got known base (read ++ place ∷ []) (record incoming { ready = messages })

reads_few : (queued : List Message) (history : History) (got : List ℕ) (known : ℕ → Bool) (base : ℕ) (read : List ℕ) (incoming : IncomingModel) (message : MessageContent) (messages : List MessageContent) → incoming.ready ≡ message ∷ messages
    → IncomingFew queued history got known base read incoming → ReadsFew queued history got known base read incoming message messages
reads_few queued history got known base read incoming message messages is o = go o.holds.places refl (subst (λ (l : List MessageContent). WereQueued queued o.holds.places l) is o.holds.were_queued)
  where
    go : (places : List ℕ) → o.holds.places ≡ places → WereQueued queued places (message ∷ messages) → ReadsFew queued history got known base read incoming message messages
    go [] e were = absurd were
    go (p ∷ places) e were =
        let all : read ++ o.holds.places ≡ (read ++ p ∷ []) ++ places = ap (λ (l : List ℕ). read ++ l) e ∙ sym (appended read (p ∷ []) places) in
        record {
          place = p;
          was = were.0;
          fresh = not_twice p read places (subst (λ (l : List ℕ). AreDistinct (read ++ l)) e (distinct_left (read ++ o.holds.places) (o.holds.waits 0) (o.holds.once 0)));
          few = record {
            holds = record {
              waits = o.holds.waits;
              streams_hold = o.holds.streams_hold;
              rows = o.holds.rows;
              places = places;
              were_queued = were.1;
              spent = λ q h. o.holds.spent q (subst (λ (l : List ℕ). HasEntry q l) (sym all) h);
              once = λ id. subst (λ (l : List ℕ). AreDistinct (l ++ o.holds.waits id)) all (o.holds.once id);
            };
            order = λ id. subst (λ (l : List ℕ). FewStream queued history known id l (o.holds.waits id) (stream_on id incoming.streams)) all (o.order id);
          };
        }

pub takes_few : (queued : List Message) (history : History) (first : ℕ) (read : List ℕ) (tracker : TrackerState) (incoming : IncomingModel) (message : MessageContent) (messages : List MessageContent) → incoming.ready ≡ message ∷ messages
    → HasReceivedFew queued history first read tracker incoming → TakesFew queued history first read tracker incoming message messages
takes_few queued history first read tracker incoming message messages is r = go r.holds
  where
    go : ReassemblesFew queued history (known_by first tracker) first r.got read incoming → TakesFew queued history first read tracker incoming message messages
    go (some_handled base at o) =
        let t = reads_few queued history r.got (known_by first tracker) base read incoming message messages is o in
        record { place = t.place; was = t.was; fresh = t.fresh; received = record { got = r.got; tracks = r.tracks; holds = some_handled base at t.few } }
    go (none_handled none last empty) =
        let t = reads_few queued history [] (known_by first tracker) 0 read incoming message messages is (empty 0) in
        let spent = t.few.holds.spent t.place (has_left t.place (read ++ t.place ∷ []) t.few.holds.places (has_right t.place read (t.place ∷ []) (inl refl))) in
        absurd (spent.covered spent.offset spent.head spent.at_head spent.is (omega arith) spent.order)

-- ---- the peer goes on

-- few were begun before
pub few_before : (history later : History) (slots : List Slot) → later.log ≡ slots ++ history.log → ((n : ℕ) (slot : Slot) → at_place n history.log ≡ Some slot → at_place n later.log ≡ Some slot) → CountsFew later → CountsFew history
few_before history later slots is stays counts =
    record {
      plain = λ id. counts_before history later slots is id (counts.plain id);
      low = λ id n f of. (
          let low = counts.low id n f (record { at = stays n (Some f) of.at; stream = of.stream; ordered = of.ordered }) in
          let same : turn_of_tsn id n later.log ≡ turn_of_tsn id n history.log = ap (λ (l : List Slot). turn_of_tsn id n l) is ∙ turn_more id n slots history.log (at_below n (Some f) history.log of.at) in
          omega (arith, low, same)
          );
    }

module _ (queued more : List Message) (history later : History) (cut : IsLogOfPieces (more ++ queued) later.log) (counts : CountsFew later) (slots : List Slot) (is : later.log ≡ slots ++ history.log) (goes : GoesOn history later) (read : List ℕ) (contents : List MessageContent) (were : WereQueued queued read contents) where
  turn_stays : (id n : ℕ) → n < length history.log → turn_of_tsn id n later.log ≡ turn_of_tsn id n history.log
  turn_stays id n below = ap (λ (l : List Slot). turn_of_tsn id n l) is ∙ turn_more id n slots history.log below

  ended_more : (id next : ℕ) → EndedBefore history id next → EndedBefore later id next
  ended_more id next (inl e) = inl e
  ended_more id next (inr c) =
      let below = at_below c.offset c.slot history.log c.at in
      let same = turn_stays id c.offset below in
      let reached = c.reached in
      inr (record { offset = c.offset; slot = c.slot; at = goes.stays c.offset c.slot c.at; ends = c.ends; reached = omega (arith, same, reached) })

  -- what comes before the next one was sent before
  before_then : (id next n : ℕ) (f : Piece) → EndedBefore history id next → CarriesOrdered later.log id n f → number_of_tsn id n later.log < next → n < length history.log
  before_then id next n f (inl e) of less = absurd (let some = some_turn (more ++ queued) later cut id (counts.plain id) n f of in omega (arith, e, some, less))
  before_then id next n f (inr c) of less =
      let below = at_below c.offset c.slot history.log c.at in
      let same = turn_stays id c.offset below in
      let reached = c.reached in
      let some = some_turn (more ++ queued) later cut id (counts.plain id) n f of in
      let after = none_after (more ++ queued) later cut counts.plain id (next - 2 ^ 32) n f (record { offset = c.offset; slot = c.slot; at = goes.stays c.offset c.slot c.at; ends = c.ends; reached = omega (arith, same, reached) }) of
      (omega (arith, less, some)) in
      omega (arith, after, below)

  stream_more : (known : ℕ → Bool) (id : ℕ) (all waits : List ℕ) (texts : List MessageContent) (stream : StreamModel) → WereQueued queued all texts
      → FewStream queued history known id all waits stream → FewStream (more ++ queued) later known id all waits stream
  stream_more known id all waits texts stream queued_all s =
      let inside : IsWithin (with_turns history) (with_turns later) = record { stays = λ n slot at. ap (λ (l : List Slot). at_place n (turned_log l)) is ∙ turned_slots slots history.log n slot at; floors = refl } in
      record {
        order = record {
          in_order = in_order_more queued more (with_turns history) (with_turns later) id inside all texts queued_all s.order.in_order;
          below = λ place has on. (
              let read' = s.order.below place has (queued_so queued more (with_turns history) (with_turns later) id inside all texts queued_all place has on) in
              record { mid = read'.mid; sent = sent_more queued more (with_turns history) (with_turns later) id inside place read'.mid read'.sent; below = read'.below }
              );
          waiting = read_more queued more (with_turns history) (with_turns later) id inside waits stream.waiting s.order.waiting;
          ahead = s.order.ahead;
        };
        from = s.from;
        ended = ended_more id stream.next s.ended;
        over = λ n f of less. (
            let below = before_then id stream.next n f s.ended of less in
            let (slot, at) = at_there n history.log below in
            let both : Some slot ≡ Some (Some f) = sym (goes.stays n slot at) ∙ of.at in
            let same : slot ≡ Some f = cc in
            let number = turn_stays id n below in
            s.over n f (record { at = at ∙ ap (λ (x : Slot). Some x) same; stream = of.stream; ordered = of.ordered }) (omega (arith, number, less))
            );
      }

  incoming_more : (got : List ℕ) (known : ℕ → Bool) (base : ℕ) (incoming : IncomingModel) → IncomingFew queued history got known base read incoming → IncomingFew (more ++ queued) later got known base read incoming
  unfolding holds_more
  incoming_more got known base incoming o =
      record {
        holds = holds_more queued more history later goes got base read incoming o.holds;
        order = λ id. stream_more known id (read ++ o.holds.places) (o.holds.waits id) (contents ++ incoming.ready) (stream_on id incoming.streams)
            (both_queued queued read o.holds.places contents incoming.ready were o.holds.were_queued) (o.order id);
      }

  pub received_more : (first : ℕ) (tracker : TrackerState) (incoming : IncomingModel) → HasReceivedFew queued history first read tracker incoming → HasReceivedFew (more ++ queued) later first read tracker incoming
  received_more first tracker incoming r =
      record { got = r.got; tracks = more_given_out first (length history.log) (length later.log) r.got tracker goes.longer r.tracks; holds = go r.holds }
    where
      go : ReassemblesFew queued history (known_by first tracker) first r.got read incoming → ReassemblesFew (more ++ queued) later (known_by first tracker) first r.got read incoming
      go (none_handled none last empty) = none_handled none last (λ base. incoming_more [] (known_by first tracker) base incoming (empty base))
      go (some_handled base at o) = some_handled base at (incoming_more r.got (known_by first tracker) base incoming o)

-- ---- nothing was sent yet

module _ (queued : List Message) (history : History) (empty : history.log ≡ []) where
  nowhere : (n : ℕ) (slot : Slot) → at_place n history.log ≡ Some slot → ⊥
  nowhere n slot at = (let none : at_place n [] ≡ Some slot = subst (λ (l : List Slot). at_place n l ≡ Some slot) empty at in absurd (cc))

  holds_none : (got : List ℕ) (known : ℕ → Bool) (base : ℕ) (read : List ℕ) (incoming : IncomingModel) → HoldsIncoming queued history got base read incoming → IncomingFew queued history got known base read incoming
  holds_none got known base read incoming holds =
      record {
        holds = holds;
        order = λ id. (
            let here = holds.streams_hold id in
            let waits = waits_none queued history empty got id (holds.waits id) (stream_on id incoming.streams).waiting here.wait ((stream_on id incoming.streams).next + 1) in
            let next : (stream_on id incoming.streams).next ≡ 2 ^ 32 =
            is_first queued history empty (stream_on id incoming.streams).next (here.rows.next ((stream_on id incoming.streams).next + 1)
            (record { kinds = λ n f at. absurd (nowhere n (Some f) at); from = λ n f at on kind is. absurd (nowhere n (Some f) at); below = λ n f at on kind is. absurd (nowhere n (Some f) at) })) in
            record {
              order = record { in_order = in_order_none queued history empty id (read ++ holds.places) none; below = λ place has on. absurd (none place has); waiting = waits.0; ahead = waits.1 };
              from = omega (arith, next);
              ended = inl next;
              over = λ n f of less. absurd (nowhere n (Some f) of.at);
            }
            );
      }
    where
      none : (p : ℕ) → HasEntry p (read ++ holds.places) → ⊥
      none p has = (let spent = holds.spent p has in nowhere spent.offset (Some spent.head) spent.at_head)

  pub received_nothing : (first : ℕ) (read : List ℕ) (tracker : TrackerState) (reassembly : ReassemblyState) → HasReceived queued history first read tracker reassembly → HasReceivedFew queued history first read tracker reassembly.incoming
  received_nothing first read tracker reassembly r =
      record {
        got = r.got;
        tracks = record { beyond = r.tracks.beyond; reached = r.tracks.reached; started = r.tracks.started; sent = r.tracks.sent; received = λ k h. r.tracks.received k (r.got_taken k h) };
        holds = go r.holds;
      }
    where
      go : Reassembles queued history first r.got read reassembly.incoming → ReassemblesFew queued history (known_by first tracker) first r.got read reassembly.incoming
      go (untouched none last all) = none_handled none last (λ base. holds_none [] (known_by first tracker) base read reassembly.incoming (all base))
      go (placed base at holds) = some_handled base at (holds_none r.got (known_by first tracker) base read reassembly.incoming holds)
