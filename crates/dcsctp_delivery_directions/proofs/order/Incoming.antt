-- Streams that are reset, what the user reads, and more that the peer sends.
use Rattle.std.proofs.Common.{◌≡◌, ℕ, Bool, true, false, ◌%◌, ◌^◌, List, [], ◌∷◌, ◌++◌, refl, sym, ◌∙◌, ap, subst, inl, inr, arith, ◌≤◌}
use Rattle.std.specs.Prelude.{◌||◌, Some, not, if◌then◌else◌}
use Rattle.dcsctp_spec_lemmas.specs.types.queues.Messages.{MessageContent}
use Rattle.dcsctp_spec_lemmas.specs.spec.queues.Runs.{RunModel, WholeModel}
use Rattle.dcsctp_spec_lemmas.specs.spec.queues.IncomingStreams.{StreamModel, new_stream}
use Rattle.dcsctp_spec_lemmas.specs.spec.queues.Incoming.{IncomingModel, nothing, stream_on, is_named, ResetsStreams}
use Rattle.dcsctp_spec_lemmas.specs.spec.queues.Reassembly.{names_stream}
use Rattle.dcsctp_delivery_directions.specs.sending.Places.{HasEntry, at_place}
use Rattle.dcsctp_delivery_directions.specs.sending.Log.{IsLogOfPieces, Message, History, sent_messages}
use Rattle.dcsctp_delivery_directions.proofs.sending.Extended.{at_more}
use Rattle.dcsctp_delivery_directions.specs.receiving.Rows.{AreRows}
use Rattle.dcsctp_delivery_directions.specs.receiving.Ready.{IsOfStream, unordered_base, AreDistinct, WereQueued, held_messages}
use Rattle.dcsctp_delivery_directions.proofs.receiving.Distinct.{has_right, appended, distinct_left}
use Rattle.dcsctp_delivery_directions.proofs.receiving.Skipping.{rows_filter, new_rows, holds_renewed}
use Rattle.dcsctp_delivery_directions.specs.order.Queue.{IsMessageOn, IsOrderedOn, ComeInOrder, AreSeparated}
use Rattle.dcsctp_delivery_directions.specs.order.Order.{IsSentAs, IsReadAs, AreReadAs, IsBetweenResets}
use Rattle.dcsctp_delivery_directions.specs.order.Epochs.{AreSentUnlimited, LeavesNoGapTo, LeaveNoGapSent, AreReadByEpoch, SendsEpochsInTurn}
use Rattle.dcsctp_delivery_directions.specs.order.Reading.{CountsFromZero, Watch, uncut, ComeSince}
use Rattle.dcsctp_delivery_directions.specs.order.Incoming.{IsOrderedOrReset, HoldsOrdered, IncomingOrdered, ReadsInOrder, IsWithin, first_ready, NamedAreRead, SendsNoMore}
use Rattle.dcsctp_delivery_directions.proofs.order.Order.{come_between, new_in_order}
use Rattle.dcsctp_delivery_directions.proofs.order.Epochs.{new_by_epoch, epochs_leave_no_gap}
use Rattle.dcsctp_delivery_directions.proofs.order.Separated.{separated_queued, ordered_before}
use Rattle.dcsctp_delivery_directions.proofs.sending.Places.{at_some, at_below}
use Rattle.dcsctp_delivery_directions.proofs.order.HeldParts.{parts_anew}
use Rattle.dcsctp_delivery_directions.specs.order.Parts.{HoldsParts, ReadsAllSent}

-- ---- an association that was just begun

pub beginning_in_order : (asks : ℕ → ℕ → Bool) (queued : List Message) (history : History) (quiet : ℕ → Bool) (base : ℕ) → IncomingOrdered (uncut false asks) (sent_messages queued history) quiet [] base [] nothing
beginning_in_order asks queued history quiet base =
    record {
      holds = record {
        waits = λ id. [];
        streams_hold = λ id. record { rows = new_rows history [] base id; wait = tt };
        rows = tt;
        places = [];
        were_queued = tt;
        spent = λ p h. absurd h;
        once = λ id. tt;
      };
      order = λ id counts. first id (quiet id);
      within = λ n h. absurd h;
      parts = λ id counts loud. parts_anew history [] id (λ n f is h. absurd h);
    }
  where
    first : (id : ℕ) (b : Bool) → IsOrderedOrReset (uncut false asks id) b (sent_messages queued history) id [] [] (new_stream id)
    first id false = record { order = new_in_order queued history id; reach = record { from = omega arith; up_to = omega arith }; by_epoch = new_by_epoch false (asks id) queued history id; separated = λ cut has. absurd has; since = λ cut has. absurd has }
    first id true = (record { in_order = tt; sent = λ place has on. absurd has }, (λ cut has. absurd has), (λ later has on. absurd has), (λ knows. absurd (cc)))

-- ---- streams that are reset

pub quiet_where : (watch : Watch) (queued : List Message) (history : History) (b : Bool) (id : ℕ) (all waits : List ℕ) (stream : StreamModel) → IsOrderedOrReset watch b (sent_messages queued history) id all waits stream → IsBetweenResets queued history id all
quiet_where watch queued history false id all waits stream o = come_between queued history id all waits stream o.order
quiet_where watch queued history true id all waits stream between = between.0

pub separated_where : (watch : Watch) (queued : List Message) (history : History) (b : Bool) (id : ℕ) (all waits : List ℕ) (stream : StreamModel) → IsOrderedOrReset watch b (sent_messages queued history) id all waits stream → AreSeparated watch.knows_all watch.asks queued id watch.cuts all
separated_where watch queued history false id all waits stream o = o.separated
separated_where watch queued history true id all waits stream between = between.1

-- Where each epoch is sent in turn, none is left out of one.
pub no_gap_where : (watch : Watch) (queued : List Message) (history : History) (b : Bool) (id : ℕ) (all waits : List ℕ) (stream : StreamModel) → IsLogOfPieces queued history.log → CountsFromZero history id → SendsEpochsInTurn watch.asks queued history id
    → IsOrderedOrReset watch b (sent_messages queued history) id all waits stream → LeaveNoGapSent watch.knows_all watch.asks queued history id all
no_gap_where watch queued history false id all waits stream cut counts turns o = epochs_leave_no_gap watch.knows_all watch.asks queued history id all stream.next cut counts turns o.by_epoch
no_gap_where watch queued history true id all waits stream cut counts turns between = between.2

module _ (watch : ℕ → Watch) (queued : List Message) (history : History) (quiet : ℕ → Bool) (got : List ℕ) (base : ℕ) (read : List ℕ) where
  renewed : IsLogOfPieces queued history.log → ((id : ℕ) → SendsEpochsInTurn (watch id).asks queued history id) → (named : ℕ → Bool) (streams later : ℕ → StreamModel) (unordered others : List RunModel) (ready : List MessageContent) → ((id : ℕ) → later id ≡ (if named id then new_stream id else streams id))
      → AreRows history.log got (unordered_base base) IsOfStream others → (o : HoldsOrdered watch (sent_messages queued history) quiet got base read (held_messages streams unordered ready))
      → ((id : ℕ) → named id ≡ true → quiet id ≡ false → CountsFromZero history id → (watch id).knows_all ≡ true → ReadsAllSent history id (read ++ o.holds.places))
      → HoldsOrdered watch (sent_messages queued history) (λ id. quiet id || named id) got base read (held_messages later others ready)
  unfolding holds_renewed
  renewed cut turns named streams later unordered others ready are rows o all =
      record {
        holds = holds_renewed queued history got base read named streams later unordered others ready are rows o.holds;
        order = λ id counts. subst (λ (s : StreamModel). IsOrderedOrReset (watch id) (quiet id || named id) (sent_messages queued history) id (read ++ o.holds.places) (if named id then [] else o.holds.waits id) s) (sym (are id))
            (left_order id counts (quiet id) (named id) refl refl (o.order id counts));
        within = o.within;
        parts = λ id counts loud. subst (λ (s : StreamModel). HoldsParts history got id s) (sym (are id)) (left_parts id (quiet id) (named id) (o.parts id counts) loud);
      }
    where
      left_parts : (id : ℕ) (was b : Bool) → (was ≡ false → HoldsParts history got id (streams id)) → (was || b) ≡ false → HoldsParts history got id (if b then new_stream id else streams id)
      left_parts id true b parts loud = absurd (cc)
      left_parts id false true parts loud = absurd (cc)
      left_parts id false false parts loud = parts refl

      left_order : (id : ℕ) → CountsFromZero history id → (was b : Bool) → quiet id ≡ was → named id ≡ b → IsOrderedOrReset (watch id) was (sent_messages queued history) id (read ++ o.holds.places) (o.holds.waits id) (streams id)
          → IsOrderedOrReset (watch id) (was || b) (sent_messages queued history) id (read ++ o.holds.places) (if b then [] else o.holds.waits id) (if b then new_stream id else streams id)
      left_order id counts true true is its between = between
      left_order id counts true false is its between = between
      left_order id counts false true is its ordered = (
        quiet_where (watch id) queued history false id (read ++ o.holds.places) (o.holds.waits id) (streams id) ordered,
        ordered.separated,
        epochs_leave_no_gap (watch id).knows_all (watch id).asks queued history id (read ++ o.holds.places) (streams id).next cut counts (turns id) ordered.by_epoch,
        λ knows. all id its is counts knows,
      )
      left_order id counts false false is its ordered = ordered

  pub resetting_in_order : (streams : List ℕ) (old new : IncomingModel) → IsLogOfPieces queued history.log → ((id : ℕ) → SendsEpochsInTurn (watch id).asks queued history id) → (o : IncomingOrdered watch (sent_messages queued history) quiet got base read old) → NamedAreRead watch history quiet streams (read ++ o.holds.places) → ResetsStreams streams old new → IncomingOrdered watch (sent_messages queued history) (λ id. quiet id || names_stream streams id) got base read new
  resetting_in_order [] old new cut turns o all resets =
      subst (λ (l : List MessageContent). HoldsOrdered watch (sent_messages queued history) (λ id. quiet id || true) got base read (held_messages (λ id. stream_on id new.streams) new.unordered l)) (sym resets.kept.ready)
      (renewed cut turns (λ id. true) (λ id. stream_on id old.streams) (λ id. stream_on id new.streams) old.unordered new.unordered old.ready resets.streams
      (subst (λ (l : List RunModel). AreRows history.log got (unordered_base base) IsOfStream l) (sym resets.unordered) tt) o all)
  resetting_in_order (reset ∷ others) old new cut turns o all resets =
      subst (λ (l : List MessageContent). HoldsOrdered watch (sent_messages queued history) (λ id. quiet id || is_named (reset ∷ others) id) got base read (held_messages (λ id. stream_on id new.streams) new.unordered l)) (sym resets.kept.ready)
      (renewed cut turns (is_named (reset ∷ others)) (λ id. stream_on id old.streams) (λ id. stream_on id new.streams) old.unordered new.unordered old.ready resets.streams
      (subst (λ (l : List RunModel). AreRows history.log got (unordered_base base) IsOfStream l) (sym resets.unordered) (rows_filter queued history got base read (unordered_base base) IsOfStream (λ run. not (is_named (reset ∷ others) run.number)) old.unordered o.holds.rows)) o all)

  -- ---- what the user reads

  not_twice : (p : ℕ) (xs ys : List ℕ) → AreDistinct (xs ++ (p ∷ ys)) → HasEntry p xs → ⊥
  not_twice p [] ys distinct h = h
  not_twice p (x ∷ xs) ys distinct h =
      elim h [
        | inl e ↦ distinct.0 (has_right x xs (p ∷ ys) (inl (sym e)))
        | inr t ↦ not_twice p xs ys distinct.1 t
      ]

  pub taking_in_order : (incoming : IncomingModel) (message : MessageContent) (messages : List MessageContent) → incoming.ready ≡ message ∷ messages → IncomingOrdered watch (sent_messages queued history) quiet got base read incoming
      → ReadsInOrder watch (sent_messages queued history) quiet got base read (first_ready incoming message messages)
  taking_in_order incoming message messages is o = go o.holds.places refl (subst (λ (l : List MessageContent). WereQueued queued o.holds.places l) is o.holds.were_queued)
    where
      go : (places : List ℕ) → o.holds.places ≡ places → WereQueued queued places (message ∷ messages) → ReadsInOrder watch (sent_messages queued history) quiet got base read (first_ready incoming message messages)
      go [] e were = absurd were
      go (p ∷ places) e were =
          let all : read ++ o.holds.places ≡ (read ++ p ∷ []) ++ places = ap (λ (l : List ℕ). read ++ l) e ∙ sym (appended read (p ∷ []) places) in
          record {
            place = p;
            was = were.0;
            fresh = not_twice p read places (subst (λ (l : List ℕ). AreDistinct (read ++ l)) e (distinct_left (read ++ o.holds.places) (o.holds.waits 0) (o.holds.once 0)));
            ordered = record {
              holds = record {
                waits = o.holds.waits;
                streams_hold = o.holds.streams_hold;
                rows = o.holds.rows;
                places = places;
                were_queued = were.1;
                spent = λ q h. o.holds.spent q (subst (λ (l : List ℕ). HasEntry q l) (sym all) h);
                once = λ id. subst (λ (l : List ℕ). AreDistinct (l ++ o.holds.waits id)) all (o.holds.once id);
              };
              order = λ id counts. subst (λ (l : List ℕ). IsOrderedOrReset (watch id) (quiet id) (sent_messages queued history) id l (o.holds.waits id) (stream_on id incoming.streams)) all (o.order id counts);
              within = o.within;
              parts = o.parts;
            };
          }

  in_order_front : (id : ℕ) (xs ys : List ℕ) → ComeInOrder queued id (xs ++ ys) → ComeInOrder queued id xs
  in_order_front id [] ys are = tt
  in_order_front id (x ∷ xs) ys are = (λ later has on on'. are.0 later (among later xs has) on on', in_order_front id xs ys are.1)
    where
      among : (p : ℕ) (zs : List ℕ) → HasEntry p zs → HasEntry p (zs ++ ys)
      among p [] h = absurd h
      among p (z ∷ zs) h = elim h [ inl e ↦ inl e | inr t ↦ inr (among p zs t) ]

  pub ordered_was_read : (incoming : IncomingModel) (id : ℕ) → CountsFromZero history id → IncomingOrdered watch (sent_messages queued history) quiet got base read incoming → ComeInOrder queued id read
  ordered_was_read incoming id counts o = in_order_front id read o.holds.places (quiet_where (watch id) queued history (quiet id) id (read ++ o.holds.places) (o.holds.waits id) (stream_on id incoming.streams) (o.order id counts)).in_order

-- ---- more that the peer queues and sends

module _ (queued more : List Message) (history later : History) (id : ℕ) (within : IsWithin history later) where
  same_floor : later.floors id false ≡ history.floors id false
  same_floor = ap (λ (floors : ℕ → Bool → ℕ). floors id false) within.floors

  pub counts_before : CountsFromZero later id → CountsFromZero history id
  counts_before counts =
      record {
        kinds = λ n f at. counts.kinds n f (within.stays n (Some f) at);
        follows = λ m n f g at at'. counts.follows m n f g (within.stays m (Some f) at) (within.stays n (Some g) at');
        apart = λ m n f g at at'. counts.apart m n f g (within.stays m (Some f) at) (within.stays n (Some g) at');
        floor = ap (λ (k : ℕ). k % 2 ^ 32) (sym same_floor) ∙ counts.floor;
        few = λ n f at on ordered. (let few = counts.few n f (within.stays n (Some f) at) on ordered in omega (arith, few, same_floor));
        dense = λ n f at on ordered mid from up. (
            let (b, low) = counts.dense n f (within.stays n (Some f) at) on ordered mid (omega (arith, from, same_floor)) up in
            let (slot, there) = at_some b.offset history.log (let below = at_below n (Some f) history.log at in omega (arith, below, low)) in
            let same : Some slot ≡ Some (Some b.piece) = sym (within.stays b.offset slot there) ∙ b.at in
            (record { offset = b.offset; piece = b.piece; at = there ∙ same; stream = b.stream; ordered = b.ordered; start = b.start; under = b.under }, low)
            );
      }

  -- a message that was queued
  pub queued_so : (places : List ℕ) (contents : List MessageContent) → WereQueued queued places contents → (place : ℕ) → HasEntry place places → IsOrderedOn (more ++ queued) id place → IsOrderedOn queued id place
  queued_so [] contents were place has on = absurd has
  queued_so (p ∷ places) [] were place has on = absurd were
  queued_so (p ∷ places) (c ∷ contents) were place has on =
      elim has [
        | inl e ↦
            (let at : at_place place queued ≡ Some were.0.message = ap (λ (k : ℕ). at_place k queued) e ∙ were.0.at in
            let both : Some on.message ≡ Some were.0.message = sym on.at ∙ at_more more queued place were.0.message at in
            let same : were.0.message ≡ on.message = cc in
            record { message = on.message; at = at ∙ ap (λ (m : Message). Some m) same; stream = on.stream; ordered = on.ordered })
        | inr t ↦ queued_so places contents were.1 place t on
      ]

  -- of the stream, ordered or not
  message_so : (places : List ℕ) (contents : List MessageContent) → WereQueued queued places contents → (place : ℕ) → HasEntry place places → IsMessageOn (more ++ queued) id place → IsMessageOn queued id place
  message_so [] contents were place has on = absurd has
  message_so (p ∷ places) [] were place has on = absurd were
  message_so (p ∷ places) (c ∷ contents) were place has on =
      elim has [
        | inl e ↦
            (let at : at_place place queued ≡ Some were.0.message = ap (λ (k : ℕ). at_place k queued) e ∙ were.0.at in
            let both : Some on.message ≡ Some were.0.message = sym on.at ∙ at_more more queued place were.0.message at in
            let same : were.0.message ≡ on.message = cc in
            record { message = on.message; at = at ∙ ap (λ (m : Message). Some m) same; stream = on.stream })
        | inr t ↦ message_so places contents were.1 place t on
      ]

  pub in_order_more : (places : List ℕ) (contents : List MessageContent) → WereQueued queued places contents → ComeInOrder queued id places → ComeInOrder (more ++ queued) id places
  in_order_more [] contents were are = tt
  in_order_more (p ∷ places) [] were are = absurd were
  in_order_more (p ∷ places) (c ∷ contents) were are = (
    λ later' has on on'. are.0 later' has (queued_so (p ∷ places) (c ∷ contents) were p (inl refl) on) (queued_so places contents were.1 later' has on'),
    in_order_more places contents were.1 are.1,
  )

  pub sent_more : (place mid : ℕ) → IsSentAs history id place mid → IsSentAs later id place mid
  sent_more place mid sent = record { offset = sent.offset; piece = sent.piece; at = within.stays sent.offset (Some sent.piece) sent.at; is = sent.is; stream = sent.stream; ordered = sent.ordered; under = sent.under }

  pub read_more : (places : List ℕ) (wholes : List WholeModel) → AreReadAs history id places wholes → AreReadAs later id places wholes
  read_more [] [] are = tt
  read_more [] (w ∷ wholes) are = absurd are
  read_more (p ∷ places) [] are = absurd are
  read_more (p ∷ places) (w ∷ wholes) are = (record { mid = are.0.mid; sent = sent_more p are.0.mid are.0.sent; counted = (let counted = are.0.counted in omega (arith, counted, same_floor)) }, read_more places wholes are.1)

  sent_unlimited_before : (from : ℕ) → AreSentUnlimited later id from → AreSentUnlimited history id from
  sent_unlimited_before from are n f at = are n f (within.stays n (Some f) at)

  pub whole_more : (knows : Bool) (asks : ℕ → Bool) (places : List ℕ) (contents : List MessageContent) → WereQueued queued places contents → (place : ℕ) → HasEntry place places → IsOrderedOn (more ++ queued) id place
      → LeavesNoGapTo knows asks queued history id places place → LeavesNoGapTo knows asks (more ++ queued) later id places place
  whole_more knows asks places contents were place has on whole earlier on' free less one unlimited =
      let was = queued_so places contents were place has on in
      whole earlier (ordered_before queued more id earlier place less (record { message = was.message; at = was.at; stream = was.stream }) on') free less one (λ unknown. sent_unlimited_before earlier (unlimited unknown))

  read_so : (place number : ℕ) → IsReadAs history id place number → IsReadAs later id place number
  read_so place number is = record { mid = is.mid; sent = sent_more place is.mid is.sent; counted = (let counted = is.counted in omega (arith, counted, same_floor)) }

  pub by_epoch_more : (knows : Bool) (asks : ℕ → Bool) (next : ℕ) (places : List ℕ) (contents : List MessageContent) → WereQueued queued places contents → AreReadByEpoch knows asks queued history id places next → AreReadByEpoch knows asks (more ++ queued) later id places next
  by_epoch_more knows asks next places contents were o =
      record {
        filled = λ number low less. elim (o.filled number low less) [
          | inl found ↦ inl (record { place = found.place; has = found.has; is = read_so found.place number found.is })
          | inr l ↦ inr (record { offset = l.offset; piece = l.piece; at = within.stays l.offset (Some l.piece) l.at; stream = l.stream; ordered = l.ordered; limited = l.limited; from = (let from = l.from in omega (arith, from, same_floor)); only = λ known. (let only = l.only known in omega (arith, only, same_floor)) })
        ];
        since = λ place has on. elim (o.since place has (queued_so places contents were place has on)) [
          | inl r ↦ inl (record { mid = r.mid; sent = sent_more place r.mid r.sent; from = (let from = r.from in omega (arith, from, same_floor)); below = (let below = r.below in omega (arith, below, same_floor)) })
          | inr whole ↦ inr (whole_more knows asks places contents were place has on whole)
        ];
      }

pub growing_in_order : (watch : Watch) (queued more : List Message) (history later : History) (quiet : Bool) (id : ℕ) (all waits : List ℕ) (contents : List MessageContent) (stream : StreamModel)
    → IsWithin history later → (quiet ≡ false → ComeSince history id watch.cuts → ComeSince later id watch.cuts) → (quiet ≡ true → SendsNoMore history later id) → WereQueued queued all contents → CountsFromZero later id → (CountsFromZero history id → IsOrderedOrReset watch quiet (sent_messages queued history) id all waits stream)
    → IsOrderedOrReset watch quiet (sent_messages (more ++ queued) later) id all waits stream
growing_in_order watch queued more history later false id all waits contents stream within fresh silent were counts ordered =
    let o = ordered (counts_before queued more history later id within counts) in
    record {
      order = record {
        in_order = in_order_more queued more history later id within all contents were o.order.in_order;
        below = λ place has on. (
            let is = o.order.below place has (queued_so queued more history later id within all contents were place has on) in
            record { mid = is.mid; sent = sent_more queued more history later id within place is.mid is.sent; below = (let below = is.below in let same = same_floor queued more history later id within in omega (arith, below, same)) }
            );
        waiting = read_more queued more history later id within waits stream.waiting o.order.waiting;
        ahead = o.order.ahead;
      };
      reach = o.reach;
      by_epoch = by_epoch_more queued more history later id within watch.knows_all watch.asks stream.next all contents were o.by_epoch;
      separated = separated_queued watch.knows_all watch.asks queued more id watch.cuts all (message_so queued more history later id within all contents were) o.separated;
      since = fresh refl o.since;
    }
growing_in_order watch queued more history later true id all waits contents stream within fresh silent were counts ordered =
    let both = ordered (counts_before queued more history later id within counts) in
    let o = both.0 in (
      record {
        in_order = in_order_more queued more history later id within all contents were o.in_order;
        sent = λ place has on. (let (mid, sent) = o.sent place has (queued_so queued more history later id within all contents were place has on) in (mid, sent_more queued more history later id within place mid sent));
      },
      separated_queued watch.knows_all watch.asks queued more id watch.cuts all (message_so queued more history later id within all contents were) both.1,
      λ after has on. whole_more queued more history later id within watch.knows_all watch.asks all contents were after has on (both.2 after has (queued_so queued more history later id within all contents were after has on)),
      λ knows n f is free. both.3 knows n f
          (record {
            at = silent refl n f is.at is.stream;
            stream = is.stream;
            ordered = is.ordered;
            current = subst (λ (k : ℕ → Bool → ℕ). k f.message.stream f.message.is_unordered ≤ f.mid) within.floors is.current;
          }) free,
    )
