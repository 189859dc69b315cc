-- What the user takes of what was received, and more that the peer queues and sends.
use Rattle.std.proofs.Common.{◌≡◌, ℕ, Bool, List, [], ◌∷◌, ◌++◌, length, refl, arith, inl, false, Some, sym, ◌∙◌, true}
use Rattle.dcsctp_spec_lemmas.specs.types.queues.Messages.{MessageContent}
use Rattle.dcsctp_spec_lemmas.specs.spec.queues.Incoming.{IncomingModel, stream_on}
use Rattle.dcsctp_spec_lemmas.specs.spec.queues.Reassembly.{ReassemblyState, waiting_of, with_ready}
use Rattle.dcsctp_spec_lemmas.specs.spec.queues.Tracker.{TrackerState}
use Rattle.dcsctp_delivery_directions.specs.sending.Places.{HasEntry}
use Rattle.dcsctp_delivery_directions.specs.sending.Log.{Message, History, sent_messages}
use Rattle.dcsctp_delivery_directions.specs.receiving.Ready.{WasQueued, WereQueued}
use Rattle.dcsctp_delivery_directions.proofs.receiving.Continuing.{GoesOn, defers_more}
use Rattle.dcsctp_delivery_directions.proofs.receiving.Distinct.{has_left, has_right}
use Rattle.dcsctp_delivery_directions.proofs.receiving.Growing.{holds_more}
use Rattle.dcsctp_delivery_directions.proofs.receiving.Tracked.{more_given_out}
use Rattle.dcsctp_delivery_directions.proofs.receiving.Waiting.{both_queued}
use Rattle.dcsctp_delivery_directions.specs.order.Incoming.{IncomingOrdered, IsWithin, SendsNoMore}
use Rattle.dcsctp_delivery_directions.specs.order.Received.{ReassemblesInOrder, none_handled, some_handled, HasReceivedInOrder}
use Rattle.dcsctp_delivery_directions.proofs.order.Incoming.{growing_in_order, taking_in_order, counts_before}
use Rattle.dcsctp_delivery_directions.specs.order.Reading.{Watch, ComeSince}
use Rattle.dcsctp_delivery_directions.proofs.order.HeldParts.{parts_grown}
use Rattle.dcsctp_delivery_directions.proofs.order.KnowsSkips.{knows_later}
use Rattle.dcsctp_delivery_directions.proofs.sending.Places.{at_some}
use Rattle.dcsctp_delivery_directions.specs.receiving.Tracked.{tracked_number}

-- ---- what the user takes

-- The message was queued, and wasn't read before.
pub record TakesInOrder (watch : ℕ → Watch) (queued : List Message) (history : History) (quiet : ℕ → Bool) (first : ℕ) (read : List ℕ) (tracker : TrackerState) (reassembly : ReassemblyState) (message : MessageContent) (messages : List MessageContent) : Type 0 where
  pub place : ℕ
  pub was : WasQueued queued place message
  pub fresh : HasEntry place read → ⊥
  pub received : HasReceivedInOrder watch (sent_messages queued history) quiet first (read ++ place ∷ []) tracker (with_ready messages reassembly)

pub takes_in_order : (watch : ℕ → Watch) (queued : List Message) (history : History) (quiet : ℕ → Bool) (first : ℕ) (read : List ℕ) (tracker : TrackerState) (reassembly : ReassemblyState) (message : MessageContent) (messages : List MessageContent)
    → reassembly.incoming.ready ≡ message ∷ messages → HasReceivedInOrder watch (sent_messages queued history) quiet first read tracker reassembly → TakesInOrder watch queued history quiet first read tracker reassembly message messages
takes_in_order watch queued history quiet first read tracker reassembly message messages is r = go r.holds
  where
    go : ReassemblesInOrder watch (sent_messages queued history) quiet first r.got read reassembly.incoming → TakesInOrder watch queued history quiet first read tracker reassembly message messages
    go (some_handled base at holds) =
        let t = taking_in_order watch queued history quiet r.got base read reassembly.incoming message messages is holds in
        record {
          place = t.place;
          was = t.was;
          fresh = t.fresh;
          received = record {
            taken = r.taken;
            got = r.got;
            later = r.later;
            tracks = r.tracks;
            got_taken = r.got_taken;
            later_taken = r.later_taken;
            either = r.either;
            exact = r.exact;
            apart = r.apart;
            distinct = r.distinct;
            holds = some_handled base at t.ordered;
            defers = r.defers;
            skips = record { kept = r.skips.kept; each = r.skips.each };
          };
        }
    go (none_handled none last empty) =
        let t = taking_in_order watch queued history quiet [] 0 read reassembly.incoming message messages is (empty 0) in
        let spent = t.ordered.holds.spent t.place (has_left t.place (read ++ t.place ∷ []) t.ordered.holds.places (has_right t.place read (t.place ∷ []) (inl refl))) in
        absurd (spent.covered spent.offset spent.head spent.at_head spent.is (omega arith) spent.order)

-- ---- the peer goes on

module _ (queued more : List Message) (history later : History) (goes : GoesOn history later) (within : IsWithin history later) (quiet : ℕ → Bool) (read : List ℕ) (contents : List MessageContent) (were : WereQueued queued read contents) where
  ordered_more : (watch : ℕ → Watch) → ((id : ℕ) → quiet id ≡ false → ComeSince history id (watch id).cuts → ComeSince later id (watch id).cuts) → ((id : ℕ) → quiet id ≡ true → SendsNoMore history later id) → (got : List ℕ) (base : ℕ) (incoming : IncomingModel) → IncomingOrdered watch (sent_messages queued history) quiet got base read incoming → IncomingOrdered watch (sent_messages (more ++ queued) later) quiet got base read incoming
  unfolding holds_more
  ordered_more watch fresh silent got base incoming o =
      record {
        holds = holds_more queued more history later goes got base read incoming o.holds;
        order = λ id counts. growing_in_order (watch id) queued more history later (quiet id) id (read ++ o.holds.places) (o.holds.waits id) (contents ++ incoming.ready) (stream_on id incoming.streams) within (fresh id) (silent id)
            (both_queued queued read o.holds.places contents incoming.ready were o.holds.were_queued) counts (o.order id);
        within = λ n has. (let below = o.within n has in let longer = goes.longer in omega (arith, below, longer));
        parts = λ id counts loud. parts_grown history later got id (stream_on id incoming.streams) within.stays within.floors o.within (o.parts id (counts_before queued more history later id within counts) loud);
      }

  pub reassembles_more : (watch : ℕ → Watch) → ((id : ℕ) → quiet id ≡ false → ComeSince history id (watch id).cuts → ComeSince later id (watch id).cuts) → ((id : ℕ) → quiet id ≡ true → SendsNoMore history later id) → (first : ℕ) (got : List ℕ) (incoming : IncomingModel) → ReassemblesInOrder watch (sent_messages queued history) quiet first got read incoming → ReassemblesInOrder watch (sent_messages (more ++ queued) later) quiet first got read incoming
  reassembles_more watch fresh silent first got incoming (none_handled none last empty) = none_handled none last (λ base. ordered_more watch fresh silent [] base incoming (empty base))
  reassembles_more watch fresh silent first got incoming (some_handled base is holds) = some_handled base is (ordered_more watch fresh silent got base incoming holds)

  pub received_later : (watch : ℕ → Watch) → ((id : ℕ) → quiet id ≡ false → ComeSince history id (watch id).cuts → ComeSince later id (watch id).cuts) → ((id : ℕ) → quiet id ≡ true → SendsNoMore history later id) → (first : ℕ) (tracker : TrackerState) (reassembly : ReassemblyState) → HasReceivedInOrder watch (sent_messages queued history) quiet first read tracker reassembly → HasReceivedInOrder watch (sent_messages (more ++ queued) later) quiet first read tracker reassembly
  received_later watch fresh silent first tracker reassembly r =
      record {
        taken = r.taken;
        got = r.got;
        later = r.later;
        tracks = more_given_out first (length history.log) (length later.log) r.taken tracker goes.longer r.tracks;
        got_taken = r.got_taken;
        later_taken = r.later_taken;
        either = r.either;
        exact = λ small k is known. (
            let sent = r.tracks.sent (tracked_number first k) known in
            let (slot, at) = at_some k history.log (omega (arith, sent)) in
            let same : Some slot ≡ Some (Some is.piece) = sym (within.stays k slot at) ∙ is.at in
            r.exact small k (record { piece = is.piece; at = at ∙ same; free = is.free; known = is.known }) known
            );
        apart = r.apart;
        distinct = r.distinct;
        holds = reassembles_more watch fresh silent first r.got reassembly.incoming r.holds;
        defers = defers_more history later goes first r.later (waiting_of reassembly.deferral) r.defers;
        skips = knows_later watch queued more history later goes within quiet first r.taken r.taken tracker reassembly r.tracks r.skips;
      }
