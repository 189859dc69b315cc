-- Our own streams that are prepared to be reset, one after another, and then a flush.
use Rattle.std.proofs.Common.{◌≡◌, ℕ, Option, None, Some, Result, Ok, Err, List, [], ◌∷◌, ◌++◌, length, map, take, refl, sym, ap, subst, ◌∙◌}
use Rattle.std.proofs.lemmas.List.{append-nil}
use Rattle.std.proofs.Math.Seq.{take-append_seam}
use Rattle.rand_core.specs.Stream.{Stream}
use Rattle.dcsctp_core.specs.spec.endpoint.Event.{Event}
use Rattle.dcsctp_core.specs.spec.Packet.{emission_bytes}
use Rattle.dcsctp_core.specs.types.Settings.{ports_of}
use Rattle.dcsctp_core.specs.api.Calls.{user_event}
use Rattle.dcsctp_core.specs.spec.queues.OwnResets.{prepare_events}
use Rattle.dcsctp_core.specs.spec.queues.SendQueue.{SendQueueState}
use Rattle.dcsctp_core.proofs.spec_lemmas.SendEventLemmas.{prepare_mapped}
use Rattle.dcsctp_core.specs.spec.endpoint.Endpoint.{Endpoint, held_by_core}
use Rattle.dcsctp_core.specs.spec.endpoint.Outcome.{Outcome, still, then_outcome}
use Rattle.dcsctp_core.specs.spec.endpoint.DataOutcomes.{flush_to_peer, FlushTurn}
use Rattle.dcsctp_core.specs.spec.endpoint.PreparedResets.{ResetRefusal, reset_refusal, endpoint_with_queue, PreparesUnlessRefused, OwnResetsTurn}
use Rattle.dcsctp_core.specs.send_queue.Telling.{contents, AddsFront}
use Rattle.dcsctp_core.specs.send_queue.Preparing.{PreparesStream, TriesStream}
use Rattle.dcsctp_core.specs.declared.context.Context.{Context}
use Rattle.dcsctp_core.specs.View.{View, view_of}
use Rattle.dcsctp_core.specs.Handling.{TakesPossibleTurn, CutsSomeTurn, TakesOne, SendsQueued}
use Rattle.dcsctp_core.proofs.Composing.{cut_longer}
use Rattle.dcsctp_core.proofs.FlushLemmas.{moves_next}
use Rattle.dcsctp_core.proofs.Moving.{moves_still}
use Rattle.dcsctp_core_messages.specs.Resetting.{prepared_turn, prepared_turns, PreparesOneStream, PreparesSomeStreams, AsksForResets}
use Rattle.dcsctp_core_messages.proofs.QueueingLemmas.{cut_next}
use Rattle.dcsctp_core_messages.proofs.SendingLemmas.{any_to}

-- ---- one stream

module _ {R : Type 0} (stream : R → Stream) (id : ℕ) (a : View R) where
  -- the user's events of it
  user_told : prepare_events id a.endpoint.queues.queue ≡ map (user_event (ports_of a.endpoint.options)) (prepare_events id a.endpoint.queues.queue)
  user_told = sym (prepare_mapped (emission_bytes (ports_of a.endpoint.options)) id a.endpoint.queues.queue)

  one_prepared : (left : SendQueueState) (events : List (Event (List ℕ))) → PreparesStream id a.endpoint.queues.queue a.events left events
      → TakesPossibleTurn stream (PreparesOneStream id) a (record a { endpoint = endpoint_with_queue a.endpoint left; events = events })
  one_prepared left events p =
      record {
        outcome = prepared_turn id a.endpoint;
        turn = refl;
        moves = record {
          endpoint = ap (endpoint_with_queue a.endpoint) p.left;
          events = p.tells ∙ ap (λ (es : List (Event (List ℕ))). a.events ++ es) user_told;
          words = sym (append-nil a.words);
          pairs = sym (append-nil a.pairs);
          drawn = refl;
        };
      }

  one_stopped : (events : List (Event (List ℕ))) → AddsFront a.events (prepare_events id a.endpoint.queues.queue) events → CutsSomeTurn (PreparesOneStream id) a events
  one_stopped events tells =
      let front : List (Event (List ℕ)) = tells.front in
      record {
        outcome = prepared_turn id a.endpoint;
        turn = refl;
        cut = record {
          count = length front;
          added = tells.told
              ∙ ap (λ (es : List (Event (List ℕ))). a.events ++ es)
              (sym (take-append_seam front tells.rest) ∙ ap (take (length front)) (sym tells.parts ∙ user_told));
        };
      }

pub tries_one : {R E : Type 0} (stream : R → Stream) (id : ℕ) (old : Context R) (result : Result (Unit {0}) E) (new : Context R)
    → view_of new ≡ record (view_of old) { endpoint = endpoint_with_queue (view_of old).endpoint new.send_queue; events = contents new.events }
    → TriesStream id old.send_queue (contents old.events) result new.send_queue (contents new.events) → TakesOne stream (PreparesOneStream id) old result new
tries_one {R = R} stream id old (Ok done) new is tries =
    subst (λ (v : View R). TakesPossibleTurn stream (PreparesOneStream id) (view_of old) v) (sym is) (one_prepared stream id (view_of old) new.send_queue (contents new.events) tries)
tries_one stream id old (Err error) new is tries = one_stopped stream id (view_of old) (contents new.events) tries

-- ---- several

some_more : (id : ℕ) (ids : List ℕ) (e : Endpoint) (o p : Outcome) → o ≡ prepared_turn id e → p ≡ prepared_turns ids o.after → then_outcome o p ≡ prepared_turns (id ∷ ids) e
some_more id ids e o p h k =
    ap (λ (x : Outcome). then_outcome x p) h ∙ ap (then_outcome (prepared_turn id e)) (k ∙ ap (λ (x : Outcome). prepared_turns ids x.after) h)

one_options : (id : ℕ) (e : Endpoint) (o : Outcome) → o ≡ prepared_turn id e → o.after.options ≡ e.options
one_options id e o h = ap (λ (x : Outcome). x.after.options) h

some_options : (ids : List ℕ) (e : Endpoint) (o : Outcome) → o ≡ prepared_turns ids e → o.after.options ≡ e.options
some_options ids e o h = ap (λ (x : Outcome). x.after.options) h

none_prepared : {R : Type 0} (stream : R → Stream) (a : View R) → TakesPossibleTurn stream (PreparesSomeStreams []) a a
none_prepared stream a =
    record { outcome = still a.endpoint; turn = refl; moves = moves_still stream a }

module _ {R : Type 0} (stream : R → Stream) (id : ℕ) (ids : List ℕ) (a b : View R) where
  then_prepared : (c : View R) → TakesPossibleTurn stream (PreparesOneStream id) a b → TakesPossibleTurn stream (PreparesSomeStreams ids) b c → TakesPossibleTurn stream (PreparesSomeStreams (id ∷ ids)) a c
  then_prepared c h k =
      record {
        outcome = then_outcome h.outcome k.outcome;
        turn = some_more id ids a.endpoint h.outcome k.outcome h.turn (k.turn ∙ ap (prepared_turns ids) h.moves.endpoint);
        moves = moves_next stream a b c h.outcome k.outcome (one_options id a.endpoint h.outcome h.turn) h.moves k.moves;
      }

  then_stopped : (events : List (Event (List ℕ))) → TakesPossibleTurn stream (PreparesOneStream id) a b → CutsSomeTurn (PreparesSomeStreams ids) b events → CutsSomeTurn (PreparesSomeStreams (id ∷ ids)) a events
  then_stopped events h k =
      record {
        outcome = then_outcome h.outcome k.outcome;
        turn = some_more id ids a.endpoint h.outcome k.outcome h.turn (k.turn ∙ ap (prepared_turns ids) h.moves.endpoint);
        cut = cut_next stream a b h.outcome k.outcome events (one_options id a.endpoint h.outcome h.turn) h.moves k.cut;
      }

  first_stopped : (events : List (Event (List ℕ))) → CutsSomeTurn (PreparesOneStream id) a events → CutsSomeTurn (PreparesSomeStreams (id ∷ ids)) a events
  first_stopped events h =
      let rest : Outcome = prepared_turns ids h.outcome.after in
      record {
        outcome = then_outcome h.outcome rest;
        turn = some_more id ids a.endpoint h.outcome rest h.turn refl;
        cut = cut_longer a h.outcome (then_outcome h.outcome rest) rest.events events refl h.cut;
      }

-- ---- what is left of some streams

-- What is left of these streams completes the whole, whatever becomes of it.
pub record GoesOn {R : Type 0} (stream : R → Stream) (all : List ℕ) (start : View R) (left : List ℕ) (here : View R) : Type 0 where
  pub takes : (new : View R) → TakesPossibleTurn stream (PreparesSomeStreams left) here new → TakesPossibleTurn stream (PreparesSomeStreams all) start new
  pub cuts : (events : List (Event (List ℕ))) → CutsSomeTurn (PreparesSomeStreams left) here events → CutsSomeTurn (PreparesSomeStreams all) start events

pub goes_from_start : {R : Type 0} (stream : R → Stream) (all : List ℕ) (start : View R) → GoesOn stream all start all start
goes_from_start stream all start = record { takes = λ new h. h; cuts = λ events h. h }

pub goes_next : {R : Type 0} (stream : R → Stream) (all : List ℕ) (start : View R) (id : ℕ) (left : List ℕ) (here next : View R)
    → GoesOn stream all start (id ∷ left) here → TakesPossibleTurn stream (PreparesOneStream id) here next → GoesOn stream all start left next
goes_next stream all start id left here next g h =
    record {
      takes = λ new k. g.takes new (then_prepared stream id left here next new h k);
      cuts = λ events k. g.cuts events (then_stopped stream id left here next events h k);
    }

pub goes_cut : {R : Type 0} (stream : R → Stream) (all : List ℕ) (start : View R) (id : ℕ) (left : List ℕ) (here : View R) (events : List (Event (List ℕ)))
    → GoesOn stream all start (id ∷ left) here → CutsSomeTurn (PreparesOneStream id) here events → CutsSomeTurn (PreparesSomeStreams all) start events
goes_cut stream all start id left here events g h = g.cuts events (first_stopped stream id left here here events h)

pub goes_done : {R : Type 0} (stream : R → Stream) (all : List ℕ) (start : View R) (left : List ℕ) (here : View R) → left ≡ [] → GoesOn stream all start left here → TakesPossibleTurn stream (PreparesSomeStreams all) start here
goes_done stream all start left here is g =
    g.takes here (subst (λ (ids : List ℕ). TakesPossibleTurn stream (PreparesSomeStreams ids) here here) (sym is) (none_prepared stream here))

-- ---- the turn

resets_where : (ids : List ℕ) (e : Endpoint) (refusal : Option ResetRefusal) (o : Outcome) → refusal ≡ reset_refusal e → PreparesUnlessRefused refusal e ids o → OwnResetsTurn e ids o
resets_where ids e refusal o is h = subst (λ (r : Option ResetRefusal). PreparesUnlessRefused r e ids o) is h

flushes_behind : (ids : List ℕ) (e : Endpoint) (o p : Outcome) → None ≡ reset_refusal e → o ≡ prepared_turns ids e → FlushTurn o.after p → OwnResetsTurn e ids (then_outcome o p)
flushes_behind ids e o p is h k =
    resets_where ids e None (then_outcome o p) is
    (record {
      flushed = p;
      flushes = subst (λ (x : Endpoint). FlushTurn x p) (ap (λ (x : Outcome). x.after) h) k;
      is = ap (λ (x : Outcome). then_outcome x p) h;
    })

any_flush : (e : Endpoint) → (o : Outcome) × FlushTurn e o
any_flush e =
    let any = any_to e (held_by_core e.core) in
    (flush_to_peer e (held_by_core e.core) any.0, (any.0, any.1, refl))

module _ {R : Type 0} (stream : R → Stream) (ids : List ℕ) (a : View R) where
  pub resets_refused : (refusal : ResetRefusal) → Some refusal ≡ reset_refusal a.endpoint → TakesPossibleTurn stream (AsksForResets ids) a a
  resets_refused refusal is =
      record { outcome = still a.endpoint; turn = resets_where ids a.endpoint (Some refusal) (still a.endpoint) is refl; moves = moves_still stream a }

  pub resets_done : (b c : View R) → None ≡ reset_refusal a.endpoint → TakesPossibleTurn stream (PreparesSomeStreams ids) a b → TakesPossibleTurn stream SendsQueued b c → TakesPossibleTurn stream (AsksForResets ids) a c
  resets_done b c is h k =
      record {
        outcome = then_outcome h.outcome k.outcome;
        turn = flushes_behind ids a.endpoint h.outcome k.outcome is h.turn (subst (λ (e : Endpoint). FlushTurn e k.outcome) h.moves.endpoint k.turn);
        moves = moves_next stream a b c h.outcome k.outcome (some_options ids a.endpoint h.outcome h.turn) h.moves k.moves;
      }

  -- an allocation failed while they were prepared
  pub resets_cut : (events : List (Event (List ℕ))) → None ≡ reset_refusal a.endpoint → CutsSomeTurn (PreparesSomeStreams ids) a events → CutsSomeTurn (AsksForResets ids) a events
  resets_cut events is h =
      let any = any_flush h.outcome.after in
      record {
        outcome = then_outcome h.outcome any.0;
        turn = flushes_behind ids a.endpoint h.outcome any.0 is h.turn any.1;
        cut = cut_longer a h.outcome (then_outcome h.outcome any.0) any.0.events events refl h.cut;
      }

  -- or in the flush
  pub resets_cut_later : (b : View R) (events : List (Event (List ℕ))) → None ≡ reset_refusal a.endpoint → TakesPossibleTurn stream (PreparesSomeStreams ids) a b → CutsSomeTurn SendsQueued b events → CutsSomeTurn (AsksForResets ids) a events
  resets_cut_later b events is h k =
      record {
        outcome = then_outcome h.outcome k.outcome;
        turn = flushes_behind ids a.endpoint h.outcome k.outcome is h.turn (subst (λ (e : Endpoint). FlushTurn e k.outcome) h.moves.endpoint k.turn);
        cut = cut_next stream a b h.outcome k.outcome events (some_options ids a.endpoint h.outcome h.turn) h.moves k.cut;
      }
