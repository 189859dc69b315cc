-- How directions begin: with what waits in the queue, and with no request to reset streams.
use Rattle.dcsctp_delivery_directions.specs.directions.Directions as directions
use Rattle.std.proofs.Common.{◌≡◌, ◌<◌, ◌≤◌, ◌^◌, ℕ, zero, suc, Option, None, Some, List, [], ◌∷◌, Bool, true, false, ◌%◌, length, refl, sym, ◌∙◌, ap, subst, inl, inr, arith}
use Rattle.std.specs.Prelude.{◌==◌, is_some, if◌then◌else◌, map}
use Rattle.std.specs.List.{AllByRecursion}
use Rattle.dcsctp_spec_lemmas.specs.types.declared.options.Options.{Options}
use Rattle.dcsctp_spec_lemmas.specs.spec.endpoint.Endpoint.{Endpoint, Core, closed, cookie_wait, cookie_echoed, open_in, OutstandingRequest}
use Rattle.dcsctp_spec_lemmas.specs.spec.endpoint.Outcome.{Outcome}
use Rattle.dcsctp_spec_lemmas.specs.spec.association.Effect.{identity_of_core}
use Rattle.dcsctp_spec_lemmas.specs.spec.Packet.{Content}
use Rattle.dcsctp_spec_lemmas.specs.spec.endpoint.Turn.{Input, arrival, refusal, packet_begins, chunk_input, packet_ends, act_input, user_sets, user_sends, user_resets, user_takes, timer_expires, time_passes, restores}
use Rattle.dcsctp_spec_lemmas.specs.spec.queues.OwnResets.{is_open_pause}
use Rattle.dcsctp_spec_lemmas.specs.spec.queues.SendQueue.{SendQueueState, queue_restarted, put_back, numbered_for, empty_queue}
use Rattle.dcsctp_spec_lemmas.specs.spec.queues.Transfer.{EndpointQueues}
use Rattle.dcsctp_spec_lemmas.specs.spec.endpoint.MessageOutcomes.{MessageRefusal, Sending, sending_refusal, queue_one}
use Rattle.dcsctp_delivery_directions.specs.sending.Log.{Fits, Message, new_history}
use Rattle.dcsctp_delivery_sockets.specs.turns.Actions.{Inside, OwnEnds, PeerResets, queued_unless_refused, queued_together, queued_after, BeginsAssociation}
use Rattle.dcsctp_spec_lemmas.specs.types.queues.SendStreams.{Stream, next_numbers, renumbered_stream, stream_at}
use Rattle.dcsctp_delivery_directions.specs.directions.Directions.{Beginning, BeginsAs, BeginsAtZero}
use Rattle.dcsctp_delivery_directions.specs.sending.Numbers.{stream_named}
use Rattle.dcsctp_delivery_directions.specs.sending.Pieces.{AllQueued, Ascend, Going}
use Rattle.dcsctp_delivery_directions.specs.sending.Queueing.{QueueWaits}
use Rattle.dcsctp_delivery_directions.proofs.sending.KeptQueues.{restarted_hold}
use Rattle.dcsctp_delivery_directions.proofs.sending.Renumbered.{numbered_hold, numbered_kind}
use Rattle.dcsctp_delivery_sockets.specs.turns.Runs.{TakesTurnsByOption, new_direction}
use Rattle.dcsctp_delivery_directions.specs.directions.Directions.{Asking, nothing_asked, DirectionRun}
use Rattle.dcsctp_spec_lemmas.specs.spec.Reconfiguration.{RequestedReset}
use Rattle.dcsctp_delivery_sockets.specs.turns.Asking.{Own, own_of_core, AsksFit, SomeFit}
use Rattle.dcsctp_delivery_sockets.proofs.turns.Fronts.{own_ends_fit, own_resets}
use Rattle.dcsctp_delivery_sockets.proofs.turns.Rests.{restarted_idle, named_idle, numbered_idle}

-- ---- more is queued

where_more : (why : Option MessageRefusal) (sending : Sending) (queued : List Message) → length queued ≤ length (queued_unless_refused why sending queued)
where_more None sending queued = omega arith
where_more (Some why) sending queued = omega arith

together_more : (e : Endpoint) (sendings : List Sending) (queued : List Message) → length queued ≤ length (queued_together e sendings queued)
together_more e [] queued = omega arith
together_more e (sending ∷ sendings) queued =
    let first = where_more (sending_refusal e sending) sending queued in
    let rest = together_more (queue_one e sending).after sendings (queued_unless_refused (sending_refusal e sending) sending queued) in
    omega (arith, first, rest)

pub input_more : (e : Endpoint) (input : Input) (queued : List Message) → length queued ≤ length (queued_after e input queued)
input_more e (user_sends sendings) queued = together_more e sendings queued
input_more e arrival queued = omega arith
input_more e (refusal text) queued = omega arith
input_more e (packet_begins contents) queued = omega arith
input_more e (chunk_input tag content) queued = omega arith
input_more e packet_ends queued = omega arith
input_more e (act_input act) queued = omega arith
input_more e (user_sets setting) queued = omega arith
input_more e (user_resets ids) queued = omega arith
input_more e user_takes queued = omega arith
input_more e (timer_expires timer) queued = omega arith
input_more e (time_passes moment) queued = omega arith
input_more e (restores state) queued = omega arith

-- ---- what is known of our requests

-- Nothing was begun yet where an association begins.
pub nothing_fits : (first : ℕ) (again : RequestedReset) → first < 2 ^ 32 → AsksFit first (Some (record { number = None; next = first; again = again })) nothing_asked
nothing_fits first again small = record { numbers = tt; next = omega arith; out = refl }

-- So it is where there is no association.
pub unlinked_fits : (core : Core) (request : Option OutstandingRequest) → identity_of_core core ≡ None → SomeFit (own_of_core core request)
unlinked_fits closed request none = record { first = 0; asking = nothing_asked; fits = tt }
unlinked_fits (cookie_wait my) request none = record { first = 0; asking = nothing_asked; fits = tt }
unlinked_fits (cookie_echoed my held cookie) request none = absurd (cc)
unlinked_fits (open_in phase my held) request none = absurd (cc)

-- What is kept after the peer's request fits too.
pub worked_fits : (came : Option Content) (o : Outcome) (old between worked : Inside) → OwnEnds o.effects old between → PeerResets came o.effects between worked
    → SomeFit old.own → SomeFit worked.own
worked_fits came o old between worked own peer fits =
    let ended = own_ends_fit o.effects old between fits.first fits.asking own fits.fits in
    record { first = fits.first; asking = ended.0; fits = subst (λ (f : Option Own). AsksFit fits.first f ended.0) (sym (own_resets came o.effects between worked peer)) ended.1 }

-- ---- directions that begin

pub anew_runs : (options : Options) (first size : ℕ) (queued : List Message) (below : EndpointQueues) (beginning : Beginning) → AllByRecursion Fits queued → QueueWaits queued below.queue → directions.NoneInFlight first below.queue below.transfer
    → BeginsAs beginning queued below.queue → DirectionRun options first size (new_direction options first size queued below 0 [] beginning)
anew_runs options first size queued below beginning fit queues none begun =
    directions.begins (new_direction options first size queued below 0 [] beginning)
    (record { fit = fit; queues = queues; flight = none; acknowledged = refl; sent = refl; first_is = refl; tracker = refl; reassembly = refl; read = refl; performed = refl; asking = refl; prepared = refl; begun = begun })

-- Nothing waits in a socket that was just made.
pub fresh_waits : (mine : Options) → QueueWaits [] (empty_queue mine)
fresh_waits mine =
    record {
      floors = λ id is_unordered. 0;
      holds = record {
        queue_holds = record {
          wait = none_waits;
          ascend = none_ascend;
          beyond = λ q n f at of. absurd (cc);
          distinct = λ p q below below' same. absurd (omega arith);
          going = none_going;
          room = record { whole = omega arith; count = omega arith };
          small = none_small;
        };
        next = refl;
        numbers = record {
          kinds = λ n f at. absurd (cc);
          counts = record {
            turns = λ id from. record { next = refl; sent = λ n f at. absurd (cc); going = λ u is. absurd (cc) };
            closes = λ n f g at. absurd (cc);
            rests = λ none f at. absurd (cc);
          };
          kept = λ id is. absurd (cc);
          whole = record { each = λ id w is. absurd (cc); held = λ id is. absurd (cc); newest = λ id is. absurd (cc) };
          rests = λ id none f at. absurd (cc);
        };
      };
    }
  where
    none_going : (q : ℕ) → Going [] [] (stream_at [] q) (stream_at [] q).under_way
    none_going zero = tt
    none_going (suc q) = tt

    none_waits : (q : ℕ) → AllQueued [] (stream_at [] q).id (stream_at [] q).messages
    none_waits zero = tt
    none_waits (suc q) = tt

    none_small : (q : ℕ) → (stream_at [] q).id < 2 ^ 16
    none_small zero = omega arith
    none_small (suc q) = omega arith

    none_ascend : (q : ℕ) → Ascend (stream_at [] q).messages
    none_ascend zero = tt
    none_ascend (suc q) = tt

none_restarted : (queue : SendQueueState) (id : ℕ) → is_some (stream_named id (queue_restarted queue).streams).under_way ≡ true → ⊥
none_restarted queue id some = (let clash : false ≡ true = sym (ap is_some (named_idle id (queue_restarted queue).streams (restarted_idle queue))) ∙ some in absurd (cc))

-- the queue of an association that begins
pub begun_queues : (e : Endpoint) (o : Outcome) (begun : BeginsAssociation e o) (queued : List Message) → TakesTurnsByOption e → QueueWaits queued e.queues.queue → QueueWaits queued begun.queue
begun_queues e o begun queued rules queues =
    elim begun.keeps [
      | inl is ↦
          subst (λ (q : SendQueueState). QueueWaits queued q) (sym is.0) (numbered_hold queued begun.held.capabilities.message_interleaving begun.window e.queues.queue (λ id some. rules ∙ is.1) queues)
      | inr is ↦
          subst (λ (q : SendQueueState). QueueWaits queued q) (sym is)
          (numbered_hold queued begun.held.capabilities.message_interleaving begun.window (queue_restarted e.queues.queue) (λ id some. absurd (none_restarted e.queues.queue id some))
          (restarted_hold queued (new_history queues.floors) e.queues.queue queues.holds))
    ]

-- it numbers messages as what is in flight will be sent
pub begun_kind : (e : Endpoint) (o : Outcome) (begun : BeginsAssociation e o) → begun.queue.is_interleaved ≡ begun.held.capabilities.message_interleaving
begun_kind e o begun =
    elim begun.keeps [
      | inl is ↦ ap (λ (q : SendQueueState). q.is_interleaved) is.0 ∙ numbered_kind begun.held.capabilities.message_interleaving begun.window e.queues.queue
      | inr is ↦ ap (λ (q : SendQueueState). q.is_interleaved) is ∙ numbered_kind begun.held.capabilities.message_interleaving begun.window (queue_restarted e.queues.queue)
    ]

-- ---- with number 0 on each stream

-- A socket that was just made has numbered nothing.
pub fresh_at_zero : (mine : Options) → BeginsAtZero (empty_queue mine)
fresh_at_zero mine = record { rest = λ u waiting is. absurd (cc); zero = λ id. refl; ssn = λ id. refl; unpaused = λ id. refl }

renamed_zero : (id : ℕ) (streams : List Stream) → next_numbers false (stream_named id (map renumbered_stream streams)) ≡ (0, 0)
renamed_zero id [] = refl
renamed_zero id (stream ∷ streams) = go (stream.id == id) (renamed_zero id streams)
  where
    go : (b : Bool) → next_numbers false (stream_named id (map renumbered_stream streams)) ≡ (0, 0) → next_numbers false (if b then renumbered_stream stream else stream_named id (map renumbered_stream streams)) ≡ (0, 0)
    go true rest = refl
    go false rest = rest

renamed_open : (id : ℕ) (streams : List Stream) → is_open_pause (stream_named id (map renumbered_stream streams)).pause ≡ true
renamed_open id [] = refl
renamed_open id (stream ∷ streams) = go (stream.id == id) (renamed_open id streams)
  where
    go : (b : Bool) → is_open_pause (stream_named id (map renumbered_stream streams)).pause ≡ true → is_open_pause (if b then renumbered_stream stream else stream_named id (map renumbered_stream streams)).pause ≡ true
    go true rest = refl
    go false rest = rest

-- A queue whose numbers start again begins so.
restarted_at_zero : (enabled : Bool) (window : ℕ) (queue : SendQueueState) → BeginsAtZero (numbered_for enabled window (queue_restarted queue))
restarted_at_zero enabled window queue =
    subst BeginsAtZero (sym (numbered_idle enabled window (queue_restarted queue) (restarted_idle queue)))
    (record {
      rest = λ id waiting some. absurd (none_restarted queue id some);
      zero = λ id. ap (λ (p : ℕ × ℕ). p.1 % 2 ^ 32) (renamed_zero id (put_back queue).streams);
      ssn = λ id. ap (λ (p : ℕ × ℕ). p.0) (renamed_zero id (put_back queue).streams);
      unpaused = λ id. renamed_open id (put_back queue).streams;
    })

-- With `follow_rfc` each association begins so (RFC 9260, section 6.5).
pub begun_at_zero : (e : Endpoint) (o : Outcome) (begun : BeginsAssociation e o) → e.options.follow_rfc ≡ true → BeginsAtZero begun.queue
begun_at_zero e o begun follows =
    elim begun.keeps [
      | inl is ↦ absurd (let clash : true ≡ false = sym follows ∙ is.1 in cc)
      | inr is ↦ subst BeginsAtZero (sym is) (restarted_at_zero begun.held.capabilities.message_interleaving begun.window e.queues.queue)
    ]
