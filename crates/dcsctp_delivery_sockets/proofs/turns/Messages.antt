-- The turns in which a user resets streams, reads a message or sends some, as actions.
use Rattle.dcsctp_delivery_sockets.specs.turns.Actions as actions
use Rattle.std.proofs.Common.{◌^◌, ◌≡◌, ◌<◌, ◌==◌, ℕ, Bool, true, false, Option, None, Some, List, [], ◌∷◌, ◌++◌, length, refl, sym, ◌∙◌, subst, ap, arith}
use Rattle.std.specs.Prelude.{if◌then◌else◌}
use Rattle.std.specs.List.{AllByRecursion}
use Rattle.dcsctp_spec_lemmas.specs.spec.endpoint.Event.{packets_of_events}
use Rattle.dcsctp_spec_lemmas.specs.spec.Packet.{Content, Emission}
use Rattle.dcsctp_spec_lemmas.specs.spec.endpoint.Endpoint.{Endpoint, Core, held_by_core}
use Rattle.dcsctp_spec_lemmas.specs.spec.endpoint.Outcome.{Outcome}
use Rattle.dcsctp_spec_lemmas.specs.types.queues.Messages.{MessageContent}
use Rattle.dcsctp_spec_lemmas.specs.spec.queues.OwnResets.{prepared_all, prepare_all_events}
use Rattle.dcsctp_spec_lemmas.specs.spec.queues.Tracker.{hastened_tracker}
use Rattle.dcsctp_spec_lemmas.specs.spec.queues.Transfer.{Transfer}
use Rattle.dcsctp_spec_lemmas.specs.spec.endpoint.DataOutcomes.{opens_window, hastened_where_open, with_messages, TakesFirstReady, TakeLeft, TakeTurn}
use Rattle.dcsctp_spec_lemmas.specs.spec.endpoint.FlushOutcomes.{Answer}
use Rattle.dcsctp_spec_lemmas.specs.spec.endpoint.MessageOutcomes.{MessageRefusal, empty_payload, sending_refusal, Sending, lifecycle_name, queue_unless_refused, queue_one, queue_all, takes_any, SendAnswers, flush_if_queued, SendTurn}
use Rattle.dcsctp_spec_lemmas.specs.spec.endpoint.PreparedResets.{PreparesResets, ResetRefusal, reset_refusal, endpoint_with_queue, PreparesUnlessRefused, OwnResetsTurn}
use Rattle.dcsctp_theorem_sockets.proofs.Bursts.{packets_of_events-append}
use Rattle.dcsctp_delivery_directions.specs.sending.Log.{Fits, Message}
use Rattle.dcsctp_delivery_sockets.specs.turns.Actions.{IsCalm, Ledger, Inside, inside, prepared_inside, ledger_of, queues_with_transfer, Actions, nothing, further, LeadsToLedger, MakesPackets, MakesAlso, Becomes, goes_on, pauses, queued_unless_refused, queued_together, with_first, read_if_connected, exchange_of}
use Rattle.dcsctp_spec_lemmas.specs.spec.association.Effect.{identity_of_core}
use Rattle.dcsctp_delivery_sockets.specs.turns.Tags.{IsPeerTag}
use Rattle.dcsctp_delivery_sockets.specs.turns.Asking.{Own, AsksFit}
use Rattle.dcsctp_delivery_directions.specs.directions.Directions.{Asking}
use Rattle.dcsctp_delivery_directions.specs.sending.Queueing.{message_of}
use Rattle.dcsctp_delivery_sockets.proofs.turns.Actions.{MakesTo, joined, made_of, rests, makes_behind}
use Rattle.dcsctp_delivery_sockets.proofs.turns.Fixed.{prepared_none, queue_all_core, queue_all_own, refusal_none}
use Rattle.dcsctp_delivery_sockets.proofs.turns.Data.{to_link, turn_link, flush_makes, to_makes}

module _ (came : Option Content) (calm : IsCalm came) (to : ℕ) where
  -- ---- our streams that the user resets

  -- Those that it resets are prepared first.
  pub resets_prepare : (e : Endpoint) (ids : List ℕ) (o : Outcome) → IsPeerTag e.core to → PreparesResets e ids o
      → (identity_of_core o.after.core ≡ identity_of_core e.core) × MakesAlso came to (λ queued. queued) (λ read. read) (prepared_inside ids (inside e)) (packets_of_events o.events) (inside o.after)
  resets_prepare e ids o at turn =
      let base : Endpoint = endpoint_with_queue e (prepared_all ids e.queues.queue) in
      subst (λ (x : Outcome). (identity_of_core x.after.core ≡ identity_of_core e.core) × MakesAlso came to (λ queued. queued) (λ read. read) (prepared_inside ids (inside e)) (packets_of_events x.events) (inside x.after)) (sym turn.is) (
        turn_link base turn.flushed turn.flushes,
        makes_behind came to (inside base) [] (prepare_all_events ids e.queues.queue) turn.flushed (prepared_none ids e.queues.queue) (flush_makes came calm to base turn.flushed at turn.flushes),
      )

  resets_where_goes : (refusal : Option ResetRefusal) (e : Endpoint) (ids : List ℕ) (o : Outcome) → reset_refusal e ≡ refusal → AllByRecursion (λ id. id < 2 ^ 16) ids → IsPeerTag e.core to → PreparesUnlessRefused refusal e ids o
      → Becomes (Some ids) came to (λ queued. queued) (λ read. read) e o
  resets_where_goes None e ids o is small at turn =
      let made = resets_prepare e ids o at turn in pauses ids refl calm is made.0 small made.1
  resets_where_goes (Some refusal) e ids o is small at turn = subst (Becomes (Some ids) came to (λ queued. queued) (λ read. read) e) (sym turn) (goes_on calm refl (rests came to (inside e)))

  pub own_resets_go : (e : Endpoint) (ids : List ℕ) (o : Outcome) → AllByRecursion (λ id. id < 2 ^ 16) ids → IsPeerTag e.core to → OwnResetsTurn e ids o → Becomes (Some ids) came to (λ queued. queued) (λ read. read) e o
  own_resets_go e ids o small at turn = resets_where_goes (reset_refusal e) e ids o refl small at turn

  -- ---- what the user takes and sends

  -- A message is taken, and an acknowledgement is due then if the window opens.
  taken_told : (b : Bool) (moment : ℕ) (old : Ledger) (transfer : Transfer) (message : MessageContent) (messages : List MessageContent) → old.queues.transfer ≡ Some transfer → transfer.reassembly.incoming.ready ≡ message ∷ messages
      → Actions came to old (record old { queues = queues_with_transfer (hastened_where_open b moment (with_messages messages transfer)) old.queues; read = old.read ++ message ∷ [] })
  taken_told true moment old transfer message messages known ready =
      let left : Transfer = with_messages messages transfer in
      let taken : Ledger = record old { queues = queues_with_transfer left old.queues; read = old.read ++ message ∷ [] } in
      further taken _ (further old taken nothing (actions.takes transfer message messages known ready)) (actions.tracks left (hastened_tracker moment left.tracker) refl refl refl)
  taken_told false moment old transfer message messages known ready = further old _ nothing (actions.takes transfer message messages known ready)

  take_where_goes : (e : Endpoint) (transfer : Transfer) (messages : List MessageContent) (o : Outcome) → e.queues.transfer ≡ Some transfer → transfer.reassembly.incoming.ready ≡ messages
      → TakesFirstReady e transfer messages o → Becomes None came to (λ queued. queued) (with_first messages) e o
  take_where_goes e transfer [] o known ready turn = subst (Becomes None came to (λ queued. queued) (with_first []) e) (sym turn) (goes_on calm refl (rests came to (inside e)))
  take_where_goes e transfer (message ∷ messages) o known ready turn =
      subst (Becomes None came to (λ queued. queued) (with_first (message ∷ messages)) e) (sym turn)
      (goes_on calm refl (λ queued sent read tsn asking fit.
      made_of came to (inside e) _ queued queued sent read (read ++ message ∷ []) tsn asking fit
      (taken_told (opens_window e.options transfer (with_messages messages transfer)) e.moment (ledger_of queued e.queues sent read asking) transfer message messages known ready)))

  -- What was left is none of an association's.
  take_left_goes : (e : Endpoint) (left : List MessageContent) (o : Outcome) → TakeLeft e left o → Becomes None came to (λ queued. queued) (read_if_connected None) e o
  take_left_goes e [] o turn = subst (Becomes None came to (λ queued. queued) (read_if_connected None) e) (sym turn) (goes_on calm refl (rests came to (inside e)))
  take_left_goes e (message ∷ messages) o turn = subst (Becomes None came to (λ queued. queued) (read_if_connected None) e) (sym turn) (goes_on calm refl (rests came to (inside e)))

  pub take_goes : (e : Endpoint) (transfer : Option Transfer) (o : Outcome) → e.queues.transfer ≡ transfer → TakeTurn e transfer o → Becomes None came to (λ queued. queued) (read_if_connected transfer) e o
  take_goes e None o known turn = take_left_goes e e.left o turn
  take_goes e (Some transfer) o known turn = take_where_goes e transfer transfer.reassembly.incoming.ready o known refl turn

  not_empty : (payload : List ℕ) (rest : Option MessageRefusal) → (if length payload == 0 then Some empty_payload else rest) ≡ None → 0 < length payload
  not_empty [] rest is = absurd (cc)
  not_empty (byte ∷ bytes) rest is = omega arith

  queue_one_makes : (e : Endpoint) (sending : Sending) (refusal : Option MessageRefusal) → sending_refusal e sending ≡ refusal → Fits (message_of sending)
      → (queued : List Message) (sent : List Emission) (read : List MessageContent) (asking : Asking)
      → Actions came to (ledger_of queued e.queues sent read asking) (ledger_of (queued_unless_refused refusal sending queued) (queue_unless_refused e sending refusal).after.queues sent read asking)
  queue_one_makes e sending None is fit queued sent read asking =
      further (ledger_of queued e.queues sent read asking) (ledger_of (message_of sending ∷ queued) (queue_unless_refused e sending None).after.queues sent read asking) nothing
      (actions.queues e.moment sending fit (not_empty sending.message.payload _ is))
  queue_one_makes e sending (Some refusal) is fit queued sent read asking = nothing

  queue_all_makes : (e : Endpoint) (sendings : List Sending) → AllByRecursion (λ sending. Fits (message_of sending)) sendings
      → (queued : List Message) (sent : List Emission) (read : List MessageContent) (asking : Asking)
      → Actions came to (ledger_of queued e.queues sent read asking) (ledger_of (queued_together e sendings queued) (queue_all e sendings).after.queues sent read asking)
  queue_all_makes e [] fit queued sent read asking = nothing
  queue_all_makes e (sending ∷ sendings) fit queued sent read asking =
      let next : List Message = queued_unless_refused (sending_refusal e sending) sending queued in
      joined came to (ledger_of queued e.queues sent read asking) (ledger_of next (queue_one e sending).after.queues sent read asking)
      (ledger_of (queued_together (queue_one e sending).after sendings next) (queue_all (queue_one e sending).after sendings).after.queues sent read asking)
      (queue_one_makes e sending (sending_refusal e sending) refl fit.0 queued sent read asking) (queue_all_makes (queue_one e sending).after sendings fit.1 next sent read asking)

  queue_one_none : (e : Endpoint) (sending : Sending) (refusal : Option MessageRefusal) → packets_of_events (queue_unless_refused e sending refusal).events ≡ []
  queue_one_none e sending None = refl
  queue_one_none e sending (Some refusal) = refusal_none refusal (lifecycle_name sending)

  queue_all_none : (e : Endpoint) (sendings : List Sending) → packets_of_events (queue_all e sendings).events ≡ []
  queue_all_none e [] = refl
  queue_all_none e (sending ∷ sendings) =
      packets_of_events-append (queue_one e sending).events (queue_all (queue_one e sending).after sendings).events
      ∙ ap (λ (l : List Emission). l ++ packets_of_events (queue_all (queue_one e sending).after sendings).events) (queue_one_none e sending (sending_refusal e sending))
      ∙ queue_all_none (queue_one e sending).after sendings

  send_where_makes : (b : Bool) (e : Endpoint) (answers : List Answer) → IsPeerTag e.core to → SendAnswers b e answers → MakesTo came to (inside e) (flush_if_queued b e answers)
  send_where_makes false e answers at allowed = rests came to (inside e)
  send_where_makes true e answers at allowed = to_makes came calm to e (held_by_core e.core) answers at refl allowed

  send_where_link : (b : Bool) (e : Endpoint) (answers : List Answer) → SendAnswers b e answers → identity_of_core (flush_if_queued b e answers).after.core ≡ identity_of_core e.core
  send_where_link false e answers allowed = refl
  send_where_link true e answers allowed = to_link e (held_by_core e.core) answers allowed

  pub send_goes : (e : Endpoint) (sendings : List Sending) (o : Outcome) → IsPeerTag e.core to → AllByRecursion (λ sending. Fits (message_of sending)) sendings → SendTurn e sendings o
      → Becomes None came to (queued_together e sendings) (λ read. read) e o
  send_goes e sendings o at fit turn =
      let all : Outcome = queue_all e sendings in
      let last : Outcome = flush_if_queued (takes_any e sendings) all.after turn.0 in
      let is : packets_of_events (all.events ++ last.events) ≡ packets_of_events last.events =
      packets_of_events-append all.events last.events ∙ ap (λ (l : List Emission). l ++ packets_of_events last.events) (queue_all_none e sendings) in
      subst (Becomes None came to (queued_together e sendings) (λ read. read) e) (sym turn.2)
      (goes_on calm (send_where_link (takes_any e sendings) all.after turn.0 turn.1 ∙ ap identity_of_core (queue_all_core e sendings)) (subst (λ (l : List Emission). MakesAlso came to (queued_together e sendings) (λ read. read) (inside e) l (inside last.after)) (sym is)
      (λ queued sent read tsn asking asks.
      let later : List Message = queued_together e sendings queued in
      let made : LeadsToLedger came to (ledger_of later all.after.queues sent read asking) tsn (inside last.after) (exchange_of later (sent ++ packets_of_events last.events) read) =
      send_where_makes (takes_any e sendings) all.after turn.0 (subst (λ (c : Core). IsPeerTag c to) (sym (queue_all_core e sendings)) at) turn.1 later sent read tsn asking
      (subst (λ (own : Option Own). AsksFit tsn own asking) (sym (queue_all_own e sendings)) asks) in
      record {
        asking = made.asking;
        grows = made.grows;
        fits = made.fits;
        actions = joined came to (ledger_of queued e.queues sent read asking) (ledger_of later all.after.queues sent read asking)
            (ledger_of later last.after.queues (sent ++ packets_of_events last.events) read made.asking) (queue_all_makes e sendings fit queued sent read asking) made.actions;
      })))
