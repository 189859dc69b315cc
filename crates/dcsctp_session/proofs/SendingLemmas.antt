-- A message that is too long is refused by its length alone, whatever bytes it has. So a front of
-- it will do.
use Rattle.std.proofs.Common.{arith, ◌≡◌, ◌∙◌, ◌<◌, refl, sym, ap, subst, inl, inr, ℕ, Bool, false, true, List, [], ◌∷◌, length, Option, Some, None, Result, Ok, Err}
use Rattle.dcsctp_core.specs.types.declared.message.SendOptions.{SendOptions}
use Rattle.dcsctp_core.specs.types.queues.Messages.{MessageContent}
use Rattle.dcsctp_core.specs.types.Settings.{ports_of}
use Rattle.dcsctp_core.specs.spec.endpoint.Endpoint.{Endpoint}
use Rattle.dcsctp_core.specs.spec.endpoint.Outcome.{Outcome, quiet, then_outcome}
use Rattle.dcsctp_core.specs.spec.endpoint.FlushOutcomes.{Answer}
use Rattle.dcsctp_core.specs.spec.endpoint.Turn.{user_sends}
use Rattle.dcsctp_core.specs.spec.endpoint.MessageOutcomes.{message_too_large, message_refusal, refusal_events, Sending, sending_of, sending_refusal, lifecycle_name, queue_unless_refused, queue_one, queue_all, takes_any, SendAnswers, flush_if_queued, SendTurn}
use Rattle.dcsctp_core.specs.spec.endpoint.CallTurns.{Transition, transition, Turns}
use Rattle.dcsctp_core.specs.api.declared.errors.SendError.{SendError}
use Rattle.dcsctp_core.specs.api.declared.errors.SendError.TheVariants.{EmptyPayload, MessageTooLarge, ResourceExhaustion, ShuttingDown}
use Rattle.dcsctp_core.specs.api.declared.errors.SocketFault.{SocketFault}
use Rattle.dcsctp_core.specs.api.declared.errors.SocketFault.TheVariants.{OutOfMemory, Failed}
use Rattle.dcsctp_core.specs.api.Calls.{UserView, Follows, AddsFirstEvents, RanOutOfMemory}
use Rattle.dcsctp_core.specs.api.Messages.{SendsMessage}
use Rattle.dcsctp_session.specs.declared.session.Session.{Session}
use Rattle.dcsctp_session.specs.declared.status.Status.{Status}
use Rattle.dcsctp_session.specs.declared.options.SendOptionsRecord.{SendOptionsRecord}
use Rattle.dcsctp_session.specs.Options.{SaysSendOptions, is_valid_sending}
use Rattle.dcsctp_session.specs.Copying.{IsFront}
use Rattle.dcsctp_session.specs.Calls.{CallsSocket, SendsIfValid, SendsOneMessage}
use Rattle.dcsctp_session.specs.Status.{send_status}
use Rattle.dcsctp_session.specs.Views.{view}
use Rattle.dcsctp_session.proofs.FrontTurns.{IsTurnOf}

too_large : (e : Endpoint) (stream bytes : ℕ) → e.options.max_message_size < bytes
    → message_refusal e stream bytes ≡ Some (message_too_large bytes e.options.max_message_size)
too_large e stream bytes long = grind arith

same_events : (limit a b : ℕ) (name : Option ℕ) → refusal_events (message_too_large a limit) name ≡ refusal_events (message_too_large b limit) name
same_events limit a b None = refl
same_events limit a b (Some id) = refl

-- Two messages that differ in their bytes alone, both longer than a message may be.
module _ (old : UserView) (options : SendOptions) (stream ppid : ℕ) (front whole : List ℕ)
    (front_long : old.endpoint.options.max_message_size < length front) (whole_long : old.endpoint.options.max_message_size < length whole) where
  abbrev limit : ℕ
  limit = old.endpoint.options.max_message_size

  abbrev message : List ℕ → MessageContent
  message payload = record { stream = stream; ppid = ppid; payload = payload }

  abbrev sending : List ℕ → Sending
  sending payload = sending_of options (message payload)

  refused : (payload : List ℕ) → limit < length payload → sending_refusal old.endpoint (sending payload) ≡ Some (message_too_large (length payload) limit)
  refused payload long = too_large old.endpoint stream (length payload) long

  same_queued : queue_one old.endpoint (sending front) ≡ queue_one old.endpoint (sending whole)
  same_queued =
      ap (queue_unless_refused old.endpoint (sending front)) (refused front front_long)
      ∙ ap (quiet old.endpoint []) (same_events limit (length front) (length whole) (lifecycle_name (sending front)))
      ∙ sym (ap (queue_unless_refused old.endpoint (sending whole)) (refused whole whole_long))

  none_taken : (payload : List ℕ) → limit < length payload → takes_any old.endpoint (sending payload ∷ []) ≡ false
  none_taken payload long = rw (refused payload long) refl

  -- what comes of the call, by whether a message is taken and what queueing it does
  abbrev CameOf : Bool → Outcome → Outcome → Type 0
  CameOf takes queued o = (answers : List Answer) × SendAnswers takes queued.after answers × (o ≡ then_outcome queued (flush_if_queued takes queued.after answers))

  same_turn : (o : Outcome) → SendTurn old.endpoint (sending front ∷ []) o → SendTurn old.endpoint (sending whole ∷ []) o
  same_turn o came =
      subst (λ takes. CameOf takes (queue_all old.endpoint (sending whole ∷ [])) o) (none_taken front front_long ∙ sym (none_taken whole whole_long))
      (subst (λ queued. CameOf (takes_any old.endpoint (sending front ∷ [])) (then_outcome queued (queue_all queued.after [])) o) same_queued came)

  abbrev IsTurn : List ℕ → List Transition → Type 0
  IsTurn payload turns = Turns old.endpoint (user_sends (sending payload ∷ []) ∷ []) turns

  same_call : (new : UserView) (turns : List Transition) → IsTurn front turns → Follows old turns new → IsTurnOf (user_sends (sending whole ∷ [])) old new
  same_call new [] said follows = absurd said
  same_call new (t ∷ u ∷ turns) said follows = absurd said.1
  same_call new (t ∷ []) said follows = (
    transition (user_sends (sending whole ∷ [])) t.outcome ∷ [],
    (record { is = refl; comes = same_turn t.outcome said.0.comes }, tt),
    record { runs = follows.runs; goes_on = follows.goes_on; endpoint = follows.endpoint; events = follows.events; words = follows.words; pairs = follows.pairs; drawn = follows.drawn },
  )

  same_cut : (new : UserView) (turns : List Transition) → old.failed ≡ false → new.failed ≡ true → IsTurn front turns
      → AddsFirstEvents (ports_of old.endpoint.options) turns old.events new.events → RanOutOfMemory (IsTurn whole) old new
  same_cut new [] runs fails said adds = absurd said
  same_cut new (t ∷ u ∷ turns) runs fails said adds = absurd said.1
  same_cut new (t ∷ []) runs fails said adds =
      record {
        runs = runs;
        fails = fails;
        turns = transition (user_sends (sending whole ∷ [])) t.outcome ∷ [];
        are = (record { is = refl; comes = same_turn t.outcome said.0.comes }, tt);
        events = record { added = adds.added; rest = adds.rest; behind = adds.behind; front = adds.front };
      }

  -- what is returned for the whole message
  abbrev whole_answer : Result (Result (Unit {0}) SendError) SocketFault → Result (Result (Unit {0}) SendError) SocketFault
  whole_answer (Ok (Err error)) = Ok (Err (MessageTooLarge (length whole) limit))
  whole_answer outcome = outcome

  same_sends : (new : UserView) (outcome : Result (Result (Unit {0}) SendError) SocketFault)
      → SendsMessage (message front) options old outcome new → SendsMessage (message whole) options old (whole_answer outcome) new
  same_sends new (Ok (Ok done)) made = let is = made.answers in let long = refused front front_long in grind arith
  same_sends new (Ok (Err error)) made =
      let same : IsTurnOf (user_sends (sending whole ∷ [])) old new = same_call new made.turns made.are made.follows in
      record { answers = sym (refused whole whole_long); turns = same.0; are = same.1; follows = same.2 }
  same_sends new (Err OutOfMemory) sends = same_cut new sends.turns sends.runs sends.fails sends.are sends.events
  same_sends new (Err Failed) sends = sends

  same_status : (new : UserView) (outcome : Result (Result (Unit {0}) SendError) SocketFault) → SendsMessage (message front) options old outcome new
      → send_status (whole_answer outcome) ≡ send_status outcome
  same_status new (Ok (Ok done)) sends = refl
  same_status new (Ok (Err (MessageTooLarge bytes most))) sends = refl
  same_status new (Ok (Err EmptyPayload)) made = let answer = made.answers in let is = refused front front_long in grind arith
  same_status new (Ok (Err ResourceExhaustion)) made = let answer = made.answers in let is = refused front front_long in grind arith
  same_status new (Ok (Err ShuttingDown)) made = let answer = made.answers in let is = refused front front_long in grind arith
  same_status new (Err fault) sends = refl

-- ---- the call of a session

settled_whole : (options : SendOptions) (stream ppid : ℕ) (front whole : List ℕ) (old : Session) (status : Status) (new : Session)
    → IsFront (view old).endpoint.options.max_message_size whole front
    → CallsSocket send_status (SendsMessage (record { stream = stream; ppid = ppid; payload = front }) options) old status new
    → CallsSocket send_status (SendsMessage (record { stream = stream; ppid = ppid; payload = whole }) options) old status new
settled_whole options stream ppid front whole old status new (inl is) settled =
    subst (λ payload. CallsSocket send_status (SendsMessage (record { stream = stream; ppid = ppid; payload = payload }) options) old status new) is settled
settled_whole options stream ppid front whole old status new (inr (front_long, whole_long)) settled =
    record {
      outcome = whole_answer (view old) options stream ppid front whole front_long whole_long settled.outcome;
      call = same_sends (view old) options stream ppid front whole front_long whole_long (view new) settled.outcome settled.call;
      told = settled.told ∙ sym (same_status (view old) options stream ppid front whole front_long whole_long (view new) settled.outcome settled.call);
      taken = settled.taken;
      offload = settled.offload;
    }

pub message_sent : (numbers : SendOptionsRecord) (options : SendOptions) (stream ppid : ℕ) (front whole : List ℕ) (old : Session) (status : Status) (new : Session)
    → is_valid_sending numbers ≡ true → IsFront (view old).endpoint.options.max_message_size whole front → SaysSendOptions numbers options
    → CallsSocket send_status (SendsMessage (record { stream = stream; ppid = ppid; payload = front }) options) old status new
    → SendsOneMessage (record { stream = stream; ppid = ppid; payload = whole }) numbers old status new
message_sent numbers options stream ppid front whole old status new valid front_of says settled =
    subst (λ known. SendsIfValid known (record { stream = stream; ppid = ppid; payload = whole }) numbers old status new) (sym valid)
    (inr (options, says, settled_whole options stream ppid front whole old status new front_of settled))
