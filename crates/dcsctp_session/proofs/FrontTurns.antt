-- Several messages of which one may be too long: a front of it will do, as for one message alone.
use Rattle.std.proofs.Common.{arith, ◌≡◌, ◌∙◌, ◌<◌, ◌≤◌, ◌==◌, ◌||◌, refl, sym, ap, subst, inl, inr, is_none, ℕ, Bool, false, true, suc, ◌+◌, List, [], ◌∷◌, ◌++◌, map, length, drop, Option, Some, None, Result, Ok, Err, ℤ}
use Rattle.dcsctp_core.specs.types.declared.message.SendOptions.{SendOptions}
use Rattle.dcsctp_core.specs.types.queues.Messages.{MessageContent}
use Rattle.dcsctp_core.specs.types.Settings.{ports_of}
use Rattle.dcsctp_core.specs.spec.endpoint.Endpoint.{Endpoint}
use Rattle.dcsctp_core.specs.spec.endpoint.Outcome.{Outcome, quiet, then_outcome}
use Rattle.dcsctp_core.specs.spec.endpoint.FlushOutcomes.{Answer}
use Rattle.dcsctp_core.specs.spec.endpoint.Turn.{Input, user_sends}
use Rattle.dcsctp_core.specs.spec.endpoint.MessageOutcomes.{MessageRefusal, empty_payload, message_too_large, shutting_down, resource_exhaustion, message_refusal, refusal_events, Sending, sending_of, sending_refusal, lifecycle_name, queue_unless_refused, queue_one, queue_all, takes_any, RefusedMessage, refused_message_at_place, refused_from, SendAnswers, flush_if_queued, SendTurn}
use Rattle.dcsctp_core.specs.spec.endpoint.CallTurns.{Transition, transition, Turns}
use Rattle.dcsctp_core.specs.api.declared.errors.SendError.{SendError}
use Rattle.dcsctp_core.specs.api.declared.errors.SendError.TheVariants.{EmptyPayload, MessageTooLarge, ResourceExhaustion, ShuttingDown}
use Rattle.dcsctp_core.specs.api.Calls.{UserView, Follows, AddsFirstEvents, RanOutOfMemory}
use Rattle.dcsctp_core.specs.api.declared.errors.BatchSendError.{BatchSendError}
use Rattle.dcsctp_core.specs.api.declared.errors.SocketFault.{SocketFault}
use Rattle.dcsctp_core.specs.api.declared.errors.SocketFault.TheVariants.{OutOfMemory, Failed}
use Rattle.dcsctp_core.specs.api.Messages.{SendsMany, IsBatchAnswer, refusal_of, refused_messages}
use Rattle.dcsctp_session.specs.declared.status.Status.{Status}
use Rattle.dcsctp_session.specs.declared.status.Status.TheVariants as statuses
use Rattle.dcsctp_session.specs.Copying.{IsFront}
use Rattle.dcsctp_session.specs.Status.{status_number, send_error_status}
use Rattle.dcsctp_session.specs.Answering.{IsFrontMessage, AreFronts, status_of_place, refused_later, statuses_from_place, errors_of_answer, first_status, outcome_status, results_of_answer}
use Rattle.dcsctp_session.specs.Many.{refusal_status, statuses_of, first_refusal, ManyCall, many_status, results_after}

-- ---- what the errors say of each message

error_status : (error : SendError) → send_error_status error ≡ refusal_status (Some (refusal_of error))
error_status EmptyPayload = refl
error_status (MessageTooLarge bytes limit) = refl
error_status ResourceExhaustion = refl
error_status ShuttingDown = refl

-- Those that are refused from a place on have no earlier place.
later_by : (place : ℕ) (next : Endpoint) (messages : List Sending) (refusal : Option MessageRefusal) (one : RefusedMessage) (others : List RefusedMessage)
    → (one ∷ others ≡ refused_from (place + 1) next messages → place + 1 ≤ one.place)
    → one ∷ others ≡ refused_message_at_place place refusal ++ refused_from (place + 1) next messages → place ≤ one.place
later_by place next messages None one others rest is = let after = rest is in omega arith
later_by place next messages (Some refusal) one others rest is = grind arith

later : (place : ℕ) (e : Endpoint) (messages : List Sending) (one : RefusedMessage) (others : List RefusedMessage) → one ∷ others ≡ refused_from place e messages → place ≤ one.place
later place e [] one others is = grind arith
later place e (message ∷ messages) one others is =
    later_by place (queue_one e message).after messages (sending_refusal e message) one others (later (place + 1) (queue_one e message).after messages one others) is

told_by : (place : ℕ) (next : Endpoint) (messages : List Sending) (refusal : Option MessageRefusal) (errors : List (ℕ × SendError))
    → ((errors : List (ℕ × SendError)) → refused_messages errors ≡ refused_from (place + 1) next messages → statuses_from_place (length messages) (place + 1) errors ≡ statuses_of next messages)
    → refused_messages errors ≡ refused_message_at_place place refusal ++ refused_from (place + 1) next messages
    → status_of_place place errors ∷ statuses_from_place (length messages) (place + 1) (refused_later place errors) ≡ refusal_status refusal ∷ statuses_of next messages
told_by place next messages None [] rest is = ap (λ l. statuses.Done ∷ l) (rest [] is)
told_by place next messages None (error ∷ errors) rest is =
    let after : place + 1 ≤ error.0 = later (place + 1) next messages (record { place = error.0; refusal = refusal_of error.1 }) (refused_messages errors) is in
    let other : (error.0 == place) ≡ false = grind arith in
    rw other (ap (λ l. statuses.Done ∷ l) (rest (error ∷ errors) is))
told_by place next messages (Some refusal) [] rest is = grind arith
told_by place next messages (Some refusal) (error ∷ errors) rest is =
    let here : (error.0 == place) ≡ true = grind arith in
    let why : refusal_of error.1 ≡ refusal = grind arith in
    let behind : refused_messages errors ≡ refused_from (place + 1) next messages = grind arith in
    rw here (ap (λ s. s ∷ statuses_from_place (length messages) (place + 1) errors) (error_status error.1 ∙ ap (λ r. refusal_status (Some r)) why)
    ∙ ap (λ l. refusal_status (Some refusal) ∷ l) (rest errors behind))

told_from : (place : ℕ) (e : Endpoint) (messages : List Sending) (errors : List (ℕ × SendError)) → refused_messages errors ≡ refused_from place e messages
    → statuses_from_place (length messages) place errors ≡ statuses_of e messages
told_from place e [] errors is = refl
told_from place e (message ∷ messages) errors is =
    told_by place (queue_one e message).after messages (sending_refusal e message) errors (told_from (place + 1) (queue_one e message).after messages) is

pub told_are : (e : Endpoint) (messages : List Sending) (errors : List (ℕ × SendError)) → refused_messages errors ≡ refused_from 0 e messages
    → statuses_from_place (length messages) 0 errors ≡ statuses_of e messages
told_are e messages errors is = told_from 0 e messages errors is

first_is : (refusal : MessageRefusal) (others : List Status) → refusal_status (Some refusal) ≡ first_refusal (refusal_status (Some refusal) ∷ others)
first_is empty_payload others = refl
first_is (message_too_large bytes limit) others = refl
first_is shutting_down others = refl
first_is resource_exhaustion others = refl

first_by : (next : Endpoint) (place : ℕ) (messages : List Sending) (refusal : Option MessageRefusal) (errors : List (ℕ × SendError))
    → (refused_messages errors ≡ refused_from (place + 1) next messages → first_status errors ≡ first_refusal (statuses_of next messages))
    → refused_messages errors ≡ refused_message_at_place place refusal ++ refused_from (place + 1) next messages
    → first_status errors ≡ first_refusal (refusal_status refusal ∷ statuses_of next messages)
first_by next place messages None errors rest is = rest is
first_by next place messages (Some refusal) [] rest is = grind arith
first_by next place messages (Some refusal) (error ∷ errors) rest is =
    let why : refusal_of error.1 ≡ refusal = grind arith in
    error_status error.1 ∙ ap (λ r. refusal_status (Some r)) why ∙ first_is refusal (statuses_of next messages)

first_from : (place : ℕ) (e : Endpoint) (messages : List Sending) (errors : List (ℕ × SendError)) → refused_messages errors ≡ refused_from place e messages
    → first_status errors ≡ first_refusal (statuses_of e messages)
first_from place e [] [] is = refl
first_from place e [] (error ∷ errors) is = grind arith
first_from place e (message ∷ messages) errors is =
    first_by (queue_one e message).after place messages (sending_refusal e message) errors (first_from (place + 1) (queue_one e message).after messages errors) is

-- ---- fronts

too_large : (e : Endpoint) (stream bytes : ℕ) → e.options.max_message_size < bytes
    → message_refusal e stream bytes ≡ Some (message_too_large bytes e.options.max_message_size)
too_large e stream bytes long = grind arith

same_events : (limit a b : ℕ) (name : Option ℕ) → refusal_events (message_too_large a limit) name ≡ refusal_events (message_too_large b limit) name
same_events limit a b None = refl
same_events limit a b (Some id) = refl

kept_by : (e : Endpoint) (message : Sending) (refusal : Option MessageRefusal) → (queue_unless_refused e message refusal).after.options ≡ e.options
kept_by e message None = refl
kept_by e message (Some refusal) = refl

-- What a front does is what the whole message does.
pub record ActsAlike (e : Endpoint) (whole front : Sending) : Type 0 where
  pub queued : queue_one e front ≡ queue_one e whole
  pub taken : is_none (sending_refusal e front) ≡ is_none (sending_refusal e whole)
  pub told : refusal_status (sending_refusal e front) ≡ refusal_status (sending_refusal e whole)

module _ (options : SendOptions) where
  abbrev sent : ℕ → ℕ → List ℕ → Sending
  sent stream ppid payload = sending_of options (record { stream = stream; ppid = ppid; payload = payload })

  alike_parts : (e : Endpoint) (stream ppid : ℕ) (whole front : List ℕ) → IsFront e.options.max_message_size whole front
      → ActsAlike e (sent stream ppid whole) (sent stream ppid front)
  alike_parts e stream ppid whole front (inl is) =
      subst (λ payload. ActsAlike e (sent stream ppid payload) (sent stream ppid front)) is (record { queued = refl; taken = refl; told = refl })
  alike_parts e stream ppid whole front (inr (front_long, whole_long)) =
      let of_front = too_large e stream (length front) front_long in
      let of_whole = too_large e stream (length whole) whole_long in
      record {
        queued =
            ap (queue_unless_refused e (sent stream ppid front)) of_front
            ∙ ap (quiet e []) (same_events e.options.max_message_size (length front) (length whole) (lifecycle_name (sent stream ppid front)))
            ∙ sym (ap (queue_unless_refused e (sent stream ppid whole)) of_whole);
        taken = ap is_none of_front ∙ sym (ap is_none of_whole);
        told = ap refusal_status of_front ∙ sym (ap refusal_status of_whole);
      }

  alike : (e : Endpoint) (whole front : MessageContent) → IsFrontMessage e.options.max_message_size whole front
      → ActsAlike e (sending_of options whole) (sending_of options front)
  alike e whole front (stream, ppid, is) =
      subst (λ s. ActsAlike e (sending_of options whole) (sent s front.ppid front.payload)) (sym stream)
      (subst (λ p. ActsAlike e (sending_of options whole) (sent whole.stream p front.payload)) (sym ppid)
      (alike_parts e whole.stream whole.ppid whole.payload front.payload is))

  -- All of them do what the whole messages do.
  pub record AllAlike (e : Endpoint) (wholes fronts : List Sending) : Type 0 where
    pub queued : queue_all e fronts ≡ queue_all e wholes
    pub taken : takes_any e fronts ≡ takes_any e wholes
    pub told : statuses_of e fronts ≡ statuses_of e wholes

  more_alike : (e : Endpoint) (whole front : Sending) (wholes fronts : List Sending) → ActsAlike e whole front
      → AllAlike (queue_one e whole).after wholes fronts → AllAlike e (whole ∷ wholes) (front ∷ fronts)
  more_alike e whole front wholes fronts one all =
      record {
        queued =
            ap (λ o. then_outcome o (queue_all o.after fronts)) one.queued
            ∙ ap (then_outcome (queue_one e whole)) all.queued;
        taken =
            ap (λ b. b || takes_any (queue_one e front).after fronts) one.taken
            ∙ ap (λ o. is_none (sending_refusal e whole) || takes_any o.after fronts) one.queued
            ∙ ap (λ b. is_none (sending_refusal e whole) || b) all.taken;
        told =
            ap (λ s. s ∷ statuses_of (queue_one e front).after fronts) one.told
            ∙ ap (λ o. refusal_status (sending_refusal e whole) ∷ statuses_of o.after fronts) one.queued
            ∙ ap (λ l. refusal_status (sending_refusal e whole) ∷ l) all.told;
      }

  pub all_alike : (e : Endpoint) (wholes fronts : List MessageContent) → AreFronts e.options.max_message_size wholes fronts
      → AllAlike e (map (sending_of options) wholes) (map (sending_of options) fronts)
  all_alike e [] [] are = record { queued = refl; taken = refl; told = refl }
  all_alike e [] (front ∷ fronts) are = absurd are
  all_alike e (whole ∷ wholes) [] are = absurd are
  all_alike e (whole ∷ wholes) (front ∷ fronts) (is, are) =
      let next : Endpoint = (queue_one e (sending_of options whole)).after in
      more_alike e (sending_of options whole) (sending_of options front) (map (sending_of options) wholes) (map (sending_of options) fronts)
      (alike e whole front is)
      (all_alike next wholes fronts
      (subst (λ o. AreFronts o.max_message_size wholes fronts) (sym (kept_by e (sending_of options whole) (sending_refusal e (sending_of options whole)))) are))

-- ---- turns

-- the call is the turn of this input
abbrev pub IsTurnOf : Input → UserView → UserView → Type 0
IsTurnOf input old new = (turns : List Transition) × Turns old.endpoint (input ∷ []) turns × Follows old turns new

-- what comes of the call, by whether a message is taken and what queueing them does
abbrev CameOf : Bool → Outcome → Outcome → Type 0
CameOf takes queued o = (answers : List Answer) × SendAnswers takes queued.after answers × (o ≡ then_outcome queued (flush_if_queued takes queued.after answers))

same_turn : (options : SendOptions) (e : Endpoint) (wholes fronts : List Sending) (o : Outcome) → AllAlike options e wholes fronts → SendTurn e fronts o → SendTurn e wholes o
same_turn options e wholes fronts o all came =
    subst (λ takes. CameOf takes (queue_all e wholes) o) all.taken (subst (λ queued. CameOf (takes_any e fronts) queued o) all.queued came)

module _ (options : SendOptions) (old : UserView) (wholes fronts : List Sending) (all : AllAlike options old.endpoint wholes fronts) where
  same_call : (new : UserView) (turns : List Transition) → Turns old.endpoint (user_sends fronts ∷ []) turns → Follows old turns new → IsTurnOf (user_sends wholes) old new
  same_call new [] said follows = absurd said
  same_call new (t ∷ u ∷ turns) said follows = absurd said.1
  same_call new (t ∷ []) said follows = (
    transition (user_sends wholes) t.outcome ∷ [],
    (record { is = refl; comes = same_turn options old.endpoint wholes fronts t.outcome all said.0.comes }, tt),
    record { runs = follows.runs; goes_on = follows.goes_on; endpoint = follows.endpoint; events = follows.events; words = follows.words; pairs = follows.pairs; drawn = follows.drawn },
  )

  pub same_sent : (new : UserView) → IsTurnOf (user_sends fronts) old new → IsTurnOf (user_sends wholes) old new
  same_sent new (turns, are, follows) = same_call new turns are follows

  same_front : (new : UserView) (turns : List Transition) → old.failed ≡ false → new.failed ≡ true → Turns old.endpoint (user_sends fronts ∷ []) turns
      → AddsFirstEvents (ports_of old.endpoint.options) turns old.events new.events → RanOutOfMemory (Turns old.endpoint (user_sends wholes ∷ [])) old new
  same_front new [] runs fails said adds = absurd said
  same_front new (t ∷ u ∷ turns) runs fails said adds = absurd said.1
  same_front new (t ∷ []) runs fails said adds =
      record {
        runs = runs;
        fails = fails;
        turns = transition (user_sends wholes) t.outcome ∷ [];
        are = (record { is = refl; comes = same_turn options old.endpoint wholes fronts t.outcome all said.0.comes }, tt);
        events = record { added = adds.added; rest = adds.rest; behind = adds.behind; front = adds.front };
      }

  pub same_cut : (new : UserView) → RanOutOfMemory (Turns old.endpoint (user_sends fronts ∷ [])) old new → RanOutOfMemory (Turns old.endpoint (user_sends wholes ∷ [])) old new
  same_cut new cut = same_front new cut.turns cut.runs cut.fails cut.are cut.events

-- ---- the call

answered : (refused : List RefusedMessage) (answer : Result (Unit {0}) BatchSendError) → IsBatchAnswer refused answer → refused_messages (errors_of_answer answer) ≡ refused
answered refused (Ok done) is = sym is
answered refused (Err error) is = is.0

each_length : (e : Endpoint) (messages : List Sending) → length (statuses_of e messages) ≡ length messages
each_length e [] = refl
each_length e (message ∷ messages) = ap suc (each_length (queue_one e message).after messages)

fronts_length : (limit : ℕ) (options : SendOptions) (wholes fronts : List MessageContent) → AreFronts limit wholes fronts
    → length (map (sending_of options) fronts) ≡ length (map (sending_of options) wholes)
fronts_length limit options [] [] are = refl
fronts_length limit options [] (front ∷ fronts) are = absurd are
fronts_length limit options (whole ∷ wholes) [] are = absurd are
fronts_length limit options (whole ∷ wholes) (front ∷ fronts) are = ap suc (fronts_length limit options wholes fronts are.1)

module _ (options : SendOptions) (wholes fronts : List MessageContent) (old new : UserView) (are : AreFronts old.endpoint.options.max_message_size wholes fronts) where
  abbrev whole_sendings : List Sending
  whole_sendings = map (sending_of options) wholes

  abbrev front_sendings : List Sending
  front_sendings = map (sending_of options) fronts

  all : AllAlike options old.endpoint whole_sendings front_sendings
  all = all_alike options old.endpoint wholes fronts are

  -- the status of each
  abbrev pub whole_outcome : Result (Result (Unit {0}) BatchSendError) SocketFault → Result (List Status) SocketFault
  whole_outcome (Ok answer) = Ok (statuses_of old.endpoint whole_sendings)
  whole_outcome (Err fault) = Err fault

  pub whole_call : (outcome : Result (Result (Unit {0}) BatchSendError) SocketFault) → SendsMany fronts options old outcome new
      → ManyCall wholes options old (whole_outcome outcome) new
  whole_call (Ok answer) made =
      let same : IsTurnOf (user_sends whole_sendings) old new = same_sent options old whole_sendings front_sendings all new (made.turns, made.are, made.follows) in
      record { answers = refl; turns = same.0; are = same.1; follows = same.2 }
  whole_call (Err OutOfMemory) cut = same_cut options old whole_sendings front_sendings all new cut
  whole_call (Err Failed) stays = stays

  pub whole_status : (outcome : Result (Result (Unit {0}) BatchSendError) SocketFault) → SendsMany fronts options old outcome new
      → outcome_status outcome ≡ many_status (whole_outcome outcome)
  whole_status (Ok answer) made =
      first_from 0 old.endpoint front_sendings (errors_of_answer answer) (answered (refused_from 0 old.endpoint front_sendings) answer made.answers)
      ∙ ap first_refusal all.told
  whole_status (Err fault) sends = refl

  pub whole_results : (outcome : Result (Result (Unit {0}) BatchSendError) SocketFault) (before : List ℤ) → SendsMany fronts options old outcome new
      → results_of_answer outcome (length whole_sendings) before ≡ results_after (whole_outcome outcome) before
  whole_results (Ok answer) before made =
      let each : statuses_from_place (length whole_sendings) 0 (errors_of_answer answer) ≡ statuses_of old.endpoint whole_sendings =
      ap (λ n. statuses_from_place n 0 (errors_of_answer answer)) (sym (fronts_length old.endpoint.options.max_message_size options wholes fronts are))
      ∙ told_are old.endpoint front_sendings (errors_of_answer answer) (answered (refused_from 0 old.endpoint front_sendings) answer made.answers)
      ∙ all.told in
      ap (λ l. map status_number l ++ drop (length whole_sendings) before) each
      ∙ ap (λ n. map status_number (statuses_of old.endpoint whole_sendings) ++ drop n before) (sym (each_length old.endpoint whole_sendings))
  whole_results (Err fault) before sends = refl
