-- The calls of the socket below, each as a move of its end.
use Rattle.std.proofs.Common.{◌≡◌, ◌<◌, ◌^◌, ℕ, Option, Some, None, Result, Ok, Err, List, [], ◌∷◌, ◌++◌, length, map, refl, sym, ap, subst, ◌∙◌}
use Rattle.std.proofs.lemmas.List.{append-nil}
use Rattle.dcsctp_spec_runs.specs.Laws.{SocketsKeepOptions}
use Rattle.dcsctp_spec_runs.specs.Sockets.{PerformedAct}
use Rattle.dcsctp_delivery_sockets.specs.sockets.Delivery.{FitsMessage, FitsCall}
use Rattle.dcsctp_delivery_sockets.specs.sockets.UserMessages.{accepted_unless_refused, accepted_as, first_readable, messages_read_of_input, read_of}
use Rattle.dcsctp_delivery_directions.specs.sending.Queueing.{SettingFits}
use Rattle.dcsctp_channel_calls.specs.api.Calls.{UserView, user_event, MakesCall, NoAnswer, Sets, with_setting, Connects, ClosesSocket, ShutsDown}
use Rattle.dcsctp_channel_calls.specs.api.Messages.{refusal_of_answer, IsSendAnswer, SendsMessage, ready_messages, IsFirstMessage, TakesNextMessage}
use Rattle.dcsctp_channel_calls.specs.api.Resets.{IsResetAnswer, ResetsOwn}
use Rattle.dcsctp_channel_calls.specs.api.Time.{AdvancesClock}
use Rattle.dcsctp_channel_calls.specs.api.declared.errors.SendError.{SendError}
use Rattle.dcsctp_channel_calls.specs.api.declared.errors.ResetStreamsError.{ResetStreamsError}
use Rattle.dcsctp_channel_calls.specs.api.types.declared.ends.AbortReason.TheVariants.{CloseCalled}
use Rattle.dcsctp_channel_calls.specs.api.types.declared.message.Message.{Message}
use Rattle.dcsctp_channel_calls.specs.api.types.declared.message.SendOptions.{SendOptions}
use Rattle.dcsctp_channel_calls.specs.api.types.declared.schedule.Side.{Side}
use Rattle.dcsctp_channel_calls.specs.api.types.Schedule.{CallContent, call_step, step_act, connect_call, close_call, shutdown_call, advance_call, set_call, send_call, reset_call, take_call}
use Rattle.dcsctp_channel_calls.specs.api.types.Settings.{ports_of}
use Rattle.dcsctp_channel_calls.specs.api.types.Setting.{Setting, stream_priority, stream_low_threshold}
use Rattle.dcsctp_channel_calls.specs.api.types.queues.Messages.{MessageContent, message_content}
use Rattle.dcsctp_channel_calls.specs.api.spec.association.Acts.{connect, shut_down, abort_with}
use Rattle.dcsctp_channel_calls.specs.api.spec.endpoint.CallTurns.{Transition, transition, Turns}
use Rattle.dcsctp_channel_calls.specs.api.spec.endpoint.DataOutcomes.{TakesFirstReady, TakeLeft, TakeTurn}
use Rattle.dcsctp_channel_calls.specs.api.spec.Packet.{Emission}
use Rattle.dcsctp_channel_calls.specs.api.spec.endpoint.Endpoint.{Endpoint}
use Rattle.dcsctp_channel_calls.specs.api.spec.endpoint.Event.{Event}
use Rattle.dcsctp_channel_calls.specs.api.spec.endpoint.MessageOutcomes.{MessageRefusal, Sending, sending_of, message_refusal}
use Rattle.dcsctp_channel_calls.specs.api.spec.endpoint.Outcome.{Outcome, still}
use Rattle.dcsctp_channel_calls.specs.api.spec.endpoint.SettingOutcomes.{setting_outcome}
use Rattle.dcsctp_channel_calls.specs.api.spec.endpoint.Turn.{Input, act_input, user_sets, user_sends, user_resets, user_takes}
use Rattle.dcsctp_channel_calls.specs.api.spec.endpoint.UserTurns.{UserTurns}
use Rattle.dcsctp_channel_calls.specs.api.spec.queues.Transfer.{Transfer}
use Rattle.dcsctp_channel_calls.specs.Opening.{ReadiesStream, priority_of}
use Rattle.dcsctp_channel_calls.specs.View.{LayerView, ChannelsView}
use Rattle.dcsctp_channel_laws.specs.Lives.{IsOrderly}
use Rattle.dcsctp_channel_runs.proofs.Deeds.{Deed, sends, asks, deeds_of_input, deeds_of_turns}
use Rattle.dcsctp_channel_runs.proofs.SentBy.{AreClosing, Sent, none_sent, an_ask}
use Rattle.dcsctp_channel_runs.specs.Acts.{OpenedChannel, SaidContent}
use Rattle.dcsctp_channel_runs.proofs.Moves.{Moves, moves_then, reads_then}
use Rattle.dcsctp_channel_runs.proofs.SocketMoves.{StepsSocket, socket_steps, socket_moves}
use Rattle.dcsctp_channel_runs.proofs.Notices.{Tells, tells_nothing}
use Rattle.dcsctp_channel_runs.proofs.QuietTurns.{AreQuiet, turns_quiet, advance_quiet}
use Rattle.dcsctp_channel_runs.proofs.Streams.{Keeping, same_keeps}
use Rattle.dcsctp_channel_runs.proofs.Said.{Wait, Rise, same_le}

-- ---- what turns send and read

sent_alone : (e : Endpoint) (sendings : List Sending) (turns : List Transition) → Turns e (user_sends sendings ∷ []) turns
    → (deeds_of_turns e turns ≡ map sends (accepted_as (λ sending. sending) e sendings)) × (read_of e turns ≡ [])
sent_alone e sendings [] taken = absurd taken
sent_alone e sendings (t ∷ []) taken = (
  ap (λ (i : Input). deeds_of_input e i ++ []) taken.0.is ∙ append-nil (map sends (accepted_as (λ sending. sending) e sendings)),
  ap (λ (i : Input). messages_read_of_input e i ++ []) taken.0.is,
)
sent_alone e sendings (t ∷ next ∷ turns) taken = absurd taken.1

reset_alone : (e : Endpoint) (ids : List ℕ) (turns : List Transition) → Turns e (user_resets ids ∷ []) turns → (deeds_of_turns e turns ≡ asks ids ∷ []) × (read_of e turns ≡ [])
reset_alone e ids [] taken = absurd taken
reset_alone e ids (t ∷ []) taken = (ap (λ (i : Input). deeds_of_input e i ++ []) taken.0.is, ap (λ (i : Input). messages_read_of_input e i ++ []) taken.0.is)
reset_alone e ids (t ∷ next ∷ turns) taken = absurd taken.1

-- what an answer of `send` accepts
abbrev pub accepted_if : Result (Unit {0}) SendError → Sending → List Deed
accepted_if (Ok done) one = sends one ∷ []
accepted_if (Err refusal) one = []

accepted_is : (answer : Result (Unit {0}) SendError) (refusal : Option MessageRefusal) (one : Sending) → refusal_of_answer answer ≡ refusal
    → map sends (accepted_unless_refused refusal one []) ≡ accepted_if answer one
accepted_is (Ok done) refusal one is = ap (λ (r : Option MessageRefusal). map sends (accepted_unless_refused r one [])) (sym is)
accepted_is (Err error) refusal one is = ap (λ (r : Option MessageRefusal). map sends (accepted_unless_refused r one [])) (sym is)

-- ---- a message is taken

still_after : (e : Endpoint) (o : Outcome) → o ≡ still e → o ≡ still o.after
still_after e o is = is ∙ ap (λ (x : Outcome). still x.after) (sym is)

quiet_where : (e : Endpoint) (transfer : Transfer) (messages : List MessageContent) (o : Outcome) → TakesFirstReady e transfer messages o → o ≡ still o.after
quiet_where e transfer [] o turn = still_after e o turn
quiet_where e transfer (message ∷ messages) o turn = still_after _ o turn

quiet_left : (e : Endpoint) (messages : List MessageContent) (o : Outcome) → TakeLeft e messages o → o ≡ still o.after
quiet_left e [] o turn = still_after e o turn
quiet_left e (message ∷ messages) o turn = still_after _ o turn

quiet_take : (e : Endpoint) (found : Option Transfer) (o : Outcome) → TakeTurn e found o → o ≡ still o.after
quiet_take e None o turn = quiet_left e e.left o turn
quiet_take e (Some transfer) o turn = quiet_where e transfer transfer.reassembly.incoming.ready o turn

no_events : (o : Outcome) → o ≡ still o.after → o.events ≡ []
no_events o is = ap (λ (x : Outcome). x.events) is

-- what this call reads
abbrev pub read_if : Option Message → List MessageContent
read_if None = []
read_if (Some message) = message_content message ∷ []

first_is : (ready : List MessageContent) (taken : Option Message) → IsFirstMessage ready taken → first_readable ready ≡ read_if taken
first_is ready None is = ap first_readable is
first_is ready (Some message) is = ap first_readable is.1

-- nothing is sent
pub sends_nothing : (deeds : List Deed) (old new : LayerView) → deeds ≡ [] → Keeping [] old new → IsOrderly old → Sent [] new old deeds [] []
sends_nothing deeds old new none keeping orderly = subst (λ (l : List Deed). Sent [] new old l [] []) (sym none) (none_sent old (keeping orderly))

module _ (keep : SocketsKeepOptions) (side : Side) (packets : List (List ℕ)) (all : List OpenedChannel) where
  -- a call of the socket's user here
  abbrev called : CallContent → List Transition → PerformedAct
  called call turns = record { act = step_act (call_step side call); turns = turns }

  made_by : {A : Type 0} (IsAnswer : A → Type 0) (call : CallContent) (old below : UserView) (answer : A) → FitsCall call
      → (made : MakesCall IsAnswer (UserTurns old.endpoint call) old answer below) → StepsSocket keep side packets all (called call made.turns) old below
  made_by IsAnswer call old below answer fits made =
      record {
        step = record { step = call_step side call; is = refl; here = refl; turns = made.are; fits = fits };
        endpoint = made.follows.endpoint;
        events = made.follows.events;
      }

  -- ---- calls that send and read nothing

  quiet_moves : (low : ℕ) (worked : PerformedAct) (old : ChannelsView) (below : UserView) → StepsSocket keep side packets all worked old.below below
      → AreQuiet old.below.endpoint worked.turns → Wait all low old.layer.waiting old.layer.named → Moves keep side packets all [] low [] old [] (record old { below = below })
  quiet_moves low worked old below made quiet waits =
      socket_moves keep side packets all low low worked [] [] [] old (record old { below = below }) made (same_keeps old.layer old.layer refl refl refl refl (λ was. was)) refl
      (sends_nothing (deeds_of_turns old.below.endpoint worked.turns) old.layer old.layer quiet.deeds (same_keeps old.layer old.layer refl refl refl refl (λ was. was))) (same_le low) quiet.read waits (tells_nothing old.layer.notices)

  pub connect_moves : (low : ℕ) (old : ChannelsView) (below : UserView) → Connects old.below (Ok tt) below → Wait all low old.layer.waiting old.layer.named
      → Moves keep side packets all [] low [] old [] (record old { below = below })
  connect_moves low old below made waits =
      quiet_moves low (called connect_call made.turns) old below (made_by NoAnswer connect_call old.below below tt tt made)
      (turns_quiet old.below.endpoint (act_input connect ∷ []) made.turns (tt, tt) made.are) waits

  pub close_moves : (low : ℕ) (old : ChannelsView) (below : UserView) → ClosesSocket old.below (Ok tt) below → Wait all low old.layer.waiting old.layer.named
      → Moves keep side packets all [] low [] old [] (record old { below = below })
  close_moves low old below made waits =
      quiet_moves low (called close_call made.turns) old below (made_by NoAnswer close_call old.below below tt tt made)
      (turns_quiet old.below.endpoint (act_input (abort_with CloseCalled) ∷ []) made.turns (tt, tt) made.are) waits

  pub shutdown_moves : (low : ℕ) (old : ChannelsView) (below : UserView) → ShutsDown old.below (Ok tt) below → Wait all low old.layer.waiting old.layer.named
      → Moves keep side packets all [] low [] old [] (record old { below = below })
  shutdown_moves low old below made waits =
      quiet_moves low (called shutdown_call made.turns) old below (made_by NoAnswer shutdown_call old.below below tt tt made)
      (turns_quiet old.below.endpoint (act_input shut_down ∷ []) made.turns (tt, tt) made.are) waits

  pub advance_moves : (low moment : ℕ) (old : ChannelsView) (below : UserView) → AdvancesClock old.below moment (Ok tt) below → Wait all low old.layer.waiting old.layer.named
      → Moves keep side packets all [] low [] old [] (record old { below = below })
  advance_moves low moment old below made waits =
      quiet_moves low (called (advance_call moment) made.turns) old below (made_by NoAnswer (advance_call moment) old.below below tt tt made)
      (advance_quiet old.below.endpoint moment made.turns made.are) waits

  pub reset_moves : (low number : ℕ) (old : ChannelsView) (answer : Result (Unit {0}) ResetStreamsError) (below : UserView) → number < 2 ^ 16 → ResetsOwn (number ∷ []) old.below (Ok answer) below
      → AreClosing (number ∷ []) old.layer → Wait all low old.layer.waiting old.layer.named → Moves keep side packets all [] low [] old [] (record old { below = below })
  reset_moves low number old answer below fits made closing waits =
      let alone = reset_alone old.below.endpoint (number ∷ []) made.turns made.are in
      let same : Keeping [] old.layer old.layer = same_keeps old.layer old.layer refl refl refl refl (λ was. was) in
      socket_moves keep side packets all low low (called (reset_call (number ∷ [])) made.turns) [] [] [] old (record old { below = below })
      (made_by (IsResetAnswer old.below.endpoint) (reset_call (number ∷ [])) old.below below answer (fits, tt) made) same refl
      (λ orderly. subst (λ (l : List Deed). Sent [] old.layer old.layer l [] []) (sym alone.0)
      (an_ask old.layer old.layer (number ∷ []) [] [] [] (same orderly) closing (none_sent old.layer (same orderly)))) (same_le low) alone.1 waits (tells_nothing old.layer.notices)

  set_turns : Setting → UserView → List Transition
  set_turns setting old = transition (user_sets setting) (setting_outcome old.endpoint setting) ∷ []

  set_is_called : (setting : Setting) (old : UserView) → SettingFits setting → StepsSocket keep side packets all (called (set_call setting) (set_turns setting old)) old (with_setting setting old)
  unfolding set_turns
  set_is_called setting old fits =
      record {
        step = record { step = call_step side (set_call setting); is = refl; here = refl; turns = (record { is = refl; comes = refl }, tt); fits = fits };
        endpoint = refl;
        events = sym (append-nil old.events);
      }

  set_quiet : (setting : Setting) (old : UserView) → AreQuiet old.endpoint (set_turns setting old)
  unfolding set_turns
  set_quiet setting old = record { deeds = refl; read = refl }

  pub set_moves : (low : ℕ) (setting : Setting) (old : ChannelsView) (below : UserView) → SettingFits setting → Sets setting old.below (Ok tt) below → Wait all low old.layer.waiting old.layer.named
      → Moves keep side packets all [] low [] old [] (record old { below = below })
  set_moves low setting old below fits sets waits =
      let worked : PerformedAct = called (set_call setting) (set_turns setting old.below) in
      quiet_moves low worked old below
      (subst (λ (u : UserView). StepsSocket keep side packets all worked old.below u) (sym sets.only) (set_is_called setting old.below fits)) (set_quiet setting old.below) waits

  pub readies_moves : (low number priority : ℕ) (old : ChannelsView) (prepared : UserView) → ReadiesStream number priority old.below prepared → Wait all low old.layer.waiting old.layer.named
      → Moves keep side packets all [] low [] old [] (record old { below = prepared })
  readies_moves low number priority old prepared readies waits =
      let first = set_moves low (stream_priority number (priority_of priority)) old readies.between readies.fits readies.priority_set waits in
      moves_then keep side packets all [] low old (record old { below = readies.between }) [] (record old { below = prepared }) first
      (set_moves first.steps.high (stream_low_threshold number 0) (record old { below = readies.between }) prepared readies.fits readies.threshold_set first.waits)

  -- ---- a message is sent, or refused

  -- the layer may change with it
  pub send_moves : (low high : ℕ) (message : MessageContent) (how : SendOptions) (opens : List OpenedChannel) (says : List SaidContent) (pairs : List (ℕ × ℕ)) (old new : ChannelsView)
      (answer : Result (Unit {0}) SendError) → FitsMessage message → Keeping pairs old.layer new.layer → SendsMessage message how old.below (Ok answer) new.below
      → (IsOrderly old.layer → Sent pairs new.layer old.layer (accepted_if answer (sending_of how message)) opens says) → Rise all low opens high → new.layer.packets ≡ old.layer.packets → Wait all high new.layer.waiting new.layer.named
      → Tells [] [] [] old.layer.notices new.layer.notices → Moves keep side packets all [] low says old [] new
  send_moves low high message how opens says pairs old new answer fits keeping made sent rises left waits tells =
      let e : Endpoint = old.below.endpoint in
      let alone = sent_alone e (sending_of how message ∷ []) made.turns made.are in
      let accepted : deeds_of_turns e made.turns ≡ accepted_if answer (sending_of how message) =
      alone.0 ∙ accepted_is answer (message_refusal e message.stream (length message.payload)) (sending_of how message) made.answers in
      socket_moves keep side packets all low high (called (send_call message how) made.turns) opens says pairs old new
      (made_by (IsSendAnswer e message) (send_call message how) old.below new.below answer fits made) keeping left
      (λ orderly. subst (λ (l : List Deed). Sent pairs new.layer old.layer l opens says) (sym accepted) (sent orderly)) rises alone.1 waits tells

  -- ---- a message is taken

  take_turns : Outcome → List Transition
  take_turns o = transition user_takes o ∷ []

  take_called : (old : UserView) (taken : Message) (below : UserView) → (takes : TakesNextMessage old (Some taken) below)
      → StepsSocket keep side packets all (called take_call (take_turns takes.outcome)) old below
  unfolding take_turns
  take_called old taken below takes =
      let quiet = quiet_take old.endpoint old.endpoint.queues.transfer takes.outcome takes.turn in
      let none : takes.outcome.events ++ [] ≡ [] = ap (λ (l : List (Event Emission)). l ++ []) (no_events takes.outcome quiet) in
      record {
        step = record { step = call_step side take_call; is = refl; here = refl; turns = (record { is = refl; comes = takes.turn }, tt); fits = tt };
        endpoint = ap (λ (u : UserView). u.endpoint) takes.is;
        events = ap (λ (u : UserView). u.events) takes.is
            ∙ sym (ap (λ (l : List (Event Emission)). old.events ++ map (user_event (ports_of old.endpoint.options)) l) none ∙ append-nil old.events);
      }

  take_sends : (e : Endpoint) (o : Outcome) → deeds_of_turns e (take_turns o) ≡ []
  unfolding take_turns
  take_sends e o = refl

  take_reads : (old : UserView) (taken : Message) (below : UserView) → (takes : TakesNextMessage old (Some taken) below) → read_of old.endpoint (take_turns takes.outcome) ≡ message_content taken ∷ []
  unfolding take_turns
  take_reads old taken below takes = append-nil (first_readable (ready_messages old.endpoint)) ∙ first_is (ready_messages old.endpoint) (Some taken) takes.first

  -- A message is taken, and then this is done with it.
  pub takes_then : (low : ℕ) (a b : ChannelsView) (taken : Message) (c : ChannelsView) → TakesNextMessage a.below (Some taken) b.below → Keeping [] a.layer b.layer → b.layer.packets ≡ a.layer.packets
      → b.layer.notices ≡ a.layer.notices → Moves keep side packets all (message_content taken ∷ []) low [] b [] c → Moves keep side packets all [] low [] a [] c
  takes_then low a b taken c takes keeping left same rest =
      let worked : PerformedAct = called take_call (take_turns takes.outcome) in
      reads_then keep side packets all low a b (message_content taken ∷ []) c
      (socket_steps keep side packets all low low worked [] [] [] a b (take_called a.below taken b.below takes) keeping left
      (sends_nothing (deeds_of_turns a.below.endpoint (take_turns takes.outcome)) a.layer b.layer (take_sends a.below.endpoint takes.outcome) keeping) (same_le low))
      (take_reads a.below taken b.below takes) same rest
