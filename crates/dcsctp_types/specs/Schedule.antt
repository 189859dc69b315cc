-- What is done to two sockets, by what it says: two acts with the same contents are one, wherever they lie in memory.
use Rattle.std.specs.Prelude.{ℕ, List, map}
use Rattle.std.specs.List.{AllByRecursion}
use Rattle.dcsctp_types.specs.declared.message.SendOptions.{SendOptions}
use Rattle.dcsctp_types.specs.declared.schedule.Side.{Side}
use Rattle.dcsctp_types.specs.declared.schedule.Call.{Call}
use Rattle.dcsctp_types.specs.declared.schedule.Call.TheVariants as calls
use Rattle.dcsctp_types.specs.declared.schedule.Step.{Step}
use Rattle.dcsctp_types.specs.declared.schedule.Step.TheVariants as steps
use Rattle.dcsctp_types.specs.declared.schedule.Outside.{Outside}
use Rattle.dcsctp_types.specs.declared.schedule.Outside.TheVariants as outsides
use Rattle.dcsctp_types.specs.declared.schedule.Act.{Act}
use Rattle.dcsctp_types.specs.declared.schedule.Act.TheVariants as acts
use Rattle.dcsctp_types.specs.Ids.{stream_numbers}
use Rattle.dcsctp_types.specs.Snapshot.{Snapshot, snapshot}
use Rattle.dcsctp_types.specs.queues.Messages.{MessageContent, message_content}
use Rattle.dcsctp_types.specs.Setting.{Setting, stream_priority, stream_low_threshold, longest_message}

-- a call of a socket's user, with what it hands over
pub data CallContent : Type 0 where
  connect_call : CallContent
  close_call : CallContent
  shutdown_call : CallContent
  -- the present moment
  advance_call : ℕ → CallContent
  set_call : Setting → CallContent
  -- a message that is to be sent, and how
  send_call : MessageContent → SendOptions → CallContent
  -- several of them, all in one way
  send_many_call : List MessageContent → SendOptions → CallContent
  -- The streams of these numbers are reset.
  reset_call : List ℕ → CallContent
  -- The message that became ready first is taken.
  take_call : CallContent
  -- The socket is handed over to another process.
  hand_over_call : CallContent

-- a step of a schedule
pub data StepContent : Type 0 where
  -- the user of this socket calls
  call_step : Side → CallContent → StepContent
  -- this socket is handed the other's packet of this number, counted from 1
  delivery_step : Side → ℕ → StepContent

-- what comes from outside
pub data OutsideContent : Type 0 where
  -- this socket is handed these bytes, which no socket needs to have emitted
  input_outside : Side → List ℕ → OutsideContent
  -- This socket is handed over, and restored from its own snapshot.
  handover_outside : Side → OutsideContent
  -- this socket is restored from this snapshot, which no socket needs to have given
  restore_outside : Side → Snapshot → OutsideContent

-- what was done
pub data ActContent : Type 0 where
  -- a step of a schedule
  step_act : StepContent → ActContent
  outside_act : OutsideContent → ActContent

abbrev pub call_content : Call → CallContent
call_content calls.Connect = connect_call
call_content calls.Close = close_call
call_content calls.Shutdown = shutdown_call
call_content (calls.AdvanceTime moment) = advance_call moment
call_content (calls.SetStreamPriority id priority) = set_call (stream_priority id.0 priority)
call_content (calls.SetBufferedAmountLowThreshold id bytes) = set_call (stream_low_threshold id.0 bytes)
call_content (calls.SetMaxMessageSize bytes) = set_call (longest_message bytes)
call_content (calls.Send message options) = send_call (message_content message) options
call_content (calls.SendMany messages options) = send_many_call (map message_content messages.items) options
call_content (calls.ResetStreams ids) = reset_call (stream_numbers ids.items)
call_content calls.GetNextMessage = take_call
call_content calls.GetHandoverStateAndClose = hand_over_call

abbrev pub step_content : Step → StepContent
step_content (steps.Call side call) = call_step side (call_content call)
step_content (steps.Deliver side number) = delivery_step side number

abbrev pub outside_content : Outside → OutsideContent
outside_content (outsides.Input side bytes) = input_outside side bytes.items
outside_content (outsides.Handover side) = handover_outside side
outside_content (outsides.Restore side state) = restore_outside side (snapshot state)

abbrev pub act_content : Act → ActContent
act_content (acts.Step step) = step_act (step_content step)
act_content (acts.Outside outside) = outside_act (outside_content outside)

-- ---- honest acts

-- It is a step, so each packet that it hands to a socket was emitted by the other, byte for byte.
abbrev pub IsHonestAct : ActContent → Type 0
IsHonestAct (step_act step) = Unit {0}
IsHonestAct (outside_act outside) = ⊥

-- Each of these acts is honest: none comes from outside.
abbrev pub AreHonest : List ActContent → Type 0
AreHonest acts = AllByRecursion IsHonestAct acts
