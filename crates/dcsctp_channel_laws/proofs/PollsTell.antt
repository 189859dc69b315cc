-- What a poll tells of each channel.
use Rattle.std.proofs.Common.{◌≡◌, ◌⊎◌, ℕ, ◌+◌, Bool, true, false, not, ◌&&◌, ◌||◌, Option, Some, None, is_some, nat_lt, Result, Ok, Err, List, [], ◌∷◌, ◌++◌, map, length, refl, sym, ap, subst, ◌∙◌, inl, inr, arith, if◌then◌else◌}
use Rattle.std.proofs.lemmas.Bool.{eq-eqb, ne_eqb, cases_eq}
use Rattle.std.proofs.lemmas.List.{append-nil}
use Rattle.std.specs.Map.{keys_of}
use Rattle.dcsctp_channel_calls.specs.api.Calls.{UserView}
use Rattle.dcsctp_channel_calls.specs.api.declared.errors.SendError.{SendError}
use Rattle.dcsctp_channel_calls.specs.api.declared.errors.ResetStreamsError.{ResetStreamsError}
use Rattle.dcsctp_channel_calls.specs.api.spec.endpoint.Event.{Event, sent, connected, closed, connection_restarted, aborted, error, buffered_amount_low, total_buffered_amount_low, streams_reset_failed, streams_reset_performed, incoming_stream_reset, lifecycle_message_fully_sent, lifecycle_message_maybe_expired, lifecycle_message_expired, lifecycle_message_delivered, lifecycle_end}
use Rattle.dcsctp_channel_calls.specs.api.types.queues.Messages.{MessageContent, message_content}
use Rattle.dcsctp_channel_calls.specs.messages.channel_spec.declared.types.ChannelEnd.{ChannelEnd}
use Rattle.dcsctp_channel_calls.specs.messages.channel_spec.declared.types.ChannelEnd.TheVariants.{Closed}
use Rattle.dcsctp_channel_calls.specs.messages.channel_spec.declared.types.OwnReset.{OwnReset}
use Rattle.dcsctp_channel_calls.specs.messages.channel_spec.declared.types.OwnReset.TheVariants.{NotAsked, Asked, Performed, GivenUp}
use Rattle.dcsctp_channel_calls.specs.messages.channel_spec.declared.types.StreamUse.{StreamUse}
use Rattle.dcsctp_channel_calls.specs.messages.channel_spec.Contents.{ChannelContent, content_from}
use Rattle.dcsctp_channel_calls.specs.messages.channel_spec.Slots.{Opening, StreamSlot, free, used, name_of_slot, Report, incoming, ended, SlotInput, SlotOutcome, opens, agrees, hears_open, hears_ack, hears_message, hears_bad_message, may_acknowledge, is_closed, all_is_sent, cannot_reset, was_performed, was_refused, peer_resets, association_ends}
use Rattle.dcsctp_channel_calls.specs.messages.channel_spec.Table.{outcome_of, reports_of, end_if_heard, reopens_if_reset}
use Rattle.dcsctp_channel_calls.specs.messages.channel_spec.Laws.{EachSpeaksInTurn}
use Rattle.dcsctp_channel_calls.specs.messages.declared.control.ControlError.{ControlError}
use Rattle.dcsctp_channel_calls.specs.messages.Format.{Control, open_message, acknowledgement, control_of_bytes}
use Rattle.dcsctp_channel_calls.specs.declared.channel.HeldStream.{HeldStream}
use Rattle.dcsctp_channel_calls.specs.View.{ChannelNotice, association_made, of_channel, amount_low, association_over, LayerView, ChannelsView, entry_numbered, held_stream_numbered, slot_of, slot_numbered, was_asked, row_taken, taken_as, view_with_events}
use Rattle.dcsctp_channel_calls.specs.Calls.{on_layer}
use Rattle.dcsctp_channel_calls.specs.Queries.{is_waiting}
use Rattle.dcsctp_channel_calls.specs.Sending.{row_taken_if_held}
use Rattle.dcsctp_channel_calls.specs.Opening.{BeginsWaiting}
use Rattle.dcsctp_channel_calls.specs.Events.{rows_taken, reset_numbers, lost_waiting, streams_lost, waiting_lost, with_notices, channels_ended, low_notice, low_notices, connection_made, streams_reset, amount_reported, HandlesEvent, HandlesEventUnlessEnded}
use Rattle.dcsctp_channel_calls.specs.Arrivals.{has_place, is_peers, accepts_open, input_of_control, input_of_content, input_of, AcceptsOpen, delivery_of_input, message_taken, TakesRow, ack_is_due, view_after_ack, SendsAck, AcksIfDue, AcksHeld, is_handled, HandlesOrDropsMessage}
use Rattle.dcsctp_channel_calls.specs.Late.{reset_input, DoesLate, a_reset, an_ack, waiting_begin}
use Rattle.dcsctp_channel_calls.specs.Polls.{one_more_taken, HandlesNext, an_event, a_message, put_off, TakesNextNotice, PollsInTurn, takes, goes_on, idle}
use Rattle.dcsctp_channel_laws.specs.Names.{WasPacket}
use Rattle.dcsctp_channel_laws.specs.Lives.{IsInOrder, IsOrderly, lasting, gone, life_by_place, life_of_channel, of_life, news_of_channel, news_if_same, Hears, ReportsLives, PollReportsLives}
use Rattle.dcsctp_channel_laws.proofs.Rows.{accepts}
use Rattle.dcsctp_channel_laws.proofs.Places.{row_leaves, row_apart}
use Rattle.dcsctp_channel_laws.proofs.Telling.{tells_then, tells_nothing, hears_as, not_told, lasts_on, lives_placed, lives_waiting, lives_nowhere, accepted_lives, accepted_next}
use Rattle.dcsctp_channel_laws.proofs.Waits.{lost_other, lost_own}
use Rattle.dcsctp_channel_laws.proofs.BeginsTell.{Keeps, same_tells, keeps_then, tells_to, only_tells, gathers_tell, GivesNone, row_tells, row_where_tells, waiting_tells}

-- ---- events

rows_tell : EachSpeaksInTurn → (numbers : List ℕ) (input : SlotInput) (layer : LayerView) → accepts input ≡ false → GivesNone input → Keeps layer (rows_taken numbers input layer)
rows_tell law [] input layer not gives a = same_tells layer a
rows_tell law (number ∷ numbers) input layer not gives a =
    tells_then (life_of_channel layer) layer (row_taken_if_held (held_stream_numbered layer number) number input layer) [] _ (row_where_tells law (held_stream_numbered layer number) number input layer not gives a)
    (rows_tell law numbers input (row_taken_if_held (held_stream_numbered layer number) number input layer) not gives)

-- something that is said of no channel
quiet_tells : (notice : ChannelNotice) (layer : LayerView) → ((n : ℕ) → news_of_channel n notice ≡ None) → Keeps layer (with_notices (notice ∷ []) layer)
quiet_tells notice layer quiet a = record { more = notice ∷ []; behind = refl; lives = λ n. not_told n notice [] (life_of_channel layer n) (life_of_channel layer n) (quiet n) refl; apart = a }

pub waiting_lost_tells : (layer : LayerView) → Keeps layer (waiting_lost layer)
waiting_lost_tells layer a =
    record { more = lost_waiting layer.waiting; behind = refl; lives = λ n. lives n (is_waiting n layer.waiting) refl; apart = apart }
  where
    lives : (n : ℕ) (b : Bool) → is_waiting n layer.waiting ≡ b → Hears n (life_of_channel layer n) (lost_waiting layer.waiting) (life_by_place (is_some (entry_numbered n layer.names)) (nat_lt n layer.named))
    lives n true waits =
        hears_as n lasting (life_of_channel layer n) (lost_waiting layer.waiting) gone _ (lives_waiting layer.names layer.waiting n (nat_lt n layer.named) waits)
        (lives_nowhere layer.names [] n layer.named refl (a.no_stream n waits) (a.waits_named n waits)) (lost_own layer.waiting n a.wait_apart waits)
    lives n false is =
        hears_as n (life_of_channel layer n) (life_of_channel layer n) (lost_waiting layer.waiting) (life_of_channel layer n) _ refl
        (ap (λ (b : Bool). life_by_place (b || is_some (entry_numbered n layer.names)) (nat_lt n layer.named)) (sym is)) (lost_other layer.waiting n (life_of_channel layer n) is)

    apart : IsInOrder layer.streams layer.names [] layer.named
    apart =
        record {
          streams_rise = a.streams_rise;
          names_rise = a.names_rise;
          leads = a.leads;
          led_to = a.led_to;
          wait_apart = tt;
          no_stream = λ n waits. absurd cc;
          was_named = a.was_named;
          waits_named = λ n waits. absurd cc;
        }

streams_lost_tell : EachSpeaksInTurn → (layer : LayerView) → Keeps layer (streams_lost layer)
streams_lost_tell law layer a =
    tells_then (life_of_channel layer) layer (record layer { over = true; connected = false }) [] (streams_lost layer) (tells_nothing layer (record layer { over = true; connected = false }) refl (λ n. refl) a)
    (rows_tell law (keys_of layer.streams) association_ends (record layer { over = true; connected = false }) refl (λ slot. refl))

ended_tells : EachSpeaksInTurn → (layer : LayerView) → Keeps layer (channels_ended layer)
ended_tells law layer a =
    tells_then (life_of_channel layer) layer (streams_lost layer) [] (channels_ended layer) (streams_lost_tell law layer a)
    (keeps_then (streams_lost layer) (waiting_lost (streams_lost layer)) (channels_ended layer) (waiting_lost_tells (streams_lost layer))
    (quiet_tells association_over (waiting_lost (streams_lost layer)) (λ n. refl)))

-- a low amount is of the channel of the stream
low_tells : (layer : LayerView) (name : Option ℕ) (has_sent : Bool) (number : ℕ) → name_of_slot (slot_numbered layer number) ≡ name → Keeps layer (with_notices (low_notice name has_sent) layer)
low_tells layer None has_sent number is a = tells_nothing layer (with_notices [] layer) (append-nil layer.notices) (λ n. refl) a
low_tells layer (Some name) false number is a = tells_nothing layer (with_notices [] layer) (append-nil layer.notices) (λ n. refl) a
low_tells layer (Some name) true number is a = record { more = amount_low name ∷ []; behind = refl; lives = λ n. lives n (cases_eq name n); apart = a }
  where
    own : life_of_channel layer name ≡ lasting
    own = lives_placed layer.names layer.waiting name number (nat_lt name layer.named) (a.leads number name is)

    itself : Hears name (life_of_channel layer name) (amount_low name ∷ []) (life_of_channel layer name)
    itself =
        hears_as name lasting (life_of_channel layer name) (amount_low name ∷ []) lasting (life_of_channel layer name) own own
        (lasts_on name (amount_low name) [] lasting (ap (λ (b : Bool). news_if_same b of_life) (eq-eqb name name refl)) refl)

    lives : (n : ℕ) → (name ≡ n) ⊎ (name ≡ n → ⊥) → Hears n (life_of_channel layer n) (amount_low name ∷ []) (life_of_channel layer n)
    lives n (inl same) = subst (λ (m : ℕ). Hears m (life_of_channel layer m) (amount_low name ∷ []) (life_of_channel layer m)) same itself
    lives n (inr apart) = not_told n (amount_low name) [] (life_of_channel layer n) (life_of_channel layer n) (ap (λ (b : Bool). news_if_same b of_life) (ne_eqb name n apart)) refl

lows_tell : (layer : LayerView) (number : ℕ) (held : Option HeldStream) → held_stream_numbered layer number ≡ held → Keeps layer (with_notices (low_notices held) layer)
lows_tell layer number None is a = tells_nothing layer (with_notices [] layer) (append-nil layer.notices) (λ n. refl) a
lows_tell layer number (Some held) is a = low_tells layer held.stream.name (nat_lt 0 held.traffic.messages_sent) number (ap (λ (h : Option HeldStream). name_of_slot (slot_of h)) is) a

-- what this makes of the layer, and then channels begin
then_begins : (becomes : LayerView → LayerView) (old new : ChannelsView) → Keeps old.layer (becomes old.layer) → BeginsWaiting (on_layer becomes old) new → Keeps old.layer new.layer
then_begins becomes old new keeps begun = keeps_then old.layer (becomes old.layer) new.layer keeps (waiting_tells (on_layer becomes old) new begun)

stays : (old new : ChannelsView) → new ≡ old → Keeps old.layer new.layer
stays old new is a = tells_to (life_of_channel old.layer) old.layer old new is (same_tells old.layer a)

becomes_so : (becomes : LayerView → LayerView) (old new : ChannelsView) → Keeps old.layer (becomes old.layer) → new ≡ on_layer becomes old → Keeps old.layer new.layer
becomes_so becomes old new keeps is a = tells_to (life_of_channel old.layer) old.layer (on_layer becomes old) new is (keeps a)

made_tells : (layer : LayerView) → Keeps layer (connection_made layer)
made_tells layer =
    keeps_then layer (record layer { connected = true }) (connection_made layer) (λ a. tells_nothing layer (record layer { connected = true }) refl (λ n. refl) a)
    (quiet_tells association_made (record layer { connected = true }) (λ n. refl))

event_tells : EachSpeaksInTurn → (event : Event (List ℕ)) (old new : ChannelsView) → HandlesEvent event old new → Keeps old.layer new.layer
event_tells law connected old new made = then_begins connection_made old new (made_tells old.layer) made
event_tells law closed old new is = becomes_so channels_ended old new (ended_tells law old.layer) is
event_tells law (aborted kind text) old new is = becomes_so channels_ended old new (ended_tells law old.layer) is
event_tells law connection_restarted old new made = keeps_then old.layer (channels_ended old.layer) new.layer (ended_tells law old.layer) (only_tells _ (on_layer channels_ended old) new made)
event_tells law (incoming_stream_reset numbers) old new made =
    then_begins (streams_reset numbers) old new (rows_tell law (reset_numbers numbers old.layer) peer_resets old.layer refl (λ slot. refl)) made
event_tells law (streams_reset_performed numbers) old new made = then_begins (rows_taken numbers was_performed) old new (rows_tell law numbers was_performed old.layer refl (λ slot. refl)) made
event_tells law (streams_reset_failed numbers) old new is = becomes_so (rows_taken numbers was_refused) old new (rows_tell law numbers was_refused old.layer refl (λ slot. refl)) is
event_tells law (buffered_amount_low number) old new is = becomes_so (amount_reported number) old new (lows_tell old.layer number (held_stream_numbered old.layer number) refl) is
event_tells law (sent packet) old new is = stays old new is
event_tells law (error kind text) old new is = stays old new is
event_tells law total_buffered_amount_low old new is = stays old new is
event_tells law (lifecycle_message_fully_sent id) old new is = stays old new is
event_tells law (lifecycle_message_maybe_expired id) old new is = stays old new is
event_tells law (lifecycle_message_expired id) old new is = stays old new is
event_tells law (lifecycle_message_delivered id) old new is = stays old new is
event_tells law (lifecycle_end id) old new is = stays old new is

events_tell : EachSpeaksInTurn → (over : Bool) (event : Event (List ℕ)) (old new : ChannelsView) → HandlesEventUnlessEnded over event old new → Keeps old.layer new.layer
events_tell law true event old new is = stays old new is
events_tell law false event old new made = event_tells law event old new made

-- ---- an OPEN that is accepted

-- the layer after it
abbrev accepted_layer : ℕ → Opening → StreamSlot → LayerView → LayerView
accepted_layer number opening slot layer =
    record (taken_as number opening.delivery (hears_open true layer.named opening) (outcome_of (hears_open true layer.named opening) slot) layer) { named = layer.named + 1 }

accepted_as : (number : ℕ) (opening : Opening) (outcome : SlotOutcome) (layer : LayerView) (had : Option ℕ) (why : ChannelEnd) → IsOrderly layer → name_of_slot (slot_numbered layer number) ≡ had → name_of_slot outcome.after ≡ Some layer.named
    → outcome.reports ≡ reports_of had (λ m. ended m why) ++ incoming layer.named opening ∷ []
    → ReportsLives (life_of_channel layer) layer [] (record (taken_as number opening.delivery (hears_open true layer.named opening) outcome layer) { named = layer.named + 1 })
accepted_as number opening outcome layer had why a is has reports =
    let new = taken_as number opening.delivery (hears_open true layer.named opening) outcome layer in
    let row = row_leaves number opening.delivery (hears_open true layer.named opening) outcome layer a in
    record {
      more = map of_channel (reports_of had (λ m. ended m why) ++ incoming layer.named opening ∷ []);
      behind = ap (λ (rs : List Report). layer.notices ++ map of_channel rs) reports;
      lives = accepted_lives layer a number outcome.after new.streams new.names row has opening why had is;
      apart = row_apart number outcome.after layer new.streams new.names (layer.named + 1) a (omega arith) row (accepted_next layer a number outcome.after new.streams new.names row has opening why);
    }

reopened_as : (peer_reset : Bool) (own : OwnReset) (number : ℕ) (opening : Opening) (stream : StreamUse) (layer : LayerView) → IsOrderly layer → (peer_reset && was_asked own) ≡ true → name_of_slot (slot_numbered layer number) ≡ stream.name
    → ReportsLives (life_of_channel layer) layer [] (record (taken_as number opening.delivery (hears_open true layer.named opening) (reopens_if_reset peer_reset own true layer.named opening stream) layer) { named = layer.named + 1 })
reopened_as true Asked number opening stream layer a may is =
    accepted_as number opening (reopens_if_reset true Asked true layer.named opening stream) layer stream.name (end_if_heard stream.heard) a is refl refl
reopened_as true NotAsked number opening stream layer a may is = absurd cc
reopened_as true Performed number opening stream layer a may is = absurd cc
reopened_as true GivenUp number opening stream layer a may is = absurd cc
reopened_as false own number opening stream layer a may is = absurd cc

slot_accepts : (number : ℕ) (opening : Opening) (slot : StreamSlot) (layer : LayerView) → IsOrderly layer → has_place slot layer ≡ true → slot_numbered layer number ≡ slot → ReportsLives (life_of_channel layer) layer [] (accepted_layer number opening slot layer)
slot_accepts number opening free layer a place is = accepted_as number opening (outcome_of (hears_open true layer.named opening) free) layer None Closed a (ap name_of_slot is) refl refl
slot_accepts number opening (used stream) layer a place is = reopened_as stream.peer_reset stream.own number opening stream layer a place (ap name_of_slot is)

accepted_tells : (number : ℕ) (opening : Opening) (old new : ChannelsView) → has_place (slot_numbered old.layer number) old.layer ≡ true → AcceptsOpen number opening old new → Keeps old.layer new.layer
accepted_tells number opening old new place accepts a =
    tells_to (life_of_channel old.layer) old.layer _ new accepts.is (slot_accepts number opening (slot_numbered old.layer number) old.layer a place refl)

-- ---- what a message is to its stream

-- an OPEN is accepted only where it has a place; and only this end's user gives a stream
abbrev CanCome : LayerView → ℕ → SlotInput → Type 0
CanCome layer number (hears_open true name opening) = has_place (slot_numbered layer number) layer ≡ true
CanCome layer number (opens name opening) = ⊥
CanCome layer number (agrees name) = ⊥
CanCome layer number input = Unit {0}

first_holds : (x y z : Bool) → (x && y && z) ≡ true → x ≡ true
first_holds true y z all = refl
first_holds false y z all = absurd cc

open_comes : (layer : LayerView) (number : ℕ) (opening : Opening) (accepted : Bool) → accepts_open layer number opening ≡ accepted → CanCome layer number (hears_open accepted layer.named opening)
open_comes layer number opening true is = first_holds (has_place (slot_numbered layer number) layer) (not (nat_lt layer.limits.text (length opening.label + length opening.protocol))) (is_peers layer.role number) is
open_comes layer number opening false is = tt

control_comes : (layer : LayerView) (number : ℕ) (read : Result Control ControlError) → CanCome layer number (input_of_control layer number read)
control_comes layer number (Ok acknowledgement) = tt
control_comes layer number (Ok (open_message opening)) = open_comes layer number opening (accepts_open layer number opening) refl
control_comes layer number (Err fault) = tt

content_comes : (layer : LayerView) (number : ℕ) (is_long : Bool) (content : Option ChannelContent) → CanCome layer number (input_of_content is_long content)
content_comes layer number true None = tt
content_comes layer number true (Some content) = tt
content_comes layer number false None = tt
content_comes layer number false (Some content) = tt

either_comes : (layer : LayerView) (number : ℕ) (b : Bool) (x y : SlotInput) → CanCome layer number x → CanCome layer number y → CanCome layer number (if b then x else y)
either_comes layer number true x y one other = one
either_comes layer number false x y one other = other

input_comes : (layer : LayerView) (m : MessageContent) → CanCome layer m.stream (input_of layer m)
input_comes layer m =
    either_comes layer m.stream _ _ _ (control_comes layer m.stream (control_of_bytes m.payload))
    (content_comes layer m.stream (nat_lt layer.limits.message (length m.payload)) (content_from m.ppid m.payload))

-- a row that accepts no OPEN
plain_tells : EachSpeaksInTurn → (number : ℕ) (input : SlotInput) (old new : ChannelsView) → accepts input ≡ false → GivesNone input → new ≡ on_layer (message_taken number input) old → Keeps old.layer new.layer
plain_tells law number input old new not gives is = becomes_so (message_taken number input) old new (row_tells law number (delivery_of_input input) input old.layer not gives) is

takes_tell : EachSpeaksInTurn → (number : ℕ) (input : SlotInput) (old new : ChannelsView) → CanCome old.layer number input → TakesRow number input old new → Keeps old.layer new.layer
takes_tell law number (hears_open true name opening) old new place made = accepted_tells number opening old new place made
takes_tell law number (hears_open false name opening) old new comes is = plain_tells law number (hears_open false name opening) old new refl (λ slot. refl) is
takes_tell law number (opens name opening) old new comes is = absurd comes
takes_tell law number (agrees name) old new comes is = absurd comes
takes_tell law number hears_ack old new comes is = plain_tells law number hears_ack old new refl (λ slot. refl) is
takes_tell law number (hears_message content) old new comes is = plain_tells law number (hears_message content) old new refl (λ slot. refl) is
takes_tell law number hears_bad_message old new comes is = plain_tells law number hears_bad_message old new refl (λ slot. refl) is
takes_tell law number may_acknowledge old new comes is = plain_tells law number may_acknowledge old new refl (λ slot. refl) is
takes_tell law number is_closed old new comes is = plain_tells law number is_closed old new refl (λ slot. refl) is
takes_tell law number all_is_sent old new comes is = plain_tells law number all_is_sent old new refl (λ slot. refl) is
takes_tell law number cannot_reset old new comes is = plain_tells law number cannot_reset old new refl (λ slot. refl) is
takes_tell law number was_performed old new comes is = plain_tells law number was_performed old new refl (λ slot. refl) is
takes_tell law number was_refused old new comes is = plain_tells law number was_refused old new refl (λ slot. refl) is
takes_tell law number peer_resets old new comes is = plain_tells law number peer_resets old new refl (λ slot. refl) is
takes_tell law number association_ends old new comes is = plain_tells law number association_ends old new refl (λ slot. refl) is

-- ---- ACKs

acked_tells : EachSpeaksInTurn → (answer : Result (Unit {0}) SendError) (number : ℕ) (held : HeldStream) (below : UserView) (layer : LayerView) → Keeps layer (view_after_ack answer number held below layer).layer
acked_tells law (Ok done) number held below layer a = row_tells law number held.delivery may_acknowledge layer refl (λ slot. refl) a
acked_tells law (Err refusal) number held below layer a = tells_nothing layer (view_after_ack (Err refusal) number held below layer).layer refl (λ n. refl) a

ack_tells : EachSpeaksInTurn → (number : ℕ) (held : HeldStream) (old new : ChannelsView) → SendsAck number held old new → Keeps old.layer new.layer
ack_tells law number held old new acks a = tells_to (life_of_channel old.layer) old.layer _ new acks.is (acked_tells law acks.answer number held acks.below old.layer a)

ack_where_tells : EachSpeaksInTurn → (due : Bool) (number : ℕ) (held : HeldStream) (old new : ChannelsView) → AcksIfDue due number held old new → Keeps old.layer new.layer
ack_where_tells law true number held old new acks = ack_tells law number held old new acks
ack_where_tells law false number held old new is = stays old new is

acks_tell : EachSpeaksInTurn → (found : Option HeldStream) (number : ℕ) (old new : ChannelsView) → AcksHeld found number old new → Keeps old.layer new.layer
acks_tell law None number old new is = stays old new is
acks_tell law (Some held) number old new acks = ack_where_tells law (ack_is_due old held) number held old new acks

-- ---- one thing

message_tells : EachSpeaksInTurn → (handled : Bool) (m : MessageContent) (old new : ChannelsView) → HandlesOrDropsMessage handled m old new → Keeps old.layer new.layer
message_tells law false m old new is = stays old new is
message_tells law true m old new made =
    keeps_then old.layer made.0.layer new.layer (takes_tell law m.stream (input_of old.layer m) old made.0 (input_comes old.layer m) made.1) (acks_tell law (held_stream_numbered made.0.layer m.stream) m.stream made.0 new made.2)

reset_tells : EachSpeaksInTurn → (answer : Result (Unit {0}) ResetStreamsError) (number : ℕ) (held : HeldStream) (layer : LayerView) → Keeps layer (row_taken number held.delivery (reset_input answer) layer)
reset_tells law (Ok done) number held layer = row_tells law number held.delivery all_is_sent layer refl (λ slot. refl)
reset_tells law (Err fault) number held layer = row_tells law number held.delivery cannot_reset layer refl (λ slot. refl)

late_tells : EachSpeaksInTurn → (old new : ChannelsView) → DoesLate old new → Keeps old.layer new.layer
late_tells law old new (a_reset number held at due resets) a = tells_to (life_of_channel old.layer) old.layer _ new resets.is (reset_tells law resets.answer number held old.layer a)
late_tells law old new (an_ack number held none at due acks) a = ack_tells law number held old new acks a
late_tells law old new (waiting_begin no_reset no_ack may begun) a = waiting_tells old new begun a

next_tells : EachSpeaksInTurn → (old new : ChannelsView) → HandlesNext old new → Keeps old.layer new.layer
next_tells law old new (an_event first rest due told made) =
    keeps_then old.layer (record old.layer { told = rest }) new.layer (λ a. tells_nothing old.layer (record old.layer { told = rest }) refl (λ n. refl) a)
    (events_tell law old.layer.over first.event (on_layer (λ layer. record layer { told = rest }) old) new made)
next_tells law old new (a_message due ready) =
    keeps_then old.layer (one_more_taken ready.below old.layer).layer new.layer (λ a. tells_nothing old.layer (one_more_taken ready.below old.layer).layer refl (λ n. refl) a)
    (message_tells law (is_handled (one_more_taken ready.below old.layer) (message_content ready.taken).stream) (message_content ready.taken) (one_more_taken ready.below old.layer) new ready.handles)
next_tells law old new (put_off quiet lasts late) = late_tells law old new late

-- ---- a poll

from_queue : (packets : List (List ℕ)) (old : LayerView) (notice : ChannelNotice) (new : LayerView) → TakesNextNotice packets old notice new → IsOrderly old → PollReportsLives (Some notice) old new
from_queue (packet ∷ rest) old notice new (out, is) a =
    record {
      taken = [];
      was_taken = inr (refl, subst WasPacket (sym out) tt);
      tells = subst (λ (l : LayerView). ReportsLives (life_of_channel old) old [] l) (sym is) (tells_nothing old (record old { packets = rest }) refl (λ n. refl) a);
    }
from_queue [] old notice new taken a =
    record {
      taken = notice ∷ [];
      was_taken = inl refl;
      tells =
          subst (λ (l : LayerView). ReportsLives (life_of_channel old) old (notice ∷ []) l) (sym taken.2)
          (record { more = []; behind = sym taken.1 ∙ sym (append-nil old.notices); lives = λ n. refl; apart = a });
    }

polls_then : (result : Option ChannelNotice) (a b c : LayerView) → ReportsLives (life_of_channel a) a [] b → (IsOrderly b → PollReportsLives result b c) → PollReportsLives result a c
polls_then result a b c first rest =
    let polls = rest first.apart in
    record { taken = polls.taken; was_taken = polls.was_taken; tells = tells_then (life_of_channel a) a b polls.taken c first (λ apart. polls.tells) }

pub polls_tell : EachSpeaksInTurn → (result : Option ChannelNotice) (new old : ChannelsView) → PollsInTurn result new old → IsOrderly old.layer → PollReportsLives result old.layer new.layer
polls_tell law result new _ (takes old notice is taken below) a =
    subst (λ (r : Option ChannelNotice). PollReportsLives r old.layer new.layer) (sym is)
    (polls_then (Some notice) old.layer (view_with_events old).layer new.layer (gathers_tell old a) (from_queue (view_with_events old).layer.packets (view_with_events old).layer notice new.layer taken))
polls_tell law result new _ (goes_on old between nothing next polls) a =
    polls_then result old.layer between.layer new.layer (keeps_then old.layer (view_with_events old).layer between.layer (gathers_tell old) (next_tells law (view_with_events old) between next) a) (polls_tell law result new between polls)
polls_tell law result new _ (idle old is nothing none same) a =
    subst (λ (r : Option ChannelNotice). PollReportsLives r old.layer new.layer) (sym is)
    (record { taken = []; was_taken = refl; tells = tells_to (life_of_channel old.layer) old.layer (view_with_events old) new same (gathers_tell old a) })
