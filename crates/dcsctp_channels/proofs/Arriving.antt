-- What the peer's messages make of the layer: the rows of the table.
use Rattle.std.proofs.Common.{◌≡◌, ◌&&◌, ℕ, ◌+◌, Bool, true, false, Option, Some, None, Result, Ok, Err, List, [], ◌∷◌, ◌++◌, map, refl, sym, ap, subst, ◌∙◌, append_assoc, IfOk}
use Rattle.std.proofs.lemmas.Bool.{true≢false}
use Rattle.std.proofs.lemmas.List.{append-nil}
use Rattle.dcsctp_channel_calls.specs.api.Calls.{UserView}
use Rattle.dcsctp_channel_calls.specs.api.Messages.{TakesNextMessage}
use Rattle.dcsctp_channel_calls.specs.api.types.ByResult.{ByResult}
use Rattle.dcsctp_channel_calls.specs.api.types.declared.message.Message.{Message}
use Rattle.dcsctp_channel_calls.specs.api.types.queues.Messages.{message_content}
use Rattle.dcsctp_channel_calls.specs.messages.channel_spec.declared.types.Delivery.{Delivery}
use Rattle.dcsctp_channel_calls.specs.messages.channel_spec.declared.types.OwnReset.{OwnReset}
use Rattle.dcsctp_channel_calls.specs.messages.channel_spec.declared.types.OwnReset.TheVariants.{NotAsked, Asked, Performed, GivenUp}
use Rattle.dcsctp_channel_calls.specs.messages.channel_spec.Slots.{Opening, name_of_slot, Report, incoming, ended, SlotOutcome, SlotInput, hears_open}
use Rattle.dcsctp_channel_calls.specs.messages.channel_spec.Table.{on_peer_open, reports_of, end_if_heard}
use Rattle.dcsctp_channel_calls.specs.messages.declared.control.ControlError.{ControlError}
use Rattle.dcsctp_channel_calls.specs.messages.Format.{Control, open_message}
use Rattle.dcsctp_channel_calls.specs.declared.channel.HeldStream.{HeldStream}
use Rattle.dcsctp_channel_calls.specs.View.{ReportedEvent, ChannelNotice, of_channel, slot_of, LayerView, ChannelsView, held_stream_numbered, was_asked, held_after, streams_with, names_with}
use Rattle.dcsctp_channel_calls.specs.Calls.{KeepsTaking, PartGoes, on_layer}
use Rattle.dcsctp_channel_calls.specs.Opening.{ReadiesStream}
use Rattle.dcsctp_channel_calls.specs.Events.{with_notices, HandlesEventUnlessEnded}
use Rattle.dcsctp_channel_calls.specs.Arrivals.{has_place, is_peers, accepts_open, AcceptsOpen, input_of_control, message_taken, TakesRow, ack_is_due, SendsAck, AcksIfDue, AcksHeld, AcksNow, HandlesMessage}
use Rattle.dcsctp_channel_calls.specs.Polls.{HandlesReady}
use Rattle.dcsctp_channels.specs.Layer.{Leaves, accepted_before, layer_after_accepting, HandlesFirstReported}
use Rattle.dcsctp_channels.proofs.Keeping.{keeps_named, keeps_same, keeps_then, keeps_report}

-- ---- ACKs

acks_now : (number : ℕ) (held : HeldStream) (old new : ChannelsView) → held_stream_numbered old.layer number ≡ Some held → ack_is_due old held ≡ true → SendsAck number held old new → AcksNow number old new
acks_now number held old new at due acks =
    subst (λ (o : Option HeldStream). AcksHeld o number old new) (sym at) (subst (λ (b : Bool). AcksIfDue b number held old new) (sym due) acks)

pub acks_in : {A E : Type 0} (number : ℕ) (held : HeldStream) (old new : ChannelsView) (result : Result A E) → held_stream_numbered old.layer number ≡ Some held → ack_is_due old held ≡ true
    → PartGoes (λ done. SendsAck number held) old result new → PartGoes (λ done. AcksNow number) old result new
acks_in number held old new (Ok done) at due goes = (goes.0, acks_now number held old new at due goes.1)
acks_in number held old new (Err error) at due goes = (goes.0, tt)

-- ---- an OPEN that isn't accepted

refused_row : (number : ℕ) (opening : Opening) (read : Result Control ControlError) (old : ChannelsView) (after : LayerView) → read ≡ Ok (open_message opening)
    → accepts_open old.layer number opening ≡ false → after ≡ message_taken number (hears_open false old.layer.named opening) old.layer
    → TakesRow number (input_of_control old.layer number read) old (record old { layer = after })
refused_row number opening read old after is refused row =
    subst (λ (r : Result Control ControlError). TakesRow number (input_of_control old.layer number r) old (record old { layer = after })) (sym is)
    (subst (λ (b : Bool). TakesRow number (hears_open b old.layer.named opening) old (record old { layer = after })) (sym refused) (ap (λ (l : LayerView). record old { layer = l }) row))

pub refused_in : {A E : Type 0} (number : ℕ) (opening : Opening) (read : Result Control ControlError) (old : ChannelsView) (after : LayerView) (result : Result A E)
    → read ≡ Ok (open_message opening) → accepts_open old.layer number opening ≡ false
    → Leaves (message_taken number (hears_open false old.layer.named opening) old.layer) old.layer result after
    → PartGoes (λ done. TakesRow number (input_of_control old.layer number read)) old result (record old { layer = after })
refused_in number opening read old after (Ok done) is refused leaves = (leaves.0, refused_row number opening read old after is refused leaves.1)
refused_in number opening read old after (Err error) is refused leaves = (leaves.0, tt)

-- ---- an OPEN that is accepted

first_holds : (a b c : Bool) → (a && b && c) ≡ true → a ≡ true
first_holds true b c all = refl
first_holds false true true all = absurd (true≢false (sym all))
first_holds false true false all = absurd (true≢false (sym all))
first_holds false false true all = absurd (true≢false (sym all))
first_holds false false false all = absurd (true≢false (sym all))

both_hold : (a b : Bool) → (a && b) ≡ true → (a ≡ true) × (b ≡ true)
both_hold true true all = (refl, refl)
both_hold true false all = absurd (true≢false (sym all))
both_hold false true all = absurd (true≢false (sym all))
both_hold false false all = absurd (true≢false (sym all))

asked : (own : OwnReset) → was_asked own ≡ true → own ≡ Asked
asked Asked is = refl
asked NotAsked is = absurd (true≢false (sym is))
asked Performed is = absurd (true≢false (sym is))
asked GivenUp is = absurd (true≢false (sym is))

-- a report or none, and then another
then_report : (name : Option ℕ) (first : ℕ → Report) (second : Report) (notices : List ChannelNotice)
    → (notices ++ map of_channel (reports_of name first)) ++ of_channel second ∷ [] ≡ notices ++ map of_channel (reports_of name first ++ second ∷ [])
then_report None first second notices = rw (append-nil notices) refl
then_report (Some name) first second notices = append_assoc notices (of_channel (first name) ∷ []) (of_channel second ∷ [])

-- A row, where this is what the stream holds.
abbrev row_at : Option HeldStream → ℕ → Delivery → SlotInput → SlotOutcome → LayerView → LayerView
row_at held number delivery input outcome layer =
    record layer {
      streams = streams_with number held outcome.after (held_after layer.moment delivery input held) layer.streams;
      names = names_with number (name_of_slot (slot_of held)) (name_of_slot outcome.after) layer.names;
      notices = layer.notices ++ map of_channel outcome.reports;
    }

abbrev accepted_with : ℕ → Opening → Option HeldStream → LayerView → LayerView
accepted_with number opening held layer =
    record (row_at held number opening.delivery (hears_open true layer.named opening) (on_peer_open true layer.named opening (slot_of held)) layer) { named = layer.named + 1 }

-- the same, as the code has it
abbrev accepted_by : ℕ → Opening → Option HeldStream → LayerView → LayerView
accepted_by number opening held layer =
    with_notices (of_channel (incoming layer.named opening) ∷ []) (accepted_before held number layer.named opening.delivery (record layer { named = layer.named + 1 }))

accepted_row : (number : ℕ) (opening : Opening) (held : Option HeldStream) (layer : LayerView) → has_place (slot_of held) layer ≡ true → accepted_by number opening held layer ≡ accepted_with number opening held layer
accepted_row number opening None layer has = refl
accepted_row number opening (Some held) layer has =
    let both = both_hold held.stream.peer_reset (was_asked held.stream.own) has in
    let own = asked held.stream.own both.1 in
    rw (both.0, own) (ap (λ (notices : List ChannelNotice). record (accepted_by number opening (Some held) layer) { notices = notices })
    (then_report held.stream.name (λ n. ended n (end_if_heard held.stream.heard)) (incoming layer.named opening) layer.notices))

done_in : {A E : Type 0} (number id : ℕ) (opening : Opening) (old : ChannelsView) (prepared : UserView) (named taken after : LayerView) (result : Result A E)
    → accepts_open old.layer number opening ≡ true → ReadiesStream number opening.delivery.priority old.below prepared
    → id ≡ old.layer.named → named ≡ record old.layer { named = old.layer.named + 1 } → taken ≡ layer_after_accepting number id opening.delivery named
    → ByResult (λ done. after ≡ with_notices (of_channel (incoming id opening) ∷ []) taken) (after ≡ taken) result
    → IfOk result (λ answer. AcceptsOpen number opening old (record { below = prepared; layer = after }))
done_in number id opening old prepared named taken after (Ok done) accepted prepares is names takes reports =
    let has = first_holds (has_place (slot_of (held_stream_numbered old.layer number)) old.layer) _ (is_peers old.layer.role number) accepted in
    let taken_is : taken ≡ layer_after_accepting number old.layer.named opening.delivery (record old.layer { named = old.layer.named + 1 }) =
    takes ∙ ap (λ (n : ℕ). layer_after_accepting number n opening.delivery named) is ∙ ap (layer_after_accepting number old.layer.named opening.delivery) names in
    record {
      prepared = prepared;
      prepares = prepares;
      is =
          ap (λ (l : LayerView). record { below = prepared; layer = l })
          (reports ∙ ap (λ (n : ℕ). with_notices (of_channel (incoming n opening) ∷ []) taken) is ∙ ap (with_notices (of_channel (incoming old.layer.named opening) ∷ [])) taken_is
          ∙ accepted_row number opening (held_stream_numbered old.layer number) old.layer has);
    }
done_in number id opening old prepared named taken after (Err error) accepted prepares is names takes reports = tt

pub accepts_in : {A E : Type 0} (number id : ℕ) (opening : Opening) (old : ChannelsView) (prepared : UserView) (named taken after : LayerView) (result : Result A E)
    → accepts_open old.layer number opening ≡ true → ReadiesStream number opening.delivery.priority old.below prepared
    → id ≡ old.layer.named → named ≡ record old.layer { named = old.layer.named + 1 } → KeepsTaking named taken → taken ≡ layer_after_accepting number id opening.delivery named
    → ByResult (λ done. after ≡ with_notices (of_channel (incoming id opening) ∷ []) taken) (after ≡ taken) result
    → PartGoes (λ done. AcceptsOpen number opening) old result (record { below = prepared; layer = after })
accepts_in number id opening old prepared named taken after result accepted prepares is names keeps takes reports = (
  keeps_report old.layer taken after (of_channel (incoming id opening) ∷ []) result
      (subst (λ (l : LayerView). KeepsTaking l taken → KeepsTaking old.layer taken) (sym names)
      (λ (k : KeepsTaking (record old.layer { named = old.layer.named + 1 }) taken). keeps_then old.layer (record old.layer { named = old.layer.named + 1 }) taken (keeps_named old.layer) k) keeps) reports,
  done_in number id opening old prepared named taken after result accepted prepares is names takes reports,
)

-- ---- a message that is ready

ready_keeps : (old mid after : LayerView) → mid ≡ record old { taken = old.taken + 1 } → KeepsTaking mid after → KeepsTaking old after
ready_keeps old mid after is keeps =
    keeps_then old (record old { taken = old.taken + 1 }) after (keeps_same old (record old { taken = old.taken + 1 }) refl refl refl refl) (subst (λ (l : LayerView). KeepsTaking l after) is keeps)

pub ready_in : {A E : Type 0} (message : Message) (old : ChannelsView) (below : UserView) (mid : LayerView) (new : ChannelsView) (result : Result A E) → TakesNextMessage old.below (Some message) below
    → mid ≡ record old.layer { taken = old.layer.taken + 1 } → PartGoes (λ done. HandlesMessage (message_content message)) (record { below = below; layer = mid }) result new
    → PartGoes (λ done. HandlesReady) old result new
ready_in message old below mid new (Ok done) takes is goes = (
  ready_keeps old.layer mid new.layer is goes.0,
  record { taken = message; below = below; takes = takes; handles = subst (λ (l : LayerView). HandlesMessage (message_content message) (record { below = below; layer = l }) new) is goes.1 },
)
ready_in message old below mid new (Err error) takes is goes = (ready_keeps old.layer mid new.layer is goes.0, tt)

-- ---- an event that was told

pub told_handled : (old new : ChannelsView) (first : ReportedEvent) (rest : List ReportedEvent) → old.layer.told ≡ first ∷ rest → KeepsTaking (record old.layer { told = rest }) new.layer
    → HandlesEventUnlessEnded old.layer.over first.event (on_layer (λ layer. record layer { told = rest }) old) new → KeepsTaking old.layer new.layer × HandlesFirstReported true old new
told_handled old new first rest is keeps handles =
    (keeps_then old.layer (record old.layer { told = rest }) new.layer (keeps_same old.layer (record old.layer { told = rest }) refl refl refl refl) keeps, (first, rest, is, handles))
