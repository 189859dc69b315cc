-- What a message of a user makes of the layer, on a channel that isn't closing.
use Rattle.std.proofs.Common.{◌≡◌, ℕ, Bool, false, Option, Some, None, Result, Ok, Err, List, [], ◌∷◌, ◌++◌, length, map, refl, sym, ap, ◌∙◌, append_assoc}
use Rattle.std.proofs.lemmas.List.{append-nil}
use Rattle.dcsctp_channel_calls.specs.messages.channel_spec.declared.types.StreamUse.{StreamUse}
use Rattle.dcsctp_channel_calls.specs.messages.channel_spec.Contents.{ChannelContent}
use Rattle.dcsctp_channel_calls.specs.messages.channel_spec.Slots.{name_of_slot, Report, used, hears_ack, hears_message}
use Rattle.dcsctp_channel_calls.specs.messages.channel_spec.Table.{heard_use, heard_reports, message_reports, on_message, outcome_of}
use Rattle.dcsctp_channel_calls.specs.declared.channel.HeldStream.{HeldStream}
use Rattle.dcsctp_channel_calls.specs.View.{ChannelNotice, of_channel, slot_of, LayerView, held_stream_numbered, entry_put, went_on, held_after, counted_with, received_on, streams_with, names_with}
use Rattle.dcsctp_channel_calls.specs.Calls.{KeepsTaking}
use Rattle.dcsctp_channel_calls.specs.Events.{with_notices}
use Rattle.dcsctp_channel_calls.specs.Arrivals.{plain_delivery, message_taken}
use Rattle.dcsctp_channels.specs.declared.rows.Step.{Step}
use Rattle.dcsctp_channels.specs.Layer.{Leaves, stream_left}
use Rattle.dcsctp_channels.specs.Rows.{slot_of_use, IsStep, notice_reports}
use Rattle.dcsctp_channels.proofs.Keeping.{keeps_notices, keeps_then}

map_both : (xs ys : List Report) → map of_channel xs ++ map of_channel ys ≡ map of_channel (xs ++ ys)
map_both [] ys = refl
map_both (x ∷ xs) ys = ap (λ (ns : List ChannelNotice). of_channel x ∷ ns) (map_both xs ys)

noted_both : (notices : List ChannelNotice) (xs ys : List Report) → (notices ++ map of_channel xs) ++ map of_channel ys ≡ notices ++ map of_channel (xs ++ ys)
noted_both notices xs ys = append_assoc notices (map of_channel xs) (map of_channel ys) ∙ ap (λ (ns : List ChannelNotice). notices ++ ns) (map_both xs ys)

-- the row, where this is what the stream holds
abbrev heard_at : ℕ → ChannelContent → LayerView → Option HeldStream → LayerView
heard_at number content layer held =
    record layer {
      streams = streams_with number held (on_message content (slot_of held)).after (held_after layer.moment plain_delivery (hears_message content) held) layer.streams;
      names = names_with number (name_of_slot (slot_of held)) (name_of_slot (on_message content (slot_of held)).after) layer.names;
      notices = layer.notices ++ map of_channel (on_message content (slot_of held)).reports;
    }

is_counted : (content : ChannelContent) (held : HeldStream) (closing : Bool) → held.stream.closing ≡ closing → closing ≡ false → received_on (length content.bytes) held ≡ counted_with (hears_message content) held
is_counted content held closing is goes_on =
    let not_closing : held.stream.closing ≡ false = is ∙ goes_on in rw not_closing refl

abbrev left_with : ℕ → HeldStream → StreamUse → LayerView → HeldStream → List ChannelNotice → LayerView
left_with number held after layer counted notices =
    record layer { streams = entry_put number (went_on layer.moment counted after) layer.streams; names = names_with number held.stream.name after.name layer.names; notices = notices }

heard_row : (number : ℕ) (content : ChannelContent) (held : HeldStream) (layer : LayerView) → held.stream.closing ≡ false
    → left_with number held (heard_use held.stream) layer (received_on (length content.bytes) held)
    ((layer.notices ++ map of_channel (heard_reports held.stream.heard held.stream.closing held.stream)) ++ map of_channel (message_reports false held.stream.name content))
    ≡ heard_at number content layer (Some held)
heard_row number content held layer goes_on =
    let reports = heard_reports held.stream.heard held.stream.closing held.stream in
    let all = (layer.notices ++ map of_channel reports) ++ map of_channel (message_reports false held.stream.name content) in
    ap (λ (counted : HeldStream). left_with number held (heard_use held.stream) layer counted all) (is_counted content held false goes_on refl)
    ∙ ap (left_with number held (heard_use held.stream) layer (counted_with (hears_message content) held))
    (noted_both layer.notices reports (message_reports false held.stream.name content)
    ∙ ap (λ (b : Bool). layer.notices ++ map of_channel (reports ++ message_reports b held.stream.name content)) (sym goes_on))

-- the step leaves a use
step_use : (after : Option StreamUse) (stream : StreamUse) → slot_of_use after ≡ used stream → after ≡ Some stream
step_use (Some other) stream is = cc
step_use None stream is = absurd cc

heard_layer : (number : ℕ) (content : ChannelContent) (held counted : HeldStream) (step : Step) (old first second : LayerView) → held_stream_numbered old number ≡ Some held → held.stream.closing ≡ false
    → IsStep step (outcome_of hears_ack (used held.stream)) → first ≡ with_notices (map of_channel (notice_reports step.notice)) old
    → second ≡ with_notices (map of_channel (message_reports false held.stream.name content)) first → counted ≡ received_on (length content.bytes) held
    → stream_left number counted step.after second ≡ message_taken number (hears_message content) old
heard_layer number content held counted step old first second at goes_on is one two count =
    let leaves = step_use step.after (heard_use held.stream) is.after in
    let reports = heard_reports held.stream.heard held.stream.closing held.stream in
    let told : notice_reports step.notice ≡ reports = is.reports ∙ append-nil reports in
    let both : second ≡ with_notices (map of_channel (message_reports false held.stream.name content)) (with_notices (map of_channel reports) old) =
    two ∙ ap (with_notices (map of_channel (message_reports false held.stream.name content))) (one ∙ ap (λ (rs : List Report). with_notices (map of_channel rs) old) told) in
    ap (λ (c : HeldStream). stream_left number c step.after second) count
    ∙ ap (λ (u : Option StreamUse). stream_left number (received_on (length content.bytes) held) u second) leaves
    ∙ ap (stream_left number (received_on (length content.bytes) held) (Some (heard_use held.stream))) both
    ∙ heard_row number content held old goes_on ∙ ap (heard_at number content old) (sym at)

keeps_all : (number : ℕ) (content : ChannelContent) (held : HeldStream) (step : Step) (old first second new : LayerView) → first ≡ with_notices (map of_channel (notice_reports step.notice)) old
    → second ≡ with_notices (map of_channel (message_reports false held.stream.name content)) first → KeepsTaking second new → KeepsTaking old new
keeps_all number content held step old first second new one two keeps =
    keeps_then old first new
    (keeps_notices old first (map of_channel (notice_reports step.notice)) (ap (λ (l : LayerView). l.packets) one) (ap (λ (l : LayerView). l.notices) one) (ap (λ (l : LayerView). l.named) one) (ap (λ (l : LayerView). l.failed) one))
    (keeps_then first second new
    (keeps_notices first second (map of_channel (message_reports false held.stream.name content)) (ap (λ (l : LayerView). l.packets) two) (ap (λ (l : LayerView). l.notices) two) (ap (λ (l : LayerView). l.named) two) (ap (λ (l : LayerView). l.failed) two))
    keeps)

pub heard_in : {A E : Type 0} (number : ℕ) (content : ChannelContent) (held counted : HeldStream) (step : Step) (old first second new : LayerView) (result : Result A E) → held_stream_numbered old number ≡ Some held
    → held.stream.closing ≡ false → IsStep step (outcome_of hears_ack (used held.stream)) → first ≡ with_notices (map of_channel (notice_reports step.notice)) old
    → second ≡ with_notices (map of_channel (message_reports false held.stream.name content)) first → counted ≡ received_on (length content.bytes) held
    → Leaves (stream_left number counted step.after second) second result new → Leaves (message_taken number (hears_message content) old) old result new
heard_in number content held counted step old first second new (Ok done) at goes_on is one two count leaves =
    (keeps_all number content held step old first second new one two leaves.0, leaves.1 ∙ heard_layer number content held counted step old first second at goes_on is one two count)
heard_in number content held counted step old first second new (Err error) at goes_on is one two count leaves = (keeps_all number content held step old first second new one two leaves.0, tt)
