-- What is kept of an answer.
use Rattle.std.proofs.Common.{◌≡◌, ℕ, Option, None, Result, Ok, List, [], ◌∷◌, ◌++◌, map, sym, ap, ◌∙◌}
use Rattle.std.proofs.lemmas.List.{map-append}
use Rattle.dcsctp_channel_calls.specs.messages.channel_spec.declared.types.Delivery.{Delivery}
use Rattle.dcsctp_channel_calls.specs.messages.channel_spec.Slots.{Opening}
use Rattle.dcsctp_channel_calls.specs.declared.channel.ChannelError.{ChannelError}
use Rattle.dcsctp_channel_calls.specs.declared.channel.ChannelId.{ChannelId}
use Rattle.dcsctp_channel_calls.specs.declared.channel.ChannelOptions.{ChannelOptions}
use Rattle.dcsctp_channel_calls.specs.Notices.{opening_of}
use Rattle.dcsctp_channel_runs.specs.Acts.{OpenedChannel}
use Rattle.dcsctp_channel_world.specs.declared.watched_end.NamedChannel.{NamedChannel}
use Rattle.dcsctp_channel_world.specs.Shown.{named_channel, channels_opened}

pub same_opening : (old copy : ChannelOptions) → copy.label.items ≡ old.label.items → copy.protocol.items ≡ old.protocol.items → copy.delivery ≡ old.delivery → opening_of copy ≡ opening_of old
same_opening old copy label protocol delivery =
    ap (λ (l : List ℕ). let o : Opening = record { label = l; protocol = copy.protocol.items; delivery = copy.delivery } in o) label
    ∙ ap (λ (l : List ℕ). let o : Opening = record { label = old.label.items; protocol = l; delivery = copy.delivery } in o) protocol
    ∙ ap (λ (d : Delivery). let o : Opening = record { label = old.label.items; protocol = old.protocol.items; delivery = d } in o) delivery

pub opened_kept : (old new : List NamedChannel) (id : ChannelId) (copy options : ChannelOptions) (answer : Result ChannelId ChannelError) → new ≡ old ++ record { id = id; options = copy } ∷ []
    → opening_of copy ≡ opening_of options → answer ≡ Ok id → options.negotiated ≡ None
    → map named_channel new ≡ map named_channel old ++ channels_opened (opening_of options) options.negotiated answer
opened_kept old new id copy options answer is same accepted opens =
    let kept : NamedChannel = record { id = id; options = copy } in
    let channel : Opening → OpenedChannel = λ opening. record { name = id.0; opening = opening } in
    let adds : channels_opened (opening_of options) options.negotiated answer ≡ channel (opening_of options) ∷ [] =
    ap (λ (a : Result ChannelId ChannelError). channels_opened (opening_of options) options.negotiated a) accepted
    ∙ ap (λ (n : Option ℕ). channels_opened (opening_of options) n (Ok id)) opens in
    ap (map named_channel) is ∙ map-append named_channel old (kept ∷ []) ∙ ap (λ (o : Opening). map named_channel old ++ channel o ∷ []) same
    ∙ ap (λ (l : List OpenedChannel). map named_channel old ++ l) (sym adds)
