-- Channels that are still to come.
use Rattle.std.proofs.Common.{ℕ, List, [], ◌∷◌}
use Rattle.std.specs.List.{AllByRecursion}
use Rattle.dcsctp_channel_calls.specs.View.{LayerView}
use Rattle.dcsctp_channel_laws.specs.Lives.{IsOrderly}
use Rattle.dcsctp_channel_runs.specs.Acts.{OpenedChannel}
use Rattle.dcsctp_channel_runs.proofs.Heard.{AreNamedElse}
use Rattle.dcsctp_channel_runs.proofs.Streams.{IsOnOrGone, IsToCome, KeepStreams, to_come_else, to_come_before}

-- These channels are still to come.
abbrev pub AreToCome : LayerView → List OpenedChannel → Type 0
AreToCome layer channels = IsOrderly layer → AllByRecursion (λ (channel : OpenedChannel). IsToCome layer channel.name) channels

pub come_before : (pairs : List (ℕ × ℕ)) (old new : LayerView) → KeepStreams pairs old new → (channels : List OpenedChannel) → AllByRecursion (λ (channel : OpenedChannel). IsToCome new channel.name) channels
    → AllByRecursion (λ (channel : OpenedChannel). IsToCome old channel.name) channels
come_before pairs old new keeps [] all = tt
come_before pairs old new keeps (channel ∷ channels) (first, rest) = (to_come_before pairs old new channel.name keeps first, come_before pairs old new keeps channels rest)

-- None of them has the name of one that has, or had, a stream.
pub come_else : (layer : LayerView) (name number : ℕ) → IsOnOrGone layer name number → (channels : List OpenedChannel) → AllByRecursion (λ (channel : OpenedChannel). IsToCome layer channel.name) channels → AreNamedElse name channels
come_else layer name number there [] all = tt
come_else layer name number there (channel ∷ channels) (first, rest) = ((λ same. to_come_else layer name channel.name number there first same), come_else layer name number there channels rest)
