-- Two channels with one stream, seen from an end.
use Rattle.dcsctp_channel_calls.specs.declared.channel.ChannelState.TheVariants.{Closed}
use Rattle.dcsctp_channel_laws.specs.Lives.{IsOrderly}
use Rattle.dcsctp_channel_runs.specs.Opened.{HasNoStream, IsSentApart, NoneIsClosed}
use Rattle.dcsctp_channel_runs.specs.Acts.{SaidContent}
use Rattle.dcsctp_channel_runs.proofs.Streams.{IsOn, IsGone, IsOnOrGone, IsPlaced}
use Rattle.dcsctp_channel_calls.specs.Queries.{is_waiting, state_without, state_on, channel_state}
use Rattle.dcsctp_channel_calls.specs.View.{LayerView, entry_numbered}
use Rattle.std.proofs.Common.{List, ◌≡◌, ◌⊎◌, ℕ, Bool, true, false, Option, Some, None, sym, ap, ◌∙◌, inl, inr}
use Rattle.dcsctp_channel_runs.proofs.InPlace.{IsInPlace}

-- ---- streams of channels

pub closed_where_gone : (layer : LayerView) (name : ℕ) → IsGone layer name → channel_state layer name ≡ Closed
closed_where_gone layer name gone =
    ap (λ (stream : Option ℕ). state_on stream name layer) gone.no_stream ∙ ap state_without gone.not_waiting

-- a channel without a stream waits, or is closed
pub none_where : (layer : LayerView) (name : ℕ) → entry_numbered name layer.names ≡ None → HasNoStream layer name
none_where layer name none = by (is_waiting name layer.waiting) (ap (λ (stream : Option ℕ). state_on stream name layer) none)
  where
    by : (b : Bool) → channel_state layer name ≡ state_without b → HasNoStream layer name
    by true is = inl is
    by false is = inr is

-- two channels on one stream are one
pub same_on_stream : (layer : LayerView) → IsOrderly layer → (name other number : ℕ) → IsOn layer name number → IsOn layer other number → other ≡ name
same_on_stream layer orderly name other number first second =
    let both : Some other ≡ Some name = sym (orderly.led_to other number second) ∙ orderly.led_to name number first in cc

-- One of two channels with one stream had it then: the other is this one, or had none.
pub one_had_it : (layer : LayerView) → IsOrderly layer → (name other number : ℕ) → IsPlaced layer name number → IsOn layer other number → (other ≡ name) ⊎ HasNoStream layer name
one_had_it layer orderly name other number (inl (inl on)) had = inl (same_on_stream layer orderly name other number on had)
one_had_it layer orderly name other number (inl (inr gone)) had = inr (none_where layer name gone.no_stream)
one_had_it layer orderly name other number (inr later) had = inr (none_where layer name later.no_stream)

-- A channel that isn't closed has its stream.
module _ (layer : LayerView) (orderly : IsOrderly layer) (none : NoneIsClosed layer) where
  pub still_on : (name number : ℕ) → IsOnOrGone layer name number → IsOn layer name number
  still_on name number (inl on) = on
  still_on name number (inr gone) = absurd (none name gone.named (closed_where_gone layer name gone))

  pub alone_on_stream : (name other number : ℕ) → IsOnOrGone layer name number → IsOnOrGone layer other number → other ≡ name
  alone_on_stream name other number first second = same_on_stream layer orderly name other number (still_on name number first) (still_on other number second)

-- The other had the stream of this one while this one had none: so one of the two is closed now.
pub on_or_apart : (now : LayerView) → IsOrderly now → (name number : ℕ) (one : SaidContent) → IsOnOrGone now name number → IsOnOrGone now one.message.name number → (one.message.name ≡ name) ⊎ HasNoStream one.after name
    → (one.message.name ≡ name) ⊎ IsSentApart now name one
on_or_apart now orderly name number one here there (inl same) = inl same
on_or_apart now orderly name number one (inl on) (inl other) (inr none) = inl (same_on_stream now orderly name one.message.name number on other)
on_or_apart now orderly name number one (inl on) (inr gone) (inr none) = inr (record { no_stream = none; closed = inr (closed_where_gone now one.message.name gone) })
on_or_apart now orderly name number one (inr gone) there (inr none) = inr (record { no_stream = none; closed = inl (closed_where_gone now name gone) })

-- What was said on the stream of a channel that wasn't opened later was said on it, if it isn't closed now.
pub said_on_it : (pairs : List (ℕ × ℕ)) (now : LayerView) (there number : ℕ) (one : SaidContent) → IsInPlace pairs now one → (channel_state now there ≡ Closed → ⊥) → IsOn one.after one.message.name number → IsOnOrGone one.after there number
    → one.message.name ≡ there
said_on_it pairs now there number one place lasts on (inl had) = same_on_stream one.after place.orderly there one.message.name number had on
said_on_it pairs now there number one place lasts on (inr gone) = absurd (lasts (closed_where_gone now there (place.keeps.gone there gone)))

-- A channel that isn't closed has its stream.
pub not_gone : (layer : LayerView) (name number : ℕ) → (channel_state layer name ≡ Closed → ⊥) → IsOnOrGone layer name number → IsOn layer name number
not_gone layer name number lasts (inl on) = on
not_gone layer name number lasts (inr gone) = absurd (lasts (closed_where_gone layer name gone))
