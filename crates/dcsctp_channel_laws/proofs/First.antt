-- Places of channels at first, and what follows from them.
use Rattle.std.proofs.Common.{◌≡◌, ◌||◌, ℕ, Bool, true, false, Option, Some, None, is_some, List, [], refl, sym, ap, subst}
use Rattle.dcsctp_channel_calls.specs.declared.channel.ChannelState.TheVariants.{Closed}
use Rattle.dcsctp_channel_calls.specs.declared.channel.HeldStream.{HeldStream}
use Rattle.dcsctp_channel_calls.specs.messages.channel_spec.Slots.{name_of_slot}
use Rattle.dcsctp_channel_calls.specs.View.{WaitingChannel, LayerView, entry_numbered, slot_of}
use Rattle.dcsctp_channel_calls.specs.Queries.{is_waiting, state_without, closing_or_open, state_held, state_on}
use Rattle.dcsctp_channel_laws.specs.Lives.{IsInOrder, IsOrderly, BeginApart, StreamsAreApart, IsSeenAs, StatesAreTrue}

none_in_order : (named : ℕ) → IsInOrder [] [] [] named
none_in_order named =
    record {
      streams_rise = tt;
      names_rise = tt;
      leads = λ number name is. absurd cc;
      led_to = λ name number is. absurd cc;
      wait_apart = tt;
      no_stream = λ name is. absurd cc;
      was_named = λ name number is. absurd cc;
      waits_named = λ name is. absurd cc;
    }

pub begin_apart : BeginApart
begin_apart layer streams names waiting =
    subst (λ (s : List (ℕ × HeldStream)). IsInOrder s layer.names layer.waiting layer.named) (sym streams)
    (subst (λ (n : List (ℕ × ℕ)). IsInOrder [] n layer.waiting layer.named) (sym names)
    (subst (λ (w : List WaitingChannel). IsInOrder [] [] w layer.named) (sym waiting) (none_in_order layer.named)))

pub streams_apart : StreamsAreApart
streams_apart layer a one other name first second =
    let here : entry_numbered name layer.names ≡ Some one = a.leads one name first in
    let there : entry_numbered name layer.names ≡ Some other = a.leads other name second in cc

-- ---- the state of a channel

module _ (layer : LayerView) (a : IsOrderly layer) (name : ℕ) where
  closed_without : (stream : Option ℕ) (waits : Bool) → (waits || is_some stream) ≡ false → entry_numbered name layer.names ≡ stream → is_waiting name layer.waiting ≡ waits → state_on stream name layer ≡ Closed
  closed_without None true none at is = absurd cc
  closed_without None false none at is = ap state_without is
  closed_without (Some number) true none at is = absurd cc
  closed_without (Some number) false none at is = absurd cc

  open_where_closing : (closing : Bool) → closing_or_open closing ≡ Closed → ⊥
  open_where_closing true is = absurd cc
  open_where_closing false is = absurd cc

  open_held : (held : Option HeldStream) → name_of_slot (slot_of held) ≡ Some name → state_held held ≡ Closed → ⊥
  open_held None has is = absurd cc
  open_held (Some held) has is = open_where_closing held.stream.closing is

  waits_not : (waits : Bool) → state_without waits ≡ Closed → waits ≡ false
  waits_not true is = absurd cc
  waits_not false is = refl

  nowhere : (stream : Option ℕ) → entry_numbered name layer.names ≡ stream → state_on stream name layer ≡ Closed → (is_waiting name layer.waiting || is_some stream) ≡ false
  nowhere None at is = ap (λ (b : Bool). b || false) (waits_not (is_waiting name layer.waiting) is)
  nowhere (Some number) at is = absurd (open_held (entry_numbered number layer.streams) (a.led_to name number at) is)

  pub is_shown : IsSeenAs layer name
  is_shown =
      record {
        closed = λ none. closed_without (entry_numbered name layer.names) (is_waiting name layer.waiting) none refl refl;
        only = λ is. nowhere (entry_numbered name layer.names) refl is;
      }

pub states_true : StatesAreTrue
states_true layer a name = is_shown layer a name
