-- What a row of the table makes of the streams of channels.
use Rattle.std.proofs.Common.{◌≡◌, ◌<◌, ◌≤◌, ◌⊎◌, ℕ, ◌+◌, Bool, true, false, not, Option, Some, None, List, [], refl, sym, subst, ◌∙◌, inl, inr, arith}
use Rattle.dcsctp_channel_calls.specs.declared.channel.HeldStream.{HeldStream}
use Rattle.dcsctp_channel_calls.specs.messages.channel_spec.Slots.{StreamSlot, name_of_slot}
use Rattle.dcsctp_channel_calls.specs.Queries.{is_waiting}
use Rattle.dcsctp_channel_calls.specs.View.{ChannelNotice, LayerView, entry_numbered, slot_numbered}
use Rattle.dcsctp_channel_laws.specs.Lives.{IsOrderly}
use Rattle.dcsctp_channel_laws.proofs.Places.{is_named, IsFresh, IsNext, RowLeaves, row_apart}
use Rattle.dcsctp_channel_laws.proofs.Telling.{next_no_stream, next_fresh}
use Rattle.dcsctp_channel_runs.proofs.Lasting.{GoesOn}
use Rattle.dcsctp_channel_runs.proofs.Streams.{IsOn, IsGone, IsOnOrGone, KeepStreams, keep_plainly, same_stream, on_not_gone, IsToCome}

-- ---- a row

-- The stream's channel stays, or is over, or is the next that is named.
abbrev pub IsNextName : LayerView → ℕ → Option ℕ → Option ℕ → Type 0
IsNextName layer most before after = (n : ℕ) → after ≡ Some n → (before ≡ Some n) ⊎ ((n ≡ layer.named) × (most ≡ layer.named + 1))

pub stay_named : (layer : LayerView) (before after : Option ℕ) → (after ≡ before) ⊎ (after ≡ None) → IsNextName layer layer.named before after
stay_named layer before after (inl same) n is = inl (sym same ∙ is)
stay_named layer before after (inr none) n is = let both : None ≡ Some n = sym none ∙ is in absurd cc

module _ (number : ℕ) (slot : StreamSlot) (layer : LayerView) (streams : List (ℕ × HeldStream)) (names : List (ℕ × ℕ)) (most : ℕ) (notices : List ChannelNotice) (a : IsOrderly layer) (le : layer.named ≤ most)
    (row : RowLeaves number slot layer streams names) (next : IsNextName layer most (name_of_slot (slot_numbered layer number)) (name_of_slot slot))
    (lasts : (n k : ℕ) → IsOn layer n k → entry_numbered n names ≡ Some k → GoesOn layer (record layer { streams = streams; names = names; named = most; notices = notices }) k) where
  abbrev left : LayerView
  left = record layer { streams = streams; names = names; named = most; notices = notices }

  row_next : IsNext layer most (name_of_slot (slot_numbered layer number)) (name_of_slot slot)
  row_next n is = by (next n is)
    where
      by : (name_of_slot (slot_numbered layer number) ≡ Some n) ⊎ ((n ≡ layer.named) × (most ≡ layer.named + 1)) → (name_of_slot (slot_numbered layer number) ≡ Some n) ⊎ IsFresh layer most n
      by (inl had) = inl had
      by (inr (same, more)) =
          inr (subst (λ (m : ℕ). IsFresh layer m n) (sym more) (subst (λ (m : ℕ). IsFresh layer (layer.named + 1) m) (sym same) (next_fresh layer a)))

  not_waits : (n k : ℕ) → IsOn layer n k → is_waiting n layer.waiting ≡ false
  not_waits n k on = by (is_waiting n layer.waiting) refl
    where
      by : (b : Bool) → is_waiting n layer.waiting ≡ b → is_waiting n layer.waiting ≡ false
      by true is = absurd (let both : Some k ≡ None = sym on ∙ a.no_stream n is in cc)
      by false is = is

  row_stays : (n k : ℕ) → IsOn layer n k → IsOnOrGone left n k
  row_stays n k on = by (is_named (name_of_slot (slot_numbered layer number)) n) (is_named (name_of_slot slot) n)
    where
      -- the next name has no stream
      never : (name_of_slot (slot_numbered layer number) ≡ Some n → ⊥) → (name_of_slot (slot_numbered layer number) ≡ Some n) ⊎ ((n ≡ layer.named) × (most ≡ layer.named + 1)) → ⊥
      never not (inl had) = not had
      never not (inr (same, more)) = let below : n < layer.named = a.was_named n k on in absurd (omega arith)

      by : (name_of_slot (slot_numbered layer number) ≡ Some n) ⊎ (name_of_slot (slot_numbered layer number) ≡ Some n → ⊥) → (name_of_slot slot ≡ Some n) ⊎ (name_of_slot slot ≡ Some n → ⊥) → IsOnOrGone left n k
      by (inl had) (inl has) = inl (subst (λ (m : ℕ). entry_numbered n names ≡ Some m) (same_stream layer n number k (a.leads number n had) on) (row.gets n has))
      by (inl had) (inr not) = let below : n < layer.named = a.was_named n k on in inr (record { no_stream = row.freed n had not; not_waiting = not_waits n k on; named = omega arith })
      by (inr not_before) (inl has) = absurd (never not_before (next n has))
      by (inr not_before) (inr not_after) = inl (row.other n not_before not_after ∙ on)

  row_gone : (n : ℕ) → IsGone layer n → IsGone left n
  row_gone n gone = record { no_stream = by (is_named (name_of_slot slot) n); not_waiting = gone.not_waiting; named = let below : n < layer.named = gone.named in omega arith }
    where
      not_before : name_of_slot (slot_numbered layer number) ≡ Some n → ⊥
      not_before had = on_not_gone layer n number (a.leads number n had) gone

      never : (name_of_slot (slot_numbered layer number) ≡ Some n) ⊎ ((n ≡ layer.named) × (most ≡ layer.named + 1)) → ⊥
      never (inl had) = not_before had
      never (inr (same, more)) = let below : n < layer.named = gone.named in absurd (omega arith)

      by : (name_of_slot slot ≡ Some n) ⊎ (name_of_slot slot ≡ Some n → ⊥) → entry_numbered n names ≡ None
      by (inl has) = absurd (never (next n has))
      by (inr not_after) = row.other n not_before not_after ∙ gone.no_stream

  pub row_keeps : KeepStreams [] layer left
  row_keeps = keep_plainly layer left (row_apart number slot layer streams names most a le row row_next) row_stays row_gone lasts (λ was. was)

-- the channel that is named next
pub next_to_come : (layer : LayerView) → IsOrderly layer → IsToCome layer layer.named
next_to_come layer a = record { no_stream = next_no_stream layer a; not_gone = λ gone. let below : layer.named < layer.named = gone.named in absurd (omega arith) }
