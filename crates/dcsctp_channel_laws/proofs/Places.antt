-- What a row of the table makes of the places of channels.
use Rattle.std.proofs.Common.{◌≡◌, ◌<◌, ◌≤◌, ◌==◌, ◌⊎◌, ℕ, Bool, true, false, Option, Some, None, List, refl, sym, ap, subst, ◌∙◌, inl, inr, arith, if◌then◌else◌}
use Rattle.std.proofs.lemmas.Bool.{eqb-true, eqb-false, cases_eq, true≢false}
use Rattle.dcsctp_channel_calls.specs.messages.channel_spec.declared.types.Delivery.{Delivery}
use Rattle.dcsctp_channel_calls.specs.messages.channel_spec.declared.types.StreamUse.{StreamUse}
use Rattle.dcsctp_channel_calls.specs.messages.channel_spec.Slots.{StreamSlot, free, used, name_of_slot, SlotOutcome, SlotInput}
use Rattle.dcsctp_channel_calls.specs.declared.channel.HeldStream.{HeldStream}
use Rattle.dcsctp_channel_calls.specs.View.{LayerView, entry_numbered, entry_put, without_entry, held_stream_numbered, slot_of, slot_numbered, gives_again, held_or_begun, counted_with, held_after, streams_with, names_with, taken_as}
use Rattle.dcsctp_channel_calls.specs.Queries.{is_waiting}
use Rattle.dcsctp_channel_laws.specs.Lives.{AreRising, IsInOrder, IsOrderly}
use Rattle.dcsctp_channel_laws.proofs.Maps.{put_here, put_apart, rising_put, without_here, without_apart, rising_without}

-- ---- one name or another

pub is_named : (a : Option ℕ) (n : ℕ) → (a ≡ Some n) ⊎ (a ≡ Some n → ⊥)
is_named None n = inr (λ (s : None ≡ Some n). absurd cc)
is_named (Some m) n = go (cases_eq m n)
  where
    go : (m ≡ n) ⊎ (m ≡ n → ⊥) → (Some m ≡ Some n) ⊎ (Some m ≡ Some n → ⊥)
    go (inl same) = inl (ap Some same)
    go (inr apart) = inr (λ (s : Some m ≡ Some n). let same : m ≡ n = cc in apart same)

-- ---- the stream of a name

named_here : (n number : ℕ) (a : Option ℕ) (es : List (ℕ × ℕ)) → (a ≡ Some n → entry_numbered n es ≡ Some number) → entry_numbered n (names_with number a (Some n) es) ≡ Some number
named_here n number None es at = put_here n number es
named_here n number (Some old) es at = go (old == n) refl
  where
    go : (t : Bool) → (old == n) ≡ t → entry_numbered n (if t then es else entry_put n number (without_entry old es)) ≡ Some number
    go true is = at (ap Some (eqb-true old n is))
    go false is = put_here n number (without_entry old es)

named_gone : (n number : ℕ) (b : Option ℕ) (es : List (ℕ × ℕ)) → AreRising es → (b ≡ Some n → ⊥) → entry_numbered n (names_with number (Some n) b es) ≡ None
named_gone n number None es rising apart = without_here n es rising
named_gone n number (Some new) es rising apart = go (n == new) refl
  where
    go : (t : Bool) → (n == new) ≡ t → entry_numbered n (if t then es else entry_put new number (without_entry n es)) ≡ None
    go true is = absurd (apart (ap Some (sym (eqb-true n new is))))
    go false is = put_apart n new number (without_entry n es) (eqb-false n new is) ∙ without_here n es rising

named_else : (n number : ℕ) (a b : Option ℕ) (es : List (ℕ × ℕ)) → (a ≡ Some n → ⊥) → (b ≡ Some n → ⊥) → entry_numbered n (names_with number a b es) ≡ entry_numbered n es
named_else n number None None es not_a not_b = refl
named_else n number (Some old) None es not_a not_b = without_apart n old es (λ (s : n ≡ old). not_a (ap Some (sym s)))
named_else n number None (Some new) es not_a not_b = put_apart n new number es (λ (s : n ≡ new). not_b (ap Some (sym s)))
named_else n number (Some old) (Some new) es not_a not_b = go (old == new)
  where
    go : (t : Bool) → entry_numbered n (if t then es else entry_put new number (without_entry old es)) ≡ entry_numbered n es
    go true = refl
    go false = put_apart n new number (without_entry old es) (λ (s : n ≡ new). not_b (ap Some (sym s))) ∙ without_apart n old es (λ (s : n ≡ old). not_a (ap Some (sym s)))

rising_names : (number : ℕ) (a b : Option ℕ) (es : List (ℕ × ℕ)) → AreRising es → AreRising (names_with number a b es)
rising_names number None None es rising = rising
rising_names number (Some old) None es rising = rising_without old es rising
rising_names number None (Some new) es rising = rising_put new number es rising
rising_names number (Some old) (Some new) es rising = go (old == new)
  where
    go : (t : Bool) → AreRising (if t then es else entry_put new number (without_entry old es))
    go true = rising
    go false = rising_put new number (without_entry old es) (rising_without old es rising)

-- ---- the slot of a stream

held_stream : (moment : ℕ) (delivery : Delivery) (input : SlotInput) (held : Option HeldStream) (stream : StreamUse) → (held_after moment delivery input held stream).stream ≡ stream
held_stream moment delivery input None stream = refl
held_stream moment delivery input (Some held) stream = go (gives_again input held.stream)
  where
    go : (b : Bool) → (held_or_begun b moment delivery (counted_with input held) stream).stream ≡ stream
    go true = refl
    go false = refl

slot_here : (number : ℕ) (held : Option HeldStream) (slot : StreamSlot) (f : StreamUse → HeldStream) (es : List (ℕ × HeldStream)) → AreRising es → entry_numbered number es ≡ held
    → ((stream : StreamUse) → (f stream).stream ≡ stream) → slot_of (entry_numbered number (streams_with number held slot f es)) ≡ slot
slot_here number None free f es rising is same = ap slot_of is
slot_here number (Some old) free f es rising is same = ap slot_of (without_here number es rising)
slot_here number None (used stream) f es rising is same = ap slot_of (put_here number (f stream) es) ∙ ap used (same stream)
slot_here number (Some old) (used stream) f es rising is same = ap slot_of (put_here number (f stream) es) ∙ ap used (same stream)

slot_apart : (q number : ℕ) (held : Option HeldStream) (slot : StreamSlot) (f : StreamUse → HeldStream) (es : List (ℕ × HeldStream)) → (q ≡ number → ⊥)
    → entry_numbered q (streams_with number held slot f es) ≡ entry_numbered q es
slot_apart q number None free f es apart = refl
slot_apart q number (Some old) free f es apart = without_apart q number es apart
slot_apart q number None (used stream) f es apart = put_apart q number (f stream) es apart
slot_apart q number (Some old) (used stream) f es apart = put_apart q number (f stream) es apart

rising_streams : (number : ℕ) (held : Option HeldStream) (slot : StreamSlot) (f : StreamUse → HeldStream) (es : List (ℕ × HeldStream)) → AreRising es → AreRising (streams_with number held slot f es)
rising_streams number None free f es rising = rising
rising_streams number (Some old) free f es rising = rising_without number es rising
rising_streams number None (used stream) f es rising = rising_put number (f stream) es rising
rising_streams number (Some old) (used stream) f es rising = rising_put number (f stream) es rising

-- ---- a row

-- a name that no channel has, and that was given
pub record IsFresh (layer : LayerView) (most n : ℕ) : Type 0 where
  pub no_stream : entry_numbered n layer.names ≡ None
  pub not_waiting : is_waiting n layer.waiting ≡ false
  pub is_below : n < most

-- The channel of the stream stays, or it gets one with a fresh name, or has none.
abbrev pub IsNext : LayerView → ℕ → Option ℕ → Option ℕ → Type 0
IsNext layer most a b = (n : ℕ) → b ≡ Some n → (a ≡ Some n) ⊎ IsFresh layer most n

-- what a row leaves, by its stream, its channel before and its slot after
pub record RowLeaves (number : ℕ) (slot : StreamSlot) (layer : LayerView) (streams : List (ℕ × HeldStream)) (names : List (ℕ × ℕ)) : Type 0 where
  pub names_rise : AreRising names
  pub streams_rise : AreRising streams
  pub here : slot_of (entry_numbered number streams) ≡ slot
  pub apart : (q : ℕ) → (q ≡ number → ⊥) → slot_of (entry_numbered q streams) ≡ slot_numbered layer q
  pub gets : (n : ℕ) → name_of_slot slot ≡ Some n → entry_numbered n names ≡ Some number
  pub freed : (n : ℕ) → name_of_slot (slot_numbered layer number) ≡ Some n → (name_of_slot slot ≡ Some n → ⊥) → entry_numbered n names ≡ None
  pub other : (n : ℕ) → (name_of_slot (slot_numbered layer number) ≡ Some n → ⊥) → (name_of_slot slot ≡ Some n → ⊥) → entry_numbered n names ≡ entry_numbered n layer.names

pub row_leaves : (number : ℕ) (delivery : Delivery) (input : SlotInput) (outcome : SlotOutcome) (layer : LayerView) → IsOrderly layer
    → RowLeaves number outcome.after layer (taken_as number delivery input outcome layer).streams (taken_as number delivery input outcome layer).names
row_leaves number delivery input outcome layer a =
    let held = held_stream_numbered layer number in
    let before = name_of_slot (slot_numbered layer number) in
    let after = name_of_slot outcome.after in
    let f = held_after layer.moment delivery input held in
    record {
      names_rise = rising_names number before after layer.names a.names_rise;
      streams_rise = rising_streams number held outcome.after f layer.streams a.streams_rise;
      here = slot_here number held outcome.after f layer.streams a.streams_rise refl (held_stream layer.moment delivery input held);
      apart = λ q apart. ap slot_of (slot_apart q number held outcome.after f layer.streams apart);
      gets = λ n is. subst (λ (o : Option ℕ). entry_numbered n (names_with number before o layer.names) ≡ Some number) (sym is) (named_here n number before layer.names (a.leads number n));
      freed = λ n is not. subst (λ (o : Option ℕ). entry_numbered n (names_with number o after layer.names) ≡ None) (sym is) (named_gone n number after layer.names a.names_rise not);
      other = λ n not_before not_after. named_else n number before after layer.names not_before not_after;
    }

module _ (number : ℕ) (slot : StreamSlot) (layer : LayerView) (streams : List (ℕ × HeldStream)) (names : List (ℕ × ℕ)) (most : ℕ) (a : IsOrderly layer) (le : layer.named ≤ most)
    (row : RowLeaves number slot layer streams names) (next : IsNext layer most (name_of_slot (slot_numbered layer number)) (name_of_slot slot)) where
  row_leads : (q n : ℕ) → name_of_slot (slot_of (entry_numbered q streams)) ≡ Some n → entry_numbered n names ≡ Some q
  row_leads q n is = go (cases_eq q number)
    where
      led : (q ≡ number → ⊥) → entry_numbered n layer.names ≡ Some q
      led apart = a.leads q n (sym (ap name_of_slot (row.apart q apart)) ∙ is)

      not_before : (q ≡ number → ⊥) → name_of_slot (slot_numbered layer number) ≡ Some n → ⊥
      not_before apart had =
          let here : entry_numbered n layer.names ≡ Some number = a.leads number n had in
          let there : entry_numbered n layer.names ≡ Some q = led apart in
          let same : q ≡ number = cc in apart same

      never : (q ≡ number → ⊥) → (name_of_slot (slot_numbered layer number) ≡ Some n) ⊎ IsFresh layer most n → ⊥
      never apart (inl had) = not_before apart had
      never apart (inr fresh) =
          let none : entry_numbered n layer.names ≡ None = fresh.no_stream in
          let there : entry_numbered n layer.names ≡ Some q = led apart in absurd cc

      go : (q ≡ number) ⊎ (q ≡ number → ⊥) → entry_numbered n names ≡ Some q
      go (inl same) =
          let there : name_of_slot (slot_of (entry_numbered number streams)) ≡ Some n = subst (λ (m : ℕ). name_of_slot (slot_of (entry_numbered m streams)) ≡ Some n) same is in
          row.gets n (sym (ap name_of_slot row.here) ∙ there) ∙ ap Some (sym same)
      go (inr apart) = row.other n (not_before apart) (λ (has : name_of_slot slot ≡ Some n). never apart (next n has)) ∙ led apart

  row_led_to : (n q : ℕ) → entry_numbered n names ≡ Some q → name_of_slot (slot_of (entry_numbered q streams)) ≡ Some n
  row_led_to n q at = by_after (is_named (name_of_slot slot) n)
    where
      elsewhere : (name_of_slot (slot_numbered layer number) ≡ Some n → ⊥) → name_of_slot (slot_numbered layer q) ≡ Some n → (q ≡ number) ⊎ (q ≡ number → ⊥) → name_of_slot (slot_of (entry_numbered q streams)) ≡ Some n
      elsewhere not_before has (inl same) = absurd (not_before (subst (λ (m : ℕ). name_of_slot (slot_numbered layer m) ≡ Some n) same has))
      elsewhere not_before has (inr apart) = ap name_of_slot (row.apart q apart) ∙ has

      by_before : (name_of_slot slot ≡ Some n → ⊥) → (name_of_slot (slot_numbered layer number) ≡ Some n) ⊎ (name_of_slot (slot_numbered layer number) ≡ Some n → ⊥) → name_of_slot (slot_of (entry_numbered q streams)) ≡ Some n
      by_before not_after (inl had) = let none : entry_numbered n names ≡ None = row.freed n had not_after in absurd cc
      by_before not_after (inr not_before) = elsewhere not_before (a.led_to n q (sym (row.other n not_before not_after) ∙ at)) (cases_eq q number)

      by_after : (name_of_slot slot ≡ Some n) ⊎ (name_of_slot slot ≡ Some n → ⊥) → name_of_slot (slot_of (entry_numbered q streams)) ≡ Some n
      by_after (inl has) =
          let here : entry_numbered n names ≡ Some number = row.gets n has in
          let same : number ≡ q = cc in
          subst (λ (m : ℕ). name_of_slot (slot_of (entry_numbered m streams)) ≡ Some n) same (ap name_of_slot row.here ∙ has)
      by_after (inr not_after) = by_before not_after (is_named (name_of_slot (slot_numbered layer number)) n)

  -- one that waits has no stream
  row_no_stream : (n : ℕ) → is_waiting n layer.waiting ≡ true → entry_numbered n names ≡ None
  row_no_stream n waits = by_after (is_named (name_of_slot slot) n)
    where
      never_had : name_of_slot (slot_numbered layer number) ≡ Some n → ⊥
      never_had had =
          let here : entry_numbered n layer.names ≡ Some number = a.leads number n had in
          let none : entry_numbered n layer.names ≡ None = a.no_stream n waits in absurd cc

      never : (name_of_slot (slot_numbered layer number) ≡ Some n) ⊎ IsFresh layer most n → ⊥
      never (inl had) = never_had had
      never (inr fresh) = true≢false (sym waits ∙ fresh.not_waiting)

      by_after : (name_of_slot slot ≡ Some n) ⊎ (name_of_slot slot ≡ Some n → ⊥) → entry_numbered n names ≡ None
      by_after (inl has) = absurd (never (next n has))
      by_after (inr not_after) = row.other n never_had not_after ∙ a.no_stream n waits

  row_was_named : (n q : ℕ) → entry_numbered n names ≡ Some q → n < most
  row_was_named n q at = by_after (is_named (name_of_slot slot) n)
    where
      from_layer : (k : ℕ) → entry_numbered n layer.names ≡ Some k → n < most
      from_layer k led = let below : n < layer.named = a.was_named n k led in omega arith

      of_next : (name_of_slot (slot_numbered layer number) ≡ Some n) ⊎ IsFresh layer most n → n < most
      of_next (inl had) = from_layer number (a.leads number n had)
      of_next (inr fresh) = fresh.is_below

      by_before : (name_of_slot slot ≡ Some n → ⊥) → (name_of_slot (slot_numbered layer number) ≡ Some n) ⊎ (name_of_slot (slot_numbered layer number) ≡ Some n → ⊥) → n < most
      by_before not_after (inl had) = from_layer number (a.leads number n had)
      by_before not_after (inr not_before) = from_layer q (sym (row.other n not_before not_after) ∙ at)

      by_after : (name_of_slot slot ≡ Some n) ⊎ (name_of_slot slot ≡ Some n → ⊥) → n < most
      by_after (inl has) = of_next (next n has)
      by_after (inr not_after) = by_before not_after (is_named (name_of_slot (slot_numbered layer number)) n)

  pub row_apart : IsInOrder streams names layer.waiting most
  row_apart =
      record {
        streams_rise = row.streams_rise;
        names_rise = row.names_rise;
        leads = row_leads;
        led_to = row_led_to;
        wait_apart = a.wait_apart;
        no_stream = row_no_stream;
        was_named = row_was_named;
        waits_named = λ n waits. let below : n < layer.named = a.waits_named n waits in omega arith;
      }
