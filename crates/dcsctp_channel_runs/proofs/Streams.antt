-- Each channel has one stream, from when it gets it until it is over.
use Rattle.std.proofs.Common.{◌≡◌, ◌<◌, ◌⊎◌, ℕ, true, false, Option, Some, None, List, [], ◌∷◌, ◌++◌, refl, sym, ap, subst, ◌∙◌, inl, inr}
use Rattle.dcsctp_delivery_directions.specs.sending.Places.{HasEntry}
use Rattle.dcsctp_channel_calls.specs.declared.channel.HeldStream.{HeldStream}
use Rattle.dcsctp_channel_calls.specs.Queries.{is_waiting}
use Rattle.dcsctp_channel_calls.specs.View.{WaitingChannel, LayerView, entry_numbered}
use Rattle.dcsctp_channel_laws.specs.Lives.{IsInOrder, IsOrderly}
use Rattle.dcsctp_channel_runs.proofs.Lasting.{GoesOn, goes_on_same}

-- ---- where a channel is

-- the channel of this name has this stream
abbrev pub IsOn : LayerView → ℕ → ℕ → Type 0
IsOn layer name number = entry_numbered name layer.names ≡ Some number

-- it is over
pub record IsGone (layer : LayerView) (name : ℕ) : Type 0 where
  pub no_stream : entry_numbered name layer.names ≡ None
  pub not_waiting : is_waiting name layer.waiting ≡ false
  pub named : name < layer.named

abbrev pub IsOnOrGone : LayerView → ℕ → ℕ → Type 0
IsOnOrGone layer name number = IsOn layer name number ⊎ IsGone layer name

-- it has no stream yet
pub record IsToCome (layer : LayerView) (name : ℕ) : Type 0 where
  pub no_stream : entry_numbered name layer.names ≡ None
  pub not_gone : IsGone layer name → ⊥

-- From the one layer to the other each channel keeps its stream, until it is over. These channels had these streams between.
pub record KeepStreams (pairs : List (ℕ × ℕ)) (old new : LayerView) : Type 0 where
  pub orderly : IsOrderly new
  pub stays : (name number : ℕ) → IsOn old name number → IsOnOrGone new name number
  pub gone : (name : ℕ) → IsGone old name → IsGone new name
  pub after : (name number : ℕ) → HasEntry (name, number) pairs → IsOnOrGone new name number
  pub before : (name number : ℕ) → HasEntry (name, number) pairs → IsOn old name number ⊎ IsToCome old name
  pub one : (name number other : ℕ) → HasEntry (name, number) pairs → HasEntry (name, other) pairs → number ≡ other
  pub lasts : (name number : ℕ) → IsOn old name number → IsOn new name number → GoesOn old new number
  pub over : old.over ≡ true → new.over ≡ true

abbrev pub Keeping : List (ℕ × ℕ) → LayerView → LayerView → Type 0
Keeping pairs old new = IsOrderly old → KeepStreams pairs old new

-- ---- one after another

pub same_stream : (layer : LayerView) (name number other : ℕ) → IsOn layer name number → IsOn layer name other → number ≡ other
same_stream layer name number other first second = let both : Some number ≡ Some other = sym first ∙ second in cc

pub on_not_gone : (layer : LayerView) (name number : ℕ) → IsOn layer name number → IsGone layer name → ⊥
on_not_gone layer name number on gone = let both : Some number ≡ None = sym on ∙ gone.no_stream in absurd cc

pub on_not_to_come : (layer : LayerView) (name number : ℕ) → IsOn layer name number → IsToCome layer name → ⊥
on_not_to_come layer name number on later = let both : Some number ≡ None = sym on ∙ later.no_stream in absurd cc

-- What had a stream or was to come between had it or was to come before.
before_from : (pairs : List (ℕ × ℕ)) (a b : LayerView) (name number : ℕ) → KeepStreams pairs a b → IsOn b name number ⊎ IsToCome b name → IsOn a name number ⊎ IsToCome a name
before_from pairs a b name number keeps side = by (entry_numbered name a.names) refl
  where
    same_there : (k : ℕ) → IsOn a name k → IsOnOrGone b name k → IsOn b name number ⊎ IsToCome b name → IsOn a name number
    same_there k on (inl there) (inl led) = subst (λ (n : ℕ). IsOn a name n) (same_stream b name k number there led) on
    same_there k on (inl there) (inr later) = absurd (on_not_to_come b name k there later)
    same_there k on (inr gone) (inl led) = absurd (on_not_gone b name number led gone)
    same_there k on (inr gone) (inr later) = absurd (later.not_gone gone)

    never : IsOn b name number ⊎ IsToCome b name → IsGone b name → ⊥
    never (inl led) gone = on_not_gone b name number led gone
    never (inr later) gone = later.not_gone gone

    by : (at : Option ℕ) → entry_numbered name a.names ≡ at → IsOn a name number ⊎ IsToCome a name
    by (Some k) is = inl (same_there k is (keeps.stays name k is) side)
    by None is = inr (record { no_stream = is; not_gone = λ gone. never side (keeps.gone name gone) })

-- the entry is in the one list or in the other
entry_in : (entry : ℕ × ℕ) (xs ys : List (ℕ × ℕ)) → HasEntry entry (xs ++ ys) → HasEntry entry xs ⊎ HasEntry entry ys
entry_in entry [] ys has = inr has
entry_in entry (x ∷ xs) ys (inl is) = inl (inl is)
entry_in entry (x ∷ xs) ys (inr has) = behind (entry_in entry xs ys has)
  where
    behind : HasEntry entry xs ⊎ HasEntry entry ys → HasEntry entry (x ∷ xs) ⊎ HasEntry entry ys
    behind (inl there) = inl (inr there)
    behind (inr there) = inr there

module _ (ps qs : List (ℕ × ℕ)) (a b c : LayerView) (first : KeepStreams ps a b) (second : KeepStreams qs b c) where
  stays_on : (name number : ℕ) → IsOnOrGone b name number → IsOnOrGone c name number
  stays_on name number (inl on) = second.stays name number on
  stays_on name number (inr gone) = inr (second.gone name gone)

  after_both : (name number : ℕ) → HasEntry (name, number) ps ⊎ HasEntry (name, number) qs → IsOnOrGone c name number
  after_both name number (inl has) = stays_on name number (first.after name number has)
  after_both name number (inr has) = second.after name number has

  before_both : (name number : ℕ) → HasEntry (name, number) ps ⊎ HasEntry (name, number) qs → IsOn a name number ⊎ IsToCome a name
  before_both name number (inl has) = first.before name number has
  before_both name number (inr has) = before_from ps a b name number first (second.before name number has)

  meet : (name number other : ℕ) → IsOnOrGone b name number → IsOn b name other ⊎ IsToCome b name → number ≡ other
  meet name number other (inl on) (inl led) = same_stream b name number other on led
  meet name number other (inl on) (inr later) = absurd (on_not_to_come b name number on later)
  meet name number other (inr gone) (inl led) = absurd (on_not_gone b name other led gone)
  meet name number other (inr gone) (inr later) = absurd (later.not_gone gone)

  one_of_both : (name number other : ℕ) → HasEntry (name, number) ps ⊎ HasEntry (name, number) qs → HasEntry (name, other) ps ⊎ HasEntry (name, other) qs → number ≡ other
  one_of_both name number other (inl here) (inl there) = first.one name number other here there
  one_of_both name number other (inl here) (inr there) = meet name number other (first.after name number here) (second.before name other there)
  one_of_both name number other (inr here) (inl there) = sym (meet name other number (first.after name other there) (second.before name number here))
  one_of_both name number other (inr here) (inr there) = second.one name number other here there

  lasts_both : (name number : ℕ) → IsOnOrGone b name number → IsOn a name number → IsOn c name number → GoesOn a c number
  lasts_both name number (inl on) before now =
      let one = first.lasts name number before on in
      let other = second.lasts name number on now in
      record { delivery = other.delivery ∙ one.delivery; closing = λ was. other.closing (one.closing was) }
  lasts_both name number (inr gone) before now = absurd (on_not_gone c name number now (second.gone name gone))

  pub keep_then : KeepStreams (ps ++ qs) a c
  keep_then =
      record {
        orderly = second.orderly;
        stays = λ name number on. stays_on name number (first.stays name number on);
        gone = λ name gone. second.gone name (first.gone name gone);
        after = λ name number has. after_both name number (entry_in (name, number) ps qs has);
        before = λ name number has. before_both name number (entry_in (name, number) ps qs has);
        one = λ name number other here there. one_of_both name number other (entry_in (name, number) ps qs here) (entry_in (name, other) ps qs there);
        lasts = λ name number before now. lasts_both name number (first.stays name number before) before now;
        over = λ was. second.over (first.over was);
      }

pub keeping_then : (ps qs : List (ℕ × ℕ)) (a b c : LayerView) → Keeping ps a b → Keeping qs b c → Keeping (ps ++ qs) a c
keeping_then ps qs a b c first second orderly = keep_then ps qs a b c (first orderly) (second (first orderly).orderly)

-- each channel keeps its stream, and none is noted
pub keep_plainly : (old new : LayerView) → IsOrderly new → ((name number : ℕ) → IsOn old name number → IsOnOrGone new name number) → ((name : ℕ) → IsGone old name → IsGone new name)
    → ((name number : ℕ) → IsOn old name number → IsOn new name number → GoesOn old new number) → (old.over ≡ true → new.over ≡ true) → KeepStreams [] old new
keep_plainly old new orderly stays gone lasts over =
    record {
      orderly = orderly;
      stays = stays;
      gone = gone;
      after = λ name number has. absurd has;
      before = λ name number has. absurd has;
      one = λ name number other has. absurd has;
      lasts = lasts;
      over = over;
    }

-- where a channel was, that has this stream at some time
abbrev pub IsPlaced : LayerView → ℕ → ℕ → Type 0
IsPlaced layer name number = IsOnOrGone layer name number ⊎ IsToCome layer name

pub keep_plain : {pairs : List (ℕ × ℕ)} {old new : LayerView} → KeepStreams pairs old new → KeepStreams [] old new
keep_plain {old = old} {new = new} keeps = keep_plainly old new keeps.orderly keeps.stays keeps.gone keeps.lasts keeps.over

-- Channels that have their streams later were there, or were to come.
pub placed_later : (ps qs : List (ℕ × ℕ)) (first now : LayerView) → KeepStreams [] first now → ((name number : ℕ) → HasEntry (name, number) qs → IsOn now name number ⊎ IsToCome now name)
    → ((name number : ℕ) → HasEntry (name, number) ps → IsPlaced first name number) → (name number : ℕ) → HasEntry (name, number) (ps ++ qs) → IsPlaced first name number
placed_later ps qs first now keeps before placed name number has = by (entry_in (name, number) ps qs has)
  where
    earlier : IsOn first name number ⊎ IsToCome first name → IsPlaced first name number
    earlier (inl on) = inl (inl on)
    earlier (inr later) = inr later

    by : HasEntry (name, number) ps ⊎ HasEntry (name, number) qs → IsPlaced first name number
    by (inl there) = placed name number there
    by (inr there) = earlier (before_from [] first now name number keeps (before name number there))

-- ---- nothing is noted between

-- All is as before, as far as channels and streams go.
pub same_keeps : (old new : LayerView) → new.streams ≡ old.streams → new.names ≡ old.names → new.waiting ≡ old.waiting → new.named ≡ old.named → (old.over ≡ true → new.over ≡ true) → Keeping [] old new
same_keeps old new streams names waiting named over orderly =
    keep_plainly old new
    (subst (λ (s : List (ℕ × HeldStream)). IsInOrder s new.names new.waiting new.named) (sym streams)
    (subst (λ (n : List (ℕ × ℕ)). IsInOrder old.streams n new.waiting new.named) (sym names)
    (subst (λ (w : List WaitingChannel). IsInOrder old.streams old.names w new.named) (sym waiting)
    (subst (λ (n : ℕ). IsInOrder old.streams old.names old.waiting n) (sym named) orderly))))
    (λ name number on. inl (ap (entry_numbered name) names ∙ on))
    (λ name gone. record {
      no_stream = ap (entry_numbered name) names ∙ gone.no_stream;
      not_waiting = ap (is_waiting name) waiting ∙ gone.not_waiting;
      named = subst (λ (n : ℕ). name < n) (sym named) gone.named;
    })
    (λ name number before now. goes_on_same old new number (ap (entry_numbered number) streams)) over

-- ---- one channel is noted

noted_is : (name number n k : ℕ) → HasEntry {A = ℕ × ℕ} (n, k) ((name, number) ∷ []) → (n ≡ name) × (k ≡ number)
noted_is name number n k (inl is) = (ap (λ (p : ℕ × ℕ). p.0) is, ap (λ (p : ℕ × ℕ). p.1) is)
noted_is name number n k (inr has) = absurd has

note : (name number : ℕ) (old new : LayerView) → IsOnOrGone new name number → IsOn old name number ⊎ IsToCome old name → KeepStreams [] old new → KeepStreams ((name, number) ∷ []) old new
note name number old new there here keeps =
    record {
      orderly = keeps.orderly;
      stays = keeps.stays;
      gone = keeps.gone;
      after = λ n k has. let is = noted_is name number n k has in subst (λ (m : ℕ). IsOnOrGone new m k) (sym is.0) (subst (λ (m : ℕ). IsOnOrGone new name m) (sym is.1) there);
      before = λ n k has. let is = noted_is name number n k has in subst (λ (m : ℕ). IsOn old m k ⊎ IsToCome old m) (sym is.0) (subst (λ (m : ℕ). IsOn old name m ⊎ IsToCome old name) (sym is.1) here);
      one = λ n k other first second. (noted_is name number n k first).1 ∙ sym (noted_is name number n other second).1;
      lasts = keeps.lasts;
      over = keeps.over;
    }

-- It had its stream before,
pub note_before : (name number : ℕ) (old new : LayerView) → (IsOrderly old → IsOn old name number) → Keeping [] old new → Keeping ((name, number) ∷ []) old new
note_before name number old new on keeping orderly =
    let keeps = keeping orderly in note name number old new (keeps.stays name number (on orderly)) (inl (on orderly)) keeps

-- or has it after.
pub note_after : (name number : ℕ) (old new : LayerView) → (IsOrderly old → IsOn new name number) → Keeping [] old new → Keeping ((name, number) ∷ []) old new
note_after name number old new on keeping orderly =
    let keeps = keeping orderly in
    note name number old new (inl (on orderly)) (before_from [] old new name number keeps (inl (on orderly))) keeps

-- ---- a channel that is to come

-- It isn't one that has, or had, a stream.
pub to_come_else : (layer : LayerView) (name other number : ℕ) → IsOnOrGone layer name number → IsToCome layer other → other ≡ name → ⊥
to_come_else layer name other number (inl on) later same = on_not_to_come layer other number (subst (λ (n : ℕ). IsOn layer n number) (sym same) on) later
to_come_else layer name other number (inr gone) later same = later.not_gone (subst (λ (n : ℕ). IsGone layer n) (sym same) gone)

-- It was so before.
pub to_come_before : (pairs : List (ℕ × ℕ)) (old new : LayerView) (name : ℕ) → KeepStreams pairs old new → IsToCome new name → IsToCome old name
to_come_before pairs old new name keeps later = by (entry_numbered name old.names) refl
  where
    never : (k : ℕ) → IsOnOrGone new name k → ⊥
    never k (inl on) = on_not_to_come new name k on later
    never k (inr gone) = later.not_gone gone

    by : (at : Option ℕ) → entry_numbered name old.names ≡ at → IsToCome old name
    by (Some k) is = absurd (never k (keeps.stays name k is))
    by None is = record { no_stream = is; not_gone = λ gone. later.not_gone (keeps.gone name gone) }
