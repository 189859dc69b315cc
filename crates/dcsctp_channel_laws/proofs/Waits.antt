-- Channels that wait: one more, one fewer, and none.
use Rattle.std.proofs.Common.{◌≡◌, ◌==◌, ◌⊎◌, ℕ, Bool, true, false, List, [], ◌∷◌, ◌++◌, refl, sym, ap, subst, ◌∙◌, inl, inr, if◌then◌else◌}
use Rattle.std.proofs.lemmas.Bool.{eqb-true, eqb-false, eq-eqb, ne_eqb, cases_eq, true≢false}
use Rattle.dcsctp_channel_calls.specs.messages.channel_spec.declared.types.ChannelEnd.TheVariants.{Closed, Lost}
use Rattle.dcsctp_channel_calls.specs.messages.channel_spec.Slots.{ended}
use Rattle.dcsctp_channel_calls.specs.declared.channel.HeldStream.{HeldStream}
use Rattle.dcsctp_channel_calls.specs.View.{WaitingChannel, of_channel}
use Rattle.dcsctp_channel_calls.specs.Queries.{is_waiting}
use Rattle.dcsctp_channel_calls.specs.Sending.{without_waiting, ends_waiting}
use Rattle.dcsctp_channel_calls.specs.Events.{lost_waiting}
use Rattle.dcsctp_channel_laws.specs.Lives.{WaitApart, IsInOrder, Life, lasting, gone, Hears}
use Rattle.dcsctp_channel_laws.proofs.Telling.{ends_now, ends_other}

-- ---- the first of them

pub head_waits : (waits : WaitingChannel) (rest : List WaitingChannel) (n : ℕ) → waits.name ≡ n → is_waiting n (waits ∷ rest) ≡ true
head_waits waits rest n same = ap (λ (b : Bool). if b then true else is_waiting n rest) (eq-eqb waits.name n same)

pub past_head : (waits : WaitingChannel) (rest : List WaitingChannel) (n : ℕ) → (waits.name ≡ n → ⊥) → is_waiting n (waits ∷ rest) ≡ is_waiting n rest
past_head waits rest n apart = ap (λ (b : Bool). if b then true else is_waiting n rest) (ne_eqb waits.name n apart)

-- one that doesn't wait isn't the first, and isn't behind it
pub not_head : (waits : WaitingChannel) (rest : List WaitingChannel) (n : ℕ) → is_waiting n (waits ∷ rest) ≡ false → waits.name ≡ n → ⊥
not_head waits rest n is same = true≢false (sym (head_waits waits rest n same) ∙ is)

pub not_behind : (waits : WaitingChannel) (rest : List WaitingChannel) (n : ℕ) → is_waiting n (waits ∷ rest) ≡ false → is_waiting n rest ≡ false
not_behind waits rest n is = sym (past_head waits rest n (not_head waits rest n is)) ∙ is

pub waits_behind : (waits : WaitingChannel) (rest : List WaitingChannel) (n : ℕ) → is_waiting n rest ≡ true → is_waiting n (waits ∷ rest) ≡ true
waits_behind waits rest n is = by (cases_eq waits.name n)
  where
    by : (waits.name ≡ n) ⊎ (waits.name ≡ n → ⊥) → is_waiting n (waits ∷ rest) ≡ true
    by (inl same) = head_waits waits rest n same
    by (inr apart) = past_head waits rest n apart ∙ is

pub first_out : (streams : List (ℕ × HeldStream)) (names : List (ℕ × ℕ)) (waits : WaitingChannel) (rest : List WaitingChannel) (named : ℕ) → IsInOrder streams names (waits ∷ rest) named
    → IsInOrder streams names rest named
first_out streams names waits rest named a =
    record {
      streams_rise = a.streams_rise;
      names_rise = a.names_rise;
      leads = a.leads;
      led_to = a.led_to;
      wait_apart = a.wait_apart.1;
      no_stream = λ n is. a.no_stream n (waits_behind waits rest n is);
      was_named = a.was_named;
      waits_named = λ n is. a.waits_named n (waits_behind waits rest n is);
    }

-- ---- one more

pub last_waits : (xs : List WaitingChannel) (w : WaitingChannel) (n : ℕ) → w.name ≡ n → is_waiting n (xs ++ w ∷ []) ≡ true
last_waits [] w n same = head_waits w [] n same
last_waits (x ∷ xs) w n same = waits_behind x (xs ++ w ∷ []) n (last_waits xs w n same)

pub before_last : (xs : List WaitingChannel) (w : WaitingChannel) (n : ℕ) → (w.name ≡ n → ⊥) → is_waiting n (xs ++ w ∷ []) ≡ is_waiting n xs
before_last [] w n apart = past_head w [] n apart
before_last (x ∷ xs) w n apart = ap (λ (b : Bool). if x.name == n then true else b) (before_last xs w n apart)

pub apart_with_last : (xs : List WaitingChannel) (w : WaitingChannel) → WaitApart xs → is_waiting w.name xs ≡ false → WaitApart (xs ++ w ∷ [])
apart_with_last [] w apart is = (refl, tt)
apart_with_last (x ∷ xs) w (first, rest) is =
    (before_last xs w x.name (λ (s : w.name ≡ x.name). not_head x xs w.name is (sym s)) ∙ first, apart_with_last xs w rest (not_behind x xs w.name is))

-- ---- one is closed

pub without_other : (name : ℕ) (xs : List WaitingChannel) (n : ℕ) → (name ≡ n → ⊥) → is_waiting n (without_waiting name xs) ≡ is_waiting n xs
without_other name [] n apart = refl
without_other name (x ∷ xs) n apart = by (x.name == name) refl (without_other name xs n apart)
  where
    by : (b : Bool) → (x.name == name) ≡ b → is_waiting n (without_waiting name xs) ≡ is_waiting n xs → is_waiting n (if b then xs else x ∷ without_waiting name xs) ≡ is_waiting n (x ∷ xs)
    by true is rest = sym (past_head x xs n (λ (s : x.name ≡ n). apart (sym (eqb-true x.name name is) ∙ s)))
    by false is rest = ap (λ (b : Bool). if x.name == n then true else b) rest

pub without_itself : (name : ℕ) (xs : List WaitingChannel) → WaitApart xs → is_waiting name (without_waiting name xs) ≡ false
without_itself name [] apart = refl
without_itself name (x ∷ xs) (first, rest) = by (x.name == name) refl (without_itself name xs rest)
  where
    by : (b : Bool) → (x.name == name) ≡ b → is_waiting name (without_waiting name xs) ≡ false → is_waiting name (if b then xs else x ∷ without_waiting name xs) ≡ false
    by true is more = subst (λ (m : ℕ). is_waiting m xs ≡ false) (eqb-true x.name name is) first
    by false is more = past_head x (without_waiting name xs) name (eqb-false x.name name is) ∙ more

pub still_not : (name : ℕ) (xs : List WaitingChannel) (n : ℕ) → WaitApart xs → is_waiting n xs ≡ false → is_waiting n (without_waiting name xs) ≡ false
still_not name xs n apart is = by (cases_eq name n)
  where
    by : (name ≡ n) ⊎ (name ≡ n → ⊥) → is_waiting n (without_waiting name xs) ≡ false
    by (inl same) = subst (λ (m : ℕ). is_waiting m (without_waiting name xs) ≡ false) same (without_itself name xs apart)
    by (inr other) = without_other name xs n other ∙ is

pub apart_without : (name : ℕ) (xs : List WaitingChannel) → WaitApart xs → WaitApart (without_waiting name xs)
apart_without name [] apart = tt
apart_without name (x ∷ xs) (first, rest) = by (x.name == name) (apart_without name xs rest)
  where
    by : (b : Bool) → WaitApart (without_waiting name xs) → WaitApart (if b then xs else x ∷ without_waiting name xs)
    by true more = rest
    by false more = (still_not name xs x.name rest first, more)

pub none_closed : (name : ℕ) (xs : List WaitingChannel) → is_waiting name xs ≡ false → ends_waiting name xs ≡ []
none_closed name [] is = refl
none_closed name (x ∷ xs) is =
    ap (λ (b : Bool). if b then of_channel (ended name Closed) ∷ [] else ends_waiting name xs) (ne_eqb x.name name (not_head x xs name is)) ∙ none_closed name xs (not_behind x xs name is)

pub one_closed : (name : ℕ) (xs : List WaitingChannel) → is_waiting name xs ≡ true → ends_waiting name xs ≡ of_channel (ended name Closed) ∷ []
one_closed name [] is = absurd cc
one_closed name (x ∷ xs) is = by (cases_eq x.name name) (λ (waits : is_waiting name xs ≡ true). one_closed name xs waits)
  where
    by : (x.name ≡ name) ⊎ (x.name ≡ name → ⊥) → (is_waiting name xs ≡ true → ends_waiting name xs ≡ of_channel (ended name Closed) ∷ []) → ends_waiting name (x ∷ xs) ≡ of_channel (ended name Closed) ∷ []
    by (inl same) others = ap (λ (b : Bool). if b then of_channel (ended name Closed) ∷ [] else ends_waiting name xs) (eq-eqb x.name name same)
    by (inr apart) others =
        ap (λ (b : Bool). if b then of_channel (ended name Closed) ∷ [] else ends_waiting name xs) (ne_eqb x.name name apart)
        ∙ others (sym (past_head x xs name apart) ∙ is)

-- ---- all are over

pub lost_other : (xs : List WaitingChannel) (n : ℕ) (l : Life) → is_waiting n xs ≡ false → Hears n l (lost_waiting xs) l
lost_other [] n l is = refl
lost_other (x ∷ xs) n l is = ends_other n x.name Lost (lost_waiting xs) l l (not_head x xs n is) (lost_other xs n l (not_behind x xs n is))

pub lost_own : (xs : List WaitingChannel) (n : ℕ) → WaitApart xs → is_waiting n xs ≡ true → Hears n lasting (lost_waiting xs) gone
lost_own [] n apart is = absurd cc
lost_own (x ∷ xs) n (first, rest) is = by (cases_eq x.name n) (lost_own xs n rest)
  where
    by : (x.name ≡ n) ⊎ (x.name ≡ n → ⊥) → (is_waiting n xs ≡ true → Hears n lasting (lost_waiting xs) gone) → Hears n lasting (lost_waiting (x ∷ xs)) gone
    by (inl same) others = ends_now n x.name Lost (lost_waiting xs) gone same (lost_other xs n gone (subst (λ (m : ℕ). is_waiting m xs ≡ false) same first))
    by (inr apart) others = ends_other n x.name Lost (lost_waiting xs) lasting gone apart (others (sym (past_head x xs n apart) ∙ is))
