-- What polls gave is the first part of what was to be told.
use Rattle.dcsctp_delivery_directions.specs.sending.Places.{HasEntry}
use Rattle.dcsctp_channel_calls.specs.messages.channel_spec.Contents.{ChannelContent}
use Rattle.dcsctp_channel_runs.specs.Opened.{EachToLater, IsSaidBefore, IsSentOn, IsSaidApart, WereSaid, WereHeard, HaveOpeners, WereOpened}
use Rattle.dcsctp_channel_runs.specs.Acts.{OpenedChannel, NamedContent, contents_named, contents_on, SaidContent}
use Rattle.dcsctp_channel_runs.proofs.Picking.{each_other, are_distinct}
use Rattle.dcsctp_channel_runs.specs.Prefixes.{IsPrefixOfSaid}
use Rattle.std.specs.Prelude.{slice_get}
use Rattle.std.proofs.Common.{◌≡◌, ◌==◌, ◌<◌, arith, Some, ℕ, Bool, true, false, List, [], ◌∷◌, ◌++◌, if◌then◌else◌, refl, ap, inl, inr}

-- ---- what was given is the first part of that

-- some of these numbers, the first ones, which stand to one another as all do
pub record FirstOf (Stand : ℕ → ℕ → Type 0) (all : List ℕ) : Type 0 where
  pub first : List ℕ
  pub among : (n : ℕ) → HasEntry n first → HasEntry n all
  pub stand : EachToLater Stand all → EachToLater Stand first

pub no_first : (Stand : ℕ → ℕ → Type 0) (all : List ℕ) → FirstOf Stand all
no_first Stand all = record { first = []; among = λ n has. absurd has; stand = λ each. tt }

pub more_first : (Stand : ℕ → ℕ → Type 0) (n : ℕ) (all : List ℕ) → FirstOf Stand all → FirstOf Stand (n ∷ all)
more_first Stand n all others =
    record { first = n ∷ others.first; among = λ k has. here k has; stand = λ each. ((λ later has. each.0 later (others.among later has)), others.stand each.1) }
  where
    here : (k : ℕ) → HasEntry k (n ∷ others.first) → HasEntry k (n ∷ all)
    here k (inl is) = inl is
    here k (inr has) = inr (others.among k has)

pub opened_first : (IsOne : OpenedChannel → ℕ → Type 0) (opened xs ys : List OpenedChannel) (names : List ℕ) → HaveOpeners IsOne opened names (xs ++ ys) → (front : FirstOf IsSaidApart names) × HaveOpeners IsOne opened front.first xs
unfolding no_first more_first
opened_first IsOne opened [] ys names have = (no_first IsSaidApart names, tt)
opened_first IsOne opened (x ∷ xs) ys [] have = absurd have
opened_first IsOne opened (x ∷ xs) ys (name ∷ names) have = let others = opened_first IsOne opened xs ys names have.2 in (more_first IsSaidApart name names others.0, (have.0, have.1, others.1))

pub said_first : (Stand : ℕ → ℕ → Type 0) (IsFrom : SaidContent → ChannelContent → Type 0) (said : List SaidContent) (xs ys : List ChannelContent) (places : List ℕ) → WereSaid IsFrom said places (xs ++ ys)
    → (front : FirstOf Stand places) × WereSaid IsFrom said front.first xs
unfolding no_first more_first
said_first Stand IsFrom said [] ys places were = (no_first Stand places, tt)
said_first Stand IsFrom said (x ∷ xs) ys [] were = absurd were
said_first Stand IsFrom said (x ∷ xs) ys (place ∷ places) were = let others = said_first Stand IsFrom said xs ys places were.1 in (more_first Stand place places others.0, (were.0, others.1))

pub opened_front : (IsOne : OpenedChannel → ℕ → Type 0) (opened xs ys : List OpenedChannel) → WereOpened IsOne opened (xs ++ ys) → WereOpened IsOne opened xs
opened_front IsOne opened xs ys were =
    let front = opened_first IsOne opened xs ys were.names were.openers in
    record { names = front.0.first; openers = front.1; once = are_distinct front.0.first (front.0.stand (each_other were.names were.once)) }

pub heard_front : (Stand : ℕ → ℕ → Type 0) (IsFrom : SaidContent → ChannelContent → Type 0) (said : List SaidContent) (xs ys : List ChannelContent) → WereHeard Stand IsFrom said (xs ++ ys) → WereHeard Stand IsFrom said xs
heard_front Stand IsFrom said xs ys were =
    let front = said_first Stand IsFrom said xs ys were.places were.were_said in record { places = front.0.first; were_said = front.1; stand = front.0.stand were.stand }

pub named-append : (xs ys : List NamedContent) → contents_named (xs ++ ys) ≡ contents_named xs ++ contents_named ys
named-append [] ys = refl
named-append (x ∷ xs) ys = ap (λ (l : List ChannelContent). x.content ∷ l) (named-append xs ys)

pub on-append : (name : ℕ) (xs ys : List NamedContent) → contents_on name (xs ++ ys) ≡ contents_on name xs ++ contents_on name ys
on-append name [] ys = refl
on-append name (x ∷ xs) ys = by (x.name == name) (on-append name xs ys)
  where
    by : (b : Bool) → contents_on name (xs ++ ys) ≡ contents_on name xs ++ contents_on name ys
        → (if b then x.content ∷ contents_on name (xs ++ ys) else contents_on name (xs ++ ys)) ≡ (if b then x.content ∷ contents_on name xs else contents_on name xs) ++ contents_on name ys
    by true others = ap (λ (l : List ChannelContent). x.content ∷ l) others
    by false others = others

-- ---- prefixes

-- the first of these places, with all that are less
pub record FirstRising (IsFrom : SaidContent → ChannelContent → Type 0) (said : List SaidContent) (all : List ℕ) (heard : List ChannelContent) : Type 0 where
  pub first : List ℕ
  pub were : WereSaid IsFrom said first heard
  pub among : (n : ℕ) → HasEntry n first → HasEntry n all
  pub rise : EachToLater IsSaidBefore first
  pub lower : (earlier later : ℕ) → HasEntry later first → HasEntry earlier all → earlier < later → HasEntry earlier first

one_more_rising : (IsFrom : SaidContent → ChannelContent → Type 0) (said : List SaidContent) (x : ChannelContent) (xs : List ChannelContent) (place : ℕ) (places : List ℕ)
    → ((one : SaidContent) × (slice_get said place ≡ Some one) × IsFrom one x) → ((later : ℕ) → HasEntry later places → place < later) → FirstRising IsFrom said places xs → FirstRising IsFrom said (place ∷ places) (x ∷ xs)
one_more_rising IsFrom said x xs place places was above others =
    record { first = place ∷ others.first; were = (was, others.were); among = λ n has. here n has; rise = ((λ later has. above later (others.among later has)), others.rise); lower = lower }
  where
    here : (n : ℕ) → HasEntry n (place ∷ others.first) → HasEntry n (place ∷ places)
    here n (inl is) = inl is
    here n (inr has) = inr (others.among n has)

    lower : (earlier later : ℕ) → HasEntry later (place ∷ others.first) → HasEntry earlier (place ∷ places) → earlier < later → HasEntry earlier (place ∷ others.first)
    lower earlier later has (inl is) less = inl is
    lower earlier later (inl is) (inr there) less = let higher : place < earlier = above earlier there in absurd (omega arith)
    lower earlier later (inr has) (inr there) less = inr (others.lower earlier later has there less)

first_rising : (IsFrom : SaidContent → ChannelContent → Type 0) (said : List SaidContent) (xs ys : List ChannelContent) (places : List ℕ) → WereSaid IsFrom said places (xs ++ ys) → EachToLater IsSaidBefore places
    → FirstRising IsFrom said places xs
first_rising IsFrom said [] ys places were rise = record { first = []; were = tt; among = λ n has. absurd has; rise = tt; lower = λ earlier later has. absurd has }
first_rising IsFrom said (x ∷ xs) ys [] were rise = absurd were
first_rising IsFrom said (x ∷ xs) ys (place ∷ places) were rise = one_more_rising IsFrom said x xs place places were.0 rise.0 (first_rising IsFrom said xs ys places were.1 rise.1)

pub prefix_front : (name : ℕ) (said : List SaidContent) (xs ys : List ChannelContent) → IsPrefixOfSaid name said (xs ++ ys) → IsPrefixOfSaid name said xs
prefix_front name said xs ys prefix =
    let front = first_rising (IsSentOn name) said xs ys prefix.places prefix.were_said prefix.in_order in
    record {
      places = front.first;
      were_said = front.were;
      in_order = front.rise;
      no_gap = λ earlier later has is less. front.lower earlier later has (prefix.no_gap earlier later (front.among later has) is less) less;
    }
