-- What a row of the table tells of each channel.
use Rattle.std.proofs.Common.{◌≡◌, ◌<◌, ◌≤◌, ◌==◌, ◌⊎◌, ℕ, ◌+◌, Bool, true, false, ◌||◌, Option, Some, None, is_some, nat_lt, List, [], ◌∷◌, ◌++◌, map, refl, sym, ap, subst, ◌∙◌, inl, inr, append_assoc, arith}
use Rattle.std.proofs.lemmas.Bool.{eq-eqb, ne_eqb, lt-ltb, le-ltb, cases_eq, cases_lt}
use Rattle.std.proofs.lemmas.List.{append-nil}
use Rattle.dcsctp_channel_calls.specs.messages.channel_spec.declared.types.ChannelEnd.{ChannelEnd}
use Rattle.dcsctp_channel_calls.specs.messages.channel_spec.declared.types.Delivery.{Delivery}
use Rattle.dcsctp_channel_calls.specs.messages.channel_spec.Slots.{Opening, StreamSlot, name_of_slot, Report, opened, incoming, message, ended, SlotInput, SlotOutcome}
use Rattle.dcsctp_channel_calls.specs.messages.channel_spec.Table.{reports_of}
use Rattle.dcsctp_channel_calls.specs.messages.channel_spec.Laws.{Speaks}
use Rattle.dcsctp_channel_calls.specs.declared.channel.HeldStream.{HeldStream}
use Rattle.dcsctp_channel_calls.specs.View.{WaitingChannel, ChannelNotice, of_channel, LayerView, entry_numbered, slot_numbered, taken_as}
use Rattle.dcsctp_channel_calls.specs.Queries.{is_waiting}
use Rattle.dcsctp_channel_laws.specs.Lives.{is_placed, IsOrderly, Life, unnamed, lasting, gone, life_by_place, life_of_channel, News, of_birth, of_life, of_end, news_if_same, news_of_channel, LivesOn, Hears, ReportsLives}
use Rattle.dcsctp_channel_laws.proofs.Rows.{GivesNoName}
use Rattle.dcsctp_channel_laws.proofs.Places.{is_named, IsFresh, IsNext, RowLeaves, row_leaves, row_apart}

-- ---- one thing after another

pub hears_then : (n : ℕ) (a : Life) (xs : List ChannelNotice) (b : Life) (ys : List ChannelNotice) (c : Life) → Hears n a xs b → Hears n b ys c → Hears n a (xs ++ ys) c
hears_then n a [] b ys c first second = subst (λ (l : Life). Hears n l ys c) first second
hears_then n a (x ∷ xs) b ys c first second = (first.0, first.1, hears_then n first.0 xs b ys c first.2 second)

pub tells_then : (before : ℕ → Life) (a b : LayerView) (taken : List ChannelNotice) (c : LayerView) → ReportsLives before a [] b → (IsOrderly b → ReportsLives (life_of_channel b) b taken c) → ReportsLives before a taken c
tells_then before a b taken c first rest =
    let second = rest first.apart in
    record {
      more = first.more ++ second.more;
      behind = second.behind ∙ ap (λ (ns : List ChannelNotice). ns ++ second.more) first.behind ∙ append_assoc a.notices first.more second.more;
      lives = λ n. hears_then n (before n) first.more (life_of_channel b n) second.more (life_of_channel c n) (first.lives n) (second.lives n);
      apart = second.apart;
    }

-- nothing is reported, and each channel is as before
pub tells_nothing : (old new : LayerView) → new.notices ≡ old.notices → ((n : ℕ) → life_of_channel new n ≡ life_of_channel old n) → IsOrderly new → ReportsLives (life_of_channel old) old [] new
tells_nothing old new same lives apart = record { more = []; behind = same ∙ sym (append-nil old.notices); lives = lives; apart = apart }

-- ---- of one channel

told_where : (n other : ℕ) (news : News) → other ≡ n → news_if_same (other == n) news ≡ Some news
told_where n other news same = ap (λ (b : Bool). news_if_same b news) (eq-eqb other n same)

told_of_other : (n other : ℕ) (news : News) → (other ≡ n → ⊥) → news_if_same (other == n) news ≡ None
told_of_other n other news apart = ap (λ (b : Bool). news_if_same b news) (ne_eqb other n apart)

pub not_told : (n : ℕ) (notice : ChannelNotice) (notices : List ChannelNotice) (a b : Life) → news_of_channel n notice ≡ None → Hears n a notices b → Hears n a (notice ∷ notices) b
not_told n notice notices a b is hears = (a, subst (λ (o : Option News). LivesOn o a a) (sym is) refl, hears)

pub lasts_on : (n : ℕ) (notice : ChannelNotice) (notices : List ChannelNotice) (b : Life) → news_of_channel n notice ≡ Some of_life → Hears n lasting notices b → Hears n lasting (notice ∷ notices) b
lasts_on n notice notices b is hears = (lasting, subst (λ (o : Option News). LivesOn o lasting lasting) (sym is) (refl, refl), hears)

pub ends_now : (n other : ℕ) (why : ChannelEnd) (notices : List ChannelNotice) (b : Life) → other ≡ n → Hears n gone notices b → Hears n lasting (of_channel (ended other why) ∷ notices) b
ends_now n other why notices b same hears = (gone, subst (λ (o : Option News). LivesOn o lasting gone) (sym (told_where n other of_end same)) (refl, refl), hears)

pub ends_other : (n other : ℕ) (why : ChannelEnd) (notices : List ChannelNotice) (a b : Life) → (other ≡ n → ⊥) → Hears n a notices b → Hears n a (of_channel (ended other why) ∷ notices) b
ends_other n other why notices a b apart hears = not_told n (of_channel (ended other why)) notices a b (told_of_other n other of_end apart) hears

comes_now : (n other : ℕ) (opening : Opening) → other ≡ n → Hears n unnamed (of_channel (incoming other opening) ∷ []) lasting
comes_now n other opening same = (lasting, subst (λ (o : Option News). LivesOn o unnamed lasting) (sym (told_where n other of_birth same)) (refl, refl), refl)

comes_other : (n other : ℕ) (opening : Opening) (a : Life) → (other ≡ n → ⊥) → Hears n a (of_channel (incoming other opening) ∷ []) a
comes_other n other opening a apart = not_told n (of_channel (incoming other opening)) [] a a (told_of_other n other of_birth apart) refl

pub hears_as : (n : ℕ) (a a' : Life) (notices : List ChannelNotice) (b b' : Life) → a' ≡ a → b' ≡ b → Hears n a notices b → Hears n a' notices b'
hears_as n a a' notices b b' first last hears = subst (λ (l : Life). Hears n l notices b') (sym first) (subst (λ (l : Life). Hears n a notices l) (sym last) hears)

-- ---- lives by places

or_true : (b : Bool) → (b || true) ≡ true
or_true true = refl
or_true false = refl

pub lives_placed : (names : List (ℕ × ℕ)) (waiting : List WaitingChannel) (n number : ℕ) (is_below : Bool) → entry_numbered n names ≡ Some number → life_by_place (is_placed names waiting n) is_below ≡ lasting
lives_placed names waiting n number is_below at =
    ap (λ (o : Option ℕ). life_by_place (is_waiting n waiting || is_some o) is_below) at ∙ ap (λ (b : Bool). life_by_place b is_below) (or_true (is_waiting n waiting))

pub lives_waiting : (names : List (ℕ × ℕ)) (waiting : List WaitingChannel) (n : ℕ) (is_below : Bool) → is_waiting n waiting ≡ true → life_by_place (is_placed names waiting n) is_below ≡ lasting
lives_waiting names waiting n is_below waits = ap (λ (b : Bool). life_by_place (b || is_some (entry_numbered n names)) is_below) waits

pub lives_nowhere : (names : List (ℕ × ℕ)) (waiting : List WaitingChannel) (n named : ℕ) → is_waiting n waiting ≡ false → entry_numbered n names ≡ None → n < named → life_by_place (is_placed names waiting n) (nat_lt n named) ≡ gone
lives_nowhere names waiting n named not_waiting none below =
    ap (λ (b : Bool). life_by_place (b || is_some (entry_numbered n names)) (nat_lt n named)) not_waiting
    ∙ ap (λ (o : Option ℕ). life_by_place (is_some o) (nat_lt n named)) none ∙ ap (life_by_place false) (lt-ltb n named below)

-- ---- a row that gives no name

abbrev NoneSpeaks : Option ℕ → List Report → Type 0
NoneSpeaks b reports = (b ≡ None) × ((n : ℕ) (l : Life) → Hears n l (map of_channel reports) l)

none_after : (b : Option ℕ) (reports : List Report) → Speaks None reports b → GivesNoName reports → NoneSpeaks b reports
none_after b [] s quiet = (sym s, λ n l. refl)
none_after b (opened o ∷ rs) s quiet = absurd s
none_after b (incoming o x ∷ rs) s quiet = absurd cc
none_after b (message o c ∷ rs) s quiet = absurd s
none_after b (ended o w ∷ rs) s quiet = absurd s

-- It goes on, or it has its end.
abbrev Fate : ℕ → Option ℕ → List ChannelNotice → Type 0
Fate n b notices = ((b ≡ Some n) × Hears n lasting notices lasting) ⊎ ((b ≡ None) × Hears n lasting notices gone)

fate_on : (n : ℕ) (b : Option ℕ) (notice : ChannelNotice) (notices : List ChannelNotice) → news_of_channel n notice ≡ Some of_life → Fate n b notices → Fate n b (notice ∷ notices)
fate_on n b notice notices is (inl (has, hears)) = inl (has, lasts_on n notice notices lasting is hears)
fate_on n b notice notices is (inr (none, hears)) = inr (none, lasts_on n notice notices gone is hears)

speaks_own : (n : ℕ) (b : Option ℕ) (reports : List Report) → Speaks (Some n) reports b → GivesNoName reports → Fate n b (map of_channel reports)
speaks_own n b [] s quiet = inl (sym s, refl)
speaks_own n b (opened o ∷ rs) (same, rest) quiet = fate_on n b (of_channel (opened o)) (map of_channel rs) (told_where n o of_life same) (speaks_own n b rs rest quiet)
speaks_own n b (incoming o x ∷ rs) s quiet = absurd s
speaks_own n b (message o c ∷ rs) (same, rest) quiet = fate_on n b (of_channel (message o c)) (map of_channel rs) (told_where n o of_life same) (speaks_own n b rs rest quiet)
speaks_own n b (ended o w ∷ rs) (same, rest) quiet =
    let none = none_after b rs rest quiet in inr (none.0, ends_now n o w (map of_channel rs) gone same (none.1 n gone))

speaks_other : (n : ℕ) (g b : Option ℕ) (reports : List Report) (l : Life) → (g ≡ Some n → ⊥) → Speaks g reports b → GivesNoName reports → (b ≡ Some n → ⊥) × Hears n l (map of_channel reports) l
speaks_other n None b rs l not s quiet =
    let none = none_after b rs s quiet in
    let is_none : b ≡ None = none.0 in (λ (is : b ≡ Some n). absurd cc, none.1 n l)
speaks_other n (Some m) b [] l not s quiet = (λ (is : b ≡ Some n). not (s ∙ is), refl)
speaks_other n (Some m) b (opened o ∷ rs) l not (same, rest) quiet =
    let others = speaks_other n (Some m) b rs l not rest quiet in
    (others.0, not_told n (of_channel (opened o)) (map of_channel rs) l l (told_of_other n o of_life (λ (s : o ≡ n). not (ap Some (sym same ∙ s)))) others.1)
speaks_other n (Some m) b (incoming o x ∷ rs) l not s quiet = absurd s
speaks_other n (Some m) b (message o c ∷ rs) l not (same, rest) quiet =
    let others = speaks_other n (Some m) b rs l not rest quiet in
    (others.0, not_told n (of_channel (message o c)) (map of_channel rs) l l (told_of_other n o of_life (λ (s : o ≡ n). not (ap Some (sym same ∙ s)))) others.1)
speaks_other n (Some m) b (ended o w ∷ rs) l not (same, rest) quiet =
    let others = speaks_other n None b rs l (λ (s : None ≡ Some n). absurd cc) rest quiet in
    (others.0, ends_other n o w (map of_channel rs) l l (λ (s : o ≡ n). not (ap Some (sym same ∙ s))) others.1)

-- The stream's channel before is its own, or it is given one that waited.
pub record IsGiven (g : Option ℕ) (number : ℕ) (layer : LayerView) (before : ℕ → Life) : Type 0 where
  pub from : (n : ℕ) → name_of_slot (slot_numbered layer number) ≡ Some n → g ≡ Some n
  pub is_free : (n : ℕ) → g ≡ Some n → (name_of_slot (slot_numbered layer number) ≡ Some n) ⊎ IsFresh layer layer.named n
  pub lasts : (n : ℕ) → g ≡ Some n → before n ≡ lasting
  pub others : (n : ℕ) → (g ≡ Some n → ⊥) → before n ≡ life_of_channel layer n

pub given_own : (number : ℕ) (layer : LayerView) → IsOrderly layer → IsGiven (name_of_slot (slot_numbered layer number)) number layer (life_of_channel layer)
given_own number layer a =
    record {
      from = λ n is. is;
      is_free = λ n is. inl is;
      lasts = λ n is. lives_placed layer.names layer.waiting n number (nat_lt n layer.named) (a.leads number n is);
      others = λ n not. refl;
    }

same_places : (names others : List (ℕ × ℕ)) (waiting : List WaitingChannel) (n : ℕ) (is_below : Bool) → entry_numbered n names ≡ entry_numbered n others → life_by_place (is_placed names waiting n) is_below ≡ life_by_place (is_placed others waiting n) is_below
same_places names others waiting n is_below same = ap (λ (o : Option ℕ). life_by_place (is_waiting n waiting || is_some o) is_below) same

module _ (number : ℕ) (after : StreamSlot) (layer : LayerView) (streams : List (ℕ × HeldStream)) (names : List (ℕ × ℕ)) (a : IsOrderly layer) (row : RowLeaves number after layer streams names)
    (g : Option ℕ) (before : ℕ → Life) (given : IsGiven g number layer before) (reports : List Report) (speaks : Speaks g reports (name_of_slot after)) (quiet : GivesNoName reports) where
  not_waiting : (n : ℕ) → (name_of_slot (slot_numbered layer number) ≡ Some n) ⊎ IsFresh layer layer.named n → is_waiting n layer.waiting ≡ false
  not_waiting n (inl had) = by (is_waiting n layer.waiting) refl
    where
      by : (b : Bool) → is_waiting n layer.waiting ≡ b → is_waiting n layer.waiting ≡ false
      by true waits =
          let here : entry_numbered n layer.names ≡ Some number = a.leads number n had in
          let none : entry_numbered n layer.names ≡ None = a.no_stream n waits in absurd cc
      by false is = is
  not_waiting n (inr fresh) = fresh.not_waiting

  below : (n : ℕ) → (name_of_slot (slot_numbered layer number) ≡ Some n) ⊎ IsFresh layer layer.named n → n < layer.named
  below n (inl had) = a.was_named n number (a.leads number n had)
  below n (inr fresh) = fresh.is_below

  no_stream_left : (n : ℕ) → name_of_slot after ≡ None → (name_of_slot (slot_numbered layer number) ≡ Some n) ⊎ IsFresh layer layer.named n → entry_numbered n names ≡ None
  no_stream_left n none (inl had) = row.freed n had (λ (has : name_of_slot after ≡ Some n). absurd cc)
  no_stream_left n none (inr fresh) = by (is_named (name_of_slot (slot_numbered layer number)) n)
    where
      by : (name_of_slot (slot_numbered layer number) ≡ Some n) ⊎ (name_of_slot (slot_numbered layer number) ≡ Some n → ⊥) → entry_numbered n names ≡ None
      by (inl had) = row.freed n had (λ (has : name_of_slot after ≡ Some n). absurd cc)
      by (inr not) = row.other n not (λ (has : name_of_slot after ≡ Some n). absurd cc) ∙ fresh.no_stream

  own_lives : (n : ℕ) → g ≡ Some n → Fate n (name_of_slot after) (map of_channel reports) → Hears n (before n) (map of_channel reports) (life_by_place (is_placed names layer.waiting n) (nat_lt n layer.named))
  own_lives n is (inl (has, hears)) = hears_as n lasting (before n) (map of_channel reports) lasting _ (given.lasts n is) (lives_placed names layer.waiting n number (nat_lt n layer.named) (row.gets n has)) hears
  own_lives n is (inr (none, hears)) =
      hears_as n lasting (before n) (map of_channel reports) gone _ (given.lasts n is)
      (lives_nowhere names layer.waiting n layer.named (not_waiting n (given.is_free n is)) (no_stream_left n none (given.is_free n is)) (below n (given.is_free n is))) hears

  row_lives : (n : ℕ) → Hears n (before n) (map of_channel reports) (life_by_place (is_placed names layer.waiting n) (nat_lt n layer.named))
  row_lives n = by (is_named g n)
    where
      by : (g ≡ Some n) ⊎ (g ≡ Some n → ⊥) → Hears n (before n) (map of_channel reports) (life_by_place (is_placed names layer.waiting n) (nat_lt n layer.named))
      by (inl is) = own_lives n is (speaks_own n (name_of_slot after) reports (subst (λ (o : Option ℕ). Speaks o reports (name_of_slot after)) is speaks) quiet)
      by (inr not) =
          let other = speaks_other n g (name_of_slot after) reports (before n) not speaks quiet in
          hears_as n (before n) (before n) (map of_channel reports) (before n) _ refl
          (same_places names layer.names layer.waiting n (nat_lt n layer.named) (row.other n (λ (had : name_of_slot (slot_numbered layer number) ≡ Some n). not (given.from n had)) other.0) ∙ sym (given.others n not)) other.1

  row_next : IsNext layer layer.named (name_of_slot (slot_numbered layer number)) (name_of_slot after)
  row_next n has = by (is_named g n)
    where
      by : (g ≡ Some n) ⊎ (g ≡ Some n → ⊥) → (name_of_slot (slot_numbered layer number) ≡ Some n) ⊎ IsFresh layer layer.named n
      by (inl is) = given.is_free n is
      by (inr not) = absurd ((speaks_other n g (name_of_slot after) reports lasting not speaks quiet).0 has)

le_same : (n : ℕ) → n ≤ n
le_same n = omega arith

pub quiet_row_tells : (number : ℕ) (delivery : Delivery) (input : SlotInput) (outcome : SlotOutcome) (layer : LayerView) → IsOrderly layer → (g : Option ℕ) (before : ℕ → Life) → IsGiven g number layer before
    → Speaks g outcome.reports (name_of_slot outcome.after) → GivesNoName outcome.reports → ReportsLives before layer [] (taken_as number delivery input outcome layer)
quiet_row_tells number delivery input outcome layer a g before given speaks quiet =
    let row = row_leaves number delivery input outcome layer a in
    let new = taken_as number delivery input outcome layer in
    record {
      more = map of_channel outcome.reports;
      behind = refl;
      lives = row_lives number outcome.after layer new.streams new.names a row g before given outcome.reports speaks quiet;
      apart = row_apart number outcome.after layer new.streams new.names layer.named a (le_same layer.named) row (row_next number outcome.after layer new.streams new.names a row g before given outcome.reports speaks quiet);
    }

-- ---- an OPEN that is accepted

le_next : (m n : ℕ) → m ≤ n → (m ≡ n) ⊎ (m ≡ n → ⊥) → (m ≡ n → ⊥) → m + 1 ≤ n
le_next m n le same apart = grind arith

pub lt_next : (n m : ℕ) → (m ≡ n → ⊥) → nat_lt n (m + 1) ≡ nat_lt n m
lt_next n m apart = by (cases_lt n m)
  where
    by : (n < m) ⊎ (m ≤ n) → nat_lt n (m + 1) ≡ nat_lt n m
    by (inl less) = let more : n < m + 1 = omega arith in lt-ltb n (m + 1) more ∙ sym (lt-ltb n m less)
    by (inr above) = le-ltb n (m + 1) (le_next m n above (cases_eq m n) apart) ∙ sym (le-ltb n m above)

module _ (layer : LayerView) (a : IsOrderly layer) where
  pub next_no_stream : entry_numbered layer.named layer.names ≡ None
  next_no_stream = by (entry_numbered layer.named layer.names) refl
    where
      by : (o : Option ℕ) → entry_numbered layer.named layer.names ≡ o → entry_numbered layer.named layer.names ≡ None
      by None is = is
      by (Some k) is = let below : layer.named < layer.named = a.was_named layer.named k is in absurd (omega arith)

  pub next_not_waiting : is_waiting layer.named layer.waiting ≡ false
  next_not_waiting = by (is_waiting layer.named layer.waiting) refl
    where
      by : (b : Bool) → is_waiting layer.named layer.waiting ≡ b → is_waiting layer.named layer.waiting ≡ false
      by true is = let below : layer.named < layer.named = a.waits_named layer.named is in absurd (omega arith)
      by false is = is

  pub next_unnamed : life_of_channel layer layer.named ≡ unnamed
  next_unnamed =
      ap (λ (b : Bool). life_by_place (b || is_some (entry_numbered layer.named layer.names)) (nat_lt layer.named layer.named)) next_not_waiting
      ∙ ap (λ (o : Option ℕ). life_by_place (is_some o) (nat_lt layer.named layer.named)) next_no_stream ∙ ap (life_by_place false) (le-ltb layer.named layer.named (le_same layer.named))

  pub next_fresh : IsFresh layer (layer.named + 1) layer.named
  next_fresh = record { no_stream = next_no_stream; not_waiting = next_not_waiting; is_below = omega arith }

  module _ (number : ℕ) (after : StreamSlot) (streams : List (ℕ × HeldStream)) (names : List (ℕ × ℕ)) (row : RowLeaves number after layer streams names) (has : name_of_slot after ≡ Some layer.named)
      (opening : Opening) (why : ChannelEnd) where
    abbrev life_now : ℕ → Life
    life_now n = life_by_place (is_placed names layer.waiting n) (nat_lt n (layer.named + 1))

    born : Hears layer.named (life_of_channel layer layer.named) (of_channel (incoming layer.named opening) ∷ []) (life_now layer.named)
    born =
        hears_as layer.named unnamed (life_of_channel layer layer.named) (of_channel (incoming layer.named opening) ∷ []) lasting (life_now layer.named) next_unnamed
        (lives_placed names layer.waiting layer.named number (nat_lt layer.named (layer.named + 1)) (row.gets layer.named has)) (comes_now layer.named layer.named opening refl)

    stays : (n : ℕ) → (layer.named ≡ n → ⊥) → (name_of_slot (slot_numbered layer number) ≡ Some n → ⊥) → life_now n ≡ life_of_channel layer n
    stays n not_next not_before =
        same_places names layer.names layer.waiting n (nat_lt n (layer.named + 1)) (row.other n not_before (λ (is : name_of_slot after ≡ Some n). let same : layer.named ≡ n = cc in not_next same))
        ∙ ap (life_by_place (is_placed layer.names layer.waiting n)) (lt_next n layer.named not_next)

    other : (n : ℕ) → (layer.named ≡ n → ⊥) → (name_of_slot (slot_numbered layer number) ≡ Some n → ⊥) → Hears n (life_of_channel layer n) (of_channel (incoming layer.named opening) ∷ []) (life_now n)
    other n not_next not_before =
        hears_as n (life_of_channel layer n) (life_of_channel layer n) (of_channel (incoming layer.named opening) ∷ []) (life_of_channel layer n) (life_now n) refl (stays n not_next not_before)
        (comes_other n layer.named opening (life_of_channel layer n) not_next)

    where_none : name_of_slot (slot_numbered layer number) ≡ None → (n : ℕ) → (layer.named ≡ n) ⊎ (layer.named ≡ n → ⊥) → Hears n (life_of_channel layer n) (of_channel (incoming layer.named opening) ∷ []) (life_now n)
    where_none none n (inl same) = subst (λ (m : ℕ). Hears m (life_of_channel layer m) (of_channel (incoming layer.named opening) ∷ []) (life_now m)) same born
    where_none none n (inr not_next) = other n not_next (λ (is : name_of_slot (slot_numbered layer number) ≡ Some n). absurd cc)

    -- the channel that the stream had before
    ends_first : (m : ℕ) → name_of_slot (slot_numbered layer number) ≡ Some m → (layer.named ≡ m → ⊥) → Hears m (life_of_channel layer m) (of_channel (ended m why) ∷ of_channel (incoming layer.named opening) ∷ []) (life_now m)
    ends_first m had not_next =
        let here : entry_numbered m layer.names ≡ Some number = a.leads number m had in
        let below : m < layer.named = a.was_named m number here in
        let more : m < layer.named + 1 = omega arith in
        hears_as m lasting (life_of_channel layer m) (of_channel (ended m why) ∷ of_channel (incoming layer.named opening) ∷ []) gone (life_now m) (lives_placed layer.names layer.waiting m number (nat_lt m layer.named) here)
        (lives_nowhere names layer.waiting m (layer.named + 1) (had_not_waiting here) (row.freed m had (λ (is : name_of_slot after ≡ Some m). let same : layer.named ≡ m = cc in not_next same)) more)
        (ends_now m m why (of_channel (incoming layer.named opening) ∷ []) gone refl (comes_other m layer.named opening gone not_next))
      where
        had_not_waiting : entry_numbered m layer.names ≡ Some number → is_waiting m layer.waiting ≡ false
        had_not_waiting here = by (is_waiting m layer.waiting) refl
          where
            by : (b : Bool) → is_waiting m layer.waiting ≡ b → is_waiting m layer.waiting ≡ false
            by true waits = let none : entry_numbered m layer.names ≡ None = a.no_stream m waits in absurd cc
            by false is = is

    next_is_not : (m : ℕ) → name_of_slot (slot_numbered layer number) ≡ Some m → layer.named ≡ m → ⊥
    next_is_not m had same = let below : m < layer.named = a.was_named m number (a.leads number m had) in absurd (omega arith)

    where_some : (m : ℕ) → name_of_slot (slot_numbered layer number) ≡ Some m → (n : ℕ) → (layer.named ≡ n) ⊎ (layer.named ≡ n → ⊥) → (m ≡ n) ⊎ (m ≡ n → ⊥)
        → Hears n (life_of_channel layer n) (of_channel (ended m why) ∷ of_channel (incoming layer.named opening) ∷ []) (life_now n)
    where_some m had n next (inl same) =
        subst (λ (k : ℕ). Hears k (life_of_channel layer k) (of_channel (ended m why) ∷ of_channel (incoming layer.named opening) ∷ []) (life_now k)) same (ends_first m had (next_is_not m had))
    where_some m had n (inl same) (inr apart) =
        ends_other n m why (of_channel (incoming layer.named opening) ∷ []) (life_of_channel layer n) (life_now n) apart
        (subst (λ (k : ℕ). Hears k (life_of_channel layer k) (of_channel (incoming layer.named opening) ∷ []) (life_now k)) same born)
    where_some m had n (inr not_next) (inr apart) =
        ends_other n m why (of_channel (incoming layer.named opening) ∷ []) (life_of_channel layer n) (life_now n) apart
        (other n not_next (λ (is : name_of_slot (slot_numbered layer number) ≡ Some n). let same : m ≡ n = cc in apart same))

    pub accepted_lives : (had : Option ℕ) → name_of_slot (slot_numbered layer number) ≡ had → (n : ℕ)
        → Hears n (life_of_channel layer n) (map of_channel (reports_of had (λ m. ended m why) ++ incoming layer.named opening ∷ [])) (life_now n)
    accepted_lives None is n = where_none is n (cases_eq layer.named n)
    accepted_lives (Some m) is n = where_some m is n (cases_eq layer.named n) (cases_eq m n)

    pub accepted_next : IsNext layer (layer.named + 1) (name_of_slot (slot_numbered layer number)) (name_of_slot after)
    accepted_next n is = let same : layer.named ≡ n = cc in subst (λ (m : ℕ). (name_of_slot (slot_numbered layer number) ≡ Some m) ⊎ IsFresh layer (layer.named + 1) m) same (inr next_fresh)
