-- What a text says as a flag it says alone, and one group of options after another is tried.
use Rattle.std.proofs.Common.{◌≡◌, ◌⊎◌, ◌∙◌, inl, inr, ℕ, Bool, true, false, List, refl, sym, subst, codes}
use Rattle.std.specs.declared.time.Duration.{Duration}
use Rattle.dcsctp_types.specs.declared.options.Options.{Options}
use Rattle.dcsctp_script_lines.specs.Settings.{SaysFlag, SaysTime, SetsFlag, SetsIfPossible, SetsSaidFlag, SetsSaidTime, SetsTime, rtt_max_is, rto_initial_is, rto_max_is, rto_min_is, t1_init_timeout_is, t1_cookie_timeout_is, cookie_lifetime_is, t2_shutdown_timeout_is, heartbeat_interval_is, delayed_ack_max_timeout_is, min_rtt_variance_is}

one_flag : (value : List ℕ) (a b : Bool) → SaysFlag value a → SaysFlag value b → a ≡ b
one_flag value true true first second = refl
one_flag value false false first second = refl
one_flag value true false first second = let both : codes "true" ≡ codes "false" = sym first ∙ second in absurd cc
one_flag value false true first second = let both : codes "true" ≡ codes "false" = sym second ∙ first in absurd cc

pub flag_sets : (value name : List ℕ) (old : Options) (flag result : Bool) (new : Options) → SaysFlag value flag
    → SetsIfPossible (λ from. SetsFlag flag from name) old result new
    → SetsIfPossible (SetsSaidFlag name value) old result new
flag_sets value name old flag true new says h = (flag, says, h)
flag_sets value name old flag false new says h =
    (h.0, λ any other. h.1 any (subst (λ (b : Bool). SetsFlag b old name any) (one_flag value other.0 flag other.1 says) other.2))

-- which name sets a time doesn't depend on the time
any_time : (a b : Duration) (old new : Options) (name : List ℕ) → SetsTime a old name new → (other : Options) × SetsTime b old name other
any_time a b old new name rtt_max_is = (_, rtt_max_is)
any_time a b old new name rto_initial_is = (_, rto_initial_is)
any_time a b old new name rto_max_is = (_, rto_max_is)
any_time a b old new name rto_min_is = (_, rto_min_is)
any_time a b old new name t1_init_timeout_is = (_, t1_init_timeout_is)
any_time a b old new name t1_cookie_timeout_is = (_, t1_cookie_timeout_is)
any_time a b old new name cookie_lifetime_is = (_, cookie_lifetime_is)
any_time a b old new name t2_shutdown_timeout_is = (_, t2_shutdown_timeout_is)
any_time a b old new name heartbeat_interval_is = (_, heartbeat_interval_is)
any_time a b old new name delayed_ack_max_timeout_is = (_, delayed_ack_max_timeout_is)
any_time a b old new name min_rtt_variance_is = (_, min_rtt_variance_is)

pub time_sets : (value name : List ℕ) (old : Options) (time : Duration) (result : Bool) (new : Options) → SaysTime value time
    → SetsIfPossible (λ from. SetsTime time from name) old result new → SetsIfPossible (SetsSaidTime name value) old result new
time_sets value name old time true new says h = (time, says, h)
time_sets value name old time false new says h =
    (h.0, λ any other. let sets = any_time other.0 time old any name other.2 in h.1 sets.0 sets.1)

-- The first group has no such option, and what the others do is done; or the first one does it.
pub else_sets : (First Others : Options → Options → Type 0) (old mid new : Options) (none result : Bool) → none ≡ false → SetsIfPossible First old none mid
    → SetsIfPossible Others mid result new → SetsIfPossible (λ from to. First from to ⊎ Others from to) old result new
else_sets First Others old mid new none result is first others = by_result result (subst (λ (o : Options). SetsIfPossible Others o result new) refused.0 others)
  where
    refused : SetsIfPossible First old false mid
    refused = subst (λ (b : Bool). SetsIfPossible First old b mid) is first

    elim_either : {A B : Type 0} → (A → ⊥) → (B → ⊥) → A ⊎ B → ⊥
    elim_either no_first no_others (inl a) = no_first a
    elim_either no_first no_others (inr b) = no_others b

    by_result : (b : Bool) → SetsIfPossible Others old b new → SetsIfPossible (λ from to. First from to ⊎ Others from to) old b new
    by_result true h = inr h
    by_result false h = (h.0, λ any. elim_either (refused.1 any) (h.1 any))

pub first_sets : (First Others : Options → Options → Type 0) (old new : Options) (done : Bool) → done ≡ true → SetsIfPossible First old done new
    → SetsIfPossible (λ from to. First from to ⊎ Others from to) old true new
first_sets First Others old new done is h = inl (subst (λ (b : Bool). SetsIfPossible First old b new) is h)
