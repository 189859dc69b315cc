-- What is kept of FORWARD-TSNs until a deferred reset is performed: what holds of each entry that
-- came holds of each that is kept.
use Rattle.std.proofs.Common.{◌≡◌, ℕ, Bool, true, false, ◌+◌, List, [], ◌∷◌, map, refl, Ordering, Less, Equal, Greater}
use Rattle.std.specs.Prelude.{if◌then◌else◌, Option, None, Some}
use Rattle.std.specs.BTreeMap.{insert_entry}
use Rattle.std.specs.List.{AllByRecursion, filter}
use Rattle.std.specs.Ordering.{match_ordering, nat_cmp}
use Rattle.dcsctp_spec_lemmas.specs.types.declared.arrivals.SkippedTo.{SkippedTo}
use Rattle.dcsctp_spec_lemmas.specs.spec.queues.Numbers.{is_tsn_beyond}
use Rattle.dcsctp_spec_lemmas.specs.spec.queues.Reassembly.{DeferralModel, WaitingSkips, entries_of, is_forward_deferred, skip_key, with_entries, with_skips}
use Rattle.dcsctp_delivery_directions.specs.sending.Log.{History}
use Rattle.dcsctp_delivery_directions.specs.receiving.Ready.{NameAll, AreNamed}
use Rattle.dcsctp_delivery_directions.specs.receiving.Received.{IsTsn, SkipsTo, SkipsLater, SkipsWait, ForwardsWait, kept_entries}

module _ (P : SkippedTo → Type 0) where
  pub all_left : (test : SkippedTo → Bool) (entries : List SkippedTo) → AllByRecursion P entries → AllByRecursion P (filter test entries)
  all_left test [] all = tt
  all_left test (entry ∷ entries) all = go (test entry) (all_left test entries all.1)
    where
      go : (b : Bool) → AllByRecursion P (filter test entries) → AllByRecursion P (if b then entry ∷ filter test entries else filter test entries)
      go true rest = (all.0, rest)
      go false rest = rest

  abbrev AllOf : List (ℕ × SkippedTo) → Type 0
  AllOf kept = AllByRecursion P (map (λ entry. entry.1) kept)

  inserted : (key : ℕ) (entry : SkippedTo) (kept : List (ℕ × SkippedTo)) → P entry → AllOf kept → AllOf (insert_entry nat_cmp kept key entry)
  inserted key entry [] one all = (one, tt)
  inserted key entry (first ∷ kept) one all = go (nat_cmp key first.0) (inserted key entry kept one all.1)
    where
      go : (o : Ordering) → AllOf (insert_entry nat_cmp kept key entry)
          → AllOf (match_ordering o ((key, entry) ∷ first ∷ kept) ((first.0, entry) ∷ kept) (first ∷ insert_entry nat_cmp kept key entry))
      go Less rest = (one, all)
      go Equal rest = (one, all.1)
      go Greater rest = (all.0, rest)

  merged : (entries : List SkippedTo) (kept : List (ℕ × SkippedTo)) → AllByRecursion P entries → AllOf kept → AllOf (with_entries entries kept)
  merged [] kept more all = all
  merged (entry ∷ entries) kept more all = merged entries (insert_entry nat_cmp kept (skip_key entry) entry) more.1 (inserted (skip_key entry) entry kept more.0 all)

  pub all_kept : (tsn : ℕ) (entries : List SkippedTo) (skips : Option WaitingSkips) → AllByRecursion P entries → AllByRecursion P (kept_entries skips) → AllByRecursion P (kept_entries (Some (with_skips tsn entries skips)))
  all_kept tsn entries skips more all = merged entries (entries_of skips) more all

-- a FORWARD-TSN waits only for a reset
pub deferred_by : (tsn : ℕ) (deferral : Option DeferralModel) → is_forward_deferred tsn deferral ≡ true → (waits : DeferralModel) × (deferral ≡ Some waits) × (is_tsn_beyond tsn waits.last_tsn ≡ true)
deferred_by tsn None is = absurd (cc)
deferred_by tsn (Some waits) is = (waits, refl, is)

module _ (history : History) (first : ℕ) where
  pub each_named : (passed : ℕ) (entries : List SkippedTo) → NameAll history passed entries → AreNamed history entries
  each_named passed [] names = tt
  each_named passed (entry ∷ entries) names = ((passed, names.0), each_named passed entries names.1)

  each_later : (last_tsn tsn : ℕ) (t : IsTsn history.log first tsn) (entries : List SkippedTo) → is_tsn_beyond tsn last_tsn ≡ true → NameAll history (t.offset + 1) entries → AllByRecursion (SkipsLater history first last_tsn) entries
  each_later last_tsn tsn t [] beyond names = tt
  each_later last_tsn tsn t (entry ∷ entries) beyond names =
      (record { tsn = tsn; tsn_is = t; beyond = beyond; names = names.0 }, each_later last_tsn tsn t entries beyond names.1)

  pub kept_later : (last_tsn : ℕ) (skips : Option WaitingSkips) → SkipsWait history first last_tsn skips → AllByRecursion (SkipsLater history first last_tsn) (kept_entries skips)
  kept_later last_tsn None wait = tt
  kept_later last_tsn (Some skips) wait = wait.1

  pub later_named : (last_tsn : ℕ) (entries : List SkippedTo) → AllByRecursion (SkipsLater history first last_tsn) entries → AreNamed history entries
  later_named last_tsn [] all = tt
  later_named last_tsn (entry ∷ entries) all = ((all.0.tsn_is.offset + 1, all.0.names), later_named last_tsn entries all.1)

  -- some entries of a FORWARD-TSN beyond the last TSN wait with those before
  pub forward_waits : (tsn : ℕ) (entries : List SkippedTo) (test : SkippedTo → Bool) (waits : DeferralModel) → SkipsTo history first tsn entries → is_tsn_beyond tsn waits.last_tsn ≡ true → ForwardsWait history first (Some waits)
      → ForwardsWait history first (Some (record waits { skips = Some (with_skips tsn (filter test entries) waits.skips) }))
  forward_waits tsn entries test waits skips beyond wait = (
    skips.tsn_is,
    all_kept (SkipsLater history first waits.last_tsn) tsn (filter test entries) waits.skips
        (all_left (SkipsLater history first waits.last_tsn) test entries (each_later waits.last_tsn tsn skips.tsn_is entries beyond skips.names))
        (kept_later waits.last_tsn waits.skips wait),
  )
