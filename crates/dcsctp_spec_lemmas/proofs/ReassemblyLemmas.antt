-- Each input of the reassembly queue has an outcome.
use Rattle.std.proofs.Common.{◌≡◌, ℕ, true, false, List, [], ◌∷◌, length, map, Option, None, Some, refl, subst}
use Rattle.dcsctp_spec.specs.types.declared.arrivals.SkippedTo.{SkippedTo}
use Rattle.dcsctp_spec.specs.queues.Incoming.{IncomingModel}
use Rattle.dcsctp_spec.specs.queues.IncomingStreams.{ChunkModel}
use Rattle.dcsctp_spec.specs.queues.Reassembly.{AddsData, DeferralModel, ForwardsBeside, EndsDeferral, ReassemblyState, SkipsData, SkipsThen, WaitingModel, WaitingSkips, HandlesAll, can_count, entries_beside, is_data_deferred, is_forward_deferred, skips_of, waiting_of}
use Rattle.dcsctp_spec_lemmas.proofs.IncomingLemmas.{by_test, any_data, any_moved, any_reset}

-- ---- what waited for the end of a deferred reset

any_works : (waiting : List WaitingModel) (old : IncomingModel) → (new : IncomingModel) × HandlesAll waiting old new
any_works [] old = (old, refl)
any_works (one ∷ waiting) old =
    let (between, work) = any_data one.tsn one.chunk old in
    let (new, works) = any_works waiting between in
    (new, (between, work, works))

any_skips : (skips : Option WaitingSkips) (old : IncomingModel) → (new : IncomingModel) × SkipsThen skips old new
any_skips None old = (old, refl)
any_skips (Some skips) old = any_moved skips.tsn (map (λ entry. entry.1) skips.entries) old

-- a FORWARD TSN beyond the last TSN of a deferred reset
any_beside : (tsn : ℕ) (entries : List SkippedTo) (waits : DeferralModel) (old : ReassemblyState) → (new : ReassemblyState) × ForwardsBeside tsn entries waits old new
any_beside tsn entries waits old =
    let (incoming, moves) = any_moved tsn (entries_beside waits.streams entries) old.incoming in
    (record old { incoming = incoming; deferral = Some _ }, record { incoming = moves; window = refl; overhead = refl; deferral = refl })

-- ---- Whatever comes, there is a state that the queue may have after it.

pub any_added : (tsn : ℕ) (chunk : ChunkModel) (old : ReassemblyState) → (new : ReassemblyState) × AddsData tsn chunk old new
any_added tsn chunk old =
    let (incoming, takes) = any_data tsn chunk old.incoming in
    by_test (can_count (length chunk.payload) old)
    (λ fits. by_test (is_data_deferred tsn chunk.stream old.deferral)
    (λ waits. (_, record { taken = λ _ now. absurd (cc); deferred = λ _ _. refl; too_much = λ full. absurd (cc) }))
    (λ now. (record old { incoming = incoming }, record { taken = λ _ _. record { incoming = takes; window = refl; overhead = refl; deferral = refl }; deferred = λ _ waits. absurd (cc); too_much = λ full. absurd (cc) })))
    (λ full. (old, record { taken = λ fits _. absurd (cc); deferred = λ fits _. absurd (cc); too_much = λ _. refl }))

pub any_skipped : (tsn : ℕ) (entries : List SkippedTo) (old : ReassemblyState) → (new : ReassemblyState) × SkipsData tsn entries old new
any_skipped tsn entries old =
    by_test (is_forward_deferred tsn old.deferral)
    (λ waits. beside old.deferral refl waits)
    (λ now.
    let (incoming, moves) = any_moved tsn entries old.incoming in
    (record old { incoming = incoming }, record { moved = λ _. record { incoming = moves; window = refl; overhead = refl; deferral = refl }; deferred = λ waits. absurd (cc) }))
  where
    beside : (deferral : Option DeferralModel) → old.deferral ≡ deferral → is_forward_deferred tsn old.deferral ≡ true → (new : ReassemblyState) × SkipsData tsn entries old new
    beside None none waits = absurd (let now : is_forward_deferred tsn old.deferral ≡ false = rw none refl in cc)
    beside (Some waiting) is waits =
        let (new, forwards) = any_beside tsn entries waiting old in
        (new, record { moved = λ now. absurd (cc); deferred = λ _ other same. (let equal : waiting ≡ other = cc in subst (λ (d : DeferralModel). ForwardsBeside tsn entries d old new) equal forwards) })

pub any_left : (streams : List ℕ) (old : ReassemblyState) → (new : ReassemblyState) × EndsDeferral streams old new
any_left streams old =
    let (between, resets) = any_reset streams old.incoming in
    let (handled, works) = any_works (waiting_of old.deferral) between in
    let (incoming, skips) = any_skips (skips_of old.deferral) handled in (
      record old { incoming = incoming; deferral = None },
      record { between = between; handled = handled; resets = resets; works = works; skips = skips; window = refl; overhead = refl; deferral = refl },
    )
