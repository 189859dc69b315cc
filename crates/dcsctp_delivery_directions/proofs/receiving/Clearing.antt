-- A stream becomes clear once a reset was performed that names it.
use Rattle.std.proofs.Common.{◌≡◌, ◌≢◌, ℕ, Bool, true, false, ◌<◌, ◌≤◌, ◌+◌, ◌-◌, ◌%◌, ◌^◌, List, [], ◌∷◌, length, refl, sym, ◌∙◌, arith, subst}
use Rattle.std.specs.Prelude.{if◌then◌else◌, Option, None, Some}
use Rattle.std.proofs.lemmas.Bool.Decides.{nat_tests}
use Rattle.std.specs.List.{AllByRecursion}
use Rattle.dcsctp_spec_lemmas.specs.types.declared.arrivals.SkippedTo.{SkippedTo}
use Rattle.dcsctp_spec_lemmas.specs.spec.queues.Incoming.{IncomingModel, stream_on, is_named, ResetsStreams}
use Rattle.dcsctp_spec_lemmas.specs.spec.queues.IncomingStreams.{ChunkModel, new_stream, skipped_stream}
use Rattle.dcsctp_spec_lemmas.specs.spec.queues.Numbers.{is_tsn_beyond}
use Rattle.dcsctp_spec_lemmas.specs.spec.queues.Reassembly.{WaitingModel, DeferralModel, ReassemblyState, waiting_of, skips_of, EndsDeferral}
use Rattle.dcsctp_spec_lemmas.specs.spec.queues.Tracker.{TrackerState}
use Rattle.dcsctp_delivery_directions.specs.sending.Places.{HasEntry, at_place}
use Rattle.dcsctp_delivery_directions.specs.sending.Log.{Message, Piece, Mark, History, Resets}
use Rattle.dcsctp_delivery_directions.specs.sending.Numbers.{AreOfKind}
use Rattle.dcsctp_delivery_directions.proofs.sending.Places.{at_below}
use Rattle.dcsctp_delivery_directions.specs.receiving.Clear.{NoneSkips, NoneWaits, IsClear, IsOwn}
use Rattle.dcsctp_delivery_directions.specs.receiving.Received.{AreBeyond, WaitBeyond, CarriesCurrent, kept_entries, SkipsLater, ForwardsWait, DefersData, Few, HasReceived}
use Rattle.dcsctp_delivery_directions.proofs.receiving.Clear.{skips_others, left_clear}
use Rattle.dcsctp_delivery_directions.proofs.receiving.Kept.{kept_later}

-- A TSN beyond the last one before the mark is after the mark.
offset_behind : (first offset bound : ℕ) → first < 2 ^ 32 → offset < 2 ^ 31 → bound < 2 ^ 31 → is_tsn_beyond ((first + offset) % 2 ^ 32) ((first + bound + (2 ^ 32 - 1)) % 2 ^ 32) ≡ true → bound ≤ offset
offset_behind first offset bound small few near beyond = grind (arith, nat_tests, beyond)

pub behind : (first offset bound tsn last_tsn : ℕ) → first < 2 ^ 32 → offset < 2 ^ 31 → bound < 2 ^ 31 → tsn ≡ (first + offset) % 2 ^ 32 → last_tsn ≡ (first + bound + (2 ^ 32 - 1)) % 2 ^ 32
    → is_tsn_beyond tsn last_tsn ≡ true → bound ≤ offset
behind first offset bound tsn last_tsn small few near is last beyond =
    offset_behind first offset bound small few near
    (subst (λ (n : ℕ). is_tsn_beyond n ((first + bound + (2 ^ 32 - 1)) % 2 ^ 32) ≡ true) is (subst (λ (n : ℕ). is_tsn_beyond tsn n ≡ true) last beyond))

module _ (history : History) (first id : ℕ) (mark : Mark) (kinds : AreOfKind true history.log) (few : Few history first) (has : HasEntry mark history.marks) (up : mark.bound ≤ length history.log) (names : Resets mark id)
    (below : (n : ℕ) (f : Piece) → at_place n history.log ≡ Some (Some f) → f.message.stream ≡ id → n < mark.bound) where
  near : mark.bound < 2 ^ 31
  near = omega (arith, up, few.few)

  -- what waits is of other streams
  none_arrived : (offset tsn last_tsn : ℕ) (chunk : ChunkModel) → CarriesCurrent history first offset tsn chunk → last_tsn ≡ (first + mark.bound + (2 ^ 32 - 1)) % 2 ^ 32 → is_tsn_beyond tsn last_tsn ≡ true → chunk.stream ≢ id
  none_arrived offset tsn last_tsn chunk c last beyond e =
      let far = behind first offset mark.bound tsn last_tsn few.small (omega (arith, few.few, at_below offset (Some c.carries.piece) history.log c.carries.at)) near c.carries.is last beyond in
      let before = below offset c.carries.piece c.carries.at (sym c.carries.stream ∙ e) in
      absurd (omega (arith, far, before))

  none_among : (last_tsn : ℕ) (offsets : List ℕ) (waiting : List WaitingModel) → last_tsn ≡ (first + mark.bound + (2 ^ 32 - 1)) % 2 ^ 32 → AreBeyond last_tsn waiting → DefersData history first offsets waiting → NoneWaits id waiting
  none_among last_tsn [] [] last beyond defers = tt
  none_among last_tsn (offset ∷ offsets) [] last beyond defers = absurd defers
  none_among last_tsn [] (one ∷ waiting) last beyond defers = absurd defers
  none_among last_tsn (offset ∷ offsets) (one ∷ waiting) last beyond defers =
      (none_arrived offset one.tsn last_tsn one.chunk defers.0 last beyond.0, none_among last_tsn offsets waiting last beyond.1 defers.1)

  pub none_waits : (offsets : List ℕ) (deferral : Option DeferralModel) → mark.begun.reset.last_tsn ≡ (first + mark.bound + (2 ^ 32 - 1)) % 2 ^ 32 → IsOwn mark.begun.reset deferral → WaitBeyond deferral
      → DefersData history first offsets (waiting_of deferral) → NoneWaits id (waiting_of deferral)
  none_waits offsets None last own beyond defers = tt
  none_waits offsets (Some d) last own beyond defers = none_among d.last_tsn offsets d.waiting (own ∙ last) beyond defers

  -- and so is what is to be skipped
  one_other : (last_tsn : ℕ) (entry : SkippedTo) → SkipsLater history first last_tsn entry → last_tsn ≡ (first + mark.bound + (2 ^ 32 - 1)) % 2 ^ 32 → skipped_stream entry ≢ id
  one_other last_tsn entry s last =
      let far = behind first s.tsn_is.offset mark.bound s.tsn last_tsn few.small (omega (arith, few.few, s.tsn_is.below)) near s.tsn_is.is last s.beyond in
      skips_others history (s.tsn_is.offset + 1) id mark kinds has names below (omega (arith, far)) entry s.names.0

  all_others : (last_tsn : ℕ) (entries : List SkippedTo) → AllByRecursion (SkipsLater history first last_tsn) entries → last_tsn ≡ (first + mark.bound + (2 ^ 32 - 1)) % 2 ^ 32 → NoneSkips id entries
  all_others last_tsn [] all last = tt
  all_others last_tsn (entry ∷ entries) all last = (one_other last_tsn entry all.0 last, all_others last_tsn entries all.1 last)

  pub none_kept : (deferral : Option DeferralModel) → mark.begun.reset.last_tsn ≡ (first + mark.bound + (2 ^ 32 - 1)) % 2 ^ 32 → IsOwn mark.begun.reset deferral → ForwardsWait history first deferral
      → NoneSkips id (kept_entries (skips_of deferral))
  none_kept None last own wait = tt
  none_kept (Some d) last own wait = all_others d.last_tsn (kept_entries d.skips) (kept_later history first d.last_tsn d.skips wait) (own ∙ last)

-- a stream that is named is new
renewed : (id : ℕ) (streams : List ℕ) (old between : IncomingModel) → is_named streams id ≡ true → ResetsStreams streams old between → stream_on id between.streams ≡ new_stream id
renewed id [] old between named resets = resets.streams id
renewed id (one ∷ others) old between named resets = resets.streams id ∙ go (is_named (one ∷ others) id) named
  where
    go : (b : Bool) → b ≡ true → (if b then new_stream id else stream_on id old.streams) ≡ new_stream id
    go true e = refl
    go false e = absurd (cc)

pub performing_clears : (queued : List Message) (history : History) (first id : ℕ) (read : List ℕ) (mark : Mark) (tracker : TrackerState) (old new : ReassemblyState) → AreOfKind true history.log → Few history first
    → HasReceived queued history first read tracker old → HasEntry mark history.marks → mark.bound ≤ length history.log → mark.begun.reset.last_tsn ≡ (first + mark.bound + (2 ^ 32 - 1)) % 2 ^ 32 → Resets mark id → is_named mark.begun.reset.streams id ≡ true
    → ((n : ℕ) (f : Piece) → at_place n history.log ≡ Some (Some f) → f.message.stream ≡ id → n < mark.bound)
    → IsOwn mark.begun.reset old.deferral → EndsDeferral mark.begun.reset.streams old new → IsClear id new
performing_clears queued history first id read mark tracker old new kinds few r has up last names named below own leaves =
    left_clear id mark.begun.reset.streams old new (none_waits history first id mark kinds few has up names below r.later old.deferral last own r.beyond r.defers)
    (none_kept history first id mark kinds few has up names below old.deferral last own r.forwards)
    (λ between resets. renewed id mark.begun.reset.streams old.incoming between named resets) leaves
