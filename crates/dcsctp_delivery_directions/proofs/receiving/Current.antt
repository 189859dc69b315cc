-- What was sent since the last reset of its stream.
use Rattle.std.proofs.Common.{◌≡◌, ℕ, true, ◌<◌, ◌≤◌, ◌+◌, List, [], ◌∷◌, arith, inl, inr}
use Rattle.std.specs.Prelude.{Some}
use Rattle.std.proofs.lemmas.Bool.Decides.{leb_tells}
use Rattle.dcsctp_spec_lemmas.specs.types.declared.arrivals.SkippedTo.{SkippedTo}
use Rattle.dcsctp_spec_lemmas.specs.types.declared.arrivals.SkippedTo.TheVariants.{Ssn, Mid}
use Rattle.dcsctp_spec_lemmas.specs.spec.queues.IncomingStreams.{ChunkModel}
use Rattle.dcsctp_delivery_directions.specs.sending.Places.{at_place}
use Rattle.dcsctp_delivery_directions.specs.sending.Log.{Piece, History}
use Rattle.dcsctp_delivery_directions.specs.sending.Numbers.{IsCurrent}
use Rattle.dcsctp_delivery_directions.specs.receiving.Ready.{SkipsEntry, SkipAll, NamesCurrent, NameAll}
use Rattle.dcsctp_delivery_directions.specs.receiving.Received.{Carries, CarriesCurrent, IsTsn, SkipsTo, IsPast}
use Rattle.dcsctp_delivery_directions.specs.receiving.Tracked.{tracked_number}

-- Each piece that isn't current came before a reset of its stream, up to which all was received.
abbrev pub OthersArePast : History → ℕ → ℕ → Type 0
OthersArePast history first cumulative =
    (n : ℕ) (f : Piece) → at_place n history.log ≡ Some (Some f) → f.is_interleaved ≡ true → (IsCurrent history f → ⊥) → IsPast history first cumulative f.message.stream n

-- It did if more was received since.
pub past_kept : (history : History) (first cumulative now : ℕ) → cumulative ≤ now → OthersArePast history first cumulative → OthersArePast history first now
past_kept history first cumulative now up old n f at kind aged =
    let past = old n f at kind aged in
    record { mark = past.mark; has = past.has; names = past.names; below = past.below; passed = omega (arith, up, past.passed) }

module _ (history : History) (first cumulative : ℕ) (old : OthersArePast history first cumulative) where
  -- So a piece that wasn't received yet is current,
  is_current : (n : ℕ) (f : Piece) → at_place n history.log ≡ Some (Some f) → f.is_interleaved ≡ true → cumulative < tracked_number first n → IsCurrent history f
  is_current n f at kind beyond =
      elim (leb_tells (history.floors f.message.stream f.message.is_unordered) f.mid) [
        | inl e ↦ e.1
        | inr e ↦
            (let less : f.mid < history.floors f.message.stream f.message.is_unordered = e.1 in
            let past = old n f at kind (λ current. omega (arith, current, less)) in
            absurd (omega (arith, past.below, past.passed, beyond)))
      ]

  pub carries_current : (offset tsn : ℕ) (chunk : ChunkModel) → cumulative < tracked_number first offset → Carries history.log first offset tsn chunk → CarriesCurrent history first offset tsn chunk
  carries_current offset tsn chunk beyond c = record { carries = c; current = λ kind. is_current offset c.piece c.at kind beyond }

  -- and so is one of a message that may be skipped together with a TSN that wasn't received yet.
  named_current : (offset : ℕ) → cumulative < tracked_number first offset → (entry : SkippedTo) → SkipsEntry history (offset + 1) entry → NamesCurrent history (offset + 1) entry
  named_current offset beyond (Ssn id ssn) skips = (skips, tt)
  named_current offset beyond (Mid id is_unordered mid) skips = (
    skips,
    elim (leb_tells (history.floors skips.piece.message.stream skips.piece.message.is_unordered) skips.piece.mid) [
      | inl e ↦ e.1
      | inr e ↦
          (let less : skips.piece.mid < history.floors skips.piece.message.stream skips.piece.message.is_unordered = e.1 in
          let past = old skips.number skips.piece skips.at skips.kind (λ current. omega (arith, current, less)) in
          let within = skips.within past.mark past.has past.names past.below in
          absurd (omega (arith, within, past.passed, beyond)))
    ],
  )

  pub all_named : (offset : ℕ) → cumulative < tracked_number first offset → (entries : List SkippedTo) → SkipAll history (offset + 1) entries → NameAll history (offset + 1) entries
  all_named offset beyond [] skips = tt
  all_named offset beyond (entry ∷ entries) skips = (named_current offset beyond entry skips.0, all_named offset beyond entries skips.1)

  unfoldable pub skips_to : (tsn : ℕ) (entries : List SkippedTo) (t : IsTsn history.log first tsn) → cumulative < tracked_number first t.offset → SkipAll history (t.offset + 1) entries → SkipsTo history first tsn entries
  skips_to tsn entries t beyond skips = record { tsn_is = t; names = all_named t.offset beyond entries skips }
