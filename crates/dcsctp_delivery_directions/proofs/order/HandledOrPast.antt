-- Each TSN of a stream that counts as received was handled, or its message comes before the next one, if nothing of the stream waits
-- for the end of a reset.
use Rattle.std.proofs.Common.{◌≡◌, ℕ, Bool, true, false, ◌<◌, ◌≤◌, ◌+◌, ◌^◌, List, [], ◌∷◌, map, ap, inl, inr}
use Rattle.std.specs.Prelude.{◌⊎◌, Some}
use Rattle.dcsctp_spec_lemmas.specs.types.declared.arrivals.SkippedTo.{SkippedTo}
use Rattle.dcsctp_spec_lemmas.specs.types.declared.arrivals.SkippedTo.TheVariants.{Mid}
use Rattle.dcsctp_spec_lemmas.specs.spec.queues.Incoming.{stream_on}
use Rattle.dcsctp_spec_lemmas.specs.spec.queues.IncomingStreams.{skipped_stream}
use Rattle.dcsctp_spec_lemmas.specs.spec.queues.Reassembly.{ReassemblyState, waiting_of, skips_of, entries_of}
use Rattle.dcsctp_spec_lemmas.specs.spec.queues.Tracker.{TrackerState}
use Rattle.dcsctp_delivery_directions.specs.sending.Places.{HasEntry, at_place}
use Rattle.dcsctp_delivery_directions.specs.sending.Log.{Message, Piece, History, sent_messages}
use Rattle.dcsctp_delivery_directions.specs.sending.Numbers.{IsCurrent}
use Rattle.dcsctp_delivery_directions.specs.sending.Naming.{IsOfPiece}
use Rattle.dcsctp_delivery_directions.specs.receiving.Clear.{NoneWaits, NoneSkips}
use Rattle.dcsctp_delivery_directions.specs.receiving.Received.{kept_entries}
use Rattle.dcsctp_delivery_directions.specs.receiving.Tracked.{tracked_number}
use Rattle.dcsctp_delivery_directions.proofs.receiving.Tracked.{up_to}
use Rattle.dcsctp_delivery_directions.specs.order.Reading.{Watch, CountsFromZero}
use Rattle.dcsctp_delivery_directions.specs.order.Received.{HasReceivedInOrder}
use Rattle.dcsctp_delivery_directions.proofs.order.AllSent.{not_later}

kept_in : (key : ℕ) (entry : SkippedTo) (entries : List (ℕ × SkippedTo)) → HasEntry (key, entry) entries → HasEntry entry (map (λ (e : ℕ × SkippedTo). e.1) entries)
kept_in key entry [] has = absurd has
kept_in key entry (e ∷ entries) has = elim has [ inl same ↦ inl (ap (λ (p : ℕ × SkippedTo). p.1) same) | inr t ↦ inr (kept_in key entry entries t) ]

none_in : (id mid : ℕ) (entries : List SkippedTo) → NoneSkips id entries → HasEntry (Mid (record { 0 = id }) false mid) entries → ⊥
none_in id mid [] none has = has
none_in id mid (entry ∷ entries) none has = elim has [
  | inl same ↦ none.0 (ap skipped_stream (same_back same))
  | inr t ↦ none_in id mid entries none.1 t
]
  where
    same_back : Mid (record { 0 = id }) false mid ≡ entry → entry ≡ Mid (record { 0 = id }) false mid
    same_back same = cc

module _ (watch : ℕ → Watch) (queued : List Message) (history : History) (quiet : ℕ → Bool) (first : ℕ) (read : List ℕ) (tracker : TrackerState) (reassembly : ReassemblyState)
    (r : HasReceivedInOrder watch (sent_messages queued history) quiet first read tracker reassembly) (id : ℕ) (small : reassembly.max_size ≤ 2 ^ 63) (little : id < 2 ^ 16) (knows : (watch id).knows_all ≡ true) (loud : quiet id ≡ false) (counts : CountsFromZero history id)
    (no_data : NoneWaits id (waiting_of reassembly.deferral)) (no_skips : NoneSkips id (kept_entries (skips_of reassembly.deferral))) where
  pub handled_or_past : (n : ℕ) (f : Piece) → f.message.stream ≡ id → f.message.is_unordered ≡ false → IsCurrent history f → IsOfPiece history.log f n → tracked_number first n ≤ tracker.cumulative
      → (HasEntry n r.got × (at_place n history.log ≡ Some (Some f))) ⊎ (f.mid + 2 ^ 32 < history.floors id false + (stream_on id reassembly.incoming.streams).next)
  handled_or_past n f on kind current of low =
      elim (r.skips.each small id little knows loud counts n f on kind current of (up_to tracker.cumulative (tracked_number first n) tracker.ranges low)) [
        | inl t ↦ elim (r.either n t.0) [
          | inl g ↦ inl (g, t.1)
          | inr l ↦ absurd (not_later history first id r.later (waiting_of reassembly.deferral) r.defers no_data n f l t.1 on)
        ]
        | inr s ↦ elim s [
          | inl past ↦ inr past
          | inr w ↦ absurd (none_in id w.mid (kept_entries (skips_of reassembly.deferral)) no_skips (kept_in (2 ^ 16 + id) (Mid (record { 0 = id }) false w.mid) (entries_of (skips_of reassembly.deferral)) w.has))
        ]
      ]
