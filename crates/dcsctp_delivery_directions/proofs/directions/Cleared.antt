-- Streams that are handed out to be reset, through what the sender does.
use Rattle.std.proofs.Common.{◌≡◌, ℕ, suc, true, false, ◌<◌, ◌≤◌, ◌^◌, List, [], ◌∷◌, ◌++◌, length, refl, sym, ◌∙◌, ap, arith, subst, inl, inr}
use Rattle.std.specs.Prelude.{◌⊎◌, Some}
use Rattle.std.specs.List.{AllByRecursion}
use Rattle.dcsctp_spec.specs.queues.Reassembly.{ReassemblyState}
use Rattle.dcsctp_spec.specs.types.queues.SendStreams.{Stream}
use Rattle.dcsctp_spec.specs.endpoint.BegunResets.{BegunReset}
use Rattle.dcsctp_delivery_directions.specs.sending.Places.{at_place}
use Rattle.dcsctp_delivery_directions.specs.sending.Log.{Fits, Message, Piece, Slot, IsLogOfPieces, History, log_extended, with_mark}
use Rattle.dcsctp_delivery_directions.specs.sending.Flushes.{IsNamedByReset}
use Rattle.dcsctp_delivery_directions.specs.sending.Numbers.{AreKept, is_handed_out, stream_named}
use Rattle.dcsctp_delivery_directions.specs.receiving.Clear.{Unsent}
use Rattle.dcsctp_delivery_directions.proofs.sending.Packets.{at_more}
use Rattle.dcsctp_delivery_directions.proofs.sending.Places.{at_below, at_cases, at_new, at_stays}
use Rattle.dcsctp_delivery_directions.proofs.directions.Standing.{AreQuiet, IsCleared}

-- ---- fewer streams are handed out

abbrev pub Fewer : List Stream → List Stream → Type 0
Fewer new old = (id : ℕ) → is_handed_out (stream_named id new).pause ≡ true → is_handed_out (stream_named id old).pause ≡ true

pub cleared_fewer : (history : History) (first cumulative : ℕ) (old new : List Stream) (reassembly : ReassemblyState) → Fewer new old → IsCleared history first cumulative old reassembly → IsCleared history first cumulative new reassembly
cleared_fewer history first cumulative old new reassembly fewer c =
    record { mark = c.mark; earlier = c.earlier; is = c.is; passed = c.passed; clear = λ id small handed names below. c.clear id small (fewer id handed) names below }

pub quiet_fewer : (history : History) (out : ℕ) (old new : List Stream) → Fewer new old → AreQuiet history out old → AreQuiet history out new
quiet_fewer history out old new fewer quiet id handed = quiet id (fewer id handed)

-- ---- more TSNs are assigned

-- what a place of the longer log carries
at_either : {A : Type 0} (more log : List A) (n : ℕ) (x : A) → at_place n (more ++ log) ≡ Some x → (at_place n log ≡ Some x) ⊎ ((m : ℕ) × (at_place m more ≡ Some x))
at_either [] log n x at = inl at
at_either (slot ∷ more) log n x at =
    elim (at_cases n slot x (more ++ log) at) [
      | inl e ↦ inr (length more, at_new slot more ∙ ap Some e.1)
      | inr old ↦ elim (at_either more log n x old) [
        | inl l ↦ inl l
        | inr r ↦ inr (r.0, at_stays r.0 slot x more r.1)
      ]
    ]

-- a piece of a stream that is handed out isn't new
pub not_new : (more log : List Slot) (streams : List Stream) (id n : ℕ) (f : Piece) → AreKept streams more → is_handed_out (stream_named id streams).pause ≡ true → f.message.stream ≡ id
    → at_place n (more ++ log) ≡ Some (Some f) → at_place n log ≡ Some (Some f)
not_new more log streams id n f kept handed on at =
    elim (at_either more log n (Some f) at) [
      | inl l ↦ l
      | inr r ↦
          (let clash : true ≡ false = sym handed ∙ ap (λ (k : ℕ). is_handed_out (stream_named k streams).pause) (sym on) ∙ kept r.0 f r.1 in
          absurd (cc))
    ]

pub cleared_more : (more : List Slot) (history : History) (first cumulative : ℕ) (streams : List Stream) (reassembly : ReassemblyState) → IsCleared history first cumulative streams reassembly
    → IsCleared (log_extended more history) first cumulative streams reassembly
cleared_more more history first cumulative streams reassembly c =
    record {
      mark = c.mark;
      earlier = c.earlier;
      is = c.is;
      passed = c.passed;
      clear = λ id small handed names below. c.clear id small handed names (λ n f at on. below n f (at_more more history.log n (Some f) at) on);
    }

pub quiet_more : (more : List Slot) (history : History) (out : ℕ) (streams : List Stream) → AreKept streams more → AreQuiet history out streams → AreQuiet (log_extended more history) out streams
quiet_more more history out streams kept quiet id handed =
    elim (quiet id handed) [
      | inl none ↦ inl (λ n f at on. none n f (not_new more history.log streams id n f kept handed on at) on)
      | inr b ↦ inr (record { mark = b.mark; has = b.has; names = b.names; below = λ n f at on. b.below n f (not_new more history.log streams id n f kept handed on at) on })
    ]

-- ---- a reset is begun

fits_stream : (queued : List Message) (place : ℕ) (m : Message) → AllByRecursion Fits queued → at_place place queued ≡ Some m → m.stream < 2 ^ 16
fits_stream [] place m fit at = absurd (cc)
fits_stream (other ∷ queued) place m fit at =
    elim (at_cases place other m queued at) [
      | inl e ↦ subst (λ (x : Message). x.stream < 2 ^ 16) e.1 fit.0.stream
      | inr old ↦ fits_stream queued place m fit.1 old
    ]

-- streams of greater identifiers have no messages
pub too_great : (queued : List Message) (log : List Slot) (id : ℕ) → AllByRecursion Fits queued → IsLogOfPieces queued log → 2 ^ 16 ≤ id → Unsent log id
too_great queued log id fit cut great n f at on =
    let small = fits_stream queued f.place f.message fit (cut.pieces n f at).at in
    absurd (omega (arith, small, great, on))

module _ (more : List Slot) (history : History) (begun : BegunReset) (ids : List ℕ) (bound out : ℕ) (before after : List Stream) (low : length history.log ≤ bound) (kept : AreKept after more)
    (handed : (id : ℕ) → is_handed_out (stream_named id after).pause ≡ true → (is_handed_out (stream_named id before).pause ≡ true) ⊎ IsNamedByReset (Some begun) ids id) (quiet : AreQuiet history out before) where
  abbrev pub now : History
  now = with_mark (Some begun) ids bound (log_extended more history)

  pub quiet_asked : AreQuiet now (suc out) after
  quiet_asked id is =
      elim (handed id is) [
        | inl was ↦ elim (quiet id was) [
          | inl none ↦ inl (λ n f at on. none n f (not_new more history.log after id n f kept is on at) on)
          | inr b ↦ inr (record { mark = b.mark; has = inr b.has; names = b.names; below = λ n f at on. b.below n f (not_new more history.log after id n f kept is on at) on })
        ]
        | inr names ↦
            inr (record {
              mark = record { bound = bound; begun = begun; ids = ids };
              has = inl refl;
              names = names;
              below = λ n f at on. (let old = at_below n (Some f) history.log (not_new more history.log after id n f kept is on at) in omega (arith, old, low));
            })
      ]
