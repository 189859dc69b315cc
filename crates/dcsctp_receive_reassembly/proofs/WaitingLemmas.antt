-- Lemmas on whole messages that wait for their turn.
use Rattle.std.proofs.Common.{◌≡◌, ◌==◌, ℕ, zero, suc, ◌-◌, ◌<◌, ◌≤◌, Bool, true, false, List, [], ◌∷◌, ◌++◌, length, map, take, drop, None, Some, arith, refl, sym, ◌∙◌, ap, subst}
use Rattle.std.specs.Prelude.{slice_get, nat_le, is_some, IsSome}
use Rattle.std.specs.Ordering.{nat_cmp, is_eq}
use Rattle.std.specs.BTreeMap.{BTreeMap, is_at, insert_entry, WritesThrough}
use Rattle.std.specs.declared.cmp.Ordering.{Ordering}
use Rattle.std.specs.declared.cmp.Ordering.TheVariants.{Less, Equal, Greater}
use Rattle.std.specs.Map.{lookup, remove_entry}
use Rattle.std.proofs.lemmas.List.{map-append, take-map, drop-map, length-map}
use Rattle.std.proofs.lemmas.Bool.Decides.{nat_tests}
use Rattle.dcsctp_api.specs.types.queues.Messages.{MessageContent}
use Rattle.dcsctp_receive_ordered_map.specs.Entries.{Ascends, count_up_to, Splits}
use Rattle.dcsctp_receive_ordered_map.proofs.EntryLemmas.{split_from_none, lookup_at, remove_at, set_at, get_put, put_again, count_within, insert_new}
use Rattle.dcsctp_api.specs.types.declared.arrivals.Taken.{Taken}
use Rattle.dcsctp_receive_reassembly.specs.declared.stream.Waiting.{Waiting}
use Rattle.dcsctp_api.specs.spec.queues.Runs.{PartModel, WholeModel}
use Rattle.dcsctp_api.specs.spec.queues.IncomingStreams.{StreamModel, is_number_waiting, is_message_due, IsNumberedBelow, IsNumberedFrom, IsNumberPlace, WaitsAmong, TakesOrdered, TakesAhead, TakesWhole}
use Rattle.dcsctp_receive_reassembly.specs.Streams.{waiting_whole, HoldsPlace}

-- ---- the first message that waits

pub due_first : (next number : ℕ) (message : Waiting) (entries : List (ℕ × Waiting)) → slice_get entries 0 ≡ Some (number, message) → nat_le number next ≡ is_message_due next (map waiting_whole entries)
due_first next number message [] is = absurd (cc)
due_first next number message (entry ∷ entries) is =
    let same : entry ≡ (number, message) = cc in
    ap (λ (e : ℕ × Waiting). nat_le e.0 next) (sym same)

-- ---- does a message wait?

at_number : (number other : ℕ) → is_at (nat_cmp number) other ≡ (other == number)
at_number number other = go (nat_cmp number other) refl
  where
    go : (o : Ordering) → nat_cmp number other ≡ o → is_at (nat_cmp number) other ≡ (other == number)
    go Less is = ap is_eq is ∙ grind (arith, nat_tests)
    go Equal is = ap is_eq is ∙ grind (arith, nat_tests)
    go Greater is = ap is_eq is ∙ grind (arith, nat_tests)

pub waits_where : (number : ℕ) (entries : List (ℕ × Waiting)) → is_some (lookup (is_at (nat_cmp number)) entries) ≡ is_number_waiting number (map waiting_whole entries)
waits_where number [] = refl
waits_where number (entry ∷ entries) = go (entry.0 == number) refl (waits_where number entries)
  where
    go : (test : Bool) → (entry.0 == number) ≡ test → is_some (lookup (is_at (nat_cmp number)) entries) ≡ is_number_waiting number (map waiting_whole entries) → is_some (lookup (is_at (nat_cmp number)) (entry ∷ entries)) ≡ is_number_waiting number (map waiting_whole (entry ∷ entries))
    go true is rest = rw (at_number number entry.0, is) refl
    go false is rest = rw (at_number number entry.0, is) rest

-- ---- the place that is taken for a message

placed_at : (number : ℕ) (old new : List (ℕ × Waiting)) (held : HoldsPlace number old new) → slice_get new (count_up_to number old) ≡ Some (number, held.empty)
placed_at number old new held = ap (λ all. slice_get all (count_up_to number old)) held.put ∙ get_put (count_up_to number old) (number, held.empty) old (count_within number old)

pub place_held : (number : ℕ) (empty : Waiting) (old new : List (ℕ × Waiting)) → Ascends old → Ascends new → lookup (is_at (nat_cmp number)) old ≡ None → new ≡ insert_entry nat_cmp old number empty → HoldsPlace number old new
place_held number empty old new ascends ascends' absent put =
    record { empty = empty; ascends = ascends; ascends' = ascends'; absent = absent; put = put ∙ insert_new number empty old ascends absent }

pub place_there : (number : ℕ) (old new : List (ℕ × Waiting)) → HoldsPlace number old new → IsSome (lookup (is_at (nat_cmp number)) new)
place_there number old new held =
    subst (λ o. IsSome o) (sym (lookup_at (count_up_to number old) number held.empty new held.ascends' (placed_at number old new held))) refl

-- what was put is taken out again
put_back : {X : Type 0} (at : ℕ) (e : X) (es : List X) → at ≤ length es → take at (take at es ++ e ∷ drop at es) ++ drop (suc at) (take at es ++ e ∷ drop at es) ≡ es
put_back zero e es within = refl
put_back (suc at) e [] within = absurd (omega arith)
put_back (suc at) e (f ∷ es) within = ap (λ rest. f ∷ rest) (put_back at e es (omega arith))

pub place_left : (number : ℕ) (old new : List (ℕ × Waiting)) → HoldsPlace number old new → remove_entry (is_at (nat_cmp number)) new ≡ old
place_left number old new held =
    remove_at (count_up_to number old) number held.empty new held.ascends' (placed_at number old new held)
    ∙ ap (λ all. take (count_up_to number old) all ++ drop (suc (count_up_to number old)) all) held.put
    ∙ put_back (count_up_to number old) (number, held.empty) old (count_within number old)

-- the message is written there
below_at : (number i : ℕ) (entries : List (ℕ × Waiting)) → ((e : ℕ × Waiting) → slice_get entries i ≡ Some e → e.0 < number) → IsNumberedBelow number (slice_get (map waiting_whole entries) i)
below_at number i [] below = tt
below_at number zero (entry ∷ entries) below = below entry refl
below_at number (suc i) (entry ∷ entries) below = below_at number i entries below

from_at : (number i : ℕ) (entries : List (ℕ × Waiting)) → ((e : ℕ × Waiting) → slice_get entries i ≡ Some e → number < e.0) → IsNumberedFrom number (slice_get (map waiting_whole entries) i)
from_at number i [] behind = tt
from_at number zero (entry ∷ entries) behind = omega (arith, behind entry refl)
from_at number (suc i) (entry ∷ entries) behind = from_at number i entries behind

turn_at : (number : ℕ) (entries : List (ℕ × Waiting)) → Splits (count_up_to number entries) number entries → IsNumberPlace (count_up_to number entries) number (map waiting_whole entries)
turn_at number entries splits =
    record {
      within = omega (arith, splits.within, length-map entries waiting_whole);
      before = λ above. below_at number (count_up_to number entries - 1) entries (λ e is. splits.before (count_up_to number entries - 1) e (omega arith) is);
      behind = from_at number (count_up_to number entries) entries (λ e is. splits.behind (count_up_to number entries) e (omega arith) is);
    }

pub place_filled : (whole : WholeModel) (message : Waiting) (before : List (ℕ × Waiting)) (old new : BTreeMap ℕ Waiting) → HoldsPlace whole.number before old.entries → WritesThrough nat_cmp (nat_cmp whole.number) old message new → waiting_whole (whole.number, message) ≡ whole → WaitsAmong whole (map waiting_whole before) (map waiting_whole new.entries)
place_filled whole message before old new held writes shows =
    let at = count_up_to whole.number before in
    let split : map waiting_whole (take at before ++ (whole.number, message) ∷ drop at before) ≡ take at (map waiting_whole before) ++ waiting_whole (whole.number, message) ∷ drop at (map waiting_whole before) = simp (map-append, take-map, drop-map) in
    record {
      at = at;
      turn = turn_at whole.number before (split_from_none whole.number before held.ascends held.absent);
      waiting =
          ap (λ all. map waiting_whole all) (writes.0
          ∙ set_at at whole.number held.empty message old.entries held.ascends' (placed_at whole.number before old.entries held)
          ∙ ap (λ all. take at all ++ (whole.number, message) ∷ drop (suc at) all) held.put
          ∙ put_again at (whole.number, held.empty) (whole.number, message) before (drop at before) (count_within whole.number before))
          ∙ split
          ∙ ap (λ w. take at (map waiting_whole before) ++ w ∷ drop at (map waiting_whole before)) shows;
    }

pub takes_waiting : (whole : WholeModel) (old new : StreamModel) (ready : List MessageContent) (size : ℕ) (taken : Taken) (number : ℕ) → whole.number ≡ number → old.next < number → WaitsAmong whole old.waiting new.waiting → new.next ≡ old.next → taken.kept_bytes ≡ size → taken.ready ≡ 0 → TakesWhole whole old ready size taken new ready
takes_waiting whole old new ready size taken number is ahead waits next kept none =
    let apart : (whole.number == old.next) ≡ false = grind (arith, nat_tests) in
    record {
      kept = kept;
      ready = rw apart refl;
      count = rw apart none;
      next = rw apart next;
      waiting = rw apart waits;
    }

-- a part of a message that doesn't wait is taken
pub taken_fresh : (part : PartModel) (old : StreamModel) (before : List MessageContent) (taken : Taken) (new : StreamModel) (after : List MessageContent) → is_number_waiting part.number old.waiting ≡ false → TakesOrdered part old before taken new after → TakesAhead part old before taken new after
taken_fresh part old before taken new after fresh takes =
    record { repeated = λ waits. absurd (cc); fresh = λ _. takes }
