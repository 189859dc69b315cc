-- Items that are given and restored one after another.
use Rattle.std.proofs.Common.{◌≡◌, ℕ, ◌+◌, ◌-◌, ◌^◌, min, Bool, Some, List, ◌∷◌, ◌++◌, [], length, take, map, ap, sym, ◌∙◌}
use Rattle.std.specs.List.{slice_get}
use Rattle.std.proofs.lemmas.List.{take_min, take-map, map_more, map-append}
use Rattle.std.proofs.lemmas.Option.{slice_get_within, get_or_from_slice_get}
use Rattle.dcsctp_api.specs.types.declared.snapshot.HandoverOutstandingData.{HandoverOutstandingData}
use Rattle.dcsctp_api.specs.types.SnapshotItems.{OutstandingPart, outstanding_part}
use Rattle.dcsctp_api.specs.spec.queues.Items.{Item}
use Rattle.dcsctp_api.specs.spec.queues.OutstandingParts.{outstanding_given, item_again, items_again}

-- one more item is given
pub given_further : (now place : ℕ) (items : List Item) (item : Item) (parts : List HandoverOutstandingData) (part : HandoverOutstandingData)
    → map outstanding_part parts ≡ map (outstanding_given now) (take place items) → slice_get items place ≡ Some item → outstanding_part part ≡ outstanding_given now item
    → map outstanding_part (parts ++ part ∷ []) ≡ map (outstanding_given now) (take (place + 1) items)
given_further now place items item parts part so_far at is =
    map-append outstanding_part parts (part ∷ [])
    ∙ ap (λ (xs : List OutstandingPart). xs ++ outstanding_part part ∷ []) so_far
    ∙ ap (λ (p : OutstandingPart). map (outstanding_given now) (take place items) ++ p ∷ []) is
    ∙ ap (λ (x : Item). map (outstanding_given now) (take place items) ++ outstanding_given now x ∷ []) (sym (get_or_from_slice_get items place item item at))
    ∙ sym (map_more (outstanding_given now) items place item (slice_get_within items place item at))

-- All that can be restored are, once so many of them are.
pub all_restored : (now : ℕ) (was_reset : Bool) (count : ℕ) (parts : List HandoverOutstandingData) → count ≡ min (2 ^ 31 - 1) (length parts)
    → map (item_again now was_reset) (map outstanding_part (take count parts)) ≡ items_again now was_reset (map outstanding_part parts)
all_restored now was_reset count parts is =
    rw is (ap (map (item_again now was_reset)) (ap (map outstanding_part) (take_min (2 ^ 31 - 1) parts) ∙ sym (take-map outstanding_part (2 ^ 31 - 1) parts)))
