-- The functions on examples, worked out by hand.
use Rattle.std.proofs.Common.{◌≡◌, List, [], ◌∷◌, refl}
use Rattle.dcsctp_types.specs.declared.tracking.TsnRange.{TsnRange}
use Rattle.dcsctp_spec.specs.queues.Ranges.{all_to, tsn_range_of, ranges_with_number, forwarded_ranges}

-- all up to 10, 13 to 15 and 18 to 20
abbrev two : List TsnRange
two = tsn_range_of 13 15 ∷ (tsn_range_of 18 20 ∷ [])

-- nothing changes
repeated_below : ranges_with_number 10 10 two ≡ all_to 10 two
repeated_below = refl

repeated_in : ranges_with_number 19 10 two ≡ all_to 10 two
repeated_in = refl

-- the next one
next_alone : ranges_with_number 11 10 two ≡ all_to 11 two
next_alone = refl

next_none : ranges_with_number 11 10 [] ≡ all_to 11 []
next_none = refl

next_joins : ranges_with_number 12 11 two ≡ all_to 15 (tsn_range_of 18 20 ∷ [])
next_joins = refl

-- among the ranges
left : ranges_with_number 12 10 two ≡ all_to 10 (tsn_range_of 12 15 ∷ (tsn_range_of 18 20 ∷ []))
left = refl

left_second : ranges_with_number 17 10 two ≡ all_to 10 (tsn_range_of 13 15 ∷ (tsn_range_of 17 20 ∷ []))
left_second = refl

right : ranges_with_number 16 10 two ≡ all_to 10 (tsn_range_of 13 16 ∷ (tsn_range_of 18 20 ∷ []))
right = refl

right_last : ranges_with_number 21 10 two ≡ all_to 10 (tsn_range_of 13 15 ∷ (tsn_range_of 18 21 ∷ []))
right_last = refl

joins : ranges_with_number 17 10 (tsn_range_of 13 16 ∷ (tsn_range_of 18 20 ∷ [])) ≡ all_to 10 (tsn_range_of 13 20 ∷ [])
joins = refl

first : ranges_with_number 12 10 [] ≡ all_to 10 (tsn_range_of 12 12 ∷ [])
first = refl

front : ranges_with_number 12 10 (tsn_range_of 14 15 ∷ []) ≡ all_to 10 (tsn_range_of 12 12 ∷ (tsn_range_of 14 15 ∷ []))
front = refl

between : ranges_with_number 17 10 (tsn_range_of 13 15 ∷ (tsn_range_of 19 20 ∷ [])) ≡ all_to 10 (tsn_range_of 13 15 ∷ (tsn_range_of 17 17 ∷ (tsn_range_of 19 20 ∷ [])))
between = refl

behind : ranges_with_number 22 10 two ≡ all_to 10 (tsn_range_of 13 15 ∷ (tsn_range_of 18 20 ∷ (tsn_range_of 22 22 ∷ [])))
behind = refl

-- all up to a number; nothing changes where they were received before
forwarded_back : forwarded_ranges 9 10 two ≡ all_to 10 two
forwarded_back = refl

forwarded_repeated : forwarded_ranges 10 10 two ≡ all_to 10 two
forwarded_repeated = refl

forwarded_short : forwarded_ranges 11 10 two ≡ all_to 11 two
forwarded_short = refl

forwarded_touching : forwarded_ranges 12 10 two ≡ all_to 15 (tsn_range_of 18 20 ∷ [])
forwarded_touching = refl

forwarded_first : forwarded_ranges 13 10 two ≡ all_to 15 (tsn_range_of 18 20 ∷ [])
forwarded_first = refl

forwarded_last : forwarded_ranges 15 10 two ≡ all_to 15 (tsn_range_of 18 20 ∷ [])
forwarded_last = refl

forwarded_behind : forwarded_ranges 16 10 two ≡ all_to 16 (tsn_range_of 18 20 ∷ [])
forwarded_behind = refl

forwarded_second : forwarded_ranges 17 10 two ≡ all_to 20 []
forwarded_second = refl

forwarded_past : forwarded_ranges 30 10 two ≡ all_to 30 []
forwarded_past = refl

forwarded_none : forwarded_ranges 12 10 [] ≡ all_to 12 []
forwarded_none = refl
