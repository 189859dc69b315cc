-- What a snapshot has of what was received reads back.
use Rattle.std.proofs.Common.{Ordering, ◌≡◌, ◌==◌, ℕ, ◌+◌, ◌-◌, ◌%◌, ◌^◌, nat_le, nat_lt, Bool, true, false, cond, not, ◌||◌, if◌then◌else◌, List, [], ◌∷◌, map, Some, refl, sym, ◌∙◌, ap, arith}
use Rattle.std.specs.BTreeMap.{is_at}
use Rattle.std.specs.Cmp.{nat_cmp_is}
use Rattle.std.specs.Map.{lookup}
use Rattle.std.specs.Ordering.{nat_cmp, is_eq}
use Rattle.std.specs.declared.cmp.Ordering.TheVariants.{Less, Equal, Greater}
use Rattle.std.proofs.lemmas.Bool.Decides.{nat_tests}
use Rattle.std.proofs.lemmas.Map.Lookups.{exact_unsigned}
use Rattle.dcsctp_spec_lemmas.specs.types.declared.tracking.TsnRange.{TsnRange}
use Rattle.dcsctp_spec_lemmas.specs.spec.queues.Incoming.{stream_on, stream_or_new}
use Rattle.dcsctp_spec_lemmas.specs.spec.queues.IncomingStreams.{StreamModel, new_stream}
use Rattle.dcsctp_spec_lemmas.specs.spec.queues.Ranges.{is_received}
use Rattle.dcsctp_spec_lemmas.specs.spec.queues.ReceivedParts.{ordered_stream, restored_stream}
use Rattle.dcsctp_spec_runs.specs.ReceivedReadBack.{TrackerReadsBack, SameTsnsAreNew, StreamsReadBack}
use Rattle.dcsctp_spec_lemmas.specs.spec.queues.Tracker.{nearest_number, tsn_distance}

pub tracker_reads_back : TrackerReadsBack
tracker_reads_back options first tracker rx = refl

-- ---- which TSNs are new

-- Was a TSN that is so far ahead received, if none is beyond the cumulative one?
abbrev is_behind : ℕ → Bool
is_behind ahead = if nat_lt ahead (2 ^ 31) then nat_le ahead 0 else true

or_false : (b : Bool) → (b || false) ≡ b
or_false true = refl
or_false false = refl

received_behind : (cumulative tsn : ℕ) → is_received cumulative (nearest_number cumulative tsn) [] ≡ is_behind (tsn_distance cumulative tsn)
received_behind cumulative tsn = or_false _ ∙ go (nat_lt (tsn_distance cumulative tsn) (2 ^ 31)) (tsn_distance cumulative tsn)
  where
    go : (is_ahead : Bool) (ahead : ℕ) → nat_le (if is_ahead then cumulative + ahead else cumulative - (2 ^ 32 - ahead)) cumulative ≡ (if is_ahead then nat_le ahead 0 else true)
    go true ahead = grind (arith, nat_tests)
    go false ahead = grind (arith, nat_tests)

same_distance : (cumulative tsn : ℕ) → tsn_distance (cumulative % 2 ^ 32) tsn ≡ tsn_distance cumulative tsn
same_distance cumulative tsn = ap (λ (low : ℕ). (tsn + (2 ^ 32 - low)) % 2 ^ 32) (omega arith)

pub same_tsns_are_new : SameTsnsAreNew
same_tsns_are_new options first tsn tracker rx none =
    ap not (received_behind (tracker.cumulative % 2 ^ 32) tsn
    ∙ ap is_behind (same_distance tracker.cumulative tsn)
    ∙ sym (received_behind tracker.cumulative tsn)
    ∙ ap (λ (ranges : List TsnRange). is_received tracker.cumulative (nearest_number tracker.cumulative tsn) ranges) (sym none))

-- ---- streams

is_eq_equal : (o : Ordering) → is_eq o ≡ true → o ≡ Equal
is_eq_equal Less never = absurd (cc)
is_eq_equal Equal same = refl
is_eq_equal Greater never = absurd (cc)

-- a key of a map is equal to a number where the two are the same
at_number : (id key : ℕ) → is_at (nat_cmp id) key ≡ (key == id)
at_number id key = go (is_at (nat_cmp id) key) (key == id) refl refl
  where
    go : (at is : Bool) → is_at (nat_cmp id) key ≡ at → (key == id) ≡ is → at ≡ is
    go true true found same = refl
    go false false found same = refl
    go true false found apart = let same : id ≡ key = exact_unsigned id key (is_eq_equal (nat_cmp id key) found) in grind (arith, nat_tests)
    go false true found same =
        let equal : id ≡ key = grind (arith, nat_tests) in
        let found' : is_eq Equal ≡ false = ap is_eq (nat_cmp_is id key Equal equal) ∙ found in absurd (cc)

-- the stream that continues with this number
abbrev going_on : ℕ → StreamModel → StreamModel
going_on id stream = record (new_stream id) { next = 2 ^ 32 + stream.next % 2 ^ 32 }

streams_read_back_from : (id : ℕ) (streams : List (ℕ × StreamModel)) → restored_stream id (map (λ (entry : ℕ × StreamModel). ordered_stream entry.0 entry.1) streams) ≡ going_on id (stream_on id streams)
streams_read_back_from id [] = refl
streams_read_back_from id (entry ∷ streams) =
    go (is_at (nat_cmp id) entry.0) (entry.0 == id) (at_number id entry.0) (streams_read_back_from id streams)
  where
    go : (at is : Bool) → at ≡ is → restored_stream id (map (λ (entry : ℕ × StreamModel). ordered_stream entry.0 entry.1) streams) ≡ going_on id (stream_on id streams) → (if is then going_on id entry.1 else restored_stream id (map (λ (entry : ℕ × StreamModel). ordered_stream entry.0 entry.1) streams)) ≡ going_on id (stream_or_new id (cond at (Some entry.1) (lookup (is_at (nat_cmp id)) streams)))
    go true true both rest = refl
    go false false both rest = rest
    go true false both rest = absurd (cc)
    go false true both rest = absurd (cc)

pub streams_read_back : StreamsReadBack
streams_read_back id queue rx = streams_read_back_from id queue.incoming.streams
