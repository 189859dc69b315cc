-- What a SACK and the retransmission timer leave in flight.
use Rattle.std.proofs.Common.{◌≡◌, ℕ, zero, suc, Bool, true, false, ◌+◌, ◌-◌, ◌≤◌, List, [], ◌∷◌, length, drop, refl, sym, ◌∙◌, ap, arith, subst, inl, inr}
use Rattle.std.specs.Prelude.{Option, slice_get, nat_lt, if◌then◌else◌}
use Rattle.std.specs.Option.{option_map}
use Rattle.std.proofs.lemmas.Bool.Decides.{nat_tests}
use Rattle.std.proofs.lemmas.List.{length-drop}
use Rattle.dcsctp_spec.specs.wire.declared.chunk.sack.GapAckBlock.{GapAckBlock}
use Rattle.dcsctp_spec.specs.types.declared.progress.Change.TheVariants.{Miss, Mark, Acknowledge}
use Rattle.dcsctp_spec.specs.queues.Acknowledging.{is_sack_valid, AcknowledgesItems, covered_items, lossy, missed_until, without_first_items, acknowledged_until, exiting, opens, probes_lost, window_after_settling}
use Rattle.dcsctp_spec.specs.queues.Items.{Item, marked_items, changed_between}
use Rattle.dcsctp_spec.specs.queues.Outstanding.{OutstandingState, acknowledged_count, reported_items, tsn_at}
use Rattle.dcsctp_spec.specs.queues.Retransmission.{RetransmissionState, with_items, outstanding_count, after_expiry}
use Rattle.dcsctp_delivery_directions.specs.sending.Log.{History}
use Rattle.dcsctp_delivery_directions.specs.sending.Places.{at_place}
use Rattle.dcsctp_delivery_directions.specs.sending.Stages.{SaysTsn, IsNamedFragment, Bears}
use Rattle.dcsctp_delivery_directions.proofs.sending.Limits.{losing_leaves, missing_leaves, acknowledging_leaves, acknowledging_keeps, missing_keeps, losing_keeps}
use Rattle.dcsctp_delivery_directions.proofs.sending.Stages.{changed_length, bears_changed}

-- with these items
abbrev Having : History → ℕ → ℕ → OutstandingState → List Item → Type 0
Having history first acknowledged outstanding items = Bears history first acknowledged (record outstanding { items = items })

reported_bear : (history : History) (first acknowledged count : ℕ) (blocks : List GapAckBlock) (outstanding : OutstandingState) → Bears history first acknowledged outstanding → Having history first acknowledged outstanding (reported_items count blocks outstanding.items)
reported_bear history first acknowledged count [] outstanding b = b
reported_bear history first acknowledged count (block ∷ blocks) outstanding b =
    reported_bear history first acknowledged count blocks (record outstanding { items = changed_between Acknowledge (count + block.start - 1) (count + block.end) outstanding.items })
    (bears_changed history first acknowledged Acknowledge (count + block.start - 1) (count + block.end) outstanding acknowledging_leaves (λ k item at from below. acknowledging_keeps item.progress) b)

covered_bear : (history : History) (first acknowledged count : ℕ) (blocks : List GapAckBlock) (outstanding : OutstandingState) → Bears history first acknowledged outstanding → Having history first acknowledged outstanding (covered_items count blocks outstanding.items)
covered_bear history first acknowledged count blocks outstanding b =
    reported_bear history first acknowledged count blocks (record outstanding { items = changed_between Acknowledge 0 count outstanding.items }) (bears_changed history first acknowledged Acknowledge 0 count outstanding acknowledging_leaves (λ k item at from below. acknowledging_keeps item.progress) b)

missed_bear : (history : History) (first acknowledged count limit : ℕ) (newest : Option ℕ) (state : RetransmissionState) → Bears history first acknowledged state.outstanding → Bears history first acknowledged (missed_until count limit newest state).outstanding
missed_bear history first acknowledged count limit newest state b =
    go (nat_lt (marked_items state.outstanding.items) (marked_items (changed_between (Miss newest) count limit state.outstanding.items))) (bears_changed history first acknowledged (Miss newest) count limit state.outstanding (missing_leaves newest) (λ k item at from below. missing_keeps newest item.progress) b)
  where
    items : List Item
    items = changed_between (Miss newest) count limit state.outstanding.items

    go : (c : Bool) → Having history first acknowledged state.outstanding items → Bears history first acknowledged (if c then lossy (with_items items state) else with_items items state).outstanding
    go true b' = b'
    go false b' = b'

dropped_length : (count : ℕ) (items : List Item) → count ≤ length items → count + length (drop count items) ≡ length items
dropped_length count items le = omega (arith, length-drop count items)

dropped_at : (count k n : ℕ) (items : List Item) → n ≡ count + k → slice_get (drop count items) k ≡ slice_get items n
dropped_at zero k n items e = ap (slice_get items) (let same : k ≡ n = omega arith in same)
dropped_at (suc count) zero zero [] e = refl
dropped_at (suc count) zero (suc n) [] e = refl
dropped_at (suc count) (suc k) zero [] e = refl
dropped_at (suc count) (suc k) (suc n) [] e = refl
dropped_at (suc count) k zero (item ∷ items) e = absurd (omega arith)
dropped_at (suc count) k (suc n) (item ∷ items) e = dropped_at count k n items (omega arith)

first_bear : (history : History) (first acknowledged count : ℕ) (state : RetransmissionState) → count ≤ length state.outstanding.items → Bears history first acknowledged state.outstanding → Bears history first (acknowledged + count) (without_first_items count state).outstanding
first_bear history first acknowledged count state le b =
    record {
      tsn = (let at = b.tsn in grind (arith, at));
      count = omega (arith, b.count, dropped_length count state.outstanding.items le);
      items = λ k item at. (
          let there = b.items (count + k) item (sym (dropped_at count k (count + k) state.outstanding.items refl) ∙ at) in
          let same : acknowledged + (count + k) ≡ acknowledged + count + k = omega arith in
          subst (λ (n : ℕ). SaysTsn history.log n item.fragment) same there
          );
      named = λ k item at. (
          let there = b.named (count + k) item (sym (dropped_at count k (count + k) state.outstanding.items refl) ∙ at) in
          let same : acknowledged + (count + k) ≡ acknowledged + count + k = omega arith in
          subst (λ (n : ℕ). IsNamedFragment history n item.fragment) same there
          );
      abandoned = λ k item at is. b.abandoned (count + k) item (sym (dropped_at count k (count + k) state.outstanding.items refl) ∙ at) is;
      splits = λ mark has k item at is. (
          let same : acknowledged + (count + k) ≡ mark.bound = omega (arith, is) in
          b.splits mark has (count + k) item (sym (dropped_at count k (count + k) state.outstanding.items refl) ∙ at) same
          );
      whole = λ kind none. (
          let w = b.whole kind none in
          let front : (k : ℕ) → slice_get (drop count state.outstanding.items) k ≡ slice_get state.outstanding.items (count + k) = λ k. dropped_at count k (count + k) state.outstanding.items refl in
          record {
            closed = λ k item at none'. w.closed (count + k) item (sym (front k) ∙ at) (ap (λ (n : ℕ). at_place n history.log) (omega arith) ∙ none');
            joined = λ k item next at at' unended. w.joined (count + k) item next (sym (front k) ∙ at) (ap (λ (n : ℕ). slice_get state.outstanding.items n) (omega arith) ∙ sym (front (k + 1)) ∙ at') unended;
            together = λ k item at is unended. elim (w.together (count + k) item (sym (front k) ∙ at) is unended) [
              | inl next ↦ inl (next.0, front (k + 1) ∙ ap (λ (n : ℕ). slice_get state.outstanding.items n) (omega arith) ∙ next.1, next.2)
              | inr last ↦ inr (omega (arith, last))
            ];
            begins = λ k item at is. (let zero_at = w.begins (count + k) item (sym (front k) ∙ at) is in omega (arith, zero_at));
          }
          );
    }

-- how many items are left in between
reported_length : (count : ℕ) (blocks : List GapAckBlock) (items : List Item) → length (reported_items count blocks items) ≡ length items
reported_length count [] items = refl
reported_length count (block ∷ blocks) items =
    reported_length count blocks (changed_between Acknowledge (count + block.start - 1) (count + block.end) items)
    ∙ changed_length Acknowledge (count + block.start - 1) (count + block.end) items

covered_length : (count : ℕ) (blocks : List GapAckBlock) (items : List Item) → length (covered_items count blocks items) ≡ length items
covered_length count blocks items = reported_length count blocks (changed_between Acknowledge 0 count items) ∙ changed_length Acknowledge 0 count items

missed_items : (count limit : ℕ) (newest : Option ℕ) (state : RetransmissionState) → length (missed_until count limit newest state).outstanding.items ≡ length state.outstanding.items
missed_items count limit newest state =
    go (nat_lt (marked_items state.outstanding.items) (marked_items (changed_between (Miss newest) count limit state.outstanding.items)))
  where
    items : List Item
    items = changed_between (Miss newest) count limit state.outstanding.items

    go : (c : Bool) → length (if c then lossy (with_items items state) else with_items items state).outstanding.items ≡ length state.outstanding.items
    go true = changed_length (Miss newest) count limit state.outstanding.items
    go false = changed_length (Miss newest) count limit state.outstanding.items

-- where probes of the peer's window are lost
probes_bear : (history : History) (first acknowledged : ℕ) (b : Bool) (state : RetransmissionState) → Bears history first acknowledged state.outstanding
    → Bears history first acknowledged (probes_lost b state).outstanding
probes_bear history first acknowledged true state bear =
    bears_changed history first acknowledged Mark 0 (outstanding_count state) state.outstanding losing_leaves (λ k item at from below. losing_keeps item.progress) bear
probes_bear history first acknowledged false state bear = bear

settled_bear : (history : History) (first acknowledged now window count : ℕ) (state : RetransmissionState) → Bears history first acknowledged state.outstanding
    → Bears history first acknowledged (window_after_settling now window count state).outstanding
settled_bear history first acknowledged now window count state bear =
    let told : RetransmissionState = record state { peer_window = window } in probes_bear history first acknowledged (opens state told) told bear

-- the kind of what is in flight, and the reset that pends
probes_stay : (b : Bool) (state : RetransmissionState)
    → ((probes_lost b state).outstanding.is_interleaved ≡ state.outstanding.is_interleaved) × ((probes_lost b state).reset_begun ≡ state.reset_begun)
probes_stay true state = (refl, refl)
probes_stay false state = (refl, refl)

settled_stay : (now window count : ℕ) (state : RetransmissionState)
    → ((window_after_settling now window count state).outstanding.is_interleaved ≡ state.outstanding.is_interleaved)
    × ((window_after_settling now window count state).reset_begun ≡ state.reset_begun)
settled_stay now window count state = let told : RetransmissionState = record state { peer_window = window } in probes_stay (opens state told) told

pub acknowledged_bear : (history : History) (first acknowledged now cumulative window : ℕ) (blocks : List GapAckBlock) (old new : RetransmissionState) → is_sack_valid old cumulative ≡ true → Bears history first acknowledged old.outstanding
    → AcknowledgesItems now cumulative window blocks old new → Bears history first (acknowledged + acknowledged_count old.outstanding cumulative) new.outstanding
acknowledged_bear history first acknowledged now cumulative window blocks old new valid b acknowledges =
    subst (λ (s : RetransmissionState). Bears history first (acknowledged + acknowledged_count old.outstanding cumulative) s.outstanding) (sym acknowledges.is)
    (settled_bear history first (acknowledged + count) now window count left (first_bear history first acknowledged count missed (omega (arith, within, missed_length)) missed_b))
  where
    count : ℕ
    count = acknowledged_count old.outstanding cumulative

    start : RetransmissionState
    start = with_items (covered_items count blocks old.outstanding.items) (exiting cumulative old)

    missed : RetransmissionState
    missed = missed_until count acknowledges.limit (option_map (tsn_at old.outstanding) acknowledges.newest) start

    left : RetransmissionState
    left = acknowledged_until count blocks acknowledges.limit (option_map (tsn_at old.outstanding) acknowledges.newest) (exiting cumulative old)

    start_b : Bears history first acknowledged start.outstanding
    start_b = covered_bear history first acknowledged count blocks old.outstanding b

    missed_b : Bears history first acknowledged missed.outstanding
    missed_b = missed_bear history first acknowledged count acknowledges.limit (option_map (tsn_at old.outstanding) acknowledges.newest) start start_b

    within : count ≤ length old.outstanding.items
    within = grind (arith, nat_tests, valid)

    missed_length : length missed.outstanding.items ≡ length old.outstanding.items
    missed_length = missed_items count acknowledges.limit (option_map (tsn_at old.outstanding) acknowledges.newest) start ∙ covered_length count blocks old.outstanding.items

-- what is in flight is sent as before
pub acknowledged_kind : (now cumulative window : ℕ) (blocks : List GapAckBlock) (old new : RetransmissionState) → AcknowledgesItems now cumulative window blocks old new
    → new.outstanding.is_interleaved ≡ old.outstanding.is_interleaved
acknowledged_kind now cumulative window blocks old new acknowledges =
    ap (λ (s : RetransmissionState). s.outstanding.is_interleaved) acknowledges.is
    ∙ (settled_stay now window (acknowledged_count old.outstanding cumulative)
    (acknowledged_until (acknowledged_count old.outstanding cumulative) blocks acknowledges.limit (option_map (tsn_at old.outstanding) acknowledges.newest) (exiting cumulative old))).0
    ∙ missed (acknowledged_count old.outstanding cumulative) acknowledges.limit (option_map (tsn_at old.outstanding) acknowledges.newest)
    (with_items (covered_items (acknowledged_count old.outstanding cumulative) blocks old.outstanding.items) (exiting cumulative old))
  where
    missed : (count limit : ℕ) (newest : Option ℕ) (state : RetransmissionState) → (missed_until count limit newest state).outstanding.is_interleaved ≡ state.outstanding.is_interleaved
    missed count limit newest state = go (nat_lt (marked_items state.outstanding.items) (marked_items (changed_between (Miss newest) count limit state.outstanding.items)))
      where
        go : (c : Bool) → (let items = changed_between (Miss newest) count limit state.outstanding.items in (if c then lossy (with_items items state) else with_items items state).outstanding.is_interleaved ≡ state.outstanding.is_interleaved)
        go true = refl
        go false = refl

-- what is sent next says as before whether a reset was begun before it
pub acknowledged_pends : (now cumulative window : ℕ) (blocks : List GapAckBlock) (old new : RetransmissionState) → AcknowledgesItems now cumulative window blocks old new → new.reset_begun ≡ old.reset_begun
acknowledged_pends now cumulative window blocks old new acknowledges =
    ap (λ (s : RetransmissionState). s.reset_begun) acknowledges.is
    ∙ (settled_stay now window (acknowledged_count old.outstanding cumulative)
    (acknowledged_until (acknowledged_count old.outstanding cumulative) blocks acknowledges.limit (option_map (tsn_at old.outstanding) acknowledges.newest) (exiting cumulative old))).1
    ∙ missed (acknowledged_count old.outstanding cumulative) acknowledges.limit (option_map (tsn_at old.outstanding) acknowledges.newest)
    (with_items (covered_items (acknowledged_count old.outstanding cumulative) blocks old.outstanding.items) (exiting cumulative old))
  where
    missed : (count limit : ℕ) (newest : Option ℕ) (state : RetransmissionState) → (missed_until count limit newest state).reset_begun ≡ state.reset_begun
    missed count limit newest state = go (nat_lt (marked_items state.outstanding.items) (marked_items (changed_between (Miss newest) count limit state.outstanding.items)))
      where
        go : (c : Bool) → (let items = changed_between (Miss newest) count limit state.outstanding.items in (if c then lossy (with_items items state) else with_items items state).reset_begun ≡ state.reset_begun)
        go true = refl
        go false = refl

pub lost_pends : (now : ℕ) (state : RetransmissionState) → (after_expiry now state).reset_begun ≡ state.reset_begun
lost_pends now state = refl

pub lost_bear : (history : History) (first acknowledged now : ℕ) (state : RetransmissionState) → Bears history first acknowledged state.outstanding → Bears history first acknowledged (after_expiry now state).outstanding
lost_bear history first acknowledged now state b = bears_changed history first acknowledged Mark 0 (outstanding_count state) state.outstanding losing_leaves (λ k item at from below. losing_keeps item.progress) b
