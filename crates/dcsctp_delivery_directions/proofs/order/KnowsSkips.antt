-- What is known of FORWARD-TSNs stays known, whatever else is received.
use Rattle.std.proofs.Common.{◌≡◌, ℕ, Bool, true, false, ◌<◌, ◌≤◌, ◌+◌, ◌%◌, ◌^◌, List, [], ◌∷◌, ◌++◌, length, refl, sym, ◌∙◌, ap, arith, subst, inl, inr}
use Rattle.std.specs.Prelude.{◌⊎◌, Option, None, Some}
use Rattle.std.specs.List.{AllByRecursion}
use Rattle.dcsctp_spec_lemmas.specs.types.declared.arrivals.SkippedTo.{SkippedTo}
use Rattle.dcsctp_spec_lemmas.specs.types.declared.arrivals.SkippedTo.TheVariants.{Mid}
use Rattle.dcsctp_spec_lemmas.specs.spec.queues.Incoming.{stream_on}
use Rattle.dcsctp_spec_lemmas.specs.spec.queues.Reassembly.{WaitingSkips, ReassemblyState, skips_of}
use Rattle.dcsctp_spec_lemmas.specs.spec.queues.Tracker.{TrackerState, has_received, is_new_tsn, tracker_after_data}
use Rattle.dcsctp_delivery_directions.specs.sending.Places.{HasEntry, at_place}
use Rattle.dcsctp_delivery_directions.specs.sending.Log.{Message, Piece, History, sent_messages}
use Rattle.dcsctp_delivery_directions.specs.sending.Naming.{IsOfPiece, carries, closes}
use Rattle.dcsctp_delivery_directions.proofs.sending.Places.{at_some}
use Rattle.dcsctp_delivery_directions.specs.receiving.Received.{kept_entries}
use Rattle.dcsctp_delivery_directions.specs.receiving.Tracked.{Tracks, tracked_number}
use Rattle.dcsctp_delivery_directions.proofs.receiving.Continuing.{GoesOn, name_more}
use Rattle.dcsctp_delivery_directions.specs.order.Incoming.{IsWithin}
use Rattle.dcsctp_delivery_directions.specs.order.Reading.{Watch, CountsFromZero}
use Rattle.dcsctp_delivery_directions.specs.order.Received.{IsKeptSkip, WillSkip, IsSkipped, KnowsSkips}
use Rattle.dcsctp_delivery_directions.proofs.order.Incoming.{counts_before}
use Rattle.dcsctp_delivery_directions.proofs.order.PlainReceived.{observed_exact, known_exact}

-- ---- the tracker moves

-- The TSN carries a piece, and was received.
pub record IsTakenPiece (history : History) (taken : List ℕ) (number : ℕ) : Type 0 where
  pub has : HasEntry number taken
  pub piece : Piece
  pub at : at_place number history.log ≡ Some (Some piece)

pub of_taken : (history : History) (taken : List ℕ) (n : ℕ) (f : Piece) → IsOfPiece history.log f n → IsTakenPiece history taken n → HasEntry n taken × (at_place n history.log ≡ Some (Some f))
of_taken history taken _ f (carries n at) t = (t.has, at)
of_taken history taken _ f (closes n at end) t = absurd (let two : Some None ≡ Some (Some t.piece) = sym end ∙ t.at in cc)

pub kept_reached : (history : History) (first before after : ℕ) → before ≤ after → (entry : SkippedTo) → IsKeptSkip history first before entry → IsKeptSkip history first after entry
kept_reached history first before after up entry k = record { offset = k.offset; low = (let low = k.low in omega (arith, low, up)); names = k.names }

pub all_reached : (history : History) (first before after : ℕ) → before ≤ after → (entries : List SkippedTo) → AllByRecursion (IsKeptSkip history first before) entries → AllByRecursion (IsKeptSkip history first after) entries
all_reached history first before after up [] all = tt
all_reached history first before after up (entry ∷ entries) all = (kept_reached history first before after up entry all.0, all_reached history first before after up entries all.1)

pub will_reached : (history : History) (first before after id : ℕ) (skips : Option WaitingSkips) (n : ℕ) → before ≤ after → WillSkip history first before id skips n → WillSkip history first after id skips n
unfolding kept_reached
will_reached history first before after id skips n up w = record { mid = w.mid; has = w.has; kept = kept_reached history first before after up (Mid (record { 0 = id }) false w.mid) w.kept; below = w.below }

pub skipped_reached : (history : History) (first before after id next later : ℕ) (skips : Option WaitingSkips) (f : Piece) (n : ℕ) → before ≤ after → next ≤ later → IsSkipped history first id (record { cumulative = before; next = next; skips = skips }) f n → IsSkipped history first id (record { cumulative = after; next = later; skips = skips }) f n
skipped_reached history first before after id next later skips f n up grows s =
    elim s [
      | inl past ↦ inl (omega (arith, past, grows))
      | inr will ↦ inr (will_reached history first before after id skips n up will)
    ]

module _ (watch : ℕ → Watch) (queued : List Message) (history : History) (quiet : ℕ → Bool) (first : ℕ) where
  -- What counts as received now did before, or was received.
  abbrev pub AreNewlyTaken : List ℕ → TrackerState → TrackerState → Type 0
  AreNewlyTaken taken tracker now = (n : ℕ) → has_received now (tracked_number first n) ≡ true → (has_received tracker (tracked_number first n) ≡ true) ⊎ IsTakenPiece history taken n

  pub knows_on : (taken more : List ℕ) (tracker now : TrackerState) (reassembly : ReassemblyState) → tracker.cumulative ≤ now.cumulative → ((k : ℕ) → HasEntry k taken → HasEntry k more) → (reassembly.max_size ≤ 2 ^ 63 → AreNewlyTaken more tracker now)
      → KnowsSkips watch (sent_messages queued history) quiet first taken tracker reassembly → KnowsSkips watch (sent_messages queued history) quiet first more now reassembly
  knows_on taken more tracker now reassembly up among new k =
      record {
        kept = all_reached history first tracker.cumulative now.cumulative up (kept_entries (skips_of reassembly.deferral)) k.kept;
        each = λ small id little knows loud counts n f on ordered current of received. elim (new small n received) [
          | inr t ↦ inl (of_taken history more n f of t)
          | inl before ↦ elim (k.each small id little knows loud counts n f on ordered current of before) [
            | inl t ↦ inl (among n t.0, t.1)
            | inr s ↦ inr (skipped_reached history first tracker.cumulative now.cumulative id (stream_on id reassembly.incoming.streams).next (stream_on id reassembly.incoming.streams).next (skips_of reassembly.deferral) f n up (omega arith) s)
          ]
        ];
      }

  -- ---- data is handled

  pub knows_moved : (taken : List ℕ) (tracker : TrackerState) (old new : ReassemblyState) → new.max_size ≡ old.max_size → skips_of new.deferral ≡ skips_of old.deferral
      → ((id : ℕ) → CountsFromZero history id → quiet id ≡ false → (stream_on id old.incoming.streams).next ≤ (stream_on id new.incoming.streams).next)
      → KnowsSkips watch (sent_messages queued history) quiet first taken tracker old → KnowsSkips watch (sent_messages queued history) quiet first taken tracker new
  knows_moved taken tracker old new window same grows k =
      record {
        kept = subst (λ (s : Option WaitingSkips). AllByRecursion (IsKeptSkip history first tracker.cumulative) (kept_entries s)) (sym same) k.kept;
        each = λ small id little knows loud counts n f on ordered current of received. elim (k.each (omega (arith, small, window)) id little knows loud counts n f on ordered current of received) [
          | inl t ↦ inl t
          | inr s ↦ inr
              (subst (λ (x : Option WaitingSkips). IsSkipped history first id (record { cumulative = tracker.cumulative; next = (stream_on id new.incoming.streams).next; skips = x }) f n) (sym same)
              (skipped_reached history first tracker.cumulative tracker.cumulative id (stream_on id old.incoming.streams).next (stream_on id new.incoming.streams).next (skips_of old.deferral) f n (omega arith) (grows id counts loud) s))
        ];
      }

-- ---- a TSN is received

fewer : (first count : ℕ) (taken : List ℕ) (tracker : TrackerState) → Tracks first count taken tracker → Tracks first count [] tracker
fewer first count taken tracker t = record { beyond = t.beyond; reached = t.reached; started = t.started; sent = t.sent; received = λ offset h. absurd h }

pub observed_either : (first count offset : ℕ) (immediate : Bool) (taken : List ℕ) (tracker : TrackerState) → first < 2 ^ 32 → count < 2 ^ 31 → offset < count → Tracks first count taken tracker
    → (k : ℕ) → has_received (tracker_after_data ((first + offset) % 2 ^ 32) immediate tracker) (tracked_number first k) ≡ true → (has_received tracker (tracked_number first k) ≡ true) ⊎ (k ≡ offset)
observed_either first count offset immediate taken tracker small few below tracks k e = go (has_received tracker (tracked_number first k)) refl
  where
    go : (b : Bool) → has_received tracker (tracked_number first k) ≡ b → (has_received tracker (tracked_number first k) ≡ true) ⊎ (k ≡ offset)
    go true is = inl is
    go false is =
        elim (observed_exact first count offset immediate tracker [] small few below (fewer first count taken tracker tracks) (λ j. has_received tracker (tracked_number first j) ≡ false)
        (λ j sure known. absurd (let clash : true ≡ false = sym known ∙ sure in cc)) k is e) [
          | inl same ↦ inr same
          | inr none ↦ absurd none
        ]

-- one that isn't new
pub known_before : (first count offset : ℕ) (immediate : Bool) (taken : List ℕ) (tracker : TrackerState) → first < 2 ^ 32 → count < 2 ^ 31 → offset < count → Tracks first count taken tracker
    → is_new_tsn ((first + offset) % 2 ^ 32) tracker ≡ false → (k : ℕ) → has_received (tracker_after_data ((first + offset) % 2 ^ 32) immediate tracker) (tracked_number first k) ≡ true → has_received tracker (tracked_number first k) ≡ true
known_before first count offset immediate taken tracker small few below tracks known k e = go (has_received tracker (tracked_number first k)) refl
  where
    go : (b : Bool) → has_received tracker (tracked_number first k) ≡ b → has_received tracker (tracked_number first k) ≡ true
    go true is = is
    go false is =
        absurd
        (known_exact first count offset immediate tracker [] small few below (fewer first count taken tracker tracks) (λ j. has_received tracker (tracked_number first j) ≡ false)
        (λ j sure before. absurd (let clash : true ≡ false = sym before ∙ sure in cc)) known k is e)

-- ---- the peer goes on

module _ (watch : ℕ → Watch) (queued more : List Message) (history later : History) (goes : GoesOn history later) (within : IsWithin history later) (quiet : ℕ → Bool) (first : ℕ) where
  kept_later : (count cumulative : ℕ) → ((offset : ℕ) → tracked_number first offset ≤ cumulative → offset < length history.log) → (entry : SkippedTo) → IsKeptSkip history first cumulative entry → IsKeptSkip later first cumulative entry
  kept_later count cumulative sent entry k =
      record { offset = k.offset; low = k.low; names = name_more history later goes (k.offset + 1) (let below = sent k.offset k.low in omega (arith, below)) entry k.names }

  all_later : (cumulative : ℕ) → ((offset : ℕ) → tracked_number first offset ≤ cumulative → offset < length history.log) → (entries : List SkippedTo) → AllByRecursion (IsKeptSkip history first cumulative) entries → AllByRecursion (IsKeptSkip later first cumulative) entries
  all_later cumulative sent [] all = tt
  all_later cumulative sent (entry ∷ entries) all = (kept_later 0 cumulative sent entry all.0, all_later cumulative sent entries all.1)

  was_of : (n : ℕ) (f : Piece) → n < length history.log → IsOfPiece later.log f n → IsOfPiece history.log f n
  was_of _ f below (carries n at) = (let (slot, was) = at_some n history.log below in let both : Some slot ≡ Some (Some f) = sym (within.stays n slot was) ∙ at in carries n (was ∙ both))
  was_of _ f below (closes n at end) =
      let (slot, was) = at_some n history.log (omega (arith, below)) in
      let both : Some slot ≡ Some (Some f) = sym (within.stays n slot was) ∙ at in
      let (slot', was') = at_some (n + 1) history.log below in
      let both' : Some slot' ≡ Some None = sym (within.stays (n + 1) slot' was') ∙ end in
      closes n (was ∙ both) (was' ∙ both')

  pub knows_later : (taken got : List ℕ) (tracker : TrackerState) (reassembly : ReassemblyState) → Tracks first (length history.log) got tracker
      → KnowsSkips watch (sent_messages queued history) quiet first taken tracker reassembly → KnowsSkips watch (sent_messages (more ++ queued) later) quiet first taken tracker reassembly
  unfolding kept_later
  knows_later taken got tracker reassembly tracks k =
      record {
        kept = all_later tracker.cumulative sent (kept_entries (skips_of reassembly.deferral)) k.kept;
        each = λ small id little knows loud counts n f on ordered current of received. (
            let below : n < length history.log = (let here = tracks.sent (tracked_number first n) received in omega (arith, here)) in
            let was = was_of n f below of in
            let floor : later.floors id false ≡ history.floors id false = ap (λ (floors : ℕ → Bool → ℕ). floors id false) within.floors in
            elim (k.each small id little knows loud (counts_before queued more history later id within counts) n f on ordered (subst (λ (floors : ℕ → Bool → ℕ). floors f.message.stream f.message.is_unordered ≤ f.mid) within.floors current) was received) [
              | inl t ↦ inl (t.0, within.stays n (Some f) t.1)
              | inr s ↦ elim s [
                | inl past ↦ inr (inl (omega (arith, past, floor)))
                | inr w ↦ inr (inr (record { mid = w.mid; has = w.has; kept = kept_later 0 tracker.cumulative sent (Mid (record { 0 = id }) false w.mid) w.kept; below = w.below }))
              ]
            ]
            );
      }
    where
      sent : (offset : ℕ) → tracked_number first offset ≤ tracker.cumulative → offset < length history.log
      sent offset low = (let reached = tracks.reached in omega (arith, low, reached))
