-- What holds throughout a run in which requests to reset streams end in turn, with interleaving or without; and a step in which
-- no reset is performed or ends.
use Rattle.std.proofs.Common.{◌≡◌, ℕ, Bool, true, false, ◌<◌, ◌≤◌, ◌^◌, List, [], ◌∷◌, ◌++◌, length, length-append, refl, sym, ◌∙◌, ap, arith, subst, inl, inr}
use Rattle.std.specs.Prelude.{None, Some, if◌then◌else◌}
use Rattle.std.proofs.lemmas.Bool.Decides.{leb_tells}
use Rattle.dcsctp_spec.specs.types.queues.Messages.{MessageContent}
use Rattle.dcsctp_spec.specs.queues.Reassembly.{names_stream, with_ready}
use Rattle.dcsctp_delivery_directions.specs.sending.Places.{HasEntry, at_place}
use Rattle.dcsctp_delivery_directions.specs.sending.Log.{Message, Piece, Slot, History}
use Rattle.dcsctp_delivery_directions.specs.sending.Numbers.{stream_named, is_handed_out}
use Rattle.dcsctp_delivery_directions.specs.receiving.Ready.{WereQueued}
use Rattle.dcsctp_delivery_directions.specs.receiving.Received.{HasReceived}
use Rattle.dcsctp_delivery_directions.specs.directions.Calm.{ResetsNothing}
use Rattle.dcsctp_delivery_directions.specs.directions.Directions.{Beginning, PerformedReset, Direction, assigned_count, DirectionStep, queues, sets, prepares, commits, rolls_back, flushes, resends, resends_nothing, speaks, asks_again, renews, turns_aside, acknowledges, loses, receives, forwards, receives_interleaved, forwards_interleaved, tracks, defers, performs, performs_earlier, resets, takes}
use Rattle.dcsctp_delivery_directions.specs.order.Queue.{Cut}
use Rattle.dcsctp_delivery_directions.proofs.sending.Chunks.{kinds_of}
use Rattle.dcsctp_delivery_directions.proofs.sending.Extended.{at_more}
use Rattle.dcsctp_delivery_directions.proofs.sending.Places.{at_some}
use Rattle.dcsctp_delivery_directions.proofs.directions.Cleared.{not_new}
use Rattle.dcsctp_delivery_directions.proofs.directions.Continuing.{NamedAreOut, EndsNone, Continues, step_continues}
use Rattle.dcsctp_delivery_directions.proofs.directions.Losing.{same_beginning}
use Rattle.dcsctp_delivery_directions.proofs.directions.Standing.{Arrived, Stands}
use Rattle.dcsctp_delivery_directions.proofs.directions.Steps.{more_queued, stepped}
use Rattle.dcsctp_delivery_directions.proofs.order.Directions.{Unended, step_keeps}
use Rattle.dcsctp_delivery_directions.proofs.order.PlainSteps.{same_kind}
use Rattle.dcsctp_delivery_directions.specs.epochs.Sending.{EpochBounds}
use Rattle.dcsctp_delivery_directions.specs.epochs.Directions.{asked_after}
use Rattle.dcsctp_delivery_directions.specs.epochs.InTurn.{starts_after}
use Rattle.dcsctp_delivery_directions.proofs.epochs.AskedBounds.{AreAsked, asked_on}
use Rattle.dcsctp_delivery_directions.proofs.epochs.AskedSending.{stepped_asked, GoesAsAsked, goes_asked}
use Rattle.dcsctp_delivery_directions.proofs.epochs.Behind.{AreBehind, asked_keeps, behind_later}
use Rattle.dcsctp_delivery_directions.proofs.epochs.Dated.{dated_queued, dated_log, dated_history, dated_contents}
use Rattle.dcsctp_delivery_directions.proofs.epochs.DatedReceived.{young_contents, later_dated}
use Rattle.dcsctp_delivery_directions.proofs.epochs.DatedSteps.{ArrivesDated, IsBounded, arrives_quiet}
use Rattle.dcsctp_delivery_directions.proofs.epochs.ReadCounts.{count_reached, reached_grows, cumulative_grows}

-- ---- resets that were performed

-- It was asked for once so many messages were queued, and performed once so many were read or ready.
pub record IsKnownCut (first : ℕ) (history : History) (direction : Direction) (id : ℕ) (c : Cut) : Type 0 where
  pub place_low : c.place ≤ length direction.queued
  pub index_low : c.index ≤ count_reached direction
  pub bounded : IsBounded first history direction.tracker.cumulative id c

-- The newest comes first.
abbrev pub AreSorted : List Cut → Type 0
AreSorted [] = Unit {0}
AreSorted (c ∷ cuts) = ((x : Cut) → HasEntry x cuts → (x.index ≤ c.index) × (x.place ≤ c.place)) × AreSorted cuts

-- One of this index is there, which the user asked for.
pub record HasCut (beginning : Beginning) (cuts : List Cut) (id index : ℕ) : Type 0 where
  pub cut : Cut
  pub has : HasEntry cut cuts
  pub index_is : cut.index ≡ index
  pub asked : beginning.asks id cut.place ≡ true

-- So it is of each reset that was performed, on each stream that was open first.
abbrev pub HaveCuts : (ℕ → Bool) → (ℕ → List Cut) → Beginning → List PerformedReset → Type 0
HaveCuts opened cuts beginning performed = (id : ℕ) → opened id ≡ true → (reset : PerformedReset) → HasEntry reset performed → names_stream reset.streams id ≡ true → HasCut beginning (cuts id) id reset.index

pub record SplitsSo (first : ℕ) (direction : Direction) (opened : ℕ → Bool) (begun : ℕ → ℕ) (asked : ℕ → EpochBounds) : Type 0 where
  pub goes : GoesAsAsked first direction opened begun asked
  pub named : NamedAreOut goes.stands.history direction.asking.out direction.queues.queue.streams
  pub unended : Unended direction.asking
  pub started : (id : ℕ) → begun id ≤ assigned_count direction
  pub cuts : ℕ → List Cut
  pub behind : AreBehind direction.queues.queue.streams asked cuts
  pub each : (id : ℕ) (c : Cut) → HasEntry c (cuts id) → IsKnownCut first goes.stands.history direction id c
  pub sorted : (id : ℕ) → AreSorted (cuts id)
  pub are : AreAsked direction.beginning asked
  pub have : HaveCuts opened cuts direction.beginning direction.performed
  pub arrives : length goes.stands.history.log < 2 ^ 31 → direction.queues.queue.is_interleaved ≡ false → ArrivesDated first goes.stands.history cuts direction.queued direction.read direction.tracker direction.reassembly

-- ---- nothing is dated at first

abbrev pub no_cuts : ℕ → List Cut
no_cuts id = []

undated_queued : (queued : List Message) → dated_queued no_cuts queued ≡ queued
undated_queued [] = refl
undated_queued (m ∷ queued) = ap (λ (k : ℕ). record m { ppid = k } ∷ dated_queued no_cuts queued) (omega arith) ∙ ap (λ (l : List Message). m ∷ l) (undated_queued queued)

undated_log : (log : List Slot) → dated_log no_cuts log ≡ log
undated_log [] = refl
undated_log (None ∷ log) = ap (λ (l : List Slot). None ∷ l) (undated_log log)
undated_log (Some f ∷ log) = ap (λ (k : ℕ). Some (record f { message = record f.message { ppid = k } }) ∷ dated_log no_cuts log) (omega arith) ∙ ap (λ (l : List Slot). Some f ∷ l) (undated_log log)

pub arrives_undated : (first : ℕ) (history : History) (direction : Direction) → Arrived first history direction → ArrivesDated first history no_cuts direction.queued direction.read direction.tracker direction.reassembly
arrives_undated first history direction a =
    record {
      places = a.places;
      were = subst (λ (q : List Message). WereQueued q a.places (dated_contents no_cuts 0 direction.read)) (sym (undated_queued direction.queued))
          (subst (WereQueued direction.queued a.places) (sym (young_contents no_cuts 0 direction.read (λ id c has. absurd has))) a.were);
      once = a.once;
      received = subst (λ (q : List Message). HasReceived q (dated_history no_cuts history) first a.places direction.tracker (with_ready (dated_contents no_cuts (length direction.read) direction.reassembly.incoming.ready) direction.reassembly))
          (sym (undated_queued direction.queued))
          (subst (λ (l : List Slot). HasReceived direction.queued (record history { log = l }) first a.places direction.tracker (with_ready (dated_contents no_cuts (length direction.read) direction.reassembly.incoming.ready) direction.reassembly))
          (sym (undated_log history.log))
          (subst (λ (l : List MessageContent). HasReceived direction.queued history first a.places direction.tracker (with_ready l direction.reassembly))
          (sym (young_contents no_cuts (length direction.read) direction.reassembly.incoming.ready (λ id c has. absurd has))) a.received));
    }

-- ---- when resets end

pub starts_low : (old direction : Direction) (step : DirectionStep old direction) (begun : ℕ → ℕ) → ((id : ℕ) → begun id ≤ assigned_count old) → (id : ℕ) → starts_after old direction step begun id ≤ assigned_count old
starts_low old _ (commits go_on) begun low id = go (is_handed_out (stream_named id old.queues.queue.streams).pause)
  where
    go : (b : Bool) → (if b then assigned_count old else begun id) ≤ assigned_count old
    go true = omega arith
    go false = low id
starts_low old _ (queues now sending fits some) begun low id = low id
starts_low old _ (sets setting fits) begun low id = low id
starts_low old _ (prepares ids fit dropped) begun low id = low id
starts_low old _ (rolls_back unmixed) begun low id = low id
starts_low old _ (flushes e draft answers same no_data allowed) begun low id = low id
starts_low old _ (resends now room transfer left tsns chunks emission known sends are contents) begun low id = low id
starts_low old _ (resends_nothing now room transfer left tsns known sends) begun low id = low id
starts_low old _ (speaks emission no_data) begun low id = low id
starts_low old _ (asks_again emission newest was contents) begun low id = low id
starts_low old _ (renews emission newest earlier number asks out contents) begun low id = low id
starts_low old _ (turns_aside transfer new known same) begun low id = low id
starts_low old _ (acknowledges now sack transfer new known valid reached does) begun low id = low id
starts_low old _ (loses now transfer known) begun low id = low id
starts_low old _ (receives emission chunk theirs new was holds some same same' does) begun low id = low id
starts_low old _ (forwards emission tsn streams theirs new was holds same same' does) begun low id = low id
starts_low old _ (receives_interleaved emission chunk theirs new was holds some same same' does) begun low id = low id
starts_low old _ (forwards_interleaved emission tsn streams theirs new was holds same same' does) begun low id = low id
starts_low old _ (tracks new cumulative ranges) begun low id = low id
starts_low old _ (defers last_tsn streams some) begun low id = low id
starts_low old _ (performs newest earlier new asks unknown reached own leaves) begun low id = low id
starts_low old _ (performs_earlier newest earlier new asks unknown reached own leaves) begun low id = low id
starts_low old _ (resets streams new unmixed some leaves) begun low id = low id
starts_low old _ (takes message messages ready) begun low id = low id

-- a step that performs nothing leaves what was performed
same_performed : (old direction : Direction) (step : DirectionStep old direction) → ResetsNothing old direction step → direction.performed ≡ old.performed
same_performed old _ (performs newest earlier new asks unknown reached own leaves) quiet = absurd quiet
same_performed old _ (performs_earlier newest earlier new asks unknown reached own leaves) quiet = absurd quiet
same_performed old _ (resets streams new unmixed some leaves) quiet = absurd quiet
same_performed old _ (queues now sending fits some) quiet = refl
same_performed old _ (sets setting fits) quiet = refl
same_performed old _ (prepares ids fit dropped) quiet = refl
same_performed old _ (commits go_on) quiet = refl
same_performed old _ (rolls_back unmixed) quiet = refl
same_performed old _ (flushes e draft answers same no_data allowed) quiet = refl
same_performed old _ (resends now room transfer left tsns chunks emission known sends are contents) quiet = refl
same_performed old _ (resends_nothing now room transfer left tsns known sends) quiet = refl
same_performed old _ (speaks emission no_data) quiet = refl
same_performed old _ (asks_again emission begun was contents) quiet = refl
same_performed old _ (renews emission newest earlier number asks out contents) quiet = refl
same_performed old _ (turns_aside transfer new known same) quiet = refl
same_performed old _ (acknowledges now sack transfer new known valid reached does) quiet = refl
same_performed old _ (loses now transfer known) quiet = refl
same_performed old _ (receives emission chunk theirs new was holds some same same' does) quiet = refl
same_performed old _ (forwards emission tsn streams theirs new was holds same same' does) quiet = refl
same_performed old _ (receives_interleaved emission chunk theirs new was holds some same same' does) quiet = refl
same_performed old _ (forwards_interleaved emission tsn streams theirs new was holds same same' does) quiet = refl
same_performed old _ (tracks new cumulative ranges) quiet = refl
same_performed old _ (defers last_tsn streams some) quiet = refl
same_performed old _ (takes message messages ready) quiet = refl

-- ---- a step in which no reset is performed or ends

earlier_at : (more log : List Slot) (n : ℕ) (f : Piece) → n < length log → at_place n (more ++ log) ≡ Some (Some f) → at_place n log ≡ Some (Some f)
earlier_at more log n f low at =
    let (slot, was) = at_some n log low in
    let both : Some slot ≡ Some (Some f) = sym (at_more more log n slot was) ∙ at in
    was ∙ both

module _ (first : ℕ) (old : Direction) (small : first < 2 ^ 32) (opened : ℕ → Bool) (begun : ℕ → ℕ) (asked : ℕ → EpochBounds) (d : SplitsSo first old opened begun asked) where
  abbrev s : Stands first old
  s = d.goes.stands

  pub further : (direction : Direction) (few : length direction.queued < 2 ^ 64) (step : DirectionStep old direction) → EndsNone old direction step → ResetsNothing old direction step
      → SplitsSo first direction opened (starts_after old direction step begun) (asked_after old direction step asked)
  unfolding goes_asked
  further direction few step ends quiet =
      record {
        goes = goes_asked first old small opened begun asked d.goes direction few step;
        named = c.named d.named;
        unended = (step_keeps old direction step ends).unended d.unended;
        started = λ id. (let low = starts_low old direction step begun d.started id in omega (arith, low, longer));
        cuts = d.cuts;
        behind = behind_later old.queues.queue.streams direction.queues.queue.streams asked (asked_after old direction step asked) d.cuts c.stay (asked_keeps old direction step asked ends) d.behind;
        each = each_later;
        sorted = d.sorted;
        are = asked_on old direction step asked d.are;
        have = subst (HaveCuts opened d.cuts direction.beginning) (sym (same_performed old direction step quiet)) (subst (λ (b : Beginning). HaveCuts opened d.cuts b old.performed) (sym (same_beginning old direction step)) d.have);
        arrives = λ little unmixed. (
            let a = arrives_quiet first old small s d.cuts (before little) (sym (same_kind old direction step) ∙ unmixed) (λ id x has. (d.each id x has).bounded) (λ id x has. (d.each id x has).index_low)
            (d.arrives (before little) (sym (same_kind old direction step) ∙ unmixed)) direction step quiet in
            record {
              places = a.places;
              were = a.were;
              once = a.once;
              received = later_dated direction.queued s.history after.history d.cuts first (length direction.read) a.places direction.tracker direction.reassembly c.more c.log c.floors c.marks (kinds_of after.queues.numbers (sym unmixed)) a.received;
            }
            );
      }
    where
      after : Stands first direction
      after = stepped first old small s direction few step

      c : Continues s.history after.history old.queues.queue.streams direction.queues.queue.streams old.asking.out direction.asking.out
      c = step_continues first old small s direction few step ends

      log_longer : length s.history.log ≤ length after.history.log
      log_longer = (let sizes : length after.history.log ≡ length (c.more ++ s.history.log) = ap (λ (l : List Slot). length l) c.log in omega (arith, sizes, length-append c.more s.history.log))

      longer : assigned_count old ≤ assigned_count direction
      longer = (let one = s.count in let two = after.count in let up = log_longer in omega (arith, one, two, up))

      before : length after.history.log < 2 ^ 31 → length s.history.log < 2 ^ 31
      before little = (let up = log_longer in omega (arith, little, up))

      from_goes : (id n : ℕ) (f : Piece) → starts_after old direction step begun id ≤ n → at_place n after.history.log ≡ Some (Some f) → f.message.stream ≡ id → (asked_after old direction step asked id).ended ≤ f.place
      from_goes id = (stepped_asked first old small s begun asked id (d.goes.each id) direction few step).from

      -- What is sent since was queued since, too.
      since_later : (id : ℕ) (x : Cut) → HasEntry x (d.cuts id) → (bound : ℕ) → ((n : ℕ) (f : Piece) → at_place n s.history.log ≡ Some (Some f) → f.message.stream ≡ id → bound ≤ n → x.place ≤ f.place)
          → (n : ℕ) (f : Piece) → at_place n after.history.log ≡ Some (Some f) → f.message.stream ≡ id → bound ≤ n → x.place ≤ f.place
      since_later id x has bound since n f at on high =
          let there : at_place n (c.more ++ s.history.log) ≡ Some (Some f) = ap (λ (l : List Slot). at_place n l) (sym c.log) ∙ at in
          elim (d.behind id x has) [
            | inr p ↦ since n f (not_new c.more s.history.log direction.queues.queue.streams id n f c.kept (c.stay id p.handed) on there) on high
            | inl low ↦ elim (leb_tells (length s.history.log) n) [
              | inl late ↦
                  (let start = starts_low old direction step begun d.started id in
                  let size = s.count in
                  let up = late.1 in
                  let from = from_goes id n f (omega (arith, start, size, up)) at on in
                  let same = (asked_keeps old direction step asked ends).ended id in
                  omega (arith, low, from, same))
              | inr early ↦ since n f (earlier_at c.more s.history.log n f (let less = early.1 in omega (arith, less)) there) on high
            ]
          ]

      each_later : (id : ℕ) (x : Cut) → HasEntry x (d.cuts id) → IsKnownCut first after.history direction id x
      each_later id x has =
          let k = d.each id x has in
          record {
            place_low = (let low = k.place_low in let up = more_queued old direction step in omega (arith, low, up));
            index_low = (let low = k.index_low in let up = reached_grows old direction step in omega (arith, low, up));
            bounded = record {
              bound = k.bounded.bound;
              passed = λ little. (let low = k.bounded.passed (before little) in let up = cumulative_grows old direction step in omega (arith, low, up));
              since = since_later id x has k.bounded.bound k.bounded.since;
            };
          }
