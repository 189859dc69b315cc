-- With interleaving, on each stream that is never reset and has no limits, what is read is a prefix
-- of what was queued, also where other streams are reset, and messages of others are abandoned.
use Rattle.dcsctp_delivery_directions.proofs.directions.InTurn.{turns_of}
use Rattle.std.proofs.Common.{◌≡◌, ◌==◌, ℕ, Bool, true, false, ◌<◌, ◌≤◌, ◌+◌, ◌*◌, ◌^◌, List, [], ◌∷◌, ◌++◌, length, length-append, refl, sym, ◌∙◌, ap, arith, subst, inl, inr}
use Rattle.std.specs.Prelude.{◌&&◌, ◌||◌, not, Some, if◌then◌else◌}
use Rattle.std.specs.List.{AllByRecursion}
use Rattle.std.proofs.lemmas.Bool.{eq-eqb}
use Rattle.std.proofs.lemmas.Bool.Decides.{eqb_tells}
use Rattle.dcsctp_spec_lemmas.specs.types.declared.options.Options.{Options}
use Rattle.dcsctp_spec_lemmas.specs.types.queues.SendStreams.{Stream, stream_at}
use Rattle.dcsctp_spec_lemmas.specs.spec.queues.Incoming.{is_named, stream_on}
use Rattle.dcsctp_spec_lemmas.specs.spec.queues.OwnResets.{queue_committed, queue_rolled_back, prepared_all}
use Rattle.dcsctp_spec_lemmas.specs.spec.queues.Transfer.{EndpointQueues}
use Rattle.dcsctp_spec_lemmas.specs.spec.endpoint.FlushOutcomes.{first_ask, packets_allowed, flush_of}
use Rattle.dcsctp_spec_lemmas.specs.spec.endpoint.MessageOutcomes.{sending_queued}
use Rattle.dcsctp_spec_lemmas.specs.spec.endpoint.SettingOutcomes.{set_in_queue}
use Rattle.dcsctp_delivery_directions.specs.sending.Places.{at_place}
use Rattle.dcsctp_delivery_directions.specs.sending.Log.{Fits, Message, Slot, History, IsLogOfPieces, new_history, sent_messages}
use Rattle.dcsctp_delivery_directions.specs.sending.Flushes.{InFlight}
use Rattle.dcsctp_delivery_directions.specs.sending.Losing.{IsOpenOn, AllWaitOn, AreUnlimited, AreUnlimitedOn, StillWaits, IsKept}
use Rattle.dcsctp_delivery_directions.specs.sending.Numbers.{is_handed_out, stream_named, AreFloorsAtZero}
use Rattle.dcsctp_delivery_directions.specs.sending.Queueing.{QueueWaits, floors_raised}
use Rattle.dcsctp_delivery_directions.proofs.sending.Chunks.{kinds_of}
use Rattle.dcsctp_delivery_directions.proofs.sending.Counting.{told}
use Rattle.dcsctp_delivery_directions.proofs.sending.Places.{at_either}
use Rattle.dcsctp_delivery_directions.proofs.sending.HeldOn.{FreeQueuesOn, HoldsQueues, IsPlacedOn, flush_held, kept_held, free_on_stream, unlimited_on_at}
use Rattle.dcsctp_delivery_directions.proofs.sending.Losing.{kept_more, queued_of}
use Rattle.dcsctp_delivery_directions.proofs.sending.StillWaiting.{queueing_waits, setting_waits, committing_waits, rolling_back_waits}
use Rattle.dcsctp_delivery_directions.specs.receiving.Ready.{AreDistinct, WereQueued}
use Rattle.dcsctp_delivery_directions.proofs.receiving.Joining.{both}
use Rattle.dcsctp_delivery_directions.specs.directions.Directions.{Direction, Beginning, KeepsAll, MayReset, Asking, BeginsAs, BeginsDirection, IsAwaited, NoneInFlight, assigned_count, DirectionRun, begins, goes_on, starts, DirectionStep, queues, sets, prepares, commits, rolls_back, flushes, resends, resends_nothing, speaks, asks_again, renews, turns_aside, acknowledges, loses, receives, forwards, receives_interleaved, forwards_interleaved, tracks, defers, performs, performs_earlier, resets, takes}
use Rattle.dcsctp_delivery_directions.proofs.directions.Continuing.{Continues, NamedAreOut, EndsNone, step_continues, ended_raises, begun_history, started_history}
use Rattle.dcsctp_delivery_directions.proofs.directions.Directions.{begun_stands, started_stands, run_stands}
use Rattle.dcsctp_delivery_directions.proofs.directions.Losing.{was_before, same_beginning}
use Rattle.dcsctp_delivery_directions.proofs.directions.Standing.{Stands}
use Rattle.dcsctp_delivery_directions.proofs.directions.Steps.{stepped, more_queued}
use Rattle.dcsctp_delivery_directions.specs.order.Delivered.{AreDeliveredWithoutGaps}
use Rattle.dcsctp_delivery_directions.specs.order.Gaps.{SendsInTurn}
use Rattle.dcsctp_delivery_directions.specs.order.Incoming.{IncomingOrdered, IsOrderedOrReset}
use Rattle.dcsctp_delivery_directions.specs.order.Epochs.{AreSentUnlimited}
use Rattle.dcsctp_delivery_directions.specs.order.Reading.{CountsFromZero, OrderedStream, uncut, any_asked}
use Rattle.dcsctp_delivery_directions.specs.order.Received.{none_quiet, ReassemblesInOrder, none_handled, some_handled}
use Rattle.dcsctp_delivery_directions.specs.order.Streams.{NoneLostOn, CurrentOn, AreDeliveredByStream}
use Rattle.dcsctp_delivery_directions.proofs.order.Beginning.{waits_from}
use Rattle.dcsctp_delivery_directions.proofs.order.Delivered.{no_gap_front}
use Rattle.dcsctp_delivery_directions.proofs.order.Directions.{Unended, step_keeps, raised_zero, asked_always}
use Rattle.dcsctp_delivery_directions.proofs.order.Follows.{counts_from_zero}
use Rattle.dcsctp_delivery_directions.proofs.order.Epochs.{all_filled}
use Rattle.dcsctp_delivery_directions.proofs.order.Gaps.{filled_no_gap}
use Rattle.dcsctp_delivery_directions.proofs.order.Incoming.{ordered_was_read}
use Rattle.dcsctp_delivery_directions.proofs.sending.OpenOn.{queueing_open_on, setting_open_on, committing_open_on, rolling_back_open_on, preparing_open_on, flush_open_on, preparing_waits}
use Rattle.dcsctp_delivery_directions.proofs.order.Quiet.{Arrives, arrives_later}
use Rattle.dcsctp_delivery_directions.proofs.order.Received.{loud_by}
use Rattle.dcsctp_delivery_directions.proofs.order.Sending.{sends_in_turn_on}
use Rattle.dcsctp_delivery_directions.proofs.order.Steps.{arrives_on, committing_arrives}
use Rattle.dcsctp_delivery_directions.proofs.order.Unsent.{received_none}

-- No message that was queued on these streams may be abandoned.
abbrev AreFree : (ℕ → Bool) → List Message → Type 0
AreFree gapless queued = (id : ℕ) → gapless id ≡ true → AreUnlimitedOn id queued

-- They are kept by a sender that began so.
abbrev AreKept : (ℕ → Bool) → Beginning → Type 0
AreKept gapless beginning = (id : ℕ) → gapless id ≡ true → beginning.keeps id ≡ true

-- So none that was sent on them may be.
free_on : (id : ℕ) (queued : List Message) (history : History) → IsLogOfPieces queued history.log → AreUnlimitedOn id queued → AreSentUnlimited history id 0
free_on id queued history cut are n f at on ordered from = unlimited_on_at id queued f.place f.message are (cut.pieces n f at).at on

-- A stream that is kept isn't among those that are prepared to be reset.
not_named : (beginning : Beginning) (count : ℕ) (streams : List Stream) (id : ℕ) (ids : List ℕ) → beginning.keeps id ≡ true → AllByRecursion (MayReset beginning count streams) ids → is_named ids id ≡ false
not_named beginning count streams id [] kept may = refl
not_named beginning count streams id (other ∷ ids) kept may =
    elim (eqb_tells other id) [
      | inl e ↦ absurd (let no : true ≡ false = sym kept ∙ ap beginning.keeps (sym e.1) ∙ may.0.dropped in cc)
      | inr e ↦ rw e.0 (not_named beginning count streams id ids kept may.1)
    ]

-- It isn't handed out.
pub not_handed : (id : ℕ) (streams : List Stream) → IsOpenOn id streams → is_handed_out (stream_named id streams).pause ≡ false
not_handed id [] are = refl
not_handed id (s ∷ streams) are =
    elim (eqb_tells s.id id) [
      | inl e ↦ rw e.0 (ap is_handed_out (are.0 e.1))
      | inr e ↦ rw e.0 (not_handed id streams are.1)
    ]

-- Where no message of the later queue on the stream has limits, none of the earlier one has.
pub unlimited_earlier : (id : ℕ) (old direction : Direction) → DirectionStep old direction → AreUnlimitedOn id direction.queued → AreUnlimitedOn id old.queued
unlimited_earlier id old _ (queues now sending fits some) are = are.1
unlimited_earlier id old _ (sets setting fits) are = are
unlimited_earlier id old _ (prepares ids fit dropped) are = are
unlimited_earlier id old _ (commits go_on) are = are
unlimited_earlier id old _ (rolls_back unmixed) are = are
unlimited_earlier id old _ (flushes e draft answers same no_data allowed) are = are
unlimited_earlier id old _ (resends now room transfer left tsns chunks emission known sends are' contents) are = are
unlimited_earlier id old _ (resends_nothing now room transfer left tsns known sends) are = are
unlimited_earlier id old _ (speaks emission no_data) are = are
unlimited_earlier id old _ (asks_again emission begun was contents) are = are
unlimited_earlier id old _ (renews emission newest earlier number asks out contents) are = are
unlimited_earlier id old _ (turns_aside transfer new known same) are = are
unlimited_earlier id old _ (acknowledges now sack transfer new known valid reached does) are = are
unlimited_earlier id old _ (loses now transfer known) are = are
unlimited_earlier id old _ (receives emission chunk theirs new was holds some same same' does) are = are
unlimited_earlier id old _ (forwards emission tsn streams theirs new was holds same same' does) are = are
unlimited_earlier id old _ (receives_interleaved emission chunk theirs new was holds some same same' does) are = are
unlimited_earlier id old _ (forwards_interleaved emission tsn streams theirs new was holds same same' does) are = are
unlimited_earlier id old _ (tracks new cumulative ranges) are = are
unlimited_earlier id old _ (defers last_tsn streams some) are = are
unlimited_earlier id old _ (performs newest earlier new asks unknown reached own leaves) are = are
unlimited_earlier id old _ (resets streams new unmixed some leaves) are = are
unlimited_earlier id old _ (performs_earlier newest earlier new asks unknown reached own leaves) are = are
unlimited_earlier id old _ (takes message messages ready) are = are

-- ---- one step

pub step_open : (id : ℕ) (old direction : Direction) (step : DirectionStep old direction) → old.beginning.keeps id ≡ true → IsOpenOn id old.queues.queue.streams → IsOpenOn id direction.queues.queue.streams
step_open id old _ (queues now sending fits some) keeps are = queueing_open_on id now sending old.queues.queue are
step_open id old _ (sets setting fits) keeps are = setting_open_on id setting old.queues.queue are
step_open id old _ (prepares ids fit dropped) keeps are = preparing_open_on id ids old.queues.queue (not_named old.beginning (length old.queued) old.queues.queue.streams id ids keeps dropped) are
step_open id old _ (commits go_on) keeps are = committing_open_on id old.queues.queue are
step_open id old _ (rolls_back unmixed) keeps are = rolling_back_open_on id old.queues.queue are
step_open id old _ (flushes e draft answers same no_data allowed) keeps are =
    flush_open_on id first_ask (packets_allowed e.options.max_burst e.core) e draft answers allowed (subst (λ (b : EndpointQueues). IsOpenOn id b.queue.streams) (sym same) are)
step_open id old _ (resends now room transfer left tsns chunks emission known sends are' contents) keeps are = are
step_open id old _ (resends_nothing now room transfer left tsns known sends) keeps are = are
step_open id old _ (speaks emission no_data) keeps are = are
step_open id old _ (asks_again emission begun was contents) keeps are = are
step_open id old _ (renews emission newest earlier number asks out contents) keeps are = are
step_open id old _ (turns_aside transfer next known same) keeps are = are
step_open id old _ (acknowledges now sack transfer next known valid reached does) keeps are = are
step_open id old _ (loses now transfer known) keeps are = are
step_open id old _ (receives emission chunk theirs next was holds some same same' does) keeps are = are
step_open id old _ (forwards emission tsn streams theirs next was holds same same' does) keeps are = are
step_open id old _ (receives_interleaved emission chunk theirs next was holds some same same' does) keeps are = are
step_open id old _ (forwards_interleaved emission tsn streams theirs next was holds same same' does) keeps are = are
step_open id old _ (tracks next cumulative ranges) keeps are = are
step_open id old _ (defers last_tsn streams some) keeps are = are
step_open id old _ (performs newest earlier next asks unknown reached own leaves) keeps are = are
step_open id old _ (resets streams next unmixed some leaves) keeps are = are
step_open id old _ (performs_earlier newest earlier next asks unknown reached own leaves) keeps are = are
step_open id old _ (takes message messages ready) keeps are = are

kept_waits : (old new : History) (more : List Slot) (streams others : List Stream) (place : ℕ) → new.log ≡ more ++ old.log → (StillWaits streams place → StillWaits others place) → IsKept old.log streams place → IsKept new.log others place
kept_waits old new more streams others place grows waits kept =
    elim (kept_more old new more streams place grows kept) [
      | inl was ↦ inl was
      | inr still ↦ inr (waits still)
    ]

-- A message of the stream that was sent or waits still does.
module _ (id first : ℕ) (old : Direction) (s : Stands first old) (are : AreUnlimitedOn id old.queued) (new : History) (more : List Slot) (grows : new.log ≡ more ++ s.history.log) (place : ℕ) (message : Message) (at : at_place place old.queued ≡ Some message) (on : message.stream ≡ id)
    (kept : IsKept s.history.log old.queues.queue.streams place) where
  same_waits : IsKept new.log old.queues.queue.streams place
  same_waits = kept_more s.history new more old.queues.queue.streams place grows kept

  -- what waits on it, by its number
  on_it : (waits : StillWaits old.queues.queue.streams place) → (stream_at old.queues.queue.streams waits.q).id ≡ id
  on_it waits =
      let w = queued_of old.queued (stream_at old.queues.queue.streams waits.q).id (stream_at old.queues.queue.streams waits.q).messages waits.waiting (s.queues.queue_holds.wait waits.q) waits.has in
      let both : Some w.message ≡ Some message = sym w.at ∙ ap (λ (k : ℕ). at_place k old.queued) waits.is ∙ at in
      let same : w.message ≡ message = cc in
      w.is.stream ∙ ap (λ (m : Message). m.stream) same ∙ on

  prepares_keeps : (ids : List ℕ) → is_named ids id ≡ false → StillWaits old.queues.queue.streams place → StillWaits (prepared_all ids old.queues.queue).streams place
  prepares_keeps ids none waits =
      let left = preparing_waits id ids old.queues.queue waits.waiting none (record { q = waits.q; on = on_it waits; has = waits.has }) in
      record { q = left.q; waiting = waits.waiting; has = left.has; is = waits.is }

  keeps_on : (direction : Direction) (step : DirectionStep old direction) → old.beginning.keeps id ≡ true → InFlight new first direction.acknowledged direction.queues.transfer → IsKept new.log direction.queues.queue.streams place
  keeps_on _ (queues now sending fits some) keeps flight = kept_waits s.history new more old.queues.queue.streams (sending_queued now sending old.queues.queue).streams place grows (queueing_waits now sending old.queues.queue place) kept
  keeps_on _ (sets setting fits) keeps flight = kept_waits s.history new more old.queues.queue.streams (set_in_queue setting old.queues.queue).streams place grows (setting_waits setting old.queues.queue place) kept
  keeps_on _ (prepares ids fit dropped) keeps flight = kept_waits s.history new more old.queues.queue.streams (prepared_all ids old.queues.queue).streams place grows (prepares_keeps ids (not_named old.beginning (length old.queued) old.queues.queue.streams id ids keeps dropped)) kept
  keeps_on _ (commits go_on) keeps flight = kept_waits s.history new more old.queues.queue.streams (queue_committed old.queues.queue).streams place grows (committing_waits old.queues.queue place) kept
  keeps_on _ (rolls_back unmixed) keeps flight = kept_waits s.history new more old.queues.queue.streams (queue_rolled_back old.queues.queue).streams place grows (rolling_back_waits old.queues.queue place) kept
  keeps_on _ (flushes e draft answers same no_data allowed) keeps flight =
      let after : EndpointQueues = (flush_of e draft answers).after.queues in
      let free : FreeQueuesOn (IsPlacedOn id old.queued) e.queues =
      subst (λ (b : EndpointQueues). FreeQueuesOn (IsPlacedOn id old.queued) b) (sym same) (free_on_stream id old.queued s.history first old.acknowledged old.queues are s.queues) in
      let held : HoldsQueues (IsPlacedOn id old.queued) old.queues after =
      subst (λ (b : EndpointQueues). HoldsQueues (IsPlacedOn id old.queued) b after) same (flush_held (IsPlacedOn id old.queued) first_ask (packets_allowed e.options.max_burst e.core) e draft answers allowed free) in
      kept_held (IsPlacedOn id old.queued) s.history new more first old.acknowledged place old.queues after (record { message = message; at = at; on = on }) grows held flight kept
  keeps_on _ (resends now room transfer left tsns chunks emission known sends are' contents) keeps flight = same_waits
  keeps_on _ (resends_nothing now room transfer left tsns known sends) keeps flight = same_waits
  keeps_on _ (speaks emission no_data) keeps flight = same_waits
  keeps_on _ (asks_again emission begun was contents) keeps flight = same_waits
  keeps_on _ (renews emission newest earlier number asks out contents) keeps flight = same_waits
  keeps_on _ (turns_aside transfer next known same) keeps flight = same_waits
  keeps_on _ (acknowledges now sack transfer next known valid reached does) keeps flight = same_waits
  keeps_on _ (loses now transfer known) keeps flight = same_waits
  keeps_on _ (receives emission chunk theirs next was holds some same same' does) keeps flight = same_waits
  keeps_on _ (forwards emission tsn streams theirs next was holds same same' does) keeps flight = same_waits
  keeps_on _ (receives_interleaved emission chunk theirs next was holds some same same' does) keeps flight = same_waits
  keeps_on _ (forwards_interleaved emission tsn streams theirs next was holds same same' does) keeps flight = same_waits
  keeps_on _ (tracks next cumulative ranges) keeps flight = same_waits
  keeps_on _ (defers last_tsn streams some) keeps flight = same_waits
  keeps_on _ (performs newest earlier next asks unknown reached own leaves) keeps flight = same_waits
  keeps_on _ (resets streams next unmixed some leaves) keeps flight = same_waits
  keeps_on _ (performs_earlier newest earlier next asks unknown reached own leaves) keeps flight = same_waits
  keeps_on _ (takes message' messages ready) keeps flight = same_waits

pub step_keeps_on : (id first : ℕ) (old : Direction) (s : Stands first old) (direction : Direction) (step : DirectionStep old direction) → old.beginning.keeps id ≡ true → AreUnlimitedOn id direction.queued
    → (after : Stands first direction) (more : List Slot) → after.history.log ≡ more ++ s.history.log → NoneLostOn id old.queued s.history.log old.queues.queue.streams → NoneLostOn id direction.queued after.history.log direction.queues.queue.streams
step_keeps_on id first old s direction step keeps are after more grows none place message at on =
    elim (was_before first old s direction step place message at) [
      | inl before ↦
          keeps_on id first old s (unlimited_earlier id old direction step are) after.history more grows place message before on (none place message before on) direction step keeps after.queues.flight
      | inr waits ↦ inr waits
    ]

-- ---- what holds throughout

-- The history, and what the receiver has, where the sender keeps these streams, and no message on them has limits: they are open,
-- each piece that was sent on them came after their last reset, and none was left out.
record GoesOnGapless (gapless : ℕ → Bool) (first : ℕ) (direction : Direction) : Type 0 where
  stands : Stands first direction
  named : NamedAreOut stands.history direction.asking.out direction.queues.queue.streams
  unended : direction.queues.queue.is_interleaved ≡ true → Unended direction.asking
  zero : direction.queues.queue.is_interleaved ≡ true → direction.beginning.from_zero ≡ true → (id : ℕ) → AreFloorsAtZero stands.history.floors id
  unpaused : (id : ℕ) → gapless id ≡ true → IsOpenOn id direction.queues.queue.streams
  current : direction.queues.queue.is_interleaved ≡ true → (id : ℕ) → gapless id ≡ true → CurrentOn id stands.history
  lost : direction.queues.queue.is_interleaved ≡ true → (id : ℕ) → gapless id ≡ true → NoneLostOn id direction.queued stands.history.log direction.queues.queue.streams
  arrives : length stands.history.log < 2 ^ 31 → direction.queues.queue.is_interleaved ≡ true → direction.beginning.from_zero ≡ true
      → Arrives (uncut false any_asked) first stands.history direction.queued direction.read direction.tracker direction.reassembly direction.queues.queue.streams

-- They were kept before a step, and none of them had limits.
kept_before : (gapless : ℕ → Bool) (old direction : Direction) → DirectionStep old direction → AreKept gapless direction.beginning → AreKept gapless old.beginning
kept_before gapless old direction step kept id is = sym (ap (λ (b : Beginning). b.keeps id) (same_beginning old direction step)) ∙ kept id is

free_before : (gapless : ℕ → Bool) (old direction : Direction) → DirectionStep old direction → AreFree gapless direction.queued → AreFree gapless old.queued
free_before gapless old direction step are id is = unlimited_earlier id old direction step (are id is)

-- ---- an association begins

begins_so : (gapless : ℕ → Bool) (first : ℕ) (direction : Direction) (s : Stands first direction) (floors : ℕ → Bool → ℕ) → s.history ≡ new_history floors → direction.asking.out ≡ 0 → direction.asking.requests ≡ []
    → (direction.beginning.from_zero ≡ true → (id : ℕ) → AreFloorsAtZero floors id)
    → ((id : ℕ) → gapless id ≡ true → AllWaitOn id direction.queued direction.queues.queue.streams) → GoesOnGapless gapless first direction
begins_so gapless first direction s floors is none_out none_asked at_zero all =
    let empty : s.history.log ≡ [] = ap (λ (h : History). h.log) is in
    record {
      stands = s;
      named = λ mark earlier has some. absurd (omega (arith, some, none_out));
      unended = λ interleaved unknown. inl none_asked;
      zero = λ interleaved from id. subst (λ (h : History). AreFloorsAtZero h.floors id) (sym is) (at_zero from id);
      unpaused = λ id is. (all id is).unpaused;
      current = λ interleaved id is n f at. absurd (let none : at_place n [] ≡ Some (Some f) = ap (λ (l : List Slot). at_place n l) (sym empty) ∙ at in cc);
      lost = λ interleaved id is place message at on. inr ((all id is).waits place message at on);
      arrives = λ little interleaved from. (
          let a = s.arrived little in
          record {
            places = a.places;
            were = a.were;
            once = a.once;
            quiet = none_quiet;
            received = received_none direction.queued s.history empty false any_asked first a.places direction.tracker direction.reassembly a.received;
            silent = λ other silent. absurd (cc);
          }
          );
    }

-- ---- a step that ends no reset

gapless_goes_on : (gapless : ℕ → Bool) (first : ℕ) (old : Direction) → first < 2 ^ 32 → GoesOnGapless gapless first old → (direction : Direction) → length direction.queued < 2 ^ 64 → AreFree gapless direction.queued
    → (step : DirectionStep old direction) → AreKept gapless old.beginning → EndsNone old direction step → GoesOnGapless gapless first direction
gapless_goes_on gapless first old small g direction few are step kept ends =
    let s = stepped first old small g.stands direction few step in
    let c : Continues g.stands.history s.history old.queues.queue.streams direction.queues.queue.streams old.asking.out direction.asking.out = step_continues first old small g.stands direction few step ends in
    let k = step_keeps old direction step ends in
    record {
      stands = s;
      named = c.named g.named;
      unended = λ interleaved. k.unended (g.unended (sym k.kind ∙ interleaved));
      zero = λ interleaved from id. subst (λ (floors : ℕ → Bool → ℕ). AreFloorsAtZero floors id) (sym c.floors) (g.zero (sym k.kind ∙ interleaved) (sym k.start ∙ from) id);
      unpaused = λ id is. step_open id old direction step (kept id is) (g.unpaused id is);
      current = λ interleaved id is n f at on kind. subst (λ (floors : ℕ → Bool → ℕ). floors f.message.stream f.message.is_unordered ≤ f.mid) (sym c.floors) (
          elim (at_either c.more g.stands.history.log n (Some f) (ap (λ (l : List Slot). at_place n l) (sym c.log) ∙ at)) [
            | inl e ↦ c.current e.0 f e.1 kind
            | inr e ↦ g.current (sym k.kind ∙ interleaved) id is n f e on kind
          ]
          );
      lost = λ interleaved id is. step_keeps_on id first old g.stands direction step (kept id is) (are id is) s c.more c.log (g.lost (sym k.kind ∙ interleaved) id is);
      arrives = λ little interleaved from. (
          let sizes : length s.history.log ≡ length (c.more ++ g.stands.history.log) = ap (λ (l : List Slot). length l) c.log in
          let before : length g.stands.history.log < 2 ^ 31 = omega (arith, little, sizes, length-append c.more g.stands.history.log) in
          let was : old.queues.queue.is_interleaved ≡ true = sym k.kind ∙ interleaved in
          arrives_later (uncut false any_asked) first g.stands.history s.history old.queues.queue.streams direction.queues.queue.streams old.asking.out direction.asking.out c direction.queued [] direction.read direction.tracker direction.reassembly
          (arrives_on (uncut false any_asked) first old small g.stands (asked_always old.queued g.stands.history) before was direction step ends g.named (g.unended was) (λ id known. absurd (cc)) (g.arrives before was (sym k.start ∙ from)))
          (λ id loud since cut has. absurd has)
          );
    }

-- ---- a step that ends a reset

-- Where a stream isn't handed out, its floor isn't raised, and each piece that was sent on it stays current.
current_raised : (id : ℕ) (history : History) (streams : List Stream) → IsOpenOn id streams → CurrentOn id history → CurrentOn id (floors_raised streams history)
current_raised id history streams are current n f at on kind =
    let shut = not_handed id streams are in
    subst (λ (b : Bool). (if b then 2 ^ 32 * (history.floors f.message.stream f.message.is_unordered + length history.log + 1) else history.floors f.message.stream f.message.is_unordered) ≤ f.mid)
    (sym (ap (λ (k : ℕ). is_handed_out (stream_named k streams).pause) on ∙ shut)) (current n f at on kind)

gapless_steps : (gapless : ℕ → Bool) (first : ℕ) (old : Direction) → first < 2 ^ 32 → GoesOnGapless gapless first old → (direction : Direction) → length direction.queued < 2 ^ 64 → AreFree gapless direction.queued
    → DirectionStep old direction → AreKept gapless old.beginning → GoesOnGapless gapless first direction
gapless_steps gapless first old small g _ few are (commits go_on) kept =
    let s = stepped first old small g.stands _ few (commits go_on) in
    let raises : old.queues.queue.is_interleaved ≡ true → s.history ≡ floors_raised old.queues.queue.streams g.stands.history = ended_raises first old small g.stands few go_on in
    record {
      stands = s;
      named = λ mark earlier is some. absurd (omega (arith, some));
      unended = λ interleaved unknown. absurd (let clash : true ≡ false = sym (go_on (turns_of old interleaved)).1 ∙ unknown in cc);
      zero = λ interleaved from id. subst (λ (h : History). AreFloorsAtZero h.floors id) (sym (raises interleaved))
          (raised_zero (is_handed_out (stream_named id old.queues.queue.streams).pause) (g.stands.history.floors id false) (g.stands.history.floors id true) (length g.stands.history.log) (g.zero interleaved from id));
      unpaused = λ id is. committing_open_on id old.queues.queue (g.unpaused id is);
      current = λ interleaved id is. subst (λ (h : History). CurrentOn id h) (sym (raises interleaved))
          (current_raised id g.stands.history old.queues.queue.streams (g.unpaused id is) (g.current interleaved id is));
      lost = λ interleaved id is.
          step_keeps_on id first old g.stands _ (commits go_on) (kept id is) (are id is) s [] (ap (λ (h : History). h.log) (raises interleaved)) (g.lost interleaved id is);
      arrives = λ little interleaved from. (
          let before : length g.stands.history.log < 2 ^ 31 = subst (λ (h : History). length h.log < 2 ^ 31) (raises interleaved) little in
          subst (λ (h : History). Arrives (uncut false any_asked) first h old.queued old.read old.tracker old.reassembly (queue_committed old.queues.queue).streams) (sym (raises interleaved))
          (committing_arrives (uncut false any_asked) first old small g.stands (asked_always old.queued g.stands.history) before interleaved (go_on (turns_of old interleaved)).0 (go_on (turns_of old interleaved)).1 (g.zero interleaved from) (g.arrives before interleaved from) (λ id. []) (λ id shut. refl) (λ got same base o id handed cut has. absurd has))
          );
    }
gapless_steps gapless first old small g _ few are (rolls_back unmixed) kept =
    record {
      stands = stepped first old small g.stands _ few (rolls_back unmixed);
      named = λ mark earlier is some. absurd (omega (arith, some));
      unended = λ interleaved. absurd (let clash : true ≡ false = sym (turns_of old interleaved) ∙ unmixed in cc);
      zero = λ interleaved. absurd (let clash : true ≡ false = sym (turns_of old interleaved) ∙ unmixed in cc);
      unpaused = λ id is. rolling_back_open_on id old.queues.queue (g.unpaused id is);
      current = λ interleaved. absurd (let clash : true ≡ false = sym (turns_of old interleaved) ∙ unmixed in cc);
      lost = λ interleaved. absurd (let clash : true ≡ false = sym (turns_of old interleaved) ∙ unmixed in cc);
      arrives = λ little interleaved. absurd (let clash : true ≡ false = sym (turns_of old interleaved) ∙ unmixed in cc);
    }
gapless_steps gapless first old small g _ few are (queues now sending fits some) kept = gapless_goes_on gapless first old small g _ few are (queues now sending fits some) kept tt
gapless_steps gapless first old small g _ few are (sets setting fits) kept = gapless_goes_on gapless first old small g _ few are (sets setting fits) kept tt
gapless_steps gapless first old small g _ few are (prepares ids fit dropped) kept = gapless_goes_on gapless first old small g _ few are (prepares ids fit dropped) kept tt
gapless_steps gapless first old small g _ few are (flushes e draft answers same no_data allowed) kept = gapless_goes_on gapless first old small g _ few are (flushes e draft answers same no_data allowed) kept tt
gapless_steps gapless first old small g _ few are (resends now room transfer left tsns chunks emission known sends are' contents) kept = gapless_goes_on gapless first old small g _ few are (resends now room transfer left tsns chunks emission known sends are' contents) kept tt
gapless_steps gapless first old small g _ few are (resends_nothing now room transfer left tsns known sends) kept = gapless_goes_on gapless first old small g _ few are (resends_nothing now room transfer left tsns known sends) kept tt
gapless_steps gapless first old small g _ few are (speaks emission no_data) kept = gapless_goes_on gapless first old small g _ few are (speaks emission no_data) kept tt
gapless_steps gapless first old small g _ few are (asks_again emission begun was contents) kept = gapless_goes_on gapless first old small g _ few are (asks_again emission begun was contents) kept tt
gapless_steps gapless first old small g _ few are (renews emission newest earlier number asks out contents) kept = gapless_goes_on gapless first old small g _ few are (renews emission newest earlier number asks out contents) kept tt
gapless_steps gapless first old small g _ few are (turns_aside transfer new known same) kept = gapless_goes_on gapless first old small g _ few are (turns_aside transfer new known same) kept tt
gapless_steps gapless first old small g _ few are (acknowledges now sack transfer new known valid reached does) kept = gapless_goes_on gapless first old small g _ few are (acknowledges now sack transfer new known valid reached does) kept tt
gapless_steps gapless first old small g _ few are (loses now transfer known) kept = gapless_goes_on gapless first old small g _ few are (loses now transfer known) kept tt
gapless_steps gapless first old small g _ few are (receives emission chunk theirs new was holds some same same' does) kept = gapless_goes_on gapless first old small g _ few are (receives emission chunk theirs new was holds some same same' does) kept tt
gapless_steps gapless first old small g _ few are (forwards emission tsn streams theirs new was holds same same' does) kept = gapless_goes_on gapless first old small g _ few are (forwards emission tsn streams theirs new was holds same same' does) kept tt
gapless_steps gapless first old small g _ few are (receives_interleaved emission chunk theirs new was holds some same same' does) kept = gapless_goes_on gapless first old small g _ few are (receives_interleaved emission chunk theirs new was holds some same same' does) kept tt
gapless_steps gapless first old small g _ few are (forwards_interleaved emission tsn streams theirs new was holds same same' does) kept = gapless_goes_on gapless first old small g _ few are (forwards_interleaved emission tsn streams theirs new was holds same same' does) kept tt
gapless_steps gapless first old small g _ few are (tracks new cumulative ranges) kept = gapless_goes_on gapless first old small g _ few are (tracks new cumulative ranges) kept tt
gapless_steps gapless first old small g _ few are (defers last_tsn streams some) kept = gapless_goes_on gapless first old small g _ few are (defers last_tsn streams some) kept tt
gapless_steps gapless first old small g _ few are (performs newest earlier new asks unknown reached own leaves) kept = gapless_goes_on gapless first old small g _ few are (performs newest earlier new asks unknown reached own leaves) kept tt
gapless_steps gapless first old small g _ few are (performs_earlier newest earlier new asks unknown reached own leaves) kept = gapless_goes_on gapless first old small g _ few are (performs_earlier newest earlier new asks unknown reached own leaves) kept tt
gapless_steps gapless first old small g _ few are (resets streams new unmixed some leaves) kept = gapless_goes_on gapless first old small g _ few are (resets streams new unmixed some leaves) kept tt
gapless_steps gapless first old small g _ few are (takes message messages ready) kept = gapless_goes_on gapless first old small g _ few are (takes message messages ready) kept tt

-- ---- a run

begins_gapless : (gapless : ℕ → Bool) (options : Options) (first size : ℕ) (direction : Direction) → first < 2 ^ 32 → BeginsDirection options first size direction
    → AreKept gapless direction.beginning → GoesOnGapless gapless first direction
begins_gapless gapless options first size direction small b kept =
    let w = waits_from direction.queued direction.queues.queue b.queues in
    let b' : BeginsDirection options first size direction = record b { queues = w.waits } in
    let is = begun_history options first size direction small b' in
    begins_so gapless first direction (begun_stands options first size direction small b') w.waits.floors is (ap (λ (a : Asking). a.out) b.asking) (ap (λ (a : Asking). a.requests) b.asking)
    (λ from. w.zero (b.begun.zero from)) (λ id is. b.begun.all id (kept id is))

starts_gapless : (gapless : ℕ → Bool) (first : ℕ) (old : Direction) (queued : List Message) (below : EndpointQueues) (beginning : Beginning) → first < 2 ^ 32 → (stands : Stands first old) → (awaited : IsAwaited old) → AllByRecursion Fits queued
    → QueueWaits queued below.queue → NoneInFlight first below.queue below.transfer → BeginsAs beginning queued below.queue → AreKept gapless beginning
    → GoesOnGapless gapless first (record old { queued = queued; queues = below; prepared = []; beginning = beginning })
starts_gapless gapless first old queued below beginning small stands awaited fit waits none begun kept =
    let w = waits_from queued below.queue waits in
    let s = started_stands first old queued below beginning stands awaited small fit w.waits none in
    let is = started_history first old queued below beginning stands awaited small fit w.waits none in
    begins_so gapless first (record old { queued = queued; queues = below; prepared = []; beginning = beginning }) s w.waits.floors is (ap (λ (a : Asking). a.out) awaited.asking) (ap (λ (a : Asking). a.requests) awaited.asking)
    (λ from. w.zero (begun.zero from)) (λ id is. begun.all id (kept id is))

run_gapless : (gapless : ℕ → Bool) (options : Options) (first size : ℕ) (direction : Direction) → first < 2 ^ 32 → length direction.queued < 2 ^ 64 → AreFree gapless direction.queued
    → DirectionRun options first size direction → AreKept gapless direction.beginning → GoesOnGapless gapless first direction
run_gapless gapless options first size _ small few are (begins direction b) kept = begins_gapless gapless options first size direction small b kept
run_gapless gapless options first size _ small few are (goes_on old direction run step) kept =
    let before = kept_before gapless old direction step kept in
    let few_before : length old.queued < 2 ^ 64 = omega (arith, few, more_queued old direction step) in
    gapless_steps gapless first old small (run_gapless gapless options first size old small few_before (free_before gapless old direction step are) run before) direction few are step before
run_gapless gapless options first size _ small few are (starts old queued below beginning run awaited fit waits idle begun) kept =
    let none_queued : length old.queued ≡ 0 = ap (λ (l : List Message). length l) awaited.queued in
    starts_gapless gapless first old queued below beginning small (run_stands options first size old small (omega (arith, none_queued)) run) awaited fit waits idle begun kept

-- ---- which streams have no limits

-- May no message that was queued on the stream be abandoned?
abbrev pub are_unlimited_on : ℕ → List Message → Bool
are_unlimited_on id [] = true
are_unlimited_on id (message ∷ queued) = (not (message.stream == id) || not message.is_limited) && are_unlimited_on id queued

pub unlimited_so : (id : ℕ) (queued : List Message) → are_unlimited_on id queued ≡ true → AreUnlimitedOn id queued
unlimited_so id [] is = tt
unlimited_so id (message ∷ queued) is =
    let parts = both (not (message.stream == id) || not message.is_limited) (are_unlimited_on id queued) is in
    (λ on. not_limited message.is_limited (subst (λ (b : Bool). (not b || not message.is_limited) ≡ true) (eq-eqb message.stream id on) parts.0), unlimited_so id queued parts.1)
  where
    not_limited : (b : Bool) → not b ≡ true → b ≡ false
    not_limited false is' = refl
    not_limited true is' = absurd (cc)

pub so_unlimited : (id : ℕ) (queued : List Message) → AreUnlimitedOn id queued → are_unlimited_on id queued ≡ true
so_unlimited id [] are = refl
so_unlimited id (message ∷ queued) are =
    elim (eqb_tells message.stream id) [
      | inl e ↦ rw e.0 (rw (are.0 e.1) (so_unlimited id queued are.1))
      | inr e ↦ rw e.0 (so_unlimited id queued are.1)
    ]

-- ---- what was read

-- the streams that the sender keeps, and on which no message may be abandoned
abbrev gapless_of : Direction → ℕ → Bool
gapless_of direction id = direction.beginning.keeps id && are_unlimited_on id direction.queued

module _ (direction : Direction) (history : History) (cut : IsLogOfPieces direction.queued history.log) (counts : (id : ℕ) → CountsFromZero history id)
    (turns : (id : ℕ) → gapless_of direction id ≡ true → SendsInTurn direction.queued history id) where
  read_gapless : (quiet : ℕ → Bool) → ((id : ℕ) → gapless_of direction id ≡ true → quiet id ≡ false) → (got : List ℕ) (base : ℕ) (places : List ℕ) → WereQueued direction.queued places direction.read → AreDistinct places
      → IncomingOrdered (uncut false any_asked) (sent_messages direction.queued history) quiet got base places direction.reassembly.incoming → AreDeliveredByStream direction.beginning.keeps direction.queued direction.read
  read_gapless quiet loud got base places were once o =
      record {
        ordered = record {
          delivered = record { places = places; were_queued = were; once = once };
          in_order = λ id. ordered_was_read (uncut false any_asked) direction.queued history quiet got base places direction.reassembly.incoming id (counts id) o;
        };
        no_gap = λ id kept are. (
            let is : gapless_of direction id ≡ true = rw kept (so_unlimited id direction.queued are) in
            let here : OrderedStream (uncut false any_asked id) direction.queued history id (places ++ o.holds.places) (o.holds.waits id) (stream_on id direction.reassembly.incoming.streams) =
            subst (λ (b : Bool). IsOrderedOrReset (uncut false any_asked id) b (sent_messages direction.queued history) id (places ++ o.holds.places) (o.holds.waits id) (stream_on id direction.reassembly.incoming.streams)) (loud id is) (o.order id (counts id)) in
            no_gap_front direction.queued id places o.holds.places here.order.in_order
            (filled_no_gap direction.queued history id (places ++ o.holds.places) (o.holds.waits id) (stream_on id direction.reassembly.incoming.streams) (counts id) (turns id is) here.order
            (all_filled false (any_asked id) direction.queued history id (places ++ o.holds.places) (stream_on id direction.reassembly.incoming.streams).next (free_on id direction.queued history cut are) here.by_epoch))
            );
      }

  read_so : (quiet : ℕ → Bool) → ((id : ℕ) → gapless_of direction id ≡ true → quiet id ≡ false) → (first : ℕ) (got places : List ℕ) → WereQueued direction.queued places direction.read → AreDistinct places
      → ReassemblesInOrder (uncut false any_asked) (sent_messages direction.queued history) quiet first got places direction.reassembly.incoming → AreDeliveredByStream direction.beginning.keeps direction.queued direction.read
  read_so quiet loud first got places were once (none_handled none last empty) = read_gapless quiet loud [] 0 places were once (empty 0)
  read_so quiet loud first got places were once (some_handled base at holds) = read_gapless quiet loud got base places were once holds

pub streams_deliver_without_gaps : (options : Options) (first size : ℕ) (direction : Direction) → DirectionRun options first size direction
    → first < 2 ^ 32 → assigned_count direction < 2 ^ 31 → length direction.queued < 2 ^ 64 → direction.queues.queue.is_interleaved ≡ true
    → direction.beginning.from_zero ≡ true → AreDeliveredByStream direction.beginning.keeps direction.queued direction.read
streams_deliver_without_gaps options first size direction run small little few interleaved from =
    let which : ((id : ℕ) → gapless_of direction id ≡ true → (direction.beginning.keeps id ≡ true) × (are_unlimited_on id direction.queued ≡ true)) =
    λ id is. both (direction.beginning.keeps id) (are_unlimited_on id direction.queued) is in
    let g = run_gapless (gapless_of direction) options first size direction small few (λ id is. unlimited_so id direction.queued (which id is).1) run (λ id is. (which id is).0) in
    let s = g.stands in
    let count = s.count in
    let low : length s.history.log < 2 ^ 31 = omega (arith, count, little) in
    let a = g.arrives low interleaved from in
    let known = told s.history direction.queues.queue s.queues.numbers low in
    let kinds = kinds_of s.queues.numbers (sym interleaved) in
    let counts : ((id : ℕ) → CountsFromZero s.history id) = λ id. counts_from_zero direction.queued s.history id s.queues.cut known kinds (g.zero interleaved from id) in
    let turns : ((id : ℕ) → gapless_of direction id ≡ true → SendsInTurn direction.queued s.history id) =
    λ id is. sends_in_turn_on direction.queued s.history id direction.queues.queue (counts id) (g.current interleaved id is) s.queues.cut s.queues.queue_holds (g.lost interleaved id is) in
    let loud : ((id : ℕ) → gapless_of direction id ≡ true → a.quiet id ≡ false) =
    λ id is. loud_by a.quiet id (λ silent. (let clash : true ≡ false = sym (a.silent id silent).handed ∙ not_handed id direction.queues.queue.streams (g.unpaused id is) in cc)) in
    read_so direction s.history s.queues.cut counts turns a.quiet loud first a.received.got a.places a.were a.once a.received.holds

-- ---- where all streams are kept, and none has limits

all_unlimited : (id : ℕ) (queued : List Message) → AreUnlimited queued → AreUnlimitedOn id queued
all_unlimited id [] are = tt
all_unlimited id (message ∷ queued) are = (λ on. are.0, all_unlimited id queued are.1)

pub directions_deliver_without_gaps : (options : Options) (first size : ℕ) (direction : Direction) → DirectionRun options first size direction
    → first < 2 ^ 32 → assigned_count direction < 2 ^ 31 → length direction.queued < 2 ^ 64 → direction.queues.queue.is_interleaved ≡ true
    → direction.beginning.from_zero ≡ true → KeepsAll direction.beginning → AreUnlimited direction.queued → AreDeliveredWithoutGaps direction.queued direction.read
directions_deliver_without_gaps options first size direction run small little few interleaved from keeps are =
    let d = streams_deliver_without_gaps options first size direction run small little few interleaved from in
    record { ordered = d.ordered; no_gap = λ id. d.no_gap id (keeps id) (all_unlimited id direction.queued are) }
