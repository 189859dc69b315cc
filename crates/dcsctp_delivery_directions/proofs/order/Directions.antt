-- Order holds throughout a run of a direction.
use Rattle.dcsctp_delivery_directions.proofs.directions.InTurn.{turns_of}
use Rattle.std.proofs.Common.{◌≡◌, ℕ, Bool, true, false, ◌<◌, ◌+◌, ◌*◌, ◌%◌, ◌^◌, List, [], ◌++◌, length, refl, sym, ◌∙◌, ap, arith, subst, inl, inr}
use Rattle.std.specs.Prelude.{◌⊎◌, if◌then◌else◌, Option, None, Some}
use Rattle.std.specs.List.{AllByRecursion}
use Rattle.std.proofs.lemmas.List.{length-append}
use Rattle.dcsctp_spec_lemmas.specs.types.declared.options.Options.{Options}
use Rattle.dcsctp_spec_lemmas.specs.spec.endpoint.BegunResets.{BegunReset}
use Rattle.dcsctp_spec_lemmas.specs.spec.endpoint.FlushOutcomes.{first_ask, packets_allowed}
use Rattle.dcsctp_spec_lemmas.specs.spec.queues.OwnResets.{queue_committed}
use Rattle.dcsctp_spec_lemmas.specs.spec.queues.Transfer.{EndpointQueues}
use Rattle.dcsctp_delivery_directions.specs.sending.Flushes.{begun_reset_of}
use Rattle.dcsctp_delivery_directions.specs.sending.Log.{Fits, Message, Slot, History, new_history, sent_messages}
use Rattle.dcsctp_delivery_directions.specs.sending.Numbers.{is_handed_out, stream_named, AreFloorsAtZero}
use Rattle.dcsctp_delivery_directions.specs.sending.Queueing.{QueueWaits}
use Rattle.dcsctp_delivery_directions.proofs.sending.Chunks.{kinds_of}
use Rattle.dcsctp_delivery_directions.proofs.sending.Counting.{told}
use Rattle.dcsctp_delivery_directions.proofs.sending.NextIdentifiers.{flush_kind}
use Rattle.dcsctp_delivery_directions.proofs.sending.Prepared.{preparing_kind}
use Rattle.dcsctp_delivery_directions.proofs.sending.Settings.{setting_kind}
use Rattle.dcsctp_delivery_directions.specs.receiving.Ready.{AreDistinct, WereQueued}
use Rattle.dcsctp_delivery_directions.specs.directions.Directions.{Beginning, BeginsAs, Direction, Asking, asking_with, assigned_count, BeginsDirection, IsAwaited, NoneInFlight, DirectionRun, begins, goes_on, starts, DirectionStep, queues, sets, prepares, commits, rolls_back, flushes, resends, resends_nothing, speaks, asks_again, renews, turns_aside, acknowledges, loses, receives, forwards, receives_interleaved, forwards_interleaved, tracks, defers, performs, performs_earlier, resets, takes}
use Rattle.dcsctp_delivery_directions.proofs.directions.Continuing.{NamedAreOut, EndsNone, Continues, step_continues, ended_raises, begun_history, started_history}
use Rattle.dcsctp_delivery_directions.proofs.directions.Directions.{begun_stands, started_stands}
use Rattle.dcsctp_delivery_directions.proofs.directions.Standing.{Stands}
use Rattle.dcsctp_delivery_directions.proofs.directions.Steps.{stepped, more_queued}
use Rattle.dcsctp_delivery_directions.specs.order.Delivered.{AreDeliveredInOrder}
use Rattle.dcsctp_delivery_directions.specs.order.Reading.{CountsFromZero, uncut, any_asked}
use Rattle.dcsctp_delivery_directions.specs.order.Epochs.{SendsEpochsInTurn}
use Rattle.dcsctp_delivery_directions.specs.order.Received.{none_quiet, ReassemblesInOrder, none_handled, some_handled}
use Rattle.dcsctp_delivery_directions.proofs.order.Beginning.{waits_from}
use Rattle.dcsctp_delivery_directions.proofs.order.Delivered.{read_is_in_order}
use Rattle.dcsctp_delivery_directions.proofs.order.Follows.{counts_from_zero}
use Rattle.dcsctp_delivery_directions.proofs.order.Quiet.{Arrives, arrives_later}
use Rattle.dcsctp_delivery_directions.proofs.order.Steps.{arrives_on, committing_arrives}
use Rattle.dcsctp_delivery_directions.proofs.order.Unsent.{received_none}

-- ---- what holds throughout

-- The newest request has no end, if it isn't known to be performed.
abbrev pub Unended : Asking → Type 0
Unended asking = asking.is_performed ≡ false → (asking.requests ≡ []) ⊎ (0 < asking.out)

-- The history, the streams that the newest request names, and what the receiver has where few TSNs were assigned. This is of a
-- sender that interleaves, and began with number 0 on each stream.
record GoesInOrder (first : ℕ) (direction : Direction) : Type 0 where
  stands : Stands first direction
  named : NamedAreOut stands.history direction.asking.out direction.queues.queue.streams
  unended : direction.queues.queue.is_interleaved ≡ true → Unended direction.asking
  zero : direction.queues.queue.is_interleaved ≡ true → direction.beginning.from_zero ≡ true → (id : ℕ) → AreFloorsAtZero stands.history.floors id
  arrives : length stands.history.log < 2 ^ 31 → direction.queues.queue.is_interleaved ≡ true → direction.beginning.from_zero ≡ true
      → Arrives (uncut false any_asked) first stands.history direction.queued direction.read direction.tracker direction.reassembly direction.queues.queue.streams

-- Where a reset may be asked for at any time, each epoch is one message.
pub asked_always : (queued : List Message) (history : History) (id : ℕ) → SendsEpochsInTurn (uncut false any_asked id).asks queued history id
asked_always queued history id earlier later mid on free sent from less one = absurd (let no : true ≡ false = one later less (omega arith) in cc)

-- ---- an association begins

-- Nothing was sent in it yet, and no reset begun.
begins_so : (first : ℕ) (direction : Direction) (s : Stands first direction) (floors : ℕ → Bool → ℕ) → s.history ≡ new_history floors → direction.asking.out ≡ 0 → direction.asking.requests ≡ []
    → (direction.beginning.from_zero ≡ true → (id : ℕ) → AreFloorsAtZero floors id) → GoesInOrder first direction
begins_so first direction s floors is none_out none_asked at_zero =
    record {
      stands = s;
      named = λ mark earlier has some. absurd (omega (arith, some, none_out));
      unended = λ interleaved unknown. inl none_asked;
      zero = λ interleaved from id. subst (λ (h : History). AreFloorsAtZero h.floors id) (sym is) (at_zero from id);
      arrives = λ little interleaved from. (
          let a = s.arrived little in
          record {
            places = a.places;
            were = a.were;
            once = a.once;
            quiet = none_quiet;
            received = received_none direction.queued s.history (ap (λ (h : History). h.log) is) false any_asked first a.places direction.tracker direction.reassembly a.received;
            silent = λ id silent. absurd (cc);
          }
          );
    }

-- ---- a step that ends no reset

-- What no such step changes.
pub record Keeps (old direction : Direction) : Type 0 where
  pub start : direction.beginning.from_zero ≡ old.beginning.from_zero
  pub kind : direction.queues.queue.is_interleaved ≡ old.queues.queue.is_interleaved
  pub unended : Unended old.asking → Unended direction.asking

begun_unended : (begun : Option BegunReset) (asking : Asking) → Unended asking → Unended (asking_with begun asking)
begun_unended None asking unended = unended
begun_unended (Some begun) asking unended = λ unknown. inr (omega arith)

pub step_keeps : (old direction : Direction) (step : DirectionStep old direction) → EndsNone old direction step → Keeps old direction
step_keeps old _ (queues now sending fits some) ends = record { start = refl; kind = refl; unended = λ u. u }
step_keeps old _ (sets setting fits) ends = record { start = refl; kind = setting_kind setting old.queues.queue; unended = λ u. u }
step_keeps old _ (prepares ids fit kept) ends = record { start = refl; kind = preparing_kind ids old.queues.queue; unended = λ u. u }
step_keeps old _ (commits go_on) ends = absurd ends
step_keeps old _ (rolls_back unmixed) ends = absurd ends
step_keeps old _ (flushes e draft answers same no_data allowed) ends =
    record {
      start = refl;
      kind = flush_kind first_ask (packets_allowed e.options.max_burst e.core) e draft answers allowed ∙ ap (λ (b : EndpointQueues). b.queue.is_interleaved) same;
      unended = begun_unended (begun_reset_of answers) old.asking;
    }
step_keeps old _ (resends now room transfer left tsns chunks emission known sends are contents) ends = record { start = refl; kind = refl; unended = λ u. u }
step_keeps old _ (resends_nothing now room transfer left tsns known sends) ends = record { start = refl; kind = refl; unended = λ u. u }
step_keeps old _ (speaks emission no_data) ends = record { start = refl; kind = refl; unended = λ u. u }
step_keeps old _ (asks_again emission begun was contents) ends = record { start = refl; kind = refl; unended = λ u. u }
step_keeps old _ (renews emission newest earlier number asks out contents) ends = record { start = refl; kind = refl; unended = λ u unknown. inr (omega (arith, out)) }
step_keeps old _ (turns_aside transfer new known same) ends = record { start = refl; kind = refl; unended = λ u. u }
step_keeps old _ (acknowledges now sack transfer new known valid reached does) ends = record { start = refl; kind = refl; unended = λ u. u }
step_keeps old _ (loses now transfer known) ends = record { start = refl; kind = refl; unended = λ u. u }
step_keeps old _ (receives emission chunk theirs new was holds some same same' does) ends = record { start = refl; kind = refl; unended = λ u. u }
step_keeps old _ (forwards emission tsn streams theirs new was holds same same' does) ends = record { start = refl; kind = refl; unended = λ u. u }
step_keeps old _ (receives_interleaved emission chunk theirs new was holds some same same' does) ends = record { start = refl; kind = refl; unended = λ u. u }
step_keeps old _ (forwards_interleaved emission tsn streams theirs new was holds same same' does) ends = record { start = refl; kind = refl; unended = λ u. u }
step_keeps old _ (tracks new cumulative ranges) ends = record { start = refl; kind = refl; unended = λ u. u }
step_keeps old _ (defers last_tsn streams some) ends = record { start = refl; kind = refl; unended = λ u. u }
step_keeps old _ (performs newest earlier new asks unknown reached own leaves) ends = record { start = refl; kind = refl; unended = λ u unknown. absurd (cc) }
step_keeps old _ (performs_earlier newest earlier new asks unknown reached own leaves) ends = record { start = refl; kind = refl; unended = λ u. u }
step_keeps old _ (resets streams new unmixed some leaves) ends = record { start = refl; kind = refl; unended = λ u. u }
step_keeps old _ (takes message messages ready) ends = record { start = refl; kind = refl; unended = λ u. u }

goes_on_in_order : (first : ℕ) (old : Direction) → first < 2 ^ 32 → GoesInOrder first old → (direction : Direction) → length direction.queued < 2 ^ 64 → (step : DirectionStep old direction) → EndsNone old direction step → GoesInOrder first direction
goes_on_in_order first old small g direction few step ends =
    let s = stepped first old small g.stands direction few step in
    let c : Continues g.stands.history s.history old.queues.queue.streams direction.queues.queue.streams old.asking.out direction.asking.out = step_continues first old small g.stands direction few step ends in
    let k = step_keeps old direction step ends in
    record {
      stands = s;
      named = c.named g.named;
      unended = λ interleaved. k.unended (g.unended (sym k.kind ∙ interleaved));
      zero = λ interleaved from id. subst (λ (floors : ℕ → Bool → ℕ). AreFloorsAtZero floors id) (sym c.floors) (g.zero (sym k.kind ∙ interleaved) (sym k.start ∙ from) id);
      arrives = λ little interleaved from. (
          let sizes : length s.history.log ≡ length (c.more ++ g.stands.history.log) = ap (λ (l : List Slot). length l) c.log in
          let before : length g.stands.history.log < 2 ^ 31 = omega (arith, little, sizes, length-append c.more g.stands.history.log) in
          let was : old.queues.queue.is_interleaved ≡ true = sym k.kind ∙ interleaved in
          arrives_later (uncut false any_asked) first g.stands.history s.history old.queues.queue.streams direction.queues.queue.streams old.asking.out direction.asking.out c direction.queued [] direction.read direction.tracker direction.reassembly
          (arrives_on (uncut false any_asked) first old small g.stands (asked_always old.queued g.stands.history) before was direction step ends g.named (g.unended was) (λ id known. absurd (cc)) (g.arrives before was (sym k.start ∙ from)))
          (λ id loud since cut has. absurd has)
          );
    }

-- ---- a step that ends a reset

pub raised_zero : (b : Bool) (low high size : ℕ) → (low % 2 ^ 32 ≡ 0) × (high < 2 ^ 32 * (low + 1))
    → ((if b then 2 ^ 32 * (low + size + 1) else low) % 2 ^ 32 ≡ 0) × ((if b then 2 ^ 32 * (high + size + 1) else high) < 2 ^ 32 * ((if b then 2 ^ 32 * (low + size + 1) else low) + 1))
raised_zero true low high size is = (let less = is.1 in (omega arith, omega (arith, less)))
raised_zero false low high size is = is

steps_in_order : (first : ℕ) (old : Direction) → first < 2 ^ 32 → GoesInOrder first old → (direction : Direction) → length direction.queued < 2 ^ 64 → DirectionStep old direction → GoesInOrder first direction
steps_in_order first old small g _ few (commits go_on) =
    let s = stepped first old small g.stands _ few (commits go_on) in
    record {
      stands = s;
      named = λ mark earlier is some. absurd (omega (arith, some));
      unended = λ interleaved unknown. absurd (let clash : true ≡ false = sym (go_on (turns_of old interleaved)).1 ∙ unknown in cc);
      zero = λ interleaved from id.
          subst (λ (h : History). AreFloorsAtZero h.floors id) (sym (ended_raises first old small g.stands few go_on interleaved))
          (raised_zero (is_handed_out (stream_named id old.queues.queue.streams).pause) (g.stands.history.floors id false) (g.stands.history.floors id true) (length g.stands.history.log) (g.zero interleaved from id));
      arrives = λ little interleaved from. (
          let raises = ended_raises first old small g.stands few go_on interleaved in
          let before : length g.stands.history.log < 2 ^ 31 = subst (λ (h : History). length h.log < 2 ^ 31) raises little in
          subst (λ (h : History). Arrives (uncut false any_asked) first h old.queued old.read old.tracker old.reassembly (queue_committed old.queues.queue).streams) (sym raises)
          (committing_arrives (uncut false any_asked) first old small g.stands (asked_always old.queued g.stands.history) before interleaved (go_on (turns_of old interleaved)).0 (go_on (turns_of old interleaved)).1 (g.zero interleaved from) (g.arrives before interleaved from) (λ id. []) (λ id shut. refl) (λ got same base o id handed cut has. absurd has))
          );
    }
steps_in_order first old small g _ few (rolls_back unmixed) =
    record {
      stands = stepped first old small g.stands _ few (rolls_back unmixed);
      named = λ mark earlier is some. absurd (omega (arith, some));
      unended = λ interleaved. absurd (let clash : true ≡ false = sym (turns_of old interleaved) ∙ unmixed in cc);
      zero = λ interleaved. absurd (let clash : true ≡ false = sym (turns_of old interleaved) ∙ unmixed in cc);
      arrives = λ little interleaved. absurd (let clash : true ≡ false = sym (turns_of old interleaved) ∙ unmixed in cc);
    }
steps_in_order first old small g _ few (queues now sending fits some) = goes_on_in_order first old small g _ few (queues now sending fits some) tt
steps_in_order first old small g _ few (sets setting fits) = goes_on_in_order first old small g _ few (sets setting fits) tt
steps_in_order first old small g _ few (prepares ids fit kept) = goes_on_in_order first old small g _ few (prepares ids fit kept) tt
steps_in_order first old small g _ few (flushes e draft answers same no_data allowed) = goes_on_in_order first old small g _ few (flushes e draft answers same no_data allowed) tt
steps_in_order first old small g _ few (resends now room transfer left tsns chunks emission known sends are contents) = goes_on_in_order first old small g _ few (resends now room transfer left tsns chunks emission known sends are contents) tt
steps_in_order first old small g _ few (resends_nothing now room transfer left tsns known sends) = goes_on_in_order first old small g _ few (resends_nothing now room transfer left tsns known sends) tt
steps_in_order first old small g _ few (speaks emission no_data) = goes_on_in_order first old small g _ few (speaks emission no_data) tt
steps_in_order first old small g _ few (asks_again emission begun was contents) = goes_on_in_order first old small g _ few (asks_again emission begun was contents) tt
steps_in_order first old small g _ few (renews emission newest earlier number asks out contents) = goes_on_in_order first old small g _ few (renews emission newest earlier number asks out contents) tt
steps_in_order first old small g _ few (turns_aside transfer new known same) = goes_on_in_order first old small g _ few (turns_aside transfer new known same) tt
steps_in_order first old small g _ few (acknowledges now sack transfer new known valid reached does) = goes_on_in_order first old small g _ few (acknowledges now sack transfer new known valid reached does) tt
steps_in_order first old small g _ few (loses now transfer known) = goes_on_in_order first old small g _ few (loses now transfer known) tt
steps_in_order first old small g _ few (receives emission chunk theirs new was holds some same same' does) = goes_on_in_order first old small g _ few (receives emission chunk theirs new was holds some same same' does) tt
steps_in_order first old small g _ few (forwards emission tsn streams theirs new was holds same same' does) = goes_on_in_order first old small g _ few (forwards emission tsn streams theirs new was holds same same' does) tt
steps_in_order first old small g _ few (receives_interleaved emission chunk theirs new was holds some same same' does) = goes_on_in_order first old small g _ few (receives_interleaved emission chunk theirs new was holds some same same' does) tt
steps_in_order first old small g _ few (forwards_interleaved emission tsn streams theirs new was holds same same' does) = goes_on_in_order first old small g _ few (forwards_interleaved emission tsn streams theirs new was holds same same' does) tt
steps_in_order first old small g _ few (tracks new cumulative ranges) = goes_on_in_order first old small g _ few (tracks new cumulative ranges) tt
steps_in_order first old small g _ few (defers last_tsn streams some) = goes_on_in_order first old small g _ few (defers last_tsn streams some) tt
steps_in_order first old small g _ few (performs newest earlier new asks unknown reached own leaves) = goes_on_in_order first old small g _ few (performs newest earlier new asks unknown reached own leaves) tt
steps_in_order first old small g _ few (performs_earlier newest earlier new asks unknown reached own leaves) = goes_on_in_order first old small g _ few (performs_earlier newest earlier new asks unknown reached own leaves) tt
steps_in_order first old small g _ few (resets streams new unmixed some leaves) = goes_on_in_order first old small g _ few (resets streams new unmixed some leaves) tt
steps_in_order first old small g _ few (takes message messages ready) = goes_on_in_order first old small g _ few (takes message messages ready) tt

-- ---- a run

begins_in_order : (options : Options) (first size : ℕ) (direction : Direction) → first < 2 ^ 32 → BeginsDirection options first size direction → GoesInOrder first direction
begins_in_order options first size direction small b =
    let w = waits_from direction.queued direction.queues.queue b.queues in
    let b' : BeginsDirection options first size direction = record b { queues = w.waits } in
    let is = begun_history options first size direction small b' in
    begins_so first direction (begun_stands options first size direction small b') w.waits.floors is (ap (λ (a : Asking). a.out) b.asking) (ap (λ (a : Asking). a.requests) b.asking) (λ from. w.zero (b.begun.zero from))

starts_in_order : (first : ℕ) (old : Direction) (queued : List Message) (below : EndpointQueues) (beginning : Beginning) → first < 2 ^ 32 → (g : GoesInOrder first old) → (awaited : IsAwaited old) → AllByRecursion Fits queued → QueueWaits queued below.queue
    → NoneInFlight first below.queue below.transfer → BeginsAs beginning queued below.queue → GoesInOrder first (record old { queued = queued; queues = below; prepared = []; beginning = beginning })
starts_in_order first old queued below beginning small g awaited fit waits none begun =
    let w = waits_from queued below.queue waits in
    let s = started_stands first old queued below beginning g.stands awaited small fit w.waits none in
    let is = started_history first old queued below beginning g.stands awaited small fit w.waits none in
    begins_so first (record old { queued = queued; queues = below; prepared = []; beginning = beginning }) s w.waits.floors is (ap (λ (a : Asking). a.out) awaited.asking) (ap (λ (a : Asking). a.requests) awaited.asking) (λ from. w.zero (begun.zero from))

run_in_order : (options : Options) (first size : ℕ) (direction : Direction) → first < 2 ^ 32 → length direction.queued < 2 ^ 64 → DirectionRun options first size direction → GoesInOrder first direction
run_in_order options first size _ small few (begins direction b) = begins_in_order options first size direction small b
run_in_order options first size _ small few (goes_on old direction run step) =
    steps_in_order first old small (run_in_order options first size old small (omega (arith, few, more_queued old direction step)) run) direction few step
run_in_order options first size _ small few (starts old queued below beginning run awaited fit waits idle begun) =
    let none_queued : length old.queued ≡ 0 = ap (λ (l : List Message). length l) awaited.queued in
    starts_in_order first old queued below beginning small (run_in_order options first size old small (omega (arith, none_queued)) run) awaited fit waits idle begun

pub directions_deliver_in_order : (options : Options) (first size : ℕ) (direction : Direction) → DirectionRun options first size direction → first < 2 ^ 32 → assigned_count direction < 2 ^ 31 → length direction.queued < 2 ^ 64
    → direction.queues.queue.is_interleaved ≡ true → direction.beginning.from_zero ≡ true → AreDeliveredInOrder direction.queued direction.read
directions_deliver_in_order options first size direction run small little few interleaved from =
    let g = run_in_order options first size direction small few run in
    let s = g.stands in
    let count = s.count in
    let low : length s.history.log < 2 ^ 31 = omega (arith, count, little) in
    let a = g.arrives low interleaved from in
    let counts = λ (id : ℕ). counts_from_zero direction.queued s.history id s.queues.cut (told s.history direction.queues.queue s.queues.numbers low) (kinds_of s.queues.numbers (sym interleaved)) (g.zero interleaved from id) in
    go s a.quiet a.received.got a.places a.were a.once counts a.received.holds
  where
    go : (s : Stands first direction) (quiet : ℕ → Bool) (got places : List ℕ) → WereQueued direction.queued places direction.read → AreDistinct places → ((id : ℕ) → CountsFromZero s.history id)
        → ReassemblesInOrder (uncut false any_asked) (sent_messages direction.queued s.history) quiet first got places direction.reassembly.incoming → AreDeliveredInOrder direction.queued direction.read
    go s quiet got places were once counts (none_handled none' last empty') = read_is_in_order (uncut false any_asked) direction.queued s.history quiet [] 0 places direction.reassembly.incoming direction.read were once counts (empty' 0)
    go s quiet got places were once counts (some_handled base is holds) = read_is_in_order (uncut false any_asked) direction.queued s.history quiet got base places direction.reassembly.incoming direction.read were once counts holds
