-- New chunks are sent until nothing more goes.
use Rattle.std.proofs.Common.{◌≡◌, ◌∙◌, ◌⊎◌, inl, inr, ℕ, zero, suc, ◌+◌, ◌-◌, ◌^◌, ◌<◌, ◌≤◌, nat_lt, nat_le, Bool, true, false, List, [], ◌∷◌, ◌++◌, length, None, append_assoc, append-nil, refl, sym, ap, arith}
use Rattle.std.proofs.lemmas.Bool.Decides.{nat_tests}
use Rattle.std.proofs.lemmas.List.Sums.{sum_by_push}
use Rattle.dcsctp_spec.specs.endpoint.Event.{Event}
use Rattle.dcsctp_spec.specs.queues.Filling.{Stage, SendsNew, MayAdd, StepNew, StageSteps, more as one_more_step, payload_room}
use Rattle.dcsctp_spec.specs.queues.Items.{Item, marked_count, marked_items, item_size}
use Rattle.dcsctp_spec.specs.queues.NextItem.{HaltsNew}
use Rattle.dcsctp_spec.specs.queues.Outstanding.{header, header_of, next_tsn}
use Rattle.dcsctp_spec.specs.types.queues.Progress.{just_sent}
use Rattle.dcsctp_spec.specs.queues.Retransmission.{can_send}
use Rattle.dcsctp_spec.specs.queues.SendQueue.{SendQueueState}
use Rattle.dcsctp_spec.specs.queues.Sending.{Drops}
use Rattle.dcsctp_spec_lemmas.proofs.TurnOutcomes.{by_test}
use Rattle.dcsctp_spec_lemmas.proofs.TakingOutcomes.{TakesSome, TakesNothing, Taking, TakingUnlessStuck, taken, taken_after}

abbrev Told : Type 0
Told = List (Event (List ℕ))

-- a chunk has a header
pub header_small : (interleaving : Bool) → (0 < header_of interleaving) × (header_of interleaving ≤ 20)
header_small true = (omega arith, omega arith)
header_small false = (omega arith, omega arith)

-- An item that was just sent doesn't wait to be sent again.
pub none_marked : (items : List Item) (item : Item) → item.progress ≡ just_sent → marked_items items ≡ 0 → marked_items (items ++ item ∷ []) ≡ 0
none_marked items item fresh before =
    let all = sum_by_push marked_count items item in
    let here : marked_count item ≡ 0 = rw fresh refl in
    omega (arith, all, here, before)

-- ---- one step

-- Why no new chunk is sent from there.
abbrev pub HaltsThere : Stage → Type 0
HaltsThere sent = HaltsNew sent.room sent.queue sent.waiting

-- what is sent from this stage until no more can be, and its events, of which these came before
abbrev pub SendsOn : ℕ → Stage → Stage → Told → Type 0
SendsOn now old mid events =
    (sent : Stage) × StageSteps (StepNew now) old sent × (marked_items sent.queue.outstanding.items ≡ 0) × HaltsThere sent × ((rest : Told) × (sent.told ≡ mid.told ++ (events ++ rest)))

-- It continues from a stage with less room.
abbrev Onward : ℕ → Stage → Stage → Type 0
Onward now old mid = (new : Stage) → StageSteps (StepNew now) old new → marked_items new.queue.outstanding.items ≡ 0 → new.room < mid.room → SendsOn now old new []

abbrev TakesSomeAt : ℕ → Stage → Told → Type 0
TakesSomeAt now mid events = TakesSome now (payload_room (header mid.queue.outstanding) mid.room) mid.waiting mid.told events

abbrev item_of : (now : ℕ) → (mid : Stage) → (events : Told) → TakesSomeAt now mid events → Item
item_of now mid events t = record { fragment = t.part; progress = just_sent; sent_at = now; begins_after_reset = mid.queue.reset_begun }

-- the stage once the fragment is sent
abbrev stage_with : (now : ℕ) → (mid : Stage) → (events : Told) → TakesSomeAt now mid events → Stage
stage_with now mid events t = record mid {
  queue = record mid.queue { outstanding = record mid.queue.outstanding { items = mid.queue.outstanding.items ++ item_of now mid events t ∷ [] }; reset_begun = false };
  waiting = t.new;
  told = t.telling;
  tsns = mid.tsns ++ next_tsn mid.queue.outstanding ∷ [];
  room = mid.room - item_size (header mid.queue.outstanding) (item_of now mid events t);
}

sends_some : (now : ℕ) (mid : Stage) (events : Told) → (t : TakesSomeAt now mid events) → SendsNew now mid (stage_with now mid events t)
sends_some now mid events t = record { item = item_of now mid events t; is_fresh = record { progress = refl; sent_at = refl }; begins = refl; takes = t.takes; is = refl }

after_some : (now : ℕ) (old mid : Stage) (events : Told) → StageSteps (StepNew now) old mid → MayAdd mid → Onward now old mid → TakesSomeAt now mid events → SendsOn now old mid events
after_some now old mid events steps may onward t =
    let new : Stage = stage_with now mid events t in
    let positive = (header_small mid.queue.outstanding.is_interleaved).0 in
    let fits = may.fits in
    let (sent, sending, unmarked, halts, (rest, grows)) =
    onward new (one_more_step mid new steps (may, inl (sends_some now mid events t)))
    (none_marked mid.queue.outstanding.items (item_of now mid events t) refl may.none_marked) (omega (arith, positive, fits)) in
    let told = grows ∙ (ap (λ (es : Told). es ++ rest) t.grows ∙ (append_assoc mid.told (events ++ t.rest) rest ∙ ap (λ (es : Told). mid.told ++ es) (append_assoc events t.rest rest))) in
    (sent, sending, unmarked, halts, (t.rest ++ rest, told))

after_nothing : (now : ℕ) (old mid : Stage) (events : Told) → StageSteps (StepNew now) old mid → MayAdd mid → TakesNothing now mid.waiting mid.told events → SendsOn now old mid events
after_nothing now old mid events steps may t =
    let new : Stage = record mid { waiting = t.new; told = t.telling } in
    (new, one_more_step mid new steps (may, inr (record { takes = t.takes; is = refl })), may.none_marked, inr (inr (inr (inl t.none_left))), (t.rest, t.grows))

after_taking : (now : ℕ) (old mid : Stage) (events : Told) → StageSteps (StepNew now) old mid → MayAdd mid → Onward now old mid
    → Taking now (payload_room (header mid.queue.outstanding) mid.room) mid.waiting mid.told events → SendsOn now old mid events
after_taking now old mid events steps may onward (inl t) = after_some now old mid events steps may onward t
after_taking now old mid events steps may onward (inr t) = after_nothing now old mid events steps may t

-- Nothing more goes from here.
stays : (now : ℕ) (old mid : Stage) → StageSteps (StepNew now) old mid → marked_items mid.queue.outstanding.items ≡ 0 → HaltsThere mid → SendsOn now old mid []
stays now old mid steps unmarked halts = (mid, steps, unmarked, halts, ([], sym (append-nil mid.told)))

goes_or_stays : (now : ℕ) (old mid : Stage) → StageSteps (StepNew now) old mid → MayAdd mid → Onward now old mid
    → TakingUnlessStuck now (payload_room (header mid.queue.outstanding) mid.room) mid.waiting mid.told → SendsOn now old mid []
goes_or_stays now old mid steps may onward (inl stuck) = stays now old mid steps may.none_marked (inr (inr (inr (inr stuck))))
goes_or_stays now old mid steps may onward (inr taking) = after_taking now old mid [] steps may onward taking

-- By each of the reasons why nothing may go.
may_or_halts : (mid : Stage) → marked_items mid.queue.outstanding.items ≡ 0 → MayAdd mid ⊎ HaltsNew mid.room mid.queue mid.waiting
may_or_halts mid unmarked =
    by_test (can_send mid.queue)
    (λ allowed.
    by_test (nat_lt mid.room (header mid.queue.outstanding + 4))
    (λ full. inr (inr (inl (grind (arith, nat_tests)))))
    (λ fits.
    by_test (nat_le (2 ^ 31) (length mid.queue.outstanding.items + 1))
    (λ many. inr (inr (inr (inl (grind (arith, nat_tests))))))
    (λ few. inl (record { allowed = allowed; none_marked = unmarked; fits = grind (arith, nat_tests); comparable = grind (arith, nat_tests) }))))
    (λ refused. inr (inl refused))

sends_on : (now : ℕ) (old mid : Stage) → StageSteps (StepNew now) old mid → marked_items mid.queue.outstanding.items ≡ 0 → Onward now old mid → SendsOn now old mid []
sends_on now old mid steps unmarked onward = elim (may_or_halts mid unmarked) [
  | inl may ↦ goes_or_stays now old mid steps may onward (taken now (payload_room (header mid.queue.outstanding) mid.room) mid.waiting mid.told)
  | inr halts ↦ stays now old mid steps unmarked halts
]

sent_within : (now : ℕ) (old : Stage) (room : ℕ) (mid : Stage) → StageSteps (StepNew now) old mid → marked_items mid.queue.outstanding.items ≡ 0 → mid.room ≤ room → SendsOn now old mid []
sent_within now old zero mid steps unmarked within = sends_on now old mid steps unmarked (λ new more_steps still less. absurd (omega arith))
sent_within now old (suc room) mid steps unmarked within =
    sends_on now old mid steps unmarked (λ new more_steps still less. sent_within now old room new more_steps still (omega arith))

pub sent_from : (now : ℕ) (old mid : Stage) → StageSteps (StepNew now) old mid → marked_items mid.queue.outstanding.items ≡ 0 → SendsOn now old mid []
sent_from now old mid steps unmarked = sent_within now old mid.room mid steps unmarked (omega arith)

-- Messages were dropped that are too old: their events come first.
pub sent_from_dropped : (now : ℕ) (old mid : Stage) (events : Told) (left : SendQueueState) → StageSteps (StepNew now) old mid → MayAdd mid → mid.waiting.held ≡ None → Drops now mid.waiting events left
    → SendsOn now old mid events
sent_from_dropped now old mid events left steps may idle drops =
    after_taking now old mid events steps may (λ new more_steps still less. sent_from now old new more_steps still)
    (taken_after now (payload_room (header mid.queue.outstanding) mid.room) mid.waiting left mid.told events idle drops)
