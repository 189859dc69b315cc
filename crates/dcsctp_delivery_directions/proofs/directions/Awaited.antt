-- Where nothing was sent nothing was received. So what one peer never received may go to another one
-- (RFC 9260, section 5.2.4, action B).
use Rattle.std.proofs.Common.{◌≡◌, ℕ, Some, List, [], ◌∷◌, ◌++◌, refl, sym, ◌∙◌, ap, subst}
use Rattle.std.specs.Prelude.{Option, None}
use Rattle.dcsctp_spec.specs.types.declared.options.Options.{Options}
use Rattle.dcsctp_spec.specs.types.queues.Messages.{MessageContent}
use Rattle.dcsctp_spec.specs.endpoint.BegunResets.{BegunReset}
use Rattle.dcsctp_spec.specs.endpoint.Event.{packets_of_events}
use Rattle.dcsctp_spec.specs.endpoint.FlushOutcomes.{flush_of}
use Rattle.dcsctp_spec.specs.endpoint.TransferMoves.{lost_all}
use Rattle.dcsctp_spec.specs.Packet.{Emission}
use Rattle.dcsctp_spec.specs.queues.Reassembly.{ReassemblyState, new_reassembly}
use Rattle.dcsctp_spec.specs.queues.Tracker.{TrackerState, new_tracker}
use Rattle.dcsctp_spec.specs.queues.Transfer.{Transfer, part_overhead, transfer_kept}
use Rattle.dcsctp_delivery_directions.specs.sending.Places.{HasEntry}
use Rattle.dcsctp_delivery_directions.specs.sending.Flushes.{begun_reset_of}
use Rattle.dcsctp_delivery_directions.proofs.directions.Calm.{none_has}
use Rattle.dcsctp_delivery_directions.specs.directions.Directions.{Direction, PerformedReset, Asking, asking_with, BeginsDirection, DirectionStep, queues, sets, prepares, commits, rolls_back, flushes, resends, resends_nothing, speaks, asks_again, renews, turns_aside, acknowledges, loses, receives, forwards, receives_interleaved, forwards_interleaved, tracks, defers, performs, performs_earlier, resets, takes, DirectionRun, begins, goes_on, starts}

-- ---- nothing was received

-- At the receiver all is as where an association begins, but for when an acknowledgement is due.
pub record HasReceivedNothing (options : Options) (first size : ℕ) (direction : Direction) : Type 0 where
  pub cumulative : direction.tracker.cumulative ≡ (new_tracker options first).cumulative
  pub ranges : direction.tracker.ranges ≡ (new_tracker options first).ranges
  pub reassembly : direction.reassembly ≡ new_reassembly size (part_overhead options)
  pub read : direction.read ≡ []
  pub performed : direction.performed ≡ []

-- Nothing was sent, and no reset of streams was asked for.
pub record HasSentNothing (direction : Direction) : Type 0 where
  pub sent : direction.sent ≡ []
  pub asked : direction.asking.requests ≡ []

nothing_in_front : {A : Type 0} (front more : List A) → front ++ more ≡ [] → front ≡ []
nothing_in_front [] more none = refl
nothing_in_front (x ∷ front) more none = absurd (cc)

one_behind : {A : Type 0} (front : List A) (x : A) → front ++ x ∷ [] ≡ [] → ⊥
one_behind [] x none = cc
one_behind (y ∷ front) x none = cc

asked_before : (begun : Option BegunReset) (asking : Asking) → (asking_with begun asking).requests ≡ [] → asking.requests ≡ []
asked_before None asking none = none
asked_before (Some begun) asking none = absurd (cc)

-- So it was before each step.
nothing_before : (old direction : Direction) → DirectionStep old direction → HasSentNothing direction → HasSentNothing old
nothing_before old _ (queues now sending fits some) h = record { sent = h.sent; asked = h.asked }
nothing_before old _ (sets setting fits) h = record { sent = h.sent; asked = h.asked }
nothing_before old _ (prepares ids fit kept) h = record { sent = h.sent; asked = h.asked }
nothing_before old _ (commits go_on) h = record { sent = h.sent; asked = h.asked }
nothing_before old _ (rolls_back unmixed) h = record { sent = h.sent; asked = h.asked }
nothing_before old _ (flushes e draft answers same no_data allowed) h =
    record { sent = nothing_in_front old.sent (packets_of_events (flush_of e draft answers).events) h.sent; asked = asked_before (begun_reset_of answers) old.asking h.asked }
nothing_before old _ (resends now room transfer left tsns chunks emission known sends are contents) h = absurd (one_behind old.sent emission h.sent)
nothing_before old _ (resends_nothing now room transfer left tsns known sends) h = record { sent = h.sent; asked = h.asked }
nothing_before old _ (speaks emission no_data) h = absurd (one_behind old.sent emission h.sent)
nothing_before old _ (asks_again emission begun was contents) h = absurd (one_behind old.sent emission h.sent)
nothing_before old _ (renews emission newest earlier number asks out contents) h = absurd (one_behind old.sent emission h.sent)
nothing_before old _ (turns_aside transfer new known same) h = record { sent = h.sent; asked = h.asked }
nothing_before old _ (acknowledges now sack transfer new known valid reached does) h = record { sent = h.sent; asked = h.asked }
nothing_before old _ (loses now transfer known) h = record { sent = h.sent; asked = h.asked }
nothing_before old _ (receives emission chunk theirs new was holds some same same' does) h = record { sent = h.sent; asked = h.asked }
nothing_before old _ (forwards emission tsn streams theirs new was holds same same' does) h = record { sent = h.sent; asked = h.asked }
nothing_before old _ (receives_interleaved emission chunk theirs new was holds some same same' does) h = record { sent = h.sent; asked = h.asked }
nothing_before old _ (forwards_interleaved emission tsn streams theirs new was holds same same' does) h = record { sent = h.sent; asked = h.asked }
nothing_before old _ (tracks new cumulative ranges) h = record { sent = h.sent; asked = h.asked }
nothing_before old _ (defers last_tsn streams some) h = record { sent = h.sent; asked = h.asked }
nothing_before old _ (performs newest earlier new asks kept reached own does) h = record { sent = h.sent; asked = h.asked }
nothing_before old _ (performs_earlier newest earlier new asks kept reached own does) h = record { sent = h.sent; asked = h.asked }
nothing_before old _ (resets streams new unmixed some does) h = record { sent = h.sent; asked = h.asked }
nothing_before old _ (takes message messages ready) h = record { sent = h.sent; asked = h.asked }

module _ (options : Options) (first size : ℕ) where
  abbrev Nothing : Direction → Type 0
  Nothing direction = HasReceivedNothing options first size direction

  no_entry : (old : Direction) (emission : Emission) → old.sent ≡ [] → HasEntry emission old.sent → ⊥
  no_entry old emission none has = subst (HasEntry emission) none has

  none_asked : (newest : BegunReset) (earlier requests : List BegunReset) → requests ≡ [] → requests ≡ newest ∷ earlier → ⊥
  none_asked newest earlier requests none asks = (let clash : ◌≡◌ {A = List BegunReset} [] (newest ∷ earlier) = sym none ∙ asks in cc)

  none_ready : (message : MessageContent) (messages : List MessageContent) (old : Direction) → Nothing old → old.reassembly.incoming.ready ≡ message ∷ messages → ⊥
  none_ready message messages old h ready =
      (let clash : ◌≡◌ {A = List MessageContent} [] (message ∷ messages) = sym (ap (λ (r : ReassemblyState). r.incoming.ready) h.reassembly) ∙ ready in cc)

  nothing_after : (old direction : Direction) → DirectionStep old direction → HasSentNothing old → Nothing old → Nothing direction
  nothing_after old _ (queues now sending fits some) s h = record { cumulative = h.cumulative; ranges = h.ranges; reassembly = h.reassembly; read = h.read; performed = h.performed }
  nothing_after old _ (sets setting fits) s h = record { cumulative = h.cumulative; ranges = h.ranges; reassembly = h.reassembly; read = h.read; performed = h.performed }
  nothing_after old _ (prepares ids fit kept) s h = record { cumulative = h.cumulative; ranges = h.ranges; reassembly = h.reassembly; read = h.read; performed = h.performed }
  nothing_after old _ (commits go_on) s h = record { cumulative = h.cumulative; ranges = h.ranges; reassembly = h.reassembly; read = h.read; performed = h.performed }
  nothing_after old _ (rolls_back unmixed) s h = record { cumulative = h.cumulative; ranges = h.ranges; reassembly = h.reassembly; read = h.read; performed = h.performed }
  nothing_after old _ (flushes e draft answers same no_data allowed) s h = record { cumulative = h.cumulative; ranges = h.ranges; reassembly = h.reassembly; read = h.read; performed = h.performed }
  nothing_after old _ (resends now room transfer left tsns chunks emission known sends are contents) s h = record { cumulative = h.cumulative; ranges = h.ranges; reassembly = h.reassembly; read = h.read; performed = h.performed }
  nothing_after old _ (resends_nothing now room transfer left tsns known sends) s h = record { cumulative = h.cumulative; ranges = h.ranges; reassembly = h.reassembly; read = h.read; performed = h.performed }
  nothing_after old _ (speaks emission no_data) s h = record { cumulative = h.cumulative; ranges = h.ranges; reassembly = h.reassembly; read = h.read; performed = h.performed }
  nothing_after old _ (asks_again emission begun was contents) s h = record { cumulative = h.cumulative; ranges = h.ranges; reassembly = h.reassembly; read = h.read; performed = h.performed }
  nothing_after old _ (renews emission newest earlier number asks out contents) s h = record { cumulative = h.cumulative; ranges = h.ranges; reassembly = h.reassembly; read = h.read; performed = h.performed }
  nothing_after old _ (turns_aside transfer new known same) s h = record { cumulative = h.cumulative; ranges = h.ranges; reassembly = h.reassembly; read = h.read; performed = h.performed }
  nothing_after old _ (acknowledges now sack transfer new known valid reached does) s h = record { cumulative = h.cumulative; ranges = h.ranges; reassembly = h.reassembly; read = h.read; performed = h.performed }
  nothing_after old _ (loses now transfer known) s h = record { cumulative = h.cumulative; ranges = h.ranges; reassembly = h.reassembly; read = h.read; performed = h.performed }
  nothing_after old _ (receives emission chunk theirs new was holds some same same' does) s h = absurd (no_entry old emission s.sent was)
  nothing_after old _ (forwards emission tsn streams theirs new was holds same same' does) s h = absurd (no_entry old emission s.sent was)
  nothing_after old _ (receives_interleaved emission chunk theirs new was holds some same same' does) s h = absurd (no_entry old emission s.sent was)
  nothing_after old _ (forwards_interleaved emission tsn streams theirs new was holds same same' does) s h = absurd (no_entry old emission s.sent was)
  nothing_after old _ (tracks new cumulative ranges) s h = record { cumulative = cumulative ∙ h.cumulative; ranges = ranges ∙ h.ranges; reassembly = h.reassembly; read = h.read; performed = h.performed }
  nothing_after old _ (defers last_tsn streams some) s h = absurd (none_has old.asking.requests streams some.asked s.asked)
  nothing_after old _ (performs newest earlier new asks kept reached own does) s h = absurd (none_asked newest earlier old.asking.requests s.asked asks)
  nothing_after old _ (performs_earlier newest earlier new asks kept reached own does) s h = absurd (none_asked newest earlier old.asking.requests s.asked asks)
  nothing_after old _ (resets streams new unmixed some does) s h = absurd (none_has old.asking.requests streams some s.asked)
  nothing_after old _ (takes message messages ready) s h = absurd (none_ready message messages old h ready)

  begun_nothing : (direction : Direction) → BeginsDirection options first size direction → Nothing direction
  begun_nothing direction b =
      record { cumulative = ap (λ (t : TrackerState). t.cumulative) b.tracker; ranges = ap (λ (t : TrackerState). t.ranges) b.tracker; reassembly = b.reassembly; read = b.read; performed = b.performed }

  -- Where nothing was sent nothing was received.
  pub unsent_nothing : (direction : Direction) → DirectionRun options first size direction → HasSentNothing direction → HasReceivedNothing options first size direction
  unsent_nothing _ (begins direction b) s = begun_nothing direction b
  unsent_nothing _ (goes_on old direction run step) s =
      let before : HasSentNothing old = nothing_before old direction step s in
      nothing_after old direction step before (unsent_nothing old run before)
  unsent_nothing _ (starts old queued sender_queues beginning run awaited fit waits flight zeros) s =
      let h = unsent_nothing old run (record { sent = s.sent; asked = s.asked }) in
      record { cumulative = h.cumulative; ranges = h.ranges; reassembly = h.reassembly; read = h.read; performed = h.performed }

-- ---- another receiver

-- The receiver that has received nothing may be another one that has received nothing.
pub received_elsewhere : (options : Options) (first size : ℕ) (direction other : Direction) → DirectionRun options first size direction → direction.tracker ≡ new_tracker options first → direction.reassembly ≡ new_reassembly size (part_overhead options) → direction.read ≡ [] → direction.performed ≡ []
    → HasReceivedNothing options first size other → DirectionRun options first size (record direction { tracker = other.tracker; reassembly = other.reassembly; read = other.read; performed = other.performed })
received_elsewhere options first size direction other run tracker reassembly read performed h =
    let moved : DirectionRun options first size (record direction { tracker = other.tracker }) =
    goes_on direction (record direction { tracker = other.tracker }) run
    (tracks other.tracker (h.cumulative ∙ ap (λ (t : TrackerState). t.cumulative) (sym tracker)) (h.ranges ∙ ap (λ (t : TrackerState). t.ranges) (sym tracker))) in
    subst (λ (r : ReassemblyState). DirectionRun options first size (record direction { tracker = other.tracker; reassembly = r; read = other.read; performed = other.performed })) (reassembly ∙ sym h.reassembly)
    (subst (λ (l : List MessageContent). DirectionRun options first size (record direction { tracker = other.tracker; read = l; performed = other.performed })) (read ∙ sym h.read)
    (subst (λ (l : List PerformedReset). DirectionRun options first size (record direction { tracker = other.tracker; performed = l })) (performed ∙ sym h.performed) moved))

-- ---- what is in flight goes to another peer

pub kept_goes : (options other : Options) (first size now peer_first_tsn window : ℕ) (direction : Direction) (transfer : Transfer) → direction.queues.transfer ≡ Some transfer → DirectionRun options first size direction
    → DirectionRun options first size (record direction { queues = record direction.queues { transfer = Some (transfer_kept now other peer_first_tsn window transfer) } })
kept_goes options other first size now peer_first_tsn window direction transfer there run =
    let lost : DirectionRun options first size (record direction { queues = record direction.queues { transfer = Some (lost_all now transfer) } }) = goes_on direction _ run (loses now transfer there) in
    goes_on (record direction { queues = record direction.queues { transfer = Some (lost_all now transfer) } }) _ lost
    (turns_aside (lost_all now transfer) (transfer_kept now other peer_first_tsn window transfer) refl (record { outstanding = refl; reset_begun = refl }))
