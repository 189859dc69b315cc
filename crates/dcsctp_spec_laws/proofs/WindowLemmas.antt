-- What is in flight grows by a chunk only where less than the window is in flight.
use Rattle.std.proofs.Common.{◌≡◌, inl, inr, ℕ, zero, suc, ◌==◌, ◌+◌, ◌-◌, ◌^◌, ◌≤◌, nat_lt, min, max, Bool, true, false, ◌&&◌, ◌||◌, if◌then◌else◌, Some, List, [], ◌∷◌, ◌++◌, length, refl, sym, ◌∙◌, ap, subst, arith}
use Rattle.std.specs.Prelude.{slice_get}
use Rattle.std.proofs.lemmas.Bool.Decides.{nat_tests}
use Rattle.std.proofs.lemmas.List.Sums.{sum_by-cons}
use Rattle.dcsctp_spec_lemmas.specs.types.declared.progress.Change.{Change}
use Rattle.dcsctp_spec_lemmas.specs.types.declared.progress.Change.TheVariants.{SendAgain, Abandon}
use Rattle.dcsctp_spec_lemmas.specs.types.declared.progress.Progress.{Progress}
use Rattle.dcsctp_spec_lemmas.specs.types.queues.Progress.{is_in_flight, progress_changed}
use Rattle.dcsctp_spec_lemmas.specs.spec.queues.Filling.{Stage, ClosesMessage, GivesUpItem, SendsMarked, SendsNew, MayAdd, StepAgain, StepNew, StageSteps, none as no_step, more as one_more_step, payload_room, resent_packet_counted, FillsStage, FillsPacket}
use Rattle.dcsctp_spec_lemmas.specs.spec.queues.ItemMessages.{EndsDropped}
use Rattle.dcsctp_spec_lemmas.specs.spec.queues.Items.{Item, number_or_zero, item_size, in_flight_size, bytes_in_flight, changed_item, changed_between}
use Rattle.dcsctp_spec_lemmas.specs.spec.queues.Outstanding.{OutstandingState, header, next_tsn}
use Rattle.dcsctp_spec_lemmas.specs.spec.queues.Retransmission.{RetransmissionState, chunk_bytes_in_flight, can_send}
use Rattle.dcsctp_spec_lemmas.proofs.PackingLemmas.{size_fits, taken_at_most}
use Rattle.dcsctp_spec_laws.specs.WindowLaws.{most_in_flight, PacketsKeepWindow}

-- ---- sums

-- The change leaves no item in flight.
abbrev Lands : Change → Type 0
Lands change = (progress : Progress) → is_in_flight (progress_changed change progress).state ≡ false

flight_at_most : (change : Change) → Lands change → (head start end : ℕ) (items : List Item)
    → bytes_in_flight head (changed_between change start end items) ≤ bytes_in_flight head items
flight_at_most change lands head zero zero items = omega arith
flight_at_most change lands head zero (suc end) [] = omega arith
flight_at_most change lands head zero (suc end) (x ∷ xs) =
    let later = flight_at_most change lands head zero end xs in
    let here = ap (λ (b : Bool). number_or_zero b (item_size head x)) (lands x.progress) in
    let old = sum_by-cons (in_flight_size head) x xs in
    let new = sum_by-cons (in_flight_size head) (changed_item change x) (changed_between change zero end xs) in
    omega (arith, later, here, old, new)
flight_at_most change lands head (suc start) zero items = omega arith
flight_at_most change lands head (suc start) (suc end) [] = omega arith
flight_at_most change lands head (suc start) (suc end) (x ∷ xs) =
    let later = flight_at_most change lands head start end xs in
    let old = sum_by-cons (in_flight_size head) x xs in
    let new = sum_by-cons (in_flight_size head) x (changed_between change start end xs) in
    omega (arith, later, old, new)

counted_at_most : (b : Bool) (n : ℕ) → number_or_zero b n ≤ n
counted_at_most true n = omega arith
counted_at_most false n = omega arith

-- One item that changes adds its size at most.
flight_one : (change : Change) (head start end : ℕ) (items : List Item) (item : Item) → end ≡ start + 1 → slice_get items start ≡ Some item
    → bytes_in_flight head (changed_between change start end items) ≤ bytes_in_flight head items + item_size head item
flight_one change head zero zero items item one at = absurd (omega (arith, one))
flight_one change head zero (suc end) [] item one at = absurd (cc)
flight_one change head zero (suc zero) (x ∷ xs) item one at =
    let same : x ≡ item = cc in
    let size = ap (λ (y : Item). item_size head y) same in
    let here = counted_at_most (is_in_flight (progress_changed change x.progress).state) (item_size head x) in
    let old = sum_by-cons (in_flight_size head) x xs in
    let new = sum_by-cons (in_flight_size head) (changed_item change x) xs in
    omega (arith, size, here, old, new)
flight_one change head zero (suc (suc end)) (x ∷ xs) item one at = absurd (omega (arith, one))
flight_one change head (suc start) zero items item one at = absurd (omega (arith, one))
flight_one change head (suc start) (suc end) [] item one at = absurd (cc)
flight_one change head (suc start) (suc end) (x ∷ xs) item one at =
    let later = flight_one change head start end xs item (omega (arith, one)) at in
    let old = sum_by-cons (in_flight_size head) x xs in
    let new = sum_by-cons (in_flight_size head) x (changed_between change start end xs) in
    omega (arith, later, old, new)

-- One more item adds what it has in flight.
flight_more : (head : ℕ) (items : List Item) (item : Item)
    → bytes_in_flight head (items ++ item ∷ []) ≡ bytes_in_flight head items + in_flight_size head item
flight_more head [] item = let one = sum_by-cons (in_flight_size head) item [] in omega (arith, one)
flight_more head (x ∷ xs) item =
    let later = flight_more head xs item in
    let old = sum_by-cons (in_flight_size head) x xs in
    let new = sum_by-cons (in_flight_size head) x (xs ++ item ∷ []) in
    omega (arith, later, old, new)

-- ---- steps

-- The windows stay, and no more is in flight than before or than a chunk in that much room may lead to.
pub record Keeps (old new : Stage) : Type 0 where
  pub cwnd : new.queue.congestion.cwnd ≡ old.queue.congestion.cwnd
  pub peer : new.queue.peer_window ≡ old.queue.peer_window
  pub room : new.room ≤ old.room
  pub flight : chunk_bytes_in_flight new.queue ≤ max (chunk_bytes_in_flight old.queue) (most_in_flight old.queue old.room)

pub keeps_refl : (stage : Stage) → Keeps stage stage
keeps_refl stage = record { cwnd = refl; peer = refl; room = omega arith; flight = omega arith }

pub keeps_same : (old new : Stage) → new ≡ old → Keeps old new
keeps_same old new same = subst (λ (s : Stage). Keeps old s) (sym same) (keeps_refl old)

pub keeps_then : (a b c : Stage) → Keeps a b → Keeps b c → Keeps a c
keeps_then a b c first later =
    record {
      cwnd = later.cwnd ∙ first.cwnd;
      peer = later.peer ∙ first.peer;
      room = omega (arith, first.room, later.room);
      flight = omega (arith, first.cwnd, first.peer, first.room, first.flight, later.flight);
    }

-- Less than the window is in flight where a chunk may go, or nothing is.
may_send : (flight cwnd peer : ℕ) → ((flight == 0) || (nat_lt flight cwnd && nat_lt flight peer)) ≡ true → flight ≤ min cwnd peer - 1
may_send flight cwnd peer may = grind (arith, nat_tests)

ends_flight : (now : ℕ) (begins : Bool) (last : Item) (old new : OutstandingState) (dropped : Bool) → EndsDropped now begins last old new dropped
    → bytes_in_flight (header new) new.items ≤ bytes_in_flight (header old) old.items
ends_flight now begins last old new false same = rw same (omega arith)
ends_flight now begins last old new true ends =
    let more = flight_more (header old) old.items ends.item in
    let none : in_flight_size (header old) ends.item ≡ 0 = ap
    (λ (p : Progress). number_or_zero (is_in_flight p.state) (item_size (header old) ends.item)) ends.is_end.progress in
    rw ends.grows (omega (arith, more, none))

keeps_closed : (now : ℕ) (last : Item) (old closed : Stage) (is_end : Bool) → ClosesMessage now last old closed is_end → Keeps old closed
keeps_closed now last old closed true is =
    subst (λ (s : Stage). Keeps old s) (sym is)
    (record { cwnd = refl; peer = refl; room = omega arith; flight = omega arith })
keeps_closed now last old closed false (inl (few, drops)) =
    let flight = ends_flight now old.queue.reset_begun last old.queue.outstanding drops.outstanding drops.drops.is_dropped drops.drops.ends in
    subst (λ (s : Stage). Keeps old s) (sym drops.is) (record { cwnd = refl; peer = refl; room = omega arith; flight = omega (arith, flight) })
keeps_closed now last old closed false (inr (many, same)) = keeps_same old closed same

pub keeps_given_up : (now place : ℕ) (old new : Stage) → GivesUpItem now place old new → Keeps old new
keeps_given_up now place old new up =
    let closed : Stage = up.closed in
    let flight = flight_at_most Abandon (λ progress. refl) (header closed.queue.outstanding) up.start
    (up.last_place + 1) closed.queue.outstanding.items in
    keeps_then old closed new (keeps_closed now up.last old closed up.last.fragment.is_end up.closes)
    (subst (λ (s : Stage). Keeps closed s) (sym up.is) (record { cwnd = refl; peer = refl; room = omega arith; flight = omega (arith, flight) }))

keeps_marked : (now : ℕ) (old new : Stage) → can_send old.queue ≡ true → SendsMarked now old new → Keeps old new
keeps_marked now old new may sends =
    let outstanding : OutstandingState = old.queue.outstanding in
    let less = may_send (chunk_bytes_in_flight old.queue) old.queue.congestion.cwnd old.queue.peer_window may in
    let flight = flight_one (SendAgain (next_tsn outstanding)) (header outstanding) sends.place
    (sends.place + 1) outstanding.items sends.next.marked.item refl sends.next.marked.at in
    subst (λ (s : Stage). Keeps old s) (sym sends.is)
    (record { cwnd = refl; peer = refl; room = omega arith; flight = omega (arith, less, flight, sends.fits) })

keeps_again : (now : ℕ) (old new : Stage) → StepAgain now old new → Keeps old new
keeps_again now old new (inl (may, sends)) = keeps_marked now old new may sends
keeps_again now old new (inr up) = keeps_given_up now up.place old new up.gives_up

keeps_new : (now : ℕ) (old new : Stage) → MayAdd old → SendsNew now old new → Keeps old new
keeps_new now old new may sends =
    let outstanding : OutstandingState = old.queue.outstanding in
    let less = may_send (chunk_bytes_in_flight old.queue) old.queue.congestion.cwnd old.queue.peer_window may.allowed in
    let at_most = taken_at_most
    (payload_room (header outstanding) old.room) old.waiting old.told now sends.item.fragment new.waiting new.told sends.takes in
    let fits = size_fits (header outstanding) old.room (length sends.item.fragment.payload) may.fits at_most in
    let here = counted_at_most (is_in_flight sends.item.progress.state) (item_size (header outstanding) sends.item) in
    let more = flight_more (header outstanding) outstanding.items sends.item in
    subst (λ (s : Stage). Keeps old s) (sym sends.is)
    (record { cwnd = refl; peer = refl; room = omega arith; flight = omega (arith, less, fits, here, more) })

keeps_anew : (now : ℕ) (old new : Stage) → StepNew now old new → Keeps old new
keeps_anew now old new (may, inl sends) = keeps_new now old new may sends
keeps_anew now old new (may, inr finds) =
    subst (λ (s : Stage). Keeps old s) (sym finds.is)
    (record { cwnd = refl; peer = refl; room = omega arith; flight = omega arith })

pub keeps_steps : (Step : Stage → Stage → Type 0) → ((old new : Stage) → Step old new → Keeps old new) → (old new : Stage) → StageSteps Step old new
    → Keeps old new
keeps_steps Step one old new no_step = keeps_refl old
keeps_steps Step one old new (one_more_step between new' steps step) =
    keeps_then old between new' (keeps_steps Step one old between steps)
    (one between new' step)

-- ---- the whole

-- What was sent again is counted.
abbrev counted_where : Bool → ℕ → RetransmissionState → RetransmissionState
counted_where b size queue =
    if b
    then record queue {
      packets_retransmitted = min (queue.packets_retransmitted + 1) (2 ^ 64 - 1);
      bytes_retransmitted = min (queue.bytes_retransmitted + size) (2 ^ 64 - 1);
    }
    else queue

keeps_counting : (bytes : ℕ) (stage : Stage) → Keeps stage (resent_packet_counted bytes stage)
keeps_counting bytes stage = go (nat_lt 0 (bytes - stage.room))
  where
    go : (b : Bool) → Keeps stage (record stage { queue = counted_where b (bytes - stage.room) stage.queue })
    go true = record { cwnd = refl; peer = refl; room = omega arith; flight = omega arith }
    go false = keeps_refl stage

pub keeps_packet : (now : ℕ) (old new : Stage) → FillsPacket now old new → Keeps old new
keeps_packet now old new fills =
    let stages : FillsStage now old fills.sent = fills.fills in
    keeps_then old fills.sent new
    (keeps_then old stages.resent fills.sent (keeps_steps (StepAgain now) (keeps_again now) old stages.resent stages.again)
    (keeps_then stages.resent (resent_packet_counted old.room stages.resent) fills.sent (keeps_counting old.room stages.resent)
    (keeps_steps (StepNew now) (keeps_anew now) (resent_packet_counted old.room stages.resent) fills.sent stages.anew)))
    (subst (λ (s : Stage). Keeps fills.sent s) (sym fills.is) (record { cwnd = refl; peer = refl; room = omega arith; flight = omega arith }))

pub packets_keep_window : PacketsKeepWindow
packets_keep_window now old new fills = (keeps_packet now old new fills).flight
