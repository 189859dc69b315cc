-- While a packet is filled, each of its TSNs is that of an item, and their chunks take up what its room has lost.
use Rattle.std.proofs.Common.{◌≡◌, inl, inr, ℕ, ◌+◌, ◌-◌, ◌^◌, ◌≤◌, min, Bool, true, false, nat_lt, if◌then◌else◌, List, [], ◌∷◌, ◌++◌, length, drop, refl, sym, ap, subst, arith}
use Rattle.std.proofs.lemmas.List.{length-take}
use Rattle.dcsctp_spec.specs.types.declared.progress.Change.TheVariants.{SendAgain, Abandon}
use Rattle.dcsctp_spec.specs.endpoint.Event.{Event}
use Rattle.dcsctp_spec.specs.queues.Filling.{Stage, ClosesMessage, GivesUpItem, SendsMarked, SendsNew, MayAdd, StepAgain, StepNew, StageSteps, none as no_step, more as one_more_step, payload_room, resent_packet_counted, FillsStage, FillsPacket}
use Rattle.dcsctp_spec.specs.queues.ItemMessages.{EndsDropped}
use Rattle.dcsctp_spec.specs.queues.Items.{Item, chunk_size, item_size, changed_between}
use Rattle.dcsctp_spec.specs.queues.Outstanding.{OutstandingState, header, next_tsn, tsn_at}
use Rattle.dcsctp_spec.specs.queues.SendQueue.{SendQueueState}
use Rattle.dcsctp_spec.specs.queues.Sending.{Fragment, TakesFragment, size_produced}
use Rattle.dcsctp_spec_lemmas.proofs.PackedLemmas.{fragments_changed, fragments_pushed, last_pushed, Grows, grows_same, grows_then, grows_to, tsn_stays, IsTsnOf, IsPacked, packed_grows, packed_more}

-- ---- steps

grows_end : (now : ℕ) (begins : Bool) (last : Item) (old new : OutstandingState) (dropped : Bool) → EndsDropped now begins last old new dropped → Grows old new
grows_end now begins last old new true ends = rw ends.grows (grows_to old (old.items ++ ends.item ∷ []) (fragments_pushed old.items ends.item))
grows_end now begins last old new false same = grows_same old new same

-- A message that is given up loses no item, and adds nothing to the packet.
record Keeps (old new : Stage) : Type 0 where
  pub grows : Grows old.queue.outstanding new.queue.outstanding
  pub tsns : new.tsns ≡ old.tsns
  pub room : new.room ≡ old.room

keeps_same : (old new : Stage) → new ≡ old → Keeps old new
keeps_same old new same =
    record { grows = grows_same old.queue.outstanding new.queue.outstanding (ap (λ (s : Stage). s.queue.outstanding) same); tsns = ap (λ (s : Stage). s.tsns) same; room = ap (λ (s : Stage). s.room) same }

keeps_closed : (now : ℕ) (last : Item) (old closed : Stage) (is_end : Bool) → ClosesMessage now last old closed is_end → Keeps old closed
keeps_closed now last old closed true is =
    record {
      grows = grows_same old.queue.outstanding closed.queue.outstanding (ap (λ (s : Stage). s.queue.outstanding) is);
      tsns = ap (λ (s : Stage). s.tsns) is;
      room = ap (λ (s : Stage). s.room) is;
    }
keeps_closed now last old closed false (inl (few, drops)) =
    let same = ap (λ (s : Stage). s.queue.outstanding) drops.is in
    record {
      grows = grows_then old.queue.outstanding drops.outstanding closed.queue.outstanding (grows_end now old.queue.reset_begun last old.queue.outstanding drops.outstanding drops.drops.is_dropped drops.drops.ends)
          (grows_same drops.outstanding closed.queue.outstanding same);
      tsns = ap (λ (s : Stage). s.tsns) drops.is;
      room = ap (λ (s : Stage). s.room) drops.is;
    }
keeps_closed now last old closed false (inr (many, same)) = keeps_same old closed same

packed_given_up : (now room place : ℕ) (old new : Stage) → GivesUpItem now place old new → IsPacked room old → IsPacked room new
packed_given_up now room place old new up packed =
    let keeps = keeps_closed now up.last old up.closed up.last.fragment.is_end up.closes in
    let items : List Item = changed_between Abandon up.start (up.last_place + 1) up.closed.queue.outstanding.items in
    let after = packed_grows room old up.closed keeps.grows keeps.tsns keeps.room packed in
    packed_grows room up.closed new
    (grows_then up.closed.queue.outstanding (record up.closed.queue.outstanding { items = items }) new.queue.outstanding
    (grows_to up.closed.queue.outstanding items (fragments_changed Abandon up.start (up.last_place + 1) up.closed.queue.outstanding.items))
    (grows_same (record up.closed.queue.outstanding { items = items }) new.queue.outstanding (ap (λ (s : Stage). s.queue.outstanding) up.is)))
    (ap (λ (s : Stage). s.tsns) up.is) (ap (λ (s : Stage). s.room) up.is) after

packed_marked_by : (now room : ℕ) (old new : Stage) → SendsMarked now old new → IsPacked room old → IsPacked room new
packed_marked_by now room old new sends packed =
    let outstanding : OutstandingState = old.queue.outstanding in
    let items : List Item = changed_between (SendAgain (next_tsn outstanding)) sends.place (sends.place + 1) outstanding.items in
    let grows = grows_to outstanding items (fragments_changed (SendAgain (next_tsn outstanding)) sends.place (sends.place + 1) outstanding.items) in
    let of : IsTsnOf outstanding (tsn_at outstanding sends.place) (item_size (header outstanding) sends.next.marked.item) =
    record { place = sends.place; item = sends.next.marked.item; at = sends.next.marked.at; is = refl; size_is = refl } in
    let kept = tsn_stays outstanding (record outstanding { items = items }) (tsn_at outstanding sends.place) (item_size (header outstanding) sends.next.marked.item) grows of in
    subst (IsPacked room) (sym sends.is)
    (packed_more room (tsn_at outstanding sends.place) (item_size (header outstanding) sends.next.marked.item) old
    (record old {
      queue = record old.queue { outstanding = record outstanding { items = items } };
      tsns = old.tsns ++ tsn_at outstanding sends.place ∷ [];
      room = old.room - item_size (header outstanding) sends.next.marked.item;
    })
    grows kept sends.fits refl refl packed)

packed_again_by : (now room : ℕ) (old new : Stage) → StepAgain now old new → IsPacked room old → IsPacked room new
packed_again_by now room old new (inl (allowed, sends)) packed = packed_marked_by now room old new sends packed
packed_again_by now room old new (inr up) packed = packed_given_up now room up.place old new up.gives_up packed

-- Where a word of payload fits, one of at most this many bytes fits with its header and padding.
pub size_fits : (header room len : ℕ) → header + 4 ≤ room → len ≤ payload_room header room → chunk_size header len ≤ room
size_fits header room len some at_most = omega arith

-- The send queue gives no more than it is asked for.
pub taken_at_most : (max : ℕ) (old : SendQueueState) (told : List (Event (List ℕ))) (now : ℕ) (part : Fragment) (new : SendQueueState) (telling : List (Event (List ℕ)))
    → TakesFragment now max old told part new telling → length part.payload ≤ max
taken_at_most max old told now part new telling takes =
    let same = ap (λ (f : Fragment). length f.payload) takes.is in
    let size = length-take (size_produced max takes.message takes.under_way) (drop takes.under_way.sent takes.message.payload) in
    omega (arith, same, size)

packed_new : (now room : ℕ) (old new : Stage) → MayAdd old → SendsNew now old new → IsPacked room old → IsPacked room new
packed_new now room old new may sends packed =
    let outstanding : OutstandingState = old.queue.outstanding in
    let items : List Item = outstanding.items ++ sends.item ∷ [] in
    let size : ℕ = item_size (header outstanding) sends.item in
    let at_most = taken_at_most (payload_room (header outstanding) old.room) old.waiting old.told now sends.item.fragment new.waiting new.told sends.takes in
    let fits : size ≤ old.room = size_fits (header outstanding) old.room (length sends.item.fragment.payload) may.fits at_most in
    subst (IsPacked room) (sym sends.is)
    (packed_more room (next_tsn outstanding) size old
    (record old {
      queue = record old.queue { outstanding = record outstanding { items = items }; reset_begun = false };
      waiting = new.waiting;
      told = new.told;
      tsns = old.tsns ++ next_tsn outstanding ∷ [];
      room = old.room - size;
    })
    (grows_to outstanding items (fragments_pushed outstanding.items sends.item))
    (record { place = length outstanding.items; item = sends.item; at = last_pushed outstanding.items sends.item; is = refl; size_is = refl })
    fits refl refl packed)

packed_anew_by : (now room : ℕ) (old new : Stage) → StepNew now old new → IsPacked room old → IsPacked room new
packed_anew_by now room old new (may, inl sends) packed = packed_new now room old new may sends packed
packed_anew_by now room old new (may, inr finds) packed =
    packed_grows room old new (grows_same old.queue.outstanding new.queue.outstanding (ap (λ (s : Stage). s.queue.outstanding) finds.is)) (ap (λ (s : Stage). s.tsns) finds.is) (ap (λ (s : Stage). s.room) finds.is) packed

packed_steps : (Step : Stage → Stage → Type 0) (room : ℕ) → ((old new : Stage) → Step old new → IsPacked room old → IsPacked room new) → (old new : Stage) → StageSteps Step old new → IsPacked room old
    → IsPacked room new
packed_steps Step room one old new no_step packed = packed
packed_steps Step room one old new (one_more_step between new' steps step) packed = one between new' step (packed_steps Step room one old between steps packed)

-- ---- the whole

-- an empty packet
pub packed_none : (stage : Stage) → stage.tsns ≡ [] → IsPacked stage.room stage
packed_none stage empty = record { used = 0; tsns = rw empty refl; sum = omega arith }

pub packed_again : (now room : ℕ) (old new : Stage) → StageSteps (StepAgain now) old new → IsPacked room old → IsPacked room new
packed_again now room old new steps packed = packed_steps (StepAgain now) room (packed_again_by now room) old new steps packed

-- whatever the windows are
pub packed_marked : (now room : ℕ) (old new : Stage) → StageSteps (SendsMarked now) old new → IsPacked room old → IsPacked room new
packed_marked now room old new steps packed = packed_steps (SendsMarked now) room (packed_marked_by now room) old new steps packed

pub packed_anew : (now room : ℕ) (old new : Stage) → StageSteps (StepNew now) old new → IsPacked room old → IsPacked room new
packed_anew now room old new steps packed = packed_steps (StepNew now) room (packed_anew_by now room) old new steps packed

pub packed_counting : (bytes room : ℕ) (stage : Stage) → IsPacked room stage → IsPacked room (resent_packet_counted bytes stage)
packed_counting bytes room stage packed =
    packed_grows room stage (resent_packet_counted bytes stage) (grows_same stage.queue.outstanding (resent_packet_counted bytes stage).queue.outstanding (go (nat_lt 0 (bytes - stage.room)))) refl refl packed
  where
    go : (b : Bool) → (if b then record stage.queue { packets_retransmitted = min (stage.queue.packets_retransmitted + 1) (2 ^ 64 - 1); bytes_retransmitted = min (stage.queue.bytes_retransmitted + (bytes - stage.room)) (2 ^ 64 - 1) } else stage.queue).outstanding ≡ stage.queue.outstanding
    go true = refl
    go false = refl

pub packed_filled : (now room : ℕ) (old new : Stage) → FillsStage now old new → IsPacked room old → IsPacked room new
packed_filled now room old new fills packed =
    packed_anew now room (resent_packet_counted old.room fills.resent) new fills.anew (packed_counting old.room room fills.resent (packed_again now room old fills.resent fills.again packed))

-- The timer counts for nothing.
pub packed_packet : (now room : ℕ) (old new : Stage) → FillsPacket now old new → IsPacked room old → IsPacked room new
packed_packet now room old new fills packed =
    packed_grows room fills.sent new (grows_same fills.sent.queue.outstanding new.queue.outstanding (ap (λ (s : Stage). s.queue.outstanding) fills.is)) (ap (λ (s : Stage). s.tsns) fills.is) (ap (λ (s : Stage). s.room) fills.is)
    (packed_filled now room old fills.sent fills.fills packed)
