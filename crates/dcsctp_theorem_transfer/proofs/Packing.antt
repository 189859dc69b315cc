-- Each outstanding item fits a packet, at each socket of an honest run.
use Rattle.std.proofs.Common.{◌≡◌, ◌≤◌, ◌+◌, ◌-◌, ℕ, zero, suc, nat_lt, Bool, true, false, if◌then◌else◌, Option, None, Some, List, [], ◌∷◌, ◌++◌, drop, length, inl, inr, refl, sym, ap, ◌∙◌, subst, arith}
use Rattle.std.specs.List.{AllByRecursion}
use Rattle.std.specs.Option.{option_map}
use Rattle.dcsctp_spec_lemmas.specs.wire.Content.{SackContent}
use Rattle.dcsctp_spec_lemmas.specs.wire.declared.chunk.sack.GapAckBlock.{GapAckBlock}
use Rattle.dcsctp_spec_lemmas.specs.types.Settings.{SameOptions, packet_size_limit}
use Rattle.dcsctp_spec_lemmas.specs.types.declared.options.Options.{Options}
use Rattle.dcsctp_spec_lemmas.specs.types.declared.progress.Change.{Change}
use Rattle.dcsctp_spec_lemmas.specs.types.declared.progress.Change.TheVariants.{SendAgain, Miss, Mark, Acknowledge, Abandon}
use Rattle.dcsctp_spec_lemmas.specs.types.queues.Messages.{MessageContent}
use Rattle.dcsctp_spec_lemmas.specs.spec.Packet.{Emission}
use Rattle.dcsctp_spec_lemmas.specs.spec.endpoint.BegunResets.{retransmission_begun}
use Rattle.dcsctp_spec_lemmas.specs.spec.endpoint.DataOutcomes.{taken_to, opens_window, hastened_where_open, with_messages}
use Rattle.dcsctp_spec_lemmas.specs.spec.endpoint.Endpoint.{Endpoint, Core}
use Rattle.dcsctp_spec_lemmas.specs.spec.endpoint.FlushOutcomes.{Ask, Answer, Gives, FillsIfAllowed, GivesUpThenForwards, ForwardMade, stage_of}
use Rattle.dcsctp_spec_lemmas.specs.spec.endpoint.TransferMoves.{TakesSack}
use Rattle.dcsctp_spec_lemmas.specs.spec.queues.Abandoning.{GivesUpFirst}
use Rattle.dcsctp_spec_lemmas.specs.spec.queues.Acknowledging.{covered_items, lossy, missed_until, exiting, AcknowledgesItems, acknowledged_until, without_first_items, opens, probes_lost, window_after_settling}
use Rattle.dcsctp_spec_lemmas.specs.spec.queues.AtOnce.{empty_stage, SendsAtOnce}
use Rattle.dcsctp_spec_lemmas.specs.spec.queues.Filling.{Stage, ClosesMessage, GivesUpItem, SendsMarked, SendsNew, MayAdd, StepAgain, StepNew, StageSteps, none, more, resent_packet_counted, FillsPacket, payload_room}
use Rattle.dcsctp_spec_lemmas.specs.spec.queues.ItemMessages.{EndsDropped}
use Rattle.dcsctp_spec_lemmas.specs.spec.queues.Items.{Item, chunk_size, item_size, marked_items, changed_between}
use Rattle.dcsctp_spec_lemmas.specs.spec.queues.Outstanding.{OutstandingState, header_of, header, tsn_at, acknowledged_count, reported_items}
use Rattle.dcsctp_spec_lemmas.specs.spec.queues.Retransmission.{RetransmissionState, with_items}
use Rattle.dcsctp_spec_lemmas.specs.spec.queues.SendQueue.{SendQueueState}
use Rattle.dcsctp_spec_lemmas.specs.spec.queues.Sending.{Fragment}
use Rattle.dcsctp_spec_lemmas.specs.spec.queues.Transfer.{Transfer}
use Rattle.dcsctp_spec_lemmas.proofs.PackingLemmas.{size_fits, taken_at_most}
use Rattle.dcsctp_spec_runs.specs.Laws.{SocketsKeepOptions}
use Rattle.dcsctp_spec_runs.specs.Sockets.{of_side, turns_after, endpoint_after}
use Rattle.dcsctp_theorem_transfer.specs.Packing.{ItemsFit, FitsPackets, SocketsFitPackets}
use Rattle.dcsctp_theorem_transfer.proofs.Extending.{counted_same, begun_same, timed_same}
use Rattle.dcsctp_theorem_transfer.proofs.Layers.{Keeps, LayerIs}
use Rattle.dcsctp_theorem_transfer.proofs.TimedRuns.{received_same, forwarded_same}
use Rattle.dcsctp_theorem_transfer.proofs.Turns.{honest_run_is}

-- ---- items with a header of that size

abbrev Fit : ℕ → ℕ → List Item → Type 0
Fit room head items = AllByRecursion (λ (item : Item). item_size head item ≤ room) items

changed_fit : (room head : ℕ) (change : Change) (start end : ℕ) (items : List Item) → Fit room head items → Fit room head (changed_between change start end items)
changed_fit room head change zero zero items h = h
changed_fit room head change zero (suc end) [] h = tt
changed_fit room head change zero (suc end) (item ∷ items) h = (h.0, changed_fit room head change zero end items h.1)
changed_fit room head change (suc start) zero items h = h
changed_fit room head change (suc start) (suc end) [] h = tt
changed_fit room head change (suc start) (suc end) (item ∷ items) h = (h.0, changed_fit room head change start end items h.1)

reported_fit : (room head count : ℕ) (blocks : List GapAckBlock) (items : List Item) → Fit room head items → Fit room head (reported_items count blocks items)
reported_fit room head count [] items h = h
reported_fit room head count (block ∷ blocks) items h =
    reported_fit room head count blocks (changed_between Acknowledge (count + block.start - 1) (count + block.end) items)
    (changed_fit room head Acknowledge (count + block.start - 1) (count + block.end) items h)

dropped_fit : (room head count : ℕ) (items : List Item) → Fit room head items → Fit room head (drop count items)
dropped_fit room head zero items h = h
dropped_fit room head (suc count) [] h = tt
dropped_fit room head (suc count) (item ∷ items) h = dropped_fit room head count items h.1

added_fit : (room head : ℕ) (items : List Item) (last : Item) → Fit room head items → item_size head last ≤ room → Fit room head (items ++ last ∷ [])
added_fit room head [] last h fits = (fits, tt)
added_fit room head (item ∷ items) last h fits = (h.0, added_fit room head items last h.1 fits)

header_small : (is_interleaved : Bool) → header_of is_interleaved ≤ 20
header_small true = omega arith
header_small false = omega arith

-- ---- while a packet is filled, whose room is no more than that

record FitsStage (room : ℕ) (stage : Stage) : Type 0 where
  items : ItemsFit room stage.queue.outstanding
  left : stage.room ≤ room

-- The same is outstanding, and there is no more room.
same_stage : (room : ℕ) (old new : Stage) → new.queue.outstanding ≡ old.queue.outstanding → new.room ≡ old.room → FitsStage room old → FitsStage room new
same_stage room old new same rooms h = record { items = subst (ItemsFit room) (sym same) h.items; left = subst (λ (n : ℕ). n ≤ room) (sym rooms) h.left }

dropped_rest : (room now : ℕ) (begins : Bool) (last : Item) (old new : OutstandingState) (b : Bool) → 20 ≤ room → ItemsFit room old → EndsDropped now begins last old new b → ItemsFit room new
dropped_rest room now begins last old new true least h does =
    let small : header_of old.is_interleaved ≤ 20 = header_small old.is_interleaved in
    let empty : item_size (header old) does.item ≡ header old = (let size = ap (λ (f : Fragment). chunk_size (header old) (length f.payload)) does.is_end.is in omega (arith, size)) in
    subst (ItemsFit room) (sym does.grows) (added_fit room (header old) old.items does.item h (omega (arith, small, least, empty)))
dropped_rest room now begins last old new false least h does = subst (ItemsFit room) (sym does) h

closes_fits : (room now : ℕ) (last : Item) (old new : Stage) (b : Bool) → 20 ≤ room → FitsStage room old → ClosesMessage now last old new b → FitsStage room new
closes_fits room now last old new true least h does = same_stage room old new (ap (λ (s : Stage). s.queue.outstanding) does) (ap (λ (s : Stage). s.room) does) h
closes_fits room now last old new false least h (inl does) =
    let rest : ItemsFit room does.1.outstanding =
    dropped_rest room now old.queue.reset_begun last old.queue.outstanding does.1.outstanding does.1.drops.is_dropped least h.items does.1.drops.ends in
    record {
      items = subst (ItemsFit room) (sym (ap (λ (s : Stage). s.queue.outstanding) does.1.is)) rest;
      left = subst (λ (n : ℕ). n ≤ room) (sym (ap (λ (s : Stage). s.room) does.1.is)) h.left;
    }
closes_fits room now last old new false least h (inr does) = same_stage room old new (ap (λ (s : Stage). s.queue.outstanding) does.1) (ap (λ (s : Stage). s.room) does.1) h

gives_up_fits : (room now place : ℕ) (old new : Stage) → 20 ≤ room → FitsStage room old → GivesUpItem now place old new → FitsStage room new
gives_up_fits room now place old new least h does =
    let closed : FitsStage room does.closed = closes_fits room now does.last old does.closed does.last.fragment.is_end least h does.closes in
    subst (FitsStage room) (sym does.is)
    (record {
      items = changed_fit room (header does.closed.queue.outstanding) Abandon does.start (does.last_place + 1) does.closed.queue.outstanding.items closed.items;
      left = closed.left;
    })

steps_fit : (room : ℕ) (Step : Stage → Stage → Type 0) → ((old new : Stage) → FitsStage room old → Step old new → FitsStage room new) → (old new : Stage) → FitsStage room old → StageSteps Step old new
    → FitsStage room new
steps_fit room Step step old _ h none = h
steps_fit room Step step old new h (more between _ steps last) = step between new (steps_fit room Step step old between h steps) last

given_up_fits : (room : ℕ) (b : Bool) (now : ℕ) (transfer : Transfer) (for_forward : ℕ) (old new : Stage) (made : ForwardMade) → 20 ≤ room → FitsStage room old
    → GivesUpThenForwards b now transfer for_forward old new made → FitsStage room new
given_up_fits room false now transfer for_forward old new made least h does = subst (FitsStage room) (sym does.0) h
given_up_fits room true now transfer for_forward old new made least h does =
    steps_fit room (GivesUpFirst now) (λ from to fits step. gives_up_fits room now step.place from to least fits step.gives_up) old new h does.0.steps

marked_fits : (room now : ℕ) (old new : Stage) → FitsStage room old → SendsMarked now old new → FitsStage room new
marked_fits room now old new h does =
    subst (FitsStage room) (sym does.is)
    (record {
      items = changed_fit room (header old.queue.outstanding) (SendAgain _) does.place (does.place + 1) old.queue.outstanding.items h.items;
      left = (let left = h.left in omega (arith, left));
    })

again_fits : (room now : ℕ) → 20 ≤ room → (old new : Stage) → FitsStage room old → StepAgain now old new → FitsStage room new
again_fits room now least old new h (inl does) = marked_fits room now old new h does.1
again_fits room now least old new h (inr does) = gives_up_fits room now does.place old new least h does.gives_up

new_fits : (room now : ℕ) (old new : Stage) → FitsStage room old → MayAdd old → SendsNew now old new → FitsStage room new
new_fits room now old new h may does =
    let head : ℕ = header old.queue.outstanding in
    let at_most : length does.item.fragment.payload ≤ payload_room head old.room =
    taken_at_most (payload_room head old.room) old.waiting old.told now does.item.fragment new.waiting new.told does.takes in
    let fits : item_size head does.item ≤ old.room = size_fits head old.room (length does.item.fragment.payload) may.fits at_most in
    subst (FitsStage room) (sym does.is)
    (record {
      items = added_fit room head old.queue.outstanding.items does.item h.items (let left = h.left in omega (arith, fits, left));
      left = (let left = h.left in omega (arith, left));
    })

anew_fits : (room now : ℕ) (old new : Stage) → FitsStage room old → StepNew now old new → FitsStage room new
anew_fits room now old new h (may, inl does) = new_fits room now old new h may does
anew_fits room now old new h (may, inr does) = same_stage room old new (ap (λ (s : Stage). s.queue.outstanding) does.is) (ap (λ (s : Stage). s.room) does.is) h

fills_fits : (room now : ℕ) (old new : Stage) → 20 ≤ room → FitsStage room old → FillsPacket now old new → FitsStage room new
fills_fits room now old new least h does =
    let resent : Stage = does.fills.resent in
    let counted : Stage = resent_packet_counted old.room resent in
    let again : FitsStage room resent = steps_fit room (StepAgain now) (again_fits room now least) old resent h does.fills.again in
    let before : FitsStage room counted = same_stage room resent counted (counted_same (old.room - resent.room) resent.queue) refl again in
    let sent : FitsStage room does.sent = steps_fit room (StepNew now) (anew_fits room now) counted does.sent before does.fills.anew in
    same_stage room does.sent new (ap (λ (s : Stage). s.queue.outstanding) does.is) (ap (λ (s : Stage). s.room) does.is) sent

allowed_fits : (room : ℕ) (b : Bool) (now : ℕ) (old new : Stage) → 20 ≤ room → FitsStage room old → FillsIfAllowed b now old new → FitsStage room new
allowed_fits room true now old new least h does = fills_fits room now old new least h does
allowed_fits room false now old new least h (inl same) = subst (FitsStage room) (sym same) h
allowed_fits room false now old new least h (inr does) = fills_fits room now old new least h does

gave_fits : (room : ℕ) (ask : Ask) (e : Endpoint) (draft : Emission) (t : Transfer) (answer : Answer) → 20 ≤ room → packet_size_limit e.options - 12 ≤ room → ItemsFit room t.retransmission.outstanding
    → (gave : Gives ask e draft t answer) → ItemsFit room gave.sent.queue.outstanding
gave_fits room ask e draft t answer least limit h gave =
    let begins : Stage = stage_of e.queues.queue t.retransmission [] 0 in
    let given : FitsStage room gave.gave_up =
    given_up_fits room _ e.moment t _ begins gave.gave_up _ least (record { items = h; left = omega arith }) gave.gives_up in
    let begun : RetransmissionState = retransmission_begun answer.begun gave.gave_up.queue in
    let items : ItemsFit room begun.outstanding = subst (ItemsFit room) (sym (begun_same answer.begun gave.gave_up.queue)) given.items in
    (allowed_fits room _ e.moment _ gave.sent least (record { items = items; left = omega (arith, limit) }) gave.fills).items

resent_fits : (room now bytes : ℕ) (waiting : SendQueueState) (old new : RetransmissionState) (tsns : List ℕ) → ItemsFit room old.outstanding → SendsAtOnce now bytes waiting old new tsns
    → ItemsFit room new.outstanding
resent_fits room now bytes waiting old new tsns h does =
    let begun : Stage = empty_stage (record old { fast_retransmit_due = false }) waiting bytes in
    let ended : Stage = record (empty_stage does.resent waiting does.room) { tsns = tsns } in
    subst (ItemsFit room) (sym (ap (λ (r : RetransmissionState). r.outstanding) does.is ∙ counted_same (bytes - does.room) does.resent))
    (marked_steps begun ended h does.steps)
  where
    marked_steps : (from to : Stage) → ItemsFit room from.queue.outstanding → StageSteps (SendsMarked now) from to → ItemsFit room to.queue.outstanding
    marked_steps from _ fit none = fit
    marked_steps from to fit (more between _ steps last) =
        subst (λ (s : Stage). ItemsFit room s.queue.outstanding) (sym last.is)
        (changed_fit room (header between.queue.outstanding) (SendAgain _) last.place (last.place + 1) between.queue.outstanding.items (marked_steps from between fit steps))

-- ---- what is acknowledged and lost

missed_fits : (room count limit : ℕ) (newest : Option ℕ) (state : RetransmissionState) → ItemsFit room state.outstanding → ItemsFit room (missed_until count limit newest state).outstanding
missed_fits room count limit newest state h = go (nat_lt (marked_items state.outstanding.items) (marked_items (changed_between (Miss newest) count limit state.outstanding.items)))
  where
    go : (b : Bool) → let items = changed_between (Miss newest) count limit state.outstanding.items in ItemsFit room (if b then lossy (with_items items state) else with_items items state).outstanding
    go true = changed_fit room (header state.outstanding) (Miss newest) count limit state.outstanding.items h
    go false = changed_fit room (header state.outstanding) (Miss newest) count limit state.outstanding.items h

settled_fits : (room now window count : ℕ) (state : RetransmissionState) → ItemsFit room state.outstanding → ItemsFit room (window_after_settling now window count state).outstanding
settled_fits room now window count state h = go (opens state (record state { peer_window = window }))
  where
    go : (b : Bool) → ItemsFit room (probes_lost b (record state { peer_window = window })).outstanding
    go true = changed_fit room (header state.outstanding) Mark 0 (length state.outstanding.items) state.outstanding.items h
    go false = h

items_fit : (room now cumulative window : ℕ) (blocks : List GapAckBlock) (old new : RetransmissionState) → ItemsFit room old.outstanding → AcknowledgesItems now cumulative window blocks old new
    → ItemsFit room new.outstanding
items_fit room now cumulative window blocks old new h does =
    let count : ℕ = acknowledged_count old.outstanding cumulative in
    let newest : Option ℕ = option_map (tsn_at old.outstanding) does.newest in
    let leaving : RetransmissionState = exiting cumulative old in
    let covered : RetransmissionState = with_items (covered_items count blocks leaving.outstanding.items) leaving in
    let missed : RetransmissionState = missed_until count does.limit newest covered in
    let reported : ItemsFit room covered.outstanding =
    reported_fit room (header old.outstanding) count blocks (changed_between Acknowledge 0 count old.outstanding.items)
    (changed_fit room (header old.outstanding) Acknowledge 0 count old.outstanding.items h) in
    let left : ItemsFit room (without_first_items count missed).outstanding =
    dropped_fit room (header missed.outstanding) count missed.outstanding.items (missed_fits room count does.limit newest covered reported) in
    subst (λ (r : RetransmissionState). ItemsFit room r.outstanding) (sym does.is)
    (settled_fits room now window count (acknowledged_until count blocks does.limit newest leaving) left)

sack_fits : (room now : ℕ) (sack : SackContent) (old new : Transfer) → ItemsFit room old.retransmission.outstanding → TakesSack now sack old new → ItemsFit room new.retransmission.outstanding
sack_fits room now sack old new h does =
    subst (λ (t : Transfer). ItemsFit room t.retransmission.outstanding) (sym does.is)
    (subst (ItemsFit room) (sym (timed_same does.round_trip (record old { retransmission = does.left })))
    (items_fit room now sack.cumulative_tsn_ack sack.a_rwnd does.blocks old.retransmission does.left h does.acknowledges))

lost_fits : (room : ℕ) (state : OutstandingState) → ItemsFit room state → Fit room (header state) (changed_between Mark 0 (length state.items) state.items)
lost_fits room state h = changed_fit room (header state) Mark 0 (length state.items) state.items h

taken_same : (options : Options) (now : ℕ) (messages : List MessageContent) (t : Transfer) → (taken_to options now messages t).retransmission ≡ t.retransmission
taken_same options now messages t = go (opens_window options t (with_messages messages t))
  where
    go : (b : Bool) → (hastened_where_open b now (with_messages messages t)).retransmission ≡ t.retransmission
    go true = refl
    go false = refl

-- ---- a run

-- The options allow a packet with a header.
abbrev AllowsHeader : Options → Type 0
AllowsHeader options = 32 ≤ packet_size_limit options

abbrev FittingLayer : Options → Transfer → Type 0
FittingLayer options t = AllowsHeader options → ItemsFit (packet_size_limit options - 12) t.retransmission.outstanding

abbrev RetransmissionFits : Options → RetransmissionState → Type 0
RetransmissionFits options state = ItemsFit (packet_size_limit options - 12) state.outstanding

fitting_kept : Keeps (Unit {0}) (Unit {0}) ⊥ FittingLayer FittingLayer
fitting_kept =
    record {
      weaker = λ options t h. h;
      begins = λ options kinds first peer window allows. tt;
      changes_peer = λ options now peer window t h allows. lost_fits (packet_size_limit options - 12) t.retransmission.outstanding (h allows);
      restores = λ may options now state t restores. absurd may;
      sets_longest = λ options bytes t h. h;
      gives = λ ask e draft t answer h gave allows. gave_fits (packet_size_limit e.options - 12) ask e draft t answer (omega (arith, allows)) (omega arith) (h allows) gave;
      resends = λ options now bytes waiting t left tsns h does allows. resent_fits (packet_size_limit options - 12) now bytes waiting t.retransmission left tsns (h allows) does;
      acknowledges = λ options now sack old new h does allows. sack_fits (packet_size_limit options - 12) now sack old new (h allows) does;
      loses = λ options now t h allows. lost_fits (packet_size_limit options - 12) t.retransmission.outstanding (h allows);
      receives = λ may options arrival old new h does allows. subst (RetransmissionFits options) (sym (received_same _ arrival old new does)) (h allows);
      forwards = λ may options tsn entries old new h does allows. subst (RetransmissionFits options) (sym (forwarded_same _ tsn entries old new does)) (h allows);
      delays = λ may options t h. h;
      ends = λ options now t h due. h;
      answers = λ options now t h. h;
      times = λ options round_trip t h allows. subst (ItemsFit (packet_size_limit options - 12)) (sym (timed_same round_trip t)) (h allows);
      takes = λ options now messages t h allows. subst (RetransmissionFits options) (sym (taken_same options now messages t)) (h allows);
      resets = λ options reassembly t h. h;
    }

holds : (own options : Options) (core : Core) (t : Option Transfer) → SameOptions own options → AllowsHeader own → LayerIs FittingLayer core options t → FitsPackets own t
holds own options core None same allows h = tt
holds own options core (Some t) same allows h =
    let now : Options = record own { max_message_size = options.max_message_size } in
    let kept : FittingLayer now t = subst (λ (o : Options). FittingLayer o t) same h.1 in
    kept allows

pub sockets_fit_packets : SocketsKeepOptions → SocketsFitPackets
sockets_fit_packets law options run is honest side valid =
    let e : Endpoint = endpoint_after (of_side side options) (of_side side (turns_after run)) in
    holds (of_side side options) e.options e.core e.queues.transfer (law.run options run is side) valid.least_size (honest_run_is FittingLayer fitting_kept options run is honest side)
