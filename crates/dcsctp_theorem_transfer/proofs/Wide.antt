-- The congestion window has room for a packet at each socket of an honest run.
use Rattle.std.proofs.Common.{◌≡◌, ◌-◌, ℕ, nat_lt, Bool, true, false, if◌then◌else◌, Option, None, Some, List, [], inl, inr, refl, sym, ap, ◌∙◌, subst, arith}
use Rattle.std.specs.Option.{option_map}
use Rattle.dcsctp_spec_lemmas.specs.wire.Content.{SackContent}
use Rattle.dcsctp_spec_lemmas.specs.wire.declared.chunk.sack.GapAckBlock.{GapAckBlock}
use Rattle.dcsctp_spec_lemmas.specs.types.Settings.{SameOptions}
use Rattle.dcsctp_spec_lemmas.specs.types.declared.congestion.CongestionControl.{CongestionControl}
use Rattle.dcsctp_spec_lemmas.specs.types.declared.options.Options.{Options}
use Rattle.dcsctp_spec_lemmas.specs.types.declared.progress.Change.TheVariants.{Miss}
use Rattle.dcsctp_spec_lemmas.specs.types.queues.Messages.{MessageContent}
use Rattle.dcsctp_spec_lemmas.specs.types.queues.Congestion.{exit_after}
use Rattle.dcsctp_spec_lemmas.specs.spec.Packet.{Emission}
use Rattle.dcsctp_spec_lemmas.specs.spec.endpoint.BegunResets.{BegunReset, retransmission_begun}
use Rattle.dcsctp_spec_lemmas.specs.spec.endpoint.DataOutcomes.{taken_to, opens_window, hastened_where_open, with_messages}
use Rattle.dcsctp_spec_lemmas.specs.spec.endpoint.Endpoint.{Endpoint, Core}
use Rattle.dcsctp_spec_lemmas.specs.spec.endpoint.FlushOutcomes.{Ask, Answer, Gives, FillsIfAllowed, GivesUpThenForwards, ForwardMade, stage_of}
use Rattle.dcsctp_spec_lemmas.specs.spec.endpoint.TransferMoves.{timed_transfer, TakesSack}
use Rattle.dcsctp_spec_lemmas.specs.spec.queues.Abandoning.{GivesUpFirst}
use Rattle.dcsctp_spec_lemmas.specs.spec.queues.Acknowledging.{covered_items, lossy, missed_until, exiting, AcknowledgesItems, acknowledged_until, congestion_acknowledgement, without_first_items, opens, probes_lost, window_after_settling}
use Rattle.dcsctp_spec_lemmas.specs.spec.queues.AtOnce.{empty_stage, SendsAtOnce}
use Rattle.dcsctp_spec_lemmas.specs.spec.queues.Filling.{Stage, ClosesMessage, GivesUpItem, SendsMarked, StepAgain, StepNew, StageSteps, none, more, resent_packet_counted, FillsPacket}
use Rattle.dcsctp_spec_lemmas.specs.spec.queues.Items.{Item, marked_items, changed_between}
use Rattle.dcsctp_spec_lemmas.specs.spec.queues.Outstanding.{tsn_at, acknowledged_count}
use Rattle.dcsctp_spec_lemmas.specs.spec.queues.Retransmission.{RetransmissionState, with_items, counted_again}
use Rattle.dcsctp_spec_lemmas.specs.spec.queues.SendQueue.{SendQueueState}
use Rattle.dcsctp_spec_lemmas.specs.spec.queues.Transfer.{Transfer}
use Rattle.dcsctp_spec_runs.specs.Laws.{SocketsKeepOptions}
use Rattle.dcsctp_spec_runs.specs.Sockets.{of_side, turns_after, endpoint_after}
use Rattle.dcsctp_theorem_transfer.specs.Windows.{HoldsPacket, SocketsHoldPacket}
use Rattle.dcsctp_theorem_transfer.proofs.Controls.{Allows, IsWide, new_wide, acknowledged_wide, lost_wide, timeout_wide, exit_wide, wide_holds}
use Rattle.dcsctp_theorem_transfer.proofs.Layers.{Keeps, LayerIs}
use Rattle.dcsctp_theorem_transfer.proofs.TimedRuns.{received_same, forwarded_same}
use Rattle.dcsctp_theorem_transfer.proofs.Turns.{honest_run_is}

-- ---- while packets are filled

-- It stays.
abbrev StaysWide : Stage → Stage → Type 0
StaysWide old new = new.queue.congestion ≡ old.queue.congestion

window_of : Stage → CongestionControl
window_of stage = stage.queue.congestion

closes_stays : (now : ℕ) (last : Item) (old new : Stage) (b : Bool) → ClosesMessage now last old new b → StaysWide old new
closes_stays now last old new true does = ap (λ (s : Stage). s.queue.congestion) does
closes_stays now last old new false (inl does) = ap (λ (s : Stage). s.queue.congestion) does.1.is
closes_stays now last old new false (inr does) = ap (λ (s : Stage). s.queue.congestion) does.1

gives_up_stays : (now place : ℕ) (old new : Stage) → GivesUpItem now place old new → StaysWide old new
gives_up_stays now place old new does =
    ap (λ (s : Stage). s.queue.congestion) does.is ∙ closes_stays now does.last old does.closed does.last.fragment.is_end does.closes

steps_stay : (Step : Stage → Stage → Type 0) → ((old new : Stage) → Step old new → StaysWide old new) → (old new : Stage) → StageSteps Step old new → StaysWide old new
steps_stay Step step old _ none = refl
steps_stay Step step old new (more between _ steps last) = step between new last ∙ steps_stay Step step old between steps

given_up_stays : (b : Bool) (now : ℕ) (transfer : Transfer) (room : ℕ) (old new : Stage) (made : ForwardMade) → GivesUpThenForwards b now transfer room old new made → StaysWide old new
given_up_stays false now transfer room old new made does = ap (λ (s : Stage). s.queue.congestion) does.0
given_up_stays true now transfer room old new made does =
    steps_stay (GivesUpFirst now) (λ from to step. gives_up_stays now step.place from to step.gives_up) old new does.0.steps

again_stays : (now : ℕ) (old new : Stage) → StepAgain now old new → StaysWide old new
again_stays now old new (inl does) = ap (λ (s : Stage). s.queue.congestion) does.1.is
again_stays now old new (inr does) = gives_up_stays now does.place old new does.gives_up

anew_stays : (now : ℕ) (old new : Stage) → StepNew now old new → StaysWide old new
anew_stays now old new (may, inl does) = ap (λ (s : Stage). s.queue.congestion) does.is
anew_stays now old new (may, inr does) = ap (λ (s : Stage). s.queue.congestion) does.is

counted_stays : (size : ℕ) (state : RetransmissionState) → (counted_again size state).congestion ≡ state.congestion
counted_stays size state = go (nat_lt 0 size) _ refl
  where
    go : (b : Bool) (one : RetransmissionState) → one.congestion ≡ state.congestion → (if b then one else state).congestion ≡ state.congestion
    go true one is = is
    go false one is = refl

fills_stays : (now : ℕ) (old new : Stage) → FillsPacket now old new → StaysWide old new
fills_stays now old new does =
    let counted : Stage = resent_packet_counted old.room does.fills.resent in
    ap (λ (s : Stage). s.queue.congestion) does.is
    ∙ steps_stay (StepNew now) (anew_stays now) counted does.sent does.fills.anew
    ∙ counted_stays (old.room - does.fills.resent.room) does.fills.resent.queue
    ∙ steps_stay (StepAgain now) (again_stays now) old does.fills.resent does.fills.again

allowed_stays : (b : Bool) (now : ℕ) (old new : Stage) → FillsIfAllowed b now old new → StaysWide old new
allowed_stays true now old new does = fills_stays now old new does
allowed_stays false now old new (inl same) = ap (λ (s : Stage). s.queue.congestion) same
allowed_stays false now old new (inr does) = fills_stays now old new does

begun_stays : (begun : Option BegunReset) (state : RetransmissionState) → (retransmission_begun begun state).congestion ≡ state.congestion
begun_stays None state = refl
begun_stays (Some begun) state = refl

gave_stays : (ask : Ask) (e : Endpoint) (draft : Emission) (t : Transfer) (answer : Answer) (gave : Gives ask e draft t answer) → gave.sent.queue.congestion ≡ t.retransmission.congestion
gave_stays ask e draft t answer gave =
    allowed_stays _ e.moment _ gave.sent gave.fills ∙ begun_stays answer.begun gave.gave_up.queue
    ∙ given_up_stays _ e.moment t _ (stage_of e.queues.queue t.retransmission [] 0) gave.gave_up _ gave.gives_up

resent_stays : (now bytes : ℕ) (waiting : SendQueueState) (old new : RetransmissionState) (tsns : List ℕ) → SendsAtOnce now bytes waiting old new tsns → new.congestion ≡ old.congestion
resent_stays now bytes waiting old new tsns does =
    ap (λ (r : RetransmissionState). r.congestion) does.is ∙ counted_stays (bytes - does.room) does.resent
    ∙ steps_stay (SendsMarked now) (λ from to step. ap (λ (s : Stage). s.queue.congestion) step.is) (empty_stage (record old { fast_retransmit_due = false }) waiting bytes)
    (record (empty_stage does.resent waiting does.room) { tsns = tsns }) does.steps

-- ---- what is acknowledged

missed_wide : (options : Options) (count limit : ℕ) (newest : Option ℕ) (state : RetransmissionState) → IsWide options state.congestion → IsWide options (missed_until count limit newest state).congestion
missed_wide options count limit newest state h = go (nat_lt (marked_items state.outstanding.items) (marked_items (changed_between (Miss newest) count limit state.outstanding.items)))
  where
    go : (b : Bool) → let items = changed_between (Miss newest) count limit state.outstanding.items in IsWide options (if b then lossy (with_items items state) else with_items items state).congestion
    go true = lost_wide options _ state.congestion h
    go false = h

settled_stays : (now window count : ℕ) (state : RetransmissionState) → (window_after_settling now window count state).congestion ≡ state.congestion
settled_stays now window count state = go (opens state (record state { peer_window = window }))
  where
    go : (b : Bool) → (probes_lost b (record state { peer_window = window })).congestion ≡ state.congestion
    go true = refl
    go false = refl

items_wide : (options : Options) (now cumulative window : ℕ) (blocks : List GapAckBlock) (old new : RetransmissionState) → IsWide options old.congestion
    → AcknowledgesItems now cumulative window blocks old new → IsWide options new.congestion
items_wide options now cumulative window blocks old new h does =
    let count : ℕ = acknowledged_count old.outstanding cumulative in
    let newest : Option ℕ = option_map (tsn_at old.outstanding) does.newest in
    let leaving : RetransmissionState = exiting cumulative old in
    let covered : RetransmissionState = with_items (covered_items count blocks leaving.outstanding.items) leaving in
    let left : RetransmissionState = without_first_items count (missed_until count does.limit newest covered) in
    let missed : IsWide options left.congestion =
    missed_wide options count does.limit newest covered (exit_wide options (exit_after cumulative old.congestion.recovery_exit) old.congestion h) in
    subst (λ (r : RetransmissionState). IsWide options r.congestion) (sym does.is)
    (subst (IsWide options) (sym (settled_stays now window count (acknowledged_until count blocks does.limit newest leaving)))
    (acknowledged_wide options (congestion_acknowledgement count leaving left) left.congestion missed))

timed_stays : (round_trip : Option ℕ) (t : Transfer) → (timed_transfer round_trip t).retransmission.congestion ≡ t.retransmission.congestion
timed_stays None t = refl
timed_stays (Some round_trip) t = refl

sack_wide : (options : Options) (now : ℕ) (sack : SackContent) (old new : Transfer) → IsWide options old.retransmission.congestion → TakesSack now sack old new → IsWide options new.retransmission.congestion
sack_wide options now sack old new h does =
    subst (λ (t : Transfer). IsWide options t.retransmission.congestion) (sym does.is)
    (subst (IsWide options) (sym (timed_stays does.round_trip (record old { retransmission = does.left })))
    (items_wide options now sack.cumulative_tsn_ack sack.a_rwnd does.blocks old.retransmission does.left h does.acknowledges))

taken_stays : (options : Options) (now : ℕ) (messages : List MessageContent) (t : Transfer) → (taken_to options now messages t).retransmission.congestion ≡ t.retransmission.congestion
taken_stays options now messages t = go (opens_window options t (with_messages messages t))
  where
    go : (b : Bool) → (hastened_where_open b now (with_messages messages t)).retransmission.congestion ≡ t.retransmission.congestion
    go true = refl
    go false = refl

-- ---- a run

abbrev WideLayer : Options → Transfer → Type 0
WideLayer options t = Allows options → IsWide options t.retransmission.congestion

set_wide : (options : Options) (bytes : ℕ) (control : CongestionControl) → (Allows options → IsWide options control) → Allows (record options { max_message_size = bytes })
    → IsWide (record options { max_message_size = bytes }) control
set_wide options bytes control h allows =
    let wide : IsWide options control = h (record { packet = record { initial = allows.packet.initial; least = allows.packet.least }; small = allows.small }) in
    record { within = wide.within; mtu = wide.mtu; least = wide.least }

wide_kept : Keeps (Unit {0}) (Unit {0}) ⊥ WideLayer WideLayer
wide_kept =
    record {
      weaker = λ options t h. h;
      begins = λ options kinds first peer window allows. new_wide options window allows;
      changes_peer = λ options now peer window t h allows. new_wide options window allows;
      restores = λ may options now state t restores. absurd may;
      sets_longest = λ options bytes t h. set_wide options bytes t.retransmission.congestion h;
      gives = λ ask e draft t answer h gave allows. subst (IsWide e.options) (sym (gave_stays ask e draft t answer gave)) (h allows);
      resends = λ options now bytes waiting t left tsns h does allows. subst (IsWide options) (sym (resent_stays now bytes waiting t.retransmission left tsns does)) (h allows);
      acknowledges = λ options now sack old new h does allows. sack_wide options now sack old new (h allows) does;
      loses = λ options now t h allows. timeout_wide options t.retransmission.congestion (h allows);
      receives = λ may options arrival old new h does allows. subst (λ (r : RetransmissionState). IsWide options r.congestion) (sym (received_same _ arrival old new does)) (h allows);
      forwards = λ may options tsn entries old new h does allows. subst (λ (r : RetransmissionState). IsWide options r.congestion) (sym (forwarded_same _ tsn entries old new does)) (h allows);
      delays = λ may options t h. h;
      ends = λ options now t h due. h;
      answers = λ options now t h. h;
      times = λ options round_trip t h allows. subst (IsWide options) (sym (timed_stays round_trip t)) (h allows);
      takes = λ options now messages t h allows. subst (IsWide options) (sym (taken_stays options now messages t)) (h allows);
      resets = λ options reassembly t h. h;
    }

holds : (own options : Options) (core : Core) (t : Option Transfer) → SameOptions own options → Allows own → LayerIs WideLayer core options t → HoldsPacket own t
holds own options core None same allows h = tt
holds own options core (Some t) same allows h =
    let now : Options = record own { max_message_size = options.max_message_size } in
    let kept : WideLayer now t = subst (λ (o : Options). WideLayer o t) same h.1 in
    let here : Allows now = record { packet = record { initial = allows.packet.initial; least = allows.packet.least }; small = allows.small } in
    wide_holds now t.retransmission.congestion here (kept here)

pub sockets_hold_packet : SocketsKeepOptions → SocketsHoldPacket
sockets_hold_packet law options run is honest side valid allow =
    let e : Endpoint = endpoint_after (of_side side options) (of_side side (turns_after run)) in
    holds (of_side side options) e.options e.core e.queues.transfer (law.run options run is side) (record { packet = allow; small = omega (arith, valid.greatest_size) })
    (honest_run_is WideLayer wide_kept options run is honest side)
