-- What each step of a flush does, by whether an allocation failed.
use Rattle.dcsctp_transfer.specs.spec.queues.SendQueue.{has_queued_data, SendQueueState}
use Rattle.dcsctp_core.proofs.FirstLemmas.{Forwarded, BeforeData, fills_first, forwarded_where, transfer_is, before_data, begun_in_view, fills_behind, handed_of, until_of, same_view}
use Rattle.dcsctp_core.specs.Flushing.{AcknowledgesInQueues, CutsAsk, FillsResetRequest, FillsWith, ForwardsInTime, HasNoData, AddsFirstOfData, AddsFirstOfForward, TriesData, can_queues_send, packet_for}
use Rattle.dcsctp_transfer.specs.Filling.{FillsRequestedSack, is_sack_wanted}
use Rattle.std.proofs.Common.{◌≡◌, Bool, Err, IsOk, List, None, Ok, Option, Result, Some, [], ap, append_assoc, false, refl, subst, sym, true, ℕ, ◌++◌, ◌||◌, ◌∙◌}
use Rattle.dcsctp_transfer.specs.spec.endpoint.FlushOutcomes.{FillsIfAllowed, filled_draft, first_ask, later_ask, may_abandon, may_forward, room_of_draft, stage_of}
use Rattle.dcsctp_transfer.specs.wire_build.Building.{Building, bytes_remaining}
use Rattle.dcsctp_transfer.specs.spec.Packet.{Emission}
use Rattle.dcsctp_transfer.specs.spec.endpoint.Endpoint.{Endpoint}
use Rattle.dcsctp_transfer.specs.spec.endpoint.Event.{Event}
use Rattle.dcsctp_transfer.proofs.spec_lemmas.FilledAnswers.{GivesUntilFull, answer_filling}
use Rattle.dcsctp_transfer.specs.spec.queues.Abandoning.{GivesUpAll}
use Rattle.dcsctp_transfer.specs.spec.queues.Retransmission.{RetransmissionState}
use Rattle.dcsctp_transfer.specs.spec.queues.Transfer.{Transfer, is_idle, may_give}
use Rattle.dcsctp_core.specs.declared.context.Context.{Context}
use Rattle.dcsctp_core.specs.declared.state.State.{State}
use Rattle.dcsctp_core.specs.View.{View, endpoint_of, transfer_of, view_of}
use Rattle.dcsctp_core.proofs.CutLemmas.{abandoning_completes, cut_untold, cut_within, gave_up_completes}
use Rattle.std.proofs.lemmas.List.{append-nil}
use Rattle.dcsctp_core.proofs.FillLemmas.{idle_parts, idle_until, later_until, room_is_left, same_draft}

-- ---- a later packet

-- Where an allocation failed, something was asked for.
busy_by : (b : Bool) (queue : SendQueueState) (transfer : Transfer) → is_idle queue transfer ≡ b → (is_idle queue transfer ≡ true → ⊥) → is_idle queue transfer ≡ false
busy_by false queue transfer is not_idle = is
busy_by true queue transfer is not_idle = absurd (not_idle is)

pub later_cut : {R : Type 0} (found : Option Transfer) (old new : View R) (draft : Emission) (packet : Building) → old.endpoint.queues.transfer ≡ found → packet ≡ packet_for old.endpoint.options draft
    → (HasNoData old.endpoint.queues.queue found → ⊥) → AddsFirstOfData found old packet new → CutsAsk later_ask old draft new.events
later_cut None old new draft packet holds is some tells = cut_untold later_ask old draft new.events tells
later_cut (Some transfer) old new draft packet holds is some tells =
    let e : Endpoint = old.endpoint in
    let room : bytes_remaining packet ≡ room_of_draft e (filled_draft draft []) = room_is_left e (filled_draft draft []) packet (is ∙ ap (packet_for e.options) (sym (same_draft draft))) in
    let u : GivesUntilFull later_ask e draft transfer =
    later_until e draft transfer tells.sent
    (subst (λ (n : ℕ). FillsIfAllowed (may_give e.queues.queue transfer.retransmission) e.moment (stage_of e.queues.queue transfer.retransmission [] n) tells.sent) room tells.fills) in
    let busy : is_idle e.queues.queue transfer ≡ false = busy_by (is_idle e.queues.queue transfer) e.queues.queue transfer refl (λ idle. some (idle_parts e.queues.queue transfer idle).0) in
    cut_within later_ask old draft new.events u.sent.told tells.tells.front tells.tells.rest (answer_filling later_ask e draft transfer u holds busy) tells.tells.parts tells.tells.told

-- ---- a FORWARD-TSN

forward_cut : {R : Type 0} (old : Context R) (found : Option Transfer) (along : Bool) (state : State) (draft : Emission) (packet acked : Building) (new : View R) → transfer_of old.state ≡ found
    → AcknowledgesInQueues found along old.state packet state acked → AddsFirstOfForward (transfer_of state) (view_of (record old { state = state })) new → CutsAsk first_ask (view_of old) draft new.events
forward_cut {R = R} old None along state draft packet acked new holds ack tells =
    let none : transfer_of state ≡ None = ap transfer_of ack.0 ∙ holds in
    cut_untold first_ask (view_of old) draft new.events (subst (λ (f : Option Transfer). AddsFirstOfForward f (view_of (record old { state = state })) new) none tells)
forward_cut {R = R} old (Some transfer) along state draft packet acked new holds ack tells =
    let e : Endpoint = endpoint_of old in
    let mid : Transfer = ack.0 in
    let here : AddsFirstOfForward (Some mid) (view_of (record old { state = state })) new =
    subst (λ (f : Option Transfer). AddsFirstOfForward f (view_of (record old { state = state })) new) (ap transfer_of ack.1 ∙ transfer_is old.state transfer mid holds) tells in
    let t = here.1 in
    let gives_up : GivesUpAll e.moment (stage_of e.queues.queue transfer.retransmission [] 0) t.gave_up =
    subst (λ (r : RetransmissionState). GivesUpAll e.moment (stage_of e.queues.queue r [] 0) t.gave_up) (unchanged (is_sack_wanted along transfer) mid ack.2) t.gives_up in
    cut_within first_ask (view_of old) draft new.events t.gave_up.told t.tells.front t.tells.rest
    (abandoning_completes (may_abandon transfer.retransmission) e draft transfer t.gave_up holds here.0 refl gives_up) t.tells.parts t.tells.told
  where
    unchanged : (b : Bool) (mid : Transfer) → FillsRequestedSack b transfer packet mid acked → mid.retransmission ≡ transfer.retransmission
    unchanged true mid h = ap (λ (t : Transfer). t.retransmission) h.0
    unchanged false mid h = ap (λ (t : Transfer). t.retransmission) h.0

pub forward_refused : {R : Type 0} (packet acked : Building) (old : Context R) (along : Bool) (state : State) (draft : Emission) (new : Context R)
    → AcknowledgesInQueues (transfer_of old.state) along old.state packet state acked → AddsFirstOfForward (transfer_of state) (view_of (record old { state = state })) (view_of new)
    → CutsAsk first_ask (view_of old) draft (view_of new).events
forward_refused packet acked old along state draft new ack tells = forward_cut old (transfer_of old.state) along state draft packet acked (view_of new) refl ack tells

-- ---- a reset

reset_cut : {R : Type 0} (old : Context R) (found : Option Transfer) (along : Bool) (state : State) (draft : Emission) (packet acked given_packet : Building) (given : View R) (events : List (Event (List ℕ)))
    → transfer_of old.state ≡ found → along ≡ (has_queued_data old.send_queue || can_queues_send found) → packet ≡ packet_for old.options draft → AcknowledgesInQueues found along old.state packet state acked
    → ForwardsInTime (transfer_of state) (view_of (record old { state = state })) acked given given_packet → events ≡ given.events → CutsAsk first_ask (view_of old) draft events
reset_cut {R = R} old None along state draft packet acked given_packet given events holds is built ack forward same =
    let up : ForwardsInTime None (view_of old) acked given given_packet =
    subst (λ (f : Option Transfer). ForwardsInTime f (view_of old) acked given given_packet) holds
    (subst (λ (s : State). ForwardsInTime (transfer_of s) (view_of (record old { state = s })) acked given given_packet) ack.0 forward) in
    cut_untold first_ask (view_of old) draft events (same ∙ ap (λ (v : View R). v.events) up.0)
reset_cut {R = R} old (Some transfer) along state draft packet acked given_packet given events holds is built ack forward same =
    let e : Endpoint = endpoint_of old in
    let f : Forwarded (view_of old) draft transfer given given_packet = forwarded_where old transfer along state draft given packet acked given_packet holds is built ack forward in
    cut_within first_ask (view_of old) draft events f.gave_up.told f.gave_up.told []
    (gave_up_completes (may_forward first_ask e transfer.retransmission) e draft transfer _ f.gave_up f.next f.forwards holds refl f.gives_up)
    (sym (append-nil f.gave_up.told)) (same ∙ ap (λ (v : View R). v.events) f.view)

pub reset_refused : {R : Type 0} (packet acked given_packet : Building) (old : Context R) (along : Bool) (state : State) (given : Context R) (draft : Emission) (events : List (Event (List ℕ)))
    → along ≡ (has_queued_data old.send_queue || can_queues_send (transfer_of old.state)) → packet ≡ packet_for old.options draft
    → AcknowledgesInQueues (transfer_of old.state) along old.state packet state acked → ForwardsInTime (transfer_of state) (view_of (record old { state = state })) acked (view_of given) given_packet
    → events ≡ (view_of given).events → CutsAsk first_ask (view_of old) draft events
reset_refused packet acked given_packet old along state given draft events is built ack forward same =
    reset_cut old (transfer_of old.state) along state draft packet acked given_packet (view_of given) events refl is built ack forward same

-- ---- data

data_cut : {R : Type 0} (old : Context R) (found : Option Transfer) (along : Bool) (state : State) (draft : Emission) (packet acked given_packet request_packet : Building) (given here new : View R)
    → transfer_of old.state ≡ found → along ≡ (has_queued_data old.send_queue || can_queues_send found) → packet ≡ packet_for old.options draft → AcknowledgesInQueues found along old.state packet state acked
    → ForwardsInTime (transfer_of state) (view_of (record old { state = state })) acked given given_packet → FillsResetRequest given.endpoint.queues.transfer given given_packet here request_packet
    → (HasNoData here.endpoint.queues.queue here.endpoint.queues.transfer → ⊥) → AddsFirstOfData here.endpoint.queues.transfer here request_packet new → CutsAsk first_ask (view_of old) draft new.events
data_cut {R = R} old None along state draft packet acked given_packet request_packet given here new holds is built ack forward begin some tells =
    let same = same_view old along state given here packet acked given_packet request_packet holds ack forward begin in
    cut_untold first_ask (view_of old) draft new.events
    (subst (λ (f : Option Transfer). AddsFirstOfData f (view_of old) request_packet new) holds (subst (λ (v : View R). AddsFirstOfData v.endpoint.queues.transfer v request_packet new) same.0 tells))
data_cut {R = R} old (Some transfer) along state draft packet acked given_packet request_packet given here new holds is built ack forward begin some tells =
    let e : Endpoint = endpoint_of old in
    let d : BeforeData (view_of old) draft transfer here request_packet =
    before_data (view_of old) draft transfer given here given_packet request_packet (forwarded_where old transfer along state draft given packet acked given_packet holds is built ack forward) begin in
    let begun_view : View R = begun_in_view (view_of old) d.up.next d.up.gave_up (record transfer { tracker = d.up.tracker }) d.begun (handed_of d) in
    let t : AddsFirstOfData begun_view.endpoint.queues.transfer begun_view request_packet new = subst (λ (v : View R). AddsFirstOfData v.endpoint.queues.transfer v request_packet new) d.view tells in
    let u : GivesUntilFull first_ask e draft transfer =
    until_of (view_of old) draft transfer here request_packet d t.sent (fills_behind (view_of old) draft transfer here request_packet d t.sent t.fills) in
    let nothing : is_idle e.queues.queue transfer ≡ true → HasNoData begun_view.endpoint.queues.queue begun_view.endpoint.queues.transfer = λ idle.
    let n = idle_until first_ask e draft transfer u idle in (n.no_data, n.no_items) in
    let busy : is_idle e.queues.queue transfer ≡ false =
    busy_by (is_idle e.queues.queue transfer) e.queues.queue transfer refl
    (λ idle. some (subst (λ (v : View R). HasNoData v.endpoint.queues.queue v.endpoint.queues.transfer) (sym d.view) (nothing idle))) in
    cut_within first_ask (view_of old) draft new.events u.sent.told (d.up.gave_up.told ++ t.tells.front) t.tells.rest (answer_filling first_ask e draft transfer u holds busy)
    (ap (λ (es : List (Event (List ℕ))). d.up.gave_up.told ++ es) t.tells.parts ∙ sym (append_assoc d.up.gave_up.told t.tells.front t.tells.rest))
    (t.tells.told ∙ append_assoc (view_of old).events d.up.gave_up.told t.tells.front)

pub first_returns : {R E : Type 0} (packet acked given_packet request_packet filled_draft : Building) (old : Context R) (along : Bool) (state : State) (given begun : Context R) (result : Result (Unit {0}) E) (new : Context R)
    → along ≡ (has_queued_data old.send_queue || can_queues_send (transfer_of old.state)) → AcknowledgesInQueues (transfer_of old.state) along old.state packet state acked
    → ForwardsInTime (transfer_of state) (view_of (record old { state = state })) acked (view_of given) given_packet
    → FillsResetRequest (transfer_of given.state) (view_of given) given_packet (view_of begun) request_packet
    → TriesData request_packet begun result new filled_draft → (HasNoData begun.send_queue (transfer_of begun.state) → IsOk result) → FillsWith first_ask packet old result new filled_draft
first_returns packet acked given_packet request_packet filled_draft old along state given begun (Ok done) new is ack forward begin h idle =
    λ draft built. fills_first old along state draft (view_of given) (view_of begun) (view_of new) packet acked given_packet request_packet filled_draft is built ack forward begin h
first_returns packet acked given_packet request_packet filled_draft old along state given begun (Err error) new is ack forward begin h idle =
    λ draft built. data_cut old (transfer_of old.state) along state draft packet acked given_packet request_packet (view_of given) (view_of begun) (view_of new) refl is built ack forward begin
    (λ none. cc (idle none)) h
