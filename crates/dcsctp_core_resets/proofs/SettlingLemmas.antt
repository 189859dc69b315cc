-- Our own request was answered: what becomes of it, and the user's events of it and of the peer's request.
use Rattle.std.proofs.Common.{◌≡◌, ℕ, Bool, true, false, Option, None, Some, Result, Ok, Err, List, [], ◌∷◌, ◌++◌, length, take, refl, sym, ap, subst, ◌∙◌, append_assoc}
use Rattle.std.specs.Option.{option_map}
use Rattle.std.proofs.lemmas.List.{append-nil}
use Rattle.dcsctp_core.specs.spec.endpoint.Event.{Event}
use Rattle.dcsctp_core.specs.spec.Reconfiguration.{RequestedReset}
use Rattle.dcsctp_core.specs.spec.queues.Transfer.{Transfer}
use Rattle.dcsctp_core.specs.spec.endpoint.Endpoint.{OutstandingRequest, cookie_echoed, open_in}
use Rattle.dcsctp_core.specs.spec.endpoint.Timers.{RunningTimer, started_timer}
use Rattle.dcsctp_core.specs.spec.endpoint.BegunResets.{reconfiguration_settings}
use Rattle.dcsctp_core.specs.spec.endpoint.ResetOutcomes.{OwnAnswer, unanswered, retried, was_performed, has_failed, waiting, own_streams}
use Rattle.dcsctp_core.specs.api.declared.events.SocketEvent.{SocketEvent}
use Rattle.dcsctp_core.specs.declared.context.Context.{Context}
use Rattle.dcsctp_core.specs.declared.state.CookieEchoState.{CookieEchoState}
use Rattle.dcsctp_core.specs.declared.state.OpenState.{OpenState}
use Rattle.dcsctp_core.specs.declared.state.State.{State}
use Rattle.dcsctp_core.specs.declared.transmission_control_block.ResetRequest.{ResetRequest}
use Rattle.dcsctp_core.specs.declared.transmission_control_block.TransmissionControlBlock.{TransmissionControlBlock}
use Rattle.dcsctp_core.specs.declared.state.State.TheVariants.{Closed, CookieWait, CookieEchoed, Open}
use Rattle.dcsctp_core.specs.View.{View, request_number, request_of, own_request, timer_of, held_of, phase_of_open, tcb_of, outstanding_of, transfer_of, view_of}
use Rattle.dcsctp_core.specs.spec.endpoint.Timers.{TimerModel}
use Rattle.dcsctp_core.specs.Answering.{delayed_request, Retries}
use Rattle.dcsctp_core.specs.Reconfiguring.{request_of_state, tcb_changed}
use Rattle.dcsctp_core.proofs.LendingLemmas.{within}
use Rattle.dcsctp_core_resets.specs.declared.requests.OwnAnswer.TheVariants as own
use Rattle.dcsctp_core_resets.specs.declared.requests.LastRequest.{LastRequest}
use Rattle.dcsctp_core_resets.specs.declared.requests.HandledRequests.{HandledRequests}
use Rattle.dcsctp_core_resets.specs.Requests.{held_out, own_kind}
use Rattle.dcsctp_core_resets.specs.Resets.{RetriesIfConnected, view_asked, view_without_errors, view_left, view_settled, own_reset_events, events_of_option, SettlesRequest, ReportsEvent, incoming_reset_events, TreatsReset, TreatsInQueues, both_reset_events, handled_reset_events, CarriesOutBoth}

-- ---- the request that is outstanding

number_none : (request : Option ResetRequest) → request_of request ≡ None → request_number request ≡ None
number_none None none = refl
number_none (Some request) none = absurd (cc)

pub none_numbered : (s : State) → outstanding_of s ≡ None → request_number (request_of_state s) ≡ None
none_numbered s none = number_none (request_of_state s) none

-- ---- an association that was lent

pub unchanged_nobody : (change : TransmissionControlBlock → TransmissionControlBlock) (state : State) → None ≡ tcb_of state → state ≡ tcb_changed change state
unchanged_nobody change Closed none = refl
unchanged_nobody change (CookieWait wait) none = refl
unchanged_nobody change (CookieEchoed echoed) none = absurd (cc)
unchanged_nobody change (Open opened) none = absurd (cc)

pub changed_lent : (change : TransmissionControlBlock → TransmissionControlBlock) (state : State) (tcb after : TransmissionControlBlock) → Some tcb ≡ tcb_of state → after ≡ change tcb
    → tcb_changed (λ _. after) state ≡ tcb_changed change state
changed_lent change Closed tcb after holds is = refl
changed_lent change (CookieWait wait) tcb after holds is = refl
changed_lent change (CookieEchoed echoed) tcb after holds is = ap (λ (t : TransmissionControlBlock). CookieEchoed (record echoed { tcb = t })) (is ∙ ap change (within holds))
changed_lent change (Open opened) tcb after holds is = ap (λ (t : TransmissionControlBlock). Open (record opened { tcb = t })) (is ∙ ap change (within holds))

-- ---- the last request of the peer

abbrev asked_of : LastRequest → TransmissionControlBlock → TransmissionControlBlock
asked_of last tcb = record tcb { last_processed_req_seq_nbr = last.number; last_processed_req_result = last.result }

asked_in : {R : Type 0} (old : Context R) (s : State) (last : LastRequest) → view_of (record old { state = tcb_changed (asked_of last) s }) ≡ view_asked last (view_of (record old { state = s }))
asked_in old Closed last = refl
asked_in old (CookieWait wait) last = refl
asked_in old (CookieEchoed echoed) last = refl
asked_in old (Open opened) last = refl

pub asked_lent : {R : Type 0} (old : Context R) (tcb : TransmissionControlBlock) (last : LastRequest) → Some tcb ≡ tcb_of old.state
    → view_of (record old { state = tcb_changed (λ _. asked_of last tcb) old.state }) ≡ view_asked last (view_of old)
asked_lent old tcb last holds =
    ap (λ (s : State). view_of (record old { state = s })) (changed_lent (asked_of last) old.state tcb (asked_of last tcb) holds refl)
    ∙ asked_in old old.state last

pub asked_nobody : {R : Type 0} (old : Context R) (last : LastRequest) → None ≡ tcb_of old.state → view_of old ≡ view_asked last (view_of old)
asked_nobody old last none = ap (λ (s : State). view_of (record old { state = s })) (unchanged_nobody (asked_of last) old.state none) ∙ asked_in old old.state last

-- ---- it is in progress

number_delayed : (timer : TimerModel) (request : Option ResetRequest) → request_number (option_map (delayed_request timer) request) ≡ request_number request
number_delayed timer None = refl
number_delayed timer (Some request) = refl

request_delayed : (timer : TimerModel) (request : Option ResetRequest) → request_of (option_map (delayed_request timer) request) ≡ option_map waiting (request_of request)
request_delayed timer None = refl
request_delayed timer (Some request) = refl

timer_delayed : (timer : TimerModel) (running : Option RunningTimer) (request : Option ResetRequest) → timer.running ≡ running → (request ≡ None → ⊥)
    → timer_of (option_map (delayed_request timer) request) ≡ running
timer_delayed timer running None runs some = absurd (some refl)
timer_delayed timer running (Some request) runs some = runs

-- the view with this request of ours and this timer
abbrev asking : {R : Type 0} → View R → Option OutstandingRequest → Option RunningTimer → View R
asking view request timer =
    record view { endpoint = record view.endpoint { outstanding = request; timers = record view.endpoint.timers { reconfiguration = timer } } }

-- the view once it is in progress, but for the count of errors
abbrev retried_at : {R : Type 0} → View R → View R
retried_at view = asking view (option_map waiting view.endpoint.outstanding) (started_timer view.endpoint.moment (reconfiguration_settings view.endpoint.queues.transfer))

echoed_view : {R : Type 0} (old : Context R) (echoed : CookieEchoState) (tcb : TransmissionControlBlock) → Retries old.moment echoed.tcb tcb → (echoed.tcb.reset_request ≡ None → ⊥)
    → view_of (record old { state = CookieEchoed (record echoed { tcb = tcb }) }) ≡ retried_at (view_of (record old { state = CookieEchoed echoed }))
echoed_view {R = R} old echoed tcb h some =
    let v : View R = view_of (record old { state = CookieEchoed echoed }) in
    let numbered : Option ℕ → Option OutstandingRequest → Option RunningTimer → View R =
    λ n r t. record (asking v r t) { endpoint = record (asking v r t).endpoint { core = cookie_echoed echoed.tcb.my (held_out n (held_of echoed.tcb)) echoed.cookie.items } } in
    let rr : Option ResetRequest = echoed.tcb.reset_request in
    let later : Option ResetRequest = option_map (delayed_request h.timer) rr in
    ap (λ (t : TransmissionControlBlock). view_of (record old { state = CookieEchoed (record echoed { tcb = t }) })) h.is
    ∙ ap (λ (n : Option ℕ). numbered n (request_of later) (timer_of later)) (number_delayed h.timer rr)
    ∙ ap (λ (r : Option OutstandingRequest). numbered (request_number rr) r (timer_of later)) (request_delayed h.timer rr)
    ∙ ap (λ (t : Option RunningTimer). numbered (request_number rr) (option_map waiting (request_of rr)) t) (timer_delayed h.timer _ rr h.runs some)

open_view : {R : Type 0} (old : Context R) (opened : OpenState) (tcb : TransmissionControlBlock) → Retries old.moment opened.tcb tcb → (opened.tcb.reset_request ≡ None → ⊥)
    → view_of (record old { state = Open (record opened { tcb = tcb }) }) ≡ retried_at (view_of (record old { state = Open opened }))
open_view {R = R} old opened tcb h some =
    let v : View R = view_of (record old { state = Open opened }) in
    let numbered : Option ℕ → Option OutstandingRequest → Option RunningTimer → View R =
    λ n r t. record (asking v r t) { endpoint = record (asking v r t).endpoint { core = open_in (phase_of_open opened.phase) opened.tcb.my (held_out n (held_of opened.tcb)) } } in
    let rr : Option ResetRequest = opened.tcb.reset_request in
    let later : Option ResetRequest = option_map (delayed_request h.timer) rr in
    ap (λ (t : TransmissionControlBlock). view_of (record old { state = Open (record opened { tcb = t }) })) h.is
    ∙ ap (λ (n : Option ℕ). numbered n (request_of later) (timer_of later)) (number_delayed h.timer rr)
    ∙ ap (λ (r : Option OutstandingRequest). numbered (request_number rr) r (timer_of later)) (request_delayed h.timer rr)
    ∙ ap (λ (t : Option RunningTimer). numbered (request_number rr) (option_map waiting (request_of rr)) t) (timer_delayed h.timer _ rr h.runs some)

-- an answer counts where a request is outstanding
asked_some : (request : Option ResetRequest) → (request_of request ≡ None → own.InProgress ≡ own.Unanswered) → request ≡ None → ⊥
asked_some request asked none = let never = asked (ap request_of none) in absurd (cc)

retried_view : {R : Type 0} (old : Context R) (s new : State) (tcb : TransmissionControlBlock) → Some tcb ≡ tcb_of s → (after : TransmissionControlBlock) → Retries old.moment tcb after
    → new ≡ tcb_changed (λ _. after) s → (outstanding_of s ≡ None → own.InProgress ≡ own.Unanswered) → view_of (record old { state = new }) ≡ retried_at (view_of (record old { state = s }))
retried_view old Closed new tcb holds after h is asked = let never = asked refl in absurd (cc)
retried_view old (CookieWait wait) new tcb holds after h is asked = let never = asked refl in absurd (cc)
retried_view old (CookieEchoed echoed) new tcb holds after h is asked =
    ap (λ (s : State). view_of (record old { state = s })) is
    ∙ echoed_view old echoed after (subst (λ (t : TransmissionControlBlock). Retries old.moment t after) (cc) h) (asked_some echoed.tcb.reset_request asked)
retried_view old (Open opened) new tcb holds after h is asked =
    ap (λ (s : State). view_of (record old { state = s })) is
    ∙ open_view old opened after (subst (λ (t : TransmissionControlBlock). Retries old.moment t after) (cc) h) (asked_some opened.tcb.reset_request asked)

retried_by : {R : Type 0} (old : Context R) (new : State) (mid : Context R) (found : Option TransmissionControlBlock) → found ≡ tcb_of old.state → RetriesIfConnected old.moment found old.state new
    → view_of mid ≡ view_without_errors (view_of (record old { state = new })) → SettlesRequest own.InProgress old None mid
retried_by old new mid None holds h heeds = λ asked. let never = asked (ap (λ (t : Option TransmissionControlBlock). request_of (own_request t)) (sym holds)) in absurd (cc)
retried_by {R = R} old new mid (Some tcb) holds h heeds = λ asked. (heeds ∙ ap (λ (v : View R). view_without_errors v) (retried_view old old.state new tcb holds h.0 h.1 h.2 asked), refl)

pub retried_settles : {R : Type 0} (old : Context R) (new : State) (mid : Context R) → RetriesIfConnected old.moment (tcb_of old.state) old.state new
    → view_of mid ≡ view_without_errors (view_of (record old { state = new })) → SettlesRequest own.InProgress old None mid
retried_settles old new mid h heeds = retried_by old new mid (tcb_of old.state) refl h heeds

-- ---- both requests

-- What lies below is as it was.
settled_transfer : {R : Type 0} (answer : OwnAnswer) (v : View R) → (view_settled answer v).endpoint.queues.transfer ≡ v.endpoint.queues.transfer
settled_transfer unanswered v = refl
settled_transfer retried v = refl
settled_transfer was_performed v = refl
settled_transfer has_failed v = refl

abbrev Settled : {R : Type 0} → HandledRequests → Context R → Option SocketEvent → Context R → Type 0
Settled w old told mid = (view_of mid ≡ view_settled (own_kind w.own) (view_of old)) × (events_of_option told ≡ own_reset_events w.own (own_streams (outstanding_of old.state)))

transfer_same : {R : Type 0} (w : HandledRequests) (old mid : Context R) (told : Option SocketEvent) → Settled w old told mid → transfer_of mid.state ≡ transfer_of old.state
transfer_same {R = R} w old mid told h = ap (λ (v : View R). v.endpoint.queues.transfer) h.0 ∙ settled_transfer (own_kind w.own) (view_of old)

events_same : {R : Type 0} (w : HandledRequests) (old mid : Context R) (told : Option SocketEvent) → Settled w old told mid → (view_of mid).events ≡ (view_of old).events
events_same {R = R} w old mid told h = ap (λ (v : View R). v.events) h.0

front_of : (front back : List (Event (List ℕ))) → take (length front) (front ++ back) ≡ front
front_of [] back = refl
front_of (first ∷ front) back = ap (λ (es : List (Event (List ℕ))). first ∷ es) (front_of front back)

-- if an allocation failed before the first event
pub none_told : {R : Type 0} (w : HandledRequests) (reset : Option RequestedReset) (old mid new : Context R) (told : Option SocketEvent) → Settled w old told mid → (view_of new).events ≡ (view_of mid).events
    → (count : ℕ) × ((view_of new).events ≡ (view_of old).events ++ take count (handled_reset_events w reset old))
none_told w reset old mid new told h same = (0, same ∙ events_same w old mid told h ∙ sym (append-nil (view_of old).events))

-- .. before the second
one_told : (old new front back all : List (Event (List ℕ))) → all ≡ front ++ back → new ≡ old ++ front → (count : ℕ) × (new ≡ old ++ take count all)
one_told old new front back all is told =
    (length front, told ∙ ap (λ (es : List (Event (List ℕ))). old ++ es) (sym (front_of front back)) ∙ ap (λ (es : List (Event (List ℕ))). old ++ take (length front) es) (sym is))

-- both were reported
both_told : {R : Type 0} (w : HandledRequests) (reset : Option RequestedReset) (old : Context R) (left : Option Transfer) (front back : List (Event (List ℕ))) → handled_reset_events w reset old ≡ front ++ back
    → view_left (view_left (view_settled (own_kind w.own) (view_of old)) left front) left back ≡ view_left (view_settled (own_kind w.own) (view_of old)) left (handled_reset_events w reset old)
both_told {R = R} w reset old left front back is =
    let v : View R = view_settled (own_kind w.own) (view_of old) in
    ap (λ (es : List (Event (List ℕ))). let n : View R = record (view_left v left []) { events = es } in n) (append_assoc v.events front back) ∙ ap (λ (es : List (Event (List ℕ))). view_left v left es) (sym is)

-- Our own request comes first.
pub own_first : {R E : Type 0} (w : HandledRequests) (reset : Option RequestedReset) (old mid between : Context R) (told : Option SocketEvent) (result : Result (Unit {0}) E) (new : Context R) → w.is_own_first ≡ true
    → Settled w old told mid → view_of between ≡ record (view_of mid) { events = (view_of mid).events ++ events_of_option told } → TreatsReset w.treatment reset between result new → CarriesOutBoth w reset old result new
own_first {R = R} w reset old mid between told (Ok done) new first h tells treats =
    let streams : List ℕ = own_streams (outstanding_of old.state) in
    let is : handled_reset_events w reset old ≡ own_reset_events w.own streams ++ incoming_reset_events w.treatment reset = ap (λ (b : Bool). both_reset_events b w.own w.treatment reset streams) first in
    let here : view_of between ≡ record (view_settled (own_kind w.own) (view_of old)) { events = (view_settled (own_kind w.own) (view_of old)).events ++ own_reset_events w.own streams } =
    tells ∙ ap (λ (v : View R). let n : View R = record v { events = v.events ++ events_of_option told } in n) h.0
    ∙ ap (λ (es : List (Event (List ℕ))). let n : View R = record (view_settled (own_kind w.own) (view_of old)) { events = (view_settled (own_kind w.own) (view_of old)).events ++ es } in n) h.1 in
    let below : transfer_of between.state ≡ transfer_of old.state = ap (λ (v : View R). v.endpoint.queues.transfer) here ∙ settled_transfer (own_kind w.own) (view_of old) in (
      treats.0,
      subst (λ (f : Option Transfer). TreatsInQueues w.treatment reset f treats.0) below treats.1,
      treats.2 ∙ ap (λ (v : View R). view_left v treats.0 (incoming_reset_events w.treatment reset)) here ∙ both_told w reset old treats.0 (own_reset_events w.own streams) (incoming_reset_events w.treatment reset) is,
    )
own_first {R = R} w reset old mid between told (Err fault) new first h tells treats =
    let streams : List ℕ = own_streams (outstanding_of old.state) in
    one_told (view_of old).events (view_of new).events (own_reset_events w.own streams) (incoming_reset_events w.treatment reset) (handled_reset_events w reset old)
    (ap (λ (b : Bool). both_reset_events b w.own w.treatment reset streams) first)
    (treats ∙ ap (λ (v : View R). v.events) tells ∙ ap (λ (es : List (Event (List ℕ))). es ++ events_of_option told) (events_same w old mid told h) ∙ ap (λ (es : List (Event (List ℕ))). (view_of old).events ++ es) h.1)

-- The peer's comes first.
pub peer_first : {R E : Type 0} (w : HandledRequests) (reset : Option RequestedReset) (old mid between : Context R) (told : Option SocketEvent) (left : Option Transfer) (result : Result (Unit {0}) E) (new : Context R) → w.is_own_first ≡ false
    → Settled w old told mid → TreatsInQueues w.treatment reset (transfer_of mid.state) left → view_of between ≡ view_left (view_of mid) left (incoming_reset_events w.treatment reset)
    → ReportsEvent told between result new → CarriesOutBoth w reset old result new
peer_first {R = R} w reset old mid between told left (Ok done) new first h below treated tells =
    let streams : List ℕ = own_streams (outstanding_of old.state) in
    let v : View R = view_settled (own_kind w.own) (view_of old) in
    let is : handled_reset_events w reset old ≡ incoming_reset_events w.treatment reset ++ own_reset_events w.own streams = ap (λ (b : Bool). both_reset_events b w.own w.treatment reset streams) first in (
      left,
      subst (λ (f : Option Transfer). TreatsInQueues w.treatment reset f left) (transfer_same w old mid told h) below,
      tells ∙ ap (λ (n : View R). let m : View R = record n { events = n.events ++ events_of_option told } in m) (treated ∙ ap (λ (n : View R). view_left n left (incoming_reset_events w.treatment reset)) h.0)
          ∙ ap (λ (es : List (Event (List ℕ))). view_left (view_left v left (incoming_reset_events w.treatment reset)) left es) h.1
          ∙ both_told w reset old left (incoming_reset_events w.treatment reset) (own_reset_events w.own streams) is,
    )
peer_first {R = R} w reset old mid between told left (Err fault) new first h below treated tells =
    let streams : List ℕ = own_streams (outstanding_of old.state) in
    one_told (view_of old).events (view_of new).events (incoming_reset_events w.treatment reset) (own_reset_events w.own streams) (handled_reset_events w reset old)
    (ap (λ (b : Bool). both_reset_events b w.own w.treatment reset streams) first)
    (tells ∙ ap (λ (v : View R). v.events) treated ∙ ap (λ (es : List (Event (List ℕ))). es ++ incoming_reset_events w.treatment reset) (events_same w old mid told h))
