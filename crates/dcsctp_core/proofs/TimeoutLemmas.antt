-- What the list of a socket's deadlines says about its next moment, and about a moment at which nothing is due.
use Rattle.std.proofs.Common.{◌≡◌, ℕ, ◌≤◌, ◌⊎◌, inl, inr, min, max, Bool, true, false, Option, None, Some, List, [], ◌∷◌, refl, sym, ap, subst, ◌∙◌, arith}
use Rattle.std.specs.Prelude.{if◌then◌else◌}
use Rattle.std.proofs.lemmas.Bool.Decides.{nat_tests}
use Rattle.dcsctp_transfer.specs.spec.endpoint.Endpoint.{Endpoint, Core, closed, cookie_wait, cookie_echoed, open_in}
use Rattle.dcsctp_transfer.specs.spec.endpoint.TimeTurns.{Timer, t1_timer, own_timer, t2_timer, handled_timers, timers_counted, deadline, deadline_of, delay_deadline, loss_deadline, with_deadline, deadlines_of, earliest, next_of, next_moment, has_come, NoneIsDue}
use Rattle.dcsctp_transfer.specs.spec.endpoint.OwnTimers.{acknowledgement_delay, retransmission, heartbeat_interval, heartbeat_timeout, reconfiguration}
use Rattle.dcsctp_transfer.specs.spec.endpoint.Turn.{with_clock}
use Rattle.dcsctp_core.specs.declared.deadlines.DeadlineKind.{DeadlineKind}
use Rattle.dcsctp_core.specs.declared.deadlines.DeadlineKind.TheVariants.{AcknowledgementDelay, Retransmission, HeartbeatInterval, HeartbeatTimeout, Reconfiguration, T1, T2}
use Rattle.dcsctp_core.specs.declared.deadlines.Entry.{Entry}
use Rattle.dcsctp_transfer.specs.spec.endpoint.Timers.{RunningTimer, running_deadline}
use Rattle.dcsctp_transfer.specs.spec.queues.Retransmission.{retransmission_deadline}
use Rattle.dcsctp_transfer.specs.spec.queues.Tracker.{delayed_acknowledgement}
use Rattle.dcsctp_core.specs.declared.context.Context.{Context}
use Rattle.dcsctp_core.specs.declared.state.CookieWaitState.{CookieWaitState}
use Rattle.dcsctp_core.specs.declared.state.CookieEchoState.{CookieEchoState}
use Rattle.dcsctp_core.specs.declared.state.OpenState.{OpenState}
use Rattle.dcsctp_core.specs.declared.state.State.{State}
use Rattle.dcsctp_core.specs.declared.state.State.TheVariants.{CookieWait, CookieEchoed, Open}
use Rattle.dcsctp_core.specs.View.{endpoint_of, t2_of_phase, timer_of}
use Rattle.dcsctp_core.specs.Listing.{is_before, is_same_kind, listed_deadline, first_moment, list_of_deadlines, deadline_by_kind, with_entry, IsEarliestEntry, IsListing, RunningDeadlines}
use Rattle.dcsctp_core.specs.Timeout.{kind_of, deadline_among, deadline_in_phase, next_deadline, is_deadline_later, is_quiet, ListsDeadlines}
use Rattle.dcsctp_core.proofs.RelistLemmas.{relist_tells}

-- ---- the first entry is the least

abbrev AtLeast : ℕ → Option ℕ → Type 0
AtLeast m None = Unit {0}
AtLeast m (Some deadline) = m ≤ deadline

before_le : (a b : Entry) → is_before a b ≡ true → a.moment ≤ b.moment
before_le a b before = grind (arith, nat_tests)

others_later : (first : Entry) (xs : List Entry) → IsEarliestEntry first xs → (kind : DeadlineKind) → AtLeast first.moment (listed_deadline kind xs)
others_later first [] is kind = tt
others_later first (x ∷ xs) is kind = go (is_same_kind kind x.kind) (others_later first xs is.2 kind)
  where
    go : (same : Bool) → AtLeast first.moment (listed_deadline kind xs) → AtLeast first.moment (if same then Some x.moment else listed_deadline kind xs)
    go true rest = before_le first x is.0
    go false rest = rest

all_later : (first : Entry) (xs : List Entry) → IsEarliestEntry first xs → (kind : DeadlineKind) → AtLeast first.moment (listed_deadline kind (first ∷ xs))
all_later first xs is kind = go (is_same_kind kind first.kind)
  where
    go : (same : Bool) → AtLeast first.moment (if same then Some first.moment else listed_deadline kind xs)
    go true = omega arith
    go false = others_later first xs is kind

same_self : (kind : DeadlineKind) → is_same_kind kind kind ≡ true
same_self kind = grind (arith, nat_tests)

-- ---- the timers that count, by their kinds

abbrev ForEach : (Timer → Type 0) → List Timer → Type 0
ForEach P [] = Unit {0}
ForEach P (timer ∷ timers) = P timer × ForEach P timers

each_told : (e : Endpoint) (P : Option ℕ → Type 0) (core : Core) → ((kind : DeadlineKind) → P (deadline_among e (timers_counted core) kind)) → ForEach (λ timer. P (deadline e timer)) (timers_counted core)
each_told e P closed holds = tt
each_told e P (cookie_wait mine) holds = (holds T1, tt)
each_told e P (cookie_echoed mine held cookie) holds = (holds T1, tt)
each_told e P (open_in phase mine held) holds =
    (holds AcknowledgementDelay, (holds Retransmission, (holds HeartbeatInterval, (holds HeartbeatTimeout, (holds Reconfiguration, (holds T2, tt))))))

-- ---- poll_timeout

abbrev AllLeast : ℕ → List ℕ → Type 0
AllLeast m [] = Unit {0}
AllLeast m (d ∷ ds) = (m ≤ d) × AllLeast m ds

abbrev IsAmong : ℕ → List ℕ → Type 0
IsAmong m [] = ⊥
IsAmong m (d ∷ ds) = (d ≡ m) ⊎ IsAmong m ds

earliest_is : (m d : ℕ) (ds : List ℕ) → m ≤ d → AllLeast m ds → (d ≡ m) ⊎ IsAmong m ds → earliest d ds ≡ m
earliest_is m d [] least all (inl is) = is
earliest_is m d [] least all (inr none) = absurd none
earliest_is m d (x ∷ xs) least all (inl is) = earliest_is m (min d x) xs (omega (arith, all.0)) all.1 (inl (omega (arith, all.0)))
earliest_is m d (x ∷ xs) least all (inr (inl is)) = earliest_is m (min d x) xs (omega (arith, all.0)) all.1 (inl (omega arith))
earliest_is m d (x ∷ xs) least all (inr (inr among)) = earliest_is m (min d x) xs (omega (arith, all.0)) all.1 (inr among)

next_is : (moment m : ℕ) (ds : List ℕ) → AllLeast m ds → IsAmong m ds → next_of moment ds ≡ max m moment
next_is moment m [] all none = absurd none
next_is moment m (d ∷ ds) all among = ap (λ least. max least moment) (earliest_is m d ds all.0 all.1 among)

with_least : (m : ℕ) (o : Option ℕ) (ds : List ℕ) → AtLeast m o → AllLeast m ds → AllLeast m (with_deadline o ds)
with_least m None ds least all = all
with_least m (Some d) ds least all = (least, all)

all_least : (e : Endpoint) (m : ℕ) (timers : List Timer) → ForEach (λ timer. AtLeast m (deadline e timer)) timers → AllLeast m (deadlines_of e timers)
all_least e m [] each = tt
all_least e m (timer ∷ timers) each = with_least m (deadline e timer) (deadlines_of e timers) each.0 (all_least e m timers each.1)

with_among : (m : ℕ) (o : Option ℕ) (ds : List ℕ) → IsAmong m ds → IsAmong m (with_deadline o ds)
with_among m None ds among = among
with_among m (Some d) ds among = inr among

with_this : (m : ℕ) (o : Option ℕ) (ds : List ℕ) → o ≡ Some m → IsAmong m (with_deadline o ds)
with_this m o ds is = subst (λ p. IsAmong m (with_deadline p ds)) (sym is) (inl refl)

is_among : (e : Endpoint) (m : ℕ) (kind : DeadlineKind) (timers : List Timer) → deadline_among e timers kind ≡ Some m → IsAmong m (deadlines_of e timers)
is_among e m kind [] is = absurd (cc)
is_among e m kind (timer ∷ timers) is = go (is_same_kind kind (kind_of timer)) is (is_among e m kind timers)
  where
    go : (same : Bool) → (if same then deadline e timer else deadline_among e timers kind) ≡ Some m
        → (deadline_among e timers kind ≡ Some m → IsAmong m (deadlines_of e timers)) → IsAmong m (with_deadline (deadline e timer) (deadlines_of e timers))
    go true is rest = with_this m (deadline e timer) (deadlines_of e timers) is
    go false is rest = with_among m (deadline e timer) (deadlines_of e timers) (rest is)

no_deadline : (e : Endpoint) (timers : List Timer) → ForEach (λ timer. deadline e timer ≡ None) timers → deadlines_of e timers ≡ []
no_deadline e [] each = refl
no_deadline e (timer ∷ timers) each = ap (λ o. with_deadline o (deadlines_of e timers)) each.0 ∙ no_deadline e timers each.1

-- The first entry says the next moment of the socket.
pub first_is_next : (e : Endpoint) (entries : List Entry) → IsListing entries → ListsDeadlines e entries → next_deadline e.moment (first_moment entries) ≡ next_moment e
first_is_next e [] listing told =
    sym (ap (next_of e.moment) (no_deadline e (timers_counted e.core) (each_told e (λ o. o ≡ None) e.core (λ kind. sym (told kind)))))
first_is_next e (x ∷ xs) listing told =
    let all = all_least e x.moment (timers_counted e.core) (each_told e (AtLeast x.moment) e.core (λ kind. subst (AtLeast x.moment) (told kind) (all_later x xs listing.0 kind))) in
    let among = is_among e x.moment x.kind (timers_counted e.core) (sym (told x.kind) ∙ ap (λ same. if same then Some x.moment else listed_deadline x.kind xs) (same_self x.kind)) in
    sym (next_is e.moment x.moment (deadlines_of e (timers_counted e.core)) all among)

-- ---- advance_time

none_has_come : (moment : ℕ) (entries : List Entry) → IsListing entries → is_deadline_later moment (first_moment entries) ≡ true → (kind : DeadlineKind) → has_come moment (listed_deadline kind entries) ≡ false
none_has_come moment [] listing later kind = refl
none_has_come moment (x ∷ xs) listing later kind = go (listed_deadline kind (x ∷ xs)) (all_later x xs listing.0 kind)
  where
    go : (o : Option ℕ) → AtLeast x.moment o → has_come moment o ≡ false
    go None least = refl
    go (Some d) least = grind (arith, nat_tests)

none_due : (e : Endpoint) (moment : ℕ) (timers : List Timer) → ForEach (λ timer. has_come moment (deadline e timer) ≡ false) timers → NoneIsDue (with_clock moment e) timers
none_due e moment [] each = tt
none_due e moment (timer ∷ timers) each = (go timer each.0, none_due e moment timers each.1)
  where
    go : (t : Timer) → has_come moment (deadline e t) ≡ false → has_come moment (deadline (with_clock moment e) t) ≡ false
    go t1_timer is = is
    go (own_timer acknowledgement_delay) is = is
    go (own_timer retransmission) is = is
    go (own_timer heartbeat_interval) is = is
    go (own_timer heartbeat_timeout) is = is
    go (own_timer reconfiguration) is = is
    go t2_timer is = is

-- Where the list is quiet at a moment, nothing is due then.
pub none_is_due : (e : Endpoint) (moment : ℕ) (entries : List Entry) → IsListing entries → ListsDeadlines e entries → is_quiet e.core moment entries ≡ true
    → NoneIsDue (with_clock moment e) (handled_timers e.core)
none_is_due e moment entries listing told quiet =
    go e.core quiet (λ later. each_told e (λ o. has_come moment o ≡ false) e.core (λ kind. subst (λ o. has_come moment o ≡ false) (told kind) (none_has_come moment entries listing later kind)))
  where
    go : (core : Core) → is_quiet core moment entries ≡ true → (is_deadline_later moment (first_moment entries) ≡ true → ForEach (λ timer. has_come moment (deadline e timer) ≡ false) (timers_counted core))
        → NoneIsDue (with_clock moment e) (handled_timers core)
    go closed quiet each = tt
    go (cookie_wait mine) quiet each = none_due e moment (handled_timers (cookie_wait mine)) (each quiet)
    go (cookie_echoed mine held cookie) quiet each = absurd (cc)
    go (open_in state mine held) quiet each = none_due e moment (handled_timers (open_in state mine held)) (each quiet)

-- ---- what keeps the list

-- what the timers of a phase say
abbrev pub told_by : Endpoint → Core → RunningDeadlines
told_by e core =
    record {
      acknowledgement_delay = deadline_among e (timers_counted core) AcknowledgementDelay;
      retransmission = deadline_among e (timers_counted core) Retransmission;
      heartbeat_interval = deadline_among e (timers_counted core) HeartbeatInterval;
      heartbeat_timeout = deadline_among e (timers_counted core) HeartbeatTimeout;
      reconfiguration = deadline_among e (timers_counted core) Reconfiguration;
      t1 = deadline_among e (timers_counted core) T1;
      t2 = deadline_among e (timers_counted core) T2;
    }

-- The list that is made of it has what counts.
pub relisted_is_told : (e : Endpoint) (core : Core) → e.core ≡ core → ListsDeadlines e (list_of_deadlines (told_by e core))
relisted_is_told e core is = subst (λ phase. ListsDeadlines e (list_of_deadlines (told_by e phase))) is (λ kind. relist_tells (told_by e e.core) kind ∙ go kind)
  where
    go : (kind : DeadlineKind) → deadline_by_kind (told_by e e.core) kind ≡ deadline_in_phase e kind
    go AcknowledgementDelay = refl
    go Retransmission = refl
    go HeartbeatInterval = refl
    go HeartbeatTimeout = refl
    go Reconfiguration = refl
    go T1 = refl
    go T2 = refl

-- the same during the handshake, by T1, and on an open association, by the timers that it has
same_deadline : (timer : Option RunningTimer) → running_deadline timer ≡ deadline_of timer
same_deadline None = refl
same_deadline (Some timer) = refl

pub lists_waiting : {R : Type 0} (context : Context R) (wait : CookieWaitState) → context.state ≡ CookieWait wait
    → ListsDeadlines (endpoint_of context) (with_entry T1 (running_deadline wait.t1_init.running) [])
lists_waiting context wait is =
    let at : State → Endpoint = λ state. endpoint_of (record context { state = state }) in
    subst (λ state. ListsDeadlines (at state) (with_entry T1 (running_deadline wait.t1_init.running) [])) (sym is)
    (subst (λ t1. ListsDeadlines (at (CookieWait wait)) (with_entry T1 t1 [])) (sym (same_deadline wait.t1_init.running)) (relisted_is_told (at (CookieWait wait)) (cookie_wait _) refl))

pub lists_echoed : {R : Type 0} (context : Context R) (echoed : CookieEchoState) → context.state ≡ CookieEchoed echoed
    → ListsDeadlines (endpoint_of context) (with_entry T1 (running_deadline echoed.t1_cookie.running) [])
lists_echoed context echoed is =
    let at : State → Endpoint = λ state. endpoint_of (record context { state = state }) in
    subst (λ state. ListsDeadlines (at state) (with_entry T1 (running_deadline echoed.t1_cookie.running) [])) (sym is)
    (subst (λ t1. ListsDeadlines (at (CookieEchoed echoed)) (with_entry T1 t1 [])) (sym (same_deadline echoed.t1_cookie.running)) (relisted_is_told (at (CookieEchoed echoed)) (cookie_echoed _ _ _) refl))

abbrev open_list : Option ℕ → Option ℕ → Option ℕ → Option ℕ → Option ℕ → Option ℕ → List Entry
open_list delay loss interval timeout request t2 =
    with_entry T2 t2 (with_entry Reconfiguration request (with_entry HeartbeatTimeout timeout (with_entry HeartbeatInterval interval (with_entry Retransmission loss (with_entry AcknowledgementDelay delay [])))))

pub lists_open : {R : Type 0} (context : Context R) (opened : OpenState) → context.state ≡ Open opened
    → ListsDeadlines (endpoint_of context)
    (with_entry T2 (running_deadline (t2_of_phase opened.phase)) (with_entry Reconfiguration (running_deadline (timer_of opened.tcb.reset_request)) (with_entry HeartbeatTimeout (running_deadline context.heartbeat_timeout.running)
    (with_entry HeartbeatInterval (running_deadline context.heartbeat_interval.running) (with_entry Retransmission (retransmission_deadline opened.tcb.transfer.retransmission)
    (with_entry AcknowledgementDelay (delayed_acknowledgement opened.tcb.transfer.tracker) []))))))
lists_open context opened is =
    let at : State → Endpoint = λ state. endpoint_of (record context { state = state }) in
    let delay = delayed_acknowledgement opened.tcb.transfer.tracker in
    let loss = retransmission_deadline opened.tcb.transfer.retransmission in
    let told : List Entry = open_list delay loss (running_deadline context.heartbeat_interval.running) (running_deadline context.heartbeat_timeout.running)
    (running_deadline (timer_of opened.tcb.reset_request)) (running_deadline (t2_of_phase opened.phase)) in
    let same : told ≡ open_list delay loss (deadline_of context.heartbeat_interval.running) (deadline_of context.heartbeat_timeout.running)
    (deadline_of (timer_of opened.tcb.reset_request)) (deadline_of (t2_of_phase opened.phase)) =
    rw (same_deadline context.heartbeat_interval.running, same_deadline context.heartbeat_timeout.running, same_deadline (timer_of opened.tcb.reset_request), same_deadline (t2_of_phase opened.phase)) refl in
    subst (λ state. ListsDeadlines (at state) told) (sym is) (subst (ListsDeadlines (at (Open opened))) (sym same) (relisted_is_told (at (Open opened)) (open_in _ _ _) refl))

-- What changes neither the phase nor a timer keeps the list.
pub told_kept : (old new : Endpoint) (entries : List Entry) → new.core ≡ old.core → new.timers ≡ old.timers
    → delay_deadline new.queues.transfer ≡ delay_deadline old.queues.transfer → loss_deadline new.queues.transfer ≡ loss_deadline old.queues.transfer
    → ListsDeadlines old entries → ListsDeadlines new entries
told_kept old new entries phase timers delay loss told kind =
    told kind ∙ sym (ap (λ core. deadline_among new (timers_counted core) kind) phase ∙ all (timers_counted old.core))
  where
    same : (t : Timer) → deadline new t ≡ deadline old t
    same t1_timer = ap (λ ts. deadline_of ts.t1) timers
    same (own_timer acknowledgement_delay) = delay
    same (own_timer retransmission) = loss
    same (own_timer heartbeat_interval) = ap (λ ts. deadline_of ts.heartbeat_interval) timers
    same (own_timer heartbeat_timeout) = ap (λ ts. deadline_of ts.heartbeat_timeout) timers
    same (own_timer reconfiguration) = ap (λ ts. deadline_of ts.reconfiguration) timers
    same t2_timer = ap (λ ts. deadline_of ts.t2) timers

    all : (ts : List Timer) → deadline_among new ts kind ≡ deadline_among old ts kind
    all [] = refl
    all (t ∷ ts) = ap (λ o. if is_same_kind kind (kind_of t) then o else deadline_among new ts kind) (same t)
        ∙ ap (λ rest. if is_same_kind kind (kind_of t) then deadline old t else rest) (all ts)
