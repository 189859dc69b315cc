-- The timers of a phase are handled one after another.
use Rattle.std.proofs.Common.{◌≡◌, ℕ, Bool, true, false, ◌||◌, ◌+◌, ◌<◌, ◌≤◌, List, [], ◌∷◌, length, map, drop, get_or, Result, Ok, Err, refl, sym, subst, ◌∙◌}
use Rattle.std.proofs.Math.Bool.{or_comm}
use Rattle.std.proofs.lemmas.List.{at_drop_more, at_drop_all}
use Rattle.std.specs.declared.alloc.AllocError.{AllocError}
use Rattle.rand_core.specs.Stream.{Stream}
use Rattle.dcsctp_core.specs.spec.endpoint.TimeTurns.{Timer, handled_timers, ExpiryTurns, DueTurns, NoneIsDue}
use Rattle.dcsctp_core.specs.declared.context.Context.{Context}
use Rattle.dcsctp_core.specs.Timing.{Expires}
use Rattle.dcsctp_core.specs.View.{View, view_of, core_of, endpoint_of}
use Rattle.dcsctp_socket_calls.specs.declared.timers.SocketTimer.{SocketTimer}
use Rattle.dcsctp_socket_calls.specs.Parts.{TurnsMove, MakesTurns}
use Rattle.dcsctp_socket_calls.specs.TimeParts.{timer_of_socket}
use Rattle.dcsctp_socket_calls.proofs.DispatchLemmas.{moves_none}
use Rattle.dcsctp_socket_calls.proofs.ExpiryLemmas.{timer_then, expiry_cut}

-- Some timers of a phase were handled, and these are left. Whatever turns complete those completes all that is due. If none was
-- due at the start, none has expired, and none that is left is due.
pub record Handled {R : Type 0} (stream : R → Stream) (left : List Timer) (has_expired : Bool) (start here : Context R) : Type 0 where
  pub works : (result : Result (Unit {0}) AllocError) (new : Context R) → MakesTurns stream (ExpiryTurns left has_expired) here result new → MakesTurns stream DueTurns start result new
  pub waits : NoneIsDue (endpoint_of start) (handled_timers (core_of start.state)) → (has_expired ≡ false) × NoneIsDue (endpoint_of here) left

-- ---- before the first one

due_works : {R : Type 0} (stream : R → Stream) (start : Context R) (result : Result (Unit {0}) AllocError) (new : Context R)
    → MakesTurns stream (ExpiryTurns (handled_timers (core_of start.state)) false) start result new → MakesTurns stream DueTurns start result new
due_works stream start (Ok done) new works = record { turns = works.turns; are = works.are; moves = works.moves }
due_works stream start (Err error) new works = record { turns = works.turns; are = works.are; adds = works.adds }

pub none_handled : {R : Type 0} (stream : R → Stream) (start : Context R) (timers : List SocketTimer) → map timer_of_socket timers ≡ handled_timers (core_of start.state)
    → Handled stream (map timer_of_socket timers) false start start
none_handled stream start timers are =
    subst (λ (left : List Timer). Handled stream left false start start) (sym are)
    (record { works = λ result new works. due_works stream start result new works; waits = λ none. (refl, none) })

-- ---- one more

-- the timers that are left at a place of the list
left_at : {R : Type 0} (stream : R → Stream) (timers : List SocketTimer) (i : ℕ) (default : SocketTimer) (before : Bool) (start here : Context R) → i < length timers
    → Handled stream (map timer_of_socket (drop i timers)) before start here → Handled stream (timer_of_socket (get_or timers i default) ∷ map timer_of_socket (drop (i + 1) timers)) before start here
left_at stream timers i default before start here below handled =
    subst (λ (left : List Timer). Handled stream left before start here) (at_drop_more (λ (list : List SocketTimer). map timer_of_socket list) timers i default below) handled

still_waits : {R : Type 0} (stream : R → Stream) (timer : Timer) (left : List Timer) (before has : Bool) (here next : Context R) → Expires {E = AllocError} stream timer here (Ok has) next
    → (before ≡ false) × NoneIsDue (endpoint_of here) (timer ∷ left) → ((has || before) ≡ false) × NoneIsDue (endpoint_of next) left
still_waits stream timer left before true here next expires none = absurd (let clash : true ≡ false = sym expires.0 ∙ none.1.0 in cc)
still_waits {R = R} stream timer left before false here next expires none =
    (none.0, subst (λ (v : View R). NoneIsDue v.endpoint left) (sym expires.1) none.1.1)

pub one_handled : {R : Type 0} (stream : R → Stream) (timers : List SocketTimer) (i : ℕ) (default : SocketTimer) (before has : Bool) (start here next : Context R) → i < length timers
    → Expires {E = AllocError} stream (timer_of_socket (get_or timers i default)) here (Ok has) next → Handled stream (map timer_of_socket (drop i timers)) before start here
    → Handled stream (map timer_of_socket (drop (i + 1) timers)) (before || has) start next
one_handled stream timers i default before has start here next below expires handled =
    let timer : Timer = timer_of_socket (get_or timers i default) in
    let left : List Timer = map timer_of_socket (drop (i + 1) timers) in
    let some : Handled stream (timer ∷ left) before start here = left_at stream timers i default before start here below handled in
    subst (λ (any : Bool). Handled stream left any start next) (or_comm has before)
    (record {
      works = λ result new works. some.works result new (timer_then stream here next new timer left before has result expires works);
      waits = λ none. still_waits stream timer left before has here next expires (some.waits none);
    })

-- An allocation failed in the turn of the next one: it was due.
pub one_cut : {R : Type 0} (stream : R → Stream) (timers : List SocketTimer) (i : ℕ) (default : SocketTimer) (before : Bool) (start here next : Context R) (error : AllocError) → i < length timers
    → Expires stream (timer_of_socket (get_or timers i default)) here (Err error) next → Handled stream (map timer_of_socket (drop i timers)) before start here
    → MakesTurns stream DueTurns start (Err error) next
one_cut stream timers i default before start here next error below expires handled =
    (left_at stream timers i default before start here below handled).works (Err error) next
    (expiry_cut stream (view_of here) (timer_of_socket (get_or timers i default)) (map timer_of_socket (drop (i + 1) timers)) before (view_of next).events expires.0 expires.1)

pub one_was_due : {R : Type 0} (stream : R → Stream) (timers : List SocketTimer) (i : ℕ) (default : SocketTimer) (before : Bool) (start here next : Context R) (error : AllocError) → i < length timers
    → Expires stream (timer_of_socket (get_or timers i default)) here (Err error) next → Handled stream (map timer_of_socket (drop i timers)) before start here
    → NoneIsDue (endpoint_of start) (handled_timers (core_of start.state)) → ⊥
one_was_due stream timers i default before start here next error below expires handled none =
    let rests = (left_at stream timers i default before start here below handled).waits none in
    let clash : true ≡ false = sym expires.0 ∙ rests.1.0 in cc

-- ---- after the last one

pub all_handled : {R : Type 0} (stream : R → Stream) (timers : List SocketTimer) (i : ℕ) (any is : Bool) (start here : Context R) → length timers ≤ i → any ≡ is
    → Handled stream (map timer_of_socket (drop i timers)) any start here → Handled stream [] is start here
all_handled stream timers i any is start here above has handled =
    subst (λ (b : Bool). Handled stream [] b start here) has
    (subst (λ (left : List Timer). Handled stream left any start here) (at_drop_all (λ (list : List SocketTimer). map timer_of_socket list) timers i above) handled)

-- If one has expired, it was due.
pub one_expired : {R : Type 0} (stream : R → Stream) (start here : Context R) → Handled stream [] true start here → NoneIsDue (endpoint_of start) (handled_timers (core_of start.state)) → ⊥
one_expired stream start here handled none = let clash : true ≡ false = (handled.waits none).0 in cc

-- If none has expired, nothing follows.
pub none_expired : {R : Type 0} (stream : R → Stream) (start here : Context R) → Handled stream [] false start here → TurnsMove stream DueTurns (view_of start) (view_of here)
none_expired stream start here handled = handled.works (Ok tt) here (record { turns = []; are = tt; moves = moves_none stream (view_of here) })
