-- What is known of T2 when it runs again.
use Rattle.std.proofs.Common.{◌≡◌, ℕ, Bool, true, false, Option, None, Some, List, refl, sym, subst}
use Rattle.dcsctp_core.specs.spec.endpoint.Event.{Event}
use Rattle.dcsctp_core.specs.spec.endpoint.Timers.{RunningTimer, is_timer_expired, is_restarted}
use Rattle.dcsctp_core.specs.spec.endpoint.TimeTurns.{deadline_of, has_come, has_restart, t2_timer, t2_input}
use Rattle.dcsctp_core.specs.spec.endpoint.Turn.{Turn}
use Rattle.dcsctp_core.specs.spec.endpoint.ShutdownOutcomes.{t2_again_outcome}
use Rattle.dcsctp_core.specs.declared.context.Context.{Context}
use Rattle.dcsctp_core.specs.declared.expiry.Expiry.TheVariants.{Again}
use Rattle.dcsctp_core.specs.Handling.{CutsSomeTurn}
use Rattle.dcsctp_core.specs.Timing.{expiry_if_due, expiry_of, ExpiryTurn, is_timer_due}
use Rattle.dcsctp_core.specs.View.{view_of, endpoint_of, t2_of}
use Rattle.dcsctp_core.proofs.Composing.{cut_first}

again_both : (due restarts : Bool) → Again ≡ expiry_if_due due restarts → (due ≡ true) × (restarts ≡ true)
again_both true true is = (refl, refl)
again_both true false is = absurd (cc)
again_both false restarts is = absurd (cc)

-- It is due, and runs again.
again_is : (moment : ℕ) (t2 : Option RunningTimer) → Again ≡ expiry_of moment t2 → (has_come moment (deadline_of t2) ≡ true) × (has_restart t2 ≡ true)
again_is moment None is = absurd (cc)
again_is moment (Some timer) is = again_both (is_timer_expired moment timer) (is_restarted timer) is

again_turn : {R : Type 0} (old : Context R) → Again ≡ expiry_of old.moment (t2_of old.state) → ExpiryTurn t2_timer (view_of old) (t2_again_outcome (endpoint_of old))
again_turn old is =
    subst (λ (b : Bool). Turn (endpoint_of old) (t2_input b) (t2_again_outcome (endpoint_of old))) (sym (again_is old.moment (t2_of old.state) is).1) refl

-- Its packet wasn't sent again.
pub t2_again_not : {R : Type 0} (old : Context R) (es : List (Event (List ℕ))) → Again ≡ expiry_of old.moment (t2_of old.state) → es ≡ (view_of old).events
    → (is_timer_due (endpoint_of old) t2_timer ≡ true) × CutsSomeTurn (ExpiryTurn t2_timer) (view_of old) es
t2_again_not old es is same = (
  (again_is old.moment (t2_of old.state) is).0,
  record {
    outcome = t2_again_outcome (endpoint_of old);
    turn = again_turn old is;
    cut = cut_first (view_of old) (t2_again_outcome (endpoint_of old)) es same;
  },
)
