-- A shutdown under way continues; then what was lost is sent, and what waits.
use Rattle.std.proofs.Common.{◌≡◌, ℕ, Bool, true, false, Option, Some, List, [], refl, sym, ap, subst, ◌∙◌}
use Rattle.std.specs.Prelude.{is_some}
use Rattle.rand_core.specs.Stream.{Stream}
use Rattle.dcsctp_core.specs.types.declared.association.Pair.{Pair}
use Rattle.dcsctp_core.specs.types.declared.association.Held.{Held}
use Rattle.dcsctp_core.specs.spec.endpoint.Event.{Event}
use Rattle.dcsctp_core.specs.spec.queues.Transfer.{Transfer}
use Rattle.dcsctp_core.specs.spec.endpoint.Endpoint.{Endpoint, Core, closed, cookie_wait, cookie_echoed, open_in, OpenPhase, established, shutdown_pending, shutdown_sent, shutdown_received, shutdown_ack_sent, held_by_core}
use Rattle.dcsctp_core.specs.spec.endpoint.Outcome.{Outcome, behind}
use Rattle.dcsctp_core.specs.spec.endpoint.FlushOutcomes.{draft_to, flush_of, first_ask, packets_allowed}
use Rattle.dcsctp_core.specs.spec.endpoint.ShutdownOutcomes.{may_continue_shutdown, step_if_acknowledged, step_outcome}
use Rattle.dcsctp_core.proofs.spec_lemmas.AnswerLemmas.{any_answers}
use Rattle.dcsctp_core.specs.declared.context.Context.{Context}
use Rattle.dcsctp_core.specs.View.{View, core_of, transfer_of, endpoint_of, view_of, Moves}
use Rattle.dcsctp_core.specs.Handling.{TakesPossibleTurn, CutsSomeTurn}
use Rattle.dcsctp_core.proofs.AtOnceLemmas.{any_fast}
use Rattle.dcsctp_core.proofs.Composing.{moves_behind, cut_behind, cut_first}
use Rattle.dcsctp_core_ends.specs.Shutdown.{step_turn}
use Rattle.dcsctp_core_data.specs.Sacks.{ResendsThenFlushes, Resends, ResendsLost, ProceedsThenResends, Proceeds, ProceedsWithShutdown}
use Rattle.dcsctp_core_data.proofs.ResendLemmas.{Below, below_of, fast_adds, fast_draws}

-- ---- a step of shutdown changes little

record StepKeeps (e : Endpoint) (o : Outcome) : Type 0 where
  words : o.words ≡ []
  effects : o.effects ≡ []
  holds : held_by_core o.after.core ≡ held_by_core e.core
  below : o.after.queues.transfer ≡ e.queues.transfer
  options : o.after.options ≡ e.options

by_keeps : (b : Bool) (e : Endpoint) (phase : OpenPhase) (my : Pair) (held : Held) → held_by_core e.core ≡ Some held → StepKeeps e (step_if_acknowledged b e phase my held)
by_keeps true e established my held is = record { words = refl; effects = refl; holds = refl; below = refl; options = refl }
by_keeps true e shutdown_pending my held is = record { words = refl; effects = refl; holds = sym is; below = refl; options = refl }
by_keeps true e shutdown_sent my held is = record { words = refl; effects = refl; holds = refl; below = refl; options = refl }
by_keeps true e shutdown_received my held is = record { words = refl; effects = refl; holds = sym is; below = refl; options = refl }
by_keeps true e shutdown_ack_sent my held is = record { words = refl; effects = refl; holds = refl; below = refl; options = refl }
by_keeps false e established my held is = record { words = refl; effects = refl; holds = refl; below = refl; options = refl }
by_keeps false e shutdown_pending my held is = record { words = refl; effects = refl; holds = refl; below = refl; options = refl }
by_keeps false e shutdown_sent my held is = record { words = refl; effects = refl; holds = refl; below = refl; options = refl }
by_keeps false e shutdown_received my held is = record { words = refl; effects = refl; holds = refl; below = refl; options = refl }
by_keeps false e shutdown_ack_sent my held is = record { words = refl; effects = refl; holds = refl; below = refl; options = refl }

step_keeps : (e : Endpoint) (core : Core) → e.core ≡ core → StepKeeps e (step_outcome e core)
step_keeps e closed is = record { words = refl; effects = refl; holds = refl; below = refl; options = refl }
step_keeps e (cookie_wait my) is = record { words = refl; effects = refl; holds = refl; below = refl; options = refl }
step_keeps e (cookie_echoed my held cookie) is = record { words = refl; effects = refl; holds = refl; below = refl; options = refl }
step_keeps e (open_in phase my held) is = by_keeps (may_continue_shutdown e) e phase my held (ap held_by_core is)

-- ---- what follows it

-- some outcome that may be
pub some_proceeds : (e : Endpoint) (held : Held) (transfer : Transfer) → (o : Outcome) × ProceedsThenResends e held transfer o
some_proceeds e held transfer =
    let stepped : Outcome = step_outcome e e.core in
    let fast = any_fast stepped.after held transfer in
    let any = any_answers first_ask (packets_allowed fast.0.after.options.max_burst fast.0.after.core) fast.0.after (draft_to held) in
    let later : Outcome = behind [] fast.0.events (flush_of fast.0.after (draft_to held) any.0) in (
      behind [] stepped.events later,
      record { later = later; resends = record { fast = fast.0; resends = fast.1; answers = any.0; allowed = any.1; is = refl }; is = refl },
    )

proceeds_held : (e : Endpoint) (peer : Option Held) (found : Option Transfer) (held : Held) (transfer : Transfer) (o : Outcome) → peer ≡ Some held → found ≡ Some transfer → ProceedsThenResends e held transfer o
    → Proceeds e peer found o
proceeds_held e peer found held transfer o holds below h =
    subst (λ (p : Option Held). Proceeds e p found o) (sym holds) (subst (λ (t : Option Transfer). Proceeds e (Some held) t o) (sym below) h)

resends_held : (e : Endpoint) (peer : Option Held) (found : Option Transfer) (held : Held) (transfer : Transfer) (o : Outcome) → peer ≡ Some held → found ≡ Some transfer → Resends e peer found o
    → ResendsThenFlushes e held transfer o
resends_held e peer found held transfer o holds below h =
    subst (λ (t : Option Transfer). Resends e (Some held) t o) below (subst (λ (p : Option Held). Resends e p found o) holds h)

-- the whole, by the step and what follows it
both : {R : Type 0} (old : Context R) (mid : View R) (b : Below old.state) (later : Outcome) → mid.endpoint ≡ (step_turn (view_of old)).after → ResendsLost mid later
    → ProceedsWithShutdown (view_of old) (behind [] (step_turn (view_of old)).events later)
both old mid b later at second =
    let e : Endpoint = endpoint_of old in
    let stepped : Outcome = step_outcome e e.core in
    let keeps : StepKeeps e stepped = step_keeps e e.core refl in
    let there : Resends stepped.after (held_by_core stepped.after.core) stepped.after.queues.transfer later =
    subst (λ (x : Endpoint). Resends x (held_by_core x.core) x.queues.transfer later) at second in
    proceeds_held e (held_by_core e.core) (transfer_of old.state) b.held b.transfer (behind [] stepped.events later) b.holds b.below
    (record {
      later = later;
      resends = resends_held stepped.after (held_by_core stepped.after.core) stepped.after.queues.transfer b.held b.transfer later (keeps.holds ∙ b.holds) (keeps.below ∙ b.below) there;
      is = refl;
    })

-- There still is an association after the step.
pub stepped_held : {R : Type 0} (stream : R → Stream) (old mid : Context R) → is_some (transfer_of old.state) ≡ true → Moves stream (view_of old) (step_turn (view_of old)) (view_of mid)
    → is_some (transfer_of mid.state) ≡ true
stepped_held stream old mid some m =
    ap (λ (x : Endpoint). is_some x.queues.transfer) m.endpoint ∙ ap (λ (f : Option Transfer). is_some f) (step_keeps (endpoint_of old) (core_of old.state) refl).below ∙ some

-- refused in the step
pub proceed_cut : {R : Type 0} (old : Context R) (events : List (Event (List ℕ))) → is_some (transfer_of old.state) ≡ true → events ≡ (view_of old).events → CutsSomeTurn ProceedsWithShutdown (view_of old) events
proceed_cut old events some same =
    let b = below_of old.state some in
    let any = some_proceeds (endpoint_of old) b.held b.transfer in
    record {
      outcome = any.0;
      turn = proceeds_held (endpoint_of old) (held_by_core (core_of old.state)) (transfer_of old.state) b.held b.transfer any.0 b.holds b.below any.1;
      cut = cut_first (view_of old) any.0 events same;
    }

pub proceeded : {R : Type 0} (stream : R → Stream) (old mid new : Context R) → is_some (transfer_of old.state) ≡ true → Moves stream (view_of old) (step_turn (view_of old)) (view_of mid)
    → TakesPossibleTurn stream ResendsLost (view_of mid) (view_of new) → TakesPossibleTurn stream ProceedsWithShutdown (view_of old) (view_of new)
proceeded stream old mid new some first second =
    let b = below_of old.state some in
    let stepped : Outcome = step_turn (view_of old) in
    let keeps : StepKeeps (endpoint_of old) stepped = step_keeps (endpoint_of old) (core_of old.state) refl in
    record {
      outcome = behind [] stepped.events second.outcome;
      turn = both old (view_of mid) b second.outcome first.endpoint second.turn;
      moves = moves_behind stream (view_of old) (view_of mid) (view_of new) [] stepped.events second.outcome (fast_adds stream (view_of old) (view_of mid) stepped keeps.options first)
          (fast_draws stream (view_of old) (view_of mid) stepped keeps.words keeps.effects first) second.moves;
    }

pub proceed_cut_later : {R : Type 0} (stream : R → Stream) (old mid : Context R) (events : List (Event (List ℕ))) → is_some (transfer_of old.state) ≡ true
    → Moves stream (view_of old) (step_turn (view_of old)) (view_of mid) → CutsSomeTurn ResendsLost (view_of mid) events → CutsSomeTurn ProceedsWithShutdown (view_of old) events
proceed_cut_later stream old mid events some first second =
    let b = below_of old.state some in
    let stepped : Outcome = step_turn (view_of old) in
    let keeps : StepKeeps (endpoint_of old) stepped = step_keeps (endpoint_of old) (core_of old.state) refl in
    record {
      outcome = behind [] stepped.events second.outcome;
      turn = both old (view_of mid) b second.outcome first.endpoint second.turn;
      cut = cut_behind (view_of old) (view_of mid) [] stepped.events second.outcome events (fast_adds stream (view_of old) (view_of mid) stepped keeps.options first) second.cut;
    }
