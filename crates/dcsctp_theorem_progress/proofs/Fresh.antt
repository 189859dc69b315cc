-- Two sockets that were just made, of which one connects or both do: however many of their INITs are lost.
use Rattle.std.specs.Prelude.{min, ◌&&◌, ◌==◌, if◌then◌else◌}
use Rattle.std.proofs.lemmas.Bool.Decides.{nat_tests}
use Rattle.std.specs.Duration.{max_nanos}
use Rattle.std.proofs.Common.{◌≡◌, ◌≤◌, ℕ, suc, Bool, true, false, List, [], ◌∷◌, ◌++◌, refl, sym, subst, ◌∙◌, arith}
use Rattle.std.proofs.lemmas.List.{append-nil}
use Rattle.dcsctp_spec_lemmas.specs.types.declared.association.Pair.{Pair}
use Rattle.dcsctp_spec_lemmas.specs.types.declared.options.Options.{Options}
use Rattle.dcsctp_spec_lemmas.specs.types.declared.schedule.Side.{Side}
use Rattle.dcsctp_spec_lemmas.specs.types.declared.schedule.Side.TheVariants as sides
use Rattle.dcsctp_spec_lemmas.specs.types.Schedule.{connect_call, call_step, step_act}
use Rattle.dcsctp_spec_lemmas.specs.spec.endpoint.Endpoint.{fresh_endpoint, number_of_pair}
use Rattle.dcsctp_spec_lemmas.specs.spec.endpoint.Turn.{act_input}
use Rattle.dcsctp_spec_lemmas.specs.spec.endpoint.CallTurns.{Transition, transition, after_all, events_of}
use Rattle.dcsctp_spec_lemmas.specs.spec.endpoint.HandshakeOutcomes.{pair_from}
use Rattle.dcsctp_spec_lemmas.specs.spec.endpoint.TimeTurns.{TimePassesQuietly}
use Rattle.dcsctp_spec_lemmas.specs.spec.association.Acts.{connect}
use Rattle.dcsctp_spec_runs.specs.Sockets.{PerformedAct, Both, endpoint_after, turns_after, SocketRun, acts_of}
use Rattle.dcsctp_theorem_sockets.specs.Handshake.{other_side, connections_of_events}
use Rattle.dcsctp_theorem_progress.specs.LostInits.{KeepsOptions}
use Rattle.dcsctp_theorem_progress.specs.Retries.{LeavesRestarts, RetriesInit}
use Rattle.dcsctp_theorem_progress.specs.Connecting.{RestsWithoutTag, TakesOwn, MayConnect, a_tries, b_tries, both_try, connections_once_open, HaveConnected, Caller, one, both, calls_of, AllowRestarts, FreshSocketsConnect}
use Rattle.dcsctp_theorem_sockets.proofs.HandshakeTurns.{HandshakeLaws, Good, Begins, begins, connecting}
use Rattle.dcsctp_theorem_progress.proofs.Facts.{fits_drawn, secret_fits}
use Rattle.dcsctp_theorem_progress.proofs.Runs.{good_by}
use Rattle.dcsctp_theorem_progress.proofs.Views.{Done, one_done, BothDone, two_done, ran, ran_exchanges}
use Rattle.dcsctp_theorem_progress.proofs.Connected.{lost_rounds_are_made_good}
use Rattle.dcsctp_theorem_progress.proofs.Promise.{ran_lost}

never_with : (follows : Bool) → (follows && false) ≡ false
never_with true = refl
never_with false = refl

cut : (n limit : ℕ) → min n limit ≤ limit
cut n limit = omega arith

tries : (a : Options) (word next more : ℕ) → LeavesRestarts a.max_init_retransmits 0 more → RetriesInit (after_all (fresh_endpoint a) (transition (act_input connect) (connecting a word next) ∷ [])) (pair_from word next) more
tries a word next more left =
    record {
      core = refl;
      asks = never_with a.follow_rfc;
      pair = fits_drawn word next;
      t1 = record { timer = _; runs = refl; left = left; clock = omega arith; deadline = cut _ max_nanos };
    }

rests : (b : Options) → RestsWithoutTag (fresh_endpoint b)
rests b = record { rests = record { core = refl; unheld = refl; unpaused = tt; secret = omega arith }; anew = λ tag. never_with b.follow_rfc }

own_secret : (follows : Bool) (q : Pair) → 1 ≤ q.tag → let secret = if follows && true then number_of_pair q else 0 in (follows && secret == 0) ≡ false
own_secret true q some = grind (arith, nat_tests)
own_secret false q some = refl

takes : (a : Options) (word next : ℕ) → TakesOwn (after_all (fresh_endpoint a) (transition (act_input connect) (connecting a word next) ∷ [])) (pair_from word next)
takes a word next =
    let q : Pair = pair_from word next in
    record {
      unheld = refl;
      unpaused = tt;
      secret = secret_fits (fresh_endpoint a) q (fits_drawn word next) (omega arith);
      has_secret = own_secret a.follow_rfc q (fits_drawn word next).tag_is_not_zero;
      anew = never_with a.follow_rfc;
    }

-- ---- what was called

abbrev connected_at : Side → List Transition → PerformedAct
connected_at side turns = record { act = step_act (call_step side connect_call); turns = turns }

abbrev only : (a : Options) (turns : List Transition) → Begins a turns → List Transition
only a turns h = transition (act_input connect) (connecting a h.word h.next) ∷ []

-- After these calls one connects, or both do.
record Calls (options : Both Options) (called : List PerformedAct) (more : ℕ) : Type 0 where
  connects : MayConnect more (endpoint_after options.a (turns_after called).a) (endpoint_after options.b (turns_after called).b)
  keeps_a : KeepsOptions options.a (endpoint_after options.a (turns_after called).a)
  keeps_b : KeepsOptions options.b (endpoint_after options.b (turns_after called).b)
  told_a : connections_once_open (endpoint_after options.a (turns_after called).a).core (connections_of_events (events_of (turns_after called).a)) ≡ 1
  told_b : connections_once_open (endpoint_after options.b (turns_after called).b).core (connections_of_events (events_of (turns_after called).b)) ≡ 1

by_one : (options : Both Options) (side : Side) (more : ℕ) (turns : List Transition) → Good options.a → Good options.b → AllowRestarts options more (one side) → SocketRun options (connected_at side turns ∷ [])
    → Calls options (connected_at side turns ∷ []) more
by_one options sides.A more turns good_a good_b left runs =
    let h : Begins options.a turns = begins options.a turns good_a runs.0 in
    subst (λ (ts : List Transition). Calls options (connected_at sides.A ts ∷ []) more) (sym h.only)
    (record {
      connects = a_tries (pair_from h.word h.next) (tries options.a h.word h.next more left) (rests options.b);
      keeps_a = record { same = refl };
      keeps_b = record { same = refl };
      told_a = refl;
      told_b = refl;
    })
by_one options sides.B more turns good_a good_b left runs =
    let h : Begins options.b turns = begins options.b turns good_b runs.0 in
    subst (λ (ts : List Transition). Calls options (connected_at sides.B ts ∷ []) more) (sym h.only)
    (record {
      connects = b_tries (pair_from h.word h.next) (tries options.b h.word h.next more left) (rests options.a);
      keeps_a = record { same = refl };
      keeps_b = record { same = refl };
      told_a = refl;
      told_b = refl;
    })

-- both, whoever came first
begun_both : (options : Both Options) (more word next word' next' : ℕ) → LeavesRestarts options.a.max_init_retransmits 0 more → LeavesRestarts options.b.max_init_retransmits 0 more
    → MayConnect more (after_all (fresh_endpoint options.a) (transition (act_input connect) (connecting options.a word next) ∷ []))
    (after_all (fresh_endpoint options.b) (transition (act_input connect) (connecting options.b word' next') ∷ []))
begun_both options more word next word' next' left_a left_b =
    both_try (pair_from word next) (pair_from word' next') (tries options.a word next more left_a) (takes options.a word next) (tries options.b word' next' more left_b) (takes options.b word' next')

by_both : (options : Both Options) (side : Side) (more : ℕ) (first second : List Transition) → Good options.a → Good options.b → AllowRestarts options more (both side)
    → SocketRun options (connected_at (other_side side) second ∷ connected_at side first ∷ []) → Calls options (connected_at (other_side side) second ∷ connected_at side first ∷ []) more
by_both options sides.A more first second good_a good_b left runs =
    let h : Begins options.a first = begins options.a first good_a runs.1.0 in
    let i : Begins options.b second = begins options.b second good_b runs.0 in
    subst (λ (ts : List Transition). Calls options (connected_at sides.B ts ∷ connected_at sides.A first ∷ []) more) (sym i.only)
    (subst (λ (ts : List Transition). Calls options (connected_at sides.B (only options.b second i) ∷ connected_at sides.A ts ∷ []) more) (sym h.only)
    (record {
      connects = begun_both options more h.word h.next i.word i.next left.0 left.1;
      keeps_a = record { same = refl };
      keeps_b = record { same = refl };
      told_a = refl;
      told_b = refl;
    }))
by_both options sides.B more first second good_a good_b left runs =
    let h : Begins options.b first = begins options.b first good_b runs.1.0 in
    let i : Begins options.a second = begins options.a second good_a runs.0 in
    subst (λ (ts : List Transition). Calls options (connected_at sides.A ts ∷ connected_at sides.B first ∷ []) more) (sym i.only)
    (subst (λ (ts : List Transition). Calls options (connected_at sides.A (only options.a second i) ∷ connected_at sides.B ts ∷ []) more) (sym h.only)
    (record {
      connects = begun_both options more i.word i.next h.word h.next left.0 left.1;
      keeps_a = record { same = refl };
      keeps_b = record { same = refl };
      told_a = refl;
      told_b = refl;
    }))

calls : (options : Both Options) (who : Caller) (more : ℕ) (called : List PerformedAct) → Good options.a → Good options.b → AllowRestarts options more who → acts_of called ≡ calls_of who → SocketRun options called
    → Calls options called more
calls options (one side) more called good_a good_b left is runs =
    let d : Done [] (step_act (call_step side connect_call)) (called ++ []) = one_done called (step_act (call_step side connect_call)) [] is in
    let same : called ≡ connected_at side d.turns ∷ [] = sym (append-nil called) ∙ d.is in
    subst (λ (run : List PerformedAct). Calls options run more) (sym same) (by_one options side more d.turns good_a good_b left (subst (SocketRun options) same runs))
calls options (both side) more called good_a good_b left is runs =
    let d : BothDone [] (step_act (call_step side connect_call)) (step_act (call_step (other_side side) connect_call)) (called ++ []) = two_done called _ _ [] is in
    let same : called ≡ connected_at (other_side side) d.more ∷ connected_at side d.turns ∷ [] = sym (append-nil called) ∙ d.is in
    subst (λ (run : List PerformedAct). Calls options run more) (sym same) (by_both options side more d.turns d.more good_a good_b left (subst (SocketRun options) same runs))

-- ---- the law

pub fresh_sockets_connect : HandshakeLaws → TimePassesQuietly → FreshSocketsConnect
fresh_sockets_connect law time options run are fit runs who lost settled called between left is rounds quiet =
    let good = good_by options are fit in
    let then_runs : SocketRun options between = ran options between _ quiet.between quiet.time (ran_exchanges options 4 _ quiet.between settled run quiet.exchanges runs) in
    let first : SocketRun options called = ran_lost options lost called between rounds then_runs in
    let h : Calls options called (suc lost) = calls options who (suc lost) called good.0 good.1 left is first in
    let ends : HaveConnected options (turns_after called) (turns_after run) = lost_rounds_are_made_good law time options run are fit runs lost settled called between h.keeps_a h.keeps_b h.connects rounds quiet in
    record {
      a_pair = ends.p;
      b_pair = ends.q;
      a = record { core = ends.linked.here; once = ends.told_a ∙ h.told_a };
      b = record { core = ends.linked.there; once = ends.told_b ∙ h.told_b };
    }
