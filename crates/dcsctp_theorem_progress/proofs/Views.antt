-- What each side is after its turns, and what it has shown; and what an act of a round adds.
use Rattle.std.specs.Prelude.{min, reverse}
use Rattle.std.proofs.Common.{◌≡◌, ℕ, zero, suc, List, [], ◌∷◌, ◌++◌, refl, sym, subst, ap, ◌∙◌}
use Rattle.dcsctp_spec_lemmas.specs.types.declared.options.Options.{Options}
use Rattle.dcsctp_spec_lemmas.specs.types.declared.schedule.Side.{Side}
use Rattle.dcsctp_spec_lemmas.specs.types.declared.schedule.Side.TheVariants as sides
use Rattle.dcsctp_spec_lemmas.specs.types.Schedule.{advance_call, call_step, ActContent, step_act}
use Rattle.dcsctp_spec_lemmas.specs.spec.endpoint.Event.{Event, connected}
use Rattle.dcsctp_spec_lemmas.specs.spec.endpoint.Endpoint.{Endpoint, fresh_endpoint}
use Rattle.dcsctp_spec_lemmas.specs.spec.endpoint.CallTurns.{Transition, after_all, events_of}
use Rattle.dcsctp_spec_lemmas.specs.spec.endpoint.TimeTurns.{AdvanceTurns, next_moment}
use Rattle.dcsctp_spec_lemmas.proofs.TurnLists.{after_all-append, events_of-append}
use Rattle.dcsctp_spec_runs.specs.Sockets.{PerformedAct, Both, endpoint_after, packets_shown, turns_after, SocketRun, acts_of}
use Rattle.dcsctp_theorem_sockets.specs.Handshake.{connections_of_events}
use Rattle.dcsctp_theorem_progress.specs.Rounds.{ActsFollow, lesser_moment, AdvancesBothClocks, Exchanges}
use Rattle.dcsctp_theorem_progress.proofs.Runs.{shown_then}

-- ---- views

-- what a side is, what it has shown, and how often it told OnConnected
pub record View : Type 0 where
  pub endpoint : Endpoint
  pub shown : List (List ℕ)
  pub told : ℕ

abbrev pub view : Options → List Transition → View
view options turns = record { endpoint = endpoint_after options turns; shown = packets_shown options turns; told = connections_of_events (events_of turns) }

-- so often, and with these events too
abbrev pub told_then : {P : Type 0} → List (Event P) → ℕ → ℕ
told_then [] n = n
told_then (connected ∷ events) n = suc (told_then events n)
told_then (event ∷ events) n = told_then events n

-- after these turns more
abbrev pub view_then : View → List Transition → View
view_then v turns =
    record { endpoint = after_all v.endpoint turns; shown = v.shown ++ packets_shown v.endpoint.options turns; told = told_then (events_of turns) v.told }

pub one_before : {P : Type 0} (ys : List (Event P)) (n : ℕ) → told_then ys (suc n) ≡ suc (told_then ys n)
one_before [] n = refl
one_before (connected ∷ ys) n = ap suc (one_before ys n)
one_before (event ∷ ys) n = one_before ys n

told_alone : {P : Type 0} (ys : List (Event P)) → connections_of_events ys ≡ told_then ys 0
told_alone [] = refl
told_alone (connected ∷ ys) = ap suc (told_alone ys)
told_alone (event ∷ ys) = told_alone ys

connections-append : {P : Type 0} (xs ys : List (Event P)) → connections_of_events (xs ++ ys) ≡ told_then ys (connections_of_events xs)
connections-append [] ys = told_alone ys
connections-append (connected ∷ xs) ys = ap suc (connections-append xs ys) ∙ sym (one_before ys (connections_of_events xs))
connections-append (event ∷ xs) ys = connections-append xs ys

view_by : (e f : Endpoint) (xs ys : List (List ℕ)) (m n : ℕ) → e ≡ f → xs ≡ ys → m ≡ n →
    let left : View = record { endpoint = e; shown = xs; told = m } in
    let right : View = record { endpoint = f; shown = ys; told = n } in
    left ≡ right
view_by e f xs ys m n a b c = cc

more_viewed : (options : Options) (turns more : List Transition) → (endpoint_after options turns).options ≡ options → view options (turns ++ more) ≡ view_then (view options turns) more
more_viewed options turns more same =
    view_by _ _ _ _ _ _ (after_all-append (fresh_endpoint options) turns more) (shown_then options (endpoint_after options turns).options turns more same)
    (ap connections_of_events (events_of-append turns more) ∙ connections-append (events_of turns) (events_of more))

pub viewed_then : (options : Options) (turns more : List Transition) (v : View) → view options turns ≡ v → v.endpoint.options ≡ options → view options (turns ++ more) ≡ view_then v more
viewed_then options turns more v is same =
    more_viewed options turns more (ap (λ (x : View). x.endpoint.options) is ∙ same) ∙ ap (λ (x : View). view_then x more) is

-- After the run A is seen so, and B so.
pub record At (options : Both Options) (run : List PerformedAct) (v w : View) : Type 0 where
  pub a : view options.a (turns_after run).a ≡ v
  pub b : view options.b (turns_after run).b ≡ w

-- The options of both are those that they were made with.
pub record Keep (options : Both Options) (v w : View) : Type 0 where
  pub a : v.endpoint.options ≡ options.a
  pub b : w.endpoint.options ≡ options.b

-- this side, and the other
abbrev pub AtOf : Side → Both Options → List PerformedAct → View → View → Type 0
AtOf sides.A options run v w = At options run v w
AtOf sides.B options run v w = At options run w v

abbrev pub KeepOf : Side → Both Options → View → View → Type 0
KeepOf sides.A options v w = Keep options v w
KeepOf sides.B options v w = Keep options w v

-- ---- single acts

pub record Done (earlier : List PerformedAct) (act : ActContent) (run : List PerformedAct) : Type 0 where
  pub turns : List Transition
  pub is : run ≡ record { act = act; turns = turns } ∷ earlier

first_is : (x y : ActContent) (xs ys : List ActContent) → x ∷ xs ≡ y ∷ ys → x ≡ y
first_is x y xs ys same = cc

rest_is : (x y : ActContent) (xs ys : List ActContent) → x ∷ xs ≡ y ∷ ys → xs ≡ ys
rest_is x y xs ys same = cc

pub one_done : (more : List PerformedAct) (act : ActContent) (earlier : List PerformedAct) → acts_of more ≡ act ∷ [] → Done earlier act (more ++ earlier)
one_done [] act earlier same = absurd (cc)
one_done (w ∷ u ∷ ws) act earlier same = absurd (cc)
one_done (w ∷ []) act earlier same = record { turns = w.turns; is = ap (λ (x : ActContent). record { act = x; turns = w.turns } ∷ earlier) (first_is _ _ _ _ same) }

pub follows_one : (earlier : List PerformedAct) (acts : List ActContent) (run : List PerformedAct) (act : ActContent) → ActsFollow earlier acts run → acts ≡ act ∷ [] → Done earlier act run
follows_one earlier acts run act h is = subst (Done earlier act) (sym h.is) (one_done h.more act earlier (h.are ∙ ap reverse is))

pub record BothDone (earlier : List PerformedAct) (first second : ActContent) (run : List PerformedAct) : Type 0 where
  pub turns : List Transition
  pub more : List Transition
  pub is : run ≡ record { act = second; turns = more } ∷ record { act = first; turns = turns } ∷ earlier

pub two_done : (more : List PerformedAct) (first second : ActContent) (earlier : List PerformedAct) → acts_of more ≡ second ∷ first ∷ [] → BothDone earlier first second (more ++ earlier)
two_done [] first second earlier same = absurd (cc)
two_done (w ∷ []) first second earlier same = absurd (cc)
two_done (w ∷ u ∷ t ∷ ws) first second earlier same = absurd (cc)
two_done (w ∷ u ∷ []) first second earlier same =
    record {
      turns = u.turns;
      more = w.turns;
      is = ap (λ (x : ActContent). record { act = x; turns = w.turns } ∷ u ∷ earlier) (first_is _ _ _ _ same)
          ∙ ap (λ (x : ActContent). record { act = second; turns = w.turns } ∷ record { act = x; turns = u.turns } ∷ earlier) (first_is _ _ _ _ (rest_is _ _ _ _ same));
    }

pub follows_two : (earlier : List PerformedAct) (first second : ActContent) (run : List PerformedAct) → ActsFollow earlier (first ∷ second ∷ []) run → BothDone earlier first second run
follows_two earlier first second run h = subst (BothDone earlier first second) (sym h.is) (two_done h.more first second earlier h.are)

-- ---- time

-- Both clocks have gone to this moment.
pub record Moved (options : Both Options) (run : List PerformedAct) (v w : View) (moment : ℕ) : Type 0 where
  pub here : List Transition
  pub there : List Transition
  pub here_turns : AdvanceTurns v.endpoint moment here
  pub there_turns : AdvanceTurns w.endpoint moment there
  pub at : At options run (view_then v here) (view_then w there)

abbrev pub lesser : View → View → ℕ
lesser v w = min (next_moment v.endpoint) (next_moment w.endpoint)

abbrev timed : ℕ → List Transition → List Transition → List PerformedAct → List PerformedAct
timed moment here there earlier =
    record { act = step_act (call_step sides.B (advance_call moment)); turns = there } ∷ record { act = step_act (call_step sides.A (advance_call moment)); turns = here } ∷ earlier

moved_by : (options : Both Options) (earlier : List PerformedAct) (v w : View) (moment : ℕ) (here there : List Transition) → At options earlier v w → Keep options v w
    → SocketRun options (timed moment here there earlier) → Moved options (timed moment here there earlier) v w moment
moved_by options earlier v w moment here there at keep runs =
    record {
      here = here;
      there = there;
      here_turns = subst (λ (x : View). AdvanceTurns x.endpoint moment here) at.a runs.1.0;
      there_turns = subst (λ (x : View). AdvanceTurns x.endpoint moment there) at.b runs.0;
      at = record { a = viewed_then options.a (turns_after earlier).a here v at.a keep.a; b = viewed_then options.b (turns_after earlier).b there w at.b keep.b };
    }

pub time_moves : (options : Both Options) (earlier run : List PerformedAct) (v w : View) → At options earlier v w → Keep options v w → AdvancesBothClocks options earlier run → SocketRun options run
    → Moved options run v w (lesser v w)
time_moves options earlier run v w at keep time runs =
    let now : ℕ = lesser_moment options (turns_after earlier) in
    let is : now ≡ lesser v w = ap (λ (x : View). lesser x (view options.b (turns_after earlier).b)) at.a ∙ ap (lesser v) at.b in
    let h : BothDone earlier (step_act (call_step sides.A (advance_call now))) (step_act (call_step sides.B (advance_call now))) run = follows_two earlier _ _ run time in
    subst (Moved options run v w) is
    (subst (λ (r : List PerformedAct). Moved options r v w now) (sym h.is) (moved_by options earlier v w now h.turns h.more at keep (subst (SocketRun options) h.is runs)))

-- what ran before
pub ran_before : (options : Both Options) (more earlier : List PerformedAct) → SocketRun options (more ++ earlier) → SocketRun options earlier
ran_before options [] earlier runs = runs
ran_before options (worked ∷ more) earlier runs = ran_before options more earlier runs.1

pub ran : (options : Both Options) (earlier : List PerformedAct) (acts : List ActContent) (run : List PerformedAct) → ActsFollow earlier acts run → SocketRun options run → SocketRun options earlier
ran options earlier acts run h runs = ran_before options h.more earlier (subst (SocketRun options) h.is runs)

pub ran_exchanges : (options : Both Options) (n : ℕ) (settled : Both ℕ) (earlier : List PerformedAct) (settled' : Both ℕ) (run : List PerformedAct) → Exchanges options n settled earlier settled' run
    → SocketRun options run → SocketRun options earlier
ran_exchanges options zero settled earlier settled' run h runs = subst (SocketRun options) h.1 runs
ran_exchanges options (suc n) settled earlier settled' run h runs = ran options earlier _ h.0 h.1 (ran_exchanges options n _ h.0 settled' run h.2 runs)
