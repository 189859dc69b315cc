-- Each association that a socket records of a handshake differs from the one before.
use Rattle.std.proofs.Common.{◌≡◌, List, [], ◌∷◌, inl, refl, sym, subst, ◌∙◌}
use Rattle.dcsctp_spec_lemmas.specs.types.declared.options.Options.{Options}
use Rattle.dcsctp_spec_lemmas.specs.spec.endpoint.Endpoint.{Endpoint, Core, closed, cookie_wait, cookie_echoed, open_in, fresh_endpoint}
use Rattle.dcsctp_spec_lemmas.specs.spec.association.Effect.{Effect, draws, sends, holds, connects, ends, begins, gives_up, completes, fails, accepts, performs, renews, resumes, effects_without_packets, Change, identity_of_core}
use Rattle.dcsctp_spec_lemmas.specs.spec.endpoint.CallTurns.{Transition}
use Rattle.dcsctp_spec_runs.specs.Past.{HasEffect, Each, current}
use Rattle.dcsctp_spec_runs.specs.World.{SideState, after_effects, after_changes, ControlTurns, SideRun, side_after}
use Rattle.dcsctp_spec_runs.specs.Sockets.{of_side, turns_after}
use Rattle.dcsctp_theorem_association.specs.OneSide.{LeavesCore, PastIsState}
use Rattle.dcsctp_theorem_sockets.specs.Telling.{RecordsOnlyNew, IsNewRecord, SocketsRecordOnlyNew}
use Rattle.dcsctp_theorem_sockets.proofs.NewAssociations.{New, change_anew}
use Rattle.dcsctp_theorem_sockets.proofs.NoHolding.{HoldsNone}
use Rattle.dcsctp_theorem_sockets.proofs.NotedLemmas.{current-noted}
use Rattle.dcsctp_theorem_sockets.proofs.OneSocket.{noted_happened}
use Rattle.dcsctp_theorem_sockets.proofs.SocketsAlone.{Moves, it_rests, it_moves, MoveLaws, of_moves, RunsOn, runs_alone}

-- ---- a turn

notes_anew : (e : Endpoint) (t : Transition) → Moves e t.outcome → RecordsOnlyNew e t
notes_anew e t (it_rests core options effects told) link has = absurd (subst (HasEffect (holds link)) effects has)
notes_anew e t (it_moves change turn is) link has =
    (change_anew e.options e.core change turn).anew link (noted_happened (holds link) change.effects (subst (HasEffect (holds link)) is.effects has))

-- ---- what one side did

-- Where no association is made, there is nothing to show.
none_is_anew : (effects past : List Effect) → HoldsNone effects → Each IsNewRecord past → Each IsNewRecord (after_effects effects past)
none_is_anew [] past none each = each
none_is_anew (holds link ∷ effects) past none each = absurd none.0
none_is_anew (draws pair ∷ effects) past none each = none_is_anew effects (draws pair ∷ past) none.1 (tt, each)
none_is_anew (sends packet ∷ effects) past none each = none_is_anew effects (sends packet ∷ past) none.1 (tt, each)
none_is_anew (connects link ∷ effects) past none each = none_is_anew effects (connects link ∷ past) none.1 (tt, each)
none_is_anew (ends ∷ effects) past none each = none_is_anew effects (ends ∷ past) none.1 (tt, each)
none_is_anew (begins number ∷ effects) past none each = none_is_anew effects (begins number ∷ past) none.1 (tt, each)
none_is_anew (gives_up number ∷ effects) past none each = none_is_anew effects (gives_up number ∷ past) none.1 (tt, each)
none_is_anew (completes my number ∷ effects) past none each = none_is_anew effects (completes my number ∷ past) none.1 (tt, each)
none_is_anew (fails number ∷ effects) past none each = none_is_anew effects (fails number ∷ past) none.1 (tt, each)
none_is_anew (accepts number ∷ effects) past none each = none_is_anew effects (accepts number ∷ past) none.1 (tt, each)
none_is_anew (performs peer number ∷ effects) past none each = none_is_anew effects (performs peer number ∷ past) none.1 (tt, each)
none_is_anew (renews peer number ∷ effects) past none each = none_is_anew effects (renews peer number ∷ past) none.1 (tt, each)
none_is_anew (resumes link own last ∷ effects) past none each = none_is_anew effects (resumes link own last ∷ past) none.1 (tt, each)

-- the association that the past leaves is the one that is there
current_is : (past : List Effect) (core : Core) → LeavesCore past core → current past ≡ identity_of_core core
current_is past closed h = h
current_is past (cookie_wait my) h = h
current_is past (cookie_echoed my held cookie) h = h.link
current_is past (open_in phase my held) h = h.link

first_is_anew : (core : Core) (effect : Effect) (effects past : List Effect) → current past ≡ identity_of_core core → New core (effect ∷ effects) → Each IsNewRecord past → Each IsNewRecord (effect ∷ past)
first_is_anew core (holds link) effects past is new each = (λ same. new.anew link (inl refl) (sym is ∙ same), each)
first_is_anew core effect effects past is new each = (tt, each)

effects_are_anew : (core : Core) (effects past : List Effect) → current past ≡ identity_of_core core → New core effects → Each IsNewRecord past → Each IsNewRecord (after_effects effects past)
effects_are_anew core [] past is new each = each
effects_are_anew core (effect ∷ effects) past is new each = none_is_anew effects (effect ∷ past) new.first (first_is_anew core effect effects past is new each)

changes_are_anew : PastIsState → (options : Options) (changes : List Change) (earlier : List (List Change)) → SideRun options earlier
    → ControlTurns options (side_after options earlier).core changes → Each IsNewRecord (side_after options earlier).past
    → Each IsNewRecord (after_changes (side_after options earlier) changes).past
changes_are_anew law options [] earlier run turns each = each
changes_are_anew law options (change ∷ changes) earlier run turns each =
    let side : SideState = side_after options earlier in
    changes_are_anew law options changes ((change ∷ []) ∷ earlier) ((turns.0, tt), run) turns.1
    (effects_are_anew side.core change.effects side.past (current_is side.past side.core (law options earlier run)) (change_anew options side.core change turns.0) each)

steps_are_anew : PastIsState → (options : Options) (steps : List (List Change)) → SideRun options steps → Each IsNewRecord (side_after options steps).past
steps_are_anew law options [] run = tt
steps_are_anew law options (changes ∷ earlier) run = changes_are_anew law options changes earlier run.1 run.0 (steps_are_anew law options earlier run.1)

-- ---- without packets

anew-noted : (past : List Effect) → Each IsNewRecord past → Each IsNewRecord (effects_without_packets past)
anew-noted [] each = tt
anew-noted (draws pair ∷ past) each = (tt, anew-noted past each.1)
anew-noted (sends packet ∷ past) each = anew-noted past each.1
anew-noted (holds link ∷ past) each = (λ same. each.0 (sym (current-noted past) ∙ same), anew-noted past each.1)
anew-noted (connects link ∷ past) each = (tt, anew-noted past each.1)
anew-noted (ends ∷ past) each = (tt, anew-noted past each.1)
anew-noted (begins number ∷ past) each = (tt, anew-noted past each.1)
anew-noted (gives_up number ∷ past) each = (tt, anew-noted past each.1)
anew-noted (completes my number ∷ past) each = (tt, anew-noted past each.1)
anew-noted (fails number ∷ past) each = (tt, anew-noted past each.1)
anew-noted (accepts number ∷ past) each = (tt, anew-noted past each.1)
anew-noted (performs peer number ∷ past) each = (tt, anew-noted past each.1)
anew-noted (renews peer number ∷ past) each = (tt, anew-noted past each.1)
anew-noted (resumes link own last ∷ past) each = (tt, anew-noted past each.1)

-- ---- a run

pub anew_is_noted : MoveLaws → PastIsState → SocketsRecordOnlyNew
anew_is_noted law leaves options run are runs side =
    let own : Options = of_side side options in
    let alone : RunsOn own (of_side side (turns_after run)) (fresh_endpoint own) [] = runs_alone law options run are runs side in
    record {
      by_turns = of_moves law RecordsOnlyNew notes_anew options run are runs side;
      by_notes = subst (Each IsNewRecord) alone.past (anew-noted (side_after own alone.steps).past (steps_are_anew leaves own alone.steps alone.is_run));
    }
