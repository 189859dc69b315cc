-- What the calls of a world do, from what its parts do.
use Rattle.std.proofs.Common.{◌≡◌, ℕ, zero, suc, ◌+◌, ◌<◌, arith, take, drop, get_or, length, Bool, true, false, Result, Ok, Err, IsErrAnd, List, [], ◌∷◌, ◌++◌, map, refl, sym, ap, subst, ◌∙◌, append_assoc, inl}
use Rattle.std.proofs.lemmas.List.{append-nil, map-append, take_more}
use Rattle.rand_core.specs.Stream.{Stream}
use Rattle.dcsctp_core.specs.types.declared.schedule.Side.{Side}
use Rattle.dcsctp_core.specs.types.declared.schedule.Side.TheVariants as sides
use Rattle.dcsctp_core.specs.types.declared.schedule.Step.{Step}
use Rattle.dcsctp_core.specs.spec.endpoint.Event.{Event, packets_of_events}
use Rattle.dcsctp_core.specs.types.Settings.{ports_of}
use Rattle.dcsctp_core.specs.spec.endpoint.Endpoint.{association_of}
use Rattle.dcsctp_core.specs.spec.endpoint.CallTurns.{Transition, events_of, words_of, pairs_of}
use Rattle.dcsctp_spec_runs.specs.SoundRuns.{SocketsStaySound}
use Rattle.dcsctp_spec_runs.specs.Sockets.{Both, of_side, of_other, side_of_act, TurnsOfAct}
use Rattle.dcsctp_theorem_sockets.specs.CookieLaws.{CookieLaws}
use Rattle.dcsctp_theorem_progress.specs.Laws.{ProgressLaws}
use Rattle.dcsctp_theorem_sockets.specs.Laws.{SocketLaws}
use Rattle.dcsctp_theorem_sockets.specs.Restores.{RestoredSocketsBeginNothing}
use Rattle.dcsctp_delivery_sockets.specs.sockets.ShownDelivery.{UsersReadWhatWasSent}
use Rattle.dcsctp_delivery_recovery.specs.Laws.{RecoveryLaws}
use Rattle.dcsctp_theorem_transfer.specs.Laws.{TransferLaws}
use Rattle.dcsctp_delivery_sockets.specs.sockets.Delivery.{FitsAct}
use Rattle.dcsctp_delivery_sockets.specs.sockets.UserMessages.{messages_of_turns, read_of}
use Rattle.dcsctp_core.specs.api.declared.errors.SocketFault.{SocketFault}
use Rattle.dcsctp_core.specs.api.declared.errors.SocketFault.TheVariants.{OutOfMemory, Failed}
use Rattle.dcsctp_core.specs.api.Calls.{user_event}
use Rattle.dcsctp_core.specs.types.declared.schedule.Act.{Act}
use Rattle.dcsctp_core.specs.types.Schedule.{StepContent, ActContent, step_content, step_act}
use Rattle.dcsctp_world.specs.declared.act.Reply.{Reply}
use Rattle.dcsctp_world.specs.declared.watched_socket.WatchedSocket.{WatchedSocket}
use Rattle.dcsctp_world.specs.Shown.{ShownSide, WorldView, options_of}
use Rattle.dcsctp_world.specs.Growth.{Grows, SideExtends, with_association}
use Rattle.dcsctp_world.specs.Drawing.{AreWhole}
use Rattle.dcsctp_world.specs.Promises.{Promises}
use Rattle.dcsctp_world.specs.Recording.{Recording, recorded_stream}
use Rattle.dcsctp_world.specs.Run.{IsRun, GoesWell}
use Rattle.dcsctp_world.specs.Continuing.{Continues}
use Rattle.dcsctp_world.specs.Acts.{ActMoves, AppliesSteps, BothExtend, with_associations, AppliesAct, AppliesWithPromises, Applies, AppliesOrFails, WorldExtends, ActRanOutOfMemory, Ran, RunsSteps}
use Rattle.dcsctp_world.specs.Parts.{both, world_of}
use Rattle.dcsctp_world.proofs.Agreeing.{world_keeps}
use Rattle.dcsctp_world.proofs.ComingBack.{both_sound, restores_by}
use Rattle.dcsctp_world.proofs.Drawing.{applied_draws}
use Rattle.dcsctp_world.proofs.Keeping.{extends_itself, extends_by, extends_further}
use Rattle.dcsctp_world.proofs.Running.{shows_next, is_run_next, is_run_options, is_run_of_own, continues_further, continues_itself}
use Rattle.dcsctp_world.proofs.Stopping.{shows_nothing}

-- ---- each list begins with what it held

side_extends_itself : {R : Type 0} (side : ShownSide R) → SideExtends side side
side_extends_itself side =
    record {
      events = extends_itself side.events;
      packets = extends_itself side.packets;
      words = extends_itself side.words;
      pairs = extends_itself side.pairs;
      sent = extends_itself side.sent;
      read = extends_itself side.read;
      associations = extends_itself side.associations;
    }

side_extends_further : {R : Type 0} (a b c : ShownSide R) → SideExtends a b → SideExtends b c → SideExtends a c
side_extends_further a b c first second =
    record {
      events = extends_further a.events b.events c.events first.events second.events;
      packets = extends_further a.packets b.packets c.packets first.packets second.packets;
      words = extends_further a.words b.words c.words first.words second.words;
      pairs = extends_further a.pairs b.pairs c.pairs first.pairs second.pairs;
      sent = extends_further a.sent b.sent c.sent first.sent second.sent;
      read = extends_further a.read b.read c.read first.read second.read;
      associations = extends_further a.associations b.associations c.associations first.associations second.associations;
    }

same_side_extends : {R : Type 0} (old new : ShownSide R) → new ≡ old → SideExtends old new
same_side_extends {R = R} old new same = subst (λ (s : ShownSide R). SideExtends old s) (sym same) (side_extends_itself old)

grows_extends : {R : Type 0} {stream : R → Stream} {answer : Reply} (Turns : List Transition → Type 0) (old new : ShownSide R) → Grows stream Turns answer old new → SideExtends old new
grows_extends Turns old new grows =
    let told : List (Event (List _)) = map (user_event (ports_of old.socket.view.endpoint.options)) (events_of grows.turns) in
    record {
      events = extends_by told grows.events;
      packets = extends_by (packets_of_events told) grows.packets;
      words = extends_by (words_of grows.turns) grows.words;
      pairs = extends_by (pairs_of grows.turns) grows.pairs;
      sent = extends_by (messages_of_turns old.socket.view.endpoint grows.turns) grows.sent;
      read = extends_by (read_of old.socket.view.endpoint grows.turns) grows.read;
      associations = extends_by [] (grows.associations ∙ sym (append-nil old.associations));
    }

moves_extend_at : {R : Type 0} {stream : R → Stream} {answer : Reply} (Turns : List Transition → Type 0) (mover : Side) (old moved : Both (ShownSide R))
    → Grows stream Turns answer (of_side mover old) (of_side mover moved) → of_other mover moved ≡ of_other mover old → BothExtend old moved
moves_extend_at Turns sides.A old moved grows stays = record { a = grows_extends Turns old.a moved.a grows; b = same_side_extends old.b moved.b stays }
moves_extend_at Turns sides.B old moved grows stays = record { a = same_side_extends old.a moved.a stays; b = grows_extends Turns old.b moved.b grows }

moves_extend : {R : Type 0} (stream : R → Stream) (act : ActContent) (reply : Reply) (old moved : Both (ShownSide R)) → ActMoves stream act reply old moved → BothExtend old moved
moves_extend stream act reply old moved moves =
    moves_extend_at (TurnsOfAct (of_side (side_of_act act) old).socket.view.endpoint (of_other (side_of_act act) old).packets act) (side_of_act act) old moved moves.grows moves.other_stays

-- an act moved its side, and then both grew further
moved_extend : {R : Type 0} (stream : R → Stream) (act : ActContent) (reply : Reply) (old moved new : Both (ShownSide R)) → ActMoves stream act reply old moved
    → SideExtends moved.a new.a → SideExtends moved.b new.b → BothExtend old new
moved_extend stream act reply old moved new moves a b =
    let first : BothExtend old moved = moves_extend stream act reply old moved moves in
    record { a = side_extends_further old.a moved.a new.a first.a a; b = side_extends_further old.b moved.b new.b first.b b }

pub world_extends_further : {R : Type 0} (a b c : WorldView R) → WorldExtends a b → WorldExtends b c → WorldExtends a c
world_extends_further a b c first second =
    record {
      sides = record {
        a = side_extends_further a.sides.a b.sides.a c.sides.a first.sides.a second.sides.a;
        b = side_extends_further a.sides.b b.sides.b c.sides.b first.sides.b second.sides.b;
      };
      acts = extends_further a.acts b.acts c.acts first.acts second.acts;
    }

-- the association is recorded
noted_side_extends : {R : Type 0} (side new : ShownSide R) → new ≡ with_association side → SideExtends side new
noted_side_extends {R = R} side new is =
    subst (λ (s : ShownSide R). SideExtends side s) (sym is)
    (record {
      events = extends_itself side.events;
      packets = extends_itself side.packets;
      words = extends_itself side.words;
      pairs = extends_itself side.pairs;
      sent = extends_itself side.sent;
      read = extends_itself side.read;
      associations = extends_by (association_of side.socket.view.endpoint.core ∷ []) refl;
    })

applied_extends : {R : Type 0} (stream : R → Stream) (act : ActContent) (reply : Reply) (old new : WorldView R) → AppliesAct stream act reply old new → WorldExtends old new
applied_extends {R = R} stream act reply old new applied =
    record {
      sides = moved_extend stream act reply old.sides applied.moved new.sides applied.moves
          (noted_side_extends applied.moved.a new.sides.a (ap (λ (both : Both (ShownSide R)). both.a) applied.sides))
          (noted_side_extends applied.moved.b new.sides.b (ap (λ (both : Both (ShownSide R)). both.b) applied.sides));
      acts = extends_by (act ∷ []) applied.acts;
    }

-- ---- an act

pub both_noted : {R : Type 0} (moved new : Both (ShownSide R)) → new.a ≡ (with_associations moved).a → new.b ≡ (with_associations moved).b → new ≡ with_associations moved
both_noted {R = R} moved new a b =
    ap (λ (s : ShownSide R). let both : Both (ShownSide R) = record { a = s; b = new.b } in both) a
    ∙ ap (λ (s : ShownSide R). let both : Both (ShownSide R) = record { a = (with_associations moved).a; b = s } in both) b

-- the laws that hold of every run
pub record KnownLaws : Type 0 where
  pub sockets : SocketLaws
  pub cookies : CookieLaws
  pub delivery : UsersReadWhatWasSent
  pub transfers : TransferLaws
  pub recovery : RecoveryLaws
  pub progress : ProgressLaws
  pub sound : SocketsStaySound
  pub restores : RestoredSocketsBeginNothing

applied_next : {R : Type 0} (stream : R → Stream) → KnownLaws → (act : ActContent) (reply : Reply) (old new : WorldView (Recording R)) → FitsAct act → GoesWell old
    → AppliesAct (recorded_stream stream) act reply old new → AreWhole new.sides → AppliesWithPromises stream act reply old new
applied_next stream laws act reply old new fits well applied whole =
    let run : IsRun (options_of old) new = is_run_next (recorded_stream stream) (options_of old) act reply old new fits well.is_run applied in
    record {
      applied = applied;
      drawn = applied_draws (recorded_stream stream) act reply old new applied;
      options = is_run_options (options_of old) new run;
      restores = restores_by (recorded_stream stream) laws.restores act reply old new (both_sound laws.sound (options_of old) old well.is_run) applied;
      continues = λ options earlier. shows_next (recorded_stream stream) options act reply old new fits earlier applied;
      keeps = world_keeps laws.sockets laws.cookies laws.delivery laws.transfers laws.recovery laws.progress new (record { is_run = is_run_of_own (options_of old) new run; whole = whole });
    }

-- the world's own flag doesn't matter where it is not set
pub act_applied : {R : Type 0} (stream : R → Stream) → KnownLaws → (act : ActContent) (reply : Reply) (a b new_a new_b : WatchedSocket (Recording R)) (made new_made : List Act)
    (failed : Bool) → failed ≡ false → FitsAct act → (failed ≡ false → GoesWell (world_of a b made failed))
    → AppliesAct (recorded_stream stream) act reply (world_of a b made false) (world_of new_a new_b new_made false) → AreWhole (both new_a new_b)
    → AppliesWithPromises stream act reply (world_of a b made failed) (world_of new_a new_b new_made failed)
act_applied stream laws act reply a b new_a new_b made new_made true is fits invariant applied whole = absurd (cc)
act_applied stream laws act reply a b new_a new_b made new_made false is fits invariant applied whole =
    applied_next stream laws act reply (world_of a b made false) (world_of new_a new_b new_made false) fits (invariant refl) applied whole

-- an act that failed: no socket of the world had failed before, so an allocation failed
pub ran_out_in : {R : Type 0} (stream : R → Stream) (act : ActContent) (fault : SocketFault) (a b new_a new_b : WatchedSocket R) (made new_made : List Act) (failed : Bool)
    → failed ≡ false → (failed ≡ false → IsRun (options_of (world_of a b made failed)) (world_of a b made failed))
    → AppliesOrFails stream act (world_of a b made false) (Err fault) (world_of new_a new_b new_made false)
    → ActRanOutOfMemory act (world_of a b made failed) (world_of new_a new_b new_made true)
ran_out_in stream act OutOfMemory a b new_a new_b made new_made failed is invariant stops = record { runs = is; fails = refl; stops = stops.0; acts = stops.1 }
ran_out_in stream act Failed a b new_a new_b made new_made failed is invariant had_failed =
    let goes_on : (of_side (side_of_act act) (world_of a b made failed).sides).socket.failed ≡ false = ((invariant is).sides (side_of_act act)).goes_on in
    let fails : (of_side (side_of_act act) (world_of a b made failed).sides).socket.failed ≡ true = had_failed in
    absurd (cc)

-- ---- several steps

-- no step yet
pub ran_none : {R : Type 0} (stream : R → Stream) (old : WorldView (Recording R)) → old.failed ≡ false → Promises old → Ran stream [] old old
unfolding AppliesSteps
ran_none stream old runs keeps =
    record {
      runs = runs;
      goes_on = runs;
      applied = refl;
      acts = sym (append-nil old.acts);
      extends = record { sides = record { a = side_extends_itself old.sides.a; b = side_extends_itself old.sides.b }; acts = extends_itself old.acts };
      options = refl;
      drawn = λ side start drew. drew;
      continues = continues_itself old;
      keeps = keeps;
    }

-- one step more
applied_after : {R : Type 0} (stream : R → Stream) (steps : List StepContent) (step : StepContent) (reply : Reply) (old now new : WorldView (Recording R)) → AppliesSteps stream steps old now
    → AppliesWithPromises stream (step_act step) reply now new → AppliesSteps stream (steps ++ step ∷ []) old new
unfolding AppliesSteps
applied_after {R = R} stream [] step reply old now new same applied =
    record { reply = reply; between = new; applied = subst (λ (w : WorldView (Recording R)). AppliesWithPromises stream (step_act step) reply w new) same applied; others = refl }
applied_after stream (first ∷ steps) step reply old now new all applied =
    record {
      reply = all.reply;
      between = all.between;
      applied = all.applied;
      others = applied_after stream steps step reply all.between now new all.others applied;
    }

ran_more : {R : Type 0} (stream : R → Stream) (steps : List StepContent) (step : StepContent) (reply : Reply) (old now new : WorldView (Recording R)) → Ran stream steps old now
    → AppliesWithPromises stream (step_act step) reply now new → Ran stream (steps ++ step ∷ []) old new
ran_more stream steps step reply old now new ran applied =
    record {
      runs = ran.runs;
      goes_on = applied.applied.goes_on;
      applied = applied_after stream steps step reply old now new ran.applied applied;
      acts = applied.applied.acts ∙ ap (λ (l : List ActContent). l ++ step_act step ∷ []) ran.acts ∙ append_assoc old.acts (map step_act steps) (step_act step ∷ [])
          ∙ ap (λ (l : List ActContent). old.acts ++ l) (sym (map-append step_act steps (step ∷ [])));
      extends = world_extends_further old now new ran.extends (applied_extends (recorded_stream stream) (step_act step) reply now new applied.applied);
      options = applied.options ∙ ran.options;
      drawn = λ side start drew. applied.drawn side start (ran.drawn side start drew);
      continues = subst (λ (acts : List ActContent). Continues acts old new) (sym (map-append step_act steps (step ∷ [])))
          (continues_further (map step_act steps) (step_act step ∷ []) old now new ran.continues applied.continues);
      keeps = applied.keeps;
    }

-- as a loop over them goes
pub ran_next : {R : Type 0} (stream : R → Stream) (steps : List Step) (i : ℕ) (default : Step) (reply : Reply) (old now new : WorldView (Recording R)) → i < length steps
    → Ran stream (map step_content (take i steps)) old now → AppliesWithPromises stream (step_act (step_content (get_or steps i default))) reply now new
    → Ran stream (map step_content (take (i + 1) steps)) old new
ran_next stream steps i default reply old now new within ran applied =
    subst (λ (l : List StepContent). Ran stream l old new)
    (sym (ap (λ (l : List Step). map step_content l) (take_more steps i default within) ∙ map-append step_content (take i steps) (get_or steps i default ∷ [])))
    (ran_more stream (map step_content (take i steps)) (step_content (get_or steps i default)) reply old now new ran applied)

-- ---- an allocation failed among several steps

split_at : (steps : List Step) (i : ℕ) (default : Step) → i < length steps → steps ≡ take i steps ++ get_or steps i default ∷ drop (suc i) steps
split_at [] i default within = absurd (omega (arith, within))
split_at (x ∷ xs) zero default within = refl
split_at (x ∷ xs) (suc i) default within = ap (λ (l : List Step). x ∷ l) (split_at xs i default (omega (arith, within)))

-- the steps before that one ran
refused_at : {R : Type 0} (stream : R → Stream) (steps : List Step) (i : ℕ) (default : Step) (fault : SocketFault) (old now new : WorldView (Recording R)) → i < length steps
    → Ran stream (map step_content (take i steps)) old now → Applies stream (step_act (step_content (get_or steps i default))) now (Err fault) new
    → RunsSteps stream (map step_content steps) old (Err fault) new
refused_at stream steps i default OutOfMemory old now new within ran out =
    record {
      done = map step_content (take i steps);
      refused = step_content (get_or steps i default);
      rest = map step_content (drop (suc i) steps);
      all = ap (λ (l : List Step). map step_content l) (split_at steps i default within)
          ∙ map-append step_content (take i steps) (get_or steps i default ∷ drop (suc i) steps);
      before = now;
      ran = ran;
      ran_out = out;
    }
refused_at stream steps i default Failed old now new within ran stays =
    let goes_on : now.failed ≡ false = ran.goes_on in
    let had_failed : now.failed ≡ true = stays.had_failed in
    absurd (cc)

pub ran_out_among : {R : Type 0} (stream : R → Stream) (steps : List Step) (i : ℕ) (default : Step) (fault : SocketFault) (old now new : WorldView (Recording R)) → i < length steps
    → Ran stream (map step_content (take i steps)) old now → Applies stream (step_act (step_content (get_or steps i default))) now (Err fault) new
    → (result : Result (Unit {0}) SocketFault) → IsErrAnd result (λ given. given ≡ fault) → RunsSteps stream (map step_content steps) old result new
ran_out_among stream steps i default fault old now new within ran out (Ok done) is = absurd is
ran_out_among stream steps i default fault old now new within ran out (Err given) is =
    subst (λ (f : SocketFault). RunsSteps stream (map step_content steps) old (Err f) new) (sym is) (refused_at stream steps i default fault old now new within ran out)

-- ---- the step wasn't copied

pub copy_refused : {R : Type 0} (act : ActContent) (old : WorldView R) → old.failed ≡ false → ActRanOutOfMemory act old (record old { failed = true })
copy_refused {R = R} act old runs =
    let mover : ShownSide R = of_side (side_of_act act) old.sides in
    let other : ShownSide R = of_other (side_of_act act) old.sides in
    record {
      runs = runs;
      fails = refl;
      stops = record {
        mover = record { turns = []; are = inl refl; shows = shows_nothing [] mover mover refl refl refl refl refl refl refl refl };
        other = shows_nothing [] other other refl refl refl refl refl refl refl refl;
        other_socket = refl;
      };
      acts = refl;
    }
