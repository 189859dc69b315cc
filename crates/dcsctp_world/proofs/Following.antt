-- Steps that are applied after others.
use Rattle.std.proofs.Common.{◌≡◌, false, true, Result, Ok, Err, List, [], ◌∷◌, ◌++◌, map, sym, ap, subst, ◌∙◌, append_assoc}
use Rattle.std.proofs.lemmas.List.{map-append}
use Rattle.rand_core.specs.Stream.{Stream}
use Rattle.dcsctp_core.specs.types.Schedule.{StepContent, ActContent, step_act}
use Rattle.dcsctp_core.specs.api.declared.errors.SocketFault.{SocketFault}
use Rattle.dcsctp_core.specs.api.declared.errors.SocketFault.TheVariants.{OutOfMemory, Failed}
use Rattle.dcsctp_world.specs.Acts.{AppliesSteps, Ran, RanOutAmong, RunsSteps, WorldStaysFailed}
use Rattle.dcsctp_world.specs.Continuing.{Continues}
use Rattle.dcsctp_world.specs.Recording.{Recording}
use Rattle.dcsctp_world.specs.Rounds.{RanOutOnTheWay}
use Rattle.dcsctp_world.specs.Shown.{WorldView}
use Rattle.dcsctp_world.proofs.Applying.{world_extends_further}
use Rattle.dcsctp_world.proofs.Running.{continues_further}

-- ---- all were applied

applied_further : {R : Type 0} (stream : R → Stream) (steps others : List StepContent) (old now new : WorldView (Recording R)) → AppliesSteps stream steps old now → AppliesSteps stream others now new
    → AppliesSteps stream (steps ++ others) old new
unfolding AppliesSteps
applied_further {R = R} stream [] others old now new same applied = subst (λ (w : WorldView (Recording R)). AppliesSteps stream others w new) same applied
applied_further stream (step ∷ steps) others old now new all applied =
    record {
      reply = all.reply;
      between = all.between;
      applied = all.applied;
      others = applied_further stream steps others all.between now new all.others applied;
    }

pub ran_further : {R : Type 0} (stream : R → Stream) (steps others : List StepContent) (old now new : WorldView (Recording R)) → Ran stream steps old now → Ran stream others now new
    → Ran stream (steps ++ others) old new
ran_further stream steps others old now new first second =
    record {
      runs = first.runs;
      goes_on = second.goes_on;
      applied = applied_further stream steps others old now new first.applied second.applied;
      acts = second.acts ∙ ap (λ (l : List ActContent). l ++ map step_act others) first.acts ∙ append_assoc old.acts (map step_act steps) (map step_act others)
          ∙ ap (λ (l : List ActContent). old.acts ++ l) (sym (map-append step_act steps others));
      extends = world_extends_further old now new first.extends second.extends;
      options = second.options ∙ first.options;
      drawn = λ side start drew. second.drawn side start (first.drawn side start drew);
      continues = subst (λ (acts : List ActContent). Continues acts old new) (sym (map-append step_act steps others))
          (continues_further (map step_act steps) (map step_act others) old now new first.continues second.continues);
      keeps = second.keeps;
    }

-- None were.
pub ran_none_is : {R : Type 0} (stream : R → Stream) (old new : WorldView (Recording R)) → Ran stream [] old new → new ≡ old
unfolding AppliesSteps
ran_none_is stream old new ran = ran.applied

-- ---- an allocation failed at one of them

ran_out_further : {R : Type 0} (stream : R → Stream) (steps others : List StepContent) (old now new : WorldView (Recording R)) → Ran stream steps old now → RanOutAmong stream others now new
    → RanOutAmong stream (steps ++ others) old new
ran_out_further stream steps others old now new ran out =
    record {
      done = steps ++ out.done;
      refused = out.refused;
      rest = out.rest;
      all = ap (λ (l : List StepContent). steps ++ l) out.all ∙ sym (append_assoc steps out.done (out.refused ∷ out.rest));
      before = out.before;
      ran = ran_further stream steps out.done old now out.before ran out.ran;
      ran_out = out.ran_out;
    }

ran_out_before : {R : Type 0} (stream : R → Stream) (steps others : List StepContent) (old new : WorldView (Recording R)) → RanOutAmong stream steps old new → RanOutAmong stream (steps ++ others) old new
ran_out_before stream steps others old new out =
    record {
      done = out.done;
      refused = out.refused;
      rest = out.rest ++ others;
      all = ap (λ (l : List StepContent). l ++ others) out.all ∙ append_assoc out.done (out.refused ∷ out.rest) others;
      before = out.before;
      ran = out.ran;
      ran_out = out.ran_out;
    }

-- ---- what `run` did, behind others or in front of them

not_failed : {R : Type 0} (stream : R → Stream) (steps : List StepContent) (old now : WorldView (Recording R)) → Ran stream steps old now → now.failed ≡ true → ⊥
not_failed stream steps old now ran had =
    let goes_on : now.failed ≡ false = ran.goes_on in
    absurd (cc)

pub runs_further : {R : Type 0} (stream : R → Stream) (steps others : List StepContent) (old now new : WorldView (Recording R)) → Ran stream steps old now → (result : Result (Unit {0}) SocketFault)
    → RunsSteps stream others now result new → RunsSteps stream (steps ++ others) old result new
runs_further stream steps others old now new ran (Ok done) second = ran_further stream steps others old now new ran second
runs_further stream steps others old now new ran (Err OutOfMemory) out = ran_out_further stream steps others old now new ran out
runs_further stream steps others old now new ran (Err Failed) stays = absurd (not_failed stream steps old now ran stays.had_failed)

pub stops_before : {R : Type 0} (stream : R → Stream) (steps others : List StepContent) (old new : WorldView (Recording R)) (fault : SocketFault) → RunsSteps stream steps old (Err fault) new
    → RunsSteps stream (steps ++ others) old (Err fault) new
stops_before stream steps others old new OutOfMemory out = ran_out_before stream steps others old new out
stops_before stream steps others old new Failed stays = stays

-- ---- on the way

-- what is said of a fault, whatever would have been done
abbrev pub Stops : {R : Type 0} → (R → Stream) → WorldView (Recording R) → SocketFault → WorldView (Recording R) → Type 0
Stops stream old OutOfMemory new = RanOutOnTheWay stream old new
Stops stream old Failed new = WorldStaysFailed old new

pub stops_among : {R : Type 0} (stream : R → Stream) (steps : List StepContent) (old new : WorldView (Recording R)) (fault : SocketFault) → RunsSteps stream steps old (Err fault) new → Stops stream old fault new
stops_among stream steps old new OutOfMemory out = record { steps = steps; ran_out = out }
stops_among stream steps old new Failed stays = stays

-- Some steps were applied, and then it stopped.
pub stops_further : {R : Type 0} (stream : R → Stream) (steps : List StepContent) (old now new : WorldView (Recording R)) (fault : SocketFault) → Ran stream steps old now → Stops stream now fault new
    → Stops stream old fault new
stops_further stream steps old now new OutOfMemory ran out = record { steps = steps ++ out.steps; ran_out = ran_out_further stream steps out.steps old now new ran out.ran_out }
stops_further stream steps old now new Failed ran stays = absurd (not_failed stream steps old now ran stays.had_failed)
