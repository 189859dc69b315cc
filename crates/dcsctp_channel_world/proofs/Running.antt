-- Steps that are applied one after another.
use Rattle.std.proofs.Common.{◌≡◌, ◌<◌, ℕ, ◌+◌, zero, suc, true, false, Result, Ok, Err, IsErrAnd, List, [], ◌∷◌, ◌++◌, length, take, drop, get_or, refl, sym, ap, subst, append_assoc, arith}
use Rattle.std.proofs.lemmas.List.{take_more}
use Rattle.dcsctp_channel_calls.specs.api.declared.errors.SocketFault.{SocketFault}
use Rattle.dcsctp_channel_calls.specs.api.declared.errors.SocketFault.TheVariants.{OutOfMemory, Failed}
use Rattle.dcsctp_channel_runs.specs.Acts.{MadeAct}
use Rattle.dcsctp_channel_world.specs.declared.step.ChannelStep.{ChannelStep}
use Rattle.dcsctp_channel_world.specs.declared.step.EndReply.{EndReply}
use Rattle.dcsctp_channel_world.specs.Promises.{ShowsRun, ContinuesRuns, KeepsChannelPromises, AppliesStep, AppliesStepOrFails, AppliesEach, RunsChannelSteps, RunsStepsOrFails}
use Rattle.dcsctp_channel_world.specs.Shown.{WorldShown}

-- ---- runs that go on

continues_itself : (world : WorldShown) → ContinuesRuns world world
continues_itself world = record { more = []; goes_on = λ options starts run shown. shown }

continues_further : (old now new : WorldShown) → ContinuesRuns old now → ContinuesRuns now new → ContinuesRuns old new
continues_further old now new first second =
    record {
      more = second.more ++ first.more;
      goes_on = λ options starts run shown. subst (λ (l : List MadeAct). ShowsRun options starts l new) (sym (append_assoc second.more first.more run))
          (second.goes_on options starts (first.more ++ run) (first.goes_on options starts run shown));
    }

-- ---- steps

pub ran_none : (old : WorldShown) → old.failed ≡ false → KeepsChannelPromises old → RunsChannelSteps [] old old
unfolding AppliesEach
ran_none old runs keeps = record { runs = runs; goes_on = runs; applied = refl; continues = continues_itself old; keeps = keeps }

-- ---- one step more

applied_after : (steps : List ChannelStep) (step : ChannelStep) (reply : EndReply) (old now new : WorldShown) → AppliesEach steps old now → AppliesStep step reply now new
    → AppliesEach (steps ++ step ∷ []) old new
unfolding AppliesEach
applied_after [] step reply old now new same applied =
    record { reply = reply; between = new; applied = subst (λ (w : WorldShown). AppliesStep step reply w new) same applied; others = refl }
applied_after (first ∷ steps) step reply old now new all applied =
    record { reply = all.reply; between = all.between; applied = all.applied; others = applied_after steps step reply all.between now new all.others applied }

ran_more : (steps : List ChannelStep) (step : ChannelStep) (reply : EndReply) (old now new : WorldShown) → RunsChannelSteps steps old now → AppliesStep step reply now new
    → RunsChannelSteps (steps ++ step ∷ []) old new
ran_more steps step reply old now new ran applied =
    record {
      runs = ran.runs;
      goes_on = applied.goes_on;
      applied = applied_after steps step reply old now new ran.applied applied;
      continues = continues_further old now new ran.continues applied.continues;
      keeps = applied.keeps;
    }

-- as a loop over them goes
pub ran_next : (steps : List ChannelStep) (i : ℕ) (default : ChannelStep) (reply : EndReply) (old now new : WorldShown) → i < length steps → RunsChannelSteps (take i steps) old now
    → AppliesStep (get_or steps i default) reply now new → RunsChannelSteps (take (i + 1) steps) old new
ran_next steps i default reply old now new within ran applied =
    subst (λ (l : List ChannelStep). RunsChannelSteps l old new) (sym (take_more steps i default within)) (ran_more (take i steps) (get_or steps i default) reply old now new ran applied)

-- ---- an allocation failed at one of them

split_at : (steps : List ChannelStep) (i : ℕ) (default : ChannelStep) → i < length steps → steps ≡ take i steps ++ get_or steps i default ∷ drop (suc i) steps
split_at [] i default within = absurd (omega (arith, within))
split_at (x ∷ xs) zero default within = refl
split_at (x ∷ xs) (suc i) default within = ap (λ (l : List ChannelStep). x ∷ l) (split_at xs i default (omega (arith, within)))

refused_at : (steps : List ChannelStep) (i : ℕ) (default : ChannelStep) (fault : SocketFault) (old now new : WorldShown) → i < length steps → RunsChannelSteps (take i steps) old now
    → AppliesStepOrFails (get_or steps i default) now (Err fault) new → RunsStepsOrFails steps old (Err fault) new
refused_at steps i default OutOfMemory old now new within ran out =
    record {
      done = take i steps;
      refused = get_or steps i default;
      rest = drop (suc i) steps;
      all = split_at steps i default within;
      before = now;
      ran = ran;
      ran_out = out;
    }
refused_at steps i default Failed old now new within ran stays =
    let goes_on : now.failed ≡ false = ran.goes_on in
    let had_failed : now.failed ≡ true = stays.had_failed in
    absurd (cc)

pub ran_out_among : (steps : List ChannelStep) (i : ℕ) (default : ChannelStep) (fault : SocketFault) (old now new : WorldShown) → i < length steps → RunsChannelSteps (take i steps) old now
    → AppliesStepOrFails (get_or steps i default) now (Err fault) new → (result : Result (Unit {0}) SocketFault) → IsErrAnd result (λ given. given ≡ fault) → RunsStepsOrFails steps old result new
ran_out_among steps i default fault old now new within ran out (Ok done) is = absurd is
ran_out_among steps i default fault old now new within ran out (Err given) is =
    subst (λ (f : SocketFault). RunsStepsOrFails steps old (Err f) new) (sym is) (refused_at steps i default fault old now new within ran out)
