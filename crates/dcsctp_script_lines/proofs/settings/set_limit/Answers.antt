use Rattle.dcsctp_script_lines.specs.Settings.{ReadsTimeLimit, max_burst_is, max_timer_backoff_duration_is, max_retransmissions_is, max_init_retransmits_is}
use Rattle.dcsctp_script_lines.specs.Number.{ReadsSignedNumber, ReadsLimit}
use Rattle.std.proofs.Common.{◌-◌, ◌^◌, ℕ, ℤ, Option, Some, subst, sym}
use Rattle.std.proofs.lemmas.Int.{to_z-of_z}
use Rattle.std.specs.Int.{w32}
use Rattle.std.specs.Prelude.{FitsSigned as SFits}
use Rattle.std.specs.declared.time.Duration.{Duration}
use Rattle.dcsctp_script_lines.proofs.settings.set_limit.Goals as goal

pub returns-in-Some : goal.returns-in-Some
returns-in-Some c =
    let reads = subst (λ (f : Option ℤ). ReadsSignedNumber c.args.value.now f) c.in-Some.is c.signed_number.ensures in
    rw (c.in-max_burst.is)
    (max_burst_is _ (subst (λ (z : ℤ). ReadsSignedNumber c.args.value.now (Some z)) (sym (to_z-of_z w32 c.in-Some.burst (subst (SFits w32) (sym reads.1) reads.0.2))) reads))

pub returns-in-Some-time_limit : goal.returns-in-Some-time_limit
returns-in-Some-time_limit c =
    rw (c.in-max_timer_backoff_duration.is)
    (max_timer_backoff_duration_is c.in-Some-time_limit.longest (subst (λ (f : Option (Option Duration)). ReadsTimeLimit c.args.value.now f) c.in-Some-time_limit.is c.time_limit.ensures))

pub returns-in-Some-count_limit : goal.returns-in-Some-count_limit
returns-in-Some-count_limit c =
    rw (c.in-max_retransmissions.is)
    (max_retransmissions_is c.in-Some-count_limit.most (subst (λ (f : Option (Option ℕ)). ReadsLimit c.args.value.now (2 ^ 32 - 1) f) c.in-Some-count_limit.is c.count_limit.ensures))

pub returns-in-Some-count_limit-2 : goal.returns-in-Some-count_limit-2
returns-in-Some-count_limit-2 c =
    rw (c.in-max_init_retransmits.is)
    (max_init_retransmits_is c.in-Some-count_limit-2.most (subst (λ (f : Option (Option ℕ)). ReadsLimit c.args.value.now (2 ^ 32 - 1) f) c.in-Some-count_limit-2.is c.count_limit-in-max_init_retransmits.ensures))
