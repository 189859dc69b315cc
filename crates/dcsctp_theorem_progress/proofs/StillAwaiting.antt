-- A socket that awaits a COOKIE ACK, in a round whose packets are lost; and what stays where the other's options do.
use Rattle.std.specs.Duration.{max_nanos}
use Rattle.std.specs.Prelude.{nat_le}
use Rattle.std.proofs.Common.{◌≡◌, ◌≤◌, ℕ, suc, Bool, true, false, List, [], ◌∷◌, refl, sym, subst, ap, ◌∙◌}
use Rattle.dcsctp_spec_lemmas.specs.types.Offer.{offer_of, negotiated_capabilities}
use Rattle.dcsctp_spec_lemmas.specs.types.declared.association.Held.{Held}
use Rattle.dcsctp_spec_lemmas.specs.types.declared.association.Pair.{Pair}
use Rattle.dcsctp_spec_lemmas.specs.types.declared.options.Options.{Options}
use Rattle.dcsctp_spec_lemmas.specs.spec.Cookie.{Cookie}
use Rattle.dcsctp_spec_lemmas.specs.spec.association.HandshakeChanges.{new_held}
use Rattle.dcsctp_spec_lemmas.specs.spec.queues.Transfer.{EndpointQueues}
use Rattle.dcsctp_spec_lemmas.specs.spec.endpoint.CallTurns.{Transition, Turns}
use Rattle.dcsctp_spec_lemmas.specs.spec.endpoint.Endpoint.{Endpoint, Core, cookie_echoed, open_in, established}
use Rattle.dcsctp_spec_lemmas.specs.spec.endpoint.Outcome.{still}
use Rattle.dcsctp_spec_lemmas.specs.spec.endpoint.OwnTimers.{acknowledgement_delay}
use Rattle.dcsctp_spec_lemmas.specs.spec.endpoint.TimeTurns.{own_timer, t1_timer, handled_timers, deadline_of, delay_deadline, has_come, ExpiryThen, ExpiryTurns, DueTurns, MomentTurns, TimeTurns, AdvanceTurns}
use Rattle.dcsctp_spec_lemmas.specs.spec.endpoint.Turn.{time_passes, with_clock}
use Rattle.dcsctp_theorem_sockets.proofs.HandshakeReads.{turned_as}
use Rattle.dcsctp_theorem_sockets.proofs.HandshakeTurns.{Good}
use Rattle.dcsctp_theorem_progress.specs.Cookies.{OwesNothing, HasEchoed, HadEcho}
use Rattle.dcsctp_theorem_progress.specs.LostInits.{DueT1}
use Rattle.dcsctp_theorem_progress.specs.Retries.{RetriesT1}
use Rattle.dcsctp_theorem_progress.proofs.Beats.{Beats, idle_still}
use Rattle.dcsctp_theorem_progress.proofs.EchoLost.{after_again}
use Rattle.dcsctp_theorem_progress.proofs.EchoRound.{again}
use Rattle.dcsctp_theorem_progress.proofs.EchoRuns.{repeats}
use Rattle.dcsctp_theorem_progress.proofs.Retries.{clock_turn, no_turns, again as t1_again, t1_continues, t1_stays}
use Rattle.dcsctp_theorem_progress.proofs.Views.{View, view_then}

-- ---- the one that awaits the COOKIE ACK

-- It still does, with a restart less at most, and told nothing.
pub record AwaitsStill (v w : View) (cookie : Cookie) (bytes : List ℕ) (more : ℕ) (turns : List Transition) : Type 0 where
  pub echoed : HasEchoed (view_then v turns).endpoint w.endpoint cookie bytes
  pub t1 : RetriesT1 (view_then v turns).endpoint more
  pub same : (view_then v turns).endpoint.options ≡ v.endpoint.options
  pub told : (view_then v turns).told ≡ v.told

not_due : (e : Endpoint) (p : Pair) (held : Held) (bytes : List ℕ) (moment : ℕ) (turns : List Transition) → e.core ≡ cookie_echoed p held bytes → has_come moment (delay_deadline e.queues.transfer) ≡ false
    → has_come moment (deadline_of e.timers.t1) ≡ false → MomentTurns e moment turns → turns ≡ clock_turn moment e ∷ []
not_due e p held bytes moment [] is delay waits h = absurd h
not_due e p held bytes moment (t ∷ ts) is delay waits h =
    let f : Endpoint = with_clock moment e in
    let first : t ≡ clock_turn moment e = turned_as t (time_passes moment) (still f) h.0.is h.0.comes in
    let rest : DueTurns f ts = subst (λ (x : Transition). DueTurns x.outcome.after ts) first h.1 in
    let at_core : ExpiryTurns (own_timer acknowledgement_delay ∷ t1_timer ∷ []) false f ts = subst (λ (core : Core). ExpiryTurns (handled_timers core) false f ts) is rest in
    let at_t1 : ExpiryTurns (t1_timer ∷ []) false f ts = subst (λ (b : Bool). ExpiryThen b (ExpiryTurns (t1_timer ∷ [])) f false (own_timer acknowledgement_delay) ts) delay at_core in
    let none : Turns f [] ts = subst (λ (b : Bool). ExpiryThen b (ExpiryTurns []) f false t1_timer ts) waits at_t1 in
    ap (λ (x : Transition). x ∷ ts) first ∙ ap (λ (xs : List Transition). clock_turn moment e ∷ xs) (no_turns f ts none)

clock_awaits : (v w : View) (cookie : Cookie) (bytes : List ℕ) (more moment : ℕ) → moment ≤ max_nanos → HasEchoed v.endpoint w.endpoint cookie bytes → RetriesT1 v.endpoint (suc more)
    → AwaitsStill v w cookie bytes more (clock_turn moment v.endpoint ∷ [])
clock_awaits v w cookie bytes more moment fits h t1 =
    let less : RetriesT1 v.endpoint more = t1_stays v.endpoint more t1 in
    record {
      echoed = record {
        core = h.core;
        reads = h.reads;
        fits = h.fits;
        offer = h.offer;
        idle = h.idle;
        owes = h.owes;
        delay = h.delay;
        asks = h.asks;
        errors = h.errors;
      };
      t1 = record { timer = less.timer; runs = less.runs; left = less.left; clock = fits; deadline = less.deadline };
      same = refl;
      told = refl;
    }

awaits_by : (present come : Bool) (v w : View) (cookie : Cookie) (bytes : List ℕ) (more moment : ℕ) (turns : List Transition) → nat_le v.endpoint.moment moment ≡ present
    → has_come moment (deadline_of v.endpoint.timers.t1) ≡ come → Good v.endpoint.options → moment ≤ max_nanos → HasEchoed v.endpoint w.endpoint cookie bytes → RetriesT1 v.endpoint (suc more)
    → AdvanceTurns v.endpoint moment turns → AwaitsStill v w cookie bytes more turns
awaits_by false come v w cookie bytes more moment turns is_present is_come good fits h t1 time =
    subst (AwaitsStill v w cookie bytes more) (sym (subst (λ (b : Bool). TimeTurns b v.endpoint moment turns) is_present time))
    (record { echoed = h; t1 = t1_stays v.endpoint more t1; same = refl; told = refl })
awaits_by true false v w cookie bytes more moment turns is_present is_come good fits h t1 time =
    subst (AwaitsStill v w cookie bytes more)
    (sym (not_due v.endpoint _ _ _ moment turns h.core (ap (has_come moment) h.delay) is_come (subst (λ (b : Bool). TimeTurns b v.endpoint moment turns) is_present time)))
    (clock_awaits v w cookie bytes more moment fits h t1)
awaits_by true true v w cookie bytes more moment turns is_present is_come good fits h t1 time =
    let due : DueT1 v.endpoint moment = record { present = is_present; come = is_come; again = t1_again v.endpoint more t1 } in
    let here : View = again v w cookie bytes moment in
    subst (AwaitsStill v w cookie bytes more) (sym (repeats v.endpoint w.endpoint cookie bytes moment turns (record { echoed = h; t1 = due }) good time))
    (record { echoed = after_again v w cookie bytes moment h; t1 = t1_continues v.endpoint here.endpoint more moment fits t1 refl refl; same = refl; told = refl })

pub awaits_still : (v w : View) (cookie : Cookie) (bytes : List ℕ) (more moment : ℕ) (turns : List Transition) → Good v.endpoint.options → moment ≤ max_nanos → HasEchoed v.endpoint w.endpoint cookie bytes
    → RetriesT1 v.endpoint (suc more) → AdvanceTurns v.endpoint moment turns → AwaitsStill v w cookie bytes more turns
awaits_still v w cookie bytes more moment turns good fits h t1 time =
    awaits_by (nat_le v.endpoint.moment moment) (has_come moment (deadline_of v.endpoint.timers.t1)) v w cookie bytes more moment turns refl refl good fits h t1 time

-- ---- by the other's options and queues

pub echoed_beside : (e f g : Endpoint) (cookie : Cookie) (bytes : List ℕ) → g.options ≡ f.options → HasEchoed e f cookie bytes → HasEchoed e g cookie bytes
echoed_beside e f g cookie bytes same h =
    record {
      core = subst (λ (o : Options). e.core ≡ cookie_echoed cookie.addressee (new_held cookie.addressee cookie.maker (negotiated_capabilities (offer_of e.options) (offer_of o))) bytes) (sym same) h.core;
      reads = h.reads;
      fits = h.fits;
      offer = h.offer;
      idle = h.idle;
      owes = h.owes;
      delay = h.delay;
      asks = h.asks;
      errors = h.errors;
    }

abbrev pub linked_with : Cookie → Options → Options → Core
linked_with cookie b a = open_in established cookie.maker (new_held cookie.maker cookie.addressee (negotiated_capabilities (offer_of b) (offer_of a)))

pub had_still : (e e' f g : Endpoint) (cookie : Cookie) (more : ℕ) → e'.options ≡ e.options → Beats f g more → HadEcho e f cookie → HadEcho e' g cookie
had_still e e' f g cookie more same beats h =
    record {
      core = beats.core ∙ h.core ∙ ap (λ (o : Options). linked_with cookie o e.options) (sym beats.options) ∙ ap (linked_with cookie g.options) (sym same);
      idle = idle_still f g beats.queues h.idle;
      owes = subst (λ (queues : EndpointQueues). OwesNothing queues.transfer) (sym beats.queues) h.owes;
    }
