-- A socket that awaits a COOKIE ACK and to which data may have come, while the clock goes on.
use Rattle.std.specs.Duration.{max_nanos}
use Rattle.std.specs.Prelude.{nat_le}
use Rattle.std.proofs.Common.{◌≡◌, ◌≤◌, ℕ, suc, Bool, true, false, List, ◌++◌, refl, sym, subst, ap, ◌∙◌}
use Rattle.dcsctp_spec_lemmas.specs.types.declared.association.Held.{Held}
use Rattle.dcsctp_spec_lemmas.specs.types.declared.capabilities.Capabilities.{Capabilities}
use Rattle.dcsctp_spec_lemmas.specs.types.declared.options.Options.{Options}
use Rattle.dcsctp_spec_lemmas.specs.types.Offer.{offer_of, negotiated_capabilities}
use Rattle.dcsctp_spec_lemmas.specs.spec.Cookie.{Cookie}
use Rattle.dcsctp_spec_lemmas.specs.spec.Packet.{Emission}
use Rattle.dcsctp_spec_lemmas.specs.spec.association.HandshakeChanges.{new_held}
use Rattle.dcsctp_spec_lemmas.specs.spec.endpoint.Endpoint.{Endpoint, cookie_echoed, held_by_core}
use Rattle.dcsctp_spec_lemmas.specs.spec.endpoint.Event.{Event}
use Rattle.dcsctp_spec_lemmas.specs.spec.endpoint.HeartbeatOutcomes.{is_exhausted}
use Rattle.dcsctp_spec_lemmas.specs.spec.endpoint.MessageOutcomes.{awaits_opening}
use Rattle.dcsctp_spec_lemmas.specs.spec.endpoint.TimeTurns.{deadline_of, has_come, TimeTurns, AdvanceTurns}
use Rattle.dcsctp_spec_lemmas.specs.spec.endpoint.Turn.{with_clock}
use Rattle.dcsctp_spec_lemmas.specs.spec.endpoint.CallTurns.{Transition, events_of}
use Rattle.dcsctp_theorem_progress.specs.DataEchoes.{FlowsAsAgreed, EchoesWithData}
use Rattle.dcsctp_theorem_progress.specs.LostInits.{DueT1}
use Rattle.dcsctp_theorem_progress.specs.Retries.{RetriesT1}
use Rattle.dcsctp_theorem_sockets.proofs.HandshakeTurns.{Good}
use Rattle.dcsctp_theorem_progress.proofs.Chain.{no_shutdown}
use Rattle.dcsctp_theorem_progress.proofs.Cookies.{size_of}
use Rattle.dcsctp_theorem_progress.proofs.EchoAgain.{EchoesOn, WaitedOn, EchoedOn, RestedOn, echo_goes_again, rests_on}
use Rattle.dcsctp_theorem_progress.proofs.EchoComes.{bytes_of, shown_is, echoing_end, EchoUnderOf, EchoUnder}
use Rattle.dcsctp_theorem_progress.proofs.Flows.{Flows}
use Rattle.dcsctp_theorem_progress.proofs.Retries.{again as t1_again, t1_continues, t1_stays}
use Rattle.dcsctp_theorem_progress.proofs.Views.{View, view_then}

pub echoes_on : (e f : Endpoint) (cookie : Cookie) (bytes : List ℕ) → EchoesWithData e f cookie bytes → EchoesOn e cookie.addressee (echoing_end e.options f.options cookie) bytes
echoes_on e f cookie bytes h =
    let d : FlowsAsAgreed e (negotiated_capabilities (offer_of e.options) (offer_of f.options)) = h.data_flows in
    record {
      core = h.core;
      size = size_of bytes cookie h.reads;
      flows = record { kind = record { peer = ap held_by_core h.core; transfer = d.transfer; known = d.known; interleaves = d.interleaves; abandons = d.abandons }; unpaused = d.unpaused };
      errors = h.errors;
    }

flows_as_agreed : (e : Endpoint) (held : Held) → Flows held e → FlowsAsAgreed e held.capabilities
flows_as_agreed e held f = record { transfer = f.kind.transfer; known = f.kind.known; interleaves = f.kind.interleaves; abandons = f.kind.abandons; unpaused = f.unpaused }

-- It still awaits it, after the moment and by other names of both options.
pub awaits_still : (e f e' f' : Endpoint) (cookie : Cookie) (bytes : List ℕ) (moment : ℕ) (events : List (Event Emission)) → EchoesWithData e f cookie bytes
    → WaitedOn (with_clock moment e) (echoing_end e.options f.options cookie) e' events → f'.options ≡ f.options → EchoesWithData e' f' cookie bytes
awaits_still e f e' f' cookie bytes moment events h o others =
    let caps : Options → Options → Capabilities = λ x y. negotiated_capabilities (offer_of x) (offer_of y) in
    let named : caps e.options f.options ≡ caps e'.options f'.options = ap (λ (x : Options). caps x f.options) (sym o.options) ∙ ap (caps e'.options) (sym others) in
    let core : e'.core ≡ cookie_echoed cookie.addressee (echoing_end e.options f.options cookie) bytes = o.core ∙ h.core in
    record {
      core = core ∙ ap (λ (c : Capabilities). cookie_echoed cookie.addressee (new_held cookie.addressee cookie.maker c) bytes) named;
      reads = h.reads;
      fits = h.fits;
      offer = h.offer ∙ ap offer_of (sym o.options);
      data_flows = subst (FlowsAsAgreed e') named (flows_as_agreed e' (echoing_end e.options f.options cookie) o.flows);
      asks = ap (awaits_opening e') core ∙ no_shutdown e.options e'.options e.shutdown_asked e'.shutdown_asked o.options o.asked (sym (ap (awaits_opening e) h.core) ∙ h.asks);
      errors = ap (λ (n : ℕ). is_exhausted e'.options.max_retransmissions n) o.errors ∙ ap (λ (x : Options). is_exhausted x.max_retransmissions e.error_count) o.options ∙ h.errors;
    }

-- by the other's options
pub awaits_beside : (e f g : Endpoint) (cookie : Cookie) (bytes : List ℕ) → g.options ≡ f.options → EchoesWithData e f cookie bytes → EchoesWithData e g cookie bytes
awaits_beside e f g cookie bytes same h =
    let caps : Options → Capabilities = λ o. negotiated_capabilities (offer_of e.options) (offer_of o) in
    record {
      core = h.core ∙ ap (λ (o : Options). cookie_echoed cookie.addressee (new_held cookie.addressee cookie.maker (caps o)) bytes) (sym same);
      reads = h.reads;
      fits = h.fits;
      offer = h.offer;
      data_flows = subst (λ (o : Options). FlowsAsAgreed e (caps o)) (sym same) h.data_flows;
      asks = h.asks;
      errors = h.errors;
    }

-- The COOKIE ECHO is under way.
pub under_again : (v w : View) (cookie : Cookie) (bytes : List ℕ) (moment : ℕ) (turns : List Transition) (h : EchoesWithData v.endpoint w.endpoint cookie bytes)
    → EchoedOn (with_clock moment v.endpoint) (echoing_end v.endpoint.options w.endpoint.options cookie) bytes (view_then v turns).endpoint (events_of turns)
    → EchoUnder (view_then v turns) w.endpoint.options cookie bytes v.shown
under_again v w cookie bytes moment turns h o =
    let a : Options = v.endpoint.options in
    let b : Options = w.endpoint.options in
    let after : View = view_then v turns in
    let still : EchoesWithData after.endpoint w.endpoint cookie bytes = awaits_still v.endpoint w.endpoint after.endpoint w.endpoint cookie bytes moment (events_of turns) h o.waited refl in
    let under : EchoUnderOf after a (echoing_end a b cookie) cookie bytes v.shown = record {
      core = o.waited.core ∙ h.core;
      asks = still.asks;
      flows = o.waited.flows;
      more = o.sends.more;
      carried = o.sends.carried;
      rest = o.sends.rest;
      others = o.sends.others;
      shown = ap (λ (ps : List (List ℕ)). v.shown ++ ps) (shown_is a turns ∙ ap (bytes_of a) o.sends.packets);
    } in
    subst (λ (x : Options). EchoUnderOf after x (echoing_end x b cookie) cookie bytes v.shown) (sym o.waited.options) under

-- ---- in a lost round

-- It still awaits it, with a restart less at most, and told nothing.
pub record StillAwaits (v w : View) (cookie : Cookie) (bytes : List ℕ) (more : ℕ) (turns : List Transition) : Type 0 where
  pub awaits : EchoesWithData (view_then v turns).endpoint w.endpoint cookie bytes
  pub t1 : RetriesT1 (view_then v turns).endpoint more
  pub same : (view_then v turns).endpoint.options ≡ v.endpoint.options
  pub told : (view_then v turns).told ≡ v.told

t1_rests : (e f : Endpoint) (more moment : ℕ) → moment ≤ max_nanos → RetriesT1 e (suc more) → f.moment ≡ moment → f.timers.t1 ≡ e.timers.t1 → RetriesT1 f more
t1_rests e f more moment fits t1 clock runs =
    let less : RetriesT1 e more = t1_stays e more t1 in
    record { timer = less.timer; runs = runs ∙ less.runs; left = less.left; clock = subst (λ (n : ℕ). n ≤ max_nanos) (sym clock) fits; deadline = less.deadline }

awaits_by : (present come : Bool) (v w : View) (cookie : Cookie) (bytes : List ℕ) (more moment : ℕ) (turns : List Transition) → nat_le v.endpoint.moment moment ≡ present
    → has_come moment (deadline_of v.endpoint.timers.t1) ≡ come → Good v.endpoint.options → moment ≤ max_nanos → EchoesWithData v.endpoint w.endpoint cookie bytes → RetriesT1 v.endpoint (suc more)
    → AdvanceTurns v.endpoint moment turns → StillAwaits v w cookie bytes more turns
awaits_by false come v w cookie bytes more moment turns is_present is_come good fits h t1 time =
    subst (StillAwaits v w cookie bytes more) (sym (subst (λ (b : Bool). TimeTurns b v.endpoint moment turns) is_present time))
    (record { awaits = h; t1 = t1_stays v.endpoint more t1; same = refl; told = refl })
awaits_by true false v w cookie bytes more moment turns is_present is_come good fits h t1 time =
    let held : Held = echoing_end v.endpoint.options w.endpoint.options cookie in
    let here : View = view_then v turns in
    let o : RestedOn (with_clock moment v.endpoint) held here.endpoint (events_of turns) =
    rests_on v.endpoint cookie.addressee held bytes moment turns (echoes_on v.endpoint w.endpoint cookie bytes h) is_come (subst (λ (b : Bool). TimeTurns b v.endpoint moment turns) is_present time) in
    record {
      awaits = awaits_still v.endpoint w.endpoint here.endpoint w.endpoint cookie bytes moment (events_of turns) h o.waited refl;
      t1 = t1_rests v.endpoint here.endpoint more moment fits t1 o.waited.moment o.t1;
      same = o.waited.options;
      told = o.waited.told v.told;
    }
awaits_by true true v w cookie bytes more moment turns is_present is_come good fits h t1 time =
    let due : DueT1 v.endpoint moment = record { present = is_present; come = is_come; again = t1_again v.endpoint more t1 } in
    let held : Held = echoing_end v.endpoint.options w.endpoint.options cookie in
    let here : View = view_then v turns in
    let o : EchoedOn (with_clock moment v.endpoint) held bytes here.endpoint (events_of turns) =
    echo_goes_again v.endpoint cookie.addressee held bytes moment turns (echoes_on v.endpoint w.endpoint cookie bytes h) good due time in
    record {
      awaits = awaits_still v.endpoint w.endpoint here.endpoint w.endpoint cookie bytes moment (events_of turns) h o.waited refl;
      t1 = t1_continues v.endpoint here.endpoint more moment fits t1 o.waited.moment o.t1;
      same = o.waited.options;
      told = o.waited.told v.told;
    }

-- A moment uses at most one restart.
pub still_awaits : (v w : View) (cookie : Cookie) (bytes : List ℕ) (more moment : ℕ) (turns : List Transition) → Good v.endpoint.options → moment ≤ max_nanos → EchoesWithData v.endpoint w.endpoint cookie bytes
    → RetriesT1 v.endpoint (suc more) → AdvanceTurns v.endpoint moment turns → StillAwaits v w cookie bytes more turns
still_awaits v w cookie bytes more moment turns good fits h t1 time =
    awaits_by (nat_le v.endpoint.moment moment) (has_come moment (deadline_of v.endpoint.timers.t1)) v w cookie bytes more moment turns refl refl good fits h t1 time
