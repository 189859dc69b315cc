-- A round after a COOKIE ECHO with data: the clocks go on, T1 expires first, and the COOKIE ECHO goes again.
use Rattle.std.specs.Duration.{max_nanos}
use Rattle.std.specs.Prelude.{nat_le}
use Rattle.std.proofs.Common.{◌≡◌, ◌≤◌, ℕ, suc, List, [], ◌∷◌, ◌++◌, length, refl, sym, subst, ap, ◌∙◌, arith}
use Rattle.dcsctp_spec_lemmas.specs.types.declared.association.Held.{Held}
use Rattle.dcsctp_spec_lemmas.specs.types.declared.options.Options.{Options}
use Rattle.dcsctp_spec_lemmas.specs.types.declared.schedule.Side.{Side}
use Rattle.dcsctp_spec_lemmas.specs.types.Offer.{Offer, offer_of, negotiated_capabilities}
use Rattle.dcsctp_spec_lemmas.specs.spec.Cookie.{Cookie}
use Rattle.dcsctp_spec_lemmas.specs.spec.Packet.{Emission}
use Rattle.dcsctp_spec_lemmas.specs.spec.association.CookieEchoChanges.{held_by_cookie}
use Rattle.dcsctp_spec_lemmas.specs.spec.association.HandshakeChanges.{new_held}
use Rattle.dcsctp_spec_lemmas.specs.spec.endpoint.CallTurns.{Transition, events_of}
use Rattle.dcsctp_spec_lemmas.specs.spec.endpoint.Endpoint.{Endpoint, Core, closed, open_in, established, held_by_core}
use Rattle.dcsctp_spec_lemmas.specs.spec.endpoint.MessageOutcomes.{awaits_opening}
use Rattle.dcsctp_spec_lemmas.specs.spec.endpoint.TimeTurns.{AdvanceTurns, TimePassesQuietly, next_moment, t1_timer, timers_counted}
use Rattle.dcsctp_spec_lemmas.specs.spec.endpoint.Turn.{with_clock}
use Rattle.dcsctp_spec_runs.specs.Sockets.{PerformedAct, Both, SocketRun}
use Rattle.dcsctp_theorem_sockets.specs.Agreement.{AreUsable}
use Rattle.dcsctp_theorem_sockets.specs.Handshake.{AreFitting}
use Rattle.dcsctp_theorem_progress.specs.Connecting.{connections_once_open}
use Rattle.dcsctp_theorem_progress.specs.DataEchoes.{FlowsAsAgreed, EchoesWithData, TakesCookie, HasCookie}
use Rattle.dcsctp_theorem_progress.specs.LossyRounds.{TakesOrHas, takes_it, has_it, AnswersWithData, takes_then, has_before}
use Rattle.dcsctp_theorem_progress.specs.LostInits.{DueT1}
use Rattle.dcsctp_theorem_progress.specs.Retries.{RetriesT1}
use Rattle.dcsctp_theorem_progress.specs.Rounds.{AdvancesBothClocks}
use Rattle.dcsctp_theorem_sockets.proofs.Bytes.{ReadPairs, read_pairs_fit}
use Rattle.dcsctp_theorem_sockets.proofs.HandshakeReads.{counted_at}
use Rattle.dcsctp_theorem_sockets.proofs.HandshakeTurns.{HandshakeLaws, Good}
use Rattle.dcsctp_theorem_progress.proofs.DataEcho.{awaits_still, echoes_on, under_again}
use Rattle.dcsctp_theorem_progress.proofs.DataAcks.{clock_flows}
use Rattle.dcsctp_theorem_progress.proofs.EchoAgain.{EchoedOn, echo_goes_again}
use Rattle.dcsctp_theorem_progress.proofs.EchoComes.{bytes_of, echoing_end, EchoUnder, TakesEcho, shown_is}
use Rattle.dcsctp_theorem_progress.proofs.Echoes.{new_case}
use Rattle.dcsctp_theorem_progress.proofs.Establishing.{echo_then, establishes_along}
use Rattle.dcsctp_theorem_progress.proofs.Facts.{Fit}
use Rattle.dcsctp_theorem_progress.proofs.Flows.{Flows}
use Rattle.dcsctp_theorem_progress.proofs.Handed.{keep_same}
use Rattle.dcsctp_theorem_progress.proofs.Answering.{EchoSent, Awaiting, EchoAloneOf, EchoAlone, flows_of}
use Rattle.dcsctp_theorem_progress.proofs.LossyAcks.{caps_of, crossed}
use Rattle.dcsctp_theorem_progress.proofs.Maintaining.{established_core, maintains_along, none_more}
use Rattle.dcsctp_theorem_progress.proofs.Meanwhile.{ClockMoves, closed_moves_by, open_moves_by}
use Rattle.dcsctp_theorem_progress.proofs.Promise.{MovedOf, fit_of, lesser_of, moment_by, moves_of}
use Rattle.dcsctp_theorem_progress.proofs.Retries.{due_next, never, t1_continues, t1_fits}
use Rattle.dcsctp_theorem_progress.proofs.Views.{AtOf, KeepOf, View, view_then}

-- ---- the other

-- Its clock has moved, and it acknowledges the COOKIE ECHO now, whatever is behind that. So it tells OnConnected, if it does.
record OtherReady (v w : View) (cookie : Cookie) (bytes : List ℕ) (moment : ℕ) (turns : List Transition) : Type 0 where
  moves : ClockMoves w moment turns
  other : (e : Endpoint) → e.options ≡ v.endpoint.options → TakesOrHas e (view_then w turns).endpoint cookie
  tells : ℕ → ℕ
  takes : TakesEcho tells (view_then w turns) v.endpoint.options cookie bytes
  tells_so : tells w.told ≡ connections_once_open w.endpoint.core w.told

has_still : (e e' f f' : Endpoint) (cookie : Cookie) (k : ℕ) → e'.options ≡ e.options → f' ≡ with_clock k f → HasCookie e f cookie → HasCookie e' f' cookie
has_still e e' f f' cookie k same is h =
    subst (λ (x : Endpoint). HasCookie e' x cookie) (sym is)
    (record {
      core = h.core ∙ ap (λ (o : Options). open_in established cookie.maker (new_held cookie.maker cookie.addressee (caps_of f.options o))) (sym same);
      data_flows = subst (λ (o : Options). FlowsAsAgreed (with_clock k f) (caps_of f.options o)) (sym same)
          (record {
            transfer = h.data_flows.transfer;
            known = h.data_flows.known;
            interleaves = h.data_flows.interleaves;
            abandons = h.data_flows.abandons;
            unpaused = h.data_flows.unpaused;
          });
    })

other_ready : HandshakeLaws → TimePassesQuietly → (v w : View) (cookie : Cookie) (bytes : List ℕ) (moment : ℕ) (turns : List Transition) → EchoesWithData v.endpoint w.endpoint cookie bytes
    → AnswersWithData v.endpoint w.endpoint cookie moment → Fit v.endpoint.options w.endpoint.options → AdvanceTurns w.endpoint moment turns → OtherReady v w cookie bytes moment turns
other_ready law time v w cookie bytes moment turns g (takes_then h) fit advance =
    let a : Options = v.endpoint.options in
    let there : View = view_then w turns in
    let moves : ClockMoves w moment turns = closed_moves_by (nat_le w.endpoint.moment moment) w moment turns refl h.core advance in
    let taken : TakesCookie there.endpoint cookie = subst (λ (f : Endpoint). TakesCookie f cookie) (sym moves.endpoint) h in
    let good : Good there.endpoint.options = subst (λ (f : Endpoint). Good f.options) (sym moves.endpoint) fit.good_b in
    let read : ReadPairs cookie = read_pairs_fit bytes cookie g.fits.cookie_in_bytes g.reads in
    record {
      moves = moves;
      other = λ e same. takes_it taken;
      tells = suc;
      takes = λ more turns each input.
          establishes_along law there.endpoint closed a cookie bytes more turns taken.core (ap (awaits_opening there.endpoint) taken.core) (new_case (counted_at there.endpoint) cookie taken.taken)
          (λ has e o begin. begin) (record { reads = g.reads; fits = g.fits; own = read.maker }) taken.unpaused fit.good_a good
          (fit.to_b ∙ ap (λ (f : Endpoint). f.options.local_port) (sym moves.endpoint)) each input;
      tells_so = sym (ap (λ (core : Core). connections_once_open core w.told) h.core);
    }
other_ready law time v w cookie bytes moment turns g (has_before h waits) fit advance =
    let a : Options = v.endpoint.options in
    let b : Options = w.endpoint.options in
    let there : View = view_then w turns in
    let moves : ClockMoves w moment turns = open_moves_by time (nat_le w.endpoint.moment moment) w established cookie.maker _ moment turns refl h.core waits advance in
    let core : w.endpoint.core ≡ established_core b cookie = h.core ∙ sym (crossed a b a b cookie g.offer refl refl) in
    let flows : Flows (held_by_cookie b cookie) w.endpoint =
    flows_of w.endpoint (held_by_cookie b cookie) (ap held_by_core core) (subst (FlowsAsAgreed w.endpoint) (ap (λ (o : Offer). negotiated_capabilities (offer_of b) o) (sym g.offer)) h.data_flows) in
    let good : Good there.endpoint.options = subst (λ (f : Endpoint). Good f.options) (sym moves.endpoint) fit.good_b in
    let read : ReadPairs cookie = read_pairs_fit bytes cookie g.fits.cookie_in_bytes g.reads in
    record {
      moves = moves;
      other = λ e same. has_it (has_still v.endpoint e w.endpoint there.endpoint cookie _ same moves.endpoint h);
      tells = none_more;
      takes = λ more turns each input.
          maintains_along law there.endpoint a cookie bytes more turns
          (ap (λ (f : Endpoint). f.core) moves.endpoint ∙ core ∙ ap (λ (f : Endpoint). established_core f.options cookie) (sym moves.endpoint))
          (subst (λ (f : Endpoint). Flows (held_by_cookie f.options cookie) f) (sym moves.endpoint) (clock_flows (held_by_cookie b cookie) w.endpoint _ flows))
          (record { reads = g.reads; fits = g.fits; own = read.maker }) fit.good_a good (fit.to_b ∙ ap (λ (f : Endpoint). f.options.local_port) (sym moves.endpoint)) each input;
      tells_so = sym (ap (λ (core : Core). connections_once_open core w.told) h.core);
    }

-- ---- both

-- The COOKIE ECHO is under way, and nothing else.
pub record GoneAgain (side : Side) (options : Both Options) (run : List PerformedAct) (v w : View) (sent : EchoSent) (more : ℕ) : Type 0 where
  pub here : View
  pub there : View
  pub at : AtOf side options run here there
  pub awaiting : Awaiting side options here there sent.cookie sent.bytes more
  pub other : TakesOrHas here.endpoint there.endpoint sent.cookie
  pub tells : ℕ → ℕ
  pub takes : TakesEcho tells there here.endpoint.options sent.cookie sent.bytes
  pub under : EchoUnder here there.endpoint.options sent.cookie sent.bytes sent.before
  pub alone : EchoAlone here there.endpoint.options sent.cookie sent.bytes sent.before
  pub told_here : here.told ≡ v.told
  pub told_there : tells there.told ≡ connections_once_open w.endpoint.core w.told
  pub shown : length there.shown ≡ length w.shown

abbrev pub sent_after : View → Cookie → List ℕ → EchoSent
sent_after v cookie bytes = record { cookie = cookie; bytes = bytes; before = v.shown }

first_of : (e f : Endpoint) (cookie : Cookie) → next_moment e ≤ max_nanos → AnswersWithData e f cookie (next_moment e) → next_moment e ≤ next_moment f
first_of e f cookie fits (takes_then h) = subst (λ (n : ℕ). next_moment e ≤ n) (sym (never f h.core)) fits
first_of e f cookie fits (has_before h waits) = omega (arith, waits)

pub gone_alone : (v here : View) (b b' : Options) (cookie : Cookie) (bytes : List ℕ) (moment : ℕ) (turns : List Transition) → here ≡ view_then v turns → b' ≡ b
    → EchoedOn (with_clock moment v.endpoint) (echoing_end v.endpoint.options b cookie) bytes here.endpoint (events_of turns) → EchoAlone here b' cookie bytes v.shown
gone_alone v here b b' cookie bytes moment turns is alike o =
    let a : Options = v.endpoint.options in
    let alone : EchoAloneOf here a (echoing_end a b cookie) cookie bytes v.shown = record {
      more = o.sends.more;
      carried = o.sends.carried;
      shown = ap (λ (x : View). x.shown) is
          ∙ ap (λ (ps : List (List ℕ)). v.shown ++ ps) (shown_is a turns ∙ ap (bytes_of a) (o.sends.packets ∙ ap (λ (rest : List Emission). echo_then cookie bytes o.sends.more ∷ rest) o.sends.alone));
    } in
    subst (λ (y : Options). EchoAlone here y cookie bytes v.shown) (sym alike)
    (subst (λ (x : Options). EchoAloneOf here x (echoing_end x b cookie) cookie bytes v.shown) (sym o.waited.options) alone)

pub goes_again : HandshakeLaws → TimePassesQuietly → (side : Side) (options : Both Options) (earlier run : List PerformedAct) (v w : View) (cookie : Cookie) (bytes : List ℕ) (more : ℕ) → AreUsable options → AreFitting options
    → AtOf side options earlier v w → KeepOf side options v w → EchoesWithData v.endpoint w.endpoint cookie bytes → RetriesT1 v.endpoint (suc more) → AnswersWithData v.endpoint w.endpoint cookie (next_moment v.endpoint)
    → AdvancesBothClocks options earlier run → SocketRun options run → GoneAgain side options run v w (sent_after v cookie bytes) more
goes_again law time side options earlier run v w cookie bytes more are fit at keep awaits t1 answers clocks runs =
    let a : Options = v.endpoint.options in
    let b : Options = w.endpoint.options in
    let held : Held = echoing_end a b cookie in
    let next : ℕ = next_moment v.endpoint in
    let moment : ℕ = lesser_of side v w in
    let counted : timers_counted v.endpoint.core ≡ t1_timer ∷ [] = ap timers_counted awaits.core in
    let within : next ≤ max_nanos = t1_fits v.endpoint (suc more) counted t1 in
    let good : Fit a b = fit_of side options v w are fit keep in
    let moved : MovedOf side options run v w moment = moves_of side options earlier run v w at keep clocks runs in
    let at_t1 : moment ≡ next = moment_by side v w (first_of v.endpoint w.endpoint cookie within answers) in
    let due : DueT1 v.endpoint moment = subst (DueT1 v.endpoint) (sym at_t1) (due_next v.endpoint more counted t1) in
    let here : View = view_then v moved.mine in
    let there : View = view_then w moved.others in
    let o : EchoedOn (with_clock moment v.endpoint) held bytes here.endpoint (events_of moved.mine) =
    echo_goes_again v.endpoint cookie.addressee held bytes moment moved.mine (echoes_on v.endpoint w.endpoint cookie bytes awaits) good.good_a due moved.mine_turns in
    let r : OtherReady v w cookie bytes moment moved.others =
    other_ready law time v w cookie bytes moment moved.others awaits (subst (AnswersWithData v.endpoint w.endpoint cookie) (sym at_t1) answers) good moved.others_turns in
    let same : there.endpoint.options ≡ b = ap (λ (f : Endpoint). f.options) r.moves.endpoint in
    let kept : KeepOf side options here there = keep_same side options v w here there o.waited.options same keep in
    record {
      here = here;
      there = there;
      at = moved.at;
      awaiting = record {
        keep = kept;
        fit = fit_of side options here there are fit kept;
        awaits = awaits_still v.endpoint w.endpoint here.endpoint there.endpoint cookie bytes moment (events_of moved.mine) awaits o.waited same;
        t1 = t1_continues v.endpoint here.endpoint more moment (subst (λ (k : ℕ). k ≤ max_nanos) (sym at_t1) within) t1 o.waited.moment o.t1;
      };
      other = r.other here.endpoint o.waited.options;
      tells = r.tells;
      takes = subst (λ (x : Options). TakesEcho r.tells there x cookie bytes) (sym o.waited.options) r.takes;
      under = subst (λ (x : Options). EchoUnder here x cookie bytes v.shown) (sym same) (under_again v w cookie bytes moment moved.mine awaits o);
      alone = gone_alone v here b there.endpoint.options cookie bytes moment moved.mine refl same o;
      told_here = o.waited.told v.told;
      told_there = ap r.tells r.moves.told ∙ r.tells_so;
      shown = r.moves.shown;
    }
