-- A lost COOKIE ACK, and data behind it: rounds whose packets are lost, and the quiet one after them.
use Rattle.std.specs.Duration.{max_nanos}
use Rattle.std.specs.Prelude.{nat_le, ◌+◌}
use Rattle.std.proofs.Common.{◌≡◌, ◌≤◌, ◌<◌, ℕ, zero, suc, arith, List, [], ◌∷◌, length, refl, sym, subst, ap, ◌∙◌}
use Rattle.dcsctp_spec_lemmas.specs.types.declared.association.Held.{Held}
use Rattle.dcsctp_spec_lemmas.specs.types.declared.capabilities.Capabilities.{Capabilities}
use Rattle.dcsctp_spec_lemmas.specs.types.declared.options.Options.{Options}
use Rattle.dcsctp_spec_lemmas.specs.types.declared.schedule.Side.{Side}
use Rattle.dcsctp_spec_lemmas.specs.types.declared.schedule.Side.TheVariants as sides
use Rattle.dcsctp_spec_lemmas.specs.types.Offer.{Offer, offer_of, negotiated_capabilities}
use Rattle.dcsctp_spec_lemmas.specs.spec.Cookie.{Cookie}
use Rattle.dcsctp_spec_lemmas.specs.spec.association.HandshakeChanges.{new_held}
use Rattle.dcsctp_spec_lemmas.specs.spec.association.CookieEchoChanges.{held_by_cookie}
use Rattle.dcsctp_spec_lemmas.specs.spec.endpoint.Endpoint.{Endpoint, Core, open_in, established, held_by_core}
use Rattle.dcsctp_spec_lemmas.specs.spec.endpoint.TimeTurns.{next_moment, t1_timer, timers_counted, TimePassesQuietly}
use Rattle.dcsctp_spec_lemmas.specs.spec.endpoint.Turn.{with_clock}
use Rattle.dcsctp_spec_lemmas.specs.spec.endpoint.CallTurns.{Transition, events_of}
use Rattle.dcsctp_spec_runs.specs.Sockets.{PerformedAct, Both, turns_after, SocketRun}
use Rattle.dcsctp_theorem_sockets.specs.Agreement.{AreUsable}
use Rattle.dcsctp_theorem_sockets.specs.Handshake.{AreFitting}
use Rattle.dcsctp_theorem_progress.specs.Connecting.{connections_once_open}
use Rattle.dcsctp_theorem_progress.specs.DataEchoes.{EchoesWithData, HasCookie}
use Rattle.dcsctp_theorem_progress.specs.Heartbeats.{SurvivesRounds, LostDataAcksConnect}
use Rattle.dcsctp_theorem_progress.specs.LostInits.{DueT1}
use Rattle.dcsctp_theorem_progress.specs.Retries.{RetriesT1}
use Rattle.dcsctp_theorem_progress.specs.Rounds.{AdvancesBothClocks, LostRounds, QuietRound, counts_shown}
use Rattle.dcsctp_theorem_sockets.proofs.Bytes.{ReadPairs, read_pairs_fit}
use Rattle.dcsctp_theorem_sockets.proofs.HandshakeTurns.{HandshakeLaws}
use Rattle.dcsctp_theorem_progress.proofs.AckLost.{lesser_within, comes_first}
use Rattle.dcsctp_theorem_progress.proofs.DataEcho.{StillAwaits, still_awaits, awaits_beside, echoes_on, under_again}
use Rattle.dcsctp_theorem_progress.proofs.EchoAgain.{EchoedOn, echo_goes_again}
use Rattle.dcsctp_theorem_progress.proofs.DataBeats.{endured}
use Rattle.dcsctp_theorem_progress.proofs.Enduring.{Endures, EnduredAlong}
use Rattle.dcsctp_theorem_progress.proofs.FourExchanges.{four_exchanges}
use Rattle.dcsctp_theorem_progress.proofs.EchoComes.{echoing_end, EchoUnder}
use Rattle.dcsctp_theorem_progress.proofs.Facts.{Fit}
use Rattle.dcsctp_theorem_progress.proofs.Flows.{IsOfKind, Flows}
use Rattle.dcsctp_theorem_progress.proofs.Handed.{Settles, keep_same, settles}
use Rattle.dcsctp_theorem_progress.proofs.Joined.{JoinedBy}
use Rattle.dcsctp_theorem_progress.proofs.Maintaining.{none_more, established_core, maintains_along}
use Rattle.dcsctp_theorem_progress.proofs.Meanwhile.{ClockMoves, open_moves_by}
use Rattle.dcsctp_theorem_progress.proofs.Promise.{MovedOf, SettledBy, fit_of, lesser_of, moment_by, moves_of, ran_lost, settled_in, once_more, connected_a, connected_b}
use Rattle.dcsctp_theorem_progress.proofs.Retries.{due_next, t1_fits}
use Rattle.dcsctp_theorem_progress.proofs.Views.{AtOf, KeepOf, View, ran, ran_exchanges, view, view_then}

-- ---- lost rounds

-- This side awaits a COOKIE ACK with that many restarts left, and the other is Established by the cookie, and endures that many errors.
record DataAckReady (side : Side) (options : Both Options) (run : List PerformedAct) (cookie : Cookie) (bytes : List ℕ) (more less m n : ℕ) : Type 0 where
  v : View
  w : View
  at : AtOf side options run v w
  keep : KeepOf side options v w
  awaits : EchoesWithData v.endpoint w.endpoint cookie bytes
  t1 : RetriesT1 v.endpoint more
  core : w.endpoint.core ≡ established_core w.endpoint.options cookie
  kind : IsOfKind (held_by_cookie w.endpoint.options cookie) w.endpoint
  endures : Endures w.endpoint less
  mine : v.told ≡ m
  others : w.told ≡ n

lost_round : (side : Side) (options : Both Options) (earlier run : List PerformedAct) (cookie : Cookie) (bytes : List ℕ) (more less m n : ℕ) → AreUsable options → AreFitting options
    → DataAckReady side options earlier cookie bytes (suc more) (suc (suc less)) m n → AdvancesBothClocks options earlier run → SocketRun options run → DataAckReady side options run cookie bytes more less m n
lost_round side options earlier run cookie bytes more less m n are fit h time runs =
    let v : View = h.v in
    let w : View = h.w in
    let held : Held = held_by_cookie w.endpoint.options cookie in
    let moment : ℕ = lesser_of side v w in
    let good : Fit v.endpoint.options w.endpoint.options = fit_of side options v w are fit h.keep in
    let moved : MovedOf side options run v w moment = moves_of side options earlier run v w h.at h.keep time runs in
    let within : moment ≤ max_nanos = lesser_within side v w (t1_fits v.endpoint (suc more) (ap timers_counted h.awaits.core) h.t1) in
    let a : StillAwaits v w cookie bytes more moved.mine = still_awaits v w cookie bytes more moment moved.mine good.good_a within h.awaits h.t1 moved.mine_turns in
    let b : EnduredAlong held w.endpoint moved.others less = endured held cookie.maker w.endpoint moment less moved.others h.core h.endures moved.others_turns in
    let here : View = view_then v moved.mine in
    let there : View = view_then w moved.others in
    record {
      v = here;
      w = there;
      at = moved.at;
      keep = keep_same side options v w here there a.same b.options h.keep;
      awaits = awaits_beside here.endpoint w.endpoint there.endpoint cookie bytes b.options a.awaits;
      t1 = a.t1;
      core = b.core ∙ h.core ∙ ap (λ (o : Options). established_core o cookie) (sym b.options);
      kind = subst (λ (o : Options). IsOfKind (held_by_cookie o cookie) there.endpoint) (sym b.options) (b.flows h.kind).kind;
      endures = b.endures;
      mine = a.told ∙ h.mine;
      others = b.told w.told ∙ h.others;
    }

two_more : (n : ℕ) → suc n + suc n ≡ suc (suc (n + n))
two_more n = omega arith

lost_rounds : (lost : ℕ) (side : Side) (options : Both Options) (earlier run : List PerformedAct) (cookie : Cookie) (bytes : List ℕ) (m n : ℕ) → AreUsable options → AreFitting options
    → DataAckReady side options earlier cookie bytes (suc lost) (lost + lost) m n → LostRounds options lost earlier run → SocketRun options run → DataAckReady side options run cookie bytes 1 0 m n
lost_rounds zero side options earlier run cookie bytes m n are fit h is runs = subst (λ (r : List PerformedAct). DataAckReady side options r cookie bytes 1 0 m n) (sym is) h
lost_rounds (suc lost) side options earlier run cookie bytes m n are fit h rounds runs =
    let now : DataAckReady side options earlier cookie bytes (suc (suc lost)) (suc (suc (lost + lost))) m n =
    subst (λ (k : ℕ). DataAckReady side options earlier cookie bytes (suc (suc lost)) k m n) (two_more lost) h in
    lost_rounds lost side options rounds.0 run cookie bytes m n are fit
    (lost_round side options earlier rounds.0 cookie bytes (suc lost) (lost + lost) m n are fit now rounds.1 (ran_lost options lost rounds.0 run rounds.2 runs)) rounds.2 runs

-- ---- the quiet round

no_later : (n m : ℕ) → n < m → n ≤ m
no_later n m first = omega (arith, first)

pub clock_flows : (held : Held) (e : Endpoint) (moment : ℕ) → Flows held e → Flows held (with_clock moment e)
clock_flows held e moment f =
    record {
      kind = record { peer = f.kind.peer; transfer = f.kind.transfer; known = f.kind.known; interleaves = f.kind.interleaves; abandons = f.kind.abandons };
      unpaused = f.unpaused;
    }

quiet_round : HandshakeLaws → TimePassesQuietly → (side : Side) (options : Both Options) (settled : Both ℕ) (earlier run : List PerformedAct) (cookie : Cookie) (bytes : List ℕ) (m n : ℕ) → AreUsable options → AreFitting options
    → (h : DataAckReady side options earlier cookie bytes 1 0 m n) → next_moment h.v.endpoint < next_moment h.w.endpoint
    → QuietRound options (counts_shown options (turns_after earlier)) earlier settled run → SocketRun options run → SettledBy side options run (suc m) n
quiet_round law time side options settled earlier run cookie bytes m n are fit h waits quiet runs =
    let v : View = h.v in
    let w : View = h.w in
    let held : Held = echoing_end v.endpoint.options w.endpoint.options cookie in
    let moment : ℕ = lesser_of side v w in
    let counted : timers_counted v.endpoint.core ≡ t1_timer ∷ [] = ap timers_counted h.awaits.core in
    let between : SocketRun options quiet.between = ran_exchanges options 4 _ quiet.between settled run quiet.exchanges runs in
    let good : Fit v.endpoint.options w.endpoint.options = fit_of side options v w are fit h.keep in
    let moved : MovedOf side options quiet.between v w moment = moves_of side options earlier quiet.between v w h.at h.keep quiet.time between in
    let at_t1 : moment ≡ next_moment v.endpoint = moment_by side v w (no_later (next_moment v.endpoint) (next_moment w.endpoint) waits) in
    let due : DueT1 v.endpoint moment = subst (DueT1 v.endpoint) (sym at_t1) (due_next v.endpoint 0 counted h.t1) in
    let here : View = view_then v moved.mine in
    let there : View = view_then w moved.others in
    let o : EchoedOn (with_clock moment v.endpoint) held bytes here.endpoint (events_of moved.mine) =
    echo_goes_again v.endpoint cookie.addressee held bytes moment moved.mine (echoes_on v.endpoint w.endpoint cookie bytes h.awaits) good.good_a due moved.mine_turns in
    let moves : ClockMoves w moment moved.others =
    open_moves_by time (nat_le w.endpoint.moment moment) w established cookie.maker (held_by_cookie w.endpoint.options cookie) moment moved.others refl h.core
    (subst (λ (k : ℕ). k < next_moment w.endpoint) (sym at_t1) waits) moved.others_turns in
    let same : there.endpoint.options ≡ w.endpoint.options = ap (λ (f : Endpoint). f.options) moves.endpoint in
    let core : there.endpoint.core ≡ established_core there.endpoint.options cookie =
    ap (λ (f : Endpoint). f.core) moves.endpoint ∙ h.core ∙ ap (λ (x : Options). established_core x cookie) (sym same) in
    let flows : Flows (held_by_cookie there.endpoint.options cookie) there.endpoint =
    subst (λ (f : Endpoint). Flows (held_by_cookie f.options cookie) f) (sym moves.endpoint) (clock_flows (held_by_cookie w.endpoint.options cookie) w.endpoint _ (record { kind = h.kind; unpaused = h.endures.unpaused })) in
    let kept : KeepOf side options here there = keep_same side options v w here there o.waited.options same h.keep in
    let both : Fit here.endpoint.options there.endpoint.options = fit_of side options here there are fit kept in
    let read : ReadPairs cookie = read_pairs_fit bytes cookie h.awaits.fits.cookie_in_bytes h.awaits.reads in
    let offered : cookie.offer ≡ offer_of here.endpoint.options = h.awaits.offer ∙ ap offer_of (sym o.waited.options) in
    let counts : Settles (counts_shown options (turns_after earlier)) side (length v.shown) (length w.shown) = settles side options earlier v w h.at in
    let joined : JoinedBy side options run here there (suc here.told) there.told =
    four_exchanges law none_more side options here there cookie bytes v.shown (counts_shown options (turns_after earlier)) settled quiet.between run both
    (subst (λ (x : Options). EchoUnder here x cookie bytes v.shown) (sym same) (under_again v w cookie bytes moment moved.mine h.awaits o))
    (record { offered = offered; fits = both.good_a.fits; maker = read.maker; port = both.to_b }) (record { offered = offered; fits = both.good_b.fits; addressee = read.addressee; port = both.to_a })
    (λ more turns each input.
    maintains_along law there.endpoint here.endpoint.options cookie bytes more turns core flows (record { reads = h.awaits.reads; fits = h.awaits.fits; own = read.maker }) both.good_a both.good_b both.to_b each input)
    kept moved.at (record { mine = counts.mine; others = counts.others ∙ sym moves.shown }) quiet.exchanges runs in
    subst (λ (k : ℕ). SettledBy side options run (suc k) n) (o.waited.told v.told ∙ h.mine)
    (subst (λ (k : ℕ). SettledBy side options run (suc here.told) k) (moves.told ∙ h.others) (settled_in side options run here there _ _ kept joined))

settle : HandshakeLaws → TimePassesQuietly → (side : Side) (options : Both Options) (lost : ℕ) (settled : Both ℕ) (earlier between run : List PerformedAct) (cookie : Cookie) (bytes : List ℕ) (m n : ℕ) (x y : View)
    → AreUsable options → AreFitting options → DataAckReady side options earlier cookie bytes (suc lost) (lost + lost) m n → LostRounds options lost earlier between
    → AtOf side options between x y → next_moment x.endpoint < next_moment y.endpoint
    → QuietRound options (counts_shown options (turns_after between)) between settled run → SocketRun options run → SettledBy side options run (suc m) n
settle law time side options lost settled earlier between run cookie bytes m n x y are fit h rounds seen waits quiet runs =
    let there : SocketRun options between = ran options between _ quiet.between quiet.time (ran_exchanges options 4 _ quiet.between settled run quiet.exchanges runs) in
    let now : DataAckReady side options between cookie bytes 1 0 m n = lost_rounds lost side options earlier between cookie bytes m n are fit h rounds there in
    quiet_round law time side options settled between run cookie bytes m n are fit now (comes_first side options between now.v now.w now.at x y seen waits) quiet runs

-- ---- the law

linked_by : Endpoint → Cookie → Offer → Core
linked_by f cookie offer = open_in established cookie.maker (new_held cookie.maker cookie.addressee (negotiated_capabilities (offer_of f.options) offer))

-- By what the cookie says of the other's offer.
by_cookie : (e f : Endpoint) (cookie : Cookie) (lost : ℕ) → cookie.offer ≡ offer_of e.options → HasCookie e f cookie → SurvivesRounds f lost
    → (f.core ≡ established_core f.options cookie) × IsOfKind (held_by_cookie f.options cookie) f × Endures f (lost + lost)
by_cookie e f cookie lost offered h s =
    let caps : Offer → Capabilities = λ o. negotiated_capabilities (offer_of f.options) o in
    let named : caps (offer_of e.options) ≡ caps cookie.offer = ap caps (sym offered) in
    let core : f.core ≡ established_core f.options cookie = h.core ∙ ap (λ (c : Capabilities). open_in established cookie.maker (new_held cookie.maker cookie.addressee c)) named in (
      core,
      record {
        peer = ap held_by_core core;
        transfer = h.data_flows.transfer;
        known = h.data_flows.known;
        interleaves = h.data_flows.interleaves ∙ ap (λ (c : Capabilities). c.message_interleaving) named;
        abandons = h.data_flows.abandons ∙ ap (λ (c : Capabilities). c.partial_reliability) named;
      },
      record { unpaused = h.data_flows.unpaused; reconfiguration = s.reconfiguration; t2 = s.t2; errors = s.errors },
    )

pub lost_data_acks_connect : HandshakeLaws → TimePassesQuietly → LostDataAcksConnect
lost_data_acks_connect law time options run are fit runs sides.A lost settled earlier between cookie bytes keeps_a keeps_b awaits t1 has_cookie survives rounds waits quiet =
    let turns : Both (List Transition) = turns_after earlier in
    let v : View = view options.a turns.a in
    let w : View = view options.b turns.b in
    let there = by_cookie v.endpoint w.endpoint cookie lost awaits.offer has_cookie survives in
    let ready : DataAckReady sides.A options earlier cookie bytes (suc lost) (lost + lost) v.told w.told = record {
      v = v;
      w = w;
      at = record { a = refl; b = refl };
      keep = record { a = keeps_a.same; b = keeps_b.same };
      awaits = awaits;
      t1 = t1;
      core = there.0;
      kind = there.1;
      endures = there.2;
      mine = refl;
      others = refl;
    } in
    connected_a options turns run _ _ (once_more v _ awaits.core refl) (record { once = sym (ap (λ (core : Core). connections_once_open core w.told) has_cookie.core) })
    (settle law time sides.A options lost settled earlier between run cookie bytes v.told w.told (view options.a (turns_after between).a) (view options.b (turns_after between).b) are fit ready rounds
    (record { a = refl; b = refl }) waits quiet runs)
lost_data_acks_connect law time options run are fit runs sides.B lost settled earlier between cookie bytes keeps_b keeps_a awaits t1 has_cookie survives rounds waits quiet =
    let turns : Both (List Transition) = turns_after earlier in
    let v : View = view options.b turns.b in
    let w : View = view options.a turns.a in
    let there = by_cookie v.endpoint w.endpoint cookie lost awaits.offer has_cookie survives in
    let ready : DataAckReady sides.B options earlier cookie bytes (suc lost) (lost + lost) v.told w.told = record {
      v = v;
      w = w;
      at = record { a = refl; b = refl };
      keep = record { a = keeps_a.same; b = keeps_b.same };
      awaits = awaits;
      t1 = t1;
      core = there.0;
      kind = there.1;
      endures = there.2;
      mine = refl;
      others = refl;
    } in
    connected_b options turns run _ _ (record { once = sym (ap (λ (core : Core). connections_once_open core w.told) has_cookie.core) }) (once_more v _ awaits.core refl)
    (settle law time sides.B options lost settled earlier between run cookie bytes v.told w.told (view options.b (turns_after between).b) (view options.a (turns_after between).a) are fit ready rounds
    (record { a = refl; b = refl }) waits quiet runs)
