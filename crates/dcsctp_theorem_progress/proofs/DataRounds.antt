-- Rounds whose packets are lost, after a COOKIE ECHO with data behind it; and the quiet one after them.
use Rattle.std.specs.Duration.{max_nanos}
use Rattle.std.specs.Prelude.{max, nat_le}
use Rattle.std.proofs.Common.{◌≡◌, ◌≤◌, ℕ, zero, suc, arith, List, [], ◌∷◌, length, refl, sym, subst, ap, ◌∙◌}
use Rattle.dcsctp_spec_lemmas.specs.types.declared.options.Options.{Options}
use Rattle.dcsctp_spec_lemmas.specs.types.declared.schedule.Side.{Side}
use Rattle.dcsctp_spec_lemmas.specs.types.Offer.{offer_of}
use Rattle.dcsctp_spec_lemmas.specs.spec.Cookie.{Cookie}
use Rattle.dcsctp_spec_lemmas.specs.spec.endpoint.Endpoint.{Endpoint, closed}
use Rattle.dcsctp_spec_lemmas.specs.spec.endpoint.MessageOutcomes.{awaits_opening}
use Rattle.dcsctp_spec_lemmas.specs.spec.endpoint.TimeTurns.{next_moment, t1_timer, timers_counted}
use Rattle.dcsctp_spec_lemmas.specs.spec.endpoint.Turn.{with_clock}
use Rattle.dcsctp_spec_lemmas.specs.spec.endpoint.CallTurns.{Transition, events_of}
use Rattle.dcsctp_spec_runs.specs.Sockets.{PerformedAct, Both, turns_after, SocketRun}
use Rattle.dcsctp_theorem_sockets.specs.Agreement.{AreUsable}
use Rattle.dcsctp_theorem_sockets.specs.Handshake.{AreFitting}
use Rattle.dcsctp_theorem_progress.specs.DataEchoes.{EchoesWithData, TakesCookie}
use Rattle.dcsctp_theorem_progress.specs.LostInits.{DueT1}
use Rattle.dcsctp_theorem_progress.specs.Retries.{RetriesT1, t1_expiry}
use Rattle.dcsctp_theorem_progress.specs.Rounds.{AdvancesBothClocks, LostRounds, QuietRound, counts_shown}
use Rattle.dcsctp_theorem_sockets.proofs.Bytes.{ReadPairs, read_pairs_fit}
use Rattle.dcsctp_theorem_sockets.proofs.HandshakeReads.{counted_at}
use Rattle.dcsctp_theorem_sockets.proofs.HandshakeTurns.{HandshakeLaws}
use Rattle.dcsctp_theorem_progress.proofs.DataEcho.{echoes_on, awaits_still, under_again}
use Rattle.dcsctp_theorem_progress.proofs.EchoAgain.{EchoedOn, echo_goes_again}
use Rattle.dcsctp_theorem_progress.proofs.EchoComes.{echoing_end, EchoUnder}
use Rattle.dcsctp_theorem_progress.proofs.Echoes.{new_case}
use Rattle.dcsctp_theorem_progress.proofs.Establishing.{establishes_along}
use Rattle.dcsctp_theorem_progress.proofs.Facts.{Fit}
use Rattle.dcsctp_theorem_progress.proofs.FourExchanges.{four_exchanges}
use Rattle.dcsctp_theorem_progress.proofs.Handed.{Settles, keep_same, settles}
use Rattle.dcsctp_theorem_progress.proofs.Joined.{JoinedBy}
use Rattle.dcsctp_theorem_progress.proofs.Meanwhile.{ClockMoves, closed_moves_by, same_greatest, is_greatest, greatest_fits}
use Rattle.dcsctp_theorem_progress.proofs.Promise.{MovedOf, SettledBy, fit_of, lesser_of, moment_by, moves_of, ran_lost, settled_in}
use Rattle.dcsctp_theorem_progress.proofs.Retries.{due_next, first_expiry, never, next_is, next_is_first, same_expiry, t1_continues, t1_fits}
use Rattle.dcsctp_theorem_progress.proofs.Views.{AtOf, KeepOf, View, ran, ran_exchanges, view_then}

least : (n : ℕ) → n ≤ n
least n = omega arith

-- ---- lost rounds

-- This side awaits a COOKIE ACK with that many restarts left, and the other takes the COOKIE ECHO at that moment.
pub record DataReady (side : Side) (options : Both Options) (run : List PerformedAct) (cookie : Cookie) (bytes : List ℕ) (more last m n : ℕ) : Type 0 where
  pub v : View
  pub w : View
  pub at : AtOf side options run v w
  pub keep : KeepOf side options v w
  pub echoed : EchoesWithData v.endpoint w.endpoint cookie bytes
  pub t1 : RetriesT1 v.endpoint more
  pub expires : t1_expiry v.endpoint more ≡ last
  pub other : TakesCookie (with_clock (max w.endpoint.moment last) w.endpoint) cookie
  pub mine : v.told ≡ m
  pub others : w.told ≡ n

-- What the clocks do in a round.
record Turned (side : Side) (options : Both Options) (run : List PerformedAct) (v w : View) (cookie : Cookie) (bytes : List ℕ) (h : EchoesWithData v.endpoint w.endpoint cookie bytes) : Type 0 where
  moment : ℕ
  is_next : moment ≡ next_moment v.endpoint
  mine : List Transition
  others : List Transition
  echoed : EchoedOn (with_clock moment v.endpoint) (echoing_end v.endpoint.options w.endpoint.options cookie) bytes (view_then v mine).endpoint (events_of mine)
  moves : ClockMoves w moment others
  at : AtOf side options run (view_then v mine) (view_then w others)

turned : (side : Side) (options : Both Options) (earlier run : List PerformedAct) (v w : View) (cookie : Cookie) (bytes : List ℕ) (more : ℕ) → AreUsable options → AreFitting options
    → AtOf side options earlier v w → KeepOf side options v w → (h : EchoesWithData v.endpoint w.endpoint cookie bytes) → RetriesT1 v.endpoint (suc more) → w.endpoint.core ≡ closed
    → AdvancesBothClocks options earlier run → SocketRun options run → Turned side options run v w cookie bytes h
turned side options earlier run v w cookie bytes more are fit at keep h t1 rests time runs =
    let moment : ℕ = lesser_of side v w in
    let counted : timers_counted v.endpoint.core ≡ t1_timer ∷ [] = ap timers_counted h.core in
    let good : Fit v.endpoint.options w.endpoint.options = fit_of side options v w are fit keep in
    let moved : MovedOf side options run v w moment = moves_of side options earlier run v w at keep time runs in
    let at_t1 : moment ≡ next_moment v.endpoint = moment_by side v w (subst (λ (n : ℕ). next_moment v.endpoint ≤ n) (sym (never w.endpoint rests)) (t1_fits v.endpoint (suc more) counted t1)) in
    let due : DueT1 v.endpoint moment = subst (DueT1 v.endpoint) (sym at_t1) (due_next v.endpoint more counted t1) in
    record {
      moment = moment;
      is_next = at_t1;
      mine = moved.mine;
      others = moved.others;
      echoed = echo_goes_again v.endpoint cookie.addressee (echoing_end v.endpoint.options w.endpoint.options cookie) bytes moment moved.mine
          (echoes_on v.endpoint w.endpoint cookie bytes h) good.good_a due moved.mine_turns;
      moves = closed_moves_by (nat_le w.endpoint.moment moment) w moment moved.others refl rests moved.others_turns;
      at = moved.at;
    }

takes_then : (w : View) (cookie : Cookie) (moment last : ℕ) (turns : List Transition) → moment ≤ last → ClockMoves w moment turns → TakesCookie (with_clock (max w.endpoint.moment last) w.endpoint) cookie
    → TakesCookie (with_clock (max (view_then w turns).endpoint.moment last) (view_then w turns).endpoint) cookie
takes_then w cookie moment last turns within moves h =
    subst (λ (f : Endpoint). TakesCookie (with_clock (max f.moment last) f) cookie) (sym moves.endpoint)
    (subst (λ (n : ℕ). TakesCookie (with_clock n w.endpoint) cookie) (sym (same_greatest w.endpoint.moment moment last within)) h)

lost_round : (side : Side) (options : Both Options) (earlier run : List PerformedAct) (cookie : Cookie) (bytes : List ℕ) (more last m n : ℕ) → AreUsable options → AreFitting options
    → DataReady side options earlier cookie bytes (suc more) last m n → AdvancesBothClocks options earlier run → SocketRun options run → DataReady side options run cookie bytes more last m n
lost_round side options earlier run cookie bytes more last m n are fit h time runs =
    let t : Turned side options run h.v h.w cookie bytes h.echoed = turned side options earlier run h.v h.w cookie bytes more are fit h.at h.keep h.echoed h.t1 h.other.core time runs in
    let counted : timers_counted h.v.endpoint.core ≡ t1_timer ∷ [] = ap timers_counted h.echoed.core in
    let here : View = view_then h.v t.mine in
    let there : View = view_then h.w t.others in
    let same : there.endpoint.options ≡ h.w.endpoint.options = ap (λ (f : Endpoint). f.options) t.moves.endpoint in
    let fits : t.moment ≤ max_nanos = subst (λ (k : ℕ). k ≤ max_nanos) (sym t.is_next) (t1_fits h.v.endpoint (suc more) counted h.t1) in
    let now : t.moment ≡ max h.t1.timer.deadline h.v.endpoint.moment = t.is_next ∙ next_is h.v.endpoint h.t1.timer counted h.t1.runs in
    let within : t.moment ≤ last = subst (λ (k : ℕ). t.moment ≤ k) h.expires (subst (λ (k : ℕ). k ≤ t1_expiry h.v.endpoint (suc more)) (sym t.is_next) (next_is_first h.v.endpoint more counted h.t1)) in
    record {
      v = here;
      w = there;
      at = t.at;
      keep = keep_same side options h.v h.w here there t.echoed.waited.options same h.keep;
      echoed = awaits_still h.v.endpoint h.w.endpoint here.endpoint there.endpoint cookie bytes t.moment (events_of t.mine) h.echoed t.echoed.waited same;
      t1 = t1_continues h.v.endpoint here.endpoint more t.moment fits h.t1 t.echoed.waited.moment t.echoed.t1;
      expires = same_expiry h.v.endpoint here.endpoint more t.moment h.t1.timer h.t1.runs now t.echoed.waited.moment t.echoed.t1 ∙ h.expires;
      other = takes_then h.w cookie t.moment last t.others within t.moves h.other;
      mine = t.echoed.waited.told h.v.told ∙ h.mine;
      others = t.moves.told ∙ h.others;
    }

lost_rounds : (lost : ℕ) (side : Side) (options : Both Options) (earlier run : List PerformedAct) (cookie : Cookie) (bytes : List ℕ) (last m n : ℕ) → AreUsable options → AreFitting options
    → DataReady side options earlier cookie bytes (suc lost) last m n → LostRounds options lost earlier run → SocketRun options run → DataReady side options run cookie bytes 1 last m n
lost_rounds zero side options earlier run cookie bytes last m n are fit h is runs = subst (λ (r : List PerformedAct). DataReady side options r cookie bytes 1 last m n) (sym is) h
lost_rounds (suc lost) side options earlier run cookie bytes last m n are fit h rounds runs =
    lost_rounds lost side options rounds.0 run cookie bytes last m n are fit
    (lost_round side options earlier rounds.0 cookie bytes (suc lost) last m n are fit h rounds.1 (ran_lost options lost rounds.0 run rounds.2 runs)) rounds.2 runs

-- ---- the quiet round

-- Its clock shows that moment or a later one.
takes_now : (f : Endpoint) (cookie : Cookie) (last : ℕ) → last ≤ f.moment → TakesCookie (with_clock (max f.moment last) f) cookie → TakesCookie f cookie
takes_now f cookie last late h =
    let now : TakesCookie (with_clock f.moment f) cookie = subst (λ (n : ℕ). TakesCookie (with_clock n f) cookie) (is_greatest f.moment last late) h in
    record { core = now.core; unheld = now.unheld; unpaused = now.unpaused; taken = now.taken }

quiet_round : HandshakeLaws → (side : Side) (options : Both Options) (settled : Both ℕ) (earlier run : List PerformedAct) (cookie : Cookie) (bytes : List ℕ) (last m n : ℕ) → AreUsable options → AreFitting options
    → DataReady side options earlier cookie bytes 1 last m n → QuietRound options (counts_shown options (turns_after earlier)) earlier settled run → SocketRun options run → SettledBy side options run (suc m) (suc n)
quiet_round law side options settled earlier run cookie bytes last m n are fit h quiet runs =
    let between : SocketRun options quiet.between = ran_exchanges options 4 _ quiet.between settled run quiet.exchanges runs in
    let t : Turned side options quiet.between h.v h.w cookie bytes h.echoed = turned side options earlier quiet.between h.v h.w cookie bytes 0 are fit h.at h.keep h.echoed h.t1 h.other.core quiet.time between in
    let counted : timers_counted h.v.endpoint.core ≡ t1_timer ∷ [] = ap timers_counted h.echoed.core in
    let here : View = view_then h.v t.mine in
    let there : View = view_then h.w t.others in
    let same : there.endpoint.options ≡ h.w.endpoint.options = ap (λ (f : Endpoint). f.options) t.moves.endpoint in
    let at_last : t.moment ≡ last = t.is_next ∙ first_expiry h.v.endpoint 1 counted h.t1 ∙ h.expires in
    let late : last ≤ there.endpoint.moment = subst (λ (f : Endpoint). last ≤ f.moment) (sym t.moves.endpoint) (subst (λ (k : ℕ). k ≤ max h.w.endpoint.moment t.moment) at_last (greatest_fits h.w.endpoint.moment t.moment)) in
    let taken : TakesCookie there.endpoint cookie =
    takes_now there.endpoint cookie last late (takes_then h.w cookie t.moment last t.others (subst (λ (k : ℕ). t.moment ≤ k) at_last (least t.moment)) t.moves h.other) in
    let kept : KeepOf side options here there = keep_same side options h.v h.w here there t.echoed.waited.options same h.keep in
    let both : Fit here.endpoint.options there.endpoint.options = fit_of side options here there are fit kept in
    let read : ReadPairs cookie = read_pairs_fit bytes cookie h.echoed.fits.cookie_in_bytes h.echoed.reads in
    let offered : cookie.offer ≡ offer_of here.endpoint.options = h.echoed.offer ∙ ap offer_of (sym t.echoed.waited.options) in
    let counts : Settles (counts_shown options (turns_after earlier)) side (length h.v.shown) (length h.w.shown) = settles side options earlier h.v h.w h.at in
    let joined : JoinedBy side options run here there (suc here.told) (suc there.told) =
    four_exchanges law suc side options here there cookie bytes h.v.shown (counts_shown options (turns_after earlier)) settled quiet.between run both
    (subst (λ (o : Options). EchoUnder here o cookie bytes h.v.shown) (sym same) (under_again h.v h.w cookie bytes t.moment t.mine h.echoed t.echoed))
    (record { offered = offered; fits = both.good_a.fits; maker = read.maker; port = both.to_b }) (record { offered = offered; fits = both.good_b.fits; addressee = read.addressee; port = both.to_a })
    (λ more turns each input.
    establishes_along law there.endpoint closed here.endpoint.options cookie bytes more turns taken.core (ap (awaits_opening there.endpoint) taken.core) (new_case (counted_at there.endpoint) cookie taken.taken)
    (λ has e o begin. begin) (record { reads = h.echoed.reads; fits = h.echoed.fits; own = read.maker }) taken.unpaused both.good_a both.good_b both.to_b each input)
    kept t.at (record { mine = counts.mine; others = counts.others ∙ sym t.moves.shown }) quiet.exchanges runs in
    subst (λ (k : ℕ). SettledBy side options run (suc k) (suc n)) (t.echoed.waited.told h.v.told ∙ h.mine)
    (subst (λ (k : ℕ). SettledBy side options run (suc here.told) (suc k)) (t.moves.told ∙ h.others) (settled_in side options run here there _ _ kept joined))

pub data_connects_after : HandshakeLaws → (side : Side) (options : Both Options) (lost : ℕ) (settled : Both ℕ) (earlier between run : List PerformedAct) (cookie : Cookie) (bytes : List ℕ) (last m n : ℕ)
    → AreUsable options → AreFitting options → DataReady side options earlier cookie bytes (suc lost) last m n → LostRounds options lost earlier between
    → QuietRound options (counts_shown options (turns_after between)) between settled run → SocketRun options run → SettledBy side options run (suc m) (suc n)
data_connects_after law side options lost settled earlier between run cookie bytes last m n are fit h rounds quiet runs =
    let there : SocketRun options between = ran options between _ quiet.between quiet.time (ran_exchanges options 4 _ quiet.between settled run quiet.exchanges runs) in
    quiet_round law side options settled between run cookie bytes last m n are fit (lost_rounds lost side options earlier between cookie bytes last m n are fit h rounds there) quiet runs
