-- A handshake that begins at the INIT, with a socket that has an older association: it begins again.
use Rattle.std.specs.Duration.{as_nanos}
use Rattle.std.specs.Prelude.{nat_le, max}
use Rattle.std.proofs.Common.{◌≡◌, ◌<◌, ℕ, List, length, refl, sym, subst, ap, ◌∙◌, arith}
use Rattle.dcsctp_spec_lemmas.specs.types.declared.association.Pair.{Pair}
use Rattle.dcsctp_spec_lemmas.specs.types.declared.options.Options.{Options}
use Rattle.dcsctp_spec_lemmas.specs.types.declared.schedule.Side.{Side}
use Rattle.dcsctp_spec_lemmas.specs.types.declared.schedule.Side.TheVariants as sides
use Rattle.dcsctp_spec_lemmas.specs.spec.Cookie.{Cookie, cookie_bytes}
use Rattle.dcsctp_spec_lemmas.specs.spec.CookieFits.{FitsPair}
use Rattle.dcsctp_spec_lemmas.specs.spec.Packet.{init}
use Rattle.dcsctp_spec_lemmas.specs.spec.association.HandshakeChanges.{introduction_of}
use Rattle.dcsctp_spec_lemmas.specs.spec.endpoint.CallTurns.{Transition}
use Rattle.dcsctp_spec_lemmas.specs.spec.endpoint.Endpoint.{Endpoint, established}
use Rattle.dcsctp_spec_lemmas.specs.spec.endpoint.HandshakeOutcomes.{renewed_pair}
use Rattle.dcsctp_spec_lemmas.specs.spec.endpoint.TimeTurns.{TimePassesQuietly, next_moment}
use Rattle.dcsctp_spec_lemmas.specs.spec.endpoint.Turn.{with_clock}
use Rattle.dcsctp_spec_runs.specs.Sockets.{PerformedAct, Both, turns_after, SocketRun}
use Rattle.dcsctp_theorem_sockets.specs.Agreement.{AreUsable}
use Rattle.dcsctp_theorem_sockets.specs.Handshake.{AreFitting}
use Rattle.dcsctp_theorem_sockets.proofs.HandshakeReads.{counted_at, delivered}
use Rattle.dcsctp_theorem_sockets.proofs.HandshakeTurns.{HandshakeLaws}
use Rattle.dcsctp_theorem_progress.specs.Cookies.{OwesNothing}
use Rattle.dcsctp_theorem_progress.specs.LostInits.{AwaitsInitAck}
use Rattle.dcsctp_theorem_progress.specs.Restarts.{HoldsOlder, OlderAssociationsGiveWayToInits}
use Rattle.dcsctp_theorem_progress.specs.Rounds.{Exchanges, LostRounds, QuietRound, counts_shown}
use Rattle.dcsctp_theorem_progress.proofs.AckLost.{comes_first}
use Rattle.dcsctp_theorem_progress.proofs.Chain.{Ground, Replied, answered_connects, begun, given_by}
use Rattle.dcsctp_theorem_progress.proofs.Echoes.{own_bytes}
use Rattle.dcsctp_theorem_progress.proofs.Facts.{Fit, fits_cookie, is_young}
use Rattle.dcsctp_theorem_progress.proofs.Handed.{Handed, Settles, settles, keep_same}
use Rattle.dcsctp_theorem_progress.proofs.Joined.{Joined}
use Rattle.dcsctp_theorem_progress.proofs.Meanwhile.{ClockMoves, open_moves_by}
use Rattle.dcsctp_theorem_progress.proofs.OlderRounds.{OlderReady, lost_rounds}
use Rattle.dcsctp_theorem_progress.proofs.OlderTurns.{Renews, begins_again, renewing, renews}
use Rattle.dcsctp_theorem_progress.proofs.Promise.{MovedOf, Settled, fit_of, lesser_of, moment_by, moves_of, settled_by}
use Rattle.dcsctp_theorem_progress.proofs.Restarts.{no_later}
use Rattle.dcsctp_theorem_progress.proofs.Retries.{awaits_next}
use Rattle.dcsctp_theorem_progress.proofs.Starts.{init_handed}
use Rattle.dcsctp_theorem_progress.proofs.Turns.{init_packet, init_repeated, t1_sends_init}
use Rattle.dcsctp_theorem_progress.proofs.Views.{AtOf, KeepOf, View, ran, ran_exchanges, view, view_then}

-- ---- the exchanges

abbrev renewed : View → View → Pair → ℕ → View
renewed v w p word =
    view_then w (delivered w.endpoint 0 (init (introduction_of v.endpoint.options p)) (renewing (counted_at w.endpoint) (introduction_of v.endpoint.options p) word))

abbrev pair_drawn : View → ℕ → Pair
pair_drawn w word = renewed_pair (counted_at w.endpoint) word

fits_renewed : (e : Endpoint) (word : ℕ) → FitsPair (renewed_pair e word)
fits_renewed e word = record { tag_is_not_zero = omega arith; tag = omega arith; first_tsn = omega arith }

owes_none : (f : Endpoint) (p : Pair) → HoldsOlder f p → OwesNothing f.queues.transfer
owes_none f p h = subst OwesNothing (sym h.known) (h.owes, h.due)

replied_again : HandshakeLaws → (side : Side) (options : Both Options) (v w : View) (p : Pair) (moment word : ℕ) → Ground side options v w p moment → HoldsOlder w.endpoint p
    → Replied v (renewed v w p word) p (pair_drawn w word) w.endpoint.moment w.endpoint.tie w.shown
replied_again law side options v w p moment word g older =
    let a : Options = v.endpoint.options in
    let f : Endpoint = w.endpoint in
    let q : Pair = pair_drawn w word in
    let there : View = renewed v w p word in
    let cookie : Cookie = given_by v p q f.moment f.tie in
    record {
      shown = refl;
      pair = fits_renewed (counted_at f) word;
      takes = λ more turns carried input.
          begins_again law there.endpoint older.mine older.held a cookie (cookie_bytes cookie) more turns older.core older.peer refl
          (is_young (as_nanos f.options.cookie_lifetime) f.moment (introduction_of a p) q f.tie)
          (own_bytes law cookie (fits_cookie a f.moment p q f.tie g.fit.good_a g.awaits.pair (fits_renewed (counted_at f) word) older.tie))
          g.fit.good_a g.fit.good_b g.fit.to_b carried input;
    }

older_connects : HandshakeLaws → (side : Side) (options : Both Options) (v w : View) (p : Pair) (moment : ℕ) (settled settled' : Both ℕ) (earlier run : List PerformedAct)
    → Ground side options v w p moment → HoldsOlder w.endpoint p → AtOf side options earlier (begun v p moment) w → Settles settled side (length v.shown) (length w.shown)
    → Exchanges options 4 settled earlier settled' run → SocketRun options run → Joined side options run v w
older_connects law side options v w p moment settled settled' earlier run g older at counts rest runs =
    let a : Options = v.endpoint.options in
    let f : Endpoint = w.endpoint in
    let here : View = begun v p moment in
    let h : Handed side options rest.0 here w (init_packet a p) = init_handed side options v w p moment settled settled' earlier run g at counts rest runs in
    let one : Renews f (introduction_of a p) h.turns = renews law f a p older.mine older.held h.turns older.core (owes_none f p older) g.fit.good_a g.fit.good_b g.awaits.pair g.fit.to_b h.input in
    let there : View = renewed v w p one.word in
    let ground : Ground side options v there p moment = record { awaits = g.awaits; fit = g.fit; keep = keep_same side options v w v there refl refl g.keep } in
    let j : Joined side options run v there =
    answered_connects law side options v there p (pair_drawn w one.word) moment f.moment f.tie w.shown (counts_shown options (turns_after earlier)) settled' rest.0 run ground
    (replied_again law side options v w p moment one.word g older)
    (subst (λ (os : List Transition). AtOf side options rest.0 here (view_then w os)) one.only h.at) (settles side options earlier here w at) rest.2 runs in
    record { here = j.here; there = j.there; at = j.at; p = j.p; q = j.q; linked = j.linked; told_here = j.told_here; told_there = j.told_there }

-- ---- the quiet round

clock_older : (f : Endpoint) (p : Pair) (moment : ℕ) → HoldsOlder f p → HoldsOlder (with_clock moment f) p
clock_older f p moment h =
    record {
      mine = h.mine;
      held = h.held;
      core = h.core;
      peer = h.peer;
      tie = h.tie;
      transfer = h.transfer;
      known = h.known;
      unpaused = h.unpaused;
      owes = h.owes;
      due = h.due;
      delay = h.delay;
    }

quiet_round : HandshakeLaws → TimePassesQuietly → (side : Side) (options : Both Options) (settled : Both ℕ) (earlier run : List PerformedAct) (p : Pair) (m n : ℕ) → AreUsable options → AreFitting options
    → (h : OlderReady side options earlier p 0 m n) → next_moment h.v.endpoint < next_moment h.w.endpoint
    → QuietRound options (counts_shown options (turns_after earlier)) earlier settled run → SocketRun options run → Settled side options run m n
quiet_round law time side options settled earlier run p m n are fit h waits quiet runs =
    let v : View = h.v in
    let w : View = h.w in
    let moment : ℕ = lesser_of side v w in
    let good : Fit v.endpoint.options w.endpoint.options = fit_of side options v w are fit h.keep in
    let between : SocketRun options quiet.between = ran_exchanges options 4 _ quiet.between settled run quiet.exchanges runs in
    let moved : MovedOf side options quiet.between v w moment = moves_of side options earlier quiet.between v w h.at h.keep quiet.time between in
    let at_t1 : moment ≡ next_moment v.endpoint = moment_by side v w (no_later (next_moment v.endpoint) (next_moment w.endpoint) waits) in
    let clock : ClockMoves w moment moved.others =
    open_moves_by time (nat_le w.endpoint.moment moment) w established h.older.mine h.older.held moment moved.others refl h.older.core
    (subst (λ (k : ℕ). k < next_moment w.endpoint) (sym at_t1) waits) moved.others_turns in
    let there : View = view_then w moved.others in
    let same : there.endpoint.options ≡ w.endpoint.options = ap (λ (f : Endpoint). f.options) clock.endpoint in
    let older : HoldsOlder there.endpoint p =
    subst (λ (f : Endpoint). HoldsOlder f p) (sym clock.endpoint) (clock_older w.endpoint p (max w.endpoint.moment moment) h.older) in
    let awaits : AwaitsInitAck v.endpoint p moment = subst (AwaitsInitAck v.endpoint p) (sym at_t1) (awaits_next v.endpoint p 0 h.tries) in
    let is : moved.mine ≡ init_repeated v.endpoint p moment = t1_sends_init v.endpoint p moment moved.mine awaits.core good.good_a.allow.mtu awaits.t1 moved.mine_turns in
    let keep : KeepOf side options v there = keep_same side options v w v there refl same h.keep in
    let ground : Ground side options v there p moment = record {
      awaits = awaits;
      fit = subst (λ (o : Options). Fit v.endpoint.options o) (sym same) good;
      keep = keep;
    } in
    let counts : Settles (counts_shown options (turns_after earlier)) side (length v.shown) (length w.shown) = settles side options earlier v w h.at in
    let joined : Joined side options run v there =
    older_connects law side options v there p moment (counts_shown options (turns_after earlier)) settled quiet.between run ground older
    (subst (λ (os : List Transition). AtOf side options quiet.between (view_then v os) there) is moved.at) (record { mine = counts.mine; others = counts.others ∙ sym clock.shown }) quiet.exchanges runs in
    settled_by side options run v there m n keep h.mine (clock.told ∙ h.others) joined

older_settles : HandshakeLaws → TimePassesQuietly → (side : Side) (options : Both Options) (lost : ℕ) (settled : Both ℕ) (earlier between run : List PerformedAct) (p : Pair) (m n : ℕ) (x y : View)
    → AreUsable options → AreFitting options → OlderReady side options earlier p lost m n → LostRounds options lost earlier between
    → AtOf side options between x y → next_moment x.endpoint < next_moment y.endpoint
    → QuietRound options (counts_shown options (turns_after between)) between settled run → SocketRun options run → Settled side options run m n
older_settles law time side options lost settled earlier between run p m n x y are fit h rounds seen waits quiet runs =
    let there : SocketRun options between = ran options between _ quiet.between quiet.time (ran_exchanges options 4 _ quiet.between settled run quiet.exchanges runs) in
    let now : OlderReady side options between p 0 m n = lost_rounds lost side options earlier between p m n are fit h rounds there in
    quiet_round law time side options settled between run p m n are fit now (comes_first side options between now.v now.w now.at x y seen waits) quiet runs

-- ---- the law

pub older_associations_give_way_to_inits : HandshakeLaws → TimePassesQuietly → OlderAssociationsGiveWayToInits
older_associations_give_way_to_inits law time options run are fit runs sides.A lost settled earlier between p keeps_a keeps_b tries older stays rounds waits quiet =
    let turns : Both (List Transition) = turns_after earlier in
    let v : View = view options.a turns.a in
    let w : View = view options.b turns.b in
    let ready : OlderReady sides.A options earlier p lost v.told w.told = record {
      v = v;
      w = w;
      at = record { a = refl; b = refl };
      keep = record { a = keeps_a.same; b = keeps_b.same };
      tries = tries;
      older = older;
      stays = stays;
      mine = refl;
      others = refl;
    } in
    let h : Settled sides.A options run v.told w.told =
    older_settles law time sides.A options lost settled earlier between run p v.told w.told (view options.a (turns_after between).a) (view options.b (turns_after between).b) are fit ready rounds
    (record { a = refl; b = refl }) waits quiet runs in
    record {
      p = h.p;
      q = h.q;
      linked = record { here = ap (λ (x : View). x.endpoint.core) h.at.a ∙ h.linked.here; there = ap (λ (x : View). x.endpoint.core) h.at.b ∙ h.linked.there };
      told_a = ap (λ (x : View). x.told) h.at.a ∙ h.told_mine;
      told_b = ap (λ (x : View). x.told) h.at.b ∙ h.told_others;
    }
older_associations_give_way_to_inits law time options run are fit runs sides.B lost settled earlier between p keeps_b keeps_a tries older stays rounds waits quiet =
    let turns : Both (List Transition) = turns_after earlier in
    let v : View = view options.b turns.b in
    let w : View = view options.a turns.a in
    let ready : OlderReady sides.B options earlier p lost v.told w.told = record {
      v = v;
      w = w;
      at = record { a = refl; b = refl };
      keep = record { a = keeps_a.same; b = keeps_b.same };
      tries = tries;
      older = older;
      stays = stays;
      mine = refl;
      others = refl;
    } in
    let h : Settled sides.B options run v.told w.told =
    older_settles law time sides.B options lost settled earlier between run p v.told w.told (view options.b (turns_after between).b) (view options.a (turns_after between).a) are fit ready rounds
    (record { a = refl; b = refl }) waits quiet runs in
    record {
      p = h.q;
      q = h.p;
      linked = record { here = ap (λ (x : View). x.endpoint.core) h.at.a ∙ h.linked.there; there = ap (λ (x : View). x.endpoint.core) h.at.b ∙ h.linked.here };
      told_a = ap (λ (x : View). x.told) h.at.a ∙ h.told_others;
      told_b = ap (λ (x : View). x.told) h.at.b ∙ h.told_mine;
    }
