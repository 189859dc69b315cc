-- A COOKIE ECHO with data behind it, and a socket that has an older association: it begins again.
use Rattle.std.specs.Duration.{as_nanos}
use Rattle.std.specs.Prelude.{nat_le, max}
use Rattle.std.proofs.Common.{◌≡◌, ◌≢◌, ◌<◌, ℕ, suc, false, List, [], ◌∷◌, length, refl, sym, subst, ap, ◌∙◌}
use Rattle.dcsctp_spec_lemmas.specs.types.declared.association.Held.{Held}
use Rattle.dcsctp_spec_lemmas.specs.types.declared.association.Pair.{Pair}
use Rattle.dcsctp_spec_lemmas.specs.types.declared.options.Options.{Options}
use Rattle.dcsctp_spec_lemmas.specs.types.declared.schedule.Side.{Side}
use Rattle.dcsctp_spec_lemmas.specs.types.declared.schedule.Side.TheVariants as sides
use Rattle.dcsctp_spec_lemmas.specs.types.Offer.{offer_of}
use Rattle.dcsctp_spec_lemmas.specs.spec.Cookie.{Cookie, is_stale}
use Rattle.dcsctp_spec_lemmas.specs.spec.endpoint.CallTurns.{Transition, events_of}
use Rattle.dcsctp_spec_lemmas.specs.spec.endpoint.Endpoint.{Endpoint, open_in, established}
use Rattle.dcsctp_spec_lemmas.specs.spec.endpoint.TimeTurns.{TimePassesQuietly, next_moment, t1_timer, timers_counted}
use Rattle.dcsctp_spec_lemmas.specs.spec.endpoint.Turn.{with_clock}
use Rattle.dcsctp_spec_runs.specs.Sockets.{PerformedAct, Both, turns_after, SocketRun}
use Rattle.dcsctp_theorem_sockets.specs.Agreement.{AreUsable}
use Rattle.dcsctp_theorem_sockets.specs.Handshake.{AreFitting}
use Rattle.dcsctp_theorem_sockets.proofs.Bytes.{ReadPairs, read_pairs_fit}
use Rattle.dcsctp_theorem_sockets.proofs.HandshakeTurns.{HandshakeLaws}
use Rattle.dcsctp_theorem_progress.specs.DataEchoes.{EchoesWithData}
use Rattle.dcsctp_theorem_progress.specs.LostInits.{DueT1}
use Rattle.dcsctp_theorem_progress.specs.Restarts.{HasTied, OlderAssociationsGiveWayToData}
use Rattle.dcsctp_theorem_progress.specs.Retries.{RetriesT1}
use Rattle.dcsctp_theorem_progress.specs.Rounds.{QuietRound, counts_shown}
use Rattle.dcsctp_theorem_progress.proofs.DataEcho.{echoes_on, under_again}
use Rattle.dcsctp_theorem_progress.proofs.FourExchanges.{four_exchanges}
use Rattle.dcsctp_theorem_progress.proofs.EchoAgain.{EchoedOn, echo_goes_again}
use Rattle.dcsctp_theorem_progress.proofs.EchoComes.{EchoUnder, echoing_end}
use Rattle.dcsctp_theorem_progress.proofs.Facts.{Fit}
use Rattle.dcsctp_theorem_progress.proofs.Handed.{Settles, keep_same, settles}
use Rattle.dcsctp_theorem_progress.proofs.Joined.{JoinedBy}
use Rattle.dcsctp_theorem_progress.proofs.Meanwhile.{ClockMoves, open_moves_by}
use Rattle.dcsctp_theorem_progress.proofs.OlderTurns.{begins_again}
use Rattle.dcsctp_theorem_progress.proofs.Promise.{MovedOf, Settled, fit_of, lesser_of, moment_by, moves_of, settled_by}
use Rattle.dcsctp_theorem_progress.proofs.Restarts.{no_later}
use Rattle.dcsctp_theorem_progress.proofs.Retries.{due_next}
use Rattle.dcsctp_theorem_progress.proofs.Views.{AtOf, KeepOf, View, ran_exchanges, view, view_then}

-- ---- at that moment

-- Its clock shows that moment or a later one.
record IsTied (e : Endpoint) (cookie : Cookie) : Type 0 where
  mine : Pair
  held : Held
  core : e.core ≡ open_in established mine held
  peer : cookie.addressee.tag ≢ held.peer.tag
  tie : cookie.tie ≡ e.tie
  young : is_stale (as_nanos e.options.cookie_lifetime) e.moment cookie ≡ false

tied_then : (e : Endpoint) (cookie : Cookie) (moment : ℕ) → HasTied e cookie moment → IsTied (with_clock (max e.moment moment) e) cookie
tied_then e cookie moment h = record { mine = h.mine; held = h.held; core = h.core; peer = h.peer; tie = h.tie; young = h.young }

-- ---- the round

older_settles : HandshakeLaws → TimePassesQuietly → (side : Side) (options : Both Options) (settled : Both ℕ) (earlier run : List PerformedAct) (v w : View) (cookie : Cookie) (bytes : List ℕ) → AreUsable options → AreFitting options
    → AtOf side options earlier v w → KeepOf side options v w → EchoesWithData v.endpoint w.endpoint cookie bytes → RetriesT1 v.endpoint 1 → HasTied w.endpoint cookie (next_moment v.endpoint)
    → next_moment v.endpoint < next_moment w.endpoint → QuietRound options (counts_shown options (turns_after earlier)) earlier settled run → SocketRun options run
    → Settled side options run v.told w.told
older_settles law time side options settled earlier run v w cookie bytes are fit at keep h t1 older waits quiet runs =
    let a : Options = v.endpoint.options in
    let b : Options = w.endpoint.options in
    let moment : ℕ = lesser_of side v w in
    let good : Fit a b = fit_of side options v w are fit keep in
    let counted : timers_counted v.endpoint.core ≡ t1_timer ∷ [] = ap timers_counted h.core in
    let between : SocketRun options quiet.between = ran_exchanges options 4 _ quiet.between settled run quiet.exchanges runs in
    let moved : MovedOf side options quiet.between v w moment = moves_of side options earlier quiet.between v w at keep quiet.time between in
    let at_t1 : moment ≡ next_moment v.endpoint = moment_by side v w (no_later (next_moment v.endpoint) (next_moment w.endpoint) waits) in
    let due : DueT1 v.endpoint moment = subst (DueT1 v.endpoint) (sym at_t1) (due_next v.endpoint 0 counted t1) in
    let o : EchoedOn (with_clock moment v.endpoint) (echoing_end a b cookie) bytes (view_then v moved.mine).endpoint (events_of moved.mine) =
    echo_goes_again v.endpoint cookie.addressee (echoing_end a b cookie) bytes moment moved.mine (echoes_on v.endpoint w.endpoint cookie bytes h) good.good_a due moved.mine_turns in
    let clock : ClockMoves w moment moved.others =
    open_moves_by time (nat_le w.endpoint.moment moment) w established older.mine older.held moment moved.others refl older.core
    (subst (λ (k : ℕ). k < next_moment w.endpoint) (sym at_t1) waits) moved.others_turns in
    let here : View = view_then v moved.mine in
    let there : View = view_then w moved.others in
    let same : there.endpoint.options ≡ b = ap (λ (f : Endpoint). f.options) clock.endpoint in
    let tied : IsTied there.endpoint cookie = subst (λ (f : Endpoint). IsTied f cookie) (sym clock.endpoint) (tied_then w.endpoint cookie moment (subst (HasTied w.endpoint cookie) (sym at_t1) older)) in
    let kept : KeepOf side options here there = keep_same side options v w here there o.waited.options same keep in
    let both : Fit here.endpoint.options there.endpoint.options = fit_of side options here there are fit kept in
    let read : ReadPairs cookie = read_pairs_fit bytes cookie h.fits.cookie_in_bytes h.reads in
    let offered : cookie.offer ≡ offer_of here.endpoint.options = h.offer ∙ ap offer_of (sym o.waited.options) in
    let counts : Settles (counts_shown options (turns_after earlier)) side (length v.shown) (length w.shown) = settles side options earlier v w at in
    let joined : JoinedBy side options run here there (suc here.told) (suc there.told) =
    four_exchanges law suc side options here there cookie bytes v.shown (counts_shown options (turns_after earlier)) settled quiet.between run both
    (subst (λ (x : Options). EchoUnder here x cookie bytes v.shown) (sym same) (under_again v w cookie bytes moment moved.mine h o))
    (record { offered = offered; fits = both.good_a.fits; maker = read.maker; port = both.to_b }) (record { offered = offered; fits = both.good_b.fits; addressee = read.addressee; port = both.to_a })
    (λ more turns each input.
    begins_again law there.endpoint tied.mine tied.held here.endpoint.options cookie bytes more turns tied.core tied.peer tied.tie tied.young
    (record { reads = h.reads; fits = h.fits; own = read.maker }) both.good_a both.good_b both.to_b each input)
    kept moved.at (record { mine = counts.mine; others = counts.others ∙ sym clock.shown }) quiet.exchanges runs in
    settled_by side options run here there v.told w.told kept (o.waited.told v.told) clock.told joined

-- ---- the law

pub older_associations_give_way_to_data : HandshakeLaws → TimePassesQuietly → OlderAssociationsGiveWayToData
older_associations_give_way_to_data law time options run are fit runs sides.A settled earlier cookie bytes keeps_a keeps_b echoed t1 older waits quiet =
    let turns : Both (List Transition) = turns_after earlier in
    let v : View = view options.a turns.a in
    let w : View = view options.b turns.b in
    let h : Settled sides.A options run v.told w.told =
    older_settles law time sides.A options settled earlier run v w cookie bytes are fit (record { a = refl; b = refl }) (record { a = keeps_a.same; b = keeps_b.same }) echoed t1 older waits quiet runs in
    record {
      p = h.p;
      q = h.q;
      linked = record { here = ap (λ (x : View). x.endpoint.core) h.at.a ∙ h.linked.here; there = ap (λ (x : View). x.endpoint.core) h.at.b ∙ h.linked.there };
      told_a = ap (λ (x : View). x.told) h.at.a ∙ h.told_mine;
      told_b = ap (λ (x : View). x.told) h.at.b ∙ h.told_others;
    }
older_associations_give_way_to_data law time options run are fit runs sides.B settled earlier cookie bytes keeps_b keeps_a echoed t1 older waits quiet =
    let turns : Both (List Transition) = turns_after earlier in
    let v : View = view options.b turns.b in
    let w : View = view options.a turns.a in
    let h : Settled sides.B options run v.told w.told =
    older_settles law time sides.B options settled earlier run v w cookie bytes are fit (record { a = refl; b = refl }) (record { a = keeps_a.same; b = keeps_b.same }) echoed t1 older waits quiet runs in
    record {
      p = h.q;
      q = h.p;
      linked = record { here = ap (λ (x : View). x.endpoint.core) h.at.a ∙ h.linked.there; there = ap (λ (x : View). x.endpoint.core) h.at.b ∙ h.linked.here };
      told_a = ap (λ (x : View). x.told) h.at.a ∙ h.told_others;
      told_b = ap (λ (x : View). x.told) h.at.b ∙ h.told_mine;
    }
